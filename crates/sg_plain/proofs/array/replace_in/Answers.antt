use Rattle.std.proofs.Common.{◌∙◌, ap}
use Rattle.std.proofs.Common.{List, ℕ, length, ◌≡◌}
use Rattle.std.specs.Prelude.{slice_set}
use Rattle.std.specs.Simd.{first_chunks}
use Rattle.sg_plain.proofs.Chunks.{item_put}
use Rattle.sg_plain.proofs.array.replace_in.Goals as goal

pub returns : goal.returns
returns c =
    let is : c.copy_from_slice.new.self ≡ c.args.value.now = c.copy_from_slice.ensures.after in
    let P : List ℕ → List (List ℕ) = λ item. slice_set (first_chunks c.args.size c.args.count c.args.bytes.now) c.args.index item in
    item_put c.args.size c.args.count c.args.index c.args.bytes.now c.copy_from_slice.new.self c.requires.there c.requires.whole (ap length is ∙ c.requires.sized) ∙ ap P is
