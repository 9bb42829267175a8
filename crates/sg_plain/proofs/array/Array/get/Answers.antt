use Rattle.std.proofs.Common.{ℕ, List, [], Some, sym, ap, ◌∙◌, slice_index_or}
use Rattle.std.specs.Prelude.{slice_get}
use Rattle.std.specs.Simd.{first_chunks}
use Rattle.sg_model.specs.Objects.{Row}
use Rattle.sg_plain.proofs.Chunks.{item_got, no_item}
use Rattle.sg_plain.proofs.array.Array.get.Goals as goal

pub returns-then-index-self-clause-item : goal.returns-then-index-self-clause-item
returns-then-index-self-clause-item c =
    sym (no_item c.self.inside.size c.self.inside.count c.args.index c.self.inside.bytes.items c.if-index-self.true) ∙ ap (λ (r : Row). slice_get r.items c.args.index) c.self.view_is

pub returns-clause-item : goal.returns-clause-item
returns-clause-item c =
    let item : List ℕ → List ℕ = λ bytes. slice_index_or (first_chunks c.self.inside.size c.self.inside.count bytes) c.args.index [] in
    ap Some (c.item_in.ensures.item ∙ ap item c.deref.ensures.value)
    ∙ (sym (item_got c.self.inside.size c.self.inside.count c.args.index c.self.inside.bytes.items c.if-index-self.false) ∙ ap (λ (r : Row). slice_get r.items c.args.index) c.self.view_is)
