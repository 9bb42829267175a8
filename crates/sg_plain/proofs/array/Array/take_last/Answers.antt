use Rattle.std.proofs.Common.{◌≡◌, ◌<◌, ℕ, List, [], take, length, ◌-◌, suc, sym, ap, ◌∙◌, slice_index_or, arith}
use Rattle.std.specs.Simd.{first_chunks}
use Rattle.sg_model.specs.Objects.{Row}
use Rattle.sg_plain.proofs.Chunks.{last_taken, row_with, length_chunks}
use Rattle.sg_plain.proofs.array.Array.take_last.Goals as goal

pub returns : goal.returns
returns c =
    let size : ℕ = c.self.inside.size in
    let count : ℕ = c.self.inside.count in
    let many : length (first_chunks size count c.self.inside.bytes.items) ≡ length c.args.self.now.items = ap (λ (r : Row). length r.items) c.self.view_is in
    let some : 0 < count = omega (arith, many, length_chunks size count c.self.inside.bytes.items, c.requires.some) in
    let one : count ≡ suc (count - 1) = omega (arith, some) in
    let at : List ℕ → List ℕ = λ bytes. slice_index_or (first_chunks size count bytes) (count - 1) [] in
    let is : take size c.put_front.new.into ≡ at c.self.inside.bytes.items =
    ap (λ (k : ℕ). take k c.put_front.new.into) (sym c.item_in.ensures.size) ∙ (c.put_front.ensures ∙ (c.item_in.ensures.item ∙ ap at c.deref.ensures.value)) in
    sym c.self.view_is ∙ ap (row_with size) (last_taken size count (count - 1) c.self.inside.bytes.items c.truncate.new.self.items (take size c.put_front.new.into) one c.self.invariant.whole c.truncate.ensures.items is)
