use Rattle.std.proofs.Common.{◌≡◌, ◌<◌, ◌≤◌, ◌*◌, ◌+◌, ℕ, List, [], length, map, get_or, ap, sym, ◌∙◌, subst, arith}
use Rattle.std.proofs.lemmas.List.{get_or-map}
use Rattle.std.specs.Ptr.{Ptr}
use Rattle.sg_frames.specs.Zeros.{AreZeros}
use Rattle.std.proofs.Math.Nat.{mul-le-mul_right}
use Rattle.sg_frames.specs.Pieces.{Piece, spot_of, AreSideBySide, spots_from}
use Rattle.sg_frames.proofs.Cutting.{AreCut, are_cut-more}
use Rattle.sg_frames.proofs.Lying.{length-spots, length-lying}
use Rattle.sg_frames.proofs.Entries.{own_spots, own_bytes}
use Rattle.sg_frames.proofs.table.Table.new.Goals as goal

pub slots-preserved : goal.slots-preserved
slots-preserved c =
    let cut = c.cut-piece.ensures in let was = c.slots.invariant.1 in let others = c.cut-piece.result.1 in
    let most : (c.slots.k + 1) * c.args.size ≤ c.args.count * c.args.size = mul-le-mul_right c.args.size (omega arith) in (
      omega (arith, c.slots.invariant.0, c.push_reserved.ensures.capacity),
      subst (λ (xs : List Piece). AreCut c.args.start c.args.at c.args.size c.args.run (c.slots.k + 1) xs others) (sym c.push_reserved.ensures.items)
          (are_cut-more c.args.start c.args.at c.args.size c.args.run c.slots.k c.slots.slots.items c.slots.rest others c.new.result was
          (omega (arith, most, was.long, c.requires.size)) (c.new.ensures.spot ∙ cut.0) (c.new.ensures.bytes ∙ cut.1) cut.2 cut.3),
    )

pub returns-clause-count : goal.returns-clause-count
returns-clause-count c =
    let slots = c.slots.slots.items in let start = c.spot-start.result in let size = c.args.size in
    let many : length slots ≡ c.args.count = omega (arith, c.slots.invariant.1.count, c.slots-test.false, c.slots.auto.k-end) in
    let spots = length-spots start size (length slots) in (
      spots ∙ many,
      length-lying (spots_from start size (length slots)) slots spots ∙ many,
    )

-- the slots lie where the table says
own : (size : ℕ) (slots : List Piece) (start end : Ptr) (first : Piece) → AreSideBySide size (map spot_of slots) end → 0 < length slots → first ≡ get_or slots 0 first → start ≡ first.spot
    → map spot_of slots ≡ spots_from start size (length slots)
own size slots start end first sides some read same =
    own_spots start size slots end sides (get_or-map spot_of slots 0 first start some ∙ ap spot_of (sym read) ∙ sym same)

pub returns-clause-spots : goal.returns-clause-spots
returns-clause-spots c =
    let slots = c.slots.slots.items in let end = c.slots.rest.ptr in let was = c.slots.invariant.1 in
    let some : 0 < length slots = omega (arith, was.count, c.slots-test.false, c.slots.auto.k-end, c.requires.not_empty) in
    subst (λ (ps : List Ptr). AreSideBySide c.args.size ps end) (own c.args.size slots c.spot-start.result end c.index.result.now was.sides some c.index.ensures c.spot-start.ensures) was.sides

pub returns-clause-zeros : goal.returns-clause-zeros
returns-clause-zeros c k below =
    let slots = c.slots.slots.items in let was = c.slots.invariant.1 in
    let some : 0 < length slots = omega (arith, was.count, c.slots-test.false, c.slots.auto.k-end, c.requires.not_empty) in
    let is = own c.args.size slots c.spot-start.result c.slots.rest.ptr c.index.result.now was.sides some c.index.ensures c.spot-start.ensures in
    subst (λ (xs : List (List ℕ)). AreZeros c.args.size (get_or xs k [])) (sym (own_bytes c.spot-start.result c.args.size slots is)) (was.made k (omega (arith, below, c.slots-test.false, c.slots.auto.k-end)))
