use Rattle.std.proofs.Common.{◌≡◌, List, sym, ◌∙◌, ap, subst, arith}
use Rattle.std.specs.Prelude.{All, map, sum_by}
use Rattle.sg_ops.specs.Table.{Table, table_of}
use Rattle.sg_redo.specs.declared.unit.Unit as code
use Rattle.sg_redo.specs.Units.{Lies, replayed_unit}
use Rattle.sg_pool.proofs.OneMore.{shelf_repeated}
use Rattle.sg_pool.proofs.shelf.Shelf.repeat_pages.Goals as goal

pub repeat_from-requires-clause-listed : goal.repeat_from-requires-clause-listed
repeat_from-requires-clause-listed g c ls lf k d lt = let listed = c.args.self.now.shelf.listed in let low = c.requires.pages k d lt in omega (arith, listed, low)

pub repeat_from-requires-clause-placed : goal.repeat_from-requires-clause-placed
repeat_from-requires-clause-placed g c ls lf = let s = c.args.self.now.shelf in record { many = s.many; apart = s.apart; found = s.found }

pub repeat_from-requires-clause-here : goal.repeat_from-requires-clause-here
repeat_from-requires-clause-here g c ls lf f n d lt inside is least = let s = c.args.self.now.shelf in s.here.pages f (let many = s.many in omega (arith, lt, many))

pub repeat_from-requires-clause-lie : goal.repeat_from-requires-clause-lie
repeat_from-requires-clause-lie g c ls lf = subst (λ (l : List code.Unit). All (λ u. Lies c.args.places.now u) l) (sym c.requires.empty) (λ k d lt. absurd (omega (arith, lt)))

pub invariant_of-self : goal.invariant_of-self
invariant_of-self g c =
    let t : Table = table_of (λ p. (goal.RecordOp-dyn g p).record_meaning p.1) (λ p. (goal.RangeOp-dyn g p).range_meaning p.1) c.args.ops.now in
    let s = c.args.self.now in
    record { shelf = shelf_repeated t c.args.text.now _ s.slots.items _ s.frames _ c.repeat_from.ensures.repeated s.pages s.bands s.index.items s.wins s.shelf }

pub returns-clause-empty : goal.returns-clause-empty
returns-clause-empty g c =
    let t : Table = table_of (λ p. (goal.RecordOp-dyn g p).record_meaning p.1) (λ p. (goal.RangeOp-dyn g p).range_meaning p.1) c.args.ops.now in
    c.repeat_from.ensures.units ∙ ap (λ (l : List code.Unit). map (replayed_unit t c.args.text.now c.args.places.now) l) c.requires.empty

pub returns-clause-border : goal.returns-clause-border
returns-clause-border g c = c.repeat_from.ensures.border (λ k d low inside. absurd (omega (arith, low)))

pub returns-clause-steps : goal.returns-clause-steps
returns-clause-steps g c =
    let none : sum_by (λ (u : code.Unit). u.count) c.args.units.now.items ≡ 0 = ap (λ (l : List code.Unit). sum_by (λ (u : code.Unit). u.count) l) c.requires.empty in
    let is = c.repeat_from.ensures.steps in
    omega (arith, none, is)
