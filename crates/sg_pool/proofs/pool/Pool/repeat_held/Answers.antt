use Rattle.std.proofs.Common.{◌≡◌, List, [], refl, subst}
use Rattle.sg_ops.specs.Table.{Table, table_of}
use Rattle.sg_redo.specs.declared.place.Place.{Place}
use Rattle.sg_pool.specs.Redone.{places_of}
use Rattle.sg_pool.specs.Together.{AreRepeated}
use Rattle.sg_pool.proofs.HeldRuns.{held_run}
use Rattle.sg_pool.proofs.OneMore.{none_high, part_front}
use Rattle.sg_pool.proofs.Pooling.{pool_same}
use Rattle.sg_pool.proofs.pool.Pool.repeat_held.Goals as goal

pub invariant_of-self : goal.invariant_of-self
invariant_of-self g c = let s = c.args.self.now in
    record { pool = pool_same s.shelf.slots.items c.repeat_pages.new.self.slots.items s.order.entries s.order.entries c.repeat_pages.ensures.repeated.count s.pool s.pool.order }

pub returns-clause-run : goal.returns-clause-run
returns-clause-run g c told v log bytes =
    let t : Table = table_of (λ p. (goal.RecordOp-dyn g p).record_meaning p.1) (λ p. (goal.RangeOp-dyn g p).range_meaning p.1) c.args.ops.now in
    let s = c.args.self.now in
    let it = c.repeat_pages.ensures in
    let to = c.repeat_pages.result in
    let front = part_front c.args.places.now c.repeat_pages.result in
    held_run told t c.args.text.now _ v log s _ bytes it.geometry it.wins refl
    (subst (λ (l : List Place). AreRepeated t c.args.text.now l s.shelf.slots.items c.repeat_pages.new.self.slots.items s.shelf.frames c.repeat_pages.new.self.frames) front it.repeated)
    (λ n away. subst (λ (l : List Place). places_of n l ≡ []) front (it.held n away))
    (λ n high. none_high c.args.places.now s.shelf.pages to n c.requires.pages high)
