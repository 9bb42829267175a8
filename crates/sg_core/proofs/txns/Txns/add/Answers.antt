use Rattle.std.proofs.Common.{ℕ, ◌<◌, false, sym, ap, ◌∙◌, subst, refl, arith, length, ◌++◌, ◌∷◌, [], List}
use Rattle.std.specs.Prelude.{All}
use Rattle.sg_core.specs.Live.{Txn, begun}
use Rattle.sg_core.specs.Slots.{live_of}
use Rattle.sg_core.specs.Order.{in_order}
use Rattle.sg_core.proofs.Order.{ordered_length}
use Rattle.sg_core.proofs.Slots.{live-length}
use Rattle.sg_core.proofs.Kept.{add_order, add_keeps}
use Rattle.sg_core.proofs.txns.Txns.add.Goals as goal

pub insert_reserved-requires : goal.insert_reserved-requires
insert_reserved-requires c =
    let slots = c.self.inside.live.slots in
    let a = live-length slots in let b = ordered_length (live_of slots) in let v = ap length c.self.view_is in
    omega (arith, a, b, v, c.requires.room, c.self.invariant.room)

pub invariant_of-self : goal.invariant_of-self
invariant_of-self c =
    let above = subst (λ (xs : List Txn). All (λ x. x.transaction < c.args.t.0) xs) (sym c.self.view_is) c.requires.above in
    let few = subst (λ (xs : List Txn). length xs < 64) (sym c.self.view_is) c.requires.room in
    add_keeps c.self.inside.live c.insert_reserved.new.self c.insert_reserved.result (record { transaction = c.args.t; reserved = 0; dropped = false; marks = c.none.result }) c.insert_reserved.ensures.was_vacant c.insert_reserved.ensures.updates above
    c.self.inside.reserved c.self.invariant c.insert_reserved.ensures.capacity refl few

pub returns : goal.returns
returns c =
    let above = subst (λ (xs : List Txn). All (λ x. x.transaction < c.args.t.0) xs) (sym c.self.view_is) c.requires.above in
    add_order c.self.inside.live c.insert_reserved.new.self c.insert_reserved.result (record { transaction = c.args.t; reserved = 0; dropped = false; marks = c.none.result }) c.insert_reserved.ensures.was_vacant c.insert_reserved.ensures.updates above
    ∙ (ap (λ (ms : List ℕ). in_order (live_of c.self.inside.live.slots) ++ record { transaction = c.args.t.0; reserved = 0; dropped = false; marks = ms } ∷ []) c.none.ensures
    ∙ ap (λ xs. xs ++ begun c.args.t.0 ∷ []) c.self.view_is)
