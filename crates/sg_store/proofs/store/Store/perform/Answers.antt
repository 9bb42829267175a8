use Rattle.std.proofs.Common.{List, sym, ap, ◌∙◌, arith, refl, ◌≤◌, subst}
use Rattle.sg_core.specs.Live.{Txn}
use Rattle.sg_store.specs.Drops.{MarksOnly}
use Rattle.sg_store.proofs.Marking.{marks_same}
use Rattle.sg_model.specs.SaidOps.{said_op}
use Rattle.sg_store.specs.Seen.{core_of}
use Rattle.sg_store.proofs.Doing as doing
use Rattle.sg_store.proofs.Stocked.{acted_stock}
use Rattle.sg_store.proofs.Still.{left_same, on_refusal, unacted}
use Rattle.sg_store.proofs.Numbering.{unheld_numbers, unroomed_numbers, acted_numbers, had_room}
use Rattle.sg_ops.specs.Table.{table_of}
use Rattle.sg_store.specs.Engine.{led}
use Rattle.sg_store.proofs.store.Store.perform.Given as given
use Rattle.sg_store.proofs.Serving.{serves_on}
use Rattle.sg_store.proofs.Serving as serving
use Rattle.sg_store.specs.Asks.{ShowsSome, IsRunning}
use Rattle.sg_store.specs.Calls.{Acts}
use Rattle.sg_store.specs.Store.{Core}
use Rattle.sg_store.proofs.Resting as resting
use Rattle.sg_store.proofs.Causing as causing
use Rattle.sg_model.specs.Step.{is_changing}
use Rattle.std.specs.Prelude.{◌^◌}
use Rattle.sg_store.proofs.Heeding as heeding
use Rattle.sg_store.proofs.store.Store.perform.Goals as goal

pub returns-then-is_some-clause-does : goal.returns-then-is_some-clause-does
returns-then-is_some-clause-does g c z from m told x lawful shows =
    let t = table_of (λ y. (given.RecordOp-dyn g y).record_meaning y.1) (λ y. (given.RangeOp-dyn g y).range_meaning y.1) c.args.ops.now in
    doing.do_stopped _ (g.E.Engine.basis z) lawful (led t z from (g.E.Engine.view c.args.self.now.engine)) (core_of c.args.self.now) x c.args.txn.0 (said_op c.args.op.now) shows c.args.into.now (led t z from (g.E.Engine.view c.args.self.now.engine)).tail (led t z from (g.E.Engine.view c.args.self.now.engine)).faults (sym c.is_some.ensures ∙ c.if-is_some.true)

pub returns-then-not-is_live-clause-does : goal.returns-then-not-is_live-clause-does
returns-then-not-is_live-clause-does g c z from m told x lawful shows =
    let t = table_of (λ y. (given.RecordOp-dyn g y).record_meaning y.1) (λ y. (given.RangeOp-dyn g y).range_meaning y.1) c.args.ops.now in
    doing.do_none _ (g.E.Engine.basis z) lawful (led t z from (g.E.Engine.view c.args.self.now.engine)) (core_of c.args.self.now) x c.args.txn.0 (said_op c.args.op.now) shows c.args.into.now (sym c.is_some.ensures ∙ c.if-is_some.false) (led t z from (g.E.Engine.view c.args.self.now.engine)).tail (led t z from (g.E.Engine.view c.args.self.now.engine)).faults (sym c.is_live.ensures ∙ c.if-not-is_live.true)

pub returns-in-Err-clause-does : goal.returns-in-Err-clause-does
returns-in-Err-clause-does g c z from m told x lawful shows =
    let t = table_of (λ y. (given.RecordOp-dyn g y).record_meaning y.1) (λ y. (given.RangeOp-dyn g y).range_meaning y.1) c.args.ops.now in
    (let kept = (doing.runs _ (g.E.Engine.basis z) lawful (led t z from (g.E.Engine.view c.args.self.now.engine)) (core_of c.args.self.now) x c.args.txn.0 (said_op c.args.op.now) shows c.args.into.now (sym c.is_some.ensures ∙ c.if-is_some.false)).is_kept in
    let held = (doing.runs _ (g.E.Engine.basis z) lawful (led t z from (g.E.Engine.view c.args.self.now.engine)) (core_of c.args.self.now) x c.args.txn.0 (said_op c.args.op.now) shows c.args.into.now (sym c.is_some.ensures ∙ c.if-is_some.false)).held in
    let live = doing.live _ (g.E.Engine.basis z) lawful (led t z from (g.E.Engine.view c.args.self.now.engine)) (core_of c.args.self.now) x c.args.txn.0 (said_op c.args.op.now) shows c.args.into.now (sym c.is_some.ensures ∙ c.if-is_some.false) (sym c.is_live.ensures ∙ c.if-not-is_live.false) in
    doing.do_unheld _ (g.E.Engine.basis z) lawful (led t z from (g.E.Engine.view c.args.self.now.engine)) (core_of c.args.self.now) x c.args.txn.0 (said_op c.args.op.now) shows c.args.into.now (sym c.is_some.ensures ∙ c.if-is_some.false) (sym c.is_live.ensures ∙ c.if-not-is_live.false) (led t z from (g.E.Engine.view c.hold.new.self.engine)) (core_of c.hold.new.self) _ c.in-Err.why (c.hold.ensures.stays t z from m told x lawful kept) (c.in-Err.ensures.holds t z from m told x lawful kept held live))

pub returns-in-Err-room_for-clause-does : goal.returns-in-Err-room_for-clause-does
returns-in-Err-room_for-clause-does g c z from m told x lawful shows =
    let t = table_of (λ y. (given.RecordOp-dyn g y).record_meaning y.1) (λ y. (given.RangeOp-dyn g y).range_meaning y.1) c.args.ops.now in
    (let kept = (doing.runs _ (g.E.Engine.basis z) lawful (led t z from (g.E.Engine.view c.args.self.now.engine)) (core_of c.args.self.now) x c.args.txn.0 (said_op c.args.op.now) shows c.args.into.now (sym c.is_some.ensures ∙ c.if-is_some.false)).is_kept in
    let held = (doing.runs _ (g.E.Engine.basis z) lawful (led t z from (g.E.Engine.view c.args.self.now.engine)) (core_of c.args.self.now) x c.args.txn.0 (said_op c.args.op.now) shows c.args.into.now (sym c.is_some.ensures ∙ c.if-is_some.false)).held in
    let live = doing.live _ (g.E.Engine.basis z) lawful (led t z from (g.E.Engine.view c.args.self.now.engine)) (core_of c.args.self.now) x c.args.txn.0 (said_op c.args.op.now) shows c.args.into.now (sym c.is_some.ensures ∙ c.if-is_some.false) (sym c.is_live.ensures ∙ c.if-not-is_live.false) in
    let kept1 = doing.kept_along _ (g.E.Engine.basis z) lawful (led t z from (g.E.Engine.view c.args.self.now.engine)) (core_of c.args.self.now) x c.args.txn.0 (said_op c.args.op.now) shows c.args.into.now (led t z from (g.E.Engine.view c.hold.new.self.engine)) c.args.self.now.txns c.hold.new.self.txns c.hold.ensures.live (c.in-Ok.ensures.holds t z from m told x lawful kept held live).0 in
    doing.do_unroomed _ (g.E.Engine.basis z) lawful (led t z from (g.E.Engine.view c.args.self.now.engine)) (core_of c.args.self.now) x c.args.txn.0 (said_op c.args.op.now) shows c.args.into.now (sym c.is_some.ensures ∙ c.if-is_some.false) (sym c.is_live.ensures ∙ c.if-not-is_live.false) (led t z from (g.E.Engine.view c.hold.new.self.engine)) (core_of c.hold.new.self) (c.hold.ensures.stays t z from m told x lawful kept) c.hold.ensures.later (c.in-Ok.ensures.holds t z from m told x lawful kept held live) (led t z from (g.E.Engine.view c.room_for.new.self.engine)) (core_of c.room_for.new.self) c.in-Err-room_for.why (c.room_for.ensures.stays z from (c.hold.ensures.means t z from m) (c.in-Ok.ensures.tells told) x lawful kept1) (c.in-Err-room_for.ensures.rooms z from (c.hold.ensures.means t z from m) (c.in-Ok.ensures.tells told) x lawful kept1))

pub returns-clause-does : goal.returns-clause-does
returns-clause-does g c z from m told x lawful shows =
    let t = table_of (λ y. (given.RecordOp-dyn g y).record_meaning y.1) (λ y. (given.RangeOp-dyn g y).range_meaning y.1) c.args.ops.now in
    (let kept = (doing.runs _ (g.E.Engine.basis z) lawful (led t z from (g.E.Engine.view c.args.self.now.engine)) (core_of c.args.self.now) x c.args.txn.0 (said_op c.args.op.now) shows c.args.into.now (sym c.is_some.ensures ∙ c.if-is_some.false)).is_kept in
    let held = (doing.runs _ (g.E.Engine.basis z) lawful (led t z from (g.E.Engine.view c.args.self.now.engine)) (core_of c.args.self.now) x c.args.txn.0 (said_op c.args.op.now) shows c.args.into.now (sym c.is_some.ensures ∙ c.if-is_some.false)).held in
    let live = doing.live _ (g.E.Engine.basis z) lawful (led t z from (g.E.Engine.view c.args.self.now.engine)) (core_of c.args.self.now) x c.args.txn.0 (said_op c.args.op.now) shows c.args.into.now (sym c.is_some.ensures ∙ c.if-is_some.false) (sym c.is_live.ensures ∙ c.if-not-is_live.false) in
    let kept1 = doing.kept_along _ (g.E.Engine.basis z) lawful (led t z from (g.E.Engine.view c.args.self.now.engine)) (core_of c.args.self.now) x c.args.txn.0 (said_op c.args.op.now) shows c.args.into.now (led t z from (g.E.Engine.view c.hold.new.self.engine)) c.args.self.now.txns c.hold.new.self.txns c.hold.ensures.live (c.in-Ok.ensures.holds t z from m told x lawful kept held live).0 in
    let room = c.in-Ok-room_for.ensures.rooms z from (c.hold.ensures.means t z from m) (c.in-Ok.ensures.tells told) x lawful kept1 in
    let free = doing.room_along _ (g.E.Engine.basis z) lawful (led t z from (g.E.Engine.view c.args.self.now.engine)) (core_of c.args.self.now) x c.args.txn.0 (said_op c.args.op.now) shows c.args.into.now (led t z from (g.E.Engine.view c.room_for.new.self.engine)) c.in-Ok-room_for.needs c.hold.new.self.txns c.room_for.new.self.txns c.room_for.ensures.live room.0 in
    doing.do_acted _ (g.E.Engine.basis z) lawful (led t z from (g.E.Engine.view c.args.self.now.engine)) (core_of c.args.self.now) x c.args.txn.0 (said_op c.args.op.now) shows c.act.new.into (sym c.is_some.ensures ∙ c.if-is_some.false) (sym c.is_live.ensures ∙ c.if-not-is_live.false) (led t z from (g.E.Engine.view c.hold.new.self.engine)) (core_of c.hold.new.self) (c.hold.ensures.stays t z from m told x lawful kept) c.hold.ensures.later (c.in-Ok.ensures.holds t z from m told x lawful kept held live) (led t z from (g.E.Engine.view c.room_for.new.self.engine)) (led t z from (g.E.Engine.view c.act.new.self.engine)) (core_of c.room_for.new.self) (core_of c.act.new.self) c.in-Ok-room_for.needs (c.room_for.ensures.stays z from (c.hold.ensures.means t z from m) (c.in-Ok.ensures.tells told) x lawful kept1) c.room_for.ensures.later room (omega (arith, c.hold.ensures.tail, c.room_for.ensures.tail)) c.in-Ok-room_for.ensures.tested c.act.result c.act.ensures.never
    (c.act.ensures.stays z from (c.room_for.ensures.means z from (c.hold.ensures.means t z from m)) (c.in-Ok-room_for.ensures.tells (c.in-Ok.ensures.tells told)) x lawful free (c.in-Ok.ensures.holds t z from m told x lawful kept held live).1) (c.act.ensures.acts z from (c.room_for.ensures.means z from (c.hold.ensures.means t z from m)) (c.in-Ok-room_for.ensures.tells (c.in-Ok.ensures.tells told)) x lawful free (c.in-Ok.ensures.holds t z from m told x lawful kept held live).1))

pub returns-in-Err-clause-numbers : goal.returns-in-Err-clause-numbers
returns-in-Err-clause-numbers g c z from m told x lawful shows =
    let t = table_of (λ y. (given.RecordOp-dyn g y).record_meaning y.1) (λ y. (given.RangeOp-dyn g y).range_meaning y.1) c.args.ops.now in
    let kept = (doing.runs _ (g.E.Engine.basis z) lawful (led t z from (g.E.Engine.view c.args.self.now.engine)) (core_of c.args.self.now) x c.args.txn.0 (said_op c.args.op.now) shows c.args.into.now (sym c.is_some.ensures ∙ c.if-is_some.false)).is_kept in
    let held = (doing.runs _ (g.E.Engine.basis z) lawful (led t z from (g.E.Engine.view c.args.self.now.engine)) (core_of c.args.self.now) x c.args.txn.0 (said_op c.args.op.now) shows c.args.into.now (sym c.is_some.ensures ∙ c.if-is_some.false)).held in
    let live = doing.live _ (g.E.Engine.basis z) lawful (led t z from (g.E.Engine.view c.args.self.now.engine)) (core_of c.args.self.now) x c.args.txn.0 (said_op c.args.op.now) shows c.args.into.now (sym c.is_some.ensures ∙ c.if-is_some.false) (sym c.is_live.ensures ∙ c.if-not-is_live.false) in
    unheld_numbers _ (g.E.Engine.basis z) lawful (led t z from (g.E.Engine.view c.args.self.now.engine)) c.args.self.now.txns (led t z from (g.E.Engine.view c.args.self.now.engine)) (led t z from (g.E.Engine.view c.hold.new.self.engine)) (core_of c.args.self.now) (core_of c.hold.new.self) x c.args.txn.0 (said_op c.args.op.now) c.in-Err.why (c.in-Err.ensures.holds t z from m told x lawful kept held live)

pub returns-in-Err-room_for-clause-numbers : goal.returns-in-Err-room_for-clause-numbers
returns-in-Err-room_for-clause-numbers g c z from m told x lawful shows =
    let t = table_of (λ y. (given.RecordOp-dyn g y).record_meaning y.1) (λ y. (given.RangeOp-dyn g y).range_meaning y.1) c.args.ops.now in
    let kept = (doing.runs _ (g.E.Engine.basis z) lawful (led t z from (g.E.Engine.view c.args.self.now.engine)) (core_of c.args.self.now) x c.args.txn.0 (said_op c.args.op.now) shows c.args.into.now (sym c.is_some.ensures ∙ c.if-is_some.false)).is_kept in
    let held = (doing.runs _ (g.E.Engine.basis z) lawful (led t z from (g.E.Engine.view c.args.self.now.engine)) (core_of c.args.self.now) x c.args.txn.0 (said_op c.args.op.now) shows c.args.into.now (sym c.is_some.ensures ∙ c.if-is_some.false)).held in
    let live = doing.live _ (g.E.Engine.basis z) lawful (led t z from (g.E.Engine.view c.args.self.now.engine)) (core_of c.args.self.now) x c.args.txn.0 (said_op c.args.op.now) shows c.args.into.now (sym c.is_some.ensures ∙ c.if-is_some.false) (sym c.is_live.ensures ∙ c.if-not-is_live.false) in
    let kept1 = doing.kept_along _ (g.E.Engine.basis z) lawful (led t z from (g.E.Engine.view c.args.self.now.engine)) (core_of c.args.self.now) x c.args.txn.0 (said_op c.args.op.now) shows c.args.into.now (led t z from (g.E.Engine.view c.hold.new.self.engine)) c.args.self.now.txns c.hold.new.self.txns c.hold.ensures.live (c.in-Ok.ensures.holds t z from m told x lawful kept held live).0 in
    unroomed_numbers _ (g.E.Engine.basis z) lawful (led t z from (g.E.Engine.view c.args.self.now.engine)) c.args.self.now.txns (led t z from (g.E.Engine.view c.hold.new.self.engine)) (led t z from (g.E.Engine.view c.room_for.new.self.engine)) (core_of c.hold.new.self) (core_of c.room_for.new.self) x (said_op c.args.op.now) c.hold.ensures.live (c.hold.ensures.same (ap (λ (k : Core). k.stopped) c.in-Ok.ensures.causes ∙ (causing.none_of _ (sym c.is_some.ensures ∙ c.if-is_some.false))) t z from m told x lawful kept) c.in-Err-room_for.why (c.in-Err-room_for.ensures.rooms z from (c.hold.ensures.means t z from m) (c.in-Ok.ensures.tells told) x lawful kept1)

pub returns-clause-numbers : goal.returns-clause-numbers
returns-clause-numbers g c z from m told x lawful shows =
    let t = table_of (λ y. (given.RecordOp-dyn g y).record_meaning y.1) (λ y. (given.RangeOp-dyn g y).range_meaning y.1) c.args.ops.now in
    let kept = (doing.runs _ (g.E.Engine.basis z) lawful (led t z from (g.E.Engine.view c.args.self.now.engine)) (core_of c.args.self.now) x c.args.txn.0 (said_op c.args.op.now) shows c.args.into.now (sym c.is_some.ensures ∙ c.if-is_some.false)).is_kept in
    let held = (doing.runs _ (g.E.Engine.basis z) lawful (led t z from (g.E.Engine.view c.args.self.now.engine)) (core_of c.args.self.now) x c.args.txn.0 (said_op c.args.op.now) shows c.args.into.now (sym c.is_some.ensures ∙ c.if-is_some.false)).held in
    let live = doing.live _ (g.E.Engine.basis z) lawful (led t z from (g.E.Engine.view c.args.self.now.engine)) (core_of c.args.self.now) x c.args.txn.0 (said_op c.args.op.now) shows c.args.into.now (sym c.is_some.ensures ∙ c.if-is_some.false) (sym c.is_live.ensures ∙ c.if-not-is_live.false) in
    let kept1 = doing.kept_along _ (g.E.Engine.basis z) lawful (led t z from (g.E.Engine.view c.args.self.now.engine)) (core_of c.args.self.now) x c.args.txn.0 (said_op c.args.op.now) shows c.args.into.now (led t z from (g.E.Engine.view c.hold.new.self.engine)) c.args.self.now.txns c.hold.new.self.txns c.hold.ensures.live (c.in-Ok.ensures.holds t z from m told x lawful kept held live).0 in
    let room = c.in-Ok-room_for.ensures.rooms z from (c.hold.ensures.means t z from m) (c.in-Ok.ensures.tells told) x lawful kept1 in
    let free = doing.room_along _ (g.E.Engine.basis z) lawful (led t z from (g.E.Engine.view c.args.self.now.engine)) (core_of c.args.self.now) x c.args.txn.0 (said_op c.args.op.now) shows c.args.into.now (led t z from (g.E.Engine.view c.room_for.new.self.engine)) c.in-Ok-room_for.needs c.hold.new.self.txns c.room_for.new.self.txns c.room_for.ensures.live room.0 in
    let had = had_room _ (g.E.Engine.basis z) lawful (led t z from (g.E.Engine.view c.args.self.now.engine)) (led t z from (g.E.Engine.view c.hold.new.self.engine)) (led t z from (g.E.Engine.view c.room_for.new.self.engine)) c.args.self.now.txns c.hold.new.self.txns x (said_op c.args.op.now) c.in-Ok-room_for.needs c.hold.ensures.live (c.hold.ensures.same (ap (λ (k : Core). k.stopped) c.in-Ok.ensures.causes ∙ (causing.none_of _ (sym c.is_some.ensures ∙ c.if-is_some.false))) t z from m told x lawful kept) (c.room_for.ensures.same (ap (λ (k : Core). k.stopped) c.in-Ok-room_for.ensures.causes ∙ (ap (λ (k : Core). k.stopped) c.in-Ok.ensures.causes ∙ (causing.none_of _ (sym c.is_some.ensures ∙ c.if-is_some.false)))) z from (c.hold.ensures.means t z from m) (c.in-Ok.ensures.tells told) x lawful kept1) room.0 in
    acted_numbers _ (g.E.Engine.basis z) lawful (led t z from (g.E.Engine.view c.args.self.now.engine)) c.args.self.now.txns (led t z from (g.E.Engine.view c.room_for.new.self.engine)) (led t z from (g.E.Engine.view c.act.new.self.engine)) (core_of c.room_for.new.self) (core_of c.act.new.self) x c.args.txn.0 (said_op c.args.op.now) c.act.new.into had c.act.result (c.act.ensures.acts z from (c.room_for.ensures.means z from (c.hold.ensures.means t z from m)) (c.in-Ok-room_for.ensures.tells (c.in-Ok.ensures.tells told)) x lawful free (c.in-Ok.ensures.holds t z from m told x lawful kept held live).1)

pub returns-clause-stock : goal.returns-clause-stock
returns-clause-stock g c z from m told x lawful shows =
    let t = table_of (λ y. (given.RecordOp-dyn g y).record_meaning y.1) (λ y. (given.RangeOp-dyn g y).range_meaning y.1) c.args.ops.now in
    let kept = (doing.runs _ (g.E.Engine.basis z) lawful (led t z from (g.E.Engine.view c.args.self.now.engine)) (core_of c.args.self.now) x c.args.txn.0 (said_op c.args.op.now) shows c.args.into.now (sym c.is_some.ensures ∙ c.if-is_some.false)).is_kept in
    let held = (doing.runs _ (g.E.Engine.basis z) lawful (led t z from (g.E.Engine.view c.args.self.now.engine)) (core_of c.args.self.now) x c.args.txn.0 (said_op c.args.op.now) shows c.args.into.now (sym c.is_some.ensures ∙ c.if-is_some.false)).held in
    let live = doing.live _ (g.E.Engine.basis z) lawful (led t z from (g.E.Engine.view c.args.self.now.engine)) (core_of c.args.self.now) x c.args.txn.0 (said_op c.args.op.now) shows c.args.into.now (sym c.is_some.ensures ∙ c.if-is_some.false) (sym c.is_live.ensures ∙ c.if-not-is_live.false) in
    let kept1 = doing.kept_along _ (g.E.Engine.basis z) lawful (led t z from (g.E.Engine.view c.args.self.now.engine)) (core_of c.args.self.now) x c.args.txn.0 (said_op c.args.op.now) shows c.args.into.now (led t z from (g.E.Engine.view c.hold.new.self.engine)) c.args.self.now.txns c.hold.new.self.txns c.hold.ensures.live (c.in-Ok.ensures.holds t z from m told x lawful kept held live).0 in
    let room = c.in-Ok-room_for.ensures.rooms z from (c.hold.ensures.means t z from m) (c.in-Ok.ensures.tells told) x lawful kept1 in
    let free = doing.room_along _ (g.E.Engine.basis z) lawful (led t z from (g.E.Engine.view c.args.self.now.engine)) (core_of c.args.self.now) x c.args.txn.0 (said_op c.args.op.now) shows c.args.into.now (led t z from (g.E.Engine.view c.room_for.new.self.engine)) c.in-Ok-room_for.needs c.hold.new.self.txns c.room_for.new.self.txns c.room_for.ensures.live room.0 in
    acted_stock _ (g.E.Engine.basis z) (led t z from (g.E.Engine.view c.args.self.now.engine)) (led t z from (g.E.Engine.view c.hold.new.self.engine)) (led t z from (g.E.Engine.view c.room_for.new.self.engine)) (led t z from (g.E.Engine.view c.act.new.self.engine))
    (core_of c.room_for.new.self) (core_of c.act.new.self) x c.args.txn.0 (said_op c.args.op.now) c.act.new.into
    (c.hold.ensures.same (ap (λ (k : Core). k.stopped) c.in-Ok.ensures.causes ∙ (causing.none_of _ (sym c.is_some.ensures ∙ c.if-is_some.false))) t z from m told x lawful kept)
    (c.room_for.ensures.same (ap (λ (k : Core). k.stopped) c.in-Ok-room_for.ensures.causes ∙ (ap (λ (k : Core). k.stopped) c.in-Ok.ensures.causes ∙ (causing.none_of _ (sym c.is_some.ensures ∙ c.if-is_some.false)))) z from (c.hold.ensures.means t z from m) (c.in-Ok.ensures.tells told) x lawful kept1) c.act.result
    (c.act.ensures.acts z from (c.room_for.ensures.means z from (c.hold.ensures.means t z from m)) (c.in-Ok-room_for.ensures.tells (c.in-Ok.ensures.tells told))
    x lawful free (c.in-Ok.ensures.holds t z from m told x lawful kept held live).1)

pub returns-in-Err-clause-serves : goal.returns-in-Err-clause-serves
returns-in-Err-clause-serves g c =
    let t = table_of (λ y. (given.RecordOp-dyn g y).record_meaning y.1) (λ y. (given.RangeOp-dyn g y).range_meaning y.1) c.args.ops.now in
    serves_on t (g.E.Engine.view c.args.self.now.engine) (g.E.Engine.view c.hold.new.self.engine) (core_of c.args.self.now) _ _ (λ z from m. c.hold.ensures.means t z from m) (λ h. c.hold.ensures.told h)
    (λ z from m tells x lawful shows. returns-in-Err-clause-does g c z from m tells x lawful shows) c.requires.serves

pub returns-in-Err-room_for-clause-serves : goal.returns-in-Err-room_for-clause-serves
returns-in-Err-room_for-clause-serves g c =
    let t = table_of (λ y. (given.RecordOp-dyn g y).record_meaning y.1) (λ y. (given.RangeOp-dyn g y).range_meaning y.1) c.args.ops.now in
    serves_on t (g.E.Engine.view c.args.self.now.engine) (g.E.Engine.view c.room_for.new.self.engine) (core_of c.args.self.now) _ _ (λ z from m. c.room_for.ensures.means z from (c.hold.ensures.means t z from m)) (λ h. c.hold.ensures.told (c.room_for.ensures.told h))
    (λ z from m tells x lawful shows. returns-in-Err-room_for-clause-does g c z from m tells x lawful shows) c.requires.serves

pub returns-clause-serves : goal.returns-clause-serves
returns-clause-serves g c =
    let t = table_of (λ y. (given.RecordOp-dyn g y).record_meaning y.1) (λ y. (given.RangeOp-dyn g y).range_meaning y.1) c.args.ops.now in
    serves_on t (g.E.Engine.view c.args.self.now.engine) (g.E.Engine.view c.act.new.self.engine) (core_of c.args.self.now) _ _ (λ z from m. c.act.ensures.means z from (c.room_for.ensures.means z from (c.hold.ensures.means t z from m))) (λ h. c.hold.ensures.told (c.room_for.ensures.told (c.act.ensures.told h)))
    (λ z from m tells x lawful shows. returns-clause-does g c z from m tells x lawful shows) c.requires.serves

pub hold-requires-clause-can : goal.hold-requires-clause-can
hold-requires-clause-can g c =
    let t = table_of (λ y. (given.RecordOp-dyn g y).record_meaning y.1) (λ y. (given.RangeOp-dyn g y).range_meaning y.1) c.args.ops.now in
    serving.asked_of t (g.E.Engine.view c.args.self.now.engine) (ShowsSome (core_of c.args.self.now) t) (IsRunning c.args.self.now.txns) (λ b v h. serving.runs_some t b v (core_of c.args.self.now) (sym c.is_some.ensures ∙ c.if-is_some.false) h) c.requires.serves

pub room_for-requires : goal.room_for-requires
room_for-requires g c =
    let t = table_of (λ y. (given.RecordOp-dyn g y).record_meaning y.1) (λ y. (given.RangeOp-dyn g y).range_meaning y.1) c.args.ops.now in
    let s = c.requires.serves in
    record {
      can = record {
        sizes = s.sizes;
        from = λ told. s.from (c.hold.ensures.told told);
        means = λ told. c.hold.ensures.means t s.sizes (s.from (c.hold.ensures.told told)) (s.means (c.hold.ensures.told told));
        can = λ told.
            (let one = c.hold.ensures.told told in
            let h = s.can one in
            let v = led t s.sizes (s.from one) (g.E.Engine.view c.args.self.now.engine) in
            let b = g.E.Engine.basis s.sizes in
            let k : Core = core_of c.args.self.now in
            let u = c.args.txn.0 in
            let op = said_op c.args.op.now in
            let stop = sym c.is_some.ensures ∙ c.if-is_some.false in
            let runs = doing.runs _ b h.lawful v k h.run u op h.shows c.args.into.now stop in
            let live = doing.live _ b h.lawful v k h.run u op h.shows c.args.into.now stop (sym c.is_live.ensures ∙ c.if-not-is_live.false) in
            let holds = c.in-Ok.ensures.holds t s.sizes (s.from one) (s.means one) one h.run h.lawful runs.is_kept runs.held live in
            let w = led t s.sizes (s.from one) (g.E.Engine.view c.hold.new.self.engine) in
            let kept1 = doing.kept_along _ b h.lawful v k h.run u op h.shows c.args.into.now w c.args.self.now.txns c.hold.new.self.txns c.hold.ensures.live holds.0 in
            record { lawful = h.lawful; run = h.run; kept = kept1 });
      };
    }

pub act-requires-clause-can : goal.act-requires-clause-can
act-requires-clause-can g c =
    let t = table_of (λ y. (given.RecordOp-dyn g y).record_meaning y.1) (λ y. (given.RangeOp-dyn g y).range_meaning y.1) c.args.ops.now in
    let s = c.requires.serves in
    record {
      sizes = s.sizes;
      from = λ told. s.from (c.hold.ensures.told (c.room_for.ensures.told told));
      means = λ told. c.room_for.ensures.means s.sizes (s.from (c.hold.ensures.told (c.room_for.ensures.told told))) (c.hold.ensures.means t s.sizes (s.from (c.hold.ensures.told (c.room_for.ensures.told told))) (s.means (c.hold.ensures.told (c.room_for.ensures.told told))));
      can = λ told.
          (let two = c.room_for.ensures.told told in
          let one = c.hold.ensures.told two in
          let h = s.can one in
          let v = led t s.sizes (s.from one) (g.E.Engine.view c.args.self.now.engine) in
          let b = g.E.Engine.basis s.sizes in
          let k : Core = core_of c.args.self.now in
          let u = c.args.txn.0 in
          let op = said_op c.args.op.now in
          let stop = sym c.is_some.ensures ∙ c.if-is_some.false in
          let runs = doing.runs _ b h.lawful v k h.run u op h.shows c.args.into.now stop in
          let live = doing.live _ b h.lawful v k h.run u op h.shows c.args.into.now stop (sym c.is_live.ensures ∙ c.if-not-is_live.false) in
          let holds = c.in-Ok.ensures.holds t s.sizes (s.from one) (s.means one) one h.run h.lawful runs.is_kept runs.held live in
          let w = led t s.sizes (s.from one) (g.E.Engine.view c.hold.new.self.engine) in
          let kept1 = doing.kept_along _ b h.lawful v k h.run u op h.shows c.args.into.now w c.args.self.now.txns c.hold.new.self.txns c.hold.ensures.live holds.0 in
          let room = c.in-Ok-room_for.ensures.rooms s.sizes (s.from one) (c.hold.ensures.means t s.sizes (s.from one) (s.means one)) two h.run h.lawful kept1 in
          let free = doing.room_along _ b h.lawful v k h.run u op h.shows c.args.into.now (led t s.sizes (s.from one) (g.E.Engine.view c.room_for.new.self.engine)) c.in-Ok-room_for.needs c.hold.new.self.txns c.room_for.new.self.txns c.room_for.ensures.live room.0 in
          record { lawful = h.lawful; run = h.run; room = free; granted = holds.1 });
    }

pub returns-in-Err-room_for-clause-means : goal.returns-in-Err-room_for-clause-means
returns-in-Err-room_for-clause-means g c z from m =
    let t = table_of (λ y. (given.RecordOp-dyn g y).record_meaning y.1) (λ y. (given.RangeOp-dyn g y).range_meaning y.1) c.args.ops.now in
    c.room_for.ensures.means z from (c.hold.ensures.means t z from m)

pub returns-clause-means : goal.returns-clause-means
returns-clause-means g c z from m =
    let t = table_of (λ y. (given.RecordOp-dyn g y).record_meaning y.1) (λ y. (given.RangeOp-dyn g y).range_meaning y.1) c.args.ops.now in
    c.act.ensures.means z from (c.room_for.ensures.means z from (c.hold.ensures.means t z from m))

pub returns-clause-rests : goal.returns-clause-rests
returns-clause-rests g c live objects durable s =
    let t = table_of (λ y. (given.RecordOp-dyn g y).record_meaning y.1) (λ y. (given.RangeOp-dyn g y).range_meaning y.1) c.args.ops.now in
    resting.done_if t (g.E.Engine.view c.args.self.now.engine) (g.E.Engine.view c.act.new.self.engine) (core_of c.args.self.now) (core_of c.act.new.self) live objects durable (g.E.Engine.view c.args.self.now.engine).tail (g.E.Engine.view c.act.new.self.engine).tail (g.E.Engine.view c.args.self.now.engine).faults (g.E.Engine.view c.act.new.self.engine).faults c.args.txn.0 (said_op c.args.op.now)
    (λ z from m. c.act.ensures.means z from (c.room_for.ensures.means z from (c.hold.ensures.means t z from m))) (λ h. c.hold.ensures.told (c.room_for.ensures.told (c.act.ensures.told h))) s c.act.new.into c.act.result
    (λ z from m tells x lawful shows. returns-clause-does g c z from m tells x lawful shows)

pub returns-in-Err-clause-told : goal.returns-in-Err-clause-told
returns-in-Err-clause-told g c h = c.hold.ensures.told h

pub returns-in-Err-room_for-clause-told : goal.returns-in-Err-room_for-clause-told
returns-in-Err-room_for-clause-told g c h = c.hold.ensures.told (c.room_for.ensures.told h)

pub returns-clause-told : goal.returns-clause-told
returns-clause-told g c h = c.hold.ensures.told (c.room_for.ensures.told (c.act.ensures.told h))

pub returns-then-is_some-clause-causes : goal.returns-then-is_some-clause-causes
returns-then-is_some-clause-causes g c = (sym c.is_some.ensures ∙ c.if-is_some.true, refl)

pub returns-then-not-is_live-clause-causes : goal.returns-then-not-is_live-clause-causes
returns-then-not-is_live-clause-causes g c = ((causing.none_of _ (sym c.is_some.ensures ∙ c.if-is_some.false)), sym c.is_live.ensures ∙ c.if-not-is_live.true, refl)

pub returns-in-Err-clause-causes : goal.returns-in-Err-clause-causes
returns-in-Err-clause-causes g c = causing.unheld_does (g.E.Engine.view c.args.self.now.engine) (g.E.Engine.view c.hold.new.self.engine) (core_of c.args.self.now) (core_of c.hold.new.self) c.args.txn.0 (causing.none_of _ (sym c.is_some.ensures ∙ c.if-is_some.false)) (sym c.is_live.ensures ∙ c.if-not-is_live.false) (is_changing (said_op c.args.op.now)) c.in-Err.why c.in-Err.ensures.causes

pub returns-in-Err-room_for-clause-causes : goal.returns-in-Err-room_for-clause-causes
returns-in-Err-room_for-clause-causes g c =
    causing.unroomed_does (g.E.Engine.view c.args.self.now.engine) (g.E.Engine.view c.hold.new.self.engine) (g.E.Engine.view c.room_for.new.self.engine) (core_of c.args.self.now) (core_of c.hold.new.self) (core_of c.room_for.new.self) c.args.txn.0 (causing.none_of _ (sym c.is_some.ensures ∙ c.if-is_some.false)) (sym c.is_live.ensures ∙ c.if-not-is_live.false) c.in-Ok.ensures.causes c.hold.ensures.later (is_changing (said_op c.args.op.now)) c.hold.ensures.tail c.in-Err-room_for.why c.in-Err-room_for.ensures.causes

pub returns-clause-causes : goal.returns-clause-causes
returns-clause-causes g c =
    causing.acted_does (g.E.Engine.view c.args.self.now.engine) (g.E.Engine.view c.room_for.new.self.engine) (g.E.Engine.view c.act.new.self.engine) (core_of c.args.self.now) (core_of c.room_for.new.self) (core_of c.act.new.self) c.args.txn.0 (causing.none_of _ (sym c.is_some.ensures ∙ c.if-is_some.false)) (sym c.is_live.ensures ∙ c.if-not-is_live.false) (causing.still_only (g.E.Engine.view c.args.self.now.engine) (g.E.Engine.view c.hold.new.self.engine) (g.E.Engine.view c.room_for.new.self.engine) (core_of c.args.self.now) (core_of c.hold.new.self) (core_of c.room_for.new.self) c.args.txn.0 (causing.none_of _ (sym c.is_some.ensures ∙ c.if-is_some.false)) (sym c.is_live.ensures ∙ c.if-not-is_live.false) c.in-Ok.ensures.causes c.hold.ensures.later c.in-Ok-room_for.ensures.causes) (omega (arith, c.hold.ensures.later, c.room_for.ensures.later)) (is_changing (said_op c.args.op.now))
    (λ is. subst (λ z. z ≤ 2 ^ 62) (c.room_for.ensures.tail ∙ c.hold.ensures.tail) (c.in-Ok-room_for.ensures.tested is)) c.act.result c.act.ensures.causes

pub returns-then-is_some-clause-asks : goal.returns-then-is_some-clause-asks
returns-then-is_some-clause-asks g c = λ e. refl

pub returns-then-not-is_live-clause-asks : goal.returns-then-not-is_live-clause-asks
returns-then-not-is_live-clause-asks g c = λ e. refl

pub returns-in-Err-clause-asks : goal.returns-in-Err-clause-asks
returns-in-Err-clause-asks g c = λ asks. causing.unheld_asks (g.E.Engine.view c.args.self.now.engine) (g.E.Engine.view c.hold.new.self.engine) (core_of c.args.self.now) (core_of c.hold.new.self) c.args.txn.0 (causing.none_of _ (sym c.is_some.ensures ∙ c.if-is_some.false)) (sym c.is_live.ensures ∙ c.if-not-is_live.false) _ c.in-Err.why c.in-Err.ensures.causes asks

pub returns-in-Err-room_for-clause-asks : goal.returns-in-Err-room_for-clause-asks
returns-in-Err-room_for-clause-asks g c = λ asks. causing.unroomed_asks (g.E.Engine.view c.args.self.now.engine) (g.E.Engine.view c.hold.new.self.engine) (g.E.Engine.view c.room_for.new.self.engine) (core_of c.args.self.now) (core_of c.hold.new.self) (core_of c.room_for.new.self) c.args.txn.0 (causing.none_of _ (sym c.is_some.ensures ∙ c.if-is_some.false)) (sym c.is_live.ensures ∙ c.if-not-is_live.false) c.in-Ok.ensures.causes c.hold.ensures.later _ (is_changing (said_op c.args.op.now)) c.in-Err-room_for.why c.in-Err-room_for.ensures.causes asks

pub returns-clause-asks : goal.returns-clause-asks
returns-clause-asks g c = causing.acted_asks (g.E.Engine.view c.args.self.now.engine) (g.E.Engine.view c.room_for.new.self.engine) (g.E.Engine.view c.act.new.self.engine) (core_of c.args.self.now) (core_of c.room_for.new.self) (core_of c.act.new.self) c.args.txn.0 (causing.none_of _ (sym c.is_some.ensures ∙ c.if-is_some.false)) (sym c.is_live.ensures ∙ c.if-not-is_live.false) (causing.still_only (g.E.Engine.view c.args.self.now.engine) (g.E.Engine.view c.hold.new.self.engine) (g.E.Engine.view c.room_for.new.self.engine) (core_of c.args.self.now) (core_of c.hold.new.self) (core_of c.room_for.new.self) c.args.txn.0 (causing.none_of _ (sym c.is_some.ensures ∙ c.if-is_some.false)) (sym c.is_live.ensures ∙ c.if-not-is_live.false) c.in-Ok.ensures.causes c.hold.ensures.later c.in-Ok-room_for.ensures.causes) (omega (arith, c.hold.ensures.later, c.room_for.ensures.later)) _ c.act.result c.act.ensures.causes

pub returns-then-is_some-clause-heeds : goal.returns-then-is_some-clause-heeds
returns-then-is_some-clause-heeds g c =
    heeding.heeds_none c.args.self.now.stop (g.E.Engine.view c.args.self.now.engine)

pub returns-then-not-is_live-clause-heeds : goal.returns-then-not-is_live-clause-heeds
returns-then-not-is_live-clause-heeds g c =
    heeding.heeds_none c.args.self.now.stop (g.E.Engine.view c.args.self.now.engine)

pub returns-in-Err-clause-heeds : goal.returns-in-Err-clause-heeds
returns-in-Err-clause-heeds g c =
    c.hold.ensures.heeds (causing.none_of _ (sym c.is_some.ensures ∙ c.if-is_some.false))

pub returns-in-Err-room_for-clause-heeds : goal.returns-in-Err-room_for-clause-heeds
returns-in-Err-room_for-clause-heeds g c =
    heeding.heeds_then c.args.self.now.stop c.hold.new.self.stop c.room_for.new.self.stop (g.E.Engine.view c.args.self.now.engine) (g.E.Engine.view c.hold.new.self.engine) (g.E.Engine.view c.room_for.new.self.engine) (c.hold.ensures.heeds (causing.none_of _ (sym c.is_some.ensures ∙ c.if-is_some.false))) (c.room_for.ensures.heeds (ap (λ (k : Core). k.stopped) c.in-Ok.ensures.causes ∙ (causing.none_of _ (sym c.is_some.ensures ∙ c.if-is_some.false))))

pub returns-clause-heeds : goal.returns-clause-heeds
returns-clause-heeds g c =
    heeding.heeds_then c.args.self.now.stop c.room_for.new.self.stop c.act.new.self.stop (g.E.Engine.view c.args.self.now.engine) (g.E.Engine.view c.room_for.new.self.engine) (g.E.Engine.view c.act.new.self.engine)
    (heeding.heeds_then c.args.self.now.stop c.hold.new.self.stop c.room_for.new.self.stop (g.E.Engine.view c.args.self.now.engine) (g.E.Engine.view c.hold.new.self.engine) (g.E.Engine.view c.room_for.new.self.engine) (c.hold.ensures.heeds (causing.none_of _ (sym c.is_some.ensures ∙ c.if-is_some.false))) (c.room_for.ensures.heeds (ap (λ (k : Core). k.stopped) c.in-Ok.ensures.causes ∙ (causing.none_of _ (sym c.is_some.ensures ∙ c.if-is_some.false))))) (c.act.ensures.heeds (ap (λ (k : Core). k.stopped) c.in-Ok-room_for.ensures.causes ∙ ap (λ (k : Core). k.stopped) c.in-Ok.ensures.causes ∙ (causing.none_of _ (sym c.is_some.ensures ∙ c.if-is_some.false))))

pub returns-then-is_some-clause-marks : goal.returns-then-is_some-clause-marks
returns-then-is_some-clause-marks g c = marks_same (said_op c.args.op.now) c.args.txn.0 c.args.self.now.txns c.args.self.now.txns refl

pub returns-then-not-is_live-clause-marks : goal.returns-then-not-is_live-clause-marks
returns-then-not-is_live-clause-marks g c = marks_same (said_op c.args.op.now) c.args.txn.0 c.args.self.now.txns c.args.self.now.txns refl

pub returns-in-Err-clause-marks : goal.returns-in-Err-clause-marks
returns-in-Err-clause-marks g c = marks_same (said_op c.args.op.now) c.args.txn.0 c.args.self.now.txns c.hold.new.self.txns c.hold.ensures.live

pub returns-in-Err-room_for-clause-marks : goal.returns-in-Err-room_for-clause-marks
returns-in-Err-room_for-clause-marks g c = marks_same (said_op c.args.op.now) c.args.txn.0 c.args.self.now.txns c.room_for.new.self.txns (c.room_for.ensures.live ∙ c.hold.ensures.live)

pub returns-clause-marks : goal.returns-clause-marks
returns-clause-marks g c = subst (λ (ks : List Txn). MarksOnly c.args.txn.0 (said_op c.args.op.now) ks c.act.new.self.txns) (c.room_for.ensures.live ∙ c.hold.ensures.live) c.act.ensures.marks

pub returns-then-is_some-clause-stock_left : goal.returns-then-is_some-clause-stock_left
returns-then-is_some-clause-stock_left g c none z from m told x lawful shows r shown = shown

pub returns-then-not-is_live-clause-stock_left : goal.returns-then-not-is_live-clause-stock_left
returns-then-not-is_live-clause-stock_left g c none z from m told x lawful shows r shown = shown

pub returns-in-Err-clause-stock_left : goal.returns-in-Err-clause-stock_left
returns-in-Err-clause-stock_left g c none z from m told x lawful shows =
    let t = table_of (λ y. (given.RecordOp-dyn g y).record_meaning y.1) (λ y. (given.RangeOp-dyn g y).range_meaning y.1) c.args.ops.now in
    let runs = doing.runs _ (g.E.Engine.basis z) lawful (led t z from (g.E.Engine.view c.args.self.now.engine)) (core_of c.args.self.now) x c.args.txn.0 (said_op c.args.op.now) shows c.args.into.now (sym c.is_some.ensures ∙ c.if-is_some.false) in
    left_same _ (g.E.Engine.basis z) (led t z from (g.E.Engine.view c.args.self.now.engine)) (led t z from (g.E.Engine.view c.hold.new.self.engine)) (c.hold.ensures.same none t z from m told x lawful runs.is_kept)

pub returns-in-Err-room_for-clause-stock_left : goal.returns-in-Err-room_for-clause-stock_left
returns-in-Err-room_for-clause-stock_left g c none z from m told x lawful shows r shown =
    let t = table_of (λ y. (given.RecordOp-dyn g y).record_meaning y.1) (λ y. (given.RangeOp-dyn g y).range_meaning y.1) c.args.ops.now in
    let runs = doing.runs _ (g.E.Engine.basis z) lawful (led t z from (g.E.Engine.view c.args.self.now.engine)) (core_of c.args.self.now) x c.args.txn.0 (said_op c.args.op.now) shows c.args.into.now (sym c.is_some.ensures ∙ c.if-is_some.false) in
    let live = doing.live _ (g.E.Engine.basis z) lawful (led t z from (g.E.Engine.view c.args.self.now.engine)) (core_of c.args.self.now) x c.args.txn.0 (said_op c.args.op.now) shows c.args.into.now (sym c.is_some.ensures ∙ c.if-is_some.false) (sym c.is_live.ensures ∙ c.if-not-is_live.false) in
    let kept1 = doing.kept_along _ (g.E.Engine.basis z) lawful (led t z from (g.E.Engine.view c.args.self.now.engine)) (core_of c.args.self.now) x c.args.txn.0 (said_op c.args.op.now) shows c.args.into.now (led t z from (g.E.Engine.view c.hold.new.self.engine)) c.args.self.now.txns c.hold.new.self.txns c.hold.ensures.live (c.in-Ok.ensures.holds t z from m told x lawful runs.is_kept runs.held live).0 in
    left_same _ (g.E.Engine.basis z) (led t z from (g.E.Engine.view c.hold.new.self.engine)) (led t z from (g.E.Engine.view c.room_for.new.self.engine)) (c.room_for.ensures.same none z from (c.hold.ensures.means t z from m) (c.in-Ok.ensures.tells told) x lawful kept1) r
    (left_same _ (g.E.Engine.basis z) (led t z from (g.E.Engine.view c.args.self.now.engine)) (led t z from (g.E.Engine.view c.hold.new.self.engine)) (c.hold.ensures.same (ap (λ (k : Core). k.stopped) c.in-Ok.ensures.causes ∙ (causing.none_of _ (sym c.is_some.ensures ∙ c.if-is_some.false))) t z from m told x lawful runs.is_kept) r shown)

pub returns-clause-stock_left : goal.returns-clause-stock_left
returns-clause-stock_left g c none = on_refusal c.act.result (λ why is z from m told x lawful shows.
    let t = table_of (λ y. (given.RecordOp-dyn g y).record_meaning y.1) (λ y. (given.RangeOp-dyn g y).range_meaning y.1) c.args.ops.now in
    let runs = doing.runs _ (g.E.Engine.basis z) lawful (led t z from (g.E.Engine.view c.args.self.now.engine)) (core_of c.args.self.now) x c.args.txn.0 (said_op c.args.op.now) shows c.args.into.now (sym c.is_some.ensures ∙ c.if-is_some.false) in
    let live = doing.live _ (g.E.Engine.basis z) lawful (led t z from (g.E.Engine.view c.args.self.now.engine)) (core_of c.args.self.now) x c.args.txn.0 (said_op c.args.op.now) shows c.args.into.now (sym c.is_some.ensures ∙ c.if-is_some.false) (sym c.is_live.ensures ∙ c.if-not-is_live.false) in
    let kept1 = doing.kept_along _ (g.E.Engine.basis z) lawful (led t z from (g.E.Engine.view c.args.self.now.engine)) (core_of c.args.self.now) x c.args.txn.0 (said_op c.args.op.now) shows c.args.into.now (led t z from (g.E.Engine.view c.hold.new.self.engine)) c.args.self.now.txns c.hold.new.self.txns c.hold.ensures.live (c.in-Ok.ensures.holds t z from m told x lawful runs.is_kept runs.held live).0 in
    let room = c.in-Ok-room_for.ensures.rooms z from (c.hold.ensures.means t z from m) (c.in-Ok.ensures.tells told) x lawful kept1 in
    let free = doing.room_along _ (g.E.Engine.basis z) lawful (led t z from (g.E.Engine.view c.args.self.now.engine)) (core_of c.args.self.now) x c.args.txn.0 (said_op c.args.op.now) shows c.args.into.now (led t z from (g.E.Engine.view c.room_for.new.self.engine)) c.in-Ok-room_for.needs c.hold.new.self.txns c.room_for.new.self.txns c.room_for.ensures.live room.0 in
    unacted t (g.E.Engine.basis z) (led t z from (g.E.Engine.view c.room_for.new.self.engine)) (led t z from (g.E.Engine.view c.act.new.self.engine)) (core_of c.room_for.new.self) (core_of c.act.new.self) x c.args.txn.0 (said_op c.args.op.now) c.act.new.into why
    (subst (λ r. Acts t (g.E.Engine.basis z) (led t z from (g.E.Engine.view c.room_for.new.self.engine)) (led t z from (g.E.Engine.view c.act.new.self.engine)) (core_of c.room_for.new.self) (core_of c.act.new.self) x c.args.txn.0 (said_op c.args.op.now) c.act.new.into r) is
    (c.act.ensures.acts z from (c.room_for.ensures.means z from (c.hold.ensures.means t z from m)) (c.in-Ok-room_for.ensures.tells (c.in-Ok.ensures.tells told)) x lawful free (c.in-Ok.ensures.holds t z from m told x lawful runs.is_kept runs.held live).1)) none)
