use Rattle.std.proofs.Common.{◌≡◌, true, List, map, ◌≤◌, ◌<◌, ◌==◌, length, refl, sym, ap, ◌∙◌, subst, arith, inl, inr}
use Rattle.sg_model.specs.SaidOps.{said_op}
use Rattle.sg_store.proofs.Acting as acting
use Rattle.sg_store.proofs.Ending.{never_verb, never_end}
use Rattle.sg_model.specs.Step.{is_changing}
use Rattle.std.specs.Prelude.{◌^◌, All}
use Rattle.sg_store.proofs.Performing as performing
use Rattle.sg_store.proofs.Noting.{nil_of, some_of, both_of, none_of, below_reserving, below_kept}
use Rattle.sg_store.proofs.Marking.{numbers_marked, below_marked, marks_same, marks_only, marks_reserved}
use Rattle.sg_ops.specs.Table.{table_of}
use Rattle.sg_store.specs.Engine.{led, MayAct}
use Rattle.sg_store.proofs.store.Store.act.Given as given
use Rattle.sg_store.proofs.Serving as serving
use Rattle.sg_store.specs.Asks.{HasBegun}
use Rattle.sg_store.proofs.Live.{numbers_reserving}
use Rattle.sg_core.specs.Live.{Txn, is_live, reserving}
use Rattle.sg_store.proofs.Holders.{all_hold, reserving_holders, marked_holders}
use Rattle.sg_store.proofs.Heeding as heeding
use Rattle.sg_store.specs.Store.{Core}
use Rattle.sg_store.proofs.Accounting as accounting
use Rattle.sg_store.proofs.store.Store.act.Goals as goal

pub returns-in-Err-Model-clause-stays : goal.returns-in-Err-Model-clause-stays
returns-in-Err-Model-clause-stays g c z from m told x lawful room granted =
    let t = table_of (λ y. (given.RecordOp-dyn g y).record_meaning y.1) (λ y. (given.RangeOp-dyn g y).range_meaning y.1) c.args.ops.now in
    let p = c.act.ensures.acts t z from m told room.is_kept.engine room.is_kept.idle in
    let b = c.perform.ensures.performs z from (c.act.ensures.means t z from m) (c.act.ensures.tells told) (acting.room_then _ (g.E.Engine.basis z) lawful (led t z from (g.E.Engine.view c.args.self.now.engine)) c.args.self.now.txns x c.args.txn.0 (said_op c.args.op.now) c.args.needs room granted (led t z from (g.E.Engine.view c.act.new.self)) p).reading (acting.begun _ (g.E.Engine.basis z) lawful (led t z from (g.E.Engine.view c.args.self.now.engine)) c.args.self.now.txns x c.args.txn.0 (said_op c.args.op.now) c.args.needs room granted) p.0 (acting.acts_so _ (g.E.Engine.basis z) lawful (led t z from (g.E.Engine.view c.args.self.now.engine)) c.args.self.now.txns x c.args.txn.0 (said_op c.args.op.now) c.args.needs room granted (led t z from (g.E.Engine.view c.act.new.self)) p) refl (acting.can_so _ (g.E.Engine.basis z) lawful (led t z from (g.E.Engine.view c.args.self.now.engine)) c.args.self.now.txns x c.args.txn.0 (said_op c.args.op.now) c.args.needs room granted (led t z from (g.E.Engine.view c.act.new.self)) p) in
    acting.perform_stays _ (g.E.Engine.basis z) lawful (led t z from (g.E.Engine.view c.args.self.now.engine)) c.args.self.now.txns x c.args.txn.0 (said_op c.args.op.now) c.args.needs room granted (led t z from (g.E.Engine.view c.act.new.self)) p (led t z from (g.E.Engine.view c.perform.new.self)) b.0

pub returns-in-Err-Space-clause-stays : goal.returns-in-Err-Space-clause-stays
returns-in-Err-Space-clause-stays g c z from m told x lawful room granted =
    let t = table_of (λ y. (given.RecordOp-dyn g y).record_meaning y.1) (λ y. (given.RangeOp-dyn g y).range_meaning y.1) c.args.ops.now in
    let p = c.act.ensures.acts t z from m told room.is_kept.engine room.is_kept.idle in
    let b = c.perform.ensures.performs z from (c.act.ensures.means t z from m) (c.act.ensures.tells told) (acting.room_then _ (g.E.Engine.basis z) lawful (led t z from (g.E.Engine.view c.args.self.now.engine)) c.args.self.now.txns x c.args.txn.0 (said_op c.args.op.now) c.args.needs room granted (led t z from (g.E.Engine.view c.act.new.self)) p).reading (acting.begun _ (g.E.Engine.basis z) lawful (led t z from (g.E.Engine.view c.args.self.now.engine)) c.args.self.now.txns x c.args.txn.0 (said_op c.args.op.now) c.args.needs room granted) p.0 (acting.acts_so _ (g.E.Engine.basis z) lawful (led t z from (g.E.Engine.view c.args.self.now.engine)) c.args.self.now.txns x c.args.txn.0 (said_op c.args.op.now) c.args.needs room granted (led t z from (g.E.Engine.view c.act.new.self)) p) refl (acting.can_so _ (g.E.Engine.basis z) lawful (led t z from (g.E.Engine.view c.args.self.now.engine)) c.args.self.now.txns x c.args.txn.0 (said_op c.args.op.now) c.args.needs room granted (led t z from (g.E.Engine.view c.act.new.self)) p) in
    acting.stays_to _ (g.E.Engine.basis z) lawful (led t z from (g.E.Engine.view c.args.self.now.engine)) c.args.self.now.txns x c.args.txn.0 (said_op c.args.op.now) c.args.needs room granted (led t z from (g.E.Engine.view c.act.new.self)) p (led t z from (g.E.Engine.view c.perform.new.self)) b.0 (led t z from (g.E.Engine.view c.halt.new.self.engine)) (ap (λ e. led t z from (g.E.Engine.view e)) (sym c.halt.ensures.engine)) (acting.perform_stays _ (g.E.Engine.basis z) lawful (led t z from (g.E.Engine.view c.args.self.now.engine)) c.args.self.now.txns x c.args.txn.0 (said_op c.args.op.now) c.args.needs room granted (led t z from (g.E.Engine.view c.act.new.self)) p (led t z from (g.E.Engine.view c.perform.new.self)) b.0)

pub returns-then-is_empty-clause-stays : goal.returns-then-is_empty-clause-stays
returns-then-is_empty-clause-stays g c z from m told x lawful room granted =
    let t = table_of (λ y. (given.RecordOp-dyn g y).record_meaning y.1) (λ y. (given.RangeOp-dyn g y).range_meaning y.1) c.args.ops.now in
    let p = c.act.ensures.acts t z from m told room.is_kept.engine room.is_kept.idle in
    let b = c.perform.ensures.performs z from (c.act.ensures.means t z from m) (c.act.ensures.tells told) (acting.room_then _ (g.E.Engine.basis z) lawful (led t z from (g.E.Engine.view c.args.self.now.engine)) c.args.self.now.txns x c.args.txn.0 (said_op c.args.op.now) c.args.needs room granted (led t z from (g.E.Engine.view c.act.new.self)) p).reading (acting.begun _ (g.E.Engine.basis z) lawful (led t z from (g.E.Engine.view c.args.self.now.engine)) c.args.self.now.txns x c.args.txn.0 (said_op c.args.op.now) c.args.needs room granted) p.0 (acting.acts_so _ (g.E.Engine.basis z) lawful (led t z from (g.E.Engine.view c.args.self.now.engine)) c.args.self.now.txns x c.args.txn.0 (said_op c.args.op.now) c.args.needs room granted (led t z from (g.E.Engine.view c.act.new.self)) p) refl (acting.can_so _ (g.E.Engine.basis z) lawful (led t z from (g.E.Engine.view c.args.self.now.engine)) c.args.self.now.txns x c.args.txn.0 (said_op c.args.op.now) c.args.needs room granted (led t z from (g.E.Engine.view c.act.new.self)) p) in
    acting.perform_stays _ (g.E.Engine.basis z) lawful (led t z from (g.E.Engine.view c.args.self.now.engine)) c.args.self.now.txns x c.args.txn.0 (said_op c.args.op.now) c.args.needs room granted (led t z from (g.E.Engine.view c.act.new.self)) p (led t z from (g.E.Engine.view c.perform.new.self)) b.0

pub returns-in-Err-Model-clause-acts : goal.returns-in-Err-Model-clause-acts
returns-in-Err-Model-clause-acts g c z from m told x lawful room granted =
    let t = table_of (λ y. (given.RecordOp-dyn g y).record_meaning y.1) (λ y. (given.RangeOp-dyn g y).range_meaning y.1) c.args.ops.now in
    let p = c.act.ensures.acts t z from m told room.is_kept.engine room.is_kept.idle in
    let b = c.in-Err-Model.ensures.performs z from (c.act.ensures.means t z from m) (c.act.ensures.tells told) (acting.room_then _ (g.E.Engine.basis z) lawful (led t z from (g.E.Engine.view c.args.self.now.engine)) c.args.self.now.txns x c.args.txn.0 (said_op c.args.op.now) c.args.needs room granted (led t z from (g.E.Engine.view c.act.new.self)) p).reading (acting.begun _ (g.E.Engine.basis z) lawful (led t z from (g.E.Engine.view c.args.self.now.engine)) c.args.self.now.txns x c.args.txn.0 (said_op c.args.op.now) c.args.needs room granted) p.0 (acting.acts_so _ (g.E.Engine.basis z) lawful (led t z from (g.E.Engine.view c.args.self.now.engine)) c.args.self.now.txns x c.args.txn.0 (said_op c.args.op.now) c.args.needs room granted (led t z from (g.E.Engine.view c.act.new.self)) p) refl (acting.can_so _ (g.E.Engine.basis z) lawful (led t z from (g.E.Engine.view c.args.self.now.engine)) c.args.self.now.txns x c.args.txn.0 (said_op c.args.op.now) c.args.needs room granted (led t z from (g.E.Engine.view c.act.new.self)) p) in
    absurd (acting.refused_never _ (g.E.Engine.basis z) lawful (led t z from (g.E.Engine.view c.args.self.now.engine)) c.args.self.now.txns x c.args.txn.0 (said_op c.args.op.now) c.args.needs room granted (led t z from (g.E.Engine.view c.act.new.self)) p (led t z from (g.E.Engine.view c.perform.new.self)) b.0 c.in-Err-Model.reason c.in-Err-Model.field-0 c.perform.new.into c.perform.new.note c.in-Err-Model.field-0-is b.1)

pub returns-in-Err-Model-clause-later : goal.returns-in-Err-Model-clause-later
returns-in-Err-Model-clause-later g c =
    omega (arith, c.act.ensures.quiet, c.perform.ensures.counts.later)

pub returns-then-is_empty-clause-later : goal.returns-then-is_empty-clause-later
returns-then-is_empty-clause-later g c =
    omega (arith, c.act.ensures.quiet, c.perform.ensures.counts.later)

pub returns-in-Err-Space-clause-later : goal.returns-in-Err-Space-clause-later
returns-in-Err-Space-clause-later g c =
    subst (λ e. (g.E.Engine.view c.args.self.now.engine).faults ≤ (g.E.Engine.view e).faults) (sym c.halt.ensures.engine) (omega (arith, c.act.ensures.quiet, c.perform.ensures.counts.later))

pub returns-in-Err-clause-later : goal.returns-in-Err-clause-later
returns-in-Err-clause-later g c =
    subst (λ e. (g.E.Engine.view c.args.self.now.engine).faults ≤ (g.E.Engine.view e).faults) (sym c.halt-in-Err.ensures.engine) (omega (arith, c.act.ensures.quiet, c.perform.ensures.counts.later, c.end_action.ensures.counts.later))

pub returns-then-reserves-clause-later : goal.returns-then-reserves-clause-later
returns-then-reserves-clause-later g c =
    omega (arith, c.act.ensures.quiet, c.perform.ensures.counts.later, c.end_action.ensures.counts.later)

pub returns-else-reserves-clause-later : goal.returns-else-reserves-clause-later
returns-else-reserves-clause-later g c =
    omega (arith, c.act.ensures.quiet, c.perform.ensures.counts.later, c.end_action.ensures.counts.later)

pub returns-then-is_empty-clause-acts : goal.returns-then-is_empty-clause-acts
returns-then-is_empty-clause-acts g c z from m told x lawful room granted =
    let t = table_of (λ y. (given.RecordOp-dyn g y).record_meaning y.1) (λ y. (given.RangeOp-dyn g y).range_meaning y.1) c.args.ops.now in
    let p = c.act.ensures.acts t z from m told room.is_kept.engine room.is_kept.idle in
    let b = c.in-Ok.ensures.performs z from (c.act.ensures.means t z from m) (c.act.ensures.tells told) (acting.room_then _ (g.E.Engine.basis z) lawful (led t z from (g.E.Engine.view c.args.self.now.engine)) c.args.self.now.txns x c.args.txn.0 (said_op c.args.op.now) c.args.needs room granted (led t z from (g.E.Engine.view c.act.new.self)) p).reading (acting.begun _ (g.E.Engine.basis z) lawful (led t z from (g.E.Engine.view c.args.self.now.engine)) c.args.self.now.txns x c.args.txn.0 (said_op c.args.op.now) c.args.needs room granted) p.0 (acting.acts_so _ (g.E.Engine.basis z) lawful (led t z from (g.E.Engine.view c.args.self.now.engine)) c.args.self.now.txns x c.args.txn.0 (said_op c.args.op.now) c.args.needs room granted (led t z from (g.E.Engine.view c.act.new.self)) p) refl (acting.can_so _ (g.E.Engine.basis z) lawful (led t z from (g.E.Engine.view c.args.self.now.engine)) c.args.self.now.txns x c.args.txn.0 (said_op c.args.op.now) c.args.needs room granted (led t z from (g.E.Engine.view c.act.new.self)) p) in (
      performing.looked_kept _ (g.E.Engine.basis z) lawful (led t z from (g.E.Engine.view c.act.new.self)) c.args.self.now.txns x c.args.txn.0 (said_op c.args.op.now) c.args.needs (acting.room_then _ (g.E.Engine.basis z) lawful (led t z from (g.E.Engine.view c.args.self.now.engine)) c.args.self.now.txns x c.args.txn.0 (said_op c.args.op.now) c.args.needs room granted (led t z from (g.E.Engine.view c.act.new.self)) p) granted (acting.begun _ (g.E.Engine.basis z) lawful (led t z from (g.E.Engine.view c.args.self.now.engine)) c.args.self.now.txns x c.args.txn.0 (said_op c.args.op.now) c.args.needs room granted) refl (acting.begin_so _ (g.E.Engine.basis z) lawful (led t z from (g.E.Engine.view c.args.self.now.engine)) c.args.self.now.txns x c.args.txn.0 (said_op c.args.op.now) c.args.needs room granted (led t z from (g.E.Engine.view c.act.new.self)) p) (led t z from (g.E.Engine.view c.perform.new.self)) b.0 b.1.0
          (acting.noted_none _ (g.E.Engine.basis z) (acting.begun _ (g.E.Engine.basis z) lawful (led t z from (g.E.Engine.view c.args.self.now.engine)) c.args.self.now.txns x c.args.txn.0 (said_op c.args.op.now) c.args.needs room granted) (led t z from (g.E.Engine.view c.act.new.self)) (led t z from (g.E.Engine.view c.perform.new.self)) (acting.room_then _ (g.E.Engine.basis z) lawful (led t z from (g.E.Engine.view c.args.self.now.engine)) c.args.self.now.txns x c.args.txn.0 (said_op c.args.op.now) c.args.needs room granted (led t z from (g.E.Engine.view c.act.new.self)) p).reading (said_op c.args.op.now) c.perform.new.note (nil_of (sym (ap (λ n. length n == 0) c.bytes.ensures) ∙ (sym c.is_empty.ensures ∙ c.if-is_empty.true))) b.1.1.noted),
      acting.said_so _ (g.E.Engine.basis z) lawful (led t z from (g.E.Engine.view c.args.self.now.engine)) c.args.self.now.txns x c.args.txn.0 (said_op c.args.op.now) c.args.needs room granted (led t z from (g.E.Engine.view c.act.new.self)) p (led t z from (g.E.Engine.view c.perform.new.self)) b.0 _ b.1.1.said,
      refl,
      acting.looked_stock _ (g.E.Engine.basis z) lawful (led t z from (g.E.Engine.view c.args.self.now.engine)) c.args.self.now.txns x c.args.txn.0 (said_op c.args.op.now) c.args.needs room granted (led t z from (g.E.Engine.view c.act.new.self)) p (led t z from (g.E.Engine.view c.perform.new.self)) b.0 b.1.0 (acting.noted_none _ (g.E.Engine.basis z) (acting.begun _ (g.E.Engine.basis z) lawful (led t z from (g.E.Engine.view c.args.self.now.engine)) c.args.self.now.txns x c.args.txn.0 (said_op c.args.op.now) c.args.needs room granted) (led t z from (g.E.Engine.view c.act.new.self)) (led t z from (g.E.Engine.view c.perform.new.self)) (acting.room_then _ (g.E.Engine.basis z) lawful (led t z from (g.E.Engine.view c.args.self.now.engine)) c.args.self.now.txns x c.args.txn.0 (said_op c.args.op.now) c.args.needs room granted (led t z from (g.E.Engine.view c.act.new.self)) p).reading (said_op c.args.op.now) c.perform.new.note (nil_of (sym (ap (λ n. length n == 0) c.bytes.ensures) ∙ (sym c.is_empty.ensures ∙ c.if-is_empty.true))) b.1.1.noted),
    )

pub returns-in-Err-clause-stays : goal.returns-in-Err-clause-stays
returns-in-Err-clause-stays g c z from m told x lawful room granted =
    let t = table_of (λ y. (given.RecordOp-dyn g y).record_meaning y.1) (λ y. (given.RangeOp-dyn g y).range_meaning y.1) c.args.ops.now in
    let p = c.act.ensures.acts t z from m told room.is_kept.engine room.is_kept.idle in
    let b = c.in-Ok.ensures.performs z from (c.act.ensures.means t z from m) (c.act.ensures.tells told) (acting.room_then _ (g.E.Engine.basis z) lawful (led t z from (g.E.Engine.view c.args.self.now.engine)) c.args.self.now.txns x c.args.txn.0 (said_op c.args.op.now) c.args.needs room granted (led t z from (g.E.Engine.view c.act.new.self)) p).reading (acting.begun _ (g.E.Engine.basis z) lawful (led t z from (g.E.Engine.view c.args.self.now.engine)) c.args.self.now.txns x c.args.txn.0 (said_op c.args.op.now) c.args.needs room granted) p.0 (acting.acts_so _ (g.E.Engine.basis z) lawful (led t z from (g.E.Engine.view c.args.self.now.engine)) c.args.self.now.txns x c.args.txn.0 (said_op c.args.op.now) c.args.needs room granted (led t z from (g.E.Engine.view c.act.new.self)) p) refl (acting.can_so _ (g.E.Engine.basis z) lawful (led t z from (g.E.Engine.view c.args.self.now.engine)) c.args.self.now.txns x c.args.txn.0 (said_op c.args.op.now) c.args.needs room granted (led t z from (g.E.Engine.view c.act.new.self)) p) in
    let least : c.args.needs.reserve ≤ c.args.needs.pages = acting.reserve_needed _ (g.E.Engine.basis z) lawful (led t z from (g.E.Engine.view c.args.self.now.engine)) c.args.self.now.txns x c.args.txn.0 (said_op c.args.op.now) c.args.needs room granted in
    let n = acting.noted_some _ (g.E.Engine.basis z) (acting.begun _ (g.E.Engine.basis z) lawful (led t z from (g.E.Engine.view c.args.self.now.engine)) c.args.self.now.txns x c.args.txn.0 (said_op c.args.op.now) c.args.needs room granted) (led t z from (g.E.Engine.view c.act.new.self)) (led t z from (g.E.Engine.view c.perform.new.self)) (acting.room_then _ (g.E.Engine.basis z) lawful (led t z from (g.E.Engine.view c.args.self.now.engine)) c.args.self.now.txns x c.args.txn.0 (said_op c.args.op.now) c.args.needs room granted (led t z from (g.E.Engine.view c.act.new.self)) p).reading (said_op c.args.op.now) c.perform.new.note (some_of (sym (ap (λ n. length n == 0) c.bytes.ensures) ∙ (sym c.is_empty.ensures ∙ c.if-is_empty.false))) b.1.1.noted in
    let e = c.end_action.ensures.ends t z from (c.perform.ensures.means z from (c.act.ensures.means t z from m)) (c.in-Ok.ensures.counts.tells (c.act.ensures.tells told)) (acting.begun _ (g.E.Engine.basis z) lawful (led t z from (g.E.Engine.view c.args.self.now.engine)) c.args.self.now.txns x c.args.txn.0 (said_op c.args.op.now) c.args.needs room granted) b.1.0.goes_on.engine b.1.0.action refl in
    acting.stays_on _ (g.E.Engine.basis z) lawful (led t z from (g.E.Engine.view c.args.self.now.engine)) c.args.self.now.txns x c.args.txn.0 (said_op c.args.op.now) c.args.needs room granted (led t z from (g.E.Engine.view c.act.new.self)) p (led t z from (g.E.Engine.view c.end_action.new.self)) (led t z from (g.E.Engine.view c.halt-in-Err.new.self.engine)) (ap (λ e. led t z from (g.E.Engine.view e)) (sym c.halt-in-Err.ensures.engine)) (acting.end_stays _ (g.E.Engine.basis z) lawful (led t z from (g.E.Engine.view c.args.self.now.engine)) c.args.self.now.txns x c.args.txn.0 (said_op c.args.op.now) c.args.needs room granted (led t z from (g.E.Engine.view c.act.new.self)) p (led t z from (g.E.Engine.view c.perform.new.self)) b.0 b.1.0 c.perform.new.note n (led t z from (g.E.Engine.view c.end_action.new.self)) e.0 e.1 e.2 e.3)

pub returns-then-reserves-clause-stays : goal.returns-then-reserves-clause-stays
returns-then-reserves-clause-stays g c z from m told x lawful room granted =
    let t = table_of (λ y. (given.RecordOp-dyn g y).record_meaning y.1) (λ y. (given.RangeOp-dyn g y).range_meaning y.1) c.args.ops.now in
    let p = c.act.ensures.acts t z from m told room.is_kept.engine room.is_kept.idle in
    let b = c.in-Ok.ensures.performs z from (c.act.ensures.means t z from m) (c.act.ensures.tells told) (acting.room_then _ (g.E.Engine.basis z) lawful (led t z from (g.E.Engine.view c.args.self.now.engine)) c.args.self.now.txns x c.args.txn.0 (said_op c.args.op.now) c.args.needs room granted (led t z from (g.E.Engine.view c.act.new.self)) p).reading (acting.begun _ (g.E.Engine.basis z) lawful (led t z from (g.E.Engine.view c.args.self.now.engine)) c.args.self.now.txns x c.args.txn.0 (said_op c.args.op.now) c.args.needs room granted) p.0 (acting.acts_so _ (g.E.Engine.basis z) lawful (led t z from (g.E.Engine.view c.args.self.now.engine)) c.args.self.now.txns x c.args.txn.0 (said_op c.args.op.now) c.args.needs room granted (led t z from (g.E.Engine.view c.act.new.self)) p) refl (acting.can_so _ (g.E.Engine.basis z) lawful (led t z from (g.E.Engine.view c.args.self.now.engine)) c.args.self.now.txns x c.args.txn.0 (said_op c.args.op.now) c.args.needs room granted (led t z from (g.E.Engine.view c.act.new.self)) p) in
    let least : c.args.needs.reserve ≤ c.args.needs.pages = acting.reserve_needed _ (g.E.Engine.basis z) lawful (led t z from (g.E.Engine.view c.args.self.now.engine)) c.args.self.now.txns x c.args.txn.0 (said_op c.args.op.now) c.args.needs room granted in
    let n = acting.noted_some _ (g.E.Engine.basis z) (acting.begun _ (g.E.Engine.basis z) lawful (led t z from (g.E.Engine.view c.args.self.now.engine)) c.args.self.now.txns x c.args.txn.0 (said_op c.args.op.now) c.args.needs room granted) (led t z from (g.E.Engine.view c.act.new.self)) (led t z from (g.E.Engine.view c.perform.new.self)) (acting.room_then _ (g.E.Engine.basis z) lawful (led t z from (g.E.Engine.view c.args.self.now.engine)) c.args.self.now.txns x c.args.txn.0 (said_op c.args.op.now) c.args.needs room granted (led t z from (g.E.Engine.view c.act.new.self)) p).reading (said_op c.args.op.now) c.perform.new.note (some_of (sym (ap (λ n. length n == 0) c.bytes.ensures) ∙ (sym c.is_empty.ensures ∙ c.if-is_empty.false))) b.1.1.noted in
    let e = c.end_action.ensures.ends t z from (c.perform.ensures.means z from (c.act.ensures.means t z from m)) (c.in-Ok.ensures.counts.tells (c.act.ensures.tells told)) (acting.begun _ (g.E.Engine.basis z) lawful (led t z from (g.E.Engine.view c.args.self.now.engine)) c.args.self.now.txns x c.args.txn.0 (said_op c.args.op.now) c.args.needs room granted) b.1.0.goes_on.engine b.1.0.action refl in
    acting.end_stays _ (g.E.Engine.basis z) lawful (led t z from (g.E.Engine.view c.args.self.now.engine)) c.args.self.now.txns x c.args.txn.0 (said_op c.args.op.now) c.args.needs room granted (led t z from (g.E.Engine.view c.act.new.self)) p (led t z from (g.E.Engine.view c.perform.new.self)) b.0 b.1.0 c.perform.new.note n (led t z from (g.E.Engine.view c.end_action.new.self)) e.0 e.1 e.2 e.3

pub returns-else-reserves-clause-stays : goal.returns-else-reserves-clause-stays
returns-else-reserves-clause-stays g c z from m told x lawful room granted =
    let t = table_of (λ y. (given.RecordOp-dyn g y).record_meaning y.1) (λ y. (given.RangeOp-dyn g y).range_meaning y.1) c.args.ops.now in
    let p = c.act.ensures.acts t z from m told room.is_kept.engine room.is_kept.idle in
    let b = c.in-Ok.ensures.performs z from (c.act.ensures.means t z from m) (c.act.ensures.tells told) (acting.room_then _ (g.E.Engine.basis z) lawful (led t z from (g.E.Engine.view c.args.self.now.engine)) c.args.self.now.txns x c.args.txn.0 (said_op c.args.op.now) c.args.needs room granted (led t z from (g.E.Engine.view c.act.new.self)) p).reading (acting.begun _ (g.E.Engine.basis z) lawful (led t z from (g.E.Engine.view c.args.self.now.engine)) c.args.self.now.txns x c.args.txn.0 (said_op c.args.op.now) c.args.needs room granted) p.0 (acting.acts_so _ (g.E.Engine.basis z) lawful (led t z from (g.E.Engine.view c.args.self.now.engine)) c.args.self.now.txns x c.args.txn.0 (said_op c.args.op.now) c.args.needs room granted (led t z from (g.E.Engine.view c.act.new.self)) p) refl (acting.can_so _ (g.E.Engine.basis z) lawful (led t z from (g.E.Engine.view c.args.self.now.engine)) c.args.self.now.txns x c.args.txn.0 (said_op c.args.op.now) c.args.needs room granted (led t z from (g.E.Engine.view c.act.new.self)) p) in
    let least : c.args.needs.reserve ≤ c.args.needs.pages = acting.reserve_needed _ (g.E.Engine.basis z) lawful (led t z from (g.E.Engine.view c.args.self.now.engine)) c.args.self.now.txns x c.args.txn.0 (said_op c.args.op.now) c.args.needs room granted in
    let n = acting.noted_some _ (g.E.Engine.basis z) (acting.begun _ (g.E.Engine.basis z) lawful (led t z from (g.E.Engine.view c.args.self.now.engine)) c.args.self.now.txns x c.args.txn.0 (said_op c.args.op.now) c.args.needs room granted) (led t z from (g.E.Engine.view c.act.new.self)) (led t z from (g.E.Engine.view c.perform.new.self)) (acting.room_then _ (g.E.Engine.basis z) lawful (led t z from (g.E.Engine.view c.args.self.now.engine)) c.args.self.now.txns x c.args.txn.0 (said_op c.args.op.now) c.args.needs room granted (led t z from (g.E.Engine.view c.act.new.self)) p).reading (said_op c.args.op.now) c.perform.new.note (some_of (sym (ap (λ n. length n == 0) c.bytes.ensures) ∙ (sym c.is_empty.ensures ∙ c.if-is_empty.false))) b.1.1.noted in
    let e = c.end_action.ensures.ends t z from (c.perform.ensures.means z from (c.act.ensures.means t z from m)) (c.in-Ok.ensures.counts.tells (c.act.ensures.tells told)) (acting.begun _ (g.E.Engine.basis z) lawful (led t z from (g.E.Engine.view c.args.self.now.engine)) c.args.self.now.txns x c.args.txn.0 (said_op c.args.op.now) c.args.needs room granted) b.1.0.goes_on.engine b.1.0.action refl in
    acting.end_stays _ (g.E.Engine.basis z) lawful (led t z from (g.E.Engine.view c.args.self.now.engine)) c.args.self.now.txns x c.args.txn.0 (said_op c.args.op.now) c.args.needs room granted (led t z from (g.E.Engine.view c.act.new.self)) p (led t z from (g.E.Engine.view c.perform.new.self)) b.0 b.1.0 c.perform.new.note n (led t z from (g.E.Engine.view c.end_action.new.self)) e.0 e.1 e.2 e.3

pub returns-then-reserves-clause-acts : goal.returns-then-reserves-clause-acts
returns-then-reserves-clause-acts g c z from m told x lawful room granted =
    let t = table_of (λ y. (given.RecordOp-dyn g y).record_meaning y.1) (λ y. (given.RangeOp-dyn g y).range_meaning y.1) c.args.ops.now in
    let p = c.act.ensures.acts t z from m told room.is_kept.engine room.is_kept.idle in
    let b = c.in-Ok.ensures.performs z from (c.act.ensures.means t z from m) (c.act.ensures.tells told) (acting.room_then _ (g.E.Engine.basis z) lawful (led t z from (g.E.Engine.view c.args.self.now.engine)) c.args.self.now.txns x c.args.txn.0 (said_op c.args.op.now) c.args.needs room granted (led t z from (g.E.Engine.view c.act.new.self)) p).reading (acting.begun _ (g.E.Engine.basis z) lawful (led t z from (g.E.Engine.view c.args.self.now.engine)) c.args.self.now.txns x c.args.txn.0 (said_op c.args.op.now) c.args.needs room granted) p.0 (acting.acts_so _ (g.E.Engine.basis z) lawful (led t z from (g.E.Engine.view c.args.self.now.engine)) c.args.self.now.txns x c.args.txn.0 (said_op c.args.op.now) c.args.needs room granted (led t z from (g.E.Engine.view c.act.new.self)) p) refl (acting.can_so _ (g.E.Engine.basis z) lawful (led t z from (g.E.Engine.view c.args.self.now.engine)) c.args.self.now.txns x c.args.txn.0 (said_op c.args.op.now) c.args.needs room granted (led t z from (g.E.Engine.view c.act.new.self)) p) in
    let least : c.args.needs.reserve ≤ c.args.needs.pages = acting.reserve_needed _ (g.E.Engine.basis z) lawful (led t z from (g.E.Engine.view c.args.self.now.engine)) c.args.self.now.txns x c.args.txn.0 (said_op c.args.op.now) c.args.needs room granted in
    let n = acting.noted_some _ (g.E.Engine.basis z) (acting.begun _ (g.E.Engine.basis z) lawful (led t z from (g.E.Engine.view c.args.self.now.engine)) c.args.self.now.txns x c.args.txn.0 (said_op c.args.op.now) c.args.needs room granted) (led t z from (g.E.Engine.view c.act.new.self)) (led t z from (g.E.Engine.view c.perform.new.self)) (acting.room_then _ (g.E.Engine.basis z) lawful (led t z from (g.E.Engine.view c.args.self.now.engine)) c.args.self.now.txns x c.args.txn.0 (said_op c.args.op.now) c.args.needs room granted (led t z from (g.E.Engine.view c.act.new.self)) p).reading (said_op c.args.op.now) c.perform.new.note (some_of (sym (ap (λ n. length n == 0) c.bytes.ensures) ∙ (sym c.is_empty.ensures ∙ c.if-is_empty.false))) b.1.1.noted in
    let e = c.in-Ok-end_action.ensures.ends t z from (c.perform.ensures.means z from (c.act.ensures.means t z from m)) (c.in-Ok.ensures.counts.tells (c.act.ensures.tells told)) (acting.begun _ (g.E.Engine.basis z) lawful (led t z from (g.E.Engine.view c.args.self.now.engine)) c.args.self.now.txns x c.args.txn.0 (said_op c.args.op.now) c.args.needs room granted) b.1.0.goes_on.engine b.1.0.action refl in (
      acting.end_kept _ (g.E.Engine.basis z) lawful (led t z from (g.E.Engine.view c.args.self.now.engine)) c.args.self.now.txns x c.args.txn.0 (said_op c.args.op.now) c.args.needs room granted (led t z from (g.E.Engine.view c.act.new.self)) p (led t z from (g.E.Engine.view c.perform.new.self)) b.0 b.1.0 c.perform.new.note n (led t z from (g.E.Engine.view c.end_action.new.self)) e.0 e.1 e.2 e.3 c.reserve.new.self (inl ((both_of (sym c.reserves.ensures ∙ c.if-reserves.true)).0, c.reserve.ensures ∙ ap (reserving c.args.txn.0) c.mark.ensures.txns)) e.4,
      acting.said_so _ (g.E.Engine.basis z) lawful (led t z from (g.E.Engine.view c.args.self.now.engine)) c.args.self.now.txns x c.args.txn.0 (said_op c.args.op.now) c.args.needs room granted (led t z from (g.E.Engine.view c.act.new.self)) p (led t z from (g.E.Engine.view c.perform.new.self)) b.0 _ b.1.1.said,
      refl,
      acting.end_stock _ (g.E.Engine.basis z) lawful (led t z from (g.E.Engine.view c.args.self.now.engine)) c.args.self.now.txns x c.args.txn.0 (said_op c.args.op.now) c.args.needs room granted (led t z from (g.E.Engine.view c.act.new.self)) p (led t z from (g.E.Engine.view c.perform.new.self)) b.0 b.1.0 c.perform.new.note n (led t z from (g.E.Engine.view c.end_action.new.self)) e.0 e.1 e.2 e.3 e.4,
    )

pub returns-else-reserves-clause-acts : goal.returns-else-reserves-clause-acts
returns-else-reserves-clause-acts g c z from m told x lawful room granted =
    let t = table_of (λ y. (given.RecordOp-dyn g y).record_meaning y.1) (λ y. (given.RangeOp-dyn g y).range_meaning y.1) c.args.ops.now in
    let p = c.act.ensures.acts t z from m told room.is_kept.engine room.is_kept.idle in
    let b = c.in-Ok.ensures.performs z from (c.act.ensures.means t z from m) (c.act.ensures.tells told) (acting.room_then _ (g.E.Engine.basis z) lawful (led t z from (g.E.Engine.view c.args.self.now.engine)) c.args.self.now.txns x c.args.txn.0 (said_op c.args.op.now) c.args.needs room granted (led t z from (g.E.Engine.view c.act.new.self)) p).reading (acting.begun _ (g.E.Engine.basis z) lawful (led t z from (g.E.Engine.view c.args.self.now.engine)) c.args.self.now.txns x c.args.txn.0 (said_op c.args.op.now) c.args.needs room granted) p.0 (acting.acts_so _ (g.E.Engine.basis z) lawful (led t z from (g.E.Engine.view c.args.self.now.engine)) c.args.self.now.txns x c.args.txn.0 (said_op c.args.op.now) c.args.needs room granted (led t z from (g.E.Engine.view c.act.new.self)) p) refl (acting.can_so _ (g.E.Engine.basis z) lawful (led t z from (g.E.Engine.view c.args.self.now.engine)) c.args.self.now.txns x c.args.txn.0 (said_op c.args.op.now) c.args.needs room granted (led t z from (g.E.Engine.view c.act.new.self)) p) in
    let least : c.args.needs.reserve ≤ c.args.needs.pages = acting.reserve_needed _ (g.E.Engine.basis z) lawful (led t z from (g.E.Engine.view c.args.self.now.engine)) c.args.self.now.txns x c.args.txn.0 (said_op c.args.op.now) c.args.needs room granted in
    let n = acting.noted_some _ (g.E.Engine.basis z) (acting.begun _ (g.E.Engine.basis z) lawful (led t z from (g.E.Engine.view c.args.self.now.engine)) c.args.self.now.txns x c.args.txn.0 (said_op c.args.op.now) c.args.needs room granted) (led t z from (g.E.Engine.view c.act.new.self)) (led t z from (g.E.Engine.view c.perform.new.self)) (acting.room_then _ (g.E.Engine.basis z) lawful (led t z from (g.E.Engine.view c.args.self.now.engine)) c.args.self.now.txns x c.args.txn.0 (said_op c.args.op.now) c.args.needs room granted (led t z from (g.E.Engine.view c.act.new.self)) p).reading (said_op c.args.op.now) c.perform.new.note (some_of (sym (ap (λ n. length n == 0) c.bytes.ensures) ∙ (sym c.is_empty.ensures ∙ c.if-is_empty.false))) b.1.1.noted in
    let e = c.in-Ok-end_action.ensures.ends t z from (c.perform.ensures.means z from (c.act.ensures.means t z from m)) (c.in-Ok.ensures.counts.tells (c.act.ensures.tells told)) (acting.begun _ (g.E.Engine.basis z) lawful (led t z from (g.E.Engine.view c.args.self.now.engine)) c.args.self.now.txns x c.args.txn.0 (said_op c.args.op.now) c.args.needs room granted) b.1.0.goes_on.engine b.1.0.action refl in (
      acting.end_kept _ (g.E.Engine.basis z) lawful (led t z from (g.E.Engine.view c.args.self.now.engine)) c.args.self.now.txns x c.args.txn.0 (said_op c.args.op.now) c.args.needs room granted (led t z from (g.E.Engine.view c.act.new.self)) p (led t z from (g.E.Engine.view c.perform.new.self)) b.0 b.1.0 c.perform.new.note n (led t z from (g.E.Engine.view c.end_action.new.self)) e.0 e.1 e.2 e.3 c.mark.new.txns (inr (none_of c.args.needs.reserve c.args.needs.pages least (sym c.reserves.ensures ∙ c.if-reserves.false), c.mark.ensures.txns)) e.4,
      acting.said_so _ (g.E.Engine.basis z) lawful (led t z from (g.E.Engine.view c.args.self.now.engine)) c.args.self.now.txns x c.args.txn.0 (said_op c.args.op.now) c.args.needs room granted (led t z from (g.E.Engine.view c.act.new.self)) p (led t z from (g.E.Engine.view c.perform.new.self)) b.0 _ b.1.1.said,
      refl,
      acting.end_stock _ (g.E.Engine.basis z) lawful (led t z from (g.E.Engine.view c.args.self.now.engine)) c.args.self.now.txns x c.args.txn.0 (said_op c.args.op.now) c.args.needs room granted (led t z from (g.E.Engine.view c.act.new.self)) p (led t z from (g.E.Engine.view c.perform.new.self)) b.0 b.1.0 c.perform.new.note n (led t z from (g.E.Engine.view c.end_action.new.self)) e.0 e.1 e.2 e.3 e.4,
    )

pub invariant_of-self-then-reserves : goal.invariant_of-self-then-reserves
invariant_of-self-then-reserves g c = record {
  below = below_reserving c.args.txn.0 c.mark.new.txns (g.E.Engine.view c.args.self.now.engine).tail (g.E.Engine.view c.end_action.new.self).tail c.reserve.new.self c.reserve.ensures (omega (arith, c.act.ensures.tail, c.perform.ensures.counts.tail, c.end_action.ensures.counts.tail))
      (subst (λ (ks : List Txn). All (λ k. k.transaction < (g.E.Engine.view c.args.self.now.engine).tail) ks) (sym c.mark.ensures.txns) (below_marked (said_op c.args.op.now) c.args.txn.0 (g.E.Engine.view c.args.self.now.engine).tail c.args.self.now.txns c.args.self.now.below));
  holders = let s = c.args.self.now in subst (λ (ks : List Txn). all_hold (is_live ks) s.locks ≡ true) (sym c.reserve.ensures) (reserving_holders c.args.txn.0 c.mark.new.txns s.locks
      (subst (λ (ks : List Txn). all_hold (is_live ks) s.locks ≡ true) (sym c.mark.ensures.txns) (marked_holders (said_op c.args.op.now) c.args.txn.0 s.txns s.locks s.holders)));
}

pub invariant_of-self-else-reserves : goal.invariant_of-self-else-reserves
invariant_of-self-else-reserves g c = record {
  below = below_kept c.mark.new.txns (g.E.Engine.view c.args.self.now.engine).tail (g.E.Engine.view c.end_action.new.self).tail (omega (arith, c.act.ensures.tail, c.perform.ensures.counts.tail, c.end_action.ensures.counts.tail))
      (subst (λ (ks : List Txn). All (λ k. k.transaction < (g.E.Engine.view c.args.self.now.engine).tail) ks) (sym c.mark.ensures.txns) (below_marked (said_op c.args.op.now) c.args.txn.0 (g.E.Engine.view c.args.self.now.engine).tail c.args.self.now.txns c.args.self.now.below));
  holders = let s = c.args.self.now in subst (λ (ks : List Txn). all_hold (is_live ks) s.locks ≡ true) (sym c.mark.ensures.txns) (marked_holders (said_op c.args.op.now) c.args.txn.0 s.txns s.locks s.holders);
}

pub returns-in-Err-Space-clause-never : goal.returns-in-Err-Space-clause-never
returns-in-Err-Space-clause-never g c h =
    let answer = rw c.in-Err-Space.field-0-is at c.halt.ensures.answer in
    never_verb (g.E.Engine.view c.act.new.self).tail (is_changing (said_op c.args.op.now)) c.in-Err-Space.fault c.in-Err-Space.field-0 c.in-Err-Space.field-0-is
    (λ is. subst (λ n. n ≤ 2 ^ 62) (sym c.act.ensures.tail) (c.requires.tested is)) c.in-Err-Space.ensures.log_end c.halt.result answer h

pub returns-in-Err-clause-never : goal.returns-in-Err-clause-never
returns-in-Err-clause-never g c h =
    never_end (g.E.Engine.view c.act.new.self).tail (g.E.Engine.view c.perform.new.self).tail (is_changing (said_op c.args.op.now)) c.perform.new.note (sym (ap (λ n. length n == 0) c.bytes.ensures) ∙ (sym c.is_empty.ensures ∙ c.if-is_empty.false)) c.in-Ok.ensures.looks
    (λ is. subst (λ n. n ≤ 2 ^ 62) (sym c.act.ensures.tail) (c.requires.tested is)) c.in-Ok.ensures.grows c.in-Err.fault c.in-Err.ensures.log_end c.halt-in-Err.result c.halt-in-Err.ensures.answer h

pub act-requires : goal.act-requires
act-requires g c =
    let t = table_of (λ y. (given.RecordOp-dyn g y).record_meaning y.1) (λ y. (given.RangeOp-dyn g y).range_meaning y.1) c.args.ops.now in
    record { can = serving.asked_of t (g.E.Engine.view c.args.self.now.engine) (HasBegun c.args.self.now.txns c.args.txn.0 (said_op c.args.op.now) c.args.needs t) (MayAct c.args.txn.0) (λ b v h. record { rest = record { engine = h.room.is_kept.engine; idle = h.room.is_kept.idle }; live = λ ne. h.room.is_kept.logs.same.lives c.args.txn.0 ∙ h.granted.live }) c.requires.can }

pub perform-requires-clause-can : goal.perform-requires-clause-can
perform-requires-clause-can g c =
    let t = table_of (λ y. (given.RecordOp-dyn g y).record_meaning y.1) (λ y. (given.RangeOp-dyn g y).range_meaning y.1) c.args.ops.now in
    let s = c.requires.can in
    record {
      sizes = s.sizes;
      from = λ told. s.from (c.act.ensures.told told);
      means = λ told. c.act.ensures.means t s.sizes (s.from (c.act.ensures.told told)) (s.means (c.act.ensures.told told));
      can = λ told.
          (let h = s.can (c.act.ensures.told told) in
          let v = led t s.sizes (s.from (c.act.ensures.told told)) (g.E.Engine.view c.args.self.now.engine) in
          let w = led t s.sizes (s.from (c.act.ensures.told told)) (g.E.Engine.view c.act.new.self) in
          let b = g.E.Engine.basis s.sizes in
          let ts = c.args.self.now.txns in
          let u = c.args.txn.0 in
          let op = said_op c.args.op.now in
          let p = c.act.ensures.acts t s.sizes (s.from (c.act.ensures.told told)) (s.means (c.act.ensures.told told)) (c.act.ensures.told told) h.room.is_kept.engine h.room.is_kept.idle in
          let then = acting.room_then _ b h.lawful v ts h.run u op c.args.needs h.room h.granted w p in
          let begun = acting.begun _ b h.lawful v ts h.run u op c.args.needs h.room h.granted in
          let so = acting.acts_so _ b h.lawful v ts h.run u op c.args.needs h.room h.granted w p in
          let can = acting.can_so _ b h.lawful v ts h.run u op c.args.needs h.room h.granted w p in
          record { acts = record { engine = p.0; action = begun; acting = so; own = refl }; reading = then.reading; can = can });
    }

pub end_action-requires : goal.end_action-requires
end_action-requires g c =
    let t = table_of (λ y. (given.RecordOp-dyn g y).record_meaning y.1) (λ y. (given.RangeOp-dyn g y).range_meaning y.1) c.args.ops.now in
    let s = c.requires.can in
    record {
      can = record {
        by = t;
        sizes = s.sizes;
        from = λ told. s.from (c.act.ensures.told (c.perform.ensures.counts.told told));
        means = λ told. c.perform.ensures.means s.sizes (s.from (c.act.ensures.told (c.perform.ensures.counts.told told))) (c.act.ensures.means t s.sizes (s.from (c.act.ensures.told (c.perform.ensures.counts.told told))) (s.means (c.act.ensures.told (c.perform.ensures.counts.told told))));
        can = λ told.
            (let one = c.perform.ensures.counts.told told in
            let h = s.can (c.act.ensures.told one) in
            let v = led t s.sizes (s.from (c.act.ensures.told one)) (g.E.Engine.view c.args.self.now.engine) in
            let w = led t s.sizes (s.from (c.act.ensures.told one)) (g.E.Engine.view c.act.new.self) in
            let b = g.E.Engine.basis s.sizes in
            let ts = c.args.self.now.txns in
            let u = c.args.txn.0 in
            let op = said_op c.args.op.now in
            let p = c.act.ensures.acts t s.sizes (s.from (c.act.ensures.told one)) (s.means (c.act.ensures.told one)) (c.act.ensures.told one) h.room.is_kept.engine h.room.is_kept.idle in
            let then = acting.room_then _ b h.lawful v ts h.run u op c.args.needs h.room h.granted w p in
            let begun = acting.begun _ b h.lawful v ts h.run u op c.args.needs h.room h.granted in
            let so = acting.acts_so _ b h.lawful v ts h.run u op c.args.needs h.room h.granted w p in
            let can = acting.can_so _ b h.lawful v ts h.run u op c.args.needs h.room h.granted w p in
            let f = c.in-Ok.ensures.performs s.sizes (s.from (c.act.ensures.told one)) (c.act.ensures.means t s.sizes (s.from (c.act.ensures.told one)) (s.means (c.act.ensures.told one))) one then.reading begun p.0 so refl can in
            record { engine = f.1.0.goes_on.engine; action = begun; acting = f.1.0.action; own = refl });
      };
    }

pub returns-in-Err-Model-clause-means : goal.returns-in-Err-Model-clause-means
returns-in-Err-Model-clause-means g c z from m =
    let t = table_of (λ y. (given.RecordOp-dyn g y).record_meaning y.1) (λ y. (given.RangeOp-dyn g y).range_meaning y.1) c.args.ops.now in
    c.perform.ensures.means z from (c.act.ensures.means t z from m)

pub returns-in-Err-Space-clause-means : goal.returns-in-Err-Space-clause-means
returns-in-Err-Space-clause-means g c z from m =
    let t = table_of (λ y. (given.RecordOp-dyn g y).record_meaning y.1) (λ y. (given.RangeOp-dyn g y).range_meaning y.1) c.args.ops.now in
    subst (λ e. (g.E.Engine.view e).means t z from) (sym c.halt.ensures.engine) (c.perform.ensures.means z from (c.act.ensures.means t z from m))

pub returns-then-is_empty-clause-means : goal.returns-then-is_empty-clause-means
returns-then-is_empty-clause-means g c z from m =
    let t = table_of (λ y. (given.RecordOp-dyn g y).record_meaning y.1) (λ y. (given.RangeOp-dyn g y).range_meaning y.1) c.args.ops.now in
    c.perform.ensures.means z from (c.act.ensures.means t z from m)

pub returns-in-Err-clause-means : goal.returns-in-Err-clause-means
returns-in-Err-clause-means g c z from m =
    let t = table_of (λ y. (given.RecordOp-dyn g y).record_meaning y.1) (λ y. (given.RangeOp-dyn g y).range_meaning y.1) c.args.ops.now in
    subst (λ e. (g.E.Engine.view e).means t z from) (sym c.halt-in-Err.ensures.engine) (c.end_action.ensures.means t z from (c.perform.ensures.means z from (c.act.ensures.means t z from m)))

pub returns-then-reserves-clause-means : goal.returns-then-reserves-clause-means
returns-then-reserves-clause-means g c z from m =
    let t = table_of (λ y. (given.RecordOp-dyn g y).record_meaning y.1) (λ y. (given.RangeOp-dyn g y).range_meaning y.1) c.args.ops.now in
    c.end_action.ensures.means t z from (c.perform.ensures.means z from (c.act.ensures.means t z from m))

pub returns-else-reserves-clause-means : goal.returns-else-reserves-clause-means
returns-else-reserves-clause-means g c z from m =
    let t = table_of (λ y. (given.RecordOp-dyn g y).record_meaning y.1) (λ y. (given.RangeOp-dyn g y).range_meaning y.1) c.args.ops.now in
    c.end_action.ensures.means t z from (c.perform.ensures.means z from (c.act.ensures.means t z from m))

pub returns-in-Err-Model-clause-causes : goal.returns-in-Err-Model-clause-causes
returns-in-Err-Model-clause-causes g c = refl

pub returns-then-is_empty-clause-causes : goal.returns-then-is_empty-clause-causes
returns-then-is_empty-clause-causes g c = (refl, refl)

pub returns-then-reserves-clause-causes : goal.returns-then-reserves-clause-causes
returns-then-reserves-clause-causes g c = (refl, ap (λ (ls : List Txn). map (λ (x : Txn). x.transaction) ls) c.reserve.ensures ∙ (numbers_reserving c.args.txn.0 c.mark.new.txns ∙ (ap (λ (ls : List Txn). map (λ (x : Txn). x.transaction) ls) c.mark.ensures.txns ∙ numbers_marked (said_op c.args.op.now) c.args.txn.0 c.args.self.now.txns)))

pub returns-else-reserves-clause-causes : goal.returns-else-reserves-clause-causes
returns-else-reserves-clause-causes g c = (refl, ap (λ (ls : List Txn). map (λ (x : Txn). x.transaction) ls) c.mark.ensures.txns ∙ numbers_marked (said_op c.args.op.now) c.args.txn.0 c.args.self.now.txns)

pub returns-in-Err-Model-clause-heeds : goal.returns-in-Err-Model-clause-heeds
returns-in-Err-Model-clause-heeds g c none =
    let quiet = rw c.in-Err-Model.field-0-is at c.in-Err-Model.ensures.refused in
    let acc = rw c.in-Err-Model.field-0-is at c.in-Err-Model.ensures.counts.accounts in
    heeding.heeds_well _ (g.E.Engine.view c.args.self.now.engine) (g.E.Engine.view c.perform.new.self) (omega (arith, c.act.ensures.quiet, quiet.1)) (omega (arith, c.act.ensures.tail, c.perform.ensures.counts.tail)) (λ h. quiet.0 (c.act.ensures.tells h))
    (accounting.unfailed_both (g.E.Engine.view c.args.self.now.engine) (g.E.Engine.view c.act.new.self) (g.E.Engine.view c.perform.new.self) (accounting.unasked (g.E.Engine.view c.args.self.now.engine) (g.E.Engine.view c.act.new.self) c.act.ensures.disk c.act.ensures.gate) (accounting.unfailed_refused (g.E.Engine.view c.act.new.self) (g.E.Engine.view c.perform.new.self) _ (λ is. is) acc))

pub returns-in-Err-Space-clause-heeds : goal.returns-in-Err-Space-clause-heeds
returns-in-Err-Space-clause-heeds g c none =
    let failed = rw c.in-Err-Space.field-0-is at c.in-Err-Space.ensures.counts.failed in
    let acc = rw c.in-Err-Space.field-0-is at c.in-Err-Space.ensures.counts.accounts in
    let core = rw c.in-Err-Space.field-0-is at c.halt.ensures.core in
    heeding.heeds_halt (g.E.Engine.view) c.args.self.now.stop c.halt.new.self.stop c.in-Err-Space.fault (g.E.Engine.view c.args.self.now.engine) c.perform.new.self c.halt.new.self.engine c.halt.ensures.engine (ap (λ (k : Core). k.stopped) core) none
    (omega (arith, c.act.ensures.quiet, c.perform.ensures.counts.later)) (omega (arith, c.act.ensures.tail, c.perform.ensures.counts.tail)) (λ is. heeding.risen_on _ _ _ _ (omega (arith, c.act.ensures.quiet)) c.perform.ensures.counts.later (omega arith) (failed is))
    (accounting.accounts_failed {B = Unit {0}} (g.E.Engine.view c.args.self.now.engine) (g.E.Engine.view c.act.new.self) (g.E.Engine.view c.perform.new.self) _ c.in-Err-Space.fault (λ is. is) (λ is. is) (accounting.unasked (g.E.Engine.view c.args.self.now.engine) (g.E.Engine.view c.act.new.self) c.act.ensures.disk c.act.ensures.gate) c.act.ensures.tells acc)

pub returns-then-is_empty-clause-heeds : goal.returns-then-is_empty-clause-heeds
returns-then-is_empty-clause-heeds g c none =
    heeding.heeds_well _ (g.E.Engine.view c.args.self.now.engine) (g.E.Engine.view c.perform.new.self) (omega (arith, c.act.ensures.quiet, c.in-Ok.ensures.counts.quiet)) (omega (arith, c.act.ensures.tail, c.perform.ensures.counts.tail)) (λ h. c.in-Ok.ensures.counts.tells (c.act.ensures.tells h))
    (accounting.unfailed_both (g.E.Engine.view c.args.self.now.engine) (g.E.Engine.view c.act.new.self) (g.E.Engine.view c.perform.new.self) (accounting.unasked (g.E.Engine.view c.args.self.now.engine) (g.E.Engine.view c.act.new.self) c.act.ensures.disk c.act.ensures.gate) (accounting.unfailed_done (g.E.Engine.view c.act.new.self) (g.E.Engine.view c.perform.new.self) _ c.in-Ok.ensures.counts.accounts))

pub returns-in-Err-clause-heeds : goal.returns-in-Err-clause-heeds
returns-in-Err-clause-heeds g c none =
    heeding.heeds_halt (g.E.Engine.view) c.args.self.now.stop c.halt-in-Err.new.self.stop c.in-Err.fault (g.E.Engine.view c.args.self.now.engine) c.end_action.new.self c.halt-in-Err.new.self.engine c.halt-in-Err.ensures.engine (ap (λ (k : Core). k.stopped) c.halt-in-Err.ensures.core) none
    (omega (arith, c.act.ensures.quiet, c.perform.ensures.counts.later, c.end_action.ensures.counts.later)) (omega (arith, c.act.ensures.tail, c.perform.ensures.counts.tail, c.end_action.ensures.counts.tail)) (λ is. heeding.risen_on _ _ _ _ (omega (arith, c.act.ensures.quiet, c.perform.ensures.counts.later)) c.end_action.ensures.counts.later (omega arith) (c.in-Err.ensures.counts.failed is))
    (accounting.accounts_then {B = Unit {0}} (g.E.Engine.view c.args.self.now.engine) (g.E.Engine.view c.perform.new.self) (g.E.Engine.view c.end_action.new.self) c.in-Err.fault (accounting.unfailed_both (g.E.Engine.view c.args.self.now.engine) (g.E.Engine.view c.act.new.self) (g.E.Engine.view c.perform.new.self) (accounting.unasked (g.E.Engine.view c.args.self.now.engine) (g.E.Engine.view c.act.new.self) c.act.ensures.disk c.act.ensures.gate) (accounting.unfailed_done (g.E.Engine.view c.act.new.self) (g.E.Engine.view c.perform.new.self) _ c.in-Ok.ensures.counts.accounts)) (λ h. c.in-Ok.ensures.counts.tells (c.act.ensures.tells h)) c.in-Err.ensures.counts.accounts)

pub returns-then-reserves-clause-heeds : goal.returns-then-reserves-clause-heeds
returns-then-reserves-clause-heeds g c none =
    heeding.heeds_well _ (g.E.Engine.view c.args.self.now.engine) (g.E.Engine.view c.end_action.new.self) (omega (arith, c.act.ensures.quiet, c.in-Ok.ensures.counts.quiet, c.in-Ok-end_action.ensures.counts.quiet)) (omega (arith, c.act.ensures.tail, c.perform.ensures.counts.tail, c.end_action.ensures.counts.tail)) (λ h. c.in-Ok-end_action.ensures.counts.tells (c.in-Ok.ensures.counts.tells (c.act.ensures.tells h)))
    (accounting.unfailed_both (g.E.Engine.view c.args.self.now.engine) (g.E.Engine.view c.perform.new.self) (g.E.Engine.view c.end_action.new.self) (accounting.unfailed_both (g.E.Engine.view c.args.self.now.engine) (g.E.Engine.view c.act.new.self) (g.E.Engine.view c.perform.new.self) (accounting.unasked (g.E.Engine.view c.args.self.now.engine) (g.E.Engine.view c.act.new.self) c.act.ensures.disk c.act.ensures.gate) (accounting.unfailed_done (g.E.Engine.view c.act.new.self) (g.E.Engine.view c.perform.new.self) _ c.in-Ok.ensures.counts.accounts)) (accounting.unfailed_done (g.E.Engine.view c.perform.new.self) (g.E.Engine.view c.end_action.new.self) _ c.in-Ok-end_action.ensures.counts.accounts))

pub returns-else-reserves-clause-heeds : goal.returns-else-reserves-clause-heeds
returns-else-reserves-clause-heeds g c none =
    heeding.heeds_well _ (g.E.Engine.view c.args.self.now.engine) (g.E.Engine.view c.end_action.new.self) (omega (arith, c.act.ensures.quiet, c.in-Ok.ensures.counts.quiet, c.in-Ok-end_action.ensures.counts.quiet)) (omega (arith, c.act.ensures.tail, c.perform.ensures.counts.tail, c.end_action.ensures.counts.tail)) (λ h. c.in-Ok-end_action.ensures.counts.tells (c.in-Ok.ensures.counts.tells (c.act.ensures.tells h)))
    (accounting.unfailed_both (g.E.Engine.view c.args.self.now.engine) (g.E.Engine.view c.perform.new.self) (g.E.Engine.view c.end_action.new.self) (accounting.unfailed_both (g.E.Engine.view c.args.self.now.engine) (g.E.Engine.view c.act.new.self) (g.E.Engine.view c.perform.new.self) (accounting.unasked (g.E.Engine.view c.args.self.now.engine) (g.E.Engine.view c.act.new.self) c.act.ensures.disk c.act.ensures.gate) (accounting.unfailed_done (g.E.Engine.view c.act.new.self) (g.E.Engine.view c.perform.new.self) _ c.in-Ok.ensures.counts.accounts)) (accounting.unfailed_done (g.E.Engine.view c.perform.new.self) (g.E.Engine.view c.end_action.new.self) _ c.in-Ok-end_action.ensures.counts.accounts))

pub returns-in-Err-Model-clause-marks : goal.returns-in-Err-Model-clause-marks
returns-in-Err-Model-clause-marks g c = marks_same (said_op c.args.op.now) c.args.txn.0 c.args.self.now.txns c.args.self.now.txns refl

pub returns-then-is_empty-clause-marks : goal.returns-then-is_empty-clause-marks
returns-then-is_empty-clause-marks g c = marks_same (said_op c.args.op.now) c.args.txn.0 c.args.self.now.txns c.args.self.now.txns refl

pub returns-in-Err-Space-clause-marks : goal.returns-in-Err-Space-clause-marks
returns-in-Err-Space-clause-marks g c = marks_same (said_op c.args.op.now) c.args.txn.0 c.args.self.now.txns c.halt.new.self.txns (ap (λ (k : Core). k.live) c.halt.ensures.core)

pub returns-in-Err-clause-marks : goal.returns-in-Err-clause-marks
returns-in-Err-clause-marks g c = marks_same (said_op c.args.op.now) c.args.txn.0 c.args.self.now.txns c.halt-in-Err.new.self.txns (ap (λ (k : Core). k.live) c.halt-in-Err.ensures.core)

pub returns-then-reserves-clause-marks : goal.returns-then-reserves-clause-marks
returns-then-reserves-clause-marks g c = marks_reserved (said_op c.args.op.now) c.args.txn.0 c.args.self.now.txns c.mark.new.txns c.reserve.new.self c.mark.ensures.txns c.reserve.ensures

pub returns-else-reserves-clause-marks : goal.returns-else-reserves-clause-marks
returns-else-reserves-clause-marks g c = marks_only (said_op c.args.op.now) c.args.txn.0 c.args.self.now.txns c.mark.new.txns c.mark.ensures.txns
