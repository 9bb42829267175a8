use Rattle.std.proofs.Common.{refl, sym, subst, ◌∙◌, ◌<◌, arith}
use Rattle.sg_ops.specs.Table.{table_of}
use Rattle.sg_store.specs.Engine.{led, IsAt, IsDiskFault, IsNearEnd}
use Rattle.sg_store.specs.Asks.{IsTakingBack}
use Rattle.sg_store.proofs.Serving as serving
use Rattle.sg_store.proofs.Taking as taking
use Rattle.sg_store.proofs.Undone as undone
use Rattle.sg_store.proofs.store.Store.undo_one.Given as given
use Rattle.sg_store.proofs.Accounting as accounting
use Rattle.sg_recovery.proofs.Basic.{same_number}
use Rattle.sg_store.specs.Room.{is_of}
use Rattle.sg_store.proofs.Stocked.{backs_none, steps_left}
use Rattle.sg_store.proofs.Nearing.{near_later}
use Rattle.sg_store.proofs.store.Store.undo_one.Goals as goal

pub returns-in-Ok-None-clause-stays : goal.returns-in-Ok-None-clause-stays
returns-in-Ok-None-clause-stays g c z from m told x lawful k live =
    let t = table_of (λ y. (given.RecordOp-dyn g y).record_meaning y.1) (λ y. (given.RangeOp-dyn g y).range_meaning y.1) c.args.ops.now in
    undone.step_stays t (g.E.Engine.basis z) lawful (led t z from (g.E.Engine.view c.args.self.now.engine)) c.args.self.now.txns x c.args.txn.0 0 c.args.at k live (led t z from (g.E.Engine.view c.undo_step.new.self)) (c.undo_step.ensures.some t z from m told (undone.begun t (g.E.Engine.basis z) lawful (led t z from (g.E.Engine.view c.args.self.now.engine)) c.args.self.now.txns x c.args.txn.0 0 c.args.at k live) k.engine k.idle refl).0

pub returns-in-Err-clause-stays : goal.returns-in-Err-clause-stays
returns-in-Err-clause-stays g c z from m told x lawful k live =
    let t = table_of (λ y. (given.RecordOp-dyn g y).record_meaning y.1) (λ y. (given.RangeOp-dyn g y).range_meaning y.1) c.args.ops.now in
    undone.step_stays t (g.E.Engine.basis z) lawful (led t z from (g.E.Engine.view c.args.self.now.engine)) c.args.self.now.txns x c.args.txn.0 0 c.args.at k live (led t z from (g.E.Engine.view c.undo_step.new.self)) (c.undo_step.ensures.some t z from m told (undone.begun t (g.E.Engine.basis z) lawful (led t z from (g.E.Engine.view c.args.self.now.engine)) c.args.self.now.txns x c.args.txn.0 0 c.args.at k live) k.engine k.idle refl).0

pub returns-in-Ok-None-clause-undid : goal.returns-in-Ok-None-clause-undid
returns-in-Ok-None-clause-undid g c z from m told x lawful k live =
    let t = table_of (λ y. (given.RecordOp-dyn g y).record_meaning y.1) (λ y. (given.RangeOp-dyn g y).range_meaning y.1) c.args.ops.now in
    let none = rw c.in-Ok-None.field-0-is at c.in-Ok-None.ensures.none in
    let b = none t z from m told k.engine k.idle refl in (
      undone.undid_none t (g.E.Engine.basis z) lawful (led t z from (g.E.Engine.view c.args.self.now.engine)) c.args.self.now.txns x c.args.txn.0 0 c.args.at k live (led t z from (g.E.Engine.view c.undo_step.new.self)) b.1,
      undone.none_still t (g.E.Engine.basis z) lawful (led t z from (g.E.Engine.view c.args.self.now.engine)) c.args.self.now.txns x c.args.txn.0 0 c.args.at k live (led t z from (g.E.Engine.view c.undo_step.new.self)) b.1 b.0,
      backs_none t (g.E.Engine.basis z) (led t z from (g.E.Engine.view c.args.self.now.engine)) (led t z from (g.E.Engine.view c.undo_step.new.self)) (is_of c.args.txn.0) b.1,
    )

pub returns-then-after-at-clause-stays : goal.returns-then-after-at-clause-stays
returns-then-after-at-clause-stays g c z from m told x lawful k live =
    let t = table_of (λ y. (given.RecordOp-dyn g y).record_meaning y.1) (λ y. (given.RangeOp-dyn g y).range_meaning y.1) c.args.ops.now in
    let some = rw c.in-Ok-Some.field-0-is at c.in-Ok-Some.ensures.some in
    absurd (taking.never_up t (g.E.Engine.basis z) lawful (led t z from (g.E.Engine.view c.args.self.now.engine)) c.args.self.now.txns x c.args.txn.0 0 c.args.at k live (led t z from (g.E.Engine.view c.undo_step.new.self)) c.undo_step.new.into c.in-Ok-Some.after (taking.all_low t (g.E.Engine.basis z) (led t z from (g.E.Engine.view c.args.self.now.engine)) (led t z from (g.E.Engine.view c.undo_step.new.self)) c.args.txn.0 c.undo_step.new.into c.in-Ok-Some.after (some t z from m told)) c.if-after-at.true)

pub returns-in-Err-reverse-clause-stays : goal.returns-in-Err-reverse-clause-stays
returns-in-Err-reverse-clause-stays g c z from m told x lawful k live =
    let t = table_of (λ y. (given.RecordOp-dyn g y).record_meaning y.1) (λ y. (given.RangeOp-dyn g y).range_meaning y.1) c.args.ops.now in
    let some = rw c.in-Ok-Some.field-0-is at c.in-Ok-Some.ensures.some in
    taking.reversing_stays t (g.E.Engine.basis z) lawful (led t z from (g.E.Engine.view c.args.self.now.engine)) c.args.self.now.txns x c.args.txn.0 0 c.args.at k live (led t z from (g.E.Engine.view c.undo_step.new.self)) c.undo_step.new.into c.in-Ok-Some.after (taking.all_low t (g.E.Engine.basis z) (led t z from (g.E.Engine.view c.args.self.now.engine)) (led t z from (g.E.Engine.view c.undo_step.new.self)) c.args.txn.0 c.undo_step.new.into c.in-Ok-Some.after (some t z from m told)) (led t z from (g.E.Engine.view c.reverse.new.self)) (λ o a n e f said can. (c.reverse.ensures.reverses z from (c.undo_step.ensures.means t z from m) (c.in-Ok-Some.ensures.counts.tells told) o a n e f said can).0)

pub returns-in-Ok-end_undo-clause-stays : goal.returns-in-Ok-end_undo-clause-stays
returns-in-Ok-end_undo-clause-stays g c z from m told x lawful k live =
    let t = table_of (λ y. (given.RecordOp-dyn g y).record_meaning y.1) (λ y. (given.RangeOp-dyn g y).range_meaning y.1) c.args.ops.now in
    let some = rw c.in-Ok-Some.field-0-is at c.in-Ok-Some.ensures.some in
    taking.ending_stays t (g.E.Engine.basis z) lawful (led t z from (g.E.Engine.view c.args.self.now.engine)) c.args.self.now.txns x c.args.txn.0 0 c.args.at k live (led t z from (g.E.Engine.view c.undo_step.new.self)) c.undo_step.new.into c.in-Ok-Some.after (taking.all_low t (g.E.Engine.basis z) (led t z from (g.E.Engine.view c.args.self.now.engine)) (led t z from (g.E.Engine.view c.undo_step.new.self)) c.args.txn.0 c.undo_step.new.into c.in-Ok-Some.after (some t z from m told)) (led t z from (g.E.Engine.view c.reverse.new.self)) (λ o a n e f said can. c.in-Ok.ensures.reverses z from (c.undo_step.ensures.means t z from m) (c.in-Ok-Some.ensures.counts.tells told) o a n e f said can) (led t z from (g.E.Engine.view c.end_undo.new.self)) (λ a e f own n ns stands next. let d = c.end_undo.ensures.ends t z from (c.reverse.ensures.means z from (c.undo_step.ensures.means t z from m)) (c.in-Ok.ensures.counts.tells (c.in-Ok-Some.ensures.counts.tells told)) a e f own n ns stands next in (d.0, d.1, d.2))

pub returns-in-Err-end_undo-clause-stays : goal.returns-in-Err-end_undo-clause-stays
returns-in-Err-end_undo-clause-stays g c z from m told x lawful k live =
    let t = table_of (λ y. (given.RecordOp-dyn g y).record_meaning y.1) (λ y. (given.RangeOp-dyn g y).range_meaning y.1) c.args.ops.now in
    let some = rw c.in-Ok-Some.field-0-is at c.in-Ok-Some.ensures.some in
    taking.ending_stays t (g.E.Engine.basis z) lawful (led t z from (g.E.Engine.view c.args.self.now.engine)) c.args.self.now.txns x c.args.txn.0 0 c.args.at k live (led t z from (g.E.Engine.view c.undo_step.new.self)) c.undo_step.new.into c.in-Ok-Some.after (taking.all_low t (g.E.Engine.basis z) (led t z from (g.E.Engine.view c.args.self.now.engine)) (led t z from (g.E.Engine.view c.undo_step.new.self)) c.args.txn.0 c.undo_step.new.into c.in-Ok-Some.after (some t z from m told)) (led t z from (g.E.Engine.view c.reverse.new.self)) (λ o a n e f said can. c.in-Ok.ensures.reverses z from (c.undo_step.ensures.means t z from m) (c.in-Ok-Some.ensures.counts.tells told) o a n e f said can) (led t z from (g.E.Engine.view c.end_undo.new.self)) (λ a e f own n ns stands next. let d = c.end_undo.ensures.ends t z from (c.reverse.ensures.means z from (c.undo_step.ensures.means t z from m)) (c.in-Ok.ensures.counts.tells (c.in-Ok-Some.ensures.counts.tells told)) a e f own n ns stands next in (d.0, d.1, d.2))

pub returns-in-Ok-end_undo-clause-undid : goal.returns-in-Ok-end_undo-clause-undid
returns-in-Ok-end_undo-clause-undid g c z from m told x lawful k live =
    let t = table_of (λ y. (given.RecordOp-dyn g y).record_meaning y.1) (λ y. (given.RangeOp-dyn g y).range_meaning y.1) c.args.ops.now in
    let some = rw c.in-Ok-Some.field-0-is at c.in-Ok-Some.ensures.some in
    let e = taking.ended_undid t (g.E.Engine.basis z) lawful (led t z from (g.E.Engine.view c.args.self.now.engine)) c.args.self.now.txns x c.args.txn.0 0 c.args.at k live (led t z from (g.E.Engine.view c.undo_step.new.self)) c.undo_step.new.into c.in-Ok-Some.after (taking.all_low t (g.E.Engine.basis z) (led t z from (g.E.Engine.view c.args.self.now.engine)) (led t z from (g.E.Engine.view c.undo_step.new.self)) c.args.txn.0 c.undo_step.new.into c.in-Ok-Some.after (some t z from m told)) (led t z from (g.E.Engine.view c.reverse.new.self)) (λ o a n e f said can. c.in-Ok.ensures.reverses z from (c.undo_step.ensures.means t z from m) (c.in-Ok-Some.ensures.counts.tells told) o a n e f said can) (led t z from (g.E.Engine.view c.end_undo.new.self)) (λ a e f own n ns stands next. c.in-Ok-end_undo.ensures.ends t z from (c.reverse.ensures.means z from (c.undo_step.ensures.means t z from m)) (c.in-Ok.ensures.counts.tells (c.in-Ok-Some.ensures.counts.tells told)) a e f own n ns stands next)
    (is_of c.args.txn.0) (steps_left t (g.E.Engine.basis z) c.args.txn.0) (λ i low. same_number c.args.txn.0) in
    (e.0, e.1)

pub undo_step-requires : goal.undo_step-requires
undo_step-requires g c =
    let t = table_of (λ y. (given.RecordOp-dyn g y).record_meaning y.1) (λ y. (given.RangeOp-dyn g y).range_meaning y.1) c.args.ops.now in
    record { can = serving.asked_of t (g.E.Engine.view c.args.self.now.engine) (IsTakingBack c.args.self.now.txns c.args.txn.0 c.args.at t) (IsAt c.args.txn.0) (λ b v h. record { rest = record { engine = h.undoing.engine; idle = h.undoing.idle }; live = h.undoing.undoes.same.lives c.args.txn.0 ∙ h.live }) c.requires.can }

pub reverse-requires : goal.reverse-requires
reverse-requires g c =
    let t = table_of (λ y. (given.RecordOp-dyn g y).record_meaning y.1) (λ y. (given.RangeOp-dyn g y).range_meaning y.1) c.args.ops.now in
    let some = rw c.in-Ok-Some.field-0-is at c.in-Ok-Some.ensures.some in
    let s = c.requires.can in
    record {
      can = record {
        sizes = s.sizes;
        from = λ told. s.from (c.undo_step.ensures.counts.told told);
        means = λ told. c.undo_step.ensures.means t s.sizes (s.from (c.undo_step.ensures.counts.told told)) (s.means (c.undo_step.ensures.counts.told told));
        can = λ told.
            (let one = c.undo_step.ensures.counts.told told in
            let h = s.can one in
            taking.takes_back t (g.E.Engine.basis s.sizes) h.lawful (led t s.sizes (s.from one) (g.E.Engine.view c.args.self.now.engine)) c.args.self.now.txns h.run c.args.txn.0 0 c.args.at h.undoing h.live (led t s.sizes (s.from one) (g.E.Engine.view c.undo_step.new.self)) c.undo_step.new.into c.in-Ok-Some.after (taking.all_low t (g.E.Engine.basis s.sizes) (led t s.sizes (s.from one) (g.E.Engine.view c.args.self.now.engine)) (led t s.sizes (s.from one) (g.E.Engine.view c.undo_step.new.self)) c.args.txn.0 c.undo_step.new.into c.in-Ok-Some.after (some t s.sizes (s.from one) (s.means one) one)));
      };
    }

pub end_undo-requires : goal.end_undo-requires
end_undo-requires g c =
    let t = table_of (λ y. (given.RecordOp-dyn g y).record_meaning y.1) (λ y. (given.RangeOp-dyn g y).range_meaning y.1) c.args.ops.now in
    let some = rw c.in-Ok-Some.field-0-is at c.in-Ok-Some.ensures.some in
    let s = c.requires.can in
    record {
      can = record {
        by = t;
        sizes = s.sizes;
        from = λ told. s.from (c.undo_step.ensures.counts.told (c.reverse.ensures.counts.told told));
        means = λ told. c.reverse.ensures.means s.sizes (s.from (c.undo_step.ensures.counts.told (c.reverse.ensures.counts.told told))) (c.undo_step.ensures.means t s.sizes (s.from (c.undo_step.ensures.counts.told (c.reverse.ensures.counts.told told))) (s.means (c.undo_step.ensures.counts.told (c.reverse.ensures.counts.told told))));
        can = λ told.
            (let two = c.reverse.ensures.counts.told told in
            let one = c.undo_step.ensures.counts.told two in
            let h = s.can one in
            taking.acts_back t (g.E.Engine.basis s.sizes) h.lawful (led t s.sizes (s.from one) (g.E.Engine.view c.args.self.now.engine)) c.args.self.now.txns h.run c.args.txn.0 0 c.args.at h.undoing h.live (led t s.sizes (s.from one) (g.E.Engine.view c.undo_step.new.self)) c.undo_step.new.into c.in-Ok-Some.after (taking.all_low t (g.E.Engine.basis s.sizes) (led t s.sizes (s.from one) (g.E.Engine.view c.args.self.now.engine)) (led t s.sizes (s.from one) (g.E.Engine.view c.undo_step.new.self)) c.args.txn.0 c.undo_step.new.into c.in-Ok-Some.after (some t s.sizes (s.from one) (s.means one) one)) (led t s.sizes (s.from one) (g.E.Engine.view c.reverse.new.self)) (λ o a n e f said can. c.in-Ok.ensures.reverses s.sizes (s.from one) (c.undo_step.ensures.means t s.sizes (s.from one) (s.means one)) two o a n e f said can));
      };
    }

pub returns-in-Err-reverse-clause-means : goal.returns-in-Err-reverse-clause-means
returns-in-Err-reverse-clause-means g c z from m =
    let t = table_of (λ y. (given.RecordOp-dyn g y).record_meaning y.1) (λ y. (given.RangeOp-dyn g y).range_meaning y.1) c.args.ops.now in
    c.reverse.ensures.means z from (c.undo_step.ensures.means t z from m)

pub returns-in-Ok-end_undo-clause-means : goal.returns-in-Ok-end_undo-clause-means
returns-in-Ok-end_undo-clause-means g c z from m =
    let t = table_of (λ y. (given.RecordOp-dyn g y).record_meaning y.1) (λ y. (given.RangeOp-dyn g y).range_meaning y.1) c.args.ops.now in
    c.end_undo.ensures.means t z from (c.reverse.ensures.means z from (c.undo_step.ensures.means t z from m))

pub returns-in-Err-end_undo-clause-means : goal.returns-in-Err-end_undo-clause-means
returns-in-Err-end_undo-clause-means g c z from m =
    let t = table_of (λ y. (given.RecordOp-dyn g y).record_meaning y.1) (λ y. (given.RangeOp-dyn g y).range_meaning y.1) c.args.ops.now in
    c.end_undo.ensures.means t z from (c.reverse.ensures.means z from (c.undo_step.ensures.means t z from m))

pub returns-in-Ok-None-clause-accounts : goal.returns-in-Ok-None-clause-accounts
returns-in-Ok-None-clause-accounts g c =
    accounting.accounts_done (g.E.Engine.view c.args.self.now.engine) (g.E.Engine.view c.undo_step.new.self) _ (accounting.unfailed_done (g.E.Engine.view c.args.self.now.engine) (g.E.Engine.view c.undo_step.new.self) _ c.in-Ok-None.ensures.counts.accounts)

pub returns-in-Err-clause-accounts : goal.returns-in-Err-clause-accounts
returns-in-Err-clause-accounts g c =
    accounting.accounts_then (g.E.Engine.view c.args.self.now.engine) (g.E.Engine.view c.args.self.now.engine) (g.E.Engine.view c.undo_step.new.self) c.in-Err.fault (accounting.unfailed_none (g.E.Engine.view c.args.self.now.engine)) (λ h. h) c.in-Err.ensures.counts.accounts

pub returns-in-Err-reverse-clause-accounts : goal.returns-in-Err-reverse-clause-accounts
returns-in-Err-reverse-clause-accounts g c =
    accounting.accounts_then (g.E.Engine.view c.args.self.now.engine) (g.E.Engine.view c.undo_step.new.self) (g.E.Engine.view c.reverse.new.self) c.in-Err-reverse.fault (accounting.unfailed_done (g.E.Engine.view c.args.self.now.engine) (g.E.Engine.view c.undo_step.new.self) _ c.in-Ok-Some.ensures.counts.accounts) c.in-Ok-Some.ensures.counts.tells c.in-Err-reverse.ensures.counts.accounts

pub returns-in-Ok-end_undo-clause-accounts : goal.returns-in-Ok-end_undo-clause-accounts
returns-in-Ok-end_undo-clause-accounts g c =
    accounting.accounts_done (g.E.Engine.view c.args.self.now.engine) (g.E.Engine.view c.end_undo.new.self) _ (accounting.unfailed_both (g.E.Engine.view c.args.self.now.engine) (g.E.Engine.view c.reverse.new.self) (g.E.Engine.view c.end_undo.new.self) (accounting.unfailed_both (g.E.Engine.view c.args.self.now.engine) (g.E.Engine.view c.undo_step.new.self) (g.E.Engine.view c.reverse.new.self) (accounting.unfailed_done (g.E.Engine.view c.args.self.now.engine) (g.E.Engine.view c.undo_step.new.self) _ c.in-Ok-Some.ensures.counts.accounts) (accounting.unfailed_done (g.E.Engine.view c.undo_step.new.self) (g.E.Engine.view c.reverse.new.self) _ c.in-Ok.ensures.counts.accounts)) (accounting.unfailed_done (g.E.Engine.view c.reverse.new.self) (g.E.Engine.view c.end_undo.new.self) _ c.in-Ok-end_undo.ensures.counts.accounts))

pub returns-in-Err-end_undo-clause-accounts : goal.returns-in-Err-end_undo-clause-accounts
returns-in-Err-end_undo-clause-accounts g c =
    accounting.accounts_then (g.E.Engine.view c.args.self.now.engine) (g.E.Engine.view c.reverse.new.self) (g.E.Engine.view c.end_undo.new.self) c.in-Err-end_undo.fault (accounting.unfailed_both (g.E.Engine.view c.args.self.now.engine) (g.E.Engine.view c.undo_step.new.self) (g.E.Engine.view c.reverse.new.self) (accounting.unfailed_done (g.E.Engine.view c.args.self.now.engine) (g.E.Engine.view c.undo_step.new.self) _ c.in-Ok-Some.ensures.counts.accounts) (accounting.unfailed_done (g.E.Engine.view c.undo_step.new.self) (g.E.Engine.view c.reverse.new.self) _ c.in-Ok.ensures.counts.accounts)) (λ h. c.in-Ok.ensures.counts.tells (c.in-Ok-Some.ensures.counts.tells h)) c.in-Err-end_undo.ensures.counts.accounts

pub broken-requires : goal.broken-requires
broken-requires g c =
    let t = table_of (λ y. (given.RecordOp-dyn g y).record_meaning y.1) (λ y. (given.RangeOp-dyn g y).range_meaning y.1) c.args.ops.now in
    let s = c.requires.can in
    let some = rw c.in-Ok-Some.field-0-is at c.in-Ok-Some.ensures.some in
    record {
      untold = λ told.
          (let one = c.undo_step.ensures.counts.told told in
          let h = s.can one in
          taking.never_up t (g.E.Engine.basis s.sizes) h.lawful (led t s.sizes (s.from one) (g.E.Engine.view c.args.self.now.engine)) c.args.self.now.txns h.run c.args.txn.0 0 c.args.at h.undoing h.live (led t s.sizes (s.from one) (g.E.Engine.view c.undo_step.new.self)) c.undo_step.new.into c.in-Ok-Some.after (taking.all_low t (g.E.Engine.basis s.sizes) (led t s.sizes (s.from one) (g.E.Engine.view c.args.self.now.engine)) (led t s.sizes (s.from one) (g.E.Engine.view c.undo_step.new.self)) c.args.txn.0 c.undo_step.new.into c.in-Ok-Some.after (some t s.sizes (s.from one) (s.means one) one)) c.if-after-at.true);
    }

pub returns-then-after-at-clause-accounts : goal.returns-then-after-at-clause-accounts
returns-then-after-at-clause-accounts g c =
    let t = table_of (λ y. (given.RecordOp-dyn g y).record_meaning y.1) (λ y. (given.RangeOp-dyn g y).range_meaning y.1) c.args.ops.now in
    let s = c.requires.can in
    let some = rw c.in-Ok-Some.field-0-is at c.in-Ok-Some.ensures.some in
    accounting.accounts_broken (g.E.Engine.view c.args.self.now.engine) (g.E.Engine.view c.broken.new.self) c.broken.result (subst IsDiskFault (sym c.broken.ensures.answer) tt)
    (λ one.
    (let h = s.can one in
    taking.never_up t (g.E.Engine.basis s.sizes) h.lawful (led t s.sizes (s.from one) (g.E.Engine.view c.args.self.now.engine)) c.args.self.now.txns h.run c.args.txn.0 0 c.args.at h.undoing h.live (led t s.sizes (s.from one) (g.E.Engine.view c.undo_step.new.self)) c.undo_step.new.into c.in-Ok-Some.after (taking.all_low t (g.E.Engine.basis s.sizes) (led t s.sizes (s.from one) (g.E.Engine.view c.args.self.now.engine)) (led t s.sizes (s.from one) (g.E.Engine.view c.undo_step.new.self)) c.args.txn.0 c.undo_step.new.into c.in-Ok-Some.after (some t s.sizes (s.from one) (s.means one) one)) c.if-after-at.true))
    (accounting.unfailed_both (g.E.Engine.view c.args.self.now.engine) (g.E.Engine.view c.undo_step.new.self) (g.E.Engine.view c.broken.new.self) (accounting.unfailed_done (g.E.Engine.view c.args.self.now.engine) (g.E.Engine.view c.undo_step.new.self) _ c.in-Ok-Some.ensures.counts.accounts) (accounting.unasked (g.E.Engine.view c.undo_step.new.self) (g.E.Engine.view c.broken.new.self) c.broken.ensures.disk c.broken.ensures.gate))

pub returns-in-Ok-None-clause-told : goal.returns-in-Ok-None-clause-told
returns-in-Ok-None-clause-told g c = c.undo_step.ensures.counts.told

pub returns-in-Err-clause-told : goal.returns-in-Err-clause-told
returns-in-Err-clause-told g c = c.undo_step.ensures.counts.told

pub returns-then-after-at-clause-told : goal.returns-then-after-at-clause-told
returns-then-after-at-clause-told g c = λ told. c.undo_step.ensures.counts.told (c.broken.ensures.told told)

pub returns-in-Err-reverse-clause-told : goal.returns-in-Err-reverse-clause-told
returns-in-Err-reverse-clause-told g c = λ told. c.undo_step.ensures.counts.told (c.reverse.ensures.counts.told told)

pub returns-in-Ok-end_undo-clause-told : goal.returns-in-Ok-end_undo-clause-told
returns-in-Ok-end_undo-clause-told g c = λ told. c.undo_step.ensures.counts.told (c.reverse.ensures.counts.told (c.end_undo.ensures.counts.told told))

pub returns-in-Err-end_undo-clause-told : goal.returns-in-Err-end_undo-clause-told
returns-in-Err-end_undo-clause-told g c = λ told. c.undo_step.ensures.counts.told (c.reverse.ensures.counts.told (c.end_undo.ensures.counts.told told))

pub returns-in-Ok-None-clause-tells : goal.returns-in-Ok-None-clause-tells
returns-in-Ok-None-clause-tells g c = c.in-Ok-None.ensures.counts.tells

pub returns-in-Ok-None-clause-quiet : goal.returns-in-Ok-None-clause-quiet
returns-in-Ok-None-clause-quiet g c = c.in-Ok-None.ensures.counts.quiet

pub returns-in-Ok-end_undo-clause-tells : goal.returns-in-Ok-end_undo-clause-tells
returns-in-Ok-end_undo-clause-tells g c = λ told. c.in-Ok-end_undo.ensures.counts.tells (c.in-Ok.ensures.counts.tells (c.in-Ok-Some.ensures.counts.tells told))

pub returns-in-Ok-end_undo-clause-quiet : goal.returns-in-Ok-end_undo-clause-quiet
returns-in-Ok-end_undo-clause-quiet g c = c.in-Ok-end_undo.ensures.counts.quiet ∙ (c.in-Ok.ensures.counts.quiet ∙ c.in-Ok-Some.ensures.counts.quiet)

pub returns-in-Ok-None-clause-later : goal.returns-in-Ok-None-clause-later
returns-in-Ok-None-clause-later g c = c.undo_step.ensures.counts.later

pub returns-in-Err-clause-later : goal.returns-in-Err-clause-later
returns-in-Err-clause-later g c = c.undo_step.ensures.counts.later

pub returns-then-after-at-clause-later : goal.returns-then-after-at-clause-later
returns-then-after-at-clause-later g c = omega (arith, c.undo_step.ensures.counts.later, c.broken.ensures.later)

pub returns-in-Err-reverse-clause-later : goal.returns-in-Err-reverse-clause-later
returns-in-Err-reverse-clause-later g c = omega (arith, c.undo_step.ensures.counts.later, c.reverse.ensures.counts.later)

pub returns-in-Ok-end_undo-clause-later : goal.returns-in-Ok-end_undo-clause-later
returns-in-Ok-end_undo-clause-later g c = omega (arith, c.undo_step.ensures.counts.later, c.reverse.ensures.counts.later, c.end_undo.ensures.counts.later)

pub returns-in-Err-end_undo-clause-later : goal.returns-in-Err-end_undo-clause-later
returns-in-Err-end_undo-clause-later g c = omega (arith, c.undo_step.ensures.counts.later, c.reverse.ensures.counts.later, c.end_undo.ensures.counts.later)

pub returns-in-Ok-None-clause-tail : goal.returns-in-Ok-None-clause-tail
returns-in-Ok-None-clause-tail g c = c.undo_step.ensures.counts.tail

pub returns-in-Err-clause-tail : goal.returns-in-Err-clause-tail
returns-in-Err-clause-tail g c = c.undo_step.ensures.counts.tail

pub returns-then-after-at-clause-tail : goal.returns-then-after-at-clause-tail
returns-then-after-at-clause-tail g c = omega (arith, c.undo_step.ensures.counts.tail, c.broken.ensures.tail)

pub returns-in-Err-reverse-clause-tail : goal.returns-in-Err-reverse-clause-tail
returns-in-Err-reverse-clause-tail g c = omega (arith, c.undo_step.ensures.counts.tail, c.reverse.ensures.counts.tail)

pub returns-in-Ok-end_undo-clause-tail : goal.returns-in-Ok-end_undo-clause-tail
returns-in-Ok-end_undo-clause-tail g c = omega (arith, c.undo_step.ensures.counts.tail, c.reverse.ensures.counts.tail, c.end_undo.ensures.counts.tail)

pub returns-in-Err-end_undo-clause-tail : goal.returns-in-Err-end_undo-clause-tail
returns-in-Err-end_undo-clause-tail g c = omega (arith, c.undo_step.ensures.counts.tail, c.reverse.ensures.counts.tail, c.end_undo.ensures.counts.tail)

pub returns-in-Err-clause-failed : goal.returns-in-Err-clause-failed
returns-in-Err-clause-failed g c = c.in-Err.ensures.counts.failed

pub returns-then-after-at-clause-failed : goal.returns-then-after-at-clause-failed
returns-then-after-at-clause-failed g c = λ is few.
    let q0 = c.in-Ok-Some.ensures.counts.quiet in
    let r : (g.E.Engine.view c.undo_step.new.self).faults < (g.E.Engine.view c.broken.new.self).faults = c.broken.ensures.risen (omega (arith, few, q0)) in
    omega (arith, r, q0)

pub returns-in-Err-reverse-clause-failed : goal.returns-in-Err-reverse-clause-failed
returns-in-Err-reverse-clause-failed g c = λ is few.
    let q0 = c.in-Ok-Some.ensures.counts.quiet in
    let r : (g.E.Engine.view c.undo_step.new.self).faults < (g.E.Engine.view c.reverse.new.self).faults = c.in-Err-reverse.ensures.counts.failed is (omega (arith, few, q0)) in
    omega (arith, r, q0)

pub returns-in-Err-end_undo-clause-failed : goal.returns-in-Err-end_undo-clause-failed
returns-in-Err-end_undo-clause-failed g c = λ is few.
    let q0 = c.in-Ok-Some.ensures.counts.quiet in
    let q1 = c.in-Ok.ensures.counts.quiet in
    let r : (g.E.Engine.view c.reverse.new.self).faults < (g.E.Engine.view c.end_undo.new.self).faults = c.in-Err-end_undo.ensures.counts.failed is (omega (arith, few, q0, q1)) in
    omega (arith, r, q0, q1)

pub returns-in-Err-clause-log_end : goal.returns-in-Err-clause-log_end
returns-in-Err-clause-log_end g c = c.in-Err.ensures.log_end

pub returns-in-Err-reverse-clause-log_end : goal.returns-in-Err-reverse-clause-log_end
returns-in-Err-reverse-clause-log_end g c = c.in-Err-reverse.ensures.log_end

pub returns-then-after-at-clause-log_end : goal.returns-then-after-at-clause-log_end
returns-then-after-at-clause-log_end g c = subst (λ f. IsNearEnd (g.E.Engine.view c.broken.new.self).tail f) (sym c.broken.ensures.answer) tt

pub returns-in-Err-end_undo-clause-log_end : goal.returns-in-Err-end_undo-clause-log_end
returns-in-Err-end_undo-clause-log_end g c = near_later (g.E.Engine.view c.reverse.new.self).tail (g.E.Engine.view c.end_undo.new.self).tail c.in-Err-end_undo.fault c.end_undo.ensures.counts.tail c.in-Err-end_undo.ensures.log_end

pub returns-in-Ok-None-clause-means : goal.returns-in-Ok-None-clause-means
returns-in-Ok-None-clause-means g c z from m =
    let t = table_of (λ y. (given.RecordOp-dyn g y).record_meaning y.1) (λ y. (given.RangeOp-dyn g y).range_meaning y.1) c.args.ops.now in
    c.undo_step.ensures.means t z from m

pub returns-in-Err-clause-means : goal.returns-in-Err-clause-means
returns-in-Err-clause-means g c z from m =
    let t = table_of (λ y. (given.RecordOp-dyn g y).record_meaning y.1) (λ y. (given.RangeOp-dyn g y).range_meaning y.1) c.args.ops.now in
    c.undo_step.ensures.means t z from m

pub returns-then-after-at-clause-means : goal.returns-then-after-at-clause-means
returns-then-after-at-clause-means g c z from m =
    let t = table_of (λ y. (given.RecordOp-dyn g y).record_meaning y.1) (λ y. (given.RangeOp-dyn g y).range_meaning y.1) c.args.ops.now in
    c.broken.ensures.means t z from (c.undo_step.ensures.means t z from m)
