use Rattle.std.proofs.Common.{Some, refl}
use Rattle.sg_run.specs.Run.{committed}
use Rattle.sg_store.proofs.Leaving as leaving
use Rattle.sg_ops.specs.Table.{table_of}
use Rattle.sg_store.specs.Engine.{led, MayAct}
use Rattle.sg_store.proofs.store.Store.free_one.Given as given
use Rattle.sg_store.proofs.Serving as serving
use Rattle.sg_store.specs.Asks.{IsFreeing}
use Rattle.sg_store.proofs.Accounting as accounting
use Rattle.sg_store.proofs.Stocked.{frees_nothing}
use Rattle.sg_store.proofs.store.Store.free_one.Goals as goal

pub returns-in-Err-clause-stays : goal.returns-in-Err-clause-stays
returns-in-Err-clause-stays g c z from m told x lawful k =
    let t = table_of (λ y. (given.RecordOp-dyn g y).record_meaning y.1) (λ y. (given.RangeOp-dyn g y).range_meaning y.1) c.args.ops.now in
    let v = led t z from (g.E.Engine.view c.args.self.now.engine) in
    let w = led t z from (g.E.Engine.view c.act.new.self) in
    let y = led t z from (g.E.Engine.view c.free_next.new.self) in
    let ts = c.args.self.now.txns in
    let u = c.args.txn.0 in
    let acts = c.act.ensures.acts t z from m told k.engine k.idle in
    let k1 = leaving.acted_leaving _ (g.E.Engine.basis z) v w ts x u (Some _) acts.0 acts.1 k in
    let f = c.free_next.ensures.frees z from (c.act.ensures.means t z from m) (c.act.ensures.tells told) (leaving.o _ (g.E.Engine.basis z) lawful w ts x u k1) (leaving.begun _ (g.E.Engine.basis z) lawful w ts x u k1) acts.0 k1.idle (leaving.action_is _ (g.E.Engine.basis z) v w acts.1) refl (leaving.reads_so _ (g.E.Engine.basis z) lawful w ts x u k1) in
    leaving.stays_from _ (g.E.Engine.basis z) v w y (committed x u) (Some _) acts.1 (leaving.freeing_stays _ (g.E.Engine.basis z) lawful w ts x u k1 y f.0)

pub returns-in-Ok-false-clause-stays : goal.returns-in-Ok-false-clause-stays
returns-in-Ok-false-clause-stays g c z from m told x lawful k =
    let t = table_of (λ y. (given.RecordOp-dyn g y).record_meaning y.1) (λ y. (given.RangeOp-dyn g y).range_meaning y.1) c.args.ops.now in
    let v = led t z from (g.E.Engine.view c.args.self.now.engine) in
    let w = led t z from (g.E.Engine.view c.act.new.self) in
    let y = led t z from (g.E.Engine.view c.free_next.new.self) in
    let ts = c.args.self.now.txns in
    let u = c.args.txn.0 in
    let acts = c.act.ensures.acts t z from m told k.engine k.idle in
    let k1 = leaving.acted_leaving _ (g.E.Engine.basis z) v w ts x u (Some _) acts.0 acts.1 k in
    let f = c.free_next.ensures.frees z from (c.act.ensures.means t z from m) (c.act.ensures.tells told) (leaving.o _ (g.E.Engine.basis z) lawful w ts x u k1) (leaving.begun _ (g.E.Engine.basis z) lawful w ts x u k1) acts.0 k1.idle (leaving.action_is _ (g.E.Engine.basis z) v w acts.1) refl (leaving.reads_so _ (g.E.Engine.basis z) lawful w ts x u k1) in
    leaving.stays_from _ (g.E.Engine.basis z) v w y (committed x u) (Some _) acts.1 (leaving.freeing_stays _ (g.E.Engine.basis z) lawful w ts x u k1 y f.0)

pub returns-in-Ok-false-clause-frees : goal.returns-in-Ok-false-clause-frees
returns-in-Ok-false-clause-frees g c z from m told x lawful k =
    let t = table_of (λ y. (given.RecordOp-dyn g y).record_meaning y.1) (λ y. (given.RangeOp-dyn g y).range_meaning y.1) c.args.ops.now in
    let v = led t z from (g.E.Engine.view c.args.self.now.engine) in
    let w = led t z from (g.E.Engine.view c.act.new.self) in
    let y = led t z from (g.E.Engine.view c.free_next.new.self) in
    let ts = c.args.self.now.txns in
    let u = c.args.txn.0 in
    let acts = c.act.ensures.acts t z from m told k.engine k.idle in
    let k1 = leaving.acted_leaving _ (g.E.Engine.basis z) v w ts x u (Some _) acts.0 acts.1 k in
    let frees = rw c.in-Ok-false.field-0-test at c.in-Ok-false.ensures.frees in
    let f = frees z from (c.act.ensures.means t z from m) (c.act.ensures.tells told) (leaving.o _ (g.E.Engine.basis z) lawful w ts x u k1) (leaving.begun _ (g.E.Engine.basis z) lawful w ts x u k1) acts.0 k1.idle (leaving.action_is _ (g.E.Engine.basis z) v w acts.1) refl (leaving.reads_so _ (g.E.Engine.basis z) lawful w ts x u k1) in (
      leaving.rested_leaving _ (g.E.Engine.basis z) lawful w ts x u k1 y f.1.0,
      leaving.none_left _ (g.E.Engine.basis z) lawful w ts x u k1 y f.1.0 f.1.1,
      leaving.frees_from _ (g.E.Engine.basis z) v w y u (Some _) acts.1 (frees_nothing _ (g.E.Engine.basis z) w y u f.1.0.log f.1.0.goes_on.first),
    )

pub returns-in-Ok-clause-stays : goal.returns-in-Ok-clause-stays
returns-in-Ok-clause-stays g c z from m told x lawful k =
    let t = table_of (λ y. (given.RecordOp-dyn g y).record_meaning y.1) (λ y. (given.RangeOp-dyn g y).range_meaning y.1) c.args.ops.now in
    let v = led t z from (g.E.Engine.view c.args.self.now.engine) in
    let w = led t z from (g.E.Engine.view c.act.new.self) in
    let y = led t z from (g.E.Engine.view c.free_next.new.self) in
    let ts = c.args.self.now.txns in
    let u = c.args.txn.0 in
    let acts = c.act.ensures.acts t z from m told k.engine k.idle in
    let k1 = leaving.acted_leaving _ (g.E.Engine.basis z) v w ts x u (Some _) acts.0 acts.1 k in
    let frees = rw c.in-Ok-true.field-0-test at c.in-Ok-true.ensures.frees in
    let f = frees z from (c.act.ensures.means t z from m) (c.act.ensures.tells told) (leaving.o _ (g.E.Engine.basis z) lawful w ts x u k1) (leaving.begun _ (g.E.Engine.basis z) lawful w ts x u k1) acts.0 k1.idle (leaving.action_is _ (g.E.Engine.basis z) v w acts.1) refl (leaving.reads_so _ (g.E.Engine.basis z) lawful w ts x u k1) in
    let last = led t z from (g.E.Engine.view c.end_action.new.self) in
    let e = c.end_action.ensures.ends t z from (c.free_next.ensures.means z from (c.act.ensures.means t z from m)) (c.in-Ok-true.ensures.counts.tells (c.act.ensures.tells told)) (leaving.begun _ (g.E.Engine.basis z) lawful w ts x u k1) f.1.changed.goes_on.engine f.1.changed.action refl in
    leaving.stays_from _ (g.E.Engine.basis z) v w last (committed x u) (Some _) acts.1 (leaving.freed_stays _ (g.E.Engine.basis z) lawful w ts x u k1 y f.0 f.1 last e.0 e.1 e.2 _ e.3)

pub returns-in-Err-end_action-clause-stays : goal.returns-in-Err-end_action-clause-stays
returns-in-Err-end_action-clause-stays g c z from m told x lawful k =
    let t = table_of (λ y. (given.RecordOp-dyn g y).record_meaning y.1) (λ y. (given.RangeOp-dyn g y).range_meaning y.1) c.args.ops.now in
    let v = led t z from (g.E.Engine.view c.args.self.now.engine) in
    let w = led t z from (g.E.Engine.view c.act.new.self) in
    let y = led t z from (g.E.Engine.view c.free_next.new.self) in
    let ts = c.args.self.now.txns in
    let u = c.args.txn.0 in
    let acts = c.act.ensures.acts t z from m told k.engine k.idle in
    let k1 = leaving.acted_leaving _ (g.E.Engine.basis z) v w ts x u (Some _) acts.0 acts.1 k in
    let frees = rw c.in-Ok-true.field-0-test at c.in-Ok-true.ensures.frees in
    let f = frees z from (c.act.ensures.means t z from m) (c.act.ensures.tells told) (leaving.o _ (g.E.Engine.basis z) lawful w ts x u k1) (leaving.begun _ (g.E.Engine.basis z) lawful w ts x u k1) acts.0 k1.idle (leaving.action_is _ (g.E.Engine.basis z) v w acts.1) refl (leaving.reads_so _ (g.E.Engine.basis z) lawful w ts x u k1) in
    let last = led t z from (g.E.Engine.view c.end_action.new.self) in
    let e = c.end_action.ensures.ends t z from (c.free_next.ensures.means z from (c.act.ensures.means t z from m)) (c.in-Ok-true.ensures.counts.tells (c.act.ensures.tells told)) (leaving.begun _ (g.E.Engine.basis z) lawful w ts x u k1) f.1.changed.goes_on.engine f.1.changed.action refl in
    leaving.stays_from _ (g.E.Engine.basis z) v w last (committed x u) (Some _) acts.1 (leaving.freed_stays _ (g.E.Engine.basis z) lawful w ts x u k1 y f.0 f.1 last e.0 e.1 e.2 _ e.3)

pub returns-in-Ok-clause-frees : goal.returns-in-Ok-clause-frees
returns-in-Ok-clause-frees g c z from m told x lawful k =
    let t = table_of (λ y. (given.RecordOp-dyn g y).record_meaning y.1) (λ y. (given.RangeOp-dyn g y).range_meaning y.1) c.args.ops.now in
    let v = led t z from (g.E.Engine.view c.args.self.now.engine) in
    let w = led t z from (g.E.Engine.view c.act.new.self) in
    let y = led t z from (g.E.Engine.view c.free_next.new.self) in
    let ts = c.args.self.now.txns in
    let u = c.args.txn.0 in
    let acts = c.act.ensures.acts t z from m told k.engine k.idle in
    let k1 = leaving.acted_leaving _ (g.E.Engine.basis z) v w ts x u (Some _) acts.0 acts.1 k in
    let frees = rw c.in-Ok-true.field-0-test at c.in-Ok-true.ensures.frees in
    let f = frees z from (c.act.ensures.means t z from m) (c.act.ensures.tells told) (leaving.o _ (g.E.Engine.basis z) lawful w ts x u k1) (leaving.begun _ (g.E.Engine.basis z) lawful w ts x u k1) acts.0 k1.idle (leaving.action_is _ (g.E.Engine.basis z) v w acts.1) refl (leaving.reads_so _ (g.E.Engine.basis z) lawful w ts x u k1) in
    let last = led t z from (g.E.Engine.view c.end_action.new.self) in
    let e = c.in-Ok.ensures.ends t z from (c.free_next.ensures.means z from (c.act.ensures.means t z from m)) (c.in-Ok-true.ensures.counts.tells (c.act.ensures.tells told)) (leaving.begun _ (g.E.Engine.basis z) lawful w ts x u k1) f.1.changed.goes_on.engine f.1.changed.action refl in (
      leaving.freed_leaving _ (g.E.Engine.basis z) lawful w ts x u k1 y f.0 f.1 last e.0 e.1 e.2 _ e.3 e.4,
      leaving.tail_from v w last (Some _) acts.1 (leaving.freed_higher _ (g.E.Engine.basis z) lawful w ts x u k1 y f.0 f.1 last e.0 e.1 e.2 _ e.3 e.4),
      leaving.frees_from _ (g.E.Engine.basis z) v w last u (Some _) acts.1 (leaving.freed_stock _ (g.E.Engine.basis z) lawful w ts x u k1 y f.0 f.1 last e.0 e.1 e.2 _ e.3 e.4),
    )

pub act-requires : goal.act-requires
act-requires g c =
    let t = table_of (λ y. (given.RecordOp-dyn g y).record_meaning y.1) (λ y. (given.RangeOp-dyn g y).range_meaning y.1) c.args.ops.now in
    record { can = serving.asked_of t (g.E.Engine.view c.args.self.now.engine) (IsFreeing c.args.self.now.txns c.args.txn.0 t) (MayAct 0) (λ b v h. record { rest = record { engine = h.leaving.engine; idle = h.leaving.idle }; live = λ ne. absurd (ne refl) }) c.requires.can }

pub free_next-requires : goal.free_next-requires
free_next-requires g c =
    let t = table_of (λ y. (given.RecordOp-dyn g y).record_meaning y.1) (λ y. (given.RangeOp-dyn g y).range_meaning y.1) c.args.ops.now in
    let s = c.requires.can in
    record {
      can = record {
        sizes = s.sizes;
        from = λ told. s.from (c.act.ensures.told told);
        means = λ told. c.act.ensures.means t s.sizes (s.from (c.act.ensures.told told)) (s.means (c.act.ensures.told told));
        can = λ told.
            (let h = s.can (c.act.ensures.told told) in
            let v = led t s.sizes (s.from (c.act.ensures.told told)) (g.E.Engine.view c.args.self.now.engine) in
            let w = led t s.sizes (s.from (c.act.ensures.told told)) (g.E.Engine.view c.act.new.self) in
            let b = g.E.Engine.basis s.sizes in
            let ts = c.args.self.now.txns in
            let u = c.args.txn.0 in
            let acts = c.act.ensures.acts t s.sizes (s.from (c.act.ensures.told told)) (s.means (c.act.ensures.told told)) (c.act.ensures.told told) h.leaving.engine h.leaving.idle in
            let k1 = leaving.acted_leaving _ b v w ts h.run u (Some _) acts.0 acts.1 h.leaving in
            record { look = record { rest = record { engine = acts.0; idle = k1.idle }; reading = leaving.o _ b h.lawful w ts h.run u k1; reads = leaving.reads_so _ b h.lawful w ts h.run u k1 }; acting = leaving.action_is _ b v w acts.1 });
      };
    }

pub end_action-requires : goal.end_action-requires
end_action-requires g c =
    let t = table_of (λ y. (given.RecordOp-dyn g y).record_meaning y.1) (λ y. (given.RangeOp-dyn g y).range_meaning y.1) c.args.ops.now in
    let s = c.requires.can in
    let frees = rw c.in-Ok-true.field-0-test at c.in-Ok-true.ensures.frees in
    record {
      can = record {
        by = t;
        sizes = s.sizes;
        from = λ told. s.from (c.act.ensures.told (c.free_next.ensures.counts.told told));
        means = λ told. c.free_next.ensures.means s.sizes (s.from (c.act.ensures.told (c.free_next.ensures.counts.told told))) (c.act.ensures.means t s.sizes (s.from (c.act.ensures.told (c.free_next.ensures.counts.told told))) (s.means (c.act.ensures.told (c.free_next.ensures.counts.told told))));
        can = λ told.
            (let one = c.free_next.ensures.counts.told told in
            let h = s.can (c.act.ensures.told one) in
            let v = led t s.sizes (s.from (c.act.ensures.told one)) (g.E.Engine.view c.args.self.now.engine) in
            let w = led t s.sizes (s.from (c.act.ensures.told one)) (g.E.Engine.view c.act.new.self) in
            let b = g.E.Engine.basis s.sizes in
            let ts = c.args.self.now.txns in
            let u = c.args.txn.0 in
            let acts = c.act.ensures.acts t s.sizes (s.from (c.act.ensures.told one)) (s.means (c.act.ensures.told one)) (c.act.ensures.told one) h.leaving.engine h.leaving.idle in
            let k1 = leaving.acted_leaving _ b v w ts h.run u (Some _) acts.0 acts.1 h.leaving in
            let f = frees s.sizes (s.from (c.act.ensures.told one)) (c.act.ensures.means t s.sizes (s.from (c.act.ensures.told one)) (s.means (c.act.ensures.told one))) one (leaving.o _ b h.lawful w ts h.run u k1) (leaving.begun _ b h.lawful w ts h.run u k1) acts.0 k1.idle (leaving.action_is _ b v w acts.1) refl (leaving.reads_so _ b h.lawful w ts h.run u k1) in
            record { engine = f.1.changed.goes_on.engine; action = leaving.begun _ b h.lawful w ts h.run u k1; acting = f.1.changed.action; own = refl });
      };
    }

pub returns-in-Ok-false-clause-means : goal.returns-in-Ok-false-clause-means
returns-in-Ok-false-clause-means g c z from m =
    let t = table_of (λ y. (given.RecordOp-dyn g y).record_meaning y.1) (λ y. (given.RangeOp-dyn g y).range_meaning y.1) c.args.ops.now in
    c.free_next.ensures.means z from (c.act.ensures.means t z from m)

pub returns-in-Err-clause-means : goal.returns-in-Err-clause-means
returns-in-Err-clause-means g c z from m =
    let t = table_of (λ y. (given.RecordOp-dyn g y).record_meaning y.1) (λ y. (given.RangeOp-dyn g y).range_meaning y.1) c.args.ops.now in
    c.free_next.ensures.means z from (c.act.ensures.means t z from m)

pub returns-in-Ok-clause-means : goal.returns-in-Ok-clause-means
returns-in-Ok-clause-means g c z from m =
    let t = table_of (λ y. (given.RecordOp-dyn g y).record_meaning y.1) (λ y. (given.RangeOp-dyn g y).range_meaning y.1) c.args.ops.now in
    c.end_action.ensures.means t z from (c.free_next.ensures.means z from (c.act.ensures.means t z from m))

pub returns-in-Err-end_action-clause-means : goal.returns-in-Err-end_action-clause-means
returns-in-Err-end_action-clause-means g c z from m =
    let t = table_of (λ y. (given.RecordOp-dyn g y).record_meaning y.1) (λ y. (given.RangeOp-dyn g y).range_meaning y.1) c.args.ops.now in
    c.end_action.ensures.means t z from (c.free_next.ensures.means z from (c.act.ensures.means t z from m))

pub returns-in-Err-clause-accounts : goal.returns-in-Err-clause-accounts
returns-in-Err-clause-accounts g c =
    accounting.accounts_then (g.E.Engine.view c.args.self.now.engine) (g.E.Engine.view c.act.new.self) (g.E.Engine.view c.free_next.new.self) c.in-Err.fault (accounting.unasked (g.E.Engine.view c.args.self.now.engine) (g.E.Engine.view c.act.new.self) c.act.ensures.disk c.act.ensures.gate) c.act.ensures.tells c.in-Err.ensures.counts.accounts

pub returns-in-Ok-false-clause-accounts : goal.returns-in-Ok-false-clause-accounts
returns-in-Ok-false-clause-accounts g c =
    accounting.accounts_done (g.E.Engine.view c.args.self.now.engine) (g.E.Engine.view c.free_next.new.self) _ (accounting.unfailed_both (g.E.Engine.view c.args.self.now.engine) (g.E.Engine.view c.act.new.self) (g.E.Engine.view c.free_next.new.self) (accounting.unasked (g.E.Engine.view c.args.self.now.engine) (g.E.Engine.view c.act.new.self) c.act.ensures.disk c.act.ensures.gate) (accounting.unfailed_done (g.E.Engine.view c.act.new.self) (g.E.Engine.view c.free_next.new.self) _ c.in-Ok-false.ensures.counts.accounts))

pub returns-in-Ok-clause-accounts : goal.returns-in-Ok-clause-accounts
returns-in-Ok-clause-accounts g c =
    accounting.accounts_done (g.E.Engine.view c.args.self.now.engine) (g.E.Engine.view c.end_action.new.self) _ (accounting.unfailed_both (g.E.Engine.view c.args.self.now.engine) (g.E.Engine.view c.free_next.new.self) (g.E.Engine.view c.end_action.new.self) (accounting.unfailed_both (g.E.Engine.view c.args.self.now.engine) (g.E.Engine.view c.act.new.self) (g.E.Engine.view c.free_next.new.self) (accounting.unasked (g.E.Engine.view c.args.self.now.engine) (g.E.Engine.view c.act.new.self) c.act.ensures.disk c.act.ensures.gate) (accounting.unfailed_done (g.E.Engine.view c.act.new.self) (g.E.Engine.view c.free_next.new.self) _ c.in-Ok-true.ensures.counts.accounts)) (accounting.unfailed_done (g.E.Engine.view c.free_next.new.self) (g.E.Engine.view c.end_action.new.self) _ c.in-Ok.ensures.counts.accounts))

pub returns-in-Err-end_action-clause-accounts : goal.returns-in-Err-end_action-clause-accounts
returns-in-Err-end_action-clause-accounts g c =
    accounting.accounts_then (g.E.Engine.view c.args.self.now.engine) (g.E.Engine.view c.free_next.new.self) (g.E.Engine.view c.end_action.new.self) c.in-Err-end_action.fault (accounting.unfailed_both (g.E.Engine.view c.args.self.now.engine) (g.E.Engine.view c.act.new.self) (g.E.Engine.view c.free_next.new.self) (accounting.unasked (g.E.Engine.view c.args.self.now.engine) (g.E.Engine.view c.act.new.self) c.act.ensures.disk c.act.ensures.gate) (accounting.unfailed_done (g.E.Engine.view c.act.new.self) (g.E.Engine.view c.free_next.new.self) _ c.in-Ok-true.ensures.counts.accounts)) (λ h. c.in-Ok-true.ensures.counts.tells (c.act.ensures.tells h)) c.in-Err-end_action.ensures.counts.accounts
