use Rattle.std.proofs.Common.{◌≡◌, ◌≤◌, ◌+◌, sym, ap, ◌∙◌, arith, subst, refl}
use Rattle.std.specs.Prelude.{Some}
use Rattle.sg_disk.proofs.Moments.{joined}
use Rattle.sg_serial.specs.Locks.{released}
use Rattle.sg_core.specs.Live.{without}
use Rattle.sg_store.specs.Seen.{core_of}
use Rattle.sg_store.specs.Store.{Core}
use Rattle.sg_store.specs.Stops.{stop_at}
use Rattle.sg_store.proofs.Doing.{risen_from}
use Rattle.sg_store.proofs.Committing as committing
use Rattle.sg_store.proofs.Ending.{near_at, IsNear}
use Rattle.sg_store.proofs.Leaving as leaving
use Rattle.sg_ops.specs.Table.{table_of}
use Rattle.sg_recovery.specs.Log.Record.{End}
use Rattle.sg_store.specs.Engine.{led, IsAt, Appended, Rested}
use Rattle.sg_store.proofs.store.Store.commit.Given as given
use Rattle.sg_store.proofs.Serving.{serves_on}
use Rattle.sg_store.proofs.Serving as serving
use Rattle.sg_store.specs.Asks.{ShowsSome}
use Rattle.sg_store.proofs.Resting as resting
use Rattle.sg_store.proofs.Causing as causing
use Rattle.sg_base.specs.Ends.{HasRisen}
use Rattle.sg_store.proofs.Heeding as heeding
use Rattle.sg_store.proofs.Accounting as accounting
use Rattle.sg_room.specs.Lines.{committed}
use Rattle.sg_store.specs.Room.{ShowsStock}
use Rattle.sg_store.proofs.Stocked.{commit_stock}
use Rattle.sg_store.proofs.Still.{not_halted}
use Rattle.sg_store.proofs.store.Store.commit.Goals as goal

pub returns-then-is_some-clause-commits : goal.returns-then-is_some-clause-commits
returns-then-is_some-clause-commits g c z from m told x lawful shows =
    let t = table_of (λ y. (given.RecordOp-dyn g y).record_meaning y.1) (λ y. (given.RangeOp-dyn g y).range_meaning y.1) c.args.ops.now in
    committing.commit_stopped _ (g.E.Engine.basis z) lawful (led t z from (g.E.Engine.view c.args.self.now.engine)) (core_of c.args.self.now) x c.args.txn.0 (led t z from (g.E.Engine.view c.args.self.now.engine)).faults shows (led t z from (g.E.Engine.view c.args.self.now.engine)).tail (sym c.is_some.ensures ∙ c.if-is_some.true)

pub returns-then-not-is_live-clause-commits : goal.returns-then-not-is_live-clause-commits
returns-then-not-is_live-clause-commits g c z from m told x lawful shows =
    let t = table_of (λ y. (given.RecordOp-dyn g y).record_meaning y.1) (λ y. (given.RangeOp-dyn g y).range_meaning y.1) c.args.ops.now in
    committing.commit_none _ (g.E.Engine.basis z) lawful (led t z from (g.E.Engine.view c.args.self.now.engine)) (core_of c.args.self.now) x c.args.txn.0 (led t z from (g.E.Engine.view c.args.self.now.engine)).faults shows (sym c.is_some.ensures ∙ c.if-is_some.false) (led t z from (g.E.Engine.view c.args.self.now.engine)).tail (sym c.is_live.ensures ∙ c.if-not-is_live.true)

pub returns-in-Err-clause-commits : goal.returns-in-Err-clause-commits
returns-in-Err-clause-commits g c z from m told x lawful shows =
    let t = table_of (λ y. (given.RecordOp-dyn g y).record_meaning y.1) (λ y. (given.RangeOp-dyn g y).range_meaning y.1) c.args.ops.now in
    let v = led t z from (g.E.Engine.view c.args.self.now.engine) in
    let w = led t z from (g.E.Engine.view c.commit.new.self) in
    let k : Core = core_of c.args.self.now in
    let u = c.args.txn.0 in
    let stop = sym c.is_some.ensures ∙ c.if-is_some.false in
    let live = sym c.is_live.ensures ∙ c.if-not-is_live.false in
    let runs = committing.runs _ (g.E.Engine.basis z) lawful v k x u v.faults shows stop in
    let b = c.commit.ensures.commits t z from m told runs.is_kept.engine runs.is_kept.idle in
    committing.fails_at _ (g.E.Engine.basis z) lawful v k x u shows stop live w b.0 b.1 b.2 w (led t z from (g.E.Engine.view c.halt.new.self.engine)) (ap (λ e. led t z from (g.E.Engine.view e)) (sym c.halt.ensures.engine)) (core_of c.halt.new.self) c.in-Err.fault c.halt.result c.halt.ensures.answer c.halt.ensures.core
    (committing.moments _ (g.E.Engine.basis z) lawful v k x u v.faults shows stop live w b.0 b.1 b.2) c.in-Err.ensures.counts.failed (near_at v.tail w.tail c.in-Err.fault c.commit.ensures.counts.tail c.in-Err.ensures.log_end)

pub returns-in-Err-free_dropped-clause-commits : goal.returns-in-Err-free_dropped-clause-commits
returns-in-Err-free_dropped-clause-commits g c z from m told x lawful shows =
    let t = table_of (λ y. (given.RecordOp-dyn g y).record_meaning y.1) (λ y. (given.RangeOp-dyn g y).range_meaning y.1) c.args.ops.now in
    let v = led t z from (g.E.Engine.view c.args.self.now.engine) in
    let w = led t z from (g.E.Engine.view c.commit.new.self) in
    let k : Core = core_of c.args.self.now in
    let u = c.args.txn.0 in
    let stop = sym c.is_some.ensures ∙ c.if-is_some.false in
    let live = sym c.is_live.ensures ∙ c.if-not-is_live.false in
    let runs = committing.runs _ (g.E.Engine.basis z) lawful v k x u v.faults shows stop in
    let b = c.in-Ok.ensures.commits t z from m told runs.is_kept.engine runs.is_kept.idle in
    let leaves = committing.leaving _ (g.E.Engine.basis z) lawful v k x u v.faults shows stop live w b.0 b.1 b.2 b.3.0 b.3.1 in
    let y = led t z from (g.E.Engine.view c.free_dropped.new.self.engine) in
    let stays = c.free_dropped.ensures.stays z from (c.commit.ensures.means t z from m) (c.in-Ok.ensures.counts.tells told) x lawful leaves in
    committing.fails_at _ (g.E.Engine.basis z) lawful v k x u shows stop live w b.0 b.1 b.2 y (led t z from (g.E.Engine.view c.halt-in-Err-free_dropped.new.self.engine)) (ap (λ e. led t z from (g.E.Engine.view e)) (sym c.halt-in-Err-free_dropped.ensures.engine)) (core_of c.halt-in-Err-free_dropped.new.self) c.in-Err-free_dropped.fault c.halt-in-Err-free_dropped.result c.halt-in-Err-free_dropped.ensures.answer
    (c.halt-in-Err-free_dropped.ensures.core ∙ ap (λ (q : Core). record q { stopped = Some (stop_at c.in-Err-free_dropped.fault) }) c.free_dropped.ensures.core)
    (committing.after_it _ (g.E.Engine.basis z) lawful v k x u v.faults shows stop live w b.0 b.1 b.2 y stays) (λ d. risen_from v.faults w.faults y.faults c.commit.ensures.counts.later (c.in-Err-free_dropped.ensures.failed d)) (near_at y.tail y.tail c.in-Err-free_dropped.fault (omega arith) c.in-Err-free_dropped.ensures.log_end)

pub returns-in-Err-end-clause-commits : goal.returns-in-Err-end-clause-commits
returns-in-Err-end-clause-commits g c z from m told x lawful shows =
    let t = table_of (λ y. (given.RecordOp-dyn g y).record_meaning y.1) (λ y. (given.RangeOp-dyn g y).range_meaning y.1) c.args.ops.now in
    let v = led t z from (g.E.Engine.view c.args.self.now.engine) in
    let w = led t z from (g.E.Engine.view c.commit.new.self) in
    let k : Core = core_of c.args.self.now in
    let u = c.args.txn.0 in
    let stop = sym c.is_some.ensures ∙ c.if-is_some.false in
    let live = sym c.is_live.ensures ∙ c.if-not-is_live.false in
    let runs = committing.runs _ (g.E.Engine.basis z) lawful v k x u v.faults shows stop in
    let b = c.in-Ok.ensures.commits t z from m told runs.is_kept.engine runs.is_kept.idle in
    let leaves = committing.leaving _ (g.E.Engine.basis z) lawful v k x u v.faults shows stop live w b.0 b.1 b.2 b.3.0 b.3.1 in
    let y = led t z from (g.E.Engine.view c.free_dropped.new.self.engine) in
    let stays = c.free_dropped.ensures.stays z from (c.commit.ensures.means t z from m) (c.in-Ok.ensures.counts.tells told) x lawful leaves in
    let freed = c.in-Ok-free_dropped.ensures.freed z from (c.commit.ensures.means t z from m) (c.in-Ok.ensures.counts.tells told) x lawful leaves in
    let w3 = led t z from (g.E.Engine.view c.end.new.self) in
    let d = c.in-Err-end.ensures.ends t z from (c.free_dropped.ensures.means z from (c.commit.ensures.means t z from m)) (c.in-Ok-free_dropped.ensures.tells (c.in-Ok.ensures.counts.tells told)) freed.0.engine freed.0.idle in
    let last = joined stays (leaving.ends_stay _ (g.E.Engine.basis z) lawful y c.args.self.now.txns x u freed.0 w3 (λ l p. Unit {0}) (Unit {0}) d) in
    committing.fails_at _ (g.E.Engine.basis z) lawful v k x u shows stop live w b.0 b.1 b.2 w3 (led t z from (g.E.Engine.view c.halt-in-Err-end.new.self.engine)) (ap (λ e. led t z from (g.E.Engine.view e)) (sym c.halt-in-Err-end.ensures.engine)) (core_of c.halt-in-Err-end.new.self) c.in-Err-end.fault c.halt-in-Err-end.result c.halt-in-Err-end.ensures.answer
    (c.halt-in-Err-end.ensures.core ∙ ap (λ (q : Core). record q { stopped = Some (stop_at c.in-Err-end.fault) }) c.free_dropped.ensures.core)
    (committing.after_it _ (g.E.Engine.basis z) lawful v k x u v.faults shows stop live w b.0 b.1 b.2 w3 last)
    (λ e. risen_from v.faults w.faults w3.faults c.commit.ensures.counts.later (risen_from w.faults y.faults w3.faults c.free_dropped.ensures.later (c.in-Err-end.ensures.counts.failed e))) (near_at y.tail w3.tail c.in-Err-end.fault c.end.ensures.counts.tail c.in-Err-end.ensures.log_end)

pub returns-in-Ok-end-clause-commits : goal.returns-in-Ok-end-clause-commits
returns-in-Ok-end-clause-commits g c z from m told x lawful shows =
    let t = table_of (λ y. (given.RecordOp-dyn g y).record_meaning y.1) (λ y. (given.RangeOp-dyn g y).range_meaning y.1) c.args.ops.now in
    let v = led t z from (g.E.Engine.view c.args.self.now.engine) in
    let w = led t z from (g.E.Engine.view c.commit.new.self) in
    let k : Core = core_of c.args.self.now in
    let u = c.args.txn.0 in
    let stop = sym c.is_some.ensures ∙ c.if-is_some.false in
    let live = sym c.is_live.ensures ∙ c.if-not-is_live.false in
    let runs = committing.runs _ (g.E.Engine.basis z) lawful v k x u v.faults shows stop in
    let b = c.in-Ok.ensures.commits t z from m told runs.is_kept.engine runs.is_kept.idle in
    let leaves = committing.leaving _ (g.E.Engine.basis z) lawful v k x u v.faults shows stop live w b.0 b.1 b.2 b.3.0 b.3.1 in
    let y = led t z from (g.E.Engine.view c.free_dropped.new.self.engine) in
    let stays = c.free_dropped.ensures.stays z from (c.commit.ensures.means t z from m) (c.in-Ok.ensures.counts.tells told) x lawful leaves in
    let freed = c.in-Ok-free_dropped.ensures.freed z from (c.commit.ensures.means t z from m) (c.in-Ok.ensures.counts.tells told) x lawful leaves in
    let w3 = led t z from (g.E.Engine.view c.end.new.self) in
    let d = c.in-Ok-end.ensures.ends t z from (c.free_dropped.ensures.means z from (c.commit.ensures.means t z from m)) (c.in-Ok-free_dropped.ensures.tells (c.in-Ok.ensures.counts.tells told)) freed.0.engine freed.0.idle in
    let last = joined stays (leaving.ends_stay _ (g.E.Engine.basis z) lawful y c.args.self.now.txns x u freed.0 w3 (λ l p. Appended t (g.E.Engine.basis z) y w3 (record { lsn = l; is = End u p })) (Rested t (g.E.Engine.basis z) y w3) d) in
    committing.done_at _ (g.E.Engine.basis z) lawful v k x u shows stop live w b.0 b.1 b.2 w3 (led t z from (g.E.Engine.view c.forget.new.self.engine)) (ap (λ e. led t z from (g.E.Engine.view e)) (sym c.forget.ensures.engine)) (core_of c.forget.new.self)
    (c.forget.ensures.core ∙ ap (λ (q : Core). record q { live = without u q.live; held = released u q.held }) c.free_dropped.ensures.core)
    (committing.after_it _ (g.E.Engine.basis z) lawful v k x u v.faults shows stop live w b.0 b.1 b.2 w3 last) last (leaving.ends_kept _ (g.E.Engine.basis z) lawful y c.args.self.now.txns x u freed.0 w3 d)

pub returns-in-Ok-end-clause-freed : goal.returns-in-Ok-end-clause-freed
returns-in-Ok-end-clause-freed g c z from m told x lawful shows =
    let t = table_of (λ y. (given.RecordOp-dyn g y).record_meaning y.1) (λ y. (given.RangeOp-dyn g y).range_meaning y.1) c.args.ops.now in
    let v = led t z from (g.E.Engine.view c.args.self.now.engine) in
    let w = led t z from (g.E.Engine.view c.commit.new.self) in
    let k : Core = core_of c.args.self.now in
    let u = c.args.txn.0 in
    let stop = sym c.is_some.ensures ∙ c.if-is_some.false in
    let live = sym c.is_live.ensures ∙ c.if-not-is_live.false in
    let runs = committing.runs _ (g.E.Engine.basis z) lawful v k x u v.faults shows stop in
    let b = c.in-Ok.ensures.commits t z from m told runs.is_kept.engine runs.is_kept.idle in
    let leaves = committing.leaving _ (g.E.Engine.basis z) lawful v k x u v.faults shows stop live w b.0 b.1 b.2 b.3.0 b.3.1 in
    let y = led t z from (g.E.Engine.view c.free_dropped.new.self.engine) in
    let stays = c.free_dropped.ensures.stays z from (c.commit.ensures.means t z from m) (c.in-Ok.ensures.counts.tells told) x lawful leaves in
    let freed = c.in-Ok-free_dropped.ensures.freed z from (c.commit.ensures.means t z from m) (c.in-Ok.ensures.counts.tells told) x lawful leaves in
    let w3 = led t z from (g.E.Engine.view c.end.new.self) in
    let d = c.in-Ok-end.ensures.ends t z from (c.free_dropped.ensures.means z from (c.commit.ensures.means t z from m)) (c.in-Ok-free_dropped.ensures.tells (c.in-Ok.ensures.counts.tells told)) freed.0.engine freed.0.idle in
    leaving.none_along _ (g.E.Engine.basis z) lawful w3 (led t z from (g.E.Engine.view c.forget.new.self.engine)) u (ap (λ e. led t z from (g.E.Engine.view e)) (sym c.forget.ensures.engine)) (leaving.ends_none _ (g.E.Engine.basis z) lawful y c.args.self.now.txns x u freed.0 w3 d freed.1)

pub returns-in-Ok-end-clause-stock : goal.returns-in-Ok-end-clause-stock
returns-in-Ok-end-clause-stock g c z from m told x lawful shows r shown =
    let t = table_of (λ y. (given.RecordOp-dyn g y).record_meaning y.1) (λ y. (given.RangeOp-dyn g y).range_meaning y.1) c.args.ops.now in
    let v = led t z from (g.E.Engine.view c.args.self.now.engine) in
    let w = led t z from (g.E.Engine.view c.commit.new.self) in
    let k : Core = core_of c.args.self.now in
    let u = c.args.txn.0 in
    let stop = sym c.is_some.ensures ∙ c.if-is_some.false in
    let live = sym c.is_live.ensures ∙ c.if-not-is_live.false in
    let runs = committing.runs _ (g.E.Engine.basis z) lawful v k x u v.faults shows stop in
    let b = c.in-Ok.ensures.commits t z from m told runs.is_kept.engine runs.is_kept.idle in
    let leaves = committing.leaving _ (g.E.Engine.basis z) lawful v k x u v.faults shows stop live w b.0 b.1 b.2 b.3.0 b.3.1 in
    let y = led t z from (g.E.Engine.view c.free_dropped.new.self.engine) in
    let freed = c.in-Ok-free_dropped.ensures.freed z from (c.commit.ensures.means t z from m) (c.in-Ok.ensures.counts.tells told) x lawful leaves in
    let w3 = led t z from (g.E.Engine.view c.end.new.self) in
    let d = c.in-Ok-end.ensures.ends t z from (c.free_dropped.ensures.means z from (c.commit.ensures.means t z from m)) (c.in-Ok-free_dropped.ensures.tells (c.in-Ok.ensures.counts.tells told)) freed.0.engine freed.0.idle in
    let frees = c.in-Ok-free_dropped.ensures.stock z from (c.commit.ensures.means t z from m) (c.in-Ok.ensures.counts.tells told) x lawful leaves in
    subst (λ i. ShowsStock t (g.E.Engine.basis z) i (committed u r)) (ap (λ e. led t z from (g.E.Engine.view e)) (sym c.forget.ensures.engine))
    (commit_stock t (g.E.Engine.basis z) lawful v w y w3 u b.0 b.1 b.3.0 frees freed.1
    (leaving.o _ (g.E.Engine.basis z) lawful y c.args.self.now.txns x u freed.0)
    (leaving.reads_so _ (g.E.Engine.basis z) lawful y c.args.self.now.txns x u freed.0).reading d r shown)

pub returns-in-Err-clause-serves : goal.returns-in-Err-clause-serves
returns-in-Err-clause-serves g c =
    let t = table_of (λ y. (given.RecordOp-dyn g y).record_meaning y.1) (λ y. (given.RangeOp-dyn g y).range_meaning y.1) c.args.ops.now in
    serves_on t (g.E.Engine.view c.args.self.now.engine) (g.E.Engine.view c.halt.new.self.engine) (core_of c.args.self.now) _ _ (λ z from m. subst (λ e. (g.E.Engine.view e).means t z from) (sym c.halt.ensures.engine) (c.commit.ensures.means t z from m)) (λ h. c.commit.ensures.counts.told (subst (λ e. (g.E.Engine.view e).Told) c.halt.ensures.engine h))
    (λ z from m tells x lawful shows. returns-in-Err-clause-commits g c z from m tells x lawful shows) c.requires.serves

pub returns-in-Err-free_dropped-clause-serves : goal.returns-in-Err-free_dropped-clause-serves
returns-in-Err-free_dropped-clause-serves g c =
    let t = table_of (λ y. (given.RecordOp-dyn g y).record_meaning y.1) (λ y. (given.RangeOp-dyn g y).range_meaning y.1) c.args.ops.now in
    serves_on t (g.E.Engine.view c.args.self.now.engine) (g.E.Engine.view c.halt-in-Err-free_dropped.new.self.engine) (core_of c.args.self.now) _ _ (λ z from m. subst (λ e. (g.E.Engine.view e).means t z from) (sym c.halt-in-Err-free_dropped.ensures.engine) (c.free_dropped.ensures.means z from (c.commit.ensures.means t z from m))) (λ h. c.commit.ensures.counts.told (c.free_dropped.ensures.told (subst (λ e. (g.E.Engine.view e).Told) c.halt-in-Err-free_dropped.ensures.engine h)))
    (λ z from m tells x lawful shows. returns-in-Err-free_dropped-clause-commits g c z from m tells x lawful shows) c.requires.serves

pub returns-in-Err-end-clause-serves : goal.returns-in-Err-end-clause-serves
returns-in-Err-end-clause-serves g c =
    let t = table_of (λ y. (given.RecordOp-dyn g y).record_meaning y.1) (λ y. (given.RangeOp-dyn g y).range_meaning y.1) c.args.ops.now in
    serves_on t (g.E.Engine.view c.args.self.now.engine) (g.E.Engine.view c.halt-in-Err-end.new.self.engine) (core_of c.args.self.now) _ _ (λ z from m. subst (λ e. (g.E.Engine.view e).means t z from) (sym c.halt-in-Err-end.ensures.engine) (c.end.ensures.means t z from (c.free_dropped.ensures.means z from (c.commit.ensures.means t z from m)))) (λ h. c.commit.ensures.counts.told (c.free_dropped.ensures.told (c.end.ensures.counts.told (subst (λ e. (g.E.Engine.view e).Told) c.halt-in-Err-end.ensures.engine h))))
    (λ z from m tells x lawful shows. returns-in-Err-end-clause-commits g c z from m tells x lawful shows) c.requires.serves

pub returns-in-Ok-end-clause-serves : goal.returns-in-Ok-end-clause-serves
returns-in-Ok-end-clause-serves g c =
    let t = table_of (λ y. (given.RecordOp-dyn g y).record_meaning y.1) (λ y. (given.RangeOp-dyn g y).range_meaning y.1) c.args.ops.now in
    serves_on t (g.E.Engine.view c.args.self.now.engine) (g.E.Engine.view c.forget.new.self.engine) (core_of c.args.self.now) _ _ (λ z from m. subst (λ e. (g.E.Engine.view e).means t z from) (sym c.forget.ensures.engine) (c.end.ensures.means t z from (c.free_dropped.ensures.means z from (c.commit.ensures.means t z from m)))) (λ h. c.commit.ensures.counts.told (c.free_dropped.ensures.told (c.end.ensures.counts.told (subst (λ e. (g.E.Engine.view e).Told) c.forget.ensures.engine h))))
    (λ z from m tells x lawful shows. returns-in-Ok-end-clause-commits g c z from m tells x lawful shows) c.requires.serves

pub commit-requires : goal.commit-requires
commit-requires g c =
    let t = table_of (λ y. (given.RecordOp-dyn g y).record_meaning y.1) (λ y. (given.RangeOp-dyn g y).range_meaning y.1) c.args.ops.now in
    record { can = serving.asked_of t (g.E.Engine.view c.args.self.now.engine) (ShowsSome (core_of c.args.self.now) t) (IsAt c.args.txn.0) (λ b v h. serving.goes_on t b v c.args.self.now.txns c.args.txn.0 (sym c.is_live.ensures ∙ c.if-not-is_live.false) (serving.runs_some t b v (core_of c.args.self.now) (sym c.is_some.ensures ∙ c.if-is_some.false) h)) c.requires.serves }

pub free_dropped-requires-clause-can : goal.free_dropped-requires-clause-can
free_dropped-requires-clause-can g c =
    let t = table_of (λ y. (given.RecordOp-dyn g y).record_meaning y.1) (λ y. (given.RangeOp-dyn g y).range_meaning y.1) c.args.ops.now in
    let s = c.requires.serves in
    record {
      sizes = s.sizes;
      from = λ told. s.from (c.commit.ensures.counts.told told);
      means = λ told. c.commit.ensures.means t s.sizes (s.from (c.commit.ensures.counts.told told)) (s.means (c.commit.ensures.counts.told told));
      can = λ told.
          (let one = c.commit.ensures.counts.told told in
          let h = s.can one in
          let v = led t s.sizes (s.from one) (g.E.Engine.view c.args.self.now.engine) in
          let w = led t s.sizes (s.from one) (g.E.Engine.view c.commit.new.self) in
          let b = g.E.Engine.basis s.sizes in
          let k : Core = core_of c.args.self.now in
          let u = c.args.txn.0 in
          let stop = sym c.is_some.ensures ∙ c.if-is_some.false in
          let live = sym c.is_live.ensures ∙ c.if-not-is_live.false in
          let runs = committing.runs _ b h.lawful v k h.run u v.faults h.shows stop in
          let a = c.in-Ok.ensures.commits t s.sizes (s.from one) (s.means one) one runs.is_kept.engine runs.is_kept.idle in
          let leaves = committing.leaving _ b h.lawful v k h.run u v.faults h.shows stop live w a.0 a.1 a.2 a.3.0 a.3.1 in
          record { lawful = h.lawful; run = h.run; leaving = leaves });
    }

pub end-requires : goal.end-requires
end-requires g c =
    let t = table_of (λ y. (given.RecordOp-dyn g y).record_meaning y.1) (λ y. (given.RangeOp-dyn g y).range_meaning y.1) c.args.ops.now in
    let s = c.requires.serves in
    record {
      can = record {
        by = t;
        sizes = s.sizes;
        from = λ told. s.from (c.commit.ensures.counts.told (c.free_dropped.ensures.told told));
        means = λ told. c.free_dropped.ensures.means s.sizes (s.from (c.commit.ensures.counts.told (c.free_dropped.ensures.told told))) (c.commit.ensures.means t s.sizes (s.from (c.commit.ensures.counts.told (c.free_dropped.ensures.told told))) (s.means (c.commit.ensures.counts.told (c.free_dropped.ensures.told told))));
        can = λ told.
            (let two = c.free_dropped.ensures.told told in
            let one = c.commit.ensures.counts.told two in
            let h = s.can one in
            let v = led t s.sizes (s.from one) (g.E.Engine.view c.args.self.now.engine) in
            let w = led t s.sizes (s.from one) (g.E.Engine.view c.commit.new.self) in
            let b = g.E.Engine.basis s.sizes in
            let k : Core = core_of c.args.self.now in
            let u = c.args.txn.0 in
            let stop = sym c.is_some.ensures ∙ c.if-is_some.false in
            let live = sym c.is_live.ensures ∙ c.if-not-is_live.false in
            let runs = committing.runs _ b h.lawful v k h.run u v.faults h.shows stop in
            let a = c.in-Ok.ensures.commits t s.sizes (s.from one) (s.means one) one runs.is_kept.engine runs.is_kept.idle in
            let leaves = committing.leaving _ b h.lawful v k h.run u v.faults h.shows stop live w a.0 a.1 a.2 a.3.0 a.3.1 in
            let freed = c.in-Ok-free_dropped.ensures.freed s.sizes (s.from one) (c.commit.ensures.means t s.sizes (s.from one) (s.means one)) two h.run h.lawful leaves in
            record { rest = record { engine = freed.0.engine; idle = freed.0.idle }; going = freed.0.going });
      };
    }

pub returns-in-Err-free_dropped-clause-means : goal.returns-in-Err-free_dropped-clause-means
returns-in-Err-free_dropped-clause-means g c z from m =
    let t = table_of (λ y. (given.RecordOp-dyn g y).record_meaning y.1) (λ y. (given.RangeOp-dyn g y).range_meaning y.1) c.args.ops.now in
    subst (λ e. (g.E.Engine.view e).means t z from) (sym c.halt-in-Err-free_dropped.ensures.engine) (c.free_dropped.ensures.means z from (c.commit.ensures.means t z from m))

pub returns-in-Ok-end-clause-means : goal.returns-in-Ok-end-clause-means
returns-in-Ok-end-clause-means g c z from m =
    let t = table_of (λ y. (given.RecordOp-dyn g y).record_meaning y.1) (λ y. (given.RangeOp-dyn g y).range_meaning y.1) c.args.ops.now in
    subst (λ e. (g.E.Engine.view e).means t z from) (sym c.forget.ensures.engine) (c.end.ensures.means t z from (c.free_dropped.ensures.means z from (c.commit.ensures.means t z from m)))

pub returns-in-Err-end-clause-means : goal.returns-in-Err-end-clause-means
returns-in-Err-end-clause-means g c z from m =
    let t = table_of (λ y. (given.RecordOp-dyn g y).record_meaning y.1) (λ y. (given.RangeOp-dyn g y).range_meaning y.1) c.args.ops.now in
    subst (λ e. (g.E.Engine.view e).means t z from) (sym c.halt-in-Err-end.ensures.engine) (c.end.ensures.means t z from (c.free_dropped.ensures.means z from (c.commit.ensures.means t z from m)))

pub returns-in-Ok-end-clause-rests : goal.returns-in-Ok-end-clause-rests
returns-in-Ok-end-clause-rests g c live objects durable s =
    let t = table_of (λ y. (given.RecordOp-dyn g y).record_meaning y.1) (λ y. (given.RangeOp-dyn g y).range_meaning y.1) c.args.ops.now in
    record {
      sizes = s.sizes;
      from = λ tells. s.from (c.commit.ensures.counts.told (c.free_dropped.ensures.told (c.end.ensures.counts.told (subst (λ e. (g.E.Engine.view e).Told) c.forget.ensures.engine tells))));
      means = λ tells. subst (λ e. (g.E.Engine.view e).means t s.sizes (s.from (c.commit.ensures.counts.told (c.free_dropped.ensures.told (c.end.ensures.counts.told (subst (λ e. (g.E.Engine.view e).Told) c.forget.ensures.engine tells)))))) (sym c.forget.ensures.engine) (c.end.ensures.means t s.sizes (s.from (c.commit.ensures.counts.told (c.free_dropped.ensures.told (c.end.ensures.counts.told (subst (λ e. (g.E.Engine.view e).Told) c.forget.ensures.engine tells))))) (c.free_dropped.ensures.means s.sizes (s.from (c.commit.ensures.counts.told (c.free_dropped.ensures.told (c.end.ensures.counts.told (subst (λ e. (g.E.Engine.view e).Told) c.forget.ensures.engine tells))))) (c.commit.ensures.means t s.sizes (s.from (c.commit.ensures.counts.told (c.free_dropped.ensures.told (c.end.ensures.counts.told (subst (λ e. (g.E.Engine.view e).Told) c.forget.ensures.engine tells))))) (s.means (c.commit.ensures.counts.told (c.free_dropped.ensures.told (c.end.ensures.counts.told (subst (λ e. (g.E.Engine.view e).Told) c.forget.ensures.engine tells))))))));
      can = λ tells.
          (let was = c.commit.ensures.counts.told (c.free_dropped.ensures.told (c.end.ensures.counts.told (subst (λ e. (g.E.Engine.view e).Told) c.forget.ensures.engine tells))) in
          let h = s.can was in
          resting.committed_has t (g.E.Engine.basis s.sizes) (led t s.sizes (s.from was) (g.E.Engine.view c.args.self.now.engine)) (led t s.sizes (s.from was) (g.E.Engine.view c.forget.new.self.engine)) (core_of c.args.self.now) _ live objects durable h (g.E.Engine.view c.forget.new.self.engine).tail (g.E.Engine.view c.args.self.now.engine).faults (g.E.Engine.view c.forget.new.self.engine).faults c.args.txn.0
          (returns-in-Ok-end-clause-commits g c s.sizes (s.from was) (s.means was) was h.run h.lawful h.shows));
    }

pub returns-in-Err-clause-told : goal.returns-in-Err-clause-told
returns-in-Err-clause-told g c h = c.commit.ensures.counts.told (subst (λ e. (g.E.Engine.view e).Told) c.halt.ensures.engine h)

pub returns-in-Err-free_dropped-clause-told : goal.returns-in-Err-free_dropped-clause-told
returns-in-Err-free_dropped-clause-told g c h = c.commit.ensures.counts.told (c.free_dropped.ensures.told (subst (λ e. (g.E.Engine.view e).Told) c.halt-in-Err-free_dropped.ensures.engine h))

pub returns-in-Err-end-clause-told : goal.returns-in-Err-end-clause-told
returns-in-Err-end-clause-told g c h = c.commit.ensures.counts.told (c.free_dropped.ensures.told (c.end.ensures.counts.told (subst (λ e. (g.E.Engine.view e).Told) c.halt-in-Err-end.ensures.engine h)))

pub returns-in-Ok-end-clause-told : goal.returns-in-Ok-end-clause-told
returns-in-Ok-end-clause-told g c h = c.commit.ensures.counts.told (c.free_dropped.ensures.told (c.end.ensures.counts.told (subst (λ e. (g.E.Engine.view e).Told) c.forget.ensures.engine h)))

pub returns-then-is_some-clause-causes : goal.returns-then-is_some-clause-causes
returns-then-is_some-clause-causes g c = (sym c.is_some.ensures ∙ c.if-is_some.true, refl)

pub returns-then-not-is_live-clause-causes : goal.returns-then-not-is_live-clause-causes
returns-then-not-is_live-clause-causes g c = ((causing.none_of _ (sym c.is_some.ensures ∙ c.if-is_some.false)), sym c.is_live.ensures ∙ c.if-not-is_live.true, refl)

pub returns-in-Err-clause-causes : goal.returns-in-Err-clause-causes
returns-in-Err-clause-causes g c =
    causing.ends_failed (g.E.Engine.view c.args.self.now.engine) (g.E.Engine.view c.halt.new.self.engine) (core_of c.args.self.now) (core_of c.halt.new.self) c.args.txn.0 (sym c.is_live.ensures ∙ c.if-not-is_live.false) c.in-Err.fault c.halt.result c.halt.ensures.answer c.halt.ensures.core (causing.none_of _ (sym c.is_some.ensures ∙ c.if-is_some.false))
    (λ d. subst (λ e. HasRisen (g.E.Engine.view c.args.self.now.engine).faults (g.E.Engine.view e).faults) (sym c.halt.ensures.engine) (c.in-Err.ensures.counts.failed d))
    (subst (λ e. IsNear (g.E.Engine.view e).tail c.in-Err.fault) (sym c.halt.ensures.engine) (near_at (g.E.Engine.view c.args.self.now.engine).tail (g.E.Engine.view c.commit.new.self).tail c.in-Err.fault c.commit.ensures.counts.tail c.in-Err.ensures.log_end))

pub returns-in-Err-clause-asks : goal.returns-in-Err-clause-asks
returns-in-Err-clause-asks g c = λ asks. causing.not_early _ c.in-Err.fault c.halt.result c.halt.ensures.answer asks

pub returns-in-Err-free_dropped-clause-causes : goal.returns-in-Err-free_dropped-clause-causes
returns-in-Err-free_dropped-clause-causes g c =
    causing.ends_failed (g.E.Engine.view c.args.self.now.engine) (g.E.Engine.view c.halt-in-Err-free_dropped.new.self.engine) (core_of c.args.self.now) (core_of c.halt-in-Err-free_dropped.new.self) c.args.txn.0 (sym c.is_live.ensures ∙ c.if-not-is_live.false) c.in-Err-free_dropped.fault c.halt-in-Err-free_dropped.result c.halt-in-Err-free_dropped.ensures.answer (c.halt-in-Err-free_dropped.ensures.core ∙ ap (λ (q : Core). record q { stopped = Some (stop_at c.in-Err-free_dropped.fault) }) c.free_dropped.ensures.core) (causing.none_of _ (sym c.is_some.ensures ∙ c.if-is_some.false))
    (λ d. subst (λ e. HasRisen (g.E.Engine.view c.args.self.now.engine).faults (g.E.Engine.view e).faults) (sym c.halt-in-Err-free_dropped.ensures.engine) (risen_from (g.E.Engine.view c.args.self.now.engine).faults (g.E.Engine.view c.commit.new.self).faults (g.E.Engine.view c.free_dropped.new.self.engine).faults c.commit.ensures.counts.later (c.in-Err-free_dropped.ensures.failed d)))
    (subst (λ e. IsNear (g.E.Engine.view e).tail c.in-Err-free_dropped.fault) (sym c.halt-in-Err-free_dropped.ensures.engine) (near_at (g.E.Engine.view c.free_dropped.new.self.engine).tail (g.E.Engine.view c.free_dropped.new.self.engine).tail c.in-Err-free_dropped.fault (omega arith) c.in-Err-free_dropped.ensures.log_end))

pub returns-in-Err-free_dropped-clause-asks : goal.returns-in-Err-free_dropped-clause-asks
returns-in-Err-free_dropped-clause-asks g c = λ asks. causing.not_early _ c.in-Err-free_dropped.fault c.halt-in-Err-free_dropped.result c.halt-in-Err-free_dropped.ensures.answer asks

pub returns-in-Err-end-clause-causes : goal.returns-in-Err-end-clause-causes
returns-in-Err-end-clause-causes g c =
    causing.ends_failed (g.E.Engine.view c.args.self.now.engine) (g.E.Engine.view c.halt-in-Err-end.new.self.engine) (core_of c.args.self.now) (core_of c.halt-in-Err-end.new.self) c.args.txn.0 (sym c.is_live.ensures ∙ c.if-not-is_live.false) c.in-Err-end.fault c.halt-in-Err-end.result c.halt-in-Err-end.ensures.answer (c.halt-in-Err-end.ensures.core ∙ ap (λ (q : Core). record q { stopped = Some (stop_at c.in-Err-end.fault) }) c.free_dropped.ensures.core) (causing.none_of _ (sym c.is_some.ensures ∙ c.if-is_some.false))
    (λ d. subst (λ e. HasRisen (g.E.Engine.view c.args.self.now.engine).faults (g.E.Engine.view e).faults) (sym c.halt-in-Err-end.ensures.engine) (risen_from (g.E.Engine.view c.args.self.now.engine).faults (g.E.Engine.view c.free_dropped.new.self.engine).faults (g.E.Engine.view c.end.new.self).faults (omega (arith, c.commit.ensures.counts.later, c.free_dropped.ensures.later)) (c.in-Err-end.ensures.counts.failed d)))
    (subst (λ e. IsNear (g.E.Engine.view e).tail c.in-Err-end.fault) (sym c.halt-in-Err-end.ensures.engine) (near_at (g.E.Engine.view c.free_dropped.new.self.engine).tail (g.E.Engine.view c.end.new.self).tail c.in-Err-end.fault c.end.ensures.counts.tail c.in-Err-end.ensures.log_end))

pub returns-in-Err-end-clause-asks : goal.returns-in-Err-end-clause-asks
returns-in-Err-end-clause-asks g c = λ asks. causing.not_early _ c.in-Err-end.fault c.halt-in-Err-end.result c.halt-in-Err-end.ensures.answer asks

pub returns-then-is_some-clause-asks : goal.returns-then-is_some-clause-asks
returns-then-is_some-clause-asks g c = λ e. refl

pub returns-then-not-is_live-clause-asks : goal.returns-then-not-is_live-clause-asks
returns-then-not-is_live-clause-asks g c = λ e. refl

pub returns-in-Ok-end-clause-causes : goal.returns-in-Ok-end-clause-causes
returns-in-Ok-end-clause-causes g c = ((causing.none_of _ (sym c.is_some.ensures ∙ c.if-is_some.false)), (sym c.is_live.ensures ∙ c.if-not-is_live.false), c.forget.ensures.core ∙ ap (λ (q : Core). record q { live = without c.args.txn.0 q.live; held = released c.args.txn.0 q.held }) c.free_dropped.ensures.core)

pub returns-then-is_some-clause-heeds : goal.returns-then-is_some-clause-heeds
returns-then-is_some-clause-heeds g c =
    heeding.heeds_none c.args.self.now.stop (g.E.Engine.view c.args.self.now.engine)

pub returns-then-not-is_live-clause-heeds : goal.returns-then-not-is_live-clause-heeds
returns-then-not-is_live-clause-heeds g c =
    heeding.heeds_none c.args.self.now.stop (g.E.Engine.view c.args.self.now.engine)

pub returns-in-Err-clause-heeds : goal.returns-in-Err-clause-heeds
returns-in-Err-clause-heeds g c =
    heeding.heeds_halt (g.E.Engine.view) c.args.self.now.stop c.halt.new.self.stop c.in-Err.fault (g.E.Engine.view c.args.self.now.engine) c.commit.new.self c.halt.new.self.engine c.halt.ensures.engine (ap (λ (k : Core). k.stopped) c.halt.ensures.core) (causing.none_of _ (sym c.is_some.ensures ∙ c.if-is_some.false))
    c.commit.ensures.counts.later c.commit.ensures.counts.tail c.in-Err.ensures.counts.failed c.in-Err.ensures.counts.accounts

pub returns-in-Err-free_dropped-clause-heeds : goal.returns-in-Err-free_dropped-clause-heeds
returns-in-Err-free_dropped-clause-heeds g c =
    let quiet = c.in-Ok.ensures.counts.quiet in
    heeding.heeds_halt (g.E.Engine.view) c.args.self.now.stop c.halt-in-Err-free_dropped.new.self.stop c.in-Err-free_dropped.fault (g.E.Engine.view c.args.self.now.engine) c.free_dropped.new.self.engine c.halt-in-Err-free_dropped.new.self.engine c.halt-in-Err-free_dropped.ensures.engine (ap (λ (k : Core). k.stopped) c.halt-in-Err-free_dropped.ensures.core) (causing.none_of _ (sym c.is_some.ensures ∙ c.if-is_some.false))
    (omega (arith, quiet, c.free_dropped.ensures.later)) (omega (arith, c.commit.ensures.counts.tail, c.free_dropped.ensures.tail)) (λ is. heeding.risen_on _ _ _ _ (omega (arith, quiet)) c.free_dropped.ensures.later (omega arith) (c.in-Err-free_dropped.ensures.failed is))
    (accounting.accounts_then {B = Unit {0}} (g.E.Engine.view c.args.self.now.engine) (g.E.Engine.view c.commit.new.self) (g.E.Engine.view c.free_dropped.new.self.engine) c.in-Err-free_dropped.fault (accounting.unfailed_done (g.E.Engine.view c.args.self.now.engine) (g.E.Engine.view c.commit.new.self) _ c.in-Ok.ensures.counts.accounts) c.in-Ok.ensures.counts.tells c.in-Err-free_dropped.ensures.accounts)

pub returns-in-Err-end-clause-heeds : goal.returns-in-Err-end-clause-heeds
returns-in-Err-end-clause-heeds g c =
    let quiet = c.in-Ok.ensures.counts.quiet in
    heeding.heeds_halt (g.E.Engine.view) c.args.self.now.stop c.halt-in-Err-end.new.self.stop c.in-Err-end.fault (g.E.Engine.view c.args.self.now.engine) c.end.new.self c.halt-in-Err-end.new.self.engine c.halt-in-Err-end.ensures.engine (ap (λ (k : Core). k.stopped) c.halt-in-Err-end.ensures.core) (causing.none_of _ (sym c.is_some.ensures ∙ c.if-is_some.false))
    (omega (arith, quiet, c.free_dropped.ensures.later, c.end.ensures.counts.later)) (omega (arith, c.commit.ensures.counts.tail, c.free_dropped.ensures.tail, c.end.ensures.counts.tail)) (λ is. heeding.risen_on _ _ _ _ (omega (arith, quiet, c.free_dropped.ensures.later)) c.end.ensures.counts.later (omega arith) (c.in-Err-end.ensures.counts.failed is))
    (accounting.accounts_then {B = Unit {0}} (g.E.Engine.view c.args.self.now.engine) (g.E.Engine.view c.free_dropped.new.self.engine) (g.E.Engine.view c.end.new.self) c.in-Err-end.fault (accounting.unfailed_both (g.E.Engine.view c.args.self.now.engine) (g.E.Engine.view c.commit.new.self) (g.E.Engine.view c.free_dropped.new.self.engine) (accounting.unfailed_done (g.E.Engine.view c.args.self.now.engine) (g.E.Engine.view c.commit.new.self) _ c.in-Ok.ensures.counts.accounts) (accounting.unfailed_done (g.E.Engine.view c.commit.new.self) (g.E.Engine.view c.free_dropped.new.self.engine) _ c.in-Ok-free_dropped.ensures.accounts)) (λ h. c.in-Ok-free_dropped.ensures.tells (c.in-Ok.ensures.counts.tells h)) c.in-Err-end.ensures.counts.accounts)

pub returns-in-Ok-end-clause-heeds : goal.returns-in-Ok-end-clause-heeds
returns-in-Ok-end-clause-heeds g c =
    heeding.heeds_kept (g.E.Engine.view) c.args.self.now.stop c.forget.new.self.stop (g.E.Engine.view c.args.self.now.engine) c.end.new.self c.forget.new.self.engine c.forget.ensures.engine (ap (λ (k : Core). k.stopped) c.forget.ensures.core ∙ ap (λ (k : Core). k.stopped) c.free_dropped.ensures.core)
    (c.in-Ok-end.ensures.counts.quiet ∙ (c.in-Ok-free_dropped.ensures.quiet ∙ c.in-Ok.ensures.counts.quiet)) (omega (arith, c.commit.ensures.counts.tail, c.free_dropped.ensures.tail, c.end.ensures.counts.tail)) (λ h. c.in-Ok-end.ensures.counts.tells (c.in-Ok-free_dropped.ensures.tells (c.in-Ok.ensures.counts.tells h)))
    (accounting.unfailed_both (g.E.Engine.view c.args.self.now.engine) (g.E.Engine.view c.free_dropped.new.self.engine) (g.E.Engine.view c.end.new.self) (accounting.unfailed_both (g.E.Engine.view c.args.self.now.engine) (g.E.Engine.view c.commit.new.self) (g.E.Engine.view c.free_dropped.new.self.engine) (accounting.unfailed_done (g.E.Engine.view c.args.self.now.engine) (g.E.Engine.view c.commit.new.self) _ c.in-Ok.ensures.counts.accounts) (accounting.unfailed_done (g.E.Engine.view c.commit.new.self) (g.E.Engine.view c.free_dropped.new.self.engine) _ c.in-Ok-free_dropped.ensures.accounts)) (accounting.unfailed_done (g.E.Engine.view c.free_dropped.new.self.engine) (g.E.Engine.view c.end.new.self) _ c.in-Ok-end.ensures.counts.accounts))

pub returns-then-is_some-clause-hands : goal.returns-then-is_some-clause-hands
returns-then-is_some-clause-hands g c none = omega arith

pub returns-then-not-is_live-clause-hands : goal.returns-then-not-is_live-clause-hands
returns-then-not-is_live-clause-hands g c none = omega arith

pub returns-in-Err-clause-hands : goal.returns-in-Err-clause-hands
returns-in-Err-clause-hands g c none = let h = c.commit.ensures.hands in subst (λ e. (g.E.Engine.view e).disk.handed ≤ (g.E.Engine.view c.args.self.now.engine).disk.handed + g.E.Engine.waiting c.args.self.now.engine + 64) (sym c.halt.ensures.engine) (omega (arith, h))

pub returns-in-Err-free_dropped-clause-hands : goal.returns-in-Err-free_dropped-clause-hands
returns-in-Err-free_dropped-clause-hands g c none = let h = c.commit.ensures.hands in
    subst (λ e. (g.E.Engine.view e).disk.handed ≤ (g.E.Engine.view c.args.self.now.engine).disk.handed + g.E.Engine.waiting c.args.self.now.engine + 64) (sym (c.halt-in-Err-free_dropped.ensures.engine ∙ c.free_dropped.ensures.none none)) (omega (arith, h))

pub returns-in-Err-end-clause-hands : goal.returns-in-Err-end-clause-hands
returns-in-Err-end-clause-hands g c none =
    let same = c.free_dropped.ensures.none none in
    let h = c.commit.ensures.hands in
    let e = c.end.ensures.hands in
    let a : (g.E.Engine.view c.free_dropped.new.self.engine).disk.handed ≡ (g.E.Engine.view c.commit.new.self).disk.handed = ap (λ d. (g.E.Engine.view d).disk.handed) same in
    let w : g.E.Engine.waiting c.free_dropped.new.self.engine ≡ 0 = ap g.E.Engine.waiting same ∙ c.in-Ok.ensures.none_waits in
    subst (λ e. (g.E.Engine.view e).disk.handed ≤ (g.E.Engine.view c.args.self.now.engine).disk.handed + g.E.Engine.waiting c.args.self.now.engine + 64) (sym c.halt-in-Err-end.ensures.engine) (omega (arith, a, w, h, e))

pub returns-in-Ok-end-clause-hands : goal.returns-in-Ok-end-clause-hands
returns-in-Ok-end-clause-hands g c none =
    let same = c.free_dropped.ensures.none none in
    let h = c.commit.ensures.hands in
    let e = c.end.ensures.hands in
    let a : (g.E.Engine.view c.free_dropped.new.self.engine).disk.handed ≡ (g.E.Engine.view c.commit.new.self).disk.handed = ap (λ d. (g.E.Engine.view d).disk.handed) same in
    let w : g.E.Engine.waiting c.free_dropped.new.self.engine ≡ 0 = ap g.E.Engine.waiting same ∙ c.in-Ok.ensures.none_waits in
    subst (λ e. (g.E.Engine.view e).disk.handed ≤ (g.E.Engine.view c.args.self.now.engine).disk.handed + g.E.Engine.waiting c.args.self.now.engine + 64) (sym c.forget.ensures.engine) (omega (arith, a, w, h, e))

pub returns-then-is_some-clause-stock_left : goal.returns-then-is_some-clause-stock_left
returns-then-is_some-clause-stock_left g c none z from m told x lawful shows r shown = shown

pub returns-then-not-is_live-clause-stock_left : goal.returns-then-not-is_live-clause-stock_left
returns-then-not-is_live-clause-stock_left g c none z from m told x lawful shows r shown = shown

pub returns-in-Err-clause-stock_left : goal.returns-in-Err-clause-stock_left
returns-in-Err-clause-stock_left g c none z from m told x lawful shows = not_halted (ap (λ (k : Core). k.stopped) c.halt.ensures.core) none

pub returns-in-Err-free_dropped-clause-stock_left : goal.returns-in-Err-free_dropped-clause-stock_left
returns-in-Err-free_dropped-clause-stock_left g c none z from m told x lawful shows = not_halted (ap (λ (k : Core). k.stopped) c.halt-in-Err-free_dropped.ensures.core) none

pub returns-in-Err-end-clause-stock_left : goal.returns-in-Err-end-clause-stock_left
returns-in-Err-end-clause-stock_left g c none z from m told x lawful shows = not_halted (ap (λ (k : Core). k.stopped) c.halt-in-Err-end.ensures.core) none
