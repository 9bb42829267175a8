use Rattle.std.proofs.Common.{sym, ap, ◌∙◌, arith, subst, refl}
use Rattle.sg_serial.specs.Locks.{released}
use Rattle.sg_core.specs.Live.{without}
use Rattle.std.specs.Prelude.{Some}
use Rattle.sg_store.specs.Store.{Core}
use Rattle.sg_store.specs.Stops.{stop_at}
use Rattle.sg_store.specs.Seen.{core_of}
use Rattle.sg_store.proofs.Doing.{risen_from}
use Rattle.sg_store.proofs.Aborts as aborts
use Rattle.sg_store.proofs.Ending.{near_at, IsNear}
use Rattle.sg_ops.specs.Table.{table_of}
use Rattle.sg_recovery.specs.Log.Record.{End}
use Rattle.sg_store.specs.Engine.{led, Appended, Rested}
use Rattle.sg_store.proofs.Leaving.{ends_live}
use Rattle.sg_store.proofs.Counting.{live_going}
use Rattle.sg_store.proofs.store.Store.abort.Given as given
use Rattle.sg_store.proofs.Serving.{serves_on}
use Rattle.sg_store.proofs.Serving as serving
use Rattle.sg_store.specs.Asks.{ShowsSome, IsRunning}
use Rattle.sg_store.proofs.Resting as resting
use Rattle.sg_store.proofs.Causing as causing
use Rattle.sg_base.specs.Ends.{HasRisen}
use Rattle.sg_store.proofs.Heeding as heeding
use Rattle.sg_store.proofs.Accounting as accounting
use Rattle.sg_room.specs.Steps.{backed}
use Rattle.sg_store.specs.Room.{is_of, ShowsStock}
use Rattle.sg_store.proofs.Stocked.{end_stock}
use Rattle.sg_store.proofs.Still.{not_halted}
use Rattle.sg_store.proofs.store.Store.abort.Goals as goal

pub returns-then-is_some-clause-aborts : goal.returns-then-is_some-clause-aborts
returns-then-is_some-clause-aborts g c z from m told x lawful shows =
    let t = table_of (λ y. (given.RecordOp-dyn g y).record_meaning y.1) (λ y. (given.RangeOp-dyn g y).range_meaning y.1) c.args.ops.now in
    aborts.abort_stopped _ (g.E.Engine.basis z) lawful (led t z from (g.E.Engine.view c.args.self.now.engine)) (core_of c.args.self.now) x c.args.txn.0 shows (led t z from (g.E.Engine.view c.args.self.now.engine)).faults (sym c.is_some.ensures ∙ c.if-is_some.true)

pub returns-then-not-is_live-clause-aborts : goal.returns-then-not-is_live-clause-aborts
returns-then-not-is_live-clause-aborts g c z from m told x lawful shows =
    let t = table_of (λ y. (given.RecordOp-dyn g y).record_meaning y.1) (λ y. (given.RangeOp-dyn g y).range_meaning y.1) c.args.ops.now in
    aborts.abort_none _ (g.E.Engine.basis z) lawful (led t z from (g.E.Engine.view c.args.self.now.engine)) (core_of c.args.self.now) x c.args.txn.0 shows (sym c.is_some.ensures ∙ c.if-is_some.false) (led t z from (g.E.Engine.view c.args.self.now.engine)).faults (sym c.is_live.ensures ∙ c.if-not-is_live.true)

pub returns-in-Err-clause-aborts : goal.returns-in-Err-clause-aborts
returns-in-Err-clause-aborts g c z from m told x lawful shows =
    let t = table_of (λ y. (given.RecordOp-dyn g y).record_meaning y.1) (λ y. (given.RangeOp-dyn g y).range_meaning y.1) c.args.ops.now in
    (let kept = (aborts.runs _ (g.E.Engine.basis z) lawful (led t z from (g.E.Engine.view c.args.self.now.engine)) (core_of c.args.self.now) x c.args.txn.0 shows (sym c.is_some.ensures ∙ c.if-is_some.false)).is_kept in
    let live = aborts.live _ (g.E.Engine.basis z) lawful (led t z from (g.E.Engine.view c.args.self.now.engine)) (core_of c.args.self.now) x c.args.txn.0 shows (sym c.is_some.ensures ∙ c.if-is_some.false) (sym c.is_live.ensures ∙ c.if-not-is_live.false) in
    aborts.along _ (g.E.Engine.basis z) lawful (led t z from (g.E.Engine.view c.args.self.now.engine)) (core_of c.args.self.now) x c.args.txn.0 shows (sym c.is_some.ensures ∙ c.if-is_some.false) (sym c.is_live.ensures ∙ c.if-not-is_live.false) (led t z from (g.E.Engine.view c.undo_all.new.self.engine)) (led t z from (g.E.Engine.view c.halt.new.self.engine)) (core_of c.halt.new.self) (ap (λ e. led t z from (g.E.Engine.view e)) (sym c.halt.ensures.engine)) c.halt.result c.in-Err.fault c.halt.ensures.answer (c.undo_all.ensures.stays z from m told x lawful kept live)
    (c.halt.ensures.core ∙ ap (λ (k : Core). record k { stopped = Some (stop_at c.in-Err.fault) }) c.undo_all.ensures.core) c.in-Err.ensures.failed
    (near_at (g.E.Engine.view c.undo_all.new.self.engine).tail (led t z from (g.E.Engine.view c.undo_all.new.self.engine)).tail c.in-Err.fault (omega arith) c.in-Err.ensures.log_end))

pub returns-in-Ok-end-clause-aborts : goal.returns-in-Ok-end-clause-aborts
returns-in-Ok-end-clause-aborts g c z from m told x lawful shows =
    let t = table_of (λ y. (given.RecordOp-dyn g y).record_meaning y.1) (λ y. (given.RangeOp-dyn g y).range_meaning y.1) c.args.ops.now in
    (let kept = (aborts.runs _ (g.E.Engine.basis z) lawful (led t z from (g.E.Engine.view c.args.self.now.engine)) (core_of c.args.self.now) x c.args.txn.0 shows (sym c.is_some.ensures ∙ c.if-is_some.false)).is_kept in
    let live = aborts.live _ (g.E.Engine.basis z) lawful (led t z from (g.E.Engine.view c.args.self.now.engine)) (core_of c.args.self.now) x c.args.txn.0 shows (sym c.is_some.ensures ∙ c.if-is_some.false) (sym c.is_live.ensures ∙ c.if-not-is_live.false) in
    let done = c.in-Ok.ensures.undone z from m told x lawful kept live in
    let stays = c.undo_all.ensures.stays z from m told x lawful kept live in
    let y = led t z from (g.E.Engine.view c.undo_all.new.self.engine) in
    let w = led t z from (g.E.Engine.view c.end.new.self) in
    let u = c.args.txn.0 in
    let b = ends_live t (g.E.Engine.basis z) y w u (λ l p. Appended t (g.E.Engine.basis z) y w (record { lsn = l; is = End u p })) (Rested t (g.E.Engine.basis z) y w) (done.undoing.undoes.same.lives u ∙ live)
    (c.in-Ok-end.ensures.ends t z from (c.undo_all.ensures.means z from m) (c.in-Ok.ensures.tells told) done.undoing.engine done.undoing.idle) in
    aborts.along_done _ (g.E.Engine.basis z) lawful (led t z from (g.E.Engine.view c.args.self.now.engine)) (core_of c.args.self.now) x c.args.txn.0 shows (sym c.is_some.ensures ∙ c.if-is_some.false) (sym c.is_live.ensures ∙ c.if-not-is_live.false) (led t z from (g.E.Engine.view c.undo_all.new.self.engine)) done stays (led t z from (g.E.Engine.view c.end.new.self)) (led t z from (g.E.Engine.view c.forget.new.self.engine)) (ap (λ e. led t z from (g.E.Engine.view e)) (sym c.forget.ensures.engine)) b.0 b.1 b.2 b.3 (core_of c.forget.new.self)
    (c.forget.ensures.core ∙ ap (λ (k : Core). record k { live = without c.args.txn.0 k.live; held = released c.args.txn.0 k.held }) c.undo_all.ensures.core))

pub returns-in-Ok-end-clause-stock : goal.returns-in-Ok-end-clause-stock
returns-in-Ok-end-clause-stock g c z from m told x lawful shows r shown =
    let t = table_of (λ y. (given.RecordOp-dyn g y).record_meaning y.1) (λ y. (given.RangeOp-dyn g y).range_meaning y.1) c.args.ops.now in
    let kept = (aborts.runs _ (g.E.Engine.basis z) lawful (led t z from (g.E.Engine.view c.args.self.now.engine)) (core_of c.args.self.now) x c.args.txn.0 shows (sym c.is_some.ensures ∙ c.if-is_some.false)).is_kept in
    let live = aborts.live _ (g.E.Engine.basis z) lawful (led t z from (g.E.Engine.view c.args.self.now.engine)) (core_of c.args.self.now) x c.args.txn.0 shows (sym c.is_some.ensures ∙ c.if-is_some.false) (sym c.is_live.ensures ∙ c.if-not-is_live.false) in
    let done = c.in-Ok.ensures.undone z from m told x lawful kept live in
    let y = led t z from (g.E.Engine.view c.undo_all.new.self.engine) in
    let w = led t z from (g.E.Engine.view c.end.new.self) in
    let u = c.args.txn.0 in
    let b = ends_live t (g.E.Engine.basis z) y w u (λ l p. Appended t (g.E.Engine.basis z) y w (record { lsn = l; is = End u p })) (Rested t (g.E.Engine.basis z) y w) (done.undoing.undoes.same.lives u ∙ live)
    (c.in-Ok-end.ensures.ends t z from (c.undo_all.ensures.means z from m) (c.in-Ok.ensures.tells told) done.undoing.engine done.undoing.idle) in
    subst (λ y. ShowsStock t (g.E.Engine.basis z) y (backed (is_of u) r)) (ap (λ e. led t z from (g.E.Engine.view e)) (sym c.forget.ensures.engine))
    (end_stock t (g.E.Engine.basis z) (led t z from (g.E.Engine.view c.args.self.now.engine)) y w u b.0 b.1
    (c.in-Ok.ensures.stock z from m told x lawful kept live) done.none b.3 r shown)

pub returns-in-Err-end-clause-aborts : goal.returns-in-Err-end-clause-aborts
returns-in-Err-end-clause-aborts g c z from m told x lawful shows =
    let t = table_of (λ y. (given.RecordOp-dyn g y).record_meaning y.1) (λ y. (given.RangeOp-dyn g y).range_meaning y.1) c.args.ops.now in
    (let kept = (aborts.runs _ (g.E.Engine.basis z) lawful (led t z from (g.E.Engine.view c.args.self.now.engine)) (core_of c.args.self.now) x c.args.txn.0 shows (sym c.is_some.ensures ∙ c.if-is_some.false)).is_kept in
    let live = aborts.live _ (g.E.Engine.basis z) lawful (led t z from (g.E.Engine.view c.args.self.now.engine)) (core_of c.args.self.now) x c.args.txn.0 shows (sym c.is_some.ensures ∙ c.if-is_some.false) (sym c.is_live.ensures ∙ c.if-not-is_live.false) in
    let done = c.in-Ok.ensures.undone z from m told x lawful kept live in
    let stays = c.undo_all.ensures.stays z from m told x lawful kept live in
    let y = led t z from (g.E.Engine.view c.undo_all.new.self.engine) in
    let w = led t z from (g.E.Engine.view c.end.new.self) in
    let u = c.args.txn.0 in
    let b = ends_live t (g.E.Engine.basis z) y w u (λ l p. Unit {0}) (Unit {0}) (done.undoing.undoes.same.lives u ∙ live)
    (c.in-Err-end.ensures.ends t z from (c.undo_all.ensures.means z from m) (c.in-Ok.ensures.tells told) done.undoing.engine done.undoing.idle) in
    aborts.along _ (g.E.Engine.basis z) lawful (led t z from (g.E.Engine.view c.args.self.now.engine)) (core_of c.args.self.now) x c.args.txn.0 shows (sym c.is_some.ensures ∙ c.if-is_some.false) (sym c.is_live.ensures ∙ c.if-not-is_live.false) (led t z from (g.E.Engine.view c.end.new.self)) (led t z from (g.E.Engine.view c.halt-in-Err-end.new.self.engine)) (core_of c.halt-in-Err-end.new.self) (ap (λ e. led t z from (g.E.Engine.view e)) (sym c.halt-in-Err-end.ensures.engine)) c.halt-in-Err-end.result c.in-Err-end.fault c.halt-in-Err-end.ensures.answer
    (aborts.end_stays _ (g.E.Engine.basis z) lawful (led t z from (g.E.Engine.view c.args.self.now.engine)) (core_of c.args.self.now) x c.args.txn.0 shows (sym c.is_some.ensures ∙ c.if-is_some.false) (sym c.is_live.ensures ∙ c.if-not-is_live.false) (led t z from (g.E.Engine.view c.undo_all.new.self.engine)) done stays (led t z from (g.E.Engine.view c.end.new.self)) b.0 b.1 b.2)
    (c.halt-in-Err-end.ensures.core ∙ ap (λ (k : Core). record k { stopped = Some (stop_at c.in-Err-end.fault) }) c.undo_all.ensures.core) (λ d. risen_from (led t z from (g.E.Engine.view c.args.self.now.engine)).faults (led t z from (g.E.Engine.view c.undo_all.new.self.engine)).faults (led t z from (g.E.Engine.view c.end.new.self)).faults c.undo_all.ensures.later (c.in-Err-end.ensures.counts.failed d))
    (near_at (g.E.Engine.view c.undo_all.new.self.engine).tail (led t z from (g.E.Engine.view c.end.new.self)).tail c.in-Err-end.fault c.end.ensures.counts.tail c.in-Err-end.ensures.log_end))

pub returns-in-Err-clause-serves : goal.returns-in-Err-clause-serves
returns-in-Err-clause-serves g c =
    let t = table_of (λ y. (given.RecordOp-dyn g y).record_meaning y.1) (λ y. (given.RangeOp-dyn g y).range_meaning y.1) c.args.ops.now in
    serves_on t (g.E.Engine.view c.args.self.now.engine) (g.E.Engine.view c.halt.new.self.engine) (core_of c.args.self.now) _ _ (λ z from m. subst (λ e. (g.E.Engine.view e).means t z from) (sym c.halt.ensures.engine) (c.undo_all.ensures.means z from m)) (λ h. c.undo_all.ensures.told (subst (λ e. (g.E.Engine.view e).Told) c.halt.ensures.engine h))
    (λ z from m tells x lawful shows. returns-in-Err-clause-aborts g c z from m tells x lawful shows) c.requires.serves

pub returns-in-Err-end-clause-serves : goal.returns-in-Err-end-clause-serves
returns-in-Err-end-clause-serves g c =
    let t = table_of (λ y. (given.RecordOp-dyn g y).record_meaning y.1) (λ y. (given.RangeOp-dyn g y).range_meaning y.1) c.args.ops.now in
    serves_on t (g.E.Engine.view c.args.self.now.engine) (g.E.Engine.view c.halt-in-Err-end.new.self.engine) (core_of c.args.self.now) _ _ (λ z from m. subst (λ e. (g.E.Engine.view e).means t z from) (sym c.halt-in-Err-end.ensures.engine) (c.end.ensures.means t z from (c.undo_all.ensures.means z from m))) (λ h. c.undo_all.ensures.told (c.end.ensures.counts.told (subst (λ e. (g.E.Engine.view e).Told) c.halt-in-Err-end.ensures.engine h)))
    (λ z from m tells x lawful shows. returns-in-Err-end-clause-aborts g c z from m tells x lawful shows) c.requires.serves

pub returns-in-Ok-end-clause-serves : goal.returns-in-Ok-end-clause-serves
returns-in-Ok-end-clause-serves g c =
    let t = table_of (λ y. (given.RecordOp-dyn g y).record_meaning y.1) (λ y. (given.RangeOp-dyn g y).range_meaning y.1) c.args.ops.now in
    serves_on t (g.E.Engine.view c.args.self.now.engine) (g.E.Engine.view c.forget.new.self.engine) (core_of c.args.self.now) _ _ (λ z from m. subst (λ e. (g.E.Engine.view e).means t z from) (sym c.forget.ensures.engine) (c.end.ensures.means t z from (c.undo_all.ensures.means z from m))) (λ h. c.undo_all.ensures.told (c.end.ensures.counts.told (subst (λ e. (g.E.Engine.view e).Told) c.forget.ensures.engine h)))
    (λ z from m tells x lawful shows. returns-in-Ok-end-clause-aborts g c z from m tells x lawful shows) c.requires.serves

pub undo_all-requires-clause-can : goal.undo_all-requires-clause-can
undo_all-requires-clause-can g c =
    let t = table_of (λ y. (given.RecordOp-dyn g y).record_meaning y.1) (λ y. (given.RangeOp-dyn g y).range_meaning y.1) c.args.ops.now in
    serving.asked_for (g.E.Engine.view c.args.self.now.engine) (ShowsSome (core_of c.args.self.now) t) (IsRunning c.args.self.now.txns t) (λ b v h. serving.runs_some t b v (core_of c.args.self.now) (sym c.is_some.ensures ∙ c.if-is_some.false) h) c.requires.serves

pub end-requires : goal.end-requires
end-requires g c =
    let t = table_of (λ y. (given.RecordOp-dyn g y).record_meaning y.1) (λ y. (given.RangeOp-dyn g y).range_meaning y.1) c.args.ops.now in
    let s = c.requires.serves in
    record {
      can = record {
        by = t;
        sizes = s.sizes;
        from = λ told. s.from (c.undo_all.ensures.told told);
        means = λ told. c.undo_all.ensures.means s.sizes (s.from (c.undo_all.ensures.told told)) (s.means (c.undo_all.ensures.told told));
        can = λ told.
            (let one = c.undo_all.ensures.told told in
            let h = s.can one in
            let v = led t s.sizes (s.from one) (g.E.Engine.view c.args.self.now.engine) in
            let b = g.E.Engine.basis s.sizes in
            let stop = sym c.is_some.ensures ∙ c.if-is_some.false in
            let kept = (aborts.runs _ b h.lawful v (core_of c.args.self.now) h.run c.args.txn.0 h.shows stop).is_kept in
            let live = aborts.live _ b h.lawful v (core_of c.args.self.now) h.run c.args.txn.0 h.shows stop (sym c.is_live.ensures ∙ c.if-not-is_live.false) in
            let done = c.in-Ok.ensures.undone s.sizes (s.from one) (s.means one) one h.run h.lawful kept live in
            record { rest = record { engine = done.undoing.engine; idle = done.undoing.idle }; going = live_going c.args.txn.0 (led t s.sizes (s.from one) (g.E.Engine.view c.undo_all.new.self.engine)).log (done.undoing.undoes.same.lives c.args.txn.0 ∙ live) });
      };
    }

pub returns-in-Err-clause-means : goal.returns-in-Err-clause-means
returns-in-Err-clause-means g c z from m =
    let t = table_of (λ y. (given.RecordOp-dyn g y).record_meaning y.1) (λ y. (given.RangeOp-dyn g y).range_meaning y.1) c.args.ops.now in
    subst (λ e. (g.E.Engine.view e).means t z from) (sym c.halt.ensures.engine) (c.undo_all.ensures.means z from m)

pub returns-in-Ok-end-clause-means : goal.returns-in-Ok-end-clause-means
returns-in-Ok-end-clause-means g c z from m =
    let t = table_of (λ y. (given.RecordOp-dyn g y).record_meaning y.1) (λ y. (given.RangeOp-dyn g y).range_meaning y.1) c.args.ops.now in
    subst (λ e. (g.E.Engine.view e).means t z from) (sym c.forget.ensures.engine) (c.end.ensures.means t z from (c.undo_all.ensures.means z from m))

pub returns-in-Err-end-clause-means : goal.returns-in-Err-end-clause-means
returns-in-Err-end-clause-means g c z from m =
    let t = table_of (λ y. (given.RecordOp-dyn g y).record_meaning y.1) (λ y. (given.RangeOp-dyn g y).range_meaning y.1) c.args.ops.now in
    subst (λ e. (g.E.Engine.view e).means t z from) (sym c.halt-in-Err-end.ensures.engine) (c.end.ensures.means t z from (c.undo_all.ensures.means z from m))

pub returns-in-Ok-end-clause-rests : goal.returns-in-Ok-end-clause-rests
returns-in-Ok-end-clause-rests g c live objects durable s =
    let t = table_of (λ y. (given.RecordOp-dyn g y).record_meaning y.1) (λ y. (given.RangeOp-dyn g y).range_meaning y.1) c.args.ops.now in
    record {
      sizes = s.sizes;
      from = λ tells. s.from (c.undo_all.ensures.told (c.end.ensures.counts.told (subst (λ e. (g.E.Engine.view e).Told) c.forget.ensures.engine tells)));
      means = λ tells. subst (λ e. (g.E.Engine.view e).means t s.sizes (s.from (c.undo_all.ensures.told (c.end.ensures.counts.told (subst (λ e. (g.E.Engine.view e).Told) c.forget.ensures.engine tells))))) (sym c.forget.ensures.engine) (c.end.ensures.means t s.sizes (s.from (c.undo_all.ensures.told (c.end.ensures.counts.told (subst (λ e. (g.E.Engine.view e).Told) c.forget.ensures.engine tells)))) (c.undo_all.ensures.means s.sizes (s.from (c.undo_all.ensures.told (c.end.ensures.counts.told (subst (λ e. (g.E.Engine.view e).Told) c.forget.ensures.engine tells)))) (s.means (c.undo_all.ensures.told (c.end.ensures.counts.told (subst (λ e. (g.E.Engine.view e).Told) c.forget.ensures.engine tells))))));
      can = λ tells.
          (let was = c.undo_all.ensures.told (c.end.ensures.counts.told (subst (λ e. (g.E.Engine.view e).Told) c.forget.ensures.engine tells)) in
          let h = s.can was in
          resting.aborted_has t (g.E.Engine.basis s.sizes) (led t s.sizes (s.from was) (g.E.Engine.view c.args.self.now.engine)) (led t s.sizes (s.from was) (g.E.Engine.view c.forget.new.self.engine)) (core_of c.args.self.now) _ live objects durable h (g.E.Engine.view c.forget.new.self.engine).tail (g.E.Engine.view c.args.self.now.engine).faults (g.E.Engine.view c.forget.new.self.engine).faults c.args.txn.0
          (returns-in-Ok-end-clause-aborts g c s.sizes (s.from was) (s.means was) was h.run h.lawful h.shows));
    }

pub returns-in-Err-clause-told : goal.returns-in-Err-clause-told
returns-in-Err-clause-told g c h = c.undo_all.ensures.told (subst (λ e. (g.E.Engine.view e).Told) c.halt.ensures.engine h)

pub returns-in-Err-end-clause-told : goal.returns-in-Err-end-clause-told
returns-in-Err-end-clause-told g c h = c.undo_all.ensures.told (c.end.ensures.counts.told (subst (λ e. (g.E.Engine.view e).Told) c.halt-in-Err-end.ensures.engine h))

pub returns-in-Ok-end-clause-told : goal.returns-in-Ok-end-clause-told
returns-in-Ok-end-clause-told g c h = c.undo_all.ensures.told (c.end.ensures.counts.told (subst (λ e. (g.E.Engine.view e).Told) c.forget.ensures.engine h))

pub returns-then-is_some-clause-causes : goal.returns-then-is_some-clause-causes
returns-then-is_some-clause-causes g c = (sym c.is_some.ensures ∙ c.if-is_some.true, refl)

pub returns-then-not-is_live-clause-causes : goal.returns-then-not-is_live-clause-causes
returns-then-not-is_live-clause-causes g c = ((causing.none_of _ (sym c.is_some.ensures ∙ c.if-is_some.false)), sym c.is_live.ensures ∙ c.if-not-is_live.true, refl)

pub returns-in-Err-clause-causes : goal.returns-in-Err-clause-causes
returns-in-Err-clause-causes g c =
    causing.ends_failed (g.E.Engine.view c.args.self.now.engine) (g.E.Engine.view c.halt.new.self.engine) (core_of c.args.self.now) (core_of c.halt.new.self) c.args.txn.0 (sym c.is_live.ensures ∙ c.if-not-is_live.false) c.in-Err.fault c.halt.result c.halt.ensures.answer (c.halt.ensures.core ∙ ap (λ (q : Core). record q { stopped = Some (stop_at c.in-Err.fault) }) c.undo_all.ensures.core) (causing.none_of _ (sym c.is_some.ensures ∙ c.if-is_some.false))
    (λ d. subst (λ e. HasRisen (g.E.Engine.view c.args.self.now.engine).faults (g.E.Engine.view e).faults) (sym c.halt.ensures.engine) (c.in-Err.ensures.failed d))
    (subst (λ e. IsNear (g.E.Engine.view e).tail c.in-Err.fault) (sym c.halt.ensures.engine) (near_at (g.E.Engine.view c.undo_all.new.self.engine).tail (g.E.Engine.view c.undo_all.new.self.engine).tail c.in-Err.fault (omega arith) c.in-Err.ensures.log_end))

pub returns-in-Err-clause-asks : goal.returns-in-Err-clause-asks
returns-in-Err-clause-asks g c = λ asks. causing.not_early _ c.in-Err.fault c.halt.result c.halt.ensures.answer asks

pub returns-in-Err-end-clause-causes : goal.returns-in-Err-end-clause-causes
returns-in-Err-end-clause-causes g c =
    causing.ends_failed (g.E.Engine.view c.args.self.now.engine) (g.E.Engine.view c.halt-in-Err-end.new.self.engine) (core_of c.args.self.now) (core_of c.halt-in-Err-end.new.self) c.args.txn.0 (sym c.is_live.ensures ∙ c.if-not-is_live.false) c.in-Err-end.fault c.halt-in-Err-end.result c.halt-in-Err-end.ensures.answer (c.halt-in-Err-end.ensures.core ∙ ap (λ (q : Core). record q { stopped = Some (stop_at c.in-Err-end.fault) }) c.undo_all.ensures.core) (causing.none_of _ (sym c.is_some.ensures ∙ c.if-is_some.false))
    (λ d. subst (λ e. HasRisen (g.E.Engine.view c.args.self.now.engine).faults (g.E.Engine.view e).faults) (sym c.halt-in-Err-end.ensures.engine) (risen_from (g.E.Engine.view c.args.self.now.engine).faults (g.E.Engine.view c.undo_all.new.self.engine).faults (g.E.Engine.view c.end.new.self).faults c.undo_all.ensures.later (c.in-Err-end.ensures.counts.failed d)))
    (subst (λ e. IsNear (g.E.Engine.view e).tail c.in-Err-end.fault) (sym c.halt-in-Err-end.ensures.engine) (near_at (g.E.Engine.view c.undo_all.new.self.engine).tail (g.E.Engine.view c.end.new.self).tail c.in-Err-end.fault c.end.ensures.counts.tail c.in-Err-end.ensures.log_end))

pub returns-in-Err-end-clause-asks : goal.returns-in-Err-end-clause-asks
returns-in-Err-end-clause-asks g c = λ asks. causing.not_early _ c.in-Err-end.fault c.halt-in-Err-end.result c.halt-in-Err-end.ensures.answer asks

pub returns-then-is_some-clause-asks : goal.returns-then-is_some-clause-asks
returns-then-is_some-clause-asks g c = λ e. refl

pub returns-then-not-is_live-clause-asks : goal.returns-then-not-is_live-clause-asks
returns-then-not-is_live-clause-asks g c = λ e. refl

pub returns-in-Ok-end-clause-causes : goal.returns-in-Ok-end-clause-causes
returns-in-Ok-end-clause-causes g c = ((causing.none_of _ (sym c.is_some.ensures ∙ c.if-is_some.false)), (sym c.is_live.ensures ∙ c.if-not-is_live.false), c.forget.ensures.core ∙ ap (λ (q : Core). record q { live = without c.args.txn.0 q.live; held = released c.args.txn.0 q.held }) c.undo_all.ensures.core)

pub returns-then-is_some-clause-heeds : goal.returns-then-is_some-clause-heeds
returns-then-is_some-clause-heeds g c =
    heeding.heeds_none c.args.self.now.stop (g.E.Engine.view c.args.self.now.engine)

pub returns-then-not-is_live-clause-heeds : goal.returns-then-not-is_live-clause-heeds
returns-then-not-is_live-clause-heeds g c =
    heeding.heeds_none c.args.self.now.stop (g.E.Engine.view c.args.self.now.engine)

pub returns-in-Err-clause-heeds : goal.returns-in-Err-clause-heeds
returns-in-Err-clause-heeds g c =
    heeding.heeds_halt (g.E.Engine.view) c.args.self.now.stop c.halt.new.self.stop c.in-Err.fault (g.E.Engine.view c.args.self.now.engine) c.undo_all.new.self.engine c.halt.new.self.engine c.halt.ensures.engine (ap (λ (k : Core). k.stopped) c.halt.ensures.core) (causing.none_of _ (sym c.is_some.ensures ∙ c.if-is_some.false))
    c.undo_all.ensures.later c.undo_all.ensures.tail c.in-Err.ensures.failed c.in-Err.ensures.accounts

pub returns-in-Err-end-clause-heeds : goal.returns-in-Err-end-clause-heeds
returns-in-Err-end-clause-heeds g c =
    heeding.heeds_halt (g.E.Engine.view) c.args.self.now.stop c.halt-in-Err-end.new.self.stop c.in-Err-end.fault (g.E.Engine.view c.args.self.now.engine) c.end.new.self c.halt-in-Err-end.new.self.engine c.halt-in-Err-end.ensures.engine (ap (λ (k : Core). k.stopped) c.halt-in-Err-end.ensures.core) (causing.none_of _ (sym c.is_some.ensures ∙ c.if-is_some.false))
    (omega (arith, c.undo_all.ensures.later, c.end.ensures.counts.later)) (omega (arith, c.undo_all.ensures.tail, c.end.ensures.counts.tail)) (λ is. heeding.risen_on _ _ _ _ c.undo_all.ensures.later c.end.ensures.counts.later (omega arith) (c.in-Err-end.ensures.counts.failed is))
    (accounting.accounts_then {B = Unit {0}} (g.E.Engine.view c.args.self.now.engine) (g.E.Engine.view c.undo_all.new.self.engine) (g.E.Engine.view c.end.new.self) c.in-Err-end.fault (accounting.unfailed_done (g.E.Engine.view c.args.self.now.engine) (g.E.Engine.view c.undo_all.new.self.engine) _ c.in-Ok.ensures.accounts) c.in-Ok.ensures.tells c.in-Err-end.ensures.counts.accounts)

pub returns-in-Ok-end-clause-heeds : goal.returns-in-Ok-end-clause-heeds
returns-in-Ok-end-clause-heeds g c =
    heeding.heeds_kept (g.E.Engine.view) c.args.self.now.stop c.forget.new.self.stop (g.E.Engine.view c.args.self.now.engine) c.end.new.self c.forget.new.self.engine c.forget.ensures.engine (ap (λ (k : Core). k.stopped) c.forget.ensures.core ∙ ap (λ (k : Core). k.stopped) c.undo_all.ensures.core)
    (c.in-Ok-end.ensures.counts.quiet ∙ c.in-Ok.ensures.quiet) (omega (arith, c.undo_all.ensures.tail, c.end.ensures.counts.tail)) (λ h. c.in-Ok-end.ensures.counts.tells (c.in-Ok.ensures.tells h))
    (accounting.unfailed_both (g.E.Engine.view c.args.self.now.engine) (g.E.Engine.view c.undo_all.new.self.engine) (g.E.Engine.view c.end.new.self) (accounting.unfailed_done (g.E.Engine.view c.args.self.now.engine) (g.E.Engine.view c.undo_all.new.self.engine) _ c.in-Ok.ensures.accounts) (accounting.unfailed_done (g.E.Engine.view c.undo_all.new.self.engine) (g.E.Engine.view c.end.new.self) _ c.in-Ok-end.ensures.counts.accounts))

pub returns-then-is_some-clause-stock_left : goal.returns-then-is_some-clause-stock_left
returns-then-is_some-clause-stock_left g c none z from m told x lawful shows r shown = shown

pub returns-then-not-is_live-clause-stock_left : goal.returns-then-not-is_live-clause-stock_left
returns-then-not-is_live-clause-stock_left g c none z from m told x lawful shows r shown = shown

pub returns-in-Err-clause-stock_left : goal.returns-in-Err-clause-stock_left
returns-in-Err-clause-stock_left g c none z from m told x lawful shows = not_halted (ap (λ (k : Core). k.stopped) c.halt.ensures.core) none

pub returns-in-Err-end-clause-stock_left : goal.returns-in-Err-end-clause-stock_left
returns-in-Err-end-clause-stock_left g c none z from m told x lawful shows = not_halted (ap (λ (k : Core). k.stopped) c.halt-in-Err-end.ensures.core) none
