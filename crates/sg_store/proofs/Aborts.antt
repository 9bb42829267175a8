-- How an abort goes.
use Rattle.std.proofs.Common.{◌≡◌, ℕ, true, false, List, ◌∷◌, Some, None, refl, sym, ap, ◌∙◌, subst, arith}
use Rattle.std.specs.Prelude.{Ok, Err, is_some}
use Rattle.sg_base.specs.Ends.{HasRisen}
use Rattle.sg_disk.proofs.Moments.{joined}
use Rattle.sg_ops.specs.Table.{Table as Operations}
use Rattle.sg_serial.specs.Locks.{released}
use Rattle.sg_serial.specs.Runs.{is_live}
use Rattle.sg_model.specs.declared.stop.Stop.TheVariants as stops
use Rattle.sg_core.specs.Live as core
use Rattle.sg_core.specs.Live.{Txn, without}
use Rattle.sg_run.specs.Run.{Run, aborted}
use Rattle.sg_recovery.specs.Log.{Numbered, tally}
use Rattle.sg_recovery.specs.Log.Record.{End}
use Rattle.sg_recovery.specs.Stands.{made}
use Rattle.sg_space.specs.declared.space.SpaceFault.{SpaceFault}
use Rattle.sg_space.specs.declared.space.SpaceFault.TheVariants as spaces
use Rattle.sg_store.specs.declared.fault.Refused.{Refused}
use Rattle.sg_store.specs.declared.fault.Refused.TheVariants as refusals
use Rattle.sg_store.specs.Ground.{Ground, IsLawful, setting}
use Rattle.sg_store.specs.Engine.{View, Appends, Appended, IsDiskFault}
use Rattle.sg_store.specs.Store.{Core, Shows, Runs, Logs, AreReserved}
use Rattle.sg_recovery.specs.Chains.{next_lsn}
use Rattle.sg_store.specs.Calls.{Goes, Aborts, Stays, IsUndone}
use Rattle.sg_store.specs.Stops.{refused_at, stop_at}
use Rattle.sg_store.proofs.Aborting.{abort_logs}
use Rattle.sg_store.proofs.Ending.{IsNear}
use Rattle.sg_store.proofs.Marking.{marks_without}
use Rattle.sg_store.proofs.Points.{same_marks_without}
use Rattle.sg_store.proofs.Owning.{grown, owned_ended, next_after}
use Rattle.sg_store.proofs.Live.{same_live, same_without, others_without}
use Rattle.sg_store.proofs.Calls.{moved, call_stands, goes_same, goes_on, goes_down, some_stop, no_stop}

module _ (t : Operations) (g : Ground) (lawful : IsLawful t g) (v : View g) (k : Core) (x : Run) (u : ℕ) (s : Shows t g v k x) where
  pub abort_stopped : (now : ℕ) → is_some k.stopped ≡ true → Goes t g v x (Aborts v.tail v.faults now u x (Err refusals.Stopped)) v k
  abort_stopped now e = goes_same t g v k x (Aborts v.tail v.faults now u x (Err refusals.Stopped)) s (some_stop t g k x e s.stopped, refl)

  module _ (e : is_some k.stopped ≡ false) where
    none : x.stopped ≡ None
    none = sym s.stopped ∙ no_stop t g k.stopped e

    pub runs : Runs t g v k x
    runs = s.runs none

    lives : core.is_live k.live u ≡ is_live x.so_far.live u
    lives = same_live k.live x.so_far.live u runs.is_kept.live

    pub abort_none : (now : ℕ) → core.is_live k.live u ≡ false → Goes t g v x (Aborts v.tail v.faults now u x (Err refusals.NoTxn)) v k
    abort_none now gone = goes_same t g v k x (Aborts v.tail v.faults now u x (Err refusals.NoTxn)) s (none, sym lives ∙ gone, refl)

    module _ (is : core.is_live k.live u ≡ true) where
      pub live : is_live x.so_far.live u ≡ true
      live = sym lives ∙ is

      -- the store stops in it
      pub abort_fails : (w : View g) (m : Core) (f : SpaceFault) → Stays t g v w x → m ≡ record k { stopped = Some (stop_at f) } → (IsDiskFault f → HasRisen v.faults w.faults) → IsNear w.tail f → Goes t g v x (Aborts w.tail v.faults w.faults u x (Err (refused_at f))) w m
      abort_fails w m spaces.Disk stays same risen near = goes_down t g v w k m x (Aborts w.tail v.faults w.faults u x (Err refusals.DiskFault)) stops.Disk s (ap (λ (c : Core). c.stopped) same) (none, live, record { after = refl; risen = risen tt }) stays
      abort_fails w m spaces.LogEnd stays same risen near = goes_down t g v w k m x (Aborts w.tail v.faults w.faults u x (Err refusals.LogEnd)) stops.LogEnd s (ap (λ (c : Core). c.stopped) same) (none, live, refl, near) stays

      -- the same of the engine as it is handed on
      pub along : (w z : View g) (m : Core) → w ≡ z → (r : Refused) (f : SpaceFault) → r ≡ refused_at f → Stays t g v w x → m ≡ record k { stopped = Some (stop_at f) } → (IsDiskFault f → HasRisen v.faults w.faults) → IsNear w.tail f → Goes t g v x (Aborts z.tail v.faults z.faults u x (Err r)) z m
      along w z m same r f answer stays is_core risen near = subst (λ y. Goes t g v x (Aborts y.tail v.faults y.faults u x (Err r)) y m) same
          (subst (λ q. Goes t g v x (Aborts w.tail v.faults w.faults u x (Err q)) w m) (sym answer) (abort_fails w m f stays is_core risen near))

      module _ (w1 : View g) (undone : IsUndone t g w1 k.live x u) (stays1 : Stays t g v w1 x) (w : View g) (l p : ℕ) (ends : Appends t g w1 w (record { lsn = l; is = End u p })) where
        logs : Logs t g w1.first w1.durable (record { lsn = l; is = End u p } ∷ w1.log) (aborted x u)
        logs = abort_logs t g lawful w1.first w1.durable w1.log x l p u undone.undoing.undoes live undone.none (omega (arith, ends.above, undone.undoing.engine.below))

        pub end_stays : Stays t g v w x
        end_stays = joined stays1 (call_stands t g w1 w (record { lsn = l; is = End u p } ∷ w1.log) (aborted x u) logs ends.moments)

        pub abort_done : Appended t g w1 w (record { lsn = l; is = End u p }) → (m : Core) → m ≡ record k { live = without u k.live; held = released u k.held } → Goes t g v x (Aborts w.tail v.faults w.faults u x (Ok tt)) w m
        abort_done d m same = goes_on t g v w k m x (aborted x u) (Aborts w.tail v.faults w.faults u x (Ok tt)) s none (no_stop t g k.stopped e) (ap (λ (c : Core). c.stopped) same ∙ no_stop t g k.stopped e) none refl refl
            (subst (λ c. Runs t g w c (aborted x u)) (sym same) (record {
              is_kept = record {
                live = same_without k.live x.so_far.live u undone.undoing.live;
                answered = undone.undoing.answered;
                engine = d.goes_on.engine;
                idle = ap (λ (ls : List (Numbered g.C g.N)). (tally ls).opened) d.log ∙ undone.undoing.idle;
                logs = moved t g w1.first w.first w1.durable w.durable (record { lsn = l; is = End u p } ∷ w1.log) w.log (aborted x u) (sym d.goes_on.first) (sym d.log) d.goes_on.durable logs;
                free = λ b r. d.pages ∙ undone.undoing.free b (subst (λ (ls : List (Numbered g.C g.N)). g.reading (made (setting t g) w1.first ls) ≡ Some b) d.log (subst (λ q. g.reading (made (setting t g) q w.log) ≡ Some b) d.goes_on.first r));
                reserved = subst (λ (ls : List (Numbered g.C g.N)). AreReserved (setting t g) (without u k.live) (tally ls).notes) (sym d.log) (others_without (setting t g) k.live (tally w1.log).notes u undone.undoing.reserved);
                buried = λ b r. grown t g (aborted x u).so_far.live (aborted x u).so_far.held (next_lsn w1.log) (next_lsn w.log) b (next_after t g w1 w (record { lsn = l; is = End u p }) d) (owned_ended t g x.so_far.live x.so_far.held u (next_lsn w1.log) b
                    (undone.undoing.buried b (subst (λ (ls : List (Numbered g.C g.N)). g.reading (made (setting t g) w1.first ls) ≡ Some b) d.log (subst (λ q. g.reading (made (setting t g) q w.log) ≡ Some b) d.goes_on.first r))));
                marked = λ b r. marks_without g k.live u b (undone.undoing.marked b (subst (λ (ls : List (Numbered g.C g.N)). g.reading (made (setting t g) w1.first ls) ≡ Some b) d.log (subst (λ q. g.reading (made (setting t g) q w.log) ≡ Some b) d.goes_on.first r)));
                marks = same_marks_without k.live x.so_far.live u undone.undoing.marks;
              };
              held = ap (λ hs. released u hs) runs.held;
            })) (none, live, refl) end_stays

      pub along_done : (w1 : View g) (undone : IsUndone t g w1 k.live x u) (stays1 : Stays t g v w1 x) (w z : View g) → w ≡ z → (l p : ℕ) → Appends t g w1 w (record { lsn = l; is = End u p }) → Appended t g w1 w (record { lsn = l; is = End u p })
          → (m : Core) → m ≡ record k { live = without u k.live; held = released u k.held } → Goes t g v x (Aborts z.tail v.faults z.faults u x (Ok tt)) z m
      along_done w1 undone stays1 w z same l p ends d m is_core = subst (λ y. Goes t g v x (Aborts y.tail v.faults y.faults u x (Ok tt)) y m) same (abort_done w1 undone stays1 w l p ends d m is_core)
