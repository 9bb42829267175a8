-- How a commit goes.
use Rattle.std.proofs.Common.{◌≡◌, ◌⊎◌, ℕ, ◌+◌, true, false, List, [], ◌∷◌, ◌++◌, length, Some, None, refl, sym, ap, ◌∙◌, subst, arith}
use Rattle.std.proofs.Common.{inl, inr}
use Rattle.std.specs.Prelude.{take, Ok, Err, is_some}
use Rattle.std.proofs.lemmas.List.{length-append}
use Rattle.sg_base.specs.Ends.{HasRisen}
use Rattle.sg_disk.specs.Disk.{Image, LeavesOnly}
use Rattle.sg_disk.proofs.Moments.{weaker, joined}
use Rattle.sg_ops.specs.Table.{Table as Operations}
use Rattle.sg_serial.specs.Locks.{released}
use Rattle.sg_serial.specs.Machine.{run}
use Rattle.sg_serial.specs.Runs.{in_order, is_live, is_own}
use Rattle.std.specs.List.{filter}
use Rattle.sg_model.specs.Step.{step}
use Rattle.sg_core.specs.Live.{Txn, without}
use Rattle.sg_core.specs.Live as core
use Rattle.sg_run.specs.Run.{Run, Event, committed, committed_objects}
use Rattle.sg_recovery.specs.Log.{Numbered, tally}
use Rattle.sg_recovery.specs.Log.Record.{Commit}
use Rattle.sg_recovery.specs.Stands.{made, StandsFor as LogStands}
use Rattle.sg_recovery.specs.Chains.{next_lsn}
use Rattle.sg_recovery.specs.Claims.{Log}
use Rattle.sg_join.specs.Join.{Grows}
use Rattle.sg_join.proofs.Fronts.{grows_none, front_all}
use Rattle.sg_space.specs.declared.space.SpaceFault.{SpaceFault}
use Rattle.sg_space.specs.declared.space.SpaceFault.TheVariants as spaces
use Rattle.sg_store.specs.declared.fault.Refused.{Refused}
use Rattle.sg_store.specs.declared.fault.Refused.TheVariants as refusals
use Rattle.sg_store.specs.Ground.{Ground, IsLawful, setting}
use Rattle.sg_store.specs.Engine.{View, Appends, Appended, IsDiskFault, is_going, pages_of}
use Rattle.sg_store.proofs.Counting.{live_going}
use Rattle.sg_store.specs.Stands.{StandsFor, StandsForFirst}
use Rattle.sg_store.specs.Store.{Core, Shows, Runs, IsKept, IsLeaving, Logs, AreReserved}
use Rattle.sg_run.specs.Numbers.{stopped_in, at_log_end}
use Rattle.sg_store.specs.Calls.{Goes, Commits, Stays}
use Rattle.sg_store.specs.Stops.{refused_at, stop_at}
use Rattle.sg_store.proofs.Ending.{IsNear}
use Rattle.sg_store.proofs.Images.{image_either}
use Rattle.sg_store.proofs.Lines.{commit_logs}
use Rattle.sg_store.proofs.Live.{same_live, same_without, reserved_without}
use Rattle.sg_store.proofs.Points.{same_marks_without}
use Rattle.sg_store.proofs.Owning.{grown, next_after}
use Rattle.sg_store.proofs.Calls.{moved, stands_all, goes_same, some_stop, no_stop}

take_front : {A : Type 0} (xs ys : List A) → take (length xs) (xs ++ ys) ≡ xs
take_front [] [] = refl
take_front [] (y ∷ ys) = refl
take_front (x ∷ xs) ys = ap (λ l. x ∷ l) (take_front xs ys)

module _ (t : Operations) (g : Ground) (lawful : IsLawful t g) (v : View g) (k : Core) (x : Run) (u now : ℕ) (s : Shows t g v k x) where
  pub commit_stopped : (tail : ℕ) → is_some k.stopped ≡ true → Goes t g v x (Commits tail v.faults now u x (Err refusals.Stopped)) v k
  commit_stopped tail e = goes_same t g v k x (Commits tail v.faults now u x (Err refusals.Stopped)) s (some_stop t g k x e s.stopped, refl)

  module _ (e : is_some k.stopped ≡ false) where
    pub none : x.stopped ≡ None
    none = sym s.stopped ∙ no_stop t g k.stopped e

    pub runs : Runs t g v k x
    runs = s.runs none

    lives : core.is_live k.live u ≡ is_live x.so_far.live u
    lives = same_live k.live x.so_far.live u runs.is_kept.live

    pub commit_none : (tail : ℕ) → core.is_live k.live u ≡ false → Goes t g v x (Commits tail v.faults now u x (Err refusals.NoTxn)) v k
    commit_none tail gone = goes_same t g v k x (Commits tail v.faults now u x (Err refusals.NoTxn)) s (none, sym lives ∙ gone, refl)

    module _ (live : core.is_live k.live u ≡ true) (w : View g) (l p : ℕ) (a : Appends t g v w (record { lsn = l; is = Commit u p })) where
      abbrev log : Log (setting t g)
      log = record { lsn = l; is = Commit u p } ∷ v.log

      is : is_live x.so_far.live u ≡ true
      is = sym lives ∙ live

      logs : Logs t g v.first log log (committed x u)
      logs = commit_logs t g lawful v.first v.durable v.log x l u p runs.is_kept.logs (omega (arith, a.above, runs.is_kept.engine.below)) is

      with_it : LogStands (setting t g) v.first log (committed_objects t (committed x u))
      with_it = logs.keeps.fronts log (front_all log log (grows_none log))

      more : length (committed x u).so_far.commits ≡ length x.so_far.commits + 1
      more = length-append x.so_far.commits (filter (is_own u) x.so_far.history ∷ [])

      -- an image stands for what there was, or for that with the commit
      before : (c : Image) → StandsFor t g c (committed_objects t x) → StandsForFirst t g x.so_far.answered (committed x u) c
      before c h = record {
        commits = length x.so_far.commits;
        enough = s.answered;
        most = (let m : length (committed x u).so_far.commits ≡ length x.so_far.commits + 1 = more in omega (arith, m));
        stands = subst (λ m. StandsFor t g c m) (sym (ap (λ (ess : List (List Event)). run (step t) x.so_far.first (in_order ess)) (take_front x.so_far.commits (filter (is_own u) x.so_far.history ∷ [])))) h;
      }

      behind : (c : Image) → StandsFor t g c (committed_objects t (committed x u)) → StandsForFirst t g x.so_far.answered (committed x u) c
      behind c h = stands_all t g (committed x u) x.so_far.answered c (let m : length (committed x u).so_far.commits ≡ length x.so_far.commits + 1 = more in omega (arith, m, s.answered)) h

      pub moments : LeavesOnly v.disk w.disk (StandsForFirst t g x.so_far.answered (committed x u))
      moments = weaker a.moments (λ c i. either c (image_either t g v (committed_objects t x) (committed_objects t (committed x u)) v.log (record { lsn = l; is = Commit u p }) runs.is_kept.logs.keeps.fronts with_it c i))
        where
          either : (c : Image) → StandsFor t g c (committed_objects t x) ⊎ StandsFor t g c (committed_objects t (committed x u)) → StandsForFirst t g x.so_far.answered (committed x u) c
          either c (inl h) = before c h
          either c (inr h) = behind c h

      module _ (did : Appended t g v w (record { lsn = l; is = Commit u p })) (durable : w.durable ≡ w.log) where
        now_logs : Logs t g w.first w.durable w.log (committed x u)
        now_logs = moved t g v.first w.first log w.durable log w.log (committed x u) (sym did.goes_on.first) (sym did.log) (subst (λ d. Grows log d) (sym (durable ∙ did.log)) (grows_none log)) logs

        -- what it dropped is to be freed
        pub leaving : IsLeaving t g w k.live x u
        leaving = record {
          was = is;
          going = subst (λ (ls : List (Numbered g.C g.N)). is_going u ls ≡ true) (sym did.log) (live_going u v.log (runs.is_kept.logs.same.lives u ∙ is));
          sound = runs.is_kept.logs.sound;
          live = same_without k.live x.so_far.live u runs.is_kept.live;
          engine = did.goes_on.engine;
          idle = ap (λ (ls : List (Numbered g.C g.N)). (tally ls).opened) did.log ∙ runs.is_kept.idle;
          logs = now_logs;
          free = λ o r. did.pages ∙ runs.is_kept.free o (before_it o r);
          reserved = subst (λ (ls : List (Numbered g.C g.N)). AreReserved (setting t g) (without u k.live) (tally ls).notes) (sym did.log) (reserved_without (setting t g) k.live (tally v.log).notes u runs.is_kept.reserved);
          buried = λ o r. grown t g x.so_far.live x.so_far.held (next_lsn v.log) (next_lsn w.log) o (next_after t g v w (record { lsn = l; is = Commit u p }) did) (runs.is_kept.buried o (before_it o r));
          marked = λ o r. runs.is_kept.marked o (before_it o r);
          marks = same_marks_without k.live x.so_far.live u runs.is_kept.marks;
        }
          where
            before_it : (o : g.O) → g.reading (pages_of t g w) ≡ Some o → g.reading (pages_of t g v) ≡ Some o
            before_it o r = subst (λ (ls : List (Numbered g.C g.N)). g.reading (made (setting t g) v.first ls) ≡ Some o) did.log (subst (λ q. g.reading (made (setting t g) q w.log) ≡ Some o) did.goes_on.first r)

      -- in the call so far each image stands for what there was, or for that with the commit
      pub after_it : (z : View g) → Stays t g w z (committed x u) → LeavesOnly v.disk z.disk (StandsForFirst t g x.so_far.answered (committed x u))
      after_it z stays = joined moments (weaker stays behind)

      pub commit_done : (z : View g) → LeavesOnly v.disk z.disk (StandsForFirst t g x.so_far.answered (committed x u)) → Stays t g w z (committed x u) → IsKept t g z (without u k.live) (committed x u)
          → (m : Core) → m ≡ record k { live = without u k.live; held = released u k.held } → (tail : ℕ) → Goes t g v x (Commits tail v.faults now u x (Ok tt)) z m
      commit_done z all stays kept m same tail = record {
        after = committed x u;
        goes = (none, is, refl);
        shows = record {
          stopped = ap (λ (c : Core). c.stopped) same ∙ s.stopped;
          runs = λ e. subst (λ c. Runs t g z c (committed x u)) (sym same) (record { is_kept = kept; held = ap (λ hs. released u hs) runs.held });
          answered = (let m2 : length (committed x u).so_far.commits ≡ length x.so_far.commits + 1 = more in omega (arith, m2));
          one_more = (let m2 : length (committed x u).so_far.commits ≡ length x.so_far.commits + 1 = more in omega (arith, m2));
          images = λ c h. stands_all t g (committed x u) (length x.so_far.commits + 1) c (let m2 : length (committed x u).so_far.commits ≡ length x.so_far.commits + 1 = more in omega (arith, m2)) (stays.each c (inl h));
        };
        moments = all;
      }

      -- the disk failed, or the log was at its end
      pub commit_fails : (z : View g) → LeavesOnly v.disk z.disk (StandsForFirst t g x.so_far.answered (committed x u)) → (m : Core) (f : SpaceFault) → m ≡ record k { stopped = Some (stop_at f) } → (IsDiskFault f → HasRisen v.faults now) → (tail : ℕ) → IsNear tail f
          → Goes t g v x (Commits tail v.faults now u x (Err (refused_at f))) z m
      commit_fails z all m spaces.Disk same risen tail near = record {
        after = stopped_in x u;
        goes = (none, is, refl, risen tt);
        shows = record {
          stopped = ap (λ (c : Core). c.stopped) same;
          runs = λ z. absurd (cc);
          answered = (let m2 : length (committed x u).so_far.commits ≡ length x.so_far.commits + 1 = more in omega (arith, m2, s.answered));
          one_more = (let m2 : length (committed x u).so_far.commits ≡ length x.so_far.commits + 1 = more in omega (arith, m2, runs.is_kept.answered));
          images = λ c h. again c (all.each c (inl h));
        };
        moments = weaker all again;
      }
        where
          again : (c : Image) → StandsForFirst t g x.so_far.answered (committed x u) c → StandsForFirst t g x.so_far.answered (stopped_in x u) c
          again c h = record { commits = h.commits; enough = h.enough; most = h.most; stands = h.stands }
      commit_fails z all m spaces.LogEnd same risen tail near = record {
        after = at_log_end x u;
        goes = (none, is, refl, near);
        shows = record {
          stopped = ap (λ (c : Core). c.stopped) same;
          runs = λ z. absurd (cc);
          answered = (let m2 : length (committed x u).so_far.commits ≡ length x.so_far.commits + 1 = more in omega (arith, m2, s.answered));
          one_more = (let m2 : length (committed x u).so_far.commits ≡ length x.so_far.commits + 1 = more in omega (arith, m2, runs.is_kept.answered));
          images = λ c h. again c (all.each c (inl h));
        };
        moments = weaker all again;
      }
        where
          again : (c : Image) → StandsForFirst t g x.so_far.answered (committed x u) c → StandsForFirst t g x.so_far.answered (at_log_end x u) c
          again c h = record { commits = h.commits; enough = h.enough; most = h.most; stands = h.stands }

-- the same of the engine as it is handed on
module _ (t : Operations) (g : Ground) (lawful : IsLawful t g) (v : View g) (k : Core) (x : Run) (u : ℕ) (s : Shows t g v k x) (e : is_some k.stopped ≡ false) (live : core.is_live k.live u ≡ true)
    (w : View g) (l p : ℕ) (a : Appends t g v w (record { lsn = l; is = Commit u p })) where
  pub fails_at : (z y : View g) → z ≡ y → (m : Core) (f : SpaceFault) (r : Refused) → r ≡ refused_at f → m ≡ record k { stopped = Some (stop_at f) } → LeavesOnly v.disk z.disk (StandsForFirst t g x.so_far.answered (committed x u))
      → (IsDiskFault f → HasRisen v.faults z.faults) → IsNear z.tail f → Goes t g v x (Commits y.tail v.faults y.faults u x (Err r)) y m
  fails_at z y same m f r answer is all risen near = subst (λ i. Goes t g v x (Commits i.tail v.faults i.faults u x (Err r)) i m) same
      (subst (λ q. Goes t g v x (Commits z.tail v.faults z.faults u x (Err q)) z m) (sym answer) (commit_fails t g lawful v k x u z.faults s e live w l p a z all m f is risen z.tail near))

  pub done_at : (z y : View g) → z ≡ y → (m : Core) → m ≡ record k { live = without u k.live; held = released u k.held } → LeavesOnly v.disk z.disk (StandsForFirst t g x.so_far.answered (committed x u)) → Stays t g w z (committed x u) → IsKept t g z (without u k.live) (committed x u)
      → Goes t g v x (Commits y.tail v.faults y.faults u x (Ok tt)) y m
  done_at z y same m is all stays kept = subst (λ i. Goes t g v x (Commits i.tail v.faults i.faults u x (Ok tt)) i m) same (commit_done t g lawful v k x u z.faults s e live w l p a z all stays kept m is z.tail)
