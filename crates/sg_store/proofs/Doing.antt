-- How an operation goes.
use Rattle.std.proofs.Common.{◌≡◌, ℕ, ◌<◌, ◌≤◌, true, false, List, None, refl, sym, ap, ◌∙◌, subst, arith}
use Rattle.std.specs.Prelude.{◌^◌, IsOk, Result, Ok, Err, is_some}
use Rattle.sg_base.specs.Ends.{HasRisen}
use Rattle.sg_disk.proofs.Moments.{joined}
use Rattle.sg_ops.specs.Table.{Table as Operations}
use Rattle.sg_serial.specs.Runs.{is_live}
use Rattle.sg_model.specs.declared.stop.Stop.TheVariants as stops
use Rattle.sg_model.specs.declared.op.Reply as code_reply
use Rattle.sg_model.specs.Verb.{Op}
use Rattle.sg_model.specs.Verb.Reply.{Several}
use Rattle.sg_model.specs.Step.{step, is_changing}
use Rattle.sg_core.specs.Live as core
use Rattle.sg_core.specs.Live.{Txn}
use Rattle.sg_run.specs.Run.{Run, did, with_locks, live_objects, stop}
use Rattle.sg_store.specs.declared.fault.Refused.{Refused}
use Rattle.sg_store.specs.declared.fault.Refused.TheVariants as refusals
use Rattle.sg_store.specs.declared.fault.Needed.{Needed}
use Rattle.sg_store.specs.Ground.{Ground, IsLawful}
use Rattle.sg_store.specs.Engine.{View}
use Rattle.sg_store.specs.Store.{Core, Shows, Runs, IsKept}
use Rattle.sg_run.specs.Numbers as numbers
use Rattle.sg_run.specs.Numbers.{NEW_WORK_END, IsGranted, IsListing}
use Rattle.sg_run.specs.Numbers.Refusal.{Memory}
use Rattle.sg_store.specs.Calls.{Goes, Does, Stays, Holds, Rooms, HasRoom, Acts, Broke}
use Rattle.sg_store.proofs.Lines.{locks_logs}
use Rattle.sg_store.proofs.Actions.{no_holder, looks_logs}
use Rattle.sg_store.proofs.Live.{same_live}
use Rattle.sg_store.proofs.Calls.{goes_same, goes_on, goes_down, some_stop, no_stop}
use Rattle.sg_model.proofs.Refused as refused
use Rattle.sg_model.specs.Touches.{touches}
use Rattle.sg_recovery.specs.Chains.{next_lsn}
use Rattle.sg_store.proofs.Owning.{owned_locked}

at_most : (a b : ℕ) → a ≤ b → b ≤ NEW_WORK_END → a ≤ NEW_WORK_END
at_most a b le h = trans_le le h
  where
    trans_le : a ≤ b → b ≤ 2 ^ 62 → a ≤ 2 ^ 62
    trans_le x y = omega (arith, x, y)

pub risen_from : (a b c : ℕ) → a ≤ b → HasRisen b c → HasRisen a c
risen_from a b c le h = λ small. let k : b < c = h small in omega (arith, le, k)

module _ (t : Operations) (g : Ground) (lawful : IsLawful t g) (v : View g) (k : Core) (x : Run) (u : ℕ) (op : Op) (s : Shows t g v k x) (into : List ℕ) where
  pub do_stopped : (tail now : ℕ) → is_some k.stopped ≡ true → Goes t g v x (Does t v.tail tail v.faults now u op x into (Err refusals.Stopped)) v k
  do_stopped tail now e = goes_same t g v k x (Does t v.tail tail v.faults now u op x into (Err refusals.Stopped)) s (some_stop t g k x e s.stopped, refl)

  pub kept_along : (w : View g) (ks ls : List Txn) → ls ≡ ks → IsKept t g w ks x → IsKept t g w ls x
  kept_along w ks ls e h = subst (λ (z : List Txn). IsKept t g w z x) (sym e) h

  pub room_along : (w : View g) (needs : Needed) (ks ls : List Txn) → ls ≡ ks → HasRoom t g w ks x op needs → HasRoom t g w ls x op needs
  room_along w needs ks ls e h = subst (λ (z : List Txn). HasRoom t g w z x op needs) (sym e) h

  module _ (e : is_some k.stopped ≡ false) where
    pub none : x.stopped ≡ None
    none = sym s.stopped ∙ no_stop t g k.stopped e

    pub runs : Runs t g v k x
    runs = s.runs none

    lives : core.is_live k.live u ≡ is_live x.so_far.live u
    lives = same_live k.live x.so_far.live u runs.is_kept.live

    pub do_none : (tail now : ℕ) → core.is_live k.live u ≡ false → Goes t g v x (Does t v.tail tail v.faults now u op x into (Err refusals.NoTxn)) v k
    do_none tail now gone = goes_same t g v k x (Does t v.tail tail v.faults now u op x into (Err refusals.NoTxn)) s (none, sym lives ∙ gone, refl)

    module _ (is : core.is_live k.live u ≡ true) where
      pub live : is_live x.so_far.live u ≡ true
      live = sym lives ∙ is

      -- the run as it was, or one with no commit more, goes on
      on : (w : View g) (m : Core) (y : Run) (Line : Run → Type 0) → m.stopped ≡ k.stopped → y.stopped ≡ x.stopped → y.so_far.answered ≡ x.so_far.answered → y.so_far.commits ≡ x.so_far.commits → Rattle.sg_run.specs.Run.committed_objects t y ≡ Rattle.sg_run.specs.Run.committed_objects t x
          → Runs t g w m y → Line y → Stays t g v w x → Goes t g v x Line w m
      on w m y Line ms ys answered commits same r line stays = goes_on t g v w k m x y Line s none (no_stop t g k.stopped e) (ms ∙ no_stop t g k.stopped e) (ys ∙ none) answered commits r line
          (subst (λ z. Rattle.sg_disk.specs.Disk.LeavesOnly v.disk w.disk (λ c. Rattle.sg_store.specs.Stands.StandsFor t g c z)) (sym same) stays)

      down : (w1 w : View g) (m1 m : Core) (tail : ℕ) → Stays t g v w x → v.faults ≤ w1.faults → Broke w1 w m1 m → Goes t g v x (Does t v.tail tail v.faults w.faults u op x into (Err refusals.DiskFault)) w m
      down w1 w m1 m tail stays le b = goes_down t g v w k m x (Does t v.tail tail v.faults w.faults u op x into (Err refusals.DiskFault)) stops.Disk s (ap (λ (c : Core). c.stopped) b.0)
          (none, live, record { after = refl; risen = risen_from v.faults w1.faults w.faults le b.1 }) stays

      -- it wasn't granted what it touches
      pub do_unheld : (w : View g) (m : Core) (tail : ℕ) (why : Refused) → Stays t g v w x → Holds t g v w k m x u op (Err why) → Goes t g v x (Does t v.tail tail v.faults w.faults u op x into (Err why)) w m
      do_unheld w m tail (refusals.Busy holder) stays h = on w m x (Does t v.tail tail v.faults w.faults u op x into (Err (refusals.Busy holder))) (ap (λ (c : Core). c.stopped) h.2) refl refl refl refl
          (subst (λ c. Runs t g w c x) (sym h.2) (record { is_kept = h.0; held = runs.held })) (none, live, h.1, refl) stays
      do_unheld w m tail refusals.LocksFull stays h = on w m x (Does t v.tail tail v.faults w.faults u op x into (Err refusals.LocksFull)) (ap (λ (c : Core). c.stopped) h.3) refl refl refl refl
          (subst (λ c. Runs t g w c x) (sym h.3) (record { is_kept = h.0; held = runs.held })) (none, live, h.1, h.2, refl) stays
      do_unheld w m tail refusals.DiskFault stays h = down v w k m tail stays (omega arith) h
      do_unheld w m tail refusals.NoTxn stays h = absurd h
      do_unheld w m tail refusals.TooManyLive stays h = absurd h
      do_unheld w m tail (refusals.Model reason) stays h = absurd h
      do_unheld w m tail (refusals.NoSpace f r n) stays h = absurd h
      do_unheld w m tail (refusals.NoBands f n) stays h = absurd h
      do_unheld w m tail refusals.LogEnd stays h = absurd h
      do_unheld w m tail refusals.Stopped stays h = absurd h
      do_unheld w m tail refusals.Memory stays h = absurd h

      module _ (w1 : View g) (m1 : Core) (stays1 : Stays t g v w1 x) (later1 : v.faults ≤ w1.faults) (held : Holds t g v w1 k m1 x u op (Ok tt)) where
        granted : IsGranted t x u op
        granted = held.1

        -- only its locks stay
        locked : (w : View g) (m : Core) → IsKept t g w m1.live x → m ≡ m1 → Runs t g w m (with_locks t x u op)
        locked w m kept same = subst (λ c. Runs t g w c (with_locks t x u op)) (sym (same ∙ held.2)) (record {
          is_kept = record {
            live = (subst (λ (ks : List Txn). IsKept t g w ks x) (ap (λ (c : Core). c.live) held.2) kept).live;
            answered = kept.answered;
            engine = kept.engine;
            idle = kept.idle;
            logs = locks_logs t g lawful w.first w.durable w.log x u op kept.logs live (no_holder t x u op kept.logs.sound granted.none);
            free = kept.free;
            reserved = (subst (λ (ks : List Txn). IsKept t g w ks x) (ap (λ (c : Core). c.live) held.2) kept).reserved;
            buried = λ o r. owned_locked t g x.so_far.live x.so_far.held u (touches (live_objects t x) op) (next_lsn w.log) o (kept.buried o r);
            marked = (subst (λ (ks : List Txn). IsKept t g w ks x) (ap (λ (c : Core). c.live) held.2) kept).marked;
            marks = (subst (λ (ks : List Txn). IsKept t g w ks x) (ap (λ (c : Core). c.live) held.2) kept).marks;
          };
          held = refl;
        })

        still : (m : Core) → m ≡ m1 → m.stopped ≡ k.stopped
        still m same = ap (λ (c : Core). c.stopped) (same ∙ held.2)

        -- it has changed nothing
        looked : (w : View g) (m : Core) → m ≡ m1 → IsKept t g w m1.live x → (step t (live_objects t x) op).1 ≡ live_objects t x → Runs t g w m (did t x u op)
        looked w m still_is kept same =
            let kept2 = subst (λ (ks : List Txn). IsKept t g w ks x) (ap (λ (c : Core). c.live) held.2) kept in
            subst (λ c. Runs t g w c (did t x u op)) (sym (still_is ∙ held.2)) (record {
              is_kept = record {
                live = kept2.live;
                answered = kept2.answered;
                engine = kept2.engine;
                idle = kept2.idle;
                logs = looks_logs t g lawful w.first w.durable w.log x u op kept2.logs kept2.idle live granted.none same;
                free = kept2.free;
                reserved = kept2.reserved;
                buried = λ o r. owned_locked t g x.so_far.live x.so_far.held u (touches (live_objects t x) op) (next_lsn w.log) o (kept2.buried o r);
                marked = kept2.marked;
                marks = kept2.marks;
              };
              held = refl;
            })

        -- a list was answered, or memory was refused to it
        pub do_listed : (w : View g) (m : Core) (words : List (List ℕ)) → is_changing op ≡ false → Stays t g w1 w x → IsKept t g w m1.live x → (step t (live_objects t x) op).0 ≡ Ok (Several words) → m ≡ m1 → Goes t g v x (numbers.Does t v.tail w.tail v.faults w.faults u op x (Ok (Several words))) w m
        do_listed w m words looks stays kept said is_core = on w m (did t x u op) (numbers.Does t v.tail w.tail v.faults w.faults u op x (Ok (Several words))) (still m is_core) refl refl refl refl
            (looked w m is_core kept (refused.step_reads t (live_objects t x) op looks)) (none, granted, said, (λ changes. absurd (never changes)), refl) (joined stays1 stays)
          where
            never : is_changing op ≡ true → ⊥
            never changes = absurd (cc)

        pub do_lacked : (w : View g) (m : Core) → IsListing op → Stays t g w1 w x → IsKept t g w m1.live x → IsOk (step t (live_objects t x) op).0 → m ≡ m1 → Goes t g v x (numbers.Does t v.tail w.tail v.faults w.faults u op x (Err Memory)) w m
        do_lacked w m lists stays kept replies is_core = on w m (with_locks t x u op) (numbers.Does t v.tail w.tail v.faults w.faults u op x (Err Memory)) (still m is_core) refl refl refl refl (locked w m kept is_core) (none, granted, replies, lists, refl) (joined stays1 stays)

        -- there was no room, or a reason
        pub do_unroomed : (w : View g) (m : Core) (why : Refused) → Stays t g w1 w x → Rooms t g w1 w m1 m x op (Err why) → Goes t g v x (Does t v.tail w.tail v.faults w.faults u op x into (Err why)) w m
        do_unroomed w m (refusals.Model reason) stays h = on w m (did t x u op) (Does t v.tail w.tail v.faults w.faults u op x into (Err (refusals.Model reason))) (still m h.2) refl refl refl refl
            (looked w m h.2 h.0 (refused.step_refused t (live_objects t x) op (ap Rattle.sg_model.proofs.Refused.replied h.1))) (none, granted, h.1, refl) (joined stays1 stays)
        do_unroomed w m (refusals.NoSpace f r n) stays h = on w m (with_locks t x u op) (Does t v.tail w.tail v.faults w.faults u op x into (Err (refusals.NoSpace f r n))) (still m h.4) refl refl refl refl (locked w m h.0 h.4) (none, granted, h.1, h.2, h.3, refl) (joined stays1 stays)
        do_unroomed w m (refusals.NoBands f n) stays h = on w m (with_locks t x u op) (Does t v.tail w.tail v.faults w.faults u op x into (Err (refusals.NoBands f n))) (still m h.3) refl refl refl refl (locked w m h.0 h.3) (none, granted, h.1, h.2, refl) (joined stays1 stays)
        do_unroomed w m refusals.LogEnd stays h = on w m (with_locks t x u op) (Does t v.tail w.tail v.faults w.faults u op x into (Err refusals.LogEnd)) (still m h.4) refl refl refl refl (locked w m h.0 h.4) (none, granted, h.1, h.2, h.3, refl) (joined stays1 stays)
        do_unroomed w m refusals.DiskFault stays h = down w1 w m1 m w.tail (joined stays1 stays) later1 h
        do_unroomed w m refusals.NoTxn stays h = absurd h
        do_unroomed w m refusals.TooManyLive stays h = absurd h
        do_unroomed w m (refusals.Busy holder) stays h = absurd h
        do_unroomed w m refusals.LocksFull stays h = absurd h
        do_unroomed w m refusals.Stopped stays h = absurd h
        do_unroomed w m refusals.Memory stays h = absurd h

        -- it was done, or the store stopped in it
        pub do_acted : (w2 w : View g) (m2 m : Core) (needs : Needed) → Stays t g w1 w2 x → w1.faults ≤ w2.faults → Rooms t g w1 w2 m1 m2 x op (Ok needs) → v.tail ≤ w2.tail → (is_changing op ≡ true → w2.tail ≤ NEW_WORK_END) → (r : Result code_reply.Reply Refused) → (r ≡ Err refusals.LogEnd → ⊥) → Stays t g w2 w x → Acts t g w2 w m2 m x u op into r
            → Goes t g v x (Does t v.tail w.tail v.faults w.faults u op x into r) w m
        do_acted w2 w m2 m needs stays2 later2 room up tested (Ok reply) never stays h = on w m (did t x u op) (Does t v.tail w.tail v.faults w.faults u op x into (Ok reply)) (ap (λ (c : Core). c.stopped) h.2 ∙ still m2 room.1) refl refl refl refl
            (subst (λ c. Runs t g w c (did t x u op)) (sym (h.2 ∙ ap (λ (c : Core). record c { live = m.live }) (room.1 ∙ held.2))) (record { is_kept = h.0; held = refl })) (none, granted, h.1, (λ is. at_most v.tail w2.tail up (tested is)), refl) (joined (joined stays1 stays2) stays)
        do_acted w2 w m2 m needs stays2 later2 room up tested (Err refusals.DiskFault) never stays h = down w2 w m2 m w.tail (joined (joined stays1 stays2) stays) (omega (arith, later1, later2)) h
        do_acted w2 w m2 m needs stays2 later2 room up tested (Err refusals.LogEnd) never stays h = absurd (never refl)
        do_acted w2 w m2 m needs stays2 later2 room up tested (Err refusals.NoTxn) never stays h = absurd h
        do_acted w2 w m2 m needs stays2 later2 room up tested (Err refusals.TooManyLive) never stays h = absurd h
        do_acted w2 w m2 m needs stays2 later2 room up tested (Err (refusals.Busy holder)) never stays h = absurd h
        do_acted w2 w m2 m needs stays2 later2 room up tested (Err refusals.LocksFull) never stays h = absurd h
        do_acted w2 w m2 m needs stays2 later2 room up tested (Err (refusals.Model reason)) never stays h = absurd h
        do_acted w2 w m2 m needs stays2 later2 room up tested (Err (refusals.NoSpace f r n)) never stays h = absurd h
        do_acted w2 w m2 m needs stays2 later2 room up tested (Err (refusals.NoBands f n)) never stays h = absurd h
        do_acted w2 w m2 m needs stays2 later2 room up tested (Err refusals.Stopped) never stays h = absurd h
        do_acted w2 w m2 m needs stays2 later2 room up tested (Err refusals.Memory) never stays h = absurd h
