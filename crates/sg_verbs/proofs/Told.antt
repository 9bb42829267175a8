-- The objects, told to a listener, as the store asks.
use Rattle.std.proofs.Common.{◌≡◌, ℕ, ◌≤◌, Bool, true, false, length, Result, Ok, Err, subst}
use Rattle.std.specs.Prelude.{IfOk, IfErr}
use Rattle.std.specs.FinMap.{entries}
use Rattle.sg_actions.specs.declared.acts.Acts.{Acts}
use Rattle.sg_actions.specs.declared.engine.Engine.{Ghosts}
use Rattle.sg_reading.specs.Reading.{Reading, objects}
use Rattle.sg_contents.specs.Standing.{IfContents}
use Rattle.sg_contents.specs.Meaning.{reading}
use Rattle.sg_lines.specs.Heard.{Ears, HasHeard, WasCut}
use Rattle.sg_lines.specs.Parts.{parts_of}
use Rattle.sg_listing.specs.Telling.{OnlyTold, CountsEars, IsTold}
use Rattle.sg_listing.specs.declared.fault.TellFault as listing
use Rattle.sg_listing.specs.declared.fault.TellFault.TheVariants as faults
use Rattle.sg_space.specs.declared.space.SpaceFault.{SpaceFault}
use Rattle.sg_store.specs.Engine.{AsMeant, Keeps, Counts, IsEngine, IsDiskFault, Rests}
use Rattle.sg_store.specs.Telling.{IsTellDisk, IsUntoldQuietly, CountsListener, HasTold}
use Rattle.sg_store.specs.Verbs.{Reads}
use Rattle.sg_store.specs.declared.fault.TellFault.{TellFault}
use Rattle.sg_store.specs.declared.fault.TellFault.TheVariants as tells
use Rattle.sg_shown.specs.Shown.{over, shown}
use Rattle.sg_verbs.specs.Looks.{HasGoneOn, IsHeld, IsGivenUp}
use Rattle.sg_verbs.specs.Telling.{is_tell_failed, told_as}
use Rattle.sg_verbs.proofs.Looked.{Look, Kept, kept, failed, fails_disk, looked_there, counts_kept, counts_refused, counts_failed}
use Rattle.sg_verbs.proofs.Settled.{SomeFails}
use Rattle.sg_verbs.proofs.Moving.{view_in}

not_done : true ≡ false → ⊥
not_done e = cc

module _ {E : Type 0} {g : Ghosts E} (a p b d : Acts E g) where
  -- WHERE IT DIDN'T FAIL for the space all is as it was
  pub tell_kept : (r : Result ℕ listing.TellFault) → Look a p b → OnlyTold (view_in (over p)) (view_in (over b)) r
      → is_tell_failed r ≡ false → HasGoneOn a.begun b d → IsHeld (over b).engine → Kept a d
  tell_kept (Ok n) l q done h held = kept a p b d l q.kept h q.counted held
  tell_kept (Err faults.Memory) l q done h held = kept a p b d l q.kept h q.counted held
  tell_kept (Err faults.Listener) l q done h held = kept a p b d l q.kept h q.counted held
  tell_kept (Err (faults.Space f)) l q done h held = absurd (not_done done)

  pub tell_counts : (r : Result ℕ listing.TellFault) → is_tell_failed r ≡ false → Kept a d → Counts IsTellDisk (shown a) (shown d) (told_as r)
  tell_counts (Ok n) done k = counts_kept a p b d n k
  tell_counts (Err faults.Memory) done k = counts_refused a p b d tells.Memory (λ h. h) k
  tell_counts (Err faults.Listener) done k = counts_refused a p b d tells.Listener (λ h. h) k
  tell_counts (Err (faults.Space f)) done k = absurd (not_done done)

  pub tell_quiet : (r : Result ℕ listing.TellFault) → is_tell_failed r ≡ false → Kept a d → IfErr (told_as r) (IsUntoldQuietly (shown a) (shown d))
  tell_quiet (Ok n) done k = tt
  tell_quiet (Err faults.Memory) done k = (k.tells, k.faults)
  tell_quiet (Err faults.Listener) done k = (k.tells, k.faults)
  tell_quiet (Err (faults.Space f)) done k = absurd (not_done done)

  module _ {S : Type 0} (ears : Ears S) (from to : S) where
    -- what the listener heard is of the objects that the store's pages read as
    pub told_objects : (l : Look a p b) (r : Result ℕ listing.TellFault) → is_tell_failed r ≡ false → Kept a d
        → IfContents (view_in (over p)) (λ s. IsTold ears from (parts_of (objects (reading s))) to r)
        → IfOk r (λ n. IfContents (view_in (over p)) (λ s. n ≡ length (entries (objects (reading s)))))
        → AsMeant (shown a) (shown d) (λ t g v w. (o : g.O) → IsEngine t g v → Reads t g v o
        → Rests t g v w × HasTold ears from to t g v w o (told_as r))
    told_objects l (Ok n) done k heard count t z base m told o engine can =
        let q = k.rests t z base m told in
        let s = looked_there a p b d l t z base m told o can.reading in (
          q.0,
          (
            q.1,
            subst (λ (x : Reading). HasHeard ears from (parts_of (objects x)) to) s.3 (heard s.1 s.0 s.2),
            subst (λ (x : Reading). n ≡ length (entries (objects x))) s.3 (count s.1 s.0 s.2),
          ),
        )
    told_objects l (Err faults.Memory) done k heard count t z base m told o engine can = k.rests t z base m told
    told_objects l (Err faults.Listener) done k heard count t z base m told o engine can =
        let q = k.rests t z base m told in
        let s = looked_there a p b d l t z base m told o can.reading in
        (q.0, (q.1, subst (λ (x : Reading). WasCut ears from (parts_of (objects x)) to) s.3 (heard s.1 s.0 s.2)))
    told_objects l (Err (faults.Space f)) done k heard count t z base m told o engine can = absurd (not_done done)

  -- WHERE IT FAILED for the space, that failed for the disk
  pub tell_fails : (r : Result ℕ listing.TellFault) → Look a p b → OnlyTold (view_in (over p)) (view_in (over b)) r
      → SomeFails false (is_tell_failed r) (over a) (over b)
  tell_fails (Ok n) l q is = absurd (let w : false ≡ true = is in cc)
  tell_fails (Err faults.Memory) l q is = absurd (let w : false ≡ true = is in cc)
  tell_fails (Err faults.Listener) l q is = absurd (let w : false ≡ true = is in cc)
  tell_fails (Err (faults.Space f)) l q is = (f, fails_disk a p b d l f q.kept q.counted)

-- the listener's count
pub listener_counts : {S : Type 0} (ears : Ears S) (from to : S) (r : Result ℕ listing.TellFault)
    → CountsEars ears from to r → CountsListener ears from to (told_as r)
listener_counts ears from to (Ok n) h = record { later = h.later; counted = h.counted; same = h.same }
listener_counts ears from to (Err faults.Memory) h = record { later = h.later; counted = h.counted; same = h.same }
listener_counts ears from to (Err faults.Listener) h = record { later = h.later; counted = h.counted; same = h.same }
listener_counts ears from to (Err (faults.Space f)) h = record { later = h.later; counted = tt; same = h.same }

-- where nothing more is asked of the engine
pub record TellGivenUp {E : Type 0} {g : Ghosts E} (a d : Acts E g) : Type 0 where
  pub counts : Counts IsTellDisk (shown a) (shown d) (let r : Result ℕ TellFault = Err tells.Disk in r)
  pub means : Keeps (shown a) (shown d)
  pub tail : (shown d).tail ≡ (shown a).tail
  pub rests : AsMeant (shown a) (shown d) (λ t g v w. Rests t g v w)

pub tell_given_up : {E : Type 0} {g : Ghosts E} {lost : Bool} (a p b d : Acts E g) (l : Look a p b) (f : SpaceFault)
    → (view_in (over p)).faults ≤ (view_in (over b)).faults → SomeFails false lost (over a) (over b)
    → IsGivenUp false lost (over b) (over d) f → IsDiskFault f → TellGivenUp a d
tell_given_up a p b d l f later fails up is =
    let h = failed a p b d l f later up in
    record {
      counts = counts_failed a p b d f tells.Disk (λ it. is) (λ it. tt) fails h;
      means = h.means;
      tail = h.tail;
      rests = h.rests;
    }
