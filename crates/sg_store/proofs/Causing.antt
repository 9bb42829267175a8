-- Why calls were answered so, put together from their parts.
use Rattle.std.proofs.Common.{◌≡◌, ℕ, ◌≤◌, Bool, true, false, List, map, Option, Some, None, refl, sym, ap, ◌∙◌, subst, arith}
use Rattle.std.specs.Prelude.{◌<◌, ◌+◌, ◌^◌, length, sum_by, is_some, IsSome, Result, Ok, Err, IfErr}
use Rattle.sg_base.specs.Ends.{HasRisen}
use Rattle.sg_serial.specs.Locks.{Touch, first_holder, hold_all}
use Rattle.sg_model.specs.declared.stop.Stop.{Stop}
use Rattle.sg_model.specs.declared.stop.Stop.TheVariants as stops
use Rattle.sg_model.specs.Touches.{Resource, same_resource, conflict}
use Rattle.sg_locks.specs.declared.table.LockAnswer.{LockAnswer}
use Rattle.sg_locks.specs.declared.table.LockAnswer.TheVariants.{Granted, Busy, LocksFull}
use Rattle.sg_locks.specs.Answers.{lock_answer, held_after, locks_after}
use Rattle.sg_serial.specs.Runs.{nth_mark}
use Rattle.sg_core.specs.Live.{Txn, is_live, marks_of}
use Rattle.sg_space.specs.declared.space.SpaceFault.{SpaceFault}
use Rattle.sg_space.specs.declared.space.SpaceFault.TheVariants as spaces
use Rattle.sg_run.specs.Numbers.{NEW_WORK_END}
use Rattle.sg_store.specs.declared.fault.MarkRefused.TheVariants as marks
use Rattle.sg_store.specs.declared.fault.Refused.{Refused}
use Rattle.sg_store.specs.declared.fault.Refused.TheVariants as refusals
use Rattle.sg_store.specs.Ground.{Ground}
use Rattle.sg_store.specs.Engine.{Sizes, Shown, IsDiskFault}
use Rattle.sg_store.specs.Refusals.{said_lock}
use Rattle.sg_store.specs.Stops.{refused_at, stop_at}
use Rattle.sg_store.specs.Store.{Core}
use Rattle.sg_store.specs.Causes.{AsksNothing, BreaksFor, FlushesFor, ChecksFor, ClosesFor, EndsFor, RollsFor, OnlyHolds, HoldsFor, LacksPages, RoomsFor, FailsFor, ActsFor, RefusesFor, DoesFor, UnlistedFor}
use Rattle.sg_store.proofs.Ending.{IsNear}
use Rattle.sg_store.proofs.Heeding.{risen_on}
use Rattle.sg_store.proofs.Holding.{busy_holder}
use Rattle.sg_store.proofs.Holders.{all_hold, holder_is}

pub none_of : (s : Option Stop) → is_some s ≡ false → s ≡ None
none_of None h = refl
none_of (Some y) h = absurd (cc)

risen_from : (a b c d : ℕ) → a ≤ b → HasRisen b c → c ≡ d → HasRisen a d
risen_from a b c d le h e = λ small. let k : b < c = h (subst (λ z. z + 1 < 2 ^ 64) (sym e) small) in omega (arith, le, k, e)

-- a call whose engine failed asked it something
pub not_early : (P : Type 0) (f : SpaceFault) (r : Refused) → r ≡ refused_at f → AsksNothing r → P
not_early P f r e asks = go f (subst AsksNothing e asks)
  where
    go : (f : SpaceFault) → AsksNothing (refused_at f) → P
    go spaces.Disk h = absurd h
    go spaces.LogEnd h = absurd h

module _ {basis : Sizes → Ground} (old new : Shown basis) (k m : Core) where
  pub breaks : m ≡ record k { stopped = Some stops.Disk } → HasRisen old.faults new.faults → BreaksFor old new k m
  breaks is risen = (risen, is ∙ ap (λ hs. record k { held = hs; stopped = Some stops.Disk }) (sym (ap (λ (c : Core). c.held) is)))

  pub flushes_failed : (f : SpaceFault) (r : Refused) → r ≡ refused_at f → m ≡ record k { stopped = Some (stop_at f) } → k.stopped ≡ None → (IsDiskFault f → HasRisen old.faults new.faults) → IsDiskFault f → FlushesFor old new k m (Err r)
  flushes_failed spaces.Disk r e is none risen disk = subst (λ z. FlushesFor old new k m (Err z)) (sym e) (none, breaks is (risen tt))
  flushes_failed spaces.LogEnd r e is none risen disk = absurd disk

  pub checks_failed : (f : SpaceFault) (r : Refused) → r ≡ refused_at f → m ≡ record k { stopped = Some (stop_at f) } → k.stopped ≡ None → (IsDiskFault f → HasRisen old.faults new.faults) → IsNear old.tail f → ChecksFor old new k m (Err r)
  checks_failed spaces.Disk r e is none risen near = subst (λ z. ChecksFor old new k m (Err z)) (sym e) (none, breaks is (risen tt))
  checks_failed spaces.LogEnd r e is none risen near = subst (λ z. ChecksFor old new k m (Err z)) (sym e) (none, near, is)

  pub ends_failed : (u : ℕ) → is_live k.live u ≡ true → (f : SpaceFault) (r : Refused) → r ≡ refused_at f → m ≡ record k { stopped = Some (stop_at f) } → k.stopped ≡ None → (IsDiskFault f → HasRisen old.faults new.faults) → IsNear new.tail f → EndsFor u old new k m (Err r)
  ends_failed u live spaces.Disk r e is none risen near = subst (λ z. EndsFor u old new k m (Err z)) (sym e) (none, live, breaks is (risen tt))
  ends_failed u live spaces.LogEnd r e is none risen near = subst (λ z. EndsFor u old new k m (Err z)) (sym e) (none, live, near, is)

  pub rolls_failed : (u mark : ℕ) → is_live k.live u ≡ true → IsSome (nth_mark mark (marks_of k.live u)) → (f : SpaceFault) (r : Refused) → r ≡ refused_at f → (txns : List Txn) → m ≡ record k { live = txns; stopped = Some (stop_at f) } → k.stopped ≡ None
      → (IsDiskFault f → HasRisen old.faults new.faults) → IsNear new.tail f → RollsFor u mark old new k m (Err (marks.Store r))
  rolls_failed u mark live some spaces.Disk r e txns is none risen near = subst (λ z. RollsFor u mark old new k m (Err (marks.Store z))) (sym e)
      (none, live, some, risen tt, is ∙ ap (λ ls. record k { live = ls; stopped = Some stops.Disk }) (sym (ap (λ (c : Core). c.live) is)))
  rolls_failed u mark live some spaces.LogEnd r e txns is none risen near = subst (λ z. RollsFor u mark old new k m (Err (marks.Store z))) (sym e)
      (none, live, some, near, is ∙ ap (λ ls. record k { live = ls; stopped = Some stops.LogEnd }) (sym (ap (λ (c : Core). c.live) is)))

  pub holds_failed : (u : ℕ) (f : SpaceFault) (r : Refused) → r ≡ refused_at f → m ≡ record k { stopped = Some (stop_at f) } → (IsDiskFault f → HasRisen old.faults new.faults) → IsDiskFault f → HoldsFor u old new k m (Err r)
  holds_failed u spaces.Disk r e is risen disk = subst (λ z. HoldsFor u old new k m (Err z)) (sym e) (breaks is (risen tt))
  holds_failed u spaces.LogEnd r e is risen disk = absurd disk

  pub rooms_failed : (changes : Bool) (f : SpaceFault) (r : Refused) → r ≡ refused_at f → m ≡ record k { stopped = Some (stop_at f) } → (IsDiskFault f → HasRisen old.faults new.faults) → IsDiskFault f → RoomsFor changes old new k m (Err r)
  rooms_failed changes spaces.Disk r e is risen disk = subst (λ z. RoomsFor changes old new k m (Err z)) (sym e) (breaks is (risen tt))
  rooms_failed changes spaces.LogEnd r e is risen disk = absurd disk

  pub acts_failed : (f : SpaceFault) (r : Refused) → r ≡ refused_at f → m ≡ record k { stopped = Some (stop_at f) } → (IsDiskFault f → HasRisen old.faults new.faults) → (r ≡ refusals.LogEnd → ⊥) → FailsFor old new k m r
  acts_failed spaces.Disk r e is risen never = subst (λ z. FailsFor old new k m z) (sym e) (breaks is (risen tt))
  acts_failed spaces.LogEnd r e is risen never = absurd (never e)

  -- a grant, where each holder is live
  pub granted_for : (u : ℕ) (asked : List (Touch Resource)) → all_hold (is_live k.live) k.held ≡ true → m ≡ record k { held = locks_after u asked k.held } → (result : Result (Unit {0}) Refused) → result ≡ said_lock (lock_answer u asked k.held) → HoldsFor u old new k m result
  granted_for u asked live is result e = subst (HoldsFor u old new k m) (sym e) (go (lock_answer u asked k.held) refl)
    where
      go : (a : LockAnswer) → a ≡ lock_answer u asked k.held → HoldsFor u old new k m (said_lock a)
      go Granted f = is ∙ ap (λ hs. record k { held = hs }) (sym (ap (λ (c : Core). c.held) is))
      go (Busy holder) f = (holder_is (is_live k.live) u asked k.held holder.0 live (busy_holder holder (first_holder conflict u asked k.held) (length (hold_all same_resource u asked k.held)) f), is ∙ ap (λ (a : LockAnswer). record k { held = held_after a u asked k.held }) (sym f))
      go LocksFull f = is ∙ ap (λ (a : LockAnswer). record k { held = held_after a u asked k.held }) (sym f)

  -- AN OPERATION that wasn't granted what it touches
  module _ (u : ℕ) (none : k.stopped ≡ None) (live : is_live k.live u ≡ true) where
    pub unheld_does : (changes : Bool) (why : Refused) → HoldsFor u old new k m (Err why) → RefusesFor changes u old new k m why
    unheld_does changes (refusals.Busy holder) h = (none, live, h.0, h.1)
    unheld_does changes refusals.LocksFull h = (none, live, h)
    unheld_does changes refusals.DiskFault h = (none, live, h)
    unheld_does changes refusals.NoTxn h = absurd h
    unheld_does changes refusals.TooManyLive h = absurd h
    unheld_does changes (refusals.Model reason) h = absurd h
    unheld_does changes (refusals.NoSpace f r n) h = absurd h
    unheld_does changes (refusals.NoBands f n) h = absurd h
    unheld_does changes refusals.LogEnd h = absurd h
    unheld_does changes refusals.Memory h = absurd h
    unheld_does changes refusals.Stopped h = absurd h

    pub unheld_lists : (why : Refused) → HoldsFor u old new k m (Err why) → UnlistedFor u old new k m why
    unheld_lists (refusals.Busy holder) h = (none, live, h.0, h.1)
    unheld_lists refusals.LocksFull h = (none, live, h)
    unheld_lists refusals.DiskFault h = (none, live, h)
    unheld_lists refusals.NoTxn h = absurd h
    unheld_lists refusals.TooManyLive h = absurd h
    unheld_lists (refusals.Model reason) h = absurd h
    unheld_lists (refusals.NoSpace f r n) h = absurd h
    unheld_lists (refusals.NoBands f n) h = absurd h
    unheld_lists refusals.LogEnd h = absurd h
    unheld_lists refusals.Memory h = absurd h
    unheld_lists refusals.Stopped h = absurd h

    -- it asked the engine
    pub unheld_asks : (P : Type 0) (why : Refused) → HoldsFor u old new k m (Err why) → AsksNothing why → P
    unheld_asks P (refusals.Busy holder) h asks = absurd asks
    unheld_asks P refusals.LocksFull h asks = absurd asks
    unheld_asks P refusals.DiskFault h asks = absurd asks
    unheld_asks P refusals.NoTxn h asks = absurd h
    unheld_asks P refusals.TooManyLive h asks = absurd h
    unheld_asks P (refusals.Model reason) h asks = absurd asks
    unheld_asks P (refusals.NoSpace f r n) h asks = absurd asks
    unheld_asks P (refusals.NoBands f n) h asks = absurd asks
    unheld_asks P refusals.LogEnd h asks = absurd asks
    unheld_asks P refusals.Memory h asks = absurd asks
    unheld_asks P refusals.Stopped h asks = absurd h

-- WHAT COMES BEHIND A GRANT, by which only what is held has changed
module _ {basis : Sizes → Ground} (old mid new : Shown basis) (k m1 m : Core) (u : ℕ) (none : k.stopped ≡ None) (live : is_live k.live u ≡ true) (only : OnlyHolds k m1) (later : old.faults ≤ mid.faults) where
  pub still_only : m ≡ m1 → OnlyHolds k m
  still_only e = subst (OnlyHolds k) (sym e) only

  pub broke_on : BreaksFor mid new m1 m → BreaksFor old new k m
  broke_on h = (risen_from old.faults mid.faults new.faults new.faults later h.0 refl, h.1 ∙ ap (λ (c : Core). record c { held = m.held; stopped = Some stops.Disk }) only)

  lacks_on : (free reserved need : ℕ) → LacksPages new m1 free reserved need → LacksPages new k free reserved need
  lacks_on free reserved need h = (h.0, h.1, h.2, h.3 ∙ ap (λ (c : Core). sum_by (λ (x : Txn). x.reserved) c.live) only)

  pub unroomed_does : (changes : Bool) → mid.tail ≡ old.tail → (why : Refused) → RoomsFor changes mid new m1 m (Err why) → RefusesFor changes u old new k m why
  unroomed_does changes tail (refusals.Model reason) h = (none, live, still_only h)
  unroomed_does changes tail (refusals.NoSpace f r n) h = (none, live, lacks_on f r n h.0, still_only h.1)
  unroomed_does changes tail (refusals.NoBands f n) h = (none, live, h.0, still_only h.1)
  unroomed_does changes tail refusals.LogEnd h = (none, live, h.0, subst (λ z. NEW_WORK_END < z) tail h.1, still_only h.2)
  unroomed_does changes tail refusals.DiskFault h = (none, live, broke_on h)
  unroomed_does changes tail refusals.NoTxn h = absurd h
  unroomed_does changes tail refusals.TooManyLive h = absurd h
  unroomed_does changes tail (refusals.Busy holder) h = absurd h
  unroomed_does changes tail refusals.LocksFull h = absurd h
  unroomed_does changes tail refusals.Memory h = absurd h
  unroomed_does changes tail refusals.Stopped h = absurd h

  pub unroomed_asks : (P : Type 0) (changes : Bool) (why : Refused) → RoomsFor changes mid new m1 m (Err why) → AsksNothing why → P
  unroomed_asks P changes (refusals.Model reason) h asks = absurd asks
  unroomed_asks P changes (refusals.NoSpace f r n) h asks = absurd asks
  unroomed_asks P changes (refusals.NoBands f n) h asks = absurd asks
  unroomed_asks P changes refusals.LogEnd h asks = absurd asks
  unroomed_asks P changes refusals.DiskFault h asks = absurd asks
  unroomed_asks P changes refusals.NoTxn h asks = absurd h
  unroomed_asks P changes refusals.TooManyLive h asks = absurd h
  unroomed_asks P changes (refusals.Busy holder) h asks = absurd asks
  unroomed_asks P changes refusals.LocksFull h asks = absurd asks
  unroomed_asks P changes refusals.Memory h asks = absurd asks
  unroomed_asks P changes refusals.Stopped h asks = absurd h

  pub acted_does : {A : Type 0} (changes : Bool) → (changes ≡ true → old.tail ≤ NEW_WORK_END) → (r : Result A Refused) → ActsFor mid new m1 m r → DoesFor changes u old new k m r
  acted_does changes tested (Ok reply) h = (none, live, tested, ap (λ (c : Core). c.stopped) h.0 ∙ (ap (λ (c : Core). c.stopped) only ∙ none), h.1 ∙ ap (λ (c : Core). map (λ (x : Txn). x.transaction) c.live) only)
  acted_does changes tested (Err (refusals.Model reason)) h = (none, live, still_only h)
  acted_does changes tested (Err refusals.DiskFault) h = (none, live, broke_on h)
  acted_does changes tested (Err (refusals.NoSpace f r n)) h = absurd h
  acted_does changes tested (Err (refusals.NoBands f n)) h = absurd h
  acted_does changes tested (Err refusals.LogEnd) h = absurd h
  acted_does changes tested (Err refusals.NoTxn) h = absurd h
  acted_does changes tested (Err refusals.TooManyLive) h = absurd h
  acted_does changes tested (Err (refusals.Busy holder)) h = absurd h
  acted_does changes tested (Err refusals.LocksFull) h = absurd h
  acted_does changes tested (Err refusals.Memory) h = absurd h
  acted_does changes tested (Err refusals.Stopped) h = absurd h

  pub acted_asks : {A : Type 0} (P : Type 0) (r : Result A Refused) → ActsFor mid new m1 m r → IfErr r (λ e. AsksNothing e → P)
  acted_asks P (Ok reply) h = tt
  acted_asks P (Err (refusals.Model reason)) h = λ asks. absurd asks
  acted_asks P (Err refusals.DiskFault) h = λ asks. absurd asks
  acted_asks P (Err (refusals.NoSpace f r n)) h = absurd h
  acted_asks P (Err (refusals.NoBands f n)) h = absurd h
  acted_asks P (Err refusals.LogEnd) h = absurd h
  acted_asks P (Err refusals.NoTxn) h = absurd h
  acted_asks P (Err refusals.TooManyLive) h = absurd h
  acted_asks P (Err (refusals.Busy holder)) h = absurd h
  acted_asks P (Err refusals.LocksFull) h = absurd h
  acted_asks P (Err refusals.Memory) h = absurd h
  acted_asks P (Err refusals.Stopped) h = absurd h

  pub listed_failed : (f : SpaceFault) (r : Refused) → r ≡ refused_at f → m ≡ record m1 { stopped = Some (stop_at f) } → (IsDiskFault f → HasRisen mid.faults new.faults) → IsDiskFault f → UnlistedFor u old new k m r
  listed_failed spaces.Disk r e is risen disk = subst (λ z. UnlistedFor u old new k m z) (sym e) (none, live, broke_on (breaks mid new m1 m is (risen tt)))
  listed_failed spaces.LogEnd r e is risen disk = absurd disk

-- one that asked the engine first
pub holds_from : {basis : Sizes → Ground} (old mid new : Shown basis) (k m : Core) (u : ℕ) → old.faults ≤ mid.faults → (r : Result (Unit {0}) Refused) → HoldsFor u mid new k m r → HoldsFor u old new k m r
holds_from old mid new k m u le (Err refusals.DiskFault) h = (risen_from old.faults mid.faults new.faults new.faults le h.0 refl, h.1)
holds_from old mid new k m u le (Ok done) h = h
holds_from old mid new k m u le (Err (refusals.Busy holder)) h = h
holds_from old mid new k m u le (Err refusals.LocksFull) h = h
holds_from old mid new k m u le (Err refusals.NoTxn) h = absurd h
holds_from old mid new k m u le (Err refusals.TooManyLive) h = absurd h
holds_from old mid new k m u le (Err (refusals.Model reason)) h = absurd h
holds_from old mid new k m u le (Err (refusals.NoSpace f r n)) h = absurd h
holds_from old mid new k m u le (Err (refusals.NoBands f n)) h = absurd h
holds_from old mid new k m u le (Err refusals.LogEnd) h = absurd h
holds_from old mid new k m u le (Err refusals.Memory) h = absurd h
holds_from old mid new k m u le (Err refusals.Stopped) h = absurd h

-- a flush behind a checkpoint
module _ {basis : Sizes → Ground} (old mid new : Shown basis) (k l m : Core) (f : ChecksFor old mid k l (Ok tt)) (first : old.faults ≤ mid.faults) (then_ : mid.faults ≤ new.faults) where
  pub closes_for : (r : Result (Unit {0}) Refused) → FlushesFor mid new l m r → ClosesFor old new k m r
  closes_for (Ok done) h = (f.0, h.1 ∙ f.1)
  closes_for (Err refusals.NoTxn) h = absurd h
  closes_for (Err refusals.TooManyLive) h = absurd h
  closes_for (Err (refusals.Busy holder)) h = absurd h
  closes_for (Err refusals.LocksFull) h = absurd h
  closes_for (Err (refusals.Model reason)) h = absurd h
  closes_for (Err (refusals.NoSpace free reserved need)) h = absurd h
  closes_for (Err (refusals.NoBands free need)) h = absurd h
  closes_for (Err refusals.LogEnd) h = absurd h
  closes_for (Err refusals.Memory) h = absurd h
  closes_for (Err refusals.DiskFault) h =
      (f.0, (risen_on old.faults mid.faults new.faults new.faults first then_ (omega arith) h.1.0, h.1.1 ∙ ap (λ (c : Core). record c { held = m.held; stopped = Some stops.Disk }) f.1))
  closes_for (Err refusals.Stopped) h = (subst (λ (c : Core). IsSome c.stopped) f.1 h.0, h.1 ∙ f.1)

-- and behind one that failed there is none
pub closes_not : {basis : Sizes → Ground} (old new : Shown basis) (k m : Core) (why : Refused) → old.tail ≤ new.tail → ChecksFor old new k m (Err why) → ClosesFor old new k m (Err why)
closes_not old new k m refusals.NoTxn further h = absurd h
closes_not old new k m refusals.TooManyLive further h = absurd h
closes_not old new k m (refusals.Busy holder) further h = absurd h
closes_not old new k m refusals.LocksFull further h = absurd h
closes_not old new k m (refusals.Model reason) further h = absurd h
closes_not old new k m (refusals.NoSpace free reserved need) further h = absurd h
closes_not old new k m (refusals.NoBands free need) further h = absurd h
closes_not old new k m refusals.LogEnd further h = (let at = h.1 in (h.0, omega (arith, further, at), h.2))
closes_not old new k m refusals.Memory further h = absurd h
closes_not old new k m refusals.DiskFault further h = h
closes_not old new k m refusals.Stopped further h = h
