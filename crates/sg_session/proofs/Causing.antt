-- The cause of each line's answer, by why the store answered so.
use Rattle.std.proofs.Common.{◌≡◌, ◌⊎◌, inl, inr, ⊎_elim, ℕ, Bool, false, List, Option, Some, None, Result, refl, sym, ap, ◌∙◌, subst}
use Rattle.std.specs.Prelude.{Ok, Err, OnOk, IsSome, is_some}
use Rattle.sg_model.specs.declared.stop.Stop.{Stop}
use Rattle.sg_model.specs.declared.stop.Stop.TheVariants as stops
use Rattle.sg_model.specs.Verb.{Op}
use Rattle.sg_words.specs.Answers.{Answer}
use Rattle.sg_words.specs.Requests.Asked.{Of}
use Rattle.sg_words.specs.Requests.Request.{Begin, Commit, Abort, Do}
use Rattle.sg_words.specs.declared.marking.Marking.TheVariants as markings
use Rattle.sg_words.specs.declared.upkeep.Upkeep.TheVariants as upkeeps
use Rattle.sg_run.specs.Numbers.{IsAtEnd, IsListing}
use Rattle.sg_store.specs.declared.fault.MarkRefused.{MarkRefused}
use Rattle.sg_store.specs.declared.fault.MarkRefused.TheVariants as marks
use Rattle.sg_store.specs.declared.fault.Refused.{Refused}
use Rattle.sg_store.specs.declared.fault.Refused.TheVariants as refusals
use Rattle.sg_store.specs.Ground.{Ground}
use Rattle.sg_store.specs.Engine.{Sizes, Shown}
use Rattle.sg_store.specs.Stops.{stop_behind}
use Rattle.sg_store.specs.Heeds.{Heeds}
use Rattle.sg_store.specs.Store.{Core}
use Rattle.sg_store.specs.Causes.{AsksNoMark, BeginsFor, EndsFor, SavesFor, RollsFor, FlushesFor, ChecksFor, ClosesFor, RefusesFor, UnlistedFor}
use Rattle.sg_session.specs.Lines.{Line}
use Rattle.sg_session.specs.Lines.Line.{OfStore, OfMarks, Other}
use Rattle.sg_session.specs.Causes.{Trouble, trouble_in, trouble_of, trouble_at_mark, IsFullFor, IsCaused, stop_at_end, stop_by, Caused}
use Rattle.sg_session.specs.Causes.Trouble.{NoTrouble, OfDisk, OfLog, OfMemory}

was_stopped : (s : Option Stop) (why : Stop) → s ≡ Some why → s ≡ None → ⊥
was_stopped s why e going = cc

is_going : (s : Option Stop) → IsSome s → s ≡ None → ⊥
is_going s some going = let none : is_some s ≡ false = ap is_some going in cc

module _ {basis : Sizes → Ground} (old new : Shown basis) where
  -- the same by what went wrong
  pub record CausedBy (before now : Option Stop) (line : Line) (trouble : Trouble) : Type 0 where
    pub cause : IsCaused old.tail new.tail old.faults new.faults line trouble
    pub stop : now ≡ stop_by before line trouble

  -- what the disk itself counted
  own : (before now : Option Stop) (line : Line) (trouble : Trouble) → before ≡ None → Heeds before now old new → CausedBy before now line trouble → old.Told → IsCaused old.tail new.tail old.disk.faults new.disk.faults line trouble
  own before now line NoTrouble none h p told = tt
  own before now line OfDisk none h p told = ⊎_elim (λ was. absurd (never before none was)) (λ rose. rose told) (h.caused p.stop)
    where
      never : (s : Option Stop) → s ≡ None → s ≡ Some stops.Disk → ⊥
      never s e f = cc
  own before now line OfLog none h p told = p.cause
  own before now line OfMemory none h p told = p.cause

  pub by_trouble : (before now : Option Stop) (line : Line) (answer : Answer) (trouble : Trouble) → trouble_in answer ≡ trouble → before ≡ None → Heeds before now old new → CausedBy before now line trouble → Caused old new before now line answer
  by_trouble before now line answer trouble e none h by =
      let p = subst (CausedBy before now line) (sym e) by in
      record { cause = p.cause; own = λ told. own before now line (trouble_in answer) none h p told; stop = p.stop }

  -- nothing went wrong, and the session is stopped or not as it was
  pub well : (before now : Option Stop) (line : Line) (answer : Answer) → trouble_in answer ≡ NoTrouble → now ≡ before → Caused old new before now line answer
  well before now line answer e same =
      let none : CausedBy before now line NoTrouble = record { cause = tt; stop = same } in
      let p = subst (CausedBy before now line) (sym e) none in
      record { cause = p.cause; own = λ told. subst (λ d. IsCaused old.tail new.tail old.disk.faults new.disk.faults line d) (sym e) tt; stop = p.stop }

  -- no memory, for a list
  lacks : (before now : Option Stop) (name : List ℕ) (op : Op) → IsListing op → now ≡ before → CausedBy before now (Other (Of name (Do op))) OfMemory
  lacks before now name op is same = record { cause = is; stop = same }

  module _ (k m : Core) where
    plain : (line : Line) (n : Core) → n.stopped ≡ k.stopped → m ≡ n → CausedBy k.stopped m.stopped line NoTrouble
    plain line n same e = record { cause = tt; stop = ap (λ (c : Core). c.stopped) e ∙ same }

    full : (line : Line) (n : Core) → IsFullFor old.tail new.tail line → n.stopped ≡ stop_at_end k.stopped line → m ≡ n → CausedBy k.stopped m.stopped line OfLog
    full line n is same e = record { cause = is; stop = ap (λ (c : Core). c.stopped) e ∙ same }

    broken : (line : Line) (n : Core) → IsCaused old.tail new.tail old.faults new.faults line OfDisk → n.stopped ≡ Some stops.Disk → m ≡ n → CausedBy k.stopped m.stopped line OfDisk
    broken line n risen same e = record { cause = risen; stop = ap (λ (c : Core). c.stopped) e ∙ same }

    pub begin_refused : (name : List ℕ) (why : Refused) → BeginsFor old new k m (Err why) → CausedBy k.stopped m.stopped (Other (Of name Begin)) (trouble_of why)
    begin_refused name refusals.NoTxn h = absurd h
    begin_refused name refusals.TooManyLive h = plain (Other (Of name Begin)) k refl h.2
    begin_refused name (refusals.Busy holder) h = absurd h
    begin_refused name refusals.LocksFull h = absurd h
    begin_refused name (refusals.Model reason) h = absurd h
    begin_refused name (refusals.NoSpace free reserved need) h = absurd h
    begin_refused name (refusals.NoBands free need) h = absurd h
    begin_refused name refusals.LogEnd h = full (Other (Of name Begin)) k h.2 refl h.3
    begin_refused name refusals.Memory h = absurd h
    begin_refused name refusals.DiskFault h = broken (Other (Of name Begin)) (record k { held = m.held; stopped = Some stops.Disk }) h.3.0 refl h.3.1
    begin_refused name refusals.Stopped h = plain (Other (Of name Begin)) k refl h.1

    -- a line that ends a transaction
    end_refused : (line : Line) → (IsAtEnd new.tail → IsFullFor old.tail new.tail line) → Some stops.LogEnd ≡ stop_at_end k.stopped line → (u : ℕ) (why : Refused) → EndsFor u old new k m (Err why) → CausedBy k.stopped m.stopped line (trouble_of why)
    end_refused line at_end stops_so u refusals.NoTxn h = plain line k refl h.2
    end_refused line at_end stops_so u refusals.TooManyLive h = absurd h
    end_refused line at_end stops_so u (refusals.Busy holder) h = absurd h
    end_refused line at_end stops_so u refusals.LocksFull h = absurd h
    end_refused line at_end stops_so u (refusals.Model reason) h = absurd h
    end_refused line at_end stops_so u (refusals.NoSpace free reserved need) h = absurd h
    end_refused line at_end stops_so u (refusals.NoBands free need) h = absurd h
    end_refused line at_end stops_so u refusals.LogEnd h = full line (record k { stopped = Some stops.LogEnd }) (at_end h.2) stops_so h.3
    end_refused line at_end stops_so u refusals.Memory h = absurd h
    end_refused line at_end stops_so u refusals.DiskFault h = broken line (record k { held = m.held; stopped = Some stops.Disk }) h.2.0 refl h.2.1
    end_refused line at_end stops_so u refusals.Stopped h = plain line k refl h.1

    pub commit_refused : (name : List ℕ) (u : ℕ) (why : Refused) → EndsFor u old new k m (Err why) → CausedBy k.stopped m.stopped (Other (Of name Commit)) (trouble_of why)
    commit_refused name u why h = end_refused (Other (Of name Commit)) (λ at_end. at_end) refl u why h

    pub abort_refused : (name : List ℕ) (u : ℕ) (why : Refused) → EndsFor u old new k m (Err why) → CausedBy k.stopped m.stopped (Other (Of name Abort)) (trouble_of why)
    abort_refused name u why h = end_refused (Other (Of name Abort)) (λ at_end. at_end) refl u why h

    -- a line that flushes, or cuts the log
    rests_refused : (line : Line) (why : Refused) → FlushesFor old new k m (Err why) → CausedBy k.stopped m.stopped line (trouble_of why)
    rests_refused line refusals.NoTxn h = absurd h
    rests_refused line refusals.TooManyLive h = absurd h
    rests_refused line (refusals.Busy holder) h = absurd h
    rests_refused line refusals.LocksFull h = absurd h
    rests_refused line (refusals.Model reason) h = absurd h
    rests_refused line (refusals.NoSpace free reserved need) h = absurd h
    rests_refused line (refusals.NoBands free need) h = absurd h
    rests_refused line refusals.LogEnd h = absurd h
    rests_refused line refusals.Memory h = absurd h
    rests_refused line refusals.DiskFault h = broken line (record k { held = m.held; stopped = Some stops.Disk }) h.1.0 refl h.1.1
    rests_refused line refusals.Stopped h = plain line k refl h.1

    pub flush_refused : (why : Refused) → FlushesFor old new k m (Err why) → CausedBy k.stopped m.stopped (OfStore upkeeps.Flush) (trouble_of why)
    flush_refused why h = rests_refused (OfStore upkeeps.Flush) why h

    pub truncate_refused : (why : Refused) → FlushesFor old new k m (Err why) → CausedBy k.stopped m.stopped (OfStore upkeeps.Truncate) (trouble_of why)
    truncate_refused why h = rests_refused (OfStore upkeeps.Truncate) why h

    pub checkpoint_refused : (why : Refused) → ChecksFor old new k m (Err why) → CausedBy k.stopped m.stopped (OfStore upkeeps.Checkpoint) (trouble_of why)
    checkpoint_refused refusals.NoTxn h = absurd h
    checkpoint_refused refusals.TooManyLive h = absurd h
    checkpoint_refused (refusals.Busy holder) h = absurd h
    checkpoint_refused refusals.LocksFull h = absurd h
    checkpoint_refused (refusals.Model reason) h = absurd h
    checkpoint_refused (refusals.NoSpace free reserved need) h = absurd h
    checkpoint_refused (refusals.NoBands free need) h = absurd h
    checkpoint_refused refusals.LogEnd h = full (OfStore upkeeps.Checkpoint) (record k { stopped = Some stops.LogEnd }) h.1 refl h.2
    checkpoint_refused refusals.Memory h = absurd h
    checkpoint_refused refusals.DiskFault h = broken (OfStore upkeeps.Checkpoint) (record k { held = m.held; stopped = Some stops.Disk }) h.1.0 refl h.1.1
    checkpoint_refused refusals.Stopped h = plain (OfStore upkeeps.Checkpoint) k refl h.1

    -- a flush, a truncation and a checkpoint that fail leave a store that has stopped
    pub flush_stops : (why : Refused) → FlushesFor old new k m (Err why) → m.stopped ≡ None → ⊥
    flush_stops refusals.NoTxn h going = absurd h
    flush_stops refusals.TooManyLive h going = absurd h
    flush_stops (refusals.Busy holder) h going = absurd h
    flush_stops refusals.LocksFull h going = absurd h
    flush_stops (refusals.Model reason) h going = absurd h
    flush_stops (refusals.NoSpace free reserved need) h going = absurd h
    flush_stops (refusals.NoBands free need) h going = absurd h
    flush_stops refusals.LogEnd h going = absurd h
    flush_stops refusals.Memory h going = absurd h
    flush_stops refusals.DiskFault h going = was_stopped m.stopped stops.Disk (ap (λ (c : Core). c.stopped) h.1.1) going
    flush_stops refusals.Stopped h going = is_going k.stopped h.0 (sym (ap (λ (c : Core). c.stopped) h.1) ∙ going)

    pub checkpoint_stops : (why : Refused) → ChecksFor old new k m (Err why) → m.stopped ≡ None → ⊥
    checkpoint_stops refusals.NoTxn h going = absurd h
    checkpoint_stops refusals.TooManyLive h going = absurd h
    checkpoint_stops (refusals.Busy holder) h going = absurd h
    checkpoint_stops refusals.LocksFull h going = absurd h
    checkpoint_stops (refusals.Model reason) h going = absurd h
    checkpoint_stops (refusals.NoSpace free reserved need) h going = absurd h
    checkpoint_stops (refusals.NoBands free need) h going = absurd h
    checkpoint_stops refusals.LogEnd h going = was_stopped m.stopped stops.LogEnd (ap (λ (c : Core). c.stopped) h.2) going
    checkpoint_stops refusals.Memory h going = absurd h
    checkpoint_stops refusals.DiskFault h going = was_stopped m.stopped stops.Disk (ap (λ (c : Core). c.stopped) h.1.1) going
    checkpoint_stops refusals.Stopped h going = is_going k.stopped h.0 (sym (ap (λ (c : Core). c.stopped) h.1) ∙ going)

    -- a line of a mark, and of a way back to one
    pub save_refused : (name : List ℕ) (u : ℕ) (why : MarkRefused) → SavesFor u old new k m (Err why) → CausedBy k.stopped m.stopped (OfMarks name markings.Save) (trouble_at_mark why)
    save_refused name u marks.NoMark h = absurd h
    save_refused name u marks.MarksFull h = plain (OfMarks name markings.Save) k refl h.3
    save_refused name u (marks.Store refusals.NoTxn) h = plain (OfMarks name markings.Save) k refl h.2
    save_refused name u (marks.Store refusals.TooManyLive) h = absurd h
    save_refused name u (marks.Store (refusals.Busy holder)) h = absurd h
    save_refused name u (marks.Store refusals.LocksFull) h = absurd h
    save_refused name u (marks.Store (refusals.Model reason)) h = absurd h
    save_refused name u (marks.Store (refusals.NoSpace free reserved need)) h = absurd h
    save_refused name u (marks.Store (refusals.NoBands free need)) h = absurd h
    save_refused name u (marks.Store refusals.LogEnd) h = full (OfMarks name markings.Save) k h.3 refl h.4
    save_refused name u (marks.Store refusals.Memory) h = absurd h
    save_refused name u (marks.Store refusals.DiskFault) h = broken (OfMarks name markings.Save) (record k { held = m.held; stopped = Some stops.Disk }) h.4.0 refl h.4.1
    save_refused name u (marks.Store refusals.Stopped) h = plain (OfMarks name markings.Save) k refl h.1

    pub back_refused : (name : List ℕ) (mark u : ℕ) (why : MarkRefused) → RollsFor u mark old new k m (Err why) → CausedBy k.stopped m.stopped (OfMarks name (markings.Back mark)) (trouble_at_mark why)
    back_refused name mark u marks.NoMark h = plain (OfMarks name (markings.Back mark)) k refl h.3
    back_refused name mark u marks.MarksFull h = absurd h
    back_refused name mark u (marks.Store refusals.NoTxn) h = plain (OfMarks name (markings.Back mark)) k refl h.2
    back_refused name mark u (marks.Store refusals.TooManyLive) h = absurd h
    back_refused name mark u (marks.Store (refusals.Busy holder)) h = absurd h
    back_refused name mark u (marks.Store refusals.LocksFull) h = absurd h
    back_refused name mark u (marks.Store (refusals.Model reason)) h = absurd h
    back_refused name mark u (marks.Store (refusals.NoSpace free reserved need)) h = absurd h
    back_refused name mark u (marks.Store (refusals.NoBands free need)) h = absurd h
    back_refused name mark u (marks.Store refusals.LogEnd) h = full (OfMarks name (markings.Back mark)) (record k { live = m.live; stopped = Some stops.LogEnd }) h.3 refl h.4
    back_refused name mark u (marks.Store refusals.Memory) h = absurd h
    back_refused name mark u (marks.Store refusals.DiskFault) h = broken (OfMarks name (markings.Back mark)) (record k { live = m.live; stopped = Some stops.Disk }) h.3 refl h.4
    back_refused name mark u (marks.Store refusals.Stopped) h = plain (OfMarks name (markings.Back mark)) k refl h.1

    -- a way back that is refused and doesn't stop the store asks nothing of the engine
    pub back_stops : (mark u : ℕ) (why : MarkRefused) → RollsFor u mark old new k m (Err why) → m.stopped ≡ None → AsksNoMark why
    back_stops mark u marks.NoMark h going = tt
    back_stops mark u marks.MarksFull h going = tt
    back_stops mark u (marks.Store refusals.NoTxn) h going = tt
    back_stops mark u (marks.Store refusals.TooManyLive) h going = tt
    back_stops mark u (marks.Store (refusals.Busy holder)) h going = absurd h
    back_stops mark u (marks.Store refusals.LocksFull) h going = absurd h
    back_stops mark u (marks.Store (refusals.Model reason)) h going = absurd h
    back_stops mark u (marks.Store (refusals.NoSpace free reserved need)) h going = absurd h
    back_stops mark u (marks.Store (refusals.NoBands free need)) h going = absurd h
    back_stops mark u (marks.Store refusals.LogEnd) h going = absurd (was_stopped m.stopped stops.LogEnd (ap (λ (c : Core). c.stopped) h.4) going)
    back_stops mark u (marks.Store refusals.Memory) h going = absurd h
    back_stops mark u (marks.Store refusals.DiskFault) h going = absurd (was_stopped m.stopped stops.Disk (ap (λ (c : Core). c.stopped) h.4) going)
    back_stops mark u (marks.Store refusals.Stopped) h going = tt

    -- a line of an operation
    pub do_refused : (name : List ℕ) (op : Op) (changes : Bool) (u : ℕ) (why : Refused) → RefusesFor changes u old new k m why → CausedBy k.stopped m.stopped (Other (Of name (Do op))) (trouble_of why)
    do_refused name op changes u refusals.NoTxn h = plain (Other (Of name (Do op))) k refl h.2
    do_refused name op changes u refusals.TooManyLive h = absurd h
    do_refused name op changes u (refusals.Busy holder) h = plain (Other (Of name (Do op))) k refl h.3
    do_refused name op changes u refusals.LocksFull h = plain (Other (Of name (Do op))) k refl h.2
    do_refused name op changes u (refusals.Model reason) h = plain (Other (Of name (Do op))) (record k { held = m.held }) refl h.2
    do_refused name op changes u (refusals.NoSpace free reserved need) h = plain (Other (Of name (Do op))) (record k { held = m.held }) refl h.3
    do_refused name op changes u (refusals.NoBands free need) h = plain (Other (Of name (Do op))) (record k { held = m.held }) refl h.3
    do_refused name op changes u refusals.LogEnd h = full (Other (Of name (Do op))) (record k { held = m.held }) h.3 refl h.4
    do_refused name op changes u refusals.Memory h = absurd h
    do_refused name op changes u refusals.DiskFault h = broken (Other (Of name (Do op))) (record k { held = m.held; stopped = Some stops.Disk }) h.2.0 refl h.2.1
    do_refused name op changes u refusals.Stopped h = plain (Other (Of name (Do op))) k refl h.1

    -- a line of a list
    pub list_refused : (name : List ℕ) (op : Op) → IsListing op → (u : ℕ) (why : Refused) → UnlistedFor u old new k m why → CausedBy k.stopped m.stopped (Other (Of name (Do op))) (trouble_of why)
    list_refused name op is u refusals.NoTxn h = plain (Other (Of name (Do op))) k refl h.2
    list_refused name op is u refusals.TooManyLive h = absurd h
    list_refused name op is u (refusals.Busy holder) h = plain (Other (Of name (Do op))) k refl h.3
    list_refused name op is u refusals.LocksFull h = plain (Other (Of name (Do op))) k refl h.2
    list_refused name op is u (refusals.Model reason) h = plain (Other (Of name (Do op))) (record k { held = m.held }) refl h.2
    list_refused name op is u (refusals.NoSpace free reserved need) h = absurd h
    list_refused name op is u (refusals.NoBands free need) h = absurd h
    list_refused name op is u refusals.LogEnd h = absurd h
    list_refused name op is u refusals.Memory h = lacks k.stopped m.stopped name op is (ap (λ (c : Core). c.stopped) h.2)
    list_refused name op is u refusals.DiskFault h = broken (Other (Of name (Do op))) (record k { held = m.held; stopped = Some stops.Disk }) h.2.0 refl h.2.1
    list_refused name op is u refusals.Stopped h = plain (Other (Of name (Do op))) k refl h.1

  -- of the line that a text is
  pub at_line : (before now : Option Stop) (line other : Line) (answer : Answer) → line ≡ other → Caused old new before now line answer → Caused old new before now other answer
  at_line before now line other answer e h = subst (λ (l : Line). Caused old new before now l answer) e h

  -- an abort that fails stops the store for the log's end only there
  pub abort_full : (k m : Core) (u : ℕ) (why : Refused) → k.stopped ≡ None → EndsFor u old new k m (Err why) → m.stopped ≡ Some stops.LogEnd → IsAtEnd new.tail
  abort_full k m u refusals.NoTxn going h e = absurd (other (sym (sym (ap (λ (c : Core). c.stopped) h.2 ∙ going) ∙ e)))
    where
      other : Some stops.LogEnd ≡ None → ⊥
      other e = cc
  abort_full k m u refusals.TooManyLive going h e = absurd h
  abort_full k m u (refusals.Busy holder) going h e = absurd h
  abort_full k m u refusals.LocksFull going h e = absurd h
  abort_full k m u (refusals.Model reason) going h e = absurd h
  abort_full k m u (refusals.NoSpace free reserved need) going h e = absurd h
  abort_full k m u (refusals.NoBands free need) going h e = absurd h
  abort_full k m u refusals.LogEnd going h e = h.2
  abort_full k m u refusals.Memory going h e = absurd h
  abort_full k m u refusals.DiskFault going h e = absurd (other (sym (ap (λ (c : Core). c.stopped) h.2.1) ∙ e))
    where
      other : Some stops.Disk ≡ Some stops.LogEnd → ⊥
      other e = cc
  abort_full k m u refusals.Stopped going h e = absurd (other (sym (sym (ap (λ (c : Core). c.stopped) h.1 ∙ going) ∙ e)))
    where
      other : Some stops.LogEnd ≡ None → ⊥
      other e = cc

-- a store that is closed stops for the log's end only there
pub close_full : {basis : Sizes → Ground} (old new : Shown basis) (k m : Core) (done : Result (Unit {0}) Refused) → ClosesFor old new k m done → stop_behind k.stopped done ≡ Some stops.LogEnd → (k.stopped ≡ Some stops.LogEnd) ⊎ IsAtEnd new.tail
close_full old new k m (Ok done) h e = inl e
close_full old new k m (Err refusals.NoTxn) h e = absurd h
close_full old new k m (Err refusals.TooManyLive) h e = absurd h
close_full old new k m (Err (refusals.Busy holder)) h e = absurd h
close_full old new k m (Err refusals.LocksFull) h e = absurd h
close_full old new k m (Err (refusals.Model reason)) h e = absurd h
close_full old new k m (Err (refusals.NoSpace free reserved need)) h e = absurd h
close_full old new k m (Err (refusals.NoBands free need)) h e = absurd h
close_full old new k m (Err refusals.LogEnd) h e = inr h.1
close_full old new k m (Err refusals.Memory) h e = absurd h
close_full old new k m (Err refusals.DiskFault) h e = absurd (other e)
  where
    other : Some stops.Disk ≡ Some stops.LogEnd → ⊥
    other e = cc
close_full old new k m (Err refusals.Stopped) h e = inl e

-- one that hasn't stopped was closed well
pub close_well : {basis : Sizes → Ground} (old new : Shown basis) (k m : Core) (done : Result (Unit {0}) Refused) {P : Type 0} → ClosesFor old new k m done → stop_behind k.stopped done ≡ None → OnOk done P → P
close_well old new k m (Ok done) h going is = is
close_well old new k m (Err refusals.NoTxn) h going is = absurd h
close_well old new k m (Err refusals.TooManyLive) h going is = absurd h
close_well old new k m (Err (refusals.Busy holder)) h going is = absurd h
close_well old new k m (Err refusals.LocksFull) h going is = absurd h
close_well old new k m (Err (refusals.Model reason)) h going is = absurd h
close_well old new k m (Err (refusals.NoSpace free reserved need)) h going is = absurd h
close_well old new k m (Err (refusals.NoBands free need)) h going is = absurd h
close_well old new k m (Err refusals.LogEnd) h going is = absurd (was_stopped (Some stops.LogEnd) stops.LogEnd refl going)
close_well old new k m (Err refusals.Memory) h going is = absurd h
close_well old new k m (Err refusals.DiskFault) h going is = absurd (was_stopped (Some stops.Disk) stops.Disk refl going)
close_well old new k m (Err refusals.Stopped) h going is = absurd (is_going k.stopped h.0 going)
