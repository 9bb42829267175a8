-- What holds of every run of transactions: it is serial, and an abort leaves out what the transaction did.
use Rattle.std.specs.Prelude.{◌≡◌, ℕ, true, false, not, ◌&&◌, nat_le, List, None}
use Rattle.std.specs.List.{filter}
use Rattle.sg_serial.specs.Machine.{run, Replays}
use Rattle.sg_serial.specs.Locks.{AreOnce}
use Rattle.sg_serial.specs.Runs.{is_live, in_order, is_own, open_entries}
use Rattle.sg_serial.specs.Runs as runs
use Rattle.sg_ops.specs.Table.{Table as Operations}
use Rattle.sg_model.specs.Objects.{Objects}
use Rattle.sg_model.specs.Step.{step}
use Rattle.sg_model.specs.Touches.{touches, covers, same_resource}
use Rattle.sg_words.specs.Answers.{Answer}
use Rattle.sg_run.specs.Run.{Run, start, Lines, live_objects, committed_objects, aborted, rolled_back, committed}

-- What each line keeps, unless the store stops: what the live transactions have done stands behind the committed ones by
-- what they hold, and each pair of a transaction and a resource is held once
pub record IsSound (t : Operations) (x : Run) : Type 0 where
  pub serial : runs.IsSerial (step t) touches covers x.so_far
  pub once : AreOnce same_resource x.so_far.held

-- What a run is that hasn't stopped
pub record IsSerial (t : Operations) (x : Run) : Type 0 where
  -- each entry of a committed transaction got the reply or the reason that it gets where the committed transactions run
  -- one whole transaction after another, in the order of their commits
  pub replies : Replays (step t) x.so_far.first (in_order x.so_far.commits)
  -- the objects are those of the committed transactions with the entries of the live ones after them
  pub objects : live_objects t x ≡ run (step t) (committed_objects t x) (open_entries x.so_far)
  -- and each entry of a live one gets there what it got
  pub open_replies : Replays (step t) (committed_objects t x) (open_entries x.so_far)
  -- with no transaction live the objects are those of the committed ones
  pub alone : ((u : ℕ) → is_live x.so_far.live u ≡ false) → live_objects t x ≡ committed_objects t x
  -- an abort leaves what the entries of the other live transactions make of the committed objects
  pub leaves_out : (u : ℕ) → is_live x.so_far.live u ≡ true → live_objects t (aborted x u) ≡ run (step t) (committed_objects t x) (filter (λ e. not (is_own u e)) (open_entries x.so_far))
  -- going back to a mark leaves what the open entries but for the transaction's own from its time on make of the committed objects
  pub goes_back : (u time mark : ℕ) → is_live x.so_far.live u ≡ true
      → live_objects t (rolled_back x u time mark) ≡ run (step t) (committed_objects t x) (filter (λ e. not (is_own u e && nat_le time e.time)) (open_entries x.so_far))
  -- a commit makes the committed objects what its transaction's entries make of them
  pub adds : (u : ℕ) → is_live x.so_far.live u ≡ true → committed_objects t (committed x u) ≡ run (step t) (committed_objects t x) (filter (is_own u) (open_entries x.so_far))
  -- each pair of a transaction and a resource is held once, so that the length of what is held is the number of pairs
  pub pairs : AreOnce same_resource x.so_far.held

-- every list of lines leads to such a run, from any objects and with any operations, unless the store has stopped
abbrev pub RunsAreSerial : Type 0
RunsAreSerial = (t : Operations) (first : Objects) (lines : List (List ℕ)) (answers : List Answer) (x : Run) → Lines t (start first) lines answers x → x.stopped ≡ None → IsSerial t x
