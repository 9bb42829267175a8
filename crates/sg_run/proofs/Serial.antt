-- Each line keeps what holds of every run, so every run is serial.
use Rattle.std.proofs.Common.{◌≡◌, ℕ, ◌≤◌, Bool, true, false, cond, List, [], ◌∷◌, length, Option, Some, None, refl, sym, ap, ◌∙◌, subst}
use Rattle.std.specs.Prelude.{◌||◌, ◌==◌, nat_lt, is_some}
use Rattle.std.specs.Option.{option_map}
use Rattle.std.specs.Str.{bytes_eq}
use Rattle.std.proofs.lemmas.Bool.{eq-eqb}
use Rattle.sg_serial.specs.Locks.{reads, writes, held_of}
use Rattle.sg_serial.specs.Runs.{Live, is_live, open_entries, IsFree}
use Rattle.sg_serial.proofs.Commute.{or_left, or_right}
use Rattle.sg_serial.proofs.Kept as kept
use Rattle.sg_serial.proofs.Kept.{same_live, Replays_of_Held, both_true}
use Rattle.sg_serial.proofs.Theorems as theorems
use Rattle.sg_serial.proofs.Free.{free_of_none}
use Rattle.sg_serial.proofs.Holder.{holder_is}
use Rattle.sg_serial.proofs.Once.{once_all, once_released}
use Rattle.sg_ops.specs.Table.{Table as Operations}
use Rattle.sg_model.specs.declared.stop.Stop.{Stop}
use Rattle.sg_model.specs.declared.stop.Stop.TheVariants as stops
use Rattle.sg_model.specs.Verb.{Op}
use Rattle.sg_model.specs.Verb.Reply.{Done}
use Rattle.sg_model.specs.Step.{step}
use Rattle.sg_model.specs.Touches.{cell, touches, covers, same_resource, conflict}
use Rattle.sg_model.specs.Laws.{CellContents}
use Rattle.sg_model.proofs.Footprint.{footprint}
use Rattle.sg_model.proofs.Meeting.{conflict_law, resource_same, resource_self}
use Rattle.sg_words.specs.Requests.{Asked, Request, asked}
use Rattle.sg_words.specs.Requests.Asked.{Blank, Wrong, Of}
use Rattle.sg_words.specs.Requests.Request.{Begin, Commit, Abort, Do}
use Rattle.sg_words.specs.Answers.{Answer}
use Rattle.sg_run.specs.Answer.{answer_of, IsSaid}
use Rattle.sg_words.specs.Answers.Answer.{Silent, BadSyntax, Stopped, NoTransaction, IsLive, TooManyLive, NoMark, MarksFull, Busy, LocksFull, Refused, NoSpace, NoBands, Memory, LogEnd, Disk, Said}
use Rattle.sg_run.specs.Run.{Run, start, live_named, live_objects, committed_objects, began, committed, aborted, saved, rolled_back, with_locks, did, holder_of, held_with, turn_begin, turn_commit, turn_abort, turn_held, turn_op, turn_request, turn, WouldReply, stop, stop_at, only_locks, lacking, full, broken, LineBy, Lines, Turns, MOST_LIVE, MOST_HELD}
use Rattle.sg_run.specs.Serial.{IsSound, IsSerial, RunsAreSerial}

found_live : (b : Bool) (m l : Live) (ls : List Live) (r : Option Live) → (r ≡ Some l → is_live ls l.transaction ≡ true) → cond b (Some m) r ≡ Some l → (((m.transaction == l.transaction) || is_live ls l.transaction) ≡ true)
found_live true m l ls r f e = let p : m ≡ l = cc in or_left (m.transaction == l.transaction) (is_live ls l.transaction) (eq-eqb m.transaction l.transaction (ap (λ (k : Live). k.transaction) p))
found_live false m l ls r f e = or_right (m.transaction == l.transaction) (is_live ls l.transaction) (f e)

-- who is found by name is live
pub find_live : (name : List ℕ) (ls : List Live) (l : Live) → live_named ls name ≡ Some l → is_live ls l.transaction ≡ true
find_live name [] l h = absurd (cc)
find_live name (m ∷ ls) l h = found_live (bytes_eq name m.name) m l ls (live_named ls name) (find_live name ls l) h

module _ (t : Operations) where
  -- a run that has stopped is left alone
  abbrev pub UnlessStopped : Run → Type 0
  UnlessStopped x = x.stopped ≡ None → IsSound t x

  -- nobody else holds anything in conflict with what an operation touches
  pub free_of : (x : Run) (number : ℕ) (op : Op) → IsSound t x → holder_of t x number op ≡ None → IsFree covers x.so_far.held number (touches (live_objects t x) op)
  free_of x number op k none = free_of_none covers conflict conflict_law x.so_far.held number (touches (live_objects t x) op)
      (holder_is conflict x.so_far.live x.so_far.held number (touches (live_objects t x) op) k.serial.rising k.serial.holders ∙ ap (λ (r : Option Live). option_map (λ (l : Live). l.transaction) r) none)

  pub begin_stays : (x : Run) (number : ℕ) (name : List ℕ) → x.so_far.next ≤ number → IsSound t x → IsSound t (began x number name)
  begin_stays x number name above k = record {
    serial = kept.begin_keeps CellContents (step t) cell touches covers same_resource resource_same (footprint t) x.so_far number name above k.serial;
    once = k.once;
  }

  pub commit_stays : (x : Run) (number : ℕ) → is_live x.so_far.live number ≡ true → IsSound t x → IsSound t (committed x number)
  commit_stays x number live k = record {
    serial = kept.commit_keeps CellContents (step t) cell touches covers same_resource resource_same (footprint t) x.so_far number live k.serial;
    once = once_released same_resource number x.so_far.held k.once;
  }

  pub abort_stays : (x : Run) (number : ℕ) → is_live x.so_far.live number ≡ true → IsSound t x → IsSound t (aborted x number)
  abort_stays x number live k = record {
    serial = kept.abort_keeps CellContents (step t) cell touches covers same_resource resource_same (footprint t) x.so_far number live k.serial;
    once = once_released same_resource number x.so_far.held k.once;
  }

  pub save_stays : (x : Run) (number mark : ℕ) → IsSound t x → IsSound t (saved x number mark)
  save_stays x number mark k = record {
    serial = theorems.save_keeps CellContents (step t) cell touches covers same_resource resource_same (footprint t) x.so_far number mark k.serial;
    once = k.once;
  }

  pub roll_stays : (x : Run) (number time mark : ℕ) → is_live x.so_far.live number ≡ true → IsSound t x → IsSound t (rolled_back x number time mark)
  roll_stays x number time mark live k = record {
    serial = theorems.roll_keeps CellContents (step t) cell touches covers same_resource resource_same (footprint t) x.so_far number time mark live k.serial;
    once = k.once;
  }

  pub locks_stay : (x : Run) (number : ℕ) (op : Op) → is_live x.so_far.live number ≡ true → holder_of t x number op ≡ None → IsSound t x → IsSound t (with_locks t x number op)
  locks_stay x number op live none k = record {
    serial = kept.lock_keeps CellContents (step t) cell touches covers same_resource resource_same (footprint t) x.so_far number (touches (live_objects t x) op) live (free_of x number op k none) k.serial;
    once = once_all same_resource resource_same resource_self number (touches (live_objects t x) op) x.so_far.held k.once;
  }

  pub did_stays : (x : Run) (number : ℕ) (op : Op) → is_live x.so_far.live number ≡ true → holder_of t x number op ≡ None → IsSound t x → IsSound t (did t x number op)
  did_stays x number op live none k = record {
    serial = theorems.does_keeps CellContents (step t) cell touches covers same_resource resource_same (footprint t) x.so_far number op live (free_of x number op k none) k.serial;
    once = once_all same_resource resource_same resource_self number (touches (live_objects t x) op) x.so_far.held k.once;
  }

  begin_turn : (x : Run) (number : ℕ) (name : List ℕ) (l : Option Live) → x.so_far.next ≤ number → UnlessStopped x → UnlessStopped (turn_begin t x number name l).1
  begin_turn x number name (Some l) above k = k
  begin_turn x number name None above k = go (nat_lt (length x.so_far.live) MOST_LIVE)
    where
      go : (b : Bool) → UnlessStopped (cond {A = Answer × Run} b (Said Done, began x number name) (TooManyLive, x)).1
      go true = λ s. begin_stays x number name above (k s)
      go false = k

  -- of a transaction that is live
  abbrev IsThere : Run → Option Live → Type 0
  IsThere x None = Unit {0}
  IsThere x (Some l) = is_live x.so_far.live l.transaction ≡ true

  there : (x : Run) (name : List ℕ) (l : Option Live) → live_named x.so_far.live name ≡ l → IsThere x l
  there x name None e = tt
  there x name (Some l) e = find_live name x.so_far.live l e

  commit_turn : (x : Run) (l : Option Live) → IsThere x l → UnlessStopped x → UnlessStopped (turn_commit t x l).1
  commit_turn x None h k = k
  commit_turn x (Some l) h k = λ s. commit_stays x l.transaction h (k s)

  abort_turn : (x : Run) (l : Option Live) → IsThere x l → UnlessStopped x → UnlessStopped (turn_abort t x l).1
  abort_turn x None h k = k
  abort_turn x (Some l) h k = λ s. abort_stays x l.transaction h (k s)

  held_turn : (x : Run) (number : ℕ) (op : Op) (r : Option Live) → holder_of t x number op ≡ r → is_live x.so_far.live number ≡ true → UnlessStopped x → UnlessStopped (turn_held t x number op r).1
  held_turn x number op (Some l) e h k = k
  held_turn x number op None e h k = go (nat_lt MOST_HELD (held_with t x number op))
    where
      go : (b : Bool) → UnlessStopped (cond {A = Answer × Run} b (LocksFull, x) (answer_of (step t (live_objects t x) op).0, did t x number op)).1
      go true = k
      go false = λ s. did_stays x number op h e (k s)

  op_turn : (x : Run) (op : Op) (l : Option Live) → IsThere x l → UnlessStopped x → UnlessStopped (turn_op t x op l).1
  op_turn x op None h k = k
  op_turn x op (Some l) h k = held_turn x l.transaction op (holder_of t x l.transaction op) refl h k

  turn_keeps : (x : Run) (number : ℕ) (line : Asked) → x.so_far.next ≤ number → UnlessStopped x → UnlessStopped (turn t x number line).1
  turn_keeps x number Blank above k = k
  turn_keeps x number Wrong above k = k
  turn_keeps x number (Of name request) above k = go (is_some x.stopped) request
    where
      go : (b : Bool) (request : Request) → UnlessStopped (cond {A = Answer × Run} b (Stopped, x) (turn_request t x number name request)).1
      go true request = k
      go false Begin = begin_turn x number name (live_named x.so_far.live name) above k
      go false Commit = commit_turn x (live_named x.so_far.live name) (there x name (live_named x.so_far.live name) refl) k
      go false Abort = abort_turn x (live_named x.so_far.live name) (there x name (live_named x.so_far.live name) refl) k
      go false (Do op) = op_turn x op (live_named x.so_far.live name) (there x name (live_named x.so_far.live name) refl) k

  locked_by : (x : Run) (number : ℕ) (op : Op) (r : Option Live) → holder_of t x number op ≡ r → is_live x.so_far.live number ≡ true → IsSaid (turn_held t x number op r).0 → UnlessStopped x → UnlessStopped (with_locks t x number op)
  locked_by x number op (Some l) e h said k = absurd said
  locked_by x number op None e h said k = λ s. locks_stay x number op h e (k s)

  -- only the locks of an operation stay
  only_locked : (x : Run) (name : List ℕ) (op : Op) (b : Bool) → IsSaid (cond {A = Answer × Run} b (Stopped, x) (turn_op t x op (live_named x.so_far.live name))).0 → UnlessStopped x → UnlessStopped (only_locks t x op (live_named x.so_far.live name))
  only_locked x name op true said k = absurd said
  only_locked x name op false said k = go (live_named x.so_far.live name) (there x name (live_named x.so_far.live name) refl) said
    where
      go : (l : Option Live) → IsThere x l → IsSaid (turn_op t x op l).0 → UnlessStopped (only_locks t x op l)
      go None h said = k
      go (Some l) h said = locked_by x l.transaction op (holder_of t x l.transaction op) refl h said k

  stopped_at : (why : Stop) (x : Run) (l : Option Live) → (stop_at why x l).stopped ≡ Some why
  stopped_at why x None = refl
  stopped_at why x (Some l) = refl

  vacuous : (why : Stop) (y : Run) → y.stopped ≡ Some why → UnlessStopped y
  vacuous why y e s = absurd (cc)

  lacking_keeps : (x : Run) (line : Asked) → WouldReply t x line → UnlessStopped x → UnlessStopped (lacking t x line)
  lacking_keeps x Blank said k = k
  lacking_keeps x Wrong said k = k
  lacking_keeps x (Of name Begin) said k = k
  lacking_keeps x (Of name Commit) said k = k
  lacking_keeps x (Of name Abort) said k = k
  lacking_keeps x (Of name (Do op)) said k = only_locked x name op (is_some x.stopped) said k

  full_keeps : (x : Run) (line : Asked) → WouldReply t x line → UnlessStopped x → UnlessStopped (full t x line)
  full_keeps x Blank said k = k
  full_keeps x Wrong said k = k
  full_keeps x (Of name Begin) said k = k
  full_keeps x (Of name Commit) said k = vacuous stops.LogEnd (stop_at stops.LogEnd x (live_named x.so_far.live name)) (stopped_at stops.LogEnd x (live_named x.so_far.live name))
  full_keeps x (Of name Abort) said k = k
  full_keeps x (Of name (Do op)) said k = only_locked x name op (is_some x.stopped) said k

  broken_keeps : (x : Run) (line : Asked) → UnlessStopped (broken t x line)
  broken_keeps x (Of name Commit) = vacuous stops.Disk (stop_at stops.Disk x (live_named x.so_far.live name)) (stopped_at stops.Disk x (live_named x.so_far.live name))
  broken_keeps x Blank = vacuous stops.Disk (stop stops.Disk x) refl
  broken_keeps x Wrong = vacuous stops.Disk (stop stops.Disk x) refl
  broken_keeps x (Of name Begin) = vacuous stops.Disk (stop stops.Disk x) refl
  broken_keeps x (Of name Abort) = vacuous stops.Disk (stop stops.Disk x) refl
  broken_keeps x (Of name (Do op)) = vacuous stops.Disk (stop stops.Disk x) refl

  by_turn : (x y : Run) (line : Asked) (answer : Answer) → Turns t x line answer y → UnlessStopped x → UnlessStopped y
  by_turn x y line answer h k = subst (λ (r : Answer × Run). UnlessStopped r.1) h.turned (turn_keeps x h.number line h.above k)

  -- each line keeps what holds of every run
  pub line_keeps : (x y : Run) (line : Asked) (answer : Answer) → LineBy t x line answer y → UnlessStopped x → UnlessStopped y
  line_keeps x y line Memory h k = subst (λ (z : Run). UnlessStopped z) (sym h.after) (lacking_keeps x line h.said k)
  line_keeps x y line LogEnd h k = subst (λ (z : Run). UnlessStopped z) (sym h.after) (full_keeps x line h.said k)
  line_keeps x y line Disk h k = subst (λ (z : Run). UnlessStopped z) (sym h.after) (broken_keeps x line)
  line_keeps x y line Silent h k = by_turn x y line Silent h k
  line_keeps x y line BadSyntax h k = by_turn x y line BadSyntax h k
  line_keeps x y line Stopped h k = by_turn x y line Stopped h k
  line_keeps x y line NoTransaction h k = by_turn x y line NoTransaction h k
  line_keeps x y line IsLive h k = by_turn x y line IsLive h k
  line_keeps x y line TooManyLive h k = by_turn x y line TooManyLive h k
  line_keeps x y line NoMark h k = by_turn x y line NoMark h k
  line_keeps x y line MarksFull h k = by_turn x y line MarksFull h k
  line_keeps x y line (Busy name) h k = by_turn x y line (Busy name) h k
  line_keeps x y line LocksFull h k = by_turn x y line LocksFull h k
  line_keeps x y line (Refused reason) h k = by_turn x y line (Refused reason) h k
  line_keeps x y line (NoSpace free reserved need) h k = by_turn x y line (NoSpace free reserved need) h k
  line_keeps x y line (NoBands free need) h k = by_turn x y line (NoBands free need) h k
  line_keeps x y line (Said reply) h k = by_turn x y line (Said reply) h k

  pub lines_keep : (x y : Run) (lines : List (List ℕ)) (answers : List Answer) → Lines t x lines answers y → UnlessStopped x → UnlessStopped y
  lines_keep x y [] [] h k = subst (λ (z : Run). UnlessStopped z) (sym h) k
  lines_keep x y (line ∷ lines) (answer ∷ answers) h k = lines_keep h.0 y lines answers h.2 (line_keeps x h.0 (asked line) answer h.1 k)
  lines_keep x y [] (answer ∷ answers) h k = absurd h
  lines_keep x y (line ∷ lines) [] h k = absurd h

  -- what follows
  pub serial_run : (x : Run) → IsSound t x → IsSerial t x
  serial_run x k = record {
    replies = k.serial.replays;
    objects = same_live CellContents (step t) cell touches covers same_resource resource_same (footprint t) x.so_far k.serial;
    open_replies = Replays_of_Held (step t) touches (reads covers) (writes covers) (held_of x.so_far.held) (committed_objects t x) (open_entries x.so_far) k.serial.held;
    alone = λ none. theorems.none_live_now CellContents (step t) cell touches covers same_resource resource_same (footprint t) x.so_far k.serial none;
    leaves_out = λ u live. theorems.aborted_objects CellContents (step t) cell touches covers same_resource resource_same (footprint t) x.so_far u live k.serial;
    goes_back = λ u time mark live. theorems.rolled_objects CellContents (step t) cell touches covers same_resource resource_same (footprint t) x.so_far u time mark live k.serial;
    adds = λ u live. theorems.committed_objects CellContents (step t) cell touches covers same_resource resource_same (footprint t) x.so_far u live k.serial;
    pairs = k.once;
  }

  pub start_stays : (first : _) → IsSound t (start first)
  start_stays first = record { serial = theorems.start_serial CellContents (step t) cell touches covers same_resource resource_same (footprint t) first; once = tt }

pub serial_theorem : RunsAreSerial
serial_theorem t first lines answers x h s = serial_run t x (lines_keep t (start first) x lines answers h (λ e. start_stays t first) s)
