-- The run of a script with several transactions at a time: what each line may be answered, and what has happened after it.
use Rattle.std.specs.Prelude.{◌≡◌, ◌⊎◌, ℕ, ◌≤◌, IsTrue, nat_lt, if◌then◌else◌, List, [], ◌∷◌, ◌++◌, length, take, Option, Some, None, is_some}
use Rattle.std.specs.Str.{bytes_eq}
use Rattle.std.specs.List.{filter, find}
use Rattle.sg_serial.specs.Machine.{Entry, run}
use Rattle.sg_serial.specs.Runs.{Live, Mark, State, in_order, is_own, holder}
use Rattle.sg_serial.specs.Runs as runs
use Rattle.sg_ops.specs.Table.{Table as Operations}
use Rattle.sg_model.specs.declared.stop.Stop.{Stop}
use Rattle.sg_model.specs.declared.stop.Stop.TheVariants as stops
use Rattle.sg_model.specs.Objects.{Objects}
use Rattle.sg_model.specs.Verb.{Op, Outcome}
use Rattle.sg_model.specs.Verb.Reply.{Done}
use Rattle.sg_model.specs.Step.{step, is_changing, Grows}
use Rattle.sg_model.specs.Touches.{Resource, touches, same_resource, conflict}
use Rattle.sg_words.specs.Requests.{Asked, Request, asked}
use Rattle.sg_words.specs.Requests.Asked.{Blank, Wrong, Of}
use Rattle.sg_words.specs.Requests.Request.{Begin, Commit, Abort, Do}
use Rattle.sg_words.specs.Answers.{Answer}
use Rattle.sg_run.specs.Answer.{answer_of, IsSaid}
use Rattle.sg_words.specs.Answers.Answer.{Silent, BadSyntax, Stopped, NoTransaction, IsLive, TooManyLive, Busy, LocksFull, Memory, LogEnd, Disk, Said}

-- an operation of a transaction, with what came out
abbrev pub Event : Type 0
Event = Entry Op Outcome

-- what transactions have done to objects
abbrev pub Past : Type 0
Past = State Objects Op Outcome Resource

-- a run of transactions: what they have done so far, and why the store has stopped, if it has
pub record Run : Type 0 where
  pub so_far : Past
  pub stopped : Option Stop

-- a run that begins with these objects
abbrev pub start : Objects → Run
start first = record { so_far = runs.start first; stopped = None }

-- the most transactions that are live at a time
abbrev pub MOST_LIVE : ℕ
MOST_LIVE = 64

-- the most pairs of a transaction and a resource that are held at a time
abbrev pub MOST_HELD : ℕ
MOST_HELD = 4096

-- the most marks that a transaction has
abbrev pub MOST_MARKS : ℕ
MOST_MARKS = 16

-- the live transaction with this name
abbrev pub live_named : List Live → List ℕ → Option Live
live_named live name = find (λ l. bytes_eq name l.name) live

-- the operations that take memory: for what they leave or answer, or for what takes them back
abbrev pub TakesMemory : Op → Type 0
TakesMemory op = Grows op ⊎ IsTrue (is_changing op)

-- a line that takes memory: such an operation, or an abort, which takes room for what it puts back. A commit takes none
abbrev pub MayLackMemory : Asked → Type 0
MayLackMemory Blank = ⊥
MayLackMemory Wrong = ⊥
MayLackMemory (Of name Begin) = ⊥
MayLackMemory (Of name Commit) = ⊥
MayLackMemory (Of name Abort) = Unit {0}
MayLackMemory (Of name (Do op)) = TakesMemory op

-- a line of which the log keeps a record: a begin, a commit, or an operation that can change objects
abbrev pub IsLogged : Asked → Type 0
IsLogged Blank = ⊥
IsLogged Wrong = ⊥
IsLogged (Of name Begin) = Unit {0}
IsLogged (Of name Commit) = Unit {0}
IsLogged (Of name Abort) = ⊥
IsLogged (Of name (Do op)) = IsTrue (is_changing op)

-- a transaction has begun, with this number and name
abbrev pub began : Run → ℕ → List ℕ → Run
began x number name = record x { so_far = runs.began x.so_far number name }

-- a transaction has committed, and its commit was answered
abbrev pub committed : Run → ℕ → Run
committed x transaction = record x { so_far = runs.committed x.so_far transaction }

-- a transaction has aborted: what it did is left out, and what it held is free
abbrev pub aborted : Run → ℕ → Run
aborted x transaction = record x { so_far = runs.aborted x.so_far transaction }

-- a transaction has set a mark, which was given this number
abbrev pub saved : Run → (transaction number : ℕ) → Run
saved x transaction number = record x { so_far = runs.saved x.so_far transaction number }

-- a transaction has gone back to its mark with this number in their order, which was set at this time: what it did behind that is left
-- out, and the marks behind it are gone. It is still live, and holds what it held
abbrev pub rolled_back : Run → (transaction time mark : ℕ) → Run
rolled_back x transaction time mark = record x { so_far = runs.rolled_back x.so_far transaction time mark }

-- the marks of a live transaction
abbrev pub marks_of : Run → ℕ → List Mark
marks_of x transaction = runs.marks_of x.so_far.live transaction

-- the store has stopped, for this reason
abbrev pub stop : Stop → Run → Run
stop why x = record x { stopped = Some why }

-- a transaction's commit counts, whether or not it is on the disk, and wasn't answered
abbrev pub with_commit : Past → ℕ → Past
with_commit p transaction = record p { commits = p.commits ++ filter (is_own transaction) p.history ∷ [] }

-- the store has stopped at the commit of a transaction, if it is one
abbrev pub stop_at : Stop → Run → Option Live → Run
stop_at why x None = stop why x
stop_at why x (Some l) = record { so_far = with_commit x.so_far l.transaction; stopped = Some why }

module _ (t : Operations) where
  -- the objects as the live transactions have left them
  abbrev pub live_objects : Run → Objects
  live_objects x = runs.live_state (step t) x.so_far

  -- the objects after the first so many committed transactions alone, one whole transaction after another
  abbrev pub objects_after : ℕ → Run → Objects
  objects_after n x = run (step t) x.so_far.first (in_order (take n x.so_far.commits))

  -- the objects after all committed transactions
  abbrev pub committed_objects : Run → Objects
  committed_objects x = runs.committed_state (step t) x.so_far

  -- a transaction holds what an operation touches
  abbrev pub with_locks : Run → ℕ → Op → Run
  with_locks x transaction op = record x { so_far = runs.locked same_resource x.so_far transaction (touches (live_objects x) op) }

  -- a transaction holds what an operation touches, and has done it
  abbrev pub did : Run → ℕ → Op → Run
  did x transaction op = record x { so_far = runs.did (step t) (with_locks x transaction op).so_far transaction op }

  -- the live transaction that holds something in conflict with what an operation touches, the first begun of these
  abbrev pub holder_of : Run → ℕ → Op → Option Live
  holder_of x transaction op = holder conflict x.so_far.live x.so_far.held transaction (touches (live_objects x) op)

  -- how many pairs of a transaction and a resource are held once a transaction holds what an operation touches
  abbrev pub held_with : Run → ℕ → Op → ℕ
  held_with x transaction op = length (with_locks x transaction op).so_far.held

  -- What each line is answered, and the state after it, where nothing runs out and the disk doesn't fail

  abbrev pub turn_begin : Run → ℕ → List ℕ → Option Live → Answer × Run
  turn_begin x number name (Some l) = (IsLive, x)
  turn_begin x number name None = if nat_lt (length x.so_far.live) MOST_LIVE then (Said Done, began x number name) else (TooManyLive, x)

  abbrev pub turn_commit : Run → Option Live → Answer × Run
  turn_commit x None = (NoTransaction, x)
  turn_commit x (Some l) = (Said Done, committed x l.transaction)

  abbrev pub turn_abort : Run → Option Live → Answer × Run
  turn_abort x None = (NoTransaction, x)
  turn_abort x (Some l) = (Said Done, aborted x l.transaction)

  -- by the transaction that is in the way, if one is
  abbrev pub turn_held : Run → ℕ → Op → Option Live → Answer × Run
  turn_held x transaction op (Some l) = (Busy l.name, x)
  turn_held x transaction op None =
      if nat_lt MOST_HELD (held_with x transaction op) then (LocksFull, x)
      else (answer_of (step t (live_objects x) op).0, did x transaction op)

  abbrev pub turn_op : Run → Op → Option Live → Answer × Run
  turn_op x op None = (NoTransaction, x)
  turn_op x op (Some l) = turn_held x l.transaction op (holder_of x l.transaction op)

  abbrev pub turn_request : Run → ℕ → List ℕ → Request → Answer × Run
  turn_request x number name Begin = turn_begin x number name (live_named x.so_far.live name)
  turn_request x number name Commit = turn_commit x (live_named x.so_far.live name)
  turn_request x number name Abort = turn_abort x (live_named x.so_far.live name)
  turn_request x number name (Do op) = turn_op x op (live_named x.so_far.live name)

  -- a transaction that begins gets the number
  abbrev pub turn : Run → ℕ → Asked → Answer × Run
  turn x number Blank = (Silent, x)
  turn x number Wrong = (BadSyntax, x)
  turn x number (Of name request) = if is_some x.stopped then (Stopped, x) else turn_request x number name request

  -- the line would have got a reply
  abbrev pub WouldReply : Run → Asked → Type 0
  WouldReply x line = IsSaid (turn x x.so_far.next line).0

  -- the state after an operation of which only the locks stay
  abbrev pub only_locks : Run → Op → Option Live → Run
  only_locks x op None = x
  only_locks x op (Some l) = with_locks x l.transaction op

  -- the state after a line for which there was no memory: an operation's locks stay, and nothing else has changed
  abbrev pub lacking : Run → Asked → Run
  lacking x (Of name (Do op)) = only_locks x op (live_named x.so_far.live name)
  lacking x other = x

  -- the state after a line for which the log has no room: a commit stops the store, and an operation's locks stay
  abbrev pub full : Run → Asked → Run
  full x (Of name Commit) = stop_at stops.LogEnd x (live_named x.so_far.live name)
  full x (Of name (Do op)) = only_locks x op (live_named x.so_far.live name)
  full x other = x

  -- the disk has failed in this line, and the store has stopped
  abbrev pub broken : Run → Asked → Run
  broken x (Of name Commit) = stop_at stops.Disk x (live_named x.so_far.live name)
  broken x other = stop stops.Disk x

  -- memory runs out, only at a line that takes memory and would have got a reply
  pub record RunsOut (x : Run) (line : Asked) (y : Run) : Type 0 where
    pub after : y ≡ lacking x line
    pub takes : MayLackMemory line
    pub said : WouldReply x line

  -- the log is at its end, only at a line that the log keeps and that would have got a reply
  pub record Ends (x : Run) (line : Asked) (y : Run) : Type 0 where
    pub after : y ≡ full x line
    pub logged : IsLogged line
    pub said : WouldReply x line

  -- the disk fails, only at such a line, and the store stops
  pub record Breaks (x : Run) (line : Asked) (y : Run) : Type 0 where
    pub after : y ≡ broken x line
    pub logged : IsLogged line
    pub said : WouldReply x line

  -- the line goes as its turn says, and a transaction that begins gets a number above all before it
  pub record Turns (x : Run) (line : Asked) (answer : Answer) (y : Run) : Type 0 where
    pub number : ℕ
    pub above : x.so_far.next ≤ number
    pub turned : turn x number line ≡ (answer, y)

  -- how a line may go
  abbrev pub LineBy : Run → Asked → Answer → Run → Type 0
  LineBy x line Memory y = RunsOut x line y
  LineBy x line LogEnd y = Ends x line y
  LineBy x line Disk y = Breaks x line y
  LineBy x line answer y = Turns x line answer y

  -- from x, this line may get this answer, and the run goes on from y
  abbrev pub Line : Run → List ℕ → Answer → Run → Type 0
  Line x text answer y = LineBy x (asked text) answer y

  -- the same of a list of lines
  abbrev pub Lines : Run → List (List ℕ) → List Answer → Run → Type 0
  Lines x [] [] y = y ≡ x
  Lines x (line ∷ lines) (answer ∷ answers) y = (mid : Run) × Line x line answer mid × Lines mid lines answers y
  Lines x [] (answer ∷ answers) y = ⊥
  Lines x (line ∷ lines) [] y = ⊥

-- the answer to a line has its cause: that a disk failed comes only where its count of faults has risen, and that the log
-- is at its end only where it is full for this line
abbrev pub IsCaused : Type 0 → (Asked → Type 0) → Asked → Answer → Type 0
IsCaused Risen IsFull line Disk = Risen
IsCaused Risen IsFull line LogEnd = IsFull line
IsCaused Risen IsFull line other = Unit {0}

-- each of the answers to these lines has
abbrev pub AreCaused : Type 0 → (Asked → Type 0) → List (List ℕ) → List Answer → Type 0
AreCaused Risen IsFull [] [] = Unit {0}
AreCaused Risen IsFull (line ∷ lines) (answer ∷ answers) = IsCaused Risen IsFull (asked line) answer × AreCaused Risen IsFull lines answers
AreCaused Risen IsFull [] (answer ∷ answers) = ⊥
AreCaused Risen IsFull (line ∷ lines) [] = ⊥
