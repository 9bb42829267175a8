-- THE LAYER OF NAMES over calls by number: what each line of a script is answered by a store over pages, and the run with its
-- stock behind it. A line names its transaction, and who is in its way is named.
use Rattle.std.specs.Prelude.{◌≡◌, ℕ, ◌==◌, List, [], ◌∷◌, Option, Some, None, Result, Ok, Err}
use Rattle.std.specs.List.{find}
use Rattle.sg_ops.specs.Table.{Table as Operations}
use Rattle.sg_serial.specs.Runs.{Live}
use Rattle.sg_model.specs.declared.stop.Stop.{Stop}
use Rattle.sg_model.specs.Objects.{Objects}
use Rattle.sg_model.specs.Verb.{Op, Reply}
use Rattle.sg_model.specs.Verb.Reply.{Done}
use Rattle.sg_words.specs.Answers.{Answer}
use Rattle.sg_words.specs.Answers.Answer.{Silent, BadSyntax, Stopped, NoTransaction, IsLive, TooManyLive, Busy, LocksFull, Refused, NoSpace, NoBands, LogEnd, Memory, Disk, Said}
use Rattle.sg_words.specs.Requests.{Asked, Request, asked}
use Rattle.sg_words.specs.Requests.Asked.{Blank, Wrong, Of}
use Rattle.sg_words.specs.Requests.Request.{Begin, Commit, Abort, Do}
use Rattle.sg_room.specs.Bounds.{Sizes}
use Rattle.sg_room.specs.Marks.{Marks}
use Rattle.sg_run.specs.Numbers.{Refusal}
use Rattle.sg_run.specs.Numbers.Refusal.{Stopped as HasStopped, NoTransaction as IsntLive, TooManyLive as AreTooMany, Busy as IsInTheWay, LocksFull as HoldsTooMuch, Because, NoSpace as LacksPages, NoBands as LacksBands, LogEnd as IsAtLogEnd, Memory as LacksMemory, Disk as HasFailed}
use Rattle.sg_run.specs.Run.{live_named}
use Rattle.sg_run.specs.Serial.{IsSerial}
use Rattle.sg_run.specs.Stocked.{Stocked, Around, begun, BeginsStocked, DoesStocked, CommitsStocked, AbortsStocked}

-- the name of the live transaction with a number
abbrev pub name_in : Option Live → List ℕ
name_in None = []
name_in (Some l) = l.name

abbrev pub name_of : List Live → ℕ → List ℕ
name_of live u = name_in (find (λ l. l.transaction == u) live)

-- a refusal, in the words of a script
abbrev pub answer_to : List Live → Refusal → Answer
answer_to live HasStopped = Stopped
answer_to live IsntLive = NoTransaction
answer_to live AreTooMany = TooManyLive
answer_to live (IsInTheWay holder) = Busy (name_of live holder)
answer_to live HoldsTooMuch = LocksFull
answer_to live (Because reason) = Refused reason
answer_to live (LacksPages free reserved need) = NoSpace free reserved need
answer_to live (LacksBands free need) = NoBands free need
answer_to live IsAtLogEnd = LogEnd
answer_to live LacksMemory = Memory
answer_to live HasFailed = Disk

-- the answer to a call that gives nothing but that it was done, and to an operation
abbrev pub answer_done : {T : Type 0} → List Live → Result T Refusal → Answer
answer_done live (Ok done) = Said Done
answer_done live (Err why) = answer_to live why

abbrev pub answer_reply : List Live → Result Reply Refusal → Answer
answer_reply live (Ok reply) = Said reply
answer_reply live (Err why) = answer_to live why

-- A line of a name, by the live transaction with this name if there is one

abbrev pub BeginsAs : Around → List ℕ → Option Live → Stocked → Answer → Stocked → Type 0
BeginsAs a name (Some l) x answer y = (answer ≡ IsLive) × (y ≡ x)
BeginsAs a name None x answer y = (r : Result ℕ Refusal) × (answer ≡ answer_done x.run.so_far.live r) × BeginsStocked a name x r y

abbrev pub CommitsAs : Around → Option Live → Stocked → Answer → Stocked → Type 0
CommitsAs a None x answer y = (answer ≡ NoTransaction) × (y ≡ x)
CommitsAs a (Some l) x answer y = (r : Result (Unit {0}) Refusal) × (answer ≡ answer_done x.run.so_far.live r) × CommitsStocked a l.transaction x r y

abbrev pub AbortsAs : Around → Option Live → Stocked → Answer → Stocked → Type 0
AbortsAs a None x answer y = (answer ≡ NoTransaction) × (y ≡ x)
AbortsAs a (Some l) x answer y = (r : Result (Unit {0}) Refusal) × (answer ≡ answer_done x.run.so_far.live r) × AbortsStocked a l.transaction x r y

abbrev pub DoesAs : Operations → Sizes → Around → Op → Option Live → Stocked → Answer → Stocked → Type 0
DoesAs t z a op None x answer y = (answer ≡ NoTransaction) × (y ≡ x)
DoesAs t z a op (Some l) x answer y = (r : Result Reply Refusal) × (answer ≡ answer_reply x.run.so_far.live r) × DoesStocked t z a l.transaction op x r y

-- no line but a begin is of a transaction that isn't live
abbrev pub RequestOf : Operations → Sizes → Around → List ℕ → Stocked → Request → Answer → Stocked → Type 0
RequestOf t z a name x Begin answer y = BeginsAs a name (live_named x.run.so_far.live name) x answer y
RequestOf t z a name x Commit answer y = CommitsAs a (live_named x.run.so_far.live name) x answer y
RequestOf t z a name x Abort answer y = AbortsAs a (live_named x.run.so_far.live name) x answer y
RequestOf t z a name x (Do op) answer y = DoesAs t z a op (live_named x.run.so_far.live name) x answer y

-- a store that has stopped answers so before it looks at the transaction
abbrev pub UnlessStopped : Operations → Sizes → Around → List ℕ → Option Stop → Stocked → Request → Answer → Stocked → Type 0
UnlessStopped t z a name (Some why) x request answer y = (answer ≡ Stopped) × (y ≡ x)
UnlessStopped t z a name None x request answer y = RequestOf t z a name x request answer y

abbrev pub AskedLine : Operations → Sizes → Around → Stocked → Asked → Answer → Stocked → Type 0
AskedLine t z a x Blank answer y = (answer ≡ Silent) × (y ≡ x)
AskedLine t z a x Wrong answer y = (answer ≡ BadSyntax) × (y ≡ x)
AskedLine t z a x (Of name request) answer y = UnlessStopped t z a name x.run.stopped x request answer y

-- A LINE of a script
abbrev pub NamedLine : Operations → Sizes → Around → Stocked → List ℕ → Answer → Stocked → Type 0
NamedLine t z a x text answer y = AskedLine t z a x (asked text) answer y

-- and some lines, each in what is told of the store then
abbrev pub NamedLines : Operations → Sizes → Stocked → List (List ℕ) → List Answer → Stocked → Type 0
NamedLines t z x [] [] y = y ≡ x
NamedLines t z x (line ∷ lines) (answer ∷ answers) y = (a : Around) × (mid : Stocked) × NamedLine t z a x line answer mid × NamedLines t z mid lines answers y
NamedLines t z x [] (answer ∷ answers) y = ⊥
NamedLines t z x (line ∷ lines) [] y = ⊥

-- every list of lines leads to a run that is serial, from any objects and with any operations, unless the store has stopped
abbrev pub NamedLinesAreSerial : Type 0
NamedLinesAreSerial = (t : Operations) (z : Sizes) (first : Objects) (marks : Marks) (lines : List (List ℕ)) (answers : List Answer) (x : Stocked)
    → NamedLines t z (begun first marks) lines answers x → x.run.stopped ≡ None → IsSerial t x.run
