-- What a line of a script asks of a store over pages, what it may be answered, and the run behind it. A line names its transaction,
-- and who is in its way is named; the store knows them by their numbers.
use Rattle.std.specs.Prelude.{◌≡◌, ℕ, List, Option, Some, None, Result, Ok, Err}
use Rattle.sg_ops.specs.Table.{Table as Operations}
use Rattle.sg_serial.specs.Runs.{Live}
use Rattle.sg_model.specs.declared.stop.Stop.{Stop}
use Rattle.sg_model.specs.Verb.{Op, Reply}
use Rattle.sg_model.specs.Verb.Reply.{Done, Number}
use Rattle.sg_words.specs.Answers.{Answer}
use Rattle.sg_words.specs.Answers.Answer.{Silent, BadSyntax, Stopped, NoTransaction, IsLive, NoMark, MarksFull, Said}
use Rattle.sg_words.specs.Requests.{Asked, Request, asked}
use Rattle.sg_words.specs.Requests.Asked.{Blank, Wrong, Of}
use Rattle.sg_words.specs.Requests.Request.{Begin, Commit, Abort, Do}
use Rattle.sg_words.specs.Marking.{marking_of}
use Rattle.sg_words.specs.declared.marking.Marking.{Marking}
use Rattle.sg_words.specs.declared.marking.Marking.TheVariants as markings
use Rattle.sg_words.specs.Upkeep.{upkeep_of}
use Rattle.sg_words.specs.declared.upkeep.Upkeep.{Upkeep}
use Rattle.sg_words.specs.declared.upkeep.Upkeep.TheVariants as upkeeps
use Rattle.sg_run.specs.Run.{Run, live_named}
use Rattle.sg_run.specs.Numbers.{Refusal, MarkRefusal, Begins, Does, Commits, Aborts, Saves, RollsBack, Flushes, Checkpoints}
use Rattle.sg_run.specs.Numbers.MarkRefusal.{NoMark as HasNoMark, MarksFull as HasAllMarks, Otherwise}
use Rattle.sg_run.specs.Named.{answer_to, answer_done, answer_reply}
use Rattle.sg_run.specs.Stocked.{Around}

-- what a line asks for: a flush, a checkpoint or a truncation of the store as a whole, a mark of one transaction or the way back to one, or
-- what another line of one transaction asks for
pub data Line : Type 0 where
  OfStore : (upkeep : Upkeep) → Line
  OfMarks : (name : List ℕ) → (marking : Marking) → Line
  Other : (line : Asked) → Line

-- a line that is no other request of a transaction, by what it asks of the store as a whole, and of a transaction's marks
abbrev pub line_by : Asked → Option Upkeep → Option (List ℕ × Marking) → Line
line_by Wrong (Some upkeep) marking = OfStore upkeep
line_by Wrong None (Some marking) = OfMarks marking.0 marking.1
line_by line upkeep marking = Other line

abbrev pub line_of : List ℕ → Line
line_of text = line_by (asked text) (upkeep_of text) (marking_of text)

-- A line of a name, by the live transaction with this name if there is one

abbrev pub BeginsAs : Around → List ℕ → Option Live → Run → Answer → Run → Type 0
BeginsAs a name (Some l) x answer y = (answer ≡ IsLive) × (y ≡ x)
BeginsAs a name None x answer y = (r : Result ℕ Refusal) × (answer ≡ answer_done x.so_far.live r) × Begins a.begin a.before a.now name x r y

abbrev pub CommitsAs : Around → Option Live → Run → Answer → Run → Type 0
CommitsAs a None x answer y = (answer ≡ NoTransaction) × (y ≡ x)
CommitsAs a (Some l) x answer y = (r : Result (Unit {0}) Refusal) × (answer ≡ answer_done x.so_far.live r) × Commits a.tail a.before a.now l.transaction x r y

abbrev pub AbortsAs : Around → Option Live → Run → Answer → Run → Type 0
AbortsAs a None x answer y = (answer ≡ NoTransaction) × (y ≡ x)
AbortsAs a (Some l) x answer y = (r : Result (Unit {0}) Refusal) × (answer ≡ answer_done x.so_far.live r) × Aborts a.tail a.before a.now l.transaction x r y

abbrev pub DoesAs : Operations → Around → Op → Option Live → Run → Answer → Run → Type 0
DoesAs t a op None x answer y = (answer ≡ NoTransaction) × (y ≡ x)
DoesAs t a op (Some l) x answer y = (r : Result Reply Refusal) × (answer ≡ answer_reply x.so_far.live r) × Does t a.begin a.tail a.before a.now l.transaction op x r y

-- no line but a begin is of a transaction that isn't live
abbrev pub RequestBy : Operations → Around → List ℕ → Run → Request → Answer → Run → Type 0
RequestBy t a name x Begin answer y = BeginsAs a name (live_named x.so_far.live name) x answer y
RequestBy t a name x Commit answer y = CommitsAs a (live_named x.so_far.live name) x answer y
RequestBy t a name x Abort answer y = AbortsAs a (live_named x.so_far.live name) x answer y
RequestBy t a name x (Do op) answer y = DoesAs t a op (live_named x.so_far.live name) x answer y

-- a store that has stopped answers so before it looks at the transaction
abbrev pub UnlessStopped : Operations → Around → List ℕ → Option Stop → Run → Request → Answer → Run → Type 0
UnlessStopped t a name (Some why) x request answer y = (answer ≡ Stopped) × (y ≡ x)
UnlessStopped t a name None x request answer y = RequestBy t a name x request answer y

-- what a refusal of a call on marks is answered, in the words of a script; a mark, by its number; and a way back
abbrev pub answer_mark : List Live → MarkRefusal → Answer
answer_mark live HasNoMark = NoMark
answer_mark live HasAllMarks = MarksFull
answer_mark live (Otherwise why) = answer_to live why

abbrev pub answer_save : List Live → Result ℕ MarkRefusal → Answer
answer_save live (Ok n) = Said (Number n)
answer_save live (Err why) = answer_mark live why

abbrev pub answer_back : List Live → Result (Unit {0}) MarkRefusal → Answer
answer_back live (Ok done) = Said Done
answer_back live (Err why) = answer_mark live why

-- a mark is set, or the transaction goes back to one, by the live transaction with the line's name if there is one
abbrev pub SavesAs : Around → Option Live → Run → Answer → Run → Type 0
SavesAs a None x answer y = (answer ≡ NoTransaction) × (y ≡ x)
SavesAs a (Some l) x answer y = (r : Result ℕ MarkRefusal) × (answer ≡ answer_save x.so_far.live r) × Saves a.begin a.before a.now l.transaction x r y

abbrev pub BacksAs : Around → (mark : ℕ) → Option Live → Run → Answer → Run → Type 0
BacksAs a mark None x answer y = (answer ≡ NoTransaction) × (y ≡ x)
BacksAs a mark (Some l) x answer y = (r : Result (Unit {0}) MarkRefusal) × (answer ≡ answer_back x.so_far.live r) × RollsBack a.tail a.before a.now l.transaction mark x r y

abbrev pub MarkingBy : Around → List ℕ → Run → Marking → Answer → Run → Type 0
MarkingBy a name x markings.Save answer y = SavesAs a (live_named x.so_far.live name) x answer y
MarkingBy a name x (markings.Back mark) answer y = BacksAs a mark (live_named x.so_far.live name) x answer y

-- a store that has stopped answers so before it looks at the transaction
abbrev pub MarkingUnlessStopped : Around → List ℕ → Option Stop → Run → Marking → Answer → Run → Type 0
MarkingUnlessStopped a name (Some why) x marking answer y = (answer ≡ Stopped) × (y ≡ x)
MarkingUnlessStopped a name None x marking answer y = MarkingBy a name x marking answer y

-- the store as a whole is flushed, makes a checkpoint, or has its log's front cut off
abbrev pub KeepsUp : Around → Upkeep → Run → Result (Unit {0}) Refusal → Run → Type 0
KeepsUp a upkeeps.Flush x r y = Flushes a.before a.now x r y
KeepsUp a upkeeps.Checkpoint x r y = Checkpoints a.begin a.before a.now x r y
KeepsUp a upkeeps.Truncate x r y = Flushes a.before a.now x r y

abbrev pub UpkeepBy : Around → Upkeep → Run → Answer → Run → Type 0
UpkeepBy a upkeep x answer y = (r : Result (Unit {0}) Refusal) × (answer ≡ answer_done x.so_far.live r) × KeepsUp a upkeep x r y

-- HOW A LINE MAY GO, in what is told of the store around it
abbrev pub LineBy : Operations → Around → Run → Line → Answer → Run → Type 0
LineBy t a x (OfStore upkeep) answer y = UpkeepBy a upkeep x answer y
LineBy t a x (OfMarks name marking) answer y = MarkingUnlessStopped a name x.stopped x marking answer y
LineBy t a x (Other Blank) answer y = (answer ≡ Silent) × (y ≡ x)
LineBy t a x (Other Wrong) answer y = (answer ≡ BadSyntax) × (y ≡ x)
LineBy t a x (Other (Of name request)) answer y = UnlessStopped t a name x.stopped x request answer y
