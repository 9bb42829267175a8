-- HOW A LINE LEADS ON A RUN WITH ITS STOCK: which pages and bands its objects may take, and what is kept for undoing.
use Rattle.std.specs.Prelude.{◌≡◌, ℕ, List, Option, Some, None, Result, Ok}
use Rattle.sg_ops.specs.Table.{Table as Operations}
use Rattle.sg_serial.specs.Runs.{Live, Mark, nth_mark}
use Rattle.sg_words.specs.Answers.{Answer}
use Rattle.sg_words.specs.Answers.Answer.{Stopped, NoTransaction}
use Rattle.sg_words.specs.declared.marking.Marking.{Marking}
use Rattle.sg_words.specs.declared.marking.Marking.TheVariants as markings
use Rattle.sg_words.specs.declared.upkeep.Upkeep.{Upkeep}
use Rattle.sg_model.specs.declared.stop.Stop.{Stop}
use Rattle.sg_room.specs.Bounds.{Sizes}
use Rattle.sg_room.specs.Steps.{RunStock, backed}
use Rattle.sg_run.specs.Run.{Run, live_named, marks_of}
use Rattle.sg_run.specs.Numbers.{Refusal, MarkRefusal, Saves, RollsBack}
use Rattle.sg_run.specs.Named.{AskedLine, answer_done}
use Rattle.sg_run.specs.Stocked.{Stocked, Around}
use Rattle.sg_store.specs.Ground.{Ground}
use Rattle.sg_store.specs.Engine.{View}
use Rattle.sg_store.specs.Room.{ShowsStock, is_behind}
use Rattle.sg_session.specs.Lines.{Line, KeepsUp, answer_save, answer_back}
use Rattle.sg_session.specs.Lines.Line.{OfStore, OfMarks, Other}

-- the store as a whole is flushed, makes a checkpoint, or has its log's front cut off, which leaves the stock
pub record KeepsUpStocked (a : Around) (upkeep : Upkeep) (x : Stocked) (r : Result (Unit {0}) Refusal) (y : Stocked) : Type 0 where
  pub line : KeepsUp a upkeep x.run r y.run
  pub stock : y.stock ≡ x.stock

-- a mark leaves the stock
pub record SavesStocked (a : Around) (u : ℕ) (x : Stocked) (r : Result ℕ MarkRefusal) (y : Stocked) : Type 0 where
  pub line : Saves a.begin a.before a.now u x.run r y.run
  pub stock : y.stock ≡ x.stock

-- a way back to a mark that is answered undoes all that the transaction did behind it, and no peak
abbrev pub backed_behind : (u : ℕ) → Option Mark → Result (Unit {0}) MarkRefusal → RunStock → RunStock
backed_behind u (Some m) (Ok done) r = backed (is_behind u m.number) r
backed_behind u m other r = r

pub record BacksStocked (a : Around) (u mark : ℕ) (x : Stocked) (r : Result (Unit {0}) MarkRefusal) (y : Stocked) : Type 0 where
  pub line : RollsBack a.tail a.before a.now u mark x.run r y.run
  pub stock : y.stock ≡ backed_behind u (nth_mark mark (marks_of x.run u)) r x.stock

-- by the live transaction with the line's name if there is one
abbrev pub SavesStockedAs : Around → Option Live → Stocked → Answer → Stocked → Type 0
SavesStockedAs a None x answer y = (answer ≡ NoTransaction) × (y ≡ x)
SavesStockedAs a (Some l) x answer y = (r : Result ℕ MarkRefusal) × (answer ≡ answer_save x.run.so_far.live r) × SavesStocked a l.transaction x r y

abbrev pub BacksStockedAs : Around → (mark : ℕ) → Option Live → Stocked → Answer → Stocked → Type 0
BacksStockedAs a mark None x answer y = (answer ≡ NoTransaction) × (y ≡ x)
BacksStockedAs a mark (Some l) x answer y = (r : Result (Unit {0}) MarkRefusal) × (answer ≡ answer_back x.run.so_far.live r) × BacksStocked a l.transaction mark x r y

abbrev pub MarkingStocked : Around → List ℕ → Option Stop → Stocked → Marking → Answer → Stocked → Type 0
MarkingStocked a name (Some why) x marking answer y = (answer ≡ Stopped) × (y ≡ x)
MarkingStocked a name None x markings.Save answer y = SavesStockedAs a (live_named x.run.so_far.live name) x answer y
MarkingStocked a name None x (markings.Back mark) answer y = BacksStockedAs a mark (live_named x.run.so_far.live name) x answer y

-- HOW A LINE MAY GO in a store of these sizes: with the numbers of a refusal for want of room, and the stock behind it
abbrev pub StockedLine : Operations → Sizes → Around → Stocked → Line → Answer → Stocked → Type 0
StockedLine t z a x (OfStore upkeep) answer y = (r : Result (Unit {0}) Refusal) × (answer ≡ answer_done x.run.so_far.live r) × KeepsUpStocked a upkeep x r y
StockedLine t z a x (OfMarks name marking) answer y = MarkingStocked a name x.run.stopped x marking answer y
StockedLine t z a x (Other line) answer y = AskedLine t z a x line answer y

-- The line goes so from a stock that was shown, and where the store hasn't stopped the stock behind it is shown
pub record LeadsOn (t : Operations) (g : Ground) (a : Around) (x : Run) (line : Line) (answer : Answer) (y : Run) (w : View g) (stopped : Option Stop) (r : RunStock) : Type 0 where
  pub after : RunStock
  pub goes : StockedLine t g.sizes a (record { run = x; stock = r }) line answer (record { run = y; stock = after })
  pub shows : stopped ≡ None → ShowsStock t g w after
