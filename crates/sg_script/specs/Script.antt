-- What the lines of a script do, one after another.
use Rattle.std.specs.Prelude.{◌≡◌, ◌⊎◌, ◌≤◌, ℕ, List, [], ◌∷◌, ◌++◌, Option, Some, None, IfSome, IsSome}
use Rattle.sg_base.specs.Ends.{Takes, TakesFront}
use Rattle.sg_disk.specs.Disk.{LeavesOnly}
use Rattle.sg_ops.specs.Table.{Table as Operations}
use Rattle.sg_model.specs.declared.stop.Stop.{Stop}
use Rattle.sg_words.specs.Parse.{lines_of}
use Rattle.sg_words.specs.Pieces.{behind}
use Rattle.sg_words.specs.Answers.{Answer, text_of_answer, text_of_all}
use Rattle.sg_run.specs.Run.{Run}
use Rattle.sg_run.specs.Stocked.{Around}
use Rattle.sg_store.specs.declared.engine.Engine.{Ghosts}
use Rattle.sg_store.specs.Ground.{Ground, IsLawful}
use Rattle.sg_store.specs.Engine.{View, KeepsBy, AsMeantBy}
use Rattle.sg_store.specs.Heeds.{Heeds}
use Rattle.sg_store.specs.Stands.{StandsForFirst}
use Rattle.sg_session.specs.Lines.{Line, LineBy, line_of}
use Rattle.sg_session.specs.Shows.{Core, Shows}
use Rattle.sg_session.specs.Goes.{IsAnswered}
use Rattle.sg_session.specs.Causes.{IsCaused, trouble_in, stop_by}

-- the tail of the log and the count of faults before some lines, and behind them
pub record Span : Type 0 where
  pub begin : ℕ
  pub tail : ℕ
  pub before : ℕ
  pub now : ℕ

abbrev pub span : {g : Ground} → (v w : View g) → Span
span v w = record { begin = v.tail; tail = w.tail; before = v.faults; now = w.faults }

-- what was told of the store around a line lies between these
pub record IsWithin (s : Span) (a : Around) : Type 0 where
  pub begin : s.begin ≤ a.begin
  pub tail : a.tail ≤ s.tail
  pub before : s.before ≤ a.before
  pub now : a.now ≤ s.now

-- THESE LINES may get these answers, each in what was told of the store around it, and the run goes on from y. So each fault that
-- is answered was counted between the first line and the last, and each answer has its cause
abbrev pub Lines : Operations → Span → Run → List (List ℕ) → List Answer → Run → Type 0
Lines t s x [] [] y = y ≡ x
Lines t s x (line ∷ lines) (answer ∷ answers) y = (a : Around) × IsWithin s a × (mid : Run) × LineBy t a x (line_of line) answer mid × Lines t s mid lines answers y
Lines t s x [] (answer ∷ answers) y = ⊥
Lines t s x (line ∷ lines) [] y = ⊥

-- the sink took the replies to all lines whole
abbrev pub TookAll : Option (List ℕ) → Option (List ℕ) → (answers heard : List Answer) → Type 0
TookAll first now answers heard = (heard ≡ answers) × Takes first (text_of_all answers) now

-- the sink took the replies to all lines but the last whole, and a front of the reply to that one
pub record CutAtLast (first now : Option (List ℕ)) (answers heard : List Answer) : Type 0 where
  pub last : Answer
  pub all : answers ≡ heard ++ last ∷ []
  pub mid : Option (List ℕ)
  pub took : Takes first (text_of_all heard) mid
  pub cut : TakesFront mid (text_of_answer last) now

-- EACH ANSWER TO THESE LINES HAS ITS CAUSE, by where the log's tail is behind the last line, and by the counts of faults before the first and
-- behind the last
abbrev pub AreCaused : (tail before now : ℕ) → List (List ℕ) → List Answer → Type 0
AreCaused tail before now [] [] = Unit {0}
AreCaused tail before now (line ∷ lines) (answer ∷ answers) = IsCaused tail tail before now (line_of line) (trouble_in answer) × AreCaused tail before now lines answers
AreCaused tail before now [] (answer ∷ answers) = ⊥
AreCaused tail before now (line ∷ lines) [] = ⊥

-- why a session has stopped behind lines with these answers, if it has
abbrev pub stop_by_all : Option Stop → List (List ℕ) → List Answer → Option Stop
stop_by_all before [] answers = before
stop_by_all before (line ∷ lines) [] = before
stop_by_all before (line ∷ lines) (answer ∷ answers) = stop_by_all (stop_by before (line_of line) (trouble_in answer)) lines answers

-- From x, these lines were executed, and got these answers. In them and behind them a crash leaves what stands for the first commits, all
-- that had been answered among them
pub record Executed (t : Operations) (g : Ground) (v : View g) (x : Run) (lines : List (List ℕ)) (answers : List Answer) (w : View g) (m : Core) : Type 0 where
  pub after : Run
  pub goes : Lines t (span v w) x lines answers after
  pub first : after.so_far.first ≡ x.so_far.first
  pub answered : x.so_far.answered ≤ after.so_far.answered
  pub shows : Shows t g w m after
  pub moments : LeavesOnly v.disk w.disk (StandsForFirst t g x.so_far.answered after)

module _ {E : Type 0} (ghosts : Ghosts E) (t : Operations) where
  -- SOME LINES WERE EXECUTED. A sink took some of the replies to them whole, and what Took says of all and these. Whatever the engine tells
  -- each answer has its cause; where it told, by the disk's own count too, and the lines went so for each run that the session showed
  pub record ExecutedBy (e : E) (k : Core) (lines : List (List ℕ)) (Took : (answers heard : List Answer) → Type 0) (f : E) (m : Core) : Type 0 where
    pub means : KeepsBy t (ghosts.view e) (ghosts.view f)
    pub heeds : Heeds k.store.stopped m.store.stopped (ghosts.view e) (ghosts.view f)
    pub answers : List Answer
    pub heard : List Answer
    pub took : Took answers heard
    pub caused : AreCaused (ghosts.view f).tail (ghosts.view e).faults (ghosts.view f).faults lines answers
    pub own : (ghosts.view e).Told → AreCaused (ghosts.view f).tail (ghosts.view e).disk.faults (ghosts.view f).disk.faults lines answers
    pub stop : m.store.stopped ≡ stop_by_all k.store.stopped lines answers
    pub done : AsMeantBy t (ghosts.view e) (ghosts.view f) (λ g v w. (x : Run) → IsLawful t g → Shows t g v k x → Executed t g v x lines answers w m)

  -- how a session executes one line
  pub record LineGoes (e : E) (k : Core) (line : Line) (Took : Answer → Type 0) (f : E) (m : Core) : Type 0 where
    pub means : KeepsBy t (ghosts.view e) (ghosts.view f)
    pub heeds : Heeds k.store.stopped m.store.stopped (ghosts.view e) (ghosts.view f)
    pub still : IsSome k.store.stopped → (f ≡ e) × (m ≡ k)
    pub is : IsAnswered ghosts t e k line Took f m

-- However a text goes on, so many of its lines are over, and this is the front of the next one
abbrev pub HasEnded : List ℕ → List (List ℕ) → List ℕ → Type 0
HasEnded text over rest = (after : List ℕ) → over ++ behind rest (lines_of after) ≡ lines_of (text ++ after)

-- Of all that was left of a source, this was read, and that is left now. Nothing is said of a source that doesn't tell
abbrev pub HasRead : Option (List ℕ) → List ℕ → Option (List ℕ) → Type 0
HasRead None got left = left ≡ None
HasRead (Some all) got left = (rest : List ℕ) × (left ≡ Some rest) × (all ≡ got ++ rest)

-- however the text goes on, these are its first lines
abbrev pub AreOver : List ℕ → List (List ℕ) → Type 0
AreOver text lines = (after : List ℕ) → (more : List (List ℕ)) × (lines ++ more ≡ lines_of (text ++ after))

-- these lines are over in what was read of a source, or they are all lines of one that is at its end
abbrev pub AreFirst : Option (List ℕ) → List ℕ → List (List ℕ) → Type 0
AreFirst source text lines = AreOver text lines ⊎ ((lines ≡ lines_of text) × IfSome source (λ all. text ≡ all))
