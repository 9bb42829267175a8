-- How the run of a session goes and ends.
use Rattle.std.specs.Prelude.{◌≡◌, ◌≤◌, ◌+◌, ℕ, List, [], ◌∷◌, length, Option, take, None}
use Rattle.sg_disk.specs.Disk as disk
use Rattle.sg_ops.specs.Table.{Table as Operations}
use Rattle.sg_model.specs.declared.stop.Stop.{Stop}
use Rattle.sg_model.specs.Verb.Reply.{Done}
use Rattle.sg_words.specs.Answers.{Answer}
use Rattle.sg_words.specs.Answers.Answer.{Said}
use Rattle.sg_words.specs.Requests.Asked.{Of}
use Rattle.sg_words.specs.Requests.Request.{Commit}
use Rattle.sg_session.specs.Lines.{Line, line_of}
use Rattle.sg_session.specs.Lines.Line.{Other}
use Rattle.sg_run.specs.Run.{Run, committed_objects}
use Rattle.sg_run.specs.Serial.{IsSerial}
use Rattle.sg_store.specs.declared.engine.Engine.{Ghosts}
use Rattle.sg_store.specs.Ground.{Ground, IsLawful}
use Rattle.sg_store.specs.Engine.{View, AsMeantBy}
use Rattle.sg_store.specs.Stands.{StandsFor, StandsForFirst}
use Rattle.sg_session.specs.Shows.{Core, Shows}
use Rattle.sg_session.specs.Ending.{IsEnded}
use Rattle.sg_script.specs.declared.script.RunEnd as code_end
use Rattle.sg_script.specs.Script.{Span, span, Lines, AreCaused, stop_by_all, HasRead}
use Rattle.sg_script.specs.Ending.{AreExecuted, IsHeard}

-- Each run to which so many first lines lead with these answers is serial, unless the store has stopped there: each entry of a
-- committed transaction got the reply or the reason that it gets where the committed transactions run one whole transaction after
-- another, in the order of their commits, and the objects are those of the history without what aborted transactions did, and without what was
-- taken back to a mark
abbrev pub IsSerialThroughout : Operations → Span → Run → List (List ℕ) → List Answer → Type 0
IsSerialThroughout t s x lines answers = (n : ℕ) (mid : Run) → Lines t s x (take n lines) (take n answers) mid → mid.stopped ≡ None → IsSerial t mid

-- a commit that was answered `ok`
abbrev pub acks : Line → Answer → ℕ
acks (Other (Of name Commit)) (Said Done) = 1
acks line answer = 0

-- how many commits among these lines were answered `ok`, as far as the answers go
abbrev pub acknowledged : List (List ℕ) → List Answer → ℕ
acknowledged [] answers = 0
acknowledged (line ∷ lines) [] = 0
acknowledged (line ∷ lines) (answer ∷ answers) = acks (line_of line) answer + acknowledged lines answers

-- THE COURSE OF A RUN from a session that showed x, whose engine told: which run the lines led to with these answers, and how the session was
-- ended behind it. What a crash leaves stands for the objects after the first commits: at each moment for all that had been answered
-- before the run, at the return for all that were answered in it. Where the session hasn't stopped it stands for the objects after all
pub record Course (t : Operations) (g : Ground) (v : View g) (x : Run) (lines : List (List ℕ)) (answers heard : List Answer) (by_then stopped : Option Stop) (w : View g) : Type 0 where
  -- the run behind the lines, and what was shown then
  pub after : Run
  pub was : by_then ≡ after.stopped
  pub answered : by_then ≡ None → after.so_far.answered ≡ length after.so_far.commits
  pub shown : View g
  pub goes : Lines t (span v shown) x lines answers after
  pub first : after.so_far.first ≡ x.so_far.first
  pub serial : IsSerialThroughout t (span v shown) x lines answers
  pub ended : IsEnded t g shown after stopped w
  pub moments : disk.LeavesOnly v.disk w.disk (StandsForFirst t g x.so_far.answered after)
  pub exit : (c : disk.Image) → disk.Leaves w.disk.now c → StandsForFirst t g after.so_far.answered after c
  -- at most one commit of the run wasn't acknowledged, by an `ok` that the sink took whole
  pub one_more : length after.so_far.commits ≤ length x.so_far.commits + acknowledged lines heard + 1
  pub done : stopped ≡ None → (c : disk.Image) → disk.Leaves w.disk.now c → StandsFor t g c (committed_objects t after)

module _ {E : Type 0} (ghosts : Ghosts E) (t : Operations) where
  -- A RUN: what was read, which lines of it were executed and what they were answered, each with its cause, of which the sink took what the
  -- script's end says; why the session had stopped by then, if it had; and then the session was ended. All of this is said of any engine,
  -- and of one that told the course of each run that the session showed
  pub record Ran (end : code_end.RunEnd) (e : E) (k : Core) (source left first now : Option (List ℕ)) (by_then stopped : Option Stop) (f : E) : Type 0 where
    pub text : List ℕ
    pub read : HasRead source text left
    pub lines : List (List ℕ)
    pub executed : AreExecuted end source text lines
    pub answers : List Answer
    pub heard : List Answer
    pub took : IsHeard end first now answers heard
    pub caused : AreCaused (ghosts.view f).tail (ghosts.view e).faults (ghosts.view f).faults lines answers
    -- where the engine told, a fault of the disk that is answered is one that the disk itself counted
    pub own : (ghosts.view e).Told → AreCaused (ghosts.view f).tail (ghosts.view e).disk.faults (ghosts.view f).disk.faults lines answers
    pub stop : by_then ≡ stop_by_all k.store.stopped lines answers
    pub course : AsMeantBy t (ghosts.view e) (ghosts.view f) (λ g v w. (x : Run) → IsLawful t g → Shows t g v k x → Course t g v x lines answers heard by_then stopped w)
