-- What a session does, from one of its values to another.
use Rattle.std.specs.Prelude.{ℕ, List, Option}
use Rattle.sg_ops.specs.Table.{Table as Operations}
use Rattle.sg_model.specs.declared.stop.Stop.{Stop}
use Rattle.sg_words.specs.Answers.{Answer}
use Rattle.sg_store.specs.declared.engine.Engine.{Ghosts}
use Rattle.sg_session.specs.declared.session.Session as code_session
use Rattle.sg_session.specs.Lines.{Line}
use Rattle.sg_session.specs.Seen.{session_core, session_engine}
use Rattle.sg_script.specs.declared.script.RunEnd as code_end
use Rattle.sg_script.specs.Script.{LineGoes}
use Rattle.sg_script.specs.Feeding.{Feeds, BreaksOff}
use Rattle.sg_script.specs.Ending.{RunsTo}
use Rattle.sg_script.specs.Course.{Ran}

-- it executes one line
abbrev pub Goes : {E : Type 0} {ghosts : Ghosts E} → Operations → (old new : code_session.Session E ghosts) → Line → (Answer → Type 0) → Type 0
Goes {ghosts = ghosts} t old new line Took = LineGoes ghosts t (session_engine old) (session_core old) line Took (session_engine new) (session_core new)

-- it executes the lines that a piece ends, up to the one at which the sink fails
abbrev pub IsFed : {E : Type 0} {ghosts : Ghosts E} → Operations → (old new : code_session.Session E ghosts) → (mid now : Option (List ℕ)) → (had piece kept : List ℕ) → Type 0
IsFed {ghosts = ghosts} t old new mid now had piece kept = Feeds ghosts t (session_engine old) (session_core old) (session_engine new) (session_core new) mid now had piece kept

abbrev pub IsBroken : {E : Type 0} {ghosts : Ghosts E} → Operations → (old new : code_session.Session E ghosts) → (mid now : Option (List ℕ)) → (had piece : List ℕ) → Type 0
IsBroken {ghosts = ghosts} t old new mid now had piece = BreaksOff ghosts t (session_engine old) (session_core old) (session_engine new) (session_core new) mid now had piece

-- it runs a script
abbrev pub HasRun : {E : Type 0} {ghosts : Ghosts E} → code_end.RunEnd → Operations → (old new : code_session.Session E ghosts) → (source left first now : Option (List ℕ)) → Type 0
HasRun {ghosts = ghosts} end t old new source left first now = RunsTo ghosts end t (session_engine old) (session_core old) source left first now (session_engine new) (session_core new)

-- it runs a script, and is ended behind it
abbrev pub RanTo : {E : Type 0} {ghosts : Ghosts E} → code_end.RunEnd → Operations → (old : code_session.Session E ghosts) → (source left first now : Option (List ℕ)) → (by_then stopped : Option Stop) → E → Type 0
RanTo {ghosts = ghosts} end t old source left first now by_then stopped f = Ran ghosts t end (session_engine old) (session_core old) source left first now by_then stopped f
