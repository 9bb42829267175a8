-- How the run of a script ends.
use Rattle.std.specs.Prelude.{◌≡◌, ◌<◌, ◌≤◌, ℕ, List, ◌++◌, length, Option, IfSome}
use Rattle.sg_base.specs.Ends.{HasRisen}
use Rattle.sg_ops.specs.Table.{Table as Operations}
use Rattle.sg_words.specs.Parse.{lines_of}
use Rattle.sg_words.specs.Answers.{Answer}
use Rattle.sg_store.specs.declared.engine.Engine.{Ghosts}
use Rattle.sg_session.specs.Shows.{Core}
use Rattle.sg_script.specs.declared.script.RunEnd as code_end
use Rattle.sg_script.specs.declared.script.RunEnd.TheVariants as ends
use Rattle.sg_script.specs.Script.{AreFirst, TookAll, CutAtLast, ExecutedBy, HasEnded, HasRead}

-- the most bytes of a script
abbrev pub MOST_BYTES : ℕ
MOST_BYTES = 268435456

-- the most bytes of a piece of a script
abbrev pub MOST_OF_PIECE : ℕ
MOST_OF_PIECE = 65536

-- these are all lines of all that a source had
pub record AreAll (source : Option (List ℕ)) (text : List ℕ) (lines : List (List ℕ)) : Type 0 where
  pub whole : IfSome source (λ all. text ≡ all)
  pub short : length text ≤ MOST_BYTES
  pub all : lines ≡ lines_of text

-- these lines are over in the text, however it goes on, and what is left of it hasn't ended
pub record AreAllOver (text : List ℕ) (lines : List (List ℕ)) : Type 0 where
  pub short : length text ≤ MOST_BYTES
  pub rest : List ℕ
  pub over : HasEnded text lines rest

-- with its last piece a text is longer than a script may be, and these lines were over before that
pub record AreOverBefore (text : List ℕ) (lines : List (List ℕ)) : Type 0 where
  pub before : List ℕ
  pub piece : List ℕ
  pub split : text ≡ before ++ piece
  pub short : length before ≤ MOST_BYTES
  pub long : MOST_BYTES < length text
  pub small : length piece ≤ MOST_OF_PIECE
  pub rest : List ℕ
  pub over : HasEnded before lines rest

-- the first lines of what was read
pub record AreSome (source : Option (List ℕ)) (text : List ℕ) (lines : List (List ℕ)) : Type 0 where
  pub short : length text ≤ MOST_BYTES
  pub first : AreFirst source text lines

-- which lines of the text that was read were executed, by how that ended
abbrev pub AreExecuted : code_end.RunEnd → Option (List ℕ) → List ℕ → List (List ℕ) → Type 0
AreExecuted ends.Done source text lines = AreAll source text lines
AreExecuted ends.Read source text lines = AreAllOver text lines
AreExecuted ends.TooLong source text lines = AreOverBefore text lines
AreExecuted ends.Write source text lines = AreSome source text lines

-- which replies the sink took whole, and what of the others: all of them, but for the end of the last one where it failed
-- there
abbrev pub IsHeard : code_end.RunEnd → Option (List ℕ) → Option (List ℕ) → (answers heard : List Answer) → Type 0
IsHeard ends.Write first now answers heard = CutAtLast first now answers heard
IsHeard end first now answers heard = TookAll first now answers heard

-- A script is left, or replies are, only where the source or the sink failed, which the counts of faults before and now
-- show. Each other count is as it was
abbrev pub HasCause : code_end.RunEnd → (source_before source_now sink_before sink_now : ℕ) → Type 0
HasCause ends.Done source_before source_now sink_before sink_now = (source_now ≡ source_before) × (sink_now ≡ sink_before)
HasCause ends.Read source_before source_now sink_before sink_now = HasRisen source_before source_now × (sink_now ≡ sink_before)
HasCause ends.Write source_before source_now sink_before sink_now = (source_now ≡ source_before) × HasRisen sink_before sink_now
HasCause ends.TooLong source_before source_now sink_before sink_now = (source_now ≡ source_before) × (sink_now ≡ sink_before)

-- how the run of a script that ended so went
pub record RunsTo {E : Type 0} (ghosts : Ghosts E) (end : code_end.RunEnd) (t : Operations) (e : E) (k : Core) (source left first now : Option (List ℕ)) (f : E) (m : Core) : Type 0 where
  pub text : List ℕ
  pub read : HasRead source text left
  pub lines : List (List ℕ)
  pub ended : AreExecuted end source text lines
  pub executed : ExecutedBy ghosts t e k lines (IsHeard end first now) f m
