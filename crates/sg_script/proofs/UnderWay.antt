-- A run of a script, between two pieces.
use Rattle.std.proofs.Common.{◌≡◌, ℕ, List, Option, length}
use Rattle.sg_ops.specs.Table.{Table as Operations}
use Rattle.sg_store.specs.declared.engine.Engine.{Ghosts}
use Rattle.sg_session.specs.Shows.{Core}
use Rattle.sg_script.specs.Script.{HasRead, HasEnded}
use Rattle.sg_script.specs.Feeding.{Before}

-- a run so far: what was read, which lines are over, and what is held of the next
pub record IsUnderWay {E : Type 0} (ghosts : Ghosts E) (t : Operations) (e : E) (k : Core) (source left first now : Option (List ℕ)) (f : E) (m : Core) (kept : List ℕ) (total : ℕ) : Type 0 where
  pub text : List ℕ
  pub read : HasRead source text left
  pub size : total ≡ length text
  pub lines : List (List ℕ)
  pub rest : List ℕ
  pub over : HasEnded text lines rest
  pub before : Before ghosts t e k lines first now f m rest kept
