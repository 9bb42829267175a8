-- The causes of answers, by what is seen of the disk alone.
use Rattle.std.specs.Prelude.{ℕ, Bool, IsTrue, List, [], ◌∷◌}
use Rattle.sg_disk.specs.Disk as disk
use Rattle.sg_words.specs.Answers.{Answer}
use Rattle.sg_session.specs.Lines.{Line, line_of}
use Rattle.sg_session.specs.Causes.{Trouble, trouble_in, TakesMemory}
use Rattle.sg_session.specs.Causes.Trouble.{NoTrouble, OfDisk, OfLog, OfMemory}
use Rattle.sg_commands.specs.Images.{Says, reads_of, CountRose}
use Rattle.sg_commands.specs.Full.{MayBeFull}

module _ (says : Says) (told : Bool) (presumed : Type 0) (v w : disk.View) where
  -- `error disk` is answered only where a fault was counted, `error log-end` only where so many bytes were handed to the disk that the log may
  -- be full for that line, and `error memory` only to a list of keys or names
  abbrev pub IsCaused : Line → Trouble → Type 0
  IsCaused line NoTrouble = Unit {0}
  IsCaused line OfDisk = CountRose told presumed v w
  IsCaused line OfLog = IsTrue told → MayBeFull (says.log_end (reads_of v)) v w line
  IsCaused line OfMemory = TakesMemory line

  -- each of the answers to these lines is
  abbrev pub AreCaused : List (List ℕ) → List Answer → Type 0
  AreCaused [] [] = Unit {0}
  AreCaused (line ∷ lines) (answer ∷ answers) = IsCaused (line_of line) (trouble_in answer) × AreCaused lines answers
  AreCaused [] (answer ∷ answers) = ⊥
  AreCaused (line ∷ lines) [] = ⊥
