-- What status Done tells.
use Rattle.std.specs.Prelude.{◌≡◌, ℕ, Bool, IsTrue}
use Rattle.sg_base.specs.Ends.{Takes}
use Rattle.sg_disk.specs.Disk as disk
use Rattle.sg_ops.specs.Table.{Table as Operations}
use Rattle.sg_words.specs.Answers.{text_of_all}
use Rattle.sg_run.specs.Run.{committed_objects}
use Rattle.sg_store.specs.Ground.{Ground}
use Rattle.sg_store.specs.Engine.{Sizes}
use Rattle.sg_script.specs.Ending.{AreAll}
use Rattle.sg_commands.specs.declared.status.Status as code_status
use Rattle.sg_commands.specs.declared.status.Status.TheVariants as statuses
use Rattle.sg_commands.specs.Images.{Says, StandsFor, IsOfStore}
use Rattle.sg_commands.specs.Top.{Outside, Ran}

module _ (basis : Sizes → Ground) (says : Says) (t : Operations) (told : Bool) (presumed : Type 0) where
  -- The source was read to its end and all of its lines were executed, the sink took all replies, and each image that a
  -- crash leaves at the return stands for the objects after all commits
  pub record IsAllDone (old new : Outside) (refused : ℕ) (status : code_status.Status) (ran : Ran basis says t told presumed old new refused status) : Type 0 where
    pub executed : AreAll old.left ran.run.text ran.run.lines
    pub took : Takes old.taken (text_of_all ran.run.answers) new.taken
    pub images : (is : IsTrue told) (held : presumed) → (c : disk.Image) → disk.Leaves new.disk.now c → StandsFor basis says t c (committed_objects t (ran.did is held).to.after)

-- so it is with each run that began, over whatever disk, and ended with status Done
abbrev pub DoneTellsAll : (basis : Sizes → Ground) → Says → Type 0
DoneTellsAll basis says = (t : Operations) (told : Bool) (old new : Outside) (refused : ℕ) (status : code_status.Status)
    (ran : Ran basis says t told (IsOfStore basis says t old.disk) old new refused status) → status ≡ statuses.Done
    → IsAllDone basis says t told (IsOfStore basis says t old.disk) old new refused status ran
