-- Which sizes a new store is to have, and what comes of making it.
use Rattle.std.specs.Prelude.{◌≡◌, ◌⊎◌, ℕ, Bool, true, false, IsTrue, List, Option, Some, None, IfSome}
use Rattle.sg_base.specs.Ends.{HasRisen}
use Rattle.sg_command.specs.File.{IsTakenOf, IsAtEnd, SaysNone}
use Rattle.sg_command.specs.Sizes as texts
use Rattle.sg_disk.specs.Disk as disk
use Rattle.sg_geometry.specs.Fit.{is_fit}
use Rattle.sg_geometry.specs.declared.geometry.Geometry.{Geometry}
use Rattle.sg_store.specs.Ground.{Ground}
use Rattle.sg_store.specs.Engine.{Sizes}
use Rattle.sg_commands.specs.declared.status.Status as code_status
use Rattle.sg_commands.specs.declared.status.Status.TheVariants as statuses
use Rattle.sg_commands.specs.Images.{Says}
use Rattle.sg_commands.specs.Making.{HasOpenGate, IsBlank, MakesOf}
use Rattle.sg_commands.specs.Top.{Outside}

-- the sizes of a store where no file says them
abbrev pub USUAL : Geometry
USUAL = record { pages = 16384; bands = 1024; frames = 256; windows = 32 }

-- THE SIZES THAT A NEW STORE IS TO HAVE: those that all of the source's text says, where a file says them, and else the usual ones. Of a source that
-- doesn't tell its text it is said that they are fit
abbrev pub AreAsked : (by_file : Bool) → Option (List ℕ) → Geometry → Type 0
AreAsked false left g = g ≡ USUAL
AreAsked true None g = IsTrue (is_fit g)
AreAsked true (Some text) g = texts.Says text g

-- why there are none: for want of memory; or since the source failed; or since what it gives says none that are fit
abbrev pub HasNoSizes : code_status.Status → (by_file : Bool) → (old new : Outside) → Type 0
HasNoSizes statuses.Memory by_file old new = new.source_faults ≡ old.source_faults
HasNoSizes statuses.Read by_file old new = (by_file ≡ true) × HasRisen old.source_faults new.source_faults
HasNoSizes statuses.BadGeometry by_file old new = (by_file ≡ true) × IfSome old.left SaysNone × (new.source_faults ≡ old.source_faults)
HasNoSizes other by_file old new = ⊥

-- nothing hinders making one: the disk tells, and has none, the source's text says fit sizes where a file says them, no count of faults can have
-- risen, and no call was refused
pub record IsMakeable (by_file : Bool) (told : Bool) (old new : Outside) (refused : ℕ) : Type 0 where
  pub is_told : IsTrue told
  pub none : HasOpenGate old.disk → ⊥
  pub sizes : by_file ≡ true → (text : List ℕ) × (g : Geometry) × (old.left ≡ Some text) × texts.Says text g
  pub disk : HasRisen old.disk.faults new.disk.faults → ⊥
  pub passed : refused ≡ 0
  pub source : HasRisen old.source_faults new.source_faults → ⊥
  pub sink : HasRisen old.sink_faults new.sink_faults → ⊥

module _ (basis : Sizes → Ground) (says : Says) where
  -- making a store didn't begin: there are no sizes for it, and the disk isn't called. Where one of any sizes can be made, there is none
  pub record NeverMade (status : code_status.Status) (by_file : Bool) (told : Bool) (old new : Outside) (refused : ℕ) : Type 0 where
    pub why : HasNoSizes status by_file old new
    pub uncalled : new.disk ≡ old.disk
    pub passed : refused ≡ 0
    pub moments : (g : Geometry) → IsTrue told → IsBlank basis says g old.disk → disk.LeavesOnly (disk.refusing old.disk 0) (disk.refusing new.disk refused) says.no_store

  -- making one began, with the sizes that it is to have: a source that says them was read to its end
  pub record Made (status : code_status.Status) (by_file : Bool) (told : Bool) (old new : Outside) (refused : ℕ) : Type 0 where
    pub sizes : Geometry
    pub asked : AreAsked by_file old.left sizes
    pub whole : by_file ≡ true → IsAtEnd new.left
    pub quiet : new.source_faults ≡ old.source_faults
    pub makes : MakesOf basis says sizes status told old.disk new.disk refused

  -- WHAT COMES OF IT: it began or it didn't, no more is read of the source than the longest text and a byte, and where nothing hinders it, it is done,
  -- or there is no memory for the words or the text
  pub record Makes (status : code_status.Status) (by_file : Bool) (told : Bool) (old new : Outside) (refused : ℕ) : Type 0 where
    pub gone : NeverMade status by_file told old new refused ⊎ Made status by_file told old new refused
    pub read : IsTakenOf 65537 old.left new.left
    pub completes : IsMakeable by_file told old new refused → (status ≡ statuses.Done) ⊎ (status ≡ statuses.Memory)
