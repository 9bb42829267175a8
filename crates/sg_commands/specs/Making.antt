-- How a store of given sizes is made.
use Rattle.std.specs.Prelude.{◌≡◌, ◌⊎◌, ◌<◌, ℕ, Bool, IsTrue, List}
use Rattle.std.specs.FinMap.{empty}
use Rattle.sg_base.specs.Ends.{HasRisen, Takes, TakesFront}
use Rattle.sg_base.specs.declared.area.Area.TheVariants.{Home}
use Rattle.sg_disk.specs.Disk as disk
use Rattle.sg_gate.specs.Reads.{OnlyReads}
use Rattle.sg_geometry.specs.declared.geometry.Geometry.{Geometry}
use Rattle.sg_ops.specs.Table.{Table as Operations}
use Rattle.sg_store.specs.Ground.{Ground}
use Rattle.sg_store.specs.Engine.{Sizes}
use Rattle.sg_commands.specs.declared.status.Status as code_status
use Rattle.sg_commands.specs.declared.status.Status.TheVariants as statuses
use Rattle.sg_model.specs.Verb.Reply.{Done}
use Rattle.sg_words.specs.Answers.{text_of_answer}
use Rattle.sg_words.specs.Answers.Answer.{Said}
use Rattle.sg_commands.specs.Images.{Says, StandsFor}
use Rattle.sg_commands.specs.Drawing.{Sunk}

-- the gate of a slot of the superblock is open
abbrev pub HasOpenGate : disk.View → Type 0
HasOpenGate v = ((v.now Home).seen 0 ≡ 1) ⊎ ((v.now Home).seen 4096 ≡ 1)

-- the line that is written where a store was made
abbrev pub MADE : List ℕ
MADE = text_of_answer (Said Done)

-- a store was made: where the sink fails behind that, the status is that of the sink
abbrev pub IsMade : code_status.Status → Type 0
IsMade statuses.Done = Unit {0}
IsMade statuses.Write = Unit {0}
IsMade other = ⊥

-- WHAT IS WRITTEN where a store is to be made: the line that says so where it was; where the sink failed, a front of that; and else nothing
abbrev pub SaysMade : code_status.Status → Sunk → Sunk → Type 0
SaysMade statuses.Done old new = Takes old.taken MADE new.taken × (new.faults ≡ old.faults)
SaysMade statuses.Write old new = TakesFront old.taken MADE new.taken × HasRisen old.faults new.faults
SaysMade other old new = (new.taken ≡ old.taken) × (new.faults ≡ old.faults)

module _ (basis : Sizes → Ground) (says : Says) where
  -- in each image that a crash leaves a store of these sizes can be made
  abbrev pub IsBlank : Geometry → disk.View → Type 0
  IsBlank g v = (c : disk.Image) → disk.Leaves v.now c → says.blank g c

  -- an image is that of a store of these sizes which stands for no objects
  abbrev pub IsEmptyOf : Operations → Geometry → disk.Image → Type 0
  IsEmptyOf t g c = StandsFor basis says t c empty × (says.geometry c ≡ g)

  -- an image of a moment of making one: there is no store in it, or the new one
  abbrev pub IsMaking : Operations → Geometry → disk.Image → Type 0
  IsMaking t g c = says.no_store c ⊎ IsEmptyOf t g c

  -- each image that a crash leaves is that of the new one
  abbrev pub IsNew : Operations → Geometry → disk.View → Type 0
  IsNew t g v = (c : disk.Image) → disk.Leaves v.now c → IsEmptyOf t g c

  -- What each status tells of a store that is made of these sizes, whatever operations it will be opened with. Where there is one already nothing is
  -- written
  abbrev pub TellsMade : Geometry → code_status.Status → Bool → (v w : disk.View) → (refused : ℕ) → Type 0
  TellsMade g statuses.Done told v w refused = (t : Operations) → IsTrue told → IsBlank g v → IsNew t g w
  TellsMade g statuses.Write told v w refused = (t : Operations) → IsTrue told → IsBlank g v → IsNew t g w
  TellsMade g statuses.Disk told v w refused = HasRisen v.faults w.faults ⊎ (0 < refused)
  TellsMade g statuses.Exists told v w refused = (IsTrue told → HasOpenGate v) × OnlyReads told (disk.refusing v 0) (disk.refusing w refused)
  TellsMade g other told v w refused = ⊥

  -- A STORE OF THESE SIZES IS MADE, or not: what the status tells; where there is one already, it isn't done; and each image of each moment has no
  -- store, or the new one
  pub record MakesOf (g : Geometry) (status : code_status.Status) (told : Bool) (v w : disk.View) (refused : ℕ) : Type 0 where
    pub tells : TellsMade g status told v w refused
    pub exists : IsTrue told → HasOpenGate v → IsMade status → ⊥
    pub moments : (t : Operations) → IsTrue told → IsBlank g v → disk.LeavesOnly (disk.refusing v 0) (disk.refusing w refused) (IsMaking t g)
