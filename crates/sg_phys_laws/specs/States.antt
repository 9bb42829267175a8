-- Pages and bands without numbers, and the steps of a log: how the engine's records are read above it.
use Rattle.std.specs.Prelude.{◌≡◌, ◌<◌, ◌≤◌, ◌+◌, ℕ, List, [], ◌∷◌, ◌++◌, length, Option, Some, None, ⊤}
use Rattle.sg_base.specs.Bytes.{IsBytes}
use Rattle.sg_base.specs.Op.{Op}
use Rattle.sg_base.specs.Page.{lsn_of}
use Rattle.sg_base.specs.declared.page.TheConstants.{BAND_SIZE}
use Rattle.sg_log.specs.Frames.{Numbered}
use Rattle.sg_ops.specs.Laws.{IsLawful}
use Rattle.sg_ops.specs.Steps.{BringsBytes}
use Rattle.sg_ops.specs.Table.{Table, range_at, rendered}
use Rattle.sg_record.specs.Changes.{Change}
use Rattle.sg_record.specs.Changes.Change.{Page, SegWrite, SegOp}
use Rattle.sg_redo.specs.Places.{op_said, changed_by}
use Rattle.sg_action.specs.States.{State, Extent}
use Rattle.sg_engine.specs.History.{Homes, made}
use Rattle.sg_engine.specs.Engine.{Origin, entries}
use Rattle.sg_actions.specs.Steps.{Steps, step_of, with_step, repeated}
use Rattle.sg_redo.specs.Leaf.{leaf_of, LinksFit}
use Rattle.sg_phys_laws.specs.Listed.{listed}

-- how many pages and bands a home area has: it doesn't say that, but the superblock before it does
abbrev pub unsaid : Extent
unsaid = record { pages = 0; bands = 0 }

-- WHAT A HOME AREA SAYS: each page without its number, and each band's bytes
abbrev pub state_of : Homes → State
state_of h = record { size = unsaid; pages = λ n. leaf_of (h.page n); bands = λ b. listed BAND_SIZE (h.byte b) }

-- THE STEPS OF A LOG, whose records come oldest first, on some steps; the newest comes first then
abbrev pub steps_on : Steps → List Numbered → Steps
steps_on rs [] = rs
steps_on rs (n ∷ ns) = steps_on (with_step rs n.lsn (step_of n.is)) ns

abbrev pub steps_of : List Numbered → Steps
steps_of ns = steps_on [] ns

-- what these records made of the first home area
abbrev pub homes_of : Origin → List Numbered → Homes
homes_of o ns = made (entries o ns) o.first

-- THE JOINT: what more records made of the bytes says what their steps made of what the bytes said before. Of the records that an opening found
-- nothing is said: their pages may have been written home, so what they make of the home area that was read isn't what their steps make of it
pub record Agrees (t : Table) (o : Origin) (ds more : List Numbered) : Type 0 where
  pub is : state_of (homes_of o (ds ++ more)) ≡ repeated t (state_of (homes_of o ds)) (steps_of more)

-- and so it is of each front that has these: an image of the disk has a front with all that is durable
abbrev pub AllAgree : Table → Origin → (ds all : List Numbered) → Type 0
AllAgree t o ds all = (front more : List Numbered) → (ds ++ front) ++ more ≡ all → Agrees t o ds front

-- an operation may be done to a page's bytes by a record of this number
pub record IsDoable (t : Table) (lsn : ℕ) (op : Op) (page : List ℕ) : Type 0 where
  pub lawful : IsLawful t
  pub brings : BringsBytes op
  pub links : LinksFit op
  pub bytes : IsBytes page
  pub size : length page ≡ 4096
  pub due : lsn_of page < lsn

-- a change may be made to these pages and bands, by a record of this number
abbrev pub IsChangeable : Table → ℕ → Homes → Option Change → Type 0
IsChangeable t lsn h None = ⊤
IsChangeable t lsn h (Some (Page c)) = IsDoable t lsn (op_said c) (h.page c.page)
IsChangeable t lsn h (Some (SegWrite c)) = c.at + length c.after ≤ BAND_SIZE
IsChangeable t lsn h (Some (SegOp c)) = c.at + length (rendered (range_at t c.code) c.arg c.position c.count) ≤ BAND_SIZE

-- the record is the next one, and its change may be made
abbrev pub IsNext : Table → Origin → List Numbered → Numbered → Type 0
IsNext t o ns x = IsChangeable t x.lsn (homes_of o ns) (changed_by x.is.says)
