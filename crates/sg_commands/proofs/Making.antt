-- How a store of given sizes is made.
use Rattle.std.proofs.Common.{◌≡◌, ◌⊎◌, inl, inr, ⊎_elim, ℕ, ◌≤◌, Bool, IsTrue, Result, refl, sym, ap, ◌∙◌, subst}
use Rattle.std.specs.Prelude.{Ok, Err, OnOk}
use Rattle.sg_base.specs.Ends.{HasRisen}
use Rattle.sg_disk.specs.Disk as disk
use Rattle.sg_gate.specs.Reads.{OnlyReads}
use Rattle.sg_geometry.specs.declared.geometry.Geometry.{Geometry}
use Rattle.sg_ops.specs.Table.{Table as Operations}
use Rattle.sg_store.specs.Ground.{Ground}
use Rattle.sg_store.specs.Engine.{Sizes}
use Rattle.sg_commands.specs.declared.opens.InitRefused.{InitRefused}
use Rattle.sg_commands.specs.declared.opens.InitRefused.TheVariants as inits
use Rattle.sg_commands.specs.declared.status.Status as code_status
use Rattle.sg_commands.specs.declared.status.Status.TheVariants as statuses
use Rattle.sg_commands.specs.Images.{Says}
use Rattle.sg_commands.specs.Making.{HasOpenGate, IsBlank, IsMaking, IsNew, IsMade, SaysMade, TellsMade, MakesOf}
use Rattle.sg_commands.specs.Drawing.{Sunk}
use Rattle.sg_commands.specs.Statuses.{status_of_making}
use Rattle.sg_commands.proofs.Endings.{risen_or_refused, unspent}

-- what is written, by the status
pub said_ok : (status made : code_status.Status) (old new : Sunk) → status ≡ made → SaysMade made old new → SaysMade status old new
said_ok status made old new is said = subst (λ (s : code_status.Status). SaysMade s old new) (sym is) said

pub said_err : (why : InitRefused) (status : code_status.Status) (old : Sunk) → status ≡ status_of_making why → SaysMade status old old
said_err why status old is = said_ok status (status_of_making why) old old is (by_why why)
  where
    by_why : (w : InitRefused) → SaysMade (status_of_making w) old old
    by_why inits.DiskFault = (refl, refl)
    by_why inits.Exists = (refl, refl)

pub said_none : (status : code_status.Status) (old : Sunk) → status ≡ statuses.Memory → SaysMade status old old
said_none status old is = said_ok status statuses.Memory old old is (refl, refl)

module _ (basis : Sizes → Ground) (says : Says) (told : Bool) (g : Geometry) where
  -- what making a store does
  pub record Inits (u x : disk.View) (r : Result (Unit {0}) InitRefused) : Type 0 where
    pub exists : IsTrue told → r ≡ Err inits.Exists → HasOpenGate u
    pub unwritten : r ≡ Err inits.Exists → OnlyReads told u x
    pub refused : IsTrue told → HasOpenGate u → r ≡ Ok tt → ⊥
    pub failed : r ≡ Err inits.DiskFault → HasRisen u.faults x.faults
    pub heeded : (r ≡ Err inits.DiskFault → ⊥) → x.faults ≡ u.faults
    pub moments : (t : Operations) → IsTrue told → IsBlank basis says g u → disk.LeavesOnly u x (IsMaking basis says t g)
    pub done : (t : Operations) → IsTrue told → IsBlank basis says g u → OnOk r (IsNew basis says t g x)

  module _ (v w : disk.View) (refused : ℕ) where
    made_ok : (s : code_status.Status) → IsMade s → Inits (disk.refusing v 0) (disk.refusing w refused) (Ok tt) → MakesOf basis says g s told v w refused
    made_ok statuses.Done made h = record { tells = h.done; exists = λ is opened e. h.refused is opened refl; moments = h.moments }
    made_ok statuses.Write made h = record { tells = h.done; exists = λ is opened e. h.refused is opened refl; moments = h.moments }
    made_ok statuses.NotAStore made h = absurd made
    made_ok statuses.Usage made h = absurd made
    made_ok statuses.Memory made h = absurd made
    made_ok statuses.Disk made h = absurd made
    made_ok statuses.Read made h = absurd made
    made_ok statuses.TooLong made h = absurd made
    made_ok (statuses.UnknownOperation code) made h = absurd made
    made_ok (statuses.Damaged area at) made h = absurd made
    made_ok statuses.Exists made h = absurd made
    made_ok statuses.BadGeometry made h = absurd made
    made_ok statuses.LogEnd made h = absurd made

    made_err : (why : InitRefused) → Inits (disk.refusing v 0) (disk.refusing w refused) (Err why) → MakesOf basis says g (status_of_making why) told v w refused
    made_err inits.DiskFault h = record { tells = risen_or_refused v.faults w.faults refused (h.failed refl); exists = λ is opened e. e; moments = h.moments }
    made_err inits.Exists h = record { tells = (λ is. h.exists is refl, h.unwritten refl); exists = λ is opened e. e; moments = h.moments }

    pub makes_ok : (status made : code_status.Status) → status ≡ made → IsMade made → Inits (disk.refusing v 0) (disk.refusing w refused) (Ok tt)
        → MakesOf basis says g status told v w refused
    makes_ok status made is so h = subst (λ (s : code_status.Status). MakesOf basis says g s told v w refused) (sym is) (made_ok made so h)

    pub makes_err : (why : InitRefused) (status : code_status.Status) → status ≡ status_of_making why → Inits (disk.refusing v 0) (disk.refusing w refused)
        (Err why) → MakesOf basis says g status told v w refused
    makes_err why status is h = subst (λ (s : code_status.Status). MakesOf basis says g s told v w refused) (sym is) (made_err why h)

    -- no fault of the disk is passed over
    pub init_heeded : (r : Result (Unit {0}) InitRefused) (status : code_status.Status) → (r ≡ Err inits.DiskFault → status ≡ statuses.Disk) → Inits
        (disk.refusing v 0) (disk.refusing w refused) r → v.faults ≤ w.faults
        → (status ≡ statuses.Disk → ⊥) → (w.faults ≡ v.faults) × (refused ≡ 0)
    init_heeded r status is h later none = unspent v.faults w.faults refused (h.heeded (λ e. none (is e))) later
