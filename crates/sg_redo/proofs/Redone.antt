-- What redo of a record leaves of a page, by whether it is due and fits.
use Rattle.std.proofs.Common.{◌≡◌, ◌<◌, ◌≤◌, ℕ, Bool, true, false, if◌then◌else◌, List, Some, None, refl, sym, ap, ◌∙◌}
use Rattle.std.specs.Prelude.{◌&&◌, nat_lt, is_some}
use Rattle.sg_base.specs.Op.{Op}
use Rattle.sg_base.specs.Page.{lsn_of}
use Rattle.sg_ops.specs.Table.{Table}
use Rattle.sg_slotted.specs.Layout.{lsn_layout}
use Rattle.sg_step.specs.Changed.{changed}
use Rattle.sg_redo.specs.History.{redone, applies}
use Rattle.sg_redo.specs.Page.{fits, made, on_page}
use Rattle.sg_redo.proofs.Versions.{stays, refused, made_is}

made_none : (t : Table) (lsn : ℕ) (op : Op) (page : List ℕ) → false ≡ fits t op page → made t lsn op page ≡ None
unfolding made
made_none t lsn op page e = rw (sym e) refl

made_some : (t : Table) (lsn : ℕ) (op : Op) (page : List ℕ) → true ≡ fits t op page → made t lsn op page ≡ Some (lsn_layout (changed t op page) lsn)
unfolding made
made_some t lsn op page e = rw (sym e) refl

some_if : (b : Bool) (page : List ℕ) → is_some (if b then Some page else None) ≡ b
some_if true page = refl
some_if false page = refl

made_fits : (t : Table) (lsn : ℕ) (op : Op) (page : List ℕ) → is_some (made t lsn op page) ≡ fits t op page
unfolding made
made_fits t lsn op page = some_if (fits t op page) _

-- whether a record is done to a page
pub applies_is : (t : Table) (lsn : ℕ) (op : Op) (page : List ℕ) → applies (on_page t lsn op) page ≡ (nat_lt (lsn_of page) lsn && fits t op page)
applies_is t lsn op page = ap (λ (fit : Bool). nat_lt (lsn_of page) lsn && fit) (made_fits t lsn op page)

pub had : (t : Table) (lsn : ℕ) (op : Op) (page : List ℕ) → lsn ≤ lsn_of page → page ≡ redone (on_page t lsn op) page
had t lsn op page le = sym (stays (on_page t lsn op) page le)

pub unfit : (t : Table) (lsn : ℕ) (op : Op) (old new : List ℕ) → false ≡ fits t op old → new ≡ old → new ≡ redone (on_page t lsn op) old
unfit t lsn op old new e same = same ∙ sym (refused (on_page t lsn op) old (made_none t lsn op old e))

pub done : (t : Table) (lsn : ℕ) (op : Op) (old mid new : List ℕ) → true ≡ fits t op old → lsn_of old < lsn → mid ≡ changed t op old → new ≡ lsn_layout mid lsn → new ≡ redone (on_page t lsn op) old
done t lsn op old mid new e due is numbered =
    numbered ∙ (ap (λ (p : List ℕ). lsn_layout p lsn) is ∙ sym (made_is (on_page t lsn op) old (lsn_layout (changed t op old) lsn) due (made_some t lsn op old e)))
