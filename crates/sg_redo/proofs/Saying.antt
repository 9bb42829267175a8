-- The bytes that an operation leaves say what its step says.
use Rattle.std.proofs.Common.{◌≡◌, ◌≢◌, ℕ, ◌<◌, ◌≤◌, ◌&&◌, ◌||◌, ◌⊎◌, inl, inr, ⊎_elim, Bool, true, false, nat_lt, List, [], length, Option, Some, None, IfSome, is_some, option_and_then, refl, sym, ap, ◌∙◌, subst, arith}
use Rattle.std.specs.Prelude.{if◌then◌else◌, IsSomeAnd}
use Rattle.sg_base.specs.Bytes.{IsBytes}
use Rattle.sg_base.specs.Op.{Op, is_format}
use Rattle.sg_base.specs.Op.Op.{Format, Put, Remove, Set, Links, Item, ItemBack}
use Rattle.sg_base.specs.Page.{slots_of, cell_in, header_of, kind_of, links_of, lsn_of, IsSlotted, Header}
use Rattle.sg_base.specs.Sheet.{Sheet, sheet_of}
use Rattle.sg_base.specs.Slots.{Slots, cell_bytes, put_in, set_in, remove_in}
use Rattle.sg_base.specs.Slotted.{is_slotted}
use Rattle.sg_base.proofs.CellBytes.{has_bytes}
use Rattle.sg_base.proofs.Testing.{is_slotted_page, slotted_passes}
use Rattle.sg_ops.proofs.Lookups.{after_long, before_long}
use Rattle.sg_ops.specs.Laws.{IsLawful}
use Rattle.sg_ops.specs.Steps.{item_after, item_before, change_in, step, BringsBytes}
use Rattle.sg_ops.specs.Table.{Table, record_at}
use Rattle.sg_slotted.specs.Layout.{lsn_layout, put_layout, remove_layout, set_layout}
use Rattle.sg_slotted.proofs.Changes.{IsChanged}
use Rattle.sg_step.specs.Changed.{with_item, changed}
use Rattle.sg_step.proofs.Steps.{change_is, redone_is, undone_is, slots_some}
use Rattle.sg_redo.specs.History.{redone}
use Rattle.sg_redo.specs.Page.{fits, made, on_page}
use Rattle.sg_redo.proofs.Redone.{unfit, done}
use Rattle.sg_action.specs.States.{step_leaf, or_same}
use Rattle.sg_redo.specs.Leaf.{leaf_of, LinksFit}
use Rattle.sg_redo.proofs.Layouts.{put_says, set_says, remove_says, item_says, lsn_says, links_say, format_says}

-- it is a page of slots that says this
pub record Says (page : List ℕ) (sheet : Sheet) : Type 0 where
  pub slotted : IsSlotted page
  pub is : sheet_of page ≡ sheet

abbrev record_of : ℕ → ℕ × ℕ → Slots → Sheet
record_of k l s = record { kind = k; links = l; slots = s }

same_parts : (k k2 : ℕ) (l l2 : ℕ × ℕ) (s s2 : Slots) → k ≡ k2 → l ≡ l2 → s ≡ s2 → record_of k l s ≡ record_of k2 l2 s2
same_parts k k2 l l2 s s2 a b c = cc

by_parts : (p q : List ℕ) (new : Sheet) → header_of q ≡ header_of p → slots_of q ≡ new.slots → new ≡ record (sheet_of p) { slots = new.slots } → sheet_of q ≡ new
by_parts p q new header slots is =
    same_parts (kind_of q) (kind_of p) (links_of q) (links_of p) (slots_of q) new.slots (ap (λ (h : Header). h.kind) header) (ap (λ (h : Header). h.links) header) slots ∙ sym is

from_slots : (p q : List ℕ) (new : Sheet) (answer : Option Slots) → ((s : Slots) → answer ≡ Some s → IsChanged p q s) → Rattle.sg_ops.specs.Steps.with_slots (sheet_of p) answer ≡ Some new → Says q new
from_slots p q new answer changes e =
    let has = slots_some (sheet_of p) new answer e in
    let c = changes new.slots has.slots in
    record { slotted = c.slotted; is = by_parts p q new c.header c.slots has.is }

-- the page with a change of a cell that keeps its length
pub item_changed : (p : List ℕ) (s : ℕ) (change : List ℕ → Option (List ℕ)) (new : Slots) → IsSlotted p → IsBytes p → change_in (slots_of p) s change ≡ Some new
    → ((item cell : List ℕ) → IsBytes item → change item ≡ Some cell → length cell ≡ length item) → IsChanged p (with_item p s (option_and_then change (cell_in (slots_of p) s))) new
item_changed p s change new slotted bytes e keeps =
    let is = change_is (slots_of p) new s change e in
    let old : List ℕ = cell_bytes (cell_in (slots_of p) s) in
    let has : IsBytes old = subst (λ (o : Option (List ℕ)). IfSome o IsBytes) is.full (has_bytes p bytes s) in
    let there : option_and_then change (cell_in (slots_of p) s) ≡ Some is.cell = ap (option_and_then change) is.full ∙ is.made in
    subst (λ (x : Slots). IsChanged p (with_item p s (option_and_then change (cell_in (slots_of p) s))) x) (sym is.is)
    (subst (λ (o : Option (List ℕ)). IsChanged p (with_item p s o) (Rattle.std.proofs.Common.set (slots_of p) s (Some is.cell))) (sym there) (item_says p s old is.cell slotted is.full (keeps old is.cell has is.made)))

some_is : (a b : Sheet) → Some a ≡ Some b → a ≡ b
some_is a b e = cc

-- THE BYTES THAT AN OPERATION LEAVES SAY WHAT ITS STEP SAYS
pub changed_says : (t : Table) (op : Op) (p : List ℕ) (new : Sheet) → IsLawful t → BringsBytes op → LinksFit op → IsBytes p → IsSlotted p → step t op (sheet_of p) ≡ Some new → Says (changed t op p) new
unfolding changed
changed_says t (Format kind) p new lawful brings links bytes slotted e =
    let f = format_says p kind slotted.size in
    record { slotted = f.0; is = f.1 ∙ some_is (record { kind = kind; links = (0, 0); slots = [] }) new e }
changed_says t (Put slot cell) p new lawful brings links bytes slotted e = from_slots p (put_layout p slot cell) new (put_in (slots_of p) slot cell) (λ s is. put_says p slot cell s slotted is) e
changed_says t (Remove slot) p new lawful brings links bytes slotted e = from_slots p (remove_layout p slot) new (remove_in (slots_of p) slot) (λ s is. remove_says p slot s slotted is) e
changed_says t (Set slot cell) p new lawful brings links bytes slotted e = from_slots p (set_layout p slot cell) new (set_in (slots_of p) slot cell) (λ s is. set_says p slot cell s slotted is) e
changed_says t (Links ls) p new lawful brings links bytes slotted e =
    let f = links_say p ls.0 ls.1 slotted links.0 links.1 in
    record { slotted = f.0; is = f.1 ∙ some_is (record (sheet_of p) { links = ls }) new e }
changed_says t (Item slot code arg) p new lawful brings links bytes slotted e =
    from_slots p (with_item p slot (option_and_then (item_after (record_at t code) arg) (cell_in (slots_of p) slot))) new (change_in (slots_of p) slot (item_after (record_at t code) arg))
    (λ s is. item_changed p slot (item_after (record_at t code) arg) s slotted bytes is
    (λ item cell in_item made. let d = redone_is (record_at t code) arg item cell made in
    ap (λ (xs : List ℕ). length xs) d.is ∙ after_long (record_at t code) item arg (lawful.undoable code) in_item brings d.accepted)) e
changed_says t (ItemBack slot code arg) p new lawful brings links bytes slotted e =
    from_slots p (with_item p slot (option_and_then (item_before (record_at t code) arg) (cell_in (slots_of p) slot))) new (change_in (slots_of p) slot (item_before (record_at t code) arg))
    (λ s is. item_changed p slot (item_before (record_at t code) arg) s slotted bytes is
    (λ item cell in_item made. let d = undone_is (record_at t code) arg item cell made in
    ap (λ (xs : List ℕ). length xs) d.is ∙ before_long (record_at t code) item arg (lawful.undoable code) in_item brings)) e

-- a page of slots says something, and what says something is one
pub leaf_slotted : (page : List ℕ) → IsSlotted page → leaf_of page ≡ Some (sheet_of page)
leaf_slotted page s = let e = slotted_passes page s in rw e refl

pub leaf_says : (page : List ℕ) (sheet : Sheet) → Says page sheet → leaf_of page ≡ Some sheet
leaf_says page sheet s = leaf_slotted page s.slotted ∙ ap (λ (x : Sheet). Some x) s.is

-- THE OPERATION FITS THE BYTES exactly where it fits what they say
pub fits_leaf : (t : Table) (op : Op) (page : List ℕ) → fits t op page ≡ is_some (step_leaf t op (leaf_of page))
unfolding fits
fits_leaf t op page = by op (is_slotted page) refl
  where
    by : (o : Op) (b : Bool) → is_slotted page ≡ b → (is_format o || (is_slotted page && is_some (step t o (sheet_of page)))) ≡ is_some (step_leaf t o (if is_slotted page then Some (sheet_of page) else None))
    by (Format kind) true e = rw e refl
    by (Format kind) false e = rw e refl
    by (Put slot cell) true e = rw e refl
    by (Put slot cell) false e = rw e refl
    by (Remove slot) true e = rw e refl
    by (Remove slot) false e = rw e refl
    by (Set slot cell) true e = rw e refl
    by (Set slot cell) false e = rw e refl
    by (Links ls) true e = rw e refl
    by (Links ls) false e = rw e refl
    by (Item slot code arg) true e = rw e refl
    by (Item slot code arg) false e = rw e refl
    by (ItemBack slot code arg) true e = rw e refl
    by (ItemBack slot code arg) false e = rw e refl

-- bytes that say nothing fit a format alone
plain : (t : Table) (op : Op) (page : List ℕ) (new : Sheet) → length page ≡ 4096 → step_leaf t op None ≡ Some new → Says (changed t op page) new
unfolding changed
plain t (Format kind) page new size f =
    let w = format_says page kind size in
    record { slotted = w.0; is = w.1 ∙ some_is (record { kind = kind; links = (0, 0); slots = [] }) new f }
plain t (Put slot cell) page new size f = absurd cc
plain t (Remove slot) page new size f = absurd cc
plain t (Set slot cell) page new size f = absurd cc
plain t (Links ls) page new size f = absurd cc
plain t (Item slot code arg) page new size f = absurd cc
plain t (ItemBack slot code arg) page new size f = absurd cc

-- what is left of bytes that the operation fits is a page of slots that says its step
pub made_says : (t : Table) (op : Op) (page : List ℕ) (new : Sheet) → IsLawful t → BringsBytes op → LinksFit op → IsBytes page → length page ≡ 4096 → step_leaf t op (leaf_of page) ≡ Some new → Says (changed t op page) new
made_says t op page new lawful brings links bytes size e = by (is_slotted page) refl
  where
    by : (b : Bool) → is_slotted page ≡ b → Says (changed t op page) new
    by true is =
        let leaf : leaf_of page ≡ Some (sheet_of page) = rw is refl in
        changed_says t op page new lawful brings links bytes (is_slotted_page page is) (ap (step_leaf t op) (sym leaf) ∙ e)
    by false is =
        let leaf : leaf_of page ≡ None = rw is refl in
        plain t op page new size (ap (step_leaf t op) (sym leaf) ∙ e)

-- REDO OF BYTES IS THE STEP OF WHAT THEY SAY, where the record's number is above the page's
pub leaf_follows : (t : Table) (lsn : ℕ) (op : Op) (page : List ℕ) → IsLawful t → BringsBytes op → LinksFit op → IsBytes page → length page ≡ 4096 → lsn_of page < lsn
    → leaf_of (redone (on_page t lsn op) page) ≡ or_same (step_leaf t op (leaf_of page)) (leaf_of page)
leaf_follows t lsn op page lawful brings links bytes size due = by (step_leaf t op (leaf_of page)) refl
  where
    by : (o : Option Sheet) → step_leaf t op (leaf_of page) ≡ o → leaf_of (redone (on_page t lsn op) page) ≡ or_same o (leaf_of page)
    by None e =
        let no : fits t op page ≡ false = fits_leaf t op page ∙ ap is_some e in
        ap leaf_of (sym (unfit t lsn op page page (sym no) refl))
    by (Some new) e =
        let yes : fits t op page ≡ true = fits_leaf t op page ∙ ap is_some e in
        let says = made_says t op page new lawful brings links bytes size e in
        let with = lsn_says (changed t op page) lsn says.slotted in
        ap leaf_of (sym (done t lsn op page (changed t op page) (lsn_layout (changed t op page) lsn) (sym yes) due refl refl))
        ∙ leaf_says (lsn_layout (changed t op page) lsn) new (record { slotted = with.0; is = with.1 ∙ says.is })

-- and where it fits, it makes a page of slots
pub made_slotted : (t : Table) (lsn : ℕ) (op : Op) (page : List ℕ) (new : Sheet) → IsLawful t → BringsBytes op → LinksFit op → IsBytes page → length page ≡ 4096 → step_leaf t op (leaf_of page) ≡ Some new
    → (made t lsn op page ≡ Some (lsn_layout (changed t op page) lsn)) × IsSlotted (lsn_layout (changed t op page) lsn)
unfolding made
made_slotted t lsn op page new lawful brings links bytes size e =
    let yes : fits t op page ≡ true = fits_leaf t op page ∙ ap is_some e in
    let says = made_says t op page new lawful brings links bytes size e in
    (rw yes refl, (lsn_says (changed t op page) lsn says.slotted).0)

-- and says its step
pub made_said : (t : Table) (lsn : ℕ) (op : Op) (page : List ℕ) (new : Sheet) → IsLawful t → BringsBytes op → LinksFit op → IsBytes page → length page ≡ 4096 → step_leaf t op (leaf_of page) ≡ Some new
    → IsSomeAnd (made t lsn op page) (λ bytes. IsSlotted bytes × (sheet_of bytes ≡ new))
made_said t lsn op page new lawful brings links bytes size e =
    let says = made_says t op page new lawful brings links bytes size e in
    let with = lsn_says (changed t op page) lsn says.slotted in
    subst (λ (o : Option (List ℕ)). IsSomeAnd o (λ bytes. IsSlotted bytes × (sheet_of bytes ≡ new))) (sym (made_slotted t lsn op page new lawful brings links bytes size e).0) (with.0, with.1 ∙ says.is)
