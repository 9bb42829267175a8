-- A page of slots stays one, whichever call's layout it gets.
use Rattle.std.proofs.Common.{◌≡◌, ℕ, inr, ⊎_elim, true, List, length, Option, Some, None, is_some, refl, sym, ap, ◌∙◌, subst, arith}
use Rattle.std.proofs.lemmas.Bool.{cases_Bool, cases_lt}
use Rattle.byteorder.specs.Endian.{little_bytes}
use Rattle.sg_base.specs.Bytes.{IsBytes}
use Rattle.sg_base.specs.Op.{Op}
use Rattle.sg_base.specs.Op.Op.{Format, Put, Remove, Set, Links, Item, ItemBack}
use Rattle.sg_base.specs.Overwritten.{overwritten}
use Rattle.sg_base.specs.Page.{slots_of, lsn_of, IsSlotted}
use Rattle.sg_base.specs.Sheet.{Sheet, sheet_of}
use Rattle.sg_base.specs.Slots.{put_in, set_in, remove_in}
use Rattle.sg_ops.proofs.Lookups.{after_long, before_long}
use Rattle.sg_ops.specs.Laws.{IsLawful}
use Rattle.sg_ops.specs.Steps.{item_after, item_before, change_in, step, BringsBytes}
use Rattle.sg_ops.specs.Table.{Table, record_at}
use Rattle.sg_slotted.specs.Layout.{lsn_layout, links_layout}
use Rattle.sg_step.specs.Changed.{changed}
use Rattle.sg_step.proofs.Steps.{redone_is, undone_is, slots_some}
use Rattle.sg_action.specs.States.{step_leaf}
use Rattle.sg_redo.specs.History.{redone}
use Rattle.sg_redo.specs.Page.{fits, on_page}
use Rattle.sg_redo.proofs.Layouts.{put_says, set_says, remove_says, format_says, lsn_says, field}
use Rattle.sg_redo.proofs.Redone.{had, unfit, done}
use Rattle.sg_redo.proofs.Saying.{item_changed, fits_leaf, leaf_slotted}

-- links of any size
links_stay : (p : List ℕ) (a b : ℕ) → IsSlotted p → IsSlotted (links_layout p a b)
unfolding links_layout
links_stay p a b slotted = (field (overwritten p 16 (little_bytes 4 a)) (little_bytes 4 b) 20 (field p (little_bytes 4 a) 16 slotted (inr (omega arith)) (omega arith)).0 (inr (omega arith)) (omega arith)).0

changed_stays : (t : Table) (op : Op) (p : List ℕ) (new : Sheet) → IsLawful t → BringsBytes op → IsBytes p → IsSlotted p → step t op (sheet_of p) ≡ Some new → IsSlotted (changed t op p)
unfolding changed
changed_stays t (Format kind) p new lawful brings bytes slotted e = (format_says p kind slotted.size).0
changed_stays t (Put slot cell) p new lawful brings bytes slotted e = (put_says p slot cell new.slots slotted (slots_some (sheet_of p) new (put_in (slots_of p) slot cell) e).slots).slotted
changed_stays t (Remove slot) p new lawful brings bytes slotted e = (remove_says p slot new.slots slotted (slots_some (sheet_of p) new (remove_in (slots_of p) slot) e).slots).slotted
changed_stays t (Set slot cell) p new lawful brings bytes slotted e = (set_says p slot cell new.slots slotted (slots_some (sheet_of p) new (set_in (slots_of p) slot cell) e).slots).slotted
changed_stays t (Links links) p new lawful brings bytes slotted e = links_stay p links.0 links.1 slotted
changed_stays t (Item slot code arg) p new lawful brings bytes slotted e =
    (item_changed p slot (item_after (record_at t code) arg) new.slots slotted bytes (slots_some (sheet_of p) new (change_in (slots_of p) slot (item_after (record_at t code) arg)) e).slots
    (λ item cell in_item made. let is = redone_is (record_at t code) arg item cell made in
    ap (λ (xs : List ℕ). length xs) is.is ∙ after_long (record_at t code) item arg (lawful.undoable code) in_item brings is.accepted)).slotted
changed_stays t (ItemBack slot code arg) p new lawful brings bytes slotted e =
    (item_changed p slot (item_before (record_at t code) arg) new.slots slotted bytes (slots_some (sheet_of p) new (change_in (slots_of p) slot (item_before (record_at t code) arg)) e).slots
    (λ item cell in_item made. let is = undone_is (record_at t code) arg item cell made in
    ap (λ (xs : List ℕ). length xs) is.is ∙ before_long (record_at t code) item arg (lawful.undoable code) in_item brings)).slotted

some_is : (o : Option Sheet) → is_some o ≡ true → (new : Sheet) × (o ≡ Some new)
some_is None e = absurd cc
some_is (Some new) e = (new, refl)

-- an operation that fits has a step
has_step : (t : Table) (op : Op) (p : List ℕ) → IsSlotted p → fits t op p ≡ true → (new : Sheet) × (step t op (sheet_of p) ≡ Some new)
has_step t op p slotted e = some_is (step t op (sheet_of p)) (ap (λ (l : Option Sheet). is_some (step_leaf t op l)) (sym (leaf_slotted p slotted)) ∙ (sym (fits_leaf t op p) ∙ e))

-- REDO KEEPS A PAGE OF SLOTS ONE, whatever the operation
pub redone_stays : (t : Table) (lsn : ℕ) (op : Op) (p : List ℕ) → IsLawful t → BringsBytes op → IsBytes p → IsSlotted p → IsSlotted (redone (on_page t lsn op) p)
redone_stays t lsn op p lawful brings bytes slotted = ⊎_elim
    (λ due. ⊎_elim
    (λ fit. let has = has_step t op p slotted fit in
    subst IsSlotted (done t lsn op p (changed t op p) (lsn_layout (changed t op p) lsn) (sym fit) due refl refl) (lsn_says (changed t op p) lsn (changed_stays t op p has.0 lawful brings bytes slotted has.1)).0)
    (λ unfitting. subst IsSlotted (unfit t lsn op p p (sym unfitting) refl) slotted)
    (cases_Bool (fits t op p)))
    (λ has. subst IsSlotted (had t lsn op p has) slotted)
    (cases_lt (lsn_of p) lsn)
