-- An array of which one item is changed by a registered operation, or changed back.
use Rattle.std.proofs.Common.{◌≡◌, ℕ, ◌/◌, ◌≤◌, List, length, Option, Some, IsSome, IfSome, true, false, refl, sym, ap, ◌∙◌, subst, set, slice_get}
use Rattle.sg_base.specs.Bytes.{IsBytes}
use Rattle.sg_base.specs.Op.Op.{Item, ItemBack}
use Rattle.sg_base.specs.Page.{cell_in}
use Rattle.sg_base.specs.Sheet.{Sheet}
use Rattle.sg_ops.specs.Laws.{IsLawful, law_of}
use Rattle.sg_ops.specs.Steps.{step, IsLeft}
use Rattle.sg_ops.specs.Table.{Table, record_at, after_of, before_of}
use Rattle.sg_ops.proofs.Lookups.{known_if, after_bytes, after_long, before_bytes, before_long}
use Rattle.sg_space.specs.Pages.{IsPossible}
use Rattle.sg_space.specs.Units.{HasAt, IsChanged}
use Rattle.sg_space.specs.View.{Space, View}
use Rattle.sg_space.proofs.Known.{same_some}
use Rattle.sg_array.specs.Array.{Array, IsArray, IsBuilt, IsItem, per_page}
use Rattle.sg_array.specs.Calls.{Turns, CanApply, IsApplied, CanApplyBack, IsAppliedBack}
use Rattle.sg_array.specs.Steps.{IsPlace}
use Rattle.sg_array.proofs.Places.{item_cell}
use Rattle.sg_array.proofs.Setting.{set_page, item_turns}
use Rattle.sg_array.proofs.Sheets.{with_set, item_step, item_back_step}
use Rattle.sg_array.proofs.Turned.{rewrites, with_end}

no : false ≡ true → ⊥
no e = cc

-- the cell that is known to be an item
cell_is : {pages : ℕ → Option Sheet} {root leaf slot size i : ℕ} {a : Array} (item : List ℕ) (h : IsBuilt pages root a) (at : IsPlace i leaf slot size a) → slice_get a.items i ≡ Some item → cell_in ((h.leaf (i / per_page a.size) leaf at.leaf_is).what).slots slot ≡ Some item
cell_is item h at is = item_cell h at ∙ is

pub apply_possible : (t : Table) (v : View) {root leaf slot size i code : ℕ} {arg : List ℕ} {a : Array} → IsBuilt v.space.pages.at root a → IsPlace i leaf slot size a → CanApply t i code arg a → length arg ≤ 256 → HasAt v.space.pages.at leaf (IsPossible t v leaf (Item slot code arg))
apply_possible t v {leaf = leaf} {slot = slot} {i = i} {code = code} {arg = arg} {a = a} h at can short =
    let page = h.leaf (i / per_page a.size) leaf at.leaf_is in
    record {
      what = page.what;
      is = page.is;
      has = record {
        plain = refl;
        fits = subst (λ (o : Option Sheet). IsSome o) (sym (item_step t page.what slot code arg can.item (cell_is can.item h at can.is) can.accepted)) refl;
        done = tt;
        short = short;
        place = λ u. absurd (no u);
      };
    }

pub after_item : {t : Table} {i code : ℕ} {arg : List ℕ} {pages : ℕ → Option Sheet} {root : ℕ} {a : Array} → IsLawful t → IsBytes arg → IsBuilt pages root a → (can : CanApply t i code arg a) → IsItem a.size (after_of (record_at t code) can.item arg)
after_item {t} {i} {code} {arg} lawful bytes h can =
    let was = h.limits.each i can.item can.is in
    record {
      sized = after_long (record_at t code) can.item arg (lawful.undoable code) was.bytes bytes can.accepted ∙ was.sized;
      bytes = after_bytes (record_at t code) can.item arg (lawful.undoable code) was.bytes bytes can.accepted;
    }

pub apply_turns : {t : Table} {old new : Space} {root leaf slot size i code : ℕ} {arg : List ℕ} {a : Array} → IsArray old.pages.at root a → IsPlace i leaf slot size a → (can : CanApply t i code arg a) → IsItem a.size (after_of (record_at t code) can.item arg) → IsChanged old.pages new.pages leaf (step t (Item slot code arg)) → new.bands ≡ old.bands → Turns old new root a (with_end a (set a.items i (after_of (record_at t code) can.item arg)) a.peak)
apply_turns {t} {leaf = leaf} {slot = slot} {i = i} {code = code} {arg = arg} {a = a} h at can fits c bands =
    let page = h.built.leaf (i / per_page a.size) leaf at.leaf_is in
    let item = after_of (record_at t code) can.item arg in
    item_turns item h at fits (rewrites page (with_set page.what slot item) c (item_step t page.what slot code arg can.item (cell_is can.item h.built at can.is) can.accepted) (set_page item h.built at)) bands

pub is_applied : {t : Table} {i code : ℕ} {arg : List ℕ} {a : Array} (can : CanApply t i code arg a) → IsApplied t i code arg a (with_end a (set a.items i (after_of (record_at t code) can.item arg)) a.peak)
is_applied {t} {i} {code} {arg} {a} can = record {
  items = λ item is. ap (λ (x : List ℕ). set a.items i (after_of (record_at t code) x arg)) (same_some can.item item (sym can.is ∙ is));
  same = record { size = refl; peak = refl; index = refl; leaves = refl };
}

pub back_possible : (t : Table) (v : View) {root leaf slot size i code : ℕ} {arg : List ℕ} {a : Array} → IsBuilt v.space.pages.at root a → IsPlace i leaf slot size a → CanApplyBack t i code arg a → length arg ≤ 256 → HasAt v.space.pages.at leaf (IsPossible t v leaf (ItemBack slot code arg))
back_possible t v {leaf = leaf} {slot = slot} {i = i} {code = code} {arg = arg} {a = a} h at can short =
    let page = h.leaf (i / per_page a.size) leaf at.leaf_is in
    let cell = cell_is can.item h at can.is in
    record {
      what = page.what;
      is = page.is;
      has = record {
        plain = refl;
        fits = subst (λ (o : Option Sheet). IsSome o) (sym (item_back_step t page.what slot code arg can.item cell (known_if (record_at t code) arg can.left.item can.left.accepted))) refl;
        done = subst (λ (o : Option (List ℕ)). IfSome o (IsLeft (record_at t code) arg)) (sym cell) can.left;
        short = short;
        place = λ u. absurd (no u);
      };
    }

pub before_item : {t : Table} {i code : ℕ} {arg : List ℕ} {pages : ℕ → Option Sheet} {root : ℕ} {a : Array} → IsLawful t → IsBytes arg → IsBuilt pages root a → (can : CanApplyBack t i code arg a) → IsItem a.size (before_of (record_at t code) can.item arg)
before_item {t} {i} {code} {arg} lawful bytes h can =
    let was = h.limits.each i can.item can.is in
    record {
      sized = before_long (record_at t code) can.item arg (lawful.undoable code) was.bytes bytes ∙ was.sized;
      bytes = before_bytes (record_at t code) can.item arg (lawful.undoable code) was.bytes bytes;
    }

pub back_turns : {t : Table} {old new : Space} {root leaf slot size i code : ℕ} {arg : List ℕ} {a : Array} → IsArray old.pages.at root a → IsPlace i leaf slot size a → (can : CanApplyBack t i code arg a) → IsItem a.size (before_of (record_at t code) can.item arg) → IsChanged old.pages new.pages leaf (step t (ItemBack slot code arg)) → new.bands ≡ old.bands → Turns old new root a (with_end a (set a.items i (before_of (record_at t code) can.item arg)) a.peak)
back_turns {t} {leaf = leaf} {slot = slot} {i = i} {code = code} {arg = arg} {a = a} h at can fits c bands =
    let page = h.built.leaf (i / per_page a.size) leaf at.leaf_is in
    let item = before_of (record_at t code) can.item arg in
    item_turns item h at fits (rewrites page (with_set page.what slot item) c (item_back_step t page.what slot code arg can.item (cell_is can.item h.built at can.is) (known_if (record_at t code) arg can.left.item can.left.accepted)) (set_page item h.built at)) bands

pub is_applied_back : {t : Table} {i code : ℕ} {arg : List ℕ} {a : Array} → IsLawful t → IsBytes arg → (can : CanApplyBack t i code arg a) → IsAppliedBack t i code arg a (with_end a (set a.items i (before_of (record_at t code) can.item arg)) a.peak)
is_applied_back {t} {i} {code} {arg} {a} lawful bytes can = record {
  items = λ item is. ap (λ (x : List ℕ). set a.items i (before_of (record_at t code) x arg)) (same_some can.item item (sym can.is ∙ is));
  undone = λ item in_item accepted is.
      let same : can.item ≡ after_of (record_at t code) item arg = same_some _ _ (sym can.is ∙ is) in
      ap (λ (x : List ℕ). set a.items i x) (ap (λ (x : List ℕ). before_of (record_at t code) x arg) same ∙ law_of t code item arg lawful in_item bytes accepted);
  same = record { size = refl; peak = refl; index = refl; leaves = refl };
}
