-- An array of which one item is set, or changed by a registered operation.
use Rattle.std.proofs.Common.{◌≡◌, ◌≢◌, ℕ, ◌+◌, ◌*◌, ◌/◌, ◌%◌, ◌<◌, ◌≤◌, List, [], length, Option, Some, false, refl, sym, ap, ◌∙◌, subst, arith, set, slice_get, get_or, inl, inr}
use Rattle.std.proofs.lemmas.Bool.{cases_eq}
use Rattle.std.proofs.lemmas.List.{length-set}
use Rattle.std.proofs.lemmas.Option.{slice_get-get_or}
use Rattle.sg_base.specs.Op.{shrinks}
use Rattle.sg_base.specs.Op.Op.{Set}
use Rattle.sg_base.specs.Page.{cell_in}
use Rattle.sg_base.specs.Sheet.{Sheet}
use Rattle.sg_ops.specs.Steps.{step}
use Rattle.sg_ops.specs.Table.{Table}
use Rattle.sg_space.specs.Pages.{IsPossible, Changed}
use Rattle.sg_space.specs.Units.{HasAt, IsChanged}
use Rattle.sg_space.specs.View.{Space, View, Keeps}
use Rattle.sg_space.proofs.Changing.{set_possible, keeps_but}
use Rattle.sg_space.proofs.InMemory.{slice_get-set_same, slice_get-set_other}
use Rattle.sg_space.proofs.Known.{moved, same_some}
use Rattle.sg_space.proofs.Owners.{grown}
use Rattle.sg_space.proofs.Putting.{set_step}
use Rattle.sg_array.specs.Array.{Array, IsArray, IsBuilt, IsInLimits, IsItem, IsRoot, IsLeaf, per_page}
use Rattle.sg_array.specs.Calls.{Turns}
use Rattle.sg_array.specs.Steps.{IsPlace, Rewrites}
use Rattle.sg_array.proofs.Places.{per_page-least, item_place, item_cell}
use Rattle.sg_array.proofs.Sheets.{with_set, set_leaf, leaf_bytes, same_size}
use Rattle.sg_array.proofs.Turned.{rewrites, rewrites_same, other_kind, leaf_and_root, same_own, with_end}

-- items of which one was set
pub set_each : (items : List (List ℕ)) (size i : ℕ) (item : List ℕ) → ((j : ℕ) (x : List ℕ) → slice_get items j ≡ Some x → IsItem size x) → i < length items → IsItem size item → (j : ℕ) (x : List ℕ) → slice_get (set items i item) j ≡ Some x → IsItem size x
set_each items size i item each below fits j x e = elim (cases_eq j i) [
  | inl is ↦
      let same : slice_get (set items i item) i ≡ Some item = slice_get-set_same items i item below in
      let now : slice_get (set items i item) i ≡ Some x = ap (λ (n : ℕ). slice_get (set items i item) n) (sym is) ∙ e in
      let it : item ≡ x = same_some item x (sym same ∙ now) in
      subst (λ (y : List ℕ). IsItem size y) it fits
  | inr ne ↦ each j x (sym (slice_get-set_other items i j item ne) ∙ e)
]

pub set_limits : {a : Array} {i : ℕ} {item : List ℕ} → IsInLimits a → i < length a.items → IsItem a.size item → IsInLimits (with_end a (set a.items i item) a.peak)
set_limits {a} {i} {item} h below fits = record {
  some = h.some;
  small = h.small;
  each = set_each a.items a.size i item h.each below fits;
  below_peak = let long = length-set a.items i item in let peak = h.below_peak in omega arith;
  few = h.few;
}

-- the page of an item, after it was set
pub set_page : {pages : ℕ → Option Sheet} {root leaf slot size i : ℕ} {a : Array} (item : List ℕ) (h : IsBuilt pages root a) (at : IsPlace i leaf slot size a) → IsLeaf a.size (set a.items i item) (i / per_page a.size) (with_set (h.leaf (i / per_page a.size) leaf at.leaf_is).what slot item)
set_page {leaf = leaf} {slot = slot} {i = i} {a = a} item h at =
    let some : 15 ≤ per_page a.size = per_page-least a.size h.limits.small in
    let less : i % per_page a.size < per_page a.size = omega arith in
    let place : per_page a.size * (i / per_page a.size) + i % per_page a.size ≡ i = item_place (per_page a.size) i in
    let page = h.leaf (i / per_page a.size) leaf at.leaf_is in
    let below = at.below in
    subst (λ (m : ℕ). IsLeaf a.size (set a.items i item) (i / per_page a.size) (with_set page.what m item)) (sym at.slot_is)
    (subst (λ (n : ℕ). IsLeaf a.size (set a.items n item) (i / per_page a.size) (with_set page.what (i % per_page a.size) item)) place
    (set_leaf a.size (i % per_page a.size) item page.has less (rw place below)))

-- the item that stands there
pub stands_there : {pages : ℕ → Option Sheet} {root leaf slot size i : ℕ} {a : Array} (h : IsBuilt pages root a) (at : IsPlace i leaf slot size a) → cell_in ((h.leaf (i / per_page a.size) leaf at.leaf_is).what).slots slot ≡ Some (get_or a.items i [])
stands_there {i = i} {a = a} h at = item_cell h at ∙ slice_get-get_or a.items i [] at.below

pub set_step_at : (t : Table) {pages : ℕ → Option Sheet} {root leaf slot size i : ℕ} {a : Array} {item : List ℕ} (h : IsBuilt pages root a) (at : IsPlace i leaf slot size a) → IsItem a.size item → step t (Set slot item) (h.leaf (i / per_page a.size) leaf at.leaf_is).what ≡ Some (with_set (h.leaf (i / per_page a.size) leaf at.leaf_is).what slot item)
set_step_at t {slot = slot} {i = i} {a = a} {item = item} h at fits = set_step t _ slot _ item (stands_there h at) (leaf_bytes (set_page item h at) (set_each a.items a.size i item h.limits.each at.below fits))

pub set_possible_at : (t : Table) (v : View) {root leaf slot size i : ℕ} {a : Array} {item : List ℕ} → IsBuilt v.space.pages.at root a → IsPlace i leaf slot size a → IsItem a.size item → HasAt v.space.pages.at leaf (IsPossible t v leaf (Set slot item))
set_possible_at t v {leaf = leaf} {slot = slot} {i = i} {a = a} {item = item} h at fits =
    let page = h.leaf (i / per_page a.size) leaf at.leaf_is in
    record { what = page.what; is = page.is; has = set_possible t v leaf slot item (set_step_at t h at fits) }

-- an array of which the page of one item says that it's another one
pub item_turns : {old new : Space} {root leaf slot size i : ℕ} {a : Array} (item : List ℕ) → IsArray old.pages.at root a → IsPlace i leaf slot size a → IsItem a.size item → Rewrites old.pages new.pages leaf (IsLeaf a.size (set a.items i item) (i / per_page a.size)) → new.bands ≡ old.bands → Turns old new root a (with_end a (set a.items i item) a.peak)
item_turns {old} {new} {root} {leaf} {i = i} {a = a} item h at fits c bands =
    let built = h.built in
    let long : length (set a.items i item) ≡ length a.items = length-set a.items i item in
    let page = built.leaf (i / per_page a.size) leaf at.leaf_is in
    let first = built.names.first in
    let other : root ≢ leaf = other_kind page first 4 2 page.has.kind first.has.kind (omega arith) in
    let root_page : HasAt new.pages.at root (IsRoot a.size (length (set a.items i item)) a.peak a.index) = subst (λ (n : ℕ). HasAt new.pages.at root (IsRoot a.size n a.peak a.index)) (sym long) (moved (c.others root other) first) in
    record {
      array = record {
        built = leaf_and_root i (set a.items i item) a.peak built at.leaf_is c (λ j ne. slice_get-set_other a.items i j item ne) (rewrites_same root_page) (set_limits built.limits at.below fits) built.leaf_least;
        index_most = h.index_most;
        leaf_most = h.leaf_most;
      };
      pages = grown (same_own a (with_end a (set a.items i item) a.peak) _ refl refl at.leaf_is c (rewrites_same root_page));
      bands = bands;
    }

pub set_turns : (t : Table) {old new : Space} {root leaf slot size i : ℕ} {a : Array} {item : List ℕ} → IsArray old.pages.at root a → IsPlace i leaf slot size a → IsItem a.size item → IsChanged old.pages new.pages leaf (step t (Set slot item)) → new.bands ≡ old.bands → Turns old new root a (with_end a (set a.items i item) a.peak)
set_turns t {leaf = leaf} {slot = slot} {i = i} {a = a} {item = item} h at fits c bands =
    let page = h.built.leaf (i / per_page a.size) leaf at.leaf_is in
    item_turns item h at fits (rewrites page (with_set page.what slot item) c (set_step_at t h.built at fits) (set_page item h.built at)) bands

-- an item that is set leaves its page as large as it was
pub set_keeps : {t : Table} {v w : View} {root leaf slot size i : ℕ} {a : Array} {item : List ℕ} → IsBuilt v.space.pages.at root a → IsPlace i leaf slot size a → length item ≡ a.size → Changed t v w leaf (Set slot item) → Keeps v w
set_keeps {leaf = leaf} {slot = slot} {i = i} {a = a} {item = item} h at fits c =
    let page = h.leaf (i / per_page a.size) leaf at.leaf_is in
    let was : length (get_or a.items i []) ≡ a.size = (h.limits.each i (get_or a.items i []) (slice_get-get_or a.items i [] at.below)).sized in
    keeps_but c (λ sheet is. subst (λ (s : Sheet). shrinks (Set slot item) s ≡ false) (same_some _ _ (sym page.is ∙ is)) (same_size (page.what).slots slot _ item (stands_there h at) (fits ∙ sym was)))
