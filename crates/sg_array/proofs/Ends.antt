-- An array that gets an item behind its last one, or loses its last one.
use Rattle.std.proofs.Common.{◌≡◌, ℕ, ◌+◌, ◌*◌, ◌/◌, ◌%◌, ◌<◌, ◌≤◌, max, ◌++◌, List, [], ◌∷◌, length, take, Option, Some, refl, sym, ◌∙◌, subst, arith, slice_get, inl, inr}
use Rattle.std.proofs.lemmas.Bool.{cases_eq}
use Rattle.std.proofs.lemmas.List.{length_push, length-take-le}
use Rattle.std.proofs.lemmas.Option.{slice_get_within}
use Rattle.sg_base.specs.Op.Op.{Put, Remove}
use Rattle.sg_base.specs.Sheet.{Sheet}
use Rattle.sg_ops.specs.Steps.{step}
use Rattle.sg_ops.specs.Table.{Table}
use Rattle.sg_space.specs.Pages.{IsPossible}
use Rattle.sg_space.specs.Units.{Units, HasAt, IsChanged}
use Rattle.sg_space.specs.View.{Space, View}
use Rattle.sg_space.proofs.Changing.{put_possible, remove_possible}
use Rattle.sg_space.proofs.Known.{moved, same_some}
use Rattle.sg_space.proofs.Putting.{put_step, slice_get-push_same, slice_get-push_other}
use Rattle.sg_array.specs.Array.{Array, IsBuilt, IsInLimits, IsItem, IsRoot, IsLeaf, per_page}
use Rattle.sg_array.specs.Steps.{IsLast, CanPutLast, Rewrites, Builds, HasRootPage, pushed, popped, root_of}
use Rattle.sg_array.proofs.Places.{per_page-least, item_place}
use Rattle.sg_array.proofs.Setting.{stands_there}
use Rattle.sg_array.proofs.Sheets.{with_put, without, put_leaf, leaf_free, leaf_bytes, remove_leaf, remove_step, take_others, slice_get-take_within}
use Rattle.sg_array.proofs.Turned.{rewrites, other_kind, leaf_and_root, same_own}

-- the root is still there when an item page was changed
pub root_still : {old new : Units Sheet} {f : Sheet → Option Sheet} {root leaf : ℕ} {a : Array} (d : ℕ) → IsBuilt old.at root a → slice_get a.leaves d ≡ Some leaf → IsChanged old new leaf f → HasAt new.at root (IsRoot a.size (length a.items) a.peak a.index)
root_still {root = root} {leaf = leaf} d h e c =
    let page = h.leaf d leaf e in
    let first = h.names.first in
    moved (c.others root (other_kind page first 4 2 page.has.kind first.has.kind (omega arith))) first

pub root_there : {old : Units Sheet} {f : Sheet → Option Sheet} {root leaf : ℕ} {a : Array} (v : View) (d : ℕ) → IsBuilt old.at root a → slice_get a.leaves d ≡ Some leaf → IsChanged old v.space.pages leaf f → HasRootPage v root
root_there {a = a} v d h e c = record { numbers = root_of a; index = a.index; page = root_still d h e c }

-- the last item's page without it
pub take_page : {pages : ℕ → Option Sheet} {root leaf slot size count peak : ℕ} {a : Array} (h : IsBuilt pages root a) (last : IsLast leaf slot size count peak a) → IsLeaf a.size (take count a.items) (count / per_page a.size) (without (h.leaf (count / per_page a.size) leaf last.place.leaf_is).what slot)
take_page {leaf = leaf} {slot = slot} {count = count} {a = a} h last =
    let at = last.place in
    let some : 15 ≤ per_page a.size = per_page-least a.size h.limits.small in
    let less : count % per_page a.size < per_page a.size = omega arith in
    let place : per_page a.size * (count / per_page a.size) + count % per_page a.size ≡ count = item_place (per_page a.size) count in
    let page = h.leaf (count / per_page a.size) leaf at.leaf_is in
    let long = last.count_is in
    subst (λ (m : ℕ). IsLeaf a.size (take count a.items) (count / per_page a.size) (without page.what m)) (sym at.slot_is)
    (subst (λ (n : ℕ). IsLeaf a.size (take n a.items) (count / per_page a.size) (without page.what (count % per_page a.size))) place
    (remove_leaf a.size (count % per_page a.size) page.has less (rw place long)))

pub take_step : (t : Table) {pages : ℕ → Option Sheet} {root leaf slot size count peak : ℕ} {a : Array} (h : IsBuilt pages root a) (last : IsLast leaf slot size count peak a) → step t (Remove slot) (h.leaf (count / per_page a.size) leaf last.place.leaf_is).what ≡ Some (without (h.leaf (count / per_page a.size) leaf last.place.leaf_is).what slot)
take_step t {slot = slot} h last = remove_step t _ slot _ (stands_there h last.place)

pub take_possible : (t : Table) (v : View) {root leaf slot size count peak : ℕ} {a : Array} → IsBuilt v.space.pages.at root a → IsLast leaf slot size count peak a → HasAt v.space.pages.at leaf (IsPossible t v leaf (Remove slot))
take_possible t v {leaf = leaf} {slot = slot} {count = count} {a = a} h last =
    let page = h.leaf (count / per_page a.size) leaf last.place.leaf_is in
    record { what = page.what; is = page.is; has = remove_possible t v leaf slot (take_step t h last) }

pub take_limits : {a : Array} (count : ℕ) → IsInLimits a → count + 1 ≡ length a.items → IsInLimits (popped count a)
take_limits {a} count h long =
    let short : length (take count a.items) ≡ count = length-take-le count a.items (omega arith) in
    let peak = h.below_peak in
    record {
      some = h.some;
      small = h.small;
      each = λ j x e.
          let below : j < length (take count a.items) = slice_get_within (take count a.items) j x e in
          h.each j x (sym (slice_get-take_within a.items count j (omega arith)) ∙ e);
      below_peak = omega arith;
      few = h.few;
    }

-- the numbers of a root, known to be those of an array
pub root_numbers : {pages : ℕ → Option Sheet} {p size size' count count' peak peak' : ℕ} {index : List ℕ} → size ≡ size' → count ≡ count' → peak ≡ peak' → HasAt pages p (IsRoot size count peak index) → HasAt pages p (IsRoot size' count' peak' index)
root_numbers {pages} {p} {size} {size'} {count} {count'} {peak} {peak'} {index} s c k h =
    subst (λ (n : ℕ). HasAt pages p (IsRoot size' count' n index)) k
    (subst (λ (n : ℕ). HasAt pages p (IsRoot size' n peak index)) c
    (subst (λ (n : ℕ). HasAt pages p (IsRoot n count peak index)) s h))

pub rewrites_root : {old new : Units Sheet} {p size size' count count' peak peak' : ℕ} {index : List ℕ} → size ≡ size' → count ≡ count' → peak ≡ peak' → Rewrites old new p (IsRoot size count peak index) → Rewrites old new p (IsRoot size' count' peak' index)
rewrites_root s c k r = record { here = root_numbers s c k r.here; others = r.others; free = r.free; count = r.count }

pub take_builds : (t : Table) {old mid new : Space} {root leaf slot size count peak : ℕ} {a : Array} → IsBuilt old.pages.at root a → IsLast leaf slot size count peak a → IsChanged old.pages mid.pages leaf (step t (Remove slot)) → mid.bands ≡ old.bands → Rewrites mid.pages new.pages root (IsRoot size count peak a.index) → new.bands ≡ mid.bands → Builds old new root a (popped count a)
take_builds t {slot = slot} {count = count} {a = a} h last c mid_bands r bands =
    let at = last.place in
    let page = h.leaf (count / per_page a.size) _ at.leaf_is in
    let long = last.count_is in
    let short : length (take count a.items) ≡ count = length-take-le count a.items (omega arith) in
    let leaf_part = rewrites page (without page.what slot) c (take_step t h last) (take_page h last) in
    record {
      built = leaf_and_root count (take count a.items) a.peak h at.leaf_is leaf_part (λ i ne. take_others a.items count i long ne) (rewrites_root at.size_is (sym short) last.peak_is r) (take_limits count h.limits long) h.leaf_least;
      pages = same_own a (popped count a) _ refl refl at.leaf_is leaf_part r;
      bands = bands ∙ mid_bands;
    }

-- items with one more
pub push_each : (items : List (List ℕ)) (size : ℕ) (item : List ℕ) → ((j : ℕ) (x : List ℕ) → slice_get items j ≡ Some x → IsItem size x) → IsItem size item → (j : ℕ) (x : List ℕ) → slice_get (items ++ (item ∷ [])) j ≡ Some x → IsItem size x
push_each items size item each fits j x e = elim (cases_eq j (length items)) [
  | inl is ↦ let it : item ≡ x = same_some item x (sym (slice_get-push_same items j item is) ∙ e) in subst (λ (y : List ℕ). IsItem size y) it fits
  | inr ne ↦ each j x (sym (slice_get-push_other items j item ne) ∙ e)
]

pub push_limits : {a : Array} {item : List ℕ} → IsInLimits a → IsItem a.size item → length a.items < 1048576 → IsInLimits (pushed item a)
push_limits {a} {item} h fits few =
    let long : length (a.items ++ (item ∷ [])) ≡ length a.items + 1 = length_push a.items item in
    let most = h.few in
    record {
      some = h.some;
      small = h.small;
      each = push_each a.items a.size item h.each fits;
      below_peak = omega arith;
      few = omega arith;
    }

-- the next item's page with it
pub put_page : {pages : ℕ → Option Sheet} {root leaf : ℕ} {a : Array} (item : List ℕ) (h : IsBuilt pages root a) (at : slice_get a.leaves (length a.items / per_page a.size) ≡ Some leaf) → IsLeaf a.size (a.items ++ (item ∷ [])) (length a.items / per_page a.size) (with_put (h.leaf (length a.items / per_page a.size) leaf at).what (length a.items % per_page a.size) item)
put_page {leaf = leaf} {a = a} item h at =
    let some : 15 ≤ per_page a.size = per_page-least a.size h.limits.small in
    put_leaf a.size (length a.items % per_page a.size) item (h.leaf (length a.items / per_page a.size) leaf at).has (omega arith) (item_place (per_page a.size) (length a.items))

pub put_step_at : (t : Table) {pages : ℕ → Option Sheet} {root leaf : ℕ} {a : Array} (item : List ℕ) (h : IsBuilt pages root a) (at : slice_get a.leaves (length a.items / per_page a.size) ≡ Some leaf) → IsItem a.size item → step t (Put (length a.items % per_page a.size) item) (h.leaf (length a.items / per_page a.size) leaf at).what ≡ Some (with_put (h.leaf (length a.items / per_page a.size) leaf at).what (length a.items % per_page a.size) item)
put_step_at t {leaf = leaf} {a = a} item h at fits =
    let some : 15 ≤ per_page a.size = per_page-least a.size h.limits.small in
    let page = h.leaf (length a.items / per_page a.size) leaf at in
    put_step t page.what (length a.items % per_page a.size) item
    (leaf_free a.size (length a.items % per_page a.size) page.has (omega arith) (item_place (per_page a.size) (length a.items)))
    (leaf_bytes (put_page item h at) (push_each a.items a.size item h.limits.each fits))

pub put_possible_at : (t : Table) (v : View) {root leaf slot size count peak : ℕ} {a : Array} (item : List ℕ) → IsBuilt v.space.pages.at root a → CanPutLast v leaf size count peak a → slot ≡ length a.items % per_page a.size → IsItem a.size item → HasAt v.space.pages.at leaf (IsPossible t v leaf (Put slot item))
put_possible_at t v {leaf = leaf} {a = a} item h can slot_is fits =
    let some : 15 ≤ per_page a.size = per_page-least a.size h.limits.small in
    let page = h.leaf (length a.items / per_page a.size) leaf can.at in
    subst (λ (m : ℕ). HasAt v.space.pages.at leaf (IsPossible t v leaf (Put m item))) (sym slot_is)
    (record { what = page.what; is = page.is; has = put_possible t v leaf (length a.items % per_page a.size) item (can.may_fill _ (omega arith)) (put_step_at t item h can.at fits) })

pub put_builds : (t : Table) {v : View} {mid new : Space} {root leaf slot size count peak : ℕ} {a : Array} (item : List ℕ) (count' peak' : ℕ) → IsBuilt v.space.pages.at root a → CanPutLast v leaf size count peak a → slot ≡ length a.items % per_page a.size → IsItem a.size item → length a.items < 1048576
    → count' ≡ length a.items + 1 → peak' ≡ max a.peak (length a.items + 1)
    → IsChanged v.space.pages mid.pages leaf (step t (Put slot item)) → mid.bands ≡ v.space.bands → Rewrites mid.pages new.pages root (IsRoot size count' peak' a.index) → new.bands ≡ mid.bands → Builds v.space new root a (pushed item a)
put_builds t {v} {mid} {leaf = leaf} {a = a} item count' peak' h can slot_is fits few count_is peak_is c' mid_bands r bands =
    let page = h.leaf (length a.items / per_page a.size) leaf can.at in
    let long : length (a.items ++ (item ∷ [])) ≡ length a.items + 1 = length_push a.items item in
    let c : IsChanged v.space.pages mid.pages leaf (step t (Put (length a.items % per_page a.size) item)) = subst (λ (m : ℕ). IsChanged v.space.pages mid.pages leaf (step t (Put m item))) slot_is c' in
    let leaf_part = rewrites page (with_put page.what (length a.items % per_page a.size) item) c (put_step_at t item h can.at fits) (put_page item h can.at) in
    let room = can.room in
    let least = h.leaf_least in
    record {
      built = leaf_and_root (length a.items) (a.items ++ (item ∷ [])) (max a.peak (length a.items + 1)) h can.at leaf_part (λ i ne. slice_get-push_other a.items i item ne) (rewrites_root can.size_is (count_is ∙ sym long) peak_is r) (push_limits h.limits fits few) (omega arith);
      pages = same_own a (pushed item a) _ refl refl can.at leaf_part r;
      bands = bands ∙ mid_bands;
    }
