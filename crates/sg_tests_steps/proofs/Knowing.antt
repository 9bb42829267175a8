-- What each call asks follows from what is known before the first call of an action.
use Rattle.std.proofs.Common.{ℕ, ◌≤◌, List, [], ◌∷◌, ◌++◌, length-append, Bool, Option, Some, IsSome, sym, subst, refl, arith}
use Rattle.std.proofs.lemmas.List.{length-map}
use Rattle.sg_array.specs.Array.{Array}
use Rattle.sg_array.specs.Calls.{CanPush, IsRoomy}
use Rattle.sg_array.proofs.Pushes.{per_page-most}
use Rattle.sg_base.specs.Sheet.{Sheet}
use Rattle.sg_blob.specs.Blob.{Blob}
use Rattle.sg_blob.specs.Calls.{CanWriteAt, HasBandsFor}
use Rattle.sg_bucket.specs.Bucket.{Bucket}
use Rattle.sg_bucket.specs.Calls.{CanPutEntry}
use Rattle.sg_bucket.specs.Division.{CanBranch}
use Rattle.sg_catalog.specs.Calls.{CanAdd}
use Rattle.sg_catalog.specs.Catalog.{Catalog, IsCatalog}
use Rattle.sg_hash.specs.Calls.{CanPut, HasFive}
use Rattle.sg_hash.specs.Table.{HashTable}
use Rattle.sg_list.specs.Items as lists
use Rattle.sg_space.specs.Pages.{HasFree}
use Rattle.sg_tests_steps.specs.Knows.{HasRoom, KnowsAdd, KnowsBands, KnowsDivision, KnowsEntry, KnowsItem, KnowsPlace, KnowsPush, KnowsPut}
use Rattle.sg_tests_steps.specs.Steps.{steps_view}
use Rattle.sg_tests_steps.specs.declared.steps.StepSpace.{StepSpace}

pub can_take : (s : StepSpace) {n : ℕ} → HasRoom (steps_view s) n → 1 ≤ n → HasFree (steps_view s) (steps_view s).space.pages
can_take s h some = record { some = let free = h.free in omega arith; may = h.may_take }

-- the pages of an array have as many slots as they have bytes for
pub roomy : (s : StepSpace) (root : ℕ) (a : Array) → IsRoomy (steps_view s) root a
roomy s root a = record {
  first = λ n le. omega arith;
  index = λ j p at n le. omega arith;
  leaf = λ d p at n le. let most = per_page-most a.size in omega arith;
}

pub can_push : (s : StepSpace) {root size : ℕ} {a : Array} → KnowsPush (steps_view s) size a → CanPush (steps_view s) root size a
can_push s {root} {size} {a} h = record {
  fits = h.fits;
  few = h.few;
  roomy = roomy s root a;
  free = λ full. h.room.free;
  may_take = λ full. h.room.may_take;
}

pub has_bands : (s : StepSpace) {root size : ℕ} {b : Blob} → KnowsBands (steps_view s) size b → HasBandsFor (steps_view s) root size b
has_bands s h = record {
  free = h.free;
  may_take = λ more. h.may_take;
  may_fill = λ more n le. omega arith;
}

pub can_write : (s : StepSpace) {root at count : ℕ} {b : Blob} → KnowsPlace (steps_view s) at count b → CanWriteAt (steps_view s) root at count b
can_write s h = record { from = h.from; bands = has_bands s h.bands }

pub can_add : (s : StepSpace) {name : List ℕ} {c : Catalog} → KnowsAdd (steps_view s) name c → CanAdd (steps_view s) name c
can_add s h = record {
  absent = h.absent;
  grow = record { may_fill = λ p own n le. omega arith; free = λ full. can_take s h.room (omega arith) };
}

pub has_five : (s : StepSpace) → HasRoom (steps_view s) 5 → HasFive (steps_view s)
has_five s h = record { free = h.free; may_take = h.may_take }

-- page 0 isn't free where the catalogue is there
has_zero : (s : StepSpace) {c : Catalog} → IsCatalog (steps_view s).space.pages.at c → IsSome ((steps_view s).space.pages.at 0)
has_zero s stands = let page = stands.raw.page 0 0 stands.raw.first in subst (λ (o : Option Sheet). IsSome o) (sym page.is) refl

pub can_put_entry : (s : StepSpace) {b : Bucket} → KnowsEntry (steps_view s) b → CanPutEntry (steps_view s) b
can_put_entry s h = record {
  sound = h.sound;
  add = record { free = h.room.free; may_take = h.room.may_take; may_fill = λ p own n le. le; zero = has_zero s h.stands };
}

pub can_branch : (s : StepSpace) {b : Bucket} → KnowsDivision (steps_view s) b → CanBranch (steps_view s) b
can_branch s h = record { sound = h.sound; free = h.room.free; may_take = h.room.may_take; zero = has_zero s h.stands }

pub can_put : (s : StepSpace) {key : List ℕ} {split : Bool} {t : HashTable} → KnowsPut (steps_view s) key split t → CanPut (steps_view s) key split t
can_put s {key} {split} {t} h = record {
  free = h.room.free;
  free_split = λ yes new. (h.room_split yes new).free;
  may_take = h.room.may_take;
  may_grow = record { names = roomy s t.directory t.names; buckets = λ p own n le. le };
  zero = has_zero s h.stands;
}

-- a list that has the bytes for one item more has a slot for it
pub can_push_item : (s : StepSpace) {root : ℕ} {item : List ℕ} {items : List (List ℕ)} → KnowsItem item items → lists.CanPush (steps_view s) root item items
can_push_item s {root} {item} {items} h = record {
  short = h.short;
  fits = h.fits;
  may = omega (arith, h.fits, length-map (items ++ item ∷ []) (λ (x : List ℕ). Some x), length-append items (item ∷ []));
}
