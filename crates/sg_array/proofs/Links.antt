-- From the root of an array to its other pages.
use Rattle.std.proofs.Common.{◌≡◌, ℕ, ◌+◌, ◌*◌, ◌/◌, ◌%◌, ◌<◌, ◌^◌, List, length, Option, Some, sym, ap, ◌∙◌, refl, arith, slice_get}
use Rattle.byteorder.specs.Endian.{little_bytes}
use Rattle.sg_base.specs.Page.{cell_in}
use Rattle.sg_base.specs.Sheet.{Sheet}
use Rattle.sg_space.specs.Links.{link_cell}
use Rattle.sg_space.specs.Reads.{HasCell, HasSized}
use Rattle.sg_space.specs.Units.{HasAt}
use Rattle.sg_space.specs.View.{Space, View, OnlyReads}
use Rattle.sg_space.proofs.Known.{read_is, still}
use Rattle.sg_space.proofs.Links.{link_is, there}
use Rattle.sg_array.specs.Array.{Array, NamesPages, IsBuilt, IsRoot, IsArray, ArePages}
use Rattle.sg_array.specs.Steps.{IsOfKind}

-- what stands in a space, said of the space alone
abbrev pub Names : ℕ → Array → Space → Type 0
Names root a s = NamesPages s.pages.at root a

abbrev pub Stands : ℕ → Array → Space → Type 0
Stands root a s = IsArray s.pages.at root a

pub still_names : {v w : View} {root : ℕ} {a : Array} → OnlyReads v w → v.Shows → Names root a v.space → Names root a w.space
still_names {root = root} {a = a} k shows h = still (Names root a) k shows h

pub still_array : {v w : View} {root : ℕ} {a : Array} → OnlyReads v w → v.Shows → Stands root a v.space → Stands root a w.space
still_array {root = root} {a = a} k shows h = still (Stands root a) k shows h

-- a slot of the root names an index page
pub index_link : {pages : ℕ → Option Sheet} {root size count peak : ℕ} {index : List ℕ} (j : ℕ) → HasAt pages root (IsRoot size count peak index) → j < length index → HasAt pages root (HasSized 2 (j + 1) 4)
index_link j h below = record {
  what = h.what;
  is = h.is;
  has = record { kind_is = h.has.kind; cell = _; is = h.has.links j ∙ ap link_cell (there _ j below); size_is = refl };
}

-- and it is the one that was read
pub index_read : {pages : ℕ → Option Sheet} {root size count peak : ℕ} {index : List ℕ} (j n : ℕ) → HasAt pages root (IsRoot size count peak index) → ArePages index → n < 2 ^ 32 → HasAt pages root (HasCell 2 (j + 1) (little_bytes 4 n)) → slice_get index j ≡ Some n
index_read j n h are hn r = link_is _ n (λ p e. are.fit j p e) hn (sym (h.has.links j) ∙ read_is h r)

-- where an item page is named
pub leaf_place : (d : ℕ) → 509 * (d / 509) + d % 509 ≡ d
leaf_place d = omega arith

pub leaf_cell : {pages : ℕ → Option Sheet} {root : ℕ} {a : Array} (d q : ℕ) (h : NamesPages pages root a) (e : slice_get a.index (d / 509) ≡ Some q) → cell_in ((h.index (d / 509) q e).what).slots (d % 509) ≡ link_cell (slice_get a.leaves d)
leaf_cell {a = a} d q h e =
    let below : d % 509 < 509 = omega arith in
    (h.index (d / 509) q e).has.cells (d % 509) below ∙ ap (λ (i : ℕ). link_cell (slice_get a.leaves i)) (leaf_place d)

pub leaf_link : {pages : ℕ → Option Sheet} {root : ℕ} {a : Array} (d q : ℕ) → NamesPages pages root a → slice_get a.index (d / 509) ≡ Some q → d < length a.leaves → HasAt pages q (HasSized 3 (d % 509) 4)
leaf_link d q h e below =
    let page = h.index (d / 509) q e in
    record { what = page.what; is = page.is; has = record { kind_is = page.has.kind; cell = _; is = leaf_cell d q h e ∙ ap link_cell (there _ d below); size_is = refl } }

pub leaf_read : {pages : ℕ → Option Sheet} {root : ℕ} {a : Array} (d q n : ℕ) → NamesPages pages root a → slice_get a.index (d / 509) ≡ Some q → n < 2 ^ 32 → HasAt pages q (HasCell 3 (d % 509) (little_bytes 4 n)) → slice_get a.leaves d ≡ Some n
leaf_read d q n h e hn r = link_is _ n (λ p i. h.leaf_pages.fit d p i) hn (sym (leaf_cell d q h e) ∙ read_is (h.index (d / 509) q e) r)

-- the index page of an item page is there
pub index_below : {pages : ℕ → Option Sheet} {root : ℕ} {a : Array} (d : ℕ) → NamesPages pages root a → d < length a.leaves → d / 509 < length a.index
index_below d h below = let least = h.index_least in omega arith

-- the kinds of the pages that are named
pub index_kind : {pages : ℕ → Option Sheet} {root p : ℕ} {a : Array} → NamesPages pages root a → (j : ℕ) → slice_get a.index j ≡ Some p → HasAt pages p (IsOfKind 3)
index_kind h j e = let page = h.index j _ e in record { what = page.what; is = page.is; has = page.has.kind }

pub leaf_kind : {pages : ℕ → Option Sheet} {root p : ℕ} {a : Array} → IsBuilt pages root a → (d : ℕ) → slice_get a.leaves d ≡ Some p → HasAt pages p (IsOfKind 4)
leaf_kind h d e = let page = h.leaf d _ e in record { what = page.what; is = page.is; has = page.has.kind }
