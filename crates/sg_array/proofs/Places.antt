-- Where an item stands.
use Rattle.std.proofs.Common.{◌≡◌, ℕ, ◌+◌, ◌*◌, ◌/◌, ◌%◌, ◌<◌, ◌≤◌, List, [], ◌++◌, length, Option, Some, sym, ap, ◌∙◌, arith, slice_get, get_or, take, take_all}
use Rattle.std.proofs.lemmas.List.{take-append-le}
use Rattle.std.proofs.lemmas.Option.{slice_get-get_or}
use Rattle.std.proofs.lemmas.Nat.{div_below, le-div}
use Rattle.std.proofs.Math.Nat.{div-add-mod}
use Rattle.sg_base.specs.Page.{cell_in}
use Rattle.sg_base.specs.Sheet.{Sheet}
use Rattle.sg_space.specs.Reads.{HasCell, HasSized}
use Rattle.sg_space.specs.Units.{HasAt}
use Rattle.sg_space.proofs.Known.{read_is}
use Rattle.sg_array.specs.Array.{Array, IsBuilt, per_page}
use Rattle.sg_array.specs.Steps.{IsPlace}

-- a page holds at least 15 items
pub per_page-least : (size : ℕ) → size ≤ 256 → 15 ≤ per_page size
per_page-least size h = le-div 15 4072 (size + 4) (omega arith) (omega arith)

pub leaf_below : {pages : ℕ → Option Sheet} {root : ℕ} {a : Array} (each i : ℕ) → IsBuilt pages root a → each ≡ per_page a.size → i < length a.items → i / each < length a.leaves
leaf_below {a = a} each i h is below =
    let some : 15 ≤ per_page a.size = per_page-least a.size h.limits.small in
    let least : a.peak ≤ per_page a.size * length a.leaves = h.leaf_least in
    let peak : length a.items ≤ a.peak = h.limits.below_peak in
    rw is (div_below i (per_page a.size) (length a.leaves) (omega arith) (omega arith))

pub item_place : (each i : ℕ) → each * (i / each) + i % each ≡ i
item_place each i = div-add-mod i each

-- the cell of an item, in the page where it stands
pub item_cell : {pages : ℕ → Option Sheet} {root : ℕ} {a : Array} {i leaf slot size : ℕ} (h : IsBuilt pages root a) (at : IsPlace i leaf slot size a) → cell_in ((h.leaf (i / per_page a.size) leaf at.leaf_is).what).slots slot ≡ slice_get a.items i
item_cell {a = a} {i = i} {leaf = leaf} h at =
    let some : 15 ≤ per_page a.size = per_page-least a.size h.limits.small in
    let below : i % per_page a.size < per_page a.size = omega arith in
    let page = h.leaf (i / per_page a.size) leaf at.leaf_is in
    rw at.slot_is (page.has.cells (i % per_page a.size) below ∙ ap (λ (n : ℕ). slice_get a.items n) (item_place (per_page a.size) i))

pub item_sized : {pages : ℕ → Option Sheet} {root : ℕ} {a : Array} {i leaf slot size : ℕ} (h : IsBuilt pages root a) (at : IsPlace i leaf slot size a) → HasAt pages leaf (HasSized 4 slot a.size)
item_sized {a = a} {i = i} {leaf = leaf} h at =
    let page = h.leaf (i / per_page a.size) leaf at.leaf_is in
    let item : slice_get a.items i ≡ Some (get_or a.items i []) = slice_get-get_or a.items i [] at.below in
    record { what = page.what; is = page.is; has = record { kind_is = page.has.kind; cell = get_or a.items i []; is = item_cell h at ∙ item; size_is = (h.limits.each i (get_or a.items i []) item).sized } }

pub item_read : {pages : ℕ → Option Sheet} {root : ℕ} {a : Array} {i leaf slot size : ℕ} {bytes : List ℕ} (h : IsBuilt pages root a) (at : IsPlace i leaf slot size a) → HasAt pages leaf (HasCell 4 slot bytes) → slice_get a.items i ≡ Some bytes
item_read {leaf = leaf} h at r = sym (item_cell h at) ∙ read_is (h.leaf _ leaf at.leaf_is) r

-- the front of a list that was put together
pub front_is : (n : ℕ) (xs ys : List ℕ) → length xs ≡ n → take n (xs ++ ys) ≡ xs
front_is n xs ys e = take-append-le n xs ys (omega arith) ∙ take_all n xs (omega arith)

-- the numbers that the code computes of the root's
pub same_quotient : {c c' each size size' : ℕ} → c ≡ c' → each ≡ per_page size → size ≡ size' → c / each ≡ c' / per_page size'
same_quotient {c} {c'} {each} {size} {size'} a b d = ap (λ (x : ℕ). x / each) a ∙ (ap (λ (x : ℕ). c' / x) b ∙ ap (λ (x : ℕ). c' / per_page x) d)

pub same_rest : {c c' each size size' : ℕ} → c ≡ c' → each ≡ per_page size → size ≡ size' → c % each ≡ c' % per_page size'
same_rest {c} {c'} {each} {size} {size'} a b d = ap (λ (x : ℕ). x % each) a ∙ (ap (λ (x : ℕ). c' % x) b ∙ ap (λ (x : ℕ). c' % per_page x) d)
