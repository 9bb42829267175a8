-- The root page of a blob.
use Rattle.std.proofs.Common.{◌≡◌, ℕ, suc, ◌+◌, ◌-◌, ◌*◌, ◌<◌, ◌≤◌, ◌==◌, nat_lt, ◌++◌, true, false, List, [], ◌∷◌, length, Option, Some, IsSome, sym, ap, ◌∙◌, refl, arith, set, get_or, slice_get, inl, inr, subst, add-one}
use Rattle.std.proofs.lemmas.Bool.{cases_eq}
use Rattle.std.proofs.lemmas.Bool.Decides.{nat_tests}
use Rattle.std.proofs.lemmas.List.{length-set}
use Rattle.std.proofs.lemmas.List.Sums.{sum_by-cons}
use Rattle.std.proofs.lemmas.Option.{slice_get-get_or, slice_get_past}
use Rattle.byteorder.specs.Endian.{little_bytes}
use Rattle.sg_base.specs.Op.{shrinks}
use Rattle.sg_base.specs.Op.Op.{Set, Put}
use Rattle.sg_base.specs.Page.{cell_in, cell_size, stored, bytes_of}
use Rattle.sg_base.specs.Sheet.{Sheet}
use Rattle.sg_base.specs.Slots.{IsFree, with_cell}
use Rattle.sg_ops.specs.Steps.{step}
use Rattle.sg_ops.specs.Table.{Table}
use Rattle.sg_slotted.proofs.Room.{full_below}
use Rattle.sg_space.specs.Pages.{IsPossible, Changed}
use Rattle.sg_space.specs.Units.{Units, HasAt, IsChanged}
use Rattle.sg_space.specs.View.{Space, View, Keeps, MayFill}
use Rattle.sg_space.proofs.Known.{moved, same_some}
use Rattle.sg_space.proofs.Changing.{keeps_but}
use Rattle.sg_space.proofs.Owners.{grows_same}
use Rattle.sg_space.proofs.Putting.{cell-set_same, cell-set_other, cell-with_same, cell-with_other, length-with, put_step, set_step, slice_get-push_same, slice_get-push_other}
use Rattle.sg_space.specs.Links.{link_cell}
use Rattle.sg_space.proofs.Links.{link_size, stored_most}
use Rattle.sg_blob.specs.Raw.{IsRoot, root_cell, Raw, IsRaw}
use Rattle.sg_blob.specs.Steps.{with_root, RawTurns}
use Rattle.sg_blob.proofs.Turned.{root_changed}

-- a first cell of 8 bytes at most, and others of 4
pub bytes_most : (slots : List (Option (List ℕ))) → cell_size (cell_in slots 0) ≤ 8 → ((j : ℕ) → cell_size (cell_in slots (suc j)) ≤ 4) → length slots ≤ 501 → bytes_of slots ≤ 4072
bytes_most [] first rest few = omega arith
bytes_most (x ∷ xs) first rest few =
    let most : stored xs ≤ 4 * length xs = stored_most xs 4 (λ m. rest m) in
    let sum : stored (x ∷ xs) ≡ cell_size x + stored xs = sum_by-cons cell_size x xs in
    omega arith

pub root_bytes : {count peak : ℕ} {bands : List ℕ} {sheet : Sheet} → IsRoot count peak bands sheet → bytes_of sheet.slots ≤ 4072
root_bytes {bands = bands} {sheet = sheet} h = bytes_most sheet.slots (rw h.first (omega arith)) (λ j. rw (← add-one, h.links j) (link_size (slice_get bands j))) h.few

-- the sheet with another first cell
abbrev pub sheet_with_root : ℕ → ℕ → Sheet → Sheet
sheet_with_root count peak sheet = record sheet { slots = set sheet.slots 0 (Some (root_cell count peak)) }

pub root_set : {count peak : ℕ} {bands : List ℕ} {sheet : Sheet} (count' peak' : ℕ) → IsRoot count peak bands sheet → IsRoot count' peak' bands (sheet_with_root count' peak' sheet)
root_set {sheet = sheet} count' peak' h =
    let there : 0 < length sheet.slots = full_below sheet.slots 0 _ (sym h.first) in
    record {
      kind = h.kind;
      first = cell-set_same sheet.slots 0 (Some (root_cell count' peak')) there;
      links = λ j. cell-set_other sheet.slots 0 (j + 1) (Some (root_cell count' peak')) (λ e. omega arith) ∙ h.links j;
      few = rw (length-set sheet.slots 0 (Some (root_cell count' peak'))) h.few;
    }

pub root_step : {count peak : ℕ} {bands : List ℕ} {sheet : Sheet} (t : Table) (count' peak' : ℕ) → IsRoot count peak bands sheet → step t (Set 0 (root_cell count' peak')) sheet ≡ Some (sheet_with_root count' peak' sheet)
root_step {count} {peak} {sheet = sheet} t count' peak' h = set_step t sheet 0 (root_cell count peak) (root_cell count' peak') h.first (root_bytes (root_set count' peak' h))

-- such a cell has as many bytes as the one before
pub root_same_size : {count peak : ℕ} {bands : List ℕ} {sheet : Sheet} (cell : List ℕ) (count' peak' : ℕ) → cell ≡ root_cell count' peak' → IsRoot count peak bands sheet → shrinks (Set 0 cell) sheet ≡ false
root_same_size {sheet = sheet} cell count' peak' e h =
    let was : cell_size (cell_in sheet.slots 0) ≡ 8 = ap cell_size h.first in
    let long : length cell ≡ 8 = ap (λ (c : List ℕ). length c) e in
    let test : nat_lt (length cell) (cell_size (cell_in sheet.slots 0)) ≡ false = grind (arith, nat_tests, was, long) in
    test

-- the root's first cell may be written
pub root_possible : (t : Table) (v : View) {root count peak : ℕ} {bands : List ℕ} (count' peak' : ℕ) (cell : List ℕ) → cell ≡ root_cell count' peak' → HasAt v.space.pages.at root (IsRoot count peak bands) → HasAt v.space.pages.at root (IsPossible t v root (Set 0 cell))
root_possible t v {root} {count} {peak} count' peak' cell e h = record {
  what = h.what;
  is = h.is;
  has = subst (λ (c : List ℕ). IsPossible t v root (Set 0 c) h.what) (sym e) (record {
    plain = refl;
    fits = subst IsSome (sym (root_step t count' peak' h.has)) refl;
    done = tt;
    short = omega arith;
    place = λ u. absurd (no u);
  });
}
  where
    no : false ≡ true → ⊥
    no u = cc

pub root_turns : (t : Table) {old new : Space} {root : ℕ} {r : Raw} (count peak : ℕ) (cell : List ℕ) → cell ≡ root_cell count peak → count ≤ peak → peak ≤ 16384000 → IsRaw old.pages.at old.bands.at root r → IsChanged old.pages new.pages root (step t (Set 0 cell)) → new.bands ≡ old.bands → RawTurns old new root r (with_root count peak r)
root_turns t {old} {new} {root} {r} count peak cell e below few h c bands =
    record {
      raw = record {
        first = record {
          what = sheet_with_root count peak h.first.what;
          is = c.here h.first.what h.first.is ∙ (ap (λ (x : List ℕ). step t (Set 0 x) h.first.what) e ∙ root_step t count peak h.first.has);
          has = root_set count peak h.first.has;
        };
        part = λ j b i. moved (ap (λ (u : Units (List ℕ)). u.at b) bands) (h.part j b i);
        fit = h.fit;
        apart = h.apart;
        below_peak = below;
        few = few;
        enough = h.enough;
      };
      pages = root_changed c.others c.free c.count;
      bands = grows_same bands;
    }

-- the slot behind the numbers of the bands is free
pub root_free : {count peak : ℕ} {bands : List ℕ} {sheet : Sheet} → IsRoot count peak bands sheet → length bands + 1 ≤ length sheet.slots
root_free {count} {peak} {bands} {sheet} h = elim (cases_eq (length bands) 0) [
  | inl e ↦ let first : 0 < length sheet.slots = full_below sheet.slots 0 _ (sym h.first) in omega arith
  | inr ne ↦
      let before : length bands - 1 < length bands = omega arith in
      let link : cell_in sheet.slots (length bands - 1 + 1) ≡ Some (little_bytes 4 (get_or bands (length bands - 1) 0)) = h.links (length bands - 1) ∙ ap link_cell (slice_get-get_or bands (length bands - 1) 0 before) in
      let below : length bands - 1 + 1 < length sheet.slots = full_below sheet.slots (length bands - 1 + 1) _ (sym link) in
      omega arith
]

-- the sheet with the number of a band behind so many
abbrev pub sheet_with_band : ℕ → ℕ → Sheet → Sheet
sheet_with_band count q sheet = record sheet { slots = with_cell sheet.slots (count + 1) (little_bytes 4 q) }

pub root_with : {count peak : ℕ} {bands : List ℕ} {sheet : Sheet} (q : ℕ) → length bands < 500 → IsRoot count peak bands sheet → IsRoot count peak (bands ++ (q ∷ [])) (sheet_with_band (length bands) q sheet)
root_with {count} {peak} {bands} {sheet} q few h =
    let room : length bands + 1 ≤ length sheet.slots = root_free h in
    record {
      kind = h.kind;
      first = cell-with_other sheet.slots (length bands + 1) 0 (little_bytes 4 q) room (λ e. omega arith) ∙ h.first;
      links = λ j. elim (cases_eq j (length bands)) [
        | inl e ↦ subst (λ (n : ℕ). cell_in (with_cell sheet.slots (length bands + 1) (little_bytes 4 q)) (n + 1) ≡ link_cell (slice_get (bands ++ (q ∷ [])) n)) (sym e)
            (cell-with_same sheet.slots (length bands + 1) (little_bytes 4 q) room ∙ sym (ap link_cell (slice_get-push_same bands (length bands) q refl)))
        | inr ne ↦ cell-with_other sheet.slots (length bands + 1) (j + 1) (little_bytes 4 q) room (λ (e : j + 1 ≡ length bands + 1). ne (omega arith)) ∙ (h.links j ∙ sym (ap link_cell (slice_get-push_other bands j q ne)))
      ];
      few = length-with sheet.slots (length bands + 1) (little_bytes 4 q) 501 (omega arith) room h.few;
    }

pub link_free : {count peak : ℕ} {bands : List ℕ} {sheet : Sheet} → IsRoot count peak bands sheet → IsFree sheet.slots (length bands + 1)
link_free {bands = bands} h = record { next = root_free h; empty = h.links (length bands) ∙ ap link_cell (slice_get_past bands (length bands) (omega arith)) }

pub band_step : {count peak : ℕ} {bands : List ℕ} {sheet : Sheet} (t : Table) (q : ℕ) → length bands < 500 → IsRoot count peak bands sheet → step t (Put (length bands + 1) (little_bytes 4 q)) sheet ≡ Some (sheet_with_band (length bands) q sheet)
band_step {bands = bands} {sheet = sheet} t q few h = put_step t sheet (length bands + 1) (little_bytes 4 q) (link_free h) (root_bytes (root_with q few h))

-- a number of a band may be put behind the others
pub put_possible : (t : Table) (v : View) {root count peak j : ℕ} {bands : List ℕ} (q : ℕ) (cell : List ℕ) → cell ≡ little_bytes 4 q → length bands ≡ j → j < 500 → MayFill v root 501 → HasAt v.space.pages.at root (IsRoot count peak bands) → HasAt v.space.pages.at root (IsPossible t v root (Put (j + 1) cell))
put_possible t v {root} {j = j} {bands = bands} q cell e is below may h = record {
  what = h.what;
  is = h.is;
  has = subst (λ (n : ℕ). IsPossible t v root (Put (n + 1) cell) h.what) is (subst (λ (c : List ℕ). IsPossible t v root (Put (length bands + 1) c) h.what) (sym e) (record {
    plain = refl;
    fits = subst IsSome (sym (band_step t q (omega arith) h.has)) refl;
    done = tt;
    short = omega arith;
    place = λ u. may (length (h.what).slots + 1) (next u);
  }));
}
  where
    no : false ≡ true → ⊥
    no u = cc

    next : (length bands + 1 == length (h.what).slots) ≡ true → length (h.what).slots + 1 ≤ 501
    next u = let same : length bands + 1 ≡ length (h.what).slots = grind (arith, nat_tests, u) in omega arith

-- a change of the root's first cell keeps what a caller relies on
pub root_keeps : {t : Table} {v w : View} {root count peak : ℕ} {bands : List ℕ} (count' peak' : ℕ) (cell : List ℕ) → cell ≡ root_cell count' peak' → HasAt v.space.pages.at root (IsRoot count peak bands) → Changed t v w root (Set 0 cell) → Keeps v w
root_keeps {t} {v} {w} {root} count' peak' cell e h c = keeps_but c (λ sheet is. subst (λ (s : Sheet). shrinks (Set 0 cell) s ≡ false) (same_some _ _ (sym h.is ∙ is)) (root_same_size cell count' peak' e h.has))
