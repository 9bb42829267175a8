-- What is read of one page of the catalogue.
use Rattle.std.proofs.Common.{◌≡◌, ℕ, suc, ◌+◌, ◌<◌, ◌≤◌, Bool, true, false, List, [], ◌∷◌, ◌++◌, length, take, drop, get_or, cond, option_map, Option, Some, None, is_some, map, append_assoc, append-nil, sym, ap, ◌∙◌, refl, arith}
use Rattle.std.specs.List.{find, filter, cons_option, count_by}
use Rattle.std.proofs.lemmas.List.{take_all, map-append}
use Rattle.std.proofs.lemmas.List.Elements.{filter-append}
use Rattle.std.proofs.lemmas.List.Sums.{sum_by-cons}
use Rattle.sg_base.specs.Page.{cell_in}
use Rattle.sg_base.specs.Slots.{Slots}
use Rattle.sg_catalog.specs.Catalog.{filled}
use Rattle.sg_catalog.specs.Row.{row_cell, IsFormed}
use Rattle.sg_catalog.specs.Look.{row_in, read_rows, is_object, names_of}
use Rattle.sg_catalog.specs.declared.row.Row.{Row}
use Rattle.sg_catalog.proofs.Bytes.{row_back}
use Rattle.sg_catalog.proofs.Lists.{picked_more, picked_at, find_behind, find_first, find_none}

module _ (p : Row → Bool) (slots : Slots) (k : ℕ) (below : k < length slots) (none : find p (read_rows (take k slots)) ≡ None) where
  -- no row of the first slots passes, and neither does the next one
  pub none_empty : row_in (cell_in slots k) ≡ None → find p (read_rows (take (k + 1) slots)) ≡ None
  none_empty e = ap (find p) (picked_more row_in slots k None below) ∙ (find_behind p (read_rows (take k slots)) (cons_option (row_in (cell_in slots k)) []) none ∙ ap (λ (o : Option Row). find p (cons_option o [])) e)

  pub none_other : (row : Row) → row_in (cell_in slots k) ≡ Some row → p row ≡ false → find p (read_rows (take (k + 1) slots)) ≡ None
  none_other row e fails =
      ap (find p) (picked_more row_in slots k None below)
      ∙ (find_behind p (read_rows (take k slots)) (cons_option (row_in (cell_in slots k)) []) none
      ∙ (ap (λ (o : Option Row). find p (cons_option o [])) e ∙ find_none p row [] fails))

  -- the next one is the first that passes
  pub first_here : (row : Row) → row_in (cell_in slots k) ≡ Some row → p row ≡ true → find p (read_rows slots) ≡ Some row
  first_here row e passes =
      ap (find p) (picked_at row_in slots k None below)
      ∙ (find_behind p (read_rows (take k slots)) (cons_option (row_in (cell_in slots k)) (read_rows (drop (suc k) slots))) none
      ∙ (ap (λ (o : Option Row). find p (cons_option o (read_rows (drop (suc k) slots)))) e ∙ find_first p row (read_rows (drop (suc k) slots)) passes))

pub none_at_all : (p : Row → Bool) (slots : Slots) (n : ℕ) → length slots ≤ n → find p (read_rows (take n slots)) ≡ None → find p (read_rows slots) ≡ None
none_at_all p slots n all none = ap (λ (xs : Slots). find p (read_rows xs)) (sym (take_all n slots all)) ∙ none

-- The slots of a page spell the rows of some places.
pub record AreSpelled (slots : Slots) (part : List (Option Row)) : Type 0 where
  pub few : length slots ≤ length part
  pub cells : (k : ℕ) → k < length part → cell_in slots k ≡ option_map row_cell (get_or part k None)
  pub formed : (k : ℕ) (row : Row) → get_or part k None ≡ Some row → IsFormed row

spelled_rest : {s : Option (List ℕ)} {ss : Slots} {x : Option Row} {xs : List (Option Row)} → AreSpelled (s ∷ ss) (x ∷ xs) → AreSpelled ss xs
spelled_rest h = let few = h.few in record { few = omega arith; cells = λ k below. h.cells (suc k) (omega arith); formed = λ k row e. h.formed (suc k) row e }

spelled_none : {x : Option Row} {xs : List (Option Row)} → AreSpelled [] (x ∷ xs) → AreSpelled [] xs
spelled_none h = record { few = omega arith; cells = λ k below. h.cells (suc k) (omega arith); formed = λ k row e. h.formed (suc k) row e }

-- what is read of one slot
pub slot_read : (s : Option (List ℕ)) (x : Option Row) → s ≡ option_map row_cell x → ((row : Row) → x ≡ Some row → IsFormed row) → row_in s ≡ x
slot_read s None e formed = ap (λ (o : Option (List ℕ)). row_in o) e
slot_read s (Some row) e formed = ap (λ (o : Option (List ℕ)). row_in o) e ∙ row_back row (formed row refl)

pub no_row : (x : Option Row) → None ≡ option_map row_cell x → x ≡ None
no_row None e = refl
no_row (Some row) e = absurd (cc)

none_filled : (xs : List (Option Row)) → AreSpelled [] xs → filled xs ≡ []
none_filled [] h = refl
none_filled (x ∷ xs) h = ap (λ (o : Option Row). cons_option o (filled xs)) (no_row x (h.cells 0 (omega arith))) ∙ none_filled xs (spelled_none h)

-- the rows that are read are those of the places
pub read_filled : (slots : Slots) (part : List (Option Row)) → AreSpelled slots part → read_rows slots ≡ filled part
read_filled [] part h = sym (none_filled part h)
read_filled (s ∷ ss) [] h = absurd (let few = h.few in omega arith)
read_filled (s ∷ ss) (x ∷ xs) h =
    ap (λ (o : Option Row). cons_option o (read_rows ss)) (slot_read s x (h.cells 0 (omega arith)) (λ row e. h.formed 0 row e))
    ∙ ap (λ (ys : List Row). cons_option x ys) (read_filled ss xs (spelled_rest h))

full_slot : (s : Option (List ℕ)) (x : Option Row) (n : ℕ) (ys : List Row) → s ≡ option_map row_cell x → n ≡ length ys → cond (is_some s) 1 0 + n ≡ length (cons_option x ys)
full_slot s None n ys e h = ap (λ (o : Option (List ℕ)). cond {A = ℕ} (is_some o) 1 0 + n) e ∙ omega arith
full_slot s (Some row) n ys e h = ap (λ (o : Option (List ℕ)). cond {A = ℕ} (is_some o) 1 0 + n) e ∙ omega arith

-- as many slots are full as there are rows
pub full_filled : (slots : Slots) (part : List (Option Row)) → AreSpelled slots part → count_by is_some slots ≡ length (filled part)
full_filled [] part h = sym (ap (λ (ys : List Row). length ys) (none_filled part h))
full_filled (s ∷ ss) [] h = absurd (let few = h.few in omega arith)
full_filled (s ∷ ss) (x ∷ xs) h =
    sum_by-cons (λ (o : Option (List ℕ)). cond {A = ℕ} (is_some o) 1 0) s ss
    ∙ full_slot s x (count_by is_some ss) (filled xs) (h.cells 0 (omega arith)) (full_filled ss xs (spelled_rest h))

-- THE NAMES of the first slots, and of one more
pub names_both : (xs ys : List Row) → names_of (xs ++ ys) ≡ names_of xs ++ names_of ys
names_both xs ys = ap (λ (rows : List Row). map (λ (row : Row). row.name) rows) (filter-append is_object xs ys) ∙ map-append (λ (row : Row). row.name) (filter is_object xs) (filter is_object ys)

module _ (slots : Slots) (k : ℕ) (below : k < length slots) (old now : List (List ℕ)) (h : now ≡ old ++ names_of (read_rows (take k slots))) where
  names_next : (o : Option Row) → row_in (cell_in slots k) ≡ o → names_of (read_rows (take (k + 1) slots)) ≡ names_of (read_rows (take k slots)) ++ names_of (cons_option o [])
  names_next o e = ap names_of (picked_more row_in slots k None below) ∙ (names_both (read_rows (take k slots)) (cons_option (row_in (cell_in slots k)) []) ∙ ap (λ (x : Option Row). names_of (read_rows (take k slots)) ++ names_of (cons_option x [])) e)

  -- no name, of an empty slot
  pub names_empty : row_in (cell_in slots k) ≡ None → now ≡ old ++ names_of (read_rows (take (k + 1) slots))
  names_empty e = h ∙ ap (λ (xs : List (List ℕ)). old ++ xs) (sym (names_next None e ∙ append-nil (names_of (read_rows (take k slots)))))

  -- none, of a tombstone
  pub names_tomb : (row : Row) → row_in (cell_in slots k) ≡ Some row → is_object row ≡ false → now ≡ old ++ names_of (read_rows (take (k + 1) slots))
  names_tomb row e tomb =
      h ∙ ap (λ (xs : List (List ℕ)). old ++ xs) (sym (names_next (Some row) e ∙ (ap (λ (b : Bool). names_of (read_rows (take k slots)) ++ map (λ (row : Row). row.name) (cond b (row ∷ []) [])) tomb ∙ append-nil (names_of (read_rows (take k slots))))))

  -- one, of an object
  pub names_object : (row : Row) (then : List (List ℕ)) → row_in (cell_in slots k) ≡ Some row → is_object row ≡ true → then ≡ now ++ (row.name ∷ []) → then ≡ old ++ names_of (read_rows (take (k + 1) slots))
  names_object row then e object pushed =
      pushed
      ∙ (ap (λ (xs : List (List ℕ)). xs ++ (row.name ∷ [])) h
      ∙ (append_assoc old (names_of (read_rows (take k slots))) (row.name ∷ [])
      ∙ ap (λ (xs : List (List ℕ)). old ++ xs) (sym (names_next (Some row) e ∙ ap (λ (b : Bool). names_of (read_rows (take k slots)) ++ map (λ (row : Row). row.name) (cond b (row ∷ []) [])) object))))

pub names_at_all : (slots : Slots) (n : ℕ) (old now : List (List ℕ)) → length slots ≤ n → now ≡ old ++ names_of (read_rows (take n slots)) → now ≡ old ++ names_of (read_rows slots)
names_at_all slots n old now all h = h ∙ ap (λ (xs : Slots). old ++ names_of (read_rows xs)) (take_all n slots all)
