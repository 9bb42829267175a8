-- A sum over the stock of contents is one over the catalogue's rows.
use Rattle.std.proofs.Common.{◌≡◌, ℕ, ◌+◌, List, [], ◌∷◌, length, map, Option, Some, None, refl, sym, ap, ◌∙◌, arith}
use Rattle.std.specs.List.{sum_by}
use Rattle.std.specs.Cmp.Lexicographic.{slice_cmp}
use Rattle.std.specs.Ordering.{nat_cmp}
use Rattle.std.specs.FinMap.{entries, from_entries, len, len-entries}
use Rattle.std.proofs.lemmas.List.Sums.{sum_by-cons, sum_by-append}
use Rattle.sg_base.specs.declared.numbers.TxnId.{TxnId}
use Rattle.sg_catalog.specs.Catalog.{rows}
use Rattle.sg_catalog.specs.declared.row.Row.{Row}
use Rattle.sg_space.specs.View.{Space}
use Rattle.sg_reading.specs.Reading.{Thing, Tomb}
use Rattle.sg_contents.specs.Standing.{Body, Contents, IsContents}
use Rattle.sg_contents.specs.Meaning.{thing_at, tomb_at, if_object, if_tomb, things_of, tombs_of, reading}
use Rattle.sg_room.specs.Marks.{Extent, Holding, stock_of}
use Rattle.sg_room.specs.Lines.{AreDistinct, thing_holding, tomb_holding}
use Rattle.sg_room.proofs.Entries.{stock_entries}
use Rattle.sg_room.proofs.Sums.{sum_from}
use Rattle.sg_stock.specs.Laws.{extent_in}
use Rattle.sg_stock.proofs.Apart.{ones, things_apart, tombs_apart}

sum_map : {A B : Type 0} (f : B → ℕ) (g : A → B) (xs : List A) → sum_by f (map g xs) ≡ sum_by (λ x. f (g x)) xs
sum_map f g [] = refl
sum_map f g (x ∷ xs) = sum_by-cons f (g x) (map g xs) ∙ (ap (λ n. f (g x) + n) (sum_map f g xs) ∙ sym (sum_by-cons (λ x. f (g x)) x xs))

-- of extents, whatever is counted of them
module _ (weight : Extent → ℕ) where
  abbrev pub held : Holding → ℕ
  held h = weight h.extent

  abbrev of_thing : List ℕ × Thing → ℕ
  of_thing e = weight (extent_in e.1)

  abbrev of_tomb : List ℕ × Tomb → ℕ
  of_tomb e = weight (extent_in e.1.thing)

  abbrev pub of_row : (ℕ → Body) → Row → ℕ
  of_row body row = weight (extent_in (thing_at body row))

  sum_rows : (body : ℕ → Body) (xs : List Row)
      → sum_by of_thing (things_of body xs) + sum_by of_tomb (tombs_of body xs) ≡ sum_by (of_row body) xs
  sum_rows body [] = refl
  sum_rows body (row ∷ xs) = by (sum_rows body xs) row.dropper
    where
      all : sum_by (of_row body) (row ∷ xs) ≡ of_row body row + sum_by (of_row body) xs
      all = sum_by-cons (of_row body) row xs

      by : sum_by of_thing (things_of body xs) + sum_by of_tomb (tombs_of body xs) ≡ sum_by (of_row body) xs → (d : Option TxnId)
          → sum_by of_thing (if_object (row.name, thing_at body row) d (things_of body xs))
          + sum_by of_tomb (if_tomb (λ by. (row.root.0 ∷ row.name, tomb_at body by row)) d (tombs_of body xs)) ≡ sum_by (of_row body) (row ∷ xs)
      by rest None = let one = sum_by-cons of_thing (row.name, thing_at body row) (things_of body xs) in omega (arith, one, rest, all)
      by rest (Some d) = let one = sum_by-cons of_tomb (row.root.0 ∷ row.name, tomb_at body d row) (tombs_of body xs) in omega (arith, one, rest, all)

  pub sum_stock : (space : Space) (s : Contents) → IsContents space s
      → sum_by held (stock_of (reading s)).holdings ≡ sum_by (of_row s.body) (rows s.catalog)
  unfolding reading
  sum_stock space s h =
      let things : List (List ℕ × Thing) = things_of s.body (rows s.catalog) in
      let tombs : List (List ℕ × Tomb) = tombs_of s.body (rows s.catalog) in
      ap (λ o. sum_by held o.holdings) (stock_entries (reading s))
      ∙ (sum_by-append held (map thing_holding (entries (reading s).things)) (map tomb_holding (entries (reading s).tombs))
      ∙ (ap (λ n. n + sum_by held (map tomb_holding (entries (reading s).tombs)))
      (sum_map held thing_holding (entries (reading s).things)
      ∙ sum_from of_thing things (things_apart s.body (rows s.catalog) h.catalog.once))
      ∙ (ap (λ n. sum_by of_thing things + n)
      (sum_map held tomb_holding (entries (reading s).tombs) ∙ sum_from of_tomb tombs (tombs_apart s.body (rows s.catalog) h.once))
      ∙ sum_rows s.body (rows s.catalog))))

count_from : {A : Type 0} (es : List (List ℕ × A)) → AreDistinct es → len (from_entries {R = slice_cmp nat_cmp} es) ≡ sum_by (λ e. 1) es
count_from es apart = len-entries (from_entries {R = slice_cmp nat_cmp} es)
    ∙ (sym (ones (entries (from_entries {R = slice_cmp nat_cmp} es))) ∙ sum_from (λ e. 1) es apart)

-- each row is an object or a tombstone
pub count_rows : (space : Space) (s : Contents) → IsContents space s
    → len (reading s).things + len (reading s).tombs ≡ length (rows s.catalog)
unfolding reading
count_rows space s h =
    let things : List (List ℕ × Thing) = things_of s.body (rows s.catalog) in
    let tombs : List (List ℕ × Tomb) = tombs_of s.body (rows s.catalog) in
    let live : len (reading s).things ≡ sum_by (λ e. 1) things = count_from things (things_apart s.body (rows s.catalog) h.catalog.once) in
    let dead : len (reading s).tombs ≡ sum_by (λ e. 1) tombs = count_from tombs (tombs_apart s.body (rows s.catalog) h.once) in
    let all = sum_rows (λ e. 1) s.body (rows s.catalog) in
    let long = ones (rows s.catalog) in
    omega (arith, live, dead, all, long)
