-- The rows of a catalogue as a map of names and a list of tombstones.
use Rattle.std.proofs.Common.{◌≡◌, ◌≢◌, ℕ, ◌+◌, ◌≤◌, ◌&&◌, ◌==◌, Bool, true, false, cond, List, [], ◌∷◌, ◌++◌, Option, Some, None, is_some, is_none, sym, ap, ◌∙◌, refl, arith, subst}
use Rattle.std.specs.List.{find, count_by}
use Rattle.std.specs.Option.{option_or}
use Rattle.std.specs.Str.{bytes_eq}
use Rattle.std.proofs.lemmas.List.Elements.{filter-append}
use Rattle.std.proofs.lemmas.List.Folds.{find-append}
use Rattle.std.proofs.lemmas.List.Sums.{sum_by-cons}
use Rattle.std.proofs.lemmas.Slice.Eq.{bytes_eq-Decides}
use Rattle.sg_base.specs.Sheet.{Sheet}
use Rattle.sg_base.specs.declared.numbers.TxnId.{TxnId}
use Rattle.sg_catalog.specs.Calls.{IsOneMore, IsInPlace, IsMapWith, IsOther, IsLess, IsBuried, IsRaised, IsRemoved, IsForgotten, tomb_by, raised}
use Rattle.sg_catalog.specs.Catalog.{Catalog, IsCatalog, rows, there, tombs, is_there, is_tomb, is_tomb_at, is_tomb_of}
use Rattle.sg_catalog.specs.declared.row.Row.{Row}
use Rattle.sg_catalog.proofs.Lists.{find_none, find_first, find_behind, found_passes}
use Rattle.sg_catalog.proofs.Rows.{count_place, count_more}

-- the test of a name on a row of another one
pub other_name : (row : Row) (other : List ℕ) → other ≢ row.name → is_there other row ≡ false
other_name row other ne = by (bytes_eq row.name other) refl
  where
    by : (b : Bool) → bytes_eq row.name other ≡ b → (is_none row.dropper && bytes_eq row.name other) ≡ false
    by true e = absurd (ne (sym ((bytes_eq-Decides row.name other).0 e)))
    by false e = ap (λ (b : Bool). is_none row.dropper && b) e ∙ both_false (is_none row.dropper)
      where
        both_false : (b : Bool) → (b && false) ≡ false
        both_false true = refl
        both_false false = refl

-- a tombstone is there under no name
pub tomb_name : (row : Row) (other : List ℕ) → is_some row.dropper ≡ true → is_there other row ≡ false
tomb_name row other e = by row.dropper e
  where
    by : {A : Type 0} (o : Option A) → is_some o ≡ true → (is_none o && bytes_eq row.name other) ≡ false
    by None e = absurd (cc)
    by (Some x) e = refl

-- an object is there under its name
pub own_name : (row : Row) → is_none row.dropper ≡ true → is_there row.name row ≡ true
own_name row e = ap (λ (b : Bool). b && bytes_eq row.name row.name) e ∙ (bytes_eq-Decides row.name row.name).1 refl

module _ (p : Row → Bool) where
  -- a row that fails shows in no search
  pub find_without : (front back : List Row) (row : Row) → p row ≡ false → find p (front ++ (row ∷ back)) ≡ find p (front ++ back)
  find_without front back row fails = find-append p front (row ∷ back) ∙ (ap (λ (o : Option Row). option_or (find p front) o) (find_none p row back fails) ∙ sym (find-append p front back))

  front_none : (a b : Option Row) → option_or a b ≡ None → a ≡ None
  front_none None b e = refl
  front_none (Some x) b e = absurd (cc)

  -- and one that passes where none did is the one that is found
  pub find_new : (front back : List Row) (row : Row) → find p (front ++ back) ≡ None → p row ≡ true → find p (front ++ (row ∷ back)) ≡ Some row
  find_new front back row none passes =
      let first = front_none (find p front) (find p back) (sym (find-append p front back) ∙ none) in
      find_behind p front (row ∷ back) first ∙ find_first p row back passes

  pub none_counted : (xs : List Row) → count_by p xs ≡ 0 → find p xs ≡ None
  none_counted [] e = refl
  none_counted (x ∷ xs) e = by (p x) refl (sum_by-cons (λ (r : Row). cond {A = ℕ} (p r) 1 0) x xs) (none_counted xs)
    where
      by : (b : Bool) → p x ≡ b → count_by p (x ∷ xs) ≡ cond {A = ℕ} (p x) 1 0 + count_by p xs → (count_by p xs ≡ 0 → find p xs ≡ None) → find p (x ∷ xs) ≡ None
      by true is sum rest = let one : cond {A = ℕ} (p x) 1 0 ≡ 1 = ap (λ (b : Bool). cond {A = ℕ} b 1 0) is in absurd (omega arith)
      by false is sum rest = let nothing : cond {A = ℕ} (p x) 1 0 ≡ 0 = ap (λ (b : Bool). cond {A = ℕ} b 1 0) is in find_none p x xs is ∙ rest (omega arith)

-- a name comes to the map
pub map_more : {row : Row} {xs ys : List Row} → IsOneMore row xs ys → is_none row.dropper ≡ true → there row.name xs ≡ None → IsMapWith row.name (Some row) xs ys
map_more {row} h object none = record {
  here = ap (there row.name) h.more_is ∙ find_new (is_there row.name) h.front h.back row (sym (ap (there row.name) h.less_is) ∙ none) (own_name row object);
  others = λ other ne. ap (there other) h.more_is ∙ (find_without (is_there other) h.front h.back row (other_name row other ne) ∙ sym (ap (there other) h.less_is));
}

-- and goes
pub map_less : {row : Row} {xs ys : List Row} → IsOneMore row ys xs → is_there row.name row ≡ true → count_by (is_there row.name) xs ≤ 1 → IsMapWith row.name None xs ys
map_less {row} {xs} {ys} h is once = record {
  here =
      let sum = count_more (is_there row.name) h in
      let one : cond {A = ℕ} (is_there row.name row) 1 0 ≡ 1 = ap (λ (b : Bool). cond {A = ℕ} b 1 0) is in
      none_counted (is_there row.name) ys (omega arith);
  others = λ other ne. ap (there other) h.less_is ∙ (sym (find_without (is_there other) h.front h.back row (other_name row other ne)) ∙ sym (ap (there other) h.more_is));
}

-- a tombstone that comes or goes changes no name
pub map_same : {row : Row} {xs ys : List Row} → IsOneMore row ys xs → is_some row.dropper ≡ true → (other : List ℕ) → there other ys ≡ there other xs
map_same {row} h tomb other = ap (there other) h.less_is ∙ (sym (find_without (is_there other) h.front h.back row (tomb_name row other tomb)) ∙ sym (ap (there other) h.more_is))

-- the name of a row that becomes a tombstone goes
pub map_buried : {was now : Row} {xs ys : List Row} → IsInPlace was now xs ys → is_there was.name was ≡ true → is_some now.dropper ≡ true → count_by (is_there was.name) xs ≤ 1 → IsMapWith was.name None xs ys
map_buried {was} {now} {xs} {ys} h is tomb once = record {
  here =
      let sum = count_place (is_there was.name) h in
      let one : cond {A = ℕ} (is_there was.name was) 1 0 ≡ 1 = ap (λ (b : Bool). cond {A = ℕ} b 1 0) is in
      let nothing : cond {A = ℕ} (is_there was.name now) 1 0 ≡ 0 = ap (λ (b : Bool). cond {A = ℕ} b 1 0) (tomb_name now was.name tomb) in
      none_counted (is_there was.name) ys (omega arith);
  others = λ other ne.
      ap (there other) h.after_is
      ∙ (find_without (is_there other) h.front h.back now (tomb_name now other tomb)
      ∙ (sym (find_without (is_there other) h.front h.back was (other_name was other ne)) ∙ sym (ap (there other) h.before_is)));
}

-- and that of one that becomes an object again comes back
pub map_raised : {was now : Row} {xs ys : List Row} → IsInPlace was now xs ys → is_some was.dropper ≡ true → is_none now.dropper ≡ true → there now.name xs ≡ None → IsMapWith now.name (Some now) xs ys
map_raised {was} {now} {xs} {ys} h tomb object none = record {
  here =
      let before = sym (find_without (is_there now.name) h.front h.back was (tomb_name was now.name tomb)) ∙ (sym (ap (there now.name) h.before_is) ∙ none) in
      ap (there now.name) h.after_is ∙ find_new (is_there now.name) h.front h.back now before (own_name now object);
  others = λ other ne.
      ap (there other) h.after_is
      ∙ (find_without (is_there other) h.front h.back now (other_name now other ne)
      ∙ (sym (find_without (is_there other) h.front h.back was (tomb_name was other tomb)) ∙ sym (ap (there other) h.before_is)));
}

-- THE TOMBSTONES
tombs_with : (front back : List Row) (row : Row) → is_tomb row ≡ true → tombs (front ++ (row ∷ back)) ≡ tombs front ++ (row ∷ tombs back)
tombs_with front back row is = filter-append is_tomb front (row ∷ back) ∙ ap (λ (b : Bool). tombs front ++ cond b (row ∷ tombs back) (tombs back)) is

tombs_without : (front back : List Row) (row : Row) → is_tomb row ≡ false → tombs (front ++ (row ∷ back)) ≡ tombs front ++ tombs back
tombs_without front back row is = filter-append is_tomb front (row ∷ back) ∙ ap (λ (b : Bool). tombs front ++ cond b (row ∷ tombs back) (tombs back)) is

-- an object that comes or goes changes none
pub tombs_same : {row : Row} {xs ys : List Row} → IsOneMore row xs ys → is_tomb row ≡ false → tombs ys ≡ tombs xs
tombs_same {row} h object = ap tombs h.more_is ∙ (tombs_without h.front h.back row object ∙ sym (ap tombs h.less_is ∙ filter-append is_tomb h.front h.back))

pub tombs_less : {row : Row} {xs ys : List Row} → IsOneMore row ys xs → is_tomb row ≡ true → IsOneMore row (tombs ys) (tombs xs)
tombs_less {row} h tomb = record {
  front = tombs h.front;
  back = tombs h.back;
  less_is = ap tombs h.less_is ∙ filter-append is_tomb h.front h.back;
  more_is = ap tombs h.more_is ∙ tombs_with h.front h.back row tomb;
}

pub tombs_buried : {was now : Row} {xs ys : List Row} → IsInPlace was now xs ys → is_tomb was ≡ false → is_tomb now ≡ true → IsOneMore now (tombs xs) (tombs ys)
tombs_buried {was} {now} h object tomb = record {
  front = tombs h.front;
  back = tombs h.back;
  less_is = ap tombs h.before_is ∙ tombs_without h.front h.back was object;
  more_is = ap tombs h.after_is ∙ tombs_with h.front h.back now tomb;
}

pub tombs_raised : {was now : Row} {xs ys : List Row} → IsInPlace was now xs ys → is_tomb was ≡ true → is_tomb now ≡ false → IsOneMore was (tombs ys) (tombs xs)
tombs_raised {was} {now} h tomb object = record {
  front = tombs h.front;
  back = tombs h.back;
  less_is = ap tombs h.after_is ∙ tombs_without h.front h.back now object;
  more_is = ap tombs h.before_is ∙ tombs_with h.front h.back was tomb;
}

-- WHAT EACH CALL DOES TO BOTH
and_left : (a b : Bool) → (a && b) ≡ true → a ≡ true
and_left true b e = refl
and_left false b e = absurd (cc)

and_right : (a b : Bool) → (a && b) ≡ true → b ≡ true
and_right true b e = e
and_right false b e = absurd (cc)

pub not_tomb : (row : Row) → is_none row.dropper ≡ true → is_tomb row ≡ false
not_tomb row e = by row.dropper e
  where
    by : {A : Type 0} (o : Option A) → is_none o ≡ true → is_some o ≡ false
    by None e = refl
    by (Some x) e = absurd (cc)

-- the row that is there under a name
module _ (name : List ℕ) (xs : List Row) (row : Row) (found : there name xs ≡ Some row) where
  passes : is_there name row ≡ true
  passes = found_passes (is_there name) xs row found

  pub there_object : is_none row.dropper ≡ true
  there_object = and_left (is_none row.dropper) (bytes_eq row.name name) passes

  pub there_named : row.name ≡ name
  there_named = (bytes_eq-Decides row.name name).0 (and_right (is_none row.dropper) (bytes_eq row.name name) passes)

  pub there_own : is_there row.name row ≡ true
  there_own = own_name row there_object

pub buried_is : {pages : ℕ → Option Sheet} {c c' : Catalog} (name : List ℕ) (by : TxnId) → IsCatalog pages c → IsOther (is_there name) (tomb_by by) c c' → IsBuried name by c c'
buried_is {pages} {c} {c'} name by h o = record {
  change = o;
  map = subst (λ (n : List ℕ). IsMapWith n None (rows c) (rows c')) (there_named name (rows c) o.row o.was) (map_buried o.rows_are (there_own name (rows c) o.row o.was) refl (h.once o.row.name));
  tombs_are = tombs_buried o.rows_are (not_tomb o.row (there_object name (rows c) o.row o.was)) refl;
}

pub removed_is : {pages : ℕ → Option Sheet} {c c' : Catalog} (name : List ℕ) → IsCatalog pages c → IsLess (is_there name) c c' → IsRemoved name c c'
removed_is {pages} {c} {c'} name h o = record {
  change = o;
  map = subst (λ (n : List ℕ). IsMapWith n None (rows c) (rows c')) (there_named name (rows c) o.row o.was) (map_less o.rows_are (there_own name (rows c) o.row o.was) (h.once o.row.name));
  tombs_are = sym (tombs_same o.rows_are (not_tomb o.row (there_object name (rows c) o.row o.was)));
}

pub forgotten_is : {c c' : Catalog} (root : ℕ) → IsLess (is_tomb_at root) c c' → IsForgotten root c c'
forgotten_is {c} {c'} root o =
    let tomb = and_left (is_tomb o.row) (o.row.root.0 == root) (found_passes (is_tomb_at root) (rows c) o.row o.was) in
    record { change = o; map = λ name. map_same o.rows_are tomb name; tombs_are = tombs_less o.rows_are tomb }

pub raised_is : {c c' : Catalog} (name : List ℕ) (root : ℕ) → there name (rows c) ≡ None → IsOther (is_tomb_of name root) raised c c' → IsRaised name root c c'
raised_is {c} {c'} name root none o =
    let both = found_passes (is_tomb_of name root) (rows c) o.row o.was in
    let tomb = and_left (is_tomb o.row) (o.row.root.0 == root) (and_left (is_tomb o.row && o.row.root.0 == root) (bytes_eq o.row.name name) both) in
    let named = (bytes_eq-Decides o.row.name name).0 (and_right (is_tomb o.row && o.row.root.0 == root) (bytes_eq o.row.name name) both) in
    record {
      change = o;
      map = subst (λ (n : List ℕ). IsMapWith n (Some (raised o.row)) (rows c) (rows c')) named (map_raised o.rows_are tomb refl (ap (λ (n : List ℕ). there n (rows c)) named ∙ none));
      tombs_are = tombs_raised o.rows_are tomb refl;
    }
