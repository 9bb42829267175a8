-- No two objects of contents stand under one name, no two tombstones under one root, and no two entries of a table under one key.
use Rattle.std.proofs.Common.{◌≡◌, ℕ, suc, ◌+◌, ◌≤◌, ◌==◌, ◌&&◌, Bool, true, false, cond, List, [], ◌∷◌, map, length, Option, Some, None, is_none, inl, inr, refl, sym, ap, ◌∙◌, arith}
use Rattle.std.specs.List.{count_by, sum_by}
use Rattle.std.specs.Str.{bytes_eq}
use Rattle.std.specs.Ordering.{nat_cmp}
use Rattle.std.specs.Cmp.Lexicographic.{slice_cmp}
use Rattle.std.specs.FinMap.{find, entries, len, from_entries, len-entries}
use Rattle.std.proofs.lemmas.Bool.{cases_Bool}
use Rattle.std.proofs.lemmas.List.Sums.{sum_by-cons}
use Rattle.sg_base.specs.Sheet.{Sheet}
use Rattle.sg_base.specs.declared.numbers.TxnId.{TxnId}
use Rattle.sg_model.proofs.Parts.{tied}
use Rattle.sg_bucket.specs.Entry.{Entry, AreOnce}
use Rattle.sg_bucket.proofs.Values.{has_key, same_bytes, none_of}
use Rattle.sg_hash.specs.Table.{HashTable, IsHashTable}
use Rattle.sg_hash.specs.Table as table
use Rattle.sg_hash.proofs.Onces.{once}
use Rattle.sg_catalog.specs.Catalog.{is_there}
use Rattle.sg_catalog.specs.declared.row.Row.{Row}
use Rattle.sg_contents.specs.Standing.{Body, is_at}
use Rattle.sg_contents.specs.Meaning.{pair_of, map_of, thing_at, tomb_at, if_object, if_tomb, things_of, tombs_of}
use Rattle.sg_contents.proofs.Among.{eq_self}
use Rattle.sg_contents.proofs.Reading.{find_pair}
use Rattle.sg_room.specs.Lines.{AreDistinct}
use Rattle.sg_room.proofs.Sums.{sum_from}

-- COUNTS
module _ {X : Type 0} (p : X → Bool) where
  counted : (x : X) (xs : List X) → count_by p (x ∷ xs) ≡ cond {A = ℕ} (p x) 1 0 + count_by p xs
  counted x xs = sum_by-cons (λ (y : X). cond {A = ℕ} (p y) 1 0) x xs

  counted_yes : (x : X) (xs : List X) → p x ≡ true → count_by p (x ∷ xs) ≡ 1 + count_by p xs
  counted_yes x xs e = counted x xs ∙ ap (λ (b : Bool). cond {A = ℕ} b 1 0 + count_by p xs) e

  fewer : (x : X) (xs : List X) → count_by p xs ≤ count_by p (x ∷ xs)
  fewer x xs = let c = counted x xs in omega (arith, c)

  -- where none is counted the first isn't, and none of the rest is
  not_first : (x : X) (xs : List X) → count_by p (x ∷ xs) ≡ 0 → p x ≡ false
  not_first x xs none = elim (cases_Bool (p x)) [
    | inl e ↦ absurd (let c = counted_yes x xs e in omega (arith, c, none))
    | inr e ↦ e
  ]

  not_rest : (x : X) (xs : List X) → count_by p (x ∷ xs) ≡ 0 → count_by p xs ≡ 0
  not_rest x xs none = let c = fewer x xs in omega (arith, c, none)

  -- where the first is counted, and one at most, none of the rest is
  rest_none : (x : X) (xs : List X) → p x ≡ true → count_by p (x ∷ xs) ≤ 1 → count_by p xs ≡ 0
  rest_none x xs e one = let c = counted_yes x xs e in omega (arith, c, one)

-- nothing stands under the key
abbrev Lacks : {A : Type 0} → List ℕ → List (List ℕ × A) → Type 0
Lacks key es = find (slice_cmp nat_cmp) key es ≡ None

-- OBJECTS
no_thing : (body : ℕ → Body) (name : List ℕ) (xs : List Row) → count_by (is_there name) xs ≡ 0 → Lacks name (things_of body xs)
no_thing body name [] none = refl
no_thing body name (row ∷ xs) none = by (no_thing body name xs (not_rest (is_there name) row xs none)) row.dropper (not_first (is_there name) row xs none)
  where
    by : Lacks name (things_of body xs) → (d : Option TxnId) → (is_none d && bytes_eq row.name name) ≡ false
        → Lacks name (if_object (row.name, thing_at body row) d (things_of body xs))
    by rest None e =
        ap (λ (b : Bool). cond b (Some (thing_at body row)) (find (slice_cmp nat_cmp) name (things_of body xs))) (tied name row.name ∙ e)
        ∙ rest
    by rest (Some d) e = rest

pub things_apart : (body : ℕ → Body) (xs : List Row) → ((name : List ℕ) → count_by (is_there name) xs ≤ 1) → AreDistinct (things_of body xs)
things_apart body [] one = tt
things_apart body (row ∷ xs) one =
    let rest = things_apart body xs (λ name. let h = one name in let c = fewer (is_there name) row xs in omega (arith, h, c)) in
    by rest row.dropper refl
  where
    by : AreDistinct (things_of body xs) → (d : Option TxnId) → row.dropper ≡ d
        → AreDistinct (if_object (row.name, thing_at body row) d (things_of body xs))
    by rest None e = (
      no_thing body row.name xs (rest_none (is_there row.name) row xs
          (ap (λ (o : Option TxnId). is_none o && bytes_eq row.name row.name) e ∙ same_bytes row.name) (one row.name)),
      rest,
    )
    by rest (Some d) e = rest

-- TOMBSTONES
no_tomb : (body : ℕ → Body) (root : ℕ) (name : List ℕ) (xs : List Row) → count_by (is_at root) xs ≡ 0 → Lacks (root ∷ name) (tombs_of body xs)
no_tomb body root name [] none = refl
no_tomb body root name (row ∷ xs) none = by (no_tomb body root name xs (not_rest (is_at root) row xs none)) row.dropper
  where
    away : (row.root.0 == root) ≡ false
    away = not_first (is_at root) row xs none

    by : Lacks (root ∷ name) (tombs_of body xs) → (d : Option TxnId)
        → Lacks (root ∷ name) (if_tomb (λ by. (row.root.0 ∷ row.name, tomb_at body by row)) d (tombs_of body xs))
    by rest None = rest
    by rest (Some d) =
        ap (λ (b : Bool). cond b (Some (tomb_at body d row)) (find (slice_cmp nat_cmp) (root ∷ name) (tombs_of body xs)))
        (tied (root ∷ name) (row.root.0 ∷ row.name))
        ∙ (ap (λ (b : Bool). cond (b && bytes_eq row.name name) (Some (tomb_at body d row))
        (find (slice_cmp nat_cmp) (root ∷ name) (tombs_of body xs))) away ∙ rest)

pub tombs_apart : (body : ℕ → Body) (xs : List Row) → ((root : ℕ) → count_by (is_at root) xs ≤ 1) → AreDistinct (tombs_of body xs)
tombs_apart body [] one = tt
tombs_apart body (row ∷ xs) one =
    let rest = tombs_apart body xs (λ root. let h = one root in let c = fewer (is_at root) row xs in omega (arith, h, c)) in
    by rest row.dropper
  where
    by : AreDistinct (tombs_of body xs) → (d : Option TxnId)
        → AreDistinct (if_tomb (λ by. (row.root.0 ∷ row.name, tomb_at body by row)) d (tombs_of body xs))
    by rest None = rest
    by rest (Some d) = (no_tomb body row.root.0 row.name xs (rest_none (is_at row.root.0) row xs (eq_self row.root.0) (one row.root.0)), rest)

-- ENTRIES
pairs_apart : (es : List Entry) → AreOnce es → AreDistinct (map pair_of es)
pairs_apart [] one = tt
pairs_apart (e ∷ es) one = (
  find_pair es e.key ∙ none_of e.key es (rest_none (has_key e.key) e es (same_bytes e.key) (one e.key)),
  pairs_apart es (λ key. let h = one key in let c = fewer (has_key key) e es in omega (arith, h, c)),
)

pub ones : {X : Type 0} (xs : List X) → sum_by (λ (x : X). 1) xs ≡ length xs
ones [] = refl
ones {X} (x ∷ xs) = (let one = sum_by-cons (λ (y : X). 1) x xs in let rest = ones xs in omega (arith, one, rest))

long : (es : List Entry) → length (map pair_of es) ≡ length es
long [] = refl
long (e ∷ es) = ap suc (long es)

-- a table's map has as many keys as the table has entries
pub len_map : {at : ℕ → Option Sheet} {root : ℕ} (t : HashTable) → IsHashTable at root t → len (map_of t) ≡ length (table.entries t)
unfolding map_of
len_map t h =
    let es : List (List ℕ × List ℕ) = map pair_of (table.entries t) in
    len-entries (from_entries {R = slice_cmp nat_cmp} es)
    ∙ (sym (ones (entries (from_entries {R = slice_cmp nat_cmp} es)))
    ∙ (sum_from (λ e. 1) es (pairs_apart (table.entries t) (once h))
    ∙ (ones es ∙ long (table.entries t))))
