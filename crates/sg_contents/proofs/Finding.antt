-- What a search for a tombstone finds once a row has changed, where no two rows name one root.
use Rattle.std.proofs.Common.{◌≡◌, ℕ, ◌≤◌, ◌==◌, ◌&&◌, Bool, true, false, cond, List, ◌∷◌, ◌++◌, Option, Some, None, refl, sym, ap, ◌∙◌, subst, arith}
use Rattle.std.specs.List.{find, count_by}
use Rattle.std.specs.Str.{bytes_eq}
use Rattle.std.proofs.lemmas.Bool.{eqb-true}
use Rattle.std.proofs.lemmas.Slice.Eq.{bytes_eq-Decides}
use Rattle.sg_catalog.specs.Calls.{IsOneMore, IsInPlace}
use Rattle.sg_catalog.specs.Catalog.{is_tomb, is_tomb_of}
use Rattle.sg_catalog.specs.declared.row.Row.{Row}
use Rattle.sg_catalog.proofs.Lists.{found_passes}
use Rattle.sg_catalog.proofs.Maps.{find_without, find_new}
use Rattle.sg_catalog.proofs.Rows.{count_more}
pub use Rattle.sg_recovery.proofs.Basic.{and_left, and_right}
use Rattle.sg_contents.specs.Standing.{IsAmong, is_at}
use Rattle.sg_contents.proofs.Among.{eq_self, found_among, counted}

no_left : (a b : Bool) → a ≡ false → (a && b) ≡ false
no_left true b e = absurd (cc)
no_left false b e = refl

-- what passes the search for a tombstone
pub tomb_root : (name : List ℕ) (root : ℕ) (row : Row) → is_tomb_of name root row ≡ true → row.root.0 ≡ root
tomb_root name root row e = eqb-true row.root.0 root (and_right (is_tomb row) (row.root.0 == root) (and_left (is_tomb row && (row.root.0 == root)) (bytes_eq row.name name) e))

pub tomb_is : (name : List ℕ) (root : ℕ) (row : Row) → is_tomb_of name root row ≡ true → is_tomb row ≡ true
tomb_is name root row e = and_left (is_tomb row) (row.root.0 == root) (and_left (is_tomb row && (row.root.0 == root)) (bytes_eq row.name name) e)

pub tomb_name : (name : List ℕ) (root : ℕ) (row : Row) → is_tomb_of name root row ≡ true → row.name ≡ name
tomb_name name root row e = (bytes_eq-Decides row.name name).0 (and_right (is_tomb row && (row.root.0 == root)) (bytes_eq row.name name) e)

-- an object passes none
pub object_fails : (name : List ℕ) (root : ℕ) (row : Row) → is_tomb row ≡ false → is_tomb_of name root row ≡ false
object_fails name root row e = no_left (is_tomb row && (row.root.0 == root)) (bytes_eq row.name name) (no_left (is_tomb row) (row.root.0 == root) e)

-- the row's own root and name pass, of a tombstone
pub own_passes : (row : Row) → is_tomb row ≡ true → is_tomb_of row.name row.root.0 row ≡ true
own_passes row e =
    ap (λ (b : Bool). (b && (row.root.0 == row.root.0)) && bytes_eq row.name row.name) e
    ∙ (ap (λ (b : Bool). b && bytes_eq row.name row.name) (eq_self row.root.0) ∙ (bytes_eq-Decides row.name row.name).1 refl)

-- at a name with a root, no other row of that root is found than the one that names it
none_found : (p : Row → Bool) (o : Option Row) → ((x : Row) → o ≡ Some x → ⊥) → o ≡ None
none_found p None absent = refl
none_found p (Some x) absent = absurd (absent x refl)

twice : (front back : List Row) (row x : Row) (p : Row → Bool) → IsAmong (front ++ back) x → p x ≡ true → p row ≡ true → count_by p (front ++ (row ∷ back)) ≤ 1 → ⊥
twice front back row x p a px pr once =
    let more : IsOneMore row (front ++ back) (front ++ (row ∷ back)) = record { front = front; back = back; less_is = refl; more_is = refl } in
    let sum = count_more p more in
    let one : cond {A = ℕ} (p row) 1 0 ≡ 1 = ap (λ (b : Bool). cond {A = ℕ} b 1 0) pr in
    let other = counted p (front ++ back) x a px in
    omega arith

pub alone : (name : List ℕ) (root : ℕ) (front back : List Row) (row : Row) → ((r : ℕ) → count_by (is_at r) (front ++ (row ∷ back)) ≤ 1) → row.root.0 ≡ root → find (is_tomb_of name root) (front ++ back) ≡ None
alone name root front back row once here = none_found (is_tomb_of name root) (find (is_tomb_of name root) (front ++ back)) (λ x e. absurd (both x e))
  where
    both : (x : Row) → find (is_tomb_of name root) (front ++ back) ≡ Some x → ⊥
    both x e = twice front back row x (is_at root) (found_among (is_tomb_of name root) (front ++ back) x e) (at x (tomb_root name root x (found_passes (is_tomb_of name root) (front ++ back) x e))) (at row here) (once root)
      where
        at : (r : Row) → r.root.0 ≡ root → is_at root r ≡ true
        at r e = ap (λ (n : ℕ). n == root) e ∙ eq_self root

-- a row that became a tombstone, and one that became an object, is found, or isn't, at its own root and name
module _ (name : List ℕ) (root : ℕ) {was now : Row} {xs ys : List Row} (h : IsInPlace was now xs ys) (once : (r : ℕ) → count_by (is_at r) xs ≤ 1) where
  abbrev pub p : Row → Bool
  p = is_tomb_of name root

  once_here : (r : ℕ) → count_by (is_at r) (h.front ++ (was ∷ h.back)) ≤ 1
  once_here r = subst (λ (zs : List Row). count_by (is_at r) zs ≤ 1) h.before_is (once r)

  pub tomb_comes : is_tomb was ≡ false → was.root.0 ≡ now.root.0 → find p ys ≡ cond (p now) (Some now) (find p xs)
  tomb_comes object same = ap (find p) h.after_is ∙ by (p now) refl
    where
      before : find p xs ≡ find p (h.front ++ h.back)
      before = ap (find p) h.before_is ∙ find_without p h.front h.back was (object_fails name root was object)

      by : (b : Bool) → p now ≡ b → find p (h.front ++ (now ∷ h.back)) ≡ cond b (Some now) (find p xs)
      by true e = find_new p h.front h.back now (alone name root h.front h.back was once_here (same ∙ tomb_root name root now e)) e
      by false e = find_without p h.front h.back now e ∙ sym before

  pub tomb_goes : is_tomb now ≡ false → find p ys ≡ cond (p was) None (find p xs)
  tomb_goes object = ap (find p) h.after_is ∙ (find_without p h.front h.back now (object_fails name root now object) ∙ by (p was) refl)
    where
      by : (b : Bool) → p was ≡ b → find p (h.front ++ h.back) ≡ cond b None (find p xs)
      by true e = alone name root h.front h.back was once_here (tomb_root name root was e)
      by false e = sym (find_without p h.front h.back was e) ∙ sym (ap (find p) h.before_is)

-- one row more or less
pub same_tombs : (name : List ℕ) (root : ℕ) {row : Row} {xs ys : List Row} → IsOneMore row xs ys → is_tomb row ≡ false → find (is_tomb_of name root) ys ≡ find (is_tomb_of name root) xs
same_tombs name root {row} h object = ap (find (is_tomb_of name root)) h.more_is ∙ (find_without (is_tomb_of name root) h.front h.back row (object_fails name root row object) ∙ sym (ap (find (is_tomb_of name root)) h.less_is))

pub tomb_gone : (name : List ℕ) (root : ℕ) {row : Row} {xs ys : List Row} → IsOneMore row ys xs → ((r : ℕ) → count_by (is_at r) xs ≤ 1) → find (is_tomb_of name root) ys ≡ cond (is_tomb_of name root row) None (find (is_tomb_of name root) xs)
tomb_gone name root {row} {xs} {ys} h once = ap (find (is_tomb_of name root)) h.less_is ∙ by (is_tomb_of name root row) refl
  where
    by : (b : Bool) → is_tomb_of name root row ≡ b → find (is_tomb_of name root) (h.front ++ h.back) ≡ cond b None (find (is_tomb_of name root) xs)
    by true e = alone name root h.front h.back row (λ r. subst (λ (zs : List Row). count_by (is_at r) zs ≤ 1) h.more_is (once r)) (tomb_root name root row e)
    by false e = sym (find_without (is_tomb_of name root) h.front h.back row e) ∙ sym (ap (find (is_tomb_of name root)) h.more_is)
