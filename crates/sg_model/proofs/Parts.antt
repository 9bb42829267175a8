-- Lists, maps and parts, as the verbs use them.
use Rattle.std.proofs.Common.{◌≡◌, ℕ, zero, suc, Bool, true, cond, List, [], ◌∷◌, ◌++◌, length, take, Option, Some, None, refl, sym, ap, ◌∙◌, subst, arith}
use Rattle.std.specs.Prelude.{◌&&◌, slice_get, slice_set}
use Rattle.std.specs.Str.{bytes_eq}
use Rattle.std.specs.Ordering.{nat_cmp, eq_by_cmp, is_eq}
use Rattle.std.specs.declared.cmp.Ordering.{Ordering}
use Rattle.std.specs.declared.cmp.Ordering.TheVariants.{Less, Equal, Greater}
use Rattle.std.specs.Cmp.{eq_by_cmp_equiv}
use Rattle.std.specs.Cmp.Lexicographic.{slice_cmp, nat_list_cmp_total, bytes_decides}
use Rattle.std.specs.FinMap.{FinMap, get, insert, remove, get-insert, get-remove, same_map, slice_cmp-IsAntisymmetric, nat_cmp-IsAntisymmetric, IsAntisymmetric}
use Rattle.std.proofs.lemmas.Bool.{eqb-true}
use Rattle.sg_serial.proofs.Kept.{same_bool}
use Rattle.sg_model.specs.Touches.{Part, same_part, covers_part, Reach}
use Rattle.sg_model.specs.Touches.Part.{Kind, Length, Item, Key, Body, Buried}

abbrev pub reads_part : Reach → Part → Bool
reads_part r p = covers_part r.region p

abbrev pub writes_part : Reach → Part → Bool
writes_part r p = r.write && covers_part r.region p

-- maps under bytes

pub exact : IsAntisymmetric (slice_cmp nat_cmp)
exact = slice_cmp-IsAntisymmetric nat_cmp-IsAntisymmetric

equal_of : (r : Ordering) → is_eq r ≡ true → r ≡ Equal
equal_of Less e = absurd (cc)
equal_of Equal e = refl
equal_of Greater e = absurd (cc)

pub tied : (q k : List ℕ) → eq_by_cmp (slice_cmp nat_cmp) q k ≡ bytes_eq k q
tied q k = same_bool _ _
    (λ h. (bytes_decides k q).1 (sym (exact q k (equal_of (slice_cmp nat_cmp q k) h))))
    (λ h. subst (λ (x : List ℕ). eq_by_cmp (slice_cmp nat_cmp) q x ≡ true) (sym ((bytes_decides k q).0 h)) ((eq_by_cmp_equiv nat_list_cmp_total).refl q))

pub get_put : {X : Type 0} (m : FinMap (slice_cmp nat_cmp) X) (k : List ℕ) (v : X) (q : List ℕ) → get (insert m k v) q ≡ cond (bytes_eq k q) (Some v) (get m q)
get_put m k v q = get-insert nat_list_cmp_total m k v q ∙ ap (λ b. cond b (Some v) (get m q)) (tied q k)

pub get_del : {X : Type 0} (m : FinMap (slice_cmp nat_cmp) X) (k : List ℕ) (q : List ℕ) → get (remove m k) q ≡ cond (bytes_eq k q) None (get m q)
get_del m k q = get-remove nat_list_cmp_total m k q ∙ ap (λ b. cond b None (get m q)) (tied q k)

pub same_entries : {X : Type 0} (m n : FinMap (slice_cmp nat_cmp) X) → ((q : List ℕ) → get m q ≡ get n q) → m ≡ n
same_entries m n h = same_map nat_list_cmp_total exact m n h

pub bytes_self : (k : List ℕ) → bytes_eq k k ≡ true
bytes_self k = (bytes_decides k k).1 refl

pub bytes_same : (k q : List ℕ) → bytes_eq k q ≡ true → k ≡ q
bytes_same k q h = (bytes_decides k q).0 h

-- lists

pub get_set : {A : Type 0} (xs : List A) (i : ℕ) (x v : A) → slice_get xs i ≡ Some x → slice_get (slice_set xs i v) i ≡ Some v
get_set [] i x v h = absurd (cc)
get_set (y ∷ xs) zero x v h = refl
get_set (y ∷ xs) (suc i) x v h = get_set xs i x v h

pub get_set_other : {A : Type 0} (xs : List A) (i j : ℕ) (v : A) → (i ≡ j → ⊥) → slice_get (slice_set xs i v) j ≡ slice_get xs j
get_set_other [] i j v n = refl
get_set_other (y ∷ xs) zero zero v n = absurd (n refl)
get_set_other (y ∷ xs) zero (suc j) v n = refl
get_set_other (y ∷ xs) (suc i) zero v n = refl
get_set_other (y ∷ xs) (suc i) (suc j) v n = get_set_other xs i j v (λ e. n (ap suc e))

pub length_set : {A : Type 0} (xs : List A) (i : ℕ) (v : A) → length (slice_set xs i v) ≡ length xs
length_set [] i v = refl
length_set (y ∷ xs) zero v = refl
length_set (y ∷ xs) (suc i) v = ap suc (length_set xs i v)

pub get_pushed : {A : Type 0} (xs : List A) (v : A) → slice_get (xs ++ v ∷ []) (length xs) ≡ Some v
get_pushed [] v = refl
get_pushed (x ∷ xs) v = get_pushed xs v

pub get_pushed_other : {A : Type 0} (xs : List A) (v : A) (j : ℕ) → (length xs ≡ j → ⊥) → slice_get (xs ++ v ∷ []) j ≡ slice_get xs j
get_pushed_other [] v zero n = absurd (n refl)
get_pushed_other [] v (suc j) n = refl
get_pushed_other (x ∷ xs) v zero n = refl
get_pushed_other (x ∷ xs) v (suc j) n = get_pushed_other xs v j (λ e. n (ap suc e))

pub length_pushed : {A : Type 0} (xs : List A) (v : A) → length (xs ++ v ∷ []) ≡ suc (length xs)
length_pushed [] v = refl
length_pushed (x ∷ xs) v = ap suc (length_pushed xs v)

pub get_past : {A : Type 0} (xs : List A) → slice_get xs (length xs) ≡ None
get_past [] = refl
get_past (x ∷ xs) = get_past xs

pub length_take : {A : Type 0} (xs : List A) (n : ℕ) → length xs ≡ suc n → length (take n xs) ≡ n
length_take xs zero h = refl
length_take [] (suc n) h = absurd (cc)
length_take (x ∷ xs) (suc n) h = ap suc (length_take xs n (let e : suc (length xs) ≡ suc (suc n) = h in omega arith))

pub get_taken : {A : Type 0} (xs : List A) (n : ℕ) → slice_get (take n xs) n ≡ None
get_taken xs zero = refl
get_taken [] (suc n) = refl
get_taken (x ∷ xs) (suc n) = get_taken xs n

pub get_taken_other : {A : Type 0} (xs : List A) (n j : ℕ) → length xs ≡ suc n → (n ≡ j → ⊥) → slice_get (take n xs) j ≡ slice_get xs j
get_taken_other [] n j h i = absurd (let e : 0 ≡ suc n = h in omega arith)
get_taken_other (x ∷ []) zero zero h i = absurd (i refl)
get_taken_other (x ∷ []) zero (suc j) h i = refl
get_taken_other (x ∷ y ∷ xs) zero j h i = absurd (let e : suc (suc (length xs)) ≡ 1 = h in omega arith)
get_taken_other (x ∷ xs) (suc n) zero h i = refl
get_taken_other (x ∷ xs) (suc n) (suc j) h i = get_taken_other xs n j (let e : suc (length xs) ≡ suc (suc n) = h in omega arith) (λ e. i (ap suc e))

pub same_lists : {A : Type 0} (xs ys : List A) → ((i : ℕ) → slice_get xs i ≡ slice_get ys i) → xs ≡ ys
same_lists [] [] h = refl
same_lists [] (y ∷ ys) h = absurd (let e = h 0 in cc)
same_lists (x ∷ xs) [] h = absurd (let e = h 0 in cc)
same_lists {A} (x ∷ xs) (y ∷ ys) h = let e : ◌≡◌ {A = Option A} (Some x) (Some y) = h 0 in let p : x ≡ y = cc in ap (λ (z : A). z ∷ xs) p ∙ ap (λ (zs : List A). y ∷ zs) (same_lists xs ys (λ i. h (suc i)))

-- parts

pub part_same : (p q : Part) → same_part p q ≡ true → p ≡ q
part_same Kind Kind h = refl
part_same Length Length h = refl
part_same (Item i) (Item j) h = ap Item (eqb-true i j h)
part_same (Key k) (Key l) h = ap Key (bytes_same k l h)
part_same Body Body h = refl
part_same (Buried r) (Buried s) h = ap Buried (eqb-true r s h)
part_same p q h = absurd (cc)
