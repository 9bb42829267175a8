-- What is found in a list that was mapped.
use Rattle.std.proofs.Common.{◌≡◌, ◌≢◌, ◌==◌, ℕ, suc, Bool, true, false, List, [], ◌∷◌, ◌++◌, Option, Some, None, refl, map, cond, arith, Bor, sym, ◌∙◌, ap, eq-eqb, append_assoc}
use Rattle.std.specs.Prelude.{MatchOption, All, IfSome, is_some}
use Rattle.std.specs.List.{find}
use Rattle.std.specs.Option.{option_map, option_copied, option_or}
use Rattle.std.proofs.lemmas.Bool.{ne_eqb}
use Rattle.std.proofs.lemmas.List.{map-append}
use Rattle.std.proofs.lemmas.List.Folds.{find-append}
use Rattle.sg_ops.specs.Table.{Adds}

pub finds_mapped : {A B : Type 0} (p : B → Bool) (f : A → B) (xs : List A) → find p (map f xs) ≡ option_map f (find (λ x. p (f x)) xs)
finds_mapped p f [] = refl
finds_mapped p f (x ∷ xs) = elim (p (f x)) as (λ b. cond b (Some (f x)) (find p (map f xs)) ≡ option_map f (cond b (Some x) (find (λ x. p (f x)) xs))) [ true ↦ refl | false ↦ finds_mapped p f xs ]

-- what was found in the list says what is found in the mapped one
pub match_mapped : {A B : Type 0} (p : B → Bool) (f : A → B) (xs : List A) (o : Option (Bor A)) → option_copied o ≡ find (λ x. p (f x)) xs → MatchOption o (find p (map f xs) ≡ None) (λ b. find p (map f xs) ≡ Some (f b.now))
match_mapped p f xs None h = finds_mapped p f xs ∙ ap (option_map f) (sym h)
match_mapped p f xs (Some b) h = finds_mapped p f xs ∙ ap (option_map f) (sym h)

-- what is found keeps what holds of all
pub find_holds : {X : Type 0} (P : X → Type 0) (p : X → Bool) (xs : List X) → All P xs → IfSome (find p xs) P
find_holds P p [] h = tt
find_holds P p (x ∷ xs) h =
    elim (p x) as (λ b. IfSome (cond b (Some x) (find p xs)) P) [ true ↦ h 0 x (omega arith) | false ↦ find_holds P p xs (λ k d i. h (suc k) d (omega (arith, i))) ]

pub find_holds_after : {X : Type 0} (P : X → Type 0) (p : X → Bool) (x : X) (xs : List X) → P x → All P xs → IfSome (find p (x ∷ xs)) P
find_holds_after P p x xs here h = elim (p x) as (λ b. IfSome (cond b (Some x) (find p xs)) P) [ true ↦ here | false ↦ find_holds P p xs h ]

-- what is found once one more element stands behind
find-one_more : {X : Type 0} (p : X → Bool) (xs : List X) (x : X) → find p (xs ++ x ∷ []) ≡ option_or (find p xs) (cond (p x) (Some x) None)
find-one_more p xs x = find-append p xs (x ∷ [])

option_or-None : {X : Type 0} (o : Option X) → option_or o None ≡ o
option_or-None None = refl
option_or-None (Some x) = refl

none_of : {X : Type 0} (o : Option X) → is_some o ≡ false → o ≡ None
none_of None h = refl
none_of (Some x) h = cc

-- under its own code the new element is found, where nothing was
found_behind : {X : Type 0} (code_of : X → ℕ) (xs : List X) (x : X) → find (λ y. code_of y == code_of x) xs ≡ None → find (λ y. code_of y == code_of x) (xs ++ x ∷ []) ≡ Some x
found_behind code_of xs x h =
    find-one_more (λ y. code_of y == code_of x) xs x
    ∙ ap (λ o. option_or o (cond (code_of x == code_of x) (Some x) None)) h
    ∙ ap (λ b. option_or None (cond b (Some x) None)) (eq-eqb (code_of x) (code_of x) refl)

-- under every other code it makes no difference
found_before : {X : Type 0} (code_of : X → ℕ) (xs : List X) (x : X) (code : ℕ) → code ≢ code_of x → find (λ y. code_of y == code) (xs ++ x ∷ []) ≡ find (λ y. code_of y == code) xs
found_before code_of xs x code h =
    find-one_more (λ y. code_of y == code) xs x
    ∙ ap (λ b. option_or (find (λ y. code_of y == code) xs) (cond b (Some x) None)) (ne_eqb (code_of x) code (λ e. h (sym e)))
    ∙ option_or-None (find (λ y. code_of y == code) xs)

-- a push of one more box, under a code that was free, adds what the box means, behind some others
pub pushes : {A M : Type 0} (code_of : M → ℕ) (f : A → M) (front : List M) (before after : List A) (x : A) (code : ℕ) → code ≡ code_of (f x) → is_some (find (λ m. code_of m == code) (front ++ map f before)) ≡ false → after ≡ before ++ x ∷ [] → Adds code_of (front ++ map f before) (front ++ map f after) (f x)
pushes code_of f front before after x code same free pushed =
    let old = front ++ map f before in
    let all : front ++ map f after ≡ old ++ f x ∷ [] =
    ap (λ ms. front ++ ms) (ap (map f) pushed ∙ map-append f before (x ∷ [])) ∙ sym (append_assoc front (map f before) (f x ∷ [])) in
    let was_free : find (λ m. code_of m == code_of (f x)) old ≡ None = none_of _ (ap (λ k. is_some (find (λ m. code_of m == k) old)) (sym same) ∙ free) in
    record {
      was_free = was_free;
      is_there = ap (find (λ m. code_of m == code_of (f x))) all ∙ found_behind code_of old (f x) was_free;
      others = λ code other. ap (find (λ m. code_of m == code)) all ∙ found_before code_of old (f x) code other;
      all = all;
    }
