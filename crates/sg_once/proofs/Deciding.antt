-- Decisions.
use Rattle.std.proofs.Common.{◌≡◌, ℕ, zero, suc, ◌<◌, ◌≤◌, ◌⊎◌, inl, inr, All, List, [], ◌∷◌, length, slice_get, get_or, Option, Some, None, refl, sym, ap, ◌∙◌, subst, arith}
use Rattle.std.proofs.lemmas.Bool.{cases_lt, cases_eq}
use Rattle.std.proofs.lemmas.Option.{slice_get-get_or}
use Rattle.sg_space.specs.Units.{HasAt}
pub use Rattle.sg_once.specs.Claims.{Dec}

pub dec_map : {A B : Type 0} → (A → B) → (B → A) → Dec A → Dec B
dec_map f g (inl a) = inl (f a)
dec_map f g (inr never) = inr (λ b. never (g b))

pub dec_both : {A B : Type 0} → Dec A → Dec B → Dec (A × B)
dec_both (inl a) (inl b) = inl (a, b)
dec_both (inl a) (inr never) = inr (λ p. never p.1)
dec_both (inr never) b = inr (λ p. never p.0)

pub dec_if : {A B : Type 0} → Dec A → Dec B → Dec (A → B)
dec_if a (inl b) = inl (λ x. b)
dec_if (inl a) (inr never) = inr (λ f. never (f a))
dec_if (inr none) (inr never) = inl (λ a. absurd (none a))

pub dec_number : (m n : ℕ) → Dec (m ≡ n)
dec_number m n = cases_eq m n

pub dec_less : (m n : ℕ) → Dec (m < n)
dec_less m n = go (cases_lt m n)
  where
    go : (m < n) ⊎ (n ≤ m) → Dec (m < n)
    go (inl h) = inl h
    go (inr h) = inr (λ k. omega (arith, h, k))

pub dec_most : (m n : ℕ) → Dec (m ≤ n)
dec_most m n = go (cases_lt n m)
  where
    go : (n < m) ⊎ (m ≤ n) → Dec (m ≤ n)
    go (inl h) = inr (λ k. omega (arith, h, k))
    go (inr h) = inl h

pub dec_list : (xs ys : List ℕ) → Dec (xs ≡ ys)
dec_list [] [] = inl refl
dec_list [] (y ∷ ys) = inr (λ e. cc)
dec_list (x ∷ xs) [] = inr (λ e. cc)
dec_list (x ∷ xs) (y ∷ ys) = dec_map (λ p. λ i. p.0 i ∷ p.1 i) (λ e. ((let k : x ∷ xs ≡ y ∷ ys = e in (let j : x ≡ y = cc in j)), (let k : x ∷ xs ≡ y ∷ ys = e in (let j : xs ≡ ys = cc in j)))) (dec_both (dec_number x y) (dec_list xs ys))

pub dec_cell : (x y : Option (List ℕ)) → Dec (x ≡ y)
dec_cell None None = inl refl
dec_cell None (Some y) = inr (λ e. cc)
dec_cell (Some x) None = inr (λ e. cc)
dec_cell (Some x) (Some y) = dec_map (λ e. ap Some e) (λ e. (let k : ◌≡◌ {A = Option (List ℕ)} (Some x) (Some y) = e in (let j : x ≡ y = cc in j))) (dec_list x y)

-- of all numbers below one
pub dec_below : (n : ℕ) (P : ℕ → Type 0) → ((i : ℕ) → Dec (P i)) → Dec ((i : ℕ) → i < n → P i)
dec_below zero P d = inl (λ i less. absurd (omega (arith, less)))
dec_below (suc n) P d = dec_map (λ p. split p.0 p.1) (λ f. (f 0 (let z : 0 < suc n = omega arith in z), (λ i less. f (suc i) (let z : suc i < suc n = omega (arith, less) in z)))) (dec_both (d 0) (dec_below n (λ i. P (suc i)) (λ i. d (suc i))))
  where
    split : P 0 → ((i : ℕ) → i < n → P (suc i)) → (i : ℕ) → i < suc n → P i
    split z f zero less = z
    split z f (suc i) less = f i (omega (arith, less))

-- of each place of a list
pub dec_each : {A : Type 0} (xs : List A) (P : ℕ → A → Type 0) → ((i : ℕ) (x : A) → Dec (P i x)) → Dec ((i : ℕ) (x : A) → slice_get xs i ≡ Some x → P i x)
dec_each {A} [] P d = inl (λ i x e. absurd (cc))
dec_each {A} (y ∷ ys) P d = dec_map (λ p. split p.0 p.1) (λ f. (f 0 y refl, (λ i x e. f (suc i) x e))) (dec_both (d 0 y) (dec_each ys (λ i x. P (suc i) x) (λ i x. d (suc i) x)))
  where
    split : P 0 y → ((i : ℕ) (x : A) → slice_get ys i ≡ Some x → P (suc i) x) → (i : ℕ) (x : A) → slice_get (y ∷ ys) i ≡ Some x → P i x
    split z f zero x e = subst (P 0) (let k : y ≡ x = cc in k) z
    split z f (suc i) x e = f i x e

-- of what stands at a number
pub dec_at : {A : Type 0} (at : ℕ → Option A) (n : ℕ) (P : A → Type 0) → ((x : A) → Dec (P x)) → Dec (HasAt at n P)
dec_at {A} at n P d = go (at n) refl
  where
    go : (o : Option A) → at n ≡ o → Dec (HasAt at n P)
    go None e = inr (λ h. (let k : ◌≡◌ {A = Option A} None (Some h.what) = sym e ∙ h.is in cc))
    go (Some x) e = dec_map (λ p. record { what = x; is = e; has = p }) (λ h. subst P (let k : ◌≡◌ {A = Option A} (Some h.what) (Some x) = sym h.is ∙ e in (let j : h.what ≡ x = cc in j)) h.has) (d x)

pub dec_bytes : (xs : List ℕ) → Dec (All (λ x. x < 256) xs)
dec_bytes xs = dec_map (λ f. λ k d less. subst (λ n. n < 256) (same k 0 d less) (f k less)) (λ a. λ k less. a k 0 less) (dec_below (length xs) (λ k. get_or xs k 0 < 256) (λ k. dec_less (get_or xs k 0) 256))
  where
    same : (k a b : ℕ) → k < length xs → get_or xs k a ≡ get_or xs k b
    same k a b less = let e : Some (get_or xs k a) ≡ Some (get_or xs k b) = sym (slice_get-get_or xs k a less) ∙ slice_get-get_or xs k b less in (let f : get_or xs k a ≡ get_or xs k b = cc in f)

-- WHAT A LIST IS, by what is found at each place up to one where nothing is
abbrev pub with_rest : {A : Type 0} → Option A → List A → List A
with_rest None xs = []
with_rest (Some x) xs = x ∷ xs

abbrev pub collect : {A : Type 0} → (ℕ → Option A) → ℕ → List A
collect f zero = []
collect f (suc n) = with_rest (f 0) (collect (λ i. f (suc i)) n)

pub collected : {A : Type 0} (n : ℕ) (f : ℕ → Option A) (xs : List A) → length xs ≤ n → ((i : ℕ) → i < n → f i ≡ slice_get xs i) → collect f n ≡ xs
collected zero f [] few h = refl
collected zero f (x ∷ xs) few h = absurd (let k : suc (length xs) ≤ 0 = few in omega (arith, k))
collected (suc n) f [] few h = ap (λ o. with_rest o (collect (λ i. f (suc i)) n)) (h 0 (let z : 0 < suc n = omega arith in z))
collected (suc n) f (x ∷ xs) few h =
    ap (λ o. with_rest o (collect (λ i. f (suc i)) n)) (h 0 (let z : 0 < suc n = omega arith in z))
    ∙ ap (λ ys. x ∷ ys) (collected n (λ i. f (suc i)) xs (let k : suc (length xs) ≤ suc n = few in omega (arith, k)) (λ i less. h (suc i) (let z : suc i < suc n = omega (arith, less) in z)))
