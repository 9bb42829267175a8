-- Two accounts of one page, and lists that say the same at each place.
use Rattle.std.proofs.Common.{◌≡◌, ℕ, zero, suc, ◌<◌, ◌≤◌, ◌^◌, List, [], ◌∷◌, length, slice_get, slice_index, Option, Some, None, refl, sym, ap, ◌∙◌, subst, arith}
use Rattle.std.proofs.lemmas.Option.{slice_get_past}
use Rattle.byteorder.specs.Endian.{little_bytes}
pub use Rattle.sg_model.proofs.Parts.{same_lists}
use Rattle.sg_space.specs.Links.{link_cell}
use Rattle.sg_space.specs.Units.{HasAt}
use Rattle.sg_space.proofs.Links.{number_is}

-- one page has both properties
pub both_at : {A : Type 0} {at : ℕ → Option A} {n : ℕ} {P Q : A → Type 0} → HasAt at n P → HasAt at n Q → (x : A) × P x × Q x
both_at {Q = Q} h k = (h.what, h.has, subst Q (let e : Some k.what ≡ Some h.what = sym k.is ∙ h.is in (let f : k.what ≡ h.what = cc in f)) k.has)

-- numbers of 4 bytes that are named by the same cells
pub same_link : (o p : Option ℕ) → ((n : ℕ) → o ≡ Some n → n < 2 ^ 32) → ((n : ℕ) → p ≡ Some n → n < 2 ^ 32) → link_cell o ≡ link_cell p → o ≡ p
same_link None None f g e = refl
same_link None (Some n) f g e = absurd (let k : ◌≡◌ {A = Option (List ℕ)} None (Some (little_bytes 4 n)) = e in cc)
same_link (Some m) None f g e = absurd (let k : ◌≡◌ {A = Option (List ℕ)} (Some (little_bytes 4 m)) None = e in cc)
same_link (Some m) (Some n) f g e = ap Some (number_is m n (f m refl) (g n refl) (let k : ◌≡◌ {A = Option (List ℕ)} (Some (little_bytes 4 m)) (Some (little_bytes 4 n)) = e in (let j : little_bytes 4 m ≡ little_bytes 4 n = cc in j)))

-- nothing is behind the last
pub none_behind : {A : Type 0} (xs : List A) (i : ℕ) → length xs ≤ i → slice_get xs i ≡ None
none_behind xs i h = slice_get_past xs i h

-- a list of numbers, with 0 for what isn't there
pub zero_past : (xs : List ℕ) (n : ℕ) → slice_get xs n ≡ None → slice_index xs n ≡ 0
zero_past [] n e = refl
zero_past (x ∷ xs) zero e = absurd (cc)
zero_past (x ∷ xs) (suc n) e = zero_past xs n e

pub index_is : (xs : List ℕ) (n p : ℕ) → slice_get xs n ≡ Some p → slice_index xs n ≡ p
index_is [] n p e = absurd (cc)
index_is (x ∷ xs) zero p e = let k : x ≡ p = cc in k
index_is (x ∷ xs) (suc n) p e = index_is xs n p e

get_is : (xs : List ℕ) (n p : ℕ) → 0 < p → slice_index xs n ≡ p → slice_get xs n ≡ Some p
get_is [] n p u e = absurd (let k : 0 ≡ p = e in omega (arith, k, u))
get_is (x ∷ xs) zero p u e = ap Some (let k : x ≡ p = e in k)
get_is (x ∷ xs) (suc n) p u e = get_is xs n p u e

none_at : (xs : List ℕ) (n : ℕ) → ((p : ℕ) → slice_get xs n ≡ Some p → 0 < p) → slice_index xs n ≡ 0 → slice_get xs n ≡ None
none_at [] n u e = refl
none_at (x ∷ xs) zero u e = absurd (let k = u x refl in let j : x ≡ 0 = e in omega (arith, k, j))
none_at (x ∷ xs) (suc n) u e = none_at xs n u e

pub past_length : {A : Type 0} (xs : List A) (n : ℕ) → slice_get xs n ≡ None → length xs ≤ n
past_length [] n e = omega arith
past_length (x ∷ xs) zero e = absurd (cc)
past_length (x ∷ xs) (suc n) e = let k = past_length xs n e in let j : suc (length xs) ≤ suc n = omega (arith, k) in j

pub past_more : {A : Type 0} (xs : List A) (n : ℕ) → slice_get xs n ≡ None → slice_get xs (suc n) ≡ None
past_more xs n e = none_behind xs (suc n) (let k = past_length xs n e in omega (arith, k))

-- chains of pages, each of which says the next one, that begin at the same page: 0 says that there is none
module _ (ps qs : List ℕ) (start : slice_get ps 0 ≡ slice_get qs 0) (next : (i p : ℕ) → slice_get ps i ≡ Some p → slice_get qs i ≡ Some p → slice_index ps (suc i) ≡ slice_index qs (suc i))
    (up : (i p : ℕ) → slice_get ps (suc i) ≡ Some p → 0 < p) (uq : (i p : ℕ) → slice_get qs (suc i) ≡ Some p → 0 < p) where
  next_same : (i p : ℕ) → slice_get ps i ≡ Some p → slice_get qs i ≡ Some p → (o : Option ℕ) → slice_get ps (suc i) ≡ o → slice_get ps (suc i) ≡ slice_get qs (suc i)
  next_same i p e f (Some n) g = g ∙ sym (get_is qs (suc i) n (up i n g) (sym (next i p e f) ∙ index_is ps (suc i) n g))
  next_same i p e f None g = g ∙ sym (none_at qs (suc i) (uq i) (sym (next i p e f) ∙ zero_past ps (suc i) g))

  one_more : (i : ℕ) → slice_get ps i ≡ slice_get qs i → (o : Option ℕ) → slice_get ps i ≡ o → slice_get ps (suc i) ≡ slice_get qs (suc i)
  one_more i e None f = past_more ps i f ∙ sym (past_more qs i (sym e ∙ f))
  one_more i e (Some p) f = next_same i p f (sym e ∙ f) (slice_get ps (suc i)) refl

  pub same_chain : (i : ℕ) → slice_get ps i ≡ slice_get qs i
  same_chain zero = start
  same_chain (suc i) = one_more i (same_chain i) (slice_get ps i) refl
