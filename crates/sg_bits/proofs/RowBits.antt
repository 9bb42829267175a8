-- A row of words: what holds of a word's bits holds of the row's bits that it has.
use Rattle.std.proofs.Common.{◌≡◌, ◌≢◌, ℕ, ◌+◌, ◌*◌, ◌/◌, ◌%◌, ◌^◌, ◌<◌, ◌≤◌, ◌==◌, true, ◌⊎◌, ◌↔◌, bit_or, bit_and, List, length, get_or, set, inl, inr, sym, ap, subst, refl, arith}
use Rattle.std.specs.Int.{w64, bit_not, bit_at}
use Rattle.std.proofs.lemmas.List.{get_or-set_same, get_or-set_other, get_or_past}
use Rattle.std.proofs.lemmas.Bool.{cases_lt, cases_eq}
use Rattle.std.proofs.lemmas.Bool.Decides.{nat_tests}
use Rattle.std.proofs.lemmas.Nat.Bits.{bit_at-zero}
use Rattle.sg_bits.specs.Bits.{HasBit, IsSet}
use Rattle.sg_bits.proofs.WordBits.{HasBit-or, HasBit-and, HasBit-not, HasBit_or_not}

-- bit k of the row, which is bit i of the word w
pub set_is : (words : List ℕ) (w i k : ℕ) → k / 64 ≡ w → k % 64 ≡ i → IsSet words k ↔ HasBit (get_or words w 0) i
unfolding IsSet
set_is words w i k p q = subst (λ v. HasBit (get_or words (k / 64) 0) (k % 64) ↔ HasBit (get_or words v 0) i) p (subst (λ j. HasBit (get_or words (k / 64) 0) (k % 64) ↔ HasBit (get_or words (k / 64) 0) j) q (λ h. h, λ h. h))

-- what a word's new ones add to the row
pub record Adds (old new : List ℕ) (first end : ℕ) : Type 0 where
  pub from_new : (k : ℕ) → IsSet new k → IsSet old k ⊎ ((first ≤ k) × (k < end))
  pub kept : (k : ℕ) → IsSet old k → IsSet new k
  pub added : (k : ℕ) → first ≤ k → k < end → IsSet new k

pub word_adds : (words : List ℕ) (w mask low high first end : ℕ) → w < length words → ((i : ℕ) → HasBit mask i ↔ ((low ≤ i) × (i < high))) → high ≤ 64 → w * 64 + low ≡ first → w * 64 + high ≡ end → Adds words (set words w (bit_or (get_or words w 0) mask)) first end
word_adds words w mask low high first end within ones fits p q =
    let new : List ℕ = set words w (bit_or (get_or words w 0) mask) in
    let same : get_or new w 0 ≡ bit_or (get_or words w 0) mask = get_or-set_same words w (bit_or (get_or words w 0) mask) 0 within in
    let other : (k : ℕ) → (k / 64 ≡ w → ⊥) → get_or new (k / 64) 0 ≡ get_or words (k / 64) 0 = λ k ne. get_or-set_other words w (k / 64) (bit_or (get_or words w 0) mask) 0 ne in
    let here : (k : ℕ) → k / 64 ≡ w → IsSet new k ↔ (HasBit (get_or words w 0) (k % 64) ⊎ HasBit mask (k % 64)) =
    λ k e. let is = set_is new w (k % 64) k e refl in
    let or = HasBit-or (get_or words w 0) mask (k % 64) in
    (λ h. or.0 (subst (λ v. HasBit v (k % 64)) same (is.0 h)), λ h. is.1 (subst (λ v. HasBit v (k % 64)) (sym same) (or.1 h))) in
    let there : (k : ℕ) → (k / 64 ≡ w → ⊥) → IsSet new k ↔ IsSet words k =
    λ k ne. let a = set_is new (k / 64) (k % 64) k refl refl in
    let b = set_is words (k / 64) (k % 64) k refl refl in
    (λ h. b.1 (subst (λ v. HasBit v (k % 64)) (other k ne) (a.0 h)), λ h. a.1 (subst (λ v. HasBit v (k % 64)) (sym (other k ne)) (b.0 h))) in
    record {
      from_new = λ k h. elim (cases_eq (k / 64) w) as (λ _. IsSet words k ⊎ ((first ≤ k) × (k < end))) [
        | inl e ↦ elim ((here k e).0 h) as (λ _. IsSet words k ⊎ ((first ≤ k) × (k < end))) [
          | inl old ↦ inl ((set_is words w (k % 64) k e refl).1 old)
          | inr one ↦ (let place = (ones (k % 64)).0 one in inr (omega (arith, place), omega (arith, place)))
        ]
        | inr ne ↦ inl ((there k ne).0 h)
      ];
      kept = λ k h. elim (cases_eq (k / 64) w) as (λ _. IsSet new k)
          [ inl e ↦ (here k e).1 (inl ((set_is words w (k % 64) k e refl).0 h)) | inr ne ↦ (there k ne).1 h ];
      added = λ k after before.
          let e : k / 64 ≡ w = omega arith in
          (here k e).1 (inr ((ones (k % 64)).1 (omega arith, omega arith)));
    }

-- two stretches, one after the other
pub adds_more : (a b c : List ℕ) (first here end : ℕ) → first ≤ here → here ≤ end → Adds a b first here → Adds b c here end → Adds a c first end
adds_more a b c first here end p q x y =
    record {
      from_new = λ k h. elim (y.from_new k h) as (λ _. IsSet a k ⊎ ((first ≤ k) × (k < end))) [
        | inl set ↦ elim (x.from_new k set) as (λ _. IsSet a k ⊎ ((first ≤ k) × (k < end)))
            [ inl old ↦ inl old | inr r ↦ inr (r.0, omega (arith, r)) ]
        | inr r ↦ inr (omega (arith, r), r.1)
      ];
      kept = λ k h. y.kept k (x.kept k h);
      added = λ k after before. elim (cases_lt k here) as (λ _. IsSet c k)
          [ inl lt ↦ y.kept k (x.added k after lt) | inr le ↦ y.added k le before ];
    }

pub adds_none : (a : List ℕ) (first : ℕ) → Adds a a first first
adds_none a first = record { from_new = λ k h. inl h; kept = λ k h. h; added = λ k after before. absurd (omega arith) }

-- what holds of each bit from `from` on, a stretch further
pub reach_more : (P : ℕ → Type 0) (from here end : ℕ) → ((k : ℕ) → from ≤ k → k < here → P k) → ((k : ℕ) → here ≤ k → k < end → P k) → (k : ℕ) → from ≤ k → k < end → P k
reach_more P from here end old new k after before = elim (cases_lt k here) as (λ _. P k) [ inl lt ↦ old k after lt | inr le ↦ new k le before ]

-- the rest of a word that has no one from `here` up to a bit
pub word_skipped : (words : List ℕ) (here bit end : ℕ) → bit ≤ 64 → here / 64 * 64 + bit ≡ end → ((i : ℕ) → here % 64 ≤ i → i < bit → HasBit (get_or words (here / 64) 0) i → ⊥) → (k : ℕ) → here ≤ k → k < end → IsSet words k → ⊥
word_skipped words here bit end fits e none k after before h =
    let w : k / 64 ≡ here / 64 = omega arith in
    none (k % 64) (omega arith) (omega arith) ((set_is words (here / 64) (k % 64) k w refl).0 h)

-- the rest of a word whose complement has none
pub word_filled : (words : List ℕ) (here bit end : ℕ) → get_or words (here / 64) 0 < 2 ^ 64 → bit ≤ 64 → here / 64 * 64 + bit ≡ end → ((i : ℕ) → here % 64 ≤ i → i < bit → HasBit (bit_not w64 (get_or words (here / 64) 0)) i → ⊥) → (k : ℕ) → here ≤ k → k < end → IsSet words k
word_filled words here bit end small fits e none k after before =
    let w : k / 64 ≡ here / 64 = omega arith in
    let word : ℕ = get_or words (here / 64) 0 in
    let no : HasBit (bit_not w64 word) (k % 64) → ⊥ = none (k % 64) (omega arith) (omega arith) in
    (set_is words (here / 64) (k % 64) k w refl).1
    (elim (HasBit_or_not word (k % 64)) as (λ _. HasBit word (k % 64)) [ inl one ↦ one | inr zero ↦ absurd (no ((HasBit-not word (k % 64) small (omega arith)).1 zero)) ])

pub word_found : (words : List ℕ) (w bit at : ℕ) → bit < 64 → w * 64 + bit ≡ at → HasBit (get_or words w 0) bit → IsSet words at
word_found words w bit at fits e one = (set_is words w bit at (omega arith) (omega arith)).1 one

pub word_clear : (words : List ℕ) (w bit at : ℕ) → get_or words w 0 < 2 ^ 64 → bit < 64 → w * 64 + bit ≡ at → HasBit (bit_not w64 (get_or words w 0)) bit → IsSet words at → ⊥
word_clear words w bit at small fits e one h = (HasBit-not (get_or words w 0) bit small fits).0 one ((set_is words w bit at (omega arith) (omega arith)).0 h)

-- a word of zeros has no one
pub zero_bits : (words : List ℕ) (k : ℕ) → get_or words (k / 64) 0 ≡ 0 → IsSet words k → ⊥
unfolding IsSet HasBit
zero_bits words k e h =
    let none : bit_at (get_or words (k / 64) 0) (k % 64) ≡ 0 = rw e (bit_at-zero (k % 64)) in
    let one : bit_at (get_or words (k / 64) 0) (k % 64) ≡ 1 = h in
    absurd (omega (arith, none, one))

pub set_past : (words : List ℕ) (k : ℕ) → 64 * length words ≤ k → IsSet words k → ⊥
set_past words k past = zero_bits words k (get_or_past words (k / 64) 0 (omega arith))

-- the row with the ones of a mask cleared in the word of bit `at`
abbrev pub without : List ℕ → ℕ → ℕ → List ℕ
without words mask at = set words (at / 64) (bit_and (get_or words (at / 64) 0) (bit_not w64 mask))

-- a word whose one bit is cleared, in the row
pub word_clears : (words : List ℕ) (mask at : ℕ) → at / 64 < length words → mask < 2 ^ 64 → ((i : ℕ) → HasBit mask i ↔ ((at % 64 ≤ i) × (i < at % 64 + 1)))
    → (k : ℕ) → IsSet (set words (at / 64) (bit_and (get_or words (at / 64) 0) (bit_not w64 mask))) k ↔ (IsSet words k × (k ≢ at))
word_clears words mask at within small ones k =
    elim (cases_eq (k / 64) (at / 64)) as (λ _. IsSet (without words mask at) k ↔ (IsSet words k × (k ≢ at))) [
      | inl e ↦ here e
      | inr ne ↦ there ne
    ]
  where
    here : k / 64 ≡ at / 64 → IsSet (without words mask at) k ↔ (IsSet words k × (k ≢ at))
    here e =
        let word : ℕ = get_or words (at / 64) 0 in
        let same : get_or (without words mask at) (at / 64) 0 ≡ bit_and word (bit_not w64 mask) = get_or-set_same words (at / 64) (bit_and word (bit_not w64 mask)) 0 within in
        let is = set_is (without words mask at) (at / 64) (k % 64) k e refl in
        let was = set_is words (at / 64) (k % 64) k e refl in
        let both = HasBit-and word (bit_not w64 mask) (k % 64) in
        let flip = HasBit-not mask (k % 64) small (omega arith) in
        let one = ones (k % 64) in (
          λ h. let parts = both.0 (subst (λ v. HasBit v (k % 64)) same (is.0 h)) in
              (was.1 parts.0, λ same_place. flip.0 parts.1 (one.1 (omega arith, omega arith))),
          λ h. is.1 (subst (λ v. HasBit v (k % 64)) (sym same) (both.1 (was.0 h.0, flip.1 (λ set. h.1 (let place = one.0 set in omega (arith, e, place.0, place.1)))))),
        )

    there : (k / 64 ≡ at / 64 → ⊥) → IsSet (without words mask at) k ↔ (IsSet words k × (k ≢ at))
    there ne =
        let other : get_or (without words mask at) (k / 64) 0 ≡ get_or words (k / 64) 0 = get_or-set_other words (at / 64) (k / 64) (bit_and (get_or words (at / 64) 0) (bit_not w64 mask)) 0 ne in
        let a = set_is (without words mask at) (k / 64) (k % 64) k refl refl in
        let b = set_is words (k / 64) (k % 64) k refl refl in
        (λ h. (b.1 (subst (λ v. HasBit v (k % 64)) other (a.0 h)), λ same. ne (ap (λ (n : ℕ). n / 64) same)), λ h. a.1 (subst (λ v. HasBit v (k % 64)) (sym other) (b.0 h.0)))

-- a bit is set where it is itself the lowest one from there on
pub lowest_is_set : (words : List ℕ) (at r : ℕ) → at % 64 ≤ r → ((k : ℕ) → at % 64 ≤ k → k < r → HasBit (get_or words (at / 64) 0) k → ⊥) → (r < 64 → HasBit (get_or words (at / 64) 0) r)
    → ((r == at % 64) ≡ true) ↔ IsSet words at
lowest_is_set words at r after skipped found = (
  (λ yes.
      let same : r ≡ at % 64 = grind (arith, nat_tests, yes) in
      (set_is words (at / 64) (at % 64) at refl refl).1 (subst (λ (k : ℕ). HasBit (get_or words (at / 64) 0) k) same (found (omega arith)))),
  (λ s.
      let one : HasBit (get_or words (at / 64) 0) (at % 64) = (set_is words (at / 64) (at % 64) at refl refl).0 s in
      let same : r ≡ at % 64 = elim (cases_lt (at % 64) r) as (λ _. r ≡ at % 64) [ inl less ↦ absurd (skipped (at % 64) (omega arith) less one) | inr le ↦ omega arith ] in
      grind (arith, nat_tests, same)),
)

-- a word is full where its complement has no one
pub none_is_full : (words : List ℕ) (word r : ℕ) → get_or words word 0 < 2 ^ 64 → r ≤ 64 → ((k : ℕ) → 0 ≤ k → k < r → HasBit (bit_not w64 (get_or words word 0)) k → ⊥) → (r < 64 → HasBit (bit_not w64 (get_or words word 0)) r)
    → ((r == 64) ≡ true) ↔ ((k : ℕ) → k / 64 ≡ word → IsSet words k)
none_is_full words word r small bound none found = (
  (λ yes k e.
      let all : r ≡ 64 = grind (arith, nat_tests, yes) in
      (set_is words word (k % 64) k e refl).1 (elim (HasBit_or_not (get_or words word 0) (k % 64)) as (λ _. HasBit (get_or words word 0) (k % 64)) [
        | inl one ↦ one
        | inr zero ↦ absurd (none (k % 64) (omega arith) (omega arith) ((HasBit-not (get_or words word 0) (k % 64) small (omega arith)).1 zero))
      ])),
  (λ full.
      let at : r < 64 → ⊥ = λ less.
      let place : (word * 64 + r) / 64 ≡ word = omega arith in
      let bit : (word * 64 + r) % 64 ≡ r = omega arith in
      (HasBit-not (get_or words word 0) r small less).0 (found less) ((set_is words word r (word * 64 + r) place bit).0 (full (word * 64 + r) place)) in
      let all : r ≡ 64 = elim (cases_lt r 64) as (λ _. r ≡ 64) [ inl less ↦ absurd (at less) | inr le ↦ omega arith ] in
      grind (arith, nat_tests, all)),
)
