-- The child below which a key belongs.
use Rattle.std.proofs.Common.{◌≡◌, ℕ, suc, ◌+◌, ◌-◌, ◌<◌, ◌≤◌, Bool, true, false, List, [], ◌∷◌, length, drop, get_or, refl, sym, ap, ◌∙◌, subst, arith}
use Rattle.std.specs.Ordering.{is_lt}
use Rattle.std.specs.declared.cmp.Ordering.{Ordering}
use Rattle.std.specs.declared.cmp.Ordering.TheVariants.{Less, Equal, Greater}
use Rattle.std.proofs.Math.Seq.{drop-cons}
use Rattle.std.proofs.lemmas.List.{drop_all, get_or_default}
use Rattle.sg_index.specs.declared.item.Item.{Item}
use Rattle.sg_index.specs.Order.{key_cmp, IsBelow}
use Rattle.sg_index.specs.Change.{way_from, way}

module _ (items : List Item) (key : List ℕ) where
  pub way_start : (d : Item) → 1 ≤ length items → way_from (get_or items 0 d).child (drop 1 items) key ≡ way items key
  unfolding way
  way_start d some = by items some
    where
      by : (xs : List Item) → 1 ≤ length xs → way_from (get_or xs 0 d).child (drop 1 xs) key ≡ way xs key
      by [] h = absurd (omega (arith, h))
      by (x ∷ xs) h = refl

  module _ (i : ℕ) (child : ℕ) (h : Item) (within : i < length items) (is : h ≡ get_or items i h) where
    behind : drop i items ≡ h ∷ drop (suc i) items
    behind = drop-cons items i h within ∙ ap (λ (x : Item). x ∷ drop (suc i) items) (sym is)

    not_lt : (IsBelow key h.key → ⊥) → is_lt (key_cmp key h.key) ≡ false
    not_lt upto = by (key_cmp key h.key) refl
      where
        by : (o : Ordering) → key_cmp key h.key ≡ o → is_lt (key_cmp key h.key) ≡ false
        by Less e = absurd (upto e)
        by Equal e = ap is_lt e
        by Greater e = ap is_lt e

    pub way_on : (IsBelow key h.key → ⊥) → (d : Item) → way_from child (drop i items) key ≡ way_from (get_or items i d).child (drop (suc i) items) key
    way_on upto d =
        let not = not_lt upto in
        ap (λ (xs : List Item). way_from child xs key) behind ∙ (rw not refl ∙ ap (λ (x : Item). way_from x.child (drop (suc i) items) key) (is ∙ get_or_default items i h d within))

    pub way_stop : IsBelow key h.key → way_from child (drop i items) key ≡ child
    way_stop below = ap (λ (xs : List Item). way_from child xs key) behind ∙ rw below refl

  pub way_end : (child : ℕ) → way_from child (drop (length items) items) key ≡ child
  way_end child = ap (λ (xs : List Item). way_from child xs key) (drop_all (length items) items (omega arith))

  module _ (i : ℕ) (h : Item) (within : i < length items) (is : h ≡ get_or items i h) (bytes : List ℕ) (bytes_are : bytes ≡ (get_or items i h).key) where
    key_is : (d : Item) → (get_or items i d).key ≡ bytes
    key_is d = ap (λ (x : Item). x.key) (get_or_default items i d h within) ∙ sym bytes_are

    pub left_next : (IsBelow key bytes → ⊥) → (d : Item) → 1 < i + 1 → IsBelow key (get_or items (i + 1 - 1) d).key → ⊥
    left_next upto d more below =
        let same : i + 1 - 1 ≡ i = omega arith in
        let at : IsBelow key (get_or items i d).key = subst (λ (n : ℕ). IsBelow key (get_or items n d).key) same below in
        upto (subst (IsBelow key) (key_is d) at)

    pub way_next : (IsBelow key bytes → ⊥) → (d : Item) → way_from (get_or items (i - 1) d).child (drop i items) key ≡ way items key → way_from (get_or items (i + 1 - 1) d).child (drop (i + 1) items) key ≡ way items key
    way_next upto d before =
        let same : i + 1 - 1 ≡ i = omega arith in
        let more : i + 1 ≡ suc i = omega arith in
        let step = way_on i (get_or items (i - 1) d).child h within is (λ below. upto (subst (IsBelow key) (ap (λ (x : Item). x.key) is ∙ sym bytes_are) below)) d in
        ap (λ (n : ℕ). way_from (get_or items n d).child (drop (i + 1) items) key) same ∙ (ap (λ (n : ℕ). way_from (get_or items i d).child (drop n items) key) more ∙ (sym step ∙ before))

    pub way_found : IsBelow key bytes → (d : Item) → way_from (get_or items (i - 1) d).child (drop i items) key ≡ way items key → (get_or items (i - 1) d).child ≡ way items key
    way_found below d before = sym (way_stop i (get_or items (i - 1) d).child h within is (subst (IsBelow key) (bytes_are ∙ ap (λ (x : Item). x.key) (sym is)) below)) ∙ before

  pub way_last : (d : Item) (i : ℕ) → length items ≤ i → way_from (get_or items (i - 1) d).child (drop i items) key ≡ way items key → i ≡ length items → (get_or items (length items - 1) d).child ≡ way items key
  way_last d i past before same = sym (way_end (get_or items (length items - 1) d).child) ∙ (ap (λ (n : ℕ). way_from (get_or items (n - 1) d).child (drop n items) key) (sym same) ∙ before)

pub not_true : (b : Bool) (A : Type 0) → b ≡ false → (A → b ≡ true) → A → ⊥
not_true b A e f a = no (sym e ∙ f a)
  where
    no : false ≡ true → ⊥
    no g = cc
