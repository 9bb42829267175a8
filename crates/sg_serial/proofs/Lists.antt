-- Filters, and the live transactions.
use Rattle.std.proofs.Common.{◌≡◌, ℕ, ◌<◌, ◌≤◌, Bool, true, false, cond, not, List, [], ◌∷◌, ◌++◌, refl, sym, ap, ◌∙◌, ◌⊎◌, subst, arith}
use Rattle.std.proofs.Common.{inl, inr}
use Rattle.std.specs.Prelude.{◌||◌, ◌&&◌, ◌==◌}
use Rattle.std.specs.List.{filter}
use Rattle.std.proofs.lemmas.Bool.{eqb-true, eq-eqb}
use Rattle.sg_serial.specs.Machine.{Among, Entry, AreOthers, LeavesEnds}
use Rattle.sg_serial.specs.Runs.{Live, is_live, without, AreFrom, AreInOrder, AreBelow, LeavesOutEnds, AreAbove, AreRising, in_order}
use Rattle.sg_serial.proofs.Commute.{true_or_false}

pub chosen : {A : Type 0} (b : Bool) (x y : A) → b ≡ true → cond b x y ≡ x
chosen true x y h = refl
chosen false x y h = absurd (cc)

pub not_chosen : {A : Type 0} (b : Bool) (x y : A) → b ≡ false → cond b x y ≡ y
not_chosen true x y h = absurd (cc)
not_chosen false x y h = refl

-- a filter of a filter
both_of : {A : Type 0} (a b : Bool) (p : A → Bool) (x : A) (xs ys : List A) → p x ≡ a → filter p xs ≡ ys → filter p (cond b (x ∷ xs) xs) ≡ cond (a && b) (x ∷ ys) ys
both_of true true p x xs ys h e = chosen (p x) (x ∷ filter p xs) (filter p xs) h ∙ ap (λ zs. x ∷ zs) e
both_of true false p x xs ys h e = e
both_of false true p x xs ys h e = not_chosen (p x) (x ∷ filter p xs) (filter p xs) h ∙ e
both_of false false p x xs ys h e = e

pub filter_both : {A : Type 0} (p q : A → Bool) (xs : List A) → filter p (filter q xs) ≡ filter (λ x. p x && q x) xs
filter_both p q [] = refl
filter_both p q (x ∷ xs) = both_of (p x) (q x) p x (filter q xs) (filter (λ x. p x && q x) xs) refl (filter_both p q xs)

pub filter_same : {A : Type 0} (p q : A → Bool) (xs : List A) → ((x : A) → Among x xs → p x ≡ q x) → filter p xs ≡ filter q xs
filter_same p q [] h = refl
filter_same p q (x ∷ xs) h =
    ap (λ b. cond b (x ∷ filter p xs) (filter p xs)) (h x (inl refl)) ∙ ap (λ ys. cond (q x) (x ∷ ys) ys) (filter_same p q xs (λ y i. h y (inr i)))

pub filter_true : {A : Type 0} (xs : List A) → filter (λ x. true) xs ≡ xs
filter_true [] = refl
filter_true (x ∷ xs) = ap (λ ys. x ∷ ys) (filter_true xs)

put_front : {A : Type 0} (b : Bool) (x : A) (xs ys : List A) → cond b (x ∷ (xs ++ ys)) (xs ++ ys) ≡ cond b (x ∷ xs) xs ++ ys
put_front true x xs ys = refl
put_front false x xs ys = refl

pub filter_append : {A : Type 0} (p : A → Bool) (xs ys : List A) → filter p (xs ++ ys) ≡ filter p xs ++ filter p ys
filter_append p [] ys = refl
filter_append p (x ∷ xs) ys = ap (λ zs. cond (p x) (x ∷ zs) zs) (filter_append p xs ys) ∙ put_front (p x) x (filter p xs) (filter p ys)

swapped : (a b : Bool) → (a && b) ≡ (b && a)
swapped true true = refl
swapped true false = refl
swapped false true = refl
swapped false false = refl

pub filter_swap : {A : Type 0} (p q : A → Bool) (xs : List A) → filter p (filter q xs) ≡ filter q (filter p xs)
filter_swap p q xs = filter_both p q xs ∙ (filter_same (λ x. p x && q x) (λ x. q x && p x) xs (λ x i. swapped (p x) (q x)) ∙ sym (filter_both q p xs))

among_more : {A : Type 0} (b : Bool) (x y : A) (ys : List A) → Among x ys → Among x (cond b (y ∷ ys) ys)
among_more true x y ys h = inr h
among_more false x y ys h = h

among_head : {A : Type 0} (b : Bool) (x y : A) (ys : List A) → b ≡ true → x ≡ y → Among x (cond b (y ∷ ys) ys)
among_head true x y ys h e = inl e
among_head false x y ys h e = absurd (cc)

pub in_filter : {A : Type 0} (p : A → Bool) (x : A) (xs : List A) → Among x xs → p x ≡ true → Among x (filter p xs)
in_filter p x [] h k = absurd h
in_filter p x (y ∷ ys) h k = elim h [ inl e ↦ among_head (p y) x y (filter p ys) (ap p (sym e) ∙ k) e | inr i ↦ among_more (p y) x y (filter p ys) (in_filter p x ys i k) ]

among_cond : {A : Type 0} (b : Bool) (x y : A) (ys : List A) → Among x (cond b (y ∷ ys) ys) → ((x ≡ y) × (b ≡ true)) ⊎ Among x ys
among_cond true x y ys h = elim h [ inl e ↦ inl (e, refl) | inr i ↦ inr i ]
among_cond false x y ys h = inr h

pub among_filter : {A : Type 0} (p : A → Bool) (x : A) (xs : List A) → Among x (filter p xs) → Among x xs × (p x ≡ true)
among_filter p x [] h = absurd h
among_filter p x (y ∷ ys) h = elim (among_cond (p y) x y (filter p ys) h) [
  | inl e ↦ (inl e.0, ap p e.0 ∙ e.1)
  | inr i ↦ (let r : Among x ys × (p x ≡ true) = among_filter p x ys i in (inr r.0, r.1))
]

pub among_append : {A : Type 0} (x : A) (xs ys : List A) → Among x (xs ++ ys) → Among x xs ⊎ Among x ys
among_append x [] ys h = inr h
among_append x (y ∷ xs) ys h = elim h [ inl e ↦ inl (inl e) | inr i ↦ elim (among_append x xs ys i) [ inl j ↦ inl (inr j) | inr j ↦ inr j ] ]

pub among_front : {A : Type 0} (x : A) (xs ys : List A) → Among x xs → Among x (xs ++ ys)
among_front x [] ys h = absurd h
among_front x (y ∷ xs) ys h = elim h [ inl e ↦ inl e | inr i ↦ inr (among_front x xs ys i) ]

pub append_nil : {A : Type 0} (xs : List A) → xs ++ [] ≡ xs
append_nil [] = refl
append_nil (x ∷ xs) = ap (λ ys. x ∷ ys) (append_nil xs)

pub append_assoc : {A : Type 0} (xs ys zs : List A) → (xs ++ ys) ++ zs ≡ xs ++ (ys ++ zs)
append_assoc [] ys zs = refl
append_assoc (x ∷ xs) ys zs = ap (λ us. x ∷ us) (append_assoc xs ys zs)

pub in_order_last : {A : Type 0} (xss : List (List A)) (xs : List A) → in_order (xss ++ xs ∷ []) ≡ in_order xss ++ xs
in_order_last [] xs = append_nil xs
in_order_last (ys ∷ xss) xs = ap (λ zs. ys ++ zs) (in_order_last xss xs) ∙ sym (append_assoc ys (in_order xss) xs)

-- times
from_cond : {Op Out : Type 0} (b : Bool) (n : ℕ) (e : Entry Op Out) (es : List (Entry Op Out)) → n ≤ e.time → AreFrom n es → AreFrom n (cond b (e ∷ es) es)
from_cond true n e es h i = (h, i)
from_cond false n e es h i = i

from_filter : {Op Out : Type 0} (p : Entry Op Out → Bool) (n : ℕ) (es : List (Entry Op Out)) → AreFrom n es → AreFrom n (filter p es)
from_filter p n [] h = tt
from_filter p n (e ∷ es) h = from_cond (p e) n e (filter p es) h.0 (from_filter p n es h.1)

order_cond : {Op Out : Type 0} (b : Bool) (e : Entry Op Out) (es : List (Entry Op Out)) → AreFrom e.time es → AreInOrder es → AreInOrder (cond b (e ∷ es) es)
order_cond true e es h i = (h, i)
order_cond false e es h i = i

pub order_filter : {Op Out : Type 0} (p : Entry Op Out → Bool) (es : List (Entry Op Out)) → AreInOrder es → AreInOrder (filter p es)
order_filter p [] h = tt
order_filter p (e ∷ es) h = order_cond (p e) e (filter p es) (from_filter p e.time es h.0) (order_filter p es h.1)

below_cond : {Op Out : Type 0} (b : Bool) (n c : ℕ) (e : Entry Op Out) (es : List (Entry Op Out)) → (e.transaction < n) × (e.time < c) → AreBelow n c es → AreBelow n c (cond b (e ∷ es) es)
below_cond true n c e es h i = (h, i)
below_cond false n c e es h i = i

pub below_filter : {Op Out : Type 0} (p : Entry Op Out → Bool) (n c : ℕ) (es : List (Entry Op Out)) → AreBelow n c es → AreBelow n c (filter p es)
below_filter p n c [] h = tt
below_filter p n c (e ∷ es) h = below_cond (p e) n c e (filter p es) h.0 (below_filter p n c es h.1)

pub below_more : {Op Out : Type 0} (n c m d : ℕ) (es : List (Entry Op Out)) → n ≤ m → c ≤ d → AreBelow n c es → AreBelow m d es
below_more n c m d [] i j h = tt
below_more n c m d (e ∷ es) i j h = let p = h.0.0 in let q = h.0.1 in ((omega arith, omega arith), below_more n c m d es i j h.1)

pub below_last : {Op Out : Type 0} (n c : ℕ) (es : List (Entry Op Out)) (e : Entry Op Out) → AreBelow n c es → e.transaction < n → e.time < c → AreBelow n c (es ++ e ∷ [])
below_last n c [] e h i j = ((i, j), tt)
below_last n c (f ∷ es) e h i j = (h.0, below_last n c es e h.1 i j)

from_last : {Op Out : Type 0} (n : ℕ) (es : List (Entry Op Out)) (e : Entry Op Out) → AreFrom n es → n ≤ e.time → AreFrom n (es ++ e ∷ [])
from_last n [] e h i = (i, tt)
from_last n (f ∷ es) e h i = (h.0, from_last n es e h.1 i)

pub order_last : {Op Out : Type 0} (n : ℕ) (es : List (Entry Op Out)) (e : Entry Op Out) → AreInOrder es → AreBelow n e.time es → AreInOrder (es ++ e ∷ [])
order_last n [] e h b = (tt, tt)
order_last n (f ∷ es) e h b = let q = b.0.1 in (from_last f.time es e h.0 (omega arith), order_last n es e h.1 b.1)

pub among_below : {Op Out : Type 0} (n c : ℕ) (es : List (Entry Op Out)) (e : Entry Op Out) → AreBelow n c es → Among e es → e.transaction < n
among_below {Op} {Out} n c [] e h i = absurd i
among_below {Op} {Out} n c (f ∷ es) e h i = elim i [ inl q ↦ subst (λ (g : Entry Op Out). g.transaction < n) (sym q) h.0.0 | inr j ↦ among_below n c es e h.1 j ]

-- what stays behind what is left out is of others
stays : {Op Out : Type 0} (b : Bool) (keep : Entry Op Out → Bool) (e f : Entry Op Out) (es : List (Entry Op Out)) → LeavesOutEnds keep → keep e ≡ false → e.time ≤ f.time → keep f ≡ b → AreOthers e.transaction es → AreOthers e.transaction (cond b (f ∷ es) es)
stays true keep e f es l n h k o = ((λ q. let y : keep e ≡ true = l e f q h k in absurd (cc)), o)
stays false keep e f es l n h k o = o

others_after : {Op Out : Type 0} (keep : Entry Op Out → Bool) (e : Entry Op Out) (es : List (Entry Op Out)) → LeavesOutEnds keep → keep e ≡ false → AreFrom e.time es → AreOthers e.transaction (filter keep es)
others_after keep e [] l n h = tt
others_after keep e (f ∷ es) l n h = stays (keep f) keep e f (filter keep es) l n h.0 refl (others_after keep e es l n h.1)

pub leaves_ends : {Op Out : Type 0} (keep : Entry Op Out → Bool) (es : List (Entry Op Out)) → LeavesOutEnds keep → AreInOrder es → LeavesEnds keep es
leaves_ends keep [] l h = tt
leaves_ends keep (e ∷ es) l h = ((λ n. others_after keep e es l n h.0), leaves_ends keep es l h.1)

-- live transactions

live_cond : (b : Bool) (t u : ℕ) (l : Live) (ls : List Live) → (l.transaction == t) ≡ b → (r : Bool) → is_live ls u ≡ (r && not (u == t)) → is_live (cond (not b) (l ∷ ls) ls) u ≡ (((l.transaction == u) || r) && not (u == t))
live_cond true t u l ls e r h = elim (true_or_false (l.transaction == u)) [
  | inl y ↦ (let p : l.transaction ≡ t = eqb-true l.transaction t e in let q : l.transaction ≡ u = eqb-true l.transaction u y in let z : (u == t) ≡ true = eq-eqb u t (sym q ∙ p) in
      h ∙ (ap (λ b. r && not b) z ∙ (out r ∙ sym (ap (λ b. ((l.transaction == u) || r) && not b) z ∙ out ((l.transaction == u) || r)))))
  | inr n ↦ h ∙ sym (ap (λ b. (b || r) && not (u == t)) n)
]
  where
    out : (r : Bool) → (r && false) ≡ false
    out true = refl
    out false = refl
live_cond false t u l ls e r h = elim (true_or_false (l.transaction == u)) [
  | inl y ↦ (let q : l.transaction ≡ u = eqb-true l.transaction u y in let z : (u == t) ≡ false = ap (λ k. k == t) (sym q) ∙ e in
      ap (λ b. b || is_live ls u) y ∙ sym (ap (λ b. (b || r) && not (u == t)) y ∙ ap not z))
  | inr n ↦ ap (λ b. b || is_live ls u) n ∙ (h ∙ sym (ap (λ b. (b || r) && not (u == t)) n))
]

pub live-without : (t : ℕ) (ls : List Live) (u : ℕ) → is_live (without t ls) u ≡ (is_live ls u && not (u == t))
live-without t [] u = refl
live-without t (l ∷ ls) u = live_cond (l.transaction == t) t u l (without t ls) refl (is_live ls u) (live-without t ls u)

pub or_assoc : (a b c : Bool) → (a || (b || c)) ≡ ((a || b) || c)
or_assoc true b c = refl
or_assoc false b c = refl

pub live-append : (ls ms : List Live) (u : ℕ) → is_live (ls ++ ms) u ≡ (is_live ls u || is_live ms u)
live-append [] ms u = refl
live-append (l ∷ ls) ms u = ap (λ b. (l.transaction == u) || b) (live-append ls ms u) ∙ or_assoc (l.transaction == u) (is_live ls u) (is_live ms u)

above_cond : (b : Bool) (n : ℕ) (l : Live) (ls : List Live) → n < l.transaction → AreAbove n ls → AreAbove n (cond b (l ∷ ls) ls)
above_cond true n l ls h i = (h, i)
above_cond false n l ls h i = i

above_filter : (p : Live → Bool) (n : ℕ) (ls : List Live) → AreAbove n ls → AreAbove n (filter p ls)
above_filter p n [] h = tt
above_filter p n (l ∷ ls) h = above_cond (p l) n l (filter p ls) h.0 (above_filter p n ls h.1)

rising_cond : (b : Bool) (l : Live) (ls : List Live) → AreAbove l.transaction ls → AreRising ls → AreRising (cond b (l ∷ ls) ls)
rising_cond true l ls h i = (h, i)
rising_cond false l ls h i = i

pub rising_filter : (p : Live → Bool) (ls : List Live) → AreRising ls → AreRising (filter p ls)
rising_filter p [] h = tt
rising_filter p (l ∷ ls) h = rising_cond (p l) l (filter p ls) (above_filter p l.transaction ls h.0) (rising_filter p ls h.1)

above_last : (n : ℕ) (ls : List Live) (l : Live) → AreAbove n ls → n < l.transaction → AreAbove n (ls ++ l ∷ [])
above_last n [] l h i = (i, tt)
above_last n (m ∷ ls) l h i = (h.0, above_last n ls l h.1 i)

pub rising_last : (ls : List Live) (l : Live) → AreRising ls → ((u : ℕ) → is_live ls u ≡ true → u < l.transaction) → AreRising (ls ++ l ∷ [])
rising_last [] l h below = (tt, tt)
rising_last (m ∷ ls) l h below = (above_last m.transaction ls l h.0 (below m.transaction (first (m.transaction == m.transaction) (is_live ls m.transaction) (eq-eqb m.transaction m.transaction refl))), rising_last ls l h.1 (λ u y. below u (second (m.transaction == u) (is_live ls u) y)))
  where
    first : (a b : Bool) → a ≡ true → (a || b) ≡ true
    first true b e = refl
    first false b e = absurd (cc)

    second : (a b : Bool) → b ≡ true → (a || b) ≡ true
    second true b e = refl
    second false b e = e
