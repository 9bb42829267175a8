-- What a client knows of an area after its calls.
use Rattle.std.proofs.Common.{◌≡◌, ◌⊎◌, inl, inr, ⊎_elim, ℕ, zero, suc, ◌+◌, ◌-◌, ◌<◌, ◌≤◌, List, [], ◌∷◌, Some, length, get_or, refl, sym, ◌∙◌, ap, subst, arith, add-zero}
use Rattle.std.proofs.lemmas.Bool.Decides.{nat_tests}
use Rattle.sg_disk.specs.Disk.{Bytes, Image, Range, Touches, Spoils, Part, State, LeavesPart, Leaves, at_area, put, window, written_part, synced_part, written, synced}
use Rattle.sg_base.specs.declared.area.Area.{Area}
use Rattle.sg_base.specs.declared.area.Area.TheVariants.{Home, Log0, Log1}
use Rattle.sg_disk.proofs.Images.{at_area_same, put_outside}

-- a byte before or behind a write is not touched
pub untouched : (at n i : ℕ) → (i < at) ⊎ (at + n ≤ i) → Touches (record { from = at; to = Some (at + n) }) i → ⊥
unfolding Touches
untouched at n i (inl before) touches = absurd (omega arith)
untouched at n i (inr behind) touches = absurd (omega arith)

pub part_written : {t : State} (s : State) (a : Area) (at : ℕ) (bytes : List ℕ) → t ≡ written a at bytes s → t a ≡ written_part at bytes (s a)
part_written s a at bytes is = ap (λ (u : State). u a) is ∙ at_area_same a (written_part at bytes (s a)) s

pub part_synced : {t : State} (s : State) (a : Area) → t ≡ synced a s → t a ≡ synced_part (s a)
part_synced s a is = ap (λ (u : State). u a) is ∙ at_area_same a (synced_part (s a)) s

pub leaves_written : (s : State) (a : Area) (at : ℕ) (bytes : List ℕ) (c : Image) → Leaves (written a at bytes s) c → LeavesPart (written_part at bytes (s a)) (c a)
leaves_written s a at bytes c leaves = subst (λ (p : Part). LeavesPart p (c a)) (at_area_same a (written_part at bytes (s a)) s) (leaves a)

-- what a crash leaves where nothing is pending
pub settled_byte : (p : Part) (c : Bytes) → p.pending ≡ [] → LeavesPart p c → (i : ℕ) → c i ≡ p.seen i
settled_byte p c none leaves i = leaves.rest i (subst (λ (rs : List Range). Spoils rs i → ⊥) (sym none) (λ no. no))

-- and where one write is
pub other_byte : (p : Part) (at : ℕ) (bytes : List ℕ) (c : Bytes) → p.pending ≡ [] → LeavesPart (written_part at bytes p) c → (i : ℕ) → (i < at) ⊎ (at + length bytes ≤ i) → c i ≡ p.seen i
other_byte p at bytes c none leaves i out =
    leaves.rest i (⊎_elim (untouched at (length bytes) i out) (subst (λ (rs : List Range). Spoils rs i → ⊥) (sym none) (λ no. no)))
    ∙ put_outside at bytes p.seen i (λ low high. ⊎_elim (λ before. absurd (omega arith)) (λ behind. absurd (omega arith)) out)

any_default : (bytes : List ℕ) (k d e : ℕ) → k < length bytes → get_or bytes k d ≡ get_or bytes k e
any_default [] k d e lt = absurd (omega arith)
any_default (b ∷ bytes) zero d e lt = refl
any_default (b ∷ bytes) (suc k) d e lt = any_default bytes k d e (omega arith)

-- reading what was written
pub put_inside : (at : ℕ) (bytes : List ℕ) (f : Bytes) (k d : ℕ) → k < length bytes → put at bytes f (at + k) ≡ get_or bytes k d
put_inside at bytes f k d lt =
    let place : at + k - at ≡ k = omega arith in
    let there = ap (λ (i : ℕ). get_or bytes i (f (at + k))) place ∙ any_default bytes k (f (at + k)) d lt in
    grind (arith, nat_tests)

pub window_agree : (f g : Bytes) (at n : ℕ) → ((i : ℕ) → at ≤ i → i < at + n → f i ≡ g i) → window f at n ≡ window g at n
window_agree f g at zero same = refl
window_agree f g at (suc n) same = λ i. same at (omega arith) (omega arith) i ∷ window_agree f g (suc at) n (λ k low high. same k (omega arith) (omega arith)) i

moved : (at k : ℕ) → suc at + k ≡ at + suc k
moved at k = omega arith

pub window_is : (f : Bytes) (at : ℕ) (bytes : List ℕ) → ((k : ℕ) → k < length bytes → f (at + k) ≡ get_or bytes k 0) → window f at (length bytes) ≡ bytes
window_is f at [] is = refl
window_is f at (b ∷ bytes) is =
    let head : f at ≡ b = ap f (sym (add-zero at)) ∙ is 0 (omega arith) in
    let tail = window_is f (suc at) bytes (λ k lt. ap f (moved at k) ∙ is (suc k) (omega arith)) in
    λ i. head i ∷ tail i

-- the other areas
pub at_area_other : {X : Type 0} (a b : Area) (x : X) (f : Area → X) → (b ≡ a → ⊥) → at_area a x f b ≡ f b
at_area_other Home Home x f other = absurd (other refl)
at_area_other Log0 Log0 x f other = absurd (other refl)
at_area_other Log1 Log1 x f other = absurd (other refl)
at_area_other Home Log0 x f other = refl
at_area_other Home Log1 x f other = refl
at_area_other Log0 Home x f other = refl
at_area_other Log0 Log1 x f other = refl
at_area_other Log1 Home x f other = refl
at_area_other Log1 Log0 x f other = refl

pub other_written : {t : State} (s : State) (a b : Area) (at : ℕ) (bytes : List ℕ) → (b ≡ a → ⊥) → t ≡ written a at bytes s → t b ≡ s b
other_written s a b at bytes other is = ap (λ (u : State). u b) is ∙ at_area_other a b (written_part at bytes (s a)) s other

pub other_synced : {t : State} (s : State) (a b : Area) → (b ≡ a → ⊥) → t ≡ synced a s → t b ≡ s b
other_synced s a b other is = ap (λ (u : State). u b) is ∙ at_area_other a b (synced_part (s a)) s other

-- what a crash leaves of another area than the one that is written
pub leaves_other : (s : State) (a b : Area) (at : ℕ) (bytes : List ℕ) (c : Image) → (b ≡ a → ⊥) → Leaves (written a at bytes s) c → LeavesPart (s b) (c b)
leaves_other s a b at bytes c other leaves = subst (λ (p : Part). LeavesPart p (c b)) (at_area_other a b (written_part at bytes (s a)) s other) (leaves b)
