-- What a crash may leave after a call.
use Rattle.std.proofs.Common.{◌≡◌, inl, inr, ℕ, zero, suc, ◌+◌, ◌-◌, ◌<◌, ◌≤◌, List, [], ◌∷◌, Some, None, length, get_or, refl, sym, ◌∙◌, arith}
use Rattle.std.proofs.lemmas.Bool.Decides.{nat_tests}
use Rattle.sg_disk.specs.Disk.{Bytes, Image, Touches, Part, State, LeavesPart, Leaves, at_area, put, cut, written_part, dropped_part, synced_part, written, dropped, synced}
use Rattle.sg_base.specs.declared.area.Area.{Area}
use Rattle.sg_base.specs.declared.area.Area.TheVariants.{Home, Log0, Log1}

-- a fact of each area, where one was replaced
pub at_area_all : {X : Type 0} (P : Area → X → Type 0) (a : Area) (x : X) (f : Area → X) → P a x → ((b : Area) → P b (f b)) → (b : Area) → P b (at_area a x f b)
at_area_all P Home x f here rest Home = here
at_area_all P Log0 x f here rest Log0 = here
at_area_all P Log1 x f here rest Log1 = here
at_area_all P a x f here rest b = rest b

pub at_area_same : {X : Type 0} (a : Area) (x : X) (f : Area → X) → at_area a x f a ≡ x
at_area_same Home x f = refl
at_area_same Log0 x f = refl
at_area_same Log1 x f = refl

-- the bytes of a write may be spoiled, and those of a drop
pub touched_write : (at n i : ℕ) → at ≤ i → i < at + n → Touches (record { from = at; to = Some (at + n) }) i
unfolding Touches
touched_write at n i low high = (low, high)

pub touched_drop : (at i : ℕ) → at ≤ i → Touches (record { from = at; to = None }) i
unfolding Touches
touched_drop at i low = (low, tt)

pub past_end : (bytes : List ℕ) (k d : ℕ) → length bytes ≤ k → get_or bytes k d ≡ d
past_end [] k d le = refl
past_end (b ∷ bytes) zero d le = absurd (omega arith)
past_end (b ∷ bytes) (suc k) d le = past_end bytes k d (omega arith)

pub put_outside : (at : ℕ) (bytes : List ℕ) (f : Bytes) (i : ℕ) → (at ≤ i → i < at + length bytes → ⊥) → put at bytes f i ≡ f i
put_outside at bytes f i out = let past = past_end bytes (i - at) (f i) in grind (arith, nat_tests)

pub cut_outside : (at : ℕ) (f : Bytes) (i : ℕ) → (at ≤ i → ⊥) → cut at f i ≡ f i
cut_outside at f i out = grind (arith, nat_tests)

pub cut_inside : (at : ℕ) (f : Bytes) (i : ℕ) → at ≤ i → cut at f i ≡ 0
cut_inside at f i low = grind (arith, nat_tests)

-- more is spoiled, and the rest is as before
pub wider_written : (p : Part) (at : ℕ) (bytes : List ℕ) (c : Bytes) → LeavesPart p c → LeavesPart (written_part at bytes p) c
wider_written p at bytes c leaves = record {
  byte = leaves.byte;
  rest = λ i whole. leaves.rest i (λ spoils. whole (inr spoils))
      ∙ sym (put_outside at bytes p.seen i (λ low high. whole (inl (touched_write at (length bytes) i low high))));
}

pub wider_dropped : (p : Part) (at : ℕ) (c : Bytes) → LeavesPart p c → LeavesPart (dropped_part at p) c
wider_dropped p at c leaves = record {
  byte = leaves.byte;
  rest = λ i whole. leaves.rest i (λ spoils. whole (inr spoils))
      ∙ sym (cut_outside at p.seen i (λ low. whole (inl (touched_drop at i low))));
}

-- a write takes no image away
pub write_keeps : (s : State) (a : Area) (at : ℕ) (bytes : List ℕ) (c : Image) → Leaves s c → Leaves (written a at bytes s) c
write_keeps s a at bytes c leaves = at_area_all (λ b p. LeavesPart p (c b)) a (written_part at bytes (s a)) s (wider_written (s a) at bytes (c a) (leaves a)) leaves

pub drop_keeps : (s : State) (a : Area) (at : ℕ) (c : Image) → Leaves s c → Leaves (dropped a at s) c
drop_keeps s a at c leaves = at_area_all (λ b p. LeavesPart p (c b)) a (dropped_part at (s a)) s (wider_dropped (s a) at (c a) (leaves a)) leaves

-- a sync leaves nothing new
pub narrower_synced : (p : Part) (c : Bytes) → LeavesPart (synced_part p) c → LeavesPart p c
narrower_synced p c leaves = record { byte = leaves.byte; rest = λ i whole. leaves.rest i (λ none. absurd none) }

at_area_part : (a : Area) (x : Part) (s : State) (b : Area) (P : Part → Type 0) → P (at_area a x s b) → (P x → P (s a)) → P (s b)
at_area_part Home x s Home P is from = from is
at_area_part Log0 x s Log0 P is from = from is
at_area_part Log1 x s Log1 P is from = from is
at_area_part Home x s Log0 P is from = is
at_area_part Home x s Log1 P is from = is
at_area_part Log0 x s Home P is from = is
at_area_part Log0 x s Log1 P is from = is
at_area_part Log1 x s Home P is from = is
at_area_part Log1 x s Log0 P is from = is

pub sync_keeps : (s : State) (a : Area) (c : Image) → Leaves (synced a s) c → Leaves s c
sync_keeps s a c leaves b = at_area_part a (synced_part (s a)) s b (λ p. LeavesPart p (c b)) (leaves b) (narrower_synced (s a) (c b))
