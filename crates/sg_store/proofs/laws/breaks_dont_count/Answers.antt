use Rattle.std.proofs.Common.{◌≡◌, ◌⊎◌, ℕ, Bool, true, false, inl, inr}
use Rattle.sg_base.specs.Ends.{HasRisen}
use Rattle.sg_store.proofs.laws.breaks_dont_count.Goals as goal

tells : (told : Bool) → told ≡ true → told ≡ false → ⊥
tells told e f = cc

its_own : (told : Bool) (before now : ℕ) (P : Type 0) → told ≡ true → (P → ⊥) → HasRisen before now ⊎ ((told ≡ false) ⊎ P) → HasRisen before now
its_own told before now P e never (inl risen) = risen
its_own told before now P e never (inr (inl f)) = absurd (tells told e f)
its_own told before now P e never (inr (inr p)) = absurd (never p)

pub returns : goal.returns
returns g c z t told before now image m e stands rose = its_own told before now _ e (λ none. none m stands) rose
