-- The lines that are drawn, one at a time.
use Rattle.std.proofs.Common.{◌≡◌, ℕ, zero, suc, ◌-◌, ◌<◌, Bool, List, ◌∷◌, subst, refl, arith}
use Rattle.rand_pcg.specs.Lcg.{Lcg}
use Rattle.sg_workload.specs.declared.drawn.Verb.{Verb}
use Rattle.sg_workload.specs.Draws.{draw, is_live, live_after}
use Rattle.sg_workload.specs.Texts.{text_of}
use Rattle.sg_workload.specs.Lines.{next_verb, drawn_lines}

-- the first of the lines that are drawn, where a transaction and its verb were drawn so
pub drawn_lines-one : (left : ℕ) (live : List Bool) (random of behind : Lcg) (w : ℕ) (verb : Verb) → 0 < left
    → (w, of) ≡ draw 3 random → (verb, behind) ≡ next_verb (is_live live w) of
    → drawn_lines left live random ≡ text_of w verb ∷ drawn_lines (left - 1) (live_after verb w live) behind
unfolding drawn_lines
drawn_lines-one zero live random of behind w verb some _ _ = absurd (omega arith)
drawn_lines-one (suc n) live random of behind w verb some first second =
    let e : suc n - 1 ≡ n = omega arith in
    let rest : Verb × Lcg → List (List ℕ) = λ v. text_of w v.0 ∷ drawn_lines n (live_after v.0 w live) v.1 in
    let whole : ℕ × Lcg → List (List ℕ) =
    λ p. let v = next_verb (is_live live p.0) p.1 in text_of p.0 v.0 ∷ drawn_lines n (live_after v.0 p.0 live) v.1 in
    rw e (subst (λ (p : ℕ × Lcg). whole p ≡ rest (verb, behind)) first (subst (λ (v : Verb × Lcg). rest v ≡ rest (verb, behind)) second refl))
