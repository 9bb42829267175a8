-- Fronts of an engine's records that are formed logs.
use Rattle.std.proofs.Common.{◌≡◌, ⊎_elim, ℕ, List, [], ◌∷◌, ◌++◌, sym, ap, ◌∙◌, subst}
use Rattle.std.proofs.lemmas.List.{append_assoc, append_cancel_left}
use Rattle.sg_log.specs.Frames.{Numbered}
use Rattle.sg_recovery.specs.Formed.{IsLog}
use Rattle.sg_actions.specs.Steps.{Steps, step_of, with_step}
use Rattle.sg_phys_laws.specs.Formed.{AreFormed}
use Rattle.sg_phys_laws.specs.States.{steps_of}
use Rattle.sg_phys_laws.proofs.Agreeing.{nothing, front_or}
use Rattle.sg_phys_laws.proofs.Stepping.{steps_more}
use Rattle.sg_phys_laws.proofs.Wrapped.{append_none}

-- where all are durable there is one such front
pub formed_none : (base : ℕ) (ds : List Numbered) → ∥ IsLog base (steps_of ds) ∥₁ → AreFormed base ds ds
formed_none base ds log front more e =
    let none : front ≡ [] = nothing front more (append_cancel_left ds (front ++ more) [] (sym (append_assoc ds front more) ∙ (e ∙ sym (append_none ds)))) in
    subst (λ (l : List Numbered). ∥ IsLog base (steps_of l) ∥₁) (sym (ap (λ (l : List Numbered). ds ++ l) none ∙ append_none ds)) log

-- all of them are one
pub formed_all : (base : ℕ) (ds rest : List Numbered) → AreFormed base ds (ds ++ rest) → ∥ IsLog base (steps_of (ds ++ rest)) ∥₁
formed_all base ds rest formed = formed rest [] (append_none (ds ++ rest))

-- with one record more there is one front more
pub formed_more : (base : ℕ) (ds ns : List Numbered) (x : Numbered) → AreFormed base ds ns → ∥ IsLog base (with_step (steps_of ns) x.lsn (step_of x.is)) ∥₁ → AreFormed base ds (ns ++ x ∷ [])
formed_more base ds ns x formed log front more e = ⊎_elim
    (λ is_all. subst (λ (l : List Numbered). ∥ IsLog base (steps_of l) ∥₁) (sym is_all) (subst (λ (rs : Steps). ∥ IsLog base rs ∥₁) (sym (steps_more ns x)) log))
    (λ less. formed front less.0 less.1)
    (front_or (ds ++ front) more ns x e)

-- with more that is durable there are fewer
pub formed_durable : (base : ℕ) (ds since all : List Numbered) → AreFormed base ds all → AreFormed base (ds ++ since) all
formed_durable base ds since all formed front more e =
    subst (λ (l : List Numbered). ∥ IsLog base (steps_of l) ∥₁) (sym (append_assoc ds since front))
    (formed (since ++ front) more (ap (λ (l : List Numbered). l ++ more) (sym (append_assoc ds since front)) ∙ e))
