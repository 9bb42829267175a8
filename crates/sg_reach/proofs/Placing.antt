-- The page that is said to be broken was reached.
use Rattle.std.proofs.Common.{◌≡◌, ℕ, Bool, true, List, [], ◌∷◌, Some, slice_get, refl, sym, ap, subst, ◌∙◌, inl, inr}
use Rattle.sg_space.specs.Owned.{IsOneOf}
use Rattle.sg_reach.specs.declared.fault.ReachFault.{ReachFault}
use Rattle.sg_reach.specs.declared.fault.ReachFault.TheVariants.{Space as InSpace, Broken}
use Rattle.sg_reach.specs.Fault.{IsAtPage, IsAmongPages, IsReached}
use Rattle.sg_reach.specs.Marks.{AreSet, AreKept}
use Rattle.sg_reach.proofs.Lists.{one_or_not}

-- where pages are set, those that were set before stay so
pub set_kept : {old new : List Bool} {ns : List ℕ} → AreSet old new ns → AreKept old new
set_kept {ns = ns} a n e = elim (one_or_not ns n) [ inl h ↦ a.set n h | inr absent ↦ a.others n absent ∙ e ]

-- one that is set alone is set
pub one_set : {old new : List Bool} {n : ℕ} → AreSet old new (n ∷ []) → slice_get new n ≡ Some true
one_set {n = n} a = a.set n (0, refl)

-- a page that is set, or one of some that are
pub reached_at : {Given : Type 0} (taken : List Bool) (n : ℕ) (e : ReachFault) → (Given → slice_get taken n ≡ Some true) → IsAtPage n e → IsReached Given taken e
reached_at taken n (InSpace fault) h a = tt
reached_at taken n (Broken p) h a = λ given. subst (λ (x : ℕ). slice_get taken x ≡ Some true) (sym a) (h given)

pub reached_among : {Given : Type 0} (taken : List Bool) (ns : Given → List ℕ) (e : ReachFault) → ((given : Given) (n : ℕ) → IsOneOf (ns given) n → slice_get taken n ≡ Some true) → ((given : Given) → IsAmongPages (ns given) e) → IsReached Given taken e
reached_among taken ns (InSpace fault) h a = tt
reached_among taken ns (Broken p) h a = λ given. h given p.0 (a given)

-- a page that was reached from what holds here
pub reached_by : {Given Then : Type 0} (taken : List Bool) (e : ReachFault) → (Given → Then) → IsReached Then taken e → IsReached Given taken e
reached_by taken (InSpace fault) f h = tt
reached_by taken (Broken p) f h = λ given. h (f given)

-- a page that is one of a list is among it
pub among_at : (ns : List ℕ) (j n : ℕ) (e : ReachFault) → slice_get ns j ≡ Some n → IsAtPage n e → IsAmongPages ns e
among_at ns j n (InSpace fault) at a = tt
among_at ns j n (Broken p) at a = (j, at ∙ ap (λ (x : ℕ). Some x) (sym a))
