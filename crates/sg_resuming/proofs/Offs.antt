-- The steps of a take-off, as those of an opening.
use Rattle.std.proofs.Common.{◌≡◌, ◌⊎◌, ℕ, List, [], ◌∷◌, ◌++◌, Bool, true, false, cond, Option, Some, None, inl, inr, sym, ap, subst, ◌∙◌}
use Rattle.sg_ops.specs.Table.{Table}
use Rattle.sg_action.specs.States.{State}
use Rattle.sg_record.specs.Changes.{Change as Changing}
use Rattle.sg_recovery.specs.Log.{Open, tally, open_not_of, open_up_to}
use Rattle.sg_recovery.specs.Opens.{Opens, AreOpening}
use Rattle.sg_recovery.specs.Opens.Opens.{takes_off, voids}
use Rattle.sg_recovery.specs.Setting.{Setting}
use Rattle.sg_recovery.specs.Stands.{made, all_off, settled, and_then}
use Rattle.sg_store.specs.Ground.{setting}
use Rattle.sg_actions.specs.Steps.{Step, Steps}
use Rattle.sg_actions.specs.WentOff.{TakesLast, IsOver, AreOffSteps}
use Rattle.sg_ground.specs.Theorem.{Basis, ground_of}

module _ (b : Basis) (t : Table) (txn : ℕ) (first : State) where
  abbrev s : Setting
  s = setting t (ground_of b)

  one_opens : (log : Steps) (lsn : ℕ) (x : Step) → TakesLast log txn x ⊎ IsOver log txn x → Opens s (tally log) (made s first log) lsn x
  one_opens log lsn x (inl h) = subst (Opens s (tally log) (made s first log) lsn) (sym h.is) (takes_off txn h.previous h.undo_next h.d h.ds h.opened h.left)
  one_opens log lsn x (inr h) = subst (Opens s (tally log) (made s first log) lsn) (sym h.is) (voids txn h.previous h.undo_next h.none)

  pub offs_open : (more log : Steps) → AreOffSteps txn more log → AreOpening s first more log
  offs_open [] log h = tt
  offs_open (r ∷ more) log h = (one_opens (more ++ log) r.lsn r.is h.0, offs_open more log h.1)

  -- what is left to take off of the pages leads to the same
  abbrev LeadsTo : State → Steps → Type 0
  LeadsTo x log = all_off s (tally log).opened (made s first log) ≡ Some x

  -- an inverse that was taken off had to fit
  took : (fit : Bool) (x y : State) (rest : State → Option State) → and_then (cond fit (Some y) None) rest ≡ Some x → rest y ≡ Some x
  took true x y rest e = e
  took false x y rest e = absurd cc

  one_leads : (x : State) (log : Steps) (lsn : ℕ) (k : Step) → TakesLast log txn k ⊎ IsOver log txn k → LeadsTo x log → LeadsTo x (record { lsn = lsn; is = k } ∷ log)
  one_leads x log lsn k (inl h) e =
      let y = made s first log in
      let was : all_off s (h.d ∷ h.ds) y ≡ Some x = subst (λ (ds : List (Open Changing)). all_off s ds y ≡ Some x) h.opened e in
      let now : all_off s h.ds (s.apply y (s.inverse h.d.change)) ≡ Some x = took (s.fits y (s.inverse h.d.change)) x (s.apply y (s.inverse h.d.change)) (all_off s h.ds) was in
      subst (λ (q : Step). LeadsTo x (record { lsn = lsn; is = q } ∷ log)) (sym h.is)
      (subst (λ (ds : List (Open Changing)). all_off s ds (s.apply y (s.inverse h.d.change)) ≡ Some x) (sym (ap (open_up_to txn h.undo_next) h.opened ∙ h.left)) now)
  one_leads x log lsn k (inr h) e =
      let y = made s first log in
      let was : all_off s [] y ≡ Some x = subst (λ (ds : List (Open Changing)). all_off s ds y ≡ Some x) h.none e in
      subst (λ (q : Step). LeadsTo x (record { lsn = lsn; is = q } ∷ log)) (sym h.is)
      (subst (λ (ds : List (Open Changing)). all_off s ds y ≡ Some x) (sym (ap (open_not_of txn) h.none)) was)

  leads : (x : State) (more log : Steps) → AreOffSteps txn more log → LeadsTo x log → LeadsTo x (more ++ log)
  leads x [] log h e = e
  leads x (r ∷ more) log h e = one_leads x (more ++ log) r.lsn r.is h.0 (leads x more log h.1 e)

  some_is : (a c : State) → ◌≡◌ {A = Option State} (Some a) (Some c) → a ≡ c
  some_is a c e = cc

  pub offs_lead : (x : State) (more log : Steps) → AreOffSteps txn more log → LeadsTo x log → (tally (more ++ log)).opened ≡ [] → (made s first (more ++ log) ≡ x) × (settled s (tally log).opened (made s first log) ≡ s.reading x)
  offs_lead x more log h e none =
      let end : all_off s [] (made s first (more ++ log)) ≡ Some x = subst (λ (ds : List (Open Changing)). all_off s ds (made s first (more ++ log)) ≡ Some x) none (leads x more log h e) in
      (some_is (made s first (more ++ log)) x end, ap (λ (y : Option State). and_then y s.reading) e)
