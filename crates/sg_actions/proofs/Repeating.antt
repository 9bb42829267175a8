-- History repeated, and the open action in it.
use Rattle.std.proofs.Common.{◌≡◌, ℕ, [], ◌∷◌, Option, Some, None, IsSome, sym, ap, subst, ◌∙◌, refl, inl, inr}
use Rattle.std.specs.Prelude.{map}
use Rattle.std.proofs.lemmas.Bool.{cases_eq}
use Rattle.sg_base.specs.Sheet.{Sheet}
use Rattle.sg_ops.specs.Table.{Table}
use Rattle.sg_recovery.specs.Log.Record.{Begin, Change, TopEnd, PhysComp, TopVoid, CompEnd, Save, Commit, End}
use Rattle.sg_action.specs.States.{State, Change as Changed, apply, made, or_same, step_leaf}
use Rattle.sg_action.specs.States.Change.{Page, Write, Paint}
use Rattle.sg_action.proofs.Opened.{one_here, one_there}
use Rattle.sg_actions.specs.Changes.{meaning}
use Rattle.sg_actions.specs.Steps.{Step, Steps, redo, repeated, with_change, logged, opened, but_change, ended, begin_of}

-- what the open action made of the pages at its begin
pub made_opened : (t : Table) (x : State) (rs : Steps) → made t (begin_of t x rs) (opened rs) ≡ repeated t x rs
made_opened t x [] = refl
made_opened t x (r ∷ rs) = by r.is (made_opened t x rs)
  where
    by : (s : Step) → made t (begin_of t x rs) (opened rs) ≡ repeated t x rs → made t (repeated t x (but_change s (record { lsn = r.lsn; is = s } ∷ rs) (ended rs))) (map meaning (with_change s (logged rs))) ≡ redo t s (repeated t x rs)
    by (Begin u p) h = refl
    by (Change u p c) h = ap (λ (y : State). apply t y (meaning c)) h
    by (TopEnd u p w n) h = refl
    by (PhysComp u p w c) h = refl
    by (TopVoid u p w) h = refl
    by (CompEnd u p w) h = refl
    by (Save u p m) h = refl
    by (Commit u p) h = refl
    by (End u p) h = refl

still_some : (leaf : Option Sheet) (o : Option Sheet) → IsSome leaf → IsSome (or_same o leaf)
still_some leaf None h = h
still_some leaf (Some y) h = refl

-- a page that says something says something behind each change
pub says_applied : (t : Table) (x : State) (d : Changed) (n : ℕ) → IsSome (x.pages n) → IsSome ((apply t x d).pages n)
says_applied t x (Write b at before after) n h = h
says_applied t x (Paint b at count code position arg before) n h = h
says_applied t x (Page m op back) n h = elim (cases_eq n m) [
  | inl same ↦
      let e : (apply t x (Page m op back)).pages n ≡ or_same (step_leaf t op (x.pages m)) (x.pages m) = ap (λ (k : ℕ). (apply t x (Page m op back)).pages k) same ∙ one_here x.pages m (or_same (step_leaf t op (x.pages m)) (x.pages m)) in
      let g : IsSome (x.pages m) = subst (λ (k : ℕ). IsSome (x.pages k)) same h in
      subst (λ (o : Option Sheet). IsSome o) (sym e) (still_some (x.pages m) (step_leaf t op (x.pages m)) g)
  | inr other ↦ subst (λ (o : Option Sheet). IsSome o) (sym (one_there x.pages m n (or_same (step_leaf t op (x.pages m)) (x.pages m)) other)) h
]

pub says_redone : (t : Table) (x : State) (s : Step) (n : ℕ) → IsSome (x.pages n) → IsSome ((redo t s x).pages n)
says_redone t x (Begin u p) n h = h
says_redone t x (Change u p c) n h = says_applied t x (meaning c) n h
says_redone t x (TopEnd u p w k) n h = h
says_redone t x (PhysComp u p w c) n h = says_applied t x (meaning c) n h
says_redone t x (TopVoid u p w) n h = h
says_redone t x (CompEnd u p w) n h = h
says_redone t x (Save u p m) n h = h
says_redone t x (Commit u p) n h = h
says_redone t x (End u p) n h = h
