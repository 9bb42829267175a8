-- Undoing in place.
use Rattle.std.proofs.Common.{◌≡◌, Bool, true, false, List, refl, sym, ap, ◌∙◌}
use Rattle.std.proofs.Common.{inl, inr}
use Rattle.sg_serial.specs.Machine.{any_touch, IsClearOf, Agree, HasFootprint}
use Rattle.sg_serial.proofs.Commute.{true_or_false, Commute, commute}

module _ {S Op Out Cell Touch : Type 0} (Value : Cell → Type 0) (step : S → Op → Out × S) (cell : S → (c : Cell) → Value c) (touches : S → Op → List Touch) (reads writes : Touch → Cell → Bool) (law : HasFootprint Value step cell touches reads writes) (unstep : S → Out → S) where
  -- an undo takes back what was done to the cells that were written, wherever the cells that were touched are as they were left
  pub record UndoesCells : Type 0 where
    pub written : (s : S) (op : Op) (t : S) → Agree Value step cell touches reads writes (touches s op) t (step s op).1 → (c : Cell) → any_touch writes (touches s op) c ≡ true → cell (unstep t (step s op).0) c ≡ cell s c
    pub others : (s : S) (op : Op) (t : S) → Agree Value step cell touches reads writes (touches s op) t (step s op).1 → (c : Cell) → any_touch writes (touches s op) c ≡ false → cell (unstep t (step s op).0) c ≡ cell t c

  -- then it takes back what was done last
  pub takes_back : UndoesCells → (s : S) (op : Op) → unstep (step s op).1 (step s op).0 ≡ s
  takes_back u s op = law.exact _ _ (λ c. elim (true_or_false (any_touch writes (touches s op) c)) [
    | inl w ↦ u.written s op (step s op).1 (λ d r. refl) c w
    | inr n ↦ u.others s op (step s op).1 (λ d r. refl) c n ∙ law.frame s op c n
  ])

  -- and what takes back what was done last does so behind an operation that touches nothing in conflict
  pub undo_in_place : ((s : S) (op : Op) → unstep (step s op).1 (step s op).0 ≡ s) → (s : S) (a b : Op) → IsClearOf reads writes (touches s a) (touches (step s a).1 b) → IsClearOf reads writes (touches (step s a).1 b) (touches s a)
      → unstep (step (step s a).1 b).1 (step s a).0 ≡ (step s b).1
  undo_in_place back s a b h i =
      let c : Commute Value step cell touches reads writes law s a b = commute Value step cell touches reads writes law s a b h i in
      ap (λ (t : S). unstep t (step s a).0) c.same ∙ (ap (λ (o : Out). unstep (step (step s b).1 a).1 o) (sym c.given_first) ∙ back (step s b).1 a)
