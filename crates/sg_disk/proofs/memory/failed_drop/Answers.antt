use Rattle.std.proofs.Common.{◌≡◌, ◌⊎◌, inl, inr, ⊎_elim, Result, Ok, Err, is_ok, if◌then◌else◌}
use Rattle.sg_disk.proofs.memory.failed_drop.Goals as goal

either_way : {T E X : Type 0} (r : Result T E) (new x y : X) → new ≡ (if is_ok r then x else y) → (new ≡ x) ⊎ (new ≡ y)
either_way (Ok u) new x y is = inl is
either_way (Err e) new x y is = inr is

pub returns-clause-recorded : goal.returns-clause-recorded
returns-clause-recorded c =
    ⊎_elim (λ pushed. inl (c.new.result, c.new.ensures.items, pushed)) (λ same. inr same) (either_way c.push_front.result c.push_front.new.self _ _ c.push_front.ensures.items)
