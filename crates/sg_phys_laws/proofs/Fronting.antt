-- A list of records, the oldest first, as steps, the newest first.
use Rattle.std.proofs.Common.{◌≡◌, ℕ, List, [], ◌∷◌, ◌++◌, Option, Some, None, refl, sym, ap, ◌∙◌, subst}
use Rattle.std.proofs.lemmas.List.{append_assoc}
use Rattle.sg_log.specs.Frames.{Numbered}
use Rattle.sg_actions.specs.Steps.{Step, Steps, step_of, stepped, with_step}
use Rattle.sg_actions.specs.Images.{Grows}
use Rattle.sg_phys_laws.specs.States.{steps_on, steps_of}

pub one_more : (rs : Steps) (lsn : ℕ) (x : Option Step) → Grows rs (with_step rs lsn x)
one_more rs lsn None = record { since = []; all = refl }
one_more rs lsn (Some x) = record { since = stepped [] lsn x; all = refl }

grows_on : (a b c : Steps) → Grows a b → Grows b c → Grows a c
grows_on a b c g h = record { since = h.since ++ g.since; all = h.all ∙ (ap (λ (l : Steps). h.since ++ l) g.all ∙ sym (append_assoc h.since g.since a)) }

more_grow : (rs : Steps) (ns : List Numbered) → Grows rs (steps_on rs ns)
more_grow rs [] = record { since = []; all = refl }
more_grow rs (n ∷ ns) = grows_on rs (with_step rs n.lsn (step_of n.is)) (steps_on (with_step rs n.lsn (step_of n.is)) ns) (one_more rs n.lsn (step_of n.is)) (more_grow (with_step rs n.lsn (step_of n.is)) ns)

pub on_both : (rs : Steps) (ms ns : List Numbered) → steps_on rs (ms ++ ns) ≡ steps_on (steps_on rs ms) ns
on_both rs [] ns = refl
on_both rs (m ∷ ms) ns = on_both (with_step rs m.lsn (step_of m.is)) ms ns

-- A FRONT, oldest first, is what a log grew from
pub front_grows : (ms ns : List Numbered) → Grows (steps_of ms) (steps_of (ms ++ ns))
front_grows ms ns = subst (Grows (steps_of ms)) (sym (on_both [] ms ns)) (more_grow (steps_of ms) ns)
