-- What is noted of an operation.
use Rattle.std.proofs.Common.{◌≡◌, ℕ, Bool, true, false, cond, List, Option, Err, refl, ap, ◌∙◌}
use Rattle.std.specs.Str.{bytes_eq}
use Rattle.std.specs.FinMap.{get}
use Rattle.sg_ops.specs.Table.{Table as Operations}
use Rattle.sg_model.specs.declared.reason.Reason.{Reason}
use Rattle.sg_model.specs.Objects.{Object, Objects}
use Rattle.sg_model.specs.Verb.{Op, Outcome}
use Rattle.sg_model.specs.Verb.Op.{On, Names}
use Rattle.sg_model.specs.Step.{step}
use Rattle.sg_model.specs.Undo.{note_object, if_replied, note_of_op, undo_on}

pub either : (b : Bool) (object : Option Object) → cond b object object ≡ object
either true object = refl
either false object = refl

-- an operation that is refused has nothing to be taken back
pub refused_notes : (t : Operations) (s : Objects) (op : Op) (reason : Reason) → (step t s op).0 ≡ Err reason → (name : List ℕ) (object : Option Object) → undo_on name (note_of_op t s op) object ≡ object
unfolding step
refused_notes t s (On n verb) reason h name object =
    ap (λ (o : Outcome). undo_on name (n, if_replied o (note_object verb (get s n))) object) h ∙ either (bytes_eq name n) object
refused_notes t s Names reason h name object = absurd (cc)
