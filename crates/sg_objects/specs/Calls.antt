-- What the calls on objects answer.
use Rattle.std.specs.Prelude.{◌≡◌, ℕ, ◌≤◌, List, Result, Ok, Err, IfErr}
use Rattle.sg_base.specs.Ends.{HasRisen}
use Rattle.sg_model.specs.declared.op.Reply as code_reply
use Rattle.sg_model.specs.declared.reason.Reason.{Reason}
use Rattle.sg_model.specs.SaidReplies.{said_reply}
use Rattle.sg_model.specs.Verb.{Outcome}
use Rattle.sg_space.specs.View.{View}
use Rattle.sg_space.specs.declared.space.SpaceFault.TheVariants.{Disk, LogEnd}
use Rattle.sg_objects.specs.declared.verb.ObjFault.{ObjFault}
use Rattle.sg_objects.specs.declared.verb.ObjFault.TheVariants.{Model, Space as InSpace}

-- a property of the outcome, where there is one
abbrev pub IfSaid : List ℕ → Result code_reply.Reply ObjFault → (Outcome → Type 0) → Type 0
IfSaid into (Ok r) P = P (Ok (said_reply into r))
IfSaid into (Err (Model reason)) P = P (Err reason)
IfSaid into (Err (InSpace fault)) P = Unit {0}

-- a property of an answer or of the reason of a refusal
abbrev pub IfAnswered : {T : Type 0} → Result T ObjFault → (Result T Reason → Type 0) → Type 0
IfAnswered (Ok x) P = P (Ok x)
IfAnswered (Err (Model reason)) P = P (Err reason)
IfAnswered (Err (InSpace fault)) P = Unit {0}

-- `Counts` of a call on objects
pub record CountsObject {T : Type 0} (old new : View) (result : Result T ObjFault) : Type 0 where
  -- a space that isn't told is never told later
  pub told : new.Told → old.Told
  pub later : old.faults ≤ new.faults
  -- a refusal for a reason of the model is no fault
  pub quiet : IfAnswered result (λ _. new.faults ≡ old.faults)
  pub disk : IfErr result (λ e. e ≡ InSpace Disk → HasRisen old.faults new.faults)
  pub log_end : IfErr result (λ e. e ≡ InSpace LogEnd → new.IsNearEnd)
