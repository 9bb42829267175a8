-- One verb as any.
use Rattle.std.proofs.Common.{◌≡◌, ℕ, Bool, List, Option, Some, None, Result, Ok, Err, IfOk, refl, ◌∙◌, subst}
use Rattle.std.specs.Prelude.{is_ok}
use Rattle.std.specs.FinMap.{get}
use Rattle.sg_ops.specs.Table.{Table as Operations}
use Rattle.sg_model.specs.Objects.{Object}
use Rattle.sg_model.specs.Step.{on}
use Rattle.sg_model.specs.Verb.{Verb, Outcome}
use Rattle.sg_model.specs.Verb.Verb.{MakeArray, MakeTable, MakeBlob, Discard, Push, Pop, Set, Get, Len, Apply, Put, Del, Find, Keys, Write, Read, Size, Paint}
use Rattle.sg_model.specs.declared.op.Reply as code_reply
use Rattle.sg_model.specs.declared.reason.Reason.{Reason}
use Rattle.sg_model.specs.SaidReplies.{said_outcome}
use Rattle.sg_space.specs.declared.space.SpaceFault.{SpaceFault}
use Rattle.sg_space.specs.View.{View, Space}
use Rattle.sg_reading.specs.Reading.{Thing, Reading, plain, Slot, slot}
use Rattle.sg_reading.specs.Did.{Did as Doing, grown, buried_by}
use Rattle.sg_model.specs.SaidOps.{name_of, verb_of}
use Rattle.sg_model.specs.declared.op.Op.{Op}
use Rattle.sg_contents.specs.Standing.{Contents, HasContents}
use Rattle.sg_contents.specs.Meaning.{reading}
use Rattle.sg_objects.specs.Done.{Did, IsDone, IsLeft, Effect, HasRoomFor, done_by}

-- WHO DOES A VERB that isn't a drop makes no difference
abbrev pub DropsNothing : Verb → Type 0
DropsNothing Discard = ⊥
DropsNothing other = Unit {0}

same_grown : (d e : Doing) (verb : Verb) (done : Bool) (th : Option Thing) (o : Option Object) → d.root ≡ e.root → d.bands ≡ e.bands → grown d verb done th o ≡ grown e verb done th o
same_grown d e verb done th None r b = refl
same_grown d e verb done th (Some o) r b = λ i. grown (record { op = d.op; touches = d.touches; by = d.by; root = r i; bands = b i }) verb done th (Some o)

same_buried : (d e : Doing) (verb : Verb) → DropsNothing verb → (s : Slot) (r : ℕ) → buried_by d verb s r ≡ buried_by e verb s r
same_buried d e (MakeArray size) ok s r = refl
same_buried d e MakeTable ok s r = refl
same_buried d e MakeBlob ok s r = refl
same_buried d e Discard ok s r = absurd ok
same_buried d e (Push value) ok s r = refl
same_buried d e Pop ok s r = refl
same_buried d e (Set index value) ok s r = refl
same_buried d e (Get index) ok s r = refl
same_buried d e Len ok s r = refl
same_buried d e (Apply index code arg) ok s r = refl
same_buried d e (Put key value) ok s r = refl
same_buried d e (Del key) ok s r = refl
same_buried d e (Find key) ok s r = refl
same_buried d e Keys ok s r = refl
same_buried d e (Write at bytes) ok s r = refl
same_buried d e (Read at count) ok s r = refl
same_buried d e (Size n) ok s r = refl
same_buried d e (Paint at count code arg) ok s r = refl

left_by : (t : Operations) (by by' : ℕ) (name : List ℕ) (verb : Verb) (o now : Reading) → DropsNothing verb → IsLeft t by name verb o now → IsLeft t by' name verb o now
left_by t by by' name verb o now ok l = record {
  root = l.root;
  bands = l.bands;
  none = l.none;
  leaves = record {
    thing = (l.leaves).thing ∙ same_grown (done_by o by name verb l.root l.bands) (done_by o by' name verb l.root l.bands) verb (is_ok (on t verb (plain (get o.things name))).0) (get o.things name) (on t verb (plain (get o.things name))).1 refl refl;
    things = (l.leaves).things;
    tomb = λ r. (l.leaves).tomb r ∙ same_buried (done_by o by name verb l.root l.bands) (done_by o by' name verb l.root l.bands) verb ok (slot o name) r;
    tombs = (l.leaves).tombs;
  };
}

effect_by : (t : Operations) (by by' : ℕ) (name : List ℕ) (verb : Verb) (outcome : Outcome) (s s' : Contents) → DropsNothing verb → Effect t by name verb outcome s s' → Effect t by' name verb outcome s s'
effect_by t by by' name verb (Ok reply) s s' ok e = left_by t by by' name verb (reading s) (reading s') ok e
effect_by t by by' name verb (Err reason) s s' ok e = e

pub done_any : {t : Operations} {by : ℕ} {name : List ℕ} {verb : Verb} {outcome : Outcome} {note : List ℕ} {old new : Space} {s s' : Contents} (by' : ℕ) → DropsNothing verb → IsDone t by name verb outcome note old new s s' → IsDone t by' name verb outcome note old new s s'
done_any {t} {by} {name} {verb} {outcome} {note} {old} {new} {s} {s'} by' ok d = record {
  contents = d.contents;
  outcome_is = d.outcome_is;
  effect = effect_by t by by' name verb outcome s s' ok d.effect;
  note_is = d.note_is;
  alone = d.alone;
  counted = d.counted;
  peak = d.peak;
  taken = d.taken;
}

pub did_any : {v w : View} {Can : Contents → Type 0} {t : Operations} {by : ℕ} {name : List ℕ} {verb : Verb} {outcome : Outcome} {note : List ℕ} {old new : Space} (by' : ℕ) → DropsNothing verb → Did v w Can (IsDone t by name verb outcome note old new) → Did v w Can (IsDone t by' name verb outcome note old new)
did_any by' ok d = record { told = d.told; done = λ told s h can. (let one = d.done told s h can in (one.0, done_any by' ok one.1)) }

-- what a verb's own call did, whatever it answered
pub ok_any : (v w : View) (Can : Contents → Type 0) (t : Operations) (by : ℕ) (name : List ℕ) (verb : Verb) (note into : List ℕ) (old new : Space) (r : Result (Result code_reply.Reply Reason) SpaceFault) (by' : ℕ) → DropsNothing verb → IfOk r (λ x. Did v w Can (IsDone t by name verb (said_outcome into x) note old new)) → IfOk r (λ x. Did v w Can (IsDone t by' name verb (said_outcome into x) note old new))
ok_any v w Can t by name verb note into old new (Ok x) by' ok d = did_any by' ok d
ok_any v w Can t by name verb note into old new (Err e) by' ok d = d

-- the same of an operation that is another way to say the verb and its name
pub room_as : {v : View} {t : Operations} {o p : Op} → o ≡ p → HasContents v (HasRoomFor t v (name_of o) (verb_of o)) → HasContents v (HasRoomFor t v (name_of p) (verb_of p))
room_as {v} {t} e h = subst (λ (x : Op). HasContents v (HasRoomFor t v (name_of x) (verb_of x))) e h

pub as_op : (v w : View) (t : Operations) (by : ℕ) (note into : List ℕ) (old new : Space) (r : Result (Result code_reply.Reply Reason) SpaceFault) {o p : Op} → o ≡ p → IfOk r (λ x. Did v w (HasRoomFor t v (name_of o) (verb_of o)) (IsDone t by (name_of o) (verb_of o) (said_outcome into x) note old new)) → IfOk r (λ x. Did v w (HasRoomFor t v (name_of p) (verb_of p)) (IsDone t by (name_of p) (verb_of p) (said_outcome into x) note old new))
as_op v w t by note into old new r e d = subst (λ (x : Op). IfOk r (λ y. Did v w (HasRoomFor t v (name_of x) (verb_of x)) (IsDone t by (name_of x) (verb_of x) (said_outcome into y) note old new))) e d
