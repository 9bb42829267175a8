-- What verbs write of the log, and in bands.
use Rattle.std.proofs.Common.{◌≡◌, ◌⊎◌, inl, inr, ℕ, List, None, true, false, Result, Ok, Err, IfOk, subst, sym, ap, ◌∙◌}
use Rattle.sg_blob.specs.Blob.{Blob, OwnsBand}
use Rattle.sg_blob.specs.Calls.{Turns}
use Rattle.sg_model.specs.Step.{is_changing_verb}
use Rattle.sg_model.specs.Verb.{Verb, Outcome}
use Rattle.sg_model.specs.Verb.Verb.{MakeArray, MakeTable, MakeBlob, Discard, Push, Pop, Set, Get, Len, Apply, Put, Del, Find, Keys, Write, Read, Size, Paint}
use Rattle.sg_model.specs.declared.op.Op.{Op}
use Rattle.sg_model.specs.declared.op.Reply as code_reply
use Rattle.sg_model.specs.declared.reason.Reason.{Reason}
use Rattle.sg_model.specs.SaidOps.{name_of, verb_of}
use Rattle.sg_model.specs.SaidReplies.{said_outcome}
use Rattle.sg_ops.specs.Table.{Table as Operations}
use Rattle.sg_space.specs.declared.space.SpaceFault.{SpaceFault}
use Rattle.sg_space.specs.View.{Space, View, OnlyReads, WritesIn}
use Rattle.sg_contents.specs.Standing.{Body, Contents}
use Rattle.sg_contents.specs.Standing as standing
use Rattle.sg_objects.specs.Blobs.{IsBlobAt}
use Rattle.sg_objects.specs.Done.{HasRoomFor}
use Rattle.sg_objects.specs.Quiet.{WroteBody, WritesBody, WritesBands, Wrote}
use Rattle.sg_objects.specs.declared.blob.BlobAt.{BlobAt}
use Rattle.sg_objects.proofs.Shaping.{same_root}

first_by : {A B C : Type 0} → (A → C) → A ⊎ B → C ⊎ B
first_by f (inl a) = inl (f a)
first_by f (inr b) = inr b

-- the calls before it only read
from_before : {v m w : View} {own : ℕ → Type 0} → OnlyReads v m → WritesIn own m w → WritesIn own v w
from_before k x = record { wrote = λ b h. first_by (k.wrote b) (x.wrote b h) }

-- what was free before the call was free before those that only read
taken_before : (x y : Space) {P : Type 0} (n : ℕ) → y ≡ x → P ⊎ (y.bands.at n ≡ None) → P ⊎ (x.bands.at n ≡ None)
taken_before x y n same (inl p) = inl p
taken_before x y n same (inr free) = inr (ap (λ (z : Space). z.bands.at n) (sym same) ∙ free)

-- A BLOB'S BYTES were written on its own bands, and those that it took were free
pub wrote_body : {v m w : View} {s : Contents} {name : List ℕ} {x : BlobAt} (b : Blob) → OnlyReads v m → v.Shows → (f : IsBlobAt name s x)
    → Turns m.space w.space x.root.0 f.blob b → WritesIn (OwnsBand b.bands) m w → WritesBody name s v w
wrote_body {v} {m} {w} {s} {name} {x} b k shows f turns wrote other is =
    subst (λ (n : ℕ). WroteBody n s v w) (same_root f.at is) (record {
      blob = b;
      stands = turns.blob;
      writes = from_before k wrote;
      taken = λ n o.
          let here = subst (λ (y : Body). standing.OwnsBand y n ⊎ (m.space.bands.at n ≡ None)) (sym f.body_is) (turns.bands.taken n o) in
          taken_before v.space m.space n (k.same shows) here;
    })

-- A VERB THAT IS ON NO BLOB'S BYTES
abbrev pub IsOnNoBytes : Verb → Type 0
IsOnNoBytes (Write at bytes) = ⊥
IsOnNoBytes (Size n) = ⊥
IsOnNoBytes (Paint at count code arg) = ⊥
IsOnNoBytes other = Unit {0}

unwritten : (verb : Verb) → IsOnNoBytes verb → (o : Outcome) (name : List ℕ) (s : Contents) (v w : View) → WritesBands verb o name s v w
unwritten (Put key value) n o name s v w = tt
unwritten (Del key) n o name s v w = tt
unwritten (MakeArray size) n o name s v w = tt
unwritten MakeTable n o name s v w = tt
unwritten MakeBlob n o name s v w = tt
unwritten Discard n o name s v w = tt
unwritten (Push value) n o name s v w = tt
unwritten Pop n o name s v w = tt
unwritten (Set index value) n o name s v w = tt
unwritten (Get index) n o name s v w = tt
unwritten Len n o name s v w = tt
unwritten (Apply index code arg) n o name s v w = tt
unwritten (Find key) n o name s v w = tt
unwritten Keys n o name s v w = tt
unwritten (Write at bytes) n o name s v w = absurd n
unwritten (Read at count) n o name s v w = tt
unwritten (Size m) n o name s v w = absurd n
unwritten (Paint at count code arg) n o name s v w = absurd n

pub on_no_bytes : (v w : View) (Can : Contents → Type 0) (name : List ℕ) (verb : Verb) (into : List ℕ) (r : Result (Result code_reply.Reply Reason) SpaceFault) → IsOnNoBytes verb → IfOk r (λ x. Wrote v w Can name verb (said_outcome into x))
on_no_bytes v w Can name verb into (Ok x) n = record { bands = λ told s h can. unwritten verb n (said_outcome into x) name s v w }
on_no_bytes v w Can name verb into (Err e) n = tt

-- the same of an operation that is another way to say the verb and its name
pub wrote_as : (v w : View) (t : Operations) (into : List ℕ) (r : Result (Result code_reply.Reply Reason) SpaceFault) {o p : Op} → o ≡ p → IfOk r (λ x. Wrote v w (HasRoomFor t v (name_of o) (verb_of o)) (name_of o) (verb_of o) (said_outcome into x)) → IfOk r (λ x. Wrote v w (HasRoomFor t v (name_of p) (verb_of p)) (name_of p) (verb_of p) (said_outcome into x))
wrote_as v w t into r e d = subst (λ (x : Op). IfOk r (λ y. Wrote v w (HasRoomFor t v (name_of x) (verb_of x)) (name_of x) (verb_of x) (said_outcome into y))) e d

-- an operation that changes objects isn't one that only looks
pub not_looking : {A : Type 0} (o p : Op) → o ≡ p → is_changing_verb (verb_of p) ≡ true → is_changing_verb (verb_of o) ≡ false → A
not_looking o p e changes looks = let same = ap (λ (x : Op). is_changing_verb (verb_of x)) e in cc
