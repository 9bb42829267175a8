-- What the verbs on arrays do to all that stands there.
use Rattle.std.proofs.Common.{◌≡◌, ℕ, ◌+◌, max, List, [], ◌∷◌, ◌++◌, length, Option, Some, Ok, Err, IsOk, refl, sym, ap, ◌∙◌, subst, arith, length-append}
use Rattle.std.specs.FinMap.{get}
use Rattle.sg_ops.specs.Table.{Table as Operations}
use Rattle.sg_array.specs.Array.{Array, IsArray, page_count, pages_for}
use Rattle.sg_array.proofs.Bounds.{array_exact, pushed_pages}
use Rattle.sg_catalog.specs.declared.row.ObjectKind.TheVariants as kinds
use Rattle.sg_array.specs.Calls as array
use Rattle.sg_model.specs.declared.reason.Reason.{Reason}
use Rattle.sg_model.specs.Objects.{Row as Items, Object}
use Rattle.sg_model.specs.Objects.Object.{Array as AsArray}
use Rattle.sg_model.specs.Step.{on}
use Rattle.sg_model.specs.Verb.{Verb, Outcome, Reply}
use Rattle.sg_model.specs.Verb.Verb.{Push}
use Rattle.sg_model.specs.Verb.Reply.{Number}
use Rattle.sg_space.specs.View.{View, Space, OnlyReads}
use Rattle.sg_space.proofs.Known.{still}
use Rattle.sg_reading.specs.Reading.{Thing, plain, slot}
use Rattle.sg_reading.specs.Did.{slot_after}
use Rattle.sg_reading.specs.Noted.{noted}
use Rattle.sg_reading.specs.Back.Undoing.{WasPush}
use Rattle.sg_contents.specs.Standing.{Body, Contents, IsContents}
use Rattle.sg_contents.specs.Standing.Body.{AnArray}
use Rattle.sg_contents.specs.Changes.{with_body, BodyTurns}
use Rattle.sg_contents.specs.Meaning.{reading, thing_of}
use Rattle.sg_objects.specs.Done.{Did, IsDone, IsFresh, HasRoomFor, done_by}
use Rattle.sg_objects.specs.Found.{IsArrayAt, CanPushTo}
use Rattle.sg_objects.specs.Notes.{note_bytes}
use Rattle.sg_objects.specs.declared.find.ArrayAt.{ArrayAt}
use Rattle.sg_objects.specs.Needs.{needed, pages_alone, IsFree, HasTaken}
use Rattle.sg_objects.proofs.Fresh.{fresh_roomy}
use Rattle.sg_objects.proofs.Bodies.{body_done, noted_some, pages_taken}
use Rattle.sg_objects.proofs.Located.{array_at, array_turns, array_under}
use Rattle.sg_objects.proofs.Refused.{refused}
use Rattle.sg_objects.proofs.Pushing.{items_of, push_on, array_left}

-- a verb that was refused
pub refused_did : {v w : View} {Can : Contents → Type 0} (t : Operations) (by : ℕ) (name : List ℕ) (verb : Verb) (reason : Reason) (note : List ℕ) → (v.Told → v.Shows) → OnlyReads v w → note ≡ [] → (v.Shows → (s : Contents) → IsContents v.space s → (t : Operations) → (on t verb (plain (get (reading s).things name))).0 ≡ Err reason) → Did v w Can (IsDone t by name verb (Err reason) note v.space w.space)
refused_did t by name verb reason note shown k none is = record {
  told = λ told. k.keeps.told told;
  done = λ told s h can. (s, refused t by name verb reason note k (shown told) h (is (shown told) s h t) none);
}

-- what a verb on an array came to, where it got a reply
pub array_done : {old new : Space} {s : Contents} {x : ArrayAt} {a' : Array} (t : Operations) (by : ℕ) (name : List ℕ) (verb : Verb) (reply : Reply) (row : Items) (note : List ℕ) → IsContents old s → (f : IsArrayAt name s x) → array.Turns old new x.root.0 f.array a' → on t verb (Some (AsArray (items_of f.array))) ≡ (Ok reply, Some (AsArray row)) → a'.size ≡ row.size → a'.items ≡ row.items → a'.peak ≡ max (f.array).peak (length row.items) → ((r : ℕ) → (slot_after t (done_by (reading s) by name verb 0 []) verb (slot (reading s) name)).buried r ≡ get (reading s).tombs (r ∷ name)) → HasTaken (needed verb (Some (thing_of x.root.0 (AnArray f.array)))) old new → note ≡ note_bytes name (noted verb (Some (thing_of x.root.0 (AnArray f.array)))) → (note ≡ [] → ⊥) → IsDone t by name verb (Ok reply) note old new s (with_body x.root.0 (AnArray a') s)
array_done {old} {new} {s} {x} {a'} t by name verb reply row note h f turns is size items peak buried taken noted_is some =
    let under = array_under f in
    body_done t by name verb reply (AnArray a') [] note h f.at
    (subst (λ (b : Body). BodyTurns old new kinds.Array x.root.0 b (AnArray a')) (sym f.body_is) (array_turns turns))
    (ap (λ (th : Option Thing). (on t verb (plain th)).0) under ∙ ap (λ (c : Outcome × Option Object). c.0) is)
    (λ z. refl)
    (array_left t (done_by (reading s) by name verb 0 []) name verb x.root.0 (reading s) f.array a' reply row refl under is size items peak)
    buried
    (subst (λ (th : Option Thing). HasTaken (needed verb th) old new) (sym under) taken)
    (noted_is ∙ ap (λ (th : Option Thing). note_bytes name (noted verb th)) (sym under))
    some

-- where the pages are the same, none was taken
pub same_taken : {old new : Space} {root : ℕ} {a a' : Array} → array.Turns old new root a a' → array.SamePages a a' → HasTaken (pages_alone 0) old new
same_taken {a = a} {a' = a'} turns same =
    let index = ap (λ (xs : List ℕ). length xs) same.index in
    let leaves = ap (λ (xs : List ℕ). length xs) same.leaves in
    pages_taken (pages_alone 0) (page_count a) (page_count a') (turns.pages).exactly turns.bands (omega arith)

-- one item more wants at most two pages more
pub pushed_taken : {old new : Space} {w : View} {root : ℕ} {value : List ℕ} {a a' : Array} → IsArray old.pages.at root a → array.Turns old new root a a' → array.IsPushed w root value a a' → HasTaken (pages_alone 2) old new
pushed_taken {a = a} {a' = a'} arr turns p =
    let had = array_exact a arr in
    let has : page_count a' ≡ pages_for a.size (max a.peak (length a.items + 1)) = array_exact a' turns.array ∙ (λ i. pages_for (p.size i) (p.peak i)) in
    let more = pushed_pages a.size (length a.items) a.peak ((arr.built).limits).small ((arr.built).limits).below_peak in
    pages_taken (pages_alone 2) (page_count a) (page_count a') (turns.pages).exactly turns.bands (omega arith)

-- PUSH
pub ok_is : (o : Outcome) (r : Reply) → o ≡ Ok r → IsOk o
ok_is o r e = subst IsOk (sym e) refl

pub push_accepted : {s : Contents} {name : List ℕ} {x : ArrayAt} (t : Operations) (value : List ℕ) (f : CanPushTo name (length value) s x) → (on t (Push value) (plain (get (reading s).things name))).0 ≡ Ok (Number (length (f.at.array).items))
push_accepted t value f =
    ap (λ (th : Option Thing). (on t (Push value) (plain th)).0) (array_under f.at)
    ∙ ap (λ (c : Outcome × Option Object). c.0) (push_on t value f.at.array (f.fits ∙ f.at.size_is) (let e = f.at.len_is in let few = f.few in omega arith))

pub can_push : {v : View} {s : Contents} {name : List ℕ} {x : ArrayAt} (t : Operations) (value : List ℕ) → IsContents v.space s → (f : CanPushTo name (length value) s x) → IsFresh v → HasRoomFor t v name (Push value) s → array.CanPush v x.root.0 (length value) f.at.array
can_push t value h f fresh room =
    let free = (room.room (ok_is _ _ (push_accepted t value f))).pages in
    record {
      fits = f.fits ∙ f.at.size_is;
      few = (let e = f.at.len_is in let few = f.few in omega arith);
      roomy = fresh_roomy fresh h f.at.at f.at.body_is (array_at h f.at);
      free = λ full. free;
      may_take = λ full. fresh.may_take;
    }

pub push_done : {old new : Space} {w : View} {s : Contents} {name : List ℕ} {x : ArrayAt} {a' : Array} (t : Operations) (by : ℕ) (value note : List ℕ) (n : ℕ) → IsContents old s → (f : CanPushTo name (length value) s x) → array.Turns old new x.root.0 f.at.array a' → array.IsPushed w x.root.0 value f.at.array a' → n ≡ length (f.at.array).items → note ≡ note_bytes name (noted (Push value) (Some (thing_of x.root.0 (AnArray f.at.array)))) → IsDone t by name (Push value) (Ok (Number n)) note old new s (with_body x.root.0 (AnArray a') s)
push_done {old} {new} {w} {s} {name} {x} {a'} t by value note n h f turns p index noted_is =
    let a = f.at.array in
    array_done t by name (Push value) (Number n) (record { size = a.size; items = a.items ++ value ∷ [] }) note h f.at turns
    (push_on t value a (f.fits ∙ f.at.size_is) (let e = f.at.len_is in let few = f.few in omega arith) ∙ ap (λ (k : ℕ). (Ok (Number k), Some (AsArray (record { size = a.size; items = a.items ++ value ∷ [] })))) (sym index))
    p.size p.items (p.peak ∙ ap (λ (k : ℕ). max a.peak k) (sym (length-append a.items (value ∷ [])))) (λ r. refl) (pushed_taken (array_at h f.at) turns p) noted_is (noted_some name WasPush tt noted_is)

-- as much is free after reads
pub still_room : {v w : View} {t : Operations} {name : List ℕ} {verb : Verb} {s : Contents} → OnlyReads v w → v.Shows → HasRoomFor t v name verb s → HasRoomFor t w name verb s
still_room {name = name} {verb = verb} {s = s} k shows room = record { room = λ ok. still (IsFree (needed verb (get (reading s).things name))) k shows (room.room ok) }
