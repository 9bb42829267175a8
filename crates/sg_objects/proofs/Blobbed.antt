-- What the verbs on blobs come to.
use Rattle.std.proofs.Common.{◌≡◌, ◌≢◌, ℕ, ◌+◌, ◌-◌, ◌/◌, ◌≤◌, max, List, [], ◌∷◌, ◌++◌, length, Option, Some, option_map, Ok, Err, ◌⊎◌, refl, sym, ap, ◌∙◌, subst, inl, inr, arith}
use Rattle.std.specs.Prelude.{is_ok}
use Rattle.std.specs.FinMap.{get}
use Rattle.sg_ops.specs.Table.{Table as Operations}
use Rattle.sg_blob.specs.Blob.{Blob, IsBlob}
use Rattle.sg_blob.specs.Calls as blob
use Rattle.sg_blob.proofs.Sides.{exact}
use Rattle.sg_catalog.specs.Catalog.{rows, is_there}
use Rattle.sg_catalog.specs.declared.row.ObjectKind.{ObjectKind}
use Rattle.sg_catalog.specs.declared.row.ObjectKind.TheVariants as kinds
use Rattle.sg_model.specs.declared.reason.Reason.{Reason}
use Rattle.sg_model.specs.declared.reason.Reason.TheVariants.{NoObject, WrongKind, Exists, OutOfRange, NoOperation, Declined, TooLong, TooMany}
use Rattle.sg_model.specs.Objects.{Object}
use Rattle.sg_model.specs.Objects.Object.{Blob as AsBlob}
use Rattle.sg_model.specs.Step.{on, on_blob, Change}
use Rattle.sg_model.specs.Verb.{Verb, Outcome, Reply}
use Rattle.sg_space.specs.View.{Space}
use Rattle.sg_reading.specs.Reading.{Thing, Reading, plain, slot}
use Rattle.sg_reading.specs.Reading.Thing.{There}
use Rattle.sg_reading.specs.Did.{slot_after, grown as left_grown}
use Rattle.sg_reading.specs.Did as model
use Rattle.sg_reading.specs.Left.{TakesForBody}
use Rattle.sg_reading.specs.Noted.{noted}
use Rattle.sg_contents.specs.Standing.{Body, Contents, IsContents, IsBody}
use Rattle.sg_contents.specs.Standing.Body.{AnArray, ATable, ABlob}
use Rattle.sg_contents.specs.Changes.{with_body, BodyTurns}
use Rattle.sg_contents.specs.Meaning.{reading, thing_of, thing_at, object_of}
use Rattle.sg_contents.proofs.Among.{found_among}
use Rattle.sg_contents.proofs.Reading.{get_thing}
use Rattle.sg_objects.specs.Blobs.{IsBlobAt}
use Rattle.sg_objects.specs.Done.{IsDone, done_by}
use Rattle.sg_objects.specs.Needs.{needed, pages_alone, bands_alone, bands_for, HasTaken}
use Rattle.sg_objects.specs.Found.{IsAt, IsMissing, IsOther}
use Rattle.sg_objects.specs.Notes.{note_bytes}
use Rattle.sg_objects.specs.declared.blob.BlobAt.{BlobAt}
use Rattle.sg_objects.proofs.Bodies.{body_done}
use Rattle.sg_objects.proofs.Located.{body_at, body_changes, thing_under}
use Rattle.sg_objects.proofs.Refused.{nothing_under}

-- THE BLOB OF A NAME
pub blob_body : (space : Space) (root : ℕ) (b : Body) → IsBody space kinds.Blob root b → (x : Blob) × (b ≡ ABlob x) × IsBlob space.pages.at space.bands.at root x
blob_body space root (ABlob x) h = (x, refl, h)
blob_body space root (ATable t) h = absurd h
blob_body space root (AnArray a) h = absurd h

pub blob_there : {space : Space} {s : Contents} {name : List ℕ} {root : ℕ} → IsContents space s → IsAt kinds.Blob s name root → (x : Blob) × (s.body root ≡ ABlob x) × IsBlob space.pages.at space.bands.at root x
blob_there {space} {s} {name} {root} h f = blob_body space root (s.body root) (body_at h f)

pub blob_at : {space : Space} {s : Contents} {name : List ℕ} {x : BlobAt} → IsContents space s → (f : IsBlobAt name s x) → IsBlob space.pages.at space.bands.at x.root.0 f.blob
blob_at {space} {s} {name} {x} h f = subst (λ (b : Body). IsBody space kinds.Blob x.root.0 b) f.body_is (body_at h f.at)

pub blob_under : {s : Contents} {name : List ℕ} {x : BlobAt} (f : IsBlobAt name s x) → get (reading s).things name ≡ Some (thing_of x.root.0 (ABlob f.blob))
blob_under {s} {name} {x} f = thing_under f.at ∙ ap (λ (b : Body). Some (thing_of x.root.0 b)) f.body_is

pub blob_turns : {old new : Space} {root : ℕ} {b b' : Blob} → blob.Turns old new root b b' → BodyTurns old new kinds.Blob root (ABlob b) (ABlob b')
blob_turns t = record { body = t.blob; pages = t.pages; bands = t.bands }

pub blob_changes : {old new : Space} {s : Contents} {name : List ℕ} {x : BlobAt} {b' : Blob} → IsContents old s → (f : IsBlobAt name s x) → blob.Turns old new x.root.0 f.blob b' → IsContents new (with_body x.root.0 (ABlob b') s)
blob_changes {old} {new} {s} {name} {x} {b'} h f t = body_changes (ABlob b') h f.at (subst (λ (b : Body). BodyTurns old new kinds.Blob x.root.0 b (ABlob b')) (sym f.body_is) (blob_turns t))

-- WHERE THERE IS NONE
not_blob : (space : Space) (root : ℕ) (kind : ObjectKind) (b : Body) (change : List ℕ → Outcome × List ℕ) → kind ≢ kinds.Blob → IsBody space kind root b → (on_blob change (Some (object_of b))).0 ≡ Err WrongKind
not_blob space root kinds.Blob b change ne h = absurd (ne refl)
not_blob space root kind (ATable t) change ne h = refl
not_blob space root kind (AnArray a) change ne h = refl
not_blob space root kinds.Table (ABlob b) change ne h = absurd h
not_blob space root kinds.Array (ABlob b) change ne h = absurd h

other_under : {space : Space} {s : Contents} (name : List ℕ) (change : List ℕ → Outcome × List ℕ) → IsContents space s → IsOther kinds.Blob s name → (on_blob change (plain (get (reading s).things name))).0 ≡ Err WrongKind
other_under {space} {s} name change h f =
    let row = f.row in
    let under = get_thing s name ∙ ap (option_map (thing_at s.body)) f.found in
    ap (λ (th : Option Thing). (on_blob change (plain th)).0) under
    ∙ not_blob space row.root.0 row.kind (s.body row.root.0) change f.kind_is (h.body row (found_among (is_there name) (rows s.catalog) row f.found))

pub missing_blob : {space : Space} (s : Contents) (name : List ℕ) (change : List ℕ → Outcome × List ℕ) (reason : Reason) → IsContents space s → IsMissing kinds.Blob s name reason → (on_blob change (plain (get (reading s).things name))).0 ≡ Err reason
missing_blob s name change NoObject h m = ap (λ (th : Option Thing). (on_blob change (plain th)).0) (nothing_under s name m)
missing_blob s name change WrongKind h m = other_under name change h m
missing_blob s name change Exists h m = absurd m
missing_blob s name change OutOfRange h m = absurd m
missing_blob s name change NoOperation h m = absurd m
missing_blob s name change Declined h m = absurd m
missing_blob s name change TooLong h m = absurd m
missing_blob s name change TooMany h m = absurd m

-- a change of a blob that refuses
pub refuses_blob : (name : List ℕ) {s : Contents} {x : BlobAt} (change : List ℕ → Outcome × List ℕ) (reason : Reason) (f : IsBlobAt name s x) → (change f.blob.bytes).0 ≡ Err reason → (on_blob change (plain (get (reading s).things name))).0 ≡ Err reason
refuses_blob name change reason f is = ap (λ (th : Option Thing). (on_blob change (plain th)).0) (blob_under f) ∙ is

-- a thing that is a blob
pub blob_thing : (root peak peak' : ℕ) (bytes bytes' bands bands' : List ℕ) → bytes ≡ bytes' → peak ≡ peak' → bands ≡ bands' → ◌≡◌ {A = Option Thing} (Some (There (AsBlob bytes) (record { root = root; peak = peak; bands = bands }))) (Some (There (AsBlob bytes') (record { root = root; peak = peak'; bands = bands' })))
blob_thing root peak peak' bytes bytes' bands bands' x p b = λ k. Some (There (AsBlob (x k)) (record { root = root; peak = p k; bands = b k }))

-- what a verb leaves of a blob
pub blob_left : (t : Operations) (d : model.Did) (name : List ℕ) (verb : Verb) (root : ℕ) (r : Reading) (b b' : Blob) (reply : Reply) (xs : List ℕ) → get r.things name ≡ Some (thing_of root (ABlob b)) → on t verb (Some (AsBlob b.bytes)) ≡ (Ok reply, Some (AsBlob xs)) → b'.bytes ≡ xs → b'.peak ≡ max b.peak (length xs) → b'.bands ≡ b.bands ++ d.bands → (slot_after t d verb (slot r name)).thing ≡ Some (thing_of root (ABlob b'))
blob_left t d name verb root r b b' reply xs under is bytes peak bands =
    ap (λ (th : Option Thing). (let c : Change = on t verb (plain th) in left_grown d verb (is_ok c.0) th c.1)) under
    ∙ (ap (λ (c : Change). left_grown d verb (is_ok c.0) (Some (thing_of root (ABlob b))) c.1) is
    ∙ blob_thing root (max b.peak (length xs)) b'.peak xs b'.bytes (b.bands ++ d.bands) b'.bands (sym bytes) (sym peak) (sym bands))

-- what a verb on a blob came to, where it got a reply
pub blob_done : {old new : Space} {s : Contents} {x : BlobAt} {b' : Blob} (t : Operations) (by : ℕ) (name : List ℕ) (verb : Verb) (reply : Reply) (xs more note : List ℕ) → IsContents old s → (f : IsBlobAt name s x) → blob.Turns old new x.root.0 f.blob b' → on t verb (Some (AsBlob f.blob.bytes)) ≡ (Ok reply, Some (AsBlob xs)) → b'.bytes ≡ xs → b'.peak ≡ max (f.blob).peak (length xs) → b'.bands ≡ (f.blob).bands ++ more → TakesForBody verb (Some (thing_of x.root.0 (ABlob f.blob))) more → ((r : ℕ) → (slot_after t (done_by (reading s) by name verb 0 more) verb (slot (reading s) name)).buried r ≡ get (reading s).tombs (r ∷ name)) → HasTaken (needed verb (Some (thing_of x.root.0 (ABlob f.blob)))) old new → note ≡ note_bytes name (noted verb (Some (thing_of x.root.0 (ABlob f.blob)))) → (note ≡ [] → ⊥) → IsDone t by name verb (Ok reply) note old new s (with_body x.root.0 (ABlob b') s)
blob_done {old} {new} {s} {x} {b'} t by name verb reply xs more note h f turns is bytes peak bands takes buried taken noted_is some =
    let under = blob_under f in
    body_done t by name verb reply (ABlob b') more note h f.at
    (subst (λ (b : Body). BodyTurns old new kinds.Blob x.root.0 b (ABlob b')) (sym f.body_is) (blob_turns turns))
    (ap (λ (th : Option Thing). (on t verb (plain th)).0) under ∙ ap (λ (c : Outcome × Option Object). c.0) is)
    (subst (λ (th : Option Thing). TakesForBody verb th more) (sym under) takes)
    (blob_left t (done_by (reading s) by name verb 0 more) name verb x.root.0 (reading s) f.blob b' reply xs under is bytes peak bands)
    buried
    (subst (λ (th : Option Thing). HasTaken (needed verb th) old new) (sym under) taken)
    (noted_is ∙ ap (λ (th : Option Thing). note_bytes name (noted verb th)) (sym under))
    some

-- the bands that were taken, by the peak
more_for : (p' p most have has free free' : ℕ) → has ≡ (p' + 32767) / 32768 → have ≡ (p + 32767) / 32768 → (p' ≡ p) ⊎ (p' ≤ most) → free' + has ≡ free + have → free ≤ free' + ((most + 32767) / 32768 - have)
more_for p' p most have has free free' e f (inl same) g = omega (arith, e, f, same, g)
more_for p' p most have has free free' e f (inr less) g = omega (arith, e, f, less, g)

pub blob_taken : {old new : Space} {root : ℕ} {b b' : Blob} (most : ℕ) → IsBlob old.pages.at old.bands.at root b → blob.Turns old new root b b' → (b'.peak ≡ b.peak) ⊎ (b'.peak ≤ most) → HasTaken (bands_alone (bands_for most - length b.bands)) old new
blob_taken {old} {new} {root} {b} {b'} most h turns peak = record {
  pages = (let one = (turns.pages).exactly in omega arith);
  bands = more_for b'.peak b.peak most (length b.bands) (length b'.bands) old.bands.free new.bands.free (exact b' turns.blob) (exact b h) peak (turns.bands).exactly;
}

pub same_bands_taken : {old new : Space} {root : ℕ} {b b' : Blob} → blob.Turns old new root b b' → b'.bands ≡ b.bands → HasTaken (pages_alone 0) old new
same_bands_taken {old} {new} {root} {b} {b'} turns same =
    let one = (turns.pages).exactly in
    let two = (turns.bands).exactly in
    let three = ap (λ (xs : List ℕ). length xs) same in
    record { pages = omega arith; bands = omega arith }

-- its length is at most its peak, and that within the limit
pub below_peak : {pages : _} {bands : _} {root : ℕ} {b : Blob} → IsBlob pages bands root b → (length b.bytes ≤ b.peak) × (b.peak ≤ 16384000)
below_peak h = (h.raw.below_peak, h.raw.few)
