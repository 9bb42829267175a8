-- Writing, reading, resizing and painting a blob.
use Rattle.std.proofs.Common.{◌≡◌, ℕ, ◌+◌, ◌-◌, ◌*◌, ◌/◌, ◌<◌, ◌≤◌, max, Bool, true, false, cond, List, [], ◌∷◌, ◌++◌, length, take, drop, Option, Some, None, Ok, Err, IsSome, is_some, ◌⊎◌, refl, sym, ap, ◌∙◌, subst, inl, inr, arith, length-append}
use Rattle.std.specs.Prelude.{nat_lt, ◌||◌}
use Rattle.std.specs.FinMap.{get}
use Rattle.std.proofs.lemmas.Bool.{cases_lt}
use Rattle.std.proofs.lemmas.Bool.Decides.{nat_tests}
use Rattle.std.proofs.lemmas.List.{append_assoc, length-take-le, length-drop}
use Rattle.std.proofs.Math.Seq.{take-append_seam}
use Rattle.sg_ops.specs.Meaning.{RangeMeaning}
use Rattle.sg_ops.specs.Table.{Table as Operations, range_at, rendered}
use Rattle.sg_ops.proofs.Rendering.{length-rendered}
use Rattle.sg_blob.specs.Blob.{Blob}
use Rattle.sg_blob.specs.Calls as blob
use Rattle.sg_model.specs.declared.reason.Reason.TheVariants.{OutOfRange, NoOperation, TooLong}
use Rattle.sg_model.specs.Objects.{Object}
use Rattle.sg_model.specs.Objects.Object.{Blob as AsBlob}
use Rattle.sg_model.specs.Step.{on, Change, overlaid, write, read, resize, resized, paint, paint_by, range_named}
use Rattle.sg_model.specs.Verb.{Verb, Outcome, Reply}
use Rattle.sg_model.specs.Verb.Verb.{Write, Read, Size, Paint}
use Rattle.sg_model.specs.Verb.Reply.{Done, Bytes}
use Rattle.sg_space.specs.View.{View, Space}
use Rattle.sg_reading.specs.Reading.{Thing, plain, slot}
use Rattle.sg_reading.specs.Noted.{noted}
use Rattle.sg_reading.proofs.Bytes.{length_padded}
use Rattle.sg_contents.specs.Standing.{Contents, IsContents}
use Rattle.sg_contents.specs.Standing.Body.{ABlob}
use Rattle.sg_contents.specs.Changes.{with_body}
use Rattle.sg_contents.specs.Meaning.{reading, thing_of}
use Rattle.sg_objects.specs.Blobs.{IsBlobAt, CanWriteTo, CanReadFrom, CanSizeTo, CanPaintOn}
use Rattle.sg_objects.specs.Needs.{needed, pages_alone, bands_for, IsFree, HasTaken}
use Rattle.sg_objects.specs.Done.{IsDone, IsFresh, HasRoomFor, done_by}
use Rattle.sg_reading.specs.Did.{slot_after}
use Rattle.sg_objects.specs.Notes.{note_bytes}
use Rattle.sg_objects.specs.declared.blob.BlobAt.{BlobAt}
use Rattle.sg_reading.specs.Back.Undoing.{WasBytes}
use Rattle.sg_objects.proofs.Blobbed.{blob_at, blob_under, blob_done, blob_left, blob_taken, same_bands_taken, below_peak}
use Rattle.sg_objects.proofs.Bodies.{read_done, none_taken, noted_some}
use Rattle.sg_objects.proofs.Doing.{ok_is}
use Rattle.sg_objects.proofs.Fresh.{fresh_blob}
use Rattle.sg_objects.proofs.Items.{max_same}

-- what a verb leaves, as the object of its name
abbrev pub on_bytes : Outcome × List ℕ → Change
on_bytes r = (r.0, Some (AsBlob r.1))

no_more : (xs : List ℕ) → xs ≡ xs ++ []
no_more [] = refl
no_more (x ∷ xs) = ap (λ ys. x ∷ ys) (no_more xs)

pub length_overlaid : (xs : List ℕ) (at : ℕ) (bytes : List ℕ) → at ≤ length xs → length (overlaid xs at bytes) ≡ at + (length bytes + (length xs - (at + length bytes)))
length_overlaid xs at bytes from =
    let front : length (take at xs) ≡ at = length-take-le at xs from in
    let rest : length (drop (at + length bytes) xs) ≡ length xs - (at + length bytes) = length-drop (at + length bytes) xs in
    length-append (take at xs) (bytes ++ drop (at + length bytes) xs)
    ∙ (ap (λ (n : ℕ). n + length (bytes ++ drop (at + length bytes) xs)) front
    ∙ ap (λ (n : ℕ). at + n) (length-append bytes (drop (at + length bytes) xs) ∙ ap (λ (n : ℕ). length bytes + n) rest))

le_max : (a b : ℕ) → b ≤ max a b
le_max a b = grind (arith, nat_tests)

max_other : (a b : ℕ) → a ≤ b → max a b ≡ b
max_other a b le = grind (arith, nat_tests)

-- a peak that what is written raises
raised_peak : (p x e : ℕ) → x ≤ p → max p e ≡ max p (e + (x - e))
raised_peak p x e low = elim (cases_lt e x) [
  | inl less ↦ max_same p e (omega (arith, less, low)) ∙ sym (max_same p (e + (x - e)) (omega (arith, less, low)))
  | inr past ↦ ap (max p) (omega (arith, past))
]

-- the peak is the one that there was, or what is wanted
sized_peak : (p p' e : ℕ) → p' ≡ max p e → (p' ≡ p) ⊎ (p' ≤ e)
sized_peak p p' e is = elim (cases_lt e p) [
  | inl less ↦ inl (is ∙ max_same p e (omega (arith, less)))
  | inr past ↦ inr (subst (λ (n : ℕ). n ≤ e) (sym (is ∙ max_other p e past)) (omega arith))
]

placed_peak : (p p' e x : ℕ) → p' ≡ max p e → (p' ≡ p) ⊎ (p' ≤ max x e)
placed_peak p p' e x is = elim (sized_peak p p' e is) [
  | inl same ↦ inl same
  | inr less ↦ inr (let more = le_max x e in omega (arith, less, more))
]

-- WRITE
pub write_bytes : (at : ℕ) (bytes xs : List ℕ) → length bytes ≤ 8192 → at + length bytes ≤ 16384000 → at ≤ length xs → write at bytes xs ≡ (Ok Done, overlaid xs at bytes)
write_bytes at bytes xs few small from =
    let short : (nat_lt 8192 (length bytes) || nat_lt 16384000 (at + length bytes)) ≡ false = grind (arith, nat_tests) in
    let within : nat_lt (length xs) at ≡ false = grind (arith, nat_tests) in
    ap (λ (b : Bool). cond {A = Outcome × List ℕ} b (Err TooLong, xs) (cond {A = Outcome × List ℕ} (nat_lt (length xs) at) (Err OutOfRange, xs) (Ok Done, overlaid xs at bytes))) short
    ∙ ap (λ (b : Bool). cond {A = Outcome × List ℕ} b (Err OutOfRange, xs) (Ok Done, overlaid xs at bytes)) within

pub write_long : (at : ℕ) (bytes xs : List ℕ) → (8192 < length bytes) → (write at bytes xs).0 ≡ Err TooLong
write_long at bytes xs many =
    let long : (nat_lt 8192 (length bytes) || nat_lt 16384000 (at + length bytes)) ≡ true = grind (arith, nat_tests) in
    ap (λ (b : Bool). (cond {A = Outcome × List ℕ} b (Err TooLong, xs) (cond {A = Outcome × List ℕ} (nat_lt (length xs) at) (Err OutOfRange, xs) (Ok Done, overlaid xs at bytes))).0) long

pub write_far : (at : ℕ) (bytes xs : List ℕ) → 16384000 < at + length bytes → (write at bytes xs).0 ≡ Err TooLong
write_far at bytes xs far =
    let long : (nat_lt 8192 (length bytes) || nat_lt 16384000 (at + length bytes)) ≡ true = grind (arith, nat_tests) in
    ap (λ (b : Bool). (cond {A = Outcome × List ℕ} b (Err TooLong, xs) (cond {A = Outcome × List ℕ} (nat_lt (length xs) at) (Err OutOfRange, xs) (Ok Done, overlaid xs at bytes))).0) long

pub write_past : (at : ℕ) (bytes xs : List ℕ) → length bytes ≤ 8192 → at + length bytes ≤ 16384000 → length xs < at → (write at bytes xs).0 ≡ Err OutOfRange
write_past at bytes xs few small past =
    let short : (nat_lt 8192 (length bytes) || nat_lt 16384000 (at + length bytes)) ≡ false = grind (arith, nat_tests) in
    let beyond : nat_lt (length xs) at ≡ true = grind (arith, nat_tests) in
    ap (λ (b : Bool). (cond {A = Outcome × List ℕ} b (Err TooLong, xs) (cond {A = Outcome × List ℕ} (nat_lt (length xs) at) (Err OutOfRange, xs) (Ok Done, overlaid xs at bytes))).0) short
    ∙ ap (λ (b : Bool). (cond {A = Outcome × List ℕ} b (Err OutOfRange, xs) (Ok Done, overlaid xs at bytes)).0) beyond

pub write_on : {name : List ℕ} {s : Contents} {x : BlobAt} (t : Operations) (at : ℕ) (bytes : List ℕ) (f : CanWriteTo name at (length bytes) s x) → on t (Write at bytes) (Some (AsBlob f.found.blob.bytes)) ≡ (Ok Done, Some (AsBlob (overlaid f.found.blob.bytes at bytes)))
write_on t at bytes f = ap on_bytes (write_bytes at bytes f.found.blob.bytes f.few f.small (let e = f.found.len_is in let from = f.from in omega arith))

pub accepted_on : {name : List ℕ} {s : Contents} {x : BlobAt} (t : Operations) (verb : Verb) (reply : Reply) (xs : List ℕ) (f : IsBlobAt name s x) → on t verb (Some (AsBlob f.blob.bytes)) ≡ (Ok reply, Some (AsBlob xs)) → (on t verb (plain (get (reading s).things name))).0 ≡ Ok reply
accepted_on t verb reply xs f is = ap (λ (th : Option Thing). (on t verb (plain th)).0) (blob_under f) ∙ ap (λ (c : Outcome × Option Object). c.0) is

-- so many bands are free
pub room_on : {v : View} {name : List ℕ} {s : Contents} {x : BlobAt} (t : Operations) (verb : Verb) (reply : Reply) (xs : List ℕ) (f : IsBlobAt name s x) → on t verb (Some (AsBlob f.blob.bytes)) ≡ (Ok reply, Some (AsBlob xs)) → HasRoomFor t v name verb s → IsFree (needed verb (Some (thing_of x.root.0 (ABlob f.blob)))) v.space
room_on {v} t verb reply xs f is room = subst (λ (th : Option Thing). IsFree (needed verb th) v.space) (blob_under f) (room.room (ok_is _ _ (accepted_on t verb reply xs f is)))

enough_bands : (size have free : ℕ) → (size + 32767) / 32768 - have ≤ free → size ≤ 32768 * (have + free)
enough_bands size have free h = omega (arith, h)

pub has_bands : {v : View} {s : Contents} {name : List ℕ} {x : BlobAt} (size most : ℕ) → IsContents v.space s → (f : IsBlobAt name s x) → IsFresh v → size ≤ most → bands_for most - length f.blob.bands ≤ v.space.bands.free → blob.HasBandsFor v x.root.0 size f.blob
has_bands {v} size most h f fresh le room = record {
  free = (let all = enough_bands most (length f.blob.bands) v.space.bands.free room in omega arith);
  may_take = λ more. fresh.may_take;
  may_fill = λ more. fresh_blob fresh h f.at f.body_is (blob_at h f);
}

pub can_write : {v : View} {name : List ℕ} {s : Contents} {x : BlobAt} (t : Operations) (at : ℕ) (bytes : List ℕ) → IsContents v.space s → (f : CanWriteTo name at (length bytes) s x) → IsFresh v → HasRoomFor t v name (Write at bytes) s → blob.CanWriteAt v x.root.0 at (length bytes) f.found.blob
can_write {v} t at bytes h f fresh room = record {
  from = (let e = f.found.len_is in let from = f.from in omega arith);
  bands = has_bands (at + length bytes) (max (length f.found.blob.bytes) (at + length bytes)) h f.found fresh (le_max (length f.found.blob.bytes) (at + length bytes)) ((room_on t (Write at bytes) Done _ f.found (write_on t at bytes f) room).bands);
}

pub write_done : {old new : Space} {s : Contents} {name : List ℕ} {x : BlobAt} {b' : Blob} (t : Operations) (by at : ℕ) (bytes note : List ℕ) → IsContents old s → (f : CanWriteTo name at (length bytes) s x) → blob.Turns old new x.root.0 f.found.blob b' → blob.IsPlaced at bytes f.found.blob b' → note ≡ note_bytes name (noted (Write at bytes) (Some (thing_of x.root.0 (ABlob f.found.blob)))) → IsDone t by name (Write at bytes) (Ok Done) note old new s (with_body x.root.0 (ABlob b') s)
write_done {old} {new} {s} {name} {x} {b'} t by at bytes note h f turns p noted_is =
    let b = f.found.blob in
    let from : at ≤ length b.bytes = (let e = f.found.len_is in let from = f.from in omega arith) in
    let low = (below_peak (blob_at h f.found)).0 in
    blob_done t by name (Write at bytes) Done (overlaid b.bytes at bytes) p.bands.more note h f.found turns (write_on t at bytes f)
    (p.bytes ∙ append_assoc (take at b.bytes) bytes (drop (at + length bytes) b.bytes))
    (p.peak ∙ (raised_peak b.peak (length b.bytes) (at + length bytes) low ∙ ap (max b.peak) (omega (arith, length_overlaid b.bytes at bytes from))))
    p.bands.is (λ z. absurd (cc)) (λ r. refl) (blob_taken (max (length b.bytes) (at + length bytes)) (blob_at h f.found) turns (placed_peak b.peak b'.peak (at + length bytes) (length b.bytes) p.peak)) noted_is (noted_some name (WasBytes (length b.bytes)) tt noted_is)

-- SIZE
pub size_bytes : (n : ℕ) (xs : List ℕ) → n ≤ 16384000 → resize n xs ≡ (Ok Done, resized n xs)
size_bytes n xs small =
    let short : nat_lt 16384000 n ≡ false = grind (arith, nat_tests) in
    ap (λ (b : Bool). cond {A = Outcome × List ℕ} b (Err TooLong, xs) (Ok Done, resized n xs)) short

pub size_long : (n : ℕ) (xs : List ℕ) → 16384000 < n → (resize n xs).0 ≡ Err TooLong
size_long n xs many =
    let long : nat_lt 16384000 n ≡ true = grind (arith, nat_tests) in
    ap (λ (b : Bool). (cond {A = Outcome × List ℕ} b (Err TooLong, xs) (Ok Done, resized n xs)).0) long

pub size_on : {name : List ℕ} {s : Contents} {x : BlobAt} (t : Operations) (n : ℕ) (f : CanSizeTo name n s x) → on t (Size n) (Some (AsBlob f.found.blob.bytes)) ≡ (Ok Done, Some (AsBlob (resized n f.found.blob.bytes)))
size_on t n f = ap on_bytes (size_bytes n f.found.blob.bytes f.small)

pub can_size : {v : View} {name : List ℕ} {s : Contents} {x : BlobAt} (t : Operations) (n : ℕ) → IsContents v.space s → (f : CanSizeTo name n s x) → IsFresh v → HasRoomFor t v name (Size n) s → blob.HasBandsFor v x.root.0 n f.found.blob
can_size {v} t n h f fresh room = has_bands n n h f.found fresh (omega arith) ((room_on t (Size n) Done _ f.found (size_on t n f) room).bands)

pub size_done : {old new : Space} {s : Contents} {name : List ℕ} {x : BlobAt} {b' : Blob} (t : Operations) (by n : ℕ) (note : List ℕ) → IsContents old s → (f : CanSizeTo name n s x) → blob.Turns old new x.root.0 f.found.blob b' → blob.IsResized n f.found.blob b' → note ≡ note_bytes name (noted (Size n) (Some (thing_of x.root.0 (ABlob f.found.blob)))) → IsDone t by name (Size n) (Ok Done) note old new s (with_body x.root.0 (ABlob b') s)
size_done {old} {new} {s} {name} {x} {b'} t by n note h f turns p noted_is =
    let b = f.found.blob in
    blob_done t by name (Size n) Done (resized n b.bytes) p.bands.more note h f.found turns (size_on t n f)
    p.bytes (p.peak ∙ ap (max b.peak) (sym (length_padded n b.bytes))) p.bands.is (λ z. absurd (cc)) (λ r. refl) (blob_taken n (blob_at h f.found) turns (sized_peak b.peak b'.peak n p.peak)) noted_is (noted_some name (WasBytes (length b.bytes)) tt noted_is)

-- READ
pub read_bytes : (at count : ℕ) (xs : List ℕ) → count ≤ 8192 → at + count ≤ length xs → read at count xs ≡ Ok (Bytes (take count (drop at xs)))
read_bytes at count xs few within =
    let short : nat_lt 8192 count ≡ false = grind (arith, nat_tests) in
    let there : nat_lt (length xs) (at + count) ≡ false = grind (arith, nat_tests) in
    ap (λ (b : Bool). cond {A = Outcome} b (Err TooLong) (cond {A = Outcome} (nat_lt (length xs) (at + count)) (Err OutOfRange) (Ok (Bytes (take count (drop at xs)))))) short
    ∙ ap (λ (b : Bool). cond {A = Outcome} b (Err OutOfRange) (Ok (Bytes (take count (drop at xs))))) there

pub read_long : (at count : ℕ) (xs : List ℕ) → 8192 < count → read at count xs ≡ Err TooLong
read_long at count xs many =
    let long : nat_lt 8192 count ≡ true = grind (arith, nat_tests) in
    ap (λ (b : Bool). cond {A = Outcome} b (Err TooLong) (cond {A = Outcome} (nat_lt (length xs) (at + count)) (Err OutOfRange) (Ok (Bytes (take count (drop at xs)))))) long

pub read_past : (at count : ℕ) (xs : List ℕ) → count ≤ 8192 → length xs < at + count → read at count xs ≡ Err OutOfRange
read_past at count xs few past =
    let short : nat_lt 8192 count ≡ false = grind (arith, nat_tests) in
    let beyond : nat_lt (length xs) (at + count) ≡ true = grind (arith, nat_tests) in
    ap (λ (b : Bool). cond {A = Outcome} b (Err TooLong) (cond {A = Outcome} (nat_lt (length xs) (at + count)) (Err OutOfRange) (Ok (Bytes (take count (drop at xs)))))) short
    ∙ ap (λ (b : Bool). cond {A = Outcome} b (Err OutOfRange) (Ok (Bytes (take count (drop at xs))))) beyond

-- nothing changed, and the reply says what there is
pub looked_done : {old new : Space} {s : Contents} {name : List ℕ} {x : BlobAt} (t : Operations) (by : ℕ) (verb : Verb) (reply : Reply) (note : List ℕ) → new ≡ old → IsContents old s → (f : IsBlobAt name s x) → on t verb (Some (AsBlob f.blob.bytes)) ≡ (Ok reply, Some (AsBlob f.blob.bytes)) → ((r : ℕ) → (slot_after t (done_by (reading s) by name verb 0 []) verb (slot (reading s) name)).buried r ≡ get (reading s).tombs (r ∷ name)) → needed verb (Some (thing_of x.root.0 (ABlob f.blob))) ≡ pages_alone 0 → note ≡ note_bytes name (noted verb (Some (thing_of x.root.0 (ABlob f.blob)))) → IsDone t by name verb (Ok reply) note old new s s
looked_done {old} {new} {s} {name} {x} t by verb reply note same h f is buried none noted_is =
    let b = f.blob in
    let low = (below_peak (blob_at h f)).0 in
    let under = blob_under f in
    read_done t by name verb reply note same h (accepted_on t verb reply b.bytes f is)
    (blob_left t (done_by (reading s) by name verb 0 []) name verb x.root.0 (reading s) b b reply b.bytes under is refl (sym (max_same b.peak (length b.bytes) low)) (no_more b.bands) ∙ sym under)
    buried
    (subst (λ (th : Option Thing). HasTaken (needed verb th) old new) (sym under) (subst (λ k. HasTaken k old new) (sym none) (none_taken same)))
    (noted_is ∙ ap (λ (th : Option Thing). note_bytes name (noted verb th)) (sym under))

-- a verb that reads, as a change that leaves the bytes
abbrev pub reads_blob : (at count : ℕ) → List ℕ → Outcome × List ℕ
reads_blob at count xs = (read at count xs, xs)

pub read_on : {name : List ℕ} {s : Contents} {x : BlobAt} (t : Operations) (at count : ℕ) (f : CanReadFrom name at count s x) → on t (Read at count) (Some (AsBlob f.found.blob.bytes)) ≡ (Ok (Bytes (take count (drop at f.found.blob.bytes))), Some (AsBlob f.found.blob.bytes))
read_on t at count f = ap (λ (o : Outcome). (let c : Change = (o, Some (AsBlob f.found.blob.bytes)) in c)) (read_bytes at count f.found.blob.bytes f.few (let e = f.found.len_is in let within = f.within in omega arith))

-- what was read stands at the front
pub read_front : (count : ℕ) (got rest bytes : List ℕ) → length got ≡ count → got ≡ take (length got) bytes → take count (got ++ rest) ≡ take count bytes
read_front count got rest bytes long is =
    ap (λ (n : ℕ). take n (got ++ rest)) (sym long) ∙ (take-append_seam got rest ∙ (is ∙ ap (λ (n : ℕ). take n bytes) long))

pub reading_done : {old new : Space} {s : Contents} {name : List ℕ} {x : BlobAt} (t : Operations) (by at count : ℕ) (into note : List ℕ) → new ≡ old → IsContents old s → (f : CanReadFrom name at count s x) → take count into ≡ take count (drop at f.found.blob.bytes) → note ≡ [] → IsDone t by name (Read at count) (Ok (Bytes (take count into))) note old new s s
reading_done {old} {new} {s} {name} {x} t by at count into note still h f same none =
    looked_done t by (Read at count) (Bytes (take count into)) note still h f.found
    (read_on t at count f ∙ ap (λ (xs : List ℕ). (let c : Change = (Ok (Bytes xs), Some (AsBlob f.found.blob.bytes)) in c)) (sym same)) (λ r. refl) refl none

-- PAINT
pub named_at : (t : Operations) (code : ℕ) → code < 65536 → range_named t code ≡ range_at t code
named_at t code small =
    let is : nat_lt code 65536 ≡ true = grind (arith, nat_tests) in
    ap (λ (b : Bool). cond {A = Option RangeMeaning} b (range_at t code) None) is

unnamed : (t : Operations) (code : ℕ) → 65536 ≤ code → range_named t code ≡ None
unnamed t code large =
    let is : nat_lt code 65536 ≡ false = grind (arith, nat_tests) in
    ap (λ (b : Bool). cond {A = Option RangeMeaning} b (range_at t code) None) is

known_by : (at count : ℕ) (arg xs : List ℕ) (o : Option RangeMeaning) → IsSome o → paint_by at count arg xs o ≡ (Ok Done, overlaid xs at (rendered o arg at count))
known_by at count arg xs None some = absurd (cc)
known_by at count arg xs (Some m) some = refl

pub paint_tested : (t : Operations) (at count code : ℕ) (arg xs : List ℕ) → length arg ≤ 256 → at + count ≤ length xs → paint t at count code arg xs ≡ paint_by at count arg xs (range_named t code)
paint_tested t at count code arg xs short within =
    let few : nat_lt 256 (length arg) ≡ false = grind (arith, nat_tests) in
    let there : nat_lt (length xs) (at + count) ≡ false = grind (arith, nat_tests) in
    ap (λ (b : Bool). cond {A = Outcome × List ℕ} b (Err TooLong, xs) (cond {A = Outcome × List ℕ} (nat_lt (length xs) (at + count)) (Err OutOfRange, xs) (paint_by at count arg xs (range_named t code)))) few
    ∙ ap (λ (b : Bool). cond {A = Outcome × List ℕ} b (Err OutOfRange, xs) (paint_by at count arg xs (range_named t code))) there

pub paint_long : (t : Operations) (at count code : ℕ) (arg xs : List ℕ) → 256 < length arg → (paint t at count code arg xs).0 ≡ Err TooLong
paint_long t at count code arg xs many =
    let long : nat_lt 256 (length arg) ≡ true = grind (arith, nat_tests) in
    ap (λ (b : Bool). (cond {A = Outcome × List ℕ} b (Err TooLong, xs) (cond {A = Outcome × List ℕ} (nat_lt (length xs) (at + count)) (Err OutOfRange, xs) (paint_by at count arg xs (range_named t code)))).0) long

pub paint_past : (t : Operations) (at count code : ℕ) (arg xs : List ℕ) → length arg ≤ 256 → length xs < at + count → (paint t at count code arg xs).0 ≡ Err OutOfRange
paint_past t at count code arg xs short past =
    let few : nat_lt 256 (length arg) ≡ false = grind (arith, nat_tests) in
    let beyond : nat_lt (length xs) (at + count) ≡ true = grind (arith, nat_tests) in
    ap (λ (b : Bool). (cond {A = Outcome × List ℕ} b (Err TooLong, xs) (cond {A = Outcome × List ℕ} (nat_lt (length xs) (at + count)) (Err OutOfRange, xs) (paint_by at count arg xs (range_named t code)))).0) few
    ∙ ap (λ (b : Bool). (cond {A = Outcome × List ℕ} b (Err OutOfRange, xs) (paint_by at count arg xs (range_named t code))).0) beyond

unknown_by : (at count : ℕ) (arg xs : List ℕ) (o : Option RangeMeaning) → o ≡ None → (paint_by at count arg xs o).0 ≡ Err NoOperation
unknown_by at count arg xs o none = ap (λ (p : Option RangeMeaning). (paint_by at count arg xs p).0) none

pub paint_unnamed : (t : Operations) (at count code : ℕ) (arg xs : List ℕ) → length arg ≤ 256 → at + count ≤ length xs → 65536 ≤ code → (paint t at count code arg xs).0 ≡ Err NoOperation
paint_unnamed t at count code arg xs short within large = ap (λ (r : Outcome × List ℕ). r.0) (paint_tested t at count code arg xs short within) ∙ unknown_by at count arg xs (range_named t code) (unnamed t code large)

pub paint_unknown : (t : Operations) (at count code : ℕ) (arg xs : List ℕ) → length arg ≤ 256 → at + count ≤ length xs → code < 65536 → range_at t code ≡ None → (paint t at count code arg xs).0 ≡ Err NoOperation
paint_unknown t at count code arg xs short within small none = ap (λ (r : Outcome × List ℕ). r.0) (paint_tested t at count code arg xs short within) ∙ unknown_by at count arg xs (range_named t code) (named_at t code small ∙ none)

pub paint_on : {name : List ℕ} {s : Contents} {x : BlobAt} (t : Operations) (at count code : ℕ) (arg : List ℕ) (f : CanPaintOn t name at count code arg s x) → on t (Paint at count code arg) (Some (AsBlob f.found.blob.bytes)) ≡ (Ok Done, Some (AsBlob (overlaid f.found.blob.bytes at (rendered (range_at t code) arg at count))))
paint_on t at count code arg f =
    let xs = f.found.blob.bytes in
    ap on_bytes (paint_tested t at count code arg xs f.short (let e = f.found.len_is in let within = f.within in omega arith)
    ∙ (ap (λ (o : Option RangeMeaning). paint_by at count arg xs o) (named_at t code f.small) ∙ known_by at count arg xs (range_at t code) f.known))

-- what a look for an operation tells
pub none_named : {A : Type 0} (o : Option A) → is_some o ≡ false → o ≡ None
none_named None e = refl
none_named (Some x) e = absurd (cc)

pub some_named : {A : Type 0} (o : Option A) → is_some o ≡ true → IsSome o
some_named None e = absurd (cc)
some_named (Some x) e = cc

pub can_paint : {t : Operations} {name : List ℕ} {at count code : ℕ} {arg : List ℕ} {s : Contents} {x : BlobAt} (f : CanPaintOn t name at count code arg s x) → at + count ≤ length f.found.blob.bytes
can_paint f = let e = f.found.len_is in let within = f.within in omega arith

pub paint_done : {old new : Space} {s : Contents} {name : List ℕ} {x : BlobAt} {b' : Blob} (t : Operations) (by at count code : ℕ) (arg note : List ℕ) → IsContents old s → (f : CanPaintOn t name at count code arg s x) → blob.Turns old new x.root.0 f.found.blob b' → blob.IsPaintedAt t at count code arg f.found.blob b' → note ≡ note_bytes name (noted (Paint at count code arg) (Some (thing_of x.root.0 (ABlob f.found.blob)))) → IsDone t by name (Paint at count code arg) (Ok Done) note old new s (with_body x.root.0 (ABlob b') s)
paint_done {old} {new} {s} {name} {x} {b'} t by at count code arg note h f turns p noted_is =
    let b = f.found.blob in
    let within : at + count ≤ length b.bytes = (let e = f.found.len_is in let within = f.within in omega arith) in
    let low = (below_peak (blob_at h f.found)).0 in
    let drawn = rendered (range_at t code) arg at count in
    let long : length drawn ≡ count = length-rendered (range_at t code) arg at count in
    let same : length (overlaid b.bytes at drawn) ≡ length b.bytes = omega (arith, length_overlaid b.bytes at drawn (omega arith), long) in
    blob_done t by name (Paint at count code arg) Done (overlaid b.bytes at drawn) [] note h f.found turns (paint_on t at count code arg f)
    (p.bytes ∙ append_assoc (take at b.bytes) drawn (drop (at + length drawn) b.bytes))
    (p.peak ∙ (sym (max_same b.peak (length b.bytes) low) ∙ ap (max b.peak) (sym same)))
    (p.bands ∙ no_more b.bands) (λ z. refl) (λ r. refl) (same_bands_taken turns p.bands) noted_is (noted_some name (WasBytes (length b.bytes)) tt noted_is)
