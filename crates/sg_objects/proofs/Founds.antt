-- WHAT THE RECORDS OF A VERB ON A BLOB FOUND puts back what there was; and where it is put back, the note can be undone.
use Rattle.std.proofs.Common.{◌≡◌, ℕ, ◌+◌, ◌*◌, ◌≤◌, List, [], ◌++◌, length, slice_get, Option, Some, None, option_map, refl, sym, ap, ◌∙◌, subst, arith}
use Rattle.std.specs.Prelude.{slice_index, is_ok}
use Rattle.std.specs.FinMap.{get}
use Rattle.sg_action.specs.States.{State, Change, Kept, made}
use Rattle.sg_action.specs.Opened.{IsOpened}
use Rattle.sg_ops.specs.Table.{Table as Operations}
use Rattle.sg_blob.specs.Blob.{Blob, IsBlob}
use Rattle.sg_model.specs.Objects.{Object}
use Rattle.sg_model.specs.Objects.Object.{Array as AsArray, Table as AsTable, Blob as AsBlob}
use Rattle.sg_model.specs.Step.{on, on_blob, write, resize, paint, Change as Outcomes}
use Rattle.sg_model.specs.Verb.{Verb, Outcome}
use Rattle.sg_model.specs.Verb.Verb.{Write, Size, Paint}
use Rattle.sg_space.specs.View.{Space}
use Rattle.sg_reading.specs.Back.{Before}
use Rattle.sg_reading.specs.Noted.{PutsBack, PutsBackOf}
use Rattle.sg_reading.specs.Reading.{Thing, plain, slot}
use Rattle.sg_reading.specs.Reading.Thing.{There}
use Rattle.sg_reading.specs.Did.{grown as left_grown}
use Rattle.sg_reading.specs.Left.{IsLeft, done_by}
use Rattle.sg_contents.specs.Standing.{Contents}
use Rattle.sg_contents.specs.Standing.Body.{ABlob}
use Rattle.sg_contents.specs.Meaning.{reading, thing_of}
use Rattle.sg_objects.specs.Blobs.{IsBlobAt}
use Rattle.sg_objects.specs.declared.blob.BlobAt.{BlobAt}
use Rattle.sg_objects.proofs.Blobbed.{blob_under}
use Rattle.sg_before.specs.Laying.{put_on}
use Rattle.sg_before.specs.Befores.{befores, AreFilled, AreWholeBands, AreOn}
use Rattle.sg_before.proofs.Parted.{IsHeld, AreHeld, held_all, byte_index}
use Rattle.sg_before.proofs.Bytes.{HadBands, TookBands, action_puts_back}
use Rattle.sg_objects.specs.PutBack.{HasBack}

-- the bands that a space has are those of a state
abbrev pub ShowsBands : Space → State → Type 0
ShowsBands space x = (b : ℕ) (bytes : List ℕ) → space.bands.at b ≡ Some bytes → x.bands b ≡ bytes

pub blob_held : (space : Space) {root : ℕ} (x : State) (b : Blob) → ShowsBands space x → IsBlob space.pages.at space.bands.at root b → AreHeld x.bands b.bytes 0 b.bands
blob_held space x b shows h = held_all x.bands b.bytes 0 b.bands (λ j p e.
    let part = h.raw.part j p e in
    subst (λ (xs : List ℕ). IsHeld b.bytes (0 + 32768 * j) xs) (sym (shows p part.what part.is)) (record {
      size = part.has.size;
      each = λ i l. byte_index part.what i ∙ (part.has.each i l ∙ (ap (λ (m : ℕ). slice_index b.bytes (m + i)) (let z : 32768 * j ≡ 0 + 32768 * j = omega arith in z) ∙ sym (byte_index b.bytes (0 + 32768 * j + i))));
    }))

-- AT THE END of an action that changed one blob, and wrote on its bands alone
pub blob_puts_back : (old new : Space) {root : ℕ} (t : Operations) (kept : Kept) (map : ℕ) (ds : List Change) (x : State) (b b' : Blob) (more : List ℕ) → AreWholeBands x → IsOpened t kept x ds → AreFilled t kept ds → ShowsBands old x → ShowsBands new (made t x ds) → IsBlob old.pages.at old.bands.at root b → IsBlob new.pages.at new.bands.at root b' → b'.bands ≡ b.bands ++ more
    → HadBands kept map b.bands → TookBands map ds more → AreOn (b.bands ++ more) (befores map ds) → PutsBack (b.bands ++ more) (befores map ds) b'.bytes b.bytes
blob_puts_back old new t kept map ds x b b' more whole opened filled shows shows' h h' bands had took within =
    action_puts_back t kept map ds x b.bands more b.bytes b'.bytes whole opened filled had took
    (λ i j p e f. h'.raw.apart i j p (ap (λ (xs : List ℕ). slice_get xs i) bands ∙ e) (ap (λ (xs : List ℕ). slice_get xs j) bands ∙ f)) within
    (blob_held old x b shows h) h.raw.enough
    (subst (λ (bs : List ℕ). AreHeld (made t x ds).bands b'.bytes 0 bs) bands (blob_held new (made t x ds) b' shows' h'))
    (subst (λ (bs : List ℕ). length b'.bytes ≤ 32768 * length bs) bands h'.raw.enough)

-- WHERE THE BYTES ARE PUT BACK: the space at the action's begin, and the one now
abbrev pub was_space : Space → (ℕ → List ℕ) → Space
was_space now bands = record now { bands = record now.bands { at = λ b. option_map (λ _. bands b) (now.bands.at b) } }

pub has_back : (found : List Before) (now : Space) (bands : ℕ → List ℕ)
    → ((b : ℕ) (bytes : List ℕ) → now.bands.at b ≡ Some bytes → bytes ≡ put_on found b (bands b))
    → ((b : ℕ) (bytes : List ℕ) → now.bands.at b ≡ Some bytes → length bytes ≡ 32768) → HasBack found (was_space now bands) now
has_back found now bands is whole = record {
  pages = refl;
  band = λ b bytes e. some b bytes (now.bands.at b) (is b) e;
  none = λ b e. none b (now.bands.at b) e;
  free = refl;
  count = refl;
  whole = whole;
}
  where
    some : (b : ℕ) (bytes : List ℕ) (o : Option (List ℕ)) → ((ys : List ℕ) → o ≡ Some ys → ys ≡ put_on found b (bands b)) → option_map (λ _. bands b) o ≡ Some bytes → o ≡ Some (put_on found b bytes)
    some b bytes None is e = absurd (cc)
    some b bytes (Some ys) is e = ap (λ (zs : List ℕ). Some zs) (is ys refl ∙ ap (put_on found b) (same (bands b) bytes e))
      where
        same : (xs zs : List ℕ) → Some xs ≡ Some zs → xs ≡ zs
        same xs zs e = cc

    none : (b : ℕ) (o : Option (List ℕ)) → option_map (λ _. bands b) o ≡ None → o ≡ None
    none b None e = refl
    none b (Some ys) e = absurd (cc)

-- WHAT perform OWES THE LOG beside what it left: by verb, from the bytes of the blob afterwards
module _ {s : Contents} {name : List ℕ} {x : BlobAt} (t : Operations) (f : IsBlobAt name s x) (more : List ℕ) (found : List Before) (b' : Blob) (puts : PutsBack (f.blob.bands ++ more) found b'.bytes f.blob.bytes) where
  pub write_puts_back : (at : ℕ) (bytes : List ℕ) → b'.bytes ≡ (write at bytes f.blob.bytes).1 → PutsBackOf t (Write at bytes) more found (slot (reading s) name).thing
  write_puts_back at bytes is = subst (λ (th : Option Thing). PutsBackOf t (Write at bytes) more found th) (sym (blob_under f)) (subst (λ (xs : List ℕ). PutsBack (f.blob.bands ++ more) found xs f.blob.bytes) is puts)

  pub size_puts_back : (n : ℕ) → b'.bytes ≡ (resize n f.blob.bytes).1 → PutsBackOf t (Size n) more found (slot (reading s) name).thing
  size_puts_back n is = subst (λ (th : Option Thing). PutsBackOf t (Size n) more found th) (sym (blob_under f)) (subst (λ (xs : List ℕ). PutsBack (f.blob.bands ++ more) found xs f.blob.bytes) is puts)

  pub paint_puts_back : (at count code : ℕ) (arg : List ℕ) → b'.bytes ≡ (paint t at count code arg f.blob.bytes).1 → PutsBackOf t (Paint at count code arg) more found (slot (reading s) name).thing
  paint_puts_back at count code arg is = subst (λ (th : Option Thing). PutsBackOf t (Paint at count code arg) more found th) (sym (blob_under f)) (subst (λ (xs : List ℕ). PutsBack (f.blob.bands ++ more) found xs f.blob.bytes) is puts)

-- and what a verb with a reply left is the model's bytes
pub left_bytes : (s s' : Contents) {name : List ℕ} {root : ℕ} {b b' : Blob} (t : Operations) (by : ℕ) (verb : Verb) (change : List ℕ → Outcome × List ℕ) → ((o : Option Object) → on t verb o ≡ on_blob change o) → get (reading s).things name ≡ Some (thing_of root (ABlob b)) → get (reading s').things name ≡ Some (thing_of root (ABlob b')) → (l : IsLeft t by name verb (reading s) (reading s'))
    → (b'.bytes ≡ (change b.bytes).1) × (b'.bands ≡ b.bands ++ l.bands)
left_bytes s s' {name} {root} {b} {b'} t by verb change is under now l =
    let left = l.leaves.thing in
    let e = sym now ∙ (left ∙ (ap (λ (th : Option Thing). (let k : Outcomes = on t verb (plain th) in left_grown (done_by (reading s) by name verb l.root l.bands) verb (is_ok k.0) th k.1)) under
    ∙ ap (λ (k : Outcomes). left_grown (done_by (reading s) by name verb l.root l.bands) verb (is_ok k.0) (Some (thing_of root (ABlob b))) k.1) (is (Some (AsBlob b.bytes))))) in
    (bytes_of_thing e, bands_of_thing e)
  where
    bytes_in : Option Thing → List ℕ
    bytes_in None = []
    bytes_in (Some (There (AsBlob xs) w)) = xs
    bytes_in (Some (There (AsArray row) w)) = []
    bytes_in (Some (There (AsTable m) w)) = []

    bands_in : Option Thing → List ℕ
    bands_in None = []
    bands_in (Some (There o w)) = w.bands

    bytes_of_thing : {p q : ℕ} {xs ys bs cs : List ℕ} {r v : ℕ} → ◌≡◌ {A = Option Thing} (Some (There (AsBlob xs) (record { root = p; peak = q; bands = bs }))) (Some (There (AsBlob ys) (record { root = r; peak = v; bands = cs }))) → xs ≡ ys
    bytes_of_thing e = ap bytes_in e

    bands_of_thing : {p q : ℕ} {xs ys bs cs : List ℕ} {r v : ℕ} → ◌≡◌ {A = Option Thing} (Some (There (AsBlob xs) (record { root = p; peak = q; bands = bs }))) (Some (There (AsBlob ys) (record { root = r; peak = v; bands = cs }))) → bs ≡ cs
    bands_of_thing e = ap bands_in e
