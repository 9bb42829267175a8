-- The lengths of objects.
use Rattle.std.proofs.Common.{◌≡◌, ℕ, Bool, List, [], ◌∷◌, ◌++◌, length, Option, Some, None, option_map, Ok, Err, refl, sym, ap, ◌∙◌, subst}
use Rattle.std.specs.Prelude.{is_ok}
use Rattle.std.specs.FinMap.{get}
use Rattle.sg_ops.specs.Table.{Table as Operations}
use Rattle.sg_blob.specs.Blob.{Blob, IsBlob}
use Rattle.sg_catalog.specs.Catalog.{rows, there, is_there}
use Rattle.sg_catalog.specs.Row.{entry_of}
use Rattle.sg_catalog.specs.declared.row.Entry.{Entry}
use Rattle.sg_catalog.specs.declared.row.ObjectKind.{ObjectKind}
use Rattle.sg_catalog.specs.declared.row.ObjectKind.TheVariants as kinds
use Rattle.sg_catalog.specs.declared.row.Row.{Row}
use Rattle.sg_model.specs.declared.reason.Reason.TheVariants.{NoObject}
use Rattle.sg_model.specs.Objects.Object.{Array as AsArray, Table as AsTable, Blob as AsBlob}
use Rattle.sg_model.specs.Step.{len}
use Rattle.sg_model.specs.Verb.{Outcome}
use Rattle.sg_model.specs.Verb.Verb.{Len}
use Rattle.sg_model.specs.Verb.Reply.{Number}
use Rattle.sg_space.specs.View.{Space}
use Rattle.sg_reading.specs.Reading.{Thing, plain, slot}
use Rattle.sg_reading.specs.Reading.Thing.{There}
use Rattle.sg_reading.specs.Did.{Did, slot_after, grown}
use Rattle.sg_reading.specs.Noted.{noted}
use Rattle.sg_contents.specs.Standing.{Body, Contents, IsContents, IsBody}
use Rattle.sg_contents.specs.Standing.Body.{AnArray, ATable, ABlob}
use Rattle.sg_contents.specs.Meaning.{reading, thing_of, thing_at, object_of}
use Rattle.sg_contents.proofs.Among.{found_among}
use Rattle.sg_contents.proofs.Reading.{get_thing}
use Rattle.sg_objects.specs.Done.{IsDone, done_by}
use Rattle.sg_objects.specs.Found.{IsAt}
use Rattle.sg_objects.specs.Needs.{needed, HasTaken}
use Rattle.sg_objects.specs.Notes.{note_bytes}
use Rattle.sg_objects.proofs.Bodies.{read_done, none_taken}
use Rattle.sg_objects.proofs.Items.{max_same}
use Rattle.sg_objects.proofs.Located.{thing_under, body_at}
use Rattle.sg_objects.proofs.Making.{entry_found}
use Rattle.sg_objects.proofs.Refused.{nothing_under}

-- what a search found is an object there
pub found_at : (s : Contents) (name : List ℕ) (e : Entry) → Some e ≡ option_map entry_of (there name (rows s.catalog)) → IsAt e.kind s name e.root.0
found_at s name e is =
    let f = entry_found (there name (rows s.catalog)) e is in
    record {
      row = f.0;
      found = f.1;
      kind_is = sym (ap (λ (x : Entry). x.kind) f.2);
      root_is = sym (ap (λ (x : Entry). x.root.0) f.2);
    }

pub as_kind : {s : Contents} {name : List ℕ} {root : ℕ} (kind kind' : ObjectKind) → kind ≡ kind' → IsAt kind s name root → IsAt kind' s name root
as_kind {s} {name} {root} kind kind' e f = subst (λ (k : ObjectKind). IsAt k s name root) e f

append_nil : (xs : List ℕ) → xs ++ [] ≡ xs
append_nil [] = refl
append_nil (x ∷ xs) = ap (λ (ys : List ℕ). x ∷ ys) (append_nil xs)

pub blob_body : (space : Space) (root : ℕ) (b : Body) → IsBody space kinds.Blob root b → (x : Blob) × (b ≡ ABlob x) × IsBlob space.pages.at space.bands.at root x
blob_body space root (ABlob b) h = (b, refl, h)
blob_body space root (AnArray a) h = absurd h
blob_body space root (ATable t) h = absurd h

pub blob_there : {space : Space} {s : Contents} {name : List ℕ} {root : ℕ} → IsContents space s → IsAt kinds.Blob s name root → (x : Blob) × (s.body root ≡ ABlob x) × IsBlob space.pages.at space.bands.at root x
blob_there {space} {s} {name} {root} h f = blob_body space root (s.body root) (body_at h f)

pub no_length : (s : Contents) (name : List ℕ) → there name (rows s.catalog) ≡ None → len (plain (get (reading s).things name)) ≡ Err NoObject
no_length s name none = ap (λ (th : Option Thing). len (plain th)) (nothing_under s name none)

pub body_length : {kind : ObjectKind} {s : Contents} {name : List ℕ} {root : ℕ} (b : Body) (o : Outcome) → IsAt kind s name root → s.body root ≡ b → len (Some (object_of b)) ≡ o → len (plain (get (reading s).things name)) ≡ o
body_length {root = root} b o f is e = ap (λ (th : Option Thing). len (plain th)) (thing_under f ∙ ap (λ (x : Body). Some (thing_of root x)) is) ∙ e

-- LEN: nothing has changed
kept_thing : (space : Space) (root : ℕ) (kind : ObjectKind) (b : Body) (d : Did) (done : Bool) → d.bands ≡ [] → IsBody space kind root b → grown d Len done (Some (thing_of root b)) (Some (object_of b)) ≡ Some (thing_of root b)
kept_thing space root kinds.Array (AnArray a) d done none h =
    let peak = max_same a.peak (length a.items) ((h.built).limits).below_peak in
    λ i. Some (There (object_of (AnArray a)) (record { root = root; peak = peak i; bands = none i }))
kept_thing space root kinds.Table (ATable t) d done none h = λ i. Some (There (object_of (ATable t)) (record { root = root; peak = t.peak; bands = none i }))
kept_thing space root kinds.Blob (ABlob b) d done none h =
    let peak = max_same b.peak (length b.bytes) (h.raw.below_peak) in
    let bands = ap (λ (bs : List ℕ). b.bands ++ bs) none ∙ append_nil b.bands in
    λ i. Some (There (object_of (ABlob b)) (record { root = root; peak = peak i; bands = bands i }))
kept_thing space root kinds.Array (ATable t) d done none h = absurd h
kept_thing space root kinds.Array (ABlob b) d done none h = absurd h
kept_thing space root kinds.Table (AnArray a) d done none h = absurd h
kept_thing space root kinds.Table (ABlob b) d done none h = absurd h
kept_thing space root kinds.Blob (AnArray a) d done none h = absurd h
kept_thing space root kinds.Blob (ATable t) d done none h = absurd h

len_kept : {space : Space} {s : Contents} (t : Operations) (d : Did) (name : List ℕ) → d.bands ≡ [] → IsContents space s → (o : Option Row) → there name (rows s.catalog) ≡ o → (slot_after t d Len (slot (reading s) name)).thing ≡ get (reading s).things name
len_kept {space} {s} t d name none h None e =
    let under = nothing_under s name e in
    ap (λ (th : Option Thing). grown d Len (is_ok (len (plain th))) th (plain th)) under ∙ sym under
len_kept {space} {s} t d name none h (Some row) e =
    let under = get_thing s name ∙ ap (option_map (thing_at s.body)) e in
    ap (λ (th : Option Thing). grown d Len (is_ok (len (plain th))) th (plain th)) under
    ∙ (kept_thing space row.root.0 row.kind (s.body row.root.0) d (is_ok (len (Some (object_of (s.body row.root.0))))) none (h.body row (found_among (is_there name) (rows s.catalog) row e))
    ∙ sym under)

pub len_done : {old new : Space} {s : Contents} (t : Operations) (by : ℕ) (name : List ℕ) (n : ℕ) (note : List ℕ) → new ≡ old → IsContents old s → len (plain (get (reading s).things name)) ≡ Ok (Number n) → note ≡ [] → IsDone t by name Len (Ok (Number n)) note old new s s
len_done {old} {new} {s} t by name n note same h is none =
    read_done t by name Len (Number n) note same h is (len_kept t (done_by (reading s) by name Len 0 []) name refl h (there name (rows s.catalog)) refl) (λ r. refl)
    (taken (get (reading s).things name)) (none ∙ sym (unnoted (get (reading s).things name) is))
  where
    taken : (th : Option Thing) → HasTaken (needed Len th) old new
    taken None = none_taken same
    taken (Some (There (AsArray row) w)) = none_taken same
    taken (Some (There (AsTable m) w)) = none_taken same
    taken (Some (There (AsBlob x) w)) = none_taken same

    unnoted : (th : Option Thing) → len (plain th) ≡ Ok (Number n) → note_bytes name (noted Len th) ≡ []
    unnoted None e = absurd (cc)
    unnoted (Some (There (AsArray row) w)) e = refl
    unnoted (Some (There (AsTable m) w)) e = refl
    unnoted (Some (There (AsBlob x) w)) e = refl
