-- Undoing a note of bytes: the length comes back behind the bytes.
use Rattle.std.proofs.Common.{◌≡◌, ◌≢◌, ℕ, ◌+◌, ◌*◌, ◌≤◌, Bool, true, false, cond, List, [], length, drop, slice_get, Option, Some, None, option_map, Ok, Err, refl, sym, ap, ◌∙◌, subst, inl, arith}
use Rattle.std.specs.Prelude.{nat_le, slice_index}
use Rattle.std.specs.FinMap.{get}
use Rattle.std.proofs.lemmas.Bool.Decides.{nat_tests}
use Rattle.sg_base.specs.Sheet.{Sheet}
use Rattle.sg_ops.specs.Table.{Table as Operations}
use Rattle.sg_blob.specs.Blob.{Blob, IsBlob, OwnsBand, OwnsPage}
use Rattle.sg_blob.specs.Raw.{Raw, IsRaw, IsRoot, IsPart}
use Rattle.sg_blob.specs.Calls.{CanRestore}
use Rattle.sg_blob.specs.Steps.{RawTurns, with_root}
use Rattle.sg_catalog.specs.Catalog.{IsCatalog, rows, there}
use Rattle.sg_catalog.specs.Row.{entry_of}
use Rattle.sg_catalog.specs.declared.row.Entry.{Entry}
use Rattle.sg_catalog.specs.declared.row.ObjectKind.TheVariants as kinds
use Rattle.sg_catalog.specs.declared.row.Row.{Row}
use Rattle.sg_model.specs.declared.reason.Reason.{Reason}
use Rattle.sg_model.specs.declared.reason.Reason.TheVariants.{NoObject, WrongKind, OutOfRange}
use Rattle.sg_model.specs.Objects.Object.{Blob as AsBlob}
use Rattle.sg_model.specs.Step.{on_blob}
use Rattle.sg_model.specs.Verb.{Outcome}
use Rattle.sg_model.specs.Verb.Reply.{Done}
use Rattle.sg_space.specs.Owned.{Becomes}
use Rattle.sg_space.specs.Units.{Units, HasAt}
use Rattle.sg_space.specs.View.{Space}
use Rattle.sg_space.proofs.Owners.{grown}
use Rattle.sg_reading.specs.Reading.{Thing, Around, plain, slot}
use Rattle.sg_reading.specs.Reading.Thing.{There}
use Rattle.sg_reading.specs.Back.{Before, Patch, back, carried_out, planned, lay_plan, located, padded, all_laid, all_zero, lay, if_done, rebuilt}
use Rattle.sg_reading.specs.Back.Undoing.{WasBytes}
use Rattle.sg_reading.specs.Strokes.{AreWhole}
use Rattle.sg_reading.proofs.Bytes.{length_padded}
use Rattle.sg_before.specs.Laying.{put_on}
use Rattle.sg_before.proofs.Parted.{IsHeld, AreHeld, held_all, held_at, byte_index}
use Rattle.sg_before.proofs.Bytes.{distinct, none_on}
use Rattle.sg_contents.specs.Standing.{Body, Contents, IsContents}
use Rattle.sg_contents.specs.Standing.Body.{ABlob}
use Rattle.sg_contents.specs.Changes.{with_body, BodyTurns}
use Rattle.sg_contents.specs.Meaning.{reading, thing_of}
use Rattle.sg_objects.specs.Found.{IsAt, IsMissing}
use Rattle.sg_objects.specs.PutBack.{HasBack}
use Rattle.sg_objects.specs.Undone.{IsUndone}
use Rattle.sg_objects.proofs.Blobbed.{missing_blob}
use Rattle.sg_objects.proofs.Bodies.{body_undone}
use Rattle.sg_objects.proofs.Located.{thing_under}
use Rattle.sg_objects.proofs.Whole.{put_whole, whole_by}

-- THE CATALOGUE is as it was
pub back_catalog : {found : List Before} {was now : Space} {s : Contents} → IsContents was s → HasBack found was now → IsCatalog now.pages.at s.catalog
back_catalog {s = s} h k = subst (λ (u : Units Sheet). IsCatalog u.at s.catalog) (sym k.pages) h.catalog

-- a blob is there, since the note can be undone
refused_none : (o : Outcome) (reason : Reason) (x th : Option Thing) → o ≡ Err reason → if_done o x ≡ Some th → ⊥
refused_none (Ok reply) reason x th e f = absurd (cc)
refused_none (Err other) reason x th e f = absurd (cc)

not_laid : (t : Operations) (n : ℕ) (reason : Reason) (x th : Option Thing) → ((ps : List Patch) → (on_blob (lay n ps) (plain x)).0 ≡ Err reason) → (c : Bool) (r : Option (List Patch)) → carried_out t (cond c (lay_plan n r) None) x ≡ Some th → ⊥
not_laid t n reason x th refuses false r e = absurd (cc)
not_laid t n reason x th refuses true None e = absurd (cc)
not_laid t n reason x th refuses true (Some ps) e = refused_none (on_blob (lay n ps) (plain x)).0 reason (rebuilt x (on_blob (lay n ps) (plain x)).1) th (refuses ps) e

pub bytes_not_missing : {was : Space} {s : Contents} (t : Operations) (n : ℕ) (name : List ℕ) (found : List Before) (reason : Reason) (th : Option Thing) → IsContents was s → IsMissing kinds.Blob s name reason → back t (WasBytes n) found (slot (reading s) name) ≡ Some th → ⊥
bytes_not_missing {was} {s} t n name found reason th h m e =
    not_laid t n reason (get (reading s).things name) th (λ ps. missing_blob s name (lay n ps) reason h m) _ _ e

pub missing_none : (s : Contents) (name : List ℕ) → None ≡ option_map entry_of (there name (rows s.catalog)) → IsMissing kinds.Blob s name NoObject
missing_none s name e = go (there name (rows s.catalog)) e
  where
    go : (o : Option Row) → None ≡ option_map entry_of o → o ≡ None
    go None e = refl
    go (Some row) e = absurd (cc)

pub found_row : (s : Contents) (name : List ℕ) (x : Entry) → Some x ≡ option_map entry_of (there name (rows s.catalog)) → (row : Row) × (there name (rows s.catalog) ≡ Some row) × (x ≡ entry_of row)
found_row s name x e = go (there name (rows s.catalog)) e
  where
    go : (o : Option Row) → Some x ≡ option_map entry_of o → (row : Row) × (o ≡ Some row) × (x ≡ entry_of row)
    go None e = absurd (cc)
    go (Some row) e = (row, refl, cc)

pub missing_other : (s : Contents) (name : List ℕ) (x : Entry) → Some x ≡ option_map entry_of (there name (rows s.catalog)) → x.kind ≢ kinds.Blob → IsMissing kinds.Blob s name WrongKind
missing_other s name x e ne =
    let f = found_row s name x e in
    record { row = f.0; found = f.1; kind_is = λ same. ne (ap (λ (y : Entry). y.kind) f.2 ∙ same) }

pub found_blob : (s : Contents) (name : List ℕ) (x : Entry) → Some x ≡ option_map entry_of (there name (rows s.catalog)) → x.kind ≡ kinds.Blob → IsAt kinds.Blob s name x.root.0
found_blob s name x e is =
    let f = found_row s name x e in
    record { row = f.0; found = f.1; kind_is = sym (ap (λ (y : Entry). y.kind) f.2) ∙ is; root_is = ap (λ (y : Entry). y.root.0) (sym f.2) }

-- what the model says of it
pub record WasLaid (n : ℕ) (found : List Before) (x : List ℕ) (w : Around) (th : Option Thing) : Type 0 where
  pub low : n ≤ w.peak
  pub patches : List Patch
  pub at_bands : located w.bands found ≡ Some patches
  pub zeros : all_zero (drop n (all_laid patches x)) ≡ true
  pub th_is : th ≡ Some (There (AsBlob (padded n (all_laid patches x))) w)

laid_is : (t : Operations) (n : ℕ) (found : List Before) (x : List ℕ) (w : Around) (th : Option Thing) → carried_out t (planned (WasBytes n) found (Some (There (AsBlob x) w))) (Some (There (AsBlob x) w)) ≡ Some th → WasLaid n found x w th
laid_is t n found x w th e = go (nat_le n w.peak) (located w.bands found) refl refl e
  where
    zeros : (ps : List Patch) (z : Bool) → all_zero (drop n (all_laid ps x)) ≡ z → (let r : Outcome × List ℕ = cond z (Ok Done, padded n (all_laid ps x)) (Err OutOfRange, x) in if_done r.0 (Some (There (AsBlob r.1) w))) ≡ Some th → (all_zero (drop n (all_laid ps x)) ≡ true) × (th ≡ Some (There (AsBlob (padded n (all_laid ps x))) w))
    zeros ps true p e = (p, cc)
    zeros ps false p e = absurd (cc)

    go : (c : Bool) (r : Option (List Patch)) → nat_le n w.peak ≡ c → located w.bands found ≡ r → carried_out t (cond c (lay_plan n r) None) (Some (There (AsBlob x) w)) ≡ Some th → WasLaid n found x w th
    go false r p q e = absurd (cc)
    go true None p q e = absurd (cc)
    go true (Some ps) p q e =
        let z = zeros ps (all_zero (drop n (all_laid ps x))) refl e in
        record { low = grind (arith, nat_tests, p); patches = ps; at_bands = q; zeros = z.0; th_is = z.1 }

pub was_laid : {s : Contents} {name : List ℕ} {root : ℕ} {b : Blob} (t : Operations) (n : ℕ) (found : List Before) (th : Option Thing) → IsAt kinds.Blob s name root → s.body root ≡ ABlob b → back t (WasBytes n) found (slot (reading s) name) ≡ Some th → WasLaid n found b.bytes (record { root = root; peak = b.peak; bands = b.bands }) th
was_laid {s} {name} {root} {b} t n found th f is e =
    let under = thing_under f ∙ ap (λ (y : Body). Some (thing_of root y)) is in
    laid_is t n found b.bytes (record { root = root; peak = b.peak; bands = b.bands }) th
    (subst (λ (y : Option Thing). carried_out t (planned (WasBytes n) found y) y ≡ Some th) under e)

-- THE BYTES ARE BACK: the blob is there, but for its length
abbrev pub bytes_of : Option (List ℕ) → List ℕ
bytes_of None = []
bytes_of (Some xs) = xs

module _ {was now : Space} {root : ℕ} {b : Blob} (n : ℕ) (found : List Before) (th : Option Thing) (h : IsBlob was.pages.at was.bands.at root b) (k : HasBack found was now) (w : WasLaid n found b.bytes (record { root = root; peak = b.peak; bands = b.bands }) th) where
  abbrev pub restored : List ℕ
  restored = padded n (all_laid w.patches b.bytes)

  abbrev pub raw_back : Raw
  raw_back = record { count = length b.bytes; peak = b.peak; bands = b.bands; bytes = restored }

  abbrev pub part_at : (j p : ℕ) → slice_get b.bands j ≡ Some p → HasAt was.bands.at p (IsPart b.bytes j)
  part_at j p e = h.raw.part j p e

  held_is : (j p : ℕ) → slice_get b.bands j ≡ Some p → IsHeld b.bytes (0 + 32768 * j) (bytes_of (was.bands.at p))
  held_is j p e =
      let x = part_at j p e in
      subst (λ (o : Option (List ℕ)). IsHeld b.bytes (0 + 32768 * j) (bytes_of o)) (sym x.is) (record {
        size = x.has.size;
        each = λ i l. byte_index x.what i ∙ (x.has.each i l ∙ (ap (λ (m : ℕ). slice_index b.bytes (m + i)) (let z : 32768 * j ≡ 0 + 32768 * j = omega arith in z) ∙ sym (byte_index b.bytes (0 + 32768 * j + i))));
      })

  now_whole : AreWhole (λ p. put_on found p (bytes_of (was.bands.at p))) b.bands
  now_whole = whole_by (λ p. put_on found p (bytes_of (was.bands.at p))) b.bands (λ j p e.
      let x = part_at j p e in
      subst (λ (o : Option (List ℕ)). length (put_on found p (bytes_of o)) ≡ 32768) (sym x.is) (k.whole p (put_on found p x.what) (k.band p x.what x.is)))

  now_held : AreHeld (λ p. put_on found p (bytes_of (was.bands.at p))) restored 0 b.bands
  now_held = put_whole (λ p. bytes_of (was.bands.at p)) b.bands found w.patches b.bytes n w.at_bands (distinct b.bands h.raw.apart) now_whole
      (held_all (λ p. bytes_of (was.bands.at p)) b.bytes 0 b.bands held_is) h.raw.enough w.zeros

  now_part : (j p : ℕ) → slice_get b.bands j ≡ Some p → HasAt now.bands.at p (IsPart restored j)
  now_part j p e =
      let x = part_at j p e in
      let y = held_at (λ q. put_on found q (bytes_of (was.bands.at q))) restored 0 b.bands now_held j p e in
      let z : IsHeld restored (0 + 32768 * j) (put_on found p x.what) = subst (λ (o : Option (List ℕ)). IsHeld restored (0 + 32768 * j) (put_on found p (bytes_of o))) x.is y in
      record {
        what = put_on found p x.what;
        is = k.band p x.what x.is;
        has = record {
          size = z.size;
          each = λ i l. sym (byte_index (put_on found p x.what) i) ∙ (z.each i l ∙ (byte_index restored (0 + 32768 * j + i) ∙ ap (λ (m : ℕ). slice_index restored (m + i)) (let v : 0 + 32768 * j ≡ 32768 * j = omega arith in v)));
        };
      }

  pub back_raw : IsRaw now.pages.at now.bands.at root raw_back
  back_raw =
      let raw = h.raw in
      record {
        first = subst (λ (u : Units Sheet). HasAt u.at root (IsRoot (length b.bytes) b.peak b.bands)) (sym k.pages) raw.first;
        part = now_part;
        fit = raw.fit;
        apart = raw.apart;
        below_peak = raw.below_peak;
        few = raw.few;
        enough = (let size = length_padded n (all_laid w.patches b.bytes) in let low = w.low in let least = h.least in omega (arith, size, low, least));
      }

  pub can_restore : CanRestore n raw_back
  can_restore = record { long = length_padded n (all_laid w.patches b.bytes); below = w.low; least = h.least; most = h.most }

  -- a band of another one is as it was
  other_band : (p : ℕ) → (OwnsBand b.bands p → ⊥) → now.bands.at p ≡ was.bands.at p
  other_band p far = go (was.bands.at p) refl
    where
      go : (o : Option (List ℕ)) → was.bands.at p ≡ o → now.bands.at p ≡ was.bands.at p
      go None e = k.none p e ∙ sym e
      go (Some xs) e = k.band p xs e ∙ (ap (λ (ys : List ℕ). Some ys) (none_on b.bands found w.patches p xs w.at_bands (λ j f. far (j, f))) ∙ sym e)

  -- with its length, it's a blob again
  pub bytes_turned : {new : Space} → RawTurns now new root raw_back (with_root n b.peak raw_back) → IsBlob new.pages.at new.bands.at root (record { bytes = restored; peak = b.peak; bands = b.bands }) → BodyTurns was new kinds.Blob root (ABlob b) (ABlob (record { bytes = restored; peak = b.peak; bands = b.bands }))
  bytes_turned {new} t is = record {
    body = is;
    pages = subst (λ (u : Units Sheet). Becomes u new.pages (OwnsPage root) (OwnsPage root) 1 1) k.pages (grown t.pages);
    bands = record {
      others = λ p far far'. (t.bands).others p far' ∙ other_band p far;
      taken = λ p own. inl own;
      given = λ p own far. absurd (far own);
      exactly = (let one = (t.bands).exactly in let free = k.free in omega (arith, one, free));
      all = (t.bands).all ∙ k.count;
    };
  }

-- BYTE 9 IS UNDONE
pub undo_bytes_done : {was now new : Space} {s : Contents} {root : ℕ} {b : Blob} (n : ℕ) (name : List ℕ) (found : List Before) (th : Option Thing) → IsContents was s → (f : IsAt kinds.Blob s name root) → s.body root ≡ ABlob b → (h : IsBlob was.pages.at was.bands.at root b) → (k : HasBack found was now) → (w : WasLaid n found b.bytes (record { root = root; peak = b.peak; bands = b.bands }) th)
    → RawTurns now new root (raw_back n found th h k w) (with_root n b.peak (raw_back n found th h k w)) → IsBlob new.pages.at new.bands.at root (record { bytes = restored n found th h k w; peak = b.peak; bands = b.bands })
    → IsUndone (WasBytes n) name was new s th (with_body root (ABlob (record { bytes = restored n found th h k w; peak = b.peak; bands = b.bands })) s)
undo_bytes_done {was} {now} {new} {s} {root} {b} n name found th c f is h k w t blob_is =
    let turned = bytes_turned n found th h k w t blob_is in
    body_undone (WasBytes n) refl name th (ABlob (record { bytes = restored n found th h k w; peak = b.peak; bands = b.bands })) c f
    (subst (λ (y : Body). BodyTurns was new kinds.Blob root y (ABlob (record { bytes = restored n found th h k w; peak = b.peak; bands = b.bands }))) (sym is) turned)
    w.th_is
    (record { pages = (let one = (turned.pages).exactly in omega (arith, one)); bands = (let two = (turned.bands).exactly in omega (arith, two)) })
