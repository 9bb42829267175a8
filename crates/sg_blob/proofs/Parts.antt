-- Where the bytes of a blob stand.
use Rattle.std.proofs.Common.{◌≡◌, ℕ, ◌+◌, ◌-◌, ◌*◌, ◌/◌, ◌%◌, ◌<◌, ◌≤◌, ◌^◌, List, length, Option, Some, IsSome, sym, ap, ◌∙◌, refl, arith, slice_get, slice_index, subst, take, drop}
use Rattle.std.proofs.lemmas.Grind.{same_number_lists}
use Rattle.std.proofs.lemmas.List.{get_or-take, get_or-drop, length-take-le, length-drop}
use Rattle.byteorder.specs.Endian.{little_bytes}
use Rattle.sg_base.specs.Sheet.{Sheet}
use Rattle.sg_space.specs.Units.{HasAt}
use Rattle.sg_space.specs.View.{Space, View, OnlyReads}
use Rattle.sg_space.specs.Reads.{HasCell, HasSized}
use Rattle.sg_space.specs.Links.{link_cell}
use Rattle.sg_space.proofs.Known.{both, read_is, still}
use Rattle.sg_space.proofs.Links.{link_is, there}
use Rattle.sg_blob.specs.Blob.{Blob, IsBlob}
use Rattle.sg_blob.specs.Raw.{Raw, IsRaw, IsRoot}
use Rattle.sg_blob.specs.Steps.{IsCopied}

-- what stands in a space, said of the space alone
abbrev pub StandsRaw : ℕ → Raw → Space → Type 0
StandsRaw root r s = IsRaw s.pages.at s.bands.at root r

abbrev pub StandsBlob : ℕ → Blob → Space → Type 0
StandsBlob root b s = IsBlob s.pages.at s.bands.at root b

pub still_raw : {v w : View} {root : ℕ} {r : Raw} → OnlyReads v w → v.Shows → StandsRaw root r v.space → StandsRaw root r w.space
still_raw {root = root} {r = r} k shows h = still (StandsRaw root r) k shows h

pub still_blob : {v w : View} {root : ℕ} {b : Blob} → OnlyReads v w → v.Shows → StandsBlob root b v.space → StandsBlob root b w.space
still_blob {root = root} {b = b} k shows h = still (StandsBlob root b) k shows h

-- a slot of the root names a band
pub link_there : {pages : ℕ → Option Sheet} {root count peak : ℕ} {bands : List ℕ} (j : ℕ) → HasAt pages root (IsRoot count peak bands) → j < length bands → HasAt pages root (HasSized 7 (j + 1) 4)
link_there j h below = record {
  what = h.what;
  is = h.is;
  has = record { kind_is = h.has.kind; cell = _; is = h.has.links j ∙ ap link_cell (there _ j below); size_is = refl };
}

-- and it is the one that was read
pub link_read : {pages : ℕ → Option Sheet} {root count peak : ℕ} {bands : List ℕ} (j n : ℕ) → HasAt pages root (IsRoot count peak bands) → ((j b : ℕ) → slice_get bands j ≡ Some b → b < 2 ^ 32) → n < 2 ^ 32 → HasAt pages root (HasCell 7 (j + 1) (little_bytes 4 n)) → slice_get bands j ≡ Some n
link_read j n h fit hn c = link_is _ n (λ p e. fit j p e) hn (sym (h.has.links j) ∙ read_is h c)

pub band_there : {pages : ℕ → Option Sheet} {bands : ℕ → Option (List ℕ)} {root : ℕ} {r : Raw} (j n : ℕ) → IsRaw pages bands root r → slice_get r.bands j ≡ Some n → IsSome (bands n)
band_there j n h e = subst IsSome (sym (h.part j n e).is) refl

pub place : (at : ℕ) → 32768 * (at / 32768) + at % 32768 ≡ at
place at = omega arith

pub part_read : {pages : ℕ → Option Sheet} {bands : ℕ → Option (List ℕ)} {root : ℕ} {r : Raw} {into : List ℕ} (at n : ℕ) → IsRaw pages bands root r → slice_get r.bands (at / 32768) ≡ Some n → at % 32768 + length into ≤ 32768 → HasAt bands n (λ band. IsCopied band (at % 32768) into) → IsCopied r.bytes at into
part_read {r = r} {into = into} at n h e fits c =
    let p = h.part (at / 32768) n e in
    let copied = both p c in
    record {
      same = λ k below.
          let inside : at % 32768 + k < 32768 = omega arith in
          let is : 32768 * (at / 32768) + (at % 32768 + k) ≡ at + k = omega (arith, place at) in
          copied.same k below ∙ (p.has.each (at % 32768 + k) inside ∙ ap (λ (i : ℕ). slice_index r.bytes i) is);
    }

-- the front of the bytes from there on, as a list
pub copied_is : (bytes into : List ℕ) (at : ℕ) → at + length into ≤ length bytes → ((k : ℕ) → k < length into → slice_index into k ≡ slice_index bytes (at + k)) → into ≡ take (length into) (drop at bytes)
copied_is bytes into at fits same =
    let rest : length (drop at bytes) ≡ length bytes - at = length-drop at bytes in
    let long : length (take (length into) (drop at bytes)) ≡ length into = length-take-le (length into) (drop at bytes) (omega arith) in
    same_number_lists into (take (length into) (drop at bytes)) (sym long) (λ k below.
    same k below ∙ sym (get_or-take (length into) (drop at bytes) k 0 below ∙ get_or-drop at bytes k 0))

-- a place within so many bytes of so many bands has a band
pub band_below : (at count n : ℕ) → at < count → count ≤ 32768 * n → at / 32768 < n
band_below at count n a b = omega arith

pub part_long : (xs : List ℕ) (at count : ℕ) → at + count ≤ length xs → length (take (at + count - at) (drop at xs)) ≡ count
part_long xs at count fits = length-take-le (at + count - at) (drop at xs) (omega (arith, length-drop at xs)) ∙ omega arith
