-- A walk over the pieces of a read.
use Rattle.std.proofs.Common.{◌≡◌, ℕ, ◌+◌, ◌-◌, ◌<◌, ◌≤◌, List, length, slice_index, sym, ap, ◌∙◌, refl, arith, inl, inr}
use Rattle.std.proofs.lemmas.Bool.{cases_lt}
use borrow.Rule.Slice.PartMut.{put_mid}
use Rattle.sg_base.specs.Overwritten.{overwritten}
use Rattle.sg_base.proofs.Overwriting.{overwritten_by_part}
use Rattle.sg_space.proofs.Known.{reads_then}
use Rattle.sg_blob.specs.Steps.{IfRaw, IsCopied}
use Rattle.sg_blob.proofs.Over.{length_over, over_before, over_inside}
use Rattle.sg_blob.proofs.Parts.{still_blob}
use Rattle.sg_space.specs.View.{View, OnlyReads}
use Rattle.sg_blob.specs.Blob.{Blob, IsBlob, raw_of}

-- so many bytes have been read
pub record ReadsTo (v w : View) (root at done : ℕ) (into : List ℕ) : Type 0 where
  pub told : w.Told → v.Told
  pub later : v.faults ≤ w.faults
  pub kept : OnlyReads v w
  pub within : done ≤ length into
  pub fits : at + length into ≤ 16384000
  pub read : v.Shows → (b : Blob) → IsBlob v.space.pages.at v.space.bands.at root b → (k : ℕ) → k < done → slice_index into k ≡ slice_index b.bytes (at + k)

-- and some more
pub reads_on : {u v w : View} {root at done : ℕ} {into : List ℕ} (n : ℕ) (piece : List ℕ) → ReadsTo u v root at done into → (w.Told → v.Told) → v.faults ≤ w.faults → OnlyReads v w → IfRaw v root (λ r. IsCopied r.bytes (at + done) piece) → length piece ≡ n → done + n ≤ length into → ReadsTo u w root at (done + n) (put_mid done (done + n - done) into piece)
reads_on {u} {v} {w} {root} {at} {done} {into} n piece h told later kept read long room =
    let is : put_mid done (done + n - done) into piece ≡ overwritten into done piece = overwritten_by_part into piece piece done (done + n - done) refl (omega arith) in
    let within = h.within in
    let size = length_over into piece done within in
    let same : length (overwritten into done piece) ≡ length into = omega arith in
    let lengths : length (put_mid done (done + n - done) into piece) ≡ length into = ap (λ (xs : List ℕ). length xs) is ∙ same in
    let fits = h.fits in
    let before = h.later in
    record {
      told = λ t. h.told (told t);
      later = omega arith;
      kept = reads_then h.kept kept;
      within = omega arith;
      fits = omega arith;
      read = λ shows b blob k below. ap (λ (xs : List ℕ). slice_index xs k) is ∙ elim (cases_lt k done) [
        | inl a ↦ over_before into piece done k within a ∙ h.read shows b blob k a
        | inr a ↦
            let e : done + (k - done) ≡ k = omega arith in
            let f : at + done + (k - done) ≡ at + k = omega arith in
            ap (λ (i : ℕ). slice_index (overwritten into done piece) i) (sym e)
            ∙ (over_inside into piece done (k - done) within (omega arith)
            ∙ ((read (h.kept.shows shows) (raw_of b) (still_blob h.kept shows blob).raw).same (k - done) (omega arith)
            ∙ ap (λ (i : ℕ). slice_index b.bytes i) f))
      ];
    }
