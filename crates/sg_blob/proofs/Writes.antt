-- One band is written.
use Rattle.std.proofs.Common.{◌≡◌, ◌≢◌, ℕ, ◌+◌, ◌-◌, ◌*◌, ◌/◌, ◌%◌, ◌<◌, ◌≤◌, List, length, Some, sym, ap, ◌∙◌, arith, slice_get, slice_index, subst, inl, inr}
use Rattle.std.proofs.lemmas.Bool.{cases_lt, cases_eq}
use Rattle.sg_base.specs.Overwritten.{overwritten}
use Rattle.sg_base.specs.Sheet.{Sheet}
use Rattle.sg_space.specs.Bands.{IsPiece}
use Rattle.sg_space.specs.Units.{Units, IsChanged}
use Rattle.sg_space.specs.View.{Space}
use Rattle.sg_space.proofs.Known.{moved, same_some}
use Rattle.sg_space.proofs.Owners.{grows_same}
use Rattle.sg_blob.specs.Raw.{Raw, IsRaw, IsPart}
use Rattle.sg_blob.specs.Steps.{RawTurns, HasPlace, with_bytes}
use Rattle.sg_blob.proofs.Over.{length_over, over_before, over_inside, over_after}
use Rattle.sg_blob.proofs.Parts.{place}
use Rattle.sg_blob.proofs.Turned.{bands_changed}

-- the part of the bytes that was written, in its band
pub part_over : (xs ys band : List ℕ) (at : ℕ) → at ≤ length xs → at % 32768 + length ys ≤ 32768 → IsPart xs (at / 32768) band → IsPart (overwritten xs at ys) (at / 32768) (overwritten band (at % 32768) ys)
part_over xs ys band at from fits h =
    let size : length band ≡ 32768 = h.size in
    let inside : at % 32768 ≤ length band = omega arith in
    let is = place at in
    record {
      size = let long = length_over band ys (at % 32768) inside in omega arith;
      each = λ m below. elim (cases_lt m (at % 32768)) [
        | inl a ↦
            over_before band ys (at % 32768) m inside a
            ∙ (h.each m below ∙ sym (over_before xs ys at (32768 * (at / 32768) + m) from (omega arith)))
        | inr a ↦ elim (cases_lt m (at % 32768 + length ys)) [
          | inl b ↦
              let e : at % 32768 + (m - at % 32768) ≡ m = omega arith in
              let f : at + (m - at % 32768) ≡ 32768 * (at / 32768) + m = omega arith in
              ap (λ (n : ℕ). slice_index (overwritten band (at % 32768) ys) n) (sym e)
              ∙ (over_inside band ys (at % 32768) (m - at % 32768) inside (omega arith)
              ∙ (sym (over_inside xs ys at (m - at % 32768) from (omega arith))
              ∙ ap (λ (n : ℕ). slice_index (overwritten xs at ys) n) f))
          | inr b ↦
              over_after band ys (at % 32768) m inside b
              ∙ (h.each m below ∙ sym (over_after xs ys at (32768 * (at / 32768) + m) from (omega arith)))
        ]
      ];
    }

-- and in another band
pub part_beside : (xs ys band : List ℕ) (at j : ℕ) → at ≤ length xs → at % 32768 + length ys ≤ 32768 → j ≢ at / 32768 → IsPart xs j band → IsPart (overwritten xs at ys) j band
part_beside xs ys band at j from fits ne h =
    let is = place at in
    record {
      size = h.size;
      each = λ m below. h.each m below ∙ elim (cases_lt j (at / 32768)) [
        | inl a ↦ sym (over_before xs ys at (32768 * j + m) from (omega arith))
        | inr a ↦ let more : at / 32768 < j = omega (arith, ne) in sym (over_after xs ys at (32768 * j + m) from (omega arith))
      ];
    }

pub write_turns : {old new : Space} {root n : ℕ} {r : Raw} (at : ℕ) (bytes : List ℕ) → IsRaw old.pages.at old.bands.at root r → slice_get r.bands (at / 32768) ≡ Some n → HasPlace at (length bytes) r → IsPiece (at % 32768) (length bytes) → IsChanged old.bands new.bands n (λ band. Some (overwritten band (at % 32768) bytes)) → new.pages ≡ old.pages → RawTurns old new root r (with_bytes at bytes r)
write_turns {old} {new} {root} {n} {r} at bytes h e can piece w pages =
    let here = h.part (at / 32768) n e in
    let from = can.from in
    let within = can.within in
    record {
      raw = record {
        first = moved (ap (λ (u : Units Sheet). u.at root) pages) h.first;
        part = λ j b i. elim (cases_eq j (at / 32768)) [
          | inl is ↦
              let same : b ≡ n = same_some b n (sym i ∙ (ap (slice_get r.bands) is ∙ e)) in
              record {
                what = overwritten here.what (at % 32768) bytes;
                is = ap new.bands.at same ∙ w.here here.what here.is;
                has = subst (λ (k : ℕ). IsPart (overwritten r.bytes at bytes) k (overwritten here.what (at % 32768) bytes)) (sym is) (part_over r.bytes bytes here.what at from piece.within here.has);
              }
          | inr ne ↦
              let k = h.part j b i in
              let other : b ≢ n = λ is. ne (h.apart j (at / 32768) n (i ∙ ap Some is) e) in
              record { what = k.what; is = w.others b other ∙ k.is; has = part_beside r.bytes bytes k.what at j from piece.within ne k.has }
        ];
        fit = h.fit;
        apart = h.apart;
        below_peak = h.below_peak;
        few = h.few;
        enough = let long = length_over r.bytes bytes at from in let less = h.enough in omega arith;
      };
      pages = grows_same pages;
      bands = bands_changed r.bands (λ b no. w.others b (λ is. no (at / 32768, e ∙ ap Some (sym is)))) w.free w.count;
    }

pub paint_turns : {old new : Space} {root n : ℕ} {r : Raw} (at count : ℕ) (bytes : List ℕ) → length bytes ≡ count → IsRaw old.pages.at old.bands.at root r → slice_get r.bands (at / 32768) ≡ Some n → HasPlace at count r → IsPiece (at % 32768) count → IsChanged old.bands new.bands n (λ band. Some (overwritten band (at % 32768) bytes)) → new.pages ≡ old.pages → RawTurns old new root r (with_bytes at bytes r)
paint_turns {r = r} at count bytes long h e can piece w pages = write_turns at bytes h e (subst (λ (x : ℕ). HasPlace at x r) (sym long) can) (subst (λ (x : ℕ). IsPiece (at % 32768) x) (sym long) piece) w pages
