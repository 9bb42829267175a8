-- What writes of parts of a page leave, as functions of the page.
use Rattle.std.proofs.Common.{◌≡◌, ℕ, ◌+◌, ◌-◌, ◌^◌, ◌<◌, ◌≤◌, inl, inr, List, [], length, take, drop, set, refl, sym, ap, ◌∙◌, subst, arith, length-set, length-drop}
use Rattle.std.proofs.lemmas.List.{take-set-le, drop-set-lt, length-take-le, drop-take}
use borrow.Rule.Slice.PartMut.{put_mid}
use Rattle.byteorder.specs.Endian.{little_bytes, little_number}
use Rattle.byteorder.specs.Numbers.{little_number-reads_back}
use Rattle.sg_base.specs.Overwritten.{overwritten}
use Rattle.sg_base.specs.Page.{bytes_at, number_at}
use Rattle.sg_base.proofs.Overwriting.{overwritten_by_part}
use Rattle.sg_slotted.specs.Layout.{with_u16}
use Rattle.sg_slotted.specs.Writes.{KeepsOutside}
use Rattle.sg_slotted.proofs.Outside.{others_kept, bytes_are}

part_long : (p ys : List ℕ) (at : ℕ) → at + length ys ≤ length p → length ys ≡ length (take (at + length ys - at) (drop at p))
part_long p ys at within = sym (length-take-le (at + length ys - at) (drop at p) (omega (arith, length-drop at p)) ∙ omega arith)

as_part : (p ys : List ℕ) (at : ℕ) → put_mid at (at + length ys - at) p ys ≡ overwritten p at ys
as_part p ys at = overwritten_by_part p ys ys at (at + length ys - at) refl (omega arith)

-- all else stays
pub wrote : (p ys : List ℕ) (at : ℕ) → at + length ys ≤ length p → KeepsOutside p (overwritten p at ys) at (at + length ys)
wrote p ys at within = subst (λ (q : List ℕ). KeepsOutside p q at (at + length ys)) (as_part p ys at) (others_kept p ys at (length ys) within (part_long p ys at within))

-- and the bytes are there
pub found : (p ys : List ℕ) (at : ℕ) → at + length ys ≤ length p → bytes_at (overwritten p at ys) at (length ys) ≡ ys
found p ys at within = subst (λ (q : List ℕ). bytes_at q at (length ys) ≡ ys) (as_part p ys at) (bytes_are p ys at (length ys) within (part_long p ys at within))

two_back : (n : ℕ) → n < 2 ^ 16 → little_number 2 (little_bytes 2 n) ≡ n
two_back n small = little_number-reads_back 2 n [] small

-- a number of 2 bytes
pub wrote_u16 : (p : List ℕ) (at n : ℕ) → at + 2 ≤ length p → KeepsOutside p (with_u16 p at n) at (at + 2)
wrote_u16 p at n within = wrote p (little_bytes 2 n) at within

pub found_u16 : (p : List ℕ) (at n : ℕ) → at + 2 ≤ length p → n < 2 ^ 16 → number_at (with_u16 p at n) at 2 ≡ n
unfolding number_at
found_u16 p at n within small = ap (little_number 2) (found p (little_bytes 2 n) at within) ∙ two_back n small

-- one byte
pub wrote_u8 : (p : List ℕ) (at byte : ℕ) → KeepsOutside p (set p at byte) at (at + 1)
unfolding bytes_at
wrote_u8 p at byte = record {
  size = length-set p at byte;
  same = λ a n outside. elim outside [
    | inl below ↦ sym (drop-take a n (set p at byte)) ∙ (ap (drop a) (take-set-le (a + n) p at byte below) ∙ drop-take a n p)
    | inr above ↦ ap (take n) (drop-set-lt a p at byte (omega arith))
  ];
}
