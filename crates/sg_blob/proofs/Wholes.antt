-- From what a root and its bands say to a blob, and back.
use Rattle.std.proofs.Common.{◌≡◌, ℕ, ◌+◌, ◌-◌, ◌*◌, ◌/◌, ◌<◌, ◌≤◌, List, [], ◌∷◌, length, slice_index, Option, Some, take, replicate, sym, ap, subst, ◌∙◌, refl, arith, inl, inr, max, min}
use Rattle.std.proofs.lemmas.Bool.{cases_lt}
use Rattle.std.proofs.lemmas.List.{length-append, length-take-le, length-replicate, take_all, get_or-replicate, get_or-take, get_or_past, get_or_append_left, get_or-append_right}
use Rattle.sg_base.specs.Overwritten.{overwritten}
use Rattle.sg_base.specs.Sheet.{Sheet}
use Rattle.sg_ops.specs.Meaning.{RecordMeaning, RangeMeaning}
use Rattle.sg_ops.specs.Shipped.{fill_meaning}
use Rattle.sg_ops.specs.Table.{byte_of, range_at, rendered}
use Rattle.sg_space.proofs.Known.{still}
use Rattle.sg_space.proofs.Owners.{grown}
use Rattle.sg_ops.proofs.Rendering.{length-rendered}
use Rattle.sg_space.specs.View.{View, Space, Keeps, OnlyReads}
use Rattle.sg_blob.specs.Blob.{Blob, raw_of, IsBlob}
use Rattle.sg_blob.specs.Calls.{Turns, HasBandsFor, resized, CanRestore}
use Rattle.sg_blob.specs.Raw.{Raw, IsRaw}
use Rattle.sg_blob.specs.Steps.{HasPlace, CanGrow, IsGrown, RawTurns, with_root}
use Rattle.sg_blob.proofs.Over.{over_before, over_inside, over_after}
use Rattle.sg_blob.proofs.Writing.{rendered_at}

abbrev pub blob_of : Raw → Blob
blob_of r = record { bytes = r.bytes; peak = r.peak; bands = r.bands }

-- a change that ends at a blob
pub whole : {old new : Space} {root : ℕ} {b : Blob} (r : Raw) → RawTurns old new root (raw_of b) r → r.count ≡ length r.bytes → r.peak ≤ 32768 * length r.bands → 32768 * length r.bands < r.peak + 32768 → Turns old new root b (blob_of r)
whole {old} {new} {root} {b} r t e least most = record {
  blob = record { raw = subst (λ (n : ℕ). IsRaw new.pages.at new.bands.at root (record r { count = n })) e t.raw; least = least; most = most };
  pages = grown t.pages;
  bands = grown t.bands;
}

-- other bytes that read the same
pub same_bytes : {old new : Space} {root : ℕ} {r r' : Raw} (ys : List ℕ) → ((k : ℕ) → slice_index r'.bytes k ≡ slice_index ys k) → length ys ≤ 32768 * length r'.bands → RawTurns old new root r r' → RawTurns old new root r (record r' { bytes = ys })
same_bytes ys same fits t = record {
  raw = record {
    first = t.raw.first;
    part = λ j b i. let p = t.raw.part j b i in record { what = p.what; is = p.is; has = record { size = p.has.size; each = λ m below. p.has.each m below ∙ same (32768 * j + m) } };
    fit = t.raw.fit;
    apart = t.raw.apart;
    below_peak = t.raw.below_peak;
    few = t.raw.few;
    enough = fits;
  };
  pages = t.pages;
  bands = t.bands;
}

pub has_still : {v w : View} {root size : ℕ} {b : Blob} → OnlyReads v w → v.Shows → HasBandsFor v root size b → HasBandsFor w root size b
has_still {size = size} {b = b} k shows h = record {
  free = still (λ (s : Space). size ≤ 32768 * (length b.bands + s.bands.free)) k shows h.free;
  may_take = λ more. k.keeps.may_take (h.may_take more);
  may_fill = λ more n le. k.keeps.may_have _ n (h.may_fill more n le);
}

-- the bands that a blob has, and those that it will want
pub can_grow : {v : View} {root size have want peak : ℕ} {b : Blob} → b.peak ≤ 32768 * length b.bands → 32768 * length b.bands < b.peak + 32768 → HasBandsFor v root size b → peak ≡ b.peak → have ≡ (peak + 32767) / 32768 → want ≡ (max peak size + 32767) / 32768 → (r : Raw) → r.bands ≡ b.bands → CanGrow v root have want r
can_grow {v} {root} {size} {have} {want} {peak} {b} least most can p e f r same =
    let free = can.free in
    let long : length r.bands ≡ length b.bands = ap (λ (xs : List ℕ). length xs) same in
    record {
      behind = omega arith;
      free = omega arith;
      may_take = λ more. can.may_take (omega arith);
      may_fill = λ more. can.may_fill (omega arith);
    }

-- zeros behind a place
pub cut_reads : (op : Option RangeMeaning) (bytes : List ℕ) (n from : ℕ) → from ≡ min (length bytes) n → ((k : ℕ) → slice_index (rendered op [] from (length bytes - from)) k ≡ 0) → (k : ℕ) → slice_index (overwritten bytes from (rendered op [] from (length bytes - from))) k ≡ slice_index (resized n bytes) k
cut_reads op bytes n from is zeros k =
    let inside : from ≤ length bytes = omega arith in
    let long = length-rendered op [] from (length bytes - from) in
    let all = length-append (take n bytes) (replicate (n - length bytes) 0) in
    let rest = length-replicate {A = ℕ} (n - length bytes) 0 in
    elim (cases_lt k from) [
      | inl a ↦
          let front : k < length (take n bytes) = elim (cases_lt n (length bytes)) [
            | inl x ↦ let t = length-take-le n bytes (omega arith) in omega arith
            | inr x ↦ rw (take_all n bytes x) (omega arith)
          ] in
          over_before bytes (rendered op [] from (length bytes - from)) from k inside a
          ∙ sym (get_or_append_left (take n bytes) (replicate (n - length bytes) 0) 0 k front ∙ get_or-take n bytes k 0 (omega arith))
      | inr a ↦
          let left : slice_index (overwritten bytes from (rendered op [] from (length bytes - from))) k ≡ 0 = elim (cases_lt k (length bytes)) [
            | inl x ↦
                let e : from + (k - from) ≡ k = omega arith in
                ap (λ (i : ℕ). slice_index (overwritten bytes from (rendered op [] from (length bytes - from))) i) (sym e)
                ∙ (over_inside bytes (rendered op [] from (length bytes - from)) from (k - from) inside (omega arith) ∙ zeros (k - from))
            | inr x ↦ over_after bytes (rendered op [] from (length bytes - from)) from k inside (omega arith) ∙ get_or_past bytes k 0 x
          ] in
          left ∙ sym (elim (cases_lt n (length bytes)) [
            | inl x ↦
                let t = length-take-le n bytes (omega arith) in
                get_or_past (resized n bytes) k 0 (omega arith)
            | inr x ↦
                let t : length (take n bytes) ≡ length bytes = ap (λ (xs : List ℕ). length xs) (take_all n bytes x) in
                get_or-append_right (take n bytes) (replicate (n - length bytes) 0) (length bytes) k 0 t (omega arith)
                ∙ elim (cases_lt (k - length bytes) (n - length bytes)) [
                  | inl y ↦ get_or-replicate (n - length bytes) (k - length bytes) 0 0 y
                  | inr y ↦ get_or_past (replicate (n - length bytes) 0) (k - length bytes) 0 (omega arith)
                ]
          ])
    ]

pub length_resized : (n : ℕ) (bytes : List ℕ) → length (resized n bytes) ≡ n
length_resized n bytes =
    let all = length-append (take n bytes) (replicate (n - length bytes) 0) in
    let rest = length-replicate {A = ℕ} (n - length bytes) 0 in
    elim (cases_lt n (length bytes)) [
      | inl x ↦ let t = length-take-le n bytes (omega arith) in omega arith
      | inr x ↦ let t : length (take n bytes) ≡ length bytes = ap (λ (xs : List ℕ). length xs) (take_all n bytes x) in omega arith
    ]

pub has_after : {v w : View} {root size : ℕ} {b : Blob} {r r' : Raw} → RawTurns v.space w.space root r r' → length r'.bands ≡ length r.bands → Keeps v w → HasBandsFor v root size b → HasBandsFor w root size b
has_after t same k h =
    let exactly = t.bands.exactly in
    let free = h.free in
    record { free = omega arith; may_take = λ more. k.may_take (h.may_take more); may_fill = λ more n le. k.may_have _ n (h.may_fill more n le) }

-- where there are bands for the bytes, they have a place
pub place_grown : {want size at count : ℕ} {r : Raw} (b : Blob) (peak : ℕ) → IsGrown want (raw_of b) r → want ≡ (max peak size + 32767) / 32768 → at + count ≡ size → at ≤ length b.bytes → HasPlace at count r
place_grown {r = r} b peak g e is from =
    let same : length r.bytes ≡ length b.bytes = ap (λ (xs : List ℕ). length xs) g.same_bytes in
    let long = g.long in
    record { from = omega arith; within = omega arith }

-- `fill` has the code 1 in each table
pub fill_there : (records : List RecordMeaning) (ranges : List RangeMeaning) → range_at (record { records = records; ranges = fill_meaning ∷ ranges }) 1 ≡ Some fill_meaning
unfolding range_at
fill_there records ranges = refl

pub fill_zero : (op : Option RangeMeaning) → op ≡ Some fill_meaning → (pos count k : ℕ) → slice_index (rendered op [] pos count) k ≡ 0
unfolding byte_of
fill_zero op e pos count k = elim (cases_lt k count) [
  | inl a ↦ rendered_at op [] pos count k a ∙ ap (λ (m : Option RangeMeaning). byte_of m [] (pos + k)) e
  | inr a ↦ let long = length-rendered op [] pos count in get_or_past (rendered op [] pos count) k 0 (omega arith)
]

pub cut_at : (op : Option RangeMeaning) (bytes xs : List ℕ) (n from count : ℕ) → op ≡ Some fill_meaning → count ≡ length bytes → from ≡ min count n → xs ≡ overwritten bytes from (rendered op [] from (count - from)) → (k : ℕ) → slice_index xs k ≡ slice_index (resized n bytes) k
cut_at op bytes xs n from count fill e is x k =
    ap (λ (zs : List ℕ). slice_index zs k) x
    ∙ (ap (λ (m : ℕ). slice_index (overwritten bytes from (rendered op [] from (m - from))) k) e
    ∙ cut_reads op bytes n from (is ∙ ap (λ (m : ℕ). min m n) e) (fill_zero op fill from (length bytes - from)) k)

pub restored_blob : {pages : ℕ → Option Sheet} {bands : ℕ → Option (List ℕ)} {root size : ℕ} {r : Raw} → CanRestore size r → IsRaw pages bands root (with_root size r.peak r) → IsBlob pages bands root (blob_of r)
restored_blob {pages} {bands} {root} {size} {r} can h = record {
  raw = subst (λ (n : ℕ). IsRaw pages bands root (record r { count = n })) (sym can.long) h;
  least = can.least;
  most = can.most;
}
