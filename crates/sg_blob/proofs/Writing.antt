-- A walk over the pieces of a write.
use Rattle.std.proofs.Common.{◌≡◌, ℕ, ◌+◌, ◌-◌, ◌<◌, ◌≤◌, ◌++◌, List, [], length, slice_index, Option, take, drop, sym, ap, ◌∙◌, refl, arith, inl, inr}
use Rattle.std.proofs.lemmas.Bool.{cases_lt}
use Rattle.std.proofs.lemmas.Grind.{same_number_lists}
use Rattle.std.proofs.lemmas.List.{length-append, get_or_append_left, get_or-append_right}
use Rattle.std.proofs.Math.Seq.{take-add}
use Rattle.std.proofs.lemmas.List.FromFn.{get_or-map-range_with_len}
use Rattle.sg_base.specs.Overwritten.{overwritten}
use Rattle.sg_ops.specs.Meaning.{RangeMeaning}
use Rattle.sg_ops.specs.Table.{byte_of, rendered}
use Rattle.sg_ops.proofs.Rendering.{length-rendered}
use Rattle.sg_space.specs.View.{View}
use Rattle.sg_blob.specs.Raw.{Raw}
use Rattle.sg_blob.specs.Steps.{Did, HasPlace, with_bytes}
use Rattle.sg_blob.proofs.Over.{length_over, over_twice, over_none}
use Rattle.sg_blob.proofs.Turned.{did_none, did_then}

-- so many of so many bytes have been written
pub record WritesTo (v w : View) (root : ℕ) (Can : Raw → Type 0) (f : Raw → Raw) (done most : ℕ) : Type 0 where
  pub back : w.Told → v.Told
  pub later : v.faults ≤ w.faults
  pub within : done ≤ most
  pub did : Did v w root Can f

pub place_on : {at len d n : ℕ} (front : List ℕ) (r : Raw) → HasPlace at len r → length front ≡ d → d + n ≤ len → HasPlace (at + d) n (with_bytes at front r)
place_on {at} {len} {d} {n} front r h is room =
    let from = h.from in
    let within = h.within in
    let long = length_over r.bytes front at from in
    record { from = omega arith; within = omega arith }

pub writes_none : {v : View} {root at len : ℕ} (front : List ℕ) → front ≡ [] → WritesTo v v root (HasPlace at len) (with_bytes at front) 0 len
writes_none {at = at} front none = record {
  back = λ t. t;
  later = omega arith;
  within = omega arith;
  did = did_none (λ r h. ap (λ (xs : List ℕ). record r { bytes = xs }) (ap (overwritten r.bytes at) none ∙ over_none r.bytes at h.from));
}

pub writes_on : {u v w : View} {root at d len : ℕ} (n m : ℕ) (front piece whole : List ℕ) → length front ≡ d → d + n ≤ len → m ≡ n → whole ≡ front ++ piece → WritesTo u v root (HasPlace at len) (with_bytes at front) d len → (w.Told → v.Told) → v.faults ≤ w.faults → Did v w root (HasPlace (at + d) m) (with_bytes (at + d) piece) → WritesTo u w root (HasPlace at len) (with_bytes at whole) (d + n) len
writes_on {u} {v} {w} {root} {at} {d} {len} n m front piece whole is room same e i told later did =
    let before = i.later in
    record {
      back = λ t. i.back (told t);
      later = omega arith;
      within = room;
      did = did_then i.did did
          (λ r can. place_on front r can is (omega arith))
          (λ r can. ap (λ (xs : List ℕ). record r { bytes = xs })
          (ap (λ (ys : List ℕ). overwritten r.bytes at ys) e ∙ sym (over_twice r.bytes front piece at d can.from (sym is))));
    }

pub front_and_piece : (ys : List ℕ) (d n : ℕ) → take (d + n) ys ≡ take d ys ++ take (d + n - d) (drop d ys)
front_and_piece ys d n = take-add d n ys ∙ ap (λ (k : ℕ). take d ys ++ take k (drop d ys)) (let e : n ≡ d + n - d = omega arith in e)

pub rendered_at : (op : Option RangeMeaning) (arg : List ℕ) (pos count k : ℕ) → k < count → slice_index (rendered op arg pos count) k ≡ byte_of op arg (pos + k)
unfolding rendered
rendered_at op arg pos count k below = get_or-map-range_with_len _ 0 count k k 0 below (omega arith)

pub rendered_none : (op : Option RangeMeaning) (arg : List ℕ) (pos : ℕ) → rendered op arg pos 0 ≡ []
unfolding rendered
rendered_none op arg pos = refl

pub rendered_on : (op : Option RangeMeaning) (arg : List ℕ) (pos d n : ℕ) → rendered op arg pos (d + n) ≡ rendered op arg pos d ++ rendered op arg (pos + d) n
rendered_on op arg pos d n =
    let a = length-rendered op arg pos (d + n) in
    let b = length-rendered op arg pos d in
    let c = length-rendered op arg (pos + d) n in
    let s = length-append (rendered op arg pos d) (rendered op arg (pos + d) n) in
    same_number_lists (rendered op arg pos (d + n)) (rendered op arg pos d ++ rendered op arg (pos + d) n) (omega arith) (λ k below.
    let all : k < d + n = omega arith in
    rendered_at op arg pos (d + n) k all ∙ elim (cases_lt k d) [
      | inl x ↦ sym (get_or_append_left (rendered op arg pos d) (rendered op arg (pos + d) n) 0 k (omega arith) ∙ rendered_at op arg pos d k x)
      | inr x ↦
          let e : pos + d + (k - d) ≡ pos + k = omega arith in
          sym (get_or-append_right (rendered op arg pos d) (rendered op arg (pos + d) n) d k 0 b x ∙ (rendered_at op arg (pos + d) n (k - d) (omega arith) ∙ ap (λ (j : ℕ). byte_of op arg j) e))
    ])
