-- The first of several pages that may be none, by chunks.
use Rattle.std.proofs.Common.{◌≡◌, ◌+◌, ◌-◌, ◌*◌, ◌/◌, ◌%◌, ◌<◌, ◌≤◌, ℕ, zero, suc, min, List, length, slice_index_or, sym, ◌∙◌, ap, subst, ⊎_elim, arith}
use Rattle.std.proofs.lemmas.Bool.{cases_lt}
use Rattle.std.proofs.lemmas.Nat.{div-add-mod', mod_below}
use Rattle.std.specs.Fork.{IsChunk}
use Rattle.sg_frames.specs.Held.{Lent}
use Rattle.sg_redo.specs.Well.{IsWell, AreWellBelow, IsFirstBad}

-- what a chunk has at an index, its list has that far behind its start
chunk_at : (loans part : List Lent) (size start k : ℕ) (d : Lent) → IsChunk loans size start part → start ≤ k → k - start < length part → slice_index_or part (k - start) d ≡ slice_index_or loans k d
chunk_at loans part size start k d chunk low within = chunk.elements (k - start) d within ∙ ap (λ n. slice_index_or loans n d) (let e : start + (k - start) ≡ k = omega arith in e)

-- what holds of the front of a chunk and of all before the chunk holds of both
pub well_on : (loans part : List Lent) (size start i : ℕ) → IsChunk loans size start part → i ≤ length part → AreWellBelow part i → AreWellBelow loans start → AreWellBelow loans (start + i)
well_on loans part size start i chunk most front before k d below within =
    ⊎_elim (λ low. before k d low within)
    (λ high.
    let j<i : k - start < i = omega arith in
    let j<end : k - start < length part = omega arith in
    let P : Lent → Type 0 = λ l. IsWell l.bytes in
    subst P (chunk_at loans part size start k d chunk high j<end) (front (k - start) d j<i j<end))
    (cases_lt k start)

-- a chunk of which all may be pages leads to the next one
pub well_through : (loans part : List Lent) (size n : ℕ) → IsChunk loans size (n * size) part → AreWellBelow part (length part) → AreWellBelow loans (n * size) → AreWellBelow loans ((n + 1) * size)
well_through loans part size n chunk all before k d below within =
    let len : length part ≡ min size (length loans - n * size) = chunk.len in
    let next : (n + 1) * size ≡ n * size + size = grind arith in
    let there : k < n * size + length part = grind arith in
    well_on loans part size (n * size) (length part) chunk (let h : length part ≤ length part = omega arith in h) all before k d there within

-- the first of a chunk is the first of all, where all before the chunk may be pages
pub first_on : (loans part : List Lent) (size start i : ℕ) → IsChunk loans size start part → IsFirstBad part i → AreWellBelow loans start → IsFirstBad loans (start + i)
first_on loans part size start i chunk first before = record {
  within = let i<part : i < length part = first.within in let part<all : start + length part ≤ length loans = chunk.in_bounds in omega arith;
  bad = λ d well. let i<part : i < length part = first.within in let P : Lent → Type 0 = λ l. IsWell l.bytes in first.bad d (subst P (sym (chunk.elements i d first.within)) well);
  before = well_on loans part size start i chunk (let h : i < length part = first.within in omega arith) first.before before;
}

-- so many chunks reach to the end
reach : (q r n size m : ℕ) → q * size + r ≡ n → r < size → m ≡ q + min 1 r → n ≤ m * size
reach q zero n size m all less is = grind arith
reach q (suc r) n size m all less is =
    let one : m ≡ q + 1 = omega arith in
    let next : (q + 1) * size ≡ q * size + size = grind arith in
    grind arith

pub all_well : (loans : List Lent) (size m : ℕ) → 0 < size → m ≡ length loans / size + min 1 (length loans % size) → AreWellBelow loans (m * size) → AreWellBelow loans (length loans)
all_well loans size m some count all k d below within =
    let to_end : length loans ≤ m * size = reach (length loans / size) (length loans % size) (length loans) size m (div-add-mod' (length loans) size) (mod_below (length loans) size some) count in
    all k d (omega arith) within
