-- How many pieces a range of a blob is written in.
use Rattle.std.proofs.Common.{◌≡◌, ℕ, ◌+◌, ◌-◌, ◌*◌, ◌/◌, ◌%◌, ◌<◌, ◌≤◌, ◌⊎◌, min, arith, inl, inr}
use Rattle.std.proofs.lemmas.Bool.{cases_lt}

-- `done` of `count` bytes from byte `at` on were written, in `pieces` pieces: each is of 8,192 bytes, but for one that ends where a
-- band does, behind which all are whole, and for the last
pub record ArePieces (at done count pieces : ℕ) : Type 0 where
  pub few : done < count → 8192 * pieces ≤ done + 8191
  pub even : done < count → (8192 * pieces ≤ done) ⊎ ((at + done) % 8192 ≡ 0)
  pub all : 8192 * pieces ≤ done + 16383

-- the records that were written so far
pub record HasPieces (old now at done count : ℕ) : Type 0 where
  pub pieces : ℕ
  pub each : now ≤ old + pieces
  pub are : ArePieces at done count pieces

pub pieces_none : (old at count : ℕ) → HasPieces old old at 0 count
pieces_none old at count = record {
  pieces = 0;
  each = omega arith;
  are = record { few = λ less. omega arith; even = λ less. inl (omega arith); all = omega arith };
}

-- where the next piece isn't of 8,192 bytes and isn't the last, it ends where a band does
even_on : (at done count pieces n : ℕ) → ArePieces at done count pieces → done < count → n ≡ min (min (32768 - (at + done) % 32768) 8192) (count - done) → done + n < count → (8192 * (pieces + 1) ≤ done + n) ⊎ ((at + (done + n)) % 8192 ≡ 0)
even_on at done count pieces n p less is more = elim (p.even less) as (λ _. (8192 * (pieces + 1) ≤ done + n) ⊎ ((at + (done + n)) % 8192 ≡ 0)) [
  | inl few ↦ elim (cases_lt n 8192) as (λ _. (8192 * (pieces + 1) ≤ done + n) ⊎ ((at + (done + n)) % 8192 ≡ 0)) [
    | inl short ↦ inr (omega arith)
    | inr whole ↦ inl (omega arith)
  ]
  | inr even ↦ inr (omega arith)
]

few_on : (at done count pieces n : ℕ) → ArePieces at done count pieces → done < count → n ≡ min (min (32768 - (at + done) % 32768) 8192) (count - done) → done + n < count → 8192 * (pieces + 1) ≤ done + n + 8191
few_on at done count pieces n p less is more = elim (p.even less) as (λ _. 8192 * (pieces + 1) ≤ done + n + 8191) [
  | inl few ↦ omega arith
  | inr even ↦ let few = p.few less in omega arith
]

pub pieces_on : (old mid now at done count n : ℕ) → HasPieces old mid at done count → done < count → n ≡ min (min (32768 - (at + done) % 32768) 8192) (count - done) → now ≤ mid + 1 → HasPieces old now at (done + n) count
pieces_on old mid now at done count n h less is one = record {
  pieces = h.pieces + 1;
  each = let each = h.each in omega arith;
  are = record {
    few = λ more. few_on at done count h.pieces n h.are less is more;
    even = λ more. even_on at done count h.pieces n h.are less is more;
    all = let few = h.are.few less in omega arith;
  };
}

-- AT MOST ONE PIECE FOR EACH 8,192 BYTES, AND TWO
pub pieces_all : (old now at done count : ℕ) → HasPieces old now at done count → done ≤ count → now ≤ old + (count / 8192 + 2)
pieces_all old now at done count h within =
    let each = h.each in
    let all = h.are.all in
    omega arith

-- also with the one that failed
pub pieces_one : (old mid now at done count : ℕ) → HasPieces old mid at done count → done < count → now ≤ mid + 1 → now ≤ old + (count / 8192 + 2)
pieces_one old mid now at done count h less one =
    let each = h.each in
    let few = h.are.few less in
    omega arith
