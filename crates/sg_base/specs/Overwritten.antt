-- A part of a list written over.
use Rattle.std.specs.Prelude.{◌≡◌, ℕ, ◌+◌, ◌<◌, ◌≤◌, ◌⊎◌, List, ◌++◌, length, take, drop, slice_index}

-- the list with `bytes` from place `at` on, whatever stood there: those before, those given, those after
abbrev pub overwritten : List ℕ → ℕ → List ℕ → List ℕ
overwritten xs at bytes = take at xs ++ bytes ++ drop (at + length bytes) xs

-- two lists that differ nowhere but, it may be, in the `count` bytes from `at` on
pub record IsSameOutside (at count : ℕ) (xs ys : List ℕ) : Type 0 where
  pub long : length xs ≡ length ys
  pub same : (k : ℕ) → (k < at) ⊎ (at + count ≤ k) → slice_index xs k ≡ slice_index ys k

-- these bytes were written from place `at` on, and `next` is the place behind them
pub record Wrote (old : List ℕ) (at : ℕ) (bytes new : List ℕ) (next : ℕ) : Type 0 where
  pub written : new ≡ overwritten old at bytes
  pub place : next ≡ at + length bytes
