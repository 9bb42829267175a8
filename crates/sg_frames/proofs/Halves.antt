-- A list that is cut before place j, with an element set in each half.
use Rattle.std.proofs.Common.{◌≡◌, ◌<◌, ℕ, List, ◌++◌, length, take, drop, get_or, set, arith, add-zero}
use Rattle.std.proofs.lemmas.List.{take-append-drop, take-set, drop-set-add, drop-set-lt}
use Rattle.std.proofs.Math.Seq.{take-set-lt}
use Rattle.std.proofs.lemmas.Grind.{common_steps}

-- the second half's first element is the one at j
pub set_back : {X : Type 0} (xs : List X) (j : ℕ) (y : X) → take j xs ++ set (drop j xs) 0 y ≡ set xs j y
set_back {X} xs j y =
    let front : take j (set xs j y) ≡ take j xs = take-set xs j y in
    let back : drop j (set xs j y) ≡ set (drop j xs) 0 y = rw add-zero at (drop-set-add {A = X} j xs 0 y) in
    let whole : take j (set xs j y) ++ drop j (set xs j y) ≡ set xs j y = take-append-drop j (set xs j y) in
    cc

pub set_halves : {X : Type 0} (xs : List X) (i j : ℕ) (x y : X) → i < j → set (take j xs) i x ++ set (drop j xs) 0 y ≡ set (set xs i x) j y
set_halves {X} xs i j x y below =
    let front : take j (set xs i x) ≡ set (take j xs) i x = take-set-lt j xs i x below in
    let back : drop j (set xs i x) ≡ drop j xs = drop-set-lt j xs i x below in
    let whole : take j (set xs i x) ++ set (drop j (set xs i x)) 0 y ≡ set (set xs i x) j y = set_back (set xs i x) j y in
    cc

-- an element that was read from a half
pub read_front : {X : Type 0} (xs : List X) (i j : ℕ) (x d : X) → i < j → j < length xs → x ≡ get_or (take j xs) i x → x ≡ get_or xs i d
read_front xs i j x d below within is = grind (arith, common_steps)

pub read_back : {X : Type 0} (xs : List X) (j : ℕ) (x d : X) → j < length xs → x ≡ get_or (drop j xs) 0 x → x ≡ get_or xs j d
read_back xs j x d within is = grind (arith, common_steps)
