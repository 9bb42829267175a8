-- The lines of the opening by their places.
use Rattle.std.proofs.Common.{◌≡◌, ℕ, zero, suc, ◌-◌, ◌<◌, ◌≤◌, List, [], ◌∷◌, ◌++◌, codes, subst, refl, arith, Some, None, slice_get}
use Rattle.std.proofs.Math.ListN.{replicate}
use Rattle.std.proofs.lemmas.Option.{slice_get_past}
use Rattle.sg_workload.specs.Lines.{opening}

-- each of so many equal elements at the front of a list is that one
pub slice_get-copies : (n i : ℕ) (text : List ℕ) (rest : List (List ℕ)) → i < n → slice_get (replicate n text ++ rest) i ≡ Some text
slice_get-copies zero i text rest h = absurd (omega arith)
slice_get-copies (suc n) zero text rest h = refl
slice_get-copies (suc n) (suc i) text rest h = slice_get-copies n i text rest (omega arith)

abbrev pub push : List ℕ
push = codes "s push a x:0000000000000000"

-- the lines at the places 5 to 68 are the pushes
pub opening-push : (i : ℕ) → 5 ≤ i → i ≤ 68 → slice_get opening i ≡ Some push
opening-push i least most =
    let at : suc (suc (suc (suc (suc (i - 5))))) ≡ i = omega arith in
    let P : ℕ → Type 0 = λ n. slice_get opening n ≡ Some push in
    subst P at (slice_get-copies 64 (i - 5) push (codes "s commit" ∷ []) (omega arith))

-- none is behind place 69
pub opening-end : (i : ℕ) → 70 ≤ i → slice_get opening i ≡ None
opening-end i h = slice_get_past opening i h
