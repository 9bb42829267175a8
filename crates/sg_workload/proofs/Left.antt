-- What is left of a workload, by what the opening has at a place.
use Rattle.std.proofs.Common.{◌≡◌, ℕ, zero, suc, ◌+◌, ◌≤◌, Bool, List, [], ◌∷◌, ◌++◌, codes, drop, Option, Some, None, option_map, slice_get, refl, ap, sym, ◌∙◌, add-one, arith}
use Rattle.rand_pcg.specs.Lcg.{Lcg}
use Rattle.sg_workload.specs.Lines.{opening, closing, drawn_lines}

-- a line with its LF
abbrev pub with_lf : List ℕ → List ℕ
with_lf line = line ++ codes "\n"

-- what a list has at a place is the first of what is left from there on
pub drop-at : {A : Type 0} (xs : List A) (i : ℕ) (x : A) → slice_get xs i ≡ Some x → drop i xs ≡ x ∷ drop (i + 1) xs
drop-at [] i x e = cc
drop-at (y ∷ xs) zero x e = let same : y ≡ x = cc in ap (λ z. z ∷ xs) same
drop-at (y ∷ xs) (suc i) x e = rw add-one (rw add-one at (drop-at xs i x e))

-- where it has nothing at a place, nothing is left from there on
pub drop-past : {A : Type 0} (xs : List A) (i : ℕ) → slice_get xs i ≡ None → drop i xs ≡ []
drop-past [] zero e = refl
drop-past [] (suc i) e = refl
drop-past (y ∷ xs) zero e = cc
drop-past (y ∷ xs) (suc i) e = drop-past xs i e

-- what is found with its LF, without it
pub with_lf-found : (found : Option (List ℕ)) (line : List ℕ) → Some line ≡ option_map with_lf found → (text : List ℕ) × (found ≡ Some text) × (line ≡ with_lf text)
with_lf-found None line e = cc
with_lf-found (Some text) line e = (text, refl, cc)

pub with_lf-none : (found : Option (List ℕ)) → None ≡ option_map with_lf found → found ≡ None
with_lf-none None e = refl
with_lf-none (Some text) e = cc

-- a line of the opening is the first of the lines that are left
pub opening-first : (i : ℕ) (line : List ℕ) (rest : List (List ℕ)) → Some line ≡ option_map with_lf (slice_get opening i)
    → (text : List ℕ) × (drop i opening ++ rest ≡ text ∷ (drop (i + 1) opening ++ rest)) × (line ≡ with_lf text)
opening-first i line rest e =
    let found = with_lf-found (slice_get opening i) line e in
    (found.0, ap (λ lines. lines ++ rest) (drop-at opening i found.0 found.1), found.2)

-- behind the opening the lines that are drawn are left
pub opening-over : (i : ℕ) (rest : List (List ℕ)) → None ≡ option_map with_lf (slice_get opening i) → drop i opening ++ rest ≡ rest
opening-over i rest e = ap (λ lines. lines ++ rest) (drop-past opening i (with_lf-none (slice_get opening i) e))

-- where none is to be drawn the closing is left
pub drawn_lines-over : (left : ℕ) (live : List Bool) (random : Lcg) → left ≤ 0 → drawn_lines left live random ≡ closing live
unfolding drawn_lines
drawn_lines-over zero live random e = refl
drawn_lines-over (suc n) live random e = absurd (omega arith)

-- the first of the lines behind the opening is the first of all that are left, where the opening is over
pub first-behind : (i j : ℕ) (lines rest : List (List ℕ)) (line : List ℕ) → None ≡ option_map with_lf (slice_get opening i) → lines ≡ line ∷ rest → j ≡ i
    → drop i opening ++ lines ≡ line ∷ (drop j opening ++ rest)
first-behind i j lines rest line over first same =
    opening-over i lines over ∙ first ∙ ap (λ more. line ∷ more) (sym (ap (λ k. drop k opening ++ rest) same ∙ opening-over i rest over))

-- the commit that comes first of the closing, where none is to be drawn
pub closing-first : (left : ℕ) (live now : List Bool) (random : Lcg) (line : List ℕ) → left ≤ 0 → closing live ≡ line ∷ closing now
    → drawn_lines left live random ≡ line ∷ drawn_lines left now random
closing-first left live now random line none first =
    drawn_lines-over left live random none ∙ first ∙ ap (λ lines. line ∷ lines) (sym (drawn_lines-over left now random none))
