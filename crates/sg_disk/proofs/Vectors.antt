-- Writing into a vector, and writing back what stood there.
use Rattle.std.proofs.Common.{◌≡◌, ⊎_elim, ℕ, ◌+◌, ◌-◌, ◌<◌, ◌≤◌, List, ◌++◌, length, take, drop, get_or, refl, sym, ◌∙◌, ap, arith, length-append, length-take, length-drop, get_or-take, get_or-drop}
use Rattle.std.proofs.Math.ListN.{get_or-append}
use Rattle.std.proofs.Math.Seq.{get_or-append_right}
use Rattle.std.proofs.lemmas.Bool.{cases_lt}
use Rattle.sg_disk.specs.Disk.{Bytes, put, cut}
use Rattle.sg_disk.specs.Memory.{bytes_of}
use Rattle.sg_disk.proofs.Images.{put_outside, cut_outside, cut_inside, past_end}
use Rattle.sg_disk.proofs.Parts.{put_inside}

-- a number from there on is that plus some number
from : (at i : ℕ) → at ≤ i → at + (i - at) ≡ i
from at i le = omega arith

pub put_within : (at : ℕ) (ys : List ℕ) (f : Bytes) (i d : ℕ) → at ≤ i → i < at + length ys → put at ys f i ≡ get_or ys (i - at) d
put_within at ys f i d low high = ap (put at ys f) (sym (from at i low)) ∙ put_inside at ys f (i - at) d (omega arith)

pub over : (xs ys : List ℕ) (at : ℕ) → at + length ys ≤ length xs → (i : ℕ) → bytes_of ((take at xs ++ ys) ++ drop (at + length ys) xs) i ≡ put at ys (bytes_of xs) i
over xs ys at fits i =
    let front : length (take at xs ++ ys) ≡ at + length ys = omega (arith, length-append (take at xs) ys, length-take at xs) in
    let short : length (take at xs) ≡ at = omega (arith, length-take at xs) in
    ⊎_elim
    (λ before. get_or-append (take at xs ++ ys) (drop (at + length ys) xs) 0 i (omega arith) ∙ ⊎_elim
    (λ first. get_or-append (take at xs) ys 0 i (omega arith) ∙ get_or-take at xs i 0 first ∙ sym (put_outside at ys (bytes_of xs) i (λ low high. absurd (omega arith))))
    (λ within. get_or-append_right (take at xs) ys i 0 (omega arith) ∙ ap (λ (k : ℕ). get_or ys (i - k) 0) short ∙ sym (put_within at ys (bytes_of xs) i 0 within before))
    (cases_lt i at))
    (λ behind. get_or-append_right (take at xs ++ ys) (drop (at + length ys) xs) i 0 (omega arith) ∙ ap (λ (k : ℕ). get_or (drop (at + length ys) xs) (i - k) 0) front
    ∙ get_or-drop (at + length ys) xs (i - (at + length ys)) 0 ∙ ap (bytes_of xs) (from (at + length ys) i behind) ∙ sym (put_outside at ys (bytes_of xs) i (λ low high. absurd (omega arith))))
    (cases_lt i (at + length ys))

pub put_same : (at : ℕ) (ys : List ℕ) (f g : Bytes) (i : ℕ) → f i ≡ g i → put at ys f i ≡ put at ys g i
put_same at ys f g i same = rw same refl

-- what stood there, put back
pub back : (xs ys old : List ℕ) (at : ℕ) → length old ≡ length ys → ((k : ℕ) → k < length ys → get_or old k 0 ≡ get_or xs (at + k) 0) → (g : Bytes) → ((i : ℕ) → g i ≡ put at ys (bytes_of xs) i) → (i : ℕ) → put at old g i ≡ bytes_of xs i
back xs ys old at size was g is i = ⊎_elim
    (λ first. put_outside at old g i (λ low high. absurd (omega arith)) ∙ is i ∙ put_outside at ys (bytes_of xs) i (λ low high. absurd (omega arith)))
    (λ low. ⊎_elim
    (λ high. put_within at old g i 0 low (omega arith) ∙ was (i - at) (omega arith) ∙ ap (bytes_of xs) (from at i low))
    (λ behind. put_outside at old g i (λ low high. absurd (omega arith)) ∙ is i ∙ put_outside at ys (bytes_of xs) i (λ low high. absurd (omega arith)))
    (cases_lt i (at + length ys)))
    (cases_lt i at)

pub back_slice : (xs ys old : List ℕ) (at : ℕ) → at + length ys ≤ length xs → old ≡ take (at + length ys - at) (drop at xs) → (g : Bytes) → ((i : ℕ) → g i ≡ put at ys (bytes_of xs) i) → (i : ℕ) → put at old g i ≡ bytes_of xs i
back_slice xs ys old at fits was g is = back xs ys old at
    (ap length was ∙ simp (length-take, length-drop) (omega arith))
    (λ k lt. ap (λ (l : List ℕ). get_or l k 0) was ∙ get_or-take (at + length ys - at) (drop at xs) k 0 (omega arith) ∙ get_or-drop at xs k 0)
    g is

pub bytes_fit : (xs : List ℕ) → ((i d : ℕ) → i < length xs → get_or xs i d < 256) → (i : ℕ) → bytes_of xs i < 256
bytes_fit xs fit i = ⊎_elim (λ lt. fit i 0 lt) (λ past. let zero_there = past_end xs i 0 past in omega arith) (cases_lt i (length xs))

pub taken : (xs : List ℕ) (at i : ℕ) → bytes_of (take at xs) i ≡ cut at (bytes_of xs) i
taken xs at i = ⊎_elim
    (λ first. get_or-take at xs i 0 first ∙ sym (cut_outside at (bytes_of xs) i (λ low. absurd (omega arith))))
    (λ behind. past_end (take at xs) i 0 (omega (arith, length-take at xs)) ∙ sym (cut_inside at (bytes_of xs) i behind))
    (cases_lt i at)

pub back_drop : (xs : List ℕ) (at : ℕ) (g : Bytes) → ((i : ℕ) → g i ≡ cut at (bytes_of xs) i) → (i : ℕ) → put at (drop at xs) g i ≡ bytes_of xs i
back_drop xs at g is i = ⊎_elim
    (λ first. put_outside at (drop at xs) g i (λ low high. absurd (omega arith)) ∙ is i ∙ cut_outside at (bytes_of xs) i (λ low. absurd (omega arith)))
    (λ low. ⊎_elim
    (λ high. put_within at (drop at xs) g i 0 low high ∙ get_or-drop at xs (i - at) 0 ∙ ap (bytes_of xs) (from at i low))
    (λ behind. put_outside at (drop at xs) g i (λ l high. absurd (omega arith)) ∙ is i ∙ cut_inside at (bytes_of xs) i low ∙ sym (past_end xs i 0 (omega (arith, length-drop at xs))))
    (cases_lt i (at + length (drop at xs))))
    (cases_lt i at)
