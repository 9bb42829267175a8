-- The bytes of windows, and the numbers that they spell.
use Rattle.std.proofs.Common.{◌≡◌, ◌<◌, ◌≤◌, ◌+◌, ◌-◌, ◌*◌, ℕ, zero, suc, List, ◌∷◌, length, get_or, take, drop, refl, sym, ◌∙◌, ap, arith, add-zero, get_or-take}
use Rattle.std.specs.Prelude.{slice_index}
use Rattle.std.proofs.lemmas.List.{get_or-drop}
use Rattle.byteorder.specs.Endian.{little_from, little_number}
use Rattle.sg_disk.specs.Disk.{Bytes, put, window}
use Rattle.sg_disk.specs.Memory.{bytes_of}
use Rattle.sg_disk.proofs.Images.{put_outside}
use Rattle.sg_disk.proofs.Parts.{put_inside}

pub moved : (at k : ℕ) → suc at + k ≡ at + suc k
moved at k = omega arith

pub window_shift : (f g : Bytes) (a b n : ℕ) → ((k : ℕ) → k < n → f (a + k) ≡ g (b + k)) → window f a n ≡ window g b n
window_shift f g a b zero same = refl
window_shift f g a b (suc n) same =
    let head : f a ≡ g b = ap f (sym (add-zero a)) ∙ same 0 (omega arith) ∙ ap g (add-zero b) in
    let tail = window_shift f g (suc a) (suc b) n (λ k lt. ap f (moved a k) ∙ same (suc k) (omega arith) ∙ ap g (sym (moved b k))) in
    λ i. head i ∷ tail i

pub window_get : (f : Bytes) (at n k d : ℕ) → k < n → get_or (window f at n) k d ≡ f (at + k)
window_get f at zero k d lt = absurd (omega arith)
window_get f at (suc n) zero d lt = ap f (sym (add-zero at))
window_get f at (suc n) (suc k) d lt = window_get f (suc at) n k d (omega arith) ∙ ap f (moved at k)

pub window_size : (f : Bytes) (at n : ℕ) → length (window f at n) ≡ n
window_size f at zero = refl
window_size f at (suc n) = ap suc (window_size f (suc at) n)

from : (at i : ℕ) → at ≤ i → at + (i - at) ≡ i
from at i le = omega arith

-- a window that was written elsewhere
pub put_window_in : (f g : Bytes) (at there n i : ℕ) → at ≤ i → i < at + n → put at (window g there n) f i ≡ g (there + (i - at))
put_window_in f g at there n i low high =
    let long = window_size g there n in
    ap (put at (window g there n) f) (sym (from at i low)) ∙ put_inside at (window g there n) f (i - at) 0 (omega arith) ∙ window_get g there n (i - at) 0 (omega arith)

pub put_window_out : (f g : Bytes) (at there n i : ℕ) → (at ≤ i → i < at + n → ⊥) → put at (window g there n) f i ≡ f i
put_window_out f g at there n i out = put_outside at (window g there n) f i (λ low high. let long = window_size g there n in out low (omega arith))

-- a number is that of the bytes that spell it
little_same : (i n : ℕ) (xs ys : List ℕ) → ((j : ℕ) → j < i + n → slice_index xs j ≡ slice_index ys j) → little_from i n xs ≡ little_from i n ys
little_same i zero xs ys same = refl
little_same i (suc n) xs ys same =
    let first = same i (omega arith) in
    let rest = little_same (suc i) n xs ys (λ j lt. same j (omega arith)) in
    ap (λ (x : ℕ). x + 256 * little_from (suc i) n xs) first ∙ ap (λ (r : ℕ). slice_index ys i + 256 * r) rest

pub number_read : (n : ℕ) (text : List ℕ) (at : ℕ) → little_number n (drop at text) ≡ little_number n (window (bytes_of text) at n)
number_read n text at = little_same 0 n (drop at text) (window (bytes_of text) at n) (λ j lt. get_or-drop at text j 0 ∙ sym (window_get (bytes_of text) at n j 0 (omega arith)))

-- and that of a part of the text
pub number_part : (n : ℕ) (text : List ℕ) (at m : ℕ) → n ≤ m → little_number n (take m (drop at text)) ≡ little_number n (window (bytes_of text) at n)
number_part n text at m le =
    little_same 0 n (take m (drop at text)) (window (bytes_of text) at n) (λ j lt. get_or-take m (drop at text) j 0 (omega arith) ∙ get_or-drop at text j 0 ∙ sym (window_get (bytes_of text) at n j 0 (omega arith)))

-- the bytes of a text behind the first of a window
pub behind_first : (f : Bytes) (at n : ℕ) (read : List ℕ) → read ≡ window f at n → (k : ℕ) → k < n - 1 → bytes_of (take (length read - 1) (drop 1 read)) k ≡ f (at + 1 + k)
behind_first f at n read is k lt =
    let long : length read ≡ n = ap length is ∙ window_size f at n in
    let place : at + (1 + k) ≡ at + 1 + k = omega arith in
    get_or-take (length read - 1) (drop 1 read) k 0 (omega arith) ∙ get_or-drop 1 read k 0 ∙ ap (λ (l : List ℕ). get_or l (1 + k) 0) is ∙ window_get f at n (1 + k) 0 (omega arith) ∙ ap f place

pub first_of : (f : Bytes) (at n : ℕ) (read : List ℕ) → read ≡ window f at n → 0 < n → get_or read 0 0 ≡ f at
first_of f at n read is some = ap (λ (l : List ℕ). get_or l 0 0) is ∙ window_get f at n 0 0 some ∙ ap f (add-zero at)
