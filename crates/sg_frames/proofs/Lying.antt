-- Which pieces lie at their own spots.
use Rattle.std.proofs.Common.{◌≡◌, ◌<◌, ◌+◌, ℕ, zero, suc, List, [], ◌∷◌, length, map, get_or, set, refl, sym, ap, ◌∙◌, subst, arith}
use Rattle.std.specs.Ptr.{Ptr, block_ptr, null_ptr}
use Rattle.std.specs.List.{refill}
use denote.RawPtr.{◌+ₚ◌}
use Rattle.sg_frames.specs.Pieces.{Piece, no_piece, spot_of, bytes_of, AreSideBySide, spots_from, where_equal, bytes_on, lying}

equal-same : (n : ℕ) (bytes : List ℕ) → where_equal n n bytes ≡ bytes
equal-same zero bytes = refl
equal-same (suc n) bytes = equal-same n bytes

equal-some : (m n : ℕ) (bytes : List ℕ) → 0 < length (where_equal m n bytes) → m ≡ n
equal-some zero zero bytes some = refl
equal-some zero (suc n) bytes some = absurd (omega arith)
equal-some (suc m) zero bytes some = absurd (omega arith)
equal-some (suc m) (suc n) bytes some = ap suc (equal-some m n bytes some)

equal-none : (m n : ℕ) → where_equal m n [] ≡ []
equal-none zero zero = refl
equal-none zero (suc n) = refl
equal-none (suc m) zero = refl
equal-none (suc m) (suc n) = equal-none m n

pub on-same : (spot : Ptr) (bytes : List ℕ) → bytes_on spot spot bytes ≡ bytes
on-same (block_ptr b i) bytes = equal-same b (where_equal i i bytes) ∙ equal-same i bytes
on-same null_ptr bytes = refl

pub on-none : (p q : Ptr) → bytes_on p q [] ≡ []
on-none (block_ptr b i) (block_ptr c j) = ap (where_equal b c) (equal-none i j) ∙ equal-none b c
on-none (block_ptr b i) null_ptr = refl
on-none null_ptr (block_ptr c j) = refl
on-none null_ptr null_ptr = refl

pub on-some : (p q : Ptr) (bytes : List ℕ) → 0 < length (bytes_on p q bytes) → p ≡ q
on-some (block_ptr b i) (block_ptr c j) bytes some =
    let same : b ≡ c = equal-some b c (where_equal i j bytes) some in
    let left : where_equal b c (where_equal i j bytes) ≡ where_equal i j bytes = ap (λ n. where_equal b n (where_equal i j bytes)) (sym same) ∙ equal-same b (where_equal i j bytes) in
    λ k. block_ptr (same k) (equal-some i j bytes (subst (λ (xs : List ℕ). 0 < length xs) left some) k)
on-some (block_ptr b i) null_ptr bytes some = absurd (omega arith)
on-some null_ptr (block_ptr c j) bytes some = absurd (omega arith)
on-some null_ptr null_ptr bytes some = refl

pub length-spots : (spot : Ptr) (size n : ℕ) → length (spots_from spot size n) ≡ n
length-spots spot size zero = refl
length-spots spot size (suc n) = ap suc (length-spots (spot +ₚ size) size n)

pub length-lying : (spots : List Ptr) (pieces : List Piece) → length spots ≡ length pieces → length (lying spots pieces) ≡ length pieces
length-lying [] [] many = refl
length-lying [] (piece ∷ pieces) many = absurd (omega arith)
length-lying (spot ∷ spots) [] many = refl
length-lying (spot ∷ spots) (piece ∷ pieces) many = ap suc (length-lying spots pieces (omega arith))

pub lying-at : (spots : List Ptr) (pieces : List Piece) (i : ℕ) → length spots ≡ length pieces
    → get_or (lying spots pieces) i [] ≡ bytes_on (get_or spots i null_ptr) (get_or pieces i no_piece).spot (get_or pieces i no_piece).bytes
lying-at [] [] i many = refl
lying-at [] (piece ∷ pieces) i many = absurd (omega arith)
lying-at (spot ∷ spots) [] i many = absurd (omega arith)
lying-at (spot ∷ spots) (piece ∷ pieces) zero many = refl
lying-at (spot ∷ spots) (piece ∷ pieces) (suc i) many = lying-at spots pieces i (omega arith)

pub lying-set : (spots : List Ptr) (pieces : List Piece) (i : ℕ) (piece : Piece) → length spots ≡ length pieces
    → lying spots (set pieces i piece) ≡ set (lying spots pieces) i (bytes_on (get_or spots i null_ptr) piece.spot piece.bytes)
lying-set [] [] i new many = refl
lying-set [] (piece ∷ pieces) i new many = absurd (omega arith)
lying-set (spot ∷ spots) [] i new many = absurd (omega arith)
lying-set (spot ∷ spots) (piece ∷ pieces) zero new many = refl
lying-set (spot ∷ spots) (piece ∷ pieces) (suc i) new many = ap (λ (xs : List (List ℕ)). bytes_on spot piece.spot piece.bytes ∷ xs) (lying-set spots pieces i new (omega arith))

-- pieces that lie side by side, seen from the first
pub beside-spots : (size : ℕ) (spots : List Ptr) (spot end : Ptr) → AreSideBySide size spots end → get_or spots 0 spot ≡ spot → spots ≡ spots_from spot size (length spots)
beside-spots size [] spot end sides first = refl
beside-spots size (p ∷ []) spot end sides first = λ k. first k ∷ []
beside-spots size (p ∷ q ∷ spots) spot end sides first =
    let next : q ≡ spot +ₚ size = sym (sides 0 (omega arith)) ∙ ap (λ (x : Ptr). x +ₚ size) first in
    let later : (k : ℕ) → suc k + 1 ≡ suc (k + 1) = λ k. omega arith in
    λ k. first k ∷ beside-spots size (q ∷ spots) (spot +ₚ size) end (λ j below. sides (suc j) (omega arith) ∙ ap (λ n. get_or (p ∷ q ∷ spots) n end) (later j)) next k

pub lying-own : (pieces : List Piece) → lying (map spot_of pieces) pieces ≡ map bytes_of pieces
lying-own [] = refl
lying-own (piece ∷ pieces) = λ k. on-same piece.spot piece.bytes k ∷ lying-own pieces k

pub all-own : (spots : List Ptr) (pieces : List Piece) → length spots ≡ length pieces → ((k : ℕ) → k < length pieces → 0 < length (get_or (lying spots pieces) k [])) → map spot_of pieces ≡ spots
all-own [] [] many some = refl
all-own [] (piece ∷ pieces) many some = absurd (omega arith)
all-own (spot ∷ spots) [] many some = absurd (omega arith)
all-own (spot ∷ spots) (piece ∷ pieces) many some =
    λ k. sym (on-some spot piece.spot piece.bytes (some 0 (omega arith))) k ∷ all-own spots pieces (omega arith) (λ j below. some (suc j) (omega arith)) k

lying-empty : (spots : List Ptr) → lying spots [] ≡ []
lying-empty [] = refl
lying-empty (spot ∷ spots) = refl

pub lying-refill : (spots : List Ptr) (pieces ws : List Piece) → length spots ≡ length pieces → lying spots (refill (length pieces) pieces ws) ≡ refill (length pieces) (lying spots pieces) (lying spots ws)
lying-refill [] [] ws many = refl
lying-refill [] (piece ∷ pieces) ws many = absurd (omega arith)
lying-refill (spot ∷ spots) [] ws many = absurd (omega arith)
lying-refill (spot ∷ spots) (piece ∷ pieces) [] many = ap (λ (xs : List (List ℕ)). bytes_on spot piece.spot piece.bytes ∷ xs) (lying-refill spots pieces [] (omega arith) ∙ ap (λ (xs : List (List ℕ)). refill (length pieces) (lying spots pieces) xs) (lying-empty spots))
lying-refill (spot ∷ spots) (piece ∷ pieces) (w ∷ ws) many = ap (λ (xs : List (List ℕ)). bytes_on spot w.spot w.bytes ∷ xs) (lying-refill spots pieces ws (omega arith))
