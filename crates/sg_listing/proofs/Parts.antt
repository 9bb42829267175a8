-- The parts of an object's contents, one behind another.
use Rattle.std.proofs.Common.{◌≡◌, ℕ, suc, ◌+◌, ◌-◌, ◌*◌, ◌<◌, min, Bool, true, false, cond, List, [], ◌∷◌, ◌++◌, length, take, drop, slice_index_or, length-drop, refl, ap, ◌∙◌, append_assoc, sym, arith, add-one}
use Rattle.std.specs.List.{list_all}
use Rattle.std.proofs.lemmas.List.{take_min}
use Rattle.sg_lines.specs.Parts.{Part, item_parts, piece_part, piece_parts}
use Rattle.sg_lines.specs.Parts.Part.{AnItem, APiece}
use Rattle.sg_lines.specs.Text.{is_zero}
use Rattle.sg_lines.proofs.Growing.{rest_behind}

-- one part of some, and those behind it
regrouped : (xs ys rest all : List Part) → (xs ++ ys) ++ rest ≡ all → xs ++ (ys ++ rest) ≡ all
regrouped xs ys rest all h = sym (append_assoc xs ys rest) ∙ h

-- ITEMS
pub no_items : (items : List (List ℕ)) → item_parts 0 items ≡ []
unfolding item_parts
no_items items = refl

one_item : (items : List (List ℕ)) (n : ℕ) → item_parts (suc n) items ≡ item_parts n items ++ AnItem n (slice_index_or items n []) ∷ []
unfolding item_parts
one_item items n = refl

pub more_items : (n : ℕ) (items : List (List ℕ)) → item_parts (n + 1) items ≡ item_parts n items ++ AnItem n (slice_index_or items n []) ∷ []
more_items n items = rw add-one (one_item items n)

pub items_behind : (n total : ℕ) (items : List (List ℕ)) → n < total → (rest : List Part) × (item_parts n items ++ (AnItem n (slice_index_or items n []) ∷ [] ++ rest) ≡ item_parts total items)
items_behind n total items lt =
    let item = AnItem n (slice_index_or items n []) ∷ [] in
    let behind = rest_behind (λ m. item_parts m items) (λ m. AnItem m (slice_index_or items m []) ∷ []) (one_item items) n total lt in
    (behind.0, regrouped (item_parts n items) item behind.0 (item_parts total items) behind.1)

-- PIECES
pub no_pieces : (bytes : List ℕ) → piece_parts 0 bytes ≡ []
unfolding piece_parts
no_pieces bytes = refl

one_piece : (bytes : List ℕ) (n : ℕ) → piece_parts (suc n) bytes ≡ piece_parts n bytes ++ piece_part (32 * n) (take 32 (drop (32 * n) bytes))
unfolding piece_parts
one_piece bytes n = refl

pub more_pieces : (n : ℕ) (bytes : List ℕ) → piece_parts (n + 1) bytes ≡ piece_parts n bytes ++ piece_part (32 * n) (take 32 (drop (32 * n) bytes))
more_pieces n bytes = rw add-one (one_piece bytes n)

pub pieces_behind : (n total : ℕ) (bytes : List ℕ) → n < total → (rest : List Part) × (piece_parts n bytes ++ (piece_part (32 * n) (take 32 (drop (32 * n) bytes)) ++ rest) ≡ piece_parts total bytes)
pieces_behind n total bytes lt =
    let piece = piece_part (32 * n) (take 32 (drop (32 * n) bytes)) in
    let behind = rest_behind (λ m. piece_parts m bytes) (λ m. piece_part (32 * m) (take 32 (drop (32 * m) bytes))) (one_piece bytes) n total lt in
    (behind.0, regrouped (piece_parts n bytes) piece behind.0 (piece_parts total bytes) behind.1)

-- a piece that may be the last
pub last_piece : (bytes : List ℕ) (at count : ℕ) → count ≡ min (length bytes - at) 32 → take count (drop at bytes) ≡ take 32 (drop at bytes)
last_piece bytes at count is =
    let size : count ≡ min 32 (length (drop at bytes)) = omega (arith, is, length-drop at bytes) in
    ap (λ n. take n (drop at bytes)) size ∙ take_min 32 (drop at bytes)

-- a piece of zeros isn't told, and each other one is
pub zeros_untold : (at : ℕ) (piece : List ℕ) → list_all is_zero piece ≡ true → piece_part at piece ≡ []
zeros_untold at piece e = ap (λ (b : Bool). cond {A = List Part} b [] (APiece at piece ∷ [])) e

pub others_told : (at : ℕ) (piece : List ℕ) → list_all is_zero piece ≡ false → piece_part at piece ≡ APiece at piece ∷ []
others_told at piece e = ap (λ (b : Bool). cond {A = List Part} b [] (APiece at piece ∷ [])) e
