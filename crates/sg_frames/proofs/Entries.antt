-- A table of pieces, seen as the list of its spots and that of the bytes that lie there.
use Rattle.std.proofs.Common.{◌≡◌, ◌<◌, ◌+◌, ◌*◌, ℕ, List, [], length, map, get_or, set, refl, sym, ap, ◌∙◌, subst, arith, length-set, All}
use Rattle.std.proofs.lemmas.List.{get_or_default, length-map}
use Rattle.std.proofs.lemmas.Grind.{common_steps}
use Rattle.std.specs.List.{refill, length_refill}
use Rattle.std.specs.Ptr.{Ptr, null_ptr}
use Rattle.sg_frames.specs.declared.block.Run.{Run}
use Rattle.sg_frames.specs.Pieces.{Piece, Pieces, no_piece, spot_of, bytes_of, with_entry, AreSideBySide, start_of, spots_from, bytes_on, lying}
use Rattle.sg_frames.specs.Tables.{with_slots}
use Rattle.sg_frames.specs.Zeros.{AreZeros}
use Rattle.sg_frames.proofs.Cutting.{MakeRun}
use Rattle.sg_frames.proofs.Lying.{on-same, on-some, length-spots, length-lying, lying-at, lying-set, lying-own, all-own, lying-refill, beside-spots}

abbrev pub table_of : Ptr → ℕ → List Piece → Pieces
table_of start size slots = record { spots = spots_from start size (length slots); bytes = lying (spots_from start size (length slots)) slots }

pub some_below : (xs : List (List ℕ)) (i : ℕ) → 0 < length (get_or xs i []) → i < length xs
some_below xs i some = grind (arith, common_steps)

-- where each list of so many is zeros, each is, also behind the end
pub zeros_at : (size n : ℕ) (xs : List (List ℕ)) → length xs ≡ n → ((j : ℕ) → j < n → AreZeros size (get_or xs j [])) → (i : ℕ) → All (λ x. x ≡ 0) (get_or xs i [])
zeros_at size n xs many zeros i k d below =
    let there : i < n = subst (λ m. i < m) many (some_below xs i (omega (arith, below))) in
    (zeros i there).zeros k d below

module _ (start : Ptr) (size : ℕ) (slots : List Piece) where
  abbrev spots : List Ptr
  spots = spots_from start size (length slots)

  many : length spots ≡ length slots
  many = length-spots start size (length slots)

  -- a piece is set
  pub table_of-set : (i : ℕ) (new : Piece) → table_of start size (set slots i new) ≡ with_entry (table_of start size slots) i (bytes_on (get_or spots i null_ptr) new.spot new.bytes)
  table_of-set i new =
      (λ k. record { spots = spots_from start size (length-set slots i new k); bytes = lying (spots_from start size (length-set slots i new k)) (set slots i new) })
      ∙ λ k. record { spots = spots; bytes = lying-set spots slots i new many k }

  -- the slots are filled up
  pub table_of-refill : (ws : List Piece) → table_of start size (refill (length slots) slots ws) ≡ with_slots (table_of start size slots) ws
  table_of-refill ws =
      let long : length (refill (length slots) slots ws) ≡ length slots = sym (length_refill (length slots) slots ws refl) in
      (λ k. record { spots = spots_from start size (long k); bytes = lying (spots_from start size (long k)) (refill (length slots) slots ws) })
      ∙ λ k. record { spots = spots; bytes = (lying-refill spots slots ws many ∙ ap (λ n. refill n (lying spots slots) (lying spots ws)) (sym (length-lying spots slots many))) k }

  -- where they lie side by side from `start` on, each lies at its own spot
  pub own_spots : (end : Ptr) → AreSideBySide size (map spot_of slots) end → get_or (map spot_of slots) 0 start ≡ start → map spot_of slots ≡ spots
  own_spots end sides first = beside-spots size (map spot_of slots) start end sides first ∙ ap (spots_from start size) (length-map slots spot_of)

  pub own_bytes : map spot_of slots ≡ spots → lying spots slots ≡ map bytes_of slots
  own_bytes own = (λ k. lying (sym own k) slots) ∙ lying-own slots

  module _ (t : Pieces) (is : table_of start size slots ≡ t) where
    -- what stands at a place of the table
    pub below_slots : (i : ℕ) → i < length t.bytes → i < length slots
    below_slots i below = subst (λ n. i < n) (length-lying spots slots many) (subst (λ (p : Pieces). i < length p.bytes) (sym is) below)

    piece_at : (i : ℕ) (piece : Piece) → i < length slots → piece ≡ get_or slots i piece → bytes_on (get_or t.spots i null_ptr) piece.spot piece.bytes ≡ get_or t.bytes i []
    piece_at i piece below read =
        let there : piece ≡ get_or slots i no_piece = read ∙ get_or_default slots i piece no_piece below in
        (λ k. bytes_on (get_or (sym is k).spots i null_ptr) (there k).spot (there k).bytes) ∙ sym (lying-at spots slots i many) ∙ ap (λ (p : Pieces). get_or p.bytes i []) is

    pub spot_there : (i : ℕ) (piece : Piece) → 0 < length (get_or t.bytes i []) → i < length slots → piece ≡ get_or slots i piece → piece.spot ≡ get_or t.spots i null_ptr
    spot_there i piece some below read = sym (on-some (get_or t.spots i null_ptr) piece.spot piece.bytes (subst (λ (xs : List ℕ). 0 < length xs) (sym (piece_at i piece below read)) some))

    pub bytes_there : (i : ℕ) (piece : Piece) → 0 < length (get_or t.bytes i []) → i < length slots → piece ≡ get_or slots i piece → piece.bytes ≡ get_or t.bytes i []
    bytes_there i piece some below read = sym (on-same piece.spot piece.bytes) ∙ ap (λ (p : Ptr). bytes_on p piece.spot piece.bytes) (spot_there i piece some below read) ∙ piece_at i piece below read

  -- where none is lent, the pieces make the run
  pub make_run-all : (t : Pieces) → table_of start size slots ≡ t → (wide : ℕ) (run : Run) → 0 < wide → ((k : ℕ) → k < length t.bytes → length (get_or t.bytes k []) ≡ wide) → AreSideBySide wide t.spots run.ptr
      → MakeRun wide (start_of t.spots run.ptr) (length run.items + length t.spots * wide) slots run
  make_run-all t is wide run some none sides =
      let none' : (k : ℕ) → k < length slots → length (get_or (lying spots slots) k []) ≡ wide = λ k below. subst (λ (p : Pieces). (j : ℕ) → j < length p.bytes → length (get_or p.bytes j []) ≡ wide) (sym is) none k (subst (λ n. k < n) (sym (length-lying spots slots many)) below) in
      let own : map spot_of slots ≡ spots = all-own spots slots many (λ k below. subst (λ n. 0 < n) (sym (none' k below)) some) in
      subst (λ (p : Pieces). MakeRun wide (start_of p.spots run.ptr) (length run.items + length p.spots * wide) slots run) is (record {
        sides = subst (λ (ps : List Ptr). AreSideBySide wide ps run.ptr) (sym own) (subst (λ (p : Pieces). AreSideBySide wide p.spots run.ptr) (sym is) sides);
        full = λ k below. ap (λ (xs : List (List ℕ)). length (get_or xs k [])) (sym (own_bytes own)) ∙ none' k below;
        begin = ap (λ (ps : List Ptr). get_or ps 0 run.ptr) own;
        long = ap (λ n. length run.items + n * wide) (sym many);
      })
