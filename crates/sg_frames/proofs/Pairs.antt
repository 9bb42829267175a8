-- Two page frames that are lent at once.
use Rattle.std.proofs.Common.{◌≡◌, ◌<◌, ℕ, List, [], length, get_or, set, sym, ap, ◌∙◌, subst, arith, length-set}
use Rattle.std.proofs.lemmas.List.{take_at}
use Rattle.std.proofs.lemmas.Grind.{common_steps}
use Rattle.std.specs.List.{refill}
use Rattle.std.specs.Ptr.{Ptr, null_ptr}
use Rattle.sg_frames.specs.declared.place.Place.TheVariants.{Page}
use Rattle.sg_frames.specs.Held.{Held, IsHere}
use Rattle.sg_frames.specs.Pieces.{Piece, no_piece, bytes_on, lying, rewritten}
use Rattle.sg_frames.specs.Slots.{with_new, with_two}
use Rattle.sg_frames.specs.Tables.{ShowsSlots, with_slots}
use Rattle.sg_frames.specs.Lending.{with_pair, pages_of, with_pages}
use Rattle.sg_frames.proofs.Lying.{on-same, on-some, lying-at, lying-set, length-lying}

-- a page frame that is here is one of the list
pub below_pages : (held : Held) (i : ℕ) → IsHere held (Page i) → i < length held.pages
below_pages held i here = grind (arith, common_steps)

module _ (held : Held) (slots : List Piece) (shown : ShowsSlots (pages_of held) slots) where
  many : length held.pages ≡ length slots
  many = sym (ap length shown.bytes) ∙ length-lying held.block.pages slots (sym shown.many)

  -- and one of the slots
  pub below_shown : (i : ℕ) → IsHere held (Page i) → i < length slots
  below_shown i here = subst (λ n. i < n) many (below_pages held i here)

  piece_at : (i : ℕ) (piece : Piece) → piece ≡ get_or slots i no_piece → bytes_on (get_or held.block.pages i null_ptr) piece.spot piece.bytes ≡ get_or held.pages i []
  piece_at i piece is =
      (λ k. bytes_on (get_or held.block.pages i null_ptr) (is k).spot (is k).bytes) ∙ sym (lying-at held.block.pages slots i (sym shown.many)) ∙ ap (λ (xs : List (List ℕ)). get_or xs i []) shown.bytes

  -- which lies at its place
  pub spot_shown : (i : ℕ) (piece : Piece) → IsHere held (Page i) → piece ≡ get_or slots i no_piece → get_or held.block.pages i null_ptr ≡ piece.spot
  spot_shown i piece here is =
      let some : 0 < length (get_or held.pages i []) = omega (arith, here) in
      on-some (get_or held.block.pages i null_ptr) piece.spot piece.bytes (subst (λ (xs : List ℕ). 0 < length xs) (sym (piece_at i piece is)) some)

  -- what a slot's bytes are
  pub bytes_shown : (i : ℕ) (piece : Piece) → IsHere held (Page i) → piece ≡ get_or slots i no_piece → piece.bytes ≡ get_or held.pages i []
  bytes_shown i piece here is = sym (on-same piece.spot piece.bytes) ∙ ap (λ (p : Ptr). bytes_on p piece.spot piece.bytes) (sym (spot_shown i piece here is)) ∙ piece_at i piece is

  -- the slots that were lent, written back with two of them rewritten, are the frames with that pair
  pub written_pair : (i j : ℕ) (a b : Piece) (x y : List ℕ) → IsHere held (Page i) → IsHere held (Page j) → a ≡ get_or slots i no_piece → b ≡ get_or slots j no_piece
      → with_pages held (with_slots (pages_of held) (with_two slots i j (with_new a x) (with_new b y))) ≡ with_pair held i j x y
  written_pair i j a b x y here_i here_j a_is b_is =
      let spots : List Ptr = held.block.pages in
      let one : List Piece = set slots i (with_new a x) in
      let new : List Piece = set one j (with_new b y) in
      let one_long : length spots ≡ length one = sym shown.many ∙ sym (length-set slots i (with_new a x)) in
      let new_long : length spots ≡ length new = one_long ∙ sym (length-set one j (with_new b y)) in
      let a_new : bytes_on (get_or spots i null_ptr) a.spot (rewritten a.bytes x) ≡ rewritten (get_or held.pages i []) x =
      ap (λ (p : Ptr). bytes_on p a.spot (rewritten a.bytes x)) (spot_shown i a here_i a_is) ∙ on-same a.spot (rewritten a.bytes x) ∙ ap (λ (xs : List ℕ). rewritten xs x) (bytes_shown i a here_i a_is) in
      let b_new : bytes_on (get_or spots j null_ptr) b.spot (rewritten b.bytes y) ≡ rewritten (get_or held.pages j []) y =
      ap (λ (p : Ptr). bytes_on p b.spot (rewritten b.bytes y)) (spot_shown j b here_j b_is) ∙ on-same b.spot (rewritten b.bytes y) ∙ ap (λ (xs : List ℕ). rewritten xs y) (bytes_shown j b here_j b_is) in
      let lies : lying spots new ≡ set (set held.pages i (rewritten (get_or held.pages i []) x)) j (rewritten (get_or held.pages j []) y) =
      lying-set spots one j (with_new b y) one_long ∙ ap (λ (xs : List (List ℕ)). set xs j (bytes_on (get_or spots j null_ptr) b.spot (rewritten b.bytes y))) (lying-set spots slots i (with_new a x) (sym shown.many))
      ∙ λ k. set (set (shown.bytes k) i (a_new k)) j (b_new k) in
      let long : length (lying spots new) ≡ length held.pages = length-lying spots new new_long ∙ sym new_long ∙ sym shown.many ∙ sym many in
      let bytes : refill (length held.pages) held.pages (lying spots new) ≡ lying spots new = take_at (lying spots new) _ (length held.pages) long in
      λ k. record held { pages = (bytes ∙ lies) k }
