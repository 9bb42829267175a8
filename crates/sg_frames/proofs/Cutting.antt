-- Slots that are cut from a run one after the other, and joined to one again from the last on.
use Rattle.std.proofs.Common.{◌≡◌, ◌<◌, ◌≤◌, ◌+◌, ◌*◌, ℕ, zero, suc, List, [], ◌∷◌, ◌++◌, length, map, take, drop, get_or, refl, sym, ap, ◌∙◌, subst, arith, length-append, length-take, length-drop, All, inl, inr, ◌-◌}
use Rattle.std.proofs.lemmas.List.{map-append, length-map, get_or_default}
use Rattle.std.proofs.lemmas.List.Elements.{All-take, All-drop}
use Rattle.std.proofs.lemmas.Bool.{cases_lt}
use Rattle.std.specs.Ptr.{Ptr, block_ptr, null_ptr}
use denote.RawPtr.{◌+ₚ◌}
use Rattle.sg_frames.specs.Pieces.{Piece, spot_of, bytes_of, AreSideBySide, start_of}
use Rattle.sg_frames.specs.Zeros.{AreZeros}
use Rattle.sg_frames.specs.declared.block.Run.{Run}

pub further : (p : Ptr) (m n : ℕ) → (p +ₚ m) +ₚ n ≡ p +ₚ (m + n)
further (block_ptr b o) m n = ap (λ k. block_ptr b k) (omega arith)
further null_ptr m n = refl

-- with one element more, an element up to it is read as with that one behind the end
pub last_or : {X : Type 0} (xs : List X) (x e : X) (m : ℕ) → m ≤ length xs → get_or (xs ++ x ∷ []) m e ≡ get_or xs m x
last_or [] x e zero le = refl
last_or [] x e (suc m) le = absurd (omega arith)
last_or (y ∷ ys) x e zero le = refl
last_or (y ∷ ys) x e (suc m) le = last_or ys x e m (omega arith)

at_end : {X : Type 0} (xs : List X) (e : X) (m : ℕ) → length xs ≤ m → get_or xs m e ≡ e
at_end [] e m le = refl
at_end (x ∷ xs) e zero le = absurd (omega arith)
at_end (x ∷ xs) e (suc m) le = at_end xs e m (omega arith)

-- one more piece, where the others ended
pub sides-more : (size : ℕ) (spots : List Ptr) (end new : Ptr) → AreSideBySide size spots end → (end +ₚ size) ≡ new → AreSideBySide size (spots ++ end ∷ []) new
sides-more size spots end new sides step k below =
    let long : length (spots ++ end ∷ []) ≡ length spots + 1 = length-append spots (end ∷ []) in
    elim (cases_lt k (length spots)) [
      | inl inside ↦ ap (λ (p : Ptr). p +ₚ size) (last_or spots end null_ptr k (omega arith) ∙ get_or_default spots k end null_ptr inside) ∙ sides k inside ∙ sym (last_or spots end new (k + 1) (omega arith))
      | inr past ↦ ap (λ (p : Ptr). p +ₚ size) (last_or spots end null_ptr k (omega arith) ∙ at_end spots end k past) ∙ step ∙ sym (at_end (spots ++ end ∷ []) new (k + 1) (omega arith))
    ]

-- one piece less
pub sides-less : (size : ℕ) (spots : List Ptr) (last end : Ptr) → AreSideBySide size (spots ++ last ∷ []) end → AreSideBySide size spots last
sides-less size spots last end sides k below =
    let long : length (spots ++ last ∷ []) ≡ length spots + 1 = length-append spots (last ∷ []) in
    ap (λ (p : Ptr). p +ₚ size) (get_or_default spots k null_ptr last below ∙ sym (last_or spots last null_ptr k (omega arith))) ∙ sides k (omega arith) ∙ last_or spots last end (k + 1) (omega arith)

pub sides-last : (size : ℕ) (spots : List Ptr) (last end : Ptr) → AreSideBySide size (spots ++ last ∷ []) end → (last +ₚ size) ≡ end
sides-last size spots last end sides =
    let long : length (spots ++ last ∷ []) ≡ length spots + 1 = length-append spots (last ∷ []) in
    ap (λ (p : Ptr). p +ₚ size) (sym (last_or spots last null_ptr (length spots) (omega arith) ∙ at_end spots last (length spots) (omega arith)))
    ∙ sides (length spots) (omega arith) ∙ at_end (spots ++ last ∷ []) end (length spots + 1) (omega arith)

-- k slots were cut from the front of `whole`, which is `at` bytes behind `start`, and `rest` is left
pub record AreCut (start : Ptr) (at size : ℕ) (whole : Run) (k : ℕ) (slots : List Piece) (rest : Run) : Type 0 where
  pub count : length slots ≡ k
  pub spot : rest.ptr ≡ start +ₚ (at + k * size)
  pub long : length rest.items + k * size ≡ length whole.items
  pub zeros : All (λ x. x ≡ 0) rest.items
  pub sides : AreSideBySide size (map spot_of slots) rest.ptr
  pub begin : start_of (map spot_of slots) rest.ptr ≡ whole.ptr
  pub made : (j : ℕ) → j < k → AreZeros size (get_or (map bytes_of slots) j [])

pub are_cut-none : (start : Ptr) (at size : ℕ) (whole : Run) (slots : List Piece) → length slots ≡ 0 → whole.ptr ≡ start +ₚ at → All (λ x. x ≡ 0) whole.items → AreCut start at size whole 0 slots whole
are_cut-none start at size whole [] none spot zeros = record {
  count = refl;
  spot = spot ∙ ap (λ n. start +ₚ n) (omega arith);
  long = omega arith;
  zeros = zeros;
  sides = λ k below. absurd (omega arith);
  begin = refl;
  made = λ j below. absurd (omega arith);
}
are_cut-none start at size whole (x ∷ xs) none spot zeros = absurd (omega arith)

pub are_cut-more : (start : Ptr) (at size : ℕ) (whole : Run) (k : ℕ) (slots : List Piece) (rest others : Run) (piece : Piece) → AreCut start at size whole k slots rest
    → size ≤ length rest.items → piece.spot ≡ rest.ptr → piece.bytes ≡ take size rest.items → others.ptr ≡ rest.ptr +ₚ size → others.items ≡ drop size rest.items
    → AreCut start at size whole (k + 1) (slots ++ piece ∷ []) others
are_cut-more start at size whole k slots rest others piece was enough spot bytes others_at others_are =
    let spots : map spot_of (slots ++ piece ∷ []) ≡ map spot_of slots ++ rest.ptr ∷ [] = map-append spot_of slots (piece ∷ []) ∙ ap (λ (p : Ptr). map spot_of slots ++ p ∷ []) spot in
    let contents : map bytes_of (slots ++ piece ∷ []) ≡ map bytes_of slots ++ piece.bytes ∷ [] = map-append bytes_of slots (piece ∷ []) in
    let many : length (map bytes_of slots) ≡ k = length-map slots bytes_of ∙ was.count in
    let counted : length (slots ++ piece ∷ []) ≡ length slots + 1 = length-append slots (piece ∷ []) in
    let left : length others.items ≡ length rest.items - size = ap length others_are ∙ length-drop size rest.items in
    let new : AreZeros size piece.bytes = record { size_is = ap length bytes ∙ length-take size rest.items ∙ omega arith; zeros = subst (λ (xs : List ℕ). All (λ x. x ≡ 0) xs) (sym bytes) (All-take (λ x. x ≡ 0) size rest.items was.zeros) } in
    record {
      count = counted ∙ ap (λ n. n + 1) was.count;
      spot = others_at ∙ ap (λ (p : Ptr). p +ₚ size) was.spot ∙ further start (at + k * size) size ∙ ap (λ n. start +ₚ n) (omega arith);
      long = omega (arith, was.long);
      zeros = subst (λ (xs : List ℕ). All (λ x. x ≡ 0) xs) (sym others_are) (All-drop (λ x. x ≡ 0) size rest.items was.zeros);
      sides = subst (λ (ps : List Ptr). AreSideBySide size ps others.ptr) (sym spots) (sides-more size (map spot_of slots) rest.ptr others.ptr was.sides (sym others_at));
      begin = ap (λ (ps : List Ptr). get_or ps 0 others.ptr) spots ∙ last_or (map spot_of slots) rest.ptr others.ptr 0 (omega arith) ∙ was.begin;
      made = λ j below. subst (λ (xs : List (List ℕ)). AreZeros size (get_or xs j [])) (sym contents) (subst (AreZeros size) (sym (last_or (map bytes_of slots) piece.bytes [] j (omega arith)))
          (elim (cases_lt j k) [
            | inl inside ↦ subst (AreZeros size) (get_or_default (map bytes_of slots) j [] piece.bytes (omega arith)) (was.made j inside)
            | inr past ↦ subst (AreZeros size) (sym (at_end (map bytes_of slots) piece.bytes j (omega arith))) new
          ]));
    }

-- the slots and `run` behind them make so many bytes from that spot on
pub record MakeRun (size : ℕ) (spot : Ptr) (total : ℕ) (slots : List Piece) (run : Run) : Type 0 where
  pub sides : AreSideBySide size (map spot_of slots) run.ptr
  pub full : (k : ℕ) → k < length slots → length (get_or (map bytes_of slots) k []) ≡ size
  pub begin : start_of (map spot_of slots) run.ptr ≡ spot
  pub long : length run.items + length slots * size ≡ total

module _ (size : ℕ) (spot : Ptr) (total : ℕ) (slots : List Piece) (run : Run) (piece : Piece) (make : MakeRun size spot total (slots ++ piece ∷ []) run) where
  spots : map spot_of (slots ++ piece ∷ []) ≡ map spot_of slots ++ piece.spot ∷ []
  spots = map-append spot_of slots (piece ∷ [])

  contents : map bytes_of (slots ++ piece ∷ []) ≡ map bytes_of slots ++ piece.bytes ∷ []
  contents = map-append bytes_of slots (piece ∷ [])

  counted : length (slots ++ piece ∷ []) ≡ length slots + 1
  counted = length-append slots (piece ∷ [])

  content_at : (k : ℕ) → k ≤ length slots → length (get_or (map bytes_of slots) k piece.bytes) ≡ size
  content_at k le =
      let many : length (map bytes_of slots) ≡ length slots = length-map slots bytes_of in
      let within : k < length (slots ++ piece ∷ []) = omega (arith, counted) in
      ap length (sym (ap (λ (xs : List (List ℕ)). get_or xs k []) contents ∙ last_or (map bytes_of slots) piece.bytes [] k (omega arith))) ∙ make.full k within

  pub last_full : length piece.bytes ≡ size
  last_full =
      let many : length (map bytes_of slots) ≡ length slots = length-map slots bytes_of in
      ap length (sym (at_end (map bytes_of slots) piece.bytes (length slots) (omega arith))) ∙ content_at (length slots) (omega arith)

  pub last_beside : (piece.spot +ₚ size) ≡ run.ptr
  last_beside = sides-last size (map spot_of slots) piece.spot run.ptr (subst (λ (ps : List Ptr). AreSideBySide size ps run.ptr) spots make.sides)

  pub make_run-less : (joined : Run) → joined.ptr ≡ piece.spot → joined.items ≡ piece.bytes ++ run.items → MakeRun size spot total slots joined
  make_run-less joined at_piece items =
      let many : length (map bytes_of slots) ≡ length slots = length-map slots bytes_of in
      let more : length joined.items ≡ length piece.bytes + length run.items = ap length items ∙ length-append piece.bytes run.items in
      record {
        sides = subst (λ (p : Ptr). AreSideBySide size (map spot_of slots) p) (sym at_piece) (sides-less size (map spot_of slots) piece.spot run.ptr (subst (λ (ps : List Ptr). AreSideBySide size ps run.ptr) spots make.sides));
        full = λ k below. ap length (get_or_default (map bytes_of slots) k [] piece.bytes (omega arith)) ∙ content_at k (omega arith);
        begin = ap (λ (p : Ptr). get_or (map spot_of slots) 0 p) at_piece ∙ sym (ap (λ (ps : List Ptr). get_or ps 0 run.ptr) spots ∙ last_or (map spot_of slots) piece.spot run.ptr 0 (omega arith)) ∙ make.begin;
        long = omega (arith, sym (ap (λ n. length run.items + n * size) counted) ∙ make.long, last_full, more);
      }
