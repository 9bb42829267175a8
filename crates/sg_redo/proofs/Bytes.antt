-- Changes over a window are changes of each of its bytes.
use Rattle.std.proofs.Common.{◌≡◌, ◌⊎◌, inl, inr, ⊎_elim, ◌<◌, ◌≤◌, ◌+◌, ◌-◌, ℕ, List, [], ◌∷◌, ◌++◌, length, take, drop, get_or, refl, sym, ◌∙◌, ap, subst, arith, length-take, get_or-take, get_or-drop, append_assoc}
use Rattle.std.proofs.Math.ListN.{get_or-append}
use Rattle.std.proofs.Math.Seq.{get_or-append_right}
use Rattle.std.proofs.lemmas.List.{ext_get_or}
use Rattle.std.proofs.lemmas.Bool.{cases_lt}
use Rattle.std.proofs.lemmas.Bool.Decides.{nat_tests}
use Rattle.sg_base.specs.Overwritten.{overwritten}
use Rattle.sg_base.proofs.Overwriting.{length-overwritten}
use Rattle.sg_redo.specs.History.{OnByte, rewritten, IsCovered}
use Rattle.sg_redo.specs.Window.{OnWindow, replayed, on_byte, AllLie, IsSameBut}

over_size : (w : OnWindow) (xs : List ℕ) → w.at + length w.bytes ≤ length xs → length (overwritten xs w.at w.bytes) ≡ length xs
over_size w xs lies = length-overwritten xs w.at w.bytes lies

-- those before, and then the rest
parts : (w : OnWindow) (xs : List ℕ) (i : ℕ) → get_or (overwritten xs w.at w.bytes) i 0 ≡ get_or (take w.at xs ++ (w.bytes ++ drop (w.at + length w.bytes) xs)) i 0
parts w xs i = ap (λ (l : List ℕ). get_or l i 0) (append_assoc (take w.at xs) w.bytes (drop (w.at + length w.bytes) xs))

over_in : (w : OnWindow) (xs : List ℕ) (i : ℕ) → w.at + length w.bytes ≤ length xs → w.at ≤ i → i < w.at + length w.bytes → get_or (overwritten xs w.at w.bytes) i 0 ≡ get_or w.bytes (i - w.at) 0
over_in w xs i lies low high =
    let front : length (take w.at xs) ≡ w.at = simp length-take (omega arith) in
    parts w xs i ∙ (get_or-append_right (take w.at xs) (w.bytes ++ drop (w.at + length w.bytes) xs) i 0 (omega arith)
    ∙ (ap (λ (k : ℕ). get_or (w.bytes ++ drop (w.at + length w.bytes) xs) (i - k) 0) front ∙ get_or-append w.bytes (drop (w.at + length w.bytes) xs) 0 (i - w.at) (omega arith)))

over_out : (w : OnWindow) (xs : List ℕ) (i : ℕ) → w.at + length w.bytes ≤ length xs → (i < w.at) ⊎ (w.at + length w.bytes ≤ i) → get_or (overwritten xs w.at w.bytes) i 0 ≡ get_or xs i 0
over_out w xs i lies out =
    let front : length (take w.at xs) ≡ w.at = simp length-take (omega arith) in
    parts w xs i ∙ ⊎_elim
    (λ before. get_or-append (take w.at xs) (w.bytes ++ drop (w.at + length w.bytes) xs) 0 i (omega arith) ∙ get_or-take w.at xs i 0 before)
    (λ behind.
    let place : w.at + length w.bytes + (i - w.at - length w.bytes) ≡ i = omega arith in
    get_or-append_right (take w.at xs) (w.bytes ++ drop (w.at + length w.bytes) xs) i 0 (omega arith) ∙ (ap (λ (k : ℕ). get_or (w.bytes ++ drop (w.at + length w.bytes) xs) (i - k) 0) front
    ∙ (get_or-append_right w.bytes (drop (w.at + length w.bytes) xs) (i - w.at) 0 (omega arith) ∙ (get_or-drop (w.at + length w.bytes) xs (i - w.at - length w.bytes) 0 ∙ ap (λ (k : ℕ). get_or xs k 0) place))))
    out

pub part_in : (w : OnWindow) (i : ℕ) (ws : List OnWindow) → w.at ≤ i → i < w.at + length w.bytes → on_byte i (w ∷ ws) ≡ record { lsn = w.lsn; value = get_or w.bytes (i - w.at) 0 } ∷ on_byte i ws
part_in w i ws low high = grind (arith, nat_tests)

pub part_out : (w : OnWindow) (i : ℕ) (ws : List OnWindow) → (i < w.at) ⊎ (w.at + length w.bytes ≤ i) → on_byte i (w ∷ ws) ≡ on_byte i ws
part_out w i ws out = grind (arith, nat_tests)

pub place_or : (w : OnWindow) (i : ℕ) → ((w.at ≤ i) × (i < w.at + length w.bytes)) ⊎ ((i < w.at) ⊎ (w.at + length w.bytes ≤ i))
place_or w i = ⊎_elim (λ before. inr (inl before)) (λ low. ⊎_elim (λ high. inl (low, high)) (λ behind. inr (inr behind)) (cases_lt i (w.at + length w.bytes))) (cases_lt i w.at)

-- a byte of a window after the changes is what they make of it
pub replay_byte : (ws : List OnWindow) (xs : List ℕ) (i : ℕ) → AllLie (length xs) ws → get_or (replayed ws xs) i 0 ≡ rewritten (on_byte i ws) (get_or xs i 0)
replay_byte [] xs i lie = refl
replay_byte (w ∷ ws) xs i lie =
    let next = replay_byte ws (overwritten xs w.at w.bytes) i (subst (λ (n : ℕ). AllLie n ws) (sym (over_size w xs lie.0)) lie.1) in
    ⊎_elim
    (λ is. next ∙ (ap (rewritten (on_byte i ws)) (over_in w xs i lie.0 is.0 is.1) ∙ sym (ap (λ (l : List OnByte). rewritten l (get_or xs i 0)) (part_in w i ws is.0 is.1))))
    (λ out. next ∙ (ap (rewritten (on_byte i ws)) (over_out w xs i lie.0 out) ∙ sym (ap (λ (l : List OnByte). rewritten l (get_or xs i 0)) (part_out w i ws out))))
    (place_or w i)

replay_size : (ws : List OnWindow) (xs : List ℕ) → AllLie (length xs) ws → length (replayed ws xs) ≡ length xs
replay_size [] xs lie = refl
replay_size (w ∷ ws) xs lie = replay_size ws (overwritten xs w.at w.bytes) (subst (λ (n : ℕ). AllLie n ws) (sym (over_size w xs lie.0)) lie.1) ∙ over_size w xs lie.0

-- a covered byte is what the records make, whatever was there
covered_any : (ws : List OnByte) (x y : ℕ) → IsCovered ws → rewritten ws x ≡ rewritten ws y
covered_any [] x y covered = absurd covered
covered_any (w ∷ ws) x y covered = refl

pub bare_or : (ws : List OnByte) → IsCovered ws ⊎ (IsCovered ws → ⊥)
bare_or [] = inr (λ none. none)
bare_or (w ∷ ws) = inl tt

-- TWO WINDOWS that differ only in bytes that the changes cover are the same after them
pub converge : (ws : List OnWindow) (one other : List ℕ) → AllLie (length one) ws → IsSameBut ws one other → replayed ws one ≡ replayed ws other
converge ws one other lie same =
    let there = subst (λ (n : ℕ). AllLie n ws) same.long lie in
    ext_get_or 0 (replayed ws one) (replayed ws other) (replay_size ws one lie ∙ (same.long ∙ sym (replay_size ws other there)))
    (λ i lt. replay_byte ws one i lie
    ∙ (⊎_elim (λ covered. covered_any (on_byte i ws) (get_or one i 0) (get_or other i 0) covered) (λ bare. ap (rewritten (on_byte i ws)) (same.same i bare)) (bare_or (on_byte i ws))
    ∙ sym (replay_byte ws other i there)))
