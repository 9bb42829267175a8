-- Bytes by their places, as a list.
use Rattle.std.proofs.Common.{◌≡◌, ℕ, ◌+◌, ◌<◌, ◌≤◌, [], ◌∷◌, length, get_or, sym, ◌∙◌, ap, arith}
use Rattle.std.proofs.lemmas.List.{ext_get_or}
use Rattle.std.proofs.lemmas.List.FromFn.{length-map-range_with_len, get_or-map-range_with_len}
use Rattle.sg_base.specs.Overwritten.{overwritten}
use Rattle.sg_base.proofs.Overwriting.{length-overwritten}
use Rattle.sg_redo.specs.History.{rewritten}
use Rattle.sg_redo.specs.Window.{OnWindow, on_byte}
use Rattle.sg_redo.proofs.Bytes.{replay_byte}
use Rattle.sg_phys_laws.specs.Listed.{listed}

pub length-listed : (n : ℕ) (f : ℕ → ℕ) → length (listed n f) ≡ n
unfolding listed
length-listed n f = length-map-range_with_len f 0 n

pub get_or-listed : (n : ℕ) (f : ℕ → ℕ) (i : ℕ) → i < n → get_or (listed n f) i 0 ≡ f i
unfolding listed
get_or-listed n f i lt = get_or-map-range_with_len f 0 n i i 0 lt (omega arith)

-- the same bytes are the same list
pub same-listed : (n : ℕ) (f g : ℕ → ℕ) → ((i : ℕ) → i < n → f i ≡ g i) → listed n f ≡ listed n g
same-listed n f g same = ext_get_or 0 (listed n f) (listed n g) (length-listed n f ∙ sym (length-listed n g))
    (λ i below. let lt : i < n = (let e = length-listed n f in omega arith) in get_or-listed n f i lt ∙ (same i lt ∙ sym (get_or-listed n g i lt)))

-- bytes that a record writes are written over the list
pub listed_after : (n : ℕ) (f : ℕ → ℕ) (w : OnWindow) → w.at + length w.bytes ≤ n → listed n (λ i. rewritten (on_byte i (w ∷ [])) (f i)) ≡ overwritten (listed n f) w.at w.bytes
listed_after n f w lies =
    let g : ℕ → ℕ = λ i. rewritten (on_byte i (w ∷ [])) (f i) in
    let long = length-listed n f in
    let within : w.at + length w.bytes ≤ length (listed n f) = omega arith in
    ext_get_or 0 (listed n g) (overwritten (listed n f) w.at w.bytes) (length-listed n g ∙ (sym long ∙ sym (length-overwritten (listed n f) w.at w.bytes within)))
    (λ i below. let lt : i < n = (let e = length-listed n g in omega arith) in
    get_or-listed n g i lt ∙ (ap (λ (x : ℕ). rewritten (on_byte i (w ∷ [])) x) (sym (get_or-listed n f i lt)) ∙ sym (replay_byte (w ∷ []) (listed n f) i (within, tt))))
