-- The cell that is spelled for an entry holds it.
use Rattle.std.proofs.Common.{◌≡◌, ℕ, ◌+◌, List, ◌++◌, length, take, drop, sym, ap, subst, ◌∙◌, refl, arith}
use Rattle.std.proofs.lemmas.List.{append_assoc, length-append, drop-drop, take_at, drop_at}
use Rattle.byteorder.specs.Endian.{little_bytes}
use Rattle.byteorder.specs.Numbers.{little_number-reads_back}
use Rattle.sg_base.specs.Overwritten.{Wrote}
use Rattle.sg_base.proofs.Overwriting.{wrote_on, wrote_front}
use Rattle.sg_bucket.specs.Entry.{Entry, IsSmall, IsEntryCell, cell_of, entry_in, key_size, value_size}

pub key_spelled : (e : Entry) → IsSmall e → key_size (cell_of e) ≡ length e.key
key_spelled e h = let small = h.key in little_number-reads_back 2 (length e.key) (little_bytes 2 (length e.value) ++ (e.key ++ e.value)) (omega arith)

value_spelled : (e : Entry) → IsSmall e → value_size (cell_of e) ≡ length e.value
value_spelled e h = let small = h.value in little_number-reads_back 2 (length e.value) (e.key ++ e.value) (omega arith)

pub cell_long : (e : Entry) → length (cell_of e) ≡ 4 + (length e.key + length e.value)
cell_long e = let sum : length (e.key ++ e.value) ≡ length e.key + length e.value = length-append e.key e.value in omega arith

pub spelled_entry : (e : Entry) → IsSmall e → IsEntryCell (cell_of e)
spelled_entry e h =
    let k = key_spelled e h in
    let v = value_spelled e h in
    let long = cell_long e in
    let a = h.key in
    let b = h.value in
    record { whole = omega arith; key = omega arith; value = omega arith }

pub spelled_is : (e : Entry) → IsSmall e → entry_in (cell_of e) ≡ e
spelled_is e h =
    let k = key_spelled e h in
    let key : take (key_size (cell_of e)) (e.key ++ e.value) ≡ e.key = ap (λ (n : ℕ). take n (e.key ++ e.value)) k ∙ take_at e.key e.value (length e.key) refl in
    let value : drop (4 + key_size (cell_of e)) (cell_of e) ≡ e.value = sym (drop-drop (key_size (cell_of e)) 4 (cell_of e)) ∙ (ap (λ (n : ℕ). drop n (e.key ++ e.value)) k ∙ drop_at e.key e.value (length e.key) refl) in
    λ i. record { key = key i; value = value i }

-- the front of a buffer that spells an entry is its cell
pub front_entry : (n : ℕ) (into : List ℕ) (e : Entry) → IsSmall e → take n into ≡ cell_of e → IsEntryCell (take n into)
front_entry n into e small h = subst IsEntryCell (sym h) (spelled_entry e small)

pub front_is : (n : ℕ) (into : List ℕ) (e : Entry) → IsSmall e → take n into ≡ cell_of e → entry_in (take n into) ≡ e
front_is n into e small h = ap entry_in h ∙ spelled_is e small

-- four writes, one behind another, are the cell
pub spelled_front : {old a b c new : List ℕ} {p q r end : ℕ} (e : Entry) → Wrote old 0 (little_bytes 2 (length e.key)) a p → Wrote a p (little_bytes 2 (length e.value)) b q → Wrote b q e.key c r → Wrote c r e.value new end → take end new ≡ cell_of e
spelled_front {new = new} {end = end} e w x y z =
    let all = wrote_on (omega arith) (wrote_on (omega arith) (wrote_on (omega arith) w x) y) z in
    let front = wrote_front all in
    let k : List ℕ = little_bytes 2 (length e.key) in
    let v : List ℕ = little_bytes 2 (length e.value) in
    let shape : ((k ++ v) ++ e.key) ++ e.value ≡ cell_of e = append_assoc (k ++ v) e.key e.value ∙ append_assoc k v (e.key ++ e.value) in
    let place = all.place in
    ap (take end) front ∙ (take_at (((k ++ v) ++ e.key) ++ e.value) _ end (omega arith) ∙ shape)
