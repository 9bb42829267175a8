-- The bytes of a table's entries are few enough to be counted.
use Rattle.std.proofs.Common.{◌≡◌, ℕ, suc, ◌+◌, ◌-◌, ◌*◌, ◌<◌, ◌≤◌, min, List, [], ◌∷◌, ◌++◌, length, take, drop, Option, Some, None, ap, refl, arith, subst, slice_get, length-append, length-drop}
use Rattle.std.specs.List.{sum_by}
use Rattle.std.proofs.lemmas.List.{length-take}
use Rattle.std.proofs.lemmas.List.Sums.{sum_by-cons, sum_by-append}
use Rattle.sg_base.specs.Sheet.{Sheet}
use Rattle.sg_base.specs.Slots.{Slots}
use Rattle.sg_bucket.specs.Bucket.{Bucket, IsLinked, entries_of, part_at}
use Rattle.sg_bucket.specs.Entry.{Entry, IsEntryCell, entry_in, entry_size, key_size}
use Rattle.sg_bucket.specs.Part.{AreEntries, entries_in}
use Rattle.sg_hash.proofs.Trunks.{one_there}
use Rattle.sg_hash.specs.Table.{HashTable, IsBuilt, Numbers, all_entries, byte_count}

-- the entry in a cell has at most 1,156 bytes
cell_small : (cell : List ℕ) → IsEntryCell cell → entry_size (entry_in cell) ≤ 1156
cell_small cell h =
    let whole = h.whole in
    let key = h.key in
    let value = h.value in
    let long : length (take (key_size cell) (drop 4 cell)) ≡ min (key_size cell) (length (drop 4 cell)) = length-take (key_size cell) (drop 4 cell) in
    let rest : length (drop (4 + key_size cell) cell) ≡ length cell - (4 + key_size cell) = length-drop (4 + key_size cell) cell in
    omega arith

slots_small : (slots : Slots) → AreEntries slots → byte_count (entries_in slots) ≤ 1156 * length (entries_in slots)
slots_small [] h = omega arith
slots_small (None ∷ slots) h = slots_small slots (λ slot. h (suc slot))
slots_small (Some cell ∷ slots) h =
    let rest = slots_small slots (λ slot. h (suc slot)) in
    let one = cell_small cell (h 0 cell refl) in
    let sum : sum_by entry_size (entry_in cell ∷ entries_in slots) ≡ entry_size (entry_in cell) + sum_by entry_size (entries_in slots) = sum_by-cons entry_size (entry_in cell) (entries_in slots) in
    let more : 1156 * suc (length (entries_in slots)) ≡ 1156 * length (entries_in slots) + 1156 = omega arith in
    omega arith

-- lists one behind the other
joined : (xs ys : List Entry) → byte_count xs ≤ 1156 * length xs → byte_count ys ≤ 1156 * length ys → byte_count (xs ++ ys) ≤ 1156 * length (xs ++ ys)
joined xs ys h k =
    let sum : sum_by entry_size (xs ++ ys) ≡ sum_by entry_size xs + sum_by entry_size ys = sum_by-append entry_size xs ys in
    let long : length (xs ++ ys) ≡ length xs + length ys = length-append xs ys in
    let more : 1156 * (length xs + length ys) ≡ 1156 * length xs + 1156 * length ys = omega arith in
    let all : 1156 * length (xs ++ ys) ≡ 1156 * (length xs + length ys) = ap (λ (n : ℕ). 1156 * n) long in
    omega arith

parts_small : (parts : List Slots) → ((i : ℕ) → i < length parts → AreEntries (part_at parts i)) → byte_count (entries_of parts) ≤ 1156 * length (entries_of parts)
parts_small [] h = omega arith
parts_small (slots ∷ parts) h = joined (entries_in slots) (entries_of parts) (slots_small slots (h 0 (omega arith))) (parts_small parts (λ i below. h (suc i) (omega arith)))

bucket_small : {at : ℕ → Option Sheet} {first : ℕ} {b : Bucket} → IsLinked at first b → byte_count (entries_of b.parts) ≤ 1156 * length (entries_of b.parts)
bucket_small {b = b} h = parts_small b.parts (λ i below.
    let long = h.long in
    let page = one_there b.pages i (omega arith) in
    let part = h.part i page.0 page.1 in
    subst AreEntries part.has.slots_are part.has.page.cells)

all_small : (bs : List Bucket) → ((i : ℕ) (b : Bucket) → slice_get bs i ≡ Some b → byte_count (entries_of b.parts) ≤ 1156 * length (entries_of b.parts)) → byte_count (all_entries bs) ≤ 1156 * length (all_entries bs)
all_small [] h = omega arith
all_small (b ∷ bs) h = joined (entries_of b.parts) (all_entries bs) (h 0 b refl) (all_small bs (λ i. h (suc i)))

pub table_small : {at : ℕ → Option Sheet} {root : ℕ} {n : Numbers} {t : HashTable} → IsBuilt at root n t → byte_count (all_entries t.buckets) ≤ 1156 * length (all_entries t.buckets)
table_small {t = t} h = all_small t.buckets (λ i b e. bucket_small (h.bucket i b e).linked)
