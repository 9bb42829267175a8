-- A bucket has at most one page more than it has entries.
use Rattle.std.proofs.Common.{◌≡◌, ℕ, zero, suc, ◌+◌, ◌<◌, ◌≤◌, List, [], ◌∷◌, ◌++◌, length, Option, Some, None, subst, arith}
use Rattle.std.proofs.lemmas.List.{length-append}
use Rattle.sg_base.specs.Page.{cell_in}
use Rattle.sg_base.specs.Sheet.{Sheet}
use Rattle.sg_base.specs.Slots.{Slots}
use Rattle.sg_bucket.specs.Bucket.{Bucket, IsBucket, HasEntry, entries_of, part_at}
use Rattle.sg_bucket.specs.Part.{entries_in}

some_entry : (slots : Slots) (slot : ℕ) (cell : List ℕ) → cell_in slots slot ≡ Some cell → 1 ≤ length (entries_in slots)
some_entry [] slot cell e = absurd (cc)
some_entry (None ∷ slots) zero cell e = absurd (cc)
some_entry (None ∷ slots) (suc slot) cell e = some_entry slots slot cell e
some_entry (Some other ∷ slots) slot cell e = omega arith

all_have : (parts : List Slots) → ((i : ℕ) → i < length parts → HasEntry (part_at parts i)) → length parts ≤ length (entries_of parts)
all_have [] have = omega arith
all_have (slots ∷ parts) have =
    let here = have 0 (omega arith) in
    let one = some_entry slots here.slot here.cell here.is in
    let rest = all_have parts (λ i less. have (suc i) (omega arith)) in
    let sum : length (entries_in slots ++ entries_of parts) ≡ length (entries_in slots) + length (entries_of parts) = length-append (entries_in slots) (entries_of parts) in
    omega arith

but_first : (parts : List Slots) → ((i : ℕ) → i + 1 < length parts → HasEntry (part_at parts (i + 1))) → length parts ≤ 1 + length (entries_of parts)
but_first [] have = omega arith
but_first (slots ∷ parts) have =
    let rest = all_have parts (λ i less. subst (λ (n : ℕ). HasEntry (part_at (slots ∷ parts) n)) (let e : i + 1 ≡ suc i = omega arith in e) (have i (omega arith))) in
    let sum : length (entries_in slots ++ entries_of parts) ≡ length (entries_in slots) + length (entries_of parts) = length-append (entries_in slots) (entries_of parts) in
    omega arith

pub few_more : {at : ℕ → Option Sheet} {first : ℕ} {b : Bucket} → IsBucket at first b → length b.pages ≤ 1 + length (entries_of b.parts)
few_more {b = b} h =
    let long = h.linked.long in
    let few = but_first b.parts (λ i less. h.full i (omega arith)) in
    omega arith
