-- What an operation keeps of a page.
use Rattle.std.proofs.Common.{◌≡◌, ℕ, ◌+◌, ◌*◌, ◌<◌, ◌≤◌, ◌==◌, Bool, true, false, cond, if◌then◌else◌, List, [], ◌∷◌, ◌++◌, length, set, Option, Some, None, option_map, IfSome, refl, sym, ap, ◌∙◌, subst, arith}
use Rattle.std.proofs.lemmas.Bool.Decides.{nat_tests}
use Rattle.std.proofs.lemmas.List.{length-set, length_push}
use Rattle.sg_base.specs.Page.{cell_in, cell_size, stored, bytes_of}
use Rattle.sg_base.specs.Bytes.{IsBytes}
use Rattle.sg_ops.specs.Meaning.{RecordMeaning}
use Rattle.sg_ops.specs.Laws.{IsLawful}
use Rattle.sg_ops.proofs.Lookups.{after_bytes, before_bytes, after_long, before_long}
use Rattle.sg_ops.specs.Table.{Table, record_at, after_of, before_of}
use Rattle.sg_slotted.proofs.Room.{bytes_with, bytes_without, bytes_of-set, bytes_of-push}
use Rattle.sg_base.specs.Slots.{cell_bytes, put_in, set_in, remove_in}
use Rattle.sg_base.specs.Sheet.{Sheet, Seen, seen, HasBytes}
use Rattle.sg_base.specs.Op.{Op, is_format, opens, shrinks}
use Rattle.sg_ops.specs.Steps.{item_after, item_before, change_in, step, IsProper}
use Rattle.sg_base.specs.Op.Op.{Format, Put, Remove, Set, Links, Item, ItemBack}
use Rattle.sg_step.proofs.Steps.{but, seen_step, step_seen, slots_some, put_is, set_is, remove_is, redone_is, undone_is, change_is}
use Rattle.sg_step.proofs.Back.{if_bytes}

but_bytes : (f : ℕ → Option (List ℕ)) (i : ℕ) (v : Option (List ℕ)) → ((j : ℕ) → IfSome (f j) IsBytes) → IfSome v IsBytes → (j : ℕ) → IfSome (but f i v j) IsBytes
but_bytes f i v h g j = by (j == i)
  where
    by : (b : Bool) → IfSome (cond b v (f j)) IsBytes
    by true = g
    by false = h j

-- the cells stay bytes
pub keeps_bytes : (t : Table) → IsLawful t → (op : Op) (p new : Sheet) → HasBytes p → IsProper t op p → step t op p ≡ Some new → HasBytes new
keeps_bytes t law op p new bytes ok e = subst (λ (s : Seen). (slot : ℕ) → IfSome (s.cells slot) IsBytes) (sym (step_seen t op p new e)) (by op ok e)
  where
    by : (op : Op) → IsProper t op p → step t op p ≡ Some new → (slot : ℕ) → IfSome ((seen_step t op (seen p)).cells slot) IsBytes
    by (Format kind) ok e = λ i. tt
    by (Put slot cell) ok e = but_bytes (cell_in p.slots) slot (Some cell) bytes ok.bytes
    by (Remove slot) ok e = but_bytes (cell_in p.slots) slot None bytes tt
    by (Set slot cell) ok e = but_bytes (cell_in p.slots) slot (Some cell) bytes ok.bytes
    by (Links ab) ok e = bytes
    by (Item slot code arg) ok e =
        let h = slots_some p new (change_in p.slots slot (item_after (record_at t code) arg)) e in
        let w = change_is p.slots new.slots slot (item_after (record_at t code) arg) h.slots in
        let was : List ℕ = cell_bytes (cell_in p.slots slot) in
        let g = redone_is (record_at t code) arg was w.cell w.made in
        but_bytes (cell_in p.slots) slot (option_map (λ c. after_of (record_at t code) c arg) (cell_in p.slots slot)) bytes
        (subst (λ (o : Option (List ℕ)). IfSome (option_map (λ c. after_of (record_at t code) c arg) o) IsBytes) (sym w.full)
        (after_bytes (record_at t code) was arg (law.undoable code) (if_bytes was (cell_in p.slots slot) w.full (bytes slot)) ok.bytes g.accepted))
    by (ItemBack slot code arg) ok e =
        let h = slots_some p new (change_in p.slots slot (item_before (record_at t code) arg)) e in
        let w = change_is p.slots new.slots slot (item_before (record_at t code) arg) h.slots in
        let was : List ℕ = cell_bytes (cell_in p.slots slot) in
        but_bytes (cell_in p.slots) slot (option_map (λ c. before_of (record_at t code) c arg) (cell_in p.slots slot)) bytes
        (subst (λ (o : Option (List ℕ)). IfSome (option_map (λ c. before_of (record_at t code) c arg) o) IsBytes) (sym w.full)
        (before_bytes (record_at t code) was arg (law.undoable code) (if_bytes was (cell_in p.slots slot) w.full (bytes slot)) ok.bytes))

-- Numbers of slots and bytes of cells after an operation that fits.
pub record Sizes (op : Op) (p new : Sheet) : Type 0 where
  -- no operation but a format closes a slot
  pub no_fewer : length p.slots ≤ length new.slots
  pub opened : opens op p ≡ true → length new.slots ≡ length p.slots + 1
  pub none_opened : opens op p ≡ false → length new.slots ≡ length p.slots
  pub fit : 4 * length p.slots + stored p.slots ≤ 4072 → 4 * length new.slots + stored new.slots ≤ 4072
  pub no_less : shrinks op p ≡ false → stored p.slots ≤ stored new.slots

by_set : (op : Op) (p new : Sheet) (slot : ℕ) (v : Option (List ℕ)) → new.slots ≡ set p.slots slot v → opens op p ≡ false → (4 * length p.slots + stored p.slots ≤ 4072 → bytes_of new.slots ≤ 4072)
    → (shrinks op p ≡ false → bytes_of p.slots ≤ bytes_of new.slots) → Sizes op p new
by_set op p new slot v e opens_none fit more =
    let long : length new.slots ≡ length p.slots = ap length e ∙ length-set p.slots slot v in
    record { no_fewer = omega arith; opened = λ o. absurd (cc); none_opened = λ o. long; fit = fit; no_less = λ s. let m : bytes_of p.slots ≤ bytes_of new.slots = more s in omega arith }

pub sizes : (t : Table) → IsLawful t → (op : Op) (p new : Sheet) → is_format op ≡ false → HasBytes p → IsProper t op p → step t op p ≡ Some new → Sizes op p new
sizes t law (Format kind) p new plain bytes ok e = absurd (cc)
sizes t law (Put slot cell) p new plain bytes ok e =
    let h = slots_some p new (put_in p.slots slot cell) e in
    let g = put_is p.slots new.slots slot cell h.slots in
    let room : bytes_of new.slots ≤ 4072 = g.room in
    by (slot == length p.slots) refl g.is g.next g.empty room
  where
    by : (b : Bool) → (slot == length p.slots) ≡ b → new.slots ≡ (if b then p.slots ++ (Some cell ∷ []) else set p.slots slot (Some cell)) → slot ≤ length p.slots → cell_in p.slots slot ≡ None → bytes_of new.slots ≤ 4072 → Sizes (Put slot cell) p new
    by true s is next empty room =
        let more : length new.slots ≡ length p.slots + 1 = ap length is ∙ length_push p.slots (Some cell) in
        let b : bytes_of new.slots ≡ bytes_of p.slots + (4 + length cell) = ap bytes_of is ∙ bytes_of-push p.slots (Some cell) in
        record { no_fewer = omega arith; opened = λ o. more; none_opened = λ o. absurd (cc); fit = λ f. room; no_less = λ f. omega arith }
    by false s is next empty room =
        let below : slot < length p.slots = grind (arith, nat_tests, s, next) in
        let size : cell_size (cell_in p.slots slot) ≡ 0 = ap cell_size empty in
        let with : bytes_of (set p.slots slot (Some cell)) + cell_size (cell_in p.slots slot) ≡ bytes_of p.slots + length cell = bytes_of-set p.slots slot (Some cell) below in
        let b : bytes_of new.slots ≡ bytes_of (set p.slots slot (Some cell)) = ap bytes_of is in
        by_set (Put slot cell) p new slot (Some cell) is s (λ f. room) (λ f. omega arith)
sizes t law (Remove slot) p new plain bytes ok e =
    let h = slots_some p new (remove_in p.slots slot) e in
    let g = remove_is p.slots new.slots slot h.slots in
    let without : bytes_of (set p.slots slot None) + length (cell_bytes (cell_in p.slots slot)) ≡ bytes_of p.slots = bytes_without p.slots slot (cell_bytes (cell_in p.slots slot)) (sym g.full) in
    let b : bytes_of new.slots ≡ bytes_of (set p.slots slot None) = ap bytes_of g.is in
    by_set (Remove slot) p new slot None g.is refl (λ f. omega arith) (λ f. absurd (cc))
sizes t law (Set slot cell) p new plain bytes ok e =
    let h = slots_some p new (set_in p.slots slot cell) e in
    let g = set_is p.slots new.slots slot cell h.slots in
    let was : List ℕ = cell_bytes (cell_in p.slots slot) in
    let with : bytes_of (set p.slots slot (Some cell)) + length was ≡ bytes_of p.slots + length cell = bytes_with p.slots slot was cell (sym g.full) in
    let b : bytes_of new.slots ≡ bytes_of (set p.slots slot (Some cell)) = ap bytes_of g.is in
    by_set (Set slot cell) p new slot (Some cell) g.is refl (λ f. g.room) (λ f. let more : length was ≤ length cell = grind (arith, nat_tests, f) in omega arith)
sizes t law (Links ab) p new plain bytes ok e =
    let is : new ≡ record p { links = ab } = cc in
    let same : new.slots ≡ p.slots = ap (λ (s : Sheet). s.slots) is in
    let long : length new.slots ≡ length p.slots = ap length same in
    let cells : stored new.slots ≡ stored p.slots = ap stored same in
    record { no_fewer = omega arith; opened = λ o. absurd (cc); none_opened = λ o. long; fit = λ f. omega arith; no_less = λ f. omega arith }
sizes t law (Item slot code arg) p new plain bytes ok e =
    let op : Option RecordMeaning = record_at t code in
    let h = slots_some p new (change_in p.slots slot (item_after op arg)) e in
    let w = change_is p.slots new.slots slot (item_after op arg) h.slots in
    let was : List ℕ = cell_bytes (cell_in p.slots slot) in
    let g = redone_is op arg was w.cell w.made in
    let size : length w.cell ≡ length was = ap length g.is ∙ after_long op was arg (law.undoable code) (if_bytes was (cell_in p.slots slot) w.full (bytes slot)) ok.bytes g.accepted in
    let with : bytes_of (set p.slots slot (Some w.cell)) + length was ≡ bytes_of p.slots + length w.cell = bytes_with p.slots slot was w.cell (sym w.full) in
    let b : bytes_of new.slots ≡ bytes_of (set p.slots slot (Some w.cell)) = ap bytes_of w.is in
    by_set (Item slot code arg) p new slot (Some w.cell) w.is refl (λ f. omega arith) (λ f. omega arith)
sizes t law (ItemBack slot code arg) p new plain bytes ok e =
    let op : Option RecordMeaning = record_at t code in
    let h = slots_some p new (change_in p.slots slot (item_before op arg)) e in
    let w = change_is p.slots new.slots slot (item_before op arg) h.slots in
    let was : List ℕ = cell_bytes (cell_in p.slots slot) in
    let g = undone_is op arg was w.cell w.made in
    let size : length w.cell ≡ length was = ap length g.is ∙ before_long op was arg (law.undoable code) (if_bytes was (cell_in p.slots slot) w.full (bytes slot)) ok.bytes in
    let with : bytes_of (set p.slots slot (Some w.cell)) + length was ≡ bytes_of p.slots + length w.cell = bytes_with p.slots slot was w.cell (sym w.full) in
    let b : bytes_of new.slots ≡ bytes_of (set p.slots slot (Some w.cell)) = ap bytes_of w.is in
    by_set (ItemBack slot code arg) p new slot (Some w.cell) w.is refl (λ f. omega arith) (λ f. omega arith)
