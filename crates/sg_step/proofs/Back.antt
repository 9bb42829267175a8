-- The inverse of an operation, on a page alike to the one that it left.
use Rattle.std.proofs.Common.{◌≡◌, ℕ, ◌+◌, ◌*◌, ◌<◌, ◌≤◌, ◌==◌, ◌&&◌, nat_le, Bool, true, false, if◌then◌else◌, List, length, set, Option, Some, None, option_map, is_some, is_none, IfSome, refl, sym, ap, ◌∙◌, subst, arith}
use Rattle.std.proofs.lemmas.Bool.Decides.{nat_tests}
use Rattle.std.proofs.lemmas.List.{length-set}
use Rattle.sg_base.specs.Page.{cell_in, stored, bytes_of}
use Rattle.sg_base.specs.Bytes.{IsBytes}
use Rattle.std.specs.Prelude.{option_and_then}
use Rattle.sg_ops.specs.Meaning.{RecordMeaning}
use Rattle.sg_ops.specs.Laws.{IsLawful, undone}
use Rattle.sg_ops.proofs.Lookups.{known_if}
use Rattle.sg_ops.specs.Table.{Table, record_at, accepts_of, after_of, before_of}
use Rattle.sg_slotted.proofs.Room.{full_below}
use Rattle.sg_base.specs.Slots.{Slots, cell_bytes, with_cell, where_room, put_in, set_in, remove_in}
use Rattle.sg_base.specs.Sheet.{Sheet, Seen, seen, HasBytes}
use Rattle.sg_base.specs.Op.{Op, is_format}
use Rattle.sg_ops.specs.Steps.{item_after, item_before, change_in, with_slots, step, inverse, IsLeft, IsProper}
use Rattle.sg_base.specs.Op.Op.{Format, Put, Remove, Set, Links, Item, ItemBack}
use Rattle.sg_step.proofs.Steps.{but, but_here, but_but, but_same, cells_set, stored_seen, step_seen, slots_some, put_is, set_is, remove_is, redone_is, change_is, full_there}

-- what the inverse of an operation leaves
pub record IsBack (t : Table) (op : Op) (p q : Sheet) : Type 0 where
  pub end : Sheet
  pub done : step t (inverse op p) q ≡ Some end
  pub alike : seen end ≡ seen p
  pub long : length end.slots ≡ length q.slots

-- where calls fit
pub removes : (slots : Slots) (i : ℕ) (c : List ℕ) → cell_in slots i ≡ Some c → remove_in slots i ≡ Some (set slots i None)
removes slots i c e = ap (λ (o : Option (List ℕ)). if is_some o then Some (set slots i None) else None) e

pub has_room : (xs : Slots) → bytes_of xs ≤ 4072 → where_room xs ≡ Some xs
has_room xs h = let e : nat_le (bytes_of xs) 4072 ≡ true = grind (arith, nat_tests, h) in rw e refl

pub sets : (slots : Slots) (i : ℕ) (c new : List ℕ) → cell_in slots i ≡ Some c → bytes_of (set slots i (Some new)) ≤ 4072 → set_in slots i new ≡ Some (set slots i (Some new))
sets slots i c new e h = ap (λ (o : Option (List ℕ)). if is_some o then where_room (set slots i (Some new)) else None) e ∙ has_room (set slots i (Some new)) h

pub puts : (slots : Slots) (i : ℕ) (new : List ℕ) → i < length slots → cell_in slots i ≡ None → bytes_of (set slots i (Some new)) ≤ 4072 → put_in slots i new ≡ Some (set slots i (Some new))
puts slots i new below e h =
    let test : (nat_le i (length slots)) ≡ true = grind (arith, nat_tests, below) in
    let other : (i == length slots) ≡ false = grind (arith, nat_tests, below) in
    let there : with_cell slots i new ≡ set slots i (Some new) = rw other refl in
    ap (λ (o : Option (List ℕ)). if nat_le i (length slots) && is_none o then where_room (with_cell slots i new) else None) e
    ∙ (ap (λ (b : Bool). if b && true then where_room (with_cell slots i new) else None) test ∙ (ap where_room there ∙ has_room (set slots i (Some new)) h))

pub changes : (slots : Slots) (i : ℕ) (change : List ℕ → Option (List ℕ)) (c new : List ℕ) → cell_in slots i ≡ Some c → change c ≡ Some new → change_in slots i change ≡ Some (set slots i (Some new))
changes slots i change c new e made =
    ap (λ (o : Option (List ℕ)). option_map (λ (cell : List ℕ). set slots i (Some cell)) (option_and_then change o)) e
    ∙ ap (option_map (λ (cell : List ℕ). set slots i (Some cell))) made

pub accepted_after : (op : Option RecordMeaning) (arg item : List ℕ) → accepts_of op item arg ≡ true → item_after op arg item ≡ Some (after_of op item arg)
accepted_after op arg item ok = ap (λ (b : Bool). if b then Some (after_of op item arg) else None) ok

pub known_before : (op : Option RecordMeaning) (arg item : List ℕ) → is_some op ≡ true → item_before op arg item ≡ Some (before_of op item arg)
known_before op arg item ok = ap (λ (b : Bool). if b then Some (before_of op item arg) else None) ok

-- one cell put back as it was
pub record IsRestored (p q : Sheet) (slot : ℕ) (v : Option (List ℕ)) : Type 0 where
  pub alike : seen (record q { slots = set q.slots slot v }) ≡ seen p
  pub long : length (set q.slots slot v) ≡ length q.slots
  pub bytes : bytes_of (set q.slots slot v) ≡ 4 * length q.slots + stored p.slots

pub restored : (p q : Sheet) (slot : ℕ) (u v : Option (List ℕ)) → seen q ≡ record (seen p) { cells = but (cell_in p.slots) slot u } → slot < length q.slots → cell_in p.slots slot ≡ v → IsRestored p q slot v
restored p q slot u v e below was =
    let cells : cell_in (set q.slots slot v) ≡ cell_in p.slots = cells_set q.slots slot v below
    ∙ (ap (λ (s : Seen). but s.cells slot v) e ∙ (but_but (cell_in p.slots) slot u v ∙ but_same (cell_in p.slots) slot v was)) in
    let long : length (set q.slots slot v) ≡ length q.slots = length-set q.slots slot v in
    let same : stored (set q.slots slot v) ≡ stored p.slots = stored_seen (set q.slots slot v) p.slots cells in
    record { alike = ap (λ (s : Seen). record s { cells = cell_in (set q.slots slot v) }) e ∙ ap (λ (f : ℕ → Option (List ℕ)). record (seen p) { cells = f }) cells; long = long; bytes = omega arith }

-- what stands in the cell now
now_there : (p q : Sheet) (slot : ℕ) (u : Option (List ℕ)) → seen q ≡ record (seen p) { cells = but (cell_in p.slots) slot u } → cell_in q.slots slot ≡ u
now_there p q slot u e = ap (λ (s : Seen). s.cells slot) e ∙ but_here (cell_in p.slots) slot u

some_below : (slots : Slots) (i : ℕ) (c : List ℕ) → cell_in slots i ≡ Some c → i < length slots
some_below slots i c e = full_below slots i c (sym e)

by_slots : (t : Table) (op : Op) (p q : Sheet) (slot : ℕ) (v : Option (List ℕ)) (answer : Option Slots) → step t (inverse op p) q ≡ with_slots q answer → answer ≡ Some (set q.slots slot v) → IsRestored p q slot v → IsBack t op p q
by_slots t op p q slot v answer s e r = record { end = record q { slots = set q.slots slot v }; done = s ∙ ap (with_slots q) e; alike = r.alike; long = r.long }

if_left : (op : Option RecordMeaning) (arg c : List ℕ) (o : Option (List ℕ)) → o ≡ Some c → IfSome o (IsLeft op arg) → IsLeft op arg c
if_left op arg c o e h = subst (λ (x : Option (List ℕ)). IfSome x (IsLeft op arg)) e h

pub if_bytes : (c : List ℕ) (o : Option (List ℕ)) → o ≡ Some c → IfSome o IsBytes → IsBytes c
if_bytes c o e h = subst (λ (x : Option (List ℕ)). IfSome x IsBytes) e h

-- The inverse fits a page alike to the one that the operation left, with no fewer slots than were there before it, where that page's directory and the cells
-- that were there before it have room; it leaves a page alike to the one before it, and opens no slot.
pub back : (t : Table) → IsLawful t → (op : Op) (p new q : Sheet) → is_format op ≡ false → HasBytes p → IsProper t op p → step t op p ≡ Some new → seen q ≡ seen new
    → length p.slots ≤ length q.slots → 4 * length q.slots + stored p.slots ≤ 4072 → IsBack t op p q
back t law (Format kind) p new q plain bytes ok e alike long room = absurd (cc)
back t law (Put slot cell) p new q plain bytes ok e alike long room =
    let h = slots_some p new (put_in p.slots slot cell) e in
    let g = put_is p.slots new.slots slot cell h.slots in
    let s : seen q ≡ record (seen p) { cells = but (cell_in p.slots) slot (Some cell) } = alike ∙ step_seen t (Put slot cell) p new e in
    let there : cell_in q.slots slot ≡ Some cell = now_there p q slot (Some cell) s in
    let r = restored p q slot (Some cell) None s (some_below q.slots slot cell there) g.empty in
    by_slots t (Put slot cell) p q slot None (remove_in q.slots slot) refl (removes q.slots slot cell there) r
back t law (Remove slot) p new q plain bytes ok e alike long room =
    let h = slots_some p new (remove_in p.slots slot) e in
    let g = remove_is p.slots new.slots slot h.slots in
    let was : List ℕ = cell_bytes (cell_in p.slots slot) in
    let s : seen q ≡ record (seen p) { cells = but (cell_in p.slots) slot None } = alike ∙ step_seen t (Remove slot) p new e in
    let there : cell_in q.slots slot ≡ None = now_there p q slot None s in
    let below : slot < length p.slots = full_there p.slots slot g.full in
    let r = restored p q slot None (Some was) s (omega arith) g.full in
    let b : bytes_of (set q.slots slot (Some was)) ≡ 4 * length q.slots + stored p.slots = r.bytes in
    by_slots t (Remove slot) p q slot (Some was) (put_in q.slots slot was) refl (puts q.slots slot was (omega arith) there (omega arith)) r
back t law (Set slot cell) p new q plain bytes ok e alike long room =
    let h = slots_some p new (set_in p.slots slot cell) e in
    let g = set_is p.slots new.slots slot cell h.slots in
    let was : List ℕ = cell_bytes (cell_in p.slots slot) in
    let s : seen q ≡ record (seen p) { cells = but (cell_in p.slots) slot (Some cell) } = alike ∙ step_seen t (Set slot cell) p new e in
    let there : cell_in q.slots slot ≡ Some cell = now_there p q slot (Some cell) s in
    let r = restored p q slot (Some cell) (Some was) s (some_below q.slots slot cell there) g.full in
    let b : bytes_of (set q.slots slot (Some was)) ≡ 4 * length q.slots + stored p.slots = r.bytes in
    by_slots t (Set slot cell) p q slot (Some was) (set_in q.slots slot was) refl (sets q.slots slot cell was there (omega arith)) r
back t law (Links ab) p new q plain bytes ok e alike long room =
    let s : seen q ≡ record (seen p) { links = ab } = alike ∙ step_seen t (Links ab) p new e in
    record { end = record q { links = p.links }; done = refl; alike = ap (λ (s : Seen). record s { links = p.links }) s; long = refl }
back t law (Item slot code arg) p new q plain bytes ok e alike long room =
    let op : Option RecordMeaning = record_at t code in
    let h = slots_some p new (change_in p.slots slot (item_after op arg)) e in
    let w = change_is p.slots new.slots slot (item_after op arg) h.slots in
    let was : List ℕ = cell_bytes (cell_in p.slots slot) in
    let g = redone_is op arg was w.cell w.made in
    let left : List ℕ = after_of op was arg in
    let s : seen q ≡ record (seen p) { cells = but (cell_in p.slots) slot (Some left) } = alike ∙ (step_seen t (Item slot code arg) p new e
    ∙ ap (λ (o : Option (List ℕ)). record (seen p) { cells = but (cell_in p.slots) slot (option_map (λ c. after_of op c arg) o) }) w.full) in
    let there : cell_in q.slots slot ≡ Some left = now_there p q slot (Some left) s in
    let r = restored p q slot (Some left) (Some was) s (some_below q.slots slot left there) w.full in
    let again : before_of op left arg ≡ was = undone op was arg (law.undoable code) (if_bytes was (cell_in p.slots slot) w.full (bytes slot)) ok.bytes g.accepted in
    by_slots t (Item slot code arg) p q slot (Some was) (change_in q.slots slot (item_before op arg)) refl
    (changes q.slots slot (item_before op arg) left was there (known_before op arg left (known_if op arg was g.accepted) ∙ ap (λ (x : List ℕ). Some x) again)) r
back t law (ItemBack slot code arg) p new q plain bytes ok e alike long room =
    let op : Option RecordMeaning = record_at t code in
    let h = slots_some p new (change_in p.slots slot (item_before op arg)) e in
    let w = change_is p.slots new.slots slot (item_before op arg) h.slots in
    let was : List ℕ = cell_bytes (cell_in p.slots slot) in
    let l = if_left op arg was (cell_in p.slots slot) w.full ok.done in
    let gone : List ℕ = before_of op was arg in
    let item : gone ≡ l.item = ap (λ (x : List ℕ). before_of op x arg) l.left ∙ undone op l.item arg (law.undoable code) l.bytes ok.bytes l.accepted in
    let s : seen q ≡ record (seen p) { cells = but (cell_in p.slots) slot (Some gone) } = alike ∙ (step_seen t (ItemBack slot code arg) p new e
    ∙ ap (λ (o : Option (List ℕ)). record (seen p) { cells = but (cell_in p.slots) slot (option_map (λ c. before_of op c arg) o) }) w.full) in
    let there : cell_in q.slots slot ≡ Some gone = now_there p q slot (Some gone) s in
    let r = restored p q slot (Some gone) (Some was) s (some_below q.slots slot gone there) w.full in
    let again : after_of op gone arg ≡ was = ap (λ (x : List ℕ). after_of op x arg) item ∙ sym l.left in
    let ok_again : accepts_of op gone arg ≡ true = ap (λ (x : List ℕ). accepts_of op x arg) item ∙ l.accepted in
    by_slots t (ItemBack slot code arg) p q slot (Some was) (change_in q.slots slot (item_after op arg)) refl
    (changes q.slots slot (item_after op arg) gone was there (accepted_after op arg gone ok_again ∙ ap (λ (x : List ℕ). Some x) again)) r
