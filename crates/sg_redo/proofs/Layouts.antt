-- What each call of a page of slots leaves, by its layout: the slots, the header, and a page of slots again.
use Rattle.std.proofs.Common.{◌≡◌, ◌≢◌, ℕ, zero, suc, ◌+◌, ◌-◌, ◌*◌, ◌==◌, ◌^◌, ◌<◌, ◌≤◌, ◌⊎◌, inl, inr, ⊎_elim, true, false, nat_lt, List, [], ◌∷◌, ◌++◌, length, length-append, length-set, set, get_or, get_or-set_same, add-one, Option, Some, None, refl, sym, ap, ◌∙◌, subst, arith}
use Rattle.std.proofs.Math.Seq.{take-length}
use Rattle.std.proofs.lemmas.Bool.{cases_lt, cases_eq}
use Rattle.std.proofs.lemmas.Bool.Decides.{nat_tests}
use Rattle.byteorder.specs.Endian.{little_bytes, little_number}
use Rattle.byteorder.specs.Numbers.{little_number-reads_back}
use Rattle.sg_base.specs.Overwritten.{overwritten}
use Rattle.sg_base.specs.Page.{count_of, start_of, lost_of, kind_of, number_at, header_of, offset_at, length_at, directory_end, slots_of, cell_in, cell_size, bytes_of, IsWhole, IsSlotted}
use Rattle.sg_base.specs.Sheet.{sheet_of}
use Rattle.sg_base.specs.Slots.{Slots, cell_bytes, with_cell, put_in, set_in, remove_in}
use Rattle.sg_base.proofs.Slots.{length-slots_below}
use Rattle.sg_slotted.specs.Layout.{with_u16, grown, filled, cleared, emptied, filled_with, rebuilt, compacted, roomy, store_layout, push_layout, lsn_layout, links_layout, format_layout, put_layout, remove_layout, set_layout}
use Rattle.sg_slotted.specs.Writes.{KeepsOutside}
use Rattle.sg_slotted.proofs.Changes as changes
use Rattle.sg_slotted.proofs.Changes.{IsChanged, has_cell, entry_within, lost_fits}
use Rattle.sg_slotted.proofs.InPlace.{refilled}
use Rattle.sg_slotted.proofs.Kept as kept
use Rattle.sg_slotted.proofs.Kept.{IsApart, slotted_kept, slots_kept, header_kept}
use Rattle.sg_slotted.proofs.Outside.{same_number, same_byte}
use Rattle.sg_slotted.proofs.Refusals.{same_size_fits}
use Rattle.sg_slotted.proofs.Room.{IsBegun, IsGrown, grow_room, fill_room, grown_there, grown_empty, next_full, next_empty, room_in_one_place, grown_room, bytes_of-set, bytes_of-push}
use Rattle.sg_step.proofs.Steps.{put_is, set_is, remove_is, full_there}
use Rattle.sg_redo.proofs.Wrote.{wrote, found, wrote_u16, found_u16, wrote_u8}

-- where the parts of a page lie
record Lies (p : List ℕ) : Type 0 where
  pub directory : 24 + 4 * count_of p ≤ start_of p
  pub start : start_of p ≤ 4096
  pub size : length p ≡ 4096
  pub count : length (slots_of p) ≡ count_of p

lies : (p : List ℕ) → IsSlotted p → Lies p
lies p s = let directory = s.directory in let filled = s.filled in
    record { directory = omega arith; start = omega arith; size = s.size; count = length-slots_below p (count_of p) }

-- one more slot
grows : (p : List ℕ) → IsSlotted p → directory_end p + 4 ≤ start_of p → IsChanged p (grown p) (slots_of p ++ (None ∷ [])) × (lost_of (grown p) ≡ lost_of p)
unfolding grown
grows p s room =
    let l = lies p s in
    let start = l.start in
    let size = l.size in
    let n : ℕ = count_of p in
    let one : List ℕ = with_u16 p (24 + 4 * n) 0 in
    let kept = wrote_u16 p (24 + 4 * n) 0 (omega arith) in
    let long = kept.size in
    changes.grown p one (with_u16 one 10 (n + 1)) n refl s room
    (found_u16 p (24 + 4 * n) 0 (omega arith) (omega arith)) kept
    (found_u16 one 10 (n + 1) (omega arith) (omega arith)) (wrote_u16 one 10 (n + 1) (omega arith))

-- an entry of the directory
enters : (p : List ℕ) (s top size : ℕ) → 28 + 4 * s ≤ length p → top < 2 ^ 16 → size < 2 ^ 16
    → (offset_at (with_u16 (with_u16 p (24 + 4 * s) top) (26 + 4 * s) size) s ≡ top) × (length_at (with_u16 (with_u16 p (24 + 4 * s) top) (26 + 4 * s) size) s ≡ size) × KeepsOutside p (with_u16 (with_u16 p (24 + 4 * s) top) (26 + 4 * s) size) (24 + 4 * s) (28 + 4 * s)
enters p s top size within small few =
    let one : List ℕ = with_u16 p (24 + 4 * s) top in
    let two : List ℕ = with_u16 one (26 + 4 * s) size in
    let first = wrote_u16 p (24 + 4 * s) top (omega arith) in
    let long = first.size in
    let second = wrote_u16 one (26 + 4 * s) size (omega arith) in (
      same_number one two (26 + 4 * s) (26 + 4 * s + 2) (24 + 4 * s) 2 second (inl (omega arith)) ∙ found_u16 p (24 + 4 * s) top (omega arith) small,
      found_u16 one (26 + 4 * s) size (omega arith) few,
      record {
        size = second.size ∙ first.size;
        same = λ a n outside. second.same a n (⊎_elim (λ b. inl (omega arith)) (λ b. inr (omega arith)) outside) ∙ first.same a n (⊎_elim (λ b. inl (omega arith)) (λ b. inr (omega arith)) outside);
      },
    )

-- a cell in an empty slot
fills : (p : List ℕ) (s : ℕ) (cell : List ℕ) → IsSlotted p → s < length (slots_of p) → cell_in (slots_of p) s ≡ None → directory_end p + length cell ≤ start_of p
    → IsChanged p (filled p s cell) (set (slots_of p) s (Some cell)) × (lost_of (filled p s cell) ≡ lost_of p)
unfolding filled
fills p s cell slotted there empty room =
    let l = lies p slotted in
    let start = l.start in
    let size = l.size in
    let count = l.count in
    let directory = l.directory in
    let top : ℕ = start_of p - length cell in
    let one : List ℕ = overwritten p top cell in
    let first = wrote p cell top (omega arith) in
    let long = first.size in
    let two : List ℕ = with_u16 one 12 top in
    let second = wrote_u16 one 12 top (omega arith) in
    let still = second.size in
    let entry = enters two s top (length cell) (omega arith) (omega arith) (omega arith) in
    changes.filled p one two (with_u16 (with_u16 two (24 + 4 * s) top) (26 + 4 * s) (length cell)) s top cell slotted there empty (omega arith) (omega arith)
    (found p cell top (omega arith)) first (found_u16 one 12 top (omega arith) (omega arith)) second entry.0 entry.1 entry.2

-- no cell in a full slot any more
clears : (p : List ℕ) (s : ℕ) → IsSlotted p → cell_in (slots_of p) s ≢ None → IsChanged p (cleared p s) (set (slots_of p) s None)
unfolding cleared
clears p s slotted full =
    let l = lies p slotted in
    let size = l.size in
    let within = entry_within p s slotted (has_cell p s full).below in
    let fits = lost_fits p s slotted full in
    let one : List ℕ = with_u16 p 14 (lost_of p + length_at p s) in
    let first = wrote_u16 p 14 (lost_of p + length_at p s) (omega arith) in
    let long = first.size in
    changes.cleared p one (with_u16 one (24 + 4 * s) 0) s slotted full (found_u16 p 14 (lost_of p + length_at p s) (omega arith) (omega arith)) first
    (found_u16 one (24 + 4 * s) 0 (omega arith) (omega arith)) (wrote_u16 one (24 + 4 * s) 0 (omega arith))

-- a cell of as many bytes
refills : (p : List ℕ) (s : ℕ) (cell : List ℕ) → IsSlotted p → cell_in (slots_of p) s ≢ None → length cell ≡ length_at p s → IsChanged p (overwritten p (offset_at p s) cell) (set (slots_of p) s (Some cell))
refills p s cell slotted full same =
    let has = has_cell p s full in
    let whole : IsWhole p (start_of p) s = slotted.cells.whole s has in
    let to = whole.to in
    let size = slotted.size in
    refilled p (overwritten p (offset_at p s) cell) s cell slotted has same refl (found p cell (offset_at p s) (omega arith)) (wrote p cell (offset_at p s) (omega arith))

-- no slots
empties : (p : List ℕ) → length p ≡ 4096 → IsSlotted (emptied p) × (slots_of (emptied p) ≡ []) × (lost_of (emptied p) ≡ 0)
unfolding emptied
empties p size =
    let one : List ℕ = set p 9 0 in
    let k1 = wrote_u8 p 9 0 in
    let l1 : length one ≡ 4096 = k1.size ∙ size in
    let two : List ℕ = with_u16 one 10 0 in
    let k2 = wrote_u16 one 10 0 (omega arith) in
    let l2 : length two ≡ 4096 = k2.size ∙ l1 in
    let three : List ℕ = with_u16 two 12 4096 in
    let k3 = wrote_u16 two 12 4096 (omega arith) in
    let l3 : length three ≡ 4096 = k3.size ∙ l2 in
    let four : List ℕ = with_u16 three 14 0 in
    let k4 = wrote_u16 three 14 0 (omega arith) in
    let l4 : length four ≡ 4096 = k4.size ∙ l3 in
    let unused : get_or four 9 0 ≡ 0 = same_byte three four 14 16 9 k4 (inl (omega arith)) ∙ (same_byte two three 12 14 9 k3 (inl (omega arith)) ∙ (same_byte one two 10 12 9 k2 (inl (omega arith)) ∙ byte_set p size)) in
    let count : count_of four ≡ 0 = same_number three four 14 16 10 2 k4 (inl (omega arith)) ∙ (same_number two three 12 14 10 2 k3 (inl (omega arith)) ∙ found_u16 one 10 0 (omega arith) (omega arith)) in
    let start : start_of four ≡ 4096 = same_number three four 14 16 12 2 k4 (inl (omega arith)) ∙ found_u16 two 12 4096 (omega arith) (omega arith) in
    let lost : lost_of four ≡ 0 = found_u16 three 14 0 (omega arith) (omega arith) in
    let all = kept.emptied four l4 unused count start lost in
    (all.0, all.1, lost)
  where
    byte_set : (q : List ℕ) → length q ≡ 4096 → get_or (set q 9 0) 9 0 ≡ 0
    byte_set q long = get_or-set_same q 9 0 0 (omega arith)

-- a slot of another page more
begins_more : (page other : List ℕ) (n : ℕ) → IsSlotted other → IsBegun page other n → n < length (slots_of other) → IsBegun (filled_with (grown page) n (cell_in (slots_of other) n)) other (n + 1)
begins_more page other n slotted so_far below = by_cell (cell_in (slots_of other) n) refl
  where
    more : IsChanged page (grown page) (slots_of page ++ (None ∷ [])) × (lost_of (grown page) ≡ lost_of page)
    more = grows page so_far.slotted (grow_room page other n slotted so_far below)

    one : IsGrown (grown page) other n
    one = record { slotted = more.0.slotted; slots = more.0.slots ∙ ap (λ (xs : List (Option (List ℕ))). xs ++ (None ∷ [])) so_far.slots; lost = more.1 ∙ so_far.lost }

    by_cell : (cell : Option (List ℕ)) → cell ≡ cell_in (slots_of other) n → IsBegun (filled_with (grown page) n cell) other (n + 1)
    by_cell None is = record { slotted = one.slotted; slots = next_empty (grown page) other n one below is; lost = one.lost }
    by_cell (Some cell) is =
        let two = fills (grown page) n cell one.slotted (grown_there (grown page) other n one below) (grown_empty (grown page) other n one below) (fill_room (grown page) other n cell slotted one below is) in
        record { slotted = two.0.slotted; slots = next_full (grown page) other n cell (slots_of (filled (grown page) n cell)) one below is two.0.slots; lost = two.1 ∙ one.lost }

-- and the first ones, one after the other
begins : (other base : List ℕ) (n : ℕ) → IsSlotted other → IsBegun base other 0 → n ≤ length (slots_of other) → IsBegun (rebuilt base (slots_of other) n) other n
unfolding rebuilt
begins other base zero slotted start within = start
begins other base (suc n) slotted start within =
    subst (λ (m : ℕ). IsBegun (rebuilt base (slots_of other) (suc n)) other m) (add-one n)
    (begins_more (rebuilt base (slots_of other) n) other n slotted (begins other base n slotted start (omega arith)) (omega arith))

-- the same slots with no lost byte
compacts : (p : List ℕ) → IsSlotted p → IsSlotted (compacted p) × (slots_of (compacted p) ≡ slots_of p) × (lost_of (compacted p) ≡ 0)
unfolding compacted
compacts p slotted =
    let none = empties p slotted.size in
    let all = begins p (emptied p) (length (slots_of p)) slotted (record { slotted = none.0; slots = none.1; lost = none.2 }) (omega arith) in
    (all.slotted, all.slots ∙ take-length (slots_of p), all.lost)

-- so many free bytes in front of the cells
record HasRoom (p new : List ℕ) (need : ℕ) : Type 0 where
  pub slotted : IsSlotted new
  pub slots : slots_of new ≡ slots_of p
  pub room : directory_end new + need ≤ start_of new

has_room : (p : List ℕ) (need : ℕ) → IsSlotted p → bytes_of (slots_of p) + need ≤ 4072 → HasRoom p (roomy p need) need
unfolding roomy
has_room p need slotted enough = ⊎_elim
    (λ lt. let test : nat_lt (start_of p) (directory_end p + need) ≡ true = grind (arith, nat_tests, lt) in
    let all = compacts p slotted in
    let same : bytes_of (slots_of (compacted p)) ≡ bytes_of (slots_of p) = ap bytes_of all.1 in
    rw test (record { slotted = all.0; slots = all.1; room = room_in_one_place (compacted p) need all.0 all.2 (omega arith) }))
    (λ le. let test : nat_lt (start_of p) (directory_end p + need) ≡ false = grind (arith, nat_tests, le) in
    rw test (record { slotted = slotted; slots = refl; room = le }))
    (cases_lt (start_of p) (directory_end p + need))

-- and the header stays
emptied_header : (p : List ℕ) → length p ≡ 4096 → header_of (emptied p) ≡ header_of p
unfolding emptied
emptied_header p size =
    let one : List ℕ = set p 9 0 in
    let k1 = wrote_u8 p 9 0 in
    let l1 : length one ≡ 4096 = k1.size ∙ size in
    let two : List ℕ = with_u16 one 10 0 in
    let k2 = wrote_u16 one 10 0 (omega arith) in
    let l2 : length two ≡ 4096 = k2.size ∙ l1 in
    let three : List ℕ = with_u16 two 12 4096 in
    let k3 = wrote_u16 two 12 4096 (omega arith) in
    let l3 : length three ≡ 4096 = k3.size ∙ l2 in
    let four : List ℕ = with_u16 three 14 0 in
    let k4 = wrote_u16 three 14 0 (omega arith) in
    header_kept three four 14 16 k4 (omega arith) (omega arith)
    ∙ (header_kept two three 12 14 k3 (omega arith) (omega arith)
    ∙ (header_kept one two 10 12 k2 (omega arith) (omega arith)
    ∙ header_kept p one 9 10 k1 (omega arith) (omega arith)))

more_header : (page other : List ℕ) (n : ℕ) → IsSlotted other → IsBegun page other n → n < length (slots_of other) → header_of (filled_with (grown page) n (cell_in (slots_of other) n)) ≡ header_of page
more_header page other n slotted so_far below = by_cell (cell_in (slots_of other) n) refl
  where
    more : IsChanged page (grown page) (slots_of page ++ (None ∷ [])) × (lost_of (grown page) ≡ lost_of page)
    more = grows page so_far.slotted (grow_room page other n slotted so_far below)

    one : IsGrown (grown page) other n
    one = record { slotted = more.0.slotted; slots = more.0.slots ∙ ap (λ (xs : List (Option (List ℕ))). xs ++ (None ∷ [])) so_far.slots; lost = more.1 ∙ so_far.lost }

    by_cell : (cell : Option (List ℕ)) → cell ≡ cell_in (slots_of other) n → header_of (filled_with (grown page) n cell) ≡ header_of page
    by_cell None is = more.0.header
    by_cell (Some cell) is =
        let two = fills (grown page) n cell one.slotted (grown_there (grown page) other n one below) (grown_empty (grown page) other n one below) (fill_room (grown page) other n cell slotted one below is) in
        two.0.header ∙ more.0.header

rebuilt_header : (other base : List ℕ) (n : ℕ) → IsSlotted other → IsBegun base other 0 → n ≤ length (slots_of other) → header_of (rebuilt base (slots_of other) n) ≡ header_of base
unfolding rebuilt
rebuilt_header other base zero slotted start within = refl
rebuilt_header other base (suc n) slotted start within =
    more_header (rebuilt base (slots_of other) n) other n slotted (begins other base n slotted start (omega arith)) (omega arith)
    ∙ rebuilt_header other base n slotted start (omega arith)

compacted_header : (p : List ℕ) → IsSlotted p → header_of (compacted p) ≡ header_of p
unfolding compacted
compacted_header p slotted =
    let none = empties p slotted.size in
    rebuilt_header p (emptied p) (length (slots_of p)) slotted (record { slotted = none.0; slots = none.1; lost = none.2 }) (omega arith) ∙ emptied_header p slotted.size

room_header : (p : List ℕ) (need : ℕ) → IsSlotted p → header_of (roomy p need) ≡ header_of p
unfolding roomy
room_header p need slotted = ⊎_elim
    (λ lt. let test : nat_lt (start_of p) (directory_end p + need) ≡ true = grind (arith, nat_tests, lt) in rw test (compacted_header p slotted))
    (λ le. let test : nat_lt (start_of p) (directory_end p + need) ≡ false = grind (arith, nat_tests, le) in rw test refl)
    (cases_lt (start_of p) (directory_end p + need))

-- A CELL IN AN EMPTY SLOT, with room or without
pub stores : (p : List ℕ) (s : ℕ) (cell : List ℕ) → IsSlotted p → s < length (slots_of p) → cell_in (slots_of p) s ≡ None → bytes_of (slots_of p) + length cell ≤ 4072 → IsChanged p (store_layout p s cell) (set (slots_of p) s (Some cell))
unfolding store_layout
stores p s cell slotted there empty fits =
    let ready = has_room p (length cell) slotted fits in
    let same : length (slots_of (roomy p (length cell))) ≡ length (slots_of p) = ap (λ (xs : List (Option (List ℕ))). length xs) ready.slots in
    let f = (fills (roomy p (length cell)) s cell ready.slotted (omega arith) (ap (λ (xs : List (Option (List ℕ))). cell_in xs s) ready.slots ∙ empty) ready.room).0 in
    record { slotted = f.slotted; slots = f.slots ∙ ap (λ (xs : List (Option (List ℕ))). set xs s (Some cell)) ready.slots; header = f.header ∙ room_header p (length cell) slotted }

set_seam : (xs : List (Option (List ℕ))) (x y : Option (List ℕ)) → set (xs ++ (x ∷ [])) (length xs) y ≡ xs ++ (y ∷ [])
set_seam [] x y = refl
set_seam (z ∷ xs) x y = ap (λ (l : List (Option (List ℕ))). z ∷ l) (set_seam xs x y)

seam : (xs : List (Option (List ℕ))) (x : Option (List ℕ)) → get_or (xs ++ (x ∷ [])) (length xs) None ≡ x
seam [] x = refl
seam (y ∷ xs) x = seam xs x

-- and in a new one
pub pushes : (p : List ℕ) (cell : List ℕ) → IsSlotted p → bytes_of (slots_of p) + (4 + length cell) ≤ 4072 → IsChanged p (push_layout p cell) (slots_of p ++ (Some cell ∷ []))
unfolding push_layout
pushes p cell slotted fits =
    let ready = has_room p (4 + length cell) slotted fits in
    let page : List ℕ = roomy p (4 + length cell) in
    let room = ready.room in
    let more = grows page ready.slotted (omega arith) in
    let less = grown_room page (grown page) ready.slotted more.0.slotted more.0.slots more.1 in
    let directory = less.directory in
    let start = less.start in
    let long : length (slots_of (grown page)) ≡ length (slots_of page) + 1 = ap (λ (xs : List (Option (List ℕ))). length xs) more.0.slots ∙ length-append (slots_of page) (None ∷ []) in
    let last : cell_in (slots_of (grown page)) (length (slots_of page)) ≡ None = ap (λ (xs : List (Option (List ℕ))). cell_in xs (length (slots_of page))) more.0.slots ∙ seam (slots_of page) None in
    let f = (fills (grown page) (length (slots_of page)) cell more.0.slotted (omega arith) last (omega arith)).0 in
    record {
      slotted = f.slotted;
      slots = f.slots ∙ (ap (λ (xs : List (Option (List ℕ))). set xs (length (slots_of page)) (Some cell)) more.0.slots ∙ (set_seam (slots_of page) None (Some cell) ∙ ap (λ (xs : List (Option (List ℕ))). xs ++ (Some cell ∷ [])) ready.slots));
      header = f.header ∙ (more.0.header ∙ room_header p (4 + length cell) slotted);
    }

-- THE CALLS
pub put_says : (p : List ℕ) (s : ℕ) (cell : List ℕ) (new : Slots) → IsSlotted p → put_in (slots_of p) s cell ≡ Some new → IsChanged p (put_layout p s cell) new
unfolding put_layout
put_says p s cell new slotted e =
    let put = put_is (slots_of p) new s cell e in
    let next = put.next in
    let room : bytes_of (with_cell (slots_of p) s cell) ≤ 4072 = subst (λ (x : Slots). bytes_of x ≤ 4072) put.is put.room in
    ⊎_elim
    (λ below. let test : nat_lt s (length (slots_of p)) ≡ true = grind (arith, nat_tests, below) in
    let other : (s == length (slots_of p)) ≡ false = grind (arith, nat_tests, below) in
    let fits : bytes_of (set (slots_of p) s (Some cell)) ≤ 4072 = rw other at room in
    let sums : bytes_of (set (slots_of p) s (Some cell)) + cell_size (cell_in (slots_of p) s) ≡ bytes_of (slots_of p) + length cell = bytes_of-set (slots_of p) s (Some cell) below in
    let none : cell_size (cell_in (slots_of p) s) ≡ 0 = ap cell_size put.empty in
    let is : new ≡ set (slots_of p) s (Some cell) = rw other at put.is in
    rw test (subst (λ (x : Slots). IsChanged p (store_layout p s cell) x) (sym is) (stores p s cell slotted below put.empty (omega arith))))
    (λ past. let test : nat_lt s (length (slots_of p)) ≡ false = grind (arith, nat_tests, past) in
    let last : s ≡ length (slots_of p) = omega arith in
    let same : (s == length (slots_of p)) ≡ true = grind (arith, nat_tests, last) in
    let fits : bytes_of (slots_of p ++ (Some cell ∷ [])) ≤ 4072 = rw same at room in
    let sums : bytes_of (slots_of p ++ (Some cell ∷ [])) ≡ bytes_of (slots_of p) + (4 + length cell) = bytes_of-push (slots_of p) (Some cell) in
    let is : new ≡ slots_of p ++ (Some cell ∷ []) = rw same at put.is in
    rw test (subst (λ (x : Slots). IsChanged p (push_layout p cell) x) (sym is) (pushes p cell slotted (omega arith))))
    (cases_lt s (length (slots_of p)))

not_none : (o : Option (List ℕ)) (cell : List ℕ) → o ≡ Some cell → o ≢ None
not_none o cell is none = let e : Some cell ≡ None = sym is ∙ none in absurd cc

pub remove_says : (p : List ℕ) (s : ℕ) (new : Slots) → IsSlotted p → remove_in (slots_of p) s ≡ Some new → IsChanged p (remove_layout p s) new
remove_says p s new slotted e =
    let is_removed = remove_is (slots_of p) new s e in
    subst (λ (x : Slots). IsChanged p (remove_layout p s) x) (sym is_removed.is) (clears p s slotted (not_none (cell_in (slots_of p) s) (cell_bytes (cell_in (slots_of p) s)) is_removed.full))

pub set_says : (p : List ℕ) (s : ℕ) (cell : List ℕ) (new : Slots) → IsSlotted p → set_in (slots_of p) s cell ≡ Some new → IsChanged p (set_layout p s cell) new
unfolding set_layout
set_says p s cell new slotted e =
    let is_set = set_is (slots_of p) new s cell e in
    let full : cell_in (slots_of p) s ≢ None = not_none (cell_in (slots_of p) s) (cell_bytes (cell_in (slots_of p) s)) is_set.full in
    let below = full_there (slots_of p) s is_set.full in
    let room : bytes_of (set (slots_of p) s (Some cell)) ≤ 4072 = subst (λ (x : Slots). bytes_of x ≤ 4072) is_set.is is_set.room in
    ⊎_elim
    (λ same. let test : (length cell == length_at p s) ≡ true = grind (arith, nat_tests, same) in
    rw test (subst (λ (x : Slots). IsChanged p (overwritten p (offset_at p s) cell) x) (sym is_set.is) (refills p s cell slotted full same)))
    (λ other. let test : (length cell == length_at p s) ≡ false = grind (arith, nat_tests, other) in
    let one = clears p s slotted full in
    let with : bytes_of (set (slots_of p) s (Some cell)) + cell_size (cell_in (slots_of p) s) ≡ bytes_of (slots_of p) + length cell = bytes_of-set (slots_of p) s (Some cell) below in
    let without : bytes_of (set (slots_of p) s None) + cell_size (cell_in (slots_of p) s) ≡ bytes_of (slots_of p) + 0 = bytes_of-set (slots_of p) s None below in
    let same : bytes_of (slots_of (cleared p s)) ≡ bytes_of (set (slots_of p) s None) = ap bytes_of one.slots in
    let long : length (slots_of (cleared p s)) ≡ length (slots_of p) = ap (λ (xs : Slots). length xs) one.slots ∙ length-set (slots_of p) s None in
    let empty : cell_in (slots_of (cleared p s)) s ≡ None = ap (λ (xs : Slots). cell_in xs s) one.slots ∙ get_or-set_same (slots_of p) s None None below in
    let two = stores (cleared p s) s cell one.slotted (omega arith) empty (omega arith) in
    rw test (record { slotted = two.slotted; slots = two.slots ∙ (ap (λ (xs : Slots). set xs s (Some cell)) one.slots ∙ (set_twice (slots_of p) s None (Some cell) ∙ sym is_set.is)); header = two.header ∙ one.header }))
    (cases_eq (length cell) (length_at p s))
  where
    set_twice : (xs : Slots) (i : ℕ) (a b : Option (List ℕ)) → set (set xs i a) i b ≡ set xs i b
    set_twice [] i a b = refl
    set_twice (x ∷ xs) zero a b = refl
    set_twice (x ∷ xs) (suc i) a b = ap (λ (l : Slots). x ∷ l) (set_twice xs i a b)

-- another cell of as many bytes
pub item_says : (p : List ℕ) (s : ℕ) (old cell : List ℕ) → IsSlotted p → cell_in (slots_of p) s ≡ Some old → length cell ≡ length old → IsChanged p (set_layout p s cell) (set (slots_of p) s (Some cell))
item_says p s old cell slotted full same = set_says p s cell (set (slots_of p) s (Some cell)) slotted (same_size_fits p s old cell slotted (sym full) same)

-- what stands in front of the first slot, but for the count of slots and where cells start
pub field : (p ys : List ℕ) (at : ℕ) → IsSlotted p → (at + length ys ≤ 8) ⊎ (16 ≤ at) → at + length ys ≤ 24 → IsSlotted (overwritten p at ys) × (slots_of (overwritten p at ys) ≡ slots_of p)
field p ys at slotted outside before =
    let size = slotted.size in
    let apart : IsApart at (at + length ys) = record { outside = ⊎_elim (λ a. inl (omega arith)) (λ b. inr b) outside; before = before } in
    (slotted_kept p (overwritten p at ys) at (at + length ys) slotted (wrote p ys at (omega arith)) apart, slots_kept p (overwritten p at ys) at (at + length ys) slotted (wrote p ys at (omega arith)) apart)

same_says : (old new : List ℕ) → kind_of new ≡ kind_of old → number_at new 16 4 ≡ number_at old 16 4 → number_at new 20 4 ≡ number_at old 20 4 → slots_of new ≡ slots_of old → sheet_of new ≡ sheet_of old
same_says old new kind left right slots = cc

-- A NUMBER IN THE LOG isn't said
pub lsn_says : (p : List ℕ) (lsn : ℕ) → IsSlotted p → IsSlotted (lsn_layout p lsn) × (sheet_of (lsn_layout p lsn) ≡ sheet_of p)
unfolding lsn_layout
lsn_says p lsn slotted =
    let size = slotted.size in
    let both = field p (little_bytes 8 lsn) 0 slotted (inl (omega arith)) (omega arith) in
    let k = wrote p (little_bytes 8 lsn) 0 (omega arith) in
    (both.0, same_says p (overwritten p 0 (little_bytes 8 lsn)) (same_byte p (overwritten p 0 (little_bytes 8 lsn)) 0 8 8 k (inr (omega arith))) (same_number p (overwritten p 0 (little_bytes 8 lsn)) 0 8 16 4 k (inr (omega arith))) (same_number p (overwritten p 0 (little_bytes 8 lsn)) 0 8 20 4 k (inr (omega arith))) both.1)

four_back : (n : ℕ) → n < 2 ^ 32 → little_number 4 (little_bytes 4 n) ≡ n
four_back n small = little_number-reads_back 4 n [] small

linked : (p new : List ℕ) (a b : ℕ) → kind_of new ≡ kind_of p → number_at new 16 4 ≡ a → number_at new 20 4 ≡ b → slots_of new ≡ slots_of p → sheet_of new ≡ record (sheet_of p) { links = (a, b) }
linked p new a b kind left right slots = cc

-- LINKS of 4 bytes
pub links_say : (p : List ℕ) (a b : ℕ) → IsSlotted p → a < 2 ^ 32 → b < 2 ^ 32 → IsSlotted (links_layout p a b) × (sheet_of (links_layout p a b) ≡ record (sheet_of p) { links = (a, b) })
unfolding links_layout number_at
links_say p a b slotted small_a small_b =
    let size = slotted.size in
    let one : List ℕ = overwritten p 16 (little_bytes 4 a) in
    let first = field p (little_bytes 4 a) 16 slotted (inr (omega arith)) (omega arith) in
    let k1 = wrote p (little_bytes 4 a) 16 (omega arith) in
    let l1 : length one ≡ 4096 = k1.size ∙ size in
    let two : List ℕ = overwritten one 20 (little_bytes 4 b) in
    let second = field one (little_bytes 4 b) 20 first.0 (inr (omega arith)) (omega arith) in
    let k2 = wrote one (little_bytes 4 b) 20 (omega arith) in
    let kind : kind_of two ≡ kind_of p = same_byte one two 20 24 8 k2 (inl (omega arith)) ∙ same_byte p one 16 20 8 k1 (inl (omega arith)) in
    let left : number_at two 16 4 ≡ a = same_number one two 20 24 16 4 k2 (inl (omega arith)) ∙ (ap (little_number 4) (found p (little_bytes 4 a) 16 (omega arith)) ∙ four_back a small_a) in
    let right : number_at two 20 4 ≡ b = ap (little_number 4) (found one (little_bytes 4 b) 20 (omega arith)) ∙ four_back b small_b in
    (second.0, linked p two a b kind left right (second.1 ∙ first.1))

-- A FORMAT of any 4,096 bytes
pub format_says : (p : List ℕ) (kind : ℕ) → length p ≡ 4096 → IsSlotted (format_layout p kind) × (sheet_of (format_layout p kind) ≡ record { kind = kind; links = (0, 0); slots = [] })
unfolding format_layout
format_says p kind size =
    let none = empties p size in
    let page : List ℕ = set (emptied p) 8 kind in
    let k = wrote_u8 (emptied p) 8 kind in
    let apart : IsApart 8 9 = record { outside = inl (omega arith); before = omega arith } in
    let slotted : IsSlotted page = slotted_kept (emptied p) page 8 9 none.0 k apart in
    let slots : slots_of page ≡ [] = slots_kept (emptied p) page 8 9 none.0 k apart ∙ none.1 in
    let full = none.0.size in
    let is_kind : kind_of page ≡ kind = get_or-set_same (emptied p) 8 kind 0 (omega arith) in
    let both = links_say page 0 0 slotted (omega arith) (omega arith) in
    (both.0, both.1 ∙ formatted page is_kind slots)
  where
    formatted : (q : List ℕ) → kind_of q ≡ kind → slots_of q ≡ [] → record (sheet_of q) { links = (0, 0) } ≡ record { kind = kind; links = (0, 0); slots = [] }
    formatted q a b = cc
