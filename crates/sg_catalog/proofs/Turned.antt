-- Changes of the catalogue's pages, one after another.
use Rattle.std.proofs.Common.{◌≡◌, ℕ, ◌+◌, ◌<◌, ◌≤◌, nat_lt, false, List, length, set, option_map, Option, Some, None, is_some, if◌then◌else◌, sym, ap, ◌∙◌, refl, arith, subst}
use Rattle.std.proofs.lemmas.Bool.Decides.{nat_tests}
use Rattle.sg_base.specs.Op.{Op, shrinks}
use Rattle.sg_base.specs.Op.Op.{Put, Set, Remove}
use Rattle.sg_base.specs.Page.{cell_in, cell_size}
use Rattle.sg_base.specs.Sheet.{Sheet}
use Rattle.sg_base.specs.Slots.{IsFree, with_cell}
use Rattle.sg_ops.specs.Steps.{step, with_slots}
use Rattle.sg_ops.specs.Table.{Table}
use Rattle.sg_slotted.proofs.Room.{full_below}
use Rattle.sg_space.specs.Pages.{IsPossible, Changed}
use Rattle.sg_space.specs.Units.{HasAt, IsChanged}
use Rattle.sg_space.specs.View.{Space, View, Keeps, OnlyReads}
use Rattle.sg_space.proofs.Known.{same_some, before}
use Rattle.sg_space.proofs.Owners.{grows_same, grows_then}
use Rattle.sg_space.proofs.Putting.{put_step, set_step}
use Rattle.sg_catalog.specs.Catalog.{Catalog, IsRaw, Owns, row_at}
use Rattle.sg_catalog.specs.Row.{row_cell, IsFormed}
use Rattle.sg_catalog.specs.Steps.{IsSpot, RawTurns, with_place, HasRow, HasRowOf, CanPut}
use Rattle.sg_catalog.specs.declared.look.Spot.{Spot}
use Rattle.sg_catalog.specs.declared.row.Row.{Row}
use Rattle.sg_catalog.proofs.Bytes.{length-row}
use Rattle.sg_space.proofs.Changing.{set_possible, put_possible, remove_possible, keeps_but}
use Rattle.sg_catalog.proofs.Places.{IsPlaced, place_raw, page_changed, placed_bytes, page_sizes, set_placed, clear_placed, put_placed}

-- what is known of a slot whose place has this row, or none
pub record KnownSlot (pages : ℕ → Option Sheet) (spot : Spot) (x : Option Row) : Type 0 where
  pub sheet : Sheet
  pub is : pages spot.page.0 ≡ Some sheet
  pub few : length sheet.slots ≤ 79
  pub cell : cell_in sheet.slots spot.slot ≡ option_map row_cell x
  pub sizes : (m : ℕ) → cell_size (cell_in sheet.slots m) ≤ 47

pub known_slot : {pages : ℕ → Option Sheet} {c : Catalog} {i : ℕ} {spot : Spot} {x : Option Row} → IsRaw pages c → IsSpot c i spot → row_at c.places i ≡ x → KnownSlot pages spot x
known_slot {pages} {c} {i} {spot} {x} h s e =
    let one = h.page s.index spot.page.0 s.page in
    record {
      sheet = one.what;
      is = one.is;
      few = one.has.few;
      cell = one.has.cells spot.slot s.below ∙ ap (λ (o : Option Row). option_map row_cell o) (ap (row_at c.places) (sym s.is) ∙ e);
      sizes = page_sizes s.index spot.page.0 one.what h s.page one.is;
    }

-- one page of the catalogue was changed at a place
pub turned : (t : Table) {old new : Space} {c : Catalog} {i : ℕ} {spot : Spot} (x : Option Row) (op : Op) (was now : Sheet) → IsRaw old.pages.at c → IsSpot c i spot → ((row : Row) → x ≡ Some row → IsFormed row) → old.pages.at spot.page.0 ≡ Some was → IsPlaced spot.slot x was now → step t op was ≡ Some now → IsChanged old.pages new.pages spot.page.0 (step t op) → new.bands ≡ old.bands → RawTurns old new c (with_place i x c)
turned t {old} {new} {c} {i} {spot} x op was now h s formed is placed stepped changed bands = record {
  raw = place_raw c i spot x h s (record { was = was; was_is = is; now = now; now_is = changed.here was is ∙ stepped; placed = placed; others = changed.others }) formed;
  pages = page_changed c spot.page.0 (s.index, s.page) changed.others changed.free changed.count;
  bands = bands;
}

the_row : (P : Row → Type 0) (row : Row) → P row → (other : Row) → Some row ≡ Some other → P other
the_row P row h other e = subst P (same_some _ _ e) h

nothing : (row : Row) → None ≡ Some row → IsFormed row
nothing row e = absurd (cc)

-- what holds of the sheet that a page is known to have
pub of_sheet : {pages : ℕ → Option Sheet} {p : ℕ} (P : Sheet → Type 0) (sheet : Sheet) → pages p ≡ Some sheet → HasAt pages p P → P sheet
of_sheet P sheet is h = subst P (same_some _ _ (sym h.is ∙ is)) h.has

-- A ROW OVER ANOTHER ONE
pub row_set : {pages : ℕ → Option Sheet} {spot : Spot} {was : Row} (row : Row) (k : KnownSlot pages spot (Some was)) → IsPlaced spot.slot (Some row) k.sheet (record k.sheet { slots = set k.sheet.slots spot.slot (Some (row_cell row)) })
row_set {spot = spot} {was = was} row k = set_placed k.sheet spot.slot row (full_below k.sheet.slots spot.slot (row_cell was) (sym k.cell))

pub row_set_step : (t : Table) {pages : ℕ → Option Sheet} {spot : Spot} {was : Row} (row : Row) → IsFormed row → (k : KnownSlot pages spot (Some was)) → step t (Set spot.slot (row_cell row)) k.sheet ≡ Some (record k.sheet { slots = set k.sheet.slots spot.slot (Some (row_cell row)) })
row_set_step t {spot = spot} {was = was} row f k = set_step t k.sheet spot.slot (row_cell was) (row_cell row) k.cell (placed_bytes (row_set row k) k.sizes k.few (the_row IsFormed row f))

-- one of as many bytes leaves no fewer
pub row_set_shrinks : {pages : ℕ → Option Sheet} {spot : Spot} {was : Row} (row : Row) (k : KnownSlot pages spot (Some was)) → length was.name ≡ length row.name → shrinks (Set spot.slot (row_cell row)) k.sheet ≡ false
row_set_shrinks {spot = spot} {was = was} row k same =
    let had : cell_size (cell_in k.sheet.slots spot.slot) ≡ length (row_cell was) = ap cell_size k.cell in
    let long = length-row was in
    let more = length-row row in
    let fits : length (row_cell row) ≡ cell_size (cell_in k.sheet.slots spot.slot) = omega arith in
    let test : nat_lt (length (row_cell row)) (cell_size (cell_in k.sheet.slots spot.slot)) ≡ false = grind (arith, nat_tests, fits) in
    test

-- NO ROW ANY MORE
pub row_cleared : {pages : ℕ → Option Sheet} {spot : Spot} {was : Row} (k : KnownSlot pages spot (Some was)) → IsPlaced spot.slot None k.sheet (record k.sheet { slots = set k.sheet.slots spot.slot None })
row_cleared {spot = spot} {was = was} k = clear_placed k.sheet spot.slot (full_below k.sheet.slots spot.slot (row_cell was) (sym k.cell))

pub row_cleared_step : (t : Table) {pages : ℕ → Option Sheet} {spot : Spot} {was : Row} (k : KnownSlot pages spot (Some was)) → step t (Remove spot.slot) k.sheet ≡ Some (record k.sheet { slots = set k.sheet.slots spot.slot None })
row_cleared_step t {spot = spot} k = ap (λ (o : Option (List ℕ)). with_slots k.sheet (if is_some o then Some (set k.sheet.slots spot.slot None) else None)) k.cell

-- A ROW IN A FREE PLACE
pub row_put : {pages : ℕ → Option Sheet} {spot : Spot} (row : Row) (k : KnownSlot pages spot None) → spot.slot < 79 → IsFree k.sheet.slots spot.slot → IsPlaced spot.slot (Some row) k.sheet (record k.sheet { slots = with_cell k.sheet.slots spot.slot (row_cell row) })
row_put {spot = spot} row k below free = put_placed k.sheet spot.slot row below free.next

pub row_put_step : (t : Table) {pages : ℕ → Option Sheet} {spot : Spot} (row : Row) → IsFormed row → (k : KnownSlot pages spot None) → spot.slot < 79 → (free : IsFree k.sheet.slots spot.slot) → step t (Put spot.slot (row_cell row)) k.sheet ≡ Some (record k.sheet { slots = with_cell k.sheet.slots spot.slot (row_cell row) })
row_put_step t {spot = spot} row f k below free = put_step t k.sheet spot.slot (row_cell row) free (placed_bytes (row_put row k below free) k.sizes k.few (the_row IsFormed row f))

-- a row may be written over one
pub set_row_can : (t : Table) (v : View) {c : Catalog} {i : ℕ} {spot : Spot} (row : Row) (cell : List ℕ) → cell ≡ row_cell row → IsFormed row → IsRaw v.space.pages.at c → HasRow spot c i → HasAt v.space.pages.at spot.page.0 (IsPossible t v spot.page.0 (Set spot.slot cell))
set_row_can t v {spot = spot} row cell e f h has =
    let k = known_slot h has.is_place has.row in
    record { what = k.sheet; is = k.is; has = subst (λ (bytes : List ℕ). IsPossible t v spot.page.0 (Set spot.slot bytes) k.sheet) (sym e) (set_possible t v spot.page.0 spot.slot (row_cell row) (row_set_step t row f k)) }

pub set_row_turns : (t : Table) {old new : Space} {c : Catalog} {i : ℕ} {spot : Spot} (row : Row) (cell : List ℕ) → cell ≡ row_cell row → IsFormed row → IsRaw old.pages.at c → HasRow spot c i → IsChanged old.pages new.pages spot.page.0 (step t (Set spot.slot cell)) → new.bands ≡ old.bands → RawTurns old new c (with_place i (Some row) c)
set_row_turns t {old} {new} {c} {i} {spot} row cell e f h has changed bands =
    let k = known_slot h has.is_place has.row in
    turned t (Some row) (Set spot.slot (row_cell row)) k.sheet _ h has.is_place (the_row IsFormed row f) k.is (row_set row k) (row_set_step t row f k)
    (subst (λ (bytes : List ℕ). IsChanged old.pages new.pages spot.page.0 (step t (Set spot.slot bytes))) e changed) bands

pub set_row_keeps : {t : Table} {v w : View} {c : Catalog} {i : ℕ} {spot : Spot} (row : Row) (cell : List ℕ) → cell ≡ row_cell row → IsRaw v.space.pages.at c → HasRowOf spot (length row.name) c i → Changed t v w spot.page.0 (Set spot.slot cell) → Keeps v w
set_row_keeps {spot = spot} row cell e h has c =
    let k = known_slot h has.has.is_place has.has.row in
    keeps_but c (λ sheet is. subst (λ (s : Sheet). shrinks (Set spot.slot cell) s ≡ false) (same_some _ _ (sym k.is ∙ is)) (subst (λ (bytes : List ℕ). shrinks (Set spot.slot bytes) k.sheet ≡ false) (sym e) (row_set_shrinks row k has.long)))

-- one may be taken out
pub clear_row_can : (t : Table) (v : View) {c : Catalog} {i : ℕ} {spot : Spot} → IsRaw v.space.pages.at c → HasRow spot c i → HasAt v.space.pages.at spot.page.0 (IsPossible t v spot.page.0 (Remove spot.slot))
clear_row_can t v {spot = spot} h has =
    let k = known_slot h has.is_place has.row in
    record { what = k.sheet; is = k.is; has = remove_possible t v spot.page.0 spot.slot (row_cleared_step t k) }

pub clear_row_turns : (t : Table) {old new : Space} {c : Catalog} {i : ℕ} {spot : Spot} → IsRaw old.pages.at c → HasRow spot c i → IsChanged old.pages new.pages spot.page.0 (step t (Remove spot.slot)) → new.bands ≡ old.bands → RawTurns old new c (with_place i None c)
clear_row_turns t {spot = spot} h has changed bands =
    let k = known_slot h has.is_place has.row in
    turned t None (Remove spot.slot) k.sheet _ h has.is_place nothing k.is (row_cleared k) (row_cleared_step t k) changed bands

-- one may be put into a free place
pub fill_place_can : (t : Table) (v : View) {c : Catalog} {i : ℕ} {spot : Spot} (row : Row) (cell : List ℕ) → cell ≡ row_cell row → IsFormed row → IsRaw v.space.pages.at c → CanPut v spot c i → HasAt v.space.pages.at spot.page.0 (IsPossible t v spot.page.0 (Put spot.slot cell))
fill_place_can t v {spot = spot} row cell e f h can =
    let k = known_slot h can.is_place can.free in
    let free = of_sheet (λ s. IsFree s.slots spot.slot) k.sheet k.is can.slot_free in
    let below = can.is_place.below in
    record { what = k.sheet; is = k.is; has = subst (λ (bytes : List ℕ). IsPossible t v spot.page.0 (Put spot.slot bytes) k.sheet) (sym e) (put_possible t v spot.page.0 spot.slot (row_cell row) (can.may_fill (spot.slot + 1) (omega arith)) (row_put_step t row f k below free)) }

pub fill_place_turns : (t : Table) {v : View} {new : Space} {c : Catalog} {i : ℕ} {spot : Spot} (row : Row) (cell : List ℕ) → cell ≡ row_cell row → IsFormed row → IsRaw v.space.pages.at c → CanPut v spot c i → IsChanged v.space.pages new.pages spot.page.0 (step t (Put spot.slot cell)) → new.bands ≡ v.space.bands → RawTurns v.space new c (with_place i (Some row) c)
fill_place_turns t {v} {new} {c} {i} {spot} row cell e f h can changed bands =
    let k = known_slot h can.is_place can.free in
    let free = of_sheet (λ s. IsFree s.slots spot.slot) k.sheet k.is can.slot_free in
    let below = can.is_place.below in
    turned t (Some row) (Put spot.slot (row_cell row)) k.sheet _ h can.is_place (the_row IsFormed row f) k.is (row_put row k below free) (row_put_step t row f k below free)
    (subst (λ (bytes : List ℕ). IsChanged v.space.pages new.pages spot.page.0 (step t (Put spot.slot bytes))) e changed) bands

-- the catalogue's pages are there
pub owned_some : {pages : ℕ → Option Sheet} {c : Catalog} → IsRaw pages c → (p : ℕ) → Owns c p → pages p ≡ None → ⊥
owned_some h p o none = let some = (h.page o.0 p o.1).is in (cc)

-- two changes, one after the other
pub turns_then : {a b d : Space} {r s t : Catalog} → RawTurns a b r s → RawTurns b d s t → RawTurns a d r t
turns_then f g = record {
  raw = g.raw;
  pages = grows_then f.pages (owned_some f.raw) g.pages;
  bands = g.bands ∙ f.bands;
}

pub after_reads : {v w : View} {new : Space} {c c' : Catalog} → OnlyReads v w → v.Shows → RawTurns w.space new c c' → RawTurns v.space new c c'
after_reads {new = new} {c = c} {c' = c'} k shows h = before (λ s. RawTurns s new c c') k shows h

-- nothing has changed
pub turns_same : {s : Space} {c c' : Catalog} → c' ≡ c → IsRaw s.pages.at c → RawTurns s s c c'
turns_same {s} {c} {c'} e h = subst (λ (x : Catalog). RawTurns s s c x) (sym e) (record { raw = h; pages = grows_same refl; bands = refl })
