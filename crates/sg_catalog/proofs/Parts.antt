-- What is known of one page of a catalogue, and what is read of it.
use Rattle.std.proofs.Common.{◌≡◌, inl, inr, ℕ, ◌+◌, ◌*◌, ◌<◌, ◌≤◌, Bool, List, ◌++◌, length, drop, get_or, option_map, Option, Some, None, IsSome, sym, ap, ◌∙◌, refl, arith, subst, MatchOption, slice_get, length-drop}
use Rattle.std.specs.List.{find}
use Rattle.std.proofs.lemmas.List.{get_or-take, get_or-drop, get_or_past, length-take-le}
use Rattle.std.proofs.lemmas.Bool.{cases_lt}
use Rattle.std.proofs.lemmas.Option.{slice_get_within}
use Rattle.sg_base.specs.Page.{cell_in}
use Rattle.sg_base.specs.Sheet.{Sheet}
use Rattle.sg_base.specs.Slots.{IsFree}
use Rattle.sg_base.specs.declared.numbers.PageNo.{PageNo}
use Rattle.sg_slotted.proofs.Room.{full_below}
use Rattle.sg_space.specs.Units.{HasAt}
use Rattle.sg_space.specs.View.{Space, View, OnlyReads}
use Rattle.sg_space.proofs.Known.{same_some, still}
use Rattle.sg_catalog.specs.Catalog.{Catalog, IsRaw, IsCatalog, IsPage, Owns, row_at, filled}
use Rattle.sg_catalog.specs.Look.{IsHeaderOf, IsUnread, HasUnformed, SeenIn, IsSeen, Sees, Measures, ListsPage, row_in, names_of}
use Rattle.sg_catalog.specs.Row.{row_cell, row_of, IsFormed}
use Rattle.sg_catalog.specs.Steps.{part, IsHeader, IsFoundIn, SeesPage, MeasuresPage, GathersPage}
use Rattle.sg_catalog.specs.declared.look.Found.{Found}
use Rattle.sg_catalog.specs.declared.look.Header.{Header}
use Rattle.sg_catalog.specs.declared.look.Measured.{Measured}
use Rattle.sg_catalog.specs.declared.look.Seen.{Seen}
use Rattle.sg_catalog.specs.declared.row.Row.{Row}
use Rattle.sg_catalog.proofs.Bytes.{row_back}
use Rattle.sg_catalog.proofs.Pages.{AreSpelled, read_filled, full_filled, slot_read, no_row}

-- what stands in a space, said of the space alone
abbrev pub StandsRaw : Catalog → Space → Type 0
StandsRaw c s = IsRaw s.pages.at c

abbrev pub Stands : Catalog → Space → Type 0
Stands c s = IsCatalog s.pages.at c

pub still_raw : {v w : View} {c : Catalog} → OnlyReads v w → v.Shows → StandsRaw c v.space → StandsRaw c w.space
still_raw {c = c} k shows h = still (StandsRaw c) k shows h

pub still_catalog : {v w : View} {c : Catalog} → OnlyReads v w → v.Shows → Stands c v.space → Stands c w.space
still_catalog {c = c} k shows h = still (Stands c) k shows h

pub owned_there : {pages : ℕ → Option Sheet} {c : Catalog} (p : ℕ) → IsRaw pages c → Owns c p → IsSome (pages p)
owned_there p h o = subst IsSome (sym (h.page o.0 p o.1).is) refl

-- the places of a page are 79
pub part_inside : {pages : ℕ → Option Sheet} {c : Catalog} (j : ℕ) {p : ℕ} → IsRaw pages c → slice_get c.pages j ≡ Some p → 79 * j + 79 ≤ length c.places
part_inside {c = c} j {p = p} h at = let below : j < length c.pages = slice_get_within c.pages j p at in let long = h.long in omega arith

pub length-part : (places : List (Option Row)) (j : ℕ) → 79 * j + 79 ≤ length places → length (part j places) ≡ 79
length-part places j room = length-take-le 79 (drop (79 * j) places) (let long = length-drop (79 * j) places in omega arith)

pub part_at : (places : List (Option Row)) (j k : ℕ) → k < 79 → get_or (part j places) k None ≡ row_at places (79 * j + k)
part_at places j k below = get_or-take 79 (drop (79 * j) places) k None below ∙ get_or-drop (79 * j) places k None

some_row : (o : Option Row) (cell : List ℕ) → option_map row_cell o ≡ Some cell → (row : Row) × (o ≡ Some row) × (row_cell row ≡ cell)
some_row None cell h = absurd (cc)
some_row (Some row) cell h = (row, refl, same_some _ _ h)

some_cell : (s : Option (List ℕ)) (row : Row) → row_in s ≡ Some row → (cell : List ℕ) × (s ≡ Some cell)
some_cell None row h = absurd (cc)
some_cell (Some cell) row h = (cell, refl)

not_both : (cell : List ℕ) (row : Row) → row_of cell ≡ Some row → row_of cell ≡ None → ⊥
not_both cell row a b = cc

past_none : (places : List (Option Row)) (i : ℕ) (row : Row) → length places ≤ i → get_or places i None ≡ Some row → ⊥
past_none places i row past e = let none : get_or places i None ≡ None = get_or_past places i None past in (cc)

-- page j of a catalogue, with what it says
module _ {pages : ℕ → Option Sheet} {c : Catalog} (j p : ℕ) (sheet : Sheet) (h : IsRaw pages c) (at : slice_get c.pages j ≡ Some p) (is : pages p ≡ Some sheet) where
  room : 79 * j + 79 ≤ length c.places
  room = part_inside j h at

  pub page_here : IsPage (get_or c.pages (j + 1) 0) c.places j sheet
  page_here = let one = h.page j p at in subst (λ (s : Sheet). IsPage (get_or c.pages (j + 1) 0) c.places j s) (same_some _ _ (sym one.is ∙ is)) one.has

  formed_at : (k : ℕ) (row : Row) → get_or (part j c.places) k None ≡ Some row → IsFormed row
  formed_at k row e = elim (cases_lt k 79) [
    | inl below ↦ h.formed (79 * j + k) row (sym (part_at c.places j k below) ∙ e)
    | inr past ↦ absurd (past_none (part j c.places) k row (let long = length-part c.places j room in omega arith) e)
  ]

  pub spelled : AreSpelled sheet.slots (part j c.places)
  spelled =
      let long = length-part c.places j room in
      let few = page_here.few in
      record {
        few = omega arith;
        cells = λ k below. page_here.cells k (omega arith) ∙ ap (λ (x : Option Row). option_map row_cell x) (sym (part_at c.places j k (omega arith)));
        formed = formed_at;
      }

  -- a slot that is full is one of the first 79
  slot_below : (slot : ℕ) (cell : List ℕ) → cell_in sheet.slots slot ≡ Some cell → slot < 79
  slot_below slot cell e = let below = full_below sheet.slots slot cell (sym e) in let few = page_here.few in omega arith

  unformed : HasUnformed sheet.slots → ⊥
  unformed u =
      let below = slot_below u.slot u.cell u.at in
      let row = some_row (row_at c.places (79 * j + u.slot)) u.cell (sym (page_here.cells u.slot below) ∙ u.at) in
      not_both u.cell row.0 (ap row_of (sym row.2) ∙ row_back row.0 (h.formed (79 * j + u.slot) row.0 row.1)) u.none

  -- it is one of the catalogue's
  pub page_read : IsUnread sheet → ⊥
  page_read u = elim u [ inl other ↦ other page_here.kind page_here.few | inr x ↦ unformed x ]

  first_page : j ≡ 0 → p ≡ 0
  first_page e = same_some _ _ (sym (ap (slice_get c.pages) (sym e) ∙ at) ∙ h.first)

  pub header_here : (head : Header) → IsHeaderOf sheet head → IsHeader c j head
  header_here head k = record {
    next = sym (ap (λ (l : ℕ × ℕ). l.0) k.links) ∙ page_here.link;
    peak = λ zero_j.
        let says = h.says_peak in
        let same : says.what ≡ sheet = same_some _ _ (sym says.is ∙ (ap pages (sym (first_page zero_j)) ∙ is)) in
        sym (ap (λ (l : ℕ × ℕ). l.1) k.links) ∙ (ap (λ (s : Sheet). s.links.1) (sym same) ∙ says.has.says);
  }

  sees_found : (test : Row → Bool) (f : Found) → IsSeen test (record { 0 = p }) sheet.slots f → IsFoundIn test c j f
  sees_found test f q =
      let cell = some_cell (cell_in sheet.slots f.spot.slot) f.row q.at in
      let below = slot_below f.spot.slot cell.0 cell.1 in
      record {
        page = at ∙ ap (λ (n : PageNo). Some n.0) (sym q.page_is);
        below = below;
        row = sym (slot_read (cell_in sheet.slots f.spot.slot) (row_at c.places (79 * j + f.spot.slot)) (page_here.cells f.spot.slot below) (λ row e. h.formed (79 * j + f.spot.slot) row e)) ∙ q.at;
        first = ap (find test) (sym (read_filled sheet.slots (part j c.places) spelled)) ∙ q.first;
      }

  sees_any : (test : Row → Bool) (o : Option Found) → SeenIn test (record { 0 = p }) sheet.slots o → MatchOption o (find test (filled (part j c.places)) ≡ None) (IsFoundIn test c j)
  sees_any test None q = ap (find test) (sym (read_filled sheet.slots (part j c.places) spelled)) ∙ q
  sees_any test (Some f) q = sees_found test f q

  pub sees_here : (test : Row → Bool) (s : Seen) → Sees test (record { 0 = p }) sheet s → SeesPage test c j s
  sees_here test s k = record { header = header_here s.head k.header; found = sees_any test s.found k.found_is }

  same_page : (q : ℕ) → slice_get c.pages j ≡ Some q → q ≡ p
  same_page q e = same_some _ _ (sym e ∙ at)

  free_any : (o : Option ℕ) (full : ℕ) → MatchOption o (full ≡ 79) (λ slot. (slot < 79) × IsFree sheet.slots slot) → MatchOption o (full ≡ 79) (λ slot. (slot < 79) × (row_at c.places (79 * j + slot) ≡ None) × ((q : ℕ) → slice_get c.pages j ≡ Some q → HasAt pages q (λ s. IsFree s.slots slot)))
  free_any None full q = q
  free_any (Some slot) full q = (
    q.0,
    no_row (row_at c.places (79 * j + slot)) (sym (q.1).empty ∙ page_here.cells slot q.0),
    λ r e. record { what = sheet; is = ap pages (same_page r e) ∙ is; has = q.1 },
  )

  pub measures_here : (m : Measured) → Measures sheet m → MeasuresPage pages c j m
  measures_here m k = record {
    header = header_here m.head k.header;
    full = k.slots.full_is ∙ full_filled sheet.slots (part j c.places) spelled;
    free = free_any m.measure.free m.measure.full k.slots.free_is;
  }

  pub gathers_here : (old new : List (List ℕ)) (head : Header) → ListsPage sheet old new head → GathersPage c j old new head
  gathers_here old new head k = record {
    header = header_here head k.header;
    names = k.names ∙ ap (λ (xs : List Row). old ++ names_of xs) (read_filled sheet.slots (part j c.places) spelled);
  }
