-- One place of the catalogue gets another row, or none.
use Rattle.std.proofs.Common.{◌≡◌, ◌≢◌, ℕ, ◌+◌, ◌*◌, ◌<◌, ◌≤◌, List, length, set, get_or, option_map, Option, Some, None, sym, ap, ◌∙◌, refl, arith, subst, slice_get, inl, inr}
use Rattle.std.proofs.lemmas.Bool.{cases_lt, cases_eq}
use Rattle.std.proofs.lemmas.List.{get_or-set_same, get_or-set_other, get_or_past, length-set}
use Rattle.sg_base.specs.Page.{cell_in, cell_size, bytes_of}
use Rattle.sg_base.specs.Sheet.{Sheet}
use Rattle.sg_base.specs.Slots.{with_cell}
use Rattle.sg_space.specs.Owned.{Grows}
use Rattle.sg_space.specs.Units.{Units, HasAt}
use Rattle.sg_space.proofs.Known.{same_some}
use Rattle.sg_space.proofs.Putting.{cell-set_same, cell-set_other, cell-with_same, cell-with_other, length-with}
use Rattle.sg_catalog.specs.Catalog.{Catalog, IsRaw, IsPage, SaysPeak, Owns, row_at}
use Rattle.sg_catalog.specs.Row.{row_cell, IsFormed}
use Rattle.sg_catalog.specs.Steps.{IsSpot, with_place}
use Rattle.sg_catalog.specs.declared.look.Spot.{Spot}
use Rattle.sg_catalog.specs.declared.row.Row.{Row}
use Rattle.sg_catalog.proofs.Bytes.{length-row, name_short}
use Rattle.sg_space.proofs.Links.{stored_most}
use Rattle.sg_catalog.proofs.Parts.{part_inside, page_here}

-- a sheet with another row, or none, in one slot
pub record IsPlaced (k : ℕ) (x : Option Row) (old new : Sheet) : Type 0 where
  pub kind : new.kind ≡ old.kind
  pub links : new.links ≡ old.links
  pub few : length old.slots ≤ 79 → length new.slots ≤ 79
  pub here : cell_in new.slots k ≡ option_map row_cell x
  pub others : (m : ℕ) → m ≢ k → cell_in new.slots m ≡ cell_in old.slots m

-- one page of a space has changed so
pub record PutsRow (old new : ℕ → Option Sheet) (spot : Spot) (x : Option Row) : Type 0 where
  pub was : Sheet
  pub was_is : old spot.page.0 ≡ Some was
  pub now : Sheet
  pub now_is : new spot.page.0 ≡ Some now
  pub placed : IsPlaced spot.slot x was now
  pub others : (p : ℕ) → p ≢ spot.page.0 → new p ≡ old p

module _ {old new : ℕ → Option Sheet} (c : Catalog) (i : ℕ) (spot : Spot) (x : Option Row) (h : IsRaw old c) (s : IsSpot c i spot) (q : PutsRow old new spot x) (formed : (row : Row) → x ≡ Some row → IsFormed row) where
  here_at : (p : ℕ) → p ≡ spot.page.0 → new p ≡ Some q.now
  here_at p e = ap new e ∙ q.now_is

  inside : i < length c.places
  inside = let room = part_inside {c = c} s.index h s.page in let below = s.below in let is = s.is in omega arith

  same_index : (j p : ℕ) → slice_get c.pages j ≡ Some p → p ≡ spot.page.0 → j ≡ s.index
  same_index j p at e = h.apart j s.index p at (s.page ∙ ap Some (sym e))

  apart_from : (j p k : ℕ) → slice_get c.pages j ≡ Some p → p ≢ spot.page.0 → k < 79 → 79 * j + k ≢ i
  apart_from j p k at ne below e =
      let is = s.is in
      let less = s.below in
      let same : j ≡ s.index = omega arith in
      ne (same_some _ _ (sym at ∙ (ap (slice_get c.pages) same ∙ s.page)))

  cell_now : (k : ℕ) → k < 79 → cell_in q.now.slots k ≡ option_map row_cell (row_at (set c.places i x) (79 * s.index + k))
  cell_now k below = elim (cases_eq k spot.slot) [
    | inl e ↦
        let at : 79 * s.index + k ≡ i = let is = s.is in omega arith in
        ap (cell_in q.now.slots) e ∙ (q.placed.here ∙ ap (λ (o : Option Row). option_map row_cell o) (sym (ap (row_at (set c.places i x)) at ∙ get_or-set_same c.places i x None inside)))
    | inr ne ↦
        let off : 79 * s.index + k ≢ i = λ e. (let is = s.is in ne (omega arith)) in
        q.placed.others k ne ∙ ((page_here s.index spot.page.0 q.was h s.page q.was_is).cells k below ∙ ap (λ (o : Option Row). option_map row_cell o) (sym (get_or-set_other c.places i (79 * s.index + k) x None off)))
  ]

  page_now : IsPage (get_or c.pages (s.index + 1) 0) (set c.places i x) s.index q.now
  page_now = let was = page_here s.index spot.page.0 q.was h s.page q.was_is in record {
    kind = q.placed.kind ∙ was.kind;
    link = ap (λ (l : ℕ × ℕ). l.0) q.placed.links ∙ was.link;
    few = q.placed.few was.few;
    cells = cell_now;
  }

  page_other : (j p : ℕ) → slice_get c.pages j ≡ Some p → p ≢ spot.page.0 → HasAt new p (IsPage (get_or c.pages (j + 1) 0) (set c.places i x) j)
  page_other j p at ne = let was = h.page j p at in record {
    what = was.what;
    is = q.others p ne ∙ was.is;
    has = record {
      kind = was.has.kind;
      link = was.has.link;
      few = was.has.few;
      cells = λ k below. was.has.cells k below ∙ ap (λ (o : Option Row). option_map row_cell o) (sym (get_or-set_other c.places i (79 * j + k) x None (apart_from j p k at ne below)));
    };
  }

  peak_now : HasAt new 0 (SaysPeak c.peak)
  peak_now = let says = h.says_peak in elim (cases_eq 0 spot.page.0) [
    | inl e ↦ record {
      what = q.now;
      is = here_at 0 e;
      has = record { says = ap (λ (l : ℕ × ℕ). l.1) q.placed.links ∙ (ap (λ (t : Sheet). t.links.1) (same_some q.was says.what (sym q.was_is ∙ (ap old (sym e) ∙ says.is))) ∙ says.has.says) };
    }
    | inr ne ↦ record { what = says.what; is = q.others 0 ne ∙ says.is; has = says.has }
  ]

  formed_now : (m : ℕ) (row : Row) → row_at (set c.places i x) m ≡ Some row → IsFormed row
  formed_now m row e = elim (cases_eq m i) [
    | inl same ↦ formed row (sym (ap (row_at (set c.places i x)) same ∙ get_or-set_same c.places i x None inside) ∙ e)
    | inr ne ↦ h.formed m row (sym (get_or-set_other c.places i m x None ne) ∙ e)
  ]

  pub place_raw : IsRaw new (with_place i x c)
  place_raw = record {
    first = h.first;
    page = λ j p at. elim (cases_eq p spot.page.0) [
      | inl e ↦
          let index = same_index j p at e in
          subst (λ (n : ℕ). HasAt new p (IsPage (get_or c.pages (n + 1) 0) (set c.places i x) n)) (sym index) (record { what = q.now; is = here_at p e; has = page_now })
      | inr ne ↦ page_other j p at ne
    ];
    says_peak = peak_now;
    fit = h.fit;
    apart = h.apart;
    long = length-set c.places i x ∙ h.long;
    formed = formed_now;
  }

-- a change of one page of the catalogue
pub page_changed : {old new : Units Sheet} (c : Catalog) (p : ℕ) → Owns c p → ((q : ℕ) → q ≢ p → new.at q ≡ old.at q) → new.free ≡ old.free → new.count ≡ old.count → Grows old new (Owns c) (Owns c) (length c.pages) (length c.pages)
page_changed {old} {new} c p mine others free count = record {
  others = λ q not_mine. others q (λ e. not_mine (subst (λ (n : ℕ). Owns c n) (sym e) mine));
  more = λ q o. o;
  taken = λ q o. inl o;
  exactly = ap (λ (n : ℕ). n + length c.pages) free;
  all = count;
}

-- each cell of a page has 47 bytes at most
row_size : (o : Option Row) → ((row : Row) → o ≡ Some row → IsFormed row) → cell_size (option_map row_cell o) ≤ 47
row_size None formed = omega arith
row_size (Some row) formed = let long = length-row row in let short = name_short row.name (formed row refl).name in omega arith

pub placed_bytes : {k : ℕ} {x : Option Row} {was now : Sheet} → IsPlaced k x was now → ((m : ℕ) → cell_size (cell_in was.slots m) ≤ 47) → length was.slots ≤ 79 → ((row : Row) → x ≡ Some row → IsFormed row) → bytes_of now.slots ≤ 4072
placed_bytes {k} {x} {was} {now} q sizes few formed =
    let less = q.few few in
    let most = stored_most now.slots 47 size in
    omega arith
  where
    size : (m : ℕ) → cell_size (cell_in now.slots m) ≤ 47
    size m = elim (cases_eq m k) [
      | inl e ↦ subst (λ (o : Option (List ℕ)). cell_size o ≤ 47) (sym (ap (cell_in now.slots) e ∙ q.here)) (row_size x formed)
      | inr ne ↦ subst (λ (o : Option (List ℕ)). cell_size o ≤ 47) (sym (q.others m ne)) (sizes m)
    ]

-- the cells of a page of the catalogue
pub page_sizes : {pages : ℕ → Option Sheet} {c : Catalog} (j p : ℕ) (sheet : Sheet) → IsRaw pages c → slice_get c.pages j ≡ Some p → pages p ≡ Some sheet → (m : ℕ) → cell_size (cell_in sheet.slots m) ≤ 47
page_sizes {pages} {c} j p sheet h at is m =
    let page = page_here j p sheet h at is in
    elim (cases_lt m 79) [
      | inl below ↦ subst (λ (o : Option (List ℕ)). cell_size o ≤ 47) (sym (page.cells m below)) (row_size (row_at c.places (79 * j + m)) (λ row e. h.formed (79 * j + m) row e))
      | inr past ↦ let few = page.few in subst (λ (o : Option (List ℕ)). cell_size o ≤ 47) (sym (get_or_past sheet.slots m None (omega arith))) (omega arith)
    ]

-- the three changes of a slot
pub set_placed : (sheet : Sheet) (k : ℕ) (row : Row) → k < length sheet.slots → IsPlaced k (Some row) sheet (record sheet { slots = set sheet.slots k (Some (row_cell row)) })
set_placed sheet k row below = record {
  kind = refl;
  links = refl;
  few = λ few. rw (length-set sheet.slots k (Some (row_cell row))) few;
  here = cell-set_same sheet.slots k (Some (row_cell row)) below;
  others = λ m ne. cell-set_other sheet.slots k m (Some (row_cell row)) ne;
}

pub clear_placed : (sheet : Sheet) (k : ℕ) → k < length sheet.slots → IsPlaced k None sheet (record sheet { slots = set sheet.slots k None })
clear_placed sheet k below = record {
  kind = refl;
  links = refl;
  few = λ few. rw (length-set sheet.slots k None) few;
  here = cell-set_same sheet.slots k None below;
  others = λ m ne. cell-set_other sheet.slots k m None ne;
}

pub put_placed : (sheet : Sheet) (k : ℕ) (row : Row) → k < 79 → k ≤ length sheet.slots → IsPlaced k (Some row) sheet (record sheet { slots = with_cell sheet.slots k (row_cell row) })
put_placed sheet k row below next = record {
  kind = refl;
  links = refl;
  few = λ few. length-with sheet.slots k (row_cell row) 79 below next few;
  here = cell-with_same sheet.slots k (row_cell row) next;
  others = λ m ne. cell-with_other sheet.slots k m (row_cell row) next ne;
}
