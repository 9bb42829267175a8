-- A catalogue with one row more.
use Rattle.std.proofs.Common.{◌≡◌, ℕ, ◌+◌, ◌-◌, ◌*◌, ◌/◌, ◌<◌, ◌≤◌, max, length, set, Option, true, is_none, subst, Some, None, sym, ap, ◌∙◌, refl, arith, inl, inr}
use Rattle.std.specs.List.{find}
use Rattle.std.proofs.lemmas.List.{length_push, length-set}
use Rattle.std.proofs.lemmas.Option.{slice_get_within, MatchOption-at_some, MatchOption-at_none}
use Rattle.std.proofs.lemmas.Bool.{cases_lt}
use Rattle.sg_base.specs.Sheet.{Sheet}
use Rattle.sg_space.specs.View.{Space, View, OnlyReads}
use Rattle.sg_space.proofs.Known.{still}
use Rattle.sg_space.proofs.Owners.{grown}
use Rattle.sg_catalog.specs.Calls.{IsPlaced, IsAdded, Turns, CanGrow, CanPlace, CanLink, LinksPage}
use Rattle.sg_catalog.specs.Catalog.{Catalog, IsCatalog, rows, is_there}
use Rattle.sg_catalog.specs.Steps.{RawTurns, SetsPlace, CanPut, IsFreeSpot, Surveyed, with_place, with_page}
use Rattle.sg_catalog.specs.declared.look.Spot.{Spot}
use Rattle.sg_catalog.specs.declared.row.Row.{Row}
use Rattle.sg_catalog.specs.declared.walk.Survey.{Survey}
use Rattle.sg_catalog.proofs.Growth.{filled_most, page_rows}
use Rattle.sg_catalog.proofs.Maps.{map_more, tombs_same, not_tomb}
use Rattle.sg_catalog.proofs.Rows.{more_length, once_more, one_more, stands_beside}

peak_is : (a b : ℕ) → b ≤ a → max a b ≡ a
peak_is a b h = omega arith

peak_rises : (a b : ℕ) → a ≤ b → max a b ≡ b
peak_rises a b h = omega arith

-- the pages that the peak wants, where a row came to r others
pages_then : (r peak pages pages' : ℕ) → r ≤ peak → pages ≡ 1 + (peak - 1) / 79 → r ≤ 79 * pages → (r < 79 * pages → pages' ≡ pages) → (r ≡ 79 * pages → pages' ≡ pages + 1) → pages' ≡ 1 + (max peak (r + 1) - 1) / 79
pages_then r peak pages pages' below exactly most same more = elim (cases_lt r peak) [
  | inl less ↦
      let e : max peak (r + 1) ≡ peak = peak_is peak (r + 1) (omega arith) in
      let room : r < 79 * pages = omega arith in
      same room ∙ (exactly ∙ ap (λ (n : ℕ). 1 + (n - 1) / 79) (sym e))
  | inr no_less ↦
      let at : r ≡ peak = omega arith in
      let e : max peak (r + 1) ≡ peak + 1 = peak_rises peak (r + 1) (omega arith) ∙ omega arith in
      let want : 1 + (max peak (r + 1) - 1) / 79 ≡ 1 + peak / 79 = ap (λ (n : ℕ). 1 + (n - 1) / 79) e ∙ omega arith in
      elim (cases_lt r (79 * pages)) [
        | inl room ↦ let one = same room in omega arith
        | inr full ↦ let one = more (omega arith) in omega arith
      ]
]

-- where a row of a name that none had was placed, and then the peak was raised, there is a catalogue
pub added_turns : {old new : Space} {row : Row} {c c' : Catalog} → IsCatalog old.pages.at c → IsPlaced row c c' → find (is_there row.name) (rows c) ≡ None → is_none row.dropper ≡ true → RawTurns old new c (record c' { peak = max c'.peak (length (rows c) + 1) }) → Turns old new c (record c' { peak = max c'.peak (length (rows c) + 1) }) × IsAdded row c (record c' { peak = max c'.peak (length (rows c) + 1) })
added_turns {old} {new} {row} {c} {c'} h p none object t =
    let long = more_length p.rows_are in
    let most = filled_most c.places in
    let places = h.raw.long in
    let below = h.below_peak in
    let same_peak = p.peak in (
      record {
        catalog = record {
          raw = t.raw;
          once = once_more p.rows_are h.once none;
          below_peak = omega arith;
          exactly = pages_then (length (rows c)) c.peak (length c.pages) (length c'.pages) below h.exactly (omega arith) p.same_pages p.more_pages ∙ ap (λ (n : ℕ). 1 + (max n (length (rows c) + 1) - 1) / 79) (sym same_peak);
        };
        pages = grown t.pages;
        bands = t.bands;
        beside = λ other apart. stands_beside c (record c' { peak = max c'.peak (length (rows c) + 1) }) other (grown t.pages) apart;
      },
      record { rows_are = p.rows_are; map = map_more p.rows_are object none; tombs_are = tombs_same p.rows_are (not_tomb row object); peak = ap (λ (n : ℕ). max n (length (rows c) + 1)) same_peak ∙ ap (λ (n : ℕ). max c.peak n) (sym long) },
    )

pub still_grow : {v w : View} {c : Catalog} → OnlyReads v w → v.Shows → CanGrow v c → CanGrow w c
still_grow {v} {w} {c} k shows grow = record {
  may_fill = λ p o n le. k.keeps.may_have p n (grow.may_fill p o n le);
  free = λ full. let free = grow.free full in record { some = subst (λ (x : Space). 0 < x.pages.free) (sym (k.same shows)) free.some; may = k.keeps.may_take free.may };
}

-- a place that a survey found
pub can_put : {v : View} {c : Catalog} (spot : Spot) → (free : IsFreeSpot v.space.pages.at c spot) → CanGrow v c → CanPut v spot c free.place
can_put spot free grow = record {
  is_place = free.is_place;
  free = free.free;
  slot_free = free.slot_free;
  may_fill = grow.may_fill spot.page.0 (free.is_place.index, free.is_place.page);
}

pub free_found : {pages : ℕ → Option Sheet} {c : Catalog} {s : Survey} (spot : Spot) → Surveyed pages c s → s.free ≡ Some spot → IsFreeSpot pages c spot
free_found {pages} {c} {s} spot h e = MatchOption-at_some (s.rows ≡ 79 * length c.pages) (IsFreeSpot pages c) spot e h.free

pub none_free : {pages : ℕ → Option Sheet} {c : Catalog} {s : Survey} → Surveyed pages c s → s.free ≡ None → length (rows c) ≡ 79 * length c.pages
none_free {pages} {c} {s} h e = sym h.count ∙ MatchOption-at_none (s.rows ≡ 79 * length c.pages) (IsFreeSpot pages c) e h.free

pub can_link : {v : View} {c : Catalog} {s : Survey} → CanPlace v s c → s.free ≡ None → CanLink v s.last.0 c
can_link can e = record { at_last = can.survey.last; free = can.grow.free (none_free can.survey e) }

-- a row in a free place
pub placed_in : {v w : View} {c : Catalog} {s : Survey} (row : Row) (spot : Spot) → IsCatalog v.space.pages.at c → CanPlace v s c → s.free ≡ Some spot → SetsPlace v w (CanPut v spot) (Some row) → v.Told → (c' : Catalog) × RawTurns v.space w.space c c' × IsPlaced row c c'
placed_in {v} {w} {c} {s} row spot h can e did told =
    let free = free_found spot can.survey e in
    let is = free.is_place.is in
    let below = free.is_place.below in
    let index = slice_get_within c.pages free.is_place.index spot.page.0 free.is_place.page in
    let long = h.raw.long in
    let inside : free.place < length c.places = omega arith in
    let more = one_more c free.place row inside free.free in
    let count = more_length more in
    let most = filled_most (set c.places free.place (Some row)) in
    let same = length-set c.places free.place (Some row) in (
      with_place free.place (Some row) c,
      did.turns told c free.place h.raw (can_put spot free can.grow),
      record { rows_are = more; peak = refl; same_pages = λ less. refl; more_pages = λ full. absurd (omega arith) },
    )

-- a row on a page of its own
pub placed_behind : {v w : View} {c : Catalog} {s : Survey} (row : Row) → IsCatalog v.space.pages.at c → CanPlace v s c → s.free ≡ None → LinksPage v w s.last.0 row → v.Told → (c' : Catalog) × RawTurns v.space w.space c c' × IsPlaced row c c'
placed_behind {v} {w} {c} {s} row h can e did told =
    let full = none_free can.survey e in
    let one = did.turns told c h.raw (can_link can e) in (
      with_page one.0 row c,
      one.1,
      record { rows_are = page_rows c one.0 row; peak = refl; same_pages = λ less. absurd (omega arith); more_pages = λ all. length_push c.pages one.0 },
    )

pub can_place : {v w : View} {c : Catalog} {s : Survey} → OnlyReads v w → v.Shows → Surveyed v.space.pages.at c s → CanGrow v c → CanPlace w s c
can_place {v} {w} {c} {s} k shows h grow = record {
  survey = still (λ (x : Space). Surveyed x.pages.at c s) k shows h;
  grow = still_grow k shows grow;
}
