-- A walk over the pages of the catalogue.
use Rattle.std.proofs.Common.{◌≡◌, ℕ, ◌+◌, ◌-◌, ◌*◌, ◌/◌, ◌<◌, ◌≤◌, Bool, true, false, is_some, List, ◌++◌, length, take, drop, get_or, Option, Some, None, sym, ap, ◌∙◌, refl, arith, subst, MatchOption, slice_get, length-append}
use Rattle.std.specs.List.{find}
use Rattle.std.proofs.Math.Seq.{take-add}
use Rattle.std.proofs.lemmas.List.{take-append-drop, take_all, get_or_past}
use Rattle.std.proofs.lemmas.List.Elements.{filter_map-append}
use Rattle.std.proofs.lemmas.Option.{slice_get-get_or}
use Rattle.sg_base.specs.Sheet.{Sheet}
use Rattle.sg_base.specs.Slots.{IsFree}
use Rattle.sg_base.specs.declared.numbers.PageNo.{PageNo}
use Rattle.sg_space.specs.Units.{HasAt, IsExact}
use Rattle.sg_space.specs.View.{Space, View, OnlyReads}
use Rattle.sg_space.proofs.Few.{few_units}
use Rattle.sg_space.proofs.Known.{before, reads_then}
use Rattle.sg_catalog.specs.Catalog.{Catalog, IsRaw, IsCatalog, Owns, filled, rows}
use Rattle.sg_catalog.specs.Steps.{part, IfPage, IsHeader, IsFoundIn, IsFound, Searched, MeasuresPage, IsFreeSpot, SurveyedTo, Surveyed, IsSurveyedOn, free_on}
use Rattle.sg_catalog.specs.declared.look.Found.{Found}
use Rattle.sg_catalog.specs.declared.look.Header.{Header}
use Rattle.sg_catalog.specs.declared.look.Measured.{Measured}
use Rattle.sg_catalog.specs.declared.look.Spot.{Spot}
use Rattle.sg_catalog.specs.declared.row.Row.{Row}
use Rattle.sg_catalog.specs.declared.walk.Survey.{Survey}
use Rattle.sg_catalog.proofs.Lists.{find_behind, find_front}
use Rattle.sg_catalog.specs.Look.{names_of}
use Rattle.sg_catalog.proofs.Pages.{names_both}
use Rattle.sg_catalog.proofs.Parts.{still_raw}

-- the places of the first j pages, and of one more
pub filled_more : (places : List (Option Row)) (j : ℕ) → filled (take (79 * (j + 1)) places) ≡ filled (take (79 * j) places) ++ filled (part j places)
filled_more places j =
    let e : 79 * (j + 1) ≡ 79 * j + 79 = omega arith in
    ap (λ (n : ℕ). filled (take n places)) e ∙ (ap filled (take-add (79 * j) 79 places) ∙ filter_map-append (λ (x : Option Row). x) (take (79 * j) places) (part j places))

-- and all
pub filled_all : (places : List (Option Row)) (j : ℕ) → filled places ≡ filled (take (79 * (j + 1)) places) ++ filled (drop (79 * (j + 1)) places)
filled_all places j = ap filled (sym (take-append-drop (79 * (j + 1)) places)) ∙ filter_map-append (λ (x : Option Row). x) (take (79 * (j + 1)) places) (drop (79 * (j + 1)) places)

-- none of the first j pages has a row that passes
abbrev pub FindsNone : (Row → Bool) → Catalog → ℕ → Type 0
FindsNone p c j = find p (filled (take (79 * j) c.places)) ≡ None

pub none_more : (p : Row → Bool) (c : Catalog) (j : ℕ) → FindsNone p c j → find p (filled (part j c.places)) ≡ None → FindsNone p c (j + 1)
none_more p c j h none = ap (find p) (filled_more c.places j) ∙ (find_behind p (filled (take (79 * j) c.places)) (filled (part j c.places)) h ∙ none)

pub found_at_last : (p : Row → Bool) (c : Catalog) (j : ℕ) (f : Found) → FindsNone p c j → IsFoundIn p c j f → IsFound p c f
found_at_last p c j f h q = record {
  place = 79 * j + f.spot.slot;
  is_place = record { index = j; page = q.page; below = q.below; is = refl };
  row = q.row;
  first =
      ap (find p) (filled_all c.places j)
      ∙ find_front p (filled (take (79 * (j + 1)) c.places)) (filled (drop (79 * (j + 1)) c.places)) f.row
      (ap (find p) (filled_more c.places j) ∙ (find_behind p (filled (take (79 * j) c.places)) (filled (part j c.places)) h ∙ q.first));
}

pub none_at_last : (p : Row → Bool) (c : Catalog) (j : ℕ) → length c.places ≡ 79 * length c.pages → length c.pages ≤ j → FindsNone p c j → find p (rows c) ≡ None
none_at_last p c j long all h = ap (λ (xs : List (Option Row)). find p (filled xs)) (sym (take_all (79 * j) c.places (omega arith))) ∙ h

-- what a look at the next page says of the search
pub searched_some : (p : Row → Bool) (c : Catalog) (j : ℕ) (o : Option Found) → is_some o ≡ true → FindsNone p c j → MatchOption o (find p (filled (part j c.places)) ≡ None) (IsFoundIn p c j) → Searched p c o
searched_some p c j None e h q = absurd (cc)
searched_some p c j (Some f) e h q = found_at_last p c j f h q

pub searched_none : (p : Row → Bool) (c : Catalog) (j : ℕ) (o : Option Found) → is_some o ≡ false → MatchOption o (find p (filled (part j c.places)) ≡ None) (IsFoundIn p c j) → find p (filled (part j c.places)) ≡ None
searched_none p c j None e q = q
searched_none p c j (Some f) e q = absurd (cc)

-- where a walk stands that has seen j pages: `next` follows them, and there are so many
pub record AtPage (Q : Catalog → ℕ → Type 0) (c : Catalog) (j next pages : ℕ) : Type 0 where
  pub next_is : next ≡ get_or c.pages j 0
  pub count : pages ≡ length c.pages
  pub so_far : Q c j

pub record WalksTo (v w : View) (Q : Catalog → ℕ → Type 0) (j next pages : ℕ) : Type 0 where
  pub told : w.Told → v.Told
  pub later : v.faults ≤ w.faults
  pub kept : OnlyReads v w
  pub some : 1 ≤ j
  pub at : v.Shows → (c : Catalog) → IsCatalog v.space.pages.at c → AtPage Q c j next pages

pub walks_start : {v w : View} {Q : Catalog → ℕ → Type 0} (head : Header) (pages : ℕ) → (w.Told → v.Told) → v.faults ≤ w.faults → OnlyReads v w → (v.Shows → (c : Catalog) → IsCatalog v.space.pages.at c → IsHeader c 0 head × Q c 1) → pages ≡ 1 + (head.peak - 1) / 79 → WalksTo v w Q 1 head.next.0 pages
walks_start {Q = Q} head pages told later kept read e = record {
  told = told;
  later = later;
  kept = kept;
  some = omega arith;
  at = λ shows c h.
      let one = read shows c h in
      record {
        next_is = (one.0).next;
        count = e ∙ (ap (λ (n : ℕ). 1 + (n - 1) / 79) ((one.0).peak refl) ∙ sym h.exactly);
        so_far = one.1;
      };
}

-- the page that follows is there
pub next_at : (c : Catalog) (j next : ℕ) → next ≡ get_or c.pages j 0 → j < length c.pages → slice_get c.pages j ≡ Some next
next_at c j next e below = slice_get-get_or c.pages j 0 below ∙ ap Some (sym e)

pub next_some : {pages : ℕ → Option Sheet} {c : Catalog} (j next : ℕ) → IsRaw pages c → 1 ≤ j → next ≡ get_or c.pages j 0 → j < length c.pages → next ≡ 0 → ⊥
next_some {pages} {c} j next h some e below zero_next =
    let at = next_at c j next e below in
    let same = h.apart 0 j 0 h.first (at ∙ ap Some zero_next) in
    omega arith

pub next_none : (c : Catalog) (j next : ℕ) → next ≡ get_or c.pages j 0 → length c.pages ≤ j → next ≡ 0
next_none c j next e past = e ∙ get_or_past c.pages j 0 past

pub walks_on : {u v w : View} {Q Then : Catalog → ℕ → Type 0} {j next pages : ℕ} (head : Header) → WalksTo u v Q j next pages → j < pages → (w.Told → v.Told) → v.faults ≤ w.faults → OnlyReads v w → IfPage v next (λ c i. IsHeader c i head) → (u.Shows → (c : Catalog) → IsCatalog u.space.pages.at c → slice_get c.pages j ≡ Some next → Q c j → Then c (j + 1)) → WalksTo u w Then (j + 1) head.next.0 pages
walks_on {u} {v} {w} {Q} {Then} {j} {next} {pages} head k below told later kept read step =
    let some = k.some in
    let before_it = k.later in
    record {
      told = λ t. k.told (told t);
      later = omega arith;
      kept = reads_then k.kept kept;
      some = omega arith;
      at = λ shows c h.
          let a = k.at shows c h in
          let count = a.count in
          let at = next_at c j next a.next_is (omega arith) in
          let one = read (k.kept.shows shows) c j (still_raw k.kept shows h.raw) at in
          record { next_is = one.next; count = a.count; so_far = step shows c h at a.so_far };
    }

-- what a call on the next page may rely on
pub next_owned : {u v : View} {Q : Catalog → ℕ → Type 0} {j next pages : ℕ} → WalksTo u v Q j next pages → j < pages → u.Shows → (c : Catalog) → IsCatalog u.space.pages.at c → IsRaw v.space.pages.at c × Owns c next
next_owned {u} {v} {Q} {j} {next} {pages} k below shows c h =
    let a = k.at shows c h in
    let count = a.count in
    (still_raw k.kept shows h.raw, (j, next_at c j next a.next_is (omega arith)))

-- how full a page is, as a space says that was only read since
pub measures_before : {v w : View} {c : Catalog} {j : ℕ} {m : Measured} → OnlyReads v w → v.Shows → MeasuresPage w.space.pages.at c j m → MeasuresPage v.space.pages.at c j m
measures_before {c = c} {j = j} {m = m} k shows h = before (λ (s : Space). MeasuresPage s.pages.at c j m) k shows h

-- no page was surveyed
pub surveyed_none : (pages : ℕ → Option Sheet) (c : Catalog) (s : Survey) → s.rows ≡ 0 → s.peak ≡ c.peak → s.free ≡ None → SurveyedTo pages c 0 s
surveyed_none pages c s count peak free = record {
  count = count;
  most = omega arith;
  peak = peak;
  last = λ i e. absurd (omega arith);
  free = subst (λ (o : Option Spot). MatchOption o (s.rows ≡ 0) (IsFreeSpot pages c)) (sym free) (omega arith);
}

module _ (pages : ℕ → Option Sheet) (c : Catalog) (j : ℕ) (page : PageNo) (at : slice_get c.pages j ≡ Some page.0) where
  free_spot : (m : Measured) (slot : ℕ) → (slot < 79) × (get_or c.places (79 * j + slot) None ≡ None) × ((p : ℕ) → slice_get c.pages j ≡ Some p → HasAt pages p (λ sheet. IsFree sheet.slots slot)) → IsFreeSpot pages c (record { page = page; slot = slot })
  free_spot m slot q = record { place = 79 * j + slot; is_place = record { index = j; page = at; below = q.0; is = refl }; free = q.1; slot_free = q.2 page.0 at }

  free_more : (m : Measured) (known : Option Spot) (slot : Option ℕ) (rows : ℕ) → rows ≤ 79 * j → m.measure.full ≤ 79 → MatchOption known (rows ≡ 79 * j) (IsFreeSpot pages c)
      → MatchOption slot (m.measure.full ≡ 79) (λ slot. (slot < 79) × (get_or c.places (79 * j + slot) None ≡ None) × ((p : ℕ) → slice_get c.pages j ≡ Some p → HasAt pages p (λ sheet. IsFree sheet.slots slot)))
      → MatchOption (free_on known page slot) (rows + m.measure.full ≡ 79 * (j + 1)) (IsFreeSpot pages c)
  free_more m None None rows most full a b = omega arith
  free_more m None (Some slot) rows most full a b = free_spot m slot b
  free_more m (Some spot) slot rows most full a b = a

  -- one page more was surveyed
  pub surveyed_more : (m : Measured) (s s' : Survey) → m.measure.full ≤ 79 → SurveyedTo pages c j s → MeasuresPage pages c j m → IsSurveyedOn s page m.measure s' → SurveyedTo pages c (j + 1) s'
  surveyed_more m s s' few h q on =
      let most = h.most in
      let count = h.count in
      let full = q.full in
      let sum = on.count in
      let more : length (filled (take (79 * (j + 1)) c.places)) ≡ length (filled (take (79 * j) c.places)) + length (filled (part j c.places)) = ap (λ (xs : List Row). length xs) (filled_more c.places j) ∙ length-append (filled (take (79 * j) c.places)) (filled (part j c.places)) in
      record {
        count = omega arith;
        most = omega arith;
        peak = on.peak ∙ h.peak;
        last = λ i e. let same : i ≡ j = omega arith in ap (slice_get c.pages) same ∙ (at ∙ ap (λ (p : PageNo). Some p.0) (sym on.last));
        free = subst (λ (o : Option Spot). MatchOption o (s'.rows ≡ 79 * (j + 1)) (IsFreeSpot pages c)) (sym on.free)
            (subst (λ (n : ℕ). MatchOption (free_on s.free page m.measure.free) (n ≡ 79 * (j + 1)) (IsFreeSpot pages c)) (sym sum) (free_more m s.free m.measure.free s.rows most few h.free q.free));
      }

-- all pages were surveyed
pub surveyed_all : {pages : ℕ → Option Sheet} {c : Catalog} {j : ℕ} {s : Survey} → IsCatalog pages c → 1 ≤ j → j ≡ length c.pages → SurveyedTo pages c j s → Surveyed pages c s
surveyed_all {pages} {c} {j} {s} h some e q =
    let long = h.raw.long in
    record {
      count = q.count ∙ ap (λ (xs : List (Option Row)). length (filled xs)) (take_all (79 * j) c.places (omega arith));
      peak = q.peak;
      last = q.last (length c.pages - 1) (omega arith);
      free = subst (λ (n : ℕ). MatchOption s.free (s.rows ≡ 79 * n) (IsFreeSpot pages c)) e q.free;
    }

-- the names of the first j pages, and of one more
pub names_more : (places : List (Option Row)) (j : ℕ) (old new : List (List ℕ)) → old ≡ names_of (filled (take (79 * j) places)) → new ≡ old ++ names_of (filled (part j places)) → new ≡ names_of (filled (take (79 * (j + 1)) places))
names_more places j old new h n =
    n
    ∙ (ap (λ (xs : List (List ℕ)). xs ++ names_of (filled (part j places))) h
    ∙ (sym (names_both (filled (take (79 * j) places)) (filled (part j places))) ∙ ap names_of (sym (filled_more places j))))

-- a catalogue has no more pages than its space
pub few_pages : (space : Space) {c : Catalog} → IsExact space.pages → IsCatalog space.pages.at c → 1 + (c.peak - 1) / 79 ≤ space.pages.count
few_pages space {c} exact h = subst (λ (n : ℕ). n ≤ space.pages.count) h.exactly (few_units c.pages exact h.raw.apart (λ j p e none. let is = (h.raw.page j p e).is in cc))
