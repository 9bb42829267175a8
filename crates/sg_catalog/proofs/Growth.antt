-- The catalogue gets another page, or another peak.
use Rattle.std.proofs.Common.{◌≡◌, ◌≢◌, ℕ, zero, suc, ◌+◌, ◌-◌, ◌*◌, ◌<◌, ◌≤◌, ◌^◌, List, [], ◌∷◌, ◌++◌, length, get_or, option_map, replicate, Option, Some, None, IsSome, sym, ap, ◌∙◌, refl, arith, subst, inl, inr, ◌⊎◌, slice_get, length-append}
use Rattle.std.proofs.Math.ListN.{get_or-append}
use Rattle.std.proofs.lemmas.Bool.{cases_lt, cases_eq}
use Rattle.std.proofs.lemmas.List.{get_or-append-add, get_or_past, length_push}
use Rattle.std.proofs.lemmas.List.Elements.{filter_map-append}
use Rattle.std.proofs.lemmas.Option.{slice_get_within}
use Rattle.sg_base.specs.Page.{cell_in}
use Rattle.sg_base.specs.Sheet.{Sheet}
use Rattle.sg_space.specs.Reads.{one_cell}
use Rattle.sg_space.specs.Units.{Units, HasAt, IsChanged, IsTaken}
use Rattle.sg_space.specs.View.{Space}
use Rattle.sg_space.proofs.Known.{same_some}
use Rattle.sg_space.proofs.Putting.{slice_get-push_same, slice_get-push_other}
use Rattle.sg_catalog.specs.Calls.{IsOneMore}
use Rattle.sg_catalog.specs.Catalog.{Catalog, IsRaw, IsPage, SaysPeak, Owns, row_at, filled, rows}
use Rattle.sg_catalog.specs.Row.{row_cell, IsFormed}
use Rattle.sg_catalog.specs.Steps.{RawTurns, with_page}
use Rattle.sg_catalog.specs.declared.row.Row.{Row}
use Rattle.sg_catalog.proofs.Turned.{owned_some}

pushed : (ps : List ℕ) (q i p : ℕ) → slice_get (ps ++ (q ∷ [])) i ≡ Some p → (slice_get ps i ≡ Some p) ⊎ ((i ≡ length ps) × (p ≡ q))
pushed ps q i p e = elim (cases_eq i (length ps)) [
  | inl is ↦ inr (is, same_some p q (sym e ∙ slice_get-push_same ps i q is))
  | inr ne ↦ inl (sym (slice_get-push_other ps i q ne) ∙ e)
]

in_front : (ps : List ℕ) (q i p : ℕ) → slice_get ps i ≡ Some p → slice_get (ps ++ (q ∷ [])) i ≡ Some p
in_front ps q i p e =
    let below : i < length ps = slice_get_within ps i p e in
    slice_get-push_other ps i q (λ is. omega arith) ∙ e

-- the places of a new page: a row in the first, and none in the others
all_none : (n k : ℕ) → get_or {A = Option Row} (replicate n None) k None ≡ None
all_none zero k = refl
all_none (suc n) zero = refl
all_none (suc n) (suc k) = all_none n k

only_first : (row : Row) (k : ℕ) → cell_in (one_cell 1 (row_cell row)).slots k ≡ option_map row_cell (get_or (Some row ∷ replicate 78 None) k None)
only_first row zero = refl
only_first row (suc k) = ap (λ (o : Option Row). option_map row_cell o) (sym (all_none 78 k))

first_only : (row other : Row) (k : ℕ) → get_or (Some row ∷ replicate 78 None) k None ≡ Some other → row ≡ other
first_only row other zero e = same_some _ _ e
first_only row other (suc k) e = absurd (let none = all_none 78 k in (cc))

behind_front : (places : List (Option Row)) (row : Row) (i : ℕ) → length places ≤ i → row_at (places ++ (Some row ∷ replicate 78 None)) i ≡ get_or (Some row ∷ replicate 78 None) (i - length places) None
behind_front places row i past =
    let e : i ≡ length places + (i - length places) = omega arith in
    ap (row_at (places ++ (Some row ∷ replicate 78 None))) e ∙ get_or-append-add places (Some row ∷ replicate 78 None) (i - length places) None

-- the last page of a catalogue was linked to a page that was taken with a row
pub record Links (old : Space) (mid : Units Sheet) (new : Space) (c : Catalog) (q last : ℕ) (row : Row) : Type 0 where
  pub at_last : slice_get c.pages (length c.pages - 1) ≡ Some last
  pub took : IsTaken old.pages mid q (λ sheet. sheet ≡ one_cell 1 (row_cell row))
  pub linked : IsChanged mid new.pages last (λ sheet. Some (record sheet { links = (q, sheet.links.1) }))
  pub bands : new.bands ≡ old.bands
  pub small : q < 2 ^ 32
  pub formed : IsFormed row

module _ {old : Space} {mid : Units Sheet} {new : Space} {c : Catalog} {q last : ℕ} {row : Row} (h : IsRaw old.pages.at c) (l : Links old mid new c q last row) where
  some_page : 1 ≤ length c.pages
  some_page = let below = slice_get_within c.pages 0 0 h.first in omega arith

  mine : (p : ℕ) → Owns c p → p ≢ q
  mine p o same = owned_some h p o (ap old.pages.at same ∙ l.took.was_free)

  not_last : q ≢ last
  not_last e = mine last (length c.pages - 1, l.at_last) (sym e)

  stays : (p : ℕ) → p ≢ q → p ≢ last → new.pages.at p ≡ old.pages.at p
  stays p nq nl = l.linked.others p nl ∙ l.took.others p nq

  at_end : new.pages.at q ≡ Some (one_cell 1 (row_cell row))
  at_end = l.linked.others q not_last ∙ (l.took.fresh.is ∙ ap Some l.took.fresh.has)

  relinked : (sheet : Sheet) → old.pages.at last ≡ Some sheet → new.pages.at last ≡ Some (record sheet { links = (q, sheet.links.1) })
  relinked sheet is = l.linked.here sheet (l.took.others last (λ e. not_last (sym e)) ∙ is)

  cells_front : (j k : ℕ) → j < length c.pages → k < 79 → row_at (c.places ++ (Some row ∷ replicate 78 None)) (79 * j + k) ≡ row_at c.places (79 * j + k)
  cells_front j k below less = let long = h.long in get_or-append c.places (Some row ∷ replicate 78 None) None (79 * j + k) (omega arith)

  next_inner : (j : ℕ) → j + 1 < length c.pages → get_or (c.pages ++ (q ∷ [])) (j + 1) 0 ≡ get_or c.pages (j + 1) 0
  next_inner j below = get_or-append c.pages (q ∷ []) 0 (j + 1) below

  next_last : get_or (c.pages ++ (q ∷ [])) (length c.pages - 1 + 1) 0 ≡ q
  next_last =
      let e : length c.pages - 1 + 1 ≡ length c.pages + 0 = let some = some_page in omega arith in
      ap (λ (n : ℕ). get_or (c.pages ++ (q ∷ [])) n 0) e ∙ get_or-append-add c.pages (q ∷ []) 0 0

  page_kept : (j p : ℕ) → slice_get c.pages j ≡ Some p → HasAt new.pages.at p (IsPage (get_or (c.pages ++ (q ∷ [])) (j + 1) 0) (c.places ++ (Some row ∷ replicate 78 None)) j)
  page_kept j p at = elim (cases_eq p last) [
    | inl e ↦
        let one = h.page j p at in
        let index : j ≡ length c.pages - 1 = h.apart j (length c.pages - 1) p at (l.at_last ∙ ap Some (sym e)) in
        record {
          what = record (one.what) { links = (q, one.what.links.1) };
          is = ap new.pages.at e ∙ relinked one.what (ap old.pages.at (sym e) ∙ one.is);
          has = record {
            kind = one.has.kind;
            link = sym (ap (λ (n : ℕ). get_or (c.pages ++ (q ∷ [])) (n + 1) 0) index ∙ next_last);
            few = one.has.few;
            cells = λ k less. one.has.cells k less ∙ ap (λ (o : Option Row). option_map row_cell o) (sym (cells_front j k (slice_get_within c.pages j p at) less));
          };
        }
    | inr ne ↦
        let one = h.page j p at in
        let below = slice_get_within c.pages j p at in
        let off : j ≢ length c.pages - 1 = λ e. ne (same_some _ _ (sym at ∙ (ap (slice_get c.pages) e ∙ l.at_last))) in
        record {
          what = one.what;
          is = stays p (mine p (j, at)) ne ∙ one.is;
          has = record {
            kind = one.has.kind;
            link = one.has.link ∙ sym (next_inner j (let some = some_page in omega arith));
            few = one.has.few;
            cells = λ k less. one.has.cells k less ∙ ap (λ (o : Option Row). option_map row_cell o) (sym (cells_front j k below less));
          };
        }
  ]

  page_new : HasAt new.pages.at q (IsPage (get_or (c.pages ++ (q ∷ [])) (length c.pages + 1) 0) (c.places ++ (Some row ∷ replicate 78 None)) (length c.pages))
  page_new = let long = h.long in record {
    what = one_cell 1 (row_cell row);
    is = at_end;
    has = record {
      kind = refl;
      link = sym (get_or_past (c.pages ++ (q ∷ [])) (length c.pages + 1) 0 (let more : length (c.pages ++ (q ∷ [])) ≡ length c.pages + 1 = length_push c.pages q in omega arith));
      few = omega arith;
      cells = λ k less.
          let e : 79 * length c.pages + k ≡ length c.places + k = omega arith in
          only_first row k ∙ ap (λ (o : Option Row). option_map row_cell o) (sym (ap (row_at (c.places ++ (Some row ∷ replicate 78 None))) e ∙ get_or-append-add c.places (Some row ∷ replicate 78 None) k None));
    };
  }

  peak_kept : HasAt new.pages.at 0 (SaysPeak c.peak)
  peak_kept = let says = h.says_peak in elim (cases_eq 0 last) [
    | inl e ↦ record { what = record (says.what) { links = (q, says.what.links.1) }; is = ap new.pages.at e ∙ relinked says.what (ap old.pages.at (sym e) ∙ says.is); has = record { says = says.has.says } }
    | inr ne ↦ record { what = says.what; is = stays 0 (mine 0 (0, h.first)) ne ∙ says.is; has = says.has }
  ]

  formed_all : (i : ℕ) (other : Row) → row_at (c.places ++ (Some row ∷ replicate 78 None)) i ≡ Some other → IsFormed other
  formed_all i other e = elim (cases_lt i (length c.places)) [
    | inl below ↦ h.formed i other (sym (get_or-append c.places (Some row ∷ replicate 78 None) None i below) ∙ e)
    | inr past ↦ subst IsFormed (first_only row other (i - length c.places) (sym (behind_front c.places row i past) ∙ e)) l.formed
  ]

  page_raw : IsRaw new.pages.at (with_page q row c)
  page_raw = record {
    first = in_front c.pages q 0 0 h.first;
    page = λ j p at. elim (pushed c.pages q j p at) [
      | inl y ↦ page_kept j p y
      | inr y ↦ subst (λ (n : ℕ). HasAt new.pages.at p (IsPage (get_or (c.pages ++ (q ∷ [])) (n + 1) 0) (c.places ++ (Some row ∷ replicate 78 None)) n)) (sym y.0)
          (subst (λ (n : ℕ). HasAt new.pages.at n (IsPage (get_or (c.pages ++ (q ∷ [])) (length c.pages + 1) 0) (c.places ++ (Some row ∷ replicate 78 None)) (length c.pages))) (sym y.1) page_new)
    ];
    says_peak = peak_kept;
    fit = λ j p at. elim (pushed c.pages q j p at) [ inl y ↦ h.fit j p y | inr y ↦ (let same = y.1 in let small = l.small in omega arith) ];
    apart = λ i j p a b. elim (pushed c.pages q i p a) [
      | inl y ↦ elim (pushed c.pages q j p b) [ inl w ↦ h.apart i j p y w | inr w ↦ absurd (mine p (i, y) w.1) ]
      | inr y ↦ elim (pushed c.pages q j p b) [ inl w ↦ absurd (mine p (j, w) y.1) | inr w ↦ y.0 ∙ sym w.0 ]
    ];
    long =
        let long = h.long in
        let pages : length (c.pages ++ (q ∷ [])) ≡ length c.pages + 1 = length_push c.pages q in
        let places : length (c.places ++ (Some row ∷ replicate 78 None)) ≡ length c.places + 79 = length-append c.places (Some row ∷ replicate 78 None) in
        omega arith;
    formed = formed_all;
  }

  pub page_turns : RawTurns old new c (with_page q row c)
  page_turns = record {
    raw = page_raw;
    pages = record {
      others = λ p no_owner. stays p (λ e. no_owner (length c.pages, slice_get-push_same c.pages (length c.pages) q refl ∙ ap Some (sym e))) (λ e. no_owner (length c.pages - 1, in_front c.pages q (length c.pages - 1) p (l.at_last ∙ ap Some (sym e))));
      more = λ p o. (o.0, in_front c.pages q o.0 p o.1);
      taken = λ p o. elim (pushed c.pages q o.0 p o.1) [ inl y ↦ inl (o.0, y) | inr y ↦ inr (ap old.pages.at y.1 ∙ l.took.was_free) ];
      exactly =
          let free = l.took.free in
          let same = l.linked.free in
          let more : length (c.pages ++ (q ∷ [])) ≡ length c.pages + 1 = length_push c.pages q in
          omega arith;
      all = l.linked.count ∙ l.took.count;
    };
    bands = l.bands;
  }

-- its row is behind the others
pub page_rows : (c : Catalog) (q : ℕ) (row : Row) → IsOneMore row (rows c) (rows (with_page q row c))
page_rows c q row = record {
  front = rows c;
  back = [];
  less_is = sym (append_nil (rows c));
  more_is = filter_map-append (λ (x : Option Row). x) c.places (Some row ∷ replicate 78 None);
}
  where
    append_nil : (xs : List Row) → xs ++ [] ≡ xs
    append_nil [] = refl
    append_nil (x ∷ xs) = ap (λ (ys : List Row). x ∷ ys) (append_nil xs)

-- ANOTHER PEAK
pub peak_turns : {old new : Space} {c : Catalog} (peak : ℕ) → IsRaw old.pages.at c → IsChanged old.pages new.pages 0 (λ sheet. Some (record sheet { links = (sheet.links.0, peak) })) → new.bands ≡ old.bands → RawTurns old new c (record c { peak = peak })
peak_turns {old} {new} {c} peak h changed bands = record {
  raw = record {
    first = h.first;
    page = page_kept;
    says_peak = record { what = record (h.says_peak.what) { links = (h.says_peak.what.links.0, peak) }; is = changed.here h.says_peak.what h.says_peak.is; has = record { says = refl } };
    fit = h.fit;
    apart = h.apart;
    long = h.long;
    formed = h.formed;
  };
  pages = record {
    others = λ p not_mine. changed.others p (λ e. not_mine (subst (λ (n : ℕ). Owns c n) (sym e) (0, h.first)));
    more = λ p o. o;
    taken = λ p o. inl o;
    exactly = ap (λ (n : ℕ). n + length c.pages) changed.free;
    all = changed.count;
  };
  bands = bands;
}
  where
    page_kept : (j p : ℕ) → slice_get c.pages j ≡ Some p → HasAt new.pages.at p (IsPage (get_or c.pages (j + 1) 0) c.places j)
    page_kept j p at = let one = h.page j p at in elim (cases_eq p 0) [
      | inl e ↦ record {
        what = record (one.what) { links = (one.what.links.0, peak) };
        is = ap new.pages.at e ∙ changed.here one.what (ap old.pages.at (sym e) ∙ one.is);
        has = record { kind = one.has.kind; link = one.has.link; few = one.has.few; cells = one.has.cells };
      }
      | inr ne ↦ record { what = one.what; is = changed.others p ne ∙ one.is; has = one.has }
    ]

-- no more rows than places
pub filled_most : (places : List (Option Row)) → length (filled places) ≤ length places
filled_most [] = omega arith
filled_most (None ∷ xs) = let rest = filled_most xs in omega arith
filled_most (Some row ∷ xs) = let rest = filled_most xs in omega arith

-- the last page is there when another one was taken
pub last_there : {old mid : Units Sheet} {c : Catalog} {last q : ℕ} {P : Sheet → Type 0} → IsRaw old.at c → slice_get c.pages (length c.pages - 1) ≡ Some last → IsTaken old mid q P → IsSome (mid.at last)
last_there {old} {mid} {c} {last} {q} h at took =
    let mine : Owns c last = (length c.pages - 1, at) in
    let ne : last ≢ q = λ e. owned_some h last mine (ap old.at e ∙ took.was_free) in
    subst IsSome (sym (took.others last ne ∙ (h.page (length c.pages - 1) last at).is)) refl
