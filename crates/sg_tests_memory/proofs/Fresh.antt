-- A new space has a catalogue without rows.
use Rattle.std.proofs.Common.{◌≡◌, ℕ, zero, suc, ◌+◌, ◌*◌, ◌<◌, ◌≤◌, ◌^◌, List, [], ◌∷◌, replicate, length, get_or, slice_get, Option, Some, None, option_map, refl, sym, ap, ◌∙◌, arith, inl, inr}
use Rattle.std.proofs.lemmas.Bool.{cases_lt}
use Rattle.std.proofs.lemmas.List.{get_or-replicate, get_or_past, length-replicate}
use Rattle.sg_base.specs.Sheet.{Sheet}
use Rattle.sg_space.specs.Memory.{IsNew}
use Rattle.sg_space.specs.Pages.{empty_sheet}
use Rattle.sg_space.specs.Units.{HasAt}
use Rattle.sg_space.specs.View.{Space}
use Rattle.sg_catalog.specs.Catalog.{Catalog, IsCatalog, IsRaw, IsPage, SaysPeak, row_at}
use Rattle.sg_catalog.specs.Row.{row_cell, IsFormed}
use Rattle.sg_catalog.specs.declared.row.Row.{Row}

-- a catalogue of one page, without rows
abbrev pub empty_catalog : Catalog
empty_catalog = record { places = replicate 79 None; peak = 0; pages = 0 ∷ [] }

none_at : (i : ℕ) → row_at (replicate 79 None) i ≡ None
none_at i = elim (cases_lt i 79) as (λ _. row_at (replicate 79 None) i ≡ None) [
  | inl below ↦ get_or-replicate 79 i None None below
  | inr past ↦ get_or_past (replicate 79 None) i None past
]

-- its one page
at_zero : (j p : ℕ) → slice_get (0 ∷ []) j ≡ Some p → (j ≡ 0) × (p ≡ 0)
at_zero zero p e = (refl, cc)
at_zero (suc j) p e = absurd (cc)

page_at : {space : Space} {pages bands : ℕ} → IsNew space pages bands → (j p : ℕ) → slice_get (0 ∷ []) j ≡ Some p → HasAt space.pages.at p (IsPage (get_or (0 ∷ []) (j + 1) 0) (replicate 79 None) j)
page_at new zero p e =
    let zero_is : p ≡ 0 = cc in
    rw zero_is record {
      what = empty_sheet 1;
      is = new.catalogue;
      has = record { kind = refl; link = refl; few = omega arith; cells = λ k below. ap (option_map row_cell) (sym (none_at (79 * 0 + k))) };
    }
page_at new (suc j) p e = absurd (cc)

raw : {space : Space} {pages bands : ℕ} → IsNew space pages bands → IsRaw space.pages.at empty_catalog
raw new = record {
  first = refl;
  page = page_at new;
  says_peak = record { what = empty_sheet 1; is = new.catalogue; has = record { says = refl } };
  fit = λ j p e. let q = (at_zero j p e).1 in omega arith;
  apart = λ i j p e f. (at_zero i p e).0 ∙ sym (at_zero j p f).0;
  long = refl;
  formed = λ i row e. absurd (let n = none_at i in cc);
}

pub new_catalog : {space : Space} {pages bands : ℕ} → IsNew space pages bands → IsCatalog space.pages.at empty_catalog
new_catalog new = record { raw = raw new; once = λ name. omega arith; below_peak = omega arith; exactly = refl }
