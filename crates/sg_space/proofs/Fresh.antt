-- What a new space in memory shows.
use Rattle.std.proofs.Common.{◌≡◌, ℕ, ◌+◌, ◌<◌, ◌≤◌, List, Bool, true, false, Some, None, length, set, slice_get, replicate, All, sym, ap, ◌∙◌, arith}
use Rattle.std.proofs.lemmas.List.{length-set}
use Rattle.sg_alloc.specs.Flags.{free_of}
use Rattle.sg_alloc.proofs.Counted.{one_less}
use Rattle.sg_base.specs.Sheet.{Sheet}
use Rattle.sg_space.specs.Bands.{IsEmptyBand}
use Rattle.sg_space.specs.Flagged.{units_of}
use Rattle.sg_space.specs.Memory.{sheet_in, bytes_in}
use Rattle.sg_space.specs.Pages.{empty_sheet, IsEmptyPage}
use Rattle.sg_space.specs.Units.{Units, HasAt}
use Rattle.sg_space.specs.declared.stock.MemBand.{MemBand}
use Rattle.sg_space.specs.declared.stock.MemPage.{MemPage}
use Rattle.sg_space.proofs.Firsts.{AreTaken, free_at, not_taken_at, all_free, length-free, none_shown, at_one, one_there}
use Rattle.sg_space.proofs.InMemory.{slice_get-set_same, slice_get-set_other, shown_at}

pub record AreNewPages (units : Units Sheet) (count : ℕ) : Type 0 where
  pub catalogue : units.at 0 ≡ Some (empty_sheet 1)
  pub others : (p : ℕ) → 0 < p → units.at p ≡ None
  pub free : units.free + 1 ≡ count
  pub all : units.count ≡ count

pub new_pages_are : (flags : List Bool) (pages : List MemPage) (count : ℕ) → 0 < count → flags ≡ set (replicate count false) 0 true → length pages ≡ count → All (λ (p : MemPage). IsEmptyPage 1 p.bytes.items) pages → AreNewPages (units_of sheet_in flags pages) count
unfolding IsEmptyPage
new_pages_are flags pages count some e long empty =
    let all : length (replicate count false) ≡ count = length-free count in
    let first : slice_get flags 0 ≡ Some true = ap (λ (xs : List Bool). slice_get xs 0) e ∙ slice_get-set_same (replicate count false) 0 true (omega arith) in
    let page = one_there pages 0 (omega arith) in
    record {
      catalogue = shown_at sheet_in flags pages 0 page.0 first page.1 ∙ ap (λ (s : Sheet). Some s) ((at_one (λ (p : MemPage). IsEmptyPage 1 p.bytes.items) pages 0 page.0 empty page.1));
      others = λ p more. none_shown sheet_in flags pages p (λ is. not_taken_at count p (later p more ∙ is));
      free = let one = one_less (replicate count false) 0 (free_at count 0 some) in let now : free_of flags ≡ free_of (set (replicate count false) 0 true) = ap free_of e in let sum = all_free count in omega arith;
      all = long;
    }
  where
    later : (p : ℕ) → 0 < p → slice_get (replicate count false) p ≡ slice_get flags p
    later p more = let same : slice_get (set (replicate count false) 0 true) p ≡ slice_get (replicate count false) p = slice_get-set_other (replicate count false) 0 p true (λ zero_p. absurd (omega arith)) in
        sym (ap (λ (xs : List Bool). slice_get xs p) e ∙ same)

pub record AreNewBands (units : Units (List ℕ)) (count map : ℕ) : Type 0 where
  pub first : (b : ℕ) → b < map → HasAt units.at b IsEmptyBand
  pub others : (b : ℕ) → map ≤ b → units.at b ≡ None
  pub free : units.free + map ≡ count
  pub all : units.count ≡ count

pub new_bands_are : (flags : List Bool) (bands : List MemBand) (count map : ℕ) → AreTaken (replicate count false) flags map → map < count → length bands ≡ count → All (λ (b : MemBand). IsEmptyBand (bytes_in b)) bands → AreNewBands (units_of bytes_in flags bands) count map
new_bands_are flags bands count map taken less long empty = record {
  first = λ b below.
      let band = one_there bands b (omega arith) in
      record { what = bytes_in band.0; is = shown_at bytes_in flags bands b band.0 (taken.taken b below) band.1; has = at_one (λ (x : MemBand). IsEmptyBand (bytes_in x)) bands b band.0 empty band.1 };
  others = λ b above. none_shown bytes_in flags bands b (λ is. not_taken_at count b (sym (taken.others b above) ∙ is));
  free = let sum = all_free count in let h = taken.free in omega arith;
  all = long;
}
