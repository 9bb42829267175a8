-- WHAT A WALK HAS SET, as what a space over an engine keeps.
use Rattle.std.proofs.Common.{◌≡◌, ℕ, zero, suc, ◌+◌, ◌*◌, ◌<◌, ◌≤◌, Bool, true, false, not, List, [], ◌∷◌, length, slice_get, Option, Some, None, sym, ap, subst, ◌∙◌, refl, arith}
use Rattle.std.specs.Prelude.{◌&&◌}
use Rattle.std.proofs.lemmas.Option.{slice_get_within, get_or_from_slice_get}
use Rattle.sg_alloc.specs.Flags.{free_of, map_bands_of}
use Rattle.sg_alloc.specs.declared.maps.Maps.{Maps}
use Rattle.sg_base.specs.Sheet.{Sheet}
use Rattle.sg_base.specs.Page.{stored}
use Rattle.sg_ops.specs.Table.{Table}
use Rattle.sg_action.specs.States.{State, leaf_count, leaf_stored}
use Rattle.sg_actions.specs.Acting.{IsWell}
use Rattle.sg_actions.specs.Engine.{ArePagesFit}
use Rattle.sg_actions.specs.Taken.{AreFlags, AreSaid, is_set, is_there}
use Rattle.sg_actions.specs.View.{HasFreedNone}
use Rattle.sg_actions.proofs.Flags.{and_left}
use Rattle.sg_actions.proofs.Taking.{none_freed}
use Rattle.sg_found.specs.Looks.{AreBytes}
use Rattle.sg_reader.specs.Alike.{space_of}
use Rattle.sg_store.specs.Engine.{Sizes}
use Rattle.sg_shown.specs.Taken.{AreTaken, AreCounted, with_bytes}
use Rattle.sg_shown.proofs.Places.{reached_page_too, reached_band_too, page_totals, band_totals}
use Rattle.sg_walked.specs.Walked.{IsWalked}

set_of : (flags : List Bool) (n : ℕ) → slice_get flags n ≡ Some true → is_set flags n ≡ true
set_of flags n e = get_or_from_slice_get flags n true false e

both_set : (a b : Bool) → a ≡ true → b ≡ true → (a && b) ≡ true
both_set true true e f = refl
both_set true false e f = f
both_set false b e f = e

-- one that is set, where nothing is freed, is there
pub there_of : (taken unfreed : List Bool) (n : ℕ) → AreFlags taken unfreed → free_of unfreed ≡ 0 → slice_get taken n ≡ Some true → is_there taken unfreed n ≡ true
there_of taken unfreed n flags none e =
    let within : n < length taken = slice_get_within taken n true e in
    let long = flags.long in
    both_set (is_set taken n) (is_set unfreed n) (set_of taken n e) (none_freed unfreed n none (omega (arith, within, long)))

-- flags beside others of which none is freed
pub flags_of : (taken taken' unfreed : List Bool) → AreFlags taken unfreed → free_of unfreed ≡ 0 → length taken' ≡ length taken → AreFlags taken' unfreed
flags_of taken taken' unfreed h none same = record {
  long = h.long ∙ sym same;
  inside = λ n less clear. absurd (let long = h.long in let set : is_set unfreed n ≡ true = none_freed unfreed n none (omega (arith, less, long, same)) in let no : true ≡ false = sym set ∙ clear in cc);
  few = let f = h.few in omega (arith, f, same);
}

-- WHERE NO ACTION IS OPEN the next one begins well, with cells that are bytes
set_short : (flags : List Bool) (n : ℕ) → is_set flags n ≡ true → n < length flags
set_short [] n e = absurd cc
set_short (f ∷ flags) zero e = omega arith
set_short (f ∷ flags) (suc n) e = let h = set_short flags n e in omega (arith, h)

fit_one : (leaf : Option Sheet) → ((p : Sheet) → leaf ≡ Some p → 4 * length p.slots + stored p.slots ≤ 4072) → 4 * leaf_count leaf + leaf_stored leaf ≤ 4072
fit_one None h = omega arith
fit_one (Some p) h = h p refl

pub well_now : (t : Table) (limits : State → ℕ → ℕ) (x : State) (pages bands : List Bool) → AreBytes pages (length pages) x → ArePagesFit x → IsWell t limits x [] pages bands
well_now t limits x pages bands bytes fit = record {
  begun = λ n k. let set : is_set pages n ≡ true = and_left (is_set pages n) true k in let b = bytes n (set_short pages n set) set in (b.sheet, b.says, b.bytes);
  fit = λ n k. fit_one (x.pages n) (λ p is. fit n p is);
  opens = tt;
  well = tt;
  used = λ n k. absurd (let z : false ≡ true = k in cc);
}

-- each page that is set says something
pub said_of : (pages : List Bool) (x : State) → AreBytes pages (length pages) x → AreSaid pages x.pages
said_of pages x bytes n set = let b = bytes n (set_short pages n set) set in subst (λ (o : Option Sheet). Rattle.std.proofs.Common.IsSome o) (sym b.says) refl

-- WHAT THE PAGES REACH IS TAKEN, and nothing else
module _ (z : Sizes) (x : State) (maps unfreed : Maps) (w : IsWalked z.pages z.bands x maps) (freed : HasFreedNone unfreed)
    (pages : AreFlags maps.pages unfreed.pages) (bands : AreFlags maps.bands unfreed.bands) where
  pub walked_taken : AreTaken z (is_there maps.pages unfreed.pages) (is_there maps.bands unfreed.bands) x.pages
  walked_taken = record {
    pages = λ size bytes s r p o. there_of maps.pages unfreed.pages p pages freed.pages (w.page w.contents w.reads p
        (reached_page_too (space_of z.pages z.bands x) (space_of z.pages z.bands (with_bytes size x.pages bytes)) w.contents s w.reads.contents r.contents refl p o));
    bands = λ size bytes s r b o. there_of maps.bands unfreed.bands b bands freed.bands (w.band w.contents w.reads b
        (reached_band_too (space_of z.pages z.bands x) (space_of z.pages z.bands (with_bytes size x.pages bytes)) w.contents s w.reads.contents r.contents refl b o));
  }

  pub walked_counted : AreCounted z (free_of maps.pages + free_of unfreed.pages) (free_of maps.bands + free_of unfreed.bands) x.pages
  walked_counted = record {
    pages = λ size bytes s r.
        let total = page_totals (space_of z.pages z.bands x) (space_of z.pages z.bands (with_bytes size x.pages bytes)) w.contents s w.reads.contents r.contents refl in
        let f = w.free in let none = freed.pages in omega (arith, total, f, none);
    bands = λ size bytes s r.
        let total = band_totals (space_of z.pages z.bands x) (space_of z.pages z.bands (with_bytes size x.pages bytes)) w.contents s w.reads.contents r.contents refl in
        let f = w.free_bands in let none = freed.bands in omega (arith, total, f, none);
  }

  pub walked_map : (b : ℕ) → b < map_bands_of z.pages z.bands → is_there maps.bands unfreed.bands b ≡ true
  walked_map b less = there_of maps.bands unfreed.bands b bands freed.bands (w.map b less)
