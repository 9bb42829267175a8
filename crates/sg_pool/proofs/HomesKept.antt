-- The home area is touched only where a unit goes home.
use Rattle.std.proofs.Common.{◌≡◌, ◌≢◌, ◌⊎◌, inl, inr, ⊎_elim, ◌<◌, ◌≤◌, ◌+◌, ℕ, Option, Some, None, List, [], length, get_or, set, refl, sym, ◌∙◌, ap, subst, arith}
use Rattle.std.proofs.lemmas.Bool.{cases_eq, cases_lt}
use Rattle.std.proofs.lemmas.List.{get_or_past}
use Rattle.sg_base.specs.declared.page.TheConstants.{BAND_SIZE}
use Rattle.sg_disk.specs.Disk.{Bytes, Part}
use Rattle.sg_frames.specs.Held.{Held}
use Rattle.sg_gate.specs.Layout.{PAGE, HEADER, home_at}
use Rattle.sg_pool.specs.declared.slot.Slot.{Slot}
use Rattle.sg_pool.specs.declared.windows.Windows.{Windows}
use Rattle.sg_pool.specs.Bands.{AreBandsHome, AreCleared}
use Rattle.sg_pool.specs.Frames.{units_of, IsShelf, IsWritten, IsAtHome}
use Rattle.sg_pool.specs.Going.{with_home}
use Rattle.sg_pool.specs.Held.{no_slot, frame_of, page_in, since_of}
use Rattle.sg_pool.specs.Units.{Geometry, Units, IsBacked, IsCleaned, page_at, band_byte}
use Rattle.sg_pool.specs.Untouched.{IsUntouched}
use Rattle.sg_pool.proofs.Banding.{dirty_is}
use Rattle.sg_pool.proofs.Clearing.{frames_same}
use Rattle.sg_pool.proofs.Homed.{homed_out, homed_other, homed_band}
use Rattle.sg_pool.proofs.Homes.{page_same}
use Rattle.sg_pool.proofs.Slots.{none_is_some, frame_is, frame_kept, set_here}

-- no byte of the home area has changed
pub untouched_same : (g : Geometry) (a b : Bytes) (m : Units) → b ≡ a → IsUntouched g a b m
untouched_same g a b m same = record {
  superblock = λ i low. ap (λ (f : Bytes). f i) same;
  pages = λ n o lt since. ap (λ (f : Bytes). page_at f (home_at n)) same;
  bytes = λ k o i lt small since. ap (λ (f : Bytes). f (band_byte g k i)) same;
}

-- units that are what they were have no change that they hadn't
kept_since : (was now : Option ℕ) (o : ℕ) → (now ≡ was) ⊎ (now ≡ None) → now ≡ Some o → was ≡ Some o
kept_since was now o either is = ⊎_elim (λ same. sym same ∙ is) (λ none. absurd (none_is_some o (sym none ∙ is))) either

pub none_still : (was now : Option ℕ) → (now ≡ was) ⊎ (now ≡ None) → was ≡ None → now ≡ None
none_still was now either is = ⊎_elim (λ same. same ∙ is) (λ none. none) either

-- units that are what they were, over the same bytes
pub untouched_then : (g : Geometry) (a b c : Bytes) (m m' : Units) → IsUntouched g a b m → c ≡ b → IsCleaned g m m' → IsUntouched g a c m'
untouched_then g a b c m m' first same cleaned = record {
  superblock = λ i low. ap (λ (f : Bytes). f i) same ∙ first.superblock i low;
  pages = λ n o lt since. ap (λ (f : Bytes). page_at f (home_at n)) same ∙ first.pages n o lt (kept_since (m.page_since n) (m'.page_since n) o (cleaned.page_since n lt) since);
  bytes = λ k o i lt small since. ap (λ (f : Bytes). f (band_byte g k i)) same ∙ first.bytes k o i lt small (kept_since (m.band_since k) (m'.band_since k) o (cleaned.band_since k) since);
}

-- and of a call behind another
pub untouched_twice : (g : Geometry) (a b c : Bytes) (m m' : Units) → IsUntouched g a b m → IsUntouched g b c m' → IsCleaned g m m' → IsUntouched g a c m'
untouched_twice g a b c m m' first second cleaned = record {
  superblock = λ i low. second.superblock i low ∙ first.superblock i low;
  pages = λ n o lt since. second.pages n o lt since ∙ first.pages n o lt (kept_since (m.page_since n) (m'.page_since n) o (cleaned.page_since n lt) since);
  bytes = λ k o i lt small since. second.bytes k o i lt small since ∙ first.bytes k o i lt small (kept_since (m.band_since k) (m'.band_since k) o (cleaned.band_since k) since);
}

-- the home of a unit that had no change is as it was
module _ (g : Geometry) (p q : Part) (m m' : Units) (before : IsBacked g p m) (after : IsBacked g q m') (cleaned : IsCleaned g m m') where
  pub own_home : (n : ℕ) → n < g.pages → m.page_since n ≡ None → page_at q.seen (home_at n) ≡ page_at p.seen (home_at n)
  own_home n lt none = after.pages n lt (none_still (m.page_since n) (m'.page_since n) (cleaned.page_since n lt) none) ∙ (cleaned.page n lt ∙ sym (before.pages n lt none))

  pub own_bytes : (b : ℕ) → b < g.bands → m.band_since b ≡ None → (i : ℕ) → i < BAND_SIZE → q.seen (band_byte g b i) ≡ p.seen (band_byte g b i)
  own_bytes b lt none i small = after.bytes b i lt small (after.clean b i (none_still (m.band_since b) (m'.band_since b) (cleaned.band_since b) none))
      ∙ (cleaned.byte b i lt small ∙ sym (before.bytes b i lt small (before.clean b i none)))

-- a unit gets a change whose home is as it was
pub page_untouched : (g : Geometry) (a b : Bytes) (m m' : Units) (p : ℕ) → IsUntouched g a b m → page_at b (home_at p) ≡ page_at a (home_at p) → ((n : ℕ) → n ≢ p → m'.page_since n ≡ m.page_since n) → ((k : ℕ) → m'.band_since k ≡ m.band_since k) → IsUntouched g a b m'
page_untouched g a b m m' p first own others bands = record {
  superblock = first.superblock;
  pages = λ n o lt since. ⊎_elim
      (λ same. subst (λ (j : ℕ). page_at b (home_at j) ≡ page_at a (home_at j)) (sym same) own)
      (λ differ. first.pages n o lt (sym (others n differ) ∙ since))
      (cases_eq n p);
  bytes = λ k o i lt small since. first.bytes k o i lt small (sym (bands k) ∙ since);
}

pub band_untouched : (g : Geometry) (x y : Bytes) (m m' : Units) (b : ℕ) → IsUntouched g x y m → ((i : ℕ) → i < BAND_SIZE → y (band_byte g b i) ≡ x (band_byte g b i)) → ((n : ℕ) → m'.page_since n ≡ m.page_since n) → ((k o : ℕ) → k ≢ b → m'.band_since k ≡ Some o → m.band_since k ≡ Some o)
    → IsUntouched g x y m'
band_untouched g x y m m' b first own pages others = record {
  superblock = first.superblock;
  pages = λ n o lt since. first.pages n o lt (sym (pages n) ∙ since);
  bytes = λ k o i lt small since. ⊎_elim
      (λ same. subst (λ (j : ℕ). y (band_byte g j i) ≡ x (band_byte g j i)) (sym same) (own i small))
      (λ differ. first.bytes k o i lt small (others k o differ since))
      (cases_eq k b);
}

-- A FRAME'S PAGE GOES HOME
module _ (g : Geometry) (slots : List Slot) {index : List (Option ℕ)} (wins : Windows) (frames : Held) (shelf : IsShelf g.pages g.bands slots index wins frames) (f : ℕ) (lt : f < length slots) (p q : Part) where
  abbrev clean : List Slot
  clean = set slots f (record { number = page_in slots f; since = None })

  long : length (get_or frames.pages f []) ≡ PAGE
  long = let many = shelf.many in shelf.here.pages f (omega (arith, many))

  its_since : (n : ℕ) → page_in slots f ≡ Some n → since_of clean (frame_of clean n) ≡ None
  its_since n is =
      let held : frame_of clean n ≡ Some f = frame_kept slots f (record { number = page_in slots f; since = None }) lt refl n shelf.apart ∙ frame_is slots f n shelf.apart lt is in
      ap (since_of clean) held ∙ ap (λ (x : Slot). x.since) (set_here slots f (record { number = page_in slots f; since = None }) lt)

  written_untouched : IsWritten slots frames f p q → IsUntouched g p.seen q.seen (units_of g q.seen clean wins frames)
  written_untouched is =
      let n = is.number in
      let page = get_or frames.pages f [] in
      let small : is.number < g.pages = shelf.within f n lt is.holds in
      record {
        superblock = λ i low. is.done.bytes i (inl low) ∙ homed_out n page long p.seen i (inl (omega (arith, low)));
        pages = λ k o less since. ⊎_elim
            (λ same. absurd (none_is_some o (sym (its_since n is.holds) ∙ subst (λ (j : ℕ). since_of clean (frame_of clean j) ≡ Some o) same since)))
            (λ differ. page_same q.seen (with_home n page p.seen) (home_at k) (home_at k) (λ j inside. is.done.bytes (home_at k + j) (inr (omega arith))) ∙ homed_other n page long p.seen k differ)
            (cases_eq k n);
        bytes = λ b o i less inside since. is.done.bytes (band_byte g b i) (inr (omega arith)) ∙ homed_band n page long p.seen g small b i;
      }

  pub home_untouched : IsAtHome slots frames f p q → IsUntouched g p.seen q.seen (units_of g q.seen clean wins frames)
  home_untouched home = ⊎_elim (λ is. written_untouched is) (λ not. untouched_same g p.seen q.seen _ (ap (λ (x : Part). x.seen) not.0)) home

-- BANDS OF WINDOWS GO HOME
module _ (g : Geometry) (wins : Windows) (from to : ℕ) (slots : List Slot) (frames : Held) (wins' : Windows) (clear : AreCleared wins wins' from to) (p q : Part) (home : AreBandsHome g wins frames.windows from to p q) where
  pub bands_superblock : (i : ℕ) → i < HEADER → q.seen i ≡ p.seen i
  bands_superblock i low = home.rest i (λ d. let e = d.is in absurd (omega (arith, e, low)))

  its_change : (b o w : ℕ) → from ≤ w → w < to → frame_of wins.slots.items b ≡ Some w → since_of wins'.slots.items (frame_of wins'.slots.items b) ≡ Some o → ⊥
  its_change b o w low high is since =
      let held : frame_of wins'.slots.items b ≡ Some w = frames_same wins.slots.items wins'.slots.items clear.count clear.numbers wins.windows.apart b ∙ is in
      none_is_some o (sym (clear.cleared w low high) ∙ (sym (ap (since_of wins'.slots.items) held) ∙ since))

  pub bands_untouched : IsUntouched g p.seen q.seen (units_of g q.seen slots wins' frames)
  bands_untouched = record {
    superblock = bands_superblock;
    pages = λ n o lt since. page_same q.seen p.seen (home_at n) (home_at n) (λ j small. home.rest (home_at n + j) (λ d. let e = d.is in absurd (omega (arith, e, lt, small))));
    bytes = λ b o i lt small since. home.rest (band_byte g b i) (λ d. let is = dirty_is g wins from to b i small d in its_change b o d.window d.low d.high is.0 since);
  }

-- NO CHANGE IS LEFT that isn't on the disk
pub all_untouched : (g g' : Geometry) (a b : Bytes) (slots : List Slot) (wins : Windows) (frames : Held) → ((i : ℕ) → i < HEADER → b i ≡ a i) → ((h : ℕ) → since_of slots (Some h) ≡ None) → ((w : ℕ) → since_of wins.slots.items (Some w) ≡ None) → IsUntouched g a b (units_of g' b slots wins frames)
all_untouched g g' a b slots wins frames superblock clean clear = record {
  superblock = superblock;
  pages = λ n o lt since. absurd (no_change slots clean (frame_of slots n) o since);
  bytes = λ k o i lt small since. absurd (no_change wins.slots.items clear (frame_of wins.slots.items k) o since);
}
  where
    no_change : (ss : List Slot) → ((h : ℕ) → since_of ss (Some h) ≡ None) → (at : Option ℕ) (o : ℕ) → since_of ss at ≡ Some o → ⊥
    no_change ss none None o since = none_is_some o since
    no_change ss none (Some h) o since = none_is_some o (sym (none h) ∙ since)

-- nor in a window, once all are cleared
pub all_cleared : (wins wins' : Windows) → AreCleared wins wins' 0 (length wins.slots.items) → (w : ℕ) → since_of wins'.slots.items (Some w) ≡ None
all_cleared wins wins' clear w = ⊎_elim
    (λ low. clear.cleared w (omega arith) low)
    (λ high. let count = clear.count in ap (λ (x : Slot). x.since) (get_or_past wins'.slots.items w no_slot (omega (arith, high, count))))
    (cases_lt w (length wins.slots.items))
