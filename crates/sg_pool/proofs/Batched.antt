-- A batch of pages from frames goes home.
use Rattle.std.proofs.Common.{◌≡◌, ◌⊎◌, inl, inr, ⊎_elim, ◌<◌, ◌≤◌, ◌+◌, ℕ, Bool, IsTrue, Some, None, List, [], take, length, get_or, refl, sym, ◌∙◌, ap, subst, arith}
use Rattle.sg_base.specs.declared.area.Area.TheVariants.{Home}
use Rattle.sg_disk.specs.Disk.{Bytes, Image, Part, State, LeavesOnly, View}
use Rattle.sg_disk.proofs.Moments.{weaker, joined}
use Rattle.sg_gate.specs.Layout.{home_at, IsStore}
use Rattle.sg_gate.specs.Batch.{homed, IsReady, IsWhole, IsEither, IsBatch, SameLogs}
use Rattle.sg_pool.specs.Going.{IsStored}
use Rattle.sg_pool.specs.Units.{Geometry, page_at, band_byte}
use Rattle.sg_pool.proofs.Homes.{page_same, batch_page, other_page, page_in_batch, homes_below}
use Rattle.sg_gate.proofs.Over.{over_low, over_out}
use Rattle.sg_pool.specs.declared.slot.Slot.{Slot}
use Rattle.sg_pool.specs.Held.{page_in, since_of, page_of}
use Rattle.sg_pool.specs.Batches.{AreCollected, ArePlaced, IsHeld, IsPartly, IsBatchMoment, AreHome}
use Rattle.sg_pool.proofs.Writing.{whole_store, whole_state}
use Rattle.sg_pool.proofs.Changing.{done_ready}
use Rattle.sg_pool.proofs.Batching.{none_whole}
use Rattle.sg_pool.proofs.Slots.{some_same, none_is_some}

-- what the loop keeps
pub record IsPlacing (told : Bool) (pages : ℕ) (slots : List Slot) (frames : List (List ℕ)) (from : ℕ) (v w : View) (f count : ℕ) (numbers : List ℕ) : Type 0 where
  pub pace : from + count ≤ f
  pub high : f ≤ length slots
  pub few : count ≤ 32
  pub room : length numbers ≡ 32
  pub collected : AreCollected slots from f (take count numbers)
  pub later : v.faults ≤ w.faults
  pub quiet : w.faults ≡ v.faults
  pub kept : v.handed ≤ w.handed
  pub placed : IsTrue told → IsReady (v.now Home) → ArePlaced slots frames (take count numbers) (v.now Home) (w.now Home)
  pub logs : IsTrue told → IsReady (v.now Home) → SameLogs v.now w.now
  pub moments : IsTrue told → IsReady (v.now Home) → LeavesOnly v w (IsWhole v.now pages (v.now Home).seen)

pub placing_starts : (told : Bool) (pages : ℕ) (slots : List Slot) (frames : List (List ℕ)) (from : ℕ) (v : View) (numbers : List ℕ) → from ≤ length slots → length numbers ≡ 32 → IsPlacing told pages slots frames from v v from 0 numbers
placing_starts told pages slots frames from v numbers within long = record {
  pace = omega arith;
  high = within;
  few = omega arith;
  room = long;
  collected = record { few = omega arith; each = λ j lt. absurd (omega arith); different = λ j k a b. absurd (omega arith); all = λ h a b. absurd (omega arith) };
  later = omega arith;
  quiet = refl;
  kept = omega arith;
  placed = λ t ready. record { ready = ready; store = λ i s. refl; pages = λ j lt. absurd (omega arith) };
  logs = λ t ready b other. refl;
  moments = λ t ready. none_whole pages v ready;
}

-- a moment in the words of the first state
pub whole_before : (s t : State) (pages : ℕ) (c : Image) → SameLogs s t → ((i : ℕ) → IsStore i → (t Home).seen i ≡ (s Home).seen i) → IsWhole t pages (t Home).seen c → IsWhole s pages (s Home).seen c
whole_before s t pages c logs same whole = whole_state s t pages (s Home).seen c logs (whole_store t pages (t Home).seen (s Home).seen c same whole)

-- the numbers are a batch
pub is_batch : (pages : ℕ) (slots : List Slot) (from f : ℕ) (ns : List ℕ) → AreCollected slots from f ns → ((h n : ℕ) → h < length slots → page_in slots h ≡ Some n → n < pages) → 1 ≤ length ns → IsBatch pages ns
is_batch pages slots from f ns are within some = record {
  some = some;
  most = are.few;
  each = λ k lt. let it = are.each k lt in within it.0 (get_or ns k 0) it.2 it.3;
  different = are.different;
}

pub partly_same : (g : Geometry) (slots : List Slot) (frames : List (List ℕ)) (before f : Bytes) → ((i : ℕ) → IsStore i → f i ≡ before i) → IsPartly g slots frames before f
partly_same g slots frames before f same = record {
  page = λ n lt. inl (page_same f before (home_at n) (home_at n) (λ j small. same (home_at n + j) (inr (omega arith))));
  band = λ b i. same (band_byte g b i) (inr (omega arith));
  superblock = λ i low. same i (inl low);
}

module _ (g : Geometry) (slots : List Slot) (frames : List (List ℕ)) (from f : ℕ) (ns : List ℕ) (v w : View) (are : AreCollected slots from f ns) (placed : ArePlaced slots frames ns (v.now Home) (w.now Home)) (logs : SameLogs v.now w.now) where
  abbrev seen : Bytes
  seen = (w.now Home).seen

  abbrev later : Bytes
  later = homed ns (w.now Home).seen

  pub before_moment : (c : Image) → IsWhole v.now g.pages (v.now Home).seen c → IsBatchMoment g slots frames v.now c
  before_moment c whole = ((v.now Home).seen, partly_same g slots frames (v.now Home).seen (v.now Home).seen (λ i s. refl), whole)

  module _ (batch : IsBatch g.pages ns) where
    in_batch : (k : ℕ) → k < length ns → page_at later (home_at (get_or ns k 0)) ≡ page_of slots frames (get_or ns k 0) []
    in_batch k lt = batch_page ns seen batch.different k lt ∙ placed.pages k lt

    held : (n k : ℕ) → k < length ns → get_or ns k 0 ≡ n → IsHeld slots n
    held n k lt is = let it = are.each k lt in (it.0, it.2, it.3 ∙ ap Some is)

    partly_over : IsPartly g slots frames (v.now Home).seen later
    partly_over = record {
      page = λ n lt. ⊎_elim
          (λ there. inr (subst (λ (m : ℕ). page_at later (home_at m) ≡ page_of slots frames m []) there.2 (in_batch there.0 there.1), held n there.0 there.1 there.2))
          (λ nowhere. inl (other_page ns seen batch.different n nowhere ∙ page_same seen (v.now Home).seen (home_at n) (home_at n) (λ j small. placed.store (home_at n + j) (inr (omega arith)))))
          (page_in_batch ns n);
      band = λ b i. over_out ns 0 seen seen (band_byte g b i) (λ is. let low = homes_below ns g.pages (band_byte g b i) batch.each is in absurd (omega arith)) ∙ placed.store (band_byte g b i) (inr (omega arith));
      superblock = λ i low. over_low ns 0 seen seen i (omega arith) ∙ placed.store i (inl low);
    }

    later_moment : (c : Image) → IsEither w.now g.pages (w.now Home).seen later c → IsBatchMoment g slots frames v.now c
    later_moment c either = ⊎_elim
        (λ before. before_moment c (whole_before v.now w.now g.pages c logs placed.store before))
        (λ after. (later, partly_over, whole_state v.now w.now g.pages later c logs after))
        either

    pub batch_moments : (z : View) → LeavesOnly v w (IsWhole v.now g.pages (v.now Home).seen) → LeavesOnly w z (IsEither w.now g.pages (w.now Home).seen later) → LeavesOnly v z (IsBatchMoment g slots frames v.now)
    batch_moments z first run = joined (weaker first before_moment) (weaker run later_moment)

    module _ (z : Part) (done : IsStored z later) where
      page_there : (n : ℕ) → page_at z.seen (home_at n) ≡ page_at later (home_at n)
      page_there n = page_same z.seen later (home_at n) (home_at n) (λ j small. done.bytes (home_at n + j) (inr (omega arith)))

      written_after : (h n : ℕ) → from ≤ h → h < f → page_in slots h ≡ Some n → (since_of slots (Some h) ≡ None) ⊎ (page_at z.seen (home_at n) ≡ page_of slots frames n [])
      written_after h n low high is = ⊎_elim
          (λ none. ⊎_elim (λ clean. inl clean) (λ empty. absurd (none_is_some n (sym empty ∙ is))) none)
          (λ it. inr (page_there n ∙ subst (λ (m : ℕ). page_at later (home_at m) ≡ page_of slots frames m []) (some_same (get_or ns it.0 0) n (sym it.2 ∙ is)) (in_batch it.0 it.1)))
          (are.all h low high)

      pub batch_home : AreHome g slots frames from f (v.now Home) z
      batch_home = record {
        ready = done_ready z later done;
        partly = record {
          page = λ n lt. ⊎_elim (λ a. inl (page_there n ∙ a)) (λ a. inr (page_there n ∙ a.0, a.1)) (partly_over.page n lt);
          band = λ b i. done.bytes (band_byte g b i) (inr (omega arith)) ∙ partly_over.band b i;
          superblock = λ i low. done.bytes i (inl low) ∙ partly_over.superblock i low;
        };
        written = written_after;
      }

  -- none to be written
  pub none_home : length ns ≡ 0 → AreHome g slots frames from f (v.now Home) (w.now Home)
  none_home none = record {
    ready = placed.ready;
    partly = partly_same g slots frames (v.now Home).seen (w.now Home).seen placed.store;
    written = λ h n low high is. ⊎_elim
        (λ not. ⊎_elim (λ clean. inl clean) (λ empty. absurd (none_is_some n (sym empty ∙ is))) not)
        (λ it. absurd (let lt = it.1 in omega (arith, none, lt)))
        (are.all h low high);
  }
