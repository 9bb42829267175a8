-- Bands go home from windows: which bytes, and in turn.
use Rattle.std.proofs.Common.{◌≡◌, ⊎_elim, ◌<◌, ◌≤◌, ◌+◌, ◌-◌, ℕ, Bool, true, Some, List, [], Result, length, get_or, refl, sym, ◌∙◌, ap, subst, arith}
use Rattle.std.proofs.lemmas.Bool.{cases_lt}
use Rattle.sg_base.specs.declared.area.Area.TheVariants.{Home}
use Rattle.sg_base.specs.declared.page.TheConstants.{BAND_SIZE}
use Rattle.sg_disk.specs.Disk.{Part, State, Image, Spoils, LeavesPart, View, Synced, LeavesOnly, synced, synced_part}
use Rattle.sg_disk.proofs.Moments.{started, weaker, goes_on}
use Rattle.sg_disk.proofs.Parts.{part_synced, other_synced}
use Rattle.sg_gate.specs.Layout.{HEADER, band_at}
use Rattle.sg_gate.specs.Batch.{IsReady, SameLogs}
use Rattle.sg_window.specs.Runs.{IsMarkedAt, IsTorn, IsSameBut, AreWritten}
use Rattle.sg_window.proofs.Writing.{torn}
use Rattle.sg_pool.specs.declared.windows.Windows.{Windows}
use Rattle.sg_pool.specs.declared.windows.Marks.{Marks}
use Rattle.sg_pool.specs.Held.{frame_of, page_in}
use Rattle.sg_pool.specs.Windows.{no_marks, marked_in}
use Rattle.sg_pool.specs.Units.{Geometry, band_byte}
use Rattle.sg_pool.specs.Bands.{IsDirty, AreBandsWritten, AreBandsHome}
use Rattle.sg_pool.proofs.Slots.{some_same, frame_is}

-- a byte of the home area is one of one band
pub same_byte : (g : Geometry) (b i c j : ℕ) → i < BAND_SIZE → j < BAND_SIZE → band_byte g b i ≡ band_byte g c j → (b ≡ c) × (i ≡ j)
same_byte g b i c j small less is = ⊎_elim
    (λ lt. absurd (omega arith))
    (λ le. ⊎_elim (λ lt. absurd (omega arith)) (λ ge. (omega arith, omega arith)) (cases_lt c b))
    (cases_lt b c)

-- the window of a dirty byte holds its band, and the byte is marked there
pub dirty_is : (g : Geometry) (wins : Windows) (from to b i : ℕ) → i < BAND_SIZE → (d : IsDirty g wins from to (band_byte g b i)) → (frame_of wins.slots.items b ≡ Some d.window) × (marked_in wins.marks.items (Some d.window) i ≡ true)
dirty_is g wins from to b i small d =
    let same = same_byte g b i d.band d.byte small d.inside d.is in (
      frame_is wins.slots.items d.window b wins.windows.apart d.there (d.holds ∙ ap Some (sym same.0)),
      subst (λ (k : ℕ). marked_in wins.marks.items (Some d.window) k ≡ true) (sym same.1) d.marked,
    )

-- fewer windows
pub fewer : (g : Geometry) (wins : Windows) (from to low high i : ℕ) → low ≤ from → to ≤ high → (IsDirty g wins low high i → ⊥) → IsDirty g wins from to i → ⊥
fewer g wins from to low high i below above bare d = let a = d.low in let b = d.high in bare (record {
  window = d.window;
  band = d.band;
  byte = d.byte;
  low = omega (arith, a, below);
  high = omega (arith, b, above);
  there = d.there;
  holds = d.holds;
  inside = d.inside;
  marked = d.marked;
  is = d.is;
})

module _ (g : Geometry) (wins : Windows) (windows : List (List ℕ)) where
  -- no window yet, or one that holds no band
  pub bands_start : (s : State) (from to : ℕ) → ((w b : ℕ) → from ≤ w → w < to → page_in wins.slots.items w ≡ Some b → ⊥) → AreBandsWritten g wins windows from to s s
  bands_start s from to none = record {
    there = λ w b k low high held. absurd (none w b low high held);
    rest = record { seen = λ i bare. refl; pending = λ i bare whole. whole; others = λ b other. refl };
  }

  -- one window more
  pub bands_more : (s t u : State) (from w : ℕ) → from ≤ w → AreBandsWritten g wins windows from w s t → AreBandsWritten g wins windows w (w + 1) t u → AreBandsWritten g wins windows from (w + 1) s u
  bands_more s t u from w order first second =
      let before : (i : ℕ) → (IsDirty g wins from (w + 1) i → ⊥) → IsDirty g wins from w i → ⊥ = λ i. fewer g wins from w from (w + 1) i (omega arith) (omega arith) in
      let here : (i : ℕ) → (IsDirty g wins from (w + 1) i → ⊥) → IsDirty g wins w (w + 1) i → ⊥ = λ i. fewer g wins w (w + 1) from (w + 1) i order (omega arith) in
      record {
        there = λ v b k low high held small marked. ⊎_elim
            (λ early.
            let apart : IsDirty g wins w (w + 1) (band_byte g b k) → ⊥ = λ d.
            let same = same_byte g b k d.band d.byte small d.inside d.is in let a = d.low in let e : d.window ≡ v = wins.windows.apart d.window v b d.there (let m = d.there in omega (arith, m, a, early)) (d.holds ∙ ap Some (sym same.0)) held in omega (arith, a, e, early) in
            second.rest.seen (band_byte g b k) apart ∙ first.there v b k low early held small marked)
            (λ late. second.there v b k late high held small marked)
            (cases_lt v w);
        rest = record {
          seen = λ i bare. second.rest.seen i (here i bare) ∙ first.rest.seen i (before i bare);
          pending = λ i bare whole. second.rest.pending i (here i bare) (first.rest.pending i (before i bare) whole);
          others = λ b other. second.rest.others b other ∙ first.rest.others b other;
        };
      }

  -- a moment of the next window, in the first state's words
  pub bands_torn : (s t : State) (from w to : ℕ) (c : Image) → from ≤ w → w < to → IsSameBut s t (IsDirty g wins from w) → IsTorn t (IsDirty g wins w (w + 1)) c → IsTorn s (IsDirty g wins from to) c
  bands_torn s t from w to c order below same is =
      let before : (i : ℕ) → (IsDirty g wins from to i → ⊥) → IsDirty g wins from w i → ⊥ = λ i. fewer g wins from w from to i (omega arith) (omega arith) in
      let here : (i : ℕ) → (IsDirty g wins from to i → ⊥) → IsDirty g wins w (w + 1) i → ⊥ = λ i. fewer g wins w (w + 1) from to i order (omega arith) in
      record {
        home = λ i bare whole. is.home i (here i bare) (same.pending i (before i bare) whole) ∙ same.seen i (before i bare);
        fits = is.fits;
        others = λ b other. subst (λ (p : Part). LeavesPart p (c b)) (same.others b other) (is.others b other);
      }

  -- one window's runs
  module _ (w b : ℕ) (lt : w < length wins.slots.items) (held : page_in wins.slots.items w ≡ Some b) where
    abbrev dirty : List Bool
    dirty = (get_or wins.marks.items w no_marks).dirty

    marked_dirty : (i : ℕ) → (IsDirty g wins w (w + 1) i → ⊥) → IsMarkedAt (band_at g.pages b) dirty BAND_SIZE i → ⊥
    marked_dirty i bare is = let low = is.0 in let high = is.1 in bare (record {
      window = w;
      band = b;
      byte = i - band_at g.pages b;
      low = omega arith;
      high = omega arith;
      there = lt;
      holds = held;
      inside = omega (arith, low, high);
      marked = is.2;
      is = omega (arith, low);
    })

    pub runs_torn : (s : State) (c : Image) → IsTorn s (IsMarkedAt (band_at g.pages b) dirty BAND_SIZE) c → IsTorn s (IsDirty g wins w (w + 1)) c
    runs_torn s c is = record { home = λ i bare. is.home i (marked_dirty i bare); fits = is.fits; others = is.others }

    pub runs_written : (s t : State) → AreWritten s t (band_at g.pages b) (get_or windows w []) dirty BAND_SIZE → AreBandsWritten g wins windows w (w + 1) s t
    runs_written s t done = record {
      there = λ v c k low high has small marked.
          let e : v ≡ w = omega (arith, low, high) in
          let same : c ≡ b = some_same c b (sym has ∙ (ap (page_in wins.slots.items) e ∙ held)) in
          ap (λ (n : ℕ). (t Home).seen (band_byte g n k)) same ∙ (done.there k small (subst (λ (x : ℕ). marked_in wins.marks.items (Some x) k ≡ true) e marked) ∙ ap (λ (x : ℕ). get_or (get_or windows x []) k 0) (sym e));
      rest = record {
        seen = λ i bare. done.rest.seen i (marked_dirty i bare);
        pending = λ i bare. done.rest.pending i (marked_dirty i bare);
        others = done.rest.others;
      };
    }

    -- in what the code's values are
    module _ (base : ℕ) (bytes : List ℕ) (marks : Marks) (base_is : base ≡ band_at g.pages b) (bytes_are : bytes ≡ get_or windows w []) (marks_are : marks ≡ get_or wins.marks.items w no_marks) where
      pub window_torn : (v z : View) → LeavesOnly v z (IsTorn v.now (IsMarkedAt base marks.dirty BAND_SIZE)) → LeavesOnly v z (IsTorn v.now (IsDirty g wins w (w + 1)))
      window_torn v z run = weaker
          (subst (λ (m : Marks). LeavesOnly v z (IsTorn v.now (IsMarkedAt (band_at g.pages b) m.dirty BAND_SIZE))) marks_are
          (subst (λ (at : ℕ). LeavesOnly v z (IsTorn v.now (IsMarkedAt at marks.dirty BAND_SIZE))) base_is run))
          (runs_torn v.now)

      pub window_written : (s t : State) → AreWritten s t base bytes marks.dirty BAND_SIZE → AreBandsWritten g wins windows w (w + 1) s t
      window_written s t done = runs_written s t
          (subst (λ (m : Marks). AreWritten s t (band_at g.pages b) (get_or windows w []) m.dirty BAND_SIZE) marks_are
          (subst (λ (x : List ℕ). AreWritten s t (band_at g.pages b) x marks.dirty BAND_SIZE) bytes_are
          (subst (λ (at : ℕ). AreWritten s t at bytes marks.dirty BAND_SIZE) base_is done)))

  -- no call yet
  pub none_torn : (v : View) (from to : ℕ) → LeavesOnly v v (IsTorn v.now (IsDirty g wins from to))
  none_torn v from to = started v (IsTorn v.now (IsDirty g wins from to)) (λ c leaves. record { home = λ i bare whole. (leaves Home).rest i whole; fits = (leaves Home).byte; others = λ b other. leaves b })

  -- the sync behind them
  pub bands_synced : (s t u : State) (from to : ℕ) → IsReady (s Home) → AreBandsWritten g wins windows from to s t → u ≡ synced Home t → AreBandsHome g wins windows from to (s Home) (u Home)
  bands_synced s t u from to ready done is =
      let part : u Home ≡ synced_part (t Home) = part_synced t Home is in
      let seen : (i : ℕ) → (u Home).seen i ≡ (t Home).seen i = λ i. ap (λ (p : Part). p.seen i) part in
      record {
        there = λ w b k low high held small marked. seen (band_byte g b k) ∙ done.there w b k low high held small marked;
        rest = λ i bare. seen i ∙ done.rest.seen i bare;
        ready = record {
          closed = λ gate. ready.closed (sym (seen HEADER ∙ done.rest.seen HEADER (λ d. let e = d.is in absurd (omega (arith, e)))) ∙ gate);
          settled = λ i out. subst (λ (p : Part). Spoils p.pending i → ⊥) (sym part) (λ no. no);
        };
      }

  pub synced_logs : (s t u : State) (from to : ℕ) → AreBandsWritten g wins windows from to s t → u ≡ synced Home t → SameLogs s u
  synced_logs s t u from to done is = λ b other. other_synced t Home b other is ∙ done.rest.others b other

  pub sync_torn : {T E : Type 0} (v w z : View) (r : Result T E) (from to : ℕ) → AreBandsWritten g wins windows from to v.now w.now → LeavesOnly v w (IsTorn v.now (IsDirty g wins from to)) → Synced Home w z r → LeavesOnly v z (IsTorn v.now (IsDirty g wins from to))
  sync_torn v w z r from to done run sync = goes_on run sync (λ c leaves. torn v.now w.now (IsDirty g wins from to) (IsDirty g wins from to) c (λ i bare. bare) done.rest leaves)
