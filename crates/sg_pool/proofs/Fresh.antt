-- A pool that holds nothing yet.
use Rattle.std.proofs.Common.{◌≡◌, ⊎_elim, ◌≤◌, ℕ, Option, Some, None, List, length, get_or, sym, ◌∙◌, ap, arith}
use Rattle.std.specs.Prelude.{replicate}
use Rattle.std.proofs.lemmas.Bool.{cases_lt}
use Rattle.std.proofs.lemmas.List.{get_or-replicate, get_or_past, length-replicate}
use Rattle.sg_frames.specs.Held.{Held, NoneLent}
use Rattle.sg_pool.specs.declared.slot.Slot.{Slot}
use Rattle.sg_pool.specs.declared.windows.Windows.{Windows}
use Rattle.sg_disk.specs.Disk.{Part}
use Rattle.sg_gate.specs.Batch.{IsReady}
use Rattle.sg_gate.specs.Layout.{home_at}
use Rattle.sg_pool.specs.Units.{Geometry, IsBacked, page_at, band_byte}
use Rattle.sg_pool.specs.Held.{no_slot, frame_of, page_in, since_of, bytes_of, page_since_of}
use Rattle.sg_pool.specs.Frames.{units_of, window_of, byte_in, IsShelf}
use Rattle.sg_pool.specs.Windows.{marked_in}
use Rattle.sg_pool.proofs.Slots.{none_is_some, frame_nowhere}

module _ (count : ℕ) where
  abbrev slots : List Slot
  slots = replicate count no_slot

  slot_is : (f : ℕ) → get_or slots f no_slot ≡ no_slot
  slot_is f = ⊎_elim (λ low. get_or-replicate count f no_slot no_slot low) (λ high. get_or_past slots f no_slot (let e = length-replicate count no_slot in omega (arith, e))) (cases_lt f count)

  pub page_none : (f : ℕ) → page_in slots f ≡ None
  page_none f = ap (λ (s : Slot). s.number) (slot_is f)

  pub since_none : (f : ℕ) → since_of slots (Some f) ≡ None
  since_none f = ap (λ (s : Slot). s.since) (slot_is f)

  pub frame_none : (n : ℕ) → frame_of slots n ≡ None
  frame_none n = frame_nowhere slots n (λ j lt is. none_is_some n (sym (page_none j) ∙ is))

  pub shelf_new : (pages bands : ℕ) (slots' : List Slot) (index : List (Option ℕ)) (wins : Windows) (frames : Held) → pages ≤ 1048576 → bands ≤ 65536 → count ≤ 16384 → slots' ≡ slots → index ≡ replicate pages None → length frames.pages ≡ count → length frames.windows ≡ length wins.slots.items → length wins.index.items ≡ bands → NoneLent frames
      → IsShelf pages bands slots' index wins frames
  shelf_new pages bands slots' index wins frames small few_bands few same all many wide listed here = record {
    here = here;
    many = many ∙ (sym (length-replicate count no_slot) ∙ ap length (sym same));
    wide = wide;
    few = let e = ap length same ∙ length-replicate count no_slot in omega (arith, e, few);
    apart = λ i j n li lj a b. absurd (none_is_some n (sym (page_none i) ∙ (ap (λ (t : List Slot). page_in t i) (sym same) ∙ a)));
    within = λ f n lt is. absurd (none_is_some n (sym (page_none f) ∙ (ap (λ (t : List Slot). page_in t f) (sym same) ∙ is)));
    owned = λ f none. ap (λ (t : List Slot). since_of t (Some f)) same ∙ since_none f;
    most = small;
    listed = ap length all ∙ length-replicate pages None;
    found = λ n lt. ap (λ (l : List (Option ℕ)). get_or l n None) all ∙ (get_or-replicate pages n None None (let e = ap length all ∙ length-replicate {A = Option ℕ} pages None in omega (arith, e, lt))
        ∙ (sym (frame_none n) ∙ ap (λ (t : List Slot). frame_of t n) (sym same)));
    most_bands = few_bands;
    listed_bands = listed;
    well = λ f n lt is. absurd (none_is_some n (sym (page_none f) ∙ (ap (λ (t : List Slot). page_in t f) (sym same) ∙ is)));
  }

-- the disk has all of it
module _ (count : ℕ) (slots' : List Slot) (wins : Windows) (frames : Held) (is : slots' ≡ replicate count no_slot) (empty : (b : ℕ) → window_of wins b ≡ None) where
  no_frame : (n : ℕ) → frame_of slots' n ≡ None
  no_frame n = ap (λ (t : List Slot). frame_of t n) is ∙ frame_none count n

  pub fresh_backed : (g : Geometry) (p : Part) → IsReady p → IsBacked g p (units_of g p.seen slots' wins frames)
  fresh_backed g p ready = record {
    ready = ready;
    pages = λ n small none. sym (ap (λ (o : Option ℕ). bytes_of frames.pages o (page_at p.seen (home_at n))) (no_frame n));
    bytes = λ b i a c none. sym (ap (λ (o : Option ℕ). byte_in frames.windows o i (p.seen (band_byte g b i))) (empty b));
    clean = λ b i none. ap (λ (o : Option ℕ). marked_in wins.marks.items o i) (empty b);
  }

  pub fresh_written : (n lsn : ℕ) → page_since_of slots' n ≡ Some lsn → ⊥
  fresh_written n lsn has = none_is_some lsn (sym (ap (since_of slots') (no_frame n)) ∙ has)
