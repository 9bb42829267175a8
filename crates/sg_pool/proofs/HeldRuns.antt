-- The pages of frames are repeated at once: a run without a call of the disk.
use Rattle.std.proofs.Common.{◌≡◌, inl, ⊎_elim, ◌<◌, ◌≤◌, ◌+◌, ◌^◌, ℕ, Bool, IsTrue, Option, None, Some, Ok, List, [], length, get_or, refl, sym, ◌∙◌, ap, subst, arith}
use Rattle.std.specs.Prelude.{nat_eq}
use Rattle.std.specs.Map.{lookup}
use Rattle.std.proofs.lemmas.List.Elements.{All-filter}
use Rattle.sg_base.specs.Page.{lsn_of}
use Rattle.sg_base.specs.declared.area.Area.{Area}
use Rattle.sg_base.specs.declared.area.Area.TheVariants.{Home}
use Rattle.sg_disk.specs.Disk.{Image, Leaves, View}
use Rattle.sg_disk.proofs.Moments.{started}
use Rattle.sg_gate.specs.Layout.{home_at}
use Rattle.sg_log.specs.Frames.{Numbered}
use Rattle.sg_log.specs.Held.{Tail, tail_of}
use Rattle.sg_log.proofs.Holding.{holds_image}
use Rattle.sg_ops.specs.Table.{Table}
use Rattle.sg_redo.specs.declared.place.Place.{Place}
use Rattle.sg_redo.specs.History.{OnPage, repeated, since_repeated}
use Rattle.sg_redo.specs.Places.{page_records, window_records}
use Rattle.sg_redo.specs.Window.{OnWindow}
use Rattle.sg_pool.specs.declared.pool.Pool.{Pool}
use Rattle.sg_pool.specs.declared.slot.Slot.{Slot}
use Rattle.sg_pool.specs.declared.windows.Windows.{Windows}
use Rattle.sg_pool.specs.Frames.{AreBelow, byte_in, window_of}
use Rattle.sg_pool.specs.Held.{frame_of, since_of, bytes_of}
use Rattle.sg_pool.specs.Pooled.{sizes, contents, uses, Backs, IsLogged}
use Rattle.sg_pool.specs.Redone.{ArePlacesBelow, places_of, records_of, IsRedone, IsBandRedone, AreHomesKnown}
use Rattle.sg_pool.specs.Redoing.{IsDurable, IsRun}
use Rattle.sg_pool.specs.Shelves.{lasts}
use Rattle.sg_pool.specs.Together.{records_for, AreRepeated}
use Rattle.sg_pool.specs.Units.{Geometry, IsBelow, page_at, band_byte}
use Rattle.sg_pool.specs.Windows.{marked_in}
use Rattle.sg_pool.proofs.BandsHome.{lasts_same}
use Rattle.sg_pool.proofs.Changes.{none_repeated}
use Rattle.sg_pool.proofs.Changing.{cleaned_refl}
use Rattle.sg_pool.proofs.Counting.{grown_same}
use Rattle.sg_pool.proofs.HomesKept.{untouched_same}
use Rattle.sg_pool.proofs.Placed.{page_nothing, window_nothing}
use Rattle.sg_pool.proofs.RedoHomes.{exact_here}
use Rattle.sg_pool.proofs.Redone.{below_repeated, homes_known, records_numbered, since_kept}
use Rattle.sg_pool.proofs.RedoMoments.{tail_is_gate, own_moment}
use Rattle.sg_pool.proofs.OneMore.{frame_same as same_frames}
use Rattle.sg_pool.proofs.Slots.{none_or_some, frame_some}

module _ (told : Bool) (t : Table) (text : List ℕ) (part : List Place) (v : View) (log : Tail) (p p1 : Pool) (bytes : IsTrue told → (a : Area) (i : ℕ) → (v.now a).seen i < 256)
    (size : sizes p1 ≡ sizes p) (wins : p1.shelf.wins ≡ p.shelf.wins) (order : uses p1 ≡ uses p)
    (rep : AreRepeated t text part p.shelf.slots.items p1.shelf.slots.items p.shelf.frames p1.shelf.frames)
    (held : (n : ℕ) → frame_of p.shelf.slots.items n ≡ None → places_of n part ≡ [])
    (no_bands : (n : ℕ) → (sizes p).pages ≤ n → places_of n part ≡ []) where
  frame_same : (n : ℕ) → frame_of p1.shelf.slots.items n ≡ frame_of p.shelf.slots.items n
  frame_same = same_frames t text part p.shelf.slots.items p1.shelf.slots.items p.shelf.frames p1.shelf.frames rep p.shelf.shelf.apart

  -- its records are repeated on it
  page_is : (n : ℕ) → (contents v p1).page n ≡ repeated (page_records t text (places_of n part)) ((contents v p).page n)
  page_is n = ⊎_elim
      (λ none.
      let home : List ℕ = page_at (v.now Home).seen (home_at n) in
      let here : (contents v p).page n ≡ home = ap (λ (o : Option ℕ). bytes_of p.shelf.frames.pages o home) none in
      let there : (contents v p1).page n ≡ home = ap (λ (o : Option ℕ). bytes_of p1.shelf.frames.pages o home) (frame_same n ∙ none) in
      there ∙ (sym here ∙ ap (λ (l : List OnPage). repeated l ((contents v p).page n)) (sym (ap (page_records t text) (held n none) ∙ page_nothing t text))))
      (λ some.
      let home : List ℕ = page_at (v.now Home).seen (home_at n) in
      let at = frame_some n p.shelf.slots.items some.0 some.1 in
      let here : (contents v p).page n ≡ get_or p.shelf.frames.pages some.0 [] = ap (λ (o : Option ℕ). bytes_of p.shelf.frames.pages o home) some.1 in
      let there : (contents v p1).page n ≡ get_or p1.shelf.frames.pages some.0 [] = ap (λ (o : Option ℕ). bytes_of p1.shelf.frames.pages o home) (frame_same n ∙ some.1) in
      there ∙ (rep.bytes some.0 ∙ (ap (λ (o : Option ℕ). repeated (records_for t text part o) (get_or p.shelf.frames.pages some.0 [])) at.1 ∙ ap (repeated (page_records t text (places_of n part))) (sym here))))
      (none_or_some (frame_of p.shelf.slots.items n))

  since_is : (n : ℕ) → (contents v p1).page_since n ≡ since_repeated (page_records t text (places_of n part)) ((contents v p).page n) ((contents v p).page_since n)
  since_is n = ⊎_elim
      (λ none.
      let here : (contents v p).page_since n ≡ None = ap (since_of p.shelf.slots.items) none in
      let there : (contents v p1).page_since n ≡ None = ap (since_of p1.shelf.slots.items) (frame_same n ∙ none) in
      there ∙ (sym here ∙ ap (λ (l : List OnPage). since_repeated l ((contents v p).page n) ((contents v p).page_since n)) (sym (ap (page_records t text) (held n none) ∙ page_nothing t text))))
      (λ some.
      let home : List ℕ = page_at (v.now Home).seen (home_at n) in
      let at = frame_some n p.shelf.slots.items some.0 some.1 in
      let page : (contents v p).page n ≡ get_or p.shelf.frames.pages some.0 [] = ap (λ (o : Option ℕ). bytes_of p.shelf.frames.pages o home) some.1 in
      let here : (contents v p).page_since n ≡ since_of p.shelf.slots.items (Some some.0) = ap (since_of p.shelf.slots.items) some.1 in
      let there : (contents v p1).page_since n ≡ since_of p1.shelf.slots.items (Some some.0) = ap (since_of p1.shelf.slots.items) (frame_same n ∙ some.1) in
      there ∙ (ap (λ (s : Slot). s.since) (rep.slot some.0) ∙ (ap (λ (o : Option ℕ). since_repeated (records_for t text part o) (get_or p.shelf.frames.pages some.0 []) (since_of p.shelf.slots.items (Some some.0))) at.1
      ∙ (ap (λ (l : List ℕ). since_repeated (page_records t text (places_of n part)) l (since_of p.shelf.slots.items (Some some.0))) (sym page) ∙ ap (since_repeated (page_records t text (places_of n part)) ((contents v p).page n)) (sym here)))))
      (none_or_some (frame_of p.shelf.slots.items n))

  -- bands are as they were
  byte_same : (b i : ℕ) → (contents v p1).byte b i ≡ (contents v p).byte b i
  byte_same b i =
      ap (λ (w : Windows). byte_in p1.shelf.frames.windows (window_of w b) i ((v.now Home).seen (band_byte (sizes p1) b i))) wins
      ∙ (ap (λ (ws : List (List ℕ)). byte_in ws (window_of p.shelf.wins b) i ((v.now Home).seen (band_byte (sizes p1) b i))) rep.windows
      ∙ ap (λ (h : Geometry). byte_in p.shelf.frames.windows (window_of p.shelf.wins b) i ((v.now Home).seen (band_byte h b i))) size)

  band_since_same : (b : ℕ) → (contents v p1).band_since b ≡ (contents v p).band_since b
  band_since_same b = ap (λ (w : Windows). since_of w.slots.items (window_of w b)) wins

  marked_same : (b i : ℕ) → (contents v p1).marked b i ≡ (contents v p).marked b i
  marked_same b i = ap (λ (w : Windows). marked_in w.marks.items (window_of w b) i) wins

  redone : IsRedone (sizes p) (records_of (sizes p) t text part) (contents v p) (contents v p1)
  redone = record {
    pages = λ n lt. record { page = page_is n; since = inl (since_is n) };
    bands = λ b lt. subst (λ (ws : List OnWindow). IsBandRedone b ws (contents v p) (contents v p1)) (sym (ap (window_records t text) (no_bands ((sizes p).pages + b) (omega arith)) ∙ window_nothing t text))
        (record { byte = λ i small. byte_same b i; marked = λ i small on. inl (sym (marked_same b i) ∙ on); since = inl (band_since_same b) });
  }

  backed : Backs (sizes p) v p → Backs (sizes p) v p1
  backed backs = record {
    ready = backs.ready;
    pages = λ n lt none. let it = none_repeated (page_records t text (places_of n part)) ((contents v p).page n) ((contents v p).page_since n) (sym (since_is n) ∙ none) in backs.pages n lt it.0 ∙ sym (page_is n ∙ it.1);
    bytes = λ b i lt small off. backs.bytes b i lt small (sym (marked_same b i) ∙ off) ∙ sym (byte_same b i);
    clean = λ b i none. marked_same b i ∙ backs.clean b i (sym (band_since_same b) ∙ none);
  }

  -- the numbers of pages and bands stay below the log's tail
  below : (tail : ℕ) → tail ≤ 2 ^ 64 → ArePlacesBelow tail part → IsBelow (sizes p) tail (contents v p) → IsBelow (sizes p1) tail (contents v p1)
  below tail most every was = subst (λ (h : Geometry). IsBelow h tail (contents v p1)) (sym size)
      (λ n o lt some. subst (λ (l : List ℕ). lsn_of l < tail) (sym (page_is n))
      (below_repeated tail (page_records t text (places_of n part)) ((contents v p).page n) ((contents v p).page_since n) (records_numbered t text tail (places_of n part) most (All-filter _ (λ q. q.lsn < tail) part every))
      (λ x e. was n x lt e) o (sym (since_is n) ∙ some)))

  logged : (ds : List Numbered) → IsDurable v log ds p part → IsLogged (tail_of log) v p1
  logged ds durable =
      let every : ArePlacesBelow (tail_of log) part = subst (λ (d : ℕ). ArePlacesBelow d part) (sym (tail_is_gate v log ds durable.holds)) durable.below in
      record {
        pages = below (tail_of log) (let within = durable.holds.within in omega (arith, within)) every durable.logged.pages;
        bands = subst (λ (w : Windows). AreBelow (tail_of log) w) (sym wins) durable.logged.bands;
      }

  homes : Backs (sizes p) v p → AreHomesKnown (sizes p) (v.now Home) (records_of (sizes p) t text part) (contents v p) (contents v p1)
  homes backs = homes_known (sizes p) (v.now Home) (records_of (sizes p) t text part) (contents v p) (contents v p) (contents v p1) (cleaned_refl (sizes p) (contents v p)) backs
      (λ n x lt some. since_is n ∙ (ap (since_repeated (page_records t text (places_of n part)) ((contents v p).page n)) some ∙ since_kept (page_records t text (places_of n part)) ((contents v p).page n) x))

  -- THE RUN
  pub held_run : IsRun {T = Unit {0}} (sizes p) told t text part v v log log p p1 (Ok tt)
  held_run = record {
    size = size;
    log_kept = inl refl;
    later = omega arith;
    heeded = refl;
    kept = omega arith;
    grown = grown_same log v v (omega arith);
    pins = λ f. ap (lookup (nat_eq f)) order;
    count = ap (λ (w : Windows). length w.slots.items) wins;
    bytes = bytes;
    below = λ tail logged every. subst (λ (w : Windows). AreBelow tail w) (sym wins) logged;
    lasts = record { its = λ b o some since. absurd (some (no_bands ((sizes p).pages + b) (omega arith))); others = λ b o empty since. lasts_same p.shelf.wins p1.shelf.wins wins b o since };
    absent = λ n empty away. frame_same n ∙ away;
    faults = tt;
    units_are = λ is_told apart backs. record {
      backed = backed backs;
      redone = redone;
      partly = tt;
      untouched = exact_here (sizes p) (v.now Home).seen (v.now Home).seen _ _ _ (untouched_same (sizes p) (v.now Home).seen (v.now Home).seen (contents v p1) refl);
      well = λ n lt some away. absurd (some (held n away));
    };
    log_is = λ ds ps is_told apart backs holds. inl (refl, holds);
    durable = λ ds is_told apart backs durable. record {
      logged = logged ds durable;
      homes = homes backs;
      moments = started v _ (λ (c : Image) (leaves : Leaves v.now c). own_moment (sizes p) v log ds (lasts p.shelf) (records_of (sizes p) t text part) (contents v p) apart backs.ready (tail_is_gate v log ds durable.holds) c
          (inl (record { held = inl (holds_image durable.holds c leaves); others = λ b other. leaves b })));
    };
  }
