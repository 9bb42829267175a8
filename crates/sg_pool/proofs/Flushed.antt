-- A batch is home, in the pool's words: its moments go, and its units are clean.
use Rattle.std.proofs.Common.{◌≡◌, ◌⊎◌, inl, inr, ⊎_elim, ◌<◌, ◌≤◌, ℕ, Option, Some, None, List, [], length, refl, sym, ◌∙◌, ap, subst, arith}
use Rattle.std.proofs.lemmas.Bool.{cases_lt}
use Rattle.sg_base.specs.Page.{lsn_of}
use Rattle.sg_base.specs.declared.area.Area.TheVariants.{Home}
use Rattle.sg_disk.specs.Disk.{Bytes, Image, Part, State, View}
use Rattle.sg_log.specs.Frames.{Numbered, SameElsewhere}
use Rattle.sg_log.specs.Held.{Tail}
use Rattle.sg_gate.specs.Layout.{home_at}
use Rattle.sg_gate.specs.Batch.{SameLogs}
use Rattle.sg_frames.specs.Held.{Held}
use Rattle.sg_pool.specs.Units.{Geometry, EachPage, page_at, IsGoing, IsBacked, IsCleaned, IsBelow}
use Rattle.sg_pool.specs.declared.slot.Slot.{Slot}
use Rattle.sg_pool.specs.declared.windows.Windows.{Windows}
use Rattle.sg_pool.specs.Frames.{units_of, window_of, byte_in}
use Rattle.sg_pool.specs.Held.{frame_of, page_in, AreApart, bytes_of, since_of, page_of, page_since_of}
use Rattle.sg_pool.specs.Batches.{IsHeld, IsPartly, IsBatchMoment, AreHome}
use Rattle.sg_pool.specs.Moments.{GoesHome}
use Rattle.sg_pool.proofs.Slots.{frame_is, frame_some}
use Rattle.sg_pool.proofs.Settling.{Stands, whole_goes}
use Rattle.sg_pool.proofs.Writing.{whole_state}

-- a page that is in a frame doesn't depend on its home
pub in_frame_any : (slots : List Slot) (frames : List (List ℕ)) (n : ℕ) → AreApart slots → IsHeld slots n → (a b : List ℕ) → page_of slots frames n a ≡ page_of slots frames n b
in_frame_any slots frames n apart held a b =
    let e = frame_is slots held.0 n apart held.1 held.2 in
    ap (λ (o : Option ℕ). bytes_of frames o a) e ∙ sym (ap (λ (o : Option ℕ). bytes_of frames o b) e)

module _ (g : Geometry) (slots : List Slot) (wins : Windows) (frames : Held) (apart : AreApart slots) where
  -- pages that go home go as they may, where each changed one has a number below d
  module _ (p : Part) (last : ℕ → ℕ) (d : ℕ) (backed : EachPage g (λ n. page_since_of slots n ≡ None → page_at p.seen (home_at n) ≡ page_of slots frames.pages n (page_at p.seen (home_at n))))
      (below : IsBelow g d (units_of g p.seen slots wins frames)) where
    page_goes : (n : ℕ) (store : Bytes) → n < g.pages → page_at store (home_at n) ≡ page_of slots frames.pages n (page_at p.seen (home_at n)) → (o : Option ℕ) → page_since_of slots n ≡ o
        → (page_at store (home_at n) ≡ page_at p.seen (home_at n)) ⊎ ((page_at store (home_at n) ≡ page_of slots frames.pages n (page_at p.seen (home_at n))) × (lsn_of (page_of slots frames.pages n (page_at p.seen (home_at n))) < d))
    page_goes n store small is None e = inl (is ∙ sym (backed n small e))
    page_goes n store small is (Some o) e = inr (is, below n o small e)

    pub partly_goes : (store : Bytes) → IsPartly g slots frames.pages p.seen store → IsGoing g d last p.seen (units_of g p.seen slots wins frames) store
    partly_goes store partly = record {
      pages = λ n small. ⊎_elim
          (λ same. inl same)
          (λ gone. page_goes n store small (gone.0 ∙ in_frame_any slots frames.pages n apart gone.1 [] (page_at p.seen (home_at n))) (page_since_of slots n) refl)
          (partly.page n small);
      bytes = λ b i a c. inl (partly.band b i);
    }

  -- and each such moment is one of the pool's, from a state with the same home area in which they are durable
  pub batch_goes : (v w : View) (log : Tail) (ds ps : List Numbered) (last : ℕ → ℕ) (d : ℕ) → (log.area ≡ Home → ⊥) → SameElsewhere log.area v.now w.now → Stands w log ds ps d
      → IsBacked g (v.now Home) (units_of g (v.now Home).seen slots wins frames) → IsBelow g d (units_of g (v.now Home).seen slots wins frames) → w.now Home ≡ v.now Home
      → (c : Image) → IsBatchMoment g slots frames.pages w.now c → GoesHome g v log ds ps last (units_of g (v.now Home).seen slots wins frames) c
  batch_goes v w log ds ps last d not_home else_where log_stands backed below home c moment =
      let partly = subst (λ (p : Part). IsPartly g slots frames.pages p.seen moment.0) home moment.1 in
      whole_goes g v w log ds ps last (units_of g (v.now Home).seen slots wins frames) d not_home else_where log_stands moment.0 c
      (partly_goes (v.now Home) last d backed.pages below moment.0 partly) partly.superblock moment.2

  -- after it, the units with the frames from `from` to `to` marked clean
  module _ (from to : ℕ) (p q : Part) (home : AreHome g slots frames.pages from to p q) (slots' : List Slot) (same_frame : (n : ℕ) → frame_of slots' n ≡ frame_of slots n)
      (since_in : (h : ℕ) → from ≤ h → h < to → since_of slots' (Some h) ≡ None) (since_out : (h : ℕ) → (h < from) ⊎ (to ≤ h) → since_of slots' (Some h) ≡ since_of slots (Some h)) where
    unit_same : (n : ℕ) → n < g.pages → page_of slots' frames.pages n (page_at q.seen (home_at n)) ≡ page_of slots frames.pages n (page_at p.seen (home_at n))
    unit_same n small = ap (λ (o : Option ℕ). bytes_of frames.pages o (page_at q.seen (home_at n))) (same_frame n) ∙ ⊎_elim
        (λ same. ap (page_of slots frames.pages n) same)
        (λ gone. in_frame_any slots frames.pages n apart gone.1 (page_at q.seen (home_at n)) (page_at p.seen (home_at n)))
        (home.partly.page n small)

    since_at : (o : Option ℕ) → (since_of slots' o ≡ since_of slots o) ⊎ (since_of slots' o ≡ None)
    since_at None = inl refl
    since_at (Some h) = ⊎_elim (λ low. inl (since_out h (inl low))) (λ high. ⊎_elim (λ within. inr (since_in h high within)) (λ out. inl (since_out h (inr out))) (cases_lt h to)) (cases_lt h from)

    pub flushed_cleaned : IsCleaned g (units_of g p.seen slots wins frames) (units_of g q.seen slots' wins frames)
    flushed_cleaned = record {
      page = unit_same;
      byte = λ b i a c. ap (byte_in frames.windows (window_of wins b) i) (home.partly.band b i);
      page_since = λ n small. subst (λ (o : Option ℕ). (since_of slots' o ≡ page_since_of slots n) ⊎ (since_of slots' o ≡ None)) (sym (same_frame n)) (since_at (frame_of slots n));
      band_since = λ b. inl refl;
      marked = λ b i. inl refl;
    }

    -- a clean page's home holds it
    module _ (n : ℕ) (small : n < g.pages) (before : page_since_of slots n ≡ None → page_at p.seen (home_at n) ≡ page_of slots frames.pages n (page_at p.seen (home_at n))) where
      abbrev IsThere : Type 0
      IsThere = page_at q.seen (home_at n) ≡ page_of slots frames.pages n (page_at p.seen (home_at n))

      went_home : IsHeld slots n → page_at q.seen (home_at n) ≡ page_of slots frames.pages n [] → IsThere
      went_home held is = is ∙ in_frame_any slots frames.pages n apart held [] (page_at p.seen (home_at n))

      was_clean : page_since_of slots n ≡ None → IsThere
      was_clean none = ⊎_elim (λ same. same ∙ before none) (λ gone. went_home gone.1 gone.0) (home.partly.page n small)

      pub home_now : (o : Option ℕ) → frame_of slots n ≡ o → since_of slots' o ≡ None → IsThere
      home_now None e none = was_clean (ap (since_of slots) e)
      home_now (Some h) e none =
          let here = frame_some n slots h e in
          let out : (h < from) ⊎ (to ≤ h) → IsThere = λ o. was_clean (ap (since_of slots) e ∙ (sym (since_out h o) ∙ none)) in
          ⊎_elim
          (λ low. out (inl low))
          (λ high. ⊎_elim
          (λ within. ⊎_elim (λ clean. was_clean (ap (since_of slots) e ∙ clean)) (λ is. went_home (h, here.0, here.1) is) (home.written h n high within here.1))
          (λ behind. out (inr behind))
          (cases_lt h to))
          (cases_lt h from)

    pub flushed_backed : IsBacked g p (units_of g p.seen slots wins frames) → IsBacked g q (units_of g q.seen slots' wins frames)
    flushed_backed backed = record {
      ready = home.ready;
      pages = λ n small none. home_now n small (backed.pages n small) (frame_of slots n) refl (ap (since_of slots') (sym (same_frame n)) ∙ none) ∙ sym (unit_same n small);
      bytes = λ b i a c unmarked. home.partly.band b i ∙ (backed.bytes b i a c unmarked ∙ sym (ap (byte_in frames.windows (window_of wins b) i) (home.partly.band b i)));
      clean = backed.clean;
    }

-- SEVERAL BATCHES: what frames hold stays, and their pages are as they were
module _ (g : Geometry) (slots slots' : List Slot) (frames : List (List ℕ)) (count : length slots' ≡ length slots) (pages : (h : ℕ) → page_in slots' h ≡ page_in slots h) (same_frame : (n : ℕ) → frame_of slots' n ≡ frame_of slots n) where
  held_same : (n : ℕ) → IsHeld slots' n → IsHeld slots n
  held_same n held = (held.0, let lt = held.1 in omega (arith, lt, count), sym (pages held.0) ∙ held.2)

  -- in the words of the first slots
  partly_same_slots : (f f' : Bytes) → IsPartly g slots' frames f f' → IsPartly g slots frames f f'
  partly_same_slots f f' partly = record {
    page = λ n small. ⊎_elim (λ same. inl same) (λ gone. inr (gone.0 ∙ ap (λ (o : Option ℕ). bytes_of frames o []) (same_frame n), held_same n gone.1)) (partly.page n small);
    band = partly.band;
    superblock = partly.superblock;
  }

  -- and of the first state
  pub partly_on : (f f' f'' : Bytes) → IsPartly g slots frames f f' → IsPartly g slots' frames f' f'' → IsPartly g slots frames f f''
  partly_on f f' f'' first second =
      let more = partly_same_slots f' f'' second in
      record {
        page = λ n small. ⊎_elim (λ same. ⊎_elim (λ was. inl (same ∙ was)) (λ gone. inr (same ∙ gone.0, gone.1)) (first.page n small)) (λ gone. inr gone) (more.page n small);
        band = λ b i. more.band b i ∙ first.band b i;
        superblock = λ i low. more.superblock i low ∙ first.superblock i low;
      }

  pub moment_on : (s t : State) (c : Image) → SameLogs s t → IsPartly g slots frames (s Home).seen (t Home).seen → IsBatchMoment g slots' frames t c → IsBatchMoment g slots frames s c
  moment_on s t c logs partly moment = (moment.0, partly_on (s Home).seen (t Home).seen moment.0 partly moment.1, whole_state s t g.pages moment.0 c logs moment.2)
