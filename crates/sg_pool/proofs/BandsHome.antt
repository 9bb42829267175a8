-- The units when bands of windows go home.
use Rattle.std.proofs.Common.{◌≡◌, ◌⊎◌, inl, inr, ⊎_elim, ◌<◌, ◌≤◌, ◌+◌, ℕ, true, false, Option, Some, None, Result, Ok, Err, OnOk, List, length, get_or, refl, sym, ◌∙◌, ap, subst, arith}
use Rattle.std.proofs.lemmas.Bool.{cases_lt}
use Rattle.sg_base.specs.declared.area.Area.{Area}
use Rattle.sg_base.specs.declared.area.Area.TheVariants.{Home}
use Rattle.sg_base.specs.declared.page.TheConstants.{BAND_SIZE}
use Rattle.sg_disk.specs.Disk.{Bytes, Image, Part, View, LeavesPart}
use Rattle.sg_log.specs.Frames.{Numbered}
use Rattle.sg_log.specs.Held.{Tail}
use Rattle.sg_frames.specs.Held.{Held}
use Rattle.sg_gate.specs.Layout.{PAGE, HEADER, home_at}
use Rattle.sg_gate.specs.Batch.{laid, IsReady}
use Rattle.sg_gate.proofs.Over.{laid_shut}
use Rattle.sg_window.specs.Runs.{IsTorn}
use Rattle.sg_pool.specs.declared.slot.Slot.{Slot}
use Rattle.sg_pool.specs.declared.windows.Windows.{Windows}
use Rattle.sg_pool.specs.declared.windows.Marks.{Marks}
use Rattle.sg_pool.specs.Held.{frame_of, page_in, since_of, page_of}
use Rattle.sg_pool.specs.Windows.{marked_in, last_in}
use Rattle.sg_pool.specs.Units.{Geometry, page_at, band_byte, Units, IsBacked, IsCleaned, IsGoing}
use Rattle.sg_pool.specs.Frames.{units_of, byte_in, lasts_of, AreBelow, AreLastsKept, HaveGone, AreChangesKept}
use Rattle.sg_pool.specs.Moments.{GoesHome}
use Rattle.sg_pool.specs.Bands.{IsDirty, AreBandsHome, AreCleared}
use Rattle.sg_pool.proofs.Banding.{dirty_is}
use Rattle.sg_pool.proofs.Changes.{bool_cases}
use Rattle.sg_pool.proofs.Clearing.{frames_same}
use Rattle.sg_pool.proofs.GoingOn.{going_torn}
use Rattle.sg_pool.proofs.Homes.{page_same}
use Rattle.sg_pool.proofs.Settling.{Stands}
use Rattle.sg_pool.proofs.Slots.{some_same, none_is_some, none_or_some, frame_some, frame_is}

in_or_out : (from to w : ℕ) → ((from ≤ w) × (w < to)) ⊎ ((w < from) ⊎ (to ≤ w))
in_or_out from to w = ⊎_elim (λ low. inr (inl low)) (λ high. ⊎_elim (λ within. inl (high, within)) (λ far. inr (inr far)) (cases_lt w to)) (cases_lt w from)

not_both : false ≡ true → ⊥
not_both e = cc

module _ (g : Geometry) (wins : Windows) (from to : ℕ) where
  -- a byte that no change wrote of a band in these windows isn't dirty
  clean_byte : (b i : ℕ) → i < BAND_SIZE → ((w : ℕ) → from ≤ w → w < to → frame_of wins.slots.items b ≡ Some w → marked_in wins.marks.items (Some w) i ≡ true → ⊥) → IsDirty g wins from to (band_byte g b i) → ⊥
  clean_byte b i small none d = let is = dirty_is g wins from to b i small d in none d.window d.low d.high is.0 is.1

  -- nor is a byte of a page's home
  page_byte : (n j : ℕ) → n < g.pages → j < PAGE → IsDirty g wins from to (home_at n + j) → ⊥
  page_byte n j lt small d = let e = d.is in absurd (omega (arith, e, lt, small))

  module _ (slots : List Slot) (frames : Held) (wins' : Windows) (clear : AreCleared wins wins' from to) (p q : Part) (home : AreBandsHome g wins frames.windows from to p q) where
    same_window : (b : ℕ) → frame_of wins'.slots.items b ≡ frame_of wins.slots.items b
    same_window = frames_same wins.slots.items wins'.slots.items clear.count clear.numbers wins.windows.apart

    page_home : (n : ℕ) → n < g.pages → page_at q.seen (home_at n) ≡ page_at p.seen (home_at n)
    page_home n lt = page_same q.seen p.seen (home_at n) (home_at n) (λ j small. home.rest (home_at n + j) (page_byte n j lt small))

    byte_at : (o : Option ℕ) (b i : ℕ) → i < BAND_SIZE → frame_of wins.slots.items b ≡ o → byte_in frames.windows o i (q.seen (band_byte g b i)) ≡ byte_in frames.windows o i (p.seen (band_byte g b i))
    byte_at None b i small e = home.rest (band_byte g b i) (clean_byte b i small (λ w low high is marked. none_is_some w (sym e ∙ is)))
    byte_at (Some w) b i small e = refl

    since_at : (o : Option ℕ) → (since_of wins'.slots.items o ≡ since_of wins.slots.items o) ⊎ (since_of wins'.slots.items o ≡ None)
    since_at None = inl refl
    since_at (Some w) = ⊎_elim (λ within. inr (clear.cleared w within.0 within.1)) (λ out. inl (clear.others w out)) (in_or_out from to w)

    marks_same : (w i : ℕ) → (w < from) ⊎ (to ≤ w) → marked_in wins'.marks.items (Some w) i ≡ marked_in wins.marks.items (Some w) i
    marks_same w i out = ap (λ (x : Marks). get_or x.dirty i false) (clear.other_marks w out)

    marked_at : (o : Option ℕ) (i : ℕ) → (marked_in wins'.marks.items o i ≡ marked_in wins.marks.items o i) ⊎ (marked_in wins'.marks.items o i ≡ false)
    marked_at None i = inl refl
    marked_at (Some w) i = ⊎_elim (λ within. inr (clear.unmarked w i within.0 within.1)) (λ out. inl (marks_same w i out)) (in_or_out from to w)

    pub bands_cleaned : IsCleaned g (units_of g p.seen slots wins frames) (units_of g q.seen slots wins' frames)
    bands_cleaned = record {
      page = λ n lt. ap (page_of slots frames.pages n) (page_home n lt);
      byte = λ b i is_band is_byte. ap (λ (o : Option ℕ). byte_in frames.windows o i (q.seen (band_byte g b i))) (same_window b) ∙ byte_at (frame_of wins.slots.items b) b i is_byte refl;
      page_since = λ n lt. inl refl;
      band_since = λ b. subst (λ (o : Option ℕ). (since_of wins'.slots.items o ≡ since_of wins.slots.items (frame_of wins.slots.items b)) ⊎ (since_of wins'.slots.items o ≡ None)) (sym (same_window b)) (since_at (frame_of wins.slots.items b));
      marked = λ b i. subst (λ (o : Option ℕ). (marked_in wins'.marks.items o i ≡ marked_in wins.marks.items (frame_of wins.slots.items b) i) ⊎ (marked_in wins'.marks.items o i ≡ false)) (sym (same_window b)) (marked_at (frame_of wins.slots.items b) i);
    }

    -- a byte that isn't marked any more is at home
    byte_backed : (o : Option ℕ) (b i : ℕ) → i < BAND_SIZE → frame_of wins.slots.items b ≡ o → (marked_in wins.marks.items o i ≡ false → p.seen (band_byte g b i) ≡ byte_in frames.windows o i (p.seen (band_byte g b i)))
        → marked_in wins'.marks.items o i ≡ false → q.seen (band_byte g b i) ≡ byte_in frames.windows o i (q.seen (band_byte g b i))
    byte_backed None b i small e was none = refl
    byte_backed (Some w) b i small e was none = ⊎_elim
        (λ marked. ⊎_elim
        (λ within. home.there w b i within.0 within.1 (frame_some b wins.slots.items w e).1 small marked)
        (λ out. absurd (not_both (sym none ∙ (marks_same w i out ∙ marked))))
        (in_or_out from to w))
        (λ bare. home.rest (band_byte g b i) (clean_byte b i small (λ v low high is marked. let same : v ≡ w = some_same v w (sym is ∙ e) in not_both (sym bare ∙ (ap (λ (x : ℕ). marked_in wins.marks.items (Some x) i) (sym same) ∙ marked)))) ∙ was bare)
        (bool_cases (marked_in wins.marks.items (Some w) i))

    clean_at : (o : Option ℕ) (i : ℕ) → (since_of wins.slots.items o ≡ None → marked_in wins.marks.items o i ≡ false) → since_of wins'.slots.items o ≡ None → marked_in wins'.marks.items o i ≡ false
    clean_at None i was none = refl
    clean_at (Some w) i was none = ⊎_elim (λ within. clear.unmarked w i within.0 within.1) (λ out. marks_same w i out ∙ was (sym (clear.others w out) ∙ none)) (in_or_out from to w)

    pub bands_backed : IsBacked g p (units_of g p.seen slots wins frames) → IsBacked g q (units_of g q.seen slots wins' frames)
    bands_backed backed = record {
      ready = home.ready;
      pages = λ n lt none. page_home n lt ∙ (backed.pages n lt none ∙ sym (ap (page_of slots frames.pages n) (page_home n lt)));
      bytes = λ b i lt small unmarked.
          byte_backed (frame_of wins.slots.items b) b i small refl (backed.bytes b i lt small) (ap (λ (o : Option ℕ). marked_in wins'.marks.items o i) (sym (same_window b)) ∙ unmarked)
          ∙ sym (ap (λ (o : Option ℕ). byte_in frames.windows o i (q.seen (band_byte g b i))) (same_window b));
      clean = λ b i none.
          ap (λ (o : Option ℕ). marked_in wins'.marks.items o i) (same_window b)
          ∙ clean_at (frame_of wins.slots.items b) i (backed.clean b i) (ap (since_of wins'.slots.items) (sym (same_window b)) ∙ none);
    }

  -- where no byte of a band in these windows is dirty, nothing had to be written
  pub none_dirty : (windows : List (List ℕ)) (p : Part) → IsReady p → ((w b k : ℕ) → from ≤ w → w < to → page_in wins.slots.items w ≡ Some b → marked_in wins.marks.items (Some w) k ≡ true → ⊥) → AreBandsHome g wins windows from to p p
  none_dirty windows p ready none = record {
    there = λ w b k low high held small marked. absurd (none w b k low high held marked);
    rest = λ i bare. refl;
    ready = ready;
  }

  -- A MOMENT OF BANDS THAT GO HOME, from a state in which the changes of each are durable
  module _ (slots : List Slot) (frames : Held) (v w : View) (log : Tail) (ds ps : List Numbered) (d : ℕ) (seen : Bytes) (apart : log.area ≡ Home → ⊥) (logs : (b : Area) → (b ≡ Home → ⊥) → (b ≡ log.area → ⊥) → w.now b ≡ v.now b)
      (log_stands : Stands w log ds ps d) (ready : IsReady (w.now Home)) (below : (x b k : ℕ) → from ≤ x → x < to → page_in wins.slots.items x ≡ Some b → marked_in wins.marks.items (Some x) k ≡ true → last_in wins.marks.items (Some x) < d) where
    abbrev m : Units
    m = units_of g seen slots wins frames

    module _ (c : Image) (torn : IsTorn w.now (IsDirty g wins from to) c) where
      shut : c Home HEADER ≡ 1 → ⊥
      shut gate = ready.closed (sym (torn.home HEADER (λ d. let e = d.is in absurd (omega (arith, e))) (ready.settled HEADER (inl (omega arith)))) ∙ gate)

      same : (i : ℕ) → 143360 ≤ i → (IsDirty g wins from to i → ⊥) → laid (c Home) i ≡ (w.now Home).seen i
      same i high bare = laid_shut (c Home) i shut ∙ torn.home i bare (ready.settled i (inr high))

      -- of the window that holds the band, or none
      byte_goes : (o : Option ℕ) (b i : ℕ) → i < BAND_SIZE → frame_of wins.slots.items b ≡ o → (laid (c Home) (band_byte g b i) ≡ (w.now Home).seen (band_byte g b i)) ⊎ ((marked_in wins.marks.items o i ≡ true) × (last_in wins.marks.items o < d))
      byte_goes None b i small e = inl (same (band_byte g b i) (omega arith) (clean_byte b i small (λ x low high is marked. none_is_some x (sym e ∙ is))))
      byte_goes (Some x) b i small e =
          let bare : ((x < from) ⊎ (to ≤ x)) ⊎ (marked_in wins.marks.items (Some x) i ≡ false) → laid (c Home) (band_byte g b i) ≡ (w.now Home).seen (band_byte g b i) = λ not.
          same (band_byte g b i) (omega arith) (clean_byte b i small (λ y low high is marked.
          let same : y ≡ x = some_same y x (sym is ∙ e) in
          ⊎_elim (λ out. ⊎_elim (λ a. absurd (omega (arith, same, low, a))) (λ a. absurd (omega (arith, same, high, a))) out) (λ off. not_both (sym off ∙ (ap (λ (z : ℕ). marked_in wins.marks.items (Some z) i) (sym same) ∙ marked))) not)) in
          ⊎_elim
          (λ within. ⊎_elim (λ marked. inr (marked, below x b i within.0 within.1 (frame_some b wins.slots.items x e).1 marked)) (λ off. inl (bare (inr off))) (bool_cases (marked_in wins.marks.items (Some x) i)))
          (λ out. inl (bare (inl out)))
          (in_or_out from to x)

      pub torn_goes : ((i : ℕ) → i < HEADER → (w.now Home).seen i ≡ (v.now Home).seen i) → IsGoing g d (lasts_of wins) (v.now Home).seen m (w.now Home).seen → GoesHome g v log ds ps (lasts_of wins) m c
      torn_goes slots going = record {
        durable = d;
        records = log_stands.records;
        which = log_stands.which;
        held = log_stands.image (c log.area) (torn.others log.area apart);
        header = λ gate. absurd (shut gate);
        going = going_torn g d (lasts_of wins) (v.now Home).seen m (w.now Home).seen (laid (c Home)) (λ n lt k small. same (home_at n + k) (omega arith) (page_byte n k lt small)) (λ b i is_band small. byte_goes (frame_of wins.slots.items b) b i small refl) going;
        superblock = λ i low. torn.home i (λ d. let e = d.is in absurd (omega (arith, e, low))) (ready.settled i (inl (omega (arith, low)))) ∙ slots i low;
        others = λ b not_home not_log. subst (λ (p : Part). LeavesPart p (c b)) (logs b not_home not_log) (torn.others b not_home);
      }

-- the last change of a window's band is a record below the tail
module _ (wins : Windows) (tail : ℕ) (logged : (b o : ℕ) → since_of wins.slots.items (frame_of wins.slots.items b) ≡ Some o → last_in wins.marks.items (frame_of wins.slots.items b) < tail) where
  pub last_below : (x o : ℕ) → x < length wins.slots.items → since_of wins.slots.items (Some x) ≡ Some o → last_in wins.marks.items (Some x) < tail
  last_below x o lt since = ⊎_elim
      (λ empty. absurd (none_is_some o (sym (wins.windows.owned x empty) ∙ since)))
      (λ held. let here = frame_is wins.slots.items x held.0 wins.windows.apart lt held.1 in
      subst (λ (y : Option ℕ). last_in wins.marks.items y < tail) here (logged held.0 o (ap (since_of wins.slots.items) here ∙ since)))
      (none_or_some (page_in wins.slots.items x))

  -- and so is that of a band with a marked byte, where a band without a change has none
  pub marked_below : ((b i : ℕ) → since_of wins.slots.items (frame_of wins.slots.items b) ≡ None → marked_in wins.marks.items (frame_of wins.slots.items b) i ≡ false) → (x b k : ℕ) → x < length wins.slots.items → page_in wins.slots.items x ≡ Some b
      → marked_in wins.marks.items (Some x) k ≡ true → last_in wins.marks.items (Some x) < tail
  marked_below clean x b k lt held marked =
      let here = frame_is wins.slots.items x b wins.windows.apart lt held in
      ⊎_elim
      (λ none. absurd (not_both (sym (ap (λ (y : Option ℕ). marked_in wins.marks.items y k) (sym here) ∙ clean b k (ap (since_of wins.slots.items) here ∙ none)) ∙ marked)))
      (λ some. last_below x some.0 lt some.1)
      (none_or_some (since_of wins.slots.items (Some x)))

-- a window without a change has no marked byte
pub no_change : (g : Geometry) (slots : List Slot) (wins : Windows) (frames : Held) (p : Part) (w : ℕ) → w < length wins.slots.items → since_of wins.slots.items (Some w) ≡ None → IsBacked g p (units_of g p.seen slots wins frames)
    → (x b k : ℕ) → w ≤ x → x < w + 1 → page_in wins.slots.items x ≡ Some b → marked_in wins.marks.items (Some x) k ≡ true → ⊥
no_change g slots wins frames p w lt none backed x b k low high held marked =
    let same : x ≡ w = omega (arith, low, high) in
    let here : frame_of wins.slots.items b ≡ Some w = frame_is wins.slots.items w b wins.windows.apart lt (ap (page_in wins.slots.items) (sym same) ∙ held) in
    not_both (sym (ap (λ (y : Option ℕ). marked_in wins.marks.items y k) (sym here) ∙ backed.clean b k (ap (since_of wins.slots.items) here ∙ none)) ∙ (ap (λ (y : ℕ). marked_in wins.marks.items (Some y) k) (sym same) ∙ marked))

-- windows that are clean leave each band's last change as it was
module _ (wins wins' : Windows) (from to : ℕ) (clear : AreCleared wins wins' from to) where
  in_window : (b o : ℕ) (x : Option ℕ) → frame_of wins.slots.items b ≡ x → since_of wins'.slots.items x ≡ Some o
      → (since_of wins.slots.items (frame_of wins.slots.items b) ≡ Some o) × (last_in wins'.marks.items x ≡ last_in wins.marks.items (frame_of wins.slots.items b))
  in_window b o None e since = absurd (none_is_some o since)
  in_window b o (Some w) e since = ⊎_elim
      (λ within. absurd (none_is_some o (sym (clear.cleared w within.0 within.1) ∙ since)))
      (λ out. (ap (since_of wins.slots.items) e ∙ (sym (clear.others w out) ∙ since), ap (λ (m : Marks). m.last) (clear.other_marks w out) ∙ sym (ap (last_in wins.marks.items) e)))
      (in_or_out from to w)

  pub cleared_lasts : AreLastsKept wins wins'
  cleared_lasts b o since =
      let same = frames_same wins.slots.items wins'.slots.items clear.count clear.numbers wins.windows.apart b in
      let it = in_window b o (frame_of wins.slots.items b) refl (ap (since_of wins'.slots.items) (sym same) ∙ since) in
      (it.0, ap (last_in wins'.marks.items) same ∙ it.1)

  -- and what went home was durable
  gone_at : (gate b o : ℕ) (x : Option ℕ) → ((v k : ℕ) → from ≤ v → v < to → since_of wins.slots.items (Some v) ≡ Some k → last_in wins.marks.items (Some v) < gate) → frame_of wins.slots.items b ≡ x → since_of wins.slots.items x ≡ Some o → since_of wins'.slots.items x ≡ None → last_in wins.marks.items x < gate
  gone_at gate b o None durable e had none = absurd (none_is_some o had)
  gone_at gate b o (Some w) durable e had none = ⊎_elim
      (λ within. durable w o within.0 within.1 had)
      (λ out. absurd (none_is_some o (sym none ∙ (clear.others w out ∙ had))))
      (in_or_out from to w)

  pub cleared_gone : (gate : ℕ) → ((v k : ℕ) → from ≤ v → v < to → since_of wins.slots.items (Some v) ≡ Some k → last_in wins.marks.items (Some v) < gate) → HaveGone gate wins wins'
  cleared_gone gate durable b o had none =
      let same = frames_same wins.slots.items wins'.slots.items clear.count clear.numbers wins.windows.apart b in
      gone_at gate b o (frame_of wins.slots.items b) durable refl had (ap (since_of wins'.slots.items) (sym same) ∙ none)

-- windows that lost no change lost none
pub gone_kept : (gate : ℕ) (one two three : Windows) → HaveGone gate one two → AreChangesKept two three → HaveGone gate one three
gone_kept gate one two three gone kept b o had none = ⊎_elim
    (λ clean. gone b o had clean)
    (λ some. absurd (none_is_some some.0 (sym none ∙ kept b some.0 some.1)))
    (none_or_some (since_of two.slots.items (frame_of two.slots.items b)))

pub on_ok_all : {T E : Type 0} (r : Result T E) (P : Type 0) → P → OnOk r P
on_ok_all (Ok x) P p = p
on_ok_all (Err e) P p = tt

pub lasts_same : (wins wins' : Windows) → wins' ≡ wins → AreLastsKept wins wins'
lasts_same wins wins' same = subst (AreLastsKept wins) (sym same) (λ b o since. (since, refl))

pub lasts_twice : (one two three : Windows) → AreLastsKept one two → AreLastsKept two three → AreLastsKept one three
lasts_twice one two three first second b o since = let late = second b o since in let early = first b o late.0 in (early.0, late.1 ∙ early.1)

-- where they are kept, they stay below a number
pub lasts_below : (wins wins' : Windows) (tail : ℕ) → AreLastsKept wins wins' → AreBelow tail wins → AreBelow tail wins'
lasts_below wins wins' tail kept below b o since = let it = kept b o since in subst (λ (n : ℕ). n < tail) (sym it.1) (below b o it.0)
