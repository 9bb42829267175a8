-- Each image of each moment stands.
use Rattle.std.proofs.Common.{◌≡◌, ◌⊎◌, inl, inr, ⊎_elim, ◌<◌, ◌≤◌, ◌+◌, ℕ, List, [], ◌++◌, Ok, refl, sym, ◌∙◌, ap, subst, arith}
use Rattle.sg_base.specs.declared.area.Area.{Area}
use Rattle.sg_base.specs.declared.area.Area.TheVariants.{Home}
use Rattle.sg_disk.specs.Disk.{Bytes, Image, State, LeavesPart, Leaves, View, LeavesOnly}
use Rattle.sg_disk.proofs.Moments.{weaker}
use Rattle.sg_log.specs.Frames.{Numbered, HasRecords}
use Rattle.sg_log.specs.Held.{Tail, Holds, tail_of, IsBeforeOrAfter}
use Rattle.sg_log.proofs.Holding.{tail_at_gate, image_now}
use Rattle.sg_gate.specs.Layout.{HEADER, PLACES, HOMES, home_at}
use Rattle.sg_gate.specs.Batch.{laid, IsBatch, numbers_of, IsReady}
use Rattle.sg_gate.specs.Superblock.{superblock}
use Rattle.sg_gate.proofs.Over.{laid_shut}
use Rattle.sg_gate.proofs.Slots.{superblock_agree}
use Rattle.sg_pool.specs.Units.{Geometry, EachPage, Units, IsGoing, band_byte}
use Rattle.sg_pool.specs.Moments.{GoesHome, IsMoment}
use Rattle.sg_pool.proofs.Homes.{page_same}
use Rattle.sg_engine.specs.Numbers.{AllFrom}
use Rattle.sg_engine.specs.History.{entry_number, IsHistory, IsNumbered}
use Rattle.sg_engine.specs.Kept.{home_in, IsKept}
use Rattle.sg_engine.specs.Engine.{Origin, entries, geometry, log_area, IsLogOf, IsStanding, HasSlots}
use Rattle.sg_engine.proofs.Logs.{entries_append, waiting_from, home_apart}
use Rattle.sg_engine.proofs.Steps.{append_none}
use Rattle.sg_engine.proofs.Main as main

-- the same bytes in the homes go the same way
pub going_same : (g : Geometry) (d : ℕ) (last : ℕ → ℕ) (seen : Bytes) (m : Units) (f f' : Bytes) → ((i : ℕ) → HOMES ≤ i → f' i ≡ f i) → IsGoing g d last seen m f → IsGoing g d last seen m f'
going_same g d last seen m f f' same going = record {
  pages = λ n lt.
      let here = page_same f' f (home_at n) (home_at n) (λ k small. same (home_at n + k) (omega arith)) in
      ⊎_elim (λ as_was. inl (here ∙ as_was)) (λ gone. inr (here ∙ gone.0, gone.1)) (going.pages n lt);
  bytes = λ b i is_band is_byte. ⊎_elim (λ as_was. inl (same (band_byte g b i) (omega arith) ∙ as_was)) (λ marked. inr marked) (going.bytes b i is_band is_byte);
}

pub going_starts : (g : Geometry) (d : ℕ) (last : ℕ → ℕ) (seen : Bytes) (m : Units) → IsGoing g d last seen m seen
going_starts g d last seen m = record { pages = λ n lt. inl refl; bytes = λ b i is_band is_byte. inl refl }

-- what a crash leaves of a home area that is ready: all but the places is as it reads
pub ready_same : (s : State) (c : Image) → IsReady (s Home) → LeavesPart (s Home) (c Home) → (i : ℕ) → (i < PLACES) ⊎ (HOMES ≤ i) → c Home i ≡ (s Home).seen i
ready_same s c ready leaves i out = leaves.rest i (ready.settled i out)

module _ (o : Origin) where
  -- AN IMAGE STANDS where its home area keeps the invariant, and its log has a front of the records
  pub stands_kept : (ds all records since more : List Numbered) (r tail d : ℕ) (ep eb : ℕ → ℕ) (c : Image) → IsHistory (geometry o.super) o.first (entries o all) → EachPage (geometry o.super) (λ n. IsNumbered d (o.first.page n))
      → superblock (c Home) ≡ Ok o.super → HasRecords (c (log_area o.super)) o.super.base tail records → records ≡ ds ++ since → all ≡ records ++ more → AllFrom entry_number d (entries o more) → d ≤ tail
      → (c Home HEADER ≡ 1 → IsBatch o.super.pages (numbers_of (c Home))) → IsKept (geometry o.super) o.first (entries o all) d ep eb (home_in (geometry o.super) (laid (c Home)))
      → EachPage (geometry o.super) (λ n. r ≤ ep n) → ((b : ℕ) → b < o.super.bands → r ≤ eb b) → IsStanding o ds all r c
  stands_kept ds all records since more r tail d ep eb c is start super held later front high within header kept early_pages early_bands =
      let split : entries o all ≡ entries o records ++ entries o more = ap (entries o) front ∙ entries_append o records more in
      record {
        super = super;
        records = records;
        tail = tail;
        held = held;
        since = since;
        later = later;
        more = more;
        front = front;
        header = header;
        sound = main.sound (geometry o.super) o.first (home_in (geometry o.super) (laid (c Home))) (entries o all) (entries o records) (entries o more) d r tail ep eb is kept split high early_pages early_bands within start;
        repeats = main.comes (geometry o.super) o.first (home_in (geometry o.super) (laid (c Home))) (entries o all) (entries o records) (entries o more) d r tail ep eb is kept split high early_pages early_bands within start;
        history = main.again (geometry o.super) o.first (home_in (geometry o.super) (laid (c Home))) (entries o all) (entries o records) (entries o more) d r tail ep eb is kept split high early_pages early_bands within start;
      }

  module _ (v : View) (log : Tail) (ds ps : List Numbered) (last : ℕ → ℕ) (m : Units) (r : ℕ) (ep eb : ℕ → ℕ)
      (super : superblock (v.now Home).seen ≡ Ok o.super) (place : IsLogOf o.super log) (held : Holds v log ds ps) (ready : IsReady (v.now Home)) (is : IsHistory (geometry o.super) o.first (entries o (ds ++ ps)))
      (start : EachPage (geometry o.super) (λ n. IsNumbered log.gate (o.first.page n)))
      (kept : (d : ℕ) (now : Bytes) → log.gate ≤ d → IsGoing (geometry o.super) d last (v.now Home).seen m now → IsKept (geometry o.super) o.first (entries o (ds ++ ps)) d ep eb (home_in (geometry o.super) now))
      (early_pages : EachPage (geometry o.super) (λ n. r ≤ ep n)) (early_bands : (b : ℕ) → b < o.super.bands → r ≤ eb b) where
    there : (c : Image) (gate : ℕ) (records : List Numbered) → HasRecords (c log.area) log.base gate records → HasRecords (c (log_area o.super)) o.super.base gate records
    there c gate records has = subst (λ (b : ℕ). HasRecords (c (log_area o.super)) b gate records) place.base (subst (λ (a : Area). HasRecords (c a) log.base gate records) place.area has)

    more_started : (d : ℕ) → log.gate ≤ d → EachPage (geometry o.super) (λ n. IsNumbered d (o.first.page n))
    more_started d le n lt = ⊎_elim (λ none. inl none) (λ low. inr (omega arith)) (start n lt)

    -- a home area as it reads, while the log is forced
    before_or_after : (c : Image) → IsBeforeOrAfter v.now log ds ps c → IsStanding o ds (ds ++ ps) r c
    before_or_after c moment =
        let same = ready_same v.now c ready (moment.others Home (λ at. apart at)) in
        let shut : c Home HEADER ≡ 1 → ⊥ = λ is_open. ready.closed (sym (same HEADER (inl (omega arith))) ∙ is_open) in
        let home = kept log.gate (laid (c Home)) (omega arith) (going_same (geometry o.super) log.gate last (v.now Home).seen m (v.now Home).seen (laid (c Home)) (λ i high. laid_shut (c Home) i shut ∙ same i (inr high)) (going_starts (geometry o.super) log.gate last (v.now Home).seen m)) in
        let block = superblock_agree (v.now Home).seen (c Home) (λ i low. same i (inl (omega arith))) ∙ super in
        ⊎_elim
        (λ before. stands_kept ds (ds ++ ps) ds [] ps r log.gate log.gate ep eb c is start block (there c log.gate ds before) (sym (append_none ds)) refl (waiting_from o held) (omega arith) (λ is_open. absurd (shut is_open)) home early_pages early_bands)
        (λ after. stands_kept ds (ds ++ ps) (ds ++ ps) ps [] r (tail_of log) log.gate ep eb c is start block (there c (tail_of log) (ds ++ ps) after) refl (sym (append_none (ds ++ ps))) tt (tail_at_gate log) (λ is_open. absurd (shut is_open)) home early_pages early_bands)
        moment.held
      where
        apart : Home ≡ log.area → ⊥
        apart at = home_apart o (at ∙ place.area)

    goes_home : (c : Image) → GoesHome (geometry o.super) v log ds ps last m c → HasSlots v c → IsStanding o ds (ds ++ ps) r c
    goes_home c moment slots =
        let block = superblock_agree (v.now Home).seen (c Home) slots ∙ super in
        ⊎_elim
        (λ low.
        let le : log.gate ≤ moment.durable = let e = low.0 in omega arith in
        stands_kept ds (ds ++ ps) moment.records [] ps r moment.durable moment.durable ep eb c is (more_started moment.durable le) block (there c moment.durable moment.records moment.held) (low.1 ∙ sym (append_none ds)) (ap (λ (l : List Numbered). l ++ ps) (sym low.1))
        (subst (λ (d : ℕ). AllFrom entry_number d (entries o ps)) (sym low.0) (waiting_from o held)) (omega arith) moment.header (kept moment.durable (laid (c Home)) le moment.going) early_pages early_bands)
        (λ high.
        let le : log.gate ≤ moment.durable = let e = high.0 in let t = tail_at_gate log in omega arith in
        stands_kept ds (ds ++ ps) moment.records ps [] r moment.durable moment.durable ep eb c is (more_started moment.durable le) block (there c moment.durable moment.records moment.held) high.1 (sym high.1 ∙ sym (append_none moment.records))
        tt (omega arith) moment.header (kept moment.durable (laid (c Home)) le moment.going) early_pages early_bands)
        moment.which

    pub moment_stands : (c : Image) → IsMoment (geometry o.super) v log ds ps last m c → HasSlots v c → IsStanding o ds (ds ++ ps) r c
    moment_stands c moment slots = ⊎_elim (before_or_after c) (λ goes. goes_home c goes slots) moment

    pub rest_stands : (c : Image) → Leaves v.now c → IsStanding o ds (ds ++ ps) r c
    rest_stands c leaves = before_or_after c (image_now held c leaves)

    pub force_stands : (w : View) → LeavesOnly v w (IsBeforeOrAfter v.now log ds ps) → LeavesOnly v w (IsStanding o ds (ds ++ ps) r)
    force_stands w run = weaker run before_or_after
