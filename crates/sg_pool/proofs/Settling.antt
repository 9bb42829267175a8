-- A page goes home, after a force where it isn't durable: what holds of the log, and each moment.
use Rattle.std.proofs.Common.{◌≡◌, inl, inr, ⊎_elim, ◌<◌, ℕ, List, [], ◌++◌, length, refl, sym, ◌∙◌, ap, subst, arith}
use Rattle.std.proofs.lemmas.Bool.{cases_eq}
use Rattle.sg_base.specs.declared.area.Area.{Area}
use Rattle.sg_base.specs.declared.area.Area.TheVariants.{Home}
use Rattle.sg_disk.specs.Disk.{Bytes, Image, Part, LeavesPart, View, LeavesOnly}
use Rattle.sg_disk.proofs.Parts.{settled_byte}
use Rattle.sg_disk.proofs.Moments.{weaker, joined}
use Rattle.sg_log.specs.Frames.{Numbered, HasRecords, Frames, SameElsewhere}
use Rattle.sg_log.specs.Held.{Tail, Holds, tail_of, forced, IsBeforeOrAfter}
use Rattle.sg_log.proofs.Holding.{holds_seen, tail_forced, tail_empty, forced_empty}
use Rattle.sg_gate.specs.Layout.{PAGE, HEADER, home_at}
use Rattle.sg_gate.proofs.Over.{laid_open, laid_shut, over_low}
use Rattle.sg_disk.proofs.Images.{put_outside}
use Rattle.sg_gate.specs.Batch.{laid, numbers_of, IsWhole, IsEither, SameLogs}
use Rattle.sg_base.specs.Page.{lsn_of}
use Rattle.sg_pool.specs.Units.{Geometry, page_at, Units, IsGoing}
use Rattle.sg_pool.proofs.GoingOn.{going_starts, going_same}
use Rattle.sg_pool.proofs.Forcing.{is_forced}
use Rattle.sg_pool.specs.Going.{with_home}
use Rattle.sg_pool.specs.Moments.{IsSameOrForced, AreDurable, GoesHome, IsMoment}
use Rattle.sg_pool.proofs.Homed.{homed_page, homed_other, homed_band}

-- a log whose area is in the same state
pub holds_at : (v w : View) (log : Tail) (ds ps : List Numbered) → w.now log.area ≡ v.now log.area → Holds v log ds ps → Holds w log ds ps
holds_at v w log ds ps same h = record {
  frames = h.frames;
  stand = subst (λ (p : Part). Frames p.seen 0 h.frames) (sym same) h.stand;
  all = h.all;
  settled = subst (λ (p : Part). p.pending ≡ []) (sym same) h.settled;
  at_gate = h.at_gate;
  body = h.body;
  waiting = h.waiting;
  fields = h.fields;
  numbers = h.numbers;
  within = h.within;
}

pub along : (w z : View) (log log' : Tail) (ds ps : List Numbered) → (log.area ≡ Home → ⊥) → SameLogs w.now z.now → IsSameOrForced w log log' ds ps → IsSameOrForced z log log' ds ps
along w z log log' ds ps apart same is = ⊎_elim
    (λ kept. inl (kept.0, holds_at w z log ds ps (same log.area apart) kept.1))
    (λ gone. let area = (is_forced log).area in inr (gone.0, holds_at w z (forced log) (ds ++ ps) [] (same (forced log).area (λ home. apart (sym area ∙ home))) gone.1))
    is

-- what a crash leaves of the log's area alone
pub part_image : (v : View) (log : Tail) (ds ps : List Numbered) (x : Bytes) → Holds v log ds ps → LeavesPart (v.now log.area) x → HasRecords x log.base log.gate ds
part_image v log ds ps x holds leaves =
    let byte = settled_byte (v.now log.area) x holds.settled leaves in
    let same : x ≡ (v.now log.area).seen = λ j i. byte i j in
    subst (λ (f : Bytes). HasRecords f log.base log.gate ds) (sym same) (holds_seen holds)

pub gate_forced : (log : Tail) → (forced log).gate ≡ tail_of log
gate_forced log = sym (tail_empty (forced log) (forced_empty log)) ∙ tail_forced log

-- the records that are durable once it is made so
pub record Stands (w : View) (log : Tail) (ds ps : List Numbered) (d : ℕ) : Type 0 where
  pub records : List Numbered
  pub which : AreDurable log ds ps d records
  pub image : (x : Bytes) → LeavesPart (w.now log.area) x → HasRecords x log.base d records

pub stands : (w : View) (log log' : Tail) (ds ps : List Numbered) → IsSameOrForced w log log' ds ps → Stands w log ds ps log'.gate
stands w log log' ds ps is = ⊎_elim
    (λ kept.
    let gate : log'.gate ≡ log.gate = ap (λ (t : Tail). t.gate) kept.0 in
    record { records = ds; which = inl (gate, refl); image = λ x leaves. subst (λ (d : ℕ). HasRecords x log.base d ds) (sym gate) (part_image w log ds ps x kept.1 leaves) })
    (λ gone.
    let same = is_forced log in
    let gate : log'.gate ≡ (forced log).gate = ap (λ (t : Tail). t.gate) gone.0 in
    record {
      records = ds ++ ps;
      which = inr (gate ∙ gate_forced log, refl);
      image = λ x leaves.
          let there = part_image w (forced log) (ds ++ ps) [] x gone.1 (subst (λ (a : Area). LeavesPart (w.now a) x) (sym same.area) leaves) in
          subst (λ (d : ℕ). HasRecords x log.base d (ds ++ ps)) (sym gate) (subst (λ (b : ℕ). HasRecords x b (forced log).gate (ds ++ ps)) same.base there);
    })
    is

-- laid over or not, the bytes before the header are the same
pub laid_low : (f : Bytes) (i : ℕ) → i < HEADER → laid f i ≡ f i
laid_low f i low = ⊎_elim (λ is. laid_open f i is ∙ over_low (numbers_of f) 0 f f i (omega arith)) (λ not. laid_shut f i not) (cases_eq (f HEADER) 1)

-- ONE PAGE GOES HOME
module _ (g : Geometry) (v w : View) (log : Tail) (ds ps : List Numbered) (last : ℕ → ℕ) (m : Units) (d : ℕ) (apart : log.area ≡ Home → ⊥) (else_where : SameElsewhere log.area v.now w.now) (log_stands : Stands w log ds ps d) where
  home_same : w.now Home ≡ v.now Home
  home_same = else_where Home (λ is. apart (sym is))

  pub whole_goes : (store : Bytes) (c : Image) → IsGoing g d last (v.now Home).seen m store → ((i : ℕ) → i < HEADER → store i ≡ (v.now Home).seen i) → IsWhole w.now g.pages store c → GoesHome g v log ds ps last m c
  whole_goes store c going slots whole = record {
    durable = d;
    records = log_stands.records;
    which = log_stands.which;
    held = log_stands.image (c log.area) (whole.others log.area apart);
    header = whole.header;
    going = going_same g d last (v.now Home).seen m store (laid (c Home)) (λ i high. whole.home i (inr high)) going;
    superblock = λ i low. sym (laid_low (c Home) i low) ∙ (whole.home i (inl low) ∙ slots i low);
    others = λ b not_home not_log. subst (λ (p : Part). LeavesPart p (c b)) (else_where b not_log) (whole.others b not_home);
  }

  module _ (n : ℕ) (page : List ℕ) (lt : n < g.pages) (long : length page ≡ PAGE) (is : m.page n ≡ page) (below : lsn_of page < d) where
    seen : Bytes
    seen = (v.now Home).seen

    homed_goes : IsGoing g d last (v.now Home).seen m (with_home n page (v.now Home).seen)
    homed_goes = record {
      pages = λ k small. ⊎_elim
          (λ same. inr (subst (λ (j : ℕ). (page_at (with_home n page (v.now Home).seen) (home_at j) ≡ m.page j) × (lsn_of (m.page j) < d)) (sym same)
          (homed_page n page long (v.now Home).seen ∙ sym is, subst (λ (p : List ℕ). lsn_of p < d) (sym is) below)))
          (λ differ. inl (homed_other n page long (v.now Home).seen k differ))
          (cases_eq k n);
      bytes = λ b i is_band is_byte. inl (homed_band n page long (v.now Home).seen g lt b i);
    }

    either_goes : (c : Image) → IsEither w.now g.pages (w.now Home).seen (with_home n page (w.now Home).seen) c → IsMoment g v log ds ps last m c
    either_goes c either =
        let same : (w.now Home).seen ≡ (v.now Home).seen = ap (λ (p : Part). p.seen) home_same in
        let there = subst (λ (f : Bytes). IsEither w.now g.pages f (with_home n page f) c) same either in
        inr (⊎_elim (λ before. whole_goes (v.now Home).seen c (going_starts g d last (v.now Home).seen m) (λ i low. refl) before) (λ after. whole_goes (with_home n page (v.now Home).seen) c homed_goes (λ i low. put_outside (home_at n) page (v.now Home).seen i (λ high within. absurd (omega arith))) after) there)

    pub page_goes : (z : View) → LeavesOnly v w (IsBeforeOrAfter v.now log ds ps) → LeavesOnly w z (IsEither w.now g.pages (w.now Home).seen (with_home n page (w.now Home).seen)) → LeavesOnly v z (IsMoment g v log ds ps last m)
    page_goes z force run = joined (weaker force (λ c before. inl before)) (weaker run either_goes)
