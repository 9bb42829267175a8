-- The moments of runs of redo, one run after another.
use Rattle.std.proofs.Common.{◌≡◌, ◌⊎◌, inl, inr, ⊎_elim, ◌<◌, ◌≤◌, ◌+◌, ℕ, true, false, List, [], ◌∷◌, ◌++◌, length, refl, sym, ◌∙◌, ap, subst, arith, append-nil}
use Rattle.std.proofs.lemmas.Bool.Decides.{nat_tests}
use Rattle.sg_base.specs.Page.{lsn_of}
use Rattle.sg_base.specs.declared.area.Area.{Area}
use Rattle.sg_base.specs.declared.area.Area.TheVariants.{Home}
use Rattle.sg_disk.specs.Disk.{Bytes, Image, LeavesPart, Leaves, LeavesOnly, View, at_area}
use Rattle.sg_disk.proofs.Images.{at_area_all, at_area_same}
use Rattle.sg_disk.proofs.Moments.{seen_image, weaker, joined}
use Rattle.sg_gate.specs.Layout.{HEADER, HOMES, home_at}
use Rattle.sg_gate.specs.Batch.{laid, IsReady}
use Rattle.sg_gate.proofs.Over.{laid_shut}
use Rattle.sg_log.specs.Frames.{Numbered, HasRecords, numbered_from}
use Rattle.sg_log.specs.Held.{Tail, Holds, tail_of, forced, IsBeforeOrAfter}
use Rattle.sg_log.proofs.Holding.{tail_empty, forced_empty}
use Rattle.sg_record.specs.Records.{Record}
use Rattle.sg_log.specs.Texts.{spelled_all}
use Rattle.sg_redo.specs.History.{OnPage, repeated, is_covered}
use Rattle.sg_redo.specs.Window.{OnWindow, on_byte}
use Rattle.sg_pool.specs.Units.{Geometry, Units, page_at, band_byte, IsGoing}
use Rattle.sg_pool.specs.Moments.{AreDurable, GoesHome, IsMoment}
use Rattle.sg_pool.specs.Redone.{PartRecords, IsRedone, AreWhole, AreHomesKnown, IsVersion, AreChangesBelow, IsRedoing, IsRedoMoment}
use Rattle.sg_pool.proofs.Homes.{page_same}
use Rattle.sg_pool.proofs.Redone.{AreTogether, first_whole}

-- a force of an empty buffer leaves the log as it is
forced_none : (log : Tail) → length log.buffer ≡ 0 → forced log ≡ log
forced_none log none = grind (arith, nat_tests, none)

pub forced_twice : (log : Tail) → forced (forced log) ≡ forced log
forced_twice log = forced_none (forced log) (forced_empty log)

-- NO RECORD WAITS in a log that holds durable ones alone
none_numbered : (lsn : ℕ) (body : List Record) → numbered_from lsn body ≡ [] → body ≡ []
none_numbered lsn [] is = refl
none_numbered lsn (r ∷ rs) is = absurd cc

module _ (v : View) (log : Tail) (ds : List Numbered) (holds : Holds v log ds []) where
  buffer_empty : length log.buffer ≡ 0
  buffer_empty = ap (λ (l : List ℕ). length l) holds.waiting ∙ ap (λ (l : List Record). length (spelled_all l)) (none_numbered (log.gate + 5) holds.body holds.numbers)

  pub tail_is_gate : tail_of log ≡ log.gate
  tail_is_gate = tail_empty log buffer_empty

  pub forced_same : forced log ≡ log
  forced_same = forced_none log buffer_empty

-- A MOMENT OF A CALL OF THE POOL is one of redo, whatever the records
module _ (g : Geometry) (v : View) (log : Tail) (ds : List Numbered) (last : ℕ → ℕ) (rs : PartRecords) (m : Units) (apart : log.area ≡ Home → ⊥) (ready : IsReady (v.now Home)) (gate : tail_of log ≡ log.gate) (c : Image) where
  records_here : (d : ℕ) (records : List Numbered) → AreDurable log ds [] d records → HasRecords (c log.area) log.base d records → (d ≡ log.gate) × HasRecords (c log.area) log.base log.gate ds
  records_here d records which held = ⊎_elim
      (λ is. (is.0, subst (λ (n : ℕ). HasRecords (c log.area) log.base n ds) is.0 (subst (λ (l : List Numbered). HasRecords (c log.area) log.base d l) is.1 held)))
      (λ is. let e : d ≡ log.gate = is.0 ∙ gate in (e, subst (λ (n : ℕ). HasRecords (c log.area) log.base n ds) e (subst (λ (l : List Numbered). HasRecords (c log.area) log.base d l) (is.1 ∙ append-nil ds) held)))
      which

  going_redoing : (d : ℕ) → d ≡ log.gate → (now : Bytes) → IsGoing g d last (v.now Home).seen m now → IsRedoing g log.gate last rs (v.now Home).seen m now
  going_redoing d is now going = record {
    pages = λ n lt. ⊎_elim (λ same. inl same) (λ gone. inr (inl gone.0, subst (λ (x : ℕ). lsn_of (page_at now (home_at n)) < x) is (subst (λ (p : List ℕ). lsn_of p < d) (sym gone.0) gone.1))) (going.pages n lt);
    bytes = λ b i lt small. ⊎_elim (λ same. inl same) (λ marked. inr (inl (marked.0, subst (λ (x : ℕ). last b < x) is marked.1))) (going.bytes b i lt small);
  }

  -- the home area as a crash leaves it
  module _ (leaves : LeavesPart (v.now Home) (c Home)) where
    pub still_shut : c Home HEADER ≡ 1 → ⊥
    still_shut open_gate = ready.closed (sym (leaves.rest HEADER (ready.settled HEADER (inl (omega arith)))) ∙ open_gate)

    still : (i : ℕ) → HOMES ≤ i → laid (c Home) i ≡ (v.now Home).seen i
    still i high = laid_shut (c Home) i still_shut ∙ leaves.rest i (ready.settled i (inr high))

    still_redoing : IsRedoing g log.gate last rs (v.now Home).seen m (laid (c Home))
    still_redoing = record {
      pages = λ n lt. inl (page_same (laid (c Home)) (v.now Home).seen (home_at n) (home_at n) (λ k small. still (home_at n + k) (omega arith)));
      bytes = λ b i lt small. inl (still (band_byte g b i) (omega arith));
    }

  pub own_moment : IsMoment g v log ds [] last m c → IsRedoMoment g v log ds last rs m c
  own_moment moment = ⊎_elim
      (λ (before : IsBeforeOrAfter v.now log ds [] c).
      let home : LeavesPart (v.now Home) (c Home) = before.others Home (λ is. apart (sym is)) in
      record {
        held = ⊎_elim (λ held. held) (λ held. (records_here (tail_of log) (ds ++ []) (inr (refl, refl)) held).1) before.held;
        header = λ open_gate. absurd (still_shut home open_gate);
        going = still_redoing home;
        superblock = λ i low. home.rest i (ready.settled i (inl (omega arith)));
        others = λ b not_home not_log. before.others b not_log;
      })
      (λ (goes : GoesHome g v log ds [] last m c).
      let here = records_here goes.durable goes.records goes.which goes.held in
      record {
        held = here.1;
        header = goes.header;
        going = going_redoing goes.durable here.0 (laid (c Home)) goes.going;
        superblock = goes.superblock;
        others = goes.others;
      })
      moment

not_covered : false ≡ true → ⊥
not_covered e = cc

-- a version by some of the records
pub version_whole : (some rs : List OnPage) (was page : List ℕ) → (some ≡ rs) ⊎ (some ≡ []) → IsVersion some was page → IsVersion rs was page
version_whole some rs was page whole version = ⊎_elim
    (λ same. inl same)
    (λ is. ⊎_elim (λ e. inr (is ∙ ap (λ (l : List OnPage). repeated l was) e)) (λ e. inl (is ∙ ap (λ (l : List OnPage). repeated l was) e)) whole)
    version

covered_whole : (i : ℕ) (some ws : List OnWindow) → (some ≡ ws) ⊎ (some ≡ []) → is_covered (on_byte i some) ≡ true → some ≡ ws
covered_whole i some ws whole covered = ⊎_elim (λ e. e) (λ e. absurd (not_covered (sym (ap (λ (l : List OnWindow). is_covered (on_byte i l)) e) ∙ covered))) whole

module _ (g : Geometry) (v : View) (log : Tail) (ds : List Numbered) (last : ℕ → ℕ) (some rs : PartRecords) (m : Units) (whole : AreWhole some rs) where
  redoing_whole : (d : ℕ) (seen now : Bytes) → IsRedoing g d last some seen m now → IsRedoing g d last rs seen m now
  redoing_whole d seen now going = record {
    pages = λ n lt. ⊎_elim (λ same. inl same) (λ is. inr (version_whole (some.page n) (rs.page n) (m.page n) (page_at now (home_at n)) (whole.page n) is.0, is.1)) (going.pages n lt);
    bytes = λ b i lt small. ⊎_elim
        (λ same. inl same)
        (λ is. inr (⊎_elim
        (λ marked. inl marked)
        (λ covered.
        let e = covered_whole i (some.band b) (rs.band b) (whole.band b) covered.0 in
        inr (subst (λ (l : List OnWindow). is_covered (on_byte i l) ≡ true) e covered.0, subst (AreChangesBelow d) e covered.1))
        is))
        (going.bytes b i lt small);
  }

  pub moment_whole : (c : Image) → IsRedoMoment g v log ds last some m c → IsRedoMoment g v log ds last rs m c
  moment_whole c moment = record { held = moment.held; header = moment.header; going = redoing_whole log.gate (v.now Home).seen (laid (c Home)) moment.going; superblock = moment.superblock; others = moment.others }

-- WHAT A RUN HAS LEFT, by its moments: the last of them is that of the disk as it is
module _ (g : Geometry) (v w : View) (log : Tail) (ds : List Numbered) (last : ℕ → ℕ) (rs : PartRecords) (m : Units) (bytes : (a : Area) (i : ℕ) → (w.now a).seen i < 256) (run : LeavesOnly v w (IsRedoMoment g v log ds last rs m)) where
  pub rest_redoing : IsReady (w.now Home) → IsRedoing g log.gate last rs (v.now Home).seen m (w.now Home).seen
  rest_redoing ready =
      let now : Bytes = (w.now Home).seen in
      let same : laid (w.now Home).seen ≡ (w.now Home).seen = λ j i. laid_shut (w.now Home).seen i ready.closed j in
      subst (IsRedoing g log.gate last rs (v.now Home).seen m) same (run.each (λ a. (w.now a).seen) (inl (seen_image w bytes))).going

  pub rest_others : (b : Area) (x : Bytes) → (b ≡ Home → ⊥) → (b ≡ log.area → ⊥) → LeavesPart (w.now b) x → LeavesPart (v.now b) x
  rest_others b x not_home not_log leaves =
      let seen : Image = λ a. (w.now a).seen in
      let image : Leaves w.now (at_area b x seen) = at_area_all (λ (a : Area) (f : Bytes). LeavesPart (w.now a) f) b x seen leaves (seen_image w bytes) in
      subst (LeavesPart (v.now b)) (at_area_same b x seen) ((run.each (at_area b x seen) (inl image)).others b not_home not_log)

-- ONE RUN AFTER ANOTHER, of which no unit has records in both
module _ (g : Geometry) (v w z : View) (log : Tail) (ds : List Numbered) (last last1 : ℕ → ℕ) (all a b : PartRecords) (together : AreTogether all a b) (m m1 : Units)
    (bytes : (x : Area) (i : ℕ) → (w.now x).seen i < 256) (ready : IsReady (w.now Home)) (first : LeavesOnly v w (IsRedoMoment g v log ds last a m)) (redone : IsRedone g a m m1)
    (marks : (n i : ℕ) → m.marked n i ≡ true → last n < log.gate) (below : (n : ℕ) → AreChangesBelow log.gate (all.band n)) where
  mid : IsRedoing g log.gate last all (v.now Home).seen m (w.now Home).seen
  mid = redoing_whole g v log ds last a all m (first_whole all a b together) log.gate (v.now Home).seen (w.now Home).seen (rest_redoing g v w log ds last a m bytes first ready)

  -- a version of a page behind the first run
  pub version_then : (n : ℕ) → n < g.pages → (page : List ℕ) → IsVersion (b.page n) (m1.page n) page → IsVersion (all.page n) (m.page n) page
  version_then n lt page version = ⊎_elim
      (λ is.
      let now : page ≡ m1.page n = ⊎_elim (λ e. e) (λ e. e ∙ ap (λ (l : List OnPage). repeated l (m1.page n)) is.0) version in
      inr (now ∙ ((redone.pages n lt).page ∙ ap (λ (l : List OnPage). repeated l (m.page n)) (sym is.1))))
      (λ is.
      let was : m1.page n ≡ m.page n = (redone.pages n lt).page ∙ ap (λ (l : List OnPage). repeated l (m.page n)) is.0 in
      ⊎_elim (λ e. inl (e ∙ was)) (λ e. inr (e ∙ (ap (repeated (b.page n)) was ∙ ap (λ (l : List OnPage). repeated l (m.page n)) (sym is.1)))) version)
      (together.page n)

  covered_first : (n i : ℕ) → is_covered (on_byte i (a.band n)) ≡ true → is_covered (on_byte i (all.band n)) ≡ true
  covered_first n i covered = ⊎_elim
      (λ is. ap (λ (l : List OnWindow). is_covered (on_byte i l)) is.1 ∙ covered)
      (λ is. absurd (not_covered (sym (ap (λ (l : List OnWindow). is_covered (on_byte i l)) is.0) ∙ covered)))
      (together.band n)

  covered_second : (n i : ℕ) → is_covered (on_byte i (b.band n)) ≡ true → is_covered (on_byte i (all.band n)) ≡ true
  covered_second n i covered = ⊎_elim
      (λ is. absurd (not_covered (sym (ap (λ (l : List OnWindow). is_covered (on_byte i l)) is.0) ∙ covered)))
      (λ is. ap (λ (l : List OnWindow). is_covered (on_byte i l)) is.1 ∙ covered)
      (together.band n)

  redoing_then : (now : Bytes) → IsRedoing g log.gate last1 b (w.now Home).seen m1 now → IsRedoing g log.gate last all (v.now Home).seen m now
  redoing_then now going = record {
    pages = λ n lt. ⊎_elim
        (λ same. subst (λ (p : List ℕ). (p ≡ page_at (v.now Home).seen (home_at n)) ⊎ (IsVersion (all.page n) (m.page n) p × (lsn_of p < log.gate))) (sym same) (mid.pages n lt))
        (λ is. inr (version_then n lt (page_at now (home_at n)) is.0, is.1))
        (going.pages n lt);
    bytes = λ n i lt small. ⊎_elim
        (λ same. ⊎_elim (λ e. inl (same ∙ e)) (λ is. inr is) (mid.bytes n i lt small))
        (λ is. inr (⊎_elim
        (λ marked. ⊎_elim (λ was. inl (was, marks n i was)) (λ covered. inr (covered_first n i covered, below n)) ((redone.bands n lt).marked i small marked.0))
        (λ covered. inr (covered_second n i covered.0, below n))
        is))
        (going.bytes n i lt small);
  }

  moment_then : (c : Image) → IsRedoMoment g w log ds last1 b m1 c → IsRedoMoment g v log ds last all m c
  moment_then c moment = record {
    held = moment.held;
    header = moment.header;
    going = redoing_then (laid (c Home)) moment.going;
    superblock = λ i low. moment.superblock i low ∙ (first.each (λ x. (w.now x).seen) (inl (seen_image w bytes))).superblock i low;
    others = λ x not_home not_log. rest_others g v w log ds last a m bytes first x (c x) not_home not_log (moment.others x not_home not_log);
  }

  pub moments_then : LeavesOnly w z (IsRedoMoment g w log ds last1 b m1) → LeavesOnly v z (IsRedoMoment g v log ds last all m)
  moments_then second = joined (weaker first (moment_whole g v log ds last a all m (first_whole all a b together))) (weaker second moment_then)

  -- the homes behind both
  pub homes_then : (m2 : Units) → ((x : Area) (i : ℕ) → (z.now x).seen i < 256) → IsReady (z.now Home) → LeavesOnly w z (IsRedoMoment g w log ds last1 b m1)
      → AreHomesKnown g (w.now Home) a m m1 → AreHomesKnown g (z.now Home) b m1 m2 → AreHomesKnown g (z.now Home) all m m2
  homes_then m2 bytes_z ready_z second known later n lt =
      let rest = rest_redoing g w z log ds last1 b m1 bytes_z second ready_z in
      ⊎_elim
      (λ kept. ⊎_elim
      (λ same. inl (kept ∙ same))
      (λ version. inr (⊎_elim
      (λ still. subst (IsVersion (all.page n) (m.page n)) (sym still) (version_whole (a.page n) (all.page n) (m.page n) (page_at (w.now Home).seen (home_at n)) ((first_whole all a b together).page n) version))
      (λ gone. version_then n lt (page_at (z.now Home).seen (home_at n)) gone.0)
      (rest.pages n lt)))
      (known n lt))
      (λ version. inr (version_then n lt (page_at (z.now Home).seen (home_at n)) version))
      (later n lt)
