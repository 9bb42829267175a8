-- Runs of redo, one after another.
use Rattle.std.proofs.Common.{◌≡◌, ◌≢◌, ◌⊎◌, inl, inr, ⊎_elim, ◌<◌, ◌+◌, ◌++◌, ℕ, zero, suc, Bool, true, false, IsTrue, Option, None, Some, Result, Ok, Err, List, [], ◌∷◌, refl, sym, ◌∙◌, ap, subst, arith, append-nil}
use Rattle.std.specs.Prelude.{OnOk, OnErr, IfErr}
use Rattle.std.proofs.lemmas.List.Elements.{All-filter, All-append}
use Rattle.std.proofs.lemmas.Result.{on_ok_weaker}
use Rattle.sg_base.specs.declared.area.Area.TheVariants.{Home}
use Rattle.sg_disk.specs.Disk.{View}
use Rattle.sg_log.specs.Frames.{Numbered}
use Rattle.sg_log.specs.Held.{Tail, Holds, tail_of, forced}
use Rattle.sg_ops.specs.Table.{Table}
use Rattle.sg_record.specs.Changes.{Change}
use Rattle.sg_record.specs.Changes.Change.{Page, SegWrite, SegOp}
use Rattle.sg_redo.specs.declared.place.Place.{Place}
use Rattle.sg_redo.specs.History.{OnPage, repeated}
use Rattle.sg_redo.specs.Places.{change_at, page_records, window_part, window_records}
use Rattle.sg_redo.specs.Window.{OnWindow}
use Rattle.sg_pool.specs.declared.fault.PoolFault.{PoolFault}
use Rattle.sg_pool.specs.declared.fault.PoolFault.TheVariants.{Disk, Damaged, Memory}
use Rattle.sg_pool.specs.declared.pool.Pool.{Pool}
use Rattle.sg_pool.specs.Moments.{IsSameOrForced}
use Rattle.sg_pool.specs.Pooled.{contents, frame_holding, Backs}
use Rattle.sg_pool.specs.Redone.{ArePlacesBelow, places_of, records_of, ArePartlyRedone, AreHomesExact, AreHomesKnown, AreChangesBelow}
use Rattle.sg_pool.specs.Redoing.{AreLastsRedone, IsDurable, RedoFails, AreRedone, AreDurablyRedone, IsRun}
use Rattle.sg_pool.specs.Repeated.{last_lsn}
use Rattle.sg_pool.specs.Shelves.{OnTold, AreLogged, lasts}
use Rattle.sg_pool.specs.Units.{Geometry}
use Rattle.sg_pool.specs.Well.{IsWell}
use Rattle.sg_pool.proofs.Bringing.{on_told_weaker, risen_more}
use Rattle.sg_pool.proofs.Counting.{grown_then, heeds_then}
use Rattle.sg_pool.proofs.Forcing.{is_forced}
use Rattle.sg_pool.proofs.Placed.{AreJoined}
use Rattle.sg_pool.proofs.RedoHomes.{exact_then, told_partly}
use Rattle.sg_pool.proofs.Redone.{redone_then, partly_then}
use Rattle.sg_pool.proofs.RedoMoments.{tail_is_gate, forced_twice, forced_same, moments_then, homes_then}
use Rattle.sg_pool.proofs.Slots.{none_or_some}

pub on_told_two : {T : Type 0} (r : Result T PoolFault) (P Q R : Type 0) → (P → Q → R) → OnTold r P → OnTold r Q → OnTold r R
on_told_two (Ok x) P Q R f p q = f p q
on_told_two (Err Disk) P Q R f p q = tt
on_told_two (Err (Damaged n)) P Q R f p q = f p q
on_told_two (Err Memory) P Q R f p q = f p q

pub if_err_weaker : {T E : Type 0} (r : Result T E) (P Q : E → Type 0) → ((e : E) → P e → Q e) → IfErr r P → IfErr r Q
if_err_weaker (Ok x) P Q f p = tt
if_err_weaker (Err e) P Q f p = f e p

pub on_err_told : {T : Type 0} (r : Result T PoolFault) (P Q : Type 0) → (P → Q) → OnErr r (OnTold r P) → OnErr r (OnTold r Q)
on_err_told (Ok x) P Q f p = tt
on_err_told {T = T} (Err e) P Q f p = on_told_weaker {T = T} (Err e) P Q f p

-- the numbers of the changes of bands are those of places
one_below : (tail : ℕ) (w : OnWindow) → w.lsn < tail → AreChangesBelow tail (w ∷ [])
one_below tail w small zero d lt = small
one_below tail w small (suc k) d lt = absurd (omega (arith, lt))

part_below : (t : Table) (tail lsn : ℕ) (change : Option Change) → lsn < tail → AreChangesBelow tail (window_part t lsn change)
unfolding window_part
part_below t tail lsn None small = λ k d lt. absurd (omega (arith, lt))
part_below t tail lsn (Some (Page c)) small = λ k d lt. absurd (omega (arith, lt))
part_below t tail lsn (Some (SegWrite c)) small = one_below tail _ small
part_below t tail lsn (Some (SegOp c)) small = one_below tail _ small

window_below : (t : Table) (text : List ℕ) (tail : ℕ) (places : List Place) → ArePlacesBelow tail places → AreChangesBelow tail (window_records t text places)
unfolding window_records
window_below t text tail [] below = λ k d lt. absurd (omega (arith, lt))
window_below t text tail (p ∷ places) below = All-append (λ w. w.lsn < tail) (window_part t p.lsn (change_at text p.at)) (window_records t text places)
    (part_below t tail p.lsn (change_at text p.at) (below 0 p (omega arith))) (window_below t text tail places (λ k d lt. below (suc k) d (omega (arith, lt))))

-- a byte that a change wrote is one of a band whose last change is in the log
pub marks_below : (v : View) (pool : Pool) (g : Geometry) (tail : ℕ) → Backs g v pool → AreLogged tail pool.shelf → (b i : ℕ) → (contents v pool).marked b i ≡ true → lasts pool.shelf b < tail
marks_below v pool g tail backed logged b i marked = ⊎_elim
    (λ none. absurd (not_both (sym (backed.clean b i none) ∙ marked)))
    (λ some. logged b some.0 some.1)
    (none_or_some ((contents v pool).band_since b))
  where
    not_both : false ≡ true → ⊥
    not_both e = cc

-- a list has no elements, or some
pub empty_or_not : (places : List Place) → (places ≡ []) ⊎ (places ≢ [])
empty_or_not [] = inl refl
empty_or_not (p ∷ places) = inr (λ is. cc)

second_alone : {A B C D : Type 0} → (A × B) ⊎ (C × D) → (A → ⊥) → C × D
second_alone (inl is) not = absurd (not is.0)
second_alone (inr is) not = is

-- A RUN, AND THEN ANOTHER, which are one together
module _ {U T : Type 0} (g : Geometry) (told : Bool) (t : Table) (start text : List ℕ) (all a b : List Place) (joined : AreJoined g t start text all a b) (v w z : View) (log log1 log2 : Tail) (p0 p1 p2 : Pool) (u : U) (r : Result T PoolFault)
    (first : IsRun {T = U} g told t start a v w log log1 p0 p1 (Ok u)) (second : IsRun g told t text b w z log1 log2 p1 p2 r) where
  area : log1.area ≡ log.area
  area = ⊎_elim (λ same. ap (λ (l : Tail). l.area) same) (λ gone. ap (λ (l : Tail). l.area) gone ∙ (is_forced log).area) first.log_kept

  apart_still : (log.area ≡ Home → ⊥) → log1.area ≡ Home → ⊥
  apart_still apart is = apart (sym area ∙ is)

  log_kept : (log2 ≡ log) ⊎ (log2 ≡ forced log)
  log_kept = ⊎_elim
      (λ same. ⊎_elim (λ e. inl (same ∙ e)) (λ e. inr (same ∙ e)) first.log_kept)
      (λ gone. ⊎_elim (λ e. inr (gone ∙ ap forced e)) (λ e. inr (gone ∙ (ap forced e ∙ forced_twice log))) first.log_kept)
      second.log_kept

  absent : OnOk r ((n : ℕ) → places_of n all ≡ [] → frame_holding p0 n ≡ None → frame_holding p2 n ≡ None)
  absent = on_ok_weaker r (λ (rest : (n : ℕ) → places_of n b ≡ [] → frame_holding p1 n ≡ None → frame_holding p2 n ≡ None) (n : ℕ) (none : places_of n all ≡ []) (away : frame_holding p0 n ≡ None).
      let it = joined.neither n none in rest n it.1 (first.absent n it.0 away)) second.absent

  lasts_then : OnOk r (AreLastsRedone g all p0 p2)
  lasts_then = on_ok_weaker r both second.lasts
    where
      both : AreLastsRedone g b p1 p2 → AreLastsRedone g all p0 p2
      both late = record {
        its = λ n o some since. ⊎_elim
            (λ is.
            let kept = late.others n o is.0 since in
            kept.1 ∙ (first.lasts.its n o (λ no_a. some (is.1 ∙ no_a)) kept.0 ∙ ap (λ (l : List Place). last_lsn l) (sym is.1)))
            (λ is. late.its n o (λ no_b. some (is.1 ∙ no_b)) since ∙ ap (λ (l : List Place). last_lsn l) (sym is.1))
            (joined.either (g.pages + n));
        others = λ n o none since.
            let it = joined.neither (g.pages + n) none in
            let kept = late.others n o it.1 since in
            let was = first.lasts.others n o it.0 kept.0 in
            (was.0, kept.1 ∙ was.1);
      }

  -- what is told
  module _ (is_told : IsTrue told) (apart : log.area ≢ Home) (backs : Backs g v p0) where
    one : AreRedone {T = U} g t start a v w p0 p1 (Ok u)
    one = first.units_are is_told apart backs

    two : AreRedone g t text b w z p1 p2 r
    two = second.units_are is_told (apart_still apart) one.backed

    -- a page without records in the first run is as it was
    page_still : (n : ℕ) → n < g.pages → page_records t start (places_of n a) ≡ [] → (contents w p1).page n ≡ (contents v p0).page n
    page_still n lt none = (one.redone.pages n lt).page ∙ ap (λ (rs : List OnPage). repeated rs ((contents v p0).page n)) none

    late_well : (n : ℕ) → n < g.pages → frame_holding p0 n ≡ None → ((contents w p1).page n ≡ (contents v p0).page n) → (frame_holding p1 n ≡ None → IsWell ((contents w p1).page n)) → (places_of n a ≡ []) ⊎ (places_of n a ≢ []) → IsWell ((contents v p0).page n)
    late_well n lt away same rest (inl no_a) = subst IsWell same (rest (first.absent n no_a away))
    late_well n lt away same rest (inr some_a) = one.well n lt some_a away

    units_then : AreRedone g t text all v z p0 p2 r
    units_then = record {
      backed = two.backed;
      redone = on_ok_weaker r (redone_then g (records_of g t text all) (records_of g t start a) (records_of g t text b) joined.together (contents v p0) (contents w p1) (contents z p2) one.backed.clean one.redone) two.redone;
      partly = on_err_told r _ _ (λ (it : ArePartlyRedone g (records_of g t text b) (contents w p1) (contents z p2)).
          partly_then g (records_of g t text all) (records_of g t start a) (records_of g t text b) joined.together it.0 it.1 (contents v p0) (contents w p1) (contents z p2) one.backed.clean one.redone it.2) two.partly;
      untouched = on_told_two r (ArePartlyRedone g (records_of g t text b) (contents w p1) (contents z p2)) (AreHomesExact g (w.now Home).seen (z.now Home).seen (records_of g t text b) (contents w p1) (contents z p2)) (AreHomesExact g (v.now Home).seen (z.now Home).seen (records_of g t text all) (contents v p0) (contents z p2))
          (λ it exact. exact_then g (v.now Home).seen (w.now Home) (z.now Home).seen (records_of g t text all) (records_of g t start a) (records_of g t text b) it.0 joined.together it.1 (contents v p0) (contents w p1) (contents z p2) one.backed one.redone it.2 one.untouched exact)
          (told_partly r g (records_of g t text b) (contents w p1) (contents z p2) two.redone two.partly) two.untouched;
      well = on_ok_weaker r (λ (rest : (n : ℕ) → n < g.pages → places_of n b ≢ [] → frame_holding p1 n ≡ None → IsWell ((contents w p1).page n)) (n : ℕ) (lt : n < g.pages) (some : places_of n all ≢ []) (away : frame_holding p0 n ≡ None).
          ⊎_elim
          (λ is. one.well n lt (λ no_a. some (is.1 ∙ no_a)) away)
          (λ is. late_well n lt away (page_still n lt is.0) (rest n lt (λ no_b. some (is.1 ∙ no_b))) (empty_or_not (places_of n a)))
          (joined.either n)) two.well;
    }

  faults : IfErr r (RedoFails told log.area g v z p0 all)
  faults = if_err_weaker r (RedoFails told log1.area g w z p1 b) (RedoFails told log.area g v z p0 all) fails second.faults
    where
      fails : (e : PoolFault) → RedoFails told log1.area g w z p1 b e → RedoFails told log.area g v z p0 all e
      fails Disk risen = risen_more v.faults w.faults z.faults first.later risen
      fails (Damaged page) is =
          let it = second_alone (joined.either page.0) is.1 in (
            is.0,
            λ none. is.1 (sym it.1 ∙ none),
            λ is_told apart backs well. is.2 is_told (apart_still apart) (one is_told apart backs).backed (subst IsWell (sym (page_still is_told apart backs page.0 is.0 it.0)) well),
          )
      fails Memory is = is

  log_then : (ds ps : List Numbered) → IsTrue told → log.area ≢ Home → Backs g v p0 → Holds v log ds ps → OnTold r (IsSameOrForced z log log2 ds ps)
  log_then ds ps is_told apart backs holds =
      let backs1 = (one is_told apart backs).backed in
      ⊎_elim
      (λ kept. on_told_weaker r (IsSameOrForced z log1 log2 ds ps) (IsSameOrForced z log log2 ds ps) (subst (λ (l : Tail). IsSameOrForced z l log2 ds ps) kept.0)
      (second.log_is ds ps is_told (apart_still apart) backs1 (subst (λ (l : Tail). Holds w l ds ps) (sym kept.0) kept.1)))
      (λ gone. on_told_weaker r (IsSameOrForced z log1 log2 (ds ++ ps) []) (IsSameOrForced z log log2 ds ps) (forced_on gone.0)
      (second.log_is (ds ++ ps) [] is_told (apart_still apart) backs1 (subst (λ (l : Tail). Holds w l (ds ++ ps) []) (sym gone.0) gone.1)))
      (first.log_is ds ps is_told apart backs holds)
    where
      forced_on : log1 ≡ forced log → IsSameOrForced z log1 log2 (ds ++ ps) [] → IsSameOrForced z log log2 ds ps
      forced_on is moved = ⊎_elim
          (λ kept. inr (kept.0 ∙ is, subst (λ (l : Tail). Holds z l (ds ++ ps) []) is kept.1))
          (λ gone.
          let same : forced log1 ≡ forced log = ap forced is ∙ forced_twice log in
          inr (gone.0 ∙ same, subst (λ (l : Tail). Holds z l (ds ++ ps) []) same (subst (λ (l : List Numbered). Holds z (forced log1) l []) (append-nil (ds ++ ps)) gone.1)))
          moved

  -- where the part is durable
  module _ (ds : List Numbered) (is_told : IsTrue told) (apart : log.area ≢ Home) (backs : Backs g v p0) (durable : IsDurable v log ds p0 all) where
    first_durable : AreDurablyRedone {T = U} g t start a v w log ds p0 p1 (Ok u)
    first_durable = first.durable ds is_told apart backs (record { holds = durable.holds; logged = durable.logged; below = joined.first_below log.gate durable.below })

    log_same : (log1 ≡ log) × Holds w log ds []
    log_same = ⊎_elim
        (λ kept. kept)
        (λ gone. let same = forced_same v log ds durable.holds in (gone.0 ∙ same, subst (λ (l : Tail). Holds w l ds []) same (subst (λ (l : List Numbered). Holds w (forced log) l []) (append-nil ds) gone.1)))
        (first.log_is ds [] is_told apart backs durable.holds)

    second_durable : AreDurablyRedone g t text b w z log ds p1 p2 r
    second_durable = subst (λ (l : Tail). AreDurablyRedone g t text b w z l ds p1 p2 r) log_same.0
        (second.durable ds is_told (apart_still apart) (one is_told apart backs).backed
        (subst (λ (l : Tail). IsDurable w l ds p1 b) (sym log_same.0) (record { holds = log_same.1; logged = first_durable.logged; below = joined.second_below log.gate durable.below })))

    durable_then : AreDurablyRedone g t text all v z log ds p0 p2 r
    durable_then =
        let here = one is_told apart backs in
        let there = two is_told apart backs in
        let together = joined.together in
        let marks : (n i : ℕ) → (contents v p0).marked n i ≡ true → lasts p0.shelf n < log.gate =
        λ n i on. subst (λ (d : ℕ). lasts p0.shelf n < d) (tail_is_gate v log ds durable.holds) (marks_below v p0 g (tail_of log) backs durable.logged.bands n i on) in
        let below : (n : ℕ) → AreChangesBelow log.gate ((records_of g t text all).band n) = λ n. window_below t text log.gate (places_of (g.pages + n) all) (All-filter _ (λ p. p.lsn < log.gate) all durable.below) in
        record {
          logged = second_durable.logged;
          homes = on_told_two r (Backs g z p2) (AreHomesKnown g (z.now Home) (records_of g t text b) (contents w p1) (contents z p2)) (AreHomesKnown g (z.now Home) (records_of g t text all) (contents v p0) (contents z p2))
              (λ backs2 known. homes_then g v w z log ds (lasts p0.shelf) (lasts p1.shelf) (records_of g t text all) (records_of g t start a) (records_of g t text b) together (contents v p0) (contents w p1)
              (first.bytes is_told) here.backed.ready first_durable.moments here.redone marks below (contents z p2) (second.bytes is_told) backs2.ready second_durable.moments first_durable.homes known)
              there.backed second_durable.homes;
          moments = moments_then g v w z log ds (lasts p0.shelf) (lasts p1.shelf) (records_of g t text all) (records_of g t start a) (records_of g t text b) together (contents v p0) (contents w p1)
              (first.bytes is_told) here.backed.ready first_durable.moments here.redone marks below second_durable.moments;
        }

  pub run_then : IsRun g told t text all v z log log2 p0 p2 r
  run_then = record {
    size = second.size;
    log_kept = log_kept;
    later = let x = first.later in let y = second.later in omega (arith, x, y);
    heeded = heeds_then u r v w z first.heeded second.heeded;
    kept = let x = first.kept in let y = second.kept in omega (arith, x, y);
    grown = grown_then log log1 log2 v w z first.grown second.grown second.kept;
    pins = λ f. second.pins f ∙ first.pins f;
    count = second.count ∙ first.count;
    bytes = second.bytes;
    below = λ tail logged every. second.below tail (first.below tail logged (joined.first_below tail every)) (joined.second_below tail every);
    lasts = lasts_then;
    absent = absent;
    faults = faults;
    units_are = units_then;
    log_is = log_then;
    durable = durable_then;
  }
