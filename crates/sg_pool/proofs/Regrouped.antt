-- A run over places in another order, which keeps each unit's own.
use Rattle.std.proofs.Common.{◌≡◌, ◌≢◌, ◌<◌, ◌+◌, ℕ, Bool, None, Result, List, [], sym, ◌∙◌, ap, subst}
use Rattle.std.specs.Prelude.{OnOk, OnErr}
use Rattle.std.specs.List.Sorted.{IsPermutation}
use Rattle.std.proofs.lemmas.List.Sorted.{All-permutation}
use Rattle.std.proofs.lemmas.Result.{on_ok_weaker}
use Rattle.sg_base.specs.declared.area.Area.TheVariants.{Home}
use Rattle.sg_disk.specs.Disk.{View, LeavesOnly}
use Rattle.sg_log.specs.Held.{Tail}
use Rattle.sg_ops.specs.Table.{Table}
use Rattle.sg_redo.specs.declared.place.Place.{Place}
use Rattle.sg_redo.specs.Places.{page_records, window_records}
use Rattle.sg_pool.specs.declared.fault.PoolFault.{PoolFault}
use Rattle.sg_pool.specs.declared.fault.PoolFault.TheVariants.{Disk, Damaged, Memory}
use Rattle.sg_pool.specs.declared.pool.Pool.{Pool}
use Rattle.sg_pool.specs.Pooled.{contents, frame_holding}
use Rattle.sg_pool.specs.Redone.{PartRecords, ArePlacesBelow, places_of, records_of, IsRedone, ArePartlyRedone, AreHomesExact, AreHomesKnown, IsRedoMoment}
use Rattle.sg_pool.specs.Redoing.{AreLastsRedone, RedoFails, IsRun}
use Rattle.sg_pool.specs.Repeated.{last_lsn}
use Rattle.sg_pool.specs.Shelves.{OnTold, lasts}
use Rattle.sg_pool.specs.Units.{Geometry}
use Rattle.sg_pool.specs.Well.{IsWell}
use Rattle.sg_pool.proofs.Redoing.{if_err_weaker}

module _ {T : Type 0} (g : Geometry) (told : Bool) (t : Table) (text : List ℕ) (places sorted : List Place) (moved : IsPermutation places sorted) (same : (n : ℕ) → places_of n sorted ≡ places_of n places) (v w : View) (log log1 : Tail) (p0 p1 : Pool) (r : Result T PoolFault)
    (run : IsRun g told t text sorted v w log log1 p0 p1 r) where
  records_same : records_of g t text sorted ≡ records_of g t text places
  records_same = λ j. record { page = λ n. page_records t text (same n j); band = λ b. window_records t text (same (g.pages + b) j) }

  below_sorted : (tail : ℕ) → ArePlacesBelow tail places → ArePlacesBelow tail sorted
  below_sorted tail every = All-permutation (λ p. p.lsn < tail) places sorted moved every

  named_same : (n : ℕ) → places_of n sorted ≢ [] → places_of n places ≢ []
  named_same n some empty = some (same n ∙ empty)

  fails_same : (e : PoolFault) → RedoFails told log.area g v w p0 sorted e → RedoFails told log.area g v w p0 places e
  fails_same Disk risen = risen
  fails_same (Damaged page) is = (is.0, named_same page.0 is.1, is.2)
  fails_same Memory is = is

  pub run_regrouped : IsRun g told t text places v w log log1 p0 p1 r
  run_regrouped = record {
    size = run.size;
    log_kept = run.log_kept;
    later = run.later;
    heeded = run.heeded;
    kept = run.kept;
    grown = run.grown;
    pins = run.pins;
    count = run.count;
    bytes = run.bytes;
    below = λ tail logged every. run.below tail logged (below_sorted tail every);
    lasts = on_ok_weaker r (λ (it : AreLastsRedone g sorted p0 p1). record {
      its = λ b o some since. it.its b o (λ empty. some (sym (same (g.pages + b)) ∙ empty)) since ∙ ap (λ (l : List Place). last_lsn l) (same (g.pages + b));
      others = λ b o empty since. it.others b o (same (g.pages + b) ∙ empty) since;
    }) run.lasts;
    absent = on_ok_weaker r (λ (it : (n : ℕ) → places_of n sorted ≡ [] → frame_holding p0 n ≡ None → frame_holding p1 n ≡ None) (n : ℕ) (empty : places_of n places ≡ []) (away : frame_holding p0 n ≡ None). it n (same n ∙ empty) away) run.absent;
    faults = if_err_weaker r (RedoFails told log.area g v w p0 sorted) (RedoFails told log.area g v w p0 places) fails_same run.faults;
    units_are = λ is_told apart backs. let it = run.units_are is_told apart backs in record {
      backed = it.backed;
      redone = subst (λ (rs : PartRecords). OnOk r (IsRedone g rs (contents v p0) (contents w p1))) records_same it.redone;
      partly = subst (λ (rs : PartRecords). OnErr r (OnTold r (ArePartlyRedone g rs (contents v p0) (contents w p1)))) records_same it.partly;
      untouched = subst (λ (rs : PartRecords). OnTold r (AreHomesExact g (v.now Home).seen (w.now Home).seen rs (contents v p0) (contents w p1))) records_same it.untouched;
      well = on_ok_weaker r (λ (all : (n : ℕ) → n < g.pages → places_of n sorted ≢ [] → frame_holding p0 n ≡ None → IsWell ((contents v p0).page n)) (n : ℕ) (lt : n < g.pages) (some : places_of n places ≢ []) (away : frame_holding p0 n ≡ None).
          all n lt (λ empty. some (sym (same n) ∙ empty)) away) it.well;
    };
    log_is = run.log_is;
    durable = λ ds is_told apart backs durable. let it = run.durable ds is_told apart backs (record { holds = durable.holds; logged = durable.logged; below = below_sorted log.gate durable.below }) in record {
      logged = it.logged;
      homes = subst (λ (rs : PartRecords). OnTold r (AreHomesKnown g (w.now Home) rs (contents v p0) (contents w p1))) records_same it.homes;
      moments = subst (λ (rs : PartRecords). LeavesOnly v w (IsRedoMoment g v log ds (lasts p0.shelf) rs (contents v p0))) records_same it.moments;
    };
  }
