use Rattle.std.proofs.Common.{ℕ, length, None, Ok, Err, Result, sym, ap, subst, ◌∙◌, refl}
use Rattle.sg_actions.specs.Acting.{IsChained}
use Rattle.sg_actions.specs.View.{HasFreedNone}
use Rattle.sg_actions.specs.WentOff.{OffCounts}
use Rattle.sg_actions.specs.declared.rows.Actor.{Actor}
use Rattle.sg_contents.specs.Standing.{Contents}
use Rattle.sg_found.proofs.Running.{rest_idle}
use Rattle.sg_ops.specs.Table.{table_of}
use Rattle.sg_reader.specs.Alike.{ReadsAs}
use Rattle.sg_space.specs.declared.space.SpaceFault.{SpaceFault}
use Rattle.sg_shown.specs.Shown.{over, lent}
use Rattle.sg_regained.proofs.Counted.{counts_off, counts_cut, counts_over, near_off, near_over}
use Rattle.sg_regained.proofs.Regained.{leads_off, regained_by, means_now, takes_off, taken_off, reads, none_read_of, long_same, wide_same, broken_then, on_ok_at, found_with, can_found}
use Rattle.sg_regained.proofs.Taking.{took_then, took_stopped}
use Rattle.sg_regained.proofs.regaining.resume.Given as given
use Rattle.sg_regained.proofs.regaining.resume.Goals as goal

-- BEFORE THE TAKE-OFF

pub end_open-acts-requires-clause-by : goal.end_open-acts-requires-clause-by
end_open-acts-requires-clause-by g c = λ told. (let s = c.requires.can in ∣ (s.from told, (s.means told).stands) ∣₁)

pub end_open-acts-requires-clause-found : goal.end_open-acts-requires-clause-found
end_open-acts-requires-clause-found g c = λ told. found_with (over c.args.acts) c.args.room None ((c.requires.can.means told).made told)

pub end_open-acts-requires-clause-formed : goal.end_open-acts-requires-clause-formed
end_open-acts-requires-clause-formed g c = λ told. (c.requires.can.can told).found.formed

pub end_open-acts-requires-clause-below : goal.end_open-acts-requires-clause-below
end_open-acts-requires-clause-below g c = λ told. (c.requires.can.can told).found.below

pub end_open-acts-requires-clause-off : goal.end_open-acts-requires-clause-off
end_open-acts-requires-clause-off g c = λ from m told.
    let t = table_of (λ y. (given.RecordOp-dyn g y).record_meaning y.1) (λ y. (given.RangeOp-dyn g y).range_meaning y.1) c.args.ops.now in
    let s = c.requires.can in
    leads_off g.E.Engine.recovers (lent (over c.args.acts) c.args.room) t s.sizes (s.from told) from (s.can told) (g.met.E.Engine.now_is _ t (s.from told) (s.means told).stands told) (g.met.E.Engine.now_is _ t from m told)

-- A TAKE-OFF THAT FAILED

pub returns-in-Err-clause-failed : goal.returns-in-Err-clause-failed
returns-in-Err-clause-failed g c = counts_off {U = Unit {0}} g.E.Engine.recovers (lent (over c.args.acts) c.args.room) (over c.end_open-acts.result.acts) c.in-Err.fault
    (subst (λ (r : Result (Unit {0}) SpaceFault). OffCounts (g.E.Engine.view c.args.acts.engine) (g.E.Engine.view c.end_open-acts.result.acts.engine) c.args.acts.breaks c.end_open-acts.result.acts.breaks r) c.in-Err.is c.end_open-acts.ensures.counts)

pub returns-in-Err-clause-log_end : goal.returns-in-Err-clause-log_end
returns-in-Err-clause-log_end g c = near_off {U = Unit {0}} (g.E.Engine.view c.args.acts.engine) (g.E.Engine.view c.end_open-acts.result.acts.engine) c.args.acts.breaks c.end_open-acts.result.acts.breaks c.in-Err.fault
    (subst (λ (r : Result (Unit {0}) SpaceFault). OffCounts (g.E.Engine.view c.args.acts.engine) (g.E.Engine.view c.end_open-acts.result.acts.engine) c.args.acts.breaks c.end_open-acts.result.acts.breaks r) c.in-Err.is c.end_open-acts.ensures.counts)

pub returns-in-Err-clause-refused : goal.returns-in-Err-clause-refused
returns-in-Err-clause-refused g c = λ z from m told found.
    let t = table_of (λ y. (given.RecordOp-dyn g y).record_meaning y.1) (λ y. (given.RangeOp-dyn g y).range_meaning y.1) c.args.ops.now in
    takes_off g.E.Engine.recovers (lent (over c.args.acts) c.args.room) (over c.end_open-acts.result.acts) t z from c.args.acts.actor.txn.0 (c.end_open-acts.ensures.took from m.stands told) m.size

-- NO ROOM, OR A LOG THAT BEGINS WITHIN AN ACTION OF THE SYSTEM

pub returns-then-not-goes_on-clause-failed : goal.returns-then-not-goes_on-clause-failed
returns-then-not-goes_on-clause-failed g c = counts_cut {U = Unit {0}} g.E.Engine.recovers (lent (over c.args.acts) c.args.room) (over c.end_open-acts.result.acts)
    (subst (λ (r : Result (Unit {0}) SpaceFault). OffCounts (g.E.Engine.view c.args.acts.engine) (g.E.Engine.view c.end_open-acts.result.acts.engine) c.args.acts.breaks c.end_open-acts.result.acts.breaks r) c.in-Ok.is c.end_open-acts.ensures.counts)

pub returns-then-not-goes_on-clause-refused : goal.returns-then-not-goes_on-clause-refused
returns-then-not-goes_on-clause-refused g c = λ z from m told found.
    let t = table_of (λ y. (given.RecordOp-dyn g y).record_meaning y.1) (λ y. (given.RangeOp-dyn g y).range_meaning y.1) c.args.ops.now in
    takes_off g.E.Engine.recovers (lent (over c.args.acts) c.args.room) (over c.end_open-acts.result.acts) t z from c.args.acts.actor.txn.0 (c.end_open-acts.ensures.took from m.stands told) m.size

-- THE WALK

pub reach_all-requires : goal.reach_all-requires
reach_all-requires g c = record {
  can = λ told1.
      let k = c.end_open-acts.ensures in
      let told = k.counts.told told1 in
      let s = c.requires.can in
      let t = table_of (λ y. (given.RecordOp-dyn g y).record_meaning y.1) (λ y. (given.RangeOp-dyn g y).range_meaning y.1) c.args.ops.now in
      let a = lent (over c.args.acts) c.args.room in
      let b = over c.end_open-acts.result.acts in
      let f = s.means told in
      can_found a b t s.sizes (s.from told) f (f.made told).freed k.unfreed (long_same a b k.unfreed c.args.acts.page_flags c.end_open-acts.result.acts.page_flags)
      (wide_same a b k.unfreed c.args.acts.band_flags c.end_open-acts.result.acts.band_flags);
}

-- BEHIND IT

pub returns-in-Ok-reach_all-clause-done : goal.returns-in-Ok-reach_all-clause-done
returns-in-Ok-reach_all-clause-done g c =
    let t = table_of (λ y. (given.RecordOp-dyn g y).record_meaning y.1) (λ y. (given.RangeOp-dyn g y).range_meaning y.1) c.args.ops.now in
    let a = lent (over c.args.acts) c.args.room in
    let b = over c.end_open-acts.result.acts in
    let k = c.end_open-acts.ensures in
    let offed = subst (λ (r : Result (Unit {0}) SpaceFault). OffCounts (g.E.Engine.view c.args.acts.engine) (g.E.Engine.view c.end_open-acts.result.acts.engine) c.args.acts.breaks c.end_open-acts.result.acts.breaks r) c.in-Ok.is k.counts in
    let d = over c.in-Ok-reach_all.acts in
    let o = c.in-Ok-reach_all.ensures in
    counts_over {U = Unit {0}} g.E.Engine.recovers a d b.engine b.breaks {x = tt} (Ok c.in-Ok-reach_all.acts) offed o.counts (o.looks t).told (o.looks t).tail

pub returns-in-Err-reach_all-clause-failed : goal.returns-in-Err-reach_all-clause-failed
returns-in-Err-reach_all-clause-failed g c =
    let t = table_of (λ y. (given.RecordOp-dyn g y).record_meaning y.1) (λ y. (given.RangeOp-dyn g y).range_meaning y.1) c.args.ops.now in
    let a = lent (over c.args.acts) c.args.room in
    let b = over c.end_open-acts.result.acts in
    let k = c.end_open-acts.ensures in
    let offed = subst (λ (r : Result (Unit {0}) SpaceFault). OffCounts (g.E.Engine.view c.args.acts.engine) (g.E.Engine.view c.end_open-acts.result.acts.engine) c.args.acts.breaks c.end_open-acts.result.acts.breaks r) c.in-Ok.is k.counts in
    let d = over c.in-Err-reach_all.not.acts in
    let o = c.in-Err-reach_all.ensures in
    counts_over {U = Unit {0}} g.E.Engine.recovers a d b.engine b.breaks {x = tt} (Err c.in-Err-reach_all.not.why) offed o.failed (λ h. absurd ((o.stopped t).silent h)) (o.stopped t).tail

pub returns-in-Err-reach_all-clause-log_end : goal.returns-in-Err-reach_all-clause-log_end
returns-in-Err-reach_all-clause-log_end g c = near_over (g.E.Engine.view c.in-Err-reach_all.not.acts.engine).tail c.in-Err-reach_all.not.why c.in-Err-reach_all.ensures.failed.no_end

pub returns-in-Err-reach_all-clause-refused : goal.returns-in-Err-reach_all-clause-refused
returns-in-Err-reach_all-clause-refused g c = λ z from f told found.
    let t = table_of (λ y. (given.RecordOp-dyn g y).record_meaning y.1) (λ y. (given.RangeOp-dyn g y).range_meaning y.1) c.args.ops.now in
    let a = lent (over c.args.acts) c.args.room in
    let b = over c.end_open-acts.result.acts in
    let k = c.end_open-acts.ensures in
    let offed = subst (λ (r : Result (Unit {0}) SpaceFault). OffCounts (g.E.Engine.view c.args.acts.engine) (g.E.Engine.view c.end_open-acts.result.acts.engine) c.args.acts.breaks c.end_open-acts.result.acts.breaks r) c.in-Ok.is k.counts in
    let d = over c.in-Err-reach_all.not.acts in
    let o = c.in-Err-reach_all.ensures in
    takes_off g.E.Engine.recovers a d t z from c.args.acts.actor.txn.0 (took_stopped from a.engine b.engine d.engine (k.took from f.stands told) (o.stopped t) (k.means from f.stands)) f.size

pub returns-in-Ok-reach_all-clause-means : goal.returns-in-Ok-reach_all-clause-means
returns-in-Ok-reach_all-clause-means g c = λ z from f.
    let t = table_of (λ y. (given.RecordOp-dyn g y).record_meaning y.1) (λ y. (given.RangeOp-dyn g y).range_meaning y.1) c.args.ops.now in
    let a = lent (over c.args.acts) c.args.room in
    let b = over c.end_open-acts.result.acts in
    let k = c.end_open-acts.ensures in
    let offed = subst (λ (r : Result (Unit {0}) SpaceFault). OffCounts (g.E.Engine.view c.args.acts.engine) (g.E.Engine.view c.end_open-acts.result.acts.engine) c.args.acts.breaks c.end_open-acts.result.acts.breaks r) c.in-Ok.is k.counts in
    let d = over c.in-Ok-reach_all.acts in
    let o = c.in-Ok-reach_all.ensures in
    let m1 = k.means from f.stands in
    let m2 = (o.looks t).means from m1 in
    let long = long_same a b k.unfreed c.args.acts.page_flags c.end_open-acts.result.acts.page_flags in
    let wide = wide_same a b k.unfreed c.args.acts.band_flags c.end_open-acts.result.acts.band_flags in
    means_now a d t z from f m2 refl o.begun (o.pages ∙ long) (o.bands ∙ wide) (λ told2.
    let told1 = (o.looks t).told told2 in
    let told = k.counts.told told1 in
    regained_by {recovers = g.E.Engine.recovers} {b = b} {c = d} {t = t} z {from = from} (long ∙ f.pages) (wide ∙ f.bands) told2 (record {
      looks = o.looks t;
      stands = m1;
      whole = g.met.E.Engine.told_whole _ told2;
      rests = on_ok_at c.end_open-acts.result.off tt c.in-Ok.is (k.rests from f.stands) c.if-not-goes_on.false told1;
      rows = ap (λ v. v.items) o.rows;
      actor = o.actor;
      walked = o.walked told1;
      bytes = o.bytes t from m1 told1;
      pages = o.pages;
      was = g.met.E.Engine.now_is _ t from m1 told1;
      now = g.met.E.Engine.now_is _ t from m2 told2;
      fit = g.met.E.Engine.pages_fit _ t from m2 told2;
      freed = subst HasFreedNone (sym (o.unfreed ∙ k.unfreed)) (f.made told).freed;
      page_flags = c.in-Ok-reach_all.acts.page_flags;
      band_flags = c.in-Ok-reach_all.acts.band_flags;
      spare = c.end_open-acts.ensures.spare c.if-not-goes_on.false;
    }))

pub returns-in-Ok-reach_all-clause-takes : goal.returns-in-Ok-reach_all-clause-takes
returns-in-Ok-reach_all-clause-takes g c = λ z from f told found.
    let t = table_of (λ y. (given.RecordOp-dyn g y).record_meaning y.1) (λ y. (given.RangeOp-dyn g y).range_meaning y.1) c.args.ops.now in
    let a = lent (over c.args.acts) c.args.room in
    let b = over c.end_open-acts.result.acts in
    let k = c.end_open-acts.ensures in
    let offed = subst (λ (r : Result (Unit {0}) SpaceFault). OffCounts (g.E.Engine.view c.args.acts.engine) (g.E.Engine.view c.end_open-acts.result.acts.engine) c.args.acts.breaks c.end_open-acts.result.acts.breaks r) c.in-Ok.is k.counts in
    let d = over c.in-Ok-reach_all.acts in
    let o = c.in-Ok-reach_all.ensures in
    let told1 = offed.tells told in
    let told2 = o.counts.tells told1 in
    let m1 = k.means from f.stands in
    let m2 = (o.looks t).means from m1 in
    let long = long_same a b k.unfreed c.args.acts.page_flags c.end_open-acts.result.acts.page_flags in
    let wide = wide_same a b k.unfreed c.args.acts.band_flags c.end_open-acts.result.acts.band_flags in
    let h = regained_by {recovers = g.E.Engine.recovers} {b = b} {c = d} {t = t} z {from = from} (long ∙ f.pages) (wide ∙ f.bands) told2 (record {
      looks = o.looks t;
      stands = m1;
      whole = g.met.E.Engine.told_whole _ told2;
      rests = on_ok_at c.end_open-acts.result.off tt c.in-Ok.is (k.rests from f.stands) c.if-not-goes_on.false told1;
      rows = ap (λ v. v.items) o.rows;
      actor = o.actor;
      walked = o.walked told1;
      bytes = o.bytes t from m1 told1;
      pages = o.pages;
      was = g.met.E.Engine.now_is _ t from m1 told1;
      now = g.met.E.Engine.now_is _ t from m2 told2;
      fit = g.met.E.Engine.pages_fit _ t from m2 told2;
      freed = subst HasFreedNone (sym (o.unfreed ∙ k.unfreed)) (f.made told).freed;
      page_flags = c.in-Ok-reach_all.acts.page_flags;
      band_flags = c.in-Ok-reach_all.acts.band_flags;
      spare = c.end_open-acts.ensures.spare c.if-not-goes_on.false;
    }) in
    let w = took_then from a.engine b.engine d.engine (k.took from f.stands told) (o.looks t) m1 in
    let s = c.requires.can in
    let l = leads_off g.E.Engine.recovers a t s.sizes (s.from told) from (s.can told) (g.met.E.Engine.now_is _ t (s.from told) (s.means told).stands told) (g.met.E.Engine.now_is _ t from f.stands told) in (
      takes_off g.E.Engine.recovers a d t z from c.args.acts.actor.txn.0 w f.size,
      taken_off g.E.Engine.recovers a d t z from c.args.acts.actor.txn.0 w h told2 (g.met.E.Engine.told_whole _ told2) l (returns-in-Ok-reach_all-clause-means g c z from f)
          (record { law = g.met.E.Engine.lawful _ t from m2; first = g.met.E.Engine.durable_first _ told2; images = g.met.E.Engine.images _ t from m2 told2 }) o.begun,
    )

pub returns-in-Ok-reach_all-clause-reads : goal.returns-in-Ok-reach_all-clause-reads
returns-in-Ok-reach_all-clause-reads g c = λ z from f told found.
    let t = table_of (λ y. (given.RecordOp-dyn g y).record_meaning y.1) (λ y. (given.RangeOp-dyn g y).range_meaning y.1) c.args.ops.now in
    let a = lent (over c.args.acts) c.args.room in
    let b = over c.end_open-acts.result.acts in
    let k = c.end_open-acts.ensures in
    let offed = subst (λ (r : Result (Unit {0}) SpaceFault). OffCounts (g.E.Engine.view c.args.acts.engine) (g.E.Engine.view c.end_open-acts.result.acts.engine) c.args.acts.breaks c.end_open-acts.result.acts.breaks r) c.in-Ok.is k.counts in
    let d = over c.in-Ok-reach_all.acts in
    let o = c.in-Ok-reach_all.ensures in
    let told1 = offed.tells told in
    let told2 = o.counts.tells told1 in
    let m1 = k.means from f.stands in
    let m2 = (o.looks t).means from m1 in
    let long = long_same a b k.unfreed c.args.acts.page_flags c.end_open-acts.result.acts.page_flags in
    let wide = wide_same a b k.unfreed c.args.acts.band_flags c.end_open-acts.result.acts.band_flags in
    let h = regained_by {recovers = g.E.Engine.recovers} {b = b} {c = d} {t = t} z {from = from} (long ∙ f.pages) (wide ∙ f.bands) told2 (record {
      looks = o.looks t;
      stands = m1;
      whole = g.met.E.Engine.told_whole _ told2;
      rests = on_ok_at c.end_open-acts.result.off tt c.in-Ok.is (k.rests from f.stands) c.if-not-goes_on.false told1;
      rows = ap (λ v. v.items) o.rows;
      actor = o.actor;
      walked = o.walked told1;
      bytes = o.bytes t from m1 told1;
      pages = o.pages;
      was = g.met.E.Engine.now_is _ t from m1 told1;
      now = g.met.E.Engine.now_is _ t from m2 told2;
      fit = g.met.E.Engine.pages_fit _ t from m2 told2;
      freed = subst HasFreedNone (sym (o.unfreed ∙ k.unfreed)) (f.made told).freed;
      page_flags = c.in-Ok-reach_all.acts.page_flags;
      band_flags = c.in-Ok-reach_all.acts.band_flags;
      spare = c.end_open-acts.ensures.spare c.if-not-goes_on.false;
    }) in
    let w = took_then from a.engine b.engine d.engine (k.took from f.stands told) (o.looks t) m1 in
    let s = c.requires.can in
    let l = leads_off g.E.Engine.recovers a t s.sizes (s.from told) from (s.can told) (g.met.E.Engine.now_is _ t (s.from told) (s.means told).stands told) (g.met.E.Engine.now_is _ t from f.stands told) in
    reads g.E.Engine.recovers a d t z from c.args.acts.actor.txn.0 w h told2 (g.met.E.Engine.told_whole _ told2) l

pub returns-in-Err-reach_all-clause-broken : goal.returns-in-Err-reach_all-clause-broken
returns-in-Err-reach_all-clause-broken g c =
    let t = table_of (λ y. (given.RecordOp-dyn g y).record_meaning y.1) (λ y. (given.RangeOp-dyn g y).range_meaning y.1) c.args.ops.now in
    broken_then c.in-Err-reach_all.not.why (λ none z from f told found.
    let a = lent (over c.args.acts) c.args.room in
    let b = over c.end_open-acts.result.acts in
    let k = c.end_open-acts.ensures in
    let offed = subst (λ (r : Result (Unit {0}) SpaceFault). OffCounts (g.E.Engine.view c.args.acts.engine) (g.E.Engine.view c.end_open-acts.result.acts.engine) c.args.acts.breaks c.end_open-acts.result.acts.breaks r) c.in-Ok.is k.counts in
    let told1 = offed.tells told in
    let m1 = k.means from f.stands in
    let long = long_same a b k.unfreed c.args.acts.page_flags c.end_open-acts.result.acts.page_flags in
    let wide = wide_same a b k.unfreed c.args.acts.band_flags c.end_open-acts.result.acts.band_flags in
    let r = on_ok_at c.end_open-acts.result.off tt c.in-Ok.is (k.rests from f.stands) c.if-not-goes_on.false told1 in
    let s = c.requires.can in
    let l = leads_off g.E.Engine.recovers a t s.sizes (s.from told) from (s.can told) (g.met.E.Engine.now_is _ t (s.from told) (s.means told).stands told) (g.met.E.Engine.now_is _ t from f.stands told) in
    none_read_of g.E.Engine.recovers a b t z from c.args.acts.actor.txn.0 (k.took from f.stands told) (g.met.E.Engine.told_whole _ told1)
    (rest_idle b.engine.base b.engine.steps b.engine.tail b.rows (subst (λ (x : Actor). IsChained b.engine.base b.engine.steps b.engine.tail b.rows x) r.rest r.chain))
    (g.met.E.Engine.now_is _ t from m1 told1) l
    (subst (λ (n : ℕ). (q : Contents) → ReadsAs z.pages n b.engine.now q → ⊥) (wide ∙ f.bands) (subst (λ (n : ℕ). (q : Contents) → ReadsAs n (length b.maps.bands) b.engine.now q → ⊥) (long ∙ f.pages) (none told1)))) c.in-Err-reach_all.ensures.broken
