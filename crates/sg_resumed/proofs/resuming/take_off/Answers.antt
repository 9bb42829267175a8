use mathlib.Core.Logic.{∥∥₁_elim, ∥∥₁_prop}
use Rattle.std.proofs.Common.{ℕ, Ok, sym, subst, ap, ◌∙◌, ◌≡◌, true, false}
use Rattle.sg_ops.specs.Table.{table_of}
use Rattle.sg_actions.specs.Engine.{led}
use Rattle.sg_actions.proofs.Finishing.{on_ok}
use Rattle.sg_actions.proofs.GoneOff.{off_then, off_as}
use Rattle.sg_resumed.proofs.Going.{none_kept, means_all, went_all, going_all, told_all, counts_then}
use Rattle.sg_alloc.specs.declared.maps.Maps.{Maps}
use Rattle.sg_actions.specs.Engine.{Extent}
use Rattle.sg_actions.specs.Taken.{IsWithin}
use Rattle.sg_actions.specs.WentOff.{OffCounts}
use Rattle.sg_resumed.proofs.Counted.{no_table}
use Rattle.sg_resumed.proofs.resuming.take_off.Given as given
use Rattle.sg_resumed.proofs.resuming.take_off.Goals as goal

pub resume-off-requires-clause-by : goal.resume-off-requires-clause-by
resume-off-requires-clause-by g c = λ told.
    let k = c.in-Ok.ensures in
    let t = table_of (λ y. (given.RecordOp-dyn g y).record_meaning y.1) (λ y. (given.RangeOp-dyn g y).range_meaning y.1) c.args.ops.now in
    ∥∥₁_elim (c.requires.by (told_all g.E.Engine.view g.E.Engine.means g.E.Engine.recovers t (g.E.Engine.view c.args.acts.engine).now c.args.acts.engine c.into_parts-engine.result.engine c.find_in-found.new.engine c.of_parts-acts.result.engine c.into_parts-engine.ensures.engine c.of_parts-acts.ensures.engine (k.looks t) told)) ∥∥₁_prop (λ x. ∣ (x.0, means_all g.E.Engine.view g.E.Engine.means g.E.Engine.recovers t x.0 c.args.acts.engine c.into_parts-engine.result.engine c.find_in-found.new.engine c.of_parts-acts.result.engine c.into_parts-engine.ensures.engine c.of_parts-acts.ensures.engine (k.looks t) x.1) ∣₁)

pub resume-off-requires-clause-off : goal.resume-off-requires-clause-off
resume-off-requires-clause-off g c = λ told.
    let k = c.in-Ok.ensures in
    let t = table_of (λ y. (given.RecordOp-dyn g y).record_meaning y.1) (λ y. (given.RangeOp-dyn g y).range_meaning y.1) c.args.ops.now in
    ∥∥₁_elim (c.requires.by (told_all g.E.Engine.view g.E.Engine.means g.E.Engine.recovers t (g.E.Engine.view c.args.acts.engine).now c.args.acts.engine c.into_parts-engine.result.engine c.find_in-found.new.engine c.of_parts-acts.result.engine c.into_parts-engine.ensures.engine c.of_parts-acts.ensures.engine (k.looks t) told)) ∥∥₁_prop (λ x.
    let r = going_all g.E.Engine.view g.E.Engine.means g.E.Engine.recovers t x.0 c.args.acts.engine c.into_parts-engine.result.engine c.find_in-found.new.engine c.of_parts-acts.result.engine c.into_parts-engine.ensures.engine c.of_parts-acts.ensures.engine (k.looks t) g.E.Engine.first_byte c.args.acts.rows.items c.into_parts-engine.result.rows.items c.of_parts-acts.result.rows.items c.args.acts.actor c.into_parts-engine.result.actor c.find_in-found.new.actor c.of_parts-acts.result.actor c.in-Ok.at (ap (λ v. v.items) c.into_parts-engine.ensures.rows) c.into_parts-engine.ensures.actor (ap (λ v. v.items) c.of_parts-acts.ensures.rows) c.of_parts-acts.ensures.actor k.txn k.last (g.met.E.Engine.told_whole c.find_in-found.new.engine) c.requires.can (c.requires.off x.0) (k.found t x.0) (λ z. c.is_within-within.ensures c.if-not-within.false (ap (λ u. u.0) k.txn ∙ z)) x.1 told in
    ∣ (x.0, means_all g.E.Engine.view g.E.Engine.means g.E.Engine.recovers t x.0 c.args.acts.engine c.into_parts-engine.result.engine c.find_in-found.new.engine c.of_parts-acts.result.engine c.into_parts-engine.ensures.engine c.of_parts-acts.ensures.engine (k.looks t) x.1, record { kept = none_kept; begin = r.0; going = r.1 }) ∣₁)

pub returns-else-not-within-clause-means : goal.returns-else-not-within-clause-means
returns-else-not-within-clause-means g c = λ from m.
    let k = c.in-Ok.ensures in
    let t = table_of (λ y. (given.RecordOp-dyn g y).record_meaning y.1) (λ y. (given.RangeOp-dyn g y).range_meaning y.1) c.args.ops.now in
    c.resume-off.ensures.means from (means_all g.E.Engine.view g.E.Engine.means g.E.Engine.recovers t from c.args.acts.engine c.into_parts-engine.result.engine c.find_in-found.new.engine c.of_parts-acts.result.engine c.into_parts-engine.ensures.engine c.of_parts-acts.ensures.engine (k.looks t) m)

pub returns-in-Err-clause-means : goal.returns-in-Err-clause-means
returns-in-Err-clause-means g c = λ from m.
    let k = c.in-Err.ensures in
    let t = table_of (λ y. (given.RecordOp-dyn g y).record_meaning y.1) (λ y. (given.RangeOp-dyn g y).range_meaning y.1) c.args.ops.now in
    means_all g.E.Engine.view g.E.Engine.means g.E.Engine.recovers t from c.args.acts.engine c.into_parts-engine.result.engine c.find_in-found.new.engine c.of_parts-acts.result.engine c.into_parts-engine.ensures.engine c.of_parts-acts.ensures.engine (k.looks t) m

pub returns-in-Err-clause-went : goal.returns-in-Err-clause-went
returns-in-Err-clause-went g c = λ from m told.
    let k = c.in-Err.ensures in
    let t = table_of (λ y. (given.RecordOp-dyn g y).record_meaning y.1) (λ y. (given.RangeOp-dyn g y).range_meaning y.1) c.args.ops.now in
    went_all g.E.Engine.view g.E.Engine.means g.E.Engine.recovers t from c.args.acts.engine c.into_parts-engine.result.engine c.find_in-found.new.engine c.of_parts-acts.result.engine c.into_parts-engine.ensures.engine c.of_parts-acts.ensures.engine (k.looks t) c.args.acts.actor.txn.0 m told (c.requires.can told).formed

pub returns-else-not-within-clause-went : goal.returns-else-not-within-clause-went
returns-else-not-within-clause-went g c = λ from m told.
    let k = c.in-Ok.ensures in
    let t = table_of (λ y. (given.RecordOp-dyn g y).record_meaning y.1) (λ y. (given.RangeOp-dyn g y).range_meaning y.1) c.args.ops.now in
    let m1 = means_all g.E.Engine.view g.E.Engine.means g.E.Engine.recovers t from c.args.acts.engine c.into_parts-engine.result.engine c.find_in-found.new.engine c.of_parts-acts.result.engine c.into_parts-engine.ensures.engine c.of_parts-acts.ensures.engine (k.looks t) m in
    off_then (led from (g.E.Engine.view c.args.acts.engine)) (led from (g.E.Engine.view c.of_parts-acts.result.engine)) (led from (g.E.Engine.view c.resume-off.new.self.engine)) (went_all g.E.Engine.view g.E.Engine.means g.E.Engine.recovers t from c.args.acts.engine c.into_parts-engine.result.engine c.find_in-found.new.engine c.of_parts-acts.result.engine c.into_parts-engine.ensures.engine c.of_parts-acts.ensures.engine (k.looks t) c.args.acts.actor.txn.0 m told (c.requires.can told).formed) c.resume-off.ensures.counts.stops
    (λ told1. let r = going_all g.E.Engine.view g.E.Engine.means g.E.Engine.recovers t from c.args.acts.engine c.into_parts-engine.result.engine c.find_in-found.new.engine c.of_parts-acts.result.engine c.into_parts-engine.ensures.engine c.of_parts-acts.ensures.engine (k.looks t) g.E.Engine.first_byte c.args.acts.rows.items c.into_parts-engine.result.rows.items c.of_parts-acts.result.rows.items c.args.acts.actor c.into_parts-engine.result.actor c.find_in-found.new.actor c.of_parts-acts.result.actor c.in-Ok.at (ap (λ v. v.items) c.into_parts-engine.ensures.rows) c.into_parts-engine.ensures.actor (ap (λ v. v.items) c.of_parts-acts.ensures.rows) c.of_parts-acts.ensures.actor k.txn k.last (g.met.E.Engine.told_whole c.find_in-found.new.engine) c.requires.can (c.requires.off from) (k.found t from) (λ z. c.is_within-within.ensures c.if-not-within.false (ap (λ u. u.0) k.txn ∙ z)) m told1 in
    off_as (ap (λ a. a.txn.0) c.of_parts-acts.ensures.actor ∙ (ap (λ u. u.0) k.txn ∙ ap (λ a. a.txn.0) c.into_parts-engine.ensures.actor)) (c.resume-off.ensures.goes from m1 told1 none_kept r.0 r.1))

pub returns-else-not-within-clause-off : goal.returns-else-not-within-clause-off
returns-else-not-within-clause-off g c = λ from m.
    let k = c.in-Ok.ensures in
    let t = table_of (λ y. (given.RecordOp-dyn g y).record_meaning y.1) (λ y. (given.RangeOp-dyn g y).range_meaning y.1) c.args.ops.now in
    let m1 = means_all g.E.Engine.view g.E.Engine.means g.E.Engine.recovers t from c.args.acts.engine c.into_parts-engine.result.engine c.find_in-found.new.engine c.of_parts-acts.result.engine c.into_parts-engine.ensures.engine c.of_parts-acts.ensures.engine (k.looks t) m in
    on_ok c.resume-off.result (λ over yes told2. (let told1 = c.resume-off.ensures.told told2 in let r = going_all g.E.Engine.view g.E.Engine.means g.E.Engine.recovers t from c.args.acts.engine c.into_parts-engine.result.engine c.find_in-found.new.engine c.of_parts-acts.result.engine c.into_parts-engine.ensures.engine c.of_parts-acts.ensures.engine (k.looks t) g.E.Engine.first_byte c.args.acts.rows.items c.into_parts-engine.result.rows.items c.of_parts-acts.result.rows.items c.args.acts.actor c.into_parts-engine.result.actor c.find_in-found.new.actor c.of_parts-acts.result.actor c.in-Ok.at (ap (λ v. v.items) c.into_parts-engine.ensures.rows) c.into_parts-engine.ensures.actor (ap (λ v. v.items) c.of_parts-acts.ensures.rows) c.of_parts-acts.ensures.actor k.txn k.last (g.met.E.Engine.told_whole c.find_in-found.new.engine) c.requires.can (c.requires.off from) (k.found t from) (λ z. c.is_within-within.ensures c.if-not-within.false (ap (λ u. u.0) k.txn ∙ z)) m told1 in over none_kept r.0 (λ w. r.1) told2).chain) (c.resume-off.ensures.over from m1)

pub returns-else-not-within-clause-rest : goal.returns-else-not-within-clause-rest
returns-else-not-within-clause-rest g c = λ from m.
    let k = c.in-Ok.ensures in
    let t = table_of (λ y. (given.RecordOp-dyn g y).record_meaning y.1) (λ y. (given.RangeOp-dyn g y).range_meaning y.1) c.args.ops.now in
    let m1 = means_all g.E.Engine.view g.E.Engine.means g.E.Engine.recovers t from c.args.acts.engine c.into_parts-engine.result.engine c.find_in-found.new.engine c.of_parts-acts.result.engine c.into_parts-engine.ensures.engine c.of_parts-acts.ensures.engine (k.looks t) m in
    on_ok c.resume-off.result (λ over yes told2. (let told1 = c.resume-off.ensures.told told2 in let r = going_all g.E.Engine.view g.E.Engine.means g.E.Engine.recovers t from c.args.acts.engine c.into_parts-engine.result.engine c.find_in-found.new.engine c.of_parts-acts.result.engine c.into_parts-engine.ensures.engine c.of_parts-acts.ensures.engine (k.looks t) g.E.Engine.first_byte c.args.acts.rows.items c.into_parts-engine.result.rows.items c.of_parts-acts.result.rows.items c.args.acts.actor c.into_parts-engine.result.actor c.find_in-found.new.actor c.of_parts-acts.result.actor c.in-Ok.at (ap (λ v. v.items) c.into_parts-engine.ensures.rows) c.into_parts-engine.ensures.actor (ap (λ v. v.items) c.of_parts-acts.ensures.rows) c.of_parts-acts.ensures.actor k.txn k.last (g.met.E.Engine.told_whole c.find_in-found.new.engine) c.requires.can (c.requires.off from) (k.found t from) (λ z. c.is_within-within.ensures c.if-not-within.false (ap (λ u. u.0) k.txn ∙ z)) m told1 in over none_kept r.0 (λ w. r.1) told2).rest) (c.resume-off.ensures.over from m1)

pub of_parts-acts-requires-clause-within : goal.of_parts-acts-requires-clause-within
of_parts-acts-requires-clause-within g c = λ told.
    let l = c.find_in-found.ensures.looks no_table in
    let e = g.E.Engine.view c.args.acts.engine in
    let r = c.into_parts-engine.result in
    subst (λ (x : Extent). IsWithin r.maps.pages r.maps.bands x) (sym l.extent)
    (subst (λ x. (g.E.Engine.view x).Told → IsWithin r.maps.pages r.maps.bands (g.E.Engine.view x).extent) (sym c.into_parts-engine.ensures.engine)
    (subst (λ (m : Maps). e.Told → IsWithin m.pages m.bands e.extent) (sym c.into_parts-engine.ensures.maps) c.into_parts-engine.ensures.within) (l.told told))

pub returns-then-not-within-clause-means : goal.returns-then-not-within-clause-means
returns-then-not-within-clause-means g c = λ from m.
    let k = c.in-Ok.ensures in
    let t = table_of (λ y. (given.RecordOp-dyn g y).record_meaning y.1) (λ y. (given.RangeOp-dyn g y).range_meaning y.1) c.args.ops.now in
    means_all g.E.Engine.view g.E.Engine.means g.E.Engine.recovers t from c.args.acts.engine c.into_parts-engine.result.engine c.find_in-found.new.engine c.of_parts-acts.result.engine c.into_parts-engine.ensures.engine c.of_parts-acts.ensures.engine (k.looks t) m

pub returns-then-not-within-clause-went : goal.returns-then-not-within-clause-went
returns-then-not-within-clause-went g c = λ from m told.
    let k = c.in-Ok.ensures in
    let t = table_of (λ y. (given.RecordOp-dyn g y).record_meaning y.1) (λ y. (given.RangeOp-dyn g y).range_meaning y.1) c.args.ops.now in
    went_all g.E.Engine.view g.E.Engine.means g.E.Engine.recovers t from c.args.acts.engine c.into_parts-engine.result.engine c.find_in-found.new.engine c.of_parts-acts.result.engine c.into_parts-engine.ensures.engine c.of_parts-acts.ensures.engine (k.looks t) c.args.acts.actor.txn.0 m told (c.requires.can told).formed

pub returns-else-not-within-clause-counts : goal.returns-else-not-within-clause-counts
returns-else-not-within-clause-counts g c =
    let p = c.into_parts-engine.result in
    let f = c.find_in-found.new in
    let a = c.of_parts-acts.result in
    let n = c.resume-off.new.self in
    counts_then {T = ℕ} c.resume-off.result
    (subst (λ e. OffCounts {T = ℕ} (g.E.Engine.view e) (g.E.Engine.view f.engine) c.args.acts.breaks f.breaks (Ok c.in-Ok.at)) c.into_parts-engine.ensures.engine
    (subst (λ (k : ℕ). OffCounts {T = ℕ} (g.E.Engine.view p.engine) (g.E.Engine.view f.engine) k f.breaks (Ok c.in-Ok.at)) c.into_parts-engine.ensures.breaks c.in-Ok.ensures.counts))
    (subst (λ e. OffCounts (g.E.Engine.view e) (g.E.Engine.view n.engine) f.breaks n.breaks c.resume-off.result) c.of_parts-acts.ensures.engine
    (subst (λ (k : ℕ). OffCounts (g.E.Engine.view a.engine) (g.E.Engine.view n.engine) k n.breaks c.resume-off.result) c.of_parts-acts.ensures.breaks c.resume-off.ensures.counts))

pub of_parts-acts-requires-clause-goes_on : goal.of_parts-acts-requires-clause-goes_on
of_parts-acts-requires-clause-goes_on g c = λ opens. absurd (let bad : false ≡ true = opens in cc)
