use Rattle.std.proofs.Common.{ℕ, sym, subst, ◌∙◌}
use Rattle.sg_ops.specs.Table.{table_of}
use Rattle.sg_actions.specs.Engine.{led}
use Rattle.sg_actions.specs.WentOff.{OffCounts}
use Rattle.sg_regained.specs.Regained.{TookOff}
use Rattle.sg_regained.proofs.Spared.{rests_spared, vacant_end, on_ok_then}
use Rattle.sg_regained.proofs.regaining.end_open.Given as given
use Rattle.sg_regained.proofs.regaining.end_open.Goals as goal

pub returns-clause-means : goal.returns-clause-means
returns-clause-means g c = λ from m.
    let t = table_of (λ y. (given.RecordOp-dyn g y).record_meaning y.1) (λ y. (given.RangeOp-dyn g y).range_meaning y.1) c.args.ops.now in
    subst (λ e. g.E.Engine.means e t from) (sym c.with_spare-acts.ensures.engine) (c.off_open-acts.ensures.means from m)

pub returns-clause-counts : goal.returns-clause-counts
returns-clause-counts g c =
    let a = c.args.acts in
    let o = c.off_open-acts.result in
    let s = c.with_spare-acts in
    subst (λ e. OffCounts (g.E.Engine.view a.engine) (g.E.Engine.view e) a.breaks s.result.acts.breaks o.off) (sym s.ensures.engine)
    (subst (λ (n : ℕ). OffCounts (g.E.Engine.view a.engine) (g.E.Engine.view o.acts.engine) a.breaks n o.off) (sym s.ensures.breaks) c.off_open-acts.ensures.counts)

pub returns-clause-took : goal.returns-clause-took
returns-clause-took g c = λ from m told.
    let t = table_of (λ y. (given.RecordOp-dyn g y).record_meaning y.1) (λ y. (given.RangeOp-dyn g y).range_meaning y.1) c.args.ops.now in
    let a = c.args.acts in
    subst (λ e. TookOff (g.E.Engine.recovers t) t a.actor.txn.0 (led from (g.E.Engine.view a.engine)) (led from (g.E.Engine.view e))) (sym c.with_spare-acts.ensures.engine)
    (c.off_open-acts.ensures.took from m told)

pub returns-clause-rests : goal.returns-clause-rests
returns-clause-rests g c = λ from m.
    let o = c.off_open-acts.result in
    let s = c.with_spare-acts.result.acts in
    let k = c.with_spare-acts.ensures in
    let both = c.both-goes_on.ensures in
    on_ok_then o.off (λ h yes. rests_spared g.E.Engine.view o.acts.engine s.engine o.acts.rows.items s.rows.items o.acts.actor s.actor 65 k.engine (k.rows (both.second yes)) k.actor (h (both.first yes)))
    (c.off_open-acts.ensures.rests from m)

pub returns-clause-spare : goal.returns-clause-spare
returns-clause-spare g c = λ yes.
    vacant_end c.with_spare-acts.result.acts.rows.items c.off_open-acts.result.acts.rows.items (c.with_spare-acts.ensures.rows (c.both-goes_on.ensures.second yes))
