use Rattle.std.proofs.Common.{le_refl}
use Rattle.sg_paged.proofs.Undone.{none_stand, ok_more, some_more}
use Rattle.sg_paged.proofs.undoing.undo_step.Goals as goal

-- its begin is the record at which to stop
pub undo_step_to-requires : goal.undo_step_to-requires
undo_step_to-requires g c = record {
  can = record {
    by = c.requires.can.by;
    sizes = c.requires.can.sizes;
    from = c.requires.can.from;
    means = c.requires.can.means;
    can = λ told. let at = c.requires.can.can told in record { rest = at.rest; live = at.live; within = le_refl c.args.txn.0 };
  };
}

pub returns-clause-none : goal.returns-clause-none
returns-clause-none g c = λ t z from m told e idle is.
    let q = c.undo_step_to.ensures.none t z from m told e idle is in
    (none_stand (g.E.Engine.view c.args.acts.now.engine).steps c.args.txn.0 e.formed.chained q.0, q.1)

pub returns-clause-some : goal.returns-clause-some
returns-clause-some g c = λ t z from m told a e idle is.
    let q = c.undo_step_to.ensures.some t z from m told a e idle is in
    (q.0, ok_more _ _ c.undo_step_to.result (λ after h. some_more _ _ after (λ next k. (k.0, k.1, k.3, k.4, k.5, k.6, k.7, k.8)) h) q.1)
