use Rattle.std.proofs.Common.{sym, subst}
use Rattle.sg_ops.specs.Table.{table_of}
use Rattle.sg_actions.specs.Acting.{IsChained}
use Rattle.sg_found.proofs.Running.{chained_found}
use Rattle.sg_regained.proofs.Taking.{took_none, took_some, both_ok}
use Rattle.sg_regained.proofs.regaining.off_open.Given as given
use Rattle.sg_regained.proofs.regaining.off_open.Goals as goal

pub take_off-requires-clause-none : goal.take_off-requires-clause-none
take_off-requires-clause-none g c = λ told. (c.requires.found told).clear

pub take_off-requires-clause-can : goal.take_off-requires-clause-can
take_off-requires-clause-can g c = λ told.
    let f = c.requires.found told in
    let a = f.acts (c.has_last.ensures.yes c.if-has_last.true) in
    record {
      formed = c.requires.formed told;
      based = f.based;
      below = c.requires.below told;
      start = f.start;
      unfinished = a.0;
      last = a.1;
      rows = f.rows;
      low = f.low;
      apart = f.apart;
      known = f.known;
    }

pub returns-then-has_last-clause-took : goal.returns-then-has_last-clause-took
returns-then-has_last-clause-took g c = λ from m told.
    let f = c.requires.found told in
    let a = f.acts (c.has_last.ensures.yes c.if-has_last.true) in
    took_some a.0 (c.take_off.ensures.went from m told)

pub returns-clause-took : goal.returns-clause-took
returns-clause-took g c = λ from m told.
    let t = table_of (λ y. (given.RecordOp-dyn g y).record_meaning y.1) (λ y. (given.RangeOp-dyn g y).range_meaning y.1) c.args.ops.now in
    took_none (g.E.Engine.recovers t) t c.args.acts.actor.txn.0 from (g.E.Engine.view c.args.acts.engine) told (c.requires.formed told) (g.met.E.Engine.images _ t from m told)

pub returns-clause-rests : goal.returns-clause-rests
returns-clause-rests g c = λ from m yes told.
    let e = g.E.Engine.view c.args.acts.engine in
    let f = c.requires.found told in
    let r = f.rest (c.has_last.ensures.no c.if-has_last.false) in
    record {
      chain = subst (λ a. IsChained e.base e.steps e.tail c.args.acts.rows.items a) (sym r.0)
          (chained_found e.base e.steps e.tail c.args.acts.rows.items (c.requires.formed told) f.based (c.requires.below told) r.1 f.rows f.low f.apart f.known);
      rest = r.0;
    }

pub returns-then-has_last-clause-rests : goal.returns-then-has_last-clause-rests
returns-then-has_last-clause-rests g c = λ from m.
    let k = c.take_off.ensures in
    both_ok c.take_off.result.off (k.off from m) (k.rest from m) (λ chain rest yes told. record { chain = chain yes told; rest = rest yes told })
