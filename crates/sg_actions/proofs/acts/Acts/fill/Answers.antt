use Rattle.std.proofs.Common.{sym, subst, refl, ap, arith, IsSome}
use Rattle.sg_record.specs.Changes.{BandOp}
use Rattle.sg_record.specs.Changes.Change.{SegOp}
use Rattle.sg_record.specs.Ranges.{IsRecord}
use Rattle.sg_record.specs.Records.Says.{Changed}
use Rattle.sg_record.specs.Shown.{by}
use Rattle.sg_actions.proofs.Accounting.{within_by}
use Rattle.sg_actions.proofs.Calling.{said_log_any}
use Rattle.sg_actions.proofs.InRange.{fill_in}
use Rattle.sg_ops.specs.Table.{range_at}
use Rattle.sg_actions.proofs.Flags.{some_is}
use Rattle.sg_actions.proofs.GoingOn.{formed_change, can_change}
use Rattle.sg_actions.proofs.acts.Acts.fill.Goals as goal

pub log-requires-clause-range : goal.log-requires-clause-range
log-requires-clause-range g c = subst (λ (x : BandOp). IsRecord (by c.args.self.now.actor.txn.0 c.args.self.now.actor.last (Changed (SegOp x)))) (sym c.spell_op.ensures) (fill_in _ _ c.args.b.0 c.args.at c.is_number.ensures c.is_number-2.ensures c.requires.band c.requires.within)

pub returns-clause-range : goal.returns-clause-range
returns-clause-range g c = fill_in _ _ c.args.b.0 c.args.at c.is_number.ensures c.is_number-2.ensures c.requires.band c.requires.within

pub returns-in_err-lsn-clause-range : goal.returns-in_err-lsn-clause-range
returns-in_err-lsn-clause-range g c = fill_in _ _ c.args.b.0 c.args.at c.is_number.ensures c.is_number-2.ensures c.requires.band c.requires.within

pub invariant_of-self-2-clause-pages_said : goal.invariant_of-self-2-clause-pages_said
invariant_of-self-2-clause-pages_said g c = said_log_any g.E.Engine.recovers (g.E.Engine.means c.args.self.now.engine) (g.E.Engine.means c.log.new.self) c.args.self.now.maps.pages (g.met.E.Engine.some c.args.self.now.engine) (λ t. (record { grows = c.log.ensures.grows; keeps = λ from m. c.log.ensures.means t from m; logs = λ from m. c.log.ensures.logs t from m; whole = g.met.E.Engine.told_whole _; full = g.met.E.Engine.full_failed _; now = λ from m. g.met.E.Engine.now_is _ t from m; now' = λ from m. g.met.E.Engine.now_is _ t from m; law = λ from m. g.met.E.Engine.lawful _ t from m })) refl c.args.self.now.pages_said

pub invariant_of-self-2-clause-within : goal.invariant_of-self-2-clause-within
invariant_of-self-2-clause-within g c = within_by c.log.ensures.grows.counts c.args.self.now.within

pub invariant_of-self-2-clause-unbroken : goal.invariant_of-self-2-clause-unbroken
invariant_of-self-2-clause-unbroken g c = λ told. c.args.self.now.unbroken (c.log.ensures.grows.counts.told told)

pub log-requires-clause-can : goal.log-requires-clause-can
log-requires-clause-can g c = λ t from m told. record {
  there = let e = ap (λ (x : BandOp). x.band) c.spell_op.ensures in let b = c.requires.there told in omega (arith, e, b);
  fits = refl;
  known = subst (λ (x : BandOp). IsSome (range_at t x.code)) (sym c.spell_op.ensures) (some_is (g.met.E.Engine.lawful _ t from m).has_fill);
  formed = formed_change (g.E.Engine.view c.args.self.now.engine) c.args.self.now.begun c.args.self.now.actor _ c.requires.begun c.args.self.now.goes_on told;
  means = λ u. u (ap (λ (x : BandOp). x.code) c.spell_op.ensures);
}

pub invariant_of-self-2-clause-goes_on : goal.invariant_of-self-2-clause-goes_on
invariant_of-self-2-clause-goes_on g c = can_change g.E.Engine.recovers (g.E.Engine.means c.args.self.now.engine) (g.E.Engine.means c.log.new.self) c.args.self.now.begun c.args.self.now.actor _ _ (g.met.E.Engine.some c.args.self.now.engine) (λ t. (record { grows = c.in_ok-lsn.ensures.grows; keeps = λ from m. c.in_ok-lsn.ensures.means t from m; logs = λ from m. c.in_ok-lsn.ensures.logs t from m; whole = g.met.E.Engine.told_whole _; full = g.met.E.Engine.full_failed _; now = λ from m. g.met.E.Engine.now_is _ t from m; now' = λ from m. g.met.E.Engine.now_is _ t from m; law = λ from m. g.met.E.Engine.lawful _ t from m })) refl refl c.args.self.now.goes_on
