use Rattle.std.proofs.Common.{refl, ℕ}
use Rattle.sg_actions.proofs.Accounting.{within_by}
use Rattle.sg_actions.proofs.InRange.{top_void_in}
use Rattle.sg_actions.specs.Engine.{led}
use Rattle.sg_actions.proofs.Led.{log_call}
use Rattle.sg_actions.proofs.GoneOff.{off_void}
use Rattle.sg_actions.proofs.Calling.{said_log_any}
use Rattle.sg_actions.proofs.GoingOn.{formed_void}
use Rattle.std.proofs.lemmas.Result.{err_from_is_err_and}
use Rattle.sg_actions.proofs.Counted.{engine_err, engine_ok}
use Rattle.sg_actions.proofs.acts.Acts.void.Goals as goal

pub log-requires-clause-range : goal.log-requires-clause-range
log-requires-clause-range g c = top_void_in _ _ _ c.is_number.ensures c.is_number-2.ensures c.is_number-3.ensures

pub invariant_of-self-2-clause-pages_said : goal.invariant_of-self-2-clause-pages_said
invariant_of-self-2-clause-pages_said g c = said_log_any g.E.Engine.recovers (g.E.Engine.means c.args.self.now.engine) (g.E.Engine.means c.log.new.self) c.args.self.now.maps.pages (g.met.E.Engine.some c.args.self.now.engine) (λ t. (record { grows = c.log.ensures.grows; keeps = λ from m. c.log.ensures.means t from m; logs = λ from m. c.log.ensures.logs t from m; whole = g.met.E.Engine.told_whole _; full = g.met.E.Engine.full_failed _; now = λ from m. g.met.E.Engine.now_is _ t from m; now' = λ from m. g.met.E.Engine.now_is _ t from m; law = λ from m. g.met.E.Engine.lawful _ t from m })) refl c.args.self.now.pages_said

pub invariant_of-self-2-clause-within : goal.invariant_of-self-2-clause-within
invariant_of-self-2-clause-within g c = within_by c.log.ensures.grows.counts c.args.self.now.within

pub invariant_of-self-2-clause-unbroken : goal.invariant_of-self-2-clause-unbroken
invariant_of-self-2-clause-unbroken g c = λ told. c.args.self.now.unbroken (c.log.ensures.grows.counts.told told)

pub returns-in_err-lsn-clause-goes : goal.returns-in_err-lsn-clause-goes
returns-in_err-lsn-clause-goes g c = λ t from m told kept begin h none.
    off_void kept begin (led from (g.E.Engine.view c.args.self.now.engine)) (led from (g.E.Engine.view c.log.new.self)) c.args.self.now.rows.items c.args.self.now.actor _ h none (log_call from c.in_err-lsn.ensures.grows (c.in_err-lsn.ensures.logs t from m)) told

pub returns-clause-goes : goal.returns-clause-goes
returns-clause-goes g c = λ t from m told kept begin h none.
    off_void kept begin (led from (g.E.Engine.view c.args.self.now.engine)) (led from (g.E.Engine.view c.log.new.self)) c.args.self.now.rows.items c.args.self.now.actor _ h none (log_call from c.in_ok-lsn.ensures.grows (c.in_ok-lsn.ensures.logs t from m)) told

pub log-requires-clause-can : goal.log-requires-clause-can
log-requires-clause-can g c = λ t from m told. record { there = tt; fits = tt; known = tt; formed = formed_void (g.E.Engine.view c.args.self.now.engine) c.args.self.now.actor c.requires.over told; means = λ u. u }

pub returns-in_err-lsn-clause-counts : goal.returns-in_err-lsn-clause-counts
returns-in_err-lsn-clause-counts g c =
    let p = err_from_is_err_and c.from_residual.result c.from_residual.ensures.1 in
    engine_err {T = ℕ} c.from_residual.result c.in_err-lsn.field-0.0 p.0 p.1 p.2 c.in_err-lsn.ensures.grows.counts

pub returns-clause-counts : goal.returns-clause-counts
returns-clause-counts g c = engine_ok {T = ℕ} _ c.in_ok-lsn.ensures.grows.counts
