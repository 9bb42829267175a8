use mathlib.Core.Logic.{∥∥₁_elim}
use Rattle.sg_actions.specs.Engine.{led}
use Rattle.sg_actions.proofs.Counting.{kept_looked}
use Rattle.sg_actions.proofs.Finding.{next_at, next_none}
use Rattle.sg_actions.proofs.Sets.{number_set}
use Rattle.std.proofs.lemmas.Result.{err_from_is_err_and}
use Rattle.std.proofs.Common.{Option}
use Rattle.sg_actions.specs.declared.undo.Found.{Found}
use Rattle.sg_actions.proofs.PuttingBack.{err_is, run_by, run_ok}
use Rattle.sg_actions.proofs.acts.Acts.next_undo.Goals as goal

pub returns-clause-kept : goal.returns-clause-kept
returns-clause-kept g c = λ limits t from m. kept_looked t limits (led from (g.E.Engine.view c.args.self.now.engine)) (led from (g.E.Engine.view c.find_note.new.self.engine)) c.args.self.now.maps c.find_note.new.self.maps c.args.self.now.rows.items c.find_note.new.self.rows.items c.args.self.now.actor c.find_note.new.self.actor
    (c.in_ok-found.ensures.stays t from m) c.in_ok-found.ensures.maps c.in_ok-found.ensures.rows c.in_ok-found.ensures.actor

pub returns-in_default-clause-kept : goal.returns-in_default-clause-kept
returns-in_default-clause-kept g c = λ limits t from m. kept_looked t limits (led from (g.E.Engine.view c.args.self.now.engine)) (led from (g.E.Engine.view c.find_note.new.self.engine)) c.args.self.now.maps c.find_note.new.self.maps c.args.self.now.rows.items c.find_note.new.self.rows.items c.args.self.now.actor c.find_note.new.self.actor
    (c.in_ok-found.ensures.stays t from m) c.in_ok-found.ensures.maps c.in_ok-found.ensures.rows c.in_ok-found.ensures.actor

pub returns-clause-next : goal.returns-clause-next
returns-clause-next g c = λ told. ∥∥₁_elim (g.met.E.Engine.some c.args.self.now.engine told) (number_set _ _) (λ x. next_at (g.E.Engine.view c.args.self.now.engine).steps c.args.txn.0 c.args.stop c.find_note.new.into _ c.in-Some.found c.in-Some.is (c.in_ok-found.ensures.finds x.0 x.1 x.2 told))

pub returns-in_default-clause-next : goal.returns-in_default-clause-next
returns-in_default-clause-next g c = λ told. ∥∥₁_elim (g.met.E.Engine.some c.args.self.now.engine told) (number_set _ _) (λ x. next_none (g.E.Engine.view c.args.self.now.engine).steps c.args.txn.0 c.args.stop c.find_note.new.into _ c.in_default.is (c.in_ok-found.ensures.finds x.0 x.1 x.2 told))

pub returns-in_err-found-clause-counts : goal.returns-in_err-found-clause-counts
returns-in_err-found-clause-counts g c =
    let p = err_from_is_err_and c.from_residual.result c.from_residual.ensures.1 in
    err_is {T = Option Found} c.from_residual.result c.in_err-found.field-0.0 p.0 p.1 p.2 c.in_err-found.ensures.counts

pub returns-in_default-clause-counts : goal.returns-in_default-clause-counts
returns-in_default-clause-counts g c = run_ok _ (run_by c.in_ok-found.ensures.counts)

pub returns-clause-counts : goal.returns-clause-counts
returns-clause-counts g c = run_ok _ (run_by c.in_ok-found.ensures.counts)
