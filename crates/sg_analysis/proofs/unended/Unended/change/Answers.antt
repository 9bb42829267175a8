use Rattle.std.proofs.Common.{rules, ◌+◌, ◌==◌, not, map, sym, subst, ap, ◌∙◌, arith}
use Rattle.std.proofs.lemmas.Fn.{filter_same}
use Rattle.sg_recovery.proofs.Basic.{each_filter}
use Rattle.sg_analysis.specs.Unended.{start_of, starts_behind}
use Rattle.sg_analysis.specs.Placed.{IsPlaced, ArePlaced}
use Rattle.sg_analysis.proofs.Acting.{starts-without, placed_on, placed_more}
use Rattle.sg_analysis.proofs.unended.Unended.change.Goals as goal

pub returns-then-ends-clause-actions : goal.returns-then-ends-clause-actions
returns-then-ends-clause-actions c =
    ap (map start_of) (filter_same _ (λ action. not (action.txn.0 == c.args.begun.txn.0)) _ (λ x b f r. search rules) _ _ c.retain.ensures.filtered)
    ∙ (starts-without c.args.begun.txn.0 c.args.self.now.actions.items ∙ ap (λ b. starts_behind c.args.begun.txn.0 c.args.begun.lsn b (map start_of c.args.self.now.actions.items)) (sym c.if-ends.true))

pub returns-then-ends-clause-placed : goal.returns-then-ends-clause-placed
returns-then-ends-clause-placed c base frames from le h =
    subst (ArePlaced base frames c.args.begun.gate from (c.args.begun.lsn + 1)) (sym (filter_same _ (λ action. not (action.txn.0 == c.args.begun.txn.0)) _ (λ x b f r. search rules) _ _ c.retain.ensures.filtered))
    (each_filter (IsPlaced base frames c.args.begun.gate from (c.args.begun.lsn + 1)) (λ action. not (action.txn.0 == c.args.begun.txn.0)) c.args.self.now.actions.items
    (placed_on base frames c.args.begun.gate from c.args.begun.lsn (c.args.begun.lsn + 1) c.args.self.now.actions.items (omega arith) h))

pub returns-then-has-clause-placed : goal.returns-then-has-clause-placed
returns-then-has-clause-placed c base frames from le h = placed_on base frames c.args.begun.gate from c.args.begun.lsn (c.args.begun.lsn + 1) c.args.self.now.actions.items (omega arith) h

pub returns-clause-placed : goal.returns-clause-placed
returns-clause-placed c base frames from le h =
    subst (ArePlaced base frames c.args.begun.gate from (c.args.begun.lsn + 1)) (sym c.in_ok-push.ensures.items) (placed_more base frames from c.args.self.now.actions.items c.args.begun le h)
