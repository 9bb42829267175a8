use Rattle.std.proofs.Common.{Ok, [], ◌∷◌, inr}
use Rattle.sg_store.specs.Seen.{core_of}
use Rattle.stasis.proofs.Telling.{aborted, answered_so, committed, ends, on_err, on_ok, unended}
use Rattle.stasis.proofs.transaction.end_transaction.Goals as goal

pub returns-in_ok-commit-in-Ok-clause-kept : goal.returns-in_ok-commit-in-Ok-clause-kept
returns-in_ok-commit-in-Ok-clause-kept g c = λ m durable h.
    committed _ c.args.store.now c.commit.new.self c.commit.ensures.heeds c.args.txn.0 c.in_ok-commit-in-Ok.ensures.causes m durable
    (λ has. c.in_ok-commit-in-Ok.ensures.rests (c.args.txn.0 ∷ []) m durable has) h

pub returns-in_ok-commit-in-Ok-clause-ended : goal.returns-in_ok-commit-in-Ok-clause-ended
returns-in_ok-commit-in-Ok-clause-ended g c =
    ends (g.E.Engine.view c.args.store.now.engine) (g.E.Engine.view c.commit.new.self.engine) (core_of c.args.store.now) (core_of c.commit.new.self) c.args.txn.0 (Ok tt) c.in_ok-commit-in-Ok.ensures.causes

pub returns-in_err-commit-in-Ok-clause-stops : goal.returns-in_err-commit-in-Ok-clause-stops
returns-in_err-commit-in-Ok-clause-stops g c = λ m durable h.
    on_ok c.args.did (λ answer. on_err _ (λ why.
    unended _ c.args.store.now c.commit.new.self c.commit.ensures.heeds c.args.txn.0 c.in_err-commit-in-Ok.field-0.0 c.in_err-commit-in-Ok.ensures.causes m durable h))

pub returns-in_ok-abort-in-Err-clause-taken_back : goal.returns-in_ok-abort-in-Err-clause-taken_back
returns-in_ok-abort-in-Err-clause-taken_back g c = λ m durable h.
    answered_so _ c.args.did c.in-Err.why c.in-Err.is
    (aborted _ c.args.store.now c.abort.new.self c.abort.ensures.heeds c.args.txn.0 c.in_ok-abort-in-Err.ensures.causes m durable
    (λ has. c.in_ok-abort-in-Err.ensures.rests (c.args.txn.0 ∷ []) m durable has) h)

pub returns-in_ok-abort-in-Err-clause-ended : goal.returns-in_ok-abort-in-Err-clause-ended
returns-in_ok-abort-in-Err-clause-ended g c =
    ends (g.E.Engine.view c.args.store.now.engine) (g.E.Engine.view c.abort.new.self.engine) (core_of c.args.store.now) (core_of c.abort.new.self) c.args.txn.0 (Ok tt) c.in_ok-abort-in-Err.ensures.causes

pub returns-in_err-abort-in-Err-clause-taken_back : goal.returns-in_err-abort-in-Err-clause-taken_back
returns-in_err-abort-in-Err-clause-taken_back g c = λ m durable h.
    on_err c.args.did (λ why. inr
    (unended _ c.args.store.now c.abort.new.self c.abort.ensures.heeds c.args.txn.0 c.in_err-abort-in-Err.field-0.0 c.in_err-abort-in-Err.ensures.causes m durable h))
