use Rattle.stasis.proofs.Telling.{begun_if, unbegun_if}
use Rattle.stasis.proofs.calls.begin_transaction.Goals as goal

pub returns-clause-begun : goal.returns-clause-begun
returns-clause-begun g c = λ t live m durable h.
    begun_if t c.args.store.now c.begin.new.self c.begin.ensures.heeds c.begin.result c.begin.ensures.causes live m durable (λ has. c.begin.ensures.rests t live m durable has) h

pub returns-clause-refused : goal.returns-clause-refused
returns-clause-refused g c = unbegun_if c.args.store.now c.begin.new.self c.begin.result c.begin.ensures.causes c.begin.ensures.asks
