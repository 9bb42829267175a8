use Rattle.std.proofs.Common.{arith}
use Rattle.sg_pool.proofs.Oldest.{no_unwritten, on_ok_two}
use Rattle.sg_pool.proofs.pool.Pool.flush.Goals as goal

pub returns-clause-written : goal.returns-clause-written
returns-clause-written g c = let t = c.flush.new.self in
    on_ok_two c.flush.result _ _ _ (λ clean clear lsn has. no_unwritten t.slots.items t.wins.slots.items t.pages t.bands (λ f lt. clean f) (λ w lt. let count = clear.count in clear.cleared w (omega arith) (omega (arith, lt, count))) lsn has) c.flush.ensures.clean c.flush.ensures.clear

pub returns-clause-moments : goal.returns-clause-moments
returns-clause-moments g c ds ps told apart backed holds below = c.flush.ensures.moments ds ps told apart backed holds below.pages below.bands

pub returns-clause-untouched : goal.returns-clause-untouched
returns-clause-untouched g c told apart backed = c.flush.ensures.untouched told apart backed.ready
