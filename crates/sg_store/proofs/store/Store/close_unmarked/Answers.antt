use Rattle.sg_store.specs.Seen.{core_of}
use Rattle.sg_store.proofs.store.Store.close_unmarked.Goals as goal

pub returns-clause-flushes : goal.returns-clause-flushes
returns-clause-flushes g c t z from m told x lawful shows = (core_of c.flush-done.new.self, c.flush-done.ensures.flushes t z from m told x lawful shows)

pub returns-clause-causes : goal.returns-clause-causes
returns-clause-causes g c = (core_of c.flush-done.new.self, c.flush-done.ensures.causes)
