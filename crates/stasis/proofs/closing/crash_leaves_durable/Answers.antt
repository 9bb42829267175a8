use Rattle.sg_store.specs.Seen.{core_of}
use Rattle.stasis.specs.Telling.{shown_of}
use Rattle.stasis.proofs.Closed.{images_own}
use Rattle.stasis.proofs.closing.crash_leaves_durable.Goals as goal

pub returns : goal.returns
returns g c = λ t live objects durable h i leaves. images_own t (shown_of c.args.store.now) (core_of c.args.store.now) live objects durable h.tells h.has i leaves
