use Rattle.sg_tests_pages.proofs.Silent.{no}
use Rattle.sg_tests_pages.proofs.stores.opened.Goals as goal

pub attach-requires-clause-found : goal.attach-requires-clause-found
attach-requires-clause-found g c ls lf told presumed s accepted = absurd (no told)
