use Rattle.sg_locks.proofs.Links.{no_links}
use Rattle.std.proofs.Common.{arith}
use Rattle.sg_locks.proofs.chains.Chains.new.Goals as goal

pub invariant_of-result : goal.invariant_of-result
invariant_of-result c = no_links c.in_ok-last.last.items _ c.in-Ok.links.items c.in_ok-last.ensures c.in-Ok.ensures.items (omega (arith, c.in-Ok.ensures.exact))
