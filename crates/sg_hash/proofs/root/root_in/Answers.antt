use Rattle.sg_hash.proofs.Roots.{numbers_range}
use Rattle.sg_hash.proofs.root.root_in.Goals as goal

pub returns-clause-fits : goal.returns-clause-fits
returns-clause-fits c = numbers_range c.in_ok-extent.extent _ _ _ c.read_u32-entries.type_inv c.read_u64-bytes.type_inv c.read_u64-peak.type_inv
