use Rattle.std.proofs.Common.{sym}
use Rattle.sg_index.proofs.Looking.{header_found}
use Rattle.sg_index.proofs.header.find_header.Goals as goal

pub returns-in-Some-clause-found : goal.returns-in-Some-clause-found
returns-in-Some-clause-found g c = header_found _ _ _ _ _ c.in-Ok-Some.field-0-is c.in-Ok-Some.ensures.found (sym c.in-Some.ensures.read)
