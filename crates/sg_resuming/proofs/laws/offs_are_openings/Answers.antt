use Rattle.sg_resuming.proofs.Offs.{offs_open, offs_lead}
use Rattle.sg_resuming.proofs.laws.offs_are_openings.Goals as goal

pub returns : goal.returns
returns g c = record { opens = offs_open g.G.Grounded.basis; lead = offs_lead g.G.Grounded.basis }
