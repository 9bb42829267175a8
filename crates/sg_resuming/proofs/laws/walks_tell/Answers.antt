use Rattle.sg_resuming.proofs.Walks.{walks_read, walks_free, none_read}
use Rattle.sg_resuming.proofs.laws.walks_tell.Goals as goal

pub returns : goal.returns
returns g c = record { read = walks_read g.G.Grounded.basis; free = walks_free g.G.Grounded.basis; none = none_read g.G.Grounded.basis }
