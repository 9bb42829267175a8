use Rattle.sg_blob.proofs.Parts.{link_there, link_read}
use Rattle.sg_blob.proofs.walk.band_at.Goals as goal

pub link_at-requires : goal.link_at-requires
link_at-requires g c = λ told. let h = c.requires.there told in link_there c.args.j h.1.first h.2

pub returns-clause-read : goal.returns-clause-read
returns-clause-read g c = λ shows r h. link_read c.args.j c.in_ok-found.found.0 h.first h.fit c.in_ok-found.ensures.small (c.in_ok-found.ensures.read shows)
