use Rattle.sg_array.proofs.Links.{index_link, index_read}
use Rattle.sg_array.proofs.walk.index_at.Goals as goal

pub link_at-requires : goal.link_at-requires
link_at-requires g c = λ told. let h = c.requires.there told in index_link c.args.j h.1.first h.2

pub returns-clause-read : goal.returns-clause-read
returns-clause-read g c = λ shows a h. index_read c.args.j c.in_ok-found.found.0 h.first h.index_pages c.in_ok-found.ensures.small (c.in_ok-found.ensures.read shows)
