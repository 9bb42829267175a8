use Rattle.sg_objects.proofs.Listing.{object_names}
use Rattle.sg_objects.proofs.words.list.Goals as goal

pub names-requires : goal.names-requires
names-requires g c = λ told. let h = c.requires told in (h.0.catalog, h.1.catalog, tt)

pub returns-clause-read : goal.returns-clause-read
returns-clause-read g c = λ shows s h. object_names s _ h.catalog.once (c.in_ok-all.ensures.read shows s.catalog h.catalog) c.in_ok-all.ensures.order
