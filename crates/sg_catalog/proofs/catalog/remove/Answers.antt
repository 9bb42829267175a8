use Rattle.sg_catalog.proofs.Maps.{removed_is}
use Rattle.sg_catalog.proofs.catalog.remove.Goals as goal

pub returns-clause-did : goal.returns-clause-did
returns-clause-did g c =
    let did = c.in_ok-take_out.ensures.did in
    record {
      told = did.told;
      may_take = did.may_take;
      may_have = did.may_have;
      turns = λ t d h can. let one = did.turns t d h can in (one.0, one.1, removed_is c.args.name h one.2);
    }
