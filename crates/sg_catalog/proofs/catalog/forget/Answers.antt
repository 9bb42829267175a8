use Rattle.sg_catalog.proofs.Maps.{forgotten_is}
use Rattle.sg_catalog.proofs.catalog.forget.Goals as goal

pub returns-clause-did : goal.returns-clause-did
returns-clause-did g c =
    let did = c.in_ok-take_out.ensures.did in
    record {
      told = did.told;
      may_take = did.may_take;
      may_have = did.may_have;
      turns = λ t d h can. let one = did.turns t d h can in (one.0, one.1, forgotten_is c.args.root.0 one.2);
    }
