use Rattle.sg_blob.proofs.Making.{made_is}
use Rattle.sg_blob.proofs.blob.make.Goals as goal

pub returns-clause-did : goal.returns-clause-did
returns-clause-did g c =
    let took = c.in_ok-root.ensures.did in
    record {
      keeps = λ t. record { told = took.told; may_take = took.may_take; may_have = took.may_have };
      done = λ t. made_is c.spell_root.ensures (took.pages t) (took.bands t);
      may_fill = λ t. took.may_fill t;
    }
