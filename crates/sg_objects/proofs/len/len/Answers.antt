use Rattle.std.proofs.Common.{ℕ, Result, subst}
use Rattle.sg_model.specs.declared.reason.Reason.{Reason}
use Rattle.sg_model.specs.Verb.Verb.{Len}
use Rattle.sg_objects.specs.Found.{LenChecked}
use Rattle.sg_objects.proofs.Doing.{refused_did}
use Rattle.sg_objects.proofs.Measuring.{len_done}
use Rattle.sg_objects.proofs.len.len.Goals as goal

pub returns-in-Err-clause-did : goal.returns-in-Err-clause-did
returns-in-Err-clause-did g c =
    refused_did _ 0 c.args.name Len c.in-Err.reason _ (g.met.P.PageSpace.told_shows _) c.in_ok-reason.ensures.kept c.set.ensures
    (λ shows s h t. subst (λ (r : Result ℕ Reason). LenChecked c.args.name s r) c.in-Err.is (c.in_ok-reason.ensures.read shows s h))

pub returns-in-Ok-clause-did : goal.returns-in-Ok-clause-did
returns-in-Ok-clause-did g c =
    let k = c.in_ok-reason.ensures.kept in
    record {
      told = λ told. k.keeps.told told;
      done = λ told s h can.
          let shows = g.met.P.PageSpace.told_shows _ told in
          (s, len_done _ 0 c.args.name c.in-Ok.n _ (k.same shows) h (subst (λ (r : Result ℕ Reason). LenChecked c.args.name s r) c.in-Ok.is (c.in_ok-reason.ensures.read shows s h)) c.set.ensures);
    }
