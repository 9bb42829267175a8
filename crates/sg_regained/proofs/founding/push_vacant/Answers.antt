use Rattle.std.proofs.Common.{arith}
use Rattle.std.proofs.Common.{◌++◌, ◌∷◌, [], suc, sym, ◌∙◌}
use Rattle.sg_actions.specs.Ending.{vacant}
use Rattle.sg_regained.proofs.Losers.{pushed, one_vacant, one_longer}
use Rattle.sg_regained.proofs.founding.push_vacant.Goals as goal

pub rest-preserved : goal.rest-preserved
rest-preserved c =
    let i = c.rest.invariant in
    let more = c.push.ensures.items ∙ pushed c.push.result c.rest.rows.items (c.rest.rows.items ++ vacant ∷ []) (sym c.is_err.ensures.value ∙ c.if-is_err.false) in
    (suc i.0, one_vacant c.args.rows.now.items c.rest.rows.items c.push.new.self.items i.0 i.1 more, one_longer c.rest.rows.items c.push.new.self.items c.rest._at i.2 more)

pub returns : goal.returns
returns c = let i = c.rest.invariant in let e = i.2 in let f = c.rest-test.false in (i.0, i.1, omega (arith, e, f))
