use Rattle.std.proofs.Common.{◌≡◌, true, false, sym, ap, ◌∙◌}
use Rattle.sg_actions.proofs.Flags.{set_is}
use Rattle.sg_found.proofs.Backing.{looked_none}
use Rattle.sg_found.proofs.looking.look_if_taken.Goals as goal

pub returns-clause-looks : goal.returns-clause-looks
returns-clause-looks g c = looked_none _ (g.met.E.Engine.told_whole _) (λ t from m told. g.met.E.Engine.images c.args.engine.now t from m told)

pub returns-clause-bytes : goal.returns-clause-bytes
returns-clause-bytes g c = λ says set.
    let is = set_is c.args.maps.now.pages c.args.p.0 in
    let no : true ≡ false = sym set ∙ (is ∙ (ap (λ o. Rattle.std.specs.Prelude.unwrap_or o false) (sym c.page_taken.ensures) ∙ (sym c.unwrap_or.ensures ∙ c.if-unwrap_or.false))) in
    absurd cc
