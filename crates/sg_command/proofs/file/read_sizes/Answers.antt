use Rattle.std.proofs.Common.{◌∙◌, ap, subst, sym, take, List, ℕ, length}
use Rattle.sg_command.specs.Sizes.{Says}
use Rattle.sg_command.proofs.Fit.{said_is_fit}
use Rattle.sg_command.proofs.Reading.{lent_whole, says_none}
use Rattle.sg_command.proofs.file.read_sizes.Goals as goal

pub returns-in-Err-Bad-clause-bad : goal.returns-in-Err-Bad-clause-bad
returns-in-Err-Bad-clause-bad g c =
    let lent = c.fill.auto.into ∙ ap length c.as_mut_slice.ensures.value in
    let same = lent_whole c.deref.result.now c.in-Ok.text.items c.fill.new.into c.in-Ok.text.len c.deref.ensures.value lent c.in-Ok.text.ok.0 in
    λ e. says_none (g.S.Source.left c.args.source.now) c.fill.new.into c.in-Ok-fill.count (g.S.Source.left c.fill.new.source) c.in-Ok-fill.ensures.filled (lent ∙ c.in-Ok.ensures) c.in-Ok-fill.ensures.end
    (λ s h. c.in-Err-Bad.ensures.bad c.in-Err-Bad.field-0-is s (subst (λ (l : List ℕ). Says (take c.in-Ok-fill.count l) s) (sym same) h))

pub returns-in-Ok-parse_geometry-clause-fit : goal.returns-in-Ok-parse_geometry-clause-fit
returns-in-Ok-parse_geometry-clause-fit g c = said_is_fit _ _ c.in-Ok-parse_geometry.ensures.says
