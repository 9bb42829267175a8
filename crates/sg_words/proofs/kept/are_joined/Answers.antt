use Rattle.std.proofs.Common.{◌<◌, length, sym, ◌∙◌, arith}
use Rattle.std.proofs.lemmas.Bool.{ne_eqb, not-true}
use Rattle.std.proofs.lemmas.Bool.Decides.{nat_tests}
use Rattle.sg_words.specs.Spoken.{has_gap}
use Rattle.sg_words.proofs.Joined.{joined}
use Rattle.sg_words.proofs.kept.are_joined.Goals as goal

pub returns : goal.returns
returns c =
    let some : 0 < length c.args.text.now = grind (arith, nat_tests) in
    λ h. joined c.args.text.now 0 0 some (ne_eqb _ 32 c.if-text-eq32.false) (ne_eqb _ 32 c.if-text-eq32-2.false) (not-true (has_gap c.args.text.now) (sym c.has_no_gap.ensures ∙ h))
