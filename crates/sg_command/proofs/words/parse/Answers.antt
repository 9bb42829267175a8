use Rattle.std.proofs.Common.{◌∙◌, ap, sym}
use Rattle.clap.specs.Words.{App, fault_of, subcommand_of, is_simple, is_simple_and_free}
use Rattle.sg_command.specs.Asked.{texts_of}
use Rattle.sg_command.proofs.Simple.{stasis-simple, stasis-free}
use Rattle.sg_command.proofs.words.parse.Goals as goal

pub returns-in-Ok-try_get_matches_from-clause-parsed :
    goal.returns-in-Ok-try_get_matches_from-clause-parsed
returns-in-Ok-try_get_matches_from-clause-parsed c =
    let words = texts_of c.args.words.now in
    let same = c.in-Ok.ensures.0 in
    let faults = c.in-Ok-try_get_matches_from.ensures.kinds (ap is_simple_and_free same ∙ stasis-free) in
    let rows = c.in-Ok-try_get_matches_from.ensures.matches (ap is_simple same ∙ stasis-simple) in
    (ap (λ (a : App). fault_of a words) (sym same) ∙ faults, rows.1 ∙ ap (λ (a : App). subcommand_of a words) same)
