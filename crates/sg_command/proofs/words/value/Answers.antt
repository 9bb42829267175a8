use Rattle.std.proofs.Common.{◌∙◌}
use Rattle.clap.specs.Words.{found_of}
use Rattle.sg_command.proofs.Values.{first_by_rows}
use Rattle.sg_command.proofs.words.value.Goals as goal

pub returns : goal.returns
returns c = c.get_str.ensures ∙ first_by_rows (found_of c.args.matches.now) c.args.id.now
