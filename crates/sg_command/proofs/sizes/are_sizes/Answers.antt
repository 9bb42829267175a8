use Rattle.std.proofs.Common.{◌∙◌}
use Rattle.sg_command.proofs.Keys.{are_sizes_by_keys}
use Rattle.sg_command.proofs.sizes.are_sizes.Goals as goal

pub returns : goal.returns
returns c = c.are_known.ensures ∙ are_sizes_by_keys c.args.table.now
