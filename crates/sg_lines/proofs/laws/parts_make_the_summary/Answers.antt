use Rattle.sg_lines.proofs.Adding.{parts_summary}
use Rattle.sg_lines.proofs.laws.parts_make_the_summary.Goals as goal

pub returns : goal.returns
returns c = parts_summary
