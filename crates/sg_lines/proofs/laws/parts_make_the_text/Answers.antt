use Rattle.sg_lines.proofs.Parting.{parts_text}
use Rattle.sg_lines.proofs.laws.parts_make_the_text.Goals as goal

pub returns : goal.returns
returns c = parts_text
