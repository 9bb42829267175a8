use Rattle.sg_redo.proofs.Staying.{redone_stays}
use Rattle.sg_redo.proofs.laws.records_keep_pages.Goals as goal

pub returns : goal.returns
returns c = redone_stays
