use Rattle.sg_base.specs.Page.{number_at, bytes_at}
use Rattle.sg_base.proofs.page.SlotView.lsn.Goals as goal

pub returns : goal.returns
unfolding number_at bytes_at
returns c = c.read_u64.ensures.value
