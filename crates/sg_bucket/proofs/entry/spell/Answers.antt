use Rattle.sg_bucket.proofs.Cells.{spelled_front}
use Rattle.sg_bucket.proofs.entry.spell.Goals as goal

pub returns-clause-spelled : goal.returns-clause-spelled
returns-clause-spelled c = spelled_front (record { key = c.args.key.now; value = c.args.value.now }) c.put_u16-at.ensures c.put_u16-at-2.ensures c.put_text-at.ensures c.put_text.ensures
