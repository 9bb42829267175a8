use Rattle.sg_before.proofs.Bytes.{action_puts_back}
use Rattle.sg_before.proofs.Fresh.{fresh_back, found_within}
use Rattle.sg_before.proofs.Written.{kept_back}
use Rattle.sg_before.proofs.laws.bytes_come_back.Goals as goal

pub returns : goal.returns
returns c = record { kept = kept_back; taken = fresh_back; within = found_within; blob = action_puts_back }
