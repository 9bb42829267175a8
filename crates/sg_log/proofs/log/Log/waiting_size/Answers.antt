use Rattle.sg_log.proofs.Waiting.{waiting_front, waiting_before, waiting_end, text_some, text_within}
use Rattle.sg_log.proofs.log.Log.waiting_size.Goals as goal

pub returns-in_default-clause-found : goal.returns-in_default-clause-found
returns-in_default-clause-found c r h =
    let log = c.args.self.now in
    rw c.in_default.is at (c.waiting_from.ensures.found (waiting_front log c.args.at r h) (waiting_before log c.args.at r h))

pub returns-clause-within : goal.returns-clause-within
returns-clause-within c =
    let size = c.in-Some-size_of_first.size in
    let bytes = c.in-Some.bytes.now in
    let text = c.in-Some-size_of_first.ensures.is_record in
    (text_some _ size text, waiting_end c.args.self.now c.args.at size bytes c.in-Some.ensures.bytes c.in-Some.ensures.within.0 c.in-Some.ensures.within.1 (text_within bytes size text))
