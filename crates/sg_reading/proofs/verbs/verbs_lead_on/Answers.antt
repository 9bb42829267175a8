use Rattle.std.proofs.Common.{ap}
use Rattle.sg_model.proofs.Refused.{replied}
use Rattle.sg_reading.proofs.Left as left
use Rattle.sg_reading.proofs.Done as done
use Rattle.sg_reading.proofs.Looks as looks
use Rattle.sg_reading.proofs.Does as does
use Rattle.sg_reading.proofs.Lines as lines
use Rattle.sg_reading.proofs.verbs.verbs_lead_on.Goals as goal

pub returns-clause-leaves : goal.returns-clause-leaves
returns-clause-leaves g c = λ t by name verb old now l formed. left.leaves_after t g.R.Readable.pages by name verb old now l formed

pub returns-clause-possible : goal.returns-clause-possible
returns-clause-possible g c = λ t d name verb o. done.done_after t g.R.Readable.pages d name verb o

pub returns-clause-looks : goal.returns-clause-looks
returns-clause-looks g c = λ t d name verb o. looks.looks_on t g.R.Readable.pages d name verb o

pub returns-clause-refused : goal.returns-clause-refused
returns-clause-refused g c = λ t d name verb o op is formed none reason said. looks.looks_refused t g.R.Readable.pages d name verb o op is formed none (ap replied said)

pub returns-clause-list : goal.returns-clause-list
returns-clause-list g c = λ t d o. looks.looks_list t g.R.Readable.pages d o

pub returns-clause-undone : goal.returns-clause-undone
returns-clause-undone g c = λ t law d name verb op old now did reply bytes formed said changes ks puts x reads lsn by undo_next.
    does.does_verb t law g.R.Readable.pages d name verb op old now did reply bytes formed said changes ks puts x reads lsn by undo_next

pub returns-clause-line : goal.returns-clause-line
returns-clause-line g c = λ t law. lines.line_goes t law g.R.Readable.pages
