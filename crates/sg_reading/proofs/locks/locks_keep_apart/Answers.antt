use Rattle.sg_reading.proofs.Joins as joins
use Rattle.sg_reading.proofs.locks.locks_keep_apart.Goals as goal

pub returns-clause-granted : goal.returns-clause-granted
returns-clause-granted g c = λ t. joins.granted t g.R.Readable.pages

pub returns-clause-more : goal.returns-clause-more
returns-clause-more g c = λ t. joins.locked t g.R.Readable.pages

pub returns-clause-within : goal.returns-clause-within
returns-clause-within g c = λ t. joins.within_held t g.R.Readable.pages

pub returns-clause-freed : goal.returns-clause-freed
returns-clause-freed g c = λ t. joins.is_freed t g.R.Readable.pages

pub returns-clause-apart : goal.returns-clause-apart
returns-clause-apart g c = λ t. joins.apart_held t g.R.Readable.pages
