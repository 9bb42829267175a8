use Rattle.sg_once.proofs.Arrays as arrays
use Rattle.sg_once.proofs.Others as others
use Rattle.sg_once.proofs.once.structures_stand_once.Goals as goal

pub returns-clause-array : goal.returns-clause-array
returns-clause-array c = λ pages root a b h k. arrays.one_array h k

pub returns-clause-blob : goal.returns-clause-blob
returns-clause-blob c = λ pages bands root a b h k. others.one_blob h k

pub returns-clause-bucket : goal.returns-clause-bucket
returns-clause-bucket c = λ pages first a b h k. others.one_bucket h k

pub returns-clause-catalog : goal.returns-clause-catalog
returns-clause-catalog c = λ pages a b h k. others.one_catalog h k
