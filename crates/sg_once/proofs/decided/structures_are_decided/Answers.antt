use Rattle.sg_once.proofs.DecideArray as array
use Rattle.sg_once.proofs.DecideOthers as bucket
use Rattle.sg_once.proofs.DecideRest as rest
use Rattle.sg_once.proofs.decided.structures_are_decided.Goals as goal

pub returns-clause-array : goal.returns-clause-array
returns-clause-array c = array.decide_array

pub returns-clause-blob : goal.returns-clause-blob
returns-clause-blob c = rest.decide_blob

pub returns-clause-bucket : goal.returns-clause-bucket
returns-clause-bucket c = bucket.decide_bucket

pub returns-clause-catalog : goal.returns-clause-catalog
returns-clause-catalog c = rest.decide_catalog
