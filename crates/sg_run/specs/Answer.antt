-- The answer to an operation.
use Rattle.std.specs.Prelude.{Ok, Err}
use Rattle.sg_model.specs.Verb.{Outcome}
use Rattle.sg_words.specs.Answers.{Answer}
use Rattle.sg_words.specs.Answers.Answer.{Refused, Said}

-- by its outcome: what it said, or why it was refused
abbrev pub answer_of : Outcome → Answer
answer_of (Ok reply) = Said reply
answer_of (Err reason) = Refused reason

-- the answer is a reply
abbrev pub IsSaid : Answer → Type 0
IsSaid (Said reply) = Unit {0}
IsSaid other = ⊥
