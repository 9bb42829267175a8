-- What a line is answered, without where it lies in memory.
use Rattle.std.specs.Prelude.{ℕ, List}
use Rattle.sg_model.specs.Verb.Reply.{Several}
use Rattle.sg_words.specs.Answers.{Answer}
use Rattle.sg_words.specs.Answers.Answer.{Said}
use Rattle.sg_words.specs.Answered.{shown_answer}
use Rattle.sg_session.specs.declared.answered.Answered as code
use Rattle.sg_session.specs.declared.answered.Answered.TheVariants as answers

-- where the bytes of a reply stand at the front of a buffer
abbrev pub shown : List ℕ → code.Answered → Answer
shown into (answers.Line answer) = shown_answer into answer
shown into (answers.Keys keys) = Said (Several keys.items)
