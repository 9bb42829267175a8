-- The code's answers without where they lie in memory.
use Rattle.std.specs.Prelude.{ℕ, List, [], codes}
use Rattle.sg_model.specs.SaidReplies.{said_reply}
use Rattle.sg_model.specs.Verb.Reply.{Several}
use Rattle.sg_words.specs.declared.answer.Answer as code
use Rattle.sg_words.specs.declared.answer.Answer.TheVariants as answers
use Rattle.sg_words.specs.Answers.{Answer}
use Rattle.sg_words.specs.Text.{text_of_reason}
use Rattle.sg_words.specs.Answers.Answer.{Silent, BadSyntax, Stopped, NoTransaction, IsLive, TooManyLive, NoMark, MarksFull, Busy, LocksFull, Refused, NoSpace, NoBands, LogEnd, Memory, Disk, Said}

-- an answer, where the bytes of a reply stand at the front of a buffer
abbrev pub shown_answer : List ℕ → code.Answer → Answer
shown_answer into answers.Silent = Silent
shown_answer into answers.BadSyntax = BadSyntax
shown_answer into answers.Stopped = Stopped
shown_answer into answers.NoTransaction = NoTransaction
shown_answer into answers.IsLive = IsLive
shown_answer into answers.TooManyLive = TooManyLive
shown_answer into answers.NoMark = NoMark
shown_answer into answers.MarksFull = MarksFull
shown_answer into (answers.Busy name) = Busy name
shown_answer into answers.LocksFull = LocksFull
shown_answer into (answers.Refused reason) = Refused reason
shown_answer into (answers.NoSpace free reserved need) = NoSpace free reserved need
shown_answer into (answers.NoBands free need) = NoBands free need
shown_answer into answers.LogEnd = LogEnd
shown_answer into answers.Memory = Memory
shown_answer into answers.Disk = Disk
shown_answer into (answers.Said reply) = Said (said_reply into reply)
shown_answer into (answers.Keys keys) = Said (Several keys.items)
shown_answer into (answers.Names names) = Said (Several names.items)

-- the line of an answer that has the same line each time; of others nothing
abbrev pub line_of : code.Answer → List ℕ
line_of answers.Silent = []
line_of answers.BadSyntax = codes "error syntax\n"
line_of answers.Stopped = codes "error stopped\n"
line_of answers.NoTransaction = codes "error no-transaction\n"
line_of answers.IsLive = codes "error live\n"
line_of answers.TooManyLive = codes "error too-many-live\n"
line_of answers.NoMark = codes "error no-mark\n"
line_of answers.MarksFull = codes "error marks-full\n"
line_of (answers.Busy name) = []
line_of answers.LocksFull = codes "error locks-full\n"
line_of (answers.Refused reason) = text_of_reason reason
line_of (answers.NoSpace free reserved need) = []
line_of (answers.NoBands free need) = []
line_of answers.LogEnd = codes "error log-end\n"
line_of answers.Memory = codes "error memory\n"
line_of answers.Disk = codes "error disk\n"
line_of (answers.Said reply) = []
line_of (answers.Keys keys) = []
line_of (answers.Names names) = []
