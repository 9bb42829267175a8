-- What the code's replies say.
use Rattle.std.specs.Prelude.{ℕ, List, take, Result, Ok, Err}
use Rattle.sg_model.specs.declared.op.Reply as code_reply
use Rattle.sg_model.specs.declared.op.Reply.TheVariants as replies
use Rattle.sg_model.specs.declared.reason.Reason.{Reason}
use Rattle.sg_model.specs.Verb.{Reply, Outcome}
use Rattle.sg_model.specs.Verb.Reply.{Done, New, Replaced, Absent, Number, Bytes}

-- a reply, where the bytes of an answer stand at the front of a buffer
abbrev pub said_reply : List ℕ → code_reply.Reply → Reply
said_reply into replies.Done = Done
said_reply into replies.New = New
said_reply into replies.Replaced = Replaced
said_reply into replies.Absent = Absent
said_reply into (replies.Number n) = Number n
said_reply into (replies.Bytes n) = Bytes (take n into)

abbrev pub said_outcome : List ℕ → Result code_reply.Reply Reason → Outcome
said_outcome into (Ok r) = Ok (said_reply into r)
said_outcome into (Err e) = Err e
