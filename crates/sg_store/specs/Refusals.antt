-- What a store's answers say, in the words of its run.
use Rattle.std.specs.Prelude.{ℕ, List, Vec, Result, Ok, Err}
use Rattle.sg_base.specs.declared.numbers.TxnId.{TxnId}
use Rattle.sg_model.specs.declared.op.Reply as code_reply
use Rattle.sg_model.specs.SaidReplies.{said_reply}
use Rattle.sg_model.specs.Verb.{Reply}
use Rattle.sg_model.specs.Verb.Reply.{Several}
use Rattle.sg_locks.specs.declared.table.LockAnswer.{LockAnswer}
use Rattle.sg_locks.specs.declared.table.LockAnswer.TheVariants as locks
use Rattle.sg_run.specs.Numbers.{Refusal, MarkRefusal}
use Rattle.sg_run.specs.Numbers.MarkRefusal.{NoMark, MarksFull, Otherwise}
use Rattle.sg_run.specs.Numbers.Refusal.{NoTransaction, TooManyLive, Busy, LocksFull, Because, NoSpace, NoBands, LogEnd, Memory, Disk, Stopped}
use Rattle.sg_store.specs.declared.fault.MarkRefused.{MarkRefused}
use Rattle.sg_store.specs.declared.fault.MarkRefused.TheVariants as marks
use Rattle.sg_store.specs.declared.fault.Refused.{Refused}
use Rattle.sg_store.specs.declared.fault.Refused.TheVariants as refusals

abbrev pub said_refusal : Refused → Refusal
said_refusal refusals.NoTxn = NoTransaction
said_refusal refusals.TooManyLive = TooManyLive
said_refusal (refusals.Busy holder) = Busy holder.0
said_refusal refusals.LocksFull = LocksFull
said_refusal (refusals.Model reason) = Because reason
said_refusal (refusals.NoSpace free reserved need) = NoSpace free reserved need
said_refusal (refusals.NoBands free need) = NoBands free need
said_refusal refusals.LogEnd = LogEnd
said_refusal refusals.Memory = Memory
said_refusal refusals.DiskFault = Disk
said_refusal refusals.Stopped = Stopped

-- of a begin, the number of the transaction
abbrev pub said_number : Result TxnId Refused → Result ℕ Refusal
said_number (Ok n) = Ok n.0
said_number (Err e) = Err (said_refusal e)

abbrev pub said_done : Result (Unit {0}) Refused → Result (Unit {0}) Refusal
said_done (Ok done) = Ok done
said_done (Err e) = Err (said_refusal e)

-- of an operation, the reply with its bytes
abbrev pub said_outcome : List ℕ → Result code_reply.Reply Refused → Result Reply Refusal
said_outcome into (Ok reply) = Ok (said_reply into reply)
said_outcome into (Err e) = Err (said_refusal e)

-- of a list, its words
abbrev pub said_words : {A : Type 0} → Result (Vec (List ℕ) A) Refused → Result Reply Refusal
said_words (Ok words) = Ok (Several words.items)
said_words (Err e) = Err (said_refusal e)

-- of a call on the marks of a transaction
abbrev pub said_why : MarkRefused → MarkRefusal
said_why marks.NoMark = NoMark
said_why marks.MarksFull = MarksFull
said_why (marks.Store why) = Otherwise (said_refusal why)

abbrev pub said_save : Result ℕ MarkRefused → Result ℕ MarkRefusal
said_save (Ok n) = Ok n
said_save (Err why) = Err (said_why why)

abbrev pub said_back : Result (Unit {0}) MarkRefused → Result (Unit {0}) MarkRefusal
said_back (Ok done) = Ok done
said_back (Err why) = Err (said_why why)

-- of what asking for locks came to
abbrev pub said_lock : LockAnswer → Result (Unit {0}) Refused
said_lock locks.Granted = Ok tt
said_lock (locks.Busy holder) = Err (refusals.Busy holder)
said_lock locks.LocksFull = Err refusals.LocksFull
