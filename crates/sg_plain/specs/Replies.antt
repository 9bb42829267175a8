-- The keys that the code answers.
use Rattle.std.specs.Prelude.{ℕ, List, Result, Ok, Err, Vec}
use Rattle.std.specs.declared.alloc.Global.{Global}
use Rattle.sg_model.specs.declared.reason.Reason.{Reason}
use Rattle.sg_model.specs.Verb.{Outcome}
use Rattle.sg_model.specs.Verb.Reply.{Several}

-- the keys of a table, or why there are none
abbrev pub shown_keys : Result (Vec (List ℕ) Global) Reason → Outcome
shown_keys (Ok keys) = Ok (Several keys.items)
shown_keys (Err e) = Err e
