-- What the calls do that write to a sink.
use Rattle.std.specs.Prelude.{◌≡◌, ◌≤◌, ℕ, List, length, take, Option, Result, IfOk, OnOk, OnErr}
use Rattle.sg_base.specs.Ends.{HasRisen, Takes, TakesFront}
use Rattle.sg_words.specs.Waiting.{Passes}

-- Bytes are written to a sink: it took all of them, or where it failed a front of them. Its count of faults rose exactly
-- there
pub record Writes {T E : Type 0} (had : Option (List ℕ)) (bytes : List ℕ) (has : Option (List ℕ)) (before now : ℕ) (result : Result T E) : Type 0 where
  pub took : OnOk result (Takes had bytes has)
  pub cut : OnErr result (TakesFront had bytes has)
  pub later : before ≤ now
  pub quiet : OnOk result (now ≡ before)
  pub failed : OnErr result (HasRisen before now)

-- Bytes come to those that wait in a buffer, of which so many wait then: the sink took a front of them all, and the rest
-- waits. Where it failed it took a front, and its count of faults rose exactly there
pub record Adds {E : Type 0} (had : Option (List ℕ)) (bytes : List ℕ) (has : Option (List ℕ)) (waiting : List ℕ) (before now : ℕ) (result : Result ℕ E) : Type 0 where
  pub within : IfOk result (λ n. n ≤ length waiting)
  pub added : IfOk result (λ n. Passes had bytes has (take n waiting))
  pub cut : OnErr result (TakesFront had bytes has)
  pub later : before ≤ now
  pub quiet : OnOk result (now ≡ before)
  pub failed : OnErr result (HasRisen before now)
