-- Bytes that wait in a buffer before a sink takes them.
use Rattle.std.specs.Prelude.{◌≡◌, ℕ, List, ◌++◌, Option}
use Rattle.sg_base.specs.Ends.{Takes}

-- of these bytes the sink took a front, and the rest waits
pub record Passes (before : Option (List ℕ)) (bytes : List ℕ) (after : Option (List ℕ)) (waiting : List ℕ) : Type 0 where
  pub front : List ℕ
  pub taken : Takes before front after
  pub whole : front ++ waiting ≡ bytes
