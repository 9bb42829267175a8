-- What a listener hears of a listing.
use Rattle.std.specs.Prelude.{◌≡◌, ◌≤◌, ℕ, List, ◌++◌, Result, OnOk, OnErr}
use Rattle.sg_base.specs.Ends.{HasRisen}
use Rattle.sg_lines.specs.Parts.{Part}

-- WHAT A LISTENER SAYS of its states. It came from one to another by hearing these parts, in this order, and nothing else; or it failed while it was
-- told these, and heard a front of them; it has failed so often; and it is the same one still, as where it holds a reference, by its name
pub record Ears (S : Type 0) : Type 1 where
  pub heard : S → List Part → S → Type 0
  pub cut : S → List Part → S → Type 0
  pub faults : S → ℕ
  pub who : S → ℕ

-- it heard these parts, behind all that it had heard since any earlier state
abbrev pub HasHeard : {S : Type 0} → Ears S → S → List Part → S → Type 0
HasHeard {S} ears old parts new = (from : S) (before : List Part) → ears.heard from before old → ears.heard from (before ++ parts) new

-- it failed in one of these parts, whatever it would have been told behind them
abbrev pub WasCut : {S : Type 0} → Ears S → S → List Part → S → Type 0
WasCut {S} ears old parts new = (from : S) (before behind : List Part) → ears.heard from before old → ears.cut from ((before ++ parts) ++ behind) new

-- A listener was told these parts. It heard all of them, or failed in one of them, and its count of faults rose exactly there. It is the same one
pub record Hears {S T E : Type 0} (ears : Ears S) (old : S) (parts : List Part) (new : S) (result : Result T E) : Type 0 where
  pub heard : OnOk result (HasHeard ears old parts new)
  pub cut : OnErr result (WasCut ears old parts new)
  pub later : ears.faults old ≤ ears.faults new
  pub quiet : OnOk result (ears.faults new ≡ ears.faults old)
  pub failed : OnErr result (HasRisen (ears.faults old) (ears.faults new))
  pub same : ears.who new ≡ ears.who old
