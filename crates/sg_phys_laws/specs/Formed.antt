-- Which fronts of an engine's records are formed logs.
use Rattle.std.specs.Prelude.{◌≡◌, ℕ, List, ◌++◌}
use Rattle.sg_log.specs.Frames.{Numbered}
use Rattle.sg_recovery.specs.Formed.{IsLog}
use Rattle.sg_phys_laws.specs.States.{steps_of}

-- EACH FRONT of these records that has all durable ones IS A FORMED LOG: a crash leaves one of these. That the whole log is formed doesn't say so,
-- since in a front of it more than one action may be without an end
abbrev pub AreFormed : (base : ℕ) → (ds all : List Numbered) → Type 0
AreFormed base ds all = (front more : List Numbered) → (ds ++ front) ++ more ≡ all → ∥ IsLog base (steps_of (ds ++ front)) ∥₁
