-- In which frames the actions that have no end began.
use Rattle.std.specs.Prelude.{◌≡◌, ◌⊎◌, ◌+◌, ◌<◌, ◌≤◌, ℕ, List, [], ◌∷◌, ◌++◌, Some}
use Rattle.sg_record.specs.Records.{Record}
use Rattle.sg_recovery.specs.Laws.{Each}
use Rattle.sg_log.specs.Frames.{gate_after, numbered_in}
use Rattle.sg_analysis.specs.Sights.{steps_of}
use Rattle.sg_analysis.specs.Unended.{Start, stray}
use Rattle.sg_analysis.specs.declared.unended.Begun.{Begun}
use Rattle.sg_analysis.specs.declared.fault.AnalysisFault.{AnalysisFault}
use Rattle.sg_analysis.specs.declared.fault.AnalysisFault.TheVariants.{Disk, Damaged, Memory}

-- of the frames of a log whose first byte has the number base, the one whose gate is at this offset holds the byte with this number
pub record IsInFrame (base gate lsn : ℕ) (frames : List (List Record)) : Type 0 where
  pub front : List (List Record)
  pub body : List Record
  pub back : List (List Record)
  pub all : frames ≡ front ++ body ∷ back
  pub there : gate ≡ gate_after 0 front
  pub behind : base + gate < lsn
  pub before : lsn < base + gate_after gate (body ∷ [])

-- each of these actions began in the frame whose gate is kept of it
abbrev pub AreInFrames : (base : ℕ) → (frames : List (List Record)) → List Begun → Type 0
AreInFrames base frames begun = Each (λ b. IsInFrame base b.gate b.lsn frames) begun

-- it began in one of these frames, or at one of these numbers behind the gate of the one that is being read
abbrev pub IsPlaced : (base : ℕ) → (frames : List (List Record)) → (gate from end : ℕ) → Begun → Type 0
IsPlaced base frames gate from end b = IsInFrame base b.gate b.lsn frames ⊎ ((b.gate ≡ gate) × (from ≤ b.lsn) × (b.lsn < end))

abbrev pub ArePlaced : (base : ℕ) → (frames : List (List Record)) → (gate from end : ℕ) → List Begun → Type 0
ArePlaced base frames gate from end begun = Each (IsPlaced base frames gate from end) begun

-- a stray action of these frames, and the gate of the frame in which it began
pub record IsStray (base gate : ℕ) (frames : List (List Record)) : Type 0 where
  pub action : Start
  pub first : stray (steps_of (numbered_in base frames)) ≡ Some action
  pub begun : IsInFrame base gate action.lsn frames

-- only a stray action is told at the end of a log, by the gate of the frame in which it began
abbrev pub TellsStray : ℕ → List (List Record) → AnalysisFault → Type 0
TellsStray base frames Disk = ⊥
TellsStray base frames (Damaged at) = IsStray base at frames
TellsStray base frames Memory = ⊥
