-- WHAT THE RECORDS OF AN ACTION FOUND in bands, and that it is all of it.
use Rattle.std.specs.Prelude.{◌≡◌, ℕ, ◌+◌, ◌<◌, ◌≤◌, ◌==◌, ◌⊎◌, ◌||◌, nat_le, Bool, true, false, if◌then◌else◌, List, [], ◌∷◌, length, replicate, slice_get, Some}
use Rattle.sg_action.specs.States.{State, Change, Kept}
use Rattle.sg_action.specs.States.Change.{Page, Write, Paint}
use Rattle.sg_ops.specs.Table.{Table, range_at, rendered}
use Rattle.sg_reading.specs.Back.{Before}
use Rattle.sg_before.specs.Laying.{put_on}

-- the bytes that a segment record found, where its band is none of the map's
abbrev pub found_in : (kept band at : ℕ) → (bytes : List ℕ) → List Before → List Before
found_in kept band at bytes cs = if nat_le kept band then record { band = band; at = at; bytes = bytes } ∷ cs else cs

-- THE BEFORE BYTES of an action's changes, the last first. A change that fills a taken band has none
abbrev pub befores : (kept : ℕ) → List Change → List Before
befores kept [] = []
befores kept (Page n op back ∷ ds) = befores kept ds
befores kept (Write b at before after ∷ ds) = found_in kept b at before (befores kept ds)
befores kept (Paint b at count code position arg before ∷ ds) = found_in kept b at before (befores kept ds)

-- a state with before bytes back in its bands
abbrev pub backed : List Before → State → State
backed cs x = record x { bands = λ b. put_on cs b (x.bands b) }

-- A TAKEN BAND IS FILLED WITH ZEROS, by pieces, before anything else is written there

-- the change writes on the band, and isn't such a filling
abbrev pub writes_on : Change → ℕ → Bool
writes_on (Page n op back) b = false
writes_on (Write c at before after) b = b == c
writes_on (Paint c at count code position arg []) b = false
writes_on (Paint c at count code position arg (x ∷ before)) b = b == c

abbrev pub written_on : List Change → ℕ → Bool
written_on [] b = false
written_on (d ∷ ds) b = writes_on d b || written_on ds b

-- the change fills this byte of the band
abbrev pub Fills : Change → (b k : ℕ) → Type 0
Fills (Page n op back) b k = ⊥
Fills (Write c at before after) b k = ⊥
Fills (Paint c at count code position arg []) b k = (b ≡ c) × (at ≤ k) × (k < at + count)
Fills (Paint c at count code position arg (x ∷ before)) b k = ⊥

abbrev pub IsFilledAt : List Change → (b k : ℕ) → Type 0
IsFilledAt [] b k = ⊥
IsFilledAt (d ∷ ds) b k = Fills d b k ⊎ IsFilledAt ds b k

-- the action took the band: it filled all of it
abbrev pub IsTakenBy : List Change → (b : ℕ) → Type 0
IsTakenBy ds b = (k : ℕ) → k < 32768 → IsFilledAt ds b k

-- other bytes are written only on a band that was taken when the action began, or that the action took before
abbrev pub IsHad : Kept → List Change → ℕ → Type 0
IsHad kept ds b = (kept.bands b ≡ true) ⊎ IsTakenBy ds b

pub record IsFill (t : Table) (ds : List Change) (b at count code position : ℕ) (arg : List ℕ) : Type 0 where
  pub first : written_on ds b ≡ false
  pub within : at + count ≤ 32768
  pub zeros : rendered (range_at t code) arg position count ≡ replicate count 0

abbrev pub IsFilled : Table → Kept → List Change → Change → Type 0
IsFilled t kept ds (Page n op back) = Unit {0}
IsFilled t kept ds (Write b at before after) = IsHad kept ds b
IsFilled t kept ds (Paint b at count code position arg []) = IsFill t ds b at count code position arg
IsFilled t kept ds (Paint b at count code position arg (x ∷ before)) = IsHad kept ds b

-- THE BANDS OF AN OPEN ACTION, the last change first
abbrev pub AreFilled : Table → Kept → List Change → Type 0
AreFilled t kept [] = Unit {0}
AreFilled t kept (d ∷ ds) = AreFilled t kept ds × IsFilled t kept ds d

-- each band has 32,768 bytes
abbrev pub AreWholeBands : State → Type 0
AreWholeBands x = (b : ℕ) → length (x.bands b) ≡ 32768

-- it is one of a list
abbrev pub IsOneOf : List ℕ → ℕ → Type 0
IsOneOf bs b = (j : ℕ) × (slice_get bs j ≡ Some b)

-- each of the bytes found is on one of these bands
abbrev pub AreOn : List ℕ → List Before → Type 0
AreOn bs [] = Unit {0}
AreOn bs (c ∷ cs) = IsOneOf bs c.band × AreOn bs cs
