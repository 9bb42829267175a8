-- WHAT STANDS IN BANDS once the bytes that an action found are put back, and what a forgotten tombstone changes, as laws.
use Rattle.std.specs.Prelude.{◌≡◌, ℕ, ◌*◌, ◌≤◌, true, List, ◌++◌, length}
use Rattle.sg_action.specs.States.{State, Change, Kept, made}
use Rattle.sg_action.specs.Opened.{IsOpened}
use Rattle.sg_ops.specs.Table.{Table}
use Rattle.sg_recovery.specs.Cells.{setting_of}
use Rattle.sg_reading.specs.Left.{tomb_cell}
use Rattle.sg_reading.specs.Model.{bare_ground, model_cells}
use Rattle.sg_reading.specs.Noted.{PutsBack}
use Rattle.sg_reading.specs.Reading.{Reading}
use Rattle.sg_before.specs.Laying.{put_on, AreWithin}
use Rattle.sg_before.specs.Befores.{befores, IsTakenBy, AreFilled, AreWholeBands, AreOn}
use Rattle.sg_before.specs.Held.{AreHeld, AreApart, HadBands, TookBands, IsZeros}
use Rattle.sg_before.specs.Forgot.{Forgets}

-- A BAND THAT WAS TAKEN when the action began has the bytes again that it had then
abbrev pub KeptBandsComeBack : Type 0
KeptBandsComeBack = (t : Table) (kept : Kept) (map : ℕ) (ds : List Change) (x : State) (b : ℕ) → IsOpened t kept x ds → map ≤ b → kept.bands b ≡ true → put_on (befores map ds) b ((made t x ds).bands b) ≡ x.bands b

-- A BAND THAT THE ACTION TOOK holds zeros then
abbrev pub TakenBandsAreZero : Type 0
TakenBandsAreZero = (t : Table) (kept : Kept) (map : ℕ) (ds : List Change) (x : State) (b : ℕ) → AreWholeBands x → IsOpened t kept x ds → AreFilled t kept ds → map ≤ b → IsTakenBy ds b → IsZeros (put_on (befores map ds) b ((made t x ds).bands b))

-- what was found is within its bands
abbrev pub FoundIsWithin : Type 0
FoundIsWithin = (t : Table) (kept : Kept) (map : ℕ) (ds : List Change) (x : State) → AreWholeBands x → IsOpened t kept x ds → AreFilled t kept ds → AreWithin (befores map ds)

-- A BLOB of which all that the action wrote is on its bands has its bytes again, by what the undoing of its verb asks
abbrev pub BlobComesBack : Type 0
BlobComesBack = (t : Table) (kept : Kept) (map : ℕ) (ds : List Change) (x : State) (bs more old new : List ℕ) → AreWholeBands x → IsOpened t kept x ds → AreFilled t kept ds
    → HadBands kept map bs → TookBands map ds more → AreApart (bs ++ more) → AreOn (bs ++ more) (befores map ds)
    → AreHeld x.bands old 0 bs → length old ≤ 32768 * length bs → AreHeld (made t x ds).bands new 0 (bs ++ more) → length new ≤ 32768 * length (bs ++ more) → PutsBack (bs ++ more) (befores map ds) new old

-- A FORGOTTEN TOMBSTONE frees its cell of a reading, and changes no other
abbrev pub ForgottenIsFreed : Type 0
ForgottenIsFreed = (t : Table) (name : List ℕ) (root : ℕ) (old new : Reading) → Forgets name root old new → (setting_of (model_cells t bare_ground)).Freed (tomb_cell name root) old new
