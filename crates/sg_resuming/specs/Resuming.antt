-- What a take-off and a walk say of a store that is being opened.
use Rattle.std.specs.Prelude.{◌≡◌, ℕ, [], ◌++◌, Some}
use Rattle.sg_alloc.specs.Flags.{free_of}
use Rattle.sg_alloc.specs.declared.maps.Maps.{Maps}
use Rattle.sg_ops.specs.Table.{Table}
use Rattle.sg_action.specs.States.{State}
use Rattle.sg_contents.specs.Meaning.{reading}
use Rattle.sg_reading.specs.Reading.{Reading}
use Rattle.sg_recovery.specs.Log.{tally}
use Rattle.sg_recovery.specs.Opens.{AreOpening}
use Rattle.sg_recovery.specs.Stands.{made, all_off, settled}
use Rattle.sg_store.specs.Ground.{setting}
use Rattle.sg_actions.specs.Steps.{Steps}
use Rattle.sg_actions.specs.WentOff.{AreOffSteps}
use Rattle.sg_contents.specs.Standing.{Contents}
use Rattle.sg_reader.specs.Alike.{ReadsAs}
use Rattle.sg_ground.specs.Theorem.{Basis, ground_of}
use Rattle.sg_walked.specs.Walked.{IsWalked}

-- THE STEPS OF A TAKE-OFF are those of an opening
abbrev pub OffsOpen : Basis → Type 0
OffsOpen b = (t : Table) (txn : ℕ) (first : State) (more log : Steps) → AreOffSteps txn more log → AreOpening (setting t (ground_of b)) first more log

-- ONCE NO CHANGE IS OPEN the pages are what those before were with the open changes taken off, and read as the same
abbrev pub OffsLead : Basis → Type 0
OffsLead b = (t : Table) (txn : ℕ) (first x : State) (more log : Steps) → AreOffSteps txn more log → all_off (setting t (ground_of b)) (tally log).opened (made (setting t (ground_of b)) first log) ≡ Some x
    → (tally (more ++ log)).opened ≡ []
    → (made (setting t (ground_of b)) first (more ++ log) ≡ x) × (settled (setting t (ground_of b)) (tally log).opened (made (setting t (ground_of b)) first log) ≡ (ground_of b).reading x)

-- PAGES OVER WHICH A WALK HAS GONE read as what it found,
abbrev pub WalksRead : Basis → Type 0
WalksRead b = (x : State) (maps : Maps) (w : IsWalked b.pages b.bands x maps) → (ground_of b).reading x ≡ Some (reading w.contents)

-- as many are free as what they read as leaves,
abbrev pub WalksFree : Basis → Type 0
WalksFree b = (x : State) (maps : Maps) → IsWalked b.pages b.bands x maps → (o : Reading) → (ground_of b).reading x ≡ Some o → free_of maps.pages ≡ (ground_of b).free o

-- and where a walk found no contents they read as nothing
abbrev pub NoneIsRead : Basis → Type 0
NoneIsRead b = (x : State) → ((s : Contents) → ReadsAs b.pages b.bands x s → ⊥) → (o : Reading) → (ground_of b).reading x ≡ Some o → ⊥
