-- What is proved of what pages and bands read as, each under a name.
use Rattle.std.specs.Prelude.{◌≡◌, ◌≢◌, ℕ, List, Some, None}
use Rattle.sg_action.specs.States.{State, Kept, Alike}
use Rattle.sg_reading.specs.Noted.{IsFormedSlot, IsFormedThing}
use Rattle.sg_reading.specs.Reading.{Tomb, slot}
use Rattle.sg_space.specs.View.{Space}
use Rattle.sg_contents.specs.Standing.{Contents, IsContents, IsReachedPage, IsReachedBand, AreInRange}
use Rattle.sg_contents.specs.Meaning.{reading}
use Rattle.sg_reader.specs.Alike.{ReadsAs, IsAlike, IsPartOf, HasReached}
use Rattle.sg_reader.specs.Reader.{Decides, Reader, KeepsReached}

-- ONE READING. All contents that stand in a space mean the same reading,
abbrev pub OneReading : Type 0
OneReading = (space : Space) (s s' : Contents) → IsContents space s → IsContents space s' → reading s ≡ reading s'

-- of each state it is decided whether there are any,
abbrev pub ReadingIsDecided : Type 0
ReadingIsDecided = (pages bands : ℕ) → Decides pages bands

-- and so there is what finds them
abbrev pub ReaderIsThere : Type 0
ReaderIsThere = (pages bands : ℕ) → Reader pages bands

-- ALIKE. A state that can't be told from one by who reads its contents reads as the same,
abbrev pub AlikeIsRead : Type 0
AlikeIsRead = (pages bands : ℕ) (x y : State) (s : Contents) → ReadsAs pages bands x s → IsAlike s x y → (s' : Contents) × ReadsAs pages bands y s' × (reading s' ≡ reading s)

-- and what an action that was taken off left can't be told from its begin, where it kept all that was reached, and no more
-- slots than the limits there
abbrev pub TakenOffIsAlike : Type 0
TakenOffIsAlike = (pages bands : ℕ) (reader : Reader pages bands) (kept : Kept) (begin end : State) (s : Contents) → reader.contents begin ≡ Some s
    → KeepsReached reader kept begin s → Alike kept end begin → IsAlike s begin end

-- FORMED. What stands under each name is formed, and no tombstone of the name has the root of its object;
abbrev pub SlotsAreFormed : Type 0
SlotsAreFormed = (space : Space) (s : Contents) → IsContents space s → (name : List ℕ) → IsFormedSlot (slot (reading s) name)

-- and what each tombstone holds is formed
abbrev pub TombsAreFormed : Type 0
TombsAreFormed = (space : Space) (s : Contents) → IsContents space s → (name : List ℕ) (root : ℕ) (tomb : Tomb) → (slot (reading s) name).buried root ≡ Some tomb → IsFormedThing tomb.thing

-- SPACES. What contents reach is taken;
abbrev pub PagesAreTaken : Type 0
PagesAreTaken = (space : Space) (s : Contents) → IsContents space s → (page : ℕ) → IsReachedPage s page → space.pages.at page ≢ None

abbrev pub BandsAreTaken : Type 0
BandsAreTaken = (space : Space) (s : Contents) → IsContents space s → (band : ℕ) → IsReachedBand s band → space.bands.at band ≢ None

-- the contents of a space are those of a state that says what the space has,
abbrev pub SpaceIsRead : Type 0
SpaceIsRead = (space : Space) (x : State) (s : Contents) → IsContents space s → IsPartOf space x → AreInRange space.pages.count space.bands.count s
    → ReadsAs space.pages.count space.bands.count x s

-- and the other way round, where the space has all that is reached
abbrev pub StateIsRead : Type 0
StateIsRead = (space : Space) (x : State) (s : Contents) → ReadsAs space.pages.count space.bands.count x s → HasReached space x s → IsContents space s
