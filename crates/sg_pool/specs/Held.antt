-- Which frame holds which page, and what a page is whether it is in a frame or not.
use Rattle.std.specs.Prelude.{◌≡◌, ◌<◌, ◌==◌, ℕ, suc, Bool, false, if◌then◌else◌, Option, Some, None, option_map, List, [], ◌∷◌, length, get_or}
use Rattle.sg_pool.specs.declared.slot.Slot.{Slot}

-- a frame that holds no page
abbrev pub no_slot : Slot
no_slot = record { number = None; since = None }

abbrev pub is_page : Option ℕ → ℕ → Bool
is_page None n = false
is_page (Some m) n = m == n

-- the frame that holds the page
abbrev pub frame_of : List Slot → ℕ → Option ℕ
frame_of [] n = None
frame_of (s ∷ ss) n = if is_page s.number n then Some 0 else option_map suc (frame_of ss n)

-- the page that the frame holds
abbrev pub page_in : List Slot → ℕ → Option ℕ
page_in ss f = (get_or ss f no_slot).number

-- no page is in two frames
abbrev pub AreApart : List Slot → Type 0
AreApart ss = (i j n : ℕ) → i < length ss → j < length ss → page_in ss i ≡ Some n → page_in ss j ≡ Some n → i ≡ j

-- what a page is: its frame's bytes, or its home's
abbrev pub bytes_of : List (List ℕ) → Option ℕ → List ℕ → List ℕ
bytes_of frames None home = home
bytes_of frames (Some f) home = get_or frames f []

-- the oldest change of it that isn't on the disk
abbrev pub since_of : List Slot → Option ℕ → Option ℕ
since_of ss None = None
since_of ss (Some f) = (get_or ss f no_slot).since

-- the page's bytes as opening sees them: of one frame, and of all
abbrev pub page_of : List Slot → List (List ℕ) → ℕ → List ℕ → List ℕ
page_of ss frames n home = bytes_of frames (frame_of ss n) home

abbrev pub page_since_of : List Slot → ℕ → Option ℕ
page_since_of ss n = since_of ss (frame_of ss n)

-- the list says of each number which frame holds it
abbrev pub IsIndex : List Slot → List (Option ℕ) → Type 0
IsIndex slots index = (n : ℕ) → n < length index → get_or index n None ≡ frame_of slots n
