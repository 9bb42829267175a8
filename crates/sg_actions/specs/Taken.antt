-- Which pages and bands are taken, and which of these the open action has freed.
use Rattle.std.specs.Prelude.{◌≡◌, ◌<◌, ◌≤◌, ◌^◌, ℕ, ◌+◌, ◌==◌, ◌&&◌, ◌||◌, nat_lt, Bool, true, false, not, if◌then◌else◌, List, [], ◌∷◌, length, slice_index_or, Option, None, IsSome}
use Rattle.sg_alloc.specs.Flags.{free_of}
use Rattle.sg_base.specs.Op.{Op}
use Rattle.sg_action.specs.States.{State, Change, Kept}
use Rattle.sg_action.specs.States.Change.{Page, Write, Paint}
use Rattle.sg_action.specs.Opened.{formats}
use Rattle.sg_space.specs.Units.{Units}
use Rattle.sg_actions.specs.Engine.{Extent}

abbrev pub is_set : List Bool → ℕ → Bool
is_set flags n = slice_index_or flags n false

-- It's taken, and the open action hasn't freed it. What an action frees stays set among the taken ones until the action ends, and
-- is cleared among the others.
abbrev pub is_there : (taken unfreed : List Bool) → ℕ → Bool
is_there taken unfreed n = is_set taken n && is_set unfreed n

-- those that are there, each with what it contains
abbrev pub units_there : {A : Type 0} → (taken unfreed : List Bool) → (ℕ → Option A) → Units A
units_there taken unfreed contents = record {
  at = λ n. if is_there taken unfreed n then contents n else None;
  free = free_of taken + free_of unfreed;
  count = length taken;
}

-- as many flags of both sorts, and what is freed is taken
pub record AreFlags (taken unfreed : List Bool) : Type 0 where
  pub long : length unfreed ≡ length taken
  pub inside : (n : ℕ) → n < length taken → is_set unfreed n ≡ false → is_set taken n ≡ true
  pub few : length taken < 2 ^ 32

-- there are no more flags than pages and bands
pub record IsWithin (taken taken_bands : List Bool) (x : Extent) : Type 0 where
  pub pages : length taken ≤ x.pages
  pub bands : length taken_bands ≤ x.bands

-- each that is taken contains something
abbrev pub AreSaid : {A : Type 0} → List Bool → (ℕ → Option A) → Type 0
AreSaid taken contents = (n : ℕ) → is_set taken n ≡ true → IsSome (contents n)

-- some change of the action takes the page
abbrev pub takes_page : List Change → ℕ → Bool
takes_page [] n = false
takes_page (d ∷ ds) n = formats d n || takes_page ds n

-- the change fills the band with zeros as one that is taken
abbrev pub fills : Change → ℕ → Bool
fills (Page n op back) b = false
fills (Write c at before after) b = false
fills (Paint c at count code position arg []) b = b == c
fills (Paint c at count code position arg (x ∷ before)) b = false

abbrev pub takes_band : List Change → ℕ → Bool
takes_band [] b = false
takes_band (d ∷ ds) b = fills d b || takes_band ds b

-- the change is one of bytes of the band
abbrev pub touches : Change → ℕ → Bool
touches (Page n op back) b = false
touches (Write c at before after) b = b == c
touches (Paint c at count code position arg before) b = b == c

-- some change of the action is one of bytes of the band
abbrev pub writes_band : List Change → ℕ → Bool
writes_band [] b = false
writes_band (d ∷ ds) b = touches d b || writes_band ds b

-- how many bytes the cell had that an operation puts back
abbrev pub back_size : Op → ℕ
back_size (Op.Format kind) = 0
back_size (Op.Put slot bytes) = 0
back_size (Op.Remove slot) = 0
back_size (Op.Set slot bytes) = length bytes
back_size (Op.Links links) = 0
back_size (Op.Item slot code arg) = 0
back_size (Op.ItemBack slot code arg) = 0

-- an operation leaves fewer bytes in the cells of its page, by the one that takes it off
abbrev pub lessens_by : Op → (back : Op) → Bool
lessens_by (Op.Format kind) back = false
lessens_by (Op.Put slot bytes) back = false
lessens_by (Op.Remove slot) back = true
lessens_by (Op.Set slot bytes) back = nat_lt (length bytes) (back_size back)
lessens_by (Op.Links links) back = false
lessens_by (Op.Item slot code arg) back = false
lessens_by (Op.ItemBack slot code arg) back = false

-- the change is such an operation on this page
abbrev pub lessens : Change → ℕ → Bool
lessens (Page m op back) n = (n == m) && lessens_by op back
lessens (Write c at before after) n = false
lessens (Paint c at count code position arg before) n = false

-- the action has had such a change of the page since it began, or since it took the page
abbrev pub has_lessened : List Change → ℕ → Bool
has_lessened [] n = false
has_lessened (d ∷ ds) n = if formats d n then false else lessens d n || has_lessened ds n

-- What was taken when the open action began: what is taken now, but for what the action took. A page may have so many
-- slots as this says of the pages at the begin.
abbrev pub kept_of : (limits : State → ℕ → ℕ) → (pages bands : List Bool) → State → List Change → Kept
kept_of limits pages bands begin ds = record {
  pages = λ n. is_set pages n && not (takes_page ds n);
  bands = λ b. is_set bands b && not (takes_band ds b);
  slots = limits begin;
}

-- a page that the change took isn't taken any more, and all others are as before
pub record IsUntaken (taken unfreed taken' : List Bool) (d : Change) : Type 0 where
  pub here : (n : ℕ) → formats d n ≡ true → is_there taken unfreed n ≡ true → is_set taken' n ≡ false
  pub there : (n : ℕ) → formats d n ≡ false → is_set taken' n ≡ is_set taken n
  pub less : (n : ℕ) → is_set taken' n ≡ true → is_set taken n ≡ true
  pub flags : AreFlags taken' unfreed

-- a band that the change took isn't taken any more, and all others are as before
pub record IsUntakenBand (taken unfreed taken' : List Bool) (d : Change) : Type 0 where
  pub here : (n : ℕ) → fills d n ≡ true → is_there taken unfreed n ≡ true → is_set taken' n ≡ false
  pub there : (n : ℕ) → fills d n ≡ false → is_set taken' n ≡ is_set taken n
  pub less : (n : ℕ) → is_set taken' n ≡ true → is_set taken n ≡ true
  pub flags : AreFlags taken' unfreed

-- nothing is marked as freed
pub record AreForgotten (unfreed unfreed' : List Bool) : Type 0 where
  pub none : free_of unfreed' ≡ 0
  pub long : length unfreed' ≡ length unfreed
