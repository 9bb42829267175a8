-- What a disk of three areas contains, what its calls do to it, and what a crash leaves of it.
use Rattle.std.specs.Prelude.{Option, Some, None, IfSome, ◌≡◌, ◌⊎◌, ◌<◌, ◌≤◌, ◌+◌, ◌-◌, ◌^◌, ℕ, zero, suc, min, List, [], ◌∷◌, ◌++◌, length, get_or, Result, OnOk, OnErr, if◌then◌else◌, nat_lt}
use Rattle.sg_base.specs.declared.area.Area.{Area}
use Rattle.sg_base.specs.declared.area.Area.TheVariants.{Home, Log0, Log1}
use Rattle.sg_base.specs.Ends.{HasRisen}

-- the end of each area: no byte at or after it is ever written
abbrev pub END : ℕ
END = 2 ^ 63 + 4096

-- the greatest value of a count
abbrev pub FULL : ℕ
FULL = 2 ^ 64 - 1

-- the bytes of an area, 0 where none was written
abbrev pub Bytes : Type 0
Bytes = ℕ → ℕ

-- the bytes of all areas
abbrev pub Image : Type 0
Image = Area → ℕ → ℕ

-- the bytes at and after from, and before to where it has an end
pub record Range : Type 0 where
  pub from : ℕ
  pub to : Option ℕ

-- a crash may spoil this byte while the range is pending
unfoldable pub Touches : Range → ℕ → Type 0
Touches r i = (r.from ≤ i) × IfSome r.to (λ to. i < to)

-- a crash may spoil this byte while these ranges are pending
abbrev pub Spoils : List Range → ℕ → Type 0
Spoils [] i = ⊥
Spoils (r ∷ rs) i = Touches r i ⊎ Spoils rs i

-- one area: what a read gives, and which ranges are pending
pub record Part : Type 0 where
  pub seen : Bytes
  pub pending : List Range

abbrev pub State : Type 0
State = Area → Part

-- what a crash may leave of one area: any bytes where it may spoil, and what a read gives elsewhere
pub record LeavesPart (p : Part) (c : Bytes) : Type 0 where
  pub byte : (i : ℕ) → c i < 256
  pub rest : (i : ℕ) → (Spoils p.pending i → ⊥) → c i ≡ p.seen i

-- the images that a crash may leave
abbrev pub Leaves : State → Image → Type 0
Leaves s c = (a : Area) → LeavesPart (s a) (c a)

-- the images that a crash at one of these moments may leave
abbrev pub LeavesAny : List State → Image → Type 0
LeavesAny [] c = ⊥
LeavesAny (s ∷ ss) c = Leaves s c ⊎ LeavesAny ss c

-- f with x in the place of f a
abbrev pub at_area : {X : Type 0} → Area → X → (Area → X) → Area → X
at_area Home x f Home = x
at_area Log0 x f Log0 = x
at_area Log1 x f Log1 = x
at_area a x f b = f b

-- these bytes at this offset, the rest as before
abbrev pub put : ℕ → List ℕ → Bytes → Bytes
put at bytes f i = if nat_lt i at then f i else get_or bytes (i - at) (f i)

-- 0 at and after this offset
abbrev pub cut : ℕ → Bytes → Bytes
cut at f i = if nat_lt i at then f i else 0

-- so many bytes from this offset on
abbrev pub window : Bytes → ℕ → ℕ → List ℕ
window f at zero = []
window f at (suc n) = f at ∷ window f (suc at) n

-- what the calls leave of a part, and of all
abbrev pub written_part : ℕ → List ℕ → Part → Part
written_part at bytes p = record { seen = put at bytes p.seen; pending = record { from = at; to = Some (at + length bytes) } ∷ p.pending }

abbrev pub dropped_part : ℕ → Part → Part
dropped_part at p = record { seen = cut at p.seen; pending = record { from = at; to = None } ∷ p.pending }

abbrev pub synced_part : Part → Part
synced_part p = record { seen = p.seen; pending = [] }

abbrev pub written : Area → ℕ → List ℕ → State → State
written a at bytes s = at_area a (written_part at bytes (s a)) s

abbrev pub dropped : Area → ℕ → State → State
dropped a at s = at_area a (dropped_part at (s a)) s

abbrev pub synced : Area → State → State
synced a s = at_area a (synced_part (s a)) s

-- all that is known of a disk
pub record View : Type 0 where
  pub now : State
  -- the states of earlier moments, the latest first
  pub past : List State
  -- the bytes that were handed to write_at
  pub handed : ℕ
  pub calls : ℕ
  pub faults : ℕ

-- What each call does to the counts, told or not: at most n bytes are handed over, and the faults are those of calls
-- that failed
pub record Counts {T E : Type 0} (n : ℕ) (old new : View) (result : Result T E) : Type 0 where
  pub handed_most : new.handed ≤ old.handed + n
  pub handed_least : old.handed ≤ new.handed
  pub calls : new.calls ≡ min (old.calls + 1) FULL
  pub later : old.faults ≤ new.faults
  pub quiet : OnOk result (new.faults ≡ old.faults)
  pub failed : OnErr result (HasRisen old.faults new.faults)

-- What a call does to a disk that tells. In it and after it a crash leaves what it may leave of widest, also where it fails.
pub record Does {T E : Type 0} (old new : View) (result : Result T E) (widest done : State) : Type 0 where
  pub added : List State
  pub past : new.past ≡ added ++ old.past
  pub kept : (c : Image) → Leaves old.now c → LeavesAny (new.now ∷ added) c
  pub only : (c : Image) → LeavesAny (new.now ∷ added) c → Leaves widest c
  pub ok : OnOk result (new.now ≡ done)

-- the calls
abbrev pub ReadBytes : {T E : Type 0} → View → View → Result T E → Type 0
ReadBytes old new result = Does old new result old.now old.now

abbrev pub Wrote : {T E : Type 0} → Area → ℕ → List ℕ → View → View → Result T E → Type 0
Wrote a at bytes old new result = Does old new result (written a at bytes old.now) (written a at bytes old.now)

abbrev pub Dropped : {T E : Type 0} → Area → ℕ → View → View → Result T E → Type 0
Dropped a at old new result = Does old new result (dropped a at old.now) (dropped a at old.now)

abbrev pub Synced : {T E : Type 0} → Area → View → View → Result T E → Type 0
Synced a old new result = Does old new result old.now (synced a old.now)

-- Each image of each moment since old, during calls and between them, has P.
pub record LeavesOnly (old new : View) (P : Image → Type 0) : Type 0 where
  pub added : List State
  pub past : new.past ≡ added ++ old.past
  pub first : (c : Image) → Leaves old.now c → P c
  pub each : (c : Image) → LeavesAny (new.now ∷ added) c → P c

-- the view of a disk of which so many calls were refused
abbrev pub refusing : View → ℕ → View
refusing v refused = record v { calls = min (v.calls + refused) FULL; faults = v.faults + refused }

-- One more call has passed a fuse that lets so many pass, or all
abbrev pub PassesOne : Option ℕ → ℕ → ℕ → Type 0
PassesOne None before now = now ≡ min (before + 1) FULL
PassesOne (Some n) before now = (now ≡ before + 1) × (now ≤ n)

-- what a fuse that lets so many calls pass, or all, has let pass and has refused, by the count of calls inside
pub record Spent (passes : Option ℕ) (before now refused : ℕ) : Type 0 where
  -- no more calls than it lets pass
  pub most : IfSome passes (λ n. now ≤ before + n)
  -- and where it has refused one, exactly as many, as far as they are counted
  pub all : 0 < refused → (n : ℕ) × (passes ≡ Some n) × (now < FULL → now ≡ before + n)
