-- How a log is cut: which frames go, and what is copied.
use Rattle.std.specs.Prelude.{◌≡◌, ◌<◌, ◌≤◌, ◌+◌, ℕ, List, ◌∷◌, ◌++◌, length}
use Rattle.sg_base.specs.declared.area.Area.{Area}
use Rattle.sg_base.specs.declared.area.Area.TheVariants.{Home, Log0, Log1}
use Rattle.sg_disk.specs.Disk.{Image, State, LeavesPart, View}
use Rattle.sg_record.specs.Records.{Record}
use Rattle.sg_log.specs.Texts.{spelled_all}
use Rattle.sg_log.specs.Frames.{Numbered, numbered_in, text_of, gate_after, SameElsewhere}
use Rattle.sg_log.specs.Held.{Tail}

-- the other one of the two areas in which a log may stand
abbrev pub other_log : Area → Area
other_log Home = Log0
other_log Log0 = Log1
other_log Log1 = Log0

-- a frame begins at this offset, and it holds the point; the frames in front of it end at or before the point
pub record IsHolding (base point : ℕ) (frames : List (List Record)) (at : ℕ) : Type 0 where
  pub front : List (List Record)
  pub holding : List Record
  pub back : List (List Record)
  pub split : frames ≡ front ++ holding ∷ back
  pub place : at ≡ gate_after 0 front
  pub within : base + at ≤ point
  pub behind : point < base + (at + 1 + length (text_of (spelled_all holding)))

-- THE CUT of a log's records at a point: those of the frames that end at or before it, and those from the frame on that holds it
pub record IsSplit (base point : ℕ) (ds : List Numbered) : Type 0 where
  pub front : List (List Record)
  pub holding : List Record
  pub back : List (List Record)
  pub all : ds ≡ numbered_in base front ++ numbered_in (gate_after base front) (holding ∷ back)
  pub within : gate_after base front ≤ point
  pub behind : point < gate_after base front + 1 + length (text_of (spelled_all holding))

-- the number of that frame's gate, which is the number of the first byte once the log is cut
abbrev pub gate_of : {base point : ℕ} {ds : List Numbered} → IsSplit base point ds → ℕ
gate_of {base = base} s = gate_after base s.front

abbrev pub gone_of : {base point : ℕ} {ds : List Numbered} → IsSplit base point ds → List Numbered
gone_of {base = base} s = numbered_in base s.front

abbrev pub kept_of : {base point : ℕ} {ds : List Numbered} → IsSplit base point ds → List Numbered
kept_of {base = base} s = numbered_in (gate_after base s.front) (s.holding ∷ s.back)

-- an image of a moment at which only this area is touched
abbrev pub Spares : Area → State → Image → Type 0
Spares area s c = (b : Area) → (b ≡ area → ⊥) → LeavesPart (s b) (c b)

-- So many bytes of an area, from an offset on, stand in another one from its first byte on, and only that one was touched
pub record IsCopied (from : Area) (start : ℕ) (to : Area) (count : ℕ) (v w : View) : Type 0 where
  pub others : SameElsewhere to v.now w.now
  pub bytes : (i : ℕ) → i < count → (w.now to).seen i ≡ (v.now from).seen (start + i)

-- the log once it is cut
abbrev pub cut_to : ℕ → Tail → Tail
cut_to base log = record log { area = other_log log.area; base = base }
