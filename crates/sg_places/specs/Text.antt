-- The text of a log: frames one behind another.
use Rattle.std.specs.Prelude.{◌≡◌, ◌+◌, ◌<◌, ℕ, List, [], ◌∷◌, ◌++◌, length, take}
use Rattle.sg_record.specs.Records.{Record}
use Rattle.sg_log.specs.Texts.{spelled_all}
use Rattle.sg_log.specs.Frames.{IsFrame, text_of}

-- the bytes of a frame of these records: an open gate, the length of the body, and the body
abbrev pub framed : List Record → List ℕ
framed rs = 1 ∷ text_of (spelled_all rs)

-- the bytes of frames, one behind another
abbrev pub framed_all : List (List Record) → List ℕ
framed_all [] = []
framed_all (rs ∷ frames) = framed rs ++ framed_all frames

abbrev pub AreFrames : List (List Record) → Type 0
AreFrames [] = Unit {0}
AreFrames (rs ∷ frames) = IsFrame rs × AreFrames frames

-- THE TEXT OF THESE FRAMES
pub record IsText (frames : List (List Record)) (text : List ℕ) : Type 0 where
  pub all : AreFrames frames
  pub bytes : text ≡ framed_all frames

-- A STRETCH: of a text that begins with these frames, so many bytes are those that it has whole, and the next one isn't
pub record IsStretch (frames : List (List Record)) (text : List ℕ) (size : ℕ) : Type 0 where
  pub part : List (List Record)
  pub rest : List (List Record)
  pub is_all : frames ≡ part ++ rest
  pub whole : IsText part (take size text)
  pub most : (rs : List Record) (more : List (List Record)) → rest ≡ rs ∷ more → length text < size + length (framed rs)
