-- The words of a line that a log keeps.
use Rattle.std.specs.Prelude.{◌≡◌, ℕ, Bool, false, ◌<◌, ◌==◌, ◌&&◌, ◌||◌, List, [], ◌∷◌, length}
use Rattle.std.specs.List.{join_with_byte}
use Rattle.std.specs.Str.Lines.{strip_carriage_return}
use Rattle.sg_words.specs.Parse.{words_of}

-- two spaces stand side by side
abbrev pub has_gap : List ℕ → Bool
has_gap [] = false
has_gap (b ∷ []) = false
has_gap (b ∷ c ∷ more) = ((b == 32) && (c == 32)) || has_gap (c ∷ more)

-- the words of a text, of which there are some, stand in it with one space between each two, and none before the first or
-- behind the last
pub record IsJoined (text : List ℕ) : Type 0 where
  pub some : 0 < length text
  pub joined : join_with_byte 32 (words_of text) ≡ text

-- the words but for the first
abbrev pub later_words : List (List ℕ) → List (List ℕ)
later_words [] = []
later_words (word ∷ words) = words

-- the words of a line but for the first, the transaction's name, with one space between each two
abbrev pub spoken : List ℕ → List ℕ
spoken line = join_with_byte 32 (later_words (words_of (strip_carriage_return line)))
