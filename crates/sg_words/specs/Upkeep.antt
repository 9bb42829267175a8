-- What a line of a script asks of the store as a whole.
use Rattle.std.specs.Prelude.{ℕ, nat_lt, if◌then◌else◌, List, [], ◌∷◌, length, Option, Some, None, codes}
use Rattle.std.specs.Str.{bytes_eq}
use Rattle.std.specs.Str.Lines.{strip_carriage_return}
use Rattle.sg_words.specs.Parse.{words_of, most_line_bytes}
use Rattle.sg_words.specs.declared.upkeep.Upkeep.{Upkeep}
use Rattle.sg_words.specs.declared.upkeep.Upkeep.TheVariants.{Flush, Checkpoint, Truncate}

-- what a word asks of the store as a whole, if anything
unfoldable pub upkeep_word : List ℕ → Option Upkeep
upkeep_word word =
    if bytes_eq word (codes "flush") then Some Flush
    else (if bytes_eq word (codes "checkpoint") then Some Checkpoint
    else (if bytes_eq word (codes "truncate") then Some Truncate
    else None))

-- it is said by one word alone
abbrev pub upkeep_in : List (List ℕ) → Option Upkeep
upkeep_in [] = None
upkeep_in (word ∷ []) = upkeep_word word
upkeep_in (first ∷ second ∷ rest) = None

-- WHAT A LINE ASKS of the store as a whole, if anything. One that is too long asks for nothing, and a CR at the end is dropped
unfoldable pub upkeep_of : List ℕ → Option Upkeep
upkeep_of line = if nat_lt most_line_bytes (length line) then None else upkeep_in (words_of (strip_carriage_return line))
