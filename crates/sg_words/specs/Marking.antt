-- What a line of a script asks of the marks of a transaction.
use Rattle.std.specs.Prelude.{ℕ, nat_lt, nat_le, if◌then◌else◌, List, [], ◌∷◌, length, Option, Some, None, codes}
use Rattle.std.specs.Option.{option_map}
use Rattle.std.specs.Str.{bytes_eq}
use Rattle.std.specs.Str.Lines.{strip_carriage_return}
use Rattle.sg_words.specs.Parse.{words_of, number_of, is_transaction, most_line_bytes}
use Rattle.sg_words.specs.declared.marking.Marking.{Marking}
use Rattle.sg_words.specs.declared.marking.Marking.TheVariants.{Save, Back}

-- the number of a mark, of which a transaction has 16 at most. A greater number is no mark's, and is read as 0, which is none's
-- either
abbrev pub mark_number : ℕ → ℕ
mark_number n = if nat_le n 16 then n else 0

-- to set a mark takes no words
abbrev pub save_of : List (List ℕ) → Option Marking
save_of [] = Some Save
save_of (word ∷ more) = None

-- to go back to one takes its number
abbrev pub back_of : List (List ℕ) → Option Marking
back_of [] = None
back_of (number ∷ []) = option_map (λ n. Back (mark_number n)) (number_of number)
back_of (number ∷ word ∷ more) = None

-- what the words behind a transaction's name ask of its marks, if anything
unfoldable pub marking_in : List (List ℕ) → Option Marking
marking_in [] = None
marking_in (verb ∷ args) =
    if bytes_eq verb (codes "save") then save_of args
    else (if bytes_eq verb (codes "back") then back_of args
    else None)

-- and of which transaction
abbrev pub marking_by : List (List ℕ) → Option (List ℕ × Marking)
marking_by [] = None
marking_by (name ∷ words) = if is_transaction name then option_map (λ marking. (name, marking)) (marking_in words) else None

-- WHAT A LINE ASKS of the marks of a transaction, if anything: the transaction's name, and what. One that is too long asks for nothing, and a CR at
-- the end is dropped
unfoldable pub marking_of : List ℕ → Option (List ℕ × Marking)
marking_of line = if nat_lt most_line_bytes (length line) then None else marking_by (words_of (strip_carriage_return line))
