-- What the words of the command line ask for.
use Rattle.std.specs.Prelude.{◌==◌, Bool, false, not, [], ◌∷◌, ℕ, ◌&&◌, nat_le, is_some, if◌then◌else◌, List, String, codes, string_bytes, map, Option, Some, None, option_map, option_and_then}
use Rattle.std.specs.Str.{bytes_eq}
use Rattle.std.specs.declared.alloc.Global.{Global}
use Rattle.clap.specs.Walk.{is_empty}
use Rattle.clap.specs.Words.{Row, Text, fault_of, first_of, subcommand_of}
use Rattle.clap.specs.declared.error.kind.ErrorKind.{ErrorKind}
use Rattle.clap.specs.declared.error.kind.ErrorKind.TheVariants.{OutOfMemory}
use Rattle.sg_words.specs.Parse.{number_of}
use Rattle.sg_command.specs.Words.{stasis_app}
use Rattle.sg_command.specs.declared.words.WordsError.{WordsError}
use Rattle.sg_command.specs.declared.words.WordsError.TheVariants.{Usage, Memory}
use Rattle.sg_command.specs.declared.words.Command.{Command}
use Rattle.sg_command.specs.declared.words.Command.TheVariants.{Init, Run, Dump, Check, Log, Gen}
use Rattle.sg_command.specs.declared.words.Paths.{Paths}

-- a run, with the calls that its disk makes at most, if that is a number
abbrev pub run_of : Option Text → Option Command
run_of None = Some (Run None)
run_of (Some text) = option_map (λ n. Run (Some n)) (number_of text)

-- a workload, if both words are numbers and the count is 1 to 1,000,000
abbrev pub counted : ℕ → ℕ → Option Command
counted seed count = if nat_le 1 count && nat_le count 1000000 then Some (Gen seed count) else None

abbrev pub gen_of : Option Text → Option Text → Option Command
gen_of seed count =
    option_and_then (λ s. option_and_then (λ c. option_and_then (λ n. option_and_then (λ m. counted n m) (number_of c)) (number_of s)) count) seed

-- what a subcommand asks for, with the values that it was given
abbrev pub asked_of : Text → List Row → Option Command
asked_of name rows =
    if bytes_eq name (codes "init") then Some (Init (is_some (first_of (codes "geometry") rows)))
    else if bytes_eq name (codes "run") then run_of (first_of (codes "stop-after") rows)
    else if bytes_eq name (codes "dump") then Some Dump
    else if bytes_eq name (codes "check") then Some Check
    else if bytes_eq name (codes "log") then Some Log
    else gen_of (first_of (codes "seed") rows) (first_of (codes "count") rows)

-- WHAT THE WORDS ASK FOR: nothing where `clap` refuses them, or a number isn't one
abbrev pub asked : List Text → Option Command
asked words =
    if is_empty (fault_of stasis_app words)
    then option_and_then (λ p. asked_of p.0 p.1) (subcommand_of stasis_app words)
    else None

-- the folder and the file that words name
pub record Named : Type 0 where
  pub dir : Option Text
  pub file : Option Text

-- those that a subcommand was given
abbrev pub named_in : Option (Text × List Row) → Named
named_in None = record { dir = None; file = None }
named_in (Some p) = record { dir = first_of (codes "dir") p.1; file = first_of (codes "geometry") p.1 }

-- WHAT THE WORDS NAME, by the command that `clap` reads them by
abbrev pub named : List Text → Named
named words = named_in (subcommand_of stasis_app words)

abbrev pub shown_paths : Paths → Named
shown_paths paths = record { dir = option_map (λ s. s.now) paths.dir; file = option_map (λ s. s.now) paths.file }

-- a word that has a byte, and begins with no minus
abbrev pub begins_plain : Text → Bool
begins_plain [] = false
begins_plain (x ∷ rest) = not (x == 45)

-- the bytes of each word
abbrev pub texts_of : List (String Global) → List Text
texts_of words = map string_bytes words

-- why a parse failed, by the kind of its error
abbrev pub if_memory : ErrorKind → WordsError
if_memory OutOfMemory = Memory
if_memory _ = Usage
