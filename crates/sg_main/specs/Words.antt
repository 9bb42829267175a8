-- Which folder and which file the words of the process name.
use Rattle.std.specs.Prelude.{ℕ, List, length, nat_lt, String, Option, Some, None, if◌then◌else◌}
use Rattle.std.specs.declared.alloc.Global.{Global}
use Rattle.sg_command.specs.Asked.{named, texts_of}

-- a word for a folder names one if it has a byte
abbrev pub folder_named : Option (List ℕ) → Option (List ℕ)
folder_named None = None
folder_named (Some word) = if nat_lt 0 (length word) then Some word else None

-- the folder that the words name
abbrev pub folder_in : List (String Global) → Option (List ℕ)
folder_in words = folder_named (named (texts_of words)).dir

-- the file that says the sizes of a new store, where the words name one
abbrev pub file_in : List (String Global) → Option (List ℕ)
file_in words = (named (texts_of words)).file
