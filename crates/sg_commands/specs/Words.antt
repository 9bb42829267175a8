-- What the words of the program ask for, a run of a script, a new store, its objects or what they come to, a listing of its log, or a workload.
use Rattle.std.specs.Prelude.{ℕ, Bool, true, false, not, ◌||◌, List, String, Option, Some, None, is_some}
use Rattle.std.specs.declared.alloc.Global.{Global}
use Rattle.sg_command.specs.Asked.{asked, texts_of}
use Rattle.sg_command.specs.declared.words.Command.{Command}
use Rattle.sg_command.specs.declared.words.Command.TheVariants.{Init, Run, Dump, Check, Log, Gen}
use Rattle.sg_commands.specs.declared.objects.Listing.{Listing}
use Rattle.sg_commands.specs.declared.objects.Listing.TheVariants.{Text, Summary}

abbrev pub asks_run : Option Command → Bool
asks_run None = false
asks_run (Some (Init geometry)) = false
asks_run (Some (Run stop_after)) = true
asks_run (Some Dump) = false
asks_run (Some Check) = false
asks_run (Some Log) = false
asks_run (Some (Gen seed count)) = false

-- the words are those of a run
abbrev pub are_run : List (String Global) → Bool
are_run words = asks_run (asked (texts_of words))

abbrev pub stop_in : Option Command → Option ℕ
stop_in None = None
stop_in (Some (Init geometry)) = None
stop_in (Some (Run stop_after)) = stop_after
stop_in (Some Dump) = None
stop_in (Some Check) = None
stop_in (Some Log) = None
stop_in (Some (Gen seed count)) = None

-- how many calls the disk may make, where the words say so
abbrev pub stop_after : List (String Global) → Option ℕ
stop_after words = stop_in (asked (texts_of words))

-- a workload: what it is drawn from, and how many lines are drawn
pub record Drawn : Type 0 where
  pub seed : ℕ
  pub count : ℕ

abbrev pub drawn_in : Option Command → Option Drawn
drawn_in None = None
drawn_in (Some (Init geometry)) = None
drawn_in (Some (Run stop_after)) = None
drawn_in (Some Dump) = None
drawn_in (Some Check) = None
drawn_in (Some Log) = None
drawn_in (Some (Gen seed count)) = Some (record { seed = seed; count = count })

-- the workload that the words ask for, if they do
abbrev pub drawn : List (String Global) → Option Drawn
drawn words = drawn_in (asked (texts_of words))

abbrev pub asks_init : Option Command → Bool
asks_init None = false
asks_init (Some (Init geometry)) = true
asks_init (Some (Run stop_after)) = false
asks_init (Some Dump) = false
asks_init (Some Check) = false
asks_init (Some Log) = false
asks_init (Some (Gen seed count)) = false

-- the words ask for a new store
abbrev pub are_init : List (String Global) → Bool
are_init words = asks_init (asked (texts_of words))

abbrev pub asks_file : Option Command → Bool
asks_file (Some (Init geometry)) = geometry
asks_file other = false

-- the words ask for a new store whose sizes a file says
abbrev pub with_file : List (String Global) → Bool
with_file words = asks_file (asked (texts_of words))

abbrev pub asks_log : Option Command → Bool
asks_log None = false
asks_log (Some (Init geometry)) = false
asks_log (Some (Run stop_after)) = false
asks_log (Some Dump) = false
asks_log (Some Check) = false
asks_log (Some Log) = true
asks_log (Some (Gen seed count)) = false

-- the words ask for the listing of a store's log
abbrev pub are_log : List (String Global) → Bool
are_log words = asks_log (asked (texts_of words))

abbrev pub listing_in : Option Command → Option Listing
listing_in None = None
listing_in (Some (Init geometry)) = None
listing_in (Some (Run stop_after)) = None
listing_in (Some Dump) = Some Text
listing_in (Some Check) = Some Summary
listing_in (Some Log) = None
listing_in (Some (Gen seed count)) = None

-- what the words ask to be written of a store's objects, if they do
abbrev pub listing_asked : List (String Global) → Option Listing
listing_asked words = listing_in (asked (texts_of words))

-- what the words ask for is done on the disk
abbrev pub call_disk : List (String Global) → Bool
call_disk words = are_run words || (are_init words || (are_log words || is_some (listing_asked words)))

-- the program does what the words ask for
abbrev pub are_served : List (String Global) → Bool
are_served words = call_disk words || is_some (drawn words)
