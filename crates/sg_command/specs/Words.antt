-- The command line as `clap` reads it: one command with a level of subcommands.
use Rattle.std.specs.Prelude.{◌≡◌, true, false, codes, Some}
use Rattle.clap.specs.Words.{App, Rule, Text, app_of, new_app, new_rule, with_rule, with_subcommand}
use Rattle.clap.specs.Simple.{on_top}
use Rattle.clap.specs.declared.builder.command.Command.{Command}
use Rattle.clap.specs.declared.builder.command.Command.TheViews.{out-Command}

-- a word that has to be there, at its place
abbrev pub required_rule : Text → Rule
required_rule id = record (new_rule id) { required = true }

-- an option with one value, which may be left out
abbrev pub option_rule : Text → Rule
option_rule name = record (new_rule name) { long = Some name }

-- a subcommand with the word DIR
abbrev pub folder_app : Text → App
folder_app name = with_rule (new_app name) (required_rule (codes "dir"))

abbrev pub init_app : App
init_app = with_rule (folder_app (codes "init")) (option_rule (codes "geometry"))

abbrev pub run_app : App
run_app = with_rule (folder_app (codes "run")) (option_rule (codes "stop-after"))

abbrev pub gen_app : App
gen_app = with_rule (with_rule (new_app (codes "gen")) (required_rule (codes "seed"))) (required_rule (codes "count"))

-- the program's own name isn't among the words, and one of the subcommands has to be
abbrev pub bare_app : App
bare_app = on_top (λ s. record s { no_binary_name = true; subcommand_required = true }) (new_app (codes "stasis"))

-- the command with its six subcommands
abbrev pub stasis_app : App
stasis_app =
    with_subcommand (with_subcommand (with_subcommand (with_subcommand (with_subcommand (with_subcommand bare_app
    init_app.top) run_app.top) (folder_app (codes "dump")).top) (folder_app (codes "check")).top) (folder_app (codes "log")).top) gen_app.top

-- the command is this one, and none of its arguments is global
abbrev pub IsApp : App → Command → Type 0
IsApp app c = (app_of c ≡ app) × ((out-Command c).has_globals ≡ false)
