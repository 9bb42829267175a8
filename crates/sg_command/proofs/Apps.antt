-- A command that gains a subcommand.
use Rattle.std.proofs.Common.{◌||◌, ap, ap₂, ◌∙◌}
use Rattle.clap.specs.Words.{App, AddsSubcommand, with_subcommand}
use Rattle.clap.specs.declared.builder.command.Command.{Command}
use Rattle.sg_command.specs.Words.{IsApp}

pub adds : (a b : App) (old sub new : Command) → IsApp a old → IsApp b sub → AddsSubcommand old sub new → IsApp (with_subcommand a b.top) new
adds a b old sub new above below added = (
  added.shape below.1 ∙ ap₂ with_subcommand above.0 (ap (λ (app : App). app.top) below.0),
  added.globals ∙ ap₂ (λ x y. x || y) above.1 below.1,
)
