-- The command is one of which `clap` says exactly what it makes of words.
use Rattle.std.proofs.Common.{◌≡◌, true, refl}
use Rattle.clap.specs.Words.{is_simple, is_simple_and_free}
use Rattle.clap.proofs.OnLiterals.{clap_on_literals}
use Rattle.sg_command.specs.Words.{stasis_app}

pub stasis-simple : is_simple stasis_app ≡ true
unfolding clap_on_literals
stasis-simple = refl

pub stasis-free : is_simple_and_free stasis_app ≡ true
unfolding clap_on_literals
stasis-free = refl
