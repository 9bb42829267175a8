use Rattle.std.proofs.Common.{sym}
use Rattle.std.specs.Prelude.{◌==◌}
use Rattle.sg_words.proofs.Search.{far_place, no_place}
use Rattle.sg_words.proofs.split.find.Goals as goal

pub returns-in-Some-find_far : goal.returns-in-Some-find_far
returns-in-Some-find_far c = sym (far_place (λ b. b == c.args.at) c.args.text.now c.split_at.result.0.now c.split_at.result.1.now 8 c.split_at.ensures.front c.split_at.ensures.back c.in-Some-find_far.i (sym c.in-None.ensures) (sym c.in-Some-find_far.ensures))

pub returns-in-None-find_far : goal.returns-in-None-find_far
returns-in-None-find_far c = sym (no_place (λ b. b == c.args.at) c.args.text.now c.split_at.result.0.now c.split_at.result.1.now 8 c.split_at.ensures.front c.split_at.ensures.back (sym c.in-None.ensures) (sym c.in-None-find_far.ensures))
