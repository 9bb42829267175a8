use Rattle.std.proofs.Common.{sym}
use Rattle.sg_words.proofs.Counts.{plain_joined}
use Rattle.sg_words.proofs.arguments.one_value.Goals as goal

pub returns-then-prints_plain-clause-joined : goal.returns-then-prints_plain-clause-joined
returns-then-prints_plain-clause-joined c = λ e. plain_joined c.args.text.now (sym c.if-prints_plain.ensures)
