use Rattle.std.proofs.Common.{rules, ◌==◌, not, ap, ◌∙◌}
use Rattle.std.proofs.lemmas.Fn.{filter_same}
use Rattle.sg_analysis.specs.Past.{over_of}
use Rattle.sg_analysis.proofs.Gone.{over_of-without}
use Rattle.sg_analysis.proofs.past.Past.forget.Goals as goal

pub returns : goal.returns
returns c t = ap (over_of t) (filter_same _ (λ over. not (over.txn.0 == c.args.txn.0)) _ (λ x b f r. search rules) _ _ c.retain.ensures.filtered) ∙ over_of-without c.args.txn.0 t c.args.self.now.rows.items
