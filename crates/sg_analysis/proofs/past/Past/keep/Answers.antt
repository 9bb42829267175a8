use Rattle.std.proofs.Common.{ap, ◌∙◌}
use Rattle.sg_analysis.specs.Past.{over_of}
use Rattle.sg_analysis.proofs.Gone.{over_of-kept}
use Rattle.sg_analysis.proofs.past.Past.keep.Goals as goal

pub returns : goal.returns
returns c t = ap (over_of t) c.in_ok-push.ensures.items ∙ over_of-kept t c.args.self.now.rows.items c.forget.new.self.rows.items c.args.over (c.forget.ensures t)
