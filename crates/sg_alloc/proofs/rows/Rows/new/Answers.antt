use Rattle.sg_alloc.proofs.Summaries.{zeros_are_rows}
use Rattle.sg_alloc.proofs.rows.Rows.new.Goals as goal

pub invariant_of-result : goal.invariant_of-result
invariant_of-result c = zeros_are_rows _ _ _ c.args.count c.requires c.in_ok-new_words.ensures c.in_ok-new_words-2.ensures c.in_ok-new_words-3.ensures
