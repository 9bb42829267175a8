use Rattle.std.proofs.Common.{sym, ◌∙◌, subst, ◌<◌, ℕ}
use Rattle.sg_index.proofs.Loading.{there, no_record, no_node, few_items}
use Rattle.sg_index.proofs.load.read_node.Goals as goal

pub returns-in-Ok-None-clause-failed : goal.returns-in-Ok-None-clause-failed
returns-in-Ok-None-clause-failed g c = no_record _ c.args.leaf c.args.number _ c.node_key-key.ensures.key _ _ c.in-Ok-None.ensures.found c.in-Ok-None.field-0-is c.args.least

pub returns-in_default-clause-failed : goal.returns-in_default-clause-failed
returns-in_default-clause-failed g c = no_node _ c.args.leaf c.args.number _ c.node_key-key.ensures.key _ _ c.in-Ok-Some.ensures.found _ c.in-Ok-Some.field-0-is c.in_default.ensures.read c.args.least

pub returns-then-len-least-clause-failed : goal.returns-then-len-least-clause-failed
returns-then-len-least-clause-failed g c = few_items _ c.args.leaf c.args.number _ c.node_key-key.ensures.key _ _ c.in-Ok-Some.ensures.found _ c.in-Ok-Some.field-0-is _ c.in-Some.ensures.read c.args.least (subst (λ (n : ℕ). n < c.args.least) c.len.ensures.value c.if-len-least.true)

pub returns-clause-read : goal.returns-clause-read
returns-clause-read g c = there _ c.args.leaf c.args.number _ c.node_key-key.ensures.key _ _ c.in-Ok-Some.ensures.found _ c.in-Ok-Some.field-0-is ∙ sym c.in-Some.ensures.read
