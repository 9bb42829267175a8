use Rattle.std.proofs.Common.{◌<◌, ◌≤◌, length, sym, ◌∙◌, rules, arith}
use Rattle.sg_tests_index.proofs.Tables.{node_gone, node_absent}
use Rattle.sg_tests_index.proofs.table.Table.erase.Goals as goal

pub returns-then-at-len-clause-gone : goal.returns-then-at-len-clause-gone
returns-then-at-len-clause-gone c =
    let within : c.in-Node.number < length c.args.self.now.nodes.items = first_of (omega (arith, c.args.self.now.nodes.ok), search rules) in
    node_gone (λ v. v.items) c.args.self.now.header.items c.args.self.now.nodes.items c.args.key.now c.in-Node.number (sym c.place_of.ensures ∙ c.in-Node.is) c.new-none.result c.new-none.ensures.items within

pub returns-else-at-len-clause-gone : goal.returns-else-at-len-clause-gone
returns-else-at-len-clause-gone c =
    let past : length c.args.self.now.nodes.items ≤ c.in-Node.number = first_of (omega (arith, c.args.self.now.nodes.ok), search rules) in
    node_absent (λ v. v.items) c.args.self.now.header.items c.args.self.now.nodes.items c.args.key.now c.in-Node.number (sym c.place_of.ensures ∙ c.in-Node.is) past
