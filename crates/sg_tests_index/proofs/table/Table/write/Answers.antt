use Rattle.std.proofs.Common.{sym, ◌∙◌}
use Rattle.sg_tests_index.proofs.Tables.{node_written}
use Rattle.sg_tests_index.proofs.table.Table.write.Goals as goal

pub returns-in-Node-clause-put : goal.returns-in-Node-clause-put
returns-in-Node-clause-put c = node_written (λ v. v.items) c.args.self.now.header.items _ c.args.self.now.nodes.items _ c.args.key.now c.in-Node.number c.args.bytes c.put_node.result (sym c.place_of.ensures ∙ c.in-Node.is) c.requires c.put_node.ensures.header c.put_node.ensures.here c.put_node.ensures.others
