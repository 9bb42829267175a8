use Rattle.sg_ops.specs.Table.{fresh_table}
use Rattle.sg_tests_store.proofs.Served.{asked}
use Rattle.sg_tests_store.proofs.trial.list.Goals as goal

pub list-requires : goal.list-requires
list-requires c = record { serves = (fresh_table, asked fresh_table _ _ _ _ _) }
