use Rattle.sg_ops.specs.Table.{fresh_table}
use Rattle.sg_tests_store.proofs.Served.{asked}
use Rattle.sg_tests_store.proofs.trial.close.Goals as goal

pub close-requires : goal.close-requires
close-requires c = record { serves = (fresh_table, asked fresh_table _ _ _ _ _) }
