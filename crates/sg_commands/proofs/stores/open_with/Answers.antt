use Rattle.sg_commands.proofs.stores.open_with.Goals as goal

pub open_store-requires-clause-stands : goal.open_store-requires-clause-stands
open_store-requires-clause-stands g c ls lf is held = let some = c.requires.presumed is held in record { objects = some.0; stands = some.1 }
