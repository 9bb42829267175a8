use Rattle.std.specs.Prelude.{◌≡◌, ◌==◌, drop}
use Rattle.std.specs.List.{find}
use Rattle.sg_serial.specs.Runs.{Live}
use Rattle.sg_session.specs.Names.{all_live}
use Rattle.sg_session.proofs.names.Names.numbered.Given as goal

abbrev pub invariant-loop-n : goal.invariant-loop-n
invariant-loop-n l = find (λ (m : Live). m.transaction == l.txn.0) (all_live l.self.all.items) ≡ find (λ (m : Live). m.transaction == l.txn.0) (all_live (drop l.n-index l.self.all.items))
