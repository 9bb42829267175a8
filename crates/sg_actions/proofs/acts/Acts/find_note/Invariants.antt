use Rattle.std.proofs.Common.{◌≡◌}
use Rattle.sg_action.specs.States.{State}
use Rattle.sg_ops.specs.Table.{Table}
use Rattle.sg_actions.specs.Engine.{led}
use Rattle.sg_actions.proofs.Counting.{HasLooked, LookedBy}
use Rattle.sg_actions.proofs.Walking.{IsWalking}
use Rattle.sg_actions.proofs.acts.Acts.find_note.Given as goal

-- from here on the walk comes to the same note
abbrev pub invariant-walk : goal.invariant-walk
invariant-walk g l = record {
  run : HasLooked (g.E.Engine.view l.fn.self.engine) (g.E.Engine.view l.self.engine) l.fn.self.breaks l.self.breaks;
  means : (t : Table) (from : State) → g.E.Engine.means l.fn.self.engine t from → g.E.Engine.means l.self.engine t from;
  by : (t : Table) (from : State) → g.E.Engine.means l.fn.self.engine t from → LookedBy (g.E.Engine.recovers t) t (led from (g.E.Engine.view l.fn.self.engine)) (led from (g.E.Engine.view l.self.engine));
  walks : (t : Table) (from : State) → g.E.Engine.means l.fn.self.engine t from → (g.E.Engine.view l.fn.self.engine).Told → IsWalking (g.E.Engine.view l.fn.self.engine).steps l.fn.txn.0 l.fn.stop l.at;
  maps : l.self.maps ≡ l.fn.self.maps;
  unfreed : l.self.unfreed ≡ l.fn.self.unfreed;
  rows : l.self.rows.items ≡ l.fn.self.rows.items;
  actor : l.self.actor ≡ l.fn.self.actor;
  begun : l.self.begun ≡ l.fn.self.begun;
}

abbrev pub decreases-walk : goal.decreases-walk
decreases-walk g l = l.at
