use Rattle.std.proofs.Common.{ℕ, List, Ok}
use Rattle.sg_ops.specs.Table.{Table}
use Rattle.sg_record.specs.Changes.{Change as Changing}
use Rattle.sg_recovery.specs.Log.{Open}
use Rattle.sg_action.specs.States.{State}
use Rattle.sg_found.specs.Found.{HasBack, IsBack}
use Rattle.sg_found.specs.Looks.{HasLooked}
use Rattle.sg_found.proofs.Backing.{AreOf}
use Rattle.sg_found.proofs.looking.find_before.Given as goal

-- so far the way back went over changes alone
abbrev pub invariant-changes : goal.invariant-changes
invariant-changes g l = record {
  looks : HasLooked {T = ℕ} g.E.Engine.recovers (g.E.Engine.view l.fn.engine) (g.E.Engine.view l.engine) (g.E.Engine.means l.fn.engine) (g.E.Engine.means l.engine) (Ok 0);
  goes : (t : Table) (from : State) → g.E.Engine.means l.fn.engine t from → (g.E.Engine.view l.fn.engine).Told
      → (h : HasBack (g.E.Engine.view l.fn.engine).steps l.fn.start l.fn.first) → (ds : List (Open Changing)) × IsBack (g.E.Engine.view l.fn.engine).steps h.base h.before l.at ds × AreOf h.ds ds;
}

abbrev pub decreases-changes : goal.decreases-changes
decreases-changes g l = l.at
