use Rattle.std.proofs.Common.{◌≡◌, List, ℕ, length}
use Rattle.sg_alloc.specs.Flags.{map_bands_of}
use Rattle.sg_action.specs.States.{State}
use Rattle.sg_ops.specs.Table.{Table}
use Rattle.sg_recovery.specs.Log.{changes_of}
use Rattle.sg_actions.specs.Acting.{IsChained}
use Rattle.sg_actions.specs.Engine.{now_of, led}
use Rattle.sg_actions.specs.Later.{Later, acts_at}
use Rattle.sg_actions.specs.PuttingBack.{GoesOn}
use Rattle.sg_actions.specs.Undoing.{Hop, Leads, hopped, all_given_back}
use Rattle.sg_actions.proofs.PuttingBack.{OnWay, HasRun}
use Rattle.sg_actions.proofs.acts.Acts.put_back.Given as goal

-- what is left of the way gives the rest of the bytes back
abbrev pub invariant-back : goal.invariant-back
invariant-back g l = record {
  means : (t : Table) (start : State) → g.E.Engine.means l.fn.self.engine t start → g.E.Engine.means l.self.engine t start;
  goes : (t : Table) (start : State) → g.E.Engine.means l.fn.self.engine t start → GoesOn (led start (g.E.Engine.view l.fn.self.engine)) (led start (g.E.Engine.view l.self.engine)) l.fn.self.rows.items l.fn.self.actor l.self.actor;
  run : HasRun (g.E.Engine.view l.fn.self.engine) (g.E.Engine.view l.self.engine) l.fn.self.breaks l.self.breaks;
  way : (t : Table) (start : State) → g.E.Engine.means l.fn.self.engine t start → (g.E.Engine.view l.fn.self.engine).Told → IsChained (g.E.Engine.view l.fn.self.engine).base (g.E.Engine.view l.fn.self.engine).steps (g.E.Engine.view l.fn.self.engine).tail l.fn.self.rows.items l.fn.self.actor → (hs : List Hop) → Leads (g.E.Engine.view l.fn.self.engine).steps l.fn.to l.fn.from hs
      → OnWay (map_bands_of (length l.fn.self.maps.pages) (length l.fn.self.maps.bands)) t (led start (g.E.Engine.view l.fn.self.engine)) (led start (g.E.Engine.view l.self.engine)) l.fn.self.actor.txn.0 l.fn.to l.at (all_given_back (map_bands_of (length l.fn.self.maps.pages) (length l.fn.self.maps.bands)) (changes_of (hopped l.fn.self.actor.txn.0 l.fn.from hs)) (now_of t (led start (g.E.Engine.view l.fn.self.engine))));
  later : (limits : State → ℕ → ℕ) (t : Table) → Later g.E.Engine.recovers limits t (acts_at (g.E.Engine.view l.fn.self.engine) (g.E.Engine.means l.fn.self.engine) (g.E.Engine.view l.fn.self.begun_at.value).now l.fn.self.maps l.fn.self.rows.items l.fn.self.actor l.fn.self.begun)
      (acts_at (g.E.Engine.view l.self.engine) (g.E.Engine.means l.self.engine) (g.E.Engine.view l.self.begun_at.value).now l.self.maps l.self.rows.items l.self.actor l.self.begun);
  maps : l.self.maps ≡ l.fn.self.maps;
  unfreed : l.self.unfreed ≡ l.fn.self.unfreed;
  rows : l.self.rows.items ≡ l.fn.self.rows.items;
  begun : l.self.begun ≡ l.fn.self.begun;
}

abbrev pub decreases-back : goal.decreases-back
decreases-back g l = l.at
