use Rattle.std.proofs.Common.{ℕ, Ok}
use Rattle.sg_ops.specs.Table.{Table}
use Rattle.sg_action.specs.States.{State}
use Rattle.sg_found.specs.Looks.{HasLooked, AreBytes}
use Rattle.sg_found.proofs.looking.look_at_pages.Given as goal

-- the cells of those so far that are taken are bytes
abbrev pub invariant-pages : goal.invariant-pages
invariant-pages g l = record {
  looks : HasLooked {T = ℕ} g.E.Engine.recovers (g.E.Engine.view l.fn.engine) (g.E.Engine.view l.engine) (g.E.Engine.means l.fn.engine) (g.E.Engine.means l.engine) (Ok 0);
  bytes : (t : Table) (from : State) → g.E.Engine.means l.fn.engine t from → (g.E.Engine.view l.fn.engine).Told → AreBytes l.maps.pages l.p (g.E.Engine.view l.fn.engine).now;
}
