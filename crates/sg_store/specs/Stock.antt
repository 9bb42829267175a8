-- A stock that a call leaves alone, and what operations need by the stock.
use Rattle.std.specs.Prelude.{◌≡◌, ℕ, if◌then◌else◌, Some}
use Rattle.sg_ops.specs.Table.{Table as Operations}
use Rattle.sg_model.specs.Verb.{Op}
use Rattle.sg_room.specs.Steps.{RunStock, one_kept}
use Rattle.sg_run.specs.Stocked.{needed_by}
use Rattle.sg_store.specs.Ground.{Ground}
use Rattle.sg_store.specs.Engine.{View}
use Rattle.sg_store.specs.Room.{ShowsStock}

-- THE STOCK IS LEFT ALONE: each that was shown still is
abbrev pub LeavesStock : (t : Operations) (g : Ground) → (v w : View g) → Type 0
LeavesStock t g v w = (r : RunStock) → ShowsStock t g v r → ShowsStock t g w r

-- WHAT A GROUND SAYS OF NEEDS is what the stock says
pub record NeedsByStock (t : Operations) (g : Ground) : Type 0 where
  -- what an operation needs in what pages read as is by the object under its name and the greatest size that this had
  pub pages : (x : g.X) (o : g.O) (op : Op) → g.reading x ≡ Some o → (g.needs t o op).pages ≡ (needed_by (g.objects o) (g.marks o) op).pages
  pub bands : (x : g.X) (o : g.O) (op : Op) → g.reading x ≡ Some o → (g.needs t o op).bands ≡ (needed_by (g.objects o) (g.marks o) op).bands
  -- a note wants a page exactly where the stock keeps one for its undoing
  pub kept : (n : g.N) → one_kept (g.kind n) ≡ (if g.wants n then 1 else 0)
