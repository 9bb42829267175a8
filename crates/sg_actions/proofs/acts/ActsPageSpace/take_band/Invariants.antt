use Rattle.std.proofs.Common.{◌≡◌, ℕ, ◌+◌, ◌-◌, ◌*◌, ◌≤◌, ◌<◌, true, false, length, slice_set, slice_get, Some}
use Rattle.sg_actions.specs.Steps.{opened}
use Rattle.sg_actions.proofs.Banded.{filled_to}
use Rattle.sg_actions.proofs.Filled.{Filling}
use Rattle.sg_actions.proofs.acts.ActsPageSpace.take_band.Given as goal

-- the band is filled up to here
abbrev pub invariant-fills : goal.invariant-fills
invariant-fills g l = record {
  aligned : (k : ℕ) × (l.at ≡ 8192 * k) × (k ≤ 4) × ((g.E.Engine.view l.self.engine).records ≤ (g.E.Engine.view l.fn.self.engine).records + k);
  filling : Filling g.E.Engine.recovers (g.E.Engine.limits (length l.fn.self.maps.pages) (length l.fn.self.maps.bands)) (g.E.Engine.view l.fn.self.engine) (g.E.Engine.view l.self.engine) (g.E.Engine.means l.fn.self.engine) (g.E.Engine.means l.self.engine) (g.E.Engine.view l.fn.self.begun_at.value).now l.fn.self.maps l.self.maps l.fn.self.rows.items l.fn.self.actor l.self.actor l.fn.self.begun l.b.0 l.at;
  opens : (k : ℕ) → l.at ≡ 8192 * k → (g.E.Engine.view l.self.engine).Told → opened (g.E.Engine.view l.self.engine).steps ≡ filled_to l.b.0 k (opened (g.E.Engine.view l.fn.self.engine).steps);
  there : (g.E.Engine.view l.self.engine).Told → l.b.0 < (g.E.Engine.view l.self.engine).extent.bands;
  faults : (g.E.Engine.view l.fn.self.engine).faults ≤ (g.E.Engine.view l.self.engine).faults;
  quiet : (g.E.Engine.view l.self.engine).faults ≡ (g.E.Engine.view l.fn.self.engine).faults;
  free : slice_get l.fn.self.maps.bands l.b.0 ≡ Some false;
  few : l.b.0 < 65536;
  bands : l.self.maps.bands ≡ slice_set l.fn.self.maps.bands l.b.0 true;
  pages : l.self.maps.pages ≡ l.fn.self.maps.pages;
  unfreed : l.self.unfreed ≡ l.fn.self.unfreed;
  rows : l.self.rows.items ≡ l.fn.self.rows.items;
  begun : l.self.begun ≡ l.fn.self.begun;
  begun_at : l.self.begun_at ≡ l.fn.self.begun_at;
  breaks : l.self.breaks ≡ l.fn.self.breaks;
}

abbrev pub decreases-fills : goal.decreases-fills
decreases-fills g l = 32768 - l.at
