-- Inverses that don't give the pages back exactly.
use Rattle.std.specs.Prelude.{◌≡◌, true, List, Some}
use Rattle.sg_recovery.specs.Setting.{Setting}
use Rattle.sg_recovery.specs.Log.{Open}
use Rattle.sg_recovery.specs.Stands.{all_off}

-- States of the pages that can't be told apart by what is read: the same but for LSNs, for empty slots behind a page's last cell,
-- and for what stands in pages and bands that were free when the action began.
pub record AreAlike (s : Setting) (R : s.X → s.X → Type 0) : Type 0 where
  pub same : (x : s.X) → R x x
  -- an inverse that fits both keeps it (it need not fit both: empty slots take room)
  pub off : (x y : s.X) (c : s.C) → R x y → s.fits x (s.inverse c) ≡ true → s.fits y (s.inverse c) ≡ true → R (s.apply x (s.inverse c)) (s.apply y (s.inverse c))

-- THE PROMISE OF THE PAGES' LAYER, of each front of the log within an open action: taken off, the pages are alike to those at the action's begin
pub record TakesTo (s : Setting) (R : s.X → s.X → Type 0) (begin : s.X) (ds : List (Open s.C)) (x : s.X) : Type 0 where
  pub end : s.X
  pub off : all_off s ds x ≡ Some end
  pub alike : R end begin

-- a setting, and for each action which states of the pages can't be told apart by what is read: what was free when the action
-- began may differ
pub record AlikePages : Type 1 where
  pub setting : Setting
  pub Action : Type 0
  pub alike : Action → setting.X → setting.X → Type 0
