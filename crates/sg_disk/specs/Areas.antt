use Rattle.sg_base.specs.declared.area.Area.{Area}
use Rattle.sg_base.specs.declared.area.Area.TheVariants.{Home, Log0, Log1}

-- a fact of each area
pub three : (P : Area → Type 0) → P Home → P Log0 → P Log1 → (a : Area) → P a
three P x y z Home = x
three P x y z Log0 = y
three P x y z Log1 = z
