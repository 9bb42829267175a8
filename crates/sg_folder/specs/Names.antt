-- The names of the areas.
use Rattle.std.specs.Prelude.{ℕ, List, codes}
use Rattle.sg_base.specs.declared.area.Area.{Area}
use Rattle.sg_base.specs.declared.area.Area.TheVariants.{Home, Log0, Log1}

-- the name of an area, and of its file in a store's folder
abbrev pub name_of : Area → List ℕ
name_of Home = codes "home"
name_of Log0 = codes "log0"
name_of Log1 = codes "log1"
