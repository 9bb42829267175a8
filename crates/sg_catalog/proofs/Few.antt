-- A catalogue has few rows, as a space has few pages.
use Rattle.std.proofs.Common.{◌≤◌, length, arith}
use Rattle.sg_base.specs.Sheet.{Sheet}
use Rattle.sg_space.specs.Units.{Units, IsExact}
use Rattle.sg_space.proofs.Few.{few_units}
use Rattle.sg_catalog.specs.Catalog.{Catalog, IsCatalog, rows}

pub few_rows : {units : Units Sheet} (c : Catalog) → IsExact units → units.count ≤ 1048576 → IsCatalog units.at c → length (rows c) ≤ 82837504
few_rows {units} c exact few h =
    let pages : length c.pages ≤ units.count = few_units c.pages exact h.raw.apart (λ i x e none. let there = (h.raw.page i x e).is in (cc)) in
    let peak = h.exactly in
    let below = h.below_peak in
    omega arith
