-- What is beside the catalogue leaves it as it was.
use Rattle.std.proofs.Common.{◌≡◌, ℕ, Option}
use Rattle.sg_base.specs.Sheet.{Sheet}
use Rattle.sg_space.proofs.Known.{moved}
use Rattle.sg_catalog.specs.Catalog.{Catalog, IsCatalog, Owns}

-- the catalogue stands where each of its pages says what it said
pub catalog_stays : {old new : ℕ → Option Sheet} {c : Catalog} → IsCatalog old c → ((p : ℕ) → Owns c p → new p ≡ old p) → IsCatalog new c
catalog_stays h same =
    let raw = h.raw in
    record {
      raw = record {
        first = raw.first;
        page = λ j p e. moved (same p (j, e)) (raw.page j p e);
        says_peak = moved (same 0 (0, raw.first)) raw.says_peak;
        fit = raw.fit;
        apart = raw.apart;
        long = raw.long;
        formed = raw.formed;
      };
      once = h.once;
      below_peak = h.below_peak;
      exactly = h.exactly;
    }
