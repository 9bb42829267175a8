-- A blob is made.
use Rattle.std.proofs.Common.{◌≡◌, ℕ, ◌+◌, List, [], ◌∷◌, Some, None, sym, ap, refl, arith, subst}
use Rattle.std.proofs.lemmas.List.{get_or_past}
use Rattle.sg_base.specs.Sheet.{Sheet}
use Rattle.sg_space.specs.Reads.{one_cell}
use Rattle.sg_space.specs.Units.{IsTaken}
use Rattle.sg_space.specs.View.{Space}
use Rattle.sg_blob.specs.Calls.{IsMade}
use Rattle.sg_blob.specs.Raw.{IsRoot, root_cell}
use Rattle.sg_blob.proofs.Sides.{taken_becomes}

root_first : {cell : List ℕ} {sheet : Sheet} → cell ≡ root_cell 0 0 → sheet ≡ one_cell 7 cell → IsRoot 0 0 [] sheet
root_first {cell} e is = subst (λ (s : Sheet). IsRoot 0 0 [] s) (sym is) (record { kind = refl; first = ap Some e; links = λ j. get_or_past (Some cell ∷ []) (j + 1) None (omega arith); few = omega arith })

pub made_is : {old new : Space} {root : ℕ} {cell : List ℕ} → cell ≡ root_cell 0 0 → IsTaken old.pages new.pages root (λ sheet. sheet ≡ one_cell 7 cell) → new.bands ≡ old.bands → IsMade old new root
made_is e k bands = record {
  blob = record {
    raw = record {
      first = record { what = k.fresh.what; is = k.fresh.is; has = root_first e k.fresh.has };
      part = λ j b i. (cc);
      fit = λ j b i. (cc);
      apart = λ i j b x y. (cc);
      below_peak = omega arith;
      few = omega arith;
      enough = omega arith;
    };
    least = omega arith;
    most = omega arith;
  };
  pages = taken_becomes k;
  bands = bands;
}
