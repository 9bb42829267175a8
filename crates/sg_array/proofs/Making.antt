-- An array is made.
use Rattle.std.proofs.Common.{◌≡◌, ℕ, ◌+◌, ◌≤◌, List, [], ◌∷◌, Some, None, sym, ap, ◌∙◌, refl, arith, subst, inl, inr}
use Rattle.std.proofs.lemmas.List.{get_or_past}
use Rattle.sg_base.specs.Sheet.{Sheet}
use Rattle.sg_space.specs.Reads.{one_cell}
use Rattle.sg_space.specs.Units.{IsTaken}
use Rattle.sg_space.specs.View.{Space}
use Rattle.sg_array.specs.Array.{IsRoot, per_page, root_cell}
use Rattle.sg_array.specs.Calls.{IsMade}
use Rattle.sg_array.proofs.Places.{per_page-least}

root_first : {size : ℕ} {cell : List ℕ} {sheet : Sheet} → cell ≡ root_cell size 0 0 → sheet ≡ one_cell 2 cell → IsRoot size 0 0 [] sheet
root_first {size} {cell} e is = subst (λ (s : Sheet). IsRoot size 0 0 [] s) (sym is) (record { kind = refl; first = ap Some e; links = λ j. get_or_past (Some cell ∷ []) (j + 1) None (omega arith); few = omega arith })

pub made_is : {old new : Space} {root size : ℕ} {cell : List ℕ} → 1 ≤ size → size ≤ 256 → cell ≡ root_cell size 0 0 → IsTaken old.pages new.pages root (λ sheet. sheet ≡ one_cell 2 cell) → new.bands ≡ old.bands → IsMade old new root size
made_is {old} {new} {root} {size} some small e k bands =
    let k15 : 15 ≤ per_page size = per_page-least size small in
    record {
      array = record {
        built = record {
          names = record {
            first = record { what = k.fresh.what; is = k.fresh.is; has = root_first e k.fresh.has };
            index = λ j p h. (cc);
            index_pages = record { fit = λ i p h. (cc); apart = λ i j p h g. (cc) };
            leaf_pages = record { fit = λ i p h. (cc); apart = λ i j p h g. (cc) };
            index_least = omega arith;
          };
          leaf = λ d p h. (cc);
          leaf_least = omega arith;
          limits = record { some = some; small = small; each = λ i item h. (cc); below_peak = omega arith; few = omega arith };
        };
        index_most = omega arith;
        leaf_most = omega arith;
      };
      pages = record {
        others = λ p no no'. k.others p (λ is. no' (inl is));
        taken = λ p o. elim o [
          | inl is ↦ inr (ap old.pages.at is ∙ k.was_free)
          | inr r ↦ elim r [ inl x ↦ let none = x.1 in (cc) | inr x ↦ let none = x.1 in (cc) ]
        ];
        given = λ p o no. absurd o;
        exactly = let x = k.free in omega arith;
        all = k.count;
      };
      bands = bands;
    }
