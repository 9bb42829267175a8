-- Changes that were each made are all made.
use Rattle.std.proofs.Common.{◌≡◌, ℕ, ◌<◌, suc, List, [], ◌∷◌, length, map, slice_index_or, ◌∙◌, ap, refl, arith}
use Rattle.sg_ops.specs.Table.{Table}
use Rattle.sg_laws.specs.declared.change.Change.{Change}
use Rattle.sg_laws.specs.Change.{contents_of, redone}

pub all_made : (t : Table) (old new : List Change) → length new ≡ length old → ((i : ℕ) (d : Change) → i < length old → contents_of (slice_index_or new i d) ≡ redone t (contents_of (slice_index_or old i d))) → map contents_of new ≡ map (redone t) (map contents_of old)
all_made t [] [] same each = refl
all_made t [] (y ∷ ys) same each = absurd (omega (arith, same))
all_made t (x ∷ xs) [] same each = absurd (omega (arith, same))
all_made t (x ∷ xs) (y ∷ ys) same each =
    ap (λ c. c ∷ map contents_of ys) (each 0 x (omega arith))
    ∙ ap (λ cs. redone t (contents_of x) ∷ cs) (all_made t xs ys (omega (arith, same)) (λ i d h. each (suc i) d (omega (arith, h))))
