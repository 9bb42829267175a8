-- A transaction that was alone leaves a store at rest.
use Rattle.std.proofs.Common.{◌≡◌, ℕ, List, [], ◌∷◌, cond, not, refl, sym, ap, subst}
use Rattle.sg_ops.specs.Table.{Table as Operations}
use Rattle.sg_model.specs.Objects.{Objects}
use Rattle.sg_recovery.specs.Log.{without}
use Rattle.sg_recovery.proofs.Basic.{same_number}
use Rattle.sg_store.specs.Ground.{Ground}
use Rattle.sg_store.specs.Engine.{View}
use Rattle.sg_store.specs.Store.{Core}
use Rattle.sg_store.specs.Rests.{HasObjects}

gone : (u : ℕ) → without u (u ∷ []) ≡ []
gone u = ap (λ b. cond (not b) (u ∷ []) []) (same_number u)

pub rests_alone : (t : Operations) (g : Ground) (v : View g) (k : Core) (u : ℕ) (m after : Objects) → HasObjects (without u (u ∷ [])) m after k t g v → HasObjects [] m m k t g v
rests_alone t g v k u m after h =
    let h1 = subst (λ (ls : List ℕ). HasObjects ls m after k t g v) (gone u) h in
    subst (λ (d : Objects). HasObjects [] m d k t g v) (sym (h1.at_rest refl)) h1
