use Rattle.std.proofs.Common.{◌≡◌, ℕ, ◌<◌, ◌≤◌, false, replicate, get_or, arith, inl, inr}
use Rattle.std.proofs.lemmas.Bool.{cases_lt}
use Rattle.std.proofs.lemmas.List.{get_or-replicate, get_or_past, length-replicate}
use Rattle.sg_walk.proofs.objects.reach_objects.Goals as goal

-- marks of which none is set
all_clear : (n i : ℕ) → get_or (replicate n false) i false ≡ false
all_clear n i = elim (cases_lt i n) [
  | inl b ↦ get_or-replicate n i false false b
  | inr p ↦ get_or_past (replicate n false) i false (let long = length-replicate n false in omega arith)
]

pub reach-requires-clause-clear : goal.reach-requires-clause-clear
reach-requires-clause-clear g c = all_clear 65536
