-- Why what was found leaves out the map's bands: with them the map of an action that took a band would come back too.
use Rattle.std.proofs.Common.{◌≡◌, [], ◌∷◌, None, refl}
use Rattle.sg_action.specs.States.{State}
use Rattle.sg_action.specs.States.Change.{Write}
use Rattle.sg_action.specs.Opened.{put_back}
use Rattle.sg_ops.specs.Table.{Table}
use Rattle.sg_before.specs.Laying.{put_on}
use Rattle.sg_before.specs.Befores.{befores}

-- band 0 is the map's, and its byte 0 is set
taken : State
taken = record { size = record { pages = 1; bands = 1 }; pages = λ p. None; bands = λ b. 1 ∷ [] }

-- all inverses of bands clear it
map_comes_back : (t : Table) → (put_back t (Write 0 0 (0 ∷ []) (1 ∷ []) ∷ []) taken).bands 0 ≡ 0 ∷ []
unfolding taken
map_comes_back t = refl

-- what was found outside the map leaves it
map_stays : put_on (befores 1 (Write 0 0 (0 ∷ []) (1 ∷ []) ∷ [])) 0 (taken.bands 0) ≡ 1 ∷ []
unfolding taken
map_stays = refl
