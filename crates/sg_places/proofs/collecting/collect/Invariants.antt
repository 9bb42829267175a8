use Rattle.std.proofs.Common.{◌≡◌, ◌-◌, ◌*◌, ◌≤◌, length, List, vec_len, vec_capacity}
use Rattle.sg_record.specs.Records.{Record}
use Rattle.sg_places.specs.Text.{IsText}
use Rattle.sg_places.proofs.Rest.{AreFramesPlaced}
use Rattle.sg_places.proofs.collecting.collect.Given as goal

abbrev pub invariant-frames : goal.invariant-frames
invariant-frames l = (l.at ≤ length l.text) × (21 * vec_len l.places ≤ l.at) × (vec_capacity l.places ≡ vec_capacity l.fn.places)
    × ((frames : List (List Record)) → IsText frames l.text → AreFramesPlaced l.pages l.bands l.base l.point l.text frames l.places.items l.at)

abbrev pub decreases-frames : goal.decreases-frames
decreases-frames l = length l.text - l.at
