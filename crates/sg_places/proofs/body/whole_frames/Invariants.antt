use Rattle.std.proofs.Common.{◌≡◌, ◌-◌, ◌≤◌, ℕ, length, take, List}
use Rattle.sg_record.specs.Records.{Record}
use Rattle.sg_places.specs.Text.{framed_all, AreFrames}
use Rattle.sg_places.proofs.Stretches.{AreWhole}
use Rattle.sg_places.proofs.body.whole_frames.Given as goal

abbrev pub invariant-frames : goal.invariant-frames
invariant-frames l = (l.at ≤ length l.text) × ((frames : List (List Record)) (k : ℕ) → AreFrames frames → l.text ≡ take k (framed_all frames) → AreWhole frames l.text l.at)

abbrev pub decreases-frames : goal.decreases-frames
decreases-frames l = length l.text - l.at
