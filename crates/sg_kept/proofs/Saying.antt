-- What is kept of a log says what all of it says.
use Rattle.std.proofs.Common.{◌≡◌, ℕ, true, List, [], ◌∷◌, ◌++◌, ap, ◌∙◌}
use Rattle.sg_recovery.specs.Log.{Numbered, said, tally, is_in}
use Rattle.sg_recovery.specs.TakeOff.{AreOwned}
use Rattle.sg_recovery.specs.Chains.{Formed}
use Rattle.sg_recovery.proofs.Basic.{each_more}
use Rattle.sg_recovery.proofs.Chaining.{sound}
use Rattle.sg_kept.specs.Kept.{IsParted, IsPoint}
use Rattle.sg_kept.proofs.Tallies.{kept_from, point_all}

-- WHAT IS KEPT SAYS THE SAME, from the point of a cut on
pub kept_says : {C N : Type 0} (p : ℕ) (kept gone : List (Numbered C N)) → IsParted p kept gone → AreOwned (kept ++ gone) → Formed (kept ++ gone) → IsPoint p (tally (kept ++ gone)) → tally kept ≡ tally (kept ++ gone)
kept_says p kept gone parted own formed at =
    kept_from p kept gone parted.onward parted.below own
    ∙ point_all p (tally (kept ++ gone)) at (each_more _ (λ n. is_in n.transaction (tally (kept ++ gone)).live ≡ true) (tally (kept ++ gone)).notes (λ n z. z.is_live) ((sound (kept ++ gone) formed).notes))

-- and so it stays, whatever is appended
pub more_says : {C N : Type 0} (more kept log : List (Numbered C N)) → tally kept ≡ tally log → tally (more ++ kept) ≡ tally (more ++ log)
more_says [] kept log same = same
more_says (r ∷ rs) kept log same = ap (λ k. said r.lsn r.is k) (more_says rs kept log same)
