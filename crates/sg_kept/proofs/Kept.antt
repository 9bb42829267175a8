-- What is kept of a formed log is one.
use Rattle.std.proofs.Common.{◌≡◌, ◌⊎◌, inl, inr, ℕ, ◌<◌, ◌≤◌, true, List, ◌++◌, ap, ◌∙◌}
use Rattle.sg_recovery.specs.Log.{Numbered, Tally, tally, is_in}
use Rattle.sg_recovery.specs.Formed.{IsLog}
use Rattle.sg_kept.specs.Kept.{IsParted, IsPoint}
use Rattle.sg_kept.proofs.Tallies.{in_from, in_each, kept_from, owned_front}
use Rattle.sg_kept.proofs.Formed.{formed_kept, system_kept, between_kept, unfinished_kept}
use Rattle.sg_kept.proofs.Ending.{straight_kept, ended_kept, over_kept}

module _ {C N : Type 0} where
  -- WHAT IS KEPT OF A FORMED LOG IS ONE, from the point on
  pub log_kept : (base p : ℕ) (kept gone : List (Numbered C N)) → base ≤ p → 0 < p → IsParted p kept gone → IsPoint p (tally (kept ++ gone)) → IsLog base (kept ++ gone) → IsLog p kept
  log_kept base p kept gone le some parted at is = record {
    above = parted.onward;
    owned = owned_front kept gone is.owned;
    chained = formed_kept p kept gone parted.onward parted.below is.owned is.chained;
    system = system_kept base p kept gone le some parted.onward parted.below is.above is.owned is.chained is.system;
    between = between_kept p kept gone parted.onward parted.below is.owned is.between;
    straight = straight_kept base p kept gone le some parted.onward parted.below is.owned is.chained is.straight;
    ended = ended_kept base p kept gone le some parted.onward parted.below is.owned is.chained is.ended;
    over = over_kept base p kept gone le some parted.onward parted.below is.owned is.chained is.over;
    one_action = record {
      one = λ t u a b. is.one_action.one t u (unfinished_kept p t kept gone some parted.onward parted.below a) (unfinished_kept p u kept gone some parted.onward parted.below b);
      whose = λ t a. by t (is.one_action.whose t (unfinished_kept p t kept gone some parted.onward parted.below a));
    };
  }
    where
      by : (t : ℕ) → (t ≡ 0) ⊎ (is_in t (tally (kept ++ gone)).live ≡ true) → (t ≡ 0) ⊎ (is_in t (tally kept).live ≡ true)
      by t (inl e) = inl e
      by t (inr e) = inr (ap (λ (k : Tally C N). is_in t k.live) (kept_from p kept gone parted.onward parted.below is.owned) ∙ (in_from p t (tally (kept ++ gone)).live (in_each p t (tally (kept ++ gone)).live at.live e) ∙ e))
