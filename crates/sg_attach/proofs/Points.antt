-- The redo point of a log, and its checkpoints, in the words of opening and of the engine under the actions.
use Rattle.std.proofs.Common.{◌≡◌, ℕ, max, List, [], ◌∷◌, Option, None, refl, ap, ◌∙◌}
use Rattle.sg_log.specs.Frames.{Numbered}
use Rattle.sg_record.specs.Records.{Says}
use Rattle.sg_record.specs.Records.Says.{Begin, Changed, TopEnd, PhysComp, TopVoid, CompEnd, Save, Commit, End, Checkpoint}
use Rattle.sg_analysis.specs.Sights as sights
use Rattle.sg_analysis.specs.Sights.{sight_by, sight_of, or_checkpoint, checkpoint_behind}
use Rattle.sg_analysis.specs.Analysis.{estimate_or as estimate_in}
use Rattle.sg_find.specs.Synced.{redo_point as point_found}
use Rattle.sg_reopen.specs.Again.{IsMarked as IsSeenMarked, AreMarked as AreSeenMarked}
use Rattle.sg_phys_laws.specs.Points.{estimate_or, last_estimate, redo_point, IsMarked, AreMarked}

one_same : (base lsn u p : ℕ) (last : Option sights.Checkpoint) (says : Says) → estimate_in base (or_checkpoint last lsn (sight_by u p says)) ≡ estimate_or (estimate_in base last) says
one_same base lsn u p last Begin = refl
one_same base lsn u p last (Changed c) = refl
one_same base lsn u p last (TopEnd w n) = refl
one_same base lsn u p last (PhysComp w c) = refl
one_same base lsn u p last (TopVoid w) = refl
one_same base lsn u p last (CompEnd w) = refl
one_same base lsn u p last (Save m) = refl
one_same base lsn u p last Commit = refl
one_same base lsn u p last End = refl
one_same base lsn u p last (Checkpoint e l) = refl

last_same : (base : ℕ) (last : Option sights.Checkpoint) (ns : List Numbered) → estimate_in base (checkpoint_behind last ns) ≡ last_estimate (estimate_in base last) ns
last_same base last [] = refl
last_same base last (n ∷ ns) =
    last_same base (or_checkpoint last n.lsn (sight_of n.is)) ns
    ∙ ap (λ (e : ℕ). last_estimate e ns) (one_same base n.lsn n.is.transaction n.is.previous last n.is.says)

-- THE REDO POINT is the same
pub point_same : (base : ℕ) (ns : List Numbered) → point_found base ns ≡ redo_point base ns
point_same base ns = ap (max base) (last_same base None ns)

mark_said : (A : ℕ → Type 0) (lsn u p : ℕ) (says : Says) → IsSeenMarked A lsn (sight_by u p says) → IsMarked A lsn says
mark_said A lsn u p Begin m = tt
mark_said A lsn u p (Changed c) m = tt
mark_said A lsn u p (TopEnd w n) m = tt
mark_said A lsn u p (PhysComp w c) m = tt
mark_said A lsn u p (TopVoid w) m = tt
mark_said A lsn u p (CompEnd w) m = tt
mark_said A lsn u p (Save k) m = tt
mark_said A lsn u p Commit m = tt
mark_said A lsn u p End m = tt
mark_said A lsn u p (Checkpoint e l) m = m

mark_seen : (A : ℕ → Type 0) (lsn u p : ℕ) (says : Says) → IsMarked A lsn says → IsSeenMarked A lsn (sight_by u p says)
mark_seen A lsn u p Begin m = tt
mark_seen A lsn u p (Changed c) m = tt
mark_seen A lsn u p (TopEnd w n) m = tt
mark_seen A lsn u p (PhysComp w c) m = tt
mark_seen A lsn u p (TopVoid w) m = tt
mark_seen A lsn u p (CompEnd w) m = tt
mark_seen A lsn u p (Save k) m = tt
mark_seen A lsn u p Commit m = tt
mark_seen A lsn u p End m = tt
mark_seen A lsn u p (Checkpoint e l) m = m

-- and so are the checkpoints
pub marks_said : (A : ℕ → Type 0) (ns : List Numbered) → AreSeenMarked A ns → AreMarked A ns
marks_said A [] m = tt
marks_said A (n ∷ ns) m = (mark_said A n.lsn n.is.transaction n.is.previous n.is.says m.0, marks_said A ns m.1)

pub marks_seen : (A : ℕ → Type 0) (ns : List Numbered) → AreMarked A ns → AreSeenMarked A ns
marks_seen A [] m = tt
marks_seen A (n ∷ ns) m = (mark_seen A n.lsn n.is.transaction n.is.previous n.is.says m.0, marks_seen A ns m.1)
