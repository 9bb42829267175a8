-- The last checkpoint of a log.
use Rattle.std.proofs.Common.{◌≡◌, ℕ, false, List, [], ◌∷◌, ◌++◌, Option, Some, None, refl, ◌∙◌}
use Rattle.sg_log.specs.Frames.{Numbered}
use Rattle.sg_record.specs.Records.{Record, Says}
use Rattle.sg_record.specs.Records.Says.{Begin, Changed, TopEnd, PhysComp, TopVoid, CompEnd, Save, Commit, End, Checkpoint}
use Rattle.sg_record.specs.Shown.{by}
use Rattle.sg_analysis.specs.Sights.{sight_by, sight_of, or_checkpoint, checkpoint_behind, last_checkpoint}
use Rattle.sg_analysis.specs.Sights as sights
use Rattle.sg_phys_laws.specs.Logged.{at_number, is_no_step}

pub behind_both : (last : Option sights.Checkpoint) (xs ys : List Numbered) → checkpoint_behind last (xs ++ ys) ≡ checkpoint_behind (checkpoint_behind last xs) ys
behind_both last [] ys = refl
behind_both last (x ∷ xs) ys = behind_both (or_checkpoint last x.lsn (sight_of x.is)) xs ys

plain : (last : Option sights.Checkpoint) (lsn u p : ℕ) (says : Says) → is_no_step says ≡ false → or_checkpoint last lsn (sight_by u p says) ≡ last
plain last lsn u p Begin e = refl
plain last lsn u p (Changed c) e = refl
plain last lsn u p (TopEnd w n) e = refl
plain last lsn u p (PhysComp w c) e = refl
plain last lsn u p (TopVoid w) e = refl
plain last lsn u p (CompEnd w) e = refl
plain last lsn u p (Save m) e = refl
plain last lsn u p Commit e = refl
plain last lsn u p End e = refl
plain last lsn u p (Checkpoint x l) e = absurd cc

-- no other record changes which it is,
pub last_plain : (ns : List Numbered) (lsn : ℕ) (r : Record) → is_no_step r.says ≡ false → last_checkpoint (ns ++ at_number lsn r ∷ []) ≡ last_checkpoint ns
last_plain ns lsn r e = behind_both None ns (at_number lsn r ∷ []) ∙ plain (last_checkpoint ns) lsn r.transaction r.previous r.says e

-- and a checkpoint is it
pub last_mark : (ns : List Numbered) (lsn estimate : ℕ) (live : List ℕ) → last_checkpoint (ns ++ at_number lsn (by 0 0 (Checkpoint estimate live)) ∷ []) ≡ Some (lsn, estimate)
last_mark ns lsn estimate live = behind_both None ns (at_number lsn (by 0 0 (Checkpoint estimate live)) ∷ [])
