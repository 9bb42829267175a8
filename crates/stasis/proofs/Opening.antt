-- A store that has opened tells the objects of the image that was read.
use Rattle.std.proofs.Common.{Bool, IsTrue, [], List, ℕ}
use Rattle.std.specs.Prelude.{Result, Ok, Err, IfOk}
use Rattle.sg_disk.specs.Disk as disk
use Rattle.sg_find.specs.Synced.{reads}
use Rattle.sg_ops.specs.Table.{Table as Operations}
use Rattle.sg_model.specs.Objects.{Objects}
use Rattle.sg_phys_laws.specs.Recovers.{RecoversBy}
use Rattle.sg_shown.specs.Shown.{basis}
use Rattle.sg_store.specs.Engine.{AskedBy, Shown}
use Rattle.sg_store.specs.Rests.{HasObjects}
use Rattle.sg_store.specs.Store.{Core}
use Rattle.sg_mount.specs.Opening.{HasOpenedOn, ImageStandsFor, sizes_in}

-- what an opened engine is asked for
pub opened_has : (t : Operations) (told : Bool) (presumed : Type 0) (v : disk.View) (k : Core) (e : Shown (basis RecoversBy)) → HasOpenedOn t told presumed v k e → IsTrue told → presumed
    → (m : Objects) → ImageStandsFor t (reads v) m → AskedBy t e (HasObjects [] m m k t)
opened_has t told presumed v k e h is held m stands =
    let s = h.has is held m stands in
    record { sizes = sizes_in (reads v); from = λ _. s.from; means = λ _. s.means; can = λ _. s.has }

-- what holds of an answer may be less
pub if_less : {T U : Type 0} {P Q : T → Type 0} (r : Result T U) → ((x : T) → P x → Q x) → IfOk r P → IfOk r Q
if_less (Ok x) weaker h = weaker x h
if_less (Err e) weaker h = tt
