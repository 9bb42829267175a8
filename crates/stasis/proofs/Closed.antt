-- What a close leaves of a disk, and what a crash leaves of an open store's.
use Rattle.std.proofs.Common.{◌≡◌, ℕ, List, subst}
use Rattle.std.specs.Prelude.{Result}
use Rattle.sg_disk.specs.Disk.{Image, Leaves, LeavesOnly, View}
use Rattle.sg_disk.proofs.Moments.{weaker}
use Rattle.sg_ops.specs.Table.{Table as Operations}
use Rattle.sg_model.specs.Objects.{Objects}
use Rattle.sg_run.specs.Run.{Run}
use Rattle.sg_phys_laws.specs.Recovers.{RecoversBy}
use Rattle.sg_shown.specs.Shown.{basis}
use Rattle.sg_store.specs.declared.fault.Refused.{Refused}
use Rattle.sg_store.specs.Calls.{Checkpoints, Goes}
use Rattle.sg_store.specs.Engine.{AsMeant, AskedBy, Shown}
use Rattle.sg_store.specs.Ground.{IsLawful}
use Rattle.sg_store.specs.Rests.{HasObjects}
use Rattle.sg_store.specs.Store.{Core, Shows}
use Rattle.sg_mount.specs.Opening.{ImageStandsFor}
use Rattle.sg_mount.proofs.Standing.{stands_own}
use Rattle.stasis.proofs.Settling.{close_keeps}

module _ (t : Operations) (old : Shown (basis RecoversBy)) (k : Core) (live : List ℕ) (objects durable : Objects) (told : old.Told) (a : AskedBy t old (HasObjects live objects durable k t)) where
  -- each image that a crash leaves stands for the durable objects
  pub images_own : (c : Image) → Leaves old.disk.now c → ImageStandsFor t c durable
  images_own c leaves = stands_own t a.sizes c durable ((a.can told).images c leaves)

  -- and each of each moment of a close
  pub closed : (new : Shown (basis RecoversBy)) (r : Result (Unit {0}) Refused)
      → AsMeant old new (λ t g v w. (x : Run) → IsLawful t g → Shows t g v k x → (m : Core) × Goes t g v x (Checkpoints w.tail v.faults w.faults x r) w m)
      → LeavesOnly old.disk new.disk (λ c. ImageStandsFor t c durable)
  closed new r closes = weaker (close_keeps t old new k r closes live objects durable told a) (λ c s. stands_own t a.sizes c durable s)
