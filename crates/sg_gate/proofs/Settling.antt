-- Bytes that are written to the home area and synced: what a crash leaves meanwhile.
use Rattle.std.proofs.Common.{ℕ, List, Result, Ok, subst}
use Rattle.sg_base.specs.declared.area.Area.TheVariants.{Home}
use Rattle.sg_disk.specs.Disk.{State, Leaves, View, Wrote, Synced, LeavesOnly, written}
use Rattle.sg_disk.proofs.Images.{write_keeps}
use Rattle.sg_disk.proofs.Moments.{started, goes_on}

pub in_write : {T E : Type 0} {v w : View} {r : Result T E} (at : ℕ) (bytes : List ℕ) → Wrote Home at bytes v w r → LeavesOnly v w (Leaves (written Home at bytes v.now))
in_write {v = v} at bytes wrote = goes_on (started v (Leaves (written Home at bytes v.now)) (write_keeps v.now Home at bytes)) wrote (λ c leaves. leaves)

pub in_sync : {T E : Type 0} {v w x : View} {u : T} {r : Result T E} (at : ℕ) (bytes : List ℕ) → Wrote {E = E} Home at bytes v w (Ok u) → Synced Home w x r → LeavesOnly v x (Leaves (written Home at bytes v.now))
in_sync at bytes wrote sync = goes_on (in_write at bytes wrote) sync (λ c leaves. subst (λ (s : State). Leaves s c) wrote.ok leaves)
