-- The gate of the double-write header is closed.
use Rattle.std.proofs.Common.{◌≡◌, [], ◌∷◌, Result, Ok, subst}
use Rattle.sg_base.specs.declared.area.Area.TheVariants.{Home}
use Rattle.sg_disk.specs.Disk.{Image, State, Leaves, View, Wrote, Synced, LeavesOnly, written}
use Rattle.sg_disk.proofs.Images.{write_keeps}
use Rattle.sg_disk.proofs.Moments.{joined, weaker}
use Rattle.sg_gate.specs.Layout.{HEADER}
use Rattle.sg_gate.proofs.Settling.{in_write, in_sync}

-- a read takes no image away
pub wide : (v w : View) → LeavesOnly v w (Leaves v.now) → LeavesOnly v w (Leaves (written Home HEADER (0 ∷ []) v.now))
wide v w reads = weaker reads (write_keeps v.now Home HEADER (0 ∷ []))

-- The moments: a read, and then the write and the sync.
module _ (v w : View) (same : w.now ≡ v.now) (reads : LeavesOnly v w (Leaves v.now)) where
  abbrev P : Image → Type 0
  P = Leaves (written Home HEADER (0 ∷ []) v.now)

  then_shut : (z : View) → LeavesOnly w z (Leaves (written Home HEADER (0 ∷ []) w.now)) → LeavesOnly v z P
  then_shut z run = joined (wide v w reads) (subst (λ (s : State). LeavesOnly w z (Leaves (written Home HEADER (0 ∷ []) s))) same run)

  pub shutting : {T E : Type 0} {x : View} {r : Result T E} → Wrote Home HEADER (0 ∷ []) w x r → LeavesOnly v x P
  shutting {x = x} wrote = then_shut x (in_write HEADER (0 ∷ []) wrote)

  pub shut_after : {T E : Type 0} {x y : View} {u : T} {r : Result T E} → Wrote {E = E} Home HEADER (0 ∷ []) w x (Ok u) → Synced Home x y r → LeavesOnly v y P
  shut_after {y = y} wrote sync = then_shut y (in_sync HEADER (0 ∷ []) wrote sync)
