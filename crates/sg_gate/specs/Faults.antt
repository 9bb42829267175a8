-- When a call of a gate answers which fault.
use Rattle.std.specs.Prelude.{◌≡◌, ◌≢◌, ◌+◌, Bool, true, false, IsTrue, ℕ, Err}
use Rattle.sg_base.specs.Ends.{HasRisen}
use Rattle.sg_base.specs.declared.area.Area.TheVariants.{Home}
use Rattle.sg_disk.specs.Disk.{View}
use Rattle.sg_gate.specs.Layout.{HEADER}
use Rattle.sg_gate.specs.Batch.{IsWrongAt}
use Rattle.sg_gate.specs.Superblock.{superblock}
use Rattle.sg_gate.specs.declared.fault.GateFault.{GateFault}
use Rattle.sg_gate.specs.declared.fault.GateFault.TheVariants.{Disk, NotAStore, Damaged}

-- whether the disk failed
abbrev pub is_disk : GateFault → Bool
is_disk Disk = true
is_disk NotAStore = false
is_disk (Damaged at) = false

-- a call that writes fails only where the disk does
abbrev pub WriteFails : View → View → GateFault → Type 0
WriteFails old new Disk = HasRisen old.faults new.faults
WriteFails old new NotAStore = ⊥
WriteFails old new (Damaged at) = ⊥

-- laying over fails only where the disk does, or where the gate is open and this field of the header is the first that is out of its range
abbrev pub LayFails : Bool → ℕ → View → View → GateFault → Type 0
LayFails told pages old new Disk = HasRisen old.faults new.faults
LayFails told pages old new NotAStore = ⊥
LayFails told pages old new (Damaged at) = IsTrue told → ((old.now Home).seen HEADER ≡ 1) × IsWrongAt pages (old.now Home).seen (HEADER + 1) at

-- a read of the superblock fails only where the disk does, where both gates are closed, or where the slot that counts has this
-- field as the first that is out of its range
abbrev pub ReadFails : Bool → View → View → GateFault → Type 0
ReadFails told old new Disk = HasRisen old.faults new.faults
ReadFails told old new NotAStore = IsTrue told → ((old.now Home).seen 0 ≢ 1) × ((old.now Home).seen 4096 ≢ 1)
ReadFails told old new (Damaged at) = IsTrue told → superblock (old.now Home).seen ≡ Err (Damaged at)
