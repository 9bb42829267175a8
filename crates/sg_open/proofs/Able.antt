-- What is refused behind the syncs, for memory or by the disk is refused so.
use Rattle.std.proofs.Common.{◌≡◌, ◌⊎◌, ◌≤◌, ℕ, Bool, List, sym, subst, arith}
use Rattle.sg_base.specs.Ends.{HasRisen}
use Rattle.sg_disk.specs.Disk.{Bytes, View}
use Rattle.sg_ops.specs.Table.{Table}
use Rattle.sg_log.specs.Frames.{Numbered}
use Rattle.sg_log.specs.Formed as log
use Rattle.sg_analysis.specs.Damage as damage
use Rattle.sg_engine.specs.Engine.{Origin, log_area}
use Rattle.sg_find.specs.Synced.{AreSynced}
use Rattle.sg_find.specs.declared.fault.OpenFault.{OpenFault}
use Rattle.sg_find.specs.declared.fault.OpenFault.TheVariants.{Disk, Memory, NotAStore, Damaged, UnknownOperation}
use Rattle.sg_open.specs.Refusals.{StoreRefused}

rise : (a b c : ℕ) → a ≤ b → HasRisen b c → HasRisen a c
rise a b c le risen = λ few. omega (arith, le, risen few)

-- what is refused behind the syncs
pub refused_synced : (told : Bool) (t : Table) (o : Origin) (ds : List Numbered) (v v1 w : View) (e : OpenFault) → AreSynced v.now v1.now → v.faults ≤ v1.faults → StoreRefused told t o ds v1 w e → StoreRefused told t o ds v w e
refused_synced told t o ds v v1 w Disk synced later h = rise v.faults v1.faults w.faults later h
refused_synced told t o ds v v1 w Memory synced later h = tt
refused_synced told t o ds v v1 w NotAStore synced later h = absurd h
refused_synced told t o ds v v1 w (Damaged there at) synced later h =
    (h.0, subst (λ (f : Bytes). log.IsDamagedAt f o.super.base at ⊎ damage.IsDamagedAt f o.super.base at) (synced.seen (log_area o.super)) h.1)
refused_synced told t o ds v v1 w (UnknownOperation code) synced later h = h

pub refused_memory : (told : Bool) (t : Table) (o : Origin) (ds : List Numbered) (v w : View) (e : OpenFault) → e ≡ Memory → StoreRefused told t o ds v w e
refused_memory told t o ds v w e is = subst (λ (x : OpenFault). StoreRefused told t o ds v w x) (sym is) tt

pub refused_disk : (told : Bool) (t : Table) (o : Origin) (ds : List Numbered) (v v2 w : View) (e : OpenFault) → v.faults ≤ v2.faults → (e ≡ Disk) × HasRisen v2.faults w.faults → StoreRefused told t o ds v w e
refused_disk told t o ds v v2 w e later h = subst (λ (x : OpenFault). StoreRefused told t o ds v w x) (sym h.0) (rise v.faults v2.faults w.faults later h.1)
