use Rattle.std.proofs.Common.{◌<◌, arith, ◌≡◌, ◌⊎◌, ◌≤◌, ℕ, IsTrue, map, refl, sym, ap, subst}
use Rattle.sg_base.specs.declared.numbers.TxnId.{TxnId}
use Rattle.sg_actions.specs.Steps.{Steps}
use Rattle.sg_attach.proofs.Analysed.{accepted_super}
use Rattle.sg_attach.specs.Attached.{IsAttaching}
use Rattle.sg_attach.specs.Ended.{end_in}
use Rattle.sg_disk.specs.Accounts.{IsShownEnd}
use Rattle.sg_find.specs.Synced.{SplitsAtSync, reads}
use Rattle.sg_alloc.specs.Flags.{map_bands_of}
use Rattle.sg_gate.proofs.Fields.{in_range}
use Rattle.sg_gate.specs.Superblock.{map_bands}
use Rattle.sg_gate.specs.declared.superblock.Super.{Super}
use Rattle.sg_ops.specs.Table.{Table, table_of}
use Rattle.sg_pages.specs.Parts.{seen}
use Rattle.sg_phys_laws.specs.Recovers.{origin_of, records_in}
use Rattle.sg_phys_laws.specs.States.{steps_of}
use Rattle.sg_recovery.specs.Chains.{next_lsn}
use Rattle.sg_recovery.specs.Formed.{IsLog}
use Rattle.sg_recovery.specs.Log.{tally}
use Rattle.sg_shown.specs.Shown.{lent, over}
use Rattle.sg_starting.specs.Starting.{oldest_first}
use Rattle.sg_mount.specs.Opening.{IsHandedBack, sizes_in}
use Rattle.sg_mount.specs.declared.fault.MountFault.{MountFault}
use Rattle.sg_mount.specs.declared.fault.MountFault.TheVariants as mounts
use Rattle.sg_mount.proofs.Found.{first, first_sized, found_on, is_of, losers_are, memory_back, opening_back, opening_shut, q}
use Rattle.sg_mount.proofs.opening.find_store.Goals as goal

pub attach-requires-clause-found : goal.attach-requires-clause-found
attach-requires-clause-found g c ls lf is p s accepted =
    let t : Table = table_of (λ p. (goal.RecordOp-dyn g p).record_meaning p.1) (λ p. (goal.RangeOp-dyn g p).range_meaning p.1) c.args.ops.now in
    let i = reads (g.D.Disk.view c.args.disk) in
    let some = c.requires.stands is p in
    ∣ (first t i some.objects some.stands, (q t i some.objects some.stands).log, (q t i some.objects some.stands).log, is_of t i some.objects some.stands) ∣₁

pub returns-clause-refused : goal.returns-clause-refused
returns-clause-refused g c =
    let t : Table = table_of (λ p. (goal.RecordOp-dyn g p).record_meaning p.1) (λ p. (goal.RangeOp-dyn g p).range_meaning p.1) c.args.ops.now in
    let v = g.D.Disk.view c.args.disk in
    let w = g.D.Disk.view c.in-Err.field-0.disk in
    subst (λ (f : MountFault). IsHandedBack t g.D.Disk.told g.D.Presumed.presumed v w f) (sym c.of_opening.ensures)
    (opening_back g.D.Disk.told t g.D.Presumed.presumed v w c.in-Err.field-0.fault c.requires.stands (λ is. c.in-Err.ensures.cause is) (λ is log x r area at. c.in-Err.ensures.undamaged log x is r area at)
    (λ from durable log is m. c.in-Err.ensures.refused from durable log is m) (λ is. c.in-Err.ensures.not_a_store is) (λ is. c.in-Err.ensures.failed is) c.in-Err.ensures.unwritten c.in-Err.ensures.heeded_so)

pub returns-clause-shut : goal.returns-clause-shut
returns-clause-shut g c is shut =
    subst (λ (f : MountFault). (f ≡ mounts.NotAStore) ⊎ (f ≡ mounts.Disk)) (sym c.of_opening.ensures) (opening_shut c.in-Err.field-0.fault (c.in-Err.ensures.shut is shut.0 shut.1))

-- what the call that makes an engine of the pages asks of them
pub found-requires-clause-few : goal.found-requires-clause-few
found-requires-clause-few g c = (in_range c.in-Ok.field-0.geometry c.in-Ok.ensures.range).pages.1

pub found-requires-clause-formed : goal.found-requires-clause-formed
found-requires-clause-formed g c tells = c.in-Ok.ensures.formed tells.tells.0 tells.tells.1

pub found-requires-clause-below : goal.found-requires-clause-below
found-requires-clause-below g c tells = c.in-Ok.ensures.below tells.tells.0 tells.tells.1

pub found-requires-clause-based : goal.found-requires-clause-based
found-requires-clause-based g c tells = c.in-Ok.ensures.based tells.tells.0 tells.tells.1

pub found-requires-clause-start : goal.found-requires-clause-start
found-requires-clause-start g c tells = c.in-Ok.ensures.first_byte tells.tells.0 tells.tells.1

pub found-requires-clause-within : goal.found-requires-clause-within
found-requires-clause-within g c tells = (let e = c.in-Ok.ensures.extent tells.tells.0 tells.tells.1 in (omega (arith, e.0), omega (arith, e.1)))

pub found-requires-clause-losers : goal.found-requires-clause-losers
found-requires-clause-losers g c tells = c.in-Ok.ensures.losers tells.tells.0 tells.tells.1

pub found-requires-clause-unfinished : goal.found-requires-clause-unfinished
found-requires-clause-unfinished g c tells = c.in-Ok.ensures.unfinished tells.tells.0 tells.tells.1

pub returns-in-Ok-found-clause-shut : goal.returns-in-Ok-found-clause-shut
returns-in-Ok-found-clause-shut g c is shut = c.in-Ok.ensures.shut is shut.0 shut.1

pub returns-in-Ok-clause-shut : goal.returns-in-Ok-clause-shut
returns-in-Ok-clause-shut g c is shut = absurd (c.in-Ok.ensures.shut is shut.0 shut.1)

pub returns-in-Err-numbers_of-clause-shut : goal.returns-in-Err-numbers_of-clause-shut
returns-in-Err-numbers_of-clause-shut g c is shut = absurd (c.in-Ok.ensures.shut is shut.0 shut.1)

pub returns-in-Err-numbers_of-clause-refused : goal.returns-in-Err-numbers_of-clause-refused
returns-in-Err-numbers_of-clause-refused g c =
    let t : Table = table_of (λ p. (goal.RecordOp-dyn g p).record_meaning p.1) (λ p. (goal.RangeOp-dyn g p).range_meaning p.1) c.args.ops.now in
    let v = g.D.Disk.view c.args.disk in
    rw c.unmounted.ensures.fault (rw c.unmounted.ensures.disk
    (memory_back t g.D.Disk.told g.D.Presumed.presumed v (g.D.Disk.view c.in-Ok.field-0.pages.engine.disk) (λ is. c.in-Ok.ensures.attached is) c.in-Ok.ensures.heeded))

pub returns-in-Ok-clause-refused : goal.returns-in-Ok-clause-refused
returns-in-Ok-clause-refused g c =
    let t : Table = table_of (λ p. (goal.RecordOp-dyn g p).record_meaning p.1) (λ p. (goal.RangeOp-dyn g p).range_meaning p.1) c.args.ops.now in
    let v = g.D.Disk.view c.args.disk in
    rw c.unmounted-in-Err-found.ensures.fault (rw c.unmounted-in-Err-found.ensures.disk (rw c.in-Err-found.ensures.refused
    (memory_back t g.D.Disk.told g.D.Presumed.presumed v (g.D.Disk.view c.in-Ok.field-0.pages.engine.disk) (λ is. c.in-Ok.ensures.attached is) c.in-Ok.ensures.heeded)))

pub returns-in-Ok-found-clause-found : goal.returns-in-Ok-found-clause-found
returns-in-Ok-found-clause-found g c =
    let t : Table = table_of (λ p. (goal.RecordOp-dyn g p).record_meaning p.1) (λ p. (goal.RangeOp-dyn g p).range_meaning p.1) c.args.ops.now in
    let told = g.D.Disk.told in
    let presumed = g.D.Presumed.presumed in
    let view = g.D.Disk.view in
    let v = view c.args.disk in
    let i = reads v in
    let pages = c.in-Ok.field-0.pages in
    let s = c.in-Ok.field-0.geometry in
    let rs : Steps = steps_of (records_in (origin_of t i) i) in
    let acts = c.in-Ok-found.engine.acts in
    let losers = c.in-Ok-numbers_of.losers in
    let e = sym c.in-Ok-found.ensures.engine in
    let range = in_range s c.in-Ok.ensures.range in
    let sizes = λ (is : IsTrue told). accepted_super t i s (c.in-Ok.ensures.accepted is) in
    found_on t told presumed v losers.items (lent (over acts) c.in-Ok-found.engine.room) c.requires.stands
    (λ is p. subst (λ x. (seen told presumed view x).Told) e (record { tells = (is, p); whole = c.in-Ok.ensures.whole }))
    (λ tells. tells.tells)
    (λ is p. subst (λ x. (seen told presumed view x).steps ≡ rs) e (c.in-Ok.ensures.steps is p))
    (λ is p. subst (λ x. (seen told presumed view x).durable ≡ rs) e (c.in-Ok.ensures.durable is p))
    (λ is p. subst (λ x. IsLog (seen told presumed view x).base (seen told presumed view x).steps) e (c.in-Ok.ensures.formed is p))
    (λ is p. subst (λ x. next_lsn (seen told presumed view x).steps ≤ (seen told presumed view x).tail) e (c.in-Ok.ensures.below is p))
    (λ is p. subst (λ x. map (λ (y : TxnId). y.0) losers.items ≡ oldest_first (tally (seen told presumed view x).steps).live) e
    (losers_are (seen told presumed view pages).steps losers.items c.in-Ok.field-0.analysis.losers c.in-Ok-numbers_of.ensures (c.in-Ok.ensures.losers is p)))
    (λ is p m h. c.in-Ok-found.ensures.finds t (sizes_in i) (first t i m h) (c.in-Ok.ensures.means (first t i m h) (q t i m h).log (q t i m h).log is (is_of t i m h))
    (first_sized t i m h) (ap (λ (u : Super). u.pages) (sizes is)) (ap (λ (u : Super). u.bands) (sizes is)) refl
    (subst (λ (u : Super). 0 < u.pages) (sym (sizes is)) (let low : 64 ≤ s.pages = range.pages.0 in omega (arith, low)))
    (subst (λ (u : Super). map_bands_of u.pages u.bands ≤ u.bands) (sym (sizes is)) (let map : map_bands s.pages s.bands < s.bands = range.bands.2 in omega (arith, map))))
    (λ is. subst (λ x. SplitsAtSync v (IsAttaching t v (view x.engine.disk))) e (c.in-Ok.ensures.attached is))
    (subst (λ x. (view x.engine.disk).faults ≡ v.faults) e c.in-Ok.ensures.heeded)
    (subst (λ x. v.handed ≤ (view x.engine.disk).handed) e c.in-Ok.ensures.kept)
    (λ is. subst (λ x. IsShownEnd v (view x.engine.disk) (end_in i) x.gate) e
    (subst (λ (n : ℕ). IsShownEnd v (view pages.engine.disk) (end_in i) n) (sym (pages.gates c.in-Ok.ensures.whole)) (c.in-Ok.ensures.shown is)))

pub returns-in-Ok-found-clause-repeats : goal.returns-in-Ok-found-clause-repeats
returns-in-Ok-found-clause-repeats g c m is h = c.in-Ok.ensures.repeats h.log h.pages is h.recovers.image
