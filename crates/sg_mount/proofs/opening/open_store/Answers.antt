use Rattle.std.proofs.Common.{List, sym, subst}
use Rattle.sg_base.specs.declared.numbers.TxnId.{TxnId}
use Rattle.sg_shown.specs.Shown.{shown}
use Rattle.sg_ops.specs.Table.{Table, table_of}
use Rattle.sg_store.specs.Seen.{core_of}
use Rattle.sg_mount.specs.Opening.{IsHandedBack, opened_by, shown_by}
use Rattle.sg_mount.specs.declared.fault.MountFault.{MountFault}
use Rattle.sg_mount.proofs.Opened.{found_with, handed_back, has_opened}
use Rattle.sg_mount.proofs.opening.open_store.Goals as goal

pub find_store-requires-clause-stands : goal.find_store-requires-clause-stands
find_store-requires-clause-stands g c ls lf = c.requires.stands

pub attach-requires : goal.attach-requires
attach-requires g c =
    let t : Table = table_of (λ p. (goal.RecordOp-dyn g p).record_meaning p.1) (λ p. (goal.RangeOp-dyn g p).range_meaning p.1) c.args.ops.now in
    let losers : List TxnId = c.deref.result.now in
    let found = found_with t g.D.Disk.told g.D.Presumed.presumed (g.D.Disk.view c.args.disk) (opened_by c.in-Ok.found.engine) c.in-Ok.found.losers.items losers c.deref.ensures.value c.in-Ok.ensures.found in
    record { can = found.asks }

pub returns-in-Ok-attach-clause-opened : goal.returns-in-Ok-attach-clause-opened
returns-in-Ok-attach-clause-opened g c =
    let t : Table = table_of (λ p. (goal.RecordOp-dyn g p).record_meaning p.1) (λ p. (goal.RangeOp-dyn g p).range_meaning p.1) c.args.ops.now in
    let a = c.in-Ok-attach.ensures in
    let losers : List TxnId = c.deref.result.now in
    let found = found_with t g.D.Disk.told g.D.Presumed.presumed (g.D.Disk.view c.args.disk) (opened_by c.in-Ok.found.engine) c.in-Ok.found.losers.items losers c.deref.ensures.value c.in-Ok.ensures.found in
    has_opened t g.D.Disk.told g.D.Presumed.presumed (g.D.Disk.view c.args.disk) losers (opened_by c.in-Ok.found.engine) (shown_by c.in-Ok-attach.store) found
    (core_of c.in-Ok-attach.store) a.core a.means a.tells a.unfailed a.has a.shows a.stock a.stands

pub returns-clause-refused : goal.returns-clause-refused
returns-clause-refused g c =
    let t : Table = table_of (λ p. (goal.RecordOp-dyn g p).record_meaning p.1) (λ p. (goal.RangeOp-dyn g p).range_meaning p.1) c.args.ops.now in
    let a = c.in-Err-attach.ensures in
    let v = g.D.Disk.view c.args.disk in
    let losers : List TxnId = c.deref.result.now in
    let found = found_with t g.D.Disk.told g.D.Presumed.presumed v (opened_by c.in-Ok.found.engine) c.in-Ok.found.losers.items losers c.deref.ensures.value c.in-Ok.ensures.found in
    subst (λ (f : MountFault). IsHandedBack t g.D.Disk.told g.D.Presumed.presumed v (g.D.Disk.view c.into_disk-disk.result) f) (sym c.of_start-fault.ensures)
    (rw c.into_disk-disk.ensures (rw c.into_engine.ensures (rw c.into_acts.ensures
    (handed_back t g.D.Disk.told g.D.Presumed.presumed v losers (opened_by c.in-Ok.found.engine) (shown c.in-Err-attach.field-0.engine.acts) found c.requires.stands c.in-Err-attach.field-0.why
    a.broken a.refused a.accounts a.log_end a.waits))))

pub returns-in-Ok-attach-clause-shut : goal.returns-in-Ok-attach-clause-shut
returns-in-Ok-attach-clause-shut g c is shut = c.in-Ok.ensures.shut is shut

pub returns-clause-shut : goal.returns-clause-shut
returns-clause-shut g c is shut = absurd (c.in-Ok.ensures.shut is shut)

pub returns-in-Ok-attach-clause-repeats : goal.returns-in-Ok-attach-clause-repeats
returns-in-Ok-attach-clause-repeats g c m is h = c.in-Ok.ensures.repeats m is h
