use Rattle.std.proofs.Common.{sym, subst, refl}
use Rattle.sg_base.specs.declared.area.Area.TheVariants.{Home}
use Rattle.sg_disk.specs.Disk.{State, FULL}
use Rattle.sg_gate.specs.Superblock.{spare_of, IsSpare}
use Rattle.sg_gate.specs.declared.slot.Slot.TheVariants.{First, Second}
use Rattle.sg_gate.proofs.Fronts.{gate_open, gate_same, renewed_calls, renewed_bytes, spare_text, spare_here, moments_there, renewed_there}
use Rattle.sg_gate.proofs.Renewing.{after_reads}
use Rattle.sg_gate.proofs.slot.renew.Goals as goal

pub returns-in_err-read_slots-clause-any_moment : goal.returns-in_err-read_slots-clause-any_moment
returns-in_err-read_slots-clause-any_moment g c told newer rest =
    let v = g.D.Disk.view c.args.disk.now in
    let text = c.spell_text.new.text in
    after_reads v (spare_of (v.now Home).seen) c.args.s.now text (spare_text (v.now Home).seen c.args.s.now text c.spell_text.ensures c.requires newer) rest (c.read_slots.ensures.reads.any_moment told)

pub returns-in_err-renew_slot-in-First-clause-any_moment : goal.returns-in_err-renew_slot-in-First-clause-any_moment
returns-in_err-renew_slot-in-First-clause-any_moment g c told newer rest =
    let v = g.D.Disk.view c.args.disk.now in
    let f = (v.now Home).seen in
    let text = c.spell_text.new.text in
    let spare = spare_here f c.args.s.now text c.spell_text.ensures c.requires newer First c.in_ok-read_slots.field-0 c.spare.result (c.in_ok-read_slots.ensures.counting told) c.spare.ensures c.in-First.is in
    moments_there v (g.D.Disk.view c.renew_slot.new.disk) c.args.s.now First c.in_ok-read_slots.field-0 c.spare.result (c.in_ok-read_slots.ensures.counting told) c.spare.ensures c.in-First.is
    (c.renew_slot.ensures.any_moment v c.args.s.now told spare rest (after_reads v 0 c.args.s.now text spare rest (c.read_slots.ensures.reads.any_moment told)) (c.read_slots.ensures.reads.unchanged told)
    (gate_open f 0 44 c.read_slots.new.first (c.in_ok-read_slots.ensures.first told) refl))

pub returns-in_ok-renew_slot-in-First-clause-any_moment : goal.returns-in_ok-renew_slot-in-First-clause-any_moment
returns-in_ok-renew_slot-in-First-clause-any_moment g c told newer rest =
    let v = g.D.Disk.view c.args.disk.now in
    let f = (v.now Home).seen in
    let text = c.spell_text.new.text in
    let spare = spare_here f c.args.s.now text c.spell_text.ensures c.requires newer First c.in_ok-read_slots.field-0 c.spare.result (c.in_ok-read_slots.ensures.counting told) c.spare.ensures c.in-First.is in
    moments_there v (g.D.Disk.view c.renew_slot.new.disk) c.args.s.now First c.in_ok-read_slots.field-0 c.spare.result (c.in_ok-read_slots.ensures.counting told) c.spare.ensures c.in-First.is
    (c.renew_slot.ensures.any_moment v c.args.s.now told spare rest (after_reads v 0 c.args.s.now text spare rest (c.read_slots.ensures.reads.any_moment told)) (c.read_slots.ensures.reads.unchanged told)
    (gate_open f 0 44 c.read_slots.new.first (c.in_ok-read_slots.ensures.first told) refl))

pub returns-in_ok-renew_slot-in-First-clause-done : goal.returns-in_ok-renew_slot-in-First-clause-done
returns-in_ok-renew_slot-in-First-clause-done g c told newer =
    let v = g.D.Disk.view c.args.disk.now in
    let f = (v.now Home).seen in
    let text = c.spell_text.new.text in
    let spare = spare_here f c.args.s.now text c.spell_text.ensures c.requires newer First c.in_ok-read_slots.field-0 c.spare.result (c.in_ok-read_slots.ensures.counting told) c.spare.ensures c.in-First.is in
    let same = c.read_slots.ensures.reads.unchanged told in
    renewed_there v.now (g.D.Disk.view c.read_slots.new.disk).now (g.D.Disk.view c.renew_slot.new.disk).now c.args.s.now First c.in_ok-read_slots.field-0 c.spare.result (c.in_ok-read_slots.ensures.counting told) c.spare.ensures c.in-First.is same
    (c.in_ok-renew_slot-in-First.ensures.done c.args.s.now told (subst (λ (t : State). IsSpare (t Home).seen c.args.s.now text 0) (sym same) spare))

pub returns-in_err-renew_slot-in-Second-clause-any_moment : goal.returns-in_err-renew_slot-in-Second-clause-any_moment
returns-in_err-renew_slot-in-Second-clause-any_moment g c told newer rest =
    let v = g.D.Disk.view c.args.disk.now in
    let f = (v.now Home).seen in
    let text = c.spell_text.new.text in
    let spare = spare_here f c.args.s.now text c.spell_text.ensures c.requires newer Second c.in_ok-read_slots.field-0 c.spare.result (c.in_ok-read_slots.ensures.counting told) c.spare.ensures c.in-Second.is in
    moments_there v (g.D.Disk.view c.renew_slot-in-Second.new.disk) c.args.s.now Second c.in_ok-read_slots.field-0 c.spare.result (c.in_ok-read_slots.ensures.counting told) c.spare.ensures c.in-Second.is
    (c.renew_slot-in-Second.ensures.any_moment v c.args.s.now told spare rest (after_reads v 4096 c.args.s.now text spare rest (c.read_slots.ensures.reads.any_moment told)) (c.read_slots.ensures.reads.unchanged told)
    (gate_open f 4096 44 c.read_slots.new.second (c.in_ok-read_slots.ensures.second told) refl))

pub returns-in_ok-renew_slot-in-Second-clause-any_moment : goal.returns-in_ok-renew_slot-in-Second-clause-any_moment
returns-in_ok-renew_slot-in-Second-clause-any_moment g c told newer rest =
    let v = g.D.Disk.view c.args.disk.now in
    let f = (v.now Home).seen in
    let text = c.spell_text.new.text in
    let spare = spare_here f c.args.s.now text c.spell_text.ensures c.requires newer Second c.in_ok-read_slots.field-0 c.spare.result (c.in_ok-read_slots.ensures.counting told) c.spare.ensures c.in-Second.is in
    moments_there v (g.D.Disk.view c.renew_slot-in-Second.new.disk) c.args.s.now Second c.in_ok-read_slots.field-0 c.spare.result (c.in_ok-read_slots.ensures.counting told) c.spare.ensures c.in-Second.is
    (c.renew_slot-in-Second.ensures.any_moment v c.args.s.now told spare rest (after_reads v 4096 c.args.s.now text spare rest (c.read_slots.ensures.reads.any_moment told)) (c.read_slots.ensures.reads.unchanged told)
    (gate_open f 4096 44 c.read_slots.new.second (c.in_ok-read_slots.ensures.second told) refl))

pub returns-in_ok-renew_slot-in-Second-clause-done : goal.returns-in_ok-renew_slot-in-Second-clause-done
returns-in_ok-renew_slot-in-Second-clause-done g c told newer =
    let v = g.D.Disk.view c.args.disk.now in
    let f = (v.now Home).seen in
    let text = c.spell_text.new.text in
    let spare = spare_here f c.args.s.now text c.spell_text.ensures c.requires newer Second c.in_ok-read_slots.field-0 c.spare.result (c.in_ok-read_slots.ensures.counting told) c.spare.ensures c.in-Second.is in
    let same = c.read_slots.ensures.reads.unchanged told in
    renewed_there v.now (g.D.Disk.view c.read_slots.new.disk).now (g.D.Disk.view c.renew_slot-in-Second.new.disk).now c.args.s.now Second c.in_ok-read_slots.field-0 c.spare.result (c.in_ok-read_slots.ensures.counting told) c.spare.ensures c.in-Second.is same
    (c.in_ok-renew_slot-in-Second.ensures.done c.args.s.now told (subst (λ (t : State). IsSpare (t Home).seen c.args.s.now text 4096) (sym same) spare))

pub returns-in_ok-renew_slot-in-First-clause-calls : goal.returns-in_ok-renew_slot-in-First-clause-calls
returns-in_ok-renew_slot-in-First-clause-calls g c told =
    let f = ((g.D.Disk.view c.args.disk.now).now Home).seen in
    renewed_calls f First c.in_ok-read_slots.field-0 c.spare.result (c.in_ok-read_slots.ensures.counting told) c.spare.ensures c.in-First.is _ (gate_same f 0 44 c.read_slots.new.first (c.in_ok-read_slots.ensures.first told) refl) _ _ _ FULL
    c.in_ok-read_slots.ensures.calls c.in_ok-renew_slot-in-First.ensures.calls

pub returns-in_ok-renew_slot-in-First-clause-all_handed : goal.returns-in_ok-renew_slot-in-First-clause-all_handed
returns-in_ok-renew_slot-in-First-clause-all_handed g c told =
    let f = ((g.D.Disk.view c.args.disk.now).now Home).seen in
    renewed_bytes f First c.in_ok-read_slots.field-0 c.spare.result (c.in_ok-read_slots.ensures.counting told) c.spare.ensures c.in-First.is _ (gate_same f 0 44 c.read_slots.new.first (c.in_ok-read_slots.ensures.first told) refl) _ _ _ FULL
    c.read_slots.ensures.reads.handed c.in_ok-renew_slot-in-First.ensures.all_handed

pub returns-in_ok-renew_slot-in-Second-clause-calls : goal.returns-in_ok-renew_slot-in-Second-clause-calls
returns-in_ok-renew_slot-in-Second-clause-calls g c told =
    let f = ((g.D.Disk.view c.args.disk.now).now Home).seen in
    renewed_calls f Second c.in_ok-read_slots.field-0 c.spare.result (c.in_ok-read_slots.ensures.counting told) c.spare.ensures c.in-Second.is _ (gate_same f 4096 44 c.read_slots.new.second (c.in_ok-read_slots.ensures.second told) refl) _ _ _ FULL
    c.in_ok-read_slots.ensures.calls c.in_ok-renew_slot-in-Second.ensures.calls

pub returns-in_ok-renew_slot-in-Second-clause-all_handed : goal.returns-in_ok-renew_slot-in-Second-clause-all_handed
returns-in_ok-renew_slot-in-Second-clause-all_handed g c told =
    let f = ((g.D.Disk.view c.args.disk.now).now Home).seen in
    renewed_bytes f Second c.in_ok-read_slots.field-0 c.spare.result (c.in_ok-read_slots.ensures.counting told) c.spare.ensures c.in-Second.is _ (gate_same f 4096 44 c.read_slots.new.second (c.in_ok-read_slots.ensures.second told) refl) _ _ _ FULL
    c.read_slots.ensures.reads.handed c.in_ok-renew_slot-in-Second.ensures.all_handed
