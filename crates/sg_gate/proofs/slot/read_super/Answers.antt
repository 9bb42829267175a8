use Rattle.std.proofs.Common.{take, drop, inl, refl, sym, ◌∙◌, ap}
use Rattle.sg_base.specs.declared.area.Area.TheVariants.{Home}
use Rattle.sg_gate.specs.Superblock.{start_of}
use Rattle.sg_gate.proofs.Fronts.{read_there, text_faults}
use Rattle.sg_gate.proofs.slot.read_super.Goals as goal

pub returns-in-First-clause-found : goal.returns-in-First-clause-found
returns-in-First-clause-found g c told =
    let f = ((g.D.Disk.view c.args.disk.now).now Home).seen in
    let read = c.read_slots.new.first in
    let counts = sym (c.in_ok-slot.ensures.counting told) ∙ c.in-Some.is in
    inl (c.read_slot.ensures.exact ∙ sym (read_there f c.in-Some.slot 0 44 43 read counts (ap start_of c.in-First.is) (c.in_ok-slot.ensures.first told) refl refl))

pub returns-in-First-clause-faults : goal.returns-in-First-clause-faults
returns-in-First-clause-faults g c =
    let v = g.D.Disk.view c.args.disk.now in
    let f = (v.now Home).seen in
    let read = c.read_slots.new.first in
    text_faults g.D.Disk.told v (g.D.Disk.view c.read_slots.new.disk) (start_of c.in-Some.slot) (take 43 (drop 1 read)) c.read_slot.result c.read_slot.ensures.exact
    (λ told. c.read_slot.ensures.exact ∙ sym (read_there f c.in-Some.slot 0 44 43 read (sym (c.in_ok-slot.ensures.counting told) ∙ c.in-Some.is) (ap start_of c.in-First.is) (c.in_ok-slot.ensures.first told) refl refl))

pub returns-in-Second-clause-found : goal.returns-in-Second-clause-found
returns-in-Second-clause-found g c told =
    let f = ((g.D.Disk.view c.args.disk.now).now Home).seen in
    let read = c.read_slots.new.second in
    let counts = sym (c.in_ok-slot.ensures.counting told) ∙ c.in-Some.is in
    inl (c.read_slot-in-Second.ensures.exact ∙ sym (read_there f c.in-Some.slot 4096 44 43 read counts (ap start_of c.in-Second.is) (c.in_ok-slot.ensures.second told) refl refl))

pub returns-in-Second-clause-faults : goal.returns-in-Second-clause-faults
returns-in-Second-clause-faults g c =
    let v = g.D.Disk.view c.args.disk.now in
    let f = (v.now Home).seen in
    let read = c.read_slots.new.second in
    text_faults g.D.Disk.told v (g.D.Disk.view c.read_slots.new.disk) (start_of c.in-Some.slot) (take 43 (drop 1 read)) c.read_slot-in-Second.result c.read_slot-in-Second.ensures.exact
    (λ told. c.read_slot-in-Second.ensures.exact ∙ sym (read_there f c.in-Some.slot 4096 44 43 read (sym (c.in_ok-slot.ensures.counting told) ∙ c.in-Some.is) (ap start_of c.in-Second.is) (c.in_ok-slot.ensures.second told) refl refl))
