use Rattle.std.proofs.Common.{refl, sym, ◌∙◌, ap, subst}
use Rattle.sg_base.specs.declared.area.Area.TheVariants.{Home}
use Rattle.sg_disk.specs.Disk.{Image, State}
use Rattle.sg_disk.proofs.Moments.{joined, weaker}
use Rattle.sg_gate.specs.Superblock.{IsSpare, AreSettled, IsCalm, IsRenewing}
use Rattle.sg_gate.proofs.Renewing.{calm_at_once, renewed_ok}
use Rattle.sg_gate.proofs.slot.renew_slot.Goals as goal

pub returns-then-is_open-clause-done : goal.returns-then-is_open-clause-done
returns-then-is_open-clause-done g c new told spare =
    let calm = c.in_ok-close_slot.ensures.done told in
    renewed_ok c.write_slot.result (g.D.Disk.view c.args.disk.now).now (g.D.Disk.view c.close_slot.new.disk).now (g.D.Disk.view c.write_slot.new.disk).now new c.args.text.now c.args.at calm.same calm.others spare (c.write_slot.ensures.done told)

pub returns-clause-done : goal.returns-clause-done
returns-clause-done g c new told spare =
    let s = (g.D.Disk.view c.args.disk.now).now in
    renewed_ok c.write_slot-2.result s s (g.D.Disk.view c.write_slot-2.new.disk).now new c.args.text.now c.args.at (λ i out. refl) (λ b other. refl) spare (c.write_slot-2.ensures.done told)

pub returns-then-is_open-clause-any_moment : goal.returns-then-is_open-clause-any_moment
returns-then-is_open-clause-any_moment g c v new told spare rest so_far same how =
    let at = c.args.at in
    let text = c.args.text.now in
    let run = c.close_slot.ensures.any_moment new text told (subst (λ (s : State). IsSpare (s Home).seen new text at) (sym same) spare) (subst (λ (s : State). AreSettled (s Home)) (sym same) rest)
    (ap (λ (s : State). (s Home).seen at) same ∙ how.0 c.if-is_open.true) in
    let so_far_closed = joined so_far (weaker run (λ (im : Image) renewing. subst (λ (s : State). IsRenewing s new at im) same renewing)) in
    let calm = subst (λ (s : State). IsCalm s (g.D.Disk.view c.close_slot.new.disk).now at) same (c.in_ok-close_slot.ensures.done told) in
    c.write_slot.ensures.any_moment v new told spare rest so_far_closed calm

pub returns-in_err-close_slot-clause-any_moment : goal.returns-in_err-close_slot-clause-any_moment
returns-in_err-close_slot-clause-any_moment g c v new told spare rest so_far same how =
    let at = c.args.at in
    let text = c.args.text.now in
    let run = c.close_slot.ensures.any_moment new text told (subst (λ (s : State). IsSpare (s Home).seen new text at) (sym same) spare) (subst (λ (s : State). AreSettled (s Home)) (sym same) rest)
    (ap (λ (s : State). (s Home).seen at) same ∙ how.0 c.if-is_open.true) in
    joined so_far (weaker run (λ (im : Image) renewing. subst (λ (s : State). IsRenewing s new at im) same renewing))

pub returns-clause-any_moment : goal.returns-clause-any_moment
returns-clause-any_moment g c v new told spare rest so_far same how =
    let w = (g.D.Disk.view c.args.disk.now).now in
    let calm = calm_at_once v c.args.at new c.args.text.now spare rest w same (λ gate. let yes = how.1 gate in let not = c.if-is_open.false in absurd cc) in
    c.write_slot-2.ensures.any_moment v new told spare rest so_far calm
