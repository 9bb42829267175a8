use Rattle.std.proofs.Common.{◌≡◌, ◌+◌, ◌-◌, ◌≤◌, ℕ, length, take, refl, sym, ◌∙◌, ap, arith}
use Rattle.std.proofs.lemmas.List.{length-take-le}
use Rattle.sg_log.specs.Formed.{IsWhole}
use Rattle.sg_log.proofs.Formed.{formed_by, formed_end, unformed_body}
use Rattle.sg_log.proofs.reading.read_frame.Goals as goal

pub returns-then-is_whole-clause-formed : goal.returns-then-is_whole-clause-formed
returns-then-is_whole-clause-formed g c told =
    let f = ((g.D.Disk.view c.args.disk.now).now c.args.area).seen in
    let stand = rw c.in-Ok-Some.field-0-is at c.in-Ok-Some.ensures.body in
    let onward = rw c.in-Ok-Some.field-0-is at c.in-Ok-Some.ensures.onward in
    let size = c.in-Ok-Some.size in
    let at = c.args.at in
    let fits : size ≤ length c.read_body.new.space = omega (arith, onward.1, c.requires.space, c.read_body.auto.space) in
    let long : length (take size c.read_body.new.space) ≡ size = length-take-le size c.read_body.new.space fits in
    let whole : IsWhole (take size c.read_body.new.space) = c.if-is_whole.ensures.0 refl in
    let front : at + 5 + size - (at + 5) ≡ size = omega arith in (
      whole.records,
      formed_by f at (take size c.read_body.new.space) (stand told) (omega (arith, long, onward.0)) (omega (arith, long, onward.1)) whole,
      omega (arith, formed_end at whole.records, ap length whole.spelling, long),
      ap (λ (n : ℕ). take n c.read_body.new.space) front ∙ sym whole.spelling,
    )

pub returns-else-is_whole-clause-faults : goal.returns-else-is_whole-clause-faults
returns-else-is_whole-clause-faults g c = (
  refl,
  λ told.
      let f = ((g.D.Disk.view c.args.disk.now).now c.args.area).seen in
      let stand = rw c.in-Ok-Some.field-0-is at c.in-Ok-Some.ensures.body in
      let onward = rw c.in-Ok-Some.field-0-is at c.in-Ok-Some.ensures.onward in
      let size = c.in-Ok-Some.size in
      let fits : size ≤ length c.read_body.new.space = omega (arith, onward.1, c.requires.space, c.read_body.auto.space) in
      let long : length (take size c.read_body.new.space) ≡ size = length-take-le size c.read_body.new.space fits in
      unformed_body f c.args.base c.args.at (take size c.read_body.new.space) (stand told) (omega (arith, long, onward.1)) (λ w. let yes = c.if-is_whole.ensures.1 w in absurd (cc)),
)
