use Rattle.std.proofs.Common.{⊎_elim, ◌≡◌, ◌≤◌, ◌<◌, ◌+◌, sym, ap, ◌∙◌, arith}
use Rattle.sg_log.specs.Held.{tail_of}
use Rattle.sg_log.specs.Places.{first_of}
use Rattle.sg_log.proofs.Standing.{next_frame, first_is}
use Rattle.sg_log.proofs.log.Log.first_behind.Goals as goal
use Rattle.sg_log.proofs.log.Log.first_behind.Goals.{then-size-eq0-via-then-size-eq0, then-size-eq0-via-else-size-eq0+then-frame_end-tail}

pub returns-then-gate-tail-clause-first : goal.returns-then-gate-tail-clause-first
returns-then-gate-tail-clause-first g c rest told behind = ⊎_elim
    (λ n. let within : c.args.gate + 5 + n.size ≤ tail_of c.args.self.now = n.within in absurd (omega arith))
    (λ end. ap first_of (sym end.none))
    (next_frame behind)

pub returns-in-Err-clause-failed : goal.returns-in-Err-clause-failed
returns-in-Err-clause-failed g c rest told behind = ⊎_elim
    (λ n. c.in-Err.ensures.failed n.size told n.is)
    (λ end. let at_tail : c.args.gate ≡ tail_of c.args.self.now = end.tail in absurd (c.if-gate-tail.false (at_tail ∙ sym c.tail-tail.ensures)))
    (next_frame behind)

pub returns-then-size-eq0-clause-failed : goal.returns-then-size-eq0-clause-failed
returns-then-size-eq0-clause-failed g c rest told behind = ⊎_elim
    (λ n.
    let within : c.args.gate + 5 + n.size ≤ tail_of c.args.self.now = n.within in
    let some : 0 < n.size = n.some in
    let size : c.in-Ok.size ≡ n.size = c.in-Ok.ensures.size n.size told n.is in
    elim c.then-size-eq0.branch [ then-size-eq0-via-then-size-eq0 w ↦ absurd (omega arith) | then-size-eq0-via-else-size-eq0+then-frame_end-tail w ↦ absurd (omega arith) ])
    (λ end. let at_tail : c.args.gate ≡ tail_of c.args.self.now = end.tail in absurd (c.if-gate-tail.false (at_tail ∙ sym c.tail-tail.ensures)))
    (next_frame behind)

pub returns-clause-first : goal.returns-clause-first
returns-clause-first g c rest told behind = ⊎_elim
    (λ n. first_is (g.D.Disk.view c.args.disk.now) c.args.self.now c.args.gate rest n c.in-Ok.size (c.in-Ok.ensures.size n.size told n.is))
    (λ end. let at_tail : c.args.gate ≡ tail_of c.args.self.now = end.tail in absurd (c.if-gate-tail.false (at_tail ∙ sym c.tail-tail.ensures)))
    (next_frame behind)
