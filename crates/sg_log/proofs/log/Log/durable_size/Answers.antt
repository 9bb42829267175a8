use Rattle.std.proofs.Common.{◌≡◌, ◌≤◌, ◌+◌, length, sym, subst, arith}
use Rattle.sg_record.specs.Records.{spelled}
use Rattle.sg_log.proofs.Texts.{spelled-long}
use Rattle.sg_log.specs.Held.{Tail}
use Rattle.sg_log.specs.Places.{IsDurable}
use Rattle.sg_log.proofs.log.Log.durable_size.Goals as goal
use Rattle.sg_log.proofs.log.Log.durable_size.Goals.{then-size-eq0-via-then-size-eq0, then-size-eq0-via-else-size-eq0+then-size-self}

pub returns-then-size-eq0-clause-failed : goal.returns-then-size-eq0-clause-failed
returns-then-size-eq0-clause-failed g c r told h0 =
    let i = c.self.inside in
    let h = subst (λ (t : Tail). IsDurable (g.D.Disk.view c.args.disk.now) t c.args.at r) (sym c.self.view_is) h0 in
    let before : c.args.at + length (spelled r) ≤ i.gate = h.before in
    let long = spelled-long r in
    let size : c.in_ok-size.field-0 ≡ length (spelled r) = c.in_ok-size.ensures.size r told h.fields h.text in
    elim c.then-size-eq0.branch [ then-size-eq0-via-then-size-eq0 w ↦ absurd (omega arith) | then-size-eq0-via-else-size-eq0+then-size-self w ↦ absurd (omega arith) ]
