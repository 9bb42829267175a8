use Rattle.std.proofs.Common.{◌≤◌, ◌+◌, length, refl, sym, subst, arith}
use Rattle.sg_record.specs.Records.{spelled}
use Rattle.sg_log.specs.Held.{Tail}
use Rattle.sg_log.specs.Places.{IsDurable}
use Rattle.sg_log.proofs.Holding.{spelled_most}
use Rattle.sg_log.proofs.log.Log.read_durable.Goals as goal
use Rattle.sg_log.proofs.log.Log.read_durable.Goals.{then-left-lt16417, else-left-lt16417}

pub returns-clause-size : goal.returns-clause-size
returns-clause-size g c r told h0 =
    let i = c.self.inside in
    let h = subst (λ (t : Tail). IsDurable (g.D.Disk.view c.args.disk.now) t c.args.at r) (sym c.self.view_is) h0 in
    let before : c.args.at + length (spelled r) ≤ i.gate = h.before in
    let most = spelled_most r h.fields in
    let fits : length (spelled r) ≤ c.if-left-lt16417.most = elim c.if-left-lt16417.branch [ then-left-lt16417 w ↦ omega arith | else-left-lt16417 w ↦ omega arith ] in
    let size = c.in_ok-size.ensures.found r told h.fields fits h.text in
    rw (c.ok_or.ensures.value, size) refl

pub returns-clause-text : goal.returns-clause-text
returns-clause-text g c r told h0 =
    let i = c.self.inside in
    let h = subst (λ (t : Tail). IsDurable (g.D.Disk.view c.args.disk.now) t c.args.at r) (sym c.self.view_is) h0 in
    let before : c.args.at + length (spelled r) ≤ i.gate = h.before in
    let most = spelled_most r h.fields in
    let fits : length (spelled r) ≤ c.if-left-lt16417.most = elim c.if-left-lt16417.branch [ then-left-lt16417 w ↦ omega arith | else-left-lt16417 w ↦ omega arith ] in
    let size = c.in_ok-size.ensures.found r told h.fields fits h.text in
    rw (c.ok_or.ensures.value, size) (c.in_ok-size.ensures.text r told fits h.text)

pub returns-clause-failed : goal.returns-clause-failed
returns-clause-failed g c r told h0 =
    let i = c.self.inside in
    let h = subst (λ (t : Tail). IsDurable (g.D.Disk.view c.args.disk.now) t c.args.at r) (sym c.self.view_is) h0 in
    let before : c.args.at + length (spelled r) ≤ i.gate = h.before in
    let most = spelled_most r h.fields in
    let fits : length (spelled r) ≤ c.if-left-lt16417.most = elim c.if-left-lt16417.branch [ then-left-lt16417 w ↦ omega arith | else-left-lt16417 w ↦ omega arith ] in
    let size = c.in_ok-size.ensures.found r told h.fields fits h.text in
    rw (c.ok_or.ensures.value, size) tt
