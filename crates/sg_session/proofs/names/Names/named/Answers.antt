use Rattle.std.proofs.Common.{refl, sym, ap, ◌∙◌, subst, List, ◌<◌, ◌≤◌, length, get_or}
use Rattle.std.specs.Str.{bytes_eq}
use Rattle.sg_serial.specs.Runs.{Live}
use Rattle.sg_session.specs.declared.names.Named.{Named}
use Rattle.sg_session.proofs.Finding as finding
use Rattle.sg_session.proofs.names.Names.named.Goals as goal

pub loop-n-init : goal.loop-n-init
loop-n-init c = refl

pub returns-then-is_named : goal.returns-then-is_named
returns-then-is_named c =
    let at = ap (λ (ns : List Named). get_or ns c.loop-n.n-index c.n-item.result) c.deref-n-items.ensures.value in
    finding.found_here (λ (m : Live). bytes_eq c.args.name m.name) c.args.self.now.all.items c.loop-n.n-index c.n-item.result (subst (λ (ns : List Named). c.loop-n.n-index < length ns) c.deref-n-items.ensures.value c.loop-n-test.true) (c.n-item.is ∙ at) c.loop-n.invariant (sym c.is_named.ensures ∙ c.if-is_named.true)

pub loop-n-preserved : goal.loop-n-preserved
loop-n-preserved c =
    let at = ap (λ (ns : List Named). get_or ns c.loop-n.n-index c.n-item.result) c.deref-n-items.ensures.value in
    finding.not_here (λ (m : Live). bytes_eq c.args.name m.name) c.args.self.now.all.items c.loop-n.n-index c.n-item.result (subst (λ (ns : List Named). c.loop-n.n-index < length ns) c.deref-n-items.ensures.value c.loop-n-test.true) (c.n-item.is ∙ at) c.loop-n.invariant (sym c.is_named.ensures ∙ c.if-is_named.false)

pub returns : goal.returns
returns c =
    finding.found_none (λ (m : Live). bytes_eq c.args.name m.name) c.args.self.now.all.items c.loop-n.n-index (subst (λ (ns : List Named). length ns ≤ c.loop-n.n-index) c.deref-n-items.ensures.value c.loop-n-test.false) c.loop-n.invariant
