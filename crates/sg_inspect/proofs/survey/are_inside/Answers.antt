use Rattle.std.proofs.Common.{take, sym, ap, ◌∙◌, arith}
use Rattle.std.proofs.lemmas.List.{take_rest}
use Rattle.sg_record.specs.Shown.{shown}
use Rattle.sg_log.proofs.Texts.{spelled-long}
use Rattle.sg_log.specs.Texts.{spelled_all}
use Rattle.sg_places.proofs.Rest.{some_left}
use Rattle.sg_inspect.proofs.Bodies.{look_starts, look_goes_on, look_ends_outside, look_ends}
use Rattle.sg_inspect.proofs.survey.are_inside.Goals as goal

pub records-init : goal.records-init
records-init c rs fields text = look_starts c.args.s.now.pages c.args.s.now.bands c.args.body.now rs fields text

pub records-smaller : goal.records-smaller
records-smaller c = omega (arith, c.in-Ok.ensures.size, spelled-long (shown c.in-Ok.rec))

pub records-preserved : goal.records-preserved
records-preserved c rs fields text =
    look_goes_on (c.records.invariant rs fields text) c.in-Ok.size (shown c.in-Ok.rec) c.records-test.true c.in-Ok.ensures.range
    (ap (take c.in-Ok.size) (sym (take_rest c.args.body.now c.records.from)) ∙ c.in-Ok.ensures.spelling) (sym c.is_inside.ensures ∙ c.if-not-is_inside.false) c.in-Ok.ensures.size

pub returns-in_default : goal.returns-in_default
returns-in_default c rs fields text =
    let h = c.records.invariant rs fields text in
    let first = some_left c.args.body.now c.records.from h.rest h.left c.records-test.true in
    let back = c.in_default.ensures.back first.0 (spelled_all first.1) first.2 (take_rest c.args.body.now c.records.from ∙ first.3) in
    absurd cc

pub returns-then-not-is_inside : goal.returns-then-not-is_inside
returns-then-not-is_inside c rs fields text =
    sym (look_ends_outside (c.records.invariant rs fields text) c.in-Ok.size (shown c.in-Ok.rec) c.records-test.true c.in-Ok.ensures.range
    (ap (take c.in-Ok.size) (sym (take_rest c.args.body.now c.records.from)) ∙ c.in-Ok.ensures.spelling) (sym c.is_inside.ensures ∙ c.if-not-is_inside.true))

pub returns : goal.returns
returns c rs fields text = sym (look_ends (c.records.invariant rs fields text) c.records-test.false)
