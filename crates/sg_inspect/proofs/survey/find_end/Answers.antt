use Rattle.std.proofs.Common.{◌≡◌, ◌+◌, ◌≤◌, length, take, refl, sym, ◌∙◌, subst, arith}
use Rattle.std.proofs.lemmas.List.{length-take-le}
use Rattle.sg_log.specs.Frames.{LOG_END}
use Rattle.sg_log.proofs.Runs.{reads_more}
use Rattle.sg_inspect.specs.Faults.{EndFails}
use Rattle.sg_inspect.proofs.Frames.{survey_starts, survey_goes_on, survey_finds, survey_ends, survey_fails}
use Rattle.sg_inspect.proofs.survey.find_end.Goals as goal

pub frames-init : goal.frames-init
frames-init g c = survey_starts g.D.Disk.told c.args.s.now c.args.area (g.D.Disk.view c.args.disk.now) c.requires.base

pub returns-then-not-are_inside-clause-faults : goal.returns-then-not-are_inside-clause-faults
returns-then-not-are_inside-clause-faults g c =
    let body = rw c.in-Ok-Some.field-0-is at c.in-Ok-Some.ensures.body in
    let onward = rw c.in-Ok-Some.field-0-is at c.in-Ok-Some.ensures.onward in
    let size = c.in-Ok-Some.size in
    let fits : size ≤ length c.read_body.new.space = omega (arith, onward.1, c.requires.space, c.frames.auto.space, c.read_body.auto.space) in
    let most : length (take size c.read_body.new.space) ≤ 65536 = omega (arith, length-take-le size c.read_body.new.space fits, onward.1) in (
      refl,
      survey_finds (take size c.read_body.new.space) c.frames.invariant most body (λ rs fields text. sym c.if-not-are_inside.true ∙ c.are_inside.ensures rs fields text),
    )

pub returns-then-not-are_inside-clause-reads : goal.returns-then-not-are_inside-clause-reads
returns-then-not-are_inside-clause-reads g c = reads_more c.frames.invariant.reads c.read_body.ensures.reads

pub frames-preserved : goal.frames-preserved
frames-preserved g c =
    let body = rw c.in-Ok-Some.field-0-is at c.in-Ok-Some.ensures.body in
    let onward = rw c.in-Ok-Some.field-0-is at c.in-Ok-Some.ensures.onward in
    let size = c.in-Ok-Some.size in
    let fits : size ≤ length c.read_body.new.space = omega (arith, onward.1, c.requires.space, c.frames.auto.space, c.read_body.auto.space) in
    let long : length (take size c.read_body.new.space) ≡ size = length-take-le size c.read_body.new.space fits in
    let within : c.args.s.now.base + (c.frames.at + (5 + size)) ≤ LOG_END = omega (arith, onward.2) in
    survey_goes_on size (take size c.read_body.new.space) c.frames.invariant c.read_body.ensures.reads c.in-Ok-Some.ensures.heeded (sym long) within (omega (arith, long, onward.1)) body
    (λ rs fields text. sym c.if-not-are_inside.false ∙ c.are_inside.ensures rs fields text)

pub returns-in-Ok-None-clause-end : goal.returns-in-Ok-None-clause-end
returns-in-Ok-None-clause-end g c frames sure has =
    let closed = rw c.in-Ok-None.field-0-is at c.in-Ok-None.ensures.closed in
    (survey_ends c.frames.invariant (λ sure. closed sure refl) sure frames has).end

pub returns-in-Ok-None-clause-inside : goal.returns-in-Ok-None-clause-inside
returns-in-Ok-None-clause-inside g c frames sure has =
    let closed = rw c.in-Ok-None.field-0-is at c.in-Ok-None.ensures.closed in
    (survey_ends c.frames.invariant (λ sure. closed sure refl) sure frames has).inside

pub returns-in-Ok-None-clause-reads : goal.returns-in-Ok-None-clause-reads
returns-in-Ok-None-clause-reads g c = reads_more c.frames.invariant.reads c.read_body.ensures.reads

pub returns-in-Err-clause-faults : goal.returns-in-Err-clause-faults
returns-in-Err-clause-faults g c =
    subst (EndFails g.D.Disk.told c.args.s.now c.args.area (g.D.Disk.view c.args.disk.now) (g.D.Disk.view c.read_body.new.disk)) (sym c.of_log.ensures)
    (survey_fails (g.D.Disk.view c.read_body.new.disk) c.frames.invariant c.in-Err.fault c.in-Err.ensures.faults)

pub returns-in-Err-clause-reads : goal.returns-in-Err-clause-reads
returns-in-Err-clause-reads g c = reads_more c.frames.invariant.reads c.read_body.ensures.reads
