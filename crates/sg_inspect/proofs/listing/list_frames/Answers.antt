use Rattle.std.proofs.Common.{◌≡◌, ◌+◌, ◌≤◌, length, take, refl, sym, arith}
use Rattle.std.proofs.lemmas.List.{length-take-le}
use Rattle.sg_log.specs.Frames.{LOG_END}
use Rattle.sg_log.proofs.Runs.{reads_more}
use Rattle.sg_inspect.proofs.Frames.{list_starts, list_goes_on, list_cut, list_ends, list_fails, list_front, list_body_fails}
use Rattle.sg_inspect.proofs.listing.list_frames.Goals as goal

pub frames-init : goal.frames-init
frames-init g c = list_starts g.D.Disk.told c.args.s.now c.args.area (g.D.Disk.view c.args.disk.now) (g.K.Sink.taken c.args.out.now) (g.K.Sink.faults c.args.out.now) c.requires.base

pub returns-in-Ok-None-clause-took : goal.returns-in-Ok-None-clause-took
returns-in-Ok-None-clause-took g c frames sure has =
    let closed = rw c.in-Ok-None.field-0-is at c.in-Ok-None.ensures.closed in
    list_ends c.frames.invariant (λ sure. closed sure refl) sure frames has

pub returns-in-Ok-None-clause-reads : goal.returns-in-Ok-None-clause-reads
returns-in-Ok-None-clause-reads g c = reads_more c.frames.invariant.reads c.read_body.ensures.reads

pub returns-in-Err-clause-cut : goal.returns-in-Err-clause-cut
returns-in-Err-clause-cut g c frames sure has = list_front c.frames.invariant sure frames has

pub returns-in-Err-clause-faults : goal.returns-in-Err-clause-faults
returns-in-Err-clause-faults g c sure frames has = list_fails (g.D.Disk.view c.read_body.new.disk) c.frames.invariant c.in-Err.field-0 c.in-Err.ensures.faults sure frames has

pub returns-in-Err-clause-reads : goal.returns-in-Err-clause-reads
returns-in-Err-clause-reads g c = reads_more c.frames.invariant.reads c.read_body.ensures.reads

pub frames-preserved : goal.frames-preserved
frames-preserved g c =
    let body = rw c.in-Ok-Some.field-0-is at c.in-Ok-Some.ensures.body in
    let onward = rw c.in-Ok-Some.field-0-is at c.in-Ok-Some.ensures.onward in
    let size = c.in-Ok-Some.size in
    let fits : size ≤ length c.read_body.new.space = omega (arith, onward.1, c.requires.space, c.frames.auto.space, c.read_body.auto.space) in
    let long : length (take size c.read_body.new.space) ≡ size = length-take-le size c.read_body.new.space fits in
    let within : c.args.s.now.base + (c.frames.at + (5 + size)) ≤ LOG_END = omega (arith, onward.2) in
    list_goes_on size (take size c.read_body.new.space) c.frames.invariant c.read_body.ensures.reads c.in-Ok-Some.ensures.heeded c.in-Ok.ensures.quiet (sym long) within (omega (arith, long, onward.1)) body
    (λ rs fields text. c.in-Ok.ensures.took rs fields text)

pub returns-in-Err-list_body-clause-cut : goal.returns-in-Err-list_body-clause-cut
returns-in-Err-list_body-clause-cut g c frames sure has =
    let body = rw c.in-Ok-Some.field-0-is at c.in-Ok-Some.ensures.body in
    let onward = rw c.in-Ok-Some.field-0-is at c.in-Ok-Some.ensures.onward in
    let size = c.in-Ok-Some.size in
    let fits : size ≤ length c.read_body.new.space = omega (arith, onward.1, c.requires.space, c.frames.auto.space, c.read_body.auto.space) in
    let most : length (take size c.read_body.new.space) ≤ 65536 = omega (arith, length-take-le size c.read_body.new.space fits, onward.1) in
    list_cut (g.K.Sink.taken c.list_body.new.out) (take size c.read_body.new.space) c.frames.invariant most body (λ rs fields text. c.in-Err-list_body.ensures.cut rs fields text) sure frames has

pub returns-in-Err-list_body-clause-faults : goal.returns-in-Err-list_body-clause-faults
returns-in-Err-list_body-clause-faults g c =
    let body = rw c.in-Ok-Some.field-0-is at c.in-Ok-Some.ensures.body in
    let onward = rw c.in-Ok-Some.field-0-is at c.in-Ok-Some.ensures.onward in
    let size = c.in-Ok-Some.size in
    let fits : size ≤ length c.read_body.new.space = omega (arith, onward.1, c.requires.space, c.frames.auto.space, c.read_body.auto.space) in
    let most : length (take size c.read_body.new.space) ≤ 65536 = omega (arith, length-take-le size c.read_body.new.space fits, onward.1) in
    list_body_fails (g.D.Disk.view c.read_body.new.disk) (g.K.Sink.faults c.list_body.new.out) (take size c.read_body.new.space) c.frames.invariant most body c.in-Err-list_body.fault c.in-Err-list_body.ensures.faults

pub returns-in-Err-list_body-clause-reads : goal.returns-in-Err-list_body-clause-reads
returns-in-Err-list_body-clause-reads g c = reads_more c.frames.invariant.reads c.read_body.ensures.reads
