use Rattle.std.proofs.Common.{◌≡◌, ◌+◌, ◌≤◌, length, take, refl, sym, subst, arith}
use Rattle.std.proofs.lemmas.List.{length-take-le}
use Rattle.sg_log.specs.Frames.{LOG_END}
use Rattle.sg_log.proofs.Runs.{reads_more}
use Rattle.sg_analysis.specs.Damage.{AnalysisFails}
use Rattle.sg_analysis.proofs.Walking.{walk_starts, walk_goes_on, walk_ends, walk_fails, records_fail}
use Rattle.sg_analysis.proofs.analysis.walk.Goals as goal

pub frames-init : goal.frames-init
frames-init g c = walk_starts g.D.Disk.told c.args.area c.args.base (g.D.Disk.view c.args.disk.now) c.args.scan.now c.requires.base c.requires.scan c.requires.unended

pub returns-in-Err-clause-reads : goal.returns-in-Err-clause-reads
returns-in-Err-clause-reads g c = reads_more c.frames.invariant.reads c.read_body.ensures.reads

pub returns-in-Err-clause-faults : goal.returns-in-Err-clause-faults
returns-in-Err-clause-faults g c =
    subst (AnalysisFails g.D.Disk.told c.args.area c.args.base (g.D.Disk.view c.args.disk.now) (g.D.Disk.view c.read_body.new.disk)) (sym c.from.ensures)
    (walk_fails c.frames.invariant c.read_body.ensures.reads c.in-Err.fault c.in-Err.ensures.faults)

pub returns-in-Ok-None-clause-reads : goal.returns-in-Ok-None-clause-reads
returns-in-Ok-None-clause-reads g c = reads_more c.frames.invariant.reads c.read_body.ensures.reads

pub returns-in-Ok-None-clause-found : goal.returns-in-Ok-None-clause-found
returns-in-Ok-None-clause-found g c =
    let closed = rw c.in-Ok-None.field-0-is at c.in-Ok-None.ensures.closed in
    let calls = rw c.in-Ok-None.field-0-is at c.in-Ok-None.ensures.calls in
    walk_ends c.frames.invariant c.read_body.ensures.reads c.in-Ok-None.ensures.heeded (λ sure. closed sure refl) calls

pub returns-in-Err-take-clause-reads : goal.returns-in-Err-take-clause-reads
returns-in-Err-take-clause-reads g c = reads_more c.frames.invariant.reads c.read_body.ensures.reads

pub returns-in-Err-take-clause-faults : goal.returns-in-Err-take-clause-faults
returns-in-Err-take-clause-faults g c =
    let body = rw c.in-Ok-Some.field-0-is at c.in-Ok-Some.ensures.body in
    let onward = rw c.in-Ok-Some.field-0-is at c.in-Ok-Some.ensures.onward in
    let size = c.in-Ok-Some.size in
    let fits : size ≤ length c.read_body.new.space = omega (arith, onward.1, c.requires.space, c.frames.auto.space, c.read_body.auto.space) in
    let most : length (take size c.read_body.new.space) ≤ 65536 = omega (arith, length-take-le size c.read_body.new.space fits, onward.1) in
    records_fail (take size c.read_body.new.space) c.frames.invariant c.read_body.ensures.reads body most c.in-Err-take.fault (λ ns k low. c.in-Err-take.ensures.fails c.args.base ns k low)

pub frames-preserved : goal.frames-preserved
frames-preserved g c =
    let body = rw c.in-Ok-Some.field-0-is at c.in-Ok-Some.ensures.body in
    let onward = rw c.in-Ok-Some.field-0-is at c.in-Ok-Some.ensures.onward in
    let calls = rw c.in-Ok-Some.field-0-is at c.in-Ok-Some.ensures.calls in
    let size = c.in-Ok-Some.size in
    let fits : size ≤ length c.read_body.new.space = omega (arith, onward.1, c.requires.space, c.frames.auto.space, c.read_body.auto.space) in
    let long : length (take size c.read_body.new.space) ≡ size = length-take-le size c.read_body.new.space fits in
    let ends : c.frames.at + (5 + size) ≡ c.frames.at + 5 + length (take size c.read_body.new.space) = omega (arith, long) in
    let within : c.args.base + (c.frames.at + (5 + size)) ≤ LOG_END = omega (arith, onward.2) in
    walk_goes_on (c.frames.at + (5 + size)) (take size c.read_body.new.space) c.frames.invariant c.read_body.ensures.reads c.in-Ok-Some.ensures.heeded ends within (omega (arith, long, onward.0)) (omega (arith, long, onward.1)) body (λ ns k low. c.in-Ok.ensures.taken c.args.base ns k low) (λ frames h. c.in-Ok.ensures.placed c.args.base frames h) calls
