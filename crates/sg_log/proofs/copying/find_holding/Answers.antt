use Rattle.std.proofs.Common.{◌∙◌, arith}
use Rattle.sg_log.proofs.Runs.{reads_more}
use Rattle.sg_log.proofs.Cutting.{sought_next, next_sought, next_holds, size_there}
use Rattle.sg_log.proofs.copying.find_holding.Goals as goal

pub returns-in_err-size-clause-reads : goal.returns-in_err-size-clause-reads
returns-in_err-size-clause-reads g c = reads_more c.frames.invariant.reads c.body_size.ensures.reads

pub returns-then-end-gate-clause-failed : goal.returns-then-end-gate-clause-failed
returns-then-end-gate-clause-failed g c frames told stand last =
    let f = ((g.D.Disk.view c.args.disk.now).now c.args.area).seen in
    let n = sought_next f c.args.base c.args.point c.args.gate c.frames.at frames stand last c.frames.invariant.before c.requires.before (c.frames.invariant.sought frames told stand last) in
    let size = size_there c.args.area c.frames.at (g.D.Disk.view c.args.disk.now).now (g.D.Disk.view c.frames.disk).now n.next c.in_ok-size.size (c.frames.invariant.reads.unchanged told) n.formed (c.in_ok-size.ensures.size n.next told) in
    let within = n.within in
    absurd (omega (arith, size, within, last, c.if-end-gate.true))

pub returns-then-end-gate-clause-reads : goal.returns-then-end-gate-clause-reads
returns-then-end-gate-clause-reads g c = reads_more c.frames.invariant.reads c.body_size.ensures.reads

pub returns-then-base-end-clause-found : goal.returns-then-base-end-clause-found
returns-then-base-end-clause-found g c frames told stand last =
    let f = ((g.D.Disk.view c.args.disk.now).now c.args.area).seen in
    let n = sought_next f c.args.base c.args.point c.args.gate c.frames.at frames stand last c.frames.invariant.before c.requires.before (c.frames.invariant.sought frames told stand last) in
    let size = size_there c.args.area c.frames.at (g.D.Disk.view c.args.disk.now).now (g.D.Disk.view c.frames.disk).now n.next c.in_ok-size.size (c.frames.invariant.reads.unchanged told) n.formed (c.in_ok-size.ensures.size n.next told) in
    next_holds f c.args.base c.args.point c.frames.at c.in_ok-size.size frames n size c.frames.invariant.before (omega (arith, c.if-base-end.true))

pub returns-then-base-end-clause-reads : goal.returns-then-base-end-clause-reads
returns-then-base-end-clause-reads g c = reads_more c.frames.invariant.reads c.body_size.ensures.reads

pub frames-preserved : goal.frames-preserved
frames-preserved g c = record {
  before = omega (arith, c.if-base-end.false);
  sought = λ frames told stand last.
      let f = ((g.D.Disk.view c.args.disk.now).now c.args.area).seen in
      let n = sought_next f c.args.base c.args.point c.args.gate c.frames.at frames stand last c.frames.invariant.before c.requires.before (c.frames.invariant.sought frames told stand last) in
      let size = size_there c.args.area c.frames.at (g.D.Disk.view c.args.disk.now).now (g.D.Disk.view c.frames.disk).now n.next c.in_ok-size.size (c.frames.invariant.reads.unchanged told) n.formed (c.in_ok-size.ensures.size n.next told) in
      next_sought f c.args.base c.args.point c.frames.at c.in_ok-size.size frames n size;
  reads = reads_more c.frames.invariant.reads c.body_size.ensures.reads;
  quiet = c.in_ok-size.ensures.quiet ∙ c.frames.invariant.quiet;
}
