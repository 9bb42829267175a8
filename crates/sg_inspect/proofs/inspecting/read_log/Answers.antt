use Rattle.std.proofs.Common.{Err, ap, sym, subst}
use Rattle.sg_base.specs.declared.area.Area.{Area}
use Rattle.sg_log.specs.Frames.{HasRecords}
use Rattle.sg_log.proofs.Runs.{reads_more}
use Rattle.sg_analysis.specs.Shown.{IsAnalysed}
use Rattle.sg_inspect.specs.Faults.{IsNotOfStore}
use Rattle.sg_inspect.proofs.Read.{log_read, analysis_sound, frames_moved}
use Rattle.sg_inspect.proofs.inspecting.read_log.Goals as goal

pub returns-in-Err-clause-sound : goal.returns-in-Err-clause-sound
returns-in-Err-clause-sound g c gate ns has sure page inside =
    let there = subst (λ (a : Area). HasRecords ((g.D.Disk.view c.args.disk.now).now a).seen c.args.s.now.base gate ns) (sym c.area_of-area.ensures) has in
    subst IsNotOfStore (sym c.of_analysis.ensures) (analysis_sound c.area_of-area.result c.in-Err.fault (λ at e. c.in-Err.ensures.undamaged gate ns at sure there page (ap Err e)))

pub returns-in-Ok-find_end-clause-log : goal.returns-in-Ok-find_end-clause-log
returns-in-Ok-find_end-clause-log g c sure says =
    let s = c.args.s.now in
    let old = g.D.Disk.view c.args.disk.now in
    let area = c.area_of-area.result in
    let analysed = subst (λ (a : Area). IsAnalysed (old.now a).seen s.base c.in-Ok._analysis) c.area_of-area.ensures (c.in-Ok.ensures.analysed sure) in
    let same = c.analyse.ensures.reads.unchanged sure in
    let there = c.area_of-area.ensures in
    log_read says analysed (λ frames has. (c.in-Ok-find_end.ensures.end frames sure (frames_moved s area frames same there has), c.in-Ok-find_end.ensures.inside frames sure (frames_moved s area frames same there has)))

pub returns-in-Ok-find_end-clause-reads : goal.returns-in-Ok-find_end-clause-reads
returns-in-Ok-find_end-clause-reads g c = reads_more c.analyse.ensures.reads c.find_end.ensures.reads

pub returns-in-Err-find_end-clause-reads : goal.returns-in-Err-find_end-clause-reads
returns-in-Err-find_end-clause-reads g c = reads_more c.analyse.ensures.reads c.find_end.ensures.reads
