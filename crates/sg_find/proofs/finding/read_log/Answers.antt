use Rattle.std.proofs.Common.{◌≡◌, ◌≤◌, ℕ, [], sym, ap, ◌∙◌, subst}
use Rattle.sg_base.specs.declared.area.Area.{Area}
use Rattle.sg_disk.specs.Disk.{State}
use Rattle.sg_log.specs.Frames.{HasRecords, Frames, LOG_END}
use Rattle.sg_log.specs.Reads.{OnlyReads}
use Rattle.sg_log.proofs.Holding.{holds_along}
use Rattle.sg_log.proofs.Runs.{reads_more}
use Rattle.sg_analysis.specs.Analysis.{analysis_of}
use Rattle.sg_analysis.specs.Shown.{IsAnalysed}
use Rattle.std.specs.Bool.{OnFalse}
use Rattle.std.specs.Prelude.{Result, Ok, Err}
use Rattle.sg_find.specs.declared.fault.OpenFault.{OpenFault}
use Rattle.sg_find.specs.Faults.{is_disk}
use Rattle.sg_find.proofs.Heeding.{heeds_then, on_false_then, log_heeds, analysis_heeds}
use Rattle.sg_find.proofs.finding.read_log.Goals as goal

pub returns-in-Ok-analyse-clause-records : goal.returns-in-Ok-analyse-clause-records
returns-in-Ok-analyse-clause-records g c ds gate told settled has =
    let v = g.D.Disk.view c.args.disk.now in
    let s = c.args.s.now in
    let area = c.log_area-area.ensures.area in
    let settled' = subst (λ (a : Area). (v.now a).pending ≡ []) (sym area) settled in
    let has' = subst (λ (a : Area). HasRecords (v.now a).seen s.base gate ds) (sym area) has in
    let found = c.in-Ok.ensures.records ds gate told settled' has' in
    (found.0, holds_along (c.analyse.ensures.reads.unchanged told) found.1)

pub returns-in-Ok-analyse-clause-says : goal.returns-in-Ok-analyse-clause-says
returns-in-Ok-analyse-clause-says g c ds gate told has =
    let v = g.D.Disk.view c.args.disk.now in
    let s = c.args.s.now in
    let area = c.log_area-area.ensures.area in
    let has' = subst (λ (a : Area). HasRecords (v.now a).seen s.base gate ds) (sym area) has in
    let there = subst (λ (x : State). HasRecords (x c.log_area-area.result).seen s.base gate ds) (sym (c.attach.ensures.unchanged told)) has' in
    c.in-Ok-analyse.ensures.says gate ds told there

pub returns-in-Ok-analyse-clause-analysed : goal.returns-in-Ok-analyse-clause-analysed
returns-in-Ok-analyse-clause-analysed g c told =
    let v = g.D.Disk.view c.args.disk.now in
    let s = c.args.s.now in
    subst (λ (a : Area). IsAnalysed (v.now a).seen s.base c.in-Ok-analyse.analysis) c.log_area-area.ensures.area
    (subst (λ (x : State). IsAnalysed (x c.log_area-area.result).seen s.base c.in-Ok-analyse.analysis) (c.attach.ensures.unchanged told) (c.in-Ok-analyse.ensures.analysed told))

pub returns-in-Ok-analyse-clause-reads : goal.returns-in-Ok-analyse-clause-reads
returns-in-Ok-analyse-clause-reads g c =
    let a = c.attach.ensures in
    reads_more (record { unchanged = a.unchanged; any_moment = a.any_moment; handed = a.handed; later = a.later }) c.analyse.ensures.reads

pub returns-in-Err-analyse-clause-reads : goal.returns-in-Err-analyse-clause-reads
returns-in-Err-analyse-clause-reads g c =
    let a = c.attach.ensures in
    reads_more (record { unchanged = a.unchanged; any_moment = a.any_moment; handed = a.handed; later = a.later }) c.analyse.ensures.reads

pub returns-in-Err-clause-heeded : goal.returns-in-Err-clause-heeded
returns-in-Err-clause-heeded g c =
    let v = g.D.Disk.view c.args.disk.now in
    let w = g.D.Disk.view c.attach.new.disk in
    subst (λ (e : OpenFault). OnFalse (is_disk e) (w.faults ≡ v.faults)) (sym c.of_log.ensures) (log_heeds (Unit {0}) c.log_area-area.result c.in-Err.fault v w c.in-Err.ensures.heeded)

pub returns-in-Err-analyse-clause-heeded : goal.returns-in-Err-analyse-clause-heeded
returns-in-Err-analyse-clause-heeded g c =
    let v = g.D.Disk.view c.args.disk.now in
    let w = g.D.Disk.view c.attach.new.disk in
    let z = g.D.Disk.view c.analyse.new.disk in
    let same : w.faults ≡ v.faults = c.in-Ok.ensures.heeded in
    on_false_then (is_disk c.of_analysis.result) _ _ (λ (e : z.faults ≡ w.faults). e ∙ same)
    (subst (λ (e : OpenFault). OnFalse (is_disk e) (z.faults ≡ w.faults)) (sym c.of_analysis.ensures) (analysis_heeds (Unit {0}) c.log_area-area.result c.in-Err-analyse.fault w z c.in-Err-analyse.ensures.heeded))

pub returns-in-Ok-analyse-clause-found : goal.returns-in-Ok-analyse-clause-found
returns-in-Ok-analyse-clause-found g c told =
    let s = c.args.s.now in
    let one = c.in-Ok-analyse.ensures.analysed told in
    let there = subst (λ (x : State). HasRecords (x c.log_area-area.result).seen s.base one.gate one.records) (c.attach.ensures.unchanged told) one.has in
    let v = g.D.Disk.view c.args.disk.now in
    record { gate = one.gate; records = one.records; has = subst (λ (a : Area). HasRecords (v.now a).seen s.base one.gate one.records) c.log_area-area.ensures.area there }
