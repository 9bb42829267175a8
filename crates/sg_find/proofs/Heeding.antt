-- No fault of the disk is passed over.
use Rattle.std.proofs.Common.{◌≡◌, Bool, true, false, Result, Ok, Err, subst, sym, ◌∙◌}
use Rattle.std.specs.Bool.{OnFalse}
use Rattle.sg_base.specs.declared.area.Area.{Area}
use Rattle.sg_disk.specs.Disk.{View}
use Rattle.sg_disk.specs.Heeds.{Heeds}
use Rattle.sg_log.specs.Faults as log
use Rattle.sg_log.specs.declared.fault.LogFault.{LogFault}
use Rattle.sg_log.specs.declared.fault.LogFault.TheVariants as faults
use Rattle.sg_analysis.specs.Damage as analysis
use Rattle.sg_analysis.specs.declared.fault.AnalysisFault.{AnalysisFault}
use Rattle.sg_analysis.specs.declared.fault.AnalysisFault.TheVariants as causes
use Rattle.sg_gate.specs.Faults as gate
use Rattle.sg_gate.specs.declared.fault.GateFault.{GateFault}
use Rattle.sg_gate.specs.declared.fault.GateFault.TheVariants as gates
use Rattle.sg_find.specs.declared.fault.OpenFault.{OpenFault}
use Rattle.sg_find.specs.Faults.{is_disk}
use Rattle.sg_find.specs.Refused.{of_log, of_analysis, of_gate}

pub on_false_then : (b : Bool) (A B : Type 0) → (A → B) → OnFalse b A → OnFalse b B
on_false_then true A B f a = a
on_false_then false A B f a = f a

on_any : (b : Bool) (A : Type 0) → A → OnFalse b A
on_any true A a = tt
on_any false A a = a

-- a call behind one that didn't fail
pub heeds_then : {T : Type 0} (r : Result T OpenFault) (v w z : View) → w.faults ≡ v.faults → Heeds is_disk r w z → Heeds is_disk r v z
heeds_then (Ok x) v w z first second = second ∙ first
heeds_then (Err e) v w z first second = on_false_then (is_disk e) _ _ (λ (same : z.faults ≡ w.faults). same ∙ first) second

-- a refusal without a call of the disk more
pub heeds_none : (e : OpenFault) (v w : View) → w.faults ≡ v.faults → OnFalse (is_disk e) (w.faults ≡ v.faults)
heeds_none e v w same = on_any (is_disk e) _ same

-- the refusals of a log and of an analysis
pub log_heeds : (T : Type 0) (area : Area) (fault : LogFault) (v w : View) → log.HeedsFaults {T = T} (Err fault) v w → OnFalse (is_disk (of_log area fault)) (w.faults ≡ v.faults)
log_heeds T area faults.Disk v w h = tt
log_heeds T area faults.LogEnd v w h = tt
log_heeds T area (faults.Damaged at) v w h = h
log_heeds T area faults.Memory v w h = h

pub analysis_heeds : (T : Type 0) (area : Area) (fault : AnalysisFault) (v w : View) → analysis.HeedsFaults {T = T} (Err fault) v w → OnFalse (is_disk (of_analysis area fault)) (w.faults ≡ v.faults)
analysis_heeds T area causes.Disk v w h = tt
analysis_heeds T area (causes.Damaged at) v w h = h
analysis_heeds T area causes.Memory v w h = h

-- and of a gate
pub gate_heeds : (fault : GateFault) (v w : View) → OnFalse (gate.is_disk fault) (w.faults ≡ v.faults) → OnFalse (is_disk (of_gate fault)) (w.faults ≡ v.faults)
gate_heeds gates.Disk v w h = tt
gate_heeds gates.NotAStore v w h = h
gate_heeds (gates.Damaged at) v w h = h
