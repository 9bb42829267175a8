-- What is found of a store.
use Rattle.std.proofs.Common.{◌≡◌, ◌⊎◌, ⊎_elim, ◌+◌, max, ℕ, None, Ok, Err, Result, List, [], refl, sym, ◌∙◌, ap, subst}
use Rattle.sg_base.specs.declared.area.Area.TheVariants.{Home}
use Rattle.sg_disk.specs.Disk.{View, State}
use Rattle.sg_gate.specs.declared.superblock.Super.{Super}
use Rattle.sg_gate.specs.declared.fault.GateFault.{GateFault}
use Rattle.sg_gate.specs.declared.fault.GateFault.TheVariants.{Disk}
use Rattle.sg_gate.specs.Superblock.{superblock}
use Rattle.sg_ops.specs.Table.{Table}
use Rattle.sg_record.specs.Records.{Record}
use Rattle.sg_log.specs.Frames.{Frames, Numbered, HasRecords, gate_after}
use Rattle.sg_log.specs.Held.{Tail, Holds}
use Rattle.sg_analysis.specs.Analysis.{Analysis, analysis_of}
use Rattle.sg_analysis.specs.Shown.{shown}
use Rattle.sg_places.specs.Asked.{undone_of, first_unknown}
use Rattle.sg_find.specs.Prepared.{IsPrepared}
use Rattle.sg_find.specs.Synced.{redo_point, log_area}
use Rattle.sg_engine.specs.Engine.{Origin}
use Rattle.sg_open.specs.declared.found.Found.{Found}
use Rattle.sg_open.specs.Found.{IsSettledAll, Opens, IsFound}
use Rattle.sg_open.proofs.Over.{held_same}

same_ok : (s x : Super) (r : Result Super GateFault) → Ok s ≡ r → r ≡ Ok x → s ≡ x
same_ok s x r e is = cc

not_err : (s : Super) (e : GateFault) (r : Result Super GateFault) → r ≡ Ok s → r ≡ Err e → ⊥
not_err s e r is failed = cc

-- what was read is the store's superblock
pub super_is : (o : Origin) (tail : ℕ) (ds : List Numbered) (v : View) (s : Super) → Opens o tail ds v → (Ok s ≡ superblock (v.now Home).seen) ⊎ (◌≡◌ {A = Result Super GateFault} (Ok s) (Err Disk)) → s ≡ o.super
super_is o tail ds v s opens found = ⊎_elim (λ here. same_ok s o.super (superblock (v.now Home).seen) here opens.super) (λ failed. absurd (not_err s Disk (Ok s) refl failed)) found

module _ (t : Table) (o : Origin) (tail : ℕ) (ds : List Numbered) (v v1 v2 v3 : View) (f : Found) (gate : ℕ) (settled : IsSettledAll v) (opens : Opens o tail ds v) (same : f.geometry ≡ o.super)
    (e1 : v1.now ≡ v.now) (e2 : v2.now ≡ v1.now) (e3 : v3.now ≡ v2.now) (at : gate ≡ f.log.gate)
    (is_log : f.log ≡ record { area = log_area f.geometry; base = f.geometry.base; gate = f.log.gate; buffer = [] })
    (holds : (ns : List Numbered) (g : ℕ) → (v1.now (log_area f.geometry)).pending ≡ [] → HasRecords (v1.now (log_area f.geometry)).seen f.geometry.base g ns → (f.log.gate ≡ g) × Holds v2 f.log ns [])
    (says : (ns : List Numbered) (g : ℕ) → HasRecords (v1.now (log_area f.geometry)).seen f.geometry.base g ns → shown f.analysis ≡ analysis_of f.geometry.base ns)
    (prepared : (frames : List (List Record)) → Frames (v2.now (log_area f.geometry)).seen 0 frames → gate ≡ f.geometry.base + gate_after 0 frames →
    IsPrepared t f.geometry.pages f.geometry.bands f.geometry.base (max f.geometry.base f.analysis.estimate) (f.analysis.losers, f.analysis.opened) frames) where
  abbrev s : Super
  s = f.geometry

  has : HasRecords (v1.now (log_area s)).seen s.base tail ds
  has = subst (λ (st : State). HasRecords (st (log_area s)).seen s.base tail ds) (sym e1) (subst (λ (x : Super). HasRecords (v.now (log_area x)).seen x.base tail ds) (sym same) opens.held)

  found_holds : (f.log.gate ≡ tail) × Holds v2 f.log ds []
  found_holds = holds ds tail (ap (λ (st : State). (st (log_area s)).pending) e1 ∙ settled (log_area s)) has

  stand : Frames (v2.now (log_area s)).seen 0 has.frames
  stand = subst (λ (st : State). Frames (st (log_area s)).seen 0 has.frames) (sym e2) has.stand

  at_gate : gate ≡ s.base + gate_after 0 has.frames
  at_gate = at ∙ (found_holds.0 ∙ has.at_gate)

  point : max s.base f.analysis.estimate ≡ redo_point s.base ds
  point = ap (λ (a : Analysis). max s.base a.estimate) (says ds tail has)

  known : first_unknown t (redo_point s.base ds) (undone_of (analysis_of s.base ds)) ds ≡ None
  known = subst (λ (x : Analysis). first_unknown t (max s.base x.estimate) (x.losers, x.opened) ds ≡ None) (says ds tail has)
      (subst (λ (l : List Numbered). first_unknown t (max s.base f.analysis.estimate) (f.analysis.losers, f.analysis.opened) l ≡ None) has.all (prepared has.frames stand at_gate).known)

  pub found_is : IsFound t v3 o tail ds f
  found_is = record {
    super = same;
    gate = found_holds.0;
    place = record {
      area = ap (λ (l : Tail). l.area) is_log ∙ ap log_area same;
      base = ap (λ (l : Tail). l.base) is_log ∙ ap (λ (x : Super). x.base) same;
    };
    held = held_same v2 v3 f.log ds (ap (λ (st : State). st f.log.area) e3) found_holds.1;
    point = point ∙ ap (λ (x : Super). redo_point x.base ds) same;
    known = subst (λ (x : Super). first_unknown t (redo_point x.base ds) (undone_of (analysis_of x.base ds)) ds ≡ None) same known;
  }

-- the log is there where the superblock that was read says so
pub log_there : (o : Origin) (tail : ℕ) (ds : List Numbered) (v v1 : View) (s : Super) → Opens o tail ds v → s ≡ o.super → v1.now ≡ v.now → HasRecords (v1.now (log_area s)).seen s.base tail ds
log_there o tail ds v v1 s opens same e1 = subst (λ (st : State). HasRecords (st (log_area s)).seen s.base tail ds) (sym e1) (subst (λ (x : Super). HasRecords (v.now (log_area x)).seen x.base tail ds) (sym same) opens.held)
