-- An image of a store is refused for no operation: each that opening needs is registered.
use Rattle.std.proofs.Common.{◌≡◌, ◌⊎◌, ⊎_elim, ℕ, List, Option, Some, None, sym, ap, ◌∙◌, subst}
use Rattle.sg_disk.specs.Disk.{Image}
use Rattle.sg_gate.specs.declared.superblock.Super.{Super}
use Rattle.sg_log.specs.Frames.{Numbered, HasRecords}
use Rattle.sg_ops.specs.Table.{Table}
use Rattle.sg_action.specs.States.{State}
use Rattle.sg_analysis.specs.Analysis.{analysis_of}
use Rattle.sg_engine.specs.Engine.{Origin, log_area}
use Rattle.sg_find.specs.declared.fault.OpenFault.{OpenFault}
use Rattle.sg_find.specs.declared.fault.OpenFault.TheVariants.{UnknownOperation}
use Rattle.sg_open.specs.Refusals.{IsCause, IsLateCause, IsRead, missing}
use Rattle.sg_places.specs.Asked.{undone_of, first_unknown}
use Rattle.sg_actions.specs.Steps.{Steps}
use Rattle.sg_phys_laws.specs.Known.{IsEnough}
use Rattle.sg_phys_laws.specs.Recovers.{super_of, origin_of, records_in, RecoversBy}
use Rattle.sg_phys_laws.proofs.Recovered.{records_held}
use Rattle.sg_attach.proofs.Points.{point_same}

none_some : (code : ℕ) (x : Option ℕ) → x ≡ None → x ≡ Some code → ⊥
none_some code x none some = cc

-- what an image's own records need is registered,
none_missing : (t : Table) (c : Image) (rs : Steps) (x : State) (read : IsRead c) → RecoversBy t c rs x → missing t c read ≡ None
none_missing t c rs x read r =
    let o : Origin = origin_of t c in
    let base : ℕ = read.super.base in
    let ns : List Numbered = read.log.records in
    let same : o.super ≡ read.super = ap super_of read.counts in
    let held : records_in o c ≡ ns = records_held o c read.log.gate ns (subst (λ (s : Super). HasRecords (c (log_area s)) s.base read.log.gate ns) (sym same) read.log.has) in
    let enough : IsEnough t base ns = subst (λ (s : Super). IsEnough t s.base ns) same (subst (IsEnough t o.super.base) held r.holds.registered) in
    ap (λ (k : ℕ). first_unknown t k (undone_of (analysis_of base ns)) ns) (point_same base ns) ∙ enough

-- SO IT IS REFUSED FOR NO OPERATION,
pub none_unknown : (t : Table) (c : Image) (rs : Steps) (x : State) (code : ℕ) → RecoversBy t c rs x → IsCause t c (UnknownOperation code) → ⊥
none_unknown t c rs x code r cause = none_some code (missing t c cause.0) (none_missing t c rs x cause.0 r) cause.1

-- also where it is being opened
pub attach_known : (t : Table) (c : Image) (fault : OpenFault) (rs : Steps) (x : State) → RecoversBy t c rs x → IsCause t c fault ⊎ IsLateCause c fault → (code : ℕ) → fault ≡ UnknownOperation code → ⊥
attach_known t c fault rs x r cause code e = ⊎_elim (λ here. none_unknown t c rs x code r here) (λ late. late) (subst (λ (f : OpenFault). IsCause t c f ⊎ IsLateCause c f) e cause)
