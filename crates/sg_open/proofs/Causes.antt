-- Why an image is refused.
use Rattle.std.proofs.Common.{◌≡◌, ◌⊎◌, inl, inr, ⊎_elim, ◌+◌, ◌<◌, max, ℕ, Bool, IsTrue, Ok, Err, Result, IfErr, IfOk, Some, None, List, refl, sym, ◌∙◌, ap, subst}
use Rattle.sg_base.specs.declared.area.Area.{Area}
use Rattle.sg_base.specs.declared.area.Area.TheVariants.{Home}
use Rattle.sg_disk.specs.Disk.{Bytes, Image, State, View}
use Rattle.sg_gate.specs.Superblock.{superblock}
use Rattle.sg_gate.specs.Faults.{LayFails}
use Rattle.sg_gate.specs.declared.superblock.Super.{Super}
use Rattle.sg_gate.specs.declared.fault.GateFault.{GateFault}
use Rattle.sg_gate.specs.declared.fault.GateFault.TheVariants as gates
use Rattle.sg_ops.specs.Table.{Table}
use Rattle.sg_record.specs.Records.{Record}
use Rattle.sg_log.specs.Frames.{Numbered, Frames, HasRecords, numbered_in}
use Rattle.sg_log.specs.Formed as log
use Rattle.sg_analysis.specs.Damage as analysis
use Rattle.sg_analysis.specs.Analysis.{Analysis, analysis_of}
use Rattle.sg_places.specs.Asked.{first_unknown}
use Rattle.sg_pool.specs.Units.{Geometry}
use Rattle.sg_engine.specs.Engine.{geometry, log_area}
use Rattle.sg_find.specs.Synced.{HasLog, reads, redo_point}
use Rattle.sg_find.specs.Refused.{LogRefused, TextRefused, of_gate}
use Rattle.sg_find.specs.declared.fault.OpenFault.{OpenFault}
use Rattle.sg_find.specs.declared.fault.OpenFault.TheVariants.{Disk, Memory, NotAStore, Damaged, UnknownOperation}
use Rattle.sg_open.specs.Refusals.{IsPageFault, IsLate, IsRead, IsCause, IsLateCause, IsAccepted, IsBadLog, IsBadHeader, IsPageAt}

-- by the superblock
pub gate_cause : (t : Table) (c : Image) (fault : GateFault) → (◌≡◌ {A = Result Super GateFault} (Err fault) (superblock (c Home))) ⊎ (◌≡◌ {A = Result Super GateFault} (Err fault) (Err gates.Disk)) → IsCause t c (of_gate fault)
gate_cause t c gates.Disk found = tt
gate_cause t c gates.NotAStore found = ⊎_elim (λ is. sym is) (λ failed. absurd (cc)) found
gate_cause t c (gates.Damaged at) found = ⊎_elim (λ is. inl (refl, sym is)) (λ failed. absurd (cc)) found

-- by the log
pub log_cause : (t : Table) (told : Bool) (s : Super) (v v1 w : View) (e : OpenFault) → IsTrue told → superblock (reads v Home) ≡ Ok s → v1.now ≡ v.now → LogRefused told (log_area s) s.base v1 w e → IsCause t (reads v) e
log_cause t told s v v1 w Disk sure super same h = tt
log_cause t told s v v1 w Memory sure super same h = tt
log_cause t told s v v1 w NotAStore sure super same h = absurd h
log_cause t told s v v1 w (Damaged there at) sure super same h = inr (s, super, h.0, inl (subst (λ (st : State). log.IsDamagedAt (st (log_area s)).seen s.base at ⊎ analysis.IsDamagedAt (st (log_area s)).seen s.base at) same (h.1 sure)))
log_cause t told s v v1 w (UnknownOperation code) sure super same h = absurd h

-- by its records
pub text_cause : (t : Table) (s : Super) (a : Analysis) (c : Image) (v w : View) (e : OpenFault) → superblock (c Home) ≡ Ok s → (has : HasLog (c (log_area s)) s.base) → a ≡ analysis_of s.base has.records
    → (frames : List (List Record)) → Frames (c (log_area s)) 0 frames → numbered_in s.base frames ≡ has.records → TextRefused t (log_area s) s.pages s.bands s.base (max s.base a.estimate) (a.losers, a.opened) frames v w e → IsCause t c e
text_cause t s a c v w Disk super has says frames stand all h = tt
text_cause t s a c v w Memory super has says frames stand all h = tt
text_cause t s a c v w NotAStore super has says frames stand all h = absurd h
text_cause t s a c v w (Damaged there at) super has says frames stand all h = inr (s, super, h.0, inr (frames, stand, h.1))
text_cause t s a c v w (UnknownOperation code) super has says frames stand all h =
    let here : first_unknown t (max s.base a.estimate) (a.losers, a.opened) has.records ≡ Some code = ap (λ (l : List Numbered). first_unknown t (max s.base a.estimate) (a.losers, a.opened) l) (sym all) ∙ h.1 in
    (record { super = s; counts = super; log = has }, subst (λ (x : Analysis). first_unknown t (max s.base x.estimate) (x.losers, x.opened) has.records ≡ Some code) says here)

pub text_accepted : (t : Table) (s : Super) (a : Analysis) (c : Image) → superblock (c Home) ≡ Ok s → (has : HasLog (c (log_area s)) s.base) → a ≡ analysis_of s.base has.records
    → (frames : List (List Record)) → numbered_in s.base frames ≡ has.records → first_unknown t (max s.base a.estimate) (a.losers, a.opened) (numbered_in s.base frames) ≡ None → IsAccepted t c s
text_accepted t s a c super has says frames all none =
    let here : first_unknown t (max s.base a.estimate) (a.losers, a.opened) has.records ≡ None = ap (λ (l : List Numbered). first_unknown t (max s.base a.estimate) (a.losers, a.opened) l) (sym all) ∙ none in
    (record { super = s; counts = super; log = has }, refl, subst (λ (x : Analysis). first_unknown t (max s.base x.estimate) (x.losers, x.opened) has.records ≡ None) says here)

-- images of the same bytes
abbrev read_same : (c k : Image) → ((a : Area) → c a ≡ k a) → (r : IsRead c) → (q : IsRead k) × (q.super ≡ r.super) × (q.log.records ≡ r.log.records)
read_same c k same r = (
  record {
    super = r.super;
    counts = subst (λ (f : Bytes). superblock f ≡ Ok r.super) (same Home) r.counts;
    log = record { gate = r.log.gate; records = r.log.records; has = subst (λ (f : Bytes). HasRecords f r.super.base r.log.gate r.log.records) (same (log_area r.super)) r.log.has };
  },
  refl,
  refl,
)

pub cause_same : (t : Table) (c k : Image) (e : OpenFault) → ((a : Area) → c a ≡ k a) → IsCause t c e → IsCause t k e
cause_same t c k Disk same h = tt
cause_same t c k Memory same h = tt
cause_same t c k NotAStore same h = subst (λ (f : Bytes). superblock f ≡ Err gates.NotAStore) (same Home) h
cause_same t c k (Damaged there at) same h = ⊎_elim
    (λ gate. inl (gate.0, subst (λ (f : Bytes). superblock f ≡ Err (gates.Damaged at)) (same Home) gate.1))
    (λ (s, super, area, bad). inr (s, subst (λ (f : Bytes). superblock f ≡ Ok s) (same Home) super, area, subst (λ (f : Bytes). IsBadLog s f at) (same (log_area s)) bad))
    h
cause_same t c k (UnknownOperation code) same h = ((read_same c k same h.0).0, h.1)

pub accepted_same : (t : Table) (c k : Image) (s : Super) → ((a : Area) → c a ≡ k a) → IsAccepted t c s → IsAccepted t k s
accepted_same t c k s same h = ((read_same c k same h.0).0, h.1, h.2)

-- behind the first write
pub header_late : (told : Bool) (pages : ℕ) (g : Geometry) (v w : View) (fault : GateFault) → LayFails told pages v w fault → IsLate told pages g v (of_gate fault)
header_late told pages g v w gates.Disk h = tt
header_late told pages g v w gates.NotAStore h = absurd h
header_late told pages g v w (gates.Damaged at) h = (refl, λ sure. inl (h sure))

pub page_late : (told : Bool) (pages : ℕ) (g : Geometry) (v : View) (e : OpenFault) → IsPageFault g e → IsLate told pages g v e
page_late told pages g v Disk h = tt
page_late told pages g v Memory h = absurd h
page_late told pages g v NotAStore h = absurd h
page_late told pages g v (Damaged there at) h = (h.0, λ sure. inr h.1)
page_late told pages g v (UnknownOperation code) h = absurd h

pub late_cause : (told : Bool) (s : Super) (g : Geometry) (c : Image) (v : View) (e : OpenFault) → IsTrue told → ((a : Area) → (v.now a).seen ≡ c a) → superblock (c Home) ≡ Ok s → g ≡ geometry s → IsLate told s.pages g v e → IsLateCause c e
late_cause told s g c v Disk sure same super size h = tt
late_cause told s g c v Memory sure same super size h = absurd h
late_cause told s g c v NotAStore sure same super size h = absurd h
late_cause told s g c v (Damaged there at) sure same super size h = (
  h.0,
  (
    s,
    super,
    ⊎_elim
        (λ header. inl (subst (λ (f : Bytes). IsBadHeader s.pages f at) (same Home) header))
        (λ page. inr (subst (λ (x : Geometry). IsPageAt x at) size page))
        (h.1 sure),
  ),
)
late_cause told s g c v (UnknownOperation code) sure same super size h = absurd h

pub err_same : {T : Type 0} {P Q : OpenFault → Type 0} (r : Result T OpenFault) → IfErr r P → ((e : OpenFault) → P e → Q e) → IfErr r Q
err_same (Ok x) h f = tt
err_same (Err e) h f = f e h
