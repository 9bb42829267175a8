-- How a log was read, and its listing.
use Rattle.std.proofs.Common.{◌≡◌, ◌⊎◌, ℕ, ◌+◌, ◌≤◌, arith, Bool, IsTrue, Option, None, Result, Ok, Err, OnOk, OnErr, List, refl, sym, ap, ◌∙◌, subst, inl, inr}
use Rattle.sg_base.specs.declared.area.Area.{Area}
use Rattle.sg_base.specs.declared.area.Area.TheVariants.{Home}
use Rattle.sg_base.specs.Ends.{HasRisen, Takes, TakesFront}
use Rattle.sg_disk.specs.Disk.{Bytes, State, View}
use Rattle.sg_gate.specs.Superblock.{superblock, IsSuper}
use Rattle.sg_gate.specs.declared.superblock.Super.{Super}
use Rattle.sg_gate.specs.declared.fault.GateFault.{GateFault}
use Rattle.sg_gate.specs.declared.fault.GateFault.TheVariants as gates
use Rattle.sg_gate.specs.Reads as gate
use Rattle.sg_gate.proofs.Fields.{in_range}
use Rattle.sg_record.specs.Records.{Record}
use Rattle.sg_log.specs.Frames.{LOG_END, HasRecords, Numbered, gate_after, numbered_in}
use Rattle.sg_log.specs.Reads.{OnlyReads}
use Rattle.sg_analysis.specs.Damage.{AnalysisFails}
use Rattle.sg_analysis.specs.Shown.{IsAnalysed}
use Rattle.sg_analysis.specs.Standing.{IsPageLog}
use Rattle.sg_analysis.specs.declared.analysis.Analysis as code
use Rattle.sg_analysis.specs.declared.fault.AnalysisFault.{AnalysisFault}
use Rattle.sg_analysis.specs.declared.fault.AnalysisFault.TheVariants as causes
use Rattle.sg_places.specs.Asked.{first_outside}
use Rattle.sg_inspect.specs.Listing.{heading, lines_of, listing}
use Rattle.sg_inspect.specs.Logs.{HasFrames, HasLog, IsLogRead, area_of}
use Rattle.sg_inspect.specs.Faults.{of_analysis, IsNotOfStore, CutsListing, EndFails, LogFails}
use Rattle.sg_inspect.specs.declared.fault.InspectFault.{InspectFault}
use Rattle.sg_inspect.specs.declared.fault.InspectFault.TheVariants.{Disk, Sink, NotAStore, Damaged, Memory}
use Rattle.sg_inspect.proofs.Taken.{takes_more, takes_cut, front_of_more}

-- a superblock's base is in its range
pub base_within : (s : Super) → IsSuper s → s.base ≤ LOG_END
base_within s range = (in_range s range).base

-- the frames of the records that an area has
pub frames_of : {f : Bytes} {base gate : ℕ} {ns : List Numbered} (has : HasRecords f base gate ns) → HasFrames f base has.frames
frames_of {base = base} has = record { stand = has.stand; within = omega (arith, has.at_gate, has.within) }

-- a whole log of a state that is equal, by the area that the superblock names
pub frames_moved : {v w : State} (s : Super) (area : Area) (frames : List (List Record)) → w ≡ v → area ≡ area_of s → HasFrames (v (area_of s)).seen s.base frames → HasFrames (w area).seen s.base frames
frames_moved {v = v} s area frames same there has =
    let here = subst (λ (a : Area). HasFrames (v a).seen s.base frames) (sym there) has in
    subst (λ (t : State). HasFrames (t area).seen s.base frames) (sym same) here

-- the log is read where its end was found
pub log_read : {s : State} {super : Super} {end : ℕ} {a : code.Analysis} → superblock (s Home).seen ≡ Ok super → IsAnalysed (s (area_of super)).seen super.base a
    → ((frames : List (List Record)) → HasFrames (s (area_of super)).seen super.base frames → (end ≡ gate_after 0 frames) × (first_outside super.pages super.bands 0 frames ≡ None)) → IsLogRead s super (super.base + end)
log_read {s = s} {super = super} {end = end} says a found =
    let e = found a.has.frames (frames_of a.has) in
    let at : super.base + end ≡ super.base + gate_after 0 a.has.frames = ap (λ n. super.base + n) e.0 in
    record {
      records = a.records;
      says = says;
      has = record { frames = a.has.frames; stand = a.has.stand; all = a.has.all; at_gate = at; within = subst (λ n. n ≤ LOG_END) (a.has.at_gate ∙ sym at) a.has.within };
      formed = a.formed;
      inside = e.1;
    }

-- an analysis fails only where a log isn't read
pub analysis_fails : (told : Bool) (s : Super) (area : Area) (old new : View) → area ≡ area_of s → (e : AnalysisFault) → AnalysisFails told area s.base old new e → LogFails told s old new (of_analysis area e)
analysis_fails told s area old new there causes.Disk fails = fails
analysis_fails told s area old new there (causes.Damaged at) fails = (there, λ sure. inl (fails sure))
analysis_fails told s area old new there causes.Memory fails = tt

-- and so does the search for its end
pub end_fails : (told : Bool) (s : Super) (area : Area) (old mid new : View) → area ≡ area_of s → OnlyReads told old mid → mid.faults ≡ old.faults → (IsTrue told → (a : code.Analysis) × IsAnalysed (old.now area).seen s.base a) → (e : InspectFault) → EndFails told s area mid new e → LogFails told s old new e
end_fails told s area old mid new there reads quiet analysed Disk fails = subst (λ n. HasRisen n new.faults) quiet fails
end_fails told s area old mid new there reads quiet analysed Sink fails = fails
end_fails told s area old mid new there reads quiet analysed NotAStore fails = fails
end_fails told s area old mid new there reads quiet analysed (Damaged a at) fails = (
  fails.0 ∙ there,
  λ sure.
      let x = (analysed sure).1 in
      let seen = λ (b : Area). ap (λ (t : State). (t b).seen) (reads.unchanged sure) in
      let has : HasFrames (old.now area).seen s.base x.has.frames = frames_of x.has in
      let out = fails.1 sure x.has.frames (subst (λ (f : Bytes). HasFrames f s.base x.has.frames) (sym (seen area)) has) in
      inr (record { frames = x.has.frames; has = subst (λ (b : Area). HasFrames (old.now b).seen s.base x.has.frames) (sym fails.0) has; outside = out }),
)
end_fails told s area old mid new there reads quiet analysed Memory fails = tt

-- a formed log is no damage to an analysis
pub analysis_sound : (area : Area) (e : AnalysisFault) → ((at : ℕ) → e ≡ causes.Damaged at → ⊥) → IsNotOfStore (of_analysis area e)
analysis_sound area causes.Disk sound = tt
analysis_sound area (causes.Damaged at) sound = sound at refl
analysis_sound area causes.Memory sound = tt

-- nor to the search for its end
pub end_sound : (told : Bool) (s : Super) (area : Area) (old new : View) (e : InspectFault) → EndFails told s area old new e → IsTrue told → (frames : List (List Record)) → HasFrames (old.now area).seen s.base frames → first_outside s.pages s.bands 0 frames ≡ None → IsNotOfStore e
end_sound told s area old new Disk fails sure frames has inside = tt
end_sound told s area old new Sink fails sure frames has inside = tt
end_sound told s area old new NotAStore fails sure frames has inside = fails
end_sound told s area old new (Damaged a at) fails sure frames has inside = let out = fails.1 sure frames has in absurd cc
end_sound told s area old new Memory fails sure frames has inside = tt

-- what follows where a call answers
pub on_ok : {T E P Q : Type 0} (r : Result T E) → OnOk r P → (P → Q) → OnOk r Q
on_ok (Ok x) p f = f p
on_ok (Err e) p f = tt

pub on_err : {T E P Q : Type 0} (r : Result T E) → OnErr r P → (P → Q) → OnErr r Q
on_err (Ok x) p f = tt
on_err (Err e) p f = f p

-- a heading and then the lines of a log are its listing
pub listing_taken : {s : State} {super : Super} {gate : ℕ} (log : IsLogRead s super gate) (had mid has : Option (List ℕ)) → Takes had (heading super gate) mid → Takes mid (lines_of (numbered_in super.base log.has.frames)) has → Takes had (listing super gate log.records) has
listing_taken {super = super} {gate = gate} log had mid has first second =
    takes_more had mid has (heading super gate) (lines_of log.records) first (subst (λ (ns : List Numbered). Takes mid (lines_of ns) has) log.has.all second)

pub listing_cut : {s : State} {super : Super} {gate : ℕ} (log : IsLogRead s super gate) (had mid has : Option (List ℕ)) → Takes had (heading super gate) mid → TakesFront mid (lines_of (numbered_in super.base log.has.frames)) has → TakesFront had (listing super gate log.records) has
listing_cut {super = super} {gate = gate} log had mid has first second =
    takes_cut had mid has (heading super gate) (lines_of log.records) first (subst (λ (ns : List Numbered). TakesFront mid (lines_of ns) has) log.has.all second)

pub heading_cut : {s : State} {super : Super} {gate : ℕ} (log : IsLogRead s super gate) (had has : Option (List ℕ)) → TakesFront had (heading super gate) has → TakesFront had (listing super gate log.records) has
heading_cut {super = super} {gate = gate} log had has cut = front_of_more had has (heading super gate) (lines_of log.records) cut

-- what was read of a state is what there is in one that is equal
pub listed : {s t : State} {super : Super} {gate : ℕ} (log : IsLogRead t super gate) (had has : Option (List ℕ)) → t ≡ s → Takes had (listing super gate log.records) has → (x : HasLog s) × Takes had (listing x.super x.gate x.log.records) has
listed {super = super} {gate = gate} log had has same taken =
    subst (λ (st : State). (x : HasLog st) × Takes had (listing x.super x.gate x.log.records) has) same (record { super = super; gate = gate; log = log }, taken)

pub cut_listing : {s t : State} {super : Super} {gate : ℕ} (log : IsLogRead t super gate) (had has : Option (List ℕ)) → t ≡ s → TakesFront had (listing super gate log.records) has → CutsListing s had has
cut_listing {super = super} {gate = gate} log had has same cut =
    subst (λ (st : State). CutsListing st had has) same (inr (record { super = super; gate = gate; log = log }, cut))

-- what is said of a formed log, of an equal state and superblock
pub of_formed : {Q : Type 0} (old now : State) (s super : Super) → now ≡ old → s ≡ super
    → ((gate : ℕ) (ns : List Numbered) (has : HasRecords (now (area_of s)).seen s.base gate ns) → IsPageLog s.base ns → first_outside s.pages s.bands 0 has.frames ≡ None → Q)
    → (gate : ℕ) (ns : List Numbered) (has : HasRecords (old (area_of super)).seen super.base gate ns) → IsPageLog super.base ns → first_outside super.pages super.bands 0 has.frames ≡ None → Q
of_formed {Q = Q} old now s super same one said =
    let here = subst (λ (st : State). (gate : ℕ) (ns : List Numbered) (has : HasRecords (st (area_of s)).seen s.base gate ns) → IsPageLog s.base ns → first_outside s.pages s.bands 0 has.frames ≡ None → Q) same said in
    subst (λ (x : Super). (gate : ℕ) (ns : List Numbered) (has : HasRecords (old (area_of x)).seen x.base gate ns) → IsPageLog x.base ns → first_outside x.pages x.bands 0 has.frames ≡ None → Q) one here

-- a read of the superblock only reads
pub gate_reads : {told : Bool} {v w : View} → gate.OnlyReads told v w → OnlyReads told v w
gate_reads h = record { unchanged = h.unchanged; any_moment = h.any_moment; handed = h.handed; later = h.later }

-- the superblock that was read is the one that is there
pub super_read : (s : Super) (f : Bytes) → (◌≡◌ {A = Result Super GateFault} (Ok s) (superblock f)) ⊎ (◌≡◌ {A = Result Super GateFault} (Ok s) (Err gates.Disk)) → superblock f ≡ Ok s
super_read s f (inl same) = sym same
super_read s f (inr other) = absurd (cc)

pub super_one : (s super : Super) (f : Bytes) → superblock f ≡ Ok s → superblock f ≡ Ok super → s ≡ super
super_one s super f one other = cc
