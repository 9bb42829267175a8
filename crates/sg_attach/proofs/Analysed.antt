-- What an analysis says of a log, in the words of the engine under the actions.
use Rattle.std.proofs.Common.{◌≡◌, ◌+◌, ◌<◌, ◌≤◌, ℕ, max, Bool, true, false, List, [], ◌∷◌, length, Option, Some, None, sym, ap, ◌∙◌, subst, arith}
use Rattle.std.specs.Prelude.{if◌then◌else◌, ◌==◌, option_map}
use Rattle.sg_disk.specs.Disk.{Image, View}
use Rattle.sg_gate.specs.declared.superblock.Super.{Super}
use Rattle.sg_log.specs.Frames.{Numbered, HasRecords}
use Rattle.sg_log.specs.Held.{Tail, tail_of, Holds}
use Rattle.sg_log.proofs.Cutting.{gate_from}
use Rattle.sg_ops.specs.Table.{Table}
use Rattle.sg_pool.specs.declared.pool.Pool.{Pool}
use Rattle.sg_recovery.specs.Chains.{next_lsn}
use Rattle.sg_recovery.specs.Formed.{IsLog}
use Rattle.sg_analysis.specs.Analysis.{Analysis, losers_of}
use Rattle.sg_analysis.specs.Shown.{IsAnalysed}
use Rattle.sg_analysis.specs.Sights as sights
use Rattle.sg_analysis.specs.declared.analysis.Analysis as code
use Rattle.sg_engine.specs.Engine.{Origin, log_area}
use Rattle.sg_engine.specs.Numbers.{AllUnder}
use Rattle.sg_engine.specs.Running.{IsEngine}
use Rattle.sg_find.specs.Synced as synced
use Rattle.sg_open.specs.Refusals.{IsAccepted}
use Rattle.sg_opening.proofs.Asked.{frames_under, record_number}
use Rattle.sg_actions.specs.Steps.{Step, Steps, step_of, with_step}
use Rattle.sg_phys_laws.specs.Recovers.{origin_of, records_in, super_in, super_of}
use Rattle.sg_phys_laws.specs.States.{steps_on, steps_of}
use Rattle.sg_phys_laws.proofs.Recovered.{records_held}
use Rattle.sg_phys_laws.proofs.Sighted.{steps_same}
use Rattle.sg_attach.specs.Attached.{unfinished_of}

-- an image that is accepted has this superblock
pub accepted_super : (t : Table) (c : Image) (s : Super) → IsAccepted t c s → super_in c ≡ s
accepted_super t c s a = ap super_of a.0.counts ∙ a.1

-- WHAT IS KNOWN OF THE LOG of an image that was analysed
module _ (t : Table) (c : Image) (s : Super) (a : code.Analysis) (accepted : IsAccepted t c s) (is : IsAnalysed (c (synced.log_area s)) s.base a) where
  abbrev o : Origin
  o = origin_of t c

  abbrev rs : Steps
  rs = steps_of (records_in o c)

  same : o.super ≡ s
  same = accepted_super t c s accepted

  found : records_in o c ≡ is.records
  found = records_held o c is.gate is.records (subst (λ (u : Super). HasRecords (c (log_area u)) u.base is.gate is.records) (sym same) is.has)

  are_steps : sights.steps_of is.records ≡ rs
  are_steps = steps_same [] is.records ∙ ap steps_of (sym found)

  pub log_formed : IsLog o.super.base rs
  log_formed = subst (λ (u : Super). IsLog u.base rs) (sym same) (subst (IsLog s.base) are_steps is.formed.steps)

  pub log_losers : a.losers ≡ losers_of rs
  log_losers = ap (λ (x : Analysis). x.losers) is.says ∙ ap losers_of are_steps

  pub log_last : a.last_checkpoint ≡ option_map (λ k. k.0) (sights.last_checkpoint (records_in o c))
  log_last = ap (λ (x : Analysis). x.last_checkpoint) is.says ∙ ap (λ (l : List Numbered). option_map (λ k. k.0) (sights.last_checkpoint l)) (sym found)

  pub log_unfinished : option_map (λ p. (p.0.0, p.1)) a.unfinished ≡ unfinished_of rs
  log_unfinished = ap (λ (x : Analysis). x.unfinished) is.says ∙ ap unfinished_of are_steps

-- the steps of records below a number are below it
one_under : (d : ℕ) (rs : Steps) (lsn : ℕ) (x : Option Step) → lsn < d → next_lsn rs ≤ max d 1 → next_lsn (with_step rs lsn x) ≤ max d 1
one_under d rs lsn None lt le = le
one_under d rs lsn (Some x) lt le = omega arith

steps_under : (d : ℕ) (rs : Steps) (ns : List Numbered) → AllUnder record_number d ns → next_lsn rs ≤ max d 1 → next_lsn (steps_on rs ns) ≤ max d 1
steps_under d rs [] under le = le
steps_under d rs (n ∷ ns) under le = steps_under d (with_step rs n.lsn (step_of n.is)) ns under.1 (one_under d rs n.lsn (step_of n.is) under.0 le)

behind_gate : (v : View) (log : Tail) (ns : List Numbered) → Holds v log ns [] → AllUnder record_number log.gate ns
behind_gate v log ns h = subst (AllUnder record_number log.gate) h.all (frames_under log.base log.gate h.frames (let e = gate_from log.base h.frames in let g = h.at_gate in omega (arith, e, g)))

gate_tail : (log : Tail) → log.gate ≤ tail_of log
gate_tail log = by (length log.buffer == 0)
  where
    by : (b : Bool) → log.gate ≤ (if b then log.gate else log.gate + 5 + length log.buffer)
    by true = omega arith
    by false = omega arith

-- A LOG THAT IS ALL ON THE DISK ends below its tail
pub log_below : (o : Origin) (w : View) (log : Tail) (ns : List Numbered) (pool : Pool) → IsEngine o w log ns [] pool → next_lsn (steps_of ns) ≤ max (tail_of log) 1
log_below o w log ns pool e =
    let low = steps_under log.gate [] ns (behind_gate w log ns e.engine.held) (omega arith) in
    let more = gate_tail log in
    omega (arith, low, more)
