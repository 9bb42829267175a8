-- What a call says of what the engine shows.
use Rattle.std.proofs.Common.{◌≡◌, inl, inr, ⊎_elim, ◌<◌, ◌≤◌, ◌+◌, ℕ, Bool, true, false, List, [], ◌∷◌, ◌++◌, length, Option, None, refl, sym, ap, ◌∙◌, subst, arith}
use Rattle.std.specs.Prelude.{Result, Ok, Err, option_map}
use mathlib.Core.Logic.{∥∥₁_elim, ∥∥₁_prop}
use Rattle.sg_base.specs.Ends.{HasRisen}
use Rattle.sg_disk.specs.Accounts.{Accounts}
use Rattle.sg_disk.specs.Disk.{View, LeavesOnly}
use Rattle.sg_disk.specs.Heeds.{Heeds}
use Rattle.sg_disk.proofs.Moments.{weaker}
use Rattle.sg_log.specs.Frames.{Numbered, LOG_END}
use Rattle.sg_log.specs.Held.{Tail, tail_of}
use Rattle.sg_ops.specs.Table.{Table}
use Rattle.sg_pool.specs.Units.{Geometry}
use Rattle.sg_pool.specs.declared.pool.Pool.{Pool}
use Rattle.sg_record.specs.Records.{Record, Says, spelled}
use Rattle.sg_record.specs.Records.Says.{Begin, Changed, TopEnd, PhysComp, TopVoid, CompEnd, Save, Commit, End, Checkpoint}
use Rattle.sg_recovery.specs.Formed.{IsLog}
use Rattle.sg_redo.specs.Places.{changed_by}
use Rattle.sg_space.specs.declared.space.SpaceFault.{SpaceFault}
use Rattle.sg_space.specs.declared.space.SpaceFault.TheVariants as space
use Rattle.sg_action.specs.States.{State}
use Rattle.sg_engine.specs.Effects.{IsBy}
use Rattle.sg_engine.specs.Engine.{Origin}
use Rattle.sg_engine.specs.Faults.{is_disk}
use Rattle.sg_engine.specs.Running.{IsEngine, IsAllowed}
use Rattle.sg_engine.specs.declared.fault.EngineFault.{EngineFault}
use Rattle.sg_engine.specs.declared.fault.EngineFault.TheVariants as engine
use Rattle.sg_actions.specs.Engine.{Extent, EngineCounts, EngineRests, EngineGrows, EngineLooks, Logs, Moments, IsForced, Keeps, led}
use Rattle.sg_actions.specs.Handing.{makes_change, HandsOver}
use Rattle.sg_actions.specs.Images.{Grows, IsImageOf}
use Rattle.sg_actions.specs.Steps.{Step, Steps, step_of, with_step, repeated}
use Rattle.sg_analysis.specs.Sights.{last_checkpoint}
use Rattle.sg_recovery.specs.Log.{tally}
use Rattle.sg_phys_laws.specs.Counted.{HasCounted}
use Rattle.sg_phys_laws.specs.Faults.{space_fault, is_log_end}
use Rattle.sg_phys_laws.specs.Logged.{HasLogged, HasRun, HasRested, Stood, at_number, is_no_step}
use Rattle.sg_phys_laws.specs.Points.{IsMarked, IsLatest}
use Rattle.sg_phys_laws.specs.Reading.{durable_in, waiting_in}
use Rattle.sg_phys_laws.specs.Recovers.{super_in, Recovers, RecoversBy}
use Rattle.sg_phys_laws.specs.States.{steps_of}
use Rattle.sg_phys_laws.specs.Whole.{IsWholeImageOf}
use Rattle.sg_phys_laws.proofs.Fronting.{one_more}
use Rattle.sg_phys_laws.proofs.Poised.{all_in_log, Behind, behind_rest, behind_record, marked_plain, rest_images, record_images, none_stood, forced_all}
use Rattle.sg_phys_laws.proofs.Fore.{with_behind}
use Rattle.sg_phys_laws.proofs.Recovered.{grows_fix, image_fix, image_more, leaves_fix}
use Rattle.sg_phys_laws.proofs.Sets.{steps_set, tally_set}
use Rattle.sg_phys_laws.proofs.Stepping.{steps_more}
use Rattle.sg_phys.specs.Phys.{Parts, Past, IsBehind, Stands, StandsBy, StandsForSome, Tells, looked, appended, broken, stopped, seen_by, seen_of, origin_at}
use Rattle.sg_phys.proofs.Behind.{grows_behind, says_more, image_behind, formed_here}
use Rattle.sg_phys.proofs.Images.{by_past, image_by}
use Rattle.sg_phys.proofs.Lasts.{last_plain}

not_both : {P : Type 0} (b : Bool) → b ≡ true → b ≡ false → P
not_both b t f = absurd cc

not_true : {P : Type 0} → true ≡ false → P
not_true e = absurd cc

end_by : (x : EngineFault) → space_fault x ≡ space.LogEnd → x ≡ engine.LogEnd
end_by engine.Disk e = absurd cc
end_by engine.LogEnd e = refl

disk_by : (x : EngineFault) → space_fault x ≡ space.Disk → x ≡ engine.Disk
disk_by engine.Disk e = refl
disk_by engine.LogEnd e = absurd cc

-- a record that makes no change
pub no_change : (s : Says) → makes_change s ≡ false → changed_by s ≡ None
no_change Begin e = refl
no_change (Changed c) e = absurd cc
no_change (TopEnd u note) e = refl
no_change (PhysComp u c) e = absurd cc
no_change (TopVoid u) e = refl
no_change (CompEnd u) e = refl
no_change (Save mark) e = refl
no_change Commit e = refl
no_change End e = refl
no_change (Checkpoint estimate live) e = refl

-- one that fails before it calls the disk hands nothing over
pub hands_none : {T E : Type 0} (size handed waits waits' : ℕ) (e : E) → HandsOver {T = T} size handed waits handed waits' (Err e)
hands_none size handed waits waits' e = record { most = omega arith; all = tt }

-- a call that didn't fail wasn't refused for the log's end
pub not_full : (full failed : Bool) → (full ≡ true → failed ≡ true) → failed ≡ false → full ≡ false
not_full true failed ended whole = not_both failed (ended refl) whole
not_full false failed ended whole = refl

-- what a fault counts
heeds_fault : (S : Type 0) (v w : View) (x : EngineFault) → Heeds {T = S} is_disk (Err x) v w → (space_fault x ≡ space.Disk → ⊥) → w.faults ≡ v.faults
heeds_fault S v w engine.Disk h not = absurd (not refl)
heeds_fault S v w engine.LogEnd h not = h

-- WHAT EACH CALL KEEPS, on any engine
module _ (Given : Type 0) (p : Parts) (w : View) (log : Tail) (pool : Pool) where
  extent_kept : {S : Type 0} {r : Result S EngineFault} → HasCounted p.disk w p.log log p.pool pool r → (seen_by Given (record p { pool = pool })).extent ≡ (seen_by Given p).extent
  extent_kept h = ap (λ (g : Geometry). let x : Extent = record { pages = g.pages; bands = g.bands } in x) h.size

  accounts_ok : {S T : Type 0} (x : T) (y : S) (gate : ℕ) → p.gate ≡ p.log.gate → gate ≡ log.gate → HasCounted p.disk w p.log log p.pool pool (Ok y) → Accounts {E = SpaceFault} (λ e. e ≡ space.Disk) (Tells Given p.failed) p.disk w p.gate gate (Ok x)
  accounts_ok x y gate before after h = record {
    later = h.later;
    heeded = h.heeded;
    caused = tt;
    handed = h.hands.rising;
    shown = ⊎_elim (λ full. inl full) (λ by. inr (omega (arith, by, before, after))) h.hands.grown;
  }

  counts_ok : {S T : Type 0} (x : T) (y : S) (end gate tried records : ℕ) → p.gate ≡ p.log.gate → gate ≡ log.gate → HasCounted p.disk w p.log log p.pool pool (Ok y) → p.failed ≡ false → p.end ≤ end
      → EngineCounts (seen_by Given p) (seen_by Given (appended p w log pool end gate tried records)) (Ok x)
  counts_ok x y end gate tried records before after h whole later = record {
    told = λ s. s;
    tells = λ s. s;
    base = refl;
    extent = extent_kept h;
    later = omega arith;
    quiet = refl;
    disk = tt;
    accounts = accounts_ok x y gate before after h;
    log_end = tt;
    tail = later;
    failed = tt;
    stops = λ is. not_both p.failed is whole;
    first = λ is. refl;
    full = refl;
    for_disk = tt;
    for_end = tt;
  }

  pub rests_ok : {S T : Type 0} (x : T) (y : S) (end gate : ℕ) → p.gate ≡ p.log.gate → gate ≡ log.gate → HasCounted p.disk w p.log log p.pool pool (Ok y) → p.failed ≡ false → end ≡ p.end → EngineRests (seen_by Given p) (seen_by Given (looked p w log pool end gate)) (Ok x)
  rests_ok x y end gate before after h whole same = record { counts = counts_ok x y end gate p.tried p.records before after h whole (omega (arith, same)); only_disk = tt; records = refl; tail = same }

  pub grows_ok : {S : Type 0} (y : S) (r : Record) (m end gate lsn n : ℕ) → p.gate ≡ p.log.gate → gate ≡ log.gate → HasCounted p.disk w p.log log p.pool pool (Ok y) → p.failed ≡ false → m ≡ lsn → p.end ≤ lsn → lsn < end → end ≤ p.end + (5 + length (spelled r)) → n ≡ p.records + 1 → lsn + length (spelled r) ≤ LOG_END
      → EngineGrows (seen_by Given p) (seen_by Given (appended p w log pool end gate lsn n)) r (Ok m)
  grows_ok y r m end gate lsn n before after h whole number above below grown counted within = record {
    counts = counts_ok m y end gate lsn n before after h whole (omega (arith, above, below));
    few = omega (arith, counted);
    counted = counted;
    same = tt;
    back = tt;
    grown = grown;
    placed = record { above = omega (arith, above, number); below = omega (arith, below, number); tried = number };
    within = within;
    past = tt;
  }

  counts_fault : {S T : Type 0} (fault : EngineFault) (tried b : ℕ) (f : Bool) → p.failed ≡ false → p.breaks ≤ b → HasRisen p.breaks b → (fault ≡ engine.LogEnd → LOG_END < p.end + 131072) → (space_fault fault ≡ space.Disk → f ≡ p.full) → (space_fault fault ≡ space.LogEnd → f ≡ true)
      → HasCounted {T = S} p.disk w p.log log p.pool pool (Err fault) → (fault ≡ engine.Disk → Tells Given p.failed → HasRisen p.disk.faults w.faults)
      → EngineCounts {T = T} (seen_by Given p) (seen_by Given (broken p w log pool tried b f)) (Err (space_fault fault))
  counts_fault {S} {T} fault tried b f whole later risen near for_disk for_end h caused = record {
    told = λ s. not_true s.whole;
    tells = tt;
    base = refl;
    extent = extent_kept h;
    later = later;
    quiet = tt;
    disk = λ e. risen;
    accounts = record { later = h.later; heeded = heeds_fault S p.disk w fault h.heeded; caused = λ e tell. caused (disk_by fault e) tell; handed = h.hands.rising; shown = inr (let up = h.hands.rising in omega (arith, up)) };
    log_end = λ e. near (end_by fault e);
    tail = omega arith;
    failed = refl;
    stops = λ is. not_both p.failed is whole;
    first = λ is. not_both p.failed is whole;
    full = tt;
    for_disk = for_disk;
    for_end = for_end;
  }

  no_end : {P : Type 0} → engine.Disk ≡ engine.LogEnd → P
  no_end e = absurd cc

  no_end_of_space : {P : Type 0} → space.Disk ≡ space.LogEnd → P
  no_end_of_space e = absurd cc

  pub rests_err : {S T : Type 0} (b : ℕ) → p.failed ≡ false → p.breaks ≤ b → HasRisen p.breaks b → HasCounted {T = S} p.disk w p.log log p.pool pool (Err engine.Disk) → (Tells Given p.failed → HasRisen p.disk.faults w.faults)
      → EngineRests {T = T} (seen_by Given p) (seen_by Given (broken p w log pool p.tried b p.full)) (Err space.Disk)
  rests_err b whole later risen h caused = record { counts = counts_fault engine.Disk p.tried b p.full whole later risen (λ e. no_end e) (λ e. refl) (λ e. no_end_of_space e) h (λ e. caused); only_disk = refl; records = refl; tail = refl }

  pub grows_err : {S : Type 0} (r : Record) (fault : EngineFault) (said : SpaceFault) (lsn b : ℕ) (f : Bool) → said ≡ space_fault fault → f ≡ is_log_end fault → p.full ≡ false → p.failed ≡ false → p.breaks ≤ b → HasRisen p.breaks b → (fault ≡ engine.LogEnd → LOG_END < p.end + 131072)
      → (fault ≡ engine.LogEnd → LOG_END < lsn + length (spelled r)) → HasCounted {T = S} p.disk w p.log log p.pool pool (Err fault) → (fault ≡ engine.Disk → Tells Given p.failed → HasRisen p.disk.faults w.faults)
      → EngineGrows (seen_by Given p) (seen_by Given (broken p w log pool lsn b f)) r (Err said)
  grows_err r fault said lsn b f is full_is full whole later risen near past h caused = subst (λ (e : SpaceFault). EngineGrows (seen_by Given p) (seen_by Given (broken p w log pool lsn b f)) r (Err e)) (sym is)
      (record {
        counts = counts_fault fault lsn b f whole later risen near (λ e. full_is ∙ (ap is_log_end (disk_by fault e) ∙ sym full)) (λ e. full_is ∙ ap is_log_end (end_by fault e)) h caused;
        few = omega arith;
        counted = tt;
        same = refl;
        back = refl;
        grown = omega arith;
        placed = tt;
        within = tt;
        past = λ e. past (end_by fault e);
      })

-- one that makes no call of the disk
module _ (Given : Type 0) (p : Parts) (b : ℕ) (is : p.failed ≡ true) (later : p.breaks ≤ b) (risen : HasRisen p.breaks b) where
  counts_stopped : {T : Type 0} → EngineCounts {T = T} (seen_by Given p) (seen_by Given (stopped p b)) (Err space.Disk)
  counts_stopped = record {
    told = λ s. s;
    tells = tt;
    base = refl;
    extent = refl;
    later = later;
    quiet = tt;
    disk = λ e. risen;
    accounts = record { later = omega arith; heeded = λ not. absurd (not refl); caused = λ e tell. not_both p.failed is tell.whole; handed = omega arith; shown = inr (omega arith) };
    log_end = λ e. absurd cc;
    tail = omega arith;
    failed = is;
    stops = λ f. (is, refl);
    first = λ f. refl;
    full = tt;
    for_disk = λ e. refl;
    for_end = λ e. absurd cc;
  }

  pub rests_stopped : {T : Type 0} → EngineRests {T = T} (seen_by Given p) (seen_by Given (stopped p b)) (Err space.Disk)
  rests_stopped = record { counts = counts_stopped; only_disk = refl; records = refl; tail = refl }

  pub grows_stopped : (r : Record) → EngineGrows (seen_by Given p) (seen_by Given (stopped p b)) r (Err space.Disk)
  grows_stopped r = record { counts = counts_stopped; few = omega arith; counted = tt; same = refl; back = refl; grown = omega arith; placed = tt; within = tt; past = λ e. absurd cc }

  pub looks_stopped : {T : Type 0} (t : Table) (from : State) → EngineLooks {T = T} (RecoversBy t) t (led from (seen_by Given p)) (led from (seen_by Given (stopped p b))) (Err space.Disk)
  looks_stopped t from = record { stays = tt; moments = λ s. not_both p.failed is s.whole }

  pub logs_stopped : (r : Record) (t : Table) (from : State) → Logs (RecoversBy t) t (led from (seen_by Given p)) (led from (seen_by Given (stopped p b))) r (Err space.Disk)
  logs_stopped r t from = record { did = tt; above = λ s. not_both p.failed is s.whole; moments = λ s. not_both p.failed is s.whole }

-- WHAT THE ENGINE BELOW DID: it answered, with the same records as before,
abbrev pub HasLooked : (Given : Type 0) → Parts → View → Tail → Pool → Type 0
HasLooked Given p w log pool = (o : Origin) → Given → IsEngine o p.disk p.log (durable_in p.disk p.log) (waiting_in p.log) p.pool → HasRested o p.disk w p.log log p.pool pool (durable_in p.disk p.log) (all_in_log p.disk p.log)

-- and each image of each moment of it stands
abbrev pub HasStood : (Given : Type 0) → Parts → View → Type 0
HasStood Given p w = (o : Origin) → Given → IsEngine o p.disk p.log (durable_in p.disk p.log) (waiting_in p.log) p.pool → Stood o p.disk w p.log p.pool (durable_in p.disk p.log) (all_in_log p.disk p.log)

-- no call was made
pub none_made : (Given : Type 0) (p : Parts) → HasStood Given p p.disk
none_made Given p o tells e = none_stood o p.disk p.log (durable_in p.disk p.log) (waiting_in p.log) p.pool e

-- it ran for a record of this number,
abbrev pub HasRunFor : (Given : Type 0) → Parts → View → Tail → Pool → Record → ℕ → Result ℕ EngineFault → Table → State → Type 0
HasRunFor Given p w log pool r lsn result t from = Given → IsBehind t from p.past p.disk p.log p.pool
    → HasRun t (origin_at t p.past) p.disk w p.log log p.pool pool (durable_in p.disk p.log) (all_in_log p.disk p.log) r lsn result

-- and logged it
abbrev pub HasLoggedIt : (Given : Type 0) → Parts → View → Tail → Pool → Record → ℕ → Table → State → Type 0
HasLoggedIt Given p w log pool r lsn t from = Given → IsBehind t from p.past p.disk p.log p.pool
    → HasLogged t (origin_at t p.past) w log (durable_in p.disk p.log) (all_in_log p.disk p.log) r lsn pool

module _ (Given : Type 0) (p : Parts) (w : View) (log : Tail) (pool : Pool) (t : Table) (from : State) (m : StandsBy Given p t from) where
  abbrev o : Origin
  o = origin_at t p.past

  abbrev gone : Steps
  gone = steps_of p.past.gone

  -- what the log that it has leads from
  abbrev from' : State
  from' = repeated t from gone

  abbrev ds : List Numbered
  ds = durable_in p.disk p.log

  abbrev all : List Numbered
  all = all_in_log p.disk p.log

  abbrev is_by : IsBy t o
  is_by = by_past t p.past

  -- it stands for the same still, with this last checkpoint,
  pub behind_then : (k : Option ℕ) (ns : List Numbered) → k ≡ option_map (λ c. c.0) (last_checkpoint ns) → IsBehind t from p.past p.disk p.log p.pool → Behind t from' o p.disk w p.log log pool ns → IsBehind t from (record p.past { checkpoint = k }) w log pool
  behind_then k ns last q h = record {
    poised = h.poised;
    says = says_more gone (steps_of ds) (steps_of (durable_in w log)) h.durable q.says;
    below = q.below;
    within = q.within;
    later = q.later;
    last = last ∙ ap (λ (l : List Numbered). option_map (λ c. c.0) (last_checkpoint l)) (sym h.whole);
  }

  stands_behind : (k : Option ℕ) (ns : List Numbered) → (Given → IsBehind t from p.past p.disk p.log p.pool → k ≡ option_map (λ c. c.0) (last_checkpoint ns))
      → (Given → IsBehind t from p.past p.disk p.log p.pool → Behind t from' o p.disk w p.log log pool ns) → Stands Given p.failed (record p.past { checkpoint = k }) w log pool t from
  stands_behind k ns last does = record { lawful = m.lawful; known = ∥∥₁_elim m.known ∥∥₁_prop (λ x. ∣ (λ whole tells. let q = x whole tells in behind_then k ns (last tells q) q (does tells q)) ∣₁) }

  -- also where it has failed
  pub keeps_broken : Stands Given true p.past w log pool t from
  keeps_broken = record { lawful = m.lawful; known = ∣ (λ e. not_true e) ∣₁ }

  rested : HasLooked Given p w log pool → Given → IsBehind t from p.past p.disk p.log p.pool → Behind t from' o p.disk w p.log log pool all
  rested did tells q = behind_rest t from' o p.disk w p.log log p.pool pool is_by q.poised (did o tells q.poised.now.engine)

  pub keeps_look : HasLooked Given p w log pool → Stands Given p.failed p.past w log pool t from
  keeps_look did = stands_behind p.past.checkpoint all (λ tells q. q.last) (rested did)

  -- what the log that it has says, where it tells
  says_here : Tells Given p.failed → tally (steps_of ds) ≡ tally (steps_of ds ++ gone)
  says_here tell = ∥∥₁_elim m.known (tally_set (tally (steps_of ds)) (tally (steps_of ds ++ gone))) (λ k. (k tell.whole tell.tells).says)

  -- its images, as those of the log with what is gone
  images_here : (q : Parts) (log' : Steps) → q.disk ≡ w → Tells Given p.failed → (Given → IsBehind t from p.past p.disk p.log p.pool → LeavesOnly p.disk w (IsWholeImageOf (Recovers t o) t from' (steps_of ds) log'))
      → Moments (RecoversBy t) t (led from (seen_by Given p)) (led from (seen_by Given q)) (log' ++ gone)
  images_here q log' is tell run = subst (λ (v : View). LeavesOnly p.disk v (IsImageOf (RecoversBy t) t from (steps_of ds ++ gone) (log' ++ gone))) (sym is)
      (weaker
      (leaves_fix p.disk w (IsWholeImageOf (Recovers t o) t from' (steps_of ds) log') (image_fix o t from' (steps_of ds) log')
      (∥∥₁_elim m.known ∥∥₁_prop (λ k. ∣ run tell.tells (k tell.whole tell.tells) ∣₁)))
      (λ c image. image_behind t from gone (steps_of ds) log' c (says_here tell) (image_by t o from' (steps_of ds) log' c is_by image)))

  -- the images of a look
  look_moments : (q : Parts) → q.disk ≡ w → HasStood Given p w → Tells Given p.failed → Moments (RecoversBy t) t (led from (seen_by Given p)) (led from (seen_by Given q)) (steps_of all ++ gone)
  look_moments q is stood tell = images_here q (steps_of all) is tell (λ tells b. rest_images t from' o p.disk w p.log p.pool is_by b.poised (stood o tells b.poised.now.engine))

  -- what is behind a call, by its records
  steps_then' : (xs ys : Steps) → xs ≡ ys → xs ++ gone ≡ ys ++ gone
  steps_then' xs ys e = ap (λ (l : Steps). l ++ gone) e

  durable_by : (ns : List Numbered) → (Given → IsBehind t from p.past p.disk p.log p.pool → Behind t from' o p.disk w p.log log pool ns) → Tells Given p.failed → Grows (steps_of ds ++ gone) (steps_of (durable_in w log) ++ gone)
  durable_by ns does s = grows_behind gone (steps_of ds) (steps_of (durable_in w log)) (grows_fix (steps_of ds) (steps_of (durable_in w log)) (∥∥₁_elim m.known ∥∥₁_prop (λ k. ∣ (does s.tells (k s.whole s.tells)).durable ∣₁)))

  -- A LOOK THAT ANSWERS
  pub looks_ok : {T : Type 0} (x : T) (end gate : ℕ) → HasLooked Given p w log pool → HasStood Given p w → EngineLooks (RecoversBy t) t (led from (seen_by Given p)) (led from (seen_by Given (looked p w log pool end gate))) (Ok x)
  looks_ok x end gate did stood = record {
    stays = λ s. record {
      steps = steps_then' (steps_of (all_in_log w log)) (steps_of all) (∥∥₁_elim m.known (steps_set (steps_of (all_in_log w log)) (steps_of all)) (λ k. (rested did s.tells (k s.whole s.tells)).steps));
      durable = durable_by all (rested did) s;
    };
    moments = look_moments (looked p w log pool end gate) refl stood;
  }

  -- and one that fails
  pub looks_err : {T : Type 0} (b : ℕ) → HasStood Given p w → EngineLooks {T = T} (RecoversBy t) t (led from (seen_by Given p)) (led from (seen_by Given (broken p w log pool p.tried b p.full))) (Err space.Disk)
  looks_err b stood = record { stays = tt; moments = look_moments (broken p w log pool p.tried b p.full) refl stood }

  -- A CALL FOR A RECORD
  module _ (r : Record) (lsn : ℕ) where
    abbrev more : List Numbered
    more = all ++ at_number lsn r ∷ []

    module _ (mark : Given → IsBehind t from p.past p.disk p.log p.pool → IsMarked (IsLatest (IsAllowed o p.disk p.log p.pool) (tail_of p.log)) lsn r.says)
        (formed : Given → IsBehind t from p.past p.disk p.log p.pool → ∥ IsLog o.super.base (with_step (steps_of all) lsn (step_of r)) ∥₁)
        (last : Given → IsBehind t from p.past p.disk p.log p.pool → p.past.checkpoint ≡ option_map (λ c. c.0) (last_checkpoint more)) where
      record_moments : (q : Parts) (result : Result ℕ EngineFault) → q.disk ≡ w → HasRunFor Given p w log pool r lsn result t from → Tells Given p.failed
          → Moments (RecoversBy t) t (led from (seen_by Given p)) (led from (seen_by Given q)) (with_step (steps_of all ++ gone) lsn (step_of r))
      record_moments q result is run tell =
          subst (λ (rs : Steps). Moments (RecoversBy t) t (led from (seen_by Given p)) (led from (seen_by Given q)) rs) (sym (with_behind (steps_of all) gone lsn (step_of r)))
          (images_here q (with_step (steps_of all) lsn (step_of r)) is tell
          (λ tells b. record_images t from' o p.disk w p.log log p.pool pool r lsn result is_by b.poised (mark tells b) (formed tells b) (run tells b)))

      -- that is appended,
      module _ (m' : ℕ) (run : HasRunFor Given p w log pool r lsn (Ok m') t from) (logged : HasLoggedIt Given p w log pool r lsn t from) where
        behind : Given → IsBehind t from p.past p.disk p.log p.pool → Behind t from' o p.disk w p.log log pool more
        behind tells q = let h = run tells q in behind_record t from' o p.disk w p.log log p.pool pool r lsn is_by q.poised (mark tells q) (formed tells q) h.registered (logged tells q) h.allowed

        pub keeps_mark : Stands Given p.failed p.past w log pool t from
        keeps_mark = stands_behind p.past.checkpoint more last behind

        steps_then : Tells Given p.failed → steps_of (all_in_log w log) ++ gone ≡ with_step (steps_of all ++ gone) lsn (step_of r)
        steps_then s = steps_then' (steps_of (all_in_log w log)) (with_step (steps_of all) lsn (step_of r))
            (∥∥₁_elim m.known (steps_set (steps_of (all_in_log w log)) (with_step (steps_of all) lsn (step_of r))) (λ k. (behind s.tells (k s.whole s.tells)).steps ∙ steps_more all (at_number lsn r)))
            ∙ sym (with_behind (steps_of all) gone lsn (step_of r))

        durable_then : Tells Given p.failed → Grows (steps_of ds ++ gone) (steps_of (durable_in w log) ++ gone)
        durable_then s = durable_by more behind s

        mark_logs : (n end gate count : ℕ) → n ≡ lsn → p.end ≤ lsn → Logs (RecoversBy t) t (led from (seen_by Given p)) (led from (seen_by Given (appended p w log pool end gate lsn count))) r (Ok n)
        mark_logs n end gate count number above = record {
          did = λ s. record { steps = steps_then s ∙ ap (λ (k : ℕ). with_step (steps_of all ++ gone) k (step_of r)) (sym number); durable = durable_then s };
          above = λ s. above;
          moments = record_moments (appended p w log pool end gate lsn count) (Ok m') refl run;
        }

      -- or whose call fails
      mark_logs_err : (e : SpaceFault) (result : Result ℕ EngineFault) (b : ℕ) (f : Bool) → p.end ≤ lsn → HasRunFor Given p w log pool r lsn result t from → Logs (RecoversBy t) t (led from (seen_by Given p)) (led from (seen_by Given (broken p w log pool lsn b f))) r (Err e)
      mark_logs_err e result b f above run = record { did = tt; above = λ s. above; moments = record_moments (broken p w log pool lsn b f) result refl run }

    -- the log with what is gone is formed with the record, which stands at the end of the log or behind it
    abbrev IsFormedThen : Type 0
    IsFormedThen = Given → (tail_of p.log ≤ lsn) × ∥ IsLog (super_in (seen_of p.past.found)).base (with_step (steps_of all ++ gone) lsn (step_of r)) ∥₁

    -- no other record marks anything
    plain_mark : is_no_step r.says ≡ false → Given → IsBehind t from p.past p.disk p.log p.pool → IsMarked (IsLatest (IsAllowed o p.disk p.log p.pool) (tail_of p.log)) lsn r.says
    plain_mark plain tells q = marked_plain (IsLatest (IsAllowed o p.disk p.log p.pool) (tail_of p.log)) lsn r.says plain

    plain_formed : IsFormedThen → Given → IsBehind t from p.past p.disk p.log p.pool → ∥ IsLog o.super.base (with_step (steps_of all) lsn (step_of r)) ∥₁
    plain_formed formed tells q = let f = formed tells in formed_here t from p.past p.disk p.log p.pool q lsn (step_of r) f.0 f.1

    plain_last : is_no_step r.says ≡ false → Given → IsBehind t from p.past p.disk p.log p.pool → p.past.checkpoint ≡ option_map (λ c. c.0) (last_checkpoint more)
    plain_last plain tells q = q.last ∙ ap (option_map (λ c. c.0)) (sym (last_plain all lsn r plain))

    pub keeps_record : (n : ℕ) → is_no_step r.says ≡ false → IsFormedThen → HasRunFor Given p w log pool r lsn (Ok n) t from → HasLoggedIt Given p w log pool r lsn t from → Stands Given p.failed p.past w log pool t from
    keeps_record n plain formed run logged = keeps_mark (plain_mark plain) (plain_formed formed) (plain_last plain) n run logged

    pub logs_ok : (n end gate count : ℕ) → n ≡ lsn → p.end ≤ lsn → is_no_step r.says ≡ false → IsFormedThen → HasRunFor Given p w log pool r lsn (Ok n) t from → HasLoggedIt Given p w log pool r lsn t from
        → Logs (RecoversBy t) t (led from (seen_by Given p)) (led from (seen_by Given (appended p w log pool end gate lsn count))) r (Ok n)
    logs_ok n end gate count number above plain formed run logged = mark_logs (plain_mark plain) (plain_formed formed) (plain_last plain) n run logged n end gate count number above

    pub logs_err : (e : SpaceFault) (result : Result ℕ EngineFault) (b : ℕ) (f : Bool) → p.end ≤ lsn → is_no_step r.says ≡ false → IsFormedThen → HasRunFor Given p w log pool r lsn result t from
        → Logs (RecoversBy t) t (led from (seen_by Given p)) (led from (seen_by Given (broken p w log pool lsn b f))) r (Err e)
    logs_err e result b f above plain formed run = mark_logs_err (plain_mark plain) (plain_formed formed) (plain_last plain) e result b f above run

    -- one that is refused with no call for it
    pub logs_refused : (e : SpaceFault) (b : ℕ) → p.end ≤ lsn → HasStood Given p w → Logs (RecoversBy t) t (led from (seen_by Given p)) (led from (seen_by Given (broken p w log pool lsn b p.full))) r (Err e)
    logs_refused e b above stood = record {
      did = tt;
      above = λ s. above;
      moments = λ s. weaker (look_moments (broken p w log pool lsn b p.full) refl stood s)
          (λ c image. image_more (RecoversBy t) t from (steps_of ds ++ gone) (steps_of all ++ gone) (with_step (steps_of all ++ gone) lsn (step_of r)) c (one_more (steps_of all ++ gone) lsn (step_of r)) image);
    }

-- ALL IS DURABLE behind a call that says so
pub forced_then : (Given : Type 0) (p q : Parts) (t : Table) (from : State) → StandsBy Given p t from → (Tells Given q.failed → Tells Given p.failed) → ((o : Origin) (ds ps : List Numbered) → Given → IsEngine o p.disk p.log ds ps p.pool → IsEngine o q.disk q.log (ds ++ ps) [] q.pool) → IsForced (seen_by Given q)
forced_then Given p q t from m back did tell = ap (λ (l : Steps). l ++ steps_of q.past.gone) (∥∥₁_elim m.known (steps_set (steps_of (durable_in q.disk q.log)) (steps_of (all_in_log q.disk q.log))) (λ k.
    let s = back tell in
    forced_all (origin_at t p.past) q.disk q.log (all_in_log p.disk p.log) q.pool (did (origin_at t p.past) (durable_in p.disk p.log) (waiting_in p.log) s.tells (k s.whole s.tells).poised.now.engine)))

-- one that has failed tells nothing
pub some_broken : (Given : Type 0) (past : Past) (w : View) (log : Tail) (pool : Pool) → StandsForSome Given true past w log pool
some_broken Given past w log pool tell = not_true tell.whole

-- what is known for some
pub some_kept : (Given : Type 0) (f : Bool) (past : Past) (v w : View) (log log' : Tail) (pool pool' : Pool) → Keeps (Stands Given f past v log pool) (Stands Given f past w log' pool') → StandsForSome Given f past v log pool → StandsForSome Given f past w log' pool'
some_kept Given f past v w log log' pool pool' keeps some tell = ∥∥₁_elim (some tell) ∥∥₁_prop (λ x. ∣ (x.0, x.1, keeps x.0 x.1 x.2) ∣₁)

-- also with another past
pub some_past : (Given : Type 0) (f : Bool) (past past' : Past) (v w : View) (log log' : Tail) (pool pool' : Pool) → Keeps (Stands Given f past v log pool) (Stands Given f past' w log' pool') → StandsForSome Given f past v log pool → StandsForSome Given f past' w log' pool'
some_past Given f past past' v w log log' pool pool' keeps some tell = ∥∥₁_elim (some tell) ∥∥₁_prop (λ x. ∣ (x.0, x.1, keeps x.0 x.1 x.2) ∣₁)

-- also by one table alone
pub some_kept_by : (Given : Type 0) (f : Bool) (past : Past) (v w : View) (log log' : Tail) (pool pool' : Pool) (t : Table) → ((from : State) → Stands Given f past v log pool t from → Stands Given f past w log' pool' t from)
    → (Tells Given f → ∥ ((from : State) × Stands Given f past v log pool t from) ∥₁) → StandsForSome Given f past w log' pool'
some_kept_by Given f past v w log log' pool pool' t keeps some tell = ∥∥₁_elim (some tell) ∥∥₁_prop (λ x. ∣ (t, x.0, keeps x.0 x.1) ∣₁)
