-- What a cut of the log's front says of what the engine shows.
use Rattle.std.proofs.Common.{◌≡◌, ◌⊎◌, inl, inr, ⊎_elim, ◌<◌, ◌≤◌, ◌+◌, ◌==◌, ℕ, Bool, true, false, cond, List, [], ◌∷◌, ◌++◌, length, Option, Some, None, refl, sym, ap, ◌∙◌, subst, arith}
use Rattle.std.specs.Prelude.{Result, Ok, Err, option_map, IfSome}
use Rattle.std.proofs.Props.{props}
use mathlib.Core.Logic.{∥∥₁_elim, ∥∥₁_prop}
use Rattle.sg_base.specs.declared.numbers.TxnId.{TxnId}
use Rattle.sg_disk.specs.Disk.{View, Image, LeavesOnly}
use Rattle.sg_disk.proofs.Moments.{joined, weaker}
use Rattle.sg_gate.specs.declared.superblock.Super.{Super}
use Rattle.sg_log.specs.Frames.{Numbered, gate_after}
use Rattle.sg_log.specs.Held.{Tail, Holds, forced, tail_of}
use Rattle.sg_log.specs.Cut.{cut_to as moved}
use Rattle.sg_log.proofs.Cutting.{gate_from}
use Rattle.sg_ops.specs.Table.{Table}
use Rattle.sg_pool.specs.declared.pool.Pool.{Pool}
use Rattle.sg_recovery.specs.Laws.{Each}
use Rattle.sg_recovery.specs.Log.{Open, tally, is_in}
use Rattle.sg_recovery.proofs.Basic.{number_is, same_number, or_left, or_right}
use Rattle.sg_record.specs.Changes.{Change as Changing}
use Rattle.sg_kept.specs.Kept.{IsPoint as IsLow}
use Rattle.sg_space.specs.declared.space.SpaceFault.{SpaceFault}
use Rattle.sg_action.specs.States.{State}
use Rattle.sg_analysis.specs.Sights.{Checkpoint, last_checkpoint}
use Rattle.sg_engine.specs.Engine.{Origin, entries}
use Rattle.sg_engine.specs.History.{entry_number}
use Rattle.sg_engine.specs.Numbers.{AllUnder}
use Rattle.sg_engine.proofs.May.{in_under}
use Rattle.sg_engine.specs.Running.{IsEngine, IsAllowed}
use Rattle.sg_engine.specs.Cut.{IsCutting, IsCutOff}
use Rattle.sg_actions.specs.Cutting.{IsOldest}
use Rattle.sg_checkpoints.specs.Cutting.{IsPoint, BeginsAt, IsCut}
use Rattle.sg_actions.specs.Engine.{EngineSeen, EngineCounts, EngineRests, EngineLooks, IsForced, Keeps, led}
use Rattle.sg_actions.specs.Images.{IsImageOf}
use Rattle.sg_actions.specs.Steps.{Steps}
use Rattle.sg_phys_laws.specs.Reading.{durable_in, waiting_in, records_read}
use Rattle.sg_phys_laws.specs.Recovers.{RecoversBy}
use Rattle.sg_phys_laws.specs.States.{steps_of}
use Rattle.sg_phys_laws.proofs.Poised.{all_in_log}
use Rattle.sg_phys_laws.proofs.Recovered.{leaves_fix}
use Rattle.sg_phys_laws.proofs.Sets.{code_set, steps_set}
use Rattle.sg_phys_laws.proofs.Wrapped.{append_none}
use Rattle.sg_phys.specs.Phys.{Parts, Past, IsBehind, Stands, StandsBy, StandsForSome, Tells, IsSpent, first_end, last_in, looked, broken, origin_at, cut_to, records_before, seen_by, settled, without}
use Rattle.sg_phys.proofs.Causes.{by_poised}
use Rattle.sg_phys.proofs.Seen.{HasLooked, HasStood, looks_ok}
use Rattle.sg_phys.proofs.Cuts.{last_under, IsCutImage, HasCut, has_cut, steps_cut, all_cut, begins_cut, behind_cut, cutting_image, cut_image_fix, cut_image_of}

-- WHERE NOTHING WAITS no record does
pub none_waiting : (log : Tail) → length log.buffer ≡ 0 → waiting_in log ≡ []
unfolding waiting_in records_read
none_waiting log e = ap (λ (n : ℕ). records_read n log.buffer (log.gate + 5)) e

no_bytes : (xs : List ℕ) → length xs ≡ 0 → xs ≡ []
no_bytes [] e = refl
no_bytes (x ∷ xs) e = absurd (omega (arith, e))

pub is_settled : (log : Tail) → length log.buffer ≡ 0 → log ≡ settled log.area log.base log.gate
is_settled log e = ap (λ (xs : List ℕ). let l : Tail = record { area = log.area; base = log.base; gate = log.gate; buffer = xs } in l) (no_bytes log.buffer e)

-- NO OPEN CHANGE, and no transaction that goes on and began before the point
none_before : (point : ℕ) (live : List ℕ) → ((u : ℕ) → is_in u live ≡ true → point ≤ u) → Each (λ u. point ≤ u) live
none_before point [] f = tt
none_before point (u ∷ us) f = (f u (or_left (u == u) (is_in u us) (same_number u)), none_before point us (λ v h. f v (or_right (u == v) (is_in v us) h)))

oldest_low : (point : ℕ) (oldest : Option TxnId) (live : List ℕ) → IsOldest oldest live → IfSome oldest (λ u. point ≤ u.0) → (u : ℕ) → is_in u live ≡ true → point ≤ u
oldest_low point None live none low u h = absurd (none u h)
oldest_low point (Some x) live first low u h = let f = first u h in omega (arith, f, low)

pub wanted_low : (point : ℕ) (oldest : Option TxnId) (rs : Steps) → (tally rs).opened ≡ [] → IsOldest oldest (tally rs).live → IfSome oldest (λ u. point ≤ u.0) → IsLow point (tally rs)
wanted_low point oldest rs idle first low = record {
  live = none_before point (tally rs).live (oldest_low point oldest (tally rs).live first low);
  opened = subst (λ ds. Each (λ d. point ≤ d.lsn) ds) (sym idle) tt;
}

-- WHAT A CALL KEEPS names no record, whether it is gone or in the log
pub rests_past : {T : Type 0} (Given : Type 0) (e : EngineSeen) (x : Parts) (log : Tail) (super : Super) (gone : List Numbered) (r : Result T SpaceFault) → EngineRests e (seen_by Given x) r → EngineRests e (seen_by Given (cut_to (record x { log = log }) super gone)) r
rests_past Given e x log super gone r h =
    let c = h.counts in
    record {
      counts = record {
        told = c.told;
        tells = c.tells;
        base = c.base;
        extent = c.extent;
        later = c.later;
        quiet = c.quiet;
        disk = c.disk;
        accounts = c.accounts;
        log_end = c.log_end;
        tail = c.tail;
        failed = c.failed;
        stops = c.stops;
        first = c.first;
        full = c.full;
        for_disk = c.for_disk;
        for_end = c.for_end;
      };
      only_disk = h.only_disk;
      records = h.records;
      tail = h.tail;
    }

-- THE LAST CHECKPOINT that it remembers is the log's
pub told_last : (Given : Type 0) (p : Parts) → StandsForSome Given p.failed p.past p.disk p.log p.pool → Tells Given p.failed → p.past.checkpoint ≡ last_in p.disk p.log
told_last Given p some tell = by_poised Given p some (code_set p.past.checkpoint (last_in p.disk p.log)) (λ t from m q. q.last) tell

-- and where nothing waits, it is below where what is durable of the log ends
gate_under : (o : Origin) (v : View) (log : Tail) (ns ps : List Numbered) → Holds v log ns ps → AllUnder entry_number log.gate (entries o ns)
gate_under o v log ns ps h =
    let at : log.gate ≡ gate_after log.base h.frames = h.at_gate ∙ sym (gate_from log.base h.frames) in
    subst (λ (d : ℕ). AllUnder entry_number d (entries o ns)) (sym at) (subst (λ (l : List Numbered). AllUnder entry_number (gate_after log.base h.frames) (entries o l)) h.all (in_under o log.base h.frames))

some_last : (k : Option Checkpoint) (c d : ℕ) → Some c ≡ option_map (λ x. x.0) k → IfSome k (λ x. x.0 < d) → c < d
some_last None c d e low = absurd cc
some_last (Some x) c d e low = let is : c ≡ x.0 = cc in omega (arith, is, low)

below_prop : (a b : ℕ) → IsProp (a ≤ b)
below_prop a b = hlevel props

lower_prop : (a b : ℕ) → IsProp (a < b)
lower_prop a b = hlevel props

number_set : IsSet ℕ
number_set = hlevel props

pub told_low : (Given : Type 0) (p : Parts) → StandsForSome Given p.failed p.past p.disk p.log p.pool → Tells Given p.failed → waiting_in p.log ≡ [] → (c : ℕ) → p.past.checkpoint ≡ Some c → c < p.log.gate
told_low Given p some tell none c marked = by_poised Given p some (lower_prop c p.log.gate)
    (λ t from m q.
    let ns : List Numbered = durable_in p.disk p.log in
    let last : Some c ≡ option_map (λ x. x.0) (last_checkpoint ns) = sym marked ∙ (q.last ∙ (ap (λ (l : List Numbered). option_map (λ x. x.0) (last_checkpoint (ns ++ l))) none ∙ ap (λ (l : List Numbered). option_map (λ x. x.0) (last_checkpoint l)) (append_none ns))) in
    some_last (last_checkpoint ns) c p.log.gate last (last_under (origin_at t p.past) p.log.gate ns (gate_under (origin_at t p.past) p.disk p.log ns (waiting_in p.log) q.poised.now.engine.engine.held))) tell

pub told_base : (Given : Type 0) (p : Parts) → StandsForSome Given p.failed p.past p.disk p.log p.pool → Tells Given p.failed → p.past.super.base ≡ p.log.base
told_base Given p some tell = by_poised Given p some (number_set p.past.super.base p.log.base) (λ t from m q. sym q.poised.now.engine.engine.place.base) tell

-- WHERE THE LOG BEGINS NOW, by its last checkpoint
pub is_cut_none : (unwritten : ℕ → Type 0) (oldest : Option TxnId) (last : Option ℕ) (spent : Type 0) (start ends : ℕ) → None ≡ last → IsCut unwritten oldest last spent start start ends
is_cut_none unwritten oldest last spent start ends e = subst (λ (k : Option ℕ). IsCut unwritten oldest k spent start start ends) e refl

pub is_cut : (unwritten : ℕ → Type 0) (oldest : Option TxnId) (last : Option ℕ) (spent : Type 0) (start start' ends c point : ℕ) → Some c ≡ last → IsPoint unwritten oldest c point → BeginsAt spent start start' ends point
    → IsCut unwritten oldest last spent start start' ends
is_cut unwritten oldest last spent start start' ends c point e is begins = subst (λ (k : Option ℕ). IsCut unwritten oldest k spent start start' ends) e (point, is, begins)

-- nothing was cut off, since the point isn't behind its first byte or the superblock can't be renewed
pub not_cut : (Given : Type 0) (p : Parts) → StandsForSome Given p.failed p.past p.disk p.log p.pool → Tells Given p.failed → waiting_in p.log ≡ [] → (c : ℕ) → p.past.checkpoint ≡ Some c → (point ends : ℕ) → point ≤ c
    → ((point ≤ p.past.super.base) ⊎ IsSpent p.past.super) ⊎ ((point < p.log.base) ⊎ (p.log.gate ≤ point)) → BeginsAt (IsSpent p.past.super) p.past.super.base p.past.super.base ends point
not_cut Given p some tell none c marked point ends low = ⊎_elim
    (λ known. inl (known, refl))
    (λ never. ⊎_elim
    (λ lt. inl (inl (let base = told_base Given p some tell in omega (arith, lt, base)), refl))
    (λ far. absurd (let under = told_low Given p some tell none c marked in omega (arith, low, far, under)))
    never)

-- or it was, in front of the frame that holds the point
pub did_cut : (spent : Type 0) (start start' ends point : ℕ) → start < point → ∥ ((start' ≤ point) × (point < ends)) ∥₁ → BeginsAt spent start start' ends point
did_cut spent start start' ends point above h = inr (above, ∥∥₁_elim h (below_prop start' point) (λ x. x.0), ∥∥₁_elim h (lower_prop point ends) (λ x. x.1))

-- a look leaves the log as it was
pub told_steps : (Given : Type 0) (p : Parts) (w : View) (log : Tail) (pool : Pool) (end gate : ℕ) → StandsForSome Given p.failed p.past p.disk p.log p.pool → HasLooked Given p w log pool → HasStood Given p w → Tells Given p.failed
    → (seen_by Given p).steps ≡ (seen_by Given (looked p w log pool end gate)).steps
told_steps Given p w log pool end gate some did stood tell = ∥∥₁_elim (some tell) (steps_set _ _) (λ x. sym ((looks_ok Given p w log pool x.0 x.1 x.2 {T = Unit {0}} tt end gate did stood).stays tell).steps)

-- no byte waits once all is durable
pub none_buffered : (log : Tail) → length (forced log).buffer ≡ 0
none_buffered log = by (length log.buffer == 0) refl
  where
    by : (b : Bool) → (length log.buffer == 0) ≡ b → length (cond b log (record log { gate = log.gate + 5 + length log.buffer; buffer = [] })).buffer ≡ 0
    by true is = number_is (length log.buffer) 0 is
    by false is = refl

-- where nothing waits all is durable
pub still_forced : (Given : Type 0) (p : Parts) → waiting_in p.log ≡ [] → IsForced (seen_by Given p)
still_forced Given p none tell = ap (λ (l : List Numbered). steps_of l ++ steps_of p.past.gone) (sym (ap (λ (l : List Numbered). durable_in p.disk p.log ++ l) none ∙ append_none (durable_in p.disk p.log)))

pub engine_whole : (o : Origin) (v : View) (log : Tail) (pool : Pool) (ns : List Numbered) → waiting_in log ≡ [] → IsEngine o v log ns (waiting_in log) pool → IsEngine o v log ns [] pool
engine_whole o v log pool ns none e = subst (λ (l : List Numbered). IsEngine o v log ns l pool) none e

-- a cut leaves where the log ends, and where what is durable of it ends
pub tail_cut : (log log' : Tail) → (log' ≡ log) ⊎ (log' ≡ moved log'.base log) → tail_of log' ≡ tail_of log
tail_cut log log' = ⊎_elim (λ same. ap tail_of same) (λ cut. ap tail_of cut)

pub gate_cut : (log log' : Tail) → (log' ≡ log) ⊎ (log' ≡ moved log'.base log) → log'.gate ≡ log.gate
gate_cut log log' = ⊎_elim (λ same. ap (λ (l : Tail). l.gate) same) (λ cut. ap (λ (l : Tail). l.gate) cut)

-- THE LEAST of the changes that aren't on the disk, a begin and a checkpoint
begun_less : (a b : ℕ) (oldest : Option TxnId) → a ≤ b → IfSome oldest (λ u. b ≤ u.0) → IfSome oldest (λ u. a ≤ u.0)
begun_less a b None le h = tt
begun_less a b (Some u) le h = omega (arith, le, h)

module _ (unwritten : ℕ → Type 0) (oldest : Option TxnId) (checkpoint begun redo tail : ℕ) (written : (lsn : ℕ) → unwritten lsn → redo ≤ lsn) (exact : unwritten redo ⊎ (((lsn : ℕ) → unwritten lsn → ⊥) × (redo ≡ tail)))
    (marked : begun ≤ checkpoint) (first : IfSome oldest (λ u. begun ≤ u.0)) (either : (oldest ≡ Some (record { 0 = begun })) ⊎ (begun ≡ checkpoint)) where
  pub point_redo : redo < begun → checkpoint ≤ tail → IsPoint unwritten oldest checkpoint redo
  point_redo lt le = record {
    written = written;
    begun = begun_less redo begun oldest (omega (arith, lt)) first;
    marked = omega (arith, lt, marked);
    least = ⊎_elim (λ is. inl is) (λ none. absurd (let e = none.1 in omega (arith, e, lt, le, marked))) exact;
  }

  pub point_begun : begun ≤ redo → checkpoint ≤ tail → IsPoint unwritten oldest checkpoint begun
  point_begun le low = record { written = λ lsn is. (let w = written lsn is in omega (arith, le, w)); begun = first; marked = marked; least = inr either }

  pub begun_redo : redo < begun → IfSome oldest (λ u. redo ≤ u.0)
  begun_redo lt = begun_less redo begun oldest (omega (arith, lt)) first

-- an earlier point is allowed where a later one is
pub allowed_less : (o : Origin) (v : View) (log : Tail) (pool : Pool) (a b : ℕ) → a ≤ b → IsAllowed o v log pool b → IsAllowed o v log pool a
allowed_less o v log pool a b le h = record { pages = λ n lt. (let e = h.pages n lt in omega (arith, e, le)); bands = λ n lt. (let e = h.bands n lt in omega (arith, e, le)) }

-- A CUT at a point
module _ (Given : Type 0) (p : Parts) (w : View) (log : Tail) (pool : Pool) (none : waiting_in p.log ≡ []) (point c : ℕ) (marked : p.past.checkpoint ≡ Some c) (low : point ≤ c)
    (wanted : Tells Given p.failed → IsLow point (tally (seen_by Given p).steps)) where
  abbrev ds : List Numbered
  ds = durable_in p.disk p.log

  abbrev gone : Steps
  gone = steps_of p.past.gone

  whole : steps_of (all_in_log p.disk p.log) ++ gone ≡ steps_of ds ++ gone
  whole = ap (λ (l : List Numbered). steps_of l ++ gone) (ap (λ (l : List Numbered). ds ++ l) none ∙ append_none ds)

  wanted_here : Tells Given p.failed → IsLow point (tally (steps_of ds ++ gone))
  wanted_here tell = subst (λ (rs : Steps). IsLow point (tally rs)) whole (wanted tell)

  module _ (t : Table) (from : State) (m : StandsBy Given p t from)
      (allowed : Given → IsBehind t from p.past p.disk p.log p.pool → IsAllowed (origin_at t p.past) p.disk p.log p.pool point) where
    -- its images, whatever it answers
    pub cut_moments : (q : Parts) → q.disk ≡ w → (Given → IsBehind t from p.past p.disk p.log p.pool → LeavesOnly p.disk w (IsCutting (origin_at t p.past) p.disk p.log p.pool point ds)) → Tells Given p.failed
        → LeavesOnly p.disk q.disk (IsImageOf (RecoversBy t) t from (steps_of ds ++ gone) (steps_of (all_in_log p.disk p.log) ++ gone))
    cut_moments q is run tell =
        subst (λ (v : View). LeavesOnly p.disk v (IsImageOf (RecoversBy t) t from (steps_of ds ++ gone) (steps_of (all_in_log p.disk p.log) ++ gone))) (sym is)
        (subst (λ (rs : Steps). LeavesOnly p.disk w (IsImageOf (RecoversBy t) t from (steps_of ds ++ gone) rs)) (sym whole)
        (weaker
        (leaves_fix p.disk w (IsCutImage t from (steps_of ds ++ gone)) (cut_image_fix t from (steps_of ds ++ gone))
        (∥∥₁_elim m.known ∥∥₁_prop (λ k. let b = k tell.whole tell.tells in
        ∣ weaker (run tell.tells b) (λ x image. cutting_image t from p.past p.disk p.log p.pool b none point (allowed tell.tells b) (wanted_here tell) c marked low x image) ∣₁)))
        (λ x image. cut_image_of t from (steps_of ds ++ gone) x image)))

    module _ (next : Super) (cutoff : Given → IsBehind t from p.past p.disk p.log p.pool → IsCutOff (origin_at t p.past) w log pool p.log.base point ds next)
        (still : Given → IsBehind t from p.past p.disk p.log p.pool → (k : ℕ) → IsAllowed (origin_at t p.past) p.disk p.log p.pool k → IsAllowed (origin_at t p.past) w log pool k) where
      abbrev since : List Numbered
      since = records_before next.base ds

      there : (tell : Tells Given p.failed) (b : IsBehind t from p.past p.disk p.log p.pool) → HasCut t from p.past p.disk p.log p.pool b none point (allowed tell.tells b) (wanted_here tell) c marked low w log next
      there tell b = has_cut t from p.past p.disk p.log p.pool b none point (allowed tell.tells b) (wanted_here tell) c marked low w log pool next (cutoff tell.tells b)

      -- it stands for the same still
      pub keeps_cut : Stands Given p.failed (without p next since).past w log pool t from
      keeps_cut = record {
        lawful = m.lawful;
        known = ∥∥₁_elim m.known ∥∥₁_prop (λ k. ∣ (λ is given. let b = k is given in
            behind_cut t from p.past p.disk p.log p.pool b none point (allowed given b) (wanted_here (record { tells = given; whole = is })) c marked low w log pool next (cutoff given b) (still given b)) ∣₁);
      }

      pub cut_looks : {A : Type 0} (x : A) (end gate : ℕ) → (Given → IsBehind t from p.past p.disk p.log p.pool → LeavesOnly p.disk w (IsCutting (origin_at t p.past) p.disk p.log p.pool point ds))
          → EngineLooks (RecoversBy t) t (led from (seen_by Given p)) (led from (seen_by Given (without (looked p w log pool end gate) next since))) (Ok x)
      cut_looks x end gate run = record {
        stays = λ tell. record {
          steps = ∥∥₁_elim m.known (steps_set _ _) (λ k. let b = k tell.whole tell.tells in
              ap (λ (l : List Numbered). steps_of l ++ steps_of (p.past.gone ++ since)) (all_cut t from p.past p.disk p.log p.pool b none point (allowed tell.tells b) (wanted_here tell) c marked low w log next (there tell b))
              ∙ (steps_cut t from p.past p.disk p.log p.pool b none point (allowed tell.tells b) (wanted_here tell) c marked low w log next (there tell b) ∙ sym whole));
          durable = record {
            since = [];
            all = ∥∥₁_elim m.known (steps_set _ _) (λ k. let b = k tell.whole tell.tells in steps_cut t from p.past p.disk p.log p.pool b none point (allowed tell.tells b) (wanted_here tell) c marked low w log next (there tell b));
          };
        };
        moments = cut_moments (without (looked p w log pool end gate) next since) refl run;
      }

      -- all of it is durable
      pub cut_forced : (end gate : ℕ) → IsForced (seen_by Given (without (looked p w log pool end gate) next since))
      cut_forced end gate tell = ∥∥₁_elim m.known (steps_set _ _) (λ k. let b = k tell.whole tell.tells in
          ap (λ (l : List Numbered). steps_of l ++ steps_of (p.past.gone ++ since)) (sym (all_cut t from p.past p.disk p.log p.pool b none point (allowed tell.tells b) (wanted_here tell) c marked low w log next (there tell b))))

      -- and it begins with the frame that holds the point
      pub cut_begins : Tells Given p.failed → ∥ ((next.base ≤ point) × (point < first_end next.base (durable_in w log))) ∥₁
      cut_begins tell = ∥∥₁_elim m.known ∥∥₁_prop (λ k. let b = k tell.whole tell.tells in ∣ begins_cut t from p.past p.disk p.log p.pool b none point (allowed tell.tells b) (wanted_here tell) c marked low w log next (there tell b) ∣₁)
