-- Where a checkpoint has redo begin, and that it is the last record of each image once all is forced.
use Rattle.std.proofs.Common.{◌≡◌, ◌⊎◌, inl, inr, ⊎_elim, ◌<◌, ◌≤◌, ◌+◌, ℕ, Bool, true, false, List, [], ◌∷◌, ◌++◌, length, refl, sym, ap, ◌∙◌, subst, arith, append_assoc}
use Rattle.std.specs.Prelude.{IsTrue, nat_le, if◌then◌else◌, Result, Ok, Err, OnOk, Some, option_map}
use Rattle.std.proofs.Props.{props}
use Rattle.std.proofs.lemmas.List.{append_cancel_left}
use mathlib.Core.Logic.{∥∥₁_elim, ∥∥₁_prop}
use Rattle.sg_base.specs.declared.area.Area.TheVariants.{Home}
use Rattle.sg_disk.specs.Disk.{Image, View, Leaves}
use Rattle.sg_gate.specs.declared.superblock.Super.{Super}
use Rattle.sg_log.specs.Frames.{Numbered, LOG_END, GREATEST_BODY}
use Rattle.sg_log.specs.Held.{Tail, tail_of, place_of}
use Rattle.sg_ops.specs.Table.{Table}
use Rattle.sg_pool.specs.Pooled.{IsUnwritten}
use Rattle.sg_pool.specs.Units.{Geometry}
use Rattle.sg_pool.specs.declared.pool.Pool.{Pool}
use Rattle.sg_record.specs.Records.{spelled}
use Rattle.sg_record.specs.Records.Says.{Checkpoint}
use Rattle.sg_record.specs.Shown.{by}
use Rattle.sg_action.specs.States.{State}
use Rattle.sg_engine.specs.Engine.{Origin, IsStanding, log_area}
use Rattle.sg_engine.specs.Running.{IsEngine, IsAllowed, HasGoneOn}
use Rattle.sg_engine.specs.declared.fault.EngineFault.{EngineFault}
use Rattle.sg_engine.proofs.Pools.{point_allowed, unwritten_low}
use Rattle.sg_checkpoints.specs.Checkpoints.{Estimates, StaysMarked}
use Rattle.sg_actions.specs.Engine.{EngineLooks, led}
use Rattle.sg_actions.specs.Images.{Grows}
use Rattle.sg_actions.specs.Steps.{Steps, repeated}
use Rattle.sg_phys_laws.specs.Logged.{HasLogged, StillAllowed, at_number}
use Rattle.sg_phys_laws.specs.Points.{IsMarked, NoneLater}
use Rattle.sg_phys_laws.specs.Reading.{durable_in, waiting_in, frames_read}
use Rattle.sg_phys_laws.specs.Recovers.{records_in, super_of, RecoversBy}
use Rattle.sg_phys_laws.specs.States.{steps_of}
use Rattle.sg_phys_laws.proofs.Checkpoints.{checkpoint_long}
use Rattle.sg_phys_laws.proofs.Latest.{exact_latest}
use Rattle.sg_phys_laws.proofs.Poised.{all_in_log, all_formed, Behind, behind_marked, none_stood}
use Rattle.sg_phys_laws.proofs.Reading.{held_are}
use Rattle.sg_phys_laws.proofs.Recovered.{records_held, grows_fix}
use Rattle.sg_phys_laws.proofs.Sets.{steps_set}
use Rattle.sg_phys_laws.proofs.Stepping.{steps_more}
use Rattle.sg_phys_laws.proofs.Wrapped.{append_none, all_are}
use Rattle.sg_space.specs.declared.space.SpaceFault.{SpaceFault}
use Rattle.sg_phys.specs.Phys.{Parts, IsBehind, Stands, StandsBy, StandsForSome, Tells, appended, broken, noted, origin_at, seen_by}
use Rattle.sg_phys.proofs.Behind.{grows_behind}
use Rattle.sg_phys.proofs.Causes.{by_poised}
use Rattle.sg_phys.proofs.Images.{by_past}
use Rattle.sg_phys.proofs.Lasts.{last_mark}
use Rattle.sg_phys.proofs.Seen.{HasStood, HasLoggedIt, behind_then, looks_err}
use Rattle.sg_pages.specs.Marks.{EndsWith, LogEnds, ImageEnds, EndsNaming, LogNames}

-- the number of a checkpoint doesn't depend on what it estimates
pub place_same : (log : Tail) (estimate : ℕ) (live : List ℕ) → place_of log (by 0 0 (Checkpoint estimate live)) ≡ place_of log (by 0 0 (Checkpoint 0 live))
place_same log estimate live = ap (λ (n : ℕ). if nat_le (length log.buffer + n) GREATEST_BODY then log.gate + 5 + length log.buffer else log.gate + 5 + length log.buffer + 5) (checkpoint_long estimate live)

-- a change that isn't on the disk is a record below the log's tail
below_tail : (o : Origin) (v : View) (log : Tail) (ds ps : List Numbered) (pool : Pool) (k : ℕ) → IsEngine o v log ds ps pool → IsUnwritten pool k → k < tail_of log
below_tail o v log ds ps pool k e is = ⊎_elim
    (λ page. e.engine.behind.pages page.0 k (subst (λ (g : Geometry). page.0 < g.pages) e.sizes page.1) page.2)
    (λ band. e.engine.behind.bands band.0 k (subst (λ (g : Geometry). band.0 < g.bands) e.sizes band.1) band.2)
    is

pub low_prop : IsProp ⊥
low_prop = hlevel props

-- WHERE REDO IS TO BEGIN, by where the oldest change is that isn't on the disk, or the log's tail where there is none
module _ (Given : Type 0) (p : Parts) (some : StandsForSome Given p.failed p.past p.disk p.log p.pool) (point : ℕ) (exact : IsUnwritten p.pool point ⊎ (((lsn : ℕ) → IsUnwritten p.pool lsn → ⊥) × (point ≡ tail_of p.log))) where
  pub at_tail : (lsn : ℕ) → point ≡ tail_of p.log → Tells Given p.failed → Estimates (IsUnwritten p.pool) lsn lsn
  at_tail lsn is tell = inr (none, refl)
    where
      none : (x : ℕ) → IsUnwritten p.pool x → ⊥
      none x un = ⊎_elim
          (λ at. by_poised Given p some low_prop (λ t from m q. (let lt = below_tail (origin_at t p.past) p.disk p.log (durable_in p.disk p.log) (waiting_in p.log) p.pool point q.poised.now.engine at in omega (arith, is, lt))) tell)
          (λ no. no.0 x un)
          exact

  pub at_change : (lsn : ℕ) → (point ≡ tail_of p.log → ⊥) → ((x : ℕ) → IsUnwritten p.pool x → point ≤ x) → Estimates (IsUnwritten p.pool) lsn point
  at_change lsn other least = inl (⊎_elim (λ at. at) (λ no. absurd (other no.1)) exact, least)

-- it is no later than the log's tail, or the checkpoint itself
pub estimate_low : (o : Origin) (v : View) (log : Tail) (ds ps : List Numbered) (pool : Pool) (lsn estimate : ℕ) → IsEngine o v log ds ps pool → tail_of log ≤ lsn → Estimates (IsUnwritten pool) lsn estimate → estimate ≤ lsn
estimate_low o v log ds ps pool lsn estimate e late is = ⊎_elim
    (λ at. let lt = below_tail o v log ds ps pool estimate e at.0 in omega (arith, lt, late))
    (λ own. let same = own.1 in omega (arith, same))
    is

-- and allowed once the checkpoint is appended
pub estimate_allowed : (o : Origin) (w : View) (log : Tail) (ds ps : List Numbered) (pool : Pool) (lsn estimate : ℕ) → IsEngine o w log ds ps pool → lsn < tail_of log → Estimates (IsUnwritten pool) lsn estimate → IsAllowed o w log pool estimate
estimate_allowed o w log ds ps pool lsn estimate e further is = ⊎_elim
    (λ at. point_allowed o w log ds ps pool estimate e at.1 (unwritten_low o w log ds ps pool estimate e at.0))
    (λ own. let same = own.1 in point_allowed o w log ds ps pool estimate e (λ x un. absurd (own.0 x un)) (omega (arith, same, further)))
    is

-- none that was allowed before is later, but behind the log's tail
none_later : (o : Origin) (v : View) (log : Tail) (ds ps : List Numbered) (pool : Pool) (lsn estimate : ℕ) → IsEngine o v log ds ps pool → tail_of log ≤ lsn → Estimates (IsUnwritten pool) lsn estimate → NoneLater (IsAllowed o v log pool) (tail_of log) estimate
none_later o v log ds ps pool lsn estimate e late is = ⊎_elim
    (λ at. (exact_latest o v log ds ps pool estimate e (inl at.0) (point_allowed o v log ds ps pool estimate e at.1 (unwritten_low o v log ds ps pool estimate e at.0))).latest)
    (λ own. λ j early within. let same = own.1 in omega (arith, same, late, within))
    is

-- THE LAST RECORD OF EACH IMAGE, where all is durable
none_behind : (since more : List Numbered) → [] ≡ since ++ more → since ≡ []
none_behind [] more e = refl
none_behind (x ∷ since) more e = absurd cc

module _ (o : Origin) (w : View) (log : Tail) (ns : List Numbered) (pool : Pool) (e : IsEngine o w log ns [] pool) (k : ℕ) (allowed : IsAllowed o w log pool k) (c : Image) (leaves : Leaves w.now c) where
  stands : IsStanding o ns (ns ++ []) k c
  stands = (none_stood o w log ns [] pool e k allowed).first c leaves

  has_all : stands.records ≡ ns
  has_all =
      let split : ns ++ [] ≡ ns ++ (stands.since ++ stands.more) = stands.front ∙ (ap (λ (l : List Numbered). l ++ stands.more) stands.later ∙ append_assoc ns stands.since stands.more) in
      let none = none_behind stands.since stands.more (append_cancel_left ns [] (stands.since ++ stands.more) split) in
      stands.later ∙ (ap (λ (l : List Numbered). ns ++ l) none ∙ append_none ns)

  read : records_in o c ≡ ns
  read = records_held o c stands.tail stands.records stands.held ∙ has_all

  pub image_ends : (lsn estimate : ℕ) → EndsWith ns lsn estimate → ImageEnds c lsn estimate
  unfolding records_in
  image_ends lsn estimate ends =
      let here : EndsWith (records_in o c) lsn estimate = subst (λ (l : List Numbered). EndsWith l lsn estimate) (sym read) ends in
      ∣ subst (λ (s : Super). EndsWith (frames_read LOG_END (c (log_area s)) s.base 0) lsn estimate) (sym (ap super_of stands.super)) here ∣₁

-- a log that ended so before it was forced
pub forced_ends : (Given : Type 0) (p : Parts) (w : View) (log : Tail) (pool : Pool) (some : StandsForSome Given p.failed p.past p.disk p.log p.pool)
    → ((o : Origin) (ds ps : List Numbered) → Given → IsEngine o p.disk p.log ds ps p.pool → IsEngine o w log (ds ++ ps) [] pool)
    → ((o : Origin) (ds ps : List Numbered) (k : ℕ) → Given → IsEngine o p.disk p.log ds ps p.pool → IsAllowed o p.disk p.log p.pool k → IsAllowed o w log pool k)
    → Tells Given p.failed → StaysMarked (LogEnds p.disk p.log) (LogEnds w log) ImageEnds w.now
forced_ends Given p w log pool some forced allowed tell lsn estimate ends = record {
  last = by_poised Given p some ∥∥₁_prop
      (λ t from m q. (let o = origin_at t p.past in
      let e = forced o (durable_in p.disk p.log) (waiting_in p.log) tell.tells q.poised.now.engine in
      let same : durable_in w log ++ waiting_in log ≡ all_in_log p.disk p.log = all_are o w log (all_in_log p.disk p.log) [] pool e ∙ append_none (all_in_log p.disk p.log) in
      ∥∥₁_elim ends ∥∥₁_prop (λ is. ∣ subst (λ (l : List Numbered). EndsWith l lsn estimate) (sym same) is ∣₁)))
      tell;
  ends = λ c leaves. by_poised Given p some ∥∥₁_prop
      (λ t from m q. (let o = origin_at t p.past in
      ∥∥₁_elim ends ∥∥₁_prop
      (λ is. image_ends o w log (all_in_log p.disk p.log) pool (forced o (durable_in p.disk p.log) (waiting_in p.log) tell.tells q.poised.now.engine)
      o.super.base (allowed o (durable_in p.disk p.log) (waiting_in p.log) o.super.base tell.tells q.poised.now.engine q.poised.points.start) c leaves lsn estimate is)))
      tell;
}

-- a log that named these transactions before it was forced
pub forced_names : (Given : Type 0) (p : Parts) (w : View) (log : Tail) (pool : Pool) (some : StandsForSome Given p.failed p.past p.disk p.log p.pool)
    → ((o : Origin) (ds ps : List Numbered) → Given → IsEngine o p.disk p.log ds ps p.pool → IsEngine o w log (ds ++ ps) [] pool)
    → Tells Given p.failed → (live : List ℕ) → LogNames p.disk p.log live → LogNames w log live
forced_names Given p w log pool some forced tell live names = by_poised Given p some ∥∥₁_prop
    (λ t from m q. (let o = origin_at t p.past in
    let e = forced o (durable_in p.disk p.log) (waiting_in p.log) tell.tells q.poised.now.engine in
    let same : durable_in w log ++ waiting_in log ≡ all_in_log p.disk p.log = all_are o w log (all_in_log p.disk p.log) [] pool e ∙ append_none (all_in_log p.disk p.log) in
    ∥∥₁_elim names ∥∥₁_prop (λ is. ∣ subst (λ (l : List Numbered). EndsNaming l live) (sym same) is ∣₁)))
    tell

-- A CHECKPOINT WAS APPENDED, which isn't on the disk yet: whatever it estimates, the images of the call have none of it
module _ (Given : Type 0) (p : Parts) (w : View) (log : Tail) (pool : Pool) (live : List ℕ) (lsn estimate : ℕ) where
  module _ (t : Table) (from : State) (m : StandsBy Given p t from) (estimates : Given → p.failed ≡ false → Estimates (IsUnwritten p.pool) lsn estimate) (same : pool ≡ p.pool) (late : tail_of p.log ≤ lsn) (further : lsn < tail_of log)
      (still : Given → IsBehind t from p.past p.disk p.log p.pool → StillAllowed (origin_at t p.past) p.disk w p.log log p.pool pool)
      (logged : HasLoggedIt Given p w log pool (by 0 0 (Checkpoint estimate live)) lsn t from) where
    abbrev o' : Origin
    o' = origin_at t p.past

    abbrev from' : State
    from' = repeated t from (steps_of p.past.gone)

    abbrev with_it : List Numbered
    with_it = all_in_log p.disk p.log ++ at_number lsn (by 0 0 (Checkpoint estimate live)) ∷ []

    low : Estimates (IsUnwritten p.pool) lsn estimate → IsBehind t from p.past p.disk p.log p.pool → estimate ≤ lsn
    low is q = estimate_low o' p.disk p.log (durable_in p.disk p.log) (waiting_in p.log) p.pool lsn estimate q.poised.now.engine late is

    behind : p.failed ≡ false → Given → IsBehind t from p.past p.disk p.log p.pool → Behind t from' o' p.disk w p.log log pool with_it
    behind whole tells q =
        let h = (logged tells q).gone in
        let is = estimates tells whole in
        behind_marked t from' o' p.disk w p.log log p.pool pool (by 0 0 (Checkpoint estimate live)) lsn (by_past t p.past) q.poised
        (estimate_allowed o' w log h.durable h.waiting pool lsn estimate h.engine further (subst (λ (b : Pool). Estimates (IsUnwritten b) lsn estimate) (sym same) is), low is q)
        (none_later o' p.disk p.log (durable_in p.disk p.log) (waiting_in p.log) p.pool lsn estimate q.poised.now.engine late is, low is q)
        (all_formed q.poised) refl (logged tells q) (still tells q)

    pub keeps_checkpoint : Stands Given p.failed (record p.past { checkpoint = Some lsn }) w log pool t from
    keeps_checkpoint = record {
      lawful = m.lawful;
      known = ∥∥₁_elim m.known ∥∥₁_prop (λ k. ∣ (λ whole tells. let q = k whole tells in
          behind_then Given p w log pool t from m (Some lsn) with_it (sym (ap (option_map (λ c. c.0)) (last_mark (all_in_log p.disk p.log) lsn estimate live))) q (behind whole tells q)) ∣₁);
    }

    pub checkpoint_looks : {A : Type 0} (x : A) (end gate count : ℕ) → HasStood Given p w → EngineLooks (RecoversBy t) t (led from (seen_by Given p)) (led from (seen_by Given (noted (appended p w log pool end gate lsn count) (Some lsn)))) (Ok x)
    checkpoint_looks {A = A} x end gate count stood = record {
      stays = λ s. record {
        steps = ap (λ (l : Steps). l ++ steps_of p.past.gone) (∥∥₁_elim m.known (steps_set (steps_of (durable_in w log ++ waiting_in log)) (steps_of (all_in_log p.disk p.log)))
            (λ k. (behind s.whole s.tells (k s.whole s.tells)).steps ∙ steps_more (all_in_log p.disk p.log) (at_number lsn (by 0 0 (Checkpoint estimate live)))));
        durable = grows_behind (steps_of p.past.gone) (steps_of (durable_in p.disk p.log)) (steps_of (durable_in w log))
            (grows_fix (steps_of (durable_in p.disk p.log)) (steps_of (durable_in w log)) (∥∥₁_elim m.known ∥∥₁_prop (λ k. ∣ (behind s.whole s.tells (k s.whole s.tells)).durable ∣₁)));
      };
      moments = (looks_err Given p w log pool t from m {T = A} 0 stood).moments;
    }

  -- or it wasn't
  pub checkpoint_fails : {A : Type 0} (t : Table) (from : State) → StandsBy Given p t from → (e : SpaceFault) (b : ℕ) (f : Bool) → HasStood Given p w → EngineLooks {T = A} (RecoversBy t) t (led from (seen_by Given p)) (led from (seen_by Given (broken p w log pool lsn b f))) (Err e)
  checkpoint_fails {A = A} t from m e b f stood = record { stays = tt; moments = (looks_err Given p w log pool t from m {T = A} 0 stood).moments }

  -- it is the last record of the log
  pub log_ends : StandsForSome Given p.failed p.past p.disk p.log p.pool → ((t : Table) (from : State) → StandsBy Given p t from → HasLoggedIt Given p w log pool (by 0 0 (Checkpoint estimate live)) lsn t from) → Tells Given p.failed → LogEnds w log lsn estimate
  log_ends some logged tell = by_poised Given p some ∥∥₁_prop
      (λ t from m q. (let h = (logged t from m tell.tells q).gone in
      ∣ record { before = all_in_log p.disk p.log; live = live; all = all_are (origin_at t p.past) w log h.durable h.waiting pool h.engine ∙ h.is_all } ∣₁))
      tell

  -- which names these transactions
  pub log_names : StandsForSome Given p.failed p.past p.disk p.log p.pool → ((t : Table) (from : State) → StandsBy Given p t from → HasLoggedIt Given p w log pool (by 0 0 (Checkpoint estimate live)) lsn t from) → Tells Given p.failed → LogNames w log live
  log_names some logged tell = by_poised Given p some ∥∥₁_prop
      (λ t from m q. (let h = (logged t from m tell.tells q).gone in
      ∣ record { before = all_in_log p.disk p.log; lsn = lsn; estimate = estimate; all = all_are (origin_at t p.past) w log h.durable h.waiting pool h.engine ∙ h.is_all } ∣₁))
      tell
