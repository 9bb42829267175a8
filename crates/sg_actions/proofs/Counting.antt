-- The counts of a run of calls, and its images.
use mathlib.Core.Logic.{∥∥₁_elim}
use Rattle.std.proofs.Props.{props}
use Rattle.std.proofs.Common.{◌≡◌, ℕ, ◌+◌, ◌≤◌, ◌<◌, true, List, sym, ap, subst, ◌∙◌, refl, arith, Ok, Err}
use Rattle.sg_base.specs.Ends.{HasRisen}
use Rattle.sg_ops.specs.Table.{Table}
use Rattle.sg_space.specs.declared.space.SpaceFault.{SpaceFault}
use Rattle.sg_space.specs.declared.space.SpaceFault.TheVariants.{Disk, LogEnd}
use Rattle.sg_actions.specs.Counts.{ActsCounts}
use Rattle.sg_actions.specs.Engine.{EngineView, EngineSeen, EngineCounts, Moments}
use Rattle.sg_actions.specs.Led.{HasStayed}
use Rattle.sg_actions.specs.Growing.{grows_same, grows_then, moments_then}
use Rattle.sg_actions.specs.Images.{Recovering}
use Rattle.sg_actions.specs.Steps.{Steps}
use Rattle.sg_actions.specs.View.{IsKept}
use Rattle.sg_actions.specs.declared.rows.Actor.{Actor}
use Rattle.sg_actions.specs.declared.rows.Row.{Row}
use Rattle.sg_action.specs.States.{State}
use Rattle.sg_alloc.specs.declared.maps.Maps.{Maps}
use Rattle.sg_actions.proofs.Accounting.{KeepsCount, count_none, count_then, count_ok, accounts_ok, accounts_err, accounts_break}
use Rattle.sg_actions.proofs.Beginning.{rest_kept}

-- A RUN OF LOOKS, so far
pub record HasLooked (e e' : EngineSeen) (b b' : ℕ) : Type 0 where
  pub told : e'.Told → e.Told
  pub tells : e.Told → e'.Told
  pub quiet : e'.faults + b' ≡ e.faults + b
  pub disk : KeepsCount e.disk e'.disk e.gate e'.gate
  pub tail : e.tail ≤ e'.tail
  pub stops : e.failed ≡ true → (e'.failed ≡ true) × (e'.disk ≡ e.disk)

-- and what is known of it by the pages and bands that the steps lead from
pub record LookedBy (recovers : Recovering) (t : Table) (e e' : EngineView) : Type 0 where
  pub stays : HasStayed e e'
  pub moments : e.Told → Moments recovers t e e' e.steps

pub looked_none : (e : EngineSeen) (b : ℕ) → HasLooked e e b b
looked_none e b = record { told = λ z. z; tells = λ z. z; quiet = refl; disk = count_none e.disk e.gate; tail = omega arith; stops = λ z. (z, refl) }

pub by_none : {recovers : Recovering} {t : Table} (e : EngineView) → (e.Told → Moments recovers t e e e.steps) → LookedBy recovers t e e
by_none e m = record { stays = record { told = λ z. z; stays = λ z. record { base = refl; first = refl; steps = refl; tail = omega arith; durable = grows_same e.durable } }; moments = m }

pub stayed_then : {a b c : EngineView} → HasStayed a b → HasStayed b c → HasStayed a c
stayed_then {a} {b} {c} f g = record {
  told = λ z. g.told (f.told z);
  stays = λ z. let p = f.stays z in let q = g.stays (f.told z) in record {
    base = q.base ∙ p.base;
    first = q.first ∙ p.first;
    steps = q.steps ∙ p.steps;
    tail = let x = p.tail in let y = q.tail in omega (arith, x, y);
    durable = grows_then p.durable q.durable;
  };
}

-- and one more look, also one that fails
pub look_moments : {recovers : Recovering} {t : Table} (e e1 e' : EngineView) → LookedBy recovers t e e1 → (e1.Told → Moments recovers t e1 e' e1.steps) → e.Told → Moments recovers t e e' e.steps
look_moments {recovers} {t} e e1 e' h m told =
    let s = h.stays.stays told in
    moments_then e e1 e' s.first s.durable (grows_same e.steps) (h.moments told) (subst (λ (rs : Steps). Moments recovers t e1 e' rs) s.steps (m (h.stays.told told)))

pub by_then : {recovers : Recovering} {t : Table} {e e1 e' : EngineView} → LookedBy recovers t e e1 → HasStayed e1 e' → (e1.Told → Moments recovers t e1 e' e1.steps) → LookedBy recovers t e e'
by_then {recovers} {t} {e} {e1} {e'} h s m = record { stays = stayed_then h.stays s; moments = look_moments e e1 e' h m }

pub looked_then : {T : Type 0} {e e1 e' : EngineSeen} {b b1 b' : ℕ} {x : T} → HasLooked e e1 b b1 → ActsCounts {T = T} e1 e' b1 b' (Ok x) → HasLooked e e' b b'
looked_then {T} {e} {e1} {e'} {b} {b1} {b'} {x} h k = record {
  told = λ z. h.told (k.told z);
  tells = λ z. k.tells (h.tells z);
  quiet = k.quiet ∙ h.quiet;
  disk = count_then h.disk (count_ok k.accounts);
  tail = let p = h.tail in let q = k.tail in omega (arith, p, q);
  stops = λ z. let p = h.stops z in let q = k.stops p.0 in (q.0, q.1 ∙ p.1);
}

-- the counts of a call that ends so
pub looked_ok : {T : Type 0} {e e' : EngineSeen} {b b' : ℕ} (x : T) → HasLooked e e' b b' → ActsCounts {T = T} e e' b b' (Ok x)
looked_ok {T} {e} {e'} {b} {b'} x h = record {
  told = h.told;
  tells = h.tells;
  later = let q = h.quiet in omega (arith, q);
  quiet = h.quiet;
  disk = tt;
  accounts = accounts_ok x h.disk;
  log_end = tt;
  tail = h.tail;
  silent = tt;
  stops = h.stops;
}

-- or so, by a call that fails
pub looked_err : {T S : Type 0} {e e1 e' : EngineSeen} {b b1 b' : ℕ} {f : SpaceFault} → HasLooked e e1 b b1 → ActsCounts {T = T} e1 e' b1 b' (Err f) → ActsCounts {T = S} e e' b b' (Err f)
looked_err {T} {S} {e} {e1} {e'} {b} {b1} {b'} {f} h k = record {
  told = λ z. h.told (k.told z);
  tells = tt;
  later = let q = h.quiet in let l = k.later in omega (arith, q, l);
  quiet = tt;
  disk = λ d few. let q = h.quiet in let r : e1.faults + b1 < e'.faults + b' = k.disk d few in omega (arith, q, r);
  accounts = accounts_err h.tells h.disk k.accounts;
  log_end = k.log_end;
  tail = let p = h.tail in let q = k.tail in omega (arith, p, q);
  silent = k.silent;
  stops = λ z. let p = h.stops z in let q = k.stops p.0 in (q.0, q.1 ∙ p.1);
}

-- or by a fault that is counted where it can't be
pub looked_break : {S : Type 0} {e e' : EngineSeen} {b b1 b2 : ℕ} (fault : SpaceFault) → fault ≡ Disk → HasLooked e e' b b1 → HasRisen b1 b2 → b1 ≤ b2 → (e'.Told → ⊥) → ActsCounts {T = S} e e' b b2 (Err fault)
looked_break {S} {e} {e'} {b} {b1} {b2} fault is h risen up never = record {
  told = h.told;
  tells = tt;
  later = let q = h.quiet in omega (arith, q, up);
  quiet = tt;
  disk = λ d few. let q = h.quiet in let r : b1 < b2 = risen (omega (arith, q, few)) in omega (arith, q, r);
  accounts = accounts_break (λ t. never (h.tells t)) h.disk;
  log_end = λ z. absurd (let w : Disk ≡ LogEnd = sym is ∙ z in cc);
  tail = h.tail;
  silent = never;
  stops = h.stops;
}

-- one look of the engine, so far
pub looked_engine : {T : Type 0} {e e' : EngineSeen} (b : ℕ) {x : T} → EngineCounts {T = T} e e' (Ok x) → HasLooked e e' b b
looked_engine {T} {e} {e'} b {x} k = record { told = k.told; tells = k.tells; quiet = ap (λ (n : ℕ). n + b) k.quiet; disk = count_ok k.accounts; tail = k.tail; stops = k.stops }

-- WHAT CAN'T BE by each of the operations and first pages that an engine stands for can't be
pub never_any : (m : Table → State → Type 0) → ∥ ((t : Table) × (from : State) × m t from) ∥₁ → ((t : Table) (from : State) → m t from → ⊥) → ⊥
never_any m some f = ∥∥₁_elim some (hlevel props) (λ x. f x.0 x.1 x.2)

-- a call that only looks leaves what is kept
pub kept_looked : (t : Table) (limits : State → ℕ → ℕ) (e e' : EngineView) (maps maps' : Maps) (rows rows' : List Row) (actor actor' : Actor) → HasStayed e e' → maps' ≡ maps → rows' ≡ rows → actor' ≡ actor → e.Told → IsKept t limits e maps rows actor → IsKept t limits e' maps' rows' actor'
kept_looked t limits e e' maps maps' rows rows' actor actor' h m r a told k =
    subst (λ (x : Maps). IsKept t limits e' x rows' actor') (sym m)
    (subst (λ (x : List Row). IsKept t limits e' maps x actor') (sym r)
    (subst (λ (x : Actor). IsKept t limits e' maps rows x) (sym a) (rest_kept t limits e e' maps rows actor h told k)))
