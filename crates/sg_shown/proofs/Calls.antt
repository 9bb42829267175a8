-- WHAT A CALL OF A SPACE OVER AN ENGINE DOES is what the store asks of its engine's call. In between, an action that has logged nothing may have ended.
use Rattle.std.proofs.Common.{◌≡◌, ◌≢◌, ℕ, ◌+◌, ◌==◌, ◌<◌, ◌≤◌, Bool, true, false, List, [], ◌∷◌, Some, None, IsSome, Result, Ok, Err, sym, ap, subst, ◌∙◌, refl, arith, inl, inr}
use Rattle.std.specs.Prelude.{◌||◌, ◌&&◌, not, IfErr}
use Rattle.std.proofs.lemmas.Bool.{cases_eq}
use Rattle.std.proofs.lemmas.Bool.Decides.{nat_tests}
use Rattle.sg_base.specs.Ends.{HasRisen}
use Rattle.sg_base.specs.declared.numbers.TxnId.{TxnId}
use Rattle.sg_disk.specs.Accounts.{Accounts}
use Rattle.sg_disk.specs.Disk as disk
use Rattle.sg_ops.specs.Table.{Table}
use Rattle.sg_recovery.specs.Chains.{next_lsn, Formed}
use Rattle.sg_recovery.specs.Formed.{IsLog}
use Rattle.sg_recovery.specs.Log.{tally}
use Rattle.sg_recovery.specs.Log.Record.{Begin, Change, TopEnd, PhysComp, TopVoid, CompEnd, Save, Commit, End}
use Rattle.sg_space.specs.declared.space.SpaceFault.{SpaceFault}
use Rattle.sg_space.specs.declared.space.SpaceFault.TheVariants.{Disk, LogEnd}
use Rattle.sg_action.specs.States.{State}
use Rattle.sg_actions.specs.Calls.{IsAtRest, AreSettled}
use Rattle.sg_actions.specs.Counts.{ActsCounts}
use Rattle.sg_actions.specs.Engine.{EngineSeen, EngineView, EngineCounts, Moments, led}
use Rattle.sg_actions.specs.Engine as engine
use Rattle.sg_actions.specs.Images as images
use Rattle.sg_actions.specs.Rows.{HasRow, last_in, placed, rows_after}
use Rattle.sg_actions.specs.Steps.{Step, Steps, stepped, repeated}
use Rattle.sg_actions.specs.View.{IsKept}
use Rattle.sg_actions.specs.declared.rows.Row.{Row}
use Rattle.sg_actions.proofs.Placing.{placed_other, placed_self, placed_own, after_none, after_one}
use Rattle.sg_actions.proofs.Flags.{some_of}
use Rattle.sg_store.specs.Engine as store
use Rattle.sg_store.specs.Engine.{Sizes, Shown, Counts, IsDiskFault, Appends, Appended, GoesOn, Rests, Rested, action_of, goes_behind, is_going, HasPlace}
use Rattle.sg_ground.specs.Recovers.{Recovering}
use Rattle.sg_shown.specs.Shown.{basis, extent_of, Over, Means, acting, shown_of}
use Rattle.sg_shown.specs.Room.{SameRoom}
use Rattle.sg_shown.specs.Spare.{HasSpare}
use Rattle.sg_shown.proofs.History.{grows_is, moments_are}
use Rattle.sg_shown.proofs.Holding.{Facts, taken_same, counted_same, keeping_at_rest, engine_is}

-- FAULTS
disk_is : (f : SpaceFault) → IsDiskFault f → f ≡ Disk
disk_is Disk h = refl
disk_is LogEnd h = absurd h

near_is : (tail : ℕ) (f : SpaceFault) → (f ≡ LogEnd → engine.LOG_END < tail + 131072) → store.IsNearEnd tail f
near_is tail Disk h = tt
near_is tail LogEnd h = h refl

pub near_of : {T : Type 0} (tail : ℕ) (r : Result T SpaceFault) → IfErr r (λ f. f ≡ LogEnd → engine.LOG_END < tail + 131072) → IfErr r (store.IsNearEnd tail)
near_of tail (Ok x) h = tt
near_of tail (Err f) h = near_is tail f h

pub only_disk : {T : Type 0} (r : Result T SpaceFault) → IfErr r (λ f. f ≡ Disk) → IfErr r IsDiskFault
only_disk (Ok x) h = tt
only_disk (Err f) h = subst IsDiskFault (sym h) tt

-- THE DISK'S OWN COUNTS, by the store's word for its fault
pub accounts_as : {T : Type 0} {Told : Type 0} {v w : disk.View} {i j : ℕ} (r : Result T SpaceFault) → Accounts (λ f. f ≡ Disk) Told v w i j r → Accounts IsDiskFault Told v w i j r
accounts_as (Ok x) k = record { later = k.later; heeded = k.heeded; caused = tt; handed = k.handed; shown = k.shown }
accounts_as (Err f) k = record { later = k.later; heeded = λ n. k.heeded (λ d. n (subst IsDiskFault (sym d) tt)); caused = λ d. k.caused (disk_is f d); handed = k.handed; shown = k.shown }

-- of an engine that is as it was, and doesn't tell
pub accounts_still : {T : Type 0} (e e' : EngineSeen) (f : SpaceFault) → e' ≡ e → (e.Told → ⊥) → Accounts IsDiskFault e.Told e.disk e'.disk e.gate e'.gate (let r : Result T SpaceFault = Err f in r)
accounts_still {T} e e' f is never = subst (λ (x : EngineSeen). Accounts IsDiskFault e.Told e.disk x.disk e.gate x.gate (let r : Result T SpaceFault = Err f in r)) (sym is) (record {
  later = omega arith;
  heeded = λ n. refl;
  caused = λ d t. absurd (never t);
  handed = omega arith;
  shown = inr (omega arith);
})

-- COUNTS
module _ {T : Type 0} (recovers : Recovering) (a b : Over) (same : b.breaks ≡ a.breaks) where
  pub counts_engine : (e : EngineSeen) → e ≡ a.engine → (r : Result T SpaceFault) → EngineCounts e b.engine r → Counts IsDiskFault (shown_of recovers a) (shown_of recovers b) r
  counts_engine e is r h = by r (subst (λ (x : EngineSeen). EngineCounts x b.engine r) is h)
    where
      by : (q : Result T SpaceFault) → EngineCounts a.engine b.engine q → Counts IsDiskFault (shown_of recovers a) (shown_of recovers b) q
      by (Ok x) c = record {
        told = c.told;
        tells = c.tells;
        tail = c.tail;
        later = let l = c.later in omega (arith, l, same);
        quiet = let q = c.quiet in omega (arith, q, same);
        failed = tt;
        accounts = accounts_as (let r : Result T SpaceFault = Ok x in r) c.accounts;
      }
      by (Err f) c = record {
        told = c.told;
        tells = tt;
        tail = c.tail;
        later = let l = c.later in omega (arith, l, same);
        quiet = tt;
        failed = λ d few. let rise : a.engine.faults < b.engine.faults = c.disk (disk_is f d) (omega (arith, few)) in omega (arith, rise, same);
        accounts = accounts_as (let r : Result T SpaceFault = Err f in r) c.accounts;
      }

pub counts_acts : {T : Type 0} (recovers : Recovering) (a b : Over) (e : EngineSeen) (breaks : ℕ) → e ≡ a.engine → breaks ≡ a.breaks
    → (r : Result T SpaceFault) → ActsCounts e b.engine breaks b.breaks r → Counts IsDiskFault (shown_of recovers a) (shown_of recovers b) r
counts_acts {T} recovers a b e breaks is same r h = by r (subst (λ (n : ℕ). ActsCounts a.engine b.engine n b.breaks r) same (subst (λ (x : EngineSeen). ActsCounts x b.engine breaks b.breaks r) is h))
  where
    by : (q : Result T SpaceFault) → ActsCounts a.engine b.engine a.breaks b.breaks q → Counts IsDiskFault (shown_of recovers a) (shown_of recovers b) q
    by (Ok x) c = record { told = c.told; tells = c.tells; tail = c.tail; later = c.later; quiet = c.quiet; failed = tt; accounts = accounts_as (let r : Result T SpaceFault = Ok x in r) c.accounts }
    by (Err f) c = record { told = c.told; tells = tt; tail = c.tail; later = c.later; quiet = tt; failed = λ d. c.disk (disk_is f d); accounts = accounts_as (let r : Result T SpaceFault = Err f in r) c.accounts }

-- of a break that is counted over the same engine
pub counts_break : {T : Type 0} (recovers : Recovering) (a b : Over) (f : SpaceFault) → b.engine ≡ a.engine
    → a.engine.faults + a.breaks ≤ b.engine.faults + b.breaks → HasRisen (a.engine.faults + a.breaks) (b.engine.faults + b.breaks) → (a.engine.Told → ⊥)
    → Counts {T = T} IsDiskFault (shown_of recovers a) (shown_of recovers b) (Err f)
counts_break {T} recovers a b f e later risen never = record {
  told = subst (λ (x : EngineSeen). x.Told → a.engine.Told) (sym e) (λ h. h);
  tells = tt;
  tail = subst (λ (x : EngineSeen). a.engine.tail ≤ x.tail) (sym e) (omega arith);
  later = later;
  quiet = tt;
  failed = λ d. risen;
  accounts = accounts_still {T = T} a.engine b.engine f e never;
}

-- ROOM

pub room_settled : (a b : Over) → AreSettled a.maps.pages a.unfreed.pages b.maps.pages b.unfreed.pages
    → AreSettled a.maps.bands a.unfreed.bands b.maps.bands b.unfreed.bands → SameRoom a b
room_settled a b p n = record {
  pages = p.long;
  bands = n.long;
  page = p.same;
  band = n.same;
  free_pages = let e = p.none in let f = p.free in omega (arith, e, f);
  free_bands = let e = n.none in let f = n.free in omega (arith, e, f);
}

pub room_then : {a b c : Over} → SameRoom a b → SameRoom b c → SameRoom a c
room_then f g = record {
  pages = g.pages ∙ f.pages;
  bands = g.bands ∙ f.bands;
  page = λ p. g.page p ∙ f.page p;
  band = λ n. g.band n ∙ f.band n;
  free_pages = g.free_pages ∙ f.free_pages;
  free_bands = g.free_bands ∙ f.free_bands;
}

-- WHAT IT MEANS BEHIND A CALL that leaves nobody acting
pub record RestsNow (b : Over) (t : Table) (z : Sizes) (from : State) (at : State) : Type 0 where
  pub kept : IsKept t (b.limits z.pages z.bands) (led from b.engine) b.maps b.rows b.actor
  pub rest : IsAtRest b.engine.steps b.unfreed b.actor
  -- the pages and bands are these
  pub now : repeated t from b.engine.steps ≡ at
  pub spare : HasSpare b.engine.steps b.rows

pub means_next : (a b : Over) (t : Table) (z : Sizes) (from : State) → Means a t z from → SameRoom a b → b.limits ≡ a.limits → b.begun ≡ false
    → b.means t from → (b.engine.Told → a.engine.Told) → (b.engine.Told → RestsNow b t z from (repeated t from a.engine.steps)) → Means b t z from
means_next a b t z from m room same begun stands back next = record {
  since = record { stands = stands; since = λ e. absurd (let x : false ≡ true = sym begun ∙ e in cc) };
  size = m.size;
  pages = room.pages ∙ m.pages;
  bands = room.bands ∙ m.bands;
  limits = ap (λ (l : (pages bands : ℕ) → State → ℕ → ℕ). l z.pages z.bands) same ∙ m.limits;
  keeps = λ told. let n = next told in let k = m.keeps (back told) in keeping_at_rest b t z from n.kept n.rest
      (taken_same (ap (λ (x : State). x.pages) n.now) (λ p h. room.page p ∙ h) (λ p h. room.band p ∙ h) k.now)
      (counted_same room.free_pages room.free_bands (ap (λ (x : State). x.pages) n.now) k.counted) (λ n less. room.band n ∙ k.map n less) n.spare;
}

-- A RECORD MAY BE APPENDED
pub record MayCome (recovers : Recovering) (t : Table) (from : State) (e e' : EngineSeen) (lsn : ℕ) (x : Step) : Type 0 where
  pub above : e.tail ≤ lsn
  pub formed : IsLog e.base (stepped e.steps lsn x)
  pub moments : Moments (recovers t) t (led from e) (led from e') (stepped e.steps lsn x)

pub appends_of : (recovers : Recovering) (a b : Over) (t : Table) (z : Sizes) (from : State) (lsn : ℕ) (x : Step) (e : EngineSeen) → e ≡ a.engine → from.size ≡ extent_of z
    → MayCome recovers t from e b.engine lsn x
    → Appends t (basis recovers z) (store.led t z from (shown_of recovers a)) (store.led t z from (shown_of recovers b)) (record { lsn = lsn; is = x })
appends_of recovers a b t z from lsn x e is size h = let c = subst (λ (y : EngineSeen). MayCome recovers t from y b.engine lsn x) is h in record {
  above = c.above;
  formed = c.formed;
  moments = moments_are recovers t z (store.led t z from (shown_of recovers a)) b.engine.disk (stepped a.engine.steps lsn x) size c.moments;
}

-- and it was
pub record HasCome (e e' : EngineSeen) (lsn : ℕ) (x : Step) : Type 0 where
  pub base : e'.base ≡ e.base
  pub steps : e'.steps ≡ stepped e.steps lsn x
  pub tail : e.tail ≤ e'.tail
  pub durable : images.Grows e.durable e'.durable

-- the engine goes on
pub goes_on : (recovers : Recovering) (a b : Over) (t : Table) (z : Sizes) (from : State) → Means b t z from → b.engine.Told → Facts recovers b t from
    → b.engine.base ≡ a.engine.base → a.engine.tail ≤ b.engine.tail → images.Grows a.engine.durable b.engine.durable
    → GoesOn t (basis recovers z) (store.led t z from (shown_of recovers a)) (store.led t z from (shown_of recovers b))
goes_on recovers a b t z from m told f base tail durable = record { engine = engine_is recovers b t z from m told f; base = base; first = refl; tail = tail; durable = grows_is durable }

pub appended_of : (recovers : Recovering) (a b : Over) (t : Table) (z : Sizes) (from : State) (lsn : ℕ) (x : Step) (e : EngineSeen) → e ≡ a.engine
    → HasCome e b.engine lsn x → Means b t z from → b.engine.Told → Facts recovers b t from → SameRoom a b → b.begun ≡ false
    → Appended t (basis recovers z) (store.led t z from (shown_of recovers a)) (store.led t z from (shown_of recovers b)) (record { lsn = lsn; is = x })
appended_of recovers a b t z from lsn x e is h m told f room begun = let c = subst (λ (y : EngineSeen). HasCome y b.engine lsn x) is h in record {
  goes_on = goes_on recovers a b t z from m told f c.base c.tail c.durable;
  log = c.steps;
  tail =
      let low : next_lsn b.engine.steps ≤ b.engine.tail = (m.keeps told).kept.chain.running.below in
      let same : next_lsn b.engine.steps ≡ next_lsn (stepped a.engine.steps lsn x) = ap (λ (rs : Steps). next_lsn rs) c.steps in
      let one : next_lsn (stepped a.engine.steps lsn x) ≡ lsn + 1 = refl in
      omega (arith, low, same, one);
  pages = room.free_pages;
  bands = room.free_bands;
  action = ap (λ (y : Bool). action_of t (basis recovers z) from b.engine.steps (acting y b.actor.txn.0)) begun;
}

-- NOTHING IS APPENDED
pub rests_of : (recovers : Recovering) (a b : Over) (t : Table) (z : Sizes) (from : State) (e : EngineSeen) → e ≡ a.engine → from.size ≡ extent_of z
    → Moments (recovers t) t (led from e) (led from b.engine) e.steps
    → Rests t (basis recovers z) (store.led t z from (shown_of recovers a)) (store.led t z from (shown_of recovers b))
rests_of recovers a b t z from e is size h = record {
  moments = moments_are recovers t z (store.led t z from (shown_of recovers a)) b.engine.disk a.engine.steps size (subst (λ (y : EngineSeen). Moments (recovers t) t (led from y) (led from b.engine) y.steps) is h);
}

-- WHO HAS BEGUN AND NOT ENDED

pub next_some : (rs : Steps) → Formed rs → 1 ≤ next_lsn rs
next_some [] h = omega arith
next_some (r ∷ rs) h = omega arith

-- no number is 0
pub going_some : (rs : Steps) → Formed rs → is_going 0 rs ≡ false
going_some [] h = refl
going_some (r ∷ rs) h = by_step r.is h.1 (going_some rs h.2) (let low = next_some rs h.2 in let up = h.0 in omega (arith, low, up))
  where
    by_step : (x : Step) → (Rattle.sg_recovery.specs.Chains.IsKnown (tally rs) x → Rattle.sg_recovery.specs.Chains.Follows rs r.lsn x) → is_going 0 rs ≡ false → 1 ≤ r.lsn → goes_behind 0 x (is_going 0 rs) ≡ false
    by_step (Begin t p) f g low =
        let at : t ≡ r.lsn = (f tt).0 in
        let not_zero : (t == 0) ≡ false = (let ne : t ≢ 0 = λ e. absurd (omega (arith, e, at, low)) in grind (arith, nat_tests, ne)) in
        ap (λ (b : Bool). b || is_going 0 rs) not_zero ∙ g
    by_step (Change t p c) f g low = g
    by_step (TopEnd t p w n) f g low = g
    by_step (PhysComp t p w c) f g low = g
    by_step (TopVoid t p w) f g low = g
    by_step (CompEnd t p w) f g low = g
    by_step (Save t p k) f g low = g
    by_step (Commit t p) f g low = g
    by_step (End t p) f g low = ap (λ (b : Bool). b && not (0 == t)) g

some_row : (rows : List Row) (u last : ℕ) → last_in rows u ≡ Some last → HasRow rows u
some_row rows u last e = subst IsSome (sym e) refl

-- a row of a transaction with another record in it
pub row_kept : (rows : List Row) (txn : TxnId) (lsn u : ℕ) → HasRow rows u → HasRow (placed rows txn.0 (record { txn = txn; last = lsn })) u
row_kept rows txn lsn u h =
    let old = some_of (last_in rows u) h in
    elim (cases_eq u txn.0) as (λ _. HasRow (placed rows txn.0 (record { txn = txn; last = lsn })) u) [
      | inl e ↦ some_row (placed rows txn.0 (record { txn = txn; last = lsn })) u lsn (ap (last_in (placed rows txn.0 (record { txn = txn; last = lsn }))) e ∙ placed_self rows txn.0 old.0 (record { txn = txn; last = lsn }) (ap (last_in rows) (sym e) ∙ old.1) refl)
      | inr d ↦ some_row (placed rows txn.0 (record { txn = txn; last = lsn })) u old.0 (placed_other rows txn.0 u (record { txn = txn; last = lsn }) d (λ z. d (sym z)) ∙ old.1)
    ]

pub row_after : (rows : List Row) (txn : TxnId) (lsn u : ℕ) → HasRow rows u → HasRow (rows_after rows txn lsn) u
row_after rows txn lsn u h = elim (cases_eq txn.0 0) as (λ _. HasRow (rows_after rows txn lsn) u) [
  | inl z ↦ subst (λ (xs : List Row). HasRow xs u) (after_none rows txn lsn z) h
  | inr nz ↦ subst (λ (xs : List Row). HasRow xs u) (after_one rows txn lsn nz) (row_kept rows txn lsn u h)
]
