-- The laws of the relation that a space over an engine hands through every call: of no call, and of one after another.
use Rattle.std.proofs.Common.{◌≡◌, ℕ, ◌<◌, ◌≤◌, ◌⊎◌, inl, inr, List, [], ◌∷◌, ◌++◌, Bool, true, false, length, sym, ap, subst, ◌∙◌, refl, append_assoc, arith}
use Rattle.std.specs.Prelude.{map}
use Rattle.sg_alloc.specs.declared.maps.Maps.{Maps}
use Rattle.sg_disk.specs.Accounts.{IsShownEnd}
use Rattle.sg_disk.specs.Disk.{View}
use Rattle.sg_ops.specs.Table.{Table}
use Rattle.sg_base.specs.Ends.{HasRisen}
use Rattle.sg_base.specs.declared.numbers.TxnId.{TxnId}
use Rattle.sg_recovery.specs.Chains.{next_lsn}
use Rattle.sg_recovery.specs.Formed.{IsLog}
use Rattle.sg_recovery.specs.Log.{tally, changes_of}
use Rattle.sg_action.specs.Opened.{TakesTo}
use Rattle.sg_action.specs.States.{State, Kept}
use Rattle.sg_actions.specs.Acting.{IsChained}
use Rattle.sg_actions.specs.Changes.{meaning}
use Rattle.sg_actions.specs.Engine.{EngineView, EngineSeen, IsNearEnd, Moments, StandsNow, led}
use Rattle.sg_actions.specs.Accounted.{HasAccounted}
use Rattle.sg_actions.specs.Led.{Stayed}
use Rattle.sg_actions.specs.Images.{Recovering}
use Rattle.sg_actions.specs.Later.{At, ActsAt, led_at, at_kept, at_bands, kept_at, begin_at, AreChanges, HasGone, Went, LaterBy}
use Rattle.sg_actions.specs.Steps.{Steps, opened, begin_of, repeated}
use Rattle.sg_actions.specs.Taken.{kept_of}
use Rattle.sg_actions.specs.TakingOff.{IsRunning, AreRows}
use Rattle.sg_actions.specs.View.{IsActing, IsKept}
use Rattle.sg_actions.specs.declared.rows.Actor.{Actor}
use Rattle.sg_actions.specs.declared.rows.Row.{Row}
use Rattle.sg_actions.specs.Growing.{grows_same, grows_then, moments_then, moments_same, moments_stop}

no : {P : Type 0} (b : Bool) → b ≡ true → b ≡ false → P
no b t f = absurd cc

-- WHO ACTS, at a later tail
running_later : {base : ℕ} {rs : Steps} {tail next : ℕ} {actor : Actor} → tail ≤ next → IsRunning base rs tail actor → IsRunning base rs next actor
running_later {base} {rs} {tail} {next} {actor} le h = record {
  log = h.log;
  based = omega (arith, h.based, le);
  below = omega (arith, h.below, le);
  system = h.system;
  owned = h.owned;
  last_is = h.last_is;
  before_is = h.before_is;
  system_is = h.system_is;
  acting = h.acting;
  alone = h.alone;
  linked = h.linked;
  before_low = omega (arith, h.before_low, le);
}

rows_later : {rs : Steps} {tail next : ℕ} {rows : List Row} {actor : Actor} → tail ≤ next → AreRows rs tail rows actor → AreRows rs next rows actor
rows_later {rs} {tail} {next} {rows} {actor} le h = record { own = h.own; low = λ u far. h.low u (omega (arith, far, le)); others = h.others; apart = h.apart; past = h.past }

chain_later : {base : ℕ} {rs : Steps} {tail next : ℕ} {rows : List Row} {actor : Actor} → IsChained base rs tail rows actor → tail ≤ next → IsChained base rs next rows actor
chain_later {base} {rs} {tail} {next} {rows} {actor} h le = record { running = running_later le h.running; rows_are = rows_later le h.rows_are; closed = h.closed; at = h.at }

-- the same, of a log that is this
pub acting_to : {t : Table} {limits : State → ℕ → ℕ} {base base' : ℕ} {first first' : State} {rs rs' : Steps} {tail : ℕ} {pages bands : List Bool} {rows : List Row} {actor : Actor} → base' ≡ base → first' ≡ first → rs' ≡ rs
    → IsActing t limits base first rs tail pages bands rows actor → IsActing t limits base' first' rs' tail pages bands rows actor
acting_to {t} {limits} {base} {base'} {first} {first'} {rs} {rs'} {tail} {pages} {bands} {rows} {actor} e f g h =
    subst (λ (b : ℕ). IsActing t limits b first' rs' tail pages bands rows actor) (sym e)
    (subst (λ (x : State). IsActing t limits base x rs' tail pages bands rows actor) (sym f)
    (subst (λ (xs : Steps). IsActing t limits base first xs tail pages bands rows actor) (sym g) h))

-- and at a later tail
pub acting_later : {t : Table} {limits : State → ℕ → ℕ} {base : ℕ} {first : State} {rs : Steps} {tail next : ℕ} {pages bands : List Bool} {rows : List Row} {actor : Actor} → tail ≤ next
    → IsActing t limits base first rs tail pages bands rows actor → IsActing t limits base first rs next pages bands rows actor
acting_later le h = record { chain = chain_later h.chain le; well = h.well }

-- changes behind changes
pub changes_then : (t : Table) (kept : Kept) (begin first : State) (txn : ℕ) (more made log : Steps) → AreChanges t kept begin first txn made log → AreChanges t kept begin first txn more (made ++ log) → AreChanges t kept begin first txn (more ++ made) log
changes_then t kept begin first txn [] made log h k = h
changes_then t kept begin first txn (r ∷ more) made log h k =
    let e : more ++ (made ++ log) ≡ (more ++ made) ++ log = sym (append_assoc more made log) in (
      k.0,
      subst (λ (rs : Steps). next_lsn rs ≤ r.lsn) e k.1,
      subst (λ (rs : Steps). TakesTo t kept begin (map meaning (changes_of (tally (r ∷ rs)).opened)) (repeated t first (r ∷ rs))) e k.2,
      changes_then t kept begin first txn more made log h k.3,
    )

abbrev pub at : EngineView → Maps → List Row → Actor → (begun : Bool) → At
at e maps rows actor begun = record { engine = e; maps = maps; rows = rows; actor = actor; begun = begun }

-- a call that appends nothing
pub went_rest : (recovers : Recovering) (t : Table) (limits : State → ℕ → ℕ) (e e' : EngineView) (maps : Maps) (rows : List Row) (actor : Actor) (begun : Bool) → IsKept t limits e maps rows actor → Moments recovers t e e' e.steps
    → (e'.failed ≡ false → e'.Told × Stayed e e') → Went recovers t limits (at e maps rows actor begun) (at e' maps rows actor begun)
went_rest recovers t limits e e' maps rows actor begun k m g = record {
  made = [];
  rests = λ o. refl;
  are = tt;
  formed = k.chain.running.log;
  moments = m;
  gone = λ w. let s = (g w).1 in record {
    told = (g w).0;
    kept = acting_to s.base s.first s.steps (acting_later s.tail k);
    base = s.base;
    first = s.first;
    steps = s.steps;
    durable = s.durable;
    txn = refl;
    before = refl;
    rows = refl;
    same = λ j. kept_of limits maps.pages maps.bands (begin_of t (s.first j) (s.steps j)) (opened (s.steps j));
    begin = λ j. begin_of t (s.first j) (s.steps j);
  };
}

-- ONE RUN BEHIND ANOTHER
pub went_then : (recovers : Recovering) (t : Table) (limits : State → ℕ → ℕ) (a b c : At) → Went recovers t limits a b → b.begun ≡ a.begun → (b.engine.failed ≡ true → (c.engine.failed ≡ true) × (c.engine.disk ≡ b.engine.disk))
    → (b.engine.Told → at_kept t limits b → Went recovers t limits b c) → Went recovers t limits a c
went_then recovers t limits a b c w same_open stops next = by_failed b.engine.failed refl
  where
    went_on : (h : HasGone t limits a b w.made) → Went recovers t limits b c → Went recovers t limits a c
    went_on h n =
        let all : n.made ++ b.engine.steps ≡ (n.made ++ w.made) ++ a.engine.steps = ap (λ (xs : Steps). n.made ++ xs) h.steps ∙ sym (append_assoc n.made w.made a.engine.steps) in
        record {
          made = n.made ++ w.made;
          rests = λ o j. n.rests (same_open ∙ o) j ++ w.rests o j;
          are = changes_then t (kept_at t limits a) (begin_at t a) a.engine.first a.actor.txn.0 n.made w.made a.engine.steps w.are
              (subst (λ (q : Kept). AreChanges t q (begin_at t a) a.engine.first a.actor.txn.0 n.made (w.made ++ a.engine.steps)) h.same
              (subst (λ (x : State). AreChanges t (kept_at t limits b) x a.engine.first a.actor.txn.0 n.made (w.made ++ a.engine.steps)) h.begin
              (subst (λ (x : State). AreChanges t (kept_at t limits b) (begin_at t b) x a.actor.txn.0 n.made (w.made ++ a.engine.steps)) h.first
              (subst (λ (u : TxnId). AreChanges t (kept_at t limits b) (begin_at t b) b.engine.first u.0 n.made (w.made ++ a.engine.steps)) h.txn
              (subst (λ (rs : Steps). AreChanges t (kept_at t limits b) (begin_at t b) b.engine.first b.actor.txn.0 n.made rs) h.steps n.are)))));
          formed = subst (λ (rs : Steps). IsLog a.engine.base rs) all (subst (λ (k : ℕ). IsLog k (n.made ++ b.engine.steps)) h.base n.formed);
          moments = moments_then a.engine b.engine c.engine h.first h.durable (record { since = n.made; all = append_assoc n.made w.made a.engine.steps }) w.moments (subst (λ (rs : Steps). Moments recovers t b.engine c.engine rs) all n.moments);
          gone = λ f. let q = n.gone f in record {
            told = q.told;
            kept = q.kept;
            base = q.base ∙ h.base;
            first = q.first ∙ h.first;
            steps = q.steps ∙ all;
            durable = grows_then h.durable q.durable;
            txn = q.txn ∙ h.txn;
            before = q.before ∙ h.before;
            rows = q.rows ∙ h.rows;
            same = q.same ∙ h.same;
            begin = q.begin ∙ h.begin;
          };
        }

    by_failed : (f : Bool) → b.engine.failed ≡ f → Went recovers t limits a c
    by_failed true is =
        let st = stops is in
        record { made = w.made; rests = w.rests; are = w.are; formed = w.formed; moments = moments_stop a.engine b.engine c.engine st.1 w.moments; gone = λ f. no c.engine.failed st.0 f }
    by_failed false is = let h = w.gone is in went_on h (next h.told h.kept)

-- HOW THE DISK IS ACCOUNTED FOR: by no call,
pub accounted_same : (a : EngineSeen) → (a.Told → a.failed ≡ false) → HasAccounted a a
accounted_same a whole = record {
  stays = λ f. f;
  first = λ f. refl;
  tells = λ t f. t;
  near = λ f. inl f;
  faults = omega arith;
  heeded = λ f. refl;
  caused = λ t f n. no a.failed f (whole t);
  handed = omega arith;
  shown = inr (omega arith);
}

-- by one that makes none of the disk and fails for it as little,
shown_then : (u v w : View) (i j k : ℕ) → v.handed ≤ w.handed → IsShownEnd u v i j → IsShownEnd v w j k → IsShownEnd u w i k
shown_then u v w i j k le (inl full) q = inl (omega (arith, full, le))
shown_then u v w i j k le (inr p) (inl full) = inl full
shown_then u v w i j k le (inr p) (inr q) = inr (omega (arith, p, q))

-- and by one after another
pub accounted_then : (a b c : EngineSeen) → HasAccounted a b → HasAccounted b c → (b.failed ≡ true → (c.failed ≡ true) × (c.disk ≡ b.disk)) → b.tail ≤ c.tail → HasAccounted a c
accounted_then a b c f g stops tail = record {
  stays = λ h. g.stays (f.stays h);
  first = λ h. g.first (f.stays h) ∙ f.first h;
  tells = λ t h. g.tells (f.tells t (by_later h b.failed refl)) h;
  near = λ h. near_on (g.near h);
  faults = let x = f.faults in let y = g.faults in omega (arith, x, y);
  heeded = λ h. g.heeded h ∙ f.heeded (λ w. sym (g.first w) ∙ h (stops w).0);
  caused = λ t w n. by_mid t w n b.failed refl;
  handed = let x = f.handed in let y = g.handed in omega (arith, x, y);
  shown = shown_then a.disk b.disk c.disk a.gate b.gate c.gate g.handed f.shown g.shown;
}
  where
    by_later : c.failed ≡ false → (x : Bool) → b.failed ≡ x → b.failed ≡ false
    by_later h true is = no c.failed (stops is).0 h
    by_later h false is = is

    near_on : (b.full ≡ true) ⊎ IsNearEnd c → (a.full ≡ true) ⊎ IsNearEnd c
    near_on (inr n) = inr n
    near_on (inl h) = near_first (f.near h)
      where
        near_first : (a.full ≡ true) ⊎ IsNearEnd b → (a.full ≡ true) ⊎ IsNearEnd c
        near_first (inl k) = inl k
        near_first (inr n) = inr (omega (arith, n, tail))

    by_mid : a.Told → c.failed ≡ true → c.full ≡ false → (x : Bool) → b.failed ≡ x → HasRisen a.disk.faults c.disk.faults
    by_mid t w n true is = λ few. let e : c.disk.faults ≡ b.disk.faults = ap (λ (v : View). v.faults) (stops is).1 in
        let r : a.disk.faults < b.disk.faults = f.caused t is (sym (g.first is) ∙ n) (omega (arith, few, e)) in omega (arith, r, e)
    by_mid t w n false is = λ few. let r : b.disk.faults < c.disk.faults = g.caused (f.tells t is) w n few in let x = f.faults in omega (arith, r, x)

-- THE LAWS of the relation
pub later_same : {strict : Bool} (recovers : Table → Recovering) (limits : State → ℕ → ℕ) (t : Table) (a : ActsAt) → (a.engine.Told → a.engine.failed ≡ false) → ((from : State) → a.means t from → a.engine.Told → StandsNow (recovers t) t (led from a.engine)) → LaterBy strict recovers limits t a a
later_same recovers limits t a whole stands = record {
  told = λ h. h;
  tail = omega arith;
  faults = omega arith;
  grown = omega arith;
  begun = refl;
  pages = refl;
  bands = refl;
  accounts = accounted_same a.engine whole;
  still = λ o. refl;
  stops = λ h. (h, refl);
  means = λ from m. m;
  goes = λ from m told k. went_rest (recovers t) t limits (led from a.engine) (led from a.engine) a.maps a.rows a.actor a.begun k (moments_same (led from a.engine) (stands from m told))
      (λ w. (told, record { base = refl; first = refl; steps = refl; tail = omega arith; durable = grows_same a.engine.durable }));
  holds = λ o from m told k w h. h;
}

pub later_on : {strict : Bool} (recovers : Table → Recovering) (limits : State → ℕ → ℕ) (t : Table) (a b c : ActsAt) → LaterBy strict recovers limits t a b → LaterBy strict recovers limits t b c → LaterBy strict recovers limits t a c
later_on {strict} recovers limits t a b c f g = record {
  told = λ h. f.told (g.told h);
  tail = let x = f.tail in let y = g.tail in omega (arith, x, y);
  faults = let x = f.faults in let y = g.faults in omega (arith, x, y);
  grown = let x = f.grown in let y = g.grown in omega (arith, x, y);
  begun = g.begun ∙ f.begun;
  pages = g.pages ∙ f.pages;
  bands = g.bands ∙ f.bands;
  accounts = accounted_then a.engine b.engine c.engine f.accounts g.accounts g.stops g.tail;
  still = λ o. g.still (f.begun ∙ o) ∙ f.still o;
  stops = λ h. (let x = f.stops h in let y = g.stops x.0 in (y.0, y.1 ∙ x.1));
  means = λ from m. g.means from (f.means from m);
  goes = λ from m told k. went_then (recovers t) t limits (led_at from a) (led_at from b) (led_at from c) (f.goes from m told k) f.begun g.stops (λ told' k'. g.goes from (f.means from m) told' k');
  holds = λ o from m told k w h. by_failed o from m told k w h b.engine.failed refl;
}
  where
    by_failed : strict ≡ true → (from : State) → a.means t from → a.engine.Told → at_kept t limits (led_at from a) → c.engine.failed ≡ false → at_bands t limits (led_at from a) → (x : Bool) → b.engine.failed ≡ x → at_bands t limits (led_at from c)
    by_failed o from m told k w h true is = no c.engine.failed (g.stops is).0 w
    by_failed o from m told k w h false is = let n = (f.goes from m told k).gone is in g.holds o from (f.means from m) n.told n.kept w (f.holds o from m told k is h)

-- the same, by limits of so many pages and bands
pub later_then : {strict : Bool} (recovers : Table → Recovering) (limits : (pages bands : ℕ) → State → ℕ → ℕ) (t : Table) (a b c : ActsAt) → LaterBy strict recovers (limits (length a.maps.pages) (length a.maps.bands)) t a b → LaterBy strict recovers (limits (length b.maps.pages) (length b.maps.bands)) t b c
    → LaterBy strict recovers (limits (length a.maps.pages) (length a.maps.bands)) t a c
later_then {strict} recovers limits t a b c f g = later_on recovers (limits (length a.maps.pages) (length a.maps.bands)) t a b c f
    (subst (λ (l : State → ℕ → ℕ). LaterBy strict recovers l t b c) (λ j. limits (f.pages j) (f.bands j)) g)
