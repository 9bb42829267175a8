-- WHAT IS KNOWN BEHIND A CALL of a space over an engine.
use Rattle.std.proofs.Common.{◌≡◌, ◌≢◌, ℕ, ◌+◌, Bool, true, false, List, [], length, drop, Option, Some, None, IsSome, Result, Ok, Err, sym, ap, subst, ◌∙◌, refl}
use Rattle.std.specs.Prelude.{OnOk, OnErr, option_map, if◌then◌else◌, ◌&&◌}
use Rattle.sg_base.specs.declared.numbers.TxnId.{TxnId}
use Rattle.sg_alloc.specs.Flags.{free_of}
use Rattle.sg_alloc.specs.declared.maps.Maps.{Maps}
use Rattle.sg_ops.specs.Table.{Table}
use Rattle.sg_record.specs.Changes.{Change as Changing}
use Rattle.sg_recovery.specs.Log.{Numbered, Open, tally, is_in}
use Rattle.sg_recovery.specs.Stands.{made}
use Rattle.sg_action.specs.States.{State}
use Rattle.sg_actions.specs.Calls.{NowActs}
use Rattle.sg_actions.specs.Engine.{EngineSeen, led}
use Rattle.sg_actions.specs.Rows.{HasRow}
use Rattle.sg_actions.specs.Steps.{Step, Steps, stepped, ended, redo, repeated}
use Rattle.sg_actions.specs.View.{IsKept, HasFreedNone, Since}
use Rattle.sg_actions.specs.Taken.{is_set}
use Rattle.sg_actions.specs.declared.rows.Actor.{Actor}
use Rattle.sg_actions.specs.declared.rows.Row.{Row}
use Rattle.sg_store.specs.Engine as store
use Rattle.sg_store.specs.Engine.{Sizes, View, Action, Appended, action_of, before_open}
use Rattle.sg_store.specs.Ground.{Ground}
use Rattle.sg_actions.proofs.Chained.{no_zero}
use Rattle.sg_ground.specs.Recovers.{Recovering}
use Rattle.sg_shown.specs.Room.{SameRoom}
use Rattle.sg_shown.specs.Shown.{basis, Over, Keeping, Means, acting, shown_of}
use Rattle.sg_shown.specs.Spare.{HasSpare}
use Rattle.sg_shown.proofs.Calls.{RestsNow, HasCome, appended_of}
use Rattle.sg_shown.proofs.Holding.{Facts}
use Rattle.sg_shown.proofs.History.{own}

-- RESULTS
pub on_ok : {T F : Type 0} {P Q : Type 0} (r : Result T F) → (P → Q) → OnOk r P → OnOk r Q
on_ok (Ok x) f h = f h
on_ok (Err e) f h = tt

pub on_ok2 : {T F : Type 0} {P Q R : Type 0} (r : Result T F) → (P → Q → R) → OnOk r P → OnOk r Q → OnOk r R
on_ok2 (Ok x) f h k = f h k
on_ok2 (Err e) f h k = tt

pub on_ok3 : {T F : Type 0} {P Q R S : Type 0} (r : Result T F) → (P → Q → R → S) → OnOk r P → OnOk r Q → OnOk r R → OnOk r S
on_ok3 (Ok x) f h k l = f h k l
on_ok3 (Err e) f h k l = tt

-- one that tells behind a call that fails hasn't failed
pub by_ok : {T F : Type 0} {P : Type 0} (r : Result T F) (failed : Bool) → OnErr r (failed ≡ true) → failed ≡ false → OnOk r P → P
by_ok (Ok x) failed bad whole h = h
by_ok (Err e) failed bad whole h = absurd (let b : true ≡ false = sym bad ∙ whole in cc)

pub by_told : {T F : Type 0} {P Told : Type 0} (r : Result T F) → OnErr r (Told → ⊥) → Told → OnOk r P → P
by_told (Ok x) bad told h = h
by_told (Err e) bad told h = absurd (bad told)

-- ROOM that stays
pub room_same : (a b : Over) → b.maps ≡ a.maps → b.unfreed ≡ a.unfreed → SameRoom a b
room_same a b m u = record {
  pages = ap (λ (x : Maps). length x.pages) m;
  bands = ap (λ (x : Maps). length x.bands) m;
  page = λ p j. is_set (m j).pages p && is_set (u j).pages p;
  band = λ n j. is_set (m j).bands n && is_set (u j).bands n;
  free_pages = λ j. free_of (m j).pages + free_of (u j).pages;
  free_bands = λ j. free_of (m j).bands + free_of (u j).bands;
}

-- THE SAME VALUE, but for its breaks
pub means_with : (a b : Over) (t : Table) (z : Sizes) (from : State) → b.engine ≡ a.engine → b.means ≡ a.means → b.limits ≡ a.limits → b.maps ≡ a.maps
    → b.unfreed ≡ a.unfreed → b.rows ≡ a.rows → b.actor ≡ a.actor → b.begun ≡ a.begun → b.begin ≡ a.begin
    → Means a t z from → Means b t z from
means_with a b t z from e m l p u r c o s h =
    let moved : Over = record { engine = b.engine; means = b.means; limits = b.limits; start = a.start; maps = b.maps; unfreed = b.unfreed; rows = b.rows; actor = b.actor; begun = b.begun; begin = b.begin; breaks = a.breaks; room = a.room } in
    let same : moved ≡ a = λ j. record { engine = e j; means = m j; limits = l j; start = a.start; maps = p j; unfreed = u j; rows = r j; actor = c j; begun = o j; begin = s j; breaks = a.breaks; room = a.room } in
    let q : Means moved t z from = subst (λ (x : Over). Means x t z from) (sym same) h in
    record {
      since = q.since;
      size = q.size;
      pages = q.pages;
      bands = q.bands;
      limits = q.limits;
      keeps = λ told. let k = q.keeps told in record { kept = k.kept; rest = k.rest; fresh = k.fresh; begin = k.begin; now = k.now; counted = k.counted; map = k.map; spare = k.spare };
    }

-- A RECORD THAT ENDS WHAT WAS OPEN leaves nobody acting
pub rests_now : (b : Over) (t : Table) (z : Sizes) (from : State) (steps : Steps) (lsn : ℕ) (x : Step)
    → IsKept t (b.limits z.pages z.bands) (led from b.engine) b.maps b.rows b.actor → b.engine.steps ≡ stepped steps lsn x
    → ended (stepped steps lsn x) ≡ stepped steps lsn x
    → redo t x (repeated t from steps) ≡ repeated t from steps → b.actor.txn.0 ≡ 0 → HasFreedNone b.unfreed → HasSpare b.engine.steps b.rows
    → RestsNow b t z from (repeated t from steps)
rests_now b t z from steps lsn x kept is border same system freed spare = record {
  kept = kept;
  rest = record { idle = subst (λ (rs : Steps). ended rs ≡ rs) (sym is) border; system = system; freed = freed };
  now = ap (repeated t from) is ∙ same;
  spare = spare;
}

-- what is kept, of equal parts
pub kept_with : {t : Table} {limits : State → ℕ → ℕ} {from : State} (e : EngineSeen) {maps maps' : Maps} {rows rows' : List Row} {actor actor' : Actor}
    → maps' ≡ maps → rows' ≡ rows → actor' ≡ actor → IsKept t limits (led from e) maps rows actor → IsKept t limits (led from e) maps' rows' actor'
kept_with {t} {limits} {from} e {maps} {maps'} {rows} {rows'} {actor} {actor'} m r a k =
    subst (λ (x : Maps). IsKept t limits (led from e) x rows' actor') (sym m)
    (subst (λ (x : List Row). IsKept t limits (led from e) maps x actor') (sym r)
    (subst (λ (x : Actor). IsKept t limits (led from e) maps rows x) (sym a) k))

-- A RECORD WAS APPENDED
pub record IsDone (recovers : Recovering) (a b : Over) (t : Table) (z : Sizes) (from : State) (e : EngineSeen) (lsn : ℕ) (x : Step) : Type 0 where
  pub told : b.engine.Told
  pub come : HasCome e b.engine lsn x
  pub means : Means b t z from
  pub facts : Facts recovers b t from
  pub room : SameRoom a b
  pub begun : b.begun ≡ false

pub done_appended : {recovers : Recovering} {a b : Over} {t : Table} {z : Sizes} {from : State} (e : EngineSeen) (lsn : ℕ) (x : Step) → e ≡ a.engine
    → IsDone recovers a b t z from e lsn x
    → Appended t (basis recovers z) (store.led t z from (shown_of recovers a)) (store.led t z from (shown_of recovers b)) (record { lsn = lsn; is = x })
done_appended {recovers} {a} {b} {t} {z} {from} e lsn x is d = appended_of recovers a b t z from lsn x e is d.come d.means d.told d.facts d.room d.begun

-- AN ACTION THAT BEGINS: what was kept where nobody acts is kept
abbrev acted : (m : Over) → Actor → (begin : State) → Over
acted m actor begin = record { engine = m.engine; means = m.means; limits = m.limits; start = m.start; maps = m.maps; unfreed = m.unfreed; rows = m.rows; actor = actor; begun = true; begin = begin; breaks = m.breaks; room = m.room }

acted_means : (m : Over) (actor : Actor) (t : Table) (z : Sizes) (from : State) (txn : ℕ) → Means m t z from → m.begun ≡ false
    → NowActs t (m.limits z.pages z.bands) (led from m.engine) m.maps m.rows m.actor actor txn
    → Means (acted m actor (repeated t from m.engine.steps)) t z from
acted_means m actor t z from txn h quiet now = record {
  since = record { stands = h.since.stands; since = λ o told. ap (repeated t from) ((h.keeps told).rest quiet).idle };
  size = h.size;
  pages = h.pages;
  bands = h.bands;
  limits = h.limits;
  keeps = λ told. let k = h.keeps told in record { kept = now.kept told k.kept; rest = λ f. absurd (let w : true ≡ false = f in cc); fresh = k.fresh; begin = k.begin; now = k.now; counted = k.counted; map = k.map; spare = k.spare };
}

pub act_means : (m b : Over) (t : Table) (z : Sizes) (from : State) (txn : ℕ) → Means m t z from → m.begun ≡ false → b.engine ≡ m.engine → b.means ≡ m.means
    → b.limits ≡ m.limits → b.maps ≡ m.maps → b.unfreed ≡ m.unfreed → b.rows ≡ m.rows → b.begun ≡ true
    → NowActs t (m.limits z.pages z.bands) (led from m.engine) m.maps m.rows m.actor b.actor txn → Since b.means b.engine b.begun b.begin t from
    → Means b t z from
act_means m b t z from txn h quiet e s l p u r opens now since =
    let begin : State = repeated t from m.engine.steps in
    let next : Over = acted m b.actor begin in
    let moved : Over = record { engine = b.engine; means = b.means; limits = b.limits; start = m.start; maps = b.maps; unfreed = b.unfreed; rows = b.rows; actor = b.actor; begun = true; begin = begin; breaks = m.breaks; room = m.room } in
    let same : moved ≡ next = λ j. record { engine = e j; means = s j; limits = l j; start = m.start; maps = p j; unfreed = u j; rows = r j; actor = b.actor; begun = true; begin = begin; breaks = m.breaks; room = m.room } in
    let q : Means moved t z from = subst (λ (x : Over). Means x t z from) (sym same) (acted_means m b.actor t z from txn h quiet now) in
    record {
      since = since;
      size = q.size;
      pages = q.pages;
      bands = q.bands;
      limits = q.limits;
      keeps = λ told. let k = q.keeps told in record { kept = k.kept; rest = λ f. absurd (let w : true ≡ false = sym opens ∙ f in cc); fresh = k.fresh; begin = k.begin; now = k.now; counted = k.counted; map = k.map; spare = k.spare };
    }

-- WHOSE ACTION was begun
pub acting_is : (begun : Bool) (txn : TxnId) (who : Option TxnId) → who ≡ (if begun then Some txn else None) → option_map (λ u. u.0) who ≡ acting begun txn.0
acting_is true txn who e = ap (option_map (λ (u : TxnId). u.0)) e
acting_is false txn who e = ap (option_map (λ (u : TxnId). u.0)) e

-- what an action that has begun shows
pub view_acts : (recovers : Recovering) (a b : Over) (t : Table) (z : Sizes) (from : State) (txn : ℕ) → b.engine ≡ a.engine → SameRoom a b
    → b.breaks ≡ a.breaks → b.begun ≡ true → b.actor.txn.0 ≡ txn → (tally a.engine.steps).opened ≡ []
    → store.led t z from (shown_of recovers b) ≡ record (store.led t z from (shown_of recovers a)) { action = Some (record { transaction = txn; pages = made (own recovers t z) from a.engine.steps }) }
view_acts recovers a b t z from txn e room k opens who idle = λ j. record {
  disk = (e j).disk;
  base = (e j).base;
  first = from;
  log = (e j).steps;
  durable = (e j).durable;
  tail = (e j).tail;
  action = action j;
  free_pages = room.free_pages j;
  free_bands = room.free_bands j;
  faults = (e j).faults + k j;
}
  where
    all : before_open a.engine.steps ≡ a.engine.steps
    all = ap (λ (ds : List (Open Changing)). drop (length ds) a.engine.steps) idle

    action : action_of t (basis recovers z) from b.engine.steps (acting b.begun b.actor.txn.0) ≡ Some (record { transaction = txn; pages = made (own recovers t z) from a.engine.steps })
    action =
        let one : action_of t (basis recovers z) from b.engine.steps (acting b.begun b.actor.txn.0) ≡ action_of t (basis recovers z) from a.engine.steps (acting true txn) = λ j. action_of t (basis recovers z) from (e j).steps (acting (opens j) (who j)) in
        one ∙ ap (λ (rs : Steps). Some (record { transaction = txn; pages = made (own recovers t z) from rs })) all

pub on_err : {T F : Type 0} {P Q : Type 0} (r : Result T F) → (P → Q) → OnErr r P → OnErr r Q
on_err (Ok x) f h = tt
on_err (Err e) f h = f h

-- BEHIND A CALL THAT FAILS no more is told
pub untold : (a b : Over) (t : Table) (z : Sizes) (from : State) → Means a t z from → length b.maps.pages ≡ length a.maps.pages
    → length b.maps.bands ≡ length a.maps.bands → b.limits ≡ a.limits → b.means t from → (b.engine.Told → ⊥) → Means b t z from
untold a b t z from h p n l stands never = record {
  since = record { stands = stands; since = λ o told. absurd (never told) };
  size = h.size;
  pages = p ∙ h.pages;
  bands = n ∙ h.bands;
  limits = ap (λ (f : (pages bands : ℕ) → State → ℕ → ℕ). f z.pages z.bands) l ∙ h.limits;
  keeps = λ told. absurd (never told);
}

-- A LIVE TRANSACTION has a row
pub live_row : {a : Over} {t : Table} {z : Sizes} {from : State} (u : ℕ) → Keeping a t z from → a.actor.txn.0 ≡ 0
    → is_in u (tally a.engine.steps).live ≡ true → HasRow a.rows u
live_row {a} u k system live =
    let ne : u ≢ a.actor.txn.0 = λ e. no_zero a.engine.steps u k.kept.chain.running.system live (e ∙ system) in
    subst IsSome (sym (k.kept.chain.rows_are.others u ne live)) refl

-- WHO ACTS, by what is shown
abbrev some_txn : {g : Ground} → ℕ → Option (Action g) → ℕ
some_txn n None = n
some_txn n (Some a) = a.transaction

pub acts_txn : (t : Table) (g : Ground) (from : g.X) (log : List (Numbered g.C g.N)) (begun : Bool) (txn : ℕ) (a : Action g)
    → action_of t g from log (acting begun txn) ≡ Some a → (begun ≡ true) × (txn ≡ a.transaction)
acts_txn t g from log true txn a e = (refl, ap (some_txn {g = g} 0) e)
acts_txn t g from log false txn a e = absurd (let w : ◌≡◌ {A = Option (Action g)} None (Some a) = e in cc)

-- no more is told behind a call that has failed
pub silent_of : {T F : Type 0} {Told : Type 0} (r : Result T F) (failed : Bool) → (Told → failed ≡ false) → OnErr r (failed ≡ true) → OnErr r (Told → ⊥)
silent_of (Ok x) failed whole h = tt
silent_of (Err e) failed whole h = λ told. let b : true ≡ false = sym h ∙ whole told in absurd cc
