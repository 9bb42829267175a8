-- What one call hands through.
use mathlib.Core.Logic.{∥∥₁_elim}
use Rattle.std.proofs.Common.{◌≡◌, ℕ, ◌+◌, ◌*◌, ◌<◌, ◌≤◌, List, [], ◌∷◌, Some, None, length, Bool, true, false, sym, ap, subst, ◌∙◌, refl, arith}
use Rattle.std.proofs.Props.{props}
use Rattle.std.specs.Prelude.{IsSome, map, Result, Ok, Err, OnOk, OnErr, IfOk}
use Rattle.sg_alloc.specs.declared.maps.Maps.{Maps}
use Rattle.sg_ops.specs.Laws.{IsLawful}
use Rattle.sg_ops.specs.Table.{Table, fresh_table}
use Rattle.sg_record.specs.Changes.{Change as Changing}
use Rattle.sg_record.specs.Records.Says.{Changed as SaysChanged}
use Rattle.sg_record.specs.Ranges.{IsRecord}
use Rattle.sg_record.specs.Records.{Record, spelled}
use Rattle.sg_record.specs.Shown.{by}
use Rattle.sg_space.specs.declared.space.SpaceFault.{SpaceFault}
use Rattle.sg_recovery.specs.Log.{tally, changes_of}
use Rattle.sg_recovery.specs.Log.Record.{Change}
use Rattle.sg_action.specs.Opened.{TakesTo}
use Rattle.sg_action.specs.States.{State, Kept}
use Rattle.sg_actions.specs.Changes.{meaning}
use Rattle.sg_actions.specs.Engine.{EngineView, EngineSeen, EngineGrows, EngineRests, Logs, EngineLooks, Moments, AreBy, now_of, led}
use Rattle.sg_actions.specs.Led.{Appended, HasLogged, Stayed, HasStayed}
use Rattle.sg_actions.specs.Images.{Recovering}
use Rattle.sg_actions.specs.Later.{Went, LaterBy, KeepsBands, acts_at}
use Rattle.sg_actions.specs.Steps.{Step, Steps, step_of, with_step, stepped, opened, begin_of, repeated}
use Rattle.sg_actions.specs.Taken.{kept_of, AreSaid}
use Rattle.sg_actions.specs.View.{IsActing, IsKept, Since}
use Rattle.sg_actions.specs.declared.rows.Actor.{Actor}
use Rattle.sg_actions.specs.declared.rows.Row.{Row}
use Rattle.sg_actions.specs.Onward.{at, went_rest, acting_to}
use Rattle.sg_actions.proofs.Accounting.{accounted_by, still_full}
use Rattle.sg_actions.proofs.Chained.{later}
use Rattle.sg_actions.proofs.Repeating.{says_redone}
use Rattle.sg_actions.proofs.InRange.{change_short}
use Rattle.sg_actions.proofs.Led.{log_call, look_call, Made, made_prop, made_by, Same, same_prop, same_by, by_some}
use Rattle.sg_actions.proofs.TakenOff.{take_off_begins}

no : {P : Type 0} (b : Bool) → b ≡ true → b ≡ false → P
no b t f = absurd cc

-- what is known of the call that logs a change, where it hasn't failed
pub record HasDone (e e' : EngineView) (actor new : Actor) (c : Changing) : Type 0 where
  pub told : e'.Told
  pub logged : Appended e e' (by actor.txn.0 actor.last (SaysChanged c)) e'.tried
  pub is : new ≡ later actor e'.tried

-- the open action may go on with this change, whatever number its record has
abbrev pub MayGoOn : Table → (State → ℕ → ℕ) → EngineView → (maps' : Maps) → List Row → Actor → Changing → Type 0
MayGoOn t limits e maps' rows actor c = (lsn next : ℕ) → e.tail ≤ lsn → lsn < next → IsActing t limits e.base e.first (stepped e.steps lsn (Change actor.txn.0 actor.last c)) next maps'.pages maps'.bands rows (later actor lsn)

-- A CALL THAT LOGS A CHANGE
pub went_log : (recovers : Recovering) (t : Table) (limits : State → ℕ → ℕ) (e e' : EngineView) (maps maps' : Maps) (rows : List Row) (actor new : Actor) (begun : Bool) (c : Changing) → begun ≡ true → IsLawful t → IsKept t limits e maps rows actor → e.tail ≤ e'.tried
    → Moments recovers t e e' (stepped e.steps e'.tried (Change actor.txn.0 actor.last c)) → MayGoOn t limits e maps' rows actor c
    → kept_of limits maps'.pages maps'.bands (begin_of t e.first e.steps) (meaning c ∷ opened e.steps) ≡ kept_of limits maps.pages maps.bands (begin_of t e.first e.steps) (opened e.steps)
    → (e'.failed ≡ false → HasDone e e' actor new c) → Went recovers t limits (at e maps rows actor begun) (at e' maps' rows new begun)
went_log recovers t limits e e' maps maps' rows actor new begun c opens law k above m on same g = record {
  rests = λ o. no begun opens o;
  made = record { lsn = e'.tried; is = Change actor.txn.0 actor.last c } ∷ [];
  are = (
    (actor.last, c, refl),
    (let below = k.chain.running.below in omega (arith, below, above)),
    subst (λ (q : Kept). TakesTo t q (begin_of t e.first e.steps) (map meaning (changes_of (tally rs).opened)) (repeated t e.first rs)) same
        (take_off_begins t law limits e.base e.first rs maps'.pages maps'.bands (e'.tried + 1) rows (later actor e'.tried) then.chain then.well).takes,
    tt,
  );
  formed = then.chain.running.log;
  moments = m;
  gone = λ w. let h = g w in let s = h.logged in record {
    told = h.told;
    kept = subst (λ (n : Actor). IsActing t limits e'.base e'.first e'.steps e'.tail maps'.pages maps'.bands rows n) (sym h.is) (acting_to s.base s.first s.steps (on e'.tried e'.tail above s.tail));
    base = s.base;
    first = s.first;
    steps = s.steps;
    durable = s.durable;
    txn = ap (λ (n : Actor). n.txn) h.is;
    before = ap (λ (n : Actor). n.before) h.is;
    rows = refl;
    same = (λ j. kept_of limits maps'.pages maps'.bands (begin_of t (s.first j) (s.steps j)) (opened (s.steps j))) ∙ same;
    begin = λ j. begin_of t (s.first j) (s.steps j);
  };
}
  where
    rs : Steps
    rs = stepped e.steps e'.tried (Change actor.txn.0 actor.last c)

    then : IsActing t limits e.base e.first rs (e'.tried + 1) maps'.pages maps'.bands rows (later actor e'.tried)
    then = on e'.tried (e'.tried + 1) above (omega arith)

-- a look
looked : {T : Type 0} (e e' : EngineView) (r : Result T SpaceFault) → OnErr r (e'.failed ≡ true) → OnOk r (HasStayed e e') → e.Told → e'.failed ≡ false → e'.Told × Stayed e e'
looked e e' (Ok x) bad good told w = (good.told told, good.stays told)
looked e e' (Err x) bad good told w = no e'.failed bad w

-- what is known of one, by the operations that an engine's records are of: that they stay, and that it hasn't failed where it tells
pub record LooksBy {T : Type 0} (recovers : Table → Recovering) (t : Table) (e e' : EngineSeen) (m m' : Table → State → Type 0) (r : Result T SpaceFault) : Type 0 where
  pub rests : EngineRests e e' r
  pub keeps : (from : State) → m t from → m' t from
  pub looks : (from : State) → m t from → EngineLooks (recovers t) t (led from e) (led from e') r
  pub whole : e'.Told → e'.failed ≡ false
  pub full : e.full ≡ true → e.failed ≡ true
  pub now : (from : State) → m t from → e.Told → e.now ≡ now_of t (led from e)
  pub now' : (from : State) → m' t from → e'.Told → e'.now ≡ now_of t (led from e')

looked_by : {T : Type 0} {recovers : Table → Recovering} {t : Table} {e e' : EngineSeen} {m m' : Table → State → Type 0} {r : Result T SpaceFault} (from : State) → LooksBy recovers t e e' m m' r → m t from → e.Told → e'.failed ≡ false → e'.Told × Stayed (led from e) (led from e')
looked_by {T} {recovers} {t} {e} {e'} {m} {m'} {r} from h s told w = let l = look_call from h.rests (h.looks from s) in looked (led from e) (led from e') r l.counts.failed l.stays told w

-- WHAT THE ENGINE SHOWS stays, where it still tells
pub same_look : {T : Type 0} {recovers : Table → Recovering} {t : Table} {e e' : EngineSeen} {m m' : Table → State → Type 0} {r : Result T SpaceFault} → AreBy m t → LooksBy recovers t e e' m m' r → e.Told → e'.Told → Same e e'
same_look {T} {recovers} {t} {e} {e'} stands h told told' = ∥∥₁_elim stands (same_prop e e') (λ f. same_by t f.0 (h.now f.0 f.1 told) (h.now' f.0 (h.keeps f.0 f.1) told') (looked_by f.0 h f.1 told (h.whole told')).1.steps)

-- whatever the operations are
pub same_any : {T : Type 0} {recovers : Table → Recovering} {e e' : EngineSeen} {m m' : Table → State → Type 0} {r : Result T SpaceFault} → (e.Told → ∥ ((t : Table) × (from : State) × m t from) ∥₁) → ((t : Table) → LooksBy recovers t e e' m m' r) → e.Told → e'.Told → Same e e'
same_any {T} {recovers} {e} {e'} {m} some h told told' = by_some m (some told) (same_prop e e') (λ t stands. same_look stands (h t) told told')

pub said_any : {T : Type 0} {recovers : Table → Recovering} {e e' : EngineSeen} {m m' : Table → State → Type 0} {r : Result T SpaceFault} (pages : List Bool) → (e.Told → ∥ ((t : Table) × (from : State) × m t from) ∥₁) → ((t : Table) → LooksBy recovers t e e' m m' r)
    → (e'.Told → e.Told) → (e.Told → AreSaid pages e.now.pages) → e'.Told → AreSaid pages e'.now.pages
said_any {T} {recovers} {e} {e'} pages some h back said told' = let told = back told' in subst (λ (x : State). AreSaid pages x.pages) (sym (same_any some h told told').now) (said told)

pub later_look : {T : Type 0} {strict : Bool} (recovers : Table → Recovering) (limits : State → ℕ → ℕ) (t : Table) (e e' : EngineSeen) (m m' : Table → State → Type 0) (begin : State) (maps : Maps) (rows : List Row) (actor : Actor) (begun : Bool) (r : Result T SpaceFault) → LooksBy recovers t e e' m m' r
    → LaterBy strict recovers limits t (acts_at e m begin maps rows actor begun) (acts_at e' m' begin maps rows actor begun)
later_look recovers limits t e e' m m' begin maps rows actor begun r h = record {
  begun = refl;
  pages = refl;
  bands = refl;
  told = h.rests.counts.told;
  tail = h.rests.counts.tail;
  faults = h.rests.counts.later;
  grown = let x = h.rests.tail in let y = h.rests.records in omega (arith, x, y);
  accounts = accounted_by e e' r h.whole h.full h.rests.counts;
  still = λ o. still_full e e' r h.rests.only_disk h.rests.counts;
  stops = h.rests.counts.stops;
  means = λ from s. record { stands = h.keeps from s.stands; since = λ o told'. let told = h.rests.counts.told told' in ap (begin_of t from) (looked_by from h s.stands told (h.whole told')).1.steps ∙ s.since o told };
  goes = λ from s told k. went_rest (recovers t) t limits (led from e) (led from e') maps rows actor begun k ((h.looks from s.stands).moments told) (looked_by from h s.stands told);
  holds = λ o from s told k w j. subst (λ (rs : Steps). KeepsBands t (kept_of limits maps.pages maps.bands (begin_of t from rs) (opened rs)) (opened rs) maps.bands) (sym (looked_by from h s.stands told w).1.steps) j;
}

-- and a change
done : (e e' : EngineView) (actor new : Actor) (c : Changing) (r : Result ℕ SpaceFault) → OnErr r (e'.failed ≡ true) → IfOk r (HasLogged e e' (by actor.txn.0 actor.last (SaysChanged c))) → IfOk r (λ lsn. new ≡ later actor lsn) → e.Told → e'.failed ≡ false
    → HasDone e e' actor new c
done e e' actor new c (Ok lsn) bad good is told w = record {
  told = good.told told;
  logged = subst (Appended e e' (by actor.txn.0 actor.last (SaysChanged c))) good.tried (good.logged told);
  is = is ∙ ap (later actor) good.tried;
}
done e e' actor new c (Err x) bad good is told w = no e'.failed bad w

-- what is known of a call that appends a record, by the operations that an engine's records are of
pub record LogsBy (recovers : Table → Recovering) (t : Table) (e e' : EngineSeen) (m m' : Table → State → Type 0) (x : Record) (r : Result ℕ SpaceFault) : Type 0 where
  pub grows : EngineGrows e e' x r
  pub keeps : (from : State) → m t from → m' t from
  pub logs : (from : State) → m t from → Logs (recovers t) t (led from e) (led from e') x r
  pub whole : e'.Told → e'.failed ≡ false
  pub full : e.full ≡ true → e.failed ≡ true
  pub now : (from : State) → m t from → e.Told → e.now ≡ now_of t (led from e)
  pub now' : (from : State) → m' t from → e'.Told → e'.now ≡ now_of t (led from e')
  pub law : (from : State) → m t from → IsLawful t

-- what is kept goes on with a change, wherever the steps lead from
pub record MayBeMade (strict : Bool) (t : Table) (limits : State → ℕ → ℕ) (e : EngineSeen) (m : Table → State → Type 0) (begin : State) (maps maps' : Maps) (rows : List Row) (actor : Actor) (begun : Bool) (c : Changing) : Type 0 where
  pub on : (from : State) → Since m e begun begin t from → e.Told → IsKept t limits (led from e) maps rows actor → MayGoOn t limits (led from e) maps' rows actor c
  pub same : (from : State) → m t from → e.Told → kept_of limits maps'.pages maps'.bands (begin_of t from e.steps) (meaning c ∷ opened e.steps) ≡ kept_of limits maps.pages maps.bands (begin_of t from e.steps) (opened e.steps)
  pub pages : length maps'.pages ≡ length maps.pages
  pub bands : length maps'.bands ≡ length maps.bands
  pub holds : strict ≡ true → (from : State) → Since m e begun begin t from → e.Told → KeepsBands t (kept_of limits maps.pages maps.bands (begin_of t from e.steps) (opened e.steps)) (opened e.steps) maps.bands
      → KeepsBands t (kept_of limits maps.pages maps.bands (begin_of t from e.steps) (opened e.steps)) (meaning c ∷ opened e.steps) maps'.bands

done_by : {recovers : Table → Recovering} {t : Table} {e e' : EngineSeen} {m m' : Table → State → Type 0} (actor new : Actor) (c : Changing) {r : Result ℕ SpaceFault} (from : State) → LogsBy recovers t e e' m m' (by actor.txn.0 actor.last (SaysChanged c)) r → IfOk r (λ lsn. new ≡ later actor lsn)
    → m t from → e.Told → e'.failed ≡ false → HasDone (led from e) (led from e') actor new c
done_by {recovers} {t} {e} {e'} actor new c {r} from h is s told w = done (led from e) (led from e') actor new c r h.grows.counts.failed (log_call from h.grows (h.logs from s)).did is told w

-- a change that was logged, or wasn't
grown_log : (e e' : EngineSeen) (x : Record) (r : Result ℕ SpaceFault) → 5 + length (spelled x) ≤ 16422 → OnOk r (e'.records ≡ e.records + 1) → OnErr r (e'.records ≡ e.records) → OnErr r (e'.tail ≡ e.tail) → e'.tail ≤ e.tail + (5 + length (spelled x))
    → e'.tail + 16422 * e.records ≤ e.tail + 16422 * e'.records
grown_log e e' x (Ok lsn) short counted same back grown = omega (arith, short, counted, grown)
grown_log e e' x (Err f) short counted same back grown = omega (arith, same, back)

pub later_log : {strict : Bool} (recovers : Table → Recovering) (limits : State → ℕ → ℕ) (t : Table) (e e' : EngineSeen) (m m' : Table → State → Type 0) (begin : State) (maps maps' : Maps) (rows : List Row) (actor new : Actor) (begun : Bool) (c : Changing) (r : Result ℕ SpaceFault) → begun ≡ true
    → IsRecord (by actor.txn.0 actor.last (SaysChanged c)) → LogsBy recovers t e e' m m' (by actor.txn.0 actor.last (SaysChanged c)) r → IfOk r (λ lsn. new ≡ later actor lsn) → MayBeMade strict t limits e m begin maps maps' rows actor begun c
    → LaterBy strict recovers limits t (acts_at e m begin maps rows actor begun) (acts_at e' m' begin maps' rows new begun)
later_log recovers limits t e e' m m' begin maps maps' rows actor new begun c r opens range h is may = record {
  begun = refl;
  pages = may.pages;
  bands = may.bands;
  told = h.grows.counts.told;
  tail = h.grows.counts.tail;
  faults = h.grows.counts.later;
  grown = grown_log e e' (by actor.txn.0 actor.last (SaysChanged c)) r (change_short actor.txn.0 actor.last c range) h.grows.counted h.grows.same h.grows.back h.grows.grown;
  accounts = accounted_by e e' r h.whole h.full h.grows.counts;
  still = λ o. no begun opens o;
  stops = h.grows.counts.stops;
  means = λ from s. record {
    stands = h.keeps from s.stands;
    since = λ o told'. let told = h.grows.counts.told told' in ap (begin_of t from) (done_by actor new c from h is s.stands told (h.whole told')).logged.steps ∙ s.since o told;
  };
  goes = λ from s told k. let l = h.logs from s.stands in went_log (recovers t) t limits (led from e) (led from e') maps maps' rows actor new begun c opens (h.law from s.stands) k (l.above told) (l.moments told) (may.on from s told k) (may.same from s.stands told)
      (done_by actor new c from h is s.stands told);
  holds = λ o from s told k w j.
      subst (λ (rs : Steps). KeepsBands t (kept_of limits maps'.pages maps'.bands (begin_of t from rs) (opened rs)) (opened rs) maps'.bands) (sym (done_by actor new c from h is s.stands told w).logged.steps)
      (subst (λ (q : Kept). KeepsBands t q (meaning c ∷ opened e.steps) maps'.bands) (sym (may.same from s.stands told)) (may.holds o from s told j));
}

-- the same, where the record holds a change that is this one
pub later_log_as : {strict : Bool} (recovers : Table → Recovering) (limits : State → ℕ → ℕ) (t : Table) (e e' : EngineSeen) (m m' : Table → State → Type 0) (begin : State) (maps maps' : Maps) (rows : List Row) (actor new : Actor) (begun : Bool) (d c : Changing) (r : Result ℕ SpaceFault) → begun ≡ true → d ≡ c
    → IsRecord (by actor.txn.0 actor.last (SaysChanged d)) → LogsBy recovers t e e' m m' (by actor.txn.0 actor.last (SaysChanged d)) r → IfOk r (λ lsn. new ≡ later actor lsn) → MayBeMade strict t limits e m begin maps maps' rows actor begun c
    → LaterBy strict recovers limits t (acts_at e m begin maps rows actor begun) (acts_at e' m' begin maps' rows new begun)
later_log_as recovers limits t e e' m m' begin maps maps' rows actor new begun d c r opens same range h is may =
    later_log recovers limits t e e' m m' begin maps maps' rows actor new begun c r opens (subst (λ (x : Changing). IsRecord (by actor.txn.0 actor.last (SaysChanged x))) same range) (subst (λ (x : Changing). LogsBy recovers t e e' m m' (by actor.txn.0 actor.last (SaysChanged x)) r) same h) is may

-- WHAT THE ENGINE SHOWS behind a change, where it still tells
pub made_log : (recovers : Table → Recovering) (m m' : Table → State → Type 0) {t : Table} {e e' : EngineSeen} {x : Record} {s : Step} {r : Result ℕ SpaceFault} → AreBy m t → LogsBy recovers t e e' m m' x r → step_of x ≡ Some s → e.Told → e'.Told → Made t e e' s e'.tried
made_log recovers m m' {t} {e} {e'} {x} {s} {r} stands h is told told' = ∥∥₁_elim stands (made_prop t e e' s e'.tried) (λ f. made_by f.0 (h.now f.0 f.1 told) (h.now' f.0 (h.keeps f.0 f.1) told') (steps f.0 r h.grows.counts.failed (log_call f.0 h.grows (h.logs f.0 f.1)).did))
  where
    steps : (from : State) (q : Result ℕ SpaceFault) → OnErr q (e'.failed ≡ true) → IfOk q (HasLogged (led from e) (led from e') x) → e'.steps ≡ stepped e.steps e'.tried s
    steps from (Err f) bad good = no e'.failed bad (h.whole told')
    steps from (Ok lsn) bad good = (good.logged told).steps ∙ (ap (with_step e.steps lsn) is ∙ ap (λ (n : ℕ). stepped e.steps n s) good.tried)

-- and each page that said something says something, also of those that were taken
pub said_log : (recovers : Table → Recovering) (m m' : Table → State → Type 0) {t : Table} {e e' : EngineSeen} {x : Record} {s : Step} {r : Result ℕ SpaceFault} (pages : List Bool) → (e.Told → AreBy m t) → LogsBy recovers t e e' m m' x r → step_of x ≡ Some s → (e.Told → AreSaid pages e.now.pages) → e'.Told → AreSaid pages e'.now.pages
said_log recovers m m' {t} {e} {e'} {x} {s} pages stands h is said told' n set =
    let told = h.grows.counts.told told' in
    subst (λ (y : State). IsSome (y.pages n)) (sym (made_log recovers m m' (stands told) h is told told').now) (says_redone t e.now s n (said told n set))

pub said_log_any : (recovers : Table → Recovering) (m m' : Table → State → Type 0) {e e' : EngineSeen} {x : Record} {s : Step} {r : Result ℕ SpaceFault} (pages : List Bool) → (e.Told → ∥ ((t : Table) × (from : State) × m t from) ∥₁) → ((t : Table) → LogsBy recovers t e e' m m' x r) → step_of x ≡ Some s → (e.Told → AreSaid pages e.now.pages)
    → e'.Told → AreSaid pages e'.now.pages
said_log_any recovers m m' {e} {e'} pages some h is said told' n set = by_some m (some ((h fresh_table).grows.counts.told told')) (hlevel props) (λ t stands. said_log recovers m m' pages (λ told. stands) (h t) is said told' n set)

-- A record that is no step changes nothing
pub same_log : (recovers : Table → Recovering) (m m' : Table → State → Type 0) {t : Table} {e e' : EngineSeen} {x : Record} {r : Result ℕ SpaceFault} → AreBy m t → LogsBy recovers t e e' m m' x r → step_of x ≡ None → e.Told → e'.Told → Same e e'
same_log recovers m m' {t} {e} {e'} {x} {r} stands h is told told' = ∥∥₁_elim stands (same_prop e e') (λ f. same_by t f.0 (h.now f.0 f.1 told) (h.now' f.0 (h.keeps f.0 f.1) told') (steps f.0 r h.grows.counts.failed (log_call f.0 h.grows (h.logs f.0 f.1)).did))
  where
    steps : (from : State) (q : Result ℕ SpaceFault) → OnErr q (e'.failed ≡ true) → IfOk q (HasLogged (led from e) (led from e') x) → e'.steps ≡ e.steps
    steps from (Err f) bad good = no e'.failed bad (h.whole told')
    steps from (Ok lsn) bad good = (good.logged told).steps ∙ ap (with_step e.steps lsn) is

pub said_none_any : (recovers : Table → Recovering) (m m' : Table → State → Type 0) {e e' : EngineSeen} {x : Record} {r : Result ℕ SpaceFault} (pages : List Bool) → (e.Told → ∥ ((t : Table) × (from : State) × m t from) ∥₁) → ((t : Table) → LogsBy recovers t e e' m m' x r) → step_of x ≡ None → (e'.Told → e.Told)
    → (e.Told → AreSaid pages e.now.pages) → e'.Told → AreSaid pages e'.now.pages
said_none_any recovers m m' {e} {e'} pages some h is back said told' =
    let told = back told' in
    subst (λ (y : State). AreSaid pages y.pages) (sym (by_some m (some told) (same_prop e e') (λ t stands. same_log recovers m m' stands (h t) is told told')).now) (said told)
