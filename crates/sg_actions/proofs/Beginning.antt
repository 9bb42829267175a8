-- What is kept at the begin of a transaction, and where one acts.
use Rattle.std.proofs.Common.{◌≡◌, ◌≢◌, ℕ, ◌+◌, ◌<◌, ◌≤◌, List, [], ◌∷◌, length, Some, None, Bool, sym, ap, subst, ◌∙◌, refl, arith, false}
use Rattle.std.specs.Prelude.{map, Result}
use Rattle.sg_alloc.specs.declared.maps.Maps.{Maps}
use Rattle.sg_base.specs.declared.numbers.TxnId.{TxnId}
use Rattle.sg_ops.specs.Table.{Table}
use Rattle.sg_record.specs.Records.Says.{Begin as SaysBegin}
use Rattle.sg_record.specs.Shown.{by}
use Rattle.sg_recovery.specs.Log.Record.{Begin, Change, TopEnd, PhysComp, TopVoid, CompEnd, Save, Commit, End}
use Rattle.sg_action.specs.States.{State, Change as Changed}
use Rattle.sg_actions.specs.Acting.{IsWell, IsChained}
use Rattle.sg_actions.specs.Calls.{Appends, IsRoomy, IsActable, CanBegin, Begun, CanAct, NowActs}
use Rattle.sg_actions.specs.Changes.{meaning}
use Rattle.sg_actions.specs.Engine.{EngineView, Moments, seen}
use Rattle.sg_actions.specs.Led.{Appended, HasLogged, HasStayed, LogCall}
use Rattle.sg_actions.specs.Images.{Recovering}
use Rattle.sg_actions.specs.Onward.{acting_to, acting_later}
use Rattle.sg_space.specs.declared.space.SpaceFault.{SpaceFault}
use Rattle.sg_actions.specs.Rows.{last_in, placed}
use Rattle.sg_actions.specs.Steps.{Step, Steps, stepped, repeated, with_change, logged, opened, but_change, ended, begin_of}
use Rattle.sg_actions.specs.View.{IsKept}
use Rattle.sg_actions.specs.declared.rows.Actor.{Actor}
use Rattle.sg_actions.specs.declared.rows.Row.{Row}
use Rattle.sg_actions.proofs.Chained.{chain_begin, chain_act, chain_later, running_begin, running_later}
use Rattle.sg_actions.proofs.Flags.{some_of}
use Rattle.sg_actions.proofs.Led.{call_gone}

-- the steps before the open action are no more
pub ended_less : (rs : Steps) → length (ended rs) ≤ length rs
ended_less [] = omega arith
ended_less (r ∷ rs) = by_step r.is (r ∷ rs) (omega arith) (let less = ended_less rs in omega (arith, less))
  where
    by_step : (s : Step) (here : Steps) → length here ≤ length (r ∷ rs) → length (ended rs) ≤ length (r ∷ rs) → length (but_change s here (ended rs)) ≤ length (r ∷ rs)
    by_step (Begin u p) here h k = h
    by_step (Change u p c) here h k = k
    by_step (TopEnd u p w n) here h k = h
    by_step (PhysComp u p w c) here h k = h
    by_step (TopVoid u p w) here h k = h
    by_step (CompEnd u p w) here h k = h
    by_step (Save u p m) here h k = h
    by_step (Commit u p) here h k = h
    by_step (End u p) here h k = h

-- where no action is open, nothing is logged of one
pub idle_opened : (rs : Steps) → ended rs ≡ rs → opened rs ≡ []
idle_opened [] e = refl
idle_opened (r ∷ rs) e = by_step r.is (r ∷ rs) (ap length e) (let less = ended_less rs in omega (arith, less))
  where
    by_step : (s : Step) (here : Steps) → length (but_change s here (ended rs)) ≡ length (r ∷ rs) → length (ended rs) < length (r ∷ rs) → map meaning (with_change s (logged rs)) ≡ []
    by_step (Begin u p) here h less = refl
    by_step (Change u p c) here h less = absurd (omega (arith, h, less))
    by_step (TopEnd u p w n) here h less = refl
    by_step (PhysComp u p w c) here h less = refl
    by_step (TopVoid u p w) here h less = refl
    by_step (CompEnd u p w) here h less = refl
    by_step (Save u p m) here h less = refl
    by_step (Commit u p) here h less = refl
    by_step (End u p) here h less = refl

-- what is well with nothing logged, from one state to the same
pub well_idle : (t : Table) (limits : State → ℕ → ℕ) (x y : State) (ds : List Changed) (pages bands : List Bool) → x ≡ y → ds ≡ [] → IsWell t limits x ds pages bands → IsWell t limits y [] pages bands
well_idle t limits x y ds pages bands e f w = subst (λ (z : State). IsWell t limits z [] pages bands) e (subst (λ (cs : List Changed). IsWell t limits x cs pages bands) f w)

pub begun_is : (t : Table) (limits : State → ℕ → ℕ) (e e' : EngineView) (maps unfreed : Maps) (rows rows' : List Row) (actor : Actor) (txn : TxnId) (lsn : ℕ) → CanBegin (seen e) unfreed rows actor → txn.0 ≡ lsn
    → HasLogged e e' (by txn.0 0 SaysBegin) lsn → rows' ≡ placed rows 0 (record { txn = txn; last = txn.0 }) → Begun t limits e e' maps rows rows' actor txn
begun_is t limits e e' maps unfreed rows rows' actor txn lsn can same h is_rows = record {
  above = let a = h.above in omega (arith, same, a);
  below = let b = h.below in omega (arith, same, b);
  told = h.told;
  logged = λ told. subst (Appended e e' (by txn.0 0 SaysBegin)) (sym same) (h.logged told);
  rows_are = is_rows;
  kept = λ told k. let g = h.logged told in acting_to g.base g.first g.steps (record { chain = chain g (can told) k.chain; well = well (can told) k.well });
}
  where
    chain : Appended e e' (by txn.0 0 SaysBegin) lsn → IsRoomy e.steps unfreed rows actor → IsChained e.base e.steps e.tail rows actor → IsChained e.base (stepped e.steps lsn (Begin txn.0 0)) e'.tail rows' actor
    chain g c h =
        let vacant = some_of (last_in rows 0) c.vacant in
        subst (λ (xs : List Row). IsChained e.base (stepped e.steps lsn (Begin txn.0 0)) e'.tail xs actor) (sym is_rows)
        (subst (λ (n : ℕ). IsChained e.base (stepped e.steps lsn (Begin n 0)) e'.tail (placed rows 0 (record { txn = txn; last = txn.0 })) actor) (sym same)
        (chain_begin e.base e.steps lsn e'.tail rows actor (record { txn = txn; last = txn.0 }) vacant.0 g.tail c.rest.idle c.rest.system vacant.1 same same (chain_later h g.number)))

    well : IsRoomy e.steps unfreed rows actor → IsWell t limits (begin_of t e.first e.steps) (opened e.steps) maps.pages maps.bands → IsWell t limits (begin_of t e.first (stepped e.steps lsn (Begin txn.0 0))) (opened (stepped e.steps lsn (Begin txn.0 0))) maps.pages maps.bands
    well c w =
        let now : begin_of t e.first e.steps ≡ repeated t e.first e.steps = ap (repeated t e.first) c.rest.idle in
        well_idle t limits (begin_of t e.first e.steps) (repeated t e.first e.steps) (opened e.steps) maps.pages maps.bands now (idle_opened e.steps c.rest.idle) w

-- a begin may be appended, with this number
pub begin_appends : (recovers : Recovering) (t : Table) (limits : State → ℕ → ℕ) (e e' : EngineView) (maps unfreed : Maps) (rows : List Row) (actor : Actor) (n : ℕ) (r : Result ℕ SpaceFault) → CanBegin (seen e) unfreed rows actor → LogCall recovers t e e' (by n 0 SaysBegin) r → (e.Told → e'.tried ≡ n)
    → (e'.Told → e'.failed ≡ false) → e.Told → IsKept t limits e maps rows actor → Appends recovers t e e' (Begin e'.tried 0)
begin_appends recovers t limits e e' maps unfreed rows actor n r can h is whole told k = record {
  above = h.above told;
  formed = (running_begin {tail = e'.tried} {next = e'.tried + 1} (omega arith) (can told).rest.system (running_later (h.above told) k.chain.running)).log;
  moments = subst (λ (m : ℕ). Moments recovers t e e' (stepped e.steps e'.tried (Begin m 0))) (sym (is told)) (h.moments told);
  gone = λ told'. call_gone e e' (by n 0 SaysBegin) (Begin n 0) r refl h whole told' ∙ ap (λ (m : ℕ). stepped e.steps e'.tried (Begin m 0)) (sym (is told));
}

pub acts_now : (t : Table) (limits : State → ℕ → ℕ) (e : EngineView) (maps unfreed : Maps) (rows : List Row) (actor new : Actor) → CanAct (seen e) unfreed rows actor new.txn.0 → new.txn.0 ≢ 0 → last_in rows new.txn.0 ≡ Some new.last → new.before ≡ new.last
    → NowActs t limits e maps rows actor new new.txn.0
acts_now t limits e maps unfreed rows actor new can nonzero row both = record {
  is = λ told. refl;
  chain = λ told h. chain_act e.base e.steps e.tail rows actor new (can told).rest.idle (can told).rest.system ((can told).row nonzero).1 row both h;
  kept = λ told k. record {
    chain = chain_act e.base e.steps e.tail rows actor new (can told).rest.idle (can told).rest.system ((can told).row nonzero).1 row both k.chain;
    well = k.well;
  };
}

-- the system acts already
pub system_acts : (t : Table) (limits : State → ℕ → ℕ) (e : EngineView) (maps unfreed : Maps) (rows : List Row) (actor : Actor) (txn : ℕ) → CanAct (seen e) unfreed rows actor txn → txn ≡ 0 → NowActs t limits e maps rows actor actor txn
system_acts t limits e maps unfreed rows actor txn can zero = record { is = λ told. (can told).rest.system ∙ sym zero; chain = λ told h. h; kept = λ told k. k }

-- a transaction without a row doesn't go on
pub nobody_acts : (t : Table) (limits : State → ℕ → ℕ) (e : EngineView) (maps unfreed : Maps) (rows : List Row) (actor : Actor) (txn : ℕ) → CanAct (seen e) unfreed rows actor txn → txn ≢ 0 → last_in rows txn ≡ None → NowActs t limits e maps rows actor actor txn
nobody_acts t limits e maps unfreed rows actor txn can nonzero none = record { is = λ told. absurd (no (can told)); chain = λ told h. h; kept = λ told k. k }
  where
    no : IsActable e.steps unfreed rows actor txn → ⊥
    no c = let some = some_of (last_in rows txn) (c.row nonzero).0 in (let e : None ≡ Some some.0 = sym none ∙ some.1 in cc)

-- a call that appends nothing leaves what is kept
pub rest_kept : (t : Table) (limits : State → ℕ → ℕ) (e e' : EngineView) (maps : Maps) (rows : List Row) (actor : Actor) → HasStayed e e' → e.Told → IsKept t limits e maps rows actor → IsKept t limits e' maps rows actor
rest_kept t limits e e' maps rows actor h told k = let s = h.stays told in acting_to s.base s.first s.steps (acting_later s.tail k)
