-- A take-off's calls one after another.
use Rattle.std.proofs.Common.{◌≡◌, ◌⊎◌, ℕ, ◌+◌, ◌<◌, ◌≤◌, ◌==◌, List, [], ◌∷◌, ◌++◌, Bool, true, false, sym, ap, subst, ◌∙◌, refl, append_assoc, arith, inl, inr, Ok, Err, Result}
use Rattle.std.specs.Prelude.{OnErr, OnOk, IfOk}
use Rattle.std.proofs.lemmas.Bool.Decides.{nat_tests}
use Rattle.sg_base.specs.Ends.{HasRisen}
use Rattle.sg_disk.specs.Accounts.{Accounts}
use Rattle.sg_ops.specs.Table.{Table}
use Rattle.sg_record.specs.Changes.{Change as Changing}
use Rattle.sg_record.specs.Records.{Record}
use Rattle.sg_record.specs.Records.Says.{PhysComp as SaysPhysComp, TopVoid as SaysTopVoid}
use Rattle.sg_record.specs.Shown.{by}
use Rattle.sg_recovery.specs.Formed.{IsLog}
use Rattle.sg_recovery.specs.Log.{tally, open_up_to}
use Rattle.sg_recovery.specs.Chains.{next_off}
use Rattle.sg_recovery.specs.Log.Record.{PhysComp}
use Rattle.sg_space.specs.declared.space.SpaceFault.{SpaceFault}
use Rattle.sg_space.specs.declared.space.SpaceFault.TheVariants.{Disk, LogEnd}
use Rattle.sg_action.specs.States.{State, Kept}
use Rattle.sg_actions.specs.Changes.{comp_of}
use Rattle.sg_actions.specs.Engine.{EngineSeen, EngineView, EngineCounts, Moments, now_of, IsFormedWith, seen}
use Rattle.sg_actions.specs.Growing.{grows_same, grows_then, moments_then, moments_stop}
use Rattle.sg_actions.specs.Images.{Recovering}
use Rattle.sg_actions.specs.Led.{HasLogged, HasStayed, LookCall, LogCall}
use Rattle.sg_actions.specs.Steps.{Step, Steps, stepped, with_step, repeated}
use Rattle.sg_actions.specs.TakingOff.{IsTakingOff, IsGoing}
use Rattle.sg_actions.specs.WentOff.{TakesLast, IsOver, AreOffSteps, HasOff, WentOff, OffCounts}
use Rattle.sg_actions.specs.declared.rows.Actor.{Actor}
use Rattle.sg_actions.specs.declared.rows.Row.{Row}
use Rattle.sg_actions.proofs.Accounting.{count_then, count_ok, accounts_ok, accounts_err, accounts_break}
use Rattle.sg_actions.proofs.Counting.{HasLooked}
use Rattle.sg_actions.proofs.Offing.{IsNext, IsRead}
use Rattle.sg_actions.proofs.TakenOff.{takes_one_off, comp_step, void_step, chain_void, chain_void_system, taking_later}

no : {P : Type 0} (b : Bool) → b ≡ true → b ≡ false → P
no b t f = absurd cc

-- STEPS BEHIND STEPS
off_steps_then : (txn : ℕ) (more made log : Steps) → AreOffSteps txn made log → AreOffSteps txn more (made ++ log) → AreOffSteps txn (more ++ made) log
off_steps_then txn [] made log h k = h
off_steps_then txn (r ∷ more) made log h k =
    let e : more ++ (made ++ log) ≡ (more ++ made) ++ log = sym (append_assoc more made log) in
    (subst (λ (rs : Steps). TakesLast rs txn r.is ⊎ IsOver rs txn r.is) e k.0, off_steps_then txn more made log h k.1)

-- ONE CALL BEHIND ANOTHER, whether the first failed or not
pub off_then : {recovers : Recovering} {t : Table} {txn : ℕ} (a b c : EngineView) → WentOff recovers t txn a b → (b.failed ≡ true → (c.failed ≡ true) × (c.disk ≡ b.disk)) → (b.Told → WentOff recovers t txn b c) → WentOff recovers t txn a c
off_then {recovers} {t} {txn} a b c w stops next = by_failed b.failed refl
  where
    went_on : HasOff a b w.made → WentOff recovers t txn b c → WentOff recovers t txn a c
    went_on h n =
        let all : n.made ++ b.steps ≡ (n.made ++ w.made) ++ a.steps = ap (λ (xs : Steps). n.made ++ xs) h.steps ∙ sym (append_assoc n.made w.made a.steps) in
        record {
          made = n.made ++ w.made;
          are = off_steps_then txn n.made w.made a.steps w.are (subst (λ (rs : Steps). AreOffSteps txn n.made rs) h.steps n.are);
          formed = subst (λ (rs : Steps). IsLog a.base rs) all (subst (λ (k : ℕ). IsLog k (n.made ++ b.steps)) h.base n.formed);
          moments = moments_then a b c h.first h.durable (record { since = n.made; all = append_assoc n.made w.made a.steps }) w.moments (subst (λ (rs : Steps). Moments recovers t b c rs) all n.moments);
          gone = λ z. let g = n.gone z in record {
            told = g.told;
            base = g.base ∙ h.base;
            first = g.first ∙ h.first;
            steps = g.steps ∙ all;
            durable = grows_then h.durable g.durable;
          };
        }

    by_failed : (f : Bool) → b.failed ≡ f → WentOff recovers t txn a c
    by_failed true e = let s = stops e in record { made = w.made; are = w.are; formed = w.formed; moments = moments_stop a b c s.1 w.moments; gone = λ z. no c.failed s.0 z }
    by_failed false e = let h = w.gone e in went_on h (next h.told)

-- a look appends nothing
off_gone : {T : Type 0} (e e' : EngineView) (r : Result T SpaceFault) → OnErr r (e'.failed ≡ true) → OnOk r (HasStayed e e') → e.Told → e'.failed ≡ false → HasOff e e' []
off_gone e e' (Ok x) bad h told z = let s = h.stays told in record { told = h.told told; base = s.base; first = s.first; steps = s.steps; durable = s.durable }
off_gone e e' (Err f) bad h told z = no e'.failed bad z

pub off_look : {T : Type 0} {recovers : Recovering} {t : Table} (txn : ℕ) (e e' : EngineView) (r : Result T SpaceFault) → IsLog e.base e.steps → LookCall recovers t e e' r → e.Told → WentOff recovers t txn e e'
off_look txn e e' r log h told = record { made = []; are = tt; formed = log; moments = h.moments told; gone = λ z. off_gone e e' r h.counts.failed h.stays told z }

-- and nothing at all
pub off_none : {recovers : Recovering} {t : Table} (txn : ℕ) (e : EngineView) → IsLog e.base e.steps → Moments recovers t e e e.steps → e.Told → WentOff recovers t txn e e
off_none txn e log m told = record { made = []; are = tt; formed = log; moments = m; gone = λ z. record { told = told; base = refl; first = refl; steps = refl; durable = grows_same e.durable } }

-- A RECORD OF A TAKE-OFF, appended or to be appended
logged_gone : (e e' : EngineView) (r : Record) (x : Step) (q : Result ℕ SpaceFault) → ((lsn : ℕ) → with_step e.steps lsn (Rattle.sg_actions.specs.Steps.step_of r) ≡ stepped e.steps lsn x) → OnErr q (e'.failed ≡ true) → IfOk q (HasLogged e e' r) → e.Told → e'.failed ≡ false
    → HasOff e e' (record { lsn = e'.tried; is = x } ∷ [])
logged_gone e e' r x (Ok lsn) says bad h told z =
    let g = h.logged told in record {
      told = h.told told;
      base = g.base;
      first = g.first;
      steps = g.steps ∙ (says lsn ∙ ap (λ (n : ℕ). stepped e.steps n x) h.tried);
      durable = g.durable;
    }
logged_gone e e' r x (Err f) says bad h told z = no e'.failed bad z

off_logged : {recovers : Recovering} {t : Table} (txn : ℕ) (e e' : EngineView) (r : Record) (x : Step) (q : Result ℕ SpaceFault) → ((lsn : ℕ) → with_step e.steps lsn (Rattle.sg_actions.specs.Steps.step_of r) ≡ stepped e.steps lsn x) → TakesLast e.steps txn x ⊎ IsOver e.steps txn x
    → IsLog e.base (stepped e.steps e'.tried x) → LogCall recovers t e e' r q → e.Told → WentOff recovers t txn e e'
off_logged {recovers} {t} txn e e' r x q says step formed h told = record {
  made = record { lsn = e'.tried; is = x } ∷ [];
  are = (step, tt);
  formed = formed;
  moments = subst (λ (rs : Steps). Moments recovers t e e' rs) (says e'.tried) (h.moments told);
  gone = λ z. logged_gone e e' r x q says h.counts.failed h.did told z;
}

-- the record that takes the last open change off
pub off_one : {recovers : Recovering} {t : Table} (kept : Kept) (begin : State) (e e' : EngineView) (rows : List Row) (actor : Actor) (at prev : ℕ) (c comp : Changing) (q : Result ℕ SpaceFault) → IsGoing t kept begin e rows actor at → (n : IsNext e.steps actor at)
    → IsRead c prev n.d (next_off actor.before n.ds) → comp ≡ comp_of c → LogCall recovers t e e' (by actor.txn.0 actor.last (SaysPhysComp prev comp)) q → e.Told → WentOff recovers t actor.txn.0 e e'
off_one {recovers} {t} kept begin e e' rows actor at prev c comp q off n r is h told =
    let above = h.above told in
    let one = takes_one_off t kept begin e.base e.steps (now_of t e) e'.tried (e'.tried + 1) rows actor n.d n.ds (omega arith) n.is (taking_later off.taking above) in
    off_logged actor.txn.0 e e' (by actor.txn.0 actor.last (SaysPhysComp prev comp)) (comp_step actor n.d n.ds) q
    (λ lsn j. stepped e.steps lsn (PhysComp actor.txn.0 actor.last (r.before_is j) ((is ∙ ap comp_of r.change) j)))
    (inl (record { previous = actor.last; undo_next = next_off actor.before n.ds; d = n.d; ds = n.ds; opened = n.is; left = ap (open_up_to actor.txn.0 (next_off actor.before n.ds)) (sym n.is) ∙ one.leaves; is = refl }))
    one.goes_on.running.log h told

-- with which the log is formed, whatever number it has
pub off_formed : {t : Table} (kept : Kept) (begin : State) (e : EngineView) (rows : List Row) (actor : Actor) (at prev : ℕ) (c comp : Changing) → IsGoing t kept begin e rows actor at → (n : IsNext e.steps actor at) → IsRead c prev n.d (next_off actor.before n.ds) → comp ≡ comp_of c
    → IsFormedWith (seen e) (PhysComp actor.txn.0 actor.last prev comp)
off_formed {t} kept begin e rows actor at prev c comp off n r is lsn le number =
    subst (λ (x : Step). IsLog e.base (stepped e.steps lsn x)) (sym (λ j. PhysComp actor.txn.0 actor.last (r.before_is j) ((is ∙ ap comp_of r.change) j)))
    (takes_one_off t kept begin e.base e.steps (now_of t e) lsn (lsn + 1) rows actor n.d n.ds (omega arith) n.is (taking_later off.taking le)).goes_on.running.log

-- and the one that ends it
pub off_void : {recovers : Recovering} {t : Table} (kept : Kept) (begin : State) (e e' : EngineView) (rows : List Row) (actor : Actor) (q : Result ℕ SpaceFault) → IsTakingOff t kept begin e.base e.steps (now_of t e) e.tail rows actor → (tally e.steps).opened ≡ []
    → LogCall recovers t e e' (by actor.txn.0 actor.last (SaysTopVoid actor.before)) q → e.Told → WentOff recovers t actor.txn.0 e e'
off_void {recovers} {t} kept begin e e' rows actor q h none l told =
    off_logged actor.txn.0 e e' (by actor.txn.0 actor.last (SaysTopVoid actor.before)) (void_step actor) q (λ lsn. refl) (inr (record { previous = actor.last; undo_next = actor.before; none = none; is = refl })) (formed (actor.txn.0 == 0) refl) l told
  where
    above : e.tail ≤ e'.tried
    above = l.above told

    formed : (b : Bool) → (actor.txn.0 == 0) ≡ b → IsLog e.base (stepped e.steps e'.tried (void_step actor))
    formed true z = (chain_void_system t kept begin e.base e.steps (now_of t e) e'.tried (e'.tried + 1) rows actor (omega arith) (grind (arith, nat_tests, z)) none (taking_later h above)).running.log
    formed false z = (chain_void t kept begin e.base e.steps (now_of t e) e'.tried (e'.tried + 1) rows actor (record { txn = actor.txn; last = e'.tried }) (omega arith)
        (λ k. absurd (let one : (actor.txn.0 == 0) ≡ true = grind (arith, nat_tests, k) in let two : true ≡ false = sym one ∙ z in cc)) refl refl none (taking_later h above)).running.log

-- THE COUNTS
pub counts_ok : {T : Type 0} {e e' : EngineSeen} {b b' : ℕ} (x : T) → HasLooked e e' b b' → OffCounts {T = T} e e' b b' (Ok x)
counts_ok {T} {e} {e'} {b} {b'} x h = record { told = h.told; tells = h.tells; later = let q = h.quiet in omega (arith, q); quiet = h.quiet; disk = tt; accounts = accounts_ok x h.disk; log_end = tt; tail = h.tail; silent = tt; stops = h.stops }

-- of a break
pub counts_break : {T : Type 0} {e e' : EngineSeen} {b b1 b2 : ℕ} (fault : SpaceFault) → fault ≡ Disk → HasLooked e e' b b1 → HasRisen b1 b2 → b1 ≤ b2 → (e'.Told → ⊥) → OffCounts {T = T} e e' b b2 (Err fault)
counts_break {T} {e} {e'} {b} {b1} {b2} fault is h risen up never = record {
  told = h.told;
  tells = tt;
  later = let q = h.quiet in omega (arith, q, up);
  quiet = tt;
  disk = λ d few. let q = h.quiet in let r : b1 < b2 = risen (omega (arith, q, few)) in omega (arith, q, r);
  accounts = accounts_break (λ t. never (h.tells t)) h.disk;
  log_end = λ z. absurd (let w : Disk ≡ LogEnd = sym is ∙ z in cc);
  tail = h.tail;
  silent = never;
  stops = h.stops;
}

not_both : (x : Bool) → x ≡ true → x ≡ false → ⊥
not_both x a c = cc

-- of a call of the engine that failed
pub counts_err : {T U : Type 0} {e e1 e' : EngineSeen} {b b1 : ℕ} (q : Result U SpaceFault) (f h : SpaceFault) → (e'.Told → e'.failed ≡ false) → q ≡ Err h → h ≡ f → HasLooked e e1 b b1 → EngineCounts {T = T} e1 e' (Err f) → OffCounts {T = U} e e' b b1 q
counts_err {T} {U} {e} {e1} {e'} {b} {b1} q f h whole is same s k = subst (λ (x : Result U SpaceFault). OffCounts {T = U} e e' b b1 x) (sym is) (record {
  told = λ z. s.told (k.told z);
  tells = tt;
  later = let x = s.quiet in let y = k.later in omega (arith, x, y);
  quiet = tt;
  disk = λ d few. let x = s.quiet in let r : e1.faults < e'.faults = k.disk (sym same ∙ d) (omega (arith, few)) in omega (arith, x, r);
  accounts = accounts_err s.tells s.disk (subst (λ (y : SpaceFault). Accounts (λ (x : SpaceFault). x ≡ Disk) e1.Told e1.disk e'.disk e1.gate e'.gate (let r : Result T SpaceFault = Err y in r)) (sym same) k.accounts);
  log_end = λ z. let n = k.log_end (sym same ∙ z) in let l = k.tail in omega (arith, n, l);
  tail = let x = s.tail in let y = k.tail in omega (arith, x, y);
  silent = λ told. not_both e'.failed k.failed (whole told);
  stops = λ z. let p = s.stops z in let x = k.stops p.0 in (x.0, x.1 ∙ p.1);
})

-- so far
pub counts_more : {T : Type 0} {e e1 e' : EngineSeen} {b b1 b' : ℕ} {x : T} → HasLooked e e1 b b1 → OffCounts {T = T} e1 e' b1 b' (Ok x) → HasLooked e e' b b'
counts_more {T} {e} {e1} {e'} {b} {b1} {b'} {x} s k = record {
  told = λ z. s.told (k.told z);
  tells = λ z. k.tells (s.tells z);
  quiet = k.quiet ∙ s.quiet;
  disk = count_then s.disk (count_ok k.accounts);
  tail = let p = s.tail in let q = k.tail in omega (arith, p, q);
  stops = λ z. let p = s.stops z in let q = k.stops p.0 in (q.0, q.1 ∙ p.1);
}

-- of a last call of the engine
pub counts_void : {T : Type 0} {e e1 e' : EngineSeen} {b b1 : ℕ} (q : Result T SpaceFault) → (e'.Told → e'.failed ≡ false) → HasLooked e e1 b b1 → EngineCounts {T = T} e1 e' q → OffCounts {T = T} e e' b b1 q
counts_void {T} {e} {e1} {e'} {b} {b1} (Ok x) whole s k = counts_ok x (record {
  told = λ z. s.told (k.told z);
  tells = λ z. k.tells (s.tells z);
  quiet = (let p = s.quiet in let r = k.quiet in omega (arith, p, r));
  disk = count_then s.disk (count_ok k.accounts);
  tail = let p = s.tail in let r = k.tail in omega (arith, p, r);
  stops = λ z. let p = s.stops z in let r = k.stops p.0 in (r.0, r.1 ∙ p.1);
})
counts_void {T} {e} {e1} {e'} {b} {b1} (Err f) whole s k = counts_err {T = T} {U = T} (Err f) f f whole refl refl s k

-- of one of the actions that failed, behind others
pub counts_fails : {T U : Type 0} {e e1 e' : EngineSeen} {b b1 b' : ℕ} (q : Result U SpaceFault) (f h : SpaceFault) → q ≡ Err h → h ≡ f → HasLooked e e1 b b1 → OffCounts {T = T} e1 e' b1 b' (Err f) → OffCounts {T = U} e e' b b' q
counts_fails {T} {U} {e} {e1} {e'} {b} {b1} {b'} q f h is same s k = subst (λ (x : Result U SpaceFault). OffCounts {T = U} e e' b b' x) (sym is) (record {
  told = λ z. s.told (k.told z);
  tells = tt;
  later = let x = s.quiet in let y = k.later in omega (arith, x, y);
  quiet = tt;
  disk = λ d few. let x = s.quiet in let r : e1.faults + b1 < e'.faults + b' = k.disk (sym same ∙ d) few in omega (arith, x, r);
  accounts = accounts_err s.tells s.disk (subst (λ (y : SpaceFault). Accounts (λ (x : SpaceFault). x ≡ Disk) e1.Told e1.disk e'.disk e1.gate e'.gate (let r : Result T SpaceFault = Err y in r)) (sym same) k.accounts);
  log_end = λ z. k.log_end (sym same ∙ z);
  tail = let x = s.tail in let y = k.tail in omega (arith, x, y);
  silent = k.silent;
  stops = λ z. let p = s.stops z in let x = k.stops p.0 in (x.0, x.1 ∙ p.1);
})

-- by another name of who acts
pub off_as : {recovers : Recovering} {t : Table} {u v : ℕ} {a b : EngineView} → u ≡ v → WentOff recovers t u a b → WentOff recovers t v a b
off_as {recovers} {t} {u} {v} {a} {b} e w = subst (λ (n : ℕ). WentOff recovers t n a b) e w

pub counts_after : {T : Type 0} {e e1 e' : EngineSeen} {b b1 b' : ℕ} (q : Result T SpaceFault) → (e'.Told → e'.failed ≡ false) → HasLooked e e1 b b1 → EngineCounts {T = T} e1 e' q → b' ≡ b1 → OffCounts {T = T} e e' b b' q
counts_after {T} {e} {e1} {e'} {b} {b1} {b'} q whole s k same = subst (λ (n : ℕ). OffCounts {T = T} e e' b n q) (sym same) (counts_void q whole s k)
