-- A TAKE-OFF THAT GOES ON, of a found action.
use Rattle.std.proofs.Common.{◌≡◌, ◌≢◌, ◌⊎◌, inl, inr, true, false, ℕ, ◌+◌, ◌<◌, ◌≤◌, [], ◌∷◌, List, Result, Ok, Err, sym, ap, subst, ◌∙◌, refl, arith}
use Rattle.sg_disk.specs.Accounts.{Accounts}
use Rattle.sg_disk.specs.Disk.{View}
use Rattle.sg_ops.specs.Table.{Table}
use Rattle.sg_recovery.specs.Formed.{IsLog}
use Rattle.sg_recovery.specs.Log.{Open, tally, is_in}
use Rattle.sg_recovery.specs.Chains.{next_off}
use Rattle.sg_record.specs.Changes.{Change as Changing}
use Rattle.sg_space.specs.declared.space.SpaceFault.{SpaceFault}
use Rattle.sg_action.specs.States.{State, Kept}
use Rattle.sg_actions.specs.Engine.{EngineSeen, led}
use Rattle.sg_actions.specs.Images.{Recovering}
use Rattle.sg_actions.specs.TakingOff.{AreLinked, IsGoing, IsRunning}
use Rattle.sg_actions.specs.Steps.{Steps}
use Rattle.sg_actions.specs.WentOff.{OffCounts, WentOff}
use Rattle.sg_actions.specs.declared.rows.Actor.{Actor}
use Rattle.sg_actions.specs.declared.rows.Row.{Row}
use Rattle.sg_actions.proofs.Accounting.{accounts_ok, accounts_err, count_ok, count_then}
use Rattle.sg_actions.proofs.Offing.{going_stays}
use Rattle.sg_unread.specs.Unread.{LooksOn}
use Rattle.sg_found.specs.Found.{IsOpenAt}
use Rattle.sg_found.proofs.Newest.{system_dead}
use Rattle.sg_found.proofs.Running.{acting_at, running_found, rows_found}
use Rattle.sg_resumed.specs.Taking.{CanGoOn, LeadsOff}

-- nothing is known to have been taken when it began
abbrev pub none_kept : Kept
none_kept = record { pages = λ n. false; bands = λ b. false; slots = λ n. 0 }

-- who acts, with the record before the action
abbrev pub begun_at : Actor → ℕ → Actor
begun_at actor before = record { txn = actor.txn; last = actor.last; before = before }

pub going_found : (t : Table) (e : EngineSeen) (from : State) (first : ℕ) (rows : List Row) (actor : Actor) (at before : ℕ) → CanGoOn e first rows actor → (l : LeadsOff t (led from e)) → IsOpenAt e.steps e.base actor.txn.0 at before → (actor.txn.0 ≡ 0 → before ≡ 0)
    → IsGoing t none_kept l.end (led from e) rows (begun_at actor before) at
going_found t e from first rows actor at before c l o zero = record {
  taking = record {
    running = subst (λ (last : ℕ). IsRunning e.base e.steps e.tail (acting_at actor.txn.0 last before)) (sym c.last) (running_found e.base e.steps e.tail actor.txn.0 at before c.formed c.based c.below c.unfinished o zero);
    rows_are = rows_found e.steps e.tail actor.txn.0 actor.last before rows (λ ne. acts ne (c.formed.one_action.whose actor.txn.0 c.unfinished)) c.rows c.low c.apart c.known;
    takes = record { end = l.end; off = l.off; alike = record { pages = λ n h. refl; slots = λ n h k. k; bands = λ b h. refl } };
  };
  at_is = o.back.at_is;
}
  where
    acts : actor.txn.0 ≢ 0 → (actor.txn.0 ≡ 0) ⊎ (is_in actor.txn.0 (tally e.steps).live ≡ true) → is_in actor.txn.0 (tally e.steps).live ≡ true
    acts ne (inl z) = absurd (ne z)
    acts ne (inr live) = live

-- NO BREAK over an engine that tells, behind what was found
pub none_broken : {T : Type 0} {a b : EngineSeen} {before after : ℕ} (r : Result T SpaceFault) → OffCounts a b before after r → (a.Told → a.faults ≡ 0) → (b.Told → b.faults ≡ 0) → (a.Told → before ≡ 0) → b.Told → after ≡ 0
none_broken (Ok x) h none none' zero_before told = let q = h.quiet in let e = none (h.told told) in let f = none' told in let z = zero_before (h.told told) in omega (arith, q, e, f, z)
none_broken (Err f) h none none' zero_before told = absurd (h.silent told)

-- where nothing is left of an action of the system it may as well have begun nowhere
low_before : (rs : Steps) (before : ℕ) (ds : List (Open Changing)) → AreLinked rs before ds → before ≤ next_off before ds
low_before rs before [] l = omega arith
low_before rs before (d ∷ ds) l = let q = low_before rs before ds l.3 in let z = l.1 in omega (arith, q, z)

pub open_none : (base : ℕ) (rs : Steps) (txn at before : ℕ) → IsLog base rs → txn ≡ 0 → at ≡ before → IsOpenAt rs base txn at before → IsOpenAt rs base txn 0 0
open_none base rs txn at before log system same o = by_list (tally rs).opened refl
  where
    by_list : (ds : List (Open Changing)) → (tally rs).opened ≡ ds → IsOpenAt rs base txn 0 0
    by_list [] e = record {
      back = record { linked = subst (AreLinked rs 0) (sym e) tt; at_is = sym (ap (next_off 0) e); bottom = inl (inl refl) };
      own = λ live. absurd (let no : true ≡ false = sym live ∙ (ap (λ (t : ℕ). is_in t (tally rs).live) system ∙ system_dead base rs log) in cc);
    }
    by_list (d ∷ ds) e =
        let l = subst (AreLinked rs before) e o.back.linked in
        let is = o.back.at_is ∙ ap (next_off before) e in
        let q = low_before rs before ds l.3 in
        let z = l.1 in
        absurd (omega (arith, q, z, is, same))

-- behind looks
pub going_looks : {recovers : Table → Recovering} {t : Table} {a b : EngineSeen} {m n : Table → State → Type 0} {kept : Kept} {begin : State} {rows : List Row} {actor : Actor} {at : ℕ} (from : State) → LooksOn recovers t a b m n → m t from → a.Told → b.failed ≡ false
    → IsGoing t kept begin (led from a) rows actor at → IsGoing t kept begin (led from b) rows actor at
going_looks {recovers} {t} {a} {b} from h s told whole k =
    let y = (h.reads from s told).stays whole in
    going_stays (record { base = h.base; first = refl; steps = y.steps; tail = let q = h.tail in omega (arith, q); durable = y.durable }) k

-- looks take nothing off
pub looks_off : {recovers : Table → Recovering} {t : Table} {a b : EngineSeen} {m n : Table → State → Type 0} (txn : ℕ) (from : State) → LooksOn recovers t a b m n → m t from → a.Told → IsLog a.base a.steps → WentOff (recovers t) t txn (led from a) (led from b)
looks_off {recovers} {t} {a} {b} txn from h s told log =
    let r = h.reads from s told in
    record {
      made = [];
      are = tt;
      formed = log;
      moments = r.moments;
      gone = λ z. let y = r.stays z in record { told = r.told z; base = h.base; first = refl; steps = y.steps; durable = y.durable };
    }

-- THE COUNTS of one part behind another
pub counts_then : {T U : Type 0} {a b c : EngineSeen} {before mid after : ℕ} {x : T} (r : Result U SpaceFault) → OffCounts {T = T} a b before mid (Ok x) → OffCounts {T = U} b c mid after r → OffCounts {T = U} a c before after r
counts_then {T} {U} {a} {b} {c} {before} {mid} {after} {x} (Ok y) f g = record {
  told = λ h. f.told (g.told h);
  tells = λ h. g.tells (f.tells h);
  later = let p = f.later in let q = g.later in omega (arith, p, q);
  quiet = g.quiet ∙ f.quiet;
  disk = tt;
  accounts = accounts_ok y (count_then (count_ok f.accounts) (count_ok g.accounts));
  log_end = tt;
  silent = tt;
  tail = let p = f.tail in let q = g.tail in omega (arith, p, q);
  stops = λ h. let p = f.stops h in let q = g.stops p.0 in (q.0, q.1 ∙ p.1);
}
counts_then {T} {U} {a} {b} {c} {before} {mid} {after} {x} (Err y) f g = record {
  told = λ h. f.told (g.told h);
  tells = tt;
  later = let p = f.later in let q = g.later in omega (arith, p, q);
  quiet = tt;
  disk = λ d few. let q = f.quiet in let r : b.faults + mid < c.faults + after = g.disk d few in omega (arith, q, r);
  accounts = accounts_err f.tells (count_ok f.accounts) g.accounts;
  log_end = g.log_end;
  silent = g.silent;
  tail = let p = f.tail in let q = g.tail in omega (arith, p, q);
  stops = λ h. let p = f.stops h in let q = g.stops p.0 in (q.0, q.1 ∙ p.1);
}

accounts_fail : {T U : Type 0} {P : SpaceFault → Type 0} {Told : Type 0} {v w : View} {i j : ℕ} {f : SpaceFault} → Accounts P Told v w i j (let r : Result T SpaceFault = Err f in r) → Accounts P Told v w i j (let r : Result U SpaceFault = Err f in r)
accounts_fail k = record { later = k.later; heeded = k.heeded; caused = k.caused; handed = k.handed; shown = k.shown }

pub counts_fail : {T U : Type 0} {a b : EngineSeen} {before after : ℕ} {f : SpaceFault} → OffCounts {T = T} a b before after (Err f) → OffCounts {T = U} a b before after (Err f)
counts_fail {T} {U} {a} {b} {before} {after} {f} k = record { told = k.told; tells = tt; later = k.later; quiet = tt; disk = k.disk; accounts = accounts_fail k.accounts; log_end = k.log_end; tail = k.tail; silent = k.silent; stops = k.stops }

-- THE SAME OF A SPACE THAT IS TAKEN APART, looked at, and made of its parts
module _ {E : Type 0} (view : E → EngineSeen) (means : E → Table → State → Type 0) (recovers : Table → Recovering) (t : Table) (from : State) (a b0 b c : E) (apart : b0 ≡ a) (made : c ≡ b) (looks : LooksOn recovers t (view b0) (view b) (means b0) (means b)) where
  pub means_all : means a t from → means c t from
  means_all m = subst (λ (e : E). means e t from) (sym made) (looks.means from (subst (λ (e : E). means e t from) (sym apart) m))

  pub told_all : (view c).Told → (view a).Told
  told_all h = subst (λ (e : E). (view e).Told) apart (looks.told (subst (λ (e : E). (view e).Told) made h))

  pub went_all : (txn : ℕ) → means a t from → (view a).Told → IsLog (view a).base (view a).steps → WentOff (recovers t) t txn (led from (view a)) (led from (view c))
  went_all txn m told log =
      subst (λ (e : E). WentOff (recovers t) t txn (led from (view a)) (led from (view e))) (sym made)
      (subst (λ (e : E). WentOff (recovers t) t txn (led from (view e)) (led from (view b))) apart
      (looks_off txn from looks (subst (λ (e : E). means e t from) (sym apart) m) (subst (λ (e : E). (view e).Told) (sym apart) told) (subst (λ (e : E). IsLog (view e).base (view e).steps) (sym apart) log)))

  pub going_all : (first : E → ℕ) (rows rows0 rows1 : List Row) (actor actor0 actor1 actor2 : Actor) (at : ℕ) → rows0 ≡ rows → actor0 ≡ actor → rows1 ≡ rows0 → actor2 ≡ actor1 → actor1.txn ≡ actor0.txn → actor1.last ≡ actor0.last → ((view b).Told → (view b).failed ≡ false)
      → ((view a).Told → CanGoOn (view a) (first a) rows actor) → (means a t from → (view a).Told → LeadsOff t (led from (view a))) → (means b0 t from → (view b0).Told → IsOpenAt (view b0).steps (view b0).base actor0.txn.0 at actor1.before) → (actor0.txn.0 ≡ 0 → actor1.before ≡ 0)
      → means a t from → (view c).Told → (begin : State) × IsGoing t none_kept begin (led from (view c)) rows1 actor2 at
  going_all first rows rows0 rows1 actor actor0 actor1 actor2 at same_rows same_actor same_rows1 same_actor2 same_txn same_last whole can leads found zero m told2 =
      let told1 = subst (λ (e : E). (view e).Told) made told2 in
      let told0 = looks.told told1 in
      let told = told_all told2 in
      let m0 = subst (λ (e : E). means e t from) (sym apart) m in
      let can0 = subst (λ (x : Actor). CanGoOn (view b0) (first b0) rows0 x) (sym same_actor) (subst (λ (xs : List Row). CanGoOn (view b0) (first b0) xs actor) (sym same_rows) (subst (λ (e : E). CanGoOn (view e) (first e) rows actor) (sym apart) (can told))) in
      let l = subst (λ (e : E). LeadsOff t (led from (view e))) (sym apart) (leads m told) in
      let g0 = going_found t (view b0) from (first b0) rows0 actor0 at actor1.before can0 l (found m0 told0) zero in
      let g1 = going_looks from looks m0 told0 (whole told1) g0 in
      let who : actor2 ≡ begun_at actor0 actor1.before = same_actor2 ∙ (λ j. record { txn = same_txn j; last = same_last j; before = actor1.before }) in
      (l.end, subst (λ (x : Actor). IsGoing t none_kept l.end (led from (view c)) rows1 x at) (sym who) (subst (λ (xs : List Row). IsGoing t none_kept l.end (led from (view c)) xs (begun_at actor0 actor1.before) at) (sym same_rows1) (subst (λ (e : E). IsGoing t none_kept l.end (led from (view e)) rows0 (begun_at actor0 actor1.before) at) (sym made) g1)))
