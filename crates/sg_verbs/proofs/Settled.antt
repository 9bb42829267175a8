-- How calls on the objects account for the disk, by what the engine remembers behind them.
use Rattle.std.proofs.Common.{◌≡◌, ◌⊎◌, inl, inr, ℕ, ◌+◌, ◌^◌, ◌<◌, ◌≤◌, Bool, true, false, Result, Ok, Err, refl, sym, ◌∙◌, subst, arith}
use Rattle.std.specs.Prelude.{IfErr}
use Rattle.sg_base.specs.Ends.{HasRisen}
use Rattle.sg_disk.specs.Accounts.{Accounts}
use Rattle.sg_disk.specs.Disk as disk
use Rattle.sg_actions.specs.Accounted.{HasAccounted}
use Rattle.sg_actions.specs.Engine as engine
use Rattle.sg_space.specs.declared.space.SpaceFault.{SpaceFault}
use Rattle.sg_space.specs.declared.space.SpaceFault.TheVariants as faults
use Rattle.sg_store.specs.Engine.{Counts, IsDiskFault, IsNearEnd, IsVerbEnd, VERB_BYTES}
use Rattle.sg_store.specs.declared.fault.ObjFault.TheVariants as store
use Rattle.sg_ground.specs.Recovers.{Recovering}
use Rattle.sg_shown.specs.Shown.{Over, shown_of}
use Rattle.sg_verbs.specs.Looks.{HasLost, IsHeld, IsNear, IsWhy, IsGivenUp}

no : (b : Bool) → b ≡ true → b ≡ false → ⊥
no b t f = let e : true ≡ false = sym t ∙ f in cc

-- what is so of its engine, at one moment
pub record IsSane (a : Over) : Type 0 where
  pub whole : a.engine.Told → a.engine.failed ≡ false
  pub full : a.engine.full ≡ true → a.engine.failed ≡ true
  pub unfailed : a.engine.failed ≡ false → a.engine.faults ≡ 0
  pub unbroken : a.engine.Told → a.breaks ≡ 0

-- FROM ONE MOMENT TO A LATER ONE: how it accounts for its disk. Where the calls could come to no log's end, the engine remembers none that it didn't
pub record Passes (ends : Bool) (a b : Over) : Type 0 where
  pub first : IsSane a
  pub last : IsSane b
  pub tail : a.engine.tail ≤ b.engine.tail
  pub later : a.engine.faults + a.breaks ≤ b.engine.faults + b.breaks
  pub accounts : HasAccounted a.engine b.engine
  pub still : ends ≡ false → b.engine.full ≡ a.engine.full

-- why a call failed, by its own word
pub record Fails (ends : Bool) (a b : Over) (f : SpaceFault) : Type 0 where
  pub risen : f ≡ faults.Disk → HasRisen (a.engine.faults + a.breaks) (b.engine.faults + b.breaks)
  pub near : f ≡ faults.LogEnd → a.engine.Told → (ends ≡ true) × IsNear b.engine

abbrev pub SomeFails : (ends failed : Bool) → (a b : Over) → Type 0
SomeFails ends failed a b = failed ≡ true → (f : SpaceFault) × Fails ends a b f

-- ONE THAT TOLD, where a call failed and that not near the log's end, has failed for the disk
pub lost_then : {ends failed : Bool} {a b : Over} → Passes ends a b → SomeFails ends failed a b → failed ≡ true → (ends ≡ true → IsNear b.engine → ⊥) → a.engine.Told → HasLost b.engine
lost_then {ends} {failed} {a} {b} p fails is far told = by_failed b.engine.failed b.engine.full refl refl
  where
    none_full : a.engine.full ≡ true → ⊥
    none_full h = no a.engine.failed (p.first.full h) (p.first.whole told)

    by_near : ends ≡ true → (a.engine.full ≡ true) ⊎ engine.IsNearEnd b.engine → ⊥
    by_near e (inl h) = none_full h
    by_near e (inr n) = far e n

    by_ends : (e : Bool) → ends ≡ e → b.engine.full ≡ true → ⊥
    by_ends true e n = by_near e (p.accounts.near n)
    by_ends false e n = none_full (sym (p.still e) ∙ n)

    by_fault : b.engine.failed ≡ false → (f : SpaceFault) → Fails ends a b f → ⊥
    by_fault w faults.Disk h =
        let told' = p.accounts.tells told w in
        let i = p.first.unfailed (p.first.whole told) in
        let j = p.last.unfailed w in
        let k = p.first.unbroken told in
        let l = p.last.unbroken told' in
        let few : b.engine.faults + b.breaks + 1 < 2 ^ 64 = omega (arith, j, l) in
        let more : a.engine.faults + a.breaks < b.engine.faults + b.breaks = h.risen refl few in omega (arith, i, j, k, l, more)
    by_fault w faults.LogEnd h = let n = h.near refl told in far n.0 n.1

    by_failed : (x y : Bool) → b.engine.failed ≡ x → b.engine.full ≡ y → HasLost b.engine
    by_failed true true f n = absurd (by_ends ends refl n)
    by_failed true false f n = (f, n)
    by_failed false y f n = let k = fails is in absurd (by_fault f k.0 k.1)

-- WHERE NOTHING FAILED the disk's count of faults is as it was
pub accounts_on : {T F : Type 0} {IsDisk : F → Type 0} (a b : Over) (r : Result T F) → IfErr r (λ e. IsDisk e → ⊥) → HasAccounted a.engine b.engine → IsHeld b.engine
    → Accounts IsDisk a.engine.Told a.engine.disk b.engine.disk a.engine.gate b.engine.gate r
accounts_on a b (Ok x) none h held = record { later = h.faults; heeded = h.heeded held; caused = tt; handed = h.handed; shown = h.shown }
accounts_on a b (Err e) none h held = record { later = h.faults; heeded = λ n. h.heeded held; caused = λ is. absurd (none is); handed = h.handed; shown = h.shown }

-- WHERE IT IS GIVEN UP
risen_up : (ends failed : Bool) (a b d : Over) → Passes ends a b → (f : SpaceFault) → IsDiskFault f → IsWhy ends failed b d f → HasRisen (a.engine.faults + a.breaks) (d.engine.faults + d.breaks)
risen_up ends failed a b d p faults.Disk is why few = let more : b.engine.faults + b.breaks < d.engine.faults + d.breaks = why.0 few in let l = p.later in omega (arith, more, l)
risen_up ends failed a b d p faults.LogEnd is why few = absurd is

module _ {T F : Type 0} {IsDisk : F → Type 0} {ends failed : Bool} (recovers : Recovering) (a b d : Over) (e : F) (p : Passes ends a b) (fails : SomeFails ends failed a b) where
  accounts_up : (f : SpaceFault) → (IsDisk e → IsDiskFault f) → (IsDiskFault f → IsDisk e) → IsWhy ends failed b d f
      → Accounts IsDisk a.engine.Told a.engine.disk b.engine.disk a.engine.gate b.engine.gate (let r : Result T F = Err e in r)
  accounts_up faults.Disk to back why = record {
    later = p.accounts.faults;
    heeded = λ n. absurd (n (back tt));
    caused = λ is told. let l : HasLost b.engine = by_why told why.1 in p.accounts.caused told l.0 l.1;
    handed = p.accounts.handed;
    shown = p.accounts.shown;
  }
    where
      by_why : a.engine.Told → HasLost b.engine ⊎ ((failed ≡ true) × (ends ≡ true → IsNear b.engine → ⊥)) → HasLost b.engine
      by_why told (inl l) = l
      by_why told (inr h) = lost_then p fails h.0 h.1 told
  accounts_up faults.LogEnd to back why = record {
    later = p.accounts.faults;
    heeded = λ n. p.accounts.heeded why.2;
    caused = λ is. absurd (to is);
    handed = p.accounts.handed;
    shown = p.accounts.shown;
  }

  pub counts_up : (f : SpaceFault) → (IsDisk e → IsDiskFault f) → (IsDiskFault f → IsDisk e) → IsGivenUp ends failed b d f → Counts IsDisk (shown_of recovers a) (shown_of recovers d) (let r : Result T F = Err e in r)
  unfolding accounts_up
  counts_up f to back s = record {
    told = λ h. absurd (s.silent h);
    tells = tt;
    tail = (let i = s.tail in let j = p.tail in omega (arith, i, j));
    later = (let i = s.later in let j = p.later in omega (arith, i, j));
    quiet = tt;
    failed = λ is. risen_up ends failed a b d p f (to is) s.why;
    accounts = subst (λ (v : disk.View). Accounts IsDisk a.engine.Told a.engine.disk v a.engine.gate d.engine.gate (let r : Result T F = Err e in r)) (sym s.disk)
        (subst (λ (n : ℕ). Accounts IsDisk a.engine.Told a.engine.disk b.engine.disk a.engine.gate n (let r : Result T F = Err e in r)) (sym s.gate) (accounts_up f to back s.why));
  }

-- where the log ends then
near_why : (ends failed : Bool) (b d : Over) (f : SpaceFault) → IsWhy ends failed b d f → IsNearEnd b.engine.tail f
near_why ends failed b d faults.Disk why = tt
near_why ends failed b d faults.LogEnd why = why.1

pub near_up : {ends failed : Bool} (b d : Over) (f : SpaceFault) → IsGivenUp ends failed b d f → IsNearEnd d.engine.tail f
near_up {ends} {failed} b d f s = subst (λ (n : ℕ). IsNearEnd n f) (sym s.tail) (near_why ends failed b d f s.why)

verb_why : (failed : Bool) (a b d : Over) (changing : Bool) (f : SpaceFault) → b.engine.tail + 131072 ≤ a.engine.tail + VERB_BYTES → IsWhy changing failed b d f → IsVerbEnd changing a.engine.tail (store.Space f)
verb_why failed a b d changing faults.Disk grown why = tt
verb_why failed a b d changing faults.LogEnd grown why = (why.0, (let near : engine.LOG_END < b.engine.tail + 131072 = why.1 in omega (arith, near, grown)))

pub verb_up : {failed : Bool} (a b d : Over) (changing : Bool) (f : SpaceFault) → b.engine.tail + 131072 ≤ a.engine.tail + VERB_BYTES → IsGivenUp changing failed b d f → IsVerbEnd changing a.engine.tail (store.Space f)
verb_up {failed} a b d changing f grown s = verb_why failed a b d changing f grown s.why

-- a look comes to no log's end
read_why : (failed : Bool) (b d : Over) (f : SpaceFault) → IsWhy false failed b d f → IsDiskFault f
read_why failed b d faults.Disk why = tt
read_why failed b d faults.LogEnd why = absurd (let e : false ≡ true = why.0 in cc)

pub read_up : {failed : Bool} (b d : Over) (f : SpaceFault) → IsGivenUp false failed b d f → IsDiskFault f
read_up {failed} b d f s = read_why failed b d f s.why

-- where only the engine had failed it is no matter what the calls could come to
why_as : (ends : Bool) (b d : Over) (f : SpaceFault) → IsWhy false false b d f → IsWhy ends false b d f
why_as ends b d faults.LogEnd why = absurd (let e : false ≡ true = why.0 in cc)
why_as ends b d faults.Disk why = (why.0, lost why.1)
  where
    lost : HasLost b.engine ⊎ ((false ≡ true) × (false ≡ true → IsNear b.engine → ⊥)) → HasLost b.engine ⊎ ((false ≡ true) × (ends ≡ true → IsNear b.engine → ⊥))
    lost (inl l) = inl l
    lost (inr h) = absurd (let e : false ≡ true = h.0 in cc)

pub given_as : (ends : Bool) {b d : Over} {f : SpaceFault} → IsGivenUp false false b d f → IsGivenUp ends false b d f
given_as ends {b} {d} {f} s = record { silent = s.silent; disk = s.disk; gate = s.gate; tail = s.tail; later = s.later; means = s.means; pages = s.pages; bands = s.bands; limits = s.limits; why = why_as ends b d f s.why }

pub none_fails : {ends : Bool} {a b : Over} → SomeFails ends false a b
none_fails e = absurd (let w : false ≡ true = e in cc)

-- A CALL THAT NONE THAT TOLD COMES TO: nothing more is asked of the engine, and a break is counted
pub record IsBroken (b d : Over) : Type 0 where
  pub silent : d.engine.Told → ⊥
  pub disk : d.engine.disk ≡ b.engine.disk
  pub gate : d.engine.gate ≡ b.engine.gate
  pub tail : d.engine.tail ≡ b.engine.tail
  pub later : b.engine.faults + b.breaks ≤ d.engine.faults + d.breaks
  pub risen : HasRisen (b.engine.faults + b.breaks) (d.engine.faults + d.breaks)

pub counts_never : {T F : Type 0} {IsDisk : F → Type 0} {ends : Bool} (recovers : Recovering) (a b d : Over) (e : F) → (a.engine.Told → ⊥) → Passes ends a b → IsBroken b d → IsDisk e → Counts IsDisk (shown_of recovers a) (shown_of recovers d) (let r : Result T F = Err e in r)
counts_never {T} {F} {IsDisk} recovers a b d e never p s is = record {
  told = λ h. absurd (s.silent h);
  tells = tt;
  tail = (let i = s.tail in let j = p.tail in omega (arith, i, j));
  later = (let i = s.later in let j = p.later in omega (arith, i, j));
  quiet = tt;
  failed = λ i few. let more : b.engine.faults + b.breaks < d.engine.faults + d.breaks = s.risen few in let l = p.later in omega (arith, more, l);
  accounts = subst (λ (v : disk.View). Accounts IsDisk a.engine.Told a.engine.disk v a.engine.gate d.engine.gate (let r : Result T F = Err e in r)) (sym s.disk)
      (subst (λ (n : ℕ). Accounts IsDisk a.engine.Told a.engine.disk b.engine.disk a.engine.gate n (let r : Result T F = Err e in r)) (sym s.gate) (record {
        later = p.accounts.faults;
        heeded = λ n. absurd (n is);
        caused = λ i told. absurd (never told);
        handed = p.accounts.handed;
        shown = p.accounts.shown;
      }));
}
