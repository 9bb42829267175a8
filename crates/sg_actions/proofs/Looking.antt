-- What a look leaves.
use Rattle.std.proofs.Common.{inl, ◌≡◌, ℕ, ◌+◌, ◌<◌, Bool, Some, Result, Ok, Err, sym, ap, subst, ◌∙◌, arith}
use Rattle.std.specs.Prelude.{IfOk}
use Rattle.sg_alloc.specs.declared.maps.Maps.{Maps}
use Rattle.sg_action.specs.States.{State}
use Rattle.sg_space.specs.Pages.{Looks}
use Rattle.sg_space.specs.View.{OnlyReads}
use Rattle.sg_space.specs.declared.space.SpaceFault.{SpaceFault}
use Rattle.sg_actions.specs.Engine.{EngineSeen, EngineRests}
use Rattle.sg_actions.specs.Steps.{Steps, opened}
use Rattle.sg_actions.specs.Taken.{units_there, writes_band}
use Rattle.sg_actions.specs.View.{acts_view, MayGiveNow}
use Rattle.sg_actions.proofs.Led.{Same}

pub only_reads : {begun : Bool} (limits : State → ℕ → ℕ) (e e' : EngineSeen) (begin : State) (breaks : ℕ) (maps unfreed : Maps) → (e.Told → e'.Told) → (e'.Told → e.Told) → (e.Told → Same e e') → OnlyReads (acts_view limits e begun begin breaks maps unfreed) (acts_view limits e' begun begin breaks maps unfreed)
only_reads {begun} limits e e' begin breaks maps unfreed on back same = record {
  keeps = record {
    told = on;
    may_take = λ m. m;
    may_have = λ p n m told'. let told = back told' in subst (λ (rs : Steps). MayGiveNow limits begin rs maps.pages maps.bands p n) (sym (same told).steps) (m told);
  };
  shows = on;
  wrote = λ b w. let told = back w.0 in (told, sym (ap (λ (rs : Steps). writes_band (opened rs) b) (same told).steps) ∙ w.1);
  still = λ m told'. let told = back told' in ap (λ (rs : Steps). opened rs) (same told).steps ∙ m told;
  same = λ told j. record {
    pages = units_there maps.pages unfreed.pages ((same told).now j).pages;
    bands = units_there maps.bands unfreed.bands (λ b. Some (((same told).now j).bands b));
  };
}

-- A LOOK that succeeds
pub looks_ok : {T U : Type 0} {begun : Bool} (limits : State → ℕ → ℕ) (e e' : EngineSeen) (begin : State) (breaks : ℕ) (maps unfreed : Maps) (L M : Type 0) (x : T) (y : U) → EngineRests e e' (let r : Result T SpaceFault = Ok x in r) → (e.Told → Same e e') → L → M
    → Looks (acts_view limits e begun begin breaks maps unfreed) (acts_view limits e' begun begin breaks maps unfreed) L M (let r : Result U SpaceFault = Ok y in r)
looks_ok {T} {U} {begun} limits e e' begin breaks maps unfreed L M x y h same later means = record {
  counts = record { told = h.counts.told; later = let l = h.counts.later in omega (arith, l); quiet = ap (λ (n : ℕ). n + breaks) h.counts.quiet; disk = tt; log_end = tt };
  writes = record { only_disk = tt; records = h.records };
  kept = only_reads limits e e' begin breaks maps unfreed h.counts.tells h.counts.told same;
  later = later;
  means = means;
}

-- and one that fails
pub looks_err : {T U : Type 0} {begun : Bool} (limits : State → ℕ → ℕ) (e e' : EngineSeen) (begin : State) (breaks : ℕ) (maps unfreed : Maps) (L M : Type 0) (f : SpaceFault) → EngineRests {T = T} e e' (Err f) → L → M
    → Looks {T = U} (acts_view limits e begun begin breaks maps unfreed) (acts_view limits e' begun begin breaks maps unfreed) L M (Err f)
looks_err {T} {U} {begun} limits e e' begin breaks maps unfreed L M f h later means = record {
  counts = record {
    told = h.counts.told;
    later = let l = h.counts.later in omega (arith, l);
    quiet = tt;
    disk = λ d few. let r : e.faults < e'.faults = h.counts.disk d (omega (arith, few)) in omega (arith, r);
    log_end = λ z. inl (let n = h.counts.log_end z in let l = h.counts.tail in omega (arith, n, l));
  };
  writes = record { only_disk = h.only_disk; records = h.records };
  kept = tt;
  later = later;
  means = means;
}

-- the same, where another result is the same failure
pub looks_err_is : {T U : Type 0} {begun : Bool} (limits : State → ℕ → ℕ) (e e' : EngineSeen) (begin : State) (breaks : ℕ) (maps unfreed : Maps) (L M : Type 0) (r : Result U SpaceFault) (f h : SpaceFault) → r ≡ Err h → h ≡ f → EngineRests {T = T} e e' (Err f) → L → M
    → Looks {T = U} (acts_view limits e begun begin breaks maps unfreed) (acts_view limits e' begun begin breaks maps unfreed) L M r
looks_err_is {T} {U} {begun} limits e e' begin breaks maps unfreed L M r f h is same l later means =
    subst (λ (q : Result U SpaceFault). Looks {T = U} (acts_view limits e begun begin breaks maps unfreed) (acts_view limits e' begun begin breaks maps unfreed) L M q) (sym is)
    (looks_err {T = T} {U = U} limits e e' begin breaks maps unfreed L M h (subst (λ (x : SpaceFault). EngineRests {T = T} e e' (Err x)) (sym same) l) later means)

pub none_looked : {U : Type 0} (P : U → Type 0) (r : Result U SpaceFault) (h : SpaceFault) → r ≡ Err h → IfOk r P
none_looked P (Ok x) h is = absurd cc
none_looked P (Err y) h is = tt
