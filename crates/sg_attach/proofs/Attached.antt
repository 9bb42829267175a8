-- What an opening leaves.
use Rattle.std.proofs.Common.{◌≡◌, inl, ◌≤◌, ℕ, max, Bool, true, false, IsTrue, List, [], ◌++◌, length, Option, refl, sym, ap, ◌∙◌, subst, arith}
use Rattle.std.specs.Prelude.{option_map}
use Rattle.std.proofs.Props.{props}
use mathlib.Core.Logic.{∥∥₁_elim, ∥∥₁_prop}
use Rattle.sg_base.specs.declared.area.Area.TheVariants.{Home}
use Rattle.sg_disk.specs.Disk.{View}
use Rattle.sg_gate.specs.Batch.{laid}
use Rattle.sg_gate.specs.declared.superblock.Super.{Super}
use Rattle.sg_log.specs.Frames.{Numbered}
use Rattle.sg_log.specs.Held.{Tail, tail_of}
use Rattle.sg_log.proofs.Holding.{tail_at_gate}
use Rattle.sg_ops.specs.Laws.{IsLawful}
use Rattle.sg_ops.specs.Table.{Table}
use Rattle.sg_pool.specs.Pooled.{sizes}
use Rattle.sg_pool.specs.Units.{Geometry}
use Rattle.sg_pool.specs.declared.pool.Pool.{Pool}
use Rattle.sg_record.specs.Records.{Record}
use Rattle.sg_recovery.specs.Chains.{next_lsn}
use Rattle.sg_recovery.specs.Log.{tally}
use Rattle.sg_analysis.specs.Sights.{last_checkpoint}
use Rattle.sg_action.specs.States.{State}
use Rattle.sg_engine.specs.Calls.{WaitsFrame}
use Rattle.sg_engine.specs.Effects.{effect_in}
use Rattle.sg_engine.specs.Engine.{Origin, geometry}
use Rattle.sg_engine.specs.Kept.{home_in}
use Rattle.sg_engine.specs.Running.{IsEngine, IsAllowed}
use Rattle.sg_find.specs.Synced.{reads, redo_point, SplitsAtSync}
use Rattle.sg_find.specs.declared.fault.OpenFault.{OpenFault}
use Rattle.sg_open.specs.Found.{Opens, IsGoingOn}
use Rattle.sg_open.specs.Refusals.{StoreRefused, IsAccepted}
use Rattle.sg_actions.specs.Steps.{Steps}
use Rattle.sg_phys_laws.specs.Poised.{IsPoised}
use Rattle.sg_phys_laws.specs.Reading.{durable_in, waiting_in}
use Rattle.sg_phys_laws.specs.Recovers.{origin_of, records_in, point_in, IsSoundImage}
use Rattle.sg_phys_laws.specs.States.{steps_of}
use Rattle.sg_phys_laws.proofs.Reading.{held_are}
use Rattle.sg_phys_laws.proofs.Sets.{steps_set}
use Rattle.sg_phys_laws.proofs.Wrapped.{all_are, append_none}
use Rattle.sg_phys.specs.Phys.{IsGiven, Past, IsBehind, Stands, StandsForSome, origin_at, past_of}
use Rattle.sg_phys.proofs.Behind.{steps_none}
use Rattle.sg_attach.specs.Attached.{IsStoreImage, IsSomeStoreImage, IsAttaching}
use Rattle.sg_attach.proofs.Analysed.{accepted_super, log_below}
use Rattle.sg_attach.proofs.Opens.{sound_opens, point_below, image_is_said, opens_poised, attach_behind, image_formed}

-- an origin's records do what these operations say
abbrev pub DoesBy : Table → Origin → Type 0
DoesBy t o = (lsn : ℕ) (x : Record) → o.effect lsn x ≡ effect_in t lsn x

-- what is known where the disk tells
told_known : (told : Bool) (P : Type 0) → (IsTrue told → ∥ P ∥₁) → ∥ (IsTrue told → P) ∥₁
told_known true P has = ∥∥₁_elim (has refl) ∥∥₁_prop (λ p. ∣ (λ told. p) ∣₁)
told_known false P has = ∣ (λ told. (let bad : ⊥ = cc in absurd bad)) ∣₁

pub nat_set : IsSet ℕ
nat_set = hlevel props

pub below_prop : (a b : ℕ) → IsProp (a ≤ b)
below_prop a b = hlevel props

-- where nothing waits at a log's end
pub waits_empty : (log : Tail) → length log.buffer ≡ 0 → WaitsFrame log
waits_empty log none = rw none (omega arith)

-- WHAT OPENING PROMISES of a disk that tells
module _ (told : Bool) (t : Table) (v w : View) (log : Tail) (pool : Pool)
    (runs : (q : Origin) (tail : ℕ) (ds : List Numbered) → IsTrue told → DoesBy t q → Opens q tail ds v → IsEngine q w log ds [] pool) where
  abbrev o : Origin
  o = origin_of t (reads v)

  abbrev ns : List Numbered
  ns = records_in o (reads v)

  engine_of : IsTrue told → IsSoundImage o (point_in o (reads v)) ns (reads v) → IsEngine o w log ns [] pool
  engine_of is s = runs o s.tail ns is (λ lsn x. refl) (sound_opens t v s)

  -- it holds the steps that the image held
  pub attach_steps : (from : State) (durable all : Steps) → IsTrue told → IsStoreImage t from durable all (reads v) → steps_of (durable_in w log ++ waiting_in log) ++ [] ≡ steps_of ns
  attach_steps from durable all is m = ∥∥₁_elim m.recovers.holds.sound (steps_set (steps_of (durable_in w log ++ waiting_in log) ++ []) (steps_of ns)) (λ s.
      steps_none (steps_of (durable_in w log ++ waiting_in log)) ∙ ap steps_of (all_are o w log ns [] pool (engine_of is s) ∙ append_none ns))

  -- which is none behind its tail
  pub attach_based : (from : State) (durable all : Steps) → IsTrue told → IsStoreImage t from durable all (reads v) → o.super.base ≤ max (tail_of log) 1
  attach_based from durable all is m = ∥∥₁_elim m.recovers.holds.sound (below_prop o.super.base (max (tail_of log) 1)) (λ s.
      let base = (engine_of is s).engine.place.base in
      let gate = (engine_of is s).engine.held.at_gate in
      omega (arith, base, gate, tail_at_gate log))

  -- which ends below its tail
  pub attach_below : (from : State) (durable all : Steps) → IsTrue told → IsStoreImage t from durable all (reads v) → next_lsn (steps_of ns) ≤ max (tail_of log) 1
  attach_below from durable all is m = ∥∥₁_elim m.recovers.holds.sound (below_prop (next_lsn (steps_of ns)) (max (tail_of log) 1)) (λ s. log_below o w log ns pool (engine_of is s))

  pub attach_durable : (from : State) (durable all : Steps) → IsTrue told → IsStoreImage t from durable all (reads v) → steps_of (durable_in w log) ++ [] ≡ steps_of ns
  attach_durable from durable all is m = ∥∥₁_elim m.recovers.holds.sound (steps_set (steps_of (durable_in w log) ++ []) (steps_of ns)) (λ s.
      steps_none (steps_of (durable_in w log)) ∙ ap steps_of (held_are w log ns [] (engine_of is s).engine.held).0)

  -- it has as many pages and bands as the superblock says
  pub attach_pages : (from : State) (durable all : Steps) (s : Super) → IsTrue told → IsStoreImage t from durable all (reads v) → IsAccepted t (reads v) s → (sizes pool).pages ≡ s.pages
  attach_pages from durable all s is m accepted = ∥∥₁_elim m.recovers.holds.sound (nat_set (sizes pool).pages s.pages)
      (λ x. ap (λ (g : Geometry). g.pages) (engine_of is x).sizes ∙ ap (λ (u : Super). u.pages) (accepted_super t (reads v) s accepted))

  pub attach_bands : (from : State) (durable all : Steps) (s : Super) → IsTrue told → IsStoreImage t from durable all (reads v) → IsAccepted t (reads v) s → (sizes pool).bands ≡ s.bands
  attach_bands from durable all s is m accepted = ∥∥₁_elim m.recovers.holds.sound (nat_set (sizes pool).bands s.bands)
      (λ x. ap (λ (g : Geometry). g.bands) (engine_of is x).sizes ∙ ap (λ (u : Super). u.bands) (accepted_super t (reads v) s accepted))

  module _ (allowed : (q : Origin) (tail : ℕ) (ds : List Numbered) → IsTrue told → DoesBy t q → Opens q tail ds v → redo_point q.super.base ds ≤ tail → IsAllowed q w log pool (redo_point q.super.base ds)) (lawful : IsLawful t)
      (super : Super) (last : Option ℕ) (is_super : IsTrue told → o.super ≡ super) (is_last : IsTrue told → last ≡ option_map (λ k. k.0) (last_checkpoint ns)) where
    -- none of its records is gone
    abbrev past : Past
    past = past_of v super [] last

    origin_same : IsTrue told → o ≡ origin_at t past
    origin_same is = ap (λ (u : Super). let x : Origin = record { effect = effect_in t; super = u; first = home_in (geometry u) (laid (reads v Home)) } in x) (is_super is)

    behind : (from : State) → IsTrue told → IsSoundImage o (point_in o (reads v)) ns (reads v) → IsPoised t from o w log pool → IsBehind t from past w log pool
    behind from is s p =
        let e = engine_of is s in
        let whole : durable_in w log ++ waiting_in log ≡ ns = all_are o w log ns [] pool e ∙ append_none ns in
        record {
          poised = subst (λ (x : Origin). IsPoised t from x w log pool) (origin_same is) p;
          says = ap tally (sym (steps_none (steps_of (durable_in w log))));
          below = tt;
          within = tt;
          later = inl (ap (λ (u : Super). u.base) (is_super is), refl);
          last = is_last is ∙ ap (λ (l : List Numbered). option_map (λ k. k.0) (last_checkpoint l)) (sym whole);
        }

    poised : (from : State) (durable all : Steps) → IsTrue told → IsStoreImage t from durable all (reads v) → ∥ IsBehind t from past w log pool ∥₁
    poised from durable all is m = ∥∥₁_elim m.recovers.holds.sound ∥∥₁_prop (λ s.
        ∣ behind from is s (opens_poised t from (reads v) w log pool s.low (image_is_said t from durable all (reads v) m) (image_formed t from durable all (reads v) m) m.recovers.holds.registered (engine_of is s)
        (allowed o s.tail ns is (λ lsn x. refl) (sound_opens t v s) (point_below t (point_in o (reads v)) ns (reads v) s))) ∣₁)

    -- and stands for what the image stood for
    pub attach_stands : (presumed : Type 0) (failed : Bool) (from : State) (durable all : Steps) → (IsTrue told → IsStoreImage t from durable all (reads v)) → Stands (IsGiven told presumed) failed past w log pool t from
    attach_stands presumed failed from durable all known = record {
      lawful = lawful;
      known = ∥∥₁_elim (told_known told (IsBehind t from past w log pool) (λ is. poised from durable all is (known is))) ∥∥₁_prop (λ k. ∣ (λ whole given. k given.0) ∣₁);
    }

    -- so for some, where what is presumed of the disk holds
    pub attach_some : (presumed : Type 0) → (IsTrue told → presumed → IsSomeStoreImage t (reads v)) → StandsForSome (IsGiven told presumed) false past w log pool
    attach_some presumed known tell = ∥∥₁_elim (known tell.tells.0 tell.tells.1) ∥∥₁_prop (λ k. ∣ (t, k.0, attach_stands presumed false k.0 k.1 k.2 (λ is. k.3)) ∣₁)

-- the moments
pub attach_moments : (t : Table) (v w : View) → SplitsAtSync v (IsGoingOn t v w) → SplitsAtSync v (IsAttaching t v w)
attach_moments t v w split = record { mid = split.mid; synced = split.synced; before = split.before; behind = attach_behind t v w split.mid split.behind }

-- the refusals
pub attach_refused : (told : Bool) (t : Table) (from : State) (durable log : Steps) (v w : View) (fault : OpenFault) → IsStoreImage t from durable log (reads v)
    → ((q : Origin) (tail : ℕ) (ds : List Numbered) → DoesBy t q → Opens q tail ds v → StoreRefused told t q ds v w fault) → ∥ StoreRefused told t (origin_of t (reads v)) (records_in (origin_of t (reads v)) (reads v)) v w fault ∥₁
attach_refused told t from durable log v w fault m refused =
    ∥∥₁_elim m.recovers.holds.sound ∥∥₁_prop (λ s. ∣ refused (origin_of t (reads v)) s.tail (records_in (origin_of t (reads v)) (reads v)) (λ lsn x. refl) (sound_opens t v s) ∣₁)
