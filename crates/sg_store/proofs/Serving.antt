-- What is asked of a store leads to what its calls ask, and from one call to the next.
use Rattle.std.proofs.Common.{◌≡◌, ℕ, ◌<◌, ◌≤◌, true, false, List, length, sym, ◌∙◌, subst, arith}
use Rattle.std.specs.Prelude.{is_some}
use Rattle.sg_ops.specs.Table.{Table as Operations}
use Rattle.sg_core.specs.Live.{Txn}
use Rattle.sg_core.specs.Live as core
use Rattle.sg_recovery.specs.Log.{tally}
use Rattle.sg_run.specs.Run.{Run}
use Rattle.sg_store.specs.Ground.{Ground, IsLawful}
use Rattle.sg_store.specs.Engine.{View, Sizes, Shown, led, Asked, AskedBy, IsAtRest, HasPlace, IsAt, MayAct}
use Rattle.sg_store.specs.Verbs.{CanLook}
use Rattle.sg_store.specs.Store.{Core, Shows, IsLeaving, IsUndoing}
use Rattle.sg_store.specs.Calls.{Goes, Since, IsUndoingSince, IsLeavingSince, GivesSince, IsBackSince}
use Rattle.sg_store.specs.Asks.{ShowsSome, IsRunning, IsFreeing, IsTakingBack, HasMark, IsGoingBack}
use Rattle.sg_store.proofs.Calls.{no_stop}
use Rattle.sg_store.proofs.Live.{same_live}
use Rattle.sg_store.proofs.Counting.{few_live}
use Rattle.sg_store.proofs.Holding.{reading, reads_so}

module _ {basis : Sizes → Ground} where
  -- what follows from what is asked is asked
  pub asked_for : {t : Operations} (e : Shown basis) (P Q : (g : Ground) → View g → Type 0) → ((g : Ground) (v : View g) → P g v → Q g v) → AskedBy t e P → AskedBy t e Q
  asked_for e P Q f s = record { sizes = s.sizes; from = s.from; means = s.means; can = λ told. f (basis s.sizes) (led _ s.sizes (s.from told) e) (s.can told) }

  pub asked_of : (t : Operations) (e : Shown basis) (P : (g : Ground) → View g → Type 0) (Q : (t : Operations) (g : Ground) → View g → Type 0) → ((g : Ground) (v : View g) → P g v → Q t g v) → AskedBy t e P → Asked e Q
  asked_of t e P Q f s = record { by = t; sizes = s.sizes; from = s.from; means = s.means; can = λ told. f (basis s.sizes) (led t s.sizes (s.from told) e) (s.can told) }

  pub asked_by : (e : Shown basis) (Q : (t : Operations) (g : Ground) → View g → Type 0) → (t : Operations) → AskedBy t e (Q t) → Asked e Q
  asked_by e Q t s = record { by = t; sizes = s.sizes; from = s.from; means = s.means; can = s.can }

  -- a store that served serves behind a call
  pub serves_on : (t : Operations) (old new : Shown basis) (k m : Core) (Line : (z : Sizes) → (basis z).X → Run → Run → Type 0)
      → ((z : Sizes) (from : (basis z).X) → old.means t z from → new.means t z from) → (new.Told → old.Told)
      → ((z : Sizes) (from : (basis z).X) → old.means t z from → old.Told → (x : Run) → IsLawful t (basis z) → Shows t (basis z) (led t z from old) k x → Goes t (basis z) (led t z from old) x (Line z from x) (led t z from new) m)
      → AskedBy t old (ShowsSome k t) → AskedBy t new (ShowsSome m t)
  serves_on t old new k m Line keeps back goes s = record {
    sizes = s.sizes;
    from = λ told. s.from (back told);
    means = λ told. keeps s.sizes (s.from (back told)) (s.means (back told));
    can = λ told. (let h = s.can (back told) in let next = goes s.sizes (s.from (back told)) (s.means (back told)) (back told) h.run h.lawful h.shows in record { lawful = h.lawful; run = next.after; shows = next.shows });
  }

pub runs_some : (t : Operations) (g : Ground) (v : View g) (k : Core) → is_some k.stopped ≡ false → ShowsSome k t g v → IsRunning k.live t g v
runs_some t g v k e h = record { lawful = h.lawful; run = h.run; kept = (h.shows.runs (sym h.shows.stopped ∙ no_stop t g k.stopped e)).is_kept }

pub at_rest : (t : Operations) (g : Ground) (v : View g) (txns : List Txn) → IsRunning txns t g v → IsAtRest t g v
at_rest t g v txns h = record { engine = h.kept.engine; idle = h.kept.idle }

pub has_place : (t : Operations) (g : Ground) (v : View g) (txns : List Txn) → length txns < 64 → IsRunning txns t g v → HasPlace t g v
has_place t g v txns few h = record { rest = at_rest t g v txns h; few = (let le : length (tally v.log).live ≤ length txns = few_live t g v txns h.run h.kept in omega (arith, le, few)) }

pub goes_on : (t : Operations) (g : Ground) (v : View g) (txns : List Txn) (u : ℕ) → core.is_live txns u ≡ true → IsRunning txns t g v → IsAt u t g v
goes_on t g v txns u live h = record { rest = at_rest t g v txns h; live = h.kept.logs.same.lives u ∙ (sym (same_live txns h.run.so_far.live u h.kept.live) ∙ live) }

pub may_act : (t : Operations) (g : Ground) (v : View g) (u : ℕ) → IsAt u t g v → MayAct u t g v
may_act t g v u h = record { rest = h.rest; live = λ ne. h.live }

pub can_look : (t : Operations) (g : Ground) (v : View g) (txns : List Txn) → IsRunning txns t g v → CanLook t g v
can_look t g v txns h = record { rest = at_rest t g v txns h; reading = reading t g h.lawful v h.run txns h.kept; reads = reads_so t g h.lawful v h.run txns h.kept }

-- a pass of a loop asks what the loop asked
module _ {basis : Sizes → Ground} (t : Operations) (old now : Shown basis) (before after : Core) (u : ℕ) where
  pub freeing_since : (left : ℕ) → Since t old now before after (λ g v w. IsLeavingSince t g (IsLawful t g) v w before after u left) → AskedBy t old (IsFreeing before.live u t) → AskedBy t now (IsFreeing after.live u t)
  freeing_since left i s = record {
    sizes = s.sizes;
    from = λ told. s.from (i.told told);
    means = λ told. i.means s.sizes (s.from (i.told told)) (s.means (i.told told));
    can = λ told.
        (let h = s.can (i.told told) in
        let d = i.done s.sizes (s.from (i.told told)) (s.means (i.told told)) (i.told told) in
        record { lawful = h.lawful; run = h.run; leaving = subst (λ (k : Core). IsLeaving t (basis s.sizes) (led t s.sizes (s.from (i.told told)) now) k.live h.run u) (sym i.same) (d.leaving h.run h.lawful h.leaving) });
  }

  pub back_since : (stop at : ℕ) → core.is_live before.live u ≡ true → GivesSince t old now before after u (λ g v w. IsBackSince t g (IsLawful t g) v w before.live after.live u stop at) → AskedBy t old (HasMark before.live u stop t)
      → AskedBy t now (IsGoingBack after.live u stop at t)
  back_since stop at live i s = record {
    sizes = s.sizes;
    from = λ told. s.from (i.told told);
    means = λ told. i.means s.sizes (s.from (i.told told)) (s.means (i.told told));
    can = λ told.
        (let h = s.can (i.told told) in
        let d = i.done s.sizes (s.from (i.told told)) (s.means (i.told told)) (i.told told) in
        let is = sym (same_live before.live h.run.so_far.live u h.kept.live) ∙ live in
        record { lawful = h.lawful; run = h.run; undoing = d.undoing h.run h.lawful h.kept is; live = is; within = h.within });
  }

  pub taking_since : (at : ℕ) → core.is_live before.live u ≡ true → Since t old now before after (λ g v w. IsUndoingSince t g (IsLawful t g) v w before after u at) → AskedBy t old (IsRunning before.live t) → AskedBy t now (IsTakingBack after.live u at t)
  taking_since at live i s = record {
    sizes = s.sizes;
    from = λ told. s.from (i.told told);
    means = λ told. i.means s.sizes (s.from (i.told told)) (s.means (i.told told));
    can = λ told.
        (let h = s.can (i.told told) in
        let d = i.done s.sizes (s.from (i.told told)) (s.means (i.told told)) (i.told told) in
        let is = sym (same_live before.live h.run.so_far.live u h.kept.live) ∙ live in
        record { lawful = h.lawful; run = h.run; undoing = subst (λ (k : Core). IsUndoing t (basis s.sizes) (led t s.sizes (s.from (i.told told)) now) k.live h.run u 0 at) (sym i.same) (d.undoing h.run h.lawful h.kept is); live = is });
  }
