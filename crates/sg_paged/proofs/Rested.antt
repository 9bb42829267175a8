-- A CALL THAT APPENDS NO RECORD.
use Rattle.std.proofs.Common.{◌≡◌, ℕ, Bool, true, false, not, List, Option, Some, None, Result, sym, ap, subst, ◌∙◌, refl}
use Rattle.std.specs.Prelude.{OnOk, OnErr, IfOk, IfSome, option_map, ◌&&◌, if◌then◌else◌}
use Rattle.sg_base.specs.declared.numbers.TxnId.{TxnId}
use Rattle.sg_alloc.specs.declared.maps.Maps.{Maps}
use Rattle.sg_ops.specs.Table.{Table}
use Rattle.sg_recovery.specs.Chains.{Formed}
use Rattle.sg_recovery.specs.Log.{tally, is_in}
use Rattle.sg_space.specs.declared.space.SpaceFault.{SpaceFault}
use Rattle.sg_action.specs.States.{State}
use Rattle.sg_actions.specs.Calls.{IsActable}
use Rattle.sg_actions.specs.Counts.{Note}
use Rattle.sg_actions.specs.Cutting.{IsOldest}
use Rattle.sg_actions.specs.Undoing.{next_note}
use Rattle.sg_actions.proofs.Given.{next_first}
use Rattle.sg_actions.specs.Engine.{EngineSeen, led}
use Rattle.sg_actions.specs.Led.{HasStayed, Stayed}
use Rattle.sg_actions.specs.Steps.{Steps, ended, opened, begin_of, repeated}
use Rattle.sg_actions.specs.Taken.{is_set, takes_page, takes_band}
use Rattle.sg_actions.specs.View.{IsKept, HasFreedNone}
use Rattle.sg_actions.specs.declared.rows.Actor.{Actor}
use Rattle.sg_store.specs.Engine as store
use Rattle.sg_store.specs.Engine.{Sizes, IsNextUndo, Rests, Rested, action_of}
use Rattle.sg_ground.specs.Recovers.{Recovering}
use Rattle.sg_shown.specs.Room.{SameRoom}
use Rattle.sg_shown.specs.Shown.{basis, Over, Keeping, Means, acting, shown_of}
use Rattle.sg_shown.specs.Taken.{AreTaken}
use Rattle.sg_shown.proofs.Calls.{goes_on}
use Rattle.sg_shown.proofs.Holding.{Facts, taken_same, counted_same}
use Rattle.sg_shown.proofs.Spared.{spare_on}
use Rattle.sg_paged.proofs.Behind.{room_same, by_told, live_row}

-- what stays of a space in such a call
pub record Same (a b : Over) : Type 1 where
  pub maps : b.maps ≡ a.maps
  pub unfreed : b.unfreed ≡ a.unfreed
  pub rows : b.rows ≡ a.rows
  pub actor : b.actor ≡ a.actor
  pub begun : b.begun ≡ a.begun
  pub begin : b.begun ≡ true → b.begin ≡ a.begin
  pub limits : b.limits ≡ a.limits

abbrev pub room_of : (a b : Over) → Same a b → SameRoom a b
room_of a b s = room_same a b s.maps s.unfreed

-- what was reached at the begin of the open action, by the maps and the steps
abbrev taken_at : Table → Sizes → State → Maps → Steps → Type 0
taken_at t z from maps rs = AreTaken z (λ n. is_set maps.pages n && not (takes_page (opened rs) n)) (λ n. is_set maps.bands n && not (takes_band (opened rs) n)) (begin_of t from rs).pages

keeping_stays : (a b : Over) (t : Table) (z : Sizes) (from : State) → Same a b → b.engine.steps ≡ a.engine.steps
    → IsKept t (b.limits z.pages z.bands) (led from b.engine) b.maps b.rows b.actor → Keeping a t z from → Keeping b t z from
keeping_stays a b t z from s steps kept k = record {
  kept = kept;
  rest = λ e. let r = k.rest (sym s.begun ∙ e) in record {
    idle = subst (λ (rs : Steps). ended rs ≡ rs) (sym steps) r.idle;
    system = ap (λ (x : Actor). x.txn.0) s.actor ∙ r.system;
    freed = subst HasFreedNone (sym s.unfreed) r.freed;
  };
  fresh = λ e. subst HasFreedNone (sym s.unfreed) (k.fresh (ap opened (sym steps) ∙ e));
  begin = subst (λ (x : Maps). taken_at t z from x b.engine.steps) (sym s.maps) (subst (λ (rs : Steps). taken_at t z from a.maps rs) (sym steps) k.begin);
  now = taken_same (ap (λ (rs : Steps). (repeated t from rs).pages) steps) (λ p h. (room_of a b s).page p ∙ h) (λ n h. (room_of a b s).band n ∙ h) k.now;
  counted = counted_same (room_of a b s).free_pages (room_of a b s).free_bands (ap (λ (rs : Steps). (repeated t from rs).pages) steps) k.counted;
  map = λ n less. (room_of a b s).band n ∙ k.map n less;
  spare = spare_on (ap (λ (rs : Steps). (tally rs).live) steps) s.rows k.spare;
}

pub stay_means : {T : Type 0} (a b : Over) (t : Table) (z : Sizes) (from : State) (r : Result T SpaceFault) → Means a t z from → Same a b → b.means t from
    → (b.engine.Told → a.engine.Told) → OnErr r (b.engine.Told → ⊥) → OnOk r (HasStayed (led from a.engine) (led from b.engine))
    → OnOk r (a.engine.Told → IsKept t (a.limits z.pages z.bands) (led from a.engine) a.maps a.rows a.actor → IsKept t (a.limits z.pages z.bands) (led from b.engine) b.maps b.rows b.actor) → Means b t z from
stay_means a b t z from r h s stands back silent stays kept = record {
  since = record { stands = stands; since = λ o told. let told' = back told in ap (begin_of t from) (steps told) ∙ (h.since.since (sym s.begun ∙ o) told' ∙ sym (s.begin o)) };
  size = h.size;
  pages = (room_of a b s).pages ∙ h.pages;
  bands = (room_of a b s).bands ∙ h.bands;
  limits = ap (λ (l : (pages bands : ℕ) → State → ℕ → ℕ). l z.pages z.bands) s.limits ∙ h.limits;
  keeps = λ told. let told' = back told in let k = h.keeps told' in keeping_stays a b t z from s (steps told)
      (subst (λ (l : (pages bands : ℕ) → State → ℕ → ℕ). IsKept t (l z.pages z.bands) (led from b.engine) b.maps b.rows b.actor) (sym s.limits) (by_told r silent told kept told' k.kept)) k;
}
  where
    steps : b.engine.Told → b.engine.steps ≡ a.engine.steps
    steps told = ((by_told r silent told stays).stays (back told)).steps

-- and a value behind a call that fails, where no more is told
pub untold_means : (a b : Over) (t : Table) (z : Sizes) (from : State) → Means a t z from → b.maps ≡ a.maps → b.limits ≡ a.limits → b.means t from
    → (b.engine.Told → ⊥) → Means b t z from
untold_means a b t z from h m l stands never = record {
  since = record { stands = stands; since = λ o told. absurd (never told) };
  size = h.size;
  pages = ap (λ (x : Maps). Rattle.std.specs.Prelude.length x.pages) m ∙ h.pages;
  bands = ap (λ (x : Maps). Rattle.std.specs.Prelude.length x.bands) m ∙ h.bands;
  limits = ap (λ (f : (pages bands : ℕ) → State → ℕ → ℕ). f z.pages z.bands) l ∙ h.limits;
  keeps = λ told. absurd (never told);
}

-- NOTHING HAS CHANGED but what is durable
pub rested_of : (recovers : Recovering) (a b : Over) (t : Table) (z : Sizes) (from : State) (e : EngineSeen) → e ≡ a.engine
    → Stayed (led from e) (led from b.engine) → Means b t z from → b.engine.Told → Facts recovers b t from → SameRoom a b
    → acting b.begun b.actor.txn.0 ≡ acting a.begun a.actor.txn.0
    → Rested t (basis recovers z) (store.led t z from (shown_of recovers a)) (store.led t z from (shown_of recovers b))
rested_of recovers a b t z from e is h m told f room who = let s = subst (λ (y : EngineSeen). Stayed (led from y) (led from b.engine)) is h in record {
  goes_on = goes_on recovers a b t z from m told f s.base s.tail s.durable;
  log = s.steps;
  action = λ j. action_of t (basis recovers z) from (s.steps j) (who j);
  pages = room.free_pages;
  bands = room.free_bands;
}

-- WHO ACTED may act again where nobody does
pub again_can : (a m : Over) (t : Table) (z : Sizes) (from : State) (who : Option TxnId) → who ≡ (if a.begun then Some a.actor.txn else None)
    → Keeping a t z from → Keeping m t z from → m.begun ≡ false → m.engine.steps ≡ a.engine.steps
    → IfSome who (λ u. IsActable m.engine.steps m.unfreed m.rows m.actor u.0)
again_can a m t z from who is k h quiet same = subst (λ (o : Option TxnId). IfSome o (λ u. IsActable m.engine.steps m.unfreed m.rows m.actor u.0)) (sym is) (by_begun a.begun)
  where
    by_begun : (b : Bool) → IfSome (if b then Some a.actor.txn else None) (λ u. IsActable m.engine.steps m.unfreed m.rows m.actor u.0)
    by_begun false = tt
    by_begun true = record { rest = h.rest quiet; row = λ nz. let live = subst (λ (rs : Steps). is_in a.actor.txn.0 (tally rs).live ≡ true) (sym same) (k.kept.chain.running.acting nz) in (live_row {a = m} a.actor.txn.0 h (h.rest quiet).system live, live) }

-- THE NOTE TO WHICH AN UNDO COMES
pub next_is : (rs : Steps) (txn : ℕ) (r : Option ℕ) → Formed rs → r ≡ option_map (λ n. n.lsn) (next_note txn txn rs) → IsNextUndo txn (tally rs).notes r
next_is rs txn r formed is = by_next (next_note txn txn rs) refl
  where
    by_next : (o : Option Note) → next_note txn txn rs ≡ o → IsNextUndo txn (tally rs).notes r
    by_next None e = subst (λ (q : Option ℕ). IsNextUndo txn (tally rs).notes q) (sym (is ∙ ap (option_map (λ (n : Note). n.lsn)) e)) (next_first.none rs txn formed e)
    by_next (Some n) e = let f = next_first.some rs txn txn n e in subst (λ (q : Option ℕ). IsNextUndo txn (tally rs).notes q) (sym (is ∙ ap (option_map (λ (n : Note). n.lsn)) e)) (n, f.0, f.1, refl)

-- the transaction that began first, as a store says it and as the actions do
pub oldest_is : (oldest : Option TxnId) (live : List ℕ) → store.IsOldest oldest live → IsOldest oldest live
oldest_is None live h = h
oldest_is (Some u) live h = h
