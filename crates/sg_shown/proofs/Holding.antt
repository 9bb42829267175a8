-- WHAT A SPACE OVER AN ENGINE KEEPS is what the store asks between calls.
use Rattle.std.proofs.Common.{◌≡◌, ℕ, ◌+◌, ◌<◌, Bool, true, false, not, List, [], length, drop, Option, sym, ap, subst, ◌∙◌, refl}
use Rattle.std.specs.Prelude.{◌&&◌}
use Rattle.sg_base.specs.Sheet.{Sheet}
use Rattle.sg_alloc.specs.Flags.{free_of, map_bands_of}
use Rattle.sg_ops.specs.Laws.{IsLawful}
use Rattle.sg_ops.specs.Table.{Table}
use Rattle.sg_record.specs.Changes.{Change as Changing}
use Rattle.sg_recovery.specs.Alike.{TakesTo}
use Rattle.sg_recovery.specs.Log.{Open, tally}
use Rattle.sg_recovery.specs.Stands.{made}
use Rattle.sg_action.specs.States.{State, Change as Changed}
use Rattle.sg_actions.specs.Calls.{IsAtRest}
use Rattle.sg_actions.specs.Engine.{StandsNow, led}
use Rattle.sg_actions.specs.Images as images
use Rattle.sg_actions.specs.Steps.{Steps, ended, opened, repeated}
use Rattle.sg_actions.specs.Taken.{is_set, takes_page, takes_band}
use Rattle.sg_actions.specs.View.{IsKept}
use Rattle.sg_actions.proofs.Beginning.{idle_opened}
use Rattle.sg_actions.proofs.Chained.{none_open}
use Rattle.sg_actions.proofs.Flags.{and_left}
use Rattle.sg_actions.proofs.TakenOff.{take_off_begins}
use Rattle.sg_store.specs.Engine as store
use Rattle.sg_store.specs.Engine.{Sizes, IsEngine, IsActing, action_of, before_open}
use Rattle.sg_ground.specs.Recovers.{Recovering}
use Rattle.sg_shown.specs.Shown.{basis, Over, Keeping, Means, acting, shown_of, kept_before, begin_before, has_page, has_band}
use Rattle.sg_shown.specs.Spare.{HasSpare}
use Rattle.sg_shown.specs.Taken.{AreTaken, AreCounted}
use Rattle.sg_shown.proofs.History.{own, made_is, image_is, grows_is, takes_to, before_is}

-- what an engine's laws say of a value, that stands for these operations and first pages and tells
pub record Facts (recovers : Recovering) (a : Over) (t : Table) (from : State) : Type 0 where
  pub law : IsLawful t
  pub first : images.Grows a.engine.durable a.engine.steps
  pub images : StandsNow (recovers t) t (led from a.engine)

-- TAKEN
pub taken_same : {z : Sizes} {has has' has_band has_band' : ℕ → Bool} {at at' : ℕ → Option Sheet} → at' ≡ at → ((p : ℕ) → has p ≡ true → has' p ≡ true)
    → ((b : ℕ) → has_band b ≡ true → has_band' b ≡ true) → AreTaken z has has_band at → AreTaken z has' has_band' at'
taken_same {z} {has} {has'} {has_band} {has_band'} {at} {at'} e pages bands h = subst (λ (f : ℕ → Option Sheet). AreTaken z has' has_band' f) (sym e) (record {
  pages = λ size bytes s r p o. pages p (h.pages size bytes s r p o);
  bands = λ size bytes s r b o. bands b (h.bands size bytes s r b o);
})

-- COUNTED
pub counted_same : {z : Sizes} {free free' bands bands' : ℕ} {at at' : ℕ → Option Sheet} → free' ≡ free → bands' ≡ bands → at' ≡ at
    → AreCounted z free bands at → AreCounted z free' bands' at'
counted_same {z} {free} {free'} {bands} {bands'} {at} {at'} f b e h =
    subst (λ (n : ℕ). AreCounted z n bands' at') (sym f) (subst (λ (n : ℕ). AreCounted z free n at') (sym b) (subst (λ (x : ℕ → Option Sheet). AreCounted z free bands x) (sym e) h))

-- IDLE
pub closed_of : {a : Over} {t : Table} {z : Sizes} {from : State} → Keeping a t z from → (tally (ended a.engine.steps)).opened ≡ []
closed_of k = k.kept.chain.closed

-- no open change is in the log, and so it is no action's
pub idle_ended : (rs : Steps) → (tally (ended rs)).opened ≡ [] → (tally rs).opened ≡ [] → ended rs ≡ rs
idle_ended rs closed idle = sym (before_is rs closed) ∙ ap (λ (ds : List (Open Changing)). drop (length ds) rs) idle

pub ended_idle : (rs : Steps) → (tally (ended rs)).opened ≡ [] → ended rs ≡ rs → (tally rs).opened ≡ []
ended_idle rs closed idle = sym (ap (λ (xs : Steps). (tally xs).opened) idle) ∙ closed

-- WHERE NOBODY ACTS, what is reached now was reached at the begin
and_none : (b : Bool) → b ≡ true → (b && true) ≡ true
and_none true h = refl
and_none false h = h

pub begin_at_rest : (a : Over) (t : Table) (z : Sizes) (from : State) → ended a.engine.steps ≡ a.engine.steps
    → AreTaken z (has_page a) (has_band a) (repeated t from a.engine.steps).pages
    → AreTaken z (kept_before a t z from).pages (kept_before a t z from).bands (begin_before a t from).pages
begin_at_rest a t z from idle now =
    let none : opened a.engine.steps ≡ [] = idle_opened a.engine.steps idle in
    taken_same (ap (λ (rs : Steps). (repeated t from rs).pages) idle)
    (λ p h. ap (λ (ds : List Changed). is_set a.maps.pages p && not (takes_page ds p)) none ∙ and_none (is_set a.maps.pages p) (and_left (is_set a.maps.pages p) (is_set a.unfreed.pages p) h))
    (λ b h. ap (λ (ds : List Changed). is_set a.maps.bands b && not (takes_band ds b)) none ∙ and_none (is_set a.maps.bands b) (and_left (is_set a.maps.bands b) (is_set a.unfreed.bands b) h))
    now

pub keeping_at_rest : (a : Over) (t : Table) (z : Sizes) (from : State) → IsKept t (a.limits z.pages z.bands) (led from a.engine) a.maps a.rows a.actor
    → IsAtRest a.engine.steps a.unfreed a.actor
    → AreTaken z (has_page a) (has_band a) (repeated t from a.engine.steps).pages
    → AreCounted z (free_of a.maps.pages + free_of a.unfreed.pages) (free_of a.maps.bands + free_of a.unfreed.bands) (repeated t from a.engine.steps).pages
    → ((b : ℕ) → b < map_bands_of z.pages z.bands → has_band a b ≡ true) → HasSpare a.engine.steps a.rows → Keeping a t z from
keeping_at_rest a t z from kept rest now counted map spare = record { kept = kept; rest = λ e. rest; fresh = λ e. rest.freed; begin = begin_at_rest a t z from rest.idle now; now = now; counted = counted; map = map; spare = spare }

-- BETWEEN CALLS
module _ (recovers : Recovering) (a : Over) (t : Table) (z : Sizes) (from : State) (m : Means a t z from) (told : a.engine.Told) (f : Facts recovers a t from) where
  k : Keeping a t z from
  k = m.keeps told

  takes : TakesTo (own recovers t z) (basis recovers z).Alike (made (own recovers t z) from (before_open a.engine.steps)) (tally a.engine.steps).opened (made (own recovers t z) from a.engine.steps)
  takes =
      let c = k.kept.chain in
      let off = take_off_begins t f.law (a.limits z.pages z.bands) a.engine.base from a.engine.steps a.maps.pages a.maps.bands a.engine.tail a.rows a.actor c k.kept.well in
      let at : made (own recovers t z) from (before_open a.engine.steps) ≡ begin_before a t from = made_is recovers t z from (before_open a.engine.steps) ∙ ap (repeated t from) (before_is a.engine.steps c.closed) in
      subst (λ (b : State). TakesTo (own recovers t z) (basis recovers z).Alike b (tally a.engine.steps).opened (made (own recovers t z) from a.engine.steps)) (sym at)
      (subst (λ (x : State). TakesTo (own recovers t z) (basis recovers z).Alike (begin_before a t from) (tally a.engine.steps).opened x) (sym (made_is recovers t z from a.engine.steps))
      (takes_to recovers t z (kept_before a t z from) (begin_before a t from) (tally a.engine.steps).opened (repeated t from a.engine.steps) (ap (λ (l : State → ℕ → ℕ). l (begin_before a t from)) m.limits) k.begin off.takes))

  acts : (b : Bool) → a.begun ≡ b → IsActing t (basis recovers z) (store.led t z from (shown_of recovers a)) (action_of t (basis recovers z) from a.engine.steps (acting b a.actor.txn.0))
  acts false e = ended_idle a.engine.steps k.kept.chain.closed (k.rest e).idle
  acts true e = (none_open k.kept.chain.running, takes)

  pub engine_is : IsEngine t (basis recovers z) (store.led t z from (shown_of recovers a))
  engine_is = record {
    formed = k.kept.chain.running.log;
    below = k.kept.chain.running.below;
    durable = grows_is f.first;
    acting = acts a.begun refl;
    images = λ c h. image_is recovers t z (store.led t z from (shown_of recovers a)) a.engine.steps c m.size (f.images c h);
  }
