-- What an operation is said to need, as the store asks.
use Rattle.std.proofs.Common.{◌≡◌, ℕ, List, Option, Err, sym, ap, ◌∙◌, subst}
use Rattle.std.specs.Prelude.{IsOk}
use Rattle.std.specs.FinMap.{get}
use Rattle.sg_ops.specs.Table.{Table as Operations}
use Rattle.sg_model.specs.Objects.{Object}
use Rattle.sg_model.specs.Step.{on, step}
use Rattle.sg_model.specs.Verb.{Verb, Outcome}
use Rattle.sg_model.specs.Verb.Op.{On}
use Rattle.sg_model.specs.declared.reason.Reason.{Reason}
use Rattle.sg_reading.specs.Reading.{Reading, objects, plain}
use Rattle.sg_reading.proofs.Slotted.{get_objects}
use Rattle.sg_contents.specs.Standing.{Contents}
use Rattle.sg_contents.specs.Meaning.{reading}
use Rattle.sg_objects.specs.Needing.{HasNeed}
use Rattle.sg_objects.specs.Needs.{Needed, needed}
use Rattle.sg_objects.specs.declared.need.Needs.{Needs as Said}
use Rattle.sg_store.specs.Engine.{Sizes}
use Rattle.sg_store.specs.Verbs as store
use Rattle.sg_ground.specs.Recovers.{Recovering}
use Rattle.sg_shown.specs.Shown.{basis}

-- a step on a reading is the verb's on what stands there
pub step_is : (t : Operations) (o : Reading) (name : List ℕ) (verb : Verb) → (step t (objects o) (On name verb)).0 ≡ (on t verb (plain (get o.things name))).0
unfolding step
step_is t o name verb = ap (λ (x : Option Object). (on t verb x).0) (get_objects o name)

-- so it is refused, or needs what is said
pub refused_as : (t : Operations) (s : Contents) (o : Reading) (name : List ℕ) (verb : Verb) (reason : Reason) → reading s ≡ o → (on t verb (plain (get (reading s).things name))).0 ≡ Err reason → (step t (objects o) (On name verb)).0 ≡ Err reason
refused_as t s o name verb reason same e = step_is t o name verb ∙ (ap (λ (x : Reading). (on t verb (plain (get x.things name))).0) (sym same) ∙ e)

pub needs_as : (recovers : Recovering) (z : Sizes) (t : Operations) (s : Contents) (o : Reading) (name : List ℕ) (verb : Verb) (n : Said) → reading s ≡ o → HasNeed t name verb s n
    → store.HasNeed t (basis recovers z) o (On name verb) (record { pages = n.pages; bands = n.bands; reserve = n.reserve })
needs_as recovers z t s o name verb n same h =
    let e = h.needs ∙ ap (λ (x : Reading). needed verb (get x.things name)) same in record {
      pages = ap (λ (x : Needed). x.pages) e;
      bands = ap (λ (x : Needed). x.bands) e;
      reserve = ap (λ (x : Needed). x.reserve) e;
      replies = subst (λ (r : Outcome). IsOk r) (ap (λ (x : Reading). (on t verb (plain (get x.things name))).0) same ∙ sym (step_is t o name verb)) h.accepted;
    }
