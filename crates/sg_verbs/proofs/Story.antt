-- What calls of a space over an engine are to the store: changes of the open action, or none.
use Rattle.std.proofs.Common.{◌≡◌, ℕ, ◌≤◌, Bool, true, false, [], ◌++◌, Some, None, refl, sym, ap, ◌∙◌, subst}
use Rattle.sg_disk.specs.Disk.{LeavesOnly}
use Rattle.sg_ops.specs.Table.{Table}
use Rattle.sg_action.specs.States.{State}
use Rattle.sg_actions.specs.Later.{Went, HasGone, kept_at}
use Rattle.sg_actions.specs.Steps.{Steps, repeated, begin_of, ended}
use Rattle.sg_recovery.specs.Log.{tally}
use Rattle.sg_store.specs.Engine.{Sizes, View, Action, IsEngine, GoesOn, Changes, Changed, Rests, Rested, led, action_of, pages_of}
use Rattle.sg_ground.specs.Recovers.{Recovering}
use Rattle.sg_shown.specs.Shown.{Over, Keeping, Means, basis, shown_of, acting}
use Rattle.sg_shown.proofs.History.{made_is, grows_is, moments_are, changes_are, before_is, own}
use Rattle.sg_verbs.proofs.Moving.{at_in}

module _ (recovers : Recovering) (t : Table) (z : Sizes) (from : State) where
  -- what it shows the store
  abbrev pub seen : Over → View (basis recovers z)
  seen a = led t z from (shown_of recovers a)

  -- the action that was begun
  abbrev pub act_of : Over → Action (basis recovers z)
  act_of a = record { transaction = a.actor.txn.0; pages = begin_of t from a.engine.steps }

  -- it is what the store sees
  pub acts_is : (a : Over) → a.begun ≡ true → (tally (ended a.engine.steps)).opened ≡ [] → (seen a).action ≡ Some (act_of a)
  acts_is a begun closed =
      ap (λ (b : Bool). action_of t (basis recovers z) from a.engine.steps (acting b a.actor.txn.0)) begun
      ∙ (λ i. Some (record { transaction = a.actor.txn.0; pages = pages i }))
    where
      pages : Rattle.sg_recovery.specs.Stands.made (own recovers t z) from (Rattle.sg_store.specs.Engine.before_open a.engine.steps) ≡ begin_of t from a.engine.steps
      pages = made_is recovers t z from (Rattle.sg_store.specs.Engine.before_open a.engine.steps) ∙ ap (repeated t from) (before_is a.engine.steps closed)

  no_action : (act : Action (basis recovers z)) → None ≡ Some act → ⊥
  no_action act e = cc

  pub begun_by : (a : Over) (act : Action (basis recovers z)) → (seen a).action ≡ Some act → a.begun ≡ true
  begun_by a act e = go a.begun refl
    where
      go : (b : Bool) → a.begun ≡ b → a.begun ≡ true
      go true is = is
      go false is = absurd (no_action act (sym (ap (λ (b : Bool). action_of t (basis recovers z) from a.engine.steps (acting b a.actor.txn.0)) is) ∙ e))

  same_some : (x y : Action (basis recovers z)) → Some x ≡ Some y → x ≡ y
  same_some x y e = cc

  pub act_is : (a : Over) (act : Action (basis recovers z)) → (tally (ended a.engine.steps)).opened ≡ [] → (seen a).action ≡ Some act → act ≡ act_of a
  act_is a act closed e = same_some act (act_of a) (sym e ∙ acts_is a (begun_by a act e) closed)

  -- CHANGES, also of a call that fails
  module _ (a b : Over) (m : Means a t z from) (k : Keeping a t z from) (w : Went (recovers t) t (a.limits z.pages z.bands) (at_in from a) (at_in from b)) where
    own_changes : Changes t (basis recovers z) (act_of a) (seen a) (seen b)
    own_changes = record {
      made = w.made;
      are = changes_are recovers t z (kept_at t (a.limits z.pages z.bands) (at_in from a)) from (act_of a) (ap (λ (f : State → ℕ → ℕ). f (begin_of t from a.engine.steps)) m.limits) k.begin w.made a.engine.steps w.are;
      formed = w.formed;
      moments = moments_are recovers t z (seen a) b.engine.disk (w.made ++ a.engine.steps) m.size w.moments;
    }

    pub changes : (act : Action (basis recovers z)) → (seen a).action ≡ Some act → Changes t (basis recovers z) act (seen a) (seen b)
    unfolding own_changes
    changes act e = record {
      made = w.made;
      are = subst (λ (x : Action (basis recovers z)). Rattle.sg_store.specs.Engine.AreChanges t (basis recovers z) from x w.made a.engine.steps) (sym (act_is a act k.kept.chain.closed e)) own_changes.are;
      formed = own_changes.formed;
      moments = own_changes.moments;
    }

    -- nothing is logged where no action was begun
    pub rests : a.begun ≡ false → Rests t (basis recovers z) (seen a) (seen b)
    rests none = record { moments = subst (λ (rs : Steps). LeavesOnly a.engine.disk b.engine.disk (Rattle.sg_store.specs.Engine.IsImageOf t (basis recovers z) (seen a) rs)) (ap (λ (ms : Steps). ms ++ a.engine.steps) (w.rests none)) (moments_are recovers t z (seen a) b.engine.disk (w.made ++ a.engine.steps) m.size w.moments) }

    -- WHERE IT STILL TELLS it goes on
    module _ (g : HasGone t (a.limits z.pages z.bands) (at_in from a) (at_in from b) w.made) (tail : a.engine.tail ≤ b.engine.tail) (engine : IsEngine t (basis recovers z) (seen b)) where
      pub on : GoesOn t (basis recovers z) (seen a) (seen b)
      on = record { engine = engine; base = g.base; first = refl; tail = tail; durable = grows_is g.durable }

      pub changed : b.begun ≡ a.begun → (act : Action (basis recovers z)) → (seen a).action ≡ Some act → Changed t (basis recovers z) act (seen a) (seen b) w.made
      changed begun act e = record {
        goes_on = on;
        log = g.steps;
        action = acts_is b (begun ∙ begun_by a act e) g.kept.chain.closed ∙ ap (λ (x : Action (basis recovers z)). Some x) (same ∙ sym (act_is a act k.kept.chain.closed e));
      }
        where
          same : act_of b ≡ act_of a
          same = λ i. record { transaction = (g.txn i).0; pages = g.begin i }

      -- both of them
      pub both : b.begun ≡ a.begun → (act : Action (basis recovers z)) → (seen a).action ≡ Some act → (c : Changes t (basis recovers z) act (seen a) (seen b)) × Changed t (basis recovers z) act (seen a) (seen b) c.made
      unfolding own_changes changes
      both begun act e = (changes act e, changed begun act e)
