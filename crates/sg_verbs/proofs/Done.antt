-- What a verb did in the open action, as the store asks.
use Rattle.std.proofs.Common.{◌≡◌, ℕ, Bool, true, false, List, [], ◌∷◌, ◌++◌, Ok, Err, refl, sym, ap, ◌∙◌}
use Rattle.std.specs.FinMap.{get}
use Rattle.sg_base.specs.Spelling.{is_name}
use Rattle.sg_alloc.specs.Flags.{map_bands_of}
use Rattle.sg_ops.specs.Laws.{IsLawful}
use Rattle.sg_ops.specs.Table.{Table}
use Rattle.sg_recovery.specs.Log.{tally, changes_of, open_of}
use Rattle.sg_action.specs.States.{State}
use Rattle.sg_actions.specs.Later.{Went, HasGone, kept_at, begin_at}
use Rattle.sg_actions.specs.Steps.{Steps, repeated, opened}
use Rattle.sg_model.specs.declared.reason.Reason.{Reason}
use Rattle.sg_model.specs.Step.{is_changing_verb}
use Rattle.sg_model.specs.Verb.{Verb, Reply, Outcome}
use Rattle.sg_model.specs.Verb.Op.{On}
use Rattle.sg_reading.specs.Left.{IsLeft}
use Rattle.sg_reading.specs.Noted.{BringsBytes, PutsBackOf}
use Rattle.sg_contents.specs.Standing.{Contents, IsContents}
use Rattle.sg_contents.specs.Meaning.{reading, IsCounted}
use Rattle.sg_objects.specs.Done.{Did, IsDone, HasRoomFor}
use Rattle.sg_store.specs.Engine.{Sizes, Action, Changes, Changed}
use Rattle.sg_store.specs.Verbs.{Performed, IsNoted, IsRefused}
use Rattle.sg_ground.specs.Ground.{found_by}
use Rattle.sg_ground.specs.Recovers.{Recovering}
use Rattle.sg_ground.proofs.Clauses.{left_alone, noted_so, refused_so}
use Rattle.sg_shown.specs.Shown.{Over, Means, basis, basis_at}
use Rattle.sg_verbs.proofs.Held.{space_in, shows}
use Rattle.sg_verbs.proofs.Moving.{at_in, LaterOn, view_in, means_on}
use Rattle.sg_verbs.proofs.Story.{seen}
use Rattle.sg_verbs.proofs.Asked.{step_is}
use Rattle.sg_verbs.proofs.Doing.{leaves_of, do_went}
use Rattle.sg_verbs.proofs.Still.{nothing_made}

-- a note that has bytes is of a verb that can change something
some_bytes : (byte : ℕ) (bytes : List ℕ) → (byte ∷ bytes) ≡ [] → ⊥
some_bytes byte bytes e = cc

changes_by : (b : Bool) → (b ≡ false → ⊥) → b ≡ true
changes_by true h = refl
changes_by false h = absurd (h refl)

-- A VERB THAT WAS DONE, or refused
module _ (recovers : Recovering) (a b : Over) (t : Table) (name : List ℕ) (verb : Verb) where
  -- what the records mean stays
  pub done_means : (by : ℕ) (outcome : Outcome) (note : List ℕ) → Did (view_in a) (view_in b) (HasRoomFor t (view_in a) name verb) (IsDone t by name verb outcome note (space_in a) (space_in b))
      → (a.engine.Told → (s : Contents) × IsContents (space_in a) s × IsCounted (space_in a) s × HasRoomFor t (view_in a) name verb s) → (a.engine.Told → a.begun ≡ true)
      → (z : Sizes) (from : State) → Means a t z from → LaterOn recovers t a b → b.limits ≡ a.limits → (b.engine.Told → b.engine.failed ≡ false) → (b.engine.Told → b.engine.now ≡ repeated t from b.engine.steps) → Means b t z from
  done_means by outcome note did there begun z from m l same whole now = means_on recovers a b t z from m l same whole now (λ told'.
      let told = l.told told' in
      let r = there told in
      let d = did.done told r.0 r.1 r.3 in
      leaves_of z b d.0 (l.pages ∙ m.pages) (l.bands ∙ m.bands) d.1.contents (d.1.counted r.2) (l.begun ∙ begun told))

  module _ (z : Sizes) (from : State) (m : Means a t z from) (l : LaterOn recovers t a b) (n : Means b t z from) (told : a.engine.Told) (whole : b.engine.failed ≡ false) (now : a.engine.now ≡ repeated t from a.engine.steps)
      (now' : b.engine.now ≡ repeated t from b.engine.steps) (idle : (tally a.engine.steps).opened ≡ []) (act : Action (basis recovers z)) where
    -- where no change is open, none was made
    still_idle : opened b.engine.steps ≡ [] → (tally b.engine.steps).opened ≡ []
    still_idle still =
        let w : Went (recovers t) t (a.limits z.pages z.bands) (at_in from a) (at_in from b) = do_went recovers a b t z from m l told in
        let g : HasGone t (a.limits z.pages z.bands) (at_in from a) (at_in from b) w.made = w.gone whole in
        let none : w.made ≡ [] = nothing_made t (kept_at t (a.limits z.pages z.bands) (at_in from a)) (begin_at t (at_in from a)) from a.actor.txn.0 w.made a.engine.steps w.are (sym (ap opened g.steps) ∙ still) in
        ap (λ (rs : Steps). (tally rs).opened) (g.steps ∙ ap (λ (ms : Steps). ms ++ a.engine.steps) none) ∙ idle

    -- a refusal
    pub refused : (by : ℕ) (reason : Reason) (note : List ℕ) (s s' : Contents) → IsDone t by name verb (Err reason) note (space_in a) (space_in b) s s' → (note ≡ [] → opened b.engine.steps ≡ [])
        → (c : Changes t (basis recovers z) act (seen recovers t z from a) (seen recovers t z from b)) → Changed t (basis recovers z) act (seen recovers t z from a) (seen recovers t z from b) c.made
        → IsRefused t (basis recovers z) (seen recovers t z from a) (seen recovers t z from b) (reading s) (On name verb) reason
    unfolding still_idle
    refused by reason note s s' d still c changed =
        refused_so (basis_at recovers z) t act (seen recovers t z from a) (seen recovers t z from b) (space_in a) (space_in b) s s' by name verb reason note
        (shows recovers a t z from m.pages m.bands now) (shows recovers b t z from n.pages n.bands now') d c changed (still_idle (still d.note_is))

    -- and a reply
    module _ (lawful : IsLawful t) (named : is_name name ≡ true) (brings : BringsBytes verb) (reply : Reply) (s s' : Contents) (h : IsContents (space_in a) s) (counted : IsCounted (space_in a) s)
        (puts : is_changing_verb verb ≡ true → (left : IsLeft t act.transaction name verb (reading s) (reading s'))
        → PutsBackOf t verb left.bands (found_by (map_bands_of z.pages z.bands) (changes_of (open_of act.transaction (tally b.engine.steps).opened))) (get (reading s).things name))
        (c : Changes t (basis recovers z) act (seen recovers t z from a) (seen recovers t z from b)) (changed : Changed t (basis recovers z) act (seen recovers t z from a) (seen recovers t z from b) c.made) where
      noted_as : (note : List ℕ) → IsDone t act.transaction name verb (Ok reply) note (space_in a) (space_in b) s s' → (note ≡ [] → opened b.engine.steps ≡ []) → (is_changing_verb verb ≡ false → note ≡ [])
          → IsNoted t (basis recovers z) act (seen recovers t z from a) (seen recovers t z from b) (reading s) (On name verb) note
      noted_as [] d still alone =
          left_alone (basis_at recovers z) t lawful act (seen recovers t z from a) (seen recovers t z from b) (space_in a) (space_in b) s s' act.transaction name verb reply
          (shows recovers a t z from m.pages m.bands now) (shows recovers b t z from n.pages n.bands now') h d c changed (still_idle (still refl))
      noted_as (byte ∷ bytes) d still alone =
          noted_so (basis_at recovers z) t lawful act (seen recovers t z from b) (space_in a) (space_in b) s s' name verb reply (byte ∷ bytes)
          m.pages (shows recovers b t z from n.pages n.bands now') h counted d (λ none. cc) named brings (puts (changes_by (is_changing_verb verb) (λ e. absurd (some_bytes byte bytes (alone e)))))

      pub performed : (note : List ℕ) → IsDone t act.transaction name verb (Ok reply) note (space_in a) (space_in b) s s' → (note ≡ [] → opened b.engine.steps ≡ []) → (is_changing_verb verb ≡ false → note ≡ [])
          → Performed t (basis recovers z) act (seen recovers t z from a) (seen recovers t z from b) (reading s) (On name verb) reply note
      unfolding noted_as
      performed note d still alone = record { said = step_is t (reading s) name verb ∙ d.outcome_is; noted = noted_as note d still alone }
