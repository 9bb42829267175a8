-- A verb that can change nothing is looked up while whoever acts pauses: what is so then of the space, is so of it where that goes on.
use Rattle.std.proofs.Common.{◌≡◌, ◌⊎◌, inl, inr, ℕ, ◌+◌, ◌≤◌, Bool, true, false, List, [], ◌++◌, Result, Ok, Err, refl, sym, ap, ◌∙◌, subst}
use Rattle.std.specs.Prelude.{IfErr}
use Rattle.sg_base.specs.Ends.{HasRisen}
use Rattle.sg_ops.specs.Table.{Table}
use Rattle.sg_recovery.specs.Log.{tally}
use Rattle.sg_action.specs.States.{State}
use Rattle.sg_actions.specs.Acting.{CanChange}
use Rattle.sg_actions.specs.Later.{Went}
use Rattle.sg_actions.specs.Steps.{Steps, repeated, ended}
use Rattle.sg_actions.specs.View.{Since}
use Rattle.sg_actions.specs.declared.acts.Acts.{Acts}
use Rattle.sg_actions.proofs.GoingOn.{may_of}
use Rattle.sg_actions.specs.declared.engine.Engine.{Ghosts}
use Rattle.sg_contents.specs.Standing.{Contents, IsContents}
use Rattle.sg_model.specs.Step.{is_changing_verb}
use Rattle.sg_model.specs.Verb.{Verb, Outcome}
use Rattle.sg_model.specs.declared.op.Reply.{Reply}
use Rattle.sg_objects.specs.Calls.{CountsObject, IfSaid, IfAnswered}
use Rattle.sg_objects.specs.Done.{Did, HasRoomFor, IsDone, IsFresh}
use Rattle.sg_objects.specs.Quiet.{IsQuiet, LooksAtObjects, Wrote, most_records}
use Rattle.sg_objects.specs.declared.verb.ObjFault.{ObjFault as ObjectsFault}
use Rattle.sg_objects.specs.declared.verb.ObjFault.TheVariants as objects
use Rattle.sg_space.specs.declared.space.SpaceFault.{SpaceFault}
use Rattle.sg_space.specs.declared.space.SpaceFault.TheVariants as faults
use Rattle.sg_ground.specs.Recovers.{Recovering}
use Rattle.sg_store.specs.Engine.{Sizes}
use Rattle.sg_shown.specs.Shown.{Over, Means, over}
use Rattle.sg_shown.proofs.Holding.{idle_ended}
use Rattle.sg_verbs.specs.Looks.{HasHeld, HasReleased, IsNear}
use Rattle.sg_verbs.proofs.Held.{space_in}
use Rattle.sg_verbs.proofs.Moving.{LaterOn, view_in, at_in, went}
use Rattle.sg_verbs.proofs.Settled.{IsSane, Passes, Fails}
use Rattle.sg_verbs.proofs.Looking.{paused, resumed, paused_since}
use Rattle.sg_verbs.proofs.Looked.{paused_is, gone_on_is}

abbrev pub held : (changes : Bool) → Over → Over
held true a = a
held false a = paused a

abbrev pub released : (changes was : Bool) → Over → Over
released true was b = b
released false was b = resumed was b

pub held_is : {E : Type 0} {g : Ghosts E} (changes was : Bool) (a p : Acts E g) → HasHeld changes was a p → over p ≡ held changes (over a)
held_is true was a p h = λ i. over (h i)
held_is false was a p h = paused_is a p h.0

pub released_is : {E : Type 0} {g : Ghosts E} (changes was : Bool) (a p b d : Acts E g) → HasHeld changes was a p → HasReleased changes was b d → over d ≡ released changes a.begun (over b)
released_is true was a p b d h k = λ i. over (k i)
released_is false was a p b d h k = gone_on_is was b d k ∙ (λ i. resumed (h.1 i) (over b))

pub told_held : (changes : Bool) (a : Over) → (held changes a).engine.Told → a.engine.Told
told_held true a h = h
told_held false a h = h

pub tail_held : (changes : Bool) (a : Over) → (held changes a).engine.tail ≡ a.engine.tail
tail_held true a = refl
tail_held false a = refl

pub tail_released : (changes was : Bool) (b : Over) → (released changes was b).engine.tail ≡ b.engine.tail
tail_released true was b = refl
tail_released false was b = refl

-- WHAT THE CALL MAY BE MADE ON
pub since_held : (changes : Bool) (a : Over) (t : Table) (from : State) → Since a.means a.engine a.begun a.begin t from → Since (held changes a).means (held changes a).engine (held changes a).begun (held changes a).begin t from
since_held true a t from h = h
since_held false a t from h = paused_since a t from h

pub there_held : (changes : Bool) (a : Over) (t : Table) (name : List ℕ) (verb : Verb) → (a.engine.Told → (s : Contents) × IsContents (space_in a) s × HasRoomFor t (view_in a) name verb s)
    → (view_in (held changes a)).Told → (s : Contents) × IsContents (view_in (held changes a)).space s × HasRoomFor t (view_in (held changes a)) name verb s
there_held true a t name verb h = h
there_held false a t name verb h = λ told. let r = h told in (r.0, r.1, record { room = r.2.room })

pub fresh_held : (changes : Bool) (a : Over) → (a.engine.Told → IsFresh (view_in a)) → (view_in (held changes a)).Told → IsFresh (view_in (held changes a))
fresh_held true a h = h
fresh_held false a h = λ told. let f = h told in record { may_take = f.may_take; may_fill = f.may_fill }

-- WHAT IT DID
pub record Acted (t : Table) (by : ℕ) (name : List ℕ) (verb : Verb) (into note : List ℕ) (r : Result Reply ObjectsFault) (a b : Over) : Type 0 where
  pub counts : CountsObject (view_in a) (view_in b) r
  pub did : IfSaid into r (λ outcome. Did (view_in a) (view_in b) (HasRoomFor t (view_in a) name verb) (IsDone t by name verb outcome note (space_in a) (space_in b)))
  pub few : a.engine.Told → b.engine.records ≤ a.engine.records + most_records
  pub looks : is_changing_verb verb ≡ false → LooksAtObjects (view_in a) (view_in b) r note
  pub quiet : IfSaid into r (λ _. note ≡ [] → IsQuiet (view_in a) (view_in b))
  pub wrote : IfSaid into r (λ outcome. Wrote (view_in a) (view_in b) (HasRoomFor t (view_in a) name verb) name verb outcome)

-- the same, where that goes on
pub record ActedOn (t : Table) (by : ℕ) (name : List ℕ) (verb : Verb) (into note : List ℕ) (r : Result Reply ObjectsFault) (a b : Over) : Type 0 where
  pub told : b.engine.Told → a.engine.Told
  pub later : a.engine.faults + a.breaks ≤ b.engine.faults + b.breaks
  pub same : IfAnswered r (λ _. b.engine.faults + b.breaks ≡ a.engine.faults + a.breaks)
  pub fails : (changes : Bool) → changes ≡ is_changing_verb verb → (a.engine.Told → b.begun ≡ true) → (f : SpaceFault) → r ≡ Err (objects.Space f) → Fails changes a b f
  pub did : IfSaid into r (λ outcome. Did (view_in a) (view_in b) (HasRoomFor t (view_in a) name verb) (IsDone t by name verb outcome note (space_in a) (space_in b)))
  pub few : a.engine.Told → b.engine.records ≤ a.engine.records + most_records
  pub alone : is_changing_verb verb ≡ false → note ≡ []
  pub quiet : IfSaid into r (λ _. note ≡ [] → IsQuiet (view_in a) (view_in b))
  pub wrote : is_changing_verb verb ≡ true → IfSaid into r (λ outcome. Wrote (view_in a) (view_in b) (HasRoomFor t (view_in a) name verb) name verb outcome)

not_changing : true ≡ false → ⊥
not_changing e = cc

near_of : (b : Over) → b.begun ≡ true → IsNear b.engine ⊎ (b.begun ≡ false) → IsNear b.engine
near_of b begun (inl n) = n
near_of b begun (inr none) = absurd (let w : true ≡ false = sym begun ∙ none in cc)

err_then : {T : Type 0} {F : Type 0} (r : Result T F) (P : F → Type 0) → IfErr r P → {e : F} → r ≡ Err e → P e
err_then (Ok x) P h is = absurd cc
err_then (Err f) P h {e} is = subst P (let w : f ≡ e = cc in w) h

module _ (t : Table) (by : ℕ) (name : List ℕ) (verb : Verb) (into note : List ℕ) where
  -- why it failed
  ends_by : (changes : Bool) (a b : Over) (r : Result Reply ObjectsFault) → changes ≡ is_changing_verb verb → b.begun ≡ true → CountsObject (view_in a) (view_in b) r → (is_changing_verb verb ≡ false → LooksAtObjects (view_in a) (view_in b) r note)
      → r ≡ Err (objects.Space faults.LogEnd) → (changes ≡ true) × IsNear b.engine
  ends_by true a b r is begun q looks e = (refl, near_of b begun (err_then r (λ f. f ≡ objects.Space faults.LogEnd → (view_in b).IsNearEnd) q.log_end e refl))
  ends_by false a b r is begun q looks e = absurd (err_then r (λ f. f ≡ objects.Space faults.LogEnd → ⊥) (looks (sym is)).writes.no_end e refl)

  fails_by : (changes : Bool) (a b : Over) (r : Result Reply ObjectsFault) → changes ≡ is_changing_verb verb → (a.engine.Told → b.begun ≡ true) → CountsObject (view_in a) (view_in b) r → (is_changing_verb verb ≡ false → LooksAtObjects (view_in a) (view_in b) r note)
      → (f : SpaceFault) → r ≡ Err (objects.Space f) → Fails changes a b f
  fails_by changes a b r is begun q looks f e = record {
    risen = λ d. err_then r (λ x. x ≡ objects.Space faults.Disk → HasRisen (view_in a).faults (view_in b).faults) q.disk e (ap objects.Space d);
    near = λ n told. ends_by changes a b r is (begun told) q looks (e ∙ ap (λ (x : SpaceFault). (let y : Result Reply ObjectsFault = Err (objects.Space x) in y)) n);
  }

  acted_on : (a b : Over) (r : Result Reply ObjectsFault) → Acted t by name verb into note r a b → ActedOn t by name verb into note r a b
  acted_on a b r h = record {
    told = h.counts.told;
    later = h.counts.later;
    same = h.counts.quiet;
    fails = λ changes is begun. fails_by changes a b r is begun h.counts h.looks;
    did = h.did;
    few = h.few;
    alone = λ e. (h.looks e).note;
    quiet = h.quiet;
    wrote = λ e. h.wrote;
  }

  -- of one that paused
  did_back : (a b : Over) (outcome : Outcome) → Did (view_in (paused a)) (view_in b) (HasRoomFor t (view_in (paused a)) name verb) (IsDone t by name verb outcome note (space_in (paused a)) (space_in b))
      → Did (view_in a) (view_in (resumed a.begun b)) (HasRoomFor t (view_in a) name verb) (IsDone t by name verb outcome note (space_in a) (space_in (resumed a.begun b)))
  did_back a b outcome h = record { told = h.told; done = λ told s is can. h.done told s is (record { room = can.room }) }

  looked_back : (a b : Over) (r : Result Reply ObjectsFault) → is_changing_verb verb ≡ false → Acted t by name verb into note r (paused a) b → ActedOn t by name verb into note r a (resumed a.begun b)
  looked_back a b (Ok x) none h = record {
    told = h.counts.told;
    later = h.counts.later;
    same = h.counts.quiet;
    fails = λ changes is begun f e. absurd cc;
    did = did_back a b _ h.did;
    few = h.few;
    alone = λ e. (h.looks e).note;
    quiet = λ e. let q = h.quiet e in record { records = q.records; still = q.still };
    wrote = λ e. absurd (not_changing (sym e ∙ none));
  }
  looked_back a b (Err (objects.Model reason)) none h = record {
    told = h.counts.told;
    later = h.counts.later;
    same = h.counts.quiet;
    fails = λ changes is begun f e. absurd cc;
    did = did_back a b _ h.did;
    few = h.few;
    alone = λ e. (h.looks e).note;
    quiet = λ e. let q = h.quiet e in record { records = q.records; still = q.still };
    wrote = λ e. absurd (not_changing (sym e ∙ none));
  }
  looked_back a b (Err (objects.Space f)) none h = record {
    told = h.counts.told;
    later = h.counts.later;
    same = tt;
    fails = λ changes is begun f' e.
        let same : objects.Space f ≡ objects.Space f' = cc in
        record { risen = λ d. h.counts.disk (same ∙ ap objects.Space d); near = λ n told. absurd ((h.looks none).writes.no_end (same ∙ ap objects.Space n)) };
    did = tt;
    few = h.few;
    alone = λ e. (h.looks e).note;
    quiet = tt;
    wrote = λ e. tt;
  }

  pub acted_back : (changes : Bool) (a b : Over) (r : Result Reply ObjectsFault) → changes ≡ is_changing_verb verb → Acted t by name verb into note r (held changes a) b → ActedOn t by name verb into note r a (released changes a.begun b)
  acted_back true a b r is h = acted_on a b r h
  acted_back false a b r is h = looked_back a b r (sym is) h

-- THE RELATION of the two moments
module _ (recovers : Recovering) (a b : Over) (t : Table) where
  module _ (l : LaterOn recovers t (paused a) b) (now : (from : State) → b.means t from → b.engine.Told → b.engine.now ≡ repeated t from b.engine.steps) (idle : b.engine.Told → ended b.engine.steps ≡ b.engine.steps) where
    since_back : (from : State) → Since a.means a.engine a.begun a.begin t from → Since b.means b.engine a.begun b.engine.now t from
    since_back from m =
        let h = l.means from (paused_since a t from m) in
        record { stands = h.stands; since = λ o told. ap (repeated t from) (idle told) ∙ sym (now from h.stands told) }

    went_back : {limits : State → ℕ → ℕ} (from : State) → Went (recovers t) t limits (at_in from (paused a)) (at_in from b) → Went (recovers t) t limits (at_in from a) (at_in from (resumed a.begun b))
    went_back from w = record {
      made = w.made;
      rests = λ o. w.rests refl;
      are = w.are;
      formed = w.formed;
      moments = w.moments;
      gone = λ f. let g = w.gone f in record { told = g.told; kept = g.kept; base = g.base; first = g.first; steps = g.steps; durable = g.durable; txn = g.txn; before = g.before; rows = g.rows; same = g.same; begin = g.begin };
    }

    later_paused : LaterOn recovers t a (resumed a.begun b)
    unfolding since_back went_back
    later_paused = record {
      told = l.told;
      tail = l.tail;
      faults = l.faults;
      grown = l.grown;
      begun = refl;
      pages = l.pages;
      bands = l.bands;
      accounts = l.accounts;
      still = λ o. l.still refl;
      stops = l.stops;
      means = since_back;
      goes = λ from m told k. went_back from (l.goes from (paused_since a t from m) told k);
      holds = λ o from m told k f h. l.holds o from (paused_since a t from m) told k f h;
    }

  pub later_back : (changes : Bool) → LaterOn recovers t (held changes a) b → ((from : State) → b.means t from → b.engine.Told → b.engine.now ≡ repeated t from b.engine.steps)
      → (changes ≡ false → b.engine.Told → ended b.engine.steps ≡ b.engine.steps) → LaterOn recovers t a (released changes a.begun b)
  unfolding later_paused
  later_back true l now idle = l
  later_back false l now idle = later_paused l now (idle refl)

  -- where the engine told of one that paused, no change is open
  pub idle_back : LaterOn recovers t (paused a) b → (b.engine.Told → b.engine.failed ≡ false) → (a.engine.Told → (z : Sizes) × (from : State) × Means a t z from × ((tally a.engine.steps).opened ≡ [])) → b.engine.Told → ended b.engine.steps ≡ b.engine.steps
  idle_back l whole asked told' =
      let told = l.told told' in
      let x = asked told in
      let m = x.2 in
      let k = (m.keeps told).kept in
      let w : Went (recovers t) t (a.limits x.0.pages x.0.bands) (at_in x.1 (paused a)) (at_in x.1 b) = went recovers (paused a) b t x.0 x.1 m.pages m.bands k l (paused_since a t x.1 m.since) told in
      let same : b.engine.steps ≡ a.engine.steps = (w.gone (whole told')).steps ∙ ap (λ (ms : Steps). ms ++ a.engine.steps) (w.rests refl) in
      subst (λ (rs : Steps). ended rs ≡ rs) (sym same) (idle_ended a.engine.steps k.chain.closed x.3)

  -- who acts may go on, where that could before
  pub goes_back : LaterOn recovers t (paused a) b → (b.engine.Told → b.engine.failed ≡ false) → (a.engine.Told → (z : Sizes) × (from : State) × Means a t z from) → (was : Bool) → CanChange b.engine was b.actor
  goes_back l whole asked was opens told' =
      let told = l.told told' in
      let x = asked told in
      let m = x.2 in
      let w : Went (recovers t) t (a.limits x.0.pages x.0.bands) (at_in x.1 (paused a)) (at_in x.1 b) = went recovers (paused a) b t x.0 x.1 m.pages m.bands (m.keeps told).kept l (paused_since a t x.1 m.since) told in
      ∣ may_of (w.gone (whole told')).kept.chain ∣₁

  -- and how it accounts for the disk
  pub passes_back : (changes : Bool) → IsSane a → IsSane b → LaterOn recovers t (held changes a) b → a.engine.faults + a.breaks ≤ (released changes a.begun b).engine.faults + (released changes a.begun b).breaks → Passes changes a (released changes a.begun b)
  passes_back true first last l later = record { first = first; last = last; tail = l.tail; later = later; accounts = l.accounts; still = λ e. absurd (not_changing e) }
  passes_back false first last l later = record {
    first = first;
    last = record { whole = last.whole; full = last.full; unfailed = last.unfailed; unbroken = last.unbroken };
    tail = l.tail;
    later = later;
    accounts = l.accounts;
    still = λ e. l.still refl;
  }
