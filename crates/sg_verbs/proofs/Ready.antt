-- A verb may be done in an action that has only begun.
use Rattle.std.proofs.Common.{◌≡◌, ℕ, ◌≤◌, true, false, List, [], length, Option, None, refl, sym, ap, ◌∙◌, subst}
use Rattle.std.specs.FinMap.{get}
use Rattle.sg_base.specs.Sheet.{Sheet}
use Rattle.sg_ops.specs.Table.{Table}
use Rattle.sg_recovery.specs.Log.{tally}
use Rattle.sg_action.specs.States.{State, Change}
use Rattle.sg_actions.specs.Steps.{repeated, opened}
use Rattle.sg_actions.specs.Taken.{has_lessened}
use Rattle.sg_actions.proofs.Beginning.{idle_opened}
use Rattle.sg_model.specs.Verb.{Verb}
use Rattle.sg_model.specs.Verb.Op.{On}
use Rattle.sg_reading.specs.Reading.{Reading}
use Rattle.sg_contents.specs.Standing.{Contents, IsContents}
use Rattle.sg_contents.specs.Meaning.{reading, IsCounted}
use Rattle.sg_contents.specs.Limits.{limit, limit_of, kind_at, items_for, size_among}
use Rattle.sg_catalog.specs.Catalog.{rows}
use Rattle.sg_objects.specs.Done.{IsFresh, HasRoomFor}
use Rattle.sg_objects.specs.Needs.{needed, IsFree}
use Rattle.sg_store.specs.Engine.{Sizes, AskedBy}
use Rattle.sg_store.specs.Verbs.{CanPerform, CanDo}
use Rattle.sg_reader.specs.Alike.{ReadsAs, space_of}
use Rattle.sg_reader.specs.Reader.{limits, limits_in}
use Rattle.sg_reader.proofs.Decide.{reader}
use Rattle.sg_ground.specs.Recovers.{Recovering}
use Rattle.sg_ground.proofs.Clauses.{room_there}
use Rattle.sg_shown.specs.Shown.{Over, Keeping, Means, basis, basis_at, shown_of}
use Rattle.sg_shown.proofs.Holding.{idle_ended}
use Rattle.sg_verbs.proofs.Held.{space_in, shows, part_of, own_reads}
use Rattle.sg_shown.proofs.Places.{same_limit}
use Rattle.sg_verbs.proofs.Moving.{view_in}
use Rattle.sg_verbs.proofs.Looking.{look_there}
use Rattle.sg_verbs.proofs.Story.{seen}

-- CONTENTS, and room for the verb
module _ (recovers : Recovering) (a : Over) (t : Table) (name : List ℕ) (verb : Verb) where
  pub room_for : (z : Sizes) (from : State) (m : Means a t z from) (now : a.engine.now ≡ repeated t from a.engine.steps) (o : Reading) → CanPerform t (basis recovers z) (seen recovers t z from a) o (On name verb)
      → (s : Contents) → reading s ≡ o → HasRoomFor t (view_in a) name verb s
  room_for z from m now o can s same = record {
    room = λ ok. subst (λ (x : Reading). IsFree (needed verb (get x.things name)) (space_in a)) (sym same)
        (room_there (basis_at recovers z) t (seen recovers t z from a) (space_in a) o name verb (shows recovers a t z from m.pages m.bands now) can);
  }

  -- where the call may be made
  pub ready_there : (u : ℕ) → ((from : State) → a.means t from → a.engine.Told → a.engine.now ≡ repeated t from a.engine.steps) → AskedBy t (shown_of recovers a) (CanDo u (On name verb) t) → a.engine.Told
      → (s : Contents) × IsContents (space_in a) s × IsCounted (space_in a) s × HasRoomFor t (view_in a) name verb s
  ready_there u now asked told =
      let c = asked.can told in
      let m = asked.means told in
      let here = now (asked.from told) m.since.stands told in
      let r = look_there recovers a t asked.sizes (asked.from told) m (λ _. here) told c.reading c.can.reads.reading in
      (r.0, r.1, r.2, room_for asked.sizes (asked.from told) m here c.reading c.can r.0 r.3)

-- no change is open
pub none_open : {a : Over} {t : Table} {z : Sizes} {from : State} → Keeping a t z from → (tally a.engine.steps).opened ≡ [] → opened a.engine.steps ≡ []
none_open {a} k idle = idle_opened a.engine.steps (idle_ended a.engine.steps k.kept.chain.closed idle)

-- what contents say of a page's slots is what the action's begin said
module _ (a : Over) (z : Sizes) (s : Contents) (pages : length a.maps.pages ≡ z.pages) (bands : length a.maps.bands ≡ z.bands) (h : IsContents (space_in a) s) where
  begin_limit : (page : ℕ) → ((space_in a).pages.at page ≡ None → ⊥) → limit s (space_in a).pages.at page ≡ limits (reader z.pages z.bands) a.engine.now page
  begin_limit page there =
      let x : State = a.engine.now in
      let own : ReadsAs z.pages z.bands x s = own_reads a z s pages bands h in
      let f = (reader z.pages z.bands).finds x s own in
      let k : ReadsAs z.pages z.bands x f.0 = (reader z.pages z.bands).sound x f.0 f.1 in
      ap (λ (o : Option Sheet). limit_of (kind_at o) (items_for (size_among s.body (rows s.catalog) page))) (sym ((part_of a).pages page there))
      ∙ (sym (same_limit (space_of z.pages z.bands x) (space_of z.pages z.bands x) s f.0 own.contents k.contents refl x.pages page)
      ∙ sym (ap (λ (o : Option Contents). limits_in o x page) f.1))

no_lessened : (ds : List Change) (page : ℕ) → ds ≡ [] → has_lessened ds page ≡ false
no_lessened ds page none = ap (λ (cs : List Change). has_lessened cs page) none

-- AN ACTION THAT HAS ONLY BEGUN may take pages and bands, and open slots
pub fresh_there : (recovers : Recovering) (a : Over) (t : Table) (z : Sizes) (from : State) → Means a t z from → (a.engine.Told → a.engine.now ≡ repeated t from a.engine.steps) → a.begun ≡ true → (tally a.engine.steps).opened ≡ []
    → a.engine.Told → IsFresh (view_in a)
fresh_there recovers a t z from m now begun idle told =
    let k = m.keeps told in
    let none = none_open {a = a} {t = t} {z = z} {from = from} k idle in
    let begins : a.begin ≡ a.engine.now = sym (m.since.since begun told) ∙ (ap (repeated t from) (idle_ended a.engine.steps k.kept.chain.closed idle) ∙ sym (now told)) in
    let lim : a.limits (length a.maps.pages) (length a.maps.bands) ≡ limits (reader z.pages z.bands) = (λ i. a.limits (m.pages i) (m.bands i)) ∙ m.limits in
    record {
      may_take = k.fresh none;
      may_fill = λ s h page slots less there told'. record {
        grown = no_lessened (opened a.engine.steps) page none;
        within = λ _. subst (λ (n : ℕ). slots ≤ n) (begin_limit a z s m.pages m.bands h page there ∙ sym (λ i. lim i (begins i) page)) less;
      };
    }
