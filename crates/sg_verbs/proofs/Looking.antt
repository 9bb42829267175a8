-- A look at the objects, while whoever acts pauses: nothing is logged, and all is as before.
use Rattle.std.proofs.Common.{◌≡◌, ℕ, ◌+◌, ◌*◌, ◌≤◌, Bool, true, false, [], ◌++◌, Some, refl, sym, ap, ◌∙◌, subst, arith}
use Rattle.sg_disk.specs.Disk as disk
use Rattle.sg_disk.specs.Disk.{LeavesOnly}
use Rattle.sg_ops.specs.Table.{Table}
use Rattle.sg_recovery.specs.Log.{tally}
use Rattle.sg_reading.specs.Reading.{Reading}
use Rattle.sg_action.specs.States.{State}
use Rattle.sg_actions.specs.Later.{Went, HasGone}
use Rattle.sg_actions.specs.Steps.{Steps, repeated, begin_of, ended}
use Rattle.sg_actions.specs.View.{Since}
use Rattle.sg_contents.specs.Standing.{Contents, IsContents}
use Rattle.sg_contents.specs.Meaning.{reading, IsCounted}
use Rattle.sg_space.specs.View as space
use Rattle.sg_space.specs.View.{OnlyReads}
use Rattle.sg_space.specs.declared.space.SpaceFault.{SpaceFault}
use Rattle.sg_store.specs.Engine.{Sizes, Asked, AskedBy, IsImageOf, Rests, Rested, action_of}
use Rattle.sg_store.specs.Verbs.{CanLook}
use Rattle.sg_ground.specs.Recovers.{Recovering}
use Rattle.sg_shown.specs.Shown.{Over, Means, basis, shown_of, acting}
use Rattle.sg_shown.proofs.History.{grows_is, moments_are}
use Rattle.sg_shown.proofs.Holding.{Facts, engine_is, idle_ended}
use Rattle.sg_verbs.specs.Looks.{IsGivenUp}
use Rattle.sg_verbs.proofs.Held.{space_in, free_in, free_bands_in, contents_in, own_reads, taken_now, counted_now, map_now}
use Rattle.sg_verbs.proofs.Moving.{at_in, LaterOn, view_in, Leaves, went, keeping_on, means_off}
use Rattle.sg_verbs.proofs.Story.{seen}

no : false ≡ true → ⊥
no e = cc

-- whoever acts pauses, and goes on from what the engine holds
abbrev pub paused : Over → Over
paused a = record a { begun = false }

abbrev pub resumed : Bool → Over → Over
resumed w b = record b { begun = w; begin = b.engine.now }

pub paused_since : (a : Over) (t : Table) (from : State) → Since a.means a.engine a.begun a.begin t from → Since a.means a.engine false a.begin t from
paused_since a t from h = record { stands = h.stands; since = λ o told. absurd (no o) }

-- CONTENTS where a look may be
pub look_there : (recovers : Recovering) (a : Over) (t : Table) (z : Sizes) (from : State) → Means a t z from → (a.engine.Told → a.engine.now ≡ repeated t from a.engine.steps) → a.engine.Told → (o : Reading)
    → (basis recovers z).reading (Rattle.sg_store.specs.Engine.pages_of t (basis recovers z) (seen recovers t z from a)) ≡ Some o → (s : Contents) × IsContents (space_in a) s × IsCounted (space_in a) s × (reading s ≡ o)
look_there recovers a t z from m now told o e =
    let k = m.keeps told in
    contents_in recovers a t z from m.pages m.bands (now told) o e
    (subst (λ (y : State). Rattle.sg_shown.specs.Taken.AreTaken z (Rattle.sg_shown.specs.Shown.has_page a) (Rattle.sg_shown.specs.Shown.has_band a) y.pages) (sym (now told)) k.now)
    (subst (λ (y : State). Rattle.sg_shown.specs.Taken.AreCounted z (free_in a) (free_bands_in a) y.pages) (sym (now told)) k.counted) k.map

pub asked_there : (recovers : Recovering) (a : Over) → ((t : Table) (from : State) → a.means t from → a.engine.Told → a.engine.now ≡ repeated t from a.engine.steps) → Asked (shown_of recovers a) CanLook → a.engine.Told → (s : Contents) × IsContents (space_in a) s × IsCounted (space_in a) s
asked_there recovers a now asked told =
    let c = asked.can told in
    let m = asked.means told in
    let r = look_there recovers a asked.by asked.sizes (asked.from told) m (now asked.by (asked.from told) m.since.stands) told c.reading c.reads.reading in (r.0, r.1, r.2)

pub asked_by_there : (recovers : Recovering) (a : Over) (t : Table) → ((from : State) → a.means t from → a.engine.Told → a.engine.now ≡ repeated t from a.engine.steps) → AskedBy t (shown_of recovers a) (CanLook t) → a.engine.Told → (s : Contents) × IsContents (space_in a) s × IsCounted (space_in a) s
asked_by_there recovers a t now asked told =
    let c = asked.can told in
    let m = asked.means told in
    let r = look_there recovers a t asked.sizes (asked.from told) m (now (asked.from told) m.since.stands) told c.reading c.reads.reading in (r.0, r.1, r.2)

-- THE LOOK
module _ (recovers : Recovering) (a b : Over) (t : Table) (z : Sizes) (from : State) (m : Means a t z from) (l : LaterOn recovers t (paused a) b) where
  regone : {made : Steps} → HasGone t (a.limits z.pages z.bands) (at_in from (paused a)) (at_in from b) made → HasGone t (a.limits z.pages z.bands) (at_in from a) (at_in from (resumed a.begun b)) made
  regone g = record { told = g.told; kept = g.kept; base = g.base; first = g.first; steps = g.steps; durable = g.durable; txn = g.txn; before = g.before; rows = g.rows; same = g.same; begin = g.begin }

  pub look_went : a.engine.Told → Went (recovers t) t (a.limits z.pages z.bands) (at_in from (paused a)) (at_in from b)
  look_went told = went recovers (paused a) b t z from m.pages m.bands (m.keeps told).kept l (paused_since a t from m.since) told

  pub look_rests : (d : Over) → d.engine.disk ≡ b.engine.disk → a.engine.Told → Rests t (basis recovers z) (seen recovers t z from a) (seen recovers t z from d)
  look_rests d same told =
      let w = look_went told in
      record {
        moments = subst (λ (v : disk.View). LeavesOnly a.engine.disk v (IsImageOf t (basis recovers z) (seen recovers t z from a) a.engine.steps)) (sym same)
            (subst (λ (rs : Steps). LeavesOnly a.engine.disk b.engine.disk (IsImageOf t (basis recovers z) (seen recovers t z from a) rs)) (ap (λ (ms : Steps). ms ++ a.engine.steps) (w.rests refl)) (moments_are recovers t z (seen recovers t z from a) b.engine.disk (w.made ++ a.engine.steps) m.size w.moments));
      }

  -- AND IT GOES ON
  module _ (same : b.limits ≡ a.limits) (whole : b.engine.Told → b.engine.failed ≡ false) (now : b.engine.Told → b.engine.now ≡ repeated t from b.engine.steps) (idle : a.engine.Told → (tally a.engine.steps).opened ≡ []) (reads : OnlyReads (view_in a) (view_in b)) where
    steps : (told : b.engine.Told) → b.engine.steps ≡ a.engine.steps
    steps told = let w = look_went (l.told told) in (w.gone (whole told)).steps ∙ ap (λ (ms : Steps). ms ++ a.engine.steps) (w.rests refl)

    begins : b.engine.Told → begin_of t from b.engine.steps ≡ b.engine.now
    unfolding steps
    begins told =
        let s = steps told in
        let e : ended a.engine.steps ≡ a.engine.steps = idle_ended a.engine.steps (m.keeps (l.told told)).kept.chain.closed (idle (l.told told)) in
        ap (begin_of t from) s ∙ (ap (repeated t from) e ∙ (sym (ap (repeated t from) s) ∙ sym (now told)))

    leaves : (told : b.engine.Told) → (s : Contents) → IsContents (space_in a) s → IsCounted (space_in a) s → Leaves z (resumed a.begun b)
    unfolding steps
    leaves told s h counted =
        let told0 = l.told told in
        let room : space_in b ≡ space_in a = reads.same told0 in
        let pages = l.pages ∙ m.pages in
        let bands = l.bands ∙ m.bands in
        let h' : IsContents (space_in b) s = subst (λ (x : space.Space). IsContents x s) (sym room) h in
        let w = look_went told0 in
        let g = w.gone (whole told) in
        record {
          contents = s;
          reads = own_reads (resumed a.begun b) z s pages bands h';
          now = taken_now (resumed a.begun b) z s pages bands h';
          counted = counted_now (resumed a.begun b) z s pages bands h' (subst (λ (x : space.Space). IsCounted x s) (sym room) counted);
          map = map_now (resumed a.begun b) z s pages bands h';
          rest = λ none. let r = (m.keeps told0).rest none in record {
            idle = subst (λ (rs : Steps). ended rs ≡ rs) (sym (steps told)) r.idle;
            system = ap (λ (u : Rattle.sg_base.specs.declared.numbers.TxnId.TxnId). u.0) g.txn ∙ r.system;
            freed = reads.keeps.may_take r.freed;
          };
        }

    pub look_means : (a.engine.Told → (s : Contents) × IsContents (space_in a) s × IsCounted (space_in a) s) → Means (resumed a.begun b) t z from
    unfolding begins leaves
    look_means there = record {
      since = record { stands = (l.means from (paused_since a t from m.since)).stands; since = λ o told. begins told };
      size = m.size;
      pages = l.pages ∙ m.pages;
      bands = l.bands ∙ m.bands;
      limits = ap (λ (f : (pages bands : ℕ) → State → ℕ → ℕ). f z.pages z.bands) same ∙ m.limits;
      keeps = λ told.
          let told0 = l.told told in
          let w = look_went told0 in
          let s = there told0 in
          keeping_on a (resumed a.begun b) t z from w.made (m.keeps told0) w.are (regone (w.gone (whole told))) same (now told) l.pages l.bands (leaves told s.0 s.1 s.2);
    }

    pub look_rested : Means (resumed a.begun b) t z from → Facts recovers (resumed a.begun b) t from → (told : b.engine.Told) → Rested t (basis recovers z) (seen recovers t z from a) (seen recovers t z from (resumed a.begun b))
    unfolding steps
    look_rested n f told =
        let told0 = l.told told in
        let w = look_went told0 in
        let g = w.gone (whole told) in
        let room : space_in b ≡ space_in a = reads.same told0 in
        record {
          goes_on = record { engine = engine_is recovers (resumed a.begun b) t z from n told f; base = g.base; first = refl; tail = l.tail; durable = grows_is g.durable };
          log = steps told;
          action = λ i. action_of t (basis recovers z) from (steps told i) (acting a.begun (g.txn i).0);
          pages = ap (λ (x : space.Space). x.pages.free) room;
          bands = ap (λ (x : space.Space). x.bands.free) room;
        }

-- WHERE IT IS GIVEN UP
pub stopped_means : {ends failed : Bool} (recovers : Recovering) (a b d : Over) (t : Table) (z : Sizes) (from : State) (f : SpaceFault) → Means a t z from → LaterOn recovers t (paused a) b → b.limits ≡ a.limits
    → IsGivenUp ends failed b d f → Means d t z from
stopped_means recovers a b d t z from f m l same s =
    means_off a d t z from m (s.pages ∙ l.pages) (s.bands ∙ l.bands) (s.limits ∙ same) (s.means t from (l.means from (paused_since a t from m.since)).stands) s.silent

-- where no record was written, the log ends where it did
pub same_tail : (recovers : Recovering) (a b : Over) (t : Table) → LaterOn recovers t (paused a) b → b.engine.records ≡ a.engine.records → b.engine.tail ≡ a.engine.tail
same_tail recovers a b t l e =
    let low : a.engine.tail ≤ b.engine.tail = l.tail in
    let grown : b.engine.tail + 16422 * a.engine.records ≤ a.engine.tail + 16422 * b.engine.records = l.grown in
    omega (arith, low, grown, e)
