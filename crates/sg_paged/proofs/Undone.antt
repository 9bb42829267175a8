-- THE UNDO OF A NOTE begins.
use Rattle.std.proofs.Common.{◌≡◌, ℕ, ◌+◌, ◌≤◌, nat_lt, Bool, true, false, List, [], ◌∷◌, ◌++◌, length, Option, Some, None, Result, Ok, Err, sym, ap, subst, ◌∙◌, refl, arith}
use Rattle.std.specs.Prelude.{IfOk, IfSome, if◌then◌else◌}
use Rattle.sg_alloc.specs.Flags.{free_of, map_bands_of}
use Rattle.sg_alloc.specs.declared.maps.Maps.{Maps}
use Rattle.sg_ops.specs.Table.{Table}
use Rattle.sg_record.specs.Changes.{Change as Changing}
use Rattle.sg_recovery.specs.Chains.{Formed}
use Rattle.sg_recovery.specs.Log.{Top, tally, notes_of}
use Rattle.sg_recovery.specs.Log.Record.{Begin, Change, TopEnd, PhysComp, TopVoid, CompEnd, Save, Commit, End}
use Rattle.sg_recovery.specs.Stands.{made}
use Rattle.sg_recovery.proofs.Basic.{lt_not}
use Rattle.sg_action.specs.States.{State, Kept}
use Rattle.sg_actions.specs.Engine.{EngineSeen, Moments, led}
use Rattle.sg_actions.specs.Offed.{kept_in}
use Rattle.sg_actions.specs.PuttingBack.{MayUndo, UndoBegun}
use Rattle.sg_actions.specs.Steps.{Steps, repeated}
use Rattle.sg_actions.specs.Counts.{Note}
use Rattle.sg_actions.specs.Undoing.{first_behind, is_of_bytes}
use Rattle.sg_actions.specs.View.{IsKept, HasFreedNone, Since}
use Rattle.sg_actions.proofs.Given.{next_first}
use Rattle.sg_actions.proofs.Walking.{none_some}
use Rattle.sg_reader.specs.Reader.{limits}
use Rattle.sg_reader.proofs.Decide.{reader}
use Rattle.sg_store.specs.Engine as store
use Rattle.sg_store.specs.Engine.{Sizes, Action, Changes, Changed, NoneBehind, action_of}
use Rattle.sg_ground.specs.Recovers.{Recovering}
use Rattle.sg_ground.specs.Ground.{PutsBack, HasPutBack, found_of}
use Rattle.sg_objects.specs.Notes.{note_said}
use Rattle.sg_shown.specs.Room.{SameRoom}
use Rattle.sg_shown.specs.Shown.{basis, Over, Means, acting, shown_of, kept_before, begin_before}
use Rattle.sg_shown.specs.Taken.{AreTaken}
use Rattle.sg_shown.proofs.Calls.{goes_on}
use Rattle.sg_shown.proofs.History.{own, made_is, moments_are, changes_are, before_is}
use Rattle.sg_shown.proofs.Holding.{Facts, taken_same, counted_same}
use Rattle.sg_shown.proofs.Spared.{changes_live, spare_on}
use Rattle.sg_paged.proofs.Behind.{room_same}
use Rattle.sg_paged.proofs.Laid.{puts_back, put_pages}

-- NO NOTE stands behind the record at which to stop where none is undone next; where that is the begin none stands
pub none_behind : (stop : ℕ) (ns : List Note) → first_behind stop ns ≡ None → NoneBehind stop ns
none_behind stop [] e = tt
none_behind stop (n ∷ ns) e = by (nat_lt stop n.lsn) refl e
  where
    by : (b : Bool) → nat_lt stop n.lsn ≡ b → (if b then Some n else None) ≡ None → n.lsn ≤ stop
    by true k s = absurd (none_some n (sym s))
    by false k s = lt_not stop n.lsn k

pub none_stand : (rs : Steps) (txn : ℕ) → Formed rs → NoneBehind txn (notes_of txn (tally rs).notes) → notes_of txn (tally rs).notes ≡ []
none_stand rs txn f h = by (notes_of txn (tally rs).notes) refl
  where
    by : (ns : List Note) → notes_of txn (tally rs).notes ≡ ns → notes_of txn (tally rs).notes ≡ []
    by [] e = e
    by (n ∷ ns) e =
        let low : n.lsn ≤ txn = subst (NoneBehind txn) e h in
        let above = (next_first.some rs txn txn n (next_first.first rs txn n ns f e)).2 in
        absurd (omega (arith, low, above))

-- what was taken at the begin of an action
abbrev taken_by : Sizes → Kept → State → Type 0
taken_by z kept begin = AreTaken z kept.pages kept.bands begin.pages

-- WHAT IT MEANS once the bytes are back
pub undoes_means : (recovers : Recovering) (m b : Over) (t : Table) (z : Sizes) (from : State) (txn stop : ℕ) (note : List ℕ) (next : ℕ) → Means m t z from
    → m.begun ≡ false → b.limits ≡ m.limits → b.maps ≡ m.maps → b.unfreed ≡ m.unfreed → b.rows ≡ m.rows → b.begun ≡ true
    → Since b.means b.engine b.begun b.begin t from → (b.engine.Told → m.engine.Told)
    → (m.engine.Told → MayUndo (recovers t) t (m.limits z.pages z.bands) (led from m.engine) (led from b.engine) m.maps b.rows b.actor txn)
    → (b.engine.Told → UndoBegun (map_bands_of (length m.maps.pages) (length m.maps.bands)) t (led from m.engine) (led from b.engine) m.rows b.actor txn stop note next) → Means b t z from
undoes_means recovers m b t z from txn stop note next h quiet l p u r begun since back may did = record {
  since = since;
  size = h.size;
  pages = ap (λ (x : Maps). length x.pages) p ∙ h.pages;
  bands = ap (λ (x : Maps). length x.bands) p ∙ h.bands;
  limits = ap (λ (f : (pages bands : ℕ) → State → ℕ → ℕ). f z.pages z.bands) l ∙ h.limits;
  keeps = λ told'.
      let told = back told' in
      let k = h.keeps told in
      let w = may told in
      let g = w.gone told' in
      let idle = (k.rest quiet).idle in
      let room = room_same m b p u in
      let same : (repeated t from b.engine.steps).pages ≡ (repeated t from m.engine.steps).pages = ap (λ (x : State). x.pages) (did told').puts.now ∙ put_pages (map_bands_of (length m.maps.pages) (length m.maps.bands)) note (did told').n.changes (repeated t from m.engine.steps) in
      record {
        kept = subst (λ (f : (pages bands : ℕ) → State → ℕ → ℕ). IsKept t (f z.pages z.bands) (led from b.engine) b.maps b.rows b.actor) (sym l) (subst (λ (x : Maps). IsKept t (m.limits z.pages z.bands) (led from b.engine) x b.rows b.actor) (sym p) g.kept);
        rest = λ f. absurd (let x : true ≡ false = sym begun ∙ f in cc);
        fresh = λ e. subst HasFreedNone (sym u) (k.rest quiet).freed;
        begin = subst (λ (x : Maps). taken_by z (kept_in (b.limits z.pages z.bands) t (led from b.engine) x) (begin_before b t from)) (sym p)
            (subst (λ (x : State). taken_by z (kept_in (m.limits z.pages z.bands) t (led from b.engine) m.maps) x) (sym g.begin)
            (subst (λ (q : Kept). taken_by z q (begin_before m t from)) (sym g.same) k.begin));
        now = taken_same same (λ n e. room.page n ∙ e) (λ n e. room.band n ∙ e) k.now;
        counted = counted_same room.free_pages room.free_bands same k.counted;
        map = λ n less. room.band n ∙ k.map n less;
        spare = spare_on (ap (λ (rs : Steps). (tally rs).live) g.steps ∙ changes_live t (kept_in (m.limits z.pages z.bands) t (led from m.engine) m.maps) (repeated t from m.engine.steps) from txn w.made m.engine.steps w.are) r k.spare;
      };
}

-- THE CHANGES THAT IT HAS LOGGED, also where the call fails
pub undo_changes : (recovers : Recovering) (a m b : Over) (t : Table) (z : Sizes) (from : State) (txn : ℕ) (act : Action (basis recovers z))
    → m.engine ≡ a.engine → Means m t z from → m.begun ≡ false → m.engine.Told
    → (w : MayUndo (recovers t) t (m.limits z.pages z.bands) (led from m.engine) (led from b.engine) m.maps b.rows b.actor txn)
    → act ≡ record { transaction = txn; pages = made (own recovers t z) from a.engine.steps }
    → (c : Changes t (basis recovers z) act (store.led t z from (shown_of recovers a)) (store.led t z from (shown_of recovers b))) × (c.made ≡ w.made)
undo_changes recovers a m b t z from txn act e h quiet told w is =
    let k = h.keeps told in
    let idle = (k.rest quiet).idle in
    let v = store.led t z from (shown_of recovers a) in
    let begins : Action (basis recovers z) = record { transaction = txn; pages = repeated t from m.engine.steps } in
    let at : act ≡ begins = is ∙ (λ j. record { transaction = txn; pages = (made_is recovers t z from a.engine.steps ∙ ap (λ (y : EngineSeen). repeated t from y.steps) (sym e)) j }) in
    let same : begin_before m t from ≡ repeated t from m.engine.steps = ap (repeated t from) idle in
    let taken : taken_by z (kept_before m t z from) (repeated t from m.engine.steps) = subst (λ (x : State). taken_by z (kept_before m t z from) x) same k.begin in
    let slots : (kept_before m t z from).slots ≡ limits (reader z.pages z.bands) (repeated t from m.engine.steps) = ap (λ (f : State → ℕ → ℕ). f (begin_before m t from)) h.limits ∙ ap (λ (x : State). limits (reader z.pages z.bands) x) same in (
      record {
        made = w.made;
        are = subst (λ (x : Action (basis recovers z)). store.AreChanges t (basis recovers z) from x w.made a.engine.steps) (sym at)
            (subst (λ (y : EngineSeen). store.AreChanges t (basis recovers z) from begins w.made y.steps) e (changes_are recovers t z (kept_before m t z from) from begins slots taken w.made m.engine.steps w.are));
        formed = subst (λ (y : EngineSeen). Rattle.sg_recovery.specs.Formed.IsLog y.base (w.made ++ y.steps)) e w.formed;
        moments = moments_are recovers t z v b.engine.disk (w.made ++ a.engine.steps) h.size (subst (λ (y : EngineSeen). Moments (recovers t) t (led from y) (led from b.engine) (w.made ++ y.steps)) e w.moments);
      },
      refl,
    )

-- AND WHAT IT CAME TO
pub undo_begun : (recovers : Recovering) (a m b : Over) (t : Table) (z : Sizes) (from : State) (txn stop : ℕ) (note : List ℕ) (next : ℕ) (act : Action (basis recovers z)) (w : MayUndo (recovers t) t (m.limits z.pages z.bands) (led from m.engine) (led from b.engine) m.maps b.rows b.actor txn)
    → m.engine ≡ a.engine → Means m t z from → m.begun ≡ false → m.engine.Told → b.engine.Told → Means b t z from → Facts recovers b t from
    → m.engine.tail ≤ b.engine.tail → SameRoom a b → b.begun ≡ true
    → act ≡ record { transaction = txn; pages = made (own recovers t z) from a.engine.steps }
    → UndoBegun (map_bands_of (length m.maps.pages) (length m.maps.bands)) t (led from m.engine) (led from b.engine) m.rows b.actor txn stop note next
    → (tally a.engine.steps).opened ≡ []
    → (n : Top Changing (List ℕ)) × (ns : List (Top Changing (List ℕ))) × (stop + 1 ≤ n.lsn) × (notes_of txn (tally a.engine.steps).notes ≡ n ∷ ns) × (n.undo_next ≡ next) × (note ≡ n.note)
    × HasPutBack (found_of (map_bands_of z.pages z.bands) (note_said n.note) n.changes) n.note (tally b.engine.steps).opened act.pages (made (own recovers t z) from b.engine.steps)
    × (free_of b.maps.pages + free_of b.unfreed.pages ≡ free_of a.maps.pages + free_of a.unfreed.pages)
    × ((ms : List (Rattle.sg_recovery.specs.Log.Numbered Changing (List ℕ))) → ms ≡ w.made → Changed t (basis recovers z) act (store.led t z from (shown_of recovers a)) (store.led t z from (shown_of recovers b)) ms)
undo_begun recovers a m b t z from txn stop note next act w e h quiet told told' hb f tail room begun is did none =
    let k = h.keeps told in
    let g = w.gone told' in
    let idle = (k.rest quiet).idle in
    let first = next_first.some m.engine.steps txn stop did.n did.is_next in
    let begins : act.pages ≡ repeated t from m.engine.steps = ap (λ (x : Action (basis recovers z)). x.pages) is ∙ (made_is recovers t z from a.engine.steps ∙ ap (λ (y : EngineSeen). repeated t from y.steps) (sym e)) in
    let outside : map_bands_of (length m.maps.pages) (length m.maps.bands) ≡ map_bands_of z.pages z.bands = (λ j. map_bands_of (h.pages j) (h.bands j)) in
    let put : PutsBack (found_of (map_bands_of (length m.maps.pages) (length m.maps.bands)) (note_said note) did.n.changes) (repeated t from m.engine.steps) (repeated t from b.engine.steps) = puts_back (map_bands_of (length m.maps.pages) (length m.maps.bands)) note did.n.changes (repeated t from m.engine.steps) (repeated t from b.engine.steps) did.puts.now in (
      did.n,
      first.0,
      (let less = first.2 in omega (arith, less)),
      subst (λ (y : EngineSeen). notes_of txn (tally y.steps).notes ≡ did.n ∷ first.0) e first.1,
      did.goes_on,
      sym did.note_is,
      record {
        puts = subst (λ (x : State). PutsBack (found_of (map_bands_of z.pages z.bands) (note_said did.n.note) did.n.changes) x (made (own recovers t z) from b.engine.steps)) (sym begins)
            (subst (λ (y : State). PutsBack (found_of (map_bands_of z.pages z.bands) (note_said did.n.note) did.n.changes) (repeated t from m.engine.steps) y) (sym (made_is recovers t z from b.engine.steps))
            (subst (λ (bytes : List ℕ). PutsBack (found_of (map_bands_of z.pages z.bands) (note_said bytes) did.n.changes) (repeated t from m.engine.steps) (repeated t from b.engine.steps)) (sym did.note_is)
            (subst (λ (o : ℕ). PutsBack (found_of o (note_said note) did.n.changes) (repeated t from m.engine.steps) (repeated t from b.engine.steps)) outside put)));
        still = λ no. ap (λ (rs : Steps). (tally rs).opened) (did.still (ap is_of_bytes (sym did.note_is) ∙ no)) ∙ (ap (λ (y : EngineSeen). (tally y.steps).opened) e ∙ none);
      },
      room.free_pages,
      λ ms same. record {
        goes_on = goes_on recovers a b t z from hb told' f (g.base ∙ ap (λ (y : EngineSeen). y.base) e) (let s : m.engine.tail ≡ a.engine.tail = ap (λ (y : EngineSeen). y.tail) e in omega (arith, tail, s)) (subst (λ (y : EngineSeen). Rattle.sg_actions.specs.Images.Grows y.durable b.engine.durable) e g.durable);
        log = g.steps ∙ ((λ j. sym same j ++ (e j).steps));
        action =
            let one : action_of t (basis recovers z) from b.engine.steps (acting b.begun b.actor.txn.0) ≡ action_of t (basis recovers z) from b.engine.steps (acting true txn) = λ j. action_of t (basis recovers z) from b.engine.steps (acting (begun j) (did.acts j)) in
            let pages : made (own recovers t z) from (store.before_open b.engine.steps) ≡ act.pages =
            made_is recovers t z from (store.before_open b.engine.steps) ∙ (ap (repeated t from) (before_is b.engine.steps (hb.keeps told').kept.chain.closed) ∙ (g.begin ∙ (ap (repeated t from) idle ∙ sym begins))) in
            one ∙ (λ j. Some (record { transaction = (sym (ap (λ (x : Action (basis recovers z)). x.transaction) is)) j; pages = pages j }));
      },
    )

-- of another value over the same engine
pub changes_moved : (recovers : Recovering) (a b c : Over) (t : Table) (z : Sizes) (from : State) (act : Action (basis recovers z)) → c.engine ≡ b.engine
    → Changes t (basis recovers z) act (store.led t z from (shown_of recovers a)) (store.led t z from (shown_of recovers b))
    → Changes t (basis recovers z) act (store.led t z from (shown_of recovers a)) (store.led t z from (shown_of recovers c))
changes_moved recovers a b c t z from act e h = record {
  made = h.made;
  are = h.are;
  formed = h.formed;
  moments = subst (λ (y : EngineSeen). Rattle.sg_disk.specs.Disk.LeavesOnly a.engine.disk y.disk (store.IsImageOf t (basis recovers z) (store.led t z from (shown_of recovers a)) (h.made ++ a.engine.steps))) (sym e) h.moments;
}

-- WHAT IS KNOWN OF A RESULT, or of what may be there, says more
pub ok_more : {T F : Type 0} (P Q : T → Type 0) (r : Result T F) → ((x : T) → P x → Q x) → IfOk r P → IfOk r Q
ok_more P Q (Ok x) f h = f x h
ok_more P Q (Err e) f h = tt

pub some_more : {T : Type 0} (P Q : T → Type 0) (o : Option T) → ((x : T) → P x → Q x) → IfSome o P → IfSome o Q
some_more P Q (Some x) f h = f x h
some_more P Q None f h = tt
