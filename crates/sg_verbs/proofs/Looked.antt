-- What a look at the objects leaves: all as it was, or an engine that tells no more.
use Rattle.std.proofs.Common.{◌≡◌, ℕ, ◌+◌, ◌≤◌, Bool, true, false, List, [], Some, None, Result, Ok, Err, refl, sym, ap, ◌∙◌, subst, arith}
use Rattle.std.specs.Prelude.{OnOk, IfErr, is_err, ⊤}
use Rattle.sg_base.specs.Ends.{HasRisen}
use Rattle.sg_ops.specs.Table.{Table, fresh_table}
use Rattle.sg_recovery.specs.Log.{tally}
use Rattle.sg_action.specs.States.{State}
use Rattle.sg_actions.specs.Accounted.{HasAccounted}
use Rattle.sg_actions.specs.declared.acts.Acts.{Acts}
use Rattle.sg_actions.specs.declared.engine.Engine.{Ghosts}
use Rattle.sg_serial.specs.Locks.{Touch}
use Rattle.sg_model.specs.Touches.{Resource, touches}
use Rattle.sg_model.specs.Verb.{Op}
use Rattle.sg_reading.specs.Reading.{Reading, objects}
use Rattle.sg_contents.specs.Standing.{Contents, IsContents, IfContents}
use Rattle.sg_contents.specs.Meaning.{reading, IsCounted}
use Rattle.sg_space.specs.View as space
use Rattle.sg_space.specs.View.{OnlyReads}
use Rattle.sg_space.specs.declared.space.SpaceFault.{SpaceFault}
use Rattle.sg_space.specs.declared.space.SpaceFault.TheVariants as faults
use Rattle.sg_store.specs.Engine.{Sizes, Asked, AskedBy, Keeps, AsMeant, Counts, IsDiskFault, IsEngine, Rests, Rested, pages_of}
use Rattle.sg_store.specs.Verbs.{Reads, CanLook}
use Rattle.sg_shown.specs.Shown.{Over, Means, basis, over, shown}
use Rattle.sg_shown.proofs.Holding.{Facts}
use Rattle.sg_verbs.specs.Looks.{IsSound, HasPaused, HasGoneOn, IsHeld, IsGivenUp}
use Rattle.sg_verbs.proofs.Held.{space_in}
use Rattle.sg_verbs.proofs.Moving.{LaterOn, view_in}
use Rattle.sg_verbs.proofs.Settled.{IsSane, Passes, Fails, SomeFails, accounts_on, counts_up}
use Rattle.sg_verbs.proofs.Story.{seen}
use Rattle.sg_verbs.proofs.Looking.{asked_there, asked_by_there, paused, resumed, paused_since, look_there, look_means, look_rests, look_rested, stopped_means, same_tail}

-- THE SPACE BY PARTS
pub paused_is : {E : Type 0} {g : Ghosts E} (a p : Acts E g) → HasPaused a p → over p ≡ paused (over a)
paused_is {g = g} a p h =
    let s = h.aside in λ i. record {
      engine = g.view (s.engine i);
      means = g.means (s.engine i);
      limits = g.limits;
      start = g.first_byte (s.engine i);
      maps = s.maps i;
      unfreed = s.unfreed i;
      rows = (s.rows i).items;
      actor = s.actor i;
      begun = h.begun i;
      begin = (g.view (h.begun_at i).value).now;
      breaks = s.breaks i;
      room = None;
    }

pub gone_on_is : {E : Type 0} {g : Ghosts E} (was : Bool) (b d : Acts E g) → HasGoneOn was b d → over d ≡ resumed was (over b)
gone_on_is {g = g} was b d h =
    let s = h.aside in λ i. record {
      engine = g.view (s.engine i);
      means = g.means (s.engine i);
      limits = g.limits;
      start = g.first_byte (s.engine i);
      maps = s.maps i;
      unfreed = s.unfreed i;
      rows = (s.rows i).items;
      actor = s.actor i;
      begun = h.begun i;
      begin = (g.view (h.begun_at i)).now;
      breaks = s.breaks i;
      room = None;
    }

pub sane : {E : Type 0} {g : Ghosts E} (s : Acts E g) → IsSound s → IsSane (over s)
sane s h = record { whole = h.whole; full = h.full; unfailed = h.unfailed; unbroken = h.unbroken }

-- A LOOK AT THE OBJECTS: whoever acts has paused, and calls of the space were made that write no record
pub record Look {E : Type 0} {g : Ghosts E} (a p b : Acts E g) : Type 0 where
  pub paused : HasPaused a p
  pub later : (t : Table) → LaterOn g.recovers t (over p) (over b)
  pub records : (over b).engine.records ≡ (over p).engine.records
  pub there : (over a).engine.Told → (s : Contents) × IsContents (space_in (over a)) s × IsCounted (space_in (over a)) s
  pub idle : (over a).engine.Told → (tally (over a).engine.steps).opened ≡ []
  pub first : IsSound a
  pub last : IsSound b

-- WHERE IT ANSWERED all is as it was
pub record Kept {E : Type 0} {g : Ghosts E} (a d : Acts E g) : Type 0 where
  pub told : (shown d).Told → (shown a).Told
  pub tells : (shown a).Told → (shown d).Told
  pub tail : (shown d).tail ≡ (shown a).tail
  pub faults : (shown d).faults ≡ (shown a).faults
  pub accounts : HasAccounted (over a).engine (over d).engine
  pub held : IsHeld (over d).engine
  pub means : Keeps (shown a) (shown d)
  pub rests : AsMeant (shown a) (shown d) (λ t g v w. Rests t g v w × Rested t g v w)

-- WHERE IT WAS GIVEN UP the engine tells no more
pub record Failed {E : Type 0} {g : Ghosts E} (failed : Bool) (a b d : Acts E g) (f : SpaceFault) : Type 0 where
  pub tail : (shown d).tail ≡ (shown a).tail
  pub passes : Passes false (over a) (over b)
  pub up : IsGivenUp false failed (over b) (over d) f
  pub means : Keeps (shown a) (shown d)
  pub rests : AsMeant (shown a) (shown d) (λ t g v w. Rests t g v w)

module _ {E : Type 0} {g : Ghosts E} (a p b d : Acts E g) (l : Look a p b) where
  later_on : (t : Table) → LaterOn g.recovers t (paused (over a)) (over b)
  later_on t = subst (λ (o : Over). LaterOn g.recovers t o (over b)) (paused_is a p l.paused) (l.later t)

  tails : (over b).engine.tail ≡ (over a).engine.tail
  tails = same_tail g.recovers (over a) (over b) fresh_table (later_on fresh_table) (l.records ∙ (λ i. (g.view (l.paused.aside.engine i)).records))

  first_faults : (view_in (over p)).faults ≡ (shown a).faults
  first_faults = λ i. (g.view (l.paused.aside.engine i)).faults + l.paused.aside.breaks i

  stands_on : (t : Table) (z : Sizes) (from : State) → Means (over a) t z from → (over b).means t from
  stands_on t z from m = ((later_on t).means from (paused_since (over a) t from m.since)).stands

  module _ (reads : OnlyReads (view_in (over p)) (view_in (over b))) (h : HasGoneOn a.begun b d) where
    still : OnlyReads (view_in (over a)) (view_in (over b))
    still =
        let h : OnlyReads (view_in (paused (over a))) (view_in (over b)) = subst (λ (o : Over). OnlyReads (view_in o) (view_in (over b))) (paused_is a p l.paused) reads in
        record { keeps = record { told = h.keeps.told; may_take = h.keeps.may_take; may_have = h.keeps.may_have }; shows = h.shows; same = h.same; wrote = h.wrote; still = h.still }

    means_still : (t : Table) (z : Sizes) (from : State) → Means (over a) t z from → Means (resumed a.begun (over b)) t z from
    means_still t z from m = look_means g.recovers (over a) (over b) t z from m (later_on t) refl l.last.whole (l.last.now t from (stands_on t z from m)) l.idle still l.there

    rested : (t : Table) (z : Sizes) (from : State) → Means (over a) t z from → (over a).engine.Told
        → Rested t (basis g.recovers z) (seen g.recovers t z from (over a)) (seen g.recovers t z from (resumed a.begun (over b)))
    rested t z from m told =
        let told2 = still.keeps.told told in
        let stands = stands_on t z from m in
        let f : Facts g.recovers (resumed a.begun (over b)) t from = record { law = l.last.law t from stands; first = l.last.durable told2; images = l.last.images t from stands told2 } in
        look_rested g.recovers (over a) (over b) t z from m (later_on t) refl l.last.whole (l.last.now t from (stands_on t z from m)) l.idle still
        (means_still t z from m) f told2

    pub kept : (view_in (over b)).faults ≡ (view_in (over p)).faults → IsHeld (over b).engine → Kept a d
    kept quiet held =
        let e = h.aside.engine in
        let same : over d ≡ resumed a.begun (over b) = gone_on_is a.begun b d h in
        record {
          told = λ s. (later_on fresh_table).told (subst (λ x. (g.view x).Told) e s);
          tells = λ s. subst (λ x. (g.view x).Told) (sym e) (still.keeps.told s);
          tail = (λ i. (g.view (e i)).tail) ∙ tails;
          faults = (λ i. (g.view (e i)).faults + h.aside.breaks i) ∙ (quiet ∙ first_faults);
          accounts = subst (λ x. HasAccounted (over a).engine (g.view x)) (sym e) (later_on fresh_table).accounts;
          held = subst (λ x. IsHeld (g.view x)) (sym e) held;
          means = λ t z from m. subst (λ (o : Over). Means o t z from) (sym same) (means_still t z from m);
          rests = λ t z from m told. (
            look_rests g.recovers (over a) (over b) t z from m (later_on t) (over d) (λ i. (g.view (e i)).disk) told,
            subst (λ (o : Over). Rested t (basis g.recovers z) (seen g.recovers t z from (over a)) (seen g.recovers t z from o)) (sym same) (rested t z from m told),
          );
        }

  pub passes : (view_in (over p)).faults ≤ (view_in (over b)).faults → Passes false (over a) (over b)
  passes later = record {
    first = sane a l.first;
    last = sane b l.last;
    tail = (let e = tails in omega (arith, e));
    later = (let e = first_faults in omega (arith, e, later));
    accounts = (later_on fresh_table).accounts;
    still = λ e. (later_on fresh_table).still refl;
  }

  pub failed : {failed : Bool} (f : SpaceFault) → (view_in (over p)).faults ≤ (view_in (over b)).faults → IsGivenUp false failed (over b) (over d) f → Failed failed a b d f
  failed f later h = record {
    tail = h.tail ∙ tails;
    passes = passes later;
    up = h;
    means = λ t z from m. stopped_means g.recovers (over a) (over b) (over d) t z from f m (later_on t) refl h;
    rests = λ t z from m told. look_rests g.recovers (over a) (over b) t z from m (later_on t) (over d) h.disk told;
  }

  -- its own word for a fault of the disk
  pub fails_disk : (f : SpaceFault) → f ≡ faults.Disk → HasRisen (view_in (over p)).faults (view_in (over b)).faults → Fails false (over a) (over b) f
  fails_disk f is risen = record {
    risen = λ e. subst (λ (n : ℕ). HasRisen n (view_in (over b)).faults) first_faults risen;
    near = λ e told. absurd (let x : faults.Disk ≡ faults.LogEnd = sym is ∙ e in cc);
  }

  -- the contents that a store's reading stands for, where whoever acts has paused
  pub looked_there : (t : Table) (z : Sizes) (from : State) → Means (over a) t z from → (over a).engine.Told → (o : Reading)
      → (basis g.recovers z).reading (pages_of t (basis g.recovers z) (seen g.recovers t z from (over a))) ≡ Some o
      → (s : Contents) × (view_in (over p)).Shows × IsContents (space_in (over p)) s × (reading s ≡ o)
  looked_there t z from m told o e =
      let r = look_there g.recovers (over a) t z from m (l.first.now t from m.since.stands) told o e in (
        r.0,
        subst (λ x. (g.view x).Told) (sym l.paused.aside.engine) told,
        subst (λ (x : Over). IsContents (space_in x) r.0) (sym (paused_is a p l.paused)) r.1,
        r.3,
      )

-- one that was asked, and one that was asked with operations
pub asked_look : {E : Type 0} {g : Ghosts E} (a p b : Acts E g) → HasPaused a p → IsSound a → IsSound b → ((t : Table) → LaterOn g.recovers t (over p) (over b))
    → (over b).engine.records ≡ (over p).engine.records → Asked (shown a) CanLook → Look a p b
asked_look {g = g} a p b paused first last later records can = record {
  paused = paused;
  later = later;
  records = records;
  there = asked_there g.recovers (over a) first.now can;
  idle = λ told. (can.can told).rest.idle;
  first = first;
  last = last;
}

pub asked_look_by : {E : Type 0} {g : Ghosts E} (t : Table) (a p b : Acts E g) → HasPaused a p → IsSound a → IsSound b → ((t : Table) → LaterOn g.recovers t (over p) (over b))
    → (over b).engine.records ≡ (over p).engine.records → AskedBy t (shown a) (CanLook t) → Look a p b
asked_look_by {g = g} t a p b paused first last later records can = record {
  paused = paused;
  later = later;
  records = records;
  there = asked_by_there g.recovers (over a) t (first.now t) can;
  idle = λ told. (can.can told).rest.idle;
  first = first;
  last = last;
}

-- where whoever acts has paused the contents stand that stood before
pub contents_there : {E : Type 0} {g : Ghosts E} (a p : Acts E g) → HasPaused a p → ((over a).engine.Told → (s : Contents) × IsContents (space_in (over a)) s × IsCounted (space_in (over a)) s)
    → (view_in (over p)).Told → (s : Contents) × IsContents (space_in (over p)) s × ⊤
contents_there {g = g} a p h there told =
    let r = there (subst (λ x. (g.view x).Told) h.aside.engine told) in
    (r.0, subst (λ (o : Over). IsContents (space_in o) r.0) (sym (paused_is a p h)) r.1, tt)

-- HOW A LOOK ENDS
module _ {E : Type 0} {g : Ghosts E} (a p b d : Acts E g) where
  pub counts_kept : {T F : Type 0} {IsDisk : F → Type 0} (x : T) → Kept a d → Counts IsDisk (shown a) (shown d) (let r : Result T F = Ok x in r)
  counts_kept {T} {F} {IsDisk} x k = record {
    told = k.told;
    tells = k.tells;
    tail = (let e = k.tail in omega (arith, e));
    later = (let e = k.faults in omega (arith, e));
    quiet = k.faults;
    failed = tt;
    accounts = accounts_on {IsDisk = IsDisk} (over a) (over d) (let r : Result T F = Ok x in r) tt k.accounts k.held;
  }

  pub counts_refused : {T F : Type 0} {IsDisk : F → Type 0} (e : F) → (IsDisk e → ⊥) → Kept a d → Counts IsDisk (shown a) (shown d) (let r : Result T F = Err e in r)
  counts_refused {T} {F} {IsDisk} e none k = record {
    told = k.told;
    tells = tt;
    tail = (let e = k.tail in omega (arith, e));
    later = (let e = k.faults in omega (arith, e));
    quiet = tt;
    failed = λ is. absurd (none is);
    accounts = accounts_on {IsDisk = IsDisk} (over a) (over d) (let r : Result T F = Err e in r) none k.accounts k.held;
  }

  pub counts_failed : {T F : Type 0} {IsDisk : F → Type 0} {failed : Bool} (f : SpaceFault) (e : F) → (IsDisk e → IsDiskFault f) → (IsDiskFault f → IsDisk e) → SomeFails false failed (over a) (over b) → Failed failed a b d f
      → Counts IsDisk (shown a) (shown d) (let r : Result T F = Err e in r)
  counts_failed f e to back fails h = counts_up g.recovers (over a) (over b) (over d) e h.passes fails f to back h.up

  -- of a look that fails for the space alone
  pub looked : {T : Type 0} (r : Result T SpaceFault) → Look a p b → OnOk r (OnlyReads (view_in (over p)) (view_in (over b))) → space.Counts (view_in (over p)) (view_in (over b)) r
      → is_err r ≡ false → HasGoneOn a.begun b d → IsHeld (over b).engine → Kept a d
  looked (Ok x) l reads q done h held = kept a p b d l reads h q.quiet held
  looked (Err e) l reads q done h held = absurd (let w : true ≡ false = done in cc)

  pub looked_fails : {T : Type 0} (r : Result T SpaceFault) → Look a p b → space.Counts (view_in (over p)) (view_in (over b)) r → IfErr r (λ e. e ≡ faults.Disk) → SomeFails false (is_err r) (over a) (over b)
  looked_fails (Ok x) l q only is = absurd (let w : false ≡ true = is in cc)
  looked_fails (Err e) l q only is = (e, fails_disk a p b d l e only (q.disk only))

  pub looked_counts : {T : Type 0} (r : Result T SpaceFault) → is_err r ≡ false → Kept a d → Counts IsDiskFault (shown a) (shown d) r
  looked_counts (Ok x) done k = counts_kept x k
  looked_counts (Err e) done k = absurd (let w : true ≡ false = done in cc)

  pub looked_reads : {T : Type 0} (r : Result T SpaceFault) → is_err r ≡ false → IfErr r IsDiskFault
  looked_reads (Ok x) done = tt
  looked_reads (Err e) done = absurd (let w : true ≡ false = done in cc)

-- what whoever acted does then
pub went_on : {E : Type 0} {g : Ghosts E} (b d : Acts E g) {was was' : Bool} → was ≡ was' → HasGoneOn was b d → HasGoneOn was' b d
went_on b d same h = subst (λ w. HasGoneOn w b d) same h

-- WHAT IS TOUCHED
pub touched : {E : Type 0} {g : Ghosts E} {T : Type 0} (a p b d : Acts E g) (l : Look a p b) (into : List (Touch Resource)) (op : Op) (r : Result T SpaceFault) → is_err r ≡ false → Kept a d
    → OnOk r (IfContents (view_in (over p)) (λ s. into ≡ touches (objects (reading s)) op))
    → AsMeant (shown a) (shown d) (λ t g v w. (o : g.O) → IsEngine t g v → Reads t g v o → Rests t g v w × OnOk r (Rested t g v w × (into ≡ touches (g.objects o) op)))
touched a p b d l into op (Ok x) done k read t z from m told o engine can =
    let q = k.rests t z from m told in
    let s = looked_there a p b d l t z from m told o can.reading in
    (q.0, (q.1, read s.1 s.0 s.2 ∙ ap (λ (x : Reading). touches (objects x) op) s.3))
touched a p b d l into op (Err e) done k read t z from m told o engine can = absurd (let w : true ≡ false = done in cc)
