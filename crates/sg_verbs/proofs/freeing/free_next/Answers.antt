use Rattle.std.proofs.Common.{◌≡◌, Bool, true, false, [], ◌++◌, refl, sym, ap, ◌∙◌, subst}
use Rattle.std.specs.Prelude.{Ok, Err, Result}
use Rattle.sg_ops.specs.Table.{table_of}
use Rattle.sg_actions.specs.Steps.{Steps, opened}
use Rattle.sg_actions.proofs.Beginning.{idle_opened}
use Rattle.sg_reading.specs.Reading.{Reading}
use Rattle.sg_shown.specs.Shown.{Over, over, shown, shown_of, Means, basis}
use Rattle.sg_shown.proofs.Holding.{Facts, idle_ended}
use Rattle.sg_space.specs.View.{Space}
use Rattle.sg_space.specs.declared.space.SpaceFault.{SpaceFault}
use Rattle.sg_store.specs.Engine.{AskedBy, Counts, Changes, IsDiskFault}
use Rattle.sg_store.specs.Verbs.{CanLook, FreesNext}
use Rattle.sg_verbs.proofs.Held.{space_in, shows}
use Rattle.sg_verbs.proofs.Moving.{LaterOn, means_on, means_off}
use Rattle.sg_verbs.proofs.Story.{seen, begun_by}
use Rattle.sg_verbs.proofs.Looking.{look_there, asked_by_there}
use Rattle.sg_verbs.proofs.Doing.{counts_on, passes_on, fails_on, leaves_of, do_went, do_changes, do_changed}
use Rattle.sg_verbs.proofs.Looked.{sane}
use Rattle.sg_verbs.proofs.Settled.{Passes, counts_up, given_as, near_up, none_fails}
use Rattle.sg_verbs.proofs.Freed.{frees_next, freed_there}
use Rattle.sg_verbs.proofs.Still.{nothing_made}
use Rattle.sg_verbs.proofs.freeing.free_next.Given as given
use Rattle.sg_verbs.proofs.freeing.free_next.Goals as goal

pub free_next-requires-clause-means : goal.free_next-requires-clause-means
free_next-requires-clause-means g c = λ told. ∣ (c.requires.can.from told, (c.requires.can.means told).since) ∣₁

pub free_next-requires-clause-can : goal.free_next-requires-clause-can
free_next-requires-clause-can g c = λ told.
    let a : Over = over c.args.acts.now in
    let t = table_of (λ y. (given.RecordOp-dyn g y).record_meaning y.1) (λ y. (given.RangeOp-dyn g y).range_meaning y.1) c.args.ops.now in
    let asked : AskedBy t (shown_of g.E.Engine.recovers a) (CanLook t) = record { sizes = c.requires.can.sizes; from = c.requires.can.from; means = c.requires.can.means; can = λ told. (c.requires.can.can told).look } in
    let there = asked_by_there g.E.Engine.recovers a t (λ from m told. g.met.E.Engine.now_is _ t from m told) asked in
    let r = there told in
    (r.0, r.1, tt)

pub returns-in-None-clause-counts : goal.returns-in-None-clause-counts
returns-in-None-clause-counts g c =
    let a : Over = over c.args.acts.now in
    let b : Over = over c.free_next.new.space in
    let t = table_of (λ y. (given.RecordOp-dyn g y).record_meaning y.1) (λ y. (given.RangeOp-dyn g y).range_meaning y.1) c.args.ops.now in
    let l : LaterOn g.E.Engine.recovers t a b = c.free_next.ensures.later in
    let begun : (told : a.engine.Told) → a.begun ≡ true = λ told. begun_by g.E.Engine.recovers t c.requires.can.sizes (c.requires.can.from told) a _ (c.requires.can.can told).acting in
    subst (λ x. Counts IsDiskFault (shown c.args.acts.now) (shown x) (let y : Result Bool SpaceFault = Ok c.in-Ok.was in y)) (sym c.in-None.ensures.same)
    (counts_on g.E.Engine.recovers a b _ _ c.in-Ok.ensures.counts (λ told. c.in-Ok.ensures.did.told told) l.tail l.accounts c.in-None.ensures.held)

pub returns-in-None-clause-means : goal.returns-in-None-clause-means
returns-in-None-clause-means g c z from m =
    let a : Over = over c.args.acts.now in
    let b : Over = over c.free_next.new.space in
    let t = table_of (λ y. (given.RecordOp-dyn g y).record_meaning y.1) (λ y. (given.RangeOp-dyn g y).range_meaning y.1) c.args.ops.now in
    let l : LaterOn g.E.Engine.recovers t a b = c.free_next.ensures.later in
    let begun : (told : a.engine.Told) → a.begun ≡ true = λ told. begun_by g.E.Engine.recovers t c.requires.can.sizes (c.requires.can.from told) a _ (c.requires.can.can told).acting in
    let asked : AskedBy t (shown_of g.E.Engine.recovers a) (CanLook t) = record { sizes = c.requires.can.sizes; from = c.requires.can.from; means = c.requires.can.means; can = λ told. (c.requires.can.can told).look } in
    let there = asked_by_there g.E.Engine.recovers a t (λ from m told. g.met.E.Engine.now_is _ t from m told) asked in
    let n = means_on g.E.Engine.recovers a b t z from m l refl (g.met.E.Engine.told_whole _) (g.met.E.Engine.now_is _ t from (l.means from m.since).stands) (λ told'.
    let told0 = l.told told' in
    let r = there told0 in
    let d = c.in-Ok.ensures.did.done told0 r.0 r.1 in
    let k = freed_there c.args.by c.in-Ok.was d.1 r.2 in
    leaves_of z b d.0 (l.pages ∙ m.pages) (l.bands ∙ m.bands) k.0 k.1 (l.begun ∙ begun told0)) in
    subst (λ (o : Over). Means o t z from) (sym (λ i. over (c.in-None.ensures.same i))) n

pub returns-in-None-clause-frees : goal.returns-in-None-clause-frees
returns-in-None-clause-frees g c z from m told o act engine idle e is can =
    let a : Over = over c.args.acts.now in
    let b : Over = over c.free_next.new.space in
    let t = table_of (λ y. (given.RecordOp-dyn g y).record_meaning y.1) (λ y. (given.RangeOp-dyn g y).range_meaning y.1) c.args.ops.now in
    let l : LaterOn g.E.Engine.recovers t a b = c.free_next.ensures.later in
    let begun : (told : a.engine.Told) → a.begun ≡ true = λ told. begun_by g.E.Engine.recovers t c.requires.can.sizes (c.requires.can.from told) a _ (c.requires.can.can told).acting in
    let asked : AskedBy t (shown_of g.E.Engine.recovers a) (CanLook t) = record { sizes = c.requires.can.sizes; from = c.requires.can.from; means = c.requires.can.means; can = λ told. (c.requires.can.can told).look } in
    let there = asked_by_there g.E.Engine.recovers a t (λ from m told. g.met.E.Engine.now_is _ t from m told) asked in
    let n = means_on g.E.Engine.recovers a b t z from m l refl (g.met.E.Engine.told_whole _) (g.met.E.Engine.now_is _ t from (l.means from m.since).stands) (λ told'.
    let told0 = l.told told' in
    let r = there told0 in
    let d = c.in-Ok.ensures.did.done told0 r.0 r.1 in
    let k = freed_there c.args.by c.in-Ok.was d.1 r.2 in
    leaves_of z b d.0 (l.pages ∙ m.pages) (l.bands ∙ m.bands) k.0 k.1 (l.begun ∙ begun told0)) in
    subst (λ (x : Over). (ch : Changes t (basis g.E.Engine.recovers z) act (seen g.E.Engine.recovers t z from a) (seen g.E.Engine.recovers t z from x)) × FreesNext t (basis g.E.Engine.recovers z) act c.args.by (seen g.E.Engine.recovers t z from a) (seen g.E.Engine.recovers t z from x) o ch.made c.in-Ok.was) (sym (λ i. over (c.in-None.ensures.same i))) (
    let told' = c.in-Ok.ensures.did.told told in
    let stands = (l.means from m.since).stands in
    let f : Facts g.E.Engine.recovers b t from = record { law = g.met.E.Engine.lawful _ t from stands; first = g.met.E.Engine.durable_first _ told'; images = g.met.E.Engine.images _ t from stands told' } in
    let done = do_changed g.E.Engine.recovers a b t z from m l told (g.met.E.Engine.told_whole _ told') n told' f act e in
    let r = look_there g.E.Engine.recovers a t z from m (g.met.E.Engine.now_is _ t from m.since.stands) told o can.reading in
    let d = c.in-Ok.ensures.did.done told r.0 r.1 in
    let w = do_went g.E.Engine.recovers a b t z from m l told in
    let gone = w.gone (g.met.E.Engine.told_whole _ told') in
    let none : opened a.engine.steps ≡ [] = idle_opened a.engine.steps (idle_ended a.engine.steps (m.keeps told).kept.chain.closed idle) in
    let same : c.in-Ok.was ≡ false → b.engine.steps ≡ a.engine.steps = λ no.
    let still : opened b.engine.steps ≡ [] = (c.in-Ok.ensures.quiet no).still (λ told. none) told' in
    gone.steps ∙ ap (λ (ms : Steps). ms ++ a.engine.steps) (nothing_made t _ _ from a.actor.txn.0 w.made a.engine.steps w.are (sym (ap opened gone.steps) ∙ still)) in (
      done.0,
      subst (λ (x : Reading). FreesNext t (basis g.E.Engine.recovers z) act c.args.by (seen g.E.Engine.recovers t z from a) (seen g.E.Engine.recovers t z from b) x done.0.made c.in-Ok.was) r.3
          (frees_next g.E.Engine.recovers t z (seen g.E.Engine.recovers t z from a) (seen g.E.Engine.recovers t z from b) (space_in a) (space_in b) (shows g.E.Engine.recovers b t z from n.pages n.bands (g.met.E.Engine.now_is _ t from stands told')) r.0 d.0 r.1 r.2 m.pages act e c.args.by done.0.made done.1 c.in-Ok.was d.1 same
          (λ no room. (ap (λ (x : Space). x.pages.free) room, ap (λ (x : Space). x.bands.free) room))),
    )
    )

pub returns-in-Some-clause-counts : goal.returns-in-Some-clause-counts
returns-in-Some-clause-counts g c =
    let a : Over = over c.args.acts.now in
    let b : Over = over c.free_next.new.space in
    let t = table_of (λ y. (given.RecordOp-dyn g y).record_meaning y.1) (λ y. (given.RangeOp-dyn g y).range_meaning y.1) c.args.ops.now in
    let l : LaterOn g.E.Engine.recovers t a b = c.free_next.ensures.later in
    let begun : (told : a.engine.Told) → a.begun ≡ true = λ told. begun_by g.E.Engine.recovers t c.requires.can.sizes (c.requires.can.from told) a _ (c.requires.can.can told).acting in
    let p : Passes true a b = passes_on (sane c.args.acts.now c.sound.ensures) (sane c.free_next.new.space c.settle.ensures.sound) l c.in-Ok.ensures.counts in
    let e : Over = over c.settle.new.acts in
    let up = given_as true c.in-Some.ensures.given_up in
    counts_up {T = Bool} {IsDisk = IsDiskFault} g.E.Engine.recovers a b e c.in-Some.fault p none_fails c.in-Some.fault (λ is. is) (λ is. is) up

pub returns-in-Some-clause-log_end : goal.returns-in-Some-clause-log_end
returns-in-Some-clause-log_end g c =
    let a : Over = over c.args.acts.now in
    let b : Over = over c.free_next.new.space in
    let t = table_of (λ y. (given.RecordOp-dyn g y).record_meaning y.1) (λ y. (given.RangeOp-dyn g y).range_meaning y.1) c.args.ops.now in
    let l : LaterOn g.E.Engine.recovers t a b = c.free_next.ensures.later in
    let begun : (told : a.engine.Told) → a.begun ≡ true = λ told. begun_by g.E.Engine.recovers t c.requires.can.sizes (c.requires.can.from told) a _ (c.requires.can.can told).acting in
    let p : Passes true a b = passes_on (sane c.args.acts.now c.sound.ensures) (sane c.free_next.new.space c.settle.ensures.sound) l c.in-Ok.ensures.counts in
    let e : Over = over c.settle.new.acts in
    let up = given_as true c.in-Some.ensures.given_up in
    near_up b e c.in-Some.fault up

pub returns-in-Some-clause-means : goal.returns-in-Some-clause-means
returns-in-Some-clause-means g c z from m =
    let a : Over = over c.args.acts.now in
    let b : Over = over c.free_next.new.space in
    let t = table_of (λ y. (given.RecordOp-dyn g y).record_meaning y.1) (λ y. (given.RangeOp-dyn g y).range_meaning y.1) c.args.ops.now in
    let l : LaterOn g.E.Engine.recovers t a b = c.free_next.ensures.later in
    let begun : (told : a.engine.Told) → a.begun ≡ true = λ told. begun_by g.E.Engine.recovers t c.requires.can.sizes (c.requires.can.from told) a _ (c.requires.can.can told).acting in
    let p : Passes true a b = passes_on (sane c.args.acts.now c.sound.ensures) (sane c.free_next.new.space c.settle.ensures.sound) l c.in-Ok.ensures.counts in
    let e : Over = over c.settle.new.acts in
    let up = given_as true c.in-Some.ensures.given_up in
    means_off a e t z from m (up.pages ∙ l.pages) (up.bands ∙ l.bands) refl (up.means t from (l.means from m.since).stands) up.silent

pub returns-in-Some-clause-frees : goal.returns-in-Some-clause-frees
returns-in-Some-clause-frees g c z from m told o act engine idle shows is can =
    let a : Over = over c.args.acts.now in
    let b : Over = over c.free_next.new.space in
    let t = table_of (λ y. (given.RecordOp-dyn g y).record_meaning y.1) (λ y. (given.RangeOp-dyn g y).range_meaning y.1) c.args.ops.now in
    let l : LaterOn g.E.Engine.recovers t a b = c.free_next.ensures.later in
    let begun : (told : a.engine.Told) → a.begun ≡ true = λ told. begun_by g.E.Engine.recovers t c.requires.can.sizes (c.requires.can.from told) a _ (c.requires.can.can told).acting in
    let p : Passes true a b = passes_on (sane c.args.acts.now c.sound.ensures) (sane c.free_next.new.space c.settle.ensures.sound) l c.in-Ok.ensures.counts in
    let e : Over = over c.settle.new.acts in
    let up = given_as true c.in-Some.ensures.given_up in
    (do_changes g.E.Engine.recovers a b t z from m l told e up.disk act shows, tt)

pub returns-in-Err-clause-counts : goal.returns-in-Err-clause-counts
returns-in-Err-clause-counts g c =
    let a : Over = over c.args.acts.now in
    let b : Over = over c.free_next.new.space in
    let t = table_of (λ y. (given.RecordOp-dyn g y).record_meaning y.1) (λ y. (given.RangeOp-dyn g y).range_meaning y.1) c.args.ops.now in
    let l : LaterOn g.E.Engine.recovers t a b = c.free_next.ensures.later in
    let begun : (told : a.engine.Told) → a.begun ≡ true = λ told. begun_by g.E.Engine.recovers t c.requires.can.sizes (c.requires.can.from told) a _ (c.requires.can.can told).acting in
    let p : Passes true a b = passes_on (sane c.args.acts.now c.sound.ensures) (sane c.free_next.new.space c.give_up.ensures.sound) l c.in-Err.ensures.counts in
    let e : Over = over c.give_up.new.acts in
    let up = c.give_up.ensures.given_up in
    counts_up {T = Bool} {IsDisk = IsDiskFault} g.E.Engine.recovers a b e c.give_up.result p (fails_on {T = Bool} {a = a} {b = b} (Err c.in-Err._fault) (λ told. l.begun ∙ begun told) c.in-Err.ensures.counts) c.give_up.result (λ is. is) (λ is. is) up

pub returns-in-Err-clause-log_end : goal.returns-in-Err-clause-log_end
returns-in-Err-clause-log_end g c =
    let a : Over = over c.args.acts.now in
    let b : Over = over c.free_next.new.space in
    let t = table_of (λ y. (given.RecordOp-dyn g y).record_meaning y.1) (λ y. (given.RangeOp-dyn g y).range_meaning y.1) c.args.ops.now in
    let l : LaterOn g.E.Engine.recovers t a b = c.free_next.ensures.later in
    let begun : (told : a.engine.Told) → a.begun ≡ true = λ told. begun_by g.E.Engine.recovers t c.requires.can.sizes (c.requires.can.from told) a _ (c.requires.can.can told).acting in
    let p : Passes true a b = passes_on (sane c.args.acts.now c.sound.ensures) (sane c.free_next.new.space c.give_up.ensures.sound) l c.in-Err.ensures.counts in
    let e : Over = over c.give_up.new.acts in
    let up = c.give_up.ensures.given_up in
    near_up b e c.give_up.result up

pub returns-in-Err-clause-means : goal.returns-in-Err-clause-means
returns-in-Err-clause-means g c z from m =
    let a : Over = over c.args.acts.now in
    let b : Over = over c.free_next.new.space in
    let t = table_of (λ y. (given.RecordOp-dyn g y).record_meaning y.1) (λ y. (given.RangeOp-dyn g y).range_meaning y.1) c.args.ops.now in
    let l : LaterOn g.E.Engine.recovers t a b = c.free_next.ensures.later in
    let begun : (told : a.engine.Told) → a.begun ≡ true = λ told. begun_by g.E.Engine.recovers t c.requires.can.sizes (c.requires.can.from told) a _ (c.requires.can.can told).acting in
    let p : Passes true a b = passes_on (sane c.args.acts.now c.sound.ensures) (sane c.free_next.new.space c.give_up.ensures.sound) l c.in-Err.ensures.counts in
    let e : Over = over c.give_up.new.acts in
    let up = c.give_up.ensures.given_up in
    means_off a e t z from m (up.pages ∙ l.pages) (up.bands ∙ l.bands) refl (up.means t from (l.means from m.since).stands) up.silent

pub returns-in-Err-clause-frees : goal.returns-in-Err-clause-frees
returns-in-Err-clause-frees g c z from m told o act engine idle shows is can =
    let a : Over = over c.args.acts.now in
    let b : Over = over c.free_next.new.space in
    let t = table_of (λ y. (given.RecordOp-dyn g y).record_meaning y.1) (λ y. (given.RangeOp-dyn g y).range_meaning y.1) c.args.ops.now in
    let l : LaterOn g.E.Engine.recovers t a b = c.free_next.ensures.later in
    let begun : (told : a.engine.Told) → a.begun ≡ true = λ told. begun_by g.E.Engine.recovers t c.requires.can.sizes (c.requires.can.from told) a _ (c.requires.can.can told).acting in
    let p : Passes true a b = passes_on (sane c.args.acts.now c.sound.ensures) (sane c.free_next.new.space c.give_up.ensures.sound) l c.in-Err.ensures.counts in
    let e : Over = over c.give_up.new.acts in
    let up = c.give_up.ensures.given_up in
    (do_changes g.E.Engine.recovers a b t z from m l told e up.disk act shows, tt)
