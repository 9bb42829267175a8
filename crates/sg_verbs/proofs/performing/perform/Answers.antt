use Rattle.std.proofs.Common.{◌≡◌, ℕ, ◌+◌, ◌*◌, ◌<◌, ◌≤◌, Bool, true, List, [], length, refl, sym, ap, ◌∙◌, subst, arith}
use Rattle.std.specs.Prelude.{Ok, Err, Result}
use Rattle.sg_base.specs.Spelling.{is_name}
use Rattle.sg_ops.specs.Table.{table_of}
use Rattle.sg_action.specs.States.{State}
use Rattle.sg_actions.specs.Steps.{opened}
use Rattle.sg_actions.specs.View.{Since}
use Rattle.sg_contents.specs.Standing.{Contents, IsContents}
use Rattle.sg_model.specs.SaidOps.{name_of, verb_of}
use Rattle.sg_model.specs.SaidReplies.{said_reply}
use Rattle.sg_model.specs.Verb.Op.{On}
use Rattle.sg_reading.specs.Reading.{Reading}
use Rattle.sg_model.specs.declared.op.Reply.{Reply}
use Rattle.sg_objects.specs.Done.{HasRoomFor, IsDone, IsFresh}
use Rattle.sg_objects.specs.declared.verb.ObjFault.{ObjFault as ObjectsFault}
use Rattle.sg_objects.specs.declared.verb.ObjFault.TheVariants as objects
use Rattle.sg_store.specs.declared.fault.ObjFault.{ObjFault}
use Rattle.sg_store.specs.declared.fault.ObjFault.TheVariants as store
use Rattle.sg_store.specs.Engine.{IsObjDisk, IsVerbEnd, IsDiskFault}
use Rattle.sg_store.specs.Verbs.{Performed, IsRefused}
use Rattle.sg_shown.specs.Shown.{Over, over, basis}
use Rattle.sg_shown.proofs.Holding.{Facts}
use Rattle.sg_verbs.proofs.Held.{space_in}
use Rattle.sg_verbs.proofs.Moving.{LaterOn, view_in, means_off}
use Rattle.sg_verbs.proofs.Settled.{Passes, IsBroken, accounts_on, counts_up, counts_never, given_as, none_fails, verb_up}
use Rattle.sg_verbs.proofs.Looked.{sane}
use Rattle.sg_verbs.proofs.Paused.{Acted, ActedOn, told_held, tail_held, tail_released, held, released, held_is, released_is, since_held, there_held, fresh_held, acted_back, later_back, idle_back, passes_back, goes_back}
use Rattle.sg_verbs.specs.Looks.{IsHeld}
use Rattle.sg_verbs.proofs.Story.{seen, begun_by}
use Rattle.sg_verbs.proofs.Looking.{look_there}
use Rattle.sg_verbs.proofs.Doing.{do_changes, do_changed}
use Rattle.sg_verbs.proofs.PutBack.{verb_puts_back}
use Rattle.sg_verbs.proofs.Ready.{room_for, ready_there, none_open, fresh_there}
use Rattle.sg_verbs.proofs.Done.{done_means, refused, performed}
use Rattle.sg_verbs.proofs.performing.perform.Given as given
use Rattle.sg_verbs.proofs.performing.perform.Goals as goal

pub perform-done-requires-clause-means : goal.perform-done-requires-clause-means
perform-done-requires-clause-means g c = λ told0.
    let a : Over = over c.args.acts.now in
    let changes = c.is_changing-changes.result in
    let t = table_of (λ y. (given.RecordOp-dyn g y).record_meaning y.1) (λ y. (given.RangeOp-dyn g y).range_meaning y.1) c.args.ops.now in
    let heldp = held_is changes c.hold-was.result c.args.acts.now c.hold-was.new.acts c.hold-was.ensures.held in
    subst (λ (o : Over). o.engine.Told → ∥ ((from : State) × Since o.means o.engine o.begun o.begin t from) ∥₁) (sym heldp)
    (λ told. let told1 = told_held changes a told in ∣ (c.requires.can.from told1, since_held changes a t (c.requires.can.from told1) (c.requires.can.means told1).since) ∣₁) told0

pub perform-done-requires-clause-there : goal.perform-done-requires-clause-there
perform-done-requires-clause-there g c = λ told0.
    let a : Over = over c.args.acts.now in
    let changes = c.is_changing-changes.result in
    let t = table_of (λ y. (given.RecordOp-dyn g y).record_meaning y.1) (λ y. (given.RangeOp-dyn g y).range_meaning y.1) c.args.ops.now in
    let name = name_of c.args.op.now in
    let verb = verb_of c.args.op.now in
    let heldp = held_is changes c.hold-was.result c.args.acts.now c.hold-was.new.acts c.hold-was.ensures.held in
    let there = ready_there g.E.Engine.recovers a t name verb c.args.txn.0 (λ from m told. g.met.E.Engine.now_is _ t from m told) c.requires.can in
    subst (λ (o : Over). (view_in o).Told → (s : Contents) × IsContents (view_in o).space s × HasRoomFor t (view_in o) name verb s) (sym heldp)
    (there_held changes a t name verb (λ told. let r = there told in (r.0, r.1, r.3))) told0

pub perform-done-requires-clause-fresh : goal.perform-done-requires-clause-fresh
perform-done-requires-clause-fresh g c = λ told0.
    let a : Over = over c.args.acts.now in
    let changes = c.is_changing-changes.result in
    let t = table_of (λ y. (given.RecordOp-dyn g y).record_meaning y.1) (λ y. (given.RangeOp-dyn g y).range_meaning y.1) c.args.ops.now in
    let heldp = held_is changes c.hold-was.result c.args.acts.now c.hold-was.new.acts c.hold-was.ensures.held in
    let begun : (told : a.engine.Told) → a.begun ≡ true = λ told. begun_by g.E.Engine.recovers t c.requires.can.sizes (c.requires.can.from told) a _ (c.requires.can.can told).acts.acting in
    subst (λ (o : Over). (view_in o).Told → IsFresh (view_in o)) (sym heldp) (fresh_held changes a (λ told.
    let m = c.requires.can.means told in
    fresh_there g.E.Engine.recovers a t c.requires.can.sizes (c.requires.can.from told) m (g.met.E.Engine.now_is _ t (c.requires.can.from told) m.since.stands) (begun told) (c.requires.can.can told).can.idle told)) told0

pub overflow_sub-end : goal.overflow_sub-end
overflow_sub-end g c =
    let a : Over = over c.args.acts.now in
    let changes = c.is_changing-changes.result in
    let b : Over = over c.perform-done.new.space in
    let heldp = held_is changes c.hold-was.result c.args.acts.now c.hold-was.new.acts c.hold-was.ensures.held in
    let rel = released_is changes c.hold-was.result c.args.acts.now c.hold-was.new.acts c.perform-done.new.space c.release.new.acts c.hold-was.ensures.held c.release.ensures.released in
    let low : (over c.hold-was.new.acts).engine.tail ≤ b.engine.tail = c.perform-done.ensures.later.tail in
    let one : (over c.hold-was.new.acts).engine.tail ≡ a.engine.tail = ap (λ (o : Over). o.engine.tail) heldp ∙ tail_held changes a in
    let two : (over c.release.new.acts).engine.tail ≡ b.engine.tail = ap (λ (o : Over). o.engine.tail) rel ∙ tail_released changes a.begun b in
    omega (arith, low, one, two, c.tail-start.ensures, c.tail-end.ensures)

pub returns-in-None-clause-counts : goal.returns-in-None-clause-counts
returns-in-None-clause-counts g c =
    let a : Over = over c.args.acts.now in
    let t = table_of (λ y. (given.RecordOp-dyn g y).record_meaning y.1) (λ y. (given.RangeOp-dyn g y).range_meaning y.1) c.args.ops.now in
    let name = name_of c.args.op.now in
    let verb = verb_of c.args.op.now in
    let changes = c.is_changing-changes.result in
    let b : Over = over c.perform-done.new.space in
    let first = c.hold-was.ensures.sound in
    let last = c.release.ensures.sound in
    let heldp = held_is changes c.hold-was.result c.args.acts.now c.hold-was.new.acts c.hold-was.ensures.held in
    let rel = released_is changes c.hold-was.result c.args.acts.now c.hold-was.new.acts c.perform-done.new.space c.release.new.acts c.hold-was.ensures.held c.release.ensures.released in
    let begun : (told : a.engine.Told) → a.begun ≡ true = λ told. begun_by g.E.Engine.recovers t c.requires.can.sizes (c.requires.can.from told) a _ (c.requires.can.can told).acts.acting in
    let l1 : LaterOn g.E.Engine.recovers t (held changes a) b = subst (λ (o : Over). LaterOn g.E.Engine.recovers t o b) heldp c.perform-done.ensures.later in
    let l2 : LaterOn g.E.Engine.recovers t a (released changes a.begun b) = later_back g.E.Engine.recovers a b t changes l1 (λ from h told. last.now t from h told)
    (λ e told'. idle_back g.E.Engine.recovers a b t (subst (λ (x : Bool). LaterOn g.E.Engine.recovers t (held x a) b) e l1) last.whole (λ told. (c.requires.can.sizes, c.requires.can.from told, c.requires.can.means told, (c.requires.can.can told).can.idle)) told') in
    let r : Result Reply ObjectsFault = Ok c.in-Ok.reply in
    let q0 : Acted t c.args.txn.0 name verb c.perform-done.new.into c.perform-done.new.undo r (over c.hold-was.new.acts) b = record { counts = c.in-Ok.ensures.counts; did = c.in-Ok.ensures.did; few = c.perform-done.ensures.few; looks = c.in-Ok.ensures.looks; quiet = c.in-Ok.ensures.quiet; wrote = c.in-Ok.ensures.wrote } in
    let q2 : ActedOn t c.args.txn.0 name verb c.perform-done.new.into c.perform-done.new.undo r a (released changes a.begun b) = acted_back t c.args.txn.0 name verb c.perform-done.new.into c.perform-done.new.undo changes a b r c.is_changing-changes.ensures
    (subst (λ (o : Over). Acted t c.args.txn.0 name verb c.perform-done.new.into c.perform-done.new.undo r o b) heldp q0) in
    let e : Over = over c.settle.new.acts in
    let se : e ≡ released changes a.begun b = (λ i. over (c.in-None.ensures.same i)) ∙ rel in
    let l : LaterOn g.E.Engine.recovers t a e = subst (λ (o : Over). LaterOn g.E.Engine.recovers t a o) (sym se) l2 in
    let q : ActedOn t c.args.txn.0 name verb c.perform-done.new.into c.perform-done.new.undo r a e = subst (λ (o : Over). ActedOn t c.args.txn.0 name verb c.perform-done.new.into c.perform-done.new.undo r a o) (sym se) q2 in
    record {
      told = l.told;
      tells = λ told. q.did.told told;
      tail = l.tail;
      later = q.later;
      quiet = q.same;
      failed = tt;
      accounts = accounts_on {IsDisk = IsObjDisk} a e (let x : Result Reply ObjFault = Ok c.in-Ok.reply in x) tt l.accounts (subst (λ x. IsHeld (g.E.Engine.view x.engine)) (sym c.in-None.ensures.same) c.in-None.ensures.held);
    }

pub returns-in-None-clause-grows : goal.returns-in-None-clause-grows
returns-in-None-clause-grows g c =
    let same : (over c.settle.new.acts).engine.tail ≡ (over c.release.new.acts).engine.tail = λ i. (g.E.Engine.view (c.in-None.ensures.same i).engine).tail in
    let most : c.tail-end.result ≤ c.tail-start.result + 1073610752 = omega (arith, c.if-end-start-gt-MOST_BYTES.false) in
    omega (arith, most, same, c.tail-start.ensures, c.tail-end.ensures)

pub returns-in-None-clause-looks : goal.returns-in-None-clause-looks
returns-in-None-clause-looks g c = λ none.
    let a : Over = over c.args.acts.now in
    let t = table_of (λ y. (given.RecordOp-dyn g y).record_meaning y.1) (λ y. (given.RangeOp-dyn g y).range_meaning y.1) c.args.ops.now in
    let name = name_of c.args.op.now in
    let verb = verb_of c.args.op.now in
    let changes = c.is_changing-changes.result in
    let b : Over = over c.perform-done.new.space in
    let first = c.hold-was.ensures.sound in
    let last = c.release.ensures.sound in
    let heldp = held_is changes c.hold-was.result c.args.acts.now c.hold-was.new.acts c.hold-was.ensures.held in
    let rel = released_is changes c.hold-was.result c.args.acts.now c.hold-was.new.acts c.perform-done.new.space c.release.new.acts c.hold-was.ensures.held c.release.ensures.released in
    let begun : (told : a.engine.Told) → a.begun ≡ true = λ told. begun_by g.E.Engine.recovers t c.requires.can.sizes (c.requires.can.from told) a _ (c.requires.can.can told).acts.acting in
    let l1 : LaterOn g.E.Engine.recovers t (held changes a) b = subst (λ (o : Over). LaterOn g.E.Engine.recovers t o b) heldp c.perform-done.ensures.later in
    let l2 : LaterOn g.E.Engine.recovers t a (released changes a.begun b) = later_back g.E.Engine.recovers a b t changes l1 (λ from h told. last.now t from h told)
    (λ e told'. idle_back g.E.Engine.recovers a b t (subst (λ (x : Bool). LaterOn g.E.Engine.recovers t (held x a) b) e l1) last.whole (λ told. (c.requires.can.sizes, c.requires.can.from told, c.requires.can.means told, (c.requires.can.can told).can.idle)) told') in
    let r : Result Reply ObjectsFault = Ok c.in-Ok.reply in
    let q0 : Acted t c.args.txn.0 name verb c.perform-done.new.into c.perform-done.new.undo r (over c.hold-was.new.acts) b = record { counts = c.in-Ok.ensures.counts; did = c.in-Ok.ensures.did; few = c.perform-done.ensures.few; looks = c.in-Ok.ensures.looks; quiet = c.in-Ok.ensures.quiet; wrote = c.in-Ok.ensures.wrote } in
    let q2 : ActedOn t c.args.txn.0 name verb c.perform-done.new.into c.perform-done.new.undo r a (released changes a.begun b) = acted_back t c.args.txn.0 name verb c.perform-done.new.into c.perform-done.new.undo changes a b r c.is_changing-changes.ensures
    (subst (λ (o : Over). Acted t c.args.txn.0 name verb c.perform-done.new.into c.perform-done.new.undo r o b) heldp q0) in
    q2.alone none

pub returns-in-None-clause-means : goal.returns-in-None-clause-means
returns-in-None-clause-means g c z from m =
    let a : Over = over c.args.acts.now in
    let t = table_of (λ y. (given.RecordOp-dyn g y).record_meaning y.1) (λ y. (given.RangeOp-dyn g y).range_meaning y.1) c.args.ops.now in
    let name = name_of c.args.op.now in
    let verb = verb_of c.args.op.now in
    let changes = c.is_changing-changes.result in
    let b : Over = over c.perform-done.new.space in
    let first = c.hold-was.ensures.sound in
    let last = c.release.ensures.sound in
    let heldp = held_is changes c.hold-was.result c.args.acts.now c.hold-was.new.acts c.hold-was.ensures.held in
    let rel = released_is changes c.hold-was.result c.args.acts.now c.hold-was.new.acts c.perform-done.new.space c.release.new.acts c.hold-was.ensures.held c.release.ensures.released in
    let begun : (told : a.engine.Told) → a.begun ≡ true = λ told. begun_by g.E.Engine.recovers t c.requires.can.sizes (c.requires.can.from told) a _ (c.requires.can.can told).acts.acting in
    let l1 : LaterOn g.E.Engine.recovers t (held changes a) b = subst (λ (o : Over). LaterOn g.E.Engine.recovers t o b) heldp c.perform-done.ensures.later in
    let l2 : LaterOn g.E.Engine.recovers t a (released changes a.begun b) = later_back g.E.Engine.recovers a b t changes l1 (λ from h told. last.now t from h told)
    (λ e told'. idle_back g.E.Engine.recovers a b t (subst (λ (x : Bool). LaterOn g.E.Engine.recovers t (held x a) b) e l1) last.whole (λ told. (c.requires.can.sizes, c.requires.can.from told, c.requires.can.means told, (c.requires.can.can told).can.idle)) told') in
    let r : Result Reply ObjectsFault = Ok c.in-Ok.reply in
    let q0 : Acted t c.args.txn.0 name verb c.perform-done.new.into c.perform-done.new.undo r (over c.hold-was.new.acts) b = record { counts = c.in-Ok.ensures.counts; did = c.in-Ok.ensures.did; few = c.perform-done.ensures.few; looks = c.in-Ok.ensures.looks; quiet = c.in-Ok.ensures.quiet; wrote = c.in-Ok.ensures.wrote } in
    let q2 : ActedOn t c.args.txn.0 name verb c.perform-done.new.into c.perform-done.new.undo r a (released changes a.begun b) = acted_back t c.args.txn.0 name verb c.perform-done.new.into c.perform-done.new.undo changes a b r c.is_changing-changes.ensures
    (subst (λ (o : Over). Acted t c.args.txn.0 name verb c.perform-done.new.into c.perform-done.new.undo r o b) heldp q0) in
    let e : Over = over c.settle.new.acts in
    let se : e ≡ released changes a.begun b = (λ i. over (c.in-None.ensures.same i)) ∙ rel in
    let l : LaterOn g.E.Engine.recovers t a e = subst (λ (o : Over). LaterOn g.E.Engine.recovers t a o) (sym se) l2 in
    let q : ActedOn t c.args.txn.0 name verb c.perform-done.new.into c.perform-done.new.undo r a e = subst (λ (o : Over). ActedOn t c.args.txn.0 name verb c.perform-done.new.into c.perform-done.new.undo r a o) (sym se) q2 in
    let there = ready_there g.E.Engine.recovers a t name verb c.args.txn.0 (λ from m told. g.met.E.Engine.now_is _ t from m told) c.requires.can in
    let stands = (l.means from m.since).stands in
    let n = done_means g.E.Engine.recovers a e t name verb _ _ _ q.did there begun z from m l refl (g.met.E.Engine.told_whole _) (g.met.E.Engine.now_is _ t from stands) in
    n

pub returns-in-None-clause-performs : goal.returns-in-None-clause-performs
returns-in-None-clause-performs g c z from m told o act engine shows own can =
    let a : Over = over c.args.acts.now in
    let t = table_of (λ y. (given.RecordOp-dyn g y).record_meaning y.1) (λ y. (given.RangeOp-dyn g y).range_meaning y.1) c.args.ops.now in
    let name = name_of c.args.op.now in
    let verb = verb_of c.args.op.now in
    let changes = c.is_changing-changes.result in
    let b : Over = over c.perform-done.new.space in
    let first = c.hold-was.ensures.sound in
    let last = c.release.ensures.sound in
    let heldp = held_is changes c.hold-was.result c.args.acts.now c.hold-was.new.acts c.hold-was.ensures.held in
    let rel = released_is changes c.hold-was.result c.args.acts.now c.hold-was.new.acts c.perform-done.new.space c.release.new.acts c.hold-was.ensures.held c.release.ensures.released in
    let begun : (told : a.engine.Told) → a.begun ≡ true = λ told. begun_by g.E.Engine.recovers t c.requires.can.sizes (c.requires.can.from told) a _ (c.requires.can.can told).acts.acting in
    let l1 : LaterOn g.E.Engine.recovers t (held changes a) b = subst (λ (o : Over). LaterOn g.E.Engine.recovers t o b) heldp c.perform-done.ensures.later in
    let l2 : LaterOn g.E.Engine.recovers t a (released changes a.begun b) = later_back g.E.Engine.recovers a b t changes l1 (λ from h told. last.now t from h told)
    (λ e told'. idle_back g.E.Engine.recovers a b t (subst (λ (x : Bool). LaterOn g.E.Engine.recovers t (held x a) b) e l1) last.whole (λ told. (c.requires.can.sizes, c.requires.can.from told, c.requires.can.means told, (c.requires.can.can told).can.idle)) told') in
    let r : Result Reply ObjectsFault = Ok c.in-Ok.reply in
    let q0 : Acted t c.args.txn.0 name verb c.perform-done.new.into c.perform-done.new.undo r (over c.hold-was.new.acts) b = record { counts = c.in-Ok.ensures.counts; did = c.in-Ok.ensures.did; few = c.perform-done.ensures.few; looks = c.in-Ok.ensures.looks; quiet = c.in-Ok.ensures.quiet; wrote = c.in-Ok.ensures.wrote } in
    let q2 : ActedOn t c.args.txn.0 name verb c.perform-done.new.into c.perform-done.new.undo r a (released changes a.begun b) = acted_back t c.args.txn.0 name verb c.perform-done.new.into c.perform-done.new.undo changes a b r c.is_changing-changes.ensures
    (subst (λ (o : Over). Acted t c.args.txn.0 name verb c.perform-done.new.into c.perform-done.new.undo r o b) heldp q0) in
    let e : Over = over c.settle.new.acts in
    let se : e ≡ released changes a.begun b = (λ i. over (c.in-None.ensures.same i)) ∙ rel in
    let l : LaterOn g.E.Engine.recovers t a e = subst (λ (o : Over). LaterOn g.E.Engine.recovers t a o) (sym se) l2 in
    let q : ActedOn t c.args.txn.0 name verb c.perform-done.new.into c.perform-done.new.undo r a e = subst (λ (o : Over). ActedOn t c.args.txn.0 name verb c.perform-done.new.into c.perform-done.new.undo r a o) (sym se) q2 in
    let there = ready_there g.E.Engine.recovers a t name verb c.args.txn.0 (λ from m told. g.met.E.Engine.now_is _ t from m told) c.requires.can in
    let stands = (l.means from m.since).stands in
    let n = done_means g.E.Engine.recovers a e t name verb _ _ _ q.did there begun z from m l refl (g.met.E.Engine.told_whole _) (g.met.E.Engine.now_is _ t from stands) in
    let told' = q.did.told told in
    let f : Facts g.E.Engine.recovers e t from = record { law = g.met.E.Engine.lawful _ t from stands; first = g.met.E.Engine.durable_first _ told'; images = g.met.E.Engine.images _ t from stands told' } in
    let whole = g.met.E.Engine.told_whole _ told' in
    let now = g.met.E.Engine.now_is _ t from m.since.stands told in
    let now' = g.met.E.Engine.now_is _ t from stands told' in
    let done = do_changed g.E.Engine.recovers a e t z from m l told whole n told' f act shows in
    let s = look_there g.E.Engine.recovers a t z from m (λ _. now) told o can.reads.reading in
    let room = room_for g.E.Engine.recovers a t name verb z from m now o can s.0 s.3 in
    let d = q.did.done told s.0 s.1 room in
    let none : opened a.engine.steps ≡ [] = none_open {a = a} {t = t} {z = z} {from = from} (m.keeps told) can.idle in
    let reply = said_reply c.perform-done.new.into c.in-Ok.reply in
    let note = c.perform-done.new.undo in
    let is : IsDone t act.transaction name verb (Ok reply) note (space_in a) (space_in e) s.0 d.0 = subst (λ (u : ℕ). IsDone t u name verb (Ok reply) note (space_in a) (space_in e) s.0 d.0) (sym own) d.1 in (
      done.0,
      (
        done.1,
        subst (λ (x : Reading). Performed t (basis g.E.Engine.recovers z) act (seen g.E.Engine.recovers t z from a) (seen g.E.Engine.recovers t z from e) x (On name verb) reply note) s.3
            (performed g.E.Engine.recovers a e t name verb z from m l n told whole now now' can.idle act f.law (subst (λ (n : List ℕ). is_name n ≡ true) c.name.ensures c.tell_name.ensures) c.brings_bytes.ensures reply s.0 d.0 s.1 s.2
            (λ ch left. verb_puts_back g.E.Engine.recovers a e t z from m l told whole now now' (g.met.E.Engine.bands_whole _ t from m.since.stands told) can.idle ((m.keeps told).fresh none) c.args.acts.now.band_flags act shows
            name verb reply (HasRoomFor t (view_in a) name verb) s.0 d.0 s.1 room is.contents (q.wrote ch) left)
            done.0 done.1 note is (λ no. (q.quiet no).still (λ told. none) told') q.alone),
      ),
    )

pub returns-in-Some-clause-counts : goal.returns-in-Some-clause-counts
returns-in-Some-clause-counts g c =
    let a : Over = over c.args.acts.now in
    let t = table_of (λ y. (given.RecordOp-dyn g y).record_meaning y.1) (λ y. (given.RangeOp-dyn g y).range_meaning y.1) c.args.ops.now in
    let name = name_of c.args.op.now in
    let verb = verb_of c.args.op.now in
    let changes = c.is_changing-changes.result in
    let b : Over = over c.perform-done.new.space in
    let first = c.hold-was.ensures.sound in
    let last = c.release.ensures.sound in
    let heldp = held_is changes c.hold-was.result c.args.acts.now c.hold-was.new.acts c.hold-was.ensures.held in
    let rel = released_is changes c.hold-was.result c.args.acts.now c.hold-was.new.acts c.perform-done.new.space c.release.new.acts c.hold-was.ensures.held c.release.ensures.released in
    let begun : (told : a.engine.Told) → a.begun ≡ true = λ told. begun_by g.E.Engine.recovers t c.requires.can.sizes (c.requires.can.from told) a _ (c.requires.can.can told).acts.acting in
    let l1 : LaterOn g.E.Engine.recovers t (held changes a) b = subst (λ (o : Over). LaterOn g.E.Engine.recovers t o b) heldp c.perform-done.ensures.later in
    let l2 : LaterOn g.E.Engine.recovers t a (released changes a.begun b) = later_back g.E.Engine.recovers a b t changes l1 (λ from h told. last.now t from h told)
    (λ e told'. idle_back g.E.Engine.recovers a b t (subst (λ (x : Bool). LaterOn g.E.Engine.recovers t (held x a) b) e l1) last.whole (λ told. (c.requires.can.sizes, c.requires.can.from told, c.requires.can.means told, (c.requires.can.can told).can.idle)) told') in
    let r : Result Reply ObjectsFault = Ok c.in-Ok.reply in
    let q0 : Acted t c.args.txn.0 name verb c.perform-done.new.into c.perform-done.new.undo r (over c.hold-was.new.acts) b = record { counts = c.in-Ok.ensures.counts; did = c.in-Ok.ensures.did; few = c.perform-done.ensures.few; looks = c.in-Ok.ensures.looks; quiet = c.in-Ok.ensures.quiet; wrote = c.in-Ok.ensures.wrote } in
    let q2 : ActedOn t c.args.txn.0 name verb c.perform-done.new.into c.perform-done.new.undo r a (released changes a.begun b) = acted_back t c.args.txn.0 name verb c.perform-done.new.into c.perform-done.new.undo changes a b r c.is_changing-changes.ensures
    (subst (λ (o : Over). Acted t c.args.txn.0 name verb c.perform-done.new.into c.perform-done.new.undo r o b) heldp q0) in
    let d : Over = over c.release.new.acts in
    let e : Over = over c.settle.new.acts in
    let l : LaterOn g.E.Engine.recovers t a d = subst (λ (o : Over). LaterOn g.E.Engine.recovers t a o) (sym rel) l2 in
    let q : ActedOn t c.args.txn.0 name verb c.perform-done.new.into c.perform-done.new.undo r a d = subst (λ (o : Over). ActedOn t c.args.txn.0 name verb c.perform-done.new.into c.perform-done.new.undo r a o) (sym rel) q2 in
    let p : Passes changes a d = subst (λ (o : Over). Passes changes a o) (sym rel) (passes_back g.E.Engine.recovers a b t changes (sane c.args.acts.now first) (sane c.perform-done.new.space last) l1 q2.later) in
    let up = given_as changes c.in-Some.ensures.given_up in
    counts_up {T = Reply} {IsDisk = IsObjDisk} g.E.Engine.recovers a d e (store.Space c.in-Some.fault) p none_fails c.in-Some.fault (λ is. is) (λ is. is) up

pub returns-in-Some-clause-log_end : goal.returns-in-Some-clause-log_end
returns-in-Some-clause-log_end g c =
    let a : Over = over c.args.acts.now in
    let t = table_of (λ y. (given.RecordOp-dyn g y).record_meaning y.1) (λ y. (given.RangeOp-dyn g y).range_meaning y.1) c.args.ops.now in
    let name = name_of c.args.op.now in
    let verb = verb_of c.args.op.now in
    let changes = c.is_changing-changes.result in
    let b : Over = over c.perform-done.new.space in
    let first = c.hold-was.ensures.sound in
    let last = c.release.ensures.sound in
    let heldp = held_is changes c.hold-was.result c.args.acts.now c.hold-was.new.acts c.hold-was.ensures.held in
    let rel = released_is changes c.hold-was.result c.args.acts.now c.hold-was.new.acts c.perform-done.new.space c.release.new.acts c.hold-was.ensures.held c.release.ensures.released in
    let begun : (told : a.engine.Told) → a.begun ≡ true = λ told. begun_by g.E.Engine.recovers t c.requires.can.sizes (c.requires.can.from told) a _ (c.requires.can.can told).acts.acting in
    let l1 : LaterOn g.E.Engine.recovers t (held changes a) b = subst (λ (o : Over). LaterOn g.E.Engine.recovers t o b) heldp c.perform-done.ensures.later in
    let l2 : LaterOn g.E.Engine.recovers t a (released changes a.begun b) = later_back g.E.Engine.recovers a b t changes l1 (λ from h told. last.now t from h told)
    (λ e told'. idle_back g.E.Engine.recovers a b t (subst (λ (x : Bool). LaterOn g.E.Engine.recovers t (held x a) b) e l1) last.whole (λ told. (c.requires.can.sizes, c.requires.can.from told, c.requires.can.means told, (c.requires.can.can told).can.idle)) told') in
    let r : Result Reply ObjectsFault = Ok c.in-Ok.reply in
    let q0 : Acted t c.args.txn.0 name verb c.perform-done.new.into c.perform-done.new.undo r (over c.hold-was.new.acts) b = record { counts = c.in-Ok.ensures.counts; did = c.in-Ok.ensures.did; few = c.perform-done.ensures.few; looks = c.in-Ok.ensures.looks; quiet = c.in-Ok.ensures.quiet; wrote = c.in-Ok.ensures.wrote } in
    let q2 : ActedOn t c.args.txn.0 name verb c.perform-done.new.into c.perform-done.new.undo r a (released changes a.begun b) = acted_back t c.args.txn.0 name verb c.perform-done.new.into c.perform-done.new.undo changes a b r c.is_changing-changes.ensures
    (subst (λ (o : Over). Acted t c.args.txn.0 name verb c.perform-done.new.into c.perform-done.new.undo r o b) heldp q0) in
    let d : Over = over c.release.new.acts in
    let e : Over = over c.settle.new.acts in
    let l : LaterOn g.E.Engine.recovers t a d = subst (λ (o : Over). LaterOn g.E.Engine.recovers t a o) (sym rel) l2 in
    let q : ActedOn t c.args.txn.0 name verb c.perform-done.new.into c.perform-done.new.undo r a d = subst (λ (o : Over). ActedOn t c.args.txn.0 name verb c.perform-done.new.into c.perform-done.new.undo r a o) (sym rel) q2 in
    let p : Passes changes a d = subst (λ (o : Over). Passes changes a o) (sym rel) (passes_back g.E.Engine.recovers a b t changes (sane c.args.acts.now first) (sane c.perform-done.new.space last) l1 q2.later) in
    let up = given_as changes c.in-Some.ensures.given_up in
    let most : c.tail-end.result ≤ c.tail-start.result + 1073610752 = omega (arith, c.if-end-start-gt-MOST_BYTES.false) in
    subst (λ (x : Bool). IsVerbEnd x a.engine.tail (store.Space c.in-Some.fault)) c.is_changing-changes.ensures (verb_up a d e changes c.in-Some.fault (omega (arith, most, c.tail-start.ensures, c.tail-end.ensures)) up)

pub returns-in-Some-clause-means : goal.returns-in-Some-clause-means
returns-in-Some-clause-means g c z from m =
    let a : Over = over c.args.acts.now in
    let t = table_of (λ y. (given.RecordOp-dyn g y).record_meaning y.1) (λ y. (given.RangeOp-dyn g y).range_meaning y.1) c.args.ops.now in
    let name = name_of c.args.op.now in
    let verb = verb_of c.args.op.now in
    let changes = c.is_changing-changes.result in
    let b : Over = over c.perform-done.new.space in
    let first = c.hold-was.ensures.sound in
    let last = c.release.ensures.sound in
    let heldp = held_is changes c.hold-was.result c.args.acts.now c.hold-was.new.acts c.hold-was.ensures.held in
    let rel = released_is changes c.hold-was.result c.args.acts.now c.hold-was.new.acts c.perform-done.new.space c.release.new.acts c.hold-was.ensures.held c.release.ensures.released in
    let begun : (told : a.engine.Told) → a.begun ≡ true = λ told. begun_by g.E.Engine.recovers t c.requires.can.sizes (c.requires.can.from told) a _ (c.requires.can.can told).acts.acting in
    let l1 : LaterOn g.E.Engine.recovers t (held changes a) b = subst (λ (o : Over). LaterOn g.E.Engine.recovers t o b) heldp c.perform-done.ensures.later in
    let l2 : LaterOn g.E.Engine.recovers t a (released changes a.begun b) = later_back g.E.Engine.recovers a b t changes l1 (λ from h told. last.now t from h told)
    (λ e told'. idle_back g.E.Engine.recovers a b t (subst (λ (x : Bool). LaterOn g.E.Engine.recovers t (held x a) b) e l1) last.whole (λ told. (c.requires.can.sizes, c.requires.can.from told, c.requires.can.means told, (c.requires.can.can told).can.idle)) told') in
    let r : Result Reply ObjectsFault = Ok c.in-Ok.reply in
    let q0 : Acted t c.args.txn.0 name verb c.perform-done.new.into c.perform-done.new.undo r (over c.hold-was.new.acts) b = record { counts = c.in-Ok.ensures.counts; did = c.in-Ok.ensures.did; few = c.perform-done.ensures.few; looks = c.in-Ok.ensures.looks; quiet = c.in-Ok.ensures.quiet; wrote = c.in-Ok.ensures.wrote } in
    let q2 : ActedOn t c.args.txn.0 name verb c.perform-done.new.into c.perform-done.new.undo r a (released changes a.begun b) = acted_back t c.args.txn.0 name verb c.perform-done.new.into c.perform-done.new.undo changes a b r c.is_changing-changes.ensures
    (subst (λ (o : Over). Acted t c.args.txn.0 name verb c.perform-done.new.into c.perform-done.new.undo r o b) heldp q0) in
    let d : Over = over c.release.new.acts in
    let e : Over = over c.settle.new.acts in
    let l : LaterOn g.E.Engine.recovers t a d = subst (λ (o : Over). LaterOn g.E.Engine.recovers t a o) (sym rel) l2 in
    let q : ActedOn t c.args.txn.0 name verb c.perform-done.new.into c.perform-done.new.undo r a d = subst (λ (o : Over). ActedOn t c.args.txn.0 name verb c.perform-done.new.into c.perform-done.new.undo r a o) (sym rel) q2 in
    let p : Passes changes a d = subst (λ (o : Over). Passes changes a o) (sym rel) (passes_back g.E.Engine.recovers a b t changes (sane c.args.acts.now first) (sane c.perform-done.new.space last) l1 q2.later) in
    let up = given_as changes c.in-Some.ensures.given_up in
    means_off a e t z from m (up.pages ∙ l.pages) (up.bands ∙ l.bands) refl (up.means t from (l.means from m.since).stands) up.silent

pub returns-in-Some-clause-performs : goal.returns-in-Some-clause-performs
returns-in-Some-clause-performs g c z from m told o act engine shows own can =
    let a : Over = over c.args.acts.now in
    let t = table_of (λ y. (given.RecordOp-dyn g y).record_meaning y.1) (λ y. (given.RangeOp-dyn g y).range_meaning y.1) c.args.ops.now in
    let name = name_of c.args.op.now in
    let verb = verb_of c.args.op.now in
    let changes = c.is_changing-changes.result in
    let b : Over = over c.perform-done.new.space in
    let first = c.hold-was.ensures.sound in
    let last = c.release.ensures.sound in
    let heldp = held_is changes c.hold-was.result c.args.acts.now c.hold-was.new.acts c.hold-was.ensures.held in
    let rel = released_is changes c.hold-was.result c.args.acts.now c.hold-was.new.acts c.perform-done.new.space c.release.new.acts c.hold-was.ensures.held c.release.ensures.released in
    let begun : (told : a.engine.Told) → a.begun ≡ true = λ told. begun_by g.E.Engine.recovers t c.requires.can.sizes (c.requires.can.from told) a _ (c.requires.can.can told).acts.acting in
    let l1 : LaterOn g.E.Engine.recovers t (held changes a) b = subst (λ (o : Over). LaterOn g.E.Engine.recovers t o b) heldp c.perform-done.ensures.later in
    let l2 : LaterOn g.E.Engine.recovers t a (released changes a.begun b) = later_back g.E.Engine.recovers a b t changes l1 (λ from h told. last.now t from h told)
    (λ e told'. idle_back g.E.Engine.recovers a b t (subst (λ (x : Bool). LaterOn g.E.Engine.recovers t (held x a) b) e l1) last.whole (λ told. (c.requires.can.sizes, c.requires.can.from told, c.requires.can.means told, (c.requires.can.can told).can.idle)) told') in
    let r : Result Reply ObjectsFault = Ok c.in-Ok.reply in
    let q0 : Acted t c.args.txn.0 name verb c.perform-done.new.into c.perform-done.new.undo r (over c.hold-was.new.acts) b = record { counts = c.in-Ok.ensures.counts; did = c.in-Ok.ensures.did; few = c.perform-done.ensures.few; looks = c.in-Ok.ensures.looks; quiet = c.in-Ok.ensures.quiet; wrote = c.in-Ok.ensures.wrote } in
    let q2 : ActedOn t c.args.txn.0 name verb c.perform-done.new.into c.perform-done.new.undo r a (released changes a.begun b) = acted_back t c.args.txn.0 name verb c.perform-done.new.into c.perform-done.new.undo changes a b r c.is_changing-changes.ensures
    (subst (λ (o : Over). Acted t c.args.txn.0 name verb c.perform-done.new.into c.perform-done.new.undo r o b) heldp q0) in
    let d : Over = over c.release.new.acts in
    let e : Over = over c.settle.new.acts in
    let l : LaterOn g.E.Engine.recovers t a d = subst (λ (o : Over). LaterOn g.E.Engine.recovers t a o) (sym rel) l2 in
    let q : ActedOn t c.args.txn.0 name verb c.perform-done.new.into c.perform-done.new.undo r a d = subst (λ (o : Over). ActedOn t c.args.txn.0 name verb c.perform-done.new.into c.perform-done.new.undo r a o) (sym rel) q2 in
    let p : Passes changes a d = subst (λ (o : Over). Passes changes a o) (sym rel) (passes_back g.E.Engine.recovers a b t changes (sane c.args.acts.now first) (sane c.perform-done.new.space last) l1 q2.later) in
    let up = given_as changes c.in-Some.ensures.given_up in
    (do_changes g.E.Engine.recovers a d t z from m l told e up.disk act shows, tt)

pub returns-in-None-settle-clause-counts : goal.returns-in-None-settle-clause-counts
returns-in-None-settle-clause-counts g c =
    let a : Over = over c.args.acts.now in
    let t = table_of (λ y. (given.RecordOp-dyn g y).record_meaning y.1) (λ y. (given.RangeOp-dyn g y).range_meaning y.1) c.args.ops.now in
    let name = name_of c.args.op.now in
    let verb = verb_of c.args.op.now in
    let changes = c.is_changing-changes.result in
    let b : Over = over c.perform-done.new.space in
    let first = c.hold-was.ensures.sound in
    let last = c.release.ensures.sound in
    let heldp = held_is changes c.hold-was.result c.args.acts.now c.hold-was.new.acts c.hold-was.ensures.held in
    let rel = released_is changes c.hold-was.result c.args.acts.now c.hold-was.new.acts c.perform-done.new.space c.release.new.acts c.hold-was.ensures.held c.release.ensures.released in
    let begun : (told : a.engine.Told) → a.begun ≡ true = λ told. begun_by g.E.Engine.recovers t c.requires.can.sizes (c.requires.can.from told) a _ (c.requires.can.can told).acts.acting in
    let l1 : LaterOn g.E.Engine.recovers t (held changes a) b = subst (λ (o : Over). LaterOn g.E.Engine.recovers t o b) heldp c.perform-done.ensures.later in
    let l2 : LaterOn g.E.Engine.recovers t a (released changes a.begun b) = later_back g.E.Engine.recovers a b t changes l1 (λ from h told. last.now t from h told)
    (λ e told'. idle_back g.E.Engine.recovers a b t (subst (λ (x : Bool). LaterOn g.E.Engine.recovers t (held x a) b) e l1) last.whole (λ told. (c.requires.can.sizes, c.requires.can.from told, c.requires.can.means told, (c.requires.can.can told).can.idle)) told') in
    let r : Result Reply ObjectsFault = Err (objects.Model c.in-Model.reason) in
    let q0 : Acted t c.args.txn.0 name verb c.perform-done.new.into c.perform-done.new.undo r (over c.hold-was.new.acts) b = subst (λ (e : ObjectsFault). Acted t c.args.txn.0 name verb c.perform-done.new.into c.perform-done.new.undo (let x : Result Reply ObjectsFault = Err e in x) (over c.hold-was.new.acts) b) c.in-Model.is (record { counts = c.in-Err.ensures.counts; did = c.in-Err.ensures.did; few = c.perform-done.ensures.few; looks = c.in-Err.ensures.looks; quiet = c.in-Err.ensures.quiet; wrote = c.in-Err.ensures.wrote }) in
    let q2 : ActedOn t c.args.txn.0 name verb c.perform-done.new.into c.perform-done.new.undo r a (released changes a.begun b) = acted_back t c.args.txn.0 name verb c.perform-done.new.into c.perform-done.new.undo changes a b r c.is_changing-changes.ensures
    (subst (λ (o : Over). Acted t c.args.txn.0 name verb c.perform-done.new.into c.perform-done.new.undo r o b) heldp q0) in
    let e : Over = over c.settle-in-Model.new.acts in
    let se : e ≡ released changes a.begun b = (λ i. over (c.in-None-settle.ensures.same i)) ∙ rel in
    let l : LaterOn g.E.Engine.recovers t a e = subst (λ (o : Over). LaterOn g.E.Engine.recovers t a o) (sym se) l2 in
    let q : ActedOn t c.args.txn.0 name verb c.perform-done.new.into c.perform-done.new.undo r a e = subst (λ (o : Over). ActedOn t c.args.txn.0 name verb c.perform-done.new.into c.perform-done.new.undo r a o) (sym se) q2 in
    record {
      told = l.told;
      tells = tt;
      tail = l.tail;
      later = q.later;
      quiet = tt;
      failed = λ is. absurd is;
      accounts = accounts_on {IsDisk = IsObjDisk} a e (let x : Result Reply ObjFault = Err (store.Model c.in-Model.reason) in x) (λ is. is) l.accounts (subst (λ x. IsHeld (g.E.Engine.view x.engine)) (sym c.in-None-settle.ensures.same) c.in-None-settle.ensures.held);
    }

pub returns-in-None-settle-clause-refused : goal.returns-in-None-settle-clause-refused
returns-in-None-settle-clause-refused g c =
    let a : Over = over c.args.acts.now in
    let t = table_of (λ y. (given.RecordOp-dyn g y).record_meaning y.1) (λ y. (given.RangeOp-dyn g y).range_meaning y.1) c.args.ops.now in
    let name = name_of c.args.op.now in
    let verb = verb_of c.args.op.now in
    let changes = c.is_changing-changes.result in
    let b : Over = over c.perform-done.new.space in
    let first = c.hold-was.ensures.sound in
    let last = c.release.ensures.sound in
    let heldp = held_is changes c.hold-was.result c.args.acts.now c.hold-was.new.acts c.hold-was.ensures.held in
    let rel = released_is changes c.hold-was.result c.args.acts.now c.hold-was.new.acts c.perform-done.new.space c.release.new.acts c.hold-was.ensures.held c.release.ensures.released in
    let begun : (told : a.engine.Told) → a.begun ≡ true = λ told. begun_by g.E.Engine.recovers t c.requires.can.sizes (c.requires.can.from told) a _ (c.requires.can.can told).acts.acting in
    let l1 : LaterOn g.E.Engine.recovers t (held changes a) b = subst (λ (o : Over). LaterOn g.E.Engine.recovers t o b) heldp c.perform-done.ensures.later in
    let l2 : LaterOn g.E.Engine.recovers t a (released changes a.begun b) = later_back g.E.Engine.recovers a b t changes l1 (λ from h told. last.now t from h told)
    (λ e told'. idle_back g.E.Engine.recovers a b t (subst (λ (x : Bool). LaterOn g.E.Engine.recovers t (held x a) b) e l1) last.whole (λ told. (c.requires.can.sizes, c.requires.can.from told, c.requires.can.means told, (c.requires.can.can told).can.idle)) told') in
    let r : Result Reply ObjectsFault = Err (objects.Model c.in-Model.reason) in
    let q0 : Acted t c.args.txn.0 name verb c.perform-done.new.into c.perform-done.new.undo r (over c.hold-was.new.acts) b = subst (λ (e : ObjectsFault). Acted t c.args.txn.0 name verb c.perform-done.new.into c.perform-done.new.undo (let x : Result Reply ObjectsFault = Err e in x) (over c.hold-was.new.acts) b) c.in-Model.is (record { counts = c.in-Err.ensures.counts; did = c.in-Err.ensures.did; few = c.perform-done.ensures.few; looks = c.in-Err.ensures.looks; quiet = c.in-Err.ensures.quiet; wrote = c.in-Err.ensures.wrote }) in
    let q2 : ActedOn t c.args.txn.0 name verb c.perform-done.new.into c.perform-done.new.undo r a (released changes a.begun b) = acted_back t c.args.txn.0 name verb c.perform-done.new.into c.perform-done.new.undo changes a b r c.is_changing-changes.ensures
    (subst (λ (o : Over). Acted t c.args.txn.0 name verb c.perform-done.new.into c.perform-done.new.undo r o b) heldp q0) in
    let e : Over = over c.settle-in-Model.new.acts in
    let se : e ≡ released changes a.begun b = (λ i. over (c.in-None-settle.ensures.same i)) ∙ rel in
    let l : LaterOn g.E.Engine.recovers t a e = subst (λ (o : Over). LaterOn g.E.Engine.recovers t a o) (sym se) l2 in
    let q : ActedOn t c.args.txn.0 name verb c.perform-done.new.into c.perform-done.new.undo r a e = subst (λ (o : Over). ActedOn t c.args.txn.0 name verb c.perform-done.new.into c.perform-done.new.undo r a o) (sym se) q2 in
    ((λ told. q.did.told told), q.same)

pub returns-in-None-settle-clause-means : goal.returns-in-None-settle-clause-means
returns-in-None-settle-clause-means g c z from m =
    let a : Over = over c.args.acts.now in
    let t = table_of (λ y. (given.RecordOp-dyn g y).record_meaning y.1) (λ y. (given.RangeOp-dyn g y).range_meaning y.1) c.args.ops.now in
    let name = name_of c.args.op.now in
    let verb = verb_of c.args.op.now in
    let changes = c.is_changing-changes.result in
    let b : Over = over c.perform-done.new.space in
    let first = c.hold-was.ensures.sound in
    let last = c.release.ensures.sound in
    let heldp = held_is changes c.hold-was.result c.args.acts.now c.hold-was.new.acts c.hold-was.ensures.held in
    let rel = released_is changes c.hold-was.result c.args.acts.now c.hold-was.new.acts c.perform-done.new.space c.release.new.acts c.hold-was.ensures.held c.release.ensures.released in
    let begun : (told : a.engine.Told) → a.begun ≡ true = λ told. begun_by g.E.Engine.recovers t c.requires.can.sizes (c.requires.can.from told) a _ (c.requires.can.can told).acts.acting in
    let l1 : LaterOn g.E.Engine.recovers t (held changes a) b = subst (λ (o : Over). LaterOn g.E.Engine.recovers t o b) heldp c.perform-done.ensures.later in
    let l2 : LaterOn g.E.Engine.recovers t a (released changes a.begun b) = later_back g.E.Engine.recovers a b t changes l1 (λ from h told. last.now t from h told)
    (λ e told'. idle_back g.E.Engine.recovers a b t (subst (λ (x : Bool). LaterOn g.E.Engine.recovers t (held x a) b) e l1) last.whole (λ told. (c.requires.can.sizes, c.requires.can.from told, c.requires.can.means told, (c.requires.can.can told).can.idle)) told') in
    let r : Result Reply ObjectsFault = Err (objects.Model c.in-Model.reason) in
    let q0 : Acted t c.args.txn.0 name verb c.perform-done.new.into c.perform-done.new.undo r (over c.hold-was.new.acts) b = subst (λ (e : ObjectsFault). Acted t c.args.txn.0 name verb c.perform-done.new.into c.perform-done.new.undo (let x : Result Reply ObjectsFault = Err e in x) (over c.hold-was.new.acts) b) c.in-Model.is (record { counts = c.in-Err.ensures.counts; did = c.in-Err.ensures.did; few = c.perform-done.ensures.few; looks = c.in-Err.ensures.looks; quiet = c.in-Err.ensures.quiet; wrote = c.in-Err.ensures.wrote }) in
    let q2 : ActedOn t c.args.txn.0 name verb c.perform-done.new.into c.perform-done.new.undo r a (released changes a.begun b) = acted_back t c.args.txn.0 name verb c.perform-done.new.into c.perform-done.new.undo changes a b r c.is_changing-changes.ensures
    (subst (λ (o : Over). Acted t c.args.txn.0 name verb c.perform-done.new.into c.perform-done.new.undo r o b) heldp q0) in
    let e : Over = over c.settle-in-Model.new.acts in
    let se : e ≡ released changes a.begun b = (λ i. over (c.in-None-settle.ensures.same i)) ∙ rel in
    let l : LaterOn g.E.Engine.recovers t a e = subst (λ (o : Over). LaterOn g.E.Engine.recovers t a o) (sym se) l2 in
    let q : ActedOn t c.args.txn.0 name verb c.perform-done.new.into c.perform-done.new.undo r a e = subst (λ (o : Over). ActedOn t c.args.txn.0 name verb c.perform-done.new.into c.perform-done.new.undo r a o) (sym se) q2 in
    let there = ready_there g.E.Engine.recovers a t name verb c.args.txn.0 (λ from m told. g.met.E.Engine.now_is _ t from m told) c.requires.can in
    let stands = (l.means from m.since).stands in
    let n = done_means g.E.Engine.recovers a e t name verb _ _ _ q.did there begun z from m l refl (g.met.E.Engine.told_whole _) (g.met.E.Engine.now_is _ t from stands) in
    n

pub returns-in-None-settle-clause-performs : goal.returns-in-None-settle-clause-performs
returns-in-None-settle-clause-performs g c z from m told o act engine shows own can =
    let a : Over = over c.args.acts.now in
    let t = table_of (λ y. (given.RecordOp-dyn g y).record_meaning y.1) (λ y. (given.RangeOp-dyn g y).range_meaning y.1) c.args.ops.now in
    let name = name_of c.args.op.now in
    let verb = verb_of c.args.op.now in
    let changes = c.is_changing-changes.result in
    let b : Over = over c.perform-done.new.space in
    let first = c.hold-was.ensures.sound in
    let last = c.release.ensures.sound in
    let heldp = held_is changes c.hold-was.result c.args.acts.now c.hold-was.new.acts c.hold-was.ensures.held in
    let rel = released_is changes c.hold-was.result c.args.acts.now c.hold-was.new.acts c.perform-done.new.space c.release.new.acts c.hold-was.ensures.held c.release.ensures.released in
    let begun : (told : a.engine.Told) → a.begun ≡ true = λ told. begun_by g.E.Engine.recovers t c.requires.can.sizes (c.requires.can.from told) a _ (c.requires.can.can told).acts.acting in
    let l1 : LaterOn g.E.Engine.recovers t (held changes a) b = subst (λ (o : Over). LaterOn g.E.Engine.recovers t o b) heldp c.perform-done.ensures.later in
    let l2 : LaterOn g.E.Engine.recovers t a (released changes a.begun b) = later_back g.E.Engine.recovers a b t changes l1 (λ from h told. last.now t from h told)
    (λ e told'. idle_back g.E.Engine.recovers a b t (subst (λ (x : Bool). LaterOn g.E.Engine.recovers t (held x a) b) e l1) last.whole (λ told. (c.requires.can.sizes, c.requires.can.from told, c.requires.can.means told, (c.requires.can.can told).can.idle)) told') in
    let r : Result Reply ObjectsFault = Err (objects.Model c.in-Model.reason) in
    let q0 : Acted t c.args.txn.0 name verb c.perform-done.new.into c.perform-done.new.undo r (over c.hold-was.new.acts) b = subst (λ (e : ObjectsFault). Acted t c.args.txn.0 name verb c.perform-done.new.into c.perform-done.new.undo (let x : Result Reply ObjectsFault = Err e in x) (over c.hold-was.new.acts) b) c.in-Model.is (record { counts = c.in-Err.ensures.counts; did = c.in-Err.ensures.did; few = c.perform-done.ensures.few; looks = c.in-Err.ensures.looks; quiet = c.in-Err.ensures.quiet; wrote = c.in-Err.ensures.wrote }) in
    let q2 : ActedOn t c.args.txn.0 name verb c.perform-done.new.into c.perform-done.new.undo r a (released changes a.begun b) = acted_back t c.args.txn.0 name verb c.perform-done.new.into c.perform-done.new.undo changes a b r c.is_changing-changes.ensures
    (subst (λ (o : Over). Acted t c.args.txn.0 name verb c.perform-done.new.into c.perform-done.new.undo r o b) heldp q0) in
    let e : Over = over c.settle-in-Model.new.acts in
    let se : e ≡ released changes a.begun b = (λ i. over (c.in-None-settle.ensures.same i)) ∙ rel in
    let l : LaterOn g.E.Engine.recovers t a e = subst (λ (o : Over). LaterOn g.E.Engine.recovers t a o) (sym se) l2 in
    let q : ActedOn t c.args.txn.0 name verb c.perform-done.new.into c.perform-done.new.undo r a e = subst (λ (o : Over). ActedOn t c.args.txn.0 name verb c.perform-done.new.into c.perform-done.new.undo r a o) (sym se) q2 in
    let there = ready_there g.E.Engine.recovers a t name verb c.args.txn.0 (λ from m told. g.met.E.Engine.now_is _ t from m told) c.requires.can in
    let stands = (l.means from m.since).stands in
    let n = done_means g.E.Engine.recovers a e t name verb _ _ _ q.did there begun z from m l refl (g.met.E.Engine.told_whole _) (g.met.E.Engine.now_is _ t from stands) in
    let told' = q.did.told told in
    let f : Facts g.E.Engine.recovers e t from = record { law = g.met.E.Engine.lawful _ t from stands; first = g.met.E.Engine.durable_first _ told'; images = g.met.E.Engine.images _ t from stands told' } in
    let whole = g.met.E.Engine.told_whole _ told' in
    let now = g.met.E.Engine.now_is _ t from m.since.stands told in
    let now' = g.met.E.Engine.now_is _ t from stands told' in
    let done = do_changed g.E.Engine.recovers a e t z from m l told whole n told' f act shows in
    let s = look_there g.E.Engine.recovers a t z from m (λ _. now) told o can.reads.reading in
    let room = room_for g.E.Engine.recovers a t name verb z from m now o can s.0 s.3 in
    let d = q.did.done told s.0 s.1 room in
    let none : opened a.engine.steps ≡ [] = none_open {a = a} {t = t} {z = z} {from = from} (m.keeps told) can.idle in
    let note = c.perform-done.new.undo in (
      done.0,
      (
        done.1,
        subst (λ (x : Reading). IsRefused t (basis g.E.Engine.recovers z) (seen g.E.Engine.recovers t z from a) (seen g.E.Engine.recovers t z from e) x (On name verb) c.in-Model.reason) s.3
            (refused g.E.Engine.recovers a e t name verb z from m l n told whole now now' can.idle act c.args.txn.0 c.in-Model.reason note s.0 d.0 d.1 (λ no. (q.quiet no).still (λ told. none) told') done.0 done.1),
      ),
    )

pub returns-in-Some-settle-clause-counts : goal.returns-in-Some-settle-clause-counts
returns-in-Some-settle-clause-counts g c =
    let a : Over = over c.args.acts.now in
    let t = table_of (λ y. (given.RecordOp-dyn g y).record_meaning y.1) (λ y. (given.RangeOp-dyn g y).range_meaning y.1) c.args.ops.now in
    let name = name_of c.args.op.now in
    let verb = verb_of c.args.op.now in
    let changes = c.is_changing-changes.result in
    let b : Over = over c.perform-done.new.space in
    let first = c.hold-was.ensures.sound in
    let last = c.release.ensures.sound in
    let heldp = held_is changes c.hold-was.result c.args.acts.now c.hold-was.new.acts c.hold-was.ensures.held in
    let rel = released_is changes c.hold-was.result c.args.acts.now c.hold-was.new.acts c.perform-done.new.space c.release.new.acts c.hold-was.ensures.held c.release.ensures.released in
    let begun : (told : a.engine.Told) → a.begun ≡ true = λ told. begun_by g.E.Engine.recovers t c.requires.can.sizes (c.requires.can.from told) a _ (c.requires.can.can told).acts.acting in
    let l1 : LaterOn g.E.Engine.recovers t (held changes a) b = subst (λ (o : Over). LaterOn g.E.Engine.recovers t o b) heldp c.perform-done.ensures.later in
    let l2 : LaterOn g.E.Engine.recovers t a (released changes a.begun b) = later_back g.E.Engine.recovers a b t changes l1 (λ from h told. last.now t from h told)
    (λ e told'. idle_back g.E.Engine.recovers a b t (subst (λ (x : Bool). LaterOn g.E.Engine.recovers t (held x a) b) e l1) last.whole (λ told. (c.requires.can.sizes, c.requires.can.from told, c.requires.can.means told, (c.requires.can.can told).can.idle)) told') in
    let r : Result Reply ObjectsFault = Err (objects.Model c.in-Model.reason) in
    let q0 : Acted t c.args.txn.0 name verb c.perform-done.new.into c.perform-done.new.undo r (over c.hold-was.new.acts) b = subst (λ (e : ObjectsFault). Acted t c.args.txn.0 name verb c.perform-done.new.into c.perform-done.new.undo (let x : Result Reply ObjectsFault = Err e in x) (over c.hold-was.new.acts) b) c.in-Model.is (record { counts = c.in-Err.ensures.counts; did = c.in-Err.ensures.did; few = c.perform-done.ensures.few; looks = c.in-Err.ensures.looks; quiet = c.in-Err.ensures.quiet; wrote = c.in-Err.ensures.wrote }) in
    let q2 : ActedOn t c.args.txn.0 name verb c.perform-done.new.into c.perform-done.new.undo r a (released changes a.begun b) = acted_back t c.args.txn.0 name verb c.perform-done.new.into c.perform-done.new.undo changes a b r c.is_changing-changes.ensures
    (subst (λ (o : Over). Acted t c.args.txn.0 name verb c.perform-done.new.into c.perform-done.new.undo r o b) heldp q0) in
    let d : Over = over c.release.new.acts in
    let e : Over = over c.settle-in-Model.new.acts in
    let l : LaterOn g.E.Engine.recovers t a d = subst (λ (o : Over). LaterOn g.E.Engine.recovers t a o) (sym rel) l2 in
    let q : ActedOn t c.args.txn.0 name verb c.perform-done.new.into c.perform-done.new.undo r a d = subst (λ (o : Over). ActedOn t c.args.txn.0 name verb c.perform-done.new.into c.perform-done.new.undo r a o) (sym rel) q2 in
    let p : Passes changes a d = subst (λ (o : Over). Passes changes a o) (sym rel) (passes_back g.E.Engine.recovers a b t changes (sane c.args.acts.now first) (sane c.perform-done.new.space last) l1 q2.later) in
    let up = given_as changes c.in-Some-settle.ensures.given_up in
    counts_up {T = Reply} {IsDisk = IsObjDisk} g.E.Engine.recovers a d e (store.Space c.in-Some-settle.fault) p none_fails c.in-Some-settle.fault (λ is. is) (λ is. is) up

pub returns-in-Some-settle-clause-log_end : goal.returns-in-Some-settle-clause-log_end
returns-in-Some-settle-clause-log_end g c =
    let a : Over = over c.args.acts.now in
    let t = table_of (λ y. (given.RecordOp-dyn g y).record_meaning y.1) (λ y. (given.RangeOp-dyn g y).range_meaning y.1) c.args.ops.now in
    let name = name_of c.args.op.now in
    let verb = verb_of c.args.op.now in
    let changes = c.is_changing-changes.result in
    let b : Over = over c.perform-done.new.space in
    let first = c.hold-was.ensures.sound in
    let last = c.release.ensures.sound in
    let heldp = held_is changes c.hold-was.result c.args.acts.now c.hold-was.new.acts c.hold-was.ensures.held in
    let rel = released_is changes c.hold-was.result c.args.acts.now c.hold-was.new.acts c.perform-done.new.space c.release.new.acts c.hold-was.ensures.held c.release.ensures.released in
    let begun : (told : a.engine.Told) → a.begun ≡ true = λ told. begun_by g.E.Engine.recovers t c.requires.can.sizes (c.requires.can.from told) a _ (c.requires.can.can told).acts.acting in
    let l1 : LaterOn g.E.Engine.recovers t (held changes a) b = subst (λ (o : Over). LaterOn g.E.Engine.recovers t o b) heldp c.perform-done.ensures.later in
    let l2 : LaterOn g.E.Engine.recovers t a (released changes a.begun b) = later_back g.E.Engine.recovers a b t changes l1 (λ from h told. last.now t from h told)
    (λ e told'. idle_back g.E.Engine.recovers a b t (subst (λ (x : Bool). LaterOn g.E.Engine.recovers t (held x a) b) e l1) last.whole (λ told. (c.requires.can.sizes, c.requires.can.from told, c.requires.can.means told, (c.requires.can.can told).can.idle)) told') in
    let r : Result Reply ObjectsFault = Err (objects.Model c.in-Model.reason) in
    let q0 : Acted t c.args.txn.0 name verb c.perform-done.new.into c.perform-done.new.undo r (over c.hold-was.new.acts) b = subst (λ (e : ObjectsFault). Acted t c.args.txn.0 name verb c.perform-done.new.into c.perform-done.new.undo (let x : Result Reply ObjectsFault = Err e in x) (over c.hold-was.new.acts) b) c.in-Model.is (record { counts = c.in-Err.ensures.counts; did = c.in-Err.ensures.did; few = c.perform-done.ensures.few; looks = c.in-Err.ensures.looks; quiet = c.in-Err.ensures.quiet; wrote = c.in-Err.ensures.wrote }) in
    let q2 : ActedOn t c.args.txn.0 name verb c.perform-done.new.into c.perform-done.new.undo r a (released changes a.begun b) = acted_back t c.args.txn.0 name verb c.perform-done.new.into c.perform-done.new.undo changes a b r c.is_changing-changes.ensures
    (subst (λ (o : Over). Acted t c.args.txn.0 name verb c.perform-done.new.into c.perform-done.new.undo r o b) heldp q0) in
    let d : Over = over c.release.new.acts in
    let e : Over = over c.settle-in-Model.new.acts in
    let l : LaterOn g.E.Engine.recovers t a d = subst (λ (o : Over). LaterOn g.E.Engine.recovers t a o) (sym rel) l2 in
    let q : ActedOn t c.args.txn.0 name verb c.perform-done.new.into c.perform-done.new.undo r a d = subst (λ (o : Over). ActedOn t c.args.txn.0 name verb c.perform-done.new.into c.perform-done.new.undo r a o) (sym rel) q2 in
    let p : Passes changes a d = subst (λ (o : Over). Passes changes a o) (sym rel) (passes_back g.E.Engine.recovers a b t changes (sane c.args.acts.now first) (sane c.perform-done.new.space last) l1 q2.later) in
    let up = given_as changes c.in-Some-settle.ensures.given_up in
    let most : c.tail-end.result ≤ c.tail-start.result + 1073610752 = omega (arith, c.if-end-start-gt-MOST_BYTES.false) in
    subst (λ (x : Bool). IsVerbEnd x a.engine.tail (store.Space c.in-Some-settle.fault)) c.is_changing-changes.ensures (verb_up a d e changes c.in-Some-settle.fault (omega (arith, most, c.tail-start.ensures, c.tail-end.ensures)) up)

pub returns-in-Some-settle-clause-means : goal.returns-in-Some-settle-clause-means
returns-in-Some-settle-clause-means g c z from m =
    let a : Over = over c.args.acts.now in
    let t = table_of (λ y. (given.RecordOp-dyn g y).record_meaning y.1) (λ y. (given.RangeOp-dyn g y).range_meaning y.1) c.args.ops.now in
    let name = name_of c.args.op.now in
    let verb = verb_of c.args.op.now in
    let changes = c.is_changing-changes.result in
    let b : Over = over c.perform-done.new.space in
    let first = c.hold-was.ensures.sound in
    let last = c.release.ensures.sound in
    let heldp = held_is changes c.hold-was.result c.args.acts.now c.hold-was.new.acts c.hold-was.ensures.held in
    let rel = released_is changes c.hold-was.result c.args.acts.now c.hold-was.new.acts c.perform-done.new.space c.release.new.acts c.hold-was.ensures.held c.release.ensures.released in
    let begun : (told : a.engine.Told) → a.begun ≡ true = λ told. begun_by g.E.Engine.recovers t c.requires.can.sizes (c.requires.can.from told) a _ (c.requires.can.can told).acts.acting in
    let l1 : LaterOn g.E.Engine.recovers t (held changes a) b = subst (λ (o : Over). LaterOn g.E.Engine.recovers t o b) heldp c.perform-done.ensures.later in
    let l2 : LaterOn g.E.Engine.recovers t a (released changes a.begun b) = later_back g.E.Engine.recovers a b t changes l1 (λ from h told. last.now t from h told)
    (λ e told'. idle_back g.E.Engine.recovers a b t (subst (λ (x : Bool). LaterOn g.E.Engine.recovers t (held x a) b) e l1) last.whole (λ told. (c.requires.can.sizes, c.requires.can.from told, c.requires.can.means told, (c.requires.can.can told).can.idle)) told') in
    let r : Result Reply ObjectsFault = Err (objects.Model c.in-Model.reason) in
    let q0 : Acted t c.args.txn.0 name verb c.perform-done.new.into c.perform-done.new.undo r (over c.hold-was.new.acts) b = subst (λ (e : ObjectsFault). Acted t c.args.txn.0 name verb c.perform-done.new.into c.perform-done.new.undo (let x : Result Reply ObjectsFault = Err e in x) (over c.hold-was.new.acts) b) c.in-Model.is (record { counts = c.in-Err.ensures.counts; did = c.in-Err.ensures.did; few = c.perform-done.ensures.few; looks = c.in-Err.ensures.looks; quiet = c.in-Err.ensures.quiet; wrote = c.in-Err.ensures.wrote }) in
    let q2 : ActedOn t c.args.txn.0 name verb c.perform-done.new.into c.perform-done.new.undo r a (released changes a.begun b) = acted_back t c.args.txn.0 name verb c.perform-done.new.into c.perform-done.new.undo changes a b r c.is_changing-changes.ensures
    (subst (λ (o : Over). Acted t c.args.txn.0 name verb c.perform-done.new.into c.perform-done.new.undo r o b) heldp q0) in
    let d : Over = over c.release.new.acts in
    let e : Over = over c.settle-in-Model.new.acts in
    let l : LaterOn g.E.Engine.recovers t a d = subst (λ (o : Over). LaterOn g.E.Engine.recovers t a o) (sym rel) l2 in
    let q : ActedOn t c.args.txn.0 name verb c.perform-done.new.into c.perform-done.new.undo r a d = subst (λ (o : Over). ActedOn t c.args.txn.0 name verb c.perform-done.new.into c.perform-done.new.undo r a o) (sym rel) q2 in
    let p : Passes changes a d = subst (λ (o : Over). Passes changes a o) (sym rel) (passes_back g.E.Engine.recovers a b t changes (sane c.args.acts.now first) (sane c.perform-done.new.space last) l1 q2.later) in
    let up = given_as changes c.in-Some-settle.ensures.given_up in
    means_off a e t z from m (up.pages ∙ l.pages) (up.bands ∙ l.bands) refl (up.means t from (l.means from m.since).stands) up.silent

pub returns-in-Some-settle-clause-performs : goal.returns-in-Some-settle-clause-performs
returns-in-Some-settle-clause-performs g c z from m told o act engine shows own can =
    let a : Over = over c.args.acts.now in
    let t = table_of (λ y. (given.RecordOp-dyn g y).record_meaning y.1) (λ y. (given.RangeOp-dyn g y).range_meaning y.1) c.args.ops.now in
    let name = name_of c.args.op.now in
    let verb = verb_of c.args.op.now in
    let changes = c.is_changing-changes.result in
    let b : Over = over c.perform-done.new.space in
    let first = c.hold-was.ensures.sound in
    let last = c.release.ensures.sound in
    let heldp = held_is changes c.hold-was.result c.args.acts.now c.hold-was.new.acts c.hold-was.ensures.held in
    let rel = released_is changes c.hold-was.result c.args.acts.now c.hold-was.new.acts c.perform-done.new.space c.release.new.acts c.hold-was.ensures.held c.release.ensures.released in
    let begun : (told : a.engine.Told) → a.begun ≡ true = λ told. begun_by g.E.Engine.recovers t c.requires.can.sizes (c.requires.can.from told) a _ (c.requires.can.can told).acts.acting in
    let l1 : LaterOn g.E.Engine.recovers t (held changes a) b = subst (λ (o : Over). LaterOn g.E.Engine.recovers t o b) heldp c.perform-done.ensures.later in
    let l2 : LaterOn g.E.Engine.recovers t a (released changes a.begun b) = later_back g.E.Engine.recovers a b t changes l1 (λ from h told. last.now t from h told)
    (λ e told'. idle_back g.E.Engine.recovers a b t (subst (λ (x : Bool). LaterOn g.E.Engine.recovers t (held x a) b) e l1) last.whole (λ told. (c.requires.can.sizes, c.requires.can.from told, c.requires.can.means told, (c.requires.can.can told).can.idle)) told') in
    let r : Result Reply ObjectsFault = Err (objects.Model c.in-Model.reason) in
    let q0 : Acted t c.args.txn.0 name verb c.perform-done.new.into c.perform-done.new.undo r (over c.hold-was.new.acts) b = subst (λ (e : ObjectsFault). Acted t c.args.txn.0 name verb c.perform-done.new.into c.perform-done.new.undo (let x : Result Reply ObjectsFault = Err e in x) (over c.hold-was.new.acts) b) c.in-Model.is (record { counts = c.in-Err.ensures.counts; did = c.in-Err.ensures.did; few = c.perform-done.ensures.few; looks = c.in-Err.ensures.looks; quiet = c.in-Err.ensures.quiet; wrote = c.in-Err.ensures.wrote }) in
    let q2 : ActedOn t c.args.txn.0 name verb c.perform-done.new.into c.perform-done.new.undo r a (released changes a.begun b) = acted_back t c.args.txn.0 name verb c.perform-done.new.into c.perform-done.new.undo changes a b r c.is_changing-changes.ensures
    (subst (λ (o : Over). Acted t c.args.txn.0 name verb c.perform-done.new.into c.perform-done.new.undo r o b) heldp q0) in
    let d : Over = over c.release.new.acts in
    let e : Over = over c.settle-in-Model.new.acts in
    let l : LaterOn g.E.Engine.recovers t a d = subst (λ (o : Over). LaterOn g.E.Engine.recovers t a o) (sym rel) l2 in
    let q : ActedOn t c.args.txn.0 name verb c.perform-done.new.into c.perform-done.new.undo r a d = subst (λ (o : Over). ActedOn t c.args.txn.0 name verb c.perform-done.new.into c.perform-done.new.undo r a o) (sym rel) q2 in
    let p : Passes changes a d = subst (λ (o : Over). Passes changes a o) (sym rel) (passes_back g.E.Engine.recovers a b t changes (sane c.args.acts.now first) (sane c.perform-done.new.space last) l1 q2.later) in
    let up = given_as changes c.in-Some-settle.ensures.given_up in
    (do_changes g.E.Engine.recovers a d t z from m l told e up.disk act shows, tt)

pub returns-in-Space-clause-counts : goal.returns-in-Space-clause-counts
returns-in-Space-clause-counts g c =
    let a : Over = over c.args.acts.now in
    let t = table_of (λ y. (given.RecordOp-dyn g y).record_meaning y.1) (λ y. (given.RangeOp-dyn g y).range_meaning y.1) c.args.ops.now in
    let name = name_of c.args.op.now in
    let verb = verb_of c.args.op.now in
    let changes = c.is_changing-changes.result in
    let b : Over = over c.perform-done.new.space in
    let first = c.hold-was.ensures.sound in
    let last = c.release.ensures.sound in
    let heldp = held_is changes c.hold-was.result c.args.acts.now c.hold-was.new.acts c.hold-was.ensures.held in
    let rel = released_is changes c.hold-was.result c.args.acts.now c.hold-was.new.acts c.perform-done.new.space c.release.new.acts c.hold-was.ensures.held c.release.ensures.released in
    let begun : (told : a.engine.Told) → a.begun ≡ true = λ told. begun_by g.E.Engine.recovers t c.requires.can.sizes (c.requires.can.from told) a _ (c.requires.can.can told).acts.acting in
    let l1 : LaterOn g.E.Engine.recovers t (held changes a) b = subst (λ (o : Over). LaterOn g.E.Engine.recovers t o b) heldp c.perform-done.ensures.later in
    let l2 : LaterOn g.E.Engine.recovers t a (released changes a.begun b) = later_back g.E.Engine.recovers a b t changes l1 (λ from h told. last.now t from h told)
    (λ e told'. idle_back g.E.Engine.recovers a b t (subst (λ (x : Bool). LaterOn g.E.Engine.recovers t (held x a) b) e l1) last.whole (λ told. (c.requires.can.sizes, c.requires.can.from told, c.requires.can.means told, (c.requires.can.can told).can.idle)) told') in
    let r : Result Reply ObjectsFault = Err (objects.Space c.in-Space._fault) in
    let q0 : Acted t c.args.txn.0 name verb c.perform-done.new.into c.perform-done.new.undo r (over c.hold-was.new.acts) b = subst (λ (e : ObjectsFault). Acted t c.args.txn.0 name verb c.perform-done.new.into c.perform-done.new.undo (let x : Result Reply ObjectsFault = Err e in x) (over c.hold-was.new.acts) b) c.in-Space.is (record { counts = c.in-Err.ensures.counts; did = c.in-Err.ensures.did; few = c.perform-done.ensures.few; looks = c.in-Err.ensures.looks; quiet = c.in-Err.ensures.quiet; wrote = c.in-Err.ensures.wrote }) in
    let q2 : ActedOn t c.args.txn.0 name verb c.perform-done.new.into c.perform-done.new.undo r a (released changes a.begun b) = acted_back t c.args.txn.0 name verb c.perform-done.new.into c.perform-done.new.undo changes a b r c.is_changing-changes.ensures
    (subst (λ (o : Over). Acted t c.args.txn.0 name verb c.perform-done.new.into c.perform-done.new.undo r o b) heldp q0) in
    let d : Over = over c.release.new.acts in
    let e : Over = over c.give_up.new.acts in
    let l : LaterOn g.E.Engine.recovers t a d = subst (λ (o : Over). LaterOn g.E.Engine.recovers t a o) (sym rel) l2 in
    let q : ActedOn t c.args.txn.0 name verb c.perform-done.new.into c.perform-done.new.undo r a d = subst (λ (o : Over). ActedOn t c.args.txn.0 name verb c.perform-done.new.into c.perform-done.new.undo r a o) (sym rel) q2 in
    let p : Passes changes a d = subst (λ (o : Over). Passes changes a o) (sym rel) (passes_back g.E.Engine.recovers a b t changes (sane c.args.acts.now first) (sane c.perform-done.new.space last) l1 q2.later) in
    let up = c.give_up.ensures.given_up in
    counts_up {T = Reply} {IsDisk = IsObjDisk} g.E.Engine.recovers a d e (store.Space c.give_up.result) p (λ _. (c.in-Space._fault, q.fails changes c.is_changing-changes.ensures (λ told. l.begun ∙ begun told) c.in-Space._fault refl)) c.give_up.result (λ is. is) (λ is. is) up

pub returns-in-Space-clause-log_end : goal.returns-in-Space-clause-log_end
returns-in-Space-clause-log_end g c =
    let a : Over = over c.args.acts.now in
    let t = table_of (λ y. (given.RecordOp-dyn g y).record_meaning y.1) (λ y. (given.RangeOp-dyn g y).range_meaning y.1) c.args.ops.now in
    let name = name_of c.args.op.now in
    let verb = verb_of c.args.op.now in
    let changes = c.is_changing-changes.result in
    let b : Over = over c.perform-done.new.space in
    let first = c.hold-was.ensures.sound in
    let last = c.release.ensures.sound in
    let heldp = held_is changes c.hold-was.result c.args.acts.now c.hold-was.new.acts c.hold-was.ensures.held in
    let rel = released_is changes c.hold-was.result c.args.acts.now c.hold-was.new.acts c.perform-done.new.space c.release.new.acts c.hold-was.ensures.held c.release.ensures.released in
    let begun : (told : a.engine.Told) → a.begun ≡ true = λ told. begun_by g.E.Engine.recovers t c.requires.can.sizes (c.requires.can.from told) a _ (c.requires.can.can told).acts.acting in
    let l1 : LaterOn g.E.Engine.recovers t (held changes a) b = subst (λ (o : Over). LaterOn g.E.Engine.recovers t o b) heldp c.perform-done.ensures.later in
    let l2 : LaterOn g.E.Engine.recovers t a (released changes a.begun b) = later_back g.E.Engine.recovers a b t changes l1 (λ from h told. last.now t from h told)
    (λ e told'. idle_back g.E.Engine.recovers a b t (subst (λ (x : Bool). LaterOn g.E.Engine.recovers t (held x a) b) e l1) last.whole (λ told. (c.requires.can.sizes, c.requires.can.from told, c.requires.can.means told, (c.requires.can.can told).can.idle)) told') in
    let r : Result Reply ObjectsFault = Err (objects.Space c.in-Space._fault) in
    let q0 : Acted t c.args.txn.0 name verb c.perform-done.new.into c.perform-done.new.undo r (over c.hold-was.new.acts) b = subst (λ (e : ObjectsFault). Acted t c.args.txn.0 name verb c.perform-done.new.into c.perform-done.new.undo (let x : Result Reply ObjectsFault = Err e in x) (over c.hold-was.new.acts) b) c.in-Space.is (record { counts = c.in-Err.ensures.counts; did = c.in-Err.ensures.did; few = c.perform-done.ensures.few; looks = c.in-Err.ensures.looks; quiet = c.in-Err.ensures.quiet; wrote = c.in-Err.ensures.wrote }) in
    let q2 : ActedOn t c.args.txn.0 name verb c.perform-done.new.into c.perform-done.new.undo r a (released changes a.begun b) = acted_back t c.args.txn.0 name verb c.perform-done.new.into c.perform-done.new.undo changes a b r c.is_changing-changes.ensures
    (subst (λ (o : Over). Acted t c.args.txn.0 name verb c.perform-done.new.into c.perform-done.new.undo r o b) heldp q0) in
    let d : Over = over c.release.new.acts in
    let e : Over = over c.give_up.new.acts in
    let l : LaterOn g.E.Engine.recovers t a d = subst (λ (o : Over). LaterOn g.E.Engine.recovers t a o) (sym rel) l2 in
    let q : ActedOn t c.args.txn.0 name verb c.perform-done.new.into c.perform-done.new.undo r a d = subst (λ (o : Over). ActedOn t c.args.txn.0 name verb c.perform-done.new.into c.perform-done.new.undo r a o) (sym rel) q2 in
    let p : Passes changes a d = subst (λ (o : Over). Passes changes a o) (sym rel) (passes_back g.E.Engine.recovers a b t changes (sane c.args.acts.now first) (sane c.perform-done.new.space last) l1 q2.later) in
    let up = c.give_up.ensures.given_up in
    let most : c.tail-end.result ≤ c.tail-start.result + 1073610752 = omega (arith, c.if-end-start-gt-MOST_BYTES.false) in
    subst (λ (x : Bool). IsVerbEnd x a.engine.tail (store.Space c.give_up.result)) c.is_changing-changes.ensures (verb_up a d e changes c.give_up.result (omega (arith, most, c.tail-start.ensures, c.tail-end.ensures)) up)

pub returns-in-Space-clause-means : goal.returns-in-Space-clause-means
returns-in-Space-clause-means g c z from m =
    let a : Over = over c.args.acts.now in
    let t = table_of (λ y. (given.RecordOp-dyn g y).record_meaning y.1) (λ y. (given.RangeOp-dyn g y).range_meaning y.1) c.args.ops.now in
    let name = name_of c.args.op.now in
    let verb = verb_of c.args.op.now in
    let changes = c.is_changing-changes.result in
    let b : Over = over c.perform-done.new.space in
    let first = c.hold-was.ensures.sound in
    let last = c.release.ensures.sound in
    let heldp = held_is changes c.hold-was.result c.args.acts.now c.hold-was.new.acts c.hold-was.ensures.held in
    let rel = released_is changes c.hold-was.result c.args.acts.now c.hold-was.new.acts c.perform-done.new.space c.release.new.acts c.hold-was.ensures.held c.release.ensures.released in
    let begun : (told : a.engine.Told) → a.begun ≡ true = λ told. begun_by g.E.Engine.recovers t c.requires.can.sizes (c.requires.can.from told) a _ (c.requires.can.can told).acts.acting in
    let l1 : LaterOn g.E.Engine.recovers t (held changes a) b = subst (λ (o : Over). LaterOn g.E.Engine.recovers t o b) heldp c.perform-done.ensures.later in
    let l2 : LaterOn g.E.Engine.recovers t a (released changes a.begun b) = later_back g.E.Engine.recovers a b t changes l1 (λ from h told. last.now t from h told)
    (λ e told'. idle_back g.E.Engine.recovers a b t (subst (λ (x : Bool). LaterOn g.E.Engine.recovers t (held x a) b) e l1) last.whole (λ told. (c.requires.can.sizes, c.requires.can.from told, c.requires.can.means told, (c.requires.can.can told).can.idle)) told') in
    let r : Result Reply ObjectsFault = Err (objects.Space c.in-Space._fault) in
    let q0 : Acted t c.args.txn.0 name verb c.perform-done.new.into c.perform-done.new.undo r (over c.hold-was.new.acts) b = subst (λ (e : ObjectsFault). Acted t c.args.txn.0 name verb c.perform-done.new.into c.perform-done.new.undo (let x : Result Reply ObjectsFault = Err e in x) (over c.hold-was.new.acts) b) c.in-Space.is (record { counts = c.in-Err.ensures.counts; did = c.in-Err.ensures.did; few = c.perform-done.ensures.few; looks = c.in-Err.ensures.looks; quiet = c.in-Err.ensures.quiet; wrote = c.in-Err.ensures.wrote }) in
    let q2 : ActedOn t c.args.txn.0 name verb c.perform-done.new.into c.perform-done.new.undo r a (released changes a.begun b) = acted_back t c.args.txn.0 name verb c.perform-done.new.into c.perform-done.new.undo changes a b r c.is_changing-changes.ensures
    (subst (λ (o : Over). Acted t c.args.txn.0 name verb c.perform-done.new.into c.perform-done.new.undo r o b) heldp q0) in
    let d : Over = over c.release.new.acts in
    let e : Over = over c.give_up.new.acts in
    let l : LaterOn g.E.Engine.recovers t a d = subst (λ (o : Over). LaterOn g.E.Engine.recovers t a o) (sym rel) l2 in
    let q : ActedOn t c.args.txn.0 name verb c.perform-done.new.into c.perform-done.new.undo r a d = subst (λ (o : Over). ActedOn t c.args.txn.0 name verb c.perform-done.new.into c.perform-done.new.undo r a o) (sym rel) q2 in
    let p : Passes changes a d = subst (λ (o : Over). Passes changes a o) (sym rel) (passes_back g.E.Engine.recovers a b t changes (sane c.args.acts.now first) (sane c.perform-done.new.space last) l1 q2.later) in
    let up = c.give_up.ensures.given_up in
    means_off a e t z from m (up.pages ∙ l.pages) (up.bands ∙ l.bands) refl (up.means t from (l.means from m.since).stands) up.silent

pub returns-in-Space-clause-performs : goal.returns-in-Space-clause-performs
returns-in-Space-clause-performs g c z from m told o act engine shows own can =
    let a : Over = over c.args.acts.now in
    let t = table_of (λ y. (given.RecordOp-dyn g y).record_meaning y.1) (λ y. (given.RangeOp-dyn g y).range_meaning y.1) c.args.ops.now in
    let name = name_of c.args.op.now in
    let verb = verb_of c.args.op.now in
    let changes = c.is_changing-changes.result in
    let b : Over = over c.perform-done.new.space in
    let first = c.hold-was.ensures.sound in
    let last = c.release.ensures.sound in
    let heldp = held_is changes c.hold-was.result c.args.acts.now c.hold-was.new.acts c.hold-was.ensures.held in
    let rel = released_is changes c.hold-was.result c.args.acts.now c.hold-was.new.acts c.perform-done.new.space c.release.new.acts c.hold-was.ensures.held c.release.ensures.released in
    let begun : (told : a.engine.Told) → a.begun ≡ true = λ told. begun_by g.E.Engine.recovers t c.requires.can.sizes (c.requires.can.from told) a _ (c.requires.can.can told).acts.acting in
    let l1 : LaterOn g.E.Engine.recovers t (held changes a) b = subst (λ (o : Over). LaterOn g.E.Engine.recovers t o b) heldp c.perform-done.ensures.later in
    let l2 : LaterOn g.E.Engine.recovers t a (released changes a.begun b) = later_back g.E.Engine.recovers a b t changes l1 (λ from h told. last.now t from h told)
    (λ e told'. idle_back g.E.Engine.recovers a b t (subst (λ (x : Bool). LaterOn g.E.Engine.recovers t (held x a) b) e l1) last.whole (λ told. (c.requires.can.sizes, c.requires.can.from told, c.requires.can.means told, (c.requires.can.can told).can.idle)) told') in
    let r : Result Reply ObjectsFault = Err (objects.Space c.in-Space._fault) in
    let q0 : Acted t c.args.txn.0 name verb c.perform-done.new.into c.perform-done.new.undo r (over c.hold-was.new.acts) b = subst (λ (e : ObjectsFault). Acted t c.args.txn.0 name verb c.perform-done.new.into c.perform-done.new.undo (let x : Result Reply ObjectsFault = Err e in x) (over c.hold-was.new.acts) b) c.in-Space.is (record { counts = c.in-Err.ensures.counts; did = c.in-Err.ensures.did; few = c.perform-done.ensures.few; looks = c.in-Err.ensures.looks; quiet = c.in-Err.ensures.quiet; wrote = c.in-Err.ensures.wrote }) in
    let q2 : ActedOn t c.args.txn.0 name verb c.perform-done.new.into c.perform-done.new.undo r a (released changes a.begun b) = acted_back t c.args.txn.0 name verb c.perform-done.new.into c.perform-done.new.undo changes a b r c.is_changing-changes.ensures
    (subst (λ (o : Over). Acted t c.args.txn.0 name verb c.perform-done.new.into c.perform-done.new.undo r o b) heldp q0) in
    let d : Over = over c.release.new.acts in
    let e : Over = over c.give_up.new.acts in
    let l : LaterOn g.E.Engine.recovers t a d = subst (λ (o : Over). LaterOn g.E.Engine.recovers t a o) (sym rel) l2 in
    let q : ActedOn t c.args.txn.0 name verb c.perform-done.new.into c.perform-done.new.undo r a d = subst (λ (o : Over). ActedOn t c.args.txn.0 name verb c.perform-done.new.into c.perform-done.new.undo r a o) (sym rel) q2 in
    let p : Passes changes a d = subst (λ (o : Over). Passes changes a o) (sym rel) (passes_back g.E.Engine.recovers a b t changes (sane c.args.acts.now first) (sane c.perform-done.new.space last) l1 q2.later) in
    let up = c.give_up.ensures.given_up in
    (do_changes g.E.Engine.recovers a d t z from m l told e up.disk act shows, tt)

pub returns-then-end-start-gt-MOST_BYTES-clause-counts : goal.returns-then-end-start-gt-MOST_BYTES-clause-counts
returns-then-end-start-gt-MOST_BYTES-clause-counts g c =
    let a : Over = over c.args.acts.now in
    let t = table_of (λ y. (given.RecordOp-dyn g y).record_meaning y.1) (λ y. (given.RangeOp-dyn g y).range_meaning y.1) c.args.ops.now in
    let name = name_of c.args.op.now in
    let verb = verb_of c.args.op.now in
    let changes = c.is_changing-changes.result in
    let b : Over = over c.perform-done.new.space in
    let first = c.hold-was.ensures.sound in
    let last = c.release.ensures.sound in
    let heldp = held_is changes c.hold-was.result c.args.acts.now c.hold-was.new.acts c.hold-was.ensures.held in
    let rel = released_is changes c.hold-was.result c.args.acts.now c.hold-was.new.acts c.perform-done.new.space c.release.new.acts c.hold-was.ensures.held c.release.ensures.released in
    let begun : (told : a.engine.Told) → a.begun ≡ true = λ told. begun_by g.E.Engine.recovers t c.requires.can.sizes (c.requires.can.from told) a _ (c.requires.can.can told).acts.acting in
    let l1 : LaterOn g.E.Engine.recovers t (held changes a) b = subst (λ (o : Over). LaterOn g.E.Engine.recovers t o b) heldp c.perform-done.ensures.later in
    let l2 : LaterOn g.E.Engine.recovers t a (released changes a.begun b) = later_back g.E.Engine.recovers a b t changes l1 (λ from h told. last.now t from h told)
    (λ e told'. idle_back g.E.Engine.recovers a b t (subst (λ (x : Bool). LaterOn g.E.Engine.recovers t (held x a) b) e l1) last.whole (λ told. (c.requires.can.sizes, c.requires.can.from told, c.requires.can.means told, (c.requires.can.can told).can.idle)) told') in
    let r : Result Reply ObjectsFault = c.perform-done.result in
    let q0 : Acted t c.args.txn.0 name verb c.perform-done.new.into c.perform-done.new.undo r (over c.hold-was.new.acts) b = record { counts = c.perform-done.ensures.counts; did = c.perform-done.ensures.did; few = c.perform-done.ensures.few; looks = c.perform-done.ensures.looks; quiet = c.perform-done.ensures.quiet; wrote = c.perform-done.ensures.wrote } in
    let q2 : ActedOn t c.args.txn.0 name verb c.perform-done.new.into c.perform-done.new.undo r a (released changes a.begun b) = acted_back t c.args.txn.0 name verb c.perform-done.new.into c.perform-done.new.undo changes a b r c.is_changing-changes.ensures
    (subst (λ (o : Over). Acted t c.args.txn.0 name verb c.perform-done.new.into c.perform-done.new.undo r o b) heldp q0) in
    let d : Over = over c.release.new.acts in
    let e : Over = over c.report.new.self in
    let l : LaterOn g.E.Engine.recovers t a d = subst (λ (o : Over). LaterOn g.E.Engine.recovers t a o) (sym rel) l2 in
    let s = c.stop.ensures in
    let k = c.report.ensures in
    let same : e.engine ≡ (over c.stop.new.self).engine = ap g.E.Engine.view k.engine in
    let q : ActedOn t c.args.txn.0 name verb c.perform-done.new.into c.perform-done.new.undo r a d = subst (λ (o : Over). ActedOn t c.args.txn.0 name verb c.perform-done.new.into c.perform-done.new.undo r a o) (sym rel) q2 in
    let p : Passes changes a d = subst (λ (o : Over). Passes changes a o) (sym rel) (passes_back g.E.Engine.recovers a b t changes (sane c.args.acts.now first) (sane c.perform-done.new.space last) l1 q2.later) in
    let faults : e.engine.faults ≡ d.engine.faults = ap (λ x. x.faults) same ∙ s.faults in
    let breaks = s.breaks in
    let more = k.later in
    let broken : IsBroken d e = record {
      silent = λ told. s.silent (subst (λ x. (g.E.Engine.view x).Told) k.engine told);
      disk = ap (λ x. x.disk) same ∙ s.disk;
      gate = ap (λ x. x.gate) same ∙ s.gate;
      tail = ap (λ x. x.tail) same ∙ s.tail;
      later = omega (arith, faults, breaks, more);
      risen = λ few. let up : c.stop.new.self.breaks < c.report.new.self.breaks = k.risen (omega (arith, few)) in omega (arith, faults, breaks, up);
    } in
    let never : a.engine.Told → ⊥ = λ told.
    let few = q.few told in
    let grown : d.engine.tail + 16422 * a.engine.records ≤ a.engine.tail + 16422 * d.engine.records = l.grown in
    let over : c.tail-start.result + 1073610752 < c.tail-end.result = omega (arith, c.if-end-start-gt-MOST_BYTES.true) in
    absurd (omega (arith, few, grown, over, c.tail-start.ensures, c.tail-end.ensures)) in
    counts_never {T = Reply} {IsDisk = IsObjDisk} g.E.Engine.recovers a d e (store.Space c.report.result) never p broken (subst IsDiskFault (sym k.answer) tt)

pub returns-then-end-start-gt-MOST_BYTES-clause-means : goal.returns-then-end-start-gt-MOST_BYTES-clause-means
returns-then-end-start-gt-MOST_BYTES-clause-means g c z from m =
    let a : Over = over c.args.acts.now in
    let t = table_of (λ y. (given.RecordOp-dyn g y).record_meaning y.1) (λ y. (given.RangeOp-dyn g y).range_meaning y.1) c.args.ops.now in
    let name = name_of c.args.op.now in
    let verb = verb_of c.args.op.now in
    let changes = c.is_changing-changes.result in
    let b : Over = over c.perform-done.new.space in
    let first = c.hold-was.ensures.sound in
    let last = c.release.ensures.sound in
    let heldp = held_is changes c.hold-was.result c.args.acts.now c.hold-was.new.acts c.hold-was.ensures.held in
    let rel = released_is changes c.hold-was.result c.args.acts.now c.hold-was.new.acts c.perform-done.new.space c.release.new.acts c.hold-was.ensures.held c.release.ensures.released in
    let begun : (told : a.engine.Told) → a.begun ≡ true = λ told. begun_by g.E.Engine.recovers t c.requires.can.sizes (c.requires.can.from told) a _ (c.requires.can.can told).acts.acting in
    let l1 : LaterOn g.E.Engine.recovers t (held changes a) b = subst (λ (o : Over). LaterOn g.E.Engine.recovers t o b) heldp c.perform-done.ensures.later in
    let l2 : LaterOn g.E.Engine.recovers t a (released changes a.begun b) = later_back g.E.Engine.recovers a b t changes l1 (λ from h told. last.now t from h told)
    (λ e told'. idle_back g.E.Engine.recovers a b t (subst (λ (x : Bool). LaterOn g.E.Engine.recovers t (held x a) b) e l1) last.whole (λ told. (c.requires.can.sizes, c.requires.can.from told, c.requires.can.means told, (c.requires.can.can told).can.idle)) told') in
    let r : Result Reply ObjectsFault = c.perform-done.result in
    let q0 : Acted t c.args.txn.0 name verb c.perform-done.new.into c.perform-done.new.undo r (over c.hold-was.new.acts) b = record { counts = c.perform-done.ensures.counts; did = c.perform-done.ensures.did; few = c.perform-done.ensures.few; looks = c.perform-done.ensures.looks; quiet = c.perform-done.ensures.quiet; wrote = c.perform-done.ensures.wrote } in
    let q2 : ActedOn t c.args.txn.0 name verb c.perform-done.new.into c.perform-done.new.undo r a (released changes a.begun b) = acted_back t c.args.txn.0 name verb c.perform-done.new.into c.perform-done.new.undo changes a b r c.is_changing-changes.ensures
    (subst (λ (o : Over). Acted t c.args.txn.0 name verb c.perform-done.new.into c.perform-done.new.undo r o b) heldp q0) in
    let d : Over = over c.release.new.acts in
    let e : Over = over c.report.new.self in
    let l : LaterOn g.E.Engine.recovers t a d = subst (λ (o : Over). LaterOn g.E.Engine.recovers t a o) (sym rel) l2 in
    let s = c.stop.ensures in
    let k = c.report.ensures in
    let same : e.engine ≡ (over c.stop.new.self).engine = ap g.E.Engine.view k.engine in
    let pages : length e.maps.pages ≡ length d.maps.pages = (λ i. length (k.maps i).pages) ∙ (λ i. length (s.maps i).pages) in
    let bands : length e.maps.bands ≡ length d.maps.bands = (λ i. length (k.maps i).bands) ∙ (λ i. length (s.maps i).bands) in
    means_off a e t z from m (pages ∙ l.pages) (bands ∙ l.bands) refl
    (subst (λ x. g.E.Engine.means x t from) (sym k.engine) (s.means t from (l.means from m.since).stands))
    (λ told. s.silent (subst (λ x. (g.E.Engine.view x).Told) k.engine told))

pub returns-then-end-start-gt-MOST_BYTES-clause-performs : goal.returns-then-end-start-gt-MOST_BYTES-clause-performs
returns-then-end-start-gt-MOST_BYTES-clause-performs g c z from m told o act engine shows own can =
    let a : Over = over c.args.acts.now in
    let t = table_of (λ y. (given.RecordOp-dyn g y).record_meaning y.1) (λ y. (given.RangeOp-dyn g y).range_meaning y.1) c.args.ops.now in
    let name = name_of c.args.op.now in
    let verb = verb_of c.args.op.now in
    let changes = c.is_changing-changes.result in
    let b : Over = over c.perform-done.new.space in
    let first = c.hold-was.ensures.sound in
    let last = c.release.ensures.sound in
    let heldp = held_is changes c.hold-was.result c.args.acts.now c.hold-was.new.acts c.hold-was.ensures.held in
    let rel = released_is changes c.hold-was.result c.args.acts.now c.hold-was.new.acts c.perform-done.new.space c.release.new.acts c.hold-was.ensures.held c.release.ensures.released in
    let begun : (told : a.engine.Told) → a.begun ≡ true = λ told. begun_by g.E.Engine.recovers t c.requires.can.sizes (c.requires.can.from told) a _ (c.requires.can.can told).acts.acting in
    let l1 : LaterOn g.E.Engine.recovers t (held changes a) b = subst (λ (o : Over). LaterOn g.E.Engine.recovers t o b) heldp c.perform-done.ensures.later in
    let l2 : LaterOn g.E.Engine.recovers t a (released changes a.begun b) = later_back g.E.Engine.recovers a b t changes l1 (λ from h told. last.now t from h told)
    (λ e told'. idle_back g.E.Engine.recovers a b t (subst (λ (x : Bool). LaterOn g.E.Engine.recovers t (held x a) b) e l1) last.whole (λ told. (c.requires.can.sizes, c.requires.can.from told, c.requires.can.means told, (c.requires.can.can told).can.idle)) told') in
    let r : Result Reply ObjectsFault = c.perform-done.result in
    let q0 : Acted t c.args.txn.0 name verb c.perform-done.new.into c.perform-done.new.undo r (over c.hold-was.new.acts) b = record { counts = c.perform-done.ensures.counts; did = c.perform-done.ensures.did; few = c.perform-done.ensures.few; looks = c.perform-done.ensures.looks; quiet = c.perform-done.ensures.quiet; wrote = c.perform-done.ensures.wrote } in
    let q2 : ActedOn t c.args.txn.0 name verb c.perform-done.new.into c.perform-done.new.undo r a (released changes a.begun b) = acted_back t c.args.txn.0 name verb c.perform-done.new.into c.perform-done.new.undo changes a b r c.is_changing-changes.ensures
    (subst (λ (o : Over). Acted t c.args.txn.0 name verb c.perform-done.new.into c.perform-done.new.undo r o b) heldp q0) in
    let d : Over = over c.release.new.acts in
    let e : Over = over c.report.new.self in
    let l : LaterOn g.E.Engine.recovers t a d = subst (λ (o : Over). LaterOn g.E.Engine.recovers t a o) (sym rel) l2 in
    let s = c.stop.ensures in
    let k = c.report.ensures in
    let same : e.engine ≡ (over c.stop.new.self).engine = ap g.E.Engine.view k.engine in
    (do_changes g.E.Engine.recovers a d t z from m l told e (ap (λ x. x.disk) same ∙ s.disk) act shows, tt)

pub release-requires : goal.release-requires
release-requires g c = record {
  on = λ e.
      let a : Over = over c.args.acts.now in
      let changes = c.is_changing-changes.result in
      let t = table_of (λ y. (given.RecordOp-dyn g y).record_meaning y.1) (λ y. (given.RangeOp-dyn g y).range_meaning y.1) c.args.ops.now in
      let b : Over = over c.perform-done.new.space in
      let heldp = held_is changes c.hold-was.result c.args.acts.now c.hold-was.new.acts c.hold-was.ensures.held in
      let l1 : LaterOn g.E.Engine.recovers t (held changes a) b = subst (λ (o : Over). LaterOn g.E.Engine.recovers t o b) heldp c.perform-done.ensures.later in
      goes_back g.E.Engine.recovers a b t (subst (λ (x : Bool). LaterOn g.E.Engine.recovers t (held x a) b) e l1) (λ w. g.met.E.Engine.told_whole _ w)
      (λ told. (c.requires.can.sizes, c.requires.can.from told, c.requires.can.means told)) c.hold-was.result;
}
