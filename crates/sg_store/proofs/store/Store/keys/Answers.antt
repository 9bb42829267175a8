use Rattle.std.proofs.Common.{ℕ, [], Ok, Err, sym, refl, subst, ◌∙◌, ap}
use Rattle.sg_model.specs.Verb.Op.{On}
use Rattle.sg_model.specs.Verb.Verb.{Keys}
use Rattle.sg_store.specs.Asks.{ShowsSome, IsRunning}
use Rattle.sg_store.specs.Calls.{Goes, Lists}
use Rattle.sg_base.specs.Ends.{HasRisen}
use Rattle.sg_store.specs.Verbs.{HasKeys, IsUnlisted}
use Rattle.sg_store.specs.Engine.{led, IsListRead, IsListDisk}
use Rattle.sg_store.specs.Seen.{core_of}
use Rattle.sg_store.proofs.Doing as doing
use Rattle.sg_store.proofs.Listed as listing
use Rattle.sg_store.proofs.Resting as resting
use Rattle.sg_store.proofs.Serving as serving
use Rattle.sg_store.proofs.Causing as causing
use Rattle.sg_store.proofs.Heeding as heeding
use Rattle.sg_store.specs.Store.{Core}
use Rattle.sg_store.proofs.Accounting as accounting
use Rattle.sg_store.proofs.Still.{left_same, left_rested, not_halted}
use Rattle.sg_store.proofs.store.Store.keys.Goals as goal

pub returns-then-is_some-clause-lists : goal.returns-then-is_some-clause-lists
returns-then-is_some-clause-lists g c t z from m told x lawful shows =
    let old = led t z from (g.E.Engine.view c.args.self.now.engine) in
    doing.do_stopped t (g.E.Engine.basis z) lawful old (core_of c.args.self.now) x c.args.txn.0 (On c.args.name Keys) shows [] old.tail old.faults (sym c.is_some.ensures ∙ c.if-is_some.true)

pub returns-then-not-is_live-clause-lists : goal.returns-then-not-is_live-clause-lists
returns-then-not-is_live-clause-lists g c t z from m told x lawful shows =
    let old = led t z from (g.E.Engine.view c.args.self.now.engine) in
    doing.do_none t (g.E.Engine.basis z) lawful old (core_of c.args.self.now) x c.args.txn.0 (On c.args.name Keys) shows [] (sym c.is_some.ensures ∙ c.if-is_some.false) old.tail old.faults (sym c.is_live.ensures ∙ c.if-not-is_live.true)

pub hold_keys-requires-clause-can : goal.hold_keys-requires-clause-can
hold_keys-requires-clause-can g c =
    let s = c.requires.serves in
    serving.asked_of s.0 (g.E.Engine.view c.args.self.now.engine) (ShowsSome (core_of c.args.self.now) s.0) (IsRunning c.args.self.now.txns) (λ b v h. serving.runs_some s.0 b v (core_of c.args.self.now) (sym c.is_some.ensures ∙ c.if-is_some.false) h) s.1

pub returns-in-Err-clause-lists : goal.returns-in-Err-clause-lists
returns-in-Err-clause-lists g c t z from m told x lawful shows =
    let b = g.E.Engine.basis z in
    let old = led t z from (g.E.Engine.view c.args.self.now.engine) in
    let k = core_of c.args.self.now in
    let u = c.args.txn.0 in
    let stop = sym c.is_some.ensures ∙ c.if-is_some.false in
    let is = sym c.is_live.ensures ∙ c.if-not-is_live.false in
    let runs = doing.runs t b lawful old k x u (On c.args.name Keys) shows [] stop in
    let live = doing.live t b lawful old k x u (On c.args.name Keys) shows [] stop is in
    let stays = c.hold_keys.ensures.stays t z from m told x lawful runs.is_kept in
    doing.do_unheld t b lawful old k x u (On c.args.name Keys) shows [] stop is (led t z from (g.E.Engine.view c.hold_keys.new.self.engine)) (core_of c.hold_keys.new.self) (led t z from (g.E.Engine.view c.hold_keys.new.self.engine)).tail c.in-Err.why stays (c.in-Err.ensures.holds t z from m told x lawful runs.is_kept runs.held live)

pub keys-requires : goal.keys-requires
keys-requires g c =
    let s = c.requires.serves in
    record {
      can = record {
        by = s.0;
        sizes = s.1.sizes;
        from = λ tells. s.1.from (c.hold_keys.ensures.told tells);
        means = λ tells. c.hold_keys.ensures.means s.0 s.1.sizes (s.1.from (c.hold_keys.ensures.told tells)) (s.1.means (c.hold_keys.ensures.told tells));
        can = λ tells.
            (let told = c.hold_keys.ensures.told tells in
            let h = s.1.can told in
            let t = s.0 in
            let z = s.1.sizes in
            let from = (s.1.from told) in
            let m = (s.1.means told) in
            let x = h.run in
            let lawful = h.lawful in
            let shows = h.shows in
            let b = g.E.Engine.basis z in
            let old = led t z from (g.E.Engine.view c.args.self.now.engine) in
            let k = core_of c.args.self.now in
            let u = c.args.txn.0 in
            let stop = sym c.is_some.ensures ∙ c.if-is_some.false in
            let is = sym c.is_live.ensures ∙ c.if-not-is_live.false in
            let runs = doing.runs t b lawful old k x u (On c.args.name Keys) shows [] stop in
            let live = doing.live t b lawful old k x u (On c.args.name Keys) shows [] stop is in
            let stays = c.hold_keys.ensures.stays t z from m told x lawful runs.is_kept in
            let held = c.in-Ok.ensures.holds t z from m told x lawful runs.is_kept runs.held live in
            let mid = led t z from (g.E.Engine.view c.hold_keys.new.self.engine) in
            record {
              rest = record { engine = held.0.engine; idle = held.0.idle };
              reading = listing.listed t b lawful old k x u (On c.args.name Keys) shows stop is mid (core_of c.hold_keys.new.self) stays c.hold_keys.ensures.later held;
              reads = listing.reads_listed t b lawful old k x u (On c.args.name Keys) shows stop is mid (core_of c.hold_keys.new.self) stays c.hold_keys.ensures.later held;
            });
      };
    }

pub returns-in-Ok-Ok-clause-lists : goal.returns-in-Ok-Ok-clause-lists
returns-in-Ok-Ok-clause-lists g c t z from m told x lawful shows =
    let b = g.E.Engine.basis z in
    let old = led t z from (g.E.Engine.view c.args.self.now.engine) in
    let k = core_of c.args.self.now in
    let u = c.args.txn.0 in
    let stop = sym c.is_some.ensures ∙ c.if-is_some.false in
    let is = sym c.is_live.ensures ∙ c.if-not-is_live.false in
    let runs = doing.runs t b lawful old k x u (On c.args.name Keys) shows [] stop in
    let live = doing.live t b lawful old k x u (On c.args.name Keys) shows [] stop is in
    let stays = c.hold_keys.ensures.stays t z from m told x lawful runs.is_kept in
    let held = c.in-Ok.ensures.holds t z from m told x lawful runs.is_kept runs.held live in
    let mid = led t z from (g.E.Engine.view c.hold_keys.new.self.engine) in
    let m1 = core_of c.hold_keys.new.self in
    let new = led t z from (g.E.Engine.view c.keys.new.self) in
    let o = listing.listed t b lawful old k x u (On c.args.name Keys) shows stop is mid m1 stays c.hold_keys.ensures.later held in
    let r = c.in-Ok-Ok.ensures.lists t z from (c.hold_keys.ensures.means t z from m) (c.in-Ok.ensures.tells told) o held.0.engine (listing.reads_listed t b lawful old k x u (On c.args.name Keys) shows stop is mid m1 stays c.hold_keys.ensures.later held) in
    listing.has_words t b lawful old k x u (On c.args.name Keys) shows stop is mid m1 stays c.hold_keys.ensures.later held new c.in-Ok-Ok.keys.items refl r.0 (subst (λ q. HasKeys t b mid new o c.args.name (Ok q)) c.in-Ok-Ok.field-0-is r.1)

pub returns-in-Ok-Err-clause-lists : goal.returns-in-Ok-Err-clause-lists
returns-in-Ok-Err-clause-lists g c t z from m told x lawful shows =
    let b = g.E.Engine.basis z in
    let old = led t z from (g.E.Engine.view c.args.self.now.engine) in
    let k = core_of c.args.self.now in
    let u = c.args.txn.0 in
    let stop = sym c.is_some.ensures ∙ c.if-is_some.false in
    let is = sym c.is_live.ensures ∙ c.if-not-is_live.false in
    let runs = doing.runs t b lawful old k x u (On c.args.name Keys) shows [] stop in
    let live = doing.live t b lawful old k x u (On c.args.name Keys) shows [] stop is in
    let stays = c.hold_keys.ensures.stays t z from m told x lawful runs.is_kept in
    let held = c.in-Ok.ensures.holds t z from m told x lawful runs.is_kept runs.held live in
    let mid = led t z from (g.E.Engine.view c.hold_keys.new.self.engine) in
    let m1 = core_of c.hold_keys.new.self in
    let new = led t z from (g.E.Engine.view c.keys.new.self) in
    let o = listing.listed t b lawful old k x u (On c.args.name Keys) shows stop is mid m1 stays c.hold_keys.ensures.later held in
    let r = c.in-Ok-Err.ensures.lists t z from (c.hold_keys.ensures.means t z from m) (c.in-Ok.ensures.tells told) o held.0.engine (listing.reads_listed t b lawful old k x u (On c.args.name Keys) shows stop is mid m1 stays c.hold_keys.ensures.later held) in
    listing.has_reason t b lawful old k x u (On c.args.name Keys) shows stop is mid m1 stays c.hold_keys.ensures.later held new c.in-Ok-Err.reason r.0 (subst (λ q. HasKeys t b mid new o c.args.name (Ok q)) c.in-Ok-Err.field-0-is r.1)

pub returns-in-Err-Memory-clause-lists : goal.returns-in-Err-Memory-clause-lists
returns-in-Err-Memory-clause-lists g c t z from m told x lawful shows =
    let b = g.E.Engine.basis z in
    let old = led t z from (g.E.Engine.view c.args.self.now.engine) in
    let k = core_of c.args.self.now in
    let u = c.args.txn.0 in
    let stop = sym c.is_some.ensures ∙ c.if-is_some.false in
    let is = sym c.is_live.ensures ∙ c.if-not-is_live.false in
    let runs = doing.runs t b lawful old k x u (On c.args.name Keys) shows [] stop in
    let live = doing.live t b lawful old k x u (On c.args.name Keys) shows [] stop is in
    let stays = c.hold_keys.ensures.stays t z from m told x lawful runs.is_kept in
    let held = c.in-Ok.ensures.holds t z from m told x lawful runs.is_kept runs.held live in
    let mid = led t z from (g.E.Engine.view c.hold_keys.new.self.engine) in
    let m1 = core_of c.hold_keys.new.self in
    let new = led t z from (g.E.Engine.view c.keys.new.self) in
    let o = listing.listed t b lawful old k x u (On c.args.name Keys) shows stop is mid m1 stays c.hold_keys.ensures.later held in
    let r = c.in-Err-Memory.ensures.lists t z from (c.hold_keys.ensures.means t z from m) (c.in-Ok.ensures.tells told) o held.0.engine (listing.reads_listed t b lawful old k x u (On c.args.name Keys) shows stop is mid m1 stays c.hold_keys.ensures.later held) in
    listing.lacks_memory t b lawful old k x u (On c.args.name Keys) shows stop is mid m1 stays c.hold_keys.ensures.later held new tt r.0 (subst (IsUnlisted t b mid new o (On c.args.name Keys)) c.in-Err-Memory.field-0-is r.1)

pub returns-in-Err-Space-clause-lists : goal.returns-in-Err-Space-clause-lists
returns-in-Err-Space-clause-lists g c t z from m told x lawful shows =
    let b = g.E.Engine.basis z in
    let old = led t z from (g.E.Engine.view c.args.self.now.engine) in
    let k = core_of c.args.self.now in
    let u = c.args.txn.0 in
    let stop = sym c.is_some.ensures ∙ c.if-is_some.false in
    let is = sym c.is_live.ensures ∙ c.if-not-is_live.false in
    let runs = doing.runs t b lawful old k x u (On c.args.name Keys) shows [] stop in
    let live = doing.live t b lawful old k x u (On c.args.name Keys) shows [] stop is in
    let stays = c.hold_keys.ensures.stays t z from m told x lawful runs.is_kept in
    let held = c.in-Ok.ensures.holds t z from m told x lawful runs.is_kept runs.held live in
    let mid = led t z from (g.E.Engine.view c.hold_keys.new.self.engine) in
    let m1 = core_of c.hold_keys.new.self in
    let new = led t z from (g.E.Engine.view c.keys.new.self) in
    let o = listing.listed t b lawful old k x u (On c.args.name Keys) shows stop is mid m1 stays c.hold_keys.ensures.later held in
    let r = c.keys.ensures.lists t z from (c.hold_keys.ensures.means t z from m) (c.in-Ok.ensures.tells told) o held.0.engine (listing.reads_listed t b lawful old k x u (On c.args.name Keys) shows stop is mid m1 stays c.hold_keys.ensures.later held) in
    subst (λ e. Goes t b old x (Lists {A = ℕ} t old.tail (led t z from (g.E.Engine.view e)).tail old.faults (led t z from (g.E.Engine.view e)).faults u (On c.args.name Keys) x (Err c.halt.result)) (led t z from (g.E.Engine.view e)) (core_of c.halt.new.self)) (sym c.halt.ensures.engine)
    (listing.has_failed t b lawful old k x u (On c.args.name Keys) shows stop is mid m1 stays c.hold_keys.ensures.later held new (core_of c.halt.new.self) c.halt.result c.in-Err-Space.fault c.halt.ensures.answer (subst IsListRead c.in-Err-Space.field-0-is c.in-Err-Space.ensures.reads) (subst (λ q. IsListDisk q → HasRisen mid.faults new.faults) c.in-Err-Space.field-0-is c.in-Err-Space.ensures.counts.failed) c.halt.ensures.core r.0)

pub returns-in-Err-clause-serves : goal.returns-in-Err-clause-serves
returns-in-Err-clause-serves g c t s =
    serving.serves_on t (g.E.Engine.view c.args.self.now.engine) (g.E.Engine.view c.hold_keys.new.self.engine) (core_of c.args.self.now) (core_of c.hold_keys.new.self) _ (λ z from m. c.hold_keys.ensures.means t z from m) (λ h. c.hold_keys.ensures.told h)
    (λ z from m tells x lawful shows. returns-in-Err-clause-lists g c t z from m tells x lawful shows) s

pub returns-in-Ok-Ok-clause-serves : goal.returns-in-Ok-Ok-clause-serves
returns-in-Ok-Ok-clause-serves g c t s =
    serving.serves_on t (g.E.Engine.view c.args.self.now.engine) (g.E.Engine.view c.keys.new.self) (core_of c.args.self.now) (core_of c.hold_keys.new.self) _ (λ z from m. c.keys.ensures.means t z from (c.hold_keys.ensures.means t z from m)) (λ h. c.hold_keys.ensures.told (c.keys.ensures.counts.told h))
    (λ z from m tells x lawful shows. returns-in-Ok-Ok-clause-lists g c t z from m tells x lawful shows) s

pub returns-in-Ok-Err-clause-serves : goal.returns-in-Ok-Err-clause-serves
returns-in-Ok-Err-clause-serves g c t s =
    serving.serves_on t (g.E.Engine.view c.args.self.now.engine) (g.E.Engine.view c.keys.new.self) (core_of c.args.self.now) (core_of c.hold_keys.new.self) _ (λ z from m. c.keys.ensures.means t z from (c.hold_keys.ensures.means t z from m)) (λ h. c.hold_keys.ensures.told (c.keys.ensures.counts.told h))
    (λ z from m tells x lawful shows. returns-in-Ok-Err-clause-lists g c t z from m tells x lawful shows) s

pub returns-in-Err-Memory-clause-serves : goal.returns-in-Err-Memory-clause-serves
returns-in-Err-Memory-clause-serves g c t s =
    serving.serves_on t (g.E.Engine.view c.args.self.now.engine) (g.E.Engine.view c.keys.new.self) (core_of c.args.self.now) (core_of c.hold_keys.new.self) _ (λ z from m. c.keys.ensures.means t z from (c.hold_keys.ensures.means t z from m)) (λ h. c.hold_keys.ensures.told (c.keys.ensures.counts.told h))
    (λ z from m tells x lawful shows. returns-in-Err-Memory-clause-lists g c t z from m tells x lawful shows) s

pub returns-in-Err-Space-clause-serves : goal.returns-in-Err-Space-clause-serves
returns-in-Err-Space-clause-serves g c t s =
    serving.serves_on t (g.E.Engine.view c.args.self.now.engine) (g.E.Engine.view c.halt.new.self.engine) (core_of c.args.self.now) (core_of c.halt.new.self) _ (λ z from m. subst (λ e. (g.E.Engine.view e).means t z from) (sym c.halt.ensures.engine) (c.keys.ensures.means t z from (c.hold_keys.ensures.means t z from m))) (λ h. c.hold_keys.ensures.told (c.keys.ensures.counts.told (subst (λ e. (g.E.Engine.view e).Told) c.halt.ensures.engine h)))
    (λ z from m tells x lawful shows. returns-in-Err-Space-clause-lists g c t z from m tells x lawful shows) s

pub returns-in-Ok-Ok-clause-rests : goal.returns-in-Ok-Ok-clause-rests
returns-in-Ok-Ok-clause-rests g c t live objects durable s =
    let old = g.E.Engine.view c.args.self.now.engine in
    let new = g.E.Engine.view c.keys.new.self in
    resting.listed_if t old new (core_of c.args.self.now) (core_of c.hold_keys.new.self) live objects durable old.tail new.tail old.faults new.faults c.args.txn.0 (On c.args.name Keys)
    (λ z from m. c.keys.ensures.means t z from (c.hold_keys.ensures.means t z from m)) (λ h. c.hold_keys.ensures.told (c.keys.ensures.counts.told h)) s (Ok c.in-Ok-Ok.keys)
    (λ z from m tells x lawful shows. returns-in-Ok-Ok-clause-lists g c t z from m tells x lawful shows)

pub returns-then-is_some-clause-causes : goal.returns-then-is_some-clause-causes
returns-then-is_some-clause-causes g c = (sym c.is_some.ensures ∙ c.if-is_some.true, refl)

pub returns-then-not-is_live-clause-causes : goal.returns-then-not-is_live-clause-causes
returns-then-not-is_live-clause-causes g c = ((causing.none_of _ (sym c.is_some.ensures ∙ c.if-is_some.false)), sym c.is_live.ensures ∙ c.if-not-is_live.true, refl)

pub returns-in-Err-clause-causes : goal.returns-in-Err-clause-causes
returns-in-Err-clause-causes g c = causing.unheld_lists (g.E.Engine.view c.args.self.now.engine) (g.E.Engine.view c.hold_keys.new.self.engine) (core_of c.args.self.now) (core_of c.hold_keys.new.self) c.args.txn.0 (causing.none_of _ (sym c.is_some.ensures ∙ c.if-is_some.false)) (sym c.is_live.ensures ∙ c.if-not-is_live.false) c.in-Err.why c.in-Err.ensures.causes

pub returns-in-Ok-Ok-clause-causes : goal.returns-in-Ok-Ok-clause-causes
returns-in-Ok-Ok-clause-causes g c = ((causing.none_of _ (sym c.is_some.ensures ∙ c.if-is_some.false)), (sym c.is_live.ensures ∙ c.if-not-is_live.false), c.in-Ok.ensures.causes)

pub returns-in-Ok-Err-clause-causes : goal.returns-in-Ok-Err-clause-causes
returns-in-Ok-Err-clause-causes g c = ((causing.none_of _ (sym c.is_some.ensures ∙ c.if-is_some.false)), (sym c.is_live.ensures ∙ c.if-not-is_live.false), c.in-Ok.ensures.causes)

pub returns-in-Err-Memory-clause-causes : goal.returns-in-Err-Memory-clause-causes
returns-in-Err-Memory-clause-causes g c = ((causing.none_of _ (sym c.is_some.ensures ∙ c.if-is_some.false)), (sym c.is_live.ensures ∙ c.if-not-is_live.false), c.in-Ok.ensures.causes)

pub returns-in-Err-Space-clause-causes : goal.returns-in-Err-Space-clause-causes
returns-in-Err-Space-clause-causes g c =
    causing.listed_failed (g.E.Engine.view c.args.self.now.engine) (g.E.Engine.view c.hold_keys.new.self.engine) (g.E.Engine.view c.halt.new.self.engine) (core_of c.args.self.now) (core_of c.hold_keys.new.self) (core_of c.halt.new.self) c.args.txn.0 (causing.none_of _ (sym c.is_some.ensures ∙ c.if-is_some.false)) (sym c.is_live.ensures ∙ c.if-not-is_live.false) c.in-Ok.ensures.causes c.hold_keys.ensures.later c.in-Err-Space.fault c.halt.result c.halt.ensures.answer c.halt.ensures.core
    (λ d. subst (λ e. HasRisen (g.E.Engine.view c.hold_keys.new.self.engine).faults (g.E.Engine.view e).faults) (sym c.halt.ensures.engine) (subst (λ q. IsListDisk q → HasRisen (g.E.Engine.view c.hold_keys.new.self.engine).faults (g.E.Engine.view c.keys.new.self).faults) c.in-Err-Space.field-0-is c.in-Err-Space.ensures.counts.failed d)) (subst IsListRead c.in-Err-Space.field-0-is c.in-Err-Space.ensures.reads)

pub returns-then-is_some-clause-asks : goal.returns-then-is_some-clause-asks
returns-then-is_some-clause-asks g c = λ e. refl

pub returns-then-not-is_live-clause-asks : goal.returns-then-not-is_live-clause-asks
returns-then-not-is_live-clause-asks g c = λ e. refl

pub returns-in-Err-clause-asks : goal.returns-in-Err-clause-asks
returns-in-Err-clause-asks g c = λ asks. causing.unheld_asks (g.E.Engine.view c.args.self.now.engine) (g.E.Engine.view c.hold_keys.new.self.engine) (core_of c.args.self.now) (core_of c.hold_keys.new.self) c.args.txn.0 (causing.none_of _ (sym c.is_some.ensures ∙ c.if-is_some.false)) (sym c.is_live.ensures ∙ c.if-not-is_live.false) _ c.in-Err.why c.in-Err.ensures.causes asks

pub returns-in-Err-Space-clause-asks : goal.returns-in-Err-Space-clause-asks
returns-in-Err-Space-clause-asks g c = λ asks. causing.not_early _ c.in-Err-Space.fault c.halt.result c.halt.ensures.answer asks

pub returns-then-is_some-clause-heeds : goal.returns-then-is_some-clause-heeds
returns-then-is_some-clause-heeds g c =
    heeding.heeds_none c.args.self.now.stop (g.E.Engine.view c.args.self.now.engine)

pub returns-then-not-is_live-clause-heeds : goal.returns-then-not-is_live-clause-heeds
returns-then-not-is_live-clause-heeds g c =
    heeding.heeds_none c.args.self.now.stop (g.E.Engine.view c.args.self.now.engine)

pub returns-in-Err-clause-heeds : goal.returns-in-Err-clause-heeds
returns-in-Err-clause-heeds g c =
    c.hold_keys.ensures.heeds (causing.none_of _ (sym c.is_some.ensures ∙ c.if-is_some.false))

pub returns-in-Ok-Ok-clause-heeds : goal.returns-in-Ok-Ok-clause-heeds
returns-in-Ok-Ok-clause-heeds g c =
    heeding.heeds_then c.args.self.now.stop c.hold_keys.new.self.stop c.hold_keys.new.self.stop (g.E.Engine.view c.args.self.now.engine) (g.E.Engine.view c.hold_keys.new.self.engine) (g.E.Engine.view c.keys.new.self) (c.hold_keys.ensures.heeds (causing.none_of _ (sym c.is_some.ensures ∙ c.if-is_some.false)))
    (heeding.heeds_well c.hold_keys.new.self.stop (g.E.Engine.view c.hold_keys.new.self.engine) (g.E.Engine.view c.keys.new.self) c.in-Ok-Ok.ensures.counts.quiet c.keys.ensures.counts.tail c.in-Ok-Ok.ensures.counts.tells
    (accounting.unfailed_done (g.E.Engine.view c.hold_keys.new.self.engine) (g.E.Engine.view c.keys.new.self) _ c.in-Ok-Ok.ensures.counts.accounts))

pub returns-in-Ok-Err-clause-heeds : goal.returns-in-Ok-Err-clause-heeds
returns-in-Ok-Err-clause-heeds g c =
    heeding.heeds_then c.args.self.now.stop c.hold_keys.new.self.stop c.hold_keys.new.self.stop (g.E.Engine.view c.args.self.now.engine) (g.E.Engine.view c.hold_keys.new.self.engine) (g.E.Engine.view c.keys.new.self) (c.hold_keys.ensures.heeds (causing.none_of _ (sym c.is_some.ensures ∙ c.if-is_some.false)))
    (heeding.heeds_well c.hold_keys.new.self.stop (g.E.Engine.view c.hold_keys.new.self.engine) (g.E.Engine.view c.keys.new.self) c.in-Ok-Err.ensures.counts.quiet c.keys.ensures.counts.tail c.in-Ok-Err.ensures.counts.tells
    (accounting.unfailed_done (g.E.Engine.view c.hold_keys.new.self.engine) (g.E.Engine.view c.keys.new.self) _ c.in-Ok-Err.ensures.counts.accounts))

pub returns-in-Err-Memory-clause-heeds : goal.returns-in-Err-Memory-clause-heeds
returns-in-Err-Memory-clause-heeds g c =
    let told = rw c.in-Err-Memory.field-0-is at c.in-Err-Memory.ensures.memory in
    let quiet = rw c.in-Err-Memory.field-0-is at c.in-Err-Memory.ensures.quiet in
    let acc = rw c.in-Err-Memory.field-0-is at c.in-Err-Memory.ensures.counts.accounts in
    heeding.heeds_then c.args.self.now.stop c.hold_keys.new.self.stop c.hold_keys.new.self.stop (g.E.Engine.view c.args.self.now.engine) (g.E.Engine.view c.hold_keys.new.self.engine) (g.E.Engine.view c.keys.new.self) (c.hold_keys.ensures.heeds (causing.none_of _ (sym c.is_some.ensures ∙ c.if-is_some.false)))
    (heeding.heeds_well c.hold_keys.new.self.stop (g.E.Engine.view c.hold_keys.new.self.engine) (g.E.Engine.view c.keys.new.self) (quiet refl) c.keys.ensures.counts.tail (told refl)
    (accounting.unfailed_refused (g.E.Engine.view c.hold_keys.new.self.engine) (g.E.Engine.view c.keys.new.self) _ (λ is. is) acc))

pub returns-in-Err-Space-clause-heeds : goal.returns-in-Err-Space-clause-heeds
returns-in-Err-Space-clause-heeds g c =
    let failed = rw c.in-Err-Space.field-0-is at c.in-Err-Space.ensures.counts.failed in
    let acc = rw c.in-Err-Space.field-0-is at c.in-Err-Space.ensures.counts.accounts in
    heeding.heeds_then c.args.self.now.stop c.hold_keys.new.self.stop c.halt.new.self.stop (g.E.Engine.view c.args.self.now.engine) (g.E.Engine.view c.hold_keys.new.self.engine) (g.E.Engine.view c.halt.new.self.engine) (c.hold_keys.ensures.heeds (causing.none_of _ (sym c.is_some.ensures ∙ c.if-is_some.false)))
    (heeding.heeds_halt (g.E.Engine.view) c.hold_keys.new.self.stop c.halt.new.self.stop c.in-Err-Space.fault (g.E.Engine.view c.hold_keys.new.self.engine) c.keys.new.self c.halt.new.self.engine c.halt.ensures.engine (ap (λ (k : Core). k.stopped) c.halt.ensures.core) (ap (λ (k : Core). k.stopped) c.in-Ok.ensures.causes ∙ (causing.none_of _ (sym c.is_some.ensures ∙ c.if-is_some.false)))
    c.keys.ensures.counts.later c.keys.ensures.counts.tail failed
    (accounting.accounts_failed {B = Unit {0}} (g.E.Engine.view c.hold_keys.new.self.engine) (g.E.Engine.view c.hold_keys.new.self.engine) (g.E.Engine.view c.keys.new.self) _ c.in-Err-Space.fault (λ is. is) (λ is. is) (accounting.unfailed_none (g.E.Engine.view c.hold_keys.new.self.engine)) (λ h. h) acc))

pub returns-then-is_some-clause-stock : goal.returns-then-is_some-clause-stock
returns-then-is_some-clause-stock g c none t z from m told x lawful shows r shown = shown

pub returns-then-not-is_live-clause-stock : goal.returns-then-not-is_live-clause-stock
returns-then-not-is_live-clause-stock g c none t z from m told x lawful shows r shown = shown

pub returns-in-Err-clause-stock : goal.returns-in-Err-clause-stock
returns-in-Err-clause-stock g c none t z from m told x lawful shows =
    let b = g.E.Engine.basis z in
    let old = led t z from (g.E.Engine.view c.args.self.now.engine) in
    let k = core_of c.args.self.now in
    let u = c.args.txn.0 in
    let stop = sym c.is_some.ensures ∙ c.if-is_some.false in
    let is = sym c.is_live.ensures ∙ c.if-not-is_live.false in
    let runs = doing.runs t b lawful old k x u (On c.args.name Keys) shows [] stop in
    left_same t b old (led t z from (g.E.Engine.view c.hold_keys.new.self.engine)) (c.hold_keys.ensures.same none t z from m told x lawful runs.is_kept)

pub returns-in-Ok-Ok-clause-stock : goal.returns-in-Ok-Ok-clause-stock
returns-in-Ok-Ok-clause-stock g c none t z from m told x lawful shows r shown =
    let b = g.E.Engine.basis z in
    let old = led t z from (g.E.Engine.view c.args.self.now.engine) in
    let k = core_of c.args.self.now in
    let u = c.args.txn.0 in
    let stop = sym c.is_some.ensures ∙ c.if-is_some.false in
    let is = sym c.is_live.ensures ∙ c.if-not-is_live.false in
    let runs = doing.runs t b lawful old k x u (On c.args.name Keys) shows [] stop in
    let live = doing.live t b lawful old k x u (On c.args.name Keys) shows [] stop is in
    let stays = c.hold_keys.ensures.stays t z from m told x lawful runs.is_kept in
    let held = c.in-Ok.ensures.holds t z from m told x lawful runs.is_kept runs.held live in
    let mid = led t z from (g.E.Engine.view c.hold_keys.new.self.engine) in
    let new = led t z from (g.E.Engine.view c.keys.new.self) in
    let o = listing.listed t b lawful old k x u (On c.args.name Keys) shows stop is mid (core_of c.hold_keys.new.self) stays c.hold_keys.ensures.later held in
    let h = c.in-Ok-Ok.ensures.lists t z from (c.hold_keys.ensures.means t z from m) (c.in-Ok.ensures.tells told) o held.0.engine (listing.reads_listed t b lawful old k x u (On c.args.name Keys) shows stop is mid (core_of c.hold_keys.new.self) stays c.hold_keys.ensures.later held) in
    left_rested t b mid new (subst (λ q. HasKeys t b mid new o c.args.name (Ok q)) c.in-Ok-Ok.field-0-is h.1).rested r (left_same t b old mid (c.hold_keys.ensures.same none t z from m told x lawful runs.is_kept) r shown)

pub returns-in-Ok-Err-clause-stock : goal.returns-in-Ok-Err-clause-stock
returns-in-Ok-Err-clause-stock g c none t z from m told x lawful shows r shown =
    let b = g.E.Engine.basis z in
    let old = led t z from (g.E.Engine.view c.args.self.now.engine) in
    let k = core_of c.args.self.now in
    let u = c.args.txn.0 in
    let stop = sym c.is_some.ensures ∙ c.if-is_some.false in
    let is = sym c.is_live.ensures ∙ c.if-not-is_live.false in
    let runs = doing.runs t b lawful old k x u (On c.args.name Keys) shows [] stop in
    let live = doing.live t b lawful old k x u (On c.args.name Keys) shows [] stop is in
    let stays = c.hold_keys.ensures.stays t z from m told x lawful runs.is_kept in
    let held = c.in-Ok.ensures.holds t z from m told x lawful runs.is_kept runs.held live in
    let mid = led t z from (g.E.Engine.view c.hold_keys.new.self.engine) in
    let new = led t z from (g.E.Engine.view c.keys.new.self) in
    let o = listing.listed t b lawful old k x u (On c.args.name Keys) shows stop is mid (core_of c.hold_keys.new.self) stays c.hold_keys.ensures.later held in
    let h = c.in-Ok-Err.ensures.lists t z from (c.hold_keys.ensures.means t z from m) (c.in-Ok.ensures.tells told) o held.0.engine (listing.reads_listed t b lawful old k x u (On c.args.name Keys) shows stop is mid (core_of c.hold_keys.new.self) stays c.hold_keys.ensures.later held) in
    left_rested t b mid new (subst (λ q. HasKeys t b mid new o c.args.name (Ok q)) c.in-Ok-Err.field-0-is h.1).0 r (left_same t b old mid (c.hold_keys.ensures.same none t z from m told x lawful runs.is_kept) r shown)

pub returns-in-Err-Memory-clause-stock : goal.returns-in-Err-Memory-clause-stock
returns-in-Err-Memory-clause-stock g c none t z from m told x lawful shows r shown =
    let b = g.E.Engine.basis z in
    let old = led t z from (g.E.Engine.view c.args.self.now.engine) in
    let k = core_of c.args.self.now in
    let u = c.args.txn.0 in
    let stop = sym c.is_some.ensures ∙ c.if-is_some.false in
    let is = sym c.is_live.ensures ∙ c.if-not-is_live.false in
    let runs = doing.runs t b lawful old k x u (On c.args.name Keys) shows [] stop in
    let live = doing.live t b lawful old k x u (On c.args.name Keys) shows [] stop is in
    let stays = c.hold_keys.ensures.stays t z from m told x lawful runs.is_kept in
    let held = c.in-Ok.ensures.holds t z from m told x lawful runs.is_kept runs.held live in
    let mid = led t z from (g.E.Engine.view c.hold_keys.new.self.engine) in
    let new = led t z from (g.E.Engine.view c.keys.new.self) in
    let o = listing.listed t b lawful old k x u (On c.args.name Keys) shows stop is mid (core_of c.hold_keys.new.self) stays c.hold_keys.ensures.later held in
    let h = c.in-Err-Memory.ensures.lists t z from (c.hold_keys.ensures.means t z from m) (c.in-Ok.ensures.tells told) o held.0.engine (listing.reads_listed t b lawful old k x u (On c.args.name Keys) shows stop is mid (core_of c.hold_keys.new.self) stays c.hold_keys.ensures.later held) in
    left_rested t b mid new (subst (IsUnlisted t b mid new o (On c.args.name Keys)) c.in-Err-Memory.field-0-is h.1).rested r (left_same t b old mid (c.hold_keys.ensures.same none t z from m told x lawful runs.is_kept) r shown)

pub returns-in-Err-Space-clause-stock : goal.returns-in-Err-Space-clause-stock
returns-in-Err-Space-clause-stock g c none t z from m told x lawful shows = not_halted (ap (λ (k : Core). k.stopped) c.halt.ensures.core) none
