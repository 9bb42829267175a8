use Rattle.std.proofs.Common.{ℕ, List, sym, subst, Err}
use Rattle.std.specs.Prelude.{[]}
use Rattle.sg_disk.proofs.Moments.{joined}
use Rattle.sg_ops.specs.Table.{table_of}
use Rattle.sg_store.specs.Asks.{ShowsSome}
use Rattle.sg_store.specs.Engine.{led, AskedBy}
use Rattle.sg_run.specs.Run.{start}
use Rattle.sg_store.specs.Rests.{HasObjects}
use Rattle.sg_store.specs.Store.{Core, Shows}
use Rattle.sg_store.specs.Seen.{core_of}
use Rattle.sg_recovery.specs.Log.{tally}
use Rattle.sg_starting.specs.Starting.{AllStandFor, AreBuried, BeginsStock, AreLosers, CanResume, IsOpenedWith, IsStartDisk}
use Rattle.sg_starting.specs.declared.opening.StartFault.TheVariants.{Memory}
use Rattle.sg_starting.proofs.Asking as asking
use Rattle.sg_starting.proofs.Attached as attaching
use Rattle.sg_starting.proofs.Steps.{taking_stands, taken_starts}
use Rattle.sg_starting.proofs.attaching.attach.Given as given
use Rattle.sg_store.proofs.Accounting as accounting
use Rattle.sg_store.specs.Accounting.{AccountsFor, Unfailed}
use Rattle.sg_starting.proofs.attaching.attach.Goals as goal

pub resume-requires : goal.resume-requires
resume-requires g c =
    let t = table_of (λ y. (given.RecordOp-dyn g y).record_meaning y.1) (λ y. (given.RangeOp-dyn g y).range_meaning y.1) c.args.ops.now in
    record { can = asking.asked_for t (g.E.Engine.opened c.args.engine) (IsOpenedWith c.args.losers.now t) (CanResume t) (λ b v h. h.opened.can) c.requires.can }

pub returns-in-Err-clause-refused : goal.returns-in-Err-clause-refused
returns-in-Err-clause-refused g c z from l told m lawful found stood all =
    let t = table_of (λ y. (given.RecordOp-dyn g y).record_meaning y.1) (λ y. (given.RangeOp-dyn g y).range_meaning y.1) c.args.ops.now in
    taking_stands _ (g.E.Engine.basis z) lawful (led t z from (g.E.Engine.opened c.args.engine)) (led t z from (g.E.Engine.view c.in-Err.unstarted.engine)) m found stood (c.in-Err.ensures.refused z from l told found)

pub start_store-requires : goal.start_store-requires
start_store-requires g c =
    let t = table_of (λ y. (given.RecordOp-dyn g y).record_meaning y.1) (λ y. (given.RangeOp-dyn g y).range_meaning y.1) c.args.ops.now in
    record { can = attaching.resumed_asks t (g.E.Engine.opened c.args.engine) (g.E.Engine.view c.in-Ok.engine) c.args.losers.now c.in-Ok.ensures.means c.in-Ok.ensures.done.told c.in-Ok.ensures.takes c.in-Ok.ensures.reads c.requires.can }

pub returns-in-Err-start_store-clause-refused : goal.returns-in-Err-start_store-clause-refused
returns-in-Err-start_store-clause-refused g c z from l told m lawful found stood all =
    let t = table_of (λ y. (given.RecordOp-dyn g y).record_meaning y.1) (λ y. (given.RangeOp-dyn g y).range_meaning y.1) c.args.ops.now in
    let v = led t z from (g.E.Engine.opened c.args.engine) in
    let w = led t z from (g.E.Engine.view c.in-Ok.engine) in
    let taken = c.in-Ok.ensures.takes z from l told found in
    let k = taken_starts _ (g.E.Engine.basis z) lawful v w m found stood taken.0 taken.1 in
    let losers = subst (λ (ls : List ℕ). AreLosers ls c.args.losers.now) (sym taken.1.live) all in
    let means = c.in-Ok.ensures.means z from l in
    let tells = c.in-Ok.ensures.done.tells told in
    joined (taking_stands _ (g.E.Engine.basis z) lawful v w m found stood taken.0) (c.start_store.ensures.stands z from means tells v.log m lawful k losers)

pub returns-in-Ok-new-clause-serves : goal.returns-in-Ok-new-clause-serves
returns-in-Ok-new-clause-serves g c =
    let t = table_of (λ y. (given.RecordOp-dyn g y).record_meaning y.1) (λ y. (given.RangeOp-dyn g y).range_meaning y.1) c.args.ops.now in
    subst (λ e. AskedBy t (g.E.Engine.view e) (ShowsSome (core_of c.in-Ok-new.store) t)) (sym c.in-Ok-new.ensures.engine)
    (attaching.serving t (g.E.Engine.view c.in-Ok.engine) (g.E.Engine.view c.start_store.new.engine) c.args.losers.now (core_of c.in-Ok-new.store) c.in-Ok-new.ensures.core (λ z from l. c.start_store.ensures.means z from l) (λ h. c.start_store.ensures.told h)
    (λ z from l told down m lawful k all. c.in-Ok-start_store.ensures.shows z from l told down m lawful k all)
    (attaching.resumed_asks t (g.E.Engine.opened c.args.engine) (g.E.Engine.view c.in-Ok.engine) c.args.losers.now c.in-Ok.ensures.means c.in-Ok.ensures.done.told c.in-Ok.ensures.takes c.in-Ok.ensures.reads c.requires.can))

pub returns-in-Ok-new-clause-has : goal.returns-in-Ok-new-clause-has
returns-in-Ok-new-clause-has g c z from l told m lawful found stood all =
    let t = table_of (λ y. (given.RecordOp-dyn g y).record_meaning y.1) (λ y. (given.RangeOp-dyn g y).range_meaning y.1) c.args.ops.now in
    let v = led t z from (g.E.Engine.opened c.args.engine) in
    let w = led t z from (g.E.Engine.view c.in-Ok.engine) in
    let taken = c.in-Ok.ensures.takes z from l told found in
    let k = taken_starts _ (g.E.Engine.basis z) lawful v w m found stood taken.0 taken.1 in
    let losers = subst (λ (ls : List ℕ). AreLosers ls c.args.losers.now) (sym taken.1.live) all in
    let means = c.in-Ok.ensures.means z from l in
    let tells = c.in-Ok.ensures.done.tells told in
    subst (λ e. HasObjects [] m m (core_of c.in-Ok-new.store) t (g.E.Engine.basis z) (led t z from (g.E.Engine.view e))) (sym c.in-Ok-new.ensures.engine)
    (attaching.opened_has t (g.E.Engine.basis z) lawful (led t z from (g.E.Engine.view c.start_store.new.engine)) (core_of c.in-Ok-new.store) m c.in-Ok-new.ensures.core (c.in-Ok-start_store.ensures.shows z from means tells v.log m lawful k losers).0)

pub returns-in-Ok-new-clause-shows : goal.returns-in-Ok-new-clause-shows
returns-in-Ok-new-clause-shows g c z from l told m lawful found stood all =
    let t = table_of (λ y. (given.RecordOp-dyn g y).record_meaning y.1) (λ y. (given.RangeOp-dyn g y).range_meaning y.1) c.args.ops.now in
    let v = led t z from (g.E.Engine.opened c.args.engine) in
    let w = led t z from (g.E.Engine.view c.in-Ok.engine) in
    let taken = c.in-Ok.ensures.takes z from l told found in
    let k = taken_starts _ (g.E.Engine.basis z) lawful v w m found stood taken.0 taken.1 in
    let losers = subst (λ (ls : List ℕ). AreLosers ls c.args.losers.now) (sym taken.1.live) all in
    let means = c.in-Ok.ensures.means z from l in
    let tells = c.in-Ok.ensures.done.tells told in
    subst (λ e. Shows t (g.E.Engine.basis z) (led t z from (g.E.Engine.view e)) (core_of c.in-Ok-new.store) (start m) × AreBuried t (g.E.Engine.basis z) (led t z from (g.E.Engine.view e)) 0) (sym c.in-Ok-new.ensures.engine)
    (subst (λ (o : Core). Shows t (g.E.Engine.basis z) (led t z from (g.E.Engine.view c.start_store.new.engine)) o (start m) × AreBuried t (g.E.Engine.basis z) (led t z from (g.E.Engine.view c.start_store.new.engine)) 0)
    (sym c.in-Ok-new.ensures.core) (c.in-Ok-start_store.ensures.shows z from means tells v.log m lawful k losers))

pub returns-in-Ok-new-clause-stock : goal.returns-in-Ok-new-clause-stock
returns-in-Ok-new-clause-stock g c z from l told m lawful found stood all o read =
    let t = table_of (λ y. (given.RecordOp-dyn g y).record_meaning y.1) (λ y. (given.RangeOp-dyn g y).range_meaning y.1) c.args.ops.now in
    let v = led t z from (g.E.Engine.opened c.args.engine) in
    let w = led t z from (g.E.Engine.view c.in-Ok.engine) in
    let taken = c.in-Ok.ensures.takes z from l told found in
    let k = taken_starts _ (g.E.Engine.basis z) lawful v w m found stood taken.0 taken.1 in
    let losers = subst (λ (ls : List ℕ). AreLosers ls c.args.losers.now) (sym taken.1.live) all in
    let means = c.in-Ok.ensures.means z from l in
    let tells = c.in-Ok.ensures.done.tells told in
    subst (λ e. BeginsStock t (g.E.Engine.basis z) o (tally v.log).notes (led t z from (g.E.Engine.view e))) (sym c.in-Ok-new.ensures.engine)
    (c.in-Ok-start_store.ensures.stock z from means tells v.log m o lawful k losers read)

pub returns-in-Ok-new-clause-stands : goal.returns-in-Ok-new-clause-stands
returns-in-Ok-new-clause-stands g c z from l told m lawful found stood all =
    let t = table_of (λ y. (given.RecordOp-dyn g y).record_meaning y.1) (λ y. (given.RangeOp-dyn g y).range_meaning y.1) c.args.ops.now in
    let v = led t z from (g.E.Engine.opened c.args.engine) in
    let w = led t z from (g.E.Engine.view c.in-Ok.engine) in
    let taken = c.in-Ok.ensures.takes z from l told found in
    let k = taken_starts _ (g.E.Engine.basis z) lawful v w m found stood taken.0 taken.1 in
    let losers = subst (λ (ls : List ℕ). AreLosers ls c.args.losers.now) (sym taken.1.live) all in
    let means = c.in-Ok.ensures.means z from l in
    let tells = c.in-Ok.ensures.done.tells told in
    subst (λ e. AllStandFor t (g.E.Engine.basis z) v (led t z from (g.E.Engine.view e)) m) (sym c.in-Ok-new.ensures.engine)
    (joined (taking_stands _ (g.E.Engine.basis z) lawful v w m found stood taken.0) (c.start_store.ensures.stands z from means tells v.log m lawful k losers))

pub returns-in-Err-new-clause-refused : goal.returns-in-Err-new-clause-refused
returns-in-Err-new-clause-refused g c z from l told m lawful found stood all =
    let t = table_of (λ y. (given.RecordOp-dyn g y).record_meaning y.1) (λ y. (given.RangeOp-dyn g y).range_meaning y.1) c.args.ops.now in
    let v = led t z from (g.E.Engine.opened c.args.engine) in
    let w = led t z from (g.E.Engine.view c.in-Ok.engine) in
    let taken = c.in-Ok.ensures.takes z from l told found in
    let k = taken_starts _ (g.E.Engine.basis z) lawful v w m found stood taken.0 taken.1 in
    let losers = subst (λ (ls : List ℕ). AreLosers ls c.args.losers.now) (sym taken.1.live) all in
    let means = c.in-Ok.ensures.means z from l in
    let tells = c.in-Ok.ensures.done.tells told in
    subst (λ e. AllStandFor t (g.E.Engine.basis z) v (led t z from (g.E.Engine.view e)) m) (sym c.in-Err-new.ensures.back)
    (joined (taking_stands _ (g.E.Engine.basis z) lawful v w m found stood taken.0) (c.start_store.ensures.stands z from means tells v.log m lawful k losers))

pub returns-in-Err-clause-broken : goal.returns-in-Err-clause-broken
returns-in-Err-clause-broken g c =
    let t = table_of (λ y. (given.RecordOp-dyn g y).record_meaning y.1) (λ y. (given.RangeOp-dyn g y).range_meaning y.1) c.args.ops.now in
    attaching.if_broken c.in-Err.unstarted.why c.in-Err.ensures.broken (λ f z from l told found. attaching.unread t (g.E.Engine.basis z) (led t z from (g.E.Engine.opened c.args.engine)) (f z from l told found))

pub returns-in-Err-clause-none : goal.returns-in-Err-clause-none
returns-in-Err-clause-none g c =
    let t = table_of (λ y. (given.RecordOp-dyn g y).record_meaning y.1) (λ y. (given.RangeOp-dyn g y).range_meaning y.1) c.args.ops.now in
    attaching.if_broken c.in-Err.unstarted.why c.in-Err.ensures.broken (λ f z from l told found. attaching.none_stand t (g.E.Engine.basis z) (led t z from (g.E.Engine.opened c.args.engine)) (f z from l told found) found)

pub returns-in-Err-clause-quiet : goal.returns-in-Err-clause-quiet
returns-in-Err-clause-quiet g c =
    let t = table_of (λ y. (given.RecordOp-dyn g y).record_meaning y.1) (λ y. (given.RangeOp-dyn g y).range_meaning y.1) c.args.ops.now in
    attaching.if_any c.in-Err.unstarted.why (λ z from l told found. attaching.takes_none t (g.E.Engine.basis z) (led t z from (g.E.Engine.opened c.args.engine)) (led t z from (g.E.Engine.view c.in-Err.unstarted.engine)) (c.in-Err.ensures.refused z from l told found))

pub returns-in-Ok-new-clause-means : goal.returns-in-Ok-new-clause-means
returns-in-Ok-new-clause-means g c = λ z from l.
    let t = table_of (λ y. (given.RecordOp-dyn g y).record_meaning y.1) (λ y. (given.RangeOp-dyn g y).range_meaning y.1) c.args.ops.now in
    subst (λ e. (g.E.Engine.view e).means t z from) (sym c.in-Ok-new.ensures.engine) (c.start_store.ensures.means z from (c.in-Ok.ensures.means z from l))

pub returns-in-Ok-new-clause-tells : goal.returns-in-Ok-new-clause-tells
returns-in-Ok-new-clause-tells g c told =
    subst (λ e. (g.E.Engine.view e).Told) (sym c.in-Ok-new.ensures.engine) (c.in-Ok-start_store.ensures.tells (c.in-Ok.ensures.done.tells told))

pub returns-in-Err-clause-accounts : goal.returns-in-Err-clause-accounts
returns-in-Err-clause-accounts g c =
    c.in-Err.ensures.failed.accounts

pub returns-in-Err-start_store-clause-accounts : goal.returns-in-Err-start_store-clause-accounts
returns-in-Err-start_store-clause-accounts g c =
    accounting.accounts_failed (g.E.Engine.opened c.args.engine) (g.E.Engine.view c.in-Ok.engine) (g.E.Engine.view c.start_store.new.engine) c.in-Err-start_store.fault _ (λ is. is) (λ is. is) (accounting.unfailed_done (g.E.Engine.opened c.args.engine) (g.E.Engine.view c.in-Ok.engine) _ c.in-Ok.ensures.done.accounts) c.in-Ok.ensures.done.tells c.in-Err-start_store.ensures.accounts

pub returns-in-Err-new-clause-accounts : goal.returns-in-Err-new-clause-accounts
returns-in-Err-new-clause-accounts g c =
    subst (λ e. AccountsFor IsStartDisk (g.E.Engine.opened c.args.engine) (g.E.Engine.view e) (Err Memory)) (sym c.in-Err-new.ensures.back)
    (accounting.accounts_refused (g.E.Engine.opened c.args.engine) (g.E.Engine.view c.start_store.new.engine) Memory (λ is. is) (accounting.unfailed_both (g.E.Engine.opened c.args.engine) (g.E.Engine.view c.in-Ok.engine) (g.E.Engine.view c.start_store.new.engine) (accounting.unfailed_done (g.E.Engine.opened c.args.engine) (g.E.Engine.view c.in-Ok.engine) _ c.in-Ok.ensures.done.accounts) (accounting.unfailed_done (g.E.Engine.view c.in-Ok.engine) (g.E.Engine.view c.start_store.new.engine) _ c.in-Ok-start_store.ensures.accounts)))

pub returns-in-Ok-new-clause-unfailed : goal.returns-in-Ok-new-clause-unfailed
returns-in-Ok-new-clause-unfailed g c =
    subst (λ e. Unfailed (g.E.Engine.opened c.args.engine) (g.E.Engine.view e)) (sym c.in-Ok-new.ensures.engine) (accounting.unfailed_both (g.E.Engine.opened c.args.engine) (g.E.Engine.view c.in-Ok.engine) (g.E.Engine.view c.start_store.new.engine) (accounting.unfailed_done (g.E.Engine.opened c.args.engine) (g.E.Engine.view c.in-Ok.engine) _ c.in-Ok.ensures.done.accounts) (accounting.unfailed_done (g.E.Engine.view c.in-Ok.engine) (g.E.Engine.view c.start_store.new.engine) _ c.in-Ok-start_store.ensures.accounts))

pub returns-in-Err-clause-waits : goal.returns-in-Err-clause-waits
returns-in-Err-clause-waits g c = g.E.Engine.waits c.in-Err.unstarted.engine

pub returns-in-Err-start_store-clause-waits : goal.returns-in-Err-start_store-clause-waits
returns-in-Err-start_store-clause-waits g c = g.E.Engine.waits c.start_store.new.engine

pub returns-in-Err-new-clause-waits : goal.returns-in-Err-new-clause-waits
returns-in-Err-new-clause-waits g c = g.E.Engine.waits c.in-Err-new.engine
