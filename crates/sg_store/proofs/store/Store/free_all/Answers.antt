use Rattle.std.proofs.Common.{◌-◌, ◌∙◌, refl, sym, subst, arith}
use Rattle.sg_ops.specs.Table.{table_of}
use Rattle.sg_store.specs.Engine.{led, IsDiskFault}
use Rattle.sg_store.specs.Seen.{core_of}
use Rattle.sg_store.proofs.Leaving as leaving
use Rattle.sg_store.proofs.store.Store.free_all.Given as given
use Rattle.sg_store.proofs.Serving as serving
use Rattle.sg_store.proofs.Accounting as accounting
use Rattle.sg_store.proofs.store.Store.free_all.Goals as goal

pub dropped-init : goal.dropped-init
dropped-init g c = record {
  means = λ z from m. m;
  told = λ h. h;
  tells = λ h. h;
  later = omega arith;
  quiet = refl;
  tail = omega arith;
  accounts = accounting.unfailed_none (g.E.Engine.view c.args.self.now.engine);
  same = refl;
  done = λ z from m told. leaving.since_none _ (g.E.Engine.basis z) _ (led _ z from (g.E.Engine.view c.args.self.now.engine)) (core_of c.args.self.now) c.args.txn.0 _ (omega (arith, c.tail-start.ensures));
}

pub dropped-preserved : goal.dropped-preserved
dropped-preserved g c =
    let t = table_of (λ y. (given.RecordOp-dyn g y).record_meaning y.1) (λ y. (given.RangeOp-dyn g y).range_meaning y.1) c.args.ops.now in
    let i = c.dropped.invariant in
    let frees = rw c.in-Ok-true.field-0-test at c.in-Ok-true.ensures.frees in
    record {
      means = λ z from m. c.free_one.ensures.means z from (i.means z from m);
      told = λ h. i.told (c.free_one.ensures.told h);
      tells = λ h. c.in-Ok-true.ensures.tells (i.tells h);
      later = omega (arith, i.later, c.free_one.ensures.later);
      quiet = c.in-Ok-true.ensures.quiet ∙ i.quiet;
      tail = omega (arith, i.tail, c.free_one.ensures.tail);
      accounts = accounting.unfailed_both (g.E.Engine.view c.args.self.now.engine) (g.E.Engine.view c.dropped.self.engine) (g.E.Engine.view c.free_one.new.self.engine) i.accounts (accounting.unfailed_done (g.E.Engine.view c.dropped.self.engine) (g.E.Engine.view c.free_one.new.self.engine) _ c.in-Ok-true.ensures.accounts);
      same = c.free_one.ensures.core ∙ i.same;
      done = λ z from m told. leaving.since_more _ (g.E.Engine.basis z) _ (led t z from (g.E.Engine.view c.args.self.now.engine)) (led t z from (g.E.Engine.view c.dropped.self.engine)) (led t z from (g.E.Engine.view c.free_one.new.self.engine)) (core_of c.args.self.now) (core_of c.dropped.self) c.args.txn.0 c.dropped.left (i.done z from m told)
          (core_of c.free_one.new.self) _ c.free_one.ensures.core c.free_one.ensures.later c.free_one.ensures.tail (omega (arith, c.tail-end.ensures)) (c.free_one.ensures.stays z from (i.means z from m) (i.tells told)) (frees z from (i.means z from m) (i.tells told));
    }

pub returns-in-Ok-false-clause-stays : goal.returns-in-Ok-false-clause-stays
returns-in-Ok-false-clause-stays g c z from m told x lawful k =
    let t = table_of (λ y. (given.RecordOp-dyn g y).record_meaning y.1) (λ y. (given.RangeOp-dyn g y).range_meaning y.1) c.args.ops.now in
    let i = c.dropped.invariant in
    leaving.since_stays _ (g.E.Engine.basis z) _ (led t z from (g.E.Engine.view c.args.self.now.engine)) (led t z from (g.E.Engine.view c.dropped.self.engine)) (led t z from (g.E.Engine.view c.free_one.new.self.engine)) (core_of c.args.self.now) (core_of c.dropped.self) c.args.txn.0 c.dropped.left (i.done z from m told) x lawful k (λ h. c.free_one.ensures.stays z from (i.means z from m) (i.tells told) x lawful h)

pub returns-in-Err-clause-stays : goal.returns-in-Err-clause-stays
returns-in-Err-clause-stays g c z from m told x lawful k =
    let t = table_of (λ y. (given.RecordOp-dyn g y).record_meaning y.1) (λ y. (given.RangeOp-dyn g y).range_meaning y.1) c.args.ops.now in
    let i = c.dropped.invariant in
    leaving.since_stays _ (g.E.Engine.basis z) _ (led t z from (g.E.Engine.view c.args.self.now.engine)) (led t z from (g.E.Engine.view c.dropped.self.engine)) (led t z from (g.E.Engine.view c.free_one.new.self.engine)) (core_of c.args.self.now) (core_of c.dropped.self) c.args.txn.0 c.dropped.left (i.done z from m told) x lawful k (λ h. c.free_one.ensures.stays z from (i.means z from m) (i.tells told) x lawful h)

pub returns-in-Ok-false-clause-freed : goal.returns-in-Ok-false-clause-freed
returns-in-Ok-false-clause-freed g c z from m told x lawful k =
    let t = table_of (λ y. (given.RecordOp-dyn g y).record_meaning y.1) (λ y. (given.RangeOp-dyn g y).range_meaning y.1) c.args.ops.now in
    let i = c.dropped.invariant in
    let frees = rw c.in-Ok-false.field-0-test at c.in-Ok-false.ensures.frees in
    leaving.since_done _ (g.E.Engine.basis z) _ (led t z from (g.E.Engine.view c.args.self.now.engine)) (led t z from (g.E.Engine.view c.dropped.self.engine)) (led t z from (g.E.Engine.view c.free_one.new.self.engine)) (core_of c.args.self.now) (core_of c.dropped.self) c.args.txn.0 c.dropped.left (i.done z from m told) x lawful k (λ h. frees z from (i.means z from m) (i.tells told) x lawful h)

pub returns-in-Ok-false-clause-stock : goal.returns-in-Ok-false-clause-stock
returns-in-Ok-false-clause-stock g c z from m told x lawful k =
    let t = table_of (λ y. (given.RecordOp-dyn g y).record_meaning y.1) (λ y. (given.RangeOp-dyn g y).range_meaning y.1) c.args.ops.now in
    let i = c.dropped.invariant in
    let frees = rw c.in-Ok-false.field-0-test at c.in-Ok-false.ensures.frees in
    leaving.since_stock _ (g.E.Engine.basis z) _ (led t z from (g.E.Engine.view c.args.self.now.engine)) (led t z from (g.E.Engine.view c.dropped.self.engine)) (led t z from (g.E.Engine.view c.free_one.new.self.engine)) (core_of c.args.self.now) (core_of c.dropped.self) c.args.txn.0 c.dropped.left (i.done z from m told) x lawful k (λ h. frees z from (i.means z from m) (i.tells told) x lawful h)

pub returns-then-now-left-clause-stays : goal.returns-then-now-left-clause-stays
returns-then-now-left-clause-stays g c z from m told x lawful k =
    let t = table_of (λ y. (given.RecordOp-dyn g y).record_meaning y.1) (λ y. (given.RangeOp-dyn g y).range_meaning y.1) c.args.ops.now in
    let i = c.dropped.invariant in
    let frees = rw c.in-Ok-true.field-0-test at c.in-Ok-true.ensures.frees in
    absurd (leaving.since_rises _ (g.E.Engine.basis z) _ (led t z from (g.E.Engine.view c.args.self.now.engine)) (led t z from (g.E.Engine.view c.dropped.self.engine)) (led t z from (g.E.Engine.view c.free_one.new.self.engine)) (core_of c.args.self.now) (core_of c.dropped.self) c.args.txn.0 c.dropped.left (i.done z from m told)
    (18446744073709551615 - c.tail-end.result) (omega (arith, c.tail-end.ensures)) (omega (arith, c.if-now-left.true)) x lawful k (λ h. frees z from (i.means z from m) (i.tells told) x lawful h))

pub free_one-requires : goal.free_one-requires
free_one-requires g c =
    record { can = serving.freeing_since _ (g.E.Engine.view c.args.self.now.engine) (g.E.Engine.view c.dropped.self.engine) (core_of c.args.self.now) (core_of c.dropped.self) c.args.txn.0 c.dropped.left c.dropped.invariant c.requires.can }

pub returns-in-Ok-false-clause-means : goal.returns-in-Ok-false-clause-means
returns-in-Ok-false-clause-means g c z from m =
    let t = table_of (λ y. (given.RecordOp-dyn g y).record_meaning y.1) (λ y. (given.RangeOp-dyn g y).range_meaning y.1) c.args.ops.now in
    c.free_one.ensures.means z from (c.dropped.invariant.means z from m)

pub returns-in-Err-clause-means : goal.returns-in-Err-clause-means
returns-in-Err-clause-means g c z from m =
    let t = table_of (λ y. (given.RecordOp-dyn g y).record_meaning y.1) (λ y. (given.RangeOp-dyn g y).range_meaning y.1) c.args.ops.now in
    c.free_one.ensures.means z from (c.dropped.invariant.means z from m)

pub returns-then-now-left-clause-means : goal.returns-then-now-left-clause-means
returns-then-now-left-clause-means g c z from m =
    let t = table_of (λ y. (given.RecordOp-dyn g y).record_meaning y.1) (λ y. (given.RangeOp-dyn g y).range_meaning y.1) c.args.ops.now in
    c.broken.ensures.means t z from (c.free_one.ensures.means z from (c.dropped.invariant.means z from m))

pub returns-in-Ok-false-clause-accounts : goal.returns-in-Ok-false-clause-accounts
returns-in-Ok-false-clause-accounts g c =
    accounting.accounts_done (g.E.Engine.view c.args.self.now.engine) (g.E.Engine.view c.free_one.new.self.engine) _ (accounting.unfailed_both (g.E.Engine.view c.args.self.now.engine) (g.E.Engine.view c.dropped.self.engine) (g.E.Engine.view c.free_one.new.self.engine) c.dropped.invariant.accounts (accounting.unfailed_done (g.E.Engine.view c.dropped.self.engine) (g.E.Engine.view c.free_one.new.self.engine) _ c.in-Ok-false.ensures.accounts))

pub returns-in-Err-clause-accounts : goal.returns-in-Err-clause-accounts
returns-in-Err-clause-accounts g c =
    accounting.accounts_then (g.E.Engine.view c.args.self.now.engine) (g.E.Engine.view c.dropped.self.engine) (g.E.Engine.view c.free_one.new.self.engine) c.in-Err.fault c.dropped.invariant.accounts c.dropped.invariant.tells c.in-Err.ensures.accounts

pub broken-requires : goal.broken-requires
broken-requires g c =
    let t = table_of (λ y. (given.RecordOp-dyn g y).record_meaning y.1) (λ y. (given.RangeOp-dyn g y).range_meaning y.1) c.args.ops.now in
    let i = c.dropped.invariant in
    let s = c.requires.can in
    let frees = rw c.in-Ok-true.field-0-test at c.in-Ok-true.ensures.frees in
    record {
      untold = λ told.
          (let one = c.free_one.ensures.told told in
          let was = i.told one in
          let h = s.can was in
          leaving.since_rises _ (g.E.Engine.basis s.sizes) _ (led t s.sizes (s.from was) (g.E.Engine.view c.args.self.now.engine)) (led t s.sizes (s.from was) (g.E.Engine.view c.dropped.self.engine)) (led t s.sizes (s.from was) (g.E.Engine.view c.free_one.new.self.engine)) (core_of c.args.self.now) (core_of c.dropped.self) c.args.txn.0 c.dropped.left (i.done s.sizes (s.from was) (s.means was) was)
          (18446744073709551615 - c.tail-end.result) (omega (arith, c.tail-end.ensures)) (omega (arith, c.if-now-left.true)) h.run h.lawful h.leaving (λ k. frees s.sizes (s.from was) (i.means s.sizes (s.from was) (s.means was)) one h.run h.lawful k));
    }

pub returns-then-now-left-clause-accounts : goal.returns-then-now-left-clause-accounts
returns-then-now-left-clause-accounts g c =
    let t = table_of (λ y. (given.RecordOp-dyn g y).record_meaning y.1) (λ y. (given.RangeOp-dyn g y).range_meaning y.1) c.args.ops.now in
    let i = c.dropped.invariant in
    let s = c.requires.can in
    let frees = rw c.in-Ok-true.field-0-test at c.in-Ok-true.ensures.frees in
    accounting.accounts_broken (g.E.Engine.view c.args.self.now.engine) (g.E.Engine.view c.broken.new.self) c.broken.result (subst IsDiskFault (sym c.broken.ensures.answer) tt)
    (λ was.
    (let one = i.tells was in
    let h = s.can was in
    leaving.since_rises _ (g.E.Engine.basis s.sizes) _ (led t s.sizes (s.from was) (g.E.Engine.view c.args.self.now.engine)) (led t s.sizes (s.from was) (g.E.Engine.view c.dropped.self.engine)) (led t s.sizes (s.from was) (g.E.Engine.view c.free_one.new.self.engine)) (core_of c.args.self.now) (core_of c.dropped.self) c.args.txn.0 c.dropped.left (i.done s.sizes (s.from was) (s.means was) was)
    (18446744073709551615 - c.tail-end.result) (omega (arith, c.tail-end.ensures)) (omega (arith, c.if-now-left.true)) h.run h.lawful h.leaving (λ k. frees s.sizes (s.from was) (i.means s.sizes (s.from was) (s.means was)) one h.run h.lawful k)))
    (accounting.unfailed_both (g.E.Engine.view c.args.self.now.engine) (g.E.Engine.view c.free_one.new.self.engine) (g.E.Engine.view c.broken.new.self) (accounting.unfailed_both (g.E.Engine.view c.args.self.now.engine) (g.E.Engine.view c.dropped.self.engine) (g.E.Engine.view c.free_one.new.self.engine) i.accounts (accounting.unfailed_done (g.E.Engine.view c.dropped.self.engine) (g.E.Engine.view c.free_one.new.self.engine) _ c.in-Ok-true.ensures.accounts)) (accounting.unasked (g.E.Engine.view c.free_one.new.self.engine) (g.E.Engine.view c.broken.new.self) c.broken.ensures.disk c.broken.ensures.gate))
