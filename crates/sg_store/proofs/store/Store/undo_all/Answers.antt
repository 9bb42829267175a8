use Rattle.std.proofs.Common.{refl, ◌∙◌, arith}
use Rattle.sg_ops.specs.Table.{table_of}
use Rattle.sg_store.specs.Engine.{led}
use Rattle.sg_store.specs.Seen.{core_of}
use Rattle.sg_store.proofs.Undone as undone
use Rattle.sg_store.proofs.store.Store.undo_all.Given as given
use Rattle.sg_store.proofs.Serving as serving
use Rattle.sg_store.proofs.Accounting as accounting
use Rattle.sg_store.proofs.store.Store.undo_all.Goals as goal

pub notes-init : goal.notes-init
notes-init g c = record {
  means = λ z from m. m;
  told = λ h. h;
  tells = λ h. h;
  later = omega arith;
  quiet = refl;
  tail = omega arith;
  accounts = accounting.unfailed_none (g.E.Engine.view c.args.self.now.engine);
  same = refl;
  done = λ z from m told. undone.since_none _ (g.E.Engine.basis z) _ (led _ z from (g.E.Engine.view c.args.self.now.engine)) (core_of c.args.self.now) c.args.txn.0 c.tail-at.result c.tail-at.ensures;
}

pub notes-preserved : goal.notes-preserved
notes-preserved g c =
    let t = table_of (λ y. (given.RecordOp-dyn g y).record_meaning y.1) (λ y. (given.RangeOp-dyn g y).range_meaning y.1) c.args.ops.now in
    let i = c.notes.invariant in
    let undid = rw c.in-Ok-Some.field-0-is at c.in-Ok-Some.ensures.undid in
    record {
      means = λ z from m. c.undo_one.ensures.means z from (i.means z from m);
      told = λ h. i.told (c.undo_one.ensures.told h);
      tells = λ h. c.in-Ok-Some.ensures.tells (i.tells h);
      later = omega (arith, i.later, c.undo_one.ensures.later);
      quiet = c.in-Ok-Some.ensures.quiet ∙ i.quiet;
      tail = omega (arith, i.tail, c.undo_one.ensures.tail);
      accounts = accounting.unfailed_both (g.E.Engine.view c.args.self.now.engine) (g.E.Engine.view c.notes.self.engine) (g.E.Engine.view c.undo_one.new.self.engine) i.accounts (accounting.unfailed_done (g.E.Engine.view c.notes.self.engine) (g.E.Engine.view c.undo_one.new.self.engine) _ c.in-Ok-Some.ensures.accounts);
      same = c.undo_one.ensures.core ∙ i.same;
      done = λ z from m told. undone.since_more _ (g.E.Engine.basis z) _ (led t z from (g.E.Engine.view c.args.self.now.engine)) (led t z from (g.E.Engine.view c.notes.self.engine)) (led t z from (g.E.Engine.view c.undo_one.new.self.engine)) (core_of c.args.self.now) (core_of c.notes.self) c.args.txn.0 c.notes.at (i.done z from m told)
          (core_of c.undo_one.new.self) c.in-Ok-Some.after c.undo_one.ensures.core c.undo_one.ensures.later c.undo_one.ensures.tail (c.undo_one.ensures.stays z from (i.means z from m) (i.tells told)) (undid z from (i.means z from m) (i.tells told));
    }

pub returns-in-Ok-None-clause-stays : goal.returns-in-Ok-None-clause-stays
returns-in-Ok-None-clause-stays g c z from m told x lawful k live =
    let t = table_of (λ y. (given.RecordOp-dyn g y).record_meaning y.1) (λ y. (given.RangeOp-dyn g y).range_meaning y.1) c.args.ops.now in
    let i = c.notes.invariant in
    undone.since_stays _ (g.E.Engine.basis z) _ (led t z from (g.E.Engine.view c.args.self.now.engine)) (led t z from (g.E.Engine.view c.notes.self.engine)) (led t z from (g.E.Engine.view c.undo_one.new.self.engine)) (core_of c.args.self.now) (core_of c.notes.self) c.args.txn.0 c.notes.at (i.done z from m told) x lawful k live (λ h. c.undo_one.ensures.stays z from (i.means z from m) (i.tells told) x lawful h live)

pub returns-in-Err-clause-stays : goal.returns-in-Err-clause-stays
returns-in-Err-clause-stays g c z from m told x lawful k live =
    let t = table_of (λ y. (given.RecordOp-dyn g y).record_meaning y.1) (λ y. (given.RangeOp-dyn g y).range_meaning y.1) c.args.ops.now in
    let i = c.notes.invariant in
    undone.since_stays _ (g.E.Engine.basis z) _ (led t z from (g.E.Engine.view c.args.self.now.engine)) (led t z from (g.E.Engine.view c.notes.self.engine)) (led t z from (g.E.Engine.view c.undo_one.new.self.engine)) (core_of c.args.self.now) (core_of c.notes.self) c.args.txn.0 c.notes.at (i.done z from m told) x lawful k live (λ h. c.undo_one.ensures.stays z from (i.means z from m) (i.tells told) x lawful h live)

pub returns-in-Ok-None-clause-undone : goal.returns-in-Ok-None-clause-undone
returns-in-Ok-None-clause-undone g c z from m told x lawful k live =
    let t = table_of (λ y. (given.RecordOp-dyn g y).record_meaning y.1) (λ y. (given.RangeOp-dyn g y).range_meaning y.1) c.args.ops.now in
    let i = c.notes.invariant in
    let undid = rw c.in-Ok-None.field-0-is at c.in-Ok-None.ensures.undid in
    undone.since_done _ (g.E.Engine.basis z) _ (led t z from (g.E.Engine.view c.args.self.now.engine)) (led t z from (g.E.Engine.view c.notes.self.engine)) (led t z from (g.E.Engine.view c.undo_one.new.self.engine)) (core_of c.args.self.now) (core_of c.notes.self) c.args.txn.0 c.notes.at (i.done z from m told) x lawful k live (λ h. undid z from (i.means z from m) (i.tells told) x lawful h live)

pub returns-in-Ok-None-clause-stock : goal.returns-in-Ok-None-clause-stock
returns-in-Ok-None-clause-stock g c z from m told x lawful k live =
    let t = table_of (λ y. (given.RecordOp-dyn g y).record_meaning y.1) (λ y. (given.RangeOp-dyn g y).range_meaning y.1) c.args.ops.now in
    let i = c.notes.invariant in
    let undid = rw c.in-Ok-None.field-0-is at c.in-Ok-None.ensures.undid in
    undone.since_stock _ (g.E.Engine.basis z) _ (led t z from (g.E.Engine.view c.args.self.now.engine)) (led t z from (g.E.Engine.view c.notes.self.engine)) (led t z from (g.E.Engine.view c.undo_one.new.self.engine)) (core_of c.args.self.now) (core_of c.notes.self) c.args.txn.0 c.notes.at (i.done z from m told) x lawful k live (λ h. undid z from (i.means z from m) (i.tells told) x lawful h live)

pub undo_one-requires : goal.undo_one-requires
undo_one-requires g c =
    record { can = serving.taking_since _ (g.E.Engine.view c.args.self.now.engine) (g.E.Engine.view c.notes.self.engine) (core_of c.args.self.now) (core_of c.notes.self) c.args.txn.0 c.notes.at c.requires.live c.notes.invariant c.requires.can }

pub returns-in-Ok-None-clause-means : goal.returns-in-Ok-None-clause-means
returns-in-Ok-None-clause-means g c z from m =
    let t = table_of (λ y. (given.RecordOp-dyn g y).record_meaning y.1) (λ y. (given.RangeOp-dyn g y).range_meaning y.1) c.args.ops.now in
    c.undo_one.ensures.means z from (c.notes.invariant.means z from m)

pub returns-in-Err-clause-means : goal.returns-in-Err-clause-means
returns-in-Err-clause-means g c z from m =
    let t = table_of (λ y. (given.RecordOp-dyn g y).record_meaning y.1) (λ y. (given.RangeOp-dyn g y).range_meaning y.1) c.args.ops.now in
    c.undo_one.ensures.means z from (c.notes.invariant.means z from m)

pub returns-in-Ok-None-clause-accounts : goal.returns-in-Ok-None-clause-accounts
returns-in-Ok-None-clause-accounts g c =
    accounting.accounts_done (g.E.Engine.view c.args.self.now.engine) (g.E.Engine.view c.undo_one.new.self.engine) _ (accounting.unfailed_both (g.E.Engine.view c.args.self.now.engine) (g.E.Engine.view c.notes.self.engine) (g.E.Engine.view c.undo_one.new.self.engine) c.notes.invariant.accounts (accounting.unfailed_done (g.E.Engine.view c.notes.self.engine) (g.E.Engine.view c.undo_one.new.self.engine) _ c.in-Ok-None.ensures.accounts))

pub returns-in-Err-clause-accounts : goal.returns-in-Err-clause-accounts
returns-in-Err-clause-accounts g c =
    accounting.accounts_then (g.E.Engine.view c.args.self.now.engine) (g.E.Engine.view c.notes.self.engine) (g.E.Engine.view c.undo_one.new.self.engine) c.in-Err.fault c.notes.invariant.accounts c.notes.invariant.tells c.in-Err.ensures.accounts
