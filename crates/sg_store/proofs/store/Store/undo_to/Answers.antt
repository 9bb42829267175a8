use Rattle.std.proofs.Common.{◌≡◌, ◌+◌, ◌≤◌, true, List, refl, sym, ap, ◌∙◌, subst, arith}
use Rattle.sg_ops.specs.Table.{table_of}
use Rattle.sg_core.specs.Live.{Txn, is_live}
use Rattle.sg_store.specs.Accounting.{Unfailed}
use Rattle.sg_store.specs.Calls.{IsBackSince, IsBack}
use Rattle.sg_store.specs.Drops.{given_by}
use Rattle.sg_store.specs.Engine.{led}
use Rattle.sg_store.specs.Ground.{IsLawful}
use Rattle.sg_store.specs.Seen.{core_of}
use Rattle.sg_store.specs.Store.{Core}
use Rattle.sg_store.proofs.Rolling as rolling
use Rattle.sg_store.proofs.store.Store.undo_to.Given as given
use Rattle.sg_store.proofs.Serving as serving
use Rattle.sg_store.proofs.Accounting as accounting
use Rattle.sg_store.proofs.store.Store.undo_to.Goals as goal

pub notes-init : goal.notes-init
notes-init g c = record {
  means = λ z from m. m;
  told = λ h. h;
  tells = λ h. h;
  later = omega arith;
  quiet = refl;
  tail = omega arith;
  accounts = accounting.unfailed_none (g.E.Engine.view c.args.self.now.engine);
  same = refl;
  live = c.requires.live;
  done = λ z from m told. rolling.back_none _ (g.E.Engine.basis z) _ (led _ z from (g.E.Engine.view c.args.self.now.engine)) c.args.self.now.txns c.args.txn.0 c.args.stop c.tail-at.result c.tail-at.ensures;
}

pub notes-preserved : goal.notes-preserved
notes-preserved g c =
    let t = table_of (λ y. (given.RecordOp-dyn g y).record_meaning y.1) (λ y. (given.RangeOp-dyn g y).range_meaning y.1) c.args.ops.now in
    let i = c.notes.invariant in
    let undid = rw c.in-Ok-Some.field-0-is at c.in-Ok-Some.ensures.undid in
    let later : (g.E.Engine.view c.args.self.now.engine).faults ≤ (g.E.Engine.view c.undo_one_to.new.self.engine).faults = omega (arith, i.later, c.undo_one_to.ensures.later) in
    let tail : (g.E.Engine.view c.args.self.now.engine).tail ≤ (g.E.Engine.view c.undo_one_to.new.self.engine).tail = omega (arith, i.tail, c.undo_one_to.ensures.tail) in
    let same_live = (ap (λ (k : Core). k.live) c.undo_one_to.ensures.core) in
    record {
      means = λ z from m. subst (λ e. (g.E.Engine.view e).means t z from) (sym c.give_back.ensures.engine) (c.undo_one_to.ensures.means z from (i.means z from m));
      told = λ h. i.told (c.undo_one_to.ensures.told (subst (λ e. (g.E.Engine.view e).Told) c.give_back.ensures.engine h));
      tells = λ h. subst (λ e. (g.E.Engine.view e).Told) (sym c.give_back.ensures.engine) (c.in-Ok-Some.ensures.tells (i.tells h));
      later = subst (λ e. (g.E.Engine.view c.args.self.now.engine).faults ≤ (g.E.Engine.view e).faults) (sym c.give_back.ensures.engine) later;
      quiet = ap (λ e. (g.E.Engine.view e).faults) c.give_back.ensures.engine ∙ (c.in-Ok-Some.ensures.quiet ∙ i.quiet);
      tail = subst (λ e. (g.E.Engine.view c.args.self.now.engine).tail ≤ (g.E.Engine.view e).tail) (sym c.give_back.ensures.engine) tail;
      accounts = subst (λ e. Unfailed (g.E.Engine.view c.args.self.now.engine) (g.E.Engine.view e)) (sym c.give_back.ensures.engine)
          (accounting.unfailed_both (g.E.Engine.view c.args.self.now.engine) (g.E.Engine.view c.notes.self.engine) (g.E.Engine.view c.undo_one_to.new.self.engine) i.accounts (accounting.unfailed_done (g.E.Engine.view c.notes.self.engine) (g.E.Engine.view c.undo_one_to.new.self.engine) _ c.in-Ok-Some.ensures.accounts));
      same = c.give_back.ensures.core ∙ ap (λ (k : Core). record k { live = c.give_back.new.self.txns }) (c.undo_one_to.ensures.core ∙ i.same);
      live = c.give_back.ensures.live;
      done = λ z from m told.
          subst (λ e. IsBackSince t (g.E.Engine.basis z) (IsLawful t (g.E.Engine.basis z)) (led t z from (g.E.Engine.view c.args.self.now.engine)) (led t z from (g.E.Engine.view e)) c.args.self.now.txns c.give_back.new.self.txns c.args.txn.0 c.args.stop c.in-Ok-Some.after) (sym c.give_back.ensures.engine)
          (rolling.back_more t (g.E.Engine.basis z) (IsLawful t (g.E.Engine.basis z)) (led t z from (g.E.Engine.view c.args.self.now.engine)) c.args.self.now.txns c.args.txn.0 c.args.stop (led t z from (g.E.Engine.view c.notes.self.engine)) (led t z from (g.E.Engine.view c.undo_one_to.new.self.engine)) c.notes.self.txns c.notes.at (i.done z from m told)
          c.in-Ok-Some.after c.undo_one_to.new.self.note c.give_back.new.self.txns
          (c.give_back.ensures.given t z from (c.undo_one_to.ensures.means z from (i.means z from m)) (c.in-Ok-Some.ensures.tells (i.tells told)) ∙ ap (λ (ks : List Txn). given_by ((g.E.Engine.basis z).wants ((g.E.Engine.basis z).note c.undo_one_to.new.self.note)) c.args.txn.0 ks) same_live)
          (c.undo_one_to.ensures.stays z from (i.means z from m) (i.tells told)) (undid z from (i.means z from m) (i.tells told)));
    }

pub returns-in-Ok-None-clause-stays : goal.returns-in-Ok-None-clause-stays
returns-in-Ok-None-clause-stays g c z from m told x lawful k live =
    let t = table_of (λ y. (given.RecordOp-dyn g y).record_meaning y.1) (λ y. (given.RangeOp-dyn g y).range_meaning y.1) c.args.ops.now in
    let i = c.notes.invariant in
    rolling.back_stays t (g.E.Engine.basis z) (IsLawful t (g.E.Engine.basis z)) (led t z from (g.E.Engine.view c.args.self.now.engine)) c.args.self.now.txns c.args.txn.0 c.args.stop (led t z from (g.E.Engine.view c.notes.self.engine)) (led t z from (g.E.Engine.view c.undo_one_to.new.self.engine)) c.notes.self.txns c.notes.at (i.done z from m told) x lawful k live (λ h. c.undo_one_to.ensures.stays z from (i.means z from m) (i.tells told) x lawful h live)

pub returns-in-Err-clause-stays : goal.returns-in-Err-clause-stays
returns-in-Err-clause-stays g c z from m told x lawful k live =
    let t = table_of (λ y. (given.RecordOp-dyn g y).record_meaning y.1) (λ y. (given.RangeOp-dyn g y).range_meaning y.1) c.args.ops.now in
    let i = c.notes.invariant in
    rolling.back_stays t (g.E.Engine.basis z) (IsLawful t (g.E.Engine.basis z)) (led t z from (g.E.Engine.view c.args.self.now.engine)) c.args.self.now.txns c.args.txn.0 c.args.stop (led t z from (g.E.Engine.view c.notes.self.engine)) (led t z from (g.E.Engine.view c.undo_one_to.new.self.engine)) c.notes.self.txns c.notes.at (i.done z from m told) x lawful k live (λ h. c.undo_one_to.ensures.stays z from (i.means z from m) (i.tells told) x lawful h live)

pub returns-in-Ok-None-clause-undone : goal.returns-in-Ok-None-clause-undone
returns-in-Ok-None-clause-undone g c z from m told x lawful k live =
    let t = table_of (λ y. (given.RecordOp-dyn g y).record_meaning y.1) (λ y. (given.RangeOp-dyn g y).range_meaning y.1) c.args.ops.now in
    let i = c.notes.invariant in
    let undid = rw c.in-Ok-None.field-0-is at c.in-Ok-None.ensures.undid in
    subst (λ (ks : List Txn). IsBack t (g.E.Engine.basis z) (led t z from (g.E.Engine.view c.undo_one_to.new.self.engine)) ks x c.args.txn.0 c.args.stop) (sym (ap (λ (k : Core). k.live) c.undo_one_to.ensures.core))
    (rolling.back_done t (g.E.Engine.basis z) (IsLawful t (g.E.Engine.basis z)) (led t z from (g.E.Engine.view c.args.self.now.engine)) c.args.self.now.txns c.args.txn.0 c.args.stop (led t z from (g.E.Engine.view c.notes.self.engine)) (led t z from (g.E.Engine.view c.undo_one_to.new.self.engine)) c.notes.self.txns c.notes.at (i.done z from m told) x lawful k live (λ h. undid z from (i.means z from m) (i.tells told) x lawful h live))

pub returns-in-Ok-None-clause-stock : goal.returns-in-Ok-None-clause-stock
returns-in-Ok-None-clause-stock g c z from m told x lawful k live =
    let t = table_of (λ y. (given.RecordOp-dyn g y).record_meaning y.1) (λ y. (given.RangeOp-dyn g y).range_meaning y.1) c.args.ops.now in
    let i = c.notes.invariant in
    let undid = rw c.in-Ok-None.field-0-is at c.in-Ok-None.ensures.undid in
    rolling.back_stock t (g.E.Engine.basis z) (IsLawful t (g.E.Engine.basis z)) (led t z from (g.E.Engine.view c.args.self.now.engine)) c.args.self.now.txns c.args.txn.0 c.args.stop (led t z from (g.E.Engine.view c.notes.self.engine)) (led t z from (g.E.Engine.view c.undo_one_to.new.self.engine)) c.notes.self.txns c.notes.at (i.done z from m told) x lawful k live (λ h. undid z from (i.means z from m) (i.tells told) x lawful h live)

pub undo_one_to-requires : goal.undo_one_to-requires
undo_one_to-requires g c =
    record { can = serving.back_since _ (g.E.Engine.view c.args.self.now.engine) (g.E.Engine.view c.notes.self.engine) (core_of c.args.self.now) (core_of c.notes.self) c.args.txn.0 c.args.stop c.notes.at c.requires.live c.notes.invariant c.requires.can }

pub give_back-requires : goal.give_back-requires
give_back-requires g c = subst (λ (k : Core). is_live k.live c.args.txn.0 ≡ true) (sym c.undo_one_to.ensures.core) c.notes.invariant.live

pub returns-in-Ok-None-clause-means : goal.returns-in-Ok-None-clause-means
returns-in-Ok-None-clause-means g c z from m =
    let t = table_of (λ y. (given.RecordOp-dyn g y).record_meaning y.1) (λ y. (given.RangeOp-dyn g y).range_meaning y.1) c.args.ops.now in
    c.undo_one_to.ensures.means z from (c.notes.invariant.means z from m)

pub returns-in-Ok-None-clause-core : goal.returns-in-Ok-None-clause-core
returns-in-Ok-None-clause-core g c = c.undo_one_to.ensures.core ∙ (c.notes.invariant.same ∙ ap (λ (ks : List Txn). record (core_of c.args.self.now) { live = ks }) (sym (ap (λ (k : Core). k.live) c.undo_one_to.ensures.core)))

pub returns-in-Ok-None-clause-live : goal.returns-in-Ok-None-clause-live
returns-in-Ok-None-clause-live g c = subst (λ (k : Core). is_live k.live c.args.txn.0 ≡ true) (sym c.undo_one_to.ensures.core) c.notes.invariant.live

pub returns-in-Err-clause-means : goal.returns-in-Err-clause-means
returns-in-Err-clause-means g c z from m =
    let t = table_of (λ y. (given.RecordOp-dyn g y).record_meaning y.1) (λ y. (given.RangeOp-dyn g y).range_meaning y.1) c.args.ops.now in
    c.undo_one_to.ensures.means z from (c.notes.invariant.means z from m)

pub returns-in-Err-clause-core : goal.returns-in-Err-clause-core
returns-in-Err-clause-core g c = c.undo_one_to.ensures.core ∙ (c.notes.invariant.same ∙ ap (λ (ks : List Txn). record (core_of c.args.self.now) { live = ks }) (sym (ap (λ (k : Core). k.live) c.undo_one_to.ensures.core)))

pub returns-in-Err-clause-live : goal.returns-in-Err-clause-live
returns-in-Err-clause-live g c = subst (λ (k : Core). is_live k.live c.args.txn.0 ≡ true) (sym c.undo_one_to.ensures.core) c.notes.invariant.live

pub returns-in-Ok-None-clause-accounts : goal.returns-in-Ok-None-clause-accounts
returns-in-Ok-None-clause-accounts g c =
    accounting.accounts_done (g.E.Engine.view c.args.self.now.engine) (g.E.Engine.view c.undo_one_to.new.self.engine) _ (accounting.unfailed_both (g.E.Engine.view c.args.self.now.engine) (g.E.Engine.view c.notes.self.engine) (g.E.Engine.view c.undo_one_to.new.self.engine) c.notes.invariant.accounts (accounting.unfailed_done (g.E.Engine.view c.notes.self.engine) (g.E.Engine.view c.undo_one_to.new.self.engine) _ c.in-Ok-None.ensures.accounts))

pub returns-in-Err-clause-accounts : goal.returns-in-Err-clause-accounts
returns-in-Err-clause-accounts g c =
    accounting.accounts_then (g.E.Engine.view c.args.self.now.engine) (g.E.Engine.view c.notes.self.engine) (g.E.Engine.view c.undo_one_to.new.self.engine) c.in-Err.fault c.notes.invariant.accounts c.notes.invariant.tells c.in-Err.ensures.accounts
