use Rattle.std.proofs.Common.{◌≡◌, ℕ, true, List, sym, subst}
use Rattle.sg_recovery.specs.Log.{is_in}
use Rattle.sg_starting.specs.Starting.{AreLosers}
use Rattle.sg_disk.proofs.Moments.{joined}
use Rattle.sg_starting.proofs.Started.{starts_ok}
use Rattle.sg_ops.specs.Table.{table_of}
use Rattle.sg_store.specs.Engine.{led}
use Rattle.sg_starting.proofs.losers.settle_losers.Given as given
use Rattle.sg_store.proofs.Accounting as accounting
use Rattle.sg_starting.proofs.losers.settle_losers.Goals as goal

pub returns-clause-stands : goal.returns-clause-stands
returns-clause-stands g c z from l told down m lawful k all =
    let t = table_of (λ y. (given.RecordOp-dyn g y).record_meaning y.1) (λ y. (given.RangeOp-dyn g y).range_meaning y.1) c.args.ops.now in
    let u = c.in-Ok.ensures.undone z from l told down m lawful k all in
    joined (c.undo_losers.ensures.stands z from l told down m lawful k all) (c.end_losers.ensures.stands t z from (c.undo_losers.ensures.means z from l) (c.in-Ok.ensures.tells told) down m lawful u.0 u.1)

pub returns-clause-shows : goal.returns-clause-shows
returns-clause-shows g c z from l told down m lawful k all =
    let t = table_of (λ y. (given.RecordOp-dyn g y).record_meaning y.1) (λ y. (given.RangeOp-dyn g y).range_meaning y.1) c.args.ops.now in
    let u = c.in-Ok.ensures.undone z from l told down m lawful k all in
    starts_ok _ (g.E.Engine.basis z) lawful (led t z from (g.E.Engine.view c.end_losers.new.engine)) down m c.end_losers.result (c.end_losers.ensures.ended t z from (c.undo_losers.ensures.means z from l) (c.in-Ok.ensures.tells told) down m lawful u.0 u.1 (subst (λ (ls : List ℕ). AreLosers ls c.args.losers.now) (sym u.2) all))

pub end_losers-requires : goal.end_losers-requires
end_losers-requires g c =
    let t = table_of (λ y. (given.RecordOp-dyn g y).record_meaning y.1) (λ y. (given.RangeOp-dyn g y).range_meaning y.1) c.args.ops.now in
    let s = c.requires.can in
    record {
      can = record {
        by = t;
        sizes = s.sizes;
        from = λ told. s.from (c.undo_losers.ensures.told told);
        means = λ told. c.undo_losers.ensures.means s.sizes (s.from (c.undo_losers.ensures.told told)) (s.means (c.undo_losers.ensures.told told));
        can = λ told.
            (let one = c.undo_losers.ensures.told told in
            let h = s.can one in
            let o = h.over.opening in
            let u = c.in-Ok.ensures.undone s.sizes (s.from one) (s.means one) one o.down o.objects o.lawful o.starts h.cover in
            record { over = record { opening = record { lawful = o.lawful; down = o.down; objects = o.objects; starts = u.0 }; live = λ n among. subst (λ (ls : List ℕ). is_in n ls ≡ true) (sym u.2) (h.over.live n among) }; apart = h.apart; undone = u.1 });
      };
    }

pub returns-clause-means : goal.returns-clause-means
returns-clause-means g c z from l =
    let t = table_of (λ y. (given.RecordOp-dyn g y).record_meaning y.1) (λ y. (given.RangeOp-dyn g y).range_meaning y.1) c.args.ops.now in
    c.end_losers.ensures.means t z from (c.undo_losers.ensures.means z from l)

pub returns-clause-accounts : goal.returns-clause-accounts
returns-clause-accounts g c =
    accounting.accounts_behind (g.E.Engine.view c.args.engine.now) (g.E.Engine.view c.undo_losers.new.engine) (g.E.Engine.view c.end_losers.new.engine) c.end_losers.result (accounting.unfailed_done (g.E.Engine.view c.args.engine.now) (g.E.Engine.view c.undo_losers.new.engine) _ c.in-Ok.ensures.accounts) c.in-Ok.ensures.tells c.end_losers.ensures.accounts
