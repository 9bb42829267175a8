use Rattle.std.proofs.Common.{refl, ℕ}
use Rattle.std.proofs.Common.{sym, subst, List, Bool}
use Rattle.sg_actions.specs.Calls.{AreSettled}
use Rattle.sg_actions.proofs.Closing.{undo_ended, undo_end_appends}
use Rattle.sg_actions.proofs.InRange.{comp_end_in}
use Rattle.sg_actions.specs.Engine.{led}
use Rattle.sg_actions.proofs.Led.{log_call}
use Rattle.sg_actions.proofs.Calling.{said_log_any}
use Rattle.sg_actions.proofs.Settled.{said_settled}
use Rattle.sg_actions.proofs.GoingOn.{formed_undone}
use Rattle.std.proofs.lemmas.Result.{err_from_is_err_and}
use Rattle.sg_actions.proofs.Counted.{engine_err, engine_ok}
use Rattle.sg_actions.proofs.acts.Acts.end_undo.Goals as goal

pub returns-clause-did : goal.returns-clause-did
returns-clause-did g c = λ limits t from m. let e = led from (g.E.Engine.view c.args.self.now.engine) in
    let e' = led from (g.E.Engine.view c.log.new.self) in
    let actor = c.args.self.now.actor in
    let maps = c.args.self.now.maps in
    let unfreed = c.args.self.now.unfreed in
    let pages = subst (λ (xs : List Bool). AreSettled maps.pages unfreed.pages xs c.settle_bands.new.unfreed.pages) (sym c.settle_bands.ensures.pages)
    (subst (λ (ys : List Bool). AreSettled maps.pages unfreed.pages c.settle_pages.new.maps.pages ys) (sym c.settle_bands.ensures.unfreed) c.settle_pages.ensures.pages) in
    let bands = subst (λ (xs : List Bool). AreSettled xs unfreed.bands c.settle_bands.new.maps.bands c.settle_bands.new.unfreed.bands) c.settle_pages.ensures.bands
    (subst (λ (ys : List Bool). AreSettled c.settle_pages.new.maps.bands ys c.settle_bands.new.maps.bands c.settle_bands.new.unfreed.bands) c.settle_pages.ensures.unfreed c.settle_bands.ensures.bands) in
    undo_ended t limits e e' maps c.settle_bands.new.maps unfreed c.settle_bands.new.unfreed c.args.self.now.rows.items _ actor c.args.txn.0 c.args.after c.in_ok-lsn.lsn
    c.requires.can (log_call from c.in_ok-lsn.ensures.grows (c.in_ok-lsn.ensures.logs t from m)).did c.keep_row.ensures pages bands

pub returns-clause-appends : goal.returns-clause-appends
returns-clause-appends g c = λ limits t from m. undo_end_appends (g.E.Engine.recovers t) t limits (led from (g.E.Engine.view c.args.self.now.engine)) (led from (g.E.Engine.view c.log.new.self)) c.args.self.now.maps c.args.self.now.rows.items c.args.self.now.actor c.args.txn.0 c.args.after _ c.requires.can (log_call from c.in_ok-lsn.ensures.grows (c.in_ok-lsn.ensures.logs t from m)) (λ z. g.met.E.Engine.told_whole _ z)

pub returns-in_err-lsn-clause-appends : goal.returns-in_err-lsn-clause-appends
returns-in_err-lsn-clause-appends g c = λ limits t from m. undo_end_appends (g.E.Engine.recovers t) t limits (led from (g.E.Engine.view c.args.self.now.engine)) (led from (g.E.Engine.view c.log.new.self)) c.args.self.now.maps c.args.self.now.rows.items c.args.self.now.actor c.args.txn.0 c.args.after _ c.requires.can (log_call from c.in_err-lsn.ensures.grows (c.in_err-lsn.ensures.logs t from m)) (λ z. g.met.E.Engine.told_whole _ z)

pub log-requires-clause-range : goal.log-requires-clause-range
log-requires-clause-range g c = comp_end_in _ _ _ c.is_number.ensures c.is_number-2.ensures c.is_number-3.ensures

pub invariant_of-self-2-clause-pages_said : goal.invariant_of-self-2-clause-pages_said
invariant_of-self-2-clause-pages_said g c = λ told. said_settled c.args.self.now.maps.pages c.args.self.now.unfreed.pages c.settle_pages.new.maps.pages c.settle_pages.new.unfreed.pages c.settle_bands.new.maps.pages (g.E.Engine.view c.log.new.self).now.pages c.settle_pages.ensures.pages c.settle_bands.ensures.pages
    (said_log_any g.E.Engine.recovers (g.E.Engine.means c.args.self.now.engine) (g.E.Engine.means c.log.new.self) c.args.self.now.maps.pages (g.met.E.Engine.some c.args.self.now.engine) (λ t. (record { grows = c.log.ensures.grows; keeps = λ from m. c.log.ensures.means t from m; logs = λ from m. c.log.ensures.logs t from m; whole = g.met.E.Engine.told_whole _; full = g.met.E.Engine.full_failed _; now = λ from m. g.met.E.Engine.now_is _ t from m; now' = λ from m. g.met.E.Engine.now_is _ t from m; law = λ from m. g.met.E.Engine.lawful _ t from m })) refl c.args.self.now.pages_said told)

pub invariant_of-self-2-clause-unbroken : goal.invariant_of-self-2-clause-unbroken
invariant_of-self-2-clause-unbroken g c = λ told. c.args.self.now.unbroken (c.log.ensures.grows.counts.told told)

pub log-requires-clause-can : goal.log-requires-clause-can
log-requires-clause-can g c = λ t from m told. record { there = tt; fits = tt; known = tt; formed = formed_undone (g.E.Engine.view c.args.self.now.engine) c.args.self.now.rows.items c.args.self.now.actor c.args.txn.0 c.args.after c.requires.can c.requires.chain told; means = λ u. u }

pub returns-in_err-lsn-clause-counts : goal.returns-in_err-lsn-clause-counts
returns-in_err-lsn-clause-counts g c =
    let p = err_from_is_err_and c.from_residual.result c.from_residual.ensures.1 in
    engine_err {T = ℕ} c.from_residual.result c.in_err-lsn.field-0.0 p.0 p.1 p.2 c.in_err-lsn.ensures.grows.counts

pub returns-clause-counts : goal.returns-clause-counts
returns-clause-counts g c = engine_ok {T = ℕ} _ c.in_ok-lsn.ensures.grows.counts
