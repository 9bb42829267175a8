use Rattle.std.proofs.Common.{◌≡◌, sym, ap, ◌∙◌, List, length, refl, ℕ}
use Rattle.sg_actions.proofs.Accounting.{within_by}
use Rattle.sg_actions.proofs.Closing.{marked, save_appends, has_gone, fails}
use Rattle.sg_actions.proofs.InRange.{save_in}
use Rattle.sg_actions.proofs.Placing.{front_is, length-placed}
use Rattle.sg_actions.specs.Rows.{last_in, placed}
use Rattle.sg_actions.specs.declared.rows.Row.{Row}
use Rattle.sg_record.specs.Records.Says.{Save as SaysSave}
use Rattle.sg_record.specs.Shown.{by}
use Rattle.sg_recovery.specs.Log.Record.{Save}
use Rattle.sg_actions.specs.Engine.{led}
use Rattle.sg_actions.proofs.Led.{log_call}
use Rattle.sg_actions.proofs.Calling.{said_log_any}
use Rattle.sg_actions.proofs.GoingOn.{formed_save, can_rest_told}
use Rattle.std.proofs.lemmas.Result.{err_from_is_err_and}
use Rattle.sg_actions.proofs.Counted.{acts_err}
use Rattle.sg_actions.proofs.Counting.{looked_none, looked_ok, looked_engine}
use Rattle.sg_actions.proofs.acts.Acts.save.Goals as goal

pub log-requires-clause-range : goal.log-requires-clause-range
log-requires-clause-range g c = save_in _ _ _ c.is_number.ensures c.is_number-2.ensures c.requires.mark.some c.requires.mark.most

pub returns-clause-did : goal.returns-clause-did
returns-clause-did g c = λ limits t from m. let txn = c.args.txn in
    let row : Row = record { txn = txn; last = c.in_ok-lsn.lsn } in
    let long : length c.place.new.rows ≡ c.args.self.now.rows.len = ap length c.place.ensures ∙ (length-placed c.as_mut_slice.result.now txn.0 row ∙ c.as_mut_slice.ensures.len) in
    let rows = front_is c.args.self.now.rows.len c.place.new.rows _ long ∙ (c.place.ensures ∙ ap (λ (rs : List Row). placed rs txn.0 row) c.as_mut_slice.ensures.value) in
    let was = sym (ap (λ (rs : List Row). last_in rs c.args.txn.0) c.as_slice.ensures.value) ∙ (sym c.last_in.ensures ∙ c.in-Some.is) in
    marked t limits (led from (g.E.Engine.view c.args.self.now.engine)) (led from (g.E.Engine.view c.log.new.self)) c.args.self.now.maps c.args.self.now.unfreed c.args.self.now.rows.items _ c.args.self.now.actor txn c.args.mark c.in-Some.prev c.in_ok-lsn.lsn c.requires.can was (log_call from c.in_ok-lsn.ensures.grows (c.in_ok-lsn.ensures.logs t from m)).did rows

pub returns-clause-appends : goal.returns-clause-appends
returns-clause-appends g c = λ limits t from m. let was = sym (ap (λ (rs : List Row). last_in rs c.args.txn.0) c.as_slice.ensures.value) ∙ (sym c.last_in.ensures ∙ c.in-Some.is) in
    save_appends (g.E.Engine.recovers t) t limits (led from (g.E.Engine.view c.args.self.now.engine)) (led from (g.E.Engine.view c.log.new.self)) c.args.self.now.maps c.args.self.now.unfreed c.args.self.now.rows.items c.args.self.now.actor c.args.txn.0 c.args.mark c.in-Some.prev _ c.requires.can was (log_call from c.in_ok-lsn.ensures.grows (c.in_ok-lsn.ensures.logs t from m))
    (has_gone (led from (g.E.Engine.view c.args.self.now.engine)) (led from (g.E.Engine.view c.log.new.self)) (by c.args.txn.0 c.in-Some.prev (SaysSave c.args.mark)) (Save c.args.txn.0 c.in-Some.prev c.args.mark) c.in_ok-lsn.lsn refl (log_call from c.in_ok-lsn.ensures.grows (c.in_ok-lsn.ensures.logs t from m)).did (log_call from c.in_ok-lsn.ensures.grows (c.in_ok-lsn.ensures.logs t from m)).counts.told)

pub returns-in_err-lsn-clause-appends : goal.returns-in_err-lsn-clause-appends
returns-in_err-lsn-clause-appends g c = λ limits t from m. let was = sym (ap (λ (rs : List Row). last_in rs c.args.txn.0) c.as_slice.ensures.value) ∙ (sym c.last_in.ensures ∙ c.in-Some.is) in
    save_appends (g.E.Engine.recovers t) t limits (led from (g.E.Engine.view c.args.self.now.engine)) (led from (g.E.Engine.view c.log.new.self)) c.args.self.now.maps c.args.self.now.unfreed c.args.self.now.rows.items c.args.self.now.actor c.args.txn.0 c.args.mark c.in-Some.prev _ c.requires.can was (log_call from c.in_err-lsn.ensures.grows (c.in_err-lsn.ensures.logs t from m))
    (λ told. fails (led from (g.E.Engine.view c.log.new.self)) (λ z. g.met.E.Engine.told_whole _ z) (log_call from c.in_err-lsn.ensures.grows (c.in_err-lsn.ensures.logs t from m)).counts.failed told)

pub invariant_of-self-2-clause-pages_said : goal.invariant_of-self-2-clause-pages_said
invariant_of-self-2-clause-pages_said g c = said_log_any g.E.Engine.recovers (g.E.Engine.means c.args.self.now.engine) (g.E.Engine.means c.log.new.self) c.args.self.now.maps.pages (g.met.E.Engine.some c.args.self.now.engine) (λ t. (record { grows = c.log.ensures.grows; keeps = λ from m. c.log.ensures.means t from m; logs = λ from m. c.log.ensures.logs t from m; whole = g.met.E.Engine.told_whole _; full = g.met.E.Engine.full_failed _; now = λ from m. g.met.E.Engine.now_is _ t from m; now' = λ from m. g.met.E.Engine.now_is _ t from m; law = λ from m. g.met.E.Engine.lawful _ t from m })) refl c.args.self.now.pages_said

pub invariant_of-self-2-clause-within : goal.invariant_of-self-2-clause-within
invariant_of-self-2-clause-within g c = within_by c.log.ensures.grows.counts c.args.self.now.within

pub invariant_of-self-2-clause-unbroken : goal.invariant_of-self-2-clause-unbroken
invariant_of-self-2-clause-unbroken g c = λ told. c.args.self.now.unbroken (c.log.ensures.grows.counts.told told)

pub log-requires-clause-can : goal.log-requires-clause-can
log-requires-clause-can g c = λ t from m told. record { there = tt; fits = tt; known = tt; formed = formed_save (g.E.Engine.view c.args.self.now.engine) c.args.self.now.unfreed c.args.self.now.rows.items c.args.self.now.actor c.args.txn.0 c.in-Some.prev c.args.mark c.requires.can (sym (ap (λ (rs : List Row). last_in rs c.args.txn.0) c.as_slice.ensures.value) ∙ (sym c.last_in.ensures ∙ c.in-Some.is)) c.requires.chain told; means = λ u. u }

pub invariant_of-self-2-clause-goes_on : goal.invariant_of-self-2-clause-goes_on
invariant_of-self-2-clause-goes_on g c = can_rest_told (g.E.Engine.view c.args.self.now.engine) (g.E.Engine.view c.log.new.self) _ _ c.log.ensures.grows.counts.told c.requires.quiet

pub returns-in_err-lsn-clause-counts : goal.returns-in_err-lsn-clause-counts
returns-in_err-lsn-clause-counts g c =
    let p = err_from_is_err_and c.from_residual.result c.from_residual.ensures.1 in
    acts_err {T = ℕ} c.from_residual.result c.in_err-lsn.field-0.0 p.0 p.1 p.2 (g.met.E.Engine.told_whole _) (looked_none (g.E.Engine.view c.args.self.now.engine) c.args.self.now.breaks) c.in_err-lsn.ensures.grows.counts

pub returns-clause-counts : goal.returns-clause-counts
returns-clause-counts g c = looked_ok _ (looked_engine c.args.self.now.breaks c.in_ok-lsn.ensures.grows.counts)
