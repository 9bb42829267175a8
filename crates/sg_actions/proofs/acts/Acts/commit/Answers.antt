use Rattle.std.proofs.Common.{◌≡◌, sym, ap, ◌∙◌, List, length, refl, arith, ℕ}
use Rattle.sg_actions.proofs.Accounting.{within_by}
use Rattle.sg_actions.proofs.Handing.{forced_hands, long_commit}
use Rattle.sg_actions.proofs.Closing.{committed, commit_appends, has_gone, fails, appends_look, stays_of, on_ok2}
use Rattle.sg_actions.proofs.InRange.{commit_in}
use Rattle.sg_actions.proofs.Placing.{front_is, length-placed}
use Rattle.sg_actions.specs.Rows.{last_in, placed}
use Rattle.sg_actions.specs.declared.rows.Row.{Row}
use Rattle.sg_record.specs.Records.Says.{Commit as SaysCommit}
use Rattle.sg_record.specs.Shown.{by}
use Rattle.sg_recovery.specs.Log.Record.{Commit}
use Rattle.sg_actions.specs.Engine.{led}
use Rattle.sg_actions.proofs.Led.{log_call, look_call}
use Rattle.sg_actions.proofs.Calling.{said_log_any}
use Rattle.sg_actions.proofs.Calling.{said_any}
use Rattle.sg_actions.proofs.GoingOn.{formed_commit, can_rest_told}
use Rattle.std.proofs.lemmas.Result.{err_from_is_err_and}
use Rattle.sg_actions.proofs.Counted.{acts_err, acts_last}
use Rattle.sg_actions.proofs.Counting.{looked_none, looked_engine}
use Rattle.sg_actions.proofs.acts.Acts.commit.Goals as goal

pub log-requires-clause-range : goal.log-requires-clause-range
log-requires-clause-range g c = commit_in _ _ c.is_number.ensures c.is_number-2.ensures

pub returns-clause-did : goal.returns-clause-did
returns-clause-did g c = λ limits t from m. let txn = c.args.txn in
    let row : Row = record { txn = txn; last = c.in_ok-lsn.lsn } in
    let long : length c.place.new.rows ≡ c.args.self.now.rows.len = ap length c.place.ensures ∙ (length-placed c.as_mut_slice.result.now txn.0 row ∙ c.as_mut_slice.ensures.len) in
    let rows = front_is c.args.self.now.rows.len c.place.new.rows _ long ∙ (c.place.ensures ∙ ap (λ (rs : List Row). placed rs txn.0 row) c.as_mut_slice.ensures.value) in
    let was = sym (ap (λ (rs : List Row). last_in rs c.args.txn.0) c.as_slice.ensures.value) ∙ (sym c.last_in.ensures ∙ c.in-Some.is) in
    on_ok2 c.force.result (λ s d. committed t limits (led from (g.E.Engine.view c.args.self.now.engine)) (led from (g.E.Engine.view c.log.new.self)) (led from (g.E.Engine.view c.force.new.self)) c.args.self.now.maps c.args.self.now.unfreed c.args.self.now.rows.items _ c.args.self.now.actor txn c.in-Some.prev c.in_ok-lsn.lsn c.requires.can was (log_call from c.in_ok-lsn.ensures.grows (c.in_ok-lsn.ensures.logs t from m)).did s d rows) (look_call from c.force.ensures.rests (c.force.ensures.looks t from (c.in_ok-lsn.ensures.means t from m))).stays (c.force.ensures.forced t from (c.in_ok-lsn.ensures.means t from m))

pub returns-clause-appends : goal.returns-clause-appends
returns-clause-appends g c = λ limits t from m. let was = sym (ap (λ (rs : List Row). last_in rs c.args.txn.0) c.as_slice.ensures.value) ∙ (sym c.last_in.ensures ∙ c.in-Some.is) in
    let l = (log_call from c.in_ok-lsn.ensures.grows (c.in_ok-lsn.ensures.logs t from m)) in
    λ told k. appends_look (g.E.Engine.recovers t) t (led from (g.E.Engine.view c.args.self.now.engine)) (led from (g.E.Engine.view c.log.new.self)) (led from (g.E.Engine.view c.force.new.self)) c.args.self.now.rows.items c.args.txn.0 _ c.force.result (look_call from c.force.ensures.rests (c.force.ensures.looks t from (c.in_ok-lsn.ensures.means t from m))) (l.did.told told) (l.did.logged told).first (l.did.logged told).durable
    (stays_of (led from (g.E.Engine.view c.log.new.self)) (led from (g.E.Engine.view c.force.new.self)) c.force.result (look_call from c.force.ensures.rests (c.force.ensures.looks t from (c.in_ok-lsn.ensures.means t from m))) (λ z. g.met.E.Engine.told_whole _ z) (l.did.told told))
    (commit_appends (g.E.Engine.recovers t) t limits (led from (g.E.Engine.view c.args.self.now.engine)) (led from (g.E.Engine.view c.log.new.self)) c.args.self.now.maps c.args.self.now.unfreed c.args.self.now.rows.items c.args.self.now.actor c.args.txn.0 c.in-Some.prev _ c.requires.can was l
    (has_gone (led from (g.E.Engine.view c.args.self.now.engine)) (led from (g.E.Engine.view c.log.new.self)) (by c.args.txn.0 c.in-Some.prev SaysCommit) (Commit c.args.txn.0 c.in-Some.prev) c.in_ok-lsn.lsn refl l.did l.counts.told) told k)

pub returns-in_err-lsn-clause-appends : goal.returns-in_err-lsn-clause-appends
returns-in_err-lsn-clause-appends g c = λ limits t from m. let was = sym (ap (λ (rs : List Row). last_in rs c.args.txn.0) c.as_slice.ensures.value) ∙ (sym c.last_in.ensures ∙ c.in-Some.is) in
    commit_appends (g.E.Engine.recovers t) t limits (led from (g.E.Engine.view c.args.self.now.engine)) (led from (g.E.Engine.view c.log.new.self)) c.args.self.now.maps c.args.self.now.unfreed c.args.self.now.rows.items c.args.self.now.actor c.args.txn.0 c.in-Some.prev _ c.requires.can was (log_call from c.in_err-lsn.ensures.grows (c.in_err-lsn.ensures.logs t from m))
    (λ told. fails (led from (g.E.Engine.view c.log.new.self)) (λ z. g.met.E.Engine.told_whole _ z) (log_call from c.in_err-lsn.ensures.grows (c.in_err-lsn.ensures.logs t from m)).counts.failed told)

pub invariant_of-self-2-clause-pages_said : goal.invariant_of-self-2-clause-pages_said
invariant_of-self-2-clause-pages_said g c = said_any c.args.self.now.maps.pages (g.met.E.Engine.some c.log.new.self) (λ t. (record { rests = c.force.ensures.rests; keeps = λ from m. c.force.ensures.means t from m; looks = λ from m. c.force.ensures.looks t from m; whole = g.met.E.Engine.told_whole _; full = g.met.E.Engine.full_failed _; now = λ from m. g.met.E.Engine.now_is _ t from m; now' = λ from m. g.met.E.Engine.now_is _ t from m })) c.force.ensures.rests.counts.told (said_log_any g.E.Engine.recovers (g.E.Engine.means c.args.self.now.engine) (g.E.Engine.means c.log.new.self) c.args.self.now.maps.pages (g.met.E.Engine.some c.args.self.now.engine) (λ t. (record { grows = c.log.ensures.grows; keeps = λ from m. c.log.ensures.means t from m; logs = λ from m. c.log.ensures.logs t from m; whole = g.met.E.Engine.told_whole _; full = g.met.E.Engine.full_failed _; now = λ from m. g.met.E.Engine.now_is _ t from m; now' = λ from m. g.met.E.Engine.now_is _ t from m; law = λ from m. g.met.E.Engine.lawful _ t from m })) refl c.args.self.now.pages_said)

pub invariant_of-self-2-clause-within : goal.invariant_of-self-2-clause-within
invariant_of-self-2-clause-within g c = within_by c.force.ensures.rests.counts (within_by c.log.ensures.grows.counts c.args.self.now.within)

pub invariant_of-self-2-clause-unbroken : goal.invariant_of-self-2-clause-unbroken
invariant_of-self-2-clause-unbroken g c = λ told. c.args.self.now.unbroken (c.log.ensures.grows.counts.told (c.force.ensures.rests.counts.told told))

pub returns-in_err-lsn-clause-hands : goal.returns-in_err-lsn-clause-hands
returns-in_err-lsn-clause-hands g c = let h = (c.in_err-lsn.ensures.hands refl).most in omega (arith, h)

pub returns-clause-hands : goal.returns-clause-hands
returns-clause-hands g c = forced_hands 21 _ _ _ _ _ _ _ (let long = long_commit c.args.txn.0 c.in-Some.prev in omega (arith, long)) (c.in_ok-lsn.ensures.hands refl) c.force.ensures.hands

pub returns-clause-none_waits : goal.returns-clause-none_waits
returns-clause-none_waits g c = c.force.ensures.none_waits

pub log-requires-clause-can : goal.log-requires-clause-can
log-requires-clause-can g c = λ t from m told. record { there = tt; fits = tt; known = tt; formed = formed_commit (g.E.Engine.view c.args.self.now.engine) c.args.self.now.unfreed c.args.self.now.rows.items c.args.self.now.actor c.args.txn.0 c.in-Some.prev c.requires.can (sym (ap (λ (rs : List Row). last_in rs c.args.txn.0) c.as_slice.ensures.value) ∙ (sym c.last_in.ensures ∙ c.in-Some.is)) c.requires.chain told; means = λ u. u }

pub invariant_of-self-2-clause-goes_on : goal.invariant_of-self-2-clause-goes_on
invariant_of-self-2-clause-goes_on g c = can_rest_told (g.E.Engine.view c.args.self.now.engine) (g.E.Engine.view c.force.new.self) _ _ (λ told. c.log.ensures.grows.counts.told (c.force.ensures.rests.counts.told told)) c.requires.quiet

pub returns-in_err-lsn-clause-counts : goal.returns-in_err-lsn-clause-counts
returns-in_err-lsn-clause-counts g c =
    let p = err_from_is_err_and c.from_residual.result c.from_residual.ensures.1 in
    acts_err {T = ℕ} c.from_residual.result c.in_err-lsn.field-0.0 p.0 p.1 p.2 (g.met.E.Engine.told_whole _) (looked_none (g.E.Engine.view c.args.self.now.engine) c.args.self.now.breaks) c.in_err-lsn.ensures.grows.counts

pub returns-clause-counts : goal.returns-clause-counts
returns-clause-counts g c = acts_last c.force.result (g.met.E.Engine.told_whole _) (looked_engine c.args.self.now.breaks c.in_ok-lsn.ensures.grows.counts) c.force.ensures.rests.counts
