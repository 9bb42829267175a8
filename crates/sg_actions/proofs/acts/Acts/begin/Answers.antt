use Rattle.std.proofs.Common.{◌≡◌, ℕ, ◌≤◌, ◌<◌, refl, subst, sym, ap, ◌∙◌, List, length}
use Rattle.sg_actions.proofs.Accounting.{within_by}
use Rattle.sg_actions.proofs.Beginning.{begun_is, begin_appends}
use Rattle.sg_actions.proofs.Placing.{front_is, length-placed}
use Rattle.sg_actions.specs.Rows.{placed}
use Rattle.sg_actions.specs.declared.rows.Row.{Row}
use Rattle.sg_actions.specs.Engine.{led}
use Rattle.sg_actions.proofs.Led.{log_call}
use Rattle.sg_actions.proofs.Calling.{said_log_any}
use Rattle.sg_actions.proofs.GoingOn.{formed_begin, can_rest_told}
use Rattle.std.proofs.lemmas.Result.{err_from_is_err_and}
use Rattle.sg_actions.proofs.Counted.{engine_err, engine_ok}
use Rattle.sg_actions.proofs.acts.Acts.begin.Goals as goal

pub returns-clause-number : goal.returns-clause-number
returns-clause-number g c =
    let placed = c.in_ok-log.ensures.grows.placed in
    let same = c.in_ok-log.ensures.number refl ∙ sym c.next.ensures in (
      subst (λ (n : ℕ). (g.E.Engine.view c.args.self.now.engine).tail ≤ n) same placed.above,
      subst (λ (n : ℕ). n < (g.E.Engine.view c.log.new.self).tail) same placed.below,
    )

pub returns-clause-did : goal.returns-clause-did
returns-clause-did g c = λ limits t from m. let row : Row = record { txn = record { 0 = c.next.result }; last = c.next.result } in
    let long : length c.place.new.rows ≡ c.args.self.now.rows.len = ap length c.place.ensures ∙ (length-placed c.as_mut_slice.result.now 0 row ∙ c.as_mut_slice.ensures.len) in
    let rows = front_is c.args.self.now.rows.len c.place.new.rows _ long ∙ (c.place.ensures ∙ ap (λ (rs : List Row). placed rs 0 row) c.as_mut_slice.ensures.value) in
    begun_is t limits (led from (g.E.Engine.view c.args.self.now.engine)) (led from (g.E.Engine.view c.log.new.self)) c.args.self.now.maps c.args.self.now.unfreed c.args.self.now.rows.items _ c.args.self.now.actor (record { 0 = c.next.result }) c.in_ok-log.field-0
    c.requires.can (c.next.ensures ∙ sym (c.in_ok-log.ensures.number refl)) (log_call from c.in_ok-log.ensures.grows (c.in_ok-log.ensures.logs t from m)).did rows

pub returns-clause-appends : goal.returns-clause-appends
returns-clause-appends g c = λ limits t from m. begin_appends (g.E.Engine.recovers t) t limits (led from (g.E.Engine.view c.args.self.now.engine)) (led from (g.E.Engine.view c.log.new.self)) c.args.self.now.maps c.args.self.now.unfreed c.args.self.now.rows.items c.args.self.now.actor c.next.result _
    c.requires.can (log_call from c.in_ok-log.ensures.grows (c.in_ok-log.ensures.logs t from m)) (λ told. c.in_ok-log.ensures.tried refl told ∙ sym c.next.ensures) (λ z. g.met.E.Engine.told_whole _ z)

pub returns-in_err-log-clause-appends : goal.returns-in_err-log-clause-appends
returns-in_err-log-clause-appends g c = λ limits t from m. begin_appends (g.E.Engine.recovers t) t limits (led from (g.E.Engine.view c.args.self.now.engine)) (led from (g.E.Engine.view c.log.new.self)) c.args.self.now.maps c.args.self.now.unfreed c.args.self.now.rows.items c.args.self.now.actor c.next.result _
    c.requires.can (log_call from c.in_err-log.ensures.grows (c.in_err-log.ensures.logs t from m)) (λ told. c.in_err-log.ensures.tried refl told ∙ sym c.next.ensures) (λ z. g.met.E.Engine.told_whole _ z)

pub invariant_of-self-2-clause-pages_said : goal.invariant_of-self-2-clause-pages_said
invariant_of-self-2-clause-pages_said g c = said_log_any g.E.Engine.recovers (g.E.Engine.means c.args.self.now.engine) (g.E.Engine.means c.log.new.self) c.args.self.now.maps.pages (g.met.E.Engine.some c.args.self.now.engine) (λ t. (record { grows = c.log.ensures.grows; keeps = λ from m. c.log.ensures.means t from m; logs = λ from m. c.log.ensures.logs t from m; whole = g.met.E.Engine.told_whole _; full = g.met.E.Engine.full_failed _; now = λ from m. g.met.E.Engine.now_is _ t from m; now' = λ from m. g.met.E.Engine.now_is _ t from m; law = λ from m. g.met.E.Engine.lawful _ t from m })) refl c.args.self.now.pages_said

pub invariant_of-self-2-clause-within : goal.invariant_of-self-2-clause-within
invariant_of-self-2-clause-within g c = within_by c.log.ensures.grows.counts c.args.self.now.within

pub invariant_of-self-2-clause-unbroken : goal.invariant_of-self-2-clause-unbroken
invariant_of-self-2-clause-unbroken g c = λ told. c.args.self.now.unbroken (c.log.ensures.grows.counts.told told)

pub log-requires-clause-can : goal.log-requires-clause-can
log-requires-clause-can g c = λ t from m told. record { there = tt; fits = tt; known = tt; formed = formed_begin (g.E.Engine.view c.args.self.now.engine) c.args.self.now.unfreed c.args.self.now.rows.items c.args.self.now.actor c.next.result c.requires.can c.next.ensures c.requires.chain told; means = λ u. u }

pub invariant_of-self-2-clause-goes_on : goal.invariant_of-self-2-clause-goes_on
invariant_of-self-2-clause-goes_on g c = can_rest_told (g.E.Engine.view c.args.self.now.engine) (g.E.Engine.view c.log.new.self) _ _ c.log.ensures.grows.counts.told c.requires.quiet

pub returns-in_err-log-clause-counts : goal.returns-in_err-log-clause-counts
returns-in_err-log-clause-counts g c =
    let p = err_from_is_err_and c.from_residual.result c.from_residual.ensures.1 in
    engine_err {T = ℕ} c.from_residual.result c.in_err-log.field-0.0 p.0 p.1 p.2 c.in_err-log.ensures.grows.counts

pub returns-clause-counts : goal.returns-clause-counts
returns-clause-counts g c = engine_ok {T = ℕ} _ c.in_ok-log.ensures.grows.counts
