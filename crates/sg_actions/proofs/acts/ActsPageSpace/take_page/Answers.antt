use Rattle.std.proofs.Common.{false, true, refl, ap, ◌∙◌, arith, length, inr, ◌≡◌}
use Rattle.std.proofs.lemmas.List.{length-set}
use Rattle.std.proofs.lemmas.Option.{slice_get_within}
use Rattle.sg_ops.specs.Table.{Table}
use Rattle.sg_record.specs.Changes.Change.{Page}
use Rattle.sg_record.specs.Shown.{shown_page}
use Rattle.sg_actions.specs.Changes.{op_said, back_said}
use Rattle.sg_actions.specs.Engine.{led}
use Rattle.sg_actions.specs.Onward.{later_same}
use Rattle.sg_actions.proofs.Banded.{bands_page, bands_as}
use Rattle.sg_actions.proofs.Calling.{later_log, made_log}
use Rattle.sg_actions.proofs.InRange.{format_in}
use Rattle.sg_actions.proofs.Led.{by_later, by_some}
use Rattle.sg_actions.proofs.Taking.{shows_take, take_on, take_same, took_by, took_prop, said_take, format_loggable}
use Rattle.sg_actions.proofs.Accounting.{within_by, within_as}
use Rattle.sg_space.specs.declared.space.SpaceFault.TheVariants.{Disk, LogEnd}
use Rattle.sg_actions.proofs.GoingOn.{formed_change, can_change}
use Rattle.sg_actions.proofs.acts.ActsPageSpace.take_page.Goals as goal

pub log-requires-clause-can : goal.log-requires-clause-can
log-requires-clause-can g c = λ t from m told. format_loggable t (g.E.Engine.view c.args.self.now.engine) _ _ c.take_page-p.result.0 c.args.kind _ (record { page_is = ap (λ x. x.page) c.spell.ensures; said = ap op_said c.spell.ensures })
    (let below = slice_get_within c.args.self.now.maps.pages c.take_page-p.result.0 false c.take_page-p.ensures.least.free in let w = (c.args.self.now.within told).pages in omega (arith, below, w))
    (formed_change (g.E.Engine.view c.args.self.now.engine) c.args.self.now.begun c.args.self.now.actor _ c.if-not-self.false c.args.self.now.goes_on told)

pub invariant_of-self-2-clause-pages_said : goal.invariant_of-self-2-clause-pages_said
invariant_of-self-2-clause-pages_said g c =
    let s = c.args.self.now in
    said_take s.maps.pages c.take_page-p.new.self.pages c.take_page-p.ensures.pages c.log.ensures.grows.counts.told s.pages_said
    (λ told told'. by_some (g.E.Engine.means s.engine) (g.met.E.Engine.some s.engine told) (took_prop (g.E.Engine.view s.engine) (g.E.Engine.view c.log.new.self) c.take_page-p.result.0 c.args.kind _ _ _ _) (λ t stands. took_by (record { page_is = ap (λ x. x.page) c.spell.ensures; said = ap op_said c.spell.ensures }) (made_log g.E.Engine.recovers (g.E.Engine.means s.engine) (g.E.Engine.means c.log.new.self) stands (record { grows = c.log.ensures.grows; keeps = λ from m. c.log.ensures.means t from m; logs = λ from m. c.log.ensures.logs t from m; whole = g.met.E.Engine.told_whole _; full = g.met.E.Engine.full_failed _; now = λ from m. g.met.E.Engine.now_is _ t from m; now' = λ from m. g.met.E.Engine.now_is _ t from m; law = λ from m. g.met.E.Engine.lawful _ t from m }) refl told told')))

pub invariant_of-self-2-clause-unbroken : goal.invariant_of-self-2-clause-unbroken
invariant_of-self-2-clause-unbroken g c = λ told. c.args.self.now.unbroken (c.log.ensures.grows.counts.told told)

pub returns : goal.returns
returns g c =
    let s = c.args.self.now in
    let e = (g.E.Engine.view s.engine) in
    let e' = (g.E.Engine.view c.log.new.self) in
    let counts = c.in_ok-self.ensures.grows.counts in
    let later = λ (t : Table). later_log {strict = true} g.E.Engine.recovers (g.E.Engine.limits (length c.args.self.now.maps.pages) (length c.args.self.now.maps.bands)) t (g.E.Engine.view c.args.self.now.engine) (g.E.Engine.view c.log.new.self) (g.E.Engine.means c.args.self.now.engine) (g.E.Engine.means c.log.new.self) (g.E.Engine.view c.args.self.now.begun_at.value).now c.args.self.now.maps c.take_page-p.new.self c.args.self.now.rows.items c.args.self.now.actor (record { txn = c.args.self.now.actor.txn; last = c.in_ok-self.field-0; before = c.args.self.now.actor.before }) c.args.self.now.begun (Page (shown_page c.spell.result)) _ c.if-not-self.false (format_in _ _ c.take_page-p.result.0 c.args.kind (shown_page c.spell.result) c.spell.ensures c.is_number.ensures c.is_number-2.ensures (let within = slice_get_within c.args.self.now.maps.pages c.take_page-p.result.0 false c.take_page-p.ensures.least.free in let few = c.args.self.now.few in let is = c.args.self.now.count_is in omega (arith, within, few, is))) (record { grows = c.in_ok-self.ensures.grows; keeps = λ from m. c.in_ok-self.ensures.means t from m; logs = λ from m. c.in_ok-self.ensures.logs t from m; whole = g.met.E.Engine.told_whole _; full = g.met.E.Engine.full_failed _; now = λ from m. g.met.E.Engine.now_is _ t from m; now' = λ from m. g.met.E.Engine.now_is _ t from m; law = λ from m. g.met.E.Engine.lawful _ t from m }) refl
    (record {
      on = λ from since told k. take_on t (g.E.Engine.limits (length c.args.self.now.maps.pages) (length c.args.self.now.maps.bands)) (led from (g.E.Engine.view c.args.self.now.engine)) c.args.self.now.maps c.take_page-p.new.self _ _ c.take_page-p.result.0 c.args.kind (shown_page c.spell.result) c.take_page-p.ensures.least.free c.take_page-p.ensures.pages c.take_page-p.ensures.bands (record { page_is = ap (λ x. x.page) c.spell.ensures; said = ap op_said c.spell.ensures }) (ap back_said c.spell.ensures) k;
      same = λ from m told. take_same t (g.E.Engine.limits (length c.args.self.now.maps.pages) (length c.args.self.now.maps.bands)) (led from (g.E.Engine.view c.args.self.now.engine)) c.args.self.now.maps c.take_page-p.new.self c.take_page-p.result.0 c.args.kind (shown_page c.spell.result) c.take_page-p.ensures.least.free c.take_page-p.ensures.pages c.take_page-p.ensures.bands (record { page_is = ap (λ x. x.page) c.spell.ensures; said = ap op_said c.spell.ensures }) (ap back_said c.spell.ensures);
      pages = ap length c.take_page-p.ensures.pages ∙ length-set c.args.self.now.maps.pages c.take_page-p.result.0 true;
      bands = ap length c.take_page-p.ensures.bands;
      holds = λ o from since told h. bands_page _ _ _ (bands_as c.take_page-p.ensures.bands h);
    }) in
    let pages = ap length c.take_page-p.ensures.pages ∙ length-set s.maps.pages c.take_page-p.result.0 true in
    let bands = ap length c.take_page-p.ensures.bands in
    record {
      counts = record { told = counts.told; later = omega (arith, counts.later); quiet = let a = counts.quiet in omega (arith, a); disk = tt; log_end = tt };
      few = let b = c.in_ok-self.ensures.grows.few in omega (arith, b);
      means = λ t. by_later (later t);
      did = shows_take (g.E.Engine.limits (length c.args.self.now.maps.pages) (length c.args.self.now.maps.bands)) (g.E.Engine.limits (length c.take_page-p.new.self.pages) (length c.take_page-p.new.self.bands)) e e' (g.E.Engine.view c.args.self.now.begun_at.value).now s.breaks s.maps c.take_page-p.new.self s.unfreed c.take_page-p.result.0 c.args.kind _ s.actor.txn.0 s.actor.last e'.tried
          (λ j. g.E.Engine.limits (pages j) (bands j)) s.page_flags c.take_page-p.ensures.least.free c.take_page-p.ensures.pages c.take_page-p.ensures.bands (record { page_is = ap (λ x. x.page) c.spell.ensures; said = ap op_said c.spell.ensures }) (ap back_said c.spell.ensures) (λ told. (c.requires told).may) counts.tells counts.told
          (λ told. by_some (g.E.Engine.means s.engine) (g.met.E.Engine.some s.engine told) (took_prop e e' _ _ _ _ _ _) (λ t stands. took_by (record { page_is = ap (λ x. x.page) c.spell.ensures; said = ap op_said c.spell.ensures }) (made_log g.E.Engine.recovers (g.E.Engine.means s.engine) (g.E.Engine.means c.log.new.self) stands (record { grows = c.in_ok-self.ensures.grows; keeps = λ from m. c.in_ok-self.ensures.means t from m; logs = λ from m. c.in_ok-self.ensures.logs t from m; whole = g.met.E.Engine.told_whole _; full = g.met.E.Engine.full_failed _; now = λ from m. g.met.E.Engine.now_is _ t from m; now' = λ from m. g.met.E.Engine.now_is _ t from m; law = λ from m. g.met.E.Engine.lawful _ t from m }) refl told (counts.tells told))));
      later = later;
    }

pub returns-in_err-self-clause-later : goal.returns-in_err-self-clause-later
returns-in_err-self-clause-later g c = λ (t : Table). later_log {strict = true} g.E.Engine.recovers (g.E.Engine.limits (length c.args.self.now.maps.pages) (length c.args.self.now.maps.bands)) t (g.E.Engine.view c.args.self.now.engine) (g.E.Engine.view c.log.new.self) (g.E.Engine.means c.args.self.now.engine) (g.E.Engine.means c.log.new.self) (g.E.Engine.view c.args.self.now.begun_at.value).now c.args.self.now.maps c.take_page-p.new.self c.args.self.now.rows.items c.args.self.now.actor c.args.self.now.actor c.args.self.now.begun (Page (shown_page c.spell.result)) _ c.if-not-self.false (format_in _ _ c.take_page-p.result.0 c.args.kind (shown_page c.spell.result) c.spell.ensures c.is_number.ensures c.is_number-2.ensures (let within = slice_get_within c.args.self.now.maps.pages c.take_page-p.result.0 false c.take_page-p.ensures.least.free in let few = c.args.self.now.few in let is = c.args.self.now.count_is in omega (arith, within, few, is))) (record { grows = c.in_err-self.ensures.grows; keeps = λ from m. c.in_err-self.ensures.means t from m; logs = λ from m. c.in_err-self.ensures.logs t from m; whole = g.met.E.Engine.told_whole _; full = g.met.E.Engine.full_failed _; now = λ from m. g.met.E.Engine.now_is _ t from m; now' = λ from m. g.met.E.Engine.now_is _ t from m; law = λ from m. g.met.E.Engine.lawful _ t from m }) tt
    (record {
      on = λ from since told k. take_on t (g.E.Engine.limits (length c.args.self.now.maps.pages) (length c.args.self.now.maps.bands)) (led from (g.E.Engine.view c.args.self.now.engine)) c.args.self.now.maps c.take_page-p.new.self _ _ c.take_page-p.result.0 c.args.kind (shown_page c.spell.result) c.take_page-p.ensures.least.free c.take_page-p.ensures.pages c.take_page-p.ensures.bands (record { page_is = ap (λ x. x.page) c.spell.ensures; said = ap op_said c.spell.ensures }) (ap back_said c.spell.ensures) k;
      same = λ from m told. take_same t (g.E.Engine.limits (length c.args.self.now.maps.pages) (length c.args.self.now.maps.bands)) (led from (g.E.Engine.view c.args.self.now.engine)) c.args.self.now.maps c.take_page-p.new.self c.take_page-p.result.0 c.args.kind (shown_page c.spell.result) c.take_page-p.ensures.least.free c.take_page-p.ensures.pages c.take_page-p.ensures.bands (record { page_is = ap (λ x. x.page) c.spell.ensures; said = ap op_said c.spell.ensures }) (ap back_said c.spell.ensures);
      pages = ap length c.take_page-p.ensures.pages ∙ length-set c.args.self.now.maps.pages c.take_page-p.result.0 true;
      bands = ap length c.take_page-p.ensures.bands;
      holds = λ o from since told h. bands_page _ _ _ (bands_as c.take_page-p.ensures.bands h);
    })

pub returns-in_err-self-clause-means : goal.returns-in_err-self-clause-means
returns-in_err-self-clause-means g c = λ (t : Table). by_later (later_log {strict = true} g.E.Engine.recovers (g.E.Engine.limits (length c.args.self.now.maps.pages) (length c.args.self.now.maps.bands)) t (g.E.Engine.view c.args.self.now.engine) (g.E.Engine.view c.log.new.self) (g.E.Engine.means c.args.self.now.engine) (g.E.Engine.means c.log.new.self) (g.E.Engine.view c.args.self.now.begun_at.value).now c.args.self.now.maps c.take_page-p.new.self c.args.self.now.rows.items c.args.self.now.actor c.args.self.now.actor c.args.self.now.begun (Page (shown_page c.spell.result)) _ c.if-not-self.false (format_in _ _ c.take_page-p.result.0 c.args.kind (shown_page c.spell.result) c.spell.ensures c.is_number.ensures c.is_number-2.ensures (let within = slice_get_within c.args.self.now.maps.pages c.take_page-p.result.0 false c.take_page-p.ensures.least.free in let few = c.args.self.now.few in let is = c.args.self.now.count_is in omega (arith, within, few, is))) (record { grows = c.in_err-self.ensures.grows; keeps = λ from m. c.in_err-self.ensures.means t from m; logs = λ from m. c.in_err-self.ensures.logs t from m; whole = g.met.E.Engine.told_whole _; full = g.met.E.Engine.full_failed _; now = λ from m. g.met.E.Engine.now_is _ t from m; now' = λ from m. g.met.E.Engine.now_is _ t from m; law = λ from m. g.met.E.Engine.lawful _ t from m }) tt
    (record {
      on = λ from since told k. take_on t (g.E.Engine.limits (length c.args.self.now.maps.pages) (length c.args.self.now.maps.bands)) (led from (g.E.Engine.view c.args.self.now.engine)) c.args.self.now.maps c.take_page-p.new.self _ _ c.take_page-p.result.0 c.args.kind (shown_page c.spell.result) c.take_page-p.ensures.least.free c.take_page-p.ensures.pages c.take_page-p.ensures.bands (record { page_is = ap (λ x. x.page) c.spell.ensures; said = ap op_said c.spell.ensures }) (ap back_said c.spell.ensures) k;
      same = λ from m told. take_same t (g.E.Engine.limits (length c.args.self.now.maps.pages) (length c.args.self.now.maps.bands)) (led from (g.E.Engine.view c.args.self.now.engine)) c.args.self.now.maps c.take_page-p.new.self c.take_page-p.result.0 c.args.kind (shown_page c.spell.result) c.take_page-p.ensures.least.free c.take_page-p.ensures.pages c.take_page-p.ensures.bands (record { page_is = ap (λ x. x.page) c.spell.ensures; said = ap op_said c.spell.ensures }) (ap back_said c.spell.ensures);
      pages = ap length c.take_page-p.ensures.pages ∙ length-set c.args.self.now.maps.pages c.take_page-p.result.0 true;
      bands = ap length c.take_page-p.ensures.bands;
      holds = λ o from since told h. bands_page _ _ _ (bands_as c.take_page-p.ensures.bands h);
    }))

pub log-requires-clause-range : goal.log-requires-clause-range
log-requires-clause-range g c = format_in _ _ c.take_page-p.result.0 c.args.kind (shown_page c.spell.result) c.spell.ensures c.is_number.ensures c.is_number-2.ensures
    (let within = slice_get_within c.args.self.now.maps.pages c.take_page-p.result.0 false c.take_page-p.ensures.least.free in let few = c.args.self.now.few in let is = c.args.self.now.count_is in omega (arith, within, few, is))

pub returns-then-not-self-clause-later : goal.returns-then-not-self-clause-later
returns-then-not-self-clause-later g c = λ t. later_same {strict = true} g.E.Engine.recovers (g.E.Engine.limits (length c.args.self.now.maps.pages) (length c.args.self.now.maps.bands)) t _ (g.met.E.Engine.told_whole _) (λ from m told. g.met.E.Engine.images _ t from m.stands told)

pub invariant_of-self-2-clause-within : goal.invariant_of-self-2-clause-within
invariant_of-self-2-clause-within g c = λ told. within_as (ap length c.take_page-p.ensures.pages ∙ length-set c.args.self.now.maps.pages c.take_page-p.result.0 true) (ap length c.take_page-p.ensures.bands) (within_by c.log.ensures.grows.counts c.args.self.now.within told)

pub returns-then-not-self-clause-counts : goal.returns-then-not-self-clause-counts
returns-then-not-self-clause-counts g c = record { told = λ t. t; later = omega arith; quiet = tt; disk = λ d. absurd (let e : LogEnd ≡ Disk = d in cc); log_end = λ z. inr c.if-not-self.true }

pub invariant_of-self-2-clause-goes_on : goal.invariant_of-self-2-clause-goes_on
invariant_of-self-2-clause-goes_on g c = can_change g.E.Engine.recovers (g.E.Engine.means c.args.self.now.engine) (g.E.Engine.means c.log.new.self) c.args.self.now.begun c.args.self.now.actor _ _ (g.met.E.Engine.some c.args.self.now.engine) (λ t. (record { grows = c.in_ok-self.ensures.grows; keeps = λ from m. c.in_ok-self.ensures.means t from m; logs = λ from m. c.in_ok-self.ensures.logs t from m; whole = g.met.E.Engine.told_whole _; full = g.met.E.Engine.full_failed _; now = λ from m. g.met.E.Engine.now_is _ t from m; now' = λ from m. g.met.E.Engine.now_is _ t from m; law = λ from m. g.met.E.Engine.lawful _ t from m })) refl refl c.args.self.now.goes_on
