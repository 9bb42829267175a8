use Rattle.std.proofs.Common.{Some, true, ℕ, List, length, take, drop, refl, sym, ap, subst, ◌∙◌, arith, inr, ◌≡◌, false}
use Rattle.sg_ops.specs.Table.{Table, fresh_table}
use Rattle.sg_action.specs.States.{State}
use Rattle.sg_record.specs.Changes.{BandBytes}
use Rattle.sg_record.specs.Changes.Change.{SegWrite}
use Rattle.sg_record.specs.Shown.{shown_bytes}
use Rattle.sg_recovery.specs.Log.Record.{Change}
use Rattle.sg_actions.specs.Changes.{bytes_with}
use Rattle.sg_actions.specs.Engine.{led}
use Rattle.sg_actions.specs.Onward.{later_same, later_on}
use Rattle.sg_actions.proofs.Accounting.{within_by}
use Rattle.sg_actions.proofs.Banded.{bands_write}
use Rattle.sg_actions.proofs.Flags.{and_left, has_there}
use Rattle.sg_actions.proofs.Calling.{later_look, later_log_as, same_any, said_any, said_log_any, made_log}
use Rattle.sg_actions.proofs.Led.{Made, by_later, made_after, made_prop, by_some}
use Rattle.sg_actions.proofs.Writing.{shows_write, write_on}
use Rattle.sg_actions.proofs.Untold.{there_below, band_few}
use Rattle.sg_actions.proofs.InRange.{write_in}
use Rattle.sg_actions.proofs.PuttingBack.{stood_long}
use Rattle.sg_space.specs.declared.space.SpaceFault.TheVariants.{Disk, LogEnd}
use Rattle.sg_actions.proofs.GoingOn.{can_look, formed_change, can_change}
use Rattle.std.proofs.lemmas.Result.{err_from_is_err_and}
use Rattle.sg_actions.proofs.Counted.{acts_err, shown_counts, shown_break}
use Rattle.sg_actions.proofs.Counting.{looked_none, looked_engine}
use Rattle.sg_actions.proofs.acts.ActsPageSpace.write_band.Goals as goal

pub invariant_of-self-2-clause-pages_said : goal.invariant_of-self-2-clause-pages_said
invariant_of-self-2-clause-pages_said g c = said_log_any g.E.Engine.recovers (g.E.Engine.means c.load_band.new.self) (g.E.Engine.means c.log.new.self) c.args.self.now.maps.pages (g.met.E.Engine.some c.load_band.new.self) (λ t. (record { grows = c.log.ensures.grows; keeps = λ from m. c.log.ensures.means t from m; logs = λ from m. c.log.ensures.logs t from m; whole = g.met.E.Engine.told_whole _; full = g.met.E.Engine.full_failed _; now = λ from m. g.met.E.Engine.now_is _ t from m; now' = λ from m. g.met.E.Engine.now_is _ t from m; law = λ from m. g.met.E.Engine.lawful _ t from m })) refl (said_any c.args.self.now.maps.pages (g.met.E.Engine.some c.args.self.now.engine) (λ t. (record { rests = c.load_band.ensures.rests; keeps = λ from m. c.load_band.ensures.means t from m; looks = λ from m. c.load_band.ensures.looks t from m; whole = g.met.E.Engine.told_whole _; full = g.met.E.Engine.full_failed _; now = λ from m. g.met.E.Engine.now_is _ t from m; now' = λ from m. g.met.E.Engine.now_is _ t from m })) c.load_band.ensures.rests.counts.told c.args.self.now.pages_said)

pub invariant_of-self-2-clause-within : goal.invariant_of-self-2-clause-within
invariant_of-self-2-clause-within g c = within_by c.log.ensures.grows.counts (within_by c.load_band.ensures.rests.counts c.args.self.now.within)

pub invariant_of-self-2-clause-unbroken : goal.invariant_of-self-2-clause-unbroken
invariant_of-self-2-clause-unbroken g c = λ told. c.args.self.now.unbroken (c.load_band.ensures.rests.counts.told (c.log.ensures.grows.counts.told told))

pub returns : goal.returns
returns g c =
    let s = c.args.self.now in
    let e = (g.E.Engine.view s.engine) in
    let e1 = (g.E.Engine.view c.load_band.new.self) in
    let e2 = (g.E.Engine.view c.log.new.self) in
    let first = c.in_ok-load_band.ensures.rests.counts in
    let second = c.in_ok-self.ensures.grows.counts in
    let later = λ (t : Table). later_on {strict = true} g.E.Engine.recovers (g.E.Engine.limits (length c.args.self.now.maps.pages) (length c.args.self.now.maps.bands)) t _ _ _
    (later_look {strict = true} g.E.Engine.recovers (g.E.Engine.limits (length c.args.self.now.maps.pages) (length c.args.self.now.maps.bands)) t (g.E.Engine.view c.args.self.now.engine) (g.E.Engine.view c.load_band.new.self) (g.E.Engine.means c.args.self.now.engine) (g.E.Engine.means c.load_band.new.self) (g.E.Engine.view c.args.self.now.begun_at.value).now c.args.self.now.maps c.args.self.now.rows.items c.args.self.now.actor c.args.self.now.begun _ (record { rests = c.in_ok-load_band.ensures.rests; keeps = λ from m. c.in_ok-load_band.ensures.means t from m; looks = λ from m. c.in_ok-load_band.ensures.looks t from m; whole = g.met.E.Engine.told_whole _; full = g.met.E.Engine.full_failed _; now = λ from m. g.met.E.Engine.now_is _ t from m; now' = λ from m. g.met.E.Engine.now_is _ t from m }))
    (later_log_as {strict = true} g.E.Engine.recovers (g.E.Engine.limits (length c.args.self.now.maps.pages) (length c.args.self.now.maps.bands)) t (g.E.Engine.view c.load_band.new.self) (g.E.Engine.view c.log.new.self) (g.E.Engine.means c.load_band.new.self) (g.E.Engine.means c.log.new.self) (g.E.Engine.view c.args.self.now.begun_at.value).now c.args.self.now.maps c.args.self.now.maps c.args.self.now.rows.items c.args.self.now.actor (record { txn = c.args.self.now.actor.txn; last = c.in_ok-self.field-0; before = c.args.self.now.actor.before }) c.args.self.now.begun (SegWrite (shown_bytes c.spell_bytes.result)) (SegWrite (bytes_with c.args.b.0 c.args.at _ _ c.args.bytes.now)) _ c.if-not-self.false (ap SegWrite c.spell_bytes.ensures) (c.tell_range.ensures) (record { grows = c.in_ok-self.ensures.grows; keeps = λ from m. c.in_ok-self.ensures.means t from m; logs = λ from m. c.in_ok-self.ensures.logs t from m; whole = g.met.E.Engine.told_whole _; full = g.met.E.Engine.full_failed _; now = λ from m. g.met.E.Engine.now_is _ t from m; now' = λ from m. g.met.E.Engine.now_is _ t from m; law = λ from m. g.met.E.Engine.lawful _ t from m }) refl (record {
      on = λ from since told1 k.
          let now = ap (λ (x : State). x.bands c.args.b.0) (sym (g.met.E.Engine.now_is _ t from since.stands told1)) ∙ c.band.ensures.looked in
          let long = ap length now ∙ c.band.ensures.size in
          let piece = (c.if-not-may_write.ensures.yes refl).piece in
          write_on t (g.E.Engine.limits (length c.args.self.now.maps.pages) (length c.args.self.now.maps.bands)) (led from (g.E.Engine.view c.load_band.new.self)) c.args.self.now.maps _ _ c.args.b.0 c.args.at _ _ c.args.bytes.now (record { within = omega (arith, long, piece.within); is = c.copy_piece.ensures ∙ ap (λ (xs : List ℕ). take (length c.args.bytes.now) (drop c.args.at xs)) (sym now) }) k;
      same = λ from m told1. refl;
      pages = refl;
      bands = refl;
      holds = λ o from since told1 h. bands_write c.args.b.0 c.args.at _ c.args.bytes.now refl (and_left _ _ (c.if-not-may_write.ensures.yes refl).there) h;
    })) in
    record {
      counts = record { told = λ t. first.told (second.told t); later = omega (arith, first.later, second.later); quiet = let a = first.quiet in let b = second.quiet in omega (arith, a, b); disk = tt; log_end = tt };
      few = let a = c.in_ok-load_band.ensures.rests.records in let b = c.in_ok-self.ensures.grows.few in omega (arith, a, b);
      means = λ t. by_later (later t);
      did = shows_write fresh_table (g.E.Engine.limits (length c.args.self.now.maps.pages) (length c.args.self.now.maps.bands)) e e2 (g.E.Engine.view c.args.self.now.begun_at.value).now s.breaks s.maps s.unfreed c.args.b.0 c.args.at _ _ _ _ _ c.args.bytes.now
          (c.if-not-may_write.ensures.yes refl).there (λ told. second.tells (first.tells told)) (λ t. first.told (second.told t))
          (λ told. let told1 = first.tells told in made_after (same_any (g.met.E.Engine.some c.args.self.now.engine) (λ t. (record { rests = c.load_band.ensures.rests; keeps = λ from m. c.load_band.ensures.means t from m; looks = λ from m. c.load_band.ensures.looks t from m; whole = g.met.E.Engine.told_whole _; full = g.met.E.Engine.full_failed _; now = λ from m. g.met.E.Engine.now_is _ t from m; now' = λ from m. g.met.E.Engine.now_is _ t from m })) told told1) (subst (λ (x : BandBytes). Made fresh_table e1 e2 (Change c.args.self.now.actor.txn.0 c.args.self.now.actor.last (SegWrite x)) e2.tried) c.spell_bytes.ensures
          (by_some (g.E.Engine.means c.load_band.new.self) (g.met.E.Engine.some c.load_band.new.self told1) (made_prop fresh_table e1 e2 _ e2.tried) (λ t stands. let m = made_log g.E.Engine.recovers (g.E.Engine.means c.load_band.new.self) (g.E.Engine.means c.log.new.self) stands (record { grows = c.in_ok-self.ensures.grows; keeps = λ from m. c.in_ok-self.ensures.means t from m; logs = λ from m. c.in_ok-self.ensures.logs t from m; whole = g.met.E.Engine.told_whole _; full = g.met.E.Engine.full_failed _; now = λ from m. g.met.E.Engine.now_is _ t from m; now' = λ from m. g.met.E.Engine.now_is _ t from m; law = λ from m. g.met.E.Engine.lawful _ t from m }) refl told1 (second.tells told1) in record { now = m.now; steps = m.steps }))));
      later = later;
    }

pub returns-in_err-self-clause-later : goal.returns-in_err-self-clause-later
returns-in_err-self-clause-later g c = λ (t : Table). later_on {strict = true} g.E.Engine.recovers (g.E.Engine.limits (length c.args.self.now.maps.pages) (length c.args.self.now.maps.bands)) t _ _ _
    (later_look {strict = true} g.E.Engine.recovers (g.E.Engine.limits (length c.args.self.now.maps.pages) (length c.args.self.now.maps.bands)) t (g.E.Engine.view c.args.self.now.engine) (g.E.Engine.view c.load_band.new.self) (g.E.Engine.means c.args.self.now.engine) (g.E.Engine.means c.load_band.new.self) (g.E.Engine.view c.args.self.now.begun_at.value).now c.args.self.now.maps c.args.self.now.rows.items c.args.self.now.actor c.args.self.now.begun _ (record { rests = c.in_ok-load_band.ensures.rests; keeps = λ from m. c.in_ok-load_band.ensures.means t from m; looks = λ from m. c.in_ok-load_band.ensures.looks t from m; whole = g.met.E.Engine.told_whole _; full = g.met.E.Engine.full_failed _; now = λ from m. g.met.E.Engine.now_is _ t from m; now' = λ from m. g.met.E.Engine.now_is _ t from m }))
    (later_log_as {strict = true} g.E.Engine.recovers (g.E.Engine.limits (length c.args.self.now.maps.pages) (length c.args.self.now.maps.bands)) t (g.E.Engine.view c.load_band.new.self) (g.E.Engine.view c.log.new.self) (g.E.Engine.means c.load_band.new.self) (g.E.Engine.means c.log.new.self) (g.E.Engine.view c.args.self.now.begun_at.value).now c.args.self.now.maps c.args.self.now.maps c.args.self.now.rows.items c.args.self.now.actor c.args.self.now.actor c.args.self.now.begun (SegWrite (shown_bytes c.spell_bytes.result)) (SegWrite (bytes_with c.args.b.0 c.args.at _ _ c.args.bytes.now)) _ c.if-not-self.false (ap SegWrite c.spell_bytes.ensures) (c.tell_range.ensures) (record { grows = c.in_err-self.ensures.grows; keeps = λ from m. c.in_err-self.ensures.means t from m; logs = λ from m. c.in_err-self.ensures.logs t from m; whole = g.met.E.Engine.told_whole _; full = g.met.E.Engine.full_failed _; now = λ from m. g.met.E.Engine.now_is _ t from m; now' = λ from m. g.met.E.Engine.now_is _ t from m; law = λ from m. g.met.E.Engine.lawful _ t from m }) tt (record {
      on = λ from since told1 k.
          let now = ap (λ (x : State). x.bands c.args.b.0) (sym (g.met.E.Engine.now_is _ t from since.stands told1)) ∙ c.band.ensures.looked in
          let long = ap length now ∙ c.band.ensures.size in
          let piece = (c.if-not-may_write.ensures.yes refl).piece in
          write_on t (g.E.Engine.limits (length c.args.self.now.maps.pages) (length c.args.self.now.maps.bands)) (led from (g.E.Engine.view c.load_band.new.self)) c.args.self.now.maps _ _ c.args.b.0 c.args.at _ _ c.args.bytes.now (record { within = omega (arith, long, piece.within); is = c.copy_piece.ensures ∙ ap (λ (xs : List ℕ). take (length c.args.bytes.now) (drop c.args.at xs)) (sym now) }) k;
      same = λ from m told1. refl;
      pages = refl;
      bands = refl;
      holds = λ o from since told1 h. bands_write c.args.b.0 c.args.at _ c.args.bytes.now refl (and_left _ _ (c.if-not-may_write.ensures.yes refl).there) h;
    }))

pub returns-in_err-self-clause-means : goal.returns-in_err-self-clause-means
returns-in_err-self-clause-means g c = λ (t : Table). by_later (returns-in_err-self-clause-later g c t)

pub returns-in_err-load_band-clause-later : goal.returns-in_err-load_band-clause-later
returns-in_err-load_band-clause-later g c = λ (t : Table). (later_look {strict = true} g.E.Engine.recovers (g.E.Engine.limits (length c.args.self.now.maps.pages) (length c.args.self.now.maps.bands)) t (g.E.Engine.view c.args.self.now.engine) (g.E.Engine.view c.load_band.new.self) (g.E.Engine.means c.args.self.now.engine) (g.E.Engine.means c.load_band.new.self) (g.E.Engine.view c.args.self.now.begun_at.value).now c.args.self.now.maps c.args.self.now.rows.items c.args.self.now.actor c.args.self.now.begun _ (record { rests = c.in_err-load_band.ensures.rests; keeps = λ from m. c.in_err-load_band.ensures.means t from m; looks = λ from m. c.in_err-load_band.ensures.looks t from m; whole = g.met.E.Engine.told_whole _; full = g.met.E.Engine.full_failed _; now = λ from m. g.met.E.Engine.now_is _ t from m; now' = λ from m. g.met.E.Engine.now_is _ t from m }))

pub returns-in_err-load_band-clause-means : goal.returns-in_err-load_band-clause-means
returns-in_err-load_band-clause-means g c = λ (t : Table). by_later (returns-in_err-load_band-clause-later g c t)

pub returns-then-not-self-clause-later : goal.returns-then-not-self-clause-later
returns-then-not-self-clause-later g c = λ (t : Table). later_same {strict = true} g.E.Engine.recovers (g.E.Engine.limits (length c.args.self.now.maps.pages) (length c.args.self.now.maps.bands)) t _ (g.met.E.Engine.told_whole _) (λ from m told. g.met.E.Engine.images _ t from m.stands told)

pub returns-then-not-may_write-clause-later : goal.returns-then-not-may_write-clause-later
returns-then-not-may_write-clause-later g c = λ (t : Table). later_same {strict = true} g.E.Engine.recovers (g.E.Engine.limits (length c.args.self.now.maps.pages) (length c.args.self.now.maps.bands)) t _ (g.met.E.Engine.told_whole _) (λ from m told. g.met.E.Engine.images _ t from m.stands told)

pub log-requires-clause-can : goal.log-requires-clause-can
log-requires-clause-can g c = λ t from m told1.
    let k = c.in_ok-load_band.ensures.rests.counts in
    let below = there_below c.args.self.now.maps.bands c.args.self.now.unfreed.bands c.args.b.0 (c.if-not-may_write.ensures.yes refl).there in
    let w = (within_by k c.args.self.now.within told1).bands in
    record {
      there = let e = ap (λ (x : BandBytes). x.band) c.spell_bytes.ensures in omega (arith, e, below, w);
      fits = refl;
      known = tt;
      formed = formed_change (g.E.Engine.view c.load_band.new.self) c.args.self.now.begun c.args.self.now.actor _ c.if-not-self.false (can_look c.args.self.now.begun c.args.self.now.actor (g.met.E.Engine.some c.args.self.now.engine) (λ t. (record { rests = c.load_band.ensures.rests; keeps = λ from m. c.load_band.ensures.means t from m; looks = λ from m. c.load_band.ensures.looks t from m; whole = g.met.E.Engine.told_whole _; full = g.met.E.Engine.full_failed _; now = λ from m. g.met.E.Engine.now_is _ t from m; now' = λ from m. g.met.E.Engine.now_is _ t from m })) c.args.self.now.goes_on) told1;
      means = λ u. u;
    }

pub tell_range-requires : goal.tell_range-requires
tell_range-requires g c =
    let piece = (c.if-not-may_write.ensures.yes refl).piece in
    write_in _ _ c.args.b.0 c.args.at _ _ c.args.bytes.now (shown_bytes c.spell_bytes.result) c.spell_bytes.ensures c.is_number.ensures c.is_number-2.ensures (let b = (c.if-not-may_write.ensures.yes refl).few in omega (arith, b)) piece
    (stood_long _ _ c.args.at (length c.args.bytes.now) c.copy_piece.ensures (let size = c.band.ensures.size in omega (arith, size, piece.within))) refl

pub invariant_of-self-clause-unbroken : goal.invariant_of-self-clause-unbroken
invariant_of-self-clause-unbroken g c = λ told. absurd (
    let there = has_there c.args.self.now.maps.bands c.args.self.now.unfreed.bands (λ n. Some ((g.E.Engine.view c.args.self.now.engine).now.bands n)) c.args.b.0 (c.requires told).there in
    let few = band_few c.args.self.now.maps.pages c.args.self.now.maps.bands c.args.self.now.unfreed.bands _ c.args.b.0 (c.args.self.now.within told) (g.met.E.Engine.few_bands _ told) there in
    let e : false ≡ true = c.if-not-may_write.ensures.no (record { there = there; piece = (c.requires told).piece; few = few }) in cc)

pub returns-then-not-self-clause-counts : goal.returns-then-not-self-clause-counts
returns-then-not-self-clause-counts g c = record { told = λ t. t; later = omega arith; quiet = tt; disk = λ d. absurd (let e : LogEnd ≡ Disk = d in cc); log_end = λ z. inr c.if-not-self.true }

pub invariant_of-self-2-clause-goes_on : goal.invariant_of-self-2-clause-goes_on
invariant_of-self-2-clause-goes_on g c = can_change g.E.Engine.recovers (g.E.Engine.means c.load_band.new.self) (g.E.Engine.means c.log.new.self) c.args.self.now.begun c.args.self.now.actor _ _ (g.met.E.Engine.some c.load_band.new.self) (λ t. (record { grows = c.in_ok-self.ensures.grows; keeps = λ from m. c.in_ok-self.ensures.means t from m; logs = λ from m. c.in_ok-self.ensures.logs t from m; whole = g.met.E.Engine.told_whole _; full = g.met.E.Engine.full_failed _; now = λ from m. g.met.E.Engine.now_is _ t from m; now' = λ from m. g.met.E.Engine.now_is _ t from m; law = λ from m. g.met.E.Engine.lawful _ t from m })) refl refl (can_look c.args.self.now.begun c.args.self.now.actor (g.met.E.Engine.some c.args.self.now.engine) (λ t. (record { rests = c.load_band.ensures.rests; keeps = λ from m. c.load_band.ensures.means t from m; looks = λ from m. c.load_band.ensures.looks t from m; whole = g.met.E.Engine.told_whole _; full = g.met.E.Engine.full_failed _; now = λ from m. g.met.E.Engine.now_is _ t from m; now' = λ from m. g.met.E.Engine.now_is _ t from m })) c.args.self.now.goes_on)

pub returns-then-not-may_write-clause-counts : goal.returns-then-not-may_write-clause-counts
returns-then-not-may_write-clause-counts g c = shown_break (g.E.Engine.limits (length c.args.self.now.maps.pages) (length c.args.self.now.maps.bands)) (g.E.Engine.limits (length c.args.self.now.maps.pages) (length c.args.self.now.maps.bands)) (g.E.Engine.view c.args.self.now.engine) (g.E.Engine.view c.args.self.now.engine) c.args.self.now.begun c.args.self.now.begun (g.E.Engine.view c.args.self.now.begun_at.value).now (g.E.Engine.view c.args.self.now.begun_at.value).now c.args.self.now.breaks c.count_break.new.breaks c.args.self.now.maps c.args.self.now.maps c.args.self.now.unfreed c.args.self.now.unfreed c.count_break.result c.count_break.ensures.answer (λ t. t) refl c.count_break.ensures.risen c.count_break.ensures.later

pub returns-in_err-load_band-clause-counts : goal.returns-in_err-load_band-clause-counts
returns-in_err-load_band-clause-counts g c =
    let p = err_from_is_err_and c.from_residual.result c.from_residual.ensures.1 in
    shown_counts (g.E.Engine.limits (length c.args.self.now.maps.pages) (length c.args.self.now.maps.bands)) (g.E.Engine.limits (length c.args.self.now.maps.pages) (length c.args.self.now.maps.bands)) (g.E.Engine.view c.args.self.now.engine) (g.E.Engine.view c.load_band.new.self) c.args.self.now.begun c.args.self.now.begun (g.E.Engine.view c.args.self.now.begun_at.value).now (g.E.Engine.view c.args.self.now.begun_at.value).now c.args.self.now.breaks c.args.self.now.breaks c.args.self.now.maps c.args.self.now.maps c.args.self.now.unfreed c.args.self.now.unfreed c.from_residual.result (acts_err {T = Unit {0}} c.from_residual.result c.in_err-load_band.field-0.0 p.0 p.1 p.2 (g.met.E.Engine.told_whole _) (looked_none (g.E.Engine.view c.args.self.now.engine) c.args.self.now.breaks) c.in_err-load_band.ensures.rests.counts)

pub returns-in_err-self-clause-counts : goal.returns-in_err-self-clause-counts
returns-in_err-self-clause-counts g c =
    let p = err_from_is_err_and c.from_residual-in_err-self.result c.from_residual-in_err-self.ensures.1 in
    shown_counts (g.E.Engine.limits (length c.args.self.now.maps.pages) (length c.args.self.now.maps.bands)) (g.E.Engine.limits (length c.args.self.now.maps.pages) (length c.args.self.now.maps.bands)) (g.E.Engine.view c.args.self.now.engine) (g.E.Engine.view c.log.new.self) c.args.self.now.begun c.args.self.now.begun (g.E.Engine.view c.args.self.now.begun_at.value).now (g.E.Engine.view c.args.self.now.begun_at.value).now c.args.self.now.breaks c.args.self.now.breaks c.args.self.now.maps c.args.self.now.maps c.args.self.now.unfreed c.args.self.now.unfreed c.from_residual-in_err-self.result (acts_err {T = ℕ} c.from_residual-in_err-self.result c.in_err-self.field-0.0 p.0 p.1 p.2 (g.met.E.Engine.told_whole _) (looked_engine c.args.self.now.breaks c.in_ok-load_band.ensures.rests.counts) c.in_err-self.ensures.grows.counts)
