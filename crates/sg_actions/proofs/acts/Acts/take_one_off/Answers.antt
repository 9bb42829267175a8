use mathlib.Core.Logic.{∥∥₁_elim, ∥∥₁_prop}
use Rattle.std.proofs.Common.{◌≡◌, true, sym, ap, ◌∙◌, refl, false, ℕ, Bool}
use Rattle.std.proofs.Props.{props}
use Rattle.std.proofs.lemmas.Result.{err_from_is_err_and}
use Rattle.sg_record.specs.Shown.{shown_change}
use Rattle.sg_actions.specs.Engine.{led}
use Rattle.sg_actions.specs.Steps.{step_of}
use Rattle.sg_actions.proofs.Accounting.{within_by, within_as}
use Rattle.sg_actions.proofs.Calling.{said_any, said_log}
use Rattle.sg_actions.proofs.Flags.{some_is}
use Rattle.sg_actions.proofs.Led.{log_call, look_call}
use Rattle.sg_actions.proofs.Counting.{looked_engine, looked_none}
use Rattle.sg_actions.proofs.GoneOff.{off_look, off_then, off_one, counts_err, counts_break, counts_ok}
use Rattle.sg_actions.proofs.Offing.{next_one, going_stays, said_less, shown_is, took_off}
use Rattle.sg_actions.proofs.Ranged.{comp_in}
use Rattle.sg_actions.proofs.ReadOff.{reads_next, read_next, off_can, can_prop}
use Rattle.sg_actions.proofs.GoingOn.{can_rest}
use Rattle.sg_actions.proofs.Wanted.{kept_open}
use Rattle.sg_actions.proofs.Counted.{looked_two}
use Rattle.sg_actions.proofs.acts.Acts.take_one_off.Goals as goal

not_both : {b : Bool} → b ≡ false → b ≡ true → ⊥
not_both f t = cc

pub read-requires-clause-there : goal.read-requires-clause-there
read-requires-clause-there g c = λ told. ∥∥₁_elim (c.requires.off told) (hlevel props) (λ x. some_is (next_one _ x.2.kept x.2.begin (led x.0 (g.E.Engine.view c.args.self.now.engine)) c.args.self.now.rows.items c.args.self.now.actor c.args.at x.2.more x.2.going).step)

pub read-requires-clause-kept : goal.read-requires-clause-kept
read-requires-clause-kept g c = λ told. ∥∥₁_elim (c.requires.off told) (hlevel props) (λ x.
    let n = next_one _ x.2.kept x.2.begin (led x.0 (g.E.Engine.view c.args.self.now.engine)) c.args.self.now.rows.items c.args.self.now.actor c.args.at x.2.more x.2.going in
    kept_open n.d n.ds c.args.at (g.met.E.Engine.wanted _ told) n.is n.here)

pub log_by-requires-clause-by : goal.log_by-requires-clause-by
log_by-requires-clause-by g c = λ told. ∥∥₁_elim (c.requires.by (c.in_ok-size.ensures.rests.counts.told told)) ∥∥₁_prop (λ x. ∣ (x.0, c.in_ok-size.ensures.means _ x.0 x.1) ∣₁)

pub log_by-requires-clause-can : goal.log_by-requires-clause-can
log_by-requires-clause-can g c = λ told.
    let k = c.in_ok-size.ensures in
    let told0 = k.rests.counts.told told in
    ∥∥₁_elim (c.requires.off told0) (can_prop _ (g.E.Engine.view c.read.new.self) _ _ _ _) (λ x.
    let stays = (look_call x.0 k.rests (k.looks _ x.0 x.1)).stays.stays told0 in
    let off = going_stays stays x.2.going in
    let next = next_one _ x.2.kept x.2.begin (led x.0 (g.E.Engine.view c.read.new.self)) c.args.self.now.rows.items c.args.self.now.actor c.args.at x.2.more off in
    let r = read_next (g.E.Engine.view c.args.self.now.engine).steps (g.E.Engine.view c.read.new.self).steps c.args.at _ (shown_change c.in-Some.change) c.in-Some.prev _ next.d (k.read _ x.0 x.1 told0) stays.steps c.in-Some.ensures.reads next.step in
    off_can _ x.2.kept x.2.begin x.0 (g.E.Engine.view c.read.new.self) c.args.self.now.rows.items c.args.self.now.actor c.args.at c.in-Some.prev (shown_change c.in-Some.change) (shown_change c.comp_of.result) (g.met.E.Engine.changes_on _ told) (g.met.E.Engine.now_is _ _ x.0 (k.means _ x.0 x.1) told) next r c.comp_of.ensures off)

pub invariant_of-self-2 : goal.invariant_of-self-2
invariant_of-self-2 g c =
    let flags = c.untake.ensures.pages.flags in
    record {
      count_is = c.args.self.now.count_is ∙ (sym c.args.self.now.page_flags.long ∙ flags.long);
      few = c.args.self.now.few;
      bands_are = c.args.self.now.bands_are ∙ (sym c.args.self.now.band_flags.long ∙ c.untake.ensures.bands.flags.long);
      page_flags = flags;
      band_flags = c.untake.ensures.bands.flags;
      within = λ told. within_as (sym flags.long ∙ c.args.self.now.page_flags.long) (sym c.untake.ensures.bands.flags.long ∙ c.args.self.now.band_flags.long) (within_by c.log_by.ensures.grows.counts (within_by c.read.ensures.rests.counts c.args.self.now.within) told);
      unbroken = λ told. c.args.self.now.unbroken (c.read.ensures.rests.counts.told (c.log_by.ensures.grows.counts.told told));
      goes_on = can_rest (g.E.Engine.view c.log_by.new.self) _ _ c.requires.begun;
      pages_said = λ told. said_less c.args.self.now.maps.pages c.untake.new.maps.pages (g.E.Engine.view c.log_by.new.self).now.pages c.untake.ensures.pages.less
          (said_log g.E.Engine.recovers (g.E.Engine.means c.read.new.self) (g.E.Engine.means c.log_by.new.self) c.args.self.now.maps.pages (λ told. ∥∥₁_elim (c.requires.by (c.in_ok-size.ensures.rests.counts.told told)) ∥∥₁_prop (λ x. ∣ (x.0, c.in_ok-size.ensures.means _ x.0 x.1) ∣₁)) (record { grows = c.in_ok-self.ensures.grows; keeps = c.in_ok-self.ensures.means; logs = c.in_ok-self.ensures.logs; whole = g.met.E.Engine.told_whole _; full = g.met.E.Engine.full_failed _; now = g.met.E.Engine.now_is _ _; now' = g.met.E.Engine.now_is _ _; law = g.met.E.Engine.lawful _ _ }) refl (said_any c.args.self.now.maps.pages (g.met.E.Engine.some c.args.self.now.engine) (λ t. (record { rests = c.read.ensures.rests; keeps = λ from m. c.read.ensures.means t from m; looks = λ from m. c.read.ensures.looks t from m; whole = g.met.E.Engine.told_whole _; full = g.met.E.Engine.full_failed _; now = λ from m. g.met.E.Engine.now_is _ t from m; now' = λ from m. g.met.E.Engine.now_is _ t from m })) c.read.ensures.rests.counts.told c.args.self.now.pages_said) told);
    }

pub returns-clause-did : goal.returns-clause-did
returns-clause-did g c = λ from m.
    let k = c.in_ok-size.ensures in
    let k2 = c.in_ok-self.ensures in
    let l = log_call from k2.grows (k2.logs from (k.means _ from m)) in
    took_off _ (led from (g.E.Engine.view c.args.self.now.engine)) (led from (g.E.Engine.view c.read.new.self)) (led from (g.E.Engine.view c.log_by.new.self)) c.args.self.now.maps c.untake.new.maps c.args.self.now.unfreed c.args.self.now.rows.items c.args.self.now.actor c.args.at c.in-Some.prev c.in_ok-self.field-0
    (shown_change c.in-Some.change) (shown_change c.comp_of.result) c.in-Some.ensures.reads.what c.args.self.now.page_flags c.args.self.now.band_flags
    (λ told. let read = k.read _ from m told in read.step ∙ ap step_of (sym (shown_is _ _ _ _ _ (sym c.in-Some.ensures.reads.is) read.is)))
    c.in-Some.ensures.reads.makes c.comp_of.ensures (look_call from k.rests (k.looks _ from m)).stays k.rests.counts.told l.did l.counts.told c.untake.ensures.pages c.untake.ensures.bands c.in-Some.ensures.reads.lower

pub returns-clause-means : goal.returns-clause-means
returns-clause-means g c = λ from m. c.in_ok-self.ensures.means from (c.in_ok-size.ensures.means _ from m)

pub returns-in_err-self-clause-means : goal.returns-in_err-self-clause-means
returns-in_err-self-clause-means g c = λ from m. c.in_err-self.ensures.means from (c.in_ok-size.ensures.means _ from m)

pub invariant_of-self-in_default-clause-pages_said : goal.invariant_of-self-in_default-clause-pages_said
invariant_of-self-in_default-clause-pages_said g c = said_any c.args.self.now.maps.pages (g.met.E.Engine.some c.args.self.now.engine) (λ t. (record { rests = c.read.ensures.rests; keeps = λ from m. c.read.ensures.means t from m; looks = λ from m. c.read.ensures.looks t from m; whole = g.met.E.Engine.told_whole _; full = g.met.E.Engine.full_failed _; now = λ from m. g.met.E.Engine.now_is _ t from m; now' = λ from m. g.met.E.Engine.now_is _ t from m })) c.read.ensures.rests.counts.told c.args.self.now.pages_said

pub invariant_of-self-in_default-clause-within : goal.invariant_of-self-in_default-clause-within
invariant_of-self-in_default-clause-within g c = within_by c.read.ensures.rests.counts c.args.self.now.within

pub returns-in_err-size-clause-goes : goal.returns-in_err-size-clause-goes
returns-in_err-size-clause-goes g c = λ from m told kept begin more off.
    off_look c.args.self.now.actor.txn.0 (led from (g.E.Engine.view c.args.self.now.engine)) (led from (g.E.Engine.view c.read.new.self)) _ off.taking.running.log (look_call from c.in_err-size.ensures.rests (c.in_err-size.ensures.looks _ from m)) told

pub returns-in_err-self-clause-counts : goal.returns-in_err-self-clause-counts
returns-in_err-self-clause-counts g c =
    let p = err_from_is_err_and c.from_residual-in_err-self.result c.from_residual-in_err-self.ensures.1 in
    counts_err c.from_residual-in_err-self.result c.in_err-self.field-0.0 p.0 (g.met.E.Engine.told_whole _) p.1 p.2 (looked_engine c.args.self.now.breaks c.in_ok-size.ensures.rests.counts) c.in_err-self.ensures.grows.counts

pub returns-in_err-self-clause-goes : goal.returns-in_err-self-clause-goes
returns-in_err-self-clause-goes g c = λ from m told kept begin more off.
    let s = c.args.self.now in
    let k = c.in_ok-size.ensures in
    let look = look_call from k.rests (k.looks _ from m) in
    let stays = look.stays.stays told in
    let off1 = going_stays stays off in
    let next = next_one _ kept begin (led from (g.E.Engine.view c.read.new.self)) s.rows.items s.actor c.args.at more off1 in
    let r = read_next (g.E.Engine.view c.args.self.now.engine).steps (g.E.Engine.view c.read.new.self).steps c.args.at _ (shown_change c.in-Some.change) c.in-Some.prev _ next.d (k.read _ from m told) stays.steps c.in-Some.ensures.reads next.step in
    off_then (led from (g.E.Engine.view s.engine)) (led from (g.E.Engine.view c.read.new.self)) (led from (g.E.Engine.view c.log_by.new.self))
    (off_look s.actor.txn.0 (led from (g.E.Engine.view s.engine)) (led from (g.E.Engine.view c.read.new.self)) _ off.taking.running.log look told) c.in_err-self.ensures.grows.counts.stops
    (λ told1. off_one kept begin (led from (g.E.Engine.view c.read.new.self)) (led from (g.E.Engine.view c.log_by.new.self)) s.rows.items s.actor c.args.at c.in-Some.prev (shown_change c.in-Some.change) (shown_change c.comp_of.result) _ off1 next r c.comp_of.ensures
    (log_call from c.in_err-self.ensures.grows (c.in_err-self.ensures.logs from (k.means _ from m))) told1)

pub returns-clause-goes : goal.returns-clause-goes
returns-clause-goes g c = λ from m told kept begin more off.
    let s = c.args.self.now in
    let k = c.in_ok-size.ensures in
    let look = look_call from k.rests (k.looks _ from m) in
    let stays = look.stays.stays told in
    let off1 = going_stays stays off in
    let next = next_one _ kept begin (led from (g.E.Engine.view c.read.new.self)) s.rows.items s.actor c.args.at more off1 in
    let r = read_next (g.E.Engine.view c.args.self.now.engine).steps (g.E.Engine.view c.read.new.self).steps c.args.at _ (shown_change c.in-Some.change) c.in-Some.prev _ next.d (k.read _ from m told) stays.steps c.in-Some.ensures.reads next.step in
    off_then (led from (g.E.Engine.view s.engine)) (led from (g.E.Engine.view c.read.new.self)) (led from (g.E.Engine.view c.log_by.new.self))
    (off_look s.actor.txn.0 (led from (g.E.Engine.view s.engine)) (led from (g.E.Engine.view c.read.new.self)) _ off.taking.running.log look told) c.in_ok-self.ensures.grows.counts.stops
    (λ told1. off_one kept begin (led from (g.E.Engine.view c.read.new.self)) (led from (g.E.Engine.view c.log_by.new.self)) s.rows.items s.actor c.args.at c.in-Some.prev (shown_change c.in-Some.change) (shown_change c.comp_of.result) _ off1 next r c.comp_of.ensures
    (log_call from c.in_ok-self.ensures.grows (c.in_ok-self.ensures.logs from (k.means _ from m))) told1)

pub invariant_of-self-in_default-clause-unbroken : goal.invariant_of-self-in_default-clause-unbroken
invariant_of-self-in_default-clause-unbroken g c = λ told1.
    let told = c.in_ok-size.ensures.rests.counts.told told1 in
    absurd (∥∥₁_elim (c.requires.off told) (hlevel props) (λ x.
    let read = c.in_ok-size.ensures.read _ x.0 x.1 told in
    let next = next_one _ x.2.kept x.2.begin (led x.0 (g.E.Engine.view c.args.self.now.engine)) c.args.self.now.rows.items c.args.self.now.actor c.args.at x.2.more x.2.going in
    c.in_default.ensures.none _ _ (reads_next _ x.2.kept x.2.begin x.0 (g.E.Engine.view c.args.self.now.engine) c.args.self.now.rows.items c.args.self.now.actor c.args.at _ (g.met.E.Engine.now_is _ _ x.0 x.1 told) next x.2.going read)))

pub returns-in_default-clause-counts : goal.returns-in_default-clause-counts
returns-in_default-clause-counts g c = counts_break c.count_break.result c.count_break.ensures.answer (looked_engine c.args.self.now.breaks c.in_ok-size.ensures.rests.counts) c.count_break.ensures.risen c.count_break.ensures.later (λ told1.
    let told = c.in_ok-size.ensures.rests.counts.told told1 in
    ∥∥₁_elim (c.requires.off told) (hlevel props) (λ x.
    let read = c.in_ok-size.ensures.read _ x.0 x.1 told in
    let next = next_one _ x.2.kept x.2.begin (led x.0 (g.E.Engine.view c.args.self.now.engine)) c.args.self.now.rows.items c.args.self.now.actor c.args.at x.2.more x.2.going in
    c.in_default.ensures.none _ _ (reads_next _ x.2.kept x.2.begin x.0 (g.E.Engine.view c.args.self.now.engine) c.args.self.now.rows.items c.args.self.now.actor c.args.at _ (g.met.E.Engine.now_is _ _ x.0 x.1 told) next x.2.going read)))

pub tell_range-requires : goal.tell_range-requires
tell_range-requires g c =
    let reads = c.in-Some.ensures.reads in
    let range = c.in-Some.ensures.range reads.what reads.size reads.is in
    comp_in _ _ _ reads.what (shown_change c.in-Some.change) _ c.in-Some.prev c.is_number.ensures c.is_number-2.ensures c.is_number-3.ensures range reads.makes (reads.brief range) c.comp_of.ensures

pub invariant_of-self-in_default-clause-goes_on : goal.invariant_of-self-in_default-clause-goes_on
invariant_of-self-in_default-clause-goes_on g c = can_rest (g.E.Engine.view c.read.new.self) _ _ c.requires.begun

pub returns-clause-lower : goal.returns-clause-lower
returns-clause-lower g c = c.in-Some.ensures.reads.lower

pub returns-in_err-size-clause-counts : goal.returns-in_err-size-clause-counts
returns-in_err-size-clause-counts g c =
    let p = err_from_is_err_and c.from_residual.result c.from_residual.ensures.1 in
    counts_err {T = ℕ} c.from_residual.result c.in_err-size.field-0.0 p.0 (g.met.E.Engine.told_whole _) p.1 p.2 (looked_none (g.E.Engine.view c.args.self.now.engine) c.args.self.now.breaks) c.in_err-size.ensures.rests.counts

pub returns-clause-counts : goal.returns-clause-counts
returns-clause-counts g c = counts_ok _ (looked_two c.args.self.now.breaks c.in_ok-size.ensures.rests.counts c.in_ok-self.ensures.grows.counts)

pub returns-in_err-size-clause-told : goal.returns-in_err-size-clause-told
returns-in_err-size-clause-told g c = c.in_err-size.ensures.rests.counts.told

pub returns-in_default-clause-told : goal.returns-in_default-clause-told
returns-in_default-clause-told g c = c.in_ok-size.ensures.rests.counts.told

pub returns-in_err-self-clause-told : goal.returns-in_err-self-clause-told
returns-in_err-self-clause-told g c = λ told. c.in_ok-size.ensures.rests.counts.told (c.in_err-self.ensures.grows.counts.told told)

pub returns-clause-told : goal.returns-clause-told
returns-clause-told g c = λ told. c.in_ok-size.ensures.rests.counts.told (c.in_ok-self.ensures.grows.counts.told told)

pub returns-in_err-size-clause-means : goal.returns-in_err-size-clause-means
returns-in_err-size-clause-means g c = λ from m. c.in_err-size.ensures.means _ from m

pub returns-in_default-clause-means : goal.returns-in_default-clause-means
returns-in_default-clause-means g c = λ from m. c.in_ok-size.ensures.means _ from m

pub returns-in_default-clause-goes : goal.returns-in_default-clause-goes
returns-in_default-clause-goes g c = λ from m told kept begin more off.
    off_look c.args.self.now.actor.txn.0 (led from (g.E.Engine.view c.args.self.now.engine)) (led from (g.E.Engine.view c.read.new.self)) _ off.taking.running.log (look_call from c.in_ok-size.ensures.rests (c.in_ok-size.ensures.looks _ from m)) told

pub invariant_of-self : goal.invariant_of-self
invariant_of-self g c =
    let never = λ (told : (g.E.Engine.view c.read.new.self).Told). not_both (g.met.E.Engine.told_whole _ told) c.in_err-size.ensures.rests.counts.failed in
    record {
      count_is = c.args.self.now.count_is;
      bands_are = c.args.self.now.bands_are;
      few = c.args.self.now.few;
      page_flags = c.args.self.now.page_flags;
      band_flags = c.args.self.now.band_flags;
      pages_said = λ told. absurd (never told);
      within = λ told. absurd (never told);
      unbroken = λ told. absurd (never told);
      goes_on = λ begun told. absurd (never told);
    }

pub invariant_of-self-in-Break-branch-2 : goal.invariant_of-self-in-Break-branch-2
invariant_of-self-in-Break-branch-2 g c =
    let never = λ (told : (g.E.Engine.view c.log_by.new.self).Told). not_both (g.met.E.Engine.told_whole _ told) c.in_err-self.ensures.grows.counts.failed in
    record {
      count_is = c.args.self.now.count_is;
      bands_are = c.args.self.now.bands_are;
      few = c.args.self.now.few;
      page_flags = c.args.self.now.page_flags;
      band_flags = c.args.self.now.band_flags;
      pages_said = λ told. absurd (never told);
      within = λ told. absurd (never told);
      unbroken = λ told. absurd (never told);
      goes_on = λ begun told. absurd (never told);
    }
