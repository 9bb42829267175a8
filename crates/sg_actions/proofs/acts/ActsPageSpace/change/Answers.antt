use mathlib.Core.Logic.{∥∥₁_elim, ∥∥₁_prop}
use Rattle.std.proofs.Common.{true, ℕ, List, Option, refl, sym, ap, ◌∙◌, arith, length, inr, ◌≡◌, false}
use Rattle.std.specs.Prelude.{unwrap_or}
use Rattle.sg_record.specs.Changes.Change.{Page}
use Rattle.sg_actions.specs.Onward.{later_same, later_on}
use Rattle.sg_actions.proofs.Accounting.{within_by}
use Rattle.sg_actions.proofs.Banded.{bands_page}
use Rattle.sg_actions.proofs.Calling.{later_look, later_log, same_any, said_any, said_log, made_log}
use Rattle.sg_actions.proofs.Led.{by_later, made_after}
use Rattle.sg_actions.proofs.Spelled.{is_said, is_back, now_or}
use Rattle.sg_actions.proofs.Viewed.{ready, ready_same, loggable, change_on, shows_change, page_same}
use Rattle.sg_actions.proofs.Untold.{there_below, asked_few, asked_finds}
use Rattle.sg_actions.proofs.Counting.{never_any, looked_none, looked_engine}
use Rattle.sg_actions.proofs.Flags.{and_left}
use Rattle.sg_actions.proofs.Ranged.{page_in, take_le}
use Rattle.sg_space.specs.declared.space.SpaceFault.TheVariants.{Disk, LogEnd}
use Rattle.sg_actions.proofs.GoingOn.{can_look, formed_change, can_change_by}
use Rattle.std.proofs.lemmas.Result.{err_from_is_err_and}
use Rattle.sg_actions.proofs.Counted.{acts_err, shown_counts, shown_break}
use Rattle.sg_actions.proofs.acts.ActsPageSpace.change.Goals as goal

pub log_by-requires-clause-by : goal.log_by-requires-clause-by
log_by-requires-clause-by g c = λ told. ∥∥₁_elim (c.requires.means (c.in_ok-load.ensures.rests.counts.told told)) ∥∥₁_prop (λ x. ∣ (x.0, c.in_ok-load.ensures.means _ x.0 x.1.stands) ∣₁)

pub log_by-requires-clause-can : goal.log_by-requires-clause-can
log_by-requires-clause-can g c = λ told1.
    let s = c.args.self.now in
    let e = (g.E.Engine.view s.engine) in
    let e1 = (g.E.Engine.view c.load.new.self) in
    let k1 = c.load.ensures in
    let plain = c.in-Some.ensures.plain in
    let after = ap (λ x. x.now) c.unwrap_or.ensures ∙ (now_or (λ x. x.now) c.after_of.result _ ∙ ap (λ (o : Option (List ℕ)). unwrap_or o c.links_of.new.into) c.after_of.ensures) in
    let said = is_said _ c.args.p.0 _ c.code_of.result _ _ c.links_of.new.into c.spell.ensures c.code_of.ensures plain c.links_of.ensures after in
    let back = is_back _ c.args.p.0 _ c.code_of.result _ _ c.links_of.new.into _ c.spell.ensures c.code_of.ensures plain c.in-Some.ensures.small c.in-Some.ensures.taken.are after in
    let told = c.in_ok-load.ensures.rests.counts.told told1 in
    let same = same_any (g.met.E.Engine.some c.args.self.now.engine) (λ t. (record { rests = c.load.ensures.rests; keeps = λ from m. c.load.ensures.means t from m; looks = λ from m. c.load.ensures.looks t from m; whole = g.met.E.Engine.told_whole _; full = g.met.E.Engine.full_failed _; now = λ from m. g.met.E.Engine.now_is _ t from m; now' = λ from m. g.met.E.Engine.now_is _ t from m })) told told1 in
    let r = ready _ (g.E.Engine.limits (length c.args.self.now.maps.pages) (length c.args.self.now.maps.bands)) e (g.E.Engine.view c.args.self.now.begun_at.value).now s.breaks s.maps s.unfreed c.args.p.0 _ _ _ (ap (λ x. x.pages c.args.p.0) (sym same.now) ∙ c.page.ensures) back c.brings_bytes.ensures (c.requires.can told) in
    loggable _ e1 _ _ c.args.p.0 _ _ said (ready_same same r)
    (let below = there_below c.args.self.now.maps.pages c.args.self.now.unfreed.pages c.args.p.0 (sym c.if-not-has_page.ensures) in let w = (within_by c.in_ok-load.ensures.rests.counts c.args.self.now.within told1).pages in omega (arith, below, w))
    (formed_change e1 c.args.self.now.begun c.args.self.now.actor _ c.if-not-self.false (can_look c.args.self.now.begun c.args.self.now.actor (g.met.E.Engine.some c.args.self.now.engine) (λ t. (record { rests = c.load.ensures.rests; keeps = λ from m. c.load.ensures.means t from m; looks = λ from m. c.load.ensures.looks t from m; whole = g.met.E.Engine.told_whole _; full = g.met.E.Engine.full_failed _; now = λ from m. g.met.E.Engine.now_is _ t from m; now' = λ from m. g.met.E.Engine.now_is _ t from m })) c.args.self.now.goes_on) told1)

pub invariant_of-self-2-clause-pages_said : goal.invariant_of-self-2-clause-pages_said
invariant_of-self-2-clause-pages_said g c =
    said_log g.E.Engine.recovers (g.E.Engine.means c.load.new.self) (g.E.Engine.means c.log_by.new.self) c.args.self.now.maps.pages (λ told. ∥∥₁_elim (c.requires.means (c.load.ensures.rests.counts.told told)) ∥∥₁_prop (λ x. ∣ (x.0, c.in_ok-load.ensures.means _ x.0 x.1.stands) ∣₁)) (record { grows = c.log_by.ensures.grows; keeps = c.log_by.ensures.means; logs = c.log_by.ensures.logs; whole = g.met.E.Engine.told_whole _; full = g.met.E.Engine.full_failed _; now = g.met.E.Engine.now_is _ _; now' = g.met.E.Engine.now_is _ _; law = g.met.E.Engine.lawful _ _ }) refl (said_any c.args.self.now.maps.pages (g.met.E.Engine.some c.args.self.now.engine) (λ t. (record { rests = c.load.ensures.rests; keeps = λ from m. c.load.ensures.means t from m; looks = λ from m. c.load.ensures.looks t from m; whole = g.met.E.Engine.told_whole _; full = g.met.E.Engine.full_failed _; now = λ from m. g.met.E.Engine.now_is _ t from m; now' = λ from m. g.met.E.Engine.now_is _ t from m })) c.load.ensures.rests.counts.told c.args.self.now.pages_said)

pub invariant_of-self-2-clause-within : goal.invariant_of-self-2-clause-within
invariant_of-self-2-clause-within g c = within_by c.log_by.ensures.grows.counts (within_by c.load.ensures.rests.counts c.args.self.now.within)

pub invariant_of-self-2-clause-unbroken : goal.invariant_of-self-2-clause-unbroken
invariant_of-self-2-clause-unbroken g c = λ told. c.args.self.now.unbroken (c.load.ensures.rests.counts.told (c.log_by.ensures.grows.counts.told told))

pub invariant_of-self-in_default-clause-pages_said : goal.invariant_of-self-in_default-clause-pages_said
invariant_of-self-in_default-clause-pages_said g c = said_any c.args.self.now.maps.pages (g.met.E.Engine.some c.args.self.now.engine) (λ t. (record { rests = c.load.ensures.rests; keeps = λ from m. c.load.ensures.means t from m; looks = λ from m. c.load.ensures.looks t from m; whole = g.met.E.Engine.told_whole _; full = g.met.E.Engine.full_failed _; now = λ from m. g.met.E.Engine.now_is _ t from m; now' = λ from m. g.met.E.Engine.now_is _ t from m })) c.load.ensures.rests.counts.told c.args.self.now.pages_said

pub invariant_of-self-in_default-clause-within : goal.invariant_of-self-in_default-clause-within
invariant_of-self-in_default-clause-within g c = within_by c.load.ensures.rests.counts c.args.self.now.within

pub returns : goal.returns
returns g c =
    let s = c.args.self.now in
    let e = (g.E.Engine.view s.engine) in
    let e1 = (g.E.Engine.view c.load.new.self) in
    let k1 = c.load.ensures in
    let e2 = (g.E.Engine.view c.log_by.new.self) in
    let k2 = c.in_ok-self.ensures in
    let plain = c.in-Some.ensures.plain in
    let after = ap (λ x. x.now) c.unwrap_or.ensures ∙ (now_or (λ x. x.now) c.after_of.result _ ∙ ap (λ (o : Option (List ℕ)). unwrap_or o c.links_of.new.into) c.after_of.ensures) in
    let said = is_said _ c.args.p.0 _ c.code_of.result _ _ c.links_of.new.into c.spell.ensures c.code_of.ensures plain c.links_of.ensures after in
    let back = is_back _ c.args.p.0 _ c.code_of.result _ _ c.links_of.new.into _ c.spell.ensures c.code_of.ensures plain c.in-Some.ensures.small c.in-Some.ensures.taken.are after in
    let same = λ (told : e.Told) (told1 : e1.Told). same_any (g.met.E.Engine.some c.args.self.now.engine) (λ t. (record { rests = c.load.ensures.rests; keeps = λ from m. c.load.ensures.means t from m; looks = λ from m. c.load.ensures.looks t from m; whole = g.met.E.Engine.told_whole _; full = g.met.E.Engine.full_failed _; now = λ from m. g.met.E.Engine.now_is _ t from m; now' = λ from m. g.met.E.Engine.now_is _ t from m })) told told1 in
    let later = later_on {strict = true} g.E.Engine.recovers (g.E.Engine.limits (length c.args.self.now.maps.pages) (length c.args.self.now.maps.bands)) _ _ _ _
    (later_look {strict = true} g.E.Engine.recovers (g.E.Engine.limits (length c.args.self.now.maps.pages) (length c.args.self.now.maps.bands)) _ (g.E.Engine.view c.args.self.now.engine) (g.E.Engine.view c.load.new.self) (g.E.Engine.means c.args.self.now.engine) (g.E.Engine.means c.load.new.self) (g.E.Engine.view c.args.self.now.begun_at.value).now c.args.self.now.maps c.args.self.now.rows.items c.args.self.now.actor c.args.self.now.begun _ (record { rests = c.in_ok-load.ensures.rests; keeps = c.in_ok-load.ensures.means _; looks = c.in_ok-load.ensures.looks _; whole = g.met.E.Engine.told_whole _; full = g.met.E.Engine.full_failed _; now = g.met.E.Engine.now_is _ _; now' = g.met.E.Engine.now_is _ _ }))
    (later_log {strict = true} g.E.Engine.recovers (g.E.Engine.limits (length c.args.self.now.maps.pages) (length c.args.self.now.maps.bands)) _ (g.E.Engine.view c.load.new.self) (g.E.Engine.view c.log_by.new.self) (g.E.Engine.means c.load.new.self) (g.E.Engine.means c.log_by.new.self) (g.E.Engine.view c.args.self.now.begun_at.value).now c.args.self.now.maps c.args.self.now.maps c.args.self.now.rows.items c.args.self.now.actor _ c.args.self.now.begun (Page _) _ c.if-not-self.false (c.tell_range.ensures) (record { grows = c.in_ok-self.ensures.grows; keeps = c.in_ok-self.ensures.means; logs = c.in_ok-self.ensures.logs; whole = g.met.E.Engine.told_whole _; full = g.met.E.Engine.full_failed _; now = g.met.E.Engine.now_is _ _; now' = g.met.E.Engine.now_is _ _; law = g.met.E.Engine.lawful _ _ }) refl
    (record {
      on = λ from since told1 k. let told = c.in_ok-load.ensures.rests.counts.told told1 in change_on _ (g.E.Engine.limits (length c.args.self.now.maps.pages) (length c.args.self.now.maps.bands)) from e e1 (g.E.Engine.view c.args.self.now.begun_at.value).now s.breaks s.maps s.unfreed _ _ c.args.p.0 _ _ _ plain said told (same told told1) c.page.ensures back c.brings_bytes.ensures (c.requires.can told) (g.met.E.Engine.now_is _ _ from since.stands told1) (since.since c.if-not-self.false told1) k;
      same = λ from since told1. page_same (g.E.Engine.limits (length c.args.self.now.maps.pages) (length c.args.self.now.maps.bands)) _ e1.steps s.maps c.args.p.0 _ _ plain said;
      pages = refl;
      bands = refl;
      holds = λ o from since told1 h. bands_page _ _ _ h;
    })) in
    let first = c.in_ok-load.ensures.rests.counts in
    let second = k2.grows.counts in
    record {
      counts = record { told = λ t. first.told (second.told t); later = omega (arith, first.later, second.later); quiet = let a = first.quiet in let b = second.quiet in omega (arith, a, b); disk = tt; log_end = tt };
      few = let a = c.in_ok-load.ensures.rests.records in let b = k2.grows.few in omega (arith, a, b);
      means = by_later later c.requires.means;
      did = shows_change _ (g.E.Engine.limits (length c.args.self.now.maps.pages) (length c.args.self.now.maps.bands)) e e2 (g.E.Engine.view c.args.self.now.begun_at.value).now s.breaks s.maps s.unfreed c.args.p.0 _ _ _ _ _ (sym (c.if-not-has_page.ensures)) plain said
          (λ told. ready _ (g.E.Engine.limits (length c.args.self.now.maps.pages) (length c.args.self.now.maps.bands)) e (g.E.Engine.view c.args.self.now.begun_at.value).now s.breaks s.maps s.unfreed c.args.p.0 _ _ _ (ap (λ x. x.pages c.args.p.0) (sym (same told (first.tells told)).now) ∙ c.page.ensures) back c.brings_bytes.ensures (c.requires.can told))
          (λ told. second.tells (first.tells told)) (λ t. first.told (second.told t))
          (λ told. let told1 = first.tells told in made_after (same told told1) (made_log g.E.Engine.recovers (g.E.Engine.means c.load.new.self) (g.E.Engine.means c.log_by.new.self) (∥∥₁_elim (c.requires.means told) ∥∥₁_prop (λ x. ∣ (x.0, c.in_ok-load.ensures.means _ x.0 x.1.stands) ∣₁)) (record { grows = c.in_ok-self.ensures.grows; keeps = c.in_ok-self.ensures.means; logs = c.in_ok-self.ensures.logs; whole = g.met.E.Engine.told_whole _; full = g.met.E.Engine.full_failed _; now = g.met.E.Engine.now_is _ _; now' = g.met.E.Engine.now_is _ _; law = g.met.E.Engine.lawful _ _ }) refl told1 (second.tells told1)));
      later = later;
    }

pub returns-in_default-clause-later : goal.returns-in_default-clause-later
returns-in_default-clause-later g c = (later_look {strict = true} g.E.Engine.recovers (g.E.Engine.limits (length c.args.self.now.maps.pages) (length c.args.self.now.maps.bands)) _ (g.E.Engine.view c.args.self.now.engine) (g.E.Engine.view c.load.new.self) (g.E.Engine.means c.args.self.now.engine) (g.E.Engine.means c.load.new.self) (g.E.Engine.view c.args.self.now.begun_at.value).now c.args.self.now.maps c.args.self.now.rows.items c.args.self.now.actor c.args.self.now.begun _ (record { rests = c.in_ok-load.ensures.rests; keeps = c.in_ok-load.ensures.means _; looks = c.in_ok-load.ensures.looks _; whole = g.met.E.Engine.told_whole _; full = g.met.E.Engine.full_failed _; now = g.met.E.Engine.now_is _ _; now' = g.met.E.Engine.now_is _ _ }))

pub returns-in_default-clause-means : goal.returns-in_default-clause-means
returns-in_default-clause-means g c = by_later (returns-in_default-clause-later g c) c.requires.means

pub returns-in_err-load-clause-later : goal.returns-in_err-load-clause-later
returns-in_err-load-clause-later g c = (later_look {strict = true} g.E.Engine.recovers (g.E.Engine.limits (length c.args.self.now.maps.pages) (length c.args.self.now.maps.bands)) _ (g.E.Engine.view c.args.self.now.engine) (g.E.Engine.view c.load.new.self) (g.E.Engine.means c.args.self.now.engine) (g.E.Engine.means c.load.new.self) (g.E.Engine.view c.args.self.now.begun_at.value).now c.args.self.now.maps c.args.self.now.rows.items c.args.self.now.actor c.args.self.now.begun _ (record { rests = c.in_err-load.ensures.rests; keeps = c.in_err-load.ensures.means _; looks = c.in_err-load.ensures.looks _; whole = g.met.E.Engine.told_whole _; full = g.met.E.Engine.full_failed _; now = g.met.E.Engine.now_is _ _; now' = g.met.E.Engine.now_is _ _ }))

pub returns-in_err-load-clause-means : goal.returns-in_err-load-clause-means
returns-in_err-load-clause-means g c = by_later (returns-in_err-load-clause-later g c) c.requires.means

pub returns-in_err-self-clause-later : goal.returns-in_err-self-clause-later
returns-in_err-self-clause-later g c =
    let s = c.args.self.now in
    let e = (g.E.Engine.view s.engine) in
    let e1 = (g.E.Engine.view c.load.new.self) in
    let k1 = c.load.ensures in
    let plain = c.in-Some.ensures.plain in
    let after = ap (λ x. x.now) c.unwrap_or.ensures ∙ (now_or (λ x. x.now) c.after_of.result _ ∙ ap (λ (o : Option (List ℕ)). unwrap_or o c.links_of.new.into) c.after_of.ensures) in
    let said = is_said _ c.args.p.0 _ c.code_of.result _ _ c.links_of.new.into c.spell.ensures c.code_of.ensures plain c.links_of.ensures after in
    let back = is_back _ c.args.p.0 _ c.code_of.result _ _ c.links_of.new.into _ c.spell.ensures c.code_of.ensures plain c.in-Some.ensures.small c.in-Some.ensures.taken.are after in
    let same = λ (told : e.Told) (told1 : e1.Told). same_any (g.met.E.Engine.some c.args.self.now.engine) (λ t. (record { rests = c.load.ensures.rests; keeps = λ from m. c.load.ensures.means t from m; looks = λ from m. c.load.ensures.looks t from m; whole = g.met.E.Engine.told_whole _; full = g.met.E.Engine.full_failed _; now = λ from m. g.met.E.Engine.now_is _ t from m; now' = λ from m. g.met.E.Engine.now_is _ t from m })) told told1 in
    later_on {strict = true} g.E.Engine.recovers (g.E.Engine.limits (length c.args.self.now.maps.pages) (length c.args.self.now.maps.bands)) _ _ _ _ (later_look {strict = true} g.E.Engine.recovers (g.E.Engine.limits (length c.args.self.now.maps.pages) (length c.args.self.now.maps.bands)) _ (g.E.Engine.view c.args.self.now.engine) (g.E.Engine.view c.load.new.self) (g.E.Engine.means c.args.self.now.engine) (g.E.Engine.means c.load.new.self) (g.E.Engine.view c.args.self.now.begun_at.value).now c.args.self.now.maps c.args.self.now.rows.items c.args.self.now.actor c.args.self.now.begun _ (record { rests = c.in_ok-load.ensures.rests; keeps = c.in_ok-load.ensures.means _; looks = c.in_ok-load.ensures.looks _; whole = g.met.E.Engine.told_whole _; full = g.met.E.Engine.full_failed _; now = g.met.E.Engine.now_is _ _; now' = g.met.E.Engine.now_is _ _ })) (later_log {strict = true} g.E.Engine.recovers (g.E.Engine.limits (length c.args.self.now.maps.pages) (length c.args.self.now.maps.bands)) _ (g.E.Engine.view c.load.new.self) (g.E.Engine.view c.log_by.new.self) (g.E.Engine.means c.load.new.self) (g.E.Engine.means c.log_by.new.self) (g.E.Engine.view c.args.self.now.begun_at.value).now c.args.self.now.maps c.args.self.now.maps c.args.self.now.rows.items c.args.self.now.actor c.args.self.now.actor c.args.self.now.begun (Page _) _ c.if-not-self.false (c.tell_range.ensures) (record { grows = c.in_err-self.ensures.grows; keeps = c.in_err-self.ensures.means; logs = c.in_err-self.ensures.logs; whole = g.met.E.Engine.told_whole _; full = g.met.E.Engine.full_failed _; now = g.met.E.Engine.now_is _ _; now' = g.met.E.Engine.now_is _ _; law = g.met.E.Engine.lawful _ _ }) tt
    (record {
      on = λ from since told1 k. let told = c.in_ok-load.ensures.rests.counts.told told1 in change_on _ (g.E.Engine.limits (length c.args.self.now.maps.pages) (length c.args.self.now.maps.bands)) from e e1 (g.E.Engine.view c.args.self.now.begun_at.value).now s.breaks s.maps s.unfreed _ _ c.args.p.0 _ _ _ plain said told (same told told1) c.page.ensures back c.brings_bytes.ensures (c.requires.can told) (g.met.E.Engine.now_is _ _ from since.stands told1) (since.since c.if-not-self.false told1) k;
      same = λ from since told1. page_same (g.E.Engine.limits (length c.args.self.now.maps.pages) (length c.args.self.now.maps.bands)) _ e1.steps s.maps c.args.p.0 _ _ plain said;
      pages = refl;
      bands = refl;
      holds = λ o from since told1 h. bands_page _ _ _ h;
    }))

pub returns-in_err-self-clause-means : goal.returns-in_err-self-clause-means
returns-in_err-self-clause-means g c = by_later (returns-in_err-self-clause-later g c) c.requires.means

pub returns-then-not-self-clause-later : goal.returns-then-not-self-clause-later
returns-then-not-self-clause-later g c = later_same {strict = true} g.E.Engine.recovers (g.E.Engine.limits (length c.args.self.now.maps.pages) (length c.args.self.now.maps.bands)) _ _ (g.met.E.Engine.told_whole _) (λ from m told. g.met.E.Engine.images _ _ from m.stands told)

pub returns-then-not-has_page-clause-later : goal.returns-then-not-has_page-clause-later
returns-then-not-has_page-clause-later g c = later_same {strict = true} g.E.Engine.recovers (g.E.Engine.limits (length c.args.self.now.maps.pages) (length c.args.self.now.maps.bands)) _ _ (g.met.E.Engine.told_whole _) (λ from m told. g.met.E.Engine.images _ _ from m.stands told)

pub load-requires : goal.load-requires
load-requires g c = record { there = λ told. c.args.self.now.pages_said told c.args.p.0 (and_left _ _ (sym c.if-not-has_page.ensures)) }

pub tell_range-requires : goal.tell_range-requires
tell_range-requires g c =
    let plain = c.in-Some.ensures.plain in
    let after = ap (λ x. x.now) c.unwrap_or.ensures ∙ (now_or (λ x. x.now) c.after_of.result _ ∙ ap (λ (o : Option (List ℕ)). unwrap_or o c.links_of.new.into) c.after_of.ensures) in
    page_in _ _ _ c.args.p.0 _ c.code_of.result _ _ c.links_of.new.into _ c.is_number.ensures c.is_number-2.ensures c.spell.ensures c.code_of.ensures
    (let below = there_below c.args.self.now.maps.pages c.args.self.now.unfreed.pages c.args.p.0 (sym c.if-not-has_page.ensures) in let few = c.args.self.now.few in let is = c.args.self.now.count_is in omega (arith, below, few, is))
    (omega arith) (omega arith) plain (c.if-not-is_short.ensures.yes refl) c.links_of.ensures (let l = c.in-Some.ensures.long in let z = take_le c.in-Some.size c.take_away.new.into in omega (arith, l, z)) c.in-Some.ensures.taken.are after

pub invariant_of-self-then-not-is_short-clause-unbroken : goal.invariant_of-self-then-not-is_short-clause-unbroken
invariant_of-self-then-not-is_short-clause-unbroken g c = λ told. absurd (let e : false ≡ true = c.if-not-is_short.ensures.no (asked_few _ _ c.args.p.0 _ (c.requires.can told)) in cc)

pub invariant_of-self-in_default-clause-unbroken : goal.invariant_of-self-in_default-clause-unbroken
invariant_of-self-in_default-clause-unbroken g c = λ told1. absurd (
    let told = c.in_ok-load.ensures.rests.counts.told told1 in
    let same = same_any (g.met.E.Engine.some c.args.self.now.engine) (λ t. (record { rests = c.load.ensures.rests; keeps = λ from m. c.load.ensures.means t from m; looks = λ from m. c.load.ensures.looks t from m; whole = g.met.E.Engine.told_whole _; full = g.met.E.Engine.full_failed _; now = λ from m. g.met.E.Engine.now_is _ t from m; now' = λ from m. g.met.E.Engine.now_is _ t from m })) told told1 in
    never_any _ (g.met.E.Engine.some c.args.self.now.engine told) (λ t from m. asked_finds _ _ c.args.self.now.maps.pages c.args.self.now.unfreed.pages (g.E.Engine.view c.args.self.now.engine).now c.args.p.0 _ _ refl (ap (λ x. x.pages c.args.p.0) (sym same.now) ∙ c.page.ensures) (g.met.E.Engine.pages_fit _ t from m told) (c.requires.can told) c.in_default.ensures.none))

pub returns-then-not-is_short-clause-later : goal.returns-then-not-is_short-clause-later
returns-then-not-is_short-clause-later g c = later_same {strict = true} g.E.Engine.recovers (g.E.Engine.limits (length c.args.self.now.maps.pages) (length c.args.self.now.maps.bands)) _ _ (g.met.E.Engine.told_whole _) (λ from m told. g.met.E.Engine.images _ _ from m.stands told)

pub returns-then-not-self-clause-counts : goal.returns-then-not-self-clause-counts
returns-then-not-self-clause-counts g c = record { told = λ t. t; later = omega arith; quiet = tt; disk = λ d. absurd (let e : LogEnd ≡ Disk = d in cc); log_end = λ z. inr c.if-not-self.true }

pub invariant_of-self-in_default-clause-goes_on : goal.invariant_of-self-in_default-clause-goes_on
invariant_of-self-in_default-clause-goes_on g c = can_look c.args.self.now.begun c.args.self.now.actor (g.met.E.Engine.some c.args.self.now.engine) (λ t. (record { rests = c.load.ensures.rests; keeps = λ from m. c.load.ensures.means t from m; looks = λ from m. c.load.ensures.looks t from m; whole = g.met.E.Engine.told_whole _; full = g.met.E.Engine.full_failed _; now = λ from m. g.met.E.Engine.now_is _ t from m; now' = λ from m. g.met.E.Engine.now_is _ t from m })) c.args.self.now.goes_on

pub invariant_of-self-2-clause-goes_on : goal.invariant_of-self-2-clause-goes_on
invariant_of-self-2-clause-goes_on g c = can_change_by g.E.Engine.recovers (g.E.Engine.means c.load.new.self) (g.E.Engine.means c.log_by.new.self) c.args.self.now.begun c.args.self.now.actor _ _ (λ told. ∥∥₁_elim (c.requires.means (c.in_ok-load.ensures.rests.counts.told told)) ∥∥₁_prop (λ x. ∣ (x.0, c.in_ok-load.ensures.means _ x.0 x.1.stands) ∣₁)) (record { grows = c.in_ok-self.ensures.grows; keeps = c.in_ok-self.ensures.means; logs = c.in_ok-self.ensures.logs; whole = g.met.E.Engine.told_whole _; full = g.met.E.Engine.full_failed _; now = g.met.E.Engine.now_is _ _; now' = g.met.E.Engine.now_is _ _; law = g.met.E.Engine.lawful _ _ }) refl refl (can_look c.args.self.now.begun c.args.self.now.actor (g.met.E.Engine.some c.args.self.now.engine) (λ t. (record { rests = c.load.ensures.rests; keeps = λ from m. c.load.ensures.means t from m; looks = λ from m. c.load.ensures.looks t from m; whole = g.met.E.Engine.told_whole _; full = g.met.E.Engine.full_failed _; now = λ from m. g.met.E.Engine.now_is _ t from m; now' = λ from m. g.met.E.Engine.now_is _ t from m })) c.args.self.now.goes_on)

pub returns-then-not-has_page-clause-counts : goal.returns-then-not-has_page-clause-counts
returns-then-not-has_page-clause-counts g c = shown_break (g.E.Engine.limits (length c.args.self.now.maps.pages) (length c.args.self.now.maps.bands)) (g.E.Engine.limits (length c.args.self.now.maps.pages) (length c.args.self.now.maps.bands)) (g.E.Engine.view c.args.self.now.engine) (g.E.Engine.view c.args.self.now.engine) c.args.self.now.begun c.args.self.now.begun (g.E.Engine.view c.args.self.now.begun_at.value).now (g.E.Engine.view c.args.self.now.begun_at.value).now c.args.self.now.breaks c.count_break.new.breaks c.args.self.now.maps c.args.self.now.maps c.args.self.now.unfreed c.args.self.now.unfreed c.count_break.result c.count_break.ensures.answer (λ t. t) refl c.count_break.ensures.risen c.count_break.ensures.later

pub returns-in_err-load-clause-counts : goal.returns-in_err-load-clause-counts
returns-in_err-load-clause-counts g c =
    let p = err_from_is_err_and c.from_residual.result c.from_residual.ensures.1 in
    shown_counts (g.E.Engine.limits (length c.args.self.now.maps.pages) (length c.args.self.now.maps.bands)) (g.E.Engine.limits (length c.args.self.now.maps.pages) (length c.args.self.now.maps.bands)) (g.E.Engine.view c.args.self.now.engine) (g.E.Engine.view c.load.new.self) c.args.self.now.begun c.args.self.now.begun (g.E.Engine.view c.args.self.now.begun_at.value).now (g.E.Engine.view c.args.self.now.begun_at.value).now c.args.self.now.breaks c.args.self.now.breaks c.args.self.now.maps c.args.self.now.maps c.args.self.now.unfreed c.args.self.now.unfreed c.from_residual.result (acts_err {T = Unit {0}} c.from_residual.result c.in_err-load.field-0.0 p.0 p.1 p.2 (g.met.E.Engine.told_whole _) (looked_none (g.E.Engine.view c.args.self.now.engine) c.args.self.now.breaks) c.in_err-load.ensures.rests.counts)

pub returns-in_err-self-clause-counts : goal.returns-in_err-self-clause-counts
returns-in_err-self-clause-counts g c =
    let p = err_from_is_err_and c.from_residual-in_err-self.result c.from_residual-in_err-self.ensures.1 in
    shown_counts (g.E.Engine.limits (length c.args.self.now.maps.pages) (length c.args.self.now.maps.bands)) (g.E.Engine.limits (length c.args.self.now.maps.pages) (length c.args.self.now.maps.bands)) (g.E.Engine.view c.args.self.now.engine) (g.E.Engine.view c.log_by.new.self) c.args.self.now.begun c.args.self.now.begun (g.E.Engine.view c.args.self.now.begun_at.value).now (g.E.Engine.view c.args.self.now.begun_at.value).now c.args.self.now.breaks c.args.self.now.breaks c.args.self.now.maps c.args.self.now.maps c.args.self.now.unfreed c.args.self.now.unfreed c.from_residual-in_err-self.result (acts_err {T = ℕ} c.from_residual-in_err-self.result c.in_err-self.field-0.0 p.0 p.1 p.2 (g.met.E.Engine.told_whole _) (looked_engine c.args.self.now.breaks c.in_ok-load.ensures.rests.counts) c.in_err-self.ensures.grows.counts)

pub returns-in_default-clause-counts : goal.returns-in_default-clause-counts
returns-in_default-clause-counts g c = shown_break (g.E.Engine.limits (length c.args.self.now.maps.pages) (length c.args.self.now.maps.bands)) (g.E.Engine.limits (length c.args.self.now.maps.pages) (length c.args.self.now.maps.bands)) (g.E.Engine.view c.args.self.now.engine) (g.E.Engine.view c.load.new.self) c.args.self.now.begun c.args.self.now.begun (g.E.Engine.view c.args.self.now.begun_at.value).now (g.E.Engine.view c.args.self.now.begun_at.value).now c.args.self.now.breaks c.count_break-in_default.new.breaks c.args.self.now.maps c.args.self.now.maps c.args.self.now.unfreed c.args.self.now.unfreed c.count_break-in_default.result c.count_break-in_default.ensures.answer c.in_ok-load.ensures.rests.counts.told c.in_ok-load.ensures.rests.counts.quiet c.count_break-in_default.ensures.risen c.count_break-in_default.ensures.later

pub returns-then-not-is_short-clause-counts : goal.returns-then-not-is_short-clause-counts
returns-then-not-is_short-clause-counts g c = shown_break (g.E.Engine.limits (length c.args.self.now.maps.pages) (length c.args.self.now.maps.bands)) (g.E.Engine.limits (length c.args.self.now.maps.pages) (length c.args.self.now.maps.bands)) (g.E.Engine.view c.args.self.now.engine) (g.E.Engine.view c.args.self.now.engine) c.args.self.now.begun c.args.self.now.begun (g.E.Engine.view c.args.self.now.begun_at.value).now (g.E.Engine.view c.args.self.now.begun_at.value).now c.args.self.now.breaks c.count_break-then-not-is_short.new.breaks c.args.self.now.maps c.args.self.now.maps c.args.self.now.unfreed c.args.self.now.unfreed c.count_break-then-not-is_short.result c.count_break-then-not-is_short.ensures.answer (λ t. t) refl c.count_break-then-not-is_short.ensures.risen c.count_break-then-not-is_short.ensures.later
