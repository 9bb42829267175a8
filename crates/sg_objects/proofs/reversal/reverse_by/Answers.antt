use Rattle.std.proofs.Common.{ℕ, sym, ap}
use Rattle.sg_objects.specs.Notes.{undoing_said}
use Rattle.sg_objects.proofs.Reversing.{can_as, did_as}
use Rattle.sg_objects.proofs.Apart.{said_drop, said_set, said_apply, can_said, can_at, never_short_of, never_other, never_long}
use Rattle.sg_objects.proofs.Counting.{counts_broken, few_by, few_none, one_freed, two_freed, four_freed, eight_freed}
use Rattle.sg_objects.proofs.Reshaping.{reshapes_as, no_entry}
use Rattle.sg_objects.proofs.reversal.reverse_by.Goals as goal

pub undo_make-requires-clause-can : goal.undo_make-requires-clause-can
undo_make-requires-clause-can g c = can_as _ _ c.args.code 1 c.args.name c.args.rest.now c.if-code-eq1.true c.requires.there

pub undo_push-requires-clause-can : goal.undo_push-requires-clause-can
undo_push-requires-clause-can g c = can_as _ _ c.args.code 3 c.args.name c.args.rest.now c.if-code-eq3.true c.requires.there

pub undo_pop-requires-clause-there : goal.undo_pop-requires-clause-there
undo_pop-requires-clause-there g c = can_as _ _ c.args.code 4 c.args.name c.args.rest.now c.if-code-eq4.true c.requires.there

pub undo_put-requires-clause-there : goal.undo_put-requires-clause-there
undo_put-requires-clause-there g c = can_as _ _ c.args.code 7 c.args.name c.args.rest.now c.if-code-eq7.true c.requires.there

pub returns-then-code-eq1-clause-did : goal.returns-then-code-eq1-clause-did
returns-then-code-eq1-clause-did g c = did_as _ _ _ c.args.name _ (ap (λ (n : ℕ). undoing_said n c.args.rest.now) (sym c.if-code-eq1.true)) c.undo_make.ensures.did

pub returns-then-code-eq3-clause-did : goal.returns-then-code-eq3-clause-did
returns-then-code-eq3-clause-did g c = did_as _ _ _ c.args.name _ (ap (λ (n : ℕ). undoing_said n c.args.rest.now) (sym c.if-code-eq3.true)) c.undo_push.ensures.did

pub returns-then-code-eq4-clause-did : goal.returns-then-code-eq4-clause-did
returns-then-code-eq4-clause-did g c = did_as _ _ _ c.args.name _ (ap (λ (n : ℕ). undoing_said n c.args.rest.now) (sym c.if-code-eq4.true)) c.undo_pop.ensures.did

pub returns-then-code-eq8-clause-did : goal.returns-then-code-eq8-clause-did
returns-then-code-eq8-clause-did g c = did_as _ _ _ c.args.name _ (ap (λ (n : ℕ). undoing_said n c.args.rest.now) (sym c.if-code-eq8.true)) c.reverse_over.ensures.did

-- as far grown as before
pub returns-then-code-eq1-clause-splits : goal.returns-then-code-eq1-clause-splits
returns-then-code-eq1-clause-splits g c = no_entry _ _ c.args.name _ tt (ap (λ (n : ℕ). undoing_said n c.args.rest.now) (sym c.if-code-eq1.true))

pub returns-then-code-eq2-clause-splits : goal.returns-then-code-eq2-clause-splits
returns-then-code-eq2-clause-splits g c = no_entry _ _ c.args.name _ tt (ap (λ (n : ℕ). undoing_said n c.args.rest.now) (sym c.if-code-eq2.true))

pub returns-then-code-eq3-clause-splits : goal.returns-then-code-eq3-clause-splits
returns-then-code-eq3-clause-splits g c = no_entry _ _ c.args.name _ tt (ap (λ (n : ℕ). undoing_said n c.args.rest.now) (sym c.if-code-eq3.true))

pub returns-then-code-eq4-clause-splits : goal.returns-then-code-eq4-clause-splits
returns-then-code-eq4-clause-splits g c = no_entry _ _ c.args.name _ tt (ap (λ (n : ℕ). undoing_said n c.args.rest.now) (sym c.if-code-eq4.true))

pub returns-then-code-eq5-clause-splits : goal.returns-then-code-eq5-clause-splits
returns-then-code-eq5-clause-splits g c = no_entry _ _ c.args.name _ tt (ap (λ (n : ℕ). undoing_said n c.args.rest.now) (sym c.if-code-eq5.true))

pub returns-then-code-eq6-clause-splits : goal.returns-then-code-eq6-clause-splits
returns-then-code-eq6-clause-splits g c = no_entry _ _ c.args.name _ tt (ap (λ (n : ℕ). undoing_said n c.args.rest.now) (sym c.if-code-eq6.true))

pub returns-then-code-eq7-clause-splits : goal.returns-then-code-eq7-clause-splits
returns-then-code-eq7-clause-splits g c = reshapes_as _ _ c.args.name _ (ap (λ (n : ℕ). undoing_said n c.args.rest.now) (sym c.if-code-eq7.true)) c.undo_put.ensures.splits

pub returns-then-code-eq8-clause-splits : goal.returns-then-code-eq8-clause-splits
returns-then-code-eq8-clause-splits g c = reshapes_as _ _ c.args.name _ (ap (λ (n : ℕ). undoing_said n c.args.rest.now) (sym c.if-code-eq8.true)) c.reverse_over.ensures.splits

-- what was read of the further fields
pub undo_drop-requires-clause-can : goal.undo_drop-requires-clause-can
undo_drop-requires-clause-can g c = can_said _ _ c.args.code c.args.name c.args.rest.now (said_drop c.args.code c.read_u32.result c.args.rest.now c.if-code-eq2.true c.read_u32.ensures.value) c.requires.there

pub returns-then-code-eq2-clause-did : goal.returns-then-code-eq2-clause-did
returns-then-code-eq2-clause-did g c = did_as _ _ _ c.args.name _ (sym (said_drop c.args.code c.read_u32.result c.args.rest.now c.if-code-eq2.true c.read_u32.ensures.value)) c.undo_drop.ensures.did

pub undo_set-requires-clause-can : goal.undo_set-requires-clause-can
undo_set-requires-clause-can g c = can_said _ _ c.args.code c.args.name c.args.rest.now (said_set c.args.code c.read_u32-then-code-eq5.result c.args.rest.now c.if-code-eq5.true c.read_u32-then-code-eq5.ensures.value) c.requires.there

pub returns-then-code-eq5-clause-did : goal.returns-then-code-eq5-clause-did
returns-then-code-eq5-clause-did g c = did_as _ _ _ c.args.name _ (sym (said_set c.args.code c.read_u32-then-code-eq5.result c.args.rest.now c.if-code-eq5.true c.read_u32-then-code-eq5.ensures.value)) c.undo_set.ensures.did

pub undo_apply-requires-clause-there : goal.undo_apply-requires-clause-there
undo_apply-requires-clause-there g c = can_said _ _ c.args.code c.args.name c.args.rest.now (said_apply c.args.code c.read_u32-index.result c.read_u16.result c.args.rest.now c.if-code-eq6.true c.read_u32-index.ensures.value c.read_u16.ensures.value) c.requires.there

pub returns-then-code-eq6-clause-did : goal.returns-then-code-eq6-clause-did
returns-then-code-eq6-clause-did g c = did_as _ _ _ c.args.name _ (sym (said_apply c.args.code c.read_u32-index.result c.read_u16.result c.args.rest.now c.if-code-eq6.true c.read_u32-index.ensures.value c.read_u16.ensures.value)) c.undo_apply.ensures.did

pub reverse_over-requires-clause-there : goal.reverse_over-requires-clause-there
reverse_over-requires-clause-there g c = can_at _ _ c.args.code 8 c.args.name c.args.rest.now c.if-code-eq8.true c.requires.there

pub returns-then-code-eq7-clause-did : goal.returns-then-code-eq7-clause-did
returns-then-code-eq7-clause-did g c = did_as _ _ _ c.args.name _ (ap (λ (n : ℕ). undoing_said n c.args.rest.now) (sym c.if-code-eq7.true)) c.undo_put.ensures.did

-- which is never cut short
pub broken-requires : goal.broken-requires
broken-requires g c = never_short_of _ _ c.args.code c.args.name c.args.rest.now 4 c.requires.there (λ w. w.root c.if-code-eq2.true) c.if-rest-lt4.true

pub broken-requires-then-rest-lt4-2 : goal.broken-requires-then-rest-lt4-2
broken-requires-then-rest-lt4-2 g c = never_short_of _ _ c.args.code c.args.name c.args.rest.now 4 c.requires.there (λ w. w.index c.if-code-eq5.true) c.if-rest-lt4-2.true

pub broken-requires-then-rest-lt6 : goal.broken-requires-then-rest-lt6
broken-requires-then-rest-lt6 g c = never_short_of _ _ c.args.code c.args.name c.args.rest.now 6 c.requires.there (λ w. w.numbers c.if-code-eq6.true) c.if-rest-lt6.true

pub broken-requires-then-rest-gt128 : goal.broken-requires-then-rest-gt128
broken-requires-then-rest-gt128 g c = never_long (g.P.PageSpace.view c.args.space.now) _ c.args.name c.args.rest.now (can_as (g.P.PageSpace.view c.args.space.now) _ c.args.code 7 c.args.name c.args.rest.now c.if-code-eq7.true c.requires.there) c.if-rest-gt128.true

pub broken-requires-2 : goal.broken-requires-2
broken-requires-2 g c = never_other _ _ c.args.code c.args.name c.args.rest.now c.requires.there c.if-code-eq1.false c.if-code-eq2.false c.if-code-eq3.false c.if-code-eq4.false c.if-code-eq5.false c.if-code-eq6.false c.if-code-eq7.false c.if-code-eq8.false

-- each call says the rest of it
pub undo_make-requires-clause-means : goal.undo_make-requires-clause-means
undo_make-requires-clause-means g c = c.requires.means

pub returns-then-code-eq1-clause-counts : goal.returns-then-code-eq1-clause-counts
returns-then-code-eq1-clause-counts g c = c.undo_make.ensures.counts

pub returns-then-code-eq1-clause-later : goal.returns-then-code-eq1-clause-later
returns-then-code-eq1-clause-later g c = c.undo_make.ensures.later

pub returns-then-code-eq1-clause-means : goal.returns-then-code-eq1-clause-means
returns-then-code-eq1-clause-means g c = c.undo_make.ensures.means

pub returns-then-code-eq1-clause-few : goal.returns-then-code-eq1-clause-few
returns-then-code-eq1-clause-few g c = c.undo_make.ensures.few

pub undo_drop-requires-clause-means : goal.undo_drop-requires-clause-means
undo_drop-requires-clause-means g c = c.requires.means

pub returns-then-code-eq2-clause-counts : goal.returns-then-code-eq2-clause-counts
returns-then-code-eq2-clause-counts g c = c.undo_drop.ensures.counts

pub returns-then-code-eq2-clause-later : goal.returns-then-code-eq2-clause-later
returns-then-code-eq2-clause-later g c = c.undo_drop.ensures.later

pub returns-then-code-eq2-clause-means : goal.returns-then-code-eq2-clause-means
returns-then-code-eq2-clause-means g c = c.undo_drop.ensures.means

pub returns-then-code-eq2-clause-few : goal.returns-then-code-eq2-clause-few
returns-then-code-eq2-clause-few g c = λ _. few_by (g.P.PageSpace.view c.args.space.now) (g.P.PageSpace.view c.undo_drop.new.space) 1 _ one_freed c.undo_drop.ensures.few

pub undo_push-requires-clause-means : goal.undo_push-requires-clause-means
undo_push-requires-clause-means g c = c.requires.means

pub returns-then-code-eq3-clause-counts : goal.returns-then-code-eq3-clause-counts
returns-then-code-eq3-clause-counts g c = c.undo_push.ensures.counts

pub returns-then-code-eq3-clause-later : goal.returns-then-code-eq3-clause-later
returns-then-code-eq3-clause-later g c = c.undo_push.ensures.later

pub returns-then-code-eq3-clause-means : goal.returns-then-code-eq3-clause-means
returns-then-code-eq3-clause-means g c = c.undo_push.ensures.means

pub returns-then-code-eq3-clause-few : goal.returns-then-code-eq3-clause-few
returns-then-code-eq3-clause-few g c = λ _. few_by (g.P.PageSpace.view c.args.space.now) (g.P.PageSpace.view c.undo_push.new.space) 2 _ two_freed c.undo_push.ensures.few

pub undo_pop-requires-clause-means : goal.undo_pop-requires-clause-means
undo_pop-requires-clause-means g c = c.requires.means

pub undo_pop-requires-clause-fresh : goal.undo_pop-requires-clause-fresh
undo_pop-requires-clause-fresh g c = c.requires.fresh

pub returns-then-code-eq4-clause-counts : goal.returns-then-code-eq4-clause-counts
returns-then-code-eq4-clause-counts g c = c.undo_pop.ensures.counts

pub returns-then-code-eq4-clause-later : goal.returns-then-code-eq4-clause-later
returns-then-code-eq4-clause-later g c = c.undo_pop.ensures.later

pub returns-then-code-eq4-clause-means : goal.returns-then-code-eq4-clause-means
returns-then-code-eq4-clause-means g c = c.undo_pop.ensures.means

pub returns-then-code-eq4-clause-few : goal.returns-then-code-eq4-clause-few
returns-then-code-eq4-clause-few g c = λ _. few_by (g.P.PageSpace.view c.args.space.now) (g.P.PageSpace.view c.undo_pop.new.space) 8 _ eight_freed c.undo_pop.ensures.few

pub undo_set-requires-clause-means : goal.undo_set-requires-clause-means
undo_set-requires-clause-means g c = c.requires.means

pub returns-then-code-eq5-clause-counts : goal.returns-then-code-eq5-clause-counts
returns-then-code-eq5-clause-counts g c = c.undo_set.ensures.counts

pub returns-then-code-eq5-clause-later : goal.returns-then-code-eq5-clause-later
returns-then-code-eq5-clause-later g c = c.undo_set.ensures.later

pub returns-then-code-eq5-clause-means : goal.returns-then-code-eq5-clause-means
returns-then-code-eq5-clause-means g c = c.undo_set.ensures.means

pub returns-then-code-eq5-clause-few : goal.returns-then-code-eq5-clause-few
returns-then-code-eq5-clause-few g c = λ _. few_by (g.P.PageSpace.view c.args.space.now) (g.P.PageSpace.view c.undo_set.new.space) 1 _ one_freed c.undo_set.ensures.few

pub undo_apply-requires-clause-means : goal.undo_apply-requires-clause-means
undo_apply-requires-clause-means g c = c.requires.means

pub returns-then-code-eq6-clause-counts : goal.returns-then-code-eq6-clause-counts
returns-then-code-eq6-clause-counts g c = c.undo_apply.ensures.counts

pub returns-then-code-eq6-clause-later : goal.returns-then-code-eq6-clause-later
returns-then-code-eq6-clause-later g c = c.undo_apply.ensures.later

pub returns-then-code-eq6-clause-means : goal.returns-then-code-eq6-clause-means
returns-then-code-eq6-clause-means g c = c.undo_apply.ensures.means

pub returns-then-code-eq6-clause-few : goal.returns-then-code-eq6-clause-few
returns-then-code-eq6-clause-few g c = λ _. few_by (g.P.PageSpace.view c.args.space.now) (g.P.PageSpace.view c.undo_apply.new.space) 1 _ one_freed c.undo_apply.ensures.few

pub undo_put-requires-clause-means : goal.undo_put-requires-clause-means
undo_put-requires-clause-means g c = c.requires.means

pub returns-then-code-eq7-clause-counts : goal.returns-then-code-eq7-clause-counts
returns-then-code-eq7-clause-counts g c = c.undo_put.ensures.counts

pub returns-then-code-eq7-clause-later : goal.returns-then-code-eq7-clause-later
returns-then-code-eq7-clause-later g c = c.undo_put.ensures.later

pub returns-then-code-eq7-clause-means : goal.returns-then-code-eq7-clause-means
returns-then-code-eq7-clause-means g c = c.undo_put.ensures.means

pub returns-then-code-eq7-clause-few : goal.returns-then-code-eq7-clause-few
returns-then-code-eq7-clause-few g c = λ _. few_by (g.P.PageSpace.view c.args.space.now) (g.P.PageSpace.view c.undo_put.new.space) 4 _ four_freed c.undo_put.ensures.few

pub reverse_over-requires-clause-means : goal.reverse_over-requires-clause-means
reverse_over-requires-clause-means g c = c.requires.means

pub reverse_over-requires-clause-fresh : goal.reverse_over-requires-clause-fresh
reverse_over-requires-clause-fresh g c = c.requires.fresh

pub returns-then-code-eq8-clause-counts : goal.returns-then-code-eq8-clause-counts
returns-then-code-eq8-clause-counts g c = c.reverse_over.ensures.counts

pub returns-then-code-eq8-clause-later : goal.returns-then-code-eq8-clause-later
returns-then-code-eq8-clause-later g c = c.reverse_over.ensures.later

pub returns-then-code-eq8-clause-means : goal.returns-then-code-eq8-clause-means
returns-then-code-eq8-clause-means g c = c.reverse_over.ensures.means

pub returns-then-code-eq8-clause-few : goal.returns-then-code-eq8-clause-few
returns-then-code-eq8-clause-few g c = λ _. few_by (g.P.PageSpace.view c.args.space.now) (g.P.PageSpace.view c.reverse_over.new.space) 8 _ eight_freed c.reverse_over.ensures.few

-- as does a report that it can't be
pub returns-then-rest-lt4-clause-counts : goal.returns-then-rest-lt4-clause-counts
returns-then-rest-lt4-clause-counts g c = counts_broken _ c.broken.ensures.answer c.broken.ensures.told c.broken.ensures.risen c.broken.ensures.rising

pub returns-then-rest-lt4-clause-did : goal.returns-then-rest-lt4-clause-did
returns-then-rest-lt4-clause-did g c = tt

pub returns-then-rest-lt4-clause-splits : goal.returns-then-rest-lt4-clause-splits
returns-then-rest-lt4-clause-splits g c = tt

pub returns-then-rest-lt4-clause-later : goal.returns-then-rest-lt4-clause-later
returns-then-rest-lt4-clause-later g c = c.broken.ensures.later _

pub returns-then-rest-lt4-clause-means : goal.returns-then-rest-lt4-clause-means
returns-then-rest-lt4-clause-means g c = c.broken.ensures.means _ c.requires.means

pub returns-then-rest-lt4-clause-few : goal.returns-then-rest-lt4-clause-few
returns-then-rest-lt4-clause-few g c = λ _. few_none (g.P.PageSpace.view c.args.space.now) (g.P.PageSpace.view c.broken.new.self) _ c.broken.ensures.writes_none

pub returns-then-rest-lt4-2-clause-counts : goal.returns-then-rest-lt4-2-clause-counts
returns-then-rest-lt4-2-clause-counts g c = counts_broken _ c.broken-then-rest-lt4-2.ensures.answer c.broken-then-rest-lt4-2.ensures.told c.broken-then-rest-lt4-2.ensures.risen c.broken-then-rest-lt4-2.ensures.rising

pub returns-then-rest-lt4-2-clause-did : goal.returns-then-rest-lt4-2-clause-did
returns-then-rest-lt4-2-clause-did g c = tt

pub returns-then-rest-lt4-2-clause-splits : goal.returns-then-rest-lt4-2-clause-splits
returns-then-rest-lt4-2-clause-splits g c = tt

pub returns-then-rest-lt4-2-clause-later : goal.returns-then-rest-lt4-2-clause-later
returns-then-rest-lt4-2-clause-later g c = c.broken-then-rest-lt4-2.ensures.later _

pub returns-then-rest-lt4-2-clause-means : goal.returns-then-rest-lt4-2-clause-means
returns-then-rest-lt4-2-clause-means g c = c.broken-then-rest-lt4-2.ensures.means _ c.requires.means

pub returns-then-rest-lt4-2-clause-few : goal.returns-then-rest-lt4-2-clause-few
returns-then-rest-lt4-2-clause-few g c = λ _. few_none (g.P.PageSpace.view c.args.space.now) (g.P.PageSpace.view c.broken-then-rest-lt4-2.new.self) _ c.broken-then-rest-lt4-2.ensures.writes_none

pub returns-then-rest-lt6-clause-counts : goal.returns-then-rest-lt6-clause-counts
returns-then-rest-lt6-clause-counts g c = counts_broken _ c.broken-then-rest-lt6.ensures.answer c.broken-then-rest-lt6.ensures.told c.broken-then-rest-lt6.ensures.risen c.broken-then-rest-lt6.ensures.rising

pub returns-then-rest-lt6-clause-did : goal.returns-then-rest-lt6-clause-did
returns-then-rest-lt6-clause-did g c = tt

pub returns-then-rest-lt6-clause-splits : goal.returns-then-rest-lt6-clause-splits
returns-then-rest-lt6-clause-splits g c = tt

pub returns-then-rest-lt6-clause-later : goal.returns-then-rest-lt6-clause-later
returns-then-rest-lt6-clause-later g c = c.broken-then-rest-lt6.ensures.later _

pub returns-then-rest-lt6-clause-means : goal.returns-then-rest-lt6-clause-means
returns-then-rest-lt6-clause-means g c = c.broken-then-rest-lt6.ensures.means _ c.requires.means

pub returns-then-rest-lt6-clause-few : goal.returns-then-rest-lt6-clause-few
returns-then-rest-lt6-clause-few g c = λ _. few_none (g.P.PageSpace.view c.args.space.now) (g.P.PageSpace.view c.broken-then-rest-lt6.new.self) _ c.broken-then-rest-lt6.ensures.writes_none

pub returns-then-rest-gt128-clause-counts : goal.returns-then-rest-gt128-clause-counts
returns-then-rest-gt128-clause-counts g c = counts_broken _ c.broken-then-rest-gt128.ensures.answer c.broken-then-rest-gt128.ensures.told c.broken-then-rest-gt128.ensures.risen c.broken-then-rest-gt128.ensures.rising

pub returns-then-rest-gt128-clause-did : goal.returns-then-rest-gt128-clause-did
returns-then-rest-gt128-clause-did g c = tt

pub returns-then-rest-gt128-clause-splits : goal.returns-then-rest-gt128-clause-splits
returns-then-rest-gt128-clause-splits g c = tt

pub returns-then-rest-gt128-clause-later : goal.returns-then-rest-gt128-clause-later
returns-then-rest-gt128-clause-later g c = c.broken-then-rest-gt128.ensures.later _

pub returns-then-rest-gt128-clause-means : goal.returns-then-rest-gt128-clause-means
returns-then-rest-gt128-clause-means g c = c.broken-then-rest-gt128.ensures.means _ c.requires.means

pub returns-then-rest-gt128-clause-few : goal.returns-then-rest-gt128-clause-few
returns-then-rest-gt128-clause-few g c = λ _. few_none (g.P.PageSpace.view c.args.space.now) (g.P.PageSpace.view c.broken-then-rest-gt128.new.self) _ c.broken-then-rest-gt128.ensures.writes_none

pub returns-clause-counts : goal.returns-clause-counts
returns-clause-counts g c = counts_broken _ c.broken-2.ensures.answer c.broken-2.ensures.told c.broken-2.ensures.risen c.broken-2.ensures.rising

pub returns-clause-did : goal.returns-clause-did
returns-clause-did g c = tt

pub returns-clause-splits : goal.returns-clause-splits
returns-clause-splits g c = tt

pub returns-clause-later : goal.returns-clause-later
returns-clause-later g c = c.broken-2.ensures.later _

pub returns-clause-means : goal.returns-clause-means
returns-clause-means g c = c.broken-2.ensures.means _ c.requires.means

pub returns-clause-few : goal.returns-clause-few
returns-clause-few g c = λ _. few_none (g.P.PageSpace.view c.args.space.now) (g.P.PageSpace.view c.broken-2.new.self) _ c.broken-2.ensures.writes_none
