use Rattle.std.proofs.Common.{sym}
use Rattle.sg_objects.proofs.Reversing.{did_as}
use Rattle.sg_objects.proofs.Reshaping.{reshapes_as}
use Rattle.sg_objects.proofs.Apart.{said_over, can_said, never_keyless, never_cut_key, never_long_over, never_large_over, one_free}
use Rattle.sg_objects.proofs.Counting.{counts_broken, few_none}
use Rattle.sg_objects.proofs.reversal.reverse_over.Goals as goal

-- what was read of the further fields
pub undo_over-requires-clause-there : goal.undo_over-requires-clause-there
undo_over-requires-clause-there g c = can_said _ _ 8 c.args.name c.args.rest.now (said_over c.args.rest.now) c.requires.there

pub returns-clause-did : goal.returns-clause-did
returns-clause-did g c = did_as _ _ _ c.args.name _ (sym (said_over c.args.rest.now)) c.undo_over.ensures.did

pub returns-clause-splits : goal.returns-clause-splits
returns-clause-splits g c = reshapes_as _ _ c.args.name _ (sym (said_over c.args.rest.now)) c.undo_over.ensures.splits

pub undo_over-requires-clause-page : goal.undo_over-requires-clause-page
undo_over-requires-clause-page g c = one_free _ _ c.args.name c.args.rest.now c.requires.there

-- which is never cut short
pub broken-requires : goal.broken-requires
broken-requires g c = never_keyless _ _ c.args.name c.args.rest.now c.requires.there c.if-rest-eq0.true

pub broken-requires-then-size-behind : goal.broken-requires-then-size-behind
broken-requires-then-size-behind g c = never_cut_key _ _ c.args.name c.args.rest.now c.requires.there c.if-size-behind.true

pub broken-requires-then-key-gt128 : goal.broken-requires-then-key-gt128
broken-requires-then-key-gt128 g c = never_long_over (g.P.PageSpace.view c.args.space.now) _ c.args.name _ _ (can_said (g.P.PageSpace.view c.args.space.now) _ 8 c.args.name c.args.rest.now (said_over c.args.rest.now) c.requires.there) c.if-key-gt128.true

pub broken-requires-then-value-gt1024 : goal.broken-requires-then-value-gt1024
broken-requires-then-value-gt1024 g c = never_large_over (g.P.PageSpace.view c.args.space.now) _ c.args.name _ _ (can_said (g.P.PageSpace.view c.args.space.now) _ 8 c.args.name c.args.rest.now (said_over c.args.rest.now) c.requires.there) c.if-value-gt1024.true

-- the call says the rest of it
pub undo_over-requires-clause-means : goal.undo_over-requires-clause-means
undo_over-requires-clause-means g c = c.requires.means

pub undo_over-requires-clause-short : goal.undo_over-requires-clause-short
undo_over-requires-clause-short g c = c.if-key-gt128.false

pub undo_over-requires-clause-small : goal.undo_over-requires-clause-small
undo_over-requires-clause-small g c = c.if-value-gt1024.false

pub undo_over-requires-clause-fresh : goal.undo_over-requires-clause-fresh
undo_over-requires-clause-fresh g c = c.requires.fresh

pub returns-clause-counts : goal.returns-clause-counts
returns-clause-counts g c = c.undo_over.ensures.counts

pub returns-clause-later : goal.returns-clause-later
returns-clause-later g c = c.undo_over.ensures.later

pub returns-clause-means : goal.returns-clause-means
returns-clause-means g c = c.undo_over.ensures.means

pub returns-clause-few : goal.returns-clause-few
returns-clause-few g c = c.undo_over.ensures.few

-- as does a report that it can't be
pub returns-then-rest-eq0-clause-counts : goal.returns-then-rest-eq0-clause-counts
returns-then-rest-eq0-clause-counts g c = counts_broken _ c.broken.ensures.answer c.broken.ensures.told c.broken.ensures.risen c.broken.ensures.rising

pub returns-then-rest-eq0-clause-did : goal.returns-then-rest-eq0-clause-did
returns-then-rest-eq0-clause-did g c = tt

pub returns-then-rest-eq0-clause-splits : goal.returns-then-rest-eq0-clause-splits
returns-then-rest-eq0-clause-splits g c = tt

pub returns-then-rest-eq0-clause-later : goal.returns-then-rest-eq0-clause-later
returns-then-rest-eq0-clause-later g c = c.broken.ensures.later _

pub returns-then-rest-eq0-clause-means : goal.returns-then-rest-eq0-clause-means
returns-then-rest-eq0-clause-means g c = c.broken.ensures.means _ c.requires.means

pub returns-then-rest-eq0-clause-few : goal.returns-then-rest-eq0-clause-few
returns-then-rest-eq0-clause-few g c = few_none (g.P.PageSpace.view c.args.space.now) (g.P.PageSpace.view c.broken.new.self) _ c.broken.ensures.writes_none

pub returns-then-size-behind-clause-counts : goal.returns-then-size-behind-clause-counts
returns-then-size-behind-clause-counts g c = counts_broken _ c.broken-then-size-behind.ensures.answer c.broken-then-size-behind.ensures.told c.broken-then-size-behind.ensures.risen c.broken-then-size-behind.ensures.rising

pub returns-then-size-behind-clause-did : goal.returns-then-size-behind-clause-did
returns-then-size-behind-clause-did g c = tt

pub returns-then-size-behind-clause-splits : goal.returns-then-size-behind-clause-splits
returns-then-size-behind-clause-splits g c = tt

pub returns-then-size-behind-clause-later : goal.returns-then-size-behind-clause-later
returns-then-size-behind-clause-later g c = c.broken-then-size-behind.ensures.later _

pub returns-then-size-behind-clause-means : goal.returns-then-size-behind-clause-means
returns-then-size-behind-clause-means g c = c.broken-then-size-behind.ensures.means _ c.requires.means

pub returns-then-size-behind-clause-few : goal.returns-then-size-behind-clause-few
returns-then-size-behind-clause-few g c = few_none (g.P.PageSpace.view c.args.space.now) (g.P.PageSpace.view c.broken-then-size-behind.new.self) _ c.broken-then-size-behind.ensures.writes_none

pub returns-then-key-gt128-clause-counts : goal.returns-then-key-gt128-clause-counts
returns-then-key-gt128-clause-counts g c = counts_broken _ c.broken-then-key-gt128.ensures.answer c.broken-then-key-gt128.ensures.told c.broken-then-key-gt128.ensures.risen c.broken-then-key-gt128.ensures.rising

pub returns-then-key-gt128-clause-did : goal.returns-then-key-gt128-clause-did
returns-then-key-gt128-clause-did g c = tt

pub returns-then-key-gt128-clause-splits : goal.returns-then-key-gt128-clause-splits
returns-then-key-gt128-clause-splits g c = tt

pub returns-then-key-gt128-clause-later : goal.returns-then-key-gt128-clause-later
returns-then-key-gt128-clause-later g c = c.broken-then-key-gt128.ensures.later _

pub returns-then-key-gt128-clause-means : goal.returns-then-key-gt128-clause-means
returns-then-key-gt128-clause-means g c = c.broken-then-key-gt128.ensures.means _ c.requires.means

pub returns-then-key-gt128-clause-few : goal.returns-then-key-gt128-clause-few
returns-then-key-gt128-clause-few g c = few_none (g.P.PageSpace.view c.args.space.now) (g.P.PageSpace.view c.broken-then-key-gt128.new.self) _ c.broken-then-key-gt128.ensures.writes_none

pub returns-then-value-gt1024-clause-counts : goal.returns-then-value-gt1024-clause-counts
returns-then-value-gt1024-clause-counts g c = counts_broken _ c.broken-then-value-gt1024.ensures.answer c.broken-then-value-gt1024.ensures.told c.broken-then-value-gt1024.ensures.risen c.broken-then-value-gt1024.ensures.rising

pub returns-then-value-gt1024-clause-did : goal.returns-then-value-gt1024-clause-did
returns-then-value-gt1024-clause-did g c = tt

pub returns-then-value-gt1024-clause-splits : goal.returns-then-value-gt1024-clause-splits
returns-then-value-gt1024-clause-splits g c = tt

pub returns-then-value-gt1024-clause-later : goal.returns-then-value-gt1024-clause-later
returns-then-value-gt1024-clause-later g c = c.broken-then-value-gt1024.ensures.later _

pub returns-then-value-gt1024-clause-means : goal.returns-then-value-gt1024-clause-means
returns-then-value-gt1024-clause-means g c = c.broken-then-value-gt1024.ensures.means _ c.requires.means

pub returns-then-value-gt1024-clause-few : goal.returns-then-value-gt1024-clause-few
returns-then-value-gt1024-clause-few g c = few_none (g.P.PageSpace.view c.args.space.now) (g.P.PageSpace.view c.broken-then-value-gt1024.new.self) _ c.broken-then-value-gt1024.ensures.writes_none
