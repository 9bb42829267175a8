use Rattle.std.proofs.Common.{◌∙◌, ℕ, List, ap}
use Rattle.sg_objects.specs.Notes.{byte_at}
use Rattle.sg_objects.proofs.Reversing.{read_from, can_by, did_by, can_bytes, did_bytes, never_short, never_cut, never_unnamed, never_bare}
use Rattle.sg_objects.proofs.Reshaping.{reshapes_by, bytes_unshaped}
use Rattle.sg_objects.proofs.Counting.{counts_broken, few_by, few_none, one_freed}
use Rattle.sg_objects.proofs.reversal.reverse.Goals as goal

pub reverse_by-requires-clause-there : goal.reverse_by-requires-clause-there
reverse_by-requires-clause-there g c = can_by _ _ c.args.note.now _ _ _ c.if-code-eq9.false c.requires.there (read_from c.bytes-bytes.result.now c.args.note.now c.in-Some.name _ c.bytes-bytes.ensures c.new.ensures c.in-Some.is)

pub returns-clause-did : goal.returns-clause-did
returns-clause-did g c = did_by _ _ _ c.args.note.now _ _ _ _ c.if-code-eq9.false (read_from c.bytes-bytes.result.now c.args.note.now c.in-Some.name _ c.bytes-bytes.ensures c.new.ensures c.in-Some.is) c.reverse_by.ensures.did

pub undo_bytes-requires-clause-can : goal.undo_bytes-requires-clause-can
undo_bytes-requires-clause-can g c = can_bytes _ _ c.args.note.now _ _ _ _ c.read_u32.ensures.value c.if-code-eq9.true c.requires.there (read_from c.bytes-bytes.result.now c.args.note.now c.in-Some.name _ c.bytes-bytes.ensures c.new.ensures c.in-Some.is)

pub returns-then-code-eq9-clause-did : goal.returns-then-code-eq9-clause-did
returns-then-code-eq9-clause-did g c = did_bytes _ _ _ c.args.note.now _ _ _ _ _ c.read_u32.ensures.value c.if-code-eq9.true (read_from c.bytes-bytes.result.now c.args.note.now c.in-Some.name _ c.bytes-bytes.ensures c.new.ensures c.in-Some.is) c.undo_bytes.ensures.did

pub reverse_by-requires-clause-fresh : goal.reverse_by-requires-clause-fresh
reverse_by-requires-clause-fresh g c = λ told. c.requires.fresh told (λ e. c.if-code-eq9.false (ap (λ (xs : List ℕ). byte_at xs 0) c.bytes-bytes.ensures ∙ e))

pub broken-requires : goal.broken-requires
broken-requires g c = never_short _ _ c.bytes-bytes.result.now c.args.note.now c.bytes-bytes.ensures c.if-bytes-lt2.true c.requires.there

pub broken-requires-then-size-behind : goal.broken-requires-then-size-behind
broken-requires-then-size-behind g c = never_cut _ _ c.bytes-bytes.result.now c.args.note.now c.bytes-bytes.ensures c.if-size-behind.true c.requires.there

pub broken-requires-in_default : goal.broken-requires-in_default
broken-requires-in_default g c = never_unnamed _ _ c.bytes-bytes.result.now c.args.note.now _ c.bytes-bytes.ensures c.new.ensures c.in_default.is c.requires.there

pub broken-requires-then-rest-lt4 : goal.broken-requires-then-rest-lt4
broken-requires-then-rest-lt4 g c = never_bare _ _ c.args.note.now _ _ _ c.if-code-eq9.true c.if-rest-lt4.true
    (read_from c.bytes-bytes.result.now c.args.note.now c.in-Some.name _ c.bytes-bytes.ensures c.new.ensures c.in-Some.is) c.requires.there

-- as far grown as before
pub returns-clause-splits : goal.returns-clause-splits
returns-clause-splits g c = reshapes_by _ _ _ c.args.note.now _ _ _ _ c.requires.there (read_from c.bytes-bytes.result.now c.args.note.now c.in-Some.name _ c.bytes-bytes.ensures c.new.ensures c.in-Some.is) c.reverse_by.ensures.splits

pub returns-then-code-eq9-clause-splits : goal.returns-then-code-eq9-clause-splits
returns-then-code-eq9-clause-splits g c = bytes_unshaped _ _ c.args.note.now _ _ _ _ c.if-code-eq9.true (read_from c.bytes-bytes.result.now c.args.note.now c.in-Some.name _ c.bytes-bytes.ensures c.new.ensures c.in-Some.is)

-- each call says the rest of it
pub undo_bytes-requires-clause-means : goal.undo_bytes-requires-clause-means
undo_bytes-requires-clause-means g c = c.requires.means

pub reverse_by-requires-clause-means : goal.reverse_by-requires-clause-means
reverse_by-requires-clause-means g c = c.requires.means

pub returns-then-code-eq9-clause-counts : goal.returns-then-code-eq9-clause-counts
returns-then-code-eq9-clause-counts g c = c.undo_bytes.ensures.counts

pub returns-then-code-eq9-clause-later : goal.returns-then-code-eq9-clause-later
returns-then-code-eq9-clause-later g c = c.undo_bytes.ensures.later

pub returns-then-code-eq9-clause-means : goal.returns-then-code-eq9-clause-means
returns-then-code-eq9-clause-means g c = c.undo_bytes.ensures.means

pub returns-clause-counts : goal.returns-clause-counts
returns-clause-counts g c = c.reverse_by.ensures.counts

pub returns-clause-later : goal.returns-clause-later
returns-clause-later g c = c.reverse_by.ensures.later

pub returns-clause-means : goal.returns-clause-means
returns-clause-means g c = c.reverse_by.ensures.means

pub returns-then-code-eq9-clause-few : goal.returns-then-code-eq9-clause-few
returns-then-code-eq9-clause-few g c = λ _. few_by (g.P.PageSpace.view c.args.space.now) (g.P.PageSpace.view c.undo_bytes.new.space) 1 _ one_freed c.undo_bytes.ensures.few

pub returns-clause-few : goal.returns-clause-few
returns-clause-few g c = c.reverse_by.ensures.few

-- as does a report that it can't be
pub returns-then-bytes-lt2-clause-counts : goal.returns-then-bytes-lt2-clause-counts
returns-then-bytes-lt2-clause-counts g c = counts_broken _ c.broken.ensures.answer c.broken.ensures.told c.broken.ensures.risen c.broken.ensures.rising

pub returns-then-bytes-lt2-clause-did : goal.returns-then-bytes-lt2-clause-did
returns-then-bytes-lt2-clause-did g c = tt

pub returns-then-bytes-lt2-clause-splits : goal.returns-then-bytes-lt2-clause-splits
returns-then-bytes-lt2-clause-splits g c = tt

pub returns-then-bytes-lt2-clause-later : goal.returns-then-bytes-lt2-clause-later
returns-then-bytes-lt2-clause-later g c = c.broken.ensures.later _

pub returns-then-bytes-lt2-clause-means : goal.returns-then-bytes-lt2-clause-means
returns-then-bytes-lt2-clause-means g c = c.broken.ensures.means _ c.requires.means

pub returns-then-bytes-lt2-clause-few : goal.returns-then-bytes-lt2-clause-few
returns-then-bytes-lt2-clause-few g c = λ _. few_none (g.P.PageSpace.view c.args.space.now) (g.P.PageSpace.view c.broken.new.self) _ c.broken.ensures.writes_none

pub returns-then-size-behind-clause-counts : goal.returns-then-size-behind-clause-counts
returns-then-size-behind-clause-counts g c = counts_broken _ c.broken-then-size-behind.ensures.answer c.broken-then-size-behind.ensures.told c.broken-then-size-behind.ensures.risen c.broken-then-size-behind.ensures.rising

pub returns-then-size-behind-clause-did : goal.returns-then-size-behind-clause-did
returns-then-size-behind-clause-did g c = tt

pub returns-then-size-behind-clause-splits : goal.returns-then-size-behind-clause-splits
returns-then-size-behind-clause-splits g c = tt

pub returns-then-size-behind-clause-later : goal.returns-then-size-behind-clause-later
returns-then-size-behind-clause-later g c = c.broken-then-size-behind.ensures.later _

pub returns-then-size-behind-clause-means : goal.returns-then-size-behind-clause-means
returns-then-size-behind-clause-means g c = c.broken-then-size-behind.ensures.means _ c.requires.means

pub returns-then-size-behind-clause-few : goal.returns-then-size-behind-clause-few
returns-then-size-behind-clause-few g c = λ _. few_none (g.P.PageSpace.view c.args.space.now) (g.P.PageSpace.view c.broken-then-size-behind.new.self) _ c.broken-then-size-behind.ensures.writes_none

pub returns-in_default-clause-counts : goal.returns-in_default-clause-counts
returns-in_default-clause-counts g c = counts_broken _ c.broken-in_default.ensures.answer c.broken-in_default.ensures.told c.broken-in_default.ensures.risen c.broken-in_default.ensures.rising

pub returns-in_default-clause-did : goal.returns-in_default-clause-did
returns-in_default-clause-did g c = tt

pub returns-in_default-clause-splits : goal.returns-in_default-clause-splits
returns-in_default-clause-splits g c = tt

pub returns-in_default-clause-later : goal.returns-in_default-clause-later
returns-in_default-clause-later g c = c.broken-in_default.ensures.later _

pub returns-in_default-clause-means : goal.returns-in_default-clause-means
returns-in_default-clause-means g c = c.broken-in_default.ensures.means _ c.requires.means

pub returns-in_default-clause-few : goal.returns-in_default-clause-few
returns-in_default-clause-few g c = λ _. few_none (g.P.PageSpace.view c.args.space.now) (g.P.PageSpace.view c.broken-in_default.new.self) _ c.broken-in_default.ensures.writes_none

pub returns-then-rest-lt4-clause-counts : goal.returns-then-rest-lt4-clause-counts
returns-then-rest-lt4-clause-counts g c = counts_broken _ c.broken-then-rest-lt4.ensures.answer c.broken-then-rest-lt4.ensures.told c.broken-then-rest-lt4.ensures.risen c.broken-then-rest-lt4.ensures.rising

pub returns-then-rest-lt4-clause-did : goal.returns-then-rest-lt4-clause-did
returns-then-rest-lt4-clause-did g c = tt

pub returns-then-rest-lt4-clause-splits : goal.returns-then-rest-lt4-clause-splits
returns-then-rest-lt4-clause-splits g c = tt

pub returns-then-rest-lt4-clause-later : goal.returns-then-rest-lt4-clause-later
returns-then-rest-lt4-clause-later g c = c.broken-then-rest-lt4.ensures.later _

pub returns-then-rest-lt4-clause-means : goal.returns-then-rest-lt4-clause-means
returns-then-rest-lt4-clause-means g c = c.broken-then-rest-lt4.ensures.means _ c.requires.means

pub returns-then-rest-lt4-clause-few : goal.returns-then-rest-lt4-clause-few
returns-then-rest-lt4-clause-few g c = λ _. few_none (g.P.PageSpace.view c.args.space.now) (g.P.PageSpace.view c.broken-then-rest-lt4.new.self) _ c.broken-then-rest-lt4.ensures.writes_none
