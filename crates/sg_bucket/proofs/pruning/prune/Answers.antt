use Rattle.std.proofs.Common.{◌∙◌, refl, arith}
use Rattle.sg_bucket.proofs.Stripping.{prune_page_there, prune_ready, prunes_none, prunes_on, pruned, pruning_within, still_pruning}
use Rattle.sg_bucket.proofs.pruning.prune.Goals as goal

pub loop-passed-init : goal.loop-passed-init
loop-passed-init g c =
    record {
      so_far = prunes_none;
      later = g.met.P.PageSpace.later_same _ _;
      means = c.requires.means;
      quiet = refl;
      few = omega arith;
    }

pub next_of-requires : goal.next_of-requires
next_of-requires g c = λ told. let m = c.loop-passed.invariant.so_far in prune_page_there m c.requires.can (m.back told)

pub prune_page-requires-clause-can : goal.prune_page-requires-clause-can
prune_page-requires-clause-can g c = λ told.
    let m = c.loop-passed.invariant.so_far in
    let back = c.next_of.ensures.counts.told told in
    prune_ready m (λ t. g.met.P.PageSpace.told_shows _ t) c.in_ok-next.ensures.kept c.requires.can (m.back back)

pub returns-then-next-eq0-clause-did : goal.returns-then-next-eq0-clause-did
returns-then-next-eq0-clause-did g c = pruned c.loop-passed.invariant.so_far (λ t. g.met.P.PageSpace.told_shows _ t) c.in_ok-next.ensures.kept c.in_ok-before.ensures.did c.in_ok-next.ensures.read c.if-next-eq0.true

pub loop-passed-preserved : goal.loop-passed-preserved
loop-passed-preserved g c =
    let read = c.next_of.ensures.counts in
    let counts = c.prune_page.ensures.counts in
    record {
      so_far = prunes_on c.loop-passed.invariant.so_far (λ t. g.met.P.PageSpace.told_shows _ t) c.in_ok-next.ensures.kept read.told read.later counts.told counts.later c.in_ok-before.ensures.did c.in_ok-next.ensures.read c.if-next-eq0.false;
      later = let then = g.met.P.PageSpace.later_then _ in then _ _ _ c.loop-passed.invariant.later (then _ _ _ (c.next_of.ensures.later _) c.prune_page.ensures.later);
      means = c.prune_page.ensures.means;
      quiet = c.in_ok-before.ensures.counts.quiet ∙ c.in_ok-next.ensures.counts.quiet ∙ c.loop-passed.invariant.quiet;
      few = let before = c.loop-passed.invariant.few in let next = c.next_of.ensures.writes.records in let page = c.prune_page.ensures.few in omega arith;
    }

pub broken-requires : goal.broken-requires
broken-requires g c = λ told.
    let m = c.loop-passed.invariant.so_far in
    let back = m.back told in
    let below = still_pruning m (g.met.P.PageSpace.pages_exact _ back) c.requires.can back in
    let end = c.loop-passed-test.false in
    let count = c.pages-passed-end.ensures in
    absurd (omega arith)

pub returns-in_err-next-clause-few_told : goal.returns-in_err-next-clause-few_told
returns-in_err-next-clause-few_told g c = λ told b h sound.
    let within = pruning_within c.loop-passed.invariant.so_far told b h sound in
    let before = c.loop-passed.invariant.few in
    let next = c.next_of.ensures.writes.records in
    omega arith

pub returns-in_err-before-clause-few_told : goal.returns-in_err-before-clause-few_told
returns-in_err-before-clause-few_told g c = λ told b h sound.
    let within = pruning_within c.loop-passed.invariant.so_far told b h sound in
    let before = c.loop-passed.invariant.few in
    let next = c.next_of.ensures.writes.records in
    let page = c.prune_page.ensures.few in
    omega arith

pub returns-then-next-eq0-clause-few_told : goal.returns-then-next-eq0-clause-few_told
returns-then-next-eq0-clause-few_told g c = λ told b h sound.
    let within = pruning_within c.loop-passed.invariant.so_far told b h sound in
    let before = c.loop-passed.invariant.few in
    let next = c.next_of.ensures.writes.records in
    let page = c.prune_page.ensures.few in
    omega arith

pub returns-clause-few_told : goal.returns-clause-few_told
returns-clause-few_told g c = λ told b h sound.
    let within = pruning_within c.loop-passed.invariant.so_far told b h sound in
    let before = c.loop-passed.invariant.few in
    let broken = c.broken.ensures.writes_none in
    omega arith

pub returns-in_err-next-clause-later : goal.returns-in_err-next-clause-later
returns-in_err-next-clause-later g c = g.met.P.PageSpace.later_then _ _ _ _ c.loop-passed.invariant.later (c.next_of.ensures.later _)

pub returns-in_err-before-clause-later : goal.returns-in_err-before-clause-later
returns-in_err-before-clause-later g c =
    let then = g.met.P.PageSpace.later_then _ in
    then _ _ _ c.loop-passed.invariant.later (then _ _ _ (c.next_of.ensures.later _) c.prune_page.ensures.later)

pub returns-then-next-eq0-clause-later : goal.returns-then-next-eq0-clause-later
returns-then-next-eq0-clause-later g c =
    let then = g.met.P.PageSpace.later_then _ in
    then _ _ _ c.loop-passed.invariant.later (then _ _ _ (c.next_of.ensures.later _) c.prune_page.ensures.later)

pub returns-clause-later : goal.returns-clause-later
returns-clause-later g c = g.met.P.PageSpace.later_then _ _ _ _ c.loop-passed.invariant.later (c.broken.ensures.later _)
