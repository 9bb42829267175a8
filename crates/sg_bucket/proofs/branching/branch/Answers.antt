use Rattle.std.proofs.Common.{◌∙◌, refl, arith}
use Rattle.std.proofs.lemmas.Option.{slice_get_within}
use Rattle.sg_bucket.proofs.Passing.{branches_none, branches_on, branched, copy_ready, passing_within, still_passing}
use Rattle.sg_bucket.proofs.branching.branch.Goals as goal

pub make-requires : goal.make-requires
make-requires g c = λ told.
    let h = c.requires.can told in
    let some = slice_get_within h.0.pages 0 c.args.first.0 h.1.starts in
    let free = h.2.free in
    record { some = omega arith; may = h.2.may_take }

pub loop-passed-init : goal.loop-passed-init
loop-passed-init g c =
    record {
      so_far = let counts = c.make.ensures.counts in branches_none counts.told counts.later c.in_ok-new.ensures.did refl refl;
      later = c.make.ensures.later _;
      means = c.make.ensures.means _ c.requires.means;
      quiet = c.in_ok-new.ensures.counts.quiet;
      few = let made = c.make.ensures.few in omega arith;
    }

pub copy_part-requires-clause-slot : goal.copy_part-requires-clause-slot
copy_part-requires-clause-slot g c = c.loop-passed.invariant.so_far.room

pub copy_part-requires-clause-there : goal.copy_part-requires-clause-there
copy_part-requires-clause-there g c = λ told. let m = c.loop-passed.invariant.so_far in copy_ready m c.requires.can (m.back told)

pub returns-then-copied-eq0-clause-did : goal.returns-then-copied-eq0-clause-did
returns-then-copied-eq0-clause-did g c =
    let m = c.loop-passed.invariant.so_far in
    branched c.in_ok-copied.copied m (λ t. g.met.P.PageSpace.told_shows _ ((m.keeps t).told t)) c.in_ok-copied.ensures.did c.in_ok-copied.ensures.read c.if-copied-eq0.true c.requires.can

pub loop-passed-preserved : goal.loop-passed-preserved
loop-passed-preserved g c =
    let m = c.loop-passed.invariant.so_far in
    let counts = c.copy_part.ensures.counts in
    record {
      so_far = branches_on c.in_ok-copied.copied m (λ t. g.met.P.PageSpace.told_shows _ ((m.keeps t).told t)) c.requires.can counts.told counts.later c.in_ok-copied.ensures.did c.in_ok-copied.ensures.read c.if-copied-eq0.false refl refl;
      later = g.met.P.PageSpace.later_then _ _ _ _ c.loop-passed.invariant.later c.copy_part.ensures.later;
      means = c.copy_part.ensures.means;
      quiet = c.in_ok-copied.ensures.counts.quiet ∙ c.loop-passed.invariant.quiet;
      few = let before = c.loop-passed.invariant.few in let part = c.copy_part.ensures.few in omega arith;
    }

pub broken-requires : goal.broken-requires
broken-requires g c = λ told.
    let m = c.loop-passed.invariant.so_far in
    let back = m.back told in
    let h = c.requires.can back in
    let below = still_passing m (g.met.P.PageSpace.pages_exact _ back) h.0 h.1 back in
    let end = c.loop-passed-test.false in
    let count = c.pages-most.ensures in
    absurd (omega arith)

pub returns-in_err-copied-clause-few_told : goal.returns-in_err-copied-clause-few_told
returns-in_err-copied-clause-few_told g c = λ told b h.
    let within = passing_within c.loop-passed.invariant.so_far told b h in
    let before = c.loop-passed.invariant.few in
    let part = c.copy_part.ensures.few in
    omega arith

pub returns-then-copied-eq0-clause-few_told : goal.returns-then-copied-eq0-clause-few_told
returns-then-copied-eq0-clause-few_told g c = λ told b h.
    let within = passing_within c.loop-passed.invariant.so_far told b h in
    let before = c.loop-passed.invariant.few in
    let part = c.copy_part.ensures.few in
    omega arith

pub returns-clause-few_told : goal.returns-clause-few_told
returns-clause-few_told g c = λ told b h.
    let within = passing_within c.loop-passed.invariant.so_far told b h in
    let before = c.loop-passed.invariant.few in
    let broken = c.broken.ensures.writes_none in
    omega arith

pub returns-in_err-copied-clause-later : goal.returns-in_err-copied-clause-later
returns-in_err-copied-clause-later g c = g.met.P.PageSpace.later_then _ _ _ _ c.loop-passed.invariant.later c.copy_part.ensures.later

pub returns-then-copied-eq0-clause-later : goal.returns-then-copied-eq0-clause-later
returns-then-copied-eq0-clause-later g c = g.met.P.PageSpace.later_then _ _ _ _ c.loop-passed.invariant.later c.copy_part.ensures.later

pub returns-clause-later : goal.returns-clause-later
returns-clause-later g c = g.met.P.PageSpace.later_then _ _ _ _ c.loop-passed.invariant.later (c.broken.ensures.later _)
