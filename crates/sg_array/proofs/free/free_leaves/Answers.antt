use Rattle.std.proofs.Common.{◌∙◌, refl, IsSome, arith, sym, subst}
use Rattle.sg_space.specs.Units.{HasAt}
use Rattle.sg_space.specs.View.{Space}
use Rattle.sg_space.proofs.Known.{still, reads_then}
use Rattle.sg_array.specs.Steps.{IsOfKind}
use Rattle.sg_array.proofs.Freed.{frees_none, frees_on, frees_all, names_still, leaf_still, is_some}
use Rattle.sg_array.proofs.free.free_leaves.Goals as goal

pub loop-d-init : goal.loop-d-init
loop-d-init g c = record { frees = frees_none _ _ _; later = λ t. g.met.P.PageSpace.later_same t _; means = λ t x. x; quiet = refl; few = omega arith }

pub leaf_at-requires-clause-there : goal.leaf_at-requires-clause-there
leaf_at-requires-clause-there g c = λ told.
    let i = c.loop-d.invariant.frees in
    let back = i.back told in
    let h = c.requires.there back in
    let test = c.loop-d-test.true in
    let many = h.2 in
    (h.0, names_still h.1.built (i.frees.pages back h.0 (h.1, h.2)), omega arith)

pub check_kind-requires : goal.check_kind-requires
check_kind-requires g c = λ told.
    let i = c.loop-d.invariant.frees in
    let told_then = c.leaf_at.ensures.counts.told told in
    let back = i.back told_then in
    let shows = g.met.P.PageSpace.told_shows _ told_then in
    let h = c.requires.there back in
    let freed = i.frees.pages back h.0 (h.1, h.2) in
    let read = c.in_ok-leaf.ensures.read shows h.0 (names_still h.1.built freed) in
    still (λ (s : Space). HasAt s.pages.at c.in_ok-leaf.leaf.0 (IsOfKind 4)) c.in_ok-leaf.ensures.kept shows (leaf_still h.1.built freed read)

pub free_page-requires : goal.free_page-requires
free_page-requires g c = λ told.
    let i = c.loop-d.invariant.frees in
    let told_then = c.leaf_at.ensures.counts.told (c.check_kind.ensures.counts.told told) in
    let back = i.back told_then in
    let shows = g.met.P.PageSpace.told_shows _ told_then in
    let h = c.requires.there back in
    let kept = reads_then c.in_ok-leaf.ensures.kept c.in_ok-check_kind.ensures.kept in
    let freed = i.frees.pages back h.0 (h.1, h.2) in
    let read = c.in_ok-leaf.ensures.read shows h.0 (names_still h.1.built freed) in
    subst (λ (s : Space). IsSome (s.pages.at c.in_ok-leaf.leaf.0)) (sym (kept.same shows)) (is_some (leaf_still h.1.built freed read))

pub loop-d-preserved : goal.loop-d-preserved
loop-d-preserved g c =
    let i = c.loop-d.invariant.frees in
    let read = c.leaf_at.ensures.counts in
    let check = c.check_kind.ensures.counts in
    let first = read.later in
    let second = check.later in
    let counts = c.free_page.ensures.counts in
    let then = g.met.P.PageSpace.later_then in
    record {
      frees = frees_on c.loop-d.d c.in_ok-leaf.leaf.0 i (λ t. g.met.P.PageSpace.told_shows _ (i.frees.told t)) (reads_then c.in_ok-leaf.ensures.kept c.in_ok-check_kind.ensures.kept) (λ t. read.told (check.told t)) (omega arith) counts.told counts.later c.in_ok-free_page.ensures.did
          (λ t a h. c.in_ok-leaf.ensures.read (g.met.P.PageSpace.told_shows _ (i.frees.told t)) a (names_still h.0.built (i.frees.pages t a h)));
      later = λ t. then t _ _ _ (c.loop-d.invariant.later t) (then t _ _ _ (c.leaf_at.ensures.later t) (then t _ _ _ (c.check_kind.ensures.later t) (c.free_page.ensures.later t)));
      means = λ t x. c.free_page.ensures.means t (c.check_kind.ensures.means t (c.leaf_at.ensures.means t (c.loop-d.invariant.means t x)));
      quiet = c.in_ok-free_page.ensures.counts.quiet ∙ c.in_ok-check_kind.ensures.counts.quiet ∙ c.in_ok-leaf.ensures.counts.quiet ∙ c.loop-d.invariant.quiet;
      few = let r0 = c.loop-d.invariant.few in let r1 = c.leaf_at.ensures.writes.records in let r2 = c.check_kind.ensures.writes.records in let r3 = c.free_page.ensures.few in omega arith;
    }

pub returns-clause-did : goal.returns-clause-did
returns-clause-did g c =
    let i = c.loop-d.invariant.frees in
    let test = c.loop-d-test.false in
    let end = c.loop-d.auto.d-end in
    frees_all c.loop-d.d i (λ a h. let many = h.1 in omega arith)

pub returns-in_err-free_page-clause-later : goal.returns-in_err-free_page-clause-later
returns-in_err-free_page-clause-later g c = λ t.
    let then = g.met.P.PageSpace.later_then in
    then t _ _ _ (c.loop-d.invariant.later t) (then t _ _ _ (c.leaf_at.ensures.later t) (then t _ _ _ (c.check_kind.ensures.later t) (c.free_page.ensures.later t)))

pub returns-in_err-leaf-clause-later : goal.returns-in_err-leaf-clause-later
returns-in_err-leaf-clause-later g c = λ t. g.met.P.PageSpace.later_then t _ _ _ (c.loop-d.invariant.later t) (c.leaf_at.ensures.later t)

pub returns-in_err-check_kind-clause-later : goal.returns-in_err-check_kind-clause-later
returns-in_err-check_kind-clause-later g c = λ t.
    let then = g.met.P.PageSpace.later_then in
    then t _ _ _ (c.loop-d.invariant.later t) (then t _ _ _ (c.leaf_at.ensures.later t) (c.check_kind.ensures.later t))
