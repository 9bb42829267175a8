use Rattle.std.proofs.Common.{◌∙◌, refl, IsSome, arith, sym, subst}
use Rattle.sg_space.specs.Units.{HasAt}
use Rattle.sg_space.specs.View.{Space}
use Rattle.sg_space.proofs.Known.{still, reads_then}
use Rattle.sg_array.specs.Steps.{IsOfKind}
use Rattle.sg_array.proofs.Freed.{frees_none, frees_on, frees_all, root_left, next_index, is_some}
use Rattle.sg_array.proofs.Links.{index_link, index_read}
use Rattle.sg_array.proofs.free.free_index.Goals as goal

pub loop-j-init : goal.loop-j-init
loop-j-init g c = record { frees = frees_none _ _ _; later = λ t. g.met.P.PageSpace.later_same t _; means = λ t x. x; quiet = refl; few = omega arith }

pub link_at-requires : goal.link_at-requires
link_at-requires g c = λ told.
    let i = c.loop-j.invariant.frees in
    let back = i.back told in
    let h = c.requires.there back in
    let test = c.loop-j-test.true in
    let many = h.1.many in
    index_link c.loop-j.j (root_left h.1 (i.frees.pages back h.0 h.1)) (omega arith)

pub check_kind-requires : goal.check_kind-requires
check_kind-requires g c = λ told.
    let i = c.loop-j.invariant.frees in
    let told_then = c.link_at.ensures.counts.told told in
    let back = i.back told_then in
    let shows = g.met.P.PageSpace.told_shows _ told_then in
    let h = c.requires.there back in
    let freed = i.frees.pages back h.0 h.1 in
    let read = index_read c.loop-j.j c.in_ok-index.index.0 (root_left h.1 freed) h.1.are c.in_ok-index.ensures.small (c.in_ok-index.ensures.read shows) in
    still (λ (s : Space). HasAt s.pages.at c.in_ok-index.index.0 (IsOfKind 3)) c.in_ok-index.ensures.kept shows (next_index h.1 freed read)

pub free_page-requires : goal.free_page-requires
free_page-requires g c = λ told.
    let i = c.loop-j.invariant.frees in
    let told_then = c.link_at.ensures.counts.told (c.check_kind.ensures.counts.told told) in
    let back = i.back told_then in
    let shows = g.met.P.PageSpace.told_shows _ told_then in
    let h = c.requires.there back in
    let kept = reads_then c.in_ok-index.ensures.kept c.in_ok-check_kind.ensures.kept in
    let freed = i.frees.pages back h.0 h.1 in
    let read = index_read c.loop-j.j c.in_ok-index.index.0 (root_left h.1 freed) h.1.are c.in_ok-index.ensures.small (c.in_ok-index.ensures.read shows) in
    subst (λ (s : Space). IsSome (s.pages.at c.in_ok-index.index.0)) (sym (kept.same shows)) (is_some (next_index h.1 freed read))

pub loop-j-preserved : goal.loop-j-preserved
loop-j-preserved g c =
    let i = c.loop-j.invariant.frees in
    let read = c.link_at.ensures.counts in
    let check = c.check_kind.ensures.counts in
    let first = read.later in
    let second = check.later in
    let counts = c.free_page.ensures.counts in
    let then = g.met.P.PageSpace.later_then in
    record {
      frees = frees_on c.loop-j.j c.in_ok-index.index.0 i (λ t. g.met.P.PageSpace.told_shows _ (i.frees.told t)) (reads_then c.in_ok-index.ensures.kept c.in_ok-check_kind.ensures.kept) (λ t. read.told (check.told t)) (omega arith) counts.told counts.later c.in_ok-free_page.ensures.did
          (λ t a h. index_read c.loop-j.j c.in_ok-index.index.0 (root_left h (i.frees.pages t a h)) h.are c.in_ok-index.ensures.small (c.in_ok-index.ensures.read (g.met.P.PageSpace.told_shows _ (i.frees.told t))));
      later = λ t. then t _ _ _ (c.loop-j.invariant.later t) (then t _ _ _ (c.link_at.ensures.later t) (then t _ _ _ (c.check_kind.ensures.later t) (c.free_page.ensures.later t)));
      means = λ t x. c.free_page.ensures.means t (c.check_kind.ensures.means t (c.link_at.ensures.means t (c.loop-j.invariant.means t x)));
      quiet = c.in_ok-free_page.ensures.counts.quiet ∙ c.in_ok-check_kind.ensures.counts.quiet ∙ c.in_ok-index.ensures.counts.quiet ∙ c.loop-j.invariant.quiet;
      few = let r0 = c.loop-j.invariant.few in let r1 = c.link_at.ensures.writes.records in let r2 = c.check_kind.ensures.writes.records in let r3 = c.free_page.ensures.few in omega arith;
    }

pub returns-clause-did : goal.returns-clause-did
returns-clause-did g c =
    let i = c.loop-j.invariant.frees in
    let test = c.loop-j-test.false in
    let end = c.loop-j.auto.j-end in
    frees_all c.loop-j.j i (λ a h. let many = h.many in omega arith)

pub returns-in_err-free_page-clause-later : goal.returns-in_err-free_page-clause-later
returns-in_err-free_page-clause-later g c = λ t.
    let then = g.met.P.PageSpace.later_then in
    then t _ _ _ (c.loop-j.invariant.later t) (then t _ _ _ (c.link_at.ensures.later t) (then t _ _ _ (c.check_kind.ensures.later t) (c.free_page.ensures.later t)))

pub returns-in_err-index-clause-later : goal.returns-in_err-index-clause-later
returns-in_err-index-clause-later g c = λ t. g.met.P.PageSpace.later_then t _ _ _ (c.loop-j.invariant.later t) (c.link_at.ensures.later t)

pub returns-in_err-check_kind-clause-later : goal.returns-in_err-check_kind-clause-later
returns-in_err-check_kind-clause-later g c = λ t.
    let then = g.met.P.PageSpace.later_then in
    then t _ _ _ (c.loop-j.invariant.later t) (then t _ _ _ (c.link_at.ensures.later t) (c.check_kind.ensures.later t))
