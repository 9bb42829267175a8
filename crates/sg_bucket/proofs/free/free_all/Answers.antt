use Rattle.std.proofs.Common.{IsSome, subst, sym, ◌∙◌, refl, arith}
use Rattle.std.proofs.lemmas.Option.{slice_get_within}
use Rattle.sg_space.proofs.Known.{both, still}
use Rattle.sg_space.specs.View.{Space}
use Rattle.sg_bucket.proofs.Freeing.{frees_none, frees_on, all_gone, next_part}
use Rattle.sg_bucket.proofs.Fuel.{few_pages}
use Rattle.sg_bucket.proofs.Walking.{part_page}
use Rattle.sg_bucket.proofs.free.free_all.Goals as goal

pub loop-passed-init : goal.loop-passed-init
loop-passed-init g c =
    record {
      so_far = frees_none;
      later = λ t. g.met.P.PageSpace.later_same t _;
      means = λ t m. m;
      quiet = refl;
      few = omega arith;
    }

pub next_of-requires : goal.next_of-requires
next_of-requires g c = λ told.
    let i = c.loop-passed.invariant.so_far in
    let back = i.back told in
    part_page (next_part i back (c.requires back).1)

pub free_page-requires : goal.free_page-requires
free_page-requires g c = λ told.
    let i = c.loop-passed.invariant.so_far in
    let told_then = c.next_of.ensures.counts.told told in
    let back = i.back told_then in
    let part = next_part i back (c.requires back).1 in
    still (λ (s : Space). IsSome (s.pages.at c.loop-passed.page.0)) c.in_ok-next.ensures.kept (g.met.P.PageSpace.told_shows _ told_then) (subst IsSome (sym part.is) refl)

pub returns-then-next-eq0-clause-did : goal.returns-then-next-eq0-clause-did
returns-then-next-eq0-clause-did g c =
    let i = c.loop-passed.invariant.so_far in
    all_gone i (λ t. g.met.P.PageSpace.told_shows _ (i.told t)) c.in_ok-next.ensures.kept c.in_ok-free_page.ensures.did (λ t b h.
    let part = next_part i t h in
    sym part.has.next_is ∙ (both part (c.in_ok-next.ensures.read (g.met.P.PageSpace.told_shows _ (i.told t))) ∙ c.if-next-eq0.true))

pub loop-passed-preserved : goal.loop-passed-preserved
loop-passed-preserved g c =
    let i = c.loop-passed.invariant.so_far in
    let read = c.next_of.ensures.counts in
    let counts = c.free_page.ensures.counts in
    record {
      so_far = frees_on i (λ t. g.met.P.PageSpace.told_shows _ (i.told t)) c.in_ok-next.ensures.kept read.told read.later counts.told counts.later c.in_ok-free_page.ensures.did (λ t b h.
          let part = next_part i t h in
          sym part.has.next_is ∙ both part (c.in_ok-next.ensures.read (g.met.P.PageSpace.told_shows _ (i.told t)))) c.if-next-eq0.false;
      later = λ t. let then = g.met.P.PageSpace.later_then t in then _ _ _ (c.loop-passed.invariant.later t) (then _ _ _ (c.next_of.ensures.later t) (c.free_page.ensures.later t));
      means = λ t m. c.free_page.ensures.means t (c.next_of.ensures.means t (c.loop-passed.invariant.means t m));
      quiet = c.in_ok-free_page.ensures.counts.quiet ∙ c.in_ok-next.ensures.counts.quiet ∙ c.loop-passed.invariant.quiet;
      few = let r0 = c.loop-passed.invariant.few in let r1 = c.next_of.ensures.writes.records in let r2 = c.free_page.ensures.few in omega arith;
    }

pub broken-requires : goal.broken-requires
broken-requires g c = λ told.
    let i = c.loop-passed.invariant.so_far in
    let back = i.back told in
    let h = c.requires back in
    let few = few_pages (g.met.P.PageSpace.pages_exact _ back) h.1 in
    let within = slice_get_within h.0.pages c.loop-passed._passed c.loop-passed.page.0 (i.next back h.0 h.1) in
    let end = c.loop-passed-test.false in
    let count = c.pages-passed-end.ensures in
    absurd (omega arith)

pub returns-in_err-next-clause-few_told : goal.returns-in_err-next-clause-few_told
returns-in_err-next-clause-few_told g c = λ told b h.
    let within = slice_get_within b.pages _ _ (c.loop-passed.invariant.so_far.next told b h) in
    let before = c.loop-passed.invariant.few in
    let next = c.next_of.ensures.writes.records in
    omega arith

pub returns-in_err-free_page-clause-few_told : goal.returns-in_err-free_page-clause-few_told
returns-in_err-free_page-clause-few_told g c = λ told b h.
    let within = slice_get_within b.pages _ _ (c.loop-passed.invariant.so_far.next told b h) in
    let before = c.loop-passed.invariant.few in
    let next = c.next_of.ensures.writes.records in
    let freed = c.free_page.ensures.few in
    omega arith

pub returns-then-next-eq0-clause-few_told : goal.returns-then-next-eq0-clause-few_told
returns-then-next-eq0-clause-few_told g c = λ told b h.
    let within = slice_get_within b.pages _ _ (c.loop-passed.invariant.so_far.next told b h) in
    let before = c.loop-passed.invariant.few in
    let next = c.next_of.ensures.writes.records in
    let freed = c.free_page.ensures.few in
    omega arith

pub returns-clause-few_told : goal.returns-clause-few_told
returns-clause-few_told g c = λ told b h.
    let within = slice_get_within b.pages _ _ (c.loop-passed.invariant.so_far.next told b h) in
    let before = c.loop-passed.invariant.few in
    let broken = c.broken.ensures.writes_none in
    omega arith

pub returns-in_err-next-clause-later : goal.returns-in_err-next-clause-later
returns-in_err-next-clause-later g c = λ t. g.met.P.PageSpace.later_then t _ _ _ (c.loop-passed.invariant.later t) (c.next_of.ensures.later t)

pub returns-in_err-free_page-clause-later : goal.returns-in_err-free_page-clause-later
returns-in_err-free_page-clause-later g c = λ t.
    let then = g.met.P.PageSpace.later_then t in
    then _ _ _ (c.loop-passed.invariant.later t) (then _ _ _ (c.next_of.ensures.later t) (c.free_page.ensures.later t))

pub returns-then-next-eq0-clause-later : goal.returns-then-next-eq0-clause-later
returns-then-next-eq0-clause-later g c = λ t.
    let then = g.met.P.PageSpace.later_then t in
    then _ _ _ (c.loop-passed.invariant.later t) (then _ _ _ (c.next_of.ensures.later t) (c.free_page.ensures.later t))

pub returns-clause-later : goal.returns-clause-later
returns-clause-later g c = λ t. g.met.P.PageSpace.later_then t _ _ _ (c.loop-passed.invariant.later t) (c.broken.ensures.later t)
