use Rattle.std.proofs.Common.{refl, sym, ◌∙◌, arith}
use Rattle.std.proofs.lemmas.Option.{slice_get_within}
use Rattle.sg_space.proofs.Known.{both}
use Rattle.sg_bucket.proofs.Few.{few_more}
use Rattle.sg_bucket.proofs.Fuel.{few_pages}
use Rattle.sg_bucket.proofs.Rooms.{last_here}
use Rattle.sg_bucket.proofs.Walking.{walks_none, walks_on, part_seen, part_page}
use Rattle.sg_bucket.proofs.walk.pages.Goals as goal

pub loop-passed-init : goal.loop-passed-init
loop-passed-init g c =
    record {
      so_far = (c.args.first.0, walks_none);
      later = λ t. g.met.P.PageSpace.later_same t _;
      means = λ t m. m;
      quiet = refl;
      records = refl;
    }

pub next_of-requires : goal.next_of-requires
next_of-requires g c = λ told.
    let i = (c.loop-passed.invariant.so_far).1 in
    let back = i.back told in
    let h = c.requires back in
    part_page (part_seen i (g.met.P.PageSpace.told_shows _ back) h.1.linked)

pub returns-then-next-eq0-clause-read : goal.returns-then-next-eq0-clause-read
returns-then-next-eq0-clause-read g c = λ shows b h.
    let i = (c.loop-passed.invariant.so_far).1 in
    let part = part_seen i shows h.linked in
    let next = sym part.has.next_is ∙ (both part (c.in_ok-next.ensures.read (i.kept.shows shows)) ∙ c.if-next-eq0.true) in
    let last = last_here h.linked (i.walked shows b h.linked) next in
    let at = h.linked.apart last.index c.loop-passed.passed c.loop-passed.page.0 last.page (i.walked shows b h.linked).there in
    let ends = last.ends in
    omega arith

pub returns-then-next-eq0-clause-few : goal.returns-then-next-eq0-clause-few
returns-then-next-eq0-clause-few g c = λ shows b h.
    let i = (c.loop-passed.invariant.so_far).1 in
    let within = slice_get_within b.pages c.loop-passed.passed c.loop-passed.page.0 (i.walked shows b h.linked).there in
    let few = few_more h in
    omega arith

pub loop-passed-preserved : goal.loop-passed-preserved
loop-passed-preserved g c =
    let i = (c.loop-passed.invariant.so_far).1 in
    let counts = c.next_of.ensures.counts in
    record {
      so_far = (c.loop-passed.page.0, walks_on i counts.told counts.later c.in_ok-next.ensures.kept (λ shows b part. (tt, sym part.has.next_is ∙ both part (c.in_ok-next.ensures.read shows))) c.if-next-eq0.false);
      later = λ t. g.met.P.PageSpace.later_then t _ _ _ (c.loop-passed.invariant.later t) (c.next_of.ensures.later t);
      means = λ t m. c.next_of.ensures.means t (c.loop-passed.invariant.means t m);
      quiet = c.in_ok-next.ensures.counts.quiet ∙ c.loop-passed.invariant.quiet;
      records = c.next_of.ensures.writes.records ∙ c.loop-passed.invariant.records;
    }

pub broken-requires : goal.broken-requires
broken-requires g c = λ told.
    let i = (c.loop-passed.invariant.so_far).1 in
    let back = i.back told in
    let h = c.requires back in
    let w = i.walked (g.met.P.PageSpace.told_shows _ back) h.0 h.1.linked in
    let few = few_pages (g.met.P.PageSpace.pages_exact _ back) h.1.linked in
    let within = slice_get_within h.0.pages c.loop-passed.passed c.loop-passed.page.0 w.there in
    let end = c.loop-passed-test.false in
    let count = c.pages-passed-end.ensures in
    absurd (omega arith)

pub returns-in_err-next-clause-later : goal.returns-in_err-next-clause-later
returns-in_err-next-clause-later g c = λ t. g.met.P.PageSpace.later_then t _ _ _ (c.loop-passed.invariant.later t) (c.next_of.ensures.later t)

pub returns-then-next-eq0-clause-later : goal.returns-then-next-eq0-clause-later
returns-then-next-eq0-clause-later g c = λ t. g.met.P.PageSpace.later_then t _ _ _ (c.loop-passed.invariant.later t) (c.next_of.ensures.later t)

pub returns-clause-later : goal.returns-clause-later
returns-clause-later g c = λ t. g.met.P.PageSpace.later_then t _ _ _ (c.loop-passed.invariant.later t) (c.broken.ensures.later t)
