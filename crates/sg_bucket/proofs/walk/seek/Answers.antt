use Rattle.std.proofs.Common.{refl, ◌∙◌, arith}
use Rattle.std.proofs.lemmas.Option.{slice_get_within}
use Rattle.sg_bucket.proofs.Fuel.{few_pages}
use Rattle.sg_bucket.proofs.Walking.{walks_none, walks_on, part_seen, part_page, look_here, look_next, walk_end}
use Rattle.sg_bucket.proofs.walk.seek.Goals as goal

pub loop-passed-init : goal.loop-passed-init
loop-passed-init g c =
    record {
      so_far = walks_none;
      later = λ t. g.met.P.PageSpace.later_same t _;
      means = λ t m. m;
      quiet = refl;
      records = refl;
    }

pub look_for-requires : goal.look_for-requires
look_for-requires g c = λ told.
    let i = c.loop-passed.invariant.so_far in
    let back = i.back told in
    let h = c.requires back in
    part_page (part_seen i (g.met.P.PageSpace.told_shows _ back) h.1)

pub returns-in-Here-clause-read : goal.returns-in-Here-clause-read
returns-in-Here-clause-read g c = λ shows b h.
    let i = c.loop-passed.invariant.so_far in
    let w = i.walked shows b h in
    record {
      index = c.loop-passed._passed;
      page = w.there;
      before = w.before_is;
      key_at = look_here c.in-Here.is (part_seen i shows h) (c.in_ok-slot.ensures.read (i.kept.shows shows));
    }

pub returns-then-next-eq0-clause-read : goal.returns-then-next-eq0-clause-read
returns-then-next-eq0-clause-read g c = λ shows b h.
    let i = c.loop-passed.invariant.so_far in
    let seen = look_next c.in-Next.is (part_seen i shows h) (c.in_ok-slot.ensures.read (i.kept.shows shows)) in
    walk_end h (i.walked shows b h) seen.0 (seen.1 ∙ c.if-next-eq0.true)

pub loop-passed-preserved : goal.loop-passed-preserved
loop-passed-preserved g c =
    let i = c.loop-passed.invariant.so_far in
    let counts = c.look_for.ensures.counts in
    record {
      so_far = walks_on i counts.told counts.later c.in_ok-slot.ensures.kept (λ shows b part. look_next c.in-Next.is part (c.in_ok-slot.ensures.read shows)) c.if-next-eq0.false;
      later = λ t. g.met.P.PageSpace.later_then t _ _ _ (c.loop-passed.invariant.later t) (c.look_for.ensures.later t);
      means = λ t m. c.look_for.ensures.means t (c.loop-passed.invariant.means t m);
      quiet = c.in_ok-slot.ensures.counts.quiet ∙ c.loop-passed.invariant.quiet;
      records = c.look_for.ensures.writes.records ∙ c.loop-passed.invariant.records;
    }

pub broken-requires : goal.broken-requires
broken-requires g c = λ told.
    let i = c.loop-passed.invariant.so_far in
    let back = i.back told in
    let h = c.requires back in
    let w = i.walked (g.met.P.PageSpace.told_shows _ back) h.0 h.1 in
    let few = few_pages (g.met.P.PageSpace.pages_exact _ back) h.1 in
    let within = slice_get_within h.0.pages c.loop-passed._passed c.loop-passed.page.0 w.there in
    let end = c.loop-passed-test.false in
    let count = c.pages-passed-end.ensures in
    absurd (omega arith)

pub returns-in_err-slot-clause-later : goal.returns-in_err-slot-clause-later
returns-in_err-slot-clause-later g c = λ t. g.met.P.PageSpace.later_then t _ _ _ (c.loop-passed.invariant.later t) (c.look_for.ensures.later t)

pub returns-in-Here-clause-later : goal.returns-in-Here-clause-later
returns-in-Here-clause-later g c = λ t. g.met.P.PageSpace.later_then t _ _ _ (c.loop-passed.invariant.later t) (c.look_for.ensures.later t)

pub returns-then-next-eq0-clause-later : goal.returns-then-next-eq0-clause-later
returns-then-next-eq0-clause-later g c = λ t. g.met.P.PageSpace.later_then t _ _ _ (c.loop-passed.invariant.later t) (c.look_for.ensures.later t)

pub returns-clause-later : goal.returns-clause-later
returns-clause-later g c = λ t. g.met.P.PageSpace.later_then t _ _ _ (c.loop-passed.invariant.later t) (c.broken.ensures.later t)
