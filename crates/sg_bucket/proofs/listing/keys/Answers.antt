use Rattle.std.proofs.Common.{◌≡◌, ◌∙◌, refl, arith, rules}
use Rattle.sg_space.specs.declared.space.ListFault.TheVariants.{Memory}
use Rattle.sg_space.proofs.Known.{reads_then}
use Rattle.std.proofs.lemmas.Option.{slice_get_within}
use Rattle.sg_bucket.proofs.Fuel.{few_pages}
use Rattle.sg_bucket.proofs.Listed.{listed_none, listed_on, listed_all, next_listed}
use Rattle.sg_bucket.proofs.Walking.{walks_none, walks_on, part_seen, part_page}
use Rattle.sg_bucket.proofs.listing.keys.Goals as goal

pub loop-passed-init : goal.loop-passed-init
loop-passed-init g c =
    record {
      so_far = ((c.args.first.0, walks_none), listed_none (g.P.PageSpace.view c.args.space.now) c.args.first.0 c.args.into.now.items);
      later = λ t. g.met.P.PageSpace.later_same t _;
      means = λ t m. m;
      quiet = refl;
      records = refl;
    }

pub gather-requires : goal.gather-requires
gather-requires g c = λ told.
    let i = (c.loop-passed.invariant.so_far).0.1 in
    let back = i.back told in
    part_page (part_seen i (g.met.P.PageSpace.told_shows _ back) (c.requires back).1)

pub returns-then-next-eq0-clause-read : goal.returns-then-next-eq0-clause-read
returns-then-next-eq0-clause-read g c = let i = c.loop-passed.invariant.so_far in listed_all c.args.into.now.items i.0.1 i.1 c.in_ok-next.ensures.read c.if-next-eq0.true

pub loop-passed-preserved : goal.loop-passed-preserved
loop-passed-preserved g c =
    let i = c.loop-passed.invariant.so_far in
    record {
      so_far = let counts = c.gather.ensures.counts in (
        (c.loop-passed.page.0, walks_on i.0.1 counts.told counts.later c.in_ok-next.ensures.kept (λ shows b part. (tt, next_listed part (c.in_ok-next.ensures.read shows))) c.if-next-eq0.false),
        listed_on c.args.into.now.items i.0.1 i.1 c.in_ok-next.ensures.read,
      );
      later = λ t. g.met.P.PageSpace.later_then t _ _ _ (c.loop-passed.invariant.later t) (c.gather.ensures.later t);
      means = λ t m. c.gather.ensures.means t (c.loop-passed.invariant.means t m);
      quiet = c.in_ok-next.ensures.counts.quiet ∙ c.loop-passed.invariant.quiet;
      records = c.gather.ensures.writes.records ∙ c.loop-passed.invariant.records;
    }

pub broken-requires : goal.broken-requires
broken-requires g c = λ told.
    let i = (c.loop-passed.invariant.so_far).0.1 in
    let back = i.back told in
    let h = c.requires back in
    let w = i.walked (g.met.P.PageSpace.told_shows _ back) h.0 h.1 in
    let few = few_pages (g.met.P.PageSpace.pages_exact _ back) h.1 in
    let within = slice_get_within h.0.pages c.loop-passed._passed c.loop-passed.page.0 w.there in
    let end = c.loop-passed-test.false in
    let count = c.pages-passed-end.ensures in
    absurd (omega arith)

pub returns-in_err-next-clause-memory : goal.returns-in_err-next-clause-memory
returns-in_err-next-clause-memory g c =
    let kept = λ (e : c.in_err-next.field-0.0 ≡ Memory). reads_then (c.loop-passed.invariant.so_far).0.1.kept (c.in_err-next.ensures.memory e) in
    search (rules, kept)

pub returns-in_err-next-clause-quiet : goal.returns-in_err-next-clause-quiet
returns-in_err-next-clause-quiet g c =
    let quiet = λ (e : c.in_err-next.field-0.0 ≡ Memory). c.in_err-next.ensures.quiet e ∙ c.loop-passed.invariant.quiet in
    search (rules, quiet)

pub returns-in_err-next-clause-later : goal.returns-in_err-next-clause-later
returns-in_err-next-clause-later g c = λ t. g.met.P.PageSpace.later_then t _ _ _ (c.loop-passed.invariant.later t) (c.gather.ensures.later t)

pub returns-then-next-eq0-clause-later : goal.returns-then-next-eq0-clause-later
returns-then-next-eq0-clause-later g c = λ t. g.met.P.PageSpace.later_then t _ _ _ (c.loop-passed.invariant.later t) (c.gather.ensures.later t)

pub returns-clause-later : goal.returns-clause-later
returns-clause-later g c = λ t. g.met.P.PageSpace.later_then t _ _ _ (c.loop-passed.invariant.later t) (c.broken.ensures.later t)
