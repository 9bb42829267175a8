use Rattle.std.proofs.Common.{◌≡◌, ℕ, ◌+◌, Option, Some, None, take, refl, sym, ap, subst, ◌∙◌, arith}
use Rattle.std.proofs.lemmas.Bool.Decides.{nat_tests}
use Rattle.sg_base.specs.Page.{cell_in}
use Rattle.sg_bucket.specs.Bucket.{Bucket, entries_of, part_at}
use Rattle.sg_space.proofs.Known.{still, before, reads_then}
use Rattle.sg_space.specs.Units.{HasAt}
use Rattle.sg_space.specs.View.{Space}
use Rattle.sg_chains.specs.Tally.{IsChain, IsKeyAt, IsKeyIn, IsOutline}
use Rattle.sg_chains.proofs.Keys.{sees_on, key_here, slots_here, once_none, once_some, once_more, once_page}
use Rattle.sg_chains.proofs.once.check_page.Goals as goal

pub loop-slot-preserved-in_default : goal.loop-slot-preserved-in_default
loop-slot-preserved-in_default g c =
    let i = c.loop-slot.invariant.so_far in
    let counts = c.key_at.ensures.counts in
    record {
      so_far = sees_on i counts.told counts.later c.in_ok-n.ensures.kept (λ shows all b h j at.
          let seen = before (λ (s : Space). HasAt s.pages.at c.args.p.0 (IsKeyAt c.loop-slot.slot c.in_ok-n.field-0 c.key_at.new.into)) i.kept shows (c.in_ok-n.ensures.read (i.kept.shows shows)) in
          let key = key_here b j c.args.p.0 c.loop-slot.slot c.in_ok-n.field-0 c.key_at.new.into h at seen in
          once_more b j c.loop-slot.slot (all b h j at) (once_none b j c.loop-slot.slot (subst (λ (o : Option ℕ). IsKeyIn (cell_in (part_at b.parts j) c.loop-slot.slot) o c.key_at.new.into) c.in_default.is key)));
      later = λ t. g.met.P.PageSpace.later_then t _ _ _ (c.loop-slot.invariant.later t) (c.key_at.ensures.later t);
      means = λ t m. c.key_at.ensures.means t (c.loop-slot.invariant.means t m);
      quiet = c.in_ok-n.ensures.counts.quiet ∙ c.loop-slot.invariant.quiet;
      records = c.key_at.ensures.writes.records ∙ c.loop-slot.invariant.records;
    }

pub returns-then-branch-gt1-clause-broken : goal.returns-then-branch-gt1-clause-broken
returns-then-branch-gt1-clause-broken g c = λ shows b h once.
    let kept = reads_then c.loop-slot.invariant.so_far.kept c.in_ok-n.ensures.kept in
    let now = still (λ (s : Space). IsChain s.pages.at c.args.first.0 c.args.pages b) kept shows h in
    let counted = c.in_ok-count.ensures.read (kept.shows shows) b now in
    let one = once (take c.in-Some.n c.key_at.new.into) in
    let more = c.if-branch-gt1.true in
    omega (arith, counted, one, more)

pub loop-slot-preserved : goal.loop-slot-preserved
loop-slot-preserved g c =
    let i = c.loop-slot.invariant.so_far in
    let first = c.key_at.ensures.counts in
    let second = c.count.ensures.counts in
    let one = first.later in
    let two = second.later in
    let few = c.if-branch-gt1.false in
    record {
      so_far = sees_on i (λ t. first.told (second.told t)) (omega arith) (reads_then c.in_ok-n.ensures.kept c.in_ok-count.ensures.kept) (λ shows all b h j at.
          let seen = before (λ (s : Space). HasAt s.pages.at c.args.p.0 (IsKeyAt c.loop-slot.slot c.in_ok-n.field-0 c.key_at.new.into)) i.kept shows (c.in_ok-n.ensures.read (i.kept.shows shows)) in
          let key = subst (λ (o : Option ℕ). IsKeyIn (cell_in (part_at b.parts j) c.loop-slot.slot) o c.key_at.new.into) c.in-Some.is (key_here b j c.args.p.0 c.loop-slot.slot c.in_ok-n.field-0 c.key_at.new.into h at seen) in
          let kept = reads_then i.kept c.in_ok-n.ensures.kept in
          let now = still (λ (s : Space). IsChain s.pages.at c.args.first.0 c.args.pages b) kept shows h in
          let counted = c.in_ok-count.ensures.read (kept.shows shows) b now in
          once_more b j c.loop-slot.slot (all b h j at) (once_some b j c.loop-slot.slot c.in-Some.n c.in_ok-count.field-0 c.key_at.new.into (take c.in-Some.n c.key_at.new.into) key refl counted (omega (arith, few))));
      later = λ t. g.met.P.PageSpace.later_then t _ _ _ (c.loop-slot.invariant.later t) (g.met.P.PageSpace.later_then t _ _ _ (c.key_at.ensures.later t) (c.count.ensures.later t));
      means = λ t m. c.count.ensures.means t (c.key_at.ensures.means t (c.loop-slot.invariant.means t m));
      quiet = c.in_ok-count.ensures.counts.quiet ∙ (c.in_ok-n.ensures.counts.quiet ∙ c.loop-slot.invariant.quiet);
      records = c.count.ensures.writes.records ∙ (c.key_at.ensures.writes.records ∙ c.loop-slot.invariant.records);
    }

pub returns-clause-follows : goal.returns-clause-follows
returns-clause-follows g c = λ shows b h j at.
    (slots_here b j c.args.p.0 h at (c.in_ok-outline.ensures.read shows)).1

pub returns-clause-read : goal.returns-clause-read
returns-clause-read g c = λ shows b h j at slot.
    let i = c.loop-slot.invariant.so_far in
    let test = c.loop-slot-test.false in
    let end = c.loop-slot.auto.slot-end in
    let long = (slots_here b j c.args.p.0 h at (c.in_ok-outline.ensures.read shows)).0 in
    once_page b j c.loop-slot.slot (omega (arith, long, test, end)) (i.so shows b h j at) slot

pub returns-in_err-n-clause-later : goal.returns-in_err-n-clause-later
returns-in_err-n-clause-later g c = λ t. g.met.P.PageSpace.later_then t _ _ _ (c.loop-slot.invariant.later t) (c.key_at.ensures.later t)

pub returns-in_err-count-clause-later : goal.returns-in_err-count-clause-later
returns-in_err-count-clause-later g c = λ t. g.met.P.PageSpace.later_then t _ _ _ (c.loop-slot.invariant.later t) (g.met.P.PageSpace.later_then t _ _ _ (c.key_at.ensures.later t) (c.count.ensures.later t))

pub returns-then-branch-gt1-clause-later : goal.returns-then-branch-gt1-clause-later
returns-then-branch-gt1-clause-later g c = λ t. g.met.P.PageSpace.later_then t _ _ _ (c.loop-slot.invariant.later t) (g.met.P.PageSpace.later_then t _ _ _ (c.key_at.ensures.later t) (c.count.ensures.later t))
