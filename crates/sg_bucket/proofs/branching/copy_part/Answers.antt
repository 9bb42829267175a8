use Rattle.std.proofs.Common.{◌∙◌, ◌≡◌, ℕ, subst, refl, arith}
use Rattle.sg_bucket.proofs.Copying.{Copies, copies_none, copies_on, copies_past, copied_all, extend_ready, page_still, picked_none, picked_some}
use Rattle.sg_bucket.proofs.branching.copy_part.Goals as goal

pub outline_of-requires : goal.outline_of-requires
outline_of-requires g c = λ told. let h = c.requires.there told in h.2.page

pub loop-slot-init : goal.loop-slot-init
loop-slot-init g c =
    let counts = c.outline_of.ensures.counts in
    record {
      so_far = copies_none (λ told. g.met.P.PageSpace.told_shows _ told) c.in_ok-seen.ensures.kept counts.told counts.later c.requires.slot;
      later = c.outline_of.ensures.later _;
      means = c.outline_of.ensures.means _ c.requires.means;
      quiet = c.in_ok-seen.ensures.counts.quiet;
      few = let seen = c.outline_of.ensures.writes.records in omega arith;
    }

pub copy_entry-requires-clause-page : goal.copy_entry-requires-clause-page
copy_entry-requires-clause-page g c = λ told. let i = c.loop-slot.invariant.so_far in page_still i c.requires.there (i.back told)

pub extend-requires-clause-there : goal.extend-requires-clause-there
extend-requires-clause-there g c = λ told.
    let i = c.loop-slot.invariant.so_far in
    let back = c.copy_entry.ensures.counts.told told in
    extend_ready i (λ t. g.met.P.PageSpace.told_shows _ t) c.in_ok-copy_entry.ensures.kept c.requires.there (λ t. c.in_ok-seen.ensures.read (g.met.P.PageSpace.told_shows _ t)) c.loop-slot-test.true
    (λ shows. picked_some c.args.there c.loop-slot.slot c.copy_entry.new.into c.in-Some.is (c.in_ok-copy_entry.ensures.read shows)) (i.back back)

pub loop-slot-preserved-in-None : goal.loop-slot-preserved-in-None
loop-slot-preserved-in-None g c =
    let i = c.loop-slot.invariant.so_far in
    let counts = c.copy_entry.ensures.counts in
    record {
      so_far = copies_past i (λ t. g.met.P.PageSpace.told_shows _ t) c.in_ok-copy_entry.ensures.kept counts.told counts.later (λ t. c.in_ok-seen.ensures.read (g.met.P.PageSpace.told_shows _ t)) c.loop-slot-test.true
          (λ shows. picked_none c.args.there c.loop-slot.slot c.copy_entry.new.into c.in-None.is (c.in_ok-copy_entry.ensures.read shows));
      later = g.met.P.PageSpace.later_then _ _ _ _ c.loop-slot.invariant.later (c.copy_entry.ensures.later _);
      means = c.copy_entry.ensures.means _ c.loop-slot.invariant.means;
      quiet = c.in_ok-copy_entry.ensures.counts.quiet ∙ c.loop-slot.invariant.quiet;
      few = let before = c.loop-slot.invariant.few in let copied = c.copy_entry.ensures.writes.records in omega arith;
    }

pub loop-slot-preserved : goal.loop-slot-preserved
loop-slot-preserved g c =
    let i = c.loop-slot.invariant.so_far in
    let read = c.copy_entry.ensures.counts in
    let counts = c.extend.ensures.counts in
    record {
      so_far = copies_on i (λ t. g.met.P.PageSpace.told_shows _ t) c.in_ok-copy_entry.ensures.kept read.told read.later counts.told counts.later (λ t. c.in_ok-seen.ensures.read (g.met.P.PageSpace.told_shows _ t)) c.loop-slot-test.true
          (λ shows. picked_some c.args.there c.loop-slot.slot c.copy_entry.new.into c.in-Some.is (c.in_ok-copy_entry.ensures.read shows)) c.in_ok-tail-in-Some.ensures.slot c.in_ok-tail-in-Some.ensures.did;
      later = let then = g.met.P.PageSpace.later_then _ in then _ _ _ c.loop-slot.invariant.later (then _ _ _ (c.copy_entry.ensures.later _) c.extend.ensures.later);
      means = c.extend.ensures.means;
      quiet = c.in_ok-tail-in-Some.ensures.counts.quiet ∙ c.in_ok-copy_entry.ensures.counts.quiet ∙ c.loop-slot.invariant.quiet;
      few = let before = c.loop-slot.invariant.few in let copied = c.copy_entry.ensures.writes.records in let more = c.extend.ensures.few in omega arith;
    }

pub returns-clause-did : goal.returns-clause-did
returns-clause-did g c =
    let past = c.loop-slot-test.false in
    let most = c.loop-slot.auto.slot-end in
    let all : c.loop-slot.slot ≡ c.in_ok-seen.seen.slots = omega arith in
    copied_all (record { last = c.loop-slot.tail.page; next = c.in_ok-seen.seen.next }) (subst (λ (s : ℕ). Copies (g.P.PageSpace.view c.args.space.now) (g.P.PageSpace.view c.loop-slot.space) c.args.new.0 c.args.there c.args.from.0 s c.args.tail c.loop-slot.tail) all c.loop-slot.invariant.so_far) (λ t. c.in_ok-seen.ensures.read (g.met.P.PageSpace.told_shows _ t)) refl

pub returns-in_err-tail-in-Some-clause-later : goal.returns-in_err-tail-in-Some-clause-later
returns-in_err-tail-in-Some-clause-later g c =
    let then = g.met.P.PageSpace.later_then _ in
    then _ _ _ c.loop-slot.invariant.later (then _ _ _ (c.copy_entry.ensures.later _) c.extend.ensures.later)

pub returns-in_err-copy_entry-clause-later : goal.returns-in_err-copy_entry-clause-later
returns-in_err-copy_entry-clause-later g c = g.met.P.PageSpace.later_then _ _ _ _ c.loop-slot.invariant.later (c.copy_entry.ensures.later _)
