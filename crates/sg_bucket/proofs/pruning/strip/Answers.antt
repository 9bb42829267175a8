use Rattle.std.proofs.Common.{◌∙◌, ◌≡◌, ℕ, subst, refl, arith}
use Rattle.sg_bucket.proofs.Stripping.{Strips, strip_page, strip_ready, strips_none, strips_past, strips_on, strips_all, told_no, told_yes}
use Rattle.sg_bucket.proofs.Walking.{part_page}
use Rattle.sg_bucket.proofs.pruning.strip.Goals as goal

pub outline_of-requires : goal.outline_of-requires
outline_of-requires g c = λ told. let h = c.requires.can told in part_page (h.1.part h.2.index c.args.page.0 h.2.page_is)

pub loop-slot-init : goal.loop-slot-init
loop-slot-init g c =
    record {
      so_far = let counts = c.outline_of.ensures.counts in strips_none (λ told. g.met.P.PageSpace.told_shows _ told) c.in_ok-seen.ensures.kept counts.told counts.later;
      later = c.outline_of.ensures.later _;
      means = c.outline_of.ensures.means _ c.requires.means;
      quiet = c.in_ok-seen.ensures.counts.quiet;
      few = let seen = c.outline_of.ensures.writes.records in omega arith;
    }

pub is_picked-requires : goal.is_picked-requires
is_picked-requires g c = λ told. let i = c.loop-slot.invariant.so_far in strip_page i c.requires.can (i.back told)

pub remove_at-requires-clause-can : goal.remove_at-requires-clause-can
remove_at-requires-clause-can g c = λ told.
    let i = c.loop-slot.invariant.so_far in
    let back = c.is_picked.ensures.counts.told told in
    strip_ready i (λ t. g.met.P.PageSpace.told_shows _ t) c.in_ok-picked.ensures.kept c.requires.can (λ shows. told_yes c.args.there c.loop-slot.slot c.if-not-picked.false (c.in_ok-picked.ensures.read shows)) refl refl refl (i.back back)

pub loop-slot-preserved-then-not-picked : goal.loop-slot-preserved-then-not-picked
loop-slot-preserved-then-not-picked g c =
    let i = c.loop-slot.invariant.so_far in
    let counts = c.is_picked.ensures.counts in
    record {
      so_far = strips_past i (λ t. g.met.P.PageSpace.told_shows _ t) c.in_ok-picked.ensures.kept counts.told counts.later (λ shows. told_no c.args.there c.loop-slot.slot c.if-not-picked.true (c.in_ok-picked.ensures.read shows));
      later = g.met.P.PageSpace.later_then _ _ _ _ c.loop-slot.invariant.later (c.is_picked.ensures.later _);
      means = c.is_picked.ensures.means _ c.loop-slot.invariant.means;
      quiet = c.in_ok-picked.ensures.counts.quiet ∙ c.loop-slot.invariant.quiet;
      few = let before = c.loop-slot.invariant.few in let picked = c.is_picked.ensures.writes.records in omega arith;
    }

pub loop-slot-preserved : goal.loop-slot-preserved
loop-slot-preserved g c =
    let i = c.loop-slot.invariant.so_far in
    let read = c.is_picked.ensures.counts in
    let counts = c.remove_at.ensures.counts in
    record {
      so_far = strips_on i (λ t. g.met.P.PageSpace.told_shows _ t) c.in_ok-picked.ensures.kept read.told read.later counts.told counts.later (λ shows. told_yes c.args.there c.loop-slot.slot c.if-not-picked.false (c.in_ok-picked.ensures.read shows)) refl refl refl c.in_ok-remove_at.ensures.did;
      later = let then = g.met.P.PageSpace.later_then _ in then _ _ _ c.loop-slot.invariant.later (then _ _ _ (c.is_picked.ensures.later _) c.remove_at.ensures.later);
      means = c.remove_at.ensures.means;
      quiet = c.in_ok-remove_at.ensures.counts.quiet ∙ c.in_ok-picked.ensures.counts.quiet ∙ c.loop-slot.invariant.quiet;
      few = let before = c.loop-slot.invariant.few in let picked = c.is_picked.ensures.writes.records in let one = c.remove_at.ensures.few in omega arith;
    }

pub returns-clause-did : goal.returns-clause-did
returns-clause-did g c =
    let past = c.loop-slot-test.false in
    let most = c.loop-slot.auto.slot-end in
    let all : c.loop-slot.slot ≡ c.in_ok-seen.seen.slots = omega arith in
    strips_all (subst (λ (s : ℕ). Strips (g.P.PageSpace.view c.args.space.now) (g.P.PageSpace.view c.loop-slot.space) c.args.first.0 c.args.before.0 c.args.page.0 c.args.there s) all c.loop-slot.invariant.so_far) (λ t. c.in_ok-seen.ensures.read (g.met.P.PageSpace.told_shows _ t))

pub returns-in_err-picked-clause-later : goal.returns-in_err-picked-clause-later
returns-in_err-picked-clause-later g c = g.met.P.PageSpace.later_then _ _ _ _ c.loop-slot.invariant.later (c.is_picked.ensures.later _)

pub returns-in_err-remove_at-clause-later : goal.returns-in_err-remove_at-clause-later
returns-in_err-remove_at-clause-later g c =
    let then = g.met.P.PageSpace.later_then _ in
    then _ _ _ c.loop-slot.invariant.later (then _ _ _ (c.is_picked.ensures.later _) c.remove_at.ensures.later)
