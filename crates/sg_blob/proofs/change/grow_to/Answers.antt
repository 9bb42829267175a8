use Rattle.std.proofs.Common.{◌∙◌, refl, arith}
use Rattle.sg_blob.proofs.Growth.{grows_none, grows_on, can_add}
use Rattle.sg_blob.proofs.change.grow_to.Goals as goal

pub loop-j-init : goal.loop-j-init
loop-j-init g c =
    record {
      so_far = grows_none c.requires.order;
      later = g.met.P.PageSpace.later_same _ _;
      means = c.requires.means;
      quiet = refl;
      few = omega arith;
    }

pub add_band-requires-clause-there : goal.add_band-requires-clause-there
add_band-requires-clause-there g c = λ told.
    let i = c.loop-j.invariant.so_far in
    let back = i.back told in
    let h = c.requires.there back in
    let kept = i.did.keeps back in
    let one = i.did.turns back h.0 h.1 h.2 in
    (one.0, (one.1).raw, can_add h.2 i.from (omega arith) one.1 one.2 kept.may_take (kept.may_have _))

pub loop-j-preserved : goal.loop-j-preserved
loop-j-preserved g c =
    let counts = c.add_band.ensures.counts in
    record {
      so_far = grows_on c.loop-j.invariant.so_far (omega arith) counts.told counts.later c.in_ok-add_band.ensures.did;
      later = g.met.P.PageSpace.later_then _ _ _ _ c.loop-j.invariant.later c.add_band.ensures.later;
      means = c.add_band.ensures.means;
      quiet = c.in_ok-add_band.ensures.counts.quiet ∙ c.loop-j.invariant.quiet;
      few = let r0 = c.loop-j.invariant.few in let r1 = c.add_band.ensures.few in omega arith;
    }
