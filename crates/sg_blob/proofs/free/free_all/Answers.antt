use Rattle.std.proofs.Common.{IsSome, arith, refl, subst, sym, ◌∙◌}
use Rattle.sg_space.specs.View.{Space}
use Rattle.sg_blob.specs.Blob.{raw_of}
use Rattle.sg_blob.proofs.Freeing.{BandsFreed, frees_none, frees_on, link_still, next_some, all_gone, so_many}
use Rattle.sg_blob.proofs.Parts.{link_there, link_read}
use Rattle.sg_blob.proofs.free.free_all.Goals as goal

pub loop-j-init : goal.loop-j-init
loop-j-init g c =
    let counts = c.read_root.ensures.counts in
    record {
      so_far = frees_none counts.told counts.later (λ t. g.met.P.PageSpace.told_shows _ t) c.in_ok-found.ensures.kept;
      later = λ t. c.read_root.ensures.later t;
      means = λ t m. c.read_root.ensures.means t m;
      quiet = c.in_ok-found.ensures.counts.quiet;
      few = let r0 = c.read_root.ensures.writes.records in omega arith;
    }

pub link_at-requires : goal.link_at-requires
link_at-requires g c = λ told.
    let i = c.loop-j.invariant.so_far in
    let back = i.back told in
    let shows = g.met.P.PageSpace.told_shows _ back in
    let h = c.requires back in
    let peak = (c.in_ok-found.ensures.read shows (raw_of h.0) h.1.raw).1 in
    let many = so_many h.0.bands h.0.peak c.in_ok-found.found.peak peak h.1.least h.1.most in
    let test = c.loop-j-test.true in
    let for = c.bands_for-j-end.ensures in
    link_there c.loop-j.j (link_still i back h.1) (omega arith)

pub free_band-requires : goal.free_band-requires
free_band-requires g c = λ told.
    let i = c.loop-j.invariant.so_far in
    let told_then = c.link_at.ensures.counts.told told in
    let back = i.back told_then in
    let shows = g.met.P.PageSpace.told_shows _ told_then in
    let h = c.requires back in
    let read = link_read c.loop-j.j c.in_ok-b.b.0 (link_still i back h.1) h.1.raw.fit c.in_ok-b.ensures.small (c.in_ok-b.ensures.read shows) in
    let freed : BandsFreed (g.P.PageSpace.view c.args.space.now).space (g.P.PageSpace.view c.link_at.new.space).space h.0.bands c.loop-j.j =
    subst (λ (s : Space). BandsFreed (g.P.PageSpace.view c.args.space.now).space s h.0.bands c.loop-j.j) (sym (c.in_ok-b.ensures.kept.same shows)) (i.freed back h.0 h.1) in
    next_some h.1.raw freed read

pub loop-j-preserved : goal.loop-j-preserved
loop-j-preserved g c =
    let i = c.loop-j.invariant.so_far in
    let read = c.link_at.ensures.counts in
    let counts = c.free_band.ensures.counts in
    record {
      so_far = frees_on i (λ t. g.met.P.PageSpace.told_shows _ (i.told t)) c.in_ok-b.ensures.kept read.told read.later counts.told counts.later c.in_ok-free_band.ensures.did
          (λ t b h. link_read c.loop-j.j c.in_ok-b.b.0 (link_still i t h) h.raw.fit c.in_ok-b.ensures.small (c.in_ok-b.ensures.read (g.met.P.PageSpace.told_shows _ (i.told t))));
      later = λ t. let then = g.met.P.PageSpace.later_then t in then _ _ _ (c.loop-j.invariant.later t) (then _ _ _ (c.link_at.ensures.later t) (c.free_band.ensures.later t));
      means = λ t m. c.free_band.ensures.means t (c.link_at.ensures.means t (c.loop-j.invariant.means t m));
      quiet = c.in_ok-free_band.ensures.counts.quiet ∙ c.in_ok-b.ensures.counts.quiet ∙ c.loop-j.invariant.quiet;
      few = let r0 = c.loop-j.invariant.few in let r1 = c.link_at.ensures.writes.records in let r2 = c.free_band.ensures.few in omega arith;
    }

pub free_page-requires : goal.free_page-requires
free_page-requires g c = λ told.
    let i = c.loop-j.invariant.so_far in
    let back = i.back told in
    let h = c.requires back in
    subst IsSome (sym (link_still i back h.1).is) refl

pub returns-clause-did : goal.returns-clause-did
returns-clause-did g c =
    let i = c.loop-j.invariant.so_far in
    let test = c.loop-j-test.false in
    let for = c.bands_for-j-end.ensures in
    let end = c.loop-j.auto.j-end in
    all_gone i c.in_ok-free_page.ensures.did (λ t b h.
    let peak = (c.in_ok-found.ensures.read (g.met.P.PageSpace.told_shows _ t) (raw_of b) h.raw).1 in
    let many = so_many b.bands b.peak c.in_ok-found.found.peak peak h.least h.most in
    omega arith)

pub returns-in_err-b-clause-later : goal.returns-in_err-b-clause-later
returns-in_err-b-clause-later g c = λ t. g.met.P.PageSpace.later_then t _ _ _ (c.loop-j.invariant.later t) (c.link_at.ensures.later t)

pub returns-in_err-free_band-clause-later : goal.returns-in_err-free_band-clause-later
returns-in_err-free_band-clause-later g c = λ t. let then = g.met.P.PageSpace.later_then t in then _ _ _ (c.loop-j.invariant.later t) (then _ _ _ (c.link_at.ensures.later t) (c.free_band.ensures.later t))

pub returns-in_err-free_page-clause-later : goal.returns-in_err-free_page-clause-later
returns-in_err-free_page-clause-later g c = λ t. g.met.P.PageSpace.later_then t _ _ _ (c.loop-j.invariant.later t) (c.free_page.ensures.later t)
