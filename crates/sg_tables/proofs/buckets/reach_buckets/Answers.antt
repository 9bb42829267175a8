use Rattle.std.proofs.Common.{◌≡◌, ℕ, ◌<◌, ◌≤◌, IsTrue, IsFalse, List, length, take, slice_get, refl, arith, rules, sym, subst, ap, ◌∙◌}
use Rattle.std.proofs.lemmas.Result.{err_from_is_err_and}
use Rattle.sg_space.proofs.Known.{still, before, reads_then}
use Rattle.sg_space.specs.Units.{HasAt}
use Rattle.sg_space.specs.View.{Space}
use Rattle.sg_reach.proofs.Faults.{broken_by, broken_so}
use Rattle.sg_reach.proofs.Placing.{reached_by}
use Rattle.sg_array.specs.Array.{Array, IsArray}
use Rattle.sg_tables.specs.Reached.{CanReachBucket, ReachesBucket}
use Rattle.sg_tables.proofs.Gathering.{buckets_on, bucket_may}
use Rattle.sg_tables.proofs.buckets.reach_buckets.Goals as goal

pub reach_bucket-requires : goal.reach_bucket-requires
reach_bucket-requires g c = λ told.
    let i = c.loop-i.invariant.so_far in
    let test = c.loop-i-test.true in
    let count = c.buckets-i-end.ensures in
    let back = i.told told in
    let shows = g.met.P.PageSpace.told_shows _ back in
    let h = c.requires back in
    still (λ (s : Space). CanReachBucket s.pages.at c.args.directory.0 c.args.extent c.loop-i.i c.loop-i.into.pages) i.kept shows (bucket_may h (i.reaches shows h.names h.stands h.size) (omega arith))

pub returns-in_err-chain-clause-broken : goal.returns-in_err-chain-clause-broken
returns-in_err-chain-clause-broken g c =
    let i = c.loop-i.invariant.so_far in
    let test = c.loop-i-test.true in
    let count = c.buckets-i-end.ensures in
    let p = err_from_is_err_and c.from_residual.result c.from_residual.ensures.1 in
    rw (p.1, p.2) (broken_so c.in_err-chain.field-0.0 (λ never shows h. never (i.kept.shows shows) (still (λ (s : Space). CanReachBucket s.pages.at c.args.directory.0 c.args.extent c.loop-i.i c.loop-i.into.pages) i.kept shows (bucket_may h (i.reaches shows h.names h.stands h.size) (omega arith)))) c.in_err-chain.ensures.broken)

pub loop-i-preserved : goal.loop-i-preserved
loop-i-preserved g c =
    let i = c.loop-i.invariant.so_far in
    let counts = c.reach_bucket.ensures.counts in
    let few = c.in_ok-chain.ensures.few in
    let a = few.entries_few in
    let b = few.bytes_few in
    let d = c.loop-i.invariant.entries_few in
    let e = c.loop-i.invariant.bytes_few in
    record {
      so_far = buckets_on c.in_ok-chain.chain i counts.told counts.later c.in_ok-chain.ensures.kept (λ shows names h four. before (λ (s : Space). ReachesBucket s.pages.at names c.args.extent c.loop-i.i c.loop-i.into.pages c.reach_bucket.new.into.pages c.in_ok-chain.chain) i.kept shows (c.in_ok-chain.ensures.reached (i.kept.shows shows) names (still (λ (s : Space). IsArray s.pages.at c.args.directory.0 names) i.kept shows h) four));
      bands = c.in_ok-chain.ensures.bands ∙ c.loop-i.invariant.bands;
      entries_few = omega (arith, a, d);
      bytes_few = omega (arith, b, e);
      most = c.loop-i.invariant.most;
      later = λ t. g.met.P.PageSpace.later_then t _ _ _ (c.loop-i.invariant.later t) (c.reach_bucket.ensures.later t);
      means = λ t m. c.reach_bucket.ensures.means t (c.loop-i.invariant.means t m);
      quiet = c.in_ok-chain.ensures.counts.quiet ∙ c.loop-i.invariant.quiet;
      stays = λ shows n e. c.in_ok-chain.ensures.stays (i.kept.shows shows) n (c.loop-i.invariant.stays shows n e);
      records = c.reach_bucket.ensures.writes.records ∙ c.loop-i.invariant.records;
    }

pub returns-in_err-chain-clause-later : goal.returns-in_err-chain-clause-later
returns-in_err-chain-clause-later g c = λ t. g.met.P.PageSpace.later_then t _ _ _ (c.loop-i.invariant.later t) (c.reach_bucket.ensures.later t)

pub returns-in_err-chain-clause-place : goal.returns-in_err-chain-clause-place
returns-in_err-chain-clause-place g c =
    let p = err_from_is_err_and c.from_residual.result c.from_residual.ensures.1 in
    rw (p.1, p.2) (reached_by _ c.in_err-chain.field-0.0 (λ given. (c.loop-i.invariant.so_far.kept.shows given.0, c.loop-i.invariant.stays given.0 _ given.1)) c.in_err-chain.ensures.place)
