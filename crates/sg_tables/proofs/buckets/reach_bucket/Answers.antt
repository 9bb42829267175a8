use Rattle.std.proofs.Common.{◌≡◌, ℕ, ◌<◌, ◌≤◌, IsTrue, IsFalse, List, length, take, slice_get, refl, arith, rules, sym, subst, ap, ◌∙◌}
use Rattle.std.proofs.lemmas.Result.{err_from_is_err_and}
use Rattle.sg_space.proofs.Known.{still, before, reads_then}
use Rattle.sg_space.specs.Units.{HasAt}
use Rattle.sg_space.specs.View.{Space}
use Rattle.sg_reach.proofs.Faults.{broken_by, broken_so}
use Rattle.sg_reach.proofs.Placing.{set_kept, reached_by, reached_among}
use Rattle.sg_array.specs.Array.{Array, IsArray}
use Rattle.sg_bucket.specs.Bucket.{Bucket, entries_of}
use Rattle.sg_bucket.specs.Entry.{AreOnce}
use Rattle.sg_chains.specs.Reached.{CanReachChain, ReachesChain}
use Rattle.sg_chains.specs.Tally.{IsChain}
use Rattle.sg_hash.specs.Table.{first_page}
use Rattle.sg_tables.specs.Table.{address}
use Rattle.sg_tables.specs.Reached.{CanReachBucket, ReachesBucket}
use Rattle.sg_tables.proofs.Gathering.{first_is, named_so, chain_may, chain_once, bucket_reached}
use Rattle.sg_tables.proofs.buckets.reach_bucket.Goals as goal

pub reach_chain-requires-clause-there : goal.reach_chain-requires-clause-there
reach_chain-requires-clause-there g c = λ told.
    let back = c.get.ensures.counts.told told in
    let shows = g.met.P.PageSpace.told_shows _ back in
    let h = c.requires back in
    let same = first_is (slice_get (h.names).items c.args.i) c.get.new.into (h.names).size c.read_u32.result (first_page h.bucket) (c.in_ok-get.ensures.read shows h.names h.stands) h.size (omega arith) c.read_u32.ensures.value h.of.named h.of.fit in
    still (λ (s : Space). CanReachChain s.pages.at (address c.args.extent c.args.i) c.read_u32.result c.args.into.now.pages) c.in_ok-get.ensures.kept shows (chain_may h same)

pub returns-in_err-chain-clause-broken : goal.returns-in_err-chain-clause-broken
returns-in_err-chain-clause-broken g c =
    let kept = c.in_ok-get.ensures.kept in
    let p = err_from_is_err_and c.from_residual-in_err-chain.result c.from_residual-in_err-chain.ensures.1 in
    rw (p.1, p.2) (broken_so c.in_err-chain.field-0.0 (λ never shows h.
    let same = first_is (slice_get (h.names).items c.args.i) c.get.new.into (h.names).size c.read_u32.result (first_page h.bucket) (c.in_ok-get.ensures.read shows h.names h.stands) h.size (omega arith) c.read_u32.ensures.value h.of.named h.of.fit in
    never (kept.shows shows) (still (λ (s : Space). CanReachChain s.pages.at (address c.args.extent c.args.i) c.read_u32.result c.args.into.now.pages) kept shows (chain_may h same))) c.in_err-chain.ensures.broken)

pub returns-in_err-chain-clause-later : goal.returns-in_err-chain-clause-later
returns-in_err-chain-clause-later g c = λ t. g.met.P.PageSpace.later_then t _ _ _ (c.get.ensures.later t) (c.reach_chain.ensures.later t)

pub returns-in_err-chain-clause-means : goal.returns-in_err-chain-clause-means
returns-in_err-chain-clause-means g c = λ t m. c.reach_chain.ensures.means t (c.get.ensures.means t m)

pub check_once-requires : goal.check_once-requires
check_once-requires g c = λ told.
    let back = c.reach_chain.ensures.counts.told told in
    let shows = g.met.P.PageSpace.told_shows _ back in
    let r = c.in_ok-chain.ensures.reached shows in
    (r.bucket, still (λ (s : Space). IsChain s.pages.at c.read_u32.result c.in_ok-chain.chain.pages r.bucket) c.in_ok-chain.ensures.kept shows (record { linked = r.linked; many = r.pages }))

pub returns-in_err-check_once-clause-broken : goal.returns-in_err-check_once-clause-broken
returns-in_err-check_once-clause-broken g c =
    let one = c.in_ok-get.ensures.kept in
    let two = reads_then one c.in_ok-chain.ensures.kept in
    let p = err_from_is_err_and c.from_residual-in_err-check_once.result c.from_residual-in_err-check_once.ensures.1 in
    rw (p.1, p.2) (broken_so c.in_err-check_once.field-0.0 (λ never shows h.
    let same = first_is (slice_get (h.names).items c.args.i) c.get.new.into (h.names).size c.read_u32.result (first_page h.bucket) (c.in_ok-get.ensures.read shows h.names h.stands) h.size (omega arith) c.read_u32.ensures.value h.of.named h.of.fit in
    let r = before (λ (s : Space). ReachesChain s.pages.at (address c.args.extent c.args.i) c.read_u32.result c.args.into.now.pages c.reach_chain.new.into.pages c.in_ok-chain.chain) one shows (c.in_ok-chain.ensures.reached (one.shows shows)) in
    chain_once c.in_ok-chain.chain h same r (λ b chain. never (two.shows shows) b (still (λ (s : Space). IsChain s.pages.at c.read_u32.result c.in_ok-chain.chain.pages b) two shows chain))) c.in_err-check_once.ensures.broken)

pub returns-in_err-check_once-clause-later : goal.returns-in_err-check_once-clause-later
returns-in_err-check_once-clause-later g c = λ t. g.met.P.PageSpace.later_then t _ _ _ (c.get.ensures.later t) (g.met.P.PageSpace.later_then t _ _ _ (c.reach_chain.ensures.later t) (c.check_once.ensures.later t))

pub returns-in_err-check_once-clause-means : goal.returns-in_err-check_once-clause-means
returns-in_err-check_once-clause-means g c = λ t m. c.check_once.ensures.means t (c.reach_chain.ensures.means t (c.get.ensures.means t m))

pub returns-clause-reached : goal.returns-clause-reached
returns-clause-reached g c = λ shows a h four.
    let one = c.in_ok-get.ensures.kept in
    let two = reads_then one c.in_ok-chain.ensures.kept in
    let r = before (λ (s : Space). ReachesChain s.pages.at (address c.args.extent c.args.i) c.read_u32.result c.args.into.now.pages c.reach_chain.new.into.pages c.in_ok-chain.chain) one shows (c.in_ok-chain.ensures.reached (one.shows shows)) in
    let named = named_so a c.args.i c.get.new.into c.read_u32.result (λ item e. h.built.limits.each c.args.i item e) (c.in_ok-get.ensures.read shows a h) four (omega arith) c.read_u32.ensures.value in
    bucket_reached a c.in_ok-chain.chain named c.read_u32.type_inv r
    (λ b chain. c.in_ok-check_once.ensures.read (two.shows shows) b (still (λ (s : Space). IsChain s.pages.at c.read_u32.result c.in_ok-chain.chain.pages b) two shows chain))

pub returns-clause-later : goal.returns-clause-later
returns-clause-later g c = λ t. g.met.P.PageSpace.later_then t _ _ _ (c.get.ensures.later t) (g.met.P.PageSpace.later_then t _ _ _ (c.reach_chain.ensures.later t) (c.check_once.ensures.later t))

pub returns-clause-means : goal.returns-clause-means
returns-clause-means g c = λ t m. c.check_once.ensures.means t (c.reach_chain.ensures.means t (c.get.ensures.means t m))

-- the page that is said to be broken
pub returns-clause-stays : goal.returns-clause-stays
returns-clause-stays g c = λ shows. set_kept (c.in_ok-chain.ensures.reached (c.in_ok-get.ensures.kept.shows shows)).set

pub returns-in_err-chain-clause-place : goal.returns-in_err-chain-clause-place
returns-in_err-chain-clause-place g c =
    let p = err_from_is_err_and c.from_residual-in_err-chain.result c.from_residual-in_err-chain.ensures.1 in
    rw (p.1, p.2) (reached_by _ c.in_err-chain.field-0.0 (λ given. (c.in_ok-get.ensures.kept.shows given.0, given.1)) c.in_err-chain.ensures.place)

pub returns-in_err-check_once-clause-place : goal.returns-in_err-check_once-clause-place
returns-in_err-check_once-clause-place g c =
    let one = c.in_ok-get.ensures.kept in
    let p = err_from_is_err_and c.from_residual-in_err-check_once.result c.from_residual-in_err-check_once.ensures.1 in
    rw (p.1, p.2) (reached_among _ (λ given. ((c.in_ok-chain.ensures.reached (one.shows given.0)).bucket).pages) c.in_err-check_once.field-0.0
    (λ given. (c.in_ok-chain.ensures.reached (one.shows given.0)).set.set)
    (λ given.
    let r = c.in_ok-chain.ensures.reached (one.shows given.0) in
    c.in_err-check_once.ensures.place (c.in_ok-chain.ensures.kept.shows (one.shows given.0)) r.bucket (still (λ (s : Space). IsChain s.pages.at c.read_u32.result c.in_ok-chain.chain.pages r.bucket) c.in_ok-chain.ensures.kept (one.shows given.0) (record { linked = r.linked; many = r.pages }))))
