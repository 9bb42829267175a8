use Rattle.std.proofs.Common.{◌∙◌, refl, ◌≡◌, ℕ, sym, subst, arith, ◌+◌}
use Rattle.sg_space.specs.View.{Space}
use Rattle.sg_hash.proofs.Entries.{few_chains}
use Rattle.sg_hash.specs.Steps.{AreFreed, FreesBuckets}
use Rattle.sg_hash.proofs.Freeing.{frees_none, frees_on, trunk_left, bucket_found, same_many, chain_step, chain_take}
use Rattle.sg_hash.proofs.free.free_buckets.Goals as goal

pub loop-i-init : goal.loop-i-init
loop-i-init g c =
    record {
      so_far = frees_none _ _;
      later = λ t. g.met.P.PageSpace.later_same t _;
      means = λ t m. m;
      quiet = refl;
      few = λ told t h. omega arith;
    }

pub bucket_at-requires : goal.bucket_at-requires
bucket_at-requires g c = λ told.
    let i = c.loop-i.invariant.so_far in
    let back = i.back told in
    let h = c.requires back in
    let test = c.loop-i-test.true in
    let many = h.2 in
    (_, h.0, trunk_left h.1.built (i.frees.freed back h.0 h.1), omega arith)

pub free_all-requires : goal.free_all-requires
free_all-requires g c = λ told.
    let i = c.loop-i.invariant.so_far in
    let then = c.bucket_at.ensures.counts.told told in
    let back = i.back then in
    let shows = g.met.P.PageSpace.told_shows _ then in
    let h = c.requires back in
    let test = c.loop-i-test.true in
    let many = h.2 in
    let freed = i.frees.freed back h.0 h.1 in
    let first = c.in_ok-first.ensures.read shows _ h.0 (trunk_left h.1.built freed) (omega arith) in
    let now = subst (λ (s : Space). AreFreed (g.P.PageSpace.view c.args.space.now).space s h.0.buckets c.loop-i.i) (sym (c.in_ok-first.ensures.kept.same shows)) freed in
    (first.bucket, bucket_found h.1.built now first, tt)

pub loop-i-preserved : goal.loop-i-preserved
loop-i-preserved g c =
    let i = c.loop-i.invariant.so_far in
    let test = c.loop-i-test.true in
    let read = c.bucket_at.ensures.counts in
    let counts = c.free_all.ensures.counts in
    record {
      so_far = frees_on i (λ t. g.met.P.PageSpace.told_shows _ t) c.in_ok-first.ensures.kept read.told read.later counts.told counts.later c.in_ok-free_all.ensures.did
          (λ told t h. c.in_ok-first.ensures.read (g.met.P.PageSpace.told_shows _ (i.frees.told told)) _ t (trunk_left h.built (i.frees.freed told t h)) (let own = c.requires told in let same = same_many h own.1 in let many = own.2 in omega arith));
      later = λ t. let then = g.met.P.PageSpace.later_then t in then _ _ _ (c.loop-i.invariant.later t) (then _ _ _ (c.bucket_at.ensures.later t) (c.free_all.ensures.later t));
      means = λ t m. c.free_all.ensures.means t (c.bucket_at.ensures.means t (c.loop-i.invariant.means t m));
      quiet = c.in_ok-free_all.ensures.counts.quiet ∙ c.in_ok-first.ensures.counts.quiet ∙ c.loop-i.invariant.quiet;
      few = λ told t h.
          let before = c.loop-i.invariant.few told t h in
          let there = i.frees.told told in
          let shows = g.met.P.PageSpace.told_shows _ there in
          let own = c.requires told in
          let same = same_many h own.1 in
          let many = own.2 in
          let freed = i.frees.freed told t h in
          let first = c.in_ok-first.ensures.read shows _ t (trunk_left h.built freed) (omega arith) in
          let now = subst (λ (s : Space). AreFreed (g.P.PageSpace.view c.args.space.now).space s t.buckets c.loop-i.i) (sym (c.in_ok-first.ensures.kept.same shows)) freed in
          let read = c.bucket_at.ensures.writes.records in
          let one = c.free_all.ensures.few_told (c.in_ok-first.ensures.kept.keeps.told there) first.bucket (bucket_found h.built now first) in
          let step = chain_step t.buckets c.loop-i.i first.bucket first.is in
          omega arith;
    }

pub returns-clause-did : goal.returns-clause-did
returns-clause-did g c =
    let i = c.loop-i.invariant.so_far in
    let test = c.loop-i-test.false in
    let end = c.loop-i.auto.i-end in
    let same : c.loop-i.i ≡ c.args.count = omega arith in
    subst (λ (n : ℕ). FreesBuckets (g.P.PageSpace.view c.args.space.now) (g.P.PageSpace.view c.loop-i.space) c.args.root.0 n) same i.frees

pub returns-in_err-first-clause-few : goal.returns-in_err-first-clause-few
returns-in_err-first-clause-few g c = λ told.
    let h = c.requires told in
    let before = c.loop-i.invariant.few told h.0 h.1 in
    let read = c.bucket_at.ensures.writes.records in
    let some = chain_take h.0.buckets c.loop-i.i in
    let all = few_chains h.0 (g.met.P.PageSpace.pages_exact _ told) h.1.built in
    omega arith

pub returns-in_err-free_all-clause-few : goal.returns-in_err-free_all-clause-few
returns-in_err-free_all-clause-few g c = λ told.
    let i = c.loop-i.invariant.so_far in
    let test = c.loop-i-test.true in
    let h = c.requires told in
    let before = c.loop-i.invariant.few told h.0 h.1 in
    let there = i.frees.told told in
    let shows = g.met.P.PageSpace.told_shows _ there in
    let many = h.2 in
    let freed = i.frees.freed told h.0 h.1 in
    let first = c.in_ok-first.ensures.read shows _ h.0 (trunk_left h.1.built freed) (omega arith) in
    let now = subst (λ (s : Space). AreFreed (g.P.PageSpace.view c.args.space.now).space s h.0.buckets c.loop-i.i) (sym (c.in_ok-first.ensures.kept.same shows)) freed in
    let read = c.bucket_at.ensures.writes.records in
    let one = c.free_all.ensures.few_told (c.in_ok-first.ensures.kept.keeps.told there) first.bucket (bucket_found h.1.built now first) in
    let step = chain_step h.0.buckets c.loop-i.i first.bucket first.is in
    let some = chain_take h.0.buckets (c.loop-i.i + 1) in
    let all = few_chains h.0 (g.met.P.PageSpace.pages_exact _ told) h.1.built in
    omega arith

pub returns-clause-few : goal.returns-clause-few
returns-clause-few g c = λ told.
    let h = c.requires told in
    let before = c.loop-i.invariant.few told h.0 h.1 in
    let some = chain_take h.0.buckets c.loop-i.i in
    let all = few_chains h.0 (g.met.P.PageSpace.pages_exact _ told) h.1.built in
    omega arith

pub returns-in_err-first-clause-later : goal.returns-in_err-first-clause-later
returns-in_err-first-clause-later g c = λ t. g.met.P.PageSpace.later_then t _ _ _ (c.loop-i.invariant.later t) (c.bucket_at.ensures.later t)

pub returns-in_err-free_all-clause-later : goal.returns-in_err-free_all-clause-later
returns-in_err-free_all-clause-later g c = λ t.
    let then = g.met.P.PageSpace.later_then t in
    then _ _ _ (c.loop-i.invariant.later t) (then _ _ _ (c.bucket_at.ensures.later t) (c.free_all.ensures.later t))
