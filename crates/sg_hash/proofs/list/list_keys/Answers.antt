use Rattle.std.proofs.Common.{◌≡◌, ◌∙◌, arith, rules}
use Rattle.sg_space.specs.declared.space.ListFault.TheVariants.{Memory, Space}
use Rattle.sg_space.specs.declared.space.ListFault.{ListFault}
use Rattle.sg_space.specs.declared.space.SpaceFault.{SpaceFault}
use Rattle.std.specs.Prelude.{Result, Ok, Err, IfErr}
use Rattle.std.specs.Result.{IsErrAnd}
use Rattle.sg_hash.proofs.Changing.{found_bucket}
use Rattle.sg_hash.proofs.Entries.{few_buckets}
use Rattle.sg_hash.proofs.Freeing.{all_buckets}
use Rattle.sg_hash.proofs.Listing.{lists_start, lists_on, lists_all}
use Rattle.sg_hash.proofs.Trunks.{still_table}
use Rattle.sg_space.proofs.Known.{reads_then}
use Rattle.sg_hash.proofs.list.list_keys.Goals as goal

pub read_root-requires : goal.read_root-requires
read_root-requires g c = λ told. let h = c.requires told in (_, h.0, h.1.built.trunk, tt)

pub broken-requires : goal.broken-requires
broken-requires g c = λ told.
    let back = c.read_root.ensures.counts.told told in
    let shows = g.met.P.PageSpace.told_shows _ back in
    let h = c.requires back in
    let now = still_table c.in_ok-found.ensures.kept shows h.1 in
    let many = all_buckets c.in_ok-found.found h.1 (c.in_ok-found.ensures.read shows _ h.0 h.1.built.trunk) c.buckets-count.ensures in
    let few = few_buckets h.0 (g.met.P.PageSpace.pages_exact _ told) now.built in
    let there = c.pages.ensures in
    let test = c.if-count-pages.true in
    omega arith

pub loop-i-init : goal.loop-i-init
loop-i-init g c =
    record {
      so_far = lists_start c.new-all.ensures.items c.in_ok-found.ensures.kept c.read_root.ensures.counts.told c.read_root.ensures.counts.later;
      later = λ t. c.read_root.ensures.later t;
      means = λ t m. c.read_root.ensures.means t m;
      quiet = c.in_ok-found.ensures.counts.quiet;
      records = c.read_root.ensures.writes.records;
    }

pub bucket_at-requires : goal.bucket_at-requires
bucket_at-requires g c = λ told.
    let i = c.loop-i.invariant.so_far in
    let back = i.back told in
    let shows = g.met.P.PageSpace.told_shows _ back in
    let h = c.requires back in
    let many = all_buckets c.in_ok-found.found h.1 (c.in_ok-found.ensures.read shows _ h.0 h.1.built.trunk) c.buckets-count.ensures in
    let test = c.loop-i-test.true in
    (_, h.0, (still_table i.kept shows h.1).built.trunk, omega arith)

pub keys-requires : goal.keys-requires
keys-requires g c = λ told.
    let i = c.loop-i.invariant.so_far in
    let then = c.bucket_at.ensures.counts.told told in
    let back = i.back then in
    let shows = g.met.P.PageSpace.told_shows _ back in
    let h = c.requires back in
    let many = all_buckets c.in_ok-found.found h.1 (c.in_ok-found.ensures.read shows _ h.0 h.1.built.trunk) c.buckets-count.ensures in
    let test = c.loop-i-test.true in
    let now = still_table i.kept shows h.1 in
    let first = c.in_ok-first.ensures.read (i.kept.shows shows) _ h.0 now.built.trunk (omega arith) in
    (first.bucket, (found_bucket (still_table c.in_ok-first.ensures.kept (i.kept.shows shows) now) first).linked, tt)

pub loop-i-preserved : goal.loop-i-preserved
loop-i-preserved g c =
    let i = c.loop-i.invariant.so_far in
    let test = c.loop-i-test.true in
    let read = c.bucket_at.ensures.counts in
    let counts = c.keys.ensures.counts in
    let one = read.later in
    let two = counts.later in
    record {
      so_far = lists_on i (reads_then c.in_ok-first.ensures.kept c.in_ok-keys.ensures.kept) (λ told. read.told (counts.told told)) (omega arith) (λ shows t h.
          let many = all_buckets c.in_ok-found.found h (c.in_ok-found.ensures.read shows _ t h.built.trunk) c.buckets-count.ensures in
          let now = still_table i.kept shows h in
          let there = i.kept.shows shows in
          let first = c.in_ok-first.ensures.read there _ t now.built.trunk (omega arith) in
          (first.bucket, first.is, c.in_ok-keys.ensures.read (c.in_ok-first.ensures.kept.shows there) first.bucket (found_bucket (still_table c.in_ok-first.ensures.kept there now) first).linked));
      later = λ t. let then = g.met.P.PageSpace.later_then t in then _ _ _ (c.loop-i.invariant.later t) (then _ _ _ (c.bucket_at.ensures.later t) (c.keys.ensures.later t));
      means = λ t m. c.keys.ensures.means t (c.bucket_at.ensures.means t (c.loop-i.invariant.means t m));
      quiet = c.in_ok-keys.ensures.counts.quiet ∙ c.in_ok-first.ensures.counts.quiet ∙ c.loop-i.invariant.quiet;
      records = c.keys.ensures.writes.records ∙ c.bucket_at.ensures.writes.records ∙ c.loop-i.invariant.records;
    }

pub returns-clause-read : goal.returns-clause-read
returns-clause-read g c =
    let i = c.loop-i.invariant.so_far in
    let test = c.loop-i-test.false in
    let end = c.loop-i.auto.i-end in
    lists_all i (λ shows t h. let many = all_buckets c.in_ok-found.found h (c.in_ok-found.ensures.read shows _ t h.built.trunk) c.buckets-count.ensures in omega arith)

pub returns-in_err-first-clause-later : goal.returns-in_err-first-clause-later
returns-in_err-first-clause-later g c = λ t. g.met.P.PageSpace.later_then t _ _ _ (c.loop-i.invariant.later t) (c.bucket_at.ensures.later t)

pub returns-in_err-keys-clause-later : goal.returns-in_err-keys-clause-later
returns-in_err-keys-clause-later g c = λ t.
    let then = g.met.P.PageSpace.later_then t in
    then _ _ _ (c.loop-i.invariant.later t) (then _ _ _ (c.bucket_at.ensures.later t) (c.keys.ensures.later t))

pub returns-then-count-pages-clause-later : goal.returns-then-count-pages-clause-later
returns-then-count-pages-clause-later g c = λ t. g.met.P.PageSpace.later_then t _ _ _ (c.read_root.ensures.later t) (c.broken.ensures.later t)

pub returns-in_err-keys-clause-memory : goal.returns-in_err-keys-clause-memory
returns-in_err-keys-clause-memory g c =
    let kept = λ (e : c.in_err-keys.field-0.0 ≡ Memory). reads_then c.loop-i.invariant.so_far.kept (reads_then c.in_ok-first.ensures.kept (c.in_err-keys.ensures.memory e)) in
    search (rules, kept)

-- a fault of the space is no want of memory
not_memory : {T : Type 0} (result : Result T ListFault) (fault : SpaceFault) (P : Type 0) → IsErrAnd result (λ e. e ≡ Space fault) → IfErr result (λ e. e ≡ Memory → P)
not_memory (Ok done) fault P h = tt
not_memory (Err e) fault P h = λ m. absurd (cc)

pub returns-in_err-found-clause-memory : goal.returns-in_err-found-clause-memory
returns-in_err-found-clause-memory g c = not_memory c.from_residual.result c.in_err-found.field-0.0 _ c.from_residual.ensures.1

pub returns-in_err-keys-clause-quiet : goal.returns-in_err-keys-clause-quiet
returns-in_err-keys-clause-quiet g c =
    let quiet = λ (e : c.in_err-keys.field-0.0 ≡ Memory). c.in_err-keys.ensures.quiet e ∙ c.in_ok-first.ensures.counts.quiet ∙ c.loop-i.invariant.quiet in
    search (rules, quiet)

pub returns-in_err-found-clause-quiet : goal.returns-in_err-found-clause-quiet
returns-in_err-found-clause-quiet g c = not_memory c.from_residual.result c.in_err-found.field-0.0 _ c.from_residual.ensures.1
