use Rattle.std.proofs.Common.{ℕ, List, length, refl, ap, arith}
use Rattle.sg_space.proofs.Known.{reads_then}
use Rattle.sg_hash.specs.Table.{numbers_of}
use Rattle.sg_hash.proofs.Changing.{found_bucket}
use Rattle.sg_hash.proofs.Growing.{first_of, split_below}
use Rattle.sg_hash.proofs.Parting.{branch_at, can_branch, can_name, did_split, is_next, kept_at, names_at, root_at}
use Rattle.sg_hash.proofs.Trunks.{still_table, still_trunk}
use Rattle.sg_hash.proofs.split.split_next.Goals as goal

pub directory_of-requires : goal.directory_of-requires
directory_of-requires g c = λ told. let h = c.requires.there told in (_, h.0, h.1.built.trunk, tt)

pub bucket_at-requires : goal.bucket_at-requires
bucket_at-requires g c = λ told.
    let back = c.directory_of.ensures.counts.told told in
    let shows = g.met.P.PageSpace.told_shows _ back in
    let h = c.requires.there back in
    (_, h.0, still_trunk c.in_ok-directory.ensures.kept shows h.1.built.trunk, split_below c.args.found h.0 h.1 h.2.numbers)

pub branch-space-requires-clause-can : goal.branch-space-requires-clause-can
branch-space-requires-clause-can g c = λ told.
    let back = c.directory_of.ensures.counts.told (c.bucket_at.ensures.counts.told told) in
    let shows = g.met.P.PageSpace.told_shows _ back in
    let h = c.requires.there back in
    let kept = c.in_ok-directory.ensures.kept in
    let both = reads_then kept c.in_ok-first.ensures.kept in
    let f = first_of c.args.found h.0 h.2.numbers (c.in_ok-first.ensures.read (kept.shows shows) _ h.0 (still_trunk kept shows h.1.built.trunk) (split_below c.args.found h.0 h.1 h.2.numbers)) in
    (f.bucket, (found_bucket (still_table both shows h.1) f).linked, can_branch both shows h.1 h.2 f)

pub push-requires-clause-can : goal.push-requires-clause-can
push-requires-clause-can g c = λ told.
    let mid = c.branch-space.ensures.counts.told told in
    let back = c.directory_of.ensures.counts.told (c.bucket_at.ensures.counts.told mid) in
    let shows = g.met.P.PageSpace.told_shows _ back in
    let h = c.requires.there back in
    let kept = c.in_ok-directory.ensures.kept in
    let both = reads_then kept c.in_ok-first.ensures.kept in
    let f = first_of c.args.found h.0 h.2.numbers (c.in_ok-first.ensures.read (kept.shows shows) _ h.0 (still_trunk kept shows h.1.built.trunk) (split_below c.args.found h.0 h.1 h.2.numbers)) in
    let is = c.in_ok-directory.ensures.read shows _ h.0 h.1.built.trunk in
    let one = branch_at both shows mid c.in_ok-new.ensures.did h.1 h.2 f in
    let q = is_next c.args.found c.grown-extent.result c.buckets-bucket.result (record { extent = c.grown-extent.result; bucket = c.buckets-bucket.result }) h.1 h.2.numbers c.requires.room refl refl c.buckets-bucket.ensures c.grown-extent.ensures.value c.grown-extent.ensures.divides in
    (h.0.names, names_at both shows one.1 h.1 is, can_name both shows (c.in_ok-new.ensures.did.keeps mid) one.1 (h.2.short f.bucket f.is) h.1 h.2 q.few (ap (λ (x : List ℕ). length x) c.write_u32.ensures.bytes) is)

pub prune-requires-clause-can : goal.prune-requires-clause-can
prune-requires-clause-can g c = λ told.
    let last = c.push.ensures.counts.told told in
    let mid = c.branch-space.ensures.counts.told last in
    let back = c.directory_of.ensures.counts.told (c.bucket_at.ensures.counts.told mid) in
    let shows = g.met.P.PageSpace.told_shows _ back in
    let h = c.requires.there back in
    let kept = c.in_ok-directory.ensures.kept in
    let both = reads_then kept c.in_ok-first.ensures.kept in
    let f = first_of c.args.found h.0 h.2.numbers (c.in_ok-first.ensures.read (kept.shows shows) _ h.0 (still_trunk kept shows h.1.built.trunk) (split_below c.args.found h.0 h.1 h.2.numbers)) in
    let is = c.in_ok-directory.ensures.read shows _ h.0 h.1.built.trunk in
    let one = branch_at both shows mid c.in_ok-new.ensures.did h.1 h.2 f in
    let q = is_next c.args.found c.grown-extent.result c.buckets-bucket.result (record { extent = c.grown-extent.result; bucket = c.buckets-bucket.result }) h.1 h.2.numbers c.requires.room refl refl c.buckets-bucket.ensures c.grown-extent.ensures.value c.grown-extent.ensures.divides in
    let two = c.in_ok-push.ensures.did.turns last h.0.names (names_at both shows one.1 h.1 is) (can_name both shows (c.in_ok-new.ensures.did.keeps mid) one.1 (h.2.short f.bucket f.is) h.1 h.2 q.few (ap (λ (x : List ℕ). length x) c.write_u32.ensures.bytes) is) in
    let b = kept_at both shows h.1 f one.1 two.1 two.2 c.write_u32.ensures.bytes is in
    (f.bucket, b.linked, record { once = b.once; full = b.full })

pub set_root-requires-clause-can : goal.set_root-requires-clause-can
set_root-requires-clause-can g c = λ told.
    let end = c.prune.ensures.counts.told told in
    let last = c.push.ensures.counts.told end in
    let mid = c.branch-space.ensures.counts.told last in
    let back = c.directory_of.ensures.counts.told (c.bucket_at.ensures.counts.told mid) in
    let shows = g.met.P.PageSpace.told_shows _ back in
    let h = c.requires.there back in
    let kept = c.in_ok-directory.ensures.kept in
    let both = reads_then kept c.in_ok-first.ensures.kept in
    let f = first_of c.args.found h.0 h.2.numbers (c.in_ok-first.ensures.read (kept.shows shows) _ h.0 (still_trunk kept shows h.1.built.trunk) (split_below c.args.found h.0 h.1 h.2.numbers)) in
    let is = c.in_ok-directory.ensures.read shows _ h.0 h.1.built.trunk in
    let one = branch_at both shows mid c.in_ok-new.ensures.did h.1 h.2 f in
    let q = is_next c.args.found c.grown-extent.result c.buckets-bucket.result (record { extent = c.grown-extent.result; bucket = c.buckets-bucket.result }) h.1 h.2.numbers c.requires.room refl refl c.buckets-bucket.ensures c.grown-extent.ensures.value c.grown-extent.ensures.divides in
    let two = c.in_ok-push.ensures.did.turns last h.0.names (names_at both shows one.1 h.1 is) (can_name both shows (c.in_ok-new.ensures.did.keeps mid) one.1 (h.2.short f.bucket f.is) h.1 h.2 q.few (ap (λ (x : List ℕ). length x) c.write_u32.ensures.bytes) is) in
    let b = kept_at both shows h.1 f one.1 two.1 two.2 c.write_u32.ensures.bytes is in
    let three = c.in_ok-prune.ensures.did.turns end f.bucket b.linked (record { once = b.once; full = b.full }) in
    record { numbers = numbers_of h.0; directory = h.0.directory; page = root_at (g.P.PageSpace.view c.prune.new.space) both shows h.1 f one.1 two.1 two.2 c.write_u32.ensures.bytes is three.1 three.2.sound }

pub returns-clause-did : goal.returns-clause-did
returns-clause-did g c =
    let kept = c.in_ok-directory.ensures.kept in
    did_split (λ t. g.met.P.PageSpace.told_shows _ t) (reads_then kept c.in_ok-first.ensures.kept) c.in_ok-new.ensures.did c.in_ok-push.ensures.did c.in_ok-prune.ensures.did c.in_ok-set_root.ensures.did (ap (λ (x : List ℕ). length x) c.write_u32.ensures.bytes) c.write_u32.ensures.bytes
    (λ shows t h. c.in_ok-directory.ensures.read shows _ t h.built.trunk)
    (λ shows t h same. first_of c.args.found t same (c.in_ok-first.ensures.read (kept.shows shows) _ t (still_trunk kept shows h.built.trunk) (split_below c.args.found t h same)))
    (λ shows t h same. is_next c.args.found c.grown-extent.result c.buckets-bucket.result (record { extent = c.grown-extent.result; bucket = c.buckets-bucket.result }) h same c.requires.room refl refl c.buckets-bucket.ensures c.grown-extent.ensures.value c.grown-extent.ensures.divides)

pub returns-in_err-push-clause-later : goal.returns-in_err-push-clause-later
returns-in_err-push-clause-later g c =
    let then = g.met.P.PageSpace.later_then _ in
    then _ _ _ (c.directory_of.ensures.later _) (then _ _ _ (c.bucket_at.ensures.later _) (then _ _ _ c.branch-space.ensures.later c.push.ensures.later))

pub returns-in_err-prune-clause-later : goal.returns-in_err-prune-clause-later
returns-in_err-prune-clause-later g c =
    let then = g.met.P.PageSpace.later_then _ in
    then _ _ _ (c.directory_of.ensures.later _) (then _ _ _ (c.bucket_at.ensures.later _) (then _ _ _ c.branch-space.ensures.later (then _ _ _ c.push.ensures.later c.prune.ensures.later)))

pub returns-in_err-set_root-clause-later : goal.returns-in_err-set_root-clause-later
returns-in_err-set_root-clause-later g c =
    let then = g.met.P.PageSpace.later_then _ in
    then _ _ _ (c.directory_of.ensures.later _) (then _ _ _ (c.bucket_at.ensures.later _) (then _ _ _ c.branch-space.ensures.later (then _ _ _ c.push.ensures.later (then _ _ _ c.prune.ensures.later c.set_root.ensures.later))))

pub returns-clause-later : goal.returns-clause-later
returns-clause-later g c =
    let then = g.met.P.PageSpace.later_then _ in
    then _ _ _ (c.directory_of.ensures.later _) (then _ _ _ (c.bucket_at.ensures.later _) (then _ _ _ c.branch-space.ensures.later (then _ _ _ c.push.ensures.later (then _ _ _ c.prune.ensures.later c.set_root.ensures.later))))

pub returns-in_err-new-clause-few : goal.returns-in_err-new-clause-few
returns-in_err-new-clause-few g c = λ told.
    let shows = g.met.P.PageSpace.told_shows _ told in
    let h = c.requires.there told in
    let kept = c.in_ok-directory.ensures.kept in
    let both = reads_then kept c.in_ok-first.ensures.kept in
    let names = c.directory_of.ensures.writes.records in
    let bucket = c.bucket_at.ensures.writes.records in
    let f = first_of c.args.found h.0 h.2.numbers (c.in_ok-first.ensures.read (kept.shows shows) _ h.0 (still_trunk kept shows h.1.built.trunk) (split_below c.args.found h.0 h.1 h.2.numbers)) in
    let short = h.2.short f.bucket f.is in
    let new = c.branch-space.ensures.few_told (both.keeps.told told) f.bucket (found_bucket (still_table both shows h.1) f).linked in
    omega arith

pub returns-in_err-push-clause-few : goal.returns-in_err-push-clause-few
returns-in_err-push-clause-few g c = λ told.
    let shows = g.met.P.PageSpace.told_shows _ told in
    let h = c.requires.there told in
    let kept = c.in_ok-directory.ensures.kept in
    let both = reads_then kept c.in_ok-first.ensures.kept in
    let names = c.directory_of.ensures.writes.records in
    let bucket = c.bucket_at.ensures.writes.records in
    let f = first_of c.args.found h.0 h.2.numbers (c.in_ok-first.ensures.read (kept.shows shows) _ h.0 (still_trunk kept shows h.1.built.trunk) (split_below c.args.found h.0 h.1 h.2.numbers)) in
    let short = h.2.short f.bucket f.is in
    let new = c.branch-space.ensures.few_told (both.keeps.told told) f.bucket (found_bucket (still_table both shows h.1) f).linked in
    let named = c.push.ensures.few in
    omega arith

pub returns-in_err-prune-clause-few : goal.returns-in_err-prune-clause-few
returns-in_err-prune-clause-few g c = λ told.
    let shows = g.met.P.PageSpace.told_shows _ told in
    let h = c.requires.there told in
    let kept = c.in_ok-directory.ensures.kept in
    let both = reads_then kept c.in_ok-first.ensures.kept in
    let names = c.directory_of.ensures.writes.records in
    let bucket = c.bucket_at.ensures.writes.records in
    let f = first_of c.args.found h.0 h.2.numbers (c.in_ok-first.ensures.read (kept.shows shows) _ h.0 (still_trunk kept shows h.1.built.trunk) (split_below c.args.found h.0 h.1 h.2.numbers)) in
    let short = h.2.short f.bucket f.is in
    let new = c.branch-space.ensures.few_told (both.keeps.told told) f.bucket (found_bucket (still_table both shows h.1) f).linked in
    let named = c.push.ensures.few in
    let mid = (c.in_ok-new.ensures.did.keeps (both.keeps.told told)).told (both.keeps.told told) in
    let then = (c.in_ok-push.ensures.did.keeps mid).told mid in
    let is = c.in_ok-directory.ensures.read shows _ h.0 h.1.built.trunk in
    let one = branch_at both shows (both.keeps.told told) c.in_ok-new.ensures.did h.1 h.2 f in
    let q = is_next c.args.found c.grown-extent.result c.buckets-bucket.result (record { extent = c.grown-extent.result; bucket = c.buckets-bucket.result }) h.1 h.2.numbers c.requires.room refl refl c.buckets-bucket.ensures c.grown-extent.ensures.value c.grown-extent.ensures.divides in
    let two = c.in_ok-push.ensures.did.turns mid h.0.names (names_at both shows one.1 h.1 is) (can_name both shows (c.in_ok-new.ensures.did.keeps (both.keeps.told told)) one.1 short h.1 h.2 q.few (ap (λ (x : List ℕ). length x) c.write_u32.ensures.bytes) is) in
    let b = kept_at both shows h.1 f one.1 two.1 two.2 c.write_u32.ensures.bytes is in
    let gone = c.prune.ensures.few_told then f.bucket b.linked (record { once = b.once; full = b.full }) in
    omega arith

pub returns-in_err-set_root-clause-few : goal.returns-in_err-set_root-clause-few
returns-in_err-set_root-clause-few g c = λ told.
    let shows = g.met.P.PageSpace.told_shows _ told in
    let h = c.requires.there told in
    let kept = c.in_ok-directory.ensures.kept in
    let both = reads_then kept c.in_ok-first.ensures.kept in
    let names = c.directory_of.ensures.writes.records in
    let bucket = c.bucket_at.ensures.writes.records in
    let f = first_of c.args.found h.0 h.2.numbers (c.in_ok-first.ensures.read (kept.shows shows) _ h.0 (still_trunk kept shows h.1.built.trunk) (split_below c.args.found h.0 h.1 h.2.numbers)) in
    let short = h.2.short f.bucket f.is in
    let new = c.branch-space.ensures.few_told (both.keeps.told told) f.bucket (found_bucket (still_table both shows h.1) f).linked in
    let named = c.push.ensures.few in
    let mid = (c.in_ok-new.ensures.did.keeps (both.keeps.told told)).told (both.keeps.told told) in
    let then = (c.in_ok-push.ensures.did.keeps mid).told mid in
    let is = c.in_ok-directory.ensures.read shows _ h.0 h.1.built.trunk in
    let one = branch_at both shows (both.keeps.told told) c.in_ok-new.ensures.did h.1 h.2 f in
    let q = is_next c.args.found c.grown-extent.result c.buckets-bucket.result (record { extent = c.grown-extent.result; bucket = c.buckets-bucket.result }) h.1 h.2.numbers c.requires.room refl refl c.buckets-bucket.ensures c.grown-extent.ensures.value c.grown-extent.ensures.divides in
    let two = c.in_ok-push.ensures.did.turns mid h.0.names (names_at both shows one.1 h.1 is) (can_name both shows (c.in_ok-new.ensures.did.keeps (both.keeps.told told)) one.1 short h.1 h.2 q.few (ap (λ (x : List ℕ). length x) c.write_u32.ensures.bytes) is) in
    let b = kept_at both shows h.1 f one.1 two.1 two.2 c.write_u32.ensures.bytes is in
    let gone = c.prune.ensures.few_told then f.bucket b.linked (record { once = b.once; full = b.full }) in
    let end = c.set_root.ensures.few in
    omega arith

pub returns-clause-few : goal.returns-clause-few
returns-clause-few g c = λ told.
    let shows = g.met.P.PageSpace.told_shows _ told in
    let h = c.requires.there told in
    let kept = c.in_ok-directory.ensures.kept in
    let both = reads_then kept c.in_ok-first.ensures.kept in
    let names = c.directory_of.ensures.writes.records in
    let bucket = c.bucket_at.ensures.writes.records in
    let f = first_of c.args.found h.0 h.2.numbers (c.in_ok-first.ensures.read (kept.shows shows) _ h.0 (still_trunk kept shows h.1.built.trunk) (split_below c.args.found h.0 h.1 h.2.numbers)) in
    let short = h.2.short f.bucket f.is in
    let new = c.branch-space.ensures.few_told (both.keeps.told told) f.bucket (found_bucket (still_table both shows h.1) f).linked in
    let named = c.push.ensures.few in
    let mid = (c.in_ok-new.ensures.did.keeps (both.keeps.told told)).told (both.keeps.told told) in
    let then = (c.in_ok-push.ensures.did.keeps mid).told mid in
    let is = c.in_ok-directory.ensures.read shows _ h.0 h.1.built.trunk in
    let one = branch_at both shows (both.keeps.told told) c.in_ok-new.ensures.did h.1 h.2 f in
    let q = is_next c.args.found c.grown-extent.result c.buckets-bucket.result (record { extent = c.grown-extent.result; bucket = c.buckets-bucket.result }) h.1 h.2.numbers c.requires.room refl refl c.buckets-bucket.ensures c.grown-extent.ensures.value c.grown-extent.ensures.divides in
    let two = c.in_ok-push.ensures.did.turns mid h.0.names (names_at both shows one.1 h.1 is) (can_name both shows (c.in_ok-new.ensures.did.keeps (both.keeps.told told)) one.1 short h.1 h.2 q.few (ap (λ (x : List ℕ). length x) c.write_u32.ensures.bytes) is) in
    let b = kept_at both shows h.1 f one.1 two.1 two.2 c.write_u32.ensures.bytes is in
    let gone = c.prune.ensures.few_told then f.bucket b.linked (record { once = b.once; full = b.full }) in
    let end = c.set_root.ensures.few in
    omega arith

pub returns-in_err-first-clause-later : goal.returns-in_err-first-clause-later
returns-in_err-first-clause-later g c = g.met.P.PageSpace.later_then _ _ _ _ (c.directory_of.ensures.later _) (c.bucket_at.ensures.later _)

pub returns-in_err-new-clause-later : goal.returns-in_err-new-clause-later
returns-in_err-new-clause-later g c =
    let then = g.met.P.PageSpace.later_then _ in
    then _ _ _ (c.directory_of.ensures.later _) (then _ _ _ (c.bucket_at.ensures.later _) c.branch-space.ensures.later)
