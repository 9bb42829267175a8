use Rattle.std.proofs.Common.{refl}
use Rattle.sg_space.proofs.Known.{reads_then}
use Rattle.sg_hash.specs.Table.{HashTable, IsHashTable}
use Rattle.sg_hash.proofs.Changing.{found_bucket}
use Rattle.sg_hash.proofs.Growing.{can_split, did_after, did_same, is_due, not_crowded, first_of, split_below, split_grown, too_long, undue_grown}
use Rattle.sg_hash.proofs.Trunks.{still_table, still_trunk}
use Rattle.sg_hash.proofs.split.grow.Goals as goal

pub read_root-requires : goal.read_root-requires
read_root-requires g c = λ told. let h = c.requires.can told in (_, h.0, h.1.built.trunk, tt)

pub bucket_at-requires : goal.bucket_at-requires
bucket_at-requires g c = λ told.
    let back = c.read_root.ensures.counts.told told in
    let shows = g.met.P.PageSpace.told_shows _ back in
    let h = c.requires.can back in
    let same = c.in_ok-found.ensures.read shows _ h.0 h.1.built.trunk in
    (_, h.0, still_trunk c.in_ok-found.ensures.kept shows h.1.built.trunk, split_below c.in_ok-found.found h.0 h.1 same)

pub pages-requires : goal.pages-requires
pages-requires g c = λ told.
    let back = c.read_root.ensures.counts.told (c.bucket_at.ensures.counts.told told) in
    let shows = g.met.P.PageSpace.told_shows _ back in
    let h = c.requires.can back in
    let kept = c.in_ok-found.ensures.kept in
    let same = c.in_ok-found.ensures.read shows _ h.0 h.1.built.trunk in
    let f = c.in_ok-first.ensures.read (kept.shows shows) _ h.0 (still_trunk kept shows h.1.built.trunk) (split_below c.in_ok-found.found h.0 h.1 same) in
    (f.bucket, found_bucket (still_table (reads_then kept c.in_ok-first.ensures.kept) shows h.1) f, tt)

pub split_next-requires-clause-room : goal.split_next-requires-clause-room
split_next-requires-clause-room g c = (c.if-not-is_crowded.ensures.yes refl).0

pub split_next-requires-clause-there : goal.split_next-requires-clause-there
split_next-requires-clause-there g c = λ told.
    let back = c.read_root.ensures.counts.told (c.bucket_at.ensures.counts.told (c.pages.ensures.counts.told told)) in
    let shows = g.met.P.PageSpace.told_shows _ back in
    let h = c.requires.can back in
    let kept = c.in_ok-found.ensures.kept in
    let both = reads_then kept c.in_ok-first.ensures.kept in
    let same = c.in_ok-found.ensures.read shows _ h.0 h.1.built.trunk in
    let f = first_of c.in_ok-found.found h.0 same (c.in_ok-first.ensures.read (kept.shows shows) _ h.0 (still_trunk kept shows h.1.built.trunk) (split_below c.in_ok-found.found h.0 h.1 same)) in
    let pages = c.in_ok-pages.ensures.read (both.shows shows) f.bucket (found_bucket (still_table both shows h.1) f) in
    let crowded = c.if-not-is_crowded.ensures.yes refl in
    let due = is_due c.in_ok-found.found h.0 h.1 same crowded.0 crowded.1 f pages c.if-pages-gt-MOST_SPLIT.false in
    let all = reads_then both c.in_ok-pages.ensures.kept in
    (h.0, still_table all shows h.1, can_split c.in_ok-found.found all shows same due h.2)

pub returns-then-not-is_crowded-clause-did : goal.returns-then-not-is_crowded-clause-did
returns-then-not-is_crowded-clause-did g c =
    did_same (λ t. g.met.P.PageSpace.told_shows _ t) c.in_ok-found.ensures.kept (λ told t h can.
    undue_grown t (not_crowded c.in_ok-found.found t h (c.in_ok-found.ensures.read (g.met.P.PageSpace.told_shows _ told) _ t h.built.trunk) (c.if-not-is_crowded.ensures.no refl)))

pub returns-then-pages-gt-MOST_SPLIT-clause-did : goal.returns-then-pages-gt-MOST_SPLIT-clause-did
returns-then-pages-gt-MOST_SPLIT-clause-did g c =
    let kept = c.in_ok-found.ensures.kept in
    let both = reads_then kept c.in_ok-first.ensures.kept in
    did_same (λ t. g.met.P.PageSpace.told_shows _ t) (reads_then both c.in_ok-pages.ensures.kept) (λ told t h can.
    let shows = g.met.P.PageSpace.told_shows _ told in
    let same = c.in_ok-found.ensures.read shows _ t h.built.trunk in
    let f = first_of c.in_ok-found.found t same (c.in_ok-first.ensures.read (kept.shows shows) _ t (still_trunk kept shows h.built.trunk) (split_below c.in_ok-found.found t h same)) in
    undue_grown t (too_long f (c.in_ok-pages.ensures.read (both.shows shows) f.bucket (found_bucket (still_table both shows h) f)) c.if-pages-gt-MOST_SPLIT.true))

pub returns-clause-did : goal.returns-clause-did
returns-clause-did g c =
    let kept = c.in_ok-found.ensures.kept in
    let both = reads_then kept c.in_ok-first.ensures.kept in
    let all = reads_then both c.in_ok-pages.ensures.kept in
    let crowded = c.if-not-is_crowded.ensures.yes refl in
    let due = λ (told : (g.P.PageSpace.view c.args.space.now).Told) (t : HashTable) (h : IsHashTable (g.P.PageSpace.view c.args.space.now).space.pages.at c.args.root.0 t).
    let shows = g.met.P.PageSpace.told_shows _ told in
    let same = c.in_ok-found.ensures.read shows _ t h.built.trunk in
    let f = first_of c.in_ok-found.found t same (c.in_ok-first.ensures.read (kept.shows shows) _ t (still_trunk kept shows h.built.trunk) (split_below c.in_ok-found.found t h same)) in
    let pages = c.in_ok-pages.ensures.read (both.shows shows) f.bucket (found_bucket (still_table both shows h) f) in
    is_due c.in_ok-found.found t h same crowded.0 crowded.1 f pages c.if-pages-gt-MOST_SPLIT.false
    in
    did_after (λ t. g.met.P.PageSpace.told_shows _ t) all c.in_ok-split_next.ensures.did
    (λ told t h can. let shows = g.met.P.PageSpace.told_shows _ told in can_split c.in_ok-found.found all shows (c.in_ok-found.ensures.read shows _ t h.built.trunk) (due told t h) can)
    (λ told t t' h can s. split_grown (due told t h) s)

pub returns-in_err-first-clause-later : goal.returns-in_err-first-clause-later
returns-in_err-first-clause-later g c = g.met.P.PageSpace.later_then _ _ _ _ (c.read_root.ensures.later _) (c.bucket_at.ensures.later _)

pub returns-in_err-pages-clause-later : goal.returns-in_err-pages-clause-later
returns-in_err-pages-clause-later g c =
    let then = g.met.P.PageSpace.later_then _ in
    then _ _ _ (c.read_root.ensures.later _) (then _ _ _ (c.bucket_at.ensures.later _) (c.pages.ensures.later _))

pub returns-then-pages-gt-MOST_SPLIT-clause-later : goal.returns-then-pages-gt-MOST_SPLIT-clause-later
returns-then-pages-gt-MOST_SPLIT-clause-later g c =
    let then = g.met.P.PageSpace.later_then _ in
    then _ _ _ (c.read_root.ensures.later _) (then _ _ _ (c.bucket_at.ensures.later _) (c.pages.ensures.later _))

pub returns-in_err-split_next-clause-later : goal.returns-in_err-split_next-clause-later
returns-in_err-split_next-clause-later g c =
    let then = g.met.P.PageSpace.later_then _ in
    then _ _ _ (c.read_root.ensures.later _) (then _ _ _ (c.bucket_at.ensures.later _) (then _ _ _ (c.pages.ensures.later _) c.split_next.ensures.later))

pub returns-clause-later : goal.returns-clause-later
returns-clause-later g c =
    let then = g.met.P.PageSpace.later_then _ in
    then _ _ _ (c.read_root.ensures.later _) (then _ _ _ (c.bucket_at.ensures.later _) (then _ _ _ (c.pages.ensures.later _) c.split_next.ensures.later))
