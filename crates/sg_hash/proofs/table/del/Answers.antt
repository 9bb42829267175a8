use Rattle.std.proofs.Common.{ℕ, Bool, [], length, Option, is_some, refl, ap, subst, ◌∙◌}
use Rattle.sg_hash.specs.Calls.{Did, IsDeleted}
use Rattle.sg_hash.specs.Table.{HashTable, IsHashTable, Numbers, home_of, numbers_of}
use Rattle.sg_hash.specs.Steps.{IsUncounted, numbers_in}
use Rattle.sg_hash.proofs.Calling.{did_delete, same_rewrites, same_counts, del_fits}
use Rattle.sg_hash.proofs.Changing.{AreCounted, counted, found_bucket, root_there, del_numbers}
use Rattle.sg_hash.proofs.Trunks.{still_table}
use Rattle.sg_space.proofs.Known.{reads_then, keeps_same}
use Rattle.sg_hash.proofs.table.del.Goals as goal

pub read_root-requires : goal.read_root-requires
read_root-requires g c = λ told. let h = c.requires.there told in (_, h.0, h.1.built.trunk, tt)

pub bucket_of-requires : goal.bucket_of-requires
bucket_of-requires g c = λ told.
    let back = c.read_root.ensures.counts.told told in
    let shows = g.met.P.PageSpace.told_shows _ back in
    let h = c.requires.there back in
    (h.0, still_table c.in_ok-found.ensures.kept shows h.1, c.in_ok-found.ensures.read shows _ h.0 h.1.built.trunk)

pub del-requires-clause-can : goal.del-requires-clause-can
del-requires-clause-can g c = λ told.
    let mid = c.bucket_of.ensures.counts.told told in
    let back = c.read_root.ensures.counts.told mid in
    let shows = g.met.P.PageSpace.told_shows _ back in
    let h = c.requires.there back in
    let kept = c.in_ok-found.ensures.kept in
    let both = reads_then kept c.in_ok-first.ensures.kept in
    let first = c.in_ok-first.ensures.read (kept.shows shows) h.0 (still_table kept shows h.1) (c.in_ok-found.ensures.read shows _ h.0 h.1.built.trunk) in
    let b = found_bucket (still_table both shows h.1) first in
    (first.bucket, b.linked, record { once = b.once; full = b.full })

pub set_root-requires-clause-can : goal.set_root-requires-clause-can
set_root-requires-clause-can g c = λ told.
    let last = c.del.ensures.counts.told told in
    let mid = c.bucket_of.ensures.counts.told last in
    let back = c.read_root.ensures.counts.told mid in
    let shows = g.met.P.PageSpace.told_shows _ back in
    let h = c.requires.there back in
    let kept = c.in_ok-found.ensures.kept in
    let both = reads_then kept c.in_ok-first.ensures.kept in
    let first = c.in_ok-first.ensures.read (kept.shows shows) h.0 (still_table kept shows h.1) (c.in_ok-found.ensures.read shows _ h.0 h.1.built.trunk) in
    let now = still_table both shows h.1 in
    let b = found_bucket now first in
    let one = c.in_ok-del.ensures.did.turns last first.bucket b.linked (record { once = b.once; full = b.full }) in
    record { numbers = numbers_of h.0; directory = h.0.directory; page = root_there now first one.1 }

pub broken-requires : goal.broken-requires
broken-requires g c = λ told.
    let last = c.del.ensures.counts.told told in
    let mid = c.bucket_of.ensures.counts.told last in
    let back = c.read_root.ensures.counts.told mid in
    let shows = g.met.P.PageSpace.told_shows _ back in
    let h = c.requires.there back in
    let kept = c.in_ok-found.ensures.kept in
    let both = reads_then kept c.in_ok-first.ensures.kept in
    let is = c.in_ok-found.ensures.read shows _ h.0 h.1.built.trunk in
    let first = c.in_ok-first.ensures.read (kept.shows shows) h.0 (still_table kept shows h.1) is in
    let now = still_table both shows h.1 in
    let b = found_bucket now first in
    let one = c.in_ok-del.ensures.did.turns last first.bucket b.linked (record { once = b.once; full = b.full }) in
    let are = counted h.0.buckets (home_of h.0.shape c.args.key.now) first.is one.2.entries in
    let fits = del_fits h.0 c.in-Some.is (ap (λ (n : Numbers). n.entries) is) (ap (λ (n : Numbers). n.bytes) is) are in
    let some = c.in-None-without_entry.ensures.all fits.0 fits.1 in
    (cc)

pub returns-in-None-clause-did : goal.returns-in-None-clause-did
returns-in-None-clause-did g c =
    let kept = c.in_ok-found.ensures.kept in
    subst (λ (b : Bool). Did (g.P.PageSpace.view c.args.space.now) (g.P.PageSpace.view c.del.new.space) c.args.root.0 (λ _. Unit {0}) (IsDeleted c.args.key.now b)) (ap is_some c.in-None.is)
    (did_delete numbers_of (λ t. g.met.P.PageSpace.told_shows _ t) (reads_then kept c.in_ok-first.ensures.kept) c.in_ok-del.ensures.did (λ _. keeps_same) (λ _. refl) (λ told t e. same_rewrites (g.P.PageSpace.view c.del.new.space) e)
    (λ shows t h. c.in_ok-first.ensures.read (kept.shows shows) t (still_table kept shows h) (c.in_ok-found.ensures.read shows _ t h.built.trunk))
    (λ told t h. h.built.trunk.range)
    (λ told t h cs are. same_counts c.in-None.is are)
    (λ told t h. refl))

pub returns-in_ok-set_root-in-Some-without_entry-clause-did : goal.returns-in_ok-set_root-in-Some-without_entry-clause-did
returns-in_ok-set_root-in-Some-without_entry-clause-did g c =
    let kept = c.in_ok-found.ensures.kept in
    let set = c.in_ok-set_root-in-Some-without_entry.ensures in
    let same = λ (shows : (g.P.PageSpace.view c.args.space.now).Shows) (t : HashTable) (h : IsHashTable (g.P.PageSpace.view c.args.space.now).space.pages.at c.args.root.0 t). c.in_ok-found.ensures.read shows (numbers_of t) t h.built.trunk in
    subst (λ (b : Bool). Did (g.P.PageSpace.view c.args.space.now) (g.P.PageSpace.view c.set_root.new.space) c.args.root.0 (λ _. Unit {0}) (IsDeleted c.args.key.now b)) (ap is_some c.in-Some.is)
    (did_delete (λ _. numbers_in c.in-Some-without_entry.numbers) (λ t. g.met.P.PageSpace.told_shows _ t) (reads_then kept c.in_ok-first.ensures.kept) c.in_ok-del.ensures.did set.did.keeps set.did.bands (λ told t e. set.did.pages told (numbers_of t) t.directory e)
    (λ shows t h. c.in_ok-first.ensures.read (kept.shows shows) t (still_table kept shows h) (same shows t h))
    (λ told t h. set.did.range)
    (λ told t h cs are. del_numbers (subst (λ (o : Option ℕ). AreCounted c.args.key.now o [] t.buckets cs) c.in-Some.is are) (subst (λ (r : Numbers). IsUncounted (length c.args.key.now) c.in-Some.value r (numbers_in c.in-Some-without_entry.numbers)) (same (g.met.P.PageSpace.told_shows _ told) t h) c.in-Some-without_entry.ensures.counted))
    (λ told t h. c.in-Some-without_entry.ensures.counted.peak ∙ ap (λ (r : Numbers). r.peak) (same (g.met.P.PageSpace.told_shows _ told) t h)))

pub returns-in_err-first-clause-later : goal.returns-in_err-first-clause-later
returns-in_err-first-clause-later g c = g.met.P.PageSpace.later_then _ _ _ _ (c.read_root.ensures.later _) (c.bucket_of.ensures.later _)

pub returns-in_err-del-clause-later : goal.returns-in_err-del-clause-later
returns-in_err-del-clause-later g c =
    let then = g.met.P.PageSpace.later_then _ in
    then _ _ _ (c.read_root.ensures.later _) (then _ _ _ (c.bucket_of.ensures.later _) c.del.ensures.later)

pub returns-in-None-clause-later : goal.returns-in-None-clause-later
returns-in-None-clause-later g c =
    let then = g.met.P.PageSpace.later_then _ in
    then _ _ _ (c.read_root.ensures.later _) (then _ _ _ (c.bucket_of.ensures.later _) c.del.ensures.later)

pub returns-in_err-set_root-in-Some-without_entry-clause-later : goal.returns-in_err-set_root-in-Some-without_entry-clause-later
returns-in_err-set_root-in-Some-without_entry-clause-later g c =
    let then = g.met.P.PageSpace.later_then _ in
    then _ _ _ (c.read_root.ensures.later _) (then _ _ _ (c.bucket_of.ensures.later _) (then _ _ _ c.del.ensures.later c.set_root.ensures.later))

pub returns-in_ok-set_root-in-Some-without_entry-clause-later : goal.returns-in_ok-set_root-in-Some-without_entry-clause-later
returns-in_ok-set_root-in-Some-without_entry-clause-later g c =
    let then = g.met.P.PageSpace.later_then _ in
    then _ _ _ (c.read_root.ensures.later _) (then _ _ _ (c.bucket_of.ensures.later _) (then _ _ _ c.del.ensures.later c.set_root.ensures.later))

pub returns-in-None-without_entry-clause-later : goal.returns-in-None-without_entry-clause-later
returns-in-None-without_entry-clause-later g c =
    let then = g.met.P.PageSpace.later_then _ in
    then _ _ _ (c.read_root.ensures.later _) (then _ _ _ (c.bucket_of.ensures.later _) (then _ _ _ c.del.ensures.later (c.broken.ensures.later _)))
