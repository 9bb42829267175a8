use Rattle.std.proofs.Common.{◌≡◌, Bool, true, false, not, length, is_none, ap, subst, arith}
use Rattle.sg_hash.specs.Table.{Numbers, home_of, numbers_of}
use Rattle.sg_hash.specs.Steps.{DidEnter, IsCounted, numbers_in}
use Rattle.sg_hash.proofs.Calling.{can_enter, did_enter, put_fits}
use Rattle.sg_hash.proofs.Changing.{counted, found_bucket, root_there}
use Rattle.sg_hash.proofs.Entries.{few_entries}
use Rattle.sg_hash.proofs.Trunks.{still_table}
use Rattle.sg_space.proofs.Known.{reads_then}
use Rattle.sg_hash.proofs.table.enter.Goals as goal

flip : (a b : Bool) → a ≡ not b → not a ≡ b
flip a true e = ap not e
flip a false e = ap not e

pub read_root-requires : goal.read_root-requires
read_root-requires g c = λ told. let h = c.requires.there told in (_, h.0, h.1.built.trunk, tt)

pub bucket_of-requires : goal.bucket_of-requires
bucket_of-requires g c = λ told.
    let back = c.read_root.ensures.counts.told told in
    let shows = g.met.P.PageSpace.told_shows _ back in
    let h = c.requires.there back in
    (h.0, still_table c.in_ok-found.ensures.kept shows h.1, c.in_ok-found.ensures.read shows _ h.0 h.1.built.trunk)

pub put-requires-clause-there : goal.put-requires-clause-there
put-requires-clause-there g c = λ told.
    let mid = c.bucket_of.ensures.counts.told told in
    let back = c.read_root.ensures.counts.told mid in
    let shows = g.met.P.PageSpace.told_shows _ back in
    let h = c.requires.there back in
    let kept = c.in_ok-found.ensures.kept in
    let both = reads_then kept c.in_ok-first.ensures.kept in
    let table = still_table kept shows h.1 in
    let first = c.in_ok-first.ensures.read (kept.shows shows) h.0 table (c.in_ok-found.ensures.read shows _ h.0 h.1.built.trunk) in
    (first.bucket, (found_bucket (still_table both shows h.1) first).linked, can_enter both shows h.1 h.2 first)

pub set_root-requires-clause-can : goal.set_root-requires-clause-can
set_root-requires-clause-can g c = λ told.
    let last = c.put.ensures.counts.told told in
    let mid = c.bucket_of.ensures.counts.told last in
    let back = c.read_root.ensures.counts.told mid in
    let shows = g.met.P.PageSpace.told_shows _ back in
    let h = c.requires.there back in
    let kept = c.in_ok-found.ensures.kept in
    let both = reads_then kept c.in_ok-first.ensures.kept in
    let table = still_table kept shows h.1 in
    let first = c.in_ok-first.ensures.read (kept.shows shows) h.0 table (c.in_ok-found.ensures.read shows _ h.0 h.1.built.trunk) in
    let now = still_table both shows h.1 in
    let one = c.in_ok-old.ensures.did.did.turns last first.bucket (found_bucket now first).linked (can_enter both shows h.1 h.2 first) in
    record { numbers = numbers_of h.0; directory = h.0.directory; page = root_there now first one.1 }

pub broken-requires : goal.broken-requires
broken-requires g c = λ told.
    let last = c.put.ensures.counts.told told in
    let mid = c.bucket_of.ensures.counts.told last in
    let back = c.read_root.ensures.counts.told mid in
    let shows = g.met.P.PageSpace.told_shows _ back in
    let h = c.requires.there back in
    let kept = c.in_ok-found.ensures.kept in
    let both = reads_then kept c.in_ok-first.ensures.kept in
    let table = still_table kept shows h.1 in
    let is = c.in_ok-found.ensures.read shows _ h.0 h.1.built.trunk in
    let first = c.in_ok-first.ensures.read (kept.shows shows) h.0 table is in
    let now = still_table both shows h.1 in
    let one = c.in_ok-old.ensures.did.did.turns last first.bucket (found_bucket now first).linked (can_enter both shows h.1 h.2 first) in
    let are = counted h.0.buckets (home_of h.0.shape c.args.key.now) first.is one.2.entries in
    let pages = g.met.P.PageSpace.few_pages _ back in
    let entries = few_entries h.0 (g.met.P.PageSpace.pages_exact _ back) (g.met.P.PageSpace.pages_fit _ back) h.1.built in
    let fits = put_fits h.1 (ap (λ (n : Numbers). n.entries) is) (ap (λ (n : Numbers). n.bytes) is) (omega arith) are in
    let some = c.in-None.ensures.all fits.0 fits.1.0 fits.1.1 in
    (cc)

pub returns-in_ok-set_root-in-Some-clause-did : goal.returns-in_ok-set_root-in-Some-clause-did
returns-in_ok-set_root-in-Some-clause-did g c =
    let kept = c.in_ok-found.ensures.kept in
    let set = c.in_ok-set_root-in-Some.ensures.did in
    let same : is_none c.in_ok-old.old ≡ c.is_none.result = flip _ _ c.is_none.ensures in
    subst (λ (b : Bool). DidEnter (g.P.PageSpace.view c.args.space.now) (g.P.PageSpace.view c.set_root.new.space) c.args.root.0 c.args.key.now c.args.value.now c.args.split b) same
    (did_enter (λ t. g.met.P.PageSpace.told_shows _ t) (reads_then kept c.in_ok-first.ensures.kept) c.in_ok-old.ensures.did set set.range
    (λ shows t h. c.in_ok-first.ensures.read (kept.shows shows) t (still_table kept shows h) (c.in_ok-found.ensures.read shows _ t h.built.trunk))
    (λ told t h. subst (λ (r : Numbers). IsCounted (length c.args.key.now) (length c.args.value.now) c.in_ok-old.old c.args.split r (numbers_in c.in-Some.numbers)) (c.in_ok-found.ensures.read (g.met.P.PageSpace.told_shows _ told) _ t h.built.trunk) c.in-Some.ensures.counted))

pub returns-in_err-first-clause-later : goal.returns-in_err-first-clause-later
returns-in_err-first-clause-later g c = g.met.P.PageSpace.later_then _ _ _ _ (c.read_root.ensures.later _) (c.bucket_of.ensures.later _)

pub returns-in_err-old-clause-later : goal.returns-in_err-old-clause-later
returns-in_err-old-clause-later g c =
    let then = g.met.P.PageSpace.later_then _ in
    then _ _ _ (c.read_root.ensures.later _) (then _ _ _ (c.bucket_of.ensures.later _) c.put.ensures.later)

pub returns-in_err-set_root-in-Some-clause-later : goal.returns-in_err-set_root-in-Some-clause-later
returns-in_err-set_root-in-Some-clause-later g c =
    let then = g.met.P.PageSpace.later_then _ in
    then _ _ _ (c.read_root.ensures.later _) (then _ _ _ (c.bucket_of.ensures.later _) (then _ _ _ c.put.ensures.later c.set_root.ensures.later))

pub returns-in_ok-set_root-in-Some-clause-later : goal.returns-in_ok-set_root-in-Some-clause-later
returns-in_ok-set_root-in-Some-clause-later g c =
    let then = g.met.P.PageSpace.later_then _ in
    then _ _ _ (c.read_root.ensures.later _) (then _ _ _ (c.bucket_of.ensures.later _) (then _ _ _ c.put.ensures.later c.set_root.ensures.later))

pub returns-in-None-clause-later : goal.returns-in-None-clause-later
returns-in-None-clause-later g c =
    let then = g.met.P.PageSpace.later_then _ in
    then _ _ _ (c.read_root.ensures.later _) (then _ _ _ (c.bucket_of.ensures.later _) (then _ _ _ c.put.ensures.later (c.broken.ensures.later _)))
