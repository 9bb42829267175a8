use Rattle.std.proofs.Common.{◌∙◌}
use Rattle.sg_hash.proofs.Changing.{found_bucket, own_value}
use Rattle.sg_hash.proofs.Trunks.{still_table}
use Rattle.sg_hash.proofs.table.find.Goals as goal

pub read_root-requires : goal.read_root-requires
read_root-requires g c = λ told. let h = c.requires.there told in (_, h.0, h.1.built.trunk, tt)

pub bucket_of-requires : goal.bucket_of-requires
bucket_of-requires g c = λ told.
    let back = c.read_root.ensures.counts.told told in
    let shows = g.met.P.PageSpace.told_shows _ back in
    let h = c.requires.there back in
    (h.0, still_table c.in_ok-found.ensures.kept shows h.1, c.in_ok-found.ensures.read shows _ h.0 h.1.built.trunk)

pub find-requires-clause-there : goal.find-requires-clause-there
find-requires-clause-there g c = λ told.
    let mid = c.bucket_of.ensures.counts.told told in
    let back = c.read_root.ensures.counts.told mid in
    let shows = g.met.P.PageSpace.told_shows _ back in
    let h = c.requires.there back in
    let kept = c.in_ok-found.ensures.kept in
    let table = still_table kept shows h.1 in
    let first = c.in_ok-first.ensures.read (kept.shows shows) h.0 table (c.in_ok-found.ensures.read shows _ h.0 h.1.built.trunk) in
    (first.bucket, found_bucket (still_table c.in_ok-first.ensures.kept (kept.shows shows) table) first, tt)

pub returns-clause-read : goal.returns-clause-read
returns-clause-read g c = λ shows t h.
    let kept = c.in_ok-found.ensures.kept in
    let table = still_table kept shows h in
    let first = c.in_ok-first.ensures.read (kept.shows shows) t table (c.in_ok-found.ensures.read shows _ t h.built.trunk) in
    let both = c.in_ok-first.ensures.kept in
    own_value c.args.key.now h first ∙ c.in_ok-value.ensures.read (both.shows (kept.shows shows)) first.bucket (found_bucket (still_table both (kept.shows shows) table) first)

pub returns-clause-later : goal.returns-clause-later
returns-clause-later g c = λ t.
    let then = g.met.P.PageSpace.later_then t in
    then _ _ _ (c.read_root.ensures.later t) (then _ _ _ (c.bucket_of.ensures.later t) (c.find.ensures.later t))

pub returns-in_err-first-clause-later : goal.returns-in_err-first-clause-later
returns-in_err-first-clause-later g c = λ t. g.met.P.PageSpace.later_then t _ _ _ (c.read_root.ensures.later t) (c.bucket_of.ensures.later t)

pub returns-in_err-value-clause-later : goal.returns-in_err-value-clause-later
returns-in_err-value-clause-later g c = λ t.
    let then = g.met.P.PageSpace.later_then t in
    then _ _ _ (c.read_root.ensures.later t) (then _ _ _ (c.bucket_of.ensures.later t) (c.find.ensures.later t))
