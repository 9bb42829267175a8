use Rattle.std.proofs.Common.{IsSome, refl, sym, ap, subst, arith}
use Rattle.sg_space.proofs.Known.{reads_then}
use Rattle.sg_space.specs.View.{Space}
use Rattle.sg_hash.proofs.Entries.{few_buckets}
use Rattle.sg_hash.proofs.Freeing.{all_buckets, array_left, gone_calls, root_left}
use Rattle.sg_hash.proofs.Trunks.{still_table, still_trunk}
use Rattle.sg_hash.proofs.free.free_all.Goals as goal

pub read_root-requires : goal.read_root-requires
read_root-requires g c = λ told. let h = c.requires told in (_, h.0, h.1.built.trunk, tt)

pub broken-requires : goal.broken-requires
broken-requires g c = λ told.
    let back = c.read_root.ensures.counts.told told in
    let shows = g.met.P.PageSpace.told_shows _ back in
    let h = c.requires back in
    let now = still_table c.in_ok-found.ensures.kept shows h.1 in
    let many = all_buckets c.in_ok-found.found h.1 (c.in_ok-found.ensures.read shows _ h.0 h.1.built.trunk) c.buckets-count.ensures in
    let few = few_buckets h.0 (g.met.P.PageSpace.pages_exact _ told) now.built in
    let there = c.pages.ensures in
    let test = c.if-count-pages.true in
    omega arith

pub directory_of-requires : goal.directory_of-requires
directory_of-requires g c = λ told.
    let back = c.read_root.ensures.counts.told told in
    let shows = g.met.P.PageSpace.told_shows _ back in
    let h = c.requires back in
    (_, h.0, still_trunk c.in_ok-found.ensures.kept shows h.1.built.trunk, tt)

pub free_buckets-requires : goal.free_buckets-requires
free_buckets-requires g c = λ told.
    let mid = c.directory_of.ensures.counts.told told in
    let back = c.read_root.ensures.counts.told mid in
    let shows = g.met.P.PageSpace.told_shows _ back in
    let h = c.requires back in
    let both = reads_then c.in_ok-found.ensures.kept c.in_ok-directory.ensures.kept in
    let same = c.in_ok-found.ensures.read shows _ h.0 h.1.built.trunk in
    (h.0, still_table both shows h.1, all_buckets c.in_ok-found.found h.1 same c.buckets-count.ensures)

pub free_all-requires : goal.free_all-requires
free_all-requires g c = λ told.
    let last = c.free_buckets.ensures.counts.told told in
    let mid = c.directory_of.ensures.counts.told last in
    let back = c.read_root.ensures.counts.told mid in
    let shows = g.met.P.PageSpace.told_shows _ back in
    let h = c.requires back in
    let kept = c.in_ok-found.ensures.kept in
    let both = reads_then kept c.in_ok-directory.ensures.kept in
    let is = c.in_ok-directory.ensures.read (kept.shows shows) _ h.0 (still_trunk kept shows h.1.built.trunk) in
    let now = still_table both shows h.1 in
    (h.0.names, array_left now.built (c.in_ok-free_buckets.ensures.did.freed last h.0 now) is, tt)

pub free_page-requires : goal.free_page-requires
free_page-requires g c = λ told.
    let end = c.free_all.ensures.counts.told told in
    let last = c.free_buckets.ensures.counts.told end in
    let mid = c.directory_of.ensures.counts.told last in
    let back = c.read_root.ensures.counts.told mid in
    let shows = g.met.P.PageSpace.told_shows _ back in
    let h = c.requires back in
    let kept = c.in_ok-found.ensures.kept in
    let both = reads_then kept c.in_ok-directory.ensures.kept in
    let is = c.in_ok-directory.ensures.read (kept.shows shows) _ h.0 (still_trunk kept shows h.1.built.trunk) in
    let now = still_table both shows h.1 in
    let freed = c.in_ok-free_buckets.ensures.did.freed last h.0 now in
    let gone = c.in_ok-free_all.ensures.did.gone end h.0.names (array_left now.built freed is) in
    subst IsSome (sym (root_left now.built freed is gone)) refl

pub returns-clause-did : goal.returns-clause-did
returns-clause-did g c =
    let kept = c.in_ok-found.ensures.kept in
    let both = reads_then kept c.in_ok-directory.ensures.kept in
    let one = c.in_ok-free_buckets.ensures.did in
    let two = c.in_ok-free_all.ensures.did in
    let three = c.in_ok-free_page.ensures.did in
    gone_calls (λ t. g.met.P.PageSpace.told_shows _ t) both one two three
    (λ shows t h. c.in_ok-directory.ensures.read (kept.shows shows) _ t (still_trunk kept shows h.built.trunk))
    (λ shows t h. all_buckets c.in_ok-found.found h (c.in_ok-found.ensures.read shows _ t h.built.trunk) c.buckets-count.ensures)

pub returns-in_err-free_all-clause-later : goal.returns-in_err-free_all-clause-later
returns-in_err-free_all-clause-later g c = λ t.
    let then = g.met.P.PageSpace.later_then t in
    then _ _ _ (c.read_root.ensures.later t) (then _ _ _ (c.directory_of.ensures.later t) (then _ _ _ (c.free_buckets.ensures.later t) (c.free_all.ensures.later t)))

pub returns-in_err-free_page-clause-later : goal.returns-in_err-free_page-clause-later
returns-in_err-free_page-clause-later g c = λ t.
    let then = g.met.P.PageSpace.later_then t in
    then _ _ _ (c.read_root.ensures.later t) (then _ _ _ (c.directory_of.ensures.later t) (then _ _ _ (c.free_buckets.ensures.later t) (then _ _ _ (c.free_all.ensures.later t) (c.free_page.ensures.later t))))

pub returns-clause-later : goal.returns-clause-later
returns-clause-later g c = λ t.
    let then = g.met.P.PageSpace.later_then t in
    then _ _ _ (c.read_root.ensures.later t) (then _ _ _ (c.directory_of.ensures.later t) (then _ _ _ (c.free_buckets.ensures.later t) (then _ _ _ (c.free_all.ensures.later t) (c.free_page.ensures.later t))))

pub returns-in_err-free_buckets-clause-few : goal.returns-in_err-free_buckets-clause-few
returns-in_err-free_buckets-clause-few g c = λ told.
    let shows = g.met.P.PageSpace.told_shows _ told in
    let both = reads_then c.in_ok-found.ensures.kept c.in_ok-directory.ensures.kept in
    let same = ap (λ (s : Space). s.pages.count) (both.same shows) in
    let root = c.read_root.ensures.writes.records in
    let names = c.directory_of.ensures.writes.records in
    let buckets = c.free_buckets.ensures.few (both.keeps.told told) in
    omega arith

pub returns-in_err-free_all-clause-few : goal.returns-in_err-free_all-clause-few
returns-in_err-free_all-clause-few g c = λ told.
    let shows = g.met.P.PageSpace.told_shows _ told in
    let both = reads_then c.in_ok-found.ensures.kept c.in_ok-directory.ensures.kept in
    let same = ap (λ (s : Space). s.pages.count) (both.same shows) in
    let root = c.read_root.ensures.writes.records in
    let names = c.directory_of.ensures.writes.records in
    let buckets = c.free_buckets.ensures.few (both.keeps.told told) in
    let directory = c.free_all.ensures.few in
    omega arith

pub returns-in_err-free_page-clause-few : goal.returns-in_err-free_page-clause-few
returns-in_err-free_page-clause-few g c = λ told.
    let shows = g.met.P.PageSpace.told_shows _ told in
    let both = reads_then c.in_ok-found.ensures.kept c.in_ok-directory.ensures.kept in
    let same = ap (λ (s : Space). s.pages.count) (both.same shows) in
    let root = c.read_root.ensures.writes.records in
    let names = c.directory_of.ensures.writes.records in
    let buckets = c.free_buckets.ensures.few (both.keeps.told told) in
    let directory = c.free_all.ensures.few in
    let last = c.free_page.ensures.few in
    omega arith

pub returns-clause-few : goal.returns-clause-few
returns-clause-few g c = λ told.
    let shows = g.met.P.PageSpace.told_shows _ told in
    let both = reads_then c.in_ok-found.ensures.kept c.in_ok-directory.ensures.kept in
    let same = ap (λ (s : Space). s.pages.count) (both.same shows) in
    let root = c.read_root.ensures.writes.records in
    let names = c.directory_of.ensures.writes.records in
    let buckets = c.free_buckets.ensures.few (both.keeps.told told) in
    let directory = c.free_all.ensures.few in
    let last = c.free_page.ensures.few in
    omega arith

pub returns-then-count-pages-clause-later : goal.returns-then-count-pages-clause-later
returns-then-count-pages-clause-later g c = λ t. g.met.P.PageSpace.later_then t _ _ _ (c.read_root.ensures.later t) (c.broken.ensures.later t)

pub returns-in_err-directory-clause-later : goal.returns-in_err-directory-clause-later
returns-in_err-directory-clause-later g c = λ t. g.met.P.PageSpace.later_then t _ _ _ (c.read_root.ensures.later t) (c.directory_of.ensures.later t)

pub returns-in_err-free_buckets-clause-later : goal.returns-in_err-free_buckets-clause-later
returns-in_err-free_buckets-clause-later g c = λ t.
    let then = g.met.P.PageSpace.later_then t in
    then _ _ _ (c.read_root.ensures.later t) (then _ _ _ (c.directory_of.ensures.later t) (c.free_buckets.ensures.later t))
