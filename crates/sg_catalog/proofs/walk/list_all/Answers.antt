use Rattle.std.proofs.Common.{◌≡◌, ◌∙◌, arith, rules}
use Rattle.sg_space.specs.declared.space.ListFault.TheVariants.{Memory}
use Rattle.sg_space.proofs.Known.{reads_then}
use Rattle.sg_catalog.proofs.Parts.{still_raw}
use Rattle.sg_catalog.proofs.Walks.{next_owned, names_more, walks_on}
use Rattle.sg_catalog.proofs.walk.list_all.Goals as goal

pub gather-requires-in-pages : goal.gather-requires-in-pages
gather-requires-in-pages g c = λ told.
    let i = c.pages.invariant.walk in
    let back = i.told told in
    let h = c.requires back in
    let test = c.pages-test.true in
    let n = next_owned i (omega arith) (g.met.P.PageSpace.told_shows _ back) h.0 h.1 in
    (h.0, n.0, n.1)

pub pages-preserved : goal.pages-preserved
pages-preserved g c =
    let i = c.pages.invariant.walk in
    let test = c.pages-test.true in
    let counts = c.gather-in-pages.ensures.counts in
    record {
      walk = walks_on c.in_ok-head.head i (omega arith) counts.told counts.later c.in_ok-head.ensures.kept (λ shows d j h at. (c.in_ok-head.ensures.read shows d j h at).header) (λ shows d h at q.
          names_more d.places c.pages.counter c.pages.all.items c.gather-in-pages.new.names.items q (c.in_ok-head.ensures.read (i.kept.shows shows) d c.pages.counter (still_raw i.kept shows h.raw) at).names);
      later = λ t. g.met.P.PageSpace.later_then t _ _ _ (c.pages.invariant.later t) (c.gather-in-pages.ensures.later t);
      means = λ t m. c.gather-in-pages.ensures.means t (c.pages.invariant.means t m);
      quiet = c.in_ok-head.ensures.counts.quiet ∙ c.pages.invariant.quiet;
      records = c.gather-in-pages.ensures.writes.records ∙ c.pages.invariant.records;
    }

pub returns-in_err-head-clause-later : goal.returns-in_err-head-clause-later
returns-in_err-head-clause-later g c = λ t. g.met.P.PageSpace.later_then t _ _ _ (c.pages.invariant.later t) (c.gather-in-pages.ensures.later t)

pub returns-then-ne-clause-later : goal.returns-then-ne-clause-later
returns-then-ne-clause-later g c = λ t. g.met.P.PageSpace.later_then t _ _ _ (c.pages.invariant.later t) (c.broken-then-ne.ensures.later t)

pub returns-in_err-head-clause-memory : goal.returns-in_err-head-clause-memory
returns-in_err-head-clause-memory g c =
    let kept = λ (e : c.in_err-head.field-0.0 ≡ Memory). reads_then c.pages.invariant.walk.kept (c.in_err-head.ensures.memory e) in
    search (rules, kept)

pub returns-in_err-head-clause-quiet : goal.returns-in_err-head-clause-quiet
returns-in_err-head-clause-quiet g c =
    let quiet = λ (e : c.in_err-head.field-0.0 ≡ Memory). c.in_err-head.ensures.quiet e ∙ c.pages.invariant.quiet in
    search (rules, quiet)

pub returns-in_err-pages-clause-later : goal.returns-in_err-pages-clause-later
returns-in_err-pages-clause-later g c = λ t. g.met.P.PageSpace.later_then t _ _ _ (c.gather.ensures.later t) (c.pages_wanted.ensures.later t)

pub returns-then-eq-clause-later : goal.returns-then-eq-clause-later
returns-then-eq-clause-later g c = λ t. g.met.P.PageSpace.later_then t _ _ _ (c.pages.invariant.later t) (c.broken.ensures.later t)

pub returns-clause-later : goal.returns-clause-later
returns-clause-later g c = c.pages.invariant.later
