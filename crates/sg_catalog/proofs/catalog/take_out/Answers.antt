use Rattle.std.proofs.Common.{Some, refl, sym, ap, ◌∙◌}
use Rattle.sg_catalog.specs.Look.{fits}
use Rattle.sg_catalog.proofs.Parts.{still_catalog}
use Rattle.sg_catalog.proofs.Rows.{nothing_found, row_found, not_nothing, found_some, row_there, less_turns, one_less}
use Rattle.sg_catalog.proofs.Turned.{after_reads}
use Rattle.sg_catalog.proofs.catalog.take_out.Goals as goal

pub broken-requires : goal.broken-requires
broken-requires g c = λ told.
    let back = c.search.ensures.counts.told told in
    let h = c.requires.can back in
    not_nothing (fits c.args.wanted.now) h.0 h.2 (nothing_found (fits c.args.wanted.now) h.0 c.in_ok-sought.sought c.in_default.is (c.in_ok-sought.ensures.read (g.met.P.PageSpace.told_shows _ back) h.0 h.1))

pub clear_row-requires-clause-can : goal.clear_row-requires-clause-can
clear_row-requires-clause-can g c = λ told.
    let back = c.search.ensures.counts.told told in
    let shows = g.met.P.PageSpace.told_shows _ back in
    let h = c.requires.can back in
    let f = row_found (fits c.args.wanted.now) h.0 c.in_ok-sought.sought c.in-Some.found c.in-Some.is (c.in_ok-sought.ensures.read shows h.0 h.1) in
    (h.0, (still_catalog c.in_ok-sought.ensures.kept shows h.1).raw, f.place, row_there f)

pub returns-clause-did : goal.returns-clause-did
returns-clause-did g c =
    let k = c.in_ok-sought.ensures.kept in
    let cleared = c.in_ok-clear_row.ensures in
    record {
      told = λ t. cleared.keeps.told (k.keeps.told t);
      may_take = λ t h. cleared.keeps.may_take (k.keeps.may_take h);
      may_have = λ t d h page slots no_owner may.
          let shows = g.met.P.PageSpace.told_shows _ t in
          let f = row_found (fits c.args.wanted.now) d c.in_ok-sought.sought c.in-Some.found c.in-Some.is (c.in_ok-sought.ensures.read shows d h) in
          cleared.keeps.may_have page slots (λ same. no_owner (f.is_place.index, f.is_place.page ∙ ap Some (sym same))) (k.keeps.may_have page slots may);
      turns = λ t d h can.
          let shows = g.met.P.PageSpace.told_shows _ t in
          let f = row_found (fits c.args.wanted.now) d c.in_ok-sought.sought c.in-Some.found c.in-Some.is (c.in_ok-sought.ensures.read shows d h) in
          let one = cleared.did.turns (k.keeps.told t) d f.place (still_catalog k shows h).raw (row_there f) in (
            _,
            less_turns f.place c.in-Some.found.row h f.row (after_reads k shows one),
            record { row = c.in-Some.found.row; was = f.first; rows_are = one_less d f.place c.in-Some.found.row f.row; peak = refl; pages = refl },
          );
    }

pub returns-clause-within : goal.returns-clause-within
returns-clause-within g c = λ shows d h. found_some (fits c.args.wanted.now) d c.in-Some.found (row_found (fits c.args.wanted.now) d c.in_ok-sought.sought c.in-Some.found c.in-Some.is (c.in_ok-sought.ensures.read shows d h))

pub returns-in_err-clear_row-clause-later : goal.returns-in_err-clear_row-clause-later
returns-in_err-clear_row-clause-later g c = g.met.P.PageSpace.later_then _ _ _ _ (c.search.ensures.later _) c.clear_row.ensures.later

pub returns-clause-later : goal.returns-clause-later
returns-clause-later g c = g.met.P.PageSpace.later_then _ _ _ _ (c.search.ensures.later _) c.clear_row.ensures.later

pub returns-in_default-clause-later : goal.returns-in_default-clause-later
returns-in_default-clause-later g c = g.met.P.PageSpace.later_then _ _ _ _ (c.search.ensures.later _) (c.broken.ensures.later _)
