use Rattle.std.proofs.Common.{refl}
use Rattle.sg_space.proofs.Known.{keeps_then}
use Rattle.sg_catalog.specs.Calls.{tomb_by}
use Rattle.sg_catalog.specs.Catalog.{is_there}
use Rattle.sg_catalog.proofs.Maps.{buried_is}
use Rattle.sg_catalog.proofs.Parts.{still_catalog}
use Rattle.sg_catalog.proofs.Rows.{nothing_found, row_found, not_nothing, found_some, row_of_there, buried_turns, in_place}
use Rattle.sg_catalog.proofs.Turned.{after_reads}
use Rattle.sg_catalog.proofs.catalog.bury.Goals as goal

pub broken-requires : goal.broken-requires
broken-requires g c = λ told.
    let back = c.search.ensures.counts.told told in
    let h = c.requires.can back in
    not_nothing (is_there c.args.name) h.0 h.2 (nothing_found (is_there c.args.name) h.0 c.in_ok-sought.sought c.in_default.is (c.in_ok-sought.ensures.read (g.met.P.PageSpace.told_shows _ back) h.0 h.1))

pub set_row-requires-clause-can : goal.set_row-requires-clause-can
set_row-requires-clause-can g c = λ told.
    let back = c.search.ensures.counts.told told in
    let shows = g.met.P.PageSpace.told_shows _ back in
    let h = c.requires.can back in
    let f = row_found (is_there c.args.name) h.0 c.in_ok-sought.sought c.in-Some.found c.in-Some.is (c.in_ok-sought.ensures.read shows h.0 h.1) in
    (h.0, (still_catalog c.in_ok-sought.ensures.kept shows h.1).raw, f.place, row_of_there f)

pub returns-clause-did : goal.returns-clause-did
returns-clause-did g c =
    let k = c.in_ok-sought.ensures.kept in
    let set = c.in_ok-set_row.ensures in
    record {
      keeps = λ t. keeps_then k.keeps (set.keeps (k.keeps.told t));
      turns = λ t d h can.
          let shows = g.met.P.PageSpace.told_shows _ t in
          let f = row_found (is_there c.args.name) d c.in_ok-sought.sought c.in-Some.found c.in-Some.is (c.in_ok-sought.ensures.read shows d h) in
          let one = set.did.turns (k.keeps.told t) d f.place (still_catalog k shows h).raw (row_of_there f) in (
            _,
            buried_turns f.place c.in-Some.found.row (tomb_by c.args.by c.in-Some.found.row) h f.row refl (after_reads k shows one),
            buried_is c.args.name c.args.by h (record { row = c.in-Some.found.row; was = f.first; rows_are = in_place d f.place c.in-Some.found.row (tomb_by c.args.by c.in-Some.found.row) f.row; peak = refl; pages = refl }),
          );
    }

pub returns-clause-within : goal.returns-clause-within
returns-clause-within g c = λ shows d h. found_some (is_there c.args.name) d c.in-Some.found (row_found (is_there c.args.name) d c.in_ok-sought.sought c.in-Some.found c.in-Some.is (c.in_ok-sought.ensures.read shows d h))

pub returns-in_default-clause-later : goal.returns-in_default-clause-later
returns-in_default-clause-later g c = g.met.P.PageSpace.later_then _ _ _ _ (c.search.ensures.later _) (c.broken.ensures.later _)

pub returns-in_err-set_row-clause-later : goal.returns-in_err-set_row-clause-later
returns-in_err-set_row-clause-later g c = g.met.P.PageSpace.later_then _ _ _ _ (c.search.ensures.later _) c.set_row.ensures.later

pub returns-clause-later : goal.returns-clause-later
returns-clause-later g c = g.met.P.PageSpace.later_then _ _ _ _ (c.search.ensures.later _) c.set_row.ensures.later
