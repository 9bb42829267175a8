use Rattle.std.proofs.Common.{refl, sym, ap, ◌∙◌, List, ℕ, arith}
use Rattle.std.specs.List.{find}
use Rattle.sg_space.proofs.Known.{keeps_then, reads_then}
use Rattle.sg_catalog.specs.Calls.{raised}
use Rattle.sg_catalog.specs.Catalog.{is_there, is_tomb_of, rows}
use Rattle.sg_catalog.proofs.Maps.{raised_is}
use Rattle.sg_catalog.proofs.Parts.{still_catalog}
use Rattle.sg_catalog.proofs.Rows.{row_found, found_some, row_of_there, raised_turns, in_place, tomb_named, none_if}
use Rattle.sg_catalog.proofs.Turned.{after_reads}
use Rattle.sg_catalog.proofs.catalog.unbury.Goals as goal

pub search-requires-2 : goal.search-requires-2
search-requires-2 g c = λ told.
    let back = c.search.ensures.counts.told told in
    let h = c.requires.can back in
    (h.0, still_catalog c.in_ok-search.ensures.kept (g.met.P.PageSpace.told_shows _ back) h.1, tt)

pub set_row-requires-clause-can : goal.set_row-requires-clause-can
set_row-requires-clause-can g c = λ told.
    let told1 = c.search-2.ensures.counts.told told in
    let told0 = c.search.ensures.counts.told told1 in
    let shows0 = g.met.P.PageSpace.told_shows _ told0 in
    let shows1 = g.met.P.PageSpace.told_shows _ told1 in
    let h = c.requires.can told0 in
    let one = still_catalog c.in_ok-search.ensures.kept shows0 h.1 in
    let f = row_found (is_tomb_of c.args.name c.args.root.0) h.0 c.in_ok-sought.sought c.in-Some.found c.in-Some.is (c.in_ok-sought.ensures.read shows1 h.0 one) in
    (h.0, (still_catalog c.in_ok-sought.ensures.kept shows1 one).raw, f.place, row_of_there f)

pub returns-clause-did : goal.returns-clause-did
returns-clause-did g c =
    let k1 = c.in_ok-search.ensures.kept in
    let k2 = c.in_ok-sought.ensures.kept in
    let set = c.in_ok-set_row.ensures in
    record {
      keeps = λ t.
          let told1 = k1.keeps.told t in
          keeps_then k1.keeps (keeps_then k2.keeps (set.keeps (k2.keeps.told told1)));
      turns = λ t d h can.
          let told1 = k1.keeps.told t in
          let shows0 = g.met.P.PageSpace.told_shows _ t in
          let shows1 = g.met.P.PageSpace.told_shows _ told1 in
          let one = still_catalog k1 shows0 h in
          let f = row_found (is_tomb_of c.args.name c.args.root.0) d c.in_ok-sought.sought c.in-Some.found c.in-Some.is (c.in_ok-sought.ensures.read shows1 d one) in
          let named = tomb_named c.args.name c.args.root.0 (rows d) c.in-Some.found.row f.first in
          let none = ap (λ (n : List ℕ). find (is_there n) (rows d)) named ∙ can.absent in
          let set_turns = set.did.turns (k2.keeps.told told1) d f.place (still_catalog k2 shows1 one).raw (row_of_there f) in (
            _,
            raised_turns f.place c.in-Some.found.row (raised c.in-Some.found.row) h f.row none (after_reads (reads_then k1 k2) shows0 set_turns),
            raised_is c.args.name c.args.root.0 can.absent (record { row = c.in-Some.found.row; was = f.first; rows_are = in_place d f.place c.in-Some.found.row (raised c.in-Some.found.row) f.row; peak = refl; pages = refl }),
          );
    }

pub returns-clause-within : goal.returns-clause-within
returns-clause-within g c = λ shows d h.
    let k1 = c.in_ok-search.ensures.kept in
    let one = still_catalog k1 shows h in
    record {
      tomb = found_some (is_tomb_of c.args.name c.args.root.0) d c.in-Some.found (row_found (is_tomb_of c.args.name c.args.root.0) d c.in_ok-sought.sought c.in-Some.found c.in-Some.is (c.in_ok-sought.ensures.read (k1.shows shows) d one));
      absent = none_if (is_there c.args.name) d c.in_ok-search.field-0 (sym c.is_some.ensures ∙ c.if-is_some.false) (c.in_ok-search.ensures.read shows d h);
    }

pub returns-then-is_some-clause-later : goal.returns-then-is_some-clause-later
returns-then-is_some-clause-later g c = g.met.P.PageSpace.later_then _ _ _ _ (c.search.ensures.later _) (c.broken.ensures.later _)

pub returns-in_err-sought-clause-later : goal.returns-in_err-sought-clause-later
returns-in_err-sought-clause-later g c = g.met.P.PageSpace.later_then _ _ _ _ (c.search.ensures.later _) (c.search-2.ensures.later _)

pub returns-in_default-clause-later : goal.returns-in_default-clause-later
returns-in_default-clause-later g c =
    let then = g.met.P.PageSpace.later_then _ in
    then _ _ _ (c.search.ensures.later _) (then _ _ _ (c.search-2.ensures.later _) (c.broken-in_default.ensures.later _))

pub returns-in_err-set_row-clause-later : goal.returns-in_err-set_row-clause-later
returns-in_err-set_row-clause-later g c =
    let then = g.met.P.PageSpace.later_then _ in
    then _ _ _ (c.search.ensures.later _) (then _ _ _ (c.search-2.ensures.later _) c.set_row.ensures.later)

pub returns-clause-later : goal.returns-clause-later
returns-clause-later g c =
    let then = g.met.P.PageSpace.later_then _ in
    then _ _ _ (c.search.ensures.later _) (then _ _ _ (c.search-2.ensures.later _) c.set_row.ensures.later)

pub returns-clause-counts : goal.returns-clause-counts
returns-clause-counts g c =
    let first = c.search.ensures.counts in
    let second = c.search-2.ensures.counts in
    let changed = c.set_row.ensures.counts in
    let a = first.later in
    let b = second.later in
    let d = changed.later in
    record {
      told = λ t. first.told (second.told (changed.told t));
      later = omega arith;
      quiet = c.in_ok-set_row.ensures.counts.quiet ∙ (c.in_ok-sought.ensures.counts.quiet ∙ c.in_ok-search.ensures.counts.quiet);
      disk = tt;
      log_end = tt;
    }

pub returns-clause-few : goal.returns-clause-few
returns-clause-few g c =
    let a = c.search.ensures.writes.records in
    let b = c.search-2.ensures.writes.records in
    let d = c.set_row.ensures.few in
    omega arith
