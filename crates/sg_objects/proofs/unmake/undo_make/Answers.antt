use Rattle.std.proofs.Common.{◌∙◌, sym, arith}
use Rattle.sg_catalog.specs.Catalog.{rows, there}
use Rattle.sg_catalog.specs.declared.row.ObjectKind.TheVariants as kinds
use Rattle.sg_objects.proofs.Unmaking.{undone_after}
use Rattle.sg_objects.proofs.Located.{still_contents}
use Rattle.sg_objects.proofs.Making.{none_found}
use Rattle.sg_objects.proofs.Measuring.{found_at, as_kind}
use Rattle.sg_objects.proofs.Unmaking.{there_unmade}
use Rattle.sg_objects.proofs.unmake.undo_make.Goals as goal

pub broken-requires : goal.broken-requires
broken-requires g c = λ told.
    let back = c.find.ensures.counts.told told in
    let shows = g.met.P.PageSpace.told_shows _ back in
    let h = c.requires.can back in
    there_unmade h.0 c.args.name (h.2).th (h.2).possible (none_found (there c.args.name (rows (h.0).catalog)) (sym c.in_default.is ∙ c.in_ok-sought.ensures.read shows (h.0).catalog (h.1).catalog))

pub undo_make_array-requires-clause-can : goal.undo_make_array-requires-clause-can
undo_make_array-requires-clause-can g c = λ told.
    let back = c.find.ensures.counts.told told in
    let shows = g.met.P.PageSpace.told_shows _ back in
    let h = c.requires.can back in
    let f = found_at h.0 c.args.name c.in-Some.found (sym c.in-Some.is ∙ c.in_ok-sought.ensures.read shows (h.0).catalog (h.1).catalog) in
    (h.0, still_contents c.in_ok-sought.ensures.kept shows h.1, (_, as_kind _ kinds.Array c.in-Array.is f))

pub returns-in-Array-clause-did : goal.returns-in-Array-clause-did
returns-in-Array-clause-did g c = undone_after _ _ _ _ _ (g.met.P.PageSpace.told_shows _) c.in_ok-sought.ensures.kept c.undo_make_array.ensures.did

pub undo_make_table-requires-clause-can : goal.undo_make_table-requires-clause-can
undo_make_table-requires-clause-can g c = λ told.
    let back = c.find.ensures.counts.told told in
    let shows = g.met.P.PageSpace.told_shows _ back in
    let h = c.requires.can back in
    let f = found_at h.0 c.args.name c.in-Some.found (sym c.in-Some.is ∙ c.in_ok-sought.ensures.read shows (h.0).catalog (h.1).catalog) in
    (h.0, still_contents c.in_ok-sought.ensures.kept shows h.1, (_, as_kind _ kinds.Table c.in-Table.is f))

pub returns-in-Table-clause-did : goal.returns-in-Table-clause-did
returns-in-Table-clause-did g c = undone_after _ _ _ _ _ (g.met.P.PageSpace.told_shows _) c.in_ok-sought.ensures.kept c.undo_make_table.ensures.did

pub undo_make_blob-requires-clause-can : goal.undo_make_blob-requires-clause-can
undo_make_blob-requires-clause-can g c = λ told.
    let back = c.find.ensures.counts.told told in
    let shows = g.met.P.PageSpace.told_shows _ back in
    let h = c.requires.can back in
    let f = found_at h.0 c.args.name c.in-Some.found (sym c.in-Some.is ∙ c.in_ok-sought.ensures.read shows (h.0).catalog (h.1).catalog) in
    (h.0, still_contents c.in_ok-sought.ensures.kept shows h.1, (_, as_kind _ kinds.Blob c.in-Blob.is f))

pub returns-in-Blob-clause-did : goal.returns-in-Blob-clause-did
returns-in-Blob-clause-did g c = undone_after _ _ _ _ _ (g.met.P.PageSpace.told_shows _) c.in_ok-sought.ensures.kept c.undo_make_blob.ensures.did

-- later
pub returns-in_default-clause-later : goal.returns-in_default-clause-later
returns-in_default-clause-later g c = let then = g.met.P.PageSpace.later_then _ in then _ _ _ (c.find.ensures.later _) (c.broken.ensures.later _)

pub returns-in-Array-clause-later : goal.returns-in-Array-clause-later
returns-in-Array-clause-later g c = let then = g.met.P.PageSpace.later_then _ in then _ _ _ (c.find.ensures.later _) c.undo_make_array.ensures.later

pub returns-in-Table-clause-later : goal.returns-in-Table-clause-later
returns-in-Table-clause-later g c = let then = g.met.P.PageSpace.later_then _ in then _ _ _ (c.find.ensures.later _) c.undo_make_table.ensures.later

pub returns-in-Blob-clause-later : goal.returns-in-Blob-clause-later
returns-in-Blob-clause-later g c = let then = g.met.P.PageSpace.later_then _ in then _ _ _ (c.find.ensures.later _) c.undo_make_blob.ensures.later

-- few records
pub returns-in-Table-clause-few : goal.returns-in-Table-clause-few
returns-in-Table-clause-few g c = λ told.
    let undone = c.undo_make_table.ensures.few (c.in_ok-sought.ensures.kept.keeps.told told) in
    let read = c.find.ensures.writes.records in
    omega (arith, undone, read)
