use Rattle.std.proofs.Common.{◌≡◌, ◌∙◌, false, true, Result, Err, is_some, sym, ap, subst}
use Rattle.sg_catalog.specs.Catalog.{rows, there}
use Rattle.sg_catalog.specs.declared.row.ObjectKind.TheVariants as kinds
use Rattle.sg_contents.specs.Standing.Body.{AnArray, ATable, ABlob}
use Rattle.sg_lines.specs.Parts.{parts_of_object}
use Rattle.sg_model.specs.Objects.{Object}
use Rattle.sg_objects.proofs.Checks.{array_there}
use Rattle.sg_objects.proofs.Located.{still_contents}
use Rattle.sg_objects.proofs.Making.{none_found}
use Rattle.sg_objects.proofs.Measuring.{found_at, as_kind, blob_there}
use Rattle.sg_objects.proofs.Tables.{table_there}
use Rattle.sg_space.specs.declared.space.SpaceFault.{SpaceFault}
use Rattle.sg_space.specs.declared.space.SpaceFault.TheVariants.{Disk}
use Rattle.sg_listing.specs.Telling.{OnlyTold, IsTold}
use Rattle.sg_listing.specs.declared.fault.TellFault.{TellFault}
use Rattle.sg_listing.specs.declared.fault.TellFault.TheVariants.{Space}
use Rattle.sg_listing.proofs.Named.{object_under}
use Rattle.sg_listing.proofs.Telling.{one_read, told_broken, told_then}
use Rattle.sg_listing.proofs.object.tell_object.Goals as goal

pub broken-requires : goal.broken-requires
broken-requires g c = λ told.
    let back = c.find.ensures.counts.told told in
    let shows = g.met.P.PageSpace.told_shows _ back in
    let h = c.requires back in
    let none = none_found (there c.args.name.now (rows (h.0).catalog)) (sym c.in_default.is ∙ c.in_ok-sought.ensures.read shows (h.0).catalog (h.1).catalog) in
    let not : false ≡ true = sym (ap is_some none) ∙ h.2 in
    absurd (cc)

pub tell_array-requires : goal.tell_array-requires
tell_array-requires g c = λ told.
    let back = c.find.ensures.counts.told told in
    let shows = g.met.P.PageSpace.told_shows _ back in
    let h = c.requires back in
    let f = found_at h.0 c.args.name.now c.in-Some.found (sym c.in-Some.is ∙ c.in_ok-sought.ensures.read shows (h.0).catalog (h.1).catalog) in
    let a = array_there (still_contents c.in_ok-sought.ensures.kept shows h.1) (as_kind _ kinds.Array c.in-Array.is f) in
    (a.0, a.2, tt)

pub tell_table-requires : goal.tell_table-requires
tell_table-requires g c = λ told.
    let back = c.find.ensures.counts.told told in
    let shows = g.met.P.PageSpace.told_shows _ back in
    let h = c.requires back in
    let f = found_at h.0 c.args.name.now c.in-Some.found (sym c.in-Some.is ∙ c.in_ok-sought.ensures.read shows (h.0).catalog (h.1).catalog) in
    let t = table_there (still_contents c.in_ok-sought.ensures.kept shows h.1) (as_kind _ kinds.Table c.in-Table.is f) in
    (t.0, (t.2).table, tt)

pub tell_blob-requires : goal.tell_blob-requires
tell_blob-requires g c = λ told.
    let back = c.find.ensures.counts.told told in
    let shows = g.met.P.PageSpace.told_shows _ back in
    let h = c.requires back in
    let f = found_at h.0 c.args.name.now c.in-Some.found (sym c.in-Some.is ∙ c.in_ok-sought.ensures.read shows (h.0).catalog (h.1).catalog) in
    let b = blob_there (still_contents c.in_ok-sought.ensures.kept shows h.1) (as_kind _ kinds.Blob c.in-Blob.is f) in
    (b.0, b.2, tt)

pub returns-in_default-clause-space : goal.returns-in_default-clause-space
returns-in_default-clause-space g c =
    let q = c.broken.ensures in
    subst (λ (f : SpaceFault). OnlyTold (g.P.PageSpace.view c.args.space.now) (g.P.PageSpace.view c.broken.new.self) (let r : Result (Unit {0}) TellFault = Err (Space f) in r)) (sym q.answer)
    (told_then (Err (Space Disk)) (one_read c.in_ok-sought.sought c.in_ok-sought.ensures.counts c.in_ok-sought.ensures.kept c.find.ensures.writes.records) (told_broken q.told q.rising q.writes_none q.risen))

pub returns-in_default-clause-later : goal.returns-in_default-clause-later
returns-in_default-clause-later g c = λ t. g.met.P.PageSpace.later_then t _ _ _ (c.find.ensures.later t) (c.broken.ensures.later t)

-- AN ARRAY
pub returns-in-Array-clause-space : goal.returns-in-Array-clause-space
returns-in-Array-clause-space g c =
    told_then c.tell_array.result (one_read c.in_ok-sought.sought c.in_ok-sought.ensures.counts c.in_ok-sought.ensures.kept c.find.ensures.writes.records) c.tell_array.ensures.space

pub returns-in-Array-clause-heard : goal.returns-in-Array-clause-heard
returns-in-Array-clause-heard g c = λ shows s h object under.
    let k = c.in_ok-sought.ensures.kept in
    let f = as_kind _ kinds.Array c.in-Array.is (found_at s c.args.name.now c.in-Some.found (sym c.in-Some.is ∙ c.in_ok-sought.ensures.read shows s.catalog h.catalog)) in
    let a = array_there (still_contents k shows h) f in
    subst (λ (o : Object). IsTold g.L.Listener.ears c.args.to.now (parts_of_object c.args.name.now o) c.tell_array.new.to c.tell_array.result) (object_under (AnArray a.0) object f a.1 under)
    (c.tell_array.ensures.heard (k.shows shows) a.0 a.2)

pub returns-in-Array-clause-later : goal.returns-in-Array-clause-later
returns-in-Array-clause-later g c = λ t. g.met.P.PageSpace.later_then t _ _ _ (c.find.ensures.later t) (c.tell_array.ensures.later t)

-- A TABLE
pub returns-in-Table-clause-space : goal.returns-in-Table-clause-space
returns-in-Table-clause-space g c =
    told_then c.tell_table.result (one_read c.in_ok-sought.sought c.in_ok-sought.ensures.counts c.in_ok-sought.ensures.kept c.find.ensures.writes.records) c.tell_table.ensures.space

pub returns-in-Table-clause-heard : goal.returns-in-Table-clause-heard
returns-in-Table-clause-heard g c = λ shows s h object under.
    let k = c.in_ok-sought.ensures.kept in
    let f = as_kind _ kinds.Table c.in-Table.is (found_at s c.args.name.now c.in-Some.found (sym c.in-Some.is ∙ c.in_ok-sought.ensures.read shows s.catalog h.catalog)) in
    let t = table_there (still_contents k shows h) f in
    subst (λ (o : Object). IsTold g.L.Listener.ears c.args.to.now (parts_of_object c.args.name.now o) c.tell_table.new.to c.tell_table.result) (object_under (ATable t.0) object f t.1 under)
    (c.tell_table.ensures.heard (k.shows shows) t.0 (t.2).table)

pub returns-in-Table-clause-later : goal.returns-in-Table-clause-later
returns-in-Table-clause-later g c = λ t. g.met.P.PageSpace.later_then t _ _ _ (c.find.ensures.later t) (c.tell_table.ensures.later t)

-- A BLOB
pub returns-in-Blob-clause-space : goal.returns-in-Blob-clause-space
returns-in-Blob-clause-space g c =
    told_then c.tell_blob.result (one_read c.in_ok-sought.sought c.in_ok-sought.ensures.counts c.in_ok-sought.ensures.kept c.find.ensures.writes.records) c.tell_blob.ensures.space

pub returns-in-Blob-clause-heard : goal.returns-in-Blob-clause-heard
returns-in-Blob-clause-heard g c = λ shows s h object under.
    let k = c.in_ok-sought.ensures.kept in
    let f = as_kind _ kinds.Blob c.in-Blob.is (found_at s c.args.name.now c.in-Some.found (sym c.in-Some.is ∙ c.in_ok-sought.ensures.read shows s.catalog h.catalog)) in
    let b = blob_there (still_contents k shows h) f in
    subst (λ (o : Object). IsTold g.L.Listener.ears c.args.to.now (parts_of_object c.args.name.now o) c.tell_blob.new.to c.tell_blob.result) (object_under (ABlob b.0) object f b.1 under)
    (c.tell_blob.ensures.heard (k.shows shows) b.0 b.2)

pub returns-in-Blob-clause-later : goal.returns-in-Blob-clause-later
returns-in-Blob-clause-later g c = λ t. g.met.P.PageSpace.later_then t _ _ _ (c.find.ensures.later t) (c.tell_blob.ensures.later t)
