use Rattle.std.proofs.Common.{◌∙◌, ℕ, refl, sym, ap, Ok}
use Rattle.sg_catalog.specs.Catalog.{rows, there}
use Rattle.sg_catalog.specs.declared.row.ObjectKind.TheVariants as kinds
use Rattle.sg_model.specs.Verb.Reply.{Number}
use Rattle.sg_model.specs.Verb.{Outcome}
use Rattle.sg_contents.specs.Standing.Body.{AnArray, ATable, ABlob}
use Rattle.sg_objects.proofs.Located.{still_contents}
use Rattle.sg_objects.proofs.Checks.{array_there}
use Rattle.sg_objects.proofs.Making.{none_found}
use Rattle.sg_objects.proofs.Tables.{table_there}
use Rattle.sg_objects.proofs.Measuring.{found_at, as_kind, blob_there, no_length, body_length}
use Rattle.sg_objects.proofs.len.check_len.Goals as goal

pub returns-in_default-clause-read : goal.returns-in_default-clause-read
returns-in_default-clause-read g c = λ shows s h.
    no_length s c.args.name (none_found (there c.args.name (rows s.catalog)) (sym c.in_default.is ∙ c.in_ok-sought.ensures.read shows s.catalog h.catalog))

pub returns-in-Table-clause-read : goal.returns-in-Table-clause-read
returns-in-Table-clause-read g c = λ shows s h.
    let f = found_at s c.args.name c.in-Some.found (sym c.in-Some.is ∙ c.in_ok-sought.ensures.read shows s.catalog h.catalog) in
    let t = table_there h (as_kind _ kinds.Table c.in-Table.is f) in
    body_length (ATable t.0) _ f t.1 refl

pub len-requires : goal.len-requires
len-requires g c = λ told.
    let back = c.find.ensures.counts.told told in
    let shows = g.met.P.PageSpace.told_shows _ back in
    let h = c.requires back in
    let f = found_at h.0 c.args.name c.in-Some.found (sym c.in-Some.is ∙ c.in_ok-sought.ensures.read shows (h.0).catalog (h.1).catalog) in
    let a = array_there (still_contents c.in_ok-sought.ensures.kept shows h.1) (as_kind _ kinds.Array c.in-Array.is f) in
    (a.0, a.2, tt)

pub len-requires-in-Blob : goal.len-requires-in-Blob
len-requires-in-Blob g c = λ told.
    let back = c.find.ensures.counts.told told in
    let shows = g.met.P.PageSpace.told_shows _ back in
    let h = c.requires back in
    let f = found_at h.0 c.args.name c.in-Some.found (sym c.in-Some.is ∙ c.in_ok-sought.ensures.read shows (h.0).catalog (h.1).catalog) in
    let b = blob_there (still_contents c.in_ok-sought.ensures.kept shows h.1) (as_kind _ kinds.Blob c.in-Blob.is f) in
    (b.0, b.2, tt)

pub returns-in_ok-items-in-Array-clause-read : goal.returns-in_ok-items-in-Array-clause-read
returns-in_ok-items-in-Array-clause-read g c = λ shows s h.
    let k = c.in_ok-sought.ensures.kept in
    let f = found_at s c.args.name c.in-Some.found (sym c.in-Some.is ∙ c.in_ok-sought.ensures.read shows s.catalog h.catalog) in
    let a = array_there (still_contents k shows h) (as_kind _ kinds.Array c.in-Array.is f) in
    body_length (AnArray a.0) _ f a.1 (ap (λ (n : ℕ). (let o : Outcome = Ok (Number n) in o)) (sym (c.in_ok-items-in-Array.ensures.read (k.shows shows) a.0 a.2)))

pub returns-in_ok-bytes-in-Blob-clause-read : goal.returns-in_ok-bytes-in-Blob-clause-read
returns-in_ok-bytes-in-Blob-clause-read g c = λ shows s h.
    let k = c.in_ok-sought.ensures.kept in
    let f = found_at s c.args.name c.in-Some.found (sym c.in-Some.is ∙ c.in_ok-sought.ensures.read shows s.catalog h.catalog) in
    let b = blob_there (still_contents k shows h) (as_kind _ kinds.Blob c.in-Blob.is f) in
    body_length (ABlob b.0) _ f b.1 (ap (λ (n : ℕ). (let o : Outcome = Ok (Number n) in o)) (sym (c.in_ok-bytes-in-Blob.ensures.read (k.shows shows) b.0 b.2)))

-- later
pub returns-in_err-items-in-Array-clause-later : goal.returns-in_err-items-in-Array-clause-later
returns-in_err-items-in-Array-clause-later g c = λ t. let then = g.met.P.PageSpace.later_then t in then _ _ _ (c.find.ensures.later t) (c.len.ensures.later t)

pub returns-in_ok-items-in-Array-clause-later : goal.returns-in_ok-items-in-Array-clause-later
returns-in_ok-items-in-Array-clause-later g c = λ t. let then = g.met.P.PageSpace.later_then t in then _ _ _ (c.find.ensures.later t) (c.len.ensures.later t)

pub returns-in_err-bytes-in-Blob-clause-later : goal.returns-in_err-bytes-in-Blob-clause-later
returns-in_err-bytes-in-Blob-clause-later g c = λ t. let then = g.met.P.PageSpace.later_then t in then _ _ _ (c.find.ensures.later t) (c.len-in-Blob.ensures.later t)

pub returns-in_ok-bytes-in-Blob-clause-later : goal.returns-in_ok-bytes-in-Blob-clause-later
returns-in_ok-bytes-in-Blob-clause-later g c = λ t. let then = g.met.P.PageSpace.later_then t in then _ _ _ (c.find.ensures.later t) (c.len-in-Blob.ensures.later t)
