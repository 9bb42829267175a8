use Rattle.std.proofs.Common.{refl, subst, Result}
use Rattle.sg_model.specs.declared.reason.Reason.{Reason}
use Rattle.sg_objects.specs.declared.blob.BlobAt.{BlobAt}
use Rattle.sg_model.specs.Verb.Verb.{Size}
use Rattle.sg_objects.specs.Blobs.{CanSizeTo}
use Rattle.sg_objects.specs.Found.{Checked}
use Rattle.sg_objects.proofs.Applying.{checked_ok}
use Rattle.sg_objects.proofs.Blobbed.{blob_at}
use Rattle.sg_objects.proofs.BlobNeeds.{size_need}
use Rattle.sg_objects.proofs.Located.{still_contents}
use Rattle.sg_objects.proofs.Needing.{checked_all}
use Rattle.sg_objects.proofs.need.needs_size.Goals as goal

pub returns-in-Err-clause-read : goal.returns-in-Err-clause-read
returns-in-Err-clause-read g c = λ shows s h. checked_all c.in-Err.reason (subst (λ (r : Result BlobAt Reason). Checked c.args.name (Size c.args.size) s (CanSizeTo c.args.name c.args.size s) r) c.in-Err.is (c.in_ok-reason.ensures.read shows s h))

pub bands-requires : goal.bands-requires
bands-requires g c = λ told.
    let back = c.check_size.ensures.counts.told told in
    let shows = g.met.P.PageSpace.told_shows _ back in
    let h = c.requires back in
    let f = subst (λ (r : Result BlobAt Reason). Checked c.args.name (Size c.args.size) h.0 (CanSizeTo c.args.name c.args.size h.0) r) c.in-Ok.is (c.in_ok-reason.ensures.read shows h.0 h.1) in
    (f.found.blob, blob_at (still_contents c.in_ok-reason.ensures.kept shows h.1) f.found, tt)

pub returns-in_ok-have-in-Ok-clause-read : goal.returns-in_ok-have-in-Ok-clause-read
returns-in_ok-have-in-Ok-clause-read g c = λ shows s h.
    let k = c.in_ok-reason.ensures.kept in
    let f = subst (λ (r : Result BlobAt Reason). Checked c.args.name (Size c.args.size) s (CanSizeTo c.args.name c.args.size s) r) c.in-Ok.is (c.in_ok-reason.ensures.read shows s h) in
    let have = c.in_ok-have-in-Ok.ensures.read (k.shows shows) f.found.blob (blob_at (still_contents k shows h) f.found) in
    checked_ok _ (size_need _ f refl have c.of_bands.ensures)

-- later
pub returns-in_err-have-in-Ok-clause-later : goal.returns-in_err-have-in-Ok-clause-later
returns-in_err-have-in-Ok-clause-later g c = λ t. g.met.P.PageSpace.later_then t _ _ _ (c.check_size.ensures.later t) (c.bands.ensures.later t)

pub returns-in_ok-have-in-Ok-clause-later : goal.returns-in_ok-have-in-Ok-clause-later
returns-in_ok-have-in-Ok-clause-later g c = λ t. g.met.P.PageSpace.later_then t _ _ _ (c.check_size.ensures.later t) (c.bands.ensures.later t)
