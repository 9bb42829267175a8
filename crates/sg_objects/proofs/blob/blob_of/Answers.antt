use Rattle.std.proofs.Common.{Result, subst}
use Rattle.sg_base.specs.declared.numbers.PageNo.{PageNo}
use Rattle.sg_catalog.specs.declared.row.ObjectKind.TheVariants as kinds
use Rattle.sg_model.specs.declared.reason.Reason.{Reason}
use Rattle.sg_objects.specs.Found.{IsLocated}
use Rattle.sg_objects.proofs.Located.{still_contents}
use Rattle.sg_objects.proofs.Blobbed.{blob_there}
use Rattle.sg_objects.proofs.blob.blob_of.Goals as goal

pub len-requires : goal.len-requires
len-requires g c = λ told.
    let back = c.root_of.ensures.counts.told told in
    let shows = g.met.P.PageSpace.told_shows _ back in
    let h = c.requires back in
    let f = subst (λ (r : Result PageNo Reason). IsLocated kinds.Blob c.args.name h.0 r) c.in-Ok.is (c.in_ok-reason.ensures.read shows h.0 h.1) in
    let b = blob_there (still_contents c.in_ok-reason.ensures.kept shows h.1) f in
    (b.0, b.2, tt)

pub returns-in_ok-len-in-Ok-clause-read : goal.returns-in_ok-len-in-Ok-clause-read
returns-in_ok-len-in-Ok-clause-read g c = λ shows s h.
    let k = c.in_ok-reason.ensures.kept in
    let f = subst (λ (r : Result PageNo Reason). IsLocated kinds.Blob c.args.name s r) c.in-Ok.is (c.in_ok-reason.ensures.read shows s h) in
    let b = blob_there (still_contents k shows h) f in
    record { at = f; blob = b.0; body_is = b.1; len_is = c.in_ok-len-in-Ok.ensures.read (k.shows shows) b.0 b.2 }

pub returns-in_err-len-in-Ok-clause-later : goal.returns-in_err-len-in-Ok-clause-later
returns-in_err-len-in-Ok-clause-later g c = λ t. g.met.P.PageSpace.later_then t _ _ _ (c.root_of.ensures.later t) (c.len.ensures.later t)

pub returns-in_ok-len-in-Ok-clause-later : goal.returns-in_ok-len-in-Ok-clause-later
returns-in_ok-len-in-Ok-clause-later g c = λ t. g.met.P.PageSpace.later_then t _ _ _ (c.root_of.ensures.later t) (c.len.ensures.later t)
