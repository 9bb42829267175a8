use Rattle.std.proofs.Common.{Result, subst, arith}
use Rattle.sg_model.specs.declared.reason.Reason.{Reason}
use Rattle.sg_model.specs.Step.{resize}
use Rattle.sg_objects.specs.Blobs.{IsBlobFound}
use Rattle.sg_objects.specs.declared.blob.BlobAt.{BlobAt}
use Rattle.sg_objects.proofs.Blobbed.{refuses_blob, missing_blob}
use Rattle.sg_objects.proofs.BlobVerbs.{size_long}
use Rattle.sg_objects.proofs.blob_size.check_size.Goals as goal

pub returns-in-Err-clause-read : goal.returns-in-Err-clause-read
returns-in-Err-clause-read g c = λ shows s h t.
    let m = subst (λ (r : Result BlobAt Reason). IsBlobFound c.args.name s r) c.in-Err.is (c.in_ok-reason.ensures.read shows s h) in
    missing_blob s c.args.name (resize c.args.size) c.in-Err.reason h m

pub returns-then-size-gt-MOST-clause-read : goal.returns-then-size-gt-MOST-clause-read
returns-then-size-gt-MOST-clause-read g c = λ shows s h t.
    let f = subst (λ (r : Result BlobAt Reason). IsBlobFound c.args.name s r) c.in-Ok.is (c.in_ok-reason.ensures.read shows s h) in
    refuses_blob c.args.name (resize c.args.size) _ f (size_long c.args.size f.blob.bytes (let more = c.if-size-gt-MOST.true in omega arith))
