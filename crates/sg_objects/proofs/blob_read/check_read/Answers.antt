use Rattle.std.proofs.Common.{Result, subst, arith}
use Rattle.sg_model.specs.declared.reason.Reason.{Reason}
use Rattle.sg_objects.specs.Blobs.{IsBlobFound}
use Rattle.sg_objects.specs.declared.blob.BlobAt.{BlobAt}
use Rattle.sg_objects.proofs.Blobbed.{refuses_blob, missing_blob}
use Rattle.sg_objects.proofs.BlobVerbs.{read_long, read_past, reads_blob}
use Rattle.sg_objects.proofs.blob_read.check_read.Goals as goal

pub returns-in-Err-clause-read : goal.returns-in-Err-clause-read
returns-in-Err-clause-read g c = λ shows s h t.
    let m = subst (λ (r : Result BlobAt Reason). IsBlobFound c.args.name s r) c.in-Err.is (c.in_ok-reason.ensures.read shows s h) in
    missing_blob s c.args.name (reads_blob c.args.at c.args.count) c.in-Err.reason h m

pub returns-then-count-clause-read : goal.returns-then-count-clause-read
returns-then-count-clause-read g c = λ shows s h t.
    let f = subst (λ (r : Result BlobAt Reason). IsBlobFound c.args.name s r) c.in-Ok.is (c.in_ok-reason.ensures.read shows s h) in
    refuses_blob c.args.name (reads_blob c.args.at c.args.count) _ f (read_long c.args.at c.args.count f.blob.bytes (let more = c.if-count.true in omega arith))

pub returns-then-at-found-clause-read : goal.returns-then-at-found-clause-read
returns-then-at-found-clause-read g c = λ shows s h t.
    let f = subst (λ (r : Result BlobAt Reason). IsBlobFound c.args.name s r) c.in-Ok.is (c.in_ok-reason.ensures.read shows s h) in
    refuses_blob c.args.name (reads_blob c.args.at c.args.count) _ f (read_past c.args.at c.args.count f.blob.bytes (let few = c.if-count.false in omega arith) (let e = f.len_is in let more = c.if-at-found.true in omega arith))

pub returns-then-count-found-clause-read : goal.returns-then-count-found-clause-read
returns-then-count-found-clause-read g c = λ shows s h t.
    let f = subst (λ (r : Result BlobAt Reason). IsBlobFound c.args.name s r) c.in-Ok.is (c.in_ok-reason.ensures.read shows s h) in
    refuses_blob c.args.name (reads_blob c.args.at c.args.count) _ f (read_past c.args.at c.args.count f.blob.bytes (let few = c.if-count.false in omega arith) (let e = f.len_is in let more = c.if-count-found.true in omega arith))
