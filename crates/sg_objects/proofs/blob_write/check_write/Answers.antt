use Rattle.std.proofs.Common.{Result, subst, arith}
use Rattle.sg_model.specs.declared.reason.Reason.{Reason}
use Rattle.sg_model.specs.Step.{write}
use Rattle.sg_objects.specs.Blobs.{IsBlobFound}
use Rattle.sg_objects.specs.declared.blob.BlobAt.{BlobAt}
use Rattle.sg_objects.proofs.Blobbed.{refuses_blob, missing_blob}
use Rattle.sg_objects.proofs.BlobVerbs.{write_long, write_far, write_past}
use Rattle.sg_objects.proofs.blob_write.check_write.Goals as goal

pub returns-in-Err-clause-read : goal.returns-in-Err-clause-read
returns-in-Err-clause-read g c = λ shows s h t.
    let m = subst (λ (r : Result BlobAt Reason). IsBlobFound c.args.name s r) c.in-Err.is (c.in_ok-reason.ensures.read shows s h) in
    missing_blob s c.args.name (write c.args.at c.args.bytes.now) c.in-Err.reason h m

pub returns-then-bytes-gt-MOST_AT_ONCE-clause-read : goal.returns-then-bytes-gt-MOST_AT_ONCE-clause-read
returns-then-bytes-gt-MOST_AT_ONCE-clause-read g c = λ shows s h t.
    let f = subst (λ (r : Result BlobAt Reason). IsBlobFound c.args.name s r) c.in-Ok.is (c.in_ok-reason.ensures.read shows s h) in
    refuses_blob c.args.name (write c.args.at c.args.bytes.now) _ f (write_long c.args.at c.args.bytes.now f.blob.bytes (let more = c.if-bytes-gt-MOST_AT_ONCE.true in omega arith))

pub returns-then-at-bytes-clause-read : goal.returns-then-at-bytes-clause-read
returns-then-at-bytes-clause-read g c = λ shows s h t.
    let f = subst (λ (r : Result BlobAt Reason). IsBlobFound c.args.name s r) c.in-Ok.is (c.in_ok-reason.ensures.read shows s h) in
    refuses_blob c.args.name (write c.args.at c.args.bytes.now) _ f (write_far c.args.at c.args.bytes.now f.blob.bytes (let few = c.if-bytes-gt-MOST_AT_ONCE.false in let more = c.if-at-bytes.true in omega arith))

pub returns-then-at-found-clause-read : goal.returns-then-at-found-clause-read
returns-then-at-found-clause-read g c = λ shows s h t.
    let f = subst (λ (r : Result BlobAt Reason). IsBlobFound c.args.name s r) c.in-Ok.is (c.in_ok-reason.ensures.read shows s h) in
    refuses_blob c.args.name (write c.args.at c.args.bytes.now) _ f (write_past c.args.at c.args.bytes.now f.blob.bytes (let few = c.if-bytes-gt-MOST_AT_ONCE.false in omega arith)
    (let few = c.if-bytes-gt-MOST_AT_ONCE.false in let less = c.if-at-bytes.false in omega arith) (let e = f.len_is in let more = c.if-at-found.true in omega arith))
