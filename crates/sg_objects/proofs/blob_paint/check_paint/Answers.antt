use Rattle.std.proofs.Common.{◌∙◌, sym, subst, Result, arith}
use Rattle.sg_model.specs.declared.reason.Reason.{Reason}
use Rattle.sg_model.specs.Step.{paint}
use Rattle.sg_objects.specs.Blobs.{IsBlobFound}
use Rattle.sg_objects.specs.declared.blob.BlobAt.{BlobAt}
use Rattle.sg_objects.proofs.Applying.{checked_ok, checked_err}
use Rattle.sg_objects.proofs.Blobbed.{refuses_blob, missing_blob}
use Rattle.sg_objects.proofs.BlobVerbs.{paint_long, paint_past, paint_unnamed, paint_unknown, none_named, some_named}
use Rattle.sg_objects.proofs.blob_paint.check_paint.Goals as goal

pub returns-in-Err-clause-read : goal.returns-in-Err-clause-read
returns-in-Err-clause-read g c = λ shows s h.
    let m = subst (λ (r : Result BlobAt Reason). IsBlobFound c.args.name s r) c.in-Err.is (c.in_ok-reason.ensures.read shows s h) in
    checked_err c.in-Err.reason (missing_blob s c.args.name (paint _ c.args.at c.args.count c.args.code c.args.arg.now) c.in-Err.reason h m)

pub returns-then-arg-gt256-clause-read : goal.returns-then-arg-gt256-clause-read
returns-then-arg-gt256-clause-read g c = λ shows s h.
    let f = subst (λ (r : Result BlobAt Reason). IsBlobFound c.args.name s r) c.in-Ok.is (c.in_ok-reason.ensures.read shows s h) in
    checked_err _ (refuses_blob c.args.name (paint _ c.args.at c.args.count c.args.code c.args.arg.now) _ f (paint_long _ c.args.at c.args.count c.args.code c.args.arg.now f.blob.bytes c.if-arg-gt256.true))

pub returns-then-at-found-clause-read : goal.returns-then-at-found-clause-read
returns-then-at-found-clause-read g c = λ shows s h.
    let f = subst (λ (r : Result BlobAt Reason). IsBlobFound c.args.name s r) c.in-Ok.is (c.in_ok-reason.ensures.read shows s h) in
    checked_err _ (refuses_blob c.args.name (paint _ c.args.at c.args.count c.args.code c.args.arg.now) _ f (paint_past _ c.args.at c.args.count c.args.code c.args.arg.now f.blob.bytes c.if-arg-gt256.false
    (let e = f.len_is in let more = c.if-at-found.true in omega arith)))

pub returns-then-count-found-clause-read : goal.returns-then-count-found-clause-read
returns-then-count-found-clause-read g c = λ shows s h.
    let f = subst (λ (r : Result BlobAt Reason). IsBlobFound c.args.name s r) c.in-Ok.is (c.in_ok-reason.ensures.read shows s h) in
    checked_err _ (refuses_blob c.args.name (paint _ c.args.at c.args.count c.args.code c.args.arg.now) _ f (paint_past _ c.args.at c.args.count c.args.code c.args.arg.now f.blob.bytes c.if-arg-gt256.false
    (let e = f.len_is in let more = c.if-count-found.true in omega arith)))

pub returns-then-code-gt65535-clause-read : goal.returns-then-code-gt65535-clause-read
returns-then-code-gt65535-clause-read g c = λ shows s h.
    let f = subst (λ (r : Result BlobAt Reason). IsBlobFound c.args.name s r) c.in-Ok.is (c.in_ok-reason.ensures.read shows s h) in
    checked_err _ (refuses_blob c.args.name (paint _ c.args.at c.args.count c.args.code c.args.arg.now) _ f (paint_unnamed _ c.args.at c.args.count c.args.code c.args.arg.now f.blob.bytes c.if-arg-gt256.false
    (let e = f.len_is in let from = c.if-at-found.false in let to = c.if-count-found.false in omega arith) (let more = c.if-code-gt65535.true in omega arith)))

pub returns-then-not-has_range-clause-read : goal.returns-then-not-has_range-clause-read
returns-then-not-has_range-clause-read g c = λ shows s h.
    let f = subst (λ (r : Result BlobAt Reason). IsBlobFound c.args.name s r) c.in-Ok.is (c.in_ok-reason.ensures.read shows s h) in
    checked_err _ (refuses_blob c.args.name (paint _ c.args.at c.args.count c.args.code c.args.arg.now) _ f (paint_unknown _ c.args.at c.args.count c.args.code c.args.arg.now f.blob.bytes c.if-arg-gt256.false
    (let e = f.len_is in let from = c.if-at-found.false in let to = c.if-count-found.false in omega arith) (let less = c.if-code-gt65535.false in omega arith) (none_named _ (sym c.has_range.ensures ∙ c.if-not-has_range.true))))

pub returns-else-not-has_range-clause-read : goal.returns-else-not-has_range-clause-read
returns-else-not-has_range-clause-read g c = λ shows s h.
    let f = subst (λ (r : Result BlobAt Reason). IsBlobFound c.args.name s r) c.in-Ok.is (c.in_ok-reason.ensures.read shows s h) in
    checked_ok c.in-Ok.found (record { found = f; within = (let from = c.if-at-found.false in let to = c.if-count-found.false in omega arith); short = c.if-arg-gt256.false; small = (let less = c.if-code-gt65535.false in omega arith); known = some_named _ (sym c.has_range.ensures ∙ c.if-not-has_range.false) })
