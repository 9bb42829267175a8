use Rattle.std.proofs.Common.{◌∙◌, ◌≤◌, ℕ, sym, ap, subst, Result, Some, take, IfOk, arith}
use Rattle.sg_model.specs.declared.reason.Reason.{Reason}
use Rattle.sg_model.specs.Step.{apply}
use Rattle.sg_objects.specs.Found.{IsArrayFound}
use Rattle.sg_objects.specs.declared.find.ArrayAt.{ArrayAt}
use Rattle.sg_objects.proofs.Located.{still_contents, array_at}
use Rattle.sg_objects.proofs.Refused.{missing_array}
use Rattle.sg_objects.proofs.Pushing.{items_of}
use Rattle.sg_objects.proofs.Applying.{checked_ok, checked_err, can_apply_to, refuse_apply, long_apply, past_apply, unnamed_apply, above_codes, unregistered, declined_apply}
use Rattle.sg_objects.proofs.Counting.{went, went_then, counts_ok, counts_then, no_ok_handed, counts_handed}
use Rattle.sg_objects.proofs.apply.check_apply.Goals as goal

pub returns-in-Err-clause-read : goal.returns-in-Err-clause-read
returns-in-Err-clause-read g c = λ shows s h.
    let m = subst (λ (r : Result ArrayAt Reason). IsArrayFound c.args.name s r) c.in-Err.is (c.in_ok-reason.ensures.read shows s h) in
    checked_err c.in-Err.reason (missing_array s c.args.name (apply _ c.args.index c.args.code c.args.arg.now) c.in-Err.reason h m)

pub returns-then-arg-gt256-clause-read : goal.returns-then-arg-gt256-clause-read
returns-then-arg-gt256-clause-read g c = λ shows s h.
    let f = subst (λ (r : Result ArrayAt Reason). IsArrayFound c.args.name s r) c.in-Ok.is (c.in_ok-reason.ensures.read shows s h) in
    checked_err _ (refuse_apply _ c.args.name c.args.index c.args.code c.args.arg.now _ f (long_apply _ c.args.index c.args.code c.args.arg.now (items_of f.array) c.if-arg-gt256.true))

pub returns-then-index-found-clause-read : goal.returns-then-index-found-clause-read
returns-then-index-found-clause-read g c = λ shows s h.
    let f = subst (λ (r : Result ArrayAt Reason). IsArrayFound c.args.name s r) c.in-Ok.is (c.in_ok-reason.ensures.read shows s h) in
    checked_err _ (refuse_apply _ c.args.name c.args.index c.args.code c.args.arg.now _ f (past_apply _ c.args.index c.args.code c.args.arg.now (items_of f.array) c.if-arg-gt256.false (let e = f.len_is in let more = c.if-index-found.true in omega arith)))

pub returns-then-code-gt65535-clause-read : goal.returns-then-code-gt65535-clause-read
returns-then-code-gt65535-clause-read g c = λ shows s h.
    let f = subst (λ (r : Result ArrayAt Reason). IsArrayFound c.args.name s r) c.in-Ok.is (c.in_ok-reason.ensures.read shows s h) in
    checked_err _ (refuse_apply _ c.args.name c.args.index c.args.code c.args.arg.now _ f (unnamed_apply _ c.args.index c.args.code c.args.arg.now (items_of f.array) c.if-arg-gt256.false (let e = f.len_is in let less = c.if-index-found.false in omega arith) (above_codes _ c.args.code c.if-code-gt65535.true)))

pub returns-then-not-has_record-clause-read : goal.returns-then-not-has_record-clause-read
returns-then-not-has_record-clause-read g c = λ shows s h.
    let f = subst (λ (r : Result ArrayAt Reason). IsArrayFound c.args.name s r) c.in-Ok.is (c.in_ok-reason.ensures.read shows s h) in
    checked_err _ (refuse_apply _ c.args.name c.args.index c.args.code c.args.arg.now _ f (unnamed_apply _ c.args.index c.args.code c.args.arg.now (items_of f.array) c.if-arg-gt256.false (let e = f.len_is in let less = c.if-index-found.false in omega arith) (unregistered _ c.args.code (let less = c.if-code-gt65535.false in omega arith) (sym c.has_record.ensures ∙ c.if-not-has_record.true))))

pub get-requires : goal.get-requires
get-requires g c = λ told.
    let back = c.array_of.ensures.counts.told told in
    let shows = g.met.P.PageSpace.told_shows _ back in
    let h = c.requires back in
    let f = subst (λ (r : Result ArrayAt Reason). IsArrayFound c.args.name h.0 r) c.in-Ok.is (c.in_ok-reason.ensures.read shows h.0 h.1) in
    let small = subst (λ (r : Result ArrayAt Reason). IfOk r (λ x. x.size ≤ 256)) c.in-Ok.is c.in_ok-reason.ensures.small in
    (f.array, array_at (still_contents c.in_ok-reason.ensures.kept shows h.1) f, ((let e = f.len_is in let less = c.if-index-found.false in omega arith), (let e = f.size_is in omega arith)))

pub returns-then-not-accepts-clause-read : goal.returns-then-not-accepts-clause-read
returns-then-not-accepts-clause-read g c = λ shows s h.
    let k = c.in_ok-reason.ensures.kept in
    let f = subst (λ (r : Result ArrayAt Reason). IsArrayFound c.args.name s r) c.in-Ok.is (c.in_ok-reason.ensures.read shows s h) in
    let is = c.in_ok-get-in-Ok.ensures.read (k.shows shows) f.array (array_at (still_contents k shows h) f) ∙ ap (λ (n : ℕ). Some (take n c.get.new.into)) (sym f.size_is) in
    checked_err _ (refuse_apply _ c.args.name c.args.index c.args.code c.args.arg.now _ f (declined_apply _ c.args.index c.args.code c.args.arg.now (items_of f.array) (take c.in-Ok.found.size c.get.new.into) c.if-arg-gt256.false is (let less = c.if-code-gt65535.false in omega arith) (sym c.has_record.ensures ∙ c.if-not-has_record.false) (sym c.accepts.ensures ∙ c.if-not-accepts.true)))

pub returns-else-not-accepts-clause-read : goal.returns-else-not-accepts-clause-read
returns-else-not-accepts-clause-read g c = λ shows s h.
    let k = c.in_ok-reason.ensures.kept in
    let f = subst (λ (r : Result ArrayAt Reason). IsArrayFound c.args.name s r) c.in-Ok.is (c.in_ok-reason.ensures.read shows s h) in
    let is = c.in_ok-get-in-Ok.ensures.read (k.shows shows) f.array (array_at (still_contents k shows h) f) ∙ ap (λ (n : ℕ). Some (take n c.get.new.into)) (sym f.size_is) in
    checked_ok c.in-Ok.found (can_apply_to f (take c.in-Ok.found.size c.get.new.into) is c.if-index-found.false c.if-arg-gt256.false (let less = c.if-code-gt65535.false in omega arith) (sym c.accepts.ensures ∙ c.if-not-accepts.false))

-- later
pub returns-in_err-get-in-Ok-clause-later : goal.returns-in_err-get-in-Ok-clause-later
returns-in_err-get-in-Ok-clause-later g c = λ t. g.met.P.PageSpace.later_then t _ _ _ (c.array_of.ensures.later t) (c.get.ensures.later t)

pub returns-then-not-accepts-clause-later : goal.returns-then-not-accepts-clause-later
returns-then-not-accepts-clause-later g c = λ t. g.met.P.PageSpace.later_then t _ _ _ (c.array_of.ensures.later t) (c.get.ensures.later t)

pub returns-else-not-accepts-clause-later : goal.returns-else-not-accepts-clause-later
returns-else-not-accepts-clause-later g c = λ t. g.met.P.PageSpace.later_then t _ _ _ (c.array_of.ensures.later t) (c.get.ensures.later t)

-- how often it failed
pub returns-in_err-reason-clause-counts : goal.returns-in_err-reason-clause-counts
returns-in_err-reason-clause-counts g c =
    counts_handed c.from_residual.result _ c.from_residual.ensures.1 (c.in_err-reason.ensures.counts)

pub returns-in-Err-clause-counts : goal.returns-in-Err-clause-counts
returns-in-Err-clause-counts g c = counts_ok _ (went c.in_ok-reason.ensures.counts)

pub returns-then-arg-gt256-clause-counts : goal.returns-then-arg-gt256-clause-counts
returns-then-arg-gt256-clause-counts g c = counts_ok _ (went c.in_ok-reason.ensures.counts)

pub returns-then-index-found-clause-counts : goal.returns-then-index-found-clause-counts
returns-then-index-found-clause-counts g c = counts_ok _ (went c.in_ok-reason.ensures.counts)

pub returns-then-code-gt65535-clause-counts : goal.returns-then-code-gt65535-clause-counts
returns-then-code-gt65535-clause-counts g c = counts_ok _ (went c.in_ok-reason.ensures.counts)

pub returns-then-not-has_record-clause-counts : goal.returns-then-not-has_record-clause-counts
returns-then-not-has_record-clause-counts g c = counts_ok _ (went c.in_ok-reason.ensures.counts)

pub returns-in_err-get-in-Ok-clause-counts : goal.returns-in_err-get-in-Ok-clause-counts
returns-in_err-get-in-Ok-clause-counts g c =
    counts_handed c.from_residual-in_err-get-in-Ok.result _ c.from_residual-in_err-get-in-Ok.ensures.1 (counts_then (went c.in_ok-reason.ensures.counts) c.in_err-get-in-Ok.ensures.counts)

pub returns-then-not-accepts-clause-counts : goal.returns-then-not-accepts-clause-counts
returns-then-not-accepts-clause-counts g c = counts_ok _ (went_then (went c.in_ok-reason.ensures.counts) (went c.in_ok-get-in-Ok.ensures.counts))

pub returns-else-not-accepts-clause-counts : goal.returns-else-not-accepts-clause-counts
returns-else-not-accepts-clause-counts g c = counts_ok _ (went_then (went c.in_ok-reason.ensures.counts) (went c.in_ok-get-in-Ok.ensures.counts))

-- its records can still be read
pub returns-in_err-reason-clause-means : goal.returns-in_err-reason-clause-means
returns-in_err-reason-clause-means g c = c.array_of.ensures.means

pub returns-in_err-reason-clause-later : goal.returns-in_err-reason-clause-later
returns-in_err-reason-clause-later g c = c.array_of.ensures.later

pub returns-in-Err-clause-means : goal.returns-in-Err-clause-means
returns-in-Err-clause-means g c = c.array_of.ensures.means

pub returns-in-Err-clause-later : goal.returns-in-Err-clause-later
returns-in-Err-clause-later g c = c.array_of.ensures.later

pub returns-then-arg-gt256-clause-means : goal.returns-then-arg-gt256-clause-means
returns-then-arg-gt256-clause-means g c = c.array_of.ensures.means

pub returns-then-arg-gt256-clause-later : goal.returns-then-arg-gt256-clause-later
returns-then-arg-gt256-clause-later g c = c.array_of.ensures.later

pub returns-then-index-found-clause-means : goal.returns-then-index-found-clause-means
returns-then-index-found-clause-means g c = c.array_of.ensures.means

pub returns-then-index-found-clause-later : goal.returns-then-index-found-clause-later
returns-then-index-found-clause-later g c = c.array_of.ensures.later

pub returns-then-code-gt65535-clause-means : goal.returns-then-code-gt65535-clause-means
returns-then-code-gt65535-clause-means g c = c.array_of.ensures.means

pub returns-then-code-gt65535-clause-later : goal.returns-then-code-gt65535-clause-later
returns-then-code-gt65535-clause-later g c = c.array_of.ensures.later

pub returns-then-not-has_record-clause-means : goal.returns-then-not-has_record-clause-means
returns-then-not-has_record-clause-means g c = c.array_of.ensures.means

pub returns-then-not-has_record-clause-later : goal.returns-then-not-has_record-clause-later
returns-then-not-has_record-clause-later g c = c.array_of.ensures.later

pub returns-in_err-get-in-Ok-clause-means : goal.returns-in_err-get-in-Ok-clause-means
returns-in_err-get-in-Ok-clause-means g c = λ t m. c.get.ensures.means t (c.array_of.ensures.means t m)

pub returns-then-not-accepts-clause-means : goal.returns-then-not-accepts-clause-means
returns-then-not-accepts-clause-means g c = λ t m. c.get.ensures.means t (c.array_of.ensures.means t m)

pub returns-else-not-accepts-clause-means : goal.returns-else-not-accepts-clause-means
returns-else-not-accepts-clause-means g c = λ t m. c.get.ensures.means t (c.array_of.ensures.means t m)

-- and it wrote none
pub returns-in-Err-clause-writes : goal.returns-in-Err-clause-writes
returns-in-Err-clause-writes g c = record { only_disk = tt; records = c.array_of.ensures.writes.records }

pub returns-in-Err-clause-kept : goal.returns-in-Err-clause-kept
returns-in-Err-clause-kept g c = c.in_ok-reason.ensures.kept

pub returns-then-arg-gt256-clause-writes : goal.returns-then-arg-gt256-clause-writes
returns-then-arg-gt256-clause-writes g c = record { only_disk = tt; records = c.array_of.ensures.writes.records }

pub returns-then-arg-gt256-clause-kept : goal.returns-then-arg-gt256-clause-kept
returns-then-arg-gt256-clause-kept g c = c.in_ok-reason.ensures.kept

pub returns-then-index-found-clause-writes : goal.returns-then-index-found-clause-writes
returns-then-index-found-clause-writes g c = record { only_disk = tt; records = c.array_of.ensures.writes.records }

pub returns-then-index-found-clause-kept : goal.returns-then-index-found-clause-kept
returns-then-index-found-clause-kept g c = c.in_ok-reason.ensures.kept

pub returns-then-code-gt65535-clause-writes : goal.returns-then-code-gt65535-clause-writes
returns-then-code-gt65535-clause-writes g c = record { only_disk = tt; records = c.array_of.ensures.writes.records }

pub returns-then-code-gt65535-clause-kept : goal.returns-then-code-gt65535-clause-kept
returns-then-code-gt65535-clause-kept g c = c.in_ok-reason.ensures.kept

pub returns-then-not-has_record-clause-writes : goal.returns-then-not-has_record-clause-writes
returns-then-not-has_record-clause-writes g c = record { only_disk = tt; records = c.array_of.ensures.writes.records }

pub returns-then-not-has_record-clause-kept : goal.returns-then-not-has_record-clause-kept
returns-then-not-has_record-clause-kept g c = c.in_ok-reason.ensures.kept

pub returns-then-not-accepts-clause-writes : goal.returns-then-not-accepts-clause-writes
returns-then-not-accepts-clause-writes g c = record { only_disk = tt; records = c.get.ensures.writes.records ∙ c.array_of.ensures.writes.records }

pub returns-else-not-accepts-clause-writes : goal.returns-else-not-accepts-clause-writes
returns-else-not-accepts-clause-writes g c = record { only_disk = tt; records = c.get.ensures.writes.records ∙ c.array_of.ensures.writes.records }

-- nothing is said of an array where there is none
pub returns-in-Err-clause-below : goal.returns-in-Err-clause-below
returns-in-Err-clause-below g c = tt

pub returns-in-Err-clause-short : goal.returns-in-Err-clause-short
returns-in-Err-clause-short g c = tt

pub returns-in-Err-clause-code : goal.returns-in-Err-clause-code
returns-in-Err-clause-code g c = tt

pub returns-then-arg-gt256-clause-below : goal.returns-then-arg-gt256-clause-below
returns-then-arg-gt256-clause-below g c = tt

pub returns-then-arg-gt256-clause-short : goal.returns-then-arg-gt256-clause-short
returns-then-arg-gt256-clause-short g c = tt

pub returns-then-arg-gt256-clause-code : goal.returns-then-arg-gt256-clause-code
returns-then-arg-gt256-clause-code g c = tt

pub returns-then-index-found-clause-below : goal.returns-then-index-found-clause-below
returns-then-index-found-clause-below g c = tt

pub returns-then-index-found-clause-short : goal.returns-then-index-found-clause-short
returns-then-index-found-clause-short g c = tt

pub returns-then-index-found-clause-code : goal.returns-then-index-found-clause-code
returns-then-index-found-clause-code g c = tt

pub returns-then-code-gt65535-clause-below : goal.returns-then-code-gt65535-clause-below
returns-then-code-gt65535-clause-below g c = tt

pub returns-then-code-gt65535-clause-short : goal.returns-then-code-gt65535-clause-short
returns-then-code-gt65535-clause-short g c = tt

pub returns-then-code-gt65535-clause-code : goal.returns-then-code-gt65535-clause-code
returns-then-code-gt65535-clause-code g c = tt

pub returns-then-not-has_record-clause-below : goal.returns-then-not-has_record-clause-below
returns-then-not-has_record-clause-below g c = tt

pub returns-then-not-has_record-clause-short : goal.returns-then-not-has_record-clause-short
returns-then-not-has_record-clause-short g c = tt

pub returns-then-not-has_record-clause-code : goal.returns-then-not-has_record-clause-code
returns-then-not-has_record-clause-code g c = tt

pub returns-then-not-accepts-clause-below : goal.returns-then-not-accepts-clause-below
returns-then-not-accepts-clause-below g c = tt

pub returns-then-not-accepts-clause-short : goal.returns-then-not-accepts-clause-short
returns-then-not-accepts-clause-short g c = tt

pub returns-then-not-accepts-clause-code : goal.returns-then-not-accepts-clause-code
returns-then-not-accepts-clause-code g c = tt

pub returns-in_err-reason-clause-read : goal.returns-in_err-reason-clause-read
returns-in_err-reason-clause-read g c = no_ok_handed _ _ c.from_residual.result c.from_residual.ensures.1

pub returns-in_err-reason-clause-below : goal.returns-in_err-reason-clause-below
returns-in_err-reason-clause-below g c = no_ok_handed _ _ c.from_residual.result c.from_residual.ensures.1

pub returns-in_err-reason-clause-short : goal.returns-in_err-reason-clause-short
returns-in_err-reason-clause-short g c = no_ok_handed _ _ c.from_residual.result c.from_residual.ensures.1

pub returns-in_err-reason-clause-code : goal.returns-in_err-reason-clause-code
returns-in_err-reason-clause-code g c = no_ok_handed _ _ c.from_residual.result c.from_residual.ensures.1

pub returns-in_err-get-in-Ok-clause-read : goal.returns-in_err-get-in-Ok-clause-read
returns-in_err-get-in-Ok-clause-read g c = no_ok_handed _ _ c.from_residual-in_err-get-in-Ok.result c.from_residual-in_err-get-in-Ok.ensures.1

pub returns-in_err-get-in-Ok-clause-below : goal.returns-in_err-get-in-Ok-clause-below
returns-in_err-get-in-Ok-clause-below g c = no_ok_handed _ _ c.from_residual-in_err-get-in-Ok.result c.from_residual-in_err-get-in-Ok.ensures.1

pub returns-in_err-get-in-Ok-clause-short : goal.returns-in_err-get-in-Ok-clause-short
returns-in_err-get-in-Ok-clause-short g c = no_ok_handed _ _ c.from_residual-in_err-get-in-Ok.result c.from_residual-in_err-get-in-Ok.ensures.1

pub returns-in_err-get-in-Ok-clause-code : goal.returns-in_err-get-in-Ok-clause-code
returns-in_err-get-in-Ok-clause-code g c = no_ok_handed _ _ c.from_residual-in_err-get-in-Ok.result c.from_residual-in_err-get-in-Ok.ensures.1
