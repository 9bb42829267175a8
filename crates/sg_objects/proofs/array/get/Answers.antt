use Rattle.std.proofs.Common.{◌∙◌, ◌≤◌, Result, subst, length, IfOk}
use Rattle.sg_model.specs.declared.reason.Reason.{Reason}
use Rattle.sg_model.specs.Verb.Verb.{Get}
use Rattle.sg_objects.specs.Found.{Checked, HasItem}
use Rattle.sg_objects.specs.declared.find.ArrayAt.{ArrayAt}
use Rattle.sg_objects.proofs.Located.{still_contents, array_at}
use Rattle.sg_objects.proofs.Doing.{refused_did}
use Rattle.sg_objects.proofs.Others.{can_get, get_done}
use Rattle.sg_objects.proofs.Bodies.{from_start}
use Rattle.sg_objects.proofs.Counting.{went, went_then, counts_ok, counts_then, no_ok_handed, counts_handed}
use Rattle.sg_objects.proofs.array.get.Goals as goal

pub returns-in-Err-clause-did : goal.returns-in-Err-clause-did
returns-in-Err-clause-did g c =
    refused_did _ 0 c.args.name (Get c.args.index) c.in-Err.reason _ (g.met.P.PageSpace.told_shows _) c.in_ok-reason.ensures.kept c.set.ensures
    (λ shows s h. subst (λ (r : Result ArrayAt Reason). Checked c.args.name (Get c.args.index) s (HasItem c.args.name c.args.index s) r) c.in-Err.is (c.in_ok-reason.ensures.read shows s h))

pub get-requires : goal.get-requires
get-requires g c = λ told.
    let back = c.check_get.ensures.counts.told told in
    let shows = g.met.P.PageSpace.told_shows _ back in
    let h = c.requires.there back in
    let f = subst (λ (r : Result ArrayAt Reason). Checked c.args.name (Get c.args.index) h.0 (HasItem c.args.name c.args.index h.0) r) c.in-Ok.is (c.in_ok-reason.ensures.read shows h.0 h.1) in
    let small = subst (λ (r : Result ArrayAt Reason). IfOk r (λ x. x.size ≤ 256)) c.in-Ok.is c.in_ok-reason.ensures.small in
    (f.at.array, array_at (still_contents c.in_ok-reason.ensures.kept shows h.1) f.at, can_get (length c.args.into.now) f small c.requires.room)

pub returns-in_ok-get-in-Ok-clause-did : goal.returns-in_ok-get-in-Ok-clause-did
returns-in_ok-get-in-Ok-clause-did g c =
    let k = c.in_ok-reason.ensures.kept in
    let k2 = c.in_ok-get-in-Ok.ensures.kept in
    record {
      told = λ told. k2.keeps.told (k.keeps.told told);
      done = λ told s h can.
          let shows = g.met.P.PageSpace.told_shows _ told in
          let mid = k.keeps.told told in
          let shows1 = g.met.P.PageSpace.told_shows _ mid in
          let f = subst (λ (r : Result ArrayAt Reason). Checked c.args.name (Get c.args.index) s (HasItem c.args.name c.args.index s) r) c.in-Ok.is (c.in_ok-reason.ensures.read shows s h) in
          let now = still_contents k shows h in
          let arr = array_at now f.at in
          (s, from_start k shows (get_done _ 0 c.args.index c.get.new.into _ (k2.same shows1) now f (c.in_ok-get-in-Ok.ensures.read shows1 f.at.array arr) c.set.ensures arr));
    }

-- later
pub returns-in_err-get-in-Ok-clause-later : goal.returns-in_err-get-in-Ok-clause-later
returns-in_err-get-in-Ok-clause-later g c = let then = g.met.P.PageSpace.later_then _ in then _ _ _ (c.check_get.ensures.later _) (c.get.ensures.later _)

pub returns-in_ok-get-in-Ok-clause-later : goal.returns-in_ok-get-in-Ok-clause-later
returns-in_ok-get-in-Ok-clause-later g c = let then = g.met.P.PageSpace.later_then _ in then _ _ _ (c.check_get.ensures.later _) (c.get.ensures.later _)

-- how often it failed
pub returns-in_err-reason-clause-counts : goal.returns-in_err-reason-clause-counts
returns-in_err-reason-clause-counts g c =
    counts_handed c.from_residual.result _ c.from_residual.ensures.1 (c.in_err-reason.ensures.counts)

pub returns-in-Err-clause-counts : goal.returns-in-Err-clause-counts
returns-in-Err-clause-counts g c = counts_ok _ (went c.in_ok-reason.ensures.counts)

pub returns-in_err-get-in-Ok-clause-counts : goal.returns-in_err-get-in-Ok-clause-counts
returns-in_err-get-in-Ok-clause-counts g c =
    counts_handed c.from_residual-in_err-get-in-Ok.result _ c.from_residual-in_err-get-in-Ok.ensures.1 (counts_then (went c.in_ok-reason.ensures.counts) c.in_err-get-in-Ok.ensures.counts)

pub returns-in_ok-get-in-Ok-clause-counts : goal.returns-in_ok-get-in-Ok-clause-counts
returns-in_ok-get-in-Ok-clause-counts g c = counts_ok _ (went_then (went c.in_ok-reason.ensures.counts) (went c.in_ok-get-in-Ok.ensures.counts))

-- its records can still be read
pub returns-in_err-reason-clause-means : goal.returns-in_err-reason-clause-means
returns-in_err-reason-clause-means g c = c.check_get.ensures.means _ c.requires.means

pub returns-in-Err-clause-means : goal.returns-in-Err-clause-means
returns-in-Err-clause-means g c = c.check_get.ensures.means _ c.requires.means

pub returns-in_err-get-in-Ok-clause-means : goal.returns-in_err-get-in-Ok-clause-means
returns-in_err-get-in-Ok-clause-means g c = c.get.ensures.means _ (c.check_get.ensures.means _ c.requires.means)

pub returns-in_ok-get-in-Ok-clause-means : goal.returns-in_ok-get-in-Ok-clause-means
returns-in_ok-get-in-Ok-clause-means g c = c.get.ensures.means _ (c.check_get.ensures.means _ c.requires.means)

-- where it noted nothing
pub returns-in-Err-clause-quiet : goal.returns-in-Err-clause-quiet
returns-in-Err-clause-quiet g c = λ _. record { records = c.check_get.ensures.writes.records; still = c.in_ok-reason.ensures.kept.still }

pub returns-in_ok-get-in-Ok-clause-quiet : goal.returns-in_ok-get-in-Ok-clause-quiet
returns-in_ok-get-in-Ok-clause-quiet g c = λ _. record { records = c.get.ensures.writes.records ∙ c.check_get.ensures.writes.records; still = λ s. c.in_ok-get-in-Ok.ensures.kept.still (c.in_ok-reason.ensures.kept.still s) }

pub returns-in-Err-clause-looks : goal.returns-in-Err-clause-looks
returns-in-Err-clause-looks g c = record { writes = record { only_disk = tt; records = c.check_get.ensures.writes.records }; note = c.set.ensures }

pub returns-in_ok-get-in-Ok-clause-looks : goal.returns-in_ok-get-in-Ok-clause-looks
returns-in_ok-get-in-Ok-clause-looks g c = record { writes = record { only_disk = tt; records = c.get.ensures.writes.records ∙ c.check_get.ensures.writes.records }; note = c.set.ensures }

-- nothing is said of a result where there is none
pub returns-in_err-reason-clause-did : goal.returns-in_err-reason-clause-did
returns-in_err-reason-clause-did g c = no_ok_handed _ _ c.from_residual.result c.from_residual.ensures.1

pub returns-in_err-reason-clause-quiet : goal.returns-in_err-reason-clause-quiet
returns-in_err-reason-clause-quiet g c = no_ok_handed _ _ c.from_residual.result c.from_residual.ensures.1

pub returns-in_err-get-in-Ok-clause-did : goal.returns-in_err-get-in-Ok-clause-did
returns-in_err-get-in-Ok-clause-did g c = no_ok_handed _ _ c.from_residual-in_err-get-in-Ok.result c.from_residual-in_err-get-in-Ok.ensures.1

pub returns-in_err-get-in-Ok-clause-quiet : goal.returns-in_err-get-in-Ok-clause-quiet
returns-in_err-get-in-Ok-clause-quiet g c = no_ok_handed _ _ c.from_residual-in_err-get-in-Ok.result c.from_residual-in_err-get-in-Ok.ensures.1

-- and is the space later
pub returns-in_err-reason-clause-later : goal.returns-in_err-reason-clause-later
returns-in_err-reason-clause-later g c = c.check_get.ensures.later _

pub returns-in-Err-clause-later : goal.returns-in-Err-clause-later
returns-in-Err-clause-later g c = c.check_get.ensures.later _
