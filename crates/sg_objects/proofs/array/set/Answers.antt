use Rattle.std.proofs.Common.{◌∙◌, ◌≤◌, Result, subst, length, IfOk}
use Rattle.sg_array.proofs.Links.{still_array}
use Rattle.sg_model.specs.declared.reason.Reason.{Reason}
use Rattle.sg_model.specs.Verb.Verb.{Set}
use Rattle.sg_objects.specs.Found.{Checked, CanSetIn}
use Rattle.sg_objects.specs.declared.find.ArrayAt.{ArrayAt}
use Rattle.sg_objects.proofs.Located.{still_contents, array_at}
use Rattle.sg_objects.proofs.Doing.{refused_did}
use Rattle.sg_objects.proofs.Others.{can_read_old, can_set, set_done}
use Rattle.sg_objects.proofs.Bodies.{from_start}
use Rattle.sg_objects.proofs.Counting.{went, went_then, counts_ok, counts_then, few_none, few_from, no_ok_handed, counts_handed}
use Rattle.sg_objects.proofs.array.set.Goals as goal

pub returns-in-Err-clause-did : goal.returns-in-Err-clause-did
returns-in-Err-clause-did g c =
    refused_did _ 0 c.args.name (Set c.args.index c.args.value.now) c.in-Err.reason _ (g.met.P.PageSpace.told_shows _) c.in_ok-reason.ensures.kept c.set.ensures
    (λ shows s h. subst (λ (r : Result ArrayAt Reason). Checked c.args.name (Set c.args.index c.args.value.now) s (CanSetIn c.args.name c.args.index (length c.args.value.now) s) r) c.in-Err.is (c.in_ok-reason.ensures.read shows s h))

pub get-requires : goal.get-requires
get-requires g c = λ told.
    let back = c.check_set.ensures.counts.told told in
    let shows = g.met.P.PageSpace.told_shows _ back in
    let h = c.requires.there back in
    let f = subst (λ (r : Result ArrayAt Reason). Checked c.args.name (Set c.args.index c.args.value.now) h.0 (CanSetIn c.args.name c.args.index (length c.args.value.now) h.0) r) c.in-Ok.is (c.in_ok-reason.ensures.read shows h.0 h.1) in
    let small = subst (λ (r : Result ArrayAt Reason). IfOk r (λ x. x.size ≤ 256)) c.in-Ok.is c.in_ok-reason.ensures.small in
    (f.at.array, array_at (still_contents c.in_ok-reason.ensures.kept shows h.1) f.at, can_read_old f small)

pub set-requires-in-Ok-clause-can : goal.set-requires-in-Ok-clause-can
set-requires-in-Ok-clause-can g c = λ told.
    let mid = c.get.ensures.counts.told told in
    let back = c.check_set.ensures.counts.told mid in
    let shows = g.met.P.PageSpace.told_shows _ back in
    let h = c.requires.there back in
    let f = subst (λ (r : Result ArrayAt Reason). Checked c.args.name (Set c.args.index c.args.value.now) h.0 (CanSetIn c.args.name c.args.index (length c.args.value.now) h.0) r) c.in-Ok.is (c.in_ok-reason.ensures.read shows h.0 h.1) in
    let arr = array_at (still_contents c.in_ok-reason.ensures.kept shows h.1) f.at in
    (f.at.array, still_array c.in_ok-get-in-Ok.ensures.kept (g.met.P.PageSpace.told_shows _ mid) arr, can_set f)

pub returns-in_ok-set-in-Ok-clause-did : goal.returns-in_ok-set-in-Ok-clause-did
returns-in_ok-set-in-Ok-clause-did g c =
    let k = c.in_ok-reason.ensures.kept in
    let k2 = c.in_ok-get-in-Ok.ensures.kept in
    let did = c.in_ok-set-in-Ok.ensures.did in
    record {
      told = λ told. let two = k2.keeps.told (k.keeps.told told) in (did.keeps two).told two;
      done = λ told s h can.
          let shows = g.met.P.PageSpace.told_shows _ told in
          let mid = k.keeps.told told in
          let shows1 = g.met.P.PageSpace.told_shows _ mid in
          let two = k2.keeps.told mid in
          let f = subst (λ (r : Result ArrayAt Reason). Checked c.args.name (Set c.args.index c.args.value.now) s (CanSetIn c.args.name c.args.index (length c.args.value.now) s) r) c.in-Ok.is (c.in_ok-reason.ensures.read shows s h) in
          let now = still_contents k shows h in
          let arr = array_at now f.at in
          let arr2 = still_array k2 shows1 arr in
          let one = did.turns two f.at.array arr2 (can_set f) in
          (_, from_start k shows (from_start k2 shows1 (set_done _ 0 c.args.index c.args.value.now c.get.new.into _ (still_contents k2 shows1 now) f one.1 one.2 (c.in_ok-get-in-Ok.ensures.read shows1 f.at.array arr) c.note_set.ensures arr2)));
    }

-- later
pub returns-in_err-get-in-Ok-clause-later : goal.returns-in_err-get-in-Ok-clause-later
returns-in_err-get-in-Ok-clause-later g c = let then = g.met.P.PageSpace.later_then _ in then _ _ _ (c.check_set.ensures.later _) (c.get.ensures.later _)

pub returns-in_err-set-in-Ok-clause-later : goal.returns-in_err-set-in-Ok-clause-later
returns-in_err-set-in-Ok-clause-later g c = let then = g.met.P.PageSpace.later_then _ in then _ _ _ (c.check_set.ensures.later _) (then _ _ _ (c.get.ensures.later _) c.set-in-Ok.ensures.later)

pub returns-in_ok-set-in-Ok-clause-later : goal.returns-in_ok-set-in-Ok-clause-later
returns-in_ok-set-in-Ok-clause-later g c = let then = g.met.P.PageSpace.later_then _ in then _ _ _ (c.check_set.ensures.later _) (then _ _ _ (c.get.ensures.later _) c.set-in-Ok.ensures.later)

-- how often it failed
pub returns-in_err-reason-clause-counts : goal.returns-in_err-reason-clause-counts
returns-in_err-reason-clause-counts g c =
    counts_handed c.from_residual.result _ c.from_residual.ensures.1 (c.in_err-reason.ensures.counts)

pub returns-in-Err-clause-counts : goal.returns-in-Err-clause-counts
returns-in-Err-clause-counts g c = counts_ok _ (went c.in_ok-reason.ensures.counts)

pub returns-in_err-get-in-Ok-clause-counts : goal.returns-in_err-get-in-Ok-clause-counts
returns-in_err-get-in-Ok-clause-counts g c =
    counts_handed c.from_residual-in_err-get-in-Ok.result _ c.from_residual-in_err-get-in-Ok.ensures.1 (counts_then (went c.in_ok-reason.ensures.counts) c.in_err-get-in-Ok.ensures.counts)

pub returns-in_err-set-in-Ok-clause-counts : goal.returns-in_err-set-in-Ok-clause-counts
returns-in_err-set-in-Ok-clause-counts g c =
    counts_handed c.from_residual-in_err-set-in-Ok.result _ c.from_residual-in_err-set-in-Ok.ensures.1 (counts_then (went_then (went c.in_ok-reason.ensures.counts) (went c.in_ok-get-in-Ok.ensures.counts)) c.in_err-set-in-Ok.ensures.counts)

pub returns-in_ok-set-in-Ok-clause-counts : goal.returns-in_ok-set-in-Ok-clause-counts
returns-in_ok-set-in-Ok-clause-counts g c = counts_ok _ (went_then (went c.in_ok-reason.ensures.counts) (went_then (went c.in_ok-get-in-Ok.ensures.counts) (went c.in_ok-set-in-Ok.ensures.counts)))

-- its records can still be read
pub returns-in_err-reason-clause-means : goal.returns-in_err-reason-clause-means
returns-in_err-reason-clause-means g c = c.check_set.ensures.means _ c.requires.means

pub returns-in-Err-clause-means : goal.returns-in-Err-clause-means
returns-in-Err-clause-means g c = c.check_set.ensures.means _ c.requires.means

pub returns-in_err-get-in-Ok-clause-means : goal.returns-in_err-get-in-Ok-clause-means
returns-in_err-get-in-Ok-clause-means g c = c.get.ensures.means _ (c.check_set.ensures.means _ c.requires.means)

pub returns-in_err-set-in-Ok-clause-means : goal.returns-in_err-set-in-Ok-clause-means
returns-in_err-set-in-Ok-clause-means g c = c.set-in-Ok.ensures.means

pub returns-in_ok-set-in-Ok-clause-means : goal.returns-in_ok-set-in-Ok-clause-means
returns-in_ok-set-in-Ok-clause-means g c = c.set-in-Ok.ensures.means

-- how many records it wrote
pub returns-in_err-reason-clause-few : goal.returns-in_err-reason-clause-few
returns-in_err-reason-clause-few g c = few_none (g.P.PageSpace.view c.args.space.now) (g.P.PageSpace.view c.check_set.new.space) _ c.check_set.ensures.writes.records

pub returns-in-Err-clause-few : goal.returns-in-Err-clause-few
returns-in-Err-clause-few g c = few_none (g.P.PageSpace.view c.args.space.now) (g.P.PageSpace.view c.check_set.new.space) _ c.check_set.ensures.writes.records

pub returns-in_err-get-in-Ok-clause-few : goal.returns-in_err-get-in-Ok-clause-few
returns-in_err-get-in-Ok-clause-few g c = few_none (g.P.PageSpace.view c.args.space.now) (g.P.PageSpace.view c.get.new.space) _ (c.get.ensures.writes.records ∙ c.check_set.ensures.writes.records)

pub returns-in_err-set-in-Ok-clause-few : goal.returns-in_err-set-in-Ok-clause-few
returns-in_err-set-in-Ok-clause-few g c = few_from (g.P.PageSpace.view c.args.space.now) (g.P.PageSpace.view c.get.new.space) (g.P.PageSpace.view c.set-in-Ok.new.space) _ (c.get.ensures.writes.records ∙ c.check_set.ensures.writes.records) c.set-in-Ok.ensures.few

pub returns-in_ok-set-in-Ok-clause-few : goal.returns-in_ok-set-in-Ok-clause-few
returns-in_ok-set-in-Ok-clause-few g c = few_from (g.P.PageSpace.view c.args.space.now) (g.P.PageSpace.view c.get.new.space) (g.P.PageSpace.view c.set-in-Ok.new.space) _ (c.get.ensures.writes.records ∙ c.check_set.ensures.writes.records) c.set-in-Ok.ensures.few

-- where it noted nothing
pub returns-in-Err-clause-quiet : goal.returns-in-Err-clause-quiet
returns-in-Err-clause-quiet g c = λ _. record { records = c.check_set.ensures.writes.records; still = c.in_ok-reason.ensures.kept.still }

pub returns-in_err-reason-clause-did : goal.returns-in_err-reason-clause-did
returns-in_err-reason-clause-did g c = no_ok_handed _ _ c.from_residual.result c.from_residual.ensures.1

pub returns-in_err-reason-clause-quiet : goal.returns-in_err-reason-clause-quiet
returns-in_err-reason-clause-quiet g c = no_ok_handed _ _ c.from_residual.result c.from_residual.ensures.1

pub returns-in_err-get-in-Ok-clause-did : goal.returns-in_err-get-in-Ok-clause-did
returns-in_err-get-in-Ok-clause-did g c = no_ok_handed _ _ c.from_residual-in_err-get-in-Ok.result c.from_residual-in_err-get-in-Ok.ensures.1

pub returns-in_err-get-in-Ok-clause-quiet : goal.returns-in_err-get-in-Ok-clause-quiet
returns-in_err-get-in-Ok-clause-quiet g c = no_ok_handed _ _ c.from_residual-in_err-get-in-Ok.result c.from_residual-in_err-get-in-Ok.ensures.1

pub returns-in_err-set-in-Ok-clause-did : goal.returns-in_err-set-in-Ok-clause-did
returns-in_err-set-in-Ok-clause-did g c = no_ok_handed _ _ c.from_residual-in_err-set-in-Ok.result c.from_residual-in_err-set-in-Ok.ensures.1

pub returns-in_err-set-in-Ok-clause-quiet : goal.returns-in_err-set-in-Ok-clause-quiet
returns-in_err-set-in-Ok-clause-quiet g c = no_ok_handed _ _ c.from_residual-in_err-set-in-Ok.result c.from_residual-in_err-set-in-Ok.ensures.1

-- and is the space later
pub returns-in_err-reason-clause-later : goal.returns-in_err-reason-clause-later
returns-in_err-reason-clause-later g c = c.check_set.ensures.later _

pub returns-in-Err-clause-later : goal.returns-in-Err-clause-later
returns-in-Err-clause-later g c = c.check_set.ensures.later _
