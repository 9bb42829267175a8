use Rattle.sg_model.specs.Verb.Verb.{Apply}
use Rattle.sg_objects.proofs.Located.{still_contents, array_at}
use Rattle.sg_objects.proofs.Applying.{refused_by, can_apply, apply_done}
use Rattle.sg_objects.proofs.Bodies.{from_start}
use Rattle.sg_objects.proofs.Counting.{went, went_then, counts_ok, counts_then, few_none, few_from, no_ok_handed, counts_handed}
use Rattle.sg_objects.proofs.apply.apply.Goals as goal

pub returns-in-Err-clause-did : goal.returns-in-Err-clause-did
returns-in-Err-clause-did g c =
    refused_by _ 0 c.args.name (Apply c.args.index c.args.code c.args.arg.now) c.in-Err.reason _ (g.met.P.PageSpace.told_shows _) c.in_ok-reason.ensures.kept c.set.ensures
    (λ shows s h. (c.in_ok-reason.ensures.read shows s h).err c.in-Err.reason c.in-Err.is)

pub apply-requires-clause-there : goal.apply-requires-clause-there
apply-requires-clause-there g c = λ told.
    let back = c.check_apply.ensures.counts.told told in
    let shows = g.met.P.PageSpace.told_shows _ back in
    let h = c.requires.there back in
    let f = (c.in_ok-reason.ensures.read shows h.0 h.1).ok c.in-Ok.found c.in-Ok.is in
    (f.at.array, array_at (still_contents c.in_ok-reason.ensures.kept shows h.1) f.at, can_apply f)

pub returns-in_ok-apply-in-Ok-clause-did : goal.returns-in_ok-apply-in-Ok-clause-did
returns-in_ok-apply-in-Ok-clause-did g c =
    let k = c.in_ok-reason.ensures.kept in
    let did = c.in_ok-apply-in-Ok.ensures.did in
    record {
      told = λ told. (did.keeps (k.keeps.told told)).told (k.keeps.told told);
      done = λ told s h can.
          let shows = g.met.P.PageSpace.told_shows _ told in
          let mid = k.keeps.told told in
          let f = (c.in_ok-reason.ensures.read shows s h).ok c.in-Ok.found c.in-Ok.is in
          let now = still_contents k shows h in
          let arr = array_at now f.at in
          let one = did.turns mid f.at.array arr (can_apply f) in
          (_, from_start k shows (apply_done _ 0 c.args.name c.args.index c.args.code c.args.arg.now _ now f one.1 one.2 c.note_apply.ensures arr));
    }

-- later
pub returns-in_err-apply-in-Ok-clause-later : goal.returns-in_err-apply-in-Ok-clause-later
returns-in_err-apply-in-Ok-clause-later g c = let then = g.met.P.PageSpace.later_then _ in then _ _ _ (c.check_apply.ensures.later _) c.apply.ensures.later

pub returns-in_ok-apply-in-Ok-clause-later : goal.returns-in_ok-apply-in-Ok-clause-later
returns-in_ok-apply-in-Ok-clause-later g c = let then = g.met.P.PageSpace.later_then _ in then _ _ _ (c.check_apply.ensures.later _) c.apply.ensures.later

-- how often it failed
pub returns-in_err-reason-clause-counts : goal.returns-in_err-reason-clause-counts
returns-in_err-reason-clause-counts g c =
    counts_handed c.from_residual.result _ c.from_residual.ensures.1 (c.in_err-reason.ensures.counts)

pub returns-in-Err-clause-counts : goal.returns-in-Err-clause-counts
returns-in-Err-clause-counts g c = counts_ok _ (went c.in_ok-reason.ensures.counts)

pub returns-in_err-apply-in-Ok-clause-counts : goal.returns-in_err-apply-in-Ok-clause-counts
returns-in_err-apply-in-Ok-clause-counts g c =
    counts_handed c.from_residual-in_err-apply-in-Ok.result _ c.from_residual-in_err-apply-in-Ok.ensures.1 (counts_then (went c.in_ok-reason.ensures.counts) c.in_err-apply-in-Ok.ensures.counts)

pub returns-in_ok-apply-in-Ok-clause-counts : goal.returns-in_ok-apply-in-Ok-clause-counts
returns-in_ok-apply-in-Ok-clause-counts g c = counts_ok _ (went_then (went c.in_ok-reason.ensures.counts) (went c.in_ok-apply-in-Ok.ensures.counts))

-- its records can still be read
pub returns-in_err-reason-clause-means : goal.returns-in_err-reason-clause-means
returns-in_err-reason-clause-means g c = c.check_apply.ensures.means _ c.requires.means

pub returns-in-Err-clause-means : goal.returns-in-Err-clause-means
returns-in-Err-clause-means g c = c.check_apply.ensures.means _ c.requires.means

pub returns-in_err-apply-in-Ok-clause-means : goal.returns-in_err-apply-in-Ok-clause-means
returns-in_err-apply-in-Ok-clause-means g c = c.apply.ensures.means

pub returns-in_ok-apply-in-Ok-clause-means : goal.returns-in_ok-apply-in-Ok-clause-means
returns-in_ok-apply-in-Ok-clause-means g c = c.apply.ensures.means

-- how many records it wrote
pub returns-in_err-reason-clause-few : goal.returns-in_err-reason-clause-few
returns-in_err-reason-clause-few g c = few_none (g.P.PageSpace.view c.args.space.now) (g.P.PageSpace.view c.check_apply.new.space) _ c.check_apply.ensures.writes.records

pub returns-in-Err-clause-few : goal.returns-in-Err-clause-few
returns-in-Err-clause-few g c = few_none (g.P.PageSpace.view c.args.space.now) (g.P.PageSpace.view c.check_apply.new.space) _ c.check_apply.ensures.writes.records

pub returns-in_err-apply-in-Ok-clause-few : goal.returns-in_err-apply-in-Ok-clause-few
returns-in_err-apply-in-Ok-clause-few g c = few_from (g.P.PageSpace.view c.args.space.now) (g.P.PageSpace.view c.check_apply.new.space) (g.P.PageSpace.view c.apply.new.space) _ (c.check_apply.ensures.writes.records) c.apply.ensures.few

pub returns-in_ok-apply-in-Ok-clause-few : goal.returns-in_ok-apply-in-Ok-clause-few
returns-in_ok-apply-in-Ok-clause-few g c = few_from (g.P.PageSpace.view c.args.space.now) (g.P.PageSpace.view c.check_apply.new.space) (g.P.PageSpace.view c.apply.new.space) _ (c.check_apply.ensures.writes.records) c.apply.ensures.few

-- where it noted nothing
pub returns-in-Err-clause-quiet : goal.returns-in-Err-clause-quiet
returns-in-Err-clause-quiet g c = λ _. record { records = c.check_apply.ensures.writes.records; still = c.in_ok-reason.ensures.kept.still }

pub returns-in_err-reason-clause-did : goal.returns-in_err-reason-clause-did
returns-in_err-reason-clause-did g c = no_ok_handed _ _ c.from_residual.result c.from_residual.ensures.1

pub returns-in_err-reason-clause-quiet : goal.returns-in_err-reason-clause-quiet
returns-in_err-reason-clause-quiet g c = no_ok_handed _ _ c.from_residual.result c.from_residual.ensures.1

pub returns-in_err-apply-in-Ok-clause-did : goal.returns-in_err-apply-in-Ok-clause-did
returns-in_err-apply-in-Ok-clause-did g c = no_ok_handed _ _ c.from_residual-in_err-apply-in-Ok.result c.from_residual-in_err-apply-in-Ok.ensures.1

pub returns-in_err-apply-in-Ok-clause-quiet : goal.returns-in_err-apply-in-Ok-clause-quiet
returns-in_err-apply-in-Ok-clause-quiet g c = no_ok_handed _ _ c.from_residual-in_err-apply-in-Ok.result c.from_residual-in_err-apply-in-Ok.ensures.1

-- and is the space later
pub returns-in_err-reason-clause-later : goal.returns-in_err-reason-clause-later
returns-in_err-reason-clause-later g c = c.check_apply.ensures.later _

pub returns-in-Err-clause-later : goal.returns-in-Err-clause-later
returns-in-Err-clause-later g c = c.check_apply.ensures.later _
