use Rattle.std.proofs.Common.{Result, subst, length}
use Rattle.sg_model.specs.declared.reason.Reason.{Reason}
use Rattle.sg_model.specs.Verb.Verb.{Push}
use Rattle.sg_objects.specs.Found.{Checked, CanPushTo}
use Rattle.sg_objects.specs.declared.find.ArrayAt.{ArrayAt}
use Rattle.sg_objects.proofs.Located.{still_contents, array_at}
use Rattle.sg_objects.proofs.Doing.{refused_did, still_room, can_push, push_done}
use Rattle.sg_objects.proofs.Fresh.{still_fresh}
use Rattle.sg_objects.proofs.Bodies.{from_start}
use Rattle.sg_objects.proofs.array.push.Goals as goal

pub returns-in-Err-clause-did : goal.returns-in-Err-clause-did
returns-in-Err-clause-did g c =
    refused_did _ 0 c.args.name (Push c.args.value.now) c.in-Err.reason _ (g.met.P.PageSpace.told_shows _) c.in_ok-reason.ensures.kept c.set.ensures
    (λ shows s h. subst (λ (r : Result ArrayAt Reason). Checked c.args.name (Push c.args.value.now) s (CanPushTo c.args.name (length c.args.value.now) s) r) c.in-Err.is (c.in_ok-reason.ensures.read shows s h))

pub push-requires-clause-can : goal.push-requires-clause-can
push-requires-clause-can g c = λ told.
    let back = c.check_push.ensures.counts.told told in
    let shows = g.met.P.PageSpace.told_shows _ back in
    let h = c.requires.there back in
    let k = c.in_ok-reason.ensures.kept in
    let f = subst (λ (r : Result ArrayAt Reason). Checked c.args.name (Push c.args.value.now) h.0 (CanPushTo c.args.name (length c.args.value.now) h.0) r) c.in-Ok.is (c.in_ok-reason.ensures.read shows h.0 h.1) in
    let now = still_contents k shows h.1 in
    (f.at.array, array_at now f.at, can_push _ c.args.value.now now f (still_fresh k shows (c.requires.fresh back)) (still_room k shows h.2))

pub returns-in_ok-index-in-Ok-clause-did : goal.returns-in_ok-index-in-Ok-clause-did
returns-in_ok-index-in-Ok-clause-did g c =
    let k = c.in_ok-reason.ensures.kept in
    let did = c.in_ok-index-in-Ok.ensures.did in
    record {
      told = λ told. (did.keeps (k.keeps.told told)).told (k.keeps.told told);
      done = λ told s h can.
          let shows = g.met.P.PageSpace.told_shows _ told in
          let mid = k.keeps.told told in
          let f = subst (λ (r : Result ArrayAt Reason). Checked c.args.name (Push c.args.value.now) s (CanPushTo c.args.name (length c.args.value.now) s) r) c.in-Ok.is (c.in_ok-reason.ensures.read shows s h) in
          let now = still_contents k shows h in
          let arr = array_at now f.at in
          let one = did.turns mid f.at.array arr (can_push _ c.args.value.now now f (still_fresh k shows (c.requires.fresh told)) (still_room k shows can)) in
          (_, from_start k shows (push_done _ 0 c.args.value.now _ _ now f one.1 one.2 (c.in_ok-index-in-Ok.ensures.index (g.met.P.PageSpace.told_shows _ mid) f.at.array arr) c.note_push.ensures));
    }

-- later
pub returns-in_err-index-in-Ok-clause-later : goal.returns-in_err-index-in-Ok-clause-later
returns-in_err-index-in-Ok-clause-later g c = let then = g.met.P.PageSpace.later_then _ in then _ _ _ (c.check_push.ensures.later _) c.push.ensures.later

pub returns-in_ok-index-in-Ok-clause-later : goal.returns-in_ok-index-in-Ok-clause-later
returns-in_ok-index-in-Ok-clause-later g c = let then = g.met.P.PageSpace.later_then _ in then _ _ _ (c.check_push.ensures.later _) c.push.ensures.later
