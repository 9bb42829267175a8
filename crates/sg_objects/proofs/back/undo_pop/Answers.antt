use Rattle.std.proofs.Common.{◌∙◌, Result, subst}
use Rattle.sg_base.specs.declared.numbers.PageNo.{PageNo}
use Rattle.sg_catalog.specs.declared.row.ObjectKind.TheVariants as kinds
use Rattle.sg_model.specs.declared.reason.Reason.{Reason}
use Rattle.sg_model.specs.Step.{push}
use Rattle.sg_objects.specs.Found.{IsLocated}
use Rattle.sg_objects.proofs.Located.{still_contents}
use Rattle.sg_objects.proofs.Checks.{array_there}
use Rattle.sg_objects.proofs.Fresh.{still_fresh}
use Rattle.sg_objects.proofs.Undoing.{not_missing, carried_at, pop_planned, lower, can_repush, undo_pop_done}
use Rattle.sg_objects.proofs.Bodies.{undone_from}
use Rattle.sg_objects.proofs.Counting.{went, went_then, counts_ok, counts_then, counts_broken, few_none, few_from, counts_handed}
use Rattle.sg_objects.proofs.back.undo_pop.Goals as goal

pub broken-requires : goal.broken-requires
broken-requires g c = λ told.
    let back = c.root_of.ensures.counts.told told in
    let shows = g.met.P.PageSpace.told_shows _ back in
    let h = c.requires.there back in
    let m = subst (λ (r : Result PageNo Reason). IsLocated kinds.Array c.args.name h.0 r) c.in-Err.is (c.in_ok-root_of.ensures.read shows h.0 h.1) in
    not_missing c.args.name (push c.args.item.now) _ _ h.1 m (pop_planned h.0 c.args.name _ c.args.item.now (h.2).th (h.2).possible)

pub push-requires-clause-can : goal.push-requires-clause-can
push-requires-clause-can g c = λ told.
    let back = c.root_of.ensures.counts.told told in
    let shows = g.met.P.PageSpace.told_shows _ back in
    let h = c.requires.there back in
    let k = c.in_ok-root_of.ensures.kept in
    let f = subst (λ (r : Result PageNo Reason). IsLocated kinds.Array c.args.name h.0 r) c.in-Ok.is (c.in_ok-root_of.ensures.read shows h.0 h.1) in
    let now = still_contents k shows h.1 in
    let a = array_there now f in
    let w = carried_at (push c.args.item.now) (h.2).th f a.1 (pop_planned h.0 c.args.name _ c.args.item.now (h.2).th (h.2).possible) in
    (a.0, a.2, can_repush c.args.item.now now f a.1 a.2 (still_fresh k shows (c.requires.fresh back)) w (lower _ c.args.item.now (h.2).th f a.1 (h.2).possible))

pub returns-in_ok-push-in-Ok-clause-did : goal.returns-in_ok-push-in-Ok-clause-did
returns-in_ok-push-in-Ok-clause-did g c =
    let k = c.in_ok-root_of.ensures.kept in
    let did = c.in_ok-push-in-Ok.ensures.did in
    record {
      told = λ told.
          let mid = k.keeps.told told in
          (did.keeps mid).told mid;
      done = λ told s h th e.
          let shows = g.met.P.PageSpace.told_shows _ told in
          let mid = k.keeps.told told in
          let f = subst (λ (r : Result PageNo Reason). IsLocated kinds.Array c.args.name s r) c.in-Ok.is (c.in_ok-root_of.ensures.read shows s h) in
          let now = still_contents k shows h in
          let a = array_there now f in
          let w = carried_at (push c.args.item.now) th f a.1 (pop_planned s c.args.name _ c.args.item.now th e) in
          let one = did.turns mid a.0 a.2 (can_repush c.args.item.now now f a.1 a.2 (still_fresh k shows (c.requires.fresh told)) w (lower _ c.args.item.now th f a.1 e)) in
          (_, undone_from k shows (undo_pop_done _ c.args.name c.args.item.now th now f a.1 a.2 e one.1 one.2));
    }

-- later
pub returns-in_err-push-in-Ok-clause-later : goal.returns-in_err-push-in-Ok-clause-later
returns-in_err-push-in-Ok-clause-later g c = let then = g.met.P.PageSpace.later_then _ in then _ _ _ (c.root_of.ensures.later _) c.push.ensures.later

pub returns-in-Err-clause-later : goal.returns-in-Err-clause-later
returns-in-Err-clause-later g c = let then = g.met.P.PageSpace.later_then _ in then _ _ _ (c.root_of.ensures.later _) (c.broken.ensures.later _)

pub returns-in_ok-push-in-Ok-clause-later : goal.returns-in_ok-push-in-Ok-clause-later
returns-in_ok-push-in-Ok-clause-later g c = let then = g.met.P.PageSpace.later_then _ in then _ _ _ (c.root_of.ensures.later _) c.push.ensures.later

-- how often it failed
pub returns-in_err-root_of-clause-counts : goal.returns-in_err-root_of-clause-counts
returns-in_err-root_of-clause-counts g c =
    counts_handed c.from_residual.result _ c.from_residual.ensures.1 (c.in_err-root_of.ensures.counts)

pub returns-in-Err-clause-counts : goal.returns-in-Err-clause-counts
returns-in-Err-clause-counts g c = counts_then (went c.in_ok-root_of.ensures.counts) (counts_broken _ c.broken.ensures.answer c.broken.ensures.told c.broken.ensures.risen c.broken.ensures.rising)

pub returns-in_err-push-in-Ok-clause-counts : goal.returns-in_err-push-in-Ok-clause-counts
returns-in_err-push-in-Ok-clause-counts g c =
    counts_handed c.from_residual-in_err-push-in-Ok.result _ c.from_residual-in_err-push-in-Ok.ensures.1 (counts_then (went c.in_ok-root_of.ensures.counts) c.in_err-push-in-Ok.ensures.counts)

pub returns-in_ok-push-in-Ok-clause-counts : goal.returns-in_ok-push-in-Ok-clause-counts
returns-in_ok-push-in-Ok-clause-counts g c = counts_ok _ (went_then (went c.in_ok-root_of.ensures.counts) (went c.in_ok-push-in-Ok.ensures.counts))

-- its records can still be read
pub returns-in_err-root_of-clause-means : goal.returns-in_err-root_of-clause-means
returns-in_err-root_of-clause-means g c = c.root_of.ensures.means _ c.requires.means

pub returns-in-Err-clause-means : goal.returns-in-Err-clause-means
returns-in-Err-clause-means g c = c.broken.ensures.means _ (c.root_of.ensures.means _ c.requires.means)

pub returns-in_err-push-in-Ok-clause-means : goal.returns-in_err-push-in-Ok-clause-means
returns-in_err-push-in-Ok-clause-means g c = c.push.ensures.means

pub returns-in_ok-push-in-Ok-clause-means : goal.returns-in_ok-push-in-Ok-clause-means
returns-in_ok-push-in-Ok-clause-means g c = c.push.ensures.means

-- how many records it wrote
pub returns-in_err-root_of-clause-few : goal.returns-in_err-root_of-clause-few
returns-in_err-root_of-clause-few g c = few_none (g.P.PageSpace.view c.args.space.now) (g.P.PageSpace.view c.root_of.new.space) _ c.root_of.ensures.writes.records

pub returns-in-Err-clause-few : goal.returns-in-Err-clause-few
returns-in-Err-clause-few g c = few_none (g.P.PageSpace.view c.args.space.now) (g.P.PageSpace.view c.broken.new.self) _ (c.broken.ensures.writes_none ∙ c.root_of.ensures.writes.records)

pub returns-in_err-push-in-Ok-clause-few : goal.returns-in_err-push-in-Ok-clause-few
returns-in_err-push-in-Ok-clause-few g c = few_from (g.P.PageSpace.view c.args.space.now) (g.P.PageSpace.view c.root_of.new.space) (g.P.PageSpace.view c.push.new.space) _ c.root_of.ensures.writes.records c.push.ensures.few

pub returns-in_ok-push-in-Ok-clause-few : goal.returns-in_ok-push-in-Ok-clause-few
returns-in_ok-push-in-Ok-clause-few g c = few_from (g.P.PageSpace.view c.args.space.now) (g.P.PageSpace.view c.root_of.new.space) (g.P.PageSpace.view c.push.new.space) _ c.root_of.ensures.writes.records c.push.ensures.few

-- and is the space later
pub returns-in_err-root_of-clause-later : goal.returns-in_err-root_of-clause-later
returns-in_err-root_of-clause-later g c = c.root_of.ensures.later _

pub returns-in-Err-clause-did : goal.returns-in-Err-clause-did
returns-in-Err-clause-did g c = tt
