use Rattle.std.proofs.Common.{◌∙◌, Result, subst}
use Rattle.sg_base.specs.declared.numbers.PageNo.{PageNo}
use Rattle.sg_catalog.specs.declared.row.ObjectKind.TheVariants as kinds
use Rattle.sg_model.specs.declared.reason.Reason.{Reason}
use Rattle.sg_model.specs.Step.{pop}
use Rattle.sg_objects.specs.Found.{IsLocated}
use Rattle.sg_objects.proofs.Located.{still_contents}
use Rattle.sg_objects.proofs.Checks.{array_there}
use Rattle.sg_objects.proofs.Undoing.{not_missing, carried_at, can_unpush, undo_push_done}
use Rattle.sg_objects.proofs.Bodies.{undone_from}
use Rattle.sg_objects.proofs.Counting.{went, went_then, counts_ok, counts_then, counts_broken, few_none, few_from, counts_handed}
use Rattle.sg_objects.proofs.back.undo_push.Goals as goal

pub broken-requires : goal.broken-requires
broken-requires g c = λ told.
    let back = c.root_of.ensures.counts.told told in
    let shows = g.met.P.PageSpace.told_shows _ back in
    let h = c.requires.can back in
    let m = subst (λ (r : Result PageNo Reason). IsLocated kinds.Array c.args.name h.0 r) c.in-Err.is (c.in_ok-root_of.ensures.read shows h.0 h.1) in
    not_missing c.args.name (pop) _ _ h.1 m ((h.2).possible)

pub pop-requires-clause-can : goal.pop-requires-clause-can
pop-requires-clause-can g c = λ told.
    let back = c.root_of.ensures.counts.told told in
    let shows = g.met.P.PageSpace.told_shows _ back in
    let h = c.requires.can back in
    let k = c.in_ok-root_of.ensures.kept in
    let f = subst (λ (r : Result PageNo Reason). IsLocated kinds.Array c.args.name h.0 r) c.in-Ok.is (c.in_ok-root_of.ensures.read shows h.0 h.1) in
    let a = array_there (still_contents k shows h.1) f in
    let w = carried_at (pop) (h.2).th f a.1 ((h.2).possible) in
    (a.0, a.2, can_unpush a.2 w)

pub returns-in_ok-pop-in-Ok-clause-did : goal.returns-in_ok-pop-in-Ok-clause-did
returns-in_ok-pop-in-Ok-clause-did g c =
    let k = c.in_ok-root_of.ensures.kept in
    let did = c.in_ok-pop-in-Ok.ensures.did in
    record {
      told = λ told.
          let mid = k.keeps.told told in
          let h = c.requires.can told in
          let shows = g.met.P.PageSpace.told_shows _ told in
          let f = subst (λ (r : Result PageNo Reason). IsLocated kinds.Array c.args.name h.0 r) c.in-Ok.is (c.in_ok-root_of.ensures.read shows h.0 h.1) in
          let a = array_there (still_contents k shows h.1) f in
          (did.keeps mid a.0 a.2).told mid;
      done = λ told s h th e.
          let shows = g.met.P.PageSpace.told_shows _ told in
          let mid = k.keeps.told told in
          let f = subst (λ (r : Result PageNo Reason). IsLocated kinds.Array c.args.name s r) c.in-Ok.is (c.in_ok-root_of.ensures.read shows s h) in
          let now = still_contents k shows h in
          let a = array_there now f in
          let w = carried_at (pop) th f a.1 (e) in
          let one = did.turns mid a.0 a.2 (can_unpush a.2 w) in
          (_, undone_from k shows (undo_push_done c.args.name th now f a.1 e one.1 one.2));
    }

-- later
pub returns-in_err-pop-in-Ok-clause-later : goal.returns-in_err-pop-in-Ok-clause-later
returns-in_err-pop-in-Ok-clause-later g c = let then = g.met.P.PageSpace.later_then _ in then _ _ _ (c.root_of.ensures.later _) c.pop.ensures.later

pub returns-in-Err-clause-later : goal.returns-in-Err-clause-later
returns-in-Err-clause-later g c = let then = g.met.P.PageSpace.later_then _ in then _ _ _ (c.root_of.ensures.later _) (c.broken.ensures.later _)

pub returns-in_ok-pop-in-Ok-clause-later : goal.returns-in_ok-pop-in-Ok-clause-later
returns-in_ok-pop-in-Ok-clause-later g c = let then = g.met.P.PageSpace.later_then _ in then _ _ _ (c.root_of.ensures.later _) c.pop.ensures.later

-- how often it failed
pub returns-in_err-root_of-clause-counts : goal.returns-in_err-root_of-clause-counts
returns-in_err-root_of-clause-counts g c =
    counts_handed c.from_residual.result _ c.from_residual.ensures.1 (c.in_err-root_of.ensures.counts)

pub returns-in-Err-clause-counts : goal.returns-in-Err-clause-counts
returns-in-Err-clause-counts g c = counts_then (went c.in_ok-root_of.ensures.counts) (counts_broken _ c.broken.ensures.answer c.broken.ensures.told c.broken.ensures.risen c.broken.ensures.rising)

pub returns-in_err-pop-in-Ok-clause-counts : goal.returns-in_err-pop-in-Ok-clause-counts
returns-in_err-pop-in-Ok-clause-counts g c =
    counts_handed c.from_residual-in_err-pop-in-Ok.result _ c.from_residual-in_err-pop-in-Ok.ensures.1 (counts_then (went c.in_ok-root_of.ensures.counts) c.in_err-pop-in-Ok.ensures.counts)

pub returns-in_ok-pop-in-Ok-clause-counts : goal.returns-in_ok-pop-in-Ok-clause-counts
returns-in_ok-pop-in-Ok-clause-counts g c = counts_ok _ (went_then (went c.in_ok-root_of.ensures.counts) (went c.in_ok-pop-in-Ok.ensures.counts))

-- its records can still be read
pub returns-in_err-root_of-clause-means : goal.returns-in_err-root_of-clause-means
returns-in_err-root_of-clause-means g c = c.root_of.ensures.means _ c.requires.means

pub returns-in-Err-clause-means : goal.returns-in-Err-clause-means
returns-in-Err-clause-means g c = c.broken.ensures.means _ (c.root_of.ensures.means _ c.requires.means)

pub returns-in_err-pop-in-Ok-clause-means : goal.returns-in_err-pop-in-Ok-clause-means
returns-in_err-pop-in-Ok-clause-means g c = c.pop.ensures.means

pub returns-in_ok-pop-in-Ok-clause-means : goal.returns-in_ok-pop-in-Ok-clause-means
returns-in_ok-pop-in-Ok-clause-means g c = c.pop.ensures.means

-- how many records it wrote
pub returns-in_err-root_of-clause-few : goal.returns-in_err-root_of-clause-few
returns-in_err-root_of-clause-few g c = few_none (g.P.PageSpace.view c.args.space.now) (g.P.PageSpace.view c.root_of.new.space) _ c.root_of.ensures.writes.records

pub returns-in-Err-clause-few : goal.returns-in-Err-clause-few
returns-in-Err-clause-few g c = few_none (g.P.PageSpace.view c.args.space.now) (g.P.PageSpace.view c.broken.new.self) _ (c.broken.ensures.writes_none ∙ c.root_of.ensures.writes.records)

pub returns-in_err-pop-in-Ok-clause-few : goal.returns-in_err-pop-in-Ok-clause-few
returns-in_err-pop-in-Ok-clause-few g c = few_from (g.P.PageSpace.view c.args.space.now) (g.P.PageSpace.view c.root_of.new.space) (g.P.PageSpace.view c.pop.new.space) _ c.root_of.ensures.writes.records c.pop.ensures.few

pub returns-in_ok-pop-in-Ok-clause-few : goal.returns-in_ok-pop-in-Ok-clause-few
returns-in_ok-pop-in-Ok-clause-few g c = few_from (g.P.PageSpace.view c.args.space.now) (g.P.PageSpace.view c.root_of.new.space) (g.P.PageSpace.view c.pop.new.space) _ c.root_of.ensures.writes.records c.pop.ensures.few

-- and is the space later
pub returns-in_err-root_of-clause-later : goal.returns-in_err-root_of-clause-later
returns-in_err-root_of-clause-later g c = c.root_of.ensures.later _

pub returns-in-Err-clause-did : goal.returns-in-Err-clause-did
returns-in-Err-clause-did g c = tt
