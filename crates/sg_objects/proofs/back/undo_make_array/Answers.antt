use Rattle.std.proofs.Common.{◌∙◌, arith, Result, subst}
use Rattle.sg_base.specs.declared.numbers.PageNo.{PageNo}
use Rattle.sg_catalog.specs.declared.row.ObjectKind.TheVariants as kinds
use Rattle.sg_model.specs.declared.reason.Reason.{Reason}
use Rattle.sg_objects.specs.Found.{IsLocated}
use Rattle.sg_objects.proofs.Located.{still_contents}
use Rattle.sg_objects.proofs.Raising.{left_array, array_went, has_row, undo_make_done}
use Rattle.sg_objects.proofs.Bodies.{undone_from}
use Rattle.sg_objects.proofs.Counting.{went, went_then, counts_ok, counts_then, counts_broken, few_by, few_none, few_then, few_from, counts_handed}
use Rattle.sg_objects.proofs.back.undo_make_array.Goals as goal

pub free_all-requires : goal.free_all-requires
free_all-requires g c = λ told.
    let mid = c.remove.ensures.counts.told told in
    let back = c.root_of.ensures.counts.told mid in
    let shows = g.met.P.PageSpace.told_shows _ back in
    let h = c.requires.can back in
    let f = subst (λ (r : Result PageNo Reason). IsLocated kinds.Array c.args.name h.0 r) c.in-Ok.is (c.in_ok-root_of.ensures.read shows h.0 h.1) in
    let now = still_contents c.in_ok-root_of.ensures.kept shows h.1 in
    let one = c.in_ok-remove-in-Ok.ensures.did.turns mid (h.0).catalog now.catalog (has_row f) in
    let a = left_array now one.1 one.2 f in
    (a.0, a.2, tt)

pub returns-in_ok-free_all-in-Ok-clause-did : goal.returns-in_ok-free_all-in-Ok-clause-did
returns-in_ok-free_all-in-Ok-clause-did g c =
    let k = c.in_ok-root_of.ensures.kept in
    let removed = c.in_ok-remove-in-Ok.ensures.did in
    let freed = c.in_ok-free_all-in-Ok.ensures.did in
    record {
      told = λ told. freed.told (removed.told (k.keeps.told told));
      done = λ told s h th e.
          let shows = g.met.P.PageSpace.told_shows _ told in
          let mid = k.keeps.told told in
          let f = subst (λ (r : Result PageNo Reason). IsLocated kinds.Array c.args.name s r) c.in-Ok.is (c.in_ok-root_of.ensures.read shows s h) in
          let now = still_contents k shows h in
          let one = removed.turns mid s.catalog now.catalog (has_row f) in
          let a = left_array now one.1 one.2 f in
          (_, undone_from k shows (undo_make_done c.args.name th now one.1 one.2 (array_went one.2 f a.1 (freed.gone (removed.told mid) a.0 a.2)) e));
    }

-- later
pub returns-in_err-remove-in-Ok-clause-later : goal.returns-in_err-remove-in-Ok-clause-later
returns-in_err-remove-in-Ok-clause-later g c = let then = g.met.P.PageSpace.later_then _ in then _ _ _ (c.root_of.ensures.later _) c.remove.ensures.later

pub returns-in_err-free_all-in-Ok-clause-later : goal.returns-in_err-free_all-in-Ok-clause-later
returns-in_err-free_all-in-Ok-clause-later g c = let then = g.met.P.PageSpace.later_then _ in then _ _ _ (c.root_of.ensures.later _) (then _ _ _ c.remove.ensures.later (c.free_all.ensures.later _))

pub returns-in-Err-clause-later : goal.returns-in-Err-clause-later
returns-in-Err-clause-later g c = let then = g.met.P.PageSpace.later_then _ in then _ _ _ (c.root_of.ensures.later _) (c.broken.ensures.later _)

pub returns-in_ok-free_all-in-Ok-clause-later : goal.returns-in_ok-free_all-in-Ok-clause-later
returns-in_ok-free_all-in-Ok-clause-later g c = let then = g.met.P.PageSpace.later_then _ in then _ _ _ (c.root_of.ensures.later _) (then _ _ _ c.remove.ensures.later (c.free_all.ensures.later _))

-- how often it failed
pub returns-in_err-root_of-clause-counts : goal.returns-in_err-root_of-clause-counts
returns-in_err-root_of-clause-counts g c =
    counts_handed c.from_residual.result _ c.from_residual.ensures.1 (c.in_err-root_of.ensures.counts)

pub returns-in-Err-clause-counts : goal.returns-in-Err-clause-counts
returns-in-Err-clause-counts g c = counts_then (went c.in_ok-root_of.ensures.counts) (counts_broken _ c.broken.ensures.answer c.broken.ensures.told c.broken.ensures.risen c.broken.ensures.rising)

pub returns-in_err-remove-in-Ok-clause-counts : goal.returns-in_err-remove-in-Ok-clause-counts
returns-in_err-remove-in-Ok-clause-counts g c =
    counts_handed c.from_residual-in_err-remove-in-Ok.result _ c.from_residual-in_err-remove-in-Ok.ensures.1 (counts_then (went c.in_ok-root_of.ensures.counts) c.in_err-remove-in-Ok.ensures.counts)

pub returns-in_err-free_all-in-Ok-clause-counts : goal.returns-in_err-free_all-in-Ok-clause-counts
returns-in_err-free_all-in-Ok-clause-counts g c =
    counts_handed c.from_residual-in_err-free_all-in-Ok.result _ c.from_residual-in_err-free_all-in-Ok.ensures.1 (counts_then (went_then (went c.in_ok-root_of.ensures.counts) (went c.in_ok-remove-in-Ok.ensures.counts)) c.in_err-free_all-in-Ok.ensures.counts)

pub returns-in_ok-free_all-in-Ok-clause-counts : goal.returns-in_ok-free_all-in-Ok-clause-counts
returns-in_ok-free_all-in-Ok-clause-counts g c = counts_ok _ (went_then (went c.in_ok-root_of.ensures.counts) (went_then (went c.in_ok-remove-in-Ok.ensures.counts) (went c.in_ok-free_all-in-Ok.ensures.counts)))

-- its records can still be read
pub returns-in_err-root_of-clause-means : goal.returns-in_err-root_of-clause-means
returns-in_err-root_of-clause-means g c = c.root_of.ensures.means _ c.requires.means

pub returns-in-Err-clause-means : goal.returns-in-Err-clause-means
returns-in-Err-clause-means g c = c.broken.ensures.means _ (c.root_of.ensures.means _ c.requires.means)

pub returns-in_err-remove-in-Ok-clause-means : goal.returns-in_err-remove-in-Ok-clause-means
returns-in_err-remove-in-Ok-clause-means g c = c.remove.ensures.means

pub returns-in_err-free_all-in-Ok-clause-means : goal.returns-in_err-free_all-in-Ok-clause-means
returns-in_err-free_all-in-Ok-clause-means g c = c.free_all.ensures.means _ c.remove.ensures.means

pub returns-in_ok-free_all-in-Ok-clause-means : goal.returns-in_ok-free_all-in-Ok-clause-means
returns-in_ok-free_all-in-Ok-clause-means g c = c.free_all.ensures.means _ c.remove.ensures.means

-- how many records it wrote
pub returns-in_err-root_of-clause-few : goal.returns-in_err-root_of-clause-few
returns-in_err-root_of-clause-few g c = few_none (g.P.PageSpace.view c.args.space.now) (g.P.PageSpace.view c.root_of.new.space) _ c.root_of.ensures.writes.records

pub returns-in-Err-clause-few : goal.returns-in-Err-clause-few
returns-in-Err-clause-few g c = few_none (g.P.PageSpace.view c.args.space.now) (g.P.PageSpace.view c.broken.new.self) _ (c.broken.ensures.writes_none ∙ c.root_of.ensures.writes.records)

pub returns-in_err-remove-in-Ok-clause-few : goal.returns-in_err-remove-in-Ok-clause-few
returns-in_err-remove-in-Ok-clause-few g c = few_by (g.P.PageSpace.view c.args.space.now) (g.P.PageSpace.view c.remove.new.space) 1 _ (omega arith) (few_from (g.P.PageSpace.view c.args.space.now) (g.P.PageSpace.view c.root_of.new.space) (g.P.PageSpace.view c.remove.new.space) 1 c.root_of.ensures.writes.records c.remove.ensures.few)

pub returns-in_err-free_all-in-Ok-clause-few : goal.returns-in_err-free_all-in-Ok-clause-few
returns-in_err-free_all-in-Ok-clause-few g c = few_then (g.P.PageSpace.view c.args.space.now) (g.P.PageSpace.view c.remove.new.space) (g.P.PageSpace.view c.free_all.new.space) 1 70138 (few_from (g.P.PageSpace.view c.args.space.now) (g.P.PageSpace.view c.root_of.new.space) (g.P.PageSpace.view c.remove.new.space) 1 c.root_of.ensures.writes.records c.remove.ensures.few) c.free_all.ensures.few

pub returns-in_ok-free_all-in-Ok-clause-few : goal.returns-in_ok-free_all-in-Ok-clause-few
returns-in_ok-free_all-in-Ok-clause-few g c = few_then (g.P.PageSpace.view c.args.space.now) (g.P.PageSpace.view c.remove.new.space) (g.P.PageSpace.view c.free_all.new.space) 1 70138 (few_from (g.P.PageSpace.view c.args.space.now) (g.P.PageSpace.view c.root_of.new.space) (g.P.PageSpace.view c.remove.new.space) 1 c.root_of.ensures.writes.records c.remove.ensures.few) c.free_all.ensures.few

-- and is the space later
pub returns-in_err-root_of-clause-later : goal.returns-in_err-root_of-clause-later
returns-in_err-root_of-clause-later g c = c.root_of.ensures.later _

pub returns-in-Err-clause-did : goal.returns-in-Err-clause-did
returns-in-Err-clause-did g c = tt
