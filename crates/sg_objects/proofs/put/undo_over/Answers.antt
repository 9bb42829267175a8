use Rattle.std.proofs.Common.{◌∙◌, refl, ◌≤◌, Result, subst}
use Rattle.sg_base.specs.declared.numbers.PageNo.{PageNo}
use Rattle.sg_catalog.specs.declared.row.ObjectKind.TheVariants as kinds
use Rattle.sg_model.specs.declared.reason.Reason.{Reason}
use Rattle.sg_model.specs.Step.{at_key, put_value}
use Rattle.sg_space.specs.View.{Space}
use Rattle.sg_space.proofs.Known.{still}
use Rattle.sg_objects.specs.Found.{IsLocated}
use Rattle.sg_objects.proofs.Bodies.{undone_from}
use Rattle.sg_objects.proofs.Located.{still_contents}
use Rattle.sg_objects.proofs.Fresh.{still_fresh}
use Rattle.sg_objects.proofs.Tables.{table_there}
use Rattle.sg_objects.proofs.Forgetting.{no_table}
use Rattle.sg_objects.proofs.Putting.{can_put_back, undo_over_done}
use Rattle.sg_objects.proofs.Shaping.{del_shapes}
use Rattle.sg_objects.proofs.Reshaping.{put_back_shape}
use Rattle.sg_objects.proofs.Counting.{went, went_then, counts_ok, counts_then, counts_broken, few_none, few_from, counts_handed}
use Rattle.sg_objects.proofs.put.undo_over.Goals as goal

pub broken-requires : goal.broken-requires
broken-requires g c = λ told.
    let back = c.root_of.ensures.counts.told told in
    let shows = g.met.P.PageSpace.told_shows _ back in
    let h = c.requires.there back in
    let m = subst (λ (r : Result PageNo Reason). IsLocated kinds.Table c.args.name h.0 r) c.in-Err.is (c.in_ok-root_of.ensures.read shows h.0 h.1) in
    no_table c.args.name (at_key c.args.key.now (put_value c.args.value.now)) _ _ h.1 m (h.2).possible

pub put-requires-clause-there : goal.put-requires-clause-there
put-requires-clause-there g c = λ told.
    let back = c.root_of.ensures.counts.told told in
    let shows = g.met.P.PageSpace.told_shows _ back in
    let h = c.requires.there back in
    let k = c.in_ok-root_of.ensures.kept in
    let f = subst (λ (r : Result PageNo Reason). IsLocated kinds.Table c.args.name h.0 r) c.in-Ok.is (c.in_ok-root_of.ensures.read shows h.0 h.1) in
    let now = still_contents k shows h.1 in
    let t = table_there now f in
    (t.0, (t.2).table, can_put_back c.args.key.now now f t.1 (t.2).table (still_fresh k shows (c.requires.fresh back)) (still (λ (x : Space). 1 ≤ x.pages.free) k shows (c.requires.page back)))

pub returns-in_ok-put-in-Ok-clause-did : goal.returns-in_ok-put-in-Ok-clause-did
returns-in_ok-put-in-Ok-clause-did g c =
    let k = c.in_ok-root_of.ensures.kept in
    let did = c.in_ok-put-in-Ok.ensures.did in
    record {
      told = λ told. did.told (k.keeps.told told);
      done = λ told s h th e.
          let shows = g.met.P.PageSpace.told_shows _ told in
          let mid = k.keeps.told told in
          let f = subst (λ (r : Result PageNo Reason). IsLocated kinds.Table c.args.name s r) c.in-Ok.is (c.in_ok-root_of.ensures.read shows s h) in
          let now = still_contents k shows h in
          let t = table_there now f in
          let one = did.turns mid t.0 (t.2).table (can_put_back c.args.key.now now f t.1 (t.2).table (still_fresh k shows (c.requires.fresh told)) (still (λ (x : Space). 1 ≤ x.pages.free) k shows (c.requires.page told))) in
          (_, undone_from k shows (undo_over_done c.args.name c.args.key.now c.args.value.now _ th now f t.1 (t.2).no_empty_key c.requires.small e one.1 one.2));
    }

-- later
pub returns-in_err-put-in-Ok-clause-later : goal.returns-in_err-put-in-Ok-clause-later
returns-in_err-put-in-Ok-clause-later g c = let then = g.met.P.PageSpace.later_then _ in then _ _ _ (c.root_of.ensures.later _) c.put.ensures.later

pub returns-in-Err-clause-later : goal.returns-in-Err-clause-later
returns-in-Err-clause-later g c = let then = g.met.P.PageSpace.later_then _ in then _ _ _ (c.root_of.ensures.later _) (c.broken.ensures.later _)

pub returns-in_ok-put-in-Ok-clause-later : goal.returns-in_ok-put-in-Ok-clause-later
returns-in_ok-put-in-Ok-clause-later g c = let then = g.met.P.PageSpace.later_then _ in then _ _ _ (c.root_of.ensures.later _) c.put.ensures.later

pub returns-in_ok-put-in-Ok-clause-splits : goal.returns-in_ok-put-in-Ok-clause-splits
returns-in_ok-put-in-Ok-clause-splits g c = record {
  shaped = λ told s h.
      let k = c.in_ok-root_of.ensures.kept in
      let shows = g.met.P.PageSpace.told_shows _ told in
      let f = subst (λ (r : Result PageNo Reason). IsLocated kinds.Table c.args.name s r) c.in-Ok.is (c.in_ok-root_of.ensures.read shows s h) in
      let now = still_contents k shows h in
      let t = table_there now f in
      let one = (c.in_ok-put-in-Ok.ensures.did).turns (k.keeps.told told) t.0 (t.2).table (can_put_back c.args.key.now now f t.1 (t.2).table (still_fresh k shows (c.requires.fresh told)) (still (λ (x : Space). 1 ≤ x.pages.free) k shows (c.requires.page told))) in
      del_shapes f t.1 (one.1).table (put_back_shape one.2);
}

-- how often it failed
pub returns-in_err-root_of-clause-counts : goal.returns-in_err-root_of-clause-counts
returns-in_err-root_of-clause-counts g c =
    counts_handed c.from_residual.result _ c.from_residual.ensures.1 (c.in_err-root_of.ensures.counts)

pub returns-in-Err-clause-counts : goal.returns-in-Err-clause-counts
returns-in-Err-clause-counts g c = counts_then (went c.in_ok-root_of.ensures.counts) (counts_broken _ c.broken.ensures.answer c.broken.ensures.told c.broken.ensures.risen c.broken.ensures.rising)

pub returns-in_err-put-in-Ok-clause-counts : goal.returns-in_err-put-in-Ok-clause-counts
returns-in_err-put-in-Ok-clause-counts g c =
    counts_handed c.from_residual-in_err-put-in-Ok.result _ c.from_residual-in_err-put-in-Ok.ensures.1 (counts_then (went c.in_ok-root_of.ensures.counts) c.in_err-put-in-Ok.ensures.counts)

pub returns-in_ok-put-in-Ok-clause-counts : goal.returns-in_ok-put-in-Ok-clause-counts
returns-in_ok-put-in-Ok-clause-counts g c = counts_ok _ (went_then (went c.in_ok-root_of.ensures.counts) (went c.in_ok-put-in-Ok.ensures.counts))

-- its records can still be read
pub returns-in_err-root_of-clause-means : goal.returns-in_err-root_of-clause-means
returns-in_err-root_of-clause-means g c = c.root_of.ensures.means _ c.requires.means

pub returns-in-Err-clause-means : goal.returns-in-Err-clause-means
returns-in-Err-clause-means g c = c.broken.ensures.means _ (c.root_of.ensures.means _ c.requires.means)

pub returns-in_err-put-in-Ok-clause-means : goal.returns-in_err-put-in-Ok-clause-means
returns-in_err-put-in-Ok-clause-means g c = c.put.ensures.means

pub returns-in_ok-put-in-Ok-clause-means : goal.returns-in_ok-put-in-Ok-clause-means
returns-in_ok-put-in-Ok-clause-means g c = c.put.ensures.means

-- how many records it wrote
pub returns-in_err-root_of-clause-few : goal.returns-in_err-root_of-clause-few
returns-in_err-root_of-clause-few g c = few_none (g.P.PageSpace.view c.args.space.now) (g.P.PageSpace.view c.root_of.new.space) _ c.root_of.ensures.writes.records

pub returns-in-Err-clause-few : goal.returns-in-Err-clause-few
returns-in-Err-clause-few g c = few_none (g.P.PageSpace.view c.args.space.now) (g.P.PageSpace.view c.broken.new.self) _ (c.broken.ensures.writes_none ∙ c.root_of.ensures.writes.records)

pub returns-in_err-put-in-Ok-clause-few : goal.returns-in_err-put-in-Ok-clause-few
returns-in_err-put-in-Ok-clause-few g c = few_from (g.P.PageSpace.view c.args.space.now) (g.P.PageSpace.view c.root_of.new.space) (g.P.PageSpace.view c.put.new.space) _ c.root_of.ensures.writes.records (c.put.ensures.few refl)

pub returns-in_ok-put-in-Ok-clause-few : goal.returns-in_ok-put-in-Ok-clause-few
returns-in_ok-put-in-Ok-clause-few g c = few_from (g.P.PageSpace.view c.args.space.now) (g.P.PageSpace.view c.root_of.new.space) (g.P.PageSpace.view c.put.new.space) _ c.root_of.ensures.writes.records (c.put.ensures.few refl)

-- and is the space later
pub returns-in_err-root_of-clause-later : goal.returns-in_err-root_of-clause-later
returns-in_err-root_of-clause-later g c = c.root_of.ensures.later _

pub returns-in-Err-clause-did : goal.returns-in-Err-clause-did
returns-in-Err-clause-did g c = tt

pub returns-in-Err-clause-splits : goal.returns-in-Err-clause-splits
returns-in-Err-clause-splits g c = tt
