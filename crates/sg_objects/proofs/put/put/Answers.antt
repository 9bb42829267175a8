use Rattle.std.proofs.Common.{◌∙◌, ap, Result, Some, None, option_map, subst, take}
use Rattle.sg_base.specs.declared.numbers.PageNo.{PageNo}
use Rattle.sg_hash.specs.Table.{IsHashTable}
use Rattle.sg_model.specs.declared.reason.Reason.{Reason}
use Rattle.sg_model.specs.Verb.Verb.{Put}
use Rattle.sg_space.specs.View.{Space}
use Rattle.sg_space.proofs.Known.{still}
use Rattle.sg_objects.specs.Found.{PutChecked}
use Rattle.sg_objects.proofs.Bodies.{from_start, noted_some}
use Rattle.sg_objects.proofs.Located.{still_contents}
use Rattle.sg_objects.proofs.Doing.{refused_did, still_room}
use Rattle.sg_objects.proofs.Fresh.{still_fresh}
use Rattle.sg_objects.proofs.Tables.{table_there}
use Rattle.sg_objects.proofs.Putting.{put_done, can_put}
use Rattle.sg_reading.specs.Back.Undoing.{WasPut, WasOver}
use Rattle.sg_objects.proofs.Counting.{went, went_then, counts_ok, counts_then, few_none, few_from, no_ok_handed, counts_handed}
use Rattle.sg_objects.proofs.put.put.Goals as goal
use Rattle.sg_objects.proofs.Shaping.{put_shapes}

pub returns-in-Err-clause-did : goal.returns-in-Err-clause-did
returns-in-Err-clause-did g c =
    refused_did _ 0 c.args.name (Put c.args.key.now c.args.value.now) c.in-Err.reason _ (g.met.P.PageSpace.told_shows _) c.in_ok-reason.ensures.kept c.set.ensures
    (λ shows s h t. subst (λ (r : Result PageNo Reason). PutChecked c.args.name c.args.key.now c.args.value.now s r) c.in-Err.is (c.in_ok-reason.ensures.read shows s h))

pub find-requires-clause-there : goal.find-requires-clause-there
find-requires-clause-there g c = λ told.
    let back = c.check_put.ensures.counts.told told in
    let shows = g.met.P.PageSpace.told_shows _ back in
    let h = c.requires.there back in
    let f = subst (λ (r : Result PageNo Reason). PutChecked c.args.name c.args.key.now c.args.value.now h.0 r) c.in-Ok.is (c.in_ok-reason.ensures.read shows h.0 h.1) in
    let t = table_there (still_contents c.in_ok-reason.ensures.kept shows h.1) f.0 in
    (t.0, (t.2).table, tt)

pub put-requires-clause-there : goal.put-requires-clause-there
put-requires-clause-there g c = λ told.
    let mid = c.find.ensures.counts.told told in
    let back = c.check_put.ensures.counts.told mid in
    let shows = g.met.P.PageSpace.told_shows _ back in
    let shows1 = g.met.P.PageSpace.told_shows _ mid in
    let k = c.in_ok-reason.ensures.kept in
    let k2 = c.in_ok-sought-in-Ok.ensures.kept in
    let h = c.requires.there back in
    let f = subst (λ (r : Result PageNo Reason). PutChecked c.args.name c.args.key.now c.args.value.now h.0 r) c.in-Ok.is (c.in_ok-reason.ensures.read shows h.0 h.1) in
    let later = still_contents k2 shows1 (still_contents k shows h.1) in
    let t = table_there later f.0 in
    (t.0, (t.2).table, can_put _ c.args.key.now c.args.value.now later f.0 t.1 (t.2).table (f.1).0 (f.1).1 f.2 (still_fresh k2 shows1 (still_fresh k shows (c.requires.fresh back))) (still_room k2 shows1 (still_room k shows h.2)))

pub returns-in_default-clause-did : goal.returns-in_default-clause-did
returns-in_default-clause-did g c =
    let k = c.in_ok-reason.ensures.kept in
    let k2 = c.in_ok-sought-in-Ok.ensures.kept in
    let did = c.in_ok-put-in-Ok.ensures.did in
    record {
      told = λ told. did.told (k2.keeps.told (k.keeps.told told));
      done = λ told s h can.
          let shows = g.met.P.PageSpace.told_shows _ told in
          let mid = k.keeps.told told in
          let shows1 = g.met.P.PageSpace.told_shows _ mid in
          let f = subst (λ (r : Result PageNo Reason). PutChecked c.args.name c.args.key.now c.args.value.now s r) c.in-Ok.is (c.in_ok-reason.ensures.read shows s h) in
          let now = still_contents k shows h in
          let t = table_there now f.0 in
          let answer = c.in_ok-sought-in-Ok.ensures.read shows1 t.0 (t.2).table in
          let later = still_contents k2 shows1 now in
          let stood = still (λ (x : Space). IsHashTable x.pages.at c.in-Ok.root.0 t.0) k2 shows1 (t.2).table in
          let one = did.turns (k2.keeps.told mid) t.0 stood (can_put _ c.args.key.now c.args.value.now later f.0 t.1 stood (f.1).0 (f.1).1 f.2 (still_fresh k2 shows1 (still_fresh k shows (c.requires.fresh told))) (still_room k2 shows1 (still_room k shows can))) in
          (_, from_start k shows (from_start k2 shows1 (put_done _ 0 c.args.name c.args.key.now c.args.value.now _ _ None later f.0 t.1 (f.1).0 (f.1).1 f.2 (t.2).no_empty_key (answer ∙ ap (option_map (λ n. take n c.find.new.into)) c.in_default.is) one.1 one.2 c.note_put.ensures)));
    }

pub returns-in-Some-clause-did : goal.returns-in-Some-clause-did
returns-in-Some-clause-did g c =
    let k = c.in_ok-reason.ensures.kept in
    let k2 = c.in_ok-sought-in-Ok.ensures.kept in
    let did = c.in_ok-put-in-Ok.ensures.did in
    record {
      told = λ told. did.told (k2.keeps.told (k.keeps.told told));
      done = λ told s h can.
          let shows = g.met.P.PageSpace.told_shows _ told in
          let mid = k.keeps.told told in
          let shows1 = g.met.P.PageSpace.told_shows _ mid in
          let f = subst (λ (r : Result PageNo Reason). PutChecked c.args.name c.args.key.now c.args.value.now s r) c.in-Ok.is (c.in_ok-reason.ensures.read shows s h) in
          let now = still_contents k shows h in
          let t = table_there now f.0 in
          let answer = c.in_ok-sought-in-Ok.ensures.read shows1 t.0 (t.2).table in
          let later = still_contents k2 shows1 now in
          let stood = still (λ (x : Space). IsHashTable x.pages.at c.in-Ok.root.0 t.0) k2 shows1 (t.2).table in
          let one = did.turns (k2.keeps.told mid) t.0 stood (can_put _ c.args.key.now c.args.value.now later f.0 t.1 stood (f.1).0 (f.1).1 f.2 (still_fresh k2 shows1 (still_fresh k shows (c.requires.fresh told))) (still_room k2 shows1 (still_room k shows can))) in
          (_, from_start k shows (from_start k2 shows1 (put_done _ 0 c.args.name c.args.key.now c.args.value.now _ _ (Some (take c.in-Some.n c.find.new.into)) later f.0 t.1 (f.1).0 (f.1).1 f.2 (t.2).no_empty_key (answer ∙ ap (option_map (λ n. take n c.find.new.into)) c.in-Some.is) one.1 one.2 c.note_over.ensures)));
    }

-- later
pub returns-in_err-sought-in-Ok-clause-later : goal.returns-in_err-sought-in-Ok-clause-later
returns-in_err-sought-in-Ok-clause-later g c = let then = g.met.P.PageSpace.later_then _ in then _ _ _ (c.check_put.ensures.later _) (c.find.ensures.later _)

pub returns-in_err-put-in-Ok-clause-later : goal.returns-in_err-put-in-Ok-clause-later
returns-in_err-put-in-Ok-clause-later g c = let then = g.met.P.PageSpace.later_then _ in then _ _ _ (c.check_put.ensures.later _) (then _ _ _ (c.find.ensures.later _) c.put.ensures.later)

pub returns-in_default-clause-later : goal.returns-in_default-clause-later
returns-in_default-clause-later g c = let then = g.met.P.PageSpace.later_then _ in then _ _ _ (c.check_put.ensures.later _) (then _ _ _ (c.find.ensures.later _) c.put.ensures.later)

pub returns-in-Some-clause-later : goal.returns-in-Some-clause-later
returns-in-Some-clause-later g c = let then = g.met.P.PageSpace.later_then _ in then _ _ _ (c.check_put.ensures.later _) (then _ _ _ (c.find.ensures.later _) c.put.ensures.later)

pub returns-in-Err-clause-splits : goal.returns-in-Err-clause-splits
returns-in-Err-clause-splits g c = record { shaped = λ told s h can. tt }

pub returns-in_default-clause-splits : goal.returns-in_default-clause-splits
returns-in_default-clause-splits g c = record {
  shaped = λ told s h can.
      let k = c.in_ok-reason.ensures.kept in
      let k2 = c.in_ok-sought-in-Ok.ensures.kept in
      let shows = g.met.P.PageSpace.told_shows _ told in
      let mid = k.keeps.told told in
      let shows1 = g.met.P.PageSpace.told_shows _ mid in
      let f = subst (λ (r : Result PageNo Reason). PutChecked c.args.name c.args.key.now c.args.value.now s r) c.in-Ok.is (c.in_ok-reason.ensures.read shows s h) in
      let now = still_contents k shows h in
      let t = table_there now f.0 in
      let later = still_contents k2 shows1 now in
      let stood = still (λ (x : Space). IsHashTable x.pages.at c.in-Ok.root.0 t.0) k2 shows1 (t.2).table in
      let one = (c.in_ok-put-in-Ok.ensures.did).turns (k2.keeps.told mid) t.0 stood (can_put _ c.args.key.now c.args.value.now later f.0 t.1 stood (f.1).0 (f.1).1 f.2 (still_fresh k2 shows1 (still_fresh k shows (c.requires.fresh told))) (still_room k2 shows1 (still_room k shows can))) in
      put_shapes c.args.key.now c.args.value.now _ f.0 t.1 (one.1).table one.2;
}

pub returns-in-Some-clause-splits : goal.returns-in-Some-clause-splits
returns-in-Some-clause-splits g c = record {
  shaped = λ told s h can.
      let k = c.in_ok-reason.ensures.kept in
      let k2 = c.in_ok-sought-in-Ok.ensures.kept in
      let shows = g.met.P.PageSpace.told_shows _ told in
      let mid = k.keeps.told told in
      let shows1 = g.met.P.PageSpace.told_shows _ mid in
      let f = subst (λ (r : Result PageNo Reason). PutChecked c.args.name c.args.key.now c.args.value.now s r) c.in-Ok.is (c.in_ok-reason.ensures.read shows s h) in
      let now = still_contents k shows h in
      let t = table_there now f.0 in
      let later = still_contents k2 shows1 now in
      let stood = still (λ (x : Space). IsHashTable x.pages.at c.in-Ok.root.0 t.0) k2 shows1 (t.2).table in
      let one = (c.in_ok-put-in-Ok.ensures.did).turns (k2.keeps.told mid) t.0 stood (can_put _ c.args.key.now c.args.value.now later f.0 t.1 stood (f.1).0 (f.1).1 f.2 (still_fresh k2 shows1 (still_fresh k shows (c.requires.fresh told))) (still_room k2 shows1 (still_room k shows can))) in
      put_shapes c.args.key.now c.args.value.now _ f.0 t.1 (one.1).table one.2;
}

-- how often it failed
pub returns-in_err-reason-clause-counts : goal.returns-in_err-reason-clause-counts
returns-in_err-reason-clause-counts g c =
    counts_handed c.from_residual.result _ c.from_residual.ensures.1 (c.in_err-reason.ensures.counts)

pub returns-in-Err-clause-counts : goal.returns-in-Err-clause-counts
returns-in-Err-clause-counts g c = counts_ok _ (went c.in_ok-reason.ensures.counts)

pub returns-in_err-sought-in-Ok-clause-counts : goal.returns-in_err-sought-in-Ok-clause-counts
returns-in_err-sought-in-Ok-clause-counts g c =
    counts_handed c.from_residual-in_err-sought-in-Ok.result _ c.from_residual-in_err-sought-in-Ok.ensures.1 (counts_then (went c.in_ok-reason.ensures.counts) c.in_err-sought-in-Ok.ensures.counts)

pub returns-in_err-put-in-Ok-clause-counts : goal.returns-in_err-put-in-Ok-clause-counts
returns-in_err-put-in-Ok-clause-counts g c =
    counts_handed c.from_residual-in_err-put-in-Ok.result _ c.from_residual-in_err-put-in-Ok.ensures.1 (counts_then (went_then (went c.in_ok-reason.ensures.counts) (went c.in_ok-sought-in-Ok.ensures.counts)) c.in_err-put-in-Ok.ensures.counts)

pub returns-in_default-clause-counts : goal.returns-in_default-clause-counts
returns-in_default-clause-counts g c = counts_ok _ (went_then (went c.in_ok-reason.ensures.counts) (went_then (went c.in_ok-sought-in-Ok.ensures.counts) (went c.in_ok-put-in-Ok.ensures.counts)))

pub returns-in-Some-clause-counts : goal.returns-in-Some-clause-counts
returns-in-Some-clause-counts g c = counts_ok _ (went_then (went c.in_ok-reason.ensures.counts) (went_then (went c.in_ok-sought-in-Ok.ensures.counts) (went c.in_ok-put-in-Ok.ensures.counts)))

-- its records can still be read
pub returns-in_err-reason-clause-means : goal.returns-in_err-reason-clause-means
returns-in_err-reason-clause-means g c = c.check_put.ensures.means _ c.requires.means

pub returns-in-Err-clause-means : goal.returns-in-Err-clause-means
returns-in-Err-clause-means g c = c.check_put.ensures.means _ c.requires.means

pub returns-in_err-sought-in-Ok-clause-means : goal.returns-in_err-sought-in-Ok-clause-means
returns-in_err-sought-in-Ok-clause-means g c = c.find.ensures.means _ (c.check_put.ensures.means _ c.requires.means)

pub returns-in_err-put-in-Ok-clause-means : goal.returns-in_err-put-in-Ok-clause-means
returns-in_err-put-in-Ok-clause-means g c = c.put.ensures.means

pub returns-in_default-clause-means : goal.returns-in_default-clause-means
returns-in_default-clause-means g c = c.put.ensures.means

pub returns-in-Some-clause-means : goal.returns-in-Some-clause-means
returns-in-Some-clause-means g c = c.put.ensures.means

-- how many records it wrote
pub returns-in_err-reason-clause-few : goal.returns-in_err-reason-clause-few
returns-in_err-reason-clause-few g c = λ _. few_none (g.P.PageSpace.view c.args.space.now) (g.P.PageSpace.view c.check_put.new.space) _ c.check_put.ensures.writes.records

pub returns-in-Err-clause-few : goal.returns-in-Err-clause-few
returns-in-Err-clause-few g c = λ _. few_none (g.P.PageSpace.view c.args.space.now) (g.P.PageSpace.view c.check_put.new.space) _ c.check_put.ensures.writes.records

pub returns-in_err-sought-in-Ok-clause-few : goal.returns-in_err-sought-in-Ok-clause-few
returns-in_err-sought-in-Ok-clause-few g c = λ _. few_none (g.P.PageSpace.view c.args.space.now) (g.P.PageSpace.view c.find.new.space) _ (c.find.ensures.writes.records ∙ c.check_put.ensures.writes.records)

pub returns-in_err-put-in-Ok-clause-few : goal.returns-in_err-put-in-Ok-clause-few
returns-in_err-put-in-Ok-clause-few g c = λ told. few_from (g.P.PageSpace.view c.args.space.now) (g.P.PageSpace.view c.find.new.space) (g.P.PageSpace.view c.put.new.space) _ (c.find.ensures.writes.records ∙ c.check_put.ensures.writes.records) (c.put.ensures.few_split (c.in_ok-sought-in-Ok.ensures.kept.keeps.told (c.in_ok-reason.ensures.kept.keeps.told told)))

pub returns-in_default-clause-few : goal.returns-in_default-clause-few
returns-in_default-clause-few g c = λ told. few_from (g.P.PageSpace.view c.args.space.now) (g.P.PageSpace.view c.find.new.space) (g.P.PageSpace.view c.put.new.space) _ (c.find.ensures.writes.records ∙ c.check_put.ensures.writes.records) (c.put.ensures.few_split (c.in_ok-sought-in-Ok.ensures.kept.keeps.told (c.in_ok-reason.ensures.kept.keeps.told told)))

pub returns-in-Some-clause-few : goal.returns-in-Some-clause-few
returns-in-Some-clause-few g c = λ told. few_from (g.P.PageSpace.view c.args.space.now) (g.P.PageSpace.view c.find.new.space) (g.P.PageSpace.view c.put.new.space) _ (c.find.ensures.writes.records ∙ c.check_put.ensures.writes.records) (c.put.ensures.few_split (c.in_ok-sought-in-Ok.ensures.kept.keeps.told (c.in_ok-reason.ensures.kept.keeps.told told)))

-- where it noted nothing
pub returns-in-Err-clause-quiet : goal.returns-in-Err-clause-quiet
returns-in-Err-clause-quiet g c = λ _. record { records = c.check_put.ensures.writes.records; still = c.in_ok-reason.ensures.kept.still }

pub returns-in_default-clause-quiet : goal.returns-in_default-clause-quiet
returns-in_default-clause-quiet g c = λ e. absurd (noted_some c.args.name (WasPut c.args.key.now) tt c.note_put.ensures e)

pub returns-in-Some-clause-quiet : goal.returns-in-Some-clause-quiet
returns-in-Some-clause-quiet g c = λ e. absurd (noted_some c.args.name (WasOver c.args.key.now (take c.in-Some.n c.find.new.into)) tt c.note_over.ensures e)

-- nothing is said of a result where there is none
pub returns-in_err-reason-clause-did : goal.returns-in_err-reason-clause-did
returns-in_err-reason-clause-did g c = no_ok_handed _ _ c.from_residual.result c.from_residual.ensures.1

pub returns-in_err-reason-clause-splits : goal.returns-in_err-reason-clause-splits
returns-in_err-reason-clause-splits g c = no_ok_handed _ _ c.from_residual.result c.from_residual.ensures.1

pub returns-in_err-reason-clause-quiet : goal.returns-in_err-reason-clause-quiet
returns-in_err-reason-clause-quiet g c = no_ok_handed _ _ c.from_residual.result c.from_residual.ensures.1

pub returns-in_err-sought-in-Ok-clause-did : goal.returns-in_err-sought-in-Ok-clause-did
returns-in_err-sought-in-Ok-clause-did g c = no_ok_handed _ _ c.from_residual-in_err-sought-in-Ok.result c.from_residual-in_err-sought-in-Ok.ensures.1

pub returns-in_err-sought-in-Ok-clause-splits : goal.returns-in_err-sought-in-Ok-clause-splits
returns-in_err-sought-in-Ok-clause-splits g c = no_ok_handed _ _ c.from_residual-in_err-sought-in-Ok.result c.from_residual-in_err-sought-in-Ok.ensures.1

pub returns-in_err-sought-in-Ok-clause-quiet : goal.returns-in_err-sought-in-Ok-clause-quiet
returns-in_err-sought-in-Ok-clause-quiet g c = no_ok_handed _ _ c.from_residual-in_err-sought-in-Ok.result c.from_residual-in_err-sought-in-Ok.ensures.1

pub returns-in_err-put-in-Ok-clause-did : goal.returns-in_err-put-in-Ok-clause-did
returns-in_err-put-in-Ok-clause-did g c = no_ok_handed _ _ c.from_residual-in_err-put-in-Ok.result c.from_residual-in_err-put-in-Ok.ensures.1

pub returns-in_err-put-in-Ok-clause-splits : goal.returns-in_err-put-in-Ok-clause-splits
returns-in_err-put-in-Ok-clause-splits g c = no_ok_handed _ _ c.from_residual-in_err-put-in-Ok.result c.from_residual-in_err-put-in-Ok.ensures.1

pub returns-in_err-put-in-Ok-clause-quiet : goal.returns-in_err-put-in-Ok-clause-quiet
returns-in_err-put-in-Ok-clause-quiet g c = no_ok_handed _ _ c.from_residual-in_err-put-in-Ok.result c.from_residual-in_err-put-in-Ok.ensures.1

-- and is the space later
pub returns-in_err-reason-clause-later : goal.returns-in_err-reason-clause-later
returns-in_err-reason-clause-later g c = c.check_put.ensures.later _

pub returns-in-Err-clause-later : goal.returns-in-Err-clause-later
returns-in-Err-clause-later g c = c.check_put.ensures.later _
