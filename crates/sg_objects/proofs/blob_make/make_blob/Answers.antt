use Rattle.std.proofs.Common.{arith, refl}
use Rattle.sg_catalog.specs.Catalog.{rows, there}
use Rattle.sg_model.specs.declared.reason.Reason.TheVariants.{Exists}
use Rattle.sg_model.specs.Verb.Verb.{MakeBlob}
use Rattle.sg_objects.proofs.Located.{still_contents}
use Rattle.sg_objects.proofs.Doing.{refused_did, still_room}
use Rattle.sg_objects.proofs.Fresh.{still_fresh}
use Rattle.sg_objects.proofs.Making.{is_found, not_there}
use Rattle.sg_objects.proofs.BlobMade.{blob_exists, can_make_blob, can_add_blob, make_blob_done}
use Rattle.sg_objects.proofs.Bodies.{from_start, noted_some}
use Rattle.sg_reading.specs.Back.Undoing.{WasMake}
use Rattle.sg_objects.proofs.Counting.{went, went_then, counts_ok, counts_then, few_by, few_none, few_then, few_from, no_ok_handed, counts_handed}
use Rattle.sg_objects.proofs.blob_make.make_blob.Goals as goal

pub returns-then-branch-clause-did : goal.returns-then-branch-clause-did
returns-then-branch-clause-did g c =
    refused_did _ 0 c.args.name MakeBlob Exists _ (g.met.P.PageSpace.told_shows _) c.in_ok-is_there.ensures.kept c.set.ensures
    (λ shows s h t. blob_exists s c.args.name t (is_found (there c.args.name (rows s.catalog)) c.in_ok-is_there.field-0 (c.in_ok-is_there.ensures.read shows s h) c.if-branch.true))

pub make-requires-clause-can : goal.make-requires-clause-can
make-requires-clause-can g c = λ told.
    let back = c.is_there.ensures.counts.told told in
    let shows = g.met.P.PageSpace.told_shows _ back in
    let h = c.requires.there back in
    let k = c.in_ok-is_there.ensures.kept in
    let none = not_there (there c.args.name (rows (h.0).catalog)) c.in_ok-is_there.field-0 (c.in_ok-is_there.ensures.read shows h.0 h.1) c.if-branch.false in
    can_make_blob {s = h.0} none (still_fresh k shows (c.requires.fresh back)) (still_room k shows h.2)

pub add-requires-clause-can : goal.add-requires-clause-can
add-requires-clause-can g c = λ told.
    let mid = c.make.ensures.counts.told told in
    let back = c.is_there.ensures.counts.told mid in
    let shows = g.met.P.PageSpace.told_shows _ back in
    let h = c.requires.there back in
    let k = c.in_ok-is_there.ensures.kept in
    let none = not_there (there c.args.name (rows (h.0).catalog)) c.in_ok-is_there.field-0 (c.in_ok-is_there.ensures.read shows h.0 h.1) c.if-branch.false in
    let made = c.in_ok-root.ensures.did in
    let both = can_add_blob {s = h.0} none (still_contents k shows h.1) (still_fresh k shows (c.requires.fresh back)) (still_room k shows h.2) (made.keeps mid) (made.done mid) in
    ((h.0).catalog, both.0, both.1)

pub returns-clause-did : goal.returns-clause-did
returns-clause-did g c =
    let k = c.in_ok-is_there.ensures.kept in
    let made = c.in_ok-root.ensures.did in
    let did = c.in_ok-add.ensures.did in
    record {
      told = λ told. let mid = k.keeps.told told in let two = (made.keeps mid).told mid in (did.keeps two).told two;
      done = λ told s h can.
          let shows = g.met.P.PageSpace.told_shows _ told in
          let mid = k.keeps.told told in
          let two = (made.keeps mid).told mid in
          let none = not_there (there c.args.name (rows s.catalog)) c.in_ok-is_there.field-0 (c.in_ok-is_there.ensures.read shows s h) c.if-branch.false in
          let now = still_contents k shows h in
          let both = can_add_blob {s = s} none now (still_fresh k shows (c.requires.fresh told)) (still_room k shows can) (made.keeps mid) (made.done mid) in
          let one = did.turns two s.catalog both.0 both.1 in
          (_, from_start k shows (make_blob_done _ 0 c.args.name _ _ now none (made.done mid) one.1 one.2 refl c.note_make.ensures));
    }

pub returns-in_err-root-clause-later : goal.returns-in_err-root-clause-later
returns-in_err-root-clause-later g c = g.met.P.PageSpace.later_then _ _ _ _ (c.is_there.ensures.later _) c.make.ensures.later

pub returns-in_err-add-clause-later : goal.returns-in_err-add-clause-later
returns-in_err-add-clause-later g c = let then = g.met.P.PageSpace.later_then _ in then _ _ _ (then _ _ _ (c.is_there.ensures.later _) c.make.ensures.later) c.add.ensures.later

pub returns-clause-later : goal.returns-clause-later
returns-clause-later g c = let then = g.met.P.PageSpace.later_then _ in then _ _ _ (then _ _ _ (c.is_there.ensures.later _) c.make.ensures.later) c.add.ensures.later

-- how often it failed
pub returns-in_err-is_there-clause-counts : goal.returns-in_err-is_there-clause-counts
returns-in_err-is_there-clause-counts g c =
    counts_handed c.from_residual.result _ c.from_residual.ensures.1 (c.in_err-is_there.ensures.counts)

pub returns-then-branch-clause-counts : goal.returns-then-branch-clause-counts
returns-then-branch-clause-counts g c = counts_ok _ (went c.in_ok-is_there.ensures.counts)

pub returns-in_err-root-clause-counts : goal.returns-in_err-root-clause-counts
returns-in_err-root-clause-counts g c =
    counts_handed c.from_residual-in_err-root.result _ c.from_residual-in_err-root.ensures.1 (counts_then (went c.in_ok-is_there.ensures.counts) c.in_err-root.ensures.counts)

pub returns-in_err-add-clause-counts : goal.returns-in_err-add-clause-counts
returns-in_err-add-clause-counts g c =
    counts_handed c.from_residual-in_err-add.result _ c.from_residual-in_err-add.ensures.1 (counts_then (went_then (went c.in_ok-is_there.ensures.counts) (went c.in_ok-root.ensures.counts)) c.in_err-add.ensures.counts)

pub returns-clause-counts : goal.returns-clause-counts
returns-clause-counts g c = counts_ok _ (went_then (went c.in_ok-is_there.ensures.counts) (went_then (went c.in_ok-root.ensures.counts) (went c.in_ok-add.ensures.counts)))

-- its records can still be read
pub returns-in_err-is_there-clause-means : goal.returns-in_err-is_there-clause-means
returns-in_err-is_there-clause-means g c = c.is_there.ensures.means _ c.requires.means

pub returns-then-branch-clause-means : goal.returns-then-branch-clause-means
returns-then-branch-clause-means g c = c.is_there.ensures.means _ c.requires.means

pub returns-in_err-root-clause-means : goal.returns-in_err-root-clause-means
returns-in_err-root-clause-means g c = c.make.ensures.means

pub returns-in_err-add-clause-means : goal.returns-in_err-add-clause-means
returns-in_err-add-clause-means g c = c.add.ensures.means

pub returns-clause-means : goal.returns-clause-means
returns-clause-means g c = c.add.ensures.means

-- how many records it wrote
pub returns-in_err-is_there-clause-few : goal.returns-in_err-is_there-clause-few
returns-in_err-is_there-clause-few g c = few_none (g.P.PageSpace.view c.args.space.now) (g.P.PageSpace.view c.is_there.new.space) _ c.is_there.ensures.writes.records

pub returns-then-branch-clause-few : goal.returns-then-branch-clause-few
returns-then-branch-clause-few g c = few_none (g.P.PageSpace.view c.args.space.now) (g.P.PageSpace.view c.is_there.new.space) _ c.is_there.ensures.writes.records

pub returns-in_err-root-clause-few : goal.returns-in_err-root-clause-few
returns-in_err-root-clause-few g c = few_by (g.P.PageSpace.view c.args.space.now) (g.P.PageSpace.view c.make.new.space) 3 8 (omega arith) (few_from (g.P.PageSpace.view c.args.space.now) (g.P.PageSpace.view c.is_there.new.space) (g.P.PageSpace.view c.make.new.space) 3 c.is_there.ensures.writes.records c.make.ensures.few)

pub returns-in_err-add-clause-few : goal.returns-in_err-add-clause-few
returns-in_err-add-clause-few g c = few_then (g.P.PageSpace.view c.args.space.now) (g.P.PageSpace.view c.make.new.space) (g.P.PageSpace.view c.add.new.space) 3 5 (few_from (g.P.PageSpace.view c.args.space.now) (g.P.PageSpace.view c.is_there.new.space) (g.P.PageSpace.view c.make.new.space) 3 c.is_there.ensures.writes.records c.make.ensures.few) c.add.ensures.few

pub returns-clause-few : goal.returns-clause-few
returns-clause-few g c = few_then (g.P.PageSpace.view c.args.space.now) (g.P.PageSpace.view c.make.new.space) (g.P.PageSpace.view c.add.new.space) 3 5 (few_from (g.P.PageSpace.view c.args.space.now) (g.P.PageSpace.view c.is_there.new.space) (g.P.PageSpace.view c.make.new.space) 3 c.is_there.ensures.writes.records c.make.ensures.few) c.add.ensures.few

-- where it noted nothing
pub returns-then-branch-clause-quiet : goal.returns-then-branch-clause-quiet
returns-then-branch-clause-quiet g c = λ _. record { records = c.is_there.ensures.writes.records; still = c.in_ok-is_there.ensures.kept.still }

pub returns-clause-quiet : goal.returns-clause-quiet
returns-clause-quiet g c = λ e. absurd (noted_some c.args.name WasMake tt c.note_make.ensures e)

-- nothing is said of a result where there is none
pub returns-in_err-is_there-clause-did : goal.returns-in_err-is_there-clause-did
returns-in_err-is_there-clause-did g c = no_ok_handed _ _ c.from_residual.result c.from_residual.ensures.1

pub returns-in_err-is_there-clause-quiet : goal.returns-in_err-is_there-clause-quiet
returns-in_err-is_there-clause-quiet g c = no_ok_handed _ _ c.from_residual.result c.from_residual.ensures.1

pub returns-in_err-root-clause-did : goal.returns-in_err-root-clause-did
returns-in_err-root-clause-did g c = no_ok_handed _ _ c.from_residual-in_err-root.result c.from_residual-in_err-root.ensures.1

pub returns-in_err-root-clause-quiet : goal.returns-in_err-root-clause-quiet
returns-in_err-root-clause-quiet g c = no_ok_handed _ _ c.from_residual-in_err-root.result c.from_residual-in_err-root.ensures.1

pub returns-in_err-add-clause-did : goal.returns-in_err-add-clause-did
returns-in_err-add-clause-did g c = no_ok_handed _ _ c.from_residual-in_err-add.result c.from_residual-in_err-add.ensures.1

pub returns-in_err-add-clause-quiet : goal.returns-in_err-add-clause-quiet
returns-in_err-add-clause-quiet g c = no_ok_handed _ _ c.from_residual-in_err-add.result c.from_residual-in_err-add.ensures.1

-- and is the space later
pub returns-in_err-is_there-clause-later : goal.returns-in_err-is_there-clause-later
returns-in_err-is_there-clause-later g c = c.is_there.ensures.later _

pub returns-then-branch-clause-later : goal.returns-then-branch-clause-later
returns-then-branch-clause-later g c = c.is_there.ensures.later _
