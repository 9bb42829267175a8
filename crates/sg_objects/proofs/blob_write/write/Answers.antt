use Rattle.std.proofs.Common.{◌∙◌, ap, Result, subst, length}
use Rattle.sg_model.specs.declared.reason.Reason.{Reason}
use Rattle.sg_model.specs.Verb.Verb.{Write}
use Rattle.sg_reading.specs.Back.Undoing.{WasBytes}
use Rattle.sg_objects.specs.Blobs.{CanWriteTo}
use Rattle.sg_objects.specs.Found.{Checked}
use Rattle.sg_objects.specs.Notes.{note_bytes}
use Rattle.sg_objects.specs.declared.blob.BlobAt.{BlobAt}
use Rattle.sg_objects.proofs.Located.{still_contents}
use Rattle.sg_objects.proofs.Blobbed.{blob_at}
use Rattle.sg_objects.proofs.BlobVerbs.{can_write, write_done}
use Rattle.sg_objects.proofs.Bodies.{from_start}
use Rattle.sg_objects.proofs.Doing.{refused_did, still_room}
use Rattle.sg_objects.proofs.Fresh.{still_fresh}
use Rattle.sg_objects.proofs.Writing.{wrote_body}
use Rattle.sg_objects.proofs.Counting.{went, went_then, counts_ok, counts_then, few_none, no_ok_handed, counts_handed}
use Rattle.sg_objects.proofs.blob_write.write.Goals as goal

pub returns-in-Err-clause-did : goal.returns-in-Err-clause-did
returns-in-Err-clause-did g c =
    refused_did _ 0 c.args.name (Write c.args.at c.args.bytes.now) c.in-Err.reason _ (g.met.P.PageSpace.told_shows _) c.in_ok-reason.ensures.kept c.set.ensures
    (λ shows s h. subst (λ (r : Result BlobAt Reason). Checked c.args.name (Write c.args.at c.args.bytes.now) s (CanWriteTo c.args.name c.args.at (length c.args.bytes.now) s) r) c.in-Err.is (c.in_ok-reason.ensures.read shows s h))

pub write-requires-clause-there : goal.write-requires-clause-there
write-requires-clause-there g c = λ told.
    let back = c.check_write.ensures.counts.told told in
    let shows = g.met.P.PageSpace.told_shows _ back in
    let h = c.requires.there back in
    let k = c.in_ok-reason.ensures.kept in
    let f = subst (λ (r : Result BlobAt Reason). Checked c.args.name (Write c.args.at c.args.bytes.now) h.0 (CanWriteTo c.args.name c.args.at (length c.args.bytes.now) h.0) r) c.in-Ok.is (c.in_ok-reason.ensures.read shows h.0 h.1) in
    let now = still_contents k shows h.1 in
    (f.found.blob, blob_at now f.found, can_write _ c.args.at c.args.bytes.now now f (still_fresh k shows (c.requires.fresh back)) (still_room k shows h.2))

pub returns-in_ok-write-in-Ok-clause-did : goal.returns-in_ok-write-in-Ok-clause-did
returns-in_ok-write-in-Ok-clause-did g c =
    let k = c.in_ok-reason.ensures.kept in
    let did = c.in_ok-write-in-Ok.ensures.did in
    record {
      told = λ told. (did.keeps (k.keeps.told told)).told (k.keeps.told told);
      done = λ told s h can.
          let shows = g.met.P.PageSpace.told_shows _ told in
          let mid = k.keeps.told told in
          let f = subst (λ (r : Result BlobAt Reason). Checked c.args.name (Write c.args.at c.args.bytes.now) s (CanWriteTo c.args.name c.args.at (length c.args.bytes.now) s) r) c.in-Ok.is (c.in_ok-reason.ensures.read shows s h) in
          let now = still_contents k shows h in
          let one = did.turns mid f.found.blob (blob_at now f.found) (can_write _ c.args.at c.args.bytes.now now f (still_fresh k shows (c.requires.fresh told)) (still_room k shows can)) in
          (_, from_start k shows (write_done _ 0 c.args.at c.args.bytes.now _ now f one.1 one.2 (c.note_size.ensures ∙ ap (λ n. note_bytes c.args.name (WasBytes n)) f.found.len_is)));
    }

pub returns-in_err-write-in-Ok-clause-later : goal.returns-in_err-write-in-Ok-clause-later
returns-in_err-write-in-Ok-clause-later g c = g.met.P.PageSpace.later_then _ _ _ _ (c.check_write.ensures.later _) c.write.ensures.later

pub returns-in_ok-write-in-Ok-clause-later : goal.returns-in_ok-write-in-Ok-clause-later
returns-in_ok-write-in-Ok-clause-later g c = g.met.P.PageSpace.later_then _ _ _ _ (c.check_write.ensures.later _) c.write.ensures.later

pub returns-in_ok-write-in-Ok-clause-wrote : goal.returns-in_ok-write-in-Ok-clause-wrote
returns-in_ok-write-in-Ok-clause-wrote g c =
    let k = c.in_ok-reason.ensures.kept in
    let did = c.in_ok-write-in-Ok.ensures.did in
    record {
      bands = λ told s h can.
          let shows = g.met.P.PageSpace.told_shows _ told in
          let mid = k.keeps.told told in
          let f = subst (λ (r : Result BlobAt Reason). Checked c.args.name (Write c.args.at c.args.bytes.now) s (CanWriteTo c.args.name c.args.at (length c.args.bytes.now) s) r) c.in-Ok.is (c.in_ok-reason.ensures.read shows s h) in
          let now = still_contents k shows h in
          let one = did.turns mid f.found.blob (blob_at now f.found) (can_write _ c.args.at c.args.bytes.now now f (still_fresh k shows (c.requires.fresh told)) (still_room k shows can)) in
          wrote_body one.0 k shows f.found one.1 one.3;
    }

-- how often it failed
pub returns-in_err-reason-clause-counts : goal.returns-in_err-reason-clause-counts
returns-in_err-reason-clause-counts g c =
    counts_handed c.from_residual.result _ c.from_residual.ensures.1 (c.in_err-reason.ensures.counts)

pub returns-in-Err-clause-counts : goal.returns-in-Err-clause-counts
returns-in-Err-clause-counts g c = counts_ok _ (went c.in_ok-reason.ensures.counts)

pub returns-in_err-write-in-Ok-clause-counts : goal.returns-in_err-write-in-Ok-clause-counts
returns-in_err-write-in-Ok-clause-counts g c =
    counts_handed c.from_residual-in_err-write-in-Ok.result _ c.from_residual-in_err-write-in-Ok.ensures.1 (counts_then (went c.in_ok-reason.ensures.counts) c.in_err-write-in-Ok.ensures.counts)

pub returns-in_ok-write-in-Ok-clause-counts : goal.returns-in_ok-write-in-Ok-clause-counts
returns-in_ok-write-in-Ok-clause-counts g c = counts_ok _ (went_then (went c.in_ok-reason.ensures.counts) (went c.in_ok-write-in-Ok.ensures.counts))

-- its records can still be read
pub returns-in_err-reason-clause-means : goal.returns-in_err-reason-clause-means
returns-in_err-reason-clause-means g c = c.check_write.ensures.means _ c.requires.means

pub returns-in-Err-clause-means : goal.returns-in-Err-clause-means
returns-in-Err-clause-means g c = c.check_write.ensures.means _ c.requires.means

pub returns-in_err-write-in-Ok-clause-means : goal.returns-in_err-write-in-Ok-clause-means
returns-in_err-write-in-Ok-clause-means g c = c.write.ensures.means

pub returns-in_ok-write-in-Ok-clause-means : goal.returns-in_ok-write-in-Ok-clause-means
returns-in_ok-write-in-Ok-clause-means g c = c.write.ensures.means

-- how many records it wrote
pub returns-in_err-reason-clause-few : goal.returns-in_err-reason-clause-few
returns-in_err-reason-clause-few g c = few_none (g.P.PageSpace.view c.args.space.now) (g.P.PageSpace.view c.check_write.new.space) _ c.check_write.ensures.writes.records

pub returns-in-Err-clause-few : goal.returns-in-Err-clause-few
returns-in-Err-clause-few g c = few_none (g.P.PageSpace.view c.args.space.now) (g.P.PageSpace.view c.check_write.new.space) _ c.check_write.ensures.writes.records

pub returns-in-Err-clause-quiet : goal.returns-in-Err-clause-quiet
returns-in-Err-clause-quiet g c = λ _. record { records = c.check_write.ensures.writes.records; still = c.in_ok-reason.ensures.kept.still }

-- nothing is said of a result where there is none
pub returns-in_err-reason-clause-did : goal.returns-in_err-reason-clause-did
returns-in_err-reason-clause-did g c = no_ok_handed _ _ c.from_residual.result c.from_residual.ensures.1

pub returns-in_err-reason-clause-quiet : goal.returns-in_err-reason-clause-quiet
returns-in_err-reason-clause-quiet g c = no_ok_handed _ _ c.from_residual.result c.from_residual.ensures.1

pub returns-in_err-write-in-Ok-clause-did : goal.returns-in_err-write-in-Ok-clause-did
returns-in_err-write-in-Ok-clause-did g c = no_ok_handed _ _ c.from_residual-in_err-write-in-Ok.result c.from_residual-in_err-write-in-Ok.ensures.1

pub returns-in_err-write-in-Ok-clause-quiet : goal.returns-in_err-write-in-Ok-clause-quiet
returns-in_err-write-in-Ok-clause-quiet g c = no_ok_handed _ _ c.from_residual-in_err-write-in-Ok.result c.from_residual-in_err-write-in-Ok.ensures.1

-- and is the space later
pub returns-in_err-reason-clause-later : goal.returns-in_err-reason-clause-later
returns-in_err-reason-clause-later g c = c.check_write.ensures.later _

pub returns-in-Err-clause-later : goal.returns-in-Err-clause-later
returns-in-Err-clause-later g c = c.check_write.ensures.later _
