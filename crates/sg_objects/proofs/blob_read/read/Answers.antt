use Rattle.std.proofs.Common.{◌∙◌, Result, subst, drop, arith}
use Rattle.std.proofs.lemmas.List.{length-take-le}
use Rattle.sg_model.specs.declared.reason.Reason.{Reason}
use Rattle.sg_model.specs.Verb.Verb.{Read}
use Rattle.sg_objects.specs.Blobs.{CanReadFrom}
use Rattle.sg_objects.specs.Found.{Checked}
use Rattle.sg_objects.specs.declared.blob.BlobAt.{BlobAt}
use Rattle.sg_objects.proofs.Located.{still_contents}
use Rattle.sg_objects.proofs.Blobbed.{blob_at}
use Rattle.sg_objects.proofs.BlobVerbs.{reading_done, read_front}
use Rattle.sg_objects.proofs.Bodies.{from_start}
use Rattle.sg_objects.proofs.Doing.{refused_did}
use Rattle.sg_objects.proofs.Counting.{went, went_then, counts_ok, counts_then, no_ok_handed, counts_handed}
use Rattle.sg_objects.proofs.blob_read.read.Goals as goal

pub returns-in-Err-clause-did : goal.returns-in-Err-clause-did
returns-in-Err-clause-did g c =
    refused_did _ 0 c.args.name (Read c.args.at c.args.count) c.in-Err.reason _ (g.met.P.PageSpace.told_shows _) c.in_ok-reason.ensures.kept c.set.ensures
    (λ shows s h. subst (λ (r : Result BlobAt Reason). Checked c.args.name (Read c.args.at c.args.count) s (CanReadFrom c.args.name c.args.at c.args.count s) r) c.in-Err.is (c.in_ok-reason.ensures.read shows s h))

pub returns-in_err-read-in-Ok-clause-later : goal.returns-in_err-read-in-Ok-clause-later
returns-in_err-read-in-Ok-clause-later g c = g.met.P.PageSpace.later_then _ _ _ _ (c.check_read.ensures.later _) (c.read.ensures.later _)

pub returns-in_ok-read-in-Ok-clause-later : goal.returns-in_ok-read-in-Ok-clause-later
returns-in_ok-read-in-Ok-clause-later g c = g.met.P.PageSpace.later_then _ _ _ _ (c.check_read.ensures.later _) (c.read.ensures.later _)

pub read-requires : goal.read-requires
read-requires g c = λ told.
    let back = c.check_read.ensures.counts.told told in
    let shows = g.met.P.PageSpace.told_shows _ back in
    let h = c.requires.there back in
    let k = c.in_ok-reason.ensures.kept in
    let f = subst (λ (r : Result BlobAt Reason). Checked c.args.name (Read c.args.at c.args.count) h.0 (CanReadFrom c.args.name c.args.at c.args.count h.0) r) c.in-Ok.is (c.in_ok-reason.ensures.read shows h.0 h.1) in
    (f.found.blob, blob_at (still_contents k shows h.1) f.found, (let e = f.found.len_is in let within = f.within in let few = f.few in let room = c.requires.room in let long = length-take-le c.args.count c.args.into.now (omega arith) in omega arith))

pub returns-in_ok-read-in-Ok-clause-did : goal.returns-in_ok-read-in-Ok-clause-did
returns-in_ok-read-in-Ok-clause-did g c =
    let k = c.in_ok-reason.ensures.kept in
    let k2 = c.in_ok-read-in-Ok.ensures.kept in
    record {
      told = λ told. k2.keeps.told (k.keeps.told told);
      done = λ told s h can.
          let shows = g.met.P.PageSpace.told_shows _ told in
          let shows1 = g.met.P.PageSpace.told_shows _ (k.keeps.told told) in
          let f = subst (λ (r : Result BlobAt Reason). Checked c.args.name (Read c.args.at c.args.count) s (CanReadFrom c.args.name c.args.at c.args.count s) r) c.in-Ok.is (c.in_ok-reason.ensures.read shows s h) in
          let now = still_contents k shows h in
          let read = c.in_ok-read-in-Ok.ensures.read shows1 f.found.blob (blob_at now f.found) in
          (s, from_start k shows (reading_done _ 0 c.args.at c.args.count _ _ (k2.same shows1) now f (read_front c.args.count c.read.new.into _ (drop c.args.at f.found.blob.bytes) (c.read.auto.into ∙ length-take-le c.args.count c.args.into.now (let few = f.few in let room = c.requires.room in omega arith)) read) c.set.ensures));
    }

-- how often it failed
pub returns-in_err-reason-clause-counts : goal.returns-in_err-reason-clause-counts
returns-in_err-reason-clause-counts g c =
    counts_handed c.from_residual.result _ c.from_residual.ensures.1 (c.in_err-reason.ensures.counts)

pub returns-in-Err-clause-counts : goal.returns-in-Err-clause-counts
returns-in-Err-clause-counts g c = counts_ok _ (went c.in_ok-reason.ensures.counts)

pub returns-in_err-read-in-Ok-clause-counts : goal.returns-in_err-read-in-Ok-clause-counts
returns-in_err-read-in-Ok-clause-counts g c =
    counts_handed c.from_residual-in_err-read-in-Ok.result _ c.from_residual-in_err-read-in-Ok.ensures.1 (counts_then (went c.in_ok-reason.ensures.counts) c.in_err-read-in-Ok.ensures.counts)

pub returns-in_ok-read-in-Ok-clause-counts : goal.returns-in_ok-read-in-Ok-clause-counts
returns-in_ok-read-in-Ok-clause-counts g c = counts_ok _ (went_then (went c.in_ok-reason.ensures.counts) (went c.in_ok-read-in-Ok.ensures.counts))

-- its records can still be read
pub returns-in_err-reason-clause-means : goal.returns-in_err-reason-clause-means
returns-in_err-reason-clause-means g c = c.check_read.ensures.means _ c.requires.means

pub returns-in-Err-clause-means : goal.returns-in-Err-clause-means
returns-in-Err-clause-means g c = c.check_read.ensures.means _ c.requires.means

pub returns-in_err-read-in-Ok-clause-means : goal.returns-in_err-read-in-Ok-clause-means
returns-in_err-read-in-Ok-clause-means g c = c.read.ensures.means _ (c.check_read.ensures.means _ c.requires.means)

pub returns-in_ok-read-in-Ok-clause-means : goal.returns-in_ok-read-in-Ok-clause-means
returns-in_ok-read-in-Ok-clause-means g c = c.read.ensures.means _ (c.check_read.ensures.means _ c.requires.means)

-- where it noted nothing
pub returns-in-Err-clause-quiet : goal.returns-in-Err-clause-quiet
returns-in-Err-clause-quiet g c = λ _. record { records = c.check_read.ensures.writes.records; still = c.in_ok-reason.ensures.kept.still }

pub returns-in_ok-read-in-Ok-clause-quiet : goal.returns-in_ok-read-in-Ok-clause-quiet
returns-in_ok-read-in-Ok-clause-quiet g c = λ _. record { records = c.read.ensures.writes.records ∙ c.check_read.ensures.writes.records; still = λ s. c.in_ok-read-in-Ok.ensures.kept.still (c.in_ok-reason.ensures.kept.still s) }

pub returns-in-Err-clause-looks : goal.returns-in-Err-clause-looks
returns-in-Err-clause-looks g c = record { writes = record { only_disk = tt; records = c.check_read.ensures.writes.records }; note = c.set.ensures }

pub returns-in_ok-read-in-Ok-clause-looks : goal.returns-in_ok-read-in-Ok-clause-looks
returns-in_ok-read-in-Ok-clause-looks g c = record { writes = record { only_disk = tt; records = c.read.ensures.writes.records ∙ c.check_read.ensures.writes.records }; note = c.set.ensures }

-- nothing is said of a result where there is none
pub returns-in_err-reason-clause-did : goal.returns-in_err-reason-clause-did
returns-in_err-reason-clause-did g c = no_ok_handed _ _ c.from_residual.result c.from_residual.ensures.1

pub returns-in_err-reason-clause-quiet : goal.returns-in_err-reason-clause-quiet
returns-in_err-reason-clause-quiet g c = no_ok_handed _ _ c.from_residual.result c.from_residual.ensures.1

pub returns-in_err-read-in-Ok-clause-did : goal.returns-in_err-read-in-Ok-clause-did
returns-in_err-read-in-Ok-clause-did g c = no_ok_handed _ _ c.from_residual-in_err-read-in-Ok.result c.from_residual-in_err-read-in-Ok.ensures.1

pub returns-in_err-read-in-Ok-clause-quiet : goal.returns-in_err-read-in-Ok-clause-quiet
returns-in_err-read-in-Ok-clause-quiet g c = no_ok_handed _ _ c.from_residual-in_err-read-in-Ok.result c.from_residual-in_err-read-in-Ok.ensures.1

-- and is the space later
pub returns-in_err-reason-clause-later : goal.returns-in_err-reason-clause-later
returns-in_err-reason-clause-later g c = c.check_read.ensures.later _

pub returns-in-Err-clause-later : goal.returns-in-Err-clause-later
returns-in-Err-clause-later g c = c.check_read.ensures.later _
