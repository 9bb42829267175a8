use Rattle.std.proofs.Common.{◌≡◌, ◌+◌, ◌≤◌, length, drop, refl, ◌∙◌, sym, subst, arith}
use Rattle.std.proofs.lemmas.List.{length-take-le}
use Rattle.sg_log.specs.Formed.{HasBody}
use Rattle.sg_disk.proofs.Counted.{raised_twice}
use Rattle.sg_log.proofs.Runs.{reads_one, reads_more}
use Rattle.sg_log.proofs.Windows.{read_there, front_read}
use Rattle.sg_log.proofs.Formed.{body_by, unformed_length}
use Rattle.sg_log.proofs.reading.read_body.Goals as goal
use Rattle.sg_log.proofs.reading.read_body.Goals.{then-size-eq0-via-then-size-eq0, then-size-eq0-via-else-size-eq0+then-size-gt65536, then-size-eq0-via-else-size-eq0+else-size-gt65536+then-base-end}

pub returns-then-head-ne1-clause-reads : goal.returns-then-head-ne1-clause-reads
returns-then-head-ne1-clause-reads g c = reads_one c.read_at.ensures.counts c.read_at.ensures.does c.read_at.ensures.unchanged

pub returns-then-size-eq0-clause-faults : goal.returns-then-size-eq0-clause-faults
returns-then-size-eq0-clause-faults g c = (
  refl,
  λ told.
      unformed_length ((g.D.Disk.view c.args.disk.now).now c.args.area).seen c.args.base c.args.at c.read_at.new.into c.read_u32-size.result (c.in_ok-read_at.ensures.bytes told) c.if-head-ne1.false c.read_u32-size.ensures.value (λ some most within. elim c.then-size-eq0.branch [
        | then-size-eq0-via-then-size-eq0 w ↦ absurd (omega arith)
        | then-size-eq0-via-else-size-eq0+then-size-gt65536 w ↦ absurd (omega arith)
        | then-size-eq0-via-else-size-eq0+else-size-gt65536+then-base-end w ↦ absurd (omega arith)
      ]),
)

pub returns-then-size-eq0-clause-reads : goal.returns-then-size-eq0-clause-reads
returns-then-size-eq0-clause-reads g c = reads_one c.read_at.ensures.counts c.read_at.ensures.does c.read_at.ensures.unchanged

pub returns-in_err-read_at-2-clause-reads : goal.returns-in_err-read_at-2-clause-reads
returns-in_err-read_at-2-clause-reads g c = reads_more (reads_one c.read_at.ensures.counts c.read_at.ensures.does c.read_at.ensures.unchanged) (reads_one c.read_at-2.ensures.counts c.read_at-2.ensures.does c.read_at-2.ensures.unchanged)

pub returns-clause-reads : goal.returns-clause-reads
returns-clause-reads g c = reads_more (reads_one c.read_at.ensures.counts c.read_at.ensures.does c.read_at.ensures.unchanged) (reads_one c.read_at-2.ensures.counts c.read_at-2.ensures.does c.read_at-2.ensures.unchanged)

pub returns-clause-body : goal.returns-clause-body
returns-clause-body g c told =
    let f = ((g.D.Disk.view c.args.disk.now).now c.args.area).seen in
    let size = c.read_u32-size.result in
    let fits : size ≤ length c.args.space.now = omega arith in
    let body = read_there c.args.area (c.args.at + 5) size c.args.space.now (c.in_ok-read_at-2.ensures.bytes told) (c.read_at.ensures.unchanged told) fits in
    let long : length c.read_at-2.new.into ≡ size = c.read_at-2.auto.into ∙ length-take-le size c.args.space.now fits in
    subst (HasBody f c.args.at) (sym (front_read c.read_at-2.new.into (drop size c.args.space.now) size long))
    (body_by f c.args.at c.read_at.new.into c.read_at-2.new.into size (c.in_ok-read_at.ensures.bytes told) c.if-head-ne1.false c.read_u32-size.ensures.back body long)

pub returns-clause-calls : goal.returns-clause-calls
returns-clause-calls g c = raised_twice _ _ _ 1 1 _ c.read_at.ensures.counts.calls c.read_at-2.ensures.counts.calls
