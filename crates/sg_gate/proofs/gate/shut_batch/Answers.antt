use Rattle.sg_disk.specs.Disk.{FULL}
use Rattle.sg_disk.proofs.Counted.{raised_twice, raised_most}
use Rattle.sg_gate.proofs.Reading.{only_read}
use Rattle.sg_gate.proofs.Shutting.{wide, shutting, shut_after}
use Rattle.sg_gate.proofs.gate.shut_batch.Goals as goal

pub returns-in_err-read_at-clause-any_moment : goal.returns-in_err-read_at-clause-any_moment
returns-in_err-read_at-clause-any_moment g c told =
    let reads = only_read c.read_at.ensures.counts c.read_at.ensures.does c.read_at.ensures.unchanged in
    wide (g.D.Disk.view c.args.disk.now) (g.D.Disk.view c.read_at.new.self) (reads.any_moment told)

pub returns-in_err-read_at-clause-shut : goal.returns-in_err-read_at-clause-shut
returns-in_err-read_at-clause-shut g c told closed = only_read c.read_at.ensures.counts c.read_at.ensures.does c.read_at.ensures.unchanged

pub returns-then-gate-ne1-clause-any_moment : goal.returns-then-gate-ne1-clause-any_moment
returns-then-gate-ne1-clause-any_moment g c told =
    let reads = only_read c.read_at.ensures.counts c.read_at.ensures.does c.read_at.ensures.unchanged in
    wide (g.D.Disk.view c.args.disk.now) (g.D.Disk.view c.read_at.new.self) (reads.any_moment told)

pub returns-then-gate-ne1-clause-shut : goal.returns-then-gate-ne1-clause-shut
returns-then-gate-ne1-clause-shut g c told closed = only_read c.read_at.ensures.counts c.read_at.ensures.does c.read_at.ensures.unchanged

pub returns-in_err-write_at-clause-any_moment : goal.returns-in_err-write_at-clause-any_moment
returns-in_err-write_at-clause-any_moment g c told =
    let reads = only_read c.read_at.ensures.counts c.read_at.ensures.does c.read_at.ensures.unchanged in
    shutting (g.D.Disk.view c.args.disk.now) (g.D.Disk.view c.read_at.new.self) (reads.unchanged told) (reads.any_moment told) (c.write_at.ensures.does told)

pub returns-in_err-sync-clause-any_moment : goal.returns-in_err-sync-clause-any_moment
returns-in_err-sync-clause-any_moment g c told =
    let reads = only_read c.read_at.ensures.counts c.read_at.ensures.does c.read_at.ensures.unchanged in
    shut_after (g.D.Disk.view c.args.disk.now) (g.D.Disk.view c.read_at.new.self) (reads.unchanged told) (reads.any_moment told) (c.in_ok-write_at.ensures.does told) (c.sync.ensures.does told)

pub returns-clause-any_moment : goal.returns-clause-any_moment
returns-clause-any_moment g c told =
    let reads = only_read c.read_at.ensures.counts c.read_at.ensures.does c.read_at.ensures.unchanged in
    shut_after (g.D.Disk.view c.args.disk.now) (g.D.Disk.view c.read_at.new.self) (reads.unchanged told) (reads.any_moment told) (c.in_ok-write_at.ensures.does told) (c.sync.ensures.does told)

pub returns-in_err-read_at-clause-calls_most : goal.returns-in_err-read_at-clause-calls_most
returns-in_err-read_at-clause-calls_most g c = raised_most _ _ 1 2 FULL c.read_at.ensures.counts.calls

pub returns-then-gate-ne1-clause-calls_most : goal.returns-then-gate-ne1-clause-calls_most
returns-then-gate-ne1-clause-calls_most g c = raised_most _ _ 1 2 FULL c.read_at.ensures.counts.calls

pub returns-in_err-write_at-clause-calls_most : goal.returns-in_err-write_at-clause-calls_most
returns-in_err-write_at-clause-calls_most g c = raised_most _ _ 2 1 FULL (raised_twice _ _ _ 1 1 FULL c.read_at.ensures.counts.calls c.write_at.ensures.counts.calls)

pub returns-in_err-sync-clause-calls_most : goal.returns-in_err-sync-clause-calls_most
returns-in_err-sync-clause-calls_most g c =
    raised_most _ _ 3 0 FULL (raised_twice _ _ _ 2 1 FULL (raised_twice _ _ _ 1 1 FULL c.read_at.ensures.counts.calls c.write_at.ensures.counts.calls) c.sync.ensures.counts.calls)

pub returns-clause-calls_most : goal.returns-clause-calls_most
returns-clause-calls_most g c =
    raised_most _ _ 3 0 FULL (raised_twice _ _ _ 2 1 FULL (raised_twice _ _ _ 1 1 FULL c.read_at.ensures.counts.calls c.write_at.ensures.counts.calls) c.sync.ensures.counts.calls)

pub returns-clause-calls : goal.returns-clause-calls
returns-clause-calls g c told is_open = raised_twice _ _ _ 2 1 FULL (raised_twice _ _ _ 1 1 FULL c.read_at.ensures.counts.calls c.write_at.ensures.counts.calls) c.sync.ensures.counts.calls
