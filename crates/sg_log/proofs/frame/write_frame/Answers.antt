use Rattle.std.proofs.Common.{length, ◌∙◌, le_trans}
use Rattle.sg_disk.specs.Disk.{FULL}
use Rattle.sg_disk.proofs.Counted.{raised_twice, raised_then, left_alone}
use Rattle.sg_log.proofs.Runs.{risen_later, on_err}
use Rattle.sg_log.proofs.Steps.{after_write, after_sync, after_gate, after_all, done, others_done}
use Rattle.sg_log.proofs.frame.write_frame.Goals as goal

pub returns-in_err-write_at-clause-any_moment : goal.returns-in_err-write_at-clause-any_moment
returns-in_err-write_at-clause-any_moment g c frames rs told rest good is =
    let w = c.write_at.ensures.does told in
    after_write c.args.area c.args.at frames rs c.args.text.now (g.D.Disk.view c.args.disk.now) rest good is w

pub returns-in_err-sync-clause-any_moment : goal.returns-in_err-sync-clause-any_moment
returns-in_err-sync-clause-any_moment g c frames rs told rest good is =
    let w = c.in_ok-write_at.ensures.does told in
    let s = c.sync.ensures.does told in
    after_sync c.args.area c.args.at frames rs c.args.text.now (g.D.Disk.view c.args.disk.now) rest good is w s

pub returns-in_err-write_at-2-clause-any_moment : goal.returns-in_err-write_at-2-clause-any_moment
returns-in_err-write_at-2-clause-any_moment g c frames rs told rest good is =
    let w = c.in_ok-write_at.ensures.does told in
    let s = c.in_ok-sync.ensures.does told in
    let w2 = c.write_at-2.ensures.does told in
    after_gate c.args.area c.args.at frames rs c.args.text.now (g.D.Disk.view c.args.disk.now) rest good is w s w2

pub returns-in_err-sync-2-clause-any_moment : goal.returns-in_err-sync-2-clause-any_moment
returns-in_err-sync-2-clause-any_moment g c frames rs told rest good is =
    let w = c.in_ok-write_at.ensures.does told in
    let s = c.in_ok-sync.ensures.does told in
    let w2 = c.in_ok-write_at-2.ensures.does told in
    let s2 = c.sync-2.ensures.does told in
    after_all c.args.area c.args.at frames rs c.args.text.now (g.D.Disk.view c.args.disk.now) rest good is w s w2 s2

pub returns-clause-any_moment : goal.returns-clause-any_moment
returns-clause-any_moment g c frames rs told rest good is =
    let w = c.in_ok-write_at.ensures.does told in
    let s = c.in_ok-sync.ensures.does told in
    let w2 = c.in_ok-write_at-2.ensures.does told in
    let s2 = c.sync-2.ensures.does told in
    after_all c.args.area c.args.at frames rs c.args.text.now (g.D.Disk.view c.args.disk.now) rest good is w s w2 s2

pub returns-clause-done : goal.returns-clause-done
returns-clause-done g c frames rs told rest good is =
    let w = c.in_ok-write_at.ensures.does told in
    let s = c.in_ok-sync.ensures.does told in
    let w2 = c.in_ok-write_at-2.ensures.does told in
    let s2 = c.in_ok-sync-2.ensures.does told in
    done c.args.area c.args.at frames rs c.args.text.now (g.D.Disk.view c.args.disk.now) rest good is w s w2 s2

pub returns-clause-elsewhere : goal.returns-clause-elsewhere
returns-clause-elsewhere g c told =
    let w = c.in_ok-write_at.ensures.does told in
    let s = c.in_ok-sync.ensures.does told in
    let w2 = c.in_ok-write_at-2.ensures.does told in
    let s2 = c.in_ok-sync-2.ensures.does told in
    others_done c.args.area c.args.at c.args.text.now w s w2 s2

pub returns-in_err-sync-clause-failed : goal.returns-in_err-sync-clause-failed
returns-in_err-sync-clause-failed g c = on_err c.from_residual-in_err-sync.result (risen_later _ _ _ c.write_at.ensures.counts.later c.in_err-sync.ensures.counts.failed)

pub returns-in_err-write_at-2-clause-failed : goal.returns-in_err-write_at-2-clause-failed
returns-in_err-write_at-2-clause-failed g c =
    on_err c.from_residual-in_err-write_at-2.result (risen_later _ _ _ (le_trans c.write_at.ensures.counts.later c.sync.ensures.counts.later) c.in_err-write_at-2.ensures.counts.failed)

pub returns-in_err-sync-2-clause-failed : goal.returns-in_err-sync-2-clause-failed
returns-in_err-sync-2-clause-failed g c =
    on_err c.from_residual-in_err-sync-2.result (risen_later _ _ _ (le_trans c.write_at.ensures.counts.later (le_trans c.sync.ensures.counts.later c.write_at-2.ensures.counts.later)) c.in_err-sync-2.ensures.counts.failed)

pub returns-clause-quiet : goal.returns-clause-quiet
returns-clause-quiet g c = c.in_ok-sync-2.ensures.counts.quiet ∙ (c.in_ok-write_at-2.ensures.counts.quiet ∙ (c.in_ok-sync.ensures.counts.quiet ∙ c.in_ok-write_at.ensures.counts.quiet))

pub returns-clause-all_handed : goal.returns-clause-all_handed
returns-clause-all_handed g c =
    let first = left_alone _ _ c.sync.ensures.counts.handed_least c.sync.ensures.counts.handed_most ∙ c.in_ok-write_at.ensures.handed in
    let last = left_alone _ _ c.sync-2.ensures.counts.handed_least c.sync-2.ensures.counts.handed_most ∙ c.in_ok-write_at-2.ensures.handed in
    raised_then _ _ _ (length c.args.text.now) 1 FULL first last

pub returns-clause-calls : goal.returns-clause-calls
returns-clause-calls g c =
    let two = raised_twice _ _ _ 1 1 FULL c.write_at.ensures.counts.calls c.sync.ensures.counts.calls in
    let more = raised_twice _ _ _ 1 1 FULL c.write_at-2.ensures.counts.calls c.sync-2.ensures.counts.calls in
    raised_twice _ _ _ 2 2 FULL two more
