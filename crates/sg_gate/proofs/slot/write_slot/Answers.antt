use Rattle.std.proofs.Common.{◌+◌, min, ◌∙◌, ap, ℕ}
use Rattle.sg_disk.specs.Disk.{FULL}
use Rattle.sg_disk.proofs.Counted.{raised_twice, raised_most, left_alone}
use Rattle.sg_gate.proofs.Renewing.{after_text, after_sync, after_gate, after_last, slot_written}
use Rattle.sg_gate.proofs.slot.write_slot.Goals as goal

pub returns-in_err-write_at-clause-any_moment : goal.returns-in_err-write_at-clause-any_moment
returns-in_err-write_at-clause-any_moment g c v new told spare rest so_far calm = after_text v c.args.at new c.args.text.now spare rest c.requires.size (g.D.Disk.view c.args.disk.now) so_far calm (c.write_at.ensures.does told)

pub returns-in_err-sync-clause-any_moment : goal.returns-in_err-sync-clause-any_moment
returns-in_err-sync-clause-any_moment g c v new told spare rest so_far calm = after_sync v c.args.at new c.args.text.now spare rest c.requires.size (g.D.Disk.view c.args.disk.now) so_far calm (c.in_ok-write_at.ensures.does told) (c.sync.ensures.does told)

pub returns-in_err-write_at-2-clause-any_moment : goal.returns-in_err-write_at-2-clause-any_moment
returns-in_err-write_at-2-clause-any_moment g c v new told spare rest so_far calm = after_gate v c.args.at new c.args.text.now spare rest c.requires.size (g.D.Disk.view c.args.disk.now) so_far calm (c.in_ok-write_at.ensures.does told) (c.in_ok-sync.ensures.does told) (c.write_at-2.ensures.does told)

pub returns-in_err-sync-2-clause-any_moment : goal.returns-in_err-sync-2-clause-any_moment
returns-in_err-sync-2-clause-any_moment g c v new told spare rest so_far calm = after_last v c.args.at new c.args.text.now spare rest c.requires.size (g.D.Disk.view c.args.disk.now) so_far calm (c.in_ok-write_at.ensures.does told) (c.in_ok-sync.ensures.does told) (c.in_ok-write_at-2.ensures.does told) (c.sync-2.ensures.does told)

pub returns-clause-any_moment : goal.returns-clause-any_moment
returns-clause-any_moment g c v new told spare rest so_far calm = after_last v c.args.at new c.args.text.now spare rest c.requires.size (g.D.Disk.view c.args.disk.now) so_far calm (c.in_ok-write_at.ensures.does told) (c.in_ok-sync.ensures.does told) (c.in_ok-write_at-2.ensures.does told) (c.sync-2.ensures.does told)

pub returns-clause-done : goal.returns-clause-done
returns-clause-done g c told =
    slot_written c.args.at c.args.text.now c.requires.size (g.D.Disk.view c.args.disk.now).now (g.D.Disk.view c.write_at.new.self).now (g.D.Disk.view c.sync.new.self).now ((c.in_ok-write_at.ensures.does told).ok) ((c.in_ok-sync.ensures.does told).ok)
    (g.D.Disk.view c.write_at-2.new.self).now (g.D.Disk.view c.sync-2.new.self).now ((c.in_ok-write_at-2.ensures.does told).ok) ((c.in_ok-sync-2.ensures.does told).ok)

pub returns-in_err-write_at-clause-calls_most : goal.returns-in_err-write_at-clause-calls_most
returns-in_err-write_at-clause-calls_most g c = raised_most _ _ 1 3 FULL c.write_at.ensures.counts.calls

pub returns-in_err-sync-clause-calls_most : goal.returns-in_err-sync-clause-calls_most
returns-in_err-sync-clause-calls_most g c = raised_most _ _ 2 2 FULL (raised_twice _ _ _ 1 1 FULL c.write_at.ensures.counts.calls c.sync.ensures.counts.calls)

pub returns-in_err-write_at-2-clause-calls_most : goal.returns-in_err-write_at-2-clause-calls_most
returns-in_err-write_at-2-clause-calls_most g c =
    let two = raised_twice _ _ _ 1 1 FULL c.write_at.ensures.counts.calls c.sync.ensures.counts.calls in
    raised_most _ _ 3 1 FULL (raised_twice _ _ _ 2 1 FULL two c.write_at-2.ensures.counts.calls)

pub returns-in_err-sync-2-clause-calls_most : goal.returns-in_err-sync-2-clause-calls_most
returns-in_err-sync-2-clause-calls_most g c =
    let two = raised_twice _ _ _ 1 1 FULL c.write_at.ensures.counts.calls c.sync.ensures.counts.calls in
    let more = raised_twice _ _ _ 1 1 FULL c.write_at-2.ensures.counts.calls c.sync-2.ensures.counts.calls in
    raised_most _ _ 4 0 FULL (raised_twice _ _ _ 2 2 FULL two more)

pub returns-clause-calls_most : goal.returns-clause-calls_most
returns-clause-calls_most g c =
    let two = raised_twice _ _ _ 1 1 FULL c.write_at.ensures.counts.calls c.sync.ensures.counts.calls in
    let more = raised_twice _ _ _ 1 1 FULL c.write_at-2.ensures.counts.calls c.sync-2.ensures.counts.calls in
    raised_most _ _ 4 0 FULL (raised_twice _ _ _ 2 2 FULL two more)

pub returns-clause-calls : goal.returns-clause-calls
returns-clause-calls g c =
    let two = raised_twice _ _ _ 1 1 FULL c.write_at.ensures.counts.calls c.sync.ensures.counts.calls in
    let more = raised_twice _ _ _ 1 1 FULL c.write_at-2.ensures.counts.calls c.sync-2.ensures.counts.calls in
    raised_twice _ _ _ 2 2 FULL two more

pub returns-clause-quiet : goal.returns-clause-quiet
returns-clause-quiet g c = c.in_ok-sync-2.ensures.counts.quiet ∙ (c.in_ok-write_at-2.ensures.counts.quiet ∙ (c.in_ok-sync.ensures.counts.quiet ∙ c.in_ok-write_at.ensures.counts.quiet))

pub returns-clause-all_handed : goal.returns-clause-all_handed
returns-clause-all_handed g c =
    let text = c.in_ok-write_at.ensures.handed ∙ ap (λ (n : ℕ). min ((g.D.Disk.view c.args.disk.now).handed + n) FULL) c.requires.size in
    let first = left_alone _ _ c.sync.ensures.counts.handed_least c.sync.ensures.counts.handed_most ∙ text in
    let last = left_alone _ _ c.sync-2.ensures.counts.handed_least c.sync-2.ensures.counts.handed_most ∙ c.in_ok-write_at-2.ensures.handed in
    raised_twice _ _ _ 43 1 FULL first last
