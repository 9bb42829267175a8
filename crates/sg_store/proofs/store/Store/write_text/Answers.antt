use Rattle.std.proofs.Common.{arith, ◌∙◌, subst}
use Rattle.sg_base.specs.Ends.{HasRisen}
use Rattle.sg_store.specs.Engine.{led}
use Rattle.sg_store.specs.Seen.{core_of}
use Rattle.sg_store.proofs.Told as telling
use Rattle.sg_store.proofs.store.Store.write_text.Goals as goal

pub returns-in-Ok-write_heading-clause-writes : goal.returns-in-Ok-write_heading-clause-writes
returns-in-Ok-write_heading-clause-writes g c t z from m told x lawful shows =
    telling.text_done t (g.E.Engine.basis z) (led t z from (g.E.Engine.view c.args.self.now.engine)) (led t z from (g.E.Engine.view c.write_lines.new.self.engine)) (core_of c.args.self.now) (core_of c.write_lines.new.self) x (g.E.Engine.view c.args.self.now.engine).faults (g.E.Engine.view c.write_lines.new.self.engine).faults (g.K.Sink.taken c.args.out.now) (g.K.Sink.taken c.write_lines.new.out) (g.K.Sink.taken c.write_heading.new.out) c.parts_make_the_text.ensures c.in-Ok.count (c.in-Ok.ensures.writes t z from m told x lawful shows) c.in-Ok-write_heading.ensures.took

pub returns-in-Err-write_heading-clause-writes : goal.returns-in-Err-write_heading-clause-writes
returns-in-Err-write_heading-clause-writes g c t z from m told x lawful shows =
    telling.text_cut t (g.E.Engine.basis z) (led t z from (g.E.Engine.view c.args.self.now.engine)) (led t z from (g.E.Engine.view c.write_lines.new.self.engine)) (core_of c.args.self.now) (core_of c.write_lines.new.self) x (g.E.Engine.view c.args.self.now.engine).faults (g.E.Engine.view c.write_lines.new.self.engine).faults (g.K.Sink.taken c.args.out.now) (g.K.Sink.taken c.write_lines.new.out) (g.K.Sink.taken c.write_heading.new.out) c.parts_make_the_text.ensures c.in-Ok.count (c.in-Ok.ensures.writes t z from m told x lawful shows) c.in-Err-write_heading.ensures.cut

pub returns-in-Err-clause-writes : goal.returns-in-Err-clause-writes
returns-in-Err-clause-writes g c t z from m told x lawful shows =
    telling.text_failed t (g.E.Engine.basis z) (led t z from (g.E.Engine.view c.args.self.now.engine)) (led t z from (g.E.Engine.view c.write_lines.new.self.engine)) (core_of c.args.self.now) (core_of c.write_lines.new.self) x (g.E.Engine.view c.args.self.now.engine).faults (g.E.Engine.view c.write_lines.new.self.engine).faults (g.K.Sink.taken c.args.out.now) (g.K.Sink.taken c.write_lines.new.out) (g.K.Sink.taken c.write_lines.new.out) c.parts_make_the_text.ensures c.in-Err.why (c.in-Err.ensures.writes t z from m told x lawful shows)

pub returns-in-Ok-write_heading-clause-counted : goal.returns-in-Ok-write_heading-clause-counted
returns-in-Ok-write_heading-clause-counted g c = c.in-Ok-write_heading.ensures.quiet ∙ c.in-Ok.ensures.counted

pub returns-in-Err-write_heading-clause-counted : goal.returns-in-Err-write_heading-clause-counted
returns-in-Err-write_heading-clause-counted g c = subst (λ n. HasRisen n (g.K.Sink.faults c.write_heading.new.out)) c.in-Ok.ensures.counted c.in-Err-write_heading.ensures.failed

pub returns-in-Err-clause-counted : goal.returns-in-Err-clause-counted
returns-in-Err-clause-counted g c = telling.counted_before (g.K.Sink.faults c.args.out.now) (g.K.Sink.faults c.write_lines.new.out) c.in-Err.why c.in-Err.ensures.counted

pub returns-in-Ok-write_heading-clause-later : goal.returns-in-Ok-write_heading-clause-later
returns-in-Ok-write_heading-clause-later g c = omega (arith, c.write_lines.ensures.later, c.in-Ok-write_heading.ensures.later)

pub returns-in-Err-write_heading-clause-later : goal.returns-in-Err-write_heading-clause-later
returns-in-Err-write_heading-clause-later g c = omega (arith, c.write_lines.ensures.later, c.in-Err-write_heading.ensures.later)

pub returns-in-Ok-write_heading-clause-causes : goal.returns-in-Ok-write_heading-clause-causes
returns-in-Ok-write_heading-clause-causes g c = c.in-Ok.ensures.causes

pub returns-in-Err-write_heading-clause-causes : goal.returns-in-Err-write_heading-clause-causes
returns-in-Err-write_heading-clause-causes g c = c.in-Ok.ensures.causes

pub returns-in-Err-clause-causes : goal.returns-in-Err-clause-causes
returns-in-Err-clause-causes g c = telling.failed_before (g.E.Engine.view c.args.self.now.engine) (g.E.Engine.view c.write_lines.new.self.engine) (core_of c.args.self.now) (core_of c.write_lines.new.self) c.in-Err.why c.in-Err.ensures.causes

pub returns-in-Ok-write_heading-clause-rests : goal.returns-in-Ok-write_heading-clause-rests
returns-in-Ok-write_heading-clause-rests g c t live objects durable s =
    telling.written_rests t (g.E.Engine.view c.args.self.now.engine) (g.E.Engine.view c.write_lines.new.self.engine) (core_of c.args.self.now) (core_of c.write_lines.new.self) live objects durable
    (λ z from m. c.write_lines.ensures.means t z from m) (λ h. c.write_lines.ensures.told h) s (g.K.Sink.taken c.args.out.now) (g.K.Sink.taken c.write_heading.new.out)
    (λ z from m told x lawful shows. returns-in-Ok-write_heading-clause-writes g c t z from m told x lawful shows)
