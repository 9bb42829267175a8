use Rattle.std.proofs.Common.{◌≡◌, ◌<◌, ℕ, Err, subst, arith, lit<}
use Rattle.sg_base.specs.Ends.{HasRisen}
use Rattle.sg_lines.proofs.Adding.{adding}
use Rattle.sg_lines.specs.declared.adder.Adder.{Adder}
use Rattle.sg_run.specs.Run.{live_objects}
use Rattle.sg_store.specs.declared.fault.CheckRefused.TheVariants as checks
use Rattle.sg_store.specs.declared.fault.Untold.{Untold}
use Rattle.sg_store.specs.Calls.{Goes}
use Rattle.sg_store.specs.Engine.{led}
use Rattle.sg_store.specs.Seen.{core_of}
use Rattle.sg_store.specs.Told.{FailsBy, Tells, TellsFor}
use Rattle.sg_store.proofs.Told as telling
use Rattle.sg_store.proofs.store.Store.check.Goals as goal

pub returns-in-Ok-clause-checks : goal.returns-in-Ok-clause-checks
returns-in-Ok-clause-checks g c t z from m told x lawful shows =
    let old = led t z from (g.E.Engine.view c.args.self.now.engine) in
    let new = led t z from (g.E.Engine.view c.objects.new.self.engine) in
    telling.checks_done t (g.E.Engine.basis z) old new (core_of c.args.self.now) (core_of c.objects.new.self) x old.faults new.faults (adding (λ (s : Adder). s.summary)) c.new-adder.result c.objects.new.to c.in-Ok.field-0 c.objects.new.to.summary
    (λ heard. telling.summed (λ (s : Adder). s.summary) c.new-adder.result c.objects.new.to (live_objects t x) c.new-adder.ensures heard)
    (c.in-Ok.ensures.tells t z from m told x lawful shows)

pub returns-in-Err-DiskFault-clause-checks : goal.returns-in-Err-DiskFault-clause-checks
returns-in-Err-DiskFault-clause-checks g c t z from m told x lawful shows =
    let old = led t z from (g.E.Engine.view c.args.self.now.engine) in
    let new = led t z from (g.E.Engine.view c.objects.new.self.engine) in
    telling.checks_broke t (g.E.Engine.basis z) old new (core_of c.args.self.now) (core_of c.objects.new.self) x old.faults new.faults (adding (λ (s : Adder). s.summary)) c.new-adder.result c.objects.new.to
    (subst (λ (f : Untold). Goes t (g.E.Engine.basis z) old x (Tells (adding (λ (s : Adder). s.summary)) c.new-adder.result c.objects.new.to t old.faults new.faults x (Err f)) new (core_of c.objects.new.self)) c.in-Err-DiskFault.field-0-is
    (c.in-Err-DiskFault.ensures.tells t z from m told x lawful shows))

pub returns-in-Err-Stopped-clause-checks : goal.returns-in-Err-Stopped-clause-checks
returns-in-Err-Stopped-clause-checks g c t z from m told x lawful shows =
    let old = led t z from (g.E.Engine.view c.args.self.now.engine) in
    let new = led t z from (g.E.Engine.view c.objects.new.self.engine) in
    telling.checks_stopped t (g.E.Engine.basis z) old new (core_of c.args.self.now) (core_of c.objects.new.self) x old.faults new.faults (adding (λ (s : Adder). s.summary)) c.new-adder.result c.objects.new.to
    (subst (λ (f : Untold). Goes t (g.E.Engine.basis z) old x (Tells (adding (λ (s : Adder). s.summary)) c.new-adder.result c.objects.new.to t old.faults new.faults x (Err f)) new (core_of c.objects.new.self)) c.in-Err-Stopped.field-0-is
    (c.in-Err-Stopped.ensures.tells t z from m told x lawful shows))

pub returns-in-Err-Memory-clause-checks : goal.returns-in-Err-Memory-clause-checks
returns-in-Err-Memory-clause-checks g c t z from m told x lawful shows =
    let old = led t z from (g.E.Engine.view c.args.self.now.engine) in
    let new = led t z from (g.E.Engine.view c.objects.new.self.engine) in
    telling.checks_starved t (g.E.Engine.basis z) old new (core_of c.args.self.now) (core_of c.objects.new.self) x old.faults new.faults (adding (λ (s : Adder). s.summary)) c.new-adder.result c.objects.new.to
    (subst (λ (f : Untold). Goes t (g.E.Engine.basis z) old x (Tells (adding (λ (s : Adder). s.summary)) c.new-adder.result c.objects.new.to t old.faults new.faults x (Err f)) new (core_of c.objects.new.self)) c.in-Err-Memory.field-0-is
    (c.in-Err-Memory.ensures.tells t z from m told x lawful shows))

pub returns-in-Ok-clause-rests : goal.returns-in-Ok-clause-rests
returns-in-Ok-clause-rests g c t live objects durable s =
    telling.checked_rests t (g.E.Engine.view c.args.self.now.engine) (g.E.Engine.view c.objects.new.self.engine) (core_of c.args.self.now) _ live objects durable
    (λ z from m. c.objects.ensures.means t z from m) (λ h. c.objects.ensures.told h) s c.objects.new.to.summary
    (λ z from m told x lawful shows. returns-in-Ok-clause-checks g c t z from m told x lawful shows)

pub returns-in-Err-DiskFault-clause-asks : goal.returns-in-Err-DiskFault-clause-asks
returns-in-Err-DiskFault-clause-asks g c = λ e. absurd (let bad : checks.DiskFault ≡ checks.Stopped = e in cc)

pub returns-in-Err-Memory-clause-asks : goal.returns-in-Err-Memory-clause-asks
returns-in-Err-Memory-clause-asks g c = λ e. absurd (let bad : checks.Memory ≡ checks.Stopped = e in cc)

pub returns-in-Err-Stopped-clause-asks : goal.returns-in-Err-Stopped-clause-asks
returns-in-Err-Stopped-clause-asks g c = λ e. c.in-Err-Stopped.ensures.asks c.in-Err-Stopped.field-0-is

pub returns-in-Ok-clause-causes : goal.returns-in-Ok-clause-causes
returns-in-Ok-clause-causes g c = c.in-Ok.ensures.causes

pub returns-in-Err-DiskFault-clause-causes : goal.returns-in-Err-DiskFault-clause-causes
returns-in-Err-DiskFault-clause-causes g c = subst (λ (f : Untold). TellsFor {T = ℕ} (g.E.Engine.view c.args.self.now.engine) (g.E.Engine.view c.objects.new.self.engine) (core_of c.args.self.now) (core_of c.objects.new.self) (Err f)) c.in-Err-DiskFault.field-0-is c.in-Err-DiskFault.ensures.causes

pub returns-in-Err-Stopped-clause-causes : goal.returns-in-Err-Stopped-clause-causes
returns-in-Err-Stopped-clause-causes g c = subst (λ (f : Untold). TellsFor {T = ℕ} (g.E.Engine.view c.args.self.now.engine) (g.E.Engine.view c.objects.new.self.engine) (core_of c.args.self.now) (core_of c.objects.new.self) (Err f)) c.in-Err-Stopped.field-0-is c.in-Err-Stopped.ensures.causes

pub returns-in-Err-Memory-clause-causes : goal.returns-in-Err-Memory-clause-causes
returns-in-Err-Memory-clause-causes g c = subst (λ (f : Untold). TellsFor {T = ℕ} (g.E.Engine.view c.args.self.now.engine) (g.E.Engine.view c.objects.new.self.engine) (core_of c.args.self.now) (core_of c.objects.new.self) (Err f)) c.in-Err-Memory.field-0-is c.in-Err-Memory.ensures.causes

-- an adder never fails
pub unreachable-requires : goal.unreachable-requires
unreachable-requires g c =
    let risen : HasRisen 0 0 = subst (λ (f : Untold). FailsBy {T = ℕ} 0 0 (Err f)) c.in-Err-Listener.field-0-is c.in-Err-Listener.ensures.listener.counted in
    let above : 0 < 0 = risen (lit< tt) in
    omega (arith, above)
