use Rattle.std.proofs.Common.{◌≡◌, ◌<◌, ◌≤◌, ◌+◌, ℕ, List, [], length, refl, sym, ◌∙◌, ap, subst, arith}
use Rattle.sg_log.specs.Held.{Tail}
use Rattle.sg_gate.specs.declared.superblock.Super.{Super}
use Rattle.sg_engine.specs.Cut.{super_at, next_stand}
use Rattle.sg_engine.proofs.Blocks.{copy_run, whole_off, whole_allows, fresh, settled, renew_run, drop_run, sync_run, cut_off, cut_allows}
use Rattle.sg_engine.proofs.engine.Engine.cut.Goals as goal

pub returns-in-Err-clause-failed : goal.returns-in-Err-clause-failed
returns-in-Err-clause-failed g c o ds told e = c.in-Err.ensures.failed ds [] told e.engine.held

pub returns-in-Err-clause-moments : goal.returns-in-Err-clause-moments
returns-in-Err-clause-moments g c o ds told super e none allowed = copy_run o (g.D.Disk.view c.args.self.now.disk) c.args.self.now.log ds c.args.self.now.pool e none c.args.point allowed c.requires.before (g.D.Disk.view c.cut.new.disk) (c.cut.ensures.any_moment told)

pub returns-then-now-base-clause-cuts : goal.returns-then-now-base-clause-cuts
returns-then-now-base-clause-cuts g c o ds told super e none allowed =
    whole_off o (g.D.Disk.view c.args.self.now.disk) c.args.self.now.log ds c.args.self.now.pool e none c.args.point allowed c.requires.before (g.D.Disk.view c.cut.new.disk) c.cut.new.self c.args.s.now (c.in-Ok.ensures.elsewhere told) (c.in-Ok.ensures.none (sym c.base-now.ensures ∙ (c.if-now-base.true ∙ c.base-base.ensures))) (c.in-Ok.ensures.holds ds [] told e.engine.held) super

pub returns-then-now-base-clause-moments : goal.returns-then-now-base-clause-moments
returns-then-now-base-clause-moments g c o ds told super e none allowed = copy_run o (g.D.Disk.view c.args.self.now.disk) c.args.self.now.log ds c.args.self.now.pool e none c.args.point allowed c.requires.before (g.D.Disk.view c.cut.new.disk) (c.cut.ensures.any_moment told)

pub returns-then-now-base-clause-allowed : goal.returns-then-now-base-clause-allowed
returns-then-now-base-clause-allowed g c o ds k told super e none allowed early =
    whole_allows o (g.D.Disk.view c.args.self.now.disk) c.args.self.now.log ds c.args.self.now.pool e none c.args.point allowed c.requires.before (g.D.Disk.view c.cut.new.disk) c.cut.new.self k (c.in-Ok.ensures.elsewhere told) (c.in-Ok.ensures.none (sym c.base-now.ensures ∙ (c.if-now-base.true ∙ c.base-base.ensures))) early

pub next_super-next-requires-clause-base : goal.next_super-next-requires-clause-base
next_super-next-requires-clause-base g c = omega (arith, c.base-now.ensures, c.in-Ok.ensures.within)

pub returns-in-Err-renew-clause-moments : goal.returns-in-Err-renew-clause-moments
returns-in-Err-renew-clause-moments g c o ds told super e none allowed =
    let sp = c.in-Ok.ensures.holds ds [] told e.engine.held in
    let same = c.in-Ok.ensures.elsewhere told in
    let run = c.cut.ensures.any_moment told in
    let moved : c.cut.new.self.base ≡ c.args.self.now.log.base → ⊥ = λ z. c.if-now-base.false (c.base-now.ensures ∙ (z ∙ sym c.base-base.ensures)) in
    let is : c.next_super-next.result ≡ super_at o.super (next_stand o.super c.cut.new.self.base) = c.next_super-next.ensures.next ∙ (ap (λ (s : Super). super_at s (next_stand s c.base-now.result)) super ∙ ap (λ (b : ℕ). super_at o.super (next_stand o.super b)) c.base-now.ensures) in
    let more = c.renew.ensures.any_moment told (fresh o (g.D.Disk.view c.args.self.now.disk) c.args.self.now.log ds c.args.self.now.pool e none c.args.point allowed c.requires.before (g.D.Disk.view c.cut.new.disk) c.cut.new.self c.next_super-next.result same run sp c.in-Ok.ensures.log moved is) (settled o (g.D.Disk.view c.args.self.now.disk) c.args.self.now.log ds c.args.self.now.pool e none c.args.point allowed c.requires.before (g.D.Disk.view c.cut.new.disk) c.cut.new.self c.next_super-next.result same run sp c.in-Ok.ensures.log moved is) in
    renew_run o (g.D.Disk.view c.args.self.now.disk) c.args.self.now.log ds c.args.self.now.pool e none c.args.point allowed c.requires.before (g.D.Disk.view c.cut.new.disk) c.cut.new.self c.next_super-next.result same run sp c.in-Ok.ensures.log moved is (g.D.Disk.view c.renew.new.disk) more

pub returns-in-Err-drop_from-clause-moments : goal.returns-in-Err-drop_from-clause-moments
returns-in-Err-drop_from-clause-moments g c o ds told super e none allowed =
    let sp = c.in-Ok.ensures.holds ds [] told e.engine.held in
    let same = c.in-Ok.ensures.elsewhere told in
    let run = c.cut.ensures.any_moment told in
    let moved : c.cut.new.self.base ≡ c.args.self.now.log.base → ⊥ = λ z. c.if-now-base.false (c.base-now.ensures ∙ (z ∙ sym c.base-base.ensures)) in
    let is : c.next_super-next.result ≡ super_at o.super (next_stand o.super c.cut.new.self.base) = c.next_super-next.ensures.next ∙ (ap (λ (s : Super). super_at s (next_stand s c.base-now.result)) super ∙ ap (λ (b : ℕ). super_at o.super (next_stand o.super b)) c.base-now.ensures) in
    let more = c.renew.ensures.any_moment told (fresh o (g.D.Disk.view c.args.self.now.disk) c.args.self.now.log ds c.args.self.now.pool e none c.args.point allowed c.requires.before (g.D.Disk.view c.cut.new.disk) c.cut.new.self c.next_super-next.result same run sp c.in-Ok.ensures.log moved is) (settled o (g.D.Disk.view c.args.self.now.disk) c.args.self.now.log ds c.args.self.now.pool e none c.args.point allowed c.requires.before (g.D.Disk.view c.cut.new.disk) c.cut.new.self c.next_super-next.result same run sp c.in-Ok.ensures.log moved is) in
    let done = c.in-Ok-renew.ensures.done told (fresh o (g.D.Disk.view c.args.self.now.disk) c.args.self.now.log ds c.args.self.now.pool e none c.args.point allowed c.requires.before (g.D.Disk.view c.cut.new.disk) c.cut.new.self c.next_super-next.result same run sp c.in-Ok.ensures.log moved is) in
    drop_run o (g.D.Disk.view c.args.self.now.disk) c.args.self.now.log ds c.args.self.now.pool e none c.args.point allowed c.requires.before (g.D.Disk.view c.cut.new.disk) c.cut.new.self c.next_super-next.result same run sp c.in-Ok.ensures.log moved is (g.D.Disk.view c.renew.new.disk) more done c.area-area.result c.area-area.ensures (g.D.Disk.view c.drop_from.new.self) c.drop_from.result (c.drop_from.ensures.does told)

pub returns-in-Ok-sync-clause-cuts : goal.returns-in-Ok-sync-clause-cuts
returns-in-Ok-sync-clause-cuts g c o ds told super e none allowed =
    let sp = c.in-Ok.ensures.holds ds [] told e.engine.held in
    let same = c.in-Ok.ensures.elsewhere told in
    let run = c.cut.ensures.any_moment told in
    let moved : c.cut.new.self.base ≡ c.args.self.now.log.base → ⊥ = λ z. c.if-now-base.false (c.base-now.ensures ∙ (z ∙ sym c.base-base.ensures)) in
    let is : c.next_super-next.result ≡ super_at o.super (next_stand o.super c.cut.new.self.base) = c.next_super-next.ensures.next ∙ (ap (λ (s : Super). super_at s (next_stand s c.base-now.result)) super ∙ ap (λ (b : ℕ). super_at o.super (next_stand o.super b)) c.base-now.ensures) in
    let more = c.renew.ensures.any_moment told (fresh o (g.D.Disk.view c.args.self.now.disk) c.args.self.now.log ds c.args.self.now.pool e none c.args.point allowed c.requires.before (g.D.Disk.view c.cut.new.disk) c.cut.new.self c.next_super-next.result same run sp c.in-Ok.ensures.log moved is) (settled o (g.D.Disk.view c.args.self.now.disk) c.args.self.now.log ds c.args.self.now.pool e none c.args.point allowed c.requires.before (g.D.Disk.view c.cut.new.disk) c.cut.new.self c.next_super-next.result same run sp c.in-Ok.ensures.log moved is) in
    let done = c.in-Ok-renew.ensures.done told (fresh o (g.D.Disk.view c.args.self.now.disk) c.args.self.now.log ds c.args.self.now.pool e none c.args.point allowed c.requires.before (g.D.Disk.view c.cut.new.disk) c.cut.new.self c.next_super-next.result same run sp c.in-Ok.ensures.log moved is) in
    cut_off o (g.D.Disk.view c.args.self.now.disk) c.args.self.now.log ds c.args.self.now.pool e none c.args.point allowed c.requires.before (g.D.Disk.view c.cut.new.disk) c.cut.new.self c.next_super-next.result same run sp c.in-Ok.ensures.log moved is (g.D.Disk.view c.renew.new.disk) more done c.area-area.result c.area-area.ensures (g.D.Disk.view c.drop_from.new.self) (g.D.Disk.view c.sync.new.self) (c.in-Ok-drop_from.ensures.does told) (c.in-Ok-sync.ensures.does told)

pub returns-in-Ok-sync-clause-allowed : goal.returns-in-Ok-sync-clause-allowed
returns-in-Ok-sync-clause-allowed g c o ds k told super e none allowed early =
    let sp = c.in-Ok.ensures.holds ds [] told e.engine.held in
    let same = c.in-Ok.ensures.elsewhere told in
    let run = c.cut.ensures.any_moment told in
    let moved : c.cut.new.self.base ≡ c.args.self.now.log.base → ⊥ = λ z. c.if-now-base.false (c.base-now.ensures ∙ (z ∙ sym c.base-base.ensures)) in
    let is : c.next_super-next.result ≡ super_at o.super (next_stand o.super c.cut.new.self.base) = c.next_super-next.ensures.next ∙ (ap (λ (s : Super). super_at s (next_stand s c.base-now.result)) super ∙ ap (λ (b : ℕ). super_at o.super (next_stand o.super b)) c.base-now.ensures) in
    let more = c.renew.ensures.any_moment told (fresh o (g.D.Disk.view c.args.self.now.disk) c.args.self.now.log ds c.args.self.now.pool e none c.args.point allowed c.requires.before (g.D.Disk.view c.cut.new.disk) c.cut.new.self c.next_super-next.result same run sp c.in-Ok.ensures.log moved is) (settled o (g.D.Disk.view c.args.self.now.disk) c.args.self.now.log ds c.args.self.now.pool e none c.args.point allowed c.requires.before (g.D.Disk.view c.cut.new.disk) c.cut.new.self c.next_super-next.result same run sp c.in-Ok.ensures.log moved is) in
    let done = c.in-Ok-renew.ensures.done told (fresh o (g.D.Disk.view c.args.self.now.disk) c.args.self.now.log ds c.args.self.now.pool e none c.args.point allowed c.requires.before (g.D.Disk.view c.cut.new.disk) c.cut.new.self c.next_super-next.result same run sp c.in-Ok.ensures.log moved is) in
    cut_allows o (g.D.Disk.view c.args.self.now.disk) c.args.self.now.log ds c.args.self.now.pool e none c.args.point allowed c.requires.before (g.D.Disk.view c.cut.new.disk) c.cut.new.self c.next_super-next.result same run sp c.in-Ok.ensures.log moved is (g.D.Disk.view c.renew.new.disk) more done c.area-area.result c.area-area.ensures (g.D.Disk.view c.drop_from.new.self) (g.D.Disk.view c.sync.new.self) k (c.in-Ok-drop_from.ensures.does told) (c.in-Ok-sync.ensures.does told) early

pub returns-in-Ok-sync-clause-moments : goal.returns-in-Ok-sync-clause-moments
returns-in-Ok-sync-clause-moments g c o ds told super e none allowed =
    let sp = c.in-Ok.ensures.holds ds [] told e.engine.held in
    let same = c.in-Ok.ensures.elsewhere told in
    let run = c.cut.ensures.any_moment told in
    let moved : c.cut.new.self.base ≡ c.args.self.now.log.base → ⊥ = λ z. c.if-now-base.false (c.base-now.ensures ∙ (z ∙ sym c.base-base.ensures)) in
    let is : c.next_super-next.result ≡ super_at o.super (next_stand o.super c.cut.new.self.base) = c.next_super-next.ensures.next ∙ (ap (λ (s : Super). super_at s (next_stand s c.base-now.result)) super ∙ ap (λ (b : ℕ). super_at o.super (next_stand o.super b)) c.base-now.ensures) in
    let more = c.renew.ensures.any_moment told (fresh o (g.D.Disk.view c.args.self.now.disk) c.args.self.now.log ds c.args.self.now.pool e none c.args.point allowed c.requires.before (g.D.Disk.view c.cut.new.disk) c.cut.new.self c.next_super-next.result same run sp c.in-Ok.ensures.log moved is) (settled o (g.D.Disk.view c.args.self.now.disk) c.args.self.now.log ds c.args.self.now.pool e none c.args.point allowed c.requires.before (g.D.Disk.view c.cut.new.disk) c.cut.new.self c.next_super-next.result same run sp c.in-Ok.ensures.log moved is) in
    let done = c.in-Ok-renew.ensures.done told (fresh o (g.D.Disk.view c.args.self.now.disk) c.args.self.now.log ds c.args.self.now.pool e none c.args.point allowed c.requires.before (g.D.Disk.view c.cut.new.disk) c.cut.new.self c.next_super-next.result same run sp c.in-Ok.ensures.log moved is) in
    sync_run o (g.D.Disk.view c.args.self.now.disk) c.args.self.now.log ds c.args.self.now.pool e none c.args.point allowed c.requires.before (g.D.Disk.view c.cut.new.disk) c.cut.new.self c.next_super-next.result same run sp c.in-Ok.ensures.log moved is (g.D.Disk.view c.renew.new.disk) more done c.area-area.result c.area-area.ensures (g.D.Disk.view c.drop_from.new.self) (g.D.Disk.view c.sync.new.self) c.sync.result (c.in-Ok-drop_from.ensures.does told) (c.sync.ensures.does told)

pub returns-in-Err-sync-clause-moments : goal.returns-in-Err-sync-clause-moments
returns-in-Err-sync-clause-moments g c o ds told super e none allowed =
    let sp = c.in-Ok.ensures.holds ds [] told e.engine.held in
    let same = c.in-Ok.ensures.elsewhere told in
    let run = c.cut.ensures.any_moment told in
    let moved : c.cut.new.self.base ≡ c.args.self.now.log.base → ⊥ = λ z. c.if-now-base.false (c.base-now.ensures ∙ (z ∙ sym c.base-base.ensures)) in
    let is : c.next_super-next.result ≡ super_at o.super (next_stand o.super c.cut.new.self.base) = c.next_super-next.ensures.next ∙ (ap (λ (s : Super). super_at s (next_stand s c.base-now.result)) super ∙ ap (λ (b : ℕ). super_at o.super (next_stand o.super b)) c.base-now.ensures) in
    let more = c.renew.ensures.any_moment told (fresh o (g.D.Disk.view c.args.self.now.disk) c.args.self.now.log ds c.args.self.now.pool e none c.args.point allowed c.requires.before (g.D.Disk.view c.cut.new.disk) c.cut.new.self c.next_super-next.result same run sp c.in-Ok.ensures.log moved is) (settled o (g.D.Disk.view c.args.self.now.disk) c.args.self.now.log ds c.args.self.now.pool e none c.args.point allowed c.requires.before (g.D.Disk.view c.cut.new.disk) c.cut.new.self c.next_super-next.result same run sp c.in-Ok.ensures.log moved is) in
    let done = c.in-Ok-renew.ensures.done told (fresh o (g.D.Disk.view c.args.self.now.disk) c.args.self.now.log ds c.args.self.now.pool e none c.args.point allowed c.requires.before (g.D.Disk.view c.cut.new.disk) c.cut.new.self c.next_super-next.result same run sp c.in-Ok.ensures.log moved is) in
    sync_run o (g.D.Disk.view c.args.self.now.disk) c.args.self.now.log ds c.args.self.now.pool e none c.args.point allowed c.requires.before (g.D.Disk.view c.cut.new.disk) c.cut.new.self c.next_super-next.result same run sp c.in-Ok.ensures.log moved is (g.D.Disk.view c.renew.new.disk) more done c.area-area.result c.area-area.ensures (g.D.Disk.view c.drop_from.new.self) (g.D.Disk.view c.sync.new.self) c.sync.result (c.in-Ok-drop_from.ensures.does told) (c.sync.ensures.does told)
