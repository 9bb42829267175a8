use Rattle.std.proofs.Common.{◌≡◌, ◌≤◌, ◌+◌, ◌⊎◌, refl, sym, ap, ◌∙◌, subst, arith}
use Rattle.std.specs.Prelude.{nat_lt, ◌&&◌, ◌^◌}
use Rattle.sg_model.specs.SaidOps.{said_op}
use Rattle.sg_model.specs.Step.{is_changing}
use Rattle.sg_store.specs.Seen.{core_of}
use Rattle.sg_store.proofs.Holding as holding
use Rattle.sg_store.proofs.Rooming as rooming
use Rattle.sg_ops.specs.Table.{table_of}
use Rattle.sg_store.specs.Engine.{led}
use Rattle.sg_store.proofs.store.Store.room_for.Given as given
use Rattle.sg_store.proofs.Serving as serving
use Rattle.sg_store.proofs.Heeding as heeding
use Rattle.sg_store.specs.Store.{Core}
use Rattle.sg_store.proofs.Accounting as accounting
use Rattle.sg_store.proofs.Still.{not_halted, same_refused}
use Rattle.sg_store.proofs.store.Store.room_for.Goals as goal

pub returns-in-Err-Model-clause-stays : goal.returns-in-Err-Model-clause-stays
returns-in-Err-Model-clause-stays g c z from m told x lawful kept =
    let t = table_of (λ y. (given.RecordOp-dyn g y).record_meaning y.1) (λ y. (given.RangeOp-dyn g y).range_meaning y.1) c.args.ops.now in
    let o = holding.reading _ (g.E.Engine.basis z) lawful (led t z from (g.E.Engine.view c.args.self.now.engine)) x c.args.self.now.txns kept in
    let b = c.needs.ensures.needs z from m told o kept.engine (holding.reads_so _ (g.E.Engine.basis z) lawful (led t z from (g.E.Engine.view c.args.self.now.engine)) x c.args.self.now.txns kept) in
    (holding.rests_stays _ (g.E.Engine.basis z) lawful (led t z from (g.E.Engine.view c.args.self.now.engine)) x c.args.self.now.txns kept (led t z from (g.E.Engine.view c.needs.new.self)) b.0)

pub returns-then-lacks-clause-stays : goal.returns-then-lacks-clause-stays
returns-then-lacks-clause-stays g c z from m told x lawful kept =
    let t = table_of (λ y. (given.RecordOp-dyn g y).record_meaning y.1) (λ y. (given.RangeOp-dyn g y).range_meaning y.1) c.args.ops.now in
    let o = holding.reading _ (g.E.Engine.basis z) lawful (led t z from (g.E.Engine.view c.args.self.now.engine)) x c.args.self.now.txns kept in
    let b = c.needs.ensures.needs z from m told o kept.engine (holding.reads_so _ (g.E.Engine.basis z) lawful (led t z from (g.E.Engine.view c.args.self.now.engine)) x c.args.self.now.txns kept) in
    (holding.rests_stays _ (g.E.Engine.basis z) lawful (led t z from (g.E.Engine.view c.args.self.now.engine)) x c.args.self.now.txns kept (led t z from (g.E.Engine.view c.needs.new.self)) b.0)

pub returns-then-bands-needs-clause-stays : goal.returns-then-bands-needs-clause-stays
returns-then-bands-needs-clause-stays g c z from m told x lawful kept =
    let t = table_of (λ y. (given.RecordOp-dyn g y).record_meaning y.1) (λ y. (given.RangeOp-dyn g y).range_meaning y.1) c.args.ops.now in
    let o = holding.reading _ (g.E.Engine.basis z) lawful (led t z from (g.E.Engine.view c.args.self.now.engine)) x c.args.self.now.txns kept in
    let b = c.needs.ensures.needs z from m told o kept.engine (holding.reads_so _ (g.E.Engine.basis z) lawful (led t z from (g.E.Engine.view c.args.self.now.engine)) x c.args.self.now.txns kept) in
    (holding.rests_stays _ (g.E.Engine.basis z) lawful (led t z from (g.E.Engine.view c.args.self.now.engine)) x c.args.self.now.txns kept (led t z from (g.E.Engine.view c.needs.new.self)) b.0)

pub returns-then-is_over-clause-stays : goal.returns-then-is_over-clause-stays
returns-then-is_over-clause-stays g c z from m told x lawful kept =
    let t = table_of (λ y. (given.RecordOp-dyn g y).record_meaning y.1) (λ y. (given.RangeOp-dyn g y).range_meaning y.1) c.args.ops.now in
    let o = holding.reading _ (g.E.Engine.basis z) lawful (led t z from (g.E.Engine.view c.args.self.now.engine)) x c.args.self.now.txns kept in
    let b = c.needs.ensures.needs z from m told o kept.engine (holding.reads_so _ (g.E.Engine.basis z) lawful (led t z from (g.E.Engine.view c.args.self.now.engine)) x c.args.self.now.txns kept) in
    (holding.rests_stays _ (g.E.Engine.basis z) lawful (led t z from (g.E.Engine.view c.args.self.now.engine)) x c.args.self.now.txns kept (led t z from (g.E.Engine.view c.needs.new.self)) b.0)

pub returns-clause-stays : goal.returns-clause-stays
returns-clause-stays g c z from m told x lawful kept =
    let t = table_of (λ y. (given.RecordOp-dyn g y).record_meaning y.1) (λ y. (given.RangeOp-dyn g y).range_meaning y.1) c.args.ops.now in
    let o = holding.reading _ (g.E.Engine.basis z) lawful (led t z from (g.E.Engine.view c.args.self.now.engine)) x c.args.self.now.txns kept in
    let b = c.needs.ensures.needs z from m told o kept.engine (holding.reads_so _ (g.E.Engine.basis z) lawful (led t z from (g.E.Engine.view c.args.self.now.engine)) x c.args.self.now.txns kept) in
    (holding.rests_stays _ (g.E.Engine.basis z) lawful (led t z from (g.E.Engine.view c.args.self.now.engine)) x c.args.self.now.txns kept (led t z from (g.E.Engine.view c.needs.new.self)) b.0)

pub returns-in-Err-Space-clause-stays : goal.returns-in-Err-Space-clause-stays
returns-in-Err-Space-clause-stays g c z from m told x lawful kept =
    let t = table_of (λ y. (given.RecordOp-dyn g y).record_meaning y.1) (λ y. (given.RangeOp-dyn g y).range_meaning y.1) c.args.ops.now in
    let o = holding.reading _ (g.E.Engine.basis z) lawful (led t z from (g.E.Engine.view c.args.self.now.engine)) x c.args.self.now.txns kept in
    let b = c.needs.ensures.needs z from m told o kept.engine (holding.reads_so _ (g.E.Engine.basis z) lawful (led t z from (g.E.Engine.view c.args.self.now.engine)) x c.args.self.now.txns kept) in
    rooming.stays_at _ (g.E.Engine.basis z) lawful (led t z from (g.E.Engine.view c.args.self.now.engine)) x (core_of c.args.self.now) kept (led t z from (g.E.Engine.view c.needs.new.self)) (said_op c.args.op.now) (led t z from (g.E.Engine.view c.halt.new.self.engine)) (ap (λ e. led t z from (g.E.Engine.view e)) (sym c.halt.ensures.engine)) (holding.rests_stays _ (g.E.Engine.basis z) lawful (led t z from (g.E.Engine.view c.args.self.now.engine)) x c.args.self.now.txns kept (led t z from (g.E.Engine.view c.needs.new.self)) b.0)

pub returns-in-Err-Model-clause-rooms : goal.returns-in-Err-Model-clause-rooms
returns-in-Err-Model-clause-rooms g c z from m told x lawful kept =
    let t = table_of (λ y. (given.RecordOp-dyn g y).record_meaning y.1) (λ y. (given.RangeOp-dyn g y).range_meaning y.1) c.args.ops.now in
    let o = holding.reading _ (g.E.Engine.basis z) lawful (led t z from (g.E.Engine.view c.args.self.now.engine)) x c.args.self.now.txns kept in
    let b = c.in-Err-Model.ensures.needs z from m told o kept.engine (holding.reads_so _ (g.E.Engine.basis z) lawful (led t z from (g.E.Engine.view c.args.self.now.engine)) x c.args.self.now.txns kept) in
    rooming.rooms_refused _ (g.E.Engine.basis z) lawful (led t z from (g.E.Engine.view c.args.self.now.engine)) x (core_of c.args.self.now) kept (led t z from (g.E.Engine.view c.needs.new.self)) (said_op c.args.op.now) c.in-Err-Model.reason c.in-Err-Model.field-0 c.in-Err-Model.field-0-is b.1

pub returns-then-lacks-clause-rooms : goal.returns-then-lacks-clause-rooms
returns-then-lacks-clause-rooms g c z from m told x lawful kept =
    let t = table_of (λ y. (given.RecordOp-dyn g y).record_meaning y.1) (λ y. (given.RangeOp-dyn g y).range_meaning y.1) c.args.ops.now in
    let o = holding.reading _ (g.E.Engine.basis z) lawful (led t z from (g.E.Engine.view c.args.self.now.engine)) x c.args.self.now.txns kept in
    let b = c.in-Ok.ensures.needs z from m told o kept.engine (holding.reads_so _ (g.E.Engine.basis z) lawful (led t z from (g.E.Engine.view c.args.self.now.engine)) x c.args.self.now.txns kept) in
    let h = b.1 in
    rooming.rooms_space _ (g.E.Engine.basis z) lawful (led t z from (g.E.Engine.view c.args.self.now.engine)) x (core_of c.args.self.now) kept (led t z from (g.E.Engine.view c.needs.new.self)) (said_op c.args.op.now) (g.E.Engine.leaves c.args.self.now.engine t z from m told) c.in-Ok.needs c.free_pages-free.result c.reserved-reserved.result c.in-Ok.needs.pages refl c.free_pages-free.ensures c.reserved-reserved.ensures h.0 h.1 (rooming.lacking c.free_pages-free.result c.reserved-reserved.result c.in-Ok.needs.pages (sym c.lacks.ensures ∙ c.if-lacks.true))

pub returns-then-bands-needs-clause-rooms : goal.returns-then-bands-needs-clause-rooms
returns-then-bands-needs-clause-rooms g c z from m told x lawful kept =
    let t = table_of (λ y. (given.RecordOp-dyn g y).record_meaning y.1) (λ y. (given.RangeOp-dyn g y).range_meaning y.1) c.args.ops.now in
    let o = holding.reading _ (g.E.Engine.basis z) lawful (led t z from (g.E.Engine.view c.args.self.now.engine)) x c.args.self.now.txns kept in
    let b = c.in-Ok.ensures.needs z from m told o kept.engine (holding.reads_so _ (g.E.Engine.basis z) lawful (led t z from (g.E.Engine.view c.args.self.now.engine)) x c.args.self.now.txns kept) in
    let h = b.1 in
    rooming.rooms_bands _ (g.E.Engine.basis z) lawful (led t z from (g.E.Engine.view c.args.self.now.engine)) x (core_of c.args.self.now) kept (led t z from (g.E.Engine.view c.needs.new.self)) (said_op c.args.op.now) (g.E.Engine.leaves c.args.self.now.engine t z from m told) c.in-Ok.needs c.free_bands-bands.result c.in-Ok.needs.bands refl c.free_bands-bands.ensures h.0 h.1
    (subst (λ n. (c.in-Ok.needs.pages ≡ 0) ⊎ (n + c.in-Ok.needs.pages ≤ (led t z from (g.E.Engine.view c.needs.new.self)).free_pages)) c.reserved-reserved.ensures (subst (λ n. (c.in-Ok.needs.pages ≡ 0) ⊎ (c.reserved-reserved.result + c.in-Ok.needs.pages ≤ n)) c.free_pages-free.ensures (rooming.enough c.free_pages-free.result c.reserved-reserved.result c.in-Ok.needs.pages (sym c.lacks.ensures ∙ c.if-lacks.false)))) c.if-bands-needs.true

pub returns-then-is_over-clause-rooms : goal.returns-then-is_over-clause-rooms
returns-then-is_over-clause-rooms g c z from m told x lawful kept =
    let t = table_of (λ y. (given.RecordOp-dyn g y).record_meaning y.1) (λ y. (given.RangeOp-dyn g y).range_meaning y.1) c.args.ops.now in
    let o = holding.reading _ (g.E.Engine.basis z) lawful (led t z from (g.E.Engine.view c.args.self.now.engine)) x c.args.self.now.txns kept in
    let b = c.in-Ok.ensures.needs z from m told o kept.engine (holding.reads_so _ (g.E.Engine.basis z) lawful (led t z from (g.E.Engine.view c.args.self.now.engine)) x c.args.self.now.txns kept) in
    let h = b.1 in
    rooming.rooms_end _ (g.E.Engine.basis z) lawful (led t z from (g.E.Engine.view c.args.self.now.engine)) x (core_of c.args.self.now) kept (led t z from (g.E.Engine.view c.needs.new.self)) (said_op c.args.op.now) c.in-Ok.needs h.0 h.1
    (subst (λ n. (c.in-Ok.needs.pages ≡ 0) ⊎ (n + c.in-Ok.needs.pages ≤ (led t z from (g.E.Engine.view c.needs.new.self)).free_pages)) c.reserved-reserved.ensures (subst (λ n. (c.in-Ok.needs.pages ≡ 0) ⊎ (c.reserved-reserved.result + c.in-Ok.needs.pages ≤ n)) c.free_pages-free.ensures (rooming.enough c.free_pages-free.result c.reserved-reserved.result c.in-Ok.needs.pages (sym c.lacks.ensures ∙ c.if-lacks.false))))
    (omega (arith, c.if-bands-needs.false, c.free_bands-bands.ensures)) (rooming.over (said_op c.args.op.now) (led t z from (g.E.Engine.view c.needs.new.self)).tail (ap (λ n. is_changing (said_op c.args.op.now) && nat_lt (2 ^ 62) n) (sym c.tail.ensures) ∙ (sym c.is_over.ensures ∙ c.if-is_over.true)))

pub returns-clause-rooms : goal.returns-clause-rooms
returns-clause-rooms g c z from m told x lawful kept =
    let t = table_of (λ y. (given.RecordOp-dyn g y).record_meaning y.1) (λ y. (given.RangeOp-dyn g y).range_meaning y.1) c.args.ops.now in
    let o = holding.reading _ (g.E.Engine.basis z) lawful (led t z from (g.E.Engine.view c.args.self.now.engine)) x c.args.self.now.txns kept in
    let b = c.in-Ok.ensures.needs z from m told o kept.engine (holding.reads_so _ (g.E.Engine.basis z) lawful (led t z from (g.E.Engine.view c.args.self.now.engine)) x c.args.self.now.txns kept) in
    let h = b.1 in
    rooming.rooms_ok _ (g.E.Engine.basis z) lawful (led t z from (g.E.Engine.view c.args.self.now.engine)) x (core_of c.args.self.now) kept (led t z from (g.E.Engine.view c.needs.new.self)) (said_op c.args.op.now) c.in-Ok.needs h.0 h.1
    (subst (λ n. (c.in-Ok.needs.pages ≡ 0) ⊎ (n + c.in-Ok.needs.pages ≤ (led t z from (g.E.Engine.view c.needs.new.self)).free_pages)) c.reserved-reserved.ensures (subst (λ n. (c.in-Ok.needs.pages ≡ 0) ⊎ (c.reserved-reserved.result + c.in-Ok.needs.pages ≤ n)) c.free_pages-free.ensures (rooming.enough c.free_pages-free.result c.reserved-reserved.result c.in-Ok.needs.pages (sym c.lacks.ensures ∙ c.if-lacks.false))))
    (omega (arith, c.if-bands-needs.false, c.free_bands-bands.ensures))

pub returns-clause-tested : goal.returns-clause-tested
returns-clause-tested g c =
    rooming.not_over (said_op c.args.op.now) (g.E.Engine.view c.needs.new.self).tail (ap (λ n. is_changing (said_op c.args.op.now) && nat_lt (2 ^ 62) n) (sym c.tail.ensures) ∙ (sym c.is_over.ensures ∙ c.if-is_over.false))

pub returns-then-lacks-clause-same : goal.returns-then-lacks-clause-same
returns-then-lacks-clause-same g c none z from m told x lawful kept =
    let t = table_of (λ y. (given.RecordOp-dyn g y).record_meaning y.1) (λ y. (given.RangeOp-dyn g y).range_meaning y.1) c.args.ops.now in
    let o = holding.reading _ (g.E.Engine.basis z) lawful (led t z from (g.E.Engine.view c.args.self.now.engine)) x c.args.self.now.txns kept in
    let b = c.in-Ok.ensures.needs z from m told o kept.engine (holding.reads_so _ (g.E.Engine.basis z) lawful (led t z from (g.E.Engine.view c.args.self.now.engine)) x c.args.self.now.txns kept) in
    holding.rested_same _ (g.E.Engine.basis z) (led t z from (g.E.Engine.view c.args.self.now.engine)) (led t z from (g.E.Engine.view c.needs.new.self)) b.1.0

pub returns-then-bands-needs-clause-same : goal.returns-then-bands-needs-clause-same
returns-then-bands-needs-clause-same g c none z from m told x lawful kept =
    let t = table_of (λ y. (given.RecordOp-dyn g y).record_meaning y.1) (λ y. (given.RangeOp-dyn g y).range_meaning y.1) c.args.ops.now in
    let o = holding.reading _ (g.E.Engine.basis z) lawful (led t z from (g.E.Engine.view c.args.self.now.engine)) x c.args.self.now.txns kept in
    let b = c.in-Ok.ensures.needs z from m told o kept.engine (holding.reads_so _ (g.E.Engine.basis z) lawful (led t z from (g.E.Engine.view c.args.self.now.engine)) x c.args.self.now.txns kept) in
    holding.rested_same _ (g.E.Engine.basis z) (led t z from (g.E.Engine.view c.args.self.now.engine)) (led t z from (g.E.Engine.view c.needs.new.self)) b.1.0

pub returns-then-is_over-clause-same : goal.returns-then-is_over-clause-same
returns-then-is_over-clause-same g c none z from m told x lawful kept =
    let t = table_of (λ y. (given.RecordOp-dyn g y).record_meaning y.1) (λ y. (given.RangeOp-dyn g y).range_meaning y.1) c.args.ops.now in
    let o = holding.reading _ (g.E.Engine.basis z) lawful (led t z from (g.E.Engine.view c.args.self.now.engine)) x c.args.self.now.txns kept in
    let b = c.in-Ok.ensures.needs z from m told o kept.engine (holding.reads_so _ (g.E.Engine.basis z) lawful (led t z from (g.E.Engine.view c.args.self.now.engine)) x c.args.self.now.txns kept) in
    holding.rested_same _ (g.E.Engine.basis z) (led t z from (g.E.Engine.view c.args.self.now.engine)) (led t z from (g.E.Engine.view c.needs.new.self)) b.1.0

pub returns-clause-same : goal.returns-clause-same
returns-clause-same g c none z from m told x lawful kept =
    let t = table_of (λ y. (given.RecordOp-dyn g y).record_meaning y.1) (λ y. (given.RangeOp-dyn g y).range_meaning y.1) c.args.ops.now in
    let o = holding.reading _ (g.E.Engine.basis z) lawful (led t z from (g.E.Engine.view c.args.self.now.engine)) x c.args.self.now.txns kept in
    let b = c.in-Ok.ensures.needs z from m told o kept.engine (holding.reads_so _ (g.E.Engine.basis z) lawful (led t z from (g.E.Engine.view c.args.self.now.engine)) x c.args.self.now.txns kept) in
    holding.rested_same _ (g.E.Engine.basis z) (led t z from (g.E.Engine.view c.args.self.now.engine)) (led t z from (g.E.Engine.view c.needs.new.self)) b.1.0

pub returns-in-Err-Model-clause-same : goal.returns-in-Err-Model-clause-same
returns-in-Err-Model-clause-same g c none z from m told x lawful kept =
    let t = table_of (λ y. (given.RecordOp-dyn g y).record_meaning y.1) (λ y. (given.RangeOp-dyn g y).range_meaning y.1) c.args.ops.now in
    let o = holding.reading _ (g.E.Engine.basis z) lawful (led t z from (g.E.Engine.view c.args.self.now.engine)) x c.args.self.now.txns kept in
    let b = c.in-Err-Model.ensures.needs z from m told o kept.engine (holding.reads_so _ (g.E.Engine.basis z) lawful (led t z from (g.E.Engine.view c.args.self.now.engine)) x c.args.self.now.txns kept) in
    same_refused _ (g.E.Engine.basis z) (led t z from (g.E.Engine.view c.args.self.now.engine)) (led t z from (g.E.Engine.view c.needs.new.self)) o (said_op c.args.op.now) c.in-Err-Model.reason c.in-Err-Model.field-0 c.in-Err-Model.field-0-is b.1

pub returns-in-Err-Space-clause-same : goal.returns-in-Err-Space-clause-same
returns-in-Err-Space-clause-same g c none z from m told x lawful kept = not_halted (ap (λ (k : Core). k.stopped) c.halt.ensures.core) none

pub needs-requires : goal.needs-requires
needs-requires g c =
    let s = c.requires.can in
    record { can = record { sizes = s.sizes; from = s.from; means = s.means; can = λ told. serving.can_look _ (g.E.Engine.basis s.sizes) (led _ s.sizes (s.from told) (g.E.Engine.view c.args.self.now.engine)) c.args.self.now.txns (s.can told) } }

pub returns-in-Err-Space-clause-means : goal.returns-in-Err-Space-clause-means
returns-in-Err-Space-clause-means g c z from m =
    let t = table_of (λ y. (given.RecordOp-dyn g y).record_meaning y.1) (λ y. (given.RangeOp-dyn g y).range_meaning y.1) c.args.ops.now in
    subst (λ e. (g.E.Engine.view e).means t z from) (sym c.halt.ensures.engine) (c.needs.ensures.means z from m)

pub returns-in-Err-Model-clause-heeds : goal.returns-in-Err-Model-clause-heeds
returns-in-Err-Model-clause-heeds g c none =
    let quiet = rw c.in-Err-Model.field-0-is at c.in-Err-Model.ensures.refused in
    let acc = rw c.in-Err-Model.field-0-is at c.in-Err-Model.ensures.counts.accounts in
    heeding.heeds_well _ (g.E.Engine.view c.args.self.now.engine) (g.E.Engine.view c.needs.new.self) quiet.1 c.needs.ensures.counts.tail quiet.0 (accounting.unfailed_refused (g.E.Engine.view c.args.self.now.engine) (g.E.Engine.view c.needs.new.self) _ (λ is. is) acc)

pub returns-in-Err-Space-clause-heeds : goal.returns-in-Err-Space-clause-heeds
returns-in-Err-Space-clause-heeds g c none =
    let failed = rw c.in-Err-Space.field-0-is at c.in-Err-Space.ensures.counts.failed in
    let acc = rw c.in-Err-Space.field-0-is at c.in-Err-Space.ensures.counts.accounts in
    heeding.heeds_halt (g.E.Engine.view) c.args.self.now.stop c.halt.new.self.stop c.in-Err-Space.fault (g.E.Engine.view c.args.self.now.engine) c.needs.new.self c.halt.new.self.engine c.halt.ensures.engine (ap (λ (k : Core). k.stopped) c.halt.ensures.core) none
    c.needs.ensures.counts.later c.needs.ensures.counts.tail failed (accounting.accounts_failed {B = Unit {0}} (g.E.Engine.view c.args.self.now.engine) (g.E.Engine.view c.args.self.now.engine) (g.E.Engine.view c.needs.new.self) _ c.in-Err-Space.fault (λ is. is) (λ is. is) (accounting.unfailed_none (g.E.Engine.view c.args.self.now.engine)) (λ h. h) acc)

pub returns-then-lacks-clause-heeds : goal.returns-then-lacks-clause-heeds
returns-then-lacks-clause-heeds g c none =
    heeding.heeds_well _ (g.E.Engine.view c.args.self.now.engine) (g.E.Engine.view c.needs.new.self) c.in-Ok.ensures.counts.quiet c.needs.ensures.counts.tail c.in-Ok.ensures.counts.tells (accounting.unfailed_done (g.E.Engine.view c.args.self.now.engine) (g.E.Engine.view c.needs.new.self) _ c.in-Ok.ensures.counts.accounts)

pub returns-then-bands-needs-clause-heeds : goal.returns-then-bands-needs-clause-heeds
returns-then-bands-needs-clause-heeds g c none =
    heeding.heeds_well _ (g.E.Engine.view c.args.self.now.engine) (g.E.Engine.view c.needs.new.self) c.in-Ok.ensures.counts.quiet c.needs.ensures.counts.tail c.in-Ok.ensures.counts.tells (accounting.unfailed_done (g.E.Engine.view c.args.self.now.engine) (g.E.Engine.view c.needs.new.self) _ c.in-Ok.ensures.counts.accounts)

pub returns-then-is_over-clause-heeds : goal.returns-then-is_over-clause-heeds
returns-then-is_over-clause-heeds g c none =
    heeding.heeds_well _ (g.E.Engine.view c.args.self.now.engine) (g.E.Engine.view c.needs.new.self) c.in-Ok.ensures.counts.quiet c.needs.ensures.counts.tail c.in-Ok.ensures.counts.tells (accounting.unfailed_done (g.E.Engine.view c.args.self.now.engine) (g.E.Engine.view c.needs.new.self) _ c.in-Ok.ensures.counts.accounts)

pub returns-clause-heeds : goal.returns-clause-heeds
returns-clause-heeds g c none =
    heeding.heeds_well _ (g.E.Engine.view c.args.self.now.engine) (g.E.Engine.view c.needs.new.self) c.in-Ok.ensures.counts.quiet c.needs.ensures.counts.tail c.in-Ok.ensures.counts.tells (accounting.unfailed_done (g.E.Engine.view c.args.self.now.engine) (g.E.Engine.view c.needs.new.self) _ c.in-Ok.ensures.counts.accounts)
