use Rattle.std.proofs.Common.{◌∙◌, ◌+◌, ◌-◌, ℕ, take, drop, List, length, ap, sym, subst}
use Rattle.sg_base.specs.declared.page.TheConstants.{BAND_SIZE}
use Rattle.sg_ops.specs.Table.{Table, table_of}
use Rattle.sg_redo.specs.declared.place.Place.{Place}
use Rattle.sg_redo.specs.Places.{page_records, window_records}
use Rattle.sg_redo.proofs.InTurn.{IsWellDone, well_done}
use Rattle.sg_redo.specs.Window.{AllLie}
use Rattle.sg_redo.proofs.Replayed.{these, page_done, window_done}
use Rattle.sg_redo.proofs.replaying.repeat_unit.Goals as goal

pub returns-then-memory-eq-PAGE_SIZE-clause-unit : goal.returns-then-memory-eq-PAGE_SIZE-clause-unit
returns-then-memory-eq-PAGE_SIZE-clause-unit g c =
    let t : Table = table_of (λ p. (goal.RecordOp-dyn g p).record_meaning p.1) (λ p. (goal.RangeOp-dyn g p).range_meaning p.1) c.args.ops.now in
    page_done t c.args.text.now c.args.places.now _ c.args.unit.now c.bytes_mut-memory.result.now c.replay_page.new.page c.replay_page.new.since c.bytes_mut-memory.ensures.value c.if-memory-eq-PAGE_SIZE.true
    (these c.args.unit.now c.args.places.now) c.replay_page.auto.page c.replay_page.ensures.page c.replay_page.ensures.since

pub returns-else-memory-eq-PAGE_SIZE-clause-unit : goal.returns-else-memory-eq-PAGE_SIZE-clause-unit
returns-else-memory-eq-PAGE_SIZE-clause-unit g c =
    let t : Table = table_of (λ p. (goal.RecordOp-dyn g p).record_meaning p.1) (λ p. (goal.RangeOp-dyn g p).range_meaning p.1) c.args.ops.now in
    window_done t c.args.text.now c.args.places.now _ c.args.unit.now c.bytes_mut-memory.result.now c.replay_window.new.window c.replay_window.new.dirty c.replay_window.new.since c.bytes_mut-memory.ensures.value c.if-memory-eq-PAGE_SIZE.false
    (these c.args.unit.now c.args.places.now) c.replay_window.auto.window c.replay_window.ensures.written c.replay_window.ensures.marked c.replay_window.ensures.since

pub returns-then-memory-eq-PAGE_SIZE-clause-lie : goal.returns-then-memory-eq-PAGE_SIZE-clause-lie
returns-then-memory-eq-PAGE_SIZE-clause-lie g c differ = absurd (differ (ap (λ (bytes : List ℕ). length bytes) (sym c.bytes_mut-memory.ensures.value) ∙ c.if-memory-eq-PAGE_SIZE.true))

pub returns-else-memory-eq-PAGE_SIZE-clause-lie : goal.returns-else-memory-eq-PAGE_SIZE-clause-lie
returns-else-memory-eq-PAGE_SIZE-clause-lie g c differ =
    let t : Table = table_of (λ p. (goal.RecordOp-dyn g p).record_meaning p.1) (λ p. (goal.RangeOp-dyn g p).range_meaning p.1) c.args.ops.now in
    subst (λ (ps : List Place). AllLie BAND_SIZE (window_records t c.args.text.now ps)) (these c.args.unit.now c.args.places.now) c.replay_window.ensures.lie

pub returns-then-memory-eq-PAGE_SIZE-clause-well : goal.returns-then-memory-eq-PAGE_SIZE-clause-well
returns-then-memory-eq-PAGE_SIZE-clause-well g c is_page =
    let t : Table = table_of (λ p. (goal.RecordOp-dyn g p).record_meaning p.1) (λ p. (goal.RangeOp-dyn g p).range_meaning p.1) c.args.ops.now in
    let u = c.args.unit.now in
    let own : List Place = take (u.first + u.count - u.first) (drop u.first c.args.places.now) in
    subst (λ (ps : List Place). IsWellDone (page_records t c.args.text.now ps) u.loan.bytes) (these u c.args.places.now)
    (subst (λ (bytes : List ℕ). IsWellDone (page_records t c.args.text.now own) bytes) c.bytes_mut-memory.ensures.value
    (well_done (page_records t c.args.text.now own) c.bytes_mut-memory.result.now c.replay_page.new.page c.replay_page.ensures.page c.replay_page.ensures.well))

pub returns-else-memory-eq-PAGE_SIZE-clause-well : goal.returns-else-memory-eq-PAGE_SIZE-clause-well
returns-else-memory-eq-PAGE_SIZE-clause-well g c is_page = absurd (c.if-memory-eq-PAGE_SIZE.false (ap (λ (bytes : List ℕ). length bytes) c.bytes_mut-memory.ensures.value ∙ is_page))
