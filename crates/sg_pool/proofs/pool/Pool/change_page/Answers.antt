use Rattle.std.proofs.Common.{◌≡◌, ◌<◌, ℕ, length, sym, ◌∙◌, ap, subst, arith}
use Rattle.std.proofs.lemmas.Result.{err_from_is_err_and}
use Rattle.sg_base.specs.declared.area.Area.TheVariants.{Home}
use Rattle.sg_base.specs.Op.{op_of}
use Rattle.sg_frames.specs.Held.{Held}
use Rattle.sg_ops.specs.Table.{Table, table_of}
use Rattle.sg_redo.specs.Page.{on_page}
use Rattle.sg_pool.specs.Units.{Geometry, IsBacked}
use Rattle.sg_pool.specs.Shelves.{geometry_of, units}
use Rattle.sg_pool.proofs.HomesKept.{page_untouched}
use Rattle.sg_pool.proofs.Slots.{frame_some}
use Rattle.sg_pool.proofs.Bringing.{told_as}
use Rattle.sg_pool.proofs.Changes.{record_marked, change_is, change_backed, still_held, others_still}
use Rattle.sg_pool.proofs.pool.Pool.change_page.Goals as goal

pub change-requires : goal.change-requires
change-requires g c = let it = frame_some c.args.p.0 c.hold.new.self.shelf.slots.items c.in_ok-f.f c.in_ok-f.ensures.held in record { there = it.0; held = (c.args.p.0, it.1) }

pub returns-clause-brought : goal.returns-clause-brought
returns-clause-brought g c =
    let s = c.hold.new.self.shelf in let held = c.in_ok-f.ensures.held in
    let lt = (frame_some c.args.p.0 s.slots.items c.in_ok-f.f held).0 in let many = s.shelf.many in
    let long : c.in_ok-f.f < length s.frames.pages = omega (arith, lt, many) in
    let t : Table = table_of (λ p. (goal.RecordOp-dyn g p).record_meaning p.1) (λ p. (goal.RangeOp-dyn g p).range_meaning p.1) c.args.ops.now in
    let marked = record_marked c.args.p.0 (on_page t c.args.lsn (op_of c.args.op.now)) s.slots.items s.frames c.in_ok-f.f lt long s.shelf.apart held in (
      c.in_ok-f.f,
      record {
        held = still_held s.slots.items _ c.change.new.self.slots.items c.in_ok-f.f _ marked c.change.ensures.slots c.args.p.0 held;
        used = c.in_ok-f.ensures.used;
        victim = c.in_ok-f.ensures.victim;
        others = others_still s.slots.items _ c.change.new.self.slots.items c.in_ok-f.f _ marked c.change.ensures.slots c.args.self.now.shelf.slots.items c.in_ok-f.ensures.others;
      },
    )

pub returns-clause-backed : goal.returns-clause-backed
returns-clause-backed g c told apart backed =
    let s = c.hold.new.self.shelf in let t = c.change.new.self in let o = c.args.self.now.shelf in let held = c.in_ok-f.ensures.held in
    let w = g.D.Disk.view c.hold.new.disk in
    let lt = (frame_some c.args.p.0 s.slots.items c.in_ok-f.f held).0 in let many = s.shelf.many in
    let same : geometry_of s ≡ geometry_of o = c.hold.ensures.size in
    let now = subst (λ (h : Geometry). IsBacked h (w.now Home) (units (w.now Home).seen s)) (sym same) (c.in_ok-f.ensures.backed told apart backed) in
    subst (λ (h : Geometry). IsBacked h (w.now Home) (units (w.now Home).seen t)) same
    (change_backed c.args.p.0 _ s.slots.items s.frames c.in_ok-f.f lt (omega (arith, lt, many)) s.shelf.apart held (geometry_of s) s.wins (w.now Home).seen (geometry_of t) t.slots.items t.wins t.frames
    c.change.ensures.geometry c.change.ensures.slots c.change.ensures.wins c.change.ensures.frames (w.now Home) now)

pub returns-clause-changed : goal.returns-clause-changed
returns-clause-changed g c told apart backed =
    let s = c.hold.new.self.shelf in let t = c.change.new.self in let held = c.in_ok-f.ensures.held in
    let w = g.D.Disk.view c.hold.new.disk in
    let lt = (frame_some c.args.p.0 s.slots.items c.in_ok-f.f held).0 in let many = s.shelf.many in (
      units (w.now Home).seen s,
      c.in_ok-f.ensures.same told apart backed,
      c.in_ok-f.ensures.backed told apart backed,
      change_is c.args.p.0 _ s.slots.items s.frames c.in_ok-f.f lt (omega (arith, lt, many)) s.shelf.apart held (geometry_of s) s.wins (w.now Home).seen (geometry_of t) t.slots.items t.wins t.frames
          c.change.ensures.geometry c.change.ensures.slots c.change.ensures.wins c.change.ensures.frames,
    )

pub returns-clause-untouched : goal.returns-clause-untouched
returns-clause-untouched g c told apart backed =
    let s = c.hold.new.self.shelf in let t = c.change.new.self in let held = c.in_ok-f.ensures.held in
    let v = g.D.Disk.view c.args.disk.now in let w = g.D.Disk.view c.hold.new.disk in
    let lt = (frame_some c.args.p.0 s.slots.items c.in_ok-f.f held).0 in let many = s.shelf.many in
    let is = change_is c.args.p.0 _ s.slots.items s.frames c.in_ok-f.f lt (omega (arith, lt, many)) s.shelf.apart held (geometry_of s) s.wins (w.now Home).seen (geometry_of t) t.slots.items t.wins t.frames
    c.change.ensures.geometry c.change.ensures.slots c.change.ensures.wins c.change.ensures.frames in
    page_untouched (geometry_of c.args.self.now.shelf) (v.now Home).seen (w.now Home).seen (units (w.now Home).seen s) (units (w.now Home).seen t) c.args.p.0 (c.in_ok-f.ensures.untouched told apart backed) (c.in_ok-f.ensures.home told apart backed) is.other_sinces is.band_since

-- the call that brings the page was refused, and nothing else was done
pub returns-in_err-f : goal.returns-in_err-f
returns-in_err-f g c =
    let all = c.hold.ensures in let failed = c.in_err-f.ensures in let e = c.in_err-f.field-0.0 in
    let p = err_from_is_err_and c.from_residual.result c.from_residual.ensures.1 in
    rw (p.1, p.2) (record {
      brought = tt;
      emptied = failed.emptied;
      unused = failed.unused;
      windows = all.windows;
      size = all.size;
      backed = λ told apart backed. told_as ℕ (Unit {0}) e _ (failed.backed told apart backed);
      changed = λ told apart backed. tt;
      refused = λ told apart backed. told_as ℕ (Unit {0}) e _ (failed.same told apart backed);
      log_kept = all.log_kept;
      hit = all.hit;
      spared = all.spared;
      durable = all.durable;
      untouched = λ told apart backed. told_as ℕ (Unit {0}) e _ (failed.untouched told apart backed);
      log = λ ds ps told apart ready holds. told_as ℕ (Unit {0}) e _ (failed.log ds ps told apart ready holds);
      moments = all.moments;
      well = λ told apart backed away. tt;
      faults = failed.faults;
      later = all.later;
      heeded = failed.heeded;
      kept = all.kept;
      grown = all.grown;
    })

pub returns-clause-windows : goal.returns-clause-windows
returns-clause-windows g c = record {
  windows = c.change.ensures.wins ∙ c.hold.ensures.windows.windows;
  bytes = ap (λ (h : Held). h.windows) c.change.ensures.frames ∙ c.hold.ensures.windows.bytes;
}

pub returns-clause-size : goal.returns-clause-size
returns-clause-size g c = c.change.ensures.geometry ∙ c.hold.ensures.size

pub returns-clause-log_kept : goal.returns-clause-log_kept
returns-clause-log_kept g c = c.hold.ensures.log_kept

pub returns-clause-hit : goal.returns-clause-hit
returns-clause-hit g c = c.hold.ensures.hit

pub returns-clause-spared : goal.returns-clause-spared
returns-clause-spared g c = c.hold.ensures.spared

pub returns-clause-durable : goal.returns-clause-durable
returns-clause-durable g c = c.hold.ensures.durable

pub returns-clause-log : goal.returns-clause-log
returns-clause-log g c = c.in_ok-f.ensures.log

pub returns-clause-moments : goal.returns-clause-moments
returns-clause-moments g c = c.hold.ensures.moments

pub returns-clause-well : goal.returns-clause-well
returns-clause-well g c = c.in_ok-f.ensures.well

pub returns-clause-grown : goal.returns-clause-grown
returns-clause-grown g c = c.hold.ensures.grown
