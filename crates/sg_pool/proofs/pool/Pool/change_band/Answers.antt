use Rattle.std.proofs.Common.{◌≡◌, ◌<◌, ⊎_elim, ℕ, List, [], length, get_or, refl, sym, ◌∙◌, ap, subst, arith, get_or-set_same, get_or-set_other, length-set}
use Rattle.std.proofs.lemmas.Result.{err_from_is_err_and}
use Rattle.sg_base.specs.declared.area.Area.TheVariants.{Home}
use Rattle.sg_frames.specs.Held.{Held}
use Rattle.sg_pool.specs.declared.slot.Slot.{Slot}
use Rattle.std.proofs.lemmas.Bool.{cases_eq}
use Rattle.sg_pool.specs.Held.{frame_of, page_in, since_of, page_since_of}
use Rattle.sg_pool.specs.Units.{Geometry, IsBacked}
use Rattle.sg_pool.specs.Windows.{last_in}
use Rattle.sg_pool.specs.Shelves.{geometry_of, units}
use Rattle.sg_pool.proofs.HomesKept.{band_untouched}
use Rattle.sg_pool.proofs.BandsHome.{lasts_below}
use Rattle.sg_pool.proofs.Bringing.{disk_told}
use Rattle.sg_pool.proofs.BandsChanged.{written_lasts, written_held, written_below, values_written, values_written_backed}
use Rattle.sg_pool.proofs.Slots.{frame_some, page_there, none_is_some}
use Rattle.sg_pool.proofs.pool.Pool.change_band.Goals as goal

pub write_band-requires-clause-there : goal.write_band-requires-clause-there
write_band-requires-clause-there g c = (frame_some c.args.b.0 c.hold_band.new.self.shelf.wins.slots.items c.in_ok-w.w c.in_ok-w.ensures.brought.held).0

pub write_band-requires-clause-held : goal.write_band-requires-clause-held
write_band-requires-clause-held g c = (c.args.b.0, (frame_some c.args.b.0 c.hold_band.new.self.shelf.wins.slots.items c.in_ok-w.w c.in_ok-w.ensures.brought.held).1)

pub returns-clause-brought : goal.returns-clause-brought
returns-clause-brought g c =
    let s = c.hold_band.new.self.shelf in let t = c.write_band.new.self in let held = c.in_ok-w.ensures.brought.held in
    let lt = (frame_some c.args.b.0 s.wins.slots.items c.in_ok-w.w held).0 in let wide = s.shelf.wide in
    let low : c.in_ok-w.w < length s.frames.windows = omega (arith, lt, wide) in
    let is = c.write_band.ensures.frames in (
      c.in_ok-w.w,
      record {
        held = written_held (geometry_of s) s.slots.items s.wins t.wins c.in_ok-w.w c.args.b.0 _ lt held c.write_band.ensures.wins c.write_band.ensures.marks s.frames t.frames
            (ap (λ (h : Held). h.pages) is) (λ v differ. ap (λ (h : Held). get_or h.windows v []) is ∙ get_or-set_other s.frames.windows c.in_ok-w.w v _ [] differ);
        others = λ v differ. ap (λ (l : List Slot). page_in l v) c.write_band.ensures.wins ∙ (page_there s.wins.slots.items c.in_ok-w.w _ lt v differ ∙ c.in_ok-w.ensures.brought.others v differ);
      },
    )

pub returns-clause-backed : goal.returns-clause-backed
returns-clause-backed g c told apart backed =
    let s = c.hold_band.new.self.shelf in let t = c.write_band.new.self in let held = c.in_ok-w.ensures.brought.held in
    let lt = (frame_some c.args.b.0 s.wins.slots.items c.in_ok-w.w held).0 in let wide = s.shelf.wide in
    let low : c.in_ok-w.w < length s.frames.windows = omega (arith, lt, wide) in
    let is = c.write_band.ensures.frames in
    let o = c.args.self.now.shelf in let w = g.D.Disk.view c.hold_band.new.disk in
    let same : geometry_of s ≡ geometry_of o = c.hold_band.ensures.size in
    let now = subst (λ (h : Geometry). IsBacked h (w.now Home) (units (w.now Home).seen s)) (sym same) (c.in_ok-w.ensures.backed told apart backed) in
    subst (λ (h : Geometry). IsBacked h (w.now Home) (units (w.now Home).seen t)) same
    (values_written_backed (geometry_of s) s.slots.items s.wins t.wins c.in_ok-w.w c.args.b.0 _ lt held c.write_band.ensures.wins c.write_band.ensures.marks s.frames t.frames
    (ap (λ (h : Held). h.pages) is) (λ v differ. ap (λ (h : Held). get_or h.windows v []) is ∙ get_or-set_other s.frames.windows c.in_ok-w.w v _ [] differ)
    c.args.lsn c.args.at c.args.bytes.now refl c.write_band.ensures.marked (s.shelf.here.windows c.in_ok-w.w low) c.requires.fits
    (ap (λ (h : Held). get_or h.windows c.in_ok-w.w []) is ∙ get_or-set_same s.frames.windows c.in_ok-w.w _ [] low) (w.now Home) (geometry_of t) t.slots.items c.write_band.ensures.geometry c.write_band.ensures.slots now)

pub returns-clause-changed : goal.returns-clause-changed
returns-clause-changed g c told apart backed =
    let s = c.hold_band.new.self.shelf in let t = c.write_band.new.self in let held = c.in_ok-w.ensures.brought.held in
    let lt = (frame_some c.args.b.0 s.wins.slots.items c.in_ok-w.w held).0 in let wide = s.shelf.wide in
    let low : c.in_ok-w.w < length s.frames.windows = omega (arith, lt, wide) in
    let is = c.write_band.ensures.frames in
    let w = g.D.Disk.view c.hold_band.new.disk in (
      units (w.now Home).seen s,
      c.in_ok-w.ensures.same told apart backed,
      c.in_ok-w.ensures.backed told apart backed,
      c.in_ok-w.ensures.own,
      values_written (geometry_of s) s.slots.items s.wins t.wins c.in_ok-w.w c.args.b.0 _ lt held c.write_band.ensures.wins c.write_band.ensures.marks s.frames t.frames
          (ap (λ (h : Held). h.pages) is) (λ v differ. ap (λ (h : Held). get_or h.windows v []) is ∙ get_or-set_other s.frames.windows c.in_ok-w.w v _ [] differ)
          c.args.lsn c.args.at c.args.bytes.now refl c.write_band.ensures.marked (s.shelf.here.windows c.in_ok-w.w low) c.requires.fits
          (ap (λ (h : Held). get_or h.windows c.in_ok-w.w []) is ∙ get_or-set_same s.frames.windows c.in_ok-w.w _ [] low) (w.now Home) (geometry_of t) t.slots.items c.write_band.ensures.geometry c.write_band.ensures.slots,
    )

pub returns-clause-last : goal.returns-clause-last
returns-clause-last g c =
    let s = c.hold_band.new.self.shelf in let t = c.write_band.new.self in let held = c.in_ok-w.ensures.brought.held in
    let lt = (frame_some c.args.b.0 s.wins.slots.items c.in_ok-w.w held).0 in let wide = s.shelf.wide in
    let low : c.in_ok-w.w < length s.frames.windows = omega (arith, lt, wide) in
    let is = c.write_band.ensures.frames in
    ap (last_in t.wins.marks.items) (written_held (geometry_of s) s.slots.items s.wins t.wins c.in_ok-w.w c.args.b.0 _ lt held c.write_band.ensures.wins c.write_band.ensures.marks s.frames t.frames
    (ap (λ (h : Held). h.pages) is) (λ v differ. ap (λ (h : Held). get_or h.windows v []) is ∙ get_or-set_other s.frames.windows c.in_ok-w.w v _ [] differ)) ∙ c.write_band.ensures.last

pub returns-clause-logged : goal.returns-clause-logged
returns-clause-logged g c tail below small =
    let s = c.hold_band.new.self.shelf in let t = c.write_band.new.self in let held = c.in_ok-w.ensures.brought.held in
    let lt = (frame_some c.args.b.0 s.wins.slots.items c.in_ok-w.w held).0 in let wide = s.shelf.wide in
    let low : c.in_ok-w.w < length s.frames.windows = omega (arith, lt, wide) in
    let is = c.write_band.ensures.frames in
    written_below (geometry_of s) s.slots.items s.wins t.wins c.in_ok-w.w c.args.b.0 _ lt held c.write_band.ensures.wins c.write_band.ensures.marks s.frames t.frames
    (ap (λ (h : Held). h.pages) is) (λ v differ. ap (λ (h : Held). get_or h.windows v []) is ∙ get_or-set_other s.frames.windows c.in_ok-w.w v _ [] differ) c.args.lsn c.write_band.ensures.last tail small (lasts_below c.args.self.now.shelf.wins c.hold_band.new.self.shelf.wins tail c.hold_band.ensures.lasts below)

pub returns-clause-lasts : goal.returns-clause-lasts
returns-clause-lasts g c b o differ since =
    let s = c.hold_band.new.self.shelf in let t = c.write_band.new.self in let held = c.in_ok-w.ensures.brought.held in
    let lt = (frame_some c.args.b.0 s.wins.slots.items c.in_ok-w.w held).0 in let wide = s.shelf.wide in
    let low : c.in_ok-w.w < length s.frames.windows = omega (arith, lt, wide) in
    let is = c.write_band.ensures.frames in
    let it = written_lasts (geometry_of s) s.slots.items s.wins t.wins c.in_ok-w.w c.args.b.0 _ lt held c.write_band.ensures.wins c.write_band.ensures.marks s.frames t.frames
    (ap (λ (h : Held). h.pages) is) (λ v other. ap (λ (h : Held). get_or h.windows v []) is ∙ get_or-set_other s.frames.windows c.in_ok-w.w v _ [] other) b o differ since in
    let before = c.hold_band.ensures.lasts b o it.0 in
    (before.0, it.1 ∙ before.1)

pub returns-clause-gone : goal.returns-clause-gone
returns-clause-gone g c logged b o had none =
    let s = c.hold_band.new.self.shelf in let t = c.write_band.new.self in let held = c.in_ok-w.ensures.brought.held in
    let lt = (frame_some c.args.b.0 s.wins.slots.items c.in_ok-w.w held).0 in let wide = s.shelf.wide in
    let low : c.in_ok-w.w < length s.frames.windows = omega (arith, lt, wide) in
    let is = c.write_band.ensures.frames in
    let w = g.D.Disk.view c.hold_band.new.disk in
    let it = values_written (geometry_of s) s.slots.items s.wins t.wins c.in_ok-w.w c.args.b.0 _ lt held c.write_band.ensures.wins c.write_band.ensures.marks s.frames t.frames
    (ap (λ (h : Held). h.pages) is) (λ v differ. ap (λ (h : Held). get_or h.windows v []) is ∙ get_or-set_other s.frames.windows c.in_ok-w.w v _ [] differ)
    c.args.lsn c.args.at c.args.bytes.now refl c.write_band.ensures.marked (s.shelf.here.windows c.in_ok-w.w low) c.requires.fits
    (ap (λ (h : Held). get_or h.windows c.in_ok-w.w []) is ∙ get_or-set_same s.frames.windows c.in_ok-w.w _ [] low) (w.now Home) (geometry_of t) t.slots.items c.write_band.ensures.geometry c.write_band.ensures.slots in
    ⊎_elim
    (λ same. absurd (none_is_some _ (sym (ap (λ (k : ℕ). since_of t.wins.slots.items (frame_of t.wins.slots.items k)) (sym same) ∙ none) ∙ it.since)))
    (λ differ. c.in_ok-w.ensures.gone logged b o had (sym (it.other_sinces b differ) ∙ none))
    (cases_eq b c.args.b.0)

pub returns-clause-turn : goal.returns-clause-turn
unfolding returns-clause-brought
returns-clause-turn g c none = (returns-clause-brought g c).1.held ∙ (sym c.in_ok-w.ensures.brought.held ∙ c.in_ok-w.ensures.turn none)

pub returns-clause-count : goal.returns-clause-count
returns-clause-count g c = ap length c.write_band.ensures.wins ∙ (length-set c.hold_band.new.self.shelf.wins.slots.items c.in_ok-w.w _ ∙ c.hold_band.ensures.count)

pub returns-clause-untouched : goal.returns-clause-untouched
returns-clause-untouched g c told apart backed =
    let s = c.hold_band.new.self.shelf in let t = c.write_band.new.self in let held = c.in_ok-w.ensures.brought.held in
    let lt = (frame_some c.args.b.0 s.wins.slots.items c.in_ok-w.w held).0 in let wide = s.shelf.wide in
    let low : c.in_ok-w.w < length s.frames.windows = omega (arith, lt, wide) in
    let is = c.write_band.ensures.frames in
    let v = g.D.Disk.view c.args.disk.now in let w = g.D.Disk.view c.hold_band.new.disk in
    band_untouched (geometry_of c.args.self.now.shelf) (v.now Home).seen (w.now Home).seen (units (w.now Home).seen s) (units (w.now Home).seen t) c.args.b.0 (c.in_ok-w.ensures.untouched told apart backed) (c.in_ok-w.ensures.home told apart backed)
    (λ n. ap (λ (l : List Slot). page_since_of l n) c.write_band.ensures.slots)
    (λ k o differ since. (written_lasts (geometry_of s) s.slots.items s.wins t.wins c.in_ok-w.w c.args.b.0 _ lt held c.write_band.ensures.wins c.write_band.ensures.marks s.frames t.frames
    (ap (λ (h : Held). h.pages) is) (λ v other. ap (λ (h : Held). get_or h.windows v []) is ∙ get_or-set_other s.frames.windows c.in_ok-w.w v _ [] other) k o differ since).0)

-- the call that brings the band was refused, and nothing else was done
pub returns-in_err-w : goal.returns-in_err-w
returns-in_err-w g c =
    let all = c.hold_band.ensures in let failed = c.in_err-w.ensures in let e = c.in_err-w.field-0.0 in
    let p = err_from_is_err_and c.from_residual.result c.from_residual.ensures.1 in
    rw (p.1, p.2) (record {
      brought = tt;
      frames = all.frames;
      logged = λ tail below small. lasts_below c.args.self.now.shelf.wins c.hold_band.new.self.shelf.wins tail all.lasts below;
      size = all.size;
      backed = λ told apart backed. tt;
      changed = λ told apart backed. tt;
      last = tt;
      lasts = λ b o differ since. all.lasts b o since;
      gone = λ logged. tt;
      log_kept = all.log_kept;
      hit = all.hit;
      spared = all.spared;
      durable = all.durable;
      turn = λ none. tt;
      count = all.count;
      untouched = λ told apart backed. tt;
      log = λ ds ps told apart holds. disk_told (Unit {0}) e _ failed.fault;
      moments = all.moments;
      fault = failed.fault;
      failed = failed.failed;
      later = all.later;
      heeded = failed.heeded;
      kept = all.kept;
      grown = all.grown;
    })

pub returns-clause-frames : goal.returns-clause-frames
returns-clause-frames g c = record {
  slots = c.write_band.ensures.slots ∙ c.hold_band.ensures.frames.slots;
  bytes = ap (λ (h : Held). h.pages) c.write_band.ensures.frames ∙ c.hold_band.ensures.frames.bytes;
  uses = c.hold_band.ensures.frames.uses;
}

pub returns-clause-size : goal.returns-clause-size
returns-clause-size g c = c.write_band.ensures.geometry ∙ c.hold_band.ensures.size

pub returns-clause-hit : goal.returns-clause-hit
returns-clause-hit g c = c.hold_band.ensures.hit

pub returns-clause-spared : goal.returns-clause-spared
returns-clause-spared g c = c.hold_band.ensures.spared

pub returns-clause-durable : goal.returns-clause-durable
returns-clause-durable g c = c.hold_band.ensures.durable

pub returns-clause-log : goal.returns-clause-log
returns-clause-log g c = c.in_ok-w.ensures.log

pub returns-clause-moments : goal.returns-clause-moments
returns-clause-moments g c = c.hold_band.ensures.moments

pub returns-clause-grown : goal.returns-clause-grown
returns-clause-grown g c = c.hold_band.ensures.grown
