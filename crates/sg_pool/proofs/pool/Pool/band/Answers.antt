use Rattle.std.proofs.Common.{ℕ, List, length, get_or, refl, ◌∙◌, ap, arith}
use Rattle.sg_pool.proofs.BandsHome.{lasts_below}
use Rattle.sg_pool.proofs.Slots.{frame_some}
use Rattle.sg_pool.proofs.pool.Pool.band.Goals as goal

pub window-requires : goal.window-requires
window-requires g c =
    let s = c.hold_band.new.self.shelf in
    let there = frame_some c.args.b.0 s.wins.slots.items c.in_ok-w.w c.in_ok-w.ensures.brought.held in
    let lt = there.0 in let wide = s.shelf.wide in
    s.shelf.here.windows c.in_ok-w.w (omega (arith, lt, wide))

pub returns : goal.returns
returns g c = (
  (
    refl,
    λ x. tt,
    record {
      size = c.hold_band.ensures.size;
      brought = (c.in_ok-w.w, c.in_ok-w.ensures.brought);
      frames = c.hold_band.ensures.frames;
      logged = λ tail below. lasts_below c.args.self.now.shelf.wins c.hold_band.new.self.shelf.wins tail c.hold_band.ensures.lasts below;
      lasts = c.hold_band.ensures.lasts;
      gone = c.in_ok-w.ensures.gone;
      backed = c.in_ok-w.ensures.backed;
      same = c.in_ok-w.ensures.same;
      untouched = c.in_ok-w.ensures.untouched;
      turn = c.in_ok-w.ensures.turn;
      count = c.hold_band.ensures.count;
    },
  ),
  record {
    ends = tt;
    size = ap length c.window.ensures ∙ c.in_ok-w.ensures.whole;
    bytes = λ told apart backed i small. ap (λ (x : List ℕ). get_or x i 0) c.window.ensures ∙ c.in_ok-w.ensures.bytes told apart backed i small;
    log_kept = c.hold_band.ensures.log_kept;
    log = c.in_ok-w.ensures.log;
    moments = c.hold_band.ensures.moments;
    fault = tt;
    failed = tt;
    later = c.hold_band.ensures.later;
    heeded = c.in_ok-w.ensures.heeded;
    kept = c.hold_band.ensures.kept;
    grown = c.hold_band.ensures.grown;
    hit = c.hold_band.ensures.hit;
    spared = c.hold_band.ensures.spared;
    durable = c.hold_band.ensures.durable;
  },
)
