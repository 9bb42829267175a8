use Rattle.std.proofs.Common.{ℕ, Option, List, length, get_or, sym, ◌∙◌, ap, arith}
use Rattle.sg_base.specs.declared.area.Area.TheVariants.{Home}
use Rattle.sg_pool.specs.Frames.{byte_in}
use Rattle.sg_pool.specs.Units.{band_byte}
use Rattle.sg_pool.specs.Pooled.{sizes}
use Rattle.sg_pool.proofs.Slots.{frame_some}
use Rattle.sg_pool.proofs.pool.Pool.held_band.Goals as goal

pub window-requires : goal.window-requires
window-requires c =
    let s = c.args.self.now.shelf in
    let there = frame_some c.args.b.0 s.wins.slots.items c.in-Some.w (sym c.in-Some.ensures) in
    let lt = there.0 in let wide = s.shelf.wide in
    s.shelf.here.windows c.in-Some.w (omega (arith, lt, wide))

pub returns-clause-size : goal.returns-clause-size
returns-clause-size c =
    let s = c.args.self.now.shelf in
    let there = frame_some c.args.b.0 s.wins.slots.items c.in-Some.w (sym c.in-Some.ensures) in
    let lt = there.0 in let wide = s.shelf.wide in
    ap length c.window.ensures ∙ s.shelf.here.windows c.in-Some.w (omega (arith, lt, wide))

pub returns-clause-bytes : goal.returns-clause-bytes
returns-clause-bytes c v i small =
    let s = c.args.self.now.shelf in
    ap (λ (x : List ℕ). get_or x i 0) c.window.ensures ∙ ap (λ (o : Option ℕ). byte_in s.frames.windows o i ((v.now Home).seen (band_byte (sizes c.args.self.now) c.args.b.0 i))) c.in-Some.ensures
