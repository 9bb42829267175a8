use Rattle.std.proofs.Common.{◌<◌, ℕ, List, [], length, get_or, ◌∙◌, ap, arith, get_or-set_same}
use Rattle.std.proofs.lemmas.Result.{on_ok_weaker}
use Rattle.sg_base.specs.declared.area.Area.TheVariants.{Home}
use Rattle.sg_base.specs.declared.page.TheConstants.{BAND_SIZE}
use Rattle.sg_disk.specs.Disk.{window}
use Rattle.sg_gate.specs.Layout.{band_at}
use Rattle.sg_pool.proofs.Homed.{band_read}
use Rattle.sg_pool.proofs.shelf.Shelf.read_band.Goals as goal

pub returns-clause-bytes : goal.returns-clause-bytes
returns-clause-bytes g c told =
    let s = c.args.self.now in let wide = s.shelf.wide in let there = c.requires.there in
    let low : c.args.w < length s.frames.windows = omega (arith, wide, there) in
    let old = get_or s.frames.windows c.args.w [] in
    let seen = ((g.D.Disk.view c.args.disk.now).now Home).seen in
    on_ok_weaker c.read_at.result (λ is i small. ap (λ (x : List ℕ). get_or x i 0) (get_or-set_same s.frames.windows c.args.w _ [] low)
    ∙ band_read seen (band_at s.pages c.args.b) BAND_SIZE i old c.window_mut.result.now c.read_at.new.into (s.shelf.here.windows c.args.w low) c.window_mut.ensures.value (omega arith)
    (is ∙ ap (λ (at : ℕ). window seen at (length c.window_mut.result.now)) c.band_start-start.ensures) small)
    (c.read_at.ensures.bytes told)
