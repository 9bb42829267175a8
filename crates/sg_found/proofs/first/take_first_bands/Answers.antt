use Rattle.std.proofs.Common.{refl, ◌∙◌, arith}
use Rattle.sg_space.proofs.Firsts.{none_taken, one_more_taken}
use Rattle.sg_found.proofs.first.take_first_bands.Goals as goal

pub loop-b-init : goal.loop-b-init
loop-b-init c = record { bands = none_taken c.args.maps.now.bands; pages = refl }

pub set_band-requires : goal.set_band-requires
set_band-requires c = c.loop-b.invariant.bands.others c.loop-b.b (omega arith) ∙ c.requires c.loop-b.b (omega arith)

pub loop-b-preserved : goal.loop-b-preserved
loop-b-preserved c = record {
  bands = one_more_taken c.args.maps.now.bands c.loop-b.maps.bands c.set_band.new.self.bands c.loop-b.b c.loop-b.invariant.bands (c.requires c.loop-b.b (omega arith)) c.set_band.ensures.bands;
  pages = c.set_band.ensures.pages ∙ c.loop-b.invariant.pages;
}
