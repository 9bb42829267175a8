use Rattle.std.proofs.Common.{◌≡◌, List, Bool, length, slice_get, refl, ap, ◌∙◌, arith}
use Rattle.sg_alloc.specs.Flags.{free_of}
use Rattle.sg_space.proofs.Firsts.{none_taken, one_more_taken, free_at, all_free, length-free}
use Rattle.sg_regained.proofs.founding.set_bands.Goals as goal

pub loop-b-init : goal.loop-b-init
loop-b-init c = record { bands = none_taken c.args.maps.now.bands; pages = refl }

pub set_band-requires : goal.set_band-requires
set_band-requires c =
    c.loop-b.invariant.bands.others c.loop-b.b (omega arith)
    ∙ (ap (λ (xs : List Bool). slice_get xs c.loop-b.b) c.requires ∙ free_at c.args.count c.loop-b.b (omega arith))

pub loop-b-preserved : goal.loop-b-preserved
loop-b-preserved c = record {
  bands = one_more_taken c.args.maps.now.bands c.loop-b.maps.bands c.set_band.new.self.bands c.loop-b.b c.loop-b.invariant.bands
      (ap (λ (xs : List Bool). slice_get xs c.loop-b.b) c.requires ∙ free_at c.args.count c.loop-b.b (omega arith)) c.set_band.ensures.bands;
  pages = c.set_band.ensures.pages ∙ c.loop-b.invariant.pages;
}

pub returns-clause-free : goal.returns-clause-free
returns-clause-free c =
    let f = c.loop-b.invariant.bands.free in
    let o : free_of c.args.maps.now.bands ≡ c.args.count = ap free_of c.requires ∙ all_free c.args.count in
    omega (arith, f, o)

pub returns-clause-size : goal.returns-clause-size
returns-clause-size c = c.loop-b.invariant.bands.size ∙ (ap (λ (xs : List Bool). length xs) c.requires ∙ length-free c.args.count)
