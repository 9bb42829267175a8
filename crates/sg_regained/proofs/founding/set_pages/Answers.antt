use Rattle.std.proofs.Common.{◌≡◌, List, Bool, length, slice_get, refl, ap, ◌∙◌, arith}
use Rattle.sg_alloc.specs.Flags.{free_of}
use Rattle.sg_space.proofs.Firsts.{none_taken, one_more_taken, free_at, all_free, length-free}
use Rattle.sg_regained.proofs.founding.set_pages.Goals as goal

pub loop-p-init : goal.loop-p-init
loop-p-init c = record { pages = none_taken c.args.maps.now.pages; bands = refl }

pub set_page-requires : goal.set_page-requires
set_page-requires c =
    c.loop-p.invariant.pages.others c.loop-p.p (omega arith)
    ∙ (ap (λ (xs : List Bool). slice_get xs c.loop-p.p) c.requires ∙ free_at c.args.count c.loop-p.p (omega arith))

pub loop-p-preserved : goal.loop-p-preserved
loop-p-preserved c = record {
  pages = one_more_taken c.args.maps.now.pages c.loop-p.maps.pages c.set_page.new.self.pages c.loop-p.p c.loop-p.invariant.pages
      (ap (λ (xs : List Bool). slice_get xs c.loop-p.p) c.requires ∙ free_at c.args.count c.loop-p.p (omega arith)) c.set_page.ensures.pages;
  bands = c.set_page.ensures.bands ∙ c.loop-p.invariant.bands;
}

pub returns-clause-free : goal.returns-clause-free
returns-clause-free c =
    let f = c.loop-p.invariant.pages.free in
    let o : free_of c.args.maps.now.pages ≡ c.args.count = ap free_of c.requires ∙ all_free c.args.count in
    omega (arith, f, o)

pub returns-clause-size : goal.returns-clause-size
returns-clause-size c = c.loop-p.invariant.pages.size ∙ (ap (λ (xs : List Bool). length xs) c.requires ∙ length-free c.args.count)
