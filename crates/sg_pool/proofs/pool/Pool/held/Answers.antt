use Rattle.std.proofs.Common.{ℕ, Option, length, sym, ◌∙◌, ap, subst, arith}
use Rattle.sg_base.specs.declared.area.Area.TheVariants.{Home}
use Rattle.sg_gate.specs.Layout.{home_at}
use Rattle.sg_pool.specs.Held.{bytes_of}
use Rattle.sg_pool.specs.Units.{page_at}
use Rattle.sg_pool.specs.Well.{IsWell}
use Rattle.sg_pool.proofs.Welling.{well_of}
use Rattle.sg_pool.proofs.Slots.{frame_some}
use Rattle.sg_pool.proofs.pool.Pool.held.Goals as goal

pub page-requires : goal.page-requires
page-requires c =
    let s = c.args.self.now.shelf in
    let there = frame_some c.args.p.0 s.slots.items c.in-Some.f (sym c.in-Some.ensures) in
    let lt = there.0 in let many = s.shelf.many in
    s.shelf.here.pages c.in-Some.f (omega (arith, lt, many))

pub returns-clause-size : goal.returns-clause-size
returns-clause-size c =
    let s = c.args.self.now.shelf in
    let there = frame_some c.args.p.0 s.slots.items c.in-Some.f (sym c.in-Some.ensures) in
    let lt = there.0 in let many = s.shelf.many in
    ap length c.page.ensures ∙ s.shelf.here.pages c.in-Some.f (omega (arith, lt, many))

pub returns-clause-bytes : goal.returns-clause-bytes
returns-clause-bytes c v =
    let s = c.args.self.now.shelf in
    c.page.ensures ∙ ap (λ (o : Option ℕ). bytes_of s.frames.pages o (page_at (v.now Home).seen (home_at c.args.p.0))) c.in-Some.ensures

pub returns-clause-is_page : goal.returns-clause-is_page
returns-clause-is_page c =
    let s = c.args.self.now.shelf in
    let there = frame_some c.args.p.0 s.slots.items c.in-Some.f (sym c.in-Some.ensures) in
    subst IsWell (sym c.page.ensures) (well_of _ (s.shelf.well c.in-Some.f c.args.p.0 there.0 there.1))
