use Rattle.std.proofs.Common.{ℕ, ◌+◌, ◌-◌, ◌/◌, ◌≤◌, subst, arith}
use Rattle.sg_catalog.proofs.Walks.{few_pages}
use Rattle.sg_catalog.proofs.walk.pages_wanted.Goals as goal

pub broken-requires : goal.broken-requires
broken-requires g c = λ told.
    let h = c.requires told in
    let view = g.P.PageSpace.view c.args.space.now in
    let few : 1 + (c.args.peak - 1) / 79 ≤ view.space.pages.count = subst (λ (n : ℕ). 1 + (n - 1) / 79 ≤ view.space.pages.count) h.2 (few_pages view.space (g.met.P.PageSpace.pages_exact _ told) h.1) in
    let wanted = c.pages_for-pages.ensures in
    let there = c.pages.ensures in
    let test = c.if-pages.true in
    omega arith
