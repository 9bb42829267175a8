use Rattle.std.proofs.Common.{sym, ◌++◌, ◌∷◌, [], refl}
use Rattle.sg_locks.proofs.Links.{pop_links, relinked}
use Rattle.sg_locks.proofs.chains.Chains.pop.Goals as goal

pub invariant_of-self : goal.invariant_of-self
invariant_of-self c =
    let last = c.self.inside.last.items in
    let l = c.in-Some.link in
    let before = relinked last last _ _ _ (c.pop.new.self.items ++ l ∷ []) c.self.invariant refl c.in-Some.ensures.capacity (sym c.in-Some.ensures.items) in
    pop_links last _ c.pop.new.self.items l before
