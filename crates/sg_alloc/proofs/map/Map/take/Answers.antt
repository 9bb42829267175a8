use Rattle.std.proofs.Common.{◌≡◌, ℕ, ◌+◌, ◌-◌, ◌*◌, ◌<◌, ◌≤◌, ◌^◌, List, Bool, true, length, set, sym, ap, subst, ◌∙◌, arith}
use Rattle.sg_alloc.specs.Flags.{free_of, IsLeastFree}
use Rattle.sg_alloc.proofs.Marks.{clear_there, found, marked}
use Rattle.sg_alloc.proofs.map.Map.take.Goals as goal

pub first_clear-n-requires : goal.first_clear-n-requires
first_clear-n-requires c = clear_there c.self.inside.rows c.self.inside.count c.self.inside.free c.self.invariant (subst (λ (xs : List Bool). 0 < free_of xs) (sym c.self.view_is) c.requires)

pub overflow_sub-self : goal.overflow_sub-self
overflow_sub-self c =
    let f = found c.self.inside.rows c.self.inside.count c.first_clear-n.result (subst (λ (xs : List Bool). 0 < free_of xs) (sym c.self.view_is) c.requires) c.first_clear-n.ensures in
    (marked c.self.inside.rows c.set.new.self c.self.inside.count c.self.inside.free c.first_clear-n.result c.self.invariant f.least.free c.set.ensures.size c.set.ensures.bits).some

pub overflow_cast-result : goal.overflow_cast-result
overflow_cast-result c =
    let f = found c.self.inside.rows c.self.inside.count c.first_clear-n.result (subst (λ (xs : List Bool). 0 < free_of xs) (sym c.self.view_is) c.requires) c.first_clear-n.ensures in
    let less = f.less in
    let small = c.self.invariant.small in
    omega arith

pub invariant_of-self : goal.invariant_of-self
invariant_of-self c =
    let f = found c.self.inside.rows c.self.inside.count c.first_clear-n.result (subst (λ (xs : List Bool). 0 < free_of xs) (sym c.self.view_is) c.requires) c.first_clear-n.ensures in
    (marked c.self.inside.rows c.set.new.self c.self.inside.count c.self.inside.free c.first_clear-n.result c.self.invariant f.least.free c.set.ensures.size c.set.ensures.bits).kept

pub returns-clause-least : goal.returns-clause-least
returns-clause-least c = subst (λ (xs : List Bool). IsLeastFree xs c.first_clear-n.result) c.self.view_is (found c.self.inside.rows c.self.inside.count c.first_clear-n.result (subst (λ (xs : List Bool). 0 < free_of xs) (sym c.self.view_is) c.requires) c.first_clear-n.ensures).least

pub returns-clause-taken : goal.returns-clause-taken
returns-clause-taken c =
    let f = found c.self.inside.rows c.self.inside.count c.first_clear-n.result (subst (λ (xs : List Bool). 0 < free_of xs) (sym c.self.view_is) c.requires) c.first_clear-n.ensures in
    (marked c.self.inside.rows c.set.new.self c.self.inside.count c.self.inside.free c.first_clear-n.result c.self.invariant f.least.free c.set.ensures.size c.set.ensures.bits).flags ∙ ap (λ (xs : List Bool). set xs c.first_clear-n.result true) c.self.view_is
