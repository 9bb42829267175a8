use Rattle.std.proofs.Common.{◌≡◌, ◌+◌, ◌*◌, ◌<◌, ◌≤◌, ◌^◌, List, Bool, true, false, length, set, slice_get, ap, ◌∙◌, arith}
use Rattle.sg_alloc.proofs.Marks.{flag_is, unmarked}
use Rattle.sg_alloc.proofs.map.Map.clear.Goals as goal

pub clear-requires : goal.clear-requires
clear-requires c =
    let flag = flag_is c.self.inside.rows c.self.inside.count c.args.n true (ap (λ (xs : List Bool). slice_get xs c.args.n) c.self.view_is ∙ c.requires) in
    let below = flag.below in
    let fits = c.self.invariant.fits in
    omega arith

pub overflow_add-self : goal.overflow_add-self
overflow_add-self c =
    let few = (unmarked c.self.inside.rows c.clear.new.self c.self.inside.count c.self.inside.free c.args.n c.self.invariant (ap (λ (xs : List Bool). slice_get xs c.args.n) c.self.view_is ∙ c.requires) c.clear.ensures.size c.clear.ensures.bits).few in
    let small = c.self.invariant.small in
    omega arith

pub invariant_of-self : goal.invariant_of-self
invariant_of-self c = (unmarked c.self.inside.rows c.clear.new.self c.self.inside.count c.self.inside.free c.args.n c.self.invariant (ap (λ (xs : List Bool). slice_get xs c.args.n) c.self.view_is ∙ c.requires) c.clear.ensures.size c.clear.ensures.bits).kept

pub returns : goal.returns
returns c = (unmarked c.self.inside.rows c.clear.new.self c.self.inside.count c.self.inside.free c.args.n c.self.invariant (ap (λ (xs : List Bool). slice_get xs c.args.n) c.self.view_is ∙ c.requires) c.clear.ensures.size c.clear.ensures.bits).flags ∙ ap (λ (xs : List Bool). set xs c.args.n false) c.self.view_is
