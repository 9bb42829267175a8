use Rattle.std.proofs.Common.{◌≡◌, ◌*◌, ◌<◌, ◌≤◌, List, Bool, true, false, length, set, slice_get, ap, ◌∙◌, arith}
use Rattle.sg_alloc.proofs.Marks.{flag_is, marked}
use Rattle.sg_alloc.proofs.map.Map.set.Goals as goal

pub set-requires : goal.set-requires
set-requires c =
    let flag = flag_is c.self.inside.rows c.self.inside.count c.args.n false (ap (λ (xs : List Bool). slice_get xs c.args.n) c.self.view_is ∙ c.requires) in
    let below = flag.below in
    let fits = c.self.invariant.fits in
    omega arith

pub overflow_sub-self : goal.overflow_sub-self
overflow_sub-self c = (marked c.self.inside.rows c.set.new.self c.self.inside.count c.self.inside.free c.args.n c.self.invariant (ap (λ (xs : List Bool). slice_get xs c.args.n) c.self.view_is ∙ c.requires) c.set.ensures.size c.set.ensures.bits).some

pub invariant_of-self : goal.invariant_of-self
invariant_of-self c = (marked c.self.inside.rows c.set.new.self c.self.inside.count c.self.inside.free c.args.n c.self.invariant (ap (λ (xs : List Bool). slice_get xs c.args.n) c.self.view_is ∙ c.requires) c.set.ensures.size c.set.ensures.bits).kept

pub returns : goal.returns
returns c = (marked c.self.inside.rows c.set.new.self c.self.inside.count c.self.inside.free c.args.n c.self.invariant (ap (λ (xs : List Bool). slice_get xs c.args.n) c.self.view_is ∙ c.requires) c.set.ensures.size c.set.ensures.bits).flags ∙ ap (λ (xs : List Bool). set xs c.args.n true) c.self.view_is
