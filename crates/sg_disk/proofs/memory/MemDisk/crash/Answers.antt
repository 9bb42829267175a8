use Rattle.std.proofs.Common.{◌≡◌, [], refl, sym, subst}
use Rattle.sg_disk.specs.Disk.{Leaves, View}
use Rattle.sg_disk.specs.Areas.{three}
use Rattle.sg_disk.specs.Memory.{image_of, state_of}
use Rattle.sg_base.specs.declared.area.Area.{Area}
use Rattle.sg_disk.proofs.memory.MemDisk.crash.Goals as goal

pub returns-clause-image : goal.returns-clause-image
returns-clause-image c =
    let s = state_of (image_of c.args.self.home.items c.args.self.log0.items c.args.self.log1.items) c.args.self.calls in
    let e = c.crash_all-home.ensures in
    subst (λ (v : View). Leaves s (λ a. (v.now a).seen)) (sym c.of.ensures) (three _ e.home e.log0 e.log1)

pub returns-clause-settled : goal.returns-clause-settled
returns-clause-settled c = subst (λ (v : View). (a : Area) → (v.now a).pending ≡ []) (sym c.of.ensures) (λ a. refl)
