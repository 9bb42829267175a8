use Rattle.std.proofs.Common.{subst, sym}
use Rattle.sg_log.specs.Held.{Tail}
use Rattle.sg_log.specs.Places.{StandBehind}
use Rattle.sg_log.proofs.Standing.{all_behind}
use Rattle.sg_log.proofs.log.Log.first.Goals as goal

pub returns-clause-first : goal.returns-clause-first
returns-clause-first g c ds ps held told h =
    c.first_behind.ensures.first held told (subst (λ (t : Tail). StandBehind (g.D.Disk.view c.args.disk.now) c.args.self.now t.base held) (sym c.self.view_is) (all_behind h))

pub returns-clause-failed : goal.returns-clause-failed
returns-clause-failed g c ds ps held told h =
    c.first_behind.ensures.failed held told (subst (λ (t : Tail). StandBehind (g.D.Disk.view c.args.disk.now) c.args.self.now t.base held) (sym c.self.view_is) (all_behind h))
