use Rattle.std.proofs.Common.{refl}
use Rattle.sg_unread.specs.Looks.{looks_same}
use Rattle.sg_unread.proofs.space.UnreadSpacePageSpace.write_band.Goals as goal

pub returns-clause-later : goal.returns-clause-later
returns-clause-later g c t = (looks_same g.E.Engine.recovers t (g.E.Engine.view c.args.self.now.engine) (g.E.Engine.means c.args.self.now.engine) (g.met.E.Engine.told_whole _) (λ from m told. g.met.E.Engine.images c.args.self.now.engine t from m told), refl, refl)
