use Rattle.std.proofs.Common.{sym, subst}
use Rattle.sg_shown.specs.Shown.{over}
use Rattle.sg_paged.proofs.Resumed.{finds_with}
use Rattle.sg_paged.proofs.paged.Paged.found.Goals as goal

pub returns-in-Ok-clause-finds : goal.returns-in-Ok-clause-finds
returns-in-Ok-clause-finds g c = λ t z from m size p b most first few.
    let k = c.in-Ok.ensures in
    let f = c.in-Ok.field-0 in
    finds_with (over f.acts) f.room t z from c.args.pages c.args.bands (subst (λ e. g.E.Engine.means e t from) (sym k.engine) m) size p b most first few
    k.pages k.bands k.room (λ told. k.made (subst (λ e. (g.E.Engine.view e).Told) k.engine told))
