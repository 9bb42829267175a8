use Rattle.sg_mount.specs.Opening.{shown_by}
use Rattle.sg_store.specs.Seen.{core_of}
use Rattle.stasis.proofs.Opening.{if_less, opened_has}
use Rattle.stasis.proofs.store.open_store.Goals as goal

pub returns-clause-tells : goal.returns-clause-tells
returns-clause-tells g c is held m stands =
    if_less c.open_with.result (λ s o. record { tells = o.tells is held; has = opened_has _ g.D.Disk.told g.D.Presumed.presumed (g.D.Disk.view c.args.disk) (core_of s) (shown_by s) o is held m stands })
    c.open_with.ensures.opened
