use Rattle.sg_commands.proofs.OverPages.{is_opened, stays_shut}
use Rattle.sg_commands.proofs.stores.open_pages.Goals as goal

pub returns-in-Ok-clause-opens : goal.returns-in-Ok-clause-opens
returns-in-Ok-clause-opens g c = is_opened _ g.D.Disk.told g.D.Presumed.presumed _ _ _ c.in-Ok.ensures.opened

pub returns-in-Err-clause-refused : goal.returns-in-Err-clause-refused
returns-in-Err-clause-refused g c =
    stays_shut _ g.D.Disk.told g.D.Presumed.presumed _ _ c.in-Err.field-0.fault _ c.refused-why.ensures
    c.in-Err.ensures.refused
