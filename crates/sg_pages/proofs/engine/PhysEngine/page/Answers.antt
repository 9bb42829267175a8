use Rattle.std.proofs.Common.{ℕ, List, sym, ap, ◌∙◌, subst}
use Rattle.sg_base.specs.Page.{IsSlotted}
use Rattle.sg_base.specs.Sheet.{sheet_of}
use Rattle.sg_phys.proofs.Told.{shown_page}
use Rattle.std.specs.Prelude.{Some}
use Rattle.sg_pages.proofs.engine.PhysEngine.page.Goals as goal

pub new-requires : goal.new-requires
new-requires g c = subst IsSlotted (sym c.page.ensures.held) c.requires.slotted

pub returns : goal.returns
returns g c = shown_page (g.D.Disk.view c.args.self.now.engine.disk) c.args.self.now.engine.pool c.args.p.0 c.page.result.now c.requires.page (subst IsSlotted (sym c.page.ensures.held) c.requires.slotted) c.page.ensures.held
    ∙ ap (λ (xs : List ℕ). Some (sheet_of xs)) (sym c.new.ensures)
