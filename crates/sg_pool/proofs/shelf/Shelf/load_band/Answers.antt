use Rattle.std.proofs.Common.{◌<◌, Some, None, List, length, get_or, set, sym, ◌∙◌, ap, subst, length-set}
use Rattle.sg_base.specs.declared.area.Area.TheVariants.{Home}
use Rattle.sg_disk.specs.Disk.{State}
use Rattle.sg_pool.specs.declared.slot.Slot.{Slot}
use Rattle.sg_pool.specs.Held.{page_in}
use Rattle.sg_pool.proofs.Pooling.{held_new}
use Rattle.sg_pool.proofs.Slots.{page_there}
use Rattle.sg_pool.specs.declared.windows.Windows.{Windows}
use Rattle.sg_pool.specs.Windows.{no_marks}
use Rattle.sg_pool.specs.Shelves.{geometry_of}
use Rattle.sg_pool.proofs.BandsHome.{lasts_same}
use Rattle.sg_pool.proofs.BandsChanged.{values_cleaned, values_backed, loaded_lasts, loaded_changes}
use Rattle.sg_pool.proofs.shelf.Shelf.load_band.Goals as goal

pub returns-clause-backed : goal.returns-clause-backed
returns-clause-backed g c told backed =
    let s = c.args.self.now in let t = c.read_band.new.self in let same = c.read_band.ensures.wins in
    let v = g.D.Disk.view c.args.disk.now in let w = g.D.Disk.view c.read_band.new.disk in
    values_backed (geometry_of s) s.slots.items s.wins c.put.new.self c.args.w c.args.b c.requires.there
    (c.put.ensures.slots ∙ ap (λ (x : Windows). set x.slots.items c.args.w (record { number = Some c.args.b; since = None })) same) c.requires.absent c.requires.clean c.put.ensures.unmarked
    (λ x differ. c.put.ensures.others x differ ∙ ap (λ (y : Windows). get_or y.marks.items x no_marks) same) s.frames t.frames c.read_band.ensures.pages c.read_band.ensures.others (v.now Home) (c.in-Ok.ensures.bytes told) backed
    (geometry_of t) (w.now Home) t.slots.items c.read_band.ensures.geometry (ap (λ (u : State). u Home) (c.read_band.ensures.unchanged told)) c.read_band.ensures.slots

pub returns-clause-units : goal.returns-clause-units
returns-clause-units g c told backed =
    let s = c.args.self.now in let t = c.read_band.new.self in let same = c.read_band.ensures.wins in
    let v = g.D.Disk.view c.args.disk.now in let w = g.D.Disk.view c.read_band.new.disk in
    values_cleaned (geometry_of s) s.slots.items s.wins c.put.new.self c.args.w c.args.b c.requires.there
    (c.put.ensures.slots ∙ ap (λ (x : Windows). set x.slots.items c.args.w (record { number = Some c.args.b; since = None })) same) c.requires.absent c.requires.clean c.put.ensures.unmarked
    (λ x differ. c.put.ensures.others x differ ∙ ap (λ (y : Windows). get_or y.marks.items x no_marks) same) s.frames t.frames c.read_band.ensures.pages c.read_band.ensures.others (v.now Home) (c.in-Ok.ensures.bytes told) backed
    (geometry_of t) (w.now Home) t.slots.items c.read_band.ensures.geometry (ap (λ (u : State). u Home) (c.read_band.ensures.unchanged told)) c.read_band.ensures.slots

pub returns-clause-held : goal.returns-clause-held
returns-clause-held g c =
    let t = c.read_band.new.self in
    held_new t.wins.slots.items c.put.new.self.slots.items c.args.w c.args.b (subst (λ (x : Windows). c.args.w < length x.slots.items) (sym c.read_band.ensures.wins) c.requires.there) c.put.ensures.slots c.put.new.self.windows.apart

pub returns-clause-others : goal.returns-clause-others
returns-clause-others g c v differ =
    let s = c.args.self.now in let same = c.read_band.ensures.wins in
    ap (λ (l : List Slot). page_in l v) (c.put.ensures.slots ∙ ap (λ (x : Windows). set x.slots.items c.args.w (record { number = Some c.args.b; since = None })) same)
    ∙ page_there s.wins.slots.items c.args.w (record { number = Some c.args.b; since = None }) c.requires.there v differ

pub returns-in-Err-clause-lasts : goal.returns-in-Err-clause-lasts
returns-in-Err-clause-lasts g c = lasts_same c.args.self.now.wins c.read_band.new.self.wins c.read_band.ensures.wins

pub returns-clause-lasts : goal.returns-clause-lasts
returns-clause-lasts g c b o since =
    let s = c.args.self.now in let same = c.read_band.ensures.wins in
    loaded_lasts (geometry_of s) s.slots.items s.wins c.put.new.self c.args.w c.args.b c.requires.there
    (c.put.ensures.slots ∙ ap (λ (x : Windows). set x.slots.items c.args.w (record { number = Some c.args.b; since = None })) same) c.requires.absent c.requires.clean c.put.ensures.unmarked
    (λ x differ. c.put.ensures.others x differ ∙ ap (λ (y : Windows). get_or y.marks.items x no_marks) same) b o since

pub returns-clause-changes : goal.returns-clause-changes
returns-clause-changes g c b o had =
    let s = c.args.self.now in let same = c.read_band.ensures.wins in
    loaded_changes (geometry_of s) s.slots.items s.wins c.put.new.self c.args.w c.args.b c.requires.there
    (c.put.ensures.slots ∙ ap (λ (x : Windows). set x.slots.items c.args.w (record { number = Some c.args.b; since = None })) same) c.requires.absent c.requires.clean c.put.ensures.unmarked
    (λ x differ. c.put.ensures.others x differ ∙ ap (λ (y : Windows). get_or y.marks.items x no_marks) same) b o had

pub returns-in-Err-clause-count : goal.returns-in-Err-clause-count
returns-in-Err-clause-count g c = ap (λ (x : Windows). length x.slots.items) c.read_band.ensures.wins

pub returns-clause-count : goal.returns-clause-count
returns-clause-count g c = ap length c.put.ensures.slots ∙ (length-set c.read_band.new.self.wins.slots.items c.args.w (record { number = Some c.args.b; since = None }) ∙ ap (λ (x : Windows). length x.slots.items) c.read_band.ensures.wins)
