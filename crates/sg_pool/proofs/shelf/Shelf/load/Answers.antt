use Rattle.std.proofs.Common.{◌<◌, ℕ, Some, None, List, length, sym, ◌∙◌, ap, subst, arith, length-set}
use Rattle.sg_base.specs.declared.area.Area.TheVariants.{Home}
use Rattle.sg_disk.specs.Disk.{State}
use Rattle.sg_log.proofs.Holding.{moments_read}
use Rattle.sg_pool.specs.Units.{Geometry}
use Rattle.sg_pool.specs.Shelves.{geometry_of}
use Rattle.sg_pool.specs.Well.{IsWell}
use Rattle.sg_pool.proofs.Changing.{empty_backed, empty_cleaned, loaded_backed, loaded_cleaned, twice}
use Rattle.sg_pool.specs.declared.slot.Slot.{Slot}
use Rattle.sg_pool.specs.Held.{no_slot, frame_of, page_in}
use Rattle.sg_pool.proofs.Slots.{page_here, page_there}
use Rattle.sg_pool.proofs.Indexing.{absent_emptied}
use Rattle.sg_pool.proofs.shelf.Shelf.load.Goals as goal

pub returns-then-not-is_well-clause-backed : goal.returns-then-not-is_well-clause-backed
returns-then-not-is_well-clause-backed g c told backed =
    let s = c.args.self.now in let t = c.read_home.new.self in
    let v = g.D.Disk.view c.args.disk.now in let w = g.D.Disk.view c.read_home.new.disk in
    empty_backed (geometry_of s) s.slots.items s.wins s.frames s.shelf c.args.f c.requires.there c.requires.clean c.args.p c.requires.absent
    (geometry_of t) (v.now Home) (w.now Home) t.slots.items t.wins t.frames c.read_home.ensures.geometry (ap (λ (u : State). u Home) (c.read_home.ensures.unchanged told)) c.read_home.ensures.wins (c.in-Ok.ensures.frames told) backed c.read_home.ensures.slots

pub returns-then-not-is_well-clause-units : goal.returns-then-not-is_well-clause-units
returns-then-not-is_well-clause-units g c told backed =
    let s = c.args.self.now in let t = c.read_home.new.self in
    let v = g.D.Disk.view c.args.disk.now in let w = g.D.Disk.view c.read_home.new.disk in
    empty_cleaned (geometry_of s) s.slots.items s.wins s.frames s.shelf c.args.f c.requires.there c.requires.clean c.args.p c.requires.absent
    (geometry_of t) (v.now Home) (w.now Home) t.slots.items t.wins t.frames c.read_home.ensures.geometry (ap (λ (u : State). u Home) (c.read_home.ensures.unchanged told)) c.read_home.ensures.wins (c.in-Ok.ensures.frames told) backed c.read_home.ensures.slots

pub fill-requires-clause-there : goal.fill-requires-clause-there
fill-requires-clause-there g c = let s = c.args.self.now in let e = ap length c.read_home.ensures.slots ∙ length-set s.slots.items c.args.f (record { number = None; since = None }) in let lt = c.requires.there in omega (arith, e, lt)

pub fill-requires-clause-empty : goal.fill-requires-clause-empty
fill-requires-clause-empty g c = let s = c.args.self.now in ap (λ (t : List Slot). page_in t c.args.f) c.read_home.ensures.slots ∙ page_here s.slots.items c.args.f no_slot c.requires.there

pub fill-requires-clause-page : goal.fill-requires-clause-page
fill-requires-clause-page g c = subst (λ (m : ℕ). c.args.p < m) (sym (ap (λ (h : Geometry). h.pages) c.read_home.ensures.geometry)) c.requires.page

pub fill-requires-clause-absent : goal.fill-requires-clause-absent
fill-requires-clause-absent g c = let s = c.args.self.now in ap (λ (t : List Slot). frame_of t c.args.p) c.read_home.ensures.slots ∙ absent_emptied s.slots.items c.args.f c.args.p c.requires.there s.shelf.apart c.requires.absent

pub returns-clause-slots : goal.returns-clause-slots
returns-clause-slots g c = c.fill.ensures.slots ∙ twice c.args.self.now.slots.items c.read_home.new.self.slots.items c.args.f (record { number = None; since = None }) (record { number = Some c.args.p; since = None }) c.read_home.ensures.slots

pub returns-clause-backed : goal.returns-clause-backed
returns-clause-backed g c told backed =
    let s = c.args.self.now in let t = c.read_home.new.self in let u = c.fill.new.self in
    let v = g.D.Disk.view c.args.disk.now in let w = g.D.Disk.view c.read_home.new.disk in
    loaded_backed (geometry_of s) s.slots.items s.wins s.frames s.shelf c.args.f c.requires.there c.requires.clean c.args.p c.requires.absent
    (geometry_of u) (v.now Home) (w.now Home) u.slots.items u.wins u.frames (c.fill.ensures.geometry ∙ c.read_home.ensures.geometry) (ap (λ (u : State). u Home) (c.read_home.ensures.unchanged told)) (c.fill.ensures.wins ∙ c.read_home.ensures.wins) (c.fill.ensures.frames ∙ c.in-Ok.ensures.frames told) backed
    (c.fill.ensures.slots ∙ twice s.slots.items t.slots.items c.args.f (record { number = None; since = None }) (record { number = Some c.args.p; since = None }) c.read_home.ensures.slots)

pub returns-clause-units : goal.returns-clause-units
returns-clause-units g c told backed =
    let s = c.args.self.now in let t = c.read_home.new.self in let u = c.fill.new.self in
    let v = g.D.Disk.view c.args.disk.now in let w = g.D.Disk.view c.read_home.new.disk in
    loaded_cleaned (geometry_of s) s.slots.items s.wins s.frames s.shelf c.args.f c.requires.there c.requires.clean c.args.p c.requires.absent
    (geometry_of u) (v.now Home) (w.now Home) u.slots.items u.wins u.frames (c.fill.ensures.geometry ∙ c.read_home.ensures.geometry) (ap (λ (u : State). u Home) (c.read_home.ensures.unchanged told)) (c.fill.ensures.wins ∙ c.read_home.ensures.wins) (c.fill.ensures.frames ∙ c.in-Ok.ensures.frames told) backed
    (c.fill.ensures.slots ∙ twice s.slots.items t.slots.items c.args.f (record { number = None; since = None }) (record { number = Some c.args.p; since = None }) c.read_home.ensures.slots)

pub returns-in-Err-clause-others : goal.returns-in-Err-clause-others
returns-in-Err-clause-others g c h differ = let s = c.args.self.now in ap (λ (t : List Slot). page_in t h) c.read_home.ensures.slots ∙ page_there s.slots.items c.args.f no_slot c.requires.there h differ

pub returns-then-not-is_well-clause-others : goal.returns-then-not-is_well-clause-others
returns-then-not-is_well-clause-others g c h differ = let s = c.args.self.now in ap (λ (t : List Slot). page_in t h) c.read_home.ensures.slots ∙ page_there s.slots.items c.args.f no_slot c.requires.there h differ

pub returns-clause-others : goal.returns-clause-others
returns-clause-others g c h differ = let s = c.args.self.now in let t = c.read_home.new.self in
    ap (λ (l : List Slot). page_in l h) (c.fill.ensures.slots ∙ twice s.slots.items t.slots.items c.args.f (record { number = None; since = None }) (record { number = Some c.args.p; since = None }) c.read_home.ensures.slots)
    ∙ page_there s.slots.items c.args.f (record { number = Some c.args.p; since = None }) c.requires.there h differ

pub fill-requires-clause-well : goal.fill-requires-clause-well
fill-requires-clause-well g c = subst IsWell c.page.ensures (c.is_well.ensures.0 c.if-not-is_well.false)

pub returns-in-Err-clause-moments : goal.returns-in-Err-clause-moments
returns-in-Err-clause-moments g c told = moments_read (c.read_home.ensures.does told)

pub returns-then-not-is_well-clause-moments : goal.returns-then-not-is_well-clause-moments
returns-then-not-is_well-clause-moments g c told = moments_read (c.read_home.ensures.does told)

pub returns-clause-moments : goal.returns-clause-moments
returns-clause-moments g c told = moments_read (c.read_home.ensures.does told)
