use Rattle.std.proofs.Common.{◌≡◌, ℕ, Option, None, get_or, set, refl, sym, ap, subst}
use Rattle.sg_base.specs.declared.area.Area.TheVariants.{Home}
use Rattle.sg_pool.specs.Units.{IsBacked, IsCleaned}
use Rattle.sg_pool.specs.Frames.{units_of}
use Rattle.sg_pool.specs.declared.slot.Slot.{Slot}
use Rattle.sg_pool.specs.Held.{no_slot}
use Rattle.sg_pool.specs.Shelves.{geometry_of, units}
use Rattle.sg_pool.specs.Untouched.{IsUntouched}
use Rattle.sg_pool.proofs.HomesKept.{home_untouched}
use Rattle.sg_pool.proofs.Slots.{slot_at, page_kept}
use Rattle.sg_pool.proofs.Changing.{home_cleaned, home_backed, shelf_cleaned}
use Rattle.sg_pool.proofs.shelf.Shelf.clean.Goals as goal

pub invariant_of-self : goal.invariant_of-self
invariant_of-self g c =
    let s = c.args.self.now in
    let is : c.index_mut.result.now ≡ get_or s.slots.items c.args.f no_slot = slot_at s.slots.items c.args.f c.index_mut.result.now c.requires.there c.index_mut.ensures.value in
    record { shelf = shelf_cleaned s.pages s.bands s.slots.items s.wins s.frames s.shelf c.args.f c.requires.there (record { number = c.index_mut.result.now.number; since = None }) (ap (λ (x : Slot). x.number) is) (λ none. refl) }

pub returns-clause-backed : goal.returns-clause-backed
returns-clause-backed g c told apart backed =
    let s = c.args.self.now in
    let v = g.D.Disk.view c.args.disk.now in
    let w = g.D.Disk.view c.write_back.new.disk in
    let is : c.index_mut.result.now ≡ get_or s.slots.items c.args.f no_slot = slot_at s.slots.items c.args.f c.index_mut.result.now c.requires.there c.index_mut.ensures.value in
    subst (λ (o : Option ℕ). IsBacked (geometry_of s) (w.now Home) (units_of (geometry_of s) (w.now Home).seen (set s.slots.items c.args.f (record { number = o; since = None })) s.wins s.frames)) (sym (ap (λ (x : Slot). x.number) is))
    (home_backed (geometry_of s) s.slots.items s.wins s.frames s.shelf c.args.f c.requires.there (v.now Home) (w.now Home) (c.in_ok-write_back.ensures.home told apart backed.ready) backed)

pub returns-clause-units : goal.returns-clause-units
returns-clause-units g c told apart ready =
    let s = c.args.self.now in
    let v = g.D.Disk.view c.args.disk.now in
    let w = g.D.Disk.view c.write_back.new.disk in
    let is : c.index_mut.result.now ≡ get_or s.slots.items c.args.f no_slot = slot_at s.slots.items c.args.f c.index_mut.result.now c.requires.there c.index_mut.ensures.value in
    subst (λ (o : Option ℕ). IsCleaned (geometry_of s) (units (v.now Home).seen s) (units_of (geometry_of s) (w.now Home).seen (set s.slots.items c.args.f (record { number = o; since = None })) s.wins s.frames)) (sym (ap (λ (x : Slot). x.number) is))
    (home_cleaned (geometry_of s) s.slots.items s.wins s.frames s.shelf c.args.f c.requires.there (v.now Home) (w.now Home) (c.in_ok-write_back.ensures.home told apart ready))

pub returns-clause-pages : goal.returns-clause-pages
returns-clause-pages g c h =
    let s = c.args.self.now in
    let is : c.index_mut.result.now ≡ get_or s.slots.items c.args.f no_slot = slot_at s.slots.items c.args.f c.index_mut.result.now c.requires.there c.index_mut.ensures.value in
    page_kept s.slots.items c.args.f (record { number = c.index_mut.result.now.number; since = None }) c.requires.there (ap (λ (x : Slot). x.number) is) h

pub returns-clause-untouched : goal.returns-clause-untouched
returns-clause-untouched g c told apart ready =
    let s = c.args.self.now in
    let v = g.D.Disk.view c.args.disk.now in
    let w = g.D.Disk.view c.write_back.new.disk in
    let is : c.index_mut.result.now ≡ get_or s.slots.items c.args.f no_slot = slot_at s.slots.items c.args.f c.index_mut.result.now c.requires.there c.index_mut.ensures.value in
    subst (λ (o : Option ℕ). IsUntouched (geometry_of s) (v.now Home).seen (w.now Home).seen (units_of (geometry_of s) (w.now Home).seen (set s.slots.items c.args.f (record { number = o; since = None })) s.wins s.frames)) (sym (ap (λ (x : Slot). x.number) is))
    (home_untouched (geometry_of s) s.slots.items s.wins s.frames s.shelf c.args.f c.requires.there (v.now Home) (w.now Home) (c.in_ok-write_back.ensures.home told apart ready))
