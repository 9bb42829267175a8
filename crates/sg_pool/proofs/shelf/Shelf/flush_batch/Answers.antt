use Rattle.std.proofs.Common.{⊎_elim, inl, inr}
use Rattle.sg_base.specs.declared.area.Area.TheVariants.{Home}
use Rattle.std.proofs.lemmas.Bool.{cases_lt}
use Rattle.sg_pool.specs.Shelves.{geometry_of}
use Rattle.sg_pool.proofs.Clearing.{frames_same, shelf_cleared}
use Rattle.sg_pool.proofs.Flushed.{flushed_cleaned, flushed_backed}
use Rattle.sg_pool.proofs.shelf.Shelf.flush_batch.Goals as goal

pub invariant_of-self : goal.invariant_of-self
invariant_of-self g c = let s = c.args.self.now in
    record {
      shelf = shelf_cleared s.pages s.bands s.slots.items c.clear_since.new.slots.items s.wins s.frames s.shelf c.clear_since.ensures.count c.clear_since.ensures.pages
          (λ h. ⊎_elim (λ low. inr (c.clear_since.ensures.others h (inl low))) (λ high. ⊎_elim (λ within. inl (c.clear_since.ensures.cleared h high within)) (λ far. inr (c.clear_since.ensures.others h (inr far))) (cases_lt h c.in_ok-to.to)) (cases_lt h c.args.from));
    }

pub returns-clause-holders : goal.returns-clause-holders
returns-clause-holders g c = let s = c.args.self.now in
    frames_same s.slots.items c.clear_since.new.slots.items c.clear_since.ensures.count c.clear_since.ensures.pages s.shelf.apart

pub returns-clause-backed : goal.returns-clause-backed
returns-clause-backed g c told backed =
    let s = c.args.self.now in let t = c.clear_since.new.slots.items in
    let v = g.D.Disk.view c.args.disk.now in let w = g.D.Disk.view c.write_batch.new.disk in
    flushed_backed (geometry_of s) s.slots.items s.wins s.frames s.shelf.apart c.args.from c.in_ok-to.to (v.now Home) (w.now Home) (c.in_ok-to.ensures.done told backed.ready) t
    (frames_same s.slots.items t c.clear_since.ensures.count c.clear_since.ensures.pages s.shelf.apart) c.clear_since.ensures.cleared c.clear_since.ensures.others backed

pub returns-clause-units : goal.returns-clause-units
returns-clause-units g c told ready =
    let s = c.args.self.now in let t = c.clear_since.new.slots.items in
    let v = g.D.Disk.view c.args.disk.now in let w = g.D.Disk.view c.write_batch.new.disk in
    flushed_cleaned (geometry_of s) s.slots.items s.wins s.frames s.shelf.apart c.args.from c.in_ok-to.to (v.now Home) (w.now Home) (c.in_ok-to.ensures.done told ready) t
    (frames_same s.slots.items t c.clear_since.ensures.count c.clear_since.ensures.pages s.shelf.apart) c.clear_since.ensures.cleared c.clear_since.ensures.others
