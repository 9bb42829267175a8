use Rattle.std.proofs.Common.{◌≡◌, ◌<◌, ◌+◌, Some, get_or, sym, ◌∙◌, ap, subst, arith, ℕ}
use Rattle.sg_pool.specs.declared.slot.Slot.{Slot}
use Rattle.sg_pool.specs.Held.{page_in}
use Rattle.sg_pool.specs.Windows.{no_marks}
use Rattle.sg_pool.specs.Shelves.{geometry_of}
use Rattle.sg_pool.proofs.Banding.{none_torn, window_torn, window_written}
use Rattle.sg_pool.proofs.Slots.{slot_at, item_at}
use Rattle.sg_pool.proofs.shelf.Shelf.write_window.Goals as goal

pub returns-in_default-clause-any_moment : goal.returns-in_default-clause-any_moment
returns-in_default-clause-any_moment g c told = let s = c.args.self.now in none_torn (geometry_of s) s.wins s.frames.windows (g.D.Disk.view c.args.disk.now) c.args.w (c.args.w + 1)

pub write_runs-requires-clause-base : goal.write_runs-requires-clause-base
write_runs-requires-clause-base g c =
    let s = c.args.self.now in
    let slot = slot_at s.wins.slots.items c.args.w c.index-slot.result.now c.requires.there c.index-slot.ensures in
    let held : page_in s.wins.slots.items c.args.w ≡ Some c.in-Some.b = ap (λ (x : Slot). x.number) (sym slot) ∙ c.in-Some.is in
    let small : c.in-Some.b < s.bands = subst (λ (m : ℕ). c.in-Some.b < m) s.shelf.listed_bands (s.wins.windows.within c.args.w c.in-Some.b c.requires.there held) in
    let e = c.band_start-start.ensures in let most = s.shelf.most in let most_bands = s.shelf.most_bands in
    omega (arith, e, most, most_bands, small)

pub returns-in-Ok-clause-done : goal.returns-in-Ok-clause-done
returns-in-Ok-clause-done g c told =
    let s = c.args.self.now in
    let slot = slot_at s.wins.slots.items c.args.w c.index-slot.result.now c.requires.there c.index-slot.ensures in
    let held : page_in s.wins.slots.items c.args.w ≡ Some c.in-Some.b = ap (λ (x : Slot). x.number) (sym slot) ∙ c.in-Some.is in
    let many = s.wins.windows.marked in let there = c.requires.there in
    let marks : c.index.result.now ≡ get_or s.wins.marks.items c.args.w no_marks = item_at s.wins.marks.items c.args.w c.index.result.now no_marks (omega (arith, many, there)) c.index.ensures in
    window_written (geometry_of s) s.wins s.frames.windows c.args.w c.in-Some.b there held c.band_start-start.result c.window.result.now c.index.result.now c.band_start-start.ensures c.window.ensures marks
    (g.D.Disk.view c.args.disk.now).now (g.D.Disk.view c.write_runs.new.disk).now (c.in-Ok.ensures.done told)

pub returns-in-Ok-clause-any_moment : goal.returns-in-Ok-clause-any_moment
returns-in-Ok-clause-any_moment g c told =
    let s = c.args.self.now in
    let slot = slot_at s.wins.slots.items c.args.w c.index-slot.result.now c.requires.there c.index-slot.ensures in
    let held : page_in s.wins.slots.items c.args.w ≡ Some c.in-Some.b = ap (λ (x : Slot). x.number) (sym slot) ∙ c.in-Some.is in
    let many = s.wins.windows.marked in let there = c.requires.there in
    let marks : c.index.result.now ≡ get_or s.wins.marks.items c.args.w no_marks = item_at s.wins.marks.items c.args.w c.index.result.now no_marks (omega (arith, many, there)) c.index.ensures in
    window_torn (geometry_of s) s.wins s.frames.windows c.args.w c.in-Some.b there held c.band_start-start.result c.window.result.now c.index.result.now c.band_start-start.ensures c.window.ensures marks
    (g.D.Disk.view c.args.disk.now) (g.D.Disk.view c.write_runs.new.disk) (c.write_runs.ensures.any_moment told)

pub returns-in-Err-clause-any_moment : goal.returns-in-Err-clause-any_moment
returns-in-Err-clause-any_moment g c told =
    let s = c.args.self.now in
    let slot = slot_at s.wins.slots.items c.args.w c.index-slot.result.now c.requires.there c.index-slot.ensures in
    let held : page_in s.wins.slots.items c.args.w ≡ Some c.in-Some.b = ap (λ (x : Slot). x.number) (sym slot) ∙ c.in-Some.is in
    let many = s.wins.windows.marked in let there = c.requires.there in
    let marks : c.index.result.now ≡ get_or s.wins.marks.items c.args.w no_marks = item_at s.wins.marks.items c.args.w c.index.result.now no_marks (omega (arith, many, there)) c.index.ensures in
    window_torn (geometry_of s) s.wins s.frames.windows c.args.w c.in-Some.b there held c.band_start-start.result c.window.result.now c.index.result.now c.band_start-start.ensures c.window.ensures marks
    (g.D.Disk.view c.args.disk.now) (g.D.Disk.view c.write_runs.new.disk) (c.write_runs.ensures.any_moment told)
