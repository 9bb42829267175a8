use Rattle.std.proofs.Common.{◌≡◌, ◌<◌, ◌+◌, inl, inr, ℕ, Some, None, get_or, sym, ◌∙◌, ap, subst, arith}
use Rattle.std.proofs.lemmas.Result.{on_ok_weaker}
use Rattle.sg_base.specs.declared.area.Area.TheVariants.{Home}
use Rattle.sg_disk.specs.Disk.{Image, Part}
use Rattle.sg_disk.proofs.Moments.{weaker, joined}
use Rattle.sg_gate.specs.Batch.{IsReady}
use Rattle.sg_log.proofs.Holding.{no_call_moments}
use Rattle.sg_log.specs.Held.{tail_of}
use Rattle.sg_pool.specs.Bands.{AreBandsHome}
use Rattle.sg_pool.specs.declared.slot.Slot.{Slot}
use Rattle.sg_pool.specs.declared.windows.Marks.{Marks}
use Rattle.sg_pool.specs.Held.{since_of}
use Rattle.sg_pool.specs.Windows.{no_marks, last_in}
use Rattle.sg_pool.specs.Shelves.{geometry_of, units, lasts}
use Rattle.sg_pool.specs.Units.{IsGoing}
use Rattle.sg_pool.proofs.Counting.{grown_same, grown_more, heeds_then}
use Rattle.sg_pool.proofs.BandsHome.{none_dirty, no_change, last_below, torn_goes, on_ok_all}
use Rattle.sg_pool.proofs.Batching.{none_of}
use Rattle.sg_pool.proofs.GoingOn.{going_starts}
use Rattle.sg_pool.proofs.Settling.{along, stands}
use Rattle.sg_pool.proofs.Slots.{slot_at, item_at, some_of, none_is_some}
use Rattle.sg_pool.proofs.shelf.Shelf.write_back_window.Goals as goal

pub returns-then-is_none-clause-home : goal.returns-then-is_none-clause-home
returns-then-is_none-clause-home g c told apart backed =
    let s = c.args.self.now in let v = g.D.Disk.view c.args.disk.now in
    let slot = slot_at s.wins.slots.items c.args.w c.index.result.now c.requires.there c.index.ensures in
    let none : since_of s.wins.slots.items (Some c.args.w) ≡ None = ap (λ (x : Slot). x.since) (sym slot) ∙ none_of c.index.result.now.since c.if-is_none.ensures in
    none_dirty (geometry_of s) s.wins c.args.w (c.args.w + 1) s.frames.windows (v.now Home) backed.ready (no_change (geometry_of s) s.slots.items s.wins s.frames (v.now Home) c.args.w c.requires.there none backed)

pub returns-then-is_none-clause-moments : goal.returns-then-is_none-clause-moments
returns-then-is_none-clause-moments g c ds ps told apart ready holds logged = weaker (no_call_moments holds) (λ (im : Image) before. inl before)

pub returns-in_err-make_durable-clause-moments : goal.returns-in_err-make_durable-clause-moments
returns-in_err-make_durable-clause-moments g c ds ps told apart ready holds logged = weaker (c.make_durable.ensures.any_moment ds ps told holds) (λ (im : Image) before. inl before)

pub returns-clause-home : goal.returns-clause-home
returns-clause-home g c told apart backed =
    let s = c.args.self.now in let v = g.D.Disk.view c.args.disk.now in
    let u = g.D.Disk.view c.make_durable.new.disk in let z = g.D.Disk.view c.sync_windows.new.disk in
    let home : u.now Home ≡ v.now Home = c.in_ok-make_durable.ensures.elsewhere told Home (λ e. apart (sym e)) in
    on_ok_weaker c.sync_windows.result (λ done. subst (λ (p : Part). AreBandsHome (geometry_of s) s.wins s.frames.windows c.args.w (c.args.w + 1) p (z.now Home)) home done)
    (c.sync_windows.ensures.home told (subst IsReady (sym home) backed.ready))

pub returns-clause-log : goal.returns-clause-log
returns-clause-log g c ds ps told apart holds =
    let u = g.D.Disk.view c.make_durable.new.disk in let z = g.D.Disk.view c.sync_windows.new.disk in
    on_ok_weaker c.sync_windows.result (λ logs. along u z c.args.log.now c.make_durable.new.log ds ps apart logs (c.in_ok-make_durable.ensures.log ds ps told holds)) (c.sync_windows.ensures.logs told)

pub returns-clause-moments : goal.returns-clause-moments
returns-clause-moments g c ds ps told apart ready holds logged =
    let s = c.args.self.now in let v = g.D.Disk.view c.args.disk.now in
    let u = g.D.Disk.view c.make_durable.new.disk in
    let same = c.in_ok-make_durable.ensures.elsewhere told in
    let home : u.now Home ≡ v.now Home = same Home (λ e. apart (sym e)) in
    let slot = slot_at s.wins.slots.items c.args.w c.index.result.now c.requires.there c.index.ensures in
    let since = some_of c.index.result.now.since c.if-is_none.ensures in
    let many = s.wins.windows.marked in let there = c.requires.there in
    let marks : c.index-2.result.now ≡ get_or s.wins.marks.items c.args.w no_marks = item_at s.wins.marks.items c.args.w c.index-2.result.now no_marks (omega (arith, many, there)) c.index-2.ensures in
    let last : last_in s.wins.marks.items (Some c.args.w) < tail_of c.args.log.now = last_below s.wins (tail_of c.args.log.now) logged c.args.w since.0 there (ap (λ (x : Slot). x.since) (sym slot) ∙ since.1) in
    let gate : last_in s.wins.marks.items (Some c.args.w) < c.make_durable.new.log.gate = subst (λ (m : Marks). m.last < c.make_durable.new.log.gate) marks (c.in_ok-make_durable.ensures.durable (subst (λ (m : Marks). m.last < tail_of c.args.log.now) (sym marks) last)) in
    let going = subst (λ (p : Part). IsGoing (geometry_of s) c.make_durable.new.log.gate (lasts s) (v.now Home).seen (units (v.now Home).seen s) p.seen) (sym home) (going_starts (geometry_of s) c.make_durable.new.log.gate (lasts s) (v.now Home).seen (units (v.now Home).seen s)) in
    joined (weaker (c.make_durable.ensures.any_moment ds ps told holds) (λ (im : Image) before. inl before))
    (weaker (c.sync_windows.ensures.any_moment told) (λ (im : Image) torn. inr (torn_goes (geometry_of s) s.wins c.args.w (c.args.w + 1) s.slots.items s.frames v u c.args.log.now ds ps c.make_durable.new.log.gate (v.now Home).seen apart (λ b other not_log. same b not_log)
    (stands u c.args.log.now c.make_durable.new.log ds ps (c.in_ok-make_durable.ensures.log ds ps told holds)) (subst IsReady (sym home) ready)
    (λ x b k low high held marked. let e : x ≡ c.args.w = omega (arith, low, high) in subst (λ (y : ℕ). last_in s.wins.marks.items (Some y) < c.make_durable.new.log.gate) (sym e) gate) im torn (λ i small. ap (λ (p : Part). p.seen i) home) going)))

pub returns-then-is_none-clause-gone : goal.returns-then-is_none-clause-gone
returns-then-is_none-clause-gone g c logged o had =
    let s = c.args.self.now in
    let slot = slot_at s.wins.slots.items c.args.w c.index.result.now c.requires.there c.index.ensures in
    let none : since_of s.wins.slots.items (Some c.args.w) ≡ None = ap (λ (x : Slot). x.since) (sym slot) ∙ none_of c.index.result.now.since c.if-is_none.ensures in
    absurd (none_is_some o (sym none ∙ had))

pub returns-clause-gone : goal.returns-clause-gone
returns-clause-gone g c logged = on_ok_all c.sync_windows.result _ (λ o had.
    let s = c.args.self.now in
    let many = s.wins.windows.marked in let there = c.requires.there in
    let marks : c.index-2.result.now ≡ get_or s.wins.marks.items c.args.w no_marks = item_at s.wins.marks.items c.args.w c.index-2.result.now no_marks (omega (arith, many, there)) c.index-2.ensures in
    let last : last_in s.wins.marks.items (Some c.args.w) < tail_of c.args.log.now = last_below s.wins (tail_of c.args.log.now) logged c.args.w o there had in
    subst (λ (m : Marks). m.last < c.make_durable.new.log.gate) marks (c.in_ok-make_durable.ensures.durable (subst (λ (m : Marks). m.last < tail_of c.args.log.now) (sym marks) last)))

pub returns-then-is_none-clause-grown : goal.returns-then-is_none-clause-grown
returns-then-is_none-clause-grown g c = grown_same c.args.log.now (g.D.Disk.view c.args.disk.now) (g.D.Disk.view c.args.disk.now) (omega arith)

pub returns-clause-grown : goal.returns-clause-grown
returns-clause-grown g c = grown_more c.args.log.now c.make_durable.new.log (g.D.Disk.view c.args.disk.now) (g.D.Disk.view c.make_durable.new.disk) (g.D.Disk.view c.sync_windows.new.disk) c.make_durable.ensures.grown c.sync_windows.ensures.kept

pub returns-clause-heeded : goal.returns-clause-heeded
returns-clause-heeded g c = heeds_then {U = ℕ} 0 c.sync_windows.result (g.D.Disk.view c.args.disk.now) (g.D.Disk.view c.make_durable.new.disk) (g.D.Disk.view c.sync_windows.new.disk) c.in_ok-make_durable.ensures.heeded c.sync_windows.ensures.heeded

pub returns-in_err-make_durable-clause-spared : goal.returns-in_err-make_durable-clause-spared
returns-in_err-make_durable-clause-spared g c durable =
    let s = c.args.self.now in
    let many = s.wins.windows.marked in let there = c.requires.there in
    let slot = slot_at s.wins.slots.items c.args.w c.index.result.now c.requires.there c.index.ensures in
    let since = some_of c.index.result.now.since c.if-is_none.ensures in
    let marks : c.index-2.result.now ≡ get_or s.wins.marks.items c.args.w no_marks = item_at s.wins.marks.items c.args.w c.index-2.result.now no_marks (omega (arith, many, there)) c.index-2.ensures in
    c.make_durable.ensures.spared (subst (λ (m : Marks). m.last < c.args.log.now.gate) (sym marks) (durable since.0 (ap (λ (x : Slot). x.since) (sym slot) ∙ since.1)))

pub returns-clause-spared : goal.returns-clause-spared
returns-clause-spared g c durable =
    let s = c.args.self.now in
    let many = s.wins.windows.marked in let there = c.requires.there in
    let slot = slot_at s.wins.slots.items c.args.w c.index.result.now c.requires.there c.index.ensures in
    let since = some_of c.index.result.now.since c.if-is_none.ensures in
    let marks : c.index-2.result.now ≡ get_or s.wins.marks.items c.args.w no_marks = item_at s.wins.marks.items c.args.w c.index-2.result.now no_marks (omega (arith, many, there)) c.index-2.ensures in
    c.make_durable.ensures.spared (subst (λ (m : Marks). m.last < c.args.log.now.gate) (sym marks) (durable since.0 (ap (λ (x : Slot). x.since) (sym slot) ∙ since.1)))
