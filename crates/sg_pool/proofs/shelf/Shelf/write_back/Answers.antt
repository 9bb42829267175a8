use Rattle.std.proofs.Common.{◌<◌, inl, ℕ, Option, List, refl, sym, ◌∙◌, ap, subst, arith}
use Rattle.sg_base.specs.declared.area.Area.TheVariants.{Home}
use Rattle.sg_disk.specs.Disk.{Image}
use Rattle.sg_disk.proofs.Moments.{weaker}
use Rattle.sg_log.proofs.Holding.{no_call_moments}
use Rattle.sg_log.specs.Held.{tail_of}
use Rattle.sg_base.specs.Page.{lsn_of}
use Rattle.sg_gate.specs.Layout.{home_at}
use Rattle.sg_pool.specs.Units.{page_at}
use Rattle.sg_pool.specs.declared.slot.Slot.{Slot}
use Rattle.sg_pool.specs.Shelves.{geometry_of, units, lasts}
use Rattle.sg_pool.proofs.Counting.{grown_same}
use Rattle.sg_pool.proofs.Slots.{frame_is, slot_at, some_of}
use Rattle.sg_pool.specs.Held.{bytes_of, since_of}
use Rattle.sg_pool.proofs.shelf.Shelf.write_back.Goals as goal

pub settle-requires-clause-number : goal.settle-requires-clause-number
settle-requires-clause-number g c = c.args.self.now.shelf.within c.args.f c.in-Some.n c.requires.there (ap (λ (s : Slot). s.number) (sym (slot_at c.args.self.now.slots.items c.args.f c.index.result.now c.requires.there c.index.ensures)) ∙ c.in-Some.is)

pub returns-then-is_none-clause-moments : goal.returns-then-is_none-clause-moments
returns-then-is_none-clause-moments g c ds ps told apart ready holds below = weaker (no_call_moments holds) (λ (im : Image) before. inl before)

pub returns-in-None-clause-moments : goal.returns-in-None-clause-moments
returns-in-None-clause-moments g c ds ps told apart ready holds below = weaker (no_call_moments holds) (λ (im : Image) before. inl before)

pub returns-in-Some-clause-moments : goal.returns-in-Some-clause-moments
returns-in-Some-clause-moments g c ds ps told apart ready holds below =
    let s = c.args.self.now in
    let v = g.D.Disk.view c.args.disk.now in
    let slot_is = slot_at s.slots.items c.args.f c.index.result.now c.requires.there c.index.ensures in
    let holds_it = ap (λ (s : Slot). s.number) (sym slot_is) ∙ c.in-Some.is in
    let is = frame_is s.slots.items c.args.f c.in-Some.n s.shelf.apart c.requires.there holds_it in
    let bytes = ap (λ (o : Option ℕ). bytes_of s.frames.pages o (page_at (v.now Home).seen (home_at c.in-Some.n))) is ∙ sym c.page.ensures in
    let o = some_of c.index.result.now.since c.if-is_none.ensures in
    c.settle.ensures.moments ds ps (geometry_of s) (lasts s) (units (v.now Home).seen s) told apart ready holds refl bytes
    (subst (λ (p : List ℕ). lsn_of p < tail_of c.args.log.now) bytes (below c.in-Some.n o.0 (s.shelf.within c.args.f c.in-Some.n c.requires.there holds_it)
    (ap (since_of s.slots.items) is ∙ (ap (λ (s : Slot). s.since) (sym slot_is) ∙ o.1))))

pub returns-then-is_none-clause-grown : goal.returns-then-is_none-clause-grown
returns-then-is_none-clause-grown g c = grown_same c.args.log.now (g.D.Disk.view c.args.disk.now) (g.D.Disk.view c.args.disk.now) (omega arith)

pub returns-in-None-clause-grown : goal.returns-in-None-clause-grown
returns-in-None-clause-grown g c = grown_same c.args.log.now (g.D.Disk.view c.args.disk.now) (g.D.Disk.view c.args.disk.now) (omega arith)

pub returns-in-Some-clause-spared : goal.returns-in-Some-clause-spared
returns-in-Some-clause-spared g c durable =
    let s = c.args.self.now in
    let slot_is = slot_at s.slots.items c.args.f c.index.result.now c.requires.there c.index.ensures in
    let o = some_of c.index.result.now.since c.if-is_none.ensures in
    c.settle.ensures.spared (subst (λ (p : List ℕ). lsn_of p < c.args.log.now.gate) (sym c.page.ensures) (durable o.0 (ap (λ (s : Slot). s.since) (sym slot_is) ∙ o.1)))
