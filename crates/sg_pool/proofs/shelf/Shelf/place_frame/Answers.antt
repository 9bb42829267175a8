use Rattle.std.proofs.Common.{◌≡◌, ◌+◌, inl, inr, ℕ, Option, List, [], ◌∷◌, ◌++◌, take, length, refl, sym, ◌∙◌, ap, subst, arith}
use Rattle.sg_base.specs.declared.area.Area.TheVariants.{Home}
use Rattle.sg_disk.specs.Disk.{Part}
use Rattle.sg_disk.proofs.Parts.{part_written}
use Rattle.sg_pool.specs.declared.slot.Slot.{Slot}
use Rattle.sg_pool.specs.Batches.{AreCollected, ArePlaced}
use Rattle.sg_pool.specs.Held.{bytes_of}
use Rattle.sg_pool.proofs.Slots.{slot_at, frame_is}
use Rattle.sg_pool.proofs.Batching.{none_of, collected_skip, collected_more, placed_more, place_whole, none_whole, count_is, take_set}
use Rattle.sg_gate.specs.Layout.{place_at}
use Rattle.sg_pool.proofs.shelf.Shelf.place_frame.Goals as goal

pub returns-then-is_none-clause-moments : goal.returns-then-is_none-clause-moments
returns-then-is_none-clause-moments g c pages told ready = none_whole pages (g.D.Disk.view c.args.disk.now) ready

pub returns-in_default-clause-moments : goal.returns-in_default-clause-moments
returns-in_default-clause-moments g c pages told ready = none_whole pages (g.D.Disk.view c.args.disk.now) ready

pub returns-then-is_none-clause-collected : goal.returns-then-is_none-clause-collected
returns-then-is_none-clause-collected g c from are =
    let s = c.args.self.now in
    let is = slot_at s.slots.items c.args.f c.index.result.now c.requires.there c.index.ensures in
    (omega arith, collected_skip s.slots.items from c.args.f (take c.args.k c.args.numbers.now) are (inl (inl (sym (ap (λ (x : Slot). x.since) is) ∙ none_of c.index.result.now.since c.if-is_none.ensures))))

pub returns-in_default-clause-collected : goal.returns-in_default-clause-collected
returns-in_default-clause-collected g c from are =
    let s = c.args.self.now in
    let is = slot_at s.slots.items c.args.f c.index.result.now c.requires.there c.index.ensures in
    (omega arith, collected_skip s.slots.items from c.args.f (take c.args.k c.args.numbers.now) are (inl (inr (sym (ap (λ (x : Slot). x.number) is) ∙ c.in_default.is))))

pub returns-in-Err-clause-moments : goal.returns-in-Err-clause-moments
returns-in-Err-clause-moments g c pages told ready =
    let s = c.args.self.now in let many = s.shelf.many in let at = c.requires.there in
    let long : length c.page.result.now ≡ 4096 = ap length c.page.ensures ∙ s.shelf.here.pages c.args.f (omega (arith, many, at)) in
    place_whole [] 0 c.args.k c.requires.place c.page.result.now long ((g.D.Disk.view c.args.disk.now).now Home) pages (g.D.Disk.view c.args.disk.now) (g.D.Disk.view c.place.new.disk) ready refl c.place.result (c.place.ensures.does told)

pub returns-clause-moments : goal.returns-clause-moments
returns-clause-moments g c pages told ready =
    let s = c.args.self.now in let many = s.shelf.many in let at = c.requires.there in
    let long : length c.page.result.now ≡ 4096 = ap length c.page.ensures ∙ s.shelf.here.pages c.args.f (omega (arith, many, at)) in
    place_whole [] 0 c.args.k c.requires.place c.page.result.now long ((g.D.Disk.view c.args.disk.now).now Home) pages (g.D.Disk.view c.args.disk.now) (g.D.Disk.view c.place.new.disk) ready refl c.place.result (c.place.ensures.does told)

pub returns-clause-collected : goal.returns-clause-collected
returns-clause-collected g c from are =
    let s = c.args.self.now in let xs = c.args.numbers.now in let small = c.requires.place in let room = c.requires.room in
    let is = slot_at s.slots.items c.args.f c.index.result.now c.requires.there c.index.ensures in
    let count = count_is xs c.args.k small room in (
      omega arith,
      subst (AreCollected s.slots.items from (c.args.f + 1)) (sym (take_set xs c.args.k c.in-Some.n (omega (arith, small, room))))
          (collected_more (take c.args.k xs) c.in-Some.n s.slots.items from c.args.f are s.shelf.apart c.requires.there (sym (ap (λ (x : Slot). x.number) is) ∙ c.in-Some.is) (omega (arith, count, small))),
    )

pub returns-clause-placed : goal.returns-clause-placed
returns-clause-placed g c from told are ready p placed =
    let s = c.args.self.now in let xs = c.args.numbers.now in let small = c.requires.place in let room = c.requires.room in
    let many = s.shelf.many in let at = c.requires.there in
    let v = g.D.Disk.view c.args.disk.now in let w = g.D.Disk.view c.place.new.disk in
    let long : length c.page.result.now ≡ 4096 = ap length c.page.ensures ∙ s.shelf.here.pages c.args.f (omega (arith, many, at)) in
    let is = slot_at s.slots.items c.args.f c.index.result.now c.requires.there c.index.ensures in
    let held = frame_is s.slots.items c.args.f c.in-Some.n s.shelf.apart c.requires.there (sym (ap (λ (x : Slot). x.number) is) ∙ c.in-Some.is) in
    let part = part_written v.now Home (place_at c.args.k) c.page.result.now (c.in-Ok.ensures.does told).ok in
    subst (λ (ns : List ℕ). ArePlaced s.slots.items s.frames.pages ns p (w.now Home)) (sym (take_set xs c.args.k c.in-Some.n (omega (arith, small, room))))
    (subst (λ (q : Part). ArePlaced s.slots.items s.frames.pages (take c.args.k xs ++ c.in-Some.n ∷ []) p q) (sym part)
    (placed_more (take c.args.k xs) c.in-Some.n c.args.k small c.page.result.now long (v.now Home) s.slots.items s.frames.pages p (count_is xs c.args.k small room)
    (c.page.ensures ∙ sym (ap (λ (o : Option ℕ). bytes_of s.frames.pages o []) held)) placed))
