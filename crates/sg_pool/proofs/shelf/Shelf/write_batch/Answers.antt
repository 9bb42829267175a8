use Rattle.std.proofs.Common.{ℕ, take, length, refl, ◌∙◌, ap, arith}
use Rattle.sg_base.specs.declared.area.Area.TheVariants.{Home}
use Rattle.sg_disk.specs.Disk.{Image}
use Rattle.sg_disk.proofs.Moments.{weaker, joined}
use Rattle.sg_pool.specs.Shelves.{geometry_of}
use Rattle.sg_pool.proofs.Batching.{length_front}
use Rattle.sg_pool.proofs.Batched.{placing_starts, whole_before, before_moment, batch_moments, batch_home, none_home, is_batch}
use Rattle.sg_gate.specs.Batch.{homed}
use Rattle.sg_pool.proofs.Writing.{stored}
use Rattle.sg_pool.proofs.shelf.Shelf.write_batch.Goals as goal

pub frames-init : goal.frames-init
frames-init g c = let s = c.args.self.now in
    placing_starts g.D.Disk.told s.pages s.slots.items s.frames.pages c.args.from (g.D.Disk.view c.args.disk.now) _ c.requires.from refl

pub returns-in_err-count-clause-moments : goal.returns-in_err-count-clause-moments
returns-in_err-count-clause-moments g c told ready =
    let s = c.args.self.now in let inv = c.frames.invariant in
    let v = g.D.Disk.view c.args.disk.now in let w = g.D.Disk.view c.frames.disk in
    let placed = inv.placed told ready in let logs = inv.logs told ready in
    weaker (joined (inv.moments told ready) (weaker (c.place_frame.ensures.moments s.pages told placed.ready) (λ (im : Image) whole. whole_before v.now w.now s.pages im logs placed.store whole)))
    (λ (im : Image) whole. before_moment (geometry_of s) s.slots.items s.frames.pages c.args.from c.frames.f (take c.frames.count c.frames.numbers) v w inv.collected placed logs im whole)

pub frames-preserved : goal.frames-preserved
frames-preserved g c =
    let s = c.args.self.now in let inv = c.frames.invariant in
    let v = g.D.Disk.view c.args.disk.now in let w = g.D.Disk.view c.frames.disk in
    let next = c.in_ok-count.ensures.collected c.args.from inv.collected in
    record {
      pace = let a = inv.pace in let b = next.0 in omega (arith, a, b);
      high = let a = c.frames-test.true in let b = c.len-end.ensures in omega (arith, a, b);
      few = let a = next.0 in let b = c.if-count-lt32.true in omega (arith, a, b);
      room = let a = inv.room in omega (arith, a);
      collected = next.1;
      later = let a = inv.later in let b = c.place_frame.ensures.later in omega (arith, a, b);
      quiet = c.in_ok-count.ensures.heeded ∙ inv.quiet;
      kept = let a = inv.kept in let b = c.place_frame.ensures.kept in omega (arith, a, b);
      placed = λ told ready. let placed = inv.placed told ready in c.in_ok-count.ensures.placed c.args.from told inv.collected placed.ready (v.now Home) placed;
      logs = λ told ready b other. c.in_ok-count.ensures.logs told b other ∙ inv.logs told ready b other;
      moments = λ told ready.
          let placed = inv.placed told ready in
          joined (inv.moments told ready) (weaker (c.place_frame.ensures.moments s.pages told placed.ready) (λ (im : Image) whole. whole_before v.now w.now s.pages im (inv.logs told ready) placed.store whole));
    }

pub returns-then-count-eq0-clause-done : goal.returns-then-count-eq0-clause-done
returns-then-count-eq0-clause-done g c told ready =
    let s = c.args.self.now in let inv = c.frames.invariant in
    let v = g.D.Disk.view c.args.disk.now in let w = g.D.Disk.view c.frames.disk in
    none_home (geometry_of s) s.slots.items s.frames.pages c.args.from c.frames.f (take c.frames.count c.frames.numbers) v w inv.collected (inv.placed told ready) (inv.logs told ready)
    (ap (λ (k : ℕ). length (take k c.frames.numbers)) c.if-count-eq0.true)

pub returns-then-count-eq0-clause-moments : goal.returns-then-count-eq0-clause-moments
returns-then-count-eq0-clause-moments g c told ready =
    let s = c.args.self.now in let inv = c.frames.invariant in
    let v = g.D.Disk.view c.args.disk.now in let w = g.D.Disk.view c.frames.disk in
    weaker (inv.moments told ready) (λ (im : Image) whole. before_moment (geometry_of s) s.slots.items s.frames.pages c.args.from c.frames.f (take c.frames.count c.frames.numbers) v w inv.collected (inv.placed told ready) (inv.logs told ready) im whole)

pub finish-requires : goal.finish-requires
finish-requires g c =
    let s = c.args.self.now in let inv = c.frames.invariant in
    is_batch s.pages s.slots.items c.args.from c.frames.f (take c.frames.count c.frames.numbers) inv.collected s.shelf.within
    (let long = length_front c.frames.numbers c.frames.count inv.few inv.room in let a = c.if-count-eq0.false in omega (arith, long, a))

pub returns-in-Ok-clause-done : goal.returns-in-Ok-clause-done
returns-in-Ok-clause-done g c told ready =
    let s = c.args.self.now in let inv = c.frames.invariant in
    let v = g.D.Disk.view c.args.disk.now in let w = g.D.Disk.view c.frames.disk in
    let placed = inv.placed told ready in
    let batch = is_batch s.pages s.slots.items c.args.from c.frames.f (take c.frames.count c.frames.numbers) inv.collected s.shelf.within
    (let long = length_front c.frames.numbers c.frames.count inv.few inv.room in let a = c.if-count-eq0.false in omega (arith, long, a)) in
    batch_home (geometry_of s) s.slots.items s.frames.pages c.args.from c.frames.f (take c.frames.count c.frames.numbers) v w inv.collected placed (inv.logs told ready) batch ((g.D.Disk.view c.finish.new.disk).now Home) (stored ((g.D.Disk.view c.finish.new.disk).now Home) (homed (take c.frames.count c.frames.numbers) (w.now Home).seen) (c.in-Ok.ensures.done told))

pub returns-in-Ok-clause-moments : goal.returns-in-Ok-clause-moments
returns-in-Ok-clause-moments g c told ready =
    let s = c.args.self.now in let inv = c.frames.invariant in
    let v = g.D.Disk.view c.args.disk.now in let w = g.D.Disk.view c.frames.disk in
    let placed = inv.placed told ready in
    let batch = is_batch s.pages s.slots.items c.args.from c.frames.f (take c.frames.count c.frames.numbers) inv.collected s.shelf.within
    (let long = length_front c.frames.numbers c.frames.count inv.few inv.room in let a = c.if-count-eq0.false in omega (arith, long, a)) in
    batch_moments (geometry_of s) s.slots.items s.frames.pages c.args.from c.frames.f (take c.frames.count c.frames.numbers) v w inv.collected placed (inv.logs told ready) batch (g.D.Disk.view c.finish.new.disk) (inv.moments told ready) (c.finish.ensures.any_moment told placed.ready)

pub returns-in-Err-clause-moments : goal.returns-in-Err-clause-moments
returns-in-Err-clause-moments g c told ready =
    let s = c.args.self.now in let inv = c.frames.invariant in
    let v = g.D.Disk.view c.args.disk.now in let w = g.D.Disk.view c.frames.disk in
    let placed = inv.placed told ready in
    let batch = is_batch s.pages s.slots.items c.args.from c.frames.f (take c.frames.count c.frames.numbers) inv.collected s.shelf.within
    (let long = length_front c.frames.numbers c.frames.count inv.few inv.room in let a = c.if-count-eq0.false in omega (arith, long, a)) in
    batch_moments (geometry_of s) s.slots.items s.frames.pages c.args.from c.frames.f (take c.frames.count c.frames.numbers) v w inv.collected placed (inv.logs told ready) batch (g.D.Disk.view c.finish.new.disk) (inv.moments told ready) (c.finish.ensures.any_moment told placed.ready)
