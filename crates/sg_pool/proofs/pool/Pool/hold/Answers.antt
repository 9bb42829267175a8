use Rattle.std.proofs.Common.{inl, ℕ, length, refl, sym, ◌∙◌, arith}
use Rattle.std.proofs.lemmas.Result.{err_from_is_err_and}
use Rattle.sg_disk.specs.Disk.{Image}
use Rattle.sg_disk.proofs.Moments.{weaker}
use Rattle.sg_log.proofs.Holding.{no_call_moments}
use Rattle.sg_base.specs.declared.area.Area.TheVariants.{Home}
use Rattle.sg_pool.specs.Held.{frame_of}
use Rattle.sg_pool.specs.Shelves.{geometry_of, units}
use Rattle.sg_pool.proofs.Sparing.{nowhere, frame_durable}
use Rattle.sg_pool.proofs.HomesKept.{untouched_same}
use Rattle.sg_pool.proofs.Counting.{grown_same}
use Rattle.sg_pool.proofs.Bringing.{told_as}
use Rattle.sg_pool.proofs.Changing.{cleaned_refl}
use Rattle.sg_pool.proofs.Slots.{frame_some, none_is_some}
use Rattle.sg_pool.proofs.Pooling.{pool_same, held_new}
use Rattle.sg_pool.proofs.pool.Pool.hold.Goals as goal

pub touch-requires : goal.touch-requires
touch-requires g c = let s = c.args.self.now in
    record { there = s.pool.order.each c.in-Some.f (frame_some c.args.p s.shelf.slots.items c.in-Some.f (sym c.find.ensures ∙ c.in-Some.is)).0 }

pub touch-requires-2 : goal.touch-requires-2
touch-requires-2 g c = let s = c.args.self.now in
    record { there = s.pool.order.each c.next_out-f.result (c.next_out-f.ensures.frame (length s.shelf.slots.items) s.pool.many s.pool.order) }

pub invariant_of-self : goal.invariant_of-self
invariant_of-self g c = let s = c.args.self.now in
    record { pool = pool_same s.shelf.slots.items s.shelf.slots.items s.order.entries c.touch.new.order.entries refl s.pool (c.touch.ensures.kept (length s.shelf.slots.items) s.pool.order) }

pub returns-in-Some-clause-moments : goal.returns-in-Some-clause-moments
returns-in-Some-clause-moments g c ds ps told apart ready holds below = weaker (no_call_moments holds) (λ (im : Image) before. inl before)

pub invariant_of-self-2 : goal.invariant_of-self-2
invariant_of-self-2 g c = let s = c.args.self.now in
    record { pool = pool_same s.shelf.slots.items c.bring.new.self.slots.items s.order.entries c.touch-2.new.order.entries c.bring.ensures.count s.pool (c.touch-2.ensures.kept (length s.shelf.slots.items) s.pool.order) }

pub returns-clause-held : goal.returns-clause-held
returns-clause-held g c = let s = c.args.self.now in
    held_new s.shelf.slots.items c.bring.new.self.slots.items c.next_out-f.result c.args.p (c.next_out-f.ensures.frame (length s.shelf.slots.items) s.pool.many s.pool.order) c.in_ok-bring.ensures.slots c.bring.new.self.shelf.apart

pub returns-clause-victim : goal.returns-clause-victim
returns-clause-victim g c none = let s = c.args.self.now in c.next_out-f.ensures.victim (length s.shelf.slots.items) s.pool.many s.pool.order

pub returns-clause-moments : goal.returns-clause-moments
returns-clause-moments g c ds ps told apart ready holds below = c.bring.ensures.moments ds ps told apart ready holds below.pages

pub returns-in-Some-clause-grown : goal.returns-in-Some-clause-grown
returns-in-Some-clause-grown g c = grown_same c.args.log.now (g.D.Disk.view c.args.disk.now) (g.D.Disk.view c.args.disk.now) (omega arith)

pub returns-in-Some-clause-hit : goal.returns-in-Some-clause-hit
returns-in-Some-clause-hit g c held = (refl, refl)

pub returns-in-Some-clause-spared : goal.returns-in-Some-clause-spared
returns-in-Some-clause-spared g c none = absurd (none_is_some c.in-Some.f (sym none ∙ (sym c.find.ensures ∙ c.in-Some.is)))

pub returns-in-Some-clause-untouched : goal.returns-in-Some-clause-untouched
returns-in-Some-clause-untouched g c told apart backed = let s = c.args.self.now.shelf in let seen = ((g.D.Disk.view c.args.disk.now).now Home).seen in untouched_same (geometry_of s) seen seen (units seen s) refl

pub returns-in-Some-clause-home : goal.returns-in-Some-clause-home
returns-in-Some-clause-home g c told apart backed = refl

pub returns-clause-hit : goal.returns-clause-hit
returns-clause-hit g c held = let s = c.args.self.now in absurd (held (nowhere c.find.result (frame_of s.shelf.slots.items c.args.p) c.find.ensures c.in_default.not-Some))

pub returns-clause-spared : goal.returns-clause-spared
returns-clause-spared g c none = let s = c.args.self.now in (c.next_out-f.result, c.next_out-f.ensures.victim (length s.shelf.slots.items) s.pool.many s.pool.order, c.bring.ensures.spared)

pub returns-clause-durable : goal.returns-clause-durable
returns-clause-durable g c logged = let s = c.args.self.now in
    c.bring.ensures.spared (frame_durable (geometry_of s.shelf) s.shelf.slots.items s.shelf.wins s.shelf.frames s.shelf.shelf ((g.D.Disk.view c.args.disk.now).now Home).seen c.args.log.now.gate c.next_out-f.result
    (c.next_out-f.ensures.frame (length s.shelf.slots.items) s.pool.many s.pool.order) logged.pages)

pub returns-in-Some-clause-held : goal.returns-in-Some-clause-held
returns-in-Some-clause-held g c = sym c.find.ensures ∙ c.in-Some.is

pub returns-in-Some-clause-victim : goal.returns-in-Some-clause-victim
returns-in-Some-clause-victim g c none = absurd (none_is_some c.in-Some.f (sym none ∙ (sym c.find.ensures ∙ c.in-Some.is)))

pub returns-in-Some-clause-backed : goal.returns-in-Some-clause-backed
returns-in-Some-clause-backed g c told apart backed = backed

pub returns-in-Some-clause-same : goal.returns-in-Some-clause-same
returns-in-Some-clause-same g c told apart backed = let s = c.args.self.now.shelf in cleaned_refl (geometry_of s) (units ((g.D.Disk.view c.args.disk.now).now Home).seen s)

pub returns-in-Some-clause-log : goal.returns-in-Some-clause-log
returns-in-Some-clause-log g c ds ps told apart ready holds = inl (refl, holds)

pub returns-in-Some-clause-well : goal.returns-in-Some-clause-well
returns-in-Some-clause-well g c told apart backed none = absurd (none_is_some c.in-Some.f (sym none ∙ (sym c.find.ensures ∙ c.in-Some.is)))

-- the shelf refused to bring the page, and nothing else was done
pub returns-in_err-bring : goal.returns-in_err-bring
returns-in_err-bring g c =
    let s = c.args.self.now in let out = c.next_out-f in
    let all = c.bring.ensures in let failed = c.in_err-bring.ensures in let e = c.in_err-bring.field-0.0 in
    let victim = out.ensures.victim (length s.shelf.slots.items) s.pool.many s.pool.order in
    let p = err_from_is_err_and c.from_residual.result c.from_residual.ensures.1 in
    rw (p.1, p.2) (record {
      held = tt;
      used = tt;
      victim = λ none. tt;
      others = tt;
      emptied = (out.result, victim, all.others);
      size = all.geometry;
      backed = λ told apart backed. told_as (Unit {0}) ℕ e _ (failed.backed told apart backed);
      same = λ told apart backed. told_as (Unit {0}) ℕ e _ (failed.units told apart backed);
      log_kept = all.log_kept;
      hit = λ held. absurd (held (nowhere c.find.result (frame_of s.shelf.slots.items c.args.p) c.find.ensures c.in_default.not-Some));
      spared = λ none. (out.result, victim, all.spared);
      durable = λ logged. all.spared (frame_durable (geometry_of s.shelf) s.shelf.slots.items s.shelf.wins s.shelf.frames s.shelf.shelf ((g.D.Disk.view c.args.disk.now).now Home).seen c.args.log.now.gate out.result
          (out.ensures.frame (length s.shelf.slots.items) s.pool.many s.pool.order) logged.pages);
      untouched = λ told apart backed. told_as (Unit {0}) ℕ e _ (failed.untouched told apart backed);
      home = λ told apart backed. told_as (Unit {0}) ℕ e _ (failed.home told apart backed);
      log = λ ds ps told apart ready holds. told_as (Unit {0}) ℕ e _ (failed.log ds ps told apart ready holds);
      moments = λ ds ps told apart ready holds below. all.moments ds ps told apart ready holds below.pages;
      well = λ told apart backed none. tt;
      unused = refl;
      windows = record { windows = all.wins; bytes = all.windows };
      later = all.later;
      heeded = failed.heeded;
      kept = all.kept;
      grown = all.grown;
      faults = failed.faults;
    })

pub returns-clause-others : goal.returns-clause-others
returns-clause-others g c = c.bring.ensures.others

pub returns-clause-backed : goal.returns-clause-backed
returns-clause-backed g c = c.in_ok-bring.ensures.backed

pub returns-clause-same : goal.returns-clause-same
returns-clause-same g c = c.in_ok-bring.ensures.units

pub returns-clause-log_kept : goal.returns-clause-log_kept
returns-clause-log_kept g c = c.bring.ensures.log_kept

pub returns-clause-untouched : goal.returns-clause-untouched
returns-clause-untouched g c = c.in_ok-bring.ensures.untouched

pub returns-clause-home : goal.returns-clause-home
returns-clause-home g c = c.in_ok-bring.ensures.home

pub returns-clause-log : goal.returns-clause-log
returns-clause-log g c = c.in_ok-bring.ensures.log

pub returns-clause-well : goal.returns-clause-well
returns-clause-well g c told apart backed none = c.in_ok-bring.ensures.well told apart backed

pub returns-clause-grown : goal.returns-clause-grown
returns-clause-grown g c = c.bring.ensures.grown
