use Rattle.std.proofs.Common.{◌≡◌, ◌<◌, None, inl, ⊎_elim, refl, ℕ, Option, length, sym, ◌∙◌, ap, subst, arith}
use Rattle.std.proofs.lemmas.Result.{err_from_is_err_and}
use Rattle.sg_base.specs.declared.area.Area.TheVariants.{Home}
use Rattle.sg_disk.specs.Disk.{Image}
use Rattle.sg_disk.proofs.Moments.{weaker}
use Rattle.sg_log.proofs.Holding.{no_call_moments}
use Rattle.sg_pool.specs.Frames.{byte_in}
use Rattle.sg_pool.specs.Held.{frame_of, since_of}
use Rattle.sg_pool.specs.Shelves.{geometry_of, units}
use Rattle.sg_pool.specs.Units.{band_byte}
use Rattle.sg_pool.proofs.Sparing.{nowhere}
use Rattle.sg_pool.proofs.HomesKept.{untouched_same}
use Rattle.sg_pool.proofs.Counting.{grown_same}
use Rattle.sg_pool.proofs.BandsHome.{last_below}
use Rattle.sg_pool.proofs.Bringing.{disk_told}
use Rattle.sg_pool.proofs.Changing.{cleaned_refl}
use Rattle.sg_pool.proofs.Slots.{frame_some, none_is_some, none_or_some}
use Rattle.sg_pool.proofs.Pooling.{pool_same}
use Rattle.sg_pool.proofs.pool.Pool.hold_band.Goals as goal

pub find-requires : goal.find-requires
find-requires g c = let s = c.args.self.now in record { band = subst (λ (m : ℕ). c.args.b < m) (sym s.shelf.shelf.listed_bands) c.requires.band }

pub returns-in-Some-clause-moments : goal.returns-in-Some-clause-moments
returns-in-Some-clause-moments g c ds ps told apart ready holds below = weaker (no_call_moments holds) (λ (im : Image) before. inl before)

pub invariant_of-self : goal.invariant_of-self
invariant_of-self g c = let s = c.args.self.now in
    record { pool = pool_same s.shelf.slots.items c.bring_band.new.self.slots.items s.order.entries s.order.entries (ap length c.bring_band.ensures.slots) s.pool s.pool.order }

pub returns-clause-moments : goal.returns-clause-moments
returns-clause-moments g c ds ps told apart ready holds below = c.bring_band.ensures.moments ds ps told apart ready holds below.bands

pub returns-in-Some-clause-bytes : goal.returns-in-Some-clause-bytes
returns-in-Some-clause-bytes g c told apart backed i small = let s = c.args.self.now.shelf in
    sym (ap (λ (o : Option ℕ). byte_in s.frames.windows o i (((g.D.Disk.view c.args.disk.now).now Home).seen (band_byte (geometry_of s) c.args.b i))) (sym c.find.ensures ∙ c.in-Some.is))

pub returns-in-Some-clause-whole : goal.returns-in-Some-clause-whole
returns-in-Some-clause-whole g c = let s = c.args.self.now.shelf in
    let lt = (frame_some c.args.b s.wins.slots.items c.in-Some.w (sym c.find.ensures ∙ c.in-Some.is)).0 in let wide = s.shelf.wide in
    s.shelf.here.windows c.in-Some.w (omega (arith, lt, wide))

pub returns-clause-bytes : goal.returns-clause-bytes
returns-clause-bytes g c told apart backed i small = let t = c.bring_band.new.self in
    sym (ap (λ (o : Option ℕ). byte_in t.frames.windows o i (((g.D.Disk.view c.bring_band.new.disk).now Home).seen (band_byte (geometry_of t) c.args.b i))) c.in_ok-bring_band.ensures.held)
    ∙ (c.in_ok-bring_band.ensures.units told apart backed).byte c.args.b i c.requires.band small

pub returns-clause-whole : goal.returns-clause-whole
returns-clause-whole g c = let t = c.bring_band.new.self in
    let lt = (frame_some c.args.b t.wins.slots.items _ c.in_ok-bring_band.ensures.held).0 in let wide = t.shelf.wide in
    t.shelf.here.windows _ (omega (arith, lt, wide))

pub returns-in-Some-clause-gone : goal.returns-in-Some-clause-gone
returns-in-Some-clause-gone g c logged b o had none = absurd (none_is_some o (sym none ∙ had))

pub returns-clause-gone : goal.returns-clause-gone
returns-clause-gone g c logged = c.in_ok-bring_band.ensures.gone logged

pub returns-in-Some-clause-own : goal.returns-in-Some-clause-own
returns-in-Some-clause-own g c = refl

pub returns-clause-own : goal.returns-clause-own
returns-clause-own g c = let s = c.args.self.now.shelf in let t = c.bring_band.new.self in
    let gone : frame_of s.wins.slots.items c.args.b ≡ None = ⊎_elim (λ none. none) (λ some. absurd (c.in_default.not-Some some.0 (c.find.ensures ∙ some.1))) (none_or_some (frame_of s.wins.slots.items c.args.b)) in
    let none : since_of s.wins.slots.items (frame_of s.wins.slots.items c.args.b) ≡ None = ap (since_of s.wins.slots.items) gone in
    ⊎_elim
    (λ clean. clean ∙ sym none)
    (λ some. absurd (none_is_some some.0 (sym none ∙ (c.bring_band.ensures.lasts c.args.b some.0 some.1).0)))
    (none_or_some (since_of t.wins.slots.items (frame_of t.wins.slots.items c.args.b)))

pub returns-in-Some-clause-grown : goal.returns-in-Some-clause-grown
returns-in-Some-clause-grown g c = grown_same c.args.log.now (g.D.Disk.view c.args.disk.now) (g.D.Disk.view c.args.disk.now) (omega arith)

pub returns-in-Some-clause-hit : goal.returns-in-Some-clause-hit
returns-in-Some-clause-hit g c held = (refl, refl)

pub returns-in-Some-clause-turn : goal.returns-in-Some-clause-turn
returns-in-Some-clause-turn g c none = absurd (none_is_some c.in-Some.w (sym none ∙ (sym c.find.ensures ∙ c.in-Some.is)))

pub returns-in-Some-clause-untouched : goal.returns-in-Some-clause-untouched
returns-in-Some-clause-untouched g c told apart backed = let s = c.args.self.now.shelf in let seen = ((g.D.Disk.view c.args.disk.now).now Home).seen in untouched_same (geometry_of s) seen seen (units seen s) refl

pub returns-in-Some-clause-home : goal.returns-in-Some-clause-home
returns-in-Some-clause-home g c told apart backed i small = refl

pub returns-clause-hit : goal.returns-clause-hit
returns-clause-hit g c held = let s = c.args.self.now in absurd (held (nowhere c.find.result (frame_of s.shelf.wins.slots.items c.args.b) c.find.ensures c.in_default.not-Some))

pub returns-clause-turn : goal.returns-clause-turn
returns-clause-turn g c none = c.in_ok-bring_band.ensures.held

pub returns-clause-durable : goal.returns-clause-durable
returns-clause-durable g c logged = let s = c.args.self.now.shelf in c.bring_band.ensures.spared (λ o since. last_below s.wins c.args.log.now.gate logged s.wins.next o s.wins.windows.next_there since)

pub returns-in-Some-clause-brought : goal.returns-in-Some-clause-brought
returns-in-Some-clause-brought g c = record { held = sym c.find.ensures ∙ c.in-Some.is; others = λ v differ. refl }

pub returns-in-Some-clause-lasts : goal.returns-in-Some-clause-lasts
returns-in-Some-clause-lasts g c b o since = (since, refl)

pub returns-in-Some-clause-backed : goal.returns-in-Some-clause-backed
returns-in-Some-clause-backed g c told apart backed = backed

pub returns-in-Some-clause-same : goal.returns-in-Some-clause-same
returns-in-Some-clause-same g c told apart backed = let s = c.args.self.now.shelf in cleaned_refl (geometry_of s) (units ((g.D.Disk.view c.args.disk.now).now Home).seen s)

pub returns-in-Some-clause-log : goal.returns-in-Some-clause-log
returns-in-Some-clause-log g c ds ps told apart holds = inl (refl, holds)

-- the shelf refused to bring the band, and nothing else was done
pub returns-in_err-bring_band : goal.returns-in_err-bring_band
returns-in_err-bring_band g c =
    let s = c.args.self.now.shelf in
    let all = c.bring_band.ensures in let failed = c.in_err-bring_band.ensures in let e = c.in_err-bring_band.field-0.0 in
    let p = err_from_is_err_and c.from_residual.result c.from_residual.ensures.1 in
    rw (p.1, p.2) (record {
      brought = tt;
      bytes = λ told apart backed. tt;
      whole = tt;
      frames = record { slots = all.slots; bytes = all.pages; uses = refl };
      lasts = all.lasts;
      gone = λ logged. tt;
      own = tt;
      size = all.geometry;
      backed = λ told apart backed. disk_told ℕ e _ failed.fault;
      same = λ told apart backed. disk_told ℕ e _ failed.fault;
      log_kept = all.log_kept;
      hit = λ held. absurd (held (nowhere c.find.result (frame_of s.wins.slots.items c.args.b) c.find.ensures c.in_default.not-Some));
      spared = λ none. all.spared;
      durable = λ logged. all.spared (λ o since. last_below s.wins c.args.log.now.gate logged s.wins.next o s.wins.windows.next_there since);
      turn = λ none. tt;
      count = all.count;
      untouched = λ told apart backed. disk_told ℕ e _ failed.fault;
      home = λ told apart backed. tt;
      log = λ ds ps told apart holds. disk_told ℕ e _ failed.fault;
      moments = λ ds ps told apart ready holds below. all.moments ds ps told apart ready holds below.bands;
      fault = failed.fault;
      failed = failed.failed;
      later = all.later;
      heeded = failed.heeded;
      kept = all.kept;
      grown = all.grown;
    })

pub returns-clause-brought : goal.returns-clause-brought
returns-clause-brought g c = record { held = c.in_ok-bring_band.ensures.held; others = c.in_ok-bring_band.ensures.others }

pub returns-clause-lasts : goal.returns-clause-lasts
returns-clause-lasts g c = c.bring_band.ensures.lasts

pub returns-clause-backed : goal.returns-clause-backed
returns-clause-backed g c = c.in_ok-bring_band.ensures.backed

pub returns-clause-same : goal.returns-clause-same
returns-clause-same g c = c.in_ok-bring_band.ensures.units

pub returns-clause-spared : goal.returns-clause-spared
returns-clause-spared g c none = c.bring_band.ensures.spared

pub returns-clause-untouched : goal.returns-clause-untouched
returns-clause-untouched g c = c.in_ok-bring_band.ensures.untouched

pub returns-clause-home : goal.returns-clause-home
returns-clause-home g c = c.in_ok-bring_band.ensures.home

pub returns-clause-log : goal.returns-clause-log
returns-clause-log g c = c.in_ok-bring_band.ensures.log

pub returns-clause-grown : goal.returns-clause-grown
returns-clause-grown g c = c.bring_band.ensures.grown
