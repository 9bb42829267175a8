use Rattle.std.proofs.Common.{false, ◌≡◌, ℕ, ◌*◌, ◌+◌, List, Bool, true, length, sym, ap, subst, ◌∙◌, refl, arith, inr}
use Rattle.std.proofs.lemmas.List.{length-set}
use Rattle.std.specs.declared.snapshot.Snapshot.{Snapshot}
use Rattle.sg_alloc.specs.declared.maps.Maps.{Maps}
use Rattle.sg_ops.specs.Table.{Table}
use Rattle.sg_space.specs.Bands.{TookBand}
use Rattle.sg_actions.specs.Later.{Later, acts_at as moment}
use Rattle.sg_actions.specs.Onward.{later_same}
use Rattle.sg_actions.specs.View.{acts_view}
use Rattle.sg_actions.specs.declared.rows.Row.{Row}
use Rattle.sg_action.specs.States.{Change, Kept}
use Rattle.sg_actions.specs.Later.{KeepsBands}
use Rattle.sg_actions.specs.Steps.{opened, begin_of}
use Rattle.sg_actions.specs.Taken.{kept_of}
use Rattle.sg_actions.proofs.Banded.{opens_first, opens_next, strictly, failed_strictly, bands_taken}
use Rattle.sg_actions.proofs.Filled.{opens_one, Filling, filling_first, filling_next, first_in, first_later, next_later, shows_take_band, few_band, wide_any}
use Rattle.sg_actions.proofs.Led.{by_later}
use Rattle.std.proofs.lemmas.Option.{slice_get_within}
use Rattle.sg_actions.proofs.Untold.{none_behind}
use Rattle.sg_actions.specs.Engine.{Extent}
use Rattle.sg_space.specs.declared.space.SpaceFault.TheVariants.{Disk, LogEnd}
use Rattle.sg_actions.proofs.acts.ActsPageSpace.take_band.Goals as goal

pub fill-requires-clause-band : goal.fill-requires-clause-band
fill-requires-clause-band g c = few_band c.args.self.now.maps.bands c.take_band-b.result.0 c.band_taken.result c.band_taken.ensures (sym c.is_some.ensures ∙ c.if-is_some.false) c.take_band-b.ensures.least.free

pub fills-init : goal.fills-init
fills-init g c =
    let k = c.in_ok-fill.ensures in
    let s = c.args.self.now in
    record {
      aligned = (1, refl, omega arith, k.grows.few);
      filling = filling_first (g.E.Engine.view c.args.self.now.begun_at.value).now s.rows.items c.if-not-self.false (record { logs = λ t. (record { grows = c.in_ok-fill.ensures.grows; keeps = λ from m. c.in_ok-fill.ensures.means t from m; logs = λ from m. c.in_ok-fill.ensures.logs t from m; whole = g.met.E.Engine.told_whole _; full = g.met.E.Engine.full_failed _; now = λ from m. g.met.E.Engine.now_is _ t from m; now' = λ from m. g.met.E.Engine.now_is _ t from m; law = λ from m. g.met.E.Engine.lawful _ t from m }); range = c.in_ok-fill.ensures.range; some = g.met.E.Engine.some c.args.self.now.engine; wide = λ t from m. g.met.E.Engine.bands_whole _ t from m }) k.actor (first_in (g.E.Engine.limits (length c.args.self.now.maps.pages) (length c.args.self.now.maps.bands)) (g.E.Engine.view c.args.self.now.engine) c.args.self.now.maps c.fill.new.self.maps c.take_band-b.result.0 c.take_band-b.ensures.least.free (ap (λ (m : Maps). m.bands) k.maps ∙ c.take_band-b.ensures.bands) (ap (λ (m : Maps). m.pages) k.maps ∙ c.take_band-b.ensures.pages));
      opens = λ n e told. opens_first n e (opens_one {actor = c.args.self.now.actor} (record { logs = λ t. (record { grows = c.in_ok-fill.ensures.grows; keeps = λ from m. c.in_ok-fill.ensures.means t from m; logs = λ from m. c.in_ok-fill.ensures.logs t from m; whole = g.met.E.Engine.told_whole _; full = g.met.E.Engine.full_failed _; now = λ from m. g.met.E.Engine.now_is _ t from m; now' = λ from m. g.met.E.Engine.now_is _ t from m; law = λ from m. g.met.E.Engine.lawful _ t from m }); range = c.in_ok-fill.ensures.range; some = g.met.E.Engine.some c.args.self.now.engine; wide = λ t from m. g.met.E.Engine.bands_whole _ t from m }) (omega arith) told);
      there = λ told. let below = slice_get_within s.maps.bands c.take_band-b.result.0 false c.take_band-b.ensures.least.free in let w = (s.within (k.grows.counts.told told)).bands in let x = ap (λ (y : Extent). y.bands) k.grows.counts.extent in omega (arith, below, w, x);
      faults = k.grows.counts.later;
      quiet = k.grows.counts.quiet;
      free = c.take_band-b.ensures.least.free;
      few = few_band c.args.self.now.maps.bands c.take_band-b.result.0 c.band_taken.result c.band_taken.ensures (sym c.is_some.ensures ∙ c.if-is_some.false) c.take_band-b.ensures.least.free;
      bands = ap (λ (m : Maps). m.bands) k.maps ∙ c.take_band-b.ensures.bands;
      pages = ap (λ (m : Maps). m.pages) k.maps ∙ c.take_band-b.ensures.pages;
      unfreed = k.unfreed;
      rows = k.rows;
      begun = k.begun;
      begun_at = k.begun_at;
      breaks = k.breaks;
    }

pub fill-requires-in-fills-clause-band : goal.fill-requires-in-fills-clause-band
fill-requires-in-fills-clause-band g c = c.fills.invariant.few

pub fill-requires-in-fills-clause-within : goal.fill-requires-in-fills-clause-within
fill-requires-in-fills-clause-within g c = let a = c.fills.invariant.aligned in let t = c.fills-test.true in omega (arith, a.1, t)

pub fills-preserved : goal.fills-preserved
fills-preserved g c =
    let k = c.in_ok-fill-2.ensures in
    let i = c.fills.invariant in
    let s = c.args.self.now in
    let next = filling_next (g.E.Engine.view c.args.self.now.begun_at.value).now s.rows.items c.if-not-self.false (record { logs = λ t. (record { grows = c.in_ok-fill-2.ensures.grows; keeps = λ from m. c.in_ok-fill-2.ensures.means t from m; logs = λ from m. c.in_ok-fill-2.ensures.logs t from m; whole = g.met.E.Engine.told_whole _; full = g.met.E.Engine.full_failed _; now = λ from m. g.met.E.Engine.now_is _ t from m; now' = λ from m. g.met.E.Engine.now_is _ t from m; law = λ from m. g.met.E.Engine.lawful _ t from m }); range = c.in_ok-fill-2.ensures.range; some = g.met.E.Engine.some c.fills.self.engine; wide = λ t from m. g.met.E.Engine.bands_whole _ t from m }) k.actor (let t = c.fills-test.true in omega (arith, t)) i.filling in
    record {
      aligned = (let a = i.aligned in (a.0 + 1, omega (arith, a.1), (let t = c.fills-test.true in omega (arith, a.1, t)), (let f = k.grows.few in omega (arith, a.3, f))));
      filling = subst (λ (m : Maps). Filling g.E.Engine.recovers (g.E.Engine.limits (length c.args.self.now.maps.pages) (length c.args.self.now.maps.bands)) (g.E.Engine.view c.args.self.now.engine) (g.E.Engine.view c.fill-in-fills.new.self.engine) (g.E.Engine.means c.args.self.now.engine) (g.E.Engine.means c.fill-in-fills.new.self.engine) (g.E.Engine.view c.args.self.now.begun_at.value).now s.maps m s.rows.items s.actor c.fill-in-fills.new.self.actor s.begun c.take_band-b.result.0 (c.fills.at + 8192)) (sym k.maps) next;
      opens = λ n e told. opens_next n e (λ j same. i.opens j same (k.grows.counts.told told)) (opens_one {actor = c.fills.self.actor} (record { logs = λ t. (record { grows = c.in_ok-fill-2.ensures.grows; keeps = λ from m. c.in_ok-fill-2.ensures.means t from m; logs = λ from m. c.in_ok-fill-2.ensures.logs t from m; whole = g.met.E.Engine.told_whole _; full = g.met.E.Engine.full_failed _; now = λ from m. g.met.E.Engine.now_is _ t from m; now' = λ from m. g.met.E.Engine.now_is _ t from m; law = λ from m. g.met.E.Engine.lawful _ t from m }); range = c.in_ok-fill-2.ensures.range; some = g.met.E.Engine.some c.fills.self.engine; wide = λ t from m. g.met.E.Engine.bands_whole _ t from m }) (let t = c.fills-test.true in omega (arith, t)) told);
      there = λ told. let b = i.there (k.grows.counts.told told) in let x = ap (λ (y : Extent). y.bands) k.grows.counts.extent in omega (arith, b, x);
      faults = omega (arith, i.faults, k.grows.counts.later);
      quiet = k.grows.counts.quiet ∙ i.quiet;
      free = i.free;
      few = i.few;
      bands = ap (λ (m : Maps). m.bands) k.maps ∙ i.bands;
      pages = ap (λ (m : Maps). m.pages) k.maps ∙ i.pages;
      unfreed = k.unfreed ∙ i.unfreed;
      rows = k.rows ∙ i.rows;
      begun = k.begun ∙ i.begun;
      begun_at = k.begun_at ∙ i.begun_at;
      breaks = k.breaks ∙ i.breaks;
    }

pub returns : goal.returns
returns g c =
    let i = c.fills.invariant in
    let e = (g.E.Engine.view c.args.self.now.engine) in
    let e1 = (g.E.Engine.view c.fills.self.engine) in
    let s = c.args.self.now in
    let l' = g.E.Engine.limits (length c.fills.self.maps.pages) (length c.fills.self.maps.bands) in
    let pages = ap length i.pages in
    let bands = ap length i.bands ∙ length-set s.maps.bands c.take_band-b.result.0 true in
    let took = shows_take_band (g.E.Engine.limits (length c.args.self.now.maps.pages) (length c.args.self.now.maps.bands)) l' e e1 (g.E.Engine.view c.args.self.now.begun_at.value).now s.breaks s.maps c.fills.self.maps s.unfreed c.take_band-b.result.0 c.fills.at (λ j. g.E.Engine.limits (pages j) (bands j)) s.band_flags i.free i.bands i.pages (λ told. (c.requires told).may) (let f = c.fills-test.false in omega (arith, f))
    (λ told. wide_any e1 _ (g.met.E.Engine.some c.fills.self.engine told) (λ t from m. g.met.E.Engine.bands_whole _ t from m told)) i.filling in
    let later = λ (u : Table).
    subst (λ (rs : List Row). Later g.E.Engine.recovers (g.E.Engine.limits (length c.args.self.now.maps.pages) (length c.args.self.now.maps.bands)) u (moment (g.E.Engine.view c.args.self.now.engine) (g.E.Engine.means c.args.self.now.engine) (g.E.Engine.view c.args.self.now.begun_at.value).now c.args.self.now.maps c.args.self.now.rows.items c.args.self.now.actor c.args.self.now.begun) (moment (g.E.Engine.view c.fills.self.engine) (g.E.Engine.means c.fills.self.engine) (g.E.Engine.view c.fills.self.begun_at.value).now c.fills.self.maps rs c.fills.self.actor c.fills.self.begun)) (sym i.rows)
    (subst (λ (b : Bool). Later g.E.Engine.recovers (g.E.Engine.limits (length c.args.self.now.maps.pages) (length c.args.self.now.maps.bands)) u (moment (g.E.Engine.view c.args.self.now.engine) (g.E.Engine.means c.args.self.now.engine) (g.E.Engine.view c.args.self.now.begun_at.value).now c.args.self.now.maps c.args.self.now.rows.items c.args.self.now.actor c.args.self.now.begun) (moment (g.E.Engine.view c.fills.self.engine) (g.E.Engine.means c.fills.self.engine) (g.E.Engine.view c.fills.self.begun_at.value).now c.fills.self.maps c.args.self.now.rows.items c.fills.self.actor b)) (sym i.begun)
    (subst (λ (x : Snapshot g.row.E.Denot). Later g.E.Engine.recovers (g.E.Engine.limits (length c.args.self.now.maps.pages) (length c.args.self.now.maps.bands)) u (moment (g.E.Engine.view c.args.self.now.engine) (g.E.Engine.means c.args.self.now.engine) (g.E.Engine.view c.args.self.now.begun_at.value).now c.args.self.now.maps c.args.self.now.rows.items c.args.self.now.actor c.args.self.now.begun) (moment (g.E.Engine.view c.fills.self.engine) (g.E.Engine.means c.fills.self.engine) (g.E.Engine.view x.value).now c.fills.self.maps c.args.self.now.rows.items c.fills.self.actor c.args.self.now.begun)) (sym i.begun_at)
    (i.filling.later u))) in
    record {
      counts = record { told = i.filling.back; later = omega (arith, i.faults, i.breaks); quiet = omega (arith, i.quiet, i.breaks); disk = tt; log_end = tt };
      few = let a = i.aligned in omega (arith, a.2, a.3);
      means = λ t. by_later (later t);
      did =
          subst (λ (q : Bool). TookBand (acts_view (g.E.Engine.limits (length c.args.self.now.maps.pages) (length c.args.self.now.maps.bands)) e s.begun (g.E.Engine.view c.args.self.now.begun_at.value).now s.breaks s.maps s.unfreed) (acts_view l' e1 q (g.E.Engine.view c.fills.self.begun_at.value).now c.fills.self.breaks c.fills.self.maps c.fills.self.unfreed) c.take_band-b.result.0) (sym i.begun)
          (subst (λ (n : ℕ). TookBand (acts_view (g.E.Engine.limits (length c.args.self.now.maps.pages) (length c.args.self.now.maps.bands)) e s.begun (g.E.Engine.view c.args.self.now.begun_at.value).now s.breaks s.maps s.unfreed) (acts_view l' e1 s.begun (g.E.Engine.view c.fills.self.begun_at.value).now n c.fills.self.maps c.fills.self.unfreed) c.take_band-b.result.0) (sym i.breaks)
          (subst (λ (m : Maps). TookBand (acts_view (g.E.Engine.limits (length c.args.self.now.maps.pages) (length c.args.self.now.maps.bands)) e s.begun (g.E.Engine.view c.args.self.now.begun_at.value).now s.breaks s.maps s.unfreed) (acts_view l' e1 s.begun (g.E.Engine.view c.fills.self.begun_at.value).now s.breaks c.fills.self.maps m) c.take_band-b.result.0) (sym i.unfreed)
          (subst (λ (x : Snapshot g.row.E.Denot). TookBand (acts_view (g.E.Engine.limits (length c.args.self.now.maps.pages) (length c.args.self.now.maps.bands)) e s.begun (g.E.Engine.view c.args.self.now.begun_at.value).now s.breaks s.maps s.unfreed) (acts_view l' e1 s.begun (g.E.Engine.view x.value).now s.breaks c.fills.self.maps s.unfreed) c.take_band-b.result.0) (sym i.begun_at) took)));
      later = λ u. strictly (later u) (λ from m told k w j.
          let gone = ((later u).goes from m told k).gone w in
          let four : c.fills.at ≡ 8192 * 4 = (let z = i.aligned in let f = c.fills-test.false in omega (arith, z.1, z.2, f)) in
          subst (λ (q : Kept). KeepsBands u q (opened e1.steps) c.fills.self.maps.bands) (sym gone.same)
          (subst (λ (ds : List Change). KeepsBands u (kept_of (g.E.Engine.limits (length s.maps.pages) (length s.maps.bands)) s.maps.pages s.maps.bands (begin_of u from e.steps) (opened e.steps)) ds c.fills.self.maps.bands) (sym (i.opens 4 four gone.told))
          (bands_taken c.take_band-b.result.0 (g.met.E.Engine.lawful _ u from m.stands) i.free i.bands j)));
    }

pub returns-then-not-self-clause-later : goal.returns-then-not-self-clause-later
returns-then-not-self-clause-later g c = λ t. later_same {strict = true} g.E.Engine.recovers (g.E.Engine.limits (length c.args.self.now.maps.pages) (length c.args.self.now.maps.bands)) t _ (g.met.E.Engine.told_whole _) (λ from m told. g.met.E.Engine.images _ t from m.stands told)

pub returns-then-is_some-clause-later : goal.returns-then-is_some-clause-later
returns-then-is_some-clause-later g c = λ t. later_same {strict = true} g.E.Engine.recovers (g.E.Engine.limits (length c.args.self.now.maps.pages) (length c.args.self.now.maps.bands)) t _ (g.met.E.Engine.told_whole _) (λ from m told. g.met.E.Engine.images _ t from m.stands told)

pub returns-in_err-fill-clause-later : goal.returns-in_err-fill-clause-later
returns-in_err-fill-clause-later g c = λ (u : Table). failed_strictly c.in_err-fill.ensures.grows.counts.failed (subst (λ (rs : List Row). Later g.E.Engine.recovers (g.E.Engine.limits (length c.args.self.now.maps.pages) (length c.args.self.now.maps.bands)) u (moment (g.E.Engine.view c.args.self.now.engine) (g.E.Engine.means c.args.self.now.engine) (g.E.Engine.view c.args.self.now.begun_at.value).now c.args.self.now.maps c.args.self.now.rows.items c.args.self.now.actor c.args.self.now.begun) (moment (g.E.Engine.view c.fill.new.self.engine) (g.E.Engine.means c.fill.new.self.engine) (g.E.Engine.view c.fill.new.self.begun_at.value).now c.fill.new.self.maps rs c.fill.new.self.actor c.fill.new.self.begun)) (sym c.in_err-fill.ensures.rows)
    (subst (λ (b : Bool). Later g.E.Engine.recovers (g.E.Engine.limits (length c.args.self.now.maps.pages) (length c.args.self.now.maps.bands)) u (moment (g.E.Engine.view c.args.self.now.engine) (g.E.Engine.means c.args.self.now.engine) (g.E.Engine.view c.args.self.now.begun_at.value).now c.args.self.now.maps c.args.self.now.rows.items c.args.self.now.actor c.args.self.now.begun) (moment (g.E.Engine.view c.fill.new.self.engine) (g.E.Engine.means c.fill.new.self.engine) (g.E.Engine.view c.fill.new.self.begun_at.value).now c.fill.new.self.maps c.args.self.now.rows.items c.fill.new.self.actor b)) (sym c.in_err-fill.ensures.begun)
    (subst (λ (x : Snapshot g.row.E.Denot). Later g.E.Engine.recovers (g.E.Engine.limits (length c.args.self.now.maps.pages) (length c.args.self.now.maps.bands)) u (moment (g.E.Engine.view c.args.self.now.engine) (g.E.Engine.means c.args.self.now.engine) (g.E.Engine.view c.args.self.now.begun_at.value).now c.args.self.now.maps c.args.self.now.rows.items c.args.self.now.actor c.args.self.now.begun) (moment (g.E.Engine.view c.fill.new.self.engine) (g.E.Engine.means c.fill.new.self.engine) (g.E.Engine.view x.value).now c.fill.new.self.maps c.args.self.now.rows.items c.fill.new.self.actor c.args.self.now.begun)) (sym c.in_err-fill.ensures.begun_at)
    (first_later (g.E.Engine.view c.args.self.now.begun_at.value).now c.args.self.now.rows.items c.if-not-self.false (record { logs = λ t. (record { grows = c.in_err-fill.ensures.grows; keeps = λ from m. c.in_err-fill.ensures.means t from m; logs = λ from m. c.in_err-fill.ensures.logs t from m; whole = g.met.E.Engine.told_whole _; full = g.met.E.Engine.full_failed _; now = λ from m. g.met.E.Engine.now_is _ t from m; now' = λ from m. g.met.E.Engine.now_is _ t from m; law = λ from m. g.met.E.Engine.lawful _ t from m }); range = c.in_err-fill.ensures.range; some = g.met.E.Engine.some c.args.self.now.engine; wide = λ t from m. g.met.E.Engine.bands_whole _ t from m }) tt (first_in (g.E.Engine.limits (length c.args.self.now.maps.pages) (length c.args.self.now.maps.bands)) (g.E.Engine.view c.args.self.now.engine) c.args.self.now.maps c.fill.new.self.maps c.take_band-b.result.0 c.take_band-b.ensures.least.free (ap (λ (m : Maps). m.bands) c.in_err-fill.ensures.maps ∙ c.take_band-b.ensures.bands) (ap (λ (m : Maps). m.pages) c.in_err-fill.ensures.maps ∙ c.take_band-b.ensures.pages)) u))))

pub returns-in_err-fill-clause-means : goal.returns-in_err-fill-clause-means
returns-in_err-fill-clause-means g c = λ (u : Table). by_later (returns-in_err-fill-clause-later g c u)

pub returns-in_err-fill-2-clause-later : goal.returns-in_err-fill-2-clause-later
returns-in_err-fill-2-clause-later g c = λ (u : Table). let k = c.in_err-fill-2.ensures in
    let i = c.fills.invariant in
    failed_strictly k.grows.counts.failed (subst (λ (m : Maps). Later g.E.Engine.recovers (g.E.Engine.limits (length c.args.self.now.maps.pages) (length c.args.self.now.maps.bands)) u (moment (g.E.Engine.view c.args.self.now.engine) (g.E.Engine.means c.args.self.now.engine) (g.E.Engine.view c.args.self.now.begun_at.value).now c.args.self.now.maps c.args.self.now.rows.items c.args.self.now.actor c.args.self.now.begun) (moment (g.E.Engine.view c.fill-in-fills.new.self.engine) (g.E.Engine.means c.fill-in-fills.new.self.engine) (g.E.Engine.view c.fill-in-fills.new.self.begun_at.value).now m c.fill-in-fills.new.self.rows.items c.fill-in-fills.new.self.actor c.fill-in-fills.new.self.begun)) (sym k.maps)
    (subst (λ (rs : List Row). Later g.E.Engine.recovers (g.E.Engine.limits (length c.args.self.now.maps.pages) (length c.args.self.now.maps.bands)) u (moment (g.E.Engine.view c.args.self.now.engine) (g.E.Engine.means c.args.self.now.engine) (g.E.Engine.view c.args.self.now.begun_at.value).now c.args.self.now.maps c.args.self.now.rows.items c.args.self.now.actor c.args.self.now.begun) (moment (g.E.Engine.view c.fill-in-fills.new.self.engine) (g.E.Engine.means c.fill-in-fills.new.self.engine) (g.E.Engine.view c.fill-in-fills.new.self.begun_at.value).now c.fills.self.maps rs c.fill-in-fills.new.self.actor c.fill-in-fills.new.self.begun)) (sym (k.rows ∙ i.rows))
    (subst (λ (b : Bool). Later g.E.Engine.recovers (g.E.Engine.limits (length c.args.self.now.maps.pages) (length c.args.self.now.maps.bands)) u (moment (g.E.Engine.view c.args.self.now.engine) (g.E.Engine.means c.args.self.now.engine) (g.E.Engine.view c.args.self.now.begun_at.value).now c.args.self.now.maps c.args.self.now.rows.items c.args.self.now.actor c.args.self.now.begun) (moment (g.E.Engine.view c.fill-in-fills.new.self.engine) (g.E.Engine.means c.fill-in-fills.new.self.engine) (g.E.Engine.view c.fill-in-fills.new.self.begun_at.value).now c.fills.self.maps c.args.self.now.rows.items c.fill-in-fills.new.self.actor b)) (sym (k.begun ∙ i.begun))
    (subst (λ (x : Snapshot g.row.E.Denot). Later g.E.Engine.recovers (g.E.Engine.limits (length c.args.self.now.maps.pages) (length c.args.self.now.maps.bands)) u (moment (g.E.Engine.view c.args.self.now.engine) (g.E.Engine.means c.args.self.now.engine) (g.E.Engine.view c.args.self.now.begun_at.value).now c.args.self.now.maps c.args.self.now.rows.items c.args.self.now.actor c.args.self.now.begun) (moment (g.E.Engine.view c.fill-in-fills.new.self.engine) (g.E.Engine.means c.fill-in-fills.new.self.engine) (g.E.Engine.view x.value).now c.fills.self.maps c.args.self.now.rows.items c.fill-in-fills.new.self.actor c.args.self.now.begun)) (sym (k.begun_at ∙ i.begun_at))
    (next_later (g.E.Engine.view c.args.self.now.begun_at.value).now c.args.self.now.rows.items c.if-not-self.false (record { logs = λ t. (record { grows = c.in_err-fill-2.ensures.grows; keeps = λ from m. c.in_err-fill-2.ensures.means t from m; logs = λ from m. c.in_err-fill-2.ensures.logs t from m; whole = g.met.E.Engine.told_whole _; full = g.met.E.Engine.full_failed _; now = λ from m. g.met.E.Engine.now_is _ t from m; now' = λ from m. g.met.E.Engine.now_is _ t from m; law = λ from m. g.met.E.Engine.lawful _ t from m }); range = c.in_err-fill-2.ensures.range; some = g.met.E.Engine.some c.fills.self.engine; wide = λ t from m. g.met.E.Engine.bands_whole _ t from m }) tt i.filling u)))))

pub returns-in_err-fill-2-clause-means : goal.returns-in_err-fill-2-clause-means
returns-in_err-fill-2-clause-means g c = λ (u : Table). by_later (returns-in_err-fill-2-clause-later g c u)

pub fill-requires-clause-there : goal.fill-requires-clause-there
fill-requires-clause-there g c = λ told. let below = slice_get_within c.args.self.now.maps.bands c.take_band-b.result.0 false c.take_band-b.ensures.least.free in let w = (c.args.self.now.within told).bands in omega (arith, below, w)

pub fill-requires-in-fills-clause-there : goal.fill-requires-in-fills-clause-there
fill-requires-in-fills-clause-there g c = c.fills.invariant.there

pub invariant_of-self-then-is_some-clause-unbroken : goal.invariant_of-self-then-is_some-clause-unbroken
invariant_of-self-then-is_some-clause-unbroken g c = λ told. absurd (none_behind c.args.self.now.maps.pages c.args.self.now.maps.bands _ c.band_taken.result (c.args.self.now.within told) (g.met.E.Engine.few_bands _ told) c.band_taken.ensures (sym c.is_some.ensures ∙ c.if-is_some.true))

pub returns-then-not-self-clause-counts : goal.returns-then-not-self-clause-counts
returns-then-not-self-clause-counts g c = record { told = λ t. t; later = omega arith; quiet = tt; disk = λ d. absurd (let e : LogEnd ≡ Disk = d in cc); log_end = λ z. inr c.if-not-self.true }

pub fill-requires-clause-begun : goal.fill-requires-clause-begun
fill-requires-clause-begun g c = c.if-not-self.false

pub fill-requires-in-fills-clause-begun : goal.fill-requires-in-fills-clause-begun
fill-requires-in-fills-clause-begun g c = c.fills.invariant.begun ∙ c.if-not-self.false
