use Rattle.std.proofs.Common.{true, Some, sym, ap, ◌∙◌, refl, length}
use Rattle.std.proofs.lemmas.Result.{err_from_is_err_and}
use Rattle.sg_ops.specs.Table.{Table}
use Rattle.sg_actions.proofs.Accounting.{within_by}
use Rattle.sg_actions.proofs.Calling.{LooksBy, later_look, same_any, said_any}
use Rattle.sg_actions.proofs.Flags.{at_there}
use Rattle.sg_actions.proofs.Led.{by_later}
use Rattle.sg_actions.proofs.Looking.{looks_ok, looks_err_is, none_looked}
use Rattle.sg_actions.proofs.Untold.{none_there}
use Rattle.sg_actions.proofs.GoingOn.{can_look}
use Rattle.sg_actions.proofs.acts.ActsPageSpace.band.Goals as goal

pub invariant_of-self-2-clause-pages_said : goal.invariant_of-self-2-clause-pages_said
invariant_of-self-2-clause-pages_said g c = said_any c.args.self.now.maps.pages (g.met.E.Engine.some c.args.self.now.engine) (λ t. (record { rests = c.load_band.ensures.rests; keeps = λ from m. c.load_band.ensures.means t from m; looks = λ from m. c.load_band.ensures.looks t from m; whole = g.met.E.Engine.told_whole _; full = g.met.E.Engine.full_failed _; now = λ from m. g.met.E.Engine.now_is _ t from m; now' = λ from m. g.met.E.Engine.now_is _ t from m })) c.load_band.ensures.rests.counts.told c.args.self.now.pages_said

pub invariant_of-self-2-clause-within : goal.invariant_of-self-2-clause-within
invariant_of-self-2-clause-within g c = within_by c.load_band.ensures.rests.counts c.args.self.now.within

pub invariant_of-self-2-clause-unbroken : goal.invariant_of-self-2-clause-unbroken
invariant_of-self-2-clause-unbroken g c = λ told. c.args.self.now.unbroken (c.load_band.ensures.rests.counts.told told)

pub returns : goal.returns
returns g c =
    let s = c.args.self.now in
    let e = (g.E.Engine.view s.engine) in
    let e' = (g.E.Engine.view c.load_band.new.self) in
    let k = c.load_band.ensures in
    let by : (t : Table) → LooksBy g.E.Engine.recovers t e e' (g.E.Engine.means s.engine) (g.E.Engine.means c.load_band.new.self) c.load_band.result = λ t. (record { rests = k.rests; keeps = λ from m. k.means t from m; looks = λ from m. k.looks t from m; whole = g.met.E.Engine.told_whole _; full = g.met.E.Engine.full_failed _; now = λ from m. g.met.E.Engine.now_is _ t from m; now' = λ from m. g.met.E.Engine.now_is _ t from m }) in
    let later = λ (t : Table). later_look {strict = true} g.E.Engine.recovers (g.E.Engine.limits (length c.args.self.now.maps.pages) (length c.args.self.now.maps.bands)) t e e' (g.E.Engine.means s.engine) (g.E.Engine.means c.load_band.new.self) (g.E.Engine.view c.args.self.now.begun_at.value).now s.maps s.rows.items s.actor s.begun _ (by t) in
    let same = λ (told : e.Told). same_any (g.met.E.Engine.some s.engine) by told (c.in_ok-load_band.ensures.rests.counts.tells told) in (
      (refl, λ s. tt, looks_ok (g.E.Engine.limits (length c.args.self.now.maps.pages) (length c.args.self.now.maps.bands)) e e' (g.E.Engine.view c.args.self.now.begun_at.value).now s.breaks s.maps s.unfreed _ _ _ c.band.result c.in_ok-load_band.ensures.rests same later (λ t. by_later (later t))),
      record {
        looked = λ told. at_there s.maps.bands s.unfreed.bands (λ n. Some (e.now.bands n)) c.args.b.0 (sym c.if-not-has_band.ensures) ∙ ap Some (ap (λ x. x.bands c.args.b.0) (sym (same told).now) ∙ c.band.ensures.looked);
        size = c.band.ensures.size;
        after = tt;
      },
    )

pub returns-in_err-load_band : goal.returns-in_err-load_band
returns-in_err-load_band g c =
    let s = c.args.self.now in
    let later = λ (t : Table). (later_look {strict = true} g.E.Engine.recovers (g.E.Engine.limits (length c.args.self.now.maps.pages) (length c.args.self.now.maps.bands)) t (g.E.Engine.view c.args.self.now.engine) (g.E.Engine.view c.load_band.new.self) (g.E.Engine.means c.args.self.now.engine) (g.E.Engine.means c.load_band.new.self) (g.E.Engine.view c.args.self.now.begun_at.value).now c.args.self.now.maps c.args.self.now.rows.items c.args.self.now.actor c.args.self.now.begun _ (record { rests = c.in_err-load_band.ensures.rests; keeps = λ from m. c.in_err-load_band.ensures.means t from m; looks = λ from m. c.in_err-load_band.ensures.looks t from m; whole = g.met.E.Engine.told_whole _; full = g.met.E.Engine.full_failed _; now = λ from m. g.met.E.Engine.now_is _ t from m; now' = λ from m. g.met.E.Engine.now_is _ t from m })) in
    let p = err_from_is_err_and c.from_residual.result c.from_residual.ensures.1 in (
      (refl, λ s. tt, looks_err_is (g.E.Engine.limits (length c.args.self.now.maps.pages) (length c.args.self.now.maps.bands)) (g.E.Engine.view s.engine) (g.E.Engine.view c.load_band.new.self) (g.E.Engine.view c.args.self.now.begun_at.value).now s.breaks s.maps s.unfreed _ _ c.from_residual.result c.in_err-load_band.field-0.0 p.0 p.1 p.2 c.in_err-load_band.ensures.rests later (λ t. by_later (later t))),
      record { looked = none_looked _ c.from_residual.result p.0 p.1; size = none_looked _ c.from_residual.result p.0 p.1; after = tt },
    )

pub invariant_of-self-clause-unbroken : goal.invariant_of-self-clause-unbroken
invariant_of-self-clause-unbroken g c = λ told. absurd (none_there c.args.self.now.maps.bands c.args.self.now.unfreed.bands (λ n. Some ((g.E.Engine.view c.args.self.now.engine).now.bands n)) c.args.b.0 (sym c.if-not-has_band.ensures) (c.requires told))

pub invariant_of-self-2-clause-goes_on : goal.invariant_of-self-2-clause-goes_on
invariant_of-self-2-clause-goes_on g c = can_look c.args.self.now.begun c.args.self.now.actor (g.met.E.Engine.some c.args.self.now.engine) (λ t. (record { rests = c.load_band.ensures.rests; keeps = λ from m. c.load_band.ensures.means t from m; looks = λ from m. c.load_band.ensures.looks t from m; whole = g.met.E.Engine.told_whole _; full = g.met.E.Engine.full_failed _; now = λ from m. g.met.E.Engine.now_is _ t from m; now' = λ from m. g.met.E.Engine.now_is _ t from m })) c.args.self.now.goes_on
