use Rattle.std.proofs.Common.{true, sym, ap, ◌∙◌, refl, length}
use Rattle.std.proofs.lemmas.Result.{err_from_is_err_and}
use Rattle.sg_ops.specs.Table.{Table}
use Rattle.sg_actions.proofs.Accounting.{within_by}
use Rattle.sg_actions.proofs.Calling.{LooksBy, later_look, same_any, said_any}
use Rattle.sg_actions.proofs.Flags.{at_there, and_left}
use Rattle.sg_actions.proofs.Led.{by_later}
use Rattle.sg_actions.proofs.Looking.{looks_ok, looks_err_is, none_looked}
use Rattle.sg_actions.proofs.Untold.{none_there}
use Rattle.sg_actions.proofs.GoingOn.{can_look}
use Rattle.sg_actions.proofs.acts.ActsPageSpace.page.Goals as goal

pub invariant_of-self-2-clause-pages_said : goal.invariant_of-self-2-clause-pages_said
invariant_of-self-2-clause-pages_said g c =
    let k = c.load.ensures in
    said_any c.args.self.now.maps.pages (g.met.E.Engine.some c.args.self.now.engine)
    (λ t. record { rests = k.rests; keeps = λ from m. k.means t from m; looks = λ from m. k.looks t from m; whole = g.met.E.Engine.told_whole _; full = g.met.E.Engine.full_failed _; now = λ from m. g.met.E.Engine.now_is _ t from m; now' = λ from m. g.met.E.Engine.now_is _ t from m })
    k.rests.counts.told c.args.self.now.pages_said

pub invariant_of-self-2-clause-within : goal.invariant_of-self-2-clause-within
invariant_of-self-2-clause-within g c = within_by c.load.ensures.rests.counts c.args.self.now.within

pub invariant_of-self-2-clause-unbroken : goal.invariant_of-self-2-clause-unbroken
invariant_of-self-2-clause-unbroken g c = λ told. c.args.self.now.unbroken (c.load.ensures.rests.counts.told told)

pub returns : goal.returns
returns g c =
    let s = c.args.self.now in
    let limits = g.E.Engine.limits (length s.maps.pages) (length s.maps.bands) in
    let begin = (g.E.Engine.view s.begun_at.value).now in
    let e = g.E.Engine.view s.engine in
    let e' = g.E.Engine.view c.load.new.self in
    let k = c.load.ensures in
    let by : (t : Table) → LooksBy g.E.Engine.recovers t e e' (g.E.Engine.means s.engine) (g.E.Engine.means c.load.new.self) c.load.result = λ t. record { rests = k.rests; keeps = λ from m. k.means t from m; looks = λ from m. k.looks t from m; whole = g.met.E.Engine.told_whole _; full = g.met.E.Engine.full_failed _; now = λ from m. g.met.E.Engine.now_is _ t from m; now' = λ from m. g.met.E.Engine.now_is _ t from m } in
    let later = λ (t : Table). later_look {strict = true} g.E.Engine.recovers limits t e e' (g.E.Engine.means s.engine) (g.E.Engine.means c.load.new.self) begin s.maps s.rows.items s.actor s.begun _ (by t) in
    let same = λ (told : e.Told). same_any (g.met.E.Engine.some s.engine) by told (c.in_ok-load.ensures.rests.counts.tells told) in (
      (refl, λ s. tt, looks_ok limits e e' begin s.breaks s.maps s.unfreed _ _ _ c.page.result c.in_ok-load.ensures.rests same later (λ t. by_later (later t))),
      record {
        looked = λ told. at_there s.maps.pages s.unfreed.pages e.now.pages c.args.p.0 (sym c.if-not-has_page.ensures) ∙ (ap (λ x. x.pages c.args.p.0) (sym (same told).now) ∙ c.page.ensures);
        after = tt;
      },
    )

pub returns-in_err-load : goal.returns-in_err-load
returns-in_err-load g c =
    let s = c.args.self.now in
    let limits = g.E.Engine.limits (length s.maps.pages) (length s.maps.bands) in
    let begin = (g.E.Engine.view s.begun_at.value).now in
    let e = g.E.Engine.view s.engine in
    let e' = g.E.Engine.view c.load.new.self in
    let k = c.in_err-load.ensures in
    let later = λ (t : Table). later_look {strict = true} g.E.Engine.recovers limits t e e' (g.E.Engine.means s.engine) (g.E.Engine.means c.load.new.self) begin s.maps s.rows.items s.actor s.begun _
    (record { rests = k.rests; keeps = λ from m. k.means t from m; looks = λ from m. k.looks t from m; whole = g.met.E.Engine.told_whole _; full = g.met.E.Engine.full_failed _; now = λ from m. g.met.E.Engine.now_is _ t from m; now' = λ from m. g.met.E.Engine.now_is _ t from m }) in
    let p = err_from_is_err_and c.from_residual.result c.from_residual.ensures.1 in (
      (refl, λ s. tt, looks_err_is limits e e' begin s.breaks s.maps s.unfreed _ _ c.from_residual.result c.in_err-load.field-0.0 p.0 p.1 p.2 k.rests later (λ t. by_later (later t))),
      record { looked = none_looked _ c.from_residual.result p.0 p.1; after = tt },
    )

pub load-requires : goal.load-requires
load-requires g c = record { there = λ told. c.args.self.now.pages_said told c.args.p.0 (and_left _ _ (sym c.if-not-has_page.ensures)) }

pub invariant_of-self-clause-unbroken : goal.invariant_of-self-clause-unbroken
invariant_of-self-clause-unbroken g c = λ told. absurd (none_there c.args.self.now.maps.pages c.args.self.now.unfreed.pages (g.E.Engine.view c.args.self.now.engine).now.pages c.args.p.0 (sym c.if-not-has_page.ensures) (c.requires told))

pub invariant_of-self-2-clause-goes_on : goal.invariant_of-self-2-clause-goes_on
invariant_of-self-2-clause-goes_on g c = can_look c.args.self.now.begun c.args.self.now.actor (g.met.E.Engine.some c.args.self.now.engine) (λ t. (record { rests = c.load.ensures.rests; keeps = λ from m. c.load.ensures.means t from m; looks = λ from m. c.load.ensures.looks t from m; whole = g.met.E.Engine.told_whole _; full = g.met.E.Engine.full_failed _; now = λ from m. g.met.E.Engine.now_is _ t from m; now' = λ from m. g.met.E.Engine.now_is _ t from m })) c.args.self.now.goes_on
