use Rattle.std.proofs.Common.{◌≡◌, List, Bool, length, sym, ap, subst, ◌∙◌, arith, true, false}
use Rattle.std.specs.Prelude.{IfSome}
use Rattle.sg_space.proofs.Firsts.{length-free}
use Rattle.sg_actions.specs.declared.rows.Actor.{Actor}
use Rattle.sg_actions.specs.declared.rows.Row.{Row}
use Rattle.sg_alloc.specs.Flags.{free_of}
use Rattle.sg_alloc.specs.declared.maps.Maps.{Maps}
use Rattle.sg_shown.specs.Shown.{over}
use Rattle.sg_regained.specs.Regained.{AreRowsOf}
use Rattle.sg_regained.proofs.Made.{IsAnalysed, as_found}
use Rattle.sg_regained.proofs.founding.found.Goals as goal

pub of_parts-acts-requires-clause-within : goal.of_parts-acts-requires-clause-within
of_parts-acts-requires-clause-within g c = λ told.
    let w = c.requires.within told in
    let p : length c.in-Ok.maps.pages ≡ c.args.pages = ap (λ (xs : List Bool). length xs) c.in-Ok.ensures.pages ∙ length-free c.args.pages in
    let b : length c.in-Ok.maps.bands ≡ c.args.bands = ap (λ (xs : List Bool). length xs) c.in-Ok.ensures.bands ∙ length-free c.args.bands in
    record { pages = (let x = w.0 in omega (arith, p, x)); bands = (let x = w.1 in omega (arith, b, x)) }

pub returns-clause-made : goal.returns-clause-made
returns-clause-made g c = λ told.
    let o = c.of_parts-acts.ensures in
    let losers = c.args.analysis.now.losers in
    let un = c.args.analysis.now.unfinished in
    let known : IsAnalysed (g.E.Engine.view c.args.engine) (g.E.Engine.first_byte c.args.engine) losers un = record {
      formed = c.requires.formed told;
      below = c.requires.below told;
      based = c.requires.based told;
      start = c.requires.start told;
      lost = c.requires.losers told;
      unfinished = c.requires.unfinished told;
    } in
    as_found (over c.of_parts-acts.result) losers un c.args.pages
    (subst (λ e. IsAnalysed (g.E.Engine.view e) (g.E.Engine.first_byte e) losers un) (sym o.engine) known)
    (ap (λ (m : Maps). m.pages) o.maps ∙ c.in-Ok.ensures.pages)
    (record { pages = ap (λ (m : Maps). free_of m.pages) o.unfreed ∙ c.in-Ok-all_set.ensures.pages.1; bands = ap (λ (m : Maps). free_of m.bands) o.unfreed ∙ c.in-Ok-all_set.ensures.bands.1 })
    (subst (λ (rows : List Row). AreRowsOf losers rows) (sym (ap (λ v. v.items) o.rows)) c.in-Ok-rows_of.ensures)
    (subst (λ (a : Actor). IfSome un (λ p. (a.txn ≡ p.0) × (a.last ≡ p.1))) (sym o.actor) c.actor_of.ensures.some)
    (λ e. o.actor ∙ c.actor_of.ensures.none e)
    o.begun

pub of_parts-acts-requires-clause-goes_on : goal.of_parts-acts-requires-clause-goes_on
of_parts-acts-requires-clause-goes_on g c = λ opens. absurd (let bad : false ≡ true = opens in cc)
