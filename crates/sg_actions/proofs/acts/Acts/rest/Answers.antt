use Rattle.std.proofs.Common.{subst, sym, List, Bool}
use Rattle.sg_actions.specs.Calls.{AreSettled}
use Rattle.sg_actions.specs.Engine.{led}
use Rattle.sg_actions.proofs.AtRest.{kept_rest}
use Rattle.sg_actions.proofs.Settled.{said_settled}
use Rattle.sg_actions.proofs.acts.Acts.rest.Goals as goal

pub invariant_of-self-clause-pages_said : goal.invariant_of-self-clause-pages_said
invariant_of-self-clause-pages_said g c = λ told. said_settled c.args.self.now.maps.pages c.args.self.now.unfreed.pages c.settle_pages.new.maps.pages c.settle_pages.new.unfreed.pages c.settle_bands.new.maps.pages (g.E.Engine.view c.args.self.now.engine).now.pages c.settle_pages.ensures.pages c.settle_bands.ensures.pages (c.args.self.now.pages_said told)

pub invariant_of-self-clause-unbroken : goal.invariant_of-self-clause-unbroken
invariant_of-self-clause-unbroken g c = λ told. c.args.self.now.unbroken told

pub returns-clause-kept : goal.returns-clause-kept
returns-clause-kept g c = λ limits t from m told idle k.
    let maps = c.args.self.now.maps in
    let unfreed = c.args.self.now.unfreed in
    let pages = subst (λ (xs : List Bool). AreSettled maps.pages unfreed.pages xs c.settle_bands.new.unfreed.pages) (sym c.settle_bands.ensures.pages)
    (subst (λ (ys : List Bool). AreSettled maps.pages unfreed.pages c.settle_pages.new.maps.pages ys) (sym c.settle_bands.ensures.unfreed) c.settle_pages.ensures.pages) in
    kept_rest t (g.met.E.Engine.lawful _ t from m) limits (led from (g.E.Engine.view c.args.self.now.engine)) maps c.settle_bands.new.maps unfreed c.settle_bands.new.unfreed c.args.self.now.rows.items _ c.args.self.now.actor c.keep_row.ensures pages idle k
