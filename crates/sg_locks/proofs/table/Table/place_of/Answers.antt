use Rattle.std.proofs.Common.{sym, ap, ◌∙◌, map, take, arith, length}
use Rattle.std.specs.Option.{option_or}
use Rattle.std.proofs.lemmas.List.{take_all}
use Rattle.sg_serial.specs.Locks.{is_pair}
use Rattle.sg_model.specs.Touches.{same_resource}
use Rattle.sg_model.specs.Resources.{shown_resource}
use Rattle.sg_locks.specs.declared.table.Chain.TheVariants as chains
use Rattle.sg_locks.specs.Chain.{is_on}
use Rattle.sg_locks.specs.Places.{first_place, last_place}
use Rattle.sg_locks.specs.Shown.{shown_hold}
use Rattle.sg_locks.proofs.OnChain.{step_within, step_on, place_on, place_done, nearer, pair_on}
use Rattle.sg_locks.proofs.Places.{none_found}
use Rattle.sg_locks.proofs.table.Table.place_of.Goals as goal

pub loop-at-init : goal.loop-at-init
loop-at-init c =
    let items = c.args.self.now.holds.items in
    let whole = take_all (length items) items (omega arith) in (
      length items,
      c.last-at.ensures ∙ ap (λ xs. last_place (is_on (chains.Resource c.args.buckets.resource)) (map shown_hold xs)) (sym whole),
      none_found (first_place (is_pair same_resource c.args.t.0 (shown_resource c.args.what.now)) (map shown_hold (take (length items) items)))
          ∙ ap (λ xs. first_place (is_pair same_resource c.args.t.0 (shown_resource c.args.what.now)) (map shown_hold xs)) whole,
    )

pub index-requires : goal.index-requires
index-requires c =
    let e = step_within (chains.Resource c.args.buckets.resource) c.args.self.now.holds.items c.loop-at.invariant.0 c.in-Some.place (sym c.loop-at.invariant.1 ∙ c.in-Some.is) in
    omega (arith, e, c.args.self.now.holds.ok.0)

pub earlier-at-requires-clause-on : goal.earlier-at-requires-clause-on
earlier-at-requires-clause-on c = step_on (chains.Resource c.args.buckets.resource) c.args.self.now.holds.items c.loop-at.invariant.0 c.in-Some.place (sym c.loop-at.invariant.1 ∙ c.in-Some.is)

pub earlier-at-requires-clause-within : goal.earlier-at-requires-clause-within
earlier-at-requires-clause-within c = step_within (chains.Resource c.args.buckets.resource) c.args.self.now.holds.items c.loop-at.invariant.0 c.in-Some.place (sym c.loop-at.invariant.1 ∙ c.in-Some.is)

pub loop-at-smaller : goal.loop-at-smaller
loop-at-smaller c = nearer (chains.Resource c.args.buckets.resource) c.args.self.now.holds.items c.in-Some.place c.loop-at.at c.earlier-at.result c.in-Some.is c.earlier-at.ensures

pub loop-at-preserved : goal.loop-at-preserved
loop-at-preserved c = (
  c.in-Some.place,
  c.earlier-at.ensures,
  place_on (chains.Resource c.args.buckets.resource) c.args.self.now.holds.items c.loop-at.invariant.0 c.in-Some.place (sym c.loop-at.invariant.1 ∙ c.in-Some.is)
      (is_pair same_resource c.args.t.0 (shown_resource c.args.what.now)) (pair_on c.args.t.0 (shown_resource c.args.what.now) c.args.buckets.resource c.requires.1)
      c.index.result.now c.loop-at.found c.place_with-found.result c.index.ensures c.place_with-found.ensures ∙ c.loop-at.invariant.2,
)

pub returns : goal.returns
returns c =
    let front = map shown_hold (take c.loop-at.invariant.0 c.args.self.now.holds.items) in
    ap (λ r. option_or r c.loop-at.found) (sym (place_done (chains.Resource c.args.buckets.resource) front (sym c.loop-at.invariant.1 ∙ c.in_default.is)
    (is_pair same_resource c.args.t.0 (shown_resource c.args.what.now)) (pair_on c.args.t.0 (shown_resource c.args.what.now) c.args.buckets.resource c.requires.1)))
    ∙ c.loop-at.invariant.2
