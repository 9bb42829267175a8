use Rattle.std.proofs.Common.{sym, ap, ◌∙◌, map, take, arith, length}
use Rattle.std.specs.Prelude.{◌&&◌}
use Rattle.std.proofs.lemmas.List.{take_all}
use Rattle.sg_model.specs.Resources.{shown_touch}
use Rattle.sg_locks.specs.Chain.{is_on}
use Rattle.sg_locks.specs.Places.{blocks, last_place, lesser_of, least_of}
use Rattle.sg_locks.specs.Shown.{shown_hold}
use Rattle.sg_locks.proofs.Least.{lesser_none}
use Rattle.sg_locks.proofs.OnChain.{step_within, step_on, least_on, least_done, nearer}
use Rattle.sg_locks.proofs.table.Table.least_along.Goals as goal

pub loop-at-init : goal.loop-at-init
loop-at-init c =
    let items = c.args.self.now.holds.items in
    let whole = take_all (length items) items (omega arith) in (
      length items,
      c.last-at.ensures ∙ ap (λ xs. last_place (is_on c.args.chain) (map shown_hold xs)) (sym whole),
      ap (λ xs. lesser_of c.args.least (least_of (λ h. is_on c.args.chain h && blocks c.args.t.0 (shown_touch c.args.touch.now) h) (map shown_hold xs))) whole,
    )

pub index-requires : goal.index-requires
index-requires c =
    let e = step_within c.args.chain c.args.self.now.holds.items c.loop-at.invariant.0 c.in-Some.place (sym c.loop-at.invariant.1 ∙ c.in-Some.is) in
    omega (arith, e, c.args.self.now.holds.ok.0)

pub earlier-at-requires-clause-on : goal.earlier-at-requires-clause-on
earlier-at-requires-clause-on c = step_on c.args.chain c.args.self.now.holds.items c.loop-at.invariant.0 c.in-Some.place (sym c.loop-at.invariant.1 ∙ c.in-Some.is)

pub earlier-at-requires-clause-within : goal.earlier-at-requires-clause-within
earlier-at-requires-clause-within c = step_within c.args.chain c.args.self.now.holds.items c.loop-at.invariant.0 c.in-Some.place (sym c.loop-at.invariant.1 ∙ c.in-Some.is)

pub loop-at-smaller : goal.loop-at-smaller
loop-at-smaller c = nearer c.args.chain c.args.self.now.holds.items c.in-Some.place c.loop-at.at c.earlier-at.result c.in-Some.is c.earlier-at.ensures

pub loop-at-preserved : goal.loop-at-preserved
loop-at-preserved c = (
  c.in-Some.place,
  c.earlier-at.ensures,
  least_on c.args.chain c.args.self.now.holds.items c.loop-at.invariant.0 c.in-Some.place (sym c.loop-at.invariant.1 ∙ c.in-Some.is)
      (blocks c.args.t.0 (shown_touch c.args.touch.now)) c.index.result.now c.loop-at.least c.least_with-least.result c.index.ensures c.least_with-least.ensures ∙ c.loop-at.invariant.2,
)

pub returns : goal.returns
returns c =
    let w = blocks c.args.t.0 (shown_touch c.args.touch.now) in
    let front = map shown_hold (take c.loop-at.invariant.0 c.args.self.now.holds.items) in
    sym (lesser_none c.loop-at.least) ∙ (ap (lesser_of c.loop-at.least) (sym (least_done c.args.chain front (sym c.loop-at.invariant.1 ∙ c.in_default.is) w)) ∙ c.loop-at.invariant.2)
