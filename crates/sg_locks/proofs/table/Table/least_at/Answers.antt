use Rattle.std.proofs.Common.{◌≡◌, ℕ, List, Option, cond, map, not, length, take, sym, ap, ◌∙◌, Some, arith}
use Rattle.std.specs.Prelude.{◌&&◌}
use Rattle.std.proofs.lemmas.Bool.{eqb-true}
use Rattle.std.proofs.lemmas.List.{take_all}
use Rattle.sg_serial.specs.Locks.{Hold, lesser}
use Rattle.sg_model.specs.Touches.{Resource}
use Rattle.sg_model.specs.Resources.{shown_touch}
use Rattle.sg_locks.specs.declared.table.Hold as code
use Rattle.sg_locks.specs.declared.table.Chain.TheVariants as chains
use Rattle.sg_locks.specs.Chain.{is_on}
use Rattle.sg_locks.specs.Places.{blocks, last_place, lesser_of, least_of}
use Rattle.sg_locks.specs.Shown.{shown_hold}
use Rattle.sg_locks.proofs.Held.{own_passes}
use Rattle.sg_locks.proofs.Least.{lesser_none}
use Rattle.sg_locks.proofs.OnChain.{step_within, step_on, least_on, least_done, no_last}
use Rattle.sg_locks.proofs.table.Table.least_at.Goals as goal

-- the last hold on a chain is the last one among all of them
ends : (bucket : ℕ) (items : List code.Hold) (place : ℕ) (r : Option ℕ) → r ≡ Some place → r ≡ last_place (is_on (chains.Resource bucket)) (map shown_hold items) → last_place (is_on (chains.Resource bucket)) (map shown_hold (take (length items) items)) ≡ Some place
ends bucket items place r is e = ap (λ (xs : List code.Hold). last_place (is_on (chains.Resource bucket)) (map shown_hold xs)) (take_all (length items) items (omega arith)) ∙ (sym e ∙ is)

pub returns-in_default : goal.returns-in_default
returns-in_default c =
    let hs = map shown_hold c.args.self.now.holds.items in
    sym (lesser_none c.args.least) ∙ ap (lesser_of c.args.least) (sym (least_done (chains.Resource c.args.bucket) hs (sym c.last.ensures ∙ c.in_default.is) (blocks c.args.t.0 (shown_touch c.args.touch.now))))

pub index-requires : goal.index-requires
index-requires c =
    let items = c.args.self.now.holds.items in
    let e = step_within (chains.Resource c.args.bucket) items (length items) c.in-Some.place (ends c.args.bucket items c.in-Some.place c.last.result c.in-Some.is c.last.ensures) in
    omega (arith, e, c.args.self.now.holds.ok.0)

pub earlier-requires-clause-within : goal.earlier-requires-clause-within
earlier-requires-clause-within c =
    let items = c.args.self.now.holds.items in
    step_within (chains.Resource c.args.bucket) items (length items) c.in-Some.place (ends c.args.bucket items c.in-Some.place c.last.result c.in-Some.is c.last.ensures)

pub earlier-requires-clause-on : goal.earlier-requires-clause-on
earlier-requires-clause-on c =
    let items = c.args.self.now.holds.items in
    step_on (chains.Resource c.args.bucket) items (length items) c.in-Some.place (ends c.args.bucket items c.in-Some.place c.last.result c.in-Some.is c.last.ensures)

pub returns-then-is_none : goal.returns-then-is_none
returns-then-is_none c =
    let items = c.args.self.now.holds.items in
    let chain = chains.Resource c.args.bucket in
    let w = blocks c.args.t.0 (shown_touch c.args.touch.now) in
    let h = c.index.result.now in
    let idle = own_passes c.args.t.0 (shown_touch c.args.touch.now) (shown_hold h) (eqb-true (shown_hold h).transaction c.args.t.0 (sym c.is_own.ensures ∙ c.if-is_own.true)) in
    let none = sym c.earlier.ensures ∙ no_last c.earlier.result (c.is_none.ensures ∙ ap not c.if-is_none.true) in
    let front = map shown_hold (take c.in-Some.place items) in
    sym (lesser_none c.args.least) ∙ (ap (lesser_of c.args.least) (sym (least_done chain front none w))
    ∙ (least_on chain items (length items) c.in-Some.place (ends c.args.bucket items c.in-Some.place c.last.result c.in-Some.is c.last.ensures) w h c.args.least c.args.least c.index.ensures
    (ap (λ b. cond b (lesser (shown_hold h).transaction c.args.least) c.args.least) (sym idle))
    ∙ ap (λ (xs : List code.Hold). lesser_of c.args.least (least_of (λ (k : Hold Resource). is_on chain k && w k) (map shown_hold xs))) (take_all (length items) items (omega arith))))
