use Rattle.std.proofs.Common.{not, sym, ap, ◌∙◌, map, arith}
use Rattle.std.specs.Prelude.{◌||◌}
use Rattle.std.proofs.lemmas.List.{length-map, get_or-map}
use Rattle.sg_serial.specs.Locks.{Hold, is_pair}
use Rattle.sg_model.specs.Touches.{Resource, same_resource}
use Rattle.sg_model.specs.Resources.{shown_touch}
use Rattle.sg_locks.specs.Shown.{shown_hold}
use Rattle.sg_locks.proofs.Held.{held_at}
use Rattle.sg_locks.proofs.Places.{place_within}
use Rattle.sg_locks.proofs.table.Table.spot_to_hold.Goals as goal

pub index-requires : goal.index-requires
index-requires c =
    let there = place_within (is_pair same_resource c.args.t.0 (shown_touch c.args.touch.now).what) (map shown_hold c.args.self.now.holds.items) c.in-Some.at (sym c.spot-spot.ensures.place ∙ c.in-Some.is) in
    omega (arith, there, length-map c.args.self.now.holds.items shown_hold, c.args.self.now.holds.ok.0)

pub returns-in-Some-clause-held : goal.returns-in-Some-clause-held
returns-in-Some-clause-held c =
    let items = c.args.self.now.holds.items in
    let h = c.index.result.now in
    let placed = sym c.spot-spot.ensures.place ∙ c.in-Some.is in
    let there = place_within (is_pair same_resource c.args.t.0 (shown_touch c.args.touch.now).what) (map shown_hold items) c.in-Some.at placed in
    let same = get_or-map shown_hold items c.in-Some.at h (shown_hold h) (omega (arith, there, length-map items shown_hold)) ∙ ap shown_hold (sym c.index.ensures) in
    sym (held_at c.args.t.0 (shown_touch c.args.touch.now) (map shown_hold items) c.in-Some.at (shown_hold h) placed) ∙ (ap (λ (k : Hold Resource). k.touch.write || not c.args.touch.now.write) same ∙ (sym c.is_enough.ensures ∙ c.if-is_enough.true))
