use Rattle.std.proofs.Common.{arith, sym, ap, ◌∙◌, [], ◌∷◌, map, length, length-append}
use Rattle.std.proofs.lemmas.List.{length-map}
use Rattle.sg_model.specs.Resources.{shown_touch}
use Rattle.sg_locks.specs.Shown.{shown_hold}
use Rattle.sg_locks.proofs.Places.{hold_last}
use Rattle.sg_locks.proofs.table.Table.hold_at.Goals as goal

pub add-requires-clause-room : goal.add-requires-clause-room
add-requires-clause-room c =
    let items = c.args.self.now.holds.items in
    let longer = ap length (hold_last c.args.t.0 (shown_touch c.args.touch.now) (map shown_hold items) (sym c.requires.spot.1 ∙ c.in-None.is)) in
    let one = length-append (map shown_hold items) (record { transaction = c.args.t.0; touch = shown_touch c.args.touch.now } ∷ []) in
    omega (arith, longer, one, length-map items shown_hold, c.requires.room)
