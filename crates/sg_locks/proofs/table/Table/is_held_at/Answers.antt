use Rattle.std.proofs.Common.{◌≡◌, ◌<◌, not, length, map, get_or, sym, ap, ◌∙◌, arith}
use Rattle.std.specs.Prelude.{◌||◌}
use Rattle.std.proofs.lemmas.List.{length-map, get_or-map}
use Rattle.sg_serial.specs.Locks.{Hold, is_pair}
use Rattle.sg_model.specs.Touches.{Resource, same_resource}
use Rattle.sg_model.specs.Resources.{shown_touch}
use Rattle.sg_locks.specs.Shown.{shown_hold}
use Rattle.sg_locks.proofs.Held.{found_once, held_at}
use Rattle.sg_locks.proofs.table.Table.is_held_at.Goals as goal

pub returns-then-is_pair : goal.returns-then-is_pair
returns-then-is_pair c enough =
    let items = c.args.self.now.holds.items in
    let hs = map shown_hold items in
    let a = shown_touch c.args.touch.now in
    let h = c.index-hold.result.now in
    let within : c.args.place < length items = omega (arith, c.len.ensures, c.if-place-len.false) in
    let same : get_or hs c.args.place (shown_hold h) ≡ shown_hold h = get_or-map shown_hold items c.args.place h (shown_hold h) within ∙ ap shown_hold (sym c.index-hold.ensures) in
    let on = ap (is_pair same_resource c.args.t.0 a.what) same ∙ (sym c.is_pair.ensures ∙ c.if-is_pair.true) in
    let placed = found_once c.args.t.0 a hs c.args.place (shown_hold h) c.args.self.now.once (omega (arith, within, length-map items shown_hold)) on in
    sym (held_at c.args.t.0 a hs c.args.place (shown_hold h) placed) ∙ (ap (λ (k : Hold Resource). k.touch.write || not c.args.touch.now.write) same ∙ (sym c.is_enough.ensures ∙ enough))
