use Rattle.std.proofs.Common.{◌≤◌, ◌+◌, length, refl, sym, ap, ◌∙◌, map, drop, arith, subst}
use Rattle.std.specs.List.{list_any}
use Rattle.sg_serial.specs.Locks.{hold_all, hold_one, is_in_way}
use Rattle.sg_model.specs.Touches.{same_resource, conflict}
use Rattle.sg_model.specs.Resources.{shown_touch}
use Rattle.sg_model.specs.declared.touch.Touch as code_touch
use Rattle.sg_locks.specs.Shown.{shown_hold}
use Rattle.sg_locks.proofs.Counting.{hold_fits}
use Rattle.sg_locks.proofs.Held.{next_touch, first_clear, rest_clear, none_in_way}
use Rattle.sg_locks.proofs.table.Table.lock_all.Goals as goal

pub loop-touch-init : goal.loop-touch-init
loop-touch-init c = record {
  held = refl;
  clear = none_in_way c.args.t.0 (map shown_touch c.args.wanted.now) (map shown_hold c.args.self.now.holds.items) (sym c.first_holder.ensures ∙ c.in-None.is);
}

pub hold-requires-clause-room : goal.hold-requires-clause-room
hold-requires-clause-room c =
    let now = map shown_hold c.loop-touch.self.holds.items in
    let all = hold_all same_resource c.args.t.0 (map shown_touch c.args.wanted.now) (map shown_hold c.args.self.now.holds.items) in
    subst (λ (a : code_touch.Touch). length (hold_one same_resource c.args.t.0 (shown_touch a) now) ≤ 4096) (sym c.touch-item.is)
    (hold_fits c.args.t.0 c.args.wanted.now c.loop-touch.touch-index c.touch-item.result now all
    c.loop-touch-test.true c.loop-touch.invariant.held (omega (arith, c.count_new-new.ensures, c.if-new-len.false, c.len.ensures, c.args.self.now.holds.ok.0, c.args.self.now.few)))

pub hold-requires-clause-clear : goal.hold-requires-clause-clear
hold-requires-clause-clear c =
    let now = map shown_hold c.loop-touch.self.holds.items in
    let next = next_touch shown_touch c.args.wanted.now c.loop-touch.touch-index c.touch-item.result c.loop-touch-test.true c.touch-item.is in
    first_clear c.args.t.0 (shown_touch c.touch-item.result) (map shown_touch (drop (c.loop-touch.touch-index + 1) c.args.wanted.now)) now
    (ap (λ ys. list_any (is_in_way conflict c.args.t.0 ys) now) (sym next) ∙ c.loop-touch.invariant.clear)

pub loop-touch-preserved : goal.loop-touch-preserved
loop-touch-preserved c =
    let now = map shown_hold c.loop-touch.self.holds.items in
    let rest = map shown_touch (drop (c.loop-touch.touch-index + 1) c.args.wanted.now) in
    let next = next_touch shown_touch c.args.wanted.now c.loop-touch.touch-index c.touch-item.result c.loop-touch-test.true c.touch-item.is in
    record {
      held = ap (hold_all same_resource c.args.t.0 rest) c.hold.ensures ∙ (ap (λ ys. hold_all same_resource c.args.t.0 ys now) (sym next) ∙ c.loop-touch.invariant.held);
      clear =
          ap (λ hs. list_any (is_in_way conflict c.args.t.0 rest) hs) c.hold.ensures
          ∙ rest_clear c.args.t.0 (shown_touch c.touch-item.result) rest now (ap (λ ys. list_any (is_in_way conflict c.args.t.0 ys) now) (sym next) ∙ c.loop-touch.invariant.clear);
    }
