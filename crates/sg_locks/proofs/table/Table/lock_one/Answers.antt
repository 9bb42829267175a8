use Rattle.std.proofs.Common.{length, map, not, Some, None, sym, ap, ◌∙◌, arith}
use Rattle.std.proofs.lemmas.List.{length-map}
use Rattle.sg_serial.specs.Locks.{hold_one}
use Rattle.sg_model.specs.Touches.{same_resource}
use Rattle.sg_model.specs.Resources.{shown_touch}
use Rattle.sg_locks.specs.declared.table.LockAnswer.TheVariants.{Busy, Granted, LocksFull}
use Rattle.sg_locks.specs.Shown.{shown_hold}
use Rattle.sg_locks.proofs.Answered.{one_answer, one_after, new_pair, old_pair, full, granted}
use Rattle.sg_locks.proofs.Held.{least_none}
use Rattle.sg_locks.proofs.table.Table.lock_one.Goals as goal
use Rattle.sg_locks.proofs.table.Table.lock_one.Goals.{else-is_none-via-then-is_none+else-len-eq-MOST_HELD, else-is_none-via-else-is_none}

pub returns-in-Some-clause-answer : goal.returns-in-Some-clause-answer
returns-in-Some-clause-answer c =
    one_answer c.args.t.0 (shown_touch c.args.touch.now) (map shown_hold c.args.self.now.holds.items) (Some c.in-Some.holder) (sym c.in-Some.is ∙ c.least_in_way.ensures)

pub returns-in-Some-clause-after : goal.returns-in-Some-clause-after
returns-in-Some-clause-after c =
    let hs = map shown_hold c.args.self.now.holds.items in
    one_after c.args.t.0 (shown_touch c.args.touch.now) hs (Busy (record { 0 = c.in-Some.holder }))
    (one_answer c.args.t.0 (shown_touch c.args.touch.now) hs (Some c.in-Some.holder) (sym c.in-Some.is ∙ c.least_in_way.ensures))

pub returns-then-len-eq-MOST_HELD-clause-answer : goal.returns-then-len-eq-MOST_HELD-clause-answer
returns-then-len-eq-MOST_HELD-clause-answer c =
    let items = c.args.self.now.holds.items in
    let hs = map shown_hold items in
    let more = new_pair c.args.t.0 (shown_touch c.args.touch.now) hs c.args.spot.place c.requires.1 (c.is_none.ensures ∙ ap not c.if-is_none.true) in
    full (length (hold_one same_resource c.args.t.0 (shown_touch c.args.touch.now) hs)) (omega (arith, more, length-map items shown_hold, c.len.ensures, c.if-len-eq-MOST_HELD.true, c.args.self.now.holds.ok.0))
    ∙ one_answer c.args.t.0 (shown_touch c.args.touch.now) hs None (sym c.in_default.is ∙ c.least_in_way.ensures)

pub returns-then-len-eq-MOST_HELD-clause-after : goal.returns-then-len-eq-MOST_HELD-clause-after
returns-then-len-eq-MOST_HELD-clause-after c =
    let items = c.args.self.now.holds.items in
    let hs = map shown_hold items in
    let more = new_pair c.args.t.0 (shown_touch c.args.touch.now) hs c.args.spot.place c.requires.1 (c.is_none.ensures ∙ ap not c.if-is_none.true) in
    one_after c.args.t.0 (shown_touch c.args.touch.now) hs LocksFull
    (full (length (hold_one same_resource c.args.t.0 (shown_touch c.args.touch.now) hs)) (omega (arith, more, length-map items shown_hold, c.len.ensures, c.if-len-eq-MOST_HELD.true, c.args.self.now.holds.ok.0))
    ∙ one_answer c.args.t.0 (shown_touch c.args.touch.now) hs None (sym c.in_default.is ∙ c.least_in_way.ensures))

pub hold_at-requires-clause-room : goal.hold_at-requires-clause-room
hold_at-requires-clause-room c =
    let items = c.args.self.now.holds.items in
    let hs = map shown_hold items in
    elim c.else-is_none.branch [
      | else-is_none-via-then-is_none+else-len-eq-MOST_HELD w ↦ (
          let more = new_pair c.args.t.0 (shown_touch c.args.touch.now) hs c.args.spot.place c.requires.1 (c.is_none.ensures ∙ ap not w.if-is_none.true) in
          omega (arith, more, length-map items shown_hold, w.len.ensures, w.if-len-eq-MOST_HELD.false, c.args.self.now.few, c.args.self.now.holds.ok.0)
          )
      | else-is_none-via-else-is_none w ↦ (
          let same = old_pair c.args.t.0 (shown_touch c.args.touch.now) hs c.args.spot.place c.requires.1 (c.is_none.ensures ∙ ap not w.if-is_none.false) in
          omega (arith, same, length-map items shown_hold, c.args.self.now.few)
          )
    ]

pub hold_at-requires-clause-clear : goal.hold_at-requires-clause-clear
hold_at-requires-clause-clear c = least_none c.args.t.0 (shown_touch c.args.touch.now) (map shown_hold c.args.self.now.holds.items) (sym c.least_in_way.ensures ∙ c.in_default.is)

pub returns-clause-answer : goal.returns-clause-answer
returns-clause-answer c =
    let items = c.hold_at.new.self.holds.items in
    granted (length (hold_one same_resource c.args.t.0 (shown_touch c.args.touch.now) (map shown_hold c.args.self.now.holds.items)))
    (omega (arith, ap length c.hold_at.ensures, length-map items shown_hold, c.hold_at.new.self.few))
    ∙ one_answer c.args.t.0 (shown_touch c.args.touch.now) (map shown_hold c.args.self.now.holds.items) None (sym c.in_default.is ∙ c.least_in_way.ensures)

pub returns-clause-after : goal.returns-clause-after
returns-clause-after c =
    let items = c.hold_at.new.self.holds.items in
    let hs = map shown_hold c.args.self.now.holds.items in
    c.hold_at.ensures
    ∙ one_after c.args.t.0 (shown_touch c.args.touch.now) hs Granted
    (granted (length (hold_one same_resource c.args.t.0 (shown_touch c.args.touch.now) hs)) (omega (arith, ap length c.hold_at.ensures, length-map items shown_hold, c.hold_at.new.self.few))
    ∙ one_answer c.args.t.0 (shown_touch c.args.touch.now) hs None (sym c.in_default.is ∙ c.least_in_way.ensures))
