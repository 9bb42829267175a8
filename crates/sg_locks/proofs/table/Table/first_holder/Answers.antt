use Rattle.std.proofs.Common.{sym, ap, ◌∙◌, map}
use Rattle.std.proofs.lemmas.List.{drop_all}
use Rattle.sg_serial.specs.Locks.{first_holder}
use Rattle.sg_model.specs.Touches.{conflict}
use Rattle.sg_model.specs.Resources.{shown_touch}
use Rattle.sg_locks.specs.Places.{blocks, lesser_of, least_of}
use Rattle.sg_locks.specs.Shown.{shown_hold}
use Rattle.sg_locks.proofs.Least.{first_none, first_step, lesser_none}
use Rattle.sg_locks.proofs.table.Table.first_holder.Goals as goal

pub loop-touch-preserved : goal.loop-touch-preserved
loop-touch-preserved c =
    let hs = map shown_hold c.args.self.now.holds.items in
    first_step c.args.t.0 shown_touch c.args.wanted.now c.loop-touch.touch-index c.touch-item.result hs c.loop-touch.least c.least_in_way-least.result _
    c.loop-touch-test.true
    (c.least_in_way-least.ensures ∙ ap (λ a. lesser_of c.loop-touch.least (least_of (blocks c.args.t.0 (shown_touch a)) hs)) c.touch-item.is)
    c.loop-touch.invariant

pub returns : goal.returns
returns c =
    let hs = map shown_hold c.args.self.now.holds.items in
    sym (lesser_none c.loop-touch.least)
    ∙ (ap (lesser_of c.loop-touch.least) (sym (first_none c.args.t.0 hs) ∙ ap (λ ys. first_holder conflict c.args.t.0 (map shown_touch ys) hs) (sym (drop_all c.loop-touch.touch-index c.args.wanted.now c.loop-touch-test.false)))
    ∙ c.loop-touch.invariant)
