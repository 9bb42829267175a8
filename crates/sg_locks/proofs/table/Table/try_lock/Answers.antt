use Rattle.std.proofs.Common.{map, drop, refl, sym, ap, ◌∙◌, arith}
use Rattle.std.proofs.lemmas.List.{drop_all, length-map}
use Rattle.sg_model.specs.Resources.{shown_touch}
use Rattle.sg_locks.specs.Answers.{lock_answer, locks_after}
use Rattle.sg_locks.specs.Shown.{shown_hold}
use Rattle.sg_locks.proofs.Answered.{same_answer, same_after, all_held, slice_on, only_one}
use Rattle.sg_locks.proofs.Held.{held_is_skipped}
use Rattle.sg_locks.proofs.table.Table.try_lock.Goals as goal

pub returns-in-len1-clause-answer : goal.returns-in-len1-clause-answer
returns-in-len1-clause-answer c =
    let now = map shown_hold c.loop-i.self.holds.items in
    let whole = slice_on c.args.wanted.now c.loop-i.i in
    let one = only_one _ c.touch-item.result c.in-len1.len_at_least c.in-len1.len_below c.touch-item.is in
    c.lock_one.ensures.answer ∙ (ap (λ ys. lock_answer c.args.t.0 (map shown_touch ys) now) (sym one ∙ whole)
    ∙ (same_answer c.args.t.0 now (map shown_touch (drop c.loop-i.i c.args.wanted.now)) (map shown_touch c.args.wanted.now) c.loop-i.invariant.alike ∙ ap (lock_answer c.args.t.0 (map shown_touch c.args.wanted.now)) c.loop-i.invariant.same))

pub returns-in-len1-clause-after : goal.returns-in-len1-clause-after
returns-in-len1-clause-after c =
    let now = map shown_hold c.loop-i.self.holds.items in
    let whole = slice_on c.args.wanted.now c.loop-i.i in
    let one = only_one _ c.touch-item.result c.in-len1.len_at_least c.in-len1.len_below c.touch-item.is in
    c.lock_one.ensures.after ∙ (ap (λ ys. locks_after c.args.t.0 (map shown_touch ys) now) (sym one ∙ whole)
    ∙ (same_after c.args.t.0 now (map shown_touch (drop c.loop-i.i c.args.wanted.now)) (map shown_touch c.args.wanted.now) c.loop-i.invariant.alike ∙ ap (locks_after c.args.t.0 (map shown_touch c.args.wanted.now)) c.loop-i.invariant.same))

pub returns-in_default-2-clause-answer : goal.returns-in_default-2-clause-answer
returns-in_default-2-clause-answer c =
    let now = map shown_hold c.loop-i.self.holds.items in
    c.lock_all.ensures.answer ∙ (ap (λ ys. lock_answer c.args.t.0 (map shown_touch ys) now) (slice_on c.args.wanted.now c.loop-i.i)
    ∙ (same_answer c.args.t.0 now (map shown_touch (drop c.loop-i.i c.args.wanted.now)) (map shown_touch c.args.wanted.now) c.loop-i.invariant.alike ∙ ap (lock_answer c.args.t.0 (map shown_touch c.args.wanted.now)) c.loop-i.invariant.same))

pub returns-in_default-2-clause-after : goal.returns-in_default-2-clause-after
returns-in_default-2-clause-after c =
    let now = map shown_hold c.loop-i.self.holds.items in
    c.lock_all.ensures.after ∙ (ap (λ ys. locks_after c.args.t.0 (map shown_touch ys) now) (slice_on c.args.wanted.now c.loop-i.i)
    ∙ (same_after c.args.t.0 now (map shown_touch (drop c.loop-i.i c.args.wanted.now)) (map shown_touch c.args.wanted.now) c.loop-i.invariant.alike ∙ ap (locks_after c.args.t.0 (map shown_touch c.args.wanted.now)) c.loop-i.invariant.same))

pub loop-i-preserved : goal.loop-i-preserved
loop-i-preserved c = record {
  same = c.loop-i.invariant.same;
  alike =
      held_is_skipped c.args.t.0 (shown_touch c.index-wanted-i.result) shown_touch c.args.wanted.now c.loop-i.i c.index-wanted-i.result (map shown_touch c.args.wanted.now) (map shown_hold c.loop-i.self.holds.items)
      c.loop-i-test.true c.index-wanted-i.is refl c.loop-i.self.compatible c.in_default.ensures.held c.loop-i.invariant.alike;
}

pub returns-clause-answer : goal.returns-clause-answer
returns-clause-answer c =
    let items = c.loop-i.self.holds.items in
    let rest = map shown_touch (drop c.loop-i.i c.args.wanted.now) in
    (all_held c.args.t.0 (map shown_hold items) rest (map shown_touch c.args.wanted.now) (ap (map shown_touch) (drop_all c.loop-i.i c.args.wanted.now c.loop-i-test.false)) c.loop-i.invariant.alike
    (omega (arith, length-map items shown_hold, c.loop-i.self.few))).0 ∙ ap (lock_answer c.args.t.0 (map shown_touch c.args.wanted.now)) c.loop-i.invariant.same

pub returns-clause-after : goal.returns-clause-after
returns-clause-after c =
    let items = c.loop-i.self.holds.items in
    let rest = map shown_touch (drop c.loop-i.i c.args.wanted.now) in
    (all_held c.args.t.0 (map shown_hold items) rest (map shown_touch c.args.wanted.now) (ap (map shown_touch) (drop_all c.loop-i.i c.args.wanted.now c.loop-i-test.false)) c.loop-i.invariant.alike
    (omega (arith, length-map items shown_hold, c.loop-i.self.few))).1 ∙ ap (locks_after c.args.t.0 (map shown_touch c.args.wanted.now)) c.loop-i.invariant.same
