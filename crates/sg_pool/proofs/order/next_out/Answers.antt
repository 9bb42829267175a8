use Rattle.std.proofs.Common.{◌≡◌, ℕ, Bool, true, List, [], ◌∷◌, ◌++◌, ap, sym, ◌∙◌, append-nil}
use Rattle.std.proofs.lemmas.List.{append_assoc}
use Rattle.std.proofs.lemmas.List.Elements.{All-cons, All-nil}
use Rattle.sg_pool.proofs.Ordering.{not_all, key_there}
use Rattle.sg_pool.proofs.order.next_out.Goals as goal

moved : (es left new ys : List (ℕ × Bool)) (x : ℕ × Bool) → es ≡ left ++ ys → left ≡ new ++ x ∷ [] → es ≡ new ++ x ∷ ys
moved es left new ys x e f = e ∙ ap (λ l. l ++ ys) f ∙ append_assoc new (x ∷ []) ys

pub loop-frame-init : goal.loop-frame-init
loop-frame-init c = ([], sym c.iter-left.ensures.rest ∙ sym (append-nil _), All-nil _)

pub returns-then-not-is_pinned-clause-victim : goal.returns-then-not-is_pinned-clause-victim
returns-then-not-is_pinned-clause-victim c count many order =
    let inv = c.loop-frame.invariant in
    let steps = rw c.if-not-is_pinned.true at c.in-Some.ensures.steps in
    (c.next_back.new.self, inv.0, moved _ _ _ inv.0 _ inv.1 steps, inv.2)

pub returns-then-not-is_pinned-clause-frame : goal.returns-then-not-is_pinned-clause-frame
returns-then-not-is_pinned-clause-frame c count many order =
    let inv = c.loop-frame.invariant in
    let steps = rw c.if-not-is_pinned.true at c.in-Some.ensures.steps in
    key_there c.args.order.now.entries c.next_back.new.self inv.0 c.in-Some.frame.now count (moved _ _ _ inv.0 _ inv.1 steps) order

pub loop-frame-preserved : goal.loop-frame-preserved
loop-frame-preserved c =
    let inv = c.loop-frame.invariant in
    let ys = (c.in-Some.frame.now, c.in-Some.is_pinned.now) ∷ inv.0 in
    (ys, moved _ _ _ inv.0 _ inv.1 c.in-Some.ensures.steps, All-cons (λ e. e.1 ≡ true) (c.in-Some.frame.now, c.in-Some.is_pinned.now) inv.0 c.if-not-is_pinned.false inv.2)

pub returns-clause-victim : goal.returns-clause-victim
returns-clause-victim c count many order =
    let inv = c.loop-frame.invariant in
    let steps = rw c.in_default.is at c.next_back.ensures.steps in
    let e = rw steps.0 at inv.1 in
    absurd (not_all c.args.order.now.entries count many order (rw e inv.2))

pub returns-clause-frame : goal.returns-clause-frame
returns-clause-frame c count many order =
    let inv = c.loop-frame.invariant in
    let steps = rw c.in_default.is at c.next_back.ensures.steps in
    let e = rw steps.0 at inv.1 in
    absurd (not_all c.args.order.now.entries count many order (rw e inv.2))
