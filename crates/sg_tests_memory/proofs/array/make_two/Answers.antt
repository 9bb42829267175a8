use Rattle.std.proofs.Common.{◌≡◌, ℕ, ◌+◌, ◌<◌, ◌≤◌, ◌++◌, List, [], ◌∷◌, length, sym, ap, ◌∙◌, refl, arith}
use Rattle.sg_array.specs.Calls.{empty_array}
use Rattle.sg_tests_memory.proofs.Arrays.{can_push, can_again}
use Rattle.sg_tests_memory.proofs.array.make_two.Goals as goal

pub push-requires-clause-can : goal.push-requires-clause-can
push-requires-clause-can g c = λ t.
    let made = c.in_ok-root.ensures.did.done tt in
    let free = made.pages.exactly in
    let some = c.requires in
    (empty_array 2, made.array, can_push c.make.new.space _ _ (empty_array 2) refl (omega arith) (omega arith))

pub push-requires-2-clause-can : goal.push-requires-2-clause-can
push-requires-2-clause-can g c = λ t.
    let made = c.in_ok-root.ensures.did.done tt in
    let free = made.pages.exactly in
    let some = c.requires in
    let one = c.in_ok-push.ensures.did.turns tt (empty_array 2) made.array (can_push c.make.new.space _ _ (empty_array 2) refl (omega arith) (omega arith)) in
    (one.0, one.1.array, can_again c.make.new.space c.push.new.space _ one.0 _ one.1 one.2 (omega arith))

pub returns : goal.returns
returns g c =
    let made = c.in_ok-root.ensures.did.done tt in
    let free = made.pages.exactly in
    let some = c.requires in
    let one = c.in_ok-push.ensures.did.turns tt (empty_array 2) made.array (can_push c.make.new.space _ _ (empty_array 2) refl (omega arith) (omega arith)) in
    let two = c.in_ok-push-2.ensures.did.turns tt one.0 one.1.array (can_again c.make.new.space c.push.new.space _ one.0 _ one.1 one.2 (omega arith)) in
    record { array = two.0; there = two.1.array; items_are = two.2.items ∙ ap (λ (xs : List (List ℕ)). xs ++ ((98 ∷ 98 ∷ []) ∷ [])) one.2.items; size_is = two.2.size ∙ one.2.size }
