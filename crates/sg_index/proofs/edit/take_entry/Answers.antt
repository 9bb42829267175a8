use Rattle.std.proofs.Common.{◌<◌, [], length, sym}
use Rattle.std.proofs.lemmas.List.{take-append-drop}
use Rattle.sg_index.proofs.Leaves.{known_edited, new_edited, placed_none}
use Rattle.sg_index.proofs.edit.take_entry.Goals as goal

pub returns-then-not-has_at-clause-edited : goal.returns-then-not-has_at-clause-edited
returns-then-not-has_at-clause-edited c = λ sep rises upto.
    let before = rw c.as_slice.ensures.value at c.place_from-at.ensures.before in
    let at = rw c.as_slice.ensures.value at c.place_from-at.ensures.at in
    let within = rw c.as_slice.ensures.value at c.place_from-at.ensures.within in
    let told = rw (c.as_slice-2.ensures.value, c.if-not-has_at.true) at c.has_at.ensures.told in
    new_edited _ _ _ within before at told [] _ _ (placed_none _) (sym (take-append-drop c.place_from-at.result c.args.node.now.items)) sep rises upto

pub returns-clause-edited : goal.returns-clause-edited
returns-clause-edited c = λ sep rises upto.
    let before = rw c.as_slice.ensures.value at c.place_from-at.ensures.before in
    let at = rw c.as_slice.ensures.value at c.place_from-at.ensures.at in
    let within = rw c.as_slice.ensures.value at c.place_from-at.ensures.within in
    let told = rw (c.as_slice-2.ensures.value, c.if-not-has_at.false) at c.has_at.ensures.told in
    let here : c.place_from-at.result < length c.args.node.now.items = rw c.as_slice-2.ensures.value at (c.has_at.ensures.within c.if-not-has_at.false) in
    known_edited _ _ _ within before at told here [] _ _ (placed_none _) c.remove.ensures.items sep rises upto
