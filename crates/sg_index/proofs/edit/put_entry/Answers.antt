use Rattle.std.proofs.Common.{◌≡◌, ◌<◌, ◌∷◌, [], List, ℕ, length, set, ap, ◌∙◌, length-set}
use Rattle.sg_index.specs.declared.item.Item.{Item}
use Rattle.sg_index.proofs.Leaves.{known_edited, known_has, new_edited, new_has, placed_one, set_parts, refilled}
use Rattle.sg_index.proofs.edit.put_entry.Goals as goal

pub returns-then-has_at-clause-edited : goal.returns-then-has_at-clause-edited
returns-then-has_at-clause-edited c = λ sep rises upto.
    let n : ℕ = c.place_from-at.result in
    let item : Item = record { key = c.new.result; value = c.new-2.result; child = 0 } in
    let before = rw c.as_slice.ensures.value at c.place_from-at.ensures.before in
    let at = rw c.as_slice.ensures.value at c.place_from-at.ensures.at in
    let within = rw c.as_slice.ensures.value at c.place_from-at.ensures.within in
    let told = rw (c.as_slice-2.ensures.value, c.if-has_at.true) at c.has_at.ensures.told in
    let here : n < length c.args.node.now.items = rw c.as_slice-2.ensures.value at (c.has_at.ensures.within c.if-has_at.true) in
    let written : set c.as_mut_slice.result.now n item ≡ set c.args.node.now.items n item = ap (λ (xs : List Item). set xs n item) c.as_mut_slice.ensures.value in
    let full = refilled c.args.node.now.items (set c.as_mut_slice.result.now n item) (ap length written ∙ length-set c.args.node.now.items n item) in
    known_edited _ _ _ within before at told here (item ∷ []) _ _ (placed_one _ _ item c.new.ensures c.new-2.ensures) (full ∙ (written ∙ set_parts c.args.node.now.items n item here)) sep rises upto

pub returns-then-has_at-clause-known : goal.returns-then-has_at-clause-known
returns-then-has_at-clause-known c =
    let before = rw c.as_slice.ensures.value at c.place_from-at.ensures.before in
    let at = rw c.as_slice.ensures.value at c.place_from-at.ensures.at in
    let within = rw c.as_slice.ensures.value at c.place_from-at.ensures.within in
    let told = rw (c.as_slice-2.ensures.value, c.if-has_at.true) at c.has_at.ensures.told in
    let here : c.place_from-at.result < length c.args.node.now.items = rw c.as_slice-2.ensures.value at (c.has_at.ensures.within c.if-has_at.true) in
    known_has _ _ _ within before at told here

pub returns-clause-edited : goal.returns-clause-edited
returns-clause-edited c = λ sep rises upto.
    let item : Item = record { key = c.new.result; value = c.new-2.result; child = 0 } in
    let before = rw c.as_slice.ensures.value at c.place_from-at.ensures.before in
    let at = rw c.as_slice.ensures.value at c.place_from-at.ensures.at in
    let within = rw c.as_slice.ensures.value at c.place_from-at.ensures.within in
    let told = rw (c.as_slice-2.ensures.value, c.if-has_at.false) at c.has_at.ensures.told in
    new_edited _ _ _ within before at told (item ∷ []) _ _ (placed_one _ _ item c.new.ensures c.new-2.ensures) c.insert.ensures.items sep rises upto

pub returns-clause-known : goal.returns-clause-known
returns-clause-known c =
    let before = rw c.as_slice.ensures.value at c.place_from-at.ensures.before in
    let at = rw c.as_slice.ensures.value at c.place_from-at.ensures.at in
    let within = rw c.as_slice.ensures.value at c.place_from-at.ensures.within in
    let told = rw (c.as_slice-2.ensures.value, c.if-has_at.false) at c.has_at.ensures.told in
    new_has _ _ _ within before at told
