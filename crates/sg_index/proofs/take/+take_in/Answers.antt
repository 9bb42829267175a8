use Rattle.std.proofs.Common.{refl, sym, [], ◌-◌, ◌^◌, ℕ, List, ap, subst, inl, inr, length, slice_index_or}
use Rattle.std.specs.Prelude.{⊤}
use Rattle.std.proofs.Math.Nat.{le_trans}
use Rattle.std.proofs.lemmas.Result.{err_from_is_err_and}
use Rattle.sg_index.specs.declared.item.Item.{Item}
use Rattle.sg_index.specs.Fault.{MatchFault}
use Rattle.sg_index.specs.Records.{Map}
use Rattle.sg_index.specs.Tree.{Mark, IsBroken}
use Rattle.sg_index.specs.Change.{IsChanged, no_item}
use Rattle.sg_index.proofs.Faults.{risen_after, fault_weaker}
use Rattle.sg_index.proofs.Putting.{leaf_changed, has_node, broken_at, says_below, put_kept}
use Rattle.sg_index.proofs.Taking.{took_right, took_left, no_right, no_left, can_less, fewest_most, fewest_some, settled_less, settled_few, right_fit, left_fit, left_place, before_place, same_place}
use Rattle.sg_index.proofs.Fitting.{key_fits}
use Rattle.sg_index.proofs.take.+take_in.Goals as goal

pub returns-then-level-eq0-clause-taken : goal.returns-then-level-eq0-clause-taken
returns-then-level-eq0-clause-taken g t c = λ sep marks numbers h rises numbered least.
    leaf_changed _ c.args.level (2 ^ 32) c.if-level-eq0.true _ sep _ _ _ _ marks numbers h rises least c.take_entry-known.ensures.edited

pub returns-in_err-child-clause-taken : goal.returns-in_err-child-clause-taken
returns-in_err-child-clause-taken g t c = λ sep marks numbers h rises numbered least.
    let p = err_from_is_err_and c.from_residual.result c.from_residual.ensures.1 in
    let within = rw c.as_slice.ensures.value at c.branch_for-at.ensures.within in
    let left = rw c.as_slice.ensures.value at c.branch_for-at.ensures.left in
    let right = rw c.as_slice.ensures.value at c.branch_for-at.ensures.right in
    let number = ap (λ (xs : List Item). (slice_index_or xs c.branch_for-at.result c.index-as_slice-at.result).child) c.as_slice-2.ensures.value in
    rw (p.1, p.2) (fault_weaker c.in_err-child.field-0.0 {C = ⊥} (λ risen. tt)
    (λ none. has_node _ c.args.level c.if-level-eq0.false c.args.node.now.items _ _ within _ c.index-as_slice-at.result number left right sep marks numbers h rises (2 ^ 32) numbered least _ c.fewest.ensures none)
    (λ no. no) c.in_err-child.ensures.failed)

pub returns-in_err-child-clause-failed : goal.returns-in_err-child-clause-failed
returns-in_err-child-clause-failed g t c =
    let p = err_from_is_err_and c.from_residual.result c.from_residual.ensures.1 in
    let within = rw c.as_slice.ensures.value at c.branch_for-at.ensures.within in
    let number = ap (λ (xs : List Item). (slice_index_or xs c.branch_for-at.result c.index-as_slice-at.result).child) c.as_slice-2.ensures.value in
    rw (p.1, p.2) (fault_weaker c.in_err-child.field-0.0 {C = ⊥} (λ risen. risen)
    (λ none. broken_at _ c.args.level c.if-level-eq0.false c.args.node.now.items c.args.key.now _ within _ c.index-as_slice-at.result number _ (inl (rw (c.in_err-child.ensures.kept, ← c.fewest.ensures) none)))
    (λ no. no) c.in_err-child.ensures.failed)

pub returns-in_err-taken-clause-taken : goal.returns-in_err-taken-clause-taken
returns-in_err-taken-clause-taken g t c = λ sep marks numbers h rises numbered least.
    let p = err_from_is_err_and c.from_residual-in_err-taken.result c.from_residual-in_err-taken.ensures.1 in
    let within = rw c.as_slice.ensures.value at c.branch_for-at.ensures.within in
    let left = rw c.as_slice.ensures.value at c.branch_for-at.ensures.left in
    let right = rw c.as_slice.ensures.value at c.branch_for-at.ensures.right in
    let number = ap (λ (xs : List Item). (slice_index_or xs c.branch_for-at.result c.index-as_slice-at.result).child) c.as_slice-2.ensures.value in
    rw (p.1, p.2) (says_below _ c.args.level c.if-level-eq0.false c.args.node.now.items _ _ within _ c.index-as_slice-at.result number left right sep marks numbers h rises (2 ^ 32) numbered least _ c.in_ok-child.ensures.read
    (λ (k : List ℕ) (ms : List Mark) (ns : List ℕ). MatchFault c.in_err-taken.field-0.0 ⊤ ⊥ ⊥) (rw c.in_ok-child.ensures.kept at c.in_err-taken.ensures.taken))

pub returns-in_err-taken-clause-failed : goal.returns-in_err-taken-clause-failed
returns-in_err-taken-clause-failed g t c =
    let p = err_from_is_err_and c.from_residual-in_err-taken.result c.from_residual-in_err-taken.ensures.1 in
    let within = rw c.as_slice.ensures.value at c.branch_for-at.ensures.within in
    let number = ap (λ (xs : List Item). (slice_index_or xs c.branch_for-at.result c.index-as_slice-at.result).child) c.as_slice-2.ensures.value in
    rw (p.1, p.2) (fault_weaker c.in_err-taken.field-0.0 {C = ⊥} (risen_after _ _ _ c.in_ok-child.ensures.later)
    (λ broken. broken_at _ c.args.level c.if-level-eq0.false c.args.node.now.items c.args.key.now _ within _ c.index-as_slice-at.result number _ (inr (_, c.in_ok-child.ensures.read, broken)))
    (λ no. no) (rw c.in_ok-child.ensures.kept at c.in_err-taken.ensures.failed))

pub returns-then-len-fewest-clause-taken : goal.returns-then-len-fewest-clause-taken
returns-then-len-fewest-clause-taken g t c = λ sep marks numbers h rises numbered least.
    let within = rw c.as_slice.ensures.value at c.branch_for-at.ensures.within in
    let left = rw c.as_slice.ensures.value at c.branch_for-at.ensures.left in
    let right = rw c.as_slice.ensures.value at c.branch_for-at.ensures.right in
    let number = ap (λ (xs : List Item). (slice_index_or xs c.branch_for-at.result c.index-as_slice-at.result).child) c.as_slice-2.ensures.value in
    let enough = rw (c.len.ensures.value, c.fewest-2.ensures) at c.if-len-fewest.true in
    let written = rw c.as_slice-then-len-fewest.ensures.value at c.in_ok-keep_node.ensures.written in
    let changed = says_below _ c.args.level c.if-level-eq0.false c.args.node.now.items _ _ within _ c.index-as_slice-at.result number left right sep marks numbers h rises (2 ^ 32) numbered least _ c.in_ok-child.ensures.read
    (λ (k : List ℕ) (ms : List Mark) (ns : List ℕ). IsChanged c.args.key.now [] c.in_ok-taken.taken.known (g.R.Records.map c.args.records.now) (g.R.Records.map c.take_in.new.records) (2 ^ 32) (2 ^ 32) (c.args.level - 1) k ms ns c.take_in.new.node.items) (rw c.in_ok-child.ensures.kept at c.in_ok-taken.ensures.taken) in
    put_kept _ c.args.level c.if-level-eq0.false c.args.node.now.items _ _ within _ c.index-as_slice-at.result number left right sep marks numbers h rises (2 ^ 32) numbered least _ c.in_ok-child.ensures.read
    _ _ _ _ _ changed _ c.in_ok-taken.taken.changed written c.in_ok-taken.ensures.same c.in_ok-taken.ensures.fit (can_less _ _ _ c.in_ok-child.ensures.size c.in_ok-taken.ensures.less enough) enough

pub returns-in_err-join_right-clause-taken : goal.returns-in_err-join_right-clause-taken
returns-in_err-join_right-clause-taken g t c = λ sep marks numbers h rises numbered least.
    let p = err_from_is_err_and c.from_residual-in_err-join_right.result c.from_residual-in_err-join_right.ensures.1 in
    let within = rw c.as_slice.ensures.value at c.branch_for-at.ensures.within in
    let left = rw c.as_slice.ensures.value at c.branch_for-at.ensures.left in
    let right = rw c.as_slice.ensures.value at c.branch_for-at.ensures.right in
    let number = ap (λ (xs : List Item). (slice_index_or xs c.branch_for-at.result c.index-as_slice-at.result).child) c.as_slice-2.ensures.value in
    let changed = says_below _ c.args.level c.if-level-eq0.false c.args.node.now.items _ _ within _ c.index-as_slice-at.result number left right sep marks numbers h rises (2 ^ 32) numbered least _ c.in_ok-child.ensures.read
    (λ (k : List ℕ) (ms : List Mark) (ns : List ℕ). IsChanged c.args.key.now [] c.in_ok-taken.taken.known (g.R.Records.map c.args.records.now) (g.R.Records.map c.take_in.new.records) (2 ^ 32) (2 ^ 32) (c.args.level - 1) k ms ns c.take_in.new.node.items) (rw c.in_ok-child.ensures.kept at c.in_ok-taken.ensures.taken) in
    let more = rw c.len-2.ensures.value at c.if-at-len.true in
    rw (p.1, p.2) (fault_weaker c.in_err-join_right.field-0.0 {C = ⊥} (λ risen. tt) (λ none. no_right _ c.args.level c.if-level-eq0.false c.args.node.now.items _ _ within _ c.index-as_slice-at.result number left right sep marks numbers h rises numbered least _ _ _ _ changed more (none.1 no_item)) (λ no. no) c.in_err-join_right.ensures.failed)

pub returns-in_err-join_right-clause-failed : goal.returns-in_err-join_right-clause-failed
returns-in_err-join_right-clause-failed g t c =
    let p = err_from_is_err_and c.from_residual-in_err-join_right.result c.from_residual-in_err-join_right.ensures.1 in
    let more = rw c.len-2.ensures.value at c.if-at-len.true in
    rw (p.1, p.2) (fault_weaker c.in_err-join_right.field-0.0 {C = ⊥} (risen_after _ _ _ (le_trans c.in_ok-child.ensures.later c.in_ok-taken.ensures.later))
    (λ none. subst (λ (m : Map). IsBroken (g.R.Records.map c.args.records.now) m c.args.level c.args.node.now.items) (sym none.0) (broken_at _ c.args.level c.if-level-eq0.false c.args.node.now.items c.args.key.now _ more _ no_item refl _ (inl (none.1 no_item))))
    (λ no. no) c.in_err-join_right.ensures.failed)

pub returns-in_err-join_left-clause-taken : goal.returns-in_err-join_left-clause-taken
returns-in_err-join_left-clause-taken g t c = λ sep marks numbers h rises numbered least.
    let p = err_from_is_err_and c.from_residual-in_err-join_left.result c.from_residual-in_err-join_left.ensures.1 in
    let within = rw c.as_slice.ensures.value at c.branch_for-at.ensures.within in
    let left = rw c.as_slice.ensures.value at c.branch_for-at.ensures.left in
    let right = rw c.as_slice.ensures.value at c.branch_for-at.ensures.right in
    let number = ap (λ (xs : List Item). (slice_index_or xs c.branch_for-at.result c.index-as_slice-at.result).child) c.as_slice-2.ensures.value in
    let changed = says_below _ c.args.level c.if-level-eq0.false c.args.node.now.items _ _ within _ c.index-as_slice-at.result number left right sep marks numbers h rises (2 ^ 32) numbered least _ c.in_ok-child.ensures.read
    (λ (k : List ℕ) (ms : List Mark) (ns : List ℕ). IsChanged c.args.key.now [] c.in_ok-taken.taken.known (g.R.Records.map c.args.records.now) (g.R.Records.map c.take_in.new.records) (2 ^ 32) (2 ^ 32) (c.args.level - 1) k ms ns c.take_in.new.node.items) (rw c.in_ok-child.ensures.kept at c.in_ok-taken.ensures.taken) in
    let place = left_place c.args.level c.if-level-eq0.false c.branch_for-at.result (length c.args.node.now.items) c.requires.two (rw c.len-2.ensures.value at c.if-at-len.false) in
    rw (p.1, p.2) (fault_weaker c.in_err-join_left.field-0.0 {C = ⊥} (λ risen. tt) (λ none. no_left _ c.args.level c.if-level-eq0.false c.args.node.now.items _ _ within _ c.index-as_slice-at.result number left right sep marks numbers h rises numbered least _ _ _ _ changed (c.branch_for-at.result - 1) place (none.1 no_item)) (λ no. no) c.in_err-join_left.ensures.failed)

pub returns-in_err-join_left-clause-failed : goal.returns-in_err-join_left-clause-failed
returns-in_err-join_left-clause-failed g t c =
    let p = err_from_is_err_and c.from_residual-in_err-join_left.result c.from_residual-in_err-join_left.ensures.1 in
    let within = rw c.as_slice.ensures.value at c.branch_for-at.ensures.within in
    let place = left_place c.args.level c.if-level-eq0.false c.branch_for-at.result (length c.args.node.now.items) c.requires.two (rw c.len-2.ensures.value at c.if-at-len.false) in
    rw (p.1, p.2) (fault_weaker c.in_err-join_left.field-0.0 {C = ⊥} (risen_after _ _ _ (le_trans c.in_ok-child.ensures.later c.in_ok-taken.ensures.later))
    (λ none. subst (λ (m : Map). IsBroken (g.R.Records.map c.args.records.now) m c.args.level c.args.node.now.items) (sym none.0) (broken_at _ c.args.level c.if-level-eq0.false c.args.node.now.items c.args.key.now _ (before_place _ _ _ place within) _ no_item refl _ (inl (none.1 no_item))))
    (λ no. no) c.in_err-join_left.ensures.failed)

pub returns-then-at-len-clause-taken : goal.returns-then-at-len-clause-taken
returns-then-at-len-clause-taken g t c = λ sep marks numbers h rises numbered least.
    let within = rw c.as_slice.ensures.value at c.branch_for-at.ensures.within in
    let left = rw c.as_slice.ensures.value at c.branch_for-at.ensures.left in
    let right = rw c.as_slice.ensures.value at c.branch_for-at.ensures.right in
    let number = ap (λ (xs : List Item). (slice_index_or xs c.branch_for-at.result c.index-as_slice-at.result).child) c.as_slice-2.ensures.value in
    let changed = says_below _ c.args.level c.if-level-eq0.false c.args.node.now.items _ _ within _ c.index-as_slice-at.result number left right sep marks numbers h rises (2 ^ 32) numbered least _ c.in_ok-child.ensures.read
    (λ (k : List ℕ) (ms : List Mark) (ns : List ℕ). IsChanged c.args.key.now [] c.in_ok-taken.taken.known (g.R.Records.map c.args.records.now) (g.R.Records.map c.take_in.new.records) (2 ^ 32) (2 ^ 32) (c.args.level - 1) k ms ns c.take_in.new.node.items) (rw c.in_ok-child.ensures.kept at c.in_ok-taken.ensures.taken) in
    let more = rw c.len-2.ensures.value at c.if-at-len.true in
    let few = fewest_most _ _ (rw (c.len.ensures.value, c.fewest-2.ensures) at c.if-len-fewest.false) in
    let some = fewest_some _ _ _ (rw c.fewest.ensures at c.in_ok-child.ensures.enough) c.in_ok-taken.ensures.few in
    took_right _ c.args.level c.if-level-eq0.false c.args.node.now.items _ _ within _ c.index-as_slice-at.result number left right sep marks numbers h rises numbered least _ _ _ _ changed _ _ more c.in_ok-join_right.ensures.done c.in_ok-taken.ensures.fit some few (key_fits _ _ _ no_item c.requires.fit more)

pub returns-then-at-len-clause-fit : goal.returns-then-at-len-clause-fit
returns-then-at-len-clause-fit g t c =
    let more = rw c.len-2.ensures.value at c.if-at-len.true in
    let few = fewest_most _ _ (rw (c.len.ensures.value, c.fewest-2.ensures) at c.if-len-fewest.false) in
    let some = fewest_some _ _ _ (rw c.fewest.ensures at c.in_ok-child.ensures.enough) c.in_ok-taken.ensures.few in
    right_fit _ _ _ _ _ _ _ c.in_ok-join_right.ensures.done more c.args.level c.if-level-eq0.false c.requires.fit c.in_ok-taken.ensures.fit some few (key_fits _ _ _ no_item c.requires.fit more)

pub returns-then-at-len-clause-less : goal.returns-then-at-len-clause-less
returns-then-at-len-clause-less g t c = settled_less _ _ _ _ _ _ _ (rw c.len-2.ensures.value at c.if-at-len.true) c.in_ok-join_right.ensures.done.settled

pub returns-then-at-len-clause-few : goal.returns-then-at-len-clause-few
returns-then-at-len-clause-few g t c = settled_few _ _ _ _ _ _ _ (rw c.len-2.ensures.value at c.if-at-len.true) c.in_ok-join_right.ensures.done.settled

pub returns-clause-taken : goal.returns-clause-taken
returns-clause-taken g t c = λ sep marks numbers h rises numbered least.
    let within = rw c.as_slice.ensures.value at c.branch_for-at.ensures.within in
    let left = rw c.as_slice.ensures.value at c.branch_for-at.ensures.left in
    let right = rw c.as_slice.ensures.value at c.branch_for-at.ensures.right in
    let number = ap (λ (xs : List Item). (slice_index_or xs c.branch_for-at.result c.index-as_slice-at.result).child) c.as_slice-2.ensures.value in
    let changed = says_below _ c.args.level c.if-level-eq0.false c.args.node.now.items _ _ within _ c.index-as_slice-at.result number left right sep marks numbers h rises (2 ^ 32) numbered least _ c.in_ok-child.ensures.read
    (λ (k : List ℕ) (ms : List Mark) (ns : List ℕ). IsChanged c.args.key.now [] c.in_ok-taken.taken.known (g.R.Records.map c.args.records.now) (g.R.Records.map c.take_in.new.records) (2 ^ 32) (2 ^ 32) (c.args.level - 1) k ms ns c.take_in.new.node.items) (rw c.in_ok-child.ensures.kept at c.in_ok-taken.ensures.taken) in
    let place = left_place c.args.level c.if-level-eq0.false c.branch_for-at.result (length c.args.node.now.items) c.requires.two (rw c.len-2.ensures.value at c.if-at-len.false) in
    let few = fewest_most _ _ (rw (c.len.ensures.value, c.fewest-2.ensures) at c.if-len-fewest.false) in
    let some = fewest_some _ _ _ (rw c.fewest.ensures at c.in_ok-child.ensures.enough) c.in_ok-taken.ensures.few in
    took_left _ c.args.level c.if-level-eq0.false c.args.node.now.items _ _ within _ c.index-as_slice-at.result number left right sep marks numbers h rises numbered least _ _ _ _ changed _ _ (c.branch_for-at.result - 1) place c.in_ok-join_left.ensures.done c.in_ok-taken.ensures.fit few (key_fits _ _ _ no_item c.requires.fit (same_place _ _ _ place within))

pub returns-clause-fit : goal.returns-clause-fit
returns-clause-fit g t c =
    let within = rw c.as_slice.ensures.value at c.branch_for-at.ensures.within in
    let place = left_place c.args.level c.if-level-eq0.false c.branch_for-at.result (length c.args.node.now.items) c.requires.two (rw c.len-2.ensures.value at c.if-at-len.false) in
    let few = fewest_most _ _ (rw (c.len.ensures.value, c.fewest-2.ensures) at c.if-len-fewest.false) in
    let some = fewest_some _ _ _ (rw c.fewest.ensures at c.in_ok-child.ensures.enough) c.in_ok-taken.ensures.few in
    left_fit _ _ _ _ _ _ _ c.in_ok-join_left.ensures.done (same_place _ _ _ place within) c.args.level c.if-level-eq0.false c.requires.fit c.in_ok-taken.ensures.fit few (key_fits _ _ _ no_item c.requires.fit (same_place _ _ _ place within))

pub returns-clause-less : goal.returns-clause-less
returns-clause-less g t c =
    let within = rw c.as_slice.ensures.value at c.branch_for-at.ensures.within in
    let place = left_place c.args.level c.if-level-eq0.false c.branch_for-at.result (length c.args.node.now.items) c.requires.two (rw c.len-2.ensures.value at c.if-at-len.false) in
    settled_less _ _ _ _ _ _ _ (same_place _ _ _ place within) c.in_ok-join_left.ensures.done.settled

pub returns-clause-few : goal.returns-clause-few
returns-clause-few g t c =
    let within = rw c.as_slice.ensures.value at c.branch_for-at.ensures.within in
    let place = left_place c.args.level c.if-level-eq0.false c.branch_for-at.result (length c.args.node.now.items) c.requires.two (rw c.len-2.ensures.value at c.if-at-len.false) in
    settled_few _ _ _ _ _ _ _ (same_place _ _ _ place within) c.in_ok-join_left.ensures.done.settled
