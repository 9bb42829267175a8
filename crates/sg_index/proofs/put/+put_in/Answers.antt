use Rattle.std.proofs.Common.{[], ◌∷◌, ◌-◌, arith, ℕ, List, ap, ◌∙◌, inl, inr, slice_index_or}
use Rattle.std.specs.Prelude.{⊤}
use Rattle.std.proofs.Math.Nat.{le_trans}
use Rattle.std.proofs.lemmas.Result.{err_from_is_err_and}
use Rattle.sg_index.specs.declared.item.Item.{Item}
use Rattle.sg_index.specs.Fault.{MatchFault}
use Rattle.sg_index.specs.Tree.{Mark}
use Rattle.sg_index.specs.Change.{IsChanged}
use Rattle.sg_index.proofs.Halves.{half_within}
use Rattle.sg_index.proofs.Fitting.{separator_fits, fit_more}
use Rattle.sg_index.proofs.Faults.{risen_after, fault_weaker}
use Rattle.sg_index.proofs.Putting.{leaf_changed, has_node, broken_at, says_below, new_least, new_divided, too_many, more_too, put_divided, put_kept, grown_enough, can_few}
use Rattle.sg_index.proofs.put.+put_in.Goals as goal

pub returns-then-level-eq0-clause-put : goal.returns-then-level-eq0-clause-put
returns-then-level-eq0-clause-put g t c = λ sep marks numbers h rises numbered least.
    leaf_changed _ c.args.level c.args.next.now c.if-level-eq0.true _ sep _ _ _ _ marks numbers h rises least c.put_entry-known.ensures.edited

pub returns-in_err-child-clause-put : goal.returns-in_err-child-clause-put
returns-in_err-child-clause-put g t c = λ sep marks numbers h rises numbered least.
    let p = err_from_is_err_and c.from_residual.result c.from_residual.ensures.1 in
    let within = rw c.as_slice.ensures.value at c.branch_for-at.ensures.within in
    let left = rw c.as_slice.ensures.value at c.branch_for-at.ensures.left in
    let right = rw c.as_slice.ensures.value at c.branch_for-at.ensures.right in
    let number = ap (λ (xs : List Item). (slice_index_or xs c.branch_for-at.result c.index-as_slice-at.result).child) c.as_slice-2.ensures.value in
    rw (p.1, p.2) (fault_weaker c.in_err-child.field-0.0 {C = ⊥} (λ risen. tt)
    (λ none. has_node _ c.args.level c.if-level-eq0.false c.args.node.now.items _ _ within _ c.index-as_slice-at.result number left right sep marks numbers h rises c.args.next.now numbered least _ c.fewest.ensures none)
    (λ no. absurd no) c.in_err-child.ensures.failed)

pub returns-in_err-child-clause-failed : goal.returns-in_err-child-clause-failed
returns-in_err-child-clause-failed g t c =
    let p = err_from_is_err_and c.from_residual.result c.from_residual.ensures.1 in
    let within = rw c.as_slice.ensures.value at c.branch_for-at.ensures.within in
    let number = ap (λ (xs : List Item). (slice_index_or xs c.branch_for-at.result c.index-as_slice-at.result).child) c.as_slice-2.ensures.value in
    rw (p.1, p.2) (fault_weaker c.in_err-child.field-0.0 {C = ⊥} (λ risen. risen)
    (λ none. broken_at _ c.args.level c.if-level-eq0.false c.args.node.now.items c.args.key.now _ within _ c.index-as_slice-at.result number _ (inl (rw c.fewest.ensures at none)))
    (λ no. absurd no) c.in_err-child.ensures.failed)

pub returns-in_err-put-clause-put : goal.returns-in_err-put-clause-put
returns-in_err-put-clause-put g t c = λ sep marks numbers h rises numbered least.
    let p = err_from_is_err_and c.from_residual-in_err-put.result c.from_residual-in_err-put.ensures.1 in
    let within = rw c.as_slice.ensures.value at c.branch_for-at.ensures.within in
    let left = rw c.as_slice.ensures.value at c.branch_for-at.ensures.left in
    let right = rw c.as_slice.ensures.value at c.branch_for-at.ensures.right in
    let number = ap (λ (xs : List Item). (slice_index_or xs c.branch_for-at.result c.index-as_slice-at.result).child) c.as_slice-2.ensures.value in
    rw (p.1, p.2) (says_below _ c.args.level c.if-level-eq0.false c.args.node.now.items _ _ within _ c.index-as_slice-at.result number left right sep marks numbers h rises c.args.next.now numbered least _ c.in_ok-child.ensures.read
    (λ (k : List ℕ) (ms : List Mark) (ns : List ℕ). MatchFault c.in_err-put.field-0.0 ⊤ ⊥ ⊤) (rw c.in_ok-child.ensures.kept at c.in_err-put.ensures.put))

pub returns-in_err-put-clause-failed : goal.returns-in_err-put-clause-failed
returns-in_err-put-clause-failed g t c =
    let p = err_from_is_err_and c.from_residual-in_err-put.result c.from_residual-in_err-put.ensures.1 in
    let within = rw c.as_slice.ensures.value at c.branch_for-at.ensures.within in
    let way = rw c.as_slice.ensures.value at c.branch_for-at.ensures.way c.index-as_slice-at.result in
    let number = ap (λ (xs : List Item). (slice_index_or xs c.branch_for-at.result c.index-as_slice-at.result).child) c.as_slice-2.ensures.value in
    rw (p.1, p.2) (fault_weaker c.in_err-put.field-0.0 (risen_after _ _ _ c.in_ok-child.ensures.later)
    (λ broken. broken_at _ c.args.level c.if-level-eq0.false c.args.node.now.items c.args.key.now _ within _ c.index-as_slice-at.result number _ (inr (_, c.in_ok-child.ensures.read, broken)))
    (λ many. more_too _ _ _ many ((new_least _ c.args.level c.if-level-eq0.false c.args.node.now.items c.args.key.now _ within _ c.index-as_slice-at.result number (number ∙ way) _ c.in_ok-child.ensures.read))) (rw c.in_ok-child.ensures.kept at c.in_err-put.ensures.failed))

pub returns-in_err-branch-clause-failed : goal.returns-in_err-branch-clause-failed
returns-in_err-branch-clause-failed g t c =
    let p = err_from_is_err_and c.from_residual-in_err-branch.result c.from_residual-in_err-branch.ensures.1 in
    let within = rw c.as_slice.ensures.value at c.branch_for-at.ensures.within in
    let way = rw c.as_slice.ensures.value at c.branch_for-at.ensures.way c.index-as_slice-at.result in
    let number = ap (λ (xs : List Item). (slice_index_or xs c.branch_for-at.result c.index-as_slice-at.result).child) c.as_slice-2.ensures.value in
    let size = rw c.in_ok-child.ensures.kept at c.in_ok-put.ensures.size in
    let next = rw c.in_ok-child.ensures.kept at c.in_ok-put.ensures.next in
    let more = rw (c.len.ensures.value, c.most.ensures) at c.if-len-most.true in
    rw (p.1, p.2) (fault_weaker c.in_err-branch.field-0.0 {B = ⊥} (risen_after _ _ _ (le_trans c.in_ok-child.ensures.later c.in_ok-put.ensures.later)) (λ never. absurd never)
    (λ full. too_many _ _ _ _ _ full next (new_divided _ c.args.level c.if-level-eq0.false c.args.node.now.items c.args.key.now _ within _ c.index-as_slice-at.result number (number ∙ way) _ c.in_ok-child.ensures.read _ size more)) c.in_err-branch.ensures.failed)

pub returns-then-len-most-clause-put : goal.returns-then-len-most-clause-put
returns-then-len-most-clause-put g t c = λ sep marks numbers h rises numbered least.
    let within = rw c.as_slice.ensures.value at c.branch_for-at.ensures.within in
    let left = rw c.as_slice.ensures.value at c.branch_for-at.ensures.left in
    let right = rw c.as_slice.ensures.value at c.branch_for-at.ensures.right in
    let number = ap (λ (xs : List Item). (slice_index_or xs c.branch_for-at.result c.index-as_slice-at.result).child) c.as_slice-2.ensures.value in
    let more = rw (c.len.ensures.value, c.most.ensures) at c.if-len-most.true in
    let few = rw c.len.ensures.value at c.len.ensures.fits in
    let changed = says_below _ c.args.level c.if-level-eq0.false c.args.node.now.items _ _ within _ c.index-as_slice-at.result number left right sep marks numbers h rises c.args.next.now numbered least _ c.in_ok-child.ensures.read
    (λ (k : List ℕ) (ms : List Mark) (ns : List ℕ). IsChanged c.args.key.now ((c.args.key.now, c.args.value.now) ∷ []) c.in_ok-put.put.known (g.R.Records.map c.args.records.now) (g.R.Records.map c.put_in.new.records) c.args.next.now c.put_in.new.next (c.args.level - 1) k ms ns c.put_in.new.node.items) (rw c.in_ok-child.ensures.kept at c.in_ok-put.ensures.put) in
    put_divided _ c.args.level c.if-level-eq0.false c.args.node.now.items _ _ within _ c.index-as_slice-at.result number left right sep marks numbers h rises c.args.next.now numbered least _ c.in_ok-child.ensures.read
    _ _ _ _ _ changed _ _ c.in_ok-branch.branch _ c.in_ok-branch.ensures.halves c.in_ok-put.ensures.fit more few c.in_ok-branch.ensures.value c.in_ok-branch.ensures.child (omega (arith, c.in_ok-branch.ensures.small)) c.in_ok-branch.ensures.next c.insert.ensures.items

pub returns-then-len-most-clause-fit : goal.returns-then-len-most-clause-fit
returns-then-len-most-clause-fit g t c =
    let within = rw c.as_slice.ensures.value at c.branch_for-at.ensures.within in
    let more = rw (c.len.ensures.value, c.most.ensures) at c.if-len-most.true in
    let few = rw c.len.ensures.value at c.len.ensures.fits in
    let short = separator_fits _ c.put_in.new.node.items _ _ c.in_ok-put.ensures.fit (half_within _ c.put_in.new.node.items more few) c.in_ok-branch.ensures.halves.separator_is in
    fit_more c.args.level c.if-level-eq0.false c.branch_for-at.result c.args.node.now.items _ c.in_ok-branch.branch within c.requires.fit short c.in_ok-branch.ensures.value (omega (arith, c.in_ok-branch.ensures.child, c.in_ok-branch.ensures.small)) c.insert.ensures.items

pub returns-clause-put : goal.returns-clause-put
returns-clause-put g t c = λ sep marks numbers h rises numbered least.
    let within = rw c.as_slice.ensures.value at c.branch_for-at.ensures.within in
    let left = rw c.as_slice.ensures.value at c.branch_for-at.ensures.left in
    let right = rw c.as_slice.ensures.value at c.branch_for-at.ensures.right in
    let number = ap (λ (xs : List Item). (slice_index_or xs c.branch_for-at.result c.index-as_slice-at.result).child) c.as_slice-2.ensures.value in
    let few = rw (c.len.ensures.value, c.most.ensures) at c.if-len-most.false in
    let size = rw c.in_ok-child.ensures.kept at c.in_ok-put.ensures.size in
    let enough = grown_enough _ _ c.in_ok-child.child.items _ _ _ size (rw c.fewest.ensures at c.in_ok-child.ensures.enough) in
    let written = rw c.as_slice-3.ensures.value at c.in_ok-keep_node.ensures.written in
    let changed = says_below _ c.args.level c.if-level-eq0.false c.args.node.now.items _ _ within _ c.index-as_slice-at.result number left right sep marks numbers h rises c.args.next.now numbered least _ c.in_ok-child.ensures.read
    (λ (k : List ℕ) (ms : List Mark) (ns : List ℕ). IsChanged c.args.key.now ((c.args.key.now, c.args.value.now) ∷ []) c.in_ok-put.put.known (g.R.Records.map c.args.records.now) (g.R.Records.map c.put_in.new.records) c.args.next.now c.put_in.new.next (c.args.level - 1) k ms ns c.put_in.new.node.items) (rw c.in_ok-child.ensures.kept at c.in_ok-put.ensures.put) in
    put_kept _ c.args.level c.if-level-eq0.false c.args.node.now.items _ _ within _ c.index-as_slice-at.result number left right sep marks numbers h rises c.args.next.now numbered least _ c.in_ok-child.ensures.read
    _ _ _ _ _ changed _ c.in_ok-put.put.changed written c.in_ok-put.ensures.same c.in_ok-put.ensures.fit (can_few _ _ few enough) enough
