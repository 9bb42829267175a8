use Rattle.std.proofs.Common.{◌∙◌, ap, ◌≡◌, Some, List, ℕ, ◌++◌, ◌∷◌, [], Option}
use Rattle.sg_index.specs.declared.item.Item.{Item}
use Rattle.sg_index.specs.Node.{branch}
use Rattle.sg_index.proofs.Reading.{branch_none_1, branch_none_2, branch_long, branch_some}
use Rattle.sg_index.proofs.node.read_branch.Goals as goal

pub returns-in_err-size-clause-read : goal.returns-in_err-size-clause-read
returns-in_err-size-clause-read c = rw c.from_residual.ensures (branch_none_1 _ _ _ c.in_err-size.ensures)

pub returns-in_err-key-clause-read : goal.returns-in_err-key-clause-read
returns-in_err-key-clause-read c = rw c.from_residual-in_err-key.ensures (branch_none_2 _ _ _ _ c.in_ok-size.ensures _ c.in_err-key.ensures)

pub returns-then-key-gt-MOST-clause-read : goal.returns-then-key-gt-MOST-clause-read
returns-then-key-gt-MOST-clause-read c = branch_long _ _ _ _ c.in_ok-size.ensures _ _ _ c.in_ok-key.ensures c.if-key-gt-MOST.true

pub returns-clause-read : goal.returns-clause-read
returns-clause-read c =
    let same : c.push.new.self.items ≡ c.args.node.now.items ++ branch c.in_ok-key.key.now c.args.child ∷ [] = c.push.ensures.items ∙ ap (λ (key : List ℕ). c.args.node.now.items ++ (record { key = key; value = c.default.result; child = c.args.child } ∷ [])) c.new.ensures ∙ ap (λ (value : List ℕ). c.args.node.now.items ++ (record { key = c.in_ok-key.key.now; value = value; child = c.args.child } ∷ [])) c.default.ensures in
    ap (λ (items : List Item). let o : Option (List Item × List ℕ) = Some (items, c.in_ok-key.rest.now) in o) same ∙ branch_some _ _ _ _ c.in_ok-size.ensures _ _ _ c.in_ok-key.ensures c.if-key-gt-MOST.false
