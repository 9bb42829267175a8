use Rattle.std.proofs.Common.{◌∙◌, ap, ◌≡◌, Some, List, ℕ, ◌++◌, ◌∷◌, [], Option}
use Rattle.sg_index.specs.declared.item.Item.{Item}
use Rattle.sg_index.specs.Node.{entry}
use Rattle.sg_index.proofs.Reading.{entry_none_1, entry_none_2, entry_none_3, entry_none_4, entry_key_long, entry_value_long, entry_some}
use Rattle.sg_index.proofs.node.read_entry.Goals as goal
use Rattle.sg_index.proofs.node.read_entry.Goals.{then-key-gt-MOST-via-then-key-gt-MOST, then-key-gt-MOST-via-else-key-gt-MOST+then-value-gt-MOST}

pub returns-in_err-key_size-clause-read : goal.returns-in_err-key_size-clause-read
returns-in_err-key_size-clause-read c = rw c.from_residual.ensures (entry_none_1 _ _ c.in_err-key_size.ensures)

pub returns-in_err-value_size-clause-read : goal.returns-in_err-value_size-clause-read
returns-in_err-value_size-clause-read c = rw c.from_residual-in_err-value_size.ensures (entry_none_2 _ _ _ _ c.in_ok-key_size.ensures c.in_err-value_size.ensures)

pub returns-in_err-key-clause-read : goal.returns-in_err-key-clause-read
returns-in_err-key-clause-read c = rw c.from_residual-in_err-key.ensures (entry_none_3 _ _ _ _ c.in_ok-key_size.ensures _ _ c.in_ok-value_size.ensures c.in_err-key.ensures)

pub returns-in_err-value-clause-read : goal.returns-in_err-value-clause-read
returns-in_err-value-clause-read c = rw c.from_residual-in_err-value.ensures (entry_none_4 _ _ _ _ c.in_ok-key_size.ensures _ _ c.in_ok-value_size.ensures _ _ c.in_ok-key.ensures c.in_err-value.ensures)

pub returns-then-key-gt-MOST-clause-read : goal.returns-then-key-gt-MOST-clause-read
returns-then-key-gt-MOST-clause-read c =
    elim c.then-key-gt-MOST.branch [
      | then-key-gt-MOST-via-then-key-gt-MOST w ↦ entry_key_long _ _ _ _ c.in_ok-key_size.ensures _ _ c.in_ok-value_size.ensures _ _ c.in_ok-key.ensures _ _ c.in_ok-value.ensures w.if-key-gt-MOST.true
      | then-key-gt-MOST-via-else-key-gt-MOST+then-value-gt-MOST w ↦ entry_value_long _ _ _ _ c.in_ok-key_size.ensures _ _ c.in_ok-value_size.ensures _ _ c.in_ok-key.ensures _ _ c.in_ok-value.ensures w.if-value-gt-MOST.true
    ]

pub returns-clause-read : goal.returns-clause-read
returns-clause-read c =
    let same : c.push.new.self.items ≡ c.args.node.now.items ++ entry c.in_ok-key.key.now c.in_ok-value.value.now ∷ [] = c.push.ensures.items ∙ ap (λ (key : List ℕ). c.args.node.now.items ++ (entry key c.new-2.result ∷ [])) c.new.ensures ∙ ap (λ (value : List ℕ). c.args.node.now.items ++ (entry c.in_ok-key.key.now value ∷ [])) c.new-2.ensures in
    ap (λ (items : List Item). let o : Option (List Item × List ℕ) = Some (items, c.in_ok-value.rest.now) in o) same
    ∙ entry_some _ _ _ _ c.in_ok-key_size.ensures _ _ c.in_ok-value_size.ensures _ _ c.in_ok-key.ensures _ _ c.in_ok-value.ensures c.if-key-gt-MOST.false c.if-value-gt-MOST.false
