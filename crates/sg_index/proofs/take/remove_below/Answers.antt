use Rattle.std.proofs.Common.{◌-◌, ◌^◌, [], ℕ, List, subst}
use Rattle.std.specs.Prelude.{⊤}
use Rattle.std.proofs.lemmas.Result.{err_from_is_err_and}
use Rattle.sg_index.specs.Fault.{MatchFault}
use Rattle.sg_index.specs.Index.{IsIndex}
use Rattle.sg_index.specs.Tree.{Mark}
use Rattle.sg_index.specs.Change.{IsChanged}
use Rattle.sg_index.proofs.Faults.{fault_weaker}
use Rattle.sg_index.proofs.Trees.{tree_at, index_at, root_has_node, says_key, without_edited, told_all}
use Rattle.sg_index.proofs.Removing.{only_child, tree_less, tree_lowered, none_numbered, one_left, can_left}
use Rattle.sg_index.proofs.take.remove_below.Goals as goal

pub returns-in_err-root-clause-taken : goal.returns-in_err-root-clause-taken
returns-in_err-root-clause-taken g c = λ entries index.
    let p = err_from_is_err_and c.from_residual.result c.from_residual.ensures.1 in
    let t = tree_at _ entries c.args.header index c.requires.header in
    rw (p.1, p.2) (fault_weaker c.in_err-root.field-0.0 {C = ⊥} (λ risen. tt) (λ none. root_has_node _ entries c.args.header t _ c.root_fewest.ensures none) (λ no. no) c.in_err-root.ensures.failed)

pub returns-in_err-taken-clause-taken : goal.returns-in_err-taken-clause-taken
returns-in_err-taken-clause-taken g c = λ entries index.
    let p = err_from_is_err_and c.from_residual-in_err-taken.result c.from_residual-in_err-taken.ensures.1 in
    let t = tree_at _ entries c.args.header index c.requires.header in
    rw (p.1, p.2) (says_key _ entries c.args.header t _ c.in_ok-root.ensures.read c.args.key.now (2 ^ 32) (λ (k : List ℕ) (ms : List Mark) (ns : List ℕ). MatchFault c.in_err-taken.field-0.0 ⊤ ⊥ ⊥) (none_numbered _ entries c.args.header t) (rw c.in_ok-root.ensures.kept at c.in_err-taken.ensures.taken))

pub returns-then-len-root_fewest-clause-taken : goal.returns-then-len-root_fewest-clause-taken
returns-then-len-root_fewest-clause-taken g c = λ entries index.
    let t = tree_at _ entries c.args.header index c.requires.header in
    let changed = says_key _ entries c.args.header t _ c.in_ok-root.ensures.read c.args.key.now (2 ^ 32)
    (λ (k : List ℕ) (ms : List Mark) (ns : List ℕ). IsChanged c.args.key.now [] c.in_ok-taken.taken.known (g.R.Records.map c.args.records.now) (g.R.Records.map c.take_in.new.records) (2 ^ 32) (2 ^ 32) (c.args.header.height - 1) k ms ns c.take_in.new.node.items)
    (none_numbered _ entries c.args.header t) (rw c.in_ok-root.ensures.kept at c.in_ok-taken.ensures.taken) in
    let less = rw (c.len.ensures.value, c.root_fewest-2.ensures) at c.if-len-root_fewest.true in
    let one = one_left _ _ _ (rw c.root_fewest.ensures at c.in_ok-root.ensures.enough) c.in_ok-taken.ensures.few less in
    let child = only_child c.as_slice.result.now c.take_in.new.node.items c.index-as_slice-0.result c.as_slice.ensures.value one.0 in
    let now = tree_lowered _ _ entries c.args.header t _ _ _ _ changed c.requires.root tt _ one.1 one.0 _ _ child c.in_ok-lower.ensures.lowered c.requires.high c.requires.next in
    subst (IsIndex (g.R.Records.map c.lower.new.records)) (without_edited entries c.args.key.now) (index_at _ _ _ now)

pub returns-then-len-root_fewest-clause-known : goal.returns-then-len-root_fewest-clause-known
returns-then-len-root_fewest-clause-known g c = λ entries index.
    let t = tree_at _ entries c.args.header index c.requires.header in
    let changed = says_key _ entries c.args.header t _ c.in_ok-root.ensures.read c.args.key.now (2 ^ 32)
    (λ (k : List ℕ) (ms : List Mark) (ns : List ℕ). IsChanged c.args.key.now [] c.in_ok-taken.taken.known (g.R.Records.map c.args.records.now) (g.R.Records.map c.take_in.new.records) (2 ^ 32) (2 ^ 32) (c.args.header.height - 1) k ms ns c.take_in.new.node.items)
    (none_numbered _ entries c.args.header t) (rw c.in_ok-root.ensures.kept at c.in_ok-taken.ensures.taken) in
    told_all t _ _ changed.edited.told

pub returns-clause-taken : goal.returns-clause-taken
returns-clause-taken g c = λ entries index.
    let t = tree_at _ entries c.args.header index c.requires.header in
    let changed = says_key _ entries c.args.header t _ c.in_ok-root.ensures.read c.args.key.now (2 ^ 32)
    (λ (k : List ℕ) (ms : List Mark) (ns : List ℕ). IsChanged c.args.key.now [] c.in_ok-taken.taken.known (g.R.Records.map c.args.records.now) (g.R.Records.map c.take_in.new.records) (2 ^ 32) (2 ^ 32) (c.args.header.height - 1) k ms ns c.take_in.new.node.items)
    (none_numbered _ entries c.args.header t) (rw c.in_ok-root.ensures.kept at c.in_ok-taken.ensures.taken) in
    let enough = rw (c.len.ensures.value, c.root_fewest-2.ensures) at c.if-len-root_fewest.false in
    let written = rw c.as_slice-2.ensures.value at c.in_ok-keep_node.ensures.written in
    let now = tree_less _ _ entries c.args.header t _ _ _ _ changed c.requires.root tt _ c.in_ok-taken.taken.changed _ c.in_ok-root.ensures.read written c.in_ok-taken.ensures.same c.in_ok-taken.ensures.fit (can_left _ _ _ c.in_ok-root.ensures.size c.in_ok-taken.ensures.less enough) enough in
    subst (IsIndex (g.R.Records.map c.keep_node.new.records)) (without_edited entries c.args.key.now) (index_at _ _ _ now)

pub returns-clause-known : goal.returns-clause-known
returns-clause-known g c = λ entries index.
    let t = tree_at _ entries c.args.header index c.requires.header in
    let changed = says_key _ entries c.args.header t _ c.in_ok-root.ensures.read c.args.key.now (2 ^ 32)
    (λ (k : List ℕ) (ms : List Mark) (ns : List ℕ). IsChanged c.args.key.now [] c.in_ok-taken.taken.known (g.R.Records.map c.args.records.now) (g.R.Records.map c.take_in.new.records) (2 ^ 32) (2 ^ 32) (c.args.header.height - 1) k ms ns c.take_in.new.node.items)
    (none_numbered _ entries c.args.header t) (rw c.in_ok-root.ensures.kept at c.in_ok-taken.ensures.taken) in
    told_all t _ _ changed.edited.told
