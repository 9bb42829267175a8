use Rattle.std.proofs.Common.{◌-◌, [], ◌∷◌, ℕ, List, subst}
use Rattle.std.specs.Prelude.{⊤}
use Rattle.std.proofs.lemmas.Result.{err_from_is_err_and}
use Rattle.sg_index.specs.Fault.{MatchFault}
use Rattle.sg_index.specs.Index.{IsIndex}
use Rattle.sg_index.specs.Tree.{Mark}
use Rattle.sg_index.specs.Change.{IsChanged}
use Rattle.sg_index.proofs.Faults.{fault_weaker}
use Rattle.sg_index.proofs.Trees.{tree_at, index_at, root_has_node, tree_numbered, says_key, with_edited, entry_one, told_all, not_full}
use Rattle.sg_index.proofs.Inserting.{tree_kept, tree_grown}
use Rattle.sg_index.proofs.Putting.{can_root, grown_enough}
use Rattle.sg_index.proofs.put.insert_below.Goals as goal

pub returns-in_err-root-clause-put : goal.returns-in_err-root-clause-put
returns-in_err-root-clause-put g c = λ entries index.
    let p = err_from_is_err_and c.from_residual.result c.from_residual.ensures.1 in
    let t = tree_at _ entries c.args.header index c.requires.header in
    rw (p.1, p.2) (fault_weaker c.in_err-root.field-0.0 {C = ⊥} (λ risen. tt) (λ none. root_has_node _ entries c.args.header t _ c.root_fewest.ensures none) (λ no. absurd no) c.in_err-root.ensures.failed)

pub returns-in_err-put-clause-put : goal.returns-in_err-put-clause-put
returns-in_err-put-clause-put g c = λ entries index.
    let p = err_from_is_err_and c.from_residual-in_err-put.result c.from_residual-in_err-put.ensures.1 in
    let t = tree_at _ entries c.args.header index c.requires.header in
    rw (p.1, p.2) (says_key _ entries c.args.header t _ c.in_ok-root.ensures.read c.args.key.now c.args.header.next (λ (k : List ℕ) (ms : List Mark) (ns : List ℕ). MatchFault c.in_err-put.field-0.0 ⊤ ⊥ ⊤) (tree_numbered _ entries c.args.header t) (rw c.in_ok-root.ensures.kept at c.in_err-put.ensures.put))

pub returns-then-len-most-clause-put : goal.returns-then-len-most-clause-put
returns-then-len-most-clause-put g c = λ entries index.
    let t = tree_at _ entries c.args.header index c.requires.header in
    let changed = says_key _ entries c.args.header t _ c.in_ok-root.ensures.read c.args.key.now c.args.header.next
    (λ (k : List ℕ) (ms : List Mark) (ns : List ℕ). IsChanged c.args.key.now ((c.args.key.now, c.args.value.now) ∷ []) c.in_ok-put.put.known (g.R.Records.map c.args.records.now) (g.R.Records.map c.put_in.new.records) c.args.header.next c.put_in.new.next (c.args.header.height - 1) k ms ns c.put_in.new.node.items)
    (tree_numbered _ entries c.args.header t) (rw c.in_ok-root.ensures.kept at c.in_ok-put.ensures.put) in
    let more = rw (c.len.ensures.value, c.most.ensures) at c.if-len-most.true in
    let few = rw c.len.ensures.value at c.len.ensures.fits in
    let now = tree_grown _ _ entries c.args.header t _ _ _ _ _ changed c.requires.root _ c.requires.low c.requires.high c.in_ok-put.ensures.fit more few c.in_ok-grow.ensures.grown (entry_one _ _ c.requires.some c.requires.key c.requires.value) in
    subst (IsIndex (g.R.Records.map c.grow.new.records)) (with_edited entries c.args.key.now c.args.value.now) (index_at _ _ _ now)

pub returns-then-len-most-clause-known : goal.returns-then-len-most-clause-known
returns-then-len-most-clause-known g c = λ entries index.
    let t = tree_at _ entries c.args.header index c.requires.header in
    let changed = says_key _ entries c.args.header t _ c.in_ok-root.ensures.read c.args.key.now c.args.header.next
    (λ (k : List ℕ) (ms : List Mark) (ns : List ℕ). IsChanged c.args.key.now ((c.args.key.now, c.args.value.now) ∷ []) c.in_ok-put.put.known (g.R.Records.map c.args.records.now) (g.R.Records.map c.put_in.new.records) c.args.header.next c.put_in.new.next (c.args.header.height - 1) k ms ns c.put_in.new.node.items)
    (tree_numbered _ entries c.args.header t) (rw c.in_ok-root.ensures.kept at c.in_ok-put.ensures.put) in
    told_all t _ _ changed.edited.told

pub returns-clause-put : goal.returns-clause-put
returns-clause-put g c = λ entries index.
    let t = tree_at _ entries c.args.header index c.requires.header in
    let changed = says_key _ entries c.args.header t _ c.in_ok-root.ensures.read c.args.key.now c.args.header.next
    (λ (k : List ℕ) (ms : List Mark) (ns : List ℕ). IsChanged c.args.key.now ((c.args.key.now, c.args.value.now) ∷ []) c.in_ok-put.put.known (g.R.Records.map c.args.records.now) (g.R.Records.map c.put_in.new.records) c.args.header.next c.put_in.new.next (c.args.header.height - 1) k ms ns c.put_in.new.node.items)
    (tree_numbered _ entries c.args.header t) (rw c.in_ok-root.ensures.kept at c.in_ok-put.ensures.put) in
    let few = rw (c.len.ensures.value, c.most.ensures) at c.if-len-most.false in
    let size = rw c.in_ok-root.ensures.kept at c.in_ok-put.ensures.size in
    let enough = grown_enough _ _ c.in_ok-root.root.items _ _ _ size (rw c.root_fewest.ensures at c.in_ok-root.ensures.enough) in
    let written = rw c.as_slice.ensures.value at c.in_ok-keep_node.ensures.written in
    let now = tree_kept _ _ entries c.args.header t _ _ _ _ _ changed c.requires.root _ _ c.in_ok-put.put.changed _ c.in_ok-root.ensures.read written c.in_ok-put.ensures.same c.in_ok-put.ensures.fit (can_root _ _ few enough) enough c.in_ok-keep_header.ensures.headed (entry_one _ _ c.requires.some c.requires.key c.requires.value) in
    subst (IsIndex (g.R.Records.map c.keep_header.new.records)) (with_edited entries c.args.key.now c.args.value.now) (index_at _ _ _ now)

pub returns-clause-known : goal.returns-clause-known
returns-clause-known g c = λ entries index.
    let t = tree_at _ entries c.args.header index c.requires.header in
    let changed = says_key _ entries c.args.header t _ c.in_ok-root.ensures.read c.args.key.now c.args.header.next
    (λ (k : List ℕ) (ms : List Mark) (ns : List ℕ). IsChanged c.args.key.now ((c.args.key.now, c.args.value.now) ∷ []) c.in_ok-put.put.known (g.R.Records.map c.args.records.now) (g.R.Records.map c.put_in.new.records) c.args.header.next c.put_in.new.next (c.args.header.height - 1) k ms ns c.put_in.new.node.items)
    (tree_numbered _ entries c.args.header t) (rw c.in_ok-root.ensures.kept at c.in_ok-put.ensures.put) in
    told_all t _ _ changed.edited.told

pub returns-clause-few : goal.returns-clause-few
returns-clause-few g c =
    let few = rw (c.len.ensures.value, c.most.ensures) at c.if-len-most.false in
    let size = rw c.in_ok-root.ensures.kept at c.in_ok-put.ensures.size in
    let next = rw c.in_ok-root.ensures.kept at c.in_ok-put.ensures.next in
    not_full _ c.args.key.now c.args.header _ _ _ c.requires.header c.in_ok-root.ensures.read next size few c.in_ok-keep_header.ensures.fits
