-- What was spelled is read back.
use Rattle.std.proofs.Common.{◌≡◌, ℕ, suc, ◌+◌, ◌-◌, ◌<◌, ◌≤◌, ◌^◌, Bool, true, false, List, [], ◌∷◌, ◌++◌, length, map, Option, Some, refl, sym, ap, ◌∙◌, arith, append-nil, append_assoc, add-one}
use Rattle.std.specs.List.{flat_map, AllByRecursion}
use Rattle.byteorder.specs.Endian.{little_bytes}
use Rattle.sg_base.specs.Forms.{read_number, read_text}
use Rattle.sg_base.proofs.Forms.{number_exact, text_exact}
use Rattle.sg_index.specs.declared.item.Item.{Item}
use Rattle.sg_index.specs.Node.{entry, branch, IsEntry, IsBranch, AreBranches, AreFit, CanBe, spelled_entry, spelled_child, spelled_separator, spelled_leaf, spelled_inner, spelled, read_entry, read_branch, read_entries, read_children, read_branches, read_head, read_leaf, read_inner, read_node}
use Rattle.sg_index.proofs.Reading.{entry_some, branch_some}
use Rattle.sg_index.proofs.Steps.{head_some, leaf_some, inner_some}

-- a number, and a text, at the front of some bytes
pub number_back : (size n : ℕ) (rest : List ℕ) → n < 256 ^ size → Some (n, rest) ≡ read_number size (little_bytes size n ++ rest)
number_back size n rest fits = sym ((number_exact size).back n rest fits)

text_back : (key rest : List ℕ) → Some (key, rest) ≡ read_text (length key) (key ++ rest)
text_back key rest = sym ((text_exact (length key)).back key rest refl)

entry_back : (items : List Item) (i : Item) (rest : List ℕ) → IsEntry i → Some (items ++ i ∷ [], rest) ≡ read_entry items (spelled_entry i ++ rest)
entry_back items i rest fits =
    let bytes : List ℕ = spelled_entry i ++ rest in
    let behind : List ℕ = i.value ++ rest in
    let apart : (i.key ++ i.value) ++ rest ≡ i.key ++ behind = append_assoc i.key i.value rest in
    let texts : List ℕ = (i.key ++ i.value) ++ rest in
    let two : Some (i.key, behind) ≡ read_text (length i.key) texts = text_back i.key behind ∙ ap (read_text (length i.key)) (sym apart) in
    let same : entry i.key i.value ≡ i = ap (λ (child : ℕ). let x : Item = record { key = i.key; value = i.value; child = child } in x) (sym fits.child) in
    ap (λ (x : Item). let o : Option (List Item × List ℕ) = Some (items ++ x ∷ [], rest) in o) (sym same)
    ∙ entry_some items bytes (length i.key) (little_bytes 1 (length i.value) ++ texts) (number_back 1 (length i.key) (little_bytes 1 (length i.value) ++ texts) (omega (arith, fits.key))) (length i.value) texts (number_back 1 (length i.value) texts (omega (arith, fits.value))) i.key behind two i.value rest (text_back i.value rest) fits.key fits.value

branch_back : (items : List Item) (i : Item) (rest : List ℕ) → IsBranch i → Some (items ++ i ∷ [], rest) ≡ read_branch items i.child (spelled_separator i ++ rest)
branch_back items i rest fits =
    let same : branch i.key i.child ≡ i = ap (λ (value : List ℕ). let x : Item = record { key = i.key; value = value; child = i.child } in x) (sym fits.value) in
    ap (λ (x : Item). let o : Option (List Item × List ℕ) = Some (items ++ x ∷ [], rest) in o) (sym same)
    ∙ branch_some items (spelled_separator i ++ rest) (length i.key) (i.key ++ rest) (number_back 1 (length i.key) (i.key ++ rest) (omega (arith, fits.key))) i.child i.key rest (text_back i.key rest) fits.key

entries_back : (items more : List Item) (rest : List ℕ) → AllByRecursion IsEntry more → Some (items ++ more, rest) ≡ read_entries items (length more) (flat_map spelled_entry more ++ rest)
entries_back items [] rest fits = ap (λ (xs : List Item). let o : Option (List Item × List ℕ) = Some (xs, rest) in o) (append-nil items)
entries_back items (i ∷ more) rest fits =
    let behind : List ℕ = flat_map spelled_entry more ++ rest in
    let apart : (spelled_entry i ++ flat_map spelled_entry more) ++ rest ≡ spelled_entry i ++ behind = append_assoc (spelled_entry i) (flat_map spelled_entry more) rest in
    let here : Some (items ++ i ∷ [], behind) ≡ read_entry items ((spelled_entry i ++ flat_map spelled_entry more) ++ rest) = entry_back items i behind fits.0 ∙ ap (read_entry items) (sym apart) in
    let all : Some ((items ++ i ∷ []) ++ more, rest) ≡ read_entries (items ++ i ∷ []) (length more) behind = entries_back (items ++ i ∷ []) more rest fits.1 in
    ap (λ (xs : List Item). let o : Option (List Item × List ℕ) = Some (xs, rest) in o) (sym (append_assoc items (i ∷ []) more))
    ∙ (all ∙ rw (← here) refl)

abbrev child_of : Item → ℕ
child_of i = i.child

children_back : (children : List ℕ) (more : List Item) (rest : List ℕ) → AllByRecursion (λ i. i.child < 2 ^ 32) more → Some (children ++ map child_of more, rest) ≡ read_children children (length more) (flat_map spelled_child more ++ rest)
children_back children [] rest fits = ap (λ (xs : List ℕ). let o : Option (List ℕ × List ℕ) = Some (xs, rest) in o) (append-nil children)
children_back children (i ∷ more) rest fits =
    let behind : List ℕ = flat_map spelled_child more ++ rest in
    let apart : (spelled_child i ++ flat_map spelled_child more) ++ rest ≡ spelled_child i ++ behind = append_assoc (spelled_child i) (flat_map spelled_child more) rest in
    let here : Some (i.child, behind) ≡ read_number 4 ((spelled_child i ++ flat_map spelled_child more) ++ rest) = number_back 4 i.child behind fits.0 ∙ ap (read_number 4) (sym apart) in
    let all : Some ((children ++ i.child ∷ []) ++ map child_of more, rest) ≡ read_children (children ++ i.child ∷ []) (length more) behind = children_back (children ++ i.child ∷ []) more rest fits.1 in
    ap (λ (xs : List ℕ). let o : Option (List ℕ × List ℕ) = Some (xs, rest) in o) (sym (append_assoc children (i.child ∷ []) (map child_of more)))
    ∙ (all ∙ rw (← here) refl)

branches_back : (items more : List Item) (rest : List ℕ) → AllByRecursion IsBranch more → Some (items ++ more, rest) ≡ read_branches items (map child_of more) (flat_map spelled_separator more ++ rest)
branches_back items [] rest fits = ap (λ (xs : List Item). let o : Option (List Item × List ℕ) = Some (xs, rest) in o) (append-nil items)
branches_back items (i ∷ more) rest fits =
    let behind : List ℕ = flat_map spelled_separator more ++ rest in
    let apart : (spelled_separator i ++ flat_map spelled_separator more) ++ rest ≡ spelled_separator i ++ behind = append_assoc (spelled_separator i) (flat_map spelled_separator more) rest in
    let here : Some (items ++ i ∷ [], behind) ≡ read_branch items i.child ((spelled_separator i ++ flat_map spelled_separator more) ++ rest) = branch_back items i behind fits.0 ∙ ap (read_branch items i.child) (sym apart) in
    let all : Some ((items ++ i ∷ []) ++ more, rest) ≡ read_branches (items ++ i ∷ []) (map child_of more) behind = branches_back (items ++ i ∷ []) more rest fits.1 in
    ap (λ (xs : List Item). let o : Option (List Item × List ℕ) = Some (xs, rest) in o) (sym (append_assoc items (i ∷ []) more))
    ∙ (all ∙ rw (← here) refl)

head_back : (tag count : ℕ) (rest : List ℕ) → tag < 256 → count ≤ 14 → Some (count, rest) ≡ read_head tag (little_bytes 1 tag ++ (little_bytes 1 count ++ rest))
head_back tag count rest small few =
    head_some tag (little_bytes 1 tag ++ (little_bytes 1 count ++ rest)) tag (little_bytes 1 count ++ rest) (number_back 1 tag (little_bytes 1 count ++ rest) (omega (arith, small))) count rest (number_back 1 count rest (omega (arith, few))) refl few

leaf_back : (items : List Item) → AllByRecursion IsEntry items → length items ≤ 14 → Some items ≡ read_leaf (spelled_leaf items)
unfolding spelled_leaf
leaf_back items fits few =
    let bytes : List ℕ = flat_map spelled_entry items in
    let all : Some (items, []) ≡ read_entries [] (length items) bytes = entries_back [] items [] fits ∙ ap (read_entries [] (length items)) (append-nil bytes) in
    leaf_some (little_bytes 1 0 ++ (little_bytes 1 (length items) ++ bytes)) (length items) bytes items [] (head_back 0 (length items) bytes (omega arith) few) all refl

small_children : (items : List Item) → AllByRecursion IsBranch items → AllByRecursion (λ i. i.child < 2 ^ 32) items
small_children [] fits = fits
small_children (i ∷ is) fits = (fits.0.child, small_children is fits.1)

inner_cons : (i : Item) (is : List Item) → AreBranches (i ∷ is) → length (i ∷ is) ≤ 15 → Some (i ∷ is) ≡ read_inner (spelled_inner (i ∷ is))
unfolding spelled_inner
inner_cons i is fits few =
    let separators : List ℕ = flat_map spelled_separator is in
    let children : List ℕ = flat_map spelled_child (i ∷ is) in
    let count : suc (length is) - 1 ≡ length is = omega arith in
    let bytes : List ℕ = little_bytes 1 1 ++ (little_bytes 1 (suc (length is) - 1) ++ (children ++ separators)) in
    let head : Some (length is, children ++ separators) ≡ read_head 1 bytes =
    head_back 1 (length is) (children ++ separators) (omega arith) (omega (arith, few)) ∙ ap (λ (n : ℕ). read_head 1 (little_bytes 1 1 ++ (little_bytes 1 n ++ (children ++ separators)))) (sym count) in
    let numbers : Some (map child_of (i ∷ is), separators) ≡ read_children [] (length is + 1) (children ++ separators) =
    children_back [] (i ∷ is) separators (fits.1.child, small_children is fits.2) ∙ ap (λ (n : ℕ). read_children [] n (children ++ separators)) (sym (add-one (length is))) in
    let first : branch [] i.child ≡ i = ap (λ (value : List ℕ). let x : Item = record { key = []; value = value; child = i.child } in x) (sym fits.1.value) ∙ ap (λ (key : List ℕ). let x : Item = record { key = key; value = i.value; child = i.child } in x) (sym fits.0) in
    let all : Some (i ∷ is, []) ≡ read_branches (branch [] i.child ∷ []) (map child_of is) separators =
    branches_back (i ∷ []) is [] fits.2 ∙ (ap (read_branches (i ∷ []) (map child_of is)) (append-nil separators) ∙ ap (λ (x : Item). read_branches (x ∷ []) (map child_of is) separators) (sym first)) in
    inner_some bytes (length is) (children ++ separators) (map child_of (i ∷ is)) separators head numbers (i ∷ is) [] all refl

inner_back : (items : List Item) → AreBranches items → 1 ≤ length items → length items ≤ 15 → Some items ≡ read_inner (spelled_inner items)
inner_back [] fits some few = absurd (omega (arith, some))
inner_back (i ∷ is) fits some few = inner_cons i is fits few

-- a node that was written is read as the items that it was written of
pub node_back : (leaf : Bool) (items : List Item) → AreFit leaf items → CanBe leaf (length items) → read_node leaf (spelled leaf items) ≡ Some items
node_back true items fits can = sym (leaf_back items fits can)
node_back false items fits can = sym (inner_back items fits can.0 can.1)
