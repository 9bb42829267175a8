-- What is read is fit for a node.
use Rattle.std.proofs.Common.{◌≡◌, ℕ, zero, suc, ◌+◌, ◌<◌, ◌≤◌, ◌^◌, Bool, true, false, List, [], ◌∷◌, ◌++◌, length, Option, Some, None, refl, sym, ap, ◌∙◌, subst, arith, length-append}
use Rattle.std.specs.Prelude.{nat_le, ◌&&◌, ◌==◌, if◌then◌else◌}
use Rattle.std.specs.List.{AllByRecursion}
use Rattle.std.specs.Option.{option_map, IfSome}
use Rattle.std.proofs.lemmas.Bool.Decides.{nat_tests}
use Rattle.std.proofs.lemmas.Option.{cond_some, same_Some}
use Rattle.sg_base.specs.Bytes.{IsBytes}
use Rattle.sg_base.specs.Forms.{read_on, read_number, read_text, ended}
use Rattle.sg_base.proofs.Forms.{was_read, number_exact, rest_bytes}
use Rattle.byteorder.specs.Endian.{little_bytes}
use Rattle.sg_index.specs.declared.item.Item.{Item}
use Rattle.sg_index.specs.Node.{entry, branch, IsEntry, IsBranch, AreBranches, AreFit, CanBe, read_entry, read_branch, read_entries, read_children, read_branches, with_separators, read_head, read_leaf, read_inner, read_node}

-- all of these, and one more
every_push : {X : Type 0} (P : X → Type 0) (xs : List X) (x : X) → AllByRecursion P xs → P x → AllByRecursion P (xs ++ x ∷ [])
every_push P [] x all p = (p, tt)
every_push P (y ∷ ys) x all p = (all.0, every_push P ys x all.1 p)

-- what an entry that was read is
record ReadEntry (items : List Item) (bytes : List ℕ) (items' : List Item) (rest : List ℕ) : Type 0 where
  item : Item
  is : items' ≡ items ++ item ∷ []
  fits : IsEntry item

read_entry-is : (items : List Item) (bytes : List ℕ) (items' : List Item) (rest : List ℕ) → read_entry items bytes ≡ Some (items', rest) → ReadEntry items bytes items' rest
unfolding read_entry
read_entry-is items bytes items' rest h =
    let one = was_read (read_number 1 bytes) (λ k bytes. read_on (read_number 1 bytes) (λ v bytes. read_on (read_text k bytes) (λ key bytes. read_on (read_text v bytes) (λ value rest. if nat_le (length key) 64 && nat_le (length value) 64 then Some (items ++ entry key value ∷ [], rest) else None)))) (items', rest) h in
    let k = one.value in
    let two = was_read (read_number 1 one.rest) (λ v bytes. read_on (read_text k bytes) (λ key bytes. read_on (read_text v bytes) (λ value rest. if nat_le (length key) 64 && nat_le (length value) 64 then Some (items ++ entry key value ∷ [], rest) else None))) (items', rest) one.second in
    let v = two.value in
    let three = was_read (read_text k two.rest) (λ key bytes. read_on (read_text v bytes) (λ value rest. if nat_le (length key) 64 && nat_le (length value) 64 then Some (items ++ entry key value ∷ [], rest) else None)) (items', rest) two.second in
    let key : List ℕ = three.value in
    let four = was_read (read_text v three.rest) (λ value rest. if nat_le (length key) 64 && nat_le (length value) 64 then Some (items ++ entry key value ∷ [], rest) else None) (items', rest) three.second in
    let value : List ℕ = four.value in
    let all = cond_some (nat_le (length key) 64 && nat_le (length value) 64) (items ++ entry key value ∷ [], four.rest) (items', rest) four.second in
    record {
      item = entry key value;
      is = sym (ap (λ (p : List Item × List ℕ). p.0) all.1);
      fits = record { key = grind (arith, nat_tests, all.0); value = grind (arith, nat_tests, all.0); child = refl };
    }

record ReadBranch (items : List Item) (child : ℕ) (items' : List Item) : Type 0 where
  key : List ℕ
  is : items' ≡ items ++ branch key child ∷ []
  short : length key ≤ 64

read_branch-is : (items : List Item) (child : ℕ) (bytes : List ℕ) (items' : List Item) (rest : List ℕ) → read_branch items child bytes ≡ Some (items', rest) → ReadBranch items child items'
unfolding read_branch
read_branch-is items child bytes items' rest h =
    let one = was_read (read_number 1 bytes) (λ k bytes. read_on (read_text k bytes) (λ key rest. if nat_le (length key) 64 then Some (items ++ branch key child ∷ [], rest) else None)) (items', rest) h in
    let k = one.value in
    let two = was_read (read_text k one.rest) (λ key rest. if nat_le (length key) 64 then Some (items ++ branch key child ∷ [], rest) else None) (items', rest) one.second in
    let key : List ℕ = two.value in
    let all = cond_some (nat_le (length key) 64) (items ++ branch key child ∷ [], two.rest) (items', rest) two.second in
    record { key = key; is = sym (ap (λ (p : List Item × List ℕ). p.0) all.1); short = grind (arith, nat_tests, all.0) }

entries_fit : (items : List Item) (n : ℕ) (bytes : List ℕ) (items' : List Item) (rest : List ℕ) → AllByRecursion IsEntry items → read_entries items n bytes ≡ Some (items', rest) → AllByRecursion IsEntry items' × (length items' ≡ length items + n)
entries_fit items zero bytes items' rest fits h =
    let same : items ≡ items' = ap (λ (p : List Item × List ℕ). p.0) (same_Some (items, bytes) (items', rest) h) in
    (subst (AllByRecursion IsEntry) same fits, omega (arith, ap length same))
entries_fit items (suc n) bytes items' rest fits h =
    let one = was_read (read_entry items bytes) (λ items rest. read_entries items n rest) (items', rest) h in
    let here = read_entry-is items bytes one.value one.rest one.first in
    let more : AllByRecursion IsEntry one.value = subst (AllByRecursion IsEntry) (sym here.is) (every_push IsEntry items here.item fits here.fits) in
    let all = entries_fit one.value n one.rest items' rest more one.second in
    (all.0, omega (arith, all.1, ap length here.is, length-append items (here.item ∷ [])))

abbrev IsSmall : ℕ → Type 0
IsSmall n = n < 2 ^ 32

children_fit : (children : List ℕ) (n : ℕ) (bytes children' rest : List ℕ) → IsBytes bytes → AllByRecursion IsSmall children → read_children children n bytes ≡ Some (children', rest) → AllByRecursion IsSmall children' × (length children' ≡ length children + n)
children_fit children zero bytes children' rest are fits h =
    let same : children ≡ children' = ap (λ (p : List ℕ × List ℕ). p.0) (same_Some (children, bytes) (children', rest) h) in
    (subst (AllByRecursion IsSmall) same fits, omega (arith, ap length same))
children_fit children (suc n) bytes children' rest are fits h =
    let one = was_read (read_number 4 bytes) (λ child rest. read_children (children ++ child ∷ []) n rest) (children', rest) h in
    let here = (number_exact 4).only bytes one.value one.rest are one.first in
    let behind : IsBytes one.rest = rest_bytes bytes (little_bytes 4 one.value) one.rest are here.1 in
    let small : one.value < 2 ^ 32 = omega (arith, here.0) in
    let all = children_fit (children ++ one.value ∷ []) n one.rest children' rest behind (every_push IsSmall children one.value fits small) one.second in
    (all.0, omega (arith, all.1, length-append children (one.value ∷ [])))

branches_fit : (i : Item) (is : List Item) (children bytes : List ℕ) (items' : List Item) (rest : List ℕ) → (i.key ≡ []) → IsBranch i → AllByRecursion IsBranch is → AllByRecursion IsSmall children → read_branches (i ∷ is) children bytes ≡ Some (items', rest) → AreBranches items' × (length items' ≡ length (i ∷ is) + length children)
branches_fit i is [] bytes items' rest none first fits small h =
    let same : i ∷ is ≡ items' = ap (λ (p : List Item × List ℕ). p.0) (same_Some (i ∷ is, bytes) (items', rest) h) in
    (subst AreBranches same (none, first, fits), omega (arith, ap length same))
branches_fit i is (child ∷ children) bytes items' rest none first fits small h =
    let one = was_read (read_branch (i ∷ is) child bytes) (λ items rest. read_branches items children rest) (items', rest) h in
    let here = read_branch-is (i ∷ is) child bytes one.value one.rest one.first in
    let item : Item = branch here.key child in
    let on : read_branches (i ∷ (is ++ item ∷ [])) children one.rest ≡ Some (items', rest) = ap (λ (xs : List Item). read_branches xs children one.rest) (sym here.is) ∙ one.second in
    let all = branches_fit i (is ++ item ∷ []) children one.rest items' rest none first (every_push IsBranch is item fits (record { key = here.short; value = refl; child = small.0 })) small.1 on in
    (all.0, omega (arith, all.1, length-append is (item ∷ [])))

record ReadHead (tag : ℕ) (bytes : List ℕ) (count : ℕ) (rest : List ℕ) : Type 0 where
  few : count ≤ 14
  behind : IsBytes bytes → IsBytes rest

read_head-is : (tag : ℕ) (bytes : List ℕ) (count : ℕ) (rest : List ℕ) → read_head tag bytes ≡ Some (count, rest) → ReadHead tag bytes count rest
unfolding read_head
read_head-is tag bytes count rest h =
    let one = was_read (read_number 1 bytes) (λ t bytes. read_on (read_number 1 bytes) (λ count rest. if t == tag && nat_le count 14 then Some (count, rest) else None)) (count, rest) h in
    let t = one.value in
    let two = was_read (read_number 1 one.rest) (λ count rest. if t == tag && nat_le count 14 then Some (count, rest) else None) (count, rest) one.second in
    let all = cond_some (t == tag && nat_le two.value 14) (two.value, two.rest) (count, rest) two.second in
    let few : two.value ≤ 14 = grind (arith, nat_tests, all.0) in
    record {
      few = subst (λ (n : ℕ). n ≤ 14) (ap (λ (p : ℕ × List ℕ). p.0) all.1) few;
      behind = λ are.
          let first = (number_exact 1).only bytes one.value one.rest are one.first in
          let are_one : IsBytes one.rest = rest_bytes bytes (little_bytes 1 one.value) one.rest are first.1 in
          let second = (number_exact 1).only one.rest two.value two.rest are_one two.first in
          subst IsBytes (ap (λ (p : ℕ × List ℕ). p.1) all.1) (rest_bytes one.rest (little_bytes 1 two.value) two.rest are_one second.1);
    }

leaf_fits : (bytes : List ℕ) (items : List Item) → read_leaf bytes ≡ Some items → AllByRecursion IsEntry items × (length items ≤ 14)
unfolding read_leaf
leaf_fits bytes items h =
    let one = was_read (read_head 0 bytes) (λ count bytes. read_on (read_entries [] count bytes) ended) items h in
    let head = read_head-is 0 bytes one.value one.rest one.first in
    let two = was_read (read_entries [] one.value one.rest) ended items one.second in
    let all = entries_fit [] one.value one.rest two.value two.rest tt two.first in
    let end = cond_some (length two.rest == 0) two.value items two.second in
    (subst (AllByRecursion IsEntry) end.1 all.0, omega (arith, head.few, all.1, ap length end.1))

inner_fits : (bytes : List ℕ) (items : List Item) → IsBytes bytes → read_inner bytes ≡ Some items → AreBranches items × (1 ≤ length items) × (length items ≤ 15)
unfolding read_inner
inner_fits bytes items are h =
    let one = was_read (read_head 1 bytes) (λ count bytes. read_on (read_children [] (count + 1) bytes) (λ children bytes. read_on (with_separators children bytes) ended)) items h in
    let head = read_head-is 1 bytes one.value one.rest one.first in
    let two = was_read (read_children [] (one.value + 1) one.rest) (λ children bytes. read_on (with_separators children bytes) ended) items one.second in
    let numbers = children_fit [] (one.value + 1) one.rest two.value two.rest (head.behind are) tt two.first in
    let three = was_read (with_separators two.value two.rest) ended items two.second in
    let all = with_separators-fit two.value two.rest three.value three.rest numbers.0 three.first in
    let end = cond_some (length three.rest == 0) three.value items three.second in
    (subst AreBranches end.1 all.0, omega (arith, numbers.1, all.1, ap length end.1), omega (arith, head.few, numbers.1, all.1, ap length end.1))
  where
    with_separators-fit : (children bytes : List ℕ) (items : List Item) (rest : List ℕ) → AllByRecursion IsSmall children → with_separators children bytes ≡ Some (items, rest) → AreBranches items × (length items ≡ length children)
    with_separators-fit [] bytes items rest small h = absurd (cc)
    with_separators-fit (child ∷ children) bytes items rest small h =
        let all = branches_fit (branch [] child) [] children bytes items rest refl (record { key = omega arith; value = refl; child = small.0 }) tt small.1 h in
        (all.0, omega (arith, all.1))

-- the items of a node that was read are fit for it, and not too many
pub read_fits : (leaf : Bool) (bytes : List ℕ) (items : List Item) → IsBytes bytes → read_node leaf bytes ≡ Some items → AreFit leaf items × CanBe leaf (length items)
read_fits true bytes items are h = leaf_fits bytes items h
read_fits false bytes items are h = let all = inner_fits bytes items are h in (all.0, (all.1, all.2))

module _ {N : Type 0} (items_of : N → List Item) (leaf : Bool) (bytes : List ℕ) (are : IsBytes bytes) where
  pub fit_if : (r : Option N) → option_map items_of r ≡ read_node leaf bytes → IfSome r (λ n. AreFit leaf (items_of n))
  fit_if None h = tt
  fit_if (Some n) h = (read_fits leaf bytes (items_of n) are (sym h)).0

  pub size_if : (r : Option N) → option_map items_of r ≡ read_node leaf bytes → IfSome r (λ n. CanBe leaf (length (items_of n)))
  size_if None h = tt
  size_if (Some n) h = (read_fits leaf bytes (items_of n) are (sym h)).1
