-- Steps of the loops that read and write items.
use Rattle.std.proofs.Common.{◌≡◌, ◌≢◌, ℕ, suc, ◌+◌, ◌<◌, ◌≤◌, true, false, List, [], ◌∷◌, ◌++◌, length, take, drop, get_or, Some, None, refl, sym, ap, ◌∙◌, subst, arith, append-nil}
use Rattle.std.specs.Prelude.{nat_le, ◌==◌, ◌&&◌}
use Rattle.std.specs.List.{flat_map}
use Rattle.std.proofs.lemmas.Bool.Decides.{nat_tests}
use Rattle.std.proofs.lemmas.List.{take_more, drop_more}
use Rattle.std.proofs.lemmas.List.Concat.{flat_map-append}
use Rattle.sg_base.specs.Forms.{read_number}
use Rattle.sg_base.specs.Overwritten.{Wrote}
use Rattle.sg_base.proofs.Overwriting.{wrote_on}
use Rattle.sg_index.specs.declared.item.Item.{Item}
use Rattle.sg_index.specs.Node.{read_entry, read_branch, read_entries, read_children, read_branches, with_separators, read_head, read_leaf, read_inner}

pub entries_step : (items items' : List Item) (rest rest' : List ℕ) (m n : ℕ) → n ≡ suc m → Some (items', rest') ≡ read_entry items rest → read_entries items' m rest' ≡ read_entries items n rest
entries_step items items' rest rest' m n more e =
    let one : read_entries items' m rest' ≡ read_entries items (suc m) rest = rw (← e) refl in
    one ∙ ap (λ (k : ℕ). read_entries items k rest) (sym more)

pub entries_fail : (items : List Item) (rest : List ℕ) (m n : ℕ) → n ≡ suc m → None ≡ read_entry items rest → None ≡ read_entries items n rest
entries_fail items rest m n more e =
    let one : None ≡ read_entries items (suc m) rest = rw (← e) refl in
    one ∙ ap (λ (k : ℕ). read_entries items k rest) (sym more)

pub children_step : (children children' rest rest' : List ℕ) (child m n : ℕ) → n ≡ suc m → children' ≡ children ++ child ∷ [] → Some (child, rest') ≡ read_number 4 rest → read_children children' m rest' ≡ read_children children n rest
children_step children children' rest rest' child m n more is e =
    let one : read_children (children ++ child ∷ []) m rest' ≡ read_children children (suc m) rest = rw (← e) refl in
    ap (λ (xs : List ℕ). read_children xs m rest') is ∙ (one ∙ ap (λ (k : ℕ). read_children children k rest) (sym more))

pub children_fail : (children rest : List ℕ) (m n : ℕ) → n ≡ suc m → None ≡ read_number 4 rest → None ≡ read_children children n rest
children_fail children rest m n more e =
    let one : None ≡ read_children children (suc m) rest = rw (← e) refl in
    one ∙ ap (λ (k : ℕ). read_children children k rest) (sym more)

pub branches_step : (items items' : List Item) (others : List ℕ) (i : ℕ) (rest rest' : List ℕ) → i < length others → Some (items', rest') ≡ read_branch items (get_or others i 0) rest → read_branches items' (drop (i + 1) others) rest' ≡ read_branches items (drop i others) rest
branches_step items items' others i rest rest' lt e =
    let one : read_branches items' (drop (i + 1) others) rest' ≡ read_branches items (get_or others i 0 ∷ drop (i + 1) others) rest = rw (← e) refl in
    one ∙ ap (λ (cs : List ℕ). read_branches items cs rest) (sym (drop_more others i 0 lt))

pub branches_fail : (items : List Item) (others : List ℕ) (i : ℕ) (rest : List ℕ) → i < length others → None ≡ read_branch items (get_or others i 0) rest → None ≡ read_branches items (drop i others) rest
branches_fail items others i rest lt e =
    let one : None ≡ read_branches items (get_or others i 0 ∷ drop (i + 1) others) rest = rw (← e) refl in
    one ∙ ap (λ (cs : List ℕ). read_branches items cs rest) (sym (drop_more others i 0 lt))

module _ (tag : ℕ) (bytes : List ℕ) where
  pub head_none_1 : None ≡ read_number 1 bytes → None ≡ read_head tag bytes
  unfolding read_head
  head_none_1 e = rw (← e) refl

  module _ (t : ℕ) (one : List ℕ) (e : Some (t, one) ≡ read_number 1 bytes) where
    pub head_none_2 : None ≡ read_number 1 one → None ≡ read_head tag bytes
    unfolding read_head
    head_none_2 f = rw (← e, ← f) refl

    module _ (count : ℕ) (rest : List ℕ) (f : Some (count, rest) ≡ read_number 1 one) where
      pub head_other : t ≢ tag → None ≡ read_head tag bytes
      unfolding read_head
      head_other other = let no : (t == tag && nat_le count 14) ≡ false = grind (arith, nat_tests, other) in rw (← e, ← f, no) refl

      pub head_many : 14 < count → None ≡ read_head tag bytes
      unfolding read_head
      head_many many = let no : (t == tag && nat_le count 14) ≡ false = grind (arith, nat_tests, many) in rw (← e, ← f, no) refl

      pub head_some : t ≡ tag → count ≤ 14 → Some (count, rest) ≡ read_head tag bytes
      unfolding read_head
      head_some same few = let yes : (t == tag && nat_le count 14) ≡ true = grind (arith, nat_tests, same, few) in rw (← e, ← f, yes) refl

-- one item more was written
pub wrote_more : (f : Item → List ℕ) (items : List Item) (i : ℕ) (item : Item) (old into new : List ℕ) (start at next : ℕ) → start ≤ length old → i < length items → item ≡ get_or items i item → Wrote old start (flat_map f (take i items)) into at → Wrote into at (f item) new next → Wrote old start (flat_map f (take (i + 1) items)) new next
wrote_more f items i item old into new start at next within lt is before one =
    let parts : flat_map f (take (i + 1) items) ≡ flat_map f (take i items) ++ f item =
    ap (flat_map f) (take_more items i item lt) ∙ (flat_map-append f (take i items) (get_or items i item ∷ []) ∙ (ap (λ (xs : List ℕ). flat_map f (take i items) ++ xs) (append-nil (f (get_or items i item)) ∙ ap f (sym is)))) in
    subst (λ (bytes : List ℕ). Wrote old start bytes new next) (sym parts) (wrote_on within before one)

module _ (bytes : List ℕ) where
  pub leaf_none_1 : None ≡ read_head 0 bytes → None ≡ read_leaf bytes
  unfolding read_leaf
  leaf_none_1 e = rw (← e) refl

  pub inner_none_1 : None ≡ read_head 1 bytes → None ≡ read_inner bytes
  unfolding read_inner
  inner_none_1 e = rw (← e) refl

  module _ (count : ℕ) (one : List ℕ) where
    pub leaf_none_2 : Some (count, one) ≡ read_head 0 bytes → None ≡ read_entries [] count one → None ≡ read_leaf bytes
    unfolding read_leaf
    leaf_none_2 e f = rw (← e, ← f) refl

    pub inner_none_2 : Some (count, one) ≡ read_head 1 bytes → None ≡ read_children [] (count + 1) one → None ≡ read_inner bytes
    unfolding read_inner
    inner_none_2 e f = rw (← e, ← f) refl

    module _ (items : List Item) (rest : List ℕ) (e : Some (count, one) ≡ read_head 0 bytes) (f : Some (items, rest) ≡ read_entries [] count one) where
      pub leaf_more : (length rest == 0) ≡ false → None ≡ read_leaf bytes
      unfolding read_leaf
      leaf_more more = rw (← e, ← f, more) refl

      pub leaf_some : (length rest == 0) ≡ true → Some items ≡ read_leaf bytes
      unfolding read_leaf
      leaf_some all = rw (← e, ← f, all) refl

    module _ (children two : List ℕ) (e : Some (count, one) ≡ read_head 1 bytes) (f : Some (children, two) ≡ read_children [] (count + 1) one) where
      pub inner_none_3 : None ≡ with_separators children two → None ≡ read_inner bytes
      unfolding read_inner
      inner_none_3 g = rw (← e, ← f, ← g) refl

      module _ (items : List Item) (rest : List ℕ) (g : Some (items, rest) ≡ with_separators children two) where
        pub inner_more : (length rest == 0) ≡ false → None ≡ read_inner bytes
        unfolding read_inner
        inner_more more = rw (← e, ← f, ← g, more) refl

        pub inner_some : (length rest == 0) ≡ true → Some items ≡ read_inner bytes
        unfolding read_inner
        inner_some all = rw (← e, ← f, ← g, all) refl
