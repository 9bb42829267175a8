-- An entry put into a node in memory, or below it.
use Rattle.std.proofs.Common.{◌≡◌, ℕ, zero, suc, ◌+◌, ◌-◌, ◌<◌, ◌≤◌, ◌^◌, Bool, true, false, List, [], ◌∷◌, ◌++◌, length, map, get_or, Option, Some, None, refl, sym, ap, ◌∙◌, subst, arith, inl, inr}
use Rattle.std.specs.Prelude.{◌==◌, ◌⊎◌, nat_lt, insert, if◌then◌else◌}
use Rattle.std.specs.List.{flat_map}
use Rattle.std.proofs.lemmas.Bool.Decides.{nat_tests}
use Rattle.std.proofs.lemmas.List.{get_or_default}
use Rattle.sg_index.specs.declared.item.Item.{Item}
use Rattle.sg_index.specs.Node.{spelled, AreFit, CanBe}
use Rattle.sg_index.specs.Order.{IsBelow, Entry}
use Rattle.sg_index.specs.Records.{Map}
use Rattle.sg_index.specs.Tree.{Mark, separator, mark_of, Rises, Child, item_of, branches, numbers_in, IsLeaf, Holds, fewest, node_at, times, IsNoNode, IsBroken}
use Rattle.sg_index.specs.Index.{count_at, root_fewest}
use Rattle.sg_index.specs.Change.{IsEdited, AreNumbered, AreHalves, IsWritten, IsChanged, most, way, has, divided, with_node, put_size, put_new}
use Rattle.sg_index.proofs.Seeking.{broken_child, same_items}
use Rattle.sg_index.proofs.Replacing.{less_or}
use Rattle.sg_index.proofs.Counting.{one_same, count_there, node_same, renumbered_none}
use Rattle.sg_index.proofs.Storing.{child_of, two, stored_one, stored_two}
use Rattle.sg_index.proofs.Descending.{IsAt, child_at, number_at, here_numbered, below_numbered, mid_numbered, child_changed, items_kept, items_more}

-- a leaf in which entries were changed
pub leaf_changed : (records : Map) (level next : ℕ) → level ≡ 0 → (key sep : List ℕ) (middle : List Entry) (known : Bool) (items after : List Item) (marks : List Mark) (numbers : List ℕ) → Holds records level sep items marks numbers → Rises marks → (IsBelow key sep → ⊥) → ((sep : List ℕ) → Rises (separator sep ∷ map mark_of items) → (IsBelow key sep → ⊥) → IsEdited key middle known (separator sep ∷ map mark_of items) (separator sep ∷ map mark_of after)) → IsChanged key middle known records records next next level sep marks numbers after
leaf_changed records level next low key sep middle known items after marks numbers h rises least edited =
    let leaf : IsLeaf sep items marks numbers = subst (λ (l : ℕ). Holds records l sep items marks numbers) low h in
    record {
      marks_now = separator sep ∷ map mark_of after;
      numbers_now = numbers;
      holds = subst (λ (l : ℕ). Holds records l sep after (separator sep ∷ map mark_of after) numbers) (sym low) (record { marks_are = refl; numbers_are = leaf.numbers_are });
      edited = subst (λ (ms : List Mark). IsEdited key middle known ms (separator sep ∷ map mark_of after)) (sym leaf.marks_are) (edited sep (subst Rises leaf.marks_are rises) least);
      renumbered = renumbered_none records next numbers;
    }

divided_one : (leaf : Bool) (n : ℕ) → most leaf < n → divided leaf n ≡ 1
divided_one leaf n more = let e : nat_lt (most leaf) n ≡ true = grind (arith, nat_tests, more) in rw e refl

divided_none : (leaf : Bool) (n : ℕ) → n ≤ most leaf → divided leaf n ≡ 0
divided_none leaf n few = let e : nat_lt (most leaf) n ≡ false = grind (arith, nat_tests, few) in rw e refl

divided_most : (leaf : Bool) (n : ℕ) → divided leaf n ≤ 1
divided_most leaf n = by (nat_lt (most leaf) n)
  where
    by : (b : Bool) → (let m : ℕ = if b then 1 else 0 in m) ≤ 1
    by true = omega arith
    by false = omega arith

-- a node gets one item at most
pub size_most : (records : Map) (level : ℕ) (items : List Item) (key : List ℕ) → (length items ≤ put_size records level items key) × (put_size records level items key ≤ length items + 1)
size_most records zero items key = by (has items key)
  where
    by : (b : Bool) → (length items ≤ length items + (if b then 0 else 1)) × (length items + (if b then 0 else 1) ≤ length items + 1)
    by true = (omega arith, omega arith)
    by false = (omega arith, omega arith)
size_most records (suc level) items key = by (node_at records (level == 0) (way items key))
  where
    by : (o : Option (List Item)) → (length items ≤ length items + with_node o (λ below. divided (level == 0) (put_size records level below key))) × (length items + with_node o (λ below. divided (level == 0) (put_size records level below key)) ≤ length items + 1)
    by None = (omega arith, omega arith)
    by (Some below) = (omega arith, omega (arith, divided_most (level == 0) (put_size records level below key)))

module _ (old : Map) (level : ℕ) (high : level ≡ 0 → ⊥) (items : List Item) (key : List ℕ) (n : ℕ) (within : n < length items) (number : ℕ) (item : Item) (number_is : number ≡ (get_or items n item).child) where
  up : level ≡ suc (level - 1)
  up = omega (arith, high)

  -- a child that has no node, or is broken
  pub broken_at : (now : Map) → (IsNoNode now ((level - 1) == 0) (fewest ((level - 1) == 0)) number ⊎ ((below : List Item) × (node_at old ((level - 1) == 0) number ≡ Some below) × IsBroken old now (level - 1) below)) → IsBroken old now level items
  broken_at now why =
      let i : Item = get_or items n item in
      subst (λ (l : ℕ). IsBroken old now l items) (sym up)
      (broken_child old now (level - 1) items i n within (get_or_default items n item i within)
      (subst (λ (q : ℕ). IsNoNode now ((level - 1) == 0) (fewest ((level - 1) == 0)) q ⊎ ((below : List Item) × (node_at old ((level - 1) == 0) q ≡ Some below) × IsBroken old now (level - 1) below)) number_is why))

  module _ (is_way : number ≡ way items key) (held : List Item) (there : node_at old ((level - 1) == 0) number ≡ Some held) where
    at_way : node_at old ((level - 1) == 0) (way items key) ≡ Some held
    at_way = subst (λ (q : ℕ). node_at old ((level - 1) == 0) q ≡ Some held) is_way there

    pub size_step : put_size old level items key ≡ length items + divided ((level - 1) == 0) (put_size old (level - 1) held key)
    size_step = ap (λ (l : ℕ). put_size old l items key) up ∙ ap (λ (o : Option (List Item)). length items + with_node o (λ below. divided ((level - 1) == 0) (put_size old (level - 1) below key))) at_way

    pub new_step : put_new old level items key ≡ put_new old (level - 1) held key + divided ((level - 1) == 0) (put_size old (level - 1) held key)
    new_step = ap (λ (l : ℕ). put_new old l items key) up ∙ ap (λ (o : Option (List Item)). with_node o (λ below. put_new old (level - 1) below key + divided ((level - 1) == 0) (put_size old (level - 1) below key))) at_way

    pub size_divided : (len : ℕ) → len ≡ put_size old (level - 1) held key → most ((level - 1) == 0) < len → put_size old level items key ≡ length items + 1
    size_divided len is more = size_step ∙ ap (λ (k : ℕ). length items + k) (divided_one ((level - 1) == 0) (put_size old (level - 1) held key) (subst (λ (k : ℕ). most ((level - 1) == 0) < k) is more))

    pub size_kept : (len : ℕ) → len ≡ put_size old (level - 1) held key → len ≤ most ((level - 1) == 0) → put_size old level items key ≡ length items
    size_kept len is few = size_step ∙ omega (arith, divided_none ((level - 1) == 0) (put_size old (level - 1) held key) (subst (λ (k : ℕ). k ≤ most ((level - 1) == 0)) is few))

    pub new_divided : (len : ℕ) → len ≡ put_size old (level - 1) held key → most ((level - 1) == 0) < len → put_new old level items key ≡ put_new old (level - 1) held key + 1
    new_divided len is more = new_step ∙ ap (λ (k : ℕ). put_new old (level - 1) held key + k) (divided_one ((level - 1) == 0) (put_size old (level - 1) held key) (subst (λ (k : ℕ). most ((level - 1) == 0) < k) is more))

    pub new_kept : (len : ℕ) → len ≡ put_size old (level - 1) held key → len ≤ most ((level - 1) == 0) → put_new old level items key ≡ put_new old (level - 1) held key
    new_kept len is few = new_step ∙ omega (arith, divided_none ((level - 1) == 0) (put_size old (level - 1) held key) (subst (λ (k : ℕ). k ≤ most ((level - 1) == 0)) is few))

    pub new_least : put_new old (level - 1) held key ≤ put_new old level items key
    new_least = omega (arith, new_step)

  module _ (left_of : (d : Item) → 0 < n → IsBelow key (get_or items n d).key → ⊥) (right_of : (d : Item) → n + 1 < length items → IsBelow key (get_or items (n + 1) d).key) (sep : List ℕ) (marks : List Mark) (numbers : List ℕ) (h : Holds old level sep items marks numbers) (rises : Rises marks) (next : ℕ) (numbered : AreNumbered old next numbers) (least : IsBelow key sep → ⊥) where
    pub inner : Holds old (suc (level - 1)) sep items marks numbers
    inner = subst (λ (l : ℕ). Holds old l sep items marks numbers) up h

    pub at : IsAt old (level - 1) key inner.children n
    at = child_at old (level - 1) sep key items marks numbers inner rises least n within left_of right_of

    number_here : number ≡ at.here.number
    number_here = number_is ∙ number_at items inner.items_are at item

    counted : AreNumbered old next (flat_map numbers_in inner.children)
    counted = subst (AreNumbered old next) inner.numbers_are numbered

    -- the child has a node
    pub has_node : (few : ℕ) → few ≡ fewest ((level - 1) == 0) → IsNoNode old ((level - 1) == 0) few number → ⊥
    has_node few few_is none =
        let there : node_at old ((level - 1) == 0) number ≡ Some at.child.items = ap (node_at old ((level - 1) == 0)) number_here ∙ at.child.there in
        absurd (omega (arith, none at.child.items there, at.child.enough, few_is))

    module _ (held : List Item) (read : node_at old ((level - 1) == 0) number ≡ Some held) where
      is_held : at.child.items ≡ held
      is_held = same_items (node_at old ((level - 1) == 0) number) held at.child.items read (ap (node_at old ((level - 1) == 0)) number_here ∙ at.child.there)

      pub child_holds : Holds old (level - 1) at.here.key held at.here.marks at.child.below
      child_holds = subst (λ (xs : List Item). Holds old (level - 1) at.here.key xs at.here.marks at.child.below) is_held at.child.holds

      -- what is said of each tree below the child is said of this one
      pub says_below : (Says : List ℕ → List Mark → List ℕ → Type 0) → ((sep : List ℕ) (marks : List Mark) (numbers : List ℕ) → Holds old (level - 1) sep held marks numbers → Rises marks → AreNumbered old next numbers → (IsBelow key sep → ⊥) → Says sep marks numbers) → Says at.here.key at.here.marks at.child.below
      says_below Says all = all at.here.key at.here.marks at.child.below child_holds at.rises (below_numbered old next (level - 1) key inner.children n at counted) at.upto

      module _ (mid : Map) (next1 : ℕ) (middle : List Entry) (known : Bool) (child_after : List Item) (changed : IsChanged key middle known old mid next next1 (level - 1) at.here.key at.here.marks at.child.below child_after) where
        child_numbered : AreNumbered mid next1 (at.here.number ∷ changed.numbers_now)
        child_numbered = mid_numbered old next (level - 1) key inner.children n at counted mid next1 middle known child_after changed

        -- the child was divided
        pub put_divided : (new : Map) (to : ℕ) (branch : Item) (after : List Item) → AreHalves mid new ((level - 1) == 0) child_after number next1 branch.key → AreFit ((level - 1) == 0) child_after → most ((level - 1) == 0) < length child_after → length child_after ≤ 24 → branch.value ≡ [] → branch.child ≡ next1 → next1 < 2 ^ 32 → to ≡ next1 + 1 → after ≡ insert items (n + 1) branch → IsChanged key middle known old new next to level sep marks numbers after
        put_divided new to branch after halves fit many few value_is child_is small to_is after_is =
            let halves_here : AreHalves mid new ((level - 1) == 0) child_after at.here.number next1 branch.key = subst (λ (q : ℕ). AreHalves mid new ((level - 1) == 0) child_after q next1 branch.key) number_here halves in
            let t = two mid new next1 (level - 1) at.here.key branch.key child_after changed.marks_now changed.numbers_now at.here.number changed.holds child_numbered at.child.small small changed.edited.rises fit many few halves_here in
            let stored = stored_two mid new next1 (level - 1) at.here.key branch.key child_after changed.marks_now changed.numbers_now at.here.number changed.holds child_numbered at.child.small small changed.edited.rises fit many few halves_here in
            let one : Child = child_of at.here.key at.here.number t.marks_left t.numbers_left in
            let other : Child = child_of branch.key next1 t.marks_right t.numbers_right in
            let branch_is : branch ≡ item_of other = ap (λ (v : List ℕ). let i : Item = record { key = branch.key; value = v; child = branch.child } in i) value_is ∙ ap (λ (q : ℕ). let i : Item = record { key = branch.key; value = []; child = q } in i) child_is in
            let items_now = items_more at.left at.here one other at.right items n branch (inner.items_are ∙ ap branches at.parts) at.place refl refl branch_is in
            let so = child_changed old mid new next next1 (suc next1) (level - 1) key sep middle known items after child_after marks numbers inner rises numbered n at changed (one ∷ (other ∷ [])) stored (after_is ∙ items_now) in
            let at_end : IsChanged key middle known old new next to (suc (level - 1)) sep marks numbers after = subst (λ (q : ℕ). IsChanged key middle known old new next q (suc (level - 1)) sep marks numbers after) (omega (arith, to_is)) so in
            subst (λ (l : ℕ). IsChanged key middle known old new next to l sep marks numbers after) (sym up) at_end

        own_kept : node_at mid ((level - 1) == 0) at.here.number ≡ Some held
        own_kept =
            let q : ℕ = at.here.number in
            let all = here_numbered old next (level - 1) key inner.children n at counted in
            let there : node_at old ((level - 1) == 0) q ≡ Some held = ap (node_at old ((level - 1) == 0)) (sym number_here) ∙ read in
            let count : count_at old q ≡ 1 = count_there old q ((level - 1) == 0) held there in
            let none : times q at.child.below ≡ 0 = omega (arith, all.once q at.child.small, one_same q, count) in
            node_same old mid ((level - 1) == 0) q (changed.renumbered.kept q at.child.small none (below q at.child.small count all)) ∙ there
          where
            below : (q : ℕ) → q < 2 ^ 32 → count_at old q ≡ 1 → AreNumbered old next (at.here.number ∷ at.child.below) → (q < next ⊎ next1 ≤ q)
            below q small count all = by (less_or q next)
              where
                by : ((q < next) ⊎ (next ≤ q)) → (q < next ⊎ next1 ≤ q)
                by (inl f) = inl f
                by (inr f) = absurd (omega (arith, count, all.free q small f))

        -- the child was written, or there was nothing to write
        pub put_kept : (new : Map) (flag : Bool) → IsWritten flag mid new number (spelled ((level - 1) == 0) child_after) → (flag ≡ false → child_after ≡ held) → AreFit ((level - 1) == 0) child_after → CanBe ((level - 1) == 0) (length child_after) → fewest ((level - 1) == 0) ≤ length child_after → IsChanged key middle known old new next next1 level sep marks numbers items
        put_kept new flag written same fit can enough =
            let written_here : IsWritten flag mid new at.here.number (spelled ((level - 1) == 0) child_after) = subst (λ (q : ℕ). IsWritten flag mid new q (spelled ((level - 1) == 0) child_after)) number_here written in
            let stored = stored_one mid new next1 (level - 1) at.here.key child_after changed.marks_now changed.numbers_now at.here.number changed.holds child_numbered at.child.small changed.edited.rises flag written_here fit can enough (λ e. own_kept ∙ ap (λ (xs : List Item). let o : Option (List Item) = Some xs in o) (sym (same e))) in
            let one : Child = child_of at.here.key at.here.number changed.marks_now changed.numbers_now in
            let items_now : items ≡ branches (at.left ++ (one ∷ at.right)) = inner.items_are ∙ (ap branches at.parts ∙ items_kept at.left at.here one at.right refl refl) in
            let so = child_changed old mid new next next1 next1 (level - 1) key sep middle known items items child_after marks numbers inner rises numbered n at changed (one ∷ []) stored items_now in
            subst (λ (l : ℕ). IsChanged key middle known old new next next1 l sep marks numbers items) (sym up) so

pub too_many : (next next1 below all most : ℕ) → next1 ≡ most → next1 ≡ next + below → all ≡ below + 1 → most < next + all
too_many next next1 below all most full is more = omega (arith, full, is, more)

pub more_too : (next below all : ℕ) → 4294967295 < next + below → below ≤ all → 4294967295 < next + all
more_too next below all many le = omega (arith, many, le)

-- a node that had enough items has enough once it got one
pub grown_enough : (records : Map) (level : ℕ) (items : List Item) (key : List ℕ) (len least : ℕ) → len ≡ put_size records level items key → least ≤ length items → least ≤ len
grown_enough records level items key len least is enough = omega (arith, is, enough, (size_most records level items key).0)

pub can_few : (leaf : Bool) (n : ℕ) → n ≤ most leaf → fewest leaf ≤ n → CanBe leaf n
can_few true n few enough = few
can_few false n few enough = (omega (arith, enough), few)

pub can_root : (leaf : Bool) (n : ℕ) → n ≤ most leaf → root_fewest leaf ≤ n → CanBe leaf n
can_root true n few enough = few
can_root false n few enough = (omega (arith, enough), few)
