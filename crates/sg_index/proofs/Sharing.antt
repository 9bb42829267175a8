-- Two children that stand side by side, joined or with their items shared anew.
use Rattle.std.proofs.Common.{◌≡◌, ◌≢◌, ℕ, suc, ◌+◌, ◌<◌, ◌≤◌, ◌^◌, Bool, true, false, List, [], ◌∷◌, ◌++◌, length, map, take, drop, get_or, set, Some, refl, sym, ap, ◌∙◌, subst, arith, inl, inr, append-nil, append_assoc, length-append}
use Rattle.std.specs.Prelude.{◌==◌, remove}
use Rattle.std.proofs.Math.Seq.{take-append_seam, drop-append-add}
use Rattle.std.proofs.lemmas.List.{get_or_default}
use Rattle.sg_index.specs.declared.item.Item.{Item}
use Rattle.sg_index.specs.Node.{spelled, AreFit, CanBe}
use Rattle.sg_index.specs.Records.{Map, Puts, Dels}
use Rattle.sg_index.specs.Tree.{Mark, Rises, Child, item_of, branches, Holds, fewest, node_key, node_at, times}
use Rattle.sg_index.specs.Index.{count_at}
use Rattle.sg_index.specs.Change.{IsMarkedAnew, AreNumbered, AreStored, AreHalves, IsOneNow, AreTwoNow, IsSettled, joined, with_key, opened, half, most, no_item, number_at, key_at}
use Rattle.sg_index.proofs.Loading.{put_there}
use Rattle.sg_index.proofs.Seeking.{length-branches, get_branch, get_child}
use Rattle.sg_index.proofs.Counting.{times-append, one, one_same, other_key, count_most, count_same, node_same, renumbered_put, renumbered_del, renumbered_then, renumbered_again}
use Rattle.sg_index.proofs.Moving.{AreSame, holds_kept}
use Rattle.sg_index.proofs.Halves.{length-with_key}
use Rattle.sg_index.proofs.Storing.{child_of, is_child, two_children}
use Rattle.sg_index.proofs.Descending.{items_kept}
use Rattle.sg_index.proofs.Editing.{anew_same}

-- the items of a node as those up to a child and those behind it
pub split_branches : (left : List Child) (a : Child) (right : List Child) → branches (left ++ (a ∷ right)) ≡ branches (left ++ (a ∷ [])) ++ map item_of right
split_branches [] a right = refl
split_branches (x ∷ xs) a right = ap (λ (is : List Item). record (item_of x) { key = [] } ∷ is) (mapped xs)
  where
    mapped : (ys : List Child) → map item_of (ys ++ (a ∷ right)) ≡ map item_of (ys ++ (a ∷ [])) ++ map item_of right
    mapped [] = refl
    mapped (y ∷ ys) = ap (λ (is : List Item). item_of y ∷ is) (mapped ys)

set_seam : (front : List Item) (y x : Item) (rest : List Item) → set (front ++ (y ∷ rest)) (length front) x ≡ front ++ (x ∷ rest)
set_seam [] y x rest = refl
set_seam (z ∷ front) y x rest = ap (λ (is : List Item). z ∷ is) (set_seam front y x rest)

module _ (node : List Item) (left : List Child) (a b : Child) (right : List Child) (node_is : node ≡ branches (left ++ (a ∷ (b ∷ right)))) (at : ℕ) (place : length left ≡ at) where
  front : List Item
  front = branches (left ++ (a ∷ []))

  front_length : length front ≡ at + 1
  unfolding front
  front_length = omega (arith, length-branches (left ++ (a ∷ [])), length-append left (a ∷ []), place)

  parts : node ≡ front ++ (item_of b ∷ map item_of right)
  unfolding front
  parts = node_is ∙ split_branches left a (b ∷ right)

  again : branches (left ++ (a ∷ (b ∷ right))) ≡ branches ((left ++ (a ∷ [])) ++ (b ∷ right))
  again = ap branches (sym (append_assoc left (a ∷ []) (b ∷ right)))

  next_place : length (left ++ (a ∷ [])) ≡ at + 1
  next_place = omega (arith, length-append left (a ∷ []), place)

  pub left_number : number_at node at ≡ a.number
  left_number = ap (λ (xs : List Item). (get_or xs at no_item).child) node_is ∙ (ap (λ (n : ℕ). (get_or (branches (left ++ (a ∷ (b ∷ right)))) n no_item).child) (sym place) ∙ get_child left a (b ∷ right) no_item)

  right_item : get_or node (at + 1) no_item ≡ item_of b
  right_item =
      ap (λ (xs : List Item). get_or xs (at + 1) no_item) (node_is ∙ again)
      ∙ (ap (λ (n : ℕ). get_or (branches ((left ++ (a ∷ [])) ++ (b ∷ right))) n no_item) (sym next_place) ∙ get_branch (left ++ (a ∷ [])) b right no_item (omega (arith, next_place)))

  pub right_number : number_at node (at + 1) ≡ b.number
  right_number = ap (λ (i : Item). i.child) right_item

  pub right_key : key_at node (at + 1) ≡ b.key
  right_key = ap (λ (i : Item). i.key) right_item

  -- the right one went
  pub removed : (c : Child) → c.key ≡ a.key → c.number ≡ a.number → remove node (at + 1) ≡ branches (left ++ (c ∷ right))
  unfolding front
  removed c key_is number_is =
      let first : take (at + 1) node ≡ front = ap (take (at + 1)) parts ∙ (ap (λ (n : ℕ). take n (front ++ (item_of b ∷ map item_of right))) (sym front_length) ∙ take-append_seam front (item_of b ∷ map item_of right)) in
      let more : suc (at + 1) ≡ length front + 1 = omega (arith, front_length) in
      let rest : drop (suc (at + 1)) node ≡ map item_of right = ap (drop (suc (at + 1))) parts ∙ (ap (λ (n : ℕ). drop n (front ++ (item_of b ∷ map item_of right))) more ∙ drop-append-add front (item_of b ∷ map item_of right) 1) in
      ap (λ (xs : List Item). xs ++ drop (suc (at + 1)) node) first ∙ (ap (λ (xs : List Item). front ++ xs) rest ∙ (sym (split_branches left a right) ∙ items_kept left a c right key_is number_is))

  -- the right one has another separator
  pub changed : (c d : Child) → c.key ≡ a.key → c.number ≡ a.number → d.number ≡ b.number → set node (at + 1) (record (get_or node (at + 1) no_item) { key = d.key }) ≡ branches (left ++ (c ∷ (d ∷ right)))
  unfolding front
  changed c d key_is number_is other_is =
      let item_is : record (get_or node (at + 1) no_item) { key = d.key } ≡ item_of d =
      ap (λ (i : Item). record i { key = d.key }) right_item ∙ ap (λ (n : ℕ). let i : Item = record { key = d.key; value = []; child = n } in i) (sym other_is) in
      let spread : set node (at + 1) (item_of d) ≡ front ++ (item_of d ∷ map item_of right) = ap (λ (xs : List Item). set xs (at + 1) (item_of d)) parts ∙ (ap (λ (n : ℕ). set (front ++ (item_of b ∷ map item_of right)) n (item_of d)) (sym front_length) ∙ set_seam front (item_of b) (item_of d) (map item_of right)) in
      ap (set node (at + 1)) item_is ∙ (spread ∙ (sym (split_branches left a (d ∷ right)) ∙ items_kept left a c (d ∷ right) key_is number_is))

pub anew_then : (one two three : List Mark) → IsMarkedAnew one two → IsMarkedAnew two three → IsMarkedAnew one three
anew_then one two three x y = record { rises = y.rises; entries = y.entries ∙ x.entries; under = λ top all. y.under top (x.under top all) }

pub length-joined : (leaf : Bool) (left : List Item) (key : List ℕ) (right : List Item) → length (joined leaf left key right) ≡ length left + length right
length-joined leaf left key right = omega (arith, length-append left (with_key leaf key right), length-with_key leaf key right)

pub record AreSettled (mid new : Map) (level : ℕ) (left : List Child) (a b : Child) (right : List Child) (marks : List Mark) (numbers : List ℕ) (after : List Item) : Type 0 where
  pub children : List Child
  pub stored : AreStored mid new (2 ^ 32) (2 ^ 32) level a.key marks numbers children
  pub items_are : after ≡ branches (left ++ (children ++ right))

module _ (mid new : Map) (level : ℕ) (node after : List Item) (left : List Child) (a b : Child) (right : List Child) (node_is : node ≡ branches (left ++ (a ∷ (b ∷ right)))) (at : ℕ) (place : length left ≡ at) (items : List Item) (marks : List Mark) (numbers before : List ℕ) (holds : Holds mid level a.key items marks numbers) (rises : Rises marks) (fit : AreFit (level == 0) items) (few : length items ≤ 24) (enough : fewest (level == 0) ≤ length items) (numbered : AreNumbered mid (2 ^ 32) before) (before_is : (q : ℕ) → times q before ≡ (one q a.number + one q b.number) + times q numbers) (a_small : a.number < 2 ^ 32) (b_small : b.number < 2 ^ 32) where
  differ : a.number ≢ b.number
  differ e = absurd (omega (arith, before_is a.number, one_same a.number, ap (λ (q : ℕ). one a.number q) (sym e) ∙ one_same a.number, numbered.once a.number a_small, count_most mid a.number))

  a_apart : (q : ℕ) → q < 2 ^ 32 → 1 ≤ times q numbers → q ≢ a.number
  a_apart q small some e = absurd (omega (arith, before_is q, ap (λ (n : ℕ). one q n) (sym e) ∙ one_same q, some, numbered.once q small, count_most mid q))

  b_apart : (q : ℕ) → q < 2 ^ 32 → 1 ≤ times q numbers → q ≢ b.number
  b_apart q small some e = absurd (omega (arith, before_is q, ap (λ (n : ℕ). one q n) (sym e) ∙ one_same q, some, numbered.once q small, count_most mid q))

  a_there : 1 ≤ times a.number before
  a_there = omega (arith, before_is a.number, one_same a.number)

  b_there : 1 ≤ times b.number before
  b_there = omega (arith, before_is b.number, one_same b.number)

  a_count : count_at mid a.number ≡ 1
  a_count = omega (arith, a_there, numbered.once a.number a_small, count_most mid a.number)

  b_count : count_at mid b.number ≡ 1
  b_count = omega (arith, b_there, numbered.once b.number b_small, count_most mid b.number)

  turned : b.number ≢ a.number
  turned e = differ (sym e)

  can_be : length items ≤ most (level == 0) → CanBe (level == 0) (length items)
  can_be = by (level == 0) enough
    where
      by : (leaf : Bool) → fewest leaf ≤ length items → length items ≤ most leaf → CanBe leaf (length items)
      by true least le = le
      by false least le = (omega (arith, least), le)

  settled_one : IsOneNow mid new (level == 0) items node at after → AreSettled mid new level left a b right marks before after
  settled_one s =
      let put : Puts mid (node_key a.number) (spelled (level == 0) items) s.between = subst (λ (n : ℕ). Puts mid (node_key n) (spelled (level == 0) items) s.between) (left_number node left a b right node_is at place) s.put in
      let gone : Dels s.between (node_key b.number) new = subst (λ (n : ℕ). Dels s.between (node_key n) new) (right_number node left a b right node_is at place) s.gone in
      let same : AreSame mid new numbers = λ q small some. gone.others (node_key q) (other_key q b.number small b_small (b_apart q small some)) ∙ put.others (node_key q) (other_key q a.number small a_small (a_apart q small some)) in
      let there : node_at new (level == 0) a.number ≡ Some items = node_same s.between new (level == 0) a.number (gone.others (node_key a.number) (other_key a.number b.number a_small b_small differ)) ∙ put_there mid s.between (level == 0) a.number items fit (can_be s.few) put in
      let first = renumbered_put mid s.between a.number a_small (spelled (level == 0) items) put (2 ^ 32) before a_there a_count in
      let still : count_at s.between b.number ≡ 1 = count_same mid s.between b.number (put.others (node_key b.number) (other_key b.number a.number b_small a_small turned)) ∙ b_count in
      let then_ren = renumbered_del s.between new b.number b_small gone (2 ^ 32) before ((a.number ∷ numbers) ++ []) still (λ q. omega (arith, before_is q, times-append q numbers [])) in
      let c : Child = child_of a.key a.number marks numbers in
      record {
        children = c ∷ [];
        stored = record {
          each = (is_child new level a.key items marks numbers a.number (holds_kept mid new level a.key items marks numbers holds same) there enough a_small, tt);
          first = refl;
          anew = subst (IsMarkedAnew marks) (sym (append-nil marks)) (anew_same marks rises);
          renumbered = renumbered_then first then_ren;
        };
        items_are = s.after_is ∙ removed node left a b right node_is at place c refl refl;
      }

  settled_two : AreTwoNow mid new (level == 0) items node at after → AreSettled mid new level left a b right marks before after
  settled_two s =
      let halves : AreHalves mid new (level == 0) items a.number b.number s.sep =
      subst (λ (n : ℕ). AreHalves mid new (level == 0) items a.number n s.sep) (right_number node left a b right node_is at place) (subst (λ (n : ℕ). AreHalves mid new (level == 0) items n (number_at node (at + 1)) s.sep) (left_number node left a b right node_is at place) s.halves) in
      let t = two_children mid new (2 ^ 32) level a.key s.sep items marks numbers a.number b.number holds rises fit s.many few halves a_small b_small differ a_apart b_apart in
      let first = renumbered_put mid halves.between a.number a_small (spelled (level == 0) (take (half items) items)) halves.left_put (2 ^ 32) before a_there a_count in
      let still : count_at halves.between b.number ≡ 1 = count_same mid halves.between b.number (halves.left_put.others (node_key b.number) (other_key b.number a.number b_small a_small turned)) ∙ b_count in
      let then_ren = renumbered_put halves.between new b.number b_small (spelled (level == 0) (opened (level == 0) (drop (half items) items))) halves.right_put (2 ^ 32) before b_there still in
      let c : Child = child_of a.key a.number t.marks_left t.numbers_left in
      let d : Child = child_of s.sep b.number t.marks_right t.numbers_right in
      record {
        children = c ∷ (d ∷ []);
        stored = record {
          each = t.each;
          first = refl;
          anew = t.anew;
          renumbered = renumbered_again ((a.number ∷ t.numbers_left) ++ ((b.number ∷ t.numbers_right) ++ [])) (λ q. omega (arith, before_is q, times-append q t.numbers_left ((b.number ∷ t.numbers_right) ++ []), times-append q t.numbers_right [], ap (times q) t.numbers_are, times-append q t.numbers_left t.numbers_right)) (renumbered_then first then_ren);
        };
        items_are = s.after_is ∙ changed node left a b right node_is at place c d refl refl refl;
      }

  pub settled : IsSettled mid new (level == 0) items node at after → AreSettled mid new level left a b right marks before after
  settled (inl s) = settled_one s
  settled (inr s) = settled_two s

-- two nodes were written as one
pub as_settled : (old between new : Map) (leaf : Bool) (items node : List Item) (at : ℕ) (after : List Item) → at + 1 < length node → (i j : Item) (one two : List Item) → one ≡ node → two ≡ node → Puts old (node_key (get_or one at i).child) (spelled leaf items) between → Dels between (node_key (get_or two (at + 1) j).child) new → length items ≤ most leaf → after ≡ remove node (at + 1) → IsSettled old new leaf items node at after
as_settled old between new leaf items node at after within i j one two one_is two_is put gone few after_is =
    let left : (get_or one at i).child ≡ number_at node at = ap (λ (xs : List Item). (get_or xs at i).child) one_is ∙ ap (λ (x : Item). x.child) (get_or_default node at i no_item (omega (arith, within))) in
    let right : (get_or two (at + 1) j).child ≡ number_at node (at + 1) = ap (λ (xs : List Item). (get_or xs (at + 1) j).child) two_is ∙ ap (λ (x : Item). x.child) (get_or_default node (at + 1) j no_item within) in
    inl (record {
      between = between;
      put = subst (λ (n : ℕ). Puts old (node_key n) (spelled leaf items) between) left put;
      gone = subst (λ (n : ℕ). Dels between (node_key n) new) right gone;
      few = few;
      after_is = after_is;
    })

pub joined_few : (leaf : Bool) (left : List Item) (key : List ℕ) (right all : List Item) → CanBe leaf (length left) → length right ≤ 7 → all ≡ joined leaf left key right → length all ≤ 24
joined_few leaf left key right all can few is = by leaf can (ap length is ∙ length-joined leaf left key right)
  where
    by : (b : Bool) → CanBe b (length left) → length all ≡ length left + length right → length all ≤ 24
    by true can e = omega (arith, can, e, few)
    by false can e = omega (arith, can.1, e, few)
