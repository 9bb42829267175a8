-- A part of a tree whose records stay, while others change.
use Rattle.std.proofs.Common.{◌≡◌, ℕ, zero, suc, ◌<◌, ◌≤◌, ◌^◌, List, [], ◌∷◌, ◌++◌, refl, ap, ◌∙◌, subst, arith}
use Rattle.std.specs.Prelude.{◌==◌}
use Rattle.std.specs.List.{flat_map}
use Rattle.sg_index.specs.declared.item.Item.{Item}
use Rattle.sg_index.specs.Records.{Map}
use Rattle.sg_index.specs.Tree.{Mark, Child, numbers_in, IsChild, Holds, node_key, times}
use Rattle.sg_index.proofs.Every.{Every}
use Rattle.sg_index.proofs.Counting.{times-append, one_same, one_other, node_same}

-- the records of these nodes are the same in both maps
abbrev pub AreSame : Map → Map → List ℕ → Type 0
AreSame old new numbers = (q : ℕ) → q < 2 ^ 32 → 1 ≤ times q numbers → new (node_key q) ≡ old (node_key q)

pub same_left : (old new : Map) (xs ys : List ℕ) → AreSame old new (xs ++ ys) → AreSame old new xs
same_left old new xs ys h = λ q small some. h q small (omega (arith, some, times-append q xs ys))

pub same_right : (old new : Map) (xs ys : List ℕ) → AreSame old new (xs ++ ys) → AreSame old new ys
same_right old new xs ys h = λ q small some. h q small (omega (arith, some, times-append q xs ys))

module _ (old new : Map) where
  -- what such children hold stands in the other map too
  kept_each : (level : ℕ) → ((key : List ℕ) (items : List Item) (marks : List Mark) (numbers : List ℕ) → Holds old level key items marks numbers → AreSame old new numbers → Holds new level key items marks numbers) → (children : List Child) → Every (IsChild old (level == 0) (Holds old level)) children → AreSame old new (flat_map numbers_in children) → Every (IsChild new (level == 0) (Holds new level)) children
  kept_each level below [] each same = tt
  kept_each level below (c ∷ cs) each same =
      let own : AreSame old new c.numbers = same_left old new c.numbers (flat_map numbers_in cs) same in
      let all : AreSame old new (c.number ∷ each.0.below) = subst (AreSame old new) each.0.numbers_are own in
      let here : 1 ≤ times c.number (c.number ∷ each.0.below) = omega (arith, one_same c.number) in
      let behind : AreSame old new each.0.below = λ q small some. all q small (omega (arith, some)) in (
        record {
          items = each.0.items;
          below = each.0.below;
          there = node_same old new (level == 0) c.number (all c.number each.0.small here) ∙ each.0.there;
          enough = each.0.enough;
          holds = below c.key each.0.items c.marks each.0.below each.0.holds behind;
          numbers_are = each.0.numbers_are;
          small = each.0.small;
        },
        kept_each level below cs each.1 (same_right old new c.numbers (flat_map numbers_in cs) same),
      )

  pub holds_kept : (level : ℕ) (key : List ℕ) (items : List Item) (marks : List Mark) (numbers : List ℕ) → Holds old level key items marks numbers → AreSame old new numbers → Holds new level key items marks numbers
  holds_kept zero key items marks numbers h same = h
  holds_kept (suc level) key items marks numbers h same = record {
    children = h.children;
    items_are = h.items_are;
    first = h.first;
    each = kept_each level (holds_kept level) h.children h.each (subst (AreSame old new) h.numbers_are same);
    marks_are = h.marks_are;
    numbers_are = h.numbers_are;
  }

  pub children_kept : (level : ℕ) (children : List Child) → Every (IsChild old (level == 0) (Holds old level)) children → AreSame old new (flat_map numbers_in children) → Every (IsChild new (level == 0) (Holds new level)) children
  children_kept level = kept_each level (holds_kept level)

module _ (records : Map) where
  small_each : (level : ℕ) → ((key : List ℕ) (items : List Item) (marks : List Mark) (numbers : List ℕ) → Holds records level key items marks numbers → (q : ℕ) → 2 ^ 32 ≤ q → times q numbers ≡ 0) → (children : List Child) → Every (IsChild records (level == 0) (Holds records level)) children → (q : ℕ) → 2 ^ 32 ≤ q → times q (flat_map numbers_in children) ≡ 0
  small_each level below [] each q large = refl
  small_each level below (c ∷ cs) each q large =
      let own : times q c.numbers ≡ times q (c.number ∷ each.0.below) = ap (times q) each.0.numbers_are in
      omega (arith, times-append q c.numbers (flat_map numbers_in cs), own, one_other q c.number (λ e. absurd (omega (arith, e, large, each.0.small))), below c.key each.0.items c.marks each.0.below each.0.holds q large, small_each level below cs each.1 q large)

  -- the numbers of nodes have 4 bytes
  pub holds_small : (level : ℕ) (key : List ℕ) (items : List Item) (marks : List Mark) (numbers : List ℕ) → Holds records level key items marks numbers → (q : ℕ) → 2 ^ 32 ≤ q → times q numbers ≡ 0
  holds_small zero key items marks numbers h q large = ap (times q) h.numbers_are
  holds_small (suc level) key items marks numbers h q large = ap (times q) h.numbers_are ∙ small_each level (holds_small level) h.children h.each q large
