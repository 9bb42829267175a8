-- A node with too many items in two halves.
use Rattle.std.proofs.Common.{◌≡◌, ℕ, ◌-◌, ◌<◌, ◌≤◌, Bool, true, false, List, [], ◌∷◌, length, take, drop, refl, ap, ◌∙◌, arith, length-take, length-drop}
use Rattle.sg_index.specs.declared.item.Item.{Item}
use Rattle.sg_index.specs.Node.{CanBe}
use Rattle.sg_index.specs.Tree.{fewest}
use Rattle.sg_index.specs.Change.{with_key, opened, half, most}

pub length-with_key : (leaf : Bool) (key : List ℕ) (items : List Item) → length (with_key leaf key items) ≡ length items
length-with_key true key items = refl
length-with_key false key [] = refl
length-with_key false key (i ∷ is) = refl

module _ (leaf : Bool) (items : List Item) (many : most leaf < length items) (few : length items ≤ 24) where
  pub half_sizes : (7 ≤ half items) × (half items ≤ 12) × (half items < length items) × (7 ≤ length items - half items) × (length items - half items ≤ 12) × (fewest leaf ≤ half items) × (fewest leaf ≤ length items - half items)
  half_sizes = by leaf many
    where
      by : (b : Bool) → most b < length items → (7 ≤ half items) × (half items ≤ 12) × (half items < length items) × (7 ≤ length items - half items) × (length items - half items ≤ 12) × (fewest b ≤ half items) × (fewest b ≤ length items - half items)
      by true h = (omega arith, omega arith, omega arith, omega arith, omega arith, omega arith, omega arith)
      by false h = (omega arith, omega arith, omega arith, omega arith, omega arith, omega arith, omega arith)

  pub left_length : length (take (half items) items) ≡ half items
  left_length = let h = half_sizes.2 in omega (arith, length-take (half items) items)

  pub right_length : length (opened leaf (drop (half items) items)) ≡ length items - half items
  right_length = length-with_key leaf [] (drop (half items) items) ∙ length-drop (half items) items

pub has_two : (leaf : Bool) (n : ℕ) → most leaf < n → 2 ≤ n
has_two true n more = omega (arith, more)
has_two false n more = omega (arith, more)

can_be : (leaf : Bool) (n : ℕ) → 1 ≤ n → n ≤ 12 → CanBe leaf n
can_be true n some few = omega arith
can_be false n some few = (some, omega arith)

module _ (leaf : Bool) (items : List Item) (many : most leaf < length items) (few : length items ≤ 24) (slice : List Item) where
  pub left_can : slice ≡ take (half items) items → CanBe leaf (length slice)
  left_can e =
      let sizes = half_sizes leaf items many few in
      let len : length slice ≡ half items = ap length e ∙ left_length leaf items many few in
      can_be leaf (length slice) (omega (arith, len, sizes.0)) (omega (arith, len, sizes.1))

  pub right_can : slice ≡ opened leaf (drop (half items) items) → CanBe leaf (length slice)
  right_can e =
      let sizes = half_sizes leaf items many few in
      let len : length slice ≡ length items - half items = ap length e ∙ right_length leaf items many few in
      can_be leaf (length slice) (omega (arith, len, sizes.3)) (omega (arith, len, sizes.4))

-- the middle is there
pub half_within : (leaf : Bool) (items : List Item) → most leaf < length items → length items ≤ 24 → half items < length items
half_within leaf items many few = (half_sizes leaf items many few).2
