-- An entry taken from a node in memory, or from below it: a child with too few items and the one beside it.
use Rattle.std.proofs.Common.{◌≡◌, ℕ, zero, suc, ◌+◌, ◌-◌, ◌<◌, ◌≤◌, ◌^◌, Bool, true, false, List, [], ◌∷◌, ◌++◌, length, take, drop, get_or, set, Some, refl, sym, ap, ◌∙◌, subst, arith, inl, inr, append-nil, append_assoc, length-append, length-take, length-drop, length-set}
use Rattle.std.specs.Prelude.{◌==◌}
use Rattle.std.specs.List.{flat_map}
use Rattle.std.proofs.lemmas.Bool.Decides.{nat_tests}
use Rattle.std.proofs.lemmas.List.Concat.{flat_map-append}
use Rattle.std.proofs.lemmas.Option.{same_Some}
use Rattle.sg_index.specs.declared.item.Item.{Item}
use Rattle.sg_index.specs.Node.{IsBranch, AreBranches, AreFit, CanBe}
use Rattle.sg_index.specs.Order.{IsBelow, Entry}
use Rattle.sg_index.specs.Records.{Map}
use Rattle.sg_index.specs.Tree.{Mark, Rises, Child, branches, marks_in, numbers_in, IsChild, Holds, fewest, node_at, times, IsNoNode}
use Rattle.sg_index.specs.Change.{AreUnder, IsEdited, AreNumbered, AreRenumbered, IsSettled, IsJoinedRight, IsJoinedLeft, IsChanged, joined, half, no_item, number_at, key_at}
use Rattle.sg_index.proofs.Every.{Every, every_left, every_right, every_drop, at_place}
use Rattle.sg_index.proofs.Marks.{rises_left, rises_right}
use Rattle.sg_index.proofs.Seeking.{Begins, holds_first, length-branches}
use Rattle.sg_index.proofs.Counting.{times-append, one, one_same, count_most, node_same, numbered_after, numbered_part, renumbered_within, renumbered_then}
use Rattle.sg_index.proofs.Moving.{AreSame, holds_kept}
use Rattle.sg_index.proofs.Parting.{joined_up}
use Rattle.sg_index.proofs.Halves.{half_within}
use Rattle.sg_index.proofs.Fitting.{fit_joined, fit_take, loose, branches_join, separator_fits}
use Rattle.sg_index.proofs.Editing.{Above, edited_among_marks, edited_anew}
use Rattle.sg_index.proofs.Replacing.{inner_changed}
use Rattle.sg_index.proofs.Descending.{IsAt}
use Rattle.sg_index.proofs.Putting.{inner, at}
use Rattle.sg_index.proofs.Sharing.{settled, left_number, right_number, right_key, length-joined}

-- Two children side by side that hold what they held, but for the entry of a key, were joined or share their items anew.
pub pair_changed : (old mid new : Map) (level : ℕ) (key sep : List ℕ) (middle : List Entry) (known : Bool) (items after : List Item) (marks : List Mark) (numbers : List ℕ) (h : Holds old (suc level) sep items marks numbers) → Rises marks → AreNumbered old (2 ^ 32) numbers → (left : List Child) (a b : Child) (right : List Child) (parts : h.children ≡ left ++ (a ∷ (b ∷ right))) → AreUnder key (flat_map marks_in left) → Above key (flat_map marks_in right) → (at : ℕ) → length left ≡ at → (items_a : List Item) (marks_a : List Mark) (numbers_a : List ℕ) → Holds mid level a.key items_a marks_a numbers_a → (items_b : List Item) (marks_b : List Mark) (numbers_b : List ℕ) → Holds mid level b.key items_b marks_b numbers_b → AreFit (level == 0) (joined (level == 0) items_a b.key items_b) → length (joined (level == 0) items_a b.key items_b) ≤ 24 → fewest (level == 0) ≤ length (joined (level == 0) items_a b.key items_b) → IsEdited key middle known (a.marks ++ b.marks) (marks_a ++ marks_b) → AreRenumbered old mid (2 ^ 32) (2 ^ 32) (a.numbers ++ b.numbers) ((a.number ∷ numbers_a) ++ (b.number ∷ numbers_b)) → a.number < 2 ^ 32 → b.number < 2 ^ 32 → IsSettled mid new (level == 0) (joined (level == 0) items_a b.key items_b) items at after → IsChanged key middle known old new (2 ^ 32) (2 ^ 32) (suc level) sep marks numbers after
pair_changed old mid new level key sep middle known items after marks numbers h rises numbered left a b right parts below above at place items_a marks_a numbers_a holds_a items_b marks_b numbers_b holds_b fit few enough edited ren a_small b_small is_settled =
    let before : List ℕ = (a.number ∷ numbers_a) ++ (b.number ∷ numbers_b) in
    let j = joined_up mid level a.key items_a marks_a numbers_a b.key items_b marks_b numbers_b holds_a holds_b edited.rises in
    let part : AreNumbered old (2 ^ 32) (a.numbers ++ b.numbers) = numbered_part (a.numbers ++ b.numbers) (λ q. omega (arith, ap (times q) (h.numbers_are ∙ ap (flat_map numbers_in) parts), ap (times q) (flat_map-append numbers_in left (a ∷ (b ∷ right))), times-append q (flat_map numbers_in left) (flat_map numbers_in (a ∷ (b ∷ right))), times-append q a.numbers (flat_map numbers_in (b ∷ right)), times-append q b.numbers (flat_map numbers_in right), times-append q a.numbers b.numbers)) numbered in
    let s = settled mid new level items after left a b right (h.items_are ∙ ap branches parts) at place (joined (level == 0) items_a b.key items_b) j.marks_now (numbers_a ++ numbers_b) before j.holds j.anew.rises fit few enough (numbered_after ren part)
    (λ q. omega (arith, times-append q numbers_a (b.number ∷ numbers_b), times-append q numbers_a numbers_b)) a_small b_small is_settled in
    let anew = edited_anew key middle known (a.marks ++ b.marks) j.marks_now (flat_map marks_in s.children) (edited_anew key middle known (a.marks ++ b.marks) (marks_a ++ marks_b) j.marks_now edited j.anew) s.stored.anew in
    inner_changed old new (2 ^ 32) (2 ^ 32) level key sep middle known items after marks numbers h left (a ∷ (b ∷ [])) s.children right parts a.key refl s.stored.first rises numbered
    (subst (λ (ms : List Mark). IsEdited key middle known (a.marks ++ ms) (flat_map marks_in s.children)) (sym (append-nil b.marks)) anew)
    (subst (λ (ns : List ℕ). AreRenumbered old new (2 ^ 32) (2 ^ 32) (a.numbers ++ ns) (flat_map numbers_in s.children)) (sym (append-nil b.numbers)) (renumbered_then ren s.stored.renumbered))
    s.stored.each below above s.items_are

module _ (old mid : Map) (level : ℕ) (key sep : List ℕ) (middle : List Entry) (known : Bool) (items : List Item) (marks : List Mark) (numbers : List ℕ) (h : Holds old (suc level) sep items marks numbers) (rises : Rises marks) (numbered : AreNumbered old (2 ^ 32) numbers) (n : ℕ) (at : IsAt old level key h.children n) (child : List Item) (changed : IsChanged key middle known old mid (2 ^ 32) (2 ^ 32) level at.here.key at.here.marks at.child.below child) where
  each_at : Every (IsChild old (level == 0) (Holds old level)) (at.left ++ (at.here ∷ at.right))
  each_at = subst (Every (IsChild old (level == 0) (Holds old level))) at.parts h.each

  rises_at : Rises (flat_map marks_in at.left ++ (at.here.marks ++ flat_map marks_in at.right))
  rises_at = subst Rises (h.marks_are ∙ (ap (flat_map marks_in) at.parts ∙ flat_map-append marks_in at.left (at.here ∷ at.right))) rises

  -- what a child beside it holds stays
  beside_same : (c : Child) → ((q : ℕ) → times q c.numbers + times q at.here.numbers ≤ times q numbers) → AreSame old mid c.numbers
  beside_same c apart = λ q small some.
      let both = apart q in
      let once = numbered.once q small in
      let most_one = count_most old q in
      let own : times q at.here.numbers ≡ times q (at.here.number ∷ at.child.below) = ap (times q) at.child.numbers_are in
      let none : times q at.child.below ≡ 0 = omega arith in
      changed.renumbered.kept q small none (inl small)

  total_at : (q : ℕ) → times q numbers ≡ times q (flat_map numbers_in at.left) + (times q at.here.numbers + times q (flat_map numbers_in at.right))
  total_at q = omega (arith, ap (times q) (h.numbers_are ∙ ap (flat_map numbers_in) at.parts), ap (times q) (flat_map-append numbers_in at.left (at.here ∷ at.right)), times-append q (flat_map numbers_in at.left) (flat_map numbers_in (at.here ∷ at.right)), times-append q at.here.numbers (flat_map numbers_in at.right))

  here_begins : Begins at.here.key at.here.marks
  here_begins = holds_first old level at.here.key at.child.items at.here.marks at.child.below at.child.holds

  now_begins : Begins at.here.key changed.marks_now
  now_begins = holds_first mid level at.here.key child changed.marks_now changed.numbers_now changed.holds

  node_is : items ≡ branches (at.left ++ (at.here ∷ at.right))
  node_is = h.items_are ∙ ap branches at.parts

  -- a child beside it stands in its record as before
  module _ (c : Child) (is : IsChild old (level == 0) (Holds old level) c) (apart : (q : ℕ) → times q c.numbers + times q at.here.numbers ≤ times q numbers) where
    all_same : AreSame old mid (c.number ∷ is.below)
    all_same = subst (AreSame old mid) is.numbers_are (beside_same c apart)

    pub beside_there : node_at mid (level == 0) c.number ≡ Some is.items
    beside_there = node_same old mid (level == 0) c.number (all_same c.number is.small (omega (arith, one_same c.number))) ∙ is.there

    beside_holds : (held : List Item) → node_at mid (level == 0) c.number ≡ Some held → Holds mid level c.key held c.marks is.below
    beside_holds held there =
        let same : is.items ≡ held = same_Some is.items held (sym beside_there ∙ there) in
        subst (λ (xs : List Item). Holds mid level c.key xs c.marks is.below) same (holds_kept old mid level c.key is.items c.marks is.below is.holds (λ q small some. all_same q small (omega (arith, some))))

    pub beside_no : (number : ℕ) → number ≡ c.number → IsNoNode mid (level == 0) (fewest (level == 0)) number → ⊥
    beside_no number number_is none = absurd (omega (arith, none is.items (ap (node_at mid (level == 0)) number_is ∙ beside_there), is.enough))

  -- the child right of it
  module _ (r : Child) (rest : List Child) (right_is : at.right ≡ r ∷ rest) where
    right_child : IsChild old (level == 0) (Holds old level) r
    right_child =
        let on : Every (IsChild old (level == 0) (Holds old level)) (at.here ∷ at.right) = every_right (IsChild old (level == 0) (Holds old level)) at.left (at.here ∷ at.right) each_at in
        let all : Every (IsChild old (level == 0) (Holds old level)) (r ∷ rest) = subst (Every (IsChild old (level == 0) (Holds old level))) right_is on.1 in
        all.0

    right_apart : (q : ℕ) → times q r.numbers + times q at.here.numbers ≤ times q numbers
    right_apart q = omega (arith, total_at q, ap (λ (cs : List Child). times q (flat_map numbers_in cs)) right_is, times-append q r.numbers (flat_map numbers_in rest))

    right_parts : h.children ≡ at.left ++ (at.here ∷ (r ∷ rest))
    right_parts = at.parts ∙ ap (λ (cs : List Child). at.left ++ (at.here ∷ cs)) right_is

    right_node : items ≡ branches (at.left ++ (at.here ∷ (r ∷ rest)))
    right_node = h.items_are ∙ ap branches right_parts

    right_above : Above key (r.marks ++ flat_map marks_in rest)
    right_above = subst (λ (cs : List Child). Above key (flat_map marks_in cs)) right_is at.above

    right_rises : Rises (at.here.marks ++ r.marks)
    right_rises =
        let on : Rises (at.here.marks ++ (r.marks ++ flat_map marks_in rest)) = subst (λ (cs : List Child). Rises (at.here.marks ++ flat_map marks_in cs)) right_is (rises_right (flat_map marks_in at.left) (at.here.marks ++ flat_map marks_in at.right) rises_at) in
        rises_left (at.here.marks ++ r.marks) (flat_map marks_in rest) (subst Rises (sym (append_assoc at.here.marks r.marks (flat_map marks_in rest))) on)

    right_no : IsNoNode mid (level == 0) (fewest (level == 0)) (number_at items (n + 1)) → ⊥
    right_no = beside_no r right_child right_apart (number_at items (n + 1)) (right_number items at.left at.here r rest right_node n at.place)

    right_changed : (new : Map) (after : List Item) → IsJoinedRight mid new (level == 0) child items n after → AreFit (level == 0) child → 1 ≤ length child → length child ≤ 7 → length (key_at items (n + 1)) ≤ 64 → IsChanged key middle known old new (2 ^ 32) (2 ^ 32) (suc level) sep marks numbers after
    right_changed new after j fit some few short =
        let key_is : key_at items (n + 1) ≡ r.key = right_key items at.left at.here r rest right_node n at.place in
        let there : node_at mid (level == 0) r.number ≡ Some j.right = ap (node_at mid (level == 0)) (sym (right_number items at.left at.here r rest right_node n at.place)) ∙ j.there in
        let both = edited_among_marks key middle known [] at.here.marks changed.marks_now r.marks changed.edited tt (every_left (λ m. IsBelow key m.key) r.marks (flat_map marks_in rest) right_above) at.here.key here_begins now_begins (inr (r.key, holds_first old level r.key right_child.items r.marks right_child.below right_child.holds)) right_rises in
        let ren : AreRenumbered old mid (2 ^ 32) (2 ^ 32) (at.here.numbers ++ r.numbers) ((at.here.number ∷ changed.numbers_now) ++ (r.number ∷ right_child.below)) =
        renumbered_within (λ q. one q at.here.number + times q r.numbers) (at.here.numbers ++ r.numbers) ((at.here.number ∷ changed.numbers_now) ++ (r.number ∷ right_child.below))
        (λ q. omega (arith, times-append q at.here.numbers r.numbers, ap (times q) at.child.numbers_are)) (λ q. omega (arith, times-append q changed.numbers_now (r.number ∷ right_child.below), ap (times q) right_child.numbers_are)) changed.renumbered in
        let here_settled : IsSettled mid new (level == 0) (joined (level == 0) child r.key j.right) items n after = subst (λ (k : List ℕ). IsSettled mid new (level == 0) (joined (level == 0) child k j.right) items n after) key_is j.settled in
        let len = length-joined (level == 0) child r.key j.right in
        let key_short : length r.key ≤ 64 = subst (λ (k : List ℕ). length k ≤ 64) key_is short in
        pair_changed old mid new level key sep middle known items after marks numbers h rises numbered at.left at.here r rest right_parts at.below (every_right (λ m. IsBelow key m.key) r.marks (flat_map marks_in rest) right_above) n at.place child changed.marks_now changed.numbers_now changed.holds j.right r.marks right_child.below (beside_holds r right_child right_apart j.right there)
        (fit_joined (level == 0) child r.key j.right key_short some fit j.fit) (omega (arith, len, few, j.few)) (omega (arith, len, j.enough)) both ren at.child.small right_child.small here_settled

  -- the child left of it
  module _ (front : List Child) (l : Child) (left_is : at.left ≡ front ++ (l ∷ [])) (m : ℕ) (place : length front ≡ m) where
    left_parts : h.children ≡ front ++ (l ∷ (at.here ∷ at.right))
    left_parts = at.parts ∙ (ap (λ (cs : List Child). cs ++ (at.here ∷ at.right)) left_is ∙ append_assoc front (l ∷ []) (at.here ∷ at.right))

    left_node : items ≡ branches (front ++ (l ∷ (at.here ∷ at.right)))
    left_node = h.items_are ∙ ap branches left_parts

    left_child : IsChild old (level == 0) (Holds old level) l
    left_child = (every_right (IsChild old (level == 0) (Holds old level)) front (l ∷ (at.here ∷ at.right)) (subst (Every (IsChild old (level == 0) (Holds old level))) left_parts h.each)).0

    left_numbers : (q : ℕ) → times q (flat_map numbers_in at.left) ≡ times q (flat_map numbers_in front) + times q l.numbers
    left_numbers q = omega (arith, ap (λ (cs : List Child). times q (flat_map numbers_in cs)) left_is, ap (times q) (flat_map-append numbers_in front (l ∷ [])), times-append q (flat_map numbers_in front) (l.numbers ++ []), times-append q l.numbers [])

    left_apart : (q : ℕ) → times q l.numbers + times q at.here.numbers ≤ times q numbers
    left_apart q = omega (arith, total_at q, left_numbers q)

    left_marks : flat_map marks_in at.left ≡ flat_map marks_in front ++ l.marks
    left_marks = ap (flat_map marks_in) left_is ∙ (flat_map-append marks_in front (l ∷ []) ∙ ap (λ (ms : List Mark). flat_map marks_in front ++ ms) (append-nil l.marks))

    left_below : AreUnder key (flat_map marks_in front ++ l.marks)
    left_below = subst (AreUnder key) left_marks at.below

    left_rises : Rises (l.marks ++ (at.here.marks ++ []))
    left_rises =
        let whole : Rises ((flat_map marks_in front ++ l.marks) ++ (at.here.marks ++ flat_map marks_in at.right)) = subst (λ (ms : List Mark). Rises (ms ++ (at.here.marks ++ flat_map marks_in at.right))) left_marks rises_at in
        let on : Rises (l.marks ++ (at.here.marks ++ flat_map marks_in at.right)) = rises_right (flat_map marks_in front) (l.marks ++ (at.here.marks ++ flat_map marks_in at.right)) (subst Rises (append_assoc (flat_map marks_in front) l.marks (at.here.marks ++ flat_map marks_in at.right)) whole) in
        let part : Rises (l.marks ++ at.here.marks) = rises_left (l.marks ++ at.here.marks) (flat_map marks_in at.right) (subst Rises (sym (append_assoc l.marks at.here.marks (flat_map marks_in at.right))) on) in
        subst (λ (ms : List Mark). Rises (l.marks ++ ms)) (sym (append-nil at.here.marks)) part

    left_no : IsNoNode mid (level == 0) (fewest (level == 0)) (number_at items m) → ⊥
    left_no = beside_no l left_child left_apart (number_at items m) (left_number items front l at.here at.right left_node m place)

    left_changed : (new : Map) (after : List Item) → IsJoinedLeft mid new (level == 0) child items m after → AreFit (level == 0) child → length child ≤ 7 → length (key_at items (m + 1)) ≤ 64 → IsChanged key middle known old new (2 ^ 32) (2 ^ 32) (suc level) sep marks numbers after
    left_changed new after j fit few short =
        let key_is : key_at items (m + 1) ≡ at.here.key = right_key items front l at.here at.right left_node m place in
        let there : node_at mid (level == 0) l.number ≡ Some j.left = ap (node_at mid (level == 0)) (sym (left_number items front l at.here at.right left_node m place)) ∙ j.there in
        let both_nil = edited_among_marks key middle known l.marks at.here.marks changed.marks_now [] changed.edited (every_right (λ x. IsBelow x.key key) (flat_map marks_in front) l.marks left_below) tt at.here.key here_begins now_begins (inl refl) left_rises in
        let both : IsEdited key middle known (l.marks ++ at.here.marks) (l.marks ++ changed.marks_now) =
        subst (λ (ms : List Mark). IsEdited key middle known (l.marks ++ ms) (l.marks ++ changed.marks_now)) (append-nil at.here.marks)
        (subst (λ (ms : List Mark). IsEdited key middle known (l.marks ++ (at.here.marks ++ [])) (l.marks ++ ms)) (append-nil changed.marks_now) both_nil) in
        let ren : AreRenumbered old mid (2 ^ 32) (2 ^ 32) (l.numbers ++ at.here.numbers) ((l.number ∷ left_child.below) ++ (at.here.number ∷ changed.numbers_now)) =
        renumbered_within (λ q. one q at.here.number + times q l.numbers) (l.numbers ++ at.here.numbers) ((l.number ∷ left_child.below) ++ (at.here.number ∷ changed.numbers_now))
        (λ q. omega (arith, times-append q l.numbers at.here.numbers, ap (times q) at.child.numbers_are)) (λ q. omega (arith, times-append q left_child.below (at.here.number ∷ changed.numbers_now), ap (times q) left_child.numbers_are)) changed.renumbered in
        let here_settled : IsSettled mid new (level == 0) (joined (level == 0) j.left at.here.key child) items m after = subst (λ (k : List ℕ). IsSettled mid new (level == 0) (joined (level == 0) j.left k child) items m after) key_is j.settled in
        let len = length-joined (level == 0) j.left at.here.key child in
        let key_short : length at.here.key ≤ 64 = subst (λ (k : List ℕ). length k ≤ 64) key_is short in
        let some : 1 ≤ length j.left = by (level == 0) j.enough in
        pair_changed old mid new level key sep middle known items after marks numbers h rises numbered front l at.here at.right left_parts (every_left (λ x. IsBelow x.key key) (flat_map marks_in front) l.marks left_below) at.above m place j.left l.marks left_child.below (beside_holds l left_child left_apart j.left there) child changed.marks_now changed.numbers_now changed.holds
        (fit_joined (level == 0) j.left at.here.key child key_short some j.fit fit) (omega (arith, len, few, j.few)) (omega (arith, len, j.enough)) both ren left_child.small at.child.small here_settled
      where
        by : (b : Bool) → fewest b ≤ length j.left → 1 ≤ length j.left
        by true e = omega (arith, e)
        by false e = omega (arith, e)

  -- there is a child right of it
  pub with_right : (C : Type 0) → n + 1 < length items → ((r : Child) (rest : List Child) → at.right ≡ r ∷ rest → C) → C
  with_right C more f = by at.right refl
    where
      by : (cs : List Child) → at.right ≡ cs → C
      by [] e = absurd (omega (arith, more, ap length node_is, length-branches (at.left ++ (at.here ∷ at.right)), length-append at.left (at.here ∷ at.right), at.place, ap length e))
      by (r ∷ rest) e = f r rest e

  -- there is a child left of it
  pub with_left : (C : Type 0) (m : ℕ) → m + 1 ≡ n → ((front : List Child) (l : Child) → at.left ≡ front ++ (l ∷ []) → length front ≡ m → C) → C
  with_left C m is f =
      let p = at_place at.left m (omega (arith, at.place, is)) in
      f p.left p.here (p.parts ∙ ap (λ (cs : List Child). p.left ++ (p.here ∷ cs)) (empty p.right (omega (arith, ap length p.parts, length-append p.left (p.here ∷ p.right), p.place, at.place, is)))) p.place
    where
      empty : (cs : List Child) → length cs ≡ 0 → cs ≡ []
      empty [] e = refl
      empty (c ∷ cs) e = absurd (omega (arith, e))

  pub joined_right_no : n + 1 < length items → IsNoNode mid (level == 0) (fewest (level == 0)) (number_at items (n + 1)) → ⊥
  joined_right_no more none = with_right ⊥ more (λ r rest e. right_no r rest e none)

  pub joined_left_no : (m : ℕ) → m + 1 ≡ n → IsNoNode mid (level == 0) (fewest (level == 0)) (number_at items m) → ⊥
  joined_left_no m is none = with_left ⊥ m is (λ front l e place. left_no front l e m place none)

  pub joined_right : (new : Map) (after : List Item) → n + 1 < length items → IsJoinedRight mid new (level == 0) child items n after → AreFit (level == 0) child → 1 ≤ length child → length child ≤ 7 → length (key_at items (n + 1)) ≤ 64 → IsChanged key middle known old new (2 ^ 32) (2 ^ 32) (suc level) sep marks numbers after
  joined_right new after more j fit some few short = with_right (IsChanged key middle known old new (2 ^ 32) (2 ^ 32) (suc level) sep marks numbers after) more (λ r rest e. right_changed r rest e new after j fit some few short)

  pub joined_left : (new : Map) (after : List Item) (m : ℕ) → m + 1 ≡ n → IsJoinedLeft mid new (level == 0) child items m after → AreFit (level == 0) child → length child ≤ 7 → length (key_at items (m + 1)) ≤ 64 → IsChanged key middle known old new (2 ^ 32) (2 ^ 32) (suc level) sep marks numbers after
  joined_left new after m is j fit few short = with_left (IsChanged key middle known old new (2 ^ 32) (2 ^ 32) (suc level) sep marks numbers after) m is (λ front l e place. left_changed front l e m place new after j fit few short)

module _ (old : Map) (level : ℕ) (high : level ≡ 0 → ⊥) (items : List Item) (key : List ℕ) (n : ℕ) (within : n < length items) (number : ℕ) (item : Item) (number_is : number ≡ (get_or items n item).child) (left_of : (d : Item) → 0 < n → IsBelow key (get_or items n d).key → ⊥) (right_of : (d : Item) → n + 1 < length items → IsBelow key (get_or items (n + 1) d).key) (sep : List ℕ) (marks : List Mark) (numbers : List ℕ) (h : Holds old level sep items marks numbers) (rises : Rises marks) (numbered : AreNumbered old (2 ^ 32) numbers) (least : IsBelow key sep → ⊥) (mid : Map) (middle : List Entry) (known : Bool) (child : List Item) where
  here : IsAt old (level - 1) key (inner old level high items key n within number item number_is left_of right_of sep marks numbers h rises (2 ^ 32) numbered least).children n
  here = at old level high items key n within number item number_is left_of right_of sep marks numbers h rises (2 ^ 32) numbered least

  whole : Holds old (suc (level - 1)) sep items marks numbers
  whole = inner old level high items key n within number item number_is left_of right_of sep marks numbers h rises (2 ^ 32) numbered least

  up : suc (level - 1) ≡ level
  up = omega (arith, high)

  module _ (changed : IsChanged key middle known old mid (2 ^ 32) (2 ^ 32) (level - 1) (at old level high items key n within number item number_is left_of right_of sep marks numbers h rises (2 ^ 32) numbered least).here.key (at old level high items key n within number item number_is left_of right_of sep marks numbers h rises (2 ^ 32) numbered least).here.marks (at old level high items key n within number item number_is left_of right_of sep marks numbers h rises (2 ^ 32) numbered least).child.below child) where
    pub took_right : (new : Map) (after : List Item) → n + 1 < length items → IsJoinedRight mid new ((level - 1) == 0) child items n after → AreFit ((level - 1) == 0) child → 1 ≤ length child → length child ≤ 7 → length (key_at items (n + 1)) ≤ 64 → IsChanged key middle known old new (2 ^ 32) (2 ^ 32) level sep marks numbers after
    unfolding here whole
    took_right new after more j fit some few short = subst (λ (l : ℕ). IsChanged key middle known old new (2 ^ 32) (2 ^ 32) l sep marks numbers after) up (joined_right old mid (level - 1) key sep middle known items marks numbers whole rises numbered n here child changed new after more j fit some few short)

    pub took_left : (new : Map) (after : List Item) (m : ℕ) → m + 1 ≡ n → IsJoinedLeft mid new ((level - 1) == 0) child items m after → AreFit ((level - 1) == 0) child → length child ≤ 7 → length (key_at items (m + 1)) ≤ 64 → IsChanged key middle known old new (2 ^ 32) (2 ^ 32) level sep marks numbers after
    unfolding here whole
    took_left new after m is j fit few short = subst (λ (l : ℕ). IsChanged key middle known old new (2 ^ 32) (2 ^ 32) l sep marks numbers after) up (joined_left old mid (level - 1) key sep middle known items marks numbers whole rises numbered n here child changed new after m is j fit few short)

    pub no_right : n + 1 < length items → IsNoNode mid ((level - 1) == 0) (fewest ((level - 1) == 0)) (number_at items (n + 1)) → ⊥
    unfolding here whole
    no_right more none = joined_right_no old mid (level - 1) key sep middle known items marks numbers whole rises numbered n here child changed more none

    pub no_left : (m : ℕ) → m + 1 ≡ n → IsNoNode mid ((level - 1) == 0) (fewest ((level - 1) == 0)) (number_at items m) → ⊥
    unfolding here whole
    no_left m is none = joined_left_no old mid (level - 1) key sep middle known items marks numbers whole rises numbered n here child changed m is none

pub can_less : (leaf : Bool) (n m : ℕ) → CanBe leaf n → m ≤ n → fewest leaf ≤ m → CanBe leaf m
can_less true n m can le enough = omega (arith, can, le)
can_less false n m can le enough = (omega (arith, enough), omega (arith, can.1, le))

pub fewest_most : (leaf : Bool) (n : ℕ) → n < fewest leaf → n ≤ 7
fewest_most true n lt = omega (arith, lt)
fewest_most false n lt = omega (arith, lt)

pub fewest_some : (leaf : Bool) (n m : ℕ) → fewest leaf ≤ n → n ≤ m + 1 → 1 ≤ m
fewest_some true n m enough le = omega (arith, enough, le)
fewest_some false n m enough le = omega (arith, enough, le)

branch_there : (items : List Item) (k : ℕ) (d : Item) → AreBranches items → k < length items → IsBranch (get_or items k d)
branch_there items k d fit lt = by (loose items fit) lt
  where
    by : Every IsBranch items → k < length items → IsBranch (get_or items k d)
    by all lt = every_at items k all lt
      where
        every_at : (xs : List Item) (m : ℕ) → Every IsBranch xs → m < length xs → IsBranch (get_or xs m d)
        every_at [] m e f = absurd (omega (arith, f))
        every_at (x ∷ xs) zero e f = e.0
        every_at (x ∷ xs) (suc m) e f = every_at xs m e.1 (omega (arith, f))

every_set : (xs : List Item) (k : ℕ) (x : Item) → Every IsBranch xs → IsBranch x → Every IsBranch (set xs k x)
every_set [] k x all one = tt
every_set (y ∷ ys) zero x all one = (one, all.1)
every_set (y ∷ ys) (suc k) x all one = (all.0, every_set ys k x all.1 one)

set_fit : (xs : List Item) (k : ℕ) (x : Item) → AreBranches xs → IsBranch x → AreBranches (set xs (suc k) x)
set_fit [] k x all one = tt
set_fit (y ∷ ys) k x all one = (all.0, all.1, every_set ys k x all.2 one)

module _ (mid new : Map) (leaf : Bool) (both items : List Item) (at : ℕ) (after : List Item) (more : at + 1 < length items) where
  pub settled_fit : (level : ℕ) → (level ≡ 0 → ⊥) → AreFit (level == 0) items → AreFit leaf both → length both ≤ 24 → IsSettled mid new leaf both items at after → AreFit (level == 0) after
  settled_fit level high fit fit_both few s =
      let inner_is : (level == 0) ≡ false = grind (arith, nat_tests, high) in
      subst (λ (b : Bool). AreFit b after) (sym inner_is) (by (subst (λ (b : Bool). AreFit b items) inner_is fit) s)
    where
      next : at + 1 ≡ suc at
      next = omega arith

      by : AreBranches items → IsSettled mid new leaf both items at after → AreBranches after
      by fits (inl one) = subst AreBranches (sym one.after_is) (branches_join (take (at + 1) items) (drop (suc (at + 1)) items) (fit_take false (at + 1) items fits) (every_drop IsBranch (suc (at + 1)) items (loose items fits)) (omega (arith, length-take (at + 1) items, more)))
      by fits (inr two) =
          let short : length two.sep ≤ 64 = separator_fits leaf both (half both) two.sep fit_both (half_within leaf both two.many few) two.halves.separator_is in
          let was = branch_there items (at + 1) no_item fits more in
          let now : IsBranch (record (get_or items (at + 1) no_item) { key = two.sep }) = record { key = short; value = was.value; child = was.child } in
          subst AreBranches (sym two.after_is) (subst (λ (k : ℕ). AreBranches (set items k (record (get_or items (at + 1) no_item) { key = two.sep }))) (sym next) (set_fit items at (record (get_or items (at + 1) no_item) { key = two.sep }) fits now))

  pub settled_less : IsSettled mid new leaf both items at after → length after ≤ length items
  settled_less (inl one) = omega (arith, ap length one.after_is, length-append (take (at + 1) items) (drop (suc (at + 1)) items), length-take (at + 1) items, length-drop (suc (at + 1)) items, more)
  settled_less (inr two) = omega (arith, ap length two.after_is, length-set items (at + 1) (record (get_or items (at + 1) no_item) { key = two.sep }))

  pub settled_few : IsSettled mid new leaf both items at after → length items ≤ length after + 1
  settled_few (inl one) = omega (arith, ap length one.after_is, length-append (take (at + 1) items) (drop (suc (at + 1)) items), length-take (at + 1) items, length-drop (suc (at + 1)) items, more)
  settled_few (inr two) = omega (arith, ap length two.after_is, length-set items (at + 1) (record (get_or items (at + 1) no_item) { key = two.sep }))

pub right_fit : (mid new : Map) (leaf : Bool) (child items : List Item) (n : ℕ) (after : List Item) → (j : IsJoinedRight mid new leaf child items n after) → n + 1 < length items → (level : ℕ) → (level ≡ 0 → ⊥) → AreFit (level == 0) items → AreFit leaf child → 1 ≤ length child → length child ≤ 7 → length (key_at items (n + 1)) ≤ 64 → AreFit (level == 0) after
right_fit mid new leaf child items n after j more level high fit fit_child some few short =
    settled_fit mid new leaf (joined leaf child (key_at items (n + 1)) j.right) items n after more level high fit (fit_joined leaf child (key_at items (n + 1)) j.right short some fit_child j.fit) (omega (arith, length-joined leaf child (key_at items (n + 1)) j.right, few, j.few)) j.settled

pub left_fit : (mid new : Map) (leaf : Bool) (child items : List Item) (n : ℕ) (after : List Item) → (j : IsJoinedLeft mid new leaf child items n after) → n + 1 < length items → (level : ℕ) → (level ≡ 0 → ⊥) → AreFit (level == 0) items → AreFit leaf child → length child ≤ 7 → length (key_at items (n + 1)) ≤ 64 → AreFit (level == 0) after
left_fit mid new leaf child items n after j more level high fit fit_child few short =
    settled_fit mid new leaf (joined leaf j.left (key_at items (n + 1)) child) items n after more level high fit (fit_joined leaf j.left (key_at items (n + 1)) child short (fewest_some leaf (length j.left) (length j.left) j.enough (omega arith)) j.fit fit_child) (omega (arith, length-joined leaf j.left (key_at items (n + 1)) child, few, j.few)) j.settled

pub left_place : (level : ℕ) → (level ≡ 0 → ⊥) → (n len : ℕ) → ((level == 0) ≡ false → 2 ≤ len) → len ≤ n + 1 → (n - 1) + 1 ≡ n
left_place level high n len two le =
    let inner_is : (level == 0) ≡ false = grind (arith, nat_tests, high) in
    omega (arith, two inner_is, le)

pub before_place : (m n len : ℕ) → m + 1 ≡ n → n < len → m < len
before_place m n len is lt = omega (arith, is, lt)

pub same_place : (m n len : ℕ) → m + 1 ≡ n → n < len → m + 1 < len
same_place m n len is lt = omega (arith, is, lt)
