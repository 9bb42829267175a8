-- Nodes in memory that were written, whole or in halves.
use Rattle.std.proofs.Common.{◌≡◌, ◌≢◌, ℕ, suc, ◌<◌, ◌≤◌, ◌^◌, Bool, true, false, List, [], ◌∷◌, ◌++◌, length, take, drop, get_or, Some, refl, sym, ap, ◌∙◌, subst, arith, append-nil}
use Rattle.std.specs.Prelude.{◌==◌}
use Rattle.std.proofs.Math.Seq.{drop-cons}
use Rattle.std.proofs.lemmas.List.{take-append-drop}
use Rattle.sg_index.specs.declared.item.Item.{Item}
use Rattle.sg_index.specs.Node.{spelled, AreFit, CanBe}
use Rattle.sg_index.specs.Records.{Map, Puts}
use Rattle.sg_index.specs.Tree.{Mark, Rises, Child, IsChild, Holds, fewest, node_key, node_at, times}
use Rattle.sg_index.specs.Index.{count_at}
use Rattle.sg_index.specs.Change.{IsMarkedAnew, AreNumbered, AreRenumbered, AreStored, AreHalves, IsWritten, opened, half, most}
use Rattle.sg_index.proofs.Every.{Every}
use Rattle.sg_index.proofs.Loading.{put_there}
use Rattle.sg_index.proofs.Counting.{times-append, one, one_same, other_key, count_most, node_same, renumbered_none, renumbered_put, renumbered_new, renumbered_then, numbered_after}
use Rattle.sg_index.proofs.Moving.{AreSame, holds_kept}
use Rattle.sg_index.proofs.Editing.{anew_same}
use Rattle.sg_index.proofs.Parting.{AreParted, parted}
use Rattle.sg_index.proofs.Halves.{half_sizes, left_length, right_length, left_can, right_can}
use Rattle.sg_index.proofs.Fitting.{fit_take, fit_opened}

-- a child with this separator, number, marks and numbers of nodes below it
abbrev pub child_of : List ℕ → ℕ → List Mark → List ℕ → Child
child_of key number marks numbers = record { key = key; number = number; marks = marks; numbers = number ∷ numbers }

pub is_child : (records : Map) (level : ℕ) (key : List ℕ) (items : List Item) (marks : List Mark) (numbers : List ℕ) (number : ℕ) → Holds records level key items marks numbers → node_at records (level == 0) number ≡ Some items → fewest (level == 0) ≤ length items → number < 2 ^ 32 → IsChild records (level == 0) (Holds records level) (child_of key number marks numbers)
is_child records level key items marks numbers number holds there enough small = record {
  items = items;
  below = numbers;
  there = there;
  enough = enough;
  holds = holds;
  numbers_are = refl;
  small = small;
}

-- a number that stands among those below a node isn't the node's
apart_from : {records : Map} {next : ℕ} {numbers : List ℕ} (number : ℕ) → AreNumbered records next (number ∷ numbers) → (q : ℕ) → q < 2 ^ 32 → 1 ≤ times q numbers → q ≢ number
apart_from {records = records} number numbered q small some e =
    let here : one q number ≡ 1 = ap (λ (n : ℕ). one q n) (sym e) ∙ one_same q in
    absurd (omega (arith, numbered.once q small, count_most records q, some, here))

module _ (mid new : Map) (number : ℕ) (small : number < 2 ^ 32) (value : List ℕ) (put : Puts mid (node_key number) value new) where
  -- a record that was written changes none of the nodes below
  pub put_same : (next : ℕ) (numbers : List ℕ) → AreNumbered mid next (number ∷ numbers) → AreSame mid new numbers
  put_same next numbers numbered = λ q within some. put.others (node_key q) (other_key q number within small (apart_from number numbered q within some))

-- a node stands in its record, and none below it was changed
pub record IsOne (mid new : Map) (next : ℕ) (leaf : Bool) (items : List Item) (number : ℕ) (numbers : List ℕ) : Type 0 where
  pub same : AreSame mid new numbers
  pub there : node_at new leaf number ≡ Some items
  pub renumbered : AreRenumbered mid new next next (number ∷ numbers) (number ∷ numbers)

module _ (mid new : Map) (next level : ℕ) (key : List ℕ) (items : List Item) (marks : List Mark) (numbers : List ℕ) (number : ℕ) (holds : Holds mid level key items marks numbers) (numbered : AreNumbered mid next (number ∷ numbers)) (small : number < 2 ^ 32) (rises : Rises marks) where
  stored_so : AreSame mid new numbers → node_at new (level == 0) number ≡ Some items → fewest (level == 0) ≤ length items → AreRenumbered mid new next next (number ∷ numbers) (number ∷ numbers) → AreStored mid new next next level key marks (number ∷ numbers) (child_of key number marks numbers ∷ [])
  stored_so same there enough ren = record {
    each = (is_child new level key items marks numbers number (holds_kept mid new level key items marks numbers holds same) there enough small, tt);
    first = refl;
    anew = subst (IsMarkedAnew marks) (sym (append-nil marks)) (anew_same marks rises);
    renumbered = subst (AreRenumbered mid new next next (number ∷ numbers)) (sym (append-nil (number ∷ numbers))) ren;
  }

  here_once : 1 ≤ times number (number ∷ numbers)
  here_once = omega (arith, one_same number)

  count_here : count_at mid number ≡ 1
  count_here = omega (arith, numbered.once number small, count_most mid number, here_once)

  -- the node was written, or it stands in its record as it is
  pub written_one : (changed : Bool) → IsWritten changed mid new number (spelled (level == 0) items) → AreFit (level == 0) items → CanBe (level == 0) (length items) → (changed ≡ false → node_at mid (level == 0) number ≡ Some items) → IsOne mid new next (level == 0) items number numbers
  written_one true put fit can stands = record {
    same = put_same mid new number small (spelled (level == 0) items) put next numbers numbered;
    there = put_there mid new (level == 0) number items fit can put;
    renumbered = renumbered_put mid new number small (spelled (level == 0) items) put next (number ∷ numbers) here_once count_here;
  }
  written_one false same fit can stands = record {
    same = λ q within some. ap (λ (m : Map). m (node_key q)) same;
    there = ap (λ (m : Map). node_at m (level == 0) number) same ∙ stands refl;
    renumbered = subst (λ (m : Map). AreRenumbered mid m next next (number ∷ numbers) (number ∷ numbers)) (sym same) (renumbered_none mid next (number ∷ numbers));
  }

  pub stored_one : (changed : Bool) → IsWritten changed mid new number (spelled (level == 0) items) → AreFit (level == 0) items → CanBe (level == 0) (length items) → fewest (level == 0) ≤ length items → (changed ≡ false → node_at mid (level == 0) number ≡ Some items) → AreStored mid new next next level key marks (number ∷ numbers) (child_of key number marks numbers ∷ [])
  stored_one changed written fit can enough stands =
      let w = written_one changed written fit can stands in
      stored_so w.same w.there enough w.renumbered

-- two children that hold what one node held
pub record AreTwo (records : Map) (level : ℕ) (key sep : List ℕ) (marks : List Mark) (numbers : List ℕ) (left right : ℕ) : Type 0 where
  pub marks_left : List Mark
  pub marks_right : List Mark
  pub numbers_left : List ℕ
  pub numbers_right : List ℕ
  pub each : Every (IsChild records (level == 0) (Holds records level)) (child_of key left marks_left numbers_left ∷ child_of sep right marks_right numbers_right ∷ [])
  pub anew : IsMarkedAnew marks (marks_left ++ (marks_right ++ []))
  pub numbers_are : numbers ≡ numbers_left ++ numbers_right

blank : Item
blank = record { key = []; value = []; child = 0 }

-- two children that hold what one node held, and stand in records as its halves
module _ (mid new : Map) (next level : ℕ) (key sep : List ℕ) (items : List Item) (marks : List Mark) (numbers : List ℕ) (left right : ℕ) (holds : Holds mid level key items marks numbers) (rises : Rises marks) (fit : AreFit (level == 0) items) (many : most (level == 0) < length items) (few : length items ≤ 24) (halves : AreHalves mid new (level == 0) items left right sep) (left_small : left < 2 ^ 32) (right_small : right < 2 ^ 32) (differ : left ≢ right) (left_apart : (q : ℕ) → q < 2 ^ 32 → 1 ≤ times q numbers → q ≢ left) (right_apart : (q : ℕ) → q < 2 ^ 32 → 1 ≤ times q numbers → q ≢ right) where
  halves_parted : AreParted mid level key sep (take (half items) items) (opened (level == 0) (drop (half items) items)) marks numbers
  halves_parted =
      let sizes = half_sizes (level == 0) items many few in
      let here : half items < length items = sizes.2 in
      let behind : drop (half items) items ≡ get_or items (half items) blank ∷ drop (suc (half items)) items = drop-cons items (half items) blank here in
      let whole : items ≡ take (half items) items ++ (get_or items (half items) blank ∷ drop (suc (half items)) items) = sym (take-append-drop (half items) items) ∙ ap (λ (xs : List Item). take (half items) items ++ xs) behind in
      let p = parted mid level key (take (half items) items) (get_or items (half items) blank) (drop (suc (half items)) items) marks numbers (subst (λ (xs : List Item). Holds mid level key xs marks numbers) whole holds) (omega (arith, left_length (level == 0) items many few, sizes.0)) rises in
      subst (λ (xs : List Item). AreParted mid level key sep (take (half items) items) (opened (level == 0) xs) marks numbers) (sym behind)
      (subst (λ (k : List ℕ). AreParted mid level key k (take (half items) items) (opened (level == 0) (get_or items (half items) blank ∷ drop (suc (half items)) items)) marks numbers) (sym (halves.separator_is blank)) p)

  halves_same : AreSame mid new numbers
  halves_same = λ q small some. halves.right_put.others (node_key q) (other_key q right small right_small (right_apart q small some)) ∙ halves.left_put.others (node_key q) (other_key q left small left_small (left_apart q small some))

  left_there : node_at new (level == 0) left ≡ Some (take (half items) items)
  left_there =
      node_same halves.between new (level == 0) left (halves.right_put.others (node_key left) (other_key left right left_small right_small differ))
      ∙ put_there mid halves.between (level == 0) left (take (half items) items) (fit_take (level == 0) (half items) items fit) (left_can (level == 0) items many few (take (half items) items) refl) halves.left_put

  right_there : node_at new (level == 0) right ≡ Some (opened (level == 0) (drop (half items) items))
  right_there = put_there halves.between new (level == 0) right (opened (level == 0) (drop (half items) items)) (fit_opened (level == 0) (half items) items fit) (right_can (level == 0) items many few (opened (level == 0) (drop (half items) items)) refl) halves.right_put

  pub two_children : AreTwo new level key sep marks numbers left right
  two_children =
      let p = halves_parted in
      let sizes = half_sizes (level == 0) items many few in
      let same_left_part : AreSame mid new p.numbers_left = λ q small some. halves_same q small (omega (arith, some, ap (times q) p.numbers_are, times-append q p.numbers_left p.numbers_right)) in
      let same_right_part : AreSame mid new p.numbers_right = λ q small some. halves_same q small (omega (arith, some, ap (times q) p.numbers_are, times-append q p.numbers_left p.numbers_right)) in
      let left_enough : fewest (level == 0) ≤ length (take (half items) items) = subst (λ (n : ℕ). fewest (level == 0) ≤ n) (sym (left_length (level == 0) items many few)) sizes.5 in
      let right_enough : fewest (level == 0) ≤ length (opened (level == 0) (drop (half items) items)) = subst (λ (n : ℕ). fewest (level == 0) ≤ n) (sym (right_length (level == 0) items many few)) sizes.6 in
      record {
        marks_left = p.marks_left;
        marks_right = p.marks_right;
        numbers_left = p.numbers_left;
        numbers_right = p.numbers_right;
        each = (
          is_child new level key (take (half items) items) p.marks_left p.numbers_left left (holds_kept mid new level key (take (half items) items) p.marks_left p.numbers_left p.holds_left same_left_part) left_there left_enough left_small,
          (is_child new level sep (opened (level == 0) (drop (half items) items)) p.marks_right p.numbers_right right (holds_kept mid new level sep (opened (level == 0) (drop (half items) items)) p.marks_right p.numbers_right p.holds_right same_right_part) right_there right_enough right_small, tt),
        );
        anew = subst (λ (ms : List Mark). IsMarkedAnew marks (p.marks_left ++ ms)) (sym (append-nil p.marks_right)) p.anew;
        numbers_are = p.numbers_are;
      }

-- A node was divided, and its right half has a new number.
module _ (mid new : Map) (next level : ℕ) (key sep : List ℕ) (items : List Item) (marks : List Mark) (numbers : List ℕ) (number : ℕ) (holds : Holds mid level key items marks numbers) (numbered : AreNumbered mid next (number ∷ numbers)) (small : number < 2 ^ 32) (next_small : next < 2 ^ 32) (rises : Rises marks) (fit : AreFit (level == 0) items) (many : most (level == 0) < length items) (few : length items ≤ 24) (halves : AreHalves mid new (level == 0) items number next sep) where
  no_next : times next (number ∷ numbers) ≡ 0
  no_next = omega (arith, numbered.once next next_small, numbered.free next next_small (omega arith))

  differ : number ≢ next
  differ e = absurd (omega (arith, no_next, ap (λ (q : ℕ). one q number) (sym e), one_same number))

  next_apart : (q : ℕ) → q < 2 ^ 32 → 1 ≤ times q numbers → q ≢ next
  next_apart q within some e = absurd (omega (arith, no_next, some, ap (λ (k : ℕ). times k numbers) e))

  pub two : AreTwo new level key sep marks numbers number next
  two = two_children mid new next level key sep items marks numbers number next holds rises fit many few halves small next_small differ (apart_from number numbered) next_apart

  pub stored_two : AreStored mid new next (suc next) level key marks (number ∷ numbers) (child_of key number two.marks_left two.numbers_left ∷ child_of sep next two.marks_right two.numbers_right ∷ [])
  stored_two = record {
    each = two.each;
    first = refl;
    anew = two.anew;
    renumbered = renumbered_then first_ren then_ren;
  }
    where
      once_here : count_at mid number ≡ 1
      once_here = count_here mid new next level key items marks numbers number holds numbered small rises

      first_ren : AreRenumbered mid halves.between next next (number ∷ numbers) (number ∷ numbers)
      first_ren = renumbered_put mid halves.between number small (spelled (level == 0) (take (half items) items)) halves.left_put next (number ∷ numbers) (omega (arith, one_same number)) once_here

      was_free : count_at halves.between next ≡ 0
      was_free = (numbered_after first_ren numbered).free next next_small (omega arith)

      then_ren : AreRenumbered halves.between new next (suc next) (number ∷ numbers) ((number ∷ two.numbers_left) ++ ((next ∷ two.numbers_right) ++ []))
      then_ren = renumbered_new halves.between new next next_small (spelled (level == 0) (opened (level == 0) (drop (half items) items))) halves.right_put (number ∷ numbers) ((number ∷ two.numbers_left) ++ ((next ∷ two.numbers_right) ++ [])) was_free
          (λ q. omega (arith, times-append q two.numbers_left ((next ∷ two.numbers_right) ++ []), times-append q two.numbers_right [], ap (times q) two.numbers_are, times-append q two.numbers_left two.numbers_right))
