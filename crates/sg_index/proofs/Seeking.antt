-- The first entry from a key on, in a node and below it.
use Rattle.std.proofs.Common.{◌≡◌, ℕ, zero, suc, ◌+◌, ◌-◌, ◌<◌, ◌≤◌, Bool, true, false, List, [], ◌∷◌, ◌++◌, length, map, get_or, Option, Some, None, Result, Ok, Err, refl, sym, ap, ◌∙◌, subst, arith, inl, inr, cond, append_assoc, length-append}
use Rattle.std.specs.Prelude.{⊤, ◌⊎◌, ◌==◌, is_some, find}
use Rattle.std.specs.Option.{option_map}
use Rattle.std.specs.List.{flat_map}
use Rattle.std.specs.Result.{MatchResult}
use Rattle.sg_index.specs.declared.fault.IndexFault.{IndexFault}
use Rattle.sg_index.specs.Fault.{MatchFault}
use Rattle.std.proofs.lemmas.List.Concat.{flat_map-append}
use Rattle.std.proofs.lemmas.Option.{same_Some}
use Rattle.std.proofs.lemmas.List.{length-map, get_or_default}
use Rattle.std.proofs.lemmas.Bool.{false≢true}
use Rattle.sg_index.specs.declared.item.Item.{Item}
use Rattle.sg_index.specs.Order.{IsBelow, Entry, is_from, next_in}
use Rattle.sg_index.specs.Records.{Map}
use Rattle.sg_index.specs.Tree.{Mark, separator, mark_of, entry_of, IsBefore, Rises, entries_in, Child, item_of, branches, marks_in, fewest, IsLeaf, IsChild, Holds, first_key, node_at, IsNoNode, IsBroken}
use Rattle.sg_index.proofs.Every.{Every, every_right, every_weaker, at_place}
use Rattle.sg_index.proofs.Keys.{below_trans, below_upto, below_not_from, above_from, find_skip, find_stop, find_on, find_first, find_from}
use Rattle.sg_index.proofs.Marks.{Apart, rises_left, rises_right, rises_apart, entries_in-append, entries_in-items, every_entry, before_separator}

pub record Begins (key : List ℕ) (marks : List Mark) : Type 0 where
  pub rest : List Mark
  pub is : marks ≡ separator key ∷ rest

pub record HasEntry (marks : List Mark) : Type 0 where
  pub entry : Entry
  pub rest : List Entry
  pub is : entries_in marks ≡ entry ∷ rest

unlike : {X : Type 0} (x : X) → None ≡ Some x → ⊥
unlike x e = cc

module _ (records : Map) where
  -- what a node holds begins with the separator left of it
  first_begins : (level : ℕ) → ((key : List ℕ) (items : List Item) (marks : List Mark) (numbers : List ℕ) → Holds records level key items marks numbers → Begins key marks) → (key : List ℕ) (marks : List Mark) (children : List Child) → first_key children ≡ Some key → Every (IsChild records (level == 0) (Holds records level)) children → marks ≡ flat_map marks_in children → Begins key marks
  first_begins level below key marks [] e each is = absurd (unlike key e)
  first_begins level below key marks (c ∷ cs) e each is =
      let b = below c.key each.0.items c.marks each.0.below each.0.holds in
      let same : c.key ≡ key = same_Some c.key key e in
      record {
        rest = b.rest ++ flat_map marks_in cs;
        is = is ∙ (ap (λ (ms : List Mark). ms ++ flat_map marks_in cs) b.is ∙ ap (λ (k : List ℕ). separator k ∷ (b.rest ++ flat_map marks_in cs)) same);
      }

  pub holds_first : (level : ℕ) (key : List ℕ) (items : List Item) (marks : List Mark) (numbers : List ℕ) → Holds records level key items marks numbers → Begins key marks
  holds_first zero key items marks numbers h = record { rest = map mark_of items; is = h.marks_are }
  holds_first (suc level) key items marks numbers h = first_begins level (holds_first level) key marks h.children h.first h.each h.marks_are

  fewest_some : (leaf : Bool) → 1 ≤ fewest leaf
  fewest_some true = omega arith
  fewest_some false = omega arith

  -- a node with items holds an entry
  first_has : (level : ℕ) → ((key : List ℕ) (items : List Item) (marks : List Mark) (numbers : List ℕ) → Holds records level key items marks numbers → 1 ≤ length items → HasEntry marks) → (items : List Item) (marks : List Mark) (children : List Child) → 1 ≤ length items → items ≡ branches children → Every (IsChild records (level == 0) (Holds records level)) children → marks ≡ flat_map marks_in children → HasEntry marks
  first_has level below items marks [] some e each is = absurd (omega (arith, some, ap length e))
  first_has level below items marks (c ∷ cs) some e each is =
      let enough : fewest (level == 0) ≤ length each.0.items = each.0.enough in
      let one : 1 ≤ fewest (level == 0) = fewest_some (level == 0) in
      let b = below c.key each.0.items c.marks each.0.below each.0.holds (omega (arith, enough, one)) in
      record {
        entry = b.entry;
        rest = b.rest ++ entries_in (flat_map marks_in cs);
        is = ap entries_in is ∙ (entries_in-append c.marks (flat_map marks_in cs) ∙ ap (λ (es : List Entry). es ++ entries_in (flat_map marks_in cs)) b.is);
      }

  pub holds_some : (level : ℕ) (key : List ℕ) (items : List Item) (marks : List Mark) (numbers : List ℕ) → Holds records level key items marks numbers → 1 ≤ length items → HasEntry marks
  holds_some zero key [] marks numbers h some = absurd (omega (arith, some))
  holds_some zero key (i ∷ is) marks numbers h some = record { entry = entry_of i; rest = map entry_of is; is = ap entries_in h.marks_are ∙ entries_in-items (i ∷ is) }
  holds_some (suc level) key items marks numbers h some = first_has level (holds_some level) items marks h.children some h.items_are h.each h.marks_are

pub length-branches : (children : List Child) → length (branches children) ≡ length children
length-branches [] = refl
length-branches (c ∷ cs) = ap suc (length-map cs item_of)

get_item : (left : List Child) (here : Child) (right : List Child) (d : Item) → get_or (map item_of (left ++ here ∷ right)) (length left) d ≡ item_of here
get_item [] here right d = refl
get_item (c ∷ left) here right d = get_item left here right d

-- the branch to a child that isn't the first one
pub get_branch : (left : List Child) (here : Child) (right : List Child) (d : Item) → 1 ≤ length left → get_or (branches (left ++ here ∷ right)) (length left) d ≡ item_of here
get_branch [] here right d some = absurd (omega (arith, some))
get_branch (c ∷ left) here right d some = get_item left here right d

-- and the number of any child
pub get_child : (left : List Child) (here : Child) (right : List Child) (d : Item) → (get_or (branches (left ++ here ∷ right)) (length left) d).child ≡ here.number
get_child [] here right d = refl
get_child (c ∷ left) here right d = ap (λ (i : Item). i.child) (get_item left here right d)

-- the entries of a leaf
module _ (key : List ℕ) (items : List Item) (marks : List Mark) (numbers : List ℕ) (h : IsLeaf key items marks numbers) (from : List ℕ) (strict : Bool) (n : ℕ) (within : n ≤ length items) (before : (k : ℕ) (d : Item) → k < n → is_from from strict (get_or items k d).key ≡ false) (at : (d : Item) → n < length items → is_from from strict (get_or items n d).key ≡ true) where
  leaf_entries : entries_in marks ≡ map entry_of items
  leaf_entries = ap entries_in h.marks_are ∙ entries_in-items items

  entry_by : (b : Bool) (x : Item) (rest : Option Entry) (held : Option Item) → rest ≡ option_map entry_of held → cond b (Some (entry_of x)) rest ≡ option_map entry_of (cond b (Some x) held)
  entry_by true x rest held e = refl
  entry_by false x rest held e = e

  find_entry : (xs : List Item) → find (λ e. is_from from strict e.0) (map entry_of xs) ≡ option_map entry_of (find (λ i. is_from from strict i.key) xs)
  find_entry [] = refl
  find_entry (x ∷ xs) = entry_by (is_from from strict x.key) x (find (λ e. is_from from strict e.0) (map entry_of xs)) (find (λ i. is_from from strict i.key) xs) (find_entry xs)

  pub leaf_some : (i : Item) → n < length items → i ≡ get_or items n i → Some (entry_of i) ≡ next_in (entries_in marks) from strict
  unfolding next_in
  leaf_some i lt is =
      sym (ap (find (λ e. is_from from strict e.0)) leaf_entries
      ∙ (find_entry items ∙ ap (option_map entry_of) ((find_from (λ i. is_from from strict i.key) items n within before (λ h d. at d h)).0 i lt is)))

  pub leaf_none : length items ≤ n → None ≡ next_in (entries_in marks) from strict
  unfolding next_in
  leaf_none all =
      sym (ap (find (λ e. is_from from strict e.0)) leaf_entries
      ∙ (find_entry items ∙ ap (option_map entry_of) ((find_from (λ i. is_from from strict i.key) items n within before (λ h d. at d h)).1 all)))

-- what stands right of a separator that is above a key is above it
pub later : (from key : List ℕ) (m : Mark) → IsBelow from key → IsBefore (separator key) m → IsBelow from m.key
later from key m above (inl below) = below_trans from key m.key above below
later from key m above (inr same) = subst (IsBelow from) same.0 above

-- what a look below a child answers
abbrev pub Answers : Map → ℕ → ℕ → ℕ → List ℕ → Bool → Option Item → Type 0
Answers records level number least from strict found =
    (key : List ℕ) (items : List Item) (marks : List Mark) (numbers : List ℕ) → node_at records (level == 0) number ≡ Some items → least ≤ length items → Holds records level key items marks numbers → Rises marks → option_map entry_of found ≡ next_in (entries_in marks) from strict

module _ (records : Map) (level : ℕ) (key : List ℕ) (items : List Item) (marks : List Mark) (numbers : List ℕ) (h : Holds records (suc level) key items marks numbers) (rises : Rises marks) (n : ℕ) (within : n < length items) where
  module _ (left : List Child) (here : Child) (right : List Child) (parts : h.children ≡ left ++ here ∷ right) (place : length left ≡ n) where
    items_are : items ≡ branches (left ++ here ∷ right)
    items_are = h.items_are ∙ ap branches parts

    each : Every (IsChild records (level == 0) (Holds records level)) (left ++ here ∷ right)
    each = subst (Every (IsChild records (level == 0) (Holds records level))) parts h.each

    pub child : IsChild records (level == 0) (Holds records level) here
    child = (every_right (IsChild records (level == 0) (Holds records level)) left (here ∷ right) each).0

    marks_parts : marks ≡ flat_map marks_in left ++ (here.marks ++ flat_map marks_in right)
    marks_parts = h.marks_are ∙ (ap (flat_map marks_in) parts ∙ flat_map-append marks_in left (here ∷ right))

    rising : Rises (flat_map marks_in left ++ (here.marks ++ flat_map marks_in right))
    rising = subst Rises marks_parts rises

    pub rises_here : Rises here.marks
    rises_here = rises_left here.marks (flat_map marks_in right) (rises_right (flat_map marks_in left) (here.marks ++ flat_map marks_in right) rising)

    pub number_is : (d : Item) → (get_or items n d).child ≡ here.number
    number_is d = ap (λ (xs : List Item). (get_or xs n d).child) items_are ∙ (ap (λ (k : ℕ). (get_or (branches (left ++ here ∷ right)) k d).child) (sym place) ∙ get_child left here right d)

    -- what stands left of the child is below the key
    left_below : (a : Mark) → Every (IsBefore a) (here.marks ++ flat_map marks_in right) → IsBelow a.key here.key
    left_below a all =
        let b = holds_first records level here.key child.items here.marks child.below child.holds in
        let first : Every (IsBefore a) (separator here.key ∷ b.rest ++ flat_map marks_in right) = subst (λ (ms : List Mark). Every (IsBefore a) (ms ++ flat_map marks_in right)) b.is all in
        before_separator a here.key first.0

    module _ (from : List ℕ) (strict : Bool) (left_of : (d : Item) → 0 < n → IsBelow from (get_or items n d).key → ⊥) (right_of : (d : Item) → n + 1 < length items → IsBelow from (get_or items (n + 1) d).key) where
      skipped : (n : ℕ) → length left ≡ n → ((d : Item) → 0 < n → IsBelow from (get_or items n d).key → ⊥) → Every (λ e. is_from from strict e.0 ≡ false) (entries_in (flat_map marks_in left))
      skipped zero at upto = none left at
        where
          none : (left : List Child) → length left ≡ 0 → Every (λ e. is_from from strict e.0 ≡ false) (entries_in (flat_map marks_in left))
          none [] e = tt
          none (c ∷ cs) e = absurd (omega (arith, e))
      skipped (suc k) at upto =
          let d : Item = item_of here in
          let same : get_or items (suc k) d ≡ item_of here = ap (λ (xs : List Item). get_or xs (suc k) d) items_are ∙ (ap (λ (m : ℕ). get_or (branches (left ++ here ∷ right)) m d) (sym at) ∙ get_branch left here right d (omega (arith, at))) in
          let upto_here : IsBelow from here.key → ⊥ = λ below. upto d (omega arith) (subst (λ (i : Item). IsBelow from i.key) (sym same) below) in
          let apart : Apart (flat_map marks_in left) (here.marks ++ flat_map marks_in right) = rises_apart (flat_map marks_in left) (here.marks ++ flat_map marks_in right) rising in
          every_entry (λ k. is_from from strict k ≡ false) (flat_map marks_in left)
          (every_weaker (λ a. Every (IsBefore a) (here.marks ++ flat_map marks_in right)) (λ a. is_from from strict a.key ≡ false) (λ a all. below_not_from from strict a.key (below_upto a.key here.key from (left_below a all) upto_here)) (flat_map marks_in left) apart)

      entries_parts : entries_in marks ≡ entries_in (flat_map marks_in left) ++ (entries_in here.marks ++ entries_in (flat_map marks_in right))
      entries_parts = ap entries_in marks_parts ∙ (entries_in-append (flat_map marks_in left) (here.marks ++ flat_map marks_in right) ∙ ap (λ (es : List Entry). entries_in (flat_map marks_in left) ++ es) (entries_in-append here.marks (flat_map marks_in right)))

      on : next_in (entries_in marks) from strict ≡ find (λ e. is_from from strict e.0) (entries_in here.marks ++ entries_in (flat_map marks_in right))
      unfolding next_in
      on = ap (find (λ e. is_from from strict e.0)) entries_parts ∙ find_skip (λ e. is_from from strict e.0) (entries_in (flat_map marks_in left)) (entries_in here.marks ++ entries_in (flat_map marks_in right)) (skipped n place left_of)

      answer : (number : ℕ) → (found : Option Item) → number ≡ here.number → Answers records level number (fewest (level == 0)) from strict found → option_map entry_of found ≡ next_in (entries_in here.marks) from strict
      answer number found is answers = answers here.key child.items here.marks child.below (ap (node_at records (level == 0)) is ∙ child.there) child.enough child.holds rises_here

      -- the child has an entry that passes
      pub found_here : (number : ℕ) (i : Item) → number ≡ here.number → Answers records level number (fewest (level == 0)) from strict (Some i) → Some (entry_of i) ≡ next_in (entries_in marks) from strict
      unfolding next_in
      found_here number i is answers =
          sym (on ∙ find_stop (λ e. is_from from strict e.0) (entries_in here.marks) (entries_in (flat_map marks_in right)) (entry_of i) (sym (answer number (Some i) is answers)))

      -- it has none, and neither is there another child
      pub found_none : (number : ℕ) → number ≡ here.number → Answers records level number (fewest (level == 0)) from strict None → n + 1 ≡ length items → None ≡ next_in (entries_in marks) from strict
      unfolding next_in
      found_none number is answers last = end right refl
        where
          end : (r : List Child) → right ≡ r → None ≡ next_in (entries_in marks) from strict
          end [] e =
              sym (on ∙ (find_on (λ e. is_from from strict e.0) (entries_in here.marks) (entries_in (flat_map marks_in right)) (sym (answer number None is answers)) ∙ ap (λ (r : List Child). find (λ e. is_from from strict e.0) (entries_in (flat_map marks_in r))) e))
          end (c ∷ cs) e = absurd (omega (arith, last, place, ap length items_are, length-branches (left ++ here ∷ right), length-append left (here ∷ right), ap length e))

      -- it has none, and the first entry of the next child is the answer
      pub found_next : (number second : ℕ) (i : Option Item) → number ≡ here.number → Answers records level number (fewest (level == 0)) from strict None → n + 1 < length items → ((d : Item) → second ≡ (get_or items (n + 1) d).child) → Answers records level second (fewest (level == 0)) from strict i → option_map entry_of i ≡ next_in (entries_in marks) from strict
      unfolding next_in
      found_next number second i is answers more second_is then = next right refl
        where
          next : (r : List Child) → right ≡ r → option_map entry_of i ≡ next_in (entries_in marks) from strict
          next [] e = absurd (omega (arith, more, place, ap length items_are, length-branches (left ++ here ∷ right), length-append left (here ∷ right), ap length e))
          next (c ∷ cs) e =
              let d : Item = item_of c in
              let further : List Child = left ++ here ∷ [] in
              let at : length further ≡ n + 1 = omega (arith, length-append left (here ∷ []), place) in
              let again : items ≡ branches (further ++ c ∷ cs) = items_are ∙ (ap (λ (r : List Child). branches (left ++ here ∷ r)) e ∙ ap branches (sym (append_assoc left (here ∷ []) (c ∷ cs)))) in
              let same : get_or items (n + 1) d ≡ item_of c = ap (λ (xs : List Item). get_or xs (n + 1) d) again ∙ (ap (λ (m : ℕ). get_or (branches (further ++ c ∷ cs)) m d) (sym at) ∙ get_branch further c cs d (omega (arith, at))) in
              let above : IsBelow from c.key = subst (λ (i : Item). IsBelow from i.key) same (right_of d more) in
              let each_right : Every (IsChild records (level == 0) (Holds records level)) (here ∷ c ∷ cs) = subst (λ (r : List Child). Every (IsChild records (level == 0) (Holds records level)) (here ∷ r)) e (every_right (IsChild records (level == 0) (Holds records level)) left (here ∷ right) each) in
              let held = each_right.1.0 in
              let rises_on : Rises (c.marks ++ flat_map marks_in cs) = subst (λ (r : List Child). Rises (flat_map marks_in r)) e (rises_right here.marks (flat_map marks_in right) (rises_right (flat_map marks_in left) (here.marks ++ flat_map marks_in right) rising)) in
              let rises_c : Rises c.marks = rises_left c.marks (flat_map marks_in cs) rises_on in
              let some = holds_some records level c.key held.items c.marks held.below held.holds (omega (arith, held.enough, fewest_some records (level == 0))) in
              let begins = holds_first records level c.key held.items c.marks held.below held.holds in
              let rises_b : Rises (separator c.key ∷ begins.rest) = subst Rises begins.is rises_c in
              let marks_above : Every (λ m. IsBelow from m.key) (separator c.key ∷ begins.rest) =
              (above, every_weaker (IsBefore (separator c.key)) (λ m. IsBelow from m.key) (λ m stands. later from c.key m above stands) begins.rest rises_b.0) in
              let entries_above : Every (λ e. IsBelow from e.0) (entries_in c.marks) = every_entry (λ k. IsBelow from k) c.marks (subst (Every (λ m. IsBelow from m.key)) (sym begins.is) marks_above) in
              let first_above : Every (λ e. IsBelow from e.0) (some.entry ∷ some.rest) = subst (Every (λ e. IsBelow from e.0)) some.is entries_above in
              let passes_first : is_from from strict some.entry.0 ≡ true = above_from from strict some.entry.0 first_above.0 in
              let in_c : next_in (entries_in c.marks) from strict ≡ Some some.entry = ap (find (λ e. is_from from strict e.0)) some.is ∙ find_first (λ e. is_from from strict e.0) some.entry some.rest passes_first in
              let answer_c : option_map entry_of i ≡ next_in (entries_in c.marks) from strict = then c.key held.items c.marks held.below (ap (node_at records (level == 0)) (second_is d ∙ ap (λ (i : Item). i.child) same) ∙ held.there) held.enough held.holds rises_c in
              let whole : entries_in (flat_map marks_in right) ≡ entries_in c.marks ++ entries_in (flat_map marks_in cs) = ap (λ (r : List Child). entries_in (flat_map marks_in r)) e ∙ entries_in-append c.marks (flat_map marks_in cs) in
              let stop : find (λ e. is_from from strict e.0) (entries_in c.marks ++ entries_in (flat_map marks_in cs)) ≡ Some some.entry = find_stop (λ e. is_from from strict e.0) (entries_in c.marks) (entries_in (flat_map marks_in cs)) some.entry in_c in
              answer_c ∙ (in_c ∙ sym (on ∙ (find_on (λ e. is_from from strict e.0) (entries_in here.marks) (entries_in (flat_map marks_in right)) (sym (answer number None is answers)) ∙ (ap (find (λ e. is_from from strict e.0)) whole ∙ stop))))

-- a node whose child is broken, or has no node, is broken
pub broken_child : (old now : Map) (level : ℕ) (items : List Item) (i : Item) (n : ℕ) → n < length items → i ≡ get_or items n i → (IsNoNode now (level == 0) (fewest (level == 0)) i.child ⊎ ((below : List Item) × (node_at old (level == 0) i.child ≡ Some below) × IsBroken old now level below)) → IsBroken old now (suc level) items
broken_child old now level items i n lt is why = (i, (n, lt, sym is), why)

pub same_items : (o : Option (List Item)) (xs ys : List Item) → o ≡ Some xs → o ≡ Some ys → ys ≡ xs
same_items o xs ys a b = same_Some ys xs (sym b ∙ a)

-- what is said of each tree below a node, as a call below that node says it
abbrev pub Below : Map → ℕ → ℕ → ℕ → (List Mark → Type 0) → Type 0
Below records level number least Says =
    (key : List ℕ) (items : List Item) (marks : List Mark) (numbers : List ℕ) → node_at records (level == 0) number ≡ Some items → least ≤ length items → Holds records level key items marks numbers → Rises marks → Says marks

module _ (records : Map) (level number : ℕ) (node held : List Item) (value : held ≡ node) (read : node_at records (level == 0) number ≡ Some node) where
  same_held : (items : List Item) → node_at records (level == 0) number ≡ Some items → items ≡ held
  same_held items there = same_items (node_at records (level == 0) number) node items read there ∙ sym value

  pub as_leaf : level ≡ 0 → (key : List ℕ) (items : List Item) (marks : List Mark) (numbers : List ℕ) → node_at records (level == 0) number ≡ Some items → Holds records level key items marks numbers → IsLeaf key held marks numbers
  as_leaf low key items marks numbers there h =
      subst (λ (xs : List Item). IsLeaf key xs marks numbers) (same_held items there) (subst (λ (l : ℕ). Holds records l key items marks numbers) low h)

  pub as_inner : (level ≡ 0 → ⊥) → (key : List ℕ) (items : List Item) (marks : List Mark) (numbers : List ℕ) → node_at records (level == 0) number ≡ Some items → Holds records level key items marks numbers → Holds records (suc (level - 1)) key held marks numbers
  as_inner high key items marks numbers there h =
      let up : level ≡ suc (level - 1) = omega (arith, high) in
      subst (λ (xs : List Item). Holds records (suc (level - 1)) key xs marks numbers) (same_held items there) (subst (λ (l : ℕ). Holds records l key items marks numbers) up h)

  module _ (high : level ≡ 0 → ⊥) (n : ℕ) (within : n < length held) (item : Item) (now : Map) (kept : now ≡ records) (least : ℕ) (fewest_is : least ≡ fewest ((level - 1) == 0)) where
    -- what is said below a child is said of the node, where it is the same of each tree
    pub says_below : (Says : Type 0) → Below now (level - 1) (get_or held n item).child least (λ marks. Says) → (key : List ℕ) (items : List Item) (marks : List Mark) (numbers : List ℕ) → node_at records (level == 0) number ≡ Some items → Holds records level key items marks numbers → Rises marks → Says
    says_below Says below key items marks numbers there h rises =
        let inner = as_inner high key items marks numbers there h in
        let f = at_place inner.children n (omega (arith, within, ap length inner.items_are, length-branches inner.children)) in
        let held_by = child records (level - 1) key held marks numbers inner rises n within f.left f.here f.right f.parts f.place in
        let number_of : (get_or held n item).child ≡ f.here.number = number_is records (level - 1) key held marks numbers inner rises n within f.left f.here f.right f.parts f.place item in
        let said : Below records (level - 1) (get_or held n item).child least (λ marks. Says) = subst (λ (m : Map). Below m (level - 1) (get_or held n item).child least (λ marks. Says)) kept below in
        said f.here.key held_by.items f.here.marks held_by.below (ap (node_at records ((level - 1) == 0)) number_of ∙ held_by.there) (subst (λ (k : ℕ). k ≤ length held_by.items) (sym fewest_is) held_by.enough) held_by.holds (rises_here records (level - 1) key held marks numbers inner rises n within f.left f.here f.right f.parts f.place)

    broken_at : (old : Map) → (IsNoNode now ((level - 1) == 0) least (get_or held n item).child ⊎ ((below : List Item) × (node_at now ((level - 1) == 0) (get_or held n item).child ≡ Some below) × IsBroken now now (level - 1) below)) → IsBroken records records (suc (level - 1)) held
    broken_at old why =
        broken_child records records (level - 1) held (get_or held n item) n within (get_or_default held n item (get_or held n item) within)
        (subst (λ (k : ℕ). IsNoNode records ((level - 1) == 0) k (get_or held n item).child ⊎ ((below : List Item) × (node_at records ((level - 1) == 0) (get_or held n item).child ≡ Some below) × IsBroken records records (level - 1) below)) fewest_is
        (subst (λ (m : Map). IsNoNode m ((level - 1) == 0) least (get_or held n item).child ⊎ ((below : List Item) × (node_at m ((level - 1) == 0) (get_or held n item).child ≡ Some below) × IsBroken m m (level - 1) below)) kept why))

    -- a node is broken where a look below one of its children found that
    pub broken_by : (IsNoNode now ((level - 1) == 0) least (get_or held n item).child ⊎ ((below : List Item) × (node_at now ((level - 1) == 0) (get_or held n item).child ≡ Some below) × IsBroken now now (level - 1) below)) → (items : List Item) × (node_at records (level == 0) number ≡ Some items) × IsBroken records records level items
    broken_by why =
        let up : suc (level - 1) ≡ level = omega (arith, high) in
        (held, read ∙ ap Some (sym value), subst (λ (l : ℕ). IsBroken records records l held) up (broken_at records why))

    module _ (from : List ℕ) (strict : Bool) (left_of : (d : Item) → 0 < n → IsBelow from (get_or held n d).key → ⊥) (right_of : (d : Item) → n + 1 < length held → IsBelow from (get_or held (n + 1) d).key) where
      case_here : (found : Option Item) → is_some found ≡ true → Answers records (level - 1) (get_or held n item).child (fewest ((level - 1) == 0)) from strict found → (key : List ℕ) (marks : List Mark) (numbers : List ℕ) → Holds records (suc (level - 1)) key held marks numbers → Rises marks → option_map entry_of found ≡ next_in (entries_in marks) from strict
      case_here None some answers key marks numbers inner rises = absurd (false≢true some)
      case_here (Some i) some answers key marks numbers inner rises =
          let f = at_place inner.children n (omega (arith, within, ap length inner.items_are, length-branches inner.children)) in
          let number_of : (get_or held n item).child ≡ f.here.number = number_is records (level - 1) key held marks numbers inner rises n within f.left f.here f.right f.parts f.place item in
          found_here records (level - 1) key held marks numbers inner rises n within f.left f.here f.right f.parts f.place from strict left_of right_of (get_or held n item).child i number_of answers

      as_now : (found : Option Item) → Answers now (level - 1) (get_or held n item).child least from strict found → Answers records (level - 1) (get_or held n item).child (fewest ((level - 1) == 0)) from strict found
      as_now found answers =
          subst (λ (k : ℕ). Answers records (level - 1) (get_or held n item).child k from strict found) fewest_is (subst (λ (m : Map). Answers m (level - 1) (get_or held n item).child least from strict found) kept answers)

      -- the child has the answer
      pub answers_here : (found : Option Item) → is_some found ≡ true → Answers now (level - 1) (get_or held n item).child least from strict found → (key : List ℕ) (items : List Item) (marks : List Mark) (numbers : List ℕ) → node_at records (level == 0) number ≡ Some items → Holds records level key items marks numbers → Rises marks → option_map entry_of found ≡ next_in (entries_in marks) from strict
      answers_here found some answers key items marks numbers there h rises =
          case_here found some (as_now found answers) key marks numbers (as_inner high key items marks numbers there h) rises

      case_last : (found : Option Item) → is_some found ≡ false → n + 1 ≡ length held → Answers records (level - 1) (get_or held n item).child (fewest ((level - 1) == 0)) from strict found → (key : List ℕ) (marks : List Mark) (numbers : List ℕ) → Holds records (suc (level - 1)) key held marks numbers → Rises marks → option_map entry_of found ≡ next_in (entries_in marks) from strict
      case_last (Some i) none last answers key marks numbers inner rises = absurd (false≢true (sym none))
      case_last None none last answers key marks numbers inner rises =
          let f = at_place inner.children n (omega (arith, within, ap length inner.items_are, length-branches inner.children)) in
          let number_of : (get_or held n item).child ≡ f.here.number = number_is records (level - 1) key held marks numbers inner rises n within f.left f.here f.right f.parts f.place item in
          found_none records (level - 1) key held marks numbers inner rises n within f.left f.here f.right f.parts f.place from strict left_of right_of (get_or held n item).child number_of answers last

      -- it has none, and neither is there another child
      pub answers_last : (found : Option Item) → is_some found ≡ false → n + 1 ≡ length held → Answers now (level - 1) (get_or held n item).child least from strict found → (key : List ℕ) (items : List Item) (marks : List Mark) (numbers : List ℕ) → node_at records (level == 0) number ≡ Some items → Holds records level key items marks numbers → Rises marks → option_map entry_of found ≡ next_in (entries_in marks) from strict
      answers_last found none last answers key items marks numbers there h rises =
          case_last found none last (as_now found answers) key marks numbers (as_inner high key items marks numbers there h) rises

      case_next : (found second : Option Item) (further : Item) → is_some found ≡ false → n + 1 < length held → Answers records (level - 1) (get_or held n item).child (fewest ((level - 1) == 0)) from strict found → Answers records (level - 1) (get_or held (n + 1) further).child (fewest ((level - 1) == 0)) from strict second → (key : List ℕ) (marks : List Mark) (numbers : List ℕ) → Holds records (suc (level - 1)) key held marks numbers → Rises marks → option_map entry_of second ≡ next_in (entries_in marks) from strict
      case_next (Some i) second further none more answers then key marks numbers inner rises = absurd (false≢true (sym none))
      case_next None second further none more answers then key marks numbers inner rises =
          let f = at_place inner.children n (omega (arith, within, ap length inner.items_are, length-branches inner.children)) in
          let number_of : (get_or held n item).child ≡ f.here.number = number_is records (level - 1) key held marks numbers inner rises n within f.left f.here f.right f.parts f.place item in
          let at_any : (d : Item) → (get_or held (n + 1) further).child ≡ (get_or held (n + 1) d).child = λ d. ap (λ (i : Item). i.child) (get_or_default held (n + 1) further d more) in
          found_next records (level - 1) key held marks numbers inner rises n within f.left f.here f.right f.parts f.place from strict left_of right_of (get_or held n item).child (get_or held (n + 1) further).child second number_of answers more at_any then

      -- it has none, and the next child has the answer
      pub answers_next : (found second : Option Item) (further : Item) → is_some found ≡ false → n + 1 < length held → Answers now (level - 1) (get_or held n item).child least from strict found → (later : Map) → later ≡ records → Answers later (level - 1) (get_or held (n + 1) further).child least from strict second → (key : List ℕ) (items : List Item) (marks : List Mark) (numbers : List ℕ) → node_at records (level == 0) number ≡ Some items → Holds records level key items marks numbers → Rises marks → option_map entry_of second ≡ next_in (entries_in marks) from strict
      answers_next found second further none more answers then_map then_kept then key items marks numbers there h rises =
          let then_now : Answers records (level - 1) (get_or held (n + 1) further).child (fewest ((level - 1) == 0)) from strict second =
          subst (λ (k : ℕ). Answers records (level - 1) (get_or held (n + 1) further).child k from strict second) fewest_is (subst (λ (m : Map). Answers m (level - 1) (get_or held (n + 1) further).child least from strict second) then_kept then) in
          case_next found second further none more (as_now found answers) then_now key marks numbers (as_inner high key items marks numbers there h) rises

-- the same of what the second look answers, be it a fault
pub answers_second : (records : Map) (level number : ℕ) (node held : List Item) (value : held ≡ node) (read : node_at records (level == 0) number ≡ Some node) (high : level ≡ 0 → ⊥) (n : ℕ) (within : n < length held) (item : Item) (now : Map) (kept : now ≡ records) (least : ℕ) (fewest_is : least ≡ fewest ((level - 1) == 0)) (from : List ℕ) (strict : Bool) (left_of : (d : Item) → 0 < n → IsBelow from (get_or held n d).key → ⊥) (right_of : (d : Item) → n + 1 < length held → IsBelow from (get_or held (n + 1) d).key) {F : Type 0} (r : Result (Option Item) (IndexFault F)) (found : Option Item) (further : Item) → is_some found ≡ false → (more : n + 1 < length held) → Answers now (level - 1) (get_or held n item).child least from strict found → (later : Map) → later ≡ records → Below later (level - 1) (get_or held (n + 1) further).child least (λ marks. MatchResult r (λ second. option_map entry_of second ≡ next_in (entries_in marks) from strict) (λ e. MatchFault e ⊤ ⊥ ⊤)) → (key : List ℕ) (items : List Item) (marks : List Mark) (numbers : List ℕ) → node_at records (level == 0) number ≡ Some items → Holds records level key items marks numbers → Rises marks → MatchResult r (λ second. option_map entry_of second ≡ next_in (entries_in marks) from strict) (λ e. MatchFault e ⊤ ⊥ ⊤)
answers_second records level number node held value read high n within item now kept least fewest_is from strict left_of right_of (Ok second) found further none more answers then_map then_kept then key items marks numbers there h rises =
    answers_next records level number node held value read high n within item now kept least fewest_is from strict left_of right_of found second further none more answers then_map then_kept then key items marks numbers there h rises
answers_second records level number node held value read high n within item now kept least fewest_is from strict left_of right_of (Err e) found further none more answers then_map then_kept then key items marks numbers there h rises =
    says_below records level number node held value read high (n + 1) more further then_map then_kept least fewest_is (MatchFault e ⊤ ⊥ ⊤) then key items marks numbers there h rises
