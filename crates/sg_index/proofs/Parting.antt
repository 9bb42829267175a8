-- A node divided into two, and two nodes joined.
use Rattle.std.proofs.Common.{◌≡◌, ℕ, zero, suc, ◌≤◌, Bool, false, List, [], ◌∷◌, ◌++◌, length, map, take, drop, Option, Some, None, refl, sym, ap, ◌∙◌, subst, arith, inl, inr, length-append}
use Rattle.std.specs.Prelude.{◌==◌}
use Rattle.std.specs.List.{flat_map}
use Rattle.std.proofs.Math.Seq.{take-append_seam, drop-append_seam}
use Rattle.std.proofs.lemmas.List.{map-append, length-map}
use Rattle.std.proofs.lemmas.List.Concat.{flat_map-append}
use Rattle.std.proofs.lemmas.Bool.Decides.{nat_tests}
use Rattle.std.proofs.lemmas.Option.{same_Some}
use Rattle.sg_index.specs.declared.item.Item.{Item}
use Rattle.sg_index.specs.Order.{IsBelow}
use Rattle.sg_index.specs.Records.{Map}
use Rattle.sg_index.specs.Tree.{Mark, separator, mark_of, IsBefore, Rises, entries_in, Child, item_of, branches, marks_in, numbers_in, IsChild, Holds, first_key}
use Rattle.sg_index.specs.Change.{IsMarkedAnew, with_first, opened, joined}
use Rattle.sg_index.proofs.Every.{Every, every_join, every_left, every_right, every_weaker, at_place}
use Rattle.sg_index.proofs.Keys.{below_trans}
use Rattle.sg_index.proofs.Marks.{Apart, rises_left, rises_right, rises_apart, rises_join, entries_in-append}
use Rattle.sg_index.proofs.Seeking.{length-branches}
use Rattle.sg_index.proofs.Editing.{anew_same}

pub record AreParted (records : Map) (level : ℕ) (key sep : List ℕ) (left right : List Item) (marks : List Mark) (numbers : List ℕ) : Type 0 where
  pub marks_left : List Mark
  pub marks_right : List Mark
  pub numbers_left : List ℕ
  pub numbers_right : List ℕ
  pub holds_left : Holds records level key left marks_left numbers_left
  pub holds_right : Holds records level sep right marks_right numbers_right
  pub anew : IsMarkedAnew marks (marks_left ++ marks_right)
  pub numbers_are : numbers ≡ numbers_left ++ numbers_right

pub record AreJoined (records : Map) (level : ℕ) (key : List ℕ) (items : List Item) (marks : List Mark) (numbers : List ℕ) : Type 0 where
  pub marks_now : List Mark
  pub holds : Holds records level key items marks_now numbers
  pub anew : IsMarkedAnew marks marks_now

-- an entry is strictly below what stands behind it
pub entry_below : (i : Item) (m : Mark) → IsBefore (mark_of i) m → IsBelow i.key m.key
entry_below i m (inl below) = below
entry_below i m (inr same) = absurd (no same.1)
  where
    no : Some i.value ≡ None → ⊥
    no e = cc

-- what stands before an entry is below what the entry is below
below_over : (a : Mark) (i : Item) (key : List ℕ) → IsBefore a (mark_of i) → IsBelow i.key key → IsBelow a.key key
below_over a i key (inl p) below = below_trans a.key i.key key p below
below_over a i key (inr same) below = subst (λ (k : List ℕ). IsBelow k key) (sym same.0) below

module _ (key : List ℕ) (left : List Item) (i : Item) (right : List Item) (some : 1 ≤ length left) (rises : Rises (separator key ∷ map mark_of (left ++ (i ∷ right)))) where
  parts : map mark_of (left ++ (i ∷ right)) ≡ map mark_of left ++ (mark_of i ∷ map mark_of right)
  parts = map-append mark_of left (i ∷ right)

  whole : Rises ((separator key ∷ map mark_of left) ++ (mark_of i ∷ map mark_of right))
  whole = subst (λ (ms : List Mark). Rises (separator key ∷ ms)) parts rises

  items_below : Every (λ m. IsBelow m.key i.key) (map mark_of left)
  items_below = all left (rises_apart (map mark_of left) (mark_of i ∷ map mark_of right) whole.1)
    where
      all : (xs : List Item) → Apart (map mark_of xs) (mark_of i ∷ map mark_of right) → Every (λ m. IsBelow m.key i.key) (map mark_of xs)
      all [] h = tt
      all (x ∷ xs) h = (entry_below x (mark_of i) h.0.0, all xs h.1)

  key_below : IsBelow key i.key
  key_below = by left some (every_left (IsBefore (separator key)) (map mark_of left) (mark_of i ∷ map mark_of right) whole.0) items_below
    where
      by : (xs : List Item) → 1 ≤ length xs → Every (IsBefore (separator key)) (map mark_of xs) → Every (λ m. IsBelow m.key i.key) (map mark_of xs) → IsBelow key i.key
      by [] few first below = absurd (omega (arith, few))
      by (x ∷ xs) few first below = below_over (separator key) x i.key first.0 below.0

  left_below : Every (λ m. IsBelow m.key i.key) (separator key ∷ map mark_of left)
  left_below = (key_below, items_below)

  right_rises : Rises (mark_of i ∷ map mark_of right)
  right_rises = rises_right (separator key ∷ map mark_of left) (mark_of i ∷ map mark_of right) whole

  right_begun : Rises (separator i.key ∷ (mark_of i ∷ map mark_of right))
  right_begun = ((inr (refl, refl, refl), every_weaker (IsBefore (mark_of i)) (IsBefore (separator i.key)) (λ m h. inl (entry_below i m h)) (map mark_of right) right_rises.0), right_rises)

  parted_rises : Rises ((separator key ∷ map mark_of left) ++ (separator i.key ∷ (mark_of i ∷ map mark_of right)))
  parted_rises =
      rises_join (separator key ∷ map mark_of left) (separator i.key ∷ (mark_of i ∷ map mark_of right)) (rises_left (separator key ∷ map mark_of left) (mark_of i ∷ map mark_of right) whole) right_begun
      (both (separator key ∷ map mark_of left) left_below (rises_apart (separator key ∷ map mark_of left) (mark_of i ∷ map mark_of right) whole))
    where
      both : (xs : List Mark) → Every (λ m. IsBelow m.key i.key) xs → Apart xs (mark_of i ∷ map mark_of right) → Apart xs (separator i.key ∷ (mark_of i ∷ map mark_of right))
      both [] a b = tt
      both (x ∷ xs) a b = ((inl a.0, b.0), both xs a.1 b.1)

  pub leaf_anew : IsMarkedAnew (separator key ∷ map mark_of (left ++ (i ∷ right))) ((separator key ∷ map mark_of left) ++ (separator i.key ∷ map mark_of (i ∷ right)))
  leaf_anew = record {
    rises = parted_rises;
    entries = entries_in-append (map mark_of left) (separator i.key ∷ (mark_of i ∷ map mark_of right)) ∙ (sym (entries_in-append (map mark_of left) (mark_of i ∷ map mark_of right)) ∙ ap entries_in (sym parts));
    under = λ top all.
        let P : Mark → Type 0 = λ m. IsBelow m.key top in
        let here : Every P ((separator key ∷ map mark_of left) ++ (mark_of i ∷ map mark_of right)) = subst (λ (ms : List Mark). Every P (separator key ∷ ms)) parts all in
        let behind : Every P (mark_of i ∷ map mark_of right) = every_right P (separator key ∷ map mark_of left) (mark_of i ∷ map mark_of right) here in
        every_join P (separator key ∷ map mark_of left) (separator i.key ∷ (mark_of i ∷ map mark_of right)) (every_left P (separator key ∷ map mark_of left) (mark_of i ∷ map mark_of right) here) (behind.0, behind);
  }

-- two leaves joined
module _ (key : List ℕ) (left : List Item) (sep : List ℕ) (right : List Item) (rises : Rises ((separator key ∷ map mark_of left) ++ (separator sep ∷ map mark_of right))) where
  apart_items : Apart (separator key ∷ map mark_of left) (map mark_of right)
  apart_items = all (separator key ∷ map mark_of left) (rises_apart (separator key ∷ map mark_of left) (separator sep ∷ map mark_of right) rises)
    where
      all : (xs : List Mark) → Apart xs (separator sep ∷ map mark_of right) → Apart xs (map mark_of right)
      all [] h = tt
      all (x ∷ xs) h = (h.0.1, all xs h.1)

  joined_marks : separator key ∷ map mark_of (left ++ right) ≡ (separator key ∷ map mark_of left) ++ map mark_of right
  joined_marks = ap (λ (ms : List Mark). separator key ∷ ms) (map-append mark_of left right)

  pub leaf_joined : IsMarkedAnew ((separator key ∷ map mark_of left) ++ (separator sep ∷ map mark_of right)) (separator key ∷ map mark_of (left ++ right))
  leaf_joined = record {
    rises = subst Rises (sym joined_marks) (rises_join (separator key ∷ map mark_of left) (map mark_of right) (rises_left (separator key ∷ map mark_of left) (separator sep ∷ map mark_of right) rises) (rises_right (separator key ∷ map mark_of left) (separator sep ∷ map mark_of right) rises).1 apart_items);
    entries = ap entries_in joined_marks ∙ (entries_in-append (map mark_of left) (map mark_of right) ∙ sym (entries_in-append (map mark_of left) (separator sep ∷ map mark_of right)));
    under = λ top all.
        let P : Mark → Type 0 = λ m. IsBelow m.key top in
        subst (Every P) (sym joined_marks) (every_join P (separator key ∷ map mark_of left) (map mark_of right) (every_left P (separator key ∷ map mark_of left) (separator sep ∷ map mark_of right) all) (every_right P (separator key ∷ map mark_of left) (separator sep ∷ map mark_of right) all).1);
  }

-- a level above the lowest one isn't that of the leaves
pub not_low : (level : ℕ) → false ≡ (suc level == 0)
not_low level = grind (arith, nat_tests)

-- the branches of more children
pub branches-append : (c : Child) (cs ds : List Child) → branches ((c ∷ cs) ++ ds) ≡ branches (c ∷ cs) ++ map item_of ds
branches-append c cs ds = ap (λ (is : List Item). record (item_of c) { key = [] } ∷ is) (map-append item_of cs ds)

record AreParts {X : Type 0} (xs ys zs ws : List X) : Type 0 where
  pub left : xs ≡ zs
  pub right : ys ≡ ws

same_parts : {X : Type 0} (xs ys zs ws : List X) → xs ++ ys ≡ zs ++ ws → length xs ≡ length zs → AreParts xs ys zs ws
same_parts {X = X} xs ys zs ws e len = record {
  left = sym (take-append_seam xs ys) ∙ (ap (take (length xs)) e ∙ (ap (λ (n : ℕ). take n (zs ++ ws)) len ∙ take-append_seam zs ws));
  right = sym (drop-append_seam xs ys) ∙ (ap (drop (length xs)) e ∙ (ap (λ (n : ℕ). drop n (zs ++ ws)) len ∙ drop-append_seam zs ws));
}

module _ (records : Map) where
  inner_parted : (level : ℕ) (key : List ℕ) (left : List Item) (i : Item) (right : List Item) (marks : List Mark) (numbers : List ℕ) (a : Child) (cs : List Child) (b : Child) (ds : List Child) → left ++ (i ∷ right) ≡ branches ((a ∷ cs) ++ (b ∷ ds)) → length left ≡ length (a ∷ cs) → first_key ((a ∷ cs) ++ (b ∷ ds)) ≡ Some key → Every (IsChild records (level == 0) (Holds records level)) ((a ∷ cs) ++ (b ∷ ds)) → marks ≡ flat_map marks_in ((a ∷ cs) ++ (b ∷ ds)) → numbers ≡ flat_map numbers_in ((a ∷ cs) ++ (b ∷ ds)) → Rises marks → AreParted records (suc level) key i.key left (with_first [] (i ∷ right)) marks numbers
  inner_parted level key left i right marks numbers a cs b ds items_are len first each marks_are numbers_are rises =
      let P : Child → Type 0 = IsChild records (level == 0) (Holds records level) in
      let len_is : length left ≡ length (branches (a ∷ cs)) = len ∙ ap suc (sym (length-map cs item_of)) in
      let p = same_parts left (i ∷ right) (branches (a ∷ cs)) (map item_of (b ∷ ds)) (items_are ∙ branches-append a cs (b ∷ ds)) len_is in
      let i_is : i ≡ item_of b = cc (p.right) in
      let right_is : right ≡ map item_of ds = cc (p.right) in
      let parts : marks ≡ flat_map marks_in (a ∷ cs) ++ flat_map marks_in (b ∷ ds) = marks_are ∙ flat_map-append marks_in (a ∷ cs) (b ∷ ds) in
      record {
        marks_left = flat_map marks_in (a ∷ cs);
        marks_right = flat_map marks_in (b ∷ ds);
        numbers_left = flat_map numbers_in (a ∷ cs);
        numbers_right = flat_map numbers_in (b ∷ ds);
        holds_left = record { children = a ∷ cs; items_are = p.left; first = first; each = every_left P (a ∷ cs) (b ∷ ds) each; marks_are = refl; numbers_are = refl };
        holds_right = record {
          children = b ∷ ds;
          items_are = ap (λ (x : Item). record x { key = [] } ∷ right) i_is ∙ ap (λ (xs : List Item). record (item_of b) { key = [] } ∷ xs) right_is;
          first = ap (λ (x : Item). let k : Option (List ℕ) = Some x.key in k) (sym i_is);
          each = every_right P (a ∷ cs) (b ∷ ds) each;
          marks_are = refl;
          numbers_are = refl;
        };
        anew = subst (IsMarkedAnew marks) parts (anew_same marks rises);
        numbers_are = numbers_are ∙ flat_map-append numbers_in (a ∷ cs) (b ∷ ds);
      }

  pub parted : (level : ℕ) (key : List ℕ) (left : List Item) (i : Item) (right : List Item) (marks : List Mark) (numbers : List ℕ) → Holds records level key (left ++ (i ∷ right)) marks numbers → 1 ≤ length left → Rises marks → AreParted records level key i.key left (opened (level == 0) (i ∷ right)) marks numbers
  parted zero key left i right marks numbers h some rises =
      let at : Rises (separator key ∷ map mark_of (left ++ (i ∷ right))) = subst Rises h.marks_are rises in
      record {
        marks_left = separator key ∷ map mark_of left;
        marks_right = separator i.key ∷ map mark_of (i ∷ right);
        numbers_left = [];
        numbers_right = [];
        holds_left = record { marks_are = refl; numbers_are = refl };
        holds_right = record { marks_are = refl; numbers_are = refl };
        anew = subst (λ (ms : List Mark). IsMarkedAnew ms ((separator key ∷ map mark_of left) ++ (separator i.key ∷ map mark_of (i ∷ right)))) (sym h.marks_are) (leaf_anew key left i right some at);
        numbers_are = h.numbers_are;
      }
  parted (suc level) key left i right marks numbers h some rises =
      let count : length (left ++ (i ∷ right)) ≡ length h.children = ap length h.items_are ∙ length-branches h.children in
      let f = at_place h.children (length left) (omega (arith, count, length-append left (i ∷ right))) in
      subst (λ (leaf : Bool). AreParted records (suc level) key i.key left (opened leaf (i ∷ right)) marks numbers) (not_low level) (by f.left f.here f.right f.parts f.place)
    where
      by : (front : List Child) (here : Child) (behind : List Child) → h.children ≡ front ++ here ∷ behind → length front ≡ length left → AreParted records (suc level) key i.key left (with_first [] (i ∷ right)) marks numbers
      by [] here behind is place = absurd (omega (arith, some, place))
      by (c ∷ cs) here behind is place =
          inner_parted level key left i right marks numbers c cs here behind (h.items_are ∙ ap branches is) (sym place) (ap first_key (sym is) ∙ h.first) (subst (Every (IsChild records (level == 0) (Holds records level))) is h.each) (h.marks_are ∙ ap (flat_map marks_in) is) (h.numbers_are ∙ ap (flat_map numbers_in) is) rises

  pub joined_up : (level : ℕ) (key : List ℕ) (left : List Item) (marks_left : List Mark) (numbers_left : List ℕ) (sep : List ℕ) (right : List Item) (marks_right : List Mark) (numbers_right : List ℕ) → Holds records level key left marks_left numbers_left → Holds records level sep right marks_right numbers_right → Rises (marks_left ++ marks_right) → AreJoined records level key (joined (level == 0) left sep right) (marks_left ++ marks_right) (numbers_left ++ numbers_right)
  joined_up zero key left marks_left numbers_left sep right marks_right numbers_right a b rises =
      let old : List Mark = (separator key ∷ map mark_of left) ++ (separator sep ∷ map mark_of right) in
      let old_is : marks_left ++ marks_right ≡ old = ap (λ (ms : List Mark). ms ++ marks_right) a.marks_are ∙ ap (λ (ms : List Mark). (separator key ∷ map mark_of left) ++ ms) b.marks_are in
      let at : Rises old = subst Rises old_is rises in
      record {
        marks_now = separator key ∷ map mark_of (left ++ right);
        holds = record { marks_are = refl; numbers_are = ap (λ (ns : List ℕ). ns ++ numbers_right) a.numbers_are ∙ b.numbers_are };
        anew = subst (λ (ms : List Mark). IsMarkedAnew ms (separator key ∷ map mark_of (left ++ right))) (sym old_is) (leaf_joined key left sep right at);
      }
  joined_up (suc level) key left marks_left numbers_left sep right marks_right numbers_right a b rises =
      subst (λ (leaf : Bool). AreJoined records (suc level) key (joined leaf left sep right) (marks_left ++ marks_right) (numbers_left ++ numbers_right)) (not_low level) (by a.children b.children refl refl)
    where
      by : (cs ds : List Child) → a.children ≡ cs → b.children ≡ ds → AreJoined records (suc level) key (left ++ with_first sep right) (marks_left ++ marks_right) (numbers_left ++ numbers_right)
      by [] ds e f = absurd (no (ap first_key (sym e) ∙ a.first))
        where
          no : None ≡ Some key → ⊥
          no g = cc
      by (c ∷ cs) [] e f = absurd (no (ap first_key (sym f) ∙ b.first))
        where
          no : None ≡ Some sep → ⊥
          no g = cc
      by (c ∷ cs) (d ∷ ds) e f =
          let P : Child → Type 0 = IsChild records (level == 0) (Holds records level) in
          let sep_is : d.key ≡ sep = same_Some d.key sep (ap first_key (sym f) ∙ b.first) in
          let right_is : with_first sep right ≡ map item_of (d ∷ ds) = ap (with_first sep) (b.items_are ∙ ap branches f) ∙ ap (λ (k : List ℕ). record (item_of d) { key = k } ∷ map item_of ds) (sym sep_is) in
          let marks_are : marks_left ++ marks_right ≡ flat_map marks_in ((c ∷ cs) ++ (d ∷ ds)) =
          ap (λ (ms : List Mark). ms ++ marks_right) (a.marks_are ∙ ap (flat_map marks_in) e) ∙ (ap (λ (ms : List Mark). flat_map marks_in (c ∷ cs) ++ ms) (b.marks_are ∙ ap (flat_map marks_in) f) ∙ sym (flat_map-append marks_in (c ∷ cs) (d ∷ ds))) in
          record {
            marks_now = marks_left ++ marks_right;
            holds = record {
              children = (c ∷ cs) ++ (d ∷ ds);
              items_are = ap (λ (xs : List Item). xs ++ with_first sep right) (a.items_are ∙ ap branches e) ∙ (ap (λ (xs : List Item). branches (c ∷ cs) ++ xs) right_is ∙ sym (branches-append c cs (d ∷ ds)));
              first = ap first_key (sym e) ∙ a.first;
              each = every_join P (c ∷ cs) (d ∷ ds) (subst (Every P) e a.each) (subst (Every P) f b.each);
              marks_are = marks_are;
              numbers_are = ap (λ (ns : List ℕ). ns ++ numbers_right) (a.numbers_are ∙ ap (flat_map numbers_in) e) ∙ (ap (λ (ns : List ℕ). flat_map numbers_in (c ∷ cs) ++ ns) (b.numbers_are ∙ ap (flat_map numbers_in) f) ∙ sym (flat_map-append numbers_in (c ∷ cs) (d ∷ ds)));
            };
            anew = anew_same (marks_left ++ marks_right) rises;
          }
