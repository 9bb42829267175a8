-- An entry put into a leaf, or taken from it.
use Rattle.std.proofs.Common.{◌≡◌, ℕ, zero, suc, ◌<◌, ◌≤◌, Bool, true, false, List, [], ◌∷◌, ◌++◌, length, map, take, drop, get_or, set, Option, refl, sym, ap, ◌∙◌, subst, arith, inl, inr, append-nil}
use Rattle.std.specs.Prelude.{◌⊎◌, ◌==◌, not, filter}
use Rattle.std.specs.Ordering.{is_lt, is_gt, is_eq}
use Rattle.std.specs.Cmp.Lexicographic.{same_text, texts_ties, pointwise}
use Rattle.std.specs.declared.cmp.Ordering.{Ordering}
use Rattle.std.specs.declared.cmp.Ordering.TheVariants.{Less, Equal, Greater}
use Rattle.std.specs.List.{refill}
use Rattle.std.proofs.Math.Seq.{drop-cons, take-append_seam}
use Rattle.std.proofs.lemmas.List.{map-append, take-append-drop, drop_all, get_or_default}
use Rattle.sg_index.specs.declared.item.Item.{Item}
use Rattle.sg_index.specs.Order.{key_cmp, IsBelow, Entry, value_in, is_from}
use Rattle.sg_index.specs.Tree.{Mark, separator, mark_of, entry_of, IsBefore, Rises}
use Rattle.sg_index.specs.Change.{edited, knows, IsEdited, has, has_first}
use Rattle.sg_index.proofs.Replacing.{less_or}
use Rattle.sg_index.proofs.Parting.{entry_below}
use Rattle.sg_index.proofs.Every.{Every, every_join, every_left, every_right, every_weaker, every_both}
use Rattle.sg_index.proofs.Keys.{greater_back, find_from}
use Rattle.sg_index.proofs.Marks.{Apart, rises_left, rises_right, rises_apart, rises_join, entries_in-items}
use Rattle.sg_index.proofs.Editing.{edited_known, upto_below, filter_none}

-- what is neither below nor above a key is equal to it
equal_of : (a key : List ℕ) → is_eq (key_cmp a key) ≡ true → key_cmp a key ≡ Equal
equal_of a key e = by (key_cmp a key) e
  where
    no : false ≡ true → ⊥
    no f = cc

    by : (o : Ordering) → is_eq o ≡ true → o ≡ Equal
    by Less f = absurd (no f)
    by Equal f = refl
    by Greater f = absurd (no f)

-- the entry of a key, if it is there, among those below it and those above it
pub record IsPiece (key : List ℕ) (known : Bool) (here : List Item) : Type 0 where
  pub told : known ≡ knows (map entry_of here) key
  pub few : Every (λ i. key_cmp i.key key ≡ Equal) here

pub piece_none : (key : List ℕ) → IsPiece key false []
unfolding value_in
piece_none key = record { told = refl; few = tt }

pub piece_some : (key : List ℕ) (i : Item) → is_eq (key_cmp i.key key) ≡ true → IsPiece key true (i ∷ [])
unfolding value_in
piece_some key i e = record { told = rw e refl; few = (equal_of i.key key e, tt) }

-- and what takes its place
pub record IsPlaced (key : List ℕ) (middle : List Entry) (new : List Item) : Type 0 where
  pub entries_are : map entry_of new ≡ middle
  pub one : (new ≡ []) ⊎ ((i : Item) × (new ≡ i ∷ []) × (i.key ≡ key))

module _ (key sep : List ℕ) (left here new right : List Item) (known : Bool) (middle : List Entry) (piece : IsPiece key known here) (placed : IsPlaced key middle new) (upto : IsBelow key sep → ⊥) (below : Every (λ i. IsBelow i.key key) left) (above : Every (λ i. IsBelow key i.key) right) where
  no_entries : (P : Ordering → Bool) → P Equal ≡ false → Every (λ e. P (key_cmp e.0 key) ≡ false) (map entry_of here)
  no_entries P e = all here piece.few
    where
      all : (xs : List Item) → Every (λ i. key_cmp i.key key ≡ Equal) xs → Every (λ e. P (key_cmp e.0 key) ≡ false) (map entry_of xs)
      all [] h = tt
      all (x ∷ xs) h = (ap P h.0 ∙ e, all xs h.1)

  marks_all : (P : List ℕ → Type 0) (xs : List Item) → Every (λ i. P i.key) xs → Every (λ m. P m.key) (map mark_of xs)
  marks_all P [] h = tt
  marks_all P (x ∷ xs) h = (h.0, marks_all P xs h.1)

  rises_new : Rises (map mark_of new)
  rises_new = by placed.one
    where
      by : ((new ≡ []) ⊎ ((i : Item) × (new ≡ i ∷ []) × (i.key ≡ key))) → Rises (map mark_of new)
      by (inl e) = subst (λ (xs : List Item). Rises (map mark_of xs)) (sym e) tt
      by (inr h) = subst (λ (xs : List Item). Rises (map mark_of xs)) (sym h.1) (tt, tt)

  each_new : (P : Mark → Type 0) → ((i : Item) → i.key ≡ key → P (mark_of i)) → Every P (map mark_of new)
  each_new P f = by placed.one
    where
      by : ((new ≡ []) ⊎ ((i : Item) × (new ≡ i ∷ []) × (i.key ≡ key))) → Every P (map mark_of new)
      by (inl e) = subst (λ (xs : List Item). Every P (map mark_of xs)) (sym e) tt
      by (inr h) = subst (λ (xs : List Item). Every P (map mark_of xs)) (sym h.1) (f h.0 h.2, tt)

  edited_piece : IsEdited key middle known (map mark_of here) (map mark_of new)
  edited_piece = record {
    rises = rises_new;
    told = piece.told ∙ ap (λ (es : List Entry). knows es key) (sym (entries_in-items here));
    entries = entries_in-items new ∙ (placed.entries_are ∙ (sym nothing ∙ ap (λ (es : List Entry). edited es key middle) (sym (entries_in-items here))));
    under = λ top at all. each_new (λ m. IsBelow m.key top) (λ i e. subst (λ (k : List ℕ). IsBelow k top) (sym e) at);
  }
    where
      nothing : edited (map entry_of here) key middle ≡ middle
      nothing =
          ap (λ (es : List Entry). es ++ (middle ++ filter (λ e. is_gt (key_cmp e.0 key)) (map entry_of here))) (filter_none (λ e. is_lt (key_cmp e.0 key)) (map entry_of here) (no_entries is_lt refl))
          ∙ (ap (λ (es : List Entry). middle ++ es) (filter_none (λ e. is_gt (key_cmp e.0 key)) (map entry_of here) (no_entries is_gt refl)) ∙ append-nil middle)

  at_least : (i : Item) → i.key ≡ key → IsBefore (separator sep) (mark_of i)
  at_least i e = by (key_cmp sep key) refl
    where
      by : (o : Ordering) → key_cmp sep key ≡ o → IsBefore (separator sep) (mark_of i)
      by Less f = inl (subst (IsBelow sep) (sym e) f)
      by Equal f = inr (same_text sep key (sym (texts_ties sep key ∙ ap is_eq f)) ∙ sym e, refl, refl)
      by Greater f = absurd (upto (greater_back sep key f))

  module _ (rises : Rises (separator sep ∷ (map mark_of left ++ (map mark_of here ++ map mark_of right)))) where
    apart_old : Apart (map mark_of left) (map mark_of here ++ map mark_of right)
    apart_old = rises_apart (map mark_of left) (map mark_of here ++ map mark_of right) rises.1

    rises_whole : Rises (map mark_of left ++ (map mark_of new ++ map mark_of right))
    rises_whole =
        rises_join (map mark_of left) (map mark_of new ++ map mark_of right) (rises_left (map mark_of left) (map mark_of here ++ map mark_of right) rises.1)
        (rises_join (map mark_of new) (map mark_of right) rises_new (rises_right (map mark_of here) (map mark_of right) (rises_right (map mark_of left) (map mark_of here ++ map mark_of right) rises.1)) behind)
        (every_weaker (λ m. IsBelow m.key key × Every (IsBefore m) (map mark_of here ++ map mark_of right)) (λ m. Every (IsBefore m) (map mark_of new ++ map mark_of right))
        (λ m h. every_join (IsBefore m) (map mark_of new) (map mark_of right) (each_new (IsBefore m) (λ i e. inl (subst (IsBelow m.key) (sym e) h.0))) (every_right (IsBefore m) (map mark_of here) (map mark_of right) h.1))
        (map mark_of left) (every_both (λ m. IsBelow m.key key) (λ m. Every (IsBefore m) (map mark_of here ++ map mark_of right)) (map mark_of left) (marks_all (λ k. IsBelow k key) left below) apart_old))
      where
        behind : Apart (map mark_of new) (map mark_of right)
        behind = each_new (λ a. Every (IsBefore a) (map mark_of right)) (λ i e. every_weaker (λ m. IsBelow key m.key) (IsBefore (mark_of i)) (λ m h. inl (subst (λ (k : List ℕ). IsBelow k m.key) (sym e) h)) (map mark_of right) (marks_all (λ k. IsBelow key k) right above))

    after_separator : Every (IsBefore (separator sep)) (map mark_of left ++ (map mark_of new ++ map mark_of right))
    after_separator =
        let P : Mark → Type 0 = IsBefore (separator sep) in
        let on : Every P (map mark_of here ++ map mark_of right) = every_right P (map mark_of left) (map mark_of here ++ map mark_of right) rises.0 in
        every_join P (map mark_of left) (map mark_of new ++ map mark_of right) (every_left P (map mark_of left) (map mark_of here ++ map mark_of right) rises.0)
        (every_join P (map mark_of new) (map mark_of right) (each_new P at_least) (every_right P (map mark_of here) (map mark_of right) on))

    edited_parts : IsEdited key middle known (separator sep ∷ (map mark_of left ++ (map mark_of here ++ map mark_of right))) (separator sep ∷ (map mark_of left ++ (map mark_of new ++ map mark_of right)))
    edited_parts =
        let h = edited_known key middle known (map mark_of left) (map mark_of here) (map mark_of new) (map mark_of right) edited_piece (marks_all (λ k. IsBelow k key) left below) (marks_all (λ k. IsBelow key k) right above) rises_whole in
        record {
          rises = (after_separator, rises_whole);
          told = h.told;
          entries = h.entries;
          under = λ top at all. (all.0, h.under top at all.1);
        }

  marks_parts : (items middle : List Item) → items ≡ left ++ (middle ++ right) → map mark_of items ≡ map mark_of left ++ (map mark_of middle ++ map mark_of right)
  marks_parts items middle e = ap (map mark_of) e ∙ (map-append mark_of left (middle ++ right) ∙ ap (λ (ms : List Mark). map mark_of left ++ ms) (map-append mark_of middle right))

  pub leaf_edited : (items after : List Item) → items ≡ left ++ (here ++ right) → after ≡ left ++ (new ++ right) → Rises (separator sep ∷ map mark_of items) → IsEdited key middle known (separator sep ∷ map mark_of items) (separator sep ∷ map mark_of after)
  leaf_edited items after is is_after rises =
      let old_is = marks_parts items here is in
      let new_is = marks_parts after new is_after in
      let h = edited_parts (subst (λ (ms : List Mark). Rises (separator sep ∷ ms)) old_is rises) in
      subst (λ (ms : List Mark). IsEdited key middle known (separator sep ∷ map mark_of items) (separator sep ∷ ms)) (sym new_is)
      (subst (λ (ms : List Mark). IsEdited key middle known (separator sep ∷ ms) (separator sep ∷ (map mark_of left ++ (map mark_of new ++ map mark_of right)))) (sym old_is) h)

pub every_take : (P : Item → Type 0) (xs : List Item) (n : ℕ) → n ≤ length xs → ((k : ℕ) (d : Item) → k < n → P (get_or xs k d)) → Every P (take n xs)
every_take P xs zero within all = tt
every_take P [] (suc n) within all = absurd (omega (arith, within))
every_take P (x ∷ xs) (suc n) within all = (all 0 x (omega arith), every_take P xs n (omega (arith, within)) (λ k d h. all (suc k) d (omega (arith, h))))

below_of : (k key : List ℕ) → is_from key false k ≡ false → IsBelow k key
below_of k key e = by (key_cmp k key) e
  where
    no : true ≡ false → ⊥
    no f = cc

    by : (o : Ordering) → not (is_lt o) ≡ false → o ≡ Less
    by Less f = refl
    by Equal f = absurd (no f)
    by Greater f = absurd (no f)

not_below : (k key : List ℕ) → is_from key false k ≡ true → IsBelow k key → ⊥
not_below k key e below = no (sym (ap (λ (o : Ordering). not (is_lt o)) below) ∙ e)
  where
    no : false ≡ true → ⊥
    no f = cc

above_of : (k key : List ℕ) → is_from key false k ≡ true → is_eq (key_cmp k key) ≡ false → IsBelow key k
above_of k key e f = greater_back k key (by (key_cmp k key) e f)
  where
    no : false ≡ true → ⊥
    no g = cc

    by : (o : Ordering) → not (is_lt o) ≡ true → is_eq o ≡ false → o ≡ Greater
    by Less g h = absurd (no g)
    by Equal g h = absurd (no (sym h))
    by Greater g h = refl

pub same_bytes : (bytes k key : List ℕ) (b : Bool) → bytes ≡ k → b ≡ pointwise ◌==◌ bytes key → is_eq (key_cmp k key) ≡ b
same_bytes bytes k key b is e = sym (texts_ties k key) ∙ (ap (λ (xs : List ℕ). pointwise ◌==◌ xs key) (sym is) ∙ sym e)

pub other_bytes : (bytes k key : List ℕ) (b : Bool) → bytes ≡ k → b ≡ not (pointwise ◌==◌ bytes key) → is_eq (key_cmp k key) ≡ not b
other_bytes bytes k key b is e = same_bytes bytes k key (not b) is (ap not e ∙ twice (pointwise ◌==◌ bytes key))
  where
    twice : (c : Bool) → not (not c) ≡ c
    twice true = refl
    twice false = refl

-- The first entry of a leaf that isn't below a key stands at `n`, or all are below it.
module _ (items : List Item) (key : List ℕ) (n : ℕ) (within : n ≤ length items) (before : (k : ℕ) (d : Item) → k < n → is_from key false (get_or items k d).key ≡ false) (at : (d : Item) → n < length items → is_from key false (get_or items n d).key ≡ true) where
  front_below : Every (λ i. IsBelow i.key key) (take n items)
  front_below = every_take (λ i. IsBelow i.key key) items n within (λ k d h. below_of (get_or items k d).key key (before k d h))

  module _ (h : Item) (here : n < length items) (is : h ≡ get_or items n h) where
    known_parts : items ≡ take n items ++ (h ∷ drop (suc n) items)
    known_parts = sym (take-append-drop n items) ∙ ap (λ (xs : List Item). take n items ++ xs) (drop-cons items n h here ∙ ap (λ (i : Item). i ∷ drop (suc n) items) (sym is))

    from_here : is_from key false h.key ≡ true
    from_here = ap (λ (i : Item). is_from key false i.key) is ∙ at h here

    behind_above : (sep : List ℕ) → Rises (separator sep ∷ map mark_of items) → Every (λ i. IsBelow key i.key) (drop (suc n) items)
    behind_above sep rises =
        let rest : List Item = drop (suc n) items in
        let marks_are : map mark_of items ≡ map mark_of (take n items) ++ (mark_of h ∷ map mark_of rest) = ap (map mark_of) known_parts ∙ map-append mark_of (take n items) (h ∷ rest) in
        let whole : Rises (map mark_of (take n items) ++ (mark_of h ∷ map mark_of rest)) = subst Rises marks_are rises.1 in
        let behind = rises_right (map mark_of (take n items)) (mark_of h ∷ map mark_of rest) whole in
        all rest behind.0
      where
        all : (xs : List Item) → Every (IsBefore (mark_of h)) (map mark_of xs) → Every (λ i. IsBelow key i.key) xs
        all [] e = tt
        all (x ∷ xs) e = (upto_below key h.key x.key (not_below h.key key from_here) (entry_below h (mark_of x) e.0), all xs e.1)

    has_found : (b : Bool) → is_eq (key_cmp h.key key) ≡ b → has items key ≡ b
    unfolding has
    has_found b e = ap (λ (o : Option Item). has_first o key) ((find_from (λ i. is_from key false i.key) items n within before (λ g d. at d g)).0 h here is) ∙ e

    above_here : is_eq (key_cmp h.key key) ≡ false → (sep : List ℕ) → Rises (separator sep ∷ map mark_of items) → Every (λ i. IsBelow key i.key) (drop n items)
    above_here e sep rises = subst (Every (λ i. IsBelow key i.key)) (sym (drop-cons items n h here)) (subst (λ (i : Item). IsBelow key i.key) is (above_of h.key key from_here e), behind_above sep rises)

  some_item : (C : Type 0) → n < length items → ((h : Item) → h ≡ get_or items n h → C) → C
  some_item C here f = by items refl
    where
      by : (xs : List Item) → items ≡ xs → C
      by [] e = absurd (omega (arith, here, ap length e))
      by (x ∷ xs) e = let d : Item = get_or items n x in f d (get_or_default items n x d here)

  module _ (told : (d : Item) → n < length items → is_eq (key_cmp (get_or items n d).key key) ≡ true) (here : n < length items) where
    of_item : (h : Item) → h ≡ get_or items n h → is_eq (key_cmp h.key key) ≡ true
    of_item h is = ap (λ (i : Item). is_eq (key_cmp i.key key)) is ∙ told h here

    -- the entry at the place has the key
    pub known_edited : (new after : List Item) (middle : List Entry) → IsPlaced key middle new → after ≡ take n items ++ (new ++ drop (suc n) items) → (sep : List ℕ) → Rises (separator sep ∷ map mark_of items) → (IsBelow key sep → ⊥) → IsEdited key middle true (separator sep ∷ map mark_of items) (separator sep ∷ map mark_of after)
    known_edited new after middle placed is_after sep rises upto =
        some_item (IsEdited key middle true (separator sep ∷ map mark_of items) (separator sep ∷ map mark_of after)) here (λ h is.
        leaf_edited key sep (take n items) (h ∷ []) new (drop (suc n) items) true middle (piece_some key h (of_item h is)) placed upto front_below (behind_above h here is sep rises) items after (known_parts h here is) is_after rises)

    pub known_has : true ≡ has items key
    known_has = some_item (true ≡ has items key) here (λ h is. sym (has_found h here is true (of_item h is)))

  module _ (told : (d : Item) → n < length items → is_eq (key_cmp (get_or items n d).key key) ≡ false) where
    above_all : (sep : List ℕ) → Rises (separator sep ∷ map mark_of items) → Every (λ i. IsBelow key i.key) (drop n items)
    above_all sep rises = by (less_or n (length items))
      where
        by : ((n < length items) ⊎ (length items ≤ n)) → Every (λ i. IsBelow key i.key) (drop n items)
        by (inl here) = some_item (Every (λ i. IsBelow key i.key) (drop n items)) here (λ h is. above_here h here is (ap (λ (i : Item). is_eq (key_cmp i.key key)) is ∙ told h here) sep rises)
        by (inr past) = subst (Every (λ i. IsBelow key i.key)) (sym (drop_all n items past)) tt

    -- no entry has the key
    pub new_edited : (new after : List Item) (middle : List Entry) → IsPlaced key middle new → after ≡ take n items ++ (new ++ drop n items) → (sep : List ℕ) → Rises (separator sep ∷ map mark_of items) → (IsBelow key sep → ⊥) → IsEdited key middle false (separator sep ∷ map mark_of items) (separator sep ∷ map mark_of after)
    new_edited new after middle placed is_after sep rises upto =
        leaf_edited key sep (take n items) [] new (drop n items) false middle (piece_none key) placed upto front_below (above_all sep rises) items after (sym (take-append-drop n items)) is_after rises

    pub new_has : false ≡ has items key
    unfolding has
    new_has = by (less_or n (length items))
      where
        by : ((n < length items) ⊎ (length items ≤ n)) → false ≡ has items key
        by (inl here) = some_item (false ≡ has items key) here (λ h is. sym (has_found h here is false (ap (λ (i : Item). is_eq (key_cmp i.key key)) is ∙ told h here)))
        by (inr past) = sym (ap (λ (o : Option Item). has_first o key) ((find_from (λ i. is_from key false i.key) items n within before (λ g d. at d g)).1 past))

pub placed_one : (key value : List ℕ) (i : Item) → i.key ≡ key → i.value ≡ value → IsPlaced key ((key, value) ∷ []) (i ∷ [])
placed_one key value i is_key is_value = record {
  entries_are = ap (λ (k : List ℕ). let e : List Entry = (k, i.value) ∷ [] in e) is_key ∙ ap (λ (v : List ℕ). let e : List Entry = (key, v) ∷ [] in e) is_value;
  one = inr (i, refl, is_key);
}

pub placed_none : (key : List ℕ) → IsPlaced key [] []
placed_none key = record { entries_are = refl; one = inl refl }

pub set_parts : (xs : List Item) (n : ℕ) (x : Item) → n < length xs → set xs n x ≡ take n xs ++ (x ∷ drop (suc n) xs)
set_parts [] n x h = absurd (omega (arith, h))
set_parts (y ∷ ys) zero x h = refl
set_parts (y ∷ ys) (suc n) x h = ap (λ (zs : List Item). y ∷ zs) (set_parts ys n x (omega (arith, h)))

-- a slice that was written as long as it was
pub refilled : (xs ws : List Item) → length ws ≡ length xs → refill (length xs) xs ws ≡ ws
refilled xs ws e = ap (λ (n : ℕ). take n (ws ++ drop (length ws) xs)) (sym e) ∙ take-append_seam ws (drop (length ws) xs)
