-- A step down in a tree: the child below which a key belongs, and the node once what is below that child was changed.
use Rattle.std.proofs.Common.{◌≡◌, ℕ, suc, ◌+◌, ◌<◌, ◌≤◌, Bool, List, [], ◌∷◌, ◌++◌, length, map, take, drop, get_or, refl, sym, ap, ◌∙◌, subst, arith, append-nil, append_assoc, length-append}
use Rattle.std.specs.Prelude.{◌==◌, if◌then◌else◌}
use Rattle.std.specs.List.{flat_map}
use Rattle.std.proofs.Math.Seq.{take-append_seam, drop-append_seam}
use Rattle.std.proofs.lemmas.List.Concat.{flat_map-append}
use Rattle.std.proofs.lemmas.Option.{same_Some}
use Rattle.sg_index.specs.declared.item.Item.{Item}
use Rattle.sg_index.specs.Order.{IsBelow, Entry}
use Rattle.sg_index.specs.Records.{Map}
use Rattle.sg_index.specs.Tree.{Mark, separator, IsBefore, Rises, Child, item_of, branches, marks_in, numbers_in, IsChild, Holds, first_key, times}
use Rattle.sg_index.specs.Change.{AreUnder, IsEdited, AreNumbered, AreRenumbered, AreStored, IsChanged}
use Rattle.sg_index.proofs.Every.{Every, every_right, every_weaker, at_place}
use Rattle.sg_index.proofs.Keys.{below_upto}
use Rattle.sg_index.proofs.Marks.{rises_left, rises_right, rises_apart, before_separator}
use Rattle.sg_index.proofs.Seeking.{length-branches, get_branch, get_child, later}
use Rattle.sg_index.proofs.Counting.{times-append, numbered_after, numbered_part, renumbered_within, renumbered_then}
use Rattle.sg_index.proofs.Editing.{Above, before_begun, edited_anew}
use Rattle.sg_index.proofs.Replacing.{begins, inner_changed}

-- The child at a place, below which a key belongs: what stands left of it is below the key, and what stands right of it above.
pub record IsAt (records : Map) (level : ℕ) (key : List ℕ) (children : List Child) (n : ℕ) : Type 0 where
  pub left : List Child
  pub here : Child
  pub right : List Child
  pub parts : children ≡ left ++ (here ∷ right)
  pub place : length left ≡ n
  pub child : IsChild records (level == 0) (Holds records level) here
  pub rises : Rises here.marks
  pub below : AreUnder key (flat_map marks_in left)
  pub above : Above key (flat_map marks_in right)
  pub upto : IsBelow key here.key → ⊥

module _ (records : Map) (level : ℕ) (sep key : List ℕ) (items : List Item) (marks : List Mark) (numbers : List ℕ) (h : Holds records (suc level) sep items marks numbers) (rises : Rises marks) (least : IsBelow key sep → ⊥) (n : ℕ) (within : n < length items) (left_of : (d : Item) → 0 < n → IsBelow key (get_or items n d).key → ⊥) (right_of : (d : Item) → n + 1 < length items → IsBelow key (get_or items (n + 1) d).key) where
  module _ (left : List Child) (here : Child) (right : List Child) (parts : h.children ≡ left ++ (here ∷ right)) (place : length left ≡ n) where
    all_items : items ≡ branches (left ++ (here ∷ right))
    all_items = h.items_are ∙ ap branches parts

    all_each : Every (IsChild records (level == 0) (Holds records level)) (left ++ (here ∷ right))
    all_each = subst (Every (IsChild records (level == 0) (Holds records level))) parts h.each

    all_marks : marks ≡ flat_map marks_in left ++ (here.marks ++ flat_map marks_in right)
    all_marks = h.marks_are ∙ (ap (flat_map marks_in) parts ∙ flat_map-append marks_in left (here ∷ right))

    all_rises : Rises (flat_map marks_in left ++ (here.marks ++ flat_map marks_in right))
    all_rises = subst Rises all_marks rises

    here_child : IsChild records (level == 0) (Holds records level) here
    here_child = (every_right (IsChild records (level == 0) (Holds records level)) left (here ∷ right) all_each).0

    here_upto : IsBelow key here.key → ⊥
    here_upto below = by left refl
      where
        by : (xs : List Child) → left ≡ xs → ⊥
        by [] e =
            let first : here.key ≡ sep = same_Some here.key sep (sym (ap (λ (xs : List Child). first_key (xs ++ (here ∷ right))) e) ∙ (sym (ap first_key parts) ∙ h.first)) in
            least (subst (IsBelow key) first below)
        by (c ∷ cs) e =
            let d : Item = item_of here in
            let some : 1 ≤ length left = omega (arith, ap length e) in
            let same : get_or items n d ≡ item_of here = ap (λ (xs : List Item). get_or xs n d) all_items ∙ (ap (λ (m : ℕ). get_or (branches (left ++ here ∷ right)) m d) (sym place) ∙ get_branch left here right d some) in
            left_of d (omega (arith, some, place)) (subst (λ (i : Item). IsBelow key i.key) (sym same) below)

    left_under : AreUnder key (flat_map marks_in left)
    left_under =
        let b = begins records level here.key (here ∷ right) refl (every_right (IsChild records (level == 0) (Holds records level)) left (here ∷ right) all_each) in
        every_weaker (λ a. IsBefore a (separator here.key)) (λ a. IsBelow a.key key) (λ a f. below_upto a.key here.key key (before_separator a here.key f) here_upto) (flat_map marks_in left)
        (before_begun (flat_map marks_in left) (here.marks ++ flat_map marks_in right) here.key b (rises_apart (flat_map marks_in left) (here.marks ++ flat_map marks_in right) all_rises))

    right_above : Above key (flat_map marks_in right)
    right_above = by right refl
      where
        by : (xs : List Child) → right ≡ xs → Above key (flat_map marks_in right)
        by [] e = subst (λ (xs : List Child). Above key (flat_map marks_in xs)) (sym e) tt
        by (c ∷ cs) e =
            let d : Item = item_of c in
            let further : List Child = left ++ (here ∷ []) in
            let at : length further ≡ n + 1 = omega (arith, length-append left (here ∷ []), place) in
            let again : items ≡ branches (further ++ (c ∷ cs)) = all_items ∙ (ap (λ (r : List Child). branches (left ++ (here ∷ r))) e ∙ ap branches (sym (append_assoc left (here ∷ []) (c ∷ cs)))) in
            let more : n + 1 < length items = omega (arith, ap length again, length-branches (further ++ (c ∷ cs)), length-append further (c ∷ cs), at) in
            let same : get_or items (n + 1) d ≡ item_of c = ap (λ (xs : List Item). get_or xs (n + 1) d) again ∙ (ap (λ (m : ℕ). get_or (branches (further ++ (c ∷ cs))) m d) (sym at) ∙ get_branch further c cs d (omega (arith, at))) in
            let above : IsBelow key c.key = subst (λ (i : Item). IsBelow key i.key) same (right_of d more) in
            let each_right : Every (IsChild records (level == 0) (Holds records level)) (here ∷ (c ∷ cs)) = subst (λ (r : List Child). Every (IsChild records (level == 0) (Holds records level)) (here ∷ r)) e (every_right (IsChild records (level == 0) (Holds records level)) left (here ∷ right) all_each) in
            let b = begins records level c.key (c ∷ cs) refl each_right.1 in
            let on : Rises (flat_map marks_in (c ∷ cs)) = subst (λ (r : List Child). Rises (flat_map marks_in r)) e (rises_right here.marks (flat_map marks_in right) (rises_right (flat_map marks_in left) (here.marks ++ flat_map marks_in right) all_rises)) in
            let rising : Rises (separator c.key ∷ b.rest) = subst Rises b.is on in
            subst (λ (xs : List Child). Above key (flat_map marks_in xs)) (sym e) (subst (Above key) (sym b.is) (above, every_weaker (IsBefore (separator c.key)) (λ m. IsBelow key m.key) (λ m f. later key c.key m above f) b.rest rising.0))

    at_parts : IsAt records level key h.children n
    at_parts = record {
      left = left;
      here = here;
      right = right;
      parts = parts;
      place = place;
      child = here_child;
      rises = rises_left here.marks (flat_map marks_in right) (rises_right (flat_map marks_in left) (here.marks ++ flat_map marks_in right) all_rises);
      below = left_under;
      above = right_above;
      upto = here_upto;
    }

  pub child_at : IsAt records level key h.children n
  child_at =
      let f = at_place h.children n (omega (arith, within, ap length h.items_are, length-branches h.children)) in
      at_parts f.left f.here f.right f.parts f.place

-- the number of the child at a place
pub number_at : {records : Map} {level : ℕ} {key : List ℕ} {children : List Child} {n : ℕ} (items : List Item) → items ≡ branches children → (at : IsAt records level key children n) → (d : Item) → (get_or items n d).child ≡ at.here.number
number_at {n = n} items is at d = ap (λ (xs : List Item). (get_or xs n d).child) (is ∙ ap branches at.parts) ∙ (ap (λ (k : ℕ). (get_or (branches (at.left ++ (at.here ∷ at.right))) k d).child) (sym at.place) ∙ get_child at.left at.here at.right d)

-- the numbers of the child's node and below it
module _ (old : Map) (next level : ℕ) (key : List ℕ) (children : List Child) (n : ℕ) (at : IsAt old level key children n) (numbered : AreNumbered old next (flat_map numbers_in children)) where
  pub here_numbered : AreNumbered old next (at.here.number ∷ at.child.below)
  here_numbered =
      numbered_part (at.here.number ∷ at.child.below) (λ q. omega (arith, ap (λ (cs : List Child). times q (flat_map numbers_in cs)) at.parts, ap (times q) (flat_map-append numbers_in at.left (at.here ∷ at.right)), times-append q (flat_map numbers_in at.left) (flat_map numbers_in (at.here ∷ at.right)), times-append q at.here.numbers (flat_map numbers_in at.right), ap (times q) at.child.numbers_are)) numbered

  pub below_numbered : AreNumbered old next at.child.below
  below_numbered = numbered_part at.child.below (λ q. omega arith) here_numbered

  module _ (mid : Map) (next1 : ℕ) (middle : List Entry) (known : Bool) (held : List Item) (changed : IsChanged key middle known old mid next next1 level at.here.key at.here.marks at.child.below held) where
    pub here_renumbered : AreRenumbered old mid next next1 (at.here.number ∷ at.child.below) (at.here.number ∷ changed.numbers_now)
    here_renumbered = renumbered_within (λ q. if at.here.number == q then 1 else 0) (at.here.number ∷ at.child.below) (at.here.number ∷ changed.numbers_now) (λ q. refl) (λ q. refl) changed.renumbered

    pub mid_numbered : AreNumbered mid next1 (at.here.number ∷ changed.numbers_now)
    mid_numbered = numbered_after here_renumbered here_numbered

-- What a node holds once what is below a child was changed, and the child written or divided.
pub child_changed : (old mid new : Map) (next next1 to level : ℕ) (key sep : List ℕ) (middle : List Entry) (known : Bool) (items after held : List Item) (marks : List Mark) (numbers : List ℕ) (h : Holds old (suc level) sep items marks numbers) (rises : Rises marks) (numbered : AreNumbered old next numbers) (n : ℕ) (at : IsAt old level key h.children n) (changed : IsChanged key middle known old mid next next1 level at.here.key at.here.marks at.child.below held) (cs : List Child) (stored : AreStored mid new next1 to level at.here.key changed.marks_now (at.here.number ∷ changed.numbers_now) cs) → after ≡ branches (at.left ++ (cs ++ at.right)) → IsChanged key middle known old new next to (suc level) sep marks numbers after
child_changed old mid new next next1 to level key sep middle known items after held marks numbers h rises numbered n at changed cs stored after_is =
    let counted : AreNumbered old next (flat_map numbers_in h.children) = subst (AreNumbered old next) h.numbers_are numbered in
    let anew = edited_anew key middle known at.here.marks changed.marks_now (flat_map marks_in cs) changed.edited stored.anew in
    let ren = renumbered_then (here_renumbered old next level key h.children n at counted mid next1 middle known held changed) stored.renumbered in
    let numbers_here : at.here.number ∷ at.child.below ≡ flat_map numbers_in (at.here ∷ []) = sym at.child.numbers_are ∙ sym (append-nil at.here.numbers) in
    inner_changed old new next to level key sep middle known items after marks numbers h at.left (at.here ∷ []) cs at.right at.parts at.here.key refl stored.first rises numbered
    (subst (λ (ms : List Mark). IsEdited key middle known ms (flat_map marks_in cs)) (sym (append-nil at.here.marks)) anew)
    (subst (λ (ns : List ℕ). AreRenumbered old new next to ns (flat_map numbers_in cs)) numbers_here ren)
    stored.each at.below at.above after_is

-- the items of the node where the child is there as before
pub items_kept : (left : List Child) (here there : Child) (right : List Child) → there.key ≡ here.key → there.number ≡ here.number → branches (left ++ (here ∷ right)) ≡ branches (left ++ (there ∷ right))
items_kept left here there right key_is number_is = by left
  where
    same : item_of here ≡ item_of there
    same = ap (λ (k : List ℕ). let i : Item = record { key = k; value = []; child = here.number } in i) (sym key_is) ∙ ap (λ (n : ℕ). let i : Item = record { key = there.key; value = []; child = n } in i) (sym number_is)

    by : (xs : List Child) → branches (xs ++ (here ∷ right)) ≡ branches (xs ++ (there ∷ right))
    by [] = ap (λ (i : Item). record i { key = [] } ∷ map item_of right) same
    by (c ∷ cs) = ap (λ (is : List Item). record (item_of c) { key = [] } ∷ is) (mapped cs)
      where
        mapped : (xs : List Child) → map item_of (xs ++ (here ∷ right)) ≡ map item_of (xs ++ (there ∷ right))
        mapped [] = ap (λ (i : Item). i ∷ map item_of right) same
        mapped (x ∷ xs) = ap (λ (is : List Item). item_of x ∷ is) (mapped xs)

-- and where another one stands behind it
pub items_more : (left : List Child) (here there more : Child) (right : List Child) (items : List Item) (n : ℕ) (i : Item) → items ≡ branches (left ++ (here ∷ right)) → length left ≡ n → there.key ≡ here.key → there.number ≡ here.number → i ≡ item_of more → take (n + 1) items ++ (i ∷ drop (n + 1) items) ≡ branches (left ++ (there ∷ (more ∷ right)))
items_more left here there more right items n i is place key_is number_is i_is =
    let front : List Item = branches (left ++ (there ∷ [])) in
    let parts : branches (left ++ (there ∷ right)) ≡ front ++ map item_of right = split left in
    let whole : items ≡ front ++ map item_of right = is ∙ (items_kept left here there right key_is number_is ∙ parts) in
    let len : length front ≡ n + 1 = omega (arith, length-branches (left ++ (there ∷ [])), length-append left (there ∷ []), place) in
    let first : take (n + 1) items ≡ front = ap (take (n + 1)) whole ∙ (ap (λ (k : ℕ). take k (front ++ map item_of right)) (sym len) ∙ take-append_seam front (map item_of right)) in
    let rest : drop (n + 1) items ≡ map item_of right = ap (drop (n + 1)) whole ∙ (ap (λ (k : ℕ). drop k (front ++ map item_of right)) (sym len) ∙ drop-append_seam front (map item_of right)) in
    ap (λ (xs : List Item). xs ++ (i ∷ drop (n + 1) items)) first ∙ (ap (λ (xs : List Item). front ++ (i ∷ xs)) rest ∙ (ap (λ (x : Item). front ++ (x ∷ map item_of right)) i_is ∙ sym (spread left)))
  where
    mapped : (xs ys : List Child) → map item_of (xs ++ (there ∷ ys)) ≡ map item_of (xs ++ (there ∷ [])) ++ map item_of ys
    mapped [] ys = refl
    mapped (x ∷ xs) ys = ap (λ (is : List Item). item_of x ∷ is) (mapped xs ys)

    split : (xs : List Child) → branches (xs ++ (there ∷ right)) ≡ branches (xs ++ (there ∷ [])) ++ map item_of right
    split [] = refl
    split (x ∷ xs) = ap (λ (is : List Item). record (item_of x) { key = [] } ∷ is) (mapped xs right)

    spread : (xs : List Child) → branches (xs ++ (there ∷ (more ∷ right))) ≡ branches (xs ++ (there ∷ [])) ++ (item_of more ∷ map item_of right)
    spread [] = refl
    spread (x ∷ xs) = ap (λ (is : List Item). record (item_of x) { key = [] } ∷ is) (mapped xs (more ∷ right))
