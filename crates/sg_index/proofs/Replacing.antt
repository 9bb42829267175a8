-- Some children of a node replaced by others.
use Rattle.std.proofs.Common.{◌≡◌, ℕ, suc, ◌+◌, ◌<◌, ◌≤◌, ◌^◌, Bool, true, false, List, [], ◌∷◌, ◌++◌, Some, None, refl, sym, ap, ◌∙◌, subst, arith, inl, inr}
use Rattle.std.specs.Prelude.{◌==◌, ◌⊎◌, nat_lt}
use Rattle.std.specs.List.{flat_map}
use Rattle.std.proofs.lemmas.Bool.Decides.{nat_tests}
use Rattle.std.proofs.lemmas.List.Concat.{flat_map-append}
use Rattle.sg_index.specs.declared.item.Item.{Item}
use Rattle.sg_index.specs.Order.{Entry}
use Rattle.sg_index.specs.Records.{Map}
use Rattle.sg_index.specs.Tree.{Mark, Rises, Child, branches, marks_in, numbers_in, IsChild, Holds, first_key, times}
use Rattle.sg_index.specs.Index.{count_at}
use Rattle.sg_index.specs.Change.{AreUnder, IsEdited, AreNumbered, AreRenumbered, IsChanged}
use Rattle.sg_index.proofs.Every.{Every, every_join, every_left, every_right}
use Rattle.sg_index.proofs.Seeking.{Begins, holds_first}
use Rattle.sg_index.proofs.Counting.{times-append, count_most, renumbered_within}
use Rattle.sg_index.proofs.Moving.{AreSame, children_kept}
use Rattle.sg_index.proofs.Editing.{Above, Starts, edited_among_marks}

pub less_or : (a b : ℕ) → (a < b) ⊎ (b ≤ a)
less_or a b = by (nat_lt a b) refl
  where
    by : (t : Bool) → nat_lt a b ≡ t → (a < b) ⊎ (b ≤ a)
    by true e = let h : a < b = grind (arith, nat_tests, e) in inl h
    by false e = let h : b ≤ a = grind (arith, nat_tests, e) in inr h

-- the numbers of three parts of the children
pub numbers_parts : (left mid right : List Child) → flat_map numbers_in (left ++ (mid ++ right)) ≡ flat_map numbers_in left ++ (flat_map numbers_in mid ++ flat_map numbers_in right)
numbers_parts left mid right = flat_map-append numbers_in left (mid ++ right) ∙ ap (λ (ns : List ℕ). flat_map numbers_in left ++ ns) (flat_map-append numbers_in mid right)

pub marks_parts : (left mid right : List Child) → flat_map marks_in (left ++ (mid ++ right)) ≡ flat_map marks_in left ++ (flat_map marks_in mid ++ flat_map marks_in right)
marks_parts left mid right = flat_map-append marks_in left (mid ++ right) ∙ ap (λ (ms : List Mark). flat_map marks_in left ++ ms) (flat_map-append marks_in mid right)

pub count_parts : (left mid right : List Child) (q : ℕ) → times q (flat_map numbers_in (left ++ (mid ++ right))) ≡ (times q (flat_map numbers_in left) + times q (flat_map numbers_in right)) + times q (flat_map numbers_in mid)
count_parts left mid right q =
    omega (arith, ap (times q) (numbers_parts left mid right), times-append q (flat_map numbers_in left) (flat_map numbers_in mid ++ flat_map numbers_in right), times-append q (flat_map numbers_in mid) (flat_map numbers_in right))

module _ (records : Map) (level : ℕ) where
  pub begins : (key : List ℕ) (children : List Child) → first_key children ≡ Some key → Every (IsChild records (level == 0) (Holds records level)) children → Begins key (flat_map marks_in children)
  begins key children first each =
      holds_first records (suc level) key (branches children) (flat_map marks_in children) (flat_map numbers_in children) (record { children = children; items_are = refl; first = first; each = each; marks_are = refl; numbers_are = refl })

  pub starts : (children : List Child) → Every (IsChild records (level == 0) (Holds records level)) children → Starts (flat_map marks_in children)
  starts [] each = inl refl
  starts (c ∷ cs) each = inr (c.key, begins c.key (c ∷ cs) refl each)

first_front : (left right : List Child) (key : List ℕ) → first_key left ≡ Some key → first_key (left ++ right) ≡ Some key
first_front [] right key e = absurd (no e)
  where
    no : None ≡ Some key → ⊥
    no f = cc
first_front (c ∷ cs) right key e = e

first_same : (left mid cs right : List Child) (key : List ℕ) → first_key mid ≡ Some key → first_key cs ≡ Some key → first_key (left ++ (cs ++ right)) ≡ first_key (left ++ (mid ++ right))
first_same [] mid cs right key e f = first_front cs right key f ∙ sym (first_front mid right key e)
first_same (c ∷ left) mid cs right key e f = refl

module _ (old new : Map) (next to level : ℕ) (left mid cs right : List Child) (each : Every (IsChild old (level == 0) (Holds old level)) (left ++ (mid ++ right))) (numbered : AreNumbered old next (flat_map numbers_in (left ++ (mid ++ right)))) (ren : AreRenumbered old new next to (flat_map numbers_in mid) (flat_map numbers_in cs)) where
  -- the records of the other children's nodes stay
  others_same : (part : List Child) → ((q : ℕ) → times q (flat_map numbers_in part) ≤ times q (flat_map numbers_in left) + times q (flat_map numbers_in right)) → AreSame old new (flat_map numbers_in part)
  others_same part few = λ q small some.
      let total = count_parts left mid right q in
      let once = numbered.once q small in
      let most = count_most old q in
      let few_here = few q in
      let none : times q (flat_map numbers_in mid) ≡ 0 = omega arith in
      ren.kept q small none (below q small (omega arith))
    where
      below : (q : ℕ) → q < 2 ^ 32 → 1 ≤ count_at old q → (q < next ⊎ to ≤ q)
      below q small some = by (less_or q next)
        where
          by : ((q < next) ⊎ (next ≤ q)) → (q < next ⊎ to ≤ q)
          by (inl h) = inl h
          by (inr h) = absurd (omega (arith, some, numbered.free q small h))

  pub each_replaced : Every (IsChild new (level == 0) (Holds new level)) cs → Every (IsChild new (level == 0) (Holds new level)) (left ++ (cs ++ right))
  each_replaced each_new =
      let P : Child → Type 0 = IsChild old (level == 0) (Holds old level) in
      let Q : Child → Type 0 = IsChild new (level == 0) (Holds new level) in
      let on : Every P (mid ++ right) = every_right P left (mid ++ right) each in
      every_join Q left (cs ++ right) (children_kept old new level left (every_left P left (mid ++ right) each) (others_same left (λ q. omega arith)))
      (every_join Q cs right each_new (children_kept old new level right (every_right P mid right on) (others_same right (λ q. omega arith))))

  pub renumbered_replaced : AreRenumbered old new next to (flat_map numbers_in (left ++ (mid ++ right))) (flat_map numbers_in (left ++ (cs ++ right)))
  renumbered_replaced =
      renumbered_within (λ q. times q (flat_map numbers_in left) + times q (flat_map numbers_in right)) (flat_map numbers_in (left ++ (mid ++ right))) (flat_map numbers_in (left ++ (cs ++ right))) (count_parts left mid right) (count_parts left cs right) ren

-- The children `mid` of a node were replaced by others, which hold what those held but for the entry of a key.
pub inner_changed : (old new : Map) (next to level : ℕ) (key sep : List ℕ) (middle : List Entry) (known : Bool) (items after : List Item) (marks : List Mark) (numbers : List ℕ) (h : Holds old (suc level) sep items marks numbers) (left mid cs right : List Child) → h.children ≡ left ++ (mid ++ right) → (first : List ℕ) → first_key mid ≡ Some first → first_key cs ≡ Some first → Rises marks → AreNumbered old next numbers → IsEdited key middle known (flat_map marks_in mid) (flat_map marks_in cs) → AreRenumbered old new next to (flat_map numbers_in mid) (flat_map numbers_in cs) → Every (IsChild new (level == 0) (Holds new level)) cs → AreUnder key (flat_map marks_in left) → Above key (flat_map marks_in right) → after ≡ branches (left ++ (cs ++ right)) → IsChanged key middle known old new next to (suc level) sep marks numbers after
inner_changed old new next to level key sep middle known items after marks numbers h left mid cs right parts first mid_first cs_first rises numbered edited ren each_new below above after_is =
    let P : Child → Type 0 = IsChild old (level == 0) (Holds old level) in
    let each : Every P (left ++ (mid ++ right)) = subst (Every P) parts h.each in
    let numbers_are : numbers ≡ flat_map numbers_in (left ++ (mid ++ right)) = h.numbers_are ∙ ap (flat_map numbers_in) parts in
    let counted : AreNumbered old next (flat_map numbers_in (left ++ (mid ++ right))) = subst (AreNumbered old next) numbers_are numbered in
    let marks_are : marks ≡ flat_map marks_in left ++ (flat_map marks_in mid ++ flat_map marks_in right) = h.marks_are ∙ (ap (flat_map marks_in) parts ∙ marks_parts left mid right) in
    let on : Every P (mid ++ right) = every_right P left (mid ++ right) each in
    let each_all = each_replaced old new next to level left mid cs right each counted ren each_new in
    let among = edited_among_marks key middle known (flat_map marks_in left) (flat_map marks_in mid) (flat_map marks_in cs) (flat_map marks_in right) edited below above first (begins old level first mid mid_first (every_left P mid right on)) (begins new level first cs cs_first each_new) (starts old level right (every_right P mid right on)) (subst Rises marks_are rises) in
    record {
      marks_now = flat_map marks_in (left ++ (cs ++ right));
      numbers_now = flat_map numbers_in (left ++ (cs ++ right));
      holds = record {
        children = left ++ (cs ++ right);
        items_are = after_is;
        first = first_same left mid cs right first mid_first cs_first ∙ (ap first_key (sym parts) ∙ h.first);
        each = each_all;
        marks_are = refl;
        numbers_are = refl;
      };
      edited = subst (λ (ms : List Mark). IsEdited key middle known ms (flat_map marks_in (left ++ (cs ++ right)))) (sym marks_are) (subst (IsEdited key middle known (flat_map marks_in left ++ (flat_map marks_in mid ++ flat_map marks_in right))) (sym (marks_parts left cs right)) among);
      renumbered = subst (λ (ns : List ℕ). AreRenumbered old new next to ns (flat_map numbers_in (left ++ (cs ++ right)))) (sym numbers_are) (renumbered_replaced old new next to level left mid cs right each counted ren);
    }
