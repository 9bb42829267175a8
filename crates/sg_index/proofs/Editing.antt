-- The marks of a part of a tree, changed among others.
use Rattle.std.proofs.Common.{◌≡◌, ℕ, Bool, true, false, cond, List, [], ◌∷◌, ◌++◌, Option, Some, None, refl, sym, ap, ◌∙◌, subst, inl, inr, append_assoc, append-nil}
use Rattle.std.specs.Prelude.{◌⊎◌, IsSome, is_some, find, filter}
use Rattle.std.specs.Option.{option_map}
use Rattle.std.specs.Ordering.{is_lt, is_gt, is_eq}
use Rattle.std.specs.declared.cmp.Ordering.{Ordering}
use Rattle.std.specs.declared.cmp.Ordering.TheVariants.{Less, Equal, Greater}
use Rattle.std.proofs.lemmas.List.Elements.{filter-append}
use Rattle.sg_index.specs.Order.{key_cmp, IsBelow, Entry, value_in}
use Rattle.sg_index.specs.Tree.{Mark, separator, IsBefore, Rises, entries_in}
use Rattle.sg_index.specs.Change.{edited, knows, AreUnder, IsEdited, IsMarkedAnew}
use Rattle.sg_index.proofs.Every.{Every, every_join, every_left, every_right, every_weaker}
use Rattle.sg_index.proofs.Keys.{total, below_trans, above_back, greater_back, find_skip, find_none}
use Rattle.sg_index.proofs.Marks.{Apart, rises_left, rises_right, rises_apart, rises_join, entries_in-append, every_entry, before_separator}
use Rattle.sg_index.proofs.Seeking.{Begins}

unlike_some : (v : Option (List ℕ)) → v ≡ None → IsSome v → ⊥
unlike_some None e some = absurd (no some)
  where
    no : false ≡ true → ⊥
    no f = cc
unlike_some (Some x) e some = absurd (no e)
  where
    no : Some x ≡ None → ⊥
    no f = cc

pub before_trans : (a b c : Mark) → IsBefore a b → IsBefore b c → IsBefore a c
before_trans a b c (inl p) (inl q) = inl (below_trans a.key b.key c.key p q)
before_trans a b c (inl p) (inr q) = inl (subst (IsBelow a.key) q.0 p)
before_trans a b c (inr p) (inl q) = inl (subst (λ (k : List ℕ). IsBelow k c.key) (sym p.0) q)
before_trans a b c (inr p) (inr q) = absurd (unlike_some b.value q.1 p.2)

-- what is above all that isn't above a key is above that key
pub upto_below : (a b c : List ℕ) → (IsBelow b a → ⊥) → IsBelow b c → IsBelow a c
upto_below a b c upto below = by (key_cmp a b) refl
  where
    by : (o : Ordering) → key_cmp a b ≡ o → IsBelow a c
    by Less e = below_trans a b c e below
    by Equal e = total.congr a b c e ∙ below
    by Greater e = absurd (upto (greater_back a b e))

-- what begins a part of a tree, and all of it, is below a key
abbrev pub Above : List ℕ → List Mark → Type 0
Above key marks = Every (λ m. IsBelow key m.key) marks

-- nothing, or the marks from a separator on
abbrev pub Starts : List Mark → Type 0
Starts marks = (marks ≡ []) ⊎ ((key : List ℕ) × Begins key marks)

-- marks before a separator are before what stands from there on
pub apart_begun : (left marks : List Mark) (key : List ℕ) → Begins key marks → Rises marks → Every (λ a. IsBefore a (separator key)) left → Apart left marks
apart_begun left marks key begins rises all =
    let rising : Rises (separator key ∷ begins.rest) = subst Rises begins.is rises in
    every_weaker (λ a. IsBefore a (separator key)) (λ a. Every (IsBefore a) marks)
    (λ a first. subst (Every (IsBefore a)) (sym begins.is) (first, every_weaker (IsBefore (separator key)) (IsBefore a) (λ m next. before_trans a (separator key) m first next) begins.rest rising.0)) left all

-- the other way round
pub before_begun : (left marks : List Mark) (key : List ℕ) → Begins key marks → Apart left marks → Every (λ a. IsBefore a (separator key)) left
before_begun left marks key begins apart =
    every_weaker (λ a. Every (IsBefore a) marks) (λ a. IsBefore a (separator key)) (λ a all. (first a all).0) left apart
  where
    first : (a : Mark) → Every (IsBefore a) marks → Every (IsBefore a) (separator key ∷ begins.rest)
    first a all = subst (Every (IsBefore a)) begins.is all

-- a part that begins with the same separator takes the place of another, if it is below what the other was below
pub rises_replaced : (left old new right : List Mark) (key : List ℕ) → Begins key old → Begins key new → Starts right → ((above : List ℕ) → Begins above right → AreUnder above old → AreUnder above new) → Rises (left ++ (old ++ right)) → Rises new → Rises (left ++ (new ++ right))
rises_replaced left old new right key begun begins starts under rises rises_new =
    let on : Rises (old ++ right) = rises_right left (old ++ right) rises in
    let before : Apart left (old ++ right) = rises_apart left (old ++ right) rises in
    let to_old : Apart left old = every_weaker (λ a. Every (IsBefore a) (old ++ right)) (λ a. Every (IsBefore a) old) (λ a all. every_left (IsBefore a) old right all) left before in
    let to_right : Apart left right = every_weaker (λ a. Every (IsBefore a) (old ++ right)) (λ a. Every (IsBefore a) right) (λ a all. every_right (IsBefore a) old right all) left before in
    let to_new : Apart left new = apart_begun left new key begins rises_new (before_begun left old key begun to_old) in
    let both : Apart left (new ++ right) = joined left to_new to_right in
    rises_join left (new ++ right) (rises_left left (old ++ right) rises) (rises_join new right rises_new (rises_right old right on) (behind starts (rises_apart old right on) (rises_right old right on))) both
  where
    joined : (xs : List Mark) → Apart xs new → Apart xs right → Apart xs (new ++ right)
    joined [] a b = tt
    joined (x ∷ xs) a b = (every_join (IsBefore x) new right a.0 b.0, joined xs a.1 b.1)

    nothing : (xs : List Mark) → Apart xs []
    nothing [] = tt
    nothing (x ∷ xs) = (tt, nothing xs)

    behind : Starts right → Apart old right → Rises right → Apart new right
    behind (inl none) apart on = subst (Apart new) (sym none) (nothing new)
    behind (inr begun_right) apart on =
        let above = begun_right.0 in
        let old_under : AreUnder above old = every_weaker (λ a. IsBefore a (separator above)) (λ a. IsBelow a.key above) (λ a h. before_separator a above h) old (before_begun old right above begun_right.1 apart) in
        apart_begun new right above begun_right.1 on (every_weaker (λ a. IsBelow a.key above) (λ a. IsBefore a (separator above)) (λ a h. inl h) new (under above begun_right.1 old_under))

pub under_replaced : (left old new right : List Mark) (above : List ℕ) → (AreUnder above old → AreUnder above new) → AreUnder above (left ++ (old ++ right)) → AreUnder above (left ++ (new ++ right))
under_replaced left old new right above f all =
    let P : Mark → Type 0 = λ m. IsBelow m.key above in
    let on : Every P (old ++ right) = every_right P left (old ++ right) all in
    every_join P left (new ++ right) (every_left P left (old ++ right) all) (every_join P new right (f (every_left P old right on)) (every_right P old right on))

pub entries_parts : (left here right : List Mark) → entries_in (left ++ (here ++ right)) ≡ entries_in left ++ (entries_in here ++ entries_in right)
entries_parts left here right = entries_in-append left (here ++ right) ∙ ap (λ (es : List Entry). entries_in left ++ es) (entries_in-append here right)

module _ (p : Entry → Bool) where
  pub filter_all : (es : List Entry) → Every (λ e. p e ≡ true) es → filter p es ≡ es
  filter_all [] all = refl
  filter_all (e ∷ es) all = rw all.0 (ap (λ (xs : List Entry). e ∷ xs) (filter_all es all.1))

  pub filter_none : (es : List Entry) → Every (λ e. p e ≡ false) es → filter p es ≡ []
  filter_none [] all = refl
  filter_none (e ∷ es) all = rw all.0 (filter_none es all.1)

  find_front : (xs ys : List Entry) → Every (λ e. p e ≡ false) ys → find p (xs ++ ys) ≡ find p xs
  find_front [] ys all = find_none p ys all
  find_front (x ∷ xs) ys all = ap (cond (p x) (Some x)) (find_front xs ys all)

module _ (key : List ℕ) (left here right : List Entry) (below : Every (λ e. IsBelow e.0 key) left) (above : Every (λ e. IsBelow key e.0) right) where
  is_left : (P : Ordering → Bool) (b : Bool) → P Less ≡ b → Every (λ e. P (key_cmp e.0 key) ≡ b) left
  is_left P b e = every_weaker (λ e. IsBelow e.0 key) (λ e. P (key_cmp e.0 key) ≡ b) (λ x h. ap P h ∙ e) left below

  is_right : (P : Ordering → Bool) (b : Bool) → P Greater ≡ b → Every (λ e. P (key_cmp e.0 key) ≡ b) right
  is_right P b e = every_weaker (λ e. IsBelow key e.0) (λ e. P (key_cmp e.0 key) ≡ b) (λ x h. ap P (above_back key x.0 h) ∙ e) right above

  pub edited_among : (middle : List Entry) → edited (left ++ (here ++ right)) key middle ≡ left ++ (edited here key middle ++ right)
  edited_among middle =
      let lt : Entry → Bool = λ e. is_lt (key_cmp e.0 key) in
      let gt : Entry → Bool = λ e. is_gt (key_cmp e.0 key) in
      let one : filter lt (left ++ (here ++ right)) ≡ left ++ filter lt here =
      filter-append lt left (here ++ right) ∙ (ap (λ (es : List Entry). es ++ filter lt (here ++ right)) (filter_all lt left (is_left is_lt true refl)) ∙ ap (λ (es : List Entry). left ++ es) (filter-append lt here right ∙ (ap (λ (es : List Entry). filter lt here ++ es) (filter_none lt right (is_right is_lt false refl)) ∙ append-nil (filter lt here)))) in
      let two : filter gt (left ++ (here ++ right)) ≡ filter gt here ++ right =
      filter-append gt left (here ++ right) ∙ (ap (λ (es : List Entry). es ++ filter gt (here ++ right)) (filter_none gt left (is_left is_gt false refl)) ∙ (filter-append gt here right ∙ ap (λ (es : List Entry). filter gt here ++ es) (filter_all gt right (is_right is_gt true refl)))) in
      ap (λ (es : List Entry). es ++ (middle ++ filter gt (left ++ (here ++ right)))) one ∙ (ap (λ (es : List Entry). (left ++ filter lt here) ++ (middle ++ es)) two ∙ simp append_assoc)

  pub knows_among : knows (left ++ (here ++ right)) key ≡ knows here key
  unfolding value_in
  knows_among =
      let eq : Entry → Bool = λ e. is_eq (key_cmp e.0 key) in
      ap (λ (o : Option Entry). is_some (option_map (λ e. let v : List ℕ = e.1 in v) o)) (find_skip eq left (here ++ right) (is_left is_eq false refl) ∙ find_front eq here right (is_right is_eq false refl))

-- A change of a part, among marks that are below the key and marks above it.
module _ (key : List ℕ) (middle : List Entry) (known : Bool) (left old new right : List Mark) (h : IsEdited key middle known old new) (below : AreUnder key left) (above : Above key right) where
  left_entries : Every (λ e. IsBelow e.0 key) (entries_in left)
  left_entries = every_entry (λ k. IsBelow k key) left below

  right_entries : Every (λ e. IsBelow key e.0) (entries_in right)
  right_entries = every_entry (λ k. IsBelow key k) right above

  pub edited_known : Rises (left ++ (new ++ right)) → IsEdited key middle known (left ++ (old ++ right)) (left ++ (new ++ right))
  edited_known rises = record {
    rises = rises;
    told = h.told ∙ (sym (knows_among key (entries_in left) (entries_in old) (entries_in right) left_entries right_entries) ∙ ap (λ (es : List Entry). knows es key) (sym (entries_parts left old right)));
    entries =
        entries_parts left new right
        ∙ (ap (λ (es : List Entry). entries_in left ++ (es ++ entries_in right)) h.entries
        ∙ (sym (edited_among key (entries_in left) (entries_in old) (entries_in right) left_entries right_entries middle) ∙ ap (λ (es : List Entry). edited es key middle) (sym (entries_parts left old right))));
    under = λ top at. under_replaced left old new right top (h.under top at);
  }

  begun_above : (top : List ℕ) → Begins top right → IsBelow key top
  begun_above top begins =
      let all : Above key (separator top ∷ begins.rest) = subst (Above key) begins.is above in
      all.0

  pub edited_among_marks : (sep : List ℕ) → Begins sep old → Begins sep new → Starts right → Rises (left ++ (old ++ right)) → IsEdited key middle known (left ++ (old ++ right)) (left ++ (new ++ right))
  edited_among_marks sep begun begins starts rises =
      edited_known (rises_replaced left old new right sep begun begins starts (λ top from. h.under top (begun_above top from)) rises h.rises)

-- a change, and other separators then
pub edited_anew : (key : List ℕ) (middle : List Entry) (known : Bool) (old mid new : List Mark) → IsEdited key middle known old mid → IsMarkedAnew mid new → IsEdited key middle known old new
edited_anew key middle known old mid new h anew = record {
  rises = anew.rises;
  told = h.told;
  entries = anew.entries ∙ h.entries;
  under = λ top at all. anew.under top (h.under top at all);
}

pub anew_same : (marks : List Mark) → Rises marks → IsMarkedAnew marks marks
anew_same marks rises = record { rises = rises; entries = refl; under = λ top all. all }
