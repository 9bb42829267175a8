-- Marks in order.
use Rattle.std.proofs.Common.{◌≡◌, ℕ, List, [], ◌∷◌, ◌++◌, map, Option, Some, None, refl, ap, ◌∙◌, inl, inr}
use Rattle.std.specs.Prelude.{IsSome}
use Rattle.std.proofs.lemmas.Bool.{false≢true}
use Rattle.sg_index.specs.declared.item.Item.{Item}
use Rattle.sg_index.specs.Order.{IsBelow, Entry}
use Rattle.sg_index.specs.Tree.{Mark, separator, mark_of, entry_of, IsBefore, Rises, with_value, entries_in}
use Rattle.sg_index.proofs.Every.{Every, every_join, every_left, every_right}

-- each of the first marks stands before each of the others
abbrev pub Apart : List Mark → List Mark → Type 0
Apart xs ys = Every (λ a. Every (IsBefore a) ys) xs

pub rises_left : (xs ys : List Mark) → Rises (xs ++ ys) → Rises xs
rises_left [] ys h = tt
rises_left (a ∷ xs) ys h = (every_left (IsBefore a) xs ys h.0, rises_left xs ys h.1)

pub rises_right : (xs ys : List Mark) → Rises (xs ++ ys) → Rises ys
rises_right [] ys h = h
rises_right (a ∷ xs) ys h = rises_right xs ys h.1

pub rises_apart : (xs ys : List Mark) → Rises (xs ++ ys) → Apart xs ys
rises_apart [] ys h = tt
rises_apart (a ∷ xs) ys h = (every_right (IsBefore a) xs ys h.0, rises_apart xs ys h.1)

pub rises_join : (xs ys : List Mark) → Rises xs → Rises ys → Apart xs ys → Rises (xs ++ ys)
rises_join [] ys one two apart = two
rises_join (a ∷ xs) ys one two apart = (every_join (IsBefore a) xs ys one.0 apart.0, rises_join xs ys one.1 two apart.1)

with_value-append : (key : List ℕ) (value : Option (List ℕ)) (es fs : List Entry) → with_value key value (es ++ fs) ≡ with_value key value es ++ fs
with_value-append key None es fs = refl
with_value-append key (Some value) es fs = refl

pub entries_in-append : (xs ys : List Mark) → entries_in (xs ++ ys) ≡ entries_in xs ++ entries_in ys
entries_in-append [] ys = refl
entries_in-append (a ∷ xs) ys = ap (with_value a.key a.value) (entries_in-append xs ys) ∙ with_value-append a.key a.value (entries_in xs) (entries_in ys)

pub entries_in-items : (items : List Item) → entries_in (map mark_of items) ≡ map entry_of items
entries_in-items [] = refl
entries_in-items (i ∷ is) = ap (λ (es : List Entry). entry_of i ∷ es) (entries_in-items is)

-- what holds of each mark holds of each entry
pub every_entry : (P : List ℕ → Type 0) (marks : List Mark) → Every (λ m. P m.key) marks → Every (λ e. P e.0) (entries_in marks)
every_entry P [] h = tt
every_entry P (m ∷ ms) h = each m.key m.value (entries_in ms) h.0 (every_entry P ms h.1)
  where
    each : (key : List ℕ) (value : Option (List ℕ)) (es : List Entry) → P key → Every (λ e. P e.0) es → Every (λ e. P e.0) (with_value key value es)
    each key None es p all = all
    each key (Some value) es p all = (p, all)

-- and what holds of each mark that is an entry
pub every_entry_of : (P : List ℕ → Type 0) (marks : List Mark) → Every (λ m. IsSome m.value → P m.key) marks → Every (λ e. P e.0) (entries_in marks)
every_entry_of P [] h = tt
every_entry_of P (m ∷ ms) h = each m.key m.value (entries_in ms) h.0 (every_entry_of P ms h.1)
  where
    each : (key : List ℕ) (value : Option (List ℕ)) (es : List Entry) → (IsSome value → P key) → Every (λ e. P e.0) es → Every (λ e. P e.0) (with_value key value es)
    each key None es p all = all
    each key (Some value) es p all = (p refl, all)

-- what stands before a separator is below it
pub before_separator : (a : Mark) (key : List ℕ) → IsBefore a (separator key) → IsBelow a.key key
before_separator a key (inl below) = below
before_separator a key (inr same) = absurd (no same.2)
  where
    no : IsSome {T = List ℕ} None → ⊥
    no e = absurd (false≢true e)
