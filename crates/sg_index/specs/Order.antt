-- The order of keys, and lists of pairs of a key and a value.
use Rattle.std.specs.Prelude.{◌≡◌, ℕ, Bool, not, List, [], ◌∷◌, ◌++◌, Option, find, filter, if◌then◌else◌}
use Rattle.std.specs.Ordering.{nat_cmp, is_lt, is_gt, is_eq}
use Rattle.std.specs.Cmp.Lexicographic.{slice_cmp}
use Rattle.std.specs.Option.{option_map}
use Rattle.std.specs.List.{AllByRecursion}
use Rattle.std.specs.declared.cmp.Ordering.{Ordering}
use Rattle.std.specs.declared.cmp.Ordering.TheVariants.{Less}

-- keys are compared byte by byte, and a front of a key comes before it
abbrev pub key_cmp : List ℕ → List ℕ → Ordering
key_cmp = slice_cmp nat_cmp

abbrev pub IsBelow : List ℕ → List ℕ → Type 0
IsBelow a b = key_cmp a b ≡ Less

-- a key with its value
abbrev pub Entry : Type 0
Entry = List ℕ × List ℕ

-- the keys rise
abbrev pub AreRising : List Entry → Type 0
AreRising [] = Unit {0}
AreRising (e ∷ es) = AllByRecursion (λ f. IsBelow e.0 f.0) es × AreRising es

-- the value of a key
unfoldable pub value_in : List Entry → List ℕ → Option (List ℕ)
value_in entries key = option_map (λ e. e.1) (find (λ e. is_eq (key_cmp e.0 key)) entries)

-- the entries with this one, in place of the one that had its key
unfoldable pub with_entry : List Entry → List ℕ → List ℕ → List Entry
with_entry entries key value = filter (λ e. is_lt (key_cmp e.0 key)) entries ++ (key, value) ∷ filter (λ e. is_gt (key_cmp e.0 key)) entries

-- the entries but the one with this key
unfoldable pub without_key : List Entry → List ℕ → List Entry
without_key entries key = filter (λ e. is_lt (key_cmp e.0 key)) entries ++ filter (λ e. is_gt (key_cmp e.0 key)) entries

-- the key is at or above another one, or above it
abbrev pub is_from : List ℕ → Bool → List ℕ → Bool
is_from from strict key = if strict then is_gt (key_cmp key from) else not (is_lt (key_cmp key from))

-- the first entry with a key at or above this one, or above it
unfoldable pub next_in : List Entry → List ℕ → Bool → Option Entry
next_in entries from strict = find (λ e. is_from from strict e.0) entries
