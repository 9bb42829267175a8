-- The values of keys in buckets of which each has only keys that belong there.
use Rattle.std.proofs.Common.{◌≡◌, ◌≢◌, ℕ, zero, suc, ◌<◌, Bool, true, false, if◌then◌else◌, List, [], ◌∷◌, ◌++◌, length, Option, Some, None, sym, ap, ◌∙◌, refl, arith, set, slice_get, inl, inr}
use Rattle.std.proofs.lemmas.Bool.{cases_eq}
use Rattle.std.proofs.lemmas.Option.{slice_get_within, slice_get-get_or}
use Rattle.std.specs.Str.{bytes_eq}
use Rattle.sg_space.proofs.InMemory.{slice_get-set_same, slice_get-set_other}
use Rattle.sg_space.proofs.Known.{same_some}
use Rattle.sg_bucket.specs.Bucket.{Bucket, entries_of}
use Rattle.sg_bucket.specs.Entry.{Entry, value_of, with_value}
use Rattle.sg_bucket.proofs.Values.{changed, same_bytes, other_bytes}
use Rattle.sg_linear.specs.Extent.{Shape}
use Rattle.sg_hash.specs.Table.{all_entries, home_of, AreHome}

-- a list behind one that has no value for the key, and one in front of such a list
behind_by : (key : List ℕ) (e : Entry) (es ys : List Entry) (b : Bool) → bytes_eq e.key key ≡ b → (value_of es key ≡ None → value_of (es ++ ys) key ≡ value_of ys key) → (if b then Some e.value else value_of es key) ≡ None → (if b then Some e.value else value_of (es ++ ys) key) ≡ value_of ys key
behind_by key e es ys true t rest h = absurd (cc)
behind_by key e es ys false t rest h = rest h

pub value_behind : (key : List ℕ) (xs ys : List Entry) → value_of xs key ≡ None → value_of (xs ++ ys) key ≡ value_of ys key
value_behind key [] ys h = refl
value_behind key (e ∷ es) ys h = behind_by key e es ys (bytes_eq e.key key) refl (value_behind key es ys) h

ahead_by : (key : List ℕ) (e : Entry) (es ys : List Entry) (b : Bool) → value_of (es ++ ys) key ≡ value_of es key → (if b then Some e.value else value_of (es ++ ys) key) ≡ (if b then Some e.value else value_of es key)
ahead_by key e es ys true rest = refl
ahead_by key e es ys false rest = rest

pub value_ahead : (key : List ℕ) (xs ys : List Entry) → value_of ys key ≡ None → value_of (xs ++ ys) key ≡ value_of xs key
value_ahead key [] ys h = h
value_ahead key (e ∷ es) ys h = ahead_by key e es ys (bytes_eq e.key key) (value_ahead key es ys h)

-- no bucket has a value for the key
pub value_nowhere : (key : List ℕ) (bs : List Bucket) → ((j : ℕ) (c : Bucket) → slice_get bs j ≡ Some c → value_of (entries_of c.parts) key ≡ None) → value_of (all_entries bs) key ≡ None
value_nowhere key [] h = refl
value_nowhere key (b ∷ bs) h = value_behind key (entries_of b.parts) (all_entries bs) (h 0 b refl) ∙ value_nowhere key bs (λ j. h (suc j))

-- one bucket alone may have one
pub value_one : (key : List ℕ) (bs : List Bucket) (i : ℕ) (b : Bucket) → slice_get bs i ≡ Some b → ((j : ℕ) (c : Bucket) → slice_get bs j ≡ Some c → j ≢ i → value_of (entries_of c.parts) key ≡ None) → value_of (all_entries bs) key ≡ value_of (entries_of b.parts) key
value_one key [] i b e h = absurd (cc)
value_one key (c ∷ bs) zero b e h =
    value_ahead key (entries_of c.parts) (all_entries bs) (value_nowhere key bs (λ j d is. h (suc j) d is (λ (z : suc j ≡ 0). omega arith)))
    ∙ ap (λ (x : Bucket). value_of (entries_of x.parts) key) (same_some _ _ e)
value_one key (c ∷ bs) (suc i) b e h =
    value_behind key (entries_of c.parts) (all_entries bs) (h 0 c refl (λ (z : 0 ≡ suc i). omega arith))
    ∙ value_one key bs i b e (λ j d is ne. h (suc j) d is (λ (z : suc j ≡ suc i). ne (omega arith)))

-- the value of a key is that in its own bucket
pub value_home : (shape : Shape) (bs : List Bucket) (key : List ℕ) (b : Bucket) → AreHome shape bs → slice_get bs (home_of shape key) ≡ Some b → value_of (all_entries bs) key ≡ value_of (entries_of b.parts) key
value_home shape bs key b home e = value_one key bs (home_of shape key) b e (λ j c is ne. home j c key is (λ (same : home_of shape key ≡ j). ne (sym same)))

-- one bucket's values have changed at a key that belongs there
pub home_set : (shape : Shape) (bs : List Bucket) (i : ℕ) (b c : Bucket) (key : List ℕ) (value : Option (List ℕ)) → AreHome shape bs → slice_get bs i ≡ Some b → home_of shape key ≡ i → value_of (entries_of c.parts) ≡ with_value (value_of (entries_of b.parts)) key value → AreHome shape (set bs i c)
home_set shape bs i b c key value home e at values j d other is ne = elim (cases_eq j i) [
  | inl same ↦
      let here : d ≡ c = same_some d c (sym is ∙ (ap (slice_get (set bs i c)) same ∙ slice_get-set_same bs i c (slice_get_within bs i b e))) in
      let no_key : bytes_eq key other ≡ false = other_bytes key other (λ (k : key ≡ other). ne (sym (ap (home_of shape) k) ∙ (at ∙ sym same))) in
      ap (λ (x : Bucket). value_of (entries_of x.parts) other) here
      ∙ (ap (λ (f : List ℕ → Option (List ℕ)). f other) values
      ∙ (ap (λ (t : Bool). if t then value else value_of (entries_of b.parts) other) no_key ∙ home i b other e (λ (k : home_of shape other ≡ i). ne (k ∙ sym same))))
  | inr differs ↦ home j d other (sym (slice_get-set_other bs i j c differs) ∙ is) ne
]

-- the value of a key that belongs to one of the buckets, after that
value_set_at : (shape : Shape) (bs : List Bucket) (i : ℕ) (b c : Bucket) → AreHome shape bs → AreHome shape (set bs i c) → slice_get bs i ≡ Some b → (other : List ℕ) → home_of shape other < length bs → (home_of shape other ≡ i → value_of (entries_of c.parts) other ≡ value_of (entries_of b.parts) other) → value_of (all_entries (set bs i c)) other ≡ value_of (all_entries bs) other
value_set_at shape bs i b c home after e other there same = elim (cases_eq (home_of shape other) i) [
  | inl at ↦
      value_home shape (set bs i c) other c after (ap (slice_get (set bs i c)) at ∙ slice_get-set_same bs i c (slice_get_within bs i b e))
      ∙ (same at ∙ sym (value_home shape bs other b home (ap (slice_get bs) at ∙ e)))
  | inr ne ↦
      let d = one there in
      value_home shape (set bs i c) other d.0 after (slice_get-set_other bs i (home_of shape other) c ne ∙ d.1) ∙ sym (value_home shape bs other d.0 home d.1)
]
  where
    one : home_of shape other < length bs → (d : Bucket) × (slice_get bs (home_of shape other) ≡ Some d)
    one below = (_, slice_get-get_or bs (home_of shape other) b below)

pub value_set : (shape : Shape) (bs : List Bucket) (i : ℕ) (b c : Bucket) (key : List ℕ) (value : Option (List ℕ)) → ((k : List ℕ) → home_of shape k < length bs) → AreHome shape bs → slice_get bs i ≡ Some b → home_of shape key ≡ i → value_of (entries_of c.parts) ≡ with_value (value_of (entries_of b.parts)) key value → value_of (all_entries (set bs i c)) ≡ with_value (value_of (all_entries bs)) key value
value_set shape bs i b c key value there home e at values =
    changed key value (value_of (all_entries bs)) (value_of (all_entries (set bs i c)))
    (value_home shape (set bs i c) key c after (ap (slice_get (set bs i c)) at ∙ slice_get-set_same bs i c (slice_get_within bs i b e)) ∙ (ap (λ (f : List ℕ → Option (List ℕ)). f key) values ∙ ap (λ (t : Bool). if t then value else value_of (entries_of b.parts) key) (same_bytes key)))
    (λ other ne. value_set_at shape bs i b c home after e other (there other) (λ h. ap (λ (f : List ℕ → Option (List ℕ)). f other) values ∙ ap (λ (t : Bool). if t then value else value_of (entries_of b.parts) other) (other_bytes key other ne)))
  where
    after : AreHome shape (set bs i c)
    after = home_set shape bs i b c key value home e at values
