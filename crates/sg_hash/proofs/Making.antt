-- A table is made.
use Rattle.std.proofs.Common.{◌≡◌, ◌≢◌, ℕ, zero, suc, ◌<◌, ◌⊎◌, ◌^◌, List, [], ◌∷◌, length, Option, Some, None, sym, ap, subst, ◌∙◌, refl, arith, slice_get, inl, inr}
use Rattle.byteorder.specs.Endian.{little_bytes}
use Rattle.sg_base.specs.Sheet.{Sheet}
use Rattle.sg_array.specs.Array.{Array, IsArray}
use Rattle.sg_array.specs.Array as array
use Rattle.sg_array.specs.Calls.{IsRoomy, CanPush, IsPushed, empty_array}
use Rattle.sg_array.specs.Calls as array_calls
use Rattle.sg_array.proofs.Growth.{owns_there}
use Rattle.sg_array.proofs.Sides.{array_stays}
use Rattle.sg_array.proofs.Wanting.{leaves_wanted, index_wanted}
use Rattle.sg_bucket.specs.Bucket.{Bucket, IsBucket, OwnsPage, entries_of}
use Rattle.sg_bucket.specs.Entry.{value_of}
use Rattle.sg_bucket.specs.Calls.{empty_bucket}
use Rattle.sg_bucket.specs.Calls as bucket_calls
use Rattle.sg_space.specs.Units.{Units, IsTaken}
use Rattle.sg_space.specs.View.{Space, View, Keeps, MayFill}
use Rattle.sg_space.proofs.Known.{same_some}
use Rattle.sg_hash.specs.Table.{HashTable, Numbers, IsInBuckets, first_page, name_of, root_cell, root_sheet}
use Rattle.sg_hash.specs.Calls.{IsMade, MayGrow, HasFive}
use Rattle.sg_hash.specs.Steps.{IsStarted}
use Rattle.sg_hash.proofs.Owning.{bucket_stays}

-- a page that is there isn't one that was free
not_free : (at : ℕ → Option Sheet) {p q : ℕ} → at q ≡ None → at p ≢ None → p ≢ q
not_free at none some e = some (ap at e ∙ none)

-- an array of one item of 4 bytes has three pages
three_pages : {at : ℕ → Option Sheet} {root : ℕ} {a : Array} → IsArray at root a → a.size ≡ 4 → a.peak ≡ 1 → array.page_count a ≡ 3
three_pages {a = a} h size peak =
    let leaves : length a.leaves ≡ 1 = leaves_wanted {size = 4} {peak = 1} {leaves = 1} h (sym size) (sym peak) refl in
    let index : length a.index ≡ 1 = index_wanted {leaves = 1} {index = 1} h leaves refl in
    omega arith

-- the directory may grow when it was just made and another page was taken
pub push_ready : {u v w : View} {directory first size : ℕ} → size ≡ 4 → HasFive u → u.Told → array_calls.Made u v directory 4 → (v.Told → u.Told) → bucket_calls.Made v w first → CanPush w directory size (empty_array 4)
push_ready {u} {v} {w} long five told made back b =
    let m = made.done told in
    let k = made.keeps told in
    let v_told = k.told told in
    let took = b.pages v_told in
    let five_free = five.free in
    let one = m.pages.exactly in
    let two = took.free in
    record {
      fits = long;
      few = omega arith;
      roomy = record {
        first = λ n few. b.keeps.may_have _ n (made.may_fill told n (omega arith));
        index = λ j p e. absurd (cc);
        leaf = λ d p e. absurd (cc);
      };
      free = λ e. omega arith;
      may_take = λ e. b.keeps.may_take (k.may_take five.may_take);
    }

-- the directory that was made still stands when another page was taken
pub array_taken : {old mid : Units Sheet} {directory first : ℕ} {a : Array} {P : Sheet → Type 0} → IsArray old.at directory a → IsTaken old mid first P → IsArray mid.at directory a
array_taken {old} {first = first} h took = array_stays h (λ p o. took.others p (not_free old.at took.was_free (λ none. owns_there h.built p o none)))

owns_empty : (directory p : ℕ) → array.Owns directory (empty_array 4) p → p ≡ directory
owns_empty directory p (inl is) = is
owns_empty directory p (inr (inl (j, e))) = absurd (cc)
owns_empty directory p (inr (inr (d, e))) = absurd (cc)

pub started : {s0 s1 s2 s3 : Space} {directory first : ℕ} {a : Array} → array_calls.IsMade s0 s1 directory 4 → IsTaken s1.pages s2.pages first (λ _. Unit {0}) → IsBucket s2.pages.at first (empty_bucket first) → s2.bands ≡ s1.bands → first < 2 ^ 32 → array_calls.Turns s2 s3 directory (empty_array 4) a → a.items ≡ little_bytes 4 first ∷ [] → a.size ≡ 4 → a.peak ≡ 1 → IsStarted s0 s3 directory first a
started {s0} {s1} {s2} {s3} {directory} {first} {a} m took b bands fit t items size peak =
    let three = three_pages t.array size peak in
    record {
      stands = t.array;
      items = items;
      size = size;
      peak = peak;
      bucket = bucket_stays b (λ p o. kept p (subst (λ (q : ℕ). array.Owns directory (empty_array 4) q → ⊥) (sym (only p o)) first_other) (λ none. some (ap s2.pages.at (sym (only p o)) ∙ none)));
      fit = fit;
      pages = record {
        others = λ p no no'. t.pages.others p (λ o. no' (inl (inl (owns_empty directory p o)))) (λ o. no' (inl o)) ∙ (took.others p (λ e. no' (inr e)) ∙ m.pages.others p (λ x. x) (λ o. no' (inl (inl (owns_empty directory p o)))));
        taken = λ p o. elim o as (λ _. ⊥ ⊎ (s0.pages.at p ≡ None)) [
          | inl x ↦ elim (t.pages.taken p x) as (λ _. ⊥ ⊎ (s0.pages.at p ≡ None)) [
            | inl before ↦ m.pages.taken p before
            | inr none ↦ inr (free_before p none)
          ]
          | inr e ↦ inr (ap s0.pages.at e ∙ (sym (m.pages.others first (λ x. x) (λ o. owns_there m.array.built first o took.was_free)) ∙ took.was_free))
        ];
        given = λ p none. absurd none;
        exactly = let x = m.pages.exactly in let y = took.free in let z = t.pages.exactly in omega arith;
        all = t.pages.all ∙ (took.count ∙ m.pages.all);
      };
      count = three;
      bands = t.bands ∙ (bands ∙ m.bands);
    }
  where
    some : s2.pages.at first ≢ None
    some none = let is = took.fresh.is in (cc)

    only : (p : ℕ) → OwnsPage (empty_bucket first) p → p ≡ first
    only p (zero, e) = sym (same_some _ _ e)
    only p (suc i, e) = absurd (cc)

    standing : IsArray s2.pages.at directory (empty_array 4)
    standing = array_taken m.array took

    first_other : array.Owns directory (empty_array 4) first → ⊥
    first_other o = owns_there m.array.built first o took.was_free

    kept : (p : ℕ) → (array.Owns directory (empty_array 4) p → ⊥) → s2.pages.at p ≢ None → s3.pages.at p ≡ s2.pages.at p
    kept p apart some_there = t.pages.others p apart (λ mine. elim (t.pages.taken p mine) as (λ _. ⊥) [ inl before ↦ apart before | inr free ↦ some_there free ])

    free_before : (p : ℕ) → s2.pages.at p ≡ None → s0.pages.at p ≡ None
    free_before p none =
        let at_one : s1.pages.at p ≡ None = sym (took.others p (λ e. some (ap s2.pages.at (sym e) ∙ none))) ∙ none in
        sym (m.pages.others p (λ x. x) (λ o. owns_there m.array.built p o at_one)) ∙ at_one

-- the numbers of a table without entries
abbrev pub no_numbers : Numbers
no_numbers = record { shape = record { level = 0; split = 0 }; entries = 0; bytes = 0; peak = 0 }

abbrev pub first_table : ℕ → Array → ℕ → HashTable
first_table directory names first = record { shape = record { level = 0; split = 0 }; peak = 0; directory = directory; names = names; buckets = empty_bucket first ∷ [] }

in_first : (first p : ℕ) → IsInBuckets (empty_bucket first ∷ []) p → p ≡ first
in_first first p o = go o.index o.bucket o.is o.owns
  where
    page : (i : ℕ) → slice_get (first ∷ []) i ≡ Some p → p ≡ first
    page zero e = sym (same_some _ _ e)
    page (suc i) e = absurd (cc)

    go : (i : ℕ) (b : Bucket) → slice_get (empty_bucket first ∷ []) i ≡ Some b → OwnsPage b p → p ≡ first
    go zero b e owns = subst (λ (c : Bucket). OwnsPage c p → p ≡ first) (same_some _ _ e) (λ o. page o.0 o.1) owns
    go (suc i) b e owns = absurd (cc)

pub made : {old mid new : Space} {root directory first : ℕ} {names : Array} {n : Numbers} → n ≡ no_numbers → IsStarted old mid directory first names → IsTaken mid.pages new.pages root (λ sheet. sheet ≡ root_sheet (root_cell n) directory) → new.bands ≡ mid.bands → IsMade old new root (first_table directory names first)
made {old} {mid} {new} {root} {directory} {first} {names} {n} numbers s took bands =
    let three = s.count in
    record {
      table = record {
        built = record {
          trunk = record {
            first = took.fresh.is ∙ (ap Some took.fresh.has ∙ ap (λ (m : Numbers). Some (root_sheet (root_cell m) directory)) numbers);
            range = record { level = omega arith; split = omega arith; entries = omega arith; bytes = omega arith; peak = omega arith };
            names = array_stays s.stands (λ p o. took.others p (not_root p (λ none. owns_there s.stands.built p o none)));
            size = s.size;
            named = named;
            fit = λ i b e. subst (λ (c : Bucket). first_page c < 2 ^ 32) (one_bucket i b e) s.fit;
          };
          bucket = λ i b e. subst (λ (c : Bucket). IsBucket new.pages.at (first_page c) c) (one_bucket i b e) (bucket_stays s.bucket (λ p o. took.others p (not_root p (bucket_some p o))));
          apart = λ i j b c p e f o o'. one_index i b e ∙ sym (one_index j c f);
        };
        many = refl;
        home = λ i b key e ne. subst (λ (c : Bucket). value_of (entries_of c.parts) key ≡ None) (one_bucket i b e) refl;
        grown = omega arith;
        longest = s.peak ∙ sym (ap (λ (xs : List (List ℕ)). length xs) s.items);
      };
      none = refl;
      shape = refl;
      peak = refl;
      pages = record {
        others = λ p no no'. took.others p (λ e. no' (inl e)) ∙ s.pages.others p no (λ o. elim o as (λ _. ⊥) [ inl a ↦ no' (inr (inl a)) | inr e ↦ no' (inr (inr (record { index = 0; bucket = empty_bucket first; is = refl; owns = (0, ap Some (sym e)) }))) ]);
        taken = λ p o. elim o as (λ _. ⊥ ⊎ (old.pages.at p ≡ None)) [
          | inl e ↦ inr (ap old.pages.at e ∙ root_free)
          | inr r ↦ elim r as (λ _. ⊥ ⊎ (old.pages.at p ≡ None)) [
            | inl a ↦ s.pages.taken p (inl a)
            | inr b ↦ s.pages.taken p (inr (in_first first p b))
          ]
        ];
        given = λ p none. absurd none;
        exactly = let x = s.pages.exactly in let y = took.free in omega arith;
        all = took.count ∙ s.pages.all;
      };
      count = omega arith;
      bands = bands ∙ s.bands;
    }
  where
    not_root : (p : ℕ) → mid.pages.at p ≢ None → p ≢ root
    not_root p some e = some (ap mid.pages.at e ∙ took.was_free)

    one_index : (i : ℕ) (b : Bucket) → slice_get (empty_bucket first ∷ []) i ≡ Some b → i ≡ 0
    one_index zero b e = refl
    one_index (suc i) b e = absurd (cc)

    one_bucket : (i : ℕ) (b : Bucket) → slice_get (empty_bucket first ∷ []) i ≡ Some b → empty_bucket first ≡ b
    one_bucket zero b e = same_some _ _ e
    one_bucket (suc i) b e = absurd (cc)

    bucket_some : (p : ℕ) → OwnsPage (empty_bucket first) p → mid.pages.at p ≢ None
    bucket_some p o none = let is = (s.bucket.linked.part o.0 p o.1).is in (cc)

    named : (i : ℕ) → slice_get names.items i ≡ name_of (slice_get (empty_bucket first ∷ []) i)
    named zero = ap (λ (xs : List (List ℕ)). slice_get xs 0) s.items
    named (suc i) = ap (λ (xs : List (List ℕ)). slice_get xs (suc i)) s.items

    root_free : old.pages.at root ≡ None
    root_free = sym (s.pages.others root (λ x. x) (λ o. elim o as (λ _. ⊥) [ inl a ↦ owns_there s.stands.built root a took.was_free | inr e ↦ bucket_some root (0, ap Some (sym e)) took.was_free ])) ∙ took.was_free

pub may_grow : {v w : View} {directory first : ℕ} {names : Array} → Keeps v w → IsRoomy v directory names → MayFill v first 1018 → MayGrow w (first_table directory names first)
may_grow {v} {w} {directory} {first} {names} k roomy fill = record {
  names = record {
    first = λ n few. k.may_have _ n (roomy.first n few);
    index = λ j p e n few. k.may_have _ n (roomy.index j p e n few);
    leaf = λ d p e n few. k.may_have _ n (roomy.leaf d p e n few);
  };
  buckets = λ p o n few. subst (λ (q : ℕ). w.MayHave q n) (sym (in_first first p o)) (k.may_have _ n (fill n few));
}
