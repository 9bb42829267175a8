-- The flags that a row of bits is.
use Rattle.std.proofs.Common.{◌≡◌, ◌≢◌, ◌↔◌, ◌⊎◌, ℕ, zero, suc, ◌+◌, ◌-◌, ◌*◌, min, ◌/◌, ◌<◌, ◌≤◌, ◌==◌, ◌^◌, Bool, true, false, not, cond, List, [], ◌∷◌, length, get_or, set, take, drop, ◌++◌, take_all, replicate, slice_get, slice_index, map, Some, None, refl, sym, ap, subst, ◌∙◌, inl, inr, arith}
use Rattle.std.specs.Int.{bit_at}
use Rattle.std.specs.List.{range_with_len}
use Rattle.std.proofs.lemmas.Bool.{cases_eq, cases_lt}
use Rattle.std.proofs.lemmas.Bool.Decides.{nat_tests}
use Rattle.std.proofs.lemmas.List.{ext_get_or, get_or-set_same, get_or-set_other, length-set, take-append-le}
use Rattle.std.proofs.lemmas.List.FromFn.{length-map-range_with_len, get_or-map-range_with_len}
use Rattle.std.proofs.lemmas.List.Sums.{sum_by-cons}
use Rattle.std.proofs.lemmas.Option.{slice_get-get_or, slice_get_within, get_or_from_slice_get}
use Rattle.sg_alloc.specs.Flags.{free_of, IsLeastFree}
use Rattle.sg_alloc.specs.Rows.{flag_at, flags_of, IsKept, HasClear, IsFirstClear}
use Rattle.sg_bits.specs.Bits.{HasBit, IsSet}
use Rattle.sg_alloc.proofs.Summaries.{zero_words, zeros_long, zeros_clear}
use Rattle.sg_alloc.proofs.Counted.{one_less, one_more, more_fits}

pub flag_true : (words : List ℕ) (k : ℕ) → IsSet words k → flag_at words k ≡ true
unfolding IsSet HasBit
flag_true words k h = ap (λ (b : ℕ). b == 1) h

pub flag_false : (words : List ℕ) (k : ℕ) → ¬ IsSet words k → flag_at words k ≡ false
unfolding IsSet HasBit
flag_false words k h = grind (arith, nat_tests, h)

pub set_of : (words : List ℕ) (k : ℕ) → flag_at words k ≡ true → IsSet words k
unfolding IsSet HasBit
set_of words k h = grind (arith, nat_tests, h)

pub clear_of : (words : List ℕ) (k : ℕ) → flag_at words k ≡ false → ¬ IsSet words k
clear_of words k h s = let is = flag_true words k s in cc

pub length-flags_of : (words : List ℕ) (count : ℕ) → length (flags_of words count) ≡ count
unfolding flags_of
length-flags_of words count = length-map-range_with_len (flag_at words) 0 count

pub get_or-flags_of : (words : List ℕ) (count k : ℕ) → k < count → get_or (flags_of words count) k false ≡ flag_at words k
unfolding flags_of
get_or-flags_of words count k below = get_or-map-range_with_len (flag_at words) 0 count k k false below (omega arith)

pub flags_at : (words : List ℕ) (count k : ℕ) → k < count → slice_get (flags_of words count) k ≡ Some (flag_at words k)
flags_at words count k below = slice_get-get_or (flags_of words count) k false (omega (arith, length-flags_of words count)) ∙ ap (λ (b : Bool). Some b) (get_or-flags_of words count k below)

same_some : (a b : Bool) → Some a ≡ Some b → a ≡ b
same_some a b e = cc

-- the flag that a list has
pub record IsFlag (words : List ℕ) (count k : ℕ) (b : Bool) : Type 0 where
  pub below : k < count
  pub is : flag_at words k ≡ b

pub flag_is : (words : List ℕ) (count k : ℕ) (b : Bool) → slice_get (flags_of words count) k ≡ Some b → IsFlag words count k b
flag_is words count k b e =
    let within : k < length (flags_of words count) = slice_get_within (flags_of words count) k b e in
    let below : k < count = omega (arith, length-flags_of words count) in
    record { below = below; is = same_some (flag_at words k) b (sym (flags_at words count k below) ∙ e) }

-- one flag of another value
pub flags_set : (words new : List ℕ) (count n : ℕ) (b : Bool) → n < count → flag_at new n ≡ b → ((k : ℕ) → k ≢ n → flag_at new k ≡ flag_at words k) → flags_of new count ≡ set (flags_of words count) n b
flags_set words new count n b below here others =
    ext_get_or false (flags_of new count) (set (flags_of words count) n b) (length-flags_of new count ∙ sym (length-set (flags_of words count) n b ∙ length-flags_of words count))
    (λ k h. let k_below : k < count = omega (arith, length-flags_of new count) in
    get_or-flags_of new count k k_below ∙ (elim (cases_eq k n) as (λ _. flag_at new k ≡ get_or (set (flags_of words count) n b) k false) [
      | inl same ↦ ap (flag_at new) same ∙ (here ∙ sym (ap (λ (i : ℕ). get_or (set (flags_of words count) n b) i false) same ∙ get_or-set_same (flags_of words count) n b false (omega (arith, length-flags_of words count))))
      | inr other ↦ others k other ∙ sym (get_or-set_other (flags_of words count) n k b false other ∙ get_or-flags_of words count k k_below)
    ]))

same_flag : (words new : List ℕ) (k : ℕ) → (IsSet new k → IsSet words k) → (IsSet words k → IsSet new k) → flag_at new k ≡ flag_at words k
same_flag words new k f g = by (flag_at words k) refl
  where
    by : (b : Bool) → flag_at words k ≡ b → flag_at new k ≡ b
    by true e = flag_true new k (g (set_of words k e))
    by false e = flag_false new k (λ s. clear_of words k e (f s))

-- a row after one bit more
pub record IsMarked (words new : List ℕ) (count free n : ℕ) : Type 0 where
  pub some : 1 ≤ free
  pub kept : IsKept new count (free - 1)
  pub flags : flags_of new count ≡ set (flags_of words count) n true

pub marked : (words new : List ℕ) (count free n : ℕ) → IsKept words count free → slice_get (flags_of words count) n ≡ Some false → length new ≡ length words → ((k : ℕ) → IsSet new k ↔ (IsSet words k ⊎ (k ≡ n))) → IsMarked words new count free n
marked words new count free n h e long set_is =
    let flag = flag_is words count n false e in
    let flags : flags_of new count ≡ set (flags_of words count) n true = flags_set words new count n true flag.below (flag_true new n ((set_is n).1 (inr refl)))
    (λ k ne. same_flag words new k (λ s. elim ((set_is k).0 s) [ inl was ↦ was | inr here ↦ absurd (ne here) ]) (λ s. (set_is k).1 (inl s))) in
    let one = one_less (flags_of words count) n e in
    let counted = h.counted in
    let now : free_of (flags_of new count) ≡ free_of (set (flags_of words count) n true) = ap free_of flags in
    let fits = h.fits in
    record { some = omega arith; kept = record { small = h.small; fits = omega arith; counted = omega arith }; flags = flags }

-- a row with one bit less
pub record IsUnmarked (words new : List ℕ) (count free n : ℕ) : Type 0 where
  pub few : free + 1 ≤ count
  pub kept : IsKept new count (free + 1)
  pub flags : flags_of new count ≡ set (flags_of words count) n false

pub unmarked : (words new : List ℕ) (count free n : ℕ) → IsKept words count free → slice_get (flags_of words count) n ≡ Some true → length new ≡ length words → ((k : ℕ) → IsSet new k ↔ (IsSet words k × (k ≢ n))) → IsUnmarked words new count free n
unmarked words new count free n h e long clear_is =
    let flag = flag_is words count n true e in
    let flags : flags_of new count ≡ set (flags_of words count) n false = flags_set words new count n false flag.below (flag_false new n (λ s. ((clear_is n).0 s).1 refl))
    (λ k ne. same_flag words new k (λ s. ((clear_is k).0 s).0) (λ s. (clear_is k).1 (s, ne))) in
    let one = one_more (flags_of words count) n e in
    let most = more_fits (flags_of words count) n e in
    let size = length-flags_of words count in
    let counted = h.counted in
    let now : free_of (flags_of new count) ≡ free_of (set (flags_of words count) n false) = ap free_of flags in
    let fits = h.fits in
    record { few = omega arith; kept = record { small = h.small; fits = omega arith; counted = omega arith }; flags = flags }

-- where one is free, a bit isn't set
some_free : (taken : List Bool) → 0 < free_of taken → (n : ℕ) × (slice_get taken n ≡ Some false)
some_free [] h = absurd (omega arith)
some_free (false ∷ xs) h = (zero, refl)
some_free (true ∷ xs) h =
    let sum : free_of (true ∷ xs) ≡ 0 + free_of xs = sum_by-cons (λ (b : Bool). cond {A = ℕ} (not b) 1 0) true xs in
    let rest = some_free xs (omega arith) in
    (suc rest.0, rest.1)

-- a bit is clear where one is free
pub clear_there : (words : List ℕ) (count free : ℕ) → IsKept words count free → 0 < free_of (flags_of words count) → HasClear words
clear_there words count free h some =
    let one = some_free (flags_of words count) some in
    let flag = flag_is words count one.0 false one.1 in
    let below = flag.below in
    let fits = h.fits in
    (one.0, omega arith, clear_of words one.0 flag.is)

-- and the first such bit is the least free one
pub record IsFound (words : List ℕ) (count n : ℕ) : Type 0 where
  pub less : n < count
  pub least : IsLeastFree (flags_of words count) n

pub found : (words : List ℕ) (count n : ℕ) → 0 < free_of (flags_of words count) → IsFirstClear words n → IsFound words count n
found words count n some h =
    let one = some_free (flags_of words count) some in
    let flag = flag_is words count one.0 false one.1 in
    let not_past : n ≤ one.0 = elim (cases_lt one.0 n) as (λ _. n ≤ one.0) [ inl past ↦ absurd (clear_of words one.0 flag.is (h.below one.0 past)) | inr le ↦ le ] in
    let within : one.0 < count = flag.below in
    let less : n < count = omega arith in
    record {
      less = less;
      least = record {
        free = flags_at words count n less ∙ ap (λ (b : Bool). Some b) (flag_false words n h.clear);
        below = λ k lt. flags_at words count k (omega arith) ∙ ap (λ (b : Bool). Some b) (flag_true words k (h.below k lt));
      };
    }

-- a new row
replicate_at : (n k : ℕ) → k < n → get_or (replicate n false) k false ≡ false
replicate_at zero k h = absurd (omega arith)
replicate_at (suc n) zero h = refl
replicate_at (suc n) (suc k) h = replicate_at n k (omega arith)

length-free : (n : ℕ) → length (replicate n false) ≡ n
length-free zero = refl
length-free (suc n) = let rest = length-free n in omega arith

all_free : (n : ℕ) → free_of (replicate n false) ≡ n
all_free zero = refl
all_free (suc n) =
    let rest = all_free n in
    let sum : free_of (false ∷ replicate n false) ≡ 1 + free_of (replicate n false) = sum_by-cons (λ (b : Bool). cond {A = ℕ} (not b) 1 0) false (replicate n false) in
    sum ∙ omega arith

pub record IsNewRow (words : List ℕ) (count : ℕ) : Type 0 where
  pub kept : IsKept words count count
  pub flags : flags_of words count ≡ replicate count false

pub new_row : (words : List ℕ) (size count : ℕ) → words ≡ zero_words size → count < 2 ^ 32 → count ≤ 64 * size → IsNewRow words count
new_row words size count zeros small fits =
    let none : (k : ℕ) → ¬ IsSet words k = λ k. subst (λ (xs : List ℕ). ¬ IsSet xs k) (sym zeros) (zeros_clear size k) in
    let flags : flags_of words count ≡ replicate count false = ext_get_or false (flags_of words count) (replicate count false) (length-flags_of words count ∙ sym (length-free count))
    (λ k h. let below : k < count = omega (arith, length-flags_of words count) in
    get_or-flags_of words count k below ∙ (flag_false words k (none k) ∙ sym (replicate_at count k below))) in
    let long : length words ≡ size = ap length zeros ∙ zeros_long size in
    record { kept = record { small = small; fits = omega arith; counted = sym (ap free_of flags ∙ all_free count) }; flags = flags }

-- the flag of a bit that is read
pub get_is : (words : List ℕ) (count n : ℕ) (b : Bool) → n < count → ((b ≡ true) ↔ IsSet words n) → Some b ≡ slice_get (flags_of words count) n
get_is words count n b below is = ap (λ (x : Bool). Some x) (by b refl) ∙ sym (flags_at words count n below)
  where
    differ : false ≡ true → ⊥
    differ e = cc

    by : (x : Bool) → b ≡ x → b ≡ flag_at words n
    by true e = e ∙ sym (flag_true words n (is.0 e))
    by false e = e ∙ sym (flag_false words n (λ s. differ (sym e ∙ is.1 s)))
