-- The text of a header, as it is written and as it is read.
use Rattle.std.proofs.Common.{◌≡◌, ◌≢◌, ⊎_elim, ◌<◌, ◌≤◌, ◌+◌, ◌-◌, ◌*◌, ℕ, zero, suc, List, [], ◌∷◌, ◌++◌, length, take, get_or, sym, ◌∙◌, ap, subst, arith, add-zero, add-one, set, get_or-take}
use Rattle.std.proofs.lemmas.List.{length-take-le}
use Rattle.std.proofs.Math.Seq.{take-suc, take-suc-set, get_or-append_right}
use Rattle.std.proofs.Math.ListN.{get_or-append}
use Rattle.std.proofs.lemmas.Bool.{cases_lt}
use Rattle.byteorder.specs.Endian.{little_number}
use Rattle.sg_disk.specs.Disk.{Bytes, window}
use Rattle.sg_disk.specs.Memory.{bytes_of}
use Rattle.sg_gate.specs.Batch.{numbers_from, count_at, number_at, numbers_at, IsBatch, IsFit}
use Rattle.sg_gate.proofs.Windows.{window_shift}
use Rattle.sg_gate.proofs.Over.{numbers_agree_from, numbers_more, numbers_are}

-- A text of a header, one number longer.
module _ (text sub longer ns : List ℕ) (k n m : ℕ) (lt : k < length ns) (room : 4 + 4 * length ns ≤ length text) (is : get_or ns k 0 ≡ n) (spelled : little_number 4 sub ≡ n) (wide : 8 + 4 * k ≤ m)
    (made : take m longer ≡ take (4 + 4 * k) text ++ sub) where
  front_size : length (take (4 + 4 * k) text) ≡ 4 + 4 * k
  front_size = length-take-le (4 + 4 * k) text (omega arith)

  there : (i : ℕ) → i < 8 + 4 * k → bytes_of longer i ≡ bytes_of (take (4 + 4 * k) text ++ sub) i
  there i low = sym (get_or-take m longer i 0 (omega arith)) ∙ ap (λ (l : List ℕ). bytes_of l i) made

  kept : (i : ℕ) → i < 4 + 4 * k → bytes_of longer i ≡ bytes_of text i
  kept i low = there i (omega arith) ∙ get_or-append (take (4 + 4 * k) text) sub 0 i (let size = front_size in omega arith) ∙ get_or-take (4 + 4 * k) text i 0 low

  added : (j : ℕ) → j < 4 → bytes_of longer (4 + 4 * k + j) ≡ bytes_of sub (0 + j)
  added j low =
      let size = front_size in
      let place : 4 + 4 * k + j - length (take (4 + 4 * k) text) ≡ 0 + j = omega arith in
      there (4 + 4 * k + j) (omega arith) ∙ get_or-append_right (take (4 + 4 * k) text) sub (4 + 4 * k + j) 0 (omega arith) ∙ ap (bytes_of sub) place

  pub longer_count : little_number 4 (window (bytes_of text) 0 4) ≡ length ns → little_number 4 (window (bytes_of longer) 0 4) ≡ length ns
  longer_count count = ap (little_number 4) (window_shift (bytes_of longer) (bytes_of text) 0 0 4 (λ j low. kept (0 + j) (omega arith))) ∙ count

  longer_next : numbers_from (bytes_of text) 4 k ≡ take k ns → numbers_from (bytes_of longer) 4 (suc k) ≡ take (suc k) ns
  longer_next so_far =
      let number : little_number 4 (window (bytes_of longer) (4 + 4 * k) 4) ≡ get_or ns k 0 = ap (little_number 4) (window_shift (bytes_of longer) (bytes_of sub) (4 + 4 * k) 0 4 added) ∙ spelled ∙ sym is in
      numbers_more (bytes_of longer) 4 k
      ∙ ap (λ (l : List ℕ). l ++ little_number 4 (window (bytes_of longer) (4 + 4 * k) 4) ∷ []) (numbers_agree_from (bytes_of longer) (bytes_of text) 4 4 k (λ j low. kept (4 + j) (omega arith)) ∙ so_far)
      ∙ ap (λ (m : ℕ). take k ns ++ m ∷ []) number ∙ sym (take-suc ns k 0 lt)

  pub longer_numbers : numbers_from (bytes_of text) 4 k ≡ take k ns → numbers_from (bytes_of longer) 4 (k + 1) ≡ take (k + 1) ns
  longer_numbers so_far = subst (λ (j : ℕ). numbers_from (bytes_of longer) 4 j ≡ take j ns) (sym (add-one k)) (longer_next so_far)

pub number_there : (f : Bytes) (at m k : ℕ) → k < m → get_or (numbers_from f at m) k 0 ≡ little_number 4 (window f (at + 4 * k) 4)
number_there f at zero k lt = absurd (omega arith)
number_there f at (suc m) zero lt = ap (λ (a : ℕ). little_number 4 (window f a 4)) (sym (add-zero at))
number_there f at (suc m) (suc k) lt =
    let place : at + 4 + 4 * k ≡ at + 4 * suc k = omega arith in
    number_there f (at + 4) m k (omega arith) ∙ ap (λ (a : ℕ). little_number 4 (window f a 4)) place

pub number_listed : (f : Bytes) (at k : ℕ) → k < count_at f at → get_or (numbers_at f at) k 0 ≡ number_at f at k
unfolding numbers_at
number_listed f at k lt = number_there f (at + 4) (count_at f at) k lt

-- Numbers that are read one by one: k of them are here, and all are fit.
module _ (pages : ℕ) (f : Bytes) (k number : ℕ) (into : List ℕ) (so_far : numbers_from f 4 k ≡ take k into) (is : number ≡ number_at f 0 k) where
  earlier : (j : ℕ) → j < k → k ≤ length into → get_or into j 0 ≡ number_at f 0 j
  earlier j lt room = sym (get_or-take k into j 0 lt) ∙ ap (λ (l : List ℕ). get_or l j 0) (sym so_far) ∙ number_there f 4 k j lt

  -- one that is no page's, or comes twice
  pub too_great : pages ≤ number → IsFit pages f 0 k → ⊥
  too_great great fit = let low = fit.below in absurd (omega arith)

  pub comes_twice : (j : ℕ) → j < k → k ≤ length into → get_or into j 0 ≡ number → IsFit pages f 0 k → ⊥
  comes_twice j lt room same fit = fit.fresh j lt (sym (earlier j lt room) ∙ same ∙ is)

  -- one more that is fit
  pub fit_more : k < length into → number < pages → ((j : ℕ) → j < length (take k into) → get_or (take k into) j 0 ≢ number) → ((j : ℕ) → j < k → IsFit pages f 0 j) → (j : ℕ) → j < k + 1 → IsFit pages f 0 j
  fit_more room low fresh fit j lt = ⊎_elim
      (λ less. fit j less)
      (λ le. let at : j ≡ k = omega arith in subst (λ (m : ℕ). IsFit pages f 0 m) (sym at) (record {
        below = omega arith;
        fresh = λ i less same. let size = length-take-le k into (omega arith) in
            fresh i (omega arith) (get_or-take k into i 0 less ∙ earlier i less (omega arith) ∙ same ∙ sym is);
      }))
      (cases_lt j k)

  pub numbers_read_more : k < length into → numbers_from f 4 (k + 1) ≡ take (k + 1) (set into k number)
  numbers_read_more room = ap (numbers_from f 4) (add-one k) ∙ numbers_more f 4 k ∙ ap (λ (l : List ℕ). l ++ number_at f 0 k ∷ []) so_far
      ∙ ap (λ (m : ℕ). take k into ++ m ∷ []) (sym is) ∙ sym (take-suc-set into k number room) ∙ ap (λ (m : ℕ). take m (set into k number)) (sym (add-one k))

-- all of them are read
module _ (pages : ℕ) (f : Bytes) (count : ℕ) (into : List ℕ) (counted : count ≡ count_at f 0) (most : count ≤ 32) (long : length into ≡ 32) (so_far : numbers_from f 4 count ≡ take count into) where
  pub all_read : take count into ≡ numbers_at f 0
  all_read =
      let size = length-take-le count into (omega arith) in
      sym (numbers_are f 0 (take count into) (sym counted ∙ sym size) (ap (numbers_from f 4) size ∙ so_far))

  pub read_batch : 1 ≤ count → ((j : ℕ) → j < count → IsFit pages f 0 j) → IsBatch pages (take count into)
  read_batch some fit =
      let size = length-take-le count into (omega arith) in
      let there : (j : ℕ) → j < count → get_or (take count into) j 0 ≡ number_at f 0 j = λ j lt. ap (λ (l : List ℕ). get_or l j 0) (sym so_far) ∙ number_there f 4 count j lt in
      record {
        some = omega arith;
        most = omega arith;
        each = λ k lt. subst (λ (m : ℕ). m < pages) (sym (there k (omega arith))) ((fit k (omega arith)).below);
        different = λ j k less lt same. (fit k (omega arith)).fresh j less (sym (there j (omega arith)) ∙ same ∙ there k (omega arith));
      }
