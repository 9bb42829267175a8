-- Laying an open batch over.
use Rattle.std.proofs.Common.{◌≡◌, ◌≢◌, ◌⊎◌, inl, inr, ⊎_elim, ◌<◌, ◌≤◌, ◌+◌, ◌*◌, ℕ, List, length, refl, sym, ◌∙◌, ap, subst, arith, add-zero, zero-add}
use Rattle.std.proofs.lemmas.Bool.{cases_lt}
use Rattle.byteorder.specs.Endian.{little_number}
use Rattle.sg_base.specs.declared.area.Area.TheVariants.{Home}
use Rattle.sg_disk.specs.Disk.{Bytes, Image, State, Leaves, View, LeavesOnly, window}
use Rattle.sg_disk.specs.Memory.{bytes_of}
use Rattle.sg_disk.proofs.Moments.{joined, weaker}
use Rattle.sg_gate.specs.Layout.{HEADER}
use Rattle.sg_gate.specs.Batch.{count_at, number_at, numbers_at, numbers_of, homed, laid, IsBatch, IsFit, IsWrongAt, IsOpen, IsSettled, IsDone, IsLaid, IsWhole, SameLogs}
use Rattle.sg_gate.proofs.Windows.{window_shift}
use Rattle.sg_gate.proofs.Over.{numbers_agree_at, numbers_at_length, laid_open, laid_shut}
use Rattle.sg_gate.proofs.Texts.{number_listed}
use Rattle.sg_gate.proofs.Headers.{whole_same}

-- at rest, an image is seen as the store is
rest_whole : (s : State) (pages : ℕ) (c : Image) → IsSettled (s Home) → ((s Home).seen HEADER ≡ 1 → IsBatch pages (numbers_of (s Home).seen)) → Leaves s c → IsWhole s pages (laid (s Home).seen) c
rest_whole s pages c settled header leaves =
    let byte : (i : ℕ) → c Home i ≡ (s Home).seen i = λ i. (leaves Home).rest i (settled i) in
    let same : c Home ≡ (s Home).seen = λ j i. byte i j in
    record {
      home = λ i store. ap (λ (f : Bytes). laid f i) same;
      header = λ is. subst (λ (f : Bytes). IsBatch pages (numbers_of f)) (sym same) (header (sym (byte HEADER) ∙ is));
      fits = (leaves Home).byte;
      others = λ b other. leaves b;
    }

pub rest_moments : {v w : View} (pages : ℕ) → IsSettled (v.now Home) → ((v.now Home).seen HEADER ≡ 1 → IsBatch pages (numbers_of (v.now Home).seen)) → LeavesOnly v w (Leaves v.now) → LeavesOnly v w (IsWhole v.now pages (laid (v.now Home).seen))
rest_moments {v = v} pages settled header run = weaker run (λ c leaves. rest_whole v.now pages c settled header leaves)

-- a closed gate is left
pub rest_laid : (s t : State) → t ≡ s → (s Home).seen HEADER ≢ 1 → IsLaid s t
rest_laid s t same shut = subst (λ (u : State). IsLaid s u) (sym same) (record {
  closed = shut;
  bytes = λ i out. sym (laid_shut (s Home).seen i shut);
  settled = λ i spoils. spoils;
  logs = λ b other. refl;
})

-- and an open one's batch is laid over
module _ (v w : View) (ns : List ℕ) (same : w.now ≡ v.now) (gate : (v.now Home).seen HEADER ≡ 1) (numbers : ns ≡ numbers_of (v.now Home).seen) where
  pub is_open_there : IsOpen (w.now Home) ns
  is_open_there = subst (λ (s : State). IsOpen (s Home) ns) (sym same) (record { gate = gate; numbers = sym numbers })

  target_same : (i : ℕ) → homed ns (w.now Home).seen i ≡ laid (v.now Home).seen i
  target_same i = subst (λ (s : State). homed ns (s Home).seen i ≡ laid (v.now Home).seen i) (sym same)
      (subst (λ (l : List ℕ). homed l (v.now Home).seen i ≡ laid (v.now Home).seen i) (sym numbers) (sym (laid_open (v.now Home).seen i gate)))

  logs_same : SameLogs v.now w.now
  logs_same b other = ap (λ (s : State). s b) same

  pub settled_same : IsSettled (v.now Home) → IsSettled (w.now Home)
  settled_same settled = subst (λ (s : State). IsSettled (s Home)) (sym same) settled

  pub laying : (z : View) (pages : ℕ) → IsSettled (v.now Home) → IsBatch pages ns → LeavesOnly v w (Leaves v.now) → LeavesOnly w z (IsWhole w.now pages (homed ns (w.now Home).seen)) → LeavesOnly v z (IsWhole v.now pages (laid (v.now Home).seen))
  laying z pages settled batch read copies = joined (rest_moments pages settled (λ is. subst (λ (l : List ℕ). IsBatch pages l) numbers batch) read)
      (weaker copies (λ c whole. whole_same v.now w.now pages (homed ns (w.now Home).seen) (laid (v.now Home).seen) c (λ i out. target_same i) logs_same whole))

  pub is_laid : (t : State) → IsDone (t Home) (homed ns (w.now Home).seen) → SameLogs w.now t → IsLaid v.now t
  is_laid t done logs = record {
    closed = done.closed;
    bytes = λ i out. done.bytes i out ∙ target_same i;
    settled = λ i spoils. absurd (done.settled i spoils);
    logs = λ b other. logs b other ∙ logs_same b other;
  }

-- A header's text where it was read.
module _ (f : Bytes) (at : ℕ) (text : List ℕ) (there : (k : ℕ) → k < 132 → bytes_of text k ≡ f (at + k)) where
  number_same : (place : ℕ) → place + 4 ≤ 132 → little_number 4 (window (bytes_of text) place 4) ≡ little_number 4 (window f (at + place) 4)
  number_same place low = ap (little_number 4) (window_shift (bytes_of text) f place (at + place) 4 (λ k lt.
      let sum : at + (place + k) ≡ at + place + k = omega arith in there (place + k) (omega arith) ∙ ap f sum))

  count_there : count_at (bytes_of text) 0 ≡ count_at f at
  count_there = number_same 0 (omega arith) ∙ ap (λ (a : ℕ). count_at f a) (add-zero at)

  pub number_there : (k : ℕ) → k < 32 → number_at (bytes_of text) 0 k ≡ number_at f at k
  number_there k lt =
      let near : 0 + 4 + 4 * k ≡ 4 + 4 * k = omega arith in
      let far : at + (4 + 4 * k) ≡ at + 4 + 4 * k = omega arith in
      ap (λ (a : ℕ). little_number 4 (window (bytes_of text) a 4)) near ∙ number_same (4 + 4 * k) (omega arith) ∙ ap (λ (a : ℕ). little_number 4 (window f a 4)) far

  fit_there : (pages k : ℕ) → k < 32 → IsFit pages (bytes_of text) 0 k → IsFit pages f at k
  fit_there pages k lt fit = record {
    below = subst (λ (n : ℕ). n < pages) (number_there k lt) fit.below;
    fresh = λ j less same. fit.fresh j less (number_there j (omega arith) ∙ same ∙ sym (number_there k lt));
  }

  fit_here : (pages k : ℕ) → k < 32 → IsFit pages f at k → IsFit pages (bytes_of text) 0 k
  fit_here pages k lt fit = record {
    below = subst (λ (n : ℕ). n < pages) (sym (number_there k lt)) fit.below;
    fresh = λ j less same. fit.fresh j less (sym (number_there j (omega arith)) ∙ same ∙ number_there k lt);
  }

  pub numbers_there : length (numbers_at (bytes_of text) 0) ≤ 32 → numbers_at (bytes_of text) 0 ≡ numbers_at f at
  numbers_there short = sym (numbers_agree_at (bytes_of text) f 0 at short (λ k lt. sym (there k lt) ∙ ap (bytes_of text) (sym (zero-add k))))

  pub wrong_there : (pages wrong : ℕ) → IsWrongAt pages (bytes_of text) 0 wrong → IsWrongAt pages f at (at + wrong)
  wrong_there pages wrong is = ⊎_elim
      (λ count. inl (ap (λ (n : ℕ). at + n) count.0 ∙ add-zero at, subst (λ (n : ℕ). (n ≡ 0) ⊎ (32 < n)) count_there count.1))
      (λ number.
      let k = number.0 in
      let first = number.2 in
      let place = number.1 in
      let low : k < 32 = let a = first.there in let b = first.count in omega arith in
      inr (
        k,
        omega arith,
        record {
          count = subst (λ (n : ℕ). n ≤ 32) count_there first.count;
          there = subst (λ (n : ℕ). k < n) count_there first.there;
          before = λ j lt. fit_there pages j (omega arith) (first.before j lt);
          unfit = λ fit. first.unfit (fit_here pages k low fit);
        },
      ))
      is

-- One field is the first that is out of its range.
pub one_wrong : (pages : ℕ) (f : Bytes) (at x y : ℕ) → IsWrongAt pages f at x → IsWrongAt pages f at y → x ≡ y
one_wrong pages f at x y one other = ⊎_elim
    (λ a. ⊎_elim
    (λ b. a.0 ∙ sym b.0)
    (λ b. let least = b.2.there in let most = b.2.count in absurd (⊎_elim (λ none. omega arith) (λ many. omega arith) a.1))
    other)
    (λ a. ⊎_elim
    (λ b. let least = a.2.there in let most = a.2.count in absurd (⊎_elim (λ none. omega arith) (λ many. omega arith) b.1))
    (λ b. ⊎_elim
    (λ less. absurd (a.2.unfit (b.2.before a.0 less)))
    (λ le. ⊎_elim
    (λ less. absurd (b.2.unfit (a.2.before b.0 less)))
    (λ ge. let same : a.0 ≡ b.0 = omega arith in let p = a.1 in let q = b.1 in omega arith)
    (cases_lt b.0 a.0))
    (cases_lt a.0 b.0))
    other)
    one

-- and none in the header of a batch
pub none_wrong : (pages : ℕ) (f : Bytes) (at wrong : ℕ) → IsBatch pages (numbers_at f at) → IsWrongAt pages f at wrong → ⊥
none_wrong pages f at wrong batch is =
    let long = numbers_at_length f at in
    let some = batch.some in
    let most = batch.most in
    ⊎_elim
    (λ count. ⊎_elim (λ none. omega arith) (λ many. omega arith) count.1)
    (λ number.
    let k = number.0 in
    let lt : k < count_at f at = number.2.there in
    let here = number_listed f at k lt in
    number.2.unfit (record {
      below = subst (λ (n : ℕ). n < pages) here (batch.each k (omega arith));
      fresh = λ j less same. batch.different j k less (omega arith) (number_listed f at j (omega arith) ∙ same ∙ sym here);
    }))
    is
