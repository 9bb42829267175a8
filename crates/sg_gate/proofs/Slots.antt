-- Which slot counts.
use Rattle.std.proofs.Common.{◌≡◌, ◌≢◌, ◌⊎◌, inl, inr, ⊎_elim, ◌<◌, ◌≤◌, ◌+◌, ℕ, Option, Some, None, IfSome, Ok, List, refl, sym, ◌∙◌, ap, arith}
use Rattle.std.proofs.lemmas.Bool.{cases_lt, cases_eq}
use Rattle.std.proofs.lemmas.Bool.Decides.{nat_tests}
use Rattle.sg_disk.specs.Disk.{Bytes}
use Rattle.sg_disk.proofs.Parts.{window_agree}
use Rattle.sg_gate.specs.Layout.{HEADER}
use Rattle.sg_gate.specs.Superblock.{SLOT, text_at, sequence_of, which, counting, start_of, spare, read_with, read_text, read_in, superblock, IsText, IsElsewhere, IsSpare}
use Rattle.sg_gate.specs.declared.slot.Slot.{Slot}
use Rattle.sg_gate.specs.declared.slot.Slot.TheVariants.{First, Second}
use Rattle.sg_gate.specs.declared.superblock.Super.{Super}

pub text_agree : (f c : Bytes) (at : ℕ) → ((i : ℕ) → at ≤ i → i < at + SLOT → c i ≡ f i) → text_at c at ≡ text_at f at
unfolding text_at
text_agree f c at same = window_agree c f (at + 1) 43 (λ i low high. same i (omega arith) (omega arith))

-- the cases of the choice
both_first : (g0 g1 s0 s1 : ℕ) → g0 ≡ 1 → s1 ≤ s0 → which g0 g1 s0 s1 ≡ Some First
both_first g0 g1 s0 s1 a le = grind (arith, nat_tests)

both_second : (g0 g1 s0 s1 : ℕ) → g0 ≡ 1 → g1 ≡ 1 → s0 < s1 → which g0 g1 s0 s1 ≡ Some Second
both_second g0 g1 s0 s1 a b lt = grind (arith, nat_tests)

first_alone : (g0 g1 s0 s1 : ℕ) → g0 ≡ 1 → g1 ≢ 1 → which g0 g1 s0 s1 ≡ Some First
first_alone g0 g1 s0 s1 a b = grind (arith, nat_tests)

second_alone : (g0 g1 s0 s1 : ℕ) → g0 ≢ 1 → g1 ≡ 1 → which g0 g1 s0 s1 ≡ Some Second
second_alone g0 g1 s0 s1 a b = grind (arith, nat_tests)

neither : (g0 g1 s0 s1 : ℕ) → g0 ≢ 1 → g1 ≢ 1 → which g0 g1 s0 s1 ≡ None
neither g0 g1 s0 s1 a b = grind (arith, nat_tests)

-- and what each says of the gates
pub which_is : (g0 g1 s0 s1 : ℕ) → ((which g0 g1 s0 s1 ≡ None) × (g0 ≢ 1) × (g1 ≢ 1)) ⊎ (((which g0 g1 s0 s1 ≡ Some First) × (g0 ≡ 1)) ⊎ ((which g0 g1 s0 s1 ≡ Some Second) × (g1 ≡ 1)))
which_is g0 g1 s0 s1 = ⊎_elim
    (λ a. ⊎_elim
    (λ b. ⊎_elim (λ lt. inr (inr (both_second g0 g1 s0 s1 a b lt, b))) (λ le. inr (inl (both_first g0 g1 s0 s1 a le, a))) (cases_lt s0 s1))
    (λ b. inr (inl (first_alone g0 g1 s0 s1 a b, a)))
    (cases_eq g1 1))
    (λ a. ⊎_elim (λ b. inr (inr (second_alone g0 g1 s0 s1 a b, b))) (λ b. inl (neither g0 g1 s0 s1 a b, a, b)) (cases_eq g1 1))
    (cases_eq g0 1)

-- with neither gate open no slot counts
pub none_counts : (f : Bytes) → f 0 ≢ 1 → f 4096 ≢ 1 → counting f ≡ None
none_counts f a b = neither (f 0) (f 4096) (sequence_of (text_at f 0)) (sequence_of (text_at f 4096)) a b

counting_is : (f : Bytes) → ((counting f ≡ None) × (f 0 ≢ 1) × (f 4096 ≢ 1)) ⊎ (((counting f ≡ Some First) × (f 0 ≡ 1)) ⊎ ((counting f ≡ Some Second) × (f 4096 ≡ 1)))
counting_is f = which_is (f 0) (f 4096) (sequence_of (text_at f 0)) (sequence_of (text_at f 4096))

-- where none counts, both gates are closed
pub none_open : (f : Bytes) → counting f ≡ None → (f 0 ≢ 1) × (f 4096 ≢ 1)
none_open f none = ⊎_elim
    (λ is. (is.1, is.2))
    (λ some. absurd (⊎_elim (λ first. let a = first.0 in cc) (λ second. let a = second.0 in cc) some))
    (counting_is f)

-- the slot that counts is read
pub superblock_is : (f : Bytes) (slot : Slot) → counting f ≡ Some slot → superblock f ≡ read_text (start_of slot) (text_at f (start_of slot))
superblock_is f slot counts = ap (read_in f) counts

module _ (f : Bytes) (new : Super) (text : List ℕ) (spelled : IsText new text) where
  read_is : (at : ℕ) → read_text at text ≡ Ok new
  read_is at = ap (read_with at text) spelled.fits ∙ ap (λ (s : Super). Ok s) spelled.says

  sequence_is : sequence_of text ≡ new.sequence
  sequence_is = ap (λ (s : Super). s.sequence) spelled.says

  -- the second slot is spare where the first counts
  module _ (counts : counting f ≡ Some First) (gate : f 0 ≡ 1) (newer : sequence_of (text_at f 0) < new.sequence) where
    stays0 : (c : Bytes) → ((i : ℕ) → i < HEADER → IsElsewhere 4096 i → c i ≡ f i) → (c 0 ≡ f 0) × (text_at c 0 ≡ text_at f 0)
    stays0 c same = (same 0 (omega arith) (inl (omega arith)), text_agree f c 0 (λ i low high. same i (omega arith) (inl (omega arith))))

    spare_second : IsSpare f new text 4096
    spare_second = record {
      place = inr refl;
      calm = λ c same shut. let here = stays0 c same in
          superblock_is c First (first_alone (c 0) (c 4096) (sequence_of (text_at c 0)) (sequence_of (text_at c 4096)) (here.0 ∙ gate) shut)
          ∙ ap (read_text 0) here.1 ∙ sym (superblock_is f First counts);
      fresh = λ c same is there. let here = stays0 c same in
          let seq0 = ap sequence_of here.1 in
          let seq1 = ap sequence_of there ∙ sequence_is in
          superblock_is c Second (both_second (c 0) (c 4096) (sequence_of (text_at c 0)) (sequence_of (text_at c 4096)) (here.0 ∙ gate) is (omega arith)) ∙ ap (read_text 4096) there ∙ read_is 4096;
    }

  -- the first one is spare where the second counts, or none
  module _ (how : ((counting f ≡ Some Second) × (f 4096 ≡ 1) × (sequence_of (text_at f 4096) < new.sequence)) ⊎ ((counting f ≡ None) × (f 4096 ≢ 1))) where
    stays1 : (c : Bytes) → ((i : ℕ) → i < HEADER → IsElsewhere 0 i → c i ≡ f i) → (c 4096 ≡ f 4096) × (text_at c 4096 ≡ text_at f 4096)
    stays1 c same = (same 4096 (omega arith) (inr (omega arith)), text_agree f c 4096 (λ i low high. same i (omega arith) (inr (omega arith))))

    spare_first : IsSpare f new text 0
    spare_first = record {
      place = inl refl;
      calm = λ c same shut. let here = stays1 c same in ⊎_elim
          (λ second. superblock_is c Second (second_alone (c 0) (c 4096) (sequence_of (text_at c 0)) (sequence_of (text_at c 4096)) shut (here.0 ∙ second.1)) ∙ ap (read_text 4096) here.1 ∙ sym (superblock_is f Second second.0))
          (λ none. ap (read_in c) (neither (c 0) (c 4096) (sequence_of (text_at c 0)) (sequence_of (text_at c 4096)) shut (λ is. none.1 (sym here.0 ∙ is))) ∙ sym (ap (read_in f) none.0))
          how;
      fresh = λ c same is there. let here = stays1 c same in
          let seq0 = ap sequence_of there ∙ sequence_is in
          let seq1 = ap sequence_of here.1 in
          let counts : counting c ≡ Some First = ⊎_elim
          (λ second. let low = second.2 in both_first (c 0) (c 4096) (sequence_of (text_at c 0)) (sequence_of (text_at c 4096)) is (omega arith))
          (λ none. first_alone (c 0) (c 4096) (sequence_of (text_at c 0)) (sequence_of (text_at c 4096)) is (λ open_there. none.1 (sym here.0 ∙ open_there)))
          how in
          superblock_is c First counts ∙ ap (read_text 0) there ∙ read_is 0;
    }

  -- THE SPARE SLOT
  pub is_spare : (o : Option Slot) → counting f ≡ o → IfSome o (λ slot. sequence_of (text_at f (start_of slot)) < new.sequence) → IsSpare f new text (start_of (spare o))
  is_spare (Some First) counts newer = spare_second counts (⊎_elim (λ none. let a = none.0 in absurd cc) (λ some. ⊎_elim (λ first. first.1) (λ second. let a = second.0 in absurd cc) some) (counting_is f)) newer
  is_spare (Some Second) counts newer = spare_first (inl (counts, ⊎_elim (λ none. let a = none.0 in absurd cc) (λ some. ⊎_elim (λ first. let a = first.0 in absurd cc) (λ second. second.1) some) (counting_is f), newer))
  is_spare None counts newer = spare_first (inr (counts, (none_open f counts).1))

-- where nothing in the slots has changed, the superblock is the same
pub superblock_agree : (f c : Bytes) → ((i : ℕ) → i < HEADER → c i ≡ f i) → superblock c ≡ superblock f
superblock_agree f c same =
    let t0 = text_agree f c 0 (λ i low high. same i (omega arith)) in
    let t1 = text_agree f c 4096 (λ i low high. same i (omega arith)) in
    let counts : counting c ≡ counting f = ap (λ (g : ℕ). which g (c 4096) (sequence_of (text_at c 0)) (sequence_of (text_at c 4096))) (same 0 (omega arith))
    ∙ ap (λ (g : ℕ). which (f 0) g (sequence_of (text_at c 0)) (sequence_of (text_at c 4096))) (same 4096 (omega arith))
    ∙ ap (λ (t : List ℕ). which (f 0) (f 4096) (sequence_of t) (sequence_of (text_at c 4096))) t0
    ∙ ap (λ (t : List ℕ). which (f 0) (f 4096) (sequence_of (text_at f 0)) (sequence_of t)) t1 in
    ⊎_elim
    (λ none. ap (read_in c) (counts ∙ none.0) ∙ sym (ap (read_in f) none.0))
    (λ some. ⊎_elim
    (λ first. superblock_is c First (counts ∙ first.0) ∙ ap (read_text 0) t0 ∙ sym (superblock_is f First first.0))
    (λ second. superblock_is c Second (counts ∙ second.0) ∙ ap (read_text 4096) t1 ∙ sym (superblock_is f Second second.0))
    some)
    (counting_is f)
