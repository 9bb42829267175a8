-- The moments of a batch's copying, from the open gate to the closed one.
use Rattle.std.proofs.Common.{◌≡◌, inl, inr, ⊎_elim, ◌<◌, ◌≤◌, ◌+◌, ℕ, List, [], ◌∷◌, length, get_or, Result, Ok, refl, sym, ◌∙◌, ap, subst, arith}
use Rattle.std.proofs.lemmas.Bool.{cases_lt, cases_eq}
use Rattle.sg_base.specs.declared.area.Area.{Area}
use Rattle.sg_base.specs.declared.area.Area.TheVariants.{Home}
use Rattle.sg_disk.specs.Disk.{Bytes, Image, Part, State, Spoils, LeavesPart, Leaves, View, Wrote, Synced, LeavesOnly, window, written_part, synced_part, written, synced}
use Rattle.sg_disk.proofs.Parts.{untouched, part_written, part_synced, leaves_written, other_byte, other_written, other_synced, leaves_other}
use Rattle.sg_disk.proofs.Moments.{started, goes_on, joined, weaker}
use Rattle.sg_gate.specs.Layout.{PAGE, HEADER, HOMES, place_at, home_at, IsStore}
use Rattle.sg_gate.specs.Batch.{numbers_of, homed, IsBatch, InHomes, IsSettled, IsOpen, IsWhole, SameLogs}
use Rattle.sg_gate.proofs.Windows.{window_size, put_window_out}
use Rattle.sg_gate.proofs.Copies.{in_homes_at}
use Rattle.sg_gate.proofs.Over.{over_low, over_out, over_agree, homes_high, numbers_agree, laid_open, laid_shut}

module _ (v : View) (ns : List ℕ) (pages : ℕ) (opened : IsOpen (v.now Home) ns) (settled : IsSettled (v.now Home)) (batch : IsBatch pages ns) where
  abbrev f : Bytes
  f = (v.now Home).seen

  abbrev goal_bytes : Bytes
  goal_bytes = homed ns f

  abbrev pub P : Image → Type 0
  P = IsWhole v.now pages goal_bytes

  -- outside the homes of these pages all is as it was, and nothing is pending
  pub record IsAside (t : State) : Type 0 where
    pub same : (i : ℕ) → (InHomes ns i → ⊥) → (t Home).seen i ≡ f i
    pub unspoiled : (i : ℕ) → (InHomes ns i → ⊥) → Spoils (t Home).pending i → ⊥
    pub others : SameLogs v.now t

  aside_starts : IsAside v.now
  aside_starts = record { same = λ i out. refl; unspoiled = λ i out. settled i; others = λ b other. refl }

  short_numbers : length (numbers_of f) ≤ 32
  short_numbers = subst (λ (l : List ℕ). length l ≤ 32) (sym opened.numbers) batch.most

  -- what a crash leaves meanwhile
  whole : (c : Image) → ((i : ℕ) → (InHomes ns i → ⊥) → c Home i ≡ f i) → ((i : ℕ) → c Home i < 256) → ((b : Area) → (b ≡ Home → ⊥) → LeavesPart (v.now b) (c b)) → P c
  whole c same fits others =
      let low : (i : ℕ) → i < HOMES → c Home i ≡ f i = λ i lt. same i (λ is. let high = homes_high ns i is in absurd (omega arith)) in
      let numbers = numbers_agree f (c Home) short_numbers (λ i a b. low i (omega arith)) ∙ opened.numbers in
      let gate = low HEADER (omega arith) ∙ opened.gate in
      record {
        home = λ i store. laid_open (c Home) i gate ∙ ap (λ (l : List ℕ). homed l (c Home) i) numbers ∙ over_agree ns 0 (c Home) f (c Home) f i (λ j a b. low j b) (let most = batch.most in omega arith) (same i);
        header = λ is. subst (λ (l : List ℕ). IsBatch pages l) (sym numbers) batch;
        fits = fits;
        others = others;
      }

  pub aside_whole : (t : State) (c : Image) → IsAside t → Leaves t c → P c
  aside_whole t c aside leaves = whole c
      (λ i out. (leaves Home).rest i (aside.unspoiled i out) ∙ aside.same i out)
      (leaves Home).byte
      (λ b other. subst (λ (p : Part). LeavesPart p (c b)) (aside.others b other) (leaves b))

  -- one page more
  module _ (j size : ℕ) (t : State) (aside : IsAside t) (lt : j < length ns) (is_page : size ≡ PAGE) where
    abbrev n : ℕ
    n = get_or ns j 0

    abbrev text : List ℕ
    text = window (t Home).seen (place_at j) size

    outside : (i : ℕ) → (InHomes ns i → ⊥) → (home_at n ≤ i → i < home_at n + size → ⊥)
    outside i out low high = out (in_homes_at ns j i lt low (omega arith))

    pub aside_more : (u : State) → u ≡ written Home (home_at n) text t → IsAside u
    aside_more u is =
        let part = part_written t Home (home_at n) text is in
        let long = window_size (t Home).seen (place_at j) size in
        record {
          same = λ i out. ap (λ (p : Part). p.seen i) part ∙ put_window_out (t Home).seen (t Home).seen (home_at n) (place_at j) size i (outside i out) ∙ aside.same i out;
          unspoiled = λ i out. subst (λ (p : Part). Spoils p.pending i → ⊥) (sym part) (⊎_elim
              (untouched (home_at n) (length text) i (⊎_elim (λ before. inl before) (λ low. ⊎_elim (λ high. absurd (outside i out low high)) (λ behind. inr (omega arith)) (cases_lt i (home_at n + size))) (cases_lt i (home_at n))))
              (aside.unspoiled i out));
          others = λ b other. other_written t Home b (home_at n) text other is ∙ aside.others b other;
        }

    -- while it is written
    copying : (c : Image) → Leaves (written Home (home_at n) text t) c → P c
    copying c leaves = aside_whole (written Home (home_at n) text t) c (aside_more (written Home (home_at n) text t) refl) leaves

  -- while the gate is closed, all bytes but the gate are as they are to be
  closing : (c : Image) → ((i : ℕ) → (i ≡ HEADER → ⊥) → c Home i ≡ goal_bytes i) → ((i : ℕ) → c Home i < 256) → ((b : Area) → (b ≡ Home → ⊥) → LeavesPart (v.now b) (c b)) → P c
  closing c same fits others =
      let low : (i : ℕ) → i < HOMES → (i ≡ HEADER → ⊥) → c Home i ≡ f i = λ i lt not. same i not ∙ over_low ns 0 f f i lt in
      let numbers = numbers_agree f (c Home) short_numbers (λ i a b. low i (omega arith) (λ is. absurd (omega arith))) ∙ opened.numbers in
      let away : (i : ℕ) → IsStore i → i ≡ HEADER → ⊥ = λ i store is. ⊎_elim (λ a. absurd (omega arith)) (λ b. absurd (omega arith)) store in
      record {
        home = λ i store. ⊎_elim
            (λ gate. laid_open (c Home) i gate ∙ ap (λ (l : List ℕ). homed l (c Home) i) numbers
            ∙ over_agree ns 0 (c Home) f (c Home) f i (λ j a b. low j b (λ is. absurd (omega arith))) (let most = batch.most in omega arith) (λ out. same i (away i store) ∙ over_out ns 0 f f i out))
            (λ closed. laid_shut (c Home) i closed ∙ same i (away i store))
            (cases_eq (c Home HEADER) 1);
        header = λ is. subst (λ (l : List ℕ). IsBatch pages l) (sym numbers) batch;
        fits = fits;
        others = others;
      }

  -- the copies are synced
  closing_crash : (t u : State) → ((i : ℕ) → (t Home).seen i ≡ goal_bytes i) → SameLogs v.now t → u ≡ synced Home t → (c : Image) → Leaves (written Home HEADER (0 ∷ []) u) c → P c
  closing_crash t u all logs is c leaves =
      let part = part_synced t Home is in
      let torn : LeavesPart (written_part HEADER (0 ∷ []) (synced_part (t Home))) (c Home) = subst (λ (p : Part). LeavesPart (written_part HEADER (0 ∷ []) p) (c Home)) part (leaves_written u Home HEADER (0 ∷ []) c leaves) in
      closing c
      (λ i not. other_byte (synced_part (t Home)) HEADER (0 ∷ []) (c Home) refl torn i (⊎_elim (λ lt. inl lt) (λ le. inr (⊎_elim (λ at. absurd (not at)) (λ off. omega arith) (cases_eq i HEADER))) (cases_lt i HEADER)) ∙ all i)
      (leaves Home).byte
      (λ b other. subst (λ (p : Part). LeavesPart p (c b)) (other_synced t Home b other is ∙ logs b other) (leaves_other u Home b HEADER (0 ∷ []) c other leaves))

  -- the loop, call by call
  abbrev pub SoFar : View → Type 0
  SoFar w = LeavesOnly v w P × IsAside w.now

  pub so_far_starts : SoFar v
  so_far_starts = (started v P (λ c leaves. aside_whole v.now c aside_starts leaves), aside_starts)

  pub after_page : {w z : View} (j size : ℕ) → SoFar w → j < length ns → size ≡ PAGE → LeavesOnly w z (Leaves (written Home (home_at (get_or ns j 0)) (window (w.now Home).seen (place_at j) size) w.now)) → LeavesOnly v z P
  after_page {w = w} j size so_far lt is run = joined so_far.0 (weaker run (λ c leaves. copying j size w.now so_far.1 lt is c leaves))

  -- and the last three
  module _ (w : View) (so_far : SoFar w) where
    pub after_sync : {T E : Type 0} {x : View} {r : Result T E} → Synced Home w x r → LeavesOnly v x P
    after_sync s = goes_on so_far.0 s (λ c leaves. aside_whole w.now c so_far.1 leaves)

    module _ (all : (i : ℕ) → (w.now Home).seen i ≡ goal_bytes i) where
      pub after_gate : {T E : Type 0} {x y : View} {u : T} {r : Result T E} → Synced {E = E} Home w x (Ok u) → Wrote Home HEADER (0 ∷ []) x y r → LeavesOnly v y P
      after_gate {x = x} s z = goes_on (after_sync s) z (λ c leaves. closing_crash w.now x.now all so_far.1.others s.ok c leaves)

      pub after_last : {T E : Type 0} {x y z : View} {u a : T} {r : Result T E} → Synced {E = E} Home w x (Ok u) → Wrote {E = E} Home HEADER (0 ∷ []) x y (Ok a) → Synced Home y z r → LeavesOnly v z P
      after_last {x = x} s g t = goes_on (after_gate s g) t (λ c leaves. closing_crash w.now x.now all so_far.1.others s.ok c (subst (λ (q : State). Leaves q c) g.ok leaves))
