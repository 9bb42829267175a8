-- How a batch's gate is opened.
use Rattle.std.proofs.Common.{◌≡◌, ◌⊎◌, inl, inr, ⊎_elim, ◌<◌, ◌≤◌, ◌+◌, ◌*◌, ℕ, List, [], ◌∷◌, length, take, Result, Ok, Err, OnOk, refl, sym, ◌∙◌, ap, subst, arith, zero-add, get_or-take}
use Rattle.std.proofs.lemmas.List.{length-take-le}
use Rattle.std.proofs.lemmas.Bool.{cases_lt, cases_eq}
use Rattle.byteorder.specs.Endian.{little_number}
use Rattle.sg_base.specs.declared.area.Area.{Area}
use Rattle.sg_base.specs.declared.area.Area.TheVariants.{Home}
use Rattle.sg_disk.specs.Disk.{Bytes, Image, Part, State, Spoils, LeavesPart, Leaves, View, LeavesOnly, put, written_part, synced_part, written, synced}
use Rattle.sg_disk.specs.Memory.{bytes_of}
use Rattle.sg_disk.proofs.Images.{put_outside}
use Rattle.sg_disk.proofs.Parts.{untouched, part_synced, leaves_written, other_byte, put_inside, other_written, other_synced, leaves_other}
use Rattle.sg_disk.proofs.Moments.{joined, weaker}
use Rattle.sg_gate.specs.Layout.{HEADER, PLACES, HOMES, IsStore, IsOutside}
use Rattle.sg_gate.specs.Batch.{numbers_of, homed, IsBatch, IsReady, IsOpened, IsDone, IsWhole, IsEither, IsHeader, SameLogs}
use Rattle.sg_gate.proofs.Windows.{window_shift}
use Rattle.sg_gate.proofs.Over.{over_agree, numbers_agree_from, numbers_are, numbers_agree, laid_open, laid_shut}

module _ (v : View) (ns : List ℕ) (most : length ns ≤ 32) (text : List ℕ) (header : IsHeader text ns) where
  abbrev f : Bytes
  f = (v.now Home).seen

  abbrev front : List ℕ
  front = take (4 + 4 * length ns) text

  front_long : length front ≡ 4 + 4 * length ns
  front_long = length-take-le (4 + 4 * length ns) text header.long

  abbrev g : Bytes
  g = put (HEADER + 1) front f

  -- the header is there, behind its gate
  g_at : (k : ℕ) → k < 4 + 4 * length ns → g (HEADER + 1 + k) ≡ bytes_of text k
  g_at k lt = put_inside (HEADER + 1) front f k 0 (let long = front_long in omega arith) ∙ get_or-take (4 + 4 * length ns) text k 0 lt

  g_numbers : numbers_of g ≡ ns
  g_numbers = numbers_are g (HEADER + 1) ns
      (ap (little_number 4) (window_shift g (bytes_of text) (HEADER + 1) 0 4 (λ k lt. g_at k (omega arith) ∙ ap (bytes_of text) (sym (zero-add k)))) ∙ header.count)
      (numbers_agree_from g (bytes_of text) (HEADER + 5) 4 (length ns) (λ k lt. let place : HEADER + 5 + k ≡ HEADER + 1 + (4 + k) = omega arith in ap g place ∙ g_at (4 + k) (omega arith)) ∙ header.numbers)

  g_short : length (numbers_of g) ≤ 32
  g_short = subst (λ (l : List ℕ). length l ≤ 32) (sym g_numbers) most

  g_else : (i : ℕ) → (i ≤ HEADER) ⊎ (PLACES ≤ i) → g i ≡ f i
  g_else i out = put_outside (HEADER + 1) front f i (λ low high. let long = front_long in ⊎_elim (λ a. absurd (omega arith)) (λ b. absurd (omega arith)) out)

  abbrev staged : Part
  staged = synced_part (written_part (HEADER + 1) front (v.now Home))

  -- the header was written and synced
  module _ (x : State) (stage : x ≡ synced Home (written Home (HEADER + 1) front v.now)) where
    staged_is : x Home ≡ staged
    staged_is = part_synced (written Home (HEADER + 1) front v.now) Home stage

    others_are : SameLogs v.now x
    others_are b other = other_synced (written Home (HEADER + 1) front v.now) Home b other stage ∙ other_written v.now Home b (HEADER + 1) front other refl

    -- and then its gate was opened
    pub opened : (z : State) → z ≡ synced Home (written Home HEADER (1 ∷ []) x) → IsOpened v.now z ns
    opened z gate_open =
        let part : z Home ≡ synced_part (written_part HEADER (1 ∷ []) staged) = part_synced (written Home HEADER (1 ∷ []) x) Home gate_open ∙ ap (λ (p : Part). synced_part (written_part HEADER (1 ∷ []) p)) staged_is in
        let seen : (i : ℕ) → (i ≡ HEADER → ⊥) → (z Home).seen i ≡ g i = λ i not. ap (λ (p : Part). p.seen i) part ∙ put_outside HEADER (1 ∷ []) g i (λ low high. not (omega arith)) in
        record {
          opened = record {
            gate = ap (λ (p : Part). p.seen HEADER) part ∙ put_inside HEADER (1 ∷ []) g 0 0 (omega arith);
            numbers = numbers_agree g (z Home).seen g_short (λ i a b. seen i (λ is. absurd (omega arith))) ∙ g_numbers;
          };
          settled = λ i. subst (λ (p : Part). Spoils p.pending i → ⊥) (sym part) (λ none. none);
          same = λ i out. seen i (λ is. ⊎_elim (λ a. absurd (omega arith)) (λ b. absurd (omega arith)) out) ∙ g_else i (⊎_elim (λ a. inl (omega arith)) (λ b. inr b) out);
          logs = λ b other. other_synced (written Home HEADER (1 ∷ []) x) Home b other gate_open ∙ other_written x Home b HEADER (1 ∷ []) other refl ∙ others_are b other;
        }

    pub opened_ok : {T E : Type 0} (r : Result T E) (z : State) → OnOk r (z ≡ synced Home (written Home HEADER (1 ∷ []) x)) → OnOk r (IsOpened v.now z ns)
    opened_ok (Ok a) z gate_open = opened z gate_open
    opened_ok (Err e) z gate_open = tt

  -- The moments.
  module _ (pages : ℕ) (ready : IsReady (v.now Home)) (batch : IsBatch pages ns) where
    abbrev target : Bytes
    target = homed ns f

    -- the old store
    old_whole : (c : Image) → ((i : ℕ) → (i ≤ HEADER) ⊎ (HOMES ≤ i) → c Home i ≡ f i) → ((i : ℕ) → c Home i < 256) → ((b : Area) → (b ≡ Home → ⊥) → LeavesPart (v.now b) (c b)) → IsWhole v.now pages f c
    old_whole c same fits others =
        let shut : c Home HEADER ≡ 1 → ⊥ = λ is. ready.closed (sym (same HEADER (inl (omega arith))) ∙ is) in
        record {
          home = λ i store. laid_shut (c Home) i shut ∙ same i (⊎_elim (λ a. inl (omega arith)) (λ b. inr b) store);
          header = λ is. absurd (shut is);
          fits = fits;
          others = others;
        }

    -- the header is being written
    writing : (c : Image) → Leaves (written Home (HEADER + 1) front v.now) c → IsWhole v.now pages f c
    writing c leaves =
        let torn = leaves_written v.now Home (HEADER + 1) front c leaves in
        let long = front_long in
        old_whole c
        (λ i out. torn.rest i (⊎_elim (untouched (HEADER + 1) (length front) i (⊎_elim (λ a. inl (omega arith)) (λ b. inr (omega arith)) out)) (ready.settled i (⊎_elim (λ a. inl (omega arith)) (λ b. inr b) out)))
        ∙ g_else i (⊎_elim (λ a. inl a) (λ b. inr (omega arith)) out))
        (leaves Home).byte
        (λ b other. leaves_other v.now Home b (HEADER + 1) front c other leaves)

    -- the gate is being opened
    torn_gate : (c : Image) → ((i : ℕ) → (i ≡ HEADER → ⊥) → c Home i ≡ g i) → ((i : ℕ) → c Home i < 256) → ((b : Area) → (b ≡ Home → ⊥) → LeavesPart (v.now b) (c b)) → IsEither v.now pages f target c
    torn_gate c same fits others =
        let numbers = numbers_agree g (c Home) g_short (λ i a b. same i (λ is. absurd (omega arith))) ∙ g_numbers in
        let apart : (i : ℕ) → (i < HEADER) ⊎ (PLACES ≤ i) → c Home i ≡ f i = λ i out. same i (λ is. ⊎_elim (λ a. absurd (omega arith)) (λ b. absurd (omega arith)) out) ∙ g_else i (⊎_elim (λ a. inl (omega arith)) (λ b. inr b) out) in
        ⊎_elim
        (λ gate. inr (record {
          home = λ i store. laid_open (c Home) i gate ∙ ap (λ (l : List ℕ). homed l (c Home) i) numbers
              ∙ over_agree ns 0 (c Home) f (c Home) f i (λ j a b. apart j (inr a)) (omega arith) (λ out. apart i (⊎_elim (λ a. inl a) (λ b. inr (omega arith)) store));
          header = λ is. subst (λ (l : List ℕ). IsBatch pages l) (sym numbers) batch;
          fits = fits;
          others = others;
        }))
        (λ shut. inl (record {
          home = λ i store. laid_shut (c Home) i shut ∙ apart i (⊎_elim (λ a. inl a) (λ b. inr (omega arith)) store);
          header = λ is. absurd (shut is);
          fits = fits;
          others = others;
        }))
        (cases_eq (c Home HEADER) 1)

    abbrev P : Image → Type 0
    P = IsEither v.now pages f target

    pub staging : {x : View} → LeavesOnly v x (Leaves (written Home (HEADER + 1) front v.now)) → LeavesOnly v x P
    staging run = weaker run (λ c leaves. inl (writing c leaves))

    module _ (x : State) (stage : x ≡ synced Home (written Home (HEADER + 1) front v.now)) where
      gate_crash : (c : Image) → Leaves (written Home HEADER (1 ∷ []) x) c → P c
      gate_crash c leaves =
          let torn : LeavesPart (written_part HEADER (1 ∷ []) staged) (c Home) = subst (λ (p : Part). LeavesPart (written_part HEADER (1 ∷ []) p) (c Home)) (staged_is x stage) (leaves_written x Home HEADER (1 ∷ []) c leaves) in
          torn_gate c
          (λ i not. other_byte staged HEADER (1 ∷ []) (c Home) refl torn i (⊎_elim (λ lt. inl lt) (λ le. inr (⊎_elim (λ at. absurd (not at)) (λ off. omega arith) (cases_eq i HEADER))) (cases_lt i HEADER)))
          (leaves Home).byte
          (λ b other. subst (λ (p : Part). LeavesPart p (c b)) (others_are x stage b other) (leaves_other x Home b HEADER (1 ∷ []) c other leaves))

    pub opening : {x z : View} → LeavesOnly v x (Leaves (written Home (HEADER + 1) front v.now)) → x.now ≡ synced Home (written Home (HEADER + 1) front v.now) → LeavesOnly x z (Leaves (written Home HEADER (1 ∷ []) x.now)) → LeavesOnly v z P
    opening {x = x} run stage gate = joined (staging run) (weaker gate (gate_crash x.now stage))

-- What is laid over is the same where the places and the store are.
pub homed_same : (f g : Bytes) (ns : List ℕ) → length ns ≤ 32 → ((i : ℕ) → IsOutside i → g i ≡ f i) → (i : ℕ) → IsOutside i → homed ns g i ≡ homed ns f i
homed_same f g ns short same i outside = over_agree ns 0 g f g f i (λ j a b. same j (inr a)) (omega arith) (λ out. same i outside)

pub outside_of : (i : ℕ) → IsStore i → IsOutside i
outside_of i store = ⊎_elim (λ a. inl a) (λ b. inr (omega arith)) store

pub whole_same : (s t : State) (pages : ℕ) (one other : Bytes) (c : Image) → ((i : ℕ) → IsOutside i → one i ≡ other i) → SameLogs s t → IsWhole t pages one c → IsWhole s pages other c
whole_same s t pages one other c same logs whole = record {
  home = λ i store. whole.home i store ∙ same i (outside_of i store);
  header = whole.header;
  fits = whole.fits;
  others = λ b not. subst (λ (p : Part). LeavesPart p (c b)) (logs b not) (whole.others b not);
}

pub done_same : (p : Part) (one other : Bytes) → ((i : ℕ) → IsOutside i → one i ≡ other i) → IsDone p one → IsDone p other
done_same p one other same done = record { closed = done.closed; settled = done.settled; bytes = λ i outside. done.bytes i outside ∙ same i outside }
