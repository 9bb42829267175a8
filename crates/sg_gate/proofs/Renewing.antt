-- The moments of a renewal.
use Rattle.std.proofs.Common.{◌≡◌, ◌⊎◌, inl, inr, ⊎_elim, ◌<◌, ◌≤◌, ◌+◌, ℕ, List, [], ◌∷◌, length, get_or, Result, Ok, Err, OnOk, refl, sym, ◌∙◌, ap, subst, arith, add-zero}
use Rattle.std.proofs.lemmas.Bool.{cases_lt, cases_eq}
use Rattle.sg_base.specs.declared.area.Area.{Area}
use Rattle.sg_base.specs.declared.area.Area.TheVariants.{Home}
use Rattle.sg_disk.specs.Disk.{Bytes, Image, Part, State, Spoils, LeavesPart, Leaves, View, Wrote, Synced, LeavesOnly, put, window, written_part, synced_part, written, synced}
use Rattle.sg_disk.proofs.Images.{put_outside}
use Rattle.sg_disk.proofs.Parts.{untouched, part_written, part_synced, leaves_written, put_inside, window_is, other_written, other_synced, leaves_other}
use Rattle.sg_disk.proofs.Moments.{started, goes_on, weaker}
use Rattle.sg_gate.specs.Layout.{HEADER}
use Rattle.sg_gate.specs.Batch.{SameLogs}
use Rattle.sg_gate.specs.Superblock.{SLOT, text_at, IsElsewhere, IsRenewing, IsRenewed, AreSettled, IsSpare, IsCalm, IsWritten}
use Rattle.sg_gate.specs.declared.superblock.Super.{Super}
use Rattle.sg_gate.proofs.Slots.{superblock_agree}

text_is : (f : Bytes) (b : ℕ) (text : List ℕ) → length text ≡ 43 → ((k : ℕ) → k < 43 → f (b + 1 + k) ≡ get_or text k 0) → text_at f b ≡ text
unfolding text_at
text_is f b text long are = ap (λ (n : ℕ). window f (b + 1) n) (sym long) ∙ window_is f (b + 1) text (λ k lt. are k (omega arith))

-- one byte is written: all others are as they were
other_than : (b i : ℕ) → (i ≡ b → ⊥) → (i < b) ⊎ (b + 1 ≤ i)
other_than b i not = ⊎_elim (λ lt. inl lt) (λ le. inr (⊎_elim (λ is. absurd (not is)) (λ off. omega arith) (cases_eq i b))) (cases_lt i b)

one_byte : (f : Bytes) (b x i : ℕ) → (i ≡ b → ⊥) → put b (x ∷ []) f i ≡ f i
one_byte f b x i not = put_outside b (x ∷ []) f i (λ lo hi. not (omega arith))

that_byte : (f : Bytes) (b x : ℕ) → put b (x ∷ []) f b ≡ x
that_byte f b x = ap (put b (x ∷ []) f) (sym (add-zero b)) ∙ put_inside b (x ∷ []) f 0 0 (omega arith)

-- THE SLOT IS WRITTEN, and its gate is open
module _ (b : ℕ) (text : List ℕ) (long : length text ≡ 43) (w x y : State) (one : x ≡ written Home (b + 1) text w) (two : y ≡ synced Home x) where
  part : y Home ≡ synced_part (written_part (b + 1) text (w Home))
  part = part_synced x Home two ∙ ap synced_part (part_written w Home (b + 1) text one)

  logs : SameLogs w y
  logs a other = other_synced x Home a other two ∙ other_written w Home a (b + 1) text other one

  elsewhere : (i : ℕ) → IsElsewhere b i → put (b + 1) text (w Home).seen i ≡ (w Home).seen i
  elsewhere i out = put_outside (b + 1) text (w Home).seen i (λ lo hi. ⊎_elim (λ p. absurd (omega arith)) (λ p. absurd (omega arith)) out)

  pub slot_written : (z u : State) → z ≡ written Home b (1 ∷ []) y → u ≡ synced Home z → IsWritten w u b text
  slot_written z u three four =
      let last : u Home ≡ synced_part (written_part b (1 ∷ []) (y Home)) = part_synced z Home four ∙ ap synced_part (part_written y Home b (1 ∷ []) three) in
      let seen : (i : ℕ) → (i ≡ b → ⊥) → (u Home).seen i ≡ put (b + 1) text (w Home).seen i = λ i not. ap (λ (p : Part). p.seen i) last ∙ one_byte (y Home).seen b 1 i not ∙ ap (λ (p : Part). p.seen i) part in
      record {
        gate = ap (λ (p : Part). p.seen b) last ∙ that_byte (y Home).seen b 1;
        text_there = text_is (u Home).seen b text long (λ k lt. seen (b + 1 + k) (λ is. absurd (omega arith)) ∙ put_inside (b + 1) text (w Home).seen k 0 (omega arith));
        settled = λ i. subst (λ (p : Part). Spoils p.pending i → ⊥) (sym last) (λ none. none);
        same = λ i out. seen i (λ is. ⊎_elim (λ p. absurd (omega arith)) (λ p. absurd (omega arith)) out) ∙ elsewhere i out;
        others = λ a other. other_synced z Home a other four ∙ other_written y Home a b (1 ∷ []) other three ∙ logs a other;
      }

-- The moments.
module _ (v : View) (b : ℕ) (new : Super) (text : List ℕ) (spare : IsSpare (v.now Home).seen new text b) (rested : AreSettled (v.now Home)) where
  abbrev f : Bytes
  f = (v.now Home).seen

  abbrev P : Image → Type 0
  P = IsRenewing v.now new b

  low : b + SLOT ≤ HEADER
  low = ⊎_elim (λ a. omega arith) (λ a. omega arith) spare.place

  -- an image in which the slot's gate is closed
  calm_image : (c : Image) → ((i : ℕ) → IsElsewhere b i → (Spoils (v.now Home).pending i → ⊥) → c Home i ≡ f i) → (c Home b ≡ 1 → ⊥) → ((i : ℕ) → c Home i < 256) → ((a : Area) → (a ≡ Home → ⊥) → LeavesPart (v.now a) (c a)) → P c
  calm_image c rest shut fits others = record { super = inl (spare.calm (c Home) (λ i lt out. rest i out (rested i lt)) shut); rest = rest; fits = fits; others = others }

  at_rest : (c : Image) → Leaves v.now c → P c
  at_rest c leaves = record {
    super = inl (superblock_agree f (c Home) (λ i lt. (leaves Home).rest i (rested i lt)));
    rest = λ i out whole. (leaves Home).rest i whole;
    fits = (leaves Home).byte;
    others = λ a other. leaves a;
  }

  pub starts : LeavesOnly v v P
  starts = started v P at_rest

  -- calls that only read
  pub after_reads : {w : View} → LeavesOnly v w (Leaves v.now) → LeavesOnly v w P
  after_reads run = weaker run at_rest

  -- a slot that is closed already
  pub calm_at_once : (w : State) → w ≡ v.now → (f b ≡ 1 → ⊥) → IsCalm v.now w b
  calm_at_once w same shut = subst (λ (t : State). IsCalm v.now t b) (sym same) (record { shut = shut; same = λ i out. refl; settled = rested; pending = λ i spoils. spoils; others = λ a other. refl })

  -- while its gate is closed
  closing : (f b ≡ 1) → (c : Image) → Leaves (written Home b (0 ∷ []) v.now) c → P c
  closing is_open c leaves =
      let torn = leaves_written v.now Home b (0 ∷ []) c leaves in
      let l = low in
      let byte : (i : ℕ) → (i ≡ b → ⊥) → (Spoils (v.now Home).pending i → ⊥) → c Home i ≡ f i = λ i not whole.
      torn.rest i (⊎_elim (untouched b 1 i (other_than b i not)) whole) ∙ one_byte f b 0 i not in
      let rest : (i : ℕ) → IsElsewhere b i → (Spoils (v.now Home).pending i → ⊥) → c Home i ≡ f i = λ i out whole.
      byte i (λ is. ⊎_elim (λ p. absurd (omega arith)) (λ p. absurd (omega arith)) out) whole in
      record {
        super = inl (⊎_elim
            (λ is. superblock_agree f (c Home) (λ i lt. ⊎_elim (λ at. ap (c Home) at ∙ is ∙ sym is_open ∙ ap f (sym at)) (λ not. byte i not (rested i lt)) (cases_eq i b)))
            (λ shut. spare.calm (c Home) (λ i lt out. rest i out (rested i lt)) shut)
            (cases_eq (c Home b) 1));
        rest = rest;
        fits = (leaves Home).byte;
        others = λ a other. leaves_other v.now Home a b (0 ∷ []) c other leaves;
      }

  pub after_close : {T E : Type 0} {w : View} {r : Result T E} → f b ≡ 1 → Wrote Home b (0 ∷ []) v w r → LeavesOnly v w P
  after_close is_open one = goes_on starts one (closing is_open)

  pub after_closed : {T E : Type 0} {w x : View} {p : T} {r : Result T E} → f b ≡ 1 → Wrote {E = E} Home b (0 ∷ []) v w (Ok p) → Synced Home w x r → LeavesOnly v x P
  after_closed is_open one two = goes_on (after_close is_open one) two (λ c leaves. closing is_open c (subst (λ (q : State). Leaves q c) one.ok leaves))

  -- the slot is written behind its closed gate
  module _ (long : length text ≡ 43) (w : State) (calm : IsCalm v.now w b) where
    calm_leaves : (c : Image) → Leaves w c → P c
    calm_leaves c leaves = calm_image c
        (λ i out whole. (leaves Home).rest i (λ spoils. whole (calm.pending i spoils)) ∙ calm.same i out)
        (λ is. calm.shut (sym ((leaves Home).rest b (calm.settled b (let l = low in omega arith))) ∙ is))
        (leaves Home).byte
        (λ a other. subst (λ (p : Part). LeavesPart p (c a)) (calm.others a other) (leaves a))

    -- while its text is written
    text_leaves : (c : Image) → Leaves (written Home (b + 1) text w) c → P c
    text_leaves c leaves =
        let torn = leaves_written w Home (b + 1) text c leaves in
        let l = low in
        let byte : (i : ℕ) → (i < b + 1) ⊎ (b + 1 + length text ≤ i) → (Spoils (w Home).pending i → ⊥) → c Home i ≡ (w Home).seen i = λ i out whole.
        torn.rest i (⊎_elim (untouched (b + 1) (length text) i out) whole) ∙ put_outside (b + 1) text (w Home).seen i (λ lo hi. ⊎_elim (λ p. absurd (omega arith)) (λ p. absurd (omega arith)) out) in
        calm_image c
        (λ i out whole. byte i (⊎_elim (λ p. inl (omega arith)) (λ p. inr (omega arith)) out) (λ spoils. whole (calm.pending i spoils)) ∙ calm.same i out)
        (λ is. calm.shut (sym (byte b (inl (omega arith)) (calm.settled b (omega arith))) ∙ is))
        (leaves Home).byte
        (λ a other. subst (λ (p : Part). LeavesPart p (c a)) (calm.others a other) (leaves_other w Home a (b + 1) text c other leaves))

    -- while its gate is opened
    gate_leaves : (x y : State) → x ≡ written Home (b + 1) text w → y ≡ synced Home x → (c : Image) → Leaves (written Home b (1 ∷ []) y) c → P c
    gate_leaves x y one two c leaves =
        let torn = leaves_written y Home b (1 ∷ []) c leaves in
        let is_part = part b text long w x y one two in
        let none : (i : ℕ) → Spoils (y Home).pending i → ⊥ = λ i. subst (λ (p : Part). Spoils p.pending i → ⊥) (sym is_part) (λ no_range. no_range) in
        let byte : (i : ℕ) → (i ≡ b → ⊥) → c Home i ≡ put (b + 1) text (w Home).seen i = λ i not.
        torn.rest i (⊎_elim (untouched b 1 i (other_than b i not)) (none i)) ∙ one_byte (y Home).seen b 1 i not ∙ ap (λ (p : Part). p.seen i) is_part in
        let same : (i : ℕ) → IsElsewhere b i → c Home i ≡ f i = λ i out.
        byte i (λ is. ⊎_elim (λ p. absurd (omega arith)) (λ p. absurd (omega arith)) out) ∙ elsewhere b text long w x y one two i out ∙ calm.same i out in
        let others : (a : Area) → (a ≡ Home → ⊥) → LeavesPart (v.now a) (c a) = λ a other.
        subst (λ (p : Part). LeavesPart p (c a)) (logs b text long w x y one two a other ∙ calm.others a other) (leaves_other y Home a b (1 ∷ []) c other leaves) in
        let there : text_at (c Home) b ≡ text = text_is (c Home) b text long (λ k lt. byte (b + 1 + k) (λ is. absurd (omega arith)) ∙ put_inside (b + 1) text (w Home).seen k 0 (omega arith)) in
        ⊎_elim
        (λ is. record { super = inr (spare.fresh (c Home) (λ i lt out. same i out) is there); rest = λ i out whole. same i out; fits = (leaves Home).byte; others = others })
        (λ shut. calm_image c (λ i out whole. same i out) shut (leaves Home).byte others)
        (cases_eq (c Home b) 1)

  -- the calls
  module _ (long : length text ≡ 43) (w : View) (so_far : LeavesOnly v w P) (calm : IsCalm v.now w.now b) where
    pub after_text : {T E : Type 0} {x : View} {r : Result T E} → Wrote Home (b + 1) text w x r → LeavesOnly v x P
    after_text one = goes_on so_far one (text_leaves long w.now calm)

    pub after_sync : {T E : Type 0} {x y : View} {p : T} {r : Result T E} → Wrote {E = E} Home (b + 1) text w x (Ok p) → Synced Home x y r → LeavesOnly v y P
    after_sync one two = goes_on (after_text one) two (λ c leaves. text_leaves long w.now calm c (subst (λ (q : State). Leaves q c) one.ok leaves))

    pub after_gate : {T E : Type 0} {x y z : View} {p q : T} {r : Result T E} → Wrote {E = E} Home (b + 1) text w x (Ok p) → Synced {E = E} Home x y (Ok q) → Wrote Home b (1 ∷ []) y z r → LeavesOnly v z P
    after_gate {x = x} {y = y} one two three = goes_on (after_sync one two) three (gate_leaves long w.now calm x.now y.now one.ok two.ok)

    pub after_last : {T E : Type 0} {x y z u : View} {p q s : T} {r : Result T E} → Wrote {E = E} Home (b + 1) text w x (Ok p) → Synced {E = E} Home x y (Ok q) → Wrote {E = E} Home b (1 ∷ []) y z (Ok s) → Synced Home z u r → LeavesOnly v u P
    after_last {x = x} {y = y} one two three four = goes_on (after_gate one two three) four (λ c leaves. gate_leaves long w.now calm x.now y.now one.ok two.ok c (subst (λ (t : State). Leaves t c) three.ok leaves))

-- A slot that is closed is calm afterwards.
pub closed_calm : (s t u : State) (b : ℕ) → t ≡ written Home b (0 ∷ []) s → u ≡ synced Home t → IsCalm s u b
closed_calm s t u b one two =
    let last : u Home ≡ synced_part (written_part b (0 ∷ []) (s Home)) = part_synced t Home two ∙ ap synced_part (part_written s Home b (0 ∷ []) one) in
    let gate : (u Home).seen b ≡ 0 = ap (λ (p : Part). p.seen b) last ∙ that_byte (s Home).seen b 0 in
    record {
      shut = λ is. absurd (omega arith);
      same = λ i out. ap (λ (p : Part). p.seen i) last ∙ one_byte (s Home).seen b 0 i (λ is. ⊎_elim (λ p. absurd (omega arith)) (λ p. absurd (omega arith)) out);
      settled = λ i lt. subst (λ (p : Part). Spoils p.pending i → ⊥) (sym last) (λ none. none);
      pending = λ i. subst (λ (p : Part). Spoils p.pending i → Spoils (s Home).pending i) (sym last) (λ none. absurd none);
      others = λ a other. other_synced t Home a other two ∙ other_written s Home a b (0 ∷ []) other one;
    }

-- A slot that is written is renewed, over a state that differs from the first in this slot alone.
pub is_renewed : (r s t : State) (new : Super) (text : List ℕ) (b : ℕ) → ((i : ℕ) → IsElsewhere b i → (s Home).seen i ≡ (r Home).seen i) → SameLogs r s → IsSpare (r Home).seen new text b → IsWritten s t b text → IsRenewed r t new b
is_renewed r s t new text b same logs spare is = record {
  super = spare.fresh (t Home).seen (λ i lt out. is.same i out ∙ same i out) is.gate is.text_there;
  settled = is.settled;
  rest = λ i out. is.same i out ∙ same i out;
  others = λ a other. is.others a other ∙ logs a other;
}

pub renewed_ok : {T E : Type 0} (result : Result T E) (r s t : State) (new : Super) (text : List ℕ) (b : ℕ) → ((i : ℕ) → IsElsewhere b i → (s Home).seen i ≡ (r Home).seen i) → SameLogs r s → IsSpare (r Home).seen new text b
    → OnOk result (IsWritten s t b text) → OnOk result (IsRenewed r t new b)
renewed_ok (Ok x) r s t new text b same logs_same spare is = is_renewed r s t new text b same logs_same spare is
renewed_ok (Err e) r s t new text b same logs spare is = tt
