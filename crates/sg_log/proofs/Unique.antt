-- The records that an area holds are one list at most.
use Rattle.std.proofs.Common.{◌≡◌, ℕ, zero, suc, ◌+◌, ◌<◌, ◌≤◌, List, [], ◌∷◌, ◌++◌, length, drop, get_or, refl, sym, ◌∙◌, ap, subst, arith, add-zero}
use Rattle.byteorder.specs.Endian.{little_bytes}
use Rattle.sg_disk.specs.Disk.{Bytes, window}
use Rattle.sg_record.specs.Records.{Record}
use Rattle.sg_log.specs.Texts.{spelled_all}
use Rattle.sg_log.proofs.Texts.{spelled_all-one}
use Rattle.sg_log.specs.Frames.{GREATEST_BODY, text_of, Frames, Numbered, numbered_in, gate_after, HasRecords}

-- the bytes of a window, one by one
read_window : (f : Bytes) (at n k : ℕ) → k < n → get_or (window f at n) k 0 ≡ f (at + k)
read_window f at zero k lt = absurd (omega arith)
read_window f at (suc n) zero lt = ap f (sym (add-zero at))
read_window f at (suc n) (suc k) lt = read_window f (suc at) n k (omega arith) ∙ ap f (moved at k) where
  moved : (at k : ℕ) → suc at + k ≡ at + suc k
  moved at k = omega arith

byte_of : (f : Bytes) (at : ℕ) (body : List ℕ) (k : ℕ) → window f at (length (text_of body)) ≡ text_of body → k < 4 → get_or (text_of body) k 0 ≡ f (at + k)
byte_of f at body k is lt = ap (λ (xs : List ℕ). get_or xs k 0) (sym is) ∙ read_window f at (length (text_of body)) k (omega arith)

same_length : (f : Bytes) (at : ℕ) (a b : List ℕ) → length a ≤ GREATEST_BODY → length b ≤ GREATEST_BODY → window f at (length (text_of a)) ≡ text_of a → window f at (length (text_of b)) ≡ text_of b → length a ≡ length b
same_length f at a b most_a most_b is_a is_b =
    let byte = λ (k : ℕ) (lt : k < 4). byte_of f at a k is_a lt ∙ sym (byte_of f at b k is_b lt) in
    let e0 : get_or (text_of a) 0 0 ≡ get_or (text_of b) 0 0 = byte 0 (omega arith) in
    let e1 : get_or (text_of a) 1 0 ≡ get_or (text_of b) 1 0 = byte 1 (omega arith) in
    let e2 : get_or (text_of a) 2 0 ≡ get_or (text_of b) 2 0 = byte 2 (omega arith) in
    let e3 : get_or (text_of a) 3 0 ≡ get_or (text_of b) 3 0 = byte 3 (omega arith) in
    omega (arith, e0, e1, e2, e3)

-- a list without its first four
body_back : (n : ℕ) (body : List ℕ) → drop 4 (little_bytes 4 n ++ body) ≡ body
body_back n body = refl

same_text : (f : Bytes) (at : ℕ) (a b : List ℕ) → length a ≤ GREATEST_BODY → length b ≤ GREATEST_BODY → window f at (length (text_of a)) ≡ text_of a → window f at (length (text_of b)) ≡ text_of b → a ≡ b
same_text f at a b most_a most_b is_a is_b =
    let size = same_length f at a b most_a most_b is_a is_b in
    let long : length (text_of a) ≡ length (text_of b) = omega arith in
    let texts : text_of a ≡ text_of b = sym is_a ∙ ap (window f at) long ∙ is_b in
    sym (body_back (length a) a) ∙ ap (drop 4) texts ∙ body_back (length b) b

pub Frames-one : (f : Bytes) (at : ℕ) (frames others : List (List Record)) → Frames f at frames → Frames f at others → frames ≡ others
Frames-one f at [] [] h k = refl
Frames-one f at [] (ss ∷ others) h k = absurd (h k.0)
Frames-one f at (rs ∷ frames) [] h k = absurd (k h.0)
Frames-one f at (rs ∷ frames) (ss ∷ others) h k =
    let text = same_text f (at + 1) (spelled_all rs) (spelled_all ss) h.1.most k.1.most h.2 k.2 in
    let same : rs ≡ ss = spelled_all-one rs ss h.1.fields k.1.fields text in
    let size : length (text_of (spelled_all rs)) ≡ length (text_of (spelled_all ss)) = ap (λ (xs : List ℕ). length (text_of xs)) text in
    let more = Frames-one f (at + 1 + length (text_of (spelled_all ss))) frames others (subst (λ (n : ℕ). Frames f (at + 1 + n) frames) size h.3) k.3 in
    let P : List Record → List (List Record) → List (List Record) = λ x xs. x ∷ xs in
    ap (λ (x : List Record). P x frames) same ∙ ap (P ss) more

-- the records that an area holds are determined
pub HasRecords-one : {f : Bytes} {base gate to : ℕ} {rs ss : List Numbered} → HasRecords f base gate rs → HasRecords f base to ss → rs ≡ ss
HasRecords-one {f = f} {base = base} h k = sym h.all ∙ ap (numbered_in base) (Frames-one f 0 h.frames k.frames h.stand k.stand) ∙ k.all

-- and so is the gate behind them
pub HasRecords-gate : {f : Bytes} {base gate to : ℕ} {rs ss : List Numbered} → HasRecords f base gate rs → HasRecords f base to ss → gate ≡ to
HasRecords-gate {f = f} {base = base} h k = h.at_gate ∙ ap (λ (frames : List (List Record)). base + gate_after 0 frames) (Frames-one f 0 h.frames k.frames h.stand k.stand) ∙ sym k.at_gate
