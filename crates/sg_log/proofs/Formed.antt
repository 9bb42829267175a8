-- What the bytes of a frame say of it.
use Rattle.std.proofs.Common.{◌≡◌, ℕ, ◌+◌, ◌<◌, ◌≤◌, List, [], ◌∷◌, ◌++◌, length, take, drop, get_or, refl, sym, ◌∙◌, ap, subst, arith, add-one, length-append}
use Rattle.byteorder.specs.Endian.{little_bytes, little_number}
use Rattle.byteorder.specs.Numbers.{little_number-reads_back}
use Rattle.sg_disk.specs.Disk.{Bytes, window}
use Rattle.sg_record.specs.Records.{Record, spelled}
use Rattle.sg_log.specs.Texts.{spelled_all}
use Rattle.sg_log.proofs.Texts.{spelled-long}
use Rattle.sg_log.specs.Formed.{IsWhole, HasBody, IsFormed, IsUnformed}
use Rattle.sg_log.specs.Frames.{GREATEST_BODY, LOG_END, text_of, gate_after}
use Rattle.sg_log.proofs.Holding.{text-length}
use Rattle.sg_log.proofs.Windows.{window-add, window_front, window_back}

-- a frame's first 5 bytes are its gate and its length
pub head_is : (f : Bytes) (at : ℕ) → window f at 5 ≡ f at ∷ window f (at + 1) 4
head_is f at = ap (λ (k : ℕ). f at ∷ window f k 4) (sym (add-one at))

pub body_place : (at : ℕ) → at + 1 + 4 ≡ at + 5
body_place at = omega arith

module _ (f : Bytes) (at : ℕ) (body : List ℕ) (h : HasBody f at body) where
  -- the length that is read is the body's
  pub stated_length : length body ≤ GREATEST_BODY → (bytes : List ℕ) (n : ℕ) → bytes ≡ window f (at + 1) 4 → n ≡ little_number 4 bytes → n ≡ length body
  stated_length most bytes n is value =
      let stated = window_front f (at + 1) (little_bytes 4 (length body)) body h.text in
      value ∙ (ap (little_number 4) (is ∙ stated) ∙ little_number-reads_back 4 (length body) [] (omega (arith, most)))

  -- and so is the body
  pub stated_body : window f (at + 5) (length body) ≡ body
  stated_body = ap (λ (k : ℕ). window f k (length body)) (sym (body_place at)) ∙ window_back f (at + 1) (little_bytes 4 (length body)) body h.text

-- one body stands at an offset
pub body_one : (f : Bytes) (at : ℕ) (a b : List ℕ) → HasBody f at a → HasBody f at b → length a ≤ GREATEST_BODY → length b ≤ GREATEST_BODY → a ≡ b
body_one f at a b h k most_a most_b =
    let n = little_number 4 (window f (at + 1) 4) in
    let size : length a ≡ length b = sym (stated_length f at a h most_a (window f (at + 1) 4) n refl refl) ∙ stated_length f at b k most_b (window f (at + 1) 4) n refl refl in
    sym (stated_body f at a h) ∙ (ap (window f (at + 5)) size ∙ stated_body f at b k)

-- the body of a formed frame
pub body_of_frame : {f : Bytes} {at : ℕ} {rs : List Record} → IsFormed f at rs → HasBody f at (spelled_all rs)
body_of_frame h = record { gate = h.gate; text = h.text }

module _ (f : Bytes) (at : ℕ) (rs : List Record) (h : IsFormed f at rs) where
  pub formed_length : (bytes : List ℕ) (n : ℕ) → bytes ≡ window f (at + 1) 4 → n ≡ little_number 4 bytes → n ≡ length (spelled_all rs)
  formed_length bytes n is value = stated_length f at (spelled_all rs) (body_of_frame h) h.frame.most bytes n is value

  pub formed_body : window f (at + 5) (length (spelled_all rs)) ≡ spelled_all rs
  formed_body = stated_body f at (spelled_all rs) (body_of_frame h)

  pub formed_some : 0 < length (spelled_all rs)
  formed_some = by_records rs h.frame.some where
    by_records : (ss : List Record) → (ss ≡ [] → ⊥) → 0 < length (spelled_all ss)
    by_records [] some = absurd (some refl)
    by_records (s ∷ ss) some = omega (arith, length-append (spelled s) (spelled_all ss), spelled-long s)

-- these bytes are a frame with a body
pub body_by : (f : Bytes) (at : ℕ) (head body : List ℕ) (size : ℕ) → head ≡ window f at 5 → get_or head 0 0 ≡ 1 → little_bytes 4 size ≡ take 4 (take 4 (drop 1 head)) → body ≡ window f (at + 5) size → length body ≡ size → HasBody f at body
body_by f at head body size is gate stated body_is long =
    let number : window f (at + 1) 4 ≡ little_bytes 4 size = sym (stated ∙ ap (λ (xs : List ℕ). take 4 (take 4 (drop 1 xs))) (is ∙ head_is f at)) in
    let place : window f (at + 1 + 4) size ≡ body = ap (λ (k : ℕ). window f k size) (body_place at) ∙ sym body_is in
    let whole : window f (at + 1) (4 + size) ≡ little_bytes 4 size ++ body = window-add f (at + 1) 4 size ∙ (ap (λ (xs : List ℕ). xs ++ window f (at + 1 + 4) size) number ∙ ap (λ (xs : List ℕ). little_bytes 4 size ++ xs) place) in
    let P : ℕ → Type 0 = λ n. window f (at + 1) (length (little_bytes 4 n ++ body)) ≡ little_bytes 4 n ++ body in
    let sum : length (little_bytes 4 size ++ body) ≡ 4 + size = length-append (little_bytes 4 size) body ∙ omega arith in
    let at_size : P size = ap (window f (at + 1)) sum ∙ whole in
    record {
      gate = sym (ap (λ (xs : List ℕ). get_or xs 0 0) (is ∙ head_is f at)) ∙ gate;
      text = subst P (sym long) at_size;
    }

-- a body that is whole records is a formed frame's
pub formed_by : (f : Bytes) (at : ℕ) (body : List ℕ) → HasBody f at body → 0 < length body → length body ≤ GREATEST_BODY → (w : IsWhole body) → IsFormed f at w.records
formed_by f at body h some most w =
    let P : List ℕ → Type 0 = λ xs. window f (at + 1) (length (text_of xs)) ≡ text_of xs in
    record {
      gate = h.gate;
      frame = record { some = λ none. absurd (omega (arith, ap (λ (rs : List Record). length (spelled_all rs)) none, ap length w.spelling)); most = omega (arith, ap length w.spelling); fields = w.fields };
      text = subst P (sym w.spelling) h.text;
    }

-- where they stand, the frame ends there
pub formed_end : (at : ℕ) (rs : List Record) → gate_after at (rs ∷ []) ≡ at + 5 + length (spelled_all rs)
formed_end at rs = omega (arith, text-length (spelled_all rs))

-- a length that is none, or too great, or leads behind the log's end
pub unformed_length : (f : Bytes) (base at : ℕ) (head : List ℕ) (size : ℕ) → head ≡ window f at 5 → get_or head 0 0 ≡ 1 → size ≡ little_number 4 (take 4 (drop 1 head)) → (0 < size → size ≤ GREATEST_BODY → base + (at + 5 + size) ≤ LOG_END → ⊥) → IsUnformed f base at
unformed_length f base at head size is gate value wrong = record {
  gate = sym (ap (λ (xs : List ℕ). get_or xs 0 0) (is ∙ head_is f at)) ∙ gate;
  none = λ rs h within.
      let n : size ≡ length (spelled_all rs) = formed_length f at rs h (take 4 (drop 1 head)) size (ap (λ (xs : List ℕ). take 4 (drop 1 xs)) (is ∙ head_is f at)) value in
      wrong (omega (arith, formed_some f at rs h)) (omega (arith, h.frame.most)) (omega (arith, formed_end at rs));
}

-- a body that isn't whole records
pub unformed_body : (f : Bytes) (base at : ℕ) (body : List ℕ) → HasBody f at body → length body ≤ GREATEST_BODY → (IsWhole body → ⊥) → IsUnformed f base at
unformed_body f base at body h most wrong = record {
  gate = h.gate;
  none = λ rs k within. wrong (record { records = rs; fields = k.frame.fields; spelling = body_one f at (spelled_all rs) body (body_of_frame k) h k.frame.most most });
}
