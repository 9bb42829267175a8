-- The bytes of windows, and the records and frames that stand in them.
use Rattle.std.proofs.Common.{◌≡◌, ℕ, zero, suc, ◌+◌, ◌-◌, ◌≤◌, Option, Some, None, IfSome, List, ◌∷◌, ◌++◌, length, take, drop, refl, sym, ◌∙◌, ap, arith, add-zero, zero-add, length-append, length-take}
use Rattle.std.proofs.Math.Seq.{take-append_seam, drop-append_seam}
use Rattle.std.proofs.lemmas.List.{length-take-le, take-take}
use Rattle.sg_base.specs.declared.area.Area.{Area}
use Rattle.byteorder.specs.Endian.{little_bytes, little_number}
use Rattle.byteorder.specs.Numbers.{little_number-reads_back}
use Rattle.sg_disk.specs.Disk.{Bytes, State, window}
use Rattle.sg_log.specs.Places.{IsRecordText}
use Rattle.sg_record.proofs.Parsing.{body_most}
use Rattle.sg_record.specs.Records.{header}
use Rattle.sg_record.specs.Records.{Record, HEADER, kind_of, body_of, spelled, code_of}
use Rattle.sg_record.specs.Ranges.{IsRecord}

pub window-length : (f : Bytes) (at n : ℕ) → length (window f at n) ≡ n
window-length f at zero = refl
window-length f at (suc n) = ap suc (window-length f (suc at) n)

-- a window is one window and then another
pub window-add : (f : Bytes) (at m n : ℕ) → window f at (m + n) ≡ window f at m ++ window f (at + m) n
window-add f at zero n = ap (window f at) (zero-add n) ∙ ap (λ (k : ℕ). window f k n) (sym (add-zero at))
window-add f at (suc m) n =
    let sum : suc m + n ≡ suc (m + n) = omega arith in
    let place : suc at + m ≡ at + suc m = omega arith in
    ap (window f at) sum ∙ ap (λ (xs : List ℕ). f at ∷ xs) (window-add f (suc at) m n ∙ ap (λ (k : ℕ). window f (suc at) m ++ window f k n) place)

-- where two texts stand one after the other, each stands there
module _ (f : Bytes) (at : ℕ) (xs ys : List ℕ) (is : window f at (length (xs ++ ys)) ≡ xs ++ ys) where
  both : window f at (length xs) ++ window f (at + length xs) (length ys) ≡ xs ++ ys
  both = sym (window-add f at (length xs) (length ys)) ∙ (ap (window f at) (sym (length-append xs ys)) ∙ is)

  pub window_front : window f at (length xs) ≡ xs
  window_front =
      let w = window f at (length xs) in
      let v = window f (at + length xs) (length ys) in
      sym (take-append_seam w v) ∙ (ap (λ (n : ℕ). take n (w ++ v)) (window-length f at (length xs)) ∙ (ap (take (length xs)) both ∙ take-append_seam xs ys))

  pub window_back : window f (at + length xs) (length ys) ≡ ys
  window_back =
      let w = window f at (length xs) in
      let v = window f (at + length xs) (length ys) in
      sym (drop-append_seam w v) ∙ (ap (λ (n : ℕ). drop n (w ++ v)) (window-length f at (length xs)) ∙ (ap (drop (length xs)) both ∙ drop-append_seam xs ys))

-- what stands at the front of a longer window
pub window_begins : (f : Bytes) (at count : ℕ) (text : List ℕ) → window f at (length text) ≡ text → length text ≤ count → window f at count ≡ text ++ window f (at + length text) (count - length text)
window_begins f at count text is fits =
    let sum : count ≡ length text + (count - length text) = omega arith in
    ap (window f at) sum ∙ (window-add f at (length text) (count - length text) ∙ ap (λ (xs : List ℕ). xs ++ window f (at + length text) (count - length text)) is)

-- what a read gives after calls that changed nothing
pub read_there : {s t : State} {bytes : List ℕ} (area : Area) (at size : ℕ) (space : List ℕ) → bytes ≡ window (t area).seen at (length (take size space)) → t ≡ s → size ≤ length space → bytes ≡ window (s area).seen at size
read_there {s = s} area at size space is same fits =
    is ∙ (ap (λ (u : State). window (u area).seen at (length (take size space))) same ∙ ap (window (s area).seen at) (length-take-le size space fits))

-- the length that a record's header states
pub size_read : (f : Bytes) (at : ℕ) (r : Record) (bytes : List ℕ) → IsRecord r → window f at (length (spelled r)) ≡ spelled r → bytes ≡ window f at 21 → little_number 4 (take 20 (drop 1 bytes)) ≡ length (spelled r)
unfolding spelled
size_read f at r bytes fields text is =
    let front : List ℕ = header (code_of (kind_of r.says)) (HEADER + length (body_of r.says)) r.transaction r.previous in
    let read : bytes ≡ front = is ∙ window_front f at front (body_of r.says) text in
    ap (λ (xs : List ℕ). little_number 4 (take 20 (drop 1 xs))) read
    ∙ (little_number-reads_back 4 (HEADER + length (body_of r.says)) (little_bytes 8 r.transaction ++ little_bytes 8 r.previous) (omega (arith, body_most r fields)) ∙ sym (length-append front (body_of r.says)))

-- bytes read to the front of a buffer
pub front_read : (bytes more : List ℕ) (count : ℕ) → length bytes ≡ count → take count (bytes ++ more) ≡ bytes
front_read bytes more count long = ap (λ (n : ℕ). take n (bytes ++ more)) (sym long) ∙ take-append_seam bytes more

-- a record at the front of some of the bytes is at the front of all
pub longer_text : (xs : List ℕ) (count n : ℕ) → IsRecordText (take n (take count xs)) n → IsRecordText (take n xs) n
longer_text xs count n h =
    let fits : n ≤ count = omega (arith, h.long, ap length h.text, length-take n (take count xs), length-take count xs) in
    record { is = h.is; fields = h.fields; text = sym (take-take n count xs fits) ∙ h.text; long = h.long }

pub longer_texts : (xs : List ℕ) (count : ℕ) (o : Option ℕ) → IfSome o (λ n. IsRecordText (take n (take count xs)) n) → IfSome o (λ n. IsRecordText (take n xs) n)
longer_texts xs count None h = tt
longer_texts xs count (Some n) h = longer_text xs count n h

-- what is decoded of a window that begins with a record
pub found_there : (f : Bytes) (at count : ℕ) (bytes more : List ℕ) (r : Record) → bytes ≡ window f at count → length bytes ≡ count → length (spelled r) ≤ count → window f at (length (spelled r)) ≡ spelled r
    → take count (bytes ++ more) ≡ spelled r ++ window f (at + length (spelled r)) (count - length (spelled r))
found_there f at count bytes more r is long fits text = front_read bytes more count long ∙ (is ∙ window_begins f at count (spelled r) text fits)

pub text_there : (f : Bytes) (at count : ℕ) (bytes more : List ℕ) (r : Record) → bytes ≡ window f at count → length bytes ≡ count → length (spelled r) ≤ count → window f at (length (spelled r)) ≡ spelled r → take (length (spelled r)) (bytes ++ more) ≡ spelled r
text_there f at count bytes more r is long fits text =
    let n = length (spelled r) in
    sym (take-take n count (bytes ++ more) fits) ∙ (ap (take n) (found_there f at count bytes more r is long fits text) ∙ take-append_seam (spelled r) (window f (at + n) (count - n)))
