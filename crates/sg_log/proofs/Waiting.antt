-- The records of a buffer, and the lengths of records.
use Rattle.std.proofs.Common.{◌≡◌, ℕ, ◌+◌, ◌-◌, ◌<◌, ◌≤◌, List, ◌++◌, Result, IsOk, OnErr, Ok, Err, length, take, drop, ◌∙◌, ap, arith, length-append, length-take, length-drop}
use Rattle.std.proofs.Math.Seq.{drop-append_seam, take-append_seam}
use Rattle.sg_record.specs.Records.{Record, spelled}
use Rattle.sg_record.specs.Ranges.{GREATEST}
use Rattle.sg_log.proofs.Texts.{spelled-long}
use Rattle.sg_log.specs.Held.{Tail, tail_of}
use Rattle.sg_log.specs.Places.{IsRecordText, IsWaiting}
use Rattle.sg_log.proofs.Holding.{spelled_most, tail_behind}
use Rattle.sg_log.proofs.Windows.{front_read}

-- what stands in the buffer from a waiting record's number on
module _ (log : Tail) (lsn : ℕ) (r : Record) (h : IsWaiting log lsn r) where
  pub waiting_front : log.gate + 5 ≤ lsn
  waiting_front = omega (arith, h.place)

  pub waiting_before : lsn < log.gate + 5 + length log.buffer
  waiting_before = omega (arith, h.place, ap length h.buffer, length-append h.front (spelled r ++ h.back), length-append (spelled r) h.back, spelled-long r)

  pub waiting_text : drop (lsn - (log.gate + 5)) log.buffer ≡ spelled r ++ h.back
  waiting_text =
      let n : lsn - (log.gate + 5) ≡ length h.front = omega (arith, h.place) in
      ap (λ (k : ℕ). drop k log.buffer) n ∙ (ap (drop (length h.front)) h.buffer ∙ drop-append_seam h.front (spelled r ++ h.back))

-- how long a record's text is
pub text_some : (xs : List ℕ) (n : ℕ) → IsRecordText xs n → 0 < n
text_some xs n h = omega (arith, h.long, spelled-long h.is)

pub text_most : (xs : List ℕ) (n : ℕ) → IsRecordText xs n → n ≤ GREATEST
text_most xs n h = omega (arith, h.long, spelled_most h.is h.fields)

pub text_within : (xs : List ℕ) (n : ℕ) → IsRecordText (take n xs) n → n ≤ length xs
text_within xs n h = omega (arith, h.long, ap length h.text, length-take n xs)

-- a record in the buffer ends by the tail
pub waiting_end : (log : Tail) (lsn n : ℕ) (bytes : List ℕ) → bytes ≡ drop (lsn - (log.gate + 5)) log.buffer → log.gate + 5 ≤ lsn → lsn < log.gate + 5 + length log.buffer → n ≤ length bytes → lsn + n ≤ tail_of log
waiting_end log lsn n bytes is front before within =
    let some : 0 < length log.buffer = omega arith in
    omega (arith, ap length is, length-drop (lsn - (log.gate + 5)) log.buffer, tail_behind log some)

pub ok_no_err : {T E : Type 0} (P : Type 0) (r : Result T E) → IsOk r → OnErr r P
ok_no_err P (Ok x) h = tt
ok_no_err P (Err e) h = absurd (cc)

-- a copy of the front of the buffered bytes
pub copied_text : (bytes new more back : List ℕ) (size : ℕ) (r : Record) → new ≡ take size bytes → length new ≡ size → size ≡ length (spelled r) → bytes ≡ spelled r ++ back → take size (new ++ more) ≡ spelled r
copied_text bytes new more back size r copy long is text =
    front_read new more size long ∙ (copy ∙ (ap (λ (n : ℕ). take n bytes) is ∙ (ap (take (length (spelled r))) text ∙ take-append_seam (spelled r) back)))
