-- Which records a log holds, read from its bytes.
use Rattle.std.specs.Prelude.{◌+◌, ◌==◌, ℕ, zero, suc, if◌then◌else◌, List, [], ◌∷◌, ◌++◌, length, drop, Ok, Err}
use Rattle.byteorder.specs.Endian.{little_number}
use Rattle.sg_disk.specs.Disk.{Bytes, View, window}
use Rattle.sg_record.specs.Reading.{Parsed, parse}
use Rattle.sg_log.specs.Frames.{Numbered}
use Rattle.sg_log.specs.Held.{Tail}

-- the records of a text, as far as they can be read, at most so many, the first with this number
abbrev pub read_with : (List ℕ → ℕ → List Numbered) → (lsn : ℕ) → (text : List ℕ) → Parsed → List Numbered
read_with more lsn text (Err e) = []
read_with more lsn text (Ok p) = record { lsn = lsn; is = p.0 } ∷ more (drop p.1 text) (lsn + p.1)

unfoldable pub records_read : (most : ℕ) → (text : List ℕ) → (lsn : ℕ) → List Numbered
records_read zero text lsn = []
records_read (suc n) text lsn = if length text == 0 then [] else read_with (λ rest next. records_read n rest next) lsn text (parse text)

-- the records of an area's frames from an offset on, at most so many frames. The area's first byte has the number base
unfoldable pub frames_read : (most : ℕ) → (f : Bytes) → (base at : ℕ) → List Numbered
frames_read zero f base at = []
frames_read (suc n) f base at =
    let size = little_number 4 (window f (at + 1) 4) in
    if f at == 1 then records_read size (window f (at + 5) size) (base + at + 5) ++ frames_read n f base (at + 5 + size) else []

-- the records of a log that are on its disk, and those that are in its buffer
unfoldable pub durable_in : View → Tail → List Numbered
durable_in v log = frames_read log.gate (v.now log.area).seen log.base 0

unfoldable pub waiting_in : Tail → List Numbered
waiting_in log = records_read (length log.buffer) log.buffer (log.gate + 5)
