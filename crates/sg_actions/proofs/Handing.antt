-- What a commit, an end and a checkpoint hand to the disk.
use Rattle.std.proofs.Common.{◌≡◌, ℕ, ◌+◌, ◌≤◌, ◌/◌, List, ◌++◌, Result, Ok, length, length-append, arith}
use Rattle.byteorder.specs.Endian.{little_bytes}
use Rattle.sg_record.specs.Records.{HEADER, header, code_of, kind_of, body_of, spelled}
use Rattle.sg_record.specs.Records.Says.{Commit, Checkpoint}
use Rattle.sg_record.specs.Shown.{by}
use Rattle.sg_actions.specs.Handing.{HandsOver}

pub long_commit : (u p : ℕ) → length (spelled (by u p Commit)) ≡ 21
unfolding spelled
long_commit u p = omega (arith, length-append (header (code_of (kind_of Commit)) (HEADER + length (body_of Commit)) u p) (body_of Commit))

-- a checkpoint's record: its head, what it estimates, how many transactions it names, and these
pub long_checkpoint : (estimate : ℕ) (live : List ℕ) → length (spelled (by 0 0 (Checkpoint estimate live))) ≡ 31 + length live
unfolding spelled
long_checkpoint estimate live =
    let rows = length-append (little_bytes 2 (length live / 16)) live in
    let body = length-append (little_bytes 8 estimate) (little_bytes 2 (length live / 16) ++ live) in
    let all = length-append (header (code_of (kind_of (Checkpoint estimate live))) (HEADER + length (body_of (Checkpoint estimate live))) 0 0) (body_of (Checkpoint estimate live)) in
    omega (arith, rows, body, all)

-- a record of at most so many bytes was appended, and all was forced, or that failed
pub forced_hands : {T U E F : Type 0} {x : T} {result : Result U F} (most size handed waits handed1 waits1 handed2 waits2 : ℕ) → size ≤ most → HandsOver {T = T} {E = E} size handed waits handed1 waits1 (Ok x) → HandsOver 0 handed1 waits1 handed2 waits2 result
    → handed2 ≤ handed + waits + (most + 12)
forced_hands most size handed waits handed1 waits1 handed2 waits2 short a b =
    let first : handed1 + waits1 ≤ handed + waits + size + 6 = a.all in
    let next : handed2 ≤ handed1 + waits1 + 6 = b.most in
    omega (arith, short, first, next)
