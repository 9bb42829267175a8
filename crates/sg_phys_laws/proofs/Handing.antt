-- What a record without a change hands to the disk, and where it ends.
use Rattle.std.proofs.Common.{◌≡◌, ◌<◌, ◌≤◌, ◌+◌, ◌++◌, ℕ, Bool, true, false, Result, Ok, Err, length, length-append, refl, ap, ◌∙◌, arith}
use Rattle.std.specs.Prelude.{if◌then◌else◌, nat_lt, OnOk}
use Rattle.std.proofs.lemmas.Bool.{ltb-true, ltb-false}
use Rattle.std.proofs.lemmas.Bool.Decides.{nat_tests}
use Rattle.sg_record.specs.Records.{Record, spelled}
use Rattle.sg_record.specs.Ranges.{IsRecord}
use Rattle.sg_log.specs.Frames.{LOG_END}
use Rattle.sg_log.specs.Held.{Tail, place_of, end_of, has_room, forced, buffered, appended}
use Rattle.sg_log.proofs.Holding.{no_room, forced_empty}
use Rattle.sg_actions.specs.Handing.{HandsOver}
use Rattle.sg_phys_laws.specs.Waiting.{waiting_of}

-- WHERE IT ENDS: one that is appended ends within the log
pub within_end : {T E : Type 0} (log : Tail) (r : Record) (n : ℕ) (full : E) (res : Result T E) → n ≡ place_of log r → (LOG_END < end_of log r → res ≡ Err full) → OnOk res (n + length (spelled r) ≤ LOG_END)
within_end log r n full (Ok x) is past = go n (place_of log r) (length (spelled r)) is (λ h. absurd (let e : Ok x ≡ Err full = past h in cc))
  where
    go : (a b long : ℕ) → a ≡ b → (LOG_END < b + long → ⊥) → a + long ≤ LOG_END
    go a b long e never = by_test (nat_lt LOG_END (b + long)) refl
      where
        by_test : (c : Bool) → nat_lt LOG_END (b + long) ≡ c → a + long ≤ LOG_END
        by_test true h = absurd (never (ltb-true LOG_END (b + long) h))
        by_test false h = let le : b + long ≤ LOG_END = ltb-false LOG_END (b + long) h in omega (arith, e, le)
within_end log r n full (Err e) is past = tt

pub past_end : (log : Tail) (r : Record) (n : ℕ) → n ≡ place_of log r → LOG_END < end_of log r → LOG_END < n + length (spelled r)
past_end log r n is past = omega (arith, is, past)

-- WHAT WAITS, by the bytes in the buffer
waits_most : (log : Tail) → waiting_of log ≤ 5 + length log.buffer
waits_most log = grind (arith, nat_tests)

waits_least : (log : Tail) → 5 + length log.buffer ≤ waiting_of log + 5
waits_least log = grind (arith, nat_tests)

waits_some : (log : Tail) → 0 < length log.buffer → waiting_of log ≡ 5 + length log.buffer
waits_some log some = grind (arith, nat_tests)

-- the log behind it, by whether it fits the buffer
fits_buffer : (log : Tail) (r : Record) → has_room log r ≡ true → appended log r ≡ buffered log r
fits_buffer log r is = ap (λ (c : Bool). if c then buffered log r else buffered (forced log) r) is

goes_behind : (log : Tail) (r : Record) → has_room log r ≡ false → appended log r ≡ buffered (forced log) r
goes_behind log r is = ap (λ (c : Bool). if c then buffered log r else buffered (forced log) r) is

waits_fitting : (log : Tail) (r : Record) → has_room log r ≡ true → waiting_of (appended log r) ≤ waiting_of log + length (spelled r) + 6
waits_fitting log r is =
    let same : waiting_of (appended log r) ≡ waiting_of (buffered log r) = ap waiting_of (fits_buffer log r is) in
    let most = waits_most (buffered log r) in
    let long : length (log.buffer ++ spelled r) ≡ length log.buffer + length (spelled r) = length-append log.buffer (spelled r) in
    let least = waits_least log in
    omega (arith, same, most, long, least)

waits_behind : (log : Tail) (r : Record) → IsRecord r → has_room log r ≡ false → length log.buffer + waiting_of (appended log r) ≤ waiting_of log + length (spelled r)
waits_behind log r range is =
    let same : waiting_of (appended log r) ≡ waiting_of (buffered (forced log) r) = ap waiting_of (goes_behind log r is) in
    let most = waits_most (buffered (forced log) r) in
    let empty : length (forced log).buffer ≡ 0 = forced_empty log in
    let long : length ((forced log).buffer ++ spelled r) ≡ length (forced log).buffer + length (spelled r) = length-append (forced log).buffer (spelled r) in
    let was = waits_some log (no_room log r range is) in
    omega (arith, same, most, empty, long, was)

-- WHAT AN APPEND HANDS OVER
pub hands_record : {T E : Type 0} (log log' : Tail) (r : Record) (handed handed' : ℕ) (res : Result T E) → IsRecord r → (has_room log r ≡ true → handed' ≡ handed) → handed' ≤ handed + length log.buffer + 6
    → OnOk res (log' ≡ appended log r) → HandsOver (length (spelled r)) handed (waiting_of log) handed' (waiting_of log') res
hands_record {T} {E} log log' r handed handed' res range same most is = record { most = (let least = waits_least log in omega (arith, most, least)); all = all res is }
  where
    sum : (c : Bool) → has_room log r ≡ c → handed' + waiting_of (appended log r) ≤ handed + waiting_of log + length (spelled r) + 6
    sum true room = let e = same room in let w = waits_fitting log r room in omega (arith, e, w)
    sum false room = let w = waits_behind log r range room in omega (arith, most, w)

    all : (q : Result T E) → OnOk q (log' ≡ appended log r) → OnOk q (handed' + waiting_of log' ≤ handed + waiting_of log + length (spelled r) + 6)
    all (Ok x) e = let w : waiting_of log' ≡ waiting_of (appended log r) = ap waiting_of e in let h = sum (has_room log r) refl in omega (arith, w, h)
    all (Err x) e = tt

-- WHAT A FORCE HANDS OVER
waits_forced : (log : Tail) → waiting_of (forced log) ≡ 0
waits_forced log = grind (arith, nat_tests)

pub none_waits : {T E : Type 0} (log log' : Tail) (res : Result T E) → OnOk res (log' ≡ forced log) → OnOk res (waiting_of log' ≡ 0)
none_waits log log' (Ok x) e = ap waiting_of e ∙ waits_forced log
none_waits log log' (Err x) e = tt

pub hands_forced : {T E : Type 0} (log log' : Tail) (handed handed' : ℕ) (res : Result T E) → handed' ≤ handed + length log.buffer + 6 → OnOk res (log' ≡ forced log) → HandsOver 0 handed (waiting_of log) handed' (waiting_of log') res
hands_forced {T} {E} log log' handed handed' res most is = record { most = (let least = waits_least log in omega (arith, most, least)); all = all res (none_waits log log' res is) }
  where
    all : (q : Result T E) → OnOk q (waiting_of log' ≡ 0) → OnOk q (handed' + waiting_of log' ≤ handed + waiting_of log + 0 + 6)
    all (Ok x) e = let least = waits_least log in omega (arith, most, least, e)
    all (Err x) e = tt
