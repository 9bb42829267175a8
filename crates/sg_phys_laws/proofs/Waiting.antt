-- What waits at the log's end, by the numbers that are kept of it.
use Rattle.std.proofs.Common.{◌≡◌, inr, ◌≤◌, ◌+◌, ℕ, max, Result, Ok, Err, ap, arith}
use Rattle.std.specs.Prelude.{OnErr}
use Rattle.sg_disk.specs.Disk.{View}
use Rattle.sg_log.specs.Held.{Tail, tail_of}
use Rattle.sg_engine.specs.Calls.{Hands, WaitsFrame}

pub waits_then : (log : Tail) (end gate : ℕ) → end ≡ max (tail_of log) 1 → gate ≡ log.gate → WaitsFrame log → end ≤ gate + 65541
waits_then log end gate tail durable waits = omega (arith, tail, durable, waits)

pub waits_old : (log : Tail) (end gate : ℕ) → end ≡ max (tail_of log) 1 → gate ≡ log.gate → end ≤ gate + 65541 → WaitsFrame log
waits_old log end gate tail durable waits = omega (arith, tail, durable, waits)

-- a call that hands nothing over, with the same log
pub hands_read : {v w : View} {log log' : Tail} → w.handed ≡ v.handed → log' ≡ log → Hands v log w log'
hands_read {v} {w} {log} {log'} same is = record { rising = omega (arith, same); grown = inr (let e = ap (λ (x : Tail). x.gate) is in omega (arith, same, e)) }

-- what holds of one that failed
pub on_err : {T E P : Type 0} {x : E} (r : Result T E) → r ≡ Err x → OnErr r P → P
on_err (Ok y) is h = absurd cc
on_err (Err y) is h = h
