-- What a force of the log leaves as it is.
use Rattle.std.proofs.Common.{◌≡◌, ◌≤◌, ◌+◌, ◌==◌, Bool, true, false, if◌then◌else◌, [], length, refl, arith}
use Rattle.sg_log.specs.Held.{Tail, tail_of, forced}

pub record IsForced (log log' : Tail) : Type 0 where
  pub area : log'.area ≡ log.area
  pub base : log'.base ≡ log.base
  pub tail : tail_of log' ≡ tail_of log
  pub gate : log.gate ≤ log'.gate

forced_by : (log : Tail) (b : Bool) → (length log.buffer == 0) ≡ b → IsForced log (if b then log else record log { gate = log.gate + 5 + length log.buffer; buffer = [] })
forced_by log true is = record { area = refl; base = refl; tail = refl; gate = omega arith }
forced_by log false is = record { area = refl; base = refl; tail = rw is refl; gate = omega arith }

pub is_forced : (log : Tail) → IsForced log (forced log)
is_forced log = forced_by log (length log.buffer == 0) refl
