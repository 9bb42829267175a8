-- The log's records as entries of a history.
use Rattle.std.proofs.Common.{◌≡◌, ◌≤◌, ◌+◌, ◌==◌, ℕ, Bool, true, false, if◌then◌else◌, List, [], ◌∷◌, ◌++◌, length, refl, ap, subst, arith}
use Rattle.sg_disk.specs.Disk.{View}
use Rattle.sg_record.specs.Records.{Record, spelled}
use Rattle.sg_log.specs.Frames.{Numbered, numbered_from}
use Rattle.sg_log.specs.Held.{Tail, Holds, tail_of, forced}
use Rattle.sg_engine.specs.Numbers.{AllFrom}
use Rattle.sg_engine.specs.History.{Entry, entry_number}
use Rattle.sg_base.specs.declared.area.Area.TheVariants.{Home, Log0, Log1}
use Rattle.sg_engine.specs.Engine.{Origin, entry_of, entries, log_area}

pub entries_append : (o : Origin) (xs ys : List Numbered) → entries o (xs ++ ys) ≡ entries o xs ++ entries o ys
entries_append o [] ys = refl
entries_append o (x ∷ xs) ys = ap (λ (l : List Entry). entry_of o x ∷ l) (entries_append o xs ys)

pub none_more : {X : Type 0} (xs : List X) → xs ≡ xs ++ []
none_more [] = refl
none_more (x ∷ xs) = ap (λ (l : List _). x ∷ l) (none_more xs)

-- records are numbered upwards
from_high : (o : Origin) (low lsn : ℕ) (rs : List Record) → low ≤ lsn → AllFrom entry_number low (entries o (numbered_from lsn rs))
from_high o low lsn [] le = tt
from_high o low lsn (r ∷ rs) le = (le, from_high o low (lsn + length (spelled r)) rs (omega arith))

pub waiting_from : {v : View} {log : Tail} {ds ps : List Numbered} (o : Origin) → Holds v log ds ps → AllFrom entry_number log.gate (entries o ps)
waiting_from {log = log} o holds = subst (λ (ns : List Numbered). AllFrom entry_number log.gate (entries o ns)) holds.numbers (from_high o log.gate (log.gate + 5) holds.body (omega arith))

-- what a force leaves as it is
pub record IsForced (log log' : Tail) : Type 0 where
  pub area : log'.area ≡ log.area
  pub base : log'.base ≡ log.base
  pub tail : tail_of log' ≡ tail_of log
  pub gate : log.gate ≤ log'.gate

forced_by : (log : Tail) (b : Bool) → (length log.buffer == 0) ≡ b → IsForced log (if b then log else record log { gate = log.gate + 5 + length log.buffer; buffer = [] })
forced_by log true is = record { area = refl; base = refl; tail = refl; gate = omega arith }
forced_by log false is = record { area = refl; base = refl; tail = rw is refl; gate = omega arith }

pub is_forced : (log : Tail) → IsForced log (forced log)
is_forced log = forced_by log (length log.buffer == 0) refl

-- the log isn't in the home area
area_apart : (b : Bool) → Home ≡ (if b then Log0 else Log1) → ⊥
area_apart true is = cc
area_apart false is = cc

pub home_apart : (o : Origin) → Home ≡ log_area o.super → ⊥
home_apart o is = area_apart (o.super.log == 0) is
