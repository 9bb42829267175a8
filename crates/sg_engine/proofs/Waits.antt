-- What waits at a log's end to be durable.
use Rattle.std.proofs.Common.{◌≡◌, ◌⊎◌, ⊎_elim, ◌≤◌, ◌+◌, ℕ, refl, Result, Ok, Err, Bool, true, false, length, length-append, sym, ap, ◌∙◌, subst, arith}
use Rattle.std.specs.Prelude.{if◌then◌else◌, nat_le}
use Rattle.std.proofs.lemmas.Bool.Decides.{nat_tests}
use Rattle.sg_record.specs.Records.{Record, spelled}
use Rattle.sg_record.specs.Ranges.{IsRecord}
use Rattle.sg_log.specs.Frames.{GREATEST_BODY}
use Rattle.sg_log.specs.Held.{Tail, tail_of, has_room, forced, buffered, appended}
use Rattle.sg_log.proofs.Holding.{spelled_most, forced_empty, tail_forced}
use Rattle.sg_engine.specs.Calls.{WaitsFrame}

waits_short : (log : Tail) → length log.buffer ≤ GREATEST_BODY → WaitsFrame log
waits_short log short = grind (arith, nat_tests)

fits : (n : ℕ) (c : Bool) → nat_le n GREATEST_BODY ≡ c → c ≡ true → n ≤ GREATEST_BODY
fits n c is so = grind (arith, nat_tests)

-- behind an append: a record that doesn't fit the buffer is alone in the next one
pub waits_appended : (log : Tail) (r : Record) → IsRecord r → WaitsFrame (appended log r)
waits_appended log r range = by (has_room log r) refl
  where
    by : (c : Bool) → has_room log r ≡ c → WaitsFrame (if c then buffered log r else buffered (forced log) r)
    by true is = waits_short (buffered log r) (let long = length-append log.buffer (spelled r) in let most = fits (length log.buffer + length (spelled r)) true is refl in omega (arith, long, most))
    by false is = waits_short (buffered (forced log) r)
        (let long = length-append (forced log).buffer (spelled r) in let none = forced_empty log in let most = spelled_most r range in omega (arith, long, none, most))

pub waits_forced : (log : Tail) → WaitsFrame (forced log)
waits_forced log = waits_short (forced log) (let none = forced_empty log in omega (arith, none))

-- and behind a call that at most forces the log
pub waits_kept : (log log' : Tail) → (log' ≡ log) ⊎ (log' ≡ forced log) → WaitsFrame log → WaitsFrame log'
waits_kept log log' kept waits = ⊎_elim (λ same. subst WaitsFrame (sym same) waits) (λ all. subst WaitsFrame (sym all) (waits_forced log)) kept

pub tail_kept : (log log' : Tail) → (log' ≡ log) ⊎ (log' ≡ forced log) → tail_of log' ≡ tail_of log
tail_kept log log' kept = ⊎_elim (λ same. ap tail_of same) (λ all. ap tail_of all ∙ tail_forced log) kept

-- a call that went well wasn't refused
pub ok_no_err : {T E : Type 0} (r : Result T E) (x : T) (e : E) → r ≡ Ok x → r ≡ Err e → ⊥
ok_no_err r x e well refused = cc
