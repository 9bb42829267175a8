-- THE COUNTS of an engine that is brought to its first action.
use Rattle.std.proofs.Common.{◌≡◌, ℕ, ◌+◌, ◌<◌, Result, Ok, Err, sym, subst, ◌∙◌, refl, arith}
use Rattle.sg_disk.specs.Accounts.{Accounts}
use Rattle.sg_disk.specs.Disk.{View}
use Rattle.sg_space.specs.declared.space.SpaceFault.{SpaceFault}
use Rattle.sg_space.specs.declared.space.SpaceFault.TheVariants.{Disk, LogEnd}
use Rattle.sg_actions.specs.Engine.{EngineSeen}
use Rattle.sg_actions.specs.WentOff.{OffCounts}
use Rattle.sg_actions.proofs.Accounting.{count_ok, count_then, accounts_ok, accounts_err}
use Rattle.sg_ground.specs.Recovers.{Recovering}
use Rattle.sg_store.specs.Engine.{Counts, IsDiskFault}
use Rattle.sg_shown.specs.Shown.{Over, opened_of, shown_of}
use Rattle.sg_shown.proofs.Calls.{near_of}
use Rattle.sg_starting.specs.Starting.{IsStartDisk, IsStartEnd}
use Rattle.sg_starting.specs.declared.opening.StartFault.{StartFault}
use Rattle.sg_starting.specs.declared.opening.StartFault.TheVariants.{Space, Broken, Memory}
use Rattle.sg_regained.specs.Regained.{OverCounts}

disk_is : (f : SpaceFault) → IsDiskFault f → f ≡ Disk
disk_is Disk h = refl
disk_is LogEnd h = absurd h

off_accounts : {U T Told : Type 0} {v w : View} {i j : ℕ} (f : SpaceFault) → Accounts (λ e. e ≡ Disk) Told v w i j (let r : Result U SpaceFault = Err f in r) → Accounts IsStartDisk Told v w i j (let r : Result T StartFault = Err (Space f) in r)
off_accounts f k = record { later = k.later; heeded = λ n. k.heeded (λ d. n (subst IsDiskFault (sym d) tt)); caused = λ d. k.caused (disk_is f d); handed = k.handed; shown = k.shown }

-- a take-off that failed
pub counts_off : {U T : Type 0} (recovers : Recovering) (a b : Over) (f : SpaceFault) → OffCounts {T = U} a.engine b.engine a.breaks b.breaks (Err f)
    → Counts {T = T} IsStartDisk (opened_of recovers a) (shown_of recovers b) (Err (Space f))
counts_off {U} {T} recovers a b f k = record {
  told = k.told;
  tells = tt;
  tail = k.tail;
  later = k.later;
  quiet = tt;
  failed = λ d. k.disk (disk_is f d);
  accounts = off_accounts f k.accounts;
}

-- one that took nothing off, and isn't gone on with
pub counts_cut : {U T : Type 0} (recovers : Recovering) (a b : Over) {x : U} → OffCounts {T = U} a.engine b.engine a.breaks b.breaks (Ok x) → Counts {T = T} IsStartDisk (opened_of recovers a) (shown_of recovers b) (Err Memory)
counts_cut {U} {T} recovers a b {x} k = record {
  told = k.told;
  tells = tt;
  tail = k.tail;
  later = k.later;
  quiet = tt;
  failed = λ d. absurd d;
  accounts = (let n = k.accounts in record { later = n.later; heeded = λ q. n.heeded; caused = λ d. absurd d; handed = n.handed; shown = n.shown });
}

-- and a walk behind one
pub counts_over : {U T : Type 0} (recovers : Recovering) (a c : Over) (b : EngineSeen) (breaks : ℕ) {x : U} (r : Result T StartFault)
    → OffCounts {T = U} a.engine b a.breaks breaks (Ok x) → OverCounts {T = T} b c.engine breaks c.breaks r → (c.engine.Told → b.Told) → c.engine.tail ≡ b.tail
    → Counts {T = T} IsStartDisk (opened_of recovers a) (shown_of recovers c) r
counts_over {U} {T} recovers a c b breaks {x} (Ok y) k o told tail = record {
  told = λ h. k.told (told h);
  tells = λ h. o.tells (k.tells h);
  tail = let q = k.tail in omega (arith, q, tail);
  later = let p = k.later in let q = o.later in omega (arith, p, q);
  quiet = o.quiet ∙ k.quiet;
  failed = tt;
  accounts = accounts_ok y (count_then (count_ok k.accounts) (count_ok o.accounts));
}
counts_over {U} {T} recovers a c b breaks {x} (Err w) k o told tail = record {
  told = λ h. k.told (told h);
  tells = tt;
  tail = let q = k.tail in omega (arith, q, tail);
  later = let p = k.later in let q = o.later in omega (arith, p, q);
  quiet = tt;
  failed = λ d few. let p = k.quiet in let r : b.faults + breaks < c.engine.faults + c.breaks = o.disk d few in omega (arith, p, r);
  accounts = accounts_err k.tells (count_ok k.accounts) o.accounts;
}

-- near the log's end
pub near_off : {U : Type 0} (e e' : EngineSeen) (breaks breaks' : ℕ) (f : SpaceFault) → OffCounts {T = U} e e' breaks breaks' (Err f) → IsStartEnd e'.tail (Space f)
near_off {U} e e' breaks breaks' f k = near_of {T = U} e'.tail (Err f) k.log_end

pub near_over : (tail : ℕ) (w : StartFault) → (w ≡ Space LogEnd → ⊥) → IsStartEnd tail w
near_over tail (Space Disk) h = tt
near_over tail (Space LogEnd) h = absurd (h refl)
near_over tail (Broken page) h = tt
near_over tail Memory h = tt
