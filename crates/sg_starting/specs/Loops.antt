-- What the loops over losers keep.
use Rattle.std.specs.Prelude.{◌≡◌, ◌≤◌, ◌+◌, ℕ, List, Option, Some}
use Rattle.sg_base.specs.declared.numbers.TxnId.{TxnId}
use Rattle.sg_ops.specs.Table.{Table as Operations}
use Rattle.sg_model.specs.Objects.{Objects}
use Rattle.sg_recovery.specs.Log.{tally}
use Rattle.sg_recovery.specs.Claims.{Log}
use Rattle.sg_store.specs.Ground.{Ground, IsLawful, setting}
use Rattle.sg_recovery.specs.Log.{Top}
use Rattle.sg_store.specs.Calls.{MOST}
use Rattle.sg_store.specs.Accounting.{Unfailed}
use Rattle.sg_store.specs.Engine.{View, Sizes, Shown, Action, Keeps, KeepsBy, AsMeant, AsMeantBy, pages_of}
use Rattle.sg_starting.specs.declared.losers.Greatest.{Greatest}
use Rattle.sg_starting.specs.Starting.{IsStarting, AllStandFor, AreBelow, AreLosers, AreLive, AreApart, IsUndone, IsSettled, IsBest}

-- these losers' notes have been looked at, and this is the greatest
pub record IsFinding (t : Operations) (g : Ground) (v w : View g) (done : List TxnId) (found : Option Greatest) : Type 0 where
  pub stands : (down : Log (setting t g)) (m : Objects) → IsLawful t g → IsStarting t g v down m → AllStandFor t g v w m
  pub starts : (down : Log (setting t g)) (m : Objects) → IsLawful t g → IsStarting t g v down m → IsStarting t g w down m
  pub log : (down : Log (setting t g)) (m : Objects) → IsLawful t g → IsStarting t g v down m → w.log ≡ v.log
  pub best : (down : Log (setting t g)) (m : Objects) → IsLawful t g → IsStarting t g v down m
      → IsBest (tally v.log).notes done found
  pub later : v.faults ≤ w.faults
  pub tail : v.tail ≤ w.tail

-- some notes have been undone, and those that are left are below a number
pub record IsUndoing (t : Operations) (g : Ground) (v w : View g) (those : List TxnId) (at : ℕ) : Type 0 where
  pub stands : (down : Log (setting t g)) (m : Objects) → IsLawful t g → IsStarting t g v down m
      → AreLosers (tally v.log).live those → AllStandFor t g v w m
  pub starts : (down : Log (setting t g)) (m : Objects) → IsLawful t g → IsStarting t g v down m
      → AreLosers (tally v.log).live those → IsStarting t g w down m
  pub below : (down : Log (setting t g)) (m : Objects) → IsLawful t g → IsStarting t g v down m
      → AreLosers (tally v.log).live those → AreBelow at (tally w.log).notes
  pub lives : (down : Log (setting t g)) (m : Objects) → IsLawful t g → IsStarting t g v down m
      → AreLosers (tally v.log).live those → (tally w.log).live ≡ (tally v.log).live
  pub later : v.faults ≤ w.faults
  pub tail : v.tail ≤ w.tail

-- the losers but these have been ended
pub record IsEnding (t : Operations) (g : Ground) (v w : View g) (those left : List TxnId) : Type 0 where
  pub stands : (down : Log (setting t g)) (m : Objects) → IsLawful t g → IsStarting t g v down m → IsUndone v
      → AllStandFor t g v w m
  pub starts : (down : Log (setting t g)) (m : Objects) → IsLawful t g → IsStarting t g v down m → IsUndone v
      → IsStarting t g w down m
  pub undone : (down : Log (setting t g)) (m : Objects) → IsLawful t g → IsStarting t g v down m → IsUndone v → IsUndone w
  pub losers : (down : Log (setting t g)) (m : Objects) → IsLawful t g → IsStarting t g v down m → IsUndone v
      → AreLosers (tally v.log).live those → AreLosers (tally w.log).live left
  pub going : (down : Log (setting t g)) (m : Objects) → IsLawful t g → IsStarting t g v down m → IsUndone v
      → AreApart those → AreLive (tally v.log).live those → AreLive (tally w.log).live left
  pub later : v.faults ≤ w.faults
  pub tail : v.tail ≤ w.tail

-- the step back of a note has begun
pub record IsStepped (t : Operations) (g : Ground) (n : Top g.C g.N) (a : Action g) (w : View g) (into : List ℕ) (after : ℕ) : Type 0 where
  pub next : n.undo_next ≡ after
  pub said : g.note into ≡ n.note
  pub back : g.PutsBack t n.note n.changes (tally w.log).opened a.pages (pages_of t g w)

-- some things that were buried have been freed, and the log's tail may rise by so many bytes more
pub record IsFreeing (t : Operations) (g : Ground) (v w : View g) (left : ℕ) : Type 0 where
  pub stands : (down : Log (setting t g)) (m : Objects) → IsLawful t g → IsStarting t g v down m → IsSettled v → AllStandFor t g v w m
  pub starts : (down : Log (setting t g)) (m : Objects) → IsLawful t g → IsStarting t g v down m → IsSettled v
      → IsStarting t g w down m × IsSettled w
  pub sum : left + w.tail ≡ MOST
  pub later : v.faults ≤ w.faults
  pub tail : v.tail ≤ w.tail

-- A LOOP SO FAR, from an engine on: what each pass keeps, and what has been done
pub record Since {basis : Sizes → Ground} (old now : Shown basis) (P : (t : Operations) (g : Ground) → (v w : View g) → Type 0) : Type 0 where
  pub means : Keeps old now
  pub told : now.Told → old.Told
  pub tells : old.Told → now.Told
  pub later : old.faults ≤ now.faults
  pub tail : old.tail ≤ now.tail
  pub accounts : Unfailed old now
  pub done : AsMeant old now P

-- the same of a loop that is given the operations
pub record SinceBy {basis : Sizes → Ground} (t : Operations) (old now : Shown basis) (P : (g : Ground) → (v w : View g) → Type 0) : Type 0 where
  pub means : KeepsBy t old now
  pub told : now.Told → old.Told
  pub tells : old.Told → now.Told
  pub later : old.faults ≤ now.faults
  pub tail : old.tail ≤ now.tail
  pub accounts : Unfailed old now
  pub done : AsMeantBy t old now P
