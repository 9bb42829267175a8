-- What the pool ends as, once a page that it lent isn't used any more.
use Rattle.std.specs.Prelude.{◌≡◌, ◌≢◌, ℕ, Bool, IsTrue, Some, None, Result, IfOk, OnOk, OnErr, ⊤}
use Rattle.std.specs.Borrow.{Fml, MutBor, follows_so}
use mathlib.Core.Option.{none}
use Rattle.sg_base.specs.declared.area.Area.{Area}
use Rattle.sg_base.specs.declared.area.Area.TheVariants.{Home}
use Rattle.sg_disk.specs.Disk.{View}
use Rattle.sg_pool.specs.declared.fault.PoolFault.{PoolFault}
use Rattle.sg_pool.specs.declared.pool.Pool.{Pool}
use Rattle.sg_pool.specs.contracts.pool.Pool.{the_row}
use Rattle.sg_pool.specs.Order.{IsVictim, IsUsed}
use Rattle.sg_pool.specs.Pooled.{sizes, contents, frame_holding, window_holding, uses, window_count, next_window, OthersKeep, Backs, SameContents, SameWindows, SameFrames, IsBandBrought}
use Rattle.sg_log.specs.Held.{Tail, tail_of}
use Rattle.sg_pool.specs.Frames.{AreLastsKept, HaveGone}
use Rattle.sg_pool.specs.Shelves.{OnTold, AreLogged}
use Rattle.sg_pool.specs.Untouched.{IsUntouched}

-- PAGE p IS IN FRAME f, which is the most recently used: it was the victim, where p was in no frame. The other frames keep their pages
pub record IsBrought (p : ℕ) (old new : Pool) (f : ℕ) : Type 0 where
  pub held : frame_holding new p ≡ Some f
  pub used : IsUsed f (uses old) (uses new)
  pub victim : frame_holding old p ≡ None → IsVictim (uses old) f
  pub others : OthersKeep f old new

-- no frame but the victim's has lost its page
abbrev pub IsEmptied : (old new : Pool) → Type 0
IsEmptied old new = (f : ℕ) × IsVictim (uses old) f × OthersKeep f old new

-- THE POOL ONCE PAGE p WAS LENT: it is in a frame, or nothing was used where the call was refused; the disk backs the pool, and its contents
-- are what they were. The windows are as they were
pub record IsLent {T : Type 0} (told : Bool) (area : Area) (v w : View) (p : ℕ) (result : Result T PoolFault) (old new : Pool) : Type 0 where
  pub size : sizes new ≡ sizes old
  pub brought : IfOk result (λ _. (f : ℕ) × IsBrought p old new f)
  pub unused : OnErr result (uses new ≡ uses old)
  pub emptied : OnErr result (IsEmptied old new)
  pub windows : SameWindows old new
  pub backed : IsTrue told → area ≢ Home → Backs (sizes old) v old → OnTold result (Backs (sizes old) w new)
  pub same : IsTrue told → area ≢ Home → Backs (sizes old) v old → OnTold result (SameContents v old w new)
  pub untouched : IsTrue told → area ≢ Home → Backs (sizes old) v old → OnTold result (IsUntouched (sizes old) (v.now Home).seen (w.now Home).seen (contents w new))

-- THE POOL ONCE BAND b WAS LENT: it is in a window; the page frames are as they were; the disk backs the pool, and its contents are what
-- they were
pub record IsBandLent {T : Type 0} (told : Bool) (log log' : Tail) (v w : View) (b : ℕ) (result : Result T PoolFault) (old new : Pool) : Type 0 where
  pub size : sizes new ≡ sizes old
  pub brought : IfOk result (λ _. (x : ℕ) × IsBandBrought b old new x)
  pub frames : SameFrames old new
  pub logged : (tail : ℕ) → AreLogged tail old.shelf → AreLogged tail new.shelf
  pub lasts : AreLastsKept old.shelf.wins new.shelf.wins
  pub gone : AreLogged (tail_of log) old.shelf → OnOk result (HaveGone log'.gate old.shelf.wins new.shelf.wins)
  pub backed : IsTrue told → log.area ≢ Home → Backs (sizes old) v old → OnTold result (Backs (sizes old) w new)
  pub same : IsTrue told → log.area ≢ Home → Backs (sizes old) v old → OnTold result (SameContents v old w new)
  pub untouched : IsTrue told → log.area ≢ Home → Backs (sizes old) v old → OnTold result (IsUntouched (sizes old) (v.now Home).seen (w.now Home).seen (contents w new))
  pub turn : window_holding old b ≡ None → OnOk result (window_holding new b ≡ Some (next_window old))
  pub count : window_count new ≡ window_count old

-- the pool ends so, once the loan has ended
abbrev pub ends_as : MutBor Pool → (Pool → Type 0) → Fml
ends_as s P = follows_so the_row the_row s.ghost_name none (λ _ _. ⊤) P
