-- Where a log begins once its front is cut off.
use Rattle.std.specs.Prelude.{◌≡◌, ◌⊎◌, ℕ, ◌<◌, ◌≤◌, Option, Some, None, IfSome}
use Rattle.sg_base.specs.declared.numbers.TxnId.{TxnId}

-- THE POINT OF A CUT: the least of the changes that aren't on the disk yet, the begin of the transaction that goes on and began first, and the
-- log's last checkpoint
pub record IsPoint (unwritten : ℕ → Type 0) (oldest : Option TxnId) (checkpoint point : ℕ) : Type 0 where
  pub written : (lsn : ℕ) → unwritten lsn → point ≤ lsn
  pub begun : IfSome oldest (λ u. point ≤ u.0)
  pub marked : point ≤ checkpoint
  pub least : unwritten point ⊎ ((oldest ≡ Some (record { 0 = point })) ⊎ (point ≡ checkpoint))

-- The log begins now with the frame that holds the point, which ends at this byte. It begins as before where the point isn't behind that, or
-- the superblock can't be renewed any more
abbrev pub BeginsAt : (spent : Type 0) → (start start' ends point : ℕ) → Type 0
BeginsAt spent start start' ends point = (((point ≤ start) ⊎ spent) × (start' ≡ start)) ⊎ ((start < point) × (start' ≤ point) × (point < ends))

-- WHERE A LOG BEGINS once its front is cut off. Nothing is cut of a log without a checkpoint
abbrev pub IsCut : (unwritten : ℕ → Type 0) → (oldest : Option TxnId) → (checkpoint : Option ℕ) → (spent : Type 0) → (start start' ends : ℕ) → Type 0
IsCut unwritten oldest None spent start start' ends = start' ≡ start
IsCut unwritten oldest (Some c) spent start start' ends = (point : ℕ) × IsPoint unwritten oldest c point × BeginsAt spent start start' ends point
