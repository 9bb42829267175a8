-- What a record makes of a page has the record's number.
use Rattle.std.proofs.Common.{◌≡◌, ◌<◌, ◌^◌, ℕ, Bool, true, false, if◌then◌else◌, List, [], Some, None, IfSome}
use Rattle.byteorder.specs.Numbers.{little_number-reads_back}
use Rattle.sg_base.specs.Op.{Op}
use Rattle.sg_base.specs.Page.{lsn_of, number_at, bytes_at}
use Rattle.sg_ops.specs.Table.{Table}
use Rattle.sg_slotted.specs.Layout.{lsn_layout}
use Rattle.sg_step.specs.Changed.{changed}
use Rattle.sg_redo.specs.History.{SetsNumber}
use Rattle.sg_redo.specs.Page.{fits, made, on_page}

pub lsn_of-lsn_layout : (page : List ℕ) (lsn : ℕ) → lsn < 2 ^ 64 → lsn_of (lsn_layout page lsn) ≡ lsn
unfolding lsn_layout number_at bytes_at
lsn_of-lsn_layout page lsn small = little_number-reads_back 8 lsn [] small

pub record_sets : (t : Table) (lsn : ℕ) (op : Op) → lsn < 2 ^ 64 → SetsNumber (on_page t lsn op)
unfolding made
record_sets t lsn op small = record { sets = λ page. either page (fits t op page) }
  where
    either : (page : List ℕ) (b : Bool) → IfSome (if b then Some (lsn_layout (changed t op page) lsn) else None) (λ new. lsn_of new ≡ lsn)
    either page true = lsn_of-lsn_layout (changed t op page) lsn small
    either page false = tt
