use Rattle.std.proofs.Common.{◌≡◌, ℕ, List, take, length, ap, ◌∙◌, arith}
use Rattle.std.proofs.Math.Seq.{take-append_seam}
use Rattle.sg_base.proofs.Overwriting.{wrote_front}
use Rattle.sg_catalog.specs.Row.{row_cell}
use Rattle.sg_catalog.proofs.row.spell_row.Goals as goal

pub returns-clause-bytes : goal.returns-clause-bytes
returns-clause-bytes c =
    let w = c.put_row.ensures in
    let size : c.put_row.result ≡ length (row_cell c.args.row) = w.place ∙ omega arith in
    ap (λ (n : ℕ). take n c.put_row.new.into) size ∙ (ap (λ (xs : List ℕ). take (length (row_cell c.args.row)) xs) (wrote_front w) ∙ take-append_seam (row_cell c.args.row) _)
