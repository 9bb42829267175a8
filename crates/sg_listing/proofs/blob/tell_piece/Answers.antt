use Rattle.std.proofs.Common.{◌≡◌, ◌*◌, ◌-◌, ℕ, List, min, length, length-take, take, replicate, subst, arith}
use Rattle.sg_lines.specs.Parts.{piece_part}
use Rattle.sg_listing.specs.Telling.{IsTold}
use Rattle.sg_listing.proofs.Parts.{last_piece}
use Rattle.sg_listing.proofs.blob.tell_piece.Goals as goal

pub returns-clause-heard : goal.returns-clause-heard
returns-clause-heard g c = λ shows b is len.
    let zeros : List ℕ = replicate 32 0 in
    let n = c.min-count.result in
    let size : length (take n zeros) ≡ min (length b.bytes - 32 * c.args.number) 32 = omega (arith, c.min-count.ensures, len, length-take n zeros) in
    subst (λ (piece : List ℕ). IsTold g.L.Listener.ears c.args.to.now (piece_part (32 * c.args.number) piece) c.tell_read.new.to c.tell_read.result)
    (last_piece b.bytes (32 * c.args.number) (length (take n zeros)) size) (c.tell_read.ensures.heard shows b is)
