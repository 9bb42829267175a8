use Rattle.std.proofs.Common.{◌≡◌, length, All}
use Rattle.sg_space.specs.Bands.{IsEmptyBand}
use Rattle.sg_space.specs.declared.stock.MemBand.{MemBand}
use Rattle.sg_space.proofs.stock.new_bands.Given as goal

abbrev pub invariant-loop : goal.invariant-loop
invariant-loop l = record { count : length l.all.items ≡ l.counter; empty : All (λ (b : MemBand). IsEmptyBand b.bytes.items) l.all.items }
