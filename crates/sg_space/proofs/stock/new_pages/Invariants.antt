use Rattle.std.proofs.Common.{◌≡◌, length, All}
use Rattle.sg_space.specs.Pages.{IsEmptyPage}
use Rattle.sg_space.specs.declared.stock.MemPage.{MemPage}
use Rattle.sg_space.proofs.stock.new_pages.Given as goal

abbrev pub invariant-loop : goal.invariant-loop
invariant-loop l = record { count : length l.all.items ≡ l.counter; empty : All (λ (p : MemPage). IsEmptyPage 1 p.bytes.items) l.all.items }
