use Rattle.std.proofs.Common.{◌≡◌, ℕ, map, take}
use Rattle.sg_base.specs.declared.numbers.TxnId.{TxnId as Number}
use Rattle.sg_mount.proofs.losers.numbers_of.Given as goal

abbrev pub invariant-loop-i : goal.invariant-loop-i
invariant-loop-i l = map (λ (x : Number). x.0) l.numbers.items ≡ take l.i (map (λ (p : ℕ × ℕ). p.0) l.losers)
