-- A call that a fuse refuses.
use Rattle.std.proofs.Common.{◌≡◌, inl, ⊎_elim, ℕ, ◌+◌, ◌≤◌, min, [], Err, refl, arith}
use Rattle.sg_disk.specs.Disk.{FULL, Image, State, Leaves, View, Counts, Does, refusing}

pub refused_counts : {T E : Type 0} (e : E) (n : ℕ) (v : View) (before now : ℕ) → now ≡ min (before + 1) FULL → before ≤ now → Counts {T = T} n (refusing v before) (refusing v now) (Err e)
refused_counts e n v before now counted fits = record {
  handed_most = omega arith;
  handed_least = omega arith;
  calls = omega arith;
  later = omega arith;
  quiet = tt;
  failed = λ below. omega arith;
}

pub refused_does : {T E : Type 0} (e : E) (v : View) (before now : ℕ) (widest done : State) → ((c : Image) → Leaves v.now c → Leaves widest c) → Does {T = T} (refusing v before) (refusing v now) (Err e) widest done
refused_does e v before now widest done wider = record {
  added = [];
  past = refl;
  kept = λ c here. inl here;
  only = λ c. ⊎_elim (wider c) (λ none. absurd none);
  ok = tt;
}
