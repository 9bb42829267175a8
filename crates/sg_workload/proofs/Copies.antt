-- A text that is put behind its copies.
use Rattle.std.proofs.Common.{◌≡◌, ℕ, ◌+◌, List, ◌++◌, refl, add-one}
use Rattle.sg_workload.specs.Texts.{repeated}

pub repeated-one_more : (n : ℕ) (text : List ℕ) → repeated (n + 1) text ≡ repeated n text ++ text
unfolding repeated
repeated-one_more n text = rw add-one refl
