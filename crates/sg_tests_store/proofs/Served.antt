-- A store over an engine that tells nothing serves by any operations.
use Rattle.std.proofs.Common.{ℕ}
use Rattle.sg_ops.specs.Table.{Table as Operations}
use Rattle.sg_store.specs.Ground.{Ground}
use Rattle.sg_store.specs.Engine.{View, AskedBy}
use Rattle.sg_tests_store.specs.Small.{shown, some_pages}

pub asked : (t : Operations) (tail pages bands faults : ℕ) (P : (g : Ground) → View g → Type 0) → AskedBy t (shown tail pages bands faults) P
asked t tail pages bands faults P = record { sizes = record { pages = 0; bands = 0 }; from = λ told. some_pages; means = λ told. tt; can = λ told. absurd told }
