-- What is known of a disk that tells nothing of what it contains.
use Rattle.std.specs.Prelude.{ℕ, []}
use Rattle.sg_disk.specs.Disk.{View}

-- its counts, and of its bytes nothing
abbrev pub counts_alone : (handed calls faults : ℕ) → View
counts_alone handed calls faults = record { now = λ a. record { seen = λ i. 0; pending = [] }; past = []; handed = handed; calls = calls; faults = faults }
