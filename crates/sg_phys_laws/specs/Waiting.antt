-- What waits at the end of a log.
use Rattle.std.specs.Prelude.{ℕ, ◌-◌}
use Rattle.sg_log.specs.Held.{Tail, tail_of}

-- how many bytes wait to be handed to the disk: those of the buffer, with the head of their frame
abbrev pub waiting_of : Tail → ℕ
waiting_of log = tail_of log - log.gate
