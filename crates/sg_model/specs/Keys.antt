-- The keys of tables.
use Rattle.std.specs.Prelude.{ℕ, Bool, ◌&&◌, ◌==◌, nat_le, nat_lt, if◌then◌else◌, List, length, Result, Ok, Err}
use Rattle.sg_model.specs.declared.reason.Reason.{Reason}
use Rattle.sg_model.specs.declared.reason.Reason.TheVariants.{OutOfRange, TooLong}

-- 1 to 128 bytes
abbrev pub is_table_key : List ℕ → Bool
is_table_key key = nat_le 1 (length key) && nat_le (length key) 128

-- the key of these bytes, or why they are none
abbrev pub key_checked : List ℕ → Result (List ℕ) Reason
key_checked key = if length key == 0 then Err OutOfRange else (if nat_lt 128 (length key) then Err TooLong else Ok key)
