-- Bytes as they are printed, and the lines of reasons.
use Rattle.std.specs.Prelude.{ℕ, ◌&&◌, not, Bool, if◌then◌else◌, nat_lt, List, ◌++◌, length, codes}
use Rattle.std.specs.List.{list_all}
use Rattle.hex.specs.Hex.{encode_lower}
use Rattle.sg_model.specs.declared.reason.Reason.{Reason}
use Rattle.sg_model.specs.declared.reason.Reason.TheVariants.{NoObject, WrongKind, Exists, OutOfRange, NoOperation, Declined, TooLong, TooMany}
use Rattle.sg_words.specs.Parse.{is_plain, begins_hex}

-- whether bytes are printed as themselves
abbrev pub prints_plain : List ℕ → Bool
prints_plain bytes = nat_lt 0 (length bytes) && list_all is_plain bytes && not (begins_hex bytes)

-- bytes as they are printed: as themselves, or as `x:` and lower-case hexadecimal digits
abbrev pub printed : List ℕ → List ℕ
printed bytes = if prints_plain bytes then bytes else codes "x:" ++ encode_lower bytes

abbrev pub text_of_reason : Reason → List ℕ
text_of_reason NoObject = codes "error no-object\n"
text_of_reason WrongKind = codes "error wrong-kind\n"
text_of_reason Exists = codes "error exists\n"
text_of_reason OutOfRange = codes "error out-of-range\n"
text_of_reason NoOperation = codes "error no-operation\n"
text_of_reason Declined = codes "error declined\n"
text_of_reason TooLong = codes "error too-long\n"
text_of_reason TooMany = codes "error too-many\n"
