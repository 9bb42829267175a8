-- The lines of a script, the words of a line, numbers, values and names of transactions.
use Rattle.std.specs.Prelude.{ℕ, Bool, ◌&&◌, ◌||◌, not, ◌+◌, ◌-◌, ◌*◌, ◌^◌, ◌==◌, nat_lt, nat_le, if◌then◌else◌, List, [], ◌∷◌, length, filter, drop, Option, Some, None, Result, Ok, Err, codes, slice_index}
use Rattle.std.specs.List.{slice_split, list_all}
use Rattle.std.specs.Str.{bytes_eq}
use Rattle.hex.specs.Hex.{decode_of}
use Rattle.hex.specs.declared.error.FromHexError.{FromHexError}
use Rattle.sg_base.specs.Spelling.{is_digit, is_name}

-- the parts between LFs. What follows the last LF is a line too: where it is empty, it has no words
abbrev pub lines_of : List ℕ → List (List ℕ)
lines_of text = slice_split (λ b. b == 10) text

abbrev pub is_word : List ℕ → Bool
is_word part = nat_lt 0 (length part)

-- the parts between spaces that are not empty
abbrev pub words_of : List ℕ → List (List ℕ)
words_of line = filter is_word (slice_split (λ b. b == 32) line)

-- the value of decimal digits after those of value n
abbrev pub value_from : ℕ → List ℕ → ℕ
value_from n [] = n
value_from n (b ∷ bs) = value_from (n * 10 + (b - 48)) bs

-- a number below 2^64
abbrev pub fitting : ℕ → Option ℕ
fitting n = if nat_lt n (2 ^ 64) then Some n else None

-- 1 to 20 digits with a value below 2^64
abbrev pub number_of : List ℕ → Option ℕ
number_of word = if is_word word && nat_le (length word) 20 && list_all is_digit word then fitting (value_from 0 word) else None

-- the bytes that stand for themselves, from 0x21 to 0x7E
abbrev pub is_plain : ℕ → Bool
is_plain b = nat_le 33 b && nat_le b 126

-- whether a word begins with `x:`
abbrev pub begins_hex : List ℕ → Bool
begins_hex word = slice_index word 0 == 120 && slice_index word 1 == 58

abbrev pub if_decoded : Result (List ℕ) FromHexError → Option (List ℕ)
if_decoded (Ok bytes) = Some bytes
if_decoded (Err e) = None

-- what a value word stands for: the bytes of its hexadecimal digits, two for each byte in either case,
-- or itself
abbrev pub value_of : List ℕ → Option (List ℕ)
value_of word = if begins_hex word then if_decoded (decode_of (drop 2 word)) else (if list_all is_plain word then Some word else None)

-- the words that begin a line of their own and so name no transaction
abbrev pub is_reserved : List ℕ → Bool
is_reserved word = bytes_eq word (codes "flush") || bytes_eq word (codes "checkpoint") || bytes_eq word (codes "truncate")

-- the name of a transaction has at most 16 bytes
abbrev pub is_transaction : List ℕ → Bool
is_transaction word = is_name word && nat_le (length word) 16 && not (is_reserved word)

-- the most bytes of a line, without its LF
abbrev pub most_line_bytes : ℕ
most_line_bytes = 32768
