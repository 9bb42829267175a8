-- A line as it is written, without its LF.
use Rattle.std.specs.Prelude.{ℕ, zero, suc, List, [], ◌∷◌, ◌++◌, codes, decimal}
use Rattle.std.specs.Int.{w32, w64, to_le_bytes, to_be_bytes}
use Rattle.hex.specs.Hex.{encode_lower}
use Rattle.sg_workload.specs.declared.drawn.Verb.{Verb}
use Rattle.sg_workload.specs.declared.drawn.Verb.TheVariants.{Begin, Commit, Abort, Apply, Put, Find, Del, Paint, Get}

-- a text so many times
unfoldable pub repeated : ℕ → List ℕ → List ℕ
repeated zero text = []
repeated (suc n) text = repeated n text ++ text

-- the eight digits of a word, the greatest first
abbrev pub digits_of : ℕ → List ℕ
digits_of word = encode_lower (to_be_bytes w32 word)

abbrev pub text_of_verb : Verb → List ℕ
text_of_verb Begin = codes " begin"
text_of_verb Commit = codes " commit"
text_of_verb Abort = codes " abort"
text_of_verb (Apply index amount) = codes " apply a " ++ decimal index ++ codes " 1 x:" ++ encode_lower (to_le_bytes w64 amount)
text_of_verb (Put key value) = codes " put h k" ++ decimal key ++ codes " " ++ repeated 16 (digits_of value)
text_of_verb (Find key) = codes " find h k" ++ decimal key
text_of_verb (Del key) = codes " del h k" ++ decimal key
text_of_verb (Paint at length byte) = codes " paint b " ++ decimal at ++ codes " " ++ decimal length ++ codes " 2 x:" ++ encode_lower (byte ∷ [])
text_of_verb (Get index) = codes " get a " ++ decimal index

-- the line of the transaction with this number
abbrev pub text_of : ℕ → Verb → List ℕ
text_of w verb = codes "t" ++ decimal w ++ text_of_verb verb
