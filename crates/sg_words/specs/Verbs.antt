-- The code's verbs: what each asks for with the words behind it.
use Rattle.std.specs.Prelude.{ℕ, Bool, true, false, List, [], ◌∷◌, Option, Some, None}
use Rattle.std.specs.Option.{option_map, option_and_then}
use Rattle.sg_model.specs.Verb.{Verb}
use Rattle.sg_model.specs.Verb.Op.{Names}
use Rattle.sg_model.specs.Verb.Verb.{MakeArray, MakeTable, MakeBlob, Discard, Push, Pop, Set, Get, Len, Apply, Del, Find, Keys, Write, Read, Size, Paint}
use Rattle.sg_words.specs.Parse.{number_of, value_of}
use Rattle.sg_words.specs.Requests.{Request, make_array_of, make_table_of, make_blob_of, discard_of, pop_of, get_of, len_of, read_of, size_of, push_of, set_of, apply_of, put_of, del_of, find_of, write_of, paint_of, keys_of, make_of, alone}
use Rattle.sg_words.specs.Requests.Request.{Begin, Commit, Abort, Do}
use Rattle.sg_words.specs.declared.verb.Numbered.{Numbered}
use Rattle.sg_words.specs.declared.verb.Numbered.TheVariants as numbered
use Rattle.sg_words.specs.declared.verb.Valued.{Valued}
use Rattle.sg_words.specs.declared.verb.Valued.TheVariants as valued
use Rattle.sg_words.specs.declared.verb.Named.{Named}
use Rattle.sg_words.specs.declared.verb.Named.TheVariants as named
use Rattle.sg_words.specs.declared.verb.Alone.{Alone}
use Rattle.sg_words.specs.declared.verb.Alone.TheVariants as lone
use Rattle.sg_words.specs.declared.verb.Plain.{Plain}
use Rattle.sg_words.specs.declared.verb.Plain.TheVariants as plain

-- what a verb with a value at its end asks for
abbrev pub of_numbered : Numbered → List (List ℕ) → Option Request
of_numbered numbered.Push args = push_of args
of_numbered numbered.Set args = set_of args
of_numbered numbered.Apply args = apply_of args
of_numbered numbered.Del args = del_of args
of_numbered numbered.Find args = find_of args
of_numbered numbered.Write args = write_of args
of_numbered numbered.Paint args = paint_of args

-- what a verb with a value among its words asks for
abbrev pub of_valued : Valued → List (List ℕ) → Option Request
of_valued valued.Put args = put_of args
of_valued (valued.With verb) args = of_numbered verb args

-- what a verb on the object with a name asks for
abbrev pub of_named : Named → List (List ℕ) → Option Request
of_named named.MakeArray args = make_array_of args
of_named named.MakeTable args = make_table_of args
of_named named.MakeBlob args = make_blob_of args
of_named named.Discard args = discard_of args
of_named named.Pop args = pop_of args
of_named named.Get args = get_of args
of_named named.Len args = len_of args
of_named named.Read args = read_of args
of_named named.Size args = size_of args
of_named named.Keys args = keys_of args

-- what a verb without words behind it asks for
abbrev pub of_alone : Alone → List (List ℕ) → Option Request
of_alone lone.Begin args = alone Begin args
of_alone lone.Commit args = alone Commit args
of_alone lone.Abort args = alone Abort args
of_alone lone.List args = alone (Do Names) args

-- what a verb without a value asks for
abbrev pub of_plain : Plain → List (List ℕ) → Option Request
of_plain (plain.Alone verb) args = of_alone verb args
of_plain plain.Make args = make_of args
of_plain (plain.On verb) args = of_named verb args

-- the verbs with a number before their value
abbrev pub wants_one : Numbered → Bool
wants_one numbered.Push = false
wants_one numbered.Set = true
wants_one numbered.Apply = true
wants_one numbered.Del = false
wants_one numbered.Find = false
wants_one numbered.Write = true
wants_one numbered.Paint = true

-- the verbs with a second number before their value
abbrev pub wants_two : Numbered → Bool
wants_two numbered.Push = false
wants_two numbered.Set = false
wants_two numbered.Apply = true
wants_two numbered.Del = false
wants_two numbered.Find = false
wants_two numbered.Write = false
wants_two numbered.Paint = true

-- the verb with a third number before its value
abbrev pub wants_three : Numbered → Bool
wants_three numbered.Push = false
wants_three numbered.Set = false
wants_three numbered.Apply = false
wants_three numbered.Del = false
wants_three numbered.Find = false
wants_three numbered.Write = false
wants_three numbered.Paint = true

-- the verbs with a number at their end
abbrev pub has_number : Named → Bool
has_number named.MakeArray = true
has_number named.MakeTable = false
has_number named.MakeBlob = false
has_number named.Discard = false
has_number named.Pop = false
has_number named.Get = true
has_number named.Len = false
has_number named.Read = true
has_number named.Size = true
has_number named.Keys = false

-- the verb with a second number at its end
abbrev pub has_two : Named → Bool
has_two named.MakeArray = false
has_two named.MakeTable = false
has_two named.MakeBlob = false
has_two named.Discard = false
has_two named.Pop = false
has_two named.Get = false
has_two named.Len = false
has_two named.Read = true
has_two named.Size = false
has_two named.Keys = false

-- the verb of the model that has a value, with those of the numbers that it has
abbrev pub verb_with : Numbered → ℕ → ℕ → ℕ → List ℕ → Verb
verb_with numbered.Push first second third value = Push value
verb_with numbered.Set first second third value = Set first value
verb_with numbered.Apply first second third value = Apply first second value
verb_with numbered.Del first second third value = Del value
verb_with numbered.Find first second third value = Find value
verb_with numbered.Write first second third value = Write first value
verb_with numbered.Paint first second third value = Paint first second third value

-- the verb of the model that has no value, with those of the numbers that it has
abbrev pub verb_on : Named → ℕ → ℕ → Verb
verb_on named.MakeArray first second = MakeArray first
verb_on named.MakeTable first second = MakeTable
verb_on named.MakeBlob first second = MakeBlob
verb_on named.Discard first second = Discard
verb_on named.Pop first second = Pop
verb_on named.Get first second = Get first
verb_on named.Len first second = Len
verb_on named.Read first second = Read first second
verb_on named.Size first second = Size first
verb_on named.Keys first second = Keys

-- a number, with the words behind its own
abbrev pub before : List (List ℕ) → Option ℕ → Option (ℕ × List (List ℕ))
before words None = None
before words (Some n) = Some (n, words)

-- the number that the first word is, and the other words, where a number is wanted
abbrev pub number_if : Bool → List (List ℕ) → Option (ℕ × List (List ℕ))
number_if false words = Some (0, words)
number_if true [] = None
number_if true (word ∷ words) = before words (number_of word)

-- the numbers before the value of a verb, and the words behind them
abbrev pub numbers_of : Numbered → List (List ℕ) → Option (ℕ × ℕ × ℕ × List (List ℕ))
numbers_of verb words =
    option_and_then (λ p. option_and_then (λ q. option_map (λ r. (p.0, q.0, r.0, r.1)) (number_if (wants_three verb) q.1)) (number_if (wants_two verb) p.1)) (number_if (wants_one verb) words)

-- what the only word stands for as a value
abbrev pub one_value : List (List ℕ) → Option (List ℕ)
one_value [] = None
one_value (word ∷ []) = value_of word
one_value (word ∷ more ∷ words) = None
