-- The words that a log keeps of a line are its words but for the first.
use Rattle.std.proofs.Common.{◌≡◌, ℕ, Bool, true, false, cond, ◌==◌, List, [], ◌∷◌, ◌++◌, filter, refl, sym, ap, ◌∙◌, append-nil}
use Rattle.std.specs.List.{slice_split, onto_first, join_with_byte}
use Rattle.std.specs.Str.Lines.{strip_carriage_return}
use Rattle.sg_words.specs.Parse.{words_of, is_word}
use Rattle.sg_words.specs.Spoken.{later_words, spoken}

abbrev is_space : ℕ → Bool
is_space b = b == 32

-- bytes without a space
abbrev pub IsFree : List ℕ → Type 0
IsFree [] = Unit {0}
IsFree (b ∷ bs) = ((b == 32) ≡ false) × IsFree bs

abbrev AreFree : List (List ℕ) → Type 0
AreFree [] = Unit {0}
AreFree (part ∷ parts) = IsFree part × AreFree parts

-- parts without a space that are not empty
abbrev AreWords : List (List ℕ) → Type 0
AreWords [] = Unit {0}
AreWords (word ∷ words) = (is_word word ≡ true) × IsFree word × AreWords words

onto_free : (x : ℕ) (parts : List (List ℕ)) → (x == 32) ≡ false → AreFree parts → AreFree (onto_first x parts)
onto_free x [] e h = ((e, tt), tt)
onto_free x (part ∷ parts) e h = ((e, h.0), h.1)

split_step : (b : Bool) (x : ℕ) (parts : List (List ℕ)) → (x == 32) ≡ b → AreFree parts → AreFree (cond b ([] ∷ parts) (onto_first x parts))
split_step true x parts e h = (tt, h)
split_step false x parts e h = onto_free x parts e h

split_free : (xs : List ℕ) → AreFree (slice_split is_space xs)
split_free [] = (tt, tt)
split_free (x ∷ xs) = split_step (x == 32) x (slice_split is_space xs) refl (split_free xs)

filter_step : (b : Bool) (part : List ℕ) (words : List (List ℕ)) → is_word part ≡ b → IsFree part → AreWords words → AreWords (cond b (part ∷ words) words)
filter_step true part words e f h = (e, f, h)
filter_step false part words e f h = h

filtered : (parts : List (List ℕ)) → AreFree parts → AreWords (filter is_word parts)
filtered [] h = tt
filtered (part ∷ parts) h = filter_step (is_word part) part (filter is_word parts) refl h.0 (filtered parts h.1)

are_words : (line : List ℕ) → AreWords (words_of line)
are_words line = filtered (slice_split is_space line) (split_free line)

later : (words : List (List ℕ)) → AreWords words → AreWords (later_words words)
later [] h = tt
later (word ∷ words) h = h.2

pub split_one : (word : List ℕ) → IsFree word → slice_split is_space word ≡ word ∷ []
split_one [] h = refl
split_one (x ∷ word) h = ap (λ b. cond b ([] ∷ slice_split is_space word) (onto_first x (slice_split is_space word))) h.0 ∙ ap (onto_first x) (split_one word h.1)

split_more : (word rest : List ℕ) → IsFree word → slice_split is_space (word ++ 32 ∷ rest) ≡ word ∷ slice_split is_space rest
split_more [] rest h = refl
split_more (x ∷ word) rest h = ap (λ b. cond b ([] ∷ slice_split is_space (word ++ 32 ∷ rest)) (onto_first x (slice_split is_space (word ++ 32 ∷ rest)))) h.0 ∙ ap (onto_first x) (split_more word rest h.1)

pub kept : (word : List ℕ) (words : List (List ℕ)) → is_word word ≡ true → cond (is_word word) (word ∷ words) words ≡ word ∷ words
kept word words e = ap (λ b. cond b (word ∷ words) words) e

-- words that are joined by spaces are those words again
pub words_of-join : (words : List (List ℕ)) → AreWords words → words_of (join_with_byte 32 words) ≡ words
words_of-join [] h = refl
words_of-join (word ∷ []) h = ap (filter is_word) (split_one word h.1) ∙ kept word [] h.0
words_of-join (word ∷ next ∷ words) h =
    ap (filter is_word) (split_more word (join_with_byte 32 (next ∷ words)) h.1) ∙ (kept word (words_of (join_with_byte 32 (next ∷ words))) h.0 ∙ ap (λ (ws : List (List ℕ)). word ∷ ws) (words_of-join (next ∷ words) h.2))

-- the kept words are those of the line but for the first
pub words_of-spoken : (line : List ℕ) → words_of (spoken line) ≡ later_words (words_of (strip_carriage_return line))
words_of-spoken line = words_of-join _ (later (words_of (strip_carriage_return line)) (are_words (strip_carriage_return line)))

-- each word behind a space
abbrev pub spaced : List (List ℕ) → List ℕ
spaced [] = []
spaced (word ∷ words) = 32 ∷ word ++ spaced words

pub join-spaced : (word : List ℕ) (words : List (List ℕ)) → join_with_byte 32 (word ∷ words) ≡ word ++ spaced words
join-spaced word [] = sym (append-nil word)
join-spaced word (next ∷ words) = ap (λ (t : List ℕ). word ++ 32 ∷ t) (join-spaced next words)
