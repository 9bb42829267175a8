-- Words that stand joined.
use Rattle.std.proofs.Common.{◌≡◌, ℕ, zero, suc, ◌+◌, ◌-◌, ◌<◌, ◌≤◌, Bool, true, false, cond, not, ◌==◌, List, [], ◌∷◌, ◌++◌, length, drop, get_or, filter, Option, Some, None, refl, sym, ap, ◌∙◌, subst, arith}
use Rattle.std.specs.Prelude.{◌&&◌, ◌||◌}
use Rattle.std.specs.List.{slice_split, onto_first, join_with_byte, list_all, position}
use Rattle.std.specs.Option.{is_some}
use Rattle.std.proofs.lemmas.Bool.{lt-ltb}
use Rattle.std.proofs.lemmas.List.{length-drop}
use Rattle.std.proofs.lemmas.List.Splits.{join_with_byte-slice_split, length-slice_split}
use Rattle.sg_words.specs.Parse.{words_of, is_word}
use Rattle.sg_words.specs.Spoken.{IsJoined, has_gap}
use Rattle.sg_words.proofs.Cuts.{split_none}

abbrev parts_of : List ℕ → List (List ℕ)
parts_of text = slice_split (λ b. b == 32) text

both : (a b : Bool) → a ≡ true → b ≡ true → (a && b) ≡ true
both true b e f = f
both false b e f = e

second : (a b : Bool) → (a && b) ≡ true → b ≡ true
second true b e = e
second false b e = absurd (cc)

neither : (a b : Bool) → (a || b) ≡ false → (a ≡ false) × (b ≡ false)
neither true b e = absurd (cc)
neither false b e = (refl, e)

-- a byte more before the first part
first_longer : (b : ℕ) (parts : List (List ℕ)) → list_all is_word parts ≡ true → list_all is_word (onto_first b parts) ≡ true
first_longer b [] all = both (is_word (b ∷ [])) true (lt-ltb 0 (length (b ∷ [])) (omega arith)) refl
first_longer b (part ∷ parts) all = both (is_word (b ∷ part)) (list_all is_word parts) (lt-ltb 0 (length (b ∷ part)) (omega arith)) (second (is_word part) (list_all is_word parts) all)

-- a first byte that is no space
begun : (b : ℕ) (parts : List (List ℕ)) → (b == 32) ≡ false → list_all is_word (onto_first b parts) ≡ true → list_all is_word (cond {A = List (List ℕ)} (b == 32) ([] ∷ parts) (onto_first b parts)) ≡ true
begun b parts first all = ap (λ (x : Bool). list_all is_word (cond {A = List (List ℕ)} x ([] ∷ parts) (onto_first b parts))) first ∙ all

-- the last byte
abbrev ends : ℕ → List ℕ → ℕ
ends b [] = b
ends b (c ∷ more) = ends c more

last_is : (b : ℕ) (more : List ℕ) (d : ℕ) → get_or (b ∷ more) (length more) d ≡ ends b more
last_is b [] d = refl
last_is b (c ∷ more) d = last_is c more d

-- a text that begins and ends with other bytes than spaces, and has no two side by side, is cut into words
all_words : (b : ℕ) (more : List ℕ) → (b == 32) ≡ false → (ends b more == 32) ≡ false → has_gap (b ∷ more) ≡ false → list_all is_word (parts_of (b ∷ more)) ≡ true
all_words b [] first last gap = begun b ([] ∷ []) first (both (is_word (b ∷ [])) true (lt-ltb 0 (length (b ∷ [])) (omega arith)) refl)
all_words b (c ∷ []) first last gap =
    begun b (parts_of (c ∷ [])) first (first_longer b (parts_of (c ∷ [])) (all_words c [] last last refl))
all_words b (c ∷ d ∷ more) first last gap = begun b (parts_of (c ∷ d ∷ more)) first (middle (c == 32) refl (all_words c (d ∷ more)) (all_words d more))
  where
    gaps : (((c == 32) && (d == 32)) ≡ false) × (has_gap (d ∷ more) ≡ false)
    gaps = neither ((c == 32) && (d == 32)) (has_gap (d ∷ more)) (neither ((b == 32) && (c == 32)) (has_gap (c ∷ d ∷ more)) gap).1

    middle : (x : Bool) → (c == 32) ≡ x
        → ((c == 32) ≡ false → (ends d more == 32) ≡ false → has_gap (c ∷ d ∷ more) ≡ false → list_all is_word (parts_of (c ∷ d ∷ more)) ≡ true)
        → ((d == 32) ≡ false → (ends d more == 32) ≡ false → has_gap (d ∷ more) ≡ false → list_all is_word (parts_of (d ∷ more)) ≡ true)
        → list_all is_word (onto_first b (parts_of (c ∷ d ∷ more))) ≡ true
    middle true is from_c from_d =
        ap (λ (x : Bool). list_all is_word (onto_first b (cond {A = List (List ℕ)} x ([] ∷ parts_of (d ∷ more)) (onto_first c (parts_of (d ∷ more)))))) is
        ∙ both (is_word (b ∷ [])) (list_all is_word (parts_of (d ∷ more))) (lt-ltb 0 (length (b ∷ [])) (omega arith)) (from_d (ap (λ (x : Bool). x && (d == 32)) (sym is) ∙ gaps.0) last gaps.1)
    middle false is from_c from_d = first_longer b (parts_of (c ∷ d ∷ more)) (from_c is last (neither ((b == 32) && (c == 32)) (has_gap (c ∷ d ∷ more)) gap).1)

all_kept : (parts : List (List ℕ)) → list_all is_word parts ≡ true → filter is_word parts ≡ parts
all_kept [] all = refl
all_kept (part ∷ parts) all = go (is_word part) all (all_kept parts)
  where
    go : (b : Bool) → (b && list_all is_word parts) ≡ true → (list_all is_word parts ≡ true → filter is_word parts ≡ parts) → cond b (part ∷ filter is_word parts) (filter is_word parts) ≡ part ∷ parts
    go true e rest = ap (λ (ps : List (List ℕ)). part ∷ ps) (rest e)
    go false e rest = absurd (cc)

-- words that are all the parts, joined, are the text
pub joined : (text : List ℕ) (d e : ℕ) → 0 < length text → (get_or text 0 d == 32) ≡ false → (get_or text (length text - 1) e == 32) ≡ false → has_gap text ≡ false → join_with_byte 32 (words_of text) ≡ text
joined [] d e some first last gap = absurd (omega arith)
joined (b ∷ more) d e some first last gap =
    let is : get_or (b ∷ more) (length (b ∷ more) - 1) e ≡ ends b more = ap (λ n. get_or (b ∷ more) n e) (let q : length (b ∷ more) - 1 ≡ length more = omega arith in q) ∙ last_is b more e in
    ap (join_with_byte 32) (all_kept (parts_of (b ∷ more)) (all_words b more first (ap (λ n. n == 32) (sym is) ∙ last) gap)) ∙ join_with_byte-slice_split 32 (b ∷ more)

-- one more pair of bytes has been looked at
gap_step : (text : List ℕ) (i : ℕ) (d e : ℕ) → suc i < length text → has_gap (drop i text) ≡ (((get_or text i d == 32) && (get_or text (suc i) e == 32)) || has_gap (drop (suc i) text))
gap_step [] i d e h = absurd (omega arith)
gap_step (b ∷ []) i d e h = absurd (omega arith)
gap_step (b ∷ c ∷ more) zero d e h = refl
gap_step (b ∷ c ∷ more) (suc i) d e h = gap_step (c ∷ more) i d e (omega arith)

no_gap_within : (text : List ℕ) → length text ≤ 1 → has_gap text ≡ false
no_gap_within [] h = refl
no_gap_within (b ∷ []) h = refl
no_gap_within (b ∷ c ∷ more) h = absurd (omega arith)

-- the bytes before a place have no gap, or the whole text has one: so with the byte at the place
pub gap_more : (text : List ℕ) (before i next : ℕ) → suc before ≡ i → i < length text → next ≡ i → (ok whole : Bool) → (ok && not (has_gap (drop before text))) ≡ whole
    → ((ok && (not (get_or text before 0 == 32) || not (get_or text i 0 == 32))) && not (has_gap (drop next text))) ≡ whole
gap_more text before i next e h f ok whole was =
    let a = get_or text before 0 == 32 in
    ap (λ k. (ok && (not a || not (get_or text k 0 == 32))) && not (has_gap (drop next text))) (sym e)
    ∙ (ap (λ k. (ok && (not a || not (get_or text (suc before) 0 == 32))) && not (has_gap (drop k text))) (f ∙ sym e)
    ∙ (combine ok a (get_or text (suc before) 0 == 32) (has_gap (drop (suc before) text))
    ∙ (ap (λ (g : Bool). ok && not g) (sym (gap_step text before 0 0 (subst (λ k. k < length text) (sym e) h))) ∙ was)))
  where
    combine : (ok a b g : Bool) → ((ok && (not a || not b)) && not g) ≡ (ok && not ((a && b) || g))
    combine false a b g = refl
    combine true true true g = refl
    combine true true false g = refl
    combine true false b g = refl

pub gap_end : (text : List ℕ) (before : ℕ) (ok whole : Bool) → length text ≤ suc before → (ok && not (has_gap (drop before text))) ≡ whole → ok ≡ whole
gap_end text before ok whole h was =
    sym (all ok) ∙ (ap (λ (g : Bool). ok && not g) (sym (no_gap_within (drop before text) (let e = length-drop before text in omega (arith, e, h)))) ∙ was)
  where
    all : (b : Bool) → (b && true) ≡ b
    all true = refl
    all false = refl

-- a text without a space is one word
pub one_part : (text : List ℕ) (at : Option ℕ) → at ≡ position (λ b. b == 32) text → is_some at ≡ false → 0 < length text → words_of text ≡ text ∷ []
one_part text None e none some = ap (filter is_word) (split_none (λ b. b == 32) text (sym e)) ∙ ap (λ (b : Bool). cond {A = List (List ℕ)} b (text ∷ []) []) (lt-ltb 0 (length text) some)
one_part text (Some i) e none some = absurd (cc)

-- a part and more parts, joined
join_more : (part : List ℕ) (parts : List (List ℕ)) → 0 < length parts → join_with_byte 32 (part ∷ parts) ≡ part ++ 32 ∷ join_with_byte 32 parts
join_more part [] some = absurd (omega arith)
join_more part (next ∷ parts) some = refl

-- a text that is cut at its first space
pub cut_apart : (text part rest : List ℕ) → slice_split (λ b. b == 32) text ≡ part ∷ slice_split (λ b. b == 32) rest → text ≡ part ++ 32 ∷ rest
cut_apart text part rest e =
    let some : 0 < length (parts_of rest) = let n = length-slice_split (λ b. b == 32) rest in omega (arith, n) in
    sym (join_with_byte-slice_split 32 text) ∙ (ap (join_with_byte 32) e ∙ (join_more part (parts_of rest) some ∙ ap (λ (t : List ℕ). part ++ 32 ∷ t) (join_with_byte-slice_split 32 rest)))

some_words : (words : List (List ℕ)) (text : List ℕ) → join_with_byte 32 words ≡ text → 0 < length text → 0 < length words
some_words [] text e some = let n : length {A = ℕ} [] ≡ length text = ap length e in absurd (omega (arith, n, some))
some_words (word ∷ words) text e some = omega arith

-- a word with one space behind it, before words that stand joined
pub joined_on : (text word rest : List ℕ) → words_of text ≡ word ∷ words_of rest
    → (0 < length rest → length word + length rest + 1 ≡ length text → text ≡ word ++ 32 ∷ rest) → length word + length rest + 1 ≡ length text → IsJoined rest → IsJoined text
joined_on text word rest words next is j =
    record {
      some = omega (arith, is);
      joined =
          ap (join_with_byte 32) words ∙ (join_more word (words_of rest) (some_words (words_of rest) rest j.joined j.some)
          ∙ (ap (λ (t : List ℕ). word ++ 32 ∷ t) j.joined ∙ sym (next j.some is)));
    }
