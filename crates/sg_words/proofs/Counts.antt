-- The words behind a verb, read one after another, and what the verb says of all of them.
use Rattle.std.proofs.Common.{◌≡◌, ℕ, ◌==◌, ◌<◌, Bool, true, false, cond, List, [], ◌∷◌, length, filter, Option, Some, None, refl, ap, ◌∙◌, arith}
use Rattle.std.specs.Prelude.{◌≢◌, ◌&&◌, not, nat_lt, if◌then◌else◌}
use Rattle.std.proofs.lemmas.Bool.Decides.{nat_tests}
use Rattle.std.specs.List.{list_all, join_with_byte}
use Rattle.std.specs.Option.{option_map, option_and_then}
use Rattle.sg_base.specs.Spelling.{is_name}
use Rattle.sg_model.specs.Verb.{Verb}
use Rattle.sg_model.specs.Verb.Op.{On}
use Rattle.sg_model.specs.Verb.Verb.{Put}
use Rattle.sg_words.specs.Parse.{words_of, is_word, is_plain, begins_hex, number_of, value_of}
use Rattle.sg_words.specs.Text.{prints_plain}
use Rattle.sg_words.specs.Spoken.{IsJoined}
use Rattle.sg_words.specs.Requests.{Request, put_of, where_some, named}
use Rattle.sg_words.specs.Requests.Request.{Do}
use Rattle.sg_words.specs.Verbs.{of_named, of_numbered, wants_one, wants_two, wants_three, has_number, has_two, verb_with, verb_on, before, number_if, numbers_of, one_value}
use Rattle.sg_words.specs.declared.verb.Numbered.{Numbered}
use Rattle.sg_words.specs.declared.verb.Numbered.TheVariants as numbered
use Rattle.sg_words.specs.declared.verb.Named.{Named}
use Rattle.sg_words.specs.declared.verb.Named.TheVariants as on
use Rattle.sg_words.proofs.Said.{IsFree, split_one, kept}

-- a request, where no words are left
abbrev pub at_end : List (List ℕ) → Option Request → Option Request
at_end [] request = request
at_end (word ∷ words) request = None

-- what a verb makes of the words behind the name, one after another
abbrev pub read_named : Named → List ℕ → List (List ℕ) → Option Request
read_named verb name words = where_some (number_if (has_number verb) words) (λ p. where_some (number_if (has_two verb) p.1) (λ q. at_end q.1 (named name (verb_on verb p.0 q.0))))

abbrev pub read_numbered : Numbered → List ℕ → List (List ℕ) → Option Request
read_numbered verb name words =
    where_some (number_if (wants_one verb) words) (λ p. where_some (number_if (wants_two verb) p.1) (λ q. where_some (number_if (wants_three verb) q.1) (λ r.
    where_some (one_value r.1) (λ value. named name (verb_with verb p.0 q.0 r.0 value)))))

-- what stands on an object with a name
of_name : (word name : List ℕ) (verb : Verb) → (if is_name word then Some word else None) ≡ Some name → named word verb ≡ Some (Do (On name verb))
of_name word name verb e = go (is_name word) ∙ ap (option_map (λ n. Do (On n verb))) e
  where
    go : (b : Bool) → cond b (Some (Do (On word verb))) None ≡ option_map (λ n. Do (On n verb)) (if b then Some word else None)
    go true = refl
    go false = refl

-- a number is read, and what is done with it is done
through : (words : List (List ℕ)) (o : Option ℕ) (f : (ℕ × List (List ℕ)) → Option Request) → where_some o (λ n. f (n, words)) ≡ where_some (before words o) f
through words None f = refl
through words (Some n) f = refl

under : {A : Type 0} (o : Option A) (f g : A → Option Request) → ((a : A) → f a ≡ g a) → where_some o f ≡ where_some o g
under None f g e = refl
under (Some a) f g e = e a

nothing : {A : Type 0} (o : Option A) → None ≡ where_some o (λ a. None)
nothing None = refl
nothing (Some a) = refl

-- a number is read, and what follows it is refused
refused : (words : List (List ℕ)) (o : Option ℕ) (f : (ℕ × List (List ℕ)) → Option Request) → ((n : ℕ) → None ≡ f (n, words)) → None ≡ where_some (before words o) f
refused words o f e = nothing o ∙ (under o (λ n. None) (λ n. f (n, words)) e ∙ through words o f)

-- a number is read, and what follows it is as good
followed : (words : List (List ℕ)) (o : Option ℕ) (g : ℕ → Option Request) (f : (ℕ × List (List ℕ)) → Option Request) → ((n : ℕ) → g n ≡ f (n, words)) → where_some o g ≡ where_some (before words o) f
followed words o g f e = under o g (λ n. f (n, words)) e ∙ through words o f

pub named_words : (verb : Named) (name : List ℕ) (words : List (List ℕ)) → of_named verb (name ∷ words) ≡ read_named verb name words
named_words on.MakeTable name [] = refl
named_words on.MakeTable name (a ∷ words) = refl
named_words on.MakeBlob name [] = refl
named_words on.MakeBlob name (a ∷ words) = refl
named_words on.Discard name [] = refl
named_words on.Discard name (a ∷ words) = refl
named_words on.Pop name [] = refl
named_words on.Pop name (a ∷ words) = refl
named_words on.Len name [] = refl
named_words on.Len name (a ∷ words) = refl
named_words on.Keys name [] = refl
named_words on.Keys name (a ∷ words) = refl
named_words on.MakeArray name [] = refl
named_words on.MakeArray name (a ∷ []) = through [] (number_of a) _
named_words on.MakeArray name (a ∷ b ∷ words) = refused (b ∷ words) (number_of a) _ (λ n. refl)
named_words on.Get name [] = refl
named_words on.Get name (a ∷ []) = through [] (number_of a) _
named_words on.Get name (a ∷ b ∷ words) = refused (b ∷ words) (number_of a) _ (λ n. refl)
named_words on.Size name [] = refl
named_words on.Size name (a ∷ []) = through [] (number_of a) _
named_words on.Size name (a ∷ b ∷ words) = refused (b ∷ words) (number_of a) _ (λ n. refl)
named_words on.Read name [] = refl
named_words on.Read name (a ∷ []) = refused [] (number_of a) _ (λ n. refl)
named_words on.Read name (a ∷ b ∷ []) = followed (b ∷ []) (number_of a) _ _ (λ n. through [] (number_of b) _)
named_words on.Read name (a ∷ b ∷ c ∷ words) = refused (b ∷ c ∷ words) (number_of a) _ (λ n. refused (c ∷ words) (number_of b) _ (λ m. refl))

-- what is read of the words of such a verb, step by step
pub named_read : (verb : Named) (all words more rest : List (List ℕ)) (word name : List ℕ) (p q : ℕ) → all ≡ word ∷ words
    → number_if (has_number verb) words ≡ Some (p, more) → number_if (has_two verb) more ≡ Some (q, rest) → rest ≡ [] → (if is_name word then Some word else None) ≡ Some name → of_named verb all ≡ Some (Do (On name (verb_on verb p q)))
named_read verb all words more rest word name p q e n m end is =
    ap (of_named verb) e ∙ (named_words verb word words
    ∙ (ap (λ o. where_some o (λ (a : ℕ × List (List ℕ)). where_some (number_if (has_two verb) a.1) (λ b. at_end b.1 (named word (verb_on verb a.0 b.0))))) n
    ∙ (ap (λ o. where_some o (λ (b : ℕ × List (List ℕ)). at_end b.1 (named word (verb_on verb p b.0)))) m
    ∙ (ap (λ ws. at_end ws (named word (verb_on verb p q))) end ∙ of_name word name (verb_on verb p q) is))))

pub named_none : (verb : Named) → of_named verb [] ≡ None
named_none on.MakeArray = refl
named_none on.MakeTable = refl
named_none on.MakeBlob = refl
named_none on.Discard = refl
named_none on.Pop = refl
named_none on.Get = refl
named_none on.Len = refl
named_none on.Read = refl
named_none on.Size = refl
named_none on.Keys = refl

numbered_steps : (verb : Numbered) (name : List ℕ) (words : List (List ℕ)) → of_numbered verb (name ∷ words) ≡ read_numbered verb name words
numbered_steps numbered.Push name [] = refl
numbered_steps numbered.Push name (v ∷ []) = refl
numbered_steps numbered.Push name (v ∷ w ∷ words) = refl
numbered_steps numbered.Del name [] = refl
numbered_steps numbered.Del name (v ∷ []) = refl
numbered_steps numbered.Del name (v ∷ w ∷ words) = refl
numbered_steps numbered.Find name [] = refl
numbered_steps numbered.Find name (v ∷ []) = refl
numbered_steps numbered.Find name (v ∷ w ∷ words) = refl
numbered_steps numbered.Set name [] = refl
numbered_steps numbered.Set name (a ∷ []) = refused [] (number_of a) _ (λ n. refl)
numbered_steps numbered.Set name (a ∷ v ∷ []) = through (v ∷ []) (number_of a) _
numbered_steps numbered.Set name (a ∷ v ∷ w ∷ words) = refused (v ∷ w ∷ words) (number_of a) _ (λ n. refl)
numbered_steps numbered.Write name [] = refl
numbered_steps numbered.Write name (a ∷ []) = refused [] (number_of a) _ (λ n. refl)
numbered_steps numbered.Write name (a ∷ v ∷ []) = through (v ∷ []) (number_of a) _
numbered_steps numbered.Write name (a ∷ v ∷ w ∷ words) = refused (v ∷ w ∷ words) (number_of a) _ (λ n. refl)
numbered_steps numbered.Apply name [] = refl
numbered_steps numbered.Apply name (a ∷ []) = refused [] (number_of a) _ (λ n. refl)
numbered_steps numbered.Apply name (a ∷ b ∷ []) = refused (b ∷ []) (number_of a) _ (λ n. refused [] (number_of b) _ (λ m. refl))
numbered_steps numbered.Apply name (a ∷ b ∷ v ∷ []) = followed (b ∷ v ∷ []) (number_of a) _ _ (λ n. through (v ∷ []) (number_of b) _)
numbered_steps numbered.Apply name (a ∷ b ∷ v ∷ w ∷ words) = refused (b ∷ v ∷ w ∷ words) (number_of a) _ (λ n. refused (v ∷ w ∷ words) (number_of b) _ (λ m. refl))
numbered_steps numbered.Paint name [] = refl
numbered_steps numbered.Paint name (a ∷ []) = refused [] (number_of a) _ (λ n. refl)
numbered_steps numbered.Paint name (a ∷ b ∷ []) = refused (b ∷ []) (number_of a) _ (λ n. refused [] (number_of b) _ (λ m. refl))
numbered_steps numbered.Paint name (a ∷ b ∷ c ∷ []) = refused (b ∷ c ∷ []) (number_of a) _ (λ n. refused (c ∷ []) (number_of b) _ (λ m. refused [] (number_of c) _ (λ k. refl)))
numbered_steps numbered.Paint name (a ∷ b ∷ c ∷ v ∷ []) = followed (b ∷ c ∷ v ∷ []) (number_of a) _ _ (λ n. followed (c ∷ v ∷ []) (number_of b) _ _ (λ m. through (v ∷ []) (number_of c) _))
numbered_steps numbered.Paint name (a ∷ b ∷ c ∷ v ∷ w ∷ words) =
    refused (b ∷ c ∷ v ∷ w ∷ words) (number_of a) _ (λ n. refused (c ∷ v ∷ w ∷ words) (number_of b) _ (λ m. refused (v ∷ w ∷ words) (number_of c) _ (λ k. refl)))

-- three numbers are read one after another, and what is done with them is done at the end
third : (p q : ℕ) (o : Option (ℕ × List (List ℕ))) (f : ℕ → ℕ → ℕ → List (List ℕ) → Option Request)
    → where_some o (λ r. f p q r.0 r.1) ≡ where_some (option_map {U = ℕ × ℕ × ℕ × List (List ℕ)} (λ r. (p, q, r.0, r.1)) o) (λ n. f n.0 n.1 n.2 n.3)
third p q None f = refl
third p q (Some r) f = refl

second : (p : ℕ) (o : Option (ℕ × List (List ℕ))) (h : List (List ℕ) → Option (ℕ × List (List ℕ))) (f : ℕ → ℕ → ℕ → List (List ℕ) → Option Request)
    → where_some o (λ q. where_some (h q.1) (λ r. f p q.0 r.0 r.1))
    ≡ where_some (option_and_then {U = ℕ × ℕ × ℕ × List (List ℕ)} (λ q. option_map (λ r. (p, q.0, r.0, r.1)) (h q.1)) o) (λ n. f n.0 n.1 n.2 n.3)
second p None h f = refl
second p (Some q) h f = third p q.0 (h q.1) f

first : (o : Option (ℕ × List (List ℕ))) (g h : List (List ℕ) → Option (ℕ × List (List ℕ))) (f : ℕ → ℕ → ℕ → List (List ℕ) → Option Request)
    → where_some o (λ p. where_some (g p.1) (λ q. where_some (h q.1) (λ r. f p.0 q.0 r.0 r.1)))
    ≡ where_some (option_and_then {U = ℕ × ℕ × ℕ × List (List ℕ)} (λ p. option_and_then (λ q. option_map (λ r. (p.0, q.0, r.0, r.1)) (h q.1)) (g p.1)) o) (λ n. f n.0 n.1 n.2 n.3)
first None g h f = refl
first (Some p) g h f = second p.0 (g p.1) h f

pub numbered_words : (verb : Numbered) (name : List ℕ) (words : List (List ℕ))
    → of_numbered verb (name ∷ words) ≡ where_some (numbers_of verb words) (λ n. where_some (one_value n.3) (λ value. named name (verb_with verb n.0 n.1 n.2 value)))
numbered_words verb name words =
    numbered_steps verb name words ∙ first (number_if (wants_one verb) words) (number_if (wants_two verb)) (number_if (wants_three verb))
    (λ p q r rest. where_some (one_value rest) (λ value. named name (verb_with verb p q r value)))

-- what is read of the words of such a verb, step by step
pub numbered_read : (verb : Numbered) (all words last : List (List ℕ)) (word name value : List ℕ) (p q r : ℕ) → all ≡ word ∷ words
    → numbers_of verb words ≡ Some (p, q, r, last) → one_value last ≡ Some value → (if is_name word then Some word else None) ≡ Some name → of_numbered verb all ≡ Some (Do (On name (verb_with verb p q r value)))
numbered_read verb all words last word name value p q r e n v is =
    ap (of_numbered verb) e ∙ (numbered_words verb word words
    ∙ (ap (λ o. where_some o (λ (m : ℕ × ℕ × ℕ × List (List ℕ)). where_some (one_value m.3) (λ value. named word (verb_with verb m.0 m.1 m.2 value)))) n
    ∙ (ap (λ o. where_some o (λ value. named word (verb_with verb p q r value))) v ∙ of_name word name (verb_with verb p q r value) is)))

pub numbered_none : (verb : Numbered) → of_numbered verb [] ≡ None
numbered_none numbered.Push = refl
numbered_none numbered.Set = refl
numbered_none numbered.Apply = refl
numbered_none numbered.Del = refl
numbered_none numbered.Find = refl
numbered_none numbered.Write = refl
numbered_none numbered.Paint = refl

pub put_words : (name key : List ℕ) (words : List (List ℕ)) → put_of (name ∷ key ∷ words) ≡ where_some (value_of key) (λ the_key. where_some (one_value words) (λ value. named name (Put the_key value)))
put_words name key [] = nothing (value_of key)
put_words name key (v ∷ []) = refl
put_words name key (v ∷ w ∷ words) = nothing (value_of key)

-- what is read of the words behind `put`, step by step
pub put_read : (all words last : List (List ℕ)) (word key_word name key value : List ℕ) → all ≡ word ∷ words → words ≡ key_word ∷ last
    → value_of key_word ≡ Some key → one_value last ≡ Some value → (if is_name word then Some word else None) ≡ Some name → put_of all ≡ Some (Do (On name (Put key value)))
put_read all words last word key_word name key value e f k v is =
    ap put_of (e ∙ ap (λ (ws : List (List ℕ)). word ∷ ws) f) ∙ (put_words word key_word last
    ∙ (ap (λ o. where_some o (λ the_key. where_some (one_value last) (λ value. named word (Put the_key value)))) k
    ∙ (ap (λ o. where_some o (λ value. named word (Put key value))) v ∙ of_name word name (Put key value) is)))

pub no_value : (words : List (List ℕ)) → length words ≢ 1 → one_value words ≡ None
no_value [] h = refl
no_value (v ∷ []) h = absurd (h refl)
no_value (v ∷ w ∷ words) h = refl

-- bytes that are plain are one word, which stands for itself

not_space : (b : ℕ) → is_plain b ≡ true → (b == 32) ≡ false
not_space b e = grind (arith, nat_tests, e)

pub halves : (a b : Bool) → (a && b) ≡ true → (a ≡ true) × (b ≡ true)
halves true b e = (refl, e)
halves false b e = absurd (cc)

free : (text : List ℕ) → list_all is_plain text ≡ true → IsFree text
free [] e = tt
free (b ∷ bs) e = let h = halves (is_plain b) (list_all is_plain bs) e in (not_space b h.0, free bs h.1)

stands : (hex plain : Bool) (text : List ℕ) (decoded : Option (List ℕ)) → not hex ≡ true → plain ≡ true → cond hex decoded (cond plain (Some text) None) ≡ Some text
stands true plain text decoded e f = absurd (cc)
stands false plain text decoded e f = ap (λ b. cond b (Some text) None) f

-- they are one word
alone : (text : List ℕ) → (nat_lt 0 (length text) && list_all is_plain text) ≡ true → words_of text ≡ text ∷ []
alone text e = let k = halves (nat_lt 0 (length text)) (list_all is_plain text) e in ap (filter is_word) (split_one text (free text k.1)) ∙ kept text [] k.0

pub plain_joined : (text : List ℕ) → prints_plain text ≡ true → IsJoined text
plain_joined text e =
    let h = halves (nat_lt 0 (length text) && list_all is_plain text) (not (begins_hex text)) e in
    let k = halves (nat_lt 0 (length text)) (list_all is_plain text) h.0 in
    let some : 0 < length text = grind (arith, nat_tests, k.0) in
    record { some = some; joined = ap (join_with_byte 32) (alone text h.0) }

pub value_alone : (text : List ℕ) → prints_plain text ≡ true → one_value (words_of text) ≡ Some text
value_alone text e =
    let h = halves (nat_lt 0 (length text) && list_all is_plain text) (not (begins_hex text)) e in
    let k = halves (nat_lt 0 (length text)) (list_all is_plain text) h.0 in
    ap one_value (alone text h.0) ∙ stands (begins_hex text) (list_all is_plain text) text _ h.1 k.1
