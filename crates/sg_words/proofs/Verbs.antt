-- A verb asks for something with a value among its words, or without one.
use Rattle.std.proofs.Common.{◌≡◌, ℕ, Bool, true, false, List, Option, Some, None, refl, ap, ◌∙◌}
use Rattle.std.specs.Prelude.{◌||◌, codes, if◌then◌else◌}
use Rattle.std.specs.Str.{bytes_eq}
use Rattle.std.specs.Cmp.Lexicographic.{bytes_decides}
use Rattle.sg_words.specs.Requests.{Request, push_of, set_of, apply_of, put_of, del_of, find_of, write_of, paint_of, plain_request, object_request, span_request, valued_request, takes_value, either}

second_none : (first : Option Request) → either first None ≡ first
second_none None = refl
second_none (Some r) = refl

-- one of these tests passes
one_of : {P : Type 0} (a b : Bool) → (a || b) ≡ true → (a ≡ true → P) → (b ≡ true → P) → P
one_of true b e f g = f refl
one_of false b e f g = g e

-- the words themselves ask for nothing without a value
module _ (args : List (List ℕ)) where
  is : (verb word : List ℕ) → bytes_eq word verb ≡ true → plain_request verb args ≡ None → plain_request word args ≡ None
  is verb word e none = ap (λ (w : List ℕ). plain_request w args) ((bytes_decides word verb).0 e) ∙ none

  push_alone : plain_request (codes "push") args ≡ None
  unfolding plain_request object_request span_request
  push_alone = refl

  set_alone : plain_request (codes "set") args ≡ None
  unfolding plain_request object_request span_request
  set_alone = refl

  apply_alone : plain_request (codes "apply") args ≡ None
  unfolding plain_request object_request span_request
  apply_alone = refl

  put_alone : plain_request (codes "put") args ≡ None
  unfolding plain_request object_request span_request
  put_alone = refl

  del_alone : plain_request (codes "del") args ≡ None
  unfolding plain_request object_request span_request
  del_alone = refl

  find_alone : plain_request (codes "find") args ≡ None
  unfolding plain_request object_request span_request
  find_alone = refl

  write_alone : plain_request (codes "write") args ≡ None
  unfolding plain_request object_request span_request
  write_alone = refl

  paint_alone : plain_request (codes "paint") args ≡ None
  unfolding plain_request object_request span_request
  paint_alone = refl

  plain_none : (word : List ℕ) → takes_value word ≡ true → plain_request word args ≡ None
  plain_none word e =
      let at = λ (verb : List ℕ). bytes_eq word verb in
      let to_set = at (codes "push") || at (codes "set") in
      let to_apply = to_set || at (codes "apply") in
      let to_put = to_apply || at (codes "put") in
      let to_del = to_put || at (codes "del") in
      let to_find = to_del || at (codes "find") in
      let to_write = to_find || at (codes "write") in
      one_of to_write (at (codes "paint")) e
      (λ e1. one_of to_find (at (codes "write")) e1
      (λ e2. one_of to_del (at (codes "find")) e2
      (λ e3. one_of to_put (at (codes "del")) e3
      (λ e4. one_of to_apply (at (codes "put")) e4
      (λ e5. one_of to_set (at (codes "apply")) e5
      (λ e6. one_of (at (codes "push")) (at (codes "set")) e6 (λ q. is (codes "push") word q push_alone) (λ q. is (codes "set") word q set_alone))
      (λ q. is (codes "apply") word q apply_alone))
      (λ q. is (codes "put") word q put_alone))
      (λ q. is (codes "del") word q del_alone))
      (λ q. is (codes "find") word q find_alone))
      (λ q. is (codes "write") word q write_alone))
      (λ q. is (codes "paint") word q paint_alone)

  value_none : (word : List ℕ) → takes_value word ≡ false → valued_request word args ≡ None
  unfolding valued_request
  value_none word e =
      go (bytes_eq word (codes "push")) (bytes_eq word (codes "set")) (bytes_eq word (codes "apply")) (bytes_eq word (codes "put"))
      (bytes_eq word (codes "del")) (bytes_eq word (codes "find")) (bytes_eq word (codes "write")) (bytes_eq word (codes "paint")) e
    where
      go : (a b c d f g h k : Bool) → (a || b || c || d || f || g || h || k) ≡ false
          → (if a then push_of args else (if b then set_of args else (if c then apply_of args else (if d then put_of args else (if f then del_of args else (if g then find_of args else (if h then write_of args else (if k then paint_of args else None)))))))) ≡ None
      go true b c d f g h k e = absurd (cc)
      go false true c d f g h k e = absurd (cc)
      go false false true d f g h k e = absurd (cc)
      go false false false true f g h k e = absurd (cc)
      go false false false false true g h k e = absurd (cc)
      go false false false false false true h k e = absurd (cc)
      go false false false false false false true k e = absurd (cc)
      go false false false false false false false true e = absurd (cc)
      go false false false false false false false false e = refl

  -- what it asks for is what the verbs of its kind say
  pub by_value : (word : List ℕ) → takes_value word ≡ true → either (plain_request word args) (valued_request word args) ≡ valued_request word args
  by_value word e = ap (λ (first : Option Request). either first (valued_request word args)) (plain_none word e)

  pub by_none : (word : List ℕ) → takes_value word ≡ false → either (plain_request word args) (valued_request word args) ≡ plain_request word args
  by_none word e = ap (either (plain_request word args)) (value_none word e) ∙ second_none (plain_request word args)
