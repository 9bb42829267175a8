-- What a sink takes in several calls.
use Rattle.std.proofs.Common.{Result, Ok, Err, OnErr, codes, ◌≡◌, ℕ, ◌+◌, ◌≤◌, List, [], ◌∷◌, ◌++◌, take, length, Option, Some, None, refl, ap, sym, ◌∙◌, append_assoc, append-nil, length-append, arith}
use Rattle.std.proofs.Math.Seq.{take-append-add}
use Rattle.std.proofs.lemmas.List.{take-append-le}
use Rattle.std.proofs.lemmas.List.Concat.{flat_map-cons}
use Rattle.sg_base.specs.Ends.{Takes, TakesFront}
use Rattle.sg_workload.specs.Lines.{text_of_lines}

-- nothing is taken by no call
pub takes-nothing : (a : Option (List ℕ)) → Takes a [] a
takes-nothing None = refl
takes-nothing (Some had) = ap (λ text. Some text) (sym (append-nil had))

-- one text is taken behind another
pub takes-takes : (a b c : Option (List ℕ)) (x y : List ℕ) → Takes a x b → Takes b y c → Takes a (x ++ y) c
takes-takes None None c x y first second = second
takes-takes None (Some had) c x y first second = cc
takes-takes (Some had) None c x y first second = cc
takes-takes (Some had) (Some more) c x y first second =
    let same : more ≡ had ++ x = cc in
    second ∙ ap (λ text. Some (text ++ y)) same ∙ ap (λ text. Some text) (append_assoc had x y)

-- a front of a text is taken behind another, which something follows
pub takes-cut : (a b c : Option (List ℕ)) (x y z : List ℕ) → Takes a x b → TakesFront b y c → TakesFront a (x ++ (y ++ z)) c
takes-cut None None c x y z first second = second
takes-cut None (Some had) c x y z first second = cc
takes-cut (Some had) None c x y z first second = cc
takes-cut (Some had) (Some more) c x y z first second =
    let n = second.0 in
    let within : n ≤ length y = second.1 in
    let same : more ≡ had ++ x = cc in
    let front : take (length x + n) (x ++ (y ++ z)) ≡ x ++ take n y =
    take-append-add x (y ++ z) n ∙ ap (λ rest. x ++ rest) (take-append-le n y z within) in (
      length x + n,
      omega (arith, length-append x (y ++ z), length-append y z),
      second.2
          ∙ ap (λ text. Some (text ++ take n y)) same
          ∙ ap (λ text. Some text) (append_assoc had x (take n y) ∙ ap (λ rest. had ++ rest) (sym front)),
    )

-- the text of a line and of those behind it
pub text_of_lines-cons : (line : List ℕ) (rest : List (List ℕ)) → text_of_lines (line ∷ rest) ≡ (line ++ codes "\n") ++ text_of_lines rest
text_of_lines-cons line rest = flat_map-cons (λ l. l ++ codes "\n") line rest

-- what holds anyway holds at an error
pub on_err : {T E : Type 0} {P : Type 0} (r : Result T E) → P → OnErr r P
on_err (Ok x) p = tt
on_err (Err e) p = p
