-- What a sink takes in several calls.
use Rattle.std.proofs.Common.{Option, Some, None, ◌≡◌, ℕ, ◌+◌, ◌≤◌, List, [], ◌++◌, take, length, refl, ap, sym, ◌∙◌, append_assoc, append-nil, length-append, arith}
use Rattle.std.proofs.Math.Seq.{take-append-add, take-append_seam}
use Rattle.std.proofs.lemmas.List.{take-append-le}
use Rattle.sg_base.specs.Ends.{Takes, TakesFront}

-- nothing is taken by no call
pub takes_nothing : (a : Option (List ℕ)) → Takes a [] a
takes_nothing None = refl
takes_nothing (Some had) = ap (λ text. Some text) (sym (append-nil had))

-- one text is taken behind another
pub takes_more : (a b c : Option (List ℕ)) (x y : List ℕ) → Takes a x b → Takes b y c → Takes a (x ++ y) c
takes_more None None c x y first second = second
takes_more None (Some had) c x y first second = cc
takes_more (Some had) None c x y first second = cc
takes_more (Some had) (Some more) c x y first second =
    let same : more ≡ had ++ x = cc in
    second ∙ ap (λ text. Some (text ++ y)) same ∙ ap (λ text. Some text) (append_assoc had x y)

-- what was taken is a front of what was to be
pub takes_so_far : (a b : Option (List ℕ)) (x y : List ℕ) → Takes a x b → TakesFront a (x ++ y) b
takes_so_far None b x y first = first
takes_so_far (Some had) b x y first = (length x, omega (arith, length-append x y), first ∙ ap (λ text. Some (had ++ text)) (sym (take-append_seam x y)))

-- a front of a text is taken behind another
pub takes_cut : (a b c : Option (List ℕ)) (x y : List ℕ) → Takes a x b → TakesFront b y c → TakesFront a (x ++ y) c
takes_cut None None c x y first second = second
takes_cut None (Some had) c x y first second = cc
takes_cut (Some had) None c x y first second = cc
takes_cut (Some had) (Some more) c x y first second =
    let n = second.0 in
    let within : n ≤ length y = second.1 in
    let same : more ≡ had ++ x = cc in (
      length x + n,
      omega (arith, length-append x y),
      second.2
          ∙ ap (λ text. Some (text ++ take n y)) same
          ∙ ap (λ text. Some text) (append_assoc had x (take n y) ∙ ap (λ rest. had ++ rest) (sym (take-append-add x y n))),
    )

-- a front of a text is one of what it begins
pub front_of_more : (a c : Option (List ℕ)) (x y : List ℕ) → TakesFront a x c → TakesFront a (x ++ y) c
front_of_more None c x y cut = cut
front_of_more (Some had) c x y cut = (cut.0, omega (arith, cut.1, length-append x y), cut.2 ∙ ap (λ text. Some (had ++ text)) (sym (take-append-le cut.0 x y cut.1)))
