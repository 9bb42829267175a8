-- What a sink takes one after another, and lines that come in pieces.
use Rattle.std.proofs.Common.{◌≡◌, ℕ, ◌+◌, ◌≤◌, List, [], ◌∷◌, ◌++◌, length, take, Option, Some, None, refl, sym, ap, ◌∙◌, subst, append_assoc, append-nil, arith, length-append}
use Rattle.std.proofs.Math.Seq.{take-append-add}
use Rattle.sg_base.specs.Ends.{Takes, TakesFront}
use Rattle.sg_words.specs.Pieces.{behind}
use Rattle.sg_words.proofs.Seams.{behind_behind}

pub Takes-more : (a : Option (List ℕ)) (xs : List ℕ) (b : Option (List ℕ)) (ys : List ℕ) (c : Option (List ℕ)) → Takes a xs b → Takes b ys c → Takes a (xs ++ ys) c
Takes-more None xs b ys c h k = subst (λ o. Takes o ys c) h k
Takes-more (Some had) xs b ys c h k = subst (λ o. Takes o ys c) h k ∙ ap Some (append_assoc had xs ys)

pub Takes-nothing : (a : Option (List ℕ)) → Takes a [] a
Takes-nothing None = refl
Takes-nothing (Some had) = ap Some (sym (append-nil had))

-- a front is taken behind all of what came before
pub front_behind : (a : Option (List ℕ)) (front : List ℕ) (b : Option (List ℕ)) (rest : List ℕ) (c : Option (List ℕ)) → Takes a front b → TakesFront b rest c → TakesFront a (front ++ rest) c
front_behind None front b rest c h k = subst (λ (o : Option (List ℕ)). TakesFront o rest c) h k
front_behind (Some had) front b rest c h k =
    let m : TakesFront (Some (had ++ front)) rest c = subst (λ (o : Option (List ℕ)). TakesFront o rest c) h k in
    let len : length front + m.0 ≤ length (front ++ rest) = omega (arith, length-append front rest, m.1) in
    (length front + m.0, len, m.2 ∙ ap Some (append_assoc had front (take m.0 rest) ∙ ap (λ (t : List ℕ). had ++ t) (sym (take-append-add front rest m.0))))

-- a line that ends in a piece is executed, and what follows it is left
pub seam : (done : List (List ℕ)) (pending part line cleared : List ℕ) (next rest all : List (List ℕ)) → behind [] next ≡ next → cleared ≡ [] → line ≡ pending ++ part → rest ≡ part ∷ next → done ++ behind pending rest ≡ all → (done ++ line ∷ []) ++ behind cleared next ≡ all
seam done pending part line cleared next rest all nothing is_cleared is_line cut h =
    append_assoc done (line ∷ []) (behind cleared next) ∙ (ap (λ (c : List ℕ). done ++ line ∷ behind c next) is_cleared ∙ (ap (λ (ns : List (List ℕ)). done ++ line ∷ ns) nothing
    ∙ (ap (λ (l : List ℕ). done ++ l ∷ next) is_line ∙ (ap (λ (r : List (List ℕ)). done ++ behind pending r) (sym cut) ∙ h))))

-- a piece without an end of a line is kept
pub kept : (done : List (List ℕ)) (pending part new : List ℕ) (next rest all : List (List ℕ)) → new ≡ pending ++ part → rest ≡ behind part next → done ++ behind pending rest ≡ all → done ++ behind new next ≡ all
kept done pending part new next rest all is_new cut h =
    ap (λ (t : List ℕ). done ++ behind t next) is_new ∙ (ap (λ (ls : List (List ℕ)). done ++ ls) (sym (behind_behind pending part next)) ∙ (ap (λ (r : List (List ℕ)). done ++ behind pending r) (sym cut) ∙ h))
