-- Frames of which some are lent: what callers of `take`, `give` and the calls that lend bytes carry from one to the next.
use Rattle.std.proofs.Common.{◌≡◌, ◌⊎◌, ℕ, List, [], length, get_or, set, refl, sym, ap, ◌∙◌, inl, inr, subst, arith, length-set}
use Rattle.std.proofs.lemmas.Grind.{common_steps}
use Rattle.std.proofs.lemmas.List.{take_at, set-set, set-get_or}
use Rattle.std.specs.List.{length_refill}
use Rattle.sg_frames.specs.declared.place.Place.{Place}
use Rattle.sg_frames.specs.declared.place.Place.TheVariants.{Page, Window}
use Rattle.sg_frames.specs.Held.{Held, HasPlace, IsHere, NoneLent, HereBut, IsSameBut, bytes_at, with_bytes, size_of}
use Rattle.sg_frames.specs.Pieces.{rewritten}

set_other : (xs : List (List ℕ)) (i k : ℕ) (ys : List ℕ) → (k ≡ i) ⊎ (get_or (set xs i ys) k [] ≡ get_or xs k [])
set_other xs i k ys = grind (arith, common_steps)

-- a change of one place leaves the others
pub same_but : (held : Held) (place : Place) (bytes : List ℕ) → IsSameBut place held (with_bytes held place bytes)
same_but held (Page i) bytes (Page k) = elim (set_other held.pages i k bytes) [ inl same ↦ inl (ap Page same) | inr kept ↦ inr kept ]
same_but held (Page i) bytes (Window w) = inr refl
same_but held (Window w) bytes (Page k) = inr refl
same_but held (Window w) bytes (Window k) = elim (set_other held.windows w k bytes) [ inl same ↦ inl (ap Window same) | inr kept ↦ inr kept ]

-- and no place comes or goes
pub has_place-with_bytes : (held : Held) (place : Place) (bytes : List ℕ) (other : Place) → HasPlace (with_bytes held place bytes) other → HasPlace held other
has_place-with_bytes held (Page i) bytes (Page k) has = grind (arith, length-set {A = List ℕ})
has_place-with_bytes held (Page i) bytes (Window w) has = has
has_place-with_bytes held (Window w) bytes (Page k) has = has
has_place-with_bytes held (Window w) bytes (Window k) has = grind (arith, length-set {A = List ℕ})

pub bytes_at-with_bytes : (held : Held) (place : Place) (bytes : List ℕ) → HasPlace held place → bytes_at (with_bytes held place bytes) place ≡ bytes
bytes_at-with_bytes held (Page i) bytes has = grind (arith, common_steps)
bytes_at-with_bytes held (Window w) bytes has = grind (arith, common_steps)

-- after `take`: that place is lent too
pub here_but-taken : (out : Place → Type 0) (old new : Held) (place : Place) (bytes : List ℕ) → new ≡ with_bytes old place bytes → HereBut out old → HereBut (λ other. (other ≡ place) ⊎ out other) new
here_but-taken out old new place bytes is here = rw is (λ other has.
    elim (same_but old place bytes other) [
      | inl same ↦ inl (inl same)
      | inr kept ↦ elim (here other (has_place-with_bytes old place bytes other has)) [ inl lent ↦ inl (inr lent) | inr stays ↦ inr (ap length kept ∙ stays) ]
    ])

-- after `give`: that place is here
pub here_but-given : (out : Place → Type 0) (old new : Held) (place : Place) (bytes : List ℕ) → new ≡ with_bytes old place bytes → IsHere new place → HereBut (λ other. (other ≡ place) ⊎ out other) old → HereBut out new
here_but-given out old new place bytes is back here other has =
    let had : HasPlace old other = has_place-with_bytes old place bytes other (subst (λ (h : Held). HasPlace h other) is has) in
    let there : other ≡ place → IsHere new other = λ same. subst (λ (p : Place). IsHere new p) (sym same) back in
    let kept : bytes_at (with_bytes old place bytes) other ≡ bytes_at old other → IsHere old other → IsHere new other = λ same stays. ap (λ (h : Held). length (bytes_at h other)) is ∙ ap length same ∙ stays in
    elim (same_but old place bytes other) [
      | inl same ↦ inr (there same)
      | inr same ↦ elim (here other had) [ inl lent ↦ elim lent [ inl is_it ↦ inr (there is_it) | inr still ↦ inl still ] | inr stays ↦ inr (kept same stays) ]
    ]

-- where bytes of a place were written
pub here_but-written : (out : Place → Type 0) (old : Held) (place : Place) (bytes : List ℕ) → HasPlace old place → IsHere old place → HereBut out old → HereBut out (with_bytes old place (rewritten (bytes_at old place) bytes))
here_but-written out old place bytes has there here =
    let new : List ℕ = rewritten (bytes_at old place) bytes in
    let long : length new ≡ size_of place = sym (length_refill (length (bytes_at old place)) (bytes_at old place) bytes refl) ∙ there in
    here_but-given out old (with_bytes old place new) place new refl (ap length (bytes_at-with_bytes old place new has) ∙ long)
    (λ other had. elim (here other had) [ inl lent ↦ inl (inr lent) | inr stays ↦ inr stays ])

-- `NoneLent`, said of each place
pub here_but-none : (held : Held) → NoneLent held → HereBut (λ _. ⊥) held
here_but-none held all (Page i) has = inr (all.pages i has)
here_but-none held all (Window w) has = inr (all.windows w has)

pub none_lent-here_but : (held : Held) → HereBut (λ _. ⊥) held → NoneLent held
none_lent-here_but held here = record {
  pages = λ i has. elim (here (Page i) has) [ inl lent ↦ absurd lent | inr stays ↦ stays ];
  windows = λ w has. elim (here (Window w) has) [ inl lent ↦ absurd lent | inr stays ↦ stays ];
}

-- as many bytes as there were are all written back
pub rewritten_whole : (old new : List ℕ) → length new ≡ length old → rewritten old new ≡ new
rewritten_whole old new same = take_at new _ (length old) same

-- the last bytes of a place count
pub with_bytes-twice : (held : Held) (place : Place) (a b : List ℕ) → with_bytes (with_bytes held place a) place b ≡ with_bytes held place b
with_bytes-twice held (Page i) a b = ap (λ (xs : List (List ℕ)). record held { pages = xs }) (set-set held.pages i a b)
with_bytes-twice held (Window w) a b = ap (λ (xs : List (List ℕ)). record held { windows = xs }) (set-set held.windows w a b)

-- a place with its own bytes is as it was
pub with_bytes-own : (held : Held) (place : Place) → with_bytes held place (bytes_at held place) ≡ held
with_bytes-own held (Page i) = ap (λ (xs : List (List ℕ)). record held { pages = xs }) (set-get_or held.pages i [])
with_bytes-own held (Window w) = ap (λ (xs : List (List ℕ)). record held { windows = xs }) (set-get_or held.windows w [])

-- a loan that comes back with the bytes that it left with leaves the frames as they were
pub given_back : (old taken new : Held) (place : Place) (bytes : List ℕ) → taken ≡ with_bytes old place [] → bytes ≡ bytes_at old place → new ≡ with_bytes taken place bytes → new ≡ old
given_back old taken new place bytes left own back =
    back ∙ (ap (λ (h : Held). with_bytes h place bytes) left ∙ (with_bytes-twice old place [] bytes ∙ (ap (with_bytes old place) own ∙ with_bytes-own old place)))
