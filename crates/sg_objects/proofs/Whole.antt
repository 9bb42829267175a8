-- Before bytes that are put back where each band is whole afterwards: none that has bytes goes past the end of its band.
use Rattle.std.proofs.Common.{◌≡◌, ℕ, zero, suc, ◌+◌, ◌-◌, ◌*◌, ◌≤◌, Bool, true, false, cond, List, [], ◌∷◌, ◌++◌, length, take, drop, Some, slice_get, refl, sym, ap, ◌∙◌, arith, length-append, take-append-drop}
use Rattle.std.specs.Prelude.{◌==◌, min}
use Rattle.std.proofs.lemmas.Bool.{eq-eqb}
use Rattle.std.proofs.lemmas.List.{length-take, length-drop}
use Rattle.sg_recovery.proofs.Basic.{some_one}
use Rattle.sg_reading.specs.Back.{Before, Patch, place_of, one_more, located, padded, laid, all_laid, all_zero}
use Rattle.sg_reading.specs.Strokes.{byte_at, Alike, contents, overwrite, written, AreDistinct, AreWhole}
use Rattle.sg_reading.proofs.Bytes.{laid_low, laid_high, by_place}
use Rattle.sg_before.specs.Laying.{put_on, back_to, AreWithin}
use Rattle.sg_before.proofs.Bytes.{alike_held, held_alike, held_same, place_gone}
use Rattle.sg_before.proofs.Laying.{all_alike, back_is, laid_back, located_one, padded_alike, whole_back}
use Rattle.sg_before.proofs.Parted.{AreHeld, held_whole}

-- THOSE THAT HAVE BYTES
abbrev if_bytes : {A : Type 0} → List ℕ → A → List A → List A
if_bytes [] x xs = xs
if_bytes (y ∷ ys) x xs = x ∷ xs

abbrev filled : List Before → List Before
filled [] = []
filled (c ∷ cs) = if_bytes c.bytes c (filled cs)

abbrev filled_patches : List Patch → List Patch
filled_patches [] = []
filled_patches (p ∷ ps) = if_bytes p.bytes p (filled_patches ps)

-- the others leave bands as they are
over_none : (at : ℕ) (xs : List ℕ) → overwrite at [] xs ≡ xs
over_none at xs = ap (λ (n : ℕ). take at xs ++ drop n xs) (let e : at + 0 ≡ at = omega arith in e) ∙ take-append-drop at xs

put_none : (c : Before) (d : Bool) (xs : List ℕ) → [] ≡ c.bytes → xs ≡ cond d (overwrite c.at c.bytes xs) xs
put_none c true xs e = sym (over_none c.at xs) ∙ ap (λ (ys : List ℕ). overwrite c.at ys xs) e
put_none c false xs e = refl

put_filled : (cs : List Before) (b : ℕ) (xs : List ℕ) → put_on (filled cs) b xs ≡ put_on cs b xs
put_filled [] b xs = refl
put_filled (c ∷ cs) b xs = go c.bytes refl (put_filled cs b)
  where
    go : (ys : List ℕ) → ys ≡ c.bytes → ((zs : List ℕ) → put_on (filled cs) b zs ≡ put_on cs b zs)
        → put_on (if_bytes ys c (filled cs)) b xs ≡ put_on cs b (cond (b == c.band) (overwrite c.at c.bytes xs) xs)
    go [] e rest = rest xs ∙ ap (put_on cs b) (put_none c (b == c.band) xs e)
    go (y ∷ ys) e rest = rest (cond (b == c.band) (overwrite c.at c.bytes xs) xs)

-- and a blob's bytes, but for zeros at the end
laid_none : (p : Patch) → p.bytes ≡ [] → (xs : List ℕ) → Alike (laid p xs) xs
laid_none p e xs i = by_place p.from (length p.bytes) i (byte_at (laid p xs) i ≡ byte_at xs i)
    (λ low. laid_low p xs i low)
    (λ j f less. absurd (let none : length p.bytes ≡ 0 = ap length e in omega (arith, less, none)))
    (λ k f. laid_high p xs i k f)

laid_filled : (ps : List Patch) (xs : List ℕ) → Alike (all_laid ps xs) (all_laid (filled_patches ps) xs)
laid_filled [] xs i = refl
laid_filled (p ∷ ps) xs i = go p.bytes refl (laid_filled ps)
  where
    go : (ys : List ℕ) → ys ≡ p.bytes → ((zs : List ℕ) → Alike (all_laid ps zs) (all_laid (filled_patches ps) zs))
        → byte_at (all_laid ps (laid p xs)) i ≡ byte_at (all_laid (if_bytes ys p (filled_patches ps)) xs) i
    go [] e rest = all_alike ps (laid p xs) xs (laid_none p (sym e) xs) i ∙ rest xs i
    go (y ∷ ys) e rest = rest (laid p xs) i

located_filled : (bs : List ℕ) (cs : List Before) (ps : List Patch) → located bs cs ≡ Some ps → located bs (filled cs) ≡ Some (filled_patches ps)
located_filled bs [] ps e = ap (λ (qs : List Patch). Some (filled_patches qs)) (some_one [] ps e)
located_filled bs (c ∷ cs) ps e =
    let l = located_one bs c cs ps e in
    let p : Patch = record { from = 32768 * l.j + c.at; bytes = c.bytes } in
    go l.j l.place l.rest c.bytes (located_filled bs cs l.rest l.located_is) ∙ ap (λ (qs : List Patch). Some (filled_patches qs)) (sym l.patches_are)
  where
    go : (j : ℕ) → place_of bs c.band ≡ Some j → (rest : List Patch) (ys : List ℕ)
        → located bs (filled cs) ≡ Some (filled_patches rest)
        → located bs (if_bytes ys c (filled cs)) ≡ Some (if_bytes ys (let q : Patch = record { from = 32768 * j + c.at; bytes = c.bytes } in q)
        (filled_patches rest))
    go j place rest [] f = f
    go j place rest (y ∷ ys) f = λ i. one_more c (place i) (f i)

-- A BAND NEVER GETS SHORTER
over_long : (at : ℕ) (new xs : List ℕ) → length (overwrite at new xs) ≡ min at (length xs) + (length new + (length xs - (at + length new)))
over_long at new xs =
    length-append (take at xs) (new ++ drop (at + length new) xs)
    ∙ (λ i. length-take at xs i + length-append new (drop (at + length new) xs) i)
    ∙ ap (λ (n : ℕ). min at (length xs) + (length new + n)) (length-drop (at + length new) xs)

over_longer : (at : ℕ) (new xs : List ℕ) → length xs ≤ length (overwrite at new xs)
over_longer at new xs = let e = over_long at new xs in omega (arith, e)

put_longer : (cs : List Before) (b : ℕ) (xs : List ℕ) → length xs ≤ length (put_on cs b xs)
put_longer [] b xs = omega arith
put_longer (c ∷ cs) b xs =
    let one = longer (b == c.band) in
    let rest = put_longer cs b (cond (b == c.band) (overwrite c.at c.bytes xs) xs) in
    omega (arith, one, rest)
  where
    longer : (d : Bool) → length xs ≤ length (cond d (overwrite c.at c.bytes xs) xs)
    longer true = over_longer c.at c.bytes xs
    longer false = omega arith

over_fits : (at : ℕ) (new xs : List ℕ) → 1 ≤ length new → length (overwrite at new xs) ≤ length xs → at + length new ≤ length xs
over_fits at new xs some less = let e = over_long at new xs in omega (arith, e, some, less)

-- by place
pub whole_by : (s : ℕ → List ℕ) (bs : List ℕ) → ((j b : ℕ) → slice_get bs j ≡ Some b → length (s b) ≡ 32768) → AreWhole s bs
whole_by s [] h = tt
whole_by s (b ∷ bs) h = (h 0 b refl, whole_by s bs (λ j c e. h (suc j) c e))

whole_at : (s : ℕ → List ℕ) (bs : List ℕ) → AreWhole s bs → (j b : ℕ) → slice_get bs j ≡ Some b → length (s b) ≡ 32768
whole_at s [] w j b e = absurd (cc)
whole_at s (x ∷ xs) w zero b e = ap (λ (n : ℕ). length (s n)) (sym (some_one x b e)) ∙ w.0
whole_at s (x ∷ xs) w (suc j) b e = whole_at s xs w.1 j b e

one_within : (c : Before) (ys : List ℕ) (cs : List Before) → ys ≡ c.bytes → (1 ≤ length c.bytes → c.at + length c.bytes ≤ 32768) → AreWithin cs
    → AreWithin (if_bytes ys c cs)
one_within c [] cs e fits w = w
one_within c (y ∷ ys) cs e fits w = (fits (let long : suc (length ys) ≡ length c.bytes = ap length e in omega (arith, long)), w)

-- SO ALL THAT HAVE BYTES ARE WITHIN THEIR BANDS, where these are whole before and afterwards
within_filled : (s : ℕ → List ℕ) (bs : List ℕ) (cs : List Before) (ps : List Patch) → located bs cs ≡ Some ps → AreWhole s bs
    → AreWhole (λ b. put_on cs b (s b)) bs → AreWithin (filled cs)
within_filled s bs [] ps e w w' = tt
within_filled s bs (c ∷ cs) ps e w w' =
    let l = located_one bs c cs ps e in
    let now = written s c.band c.at c.bytes in
    let still : AreWhole now bs = whole_by now bs (λ j b there.
    let old = whole_at s bs w j b there in
    let new = whole_at (λ n. put_on cs n (now n)) bs w' j b there in
    let low = longer b (b == c.band) in
    let high = put_longer cs b (now b) in
    omega (arith, old, new, low, high)) in
    let here = place_gone bs c.band l.j l.place in
    let old = whole_at s bs w l.j c.band here in
    let new : length (overwrite c.at c.bytes (s c.band)) ≡ 32768 = sym (ap (λ (d : Bool). length (cond d (overwrite c.at c.bytes (s c.band)) (s c.band)))
    (eq-eqb c.band c.band refl)) ∙ whole_at now bs still l.j c.band here in
    one_within c c.bytes (filled cs) refl
    (λ some. let fits = over_fits c.at c.bytes (s c.band) some (omega (arith, old, new)) in omega (arith, fits, old))
    (within_filled now bs cs l.rest l.located_is still w')
  where
    longer : (b : ℕ) (d : Bool) → length (s b) ≤ length (cond d (overwrite c.at c.bytes (s b)) (s b))
    longer b true = over_longer c.at c.bytes (s b)
    longer b false = omega arith

-- WHERE THEY ARE PUT BACK, and the bands are whole, these hold what the model says
pub put_whole : (s : ℕ → List ℕ) (bs : List ℕ) (cs : List Before) (ps : List Patch) (xs : List ℕ) (n : ℕ) → located bs cs ≡ Some ps → AreDistinct bs
    → AreWhole (λ b. put_on cs b (s b)) bs → AreHeld s xs 0 bs → length xs ≤ 32768 * length bs → all_zero (drop n (all_laid ps xs)) ≡ true
    → AreHeld (λ b. put_on cs b (s b)) (padded n (all_laid ps xs)) 0 bs
put_whole s bs cs ps xs n e apart whole' held enough zeros =
    let ds = filled cs in
    let qs = filled_patches ps in
    let v = back_to s ds in
    let whole = held_whole s xs 0 bs held in
    let f = located_filled bs cs ps e in
    let within = within_filled s bs cs ps e whole whole' in
    held_same v (λ b. put_on cs b (s b)) (padded n (all_laid ps xs)) 0 bs (λ j b there. sym (back_is s ds b ∙ put_filled cs b (s b)))
    (alike_held v (padded n (all_laid ps xs)) bs (whole_back s ds bs within whole) (λ i.
    sym (laid_back s bs ds qs f apart whole within i)
    ∙ (all_alike qs (contents s bs) xs (held_alike s xs bs held enough) i
    ∙ (sym (laid_filled ps xs i) ∙ sym (padded_alike n (all_laid ps xs) zeros i)))))
