-- Before bytes that are put back leave of a blob's bytes what laying them over these gives.
use Rattle.std.proofs.Common.{◌≡◌, ℕ, zero, suc, ◌+◌, ◌-◌, ◌*◌, ◌<◌, ◌≤◌, Bool, true, false, cond, List, [], ◌∷◌, ◌++◌, length, take, drop, Option, Some, None, refl, sym, ap, ◌∙◌, subst, arith}
use Rattle.std.specs.Prelude.{◌==◌, ◌&&◌, nat_lt, replicate}
use Rattle.std.proofs.lemmas.Bool.{eqb-true, eq-eqb}
use Rattle.sg_recovery.proofs.Basic.{lt_is, lt_not, some_one}
use Rattle.sg_reading.specs.Back.{Before, Patch, place_of, one_more, located, padded, laid, all_laid, all_zero}
use Rattle.sg_reading.specs.Strokes.{byte_at, Alike, contents, overwrite, written, AreDistinct, AreWhole}
use Rattle.sg_reading.specs.Noted.{PutsBack}
use Rattle.sg_reading.proofs.Bytes.{length_padded, laid_low, laid_in, laid_high, by_place}
use Rattle.sg_reading.proofs.Bands.{on_band}
use Rattle.sg_before.specs.Laying.{put_on, back_to, AreWithin}

-- Lists of bytes

byte_zeros : (n i : ℕ) → byte_at (replicate n 0) i ≡ 0
byte_zeros zero i = refl
byte_zeros (suc n) zero = refl
byte_zeros (suc n) (suc i) = byte_zeros n i

pub byte_past : (xs : List ℕ) (i : ℕ) → length xs ≤ i → byte_at xs i ≡ 0
byte_past [] i h = refl
byte_past (x ∷ xs) zero h = absurd (let k : suc (length xs) ≤ 0 = h in omega (arith, k))
byte_past (x ∷ xs) (suc i) h = byte_past xs i (let k : suc (length xs) ≤ suc i = h in omega (arith, k))

pub byte_drop : (n : ℕ) (xs : List ℕ) (i k : ℕ) → i ≡ n + k → byte_at (drop n xs) k ≡ byte_at xs i
byte_drop zero xs i k e = ap (λ j. byte_at xs j) (let f : i ≡ 0 + k = e in let g : k ≡ i = omega (arith, f) in g)
byte_drop (suc n) [] i k e = refl
byte_drop (suc n) (x ∷ xs) zero k e = absurd (omega (arith, e))
byte_drop (suc n) (x ∷ xs) (suc i) k e = byte_drop n xs i k (omega (arith, e))

pub same_bytes : (xs ys : List ℕ) → length xs ≡ length ys → Alike xs ys → xs ≡ ys
same_bytes [] [] e h = refl
same_bytes [] (y ∷ ys) e h = absurd (let f : 0 ≡ suc (length ys) = e in omega (arith, f))
same_bytes (x ∷ xs) [] e h = absurd (let f : suc (length xs) ≡ 0 = e in omega (arith, f))
same_bytes (x ∷ xs) (y ∷ ys) e h = (λ i. h 0 i ∷ same_bytes xs ys (let f : suc (length xs) ≡ suc (length ys) = e in omega (arith, f)) (λ j. h (suc j)) i)

padded_zero : (xs : List ℕ) → padded 0 xs ≡ []
padded_zero xs = ap (λ k. replicate k 0) (let e : 0 - length xs ≡ 0 = omega arith in e)

take_nil : (n : ℕ) → take {A = ℕ} n [] ≡ []
take_nil zero = refl
take_nil (suc n) = refl

padded_nil : (n : ℕ) → padded n [] ≡ replicate n 0
padded_nil n = ap (λ xs. xs ++ replicate (n - 0) 0) (take_nil n) ∙ ap (λ k. replicate k 0) (let e : n - 0 ≡ n = omega arith in e)

padded_cons : (n x : ℕ) (xs : List ℕ) → padded (suc n) (x ∷ xs) ≡ x ∷ padded n xs
padded_cons n x xs = ap (λ k. x ∷ (take n xs ++ replicate k 0)) (let e : suc n - suc (length xs) ≡ n - length xs = omega arith in e)

pub byte_padded : (n : ℕ) (xs : List ℕ) (i : ℕ) → i < n → byte_at (padded n xs) i ≡ byte_at xs i
byte_padded zero xs i h = absurd (omega (arith, h))
byte_padded (suc n) [] i h = ap (λ ys. byte_at ys i) (padded_nil (suc n)) ∙ byte_zeros (suc n) i
byte_padded (suc n) (x ∷ xs) zero h = ap (λ ys. byte_at ys 0) (padded_cons n x xs)
byte_padded (suc n) (x ∷ xs) (suc i) h = ap (λ ys. byte_at ys (suc i)) (padded_cons n x xs) ∙ byte_padded n xs i (omega (arith, h))

-- Laying over bytes that are alike

laid_alike : (p : Patch) (xs ys : List ℕ) → Alike xs ys → Alike (laid p xs) (laid p ys)
laid_alike p xs ys h i = by_place p.from (length p.bytes) i (byte_at (laid p xs) i ≡ byte_at (laid p ys) i)
    (λ l. laid_low p xs i l ∙ (h i ∙ sym (laid_low p ys i l)))
    (λ j e l. laid_in p xs i j e l ∙ sym (laid_in p ys i j e l))
    (λ k e. laid_high p xs i k e ∙ (h i ∙ sym (laid_high p ys i k e)))

pub all_alike : (ps : List Patch) (xs ys : List ℕ) → Alike xs ys → Alike (all_laid ps xs) (all_laid ps ys)
all_alike [] xs ys h = h
all_alike (p ∷ ps) xs ys h = all_alike ps (laid p xs) (laid p ys) (laid_alike p xs ys h)

-- Zeros behind a length

and_both : (a b : Bool) → (a && b) ≡ true → (a ≡ true) × (b ≡ true)
and_both true true e = (refl, refl)
and_both true false e = absurd (cc)
and_both false b e = absurd (cc)

and_true : (a b : Bool) → a ≡ true → b ≡ true → (a && b) ≡ true
and_true true b e f = f
and_true false b e f = absurd (cc)

eqb_self : (n : ℕ) → (n == n) ≡ true
eqb_self n = eq-eqb n n refl

pub zeros_all : (xs : List ℕ) → all_zero xs ≡ true → (i : ℕ) → byte_at xs i ≡ 0
zeros_all [] h i = refl
zeros_all (x ∷ xs) h zero = eqb-true x 0 (and_both (x == 0) (all_zero xs) h).0
zeros_all (x ∷ xs) h (suc i) = zeros_all xs (and_both (x == 0) (all_zero xs) h).1 i

pub zeros_only : (xs : List ℕ) → ((i : ℕ) → byte_at xs i ≡ 0) → all_zero xs ≡ true
zeros_only [] h = refl
zeros_only (x ∷ xs) h = and_true (x == 0) (all_zero xs) (eq-eqb x 0 (h 0)) (zeros_only xs (λ i. h (suc i)))

-- bytes with zeros behind a length are those of this length
pub padded_alike : (n : ℕ) (xs : List ℕ) → all_zero (drop n xs) ≡ true → Alike (padded n xs) xs
padded_alike n xs zeros i = go (nat_lt i n) refl
  where
    go : (b : Bool) → nat_lt i n ≡ b → byte_at (padded n xs) i ≡ byte_at xs i
    go true f = byte_padded n xs i (lt_is i n f)
    go false f =
        let past : n ≤ i = lt_not i n f in
        byte_past (padded n xs) i (subst (λ m. m ≤ i) (sym (length_padded n xs)) past)
        ∙ sym (sym (byte_drop n xs i (i - n) (omega (arith, past))) ∙ zeros_all (drop n xs) zeros (i - n))

-- BYTE 9: where the before bytes, laid over what there is, give the old bytes, they put these back
pub puts_back_by : (bands : List ℕ) (cs : List Before) (ps : List Patch) (new old : List ℕ) → located bands cs ≡ Some ps → Alike (all_laid ps new) old → PutsBack bands cs new old
puts_back_by bands cs ps new old e k =
    let r = all_laid ps new in
    record {
      patches = ps;
      at_bands = e;
      zeros = zeros_only (drop (length old) r) (λ i. byte_drop (length old) r (length old + i) i refl ∙ (k (length old + i) ∙ byte_past old (length old + i) (let z : length old ≤ length old + i = omega arith in z)));
      same = same_bytes (padded (length old) r) old (length_padded (length old) r) (λ i. go i (nat_lt i (length old)) refl);
    }
  where
    go : (i : ℕ) (b : Bool) → nat_lt i (length old) ≡ b → byte_at (padded (length old) (all_laid ps new)) i ≡ byte_at old i
    go i true f = byte_padded (length old) (all_laid ps new) i (lt_is i (length old) f) ∙ k i
    go i false f = byte_past (padded (length old) (all_laid ps new)) i (subst (λ n. n ≤ i) (sym (length_padded (length old) (all_laid ps new))) (lt_not i (length old) f)) ∙ sym (byte_past old i (lt_not i (length old) f))

-- Bands stay whole

length_both : (xs ys : List ℕ) → length (xs ++ ys) ≡ length xs + length ys
length_both [] ys = let e : length ys ≡ 0 + length ys = omega arith in e
length_both (x ∷ xs) ys = ap suc (length_both xs ys) ∙ (let e : suc (length xs + length ys) ≡ suc (length xs) + length ys = omega arith in e)

length_rest : (n : ℕ) (xs : List ℕ) → length (drop n xs) ≡ length xs - n
length_rest zero xs = let e : length xs ≡ length xs - 0 = omega arith in e
length_rest (suc n) [] = let e : 0 ≡ 0 - suc n = omega arith in e
length_rest (suc n) (x ∷ xs) = length_rest n xs ∙ (let e : length xs - n ≡ suc (length xs) - suc n = omega arith in e)

length_first : (n : ℕ) (xs : List ℕ) → n ≤ length xs → length (take n xs) ≡ n
length_first zero xs h = refl
length_first (suc n) [] h = absurd (let k : suc n ≤ 0 = h in omega (arith, k))
length_first (suc n) (x ∷ xs) h = ap suc (length_first n xs (let k : suc n ≤ suc (length xs) = h in omega (arith, k)))

pub length_over : (at : ℕ) (new xs : List ℕ) → at + length new ≤ length xs → length (overwrite at new xs) ≡ length xs
length_over at new xs h =
    length_both (take at xs) (new ++ drop (at + length new) xs)
    ∙ (ap (λ n. n + length (new ++ drop (at + length new) xs)) (length_first at xs (less at (length new) (length xs) h))
    ∙ (ap (λ n. at + n) (length_both new (drop (at + length new) xs) ∙ ap (λ n. length new + n) (length_rest (at + length new) xs))
    ∙ sum at (length new) (length xs) h))
  where
    less : (a b c : ℕ) → a + b ≤ c → a ≤ c
    less a b c h = omega (arith, h)

    sum : (a b c : ℕ) → a + b ≤ c → a + (b + (c - (a + b))) ≡ c
    sum a b c h = omega (arith, h)

pub whole_written : (s : ℕ → List ℕ) (b at : ℕ) (new : List ℕ) (bs : List ℕ) → at + length new ≤ 32768 → AreWhole s bs → AreWhole (written s b at new) bs
whole_written s b at new [] fits w = tt
whole_written s b at new (x ∷ xs) fits w = (go (x == b), whole_written s b at new xs fits w.1)
  where
    go : (c : Bool) → length (cond c (overwrite at new (s x)) (s x)) ≡ 32768
    go true = length_over at new (s x) (subst (λ n. at + length new ≤ n) (sym w.0) fits) ∙ w.0
    go false = w.0

pub whole_back : (s : ℕ → List ℕ) (cs : List Before) (bs : List ℕ) → AreWithin cs → AreWhole s bs → AreWhole (back_to s cs) bs
whole_back s [] bs a w = w
whole_back s (c ∷ cs) bs a w = whole_back (written s c.band c.at c.bytes) cs bs a.1 (whole_written s c.band c.at c.bytes bs a.0 w)

-- all bands at once, and one by one
pub back_is : (s : ℕ → List ℕ) (cs : List Before) (n : ℕ) → back_to s cs n ≡ put_on cs n (s n)
back_is s [] n = refl
back_is s (c ∷ cs) n = back_is (written s c.band c.at c.bytes) cs n

-- what was located
pub record IsLocated (bs : List ℕ) (c : Before) (cs : List Before) (ps : List Patch) : Type 0 where
  pub j : ℕ
  pub place : place_of bs c.band ≡ Some j
  pub rest : List Patch
  pub located_is : located bs cs ≡ Some rest
  pub patches_are : ps ≡ (record { from = 32768 * j + c.at; bytes = c.bytes }) ∷ rest

pub located_one : (bs : List ℕ) (c : Before) (cs : List Before) (ps : List Patch) → located bs (c ∷ cs) ≡ Some ps → IsLocated bs c cs ps
located_one bs c cs ps e = go (place_of bs c.band) (located bs cs) refl refl e
  where
    go : (o : Option ℕ) (r : Option (List Patch)) → place_of bs c.band ≡ o → located bs cs ≡ r → one_more c o r ≡ Some ps → IsLocated bs c cs ps
    go None r p q e = absurd (cc)
    go (Some j) None p q e = absurd (cc)
    go (Some j) (Some qs) p q e = record { j = j; place = p; rest = qs; located_is = q; patches_are = sym (some_one ((record { from = 32768 * j + c.at; bytes = c.bytes }) ∷ qs) ps e) }

-- THE BEFORE BYTES of an action, laid over a blob's bytes, give what its bands hold once they are put back there
pub laid_back : (s : ℕ → List ℕ) (bs : List ℕ) (cs : List Before) (ps : List Patch) → located bs cs ≡ Some ps → AreDistinct bs → AreWhole s bs → AreWithin cs → Alike (all_laid ps (contents s bs)) (contents (back_to s cs) bs)
laid_back s bs [] ps e d w a i = ap (λ qs. byte_at (all_laid qs (contents s bs)) i) (sym (some_one [] ps e))
laid_back s bs (c ∷ cs) ps e d w a i =
    let l = located_one bs c cs ps e in
    let p : Patch = record { from = 32768 * l.j + c.at; bytes = c.bytes } in
    let now = written s c.band c.at c.bytes in
    ap (λ qs. byte_at (all_laid qs (contents s bs)) i) l.patches_are
    ∙ (sym (all_alike l.rest (contents now bs) (laid p (contents s bs)) (on_band s c.band c.at c.bytes bs l.j l.place d w a.0) i)
    ∙ laid_back now bs cs l.rest l.located_is d (whole_written s c.band c.at c.bytes bs a.0 w) a.1 i)
