-- BEFORE BYTES AND A BLOB'S BYTES: at the end of an action they put back what there was, and where they are put back its bands hold that.
use Rattle.std.proofs.Common.{◌≡◌, ℕ, zero, suc, ◌+◌, ◌*◌, ◌≤◌, ◌==◌, Bool, true, false, cond, List, [], ◌∷◌, ◌++◌, length, drop, Option, Some, None, slice_get, refl, sym, ap, ◌∙◌, subst, arith, length-append}
use Rattle.std.proofs.lemmas.Bool.{eqb-true, eq-eqb}
use Rattle.sg_action.specs.States.{State, Change, Kept, made}
use Rattle.sg_action.specs.Opened.{IsOpened}
use Rattle.sg_ops.specs.Table.{Table}
use Rattle.sg_recovery.proofs.Basic.{some_one}
use Rattle.sg_reading.specs.Back.{Before, Patch, place_of, next_place, one_more, located, padded, all_laid, all_zero}
use Rattle.sg_reading.specs.Strokes.{Alike, contents, byte_at, AreDistinct, AreWhole, overwrite}
use Rattle.sg_reading.specs.Noted.{PutsBack}
use Rattle.sg_before.specs.Laying.{put_on, back_to, AreWithin}
use Rattle.sg_before.specs.Befores.{befores, IsTakenBy, AreFilled, AreWholeBands, AreOn}
pub use Rattle.sg_before.specs.Held.{AreApart, HadBands, TookBands}
use Rattle.sg_before.proofs.Laying.{back_is, laid_back, all_alike, puts_back_by, located_one, whole_back, padded_alike, byte_past}
use Rattle.sg_before.proofs.Parted.{AreHeld, IsHeld, held_whole, held_bytes, bytes_held}
use Rattle.sg_before.proofs.Written.{kept_back}
use Rattle.sg_before.proofs.Fresh.{IsZeros, fresh_back, found_within}

-- PLACES of bands

there_next : (o : Option ℕ) → (k : ℕ) × (o ≡ Some k) → (k : ℕ) × (next_place o ≡ Some k)
there_next o (k, e) = (suc k, ap next_place e)

pub place_there : (bs : List ℕ) (b j : ℕ) → slice_get bs j ≡ Some b → (k : ℕ) × (place_of bs b ≡ Some k)
place_there [] b j e = absurd (cc)
place_there (x ∷ xs) b zero e = (0, ap (λ (c : Bool). cond c (Some 0) (next_place (place_of xs b))) (eq-eqb x b (some_one x b e)))
place_there (x ∷ xs) b (suc j) e = go (x == b) (there_next (place_of xs b) (place_there xs b j e))
  where
    go : (c : Bool) → (k : ℕ) × (next_place (place_of xs b) ≡ Some k) → (k : ℕ) × (cond c (Some 0) (next_place (place_of xs b)) ≡ Some k)
    go true w = (0, refl)
    go false w = w

place_none : (bs : List ℕ) (b : ℕ) → ((j : ℕ) → slice_get bs j ≡ Some b → ⊥) → place_of bs b ≡ None
place_none [] b far = refl
place_none (x ∷ xs) b far = go (x == b) refl (place_none xs b (λ j e. far (suc j) e))
  where
    go : (c : Bool) → (x == b) ≡ c → place_of xs b ≡ None → cond c (Some 0) (next_place (place_of xs b)) ≡ None
    go true e f = absurd (far 0 (ap (λ (n : ℕ). Some n) (eqb-true x b e)))
    go false e f = ap next_place f

pub distinct : (bs : List ℕ) → AreApart bs → AreDistinct bs
distinct [] h = tt
distinct (b ∷ bs) h = (place_none bs b (λ j e. (let f = h 0 (suc j) b refl e in omega (arith, f))), distinct bs (λ i j c e f. (let g = h (suc i) (suc j) c e f in omega (arith, g))))

pub located_on : (bs : List ℕ) (cs : List Before) → AreOn bs cs → (ps : List Patch) × (located bs cs ≡ Some ps)
located_on bs [] a = ([], refl)
located_on bs (c ∷ cs) a =
    let one = place_there bs c.band a.0.0 a.0.1 in
    let rest = located_on bs cs a.1 in (
      (record { from = 32768 * one.0 + c.at; bytes = c.bytes }) ∷ rest.0,
      ap (λ (o : Option ℕ). one_more c o (located bs cs)) one.1 ∙ ap (λ (o : Option (List Patch)). one_more c (Some one.0) o) rest.1,
    )

-- the place of one that isn't among them
pub place_gone : (bs : List ℕ) (b k : ℕ) → place_of bs b ≡ Some k → slice_get bs k ≡ Some b
place_gone [] b k e = absurd (cc)
place_gone (x ∷ xs) b k e = go (x == b) refl (place_of xs b) (λ i f. place_gone xs b i f) k e
  where
    go : (c : Bool) → (x == b) ≡ c → (o : Option ℕ) → ((i : ℕ) → o ≡ Some i → slice_get xs i ≡ Some b) → (k : ℕ) → cond c (Some 0) (next_place o) ≡ Some k → slice_get (x ∷ xs) k ≡ Some b
    go true e o f zero g = ap (λ (n : ℕ). Some n) (eqb-true x b e)
    go true e o f (suc k) g = absurd (let h = some_one 0 (suc k) g in omega (arith, h))
    go false e None f k g = absurd (cc)
    go false e (Some i) f zero g = absurd (let h = some_one (suc i) 0 g in omega (arith, h))
    go false e (Some i) f (suc k) g = f k (let h = some_one (suc i) (suc k) g in let same : i ≡ k = omega (arith, h) in ap (λ (n : ℕ). Some n) same)

-- PARTS of bytes

same_zero : (k : ℕ) → 0 + k ≡ k
same_zero k = omega arith

-- what bands hold from the first byte on
pub held_alike : (s : ℕ → List ℕ) (bytes : List ℕ) (bs : List ℕ) → AreHeld s bytes 0 bs → length bytes ≤ 32768 * length bs → Alike (contents s bs) bytes
held_alike s bytes bs h enough i = held_bytes s bytes 0 bs h (omega (arith, enough)) i ∙ ap (byte_at bytes) (same_zero i)

pub alike_held : (s : ℕ → List ℕ) (bytes : List ℕ) (bs : List ℕ) → AreWhole s bs → Alike (contents s bs) bytes → AreHeld s bytes 0 bs
alike_held s bytes bs w h = bytes_held s bytes 0 bs w (λ i. h i ∙ ap (byte_at bytes) (sym (same_zero i)))

pub held_same : (s v : ℕ → List ℕ) (bytes : List ℕ) (from : ℕ) (bs : List ℕ) → ((j b : ℕ) → slice_get bs j ≡ Some b → v b ≡ s b) → AreHeld s bytes from bs → AreHeld v bytes from bs
held_same s v bytes from [] same h = tt
held_same s v bytes from (b ∷ bs) same h = (subst (λ (xs : List ℕ). IsHeld bytes from xs) (sym (same 0 b refl)) h.0, held_same s v bytes (from + 32768) bs (λ j c e. same (suc j) c e) h.1)

held_both : (s : ℕ → List ℕ) (bytes : List ℕ) (from : ℕ) (bs more : List ℕ) → AreHeld s bytes from bs → AreHeld s bytes (from + 32768 * length bs) more → AreHeld s bytes from (bs ++ more)
held_both s bytes from [] more h k = subst (λ (n : ℕ). AreHeld s bytes n more) (none from) k
  where
    none : (from : ℕ) → from + 32768 * 0 ≡ from
    none from = omega arith
held_both s bytes from (b ∷ bs) more h k = (h.0, held_both s bytes (from + 32768) bs more h.1 (subst (λ (n : ℕ). AreHeld s bytes n more) (next (length bs)) k))
  where
    next : (n : ℕ) → from + 32768 * suc n ≡ from + 32768 + 32768 * n
    next n = omega arith

zeros_held : (s : ℕ → List ℕ) (bytes : List ℕ) (from : ℕ) (bs : List ℕ) → length bytes ≤ from → ((j b : ℕ) → slice_get bs j ≡ Some b → IsZeros (s b)) → AreHeld s bytes from bs
zeros_held s bytes from [] past zeros = tt
zeros_held s bytes from (b ∷ bs) past zeros = (
  record { size = (zeros 0 b refl).size; each = λ k l. (zeros 0 b refl).each k l ∙ sym (byte_past bytes (from + k) (further k)) },
  zeros_held s bytes (from + 32768) bs (further 32768) (λ j c e. zeros (suc j) c e),
)
  where
    further : (k : ℕ) → length bytes ≤ from + k
    further k = omega (arith, past)

-- AT THE END OF AN ACTION of one blob its before bytes put back what there was
pub action_puts_back : (t : Table) (kept : Kept) (map : ℕ) (ds : List Change) (x : State) (bs more old new : List ℕ) → AreWholeBands x → IsOpened t kept x ds → AreFilled t kept ds → HadBands kept map bs → TookBands map ds more → AreApart (bs ++ more) → AreOn (bs ++ more) (befores map ds)
    → AreHeld x.bands old 0 bs → length old ≤ 32768 * length bs → AreHeld (made t x ds).bands new 0 (bs ++ more) → length new ≤ 32768 * length (bs ++ more) → PutsBack (bs ++ more) (befores map ds) new old
action_puts_back t kept map ds x bs more old new whole opened filled had took apart on held_old enough_old held_new enough_new =
    let cs = befores map ds in
    let all = bs ++ more in
    let s = (made t x ds).bands in
    let v = back_to s cs in
    let places = located_on all cs on in
    let first : AreHeld v old 0 bs = held_same x.bands v old 0 bs (λ j b e. back_is s cs b ∙ kept_back t kept map ds x b opened (had.behind j b e) (had.had j b e)) held_old in
    let last : AreHeld v old (0 + 32768 * length bs) more = zeros_held v old (0 + 32768 * length bs) more (omega (arith, enough_old)) (λ j b e. subst IsZeros (sym (back_is s cs b)) (fresh_back t kept map ds x b whole opened filled (took.behind j b e) (took.taken j b e))) in
    let held : AreHeld v old 0 all = held_both v old 0 bs more first last in
    let enough : length old ≤ 32768 * length all = (let both = length-append bs more in omega (arith, enough_old, both)) in
    puts_back_by all cs places.0 new old places.1 (λ i.
    all_alike places.0 new (contents s all) (λ k. sym (held_alike s new all held_new enough_new k)) i
    ∙ (laid_back s all cs places.0 places.1 (distinct all apart) (held_whole s new 0 all held_new) (found_within t kept map ds x whole opened filled) i
    ∙ held_alike v old all held enough i))

-- WHERE THEY ARE PUT BACK the bands hold what the model says
pub put_bytes : (s : ℕ → List ℕ) (bs : List ℕ) (cs : List Before) (ps : List Patch) (xs : List ℕ) (n : ℕ) → located bs cs ≡ Some ps → AreDistinct bs → AreWithin cs → AreHeld s xs 0 bs → length xs ≤ 32768 * length bs → all_zero (drop n (all_laid ps xs)) ≡ true
    → AreHeld (λ b. put_on cs b (s b)) (padded n (all_laid ps xs)) 0 bs
put_bytes s bs cs ps xs n e apart within held enough zeros =
    let v = back_to s cs in
    let whole = held_whole s xs 0 bs held in
    held_same v (λ b. put_on cs b (s b)) (padded n (all_laid ps xs)) 0 bs (λ j b f. sym (back_is s cs b))
    (alike_held v (padded n (all_laid ps xs)) bs (whole_back s cs bs within whole) (λ i.
    sym (laid_back s bs cs ps e apart whole within i)
    ∙ (all_alike ps (contents s bs) xs (held_alike s xs bs held enough) i
    ∙ sym (padded_alike n (all_laid ps xs) zeros i))))

-- a band on which none of them is stays as it is
pub none_on : (bs : List ℕ) (cs : List Before) (ps : List Patch) (b : ℕ) (xs : List ℕ) → located bs cs ≡ Some ps → ((j : ℕ) → slice_get bs j ≡ Some b → ⊥) → put_on cs b xs ≡ xs
none_on bs [] ps b xs e far = refl
none_on bs (c ∷ cs) ps b xs e far =
    let l = located_one bs c cs ps e in
    ap (put_on cs b) (go (b == c.band) refl l.j l.place) ∙ none_on bs cs l.rest b xs l.located_is far
  where
    go : (d : Bool) → (b == c.band) ≡ d → (j : ℕ) → place_of bs c.band ≡ Some j → cond d (overwrite c.at c.bytes xs) xs ≡ xs
    go true g j p = absurd (far j (place_gone bs c.band j p ∙ ap (λ (n : ℕ). Some n) (sym (eqb-true b c.band g))))
    go false g j p = refl
