-- The bands that an action took hold zeros again where its before bytes are put back.
use Rattle.std.proofs.Common.{◌≡◌, ◌≢◌, ℕ, zero, suc, ◌+◌, ◌-◌, ◌<◌, ◌≤◌, ◌==◌, ◌⊎◌, inl, inr, Bool, true, false, cond, List, [], ◌∷◌, ◌++◌, length, take, drop, replicate, refl, sym, ap, ◌∙◌, subst, arith}
use Rattle.std.specs.Prelude.{nat_le, ◌||◌}
use Rattle.std.proofs.lemmas.Bool.{eqb-true, eq-eqb}
use Rattle.std.proofs.lemmas.List.{length-take-le, length-drop}
use Rattle.sg_base.specs.Overwritten.{overwritten}
use Rattle.sg_action.specs.States.{State, Change, Kept, with_one, made}
use Rattle.sg_action.specs.States.Change.{Page, Write, Paint}
use Rattle.sg_action.specs.Opened.{StoodThere, IsOpened}
use Rattle.sg_ops.specs.Table.{Table, range_at, rendered}
use Rattle.sg_ops.proofs.Rendering.{length-rendered}
use Rattle.sg_reading.specs.Back.{Before, laid}
use Rattle.sg_reading.proofs.Bytes.{laid_low, laid_in, laid_high, by_place}
use Rattle.sg_reading.specs.Strokes.{overwrite, byte_at}
use Rattle.sg_before.specs.Laying.{put_on, AreWithin}
use Rattle.sg_before.specs.Befores.{found_in, befores, written_on, IsFilledAt, IsTakenBy, AreFilled, AreWholeBands}
pub use Rattle.sg_before.specs.Held.{IsZeros}
use Rattle.sg_before.proofs.Laying.{length_over}
use Rattle.sg_before.proofs.Written.{found_step, found_other, found_none, one_is, one_other, written_back}

either : (a b : Bool) → (a || b) ≡ false → (a ≡ false) × (b ≡ false)
either true b e = absurd (cc)
either false b e = (refl, e)

or_true : (a b : Bool) → (a || b) ≡ true → (a ≡ true) ⊎ (b ≡ true)
or_true true b e = inl refl
or_true false b e = inr e

differs : (a b : ℕ) → a ≢ b → (a == b) ≡ false
differs a b ne = go (a == b) refl
  where
    go : (c : Bool) → (a == b) ≡ c → c ≡ false
    go true e = absurd (ne (eqb-true a b e))
    go false e = refl

not_both : (b : Bool) → b ≡ true → b ≡ false → ⊥
not_both b e f = cc

-- where only fillings were made, nothing is put back
pub untouched : (map : ℕ) (ds : List Change) (b : ℕ) (v : List ℕ) → written_on ds b ≡ false → put_on (befores map ds) b v ≡ v
untouched map [] b v free = refl
untouched map (Page n op back ∷ ds) b v free = untouched map ds b v free
untouched map (Write band at before after ∷ ds) b v free =
    let two = either (b == band) (written_on ds b) free in
    found_other map band at before (befores map ds) b v two.0 ∙ untouched map ds b v two.1
untouched map (Paint band at count code position arg [] ∷ ds) b v free = found_none map band at (befores map ds) b v ∙ untouched map ds b v free
untouched map (Paint band at count code position arg (y ∷ before) ∷ ds) b v free =
    let two = either (b == band) (written_on ds b) free in
    found_other map band at (y ∷ before) (befores map ds) b v two.0 ∙ untouched map ds b v two.1

length_zeros : (n : ℕ) → length {A = ℕ} (replicate n 0) ≡ n
length_zeros zero = refl
length_zeros (suc n) = ap suc (length_zeros n)

one : (map band at : ℕ) (bytes : List ℕ) (cs : List Before) → at + length bytes ≤ 32768 → AreWithin cs → AreWithin (found_in map band at bytes cs)
one map band at bytes cs fits w = go (nat_le map band)
  where
    go : (c : Bool) → AreWithin (cond c (record { band = band; at = at; bytes = bytes } ∷ cs) cs)
    go true = (fits, w)
    go false = w

-- what stood in a whole band is within it
stood : {band : List ℕ} {at count : ℕ} {before : List ℕ} → length band ≡ 32768 → StoodThere band at count before → at + length before ≤ 32768
stood {band} {at} {count} {before} size h =
    let within = h.within in
    let front : length (drop at band) + at ≡ length band = omega (arith, length-drop at band) in
    let long : length before ≡ count = ap length h.is ∙ length-take-le count (drop at band) (omega arith) in
    omega arith

-- each change leaves bands of 32,768 bytes
changed_whole : (s : ℕ → List ℕ) (band at : ℕ) (bytes : List ℕ) (b : ℕ) → length (s b) ≡ 32768 → at + length bytes ≤ length (s band) → length (with_one s band (overwritten (s band) at bytes) b) ≡ 32768
changed_whole s band at bytes b old fits = ap length (one_is s band at bytes b) ∙ go (b == band) refl
  where
    go : (c : Bool) → (b == band) ≡ c → length (cond c (overwrite at bytes (s b)) (s b)) ≡ 32768
    go true e = length_over at bytes (s b) (subst (λ (n : ℕ). at + length bytes ≤ length (s n)) (sym (eqb-true b band e)) fits) ∙ old
    go false e = old

fill_fits : (at count n m : ℕ) → at + count ≤ 32768 → n ≡ count → m ≡ 32768 → at + n ≤ m
fill_fits at count n m a b c = omega (arith, a, b, c)

pub still_whole : (t : Table) (kept : Kept) (ds : List Change) (x : State) → AreWholeBands x → IsOpened t kept x ds → AreFilled t kept ds → AreWholeBands (made t x ds)
still_whole t kept [] x w o f b = w b
still_whole t kept (Page n op back ∷ ds) x w o f b = still_whole t kept ds x w o.0 f.0 b
still_whole t kept (Write band at before after ∷ ds) x w o f b = changed_whole (made t x ds).bands band at after b (still_whole t kept ds x w o.0 f.0 b) o.1.within
still_whole t kept (Paint band at count code position arg [] ∷ ds) x w o f b =
    let drawn = rendered (range_at t code) arg position count in
    changed_whole (made t x ds).bands band at drawn b (still_whole t kept ds x w o.0 f.0 b) (fill_fits at count (length drawn) (length ((made t x ds).bands band)) f.1.within (length-rendered (range_at t code) arg position count) (still_whole t kept ds x w o.0 f.0 band))
still_whole t kept (Paint band at count code position arg (y ∷ before) ∷ ds) x w o f b =
    let drawn = rendered (range_at t code) arg position count in
    changed_whole (made t x ds).bands band at drawn b (still_whole t kept ds x w o.0 f.0 b) (subst (λ (n : ℕ). at + n ≤ length ((made t x ds).bands band)) (sym (length-rendered (range_at t code) arg position count)) o.1.within)

-- what was found is within its band
pub found_within : (t : Table) (kept : Kept) (map : ℕ) (ds : List Change) (x : State) → AreWholeBands x → IsOpened t kept x ds → AreFilled t kept ds → AreWithin (befores map ds)
found_within t kept map [] x w o f = tt
found_within t kept map (Page n op back ∷ ds) x w o f = found_within t kept map ds x w o.0 f.0
found_within t kept map (Write band at before after ∷ ds) x w o f = one map band at before (befores map ds) (stood (still_whole t kept ds x w o.0 f.0 band) o.1) (found_within t kept map ds x w o.0 f.0)
found_within t kept map (Paint band at count code position arg [] ∷ ds) x w o f =
    one map band at [] (befores map ds) (let fits = f.1.within in omega (arith, fits)) (found_within t kept map ds x w o.0 f.0)
found_within t kept map (Paint band at count code position arg (y ∷ before) ∷ ds) x w o f = one map band at (y ∷ before) (befores map ds) (stood (still_whole t kept ds x w o.0 f.0 band) o.1) (found_within t kept map ds x w o.0 f.0)

-- a byte of a list that was written over
over_laid : (at : ℕ) (new xs : List ℕ) → at ≤ length xs → overwrite at new xs ≡ laid (record { from = at; bytes = new }) xs
over_laid at new xs h = ap (λ ys. ys ++ (new ++ drop (at + length new) xs)) (nil_end (take at xs) ∙ ap (λ k. take at xs ++ replicate k 0) (none at (length xs) h))
  where
    nil_end : (ys : List ℕ) → ys ≡ ys ++ []
    nil_end [] = refl
    nil_end (y ∷ ys) = ap (λ zs. y ∷ zs) (nil_end ys)

    none : (a b : ℕ) → a ≤ b → 0 ≡ a - b
    none a b h = omega (arith, h)

byte_zeros : (n i : ℕ) → byte_at (replicate n 0) i ≡ 0
byte_zeros zero i = refl
byte_zeros (suc n) zero = refl
byte_zeros (suc n) (suc i) = byte_zeros n i

-- zeros written over, where a byte was 0 or is written over
zeros_over : (at count : ℕ) (xs : List ℕ) (k : ℕ) → at ≤ length xs → ((at ≤ k) × (k < at + count)) ⊎ (byte_at xs k ≡ 0) → byte_at (overwrite at (replicate count 0) xs) k ≡ 0
zeros_over at count xs k fits why =
    ap (λ ys. byte_at ys k) (over_laid at (replicate count 0) xs fits)
    ∙ by_place at (length (replicate count 0)) k (byte_at (laid (record { from = at; bytes = replicate count 0 }) xs) k ≡ 0)
    (λ low. laid_low (record { from = at; bytes = replicate count 0 }) xs k low ∙ before why low)
    (λ j e l. laid_in (record { from = at; bytes = replicate count 0 }) xs k j e l ∙ byte_zeros count j)
    (λ j e. laid_high (record { from = at; bytes = replicate count 0 }) xs k j e ∙ behind why j (subst (λ n. k ≡ at + (n + j)) (length_zeros count) e))
  where
    before : ((at ≤ k) × (k < at + count)) ⊎ (byte_at xs k ≡ 0) → k < at → byte_at xs k ≡ 0
    before (inl w) low = absurd (let a = w.0 in omega (arith, a, low))
    before (inr e) low = e

    behind : ((at ≤ k) × (k < at + count)) ⊎ (byte_at xs k ≡ 0) → (j : ℕ) → k ≡ at + (count + j) → byte_at xs k ≡ 0
    behind (inl w) j e = absurd (let a = w.1 in omega (arith, a, e))
    behind (inr e) j f = e

-- a byte of a band, where one may have been filled
filled_byte : (s : ℕ → List ℕ) (band at count : ℕ) (drawn : List ℕ) (b k : ℕ) → drawn ≡ replicate count 0 → at ≤ length (s b) → ((b == band) ≡ true → ((at ≤ k) × (k < at + count)) ⊎ (byte_at (s b) k ≡ 0)) → ((b == band) ≡ false → byte_at (s b) k ≡ 0) → byte_at (with_one s band (overwritten (s band) at drawn) b) k ≡ 0
filled_byte s band at count drawn b k zeros fits here there = ap (λ ys. byte_at ys k) (one_is s band at drawn b) ∙ go (b == band) refl
  where
    go : (c : Bool) → (b == band) ≡ c → byte_at (cond c (overwrite at drawn (s b)) (s b)) k ≡ 0
    go true e = ap (λ ys. byte_at (overwrite at ys (s b)) k) zeros ∙ zeros_over at count (s b) k fits (here e)
    go false e = there e

later : {A : Type 0} → ⊥ ⊎ A → A
later (inl none) = absurd none
later (inr a) = a

-- what fillings alone leave
pub zeros_at : (t : Table) (kept : Kept) (ds : List Change) (x : State) (b : ℕ) → AreWholeBands x → IsOpened t kept x ds → AreFilled t kept ds → written_on ds b ≡ false → (k : ℕ) → IsFilledAt ds b k → byte_at ((made t x ds).bands b) k ≡ 0
zeros_at t kept [] x b w o f free k there = absurd there
zeros_at t kept (Page n op back ∷ ds) x b w o f free k (inl none) = absurd none
zeros_at t kept (Page n op back ∷ ds) x b w o f free k (inr there) = zeros_at t kept ds x b w o.0 f.0 free k there
zeros_at t kept (Write band at before after ∷ ds) x b w o f free k (inl none) = absurd none
zeros_at t kept (Write band at before after ∷ ds) x b w o f free k (inr there) =
    let two = either (b == band) (written_on ds b) free in
    ap (λ ys. byte_at ys k) (one_other (made t x ds).bands band (overwritten ((made t x ds).bands band) at after) b two.0) ∙ zeros_at t kept ds x b w o.0 f.0 two.1 k there
zeros_at t kept (Paint band at count code position arg (y ∷ before) ∷ ds) x b w o f free k (inl none) = absurd none
zeros_at t kept (Paint band at count code position arg (y ∷ before) ∷ ds) x b w o f free k (inr there) =
    let two = either (b == band) (written_on ds b) free in
    ap (λ ys. byte_at ys k) (one_other (made t x ds).bands band (overwritten ((made t x ds).bands band) at (rendered (range_at t code) arg position count)) b two.0) ∙ zeros_at t kept ds x b w o.0 f.0 two.1 k there
zeros_at t kept (Paint band at count code position arg [] ∷ ds) x b w o f free k (inl here) =
    filled_byte (made t x ds).bands band at count (rendered (range_at t code) arg position count) b k f.1.zeros
    (let size = still_whole t kept ds x w o.0 f.0 b in let fits = f.1.within in omega (arith, size, fits)) (λ e. inl (here.1, here.2)) (λ e. absurd (not_both (b == band) (eq-eqb b band here.0) e))
zeros_at t kept (Paint band at count code position arg [] ∷ ds) x b w o f free k (inr there) =
    let old = zeros_at t kept ds x b w o.0 f.0 free k there in
    filled_byte (made t x ds).bands band at count (rendered (range_at t code) arg position count) b k f.1.zeros
    (let size = still_whole t kept ds x w o.0 f.0 b in let fits = f.1.within in omega (arith, size, fits)) (λ e. inr old) (λ e. old)

-- A BAND THAT THE ACTION TOOK holds zeros
pub fresh_back : (t : Table) (kept : Kept) (map : ℕ) (ds : List Change) (x : State) (b : ℕ) → AreWholeBands x → IsOpened t kept x ds → AreFilled t kept ds → map ≤ b → IsTakenBy ds b → IsZeros (put_on (befores map ds) b ((made t x ds).bands b))
fresh_back t kept map [] x b w o f h taken = absurd (taken 0 (omega arith))
fresh_back t kept map (Page n op back ∷ ds) x b w o f h taken = fresh_back t kept map ds x b w o.0 f.0 h (λ k l. later (taken k l))
fresh_back t kept map (Write band at before after ∷ ds) x b w o f h taken =
    let z = (made t x ds).bands in
    subst IsZeros
    (sym (found_step map band at before (befores map ds) (with_one z band (overwritten (z band) at after)) b h
    ∙ ap (put_on (befores map ds) b) (written_back z band at (length after) after before b refl o.1)))
    (fresh_back t kept map ds x b w o.0 f.0 h (λ k l. later (taken k l)))
fresh_back t kept map (Paint band at count code position arg (y ∷ before) ∷ ds) x b w o f h taken =
    let z = (made t x ds).bands in
    let drawn = rendered (range_at t code) arg position count in
    subst IsZeros
    (sym (found_step map band at (y ∷ before) (befores map ds) (with_one z band (overwritten (z band) at drawn)) b h
    ∙ ap (put_on (befores map ds) b) (written_back z band at count drawn (y ∷ before) b (length-rendered (range_at t code) arg position count) o.1)))
    (fresh_back t kept map ds x b w o.0 f.0 h (λ k l. later (taken k l)))
fresh_back t kept map (Paint band at count code position arg [] ∷ ds) x b w o f h taken =
    go (b == band) refl (still_whole t kept (Paint band at count code position arg [] ∷ ds) x w o f b) (λ free k l. zeros_at t kept (Paint band at count code position arg [] ∷ ds) x b w o f free k (taken k l)) (fresh_back t kept map ds x b w o.0 f.0 h)
  where
    drawn : List ℕ
    drawn = rendered (range_at t code) arg position count

    z : ℕ → List ℕ
    z = (made t x ds).bands

    now : ℕ → List ℕ
    now = with_one z band (overwritten (z band) at drawn)

    strip : (b == band) ≡ false → (k : ℕ) → ((b ≡ band) × (at ≤ k) × (k < at + count)) ⊎ IsFilledAt ds b k → IsFilledAt ds b k
    strip e k (inl here) = absurd (not_both (b == band) (eq-eqb b band here.0) e)
    strip e k (inr there) = there

    go : (c : Bool) → (b == band) ≡ c → length (now b) ≡ 32768 → (written_on ds b ≡ false → (k : ℕ) → k < 32768 → byte_at (now b) k ≡ 0) → (IsTakenBy ds b → IsZeros (put_on (befores map ds) b (z b))) → IsZeros (put_on (found_in map band at [] (befores map ds)) b (now b))
    go true e size zeros back =
        let free : written_on ds b ≡ false = ap (written_on ds) (eqb-true b band e) ∙ f.1.first in
        subst IsZeros (sym (found_none map band at (befores map ds) b (now b) ∙ untouched map ds b (now b) free)) (record { size = size; each = zeros free })
    go false e size zeros back =
        subst IsZeros (sym (found_none map band at (befores map ds) b (now b) ∙ ap (put_on (befores map ds) b) (one_other z band (overwritten (z band) at drawn) b e))) (back (λ k l. strip e k (taken k l)))
