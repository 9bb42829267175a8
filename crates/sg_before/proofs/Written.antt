-- The before bytes of an action, put back on its bands.
use Rattle.std.proofs.Common.{◌≡◌, ◌≢◌, ℕ, ◌+◌, ◌≤◌, ◌==◌, Bool, true, false, cond, List, [], ◌∷◌, ◌++◌, length, take, drop, refl, sym, ap, ◌∙◌, arith}
use Rattle.std.specs.Prelude.{nat_le}
use Rattle.std.proofs.lemmas.Bool.{eqb-true, eq-eqb}
use Rattle.std.proofs.lemmas.Bool.Decides.{nat_tests}
use Rattle.std.proofs.lemmas.List.{append_assoc, take-append-drop}
use Rattle.sg_base.specs.Overwritten.{overwritten}
use Rattle.sg_action.specs.States.{State, Change, Kept, with_one, made}
use Rattle.sg_action.specs.States.Change.{Page, Write, Paint}
use Rattle.sg_action.specs.Opened.{StoodThere, IsOpened}
use Rattle.sg_action.proofs.WrittenBack.{overwritten_back}
use Rattle.sg_ops.specs.Table.{Table, range_at, rendered}
use Rattle.sg_ops.proofs.Rendering.{length-rendered}
use Rattle.sg_reading.specs.Back.{Before}
use Rattle.sg_reading.specs.Strokes.{overwrite}
use Rattle.sg_before.specs.Laying.{put_on}
use Rattle.sg_before.specs.Befores.{found_in, befores}

over_same : (xs : List ℕ) (at : ℕ) (bytes : List ℕ) → overwritten xs at bytes ≡ overwrite at bytes xs
over_same xs at bytes = append_assoc (take at xs) bytes (drop (at + length bytes) xs)

differs : (a b : ℕ) → a ≢ b → (a == b) ≡ false
differs a b ne = go (a == b) refl
  where
    go : (c : Bool) → (a == b) ≡ c → c ≡ false
    go true e = absurd (ne (eqb-true a b e))
    go false e = refl

-- what one change of a band leaves, of each band
pub one_is : (s : ℕ → List ℕ) (band at : ℕ) (bytes : List ℕ) (b : ℕ) → with_one s band (overwritten (s band) at bytes) b ≡ cond (b == band) (overwrite at bytes (s b)) (s b)
one_is s band at bytes b = go (b == band) refl
  where
    go : (c : Bool) → (b == band) ≡ c → cond c (overwritten (s band) at bytes) (s b) ≡ cond c (overwrite at bytes (s b)) (s b)
    go true e = over_same (s band) at bytes ∙ ap (λ (n : ℕ). overwrite at bytes (s n)) (sym (eqb-true b band e))
    go false e = refl

pub one_same : (s : ℕ → List ℕ) (band : ℕ) (bytes : List ℕ) → with_one s band bytes band ≡ bytes
one_same s band bytes = ap (λ (c : Bool). cond c bytes (s band)) (eq-eqb band band refl)

pub one_other : (s : ℕ → List ℕ) (band : ℕ) (bytes : List ℕ) (b : ℕ) → (b == band) ≡ false → with_one s band bytes b ≡ s b
one_other s band bytes b e = ap (λ (c : Bool). cond c bytes (s b)) e

-- one piece put back, of a band behind the map's
pub found_step : (kept band at : ℕ) (bytes : List ℕ) (cs : List Before) (s : ℕ → List ℕ) (b : ℕ) → kept ≤ b → put_on (found_in kept band at bytes cs) b (s b) ≡ put_on cs b (with_one s band (overwritten (s band) at bytes) b)
found_step kept band at bytes cs s b behind = go (nat_le kept band) refl
  where
    low : nat_le kept band ≡ false → b ≢ band
    low e same = absurd (grind (arith, nat_tests, e, behind, same))

    go : (c : Bool) → nat_le kept band ≡ c → put_on (cond c (record { band = band; at = at; bytes = bytes } ∷ cs) cs) b (s b) ≡ put_on cs b (with_one s band (overwritten (s band) at bytes) b)
    go true e = ap (put_on cs b) (sym (one_is s band at bytes b))
    go false e = ap (put_on cs b) (sym (one_other s band (overwritten (s band) at bytes) b (differs b band (low e))))

-- a piece on another band
pub found_other : (kept band at : ℕ) (bytes : List ℕ) (cs : List Before) (b : ℕ) (v : List ℕ) → (b == band) ≡ false → put_on (found_in kept band at bytes cs) b v ≡ put_on cs b v
found_other kept band at bytes cs b v e = go (nat_le kept band)
  where
    go : (c : Bool) → put_on (cond c (record { band = band; at = at; bytes = bytes } ∷ cs) cs) b v ≡ put_on cs b v
    go true = ap (λ (d : Bool). put_on cs b (cond d (overwrite at bytes v) v)) e
    go false = refl

-- a piece of no bytes changes nothing
over_none : (at : ℕ) (xs : List ℕ) → overwrite at [] xs ≡ xs
over_none at xs = ap (λ (n : ℕ). take at xs ++ drop n xs) (let e : at + 0 ≡ at = omega arith in e) ∙ take-append-drop at xs

pub found_none : (kept band at : ℕ) (cs : List Before) (b : ℕ) (v : List ℕ) → put_on (found_in kept band at [] cs) b v ≡ put_on cs b v
found_none kept band at cs b v = go (nat_le kept band)
  where
    here : (d : Bool) → put_on cs b (cond d (overwrite at [] v) v) ≡ put_on cs b v
    here true = ap (put_on cs b) (over_none at v)
    here false = refl

    go : (c : Bool) → put_on (cond c (record { band = band; at = at; bytes = [] } ∷ cs) cs) b v ≡ put_on cs b v
    go true = here (b == band)
    go false = refl

-- what stood there, written again
pub written_back : (s : ℕ → List ℕ) (band at count : ℕ) (after before : List ℕ) (b : ℕ) → length after ≡ count → StoodThere (s band) at count before
    → with_one (with_one s band (overwritten (s band) at after)) band (overwritten (with_one s band (overwritten (s band) at after) band) at before) b ≡ s b
written_back s band at count after before b size h = go (b == band) refl
  where
    now : ℕ → List ℕ
    now = with_one s band (overwritten (s band) at after)

    go : (c : Bool) → (b == band) ≡ c → cond c (overwritten (with_one s band (overwritten (s band) at after) band) at before) (with_one s band (overwritten (s band) at after) b) ≡ s b
    go true e =
        ap (λ (xs : List ℕ). overwritten xs at before) (one_same s band (overwritten (s band) at after))
        ∙ (overwritten_back (s band) after before at count size h ∙ ap s (sym (eqb-true b band e)))
    go false e = one_other s band (overwritten (s band) at after) b e

-- A BAND THAT WAS TAKEN when the action began holds again what it held then
pub kept_back : (t : Table) (kept : Kept) (map : ℕ) (ds : List Change) (x : State) (b : ℕ) → IsOpened t kept x ds → map ≤ b → kept.bands b ≡ true → put_on (befores map ds) b ((made t x ds).bands b) ≡ x.bands b
kept_back t kept map [] x b o h had = refl
kept_back t kept map (Page n op back ∷ ds) x b o h had = kept_back t kept map ds x b o.0 h had
kept_back t kept map (Write band at before after ∷ ds) x b o h had =
    let z = (made t x ds).bands in
    found_step map band at before (befores map ds) (with_one z band (overwritten (z band) at after)) b h
    ∙ (ap (put_on (befores map ds) b) (written_back z band at (length after) after before b refl o.1) ∙ kept_back t kept map ds x b o.0 h had)
kept_back t kept map (Paint band at count code position arg [] ∷ ds) x b o h had =
    let z = (made t x ds).bands in
    let far : b ≢ band = λ e. (let f = sym had ∙ (ap kept.bands e ∙ o.1) in absurd (cc)) in
    found_none map band at (befores map ds) b _
    ∙ (ap (put_on (befores map ds) b) (one_other z band (overwritten (z band) at (rendered (range_at t code) arg position count)) b (differs b band far)) ∙ kept_back t kept map ds x b o.0 h had)
kept_back t kept map (Paint band at count code position arg (y ∷ before) ∷ ds) x b o h had =
    let z = (made t x ds).bands in
    let drawn = rendered (range_at t code) arg position count in
    found_step map band at (y ∷ before) (befores map ds) (with_one z band (overwritten (z band) at drawn)) b h
    ∙ (ap (put_on (befores map ds) b) (written_back z band at count drawn (y ∷ before) b (length-rendered (range_at t code) arg position count) o.1) ∙ kept_back t kept map ds x b o.0 h had)
