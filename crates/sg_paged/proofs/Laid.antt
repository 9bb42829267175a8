-- THE BYTES THAT AN UNDO PUTS BACK are those that the store asks for.
use Rattle.std.proofs.Common.{◌≡◌, ℕ, ◌==◌, Bool, true, false, List, [], ◌∷◌, drop, Option, Some, None, sym, ap, subst, ◌∙◌, refl, arith}
use Rattle.std.specs.Prelude.{nat_le, nat_lt, if◌then◌else◌, map}
use Rattle.std.proofs.lemmas.Bool.Decides.{nat_tests}
use Rattle.byteorder.specs.Endian.{little_number}
use Rattle.sg_record.specs.Changes.{Change}
use Rattle.sg_record.specs.Changes.Change.{Page, SegWrite, SegOp}
use Rattle.sg_reading.specs.Back.{Undoing, Before}
use Rattle.sg_reading.specs.Back.Undoing.{WasNothing, WasMake, WasDrop, WasPush, WasPop, WasSet, WasApply, WasPut, WasBytes}
use Rattle.sg_action.specs.States.{State}
use Rattle.sg_actions.specs.Changes.{meaning}
use Rattle.sg_actions.specs.Undoing.{Stood, stood_of, with_stood, given_back, all_given_back, is_of_bytes, put_by}
use Rattle.sg_before.specs.Befores.{found_in, befores}
use Rattle.sg_before.specs.Laying.{put_on}
use Rattle.sg_before.proofs.Written.{found_none, one_is}
use Rattle.sg_objects.specs.Notes.{byte_at, over_said, undoing_said, note_said}
use Rattle.sg_ground.specs.Ground.{bytes_of, found_of, found_by, PutsBack}

-- ONE CHANGE
stood_pages : (o : Option Stood) (x : State) → (with_stood o x).pages ≡ x.pages
stood_pages None x = refl
stood_pages (Some s) x = refl

stood_on : (outside band at : ℕ) (bytes : List ℕ) (cs : List Before) (x : State) (b : ℕ)
    → put_on cs b ((with_stood (stood_of outside band at bytes) x).bands b) ≡ put_on (found_in outside band at bytes cs) b (x.bands b)
stood_on outside band at [] cs x b = sym (found_none outside band at cs b (x.bands b))
stood_on outside band at (y ∷ ys) cs x b = by_place (nat_lt band outside) refl
  where
    by_place : (low : Bool) → nat_lt band outside ≡ low → put_on cs b ((with_stood (if low then None else Some (band, (at, y ∷ ys))) x).bands b) ≡ put_on (found_in outside band at (y ∷ ys) cs) b (x.bands b)
    by_place true e =
        let far : nat_le outside band ≡ false = grind (arith, nat_tests, e) in
        sym (ap (λ (c : Bool). put_on (if c then record { band = band; at = at; bytes = y ∷ ys } ∷ cs else cs) b (x.bands b)) far)
    by_place false e =
        let near : nat_le outside band ≡ true = grind (arith, nat_tests, e) in
        ap (put_on cs b) (one_is x.bands band at (y ∷ ys) b)
        ∙ sym (ap (λ (c : Bool). put_on (if c then record { band = band; at = at; bytes = y ∷ ys } ∷ cs else cs) b (x.bands b)) near)

stood_size : (o : Option Stood) (x : State) → (with_stood o x).size ≡ x.size
stood_size None x = refl
stood_size (Some s) x = refl

-- ALL OF THEM
pub all_pages : (outside : ℕ) (cs : List Change) (x : State) → (all_given_back outside cs x).pages ≡ x.pages
all_pages outside [] x = refl
all_pages outside (Page c ∷ cs) x = all_pages outside cs x
all_pages outside (SegWrite c ∷ cs) x = all_pages outside cs (given_back outside (SegWrite c) x) ∙ stood_pages (stood_of outside c.band c.at c.before) x
all_pages outside (SegOp c ∷ cs) x = all_pages outside cs (given_back outside (SegOp c) x) ∙ stood_pages (stood_of outside c.band c.at c.before) x

all_size : (outside : ℕ) (cs : List Change) (x : State) → (all_given_back outside cs x).size ≡ x.size
all_size outside [] x = refl
all_size outside (Page c ∷ cs) x = all_size outside cs x
all_size outside (SegWrite c ∷ cs) x = all_size outside cs (given_back outside (SegWrite c) x) ∙ stood_size (stood_of outside c.band c.at c.before) x
all_size outside (SegOp c ∷ cs) x = all_size outside cs (given_back outside (SegOp c) x) ∙ stood_size (stood_of outside c.band c.at c.before) x

all_bands : (outside : ℕ) (cs : List Change) (x : State) (b : ℕ)
    → (all_given_back outside cs x).bands b ≡ put_on (befores outside (map meaning cs)) b (x.bands b)
all_bands outside [] x b = refl
all_bands outside (Page c ∷ cs) x b = all_bands outside cs x b
all_bands outside (SegWrite c ∷ cs) x b = all_bands outside cs (given_back outside (SegWrite c) x) b ∙ stood_on outside c.band c.at c.before (befores outside (map meaning cs)) x b
all_bands outside (SegOp c ∷ cs) x b = all_bands outside cs (given_back outside (SegOp c) x) b ∙ stood_on outside c.band c.at c.before (befores outside (map meaning cs)) x b

-- WHICH NOTES put bytes back
pick : (b : Bool) (u v : Undoing) (cs : List Before) → bytes_of u cs ≡ [] → bytes_of v cs ≡ [] → bytes_of (if b then u else v) cs ≡ []
pick true u v cs h k = h
pick false u v cs h k = k

none_else : (k : ℕ) (rest : List ℕ) (cs : List Before) → (k == 9) ≡ false → bytes_of (undoing_said k rest) cs ≡ []
none_else k rest cs e =
    let last : bytes_of (if k == 9 then WasBytes (little_number 4 rest) else WasNothing) cs ≡ [] = ap (λ (b : Bool). bytes_of (if b then WasBytes (little_number 4 rest) else WasNothing) cs) e in
    pick (k == 1) WasMake _ cs refl
    (pick (k == 2) (WasDrop (little_number 4 rest)) _ cs refl
    (pick (k == 3) WasPush _ cs refl
    (pick (k == 4) (WasPop rest) _ cs refl
    (pick (k == 5) (WasSet (little_number 4 rest) (drop 4 rest)) _ cs refl
    (pick (k == 6) (WasApply (little_number 4 rest) (little_number 2 (drop 4 rest)) (drop 2 (drop 4 rest))) _ cs refl
    (pick (k == 7) (WasPut rest) _ cs refl
    (pick (k == 8) (over_said rest) (if k == 9 then WasBytes (little_number 4 rest) else WasNothing) cs refl last)))))))

some_there : (k : ℕ) (rest : List ℕ) (cs : List Before) → (k == 9) ≡ true → bytes_of (undoing_said k rest) cs ≡ cs
some_there k rest cs e =
    let is : 9 ≡ k = grind (arith, nat_tests, e) in
    subst (λ (n : ℕ). bytes_of (undoing_said n rest) cs ≡ cs) is refl

-- WHAT AN UNDO PUTS BACK
pub puts_back : (outside : ℕ) (note : List ℕ) (cs : List Change) (x y : State) → y ≡ put_by outside note cs x
    → PutsBack (found_of outside (note_said note) cs) x y
puts_back outside note cs x y e = by_kind (is_of_bytes note) refl
  where
    by_kind : (b : Bool) → is_of_bytes note ≡ b → PutsBack (found_of outside (note_said note) cs) x y
    by_kind true k =
        let is : y ≡ all_given_back outside cs x = e ∙ ap (λ (b : Bool). if b then all_given_back outside cs x else x) k in
        let all : found_of outside (note_said note) cs ≡ found_by outside cs = some_there (byte_at note 0) (drop (byte_at note 1) (drop 2 note)) (found_by outside cs) k in
        record {
          size = ap (λ (s : State). s.size) is ∙ all_size outside cs x;
          pages = ap (λ (s : State). s.pages) is ∙ all_pages outside cs x;
          bands = λ b. ap (λ (s : State). s.bands b) is ∙ (all_bands outside cs x b ∙ ap (λ (fs : List Before). put_on fs b (x.bands b)) (sym all));
        }
    by_kind false k =
        let is : y ≡ x = e ∙ ap (λ (b : Bool). if b then all_given_back outside cs x else x) k in
        let none : found_of outside (note_said note) cs ≡ [] = none_else (byte_at note 0) (drop (byte_at note 1) (drop 2 note)) (found_by outside cs) k in
        record {
          size = ap (λ (s : State). s.size) is;
          pages = ap (λ (s : State). s.pages) is;
          bands = λ b. ap (λ (s : State). s.bands b) is ∙ ap (λ (fs : List Before). put_on fs b (x.bands b)) (sym none);
        }

-- and no page changes with it
pub put_pages : (outside : ℕ) (note : List ℕ) (cs : List Change) (x : State) → (put_by outside note cs x).pages ≡ x.pages
put_pages outside note cs x = by_kind (is_of_bytes note)
  where
    by_kind : (b : Bool) → (if b then all_given_back outside cs x else x).pages ≡ x.pages
    by_kind true = all_pages outside cs x
    by_kind false = refl
