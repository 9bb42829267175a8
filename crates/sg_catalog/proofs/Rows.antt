-- The rows of a catalogue of which one place has changed.
use Rattle.std.proofs.Common.{◌≡◌, ℕ, suc, ◌+◌, ◌<◌, ◌≤◌, ◌&&◌, Bool, true, false, cond, List, [], ◌∷◌, ◌++◌, length, take, drop, get_or, Option, Some, None, IsSome, IsTrue, is_some, is_none, sym, ap, ◌∙◌, refl, arith, subst, inl, inr, length-append}
use Rattle.std.specs.List.{find, cons_option, count_by}
use Rattle.std.specs.Str.{bytes_eq}
use Rattle.std.proofs.lemmas.Bool.{cases_lt}
use Rattle.std.proofs.lemmas.List.{get_or_past}
use Rattle.std.proofs.lemmas.List.Sums.{sum_by-append, sum_by-cons}
use Rattle.std.proofs.lemmas.Slice.Eq.{bytes_eq-Decides}
use Rattle.sg_space.specs.View.{Space}
use Rattle.sg_space.proofs.Known.{same_some}
use Rattle.sg_space.specs.Owned.{Becomes, AreApart}
use Rattle.sg_space.proofs.Owners.{grown, stays, two_stay}
use Rattle.sg_catalog.specs.Calls.{IsOneMore, IsInPlace, Turns, StandsBeside}
use Rattle.sg_catalog.specs.Catalog.{Catalog, IsCatalog, Owns, row_at, filled, rows, is_there, is_tomb_of}
use Rattle.sg_catalog.specs.Steps.{RawTurns, with_place, Searched, IsFound, HasRow, HasRowOf}
use Rattle.sg_catalog.specs.declared.look.Found.{Found}
use Rattle.sg_catalog.specs.declared.row.Row.{Row}
use Rattle.sg_catalog.proofs.Lists.{picked_at, picked_set, found_passes}

and_right : (a b : Bool) → (a && b) ≡ true → b ≡ true
and_right true b e = e
and_right false b e = absurd (cc)

-- how many rows pass, of a list with one row in the midst
count_at : (p : Row → Bool) (front back : List Row) (row : Row) → count_by p (front ++ (row ∷ back)) ≡ count_by p front + (cond {A = ℕ} (p row) 1 0 + count_by p back)
count_at p front back row = sum_by-append (λ (r : Row). cond {A = ℕ} (p r) 1 0) front (row ∷ back) ∙ ap (λ (n : ℕ). count_by p front + n) (sum_by-cons (λ (r : Row). cond {A = ℕ} (p r) 1 0) row back)

count_both : (p : Row → Bool) (front back : List Row) → count_by p (front ++ back) ≡ count_by p front + count_by p back
count_both p front back = sum_by-append (λ (r : Row). cond {A = ℕ} (p r) 1 0) front back

-- none passes where none is found
pub count_none : (p : Row → Bool) (xs : List Row) → find p xs ≡ None → count_by p xs ≡ 0
count_none p [] none = refl
count_none p (x ∷ xs) none = sum_by-cons (λ (r : Row). cond {A = ℕ} (p r) 1 0) x xs ∙ by (p x) none (count_none p xs)
  where
    by : (b : Bool) → cond b (Some x) (find p xs) ≡ None → (find p xs ≡ None → count_by p xs ≡ 0) → cond {A = ℕ} b 1 0 + count_by p xs ≡ 0
    by true e rest = absurd (cc)
    by false e rest = let none = rest e in omega arith

-- the place is one of the catalogue's
pub place_below : (places : List (Option Row)) (i : ℕ) (row : Row) → row_at places i ≡ Some row → i < length places
place_below places i row e = elim (cases_lt i (length places)) [
  | inl below ↦ below
  | inr past ↦ absurd (let none : get_or places i None ≡ None = get_or_past places i None past in (cc))
]

-- the rows of a catalogue with a row at this place
pub rows_with : (c : Catalog) (i : ℕ) (row : Row) → row_at c.places i ≡ Some row → rows c ≡ filled (take i c.places) ++ (row ∷ filled (drop (suc i) c.places))
rows_with c i row e =
    picked_at (λ (x : Option Row). x) c.places i None (place_below c.places i row e)
    ∙ ap (λ (o : Option Row). filled (take i c.places) ++ cons_option o (filled (drop (suc i) c.places))) e

pub rows_free : (c : Catalog) (i : ℕ) → i < length c.places → row_at c.places i ≡ None → rows c ≡ filled (take i c.places) ++ filled (drop (suc i) c.places)
rows_free c i below e =
    picked_at (λ (x : Option Row). x) c.places i None below
    ∙ ap (λ (o : Option Row). filled (take i c.places) ++ cons_option o (filled (drop (suc i) c.places))) e

pub rows_set : (c : Catalog) (i : ℕ) (x : Option Row) → i < length c.places → rows (with_place i x c) ≡ filled (take i c.places) ++ cons_option x (filled (drop (suc i) c.places))
rows_set c i x below = picked_set (λ (x : Option Row). x) c.places i x below

pub in_place : (c : Catalog) (i : ℕ) (was now : Row) → row_at c.places i ≡ Some was → IsInPlace was now (rows c) (rows (with_place i (Some now) c))
in_place c i was now e = record {
  front = filled (take i c.places);
  back = filled (drop (suc i) c.places);
  before_is = rows_with c i was e;
  after_is = rows_set c i (Some now) (place_below c.places i was e);
}

pub one_less : (c : Catalog) (i : ℕ) (was : Row) → row_at c.places i ≡ Some was → IsOneMore was (rows (with_place i None c)) (rows c)
one_less c i was e = record {
  front = filled (take i c.places);
  back = filled (drop (suc i) c.places);
  less_is = rows_set c i None (place_below c.places i was e);
  more_is = rows_with c i was e;
}

pub one_more : (c : Catalog) (i : ℕ) (row : Row) → i < length c.places → row_at c.places i ≡ None → IsOneMore row (rows c) (rows (with_place i (Some row) c))
one_more c i row below e = record {
  front = filled (take i c.places);
  back = filled (drop (suc i) c.places);
  less_is = rows_free c i below e;
  more_is = rows_set c i (Some row) below;
}

length_at : (front back : List Row) (row : Row) → length (front ++ (row ∷ back)) ≡ length front + (1 + length back)
length_at front back row = length-append front (row ∷ back) ∙ omega arith

pub same_length : {was now : Row} {xs ys : List Row} → IsInPlace was now xs ys → length ys ≡ length xs
same_length {was} {now} h =
    ap (λ (xs : List Row). length xs) h.after_is ∙ (length_at h.front h.back now ∙ (sym (length_at h.front h.back was) ∙ sym (ap (λ (xs : List Row). length xs) h.before_is)))

pub more_length : {row : Row} {xs ys : List Row} → IsOneMore row xs ys → length ys ≡ length xs + 1
more_length {row} h =
    let less : length (h.front ++ h.back) ≡ length h.front + length h.back = length-append h.front h.back in
    let more = length_at h.front h.back row in
    ap (λ (xs : List Row). length xs) h.more_is ∙ (more ∙ ((let e : length h.front + (1 + length h.back) ≡ length (h.front ++ h.back) + 1 = omega arith in e) ∙ sym (ap (λ (xs : List Row). length xs + 1) h.less_is)))

-- how many rows pass then
pub count_place : {was now : Row} {xs ys : List Row} (p : Row → Bool) → IsInPlace was now xs ys → count_by p ys + cond {A = ℕ} (p was) 1 0 ≡ count_by p xs + cond {A = ℕ} (p now) 1 0
count_place {was} {now} {xs} {ys} p h =
    let a : count_by p xs ≡ count_by p h.front + (cond {A = ℕ} (p was) 1 0 + count_by p h.back) = ap (count_by p) h.before_is ∙ count_at p h.front h.back was in
    let b : count_by p ys ≡ count_by p h.front + (cond {A = ℕ} (p now) 1 0 + count_by p h.back) = ap (count_by p) h.after_is ∙ count_at p h.front h.back now in
    omega arith

pub count_more : {row : Row} {xs ys : List Row} (p : Row → Bool) → IsOneMore row xs ys → count_by p ys ≡ count_by p xs + cond {A = ℕ} (p row) 1 0
count_more {row} {xs} {ys} p h =
    let a : count_by p xs ≡ count_by p h.front + count_by p h.back = ap (count_by p) h.less_is ∙ count_both p h.front h.back in
    let b : count_by p ys ≡ count_by p h.front + (cond {A = ℕ} (p row) 1 0 + count_by p h.back) = ap (count_by p) h.more_is ∙ count_at p h.front h.back row in
    omega arith

-- at most one row of each name is there, where one was added of a name that none had
pub once_more : {row : Row} {xs ys : List Row} → IsOneMore row xs ys → ((name : List ℕ) → count_by (is_there name) xs ≤ 1) → find (is_there row.name) xs ≡ None → (name : List ℕ) → count_by (is_there name) ys ≤ 1
once_more {row} {xs} {ys} h once none name = by (is_there name row) refl
  where
    total : count_by (is_there name) ys ≡ count_by (is_there name) xs + cond {A = ℕ} (is_there name row) 1 0
    total = count_more (is_there name) h

    by : (b : Bool) → is_there name row ≡ b → count_by (is_there name) ys ≤ 1
    by true e =
        let same : bytes_eq row.name name ≡ true = and_right (is_none row.dropper) (bytes_eq row.name name) e in
        let is : row.name ≡ name = (bytes_eq-Decides row.name name).0 same in
        let zero_xs : count_by (is_there name) xs ≡ 0 = ap (λ (n : List ℕ). count_by (is_there n) xs) (sym is) ∙ count_none (is_there row.name) xs none in
        let one : cond {A = ℕ} (is_there name row) 1 0 ≡ 1 = ap (λ (b : Bool). cond {A = ℕ} b 1 0) e in
        let sum = total in
        omega arith
    by false e =
        let zero_row : cond {A = ℕ} (is_there name row) 1 0 ≡ 0 = ap (λ (b : Bool). cond {A = ℕ} b 1 0) e in
        let before = once name in
        let sum = total in
        omega arith

-- and where a row became a tombstone
pub once_buried : {was : Row} (now : Row) {xs ys : List Row} → IsInPlace was now xs ys → IsSome now.dropper → ((name : List ℕ) → count_by (is_there name) xs ≤ 1) → (name : List ℕ) → count_by (is_there name) ys ≤ 1
once_buried {was} now {xs} {ys} h tomb once name =
    let total = count_place (is_there name) h in
    let none : is_there name now ≡ false = not_there now.dropper tomb (bytes_eq now.name name) in
    let zero_now : cond {A = ℕ} (is_there name now) 1 0 ≡ 0 = ap (λ (b : Bool). cond {A = ℕ} b 1 0) none in
    let before = once name in
    omega arith
  where
    not_there : {A : Type 0} (o : Option A) → IsSome o → (b : Bool) → (is_none o && b) ≡ false
    not_there None some b = absurd (cc)
    not_there (Some x) some b = refl

-- and where a tombstone became an object of a name that none had
pub once_raised : {was : Row} (now : Row) {xs ys : List Row} → IsInPlace was now xs ys → find (is_there now.name) xs ≡ None → ((name : List ℕ) → count_by (is_there name) xs ≤ 1) → (name : List ℕ) → count_by (is_there name) ys ≤ 1
once_raised {was} now {xs} {ys} h none once name = by (is_there name now) refl
  where
    total : count_by (is_there name) ys + cond {A = ℕ} (is_there name was) 1 0 ≡ count_by (is_there name) xs + cond {A = ℕ} (is_there name now) 1 0
    total = count_place (is_there name) h

    by : (b : Bool) → is_there name now ≡ b → count_by (is_there name) ys ≤ 1
    by true e =
        let same : bytes_eq now.name name ≡ true = and_right (is_none now.dropper) (bytes_eq now.name name) e in
        let is : now.name ≡ name = (bytes_eq-Decides now.name name).0 same in
        let zero_xs : count_by (is_there name) xs ≡ 0 = ap (λ (n : List ℕ). count_by (is_there n) xs) (sym is) ∙ count_none (is_there now.name) xs none in
        let one : cond {A = ℕ} (is_there name now) 1 0 ≡ 1 = ap (λ (b : Bool). cond {A = ℕ} b 1 0) e in
        let sum = total in
        omega arith
    by false e =
        let zero_now : cond {A = ℕ} (is_there name now) 1 0 ≡ 0 = ap (λ (b : Bool). cond {A = ℕ} b 1 0) e in
        let before = once name in
        let sum = total in
        omega arith

-- and where one is gone
pub once_less : {row : Row} {xs ys : List Row} → IsOneMore row ys xs → ((name : List ℕ) → count_by (is_there name) xs ≤ 1) → (name : List ℕ) → count_by (is_there name) ys ≤ 1
once_less {row} {xs} {ys} h once name = let total = count_more (is_there name) h in let before = once name in omega arith

-- another structure stays as it is
pub stands_beside : (c c' : Catalog) {old new : Space} (other : ℕ → Bool) → Becomes old.pages new.pages (Owns c) (Owns c') (length c.pages) (length c'.pages) → AreApart old.pages (Owns c) (λ p. IsTrue (other p)) → StandsBeside old new c' other
stands_beside c c' other b apart = record { same = λ p o. stays b apart p o; apart = two_stay b apart }

-- a changed place leaves a catalogue, where its rows are one's
pub turns_place : {old new : Space} {c : Catalog} (i : ℕ) (x : Option Row) → IsCatalog old.pages.at c → RawTurns old new c (with_place i x c) → ((name : List ℕ) → count_by (is_there name) (rows (with_place i x c)) ≤ 1) → length (rows (with_place i x c)) ≤ length (rows c) → Turns old new c (with_place i x c)
turns_place {c = c} i x h t once long = let most = h.below_peak in record {
  catalog = record { raw = t.raw; once = once; below_peak = omega arith; exactly = h.exactly };
  pages = grown t.pages;
  bands = t.bands;
  beside = λ other apart. stands_beside c (with_place i x c) other (grown t.pages) apart;
}

pub buried_turns : {old new : Space} {c : Catalog} (i : ℕ) (was now : Row) → IsCatalog old.pages.at c → row_at c.places i ≡ Some was → IsSome now.dropper → RawTurns old new c (with_place i (Some now) c) → Turns old new c (with_place i (Some now) c)
buried_turns {c = c} i was now h e tomb t = let place = in_place c i was now e in let long = same_length place in turns_place i (Some now) h t (once_buried now place tomb h.once) (omega arith)

pub raised_turns : {old new : Space} {c : Catalog} (i : ℕ) (was now : Row) → IsCatalog old.pages.at c → row_at c.places i ≡ Some was → find (is_there now.name) (rows c) ≡ None → RawTurns old new c (with_place i (Some now) c) → Turns old new c (with_place i (Some now) c)
raised_turns {c = c} i was now h e none t = let place = in_place c i was now e in let long = same_length place in turns_place i (Some now) h t (once_raised now place none h.once) (omega arith)

pub less_turns : {old new : Space} {c : Catalog} (i : ℕ) (was : Row) → IsCatalog old.pages.at c → row_at c.places i ≡ Some was → RawTurns old new c (with_place i None c) → Turns old new c (with_place i None c)
less_turns {c = c} i was h e t = let place = one_less c i was e in let long = more_length place in turns_place i None h t (once_less place h.once) (omega arith)

-- the name of a tombstone that was found
pub tomb_named : (name : List ℕ) (root : ℕ) (xs : List Row) (row : Row) → find (is_tomb_of name root) xs ≡ Some row → row.name ≡ name
tomb_named name root xs row h = (bytes_eq-Decides row.name name).0 (and_right _ (bytes_eq row.name name) (found_passes (is_tomb_of name root) xs row h))

-- what a search says of what was looked for
pub nothing_found : (p : Row → Bool) (c : Catalog) (o : Option Found) → o ≡ None → Searched p c o → find p (rows c) ≡ None
nothing_found p c None e s = s
nothing_found p c (Some f) e s = absurd (cc)

pub row_found : (p : Row → Bool) (c : Catalog) (o : Option Found) (f : Found) → o ≡ Some f → Searched p c o → IsFound p c f
row_found p c None f e s = absurd (cc)
row_found p c (Some g) f e s = subst (IsFound p c) (same_some g f e) s

pub row_of_there : {p : Row → Bool} {c : Catalog} {f : Found} → (h : IsFound p c f) → HasRowOf f.spot (length f.row.name) c h.place
row_of_there {f = f} h = record { has = record { is_place = h.is_place; was = f.row; row = h.row }; long = refl }

-- nothing was found of what is there
pub not_nothing : (p : Row → Bool) (c : Catalog) → IsSome (find p (rows c)) → find p (rows c) ≡ None → ⊥
not_nothing p c some none = let same = ap is_some none in (cc)

pub found_some : (p : Row → Bool) (c : Catalog) (f : Found) → IsFound p c f → IsSome (find p (rows c))
found_some p c f h = subst IsSome (sym h.first) refl

-- the row that was found, where it stands
pub row_there : {p : Row → Bool} {c : Catalog} {f : Found} → (h : IsFound p c f) → HasRow f.spot c h.place
row_there {f = f} h = record { is_place = h.is_place; was = f.row; row = h.row }

pub none_if : (p : Row → Bool) (c : Catalog) (o : Option Found) → is_some o ≡ false → Searched p c o → find p (rows c) ≡ None
none_if p c None e s = s
none_if p c (Some f) e s = absurd (cc)

pub some_if : (p : Row → Bool) (c : Catalog) (o : Option Found) → is_some o ≡ true → Searched p c o → IsSome (find p (rows c))
some_if p c None e s = absurd (cc)
some_if p c (Some f) e s = found_some p c f s
