-- WHAT IS BURIED in a catalogue is buried in the reading.
use Rattle.std.proofs.lemmas.Bool.{eqb-true}
use Rattle.std.proofs.Common.{◌≡◌, ◌⊎◌, ◌==◌, ◌&&◌, ◌≤◌, ℕ, Bool, true, false, cond, inl, inr, List, [], ◌∷◌, Option, Some, None, is_some, refl, sym, ap, ◌∙◌}
use Rattle.std.specs.Prelude.{option_and_then}
use Rattle.std.specs.List.{find, count_by}
use Rattle.std.specs.FinMap.{get, len, empty, get-empty, len-empty}
use Rattle.std.specs.Cmp.Lexicographic.{slice_cmp}
use Rattle.std.specs.Ordering.{nat_cmp}
use Rattle.std.specs.Str.{bytes_eq}
use Rattle.sg_base.specs.declared.numbers.TxnId.{TxnId}
use Rattle.sg_catalog.specs.Catalog.{rows, buried, is_tomb, is_buried, is_by, is_tomb_of}
use Rattle.sg_catalog.specs.declared.row.Row.{Row}
use Rattle.sg_catalog.proofs.Lists.{found_passes}
use Rattle.sg_model.proofs.Parts.{same_entries, bytes_self}
use Rattle.sg_reading.specs.Reading.{Tomb}
use Rattle.sg_contents.specs.Standing.{Body, Contents, IsAmong}
use Rattle.sg_contents.specs.Meaning.{reading, tomb_at}
use Rattle.sg_contents.specs.Standing.{is_at}
use Rattle.sg_contents.proofs.Among.{eq_self, found_among, one_at}
use Rattle.sg_store.specs.Verbs.{IsBy}
use Rattle.sg_contents.proofs.Finding.{tomb_is, tomb_root}
use Rattle.sg_contents.proofs.Reading.{tomb_of, tomb_in, get_tomb}

both : (b : Bool) → b ≡ true → b ≡ false → ⊥
both b e f = cc

-- a search finds a row where one passes,
pub finds : (p : Row → Bool) (xs : List Row) (row : Row) → IsAmong xs row → p row ≡ true → (y : Row) × (find p xs ≡ Some y)
finds p [] row a e = absurd a
finds p (x ∷ xs) row a e = go (p x) refl a (λ m. finds p xs row m e)
  where
    go : (b : Bool) → p x ≡ b → (row ≡ x) ⊎ IsAmong xs row → (IsAmong xs row → (y : Row) × (find p xs ≡ Some y)) → (y : Row) × (find p (x ∷ xs) ≡ Some y)
    go true f a rest = (x, ap (λ (b : Bool). cond b (Some x) (find p xs)) f)
    go false f (inl is) rest = absurd (both (p x) (sym (ap p is) ∙ e) f)
    go false f (inr m) rest = let r = rest m in (r.0, ap (λ (b : Bool). cond b (Some x) (find p xs)) f ∙ r.1)

-- and none where none passes another search that more pass
finds_none : (p q : Row → Bool) → ((x : Row) → q x ≡ true → p x ≡ true) → (xs : List Row) → find p xs ≡ None → find q xs ≡ None
finds_none p q more [] e = refl
finds_none p q more (x ∷ xs) e = go (p x) (q x) refl refl (finds_none p q more xs)
  where
    go : (a b : Bool) → p x ≡ a → q x ≡ b → (find p xs ≡ None → find q xs ≡ None) → find q (x ∷ xs) ≡ None
    go true b f g rest = absurd (let k : ◌≡◌ {A = Option Row} (Some x) None = sym (ap (λ (c : Bool). cond c (Some x) (find p xs)) f) ∙ e in cc)
    go false true f g rest = absurd (both (p x) (more x g) f)
    go false false f g rest = ap (λ (c : Bool). cond c (Some x) (find q xs)) g ∙ rest (sym (ap (λ (c : Bool). cond c (Some x) (find p xs)) f) ∙ e)

by_some : (d : Option TxnId) (by : TxnId) → is_by d by ≡ true → is_some d ≡ true
by_some None by e = absurd (let k : false ≡ true = e in cc)
by_some (Some x) by e = refl

buried_tomb : (by : Option TxnId) (row : Row) → is_buried by row ≡ true → is_tomb row ≡ true
buried_tomb None row e = e
buried_tomb (Some by) row e = by_some row.dropper by e

both_true : (a b c : Bool) → a ≡ true → b ≡ true → c ≡ true → ((a && b) && c) ≡ true
both_true true true c e f g = g
both_true true false c e f g = absurd (let k : false ≡ true = f in cc)
both_true false b c e f g = absurd (let k : false ≡ true = e in cc)

some_tomb : (body : ℕ → Body) (y : Row) (d : Option TxnId) → y.dropper ≡ d → is_some d ≡ true → (t : Tomb) × (tomb_in body y ≡ Some t)
some_tomb body y None e f = absurd (let k : false ≡ true = f in cc)
some_tomb body y (Some by) e f = (tomb_at body by y, ap (tomb_of body y) e)

-- A ROW THAT IS BURIED is a tombstone of the reading
pub tomb_there : (s : Contents) (by : Option TxnId) (row : Row) → buried by (rows s.catalog) ≡ Some row → (t : Tomb) × (get (reading s).tombs (row.root.0 ∷ row.name) ≡ Some t)
tomb_there s by row e =
    let tomb = buried_tomb by row (found_passes (is_buried by) (rows s.catalog) row e) in
    let r = finds (is_tomb_of row.name row.root.0) (rows s.catalog) row (found_among (is_buried by) (rows s.catalog) row e) (both_true (is_tomb row) (row.root.0 == row.root.0) (bytes_eq row.name row.name) tomb (eq_self row.root.0) (bytes_self row.name)) in
    let there = some_tomb s.body r.0 r.0.dropper refl (tomb_is row.name row.root.0 r.0 (found_passes (is_tomb_of row.name row.root.0) (rows s.catalog) r.0 r.1)) in
    (there.0, get_tomb s row.root.0 row.name ∙ (ap (option_and_then (tomb_in s.body)) r.1 ∙ there.1))

-- and its dropper is who was asked for
by_is : (body : ℕ → Body) (by : Option TxnId) (row y : Row) (t : Tomb) (d : Option TxnId) → y.dropper ≡ d → tomb_of body y d ≡ Some t → row ≡ y → is_buried by row ≡ true → IsBy by t.dropper
by_is body None row y t d e f same h = tt
by_is body (Some u) row y t None e f same h = absurd (cc)
by_is body (Some u) row y t (Some dropper) e f same h =
    let k : tomb_at body dropper y ≡ t = cc in
    let is : (dropper.0 == u.0) ≡ true = sym (ap (λ (x : Option TxnId). is_by x u) (ap (λ (r : Row). r.dropper) same ∙ e)) ∙ h in
    sym (ap (λ (x : Tomb). x.dropper) k) ∙ eqb-true dropper.0 u.0 is

pub tomb_dropped : (s : Contents) (by : Option TxnId) (row : Row) → ((root : ℕ) → count_by (is_at root) (rows s.catalog) ≤ 1) → buried by (rows s.catalog) ≡ Some row
    → (t : Tomb) × (get (reading s).tombs (row.root.0 ∷ row.name) ≡ Some t) × IsBy by t.dropper
tomb_dropped s by row once e =
    let passes = found_passes (is_buried by) (rows s.catalog) row e in
    let tomb = buried_tomb by row passes in
    let among = found_among (is_buried by) (rows s.catalog) row e in
    let r = finds (is_tomb_of row.name row.root.0) (rows s.catalog) row among (both_true (is_tomb row) (row.root.0 == row.root.0) (bytes_eq row.name row.name) tomb (eq_self row.root.0) (bytes_self row.name)) in
    let own = found_passes (is_tomb_of row.name row.root.0) (rows s.catalog) r.0 r.1 in
    let same : row ≡ r.0 = one_at (rows s.catalog) row r.0 once among (found_among (is_tomb_of row.name row.root.0) (rows s.catalog) r.0 r.1) (sym (tomb_root row.name row.root.0 r.0 own)) in
    let there = some_tomb s.body r.0 r.0.dropper refl (tomb_is row.name row.root.0 r.0 own) in
    (there.0, get_tomb s row.root.0 row.name ∙ (ap (option_and_then (tomb_in s.body)) r.1 ∙ there.1), by_is s.body by row r.0 there.0 r.0.dropper refl there.1 same passes)

tomb_of_tomb : (name : List ℕ) (root : ℕ) (x : Row) → is_tomb_of name root x ≡ true → is_tomb x ≡ true
tomb_of_tomb name root x e = tomb_is name root x e

-- NOTHING IS BURIED in the reading where no row is
pub none_buried : ((s : Contents) → get (reading s).tombs [] ≡ None) → (s : Contents) → buried None (rows s.catalog) ≡ None → len (reading s).tombs ≡ 0
none_buried nothing s e = ap len (same_entries (reading s).tombs (empty {X = Tomb} {R = slice_cmp nat_cmp}) key) ∙ len-empty (slice_cmp nat_cmp) Tomb
  where
    key : (q : List ℕ) → get (reading s).tombs q ≡ get (empty {X = Tomb} {R = slice_cmp nat_cmp}) q
    key [] = nothing s ∙ sym (get-empty (slice_cmp nat_cmp) [])
    key (r ∷ other) = get_tomb s r other ∙ (ap (option_and_then (tomb_in s.body)) (finds_none is_tomb (is_tomb_of other r) (tomb_of_tomb other r) (rows s.catalog) e) ∙ sym (get-empty (slice_cmp nat_cmp) (r ∷ other)))
