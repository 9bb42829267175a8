-- A catalogue of one row.
use Rattle.std.proofs.Common.{◌≡◌, ℕ, List, [], ◌∷◌, ◌++◌, Option, Some, None, IsSome, option_map, Bool, true, false, ◌&&◌, ◌==◌, refl, sym, ap, subst, ◌∙◌, arith}
use Rattle.std.specs.List.{find}
use Rattle.std.specs.Str.{bytes_eq}
use Rattle.std.proofs.lemmas.Cmp.{nat_eq_equiv}
use Rattle.std.proofs.lemmas.Slice.Eq.{bytes_eq-Decides}
use Rattle.sg_base.specs.declared.numbers.TxnId.{TxnId}
use Rattle.sg_catalog.specs.Calls.{IsOneMore, IsInPlace, IsAdded, IsBuried, IsRaised, IsOther, HasOne, CanAdd, CanRaise, object, tomb_by, raised}
use Rattle.sg_catalog.specs.Catalog.{Catalog, rows, there, buried, is_there, is_tomb_of, is_buried}
use Rattle.sg_catalog.specs.Row.{entry_of}
use Rattle.sg_catalog.specs.declared.row.Entry.{Entry}
use Rattle.sg_catalog.specs.declared.row.Row.{Row}
use Rattle.sg_catalog.proofs.Lists.{find_first}
use Rattle.sg_space.specs.Memory.{memory_view}
use Rattle.sg_space.specs.declared.memory.MemSpace.{MemSpace}
use Rattle.sg_tests_memory.proofs.Fresh.{empty_catalog}

-- an object may get any name in a catalogue without rows
pub can_add : (s : MemSpace) (name : List ℕ) → CanAdd (memory_view s) name empty_catalog
can_add s name = record { absent = refl; grow = record { may_fill = λ p o n le. tt; free = λ e. absurd (cc) } }

-- one row more than none
pub one_more : {row : Row} {xs ys : List Row} → IsOneMore row xs ys → xs ≡ [] → ys ≡ row ∷ []
one_more {row} {xs} {ys} h none = by h.front h.back (sym none ∙ h.less_is) h.more_is
  where
    by : (front back : List Row) → [] ≡ front ++ back → ys ≡ front ++ (row ∷ back) → ys ≡ row ∷ []
    by [] back e f = f ∙ ap (λ (l : List Row). row ∷ l) (sym e)
    by (x ∷ front) back e f = absurd (cc)

-- the one row is another one now
pub in_place : {was now row : Row} {xs ys : List Row} → IsInPlace was now xs ys → xs ≡ row ∷ [] → (was ≡ row) × (ys ≡ now ∷ [])
in_place {was} {now} {row} {xs} {ys} h one = by h.front h.back (sym one ∙ h.before_is) h.after_is
  where
    by : (front back : List Row) → row ∷ [] ≡ front ++ (was ∷ back) → ys ≡ front ++ (now ∷ back) → (was ≡ row) × (ys ≡ now ∷ [])
    by [] back e f = let rest : [] ≡ back = cc in (cc, f ∙ ap (λ (l : List Row). now ∷ l) (sym rest))
    by (x ∷ []) back e f = absurd (cc)
    by (x ∷ y ∷ front) back e f = absurd (cc)

pub added_one : {name : List ℕ} {entry : Entry} {c c' : Catalog} → rows c ≡ [] → IsAdded (object name entry) c c' → rows c' ≡ object name entry ∷ []
added_one none h = one_more h.rows_are none

-- so it can be dropped
pub can_bury : {name : List ℕ} {entry : Entry} {c c' : Catalog} → IsAdded (object name entry) c c' → HasOne (is_there name) c'
can_bury h = subst (λ (o : Option Row). IsSome o) (sym h.map.here) refl

pub buried_one : {name : List ℕ} {by : TxnId} {row : Row} {c c' : Catalog} → rows c ≡ row ∷ [] → IsBuried name by c c' → rows c' ≡ tomb_by by row ∷ []
buried_one {by = by} one h = let q = in_place h.change.rows_are one in q.1 ∙ ap (λ (r : Row). tomb_by by r ∷ []) q.0

-- the tombstone of an object is found by who dropped it, and by its name and root
pub tomb_is : (by : TxnId) (row : Row) → is_buried (Some by) (tomb_by by row) ≡ true
tomb_is by row = nat_eq_equiv.refl by.0

pub tomb_of : (name : List ℕ) (entry : Entry) (by : TxnId) → is_tomb_of name entry.root.0 (tomb_by by (object name entry)) ≡ true
tomb_of name entry by =
    ap (λ (b : Bool). b && bytes_eq name name) (nat_eq_equiv.refl entry.root.0) ∙ (bytes_eq-Decides name name).1 refl

pub finds_tomb : (by : TxnId) (row : Row) (c : Catalog) → rows c ≡ tomb_by by row ∷ [] → buried (Some by) (rows c) ≡ Some (tomb_by by row)
finds_tomb by row c one = ap (find (is_buried (Some by))) one ∙ find_first (is_buried (Some by)) (tomb_by by row) [] (tomb_is by row)

pub finds_named : (name : List ℕ) (entry : Entry) (by : TxnId) (c : Catalog) → rows c ≡ tomb_by by (object name entry) ∷ [] → find (is_tomb_of name entry.root.0) (rows c) ≡ Some (tomb_by by (object name entry))
finds_named name entry by c one = ap (find (is_tomb_of name entry.root.0)) one ∙ find_first (is_tomb_of name entry.root.0) (tomb_by by (object name entry)) [] (tomb_of name entry by)

pub can_raise : (name : List ℕ) (entry : Entry) (by : TxnId) (c : Catalog) → rows c ≡ tomb_by by (object name entry) ∷ [] → there name (rows c) ≡ None → CanRaise name entry.root.0 c
can_raise name entry by c one none = record { tomb = subst (λ (o : Option Row). IsSome o) (sym (finds_named name entry by c one)) refl; absent = none }

pub raised_one : (name : List ℕ) (entry : Entry) (by : TxnId) (c c' : Catalog) → rows c ≡ tomb_by by (object name entry) ∷ [] → IsRaised name entry.root.0 c c' → option_map entry_of (there name (rows c')) ≡ Some entry
raised_one name entry by c c' one h =
    let same : Some h.change.row ≡ Some (tomb_by by (object name entry)) = sym h.change.was ∙ finds_named name entry by c one in
    ap (option_map entry_of) h.map.here ∙ ap (λ (o : Option Row). option_map (λ (r : Row). entry_of (raised r)) o) same
