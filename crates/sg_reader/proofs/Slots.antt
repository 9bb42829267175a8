-- Each slot of what contents mean is formed.
use Rattle.std.proofs.Common.{◌≡◌, ℕ, true, List, ◌∷◌, Option, Some, None, option_map, is_some, is_none, refl, sym, ap, ◌∙◌, subst}
use Rattle.std.specs.Prelude.{option_and_then}
use Rattle.std.specs.List.{find}
use Rattle.std.specs.FinMap.{get}
use Rattle.std.specs.Str.{bytes_eq}
use Rattle.std.proofs.lemmas.Bool.{eq-eqb}
use Rattle.sg_base.specs.declared.numbers.TxnId.{TxnId}
use Rattle.sg_catalog.specs.Catalog.{rows, there, is_there, is_tomb, is_tomb_of}
use Rattle.sg_catalog.specs.declared.row.Row.{Row}
use Rattle.sg_catalog.proofs.Lists.{found_passes}
use Rattle.sg_space.specs.View.{Space}
use Rattle.sg_reading.specs.Reading.{Thing, Tomb, slot}
use Rattle.sg_reading.specs.Noted.{IsFormedSlot, IsRootFree}
use Rattle.sg_contents.specs.Standing.{Body, Contents, is_at, IsContents}
use Rattle.sg_contents.specs.Standing.Body.{AnArray, ATable, ABlob}
use Rattle.sg_contents.specs.Meaning.{thing_of, thing_at, reading}
use Rattle.sg_contents.proofs.Among.{found_among, only_one}
use Rattle.sg_contents.proofs.Reading.{tomb_in, get_thing, get_tomb}
use Rattle.sg_contents.proofs.Finding.{and_left, tomb_root, tomb_is}
use Rattle.sg_reader.proofs.Formed.{contents_formed}

-- NO TOMBSTONE of a name has the root of the object that is there
not_both : (d : Option TxnId) → is_none d ≡ true → is_some d ≡ true → ⊥
not_both None e f = cc
not_both (Some by) e f = cc

free_of : (root : ℕ) (b : Body) (buried : ℕ → Option Tomb) → buried root ≡ None → IsRootFree (Some (thing_of root b)) buried
free_of root (AnArray a) buried e = e
free_of root (ATable t) buried e = e
free_of root (ABlob b) buried e = e

module _ (space : Space) (s : Contents) (h : IsContents space s) (name : List ℕ) where
  no_tomb : (row : Row) → there name (rows s.catalog) ≡ Some row → (o : Option Row) → find (is_tomb_of name row.root.0) (rows s.catalog) ≡ o → get (reading s).tombs (row.root.0 ∷ name) ≡ None
  no_tomb row e None f = get_tomb s row.root.0 name ∙ ap (option_and_then (tomb_in s.body)) f
  no_tomb row e (Some y) f =
      let passed : is_tomb_of name row.root.0 y ≡ true = found_passes (is_tomb_of name row.root.0) (rows s.catalog) y f in
      let same : row ≡ y = only_one (is_at row.root.0) (rows s.catalog) row y (h.once row.root.0) (found_among (is_there name) (rows s.catalog) row e) (found_among (is_tomb_of name row.root.0) (rows s.catalog) y f)
      (eq-eqb row.root.0 row.root.0 refl) (eq-eqb y.root.0 row.root.0 (tomb_root name row.root.0 y passed)) in
      absurd (not_both row.dropper (and_left (is_none row.dropper) (bytes_eq row.name name) (found_passes (is_there name) (rows s.catalog) row e)) (ap is_tomb same ∙ tomb_is name row.root.0 y passed))

  root_is_free : (o : Option Row) → there name (rows s.catalog) ≡ o → IsRootFree (option_map (thing_at s.body) o) (slot (reading s) name).buried
  root_is_free None e = tt
  root_is_free (Some row) e = free_of row.root.0 (s.body row.root.0) (slot (reading s) name).buried (no_tomb row e (find (is_tomb_of name row.root.0) (rows s.catalog)) refl)

  -- EACH SLOT of what contents mean is formed
  pub slot_formed : IsFormedSlot (slot (reading s) name)
  slot_formed = (
    contents_formed space s h name,
    subst (λ (th : Option Thing). IsRootFree th (slot (reading s) name).buried) (sym (get_thing s name)) (root_is_free (there name (rows s.catalog)) refl),
  )
