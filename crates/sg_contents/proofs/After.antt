-- What contents mean once one body is another one.
use Rattle.std.proofs.Common.{◌≡◌, ◌≢◌, ℕ, ◌≤◌, Bool, true, false, List, ◌∷◌, Option, Some, None, option_map, refl, sym, ap, ◌∙◌}
use Rattle.std.specs.Prelude.{option_and_then}
use Rattle.std.specs.List.{find, count_by}
use Rattle.std.specs.FinMap.{get}
use Rattle.sg_base.specs.declared.numbers.TxnId.{TxnId}
use Rattle.sg_catalog.specs.Catalog.{rows, there, is_there, is_tomb, is_tomb_of}
use Rattle.sg_catalog.specs.declared.row.Row.{Row}
use Rattle.sg_catalog.proofs.Lists.{found_passes}
use Rattle.sg_catalog.proofs.Maps.{there_named, there_object, not_tomb}
use Rattle.sg_contents.specs.Standing.{Body, Contents, IsAmong, is_at}
use Rattle.sg_contents.specs.Changes.{with_body}
use Rattle.sg_contents.specs.Meaning.{thing_of, thing_at, reading}
use Rattle.sg_contents.proofs.Among.{found_among, one_at}
use Rattle.sg_contents.proofs.Finding.{tomb_is}
use Rattle.sg_contents.proofs.Framing.{body_here, body_there}
use Rattle.sg_contents.proofs.Reading.{get_thing, get_tomb, tomb_of, tomb_in}

tag : (b : Bool) → b ≡ true → b ≡ false → ⊥
tag b e f = cc

-- an object's body turned
module _ (s : Contents) (row : Row) (b : Body) (once : (root : ℕ) → count_by (is_at root) (rows s.catalog) ≤ 1) (name : List ℕ) (found : there name (rows s.catalog) ≡ Some row) where
  abbrev pub now : Contents
  now = with_body row.root.0 b s

  among : IsAmong (rows s.catalog) row
  among = found_among (is_there name) (rows s.catalog) row found

  pub turned_thing : get (reading now).things name ≡ Some (thing_of row.root.0 b)
  turned_thing = get_thing now name ∙ (ap (option_map (thing_at now.body)) found ∙ ap (λ (c : Body). Some (thing_of row.root.0 c)) (body_here row.root.0 b s row.root.0 refl))

  same_thing : (o : Option Row) → ((x : Row) → o ≡ Some x → x.root.0 ≢ row.root.0) → option_map (thing_at now.body) o ≡ option_map (thing_at s.body) o
  same_thing None far = refl
  same_thing (Some x) far = ap (λ (c : Body). Some (thing_of x.root.0 c)) (body_there row.root.0 b s x.root.0 (far x refl))

  tomb_with : (x : Row) → now.body x.root.0 ≡ s.body x.root.0 → (d : Option TxnId) → tomb_of now.body x d ≡ tomb_of s.body x d
  tomb_with x e None = refl
  tomb_with x e (Some by) = ap (λ (c : Body). Some (record { dropper = by.0; thing = thing_of x.root.0 c })) e

  same_tomb : (o : Option Row) → ((x : Row) → o ≡ Some x → x.root.0 ≢ row.root.0) → option_and_then (tomb_in now.body) o ≡ option_and_then (tomb_in s.body) o
  same_tomb None far = refl
  same_tomb (Some x) far = tomb_with x (body_there row.root.0 b s x.root.0 (far x refl)) x.dropper

  -- under another name, and as a tombstone, another row is found
  far_thing : (other : List ℕ) → other ≢ name → (x : Row) → there other (rows s.catalog) ≡ Some x → x.root.0 ≢ row.root.0
  far_thing other ne x e same =
      let is : x ≡ row = one_at (rows s.catalog) x row once (found_among (is_there other) (rows s.catalog) x e) among same in
      ne (sym (there_named other (rows s.catalog) x e) ∙ (ap (λ (r : Row). r.name) is ∙ there_named name (rows s.catalog) row found))

  far_tomb : (root : ℕ) (other : List ℕ) (x : Row) → find (is_tomb_of other root) (rows s.catalog) ≡ Some x → x.root.0 ≢ row.root.0
  far_tomb root other x e same =
      let is : x ≡ row = one_at (rows s.catalog) x row once (found_among (is_tomb_of other root) (rows s.catalog) x e) among same in
      tag (is_tomb row) (ap is_tomb (sym is) ∙ tomb_is other root x (found_passes (is_tomb_of other root) (rows s.catalog) x e)) (not_tomb row (there_object name (rows s.catalog) row found))

  pub other_thing : (other : List ℕ) → other ≢ name → get (reading now).things other ≡ get (reading s).things other
  other_thing other ne = get_thing now other ∙ (same_thing (there other (rows s.catalog)) (far_thing other ne) ∙ sym (get_thing s other))

  pub other_tomb : (root : ℕ) (other : List ℕ) → get (reading now).tombs (root ∷ other) ≡ get (reading s).tombs (root ∷ other)
  other_tomb root other = get_tomb now root other ∙ (same_tomb (find (is_tomb_of other root) (rows s.catalog)) (far_tomb root other) ∙ sym (get_tomb s root other))

pub same_peak : (root : ℕ) (b : Body) (s : Contents) → (reading (with_body root b s)).peak ≡ (reading s).peak
unfolding reading
same_peak root b s = refl
