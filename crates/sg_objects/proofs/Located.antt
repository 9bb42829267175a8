-- The body under a name.
use Rattle.std.proofs.Common.{◌≡◌, ℕ, max, length, List, ◌∷◌, Option, Some, option_map, refl, sym, ap, ◌∙◌, subst, arith}
use Rattle.std.specs.FinMap.{get}
use Rattle.sg_array.specs.Array.{Array, IsArray}
use Rattle.sg_array.specs.Calls as array
use Rattle.std.proofs.lemmas.Bool.Decides.{nat_tests}
use Rattle.sg_base.specs.Sheet.{Sheet}
use Rattle.sg_catalog.specs.Catalog.{Catalog, IsCatalog, rows, is_there}
use Rattle.sg_catalog.specs.declared.row.ObjectKind.{ObjectKind}
use Rattle.sg_catalog.specs.declared.row.ObjectKind.TheVariants as kinds
use Rattle.sg_space.specs.View.{View, Space, OnlyReads}
use Rattle.sg_space.proofs.Known.{still}
use Rattle.sg_reading.specs.Reading.{Thing, Tomb}
use Rattle.sg_contents.specs.Standing.{Body, Contents, Holds, IsContents, IsBody, IsAmong, map_bands}
use Rattle.sg_contents.specs.Standing.Body.{AnArray, ATable, ABlob}
use Rattle.sg_contents.specs.Changes.{with_body, BodyTurns}
use Rattle.sg_contents.specs.Meaning.{thing_of, thing_at, reading, IsCounted}
use Rattle.sg_contents.proofs.Among.{found_among}
use Rattle.sg_contents.proofs.Counted.{counted_turned}
use Rattle.sg_contents.proofs.Standing.{nothing_owned}
use Rattle.sg_contents.proofs.Framing.{body_turned, map_same}
use Rattle.sg_contents.proofs.Reading.{get_thing}
use Rattle.sg_contents.proofs.After.{turned_thing, other_thing, other_tomb}
use Rattle.sg_objects.specs.Done.{Leaves}
use Rattle.sg_objects.specs.Found.{IsAt, IsArrayAt}
use Rattle.sg_objects.specs.declared.find.ArrayAt.{ArrayAt}

-- contents that stand after reads
abbrev pub Stands : Contents → Space → Type 0
Stands s space = IsContents space s

pub still_contents : {v w : View} {s : Contents} → OnlyReads v w → v.Shows → Stands s v.space → Stands s w.space
still_contents {s = s} k shows h = still (Stands s) k shows h

-- the row is among the rows
pub at_among : {kind : ObjectKind} {s : Contents} {name : List ℕ} {root : ℕ} (f : IsAt kind s name root) → IsAmong (rows s.catalog) f.row
at_among {s = s} {name = name} f = found_among (is_there name) (rows s.catalog) f.row f.found

-- its body stands there
pub body_at : {space : Space} {kind : ObjectKind} {s : Contents} {name : List ℕ} {root : ℕ} → IsContents space s → IsAt kind s name root → IsBody space kind root (s.body root)
body_at {space} {kind} {s} {name} {root} h f =
    subst (λ (r : ℕ). IsBody space kind r (s.body r)) f.root_is
    (subst (λ (k : ObjectKind). IsBody space k (f.row).root.0 (s.body (f.row).root.0)) f.kind_is (h.body f.row (at_among f)))

-- what the reading has under the name
pub thing_under : {kind : ObjectKind} {s : Contents} {name : List ℕ} {root : ℕ} → IsAt kind s name root → get (reading s).things name ≡ Some (thing_of root (s.body root))
thing_under {kind} {s} {name} {root} f = get_thing s name ∙ (ap (option_map (thing_at s.body)) f.found ∙ ap (λ (r : ℕ). Some (thing_of r (s.body r))) f.root_is)

-- where that body turns, all else stands as it did
pub body_changes : {old new : Space} {kind : ObjectKind} {s : Contents} {name : List ℕ} {root : ℕ} (b' : Body) → IsContents old s → IsAt kind s name root → BodyTurns old new kind root (s.body root) b' → IsContents new (with_body root b' s)
body_changes {old} {new} {kind} {s} {name} {root} b' h f t =
    let first : BodyTurns old new (f.row).kind root (s.body root) b' = subst (λ (k : ObjectKind). BodyTurns old new k root (s.body root) b') (sym f.kind_is) t in
    let here : BodyTurns old new (f.row).kind (f.row).root.0 (s.body (f.row).root.0) b' = subst (λ (r : ℕ). BodyTurns old new (f.row).kind r (s.body r) b') (sym f.root_is) first in
    let all : Holds (map_bands old) new (with_body (f.row).root.0 b' s) (rows s.catalog) = body_turned f.row (at_among f) b' h here in
    subst (λ (k : ℕ). Holds k new (with_body root b' s) (rows s.catalog)) (sym (map_same old new (t.pages).all (t.bands).all))
    (subst (λ (r : ℕ). Holds (map_bands old) new (with_body r b' s) (rows s.catalog)) f.root_is all)

-- and what isn't free is still what the contents have
pub body_counted : {old new : Space} {kind : ObjectKind} {s : Contents} {name : List ℕ} {root : ℕ} (b' : Body) → IsContents old s → IsAt kind s name root → BodyTurns old new kind root (s.body root) b' → IsCounted old s → IsCounted new (with_body root b' s)
body_counted {old} {new} {kind} {s} {name} {root} b' h f t c =
    let first : BodyTurns old new (f.row).kind root (s.body root) b' = subst (λ (k : ObjectKind). BodyTurns old new k root (s.body root) b') (sym f.kind_is) t in
    let here : BodyTurns old new (f.row).kind (f.row).root.0 (s.body (f.row).root.0) b' = subst (λ (r : ℕ). BodyTurns old new (f.row).kind r (s.body r) b') (sym f.root_is) first in
    subst (λ (r : ℕ). IsCounted new (with_body r b' s)) f.root_is (counted_turned f.row b' (at_among f) h.once c here)

-- a catalogue's peak is no less than its rows
pub peak_kept : {at : ℕ → Option Sheet} {c : Catalog} → IsCatalog at c → c.peak ≡ max c.peak (length (rows c))
peak_kept h = let below = h.below_peak in grind (arith, nat_tests)

-- and reads as it did, but for what is under the name
pub body_leaves : {space : Space} {kind : ObjectKind} {s : Contents} {name : List ℕ} {root : ℕ} (b' : Body) (thing : Option Thing) (buried : ℕ → Option Tomb) → IsContents space s → (f : IsAt kind s name root) → thing ≡ Some (thing_of root b') → ((r : ℕ) → buried r ≡ get (reading s).tombs (r ∷ name)) → Leaves name thing buried (reading s) (reading (with_body root b' s))
body_leaves {space} {kind} {s} {name} {root} b' thing buried h f is same =
    subst (λ (r : ℕ). Leaves name thing buried (reading s) (reading (with_body r b' s))) f.root_is (record {
      thing = turned_thing s f.row b' h.once name f.found ∙ (ap (λ (r : ℕ). Some (thing_of r b')) f.root_is ∙ sym is);
      things = other_thing s f.row b' h.once name f.found;
      tomb = λ r. other_tomb s f.row b' h.once name f.found r name ∙ sym (same r);
      tombs = λ r other ne. other_tomb s f.row b' h.once name f.found r other;
    })

-- ARRAYS
pub array_at : {space : Space} {s : Contents} {name : List ℕ} {x : ArrayAt} → IsContents space s → (f : IsArrayAt name s x) → IsArray space.pages.at x.root.0 f.array
array_at {space} {s} {name} {x} h f = subst (λ (b : Body). IsBody space kinds.Array x.root.0 b) f.body_is (body_at h f.at)

pub array_body : (space : Space) (root : ℕ) (b : Body) → IsBody space kinds.Array root b → (a : Array) × (b ≡ AnArray a) × IsArray space.pages.at root a
array_body space root (AnArray a) h = (a, refl, h)
array_body space root (ATable t) h = absurd h
array_body space root (ABlob b) h = absurd h

pub array_turns : {old new : Space} {root : ℕ} {a a' : Array} → array.Turns old new root a a' → BodyTurns old new kinds.Array root (AnArray a) (AnArray a')
array_turns t = record { body = t.array; pages = t.pages; bands = nothing_owned t.bands }

pub array_changes : {old new : Space} {s : Contents} {name : List ℕ} {x : ArrayAt} {a' : Array} → IsContents old s → (f : IsArrayAt name s x) → array.Turns old new x.root.0 f.array a' → IsContents new (with_body x.root.0 (AnArray a') s)
array_changes {old} {new} {s} {name} {x} {a'} h f t = body_changes (AnArray a') h f.at (subst (λ (b : Body). BodyTurns old new kinds.Array x.root.0 b (AnArray a')) (sym f.body_is) (array_turns t))

pub array_under : {s : Contents} {name : List ℕ} {x : ArrayAt} (f : IsArrayAt name s x) → get (reading s).things name ≡ Some (thing_of x.root.0 (AnArray f.array))
array_under {s} {name} {x} f = thing_under f.at ∙ ap (λ (b : Body). Some (thing_of x.root.0 b)) f.body_is
