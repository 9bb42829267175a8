-- What a commit takes of the marks of what pages read as.
use Rattle.std.proofs.Common.{◌≡◌, ℕ, ◌==◌, Bool, true, false, not, cond, List, [], ◌∷◌, Option, Some, None, refl, sym, ap, ◌∙◌}
use Rattle.std.specs.Ordering.{nat_cmp}
use Rattle.std.specs.Cmp.Lexicographic.{slice_cmp}
use Rattle.std.specs.FinMap.{get, from_entries, get-empty}
use Rattle.std.specs.Str.{bytes_eq}
use Rattle.sg_base.specs.declared.numbers.TxnId.{TxnId}
use Rattle.sg_catalog.specs.Catalog.{rows}
use Rattle.sg_catalog.specs.declared.row.Row.{Row}
use Rattle.sg_serial.specs.Locks.{Touch}
use Rattle.sg_model.specs.Touches.{Resource}
use Rattle.sg_recovery.proofs.Basic.{number_is, same_number}
use Rattle.sg_model.proofs.Parts.{get_put, bytes_same, bytes_self}
use Rattle.sg_reading.specs.Reading.{Thing, Tomb, Reading}
use Rattle.sg_reading.specs.Left.{tomb_cell}
use Rattle.sg_before.specs.Forgot.{Forgets}
use Rattle.sg_contents.specs.Standing.{Body, Contents}
use Rattle.sg_contents.specs.Meaning.{reading, tomb_at, if_tomb, tombs_of}
use Rattle.sg_room.specs.Marks.{Grave, mark_of, grave_of, marks_of, NamesRoots, isnt_of, freed}
use Rattle.sg_room.proofs.Maps.{opt, get_mapped}
use Rattle.sg_room.proofs.Slots.{same_marks}
use Rattle.sg_room.proofs.Freed.{get_freed}
use Rattle.sg_ground.specs.Ground.{IsBuried}

-- no tombstone of contents stands under nothing
add_tomb : (body : ℕ → Body) (row : Row) (d : Option TxnId) (es : List (List ℕ × Tomb)) → get (from_entries {R = slice_cmp nat_cmp} es) [] ≡ None → get (from_entries {R = slice_cmp nat_cmp} (if_tomb (λ (by : TxnId). (row.root.0 ∷ row.name, tomb_at body by row)) d es)) [] ≡ None
add_tomb body row None es h = h
add_tomb body row (Some by) es h = get_put (from_entries {R = slice_cmp nat_cmp} es) (row.root.0 ∷ row.name) (tomb_at body by row) [] ∙ h

none_among : (body : ℕ → Body) (xs : List Row) → get (from_entries {R = slice_cmp nat_cmp} (tombs_of body xs)) [] ≡ None
none_among body [] = get-empty (slice_cmp nat_cmp) []
none_among body (row ∷ xs) = add_tomb body row row.dropper (tombs_of body xs) (none_among body xs)

pub no_empty : (s : Contents) → get (reading s).tombs [] ≡ None
unfolding reading
no_empty s = none_among s.body (rows s.catalog)

pub not_both : (b : Bool) → b ≡ true → b ≡ false → ⊥
not_both b e f = cc

-- what a commit of this transaction leaves of a tombstone
abbrev left_of : ℕ → Option Tomb → Option Grave
left_of u d = cond (isnt_of u (opt grave_of d)) (opt grave_of d) None

-- where nothing of it is buried, it takes nothing
pub unfreed : (o : Reading) → NamesRoots o → (u : ℕ) → ((f : List (Touch Resource)) → IsBuried o u f → ⊥) → freed u (marks_of o) ≡ marks_of o
unfreed o names u none = same_marks (freed u (marks_of o)) (marks_of o) (λ q. refl)
    (λ q. get_freed u (marks_of o) q ∙ (ap (λ x. cond (isnt_of u x) x None) (get_mapped grave_of o.tombs q)
    ∙ (at q (get o.tombs q) refl ∙ sym (get_mapped grave_of o.tombs q)))) refl
  where
    one : (r : ℕ) (name : List ℕ) (d : Tomb) → get o.tombs (r ∷ name) ≡ Some d → (b : Bool) → (d.dropper == u) ≡ b
        → cond (not b) (Some (grave_of d)) None ≡ Some (grave_of d)
    one r name d e true is = absurd (none (tomb_cell name r) (record { root = r; name = name; tomb = d; there = e; dropper = number_is d.dropper u is; cell = refl }))
    one r name d e false is = refl

    at : (q : List ℕ) (d : Option Tomb) → get o.tombs q ≡ d → left_of u d ≡ opt grave_of d
    at q None e = refl
    at [] (Some d) e = absurd (let z : ◌≡◌ {A = Option Tomb} None (Some d) = sym names ∙ e in cc)
    at (r ∷ name) (Some d) e = ap (λ b. cond (not b) (Some (grave_of d)) None) refl ∙ one r name d e (d.dropper == u) refl

-- a tombstone of its own that is forgotten it would have taken
pub forgot_freed : (name : List ℕ) (root : ℕ) (old new : Reading) (tomb : Tomb) → NamesRoots old → NamesRoots new → get old.tombs (root ∷ name) ≡ Some tomb
    → Forgets name root old new → freed tomb.dropper (marks_of new) ≡ freed tomb.dropper (marks_of old)
forgot_freed name root old new tomb names names' there f = same_marks (freed tomb.dropper (marks_of new)) (freed tomb.dropper (marks_of old))
    (λ q. get_mapped mark_of new.things q ∙ (ap (opt mark_of) (f.things q) ∙ sym (get_mapped mark_of old.things q)))
    (λ q. get_freed tomb.dropper (marks_of new) q ∙ (ap (λ x. cond (isnt_of tomb.dropper x) x None) (get_mapped grave_of new.tombs q)
    ∙ (at q ∙ (ap (λ x. cond (isnt_of tomb.dropper x) x None) (sym (get_mapped grave_of old.tombs q)) ∙ sym (get_freed tomb.dropper (marks_of old) q)))))
    f.peak
  where
    taken : left_of tomb.dropper (Some tomb) ≡ None
    taken = ap (λ b. cond (not b) (Some (grave_of tomb)) None) (same_number tomb.dropper)

    at : (q : List ℕ) → left_of tomb.dropper (get new.tombs q) ≡ left_of tomb.dropper (get old.tombs q)
    at [] = ap (left_of tomb.dropper) (names' ∙ sym names)
    at (r ∷ other) = by (bytes_eq (root ∷ name) (r ∷ other)) refl
      where
        by : (b : Bool) → bytes_eq (root ∷ name) (r ∷ other) ≡ b → left_of tomb.dropper (get new.tombs (r ∷ other)) ≡ left_of tomb.dropper (get old.tombs (r ∷ other))
        by true e = ap (λ q. left_of tomb.dropper (get new.tombs q)) (sym (bytes_same (root ∷ name) (r ∷ other) e))
            ∙ (ap (left_of tomb.dropper) f.gone ∙ (sym taken ∙ (ap (left_of tomb.dropper) (sym there)
            ∙ ap (λ q. left_of tomb.dropper (get old.tombs q)) (bytes_same (root ∷ name) (r ∷ other) e))))
        by false e = ap (left_of tomb.dropper) (f.tombs r other (λ same. not_both (bytes_eq (root ∷ name) (r ∷ other))
            ((λ i. bytes_eq (root ∷ name) (same.0 i ∷ same.1 i)) ∙ bytes_self (root ∷ name)) e))
