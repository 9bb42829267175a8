-- Readings by the slots of their names.
use Rattle.std.proofs.Common.{◌≡◌, ℕ, Bool, true, false, cond, List, [], ◌∷◌, map, Option, Some, None, refl, sym, ap, ◌∙◌}
use Rattle.std.specs.Prelude.{◌==◌, ◌&&◌}
use Rattle.std.specs.Str.{bytes_eq}
use Rattle.std.specs.Ordering.{nat_cmp, eq_by_cmp}
use Rattle.std.specs.Cmp.Lexicographic.{slice_cmp, nat_list_cmp_total}
use Rattle.std.specs.FinMap.{get, entries, find, get-entries, get-from_entries}
use Rattle.sg_model.specs.Objects.{Object}
use Rattle.sg_model.specs.Touches.{Cell, cell, seen}
use Rattle.sg_model.proofs.Parts.{get_put, get_del, bytes_same}
use Rattle.sg_reading.specs.Reading.{Thing, Tomb, Reading, object_of, plain, plain_entry, objects, slot, at}
use Rattle.sg_reading.specs.Back.{with_thing, without_tomb}
use Rattle.sg_reading.proofs.Notes.{is_raised, after}

-- the objects of a reading

plain_cond : (b : Bool) (th : Thing) (r : Option Thing) (m : Option Object) → m ≡ plain r → cond b (Some (object_of th)) m ≡ plain (cond b (Some th) r)
plain_cond true th r m e = refl
plain_cond false th r m e = e

find_plain : (q : List ℕ) (es : List (List ℕ × Thing)) → find (slice_cmp nat_cmp) q (map plain_entry es) ≡ plain (find (slice_cmp nat_cmp) q es)
find_plain q [] = refl
find_plain q (e ∷ es) = plain_cond (eq_by_cmp (slice_cmp nat_cmp) q e.0) e.1 (find (slice_cmp nat_cmp) q es) (find (slice_cmp nat_cmp) q (map plain_entry es)) (find_plain q es)

pub get_objects : (o : Reading) (n : List ℕ) → get (objects o) n ≡ plain (slot o n).thing
unfolding objects
get_objects o n = get-from_entries nat_list_cmp_total (map plain_entry (entries o.things)) n ∙ (find_plain n (entries o.things) ∙ sym (ap plain (get-entries o.things n)))

pub cell_shown : (o : Reading) (c : Cell) → cell (objects o) c ≡ (at o c).value
cell_shown o c = ap (λ x. seen x c.part) (get_objects o c.name)

-- one slot changed

pub get_thing : (o : Reading) (n : List ℕ) (th : Option Thing) (m : List ℕ) → get (with_thing o n th).things m ≡ cond (bytes_eq n m) th (get o.things m)
get_thing o n None m = get_del o.things n m
get_thing o n (Some th) m = get_put o.things n th m

pub thing_tombs : (o : Reading) (n : List ℕ) (th : Option Thing) → (with_thing o n th).tombs ≡ o.tombs
thing_tombs o n None = refl
thing_tombs o n (Some th) = refl

pub tomb_things : (o : Reading) (n : List ℕ) (d : Option ℕ) → (without_tomb o n d).things ≡ o.things
tomb_things o n None = refl
tomb_things o n (Some r) = refl

pub get_tomb : (o : Reading) (n : List ℕ) (d : Option ℕ) (m : List ℕ) (r : ℕ) → get (without_tomb o n d).tombs (r ∷ m) ≡ cond (bytes_eq n m) (cond (is_raised d r) None (get o.tombs (r ∷ m))) (get o.tombs (r ∷ m))
get_tomb o n None m r = same (bytes_eq n m) (get o.tombs (r ∷ m))
  where
    same : (b : Bool) (x : Option Tomb) → x ≡ cond b x x
    same true x = refl
    same false x = refl
get_tomb o n (Some q) m r = get_del o.tombs (q ∷ n) (r ∷ m) ∙ apart (q == r) (bytes_eq n m) (get o.tombs (r ∷ m))
  where
    apart : (a b : Bool) (x : Option Tomb) → cond (a && b) None x ≡ cond b (cond a None x) x
    apart true true x = refl
    apart true false x = refl
    apart false true x = refl
    apart false false x = refl

now_thing : (o : Reading) (n : List ℕ) (d : Option ℕ) (th : Option Thing) (m : List ℕ) → get (with_thing (without_tomb o n d) n th).things m ≡ cond (bytes_eq n m) th (get o.things m)
now_thing o n d th m = get_thing (without_tomb o n d) n th m ∙ ap (λ x. cond (bytes_eq n m) th (get x m)) (tomb_things o n d)

now_tomb : (o : Reading) (n : List ℕ) (d : Option ℕ) (th : Option Thing) (m : List ℕ) (r : ℕ)
    → get (with_thing (without_tomb o n d) n th).tombs (r ∷ m) ≡ cond (bytes_eq n m) (cond (is_raised d r) None (get o.tombs (r ∷ m))) (get o.tombs (r ∷ m))
now_tomb o n d th m r = ap (λ x. get x (r ∷ m)) (thing_tombs (without_tomb o n d) n th) ∙ get_tomb o n d m r

pub slot_put : (o : Reading) (n : List ℕ) (d : Option ℕ) (th : Option Thing) (m : List ℕ) → slot (with_thing (without_tomb o n d) n th) m ≡ cond (bytes_eq n m) (after d (slot o n) th) (slot o m)
slot_put o n d th m = go (bytes_eq n m) refl
  where
    go : (b : Bool) → bytes_eq n m ≡ b → slot (with_thing (without_tomb o n d) n th) m ≡ cond b (after d (slot o n) th) (slot o m)
    go true e = λ i. record {
      thing = (now_thing o n d th m ∙ ap (λ b. cond b th (get o.things m)) e) i;
      buried = λ r. (now_tomb o n d th m r ∙ (ap (λ b. cond b (cond (is_raised d r) None (get o.tombs (r ∷ m))) (get o.tombs (r ∷ m))) e ∙ ap (λ k. cond (is_raised d r) None (get o.tombs (r ∷ k))) (sym (bytes_same n m e)))) i;
    }
    go false e = λ i. record {
      thing = (now_thing o n d th m ∙ ap (λ b. cond b th (get o.things m)) e) i;
      buried = λ r. (now_tomb o n d th m r ∙ ap (λ b. cond b (cond (is_raised d r) None (get o.tombs (r ∷ m))) (get o.tombs (r ∷ m))) e) i;
    }

-- a tombstone gone
pub slot_tomb : (o : Reading) (n : List ℕ) (d : Option ℕ) (m : List ℕ) → slot (without_tomb o n d) m ≡ cond (bytes_eq n m) (after d (slot o n) (slot o n).thing) (slot o m)
slot_tomb o n d m = go (bytes_eq n m) refl
  where
    go : (b : Bool) → bytes_eq n m ≡ b → slot (without_tomb o n d) m ≡ cond b (after d (slot o n) (slot o n).thing) (slot o m)
    go true e = λ i. record {
      thing = (ap (λ x. get x m) (tomb_things o n d) ∙ ap (λ k. get o.things k) (sym (bytes_same n m e))) i;
      buried = λ r. (get_tomb o n d m r ∙ (ap (λ b. cond b (cond (is_raised d r) None (get o.tombs (r ∷ m))) (get o.tombs (r ∷ m))) e ∙ ap (λ k. cond (is_raised d r) None (get o.tombs (r ∷ k))) (sym (bytes_same n m e)))) i;
    }
    go false e = λ i. record {
      thing = ap (λ x. get x m) (tomb_things o n d) i;
      buried = λ r. (get_tomb o n d m r ∙ ap (λ b. cond b (cond (is_raised d r) None (get o.tombs (r ∷ m))) (get o.tombs (r ∷ m))) e) i;
    }
