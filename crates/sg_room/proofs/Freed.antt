-- The freeing of a transaction's tombstones changes nothing of what the others' steps give back.
use Rattle.std.proofs.Common.{◌≡◌, ℕ, Bool, true, false, cond, List, [], ◌∷◌, Option, Some, None, refl, sym, ap, ◌∙◌, subst}
use Rattle.std.specs.Str.{bytes_eq}
use Rattle.std.specs.FinMap.{get, get-retain_keys}
use Rattle.sg_model.proofs.Parts.{exact, get_del}
use Rattle.sg_room.specs.Marks.{Grave, Marks, Kind, isnt_of, freed, raised, undone}
use Rattle.sg_room.specs.Marks.Kind.{Stays, Made, Dropped, Reserves}
use Rattle.sg_room.specs.Steps.{Step, undone_all}
use Rattle.sg_room.specs.Most.{Spares}
use Rattle.sg_room.proofs.Slots.{same_marks}
use Rattle.sg_room.proofs.Apart.{gone, undone_graves}

pub get_freed : (t : ℕ) (m : Marks) (q : List ℕ) → get (freed t m).graves q ≡ cond (isnt_of t (get m.graves q)) (get m.graves q) None
get_freed t m q = get-retain_keys m.graves (λ k. isnt_of t (get m.graves k)) q (λ k e. ap (λ k. isnt_of t (get m.graves k)) (sym (exact q k e)))

taken : (t : ℕ) (b : Bool) (x : Option Grave) → cond b None (cond (isnt_of t x) x None) ≡ cond (isnt_of t (cond b None x)) (cond b None x) None
taken t true x = refl
taken t false x = refl

dropped_freed : (t r : ℕ) (n : List ℕ) (m : Marks) → isnt_of t (get m.graves (r ∷ n)) ≡ true → undone (Dropped r) n (freed t m) ≡ freed t (undone (Dropped r) n m)
dropped_freed t r n m h = ap (λ x. raised r n x (freed t m)) (get_freed t m (r ∷ n) ∙ ap (λ b. cond b (get m.graves (r ∷ n)) None) h) ∙ go (get m.graves (r ∷ n))
  where
    go : (x : Option Grave) → raised r n x (freed t m) ≡ freed t (raised r n x m)
    go None = refl
    go (Some g) = same_marks (raised r n (Some g) (freed t m)) (freed t (raised r n (Some g) m)) (λ q. refl)
        (λ q. get_del (freed t m).graves (r ∷ n) q ∙ (ap (cond (bytes_eq (r ∷ n) q) None) (get_freed t m q) ∙ (taken t (bytes_eq (r ∷ n) q) (get m.graves q)
        ∙ (ap (λ x. cond (isnt_of t x) x None) (sym (get_del m.graves (r ∷ n) q)) ∙ sym (get_freed t (raised r n (Some g) m) q)))))
        refl

one_freed : (t : ℕ) (k : Kind) (n : List ℕ) (m : Marks) → ((r : ℕ) → k ≡ Dropped r → isnt_of t (get m.graves (r ∷ n)) ≡ true) → undone k n (freed t m) ≡ freed t (undone k n m)
one_freed t Stays n m h = refl
one_freed t Made n m h = refl
one_freed t (Dropped r) n m h = dropped_freed t r n m (h r refl)
one_freed t Reserves n m h = refl

still : (t : ℕ) (b : Bool) (x : Option Grave) → isnt_of t x ≡ true → isnt_of t (cond b None x) ≡ true
still t true x h = refl
still t false x h = h

spares_on : (t : ℕ) (k : Kind) (n : List ℕ) (ss : List Step) (m : Marks) → Spares t ss m → Spares t ss (undone k n m)
spares_on t k n [] m h = tt
spares_on t k n (s ∷ ss) m h = ((λ r e. subst (λ x. isnt_of t x ≡ true) (sym (undone_graves k n m (r ∷ s.name))) (still t (gone k n (r ∷ s.name)) (get m.graves (r ∷ s.name)) (h.0 r e))), spares_on t k n ss m h.1)

-- WITH THEM FREED, WHAT A CRASH LEAVES has the same objects and peaks
pub all_freed : (t : ℕ) (ss : List Step) (m : Marks) → Spares t ss m → undone_all ss (freed t m) ≡ freed t (undone_all ss m)
all_freed t [] m h = refl
all_freed t (s ∷ ss) m h = ap (undone_all ss) (one_freed t s.kind s.name m h.0) ∙ all_freed t ss (undone s.kind s.name m) (spares_on t s.kind s.name ss m h.1)
