-- Undoing two steps of different names, in either order.
use Rattle.std.proofs.Common.{◌≡◌, ℕ, Bool, true, false, cond, List, [], ◌∷◌, ◌++◌, Option, Some, None, refl, sym, ap, ◌∙◌}
use Rattle.std.specs.Prelude.{◌==◌, ◌&&◌}
use Rattle.std.specs.Str.{bytes_eq}
use Rattle.std.specs.FinMap.{get}
use Rattle.sg_model.proofs.Parts.{get_put, get_del, bytes_same, bytes_self}
use Rattle.sg_recovery.specs.Laws.{Each}
use Rattle.sg_room.specs.Marks.{Mark, Grave, Marks, Kind, raised, undone}
use Rattle.sg_room.specs.Marks.Kind.{Stays, Made, Dropped, Reserves}
use Rattle.sg_room.specs.Steps.{Step, undone_all}
use Rattle.sg_room.specs.Most.{is_idle, ApartSteps}
use Rattle.sg_room.specs.Most.ApartSteps.{left_idle, right_idle, other_names}
use Rattle.sg_room.proofs.Slots.{same_marks}

abbrev pub lifted : Option Mark → Option Grave → Option Mark
lifted w None = w
lifted w (Some g) = Some g.mark

-- what stands under its name once a step is undone
abbrev pub live_new : Kind → Option Mark → (ℕ → Option Grave) → Option Mark
live_new Stays w graves = w
live_new Made w graves = None
live_new (Dropped r) w graves = lifted w (graves r)
live_new Reserves w graves = w

abbrev pub gone : Kind → List ℕ → List ℕ → Bool
gone Stays n q = false
gone Made n q = false
gone (Dropped r) n q = bytes_eq (r ∷ n) q
gone Reserves n q = false

same_here : (n q : List ℕ) (m : Marks) (b : Bool) → bytes_eq n q ≡ b → get m.live q ≡ cond b (get m.live n) (get m.live q)
same_here n q m true e = ap (get m.live) (sym (bytes_same n q e))
same_here n q m false e = refl

pub undone_live : (k : Kind) (n : List ℕ) (m : Marks) (q : List ℕ) → get (undone k n m).live q ≡ cond (bytes_eq n q) (live_new k (get m.live n) (λ r. get m.graves (r ∷ n))) (get m.live q)
undone_live Stays n m q = same_here n q m (bytes_eq n q) refl
undone_live Made n m q = get_del m.live n q
undone_live (Dropped r) n m q = go (get m.graves (r ∷ n))
  where
    go : (x : Option Grave) → get (raised r n x m).live q ≡ cond (bytes_eq n q) (lifted (get m.live n) x) (get m.live q)
    go None = same_here n q m (bytes_eq n q) refl
    go (Some g) = get_put m.live n g.mark q
undone_live Reserves n m q = same_here n q m (bytes_eq n q) refl

pub undone_graves : (k : Kind) (n : List ℕ) (m : Marks) (q : List ℕ) → get (undone k n m).graves q ≡ cond (gone k n q) None (get m.graves q)
undone_graves Stays n m q = refl
undone_graves Made n m q = refl
undone_graves (Dropped r) n m q = go (get m.graves (r ∷ n)) refl
  where
    none : get m.graves (r ∷ n) ≡ None → (b : Bool) → bytes_eq (r ∷ n) q ≡ b → get m.graves q ≡ cond b None (get m.graves q)
    none e true h = ap (get m.graves) (sym (bytes_same (r ∷ n) q h)) ∙ e
    none e false h = refl

    go : (x : Option Grave) → get m.graves (r ∷ n) ≡ x → get (raised r n x m).graves q ≡ cond (bytes_eq (r ∷ n) q) None (get m.graves q)
    go None e = none e (bytes_eq (r ∷ n) q) refl
    go (Some g) e = get_del m.graves (r ∷ n) q
undone_graves Reserves n m q = refl

pub undone_rows : (k : Kind) (n : List ℕ) (m : Marks) → (undone k n m).rows ≡ m.rows
undone_rows Stays n m = refl
undone_rows Made n m = refl
undone_rows (Dropped r) n m = go (get m.graves (r ∷ n))
  where
    go : (x : Option Grave) → (raised r n x m).rows ≡ m.rows
    go None = refl
    go (Some g) = refl
undone_rows Reserves n m = refl

and_false : (a b : Bool) → b ≡ false → (a && b) ≡ false
and_false true b e = e
and_false false b e = refl

-- a step of another name leaves it
gone_far : (k : Kind) (n p : List ℕ) (r : ℕ) → bytes_eq n p ≡ false → gone k n (r ∷ p) ≡ false
gone_far Stays n p r e = refl
gone_far Made n p r e = refl
gone_far (Dropped d) n p r e = and_false (d == r) (bytes_eq n p) e
gone_far Reserves n p r e = refl

far_live : (k : Kind) (n p : List ℕ) (m : Marks) → bytes_eq n p ≡ false → get (undone k n m).live p ≡ get m.live p
far_live k n p m e = undone_live k n m p ∙ ap (λ b. cond b (live_new k (get m.live n) (λ r. get m.graves (r ∷ n))) (get m.live p)) e

far_graves : (k : Kind) (n p : List ℕ) (m : Marks) (r : ℕ) → bytes_eq n p ≡ false → get (undone k n m).graves (r ∷ p) ≡ get m.graves (r ∷ p)
far_graves k n p m r e = undone_graves k n m (r ∷ p) ∙ ap (λ b. cond b None (get m.graves (r ∷ p))) (gone_far k n p r e)

swap_none : {A : Type 0} (a b : Bool) (x : Option A) → cond a None (cond b None x) ≡ cond b None (cond a None x)
swap_none true true x = refl
swap_none true false x = refl
swap_none false true x = refl
swap_none false false x = refl

swap_conds : {A : Type 0} (a b : Bool) (x y z : A) → (a ≡ true → b ≡ true → ⊥) → cond a x (cond b y z) ≡ cond b y (cond a x z)
swap_conds true true x y z h = absurd (h refl refl)
swap_conds true false x y z h = refl
swap_conds false true x y z h = refl
swap_conds false false x y z h = refl

pub turn : (n p : List ℕ) → bytes_eq n p ≡ false → bytes_eq p n ≡ false
turn n p e = go (bytes_eq p n) refl
  where
    no : (b : Bool) → b ≡ true → b ≡ false → ⊥
    no b e f = cc

    go : (b : Bool) → bytes_eq p n ≡ b → b ≡ false
    go true f = absurd (no (bytes_eq n p) (ap (bytes_eq n) (bytes_same p n f) ∙ bytes_self n) e)
    go false f = refl

not_both : (n p q : List ℕ) → bytes_eq n p ≡ false → bytes_eq n q ≡ true → bytes_eq p q ≡ true → ⊥
not_both n p q e f g = no (bytes_eq n p) (ap (bytes_eq n) (bytes_same p q g) ∙ f) e
  where
    no : (b : Bool) → b ≡ true → b ≡ false → ⊥
    no b e f = cc

abbrev here : Kind → List ℕ → Marks → Option Mark
here k n m = live_new k (get m.live n) (λ r. get m.graves (r ∷ n))

one : (k l : Kind) (n p : List ℕ) (m : Marks) (q : List ℕ) → bytes_eq p n ≡ false → get (undone k n (undone l p m)).live q ≡ cond (bytes_eq n q) (here k n m) (cond (bytes_eq p q) (here l p m) (get m.live q))
one k l n p m q f = undone_live k n (undone l p m) q
    ∙ ((λ i. cond (bytes_eq n q) (live_new k (far_live l p n m f i) (λ r. far_graves l p n m r f i)) (get (undone l p m).live q)) ∙ ap (cond (bytes_eq n q) (here k n m)) (undone_live l p m q))

pub commute : (k l : Kind) (n p : List ℕ) (m : Marks) → bytes_eq n p ≡ false → undone k n (undone l p m) ≡ undone l p (undone k n m)
commute k l n p m e = same_marks (undone k n (undone l p m)) (undone l p (undone k n m))
    (λ q. one k l n p m q (turn n p e) ∙ (swap_conds (bytes_eq n q) (bytes_eq p q) (here k n m) (here l p m) (get m.live q) (not_both n p q e) ∙ sym (one l k p n m q e)))
    (λ q. undone_graves k n (undone l p m) q ∙ (ap (cond (gone k n q) None) (undone_graves l p m q) ∙ (swap_none (gone k n q) (gone l p q) (get m.graves q)
    ∙ (ap (cond (gone l p q) None) (sym (undone_graves k n m q)) ∙ sym (undone_graves l p (undone k n m) q)))))
    (undone_rows k n (undone l p m) ∙ (undone_rows l p m ∙ (sym (undone_rows k n m) ∙ sym (undone_rows l p (undone k n m)))))

idle : (k : Kind) (n : List ℕ) (m : Marks) → is_idle k ≡ true → undone k n m ≡ m
idle Stays n m e = refl
idle Made n m e = absurd (cc)
idle (Dropped r) n m e = absurd (cc)
idle Reserves n m e = refl

swap_steps : (s u : Step) (m : Marks) → ApartSteps s u → undone s.kind s.name (undone u.kind u.name m) ≡ undone u.kind u.name (undone s.kind s.name m)
swap_steps s u m (left_idle e) = idle s.kind s.name (undone u.kind u.name m) e ∙ ap (undone u.kind u.name) (sym (idle s.kind s.name m e))
swap_steps s u m (right_idle e) = ap (undone s.kind s.name) (idle u.kind u.name m e) ∙ sym (idle u.kind u.name (undone s.kind s.name m) e)
swap_steps s u m (other_names e) = commute s.kind u.kind s.name u.name m e

-- A STEP MAY BE UNDONE BEFORE LATER ONES OF OTHERS
pub first_undone : (ls rs : List Step) (s : Step) (m : Marks) → Each (ApartSteps s) ls → undone_all (ls ++ s ∷ rs) m ≡ undone_all (ls ++ rs) (undone s.kind s.name m)
first_undone [] rs s m h = refl
first_undone (l ∷ ls) rs s m h = first_undone ls rs s (undone l.kind l.name m) h.1 ∙ ap (undone_all (ls ++ rs)) (swap_steps s l m h.0)
