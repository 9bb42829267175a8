-- Peaks don't fall: what a crash would leave has peaks no greater than what it would leave later.
use Rattle.std.proofs.Common.{◌≡◌, ℕ, Bool, true, false, cond, List, [], ◌∷◌, ◌++◌, Option, Some, None, refl, sym, ap, ◌∙◌, subst, arith}
use Rattle.std.specs.Prelude.{◌≤◌, is_ok}
use Rattle.std.proofs.Common.{inl, inr}
use Rattle.std.specs.Str.{bytes_eq}
use Rattle.std.specs.FinMap.{get}
use Rattle.sg_ops.specs.Table.{Table as Operations}
use Rattle.sg_model.specs.Objects.{Row, Entries, Object}
use Rattle.sg_model.specs.Objects.Object.{Array, Table, Blob}
use Rattle.sg_model.specs.Verb.{Verb, Outcome}
use Rattle.sg_model.specs.Verb.Verb.{MakeArray, MakeTable, MakeBlob, Discard, Push, Pop, Set, Get, Len, Apply, Put, Del, Find, Keys, Write, Read, Size, Paint}
use Rattle.sg_model.specs.Step.{on, on_array, on_table, on_blob}
use Rattle.sg_model.proofs.Parts.{get_put, bytes_same, bytes_self}
use Rattle.sg_reading.specs.Did.{risen}
use Rattle.sg_room.specs.Marks.{Mark, Grave, Marks, form_of, marked, with_mark, with_grave, counted, marks_after, Kind, kind_by, if_there, undone}
use Rattle.sg_room.specs.Marks.Kind.{Stays, Made, Dropped, Reserves}
use Rattle.sg_room.specs.Steps.{Step, RunStock, undone_all, did}
use Rattle.sg_room.specs.Lines.{settled_marks}
use Rattle.sg_room.specs.Most.{MarkLe, GraveLe, AreAtMost, Stands, is_idle, BothThere, FreeRoot, Leads}
use Rattle.sg_room.specs.Most.MarkLe.{no_marks, marks}
use Rattle.sg_room.specs.Most.GraveLe.{no_graves, graves}
use Rattle.sg_room.specs.Most.BothThere.{nothing, both}
use Rattle.sg_room.specs.Most.Leads.{here, does, undoes}
use Rattle.sg_reading.proofs.Notes.{some_one}
use Rattle.sg_room.proofs.Slots.{get_with_mark, mark_graves, mark_rows, grave_live, grave_rows}
use Rattle.sg_room.proofs.Apart.{lifted, live_new, gone, undone_live, undone_graves, undone_rows, first_undone}

mark_self : (w : Option Mark) → MarkLe w w
mark_self None = no_marks
mark_self (Some w) = marks (omega arith)

grave_self : (w : Option Grave) → GraveLe w w
grave_self None = no_graves
grave_self (Some w) = graves (omega arith)

mark_trans : (a b c : Option Mark) → MarkLe a b → MarkLe b c → MarkLe a c
mark_trans a b c no_marks no_marks = no_marks
mark_trans a b c (marks p) (marks q) = marks (omega (arith, p, q))

grave_trans : (a b c : Option Grave) → GraveLe a b → GraveLe b c → GraveLe a c
grave_trans a b c no_graves no_graves = no_graves
grave_trans a b c (graves p) (graves q) = graves (omega (arith, p, q))

pub at_most_self : (m : Marks) → AreAtMost m m
at_most_self m = record { live = λ q. mark_self (get m.live q); graves = λ q. grave_self (get m.graves q); rows = omega arith }

pub at_most_trans : (a b c : Marks) → AreAtMost a b → AreAtMost b c → AreAtMost a c
at_most_trans a b c h k = record { live = λ q. mark_trans (get a.live q) (get b.live q) (get c.live q) (h.live q) (k.live q); graves = λ q. grave_trans (get a.graves q) (get b.graves q) (get c.graves q) (h.graves q) (k.graves q); rows = let x = h.rows in let y = k.rows in omega (arith, x, y) }

mark_by : (a b c d : Option Mark) → a ≡ b → c ≡ d → MarkLe b d → MarkLe a c
mark_by a b c d e f h = subst (λ x. MarkLe x c) (sym e) (subst (λ y. MarkLe b y) (sym f) h)

grave_by : (a b c d : Option Grave) → a ≡ b → c ≡ d → GraveLe b d → GraveLe a c
grave_by a b c d e f h = subst (λ x. GraveLe x c) (sym e) (subst (λ y. GraveLe b y) (sym f) h)

mark_cond : (b : Bool) (x y z w : Option Mark) → MarkLe x y → MarkLe z w → MarkLe (cond b x z) (cond b y w)
mark_cond true x y z w h k = h
mark_cond false x y z w h k = k

grave_cond : (b : Bool) (z w : Option Grave) → GraveLe z w → GraveLe (cond b None z) (cond b None w)
grave_cond true z w k = no_graves
grave_cond false z w k = k

lifted_le : (w v : Option Mark) (x y : Option Grave) → MarkLe w v → GraveLe x y → MarkLe (lifted w x) (lifted v y)
lifted_le w v x y h no_graves = h
lifted_le w v x y h (graves p) = marks p

new_le : (k : Kind) (w v : Option Mark) (x y : ℕ → Option Grave) → MarkLe w v → ((r : ℕ) → GraveLe (x r) (y r)) → MarkLe (live_new k w x) (live_new k v y)
new_le Stays w v x y h g = h
new_le Made w v x y h g = no_marks
new_le (Dropped r) w v x y h g = lifted_le w v (x r) (y r) h (g r)
new_le Reserves w v x y h g = h

-- the undoing of a step keeps it
pub undone_le : (k : Kind) (n : List ℕ) (a b : Marks) → AreAtMost a b → AreAtMost (undone k n a) (undone k n b)
undone_le k n a b h = record {
  live = λ q. mark_by (get (undone k n a).live q) (cond (bytes_eq n q) (live_new k (get a.live n) (λ r. get a.graves (r ∷ n))) (get a.live q)) (get (undone k n b).live q) (cond (bytes_eq n q) (live_new k (get b.live n) (λ r. get b.graves (r ∷ n))) (get b.live q))
      (undone_live k n a q) (undone_live k n b q)
      (mark_cond (bytes_eq n q) (live_new k (get a.live n) (λ r. get a.graves (r ∷ n))) (live_new k (get b.live n) (λ r. get b.graves (r ∷ n))) (get a.live q) (get b.live q)
      (new_le k (get a.live n) (get b.live n) (λ r. get a.graves (r ∷ n)) (λ r. get b.graves (r ∷ n)) (h.live n) (λ r. h.graves (r ∷ n))) (h.live q));
  graves = λ q. grave_by (get (undone k n a).graves q) (cond (gone k n q) None (get a.graves q)) (get (undone k n b).graves q) (cond (gone k n q) None (get b.graves q))
      (undone_graves k n a q) (undone_graves k n b q) (grave_cond (gone k n q) (get a.graves q) (get b.graves q) (h.graves q));
  rows = let x = h.rows in let y = undone_rows k n a in let z = undone_rows k n b in omega (arith, x, y, z);
}

pub all_le : (ss : List Step) (a b : Marks) → AreAtMost a b → AreAtMost (undone_all ss a) (undone_all ss b)
all_le [] a b h = h
all_le (s ∷ ss) a b h = all_le ss (undone s.kind s.name a) (undone s.kind s.name b) (undone_le s.kind s.name a b h)

-- A VERB

abbrev NotDrop : Verb → Type 0
NotDrop Discard = ⊥
NotDrop verb = Unit {0}

row_stays : (f : Row → Outcome × Row) (o : Object) → (p : Object) × ((on_array f (Some o)).1 ≡ Some p)
row_stays f (Array row) = (Array (f row).1, refl)
row_stays f (Table m) = (Table m, refl)
row_stays f (Blob x) = (Blob x, refl)

table_stays : (f : Entries → Outcome × Entries) (o : Object) → (p : Object) × ((on_table f (Some o)).1 ≡ Some p)
table_stays f (Array row) = (Array row, refl)
table_stays f (Table m) = (Table (f m).1, refl)
table_stays f (Blob x) = (Blob x, refl)

blob_stays : (f : List ℕ → Outcome × List ℕ) (o : Object) → (p : Object) × ((on_blob f (Some o)).1 ≡ Some p)
blob_stays f (Array row) = (Array row, refl)
blob_stays f (Table m) = (Table m, refl)
blob_stays f (Blob x) = (Blob (f x).1, refl)

stays_there : (t : Operations) (verb : Verb) (o : Object) → NotDrop verb → (p : Object) × ((on t verb (Some o)).1 ≡ Some p)
stays_there t (MakeArray n) o h = (o, refl)
stays_there t MakeTable o h = (o, refl)
stays_there t MakeBlob o h = (o, refl)
stays_there t Discard o h = absurd h
stays_there t (Push v) o h = row_stays _ o
stays_there t Pop o h = row_stays _ o
stays_there t (Set i v) o h = row_stays _ o
stays_there t (Get i) o h = row_stays _ o
stays_there t Len o h = (o, refl)
stays_there t (Apply i code arg) o h = row_stays _ o
stays_there t (Put k v) o h = table_stays _ o
stays_there t (Del k) o h = table_stays _ o
stays_there t (Find k) o h = table_stays _ o
stays_there t Keys o h = table_stays _ o
stays_there t (Write from bytes) o h = blob_stays _ o
stays_there t (Read from count) o h = blob_stays _ o
stays_there t (Size n) o h = blob_stays _ o
stays_there t (Paint from count code arg) o h = blob_stays _ o

risen_le : (verb : Verb) (done : Bool) (o : Object) (p : ℕ) → p ≤ risen verb done o p
risen_le verb done (Array row) p = omega arith
risen_le verb done (Blob x) p = omega arith
risen_le (Put k v) true (Table m) p = omega arith
risen_le verb done (Table m) p = omega arith

if_idle : (x : Option (List ℕ)) → is_idle (if_there x) ≡ true
if_idle None = refl
if_idle (Some x) = refl

kind_idle : (verb : Verb) (o : Object) (w : Mark) → NotDrop verb → is_idle (kind_by verb (Some o) (Some w)) ≡ true
kind_idle Discard o w h = absurd h
kind_idle (Put k v) (Table m) w h = if_idle (get m k)
kind_idle (Del k) (Table m) w h = if_idle (get m k)
kind_idle verb (Array row) w h = refl
kind_idle verb (Table m) w h = refl
kind_idle verb (Blob x) w h = refl

idle : (k : Kind) (n : List ℕ) (m : Marks) → is_idle k ≡ true → undone k n m ≡ m
idle Stays n m e = refl
idle Made n m e = absurd (cc)
idle (Dropped r) n m e = absurd (cc)
idle Reserves n m e = refl

no_grave : (by : ℕ) (verb : Verb) (n : List ℕ) (o : Object) (w : Mark) (m : Marks) → NotDrop verb → with_grave by verb n (Some o) (Some w) m ≡ m
no_grave by Discard n o w m h = absurd h
no_grave by verb n o w m h = refl

none_grave : (by : ℕ) (verb : Verb) (n : List ℕ) (m : Marks) → with_grave by verb n None None m ≡ m
none_grave by Discard n m = refl
none_grave by verb n m = refl

module _ (t : Operations) (by root : ℕ) (n : List ℕ) (verb : Verb) (m : Marks) where
  -- the marks behind it
  abbrev behind : Option Object → Option Mark → Marks
  behind old w = let r = on t verb old in counted (with_mark (with_grave by verb n old w m) n (marked root verb (is_ok r.0) w r.1))

  behind_live : (old : Option Object) (w : Option Mark) (q : List ℕ) → get (behind old w).live q ≡ cond (bytes_eq n q) (marked root verb (is_ok (on t verb old).0) w (on t verb old).1) (get m.live q)
  behind_live old w q = get_with_mark (with_grave by verb n old w m) n (marked root verb (is_ok (on t verb old).0) w (on t verb old).1) q
      ∙ ap (λ l. cond (bytes_eq n q) (marked root verb (is_ok (on t verb old).0) w (on t verb old).1) (get l q)) (grave_live by verb n old w m)

  behind_graves : (old : Option Object) (w : Option Mark) → (behind old w).graves ≡ (with_grave by verb n old w m).graves
  behind_graves old w = mark_graves (with_grave by verb n old w m) n (marked root verb (is_ok (on t verb old).0) w (on t verb old).1)

  behind_rows : (old : Option Object) (w : Option Mark) → m.rows ≤ (behind old w).rows
  behind_rows old w = let e : (with_mark (with_grave by verb n old w m) n (marked root verb (is_ok (on t verb old).0) w (on t verb old).1)).rows ≡ m.rows = mark_rows (with_grave by verb n old w m) n (marked root verb (is_ok (on t verb old).0) w (on t verb old).1) ∙ grave_rows by verb n old w m in omega (arith, e)

  rows_up : (k : Kind) (old : Option Object) (w : Option Mark) → m.rows ≤ (undone k n (behind old w)).rows
  rows_up k old w = let x = behind_rows old w in let y = undone_rows k n (behind old w) in omega (arith, x, y)

  keeps_mark : (q : List ℕ) (b : Bool) → bytes_eq n q ≡ b → (x : Option Mark) → MarkLe (get m.live n) x → MarkLe (get m.live q) (cond b x (get m.live q))
  keeps_mark q true e x h = subst (λ k. MarkLe (get m.live k) x) (bytes_same n q e) h
  keeps_mark q false e x h = mark_self (get m.live q)

  twice : (b : Bool) (x y z : Option Mark) → cond b x (cond b y z) ≡ cond b x z
  twice true x y z = refl
  twice false x y z = refl

  -- a make
  made_le : get m.live n ≡ None → AreAtMost m (undone Made n (behind None None))
  made_le e = record {
    live = λ q. mark_by (get m.live q) (get m.live q) (get (undone Made n (behind None None)).live q) (cond (bytes_eq n q) None (get m.live q)) refl
        (undone_live Made n (behind None None) q ∙ (ap (cond (bytes_eq n q) None) (behind_live None None q) ∙ twice (bytes_eq n q) None (marked root verb (is_ok (on t verb None).0) None (on t verb None).1) (get m.live q)))
        (keeps_mark q (bytes_eq n q) refl None (subst (λ x. MarkLe x None) (sym e) no_marks));
    graves = λ q. subst (λ x. GraveLe (get m.graves q) x) (sym (ap (λ g. get g q) (behind_graves None None ∙ ap (λ (k : Marks). k.graves) (none_grave by verb n m)))) (grave_self (get m.graves q));
    rows = rows_up Made None None;
  }

  -- a verb that changes an object in its place
  placed_le : (o : Object) (w : Mark) → get m.live n ≡ Some w → NotDrop verb → AreAtMost m (undone (kind_by verb (Some o) (Some w)) n (behind (Some o) (Some w)))
  placed_le o w e h = subst (AreAtMost m) (sym (idle (kind_by verb (Some o) (Some w)) n (behind (Some o) (Some w)) (kind_idle verb o w h))) (record {
    live = λ q. mark_by (get m.live q) (get m.live q) (get (behind (Some o) (Some w)).live q) (cond (bytes_eq n q) (Some (record { root = w.root; peak = risen verb (is_ok (on t verb (Some o)).0) p.0 w.peak })) (get m.live q)) refl
        (behind_live (Some o) (Some w) q ∙ ap (λ x. cond (bytes_eq n q) (marked root verb (is_ok (on t verb (Some o)).0) (Some w) x) (get m.live q)) p.1)
        (keeps_mark q (bytes_eq n q) refl (Some (record { root = w.root; peak = risen verb (is_ok (on t verb (Some o)).0) p.0 w.peak })) (subst (λ x. MarkLe x (Some (record { root = w.root; peak = risen verb (is_ok (on t verb (Some o)).0) p.0 w.peak }))) (sym e) (marks (risen_le verb (is_ok (on t verb (Some o)).0) p.0 w.peak))));
    graves = λ q. subst (λ x. GraveLe (get m.graves q) x) (sym (ap (λ g. get g q) (behind_graves (Some o) (Some w) ∙ ap (λ (k : Marks). k.graves) (no_grave by verb n o w m h)))) (grave_self (get m.graves q));
    rows = behind_rows (Some o) (Some w);
  })
    where
      p : (p : Object) × ((on t verb (Some o)).1 ≡ Some p)
      p = stays_there t verb o h

-- a drop
module _ (t : Operations) (by root : ℕ) (n : List ℕ) (m : Marks) (o : Object) (w : Mark) where
  abbrev grave : Grave
  grave = record { dropper = by; form = form_of o; mark = w }

  abbrev dropped : Marks
  dropped = behind t by root n Discard m (Some o) (Some w)

  grave_at : (q : List ℕ) → get dropped.graves q ≡ cond (bytes_eq (w.root ∷ n) q) (Some grave) (get m.graves q)
  grave_at q = ap (λ g. get g q) (behind_graves t by root n Discard m (Some o) (Some w)) ∙ get_put m.graves (w.root ∷ n) grave q

  grave_there : get dropped.graves (w.root ∷ n) ≡ Some grave
  grave_there = grave_at (w.root ∷ n) ∙ ap (λ b. cond b (Some grave) (get m.graves (w.root ∷ n))) (bytes_self (w.root ∷ n))

  gone_grave : get m.graves (w.root ∷ n) ≡ None → (q : List ℕ) (b : Bool) → bytes_eq (w.root ∷ n) q ≡ b → GraveLe (get m.graves q) (cond b None (cond b (Some grave) (get m.graves q)))
  gone_grave e q true f = subst (λ x. GraveLe x None) (sym (ap (get m.graves) (sym (bytes_same (w.root ∷ n) q f)) ∙ e)) no_graves
  gone_grave e q false f = grave_self (get m.graves q)

  dropped_le : get m.live n ≡ Some w → get m.graves (w.root ∷ n) ≡ None → AreAtMost m (undone (Dropped w.root) n dropped)
  dropped_le e free = record {
    live = λ q. mark_by (get m.live q) (get m.live q) (get (undone (Dropped w.root) n dropped).live q) (cond (bytes_eq n q) (Some w) (get m.live q)) refl
        (undone_live (Dropped w.root) n dropped q
        ∙ (ap (λ g. cond (bytes_eq n q) (lifted (get dropped.live n) g) (get dropped.live q)) grave_there
        ∙ (ap (cond (bytes_eq n q) (Some w)) (behind_live t by root n Discard m (Some o) (Some w) q) ∙ twice t by root n Discard m (bytes_eq n q) (Some w) None (get m.live q))))
        (keeps_mark t by root n Discard m q (bytes_eq n q) refl (Some w) (subst (λ x. MarkLe x (Some w)) (sym e) (mark_self (Some w))));
    graves = λ q. subst (λ x. GraveLe (get m.graves q) x) (sym (undone_graves (Dropped w.root) n dropped q ∙ ap (cond (bytes_eq (w.root ∷ n) q) None) (grave_at q))) (gone_grave free q (bytes_eq (w.root ∷ n) q) refl);
    rows = rows_up t by root n Discard m (Dropped w.root) (Some o) (Some w);
  }

-- A VERB, UNDONE, LEAVES NO LESS
pub did_le : (t : Operations) (by root : ℕ) (n : List ℕ) (verb : Verb) (m : Marks) (old : Option Object) (w : Option Mark) → get m.live n ≡ w → BothThere old w → FreeRoot verb n w m
    → AreAtMost m (undone (kind_by verb old w) n (behind t by root n verb m old w))
did_le t by root n verb m old w e nothing free = made_le t by root n verb m e
did_le t by root n Discard m old w e (both o v) free = dropped_le t by root n m o v e free
did_le t by root n verb m old w e (both o v) free = placed_le t by root n verb m o v e tt

-- WHAT A CRASH WOULD LEAVE has peaks no greater than what it would leave later
pub leads_le : (t : Operations) (first r : RunStock) → Leads t first r → AreAtMost (settled_marks first) (settled_marks r)
leads_le t first r here = at_most_self (settled_marks first)
leads_le t first r (does old transaction at root n verb s h there free) =
    at_most_trans (settled_marks first) (settled_marks old) (settled_marks (did t transaction at root n verb s old)) (leads_le t first old h)
    (all_le old.steps old.marks (undone (kind_by verb (get s n) (get old.marks.live n)) n (marks_after t transaction root n verb (get s n) old.marks))
    (did_le t transaction root n verb old.marks (get s n) (get old.marks.live n) refl there free))
leads_le t first r (undoes m ls rs s h apart) =
    subst (AreAtMost (settled_marks first)) (first_undone ls rs s m apart) (leads_le t first (record { marks = m; steps = ls ++ s ∷ rs }) h)

-- and each of its objects stands, as an object or a tombstone, with the same peak in the run
stands_undone : (k : Kind) (n : List ℕ) (m : Marks) (q : List ℕ) (w : Mark) → Stands (undone k n m) q w → Stands m q w
stands_undone k n m q w (inl h) = live_from (bytes_eq n q) refl (sym (undone_live k n m q) ∙ h)
  where
    raised_from : (r : ℕ) (x : Option Grave) → get m.graves (r ∷ n) ≡ x → n ≡ q → get m.live n ≡ get m.live q → lifted (get m.live n) x ≡ Some w → Stands m q w
    raised_from r None e f g h = inl (sym g ∙ h)
    raised_from r (Some d) e f g h = inr (r, d, ap (λ k. get m.graves (r ∷ k)) (sym f) ∙ e, some_one d.mark w h)

    at_name : (k : Kind) → n ≡ q → live_new k (get m.live n) (λ r. get m.graves (r ∷ n)) ≡ Some w → Stands m q w
    at_name Stays f h = inl (ap (get m.live) (sym f) ∙ h)
    at_name Made f h = absurd (cc)
    at_name (Dropped r) f h = raised_from r (get m.graves (r ∷ n)) refl f (ap (get m.live) f) h
    at_name Reserves f h = inl (ap (get m.live) (sym f) ∙ h)

    live_from : (b : Bool) → bytes_eq n q ≡ b → cond b (live_new k (get m.live n) (λ r. get m.graves (r ∷ n))) (get m.live q) ≡ Some w → Stands m q w
    live_from true e h = at_name k (bytes_same n q e) h
    live_from false e h = inl h
stands_undone k n m q w (inr (r, d, e, f)) = inr (r, d, grave_from (gone k n (r ∷ q)) (sym (undone_graves k n m (r ∷ q)) ∙ e), f)
  where
    grave_from : (b : Bool) → cond b None (get m.graves (r ∷ q)) ≡ Some d → get m.graves (r ∷ q) ≡ Some d
    grave_from true h = absurd (cc)
    grave_from false h = h

pub stands_all : (ss : List Step) (m : Marks) (q : List ℕ) (w : Mark) → Stands (undone_all ss m) q w → Stands m q w
stands_all [] m q w h = h
stands_all (s ∷ ss) m q w h = stands_undone s.kind s.name m q w (stands_all ss (undone s.kind s.name m) q w h)

pub stood : (ss : List Step) (m : Marks) (n : List ℕ) (w : Mark) → get (undone_all ss m).live n ≡ Some w → Stands m n w
stood ss m n w h = stands_all ss m n w (inl h)

-- AN IMAGE OF AN EARLIER MOMENT: each of its objects stands in the run's stock with the same root and no less peak
pub image_at_most : (t : Operations) (first r : RunStock) → Leads t first r → (n : List ℕ) (w : Mark) → get (settled_marks first).live n ≡ Some w → (v : Mark) × Stands r.marks n v × (v.root ≡ w.root) × (w.peak ≤ v.peak)
image_at_most t first r h n w e = go (get (settled_marks r).live n) refl (subst (λ x. MarkLe x (get (settled_marks r).live n)) e ((leads_le t first r h).live n))
  where
    go : (x : Option Mark) → get (settled_marks r).live n ≡ x → MarkLe (Some w) (get (settled_marks r).live n) → (v : Mark) × Stands r.marks n v × (v.root ≡ w.root) × (w.peak ≤ v.peak)
    go x f le = found x f (subst (MarkLe (Some w)) f le)
      where
        found : (x : Option Mark) → get (settled_marks r).live n ≡ x → MarkLe (Some w) x → (v : Mark) × Stands r.marks n v × (v.root ≡ w.root) × (w.peak ≤ v.peak)
        found x f (marks {root} {p} {q} k) = (record { root = root; peak = q }, stands_all r.steps r.marks n (record { root = root; peak = q }) (inl f), refl, k)

-- A RUN THAT IS DONE: where no transaction is live, what a crash leaves has the run's own marks
pub none_live : (r : RunStock) → r.steps ≡ [] → settled_marks r ≡ r.marks
none_live r e = ap (λ ss. undone_all ss r.marks) e
