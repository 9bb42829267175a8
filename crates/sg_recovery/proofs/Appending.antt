-- What each kind of record does to what a log stands for.
use Rattle.std.proofs.Common.{◌≡◌, ℕ, Bool, true, false, cond, List, [], ◌∷◌, Option, Some, refl, sym, ap, ◌∙◌, subst}
use Rattle.sg_recovery.specs.Setting.{Setting}
use Rattle.sg_recovery.specs.Log.{Record, Open, Top, Tally, said, is_in, open_not_of, open_up_to, notes_up_to, notes_not_of}
use Rattle.sg_recovery.specs.Log.Record.{Begin, Change, TopEnd, PhysComp, TopVoid, CompEnd, Save, Commit, End}
use Rattle.sg_recovery.specs.Stands.{and_then, redo, settled, all_off, taken_off, undoes, all_undone, stands_at, stands_with}
use Rattle.sg_recovery.specs.Laws.{Laws}
use Rattle.sg_recovery.specs.Keeps.{Keeps, Reverts, top_of, IsDone, HasUndone, IsAside}
use Rattle.sg_recovery.proofs.Basic.{then_some, then_of, cond_true, cond_false}
use Rattle.sg_recovery.proofs.Undoing.{undone_above}

with_open : (s : Setting) (ds es : List (Open s.C)) (ns : List (Top s.C s.N)) (x : s.X) → ds ≡ es → stands_with s ds ns x ≡ stands_with s es ns x
with_open s ds es ns x e = ap (λ (a : List (Open s.C)). stands_with s a ns x) e

with_notes : (s : Setting) (ds : List (Open s.C)) (ns ms : List (Top s.C s.N)) (x : s.X) → ns ≡ ms → stands_with s ds ns x ≡ stands_with s ds ms x
with_notes s ds ns ms x e = ap (λ (a : List (Top s.C s.N)). stands_with s ds a x) e

same_keeps : (s : Setting) (l : ℕ) (r : Record s.C s.N) (k : Tally s.C s.N) (x : s.X) → stands_at s (said l r k) (redo s r x) ≡ stands_at s k x → Keeps s l r k x
same_keeps s l r k x e o is = (o, e ∙ is, refl)

-- begin and save change nothing
pub begin_same : (s : Setting) (l t p : ℕ) (k : Tally s.C s.N) (x : s.X) → stands_at s (said l (Begin t p) k) x ≡ stands_at s k x
begin_same s l t p k x = refl

pub save_same : (s : Setting) (l t p m : ℕ) (k : Tally s.C s.N) (x : s.X) → stands_at s (said l (Save t p m) k) x ≡ stands_at s k x
save_same s l t p m k x = refl

-- a change whose inverse gives the pages back exactly reverts
pub exact_reverts : (s : Setting) (ds : List (Open s.C)) (x : s.X) (d : Open s.C) → taken_off s d.change (s.apply x d.change) ≡ Some x → Reverts s ds x d
exact_reverts s ds x d e = ap (λ (o : Option s.X). and_then (and_then o (all_off s ds)) s.reading) e

-- a change of an open action changes nothing, if it reverts
pub change_same : (s : Setting) (l t p : ℕ) (c : s.C) (k : Tally s.C s.N) (x : s.X) → Reverts s k.opened x (record { lsn = l; transaction = t; change = c })
    → stands_at s (said l (Change t p c) k) (s.apply x c) ≡ stands_at s k x
change_same s l t p c k x h = ap (λ (o : Option s.O). and_then o (all_undone s k.notes)) h

-- where a change could be taken off, that is the state with its inverse applied
taken_is : (s : Setting) (c : s.C) (x y : s.X) → taken_off s c x ≡ Some y → y ≡ s.apply x (s.inverse c)
taken_is s c x y e = by_fit (s.fits x (s.inverse c)) e
  where
    by_fit : (b : Bool) → cond b (Some (s.apply x (s.inverse c))) (Option.None) ≡ Some y → y ≡ s.apply x (s.inverse c)
    by_fit true h = cc
    by_fit false h = absurd (cc)

-- what is read once the rest is taken off
pub phys_comp_settled : (s : Setting) (d : Open s.C) (ds : List (Open s.C)) (x : s.X) (o : s.O) → settled s (d ∷ ds) x ≡ Some o → settled s ds (s.apply x (s.inverse d.change)) ≡ Some o
phys_comp_settled s d ds x o h =
    let b = then_some (all_off s (d ∷ ds) x) s.reading o h in
    let c = then_some (taken_off s d.change x) (all_off s ds) b.0 b.1 in
    then_of (all_off s ds (s.apply x (s.inverse d.change))) s.reading b.0 (subst (λ (z : s.X). all_off s ds z ≡ Some b.0) (taken_is s d.change x c.0 c.1) c.2) ∙ b.2

-- A phys-comp changes nothing: it holds the inverse of the last open change, and its undo-next leaves the others open.
pub phys_comp_same : (s : Setting) (l t p u : ℕ) (d : Open s.C) (ds : List (Open s.C)) (k : Tally s.C s.N) (x : s.X) (o : s.O) → k.opened ≡ d ∷ ds → open_up_to t u (d ∷ ds) ≡ ds
    → stands_at s k x ≡ Some o → stands_at s (said l (PhysComp t p u (s.inverse d.change)) k) (s.apply x (s.inverse d.change)) ≡ Some o
phys_comp_same s l t p u d ds k x o is rest h =
    let y : s.X = s.apply x (s.inverse d.change) in
    let h1 : stands_with s (d ∷ ds) k.notes x ≡ Some o = sym (with_open s k.opened (d ∷ ds) k.notes x is) ∙ h in
    let a = then_some (settled s (d ∷ ds) x) (all_undone s k.notes) o h1 in
    let b = then_some (all_off s (d ∷ ds) x) s.reading a.0 a.1 in
    let c = then_some (taken_off s d.change x) (all_off s ds) b.0 b.1 in
    let at : all_off s ds y ≡ Some b.0 = subst (λ (z : s.X). all_off s ds z ≡ Some b.0) (taken_is s d.change x c.0 c.1) c.2 in
    with_open s (open_up_to t u k.opened) ds k.notes y (ap (open_up_to t u) is ∙ rest)
    ∙ (ap (λ (z : Option s.X). and_then (and_then z s.reading) (all_undone s k.notes)) at ∙ (ap (λ (z : Option s.O). and_then z (all_undone s k.notes)) b.2 ∙ a.2))

-- a top-void changes nothing, once all is taken off
pub top_void_same : (s : Setting) (l t p u : ℕ) (k : Tally s.C s.N) (x : s.X) → open_not_of t k.opened ≡ k.opened → stands_at s (said l (TopVoid t p u) k) x ≡ stands_at s k x
top_void_same s l t p u k x e = with_open s (open_not_of t k.opened) k.opened k.notes x e

-- an end changes nothing, once no note of the transaction stands
pub end_same : (s : Setting) (l t p : ℕ) (k : Tally s.C s.N) (x : s.X) → notes_not_of t k.notes ≡ k.notes → stands_at s (said l (End t p) k) x ≡ stands_at s k x
end_same s l t p k x e = with_notes s k.opened (notes_not_of t k.notes) k.notes x e

-- after a commit the transaction's notes aren't undone
pub commit_with : (s : Setting) (l t p : ℕ) (k : Tally s.C s.N) (x : s.X) → stands_at s (said l (Commit t p) k) x ≡ stands_with s k.opened (notes_not_of t k.notes) x
commit_with s l t p k x = refl

-- A top-end of a transaction that isn't over changes nothing: its note undoes the action.
pub top_end_keeps : (s : Setting) → Laws s → (l t p u : ℕ) (n : s.N) (k : Tally s.C s.N) (x : s.X) → open_not_of t k.opened ≡ [] → is_in t k.live ≡ true
    → ((o : s.O) → settled s k.opened x ≡ Some o → IsDone s (top_of s l t u n k.opened) x o) → Keeps s l (TopEnd t p u n) k x
top_end_keeps s w l t p u n k x alone live done o is =
    let top : Top s.C s.N = top_of s l t u n k.opened in
    let a = then_some (settled s k.opened x) (all_undone s k.notes) o is in
    let d = done a.0 a.1 in
    let b = undone_above s w k.notes a.0 d.back o d.above a.2 in
    let notes : cond (is_in t k.live) (top ∷ k.notes) k.notes ≡ top ∷ k.notes = cond_true (is_in t k.live) (top ∷ k.notes) k.notes live in (
      b.0,
      with_open s (open_not_of t k.opened) [] (cond (is_in t k.live) (top ∷ k.notes) k.notes) x alone ∙ (with_notes s [] (cond (is_in t k.live) (top ∷ k.notes) k.notes) (top ∷ k.notes) x notes
          ∙ (then_of (s.reading x) (all_undone s (top ∷ k.notes)) d.now d.reads ∙ (then_of (undoes s top d.now) (all_undone s k.notes) d.back d.undone ∙ b.1))),
      w.below_objects o b.0 b.2,
    )

-- a top-end of the system changes nothing, if its action left what the notes undo
pub system_keeps : (s : Setting) → (l t p u : ℕ) (n : s.N) (k : Tally s.C s.N) (x : s.X) → open_not_of t k.opened ≡ [] → is_in t k.live ≡ false
    → ((o : s.O) → settled s k.opened x ≡ Some o → IsAside s k.notes x o) → Keeps s l (TopEnd t p u n) k x
system_keeps s l t p u n k x alone live done o is =
    let top : Top s.C s.N = top_of s l t u n k.opened in
    let a = then_some (settled s k.opened x) (all_undone s k.notes) o is in
    let d = done a.0 a.1 in
    let b = d.same o a.2 in
    let notes : cond (is_in t k.live) (top ∷ k.notes) k.notes ≡ k.notes = cond_false (is_in t k.live) (top ∷ k.notes) k.notes live in (
      b.0,
      with_open s (open_not_of t k.opened) [] (cond (is_in t k.live) (top ∷ k.notes) k.notes) x alone ∙ (with_notes s [] (cond (is_in t k.live) (top ∷ k.notes) k.notes) k.notes x notes
          ∙ (then_of (s.reading x) (all_undone s k.notes) d.now d.reads ∙ b.1)),
      b.2,
    )

-- A comp-end of the greatest note changes nothing: its action has undone the note.
pub comp_end_keeps : (s : Setting) → Laws s → (l t p u : ℕ) (n : Top s.C s.N) (rest : List (Top s.C s.N)) (k : Tally s.C s.N) (x : s.X)
    → k.notes ≡ n ∷ rest → notes_up_to t u (n ∷ rest) ≡ rest → open_not_of t k.opened ≡ []
    → ((o : s.O) → settled s k.opened x ≡ Some o → HasUndone s n x o) → Keeps s l (CompEnd t p u) k x
comp_end_keeps s w l t p u n rest k x notes left alone done o is =
    let h1 : stands_with s k.opened (n ∷ rest) x ≡ Some o = sym (with_notes s k.opened k.notes (n ∷ rest) x notes) ∙ is in
    let a = then_some (settled s k.opened x) (all_undone s (n ∷ rest)) o h1 in
    let f = then_some (undoes s n a.0) (all_undone s rest) o a.2 in
    let d = done a.0 a.1 in
    let b = undone_above s w rest f.0 d.now o (d.above f.0 f.1) f.2 in (
      b.0,
      with_open s (open_not_of t k.opened) [] (notes_up_to t u k.notes) x alone ∙ (with_notes s [] (notes_up_to t u k.notes) rest x (ap (notes_up_to t u) notes ∙ left)
          ∙ (then_of (s.reading x) (all_undone s rest) d.now d.reads ∙ b.1)),
      w.below_objects o b.0 b.2,
    )
