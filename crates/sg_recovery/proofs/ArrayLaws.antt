-- One array meets the laws of cells, and so of a setting.
use Rattle.std.proofs.Common.{◌≡◌, ℕ, ◌+◌, ◌-◌, ◌==◌, max, Bool, true, false, cond, ◌||◌, List, [], Some, refl, sym, ap, ◌∙◌, subst}
use Rattle.sg_recovery.specs.ArrayCase.{Cell, Held, Arr, Note1, Verb1, cell, LeHeld, has_cell, unstep1, touched1, strip, reads1, writes1, IsAt1, result1, step1, array_cells}
use Rattle.sg_recovery.specs.ArrayCase.Cell.{Len, Item}
use Rattle.sg_recovery.specs.ArrayCase.Held.{Length, Here, Gone}
use Rattle.sg_recovery.specs.ArrayCase.Note1.{Pushed, Popped, Wrote}
use Rattle.sg_recovery.specs.ArrayCase.Verb1.{Push, Pop, Write, Get}
use Rattle.sg_recovery.specs.Cells.{After, Undone, CellLaws, setting_of}
use Rattle.sg_recovery.specs.Laws.{Laws}
use Rattle.sg_recovery.proofs.Basic.{same_number}
use Rattle.sg_recovery.proofs.ArrayCase.{le_same, le_more, inside_has, same_item, Undone1, push_local, pop_local, write_local}
use Rattle.sg_recovery.proofs.Cells.{cells_laws}

-- as the laws of cells say it
as_undone : (n : Note1) (cs : List ℕ) (o o1 p : Arr) → unstep1 p n cs ≡ unstep1 p n [] → touched1 p n cs ≡ touched1 p n [] → touched1 o n cs ≡ touched1 o n [] → Undone1 n o o1 p → Undone array_cells n cs o o1 p
as_undone n cs o o1 p e f g u = record {
  end = u.end;
  is = e ∙ u.is;
  same = f ∙ (u.same ∙ sym g);
  inner = subst (λ w. (c : Cell) → has_cell w c ≡ true → LeHeld (cell o1 c) (cell u.end c)) (sym g) u.inner;
  exact = subst (λ w. ((c : Cell) → has_cell w c ≡ true → cell p c ≡ cell o c) → (c : Cell) → has_cell w c ≡ true → cell u.end c ≡ cell o1 c) (sym g) u.exact;
  outer = subst (λ w. (c : Cell) → has_cell w c ≡ false → cell u.end c ≡ cell p c) (sym g) u.outer;
}

note_local : (n : Note1) (cs : List ℕ) (o o1 p : Arr) → unstep1 o n cs ≡ Some o1 → ((c : Cell) → has_cell (touched1 o n cs) c ≡ true → LeHeld (cell o c) (cell p c)) → Undone array_cells n cs o o1 p
note_local Pushed cs o o1 p h le = as_undone Pushed cs o o1 p refl refl refl (push_local o o1 p h le)
note_local (Popped v) cs o o1 p h le = as_undone (Popped v) cs o o1 p refl refl refl (pop_local v o o1 p h le)
note_local (Wrote i v) cs o o1 p h le = as_undone (Wrote i v) cs o o1 p refl refl refl (write_local i v o o1 p h le)

-- an array's length in another that has the same in that cell
length_same : (o p : Arr) → cell p Len ≡ cell o Len → (p.len ≡ o.len) × (p.peak ≡ o.peak)
length_same o p h =
    let e : Length p.len p.peak ≡ Length o.len o.peak = h in
    let a : p.len ≡ o.len = cc in
    let b : p.peak ≡ o.peak = cc in
    (a, b)

or_no : (b : Bool) → b ≡ true → (false || b) ≡ true
or_no true e = refl
or_no false e = absurd (cc)

verb_local : (v : Verb1) (o p : Arr) → IsAt1 v o → ((c : Cell) → (reads1 v c || writes1 v c) ≡ true → cell p c ≡ cell o c) → IsAt1 v p × ((c : Cell) → writes1 v c ≡ true → result1 v p c ≡ result1 v o c)
verb_local (Push at v) o p h same =
    let e = length_same o p (same Len refl) in
    (e.0 ∙ h, result e.1)
  where
    result : p.peak ≡ o.peak → (c : Cell) → writes1 (Push at v) c ≡ true → result1 (Push at v) p c ≡ result1 (Push at v) o c
    result e Len z = ap (λ a. Length (at + 1) (max a (at + 1))) e
    result e (Item j) z = refl
verb_local (Pop at) o p h same =
    let e = length_same o p (same Len refl) in
    ((e.0 ∙ h.0, h.1), result e.1)
  where
    result : p.peak ≡ o.peak → (c : Cell) → writes1 (Pop at) c ≡ true → result1 (Pop at) p c ≡ result1 (Pop at) o c
    result e Len z = ap (λ a. Length (at - 1) a) e
    result e (Item j) z = refl
verb_local (Write i v) o p h same =
    (same_item o p i h (subst (λ a. LeHeld (cell o (Item i)) a) (sym (same (Item i) (or_no (i == i) (same_number i)))) (le_same (cell o (Item i)))), λ c z. refl)
verb_local (Get i) o p h same = (tt, λ c z. refl)

strip_le : (a b : Held) → LeHeld a b → strip a ≡ strip b
strip_le (Length l p) b h = sym (ap strip h.1)
strip_le (Here v) b h = sym (ap strip h)
strip_le Gone b h = sym (ap strip h)

-- a test decides what a verb leaves in an item
by_item : (b : Bool) (x y : Held) (now : Held) → (b ≡ true → now ≡ x) → (b ≡ false → now ≡ y) → strip x ≡ x → strip y ≡ strip y → strip now ≡ cond b x (strip y)
by_item true x y now f g e d = ap strip (f refl) ∙ e
by_item false x y now f g e d = ap strip (g refl)

stepped : (v : Verb1) (o p : Arr) → After array_cells v o p → (c : Cell) → strip (cell p c) ≡ step1 (λ c. strip (cell o c)) v c
stepped (Push at v) o p a Len = ap strip (a.1 Len refl)
stepped (Push at v) o p a (Item j) = by_item (j == at) (Here v) (cell o (Item j)) (cell p (Item j)) (a.1 (Item j)) (a.2 (Item j)) refl refl
stepped (Pop at) o p a Len = ap strip (a.1 Len refl)
stepped (Pop at) o p a (Item j) = by_item (j == at - 1) Gone (cell o (Item j)) (cell p (Item j)) (a.1 (Item j)) (a.2 (Item j)) refl refl
stepped (Write i v) o p a Len = ap strip (a.2 Len refl)
stepped (Write i v) o p a (Item j) = by_item (j == i) (Here v) (cell o (Item j)) (cell p (Item j)) (a.1 (Item j)) (a.2 (Item j)) refl refl
stepped (Get i) o p a c = ap strip (a.2 c refl)

every : (f g : Cell → Held) → ((c : Cell) → f c ≡ g c) → f ≡ g
every f g h = λ i. λ c. h c i

pub array_laws : CellLaws array_cells
array_laws = record {
  le_same = λ c. le_same;
  le_trans = λ c. le_more;
  inside_has = inside_has;
  objects_seen = λ o p h. every (λ c. strip (cell o c)) (λ c. strip (cell p c)) (λ c. strip_le (cell o c) (cell p c) (h c refl));
  note_local = note_local;
  verb_local = verb_local;
  verb_step = λ v o p a. every (λ c. strip (cell p c)) (step1 (λ c. strip (cell o c)) v) (stepped v o p a);
}

-- so the commuting of a running store holds for it
pub array_setting : Laws (setting_of array_cells)
array_setting = cells_laws array_cells array_laws
