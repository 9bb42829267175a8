-- A tombstone that is forgotten has freed its cell, and nothing else.
use Rattle.std.proofs.Common.{◌≡◌, ℕ, ◌&&◌, Bool, true, false, List, Option, Some, refl, ap, ◌∙◌}
use Rattle.std.specs.Prelude.{◌||◌}
use Rattle.std.specs.Str.{bytes_eq}
use Rattle.std.proofs.lemmas.Bool.{eq-eqb}
use Rattle.sg_ops.specs.Table.{Table as Operations}
use Rattle.sg_model.specs.Touches.{Part, Cell, same_part, seen}
use Rattle.sg_model.specs.Touches.Part.{Kind, Length, Item, Key, Body, Buried}
use Rattle.sg_model.proofs.Parts.{bytes_self}
use Rattle.sg_recovery.specs.Cells.{setting_of}
use Rattle.sg_recovery.specs.Runs.{DoesFree}
use Rattle.sg_reading.specs.Reading.{Thing, Reading, plain, Slot, slot, shown, at, bared_tomb}
use Rattle.sg_reading.specs.Model.{Ground, model_cells}
use Rattle.sg_reading.specs.Left.{tomb_cell}
use Rattle.sg_reading.proofs.Joins.{is_freed}
use Rattle.sg_before.specs.Forgot.{Forgets}

-- what a slot shows, where the object is the same, and what is buried at the root of the cell
pub shown_same : (s s' : Slot) (p : Part) → s'.thing ≡ s.thing → ((r : ℕ) → p ≡ Buried r → s'.buried r ≡ s.buried r) → shown s' p ≡ shown s p
shown_same s s' Kind th tomb = ap (λ (x : Option Thing). shown (record { thing = x; buried = s.buried }) Kind) th
shown_same s s' Length th tomb = ap (λ (x : Option Thing). shown (record { thing = x; buried = s.buried }) Length) th
shown_same s s' (Item i) th tomb = ap (λ (x : Option Thing). shown (record { thing = x; buried = s.buried }) (Item i)) th
shown_same s s' (Key k) th tomb = ap (λ (x : Option Thing). shown (record { thing = x; buried = s.buried }) (Key k)) th
shown_same s s' Body th tomb = ap (λ (x : Option Thing). shown (record { thing = x; buried = s.buried }) Body) th
shown_same s s' (Buried r) th tomb = λ k. record { sort = seen (plain (th k)) Kind; value = seen (plain (th k)) (Buried r); extra = bared_tomb (tomb r refl k) }

one : (b : Bool) → (b || false) ≡ false → b ≡ false
one true h = h
one false h = refl

both_true : (a b : Bool) → a ≡ true → b ≡ true → (a && b) ≡ true
both_true true b e f = f
both_true false b e f = absurd (cc)

not_both : (b : Bool) → b ≡ true → b ≡ false → ⊥
not_both b e f = cc

-- THE CELL of a forgotten tombstone is all that has changed
pub forgot_freed : (t : Operations) (g : Ground) (name : List ℕ) (root : ℕ) (old new : Reading) → Forgets name root old new → (setting_of (model_cells t g)).Freed (tomb_cell name root) old new
forgot_freed t g name root old new f = (λ c z. go c (one (bytes_eq name c.name && same_part (Buried root) c.part) z), (is_freed t g old name root).1)
  where
    go : (c : Cell) → (bytes_eq name c.name && same_part (Buried root) c.part) ≡ false → at new c ≡ at old c
    go c z = shown_same (slot old c.name) (slot new c.name) c.part (f.things c.name) (λ r e. f.tombs r c.name (λ same.
        not_both (bytes_eq name c.name && same_part (Buried root) c.part)
        (both_true (bytes_eq name c.name) (same_part (Buried root) c.part)
        (ap (bytes_eq name) same.1 ∙ bytes_self name)
        (ap (same_part (Buried root)) (e ∙ ap Buried same.0) ∙ eq-eqb root root refl)) z))

pub forgot_frees : (t : Operations) (g : Ground) (name : List ℕ) (root : ℕ) (x : g.X) (old new : Reading) → g.reading x ≡ Some new → Forgets name root old new → DoesFree (setting_of (model_cells t g)) (tomb_cell name root) x old
forgot_frees t g name root x old new reads f = record { now = new; reads = reads; freed = forgot_freed t g name root old new f }
