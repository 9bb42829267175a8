-- formats's condition on structures is enough: without a Remove or a Set to fewer bytes a page has only grown.
use Rattle.std.proofs.Common.{◌≡◌, ℕ, ◌≤◌, ◌==◌, ◌&&◌, ◌||◌, max, Bool, true, false, if◌then◌else◌, List, [], ◌∷◌, Some, refl, sym, ap, ◌∙◌, arith, inl, inr}
use Rattle.std.proofs.lemmas.Bool.{cases_eq, cases_Bool}
use Rattle.std.proofs.lemmas.Bool.Decides.{nat_tests}
use Rattle.sg_base.specs.Page.{stored}
use Rattle.sg_ops.specs.Laws.{IsLawful}
use Rattle.sg_ops.specs.Table.{Table}
use Rattle.sg_base.specs.Sheet.{Sheet}
use Rattle.sg_base.specs.Op.{Op, is_format, opens, shrinks}
use Rattle.sg_action.specs.States.{State, Change, Kept, step_leaf, made, leaf_stored}
use Rattle.sg_action.specs.States.Change.{Page, Write, Paint}
use Rattle.sg_action.specs.Opened.{formats, in_use, most, IsOpened, IsBegun, HasGrown, HasPlace, leaf_shrinks, shrinks_at, shrunk}
use Rattle.sg_step.proofs.Sizes.{sizes}
use Rattle.sg_action.proofs.Room.{grown_has_place}
use Rattle.sg_action.proofs.Opened.{formats_here, made_here, made_there, use_there, good, none_formatted, most_formatted, most_changed}

or_parts : (a b : Bool) → (a || b) ≡ false → (a ≡ false) × (b ≡ false)
or_parts true b e = absurd (cc)
or_parts false b e = (refl, e)

-- what isn't shrunk now wasn't before, and this record shrinks nothing
not_shrunk : (t : Table) (begin : State) (ds : List Change) (d : Change) (n : ℕ) → formats d n ≡ false → shrunk t begin (d ∷ ds) n ≡ false → (shrinks_at (made t begin ds) d n ≡ false) × (shrunk t begin ds n ≡ false)
not_shrunk t begin ds d n f s = or_parts (shrinks_at (made t begin ds) d n) (shrunk t begin ds n) (sym (ap (λ (b : Bool). if b then false else shrinks_at (made t begin ds) d n || shrunk t begin ds n) f) ∙ s)

shrinks_here : (x : State) (m : ℕ) (op back : Op) (p : Sheet) → x.pages m ≡ Some p → shrinks_at x (Page m op back) m ≡ false → shrinks op p ≡ false
shrinks_here x m op back p e s =
    let same : (m == m) ≡ true = grind (arith, nat_tests) in
    sym (ap (leaf_shrinks op) e) ∙ (sym (ap (λ (b : Bool). b && leaf_shrinks op (x.pages m)) same) ∙ s)

page_grown : (t : Table) → IsLawful t → (kept : Kept) (begin : State) → IsBegun kept begin → (ds : List Change) (m : ℕ) (op back : Op) → IsOpened t kept begin (Page m op back ∷ ds)
    → ((k : ℕ) → in_use kept ds k ≡ true → shrunk t begin ds k ≡ false → HasGrown (most t begin ds k) ((made t begin ds).pages k))
    → (n : ℕ) → in_use kept (Page m op back ∷ ds) n ≡ true → shrunk t begin (Page m op back ∷ ds) n ≡ false → HasGrown (most t begin (Page m op back ∷ ds) n) ((made t begin (Page m op back ∷ ds)).pages n)
page_grown t law kept begin first ds m op back h before n used s = elim (cases_Bool (formats (Page m op back) n)) [
  | inl f ↦
      let z : leaf_stored ((made t begin (Page m op back ∷ ds)).pages n) ≡ 0 = none_formatted t (made t begin ds) (Page m op back) n f in
      let y : most t begin (Page m op back ∷ ds) n ≡ 0 = most_formatted t begin ds (Page m op back) n f in
      omega arith
  | inr f ↦
      let parts = not_shrunk t begin ds (Page m op back) n f s in
      let more : most t begin (Page m op back ∷ ds) n ≡ max (most t begin ds n) (leaf_stored ((made t begin (Page m op back ∷ ds)).pages n)) = most_changed t begin ds (Page m op back) n f in
      elim (cases_eq n m) [
        | inl same ↦
            let plain : is_format op ≡ false = sym (formats_here m op back) ∙ (ap (formats (Page m op back)) (sym same) ∙ f) in
            let g = good t law kept begin first ds h.0 m (h.1.changes plain) in
            let fit = h.1.fits plain g.0 g.1 in
            let keeps : shrinks op g.0 ≡ false = shrinks_here (made t begin ds) m op back g.0 g.1 (ap (shrinks_at (made t begin ds) (Page m op back)) (sym same) ∙ parts.0) in
            let less : stored g.0.slots ≤ stored fit.0.slots = (sizes t law op g.0 fit.0 plain g.2 (h.1.proper plain g.0 g.1) fit.1).no_less keeps in
            let old : most t begin ds m ≡ leaf_stored ((made t begin ds).pages m) = before m (h.1.changes plain) (ap (shrunk t begin ds) (sym same) ∙ parts.1) in
            let old_n : most t begin ds n ≡ most t begin ds m = ap (most t begin ds) same in
            let was : leaf_stored ((made t begin ds).pages m) ≡ stored g.0.slots = ap leaf_stored g.1 in
            let now : leaf_stored ((made t begin (Page m op back ∷ ds)).pages n) ≡ stored fit.0.slots =
            ap (λ (k : ℕ). leaf_stored ((made t begin (Page m op back ∷ ds)).pages k)) same ∙ ap leaf_stored (made_here t (made t begin ds) m op back fit.0 (ap (step_leaf t op) g.1 ∙ fit.1)) in
            omega arith
        | inr other ↦
            let old : most t begin ds n ≡ leaf_stored ((made t begin ds).pages n) = before n (sym (use_there kept ds m n op back other) ∙ used) parts.1 in
            let same : leaf_stored ((made t begin (Page m op back ∷ ds)).pages n) ≡ leaf_stored ((made t begin ds).pages n) = ap leaf_stored (made_there t (made t begin ds) m n op back other) in
            omega arith
      ]
]

pub grown_unless : (t : Table) → IsLawful t → (kept : Kept) (begin : State) → IsBegun kept begin → (ds : List Change) → IsOpened t kept begin ds → (n : ℕ) → in_use kept ds n ≡ true → shrunk t begin ds n ≡ false
    → HasGrown (most t begin ds n) ((made t begin ds).pages n)
grown_unless t law kept begin first [] h n used s = refl
grown_unless t law kept begin first (Write b at before after ∷ ds) h n used s = let g : most t begin ds n ≡ leaf_stored ((made t begin ds).pages n) = grown_unless t law kept begin first ds h.0 n used s in omega arith
grown_unless t law kept begin first (Paint b at count code position arg before ∷ ds) h n used s = let g : most t begin ds n ≡ leaf_stored ((made t begin ds).pages n) = grown_unless t law kept begin first ds h.0 n used s in omega arith
grown_unless t law kept begin first (Page m op back ∷ ds) h n used s = page_grown t law kept begin first ds m op back h (grown_unless t law kept begin first ds h.0) n used s

-- the simple condition: a slot is opened on a page only where the open action has had no Remove and no Set to fewer bytes there
pub place_unless_shrunk : (t : Table) → IsLawful t → (kept : Kept) (begin : State) → IsBegun kept begin → (ds : List Change) (m : ℕ) (op back : Op) → IsOpened t kept begin (Page m op back ∷ ds)
    → ((p : Sheet) → (made t begin ds).pages m ≡ Some p → opens op p ≡ true → shrunk t begin ds m ≡ false) → HasPlace (most t begin ds m) op ((made t begin ds).pages m)
place_unless_shrunk t law kept begin first ds m op back h simple = λ f p is o.
    let g = grown_unless t law kept begin first ds h.0 m (h.1.changes f) (simple p is o) in
    let fit = h.1.fits f p is in
    grown_has_place t op p fit.0 (most t begin ds m) (g ∙ ap leaf_stored is) fit.1 f p refl o
