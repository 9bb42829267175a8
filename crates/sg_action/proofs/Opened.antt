-- Pages within an open action.
use Rattle.std.proofs.Common.{◌≡◌, ◌≢◌, ℕ, ◌≤◌, ◌==◌, ◌&&◌, ◌||◌, max, Bool, true, false, if◌then◌else◌, List, [], ◌∷◌, Option, Some, None, refl, sym, ap, ◌∙◌, arith, inl, inr}
use Rattle.std.proofs.lemmas.Bool.{cases_eq, cases_Bool}
use Rattle.std.proofs.lemmas.Bool.Decides.{nat_tests}
use Rattle.sg_base.specs.Page.{stored}
use Rattle.sg_ops.specs.Laws.{IsLawful}
use Rattle.sg_ops.specs.Table.{Table}
use Rattle.sg_base.specs.Sheet.{Sheet, HasBytes}
use Rattle.sg_base.specs.Op.{Op, is_format}
use Rattle.sg_base.specs.Op.Op.{Format, Put, Remove, Set, Links, Item, ItemBack}
use Rattle.sg_action.specs.States.{State, Change, Kept, with_one, step_leaf, or_same, made, apply, leaf_stored}
use Rattle.sg_action.specs.States.Change.{Page, Write, Paint}
use Rattle.sg_action.specs.Opened.{formats, in_use, most, IsPageChange, IsOpened, IsBegun}
use Rattle.sg_step.proofs.Sizes.{keeps_bytes}

pub one_here : {A : Type 0} (f : ℕ → A) (n : ℕ) (v : A) → with_one f n v n ≡ v
one_here f n v = let e : (n == n) ≡ true = grind (arith, nat_tests) in rw e refl

pub one_there : {A : Type 0} (f : ℕ → A) (n k : ℕ) (v : A) → k ≢ n → with_one f n v k ≡ f k
one_there f n k v h = let e : (k == n) ≡ false = grind (arith, nat_tests, h) in rw e refl

pub formats_here : (m : ℕ) (op back : Op) → formats (Page m op back) m ≡ is_format op
formats_here m op back = let e : (m == m) ≡ true = grind (arith, nat_tests) in ap (λ (b : Bool). is_format op && b) e ∙ by (is_format op)
  where
    by : (b : Bool) → (b && true) ≡ b
    by true = refl
    by false = refl

pub formats_there : (m n : ℕ) (op back : Op) → n ≢ m → formats (Page m op back) n ≡ false
formats_there m n op back h = let e : (n == m) ≡ false = grind (arith, nat_tests, h) in ap (λ (b : Bool). is_format op && b) e ∙ by (is_format op)
  where
    by : (b : Bool) → (b && false) ≡ false
    by true = refl
    by false = refl

pub formatted : (t : Table) (op : Op) (leaf : Option Sheet) → is_format op ≡ true → (p : Sheet) × (step_leaf t op leaf ≡ Some p) × (p.slots ≡ []) × HasBytes p
formatted t (Format k) None e = (record { kind = k; links = (0, 0); slots = [] }, refl, refl, λ i. tt)
formatted t (Format k) (Some sheet) e = (record { kind = k; links = (0, 0); slots = [] }, refl, refl, λ i. tt)
formatted t (Put slot cell) leaf e = absurd (cc)
formatted t (Remove slot) leaf e = absurd (cc)
formatted t (Set slot cell) leaf e = absurd (cc)
formatted t (Links ab) leaf e = absurd (cc)
formatted t (Item slot code arg) leaf e = absurd (cc)
formatted t (ItemBack slot code arg) leaf e = absurd (cc)

-- the page of a page's record, after it
pub made_here : (t : Table) (x : State) (m : ℕ) (op back : Op) (new : Sheet) → step_leaf t op (x.pages m) ≡ Some new → (apply t x (Page m op back)).pages m ≡ Some new
made_here t x m op back new e = one_here x.pages m (or_same (step_leaf t op (x.pages m)) (x.pages m)) ∙ ap (λ (o : Option Sheet). or_same o (x.pages m)) e

pub made_there : (t : Table) (x : State) (m n : ℕ) (op back : Op) → n ≢ m → (apply t x (Page m op back)).pages n ≡ x.pages n
made_there t x m n op back h = one_there x.pages m n (or_same (step_leaf t op (x.pages m)) (x.pages m)) h

-- which pages are in use after a record
pub use_there : (kept : Kept) (ds : List Change) (m n : ℕ) (op back : Op) → n ≢ m → in_use kept (Page m op back ∷ ds) n ≡ in_use kept ds n
use_there kept ds m n op back h = ap (λ (b : Bool). b || in_use kept ds n) (formats_there m n op back h)

pub use_here : (kept : Kept) (ds : List Change) (m : ℕ) (op back : Op) → is_format op ≡ false → in_use kept (Page m op back ∷ ds) m ≡ in_use kept ds m
use_here kept ds m op back f = ap (λ (b : Bool). b || in_use kept ds m) (formats_here m op back ∙ f)

pub use_more : (kept : Kept) (ds : List Change) (d : Change) (n : ℕ) → in_use kept ds n ≡ true → in_use kept (d ∷ ds) n ≡ true
use_more kept ds d n e = by (formats d n) (in_use kept ds n) e
  where
    by : (a b : Bool) → b ≡ true → (a || b) ≡ true
    by true b e = refl
    by false b e = e

-- what is the case of a page in use
good_page : (t : Table) → IsLawful t → (kept : Kept) (ds : List Change) (x : State) (m : ℕ) (op back : Op) → IsPageChange t (in_use kept ds m) op back (x.pages m)
    → ((k : ℕ) → in_use kept ds k ≡ true → (p : Sheet) × (x.pages k ≡ Some p) × HasBytes p)
    → (n : ℕ) → in_use kept (Page m op back ∷ ds) n ≡ true → (p : Sheet) × ((apply t x (Page m op back)).pages n ≡ Some p) × HasBytes p
good_page t law kept ds x m op back h before n used = elim (cases_eq n m) [
  | inl same ↦ let g = here in (g.0, ap (λ (k : ℕ). (apply t x (Page m op back)).pages k) same ∙ g.1, g.2)
  | inr other ↦ let g = before n (sym (use_there kept ds m n op back other) ∙ used) in (g.0, made_there t x m n op back other ∙ g.1, g.2)
]
  where
    at_format : is_format op ≡ true → (p : Sheet) × ((apply t x (Page m op back)).pages m ≡ Some p) × HasBytes p
    at_format f = let g = formatted t op (x.pages m) f in (g.0, made_here t x m op back g.0 g.1, g.3)

    at_other : is_format op ≡ false → (p : Sheet) × ((apply t x (Page m op back)).pages m ≡ Some p) × HasBytes p
    at_other f =
        let g = before m (h.changes f) in
        let fit = h.fits f g.0 g.1 in
        let there : step_leaf t op (x.pages m) ≡ Some fit.0 = ap (step_leaf t op) g.1 ∙ fit.1 in
        (fit.0, made_here t x m op back fit.0 there, keeps_bytes t law op g.0 fit.0 g.2 (h.proper f g.0 g.1) fit.1)

    here : (p : Sheet) × ((apply t x (Page m op back)).pages m ≡ Some p) × HasBytes p
    here = elim (cases_Bool (is_format op)) [
      | inl f ↦ at_format f
      | inr f ↦ at_other f
    ]

-- a page in use says something, and its cells are bytes
pub good : (t : Table) → IsLawful t → (kept : Kept) (begin : State) → IsBegun kept begin → (ds : List Change) → IsOpened t kept begin ds → (n : ℕ) → in_use kept ds n ≡ true → (p : Sheet) × ((made t begin ds).pages n ≡ Some p) × HasBytes p
good t law kept begin first [] h n used = first n used
good t law kept begin first (Write b at before after ∷ ds) h n used = good t law kept begin first ds h.0 n used
good t law kept begin first (Paint b at count code position arg before ∷ ds) h n used = good t law kept begin first ds h.0 n used
good t law kept begin first (Page m op back ∷ ds) h n used = good_page t law kept ds (made t begin ds) m op back h.1 (good t law kept begin first ds h.0) n used

-- the most of a page after a record
pub most_formatted : (t : Table) (begin : State) (ds : List Change) (d : Change) (n : ℕ) → formats d n ≡ true → most t begin (d ∷ ds) n ≡ 0
most_formatted t begin ds d n e = ap (λ (b : Bool). if b then 0 else max (most t begin ds n) (leaf_stored ((made t begin (d ∷ ds)).pages n))) e

pub most_changed : (t : Table) (begin : State) (ds : List Change) (d : Change) (n : ℕ) → formats d n ≡ false → most t begin (d ∷ ds) n ≡ max (most t begin ds n) (leaf_stored ((made t begin (d ∷ ds)).pages n))
most_changed t begin ds d n e = ap (λ (b : Bool). if b then 0 else max (most t begin ds n) (leaf_stored ((made t begin (d ∷ ds)).pages n))) e

-- a formatted page has no cells
pub none_formatted : (t : Table) (x : State) (d : Change) (n : ℕ) → formats d n ≡ true → leaf_stored ((apply t x d).pages n) ≡ 0
none_formatted t x (Write b at before after) n e = absurd (cc)
none_formatted t x (Paint b at count code position arg before) n e = absurd (cc)
none_formatted t x (Page m op back) n e = elim (cases_eq n m) [
  | inl same ↦
      let f : is_format op ≡ true = sym (formats_here m op back) ∙ (ap (formats (Page m op back)) (sym same) ∙ e) in
      let g = formatted t op (x.pages m) f in
      ap (λ (k : ℕ). leaf_stored ((apply t x (Page m op back)).pages k)) same ∙ (ap leaf_stored (made_here t x m op back g.0 g.1) ∙ ap stored g.2)
  | inr other ↦ let f : formats (Page m op back) n ≡ false = formats_there m n op back other in absurd (cc)
]

-- the most of a page is at least what it has now
pub most_now : (t : Table) (begin : State) (ds : List Change) (n : ℕ) → leaf_stored ((made t begin ds).pages n) ≤ most t begin ds n
most_now t begin [] n = omega arith
most_now t begin (d ∷ ds) n = elim (cases_Bool (formats d n)) [
  | inl f ↦ let z : leaf_stored ((made t begin (d ∷ ds)).pages n) ≡ 0 = none_formatted t (made t begin ds) d n f in let m = most_formatted t begin ds d n f in omega arith
  | inr f ↦ let m = most_changed t begin ds d n f in omega arith
]
