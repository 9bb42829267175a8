-- The open action with one change more.
use Rattle.std.proofs.Common.{◌≡◌, ◌≢◌, ℕ, ◌+◌, ◌==◌, ◌≤◌, List, [], ◌∷◌, length, Some, Bool, true, false, not, sym, ap, subst, ◌∙◌, refl, arith, inl, inr}
use Rattle.std.specs.Prelude.{◌&&◌, ◌||◌, if◌then◌else◌, nat_lt, Option, None}
use Rattle.std.proofs.lemmas.Bool.{cases_Bool}
use Rattle.std.proofs.lemmas.Bool.Decides.{nat_tests}
use Rattle.sg_base.specs.Op.{Op, is_format, opens, shrinks}
use Rattle.sg_base.specs.Op.Op.{Format, Put, Remove, Set, Links, Item, ItemBack}
use Rattle.sg_base.specs.Page.{cell_in, cell_size}
use Rattle.sg_base.specs.Sheet.{Sheet}
use Rattle.sg_base.specs.Slots.{cell_bytes}
use Rattle.sg_ops.specs.Steps.{step, inverse, IsProper}
use Rattle.sg_ops.specs.Table.{Table}
use Rattle.sg_action.specs.States.{State, Change, Kept, made}
use Rattle.sg_action.specs.States.Change.{Page, Write, Paint}
use Rattle.sg_action.specs.Opened.{formats, in_use, IsLogged, IsOpened, IsBegun, AreFit, OpensWell, OpenWell, shrunk, shrinks_at, leaf_shrinks}
use Rattle.sg_actions.specs.Acting.{IsWell}
use Rattle.sg_actions.specs.Taken.{is_set, takes_page, takes_band, kept_of, lessens_by, lessens, has_lessened}
use Rattle.sg_actions.specs.View.{MayGive}

-- what is kept is the same, where it is for each page and each band
pub kept_same : (limits : State → ℕ → ℕ) (begin : State) (pages pages' bands bands' : List Bool) (ds ds' : List Change)
    → ((n : ℕ) → (is_set pages' n && not (takes_page ds' n)) ≡ (is_set pages n && not (takes_page ds n)))
    → ((b : ℕ) → (is_set bands' b && not (takes_band ds' b)) ≡ (is_set bands b && not (takes_band ds b)))
    → kept_of limits pages' bands' begin ds' ≡ kept_of limits pages bands begin ds
kept_same limits begin pages pages' bands bands' ds ds' e f = λ j. record { pages = λ n. e n j; bands = λ b. f b j; slots = limits begin }

no_format : (m : ℕ) (op back : Op) (n : ℕ) → is_format op ≡ false → formats (Page m op back) n ≡ false
no_format m op back n plain = ap (λ (b : Bool). b && (n == m)) plain

-- an operation that is no format leaves what is kept
pub kept_changed : (limits : State → ℕ → ℕ) (begin : State) (pages bands : List Bool) (ds : List Change) (m : ℕ) (op back : Op) → is_format op ≡ false
    → kept_of limits pages bands begin (Page m op back ∷ ds) ≡ kept_of limits pages bands begin ds
kept_changed limits begin pages bands ds m op back plain = kept_same limits begin pages pages bands bands ds (Page m op back ∷ ds)
    (λ n. ap (λ (b : Bool). is_set pages n && not (b || takes_page ds n)) (no_format m op back n plain)) (λ b. refl)

or_left : (a b : Bool) → a ≡ true → (a || b) ≡ true
or_left a b e = ap (λ (x : Bool). x || b) e

or_right : (a b : Bool) → b ≡ true → (a || b) ≡ true
or_right true b e = refl
or_right false b e = e

pub kept_in : (kept : Kept) (ds : List Change) (n : ℕ) → kept.pages n ≡ true → in_use kept ds n ≡ true
kept_in kept [] n h = h
kept_in kept (d ∷ ds) n h = or_right (formats d n) (in_use kept ds n) (kept_in kept ds n h)

pub taken_in : (kept : Kept) (ds : List Change) (n : ℕ) → takes_page ds n ≡ true → in_use kept ds n ≡ true
taken_in kept [] n h = absurd (cc)
taken_in kept (d ∷ ds) n h = elim (cases_Bool (formats d n)) [
  | inl f ↦ or_left (formats d n) (in_use kept ds n) f
  | inr f ↦ or_right (formats d n) (in_use kept ds n) (taken_in kept ds n (sym (ap (λ (b : Bool). b || takes_page ds n) f) ∙ h))
]

pub not_in : (kept : Kept) (ds : List Change) (n : ℕ) → kept.pages n ≡ false → takes_page ds n ≡ false → in_use kept ds n ≡ false
not_in kept [] n h k = h
not_in kept (d ∷ ds) n h k = elim (cases_Bool (formats d n)) [
  | inl f ↦ absurd (let e : takes_page (d ∷ ds) n ≡ true = ap (λ (b : Bool). b || takes_page ds n) f in cc)
  | inr f ↦ ap (λ (b : Bool). b || in_use kept ds n) f ∙ not_in kept ds n h (sym (ap (λ (b : Bool). b || takes_page ds n) f) ∙ k)
]

-- a page that is taken is in use
pub set_in_use : (limits : State → ℕ → ℕ) (begin : State) (pages bands : List Bool) (ds : List Change) (n : ℕ) → is_set pages n ≡ true → in_use (kept_of limits pages bands begin ds) ds n ≡ true
set_in_use limits begin pages bands ds n h = elim (cases_Bool (takes_page ds n)) [
  | inl f ↦ taken_in (kept_of limits pages bands begin ds) ds n f
  | inr f ↦ kept_in (kept_of limits pages bands begin ds) ds n (ap (λ (b : Bool). b && not (takes_page ds n)) h ∙ ap not f)
]

same_some : {A : Type 0} (x y : A) → Some x ≡ Some y → x ≡ y
same_some x y h = cc

no : false ≡ true → ⊥
no e = cc

-- a change is logged, by the page as it is now
pub logged_page : (t : Table) (kept : Kept) (begin : State) (ds : List Change) (m : ℕ) (op back : Op) (sheet new : Sheet) → is_format op ≡ false → (made t begin ds).pages m ≡ Some sheet
    → back ≡ inverse op sheet → IsProper t op sheet → step t op sheet ≡ Some new → in_use kept ds m ≡ true → IsLogged t kept ds (made t begin ds) (Page m op back)
logged_page t kept begin ds m op back sheet new plain is holds proper fits used = record {
  takes = λ f. absurd (no (sym plain ∙ f));
  changes = λ f. used;
  holds = λ f p e. holds ∙ ap (inverse op) (sheet_is p e);
  proper = λ f p e. subst (λ (s : Sheet). IsProper t op s) (sheet_is p e) proper;
  fits = λ f p e. (new, ap (step t op) (sym (sheet_is p e)) ∙ fits);
}
  where
    sheet_is : (p : Sheet) → (made t begin ds).pages m ≡ Some p → sheet ≡ p
    sheet_is p e = same_some sheet p (sym is ∙ e)

pub both : (a b : Bool) → b ≡ false → (a && b) ≡ false
both true b e = e
both false b e = refl

-- WHAT AN ACTION HAS MADE LESS, by the bytes that its changes found: with less bytes in its cells a page is so by any table

cell_long : (c : Option (List ℕ)) → length (cell_bytes c) ≡ cell_size c
cell_long None = refl
cell_long (Some cell) = refl

lessens_is : (op : Op) (sheet : Sheet) → lessens_by op (inverse op sheet) ≡ shrinks op sheet
lessens_is (Format kind) sheet = refl
lessens_is (Put slot bytes) sheet = refl
lessens_is (Remove slot) sheet = refl
lessens_is (Set slot bytes) sheet = ap (nat_lt (length bytes)) (cell_long (cell_in sheet.slots slot))
lessens_is (Links links) sheet = refl
lessens_is (Item slot code arg) sheet = refl
lessens_is (ItemBack slot code arg) sheet = refl

-- where its inverse is known
pub lessens_back : (op back : Op) (sheet : Sheet) → back ≡ inverse op sheet → shrinks op sheet ≡ false → lessens_by op back ≡ false
lessens_back op back sheet is none = ap (lessens_by op) is ∙ (lessens_is op sheet ∙ none)

or_first : (a b : Bool) → (a || b) ≡ false → a ≡ false
or_first true b e = e
or_first false b e = refl

or_second : (a b : Bool) → (a || b) ≡ false → b ≡ false
or_second true b e = absurd (cc)
or_second false b e = e

shrinks_of : (t : Table) (kept : Kept) (ds : List Change) (x : State) (m : ℕ) (op back : Op) (n : ℕ) → IsLogged t kept ds x (Page m op back) → formats (Page m op back) n ≡ false → lessens (Page m op back) n ≡ false → shrinks_at x (Page m op back) n ≡ false
shrinks_of t kept ds x m op back n l plain less = by_test (n == m) refl
  where
    by_leaf : is_format op ≡ false → lessens_by op back ≡ false → (leaf : Option Sheet) → x.pages m ≡ leaf → leaf_shrinks op leaf ≡ false
    by_leaf f k None e = refl
    by_leaf f k (Some sheet) e = sym (lessens_is op sheet) ∙ (sym (ap (lessens_by op) (l.holds f sheet e)) ∙ k)

    first_of : (a b : Bool) → b ≡ true → (a && b) ≡ false → a ≡ false
    first_of true b e f = sym e ∙ f
    first_of false b e f = refl

    second_of : (a b : Bool) → a ≡ true → (a && b) ≡ false → b ≡ false
    second_of true b e f = f
    second_of false b e f = absurd (cc)

    by_test : (b : Bool) → (n == m) ≡ b → shrinks_at x (Page m op back) n ≡ false
    by_test false e = ap (λ (b : Bool). b && leaf_shrinks op (x.pages m)) e
    by_test true e = both (n == m) (leaf_shrinks op (x.pages m)) (by_leaf (first_of (is_format op) (n == m) e plain) (second_of (n == m) (lessens_by op back) e less) (x.pages m) refl)

shrinks_by_any : (t : Table) (kept : Kept) (ds : List Change) (x : State) (d : Change) (n : ℕ) → IsLogged t kept ds x d → formats d n ≡ false → lessens d n ≡ false → shrinks_at x d n ≡ false
shrinks_by_any t kept ds x (Page m op back) n l plain less = shrinks_of t kept ds x m op back n l plain less
shrinks_by_any t kept ds x (Write b at before after) n l plain less = refl
shrinks_by_any t kept ds x (Paint b at count code position arg before) n l plain less = refl

not_shrunk_more : (t : Table) (kept : Kept) (begin : State) (ds : List Change) (d : Change) (n : ℕ) (b : Bool) → formats d n ≡ b → IsLogged t kept ds (made t begin ds) d → (has_lessened ds n ≡ false → shrunk t begin ds n ≡ false) → has_lessened (d ∷ ds) n ≡ false → shrunk t begin (d ∷ ds) n ≡ false
not_shrunk_more t kept begin ds d n true e l rest h = ap (λ (b : Bool). if b then false else shrinks_at (made t begin ds) d n || shrunk t begin ds n) e
not_shrunk_more t kept begin ds d n false e l rest h =
    let h' : (lessens d n || has_lessened ds n) ≡ false = sym (ap (λ (b : Bool). if b then false else lessens d n || has_lessened ds n) e) ∙ h in
    let here = shrinks_by_any t kept ds (made t begin ds) d n l e (or_first (lessens d n) (has_lessened ds n) h') in
    ap (λ (b : Bool). if b then false else shrinks_at (made t begin ds) d n || shrunk t begin ds n) e
    ∙ (ap (λ (b : Bool). b || shrunk t begin ds n) here ∙ rest (or_second (lessens d n) (has_lessened ds n) h'))

pub not_shrunk : (t : Table) (kept : Kept) (begin : State) (ds : List Change) (n : ℕ) → IsOpened t kept begin ds → has_lessened ds n ≡ false → shrunk t begin ds n ≡ false
not_shrunk t kept begin [] n o h = refl
not_shrunk t kept begin (d ∷ ds) n o h = not_shrunk_more t kept begin ds d n (formats d n) refl o.1 (not_shrunk t kept begin ds n o.0) h

-- and opens its slot well, where the action may
pub opens_page : (t : Table) (kept : Kept) (begin : State) (ds : List Change) (m : ℕ) (op back : Op) (sheet : Sheet) → (made t begin ds).pages m ≡ Some sheet → IsOpened t kept begin ds
    → (opens op sheet ≡ true → MayGive kept ds m (length sheet.slots + 1)) → OpensWell t kept begin ds (Page m op back)
opens_page t kept begin ds m op back sheet is o may plain p e opened =
    let same : sheet ≡ p = same_some sheet p (sym is ∙ e) in
    let given : MayGive kept ds m (length p.slots + 1) = subst (λ (s : Sheet). opens op s ≡ true → MayGive kept ds m (length s.slots + 1)) same may opened in
    (not_shrunk t kept begin ds m o given.grown, given.within)

-- THE OPEN ACTION GOES ON with a change of a page
pub goes_on : (t : Table) (limits : State → ℕ → ℕ) (begin : State) (ds : List Change) (pages bands : List Bool) (m : ℕ) (op back : Op) (sheet new : Sheet) → is_format op ≡ false → is_set pages m ≡ true
    → (made t begin ds).pages m ≡ Some sheet → back ≡ inverse op sheet → IsProper t op sheet → step t op sheet ≡ Some new
    → (opens op sheet ≡ true → MayGive (kept_of limits pages bands begin ds) ds m (length sheet.slots + 1))
    → IsWell t limits begin ds pages bands → IsWell t limits begin (Page m op back ∷ ds) pages bands
goes_on t limits begin ds pages bands m op back sheet new plain set is holds proper fits may w =
    let same = kept_changed limits begin pages bands ds m op back plain in
    let old : Kept = kept_of limits pages bands begin ds in
    record {
      begun = subst (λ (k : Kept). IsBegun k begin) (sym same) w.begun;
      fit = subst (λ (k : Kept). AreFit k [] begin) (sym same) w.fit;
      opens = subst (λ (k : Kept). IsOpened t k begin (Page m op back ∷ ds)) (sym same) (w.opens, logged_page t old begin ds m op back sheet new plain is holds proper fits (set_in_use limits begin pages bands ds m set));
      well = subst (λ (k : Kept). OpenWell t k begin (Page m op back ∷ ds)) (sym same) (w.well, opens_page t old begin ds m op back sheet is w.opens may);
      used = λ n h. w.used n (sym (ap (λ (b : Bool). b || takes_page ds n) (no_format m op back n plain)) ∙ h);
    }

-- what the action may still give: a page that the change doesn't make less
pub may_after : (limits : State → ℕ → ℕ) (begin : State) (ds : List Change) (pages bands : List Bool) (m : ℕ) (op back : Op) (q n : ℕ) → is_format op ≡ false → lessens (Page m op back) q ≡ false
    → MayGive (kept_of limits pages bands begin ds) ds q n → MayGive (kept_of limits pages bands begin (Page m op back ∷ ds)) (Page m op back ∷ ds) q n
may_after limits begin ds pages bands m op back q n plain grows may = record {
  grown =
      ap (λ (b : Bool). if b then false else lessens (Page m op back) q || has_lessened ds q) (no_format m op back q plain)
      ∙ (ap (λ (b : Bool). b || has_lessened ds q) grows ∙ may.grown);
  within = subst (λ (k : Kept). k.pages q ≡ true → n ≤ k.slots q) (sym (kept_changed limits begin pages bands ds m op back plain)) may.within;
}

not_equal : (q m : ℕ) → q ≢ m → (q == m) ≡ false
not_equal q m ne = grind (arith, nat_tests, ne)

-- a change makes no other page less
pub lessens_other : (m : ℕ) (op back : Op) (q : ℕ) → q ≢ m → lessens (Page m op back) q ≡ false
lessens_other m op back q ne = let e : (q == m) ≡ false = not_equal q m ne in ap (λ (b : Bool). b && lessens_by op back) e

-- nor its own, where the operation doesn't
pub lessens_none : (m : ℕ) (op back : Op) → lessens_by op back ≡ false → lessens (Page m op back) m ≡ false
lessens_none m op back none = both (m == m) (lessens_by op back) none
